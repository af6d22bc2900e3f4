-- Laws of what is read of an application's acts: where each came as its lines say, its starts and replies are the fronts of them.
use Rattle.std.proofs.Common.{◌≡◌, ℕ, zero, suc, Bool, true, false, not, List, [], ◌∷◌, ◌++◌, map, drop, refl, sym, ap, ◌∙◌, subst, true≢false, arith, inl, if◌then◌else◌}
use Rattle.of_types.specs.declared.journal.Act.{Act}
use Rattle.of_types.specs.declared.journal.Act.TheVariants.{Stim, Started, Gave, Gone, Took, Ended, Sent, Got, Lost}
use Rattle.of_types.specs.declared.journal.TookWhat.{TookWhat}
use Rattle.app_frames.specs.declared.script.ScriptStep.{ScriptStep}
use Rattle.app_frames.specs.declared.script.ScriptStep.TheVariants.{Bytes}
use Rattle.app_frames.specs.declared.script.StartScript.{StartScript}
use Rattle.app_frames.specs.declared.script.StartScript.TheVariants as start
use Rattle.lego_model.specs.Journal.{Asked, Start, Reply, in_attempts, in_turns, is_event, any_gone, start_of, reply_of}
use Rattle.lego_model.specs.Scripted.{reply_said, start_said, starts_said, replies_said, IsFront, IsStartFront}
use Rattle.lego_model.specs.History.{starts_in, replies_in}
use Rattle.sim_world.specs.Scripts.{steps_of_start, is_refused, given_of}
use Rattle.sim_world.specs.laws.ScriptLaws.{done_bytes-spelled}
use Rattle.script_laws.specs.Ahead.{Ahead, start_ahead, turn_ahead, after, May, Goes, hand, replies_now, StartsSo, RepliesSo, Reads}
use Rattle.script_laws.specs.laws.PieceLaws.{looks_none, looks_took, start_front}
use Rattle.script_laws.specs.Looks.{TakesNothing, Looks, LooksAt}

-- ---- What is read from a place on

nothing_quiet : TakesNothing []
nothing_quiet = record { pieces_is = refl; end_is = λ before. refl }

nothing_looks : (ended : Bool) (left : List ScriptStep) → Looks ended left []
nothing_looks ended left = record { quiet = λ is. nothing_quiet; looked = λ is. looks_none left [] nothing_quiet }

reads_none : (p : Ahead) → Reads p []
reads_none p = record { idle = λ is. refl; none_gone = refl; looks = nothing_looks p.ended p.left; replies = λ more few. tt; starts = λ more few. tt }

-- ---- One line more

reply_next : (lines : List (List ScriptStep)) (t : Reply) (told : List Reply) → IsFront t (reply_said (turn_ahead lines)) → RepliesSo (drop 1 lines) told → RepliesSo lines (t ∷ told)
unfolding replies_said
reply_next (line ∷ lines) t told front rest more few = (front, rest more (omega (arith, few)))
reply_next [] t told front rest zero few = absurd (omega (arith, few))
reply_next [] t told front rest (suc more) few =
    (subst (λ (bytes : List ℕ). IsFront t (reply_said (Bytes bytes ∷ []))) (sym done_bytes-spelled) front, rest more (omega (arith, few)))

start_next : (lines : List StartScript) (t : Start) (told : List Start) → IsStartFront t (start_said (start_ahead lines)) → StartsSo (drop 1 lines) told → StartsSo lines (t ∷ told)
unfolding starts_said
start_next (line ∷ lines) t told front rest more few = (front, rest more (omega (arith, few)))
start_next [] t told front rest zero few = absurd (omega (arith, few))
start_next [] t told front rest (suc more) few = (front, rest more (omega (arith, few)))

-- ---- An attempt

not_false : (b : Bool) → true ≡ not b → b ≡ false
not_false false is = refl
not_false true is = absurd (true≢false is)

pub not_true : (b : Bool) → false ≡ not b → b ≡ true
not_true true is = refl
not_true false is = absurd (true≢false (sym is))

stood_front : (s : StartScript) (acts : List Act) → is_refused s ≡ false → any_gone (in_turns acts).0 ≡ false → LooksAt (steps_of_start s) (in_turns acts).0 → IsStartFront (start_of (record { stands = true; acts = acts })) (start_said s)
unfolding start_of
stood_front s acts stands none looked = start_front s (in_turns acts).0 stands none looked

refused_front : (s : StartScript) → is_refused s ≡ true → IsStartFront (start_of (record { stands = false; acts = [] })) (start_said s)
unfolding start_of start_said
refused_front start.Ready is = absurd (true≢false (sym is))
refused_front start.Refused is = record { stands = refl; restored = refl; front = ([], refl, inl refl) }
refused_front start.Closed is = absurd (true≢false (sym is))
refused_front start.Silent is = absurd (true≢false (sym is))
refused_front start.Garbled is = absurd (true≢false (sym is))

-- it does not run, so an attempt has no acts
idle_front : (s : StartScript) (acts : List Act) → acts ≡ [] → is_refused s ≡ true → IsStartFront (start_of (record { stands = false; acts = acts })) (start_said s)
idle_front s acts none is = subst (λ (xs : List Act). IsStartFront (start_of (record { stands = false; acts = xs })) (start_said s)) (sym none) (refused_front s is)

reads_started : (p : Ahead) (of : ℕ) (acts : List Act) → May (Started of true) p → Reads (after (Started of true) p) acts → Reads p (Started of true ∷ acts)
reads_started p of acts may r = record {
  idle = λ is. refl;
  none_gone = refl;
  looks = nothing_looks p.ended p.left;
  replies = r.replies;
  starts = start_next p.starts (start_of (record { stands = true; acts = (in_attempts acts).0 })) (starts_in acts)
      (stood_front (start_ahead p.starts) (in_attempts acts).0 (not_false (is_refused (start_ahead p.starts)) may.1) r.none_gone (r.looks.looked refl)) r.starts;
}

replies_idle : (acts : List Act) → (in_attempts acts).0 ≡ [] → replies_now acts ≡ replies_in acts
replies_idle acts none = ap (λ (xs : List Act). map reply_of (in_turns xs).1 ++ replies_in acts) none

reads_refused : (p : Ahead) (of : ℕ) (acts : List Act) → May (Started of false) p → Reads (after (Started of false) p) acts → Reads p (Started of false ∷ acts)
reads_refused p of acts may r = record {
  idle = λ is. refl;
  none_gone = refl;
  looks = nothing_looks p.ended p.left;
  replies = subst (RepliesSo p.replies) (replies_idle acts (r.idle refl)) r.replies;
  starts = start_next p.starts (start_of (record { stands = false; acts = (in_attempts acts).0 })) (starts_in acts)
      (idle_front (start_ahead p.starts) (in_attempts acts).0 (r.idle refl) (not_true (is_refused (start_ahead p.starts)) may.1)) r.starts;
}

-- ---- A take

took_looks : (of : ℕ) (what : TookWhat) (p : Ahead) (acts : List Act) → what ≡ given_of 65536 p.left → Looks (after (Took of what) p).ended (after (Took of what) p).left acts → LooksAt p.left (Took of what ∷ acts)
took_looks of what p acts is =
    subst (λ (w : TookWhat). Looks (after (Took of w) p).ended (after (Took of w) p).left acts → LooksAt p.left (Took of w ∷ acts)) (sym is) (looks_took of p.left acts)

reads_took : (p : Ahead) (of : ℕ) (what : TookWhat) (acts : List Act) → May (Took of what) p → Reads (after (Took of what) p) acts → Reads p (Took of what ∷ acts)
reads_took p of what acts may r = record {
  idle = λ is. absurd (true≢false (sym may.0 ∙ is));
  none_gone = r.none_gone;
  looks = record { quiet = λ is. absurd (true≢false (sym is ∙ may.1.0)); looked = λ is. took_looks of what p (hand acts) may.1.1 r.looks };
  replies = r.replies;
  starts = r.starts;
}

-- ---- A turn

turn_front : (steps : List ScriptStep) (acts : List Act) → any_gone acts ≡ false → LooksAt steps acts → IsFront (reply_of (record { given = true; acts = acts })) (reply_said steps)
unfolding reply_of reply_said
turn_front steps acts none looked = record { given = refl; answers = rw none refl; front = looked }

-- an Event begins a turn
reads_event : (p : Ahead) (of : ℕ) (frame : List ℕ) (acts : List Act) → is_event frame ≡ true → May (Gave of frame) p
    → Reads (record p { ended = false; replies = drop 1 p.replies; left = turn_ahead p.replies }) acts → Reads p (Gave of frame ∷ acts)
reads_event p of frame acts event may r =
    let turn : Asked = record { given = true; acts = hand acts } in
    let begins : in_turns (Gave of frame ∷ (in_attempts acts).0) ≡ ([], turn ∷ (in_turns (in_attempts acts).0).1) = rw event refl in
    record {
      idle = λ is. absurd (true≢false (sym may ∙ is));
      none_gone = subst (λ (x : List Act × List Asked). any_gone x.0 ≡ false) (sym begins) refl;
      looks = subst (λ (x : List Act × List Asked). Looks p.ended p.left x.0) (sym begins) (nothing_looks p.ended p.left);
      replies = subst (λ (x : List Act × List Asked). RepliesSo p.replies (map reply_of x.1 ++ replies_in acts)) (sym begins)
          (reply_next p.replies (reply_of turn) (replies_now acts) (turn_front (turn_ahead p.replies) (hand acts) r.none_gone (r.looks.looked refl)) r.replies);
      starts = r.starts;
    }

-- another frame does not
reads_frame : (p : Ahead) (of : ℕ) (frame : List ℕ) (acts : List Act) → is_event frame ≡ false → May (Gave of frame) p → Reads p acts → Reads p (Gave of frame ∷ acts)
reads_frame p of frame acts event may r =
    let goes_on : in_turns (Gave of frame ∷ (in_attempts acts).0) ≡ (Gave of frame ∷ hand acts, (in_turns (in_attempts acts).0).1) = rw event refl in
    record {
      idle = λ is. absurd (true≢false (sym may ∙ is));
      none_gone = subst (λ (x : List Act × List Asked). any_gone x.0 ≡ false) (sym goes_on) r.none_gone;
      looks = subst (λ (x : List Act × List Asked). Looks p.ended p.left x.0) (sym goes_on) (given_looks r.looks);
      replies = subst (λ (x : List Act × List Asked). RepliesSo p.replies (map reply_of x.1 ++ replies_in acts)) (sym goes_on) r.replies;
      starts = r.starts;
    }
  where
    given_quiet : TakesNothing (hand acts) → TakesNothing (Gave of frame ∷ hand acts)
    given_quiet q = record { pieces_is = q.pieces_is; end_is = q.end_is }

    given_looks : Looks p.ended p.left (hand acts) → Looks p.ended p.left (Gave of frame ∷ hand acts)
    given_looks l = record { quiet = λ is. given_quiet (l.quiet is); looked = l.looked }

reads_gave : (p : Ahead) (of : ℕ) (frame : List ℕ) (acts : List Act) → May (Gave of frame) p → Reads (after (Gave of frame) p) acts → Reads p (Gave of frame ∷ acts)
reads_gave p of frame acts may = elim (is_event frame) as (λ (b : Bool). is_event frame ≡ b
    → Reads (if b then record p { ended = false; replies = drop 1 p.replies; left = turn_ahead p.replies } else p) acts → Reads p (Gave of frame ∷ acts)) [
      | true ↦ λ t r. reads_event p of frame acts t may r
      | false ↦ λ t r. reads_frame p of frame acts t may r
    ] refl

-- ---- An end

reads_ended : (p : Ahead) (of : ℕ) (acts : List Act) → May (Ended of) p → Reads (after (Ended of) p) acts → Reads p (Ended of ∷ acts)
reads_ended p of acts may r =
    let none : hand acts ≡ [] = ap (λ (xs : List Act). (in_turns xs).0) (r.idle refl) in
    let quiet : TakesNothing (Ended of ∷ hand acts) = subst (λ (xs : List Act). TakesNothing (Ended of ∷ xs)) (sym none) (record { pieces_is = refl; end_is = λ before. refl }) in
    record {
      idle = λ is. absurd (true≢false (sym may ∙ is));
      none_gone = r.none_gone;
      looks = record { quiet = λ is. quiet; looked = λ is. looks_none p.left (Ended of ∷ hand acts) quiet };
      replies = r.replies;
      starts = r.starts;
    }

-- ---- All

reads_act : (p : Ahead) (act : Act) (acts : List Act) → May act p → Reads (after act p) acts → Reads p (act ∷ acts)
reads_act p (Started of true) acts may r = reads_started p of acts may r
reads_act p (Started of false) acts may r = reads_refused p of acts may r
reads_act p (Took of what) acts may r = reads_took p of what acts may r
reads_act p (Gave of frame) acts may r = reads_gave p of frame acts may r
reads_act p (Ended of) acts may r = reads_ended p of acts may r
reads_act p (Gone of frame) acts may r = absurd may
reads_act p (Stim x) acts may r = absurd may
reads_act p (Sent d bytes) acts may r = absurd may
reads_act p (Got d bytes) acts may r = absurd may
reads_act p (Lost d) acts may r = absurd may

pub reads : (p : Ahead) (acts : List Act) → Goes p acts → Reads p acts
reads p [] goes = reads_none p
reads p (act ∷ acts) goes = reads_act p act acts goes.0 (reads (after act p) acts goes.1)

-- from a place where it does not run, all replies are behind
pub replies_all : (p : Ahead) (acts : List Act) → p.running ≡ false → Reads p acts → RepliesSo p.replies (replies_in acts)
replies_all p acts stopped r = subst (RepliesSo p.replies) (replies_idle acts (r.idle stopped)) r.replies
