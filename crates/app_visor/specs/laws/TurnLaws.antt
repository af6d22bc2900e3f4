-- Laws of turns: each kind of beat is one step of the definition, and each ending is one of its endings.
use Rattle.std.specs.Prelude.{◌≡◌, ℕ, zero, suc, ◌==◌, Bool, true, false, ◌||◌, List, [], ◌∷◌, ◌++◌, length, filter, map, Option, Some, None, refl}
use Rattle.std.proofs.Common.{sym, ap, ◌∙◌, subst, true≢false, arith}
use Rattle.std.proofs.lemmas.Bool.{ne_eqb}
use Rattle.of_types.specs.declared.journal.Act.{Act}
use Rattle.of_types.specs.declared.journal.Act.TheVariants.{Gave, Gone, Took}
use Rattle.of_types.specs.declared.journal.TookWhat.TheVariants as took
use Rattle.flow_table.specs.View.{TableView}
use Rattle.app_frames.specs.declared.frame.AppFrame.{AppFrame}
use Rattle.app_frames.specs.declared.frame.AppFrame.TheVariants as frames
use Rattle.app_frames.specs.declared.frame.Answer.{Answer}
use Rattle.app_frames.specs.Frames.{AppFits}
use Rattle.app_frames.specs.declared.fault.FrameFault.{FrameFault}
use Rattle.app_frames.specs.declared.cause.Cause.TheVariants as causes
use Rattle.lego_model.specs.Journal.{End, Untold, Closes, Stalls, pieces, end_from, any_gone, gave, answers_given, inputs}
use Rattle.lego_model.specs.Turns.{Next, Framed, Faulty, Over, Outcome, Completed, Failed, Played, told_to, answered, is_none_left, one_fewer, next_of, turn_from}
use Rattle.lego_model.specs.Scripted.{is_told, settles}
use Rattle.lego_model.specs.Controller.{answer_frame}
use Rattle.outside.specs.Seen.{Seen}
use Rattle.journal_laws.specs.Readings.{is_within, Within}
use Rattle.journal_laws.specs.laws.ReadingLaws.{Within-append}
use Rattle.journal_laws.specs.laws.FrameLaws.{answer_is_none}
use Rattle.lego_model.specs.AtOnce.{before, took_end, Passes}
use Rattle.journal_laws.specs.laws.AtOnceLaws.{sends_none_both}
use Rattle.net_txn.specs.Net.{NetState}
use Rattle.app_visor.specs.declared.came.Came.{Came}
use Rattle.app_visor.specs.declared.came.Came.TheVariants as comes
use Rattle.app_visor.specs.declared.play_end.PlayEnd.{PlayEnd}
use Rattle.app_visor.specs.declared.play_end.PlayEnd.TheVariants as plays
use Rattle.app_visor.specs.Reads.{takes, Taken, IsNext, CameSo, Comes}
use Rattle.app_visor.specs.laws.ReadLaws.{next_taken, next_framed, next_faulty, next_over, pieces_takes, end_takes, gone_takes, gave_takes, inputs_takes, within_takes}
use Rattle.app_visor.specs.Beats.{Exchange, Talk, Asks, acts_in, exchanges_in, exchange_of, Exchanges, Leads}
use Rattle.app_visor.specs.laws.BeatLaws.{same, Chain-append, talks, takes_chain, acts_talks, exchanges_talks}
use Rattle.app_visor.specs.Dialogues.{is_done}
use Rattle.app_visor.specs.laws.DialogueLaws.{passes_next, Converses-refl, Converses-then, converses_told, converses_takes, takes_send_none, converses_answered, converses_unanswered}
use Rattle.app_visor.specs.Turns.{same_bytes, Asking, oracle, played_is, IsShort, IsPlayEnd, turn_end, played_by, heard_by, TurnsFrom, cause_of, Goes, EndsSo, Plays, done_as}

-- ---- Pieces taken

played_taken : {Own : Type 0} (judged : Bool) (app left : ℕ) (rest here : List ℕ) (ps : List (List ℕ)) (acts : List Act) (xs : List (Exchange Own)) → next_of rest (ps ++ pieces acts) ≡ next_of here (pieces acts)
    → played_by judged left rest (takes app ps ++ acts) xs ≡ played_by judged left here acts xs
played_taken judged app left rest here ps acts xs next =
    let n : next_of rest (pieces (takes app ps ++ acts)) ≡ next_of here (pieces acts) = ap (λ (x : List (List ℕ)). next_of rest x) (pieces_takes app ps acts) ∙ next in
    rw (gone_takes app ps acts, gave_takes app ps acts, end_takes app ps acts, n) refl

heard_taken : (app left : ℕ) (rest here : List ℕ) (ps : List (List ℕ)) (acts : List Act) → next_of rest (ps ++ pieces acts) ≡ next_of here (pieces acts) → heard_by left rest (takes app ps ++ acts) ≡ heard_by left here acts
heard_taken app left rest here ps acts next =
    let n : next_of rest (pieces (takes app ps ++ acts)) ≡ next_of here (pieces acts) = ap (λ (x : List (List ℕ)). next_of rest x) (pieces_takes app ps acts) ∙ next in
    rw (gone_takes app ps acts, gave_takes app ps acts, end_takes app ps acts, n) refl

pub turn_taken : {Own : Type 0} {Tells : Type 0} {accepts : List TableView → Bool} {app left : ℕ} {rest here unread : List ℕ} {old mid new : Seen Own} {net now_net : NetState} {end : PlayEnd} → Taken Tells app rest here old mid
    → TurnsFrom Tells accepts app left here mid new net now_net end unread → TurnsFrom Tells accepts app left rest old new net now_net end unread
turn_taken {Own = Own} {Tells = Tells} {accepts = accepts} {app = app} {left = left} {rest = rest} {here = here} {old = old} {mid = mid} {new = new} {net = net} {now_net = now_net} taken t =
    let ps = taken.pieces in
    let judged = accepts now_net.views in
    record {
      trace = talks Own (takes app ps) ++ t.trace;
      chain = Chain-append Tells app (talks Own (takes app ps)) t.trace old mid new net net now_net (takes_chain Tells app ps rest here old mid net taken.all) t.chain;
      answers = t.answers;
      outcome = t.outcome;
      played = ap (λ (acts : List Act). played_by judged left rest acts (exchanges_in (talks Own (takes app ps) ++ t.trace))) (acts_talks Own (takes app ps) t.trace)
          ∙ ap (λ (xs : List (Exchange Own)). played_by judged left rest (takes app ps ++ acts_in t.trace) xs) (exchanges_talks Own (takes app ps) t.trace)
          ∙ played_taken judged app left rest here ps (acts_in t.trace) (exchanges_in t.trace) (next_taken (pieces (acts_in t.trace)) taken)
          ∙ t.played;
      ends = t.ends;
      given = ap (λ (acts : List Act). inputs app acts) (acts_talks Own (takes app ps) t.trace) ∙ inputs_takes app ps (acts_in t.trace) ∙ t.given;
      heard = ap (λ (acts : List Act). heard_by left rest acts) (acts_talks Own (takes app ps) t.trace) ∙ heard_taken app left rest here ps (acts_in t.trace) (next_taken (pieces (acts_in t.trace)) taken) ∙ t.heard;
      within = subst (Within app) (sym (acts_talks Own (takes app ps) t.trace)) (Within-append app (takes app ps) (acts_in t.trace) (within_takes app ps) t.within);
      speaks = λ tells since none.
          let acts = since ++ takes app ps in
          let later = t.speaks tells acts (sends_none_both since (takes app ps) none (takes_send_none app ps)) in
          record {
            after = later.after;
            converses = Converses-then app (before rest since) (before here acts) later.after old mid new (converses_takes Tells app ps rest here since old mid taken.all tells) later.converses;
            runs = later.runs;
            passes = later.passes;
          };
    }

-- ---- A message

-- it begins no turn that the application is given an answer, or cannot be
within_gave : (app : ℕ) (answer : Answer) → is_within app (Gave app (answer_frame answer)) ≡ true
within_gave app answer = rw (same app, answer_is_none answer) refl

within_gone : (app : ℕ) (answer : Answer) → is_within app (Gone app (answer_frame answer)) ≡ true
within_gone app answer = rw (same app, answer_is_none answer) refl

same_bytes_refl : (bytes : List ℕ) → same_bytes bytes bytes ≡ true
same_bytes_refl [] = refl
same_bytes_refl (b ∷ bytes) = rw (same b) (same_bytes_refl bytes)

turn_message : {Own : Type 0} (judged : Bool) (left : ℕ) (answers : Option ℕ) (end : End) (x : Exchange Own) (xs : List (Exchange Own)) (rest : List ℕ) (ps : List (List ℕ))
    → turn_from (oracle judged) (suc left) answers end [] (Some (x ∷ xs)) (Framed (frames.Message x.dpid x.bytes) rest ps)
    ≡ told_to (is_none_left answers) (x.answer, Some xs) (turn_from (oracle judged) left (one_fewer answers) end [] (Some xs) (next_of rest ps))
unfolding turn_from oracle
turn_message judged left answers end x xs rest ps = rw (same x.dpid, same_bytes_refl x.bytes) refl

some_left : (n : ℕ) → (suc n == 0) ≡ false
some_left n = ne_eqb (suc n) 0 (λ e. absurd (omega arith))

none_left_gave : (app : ℕ) (frame : List ℕ) (acts : List Act) (gone : Bool) → any_gone acts ≡ gone → is_none_left (answers_given (Gave app frame ∷ acts)) ≡ false
none_left_gave app frame acts true is = rw is (some_left (length (filter gave acts)))
none_left_gave app frame acts false is = rw is refl

one_fewer_gave : (app : ℕ) (frame : List ℕ) (acts : List Act) (gone : Bool) → any_gone acts ≡ gone → one_fewer (answers_given (Gave app frame ∷ acts)) ≡ answers_given acts
one_fewer_gave app frame acts true is = rw is refl
one_fewer_gave app frame acts false is = rw is refl

exchanged_played : {Own : Type 0} (judged : Bool) (app left : ℕ) (rest here frame : List ℕ) (x : Exchange Own) (acts : List Act) (xs : List (Exchange Own)) (answers : List Answer) (outcome : Outcome)
    → IsNext (frames.Message x.dpid x.bytes) rest here → played_by judged left here acts xs ≡ played_is answers outcome
    → played_by judged (suc left) rest (Gave app frame ∷ acts) (x ∷ xs) ≡ played_is (x.answer ∷ answers) outcome
exchanged_played {Own = Own} judged app left rest here frame x acts xs answers outcome next then_is =
    let given = answers_given (Gave app frame ∷ acts) in
    let end = end_from Untold acts in
    let ps = pieces acts in
    let later = turn_from (oracle judged) left (one_fewer given) end [] (Some xs) (next_of here ps) in
    ap (λ (n : Next). turn_from (oracle judged) (suc left) given end [] (Some (x ∷ xs)) n) (next_framed (frames.Message x.dpid x.bytes) rest here ps next)
    ∙ turn_message judged left given end x xs here ps
    ∙ ap (λ (b : Bool). told_to b (x.answer, Some xs) later) (none_left_gave app frame acts (any_gone acts) refl)
    ∙ ap (λ (a : Option ℕ). answered x.answer (turn_from (oracle judged) left a end [] (Some xs) (next_of here ps))) (one_fewer_gave app frame acts (any_gone acts) refl)
    ∙ ap (λ (p : Played (Asking Own)). answered x.answer p) then_is

heard_message : (told : Bool) (left : ℕ) (answers : Option ℕ) (dpid : ℕ) (bytes rest : List ℕ) (ps : List (List ℕ))
    → (told || settles (suc left) 0 answers (Framed (frames.Message dpid bytes) rest ps)) ≡ (told || (is_none_left answers || settles left 0 (one_fewer answers) (next_of rest ps)))
unfolding settles
heard_message told left answers dpid bytes rest ps = refl

exchanged_heard : (app left dpid : ℕ) (bytes rest here frame : List ℕ) (acts : List Act) → IsNext (frames.Message dpid bytes) rest here → heard_by left here acts ≡ true → heard_by (suc left) rest (Gave app frame ∷ acts) ≡ true
exchanged_heard app left dpid bytes rest here frame acts next then_is =
    let given = answers_given (Gave app frame ∷ acts) in
    let told = is_told (end_from Untold acts) in
    let ps = pieces acts in
    ap (λ (n : Next). told || settles (suc left) 0 given n) (next_framed (frames.Message dpid bytes) rest here ps next)
    ∙ heard_message told left given dpid bytes here ps
    ∙ ap (λ (b : Bool). told || (b || settles left 0 (one_fewer given) (next_of here ps))) (none_left_gave app frame acts (any_gone acts) refl)
    ∙ ap (λ (a : Option ℕ). told || settles left 0 a (next_of here ps)) (one_fewer_gave app frame acts (any_gone acts) refl)
    ∙ then_is

pub given_more : (app : ℕ) (frame : List ℕ) (acts : List Act) (frames : List (List ℕ)) → inputs app acts ≡ frames → inputs app (Gave app frame ∷ acts) ≡ frame ∷ frames
unfolding inputs
given_more app frame acts frames is = rw (same app) (ap (λ (x : List (List ℕ)). frame ∷ x) is)

pub goes_answered : {Own : Type 0} (Tells : Type 0) (accepts : List TableView → Bool) (app dpid : ℕ) (bytes rest here : List ℕ) (old mid : Seen Own) (net mid_net : NetState) → IsNext (frames.Message dpid bytes) rest here
    → Exchanges Tells app dpid bytes true old mid net mid_net → Goes Tells accepts app rest here old mid net mid_net
goes_answered Tells accepts app dpid bytes rest here old mid net mid_net next e = record {
  on = λ left new now_net end unread t.
      let x = exchange_of dpid bytes e.answer old e.after net mid_net in
      record {
        trace = Asks x ∷ (Talk (Gave app (answer_frame e.answer)) ∷ t.trace);
        chain = ((refl, refl), (e.exchange, (same app, (mid, (e.told, t.chain)))));
        answers = e.answer ∷ t.answers;
        outcome = t.outcome;
        played = exchanged_played (accepts now_net.views) app left rest here (answer_frame e.answer) x (acts_in t.trace) (exchanges_in t.trace) t.answers t.outcome next t.played;
        ends = t.ends;
        given = given_more app (answer_frame e.answer) (acts_in t.trace) (map answer_frame t.answers) t.given;
        heard = exchanged_heard app left dpid bytes rest here (answer_frame e.answer) (acts_in t.trace) next t.heard;
        within = (within_gave app e.answer, t.within);
        speaks = λ tells since none.
            let later = t.speaks tells [] refl in
            record {
              after = later.after;
              converses = Converses-then app (before rest since) (before here []) later.after old mid new (converses_answered Tells app dpid bytes rest here since old mid net mid_net next e tells none) later.converses;
              runs = later.runs;
              passes = later.passes;
            };
      };
  speaks = λ tells since none. converses_answered Tells app dpid bytes rest here since old mid net mid_net next e tells none;
}

pub given_none : (app : ℕ) (frame : List ℕ) → inputs app (Gone app frame ∷ []) ≡ []
unfolding inputs
given_none app frame = refl

unanswered_played : {Own : Type 0} (judged : Bool) (app left : ℕ) (rest here frame : List ℕ) (x : Exchange Own) → IsNext (frames.Message x.dpid x.bytes) rest here
    → played_by judged (suc left) rest (Gone app frame ∷ []) (x ∷ []) ≡ played_is [] (Failed causes.Closed)
unanswered_played judged app left rest here frame x next =
    ap (λ (n : Next). turn_from (oracle judged) (suc left) (Some 0) Untold [] (Some (x ∷ [])) n) (next_framed (frames.Message x.dpid x.bytes) rest here [] next)
    ∙ turn_message judged left (Some 0) Untold x [] here []

unanswered_heard : (app left dpid : ℕ) (bytes rest here frame : List ℕ) → IsNext (frames.Message dpid bytes) rest here → heard_by (suc left) rest (Gone app frame ∷ []) ≡ true
unfolding settles
unanswered_heard app left dpid bytes rest here frame next = ap (λ (n : Next). settles (suc left) 0 (Some 0) n) (next_framed (frames.Message dpid bytes) rest here [] next)

pub ends_unanswered : {Own : Type 0} (Tells : Type 0) (accepts : List TableView → Bool) (app dpid : ℕ) (bytes rest here : List ℕ) (old new : Seen Own) (net now_net : NetState) → IsNext (frames.Message dpid bytes) rest here
    → Exchanges Tells app dpid bytes false old new net now_net → EndsSo Tells accepts app rest here old new net now_net (plays.Failed causes.Closed)
ends_unanswered Tells accepts app dpid bytes rest here old new net now_net next e = record {
  turn = λ left.
      let x = exchange_of dpid bytes e.answer old e.after net now_net in
      record {
        trace = Asks x ∷ (Talk (Gone app (answer_frame e.answer)) ∷ []);
        chain = ((refl, refl), (e.exchange, (same app, (new, (e.told, (refl, refl))))));
        answers = [];
        outcome = Failed causes.Closed;
        played = unanswered_played (accepts now_net.views) app left rest here (answer_frame e.answer) x next;
        ends = refl;
        given = given_none app (answer_frame e.answer);
        heard = unanswered_heard app left dpid bytes rest here (answer_frame e.answer) next;
        within = (within_gone app e.answer, tt);
        speaks = λ tells since none.
            let said = converses_unanswered Tells app dpid bytes (before rest since) old new net now_net e tells refl in
            record { after = said.0; converses = said.1; runs = λ done. absurd (true≢false (sym done)); passes = λ done. absurd (true≢false (sym done)) };
      };
}

pub leads_exchanged : {Own : Type 0} {Tells : Type 0} {app dpid : ℕ} {bytes : List ℕ} {old new : Seen Own} {net now_net : NetState} (given : Bool) → Exchanges Tells app dpid bytes given old new net now_net → Leads Tells app old new net now_net
leads_exchanged {app = app} {dpid = dpid} {bytes = bytes} {old = old} {new = new} {net = net} {now_net = now_net} true e = record {
  trace = Asks (exchange_of dpid bytes e.answer old e.after net now_net) ∷ (Talk (Gave app (answer_frame e.answer)) ∷ []);
  chain = ((refl, refl), (e.exchange, (same app, (new, (e.told, (refl, refl))))));
}
leads_exchanged {app = app} {dpid = dpid} {bytes = bytes} {old = old} {new = new} {net = net} {now_net = now_net} false e = record {
  trace = Asks (exchange_of dpid bytes e.answer old e.after net now_net) ∷ (Talk (Gone app (answer_frame e.answer)) ∷ []);
  chain = ((refl, refl), (e.exchange, (same app, (new, (e.told, (refl, refl))))));
}

-- ---- A frame that ends the turn

-- one that wants an answer
abbrev is_message : AppFrame → Bool
is_message (frames.Message dpid bytes) = true
is_message other = false

others_settle : (left : ℕ) (frame : AppFrame) (here : List ℕ) → is_message frame ≡ false → settles (suc left) 0 None (Framed frame here []) ≡ true
unfolding settles
others_settle left (frames.Message dpid bytes) here no_message = absurd (true≢false no_message)
others_settle left (frames.Done stop checkpoint) here no_message = refl
others_settle left frames.Save here no_message = refl
others_settle left frames.Keep here no_message = refl
others_settle left frames.Undo here no_message = refl
others_settle left frames.Ready here no_message = refl

ends_at : {Own : Type 0} (Tells : Type 0) (accepts : List TableView → Bool) (app : ℕ) (frame : AppFrame) (rest here : List ℕ) (seen : Seen Own) (net : NetState) (end : PlayEnd) (outcome : Outcome) → IsNext frame rest here
    → ((left : ℕ) → turn_from {State = Asking Own} (oracle (accepts net.views)) (suc left) None Untold [] (Some []) (Framed frame here []) ≡ played_is [] outcome) → is_message frame ≡ false → IsPlayEnd end here outcome → (is_done (turn_end end) ≡ true → Passes rest here) → EndsSo Tells accepts app rest here seen seen net net end
unfolding inputs
ends_at {Own = Own} Tells accepts app frame rest here seen net end outcome next plays no_message is passes = record {
  turn = λ left. record {
    trace = [];
    chain = (refl, refl);
    answers = [];
    outcome = outcome;
    played = ap (λ (n : Next). turn_from {State = Asking Own} (oracle (accepts net.views)) (suc left) None Untold [] (Some []) n) (next_framed frame rest here [] next) ∙ plays left;
    ends = is;
    given = refl;
    heard = ap (λ (n : Next). settles (suc left) 0 None n) (next_framed frame rest here [] next) ∙ others_settle left frame here no_message;
    within = tt;
    speaks = λ tells since none. record { after = before rest since; converses = Converses-refl app (before rest since) seen seen refl; runs = λ done. refl; passes = passes };
  };
}

done_plays : (Own : Type 0) (judged : Bool) (left : ℕ) (stop : Bool) (checkpoint : Option (List ℕ)) (here : List ℕ) → judged ≡ true
    → turn_from {State = Asking Own} (oracle judged) (suc left) None Untold [] (Some []) (Framed (frames.Done stop checkpoint) here []) ≡ played_is [] (Completed stop checkpoint here)
unfolding turn_from oracle
done_plays Own judged left stop checkpoint here is = rw is refl

judged_plays : (Own : Type 0) (judged : Bool) (left : ℕ) (stop : Bool) (checkpoint : Option (List ℕ)) (here : List ℕ) → judged ≡ false
    → turn_from {State = Asking Own} (oracle judged) (suc left) None Untold [] (Some []) (Framed (frames.Done stop checkpoint) here []) ≡ played_is [] (Failed causes.Judged)
unfolding turn_from oracle
judged_plays Own judged left stop checkpoint here is = rw is refl

-- a checkpoint in a frame is as short as it has to be
short_of : (stop : Bool) (checkpoint : Option (List ℕ)) → AppFits (frames.Done stop checkpoint) → IsShort checkpoint
short_of stop None fits = tt
short_of stop (Some checkpoint) fits = fits

ends_done_at : {Own : Type 0} (Tells : Type 0) (accepts : List TableView → Bool) (app : ℕ) (stop : Bool) (checkpoint : Option (List ℕ)) (rest here : List ℕ) (seen : Seen Own) (net : NetState) (judged : Bool) → accepts net.views ≡ judged
    → IsNext (frames.Done stop checkpoint) rest here → EndsSo Tells accepts app rest here seen seen net net (done_as judged stop checkpoint)
ends_done_at {Own = Own} Tells accepts app stop checkpoint rest here seen net true is next =
    ends_at Tells accepts app (frames.Done stop checkpoint) rest here seen net (plays.Done stop checkpoint) (Completed stop checkpoint here) next (λ left. done_plays Own (accepts net.views) left stop checkpoint here is) refl (refl, (refl, (refl, short_of stop checkpoint next.fits)))
    (λ done. passes_next (frames.Done stop checkpoint) rest here refl next)
ends_done_at {Own = Own} Tells accepts app stop checkpoint rest here seen net false is next =
    ends_at Tells accepts app (frames.Done stop checkpoint) rest here seen net (plays.Failed causes.Judged) (Failed causes.Judged) next (λ left. judged_plays Own (accepts net.views) left stop checkpoint here is) refl refl
    (λ done. absurd (true≢false (sym done)))

pub plays_done : {Own : Type 0} (Tells : Type 0) (accepts : List TableView → Bool) (app : ℕ) (stop : Bool) (checkpoint : Option (List ℕ)) (seen : Seen Own) (net : NetState) (end : PlayEnd) → end ≡ done_as (accepts net.views) stop checkpoint
    → Plays Tells accepts app (frames.Done stop checkpoint) seen seen net net (Some end)
plays_done Tells accepts app stop checkpoint seen net end is = record {
  frame_played = λ rest here next. subst (λ (e : PlayEnd). EndsSo Tells accepts app rest here seen seen net net e) (sym is) (ends_done_at Tells accepts app stop checkpoint rest here seen net (accepts net.views) refl next);
}

-- a frame that no turn has, or not yet
abbrev pub IsUnbalanced : AppFrame → Type 0
IsUnbalanced (frames.Message dpid bytes) = ⊥
IsUnbalanced (frames.Done stop checkpoint) = ⊥
IsUnbalanced frames.Save = Unit {0}
IsUnbalanced frames.Keep = Unit {0}
IsUnbalanced frames.Undo = Unit {0}
IsUnbalanced frames.Ready = Unit {0}

unbalanced_plays : (Own : Type 0) (judged : Bool) (left : ℕ) (frame : AppFrame) (here : List ℕ) → IsUnbalanced frame
    → turn_from {State = Asking Own} (oracle judged) (suc left) None Untold [] (Some []) (Framed frame here []) ≡ played_is [] (Failed causes.Unbalanced)
unfolding turn_from
unbalanced_plays Own judged left (frames.Message dpid bytes) here is = absurd is
unbalanced_plays Own judged left (frames.Done stop checkpoint) here is = absurd is
unbalanced_plays Own judged left frames.Save here is = refl
unbalanced_plays Own judged left frames.Keep here is = refl
unbalanced_plays Own judged left frames.Undo here is = refl
unbalanced_plays Own judged left frames.Ready here is = refl

no_message_unbalanced : (frame : AppFrame) → IsUnbalanced frame → is_message frame ≡ false
no_message_unbalanced (frames.Message dpid bytes) is = absurd is
no_message_unbalanced (frames.Done stop checkpoint) is = absurd is
no_message_unbalanced frames.Save is = refl
no_message_unbalanced frames.Keep is = refl
no_message_unbalanced frames.Undo is = refl
no_message_unbalanced frames.Ready is = refl

pub plays_unbalanced : {Own : Type 0} (Tells : Type 0) (accepts : List TableView → Bool) (app : ℕ) (frame : AppFrame) (seen : Seen Own) (net : NetState) → IsUnbalanced frame
    → Plays Tells accepts app frame seen seen net net (Some (plays.Failed causes.Unbalanced))
plays_unbalanced {Own = Own} Tells accepts app frame seen net is = record {
  frame_played = λ rest here next.
      ends_at Tells accepts app frame rest here seen net (plays.Failed causes.Unbalanced) (Failed causes.Unbalanced) next (λ left. unbalanced_plays Own (accepts net.views) left frame here is) (no_message_unbalanced frame is) refl
      (λ done. absurd (true≢false (sym done)));
}

-- ---- No frame comes, or one too many

faulty_plays : (Own : Type 0) (judged : Bool) (left : ℕ) (fault : FrameFault) → turn_from {State = Asking Own} (oracle judged) left None Untold [] (Some []) (Faulty fault) ≡ played_is [] (Failed (causes.Garbled fault))
unfolding turn_from
faulty_plays Own judged zero fault = refl
faulty_plays Own judged (suc left) fault = refl

closed_plays : (Own : Type 0) (judged : Bool) (left : ℕ) → turn_from {State = Asking Own} (oracle judged) left None Closes [] (Some []) Over ≡ played_is [] (Failed causes.Closed)
unfolding turn_from
closed_plays Own judged zero = refl
closed_plays Own judged (suc left) = refl

silent_plays : (Own : Type 0) (judged : Bool) (left : ℕ) → turn_from {State = Asking Own} (oracle judged) left None Stalls [] (Some []) Over ≡ played_is [] (Failed causes.Silent)
unfolding turn_from
silent_plays Own judged zero = refl
silent_plays Own judged (suc left) = refl

spent_plays : (Own : Type 0) (judged : Bool) (frame : AppFrame) (here : List ℕ) → turn_from {State = Asking Own} (oracle judged) zero None Untold [] (Some []) (Framed frame here []) ≡ played_is [] (Failed causes.Budget)
unfolding turn_from
spent_plays Own judged frame here = refl

faulty_settles : (left : ℕ) (fault : FrameFault) → settles left 0 None (Faulty fault) ≡ true
unfolding settles
faulty_settles zero fault = refl
faulty_settles (suc left) fault = refl

spent_settles : (frame : AppFrame) (here : List ℕ) → settles zero 0 None (Framed frame here []) ≡ true
unfolding settles
spent_settles frame here = refl

-- a frame is one too many only where none is left
abbrev pub IsOver : Came → ℕ → Type 0
IsOver (comes.Frame frame) left = left ≡ zero
IsOver (comes.Refused fault) left = Unit {0}
IsOver comes.Closed left = Unit {0}
IsOver comes.Silent left = Unit {0}

came_over : {Own : Type 0} (Tells : Type 0) (accepts : List TableView → Bool) (app left : ℕ) (came : Came) (rest here unread : List ℕ) (old new : Seen Own) (net : NetState) → IsOver came left → CameSo Tells app came rest here old new
    → TurnsFrom Tells accepts app left rest old new net net (plays.Failed (cause_of came)) unread
unfolding inputs
came_over {Own = Own} Tells accepts app left (comes.Frame frame) rest here unread old new net over so = rw over (record {
  trace = [];
  chain = (so.1, refl);
  answers = [];
  outcome = Failed causes.Budget;
  played = ap (λ (n : Next). turn_from {State = Asking Own} (oracle (accepts net.views)) zero None Untold [] (Some []) n) (next_framed frame rest here [] so.0) ∙ spent_plays Own (accepts net.views) frame here;
  ends = refl;
  given = refl;
  heard = ap (λ (n : Next). settles zero 0 None n) (next_framed frame rest here [] so.0) ∙ spent_settles frame here;
  within = tt;
  speaks = λ tells since none. record { after = before rest since; converses = Converses-refl app (before rest since) old new so.1; runs = λ done. refl; passes = λ done. absurd (true≢false (sym done)) };
})
came_over {Own = Own} Tells accepts app left (comes.Refused fault) rest here unread old new net over so = record {
  trace = [];
  chain = (so.1, refl);
  answers = [];
  outcome = Failed (causes.Garbled fault);
  played = ap (λ (n : Next). turn_from {State = Asking Own} (oracle (accepts net.views)) left None Untold [] (Some []) n) (next_faulty fault rest [] so.0) ∙ faulty_plays Own (accepts net.views) left fault;
  ends = refl;
  given = refl;
  heard = ap (λ (n : Next). settles left 0 None n) (next_faulty fault rest [] so.0) ∙ faulty_settles left fault;
  within = tt;
  speaks = λ tells since none. record { after = before rest since; converses = Converses-refl app (before rest since) old new so.1; runs = λ done. refl; passes = λ done. absurd (true≢false (sym done)) };
}
came_over {Own = Own} Tells accepts app left comes.Closed rest here unread old new net over so = record {
  trace = Talk (Took app took.Closed) ∷ [];
  chain = (same app, (new, (so.1, (refl, refl))));
  answers = [];
  outcome = Failed causes.Closed;
  played = ap (λ (n : Next). turn_from {State = Asking Own} (oracle (accepts net.views)) left None Closes [] (Some []) n) (next_over rest so.0) ∙ closed_plays Own (accepts net.views) left;
  ends = refl;
  given = refl;
  heard = refl;
  within = (same app, tt);
  speaks = λ tells since none.
      let act = Took app took.Closed in
      record {
        after = took_end (before rest since) act;
        converses = converses_told Tells app act (before rest since) (took_end (before rest since) act) old new so.1 tells (same app) (refl, (record { not_ended = refl; none_whole = so.0 }, refl));
        runs = λ done. refl;
        passes = λ done. absurd (true≢false (sym done));
      };
}
came_over {Own = Own} Tells accepts app left comes.Silent rest here unread old new net over so = record {
  trace = Talk (Took app took.Silent) ∷ [];
  chain = (same app, (new, (so.1, (refl, refl))));
  answers = [];
  outcome = Failed causes.Silent;
  played = ap (λ (n : Next). turn_from {State = Asking Own} (oracle (accepts net.views)) left None Stalls [] (Some []) n) (next_over rest so.0) ∙ silent_plays Own (accepts net.views) left;
  ends = refl;
  given = refl;
  heard = refl;
  within = (same app, tt);
  speaks = λ tells since none.
      let act = Took app took.Silent in
      record {
        after = took_end (before rest since) act;
        converses = converses_told Tells app act (before rest since) (took_end (before rest since) act) old new so.1 tells (same app) (refl, (record { not_ended = refl; none_whole = so.0 }, refl));
        runs = λ done. refl;
        passes = λ done. absurd (true≢false (sym done));
      };
}

pub turn_over : {Own : Type 0} (Tells : Type 0) (accepts : List TableView → Bool) (app left : ℕ) (came : Came) (rest here unread : List ℕ) (old new : Seen Own) (net : NetState) → IsOver came left → Comes Tells app rest here old new came
    → TurnsFrom Tells accepts app left rest old new net net (plays.Failed (cause_of came)) unread
turn_over Tells accepts app left came rest here unread old new net over comes =
    turn_taken comes.taken (came_over Tells accepts app left came comes.unread here unread comes.then_seen new net over comes.came_is)
