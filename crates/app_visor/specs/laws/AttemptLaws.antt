-- Laws of attempts to start an application.
use Rattle.std.specs.Prelude.{◌≡◌, ℕ, ◌==◌, Bool, true, false, not, ◌||◌, List, [], ◌∷◌, ◌++◌, drop, map, if◌then◌else◌, refl}
use Rattle.std.proofs.Common.{sym, ap, ◌∙◌, subst, append_assoc, true≢false}
use Rattle.std.proofs.lemmas.List.{append-nil, map-append}
use Rattle.std.proofs.lemmas.Map.Views.{any-filter_same}
use Rattle.of_types.specs.declared.journal.Act.{Act}
use Rattle.of_types.specs.declared.journal.Act.TheVariants.{Started, Gave, Gone, Took}
use Rattle.of_types.specs.declared.journal.TookWhat.TheVariants as took
use Rattle.app_frames.specs.declared.cause.Tried.TheVariants.{Closed}
use Rattle.of_types.specs.Fields.{number_bytes}
use Rattle.app_frames.specs.Spelling.{framed, host_body_bytes, host_bytes}
use Rattle.app_frames.specs.declared.frame.AppFrame.TheVariants as frames
use Rattle.lego_model.specs.Journal.{Start, End, Untold, Closes, Stalls, inputs, start_of, in_turns, pieces, end_from, any_gone}
use Rattle.lego_model.specs.Turns.{Next, outcome_of, first_frame, next_of}
use Rattle.lego_model.specs.Scripted.{is_told, is_whole, is_start_heard}
use Rattle.lego_model.specs.Controller.{restore_frame, is_ready}
use Rattle.lego_io.specs.laws.CountLaws.{Rose-after}
use Rattle.outside.specs.declared.step.WorldStep.{WorldStep}
use Rattle.outside.specs.declared.step.WorldStep.TheVariants.{Acted}
use Rattle.outside.specs.Seen.{Seen, Continues}
use Rattle.outside.specs.laws.SeenLaws.{Continues-trans}
use Rattle.outside.specs.State.{State, state, is_running, marks_after_gave, after_act, after_step, after_steps}
use Rattle.outside.specs.laws.StateLaws.{state-append}
use Rattle.outside.specs.Calls.{Ends, end_steps}
use Rattle.journal_laws.specs.Readings.{is_within, Within, end_acts}
use Rattle.journal_laws.specs.laws.ReadingLaws.{Within-append}
use Rattle.journal_laws.specs.laws.FrameLaws.{restore_is_none}
use Rattle.lego_model.specs.AtOnce.{before, nothing_said, besides, took_end}
use Rattle.app_visor.specs.declared.came.Came.{Came}
use Rattle.app_visor.specs.declared.came.Came.TheVariants as comes
use Rattle.app_visor.specs.Talks.{Told, step_of}
use Rattle.app_visor.specs.Reads.{takes, TakesAll, CameSo, Comes}
use Rattle.app_visor.specs.laws.ReadLaws.{Taken-continues, Comes-continues, next_taken, next_framed, next_faulty, next_over, pieces_takes, end_takes, gone_takes, inputs_takes, turns_takes, within_takes}
use Rattle.app_visor.specs.Dialogues.{Converses, Speaks}
use Rattle.app_visor.specs.laws.DialogueLaws.{passes_next, Converses-refl, Converses-then, converses_told, converses_takes, converses_restored}
use Rattle.app_visor.specs.laws.RunningLaws.{started_runs}
use Rattle.app_visor.specs.Attempts.{TryRises, restored, tried_by, rest_of, stood, Greets}
use Rattle.app_visor.specs.laws.BeatLaws.{same}

-- ---- The checkpoint that Restore carries

-- it stands behind the length and the kind
abbrev pub carried : List ℕ → List ℕ
carried frame = drop 5 frame

carried_by : (body : List ℕ) → carried (framed 1 body) ≡ body
unfolding framed number_bytes
carried_by body = refl

pub carried_in : (checkpoint : List ℕ) → carried (restore_frame checkpoint) ≡ checkpoint
unfolding host_bytes host_body_bytes
carried_in checkpoint = carried_by checkpoint

pub carries : (frame checkpoint : List ℕ) → frame ≡ restore_frame checkpoint → frame ≡ restore_frame (carried frame)
carries frame checkpoint is = is ∙ ap (λ (x : List ℕ). restore_frame x) (sym (ap carried is ∙ carried_in checkpoint))

-- ---- What is read of a start

-- acts that tell of no event, nothing given and nobody gone
record IsPlainEnd (app : ℕ) (acts : List Act) : Type 0 where
  turns : (in_turns acts).0 ≡ acts
  gone : any_gone acts ≡ false
  given : inputs app acts ≡ []
  none : pieces acts ≡ []

-- what ends the taking
abbrev last_acts : Came → ℕ → List Act
last_acts comes.Closed app = Took app took.Closed ∷ []
last_acts comes.Silent app = Took app took.Silent ∷ []
last_acts (comes.Frame frame) app = []
last_acts (comes.Refused fault) app = []

abbrev end_of : Came → End
end_of comes.Closed = Closes
end_of comes.Silent = Stalls
end_of (comes.Frame frame) = Untold
end_of (comes.Refused fault) = Untold

abbrev lasts : Came → Bool → ℕ → List Act
lasts came running app = last_acts came app ++ end_acts running app

plain_lasts : (came : Came) (running : Bool) (app : ℕ) → IsPlainEnd app (lasts came running app)
unfolding inputs
plain_lasts comes.Closed true app = record { turns = refl; gone = refl; given = refl; none = refl }
plain_lasts comes.Closed false app = record { turns = refl; gone = refl; given = refl; none = refl }
plain_lasts comes.Silent true app = record { turns = refl; gone = refl; given = refl; none = refl }
plain_lasts comes.Silent false app = record { turns = refl; gone = refl; given = refl; none = refl }
plain_lasts (comes.Frame frame) true app = record { turns = refl; gone = refl; given = refl; none = refl }
plain_lasts (comes.Frame frame) false app = record { turns = refl; gone = refl; given = refl; none = refl }
plain_lasts (comes.Refused fault) true app = record { turns = refl; gone = refl; given = refl; none = refl }
plain_lasts (comes.Refused fault) false app = record { turns = refl; gone = refl; given = refl; none = refl }

end_lasts : (came : Came) (running : Bool) (app : ℕ) → end_from Untold (lasts came running app) ≡ end_of came
end_lasts comes.Closed true app = refl
end_lasts comes.Closed false app = refl
end_lasts comes.Silent true app = refl
end_lasts comes.Silent false app = refl
end_lasts (comes.Frame frame) true app = refl
end_lasts (comes.Frame frame) false app = refl
end_lasts (comes.Refused fault) true app = refl
end_lasts (comes.Refused fault) false app = refl

-- the acts of a start that was given Restore
abbrev all_acts : ℕ → List ℕ → List (List ℕ) → List Act → List Act
all_acts app kept ps last = Gave app (restore_frame kept) ∷ (takes app ps ++ last)

abbrev start_by : List (List ℕ) → End → Start
start_by ps end = record { stands = true; restored = true; pieces = ps; end = end }

turns_all : (app : ℕ) (kept : List ℕ) (ps : List (List ℕ)) (last : List Act) → IsPlainEnd app last → (in_turns (all_acts app kept ps last)).0 ≡ all_acts app kept ps last
turns_all app kept ps last plain =
    let e : (in_turns (takes app ps ++ last)).0 ≡ takes app ps ++ last = turns_takes app ps last ∙ ap (λ (x : List Act). takes app ps ++ x) plain.turns in
    rw (restore_is_none kept) (ap (λ (x : List Act). Gave app (restore_frame kept) ∷ x) e)

abbrev start_in : Bool → List Act → Start
start_in stands acts = record { stands = stands; restored = if any_gone acts then false else true; pieces = pieces acts; end = end_from Untold acts }

start_greeted : (app : ℕ) (kept : List ℕ) (ps : List (List ℕ)) (last : List Act) (end : End) → IsPlainEnd app last → end_from Untold last ≡ end → start_of (stood (all_acts app kept ps last)) ≡ start_by ps end
unfolding start_of
start_greeted app kept ps last end plain ends =
    let p : pieces (takes app ps ++ last) ≡ ps = pieces_takes app ps last ∙ ap (λ (x : List (List ℕ)). ps ++ x) plain.none ∙ append-nil ps in
    let g : any_gone (takes app ps ++ last) ≡ false = gone_takes app ps last ∙ plain.gone in
    let n : end_from Untold (takes app ps ++ last) ≡ end = end_takes app ps last ∙ ends in
    ap (λ (acts : List Act). start_in true acts) (turns_all app kept ps last plain) ∙ rw (p, g, n) refl

inputs_greeted : (app : ℕ) (kept : List ℕ) (ps : List (List ℕ)) (last : List Act) → IsPlainEnd app last → inputs app (all_acts app kept ps last) ≡ restore_frame kept ∷ []
unfolding inputs
inputs_greeted app kept ps last plain =
    let e : inputs app (takes app ps ++ last) ≡ [] = inputs_takes app ps last ∙ plain.given in
    rw same (ap (λ (x : List (List ℕ)). restore_frame kept ∷ x) e)

-- ---- What a telling world's history has of it

abbrev pub Adds : {Own : Type 0} → Type 0 → List Act → Seen Own → Seen Own → Type 0
Adds Tells acts old new = Tells → new.history ≡ old.history ++ map step_of acts

pub Adds-append : {Own : Type 0} (Tells : Type 0) (xs ys : List Act) (a b c : Seen Own) → Adds Tells xs a b → Adds Tells ys b c → Adds Tells (xs ++ ys) a c
Adds-append Tells xs ys a b c first second = λ told.
    second told ∙ ap (λ (h : List WorldStep). h ++ map step_of ys) (first told) ∙ append_assoc a.history (map step_of xs) (map step_of ys)
    ∙ ap (λ (steps : List WorldStep). a.history ++ steps) (sym (map-append step_of xs ys))

pub Adds-none : {Own : Type 0} (Tells : Type 0) (a b : Seen Own) → b ≡ a → Adds Tells [] a b
Adds-none Tells a b is = λ told. ap (λ (s : Seen _). s.history) is ∙ sym (append-nil a.history)

pub Adds-takes : {Own : Type 0} (Tells : Type 0) (app : ℕ) (ps : List (List ℕ)) (rest left : List ℕ) (old new : Seen Own) → TakesAll Tells app ps rest left old new → Adds Tells (takes app ps) old new
Adds-takes Tells app [] rest left old new all = Adds-none Tells old new all.1
Adds-takes Tells app (p ∷ ps) rest left old new all =
    Adds-append Tells (Took app (took.Bytes p) ∷ []) (takes app ps) old all.1.0 new all.1.1.0.history (Adds-takes Tells app ps (rest ++ p) left all.1.0 new all.1.1.1)

Adds-last : {Own : Type 0} (Tells : Type 0) (app : ℕ) (came : Came) (rest left : List ℕ) (old new : Seen Own) → CameSo Tells app came rest left old new → Adds Tells (last_acts came app) old new
Adds-last Tells app (comes.Frame frame) rest left old new so = Adds-none Tells old new so.1
Adds-last Tells app (comes.Refused fault) rest left old new so = Adds-none Tells old new so.1
Adds-last Tells app comes.Closed rest left old new so = so.1.history
Adds-last Tells app comes.Silent rest left old new so = so.1.history

ended_steps : (app : ℕ) (running : Bool) → end_steps app running ≡ map step_of (end_acts running app)
unfolding end_steps
ended_steps app true = refl
ended_steps app false = refl

pub Adds-ended : {Own : Type 0} (Tells : Type 0) (app : ℕ) (old new : Seen Own) → Ends Tells app old new → Adds Tells (end_acts (is_running app (state old)) app) old new
Adds-ended Tells app old new ends = λ told. (ends.told told).history ∙ ap (λ (steps : List WorldStep). old.history ++ steps) (ended_steps app (is_running app (state old)))

-- ---- It does not run

stopped : (app : ℕ) (running : Bool) (s : State) → is_running app s ≡ running → is_running app (after_steps (end_steps app running) s) ≡ false
unfolding end_steps after_step after_act
stopped app true s is = any-filter_same (λ a. a == app) (λ a. not (a == app)) false (λ k e. rw e refl) s.running
stopped app false s is = is

pub ends_is : {Own : Type 0} (Tells : Type 0) (app : ℕ) (old new : Seen Own) → Ends Tells app old new → Tells → is_running app (state new) ≡ false
ends_is Tells app old new ends told =
    ap (λ (s : State). is_running app s) (state-append old new (end_steps app (is_running app (state old))) ends.given (ends.told told).history) ∙ stopped app (is_running app (state old)) (state old) refl

pub not_started_is : {Own : Type 0} (Tells : Type 0) (app : ℕ) (old new : Seen Own) → Told Tells (Started app false) old new → Tells → is_running app (state old) ≡ false → is_running app (state new) ≡ false
unfolding after_step after_act
not_started_is Tells app old new told tells is =
    ap (λ (s : State). is_running app s) (state-append old new (Acted (Started app false) ∷ []) told.continues.given (told.history tells)) ∙ is

-- ---- A start that stands

abbrev gone_acts : ℕ → List ℕ → Bool → List Act
gone_acts app kept running = Gone app (restore_frame kept) ∷ end_acts running app

gone_outcome : (app : ℕ) (kept : List ℕ) (running : Bool) → outcome_of (start_of (stood (gone_acts app kept running))) ≡ (Closed, [])
unfolding start_of outcome_of
gone_outcome app kept true = rw (restore_is_none kept) refl
gone_outcome app kept false = rw (restore_is_none kept) refl

gone_given : (app : ℕ) (kept : List ℕ) (running : Bool) → inputs app (gone_acts app kept running) ≡ restored kept (start_of (stood (gone_acts app kept running)))
unfolding start_of inputs
gone_given app kept true = rw (restore_is_none kept) refl
gone_given app kept false = rw (restore_is_none kept) refl

gone_heard : (app : ℕ) (kept : List ℕ) (running : Bool) → is_start_heard (start_of (stood (gone_acts app kept running))) ≡ true
unfolding start_of is_start_heard
gone_heard app kept true = rw (restore_is_none kept) refl
gone_heard app kept false = rw (restore_is_none kept) refl

within_restored : (app : ℕ) (kept : List ℕ) → is_within app (Gave app (restore_frame kept)) ≡ true
within_restored app kept = rw (same app, restore_is_none kept) refl

within_gone : (app : ℕ) (kept : List ℕ) → is_within app (Gone app (restore_frame kept)) ≡ true
within_gone app kept = rw (same app, restore_is_none kept) refl

within_last : (app : ℕ) (came : Came) → Within app (last_acts came app)
within_last app comes.Closed = (same app, tt)
within_last app comes.Silent = (same app, tt)
within_last app (comes.Frame frame) = tt
within_last app (comes.Refused fault) = tt

within_all : (app : ℕ) (kept : List ℕ) (ps : List (List ℕ)) (came : Came) → Within app (all_acts app kept ps (last_acts came app))
within_all app kept ps came = (within_restored app kept, Within-append app (takes app ps) (last_acts came app) (within_takes app ps) (within_last app came))

-- what is given and taken starts and ends nothing
abbrev runs_after : ℕ → List Act → State → Bool
runs_after app acts s = is_running app (after_steps (map step_of acts) s)

runs_last : (app : ℕ) (came : Came) (s : State) → runs_after app (last_acts came app) s ≡ is_running app s
unfolding after_step
runs_last app comes.Closed s = refl
runs_last app comes.Silent s = refl
runs_last app (comes.Frame frame) s = refl
runs_last app (comes.Refused fault) s = refl

runs_taken : (app : ℕ) (ps : List (List ℕ)) (came : Came) (s : State) → runs_after app (takes app ps ++ last_acts came app) s ≡ is_running app s
unfolding after_step
runs_taken app [] came s = runs_last app came s
runs_taken app (p ∷ ps) came s = runs_taken app ps came s

runs_given : (app : ℕ) (kept : List ℕ) (ps : List (List ℕ)) (came : Came) (s : State) → runs_after app (all_acts app kept ps (last_acts came app)) s ≡ is_running app s
unfolding after_step after_act
runs_given app kept ps came s = runs_taken app ps came (record s { marks = marks_after_gave (restore_frame kept) s })

runs_gone : (app : ℕ) (kept : List ℕ) (s : State) → runs_after app (Gone app (restore_frame kept) ∷ []) s ≡ is_running app s
unfolding after_step after_act
runs_gone app kept s = refl

runs_by : {Own : Type 0} (Tells : Type 0) (app : ℕ) (acts : List Act) (old new : Seen Own) → Continues Tells old new → Adds Tells acts old new → ((s : State) → runs_after app acts s ≡ is_running app s)
    → Tells → is_running app (state new) ≡ is_running app (state old)
runs_by Tells app acts old new continues adds stays told =
    ap (λ (s : State). is_running app s) (state-append old new (map step_of acts) continues.given (adds told)) ∙ stays (state old)

-- it runs once it was started
pub runs_started : {Own : Type 0} (Tells : Type 0) (app : ℕ) (old new : Seen Own) → Told Tells (Started app true) old new → Tells → is_running app (state new) ≡ true
unfolding after_step after_act
runs_started Tells app old new told tells =
    ap (λ (s : State). is_running app s) (state-append old new (Acted (Started app true) ∷ []) told.continues.given (told.history tells)) ∙ started_runs app app (state old).running (same app)

pub greets_gone : {Own : Type 0} {Tells : Type 0} {app : ℕ} {kept : List ℕ} {old new : Seen Own} (frame unread : List ℕ) → frame ≡ restore_frame kept → Told Tells (Gone app frame) old new → Greets Tells app kept Closed unread old new
greets_gone {Tells = Tells} {app = app} {kept = kept} {old = old} {new = new} frame unread is told_is =
    let told : Told Tells (Gone app (restore_frame kept)) old new = subst (λ (f : List ℕ). Told Tells (Gone app f) old new) is told_is in
    record {
      acts = Gone app (restore_frame kept) ∷ [];
      continues = told.continues;
      history = told.history;
      outcome = λ running. gone_outcome app kept running;
      given = λ running. gone_given app kept running;
      heard = λ running. gone_heard app kept running;
      rises = told.rises;
      within = (within_gone app kept, tt);
      running = runs_by Tells app (Gone app (restore_frame kept) ∷ []) old new told.continues told.history (runs_gone app kept);
      speaks = λ tells. record {
        after = besides nothing_said (Gone app (restore_frame kept));
        converses = converses_told Tells app (Gone app (restore_frame kept)) nothing_said (besides nothing_said (Gone app (restore_frame kept))) old new told tells (same app) (refl, refl);
        runs = λ ready. refl;
        passes = λ ready. absurd (true≢false (sym ready));
      };
    }

first_is : {Own : Type 0} (Tells : Type 0) (app : ℕ) (came : Came) (unread left : List ℕ) (old new : Seen Own) → CameSo Tells app came unread left old new
    → first_frame (end_of came) (next_of unread []) ≡ (tried_by came, rest_of (tried_by came) left)
first_is Tells app (comes.Frame frames.Ready) unread left old new so = rw (next_framed frames.Ready unread left [] so.0) refl
first_is Tells app (comes.Frame frames.Save) unread left old new so = rw (next_framed frames.Save unread left [] so.0) refl
first_is Tells app (comes.Frame frames.Keep) unread left old new so = rw (next_framed frames.Keep unread left [] so.0) refl
first_is Tells app (comes.Frame frames.Undo) unread left old new so = rw (next_framed frames.Undo unread left [] so.0) refl
first_is Tells app (comes.Frame (frames.Message dpid bytes)) unread left old new so = rw (next_framed (frames.Message dpid bytes) unread left [] so.0) refl
first_is Tells app (comes.Frame (frames.Done stop checkpoint)) unread left old new so = rw (next_framed (frames.Done stop checkpoint) unread left [] so.0) refl
first_is Tells app (comes.Refused fault) unread left old new so = rw (next_faulty fault unread [] so.0) refl
first_is Tells app comes.Closed unread left old new so = rw (next_over unread so.0) refl
first_is Tells app comes.Silent unread left old new so = rw (next_over unread so.0) refl

came_heard : {Own : Type 0} (Tells : Type 0) (app : ℕ) (came : Came) (unread left : List ℕ) (old new : Seen Own) → CameSo Tells app came unread left old new
    → (is_told (end_of came) || is_whole (next_of unread [])) ≡ true
came_heard Tells app (comes.Frame frame) unread left old new so = ap is_whole (next_framed frame unread left [] so.0)
came_heard Tells app (comes.Refused fault) unread left old new so = ap is_whole (next_faulty fault unread [] so.0)
came_heard Tells app comes.Closed unread left old new so = refl
came_heard Tells app comes.Silent unread left old new so = refl

came_rises : {Own : Type 0} (Tells : Type 0) (app : ℕ) (came : Came) (unread left : List ℕ) (first old new : Seen Own) → Continues Tells first old → CameSo Tells app came unread left old new
    → TryRises (tried_by came) first.counts new.counts
came_rises Tells app (comes.Frame frames.Ready) unread left first old new c so = tt
came_rises Tells app (comes.Frame frames.Save) unread left first old new c so = tt
came_rises Tells app (comes.Frame frames.Keep) unread left first old new c so = tt
came_rises Tells app (comes.Frame frames.Undo) unread left first old new c so = tt
came_rises Tells app (comes.Frame (frames.Message dpid bytes)) unread left first old new c so = tt
came_rises Tells app (comes.Frame (frames.Done stop checkpoint)) unread left first old new c so = tt
came_rises Tells app (comes.Refused fault) unread left first old new c so = tt
came_rises Tells app comes.Closed unread left first old new c so = Rose-after first.counts.closings old.counts.closings new.counts.closings c.none_fell.closings so.1.rises
came_rises Tells app comes.Silent unread left first old new c so = Rose-after first.counts.silences old.counts.silences new.counts.silences c.none_fell.silences so.1.rises

-- what came first goes on with the dialogue
speaks_came : {Own : Type 0} (Tells : Type 0) (app : ℕ) (came : Came) (unread left : List ℕ) (since : List Act) (old new : Seen Own) → CameSo Tells app came unread left old new → Tells
    → Speaks app (before unread since) old new (is_ready (tried_by came)) left
speaks_came Tells app (comes.Frame frames.Ready) unread left since old new so tells =
    record { after = before unread since; converses = Converses-refl app (before unread since) old new so.1; runs = λ ready. refl; passes = λ ready. passes_next frames.Ready unread left refl so.0 }
speaks_came Tells app (comes.Frame frames.Save) unread left since old new so tells =
    record { after = before unread since; converses = Converses-refl app (before unread since) old new so.1; runs = λ ready. refl; passes = λ ready. absurd (true≢false (sym ready)) }
speaks_came Tells app (comes.Frame frames.Keep) unread left since old new so tells =
    record { after = before unread since; converses = Converses-refl app (before unread since) old new so.1; runs = λ ready. refl; passes = λ ready. absurd (true≢false (sym ready)) }
speaks_came Tells app (comes.Frame frames.Undo) unread left since old new so tells =
    record { after = before unread since; converses = Converses-refl app (before unread since) old new so.1; runs = λ ready. refl; passes = λ ready. absurd (true≢false (sym ready)) }
speaks_came Tells app (comes.Frame (frames.Message dpid bytes)) unread left since old new so tells =
    record { after = before unread since; converses = Converses-refl app (before unread since) old new so.1; runs = λ ready. refl; passes = λ ready. absurd (true≢false (sym ready)) }
speaks_came Tells app (comes.Frame (frames.Done stop checkpoint)) unread left since old new so tells =
    record { after = before unread since; converses = Converses-refl app (before unread since) old new so.1; runs = λ ready. refl; passes = λ ready. absurd (true≢false (sym ready)) }
speaks_came Tells app (comes.Refused fault) unread left since old new so tells =
    record { after = before unread since; converses = Converses-refl app (before unread since) old new so.1; runs = λ ready. refl; passes = λ ready. absurd (true≢false (sym ready)) }
speaks_came Tells app comes.Closed unread left since old new so tells =
    let act = Took app took.Closed in
    record {
      after = took_end (before unread since) act;
      converses = converses_told Tells app act (before unread since) (took_end (before unread since) act) old new so.1 tells (same app) (refl, (record { not_ended = refl; none_whole = so.0 }, refl));
      runs = λ ready. refl;
      passes = λ ready. absurd (true≢false (sym ready));
    }
speaks_came Tells app comes.Silent unread left since old new so tells =
    let act = Took app took.Silent in
    record {
      after = took_end (before unread since) act;
      converses = converses_told Tells app act (before unread since) (took_end (before unread since) act) old new so.1 tells (same app) (refl, (record { not_ended = refl; none_whole = so.0 }, refl));
      runs = λ ready. refl;
      passes = λ ready. absurd (true≢false (sym ready));
    }

outcome_by : (ps : List (List ℕ)) (end : End) → outcome_of (start_by ps end) ≡ first_frame end (next_of [] ps)
unfolding outcome_of
outcome_by ps end = refl

heard_start : (ps : List (List ℕ)) (end : End) → is_start_heard (start_by ps end) ≡ (is_told end || is_whole (next_of [] ps))
unfolding is_start_heard
heard_start ps end = refl

-- behind all acts of the start it may be ended
then_ended : (app : ℕ) (kept : List ℕ) (ps : List (List ℕ)) (came : Came) (running : Bool) → all_acts app kept ps (last_acts came app) ++ end_acts running app ≡ all_acts app kept ps (lasts came running app)
then_ended app kept ps came running = ap (λ (x : List Act). Gave app (restore_frame kept) ∷ x) (append_assoc (takes app ps) (last_acts came app) (end_acts running app))

start_came : (app : ℕ) (kept : List ℕ) (ps : List (List ℕ)) (came : Came) (running : Bool) → start_of (stood (all_acts app kept ps (last_acts came app) ++ end_acts running app)) ≡ start_by ps (end_of came)
start_came app kept ps came running =
    ap (λ (acts : List Act). start_of (stood acts)) (then_ended app kept ps came running)
    ∙ start_greeted app kept ps (lasts came running app) (end_of came) (plain_lasts came running app) (end_lasts came running app)

pub greets_came : {Own : Type 0} {Tells : Type 0} {app : ℕ} {kept rest left : List ℕ} {old mid new : Seen Own} (frame : List ℕ) (came : Came) → frame ≡ restore_frame kept → rest ≡ [] → Told Tells (Gave app frame) old mid
    → Comes Tells app rest left mid new came → Greets Tells app kept (tried_by came) left old new
greets_came {Tells = Tells} {app = app} {kept = kept} {rest = rest} {left = left} {old = old} {mid = mid} {new = new} frame came is none told_is comes =
    let told : Told Tells (Gave app (restore_frame kept)) old mid = subst (λ (f : List ℕ). Told Tells (Gave app f) old mid) is told_is in
    let ps = comes.taken.pieces in
    let then_seen = comes.then_seen in
    let taken = Taken-continues comes.taken in
    let next : next_of [] ps ≡ next_of comes.unread [] =
    ap (λ (r : List ℕ). next_of r ps) (sym none) ∙ ap (λ (x : List (List ℕ)). next_of rest x) (sym (append-nil ps)) ∙ next_taken [] comes.taken in
    let continues = Continues-trans Tells old mid new told.continues (Comes-continues comes) in
    let adds : Adds Tells (all_acts app kept ps (last_acts came app)) old new = Adds-append Tells (Gave app (restore_frame kept) ∷ []) (takes app ps ++ last_acts came app) old mid new told.history
    (Adds-append Tells (takes app ps) (last_acts came app) mid then_seen new (Adds-takes Tells app ps rest comes.unread mid then_seen comes.taken.all)
    (Adds-last Tells app came comes.unread left then_seen new comes.came_is)) in
    record {
      acts = all_acts app kept ps (last_acts came app);
      continues = continues;
      history = adds;
      outcome = λ running. ap (λ (s : Start). outcome_of s) (start_came app kept ps came running) ∙ outcome_by ps (end_of came) ∙ ap (λ (n : Next). first_frame (end_of came) n) next
          ∙ first_is Tells app came comes.unread left then_seen new comes.came_is;
      given = λ running. ap (λ (acts : List Act). inputs app acts) (then_ended app kept ps came running) ∙ inputs_greeted app kept ps (lasts came running app) (plain_lasts came running app)
          ∙ ap (λ (s : Start). restored kept s) (sym (start_came app kept ps came running));
      heard = λ running. ap (λ (s : Start). is_start_heard s) (start_came app kept ps came running) ∙ heard_start ps (end_of came) ∙ ap (λ (n : Next). is_told (end_of came) || is_whole n) next
          ∙ came_heard Tells app came comes.unread left then_seen new comes.came_is;
      rises = came_rises Tells app came comes.unread left old then_seen new (Continues-trans Tells old mid then_seen told.continues taken) comes.came_is;
      within = within_all app kept ps came;
      running = runs_by Tells app (all_acts app kept ps (last_acts came app)) old new continues adds (runs_given app kept ps came);
      speaks = λ tells.
          let last = speaks_came Tells app came comes.unread left (takes app ps) then_seen new comes.came_is tells in
          let front : Converses app nothing_said (before comes.unread (takes app ps)) mid then_seen =
          subst (λ (r : List ℕ). Converses app (before r []) (before comes.unread (takes app ps)) mid then_seen) none (converses_takes Tells app ps rest comes.unread [] mid then_seen comes.taken.all tells) in
          record {
            after = last.after;
            converses = Converses-then app nothing_said nothing_said last.after old mid new (converses_restored Tells app kept old mid told tells)
                (Converses-then app nothing_said (before comes.unread (takes app ps)) last.after mid then_seen new front last.converses);
            runs = last.runs;
            passes = last.passes;
          };
    }
