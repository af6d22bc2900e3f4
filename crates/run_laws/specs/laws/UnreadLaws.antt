-- Which bytes of an application are unread behind a start: some that it gave in it, or none.
use Rattle.std.specs.Prelude.{take, filter, if◌then◌else◌}
use Rattle.std.specs.List.{AllByRecursion, flat_map}
use Rattle.std.proofs.Common.{◌≡◌, ℕ, zero, suc, Bool, true, false, List, [], ◌∷◌, ◌++◌, map, drop, Option, Some, None, Ok, Err, refl, sym, ap, ◌∙◌, subst, inl, inr, append_assoc, true≢false}
use Rattle.std.specs.Option.{unwrap_or}
use Rattle.std.proofs.lemmas.List.{append-nil, take-append-drop}
use Rattle.std.proofs.lemmas.List.Concat.{flat_map-append}
use Rattle.std.proofs.lemmas.List.Elements.{filter-append, filter_map-append}
use Rattle.of_types.specs.declared.journal.Act.{Act}
use Rattle.of_types.specs.declared.journal.Act.TheVariants.{Started}
use Rattle.app_frames.specs.declared.frame.AppFrame.{AppFrame}
use Rattle.app_frames.specs.declared.frame.AppFrame.TheVariants.{Message, Save, Keep, Undo, Done, Ready}
use Rattle.app_frames.specs.declared.cause.Tried.{Tried}
use Rattle.app_frames.specs.Reading.{Reading}
use Rattle.app_frames.specs.Frames.{app_reading}
use Rattle.outside.specs.declared.step.WorldStep.{WorldStep}
use Rattle.outside.specs.Seen.{Seen, journal}
use Rattle.outside.specs.State.{state, is_running}
use Rattle.outside.specs.laws.SeenLaws.{journal-append}
use Rattle.lego_model.specs.Journal.{Attempt, End, Closes, Stalls, Untold, is_of, pieces, start_of, in_turns}
use Rattle.lego_model.specs.Controller.{is_ready}
use Rattle.lego_model.specs.Turns.{Next, Framed, Faulty, Over, next_read, next_of, first_frame, after_restore, outcome_of}
use Rattle.journal_laws.specs.Readings.{Within, end_acts}
use Rattle.journal_laws.specs.laws.ReadingLaws.{turns_within}
use Rattle.app_visor.specs.laws.ReadTryLaws.{all_of_try}
use Rattle.app_visor.specs.Talks.{step_of}
use Rattle.app_visor.specs.Attempts.{OneTry, IsTry, AreTries, ready_rest}
use Rattle.app_visor.specs.laws.TellingLaws.{journal_steps}
use Rattle.run_course.specs.Asked.{pieces_of, HasGiven}
use Rattle.run_laws.specs.laws.TurnCallLaws.{try_all}

-- ---- Pieces

abbrev joined : List (List ℕ) → List ℕ
joined ps = flat_map (λ p. p) ps

pieces_two : (app : ℕ) (xs ys : List WorldStep) → joined (pieces_of app (xs ++ ys)) ≡ joined (pieces_of app xs) ++ joined (pieces_of app ys)
pieces_two app xs ys =
    ap (λ (acts : List Act). joined (pieces (filter (is_of app) acts))) (journal-append xs ys)
    ∙ (ap (λ (acts : List Act). joined (pieces acts)) (filter-append (is_of app) (journal xs) (journal ys))
    ∙ (ap joined (filter_map-append _ (filter (is_of app) (journal xs)) (filter (is_of app) (journal ys)))
    ∙ flat_map-append (λ (p : List ℕ). p) (pieces_of app xs) (pieces_of app ys)))

-- ---- What was given by some steps was given by more.

pub given_later : (app : ℕ) (bytes : List ℕ) (a b c steps : List WorldStep) → b ≡ a ++ steps → HasGiven app bytes b c → HasGiven app bytes a c
given_later app bytes a b c steps before has = record {
  steps = steps ++ has.steps;
  history = has.history ∙ (ap (λ (h : List WorldStep). h ++ has.steps) before ∙ append_assoc a steps has.steps);
  front = joined (pieces_of app steps) ++ has.front;
  behind = has.behind;
  given = pieces_two app steps has.steps ∙ (ap (λ (given : List ℕ). joined (pieces_of app steps) ++ given) has.given ∙ sym (append_assoc (joined (pieces_of app steps)) has.front (bytes ++ has.behind)));
}

pub none_given : (app : ℕ) (a b steps : List WorldStep) → b ≡ a ++ steps → HasGiven app [] a b
none_given app a b steps history = record { steps = steps; history = history; front = joined (pieces_of app steps); behind = []; given = sym (append-nil (joined (pieces_of app steps))) }

-- ---- The bytes behind a frame

-- some bytes, one behind the other, stand in others
record StandsIn (bytes whole : List ℕ) : Type 0 where
  front : List ℕ
  behind : List ℕ
  is : whole ≡ front ++ (bytes ++ behind)

abbrev IsFramed : Next → List ℕ → Type 0
IsFramed (Framed frame rest ps) whole = StandsIn rest whole
IsFramed (Faulty fault) whole = Unit {0}
IsFramed Over whole = Unit {0}

read_stands : (r : Reading (AppFrame × ℕ)) (bytes : List ℕ) (ps : List (List ℕ)) (more : Next) → IsFramed more (bytes ++ joined ps) → IsFramed (next_read r bytes ps more) (bytes ++ joined ps)
read_stands (Ok (Some x)) bytes ps more rest = record {
  front = take x.1 bytes;
  behind = joined ps;
  is = ap (λ (bs : List ℕ). bs ++ joined ps) (sym (take-append-drop x.1 bytes)) ∙ append_assoc (take x.1 bytes) (drop x.1 bytes) (joined ps);
}
read_stands (Ok None) bytes ps more rest = rest
read_stands (Err fault) bytes ps more rest = tt

next_stands : (bytes : List ℕ) (ps : List (List ℕ)) → IsFramed (next_of bytes ps) (bytes ++ joined ps)
unfolding next_of
next_stands bytes [] = read_stands (app_reading bytes) bytes [] Over tt
next_stands bytes (piece ∷ ps) =
    read_stands (app_reading bytes) bytes (piece ∷ ps) (next_of (bytes ++ piece) ps) (subst (IsFramed (next_of (bytes ++ piece) ps)) (append_assoc bytes piece (joined ps)) (next_stands (bytes ++ piece) ps))

-- ---- An attempt

nothing_stands : (whole : List ℕ) → StandsIn [] whole
nothing_stands whole = record { front = whole; behind = []; is = sym (append-nil whole) }

frame_stands : (end : End) (next : Next) (whole : List ℕ) → IsFramed next whole → StandsIn (first_frame end next).1 whole
frame_stands end (Framed Ready rest ps) whole is = is
frame_stands end (Framed (Message dpid bytes) rest ps) whole is = nothing_stands whole
frame_stands end (Framed Save rest ps) whole is = nothing_stands whole
frame_stands end (Framed Keep rest ps) whole is = nothing_stands whole
frame_stands end (Framed Undo rest ps) whole is = nothing_stands whole
frame_stands end (Framed (Done stop checkpoint) rest ps) whole is = nothing_stands whole
frame_stands end (Faulty fault) whole is = nothing_stands whole
frame_stands Closes Over whole is = nothing_stands whole
frame_stands Stalls Over whole is = nothing_stands whole
frame_stands Untold Over whole is = nothing_stands whole

restore_stands : (restored stands : Bool) (end : End) (ps : List (List ℕ)) → StandsIn (after_restore restored (record { stands = stands; restored = restored; pieces = ps; end = end })).1 (joined ps)
restore_stands true stands end ps = frame_stands end (next_of [] ps) (joined ps) (next_stands [] ps)
restore_stands false stands end ps = nothing_stands (joined ps)

start_stands : (stands restored : Bool) (end : End) (ps : List (List ℕ)) → StandsIn (outcome_of (record { stands = stands; restored = restored; pieces = ps; end = end })).1 (joined ps)
unfolding outcome_of
start_stands true restored end ps = restore_stands restored true end ps
start_stands false restored end ps = nothing_stands (joined ps)

attempt_stands : (app : ℕ) (attempt : Attempt) → Within app attempt.acts → StandsIn (outcome_of (start_of attempt)).1 (joined (pieces attempt.acts))
unfolding start_of
attempt_stands app attempt within =
    subst (λ (acts : List Act). StandsIn (outcome_of (start_of attempt)).1 (joined (pieces acts))) (ap (λ (t : List Act × List _). t.0) (turns_within app attempt.acts within))
    (start_stands attempt.stands _ _ (pieces (in_turns attempt.acts).0))

-- ---- Attempts

own_all : (app : ℕ) (acts : List Act) → AllByRecursion (λ act. is_of app act ≡ true) acts → filter (is_of app) acts ≡ acts
own_all app [] all = refl
own_all app (act ∷ acts) all = rw all.0 (ap (λ (xs : List Act). act ∷ xs) (own_all app acts all.1))

end_pieces : (running : Bool) (app : ℕ) (acts : List Act) → pieces (end_acts running app ++ acts) ≡ pieces acts
end_pieces true app acts = refl
end_pieces false app acts = refl

tried_pieces : (app : ℕ) (running : Bool) (attempt : Attempt) → AllByRecursion (λ act. is_of app act ≡ true) (all_of_try app running attempt) → pieces_of app (map step_of (all_of_try app running attempt)) ≡ pieces attempt.acts
tried_pieces app running attempt own =
    let acts = all_of_try app running attempt in
    ap (λ (xs : List Act). pieces (filter (is_of app) xs)) (journal_steps acts) ∙ (ap pieces (own_all app acts own) ∙ end_pieces running app (Started app attempt.stands ∷ attempt.acts))

try_given : {Own Tells : Type 0} {app : ℕ} {kept : List ℕ} (t : OneTry Own) (old : Seen Own) → Tells → IsTry Tells app kept t.attempt t.tried t.rest old t.after → HasGiven app t.rest old.history t.after.history
try_given {app = app} t old told is =
    let running = is_running app (state old) in
    let stands = subst (λ (r : List ℕ). StandsIn r (joined (pieces t.attempt.acts))) (ap (λ (o : Tried × List ℕ). o.1) is.outcome) (attempt_stands app t.attempt is.within) in
    record {
      steps = map step_of (all_of_try app running t.attempt);
      history = is.history told;
      front = stands.front;
      behind = stands.behind;
      given = ap joined (tried_pieces app running t.attempt (try_all app running t.attempt.stands t.attempt.acts is.within)) ∙ stands.is;
    }

ready_given : (app : ℕ) (rest : List ℕ) (more : Option (List ℕ)) (a b : List WorldStep) (ready : Bool) → (ready ≡ true → HasGiven app rest a b) → (ready ≡ false → HasGiven app (unwrap_or more []) a b) → HasGiven app (unwrap_or (if ready then Some rest else more) []) a b
ready_given app rest more a b true here later = here refl
ready_given app rest more a b false here later = later refl

-- what the one that is ready leaves, or nothing
pub tries_given : {Own : Type 0} (Tells : Type 0) (app : ℕ) (kept : List ℕ) (n : ℕ) (ts : List (OneTry Own)) (old new : Seen Own) → Tells → AreTries Tells app kept n ts old new → HasGiven app (unwrap_or (ready_rest ts) []) old.history new.history
tries_given Tells app kept zero [] old new told are = none_given app old.history new.history [] (ap (λ (s : Seen _). s.history) are ∙ sym (append-nil old.history))
tries_given Tells app kept zero (t ∷ ts) old new told are = absurd are
tries_given Tells app kept (suc n) [] old new told are = absurd are
tries_given Tells app kept (suc n) (t ∷ ts) old new told are =
    let one = try_given t old told are.0 in
    elim are.1 [
      | inl last ↦ subst (λ (s : Seen _). HasGiven app (unwrap_or (ready_rest (t ∷ ts)) []) old.history s.history) (sym last.2)
          (ready_given app t.rest (ready_rest ts) old.history t.after.history (is_ready t.tried) (λ is. one) (λ not. absurd (true≢false (sym last.0 ∙ not))))
      | inr more ↦
          let rest = tries_given Tells app kept n ts t.after new told more.1 in
          ready_given app t.rest (ready_rest ts) old.history new.history (is_ready t.tried)
          (λ is. absurd (true≢false (sym is ∙ more.0))) (λ not. given_later app (unwrap_or (ready_rest ts) []) old.history t.after.history new.history one.steps one.history rest)
    ]
