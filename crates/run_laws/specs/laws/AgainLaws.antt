-- Laws of events of one number: behind the first of them that an application was given, or was to be, no further one makes a quiescent point.
use Rattle.std.proofs.Common.{◌≡◌, ℕ, ◌<◌, ◌^◌, Bool, true, false, not, ◌&&◌, List, [], ◌∷◌, ◌++◌, Option, Some, refl, sym, ap, ap₂, ◌∙◌, inl, inr, true≢false}
use Rattle.std.proofs.lemmas.Bool.{cases_Bool, eq-eqb}
use Rattle.flow_table.specs.View.{TableView}
use Rattle.app_frames.specs.declared.frame.Event.{Event}
use Rattle.lego_model.specs.Controller.{event_frame}
use Rattle.lego_model.specs.Journal.{give_act}
use Rattle.outside.specs.declared.step.WorldStep.{WorldStep}
use Rattle.outside.specs.Seen.{Seen, Longer}
use Rattle.outside.specs.State.{event_number, is_event}
use Rattle.net_txn.specs.Net.{NetState}
use Rattle.app_visor.specs.declared.state.TurnEnd.{TurnEnd}
use Rattle.app_visor.specs.Talks.{step_of}
use Rattle.app_visor.specs.CallsFor.{CalmBehind}
use Rattle.app_visor.specs.laws.BeatLaws.{Chain-continues}
use Rattle.app_visor.specs.Turns.{Turns}
use Rattle.run_course.specs.Points.{gives_numbered, was_given, is_first_given, is_point, NoPointSince}
use Rattle.run_laws.specs.laws.FrameLaws.{event_numbered}
use Rattle.run_laws.specs.laws.LastPointLaws.{no_point_of, no_point_then, no_point_none}

-- ---- Whether it was given one

given_on : (app number : ℕ) (before steps : List WorldStep) → was_given app number before ≡ true → was_given app number (before ++ steps) ≡ true
given_on app number [] steps is = absurd (true≢false (sym is))
given_on app number (x ∷ before) steps is = elim (cases_Bool (gives_numbered app number x)) [
  | inl here ↦ rw here refl
  | inr other ↦ rw other (given_on app number before steps (rw other at is))
]

given_last : (app number : ℕ) (before : List WorldStep) (step : WorldStep) → gives_numbered app number step ≡ true → was_given app number (before ++ step ∷ []) ≡ true
given_last app number [] step is = rw is refl
given_last app number (x ∷ before) step is = elim (cases_Bool (gives_numbered app number x)) [
  | inl here ↦ rw here refl
  | inr other ↦ rw other (given_last app number before step is)
]

gives_it : (app number : ℕ) (given : Bool) (frame : List ℕ) → event_number frame ≡ Some number → gives_numbered app number (step_of (give_act given app frame)) ≡ true
gives_it app number true frame is = ap₂ (λ (a : Bool) (o : Option ℕ). a && is_event number o) (eq-eqb app app refl) is ∙ eq-eqb number number refl
gives_it app number false frame is = ap₂ (λ (a : Bool) (o : Option ℕ). a && is_event number o) (eq-eqb app app refl) is ∙ eq-eqb number number refl

-- it stays so
pub given_longer : {Own : Type 0} (app number : ℕ) (old new : Seen Own) → Longer old.history new.history → was_given app number old.history ≡ true → was_given app number new.history ≡ true
given_longer app number old new longer was = ap (was_given app number) longer.1 ∙ given_on app number old.history longer.0 was

-- so it is behind a turn at such an event
pub turn_given : {Own : Type 0} {Tells : Type 0} {accepts : List TableView → Bool} {app budget : ℕ} {rest unread : List ℕ} {old new : Seen Own} {net now_net : NetState} {end : TurnEnd} (number moment : ℕ) (event : Event) → Tells → number < 2 ^ 64
    → Turns Tells accepts app budget rest (event_frame number moment event) old new net now_net end unread → was_given app number new.history ≡ true
turn_given {Tells = Tells} {app = app} {old = old} {new = new} {net = net} {now_net = now_net} number moment event told few t =
    let next = t.chain.1.0 in
    given_longer app number next new ((Chain-continues Tells app t.trace next new net now_net t.chain.1.1.1).told told)
    (ap (was_given app number) (t.chain.1.1.0.history told)
    ∙ given_last app number old.history (step_of (give_act t.given app (event_frame number moment event))) (gives_it app number t.given (event_frame number moment event) (event_numbered number moment event few)))

-- ---- A further one makes no quiescent point

again_none : (app number : ℕ) (given : Bool) (frame : List ℕ) (before : List WorldStep) → event_number frame ≡ Some number → was_given app number before ≡ true → is_point before (step_of (give_act given app frame)) ≡ false
again_none app number true frame before is was = ap (λ (o : Option ℕ). is_first_given app o before) is ∙ ap not was
again_none app number false frame before is was = refl

pub again_quiet : {Own : Type 0} {old new : Seen Own} (app number moment : ℕ) (event : Event) → number < 2 ^ 64 → was_given app number old.history ≡ true → CalmBehind app (event_frame number moment event) old new → NoPointSince old new
again_quiet {old = old} {new = new} app number moment event few was behind =
    let frame = event_frame number moment event in
    elim behind.begins [
      | inl same ↦ no_point_then (no_point_none old behind.mid same) (no_point_of behind.calm.none_quiescent)
      | inr is ↦ no_point_then (record { steps = step_of (give_act is.given app frame) ∷ []; history = is.history; none = (again_none app number is.given frame old.history (event_numbered number moment event few) was, tt) })
          (no_point_of behind.calm.none_quiescent)
    ]
