-- What leaves all that a world told of a run: that switches were asked, and that applications are ended.
use Rattle.std.proofs.Common.{◌≡◌, ◌==◌, ℕ, ◌<◌, Bool, true, false, List, [], ◌++◌, filter, if◌then◌else◌, refl, sym, ap, ◌∙◌, subst}
use Rattle.std.proofs.lemmas.Bool.{eqb-true}
use Rattle.std.proofs.lemmas.List.{append-nil}
use Rattle.std.proofs.lemmas.List.Elements.{filter-append}
use Rattle.of_types.specs.declared.journal.Act.{Act}
use Rattle.of_types.specs.declared.journal.WorldStim.{WorldStim}
use Rattle.lego_model.specs.Journal.{is_of, inputs, stimuli, released, losses}
use Rattle.lego_model.specs.laws.JournalLaws.{inputs-append, stimuli-append}
use Rattle.outside.specs.declared.step.WorldStep.{WorldStep}
use Rattle.outside.specs.Seen.{Seen, journal}
use Rattle.outside.specs.laws.SeenLaws.{journal-append}
use Rattle.outside.specs.State.{State, is_running, switch_of, after_act, after_step, after_steps, state}
use Rattle.outside.specs.Calls.{end_steps, Ends}
use Rattle.outside.specs.laws.CallLaws.{Ends-state}
use Rattle.std.specs.List.{AllByRecursion}
use Rattle.lego_model.specs.OrderlySteps.{IsOrderly}
use Rattle.lego_model.specs.AtOnce.{AtOnce}
use Rattle.journal_laws.specs.Readings.{ReadsSame, end_acts}
use Rattle.lego_model.specs.History.{starts_in, replies_in, own_acts, given_in, stimuli_in, lost_of}
use Rattle.journal_laws.specs.laws.ReadingLaws.{part_read}
use Rattle.app_visor.specs.laws.DialogueLaws.{converses_ended}
use Rattle.run_laws.specs.laws.DialogueLaws.{at_once_then, runs_now, others_at_once}
use Rattle.run_laws.specs.laws.TellLaws.{released_same, lost_same}
use Rattle.run_laws.specs.LinkSteps.{TriesKeep}
use Rattle.run_laws.specs.LastReport.{OnlyAsked, switch_left}
use Rattle.run_laws.specs.Endings.{Leaves}

-- Switches were asked, and none moved but those that were lost.
pub asked-leaves : {Own : Type 0} (number : ℕ) (lost : List ℕ) (old new : Seen Own) → OnlyAsked lost old new → ((d : ℕ) → switch_of d (state new) ≡ switch_left lost (state old) d) → Leaves number lost old new
asked-leaves number lost old new asked switches = record {
  given = asked.given;
  told = λ app. record { starts = ap starts_in (asked.acts app); replies = ap replies_in (asked.acts app); inputs = asked.inputs app };
  stimuli = asked.stimuli;
  released = asked.released;
  lost_is = asked.lost_is;
  marks = asked.marks;
  switches = switches;
  at_once = asked.at_once;
  orderly = asked.orderly number;
}

-- ---- The end of an application

-- an end, of an application that runs or of one that does not, as any application sees it
record IsEnd (app of : ℕ) (running : Bool) : Type 0 where
  own : filter (is_of of) (journal (end_steps app running)) ≡ (if app == of then end_acts running app else [])
  inputs_is : inputs of (journal (end_steps app running)) ≡ []
  stimuli_is : stimuli (journal (end_steps app running)) ≡ []
  released_is : released (journal (end_steps app running)) ≡ []
  lost_is : losses (journal (end_steps app running)) ≡ []
  keeps : (s : State) → TriesKeep s (after_steps (end_steps app running) s)
  switches : (d : ℕ) (s : State) → switch_of d (after_steps (end_steps app running) s) ≡ switch_of d s
  orderly : (number : ℕ) → app < number → AllByRecursion (IsOrderly number) (end_steps app running)

none_either : (b : Bool) → ◌≡◌ {A = List Act} [] (if b then [] else [])
none_either true = refl
none_either false = refl

is-end : (app of : ℕ) (running : Bool) → IsEnd app of running
unfolding end_steps journal inputs stimuli released losses switch_of after_act after_step
is-end app of true = record { own = refl; inputs_is = refl; stimuli_is = refl; released_is = refl; lost_is = refl; keeps = λ s. record { links = refl; rests = record { begun = refl; due = refl; moment = refl }; marks = refl }; switches = λ d s. refl; orderly = λ number small. (small, tt) }
is-end app of false = record { own = none_either (app == of); inputs_is = refl; stimuli_is = refl; released_is = refl; lost_is = refl; keeps = λ s. record { links = refl; rests = record { begun = refl; due = refl; moment = refl }; marks = refl }; switches = λ d s. refl; orderly = λ number small. tt }

-- of the application that is ended no start and no reply more is told, nor of another
reads-end : (app of : ℕ) (running same : Bool) (before : List Act) → (app == of) ≡ same → ReadsSame before (before ++ (if same then end_acts running app else []))
reads-end app of running true before is = part_read app running before
reads-end app of running false before is = subst (λ (acts : List Act). ReadsSame before acts) (sym (append-nil before)) (record { starts = refl; replies = refl })

-- the dialogue goes on with the end, of the application that is ended and of another
dialogue-end : {Own : Type 0} (Tells : Type 0) (app of : ℕ) (same : Bool) (old new : Seen Own) → Tells → Ends Tells app old new → (app == of) ≡ same
    → filter (is_of of) (journal (end_steps app (is_running app (state old)))) ≡ (if same then end_acts (is_running app (state old)) app else []) → AtOnce of (journal old.history) → AtOnce of (journal new.history)
dialogue-end Tells app of true old new told ends same own said =
    let is : app ≡ of = eqb-true app of same in
    let ended = converses_ended Tells of said.last old new (subst (λ (a : ℕ). Ends Tells a old new) is ends) told (runs_now of old said) in
    at_once_then of ended.0 old new said ended.1.0
dialogue-end Tells app of false old new told ends same own said = others_at_once of old new (end_steps app (is_running app (state old))) (ends.told told).history own said

-- The application is ended, if it runs.
pub end-leaves : {Own : Type 0} (Tells : Type 0) (app number : ℕ) (old new : Seen Own) → Tells → app < number → Ends Tells app old new → Leaves number [] old new
end-leaves Tells app number old new told small ends =
    let running : Bool = is_running app (state old) in
    let steps : List WorldStep = end_steps app running in
    let is = is-end app app running in
    let longer : journal new.history ≡ journal old.history ++ journal steps = ap journal (ends.told told).history ∙ journal-append old.history steps in
    let after : state new ≡ after_steps steps (state old) = Ends-state told ends in
    record {
      given = ends.given;
      told = λ of.
          let here = is-end app of running in
          let own : own_acts of new ≡ own_acts of old ++ (if app == of then end_acts running app else []) =
          ap (λ (acts : List Act). filter (is_of of) acts) longer ∙ filter-append (is_of of) (journal old.history) (journal steps) ∙ ap (λ (acts : List Act). own_acts of old ++ acts) here.own in
          let reads : ReadsSame (own_acts of old) (own_acts of new) = subst (λ (acts : List Act). ReadsSame (own_acts of old) acts) (sym own) (reads-end app of running (app == of) (own_acts of old) refl) in
          record {
            starts = reads.starts;
            replies = reads.replies;
            inputs = ap (λ (acts : List Act). inputs of acts) longer ∙ inputs-append of (journal old.history) (journal steps) ∙ ap (λ (xs : List (List ℕ)). given_in of old ++ xs) here.inputs_is ∙ append-nil (given_in of old);
          };
      stimuli = ap (λ (acts : List Act). stimuli acts) longer ∙ stimuli-append (journal old.history) (journal steps) ∙ ap (λ (xs : List WorldStim). stimuli_in old ++ xs) is.stimuli_is ∙ append-nil (stimuli_in old);
      released = released_same old new (journal steps) longer is.released_is;
      lost_is = lost_same old new (journal steps) longer is.lost_is ∙ sym (append-nil (lost_of old));
      marks = ap (λ (s : State). s.marks) after ∙ (is.keeps (state old)).marks;
      switches = λ d. ap (λ (s : State). switch_of d s) after ∙ is.switches d (state old);
      at_once = λ of said. dialogue-end Tells app of (app == of) old new told ends refl (is-end app of running).own said;
      orderly = record { steps = steps; history = (ends.told told).history; orderly = is.orderly number small };
    }

-- It moves no switch, and makes no mark.
pub end-keeps : {Own : Type 0} (Tells : Type 0) (app : ℕ) (old new : Seen Own) → Tells → Ends Tells app old new → TriesKeep (state old) (state new)
end-keeps Tells app old new told ends =
    subst (λ (s : State). TriesKeep (state old) s) (sym (Ends-state told ends)) ((is-end app app (is_running app (state old))).keeps (state old))
