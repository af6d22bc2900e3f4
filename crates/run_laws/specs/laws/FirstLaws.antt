-- Where a run begins: a world that was just opened, and an engine before anything happened, stand as the reference controller does before it
-- starts its applications.
use Rattle.std.proofs.Common.{◌≡◌, ◌==◌, ℕ, ◌+◌, true, List, [], ◌∷◌, map, length, Option, None, refl, sym, ap, ap₂, ◌∙◌, subst, inl, inr, true≢false}
use Rattle.std.proofs.lemmas.Bool.{cases_Bool}
use Rattle.std.specs.Option.{option_map}
use Rattle.std.specs.List.{AllByRecursion}
use Rattle.std.proofs.lemmas.Option.{none-some}
use Rattle.flow_table.specs.Switch.{Declared, SwitchState}
use Rattle.crash_policy.specs.Policies.{AppValue}
use Rattle.of_types.specs.declared.journal.Act.{Act}
use Rattle.lego_model.specs.Journal.{inputs, released, losses}
use Rattle.lego_model.specs.Agreement.{AgreeMarks}
use Rattle.undo_laws.specs.CorrectedSwitch.{corrected_switch}
use Rattle.lego_model.specs.Answers.{rows_of_table}
use Rattle.lego_model.specs.Places.{Place}
use Rattle.lego_model.specs.Losses.{Losses}
use Rattle.outside.specs.declared.call.FailCall.{FailCall}
use Rattle.outside.specs.declared.step.WorldStep.{WorldStep}
use Rattle.outside.specs.Seen.{Seen, journal}
use Rattle.outside.specs.State.{State, link_at_first, at_first, link_of, waits_in, switch_in, waits_of, switch_of, after_steps, after_step, state}
use Rattle.lego_model.specs.OrderlySteps.{IsOrderly}
use Rattle.switch_laws.specs.Shown.{places, shown_switch, shown_places, corrections}
use Rattle.lego_model.specs.AtOnce.{at_first as nobody_yet, Dialogue}
use Rattle.switch_laws.specs.Since.{ports_known}
use Rattle.batch_laws.specs.Calm.{Calm}
use Rattle.lego_model.specs.Controller.{App}
use Rattle.run_laws.specs.Engine.{EachFrom, Stands, app_with, apps_from, rules_of}
use Rattle.lego_model.specs.History.{given_in, released_of, lost_of}
use Rattle.run_laws.specs.Moves.{IsAtRest, AtRest}
use Rattle.lego_model.specs.ReferenceRun.{Said, fresh_from, before_start}
use Rattle.run_laws.specs.First.{IsOpened, net_at_first, app_at_first, engine_at_first}

-- ---- The world

state-opened : {Own : Type 0} (seen : Seen Own) → IsOpened seen → state seen ≡ record (at_first seen.given) { opened = true }
unfolding state after_step
state-opened seen is = ap (λ (h : List WorldStep). after_steps h (at_first seen.given)) is

links-wait : (d : ℕ) (fails : List FailCall) (ds : List Declared) → waits_in (link_of d (map (link_at_first fails) ds)) ≡ []
links-wait d fails [] = refl
links-wait d fails (x ∷ xs) =
    elim (cases_Bool (x.dpid == d)) [
      | inl here ↦ rw here refl
      | inr other ↦ rw other (links-wait d fails xs)
    ]

links-out : (d : ℕ) (fails : List FailCall) (ds : List Declared) → switch_in (link_of d (map (link_at_first fails) ds)) ≡ None
links-out d fails [] = refl
links-out d fails (x ∷ xs) =
    elim (cases_Bool (x.dpid == d)) [
      | inl here ↦ rw here refl
      | inr other ↦ rw other (links-out d fails xs)
    ]

pub none-waits : {Own : Type 0} (seen : Seen Own) → IsOpened seen → (d : ℕ) → waits_of d (state seen) ≡ []
unfolding waits_of at_first
none-waits seen is d = ap (λ (s : State). waits_of d s) (state-opened seen is) ∙ links-wait d seen.given.fails seen.given.declared

pub none-joined : {Own : Type 0} (seen : Seen Own) → IsOpened seen → (d : ℕ) → switch_of d (state seen) ≡ None
unfolding switch_of at_first
none-joined seen is d = ap (λ (s : State). switch_of d s) (state-opened seen is) ∙ links-out d seen.given.fails seen.given.declared

-- ---- All is calm

pub calm-first : {Own : Type 0} (seen : Seen Own) → IsOpened seen → Calm seen net_at_first
unfolding at_first
calm-first seen is = record {
  ready = record {
    waits = none-waits seen is;
    agrees = λ d. sym (ap (λ (o : Option SwitchState). option_map (λ x. rows_of_table x.table.entries) o) (none-joined seen is d));
    known = λ d. sym (ap (ports_known d) (none-joined seen is d));
  };
  sound = record { entries = λ d x here. absurd (none-some x (sym (none-joined seen is d) ∙ here)) };
  order = tt;
  kept = refl;
  moment = sym (ap (λ (s : State). s.moment) (state-opened seen is));
  none_begun = ap (λ (s : State). s.begun) (state-opened seen is);
  none_due = ap (λ (s : State). s.due) (state-opened seen is);
  held = refl;
  left = refl;
}

pub no-acts : {Own : Type 0} (seen : Seen Own) → IsOpened seen → journal seen.history ≡ []
unfolding journal
no-acts seen is = ap (λ (h : List WorldStep). journal h) is

-- the applications are those of the policy
pub rules-first : (rules : List AppValue) → rules_of (engine_at_first rules) ≡ rules
rules-first [] = refl
rules-first (rule ∷ rules) = ap (λ (more : List AppValue). rule ∷ more) (rules-first rules)

each-first : {Own : Type 0} (i : ℕ) (rules : List AppValue) (seen : Seen Own) → IsOpened seen → EachFrom (IsAtRest seen) i (map app_at_first rules)
each-first i [] seen is = tt
each-first i (rule ∷ rules) seen is = (
  record {
    life = λ alive. absurd (true≢false (sym alive));
    at_once = record { last = nobody_yet; dialogue = subst (λ (acts : List Act). Dialogue i nobody_yet acts nobody_yet) (sym (no-acts seen is)) refl };
    rest_is = λ alive. absurd (true≢false (sym alive));
  },
  each-first (i + 1) rules seen is,
)

pub settled-first : {Own : Type 0} (rules : List AppValue) (seen : Seen Own) → IsOpened seen → AtRest seen (engine_at_first rules)
settled-first rules seen is = record {
  calm = calm-first seen is;
  each = each-first 0 rules seen is;
  orderly = subst (λ (h : List WorldStep). AllByRecursion (IsOrderly (length (map app_at_first rules))) h) (sym is) (tt, tt);
}

-- ---- The journal tells nothing yet

places-out : (f : ℕ → Option SwitchState) (ds : List Declared) → ((d : ℕ) → f d ≡ None) → places f ds ≡ map (λ d. record { declared = d; switch = None }) ds
places-out f [] none = refl
places-out f (d ∷ ds) none = ap₂ (λ (o : Option SwitchState) (ps : List Place). record { declared = d; switch = o } ∷ ps) (none d.dpid) (places-out f ds none)

given-first : {Own : Type 0} (i : ℕ) (seen : Seen Own) → IsOpened seen → given_in i seen ≡ []
unfolding inputs
given-first i seen is = ap (λ (js : List Act). inputs i js) (no-acts seen is)

-- the applications at first
apps-first : {Own : Type 0} (i : ℕ) (rules : List AppValue) (seen : Seen Own) (said : ℕ → Said) → IsOpened seen → apps_from i seen (map app_at_first rules) said ≡ fresh_from i rules said
apps-first i [] seen said is = refl
apps-first i (rule ∷ rules) seen said is =
    ap₂ (λ (a : App) (more : List App). a ∷ more) (ap (λ (given : List (List ℕ)). app_with (app_at_first rule) given (said i)) (given-first i seen is)) (apps-first (i + 1) rules seen said is)

released-first : {Own : Type 0} (seen : Seen Own) → IsOpened seen → released_of seen ≡ []
unfolding released
released-first seen is = ap (λ (js : List Act). released js) (no-acts seen is)

lost-first : {Own : Type 0} (seen : Seen Own) → IsOpened seen → lost_of seen ≡ []
unfolding losses
lost-first seen is = ap (λ (js : List Act). losses js) (no-acts seen is)

-- The two stand alike before anything is started.
pub stands-first : {Own : Type 0} (rules : List AppValue) (seen : Seen Own) (said : ℕ → Said) (losses : Losses) → IsOpened seen
    → Stands seen (engine_at_first rules) said losses (before_start seen.given.declared losses (fresh_from 0 rules said))
unfolding shown_places at_first
stands-first rules seen said losses is = record {
  calm = calm-first seen is;
  moment = sym (ap (λ (s : State). s.moment) (state-opened seen is));
  places = sym (places-out (shown_switch (corrections []) (state seen)) seen.given.declared (λ d. ap (λ (o : Option SwitchState). option_map (corrected_switch (corrections [] d)) o) (none-joined seen is d)));
  queue = refl;
  events = refl;
  apps = sym (apps-first 0 rules seen said is);
  released = sym (released-first seen is);
  lost = sym (lost-first seen is);
  losses_is = refl;
  marks = subst (λ (s : State). AgreeMarks s.marks []) (sym (state-opened seen is)) tt;
}
