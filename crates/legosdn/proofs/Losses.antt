-- Where no call of a link is to fail, no switch is lost.
use Rattle.std.specs.Prelude.{◌≡◌, ◌==◌, ℕ, ◌+◌, Bool, true, false, not, ◌&&◌, ◌||◌, List, [], ◌∷◌, map, Option, Some, Ok, IsTrue, refl}
use Rattle.std.specs.List.{AllByRecursion, list_any}
use Rattle.std.proofs.Common.{sym, ap, ap₂, ◌∙◌, inl, inr}
use Rattle.std.proofs.lemmas.Bool.{cases_Bool, false≢true}
use Rattle.of_types.specs.declared.journal.Act.{Act}
use Rattle.of_types.specs.declared.journal.Act.TheVariants.{Stim, Started, Gave, Gone, Took, Ended, Sent, Got, Lost}
use Rattle.flow_table.specs.Switch.{Declared}
use Rattle.outside.specs.declared.call.FailCall.{FailCall}
use Rattle.outside.specs.declared.step.WorldStep.{WorldStep}
use Rattle.outside.specs.declared.step.WorldStep.TheVariants.{Acted, TookInto, From, Joined, Left, Moment, Idle, End, Opened, NotOpened, NextFailed, SendLost, RecvLost, SendFailed, RecvFailed}
use Rattle.outside.specs.Seen.{Given, Seen, journal}
use Rattle.outside.specs.State.{Link, State, fails_of, link_at_first, at_first, link_of, fails_in, link_fails, is_joined, has_waiting, link_joined, link_left, link_stimulated, link_sent, link_got, link_told, link_lost, link_failed, after_step}
use Rattle.outside.specs.Conforming.{MayAct, MayStep}
use Rattle.outside.specs.InOrder.{MayCome, MayComeAll, InOrder}
use Rattle.outside.specs.laws.LinkKeptLaws.{EachKeeps, step-kept}
use Rattle.sim_world.specs.Scripts.{Scripts}
use Rattle.sim_world.specs.Places.{IsExpected, AreExpected}
use Rattle.lego_model.specs.Journal.{losses}
use Rattle.lego_model.specs.History.{lost_of}
use Rattle.lego_model.specs.SessionLines.{SessionValue}
use Rattle.session_text.specs.Loading.{fail_of, given_by}
use Rattle.switch_laws.specs.laws.LossLaws.{losses-nil}
use Rattle.legosdn.specs.Input.{ProgramValue, Spelling}
use Rattle.legosdn.specs.Live.{NoneStray}
use Rattle.legosdn.specs.Headline.{RunsNoOther}
use Rattle.legosdn.proofs.Said.{given_session}

-- ---- Links of which no call is to fail

abbrev NoneToFail : Link → Type 0
NoneToFail l = l.fails ≡ []

none_to_fail : EachKeeps NoneToFail
unfolding link_stimulated link_joined link_left link_sent link_got link_told link_lost link_failed
none_to_fail = record {
  stimulated = λ x l none. none;
  joined = λ moment l none. none;
  left = λ l none. none;
  sent = λ bytes l none. none;
  got = λ l none. none;
  told = λ l none. none;
  lost = λ l none. none;
  failed = λ l none. none;
}

first_none : (fails : List FailCall) (ds : List Declared) → fails ≡ [] → AllByRecursion NoneToFail (map (link_at_first fails) ds)
first_none fails [] none = tt
first_none fails (d ∷ ds) none = (ap (fails_of d.dpid) none, first_none fails ds none)

never_fails : (d : ℕ) (ls : List Link) → AllByRecursion NoneToFail ls → fails_in (link_of d ls) ≡ false
never_fails d [] none = refl
never_fails d (l ∷ ls) none =
    elim (cases_Bool (l.declared.dpid == d)) [
      | inl here ↦ rw here (ap (list_any (λ n. n == l.calls + 1)) none.0)
      | inr other ↦ rw other (never_fails d ls none.1)
    ]

no_fault : (d : ℕ) (s : State) → AllByRecursion NoneToFail s.links → link_fails d s ≡ false
unfolding link_fails
no_fault d s none = never_fails d s.links none

-- ---- No step loses a switch

no_both : (a b : Bool) → b ≡ false → IsTrue (a && b) → ⊥
no_both true b none both = false≢true (sym none ∙ both)
no_both false b none both = false≢true both

act_loses : (declared : List Declared) (act : Act) (steps : List WorldStep) (s : State) → MayCome declared (Acted act) s → losses (journal steps) ≡ [] → losses (journal (Acted act ∷ steps)) ≡ []
unfolding losses journal MayCome MayStep MayAct
act_loses declared (Stim x) steps s may rest = rest
act_loses declared (Started app ok) steps s may rest = rest
act_loses declared (Gave app bytes) steps s may rest = rest
act_loses declared (Gone app bytes) steps s may rest = rest
act_loses declared (Took app what) steps s may rest = rest
act_loses declared (Ended app) steps s may rest = rest
act_loses declared (Sent d bytes) steps s may rest = rest
act_loses declared (Got d bytes) steps s may rest = rest
act_loses declared (Lost d) steps s may rest = absurd may

step_loses : (declared : List Declared) (step : WorldStep) (steps : List WorldStep) (s : State) → AllByRecursion NoneToFail s.links → MayCome declared step s → IsExpected step s
    → losses (journal steps) ≡ [] → losses (journal (step ∷ steps)) ≡ []
unfolding losses journal MayCome MayStep
step_loses declared (Acted act) steps s none may is rest = act_loses declared act steps s may rest
step_loses declared (TookInto app what room) steps s none may is rest = rest
step_loses declared (From d bytes) steps s none may is rest = rest
step_loses declared (Joined d bytes) steps s none may is rest = rest
step_loses declared (Left d) steps s none may is rest = rest
step_loses declared (Moment t) steps s none may is rest = rest
step_loses declared Idle steps s none may is rest = rest
step_loses declared End steps s none may is rest = rest
step_loses declared Opened steps s none may is rest = rest
step_loses declared NotOpened steps s none may is rest = rest
step_loses declared NextFailed steps s none may is rest = rest
step_loses declared (SendLost d) steps s none may is rest = absurd (no_both (is_joined d s) (link_fails d s) (no_fault d s none) may)
step_loses declared (RecvLost d) steps s none may is rest =
    absurd (no_both (is_joined d s) (link_fails d s || not (has_waiting d s)) (ap₂ (λ (a b : Bool). a || not b) (no_fault d s none) is) may)
step_loses declared (SendFailed d) steps s none may is rest = rest
step_loses declared (RecvFailed d) steps s none may is rest = rest

steps_lose : (declared : List Declared) (steps : List WorldStep) (s : State) → AllByRecursion NoneToFail s.links → MayComeAll declared steps s → AreExpected steps s → losses (journal steps) ≡ []
steps_lose declared [] s none may are = losses-nil
steps_lose declared (step ∷ steps) s none may are =
    step_loses declared step steps s none may.0 are.0 (steps_lose declared steps (after_step step s) (step-kept NoneToFail none_to_fail step s none) may.1 are.1)

-- ---- The whole

pub nothing_lost : {Own : Type 0} (seen : Seen Own) → seen.history ≡ [] → lost_of seen ≡ []
nothing_lost seen none = ap (λ (steps : List WorldStep). losses (journal steps)) none ∙ losses-nil

pub none_is_lost : {Own : Type 0} (seen : Seen Own) → InOrder seen → NoneStray seen → seen.given.fails ≡ [] → lost_of seen ≡ []
unfolding at_first
none_is_lost seen order none fails = steps_lose seen.given.declared seen.history (at_first seen.given) (first_none seen.given.fails seen.given.declared fails) order.steps none

-- of the session that the input spells
pub none_lost_by : (spells : Spelling) (program : ProgramValue) (told left : Option (List ℕ)) (seen : Seen Scripts) (input : List ℕ) (session : SessionValue) → RunsNoOther spells told left seen → (seen.given.fails ≡ [] → lost_of seen ≡ [])
    → told ≡ Some input → spells input ≡ Ok (program, session) → session.faults ≡ [] → lost_of seen ≡ []
unfolding given_by
none_lost_by spells program told left seen input session (inl none) lost whole spelled faults = nothing_lost seen none
none_lost_by spells program told left seen input session (inr loaded) lost whole spelled faults =
    lost (ap (λ (g : Given Scripts). g.fails) (given_session spells loaded.0 program told left seen input session loaded.1 whole spelled) ∙ ap (map fail_of) faults)
