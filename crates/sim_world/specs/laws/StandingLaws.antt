-- What the calls of a simulated world need follows from what it keeps.
use Rattle.std.specs.Prelude.{◌≡◌, ℕ, ◌+◌, ◌^◌, ◌<◌, ◌≤◌, Bool, true, false, List, [], ◌∷◌, length, refl, if◌then◌else◌}
use Rattle.std.proofs.Common.{sym, ap, ◌∙◌, subst, arith}
use Rattle.outside.specs.declared.step.WorldStep.{WorldStep}
use Rattle.outside.specs.State.{state, but_marks, is_running, at_first}
use Rattle.outside.specs.InOrder.{InOrder}
use Rattle.sim_world.specs.Scripts.{Life, fresh, FewCalls, KeepsScripts}
use Rattle.lego_io.specs.Count.{raised}
use Rattle.outside.specs.declared.call.CallKind.TheVariants as kinds
use Rattle.outside.specs.declared.call.FailCall.{FailCall}
use Rattle.sim_world.specs.Told.{without_links}
use Rattle.sim_world.specs.laws.ToldLaws.{TellSame-without_links}
use Rattle.sim_world.specs.laws.ScriptLaws.{running-through, FewCalls-history}
use Rattle.sim_world.specs.Lives.{life_in}
use Rattle.sim_world.specs.Tally.{counts_of}
use Rattle.sim_world.specs.Places.{AreExpected}
use Rattle.sim_world.specs.laws.LinkStepLaws.{AreStanding-stands, AreStanding-may_call}
use Rattle.sim_world.specs.World.{WorldData, Stands, AreAsTold, given_of, seen_of, nexts_through, counted_next, is_next_answer, short_told}
use Rattle.sim_world.specs.Doing.{AppsStand, LinksStand, NextStands}
use Rattle.sim_world.specs.Keeping.{Keeps}

-- ---- Applications

plain : (w : WorldData) → Stands w → but_marks w.state ≡ w.state
plain w stands = ap but_marks (sym stands.state) ∙ stands.state

alike : (w : WorldData) → Stands w → (app : ℕ) → is_running app w.state ≡ (life_in app w.lives).running
unfolding seen_of state at_first fresh
alike w stands app =
    ap (is_running app) (sym stands.state)
    ∙ sym (running-through w.scripts w.told app w.history fresh (at_first (given_of w)) refl)
    ∙ ap (λ (l : Life). l.running) (sym (stands.lives app))

few : (w : WorldData) → Stands w → (app : ℕ) → FewCalls (length w.history) (life_in app w.lives)
few w stands app = subst (FewCalls (length w.history)) (sym (stands.lives app)) (FewCalls-history w.scripts w.told app w.history)

pub apps_stand : (w : WorldData) → Keeps w → length w.history < 2 ^ 63 → AppsStand w
apps_stand w keeps less = record {
  plain = plain w keeps.stands;
  promised = keeps.stands.room;
  alike = alike w keeps.stands;
  starts = λ app. omega (arith, (few w keeps.stands app).starts);
  gives = λ app. omega (arith, (few w keeps.stands app).gives);
  takes = λ app. omega (arith, (few w keeps.stands app).takes);
}

-- ---- Links

pub links_stand : (w : WorldData) → Keeps w → length w.history < 2 ^ 63 → LinksStand w
links_stand w keeps less = record {
  promised = keeps.stands.room;
  may_call = λ d. AreStanding-may_call w.state.moment (length w.history) d w.state.links (omega arith) keeps.standing;
}

-- ---- next

one_counted : (step : WorldStep) (n : ℕ) → counted_next step n ≤ n + 1
one_counted step n = at_most (is_next_answer step) n
  where
    at_most : (b : Bool) (m : ℕ) → (if b then m + 1 else m) ≤ m + 1
    at_most true m = omega arith
    at_most false m = omega arith

few_nexts : (steps : List WorldStep) (n : ℕ) → nexts_through steps n ≤ n + length steps
few_nexts [] n = omega arith
few_nexts (step ∷ steps) n = omega (arith, few_nexts steps (counted_next step n), one_counted step n)

pub next_stands : (w : WorldData) → Keeps w → length w.history < 2 ^ 63 → NextStands w
next_stands w keeps less = record {
  promised = keeps.stands.room;
  few = omega (arith, keeps.stands.nexts, few_nexts w.history 0);
  due = keeps.due;
  standing = AreStanding-stands w.state.moment (length w.history) w.state.links keeps.standing;
  within = keeps.within;
  can_come = keeps.stands.can_come;
}

-- ---- Its word

-- its history tells in order what its switches send
pub in_order : (w : WorldData) → Keeps w → InOrder (seen_of w)
unfolding seen_of given_of
in_order w keeps = record { declared = keeps.stands.declared; switches = keeps.stands.switches; steps = keeps.stands.history.word }

pub scripts_kept : (w : WorldData) → Keeps w → KeepsScripts w.scripts (without_links w.fails) w.history
unfolding given_of
scripts_kept w keeps = keeps.stands.history.scripts

pub told_kept : (w : WorldData) → Keeps w → AreAsTold (without_links w.fails) 0 w.history (at_first (given_of w))
unfolding given_of
told_kept w keeps = keeps.stands.history.told

pub strays_kept : (w : WorldData) → Keeps w → AreExpected w.history (at_first (given_of w)) → (seen_of w).counts.strays ≤ (seen_of w).counts.shorts
unfolding seen_of counts_of
strays_kept w keeps are = keeps.places are

-- ---- Want of memory that is told

pub short_kept : (w : WorldData) → Keeps w → short_told w.fails w.calls ≡ true → short_told w.told w.calls ≡ true
short_kept w keeps told =
    ap (short_at w.calls) keeps.stands.told ∙ TellSame-without_links w.fails kinds.Short 0 (raised w.calls) refl ∙ told
  where
    short_at : ℕ → List FailCall → Bool
    short_at calls fails = short_told fails calls
