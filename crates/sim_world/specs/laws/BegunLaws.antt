-- Laws of the stimuli that were begun: they are those that stand before the ones to come.
use Rattle.std.specs.Prelude.{◌≡◌, ℕ, ◌<◌, ◌≤◌, List, ◌++◌, length, take, drop, None, slice_get}
use Rattle.std.proofs.Common.{sym, ap, ◌∙◌, arith}
use Rattle.std.proofs.lemmas.List.{append_cancel_right, take-append-drop, length-take}
use Rattle.std.proofs.lemmas.Option.{slice_get_past}
use Rattle.of_types.specs.declared.journal.WorldStim.{WorldStim}
use Rattle.outside.specs.Seen.{journal}
use Rattle.outside.specs.Stimuli.{stimuli}
use Rattle.outside.specs.State.{State}
use Rattle.outside.specs.laws.StimuliLaws.{begun-and-to_come}
use Rattle.sim_world.specs.World.{WorldData, given_of, seen_of}
use Rattle.sim_world.specs.Keeping.{Keeps}
use Rattle.sim_world.specs.laws.StandingLaws.{in_order}
use Rattle.session_lists.specs.laws.StepLaws.{got_taken}

-- ---- The front of a list

front_is : (n : ℕ) (begun all : List WorldStim) → begun ++ drop n all ≡ all → begun ≡ take n all
front_is n begun all is = append_cancel_right begun (take n all) (drop n all) (is ∙ sym (take-append-drop n all))

-- one of those that were begun is the one of all by its number
pub begun_at : (n i : ℕ) (begun all : List WorldStim) → begun ++ drop n all ≡ all → i < n → slice_get begun i ≡ slice_get all i
begun_at n i begun all is less = ap (λ (xs : List WorldStim). slice_get xs i) (front_is n begun all is) ∙ got_taken n i all less

-- and from there on there is none
pub none_begun_at : (n i : ℕ) (begun all : List WorldStim) → begun ++ drop n all ≡ all → n ≤ i → slice_get begun i ≡ None
none_begun_at n i begun all is most =
    slice_get_past begun i (omega (arith, most, ap (λ (xs : List WorldStim). length xs) (front_is n begun all is), length-take n all))

-- ---- A world

pub begun_kept : (w : WorldData) → Keeps w → stimuli (journal (seen_of w).history) ++ w.state.to_come ≡ w.stimuli
unfolding seen_of given_of
begun_kept w keeps =
    ap (λ (s : State). stimuli (journal w.history) ++ s.to_come) (sym keeps.stands.state)
    ∙ begun-and-to_come (seen_of w) (in_order w keeps)
