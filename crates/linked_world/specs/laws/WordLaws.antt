-- A world whose switches are those of a world that keeps its word keeps its word.
use Rattle.std.specs.Prelude.{◌≡◌, true, List, [], ◌∷◌, refl}
use Rattle.std.proofs.Common.{sym, ◌∙◌, subst, inl, inr}
use Rattle.std.proofs.lemmas.Bool.{cases_Bool, false≢true}
use Rattle.of_types.specs.declared.journal.Act.TheVariants.{Stim, Started, Gave, Gone, Took, Ended, Sent, Got, Lost}
use Rattle.of_types.specs.declared.journal.WorldStim.{WorldStim}
use Rattle.of_types.specs.declared.journal.WorldStim.TheVariants.{Join, Leave, At, Of}
use Rattle.flow_table.specs.Switch.{Declared}
use Rattle.outside.specs.declared.step.WorldStep.{WorldStep}
use Rattle.outside.specs.declared.step.WorldStep.TheVariants.{Acted, TookInto, From, Joined, Left, Moment, Idle, End, Opened, NotOpened, NextFailed, SendLost, RecvLost, SendFailed, RecvFailed}
use Rattle.outside.specs.Seen.{Seen}
use Rattle.outside.specs.State.{State, at_first, after_stim, after_step, switch_of, waits_of, upcoming, link_fails}
use Rattle.outside.specs.Conforming.{MayBegin, MayAct, MayStep, Conforming}
use Rattle.outside.specs.InOrder.{brings_message, BringMessages, MayCome, MayComeAll, InOrder}
use Rattle.outside.specs.laws.InOrderLaws.{in_order-Conforming}
use Rattle.linked_world.specs.Linked.{is_app_step, link_steps, Note, noted, woven, Grows, AppCounts, seen_with, seen_of, Linkage, IsLinkage}
use Rattle.linked_world.specs.laws.SideLaws.{link_side, side-app, side-alike}
use Rattle.linked_world.specs.laws.WovenLaws.{links-woven}

-- ---- Applications steer nothing

same_begun : (x : WorldStim) (s : State) → upcoming (after_stim x s) ≡ upcoming (after_stim x (link_side s))
unfolding upcoming after_stim switch_of
same_begun (Join d) s = refl
same_begun (Leave d) s = refl
same_begun (At t) s = refl
same_begun (Of d x) s = refl

same_upcoming : (s : State) → upcoming s ≡ upcoming (link_side s)
unfolding upcoming
same_upcoming s = refl

begin_but : (declared : List Declared) (x : WorldStim) (s : State) → MayBegin declared x s → MayBegin declared x (link_side s)
begin_but declared x s may = record {
  stimulus = may.stimulus;
  none_begun = may.none_begun;
  to_come = may.to_come;
  few = rw (← same_begun x s, ← same_upcoming s) may.few;
}

begin_with : (declared : List Declared) (x : WorldStim) (s : State) → MayBegin declared x (link_side s) → MayBegin declared x s
begin_with declared x s may = record {
  stimulus = may.stimulus;
  none_begun = may.none_begun;
  to_come = may.to_come;
  few = rw (same_begun x s, same_upcoming s) may.few;
}

come_but : (declared : List Declared) (step : WorldStep) (s : State) → MayCome declared step s → MayCome declared step (link_side s)
unfolding MayCome MayStep MayAct upcoming waits_of switch_of link_fails
come_but declared (Acted (Stim x)) s may = begin_but declared x s may
come_but declared (Acted (Started app ok)) s may = may
come_but declared (Acted (Gave app bytes)) s may = may
come_but declared (Acted (Gone app bytes)) s may = may
come_but declared (Acted (Took app what)) s may = may
come_but declared (Acted (Ended app)) s may = may
come_but declared (Acted (Sent d bytes)) s may = may
come_but declared (Acted (Got d bytes)) s may = may
come_but declared (Acted (Lost d)) s may = may
come_but declared (TookInto app what room) s may = may
come_but declared (From d bytes) s may = may
come_but declared (Joined d bytes) s may = may
come_but declared (Left d) s may = may
come_but declared (Moment t) s may = may
come_but declared Idle s may = may
come_but declared End s may = may
come_but declared Opened s may = may
come_but declared NotOpened s may = may
come_but declared NextFailed s may = may
come_but declared (SendLost d) s may = may
come_but declared (RecvLost d) s may = may
come_but declared (SendFailed d) s may = may
come_but declared (RecvFailed d) s may = may

come_with : (declared : List Declared) (step : WorldStep) (s : State) → MayCome declared step (link_side s) → MayCome declared step s
unfolding MayCome MayStep MayAct upcoming waits_of switch_of link_fails
come_with declared (Acted (Stim x)) s may = begin_with declared x s may
come_with declared (Acted (Started app ok)) s may = may
come_with declared (Acted (Gave app bytes)) s may = may
come_with declared (Acted (Gone app bytes)) s may = may
come_with declared (Acted (Took app what)) s may = may
come_with declared (Acted (Ended app)) s may = may
come_with declared (Acted (Sent d bytes)) s may = may
come_with declared (Acted (Got d bytes)) s may = may
come_with declared (Acted (Lost d)) s may = may
come_with declared (TookInto app what room) s may = may
come_with declared (From d bytes) s may = may
come_with declared (Joined d bytes) s may = may
come_with declared (Left d) s may = may
come_with declared (Moment t) s may = may
come_with declared Idle s may = may
come_with declared End s may = may
come_with declared Opened s may = may
come_with declared NotOpened s may = may
come_with declared NextFailed s may = may
come_with declared (SendLost d) s may = may
come_with declared (RecvLost d) s may = may
come_with declared (SendFailed d) s may = may
come_with declared (RecvFailed d) s may = may

come_alike : (declared : List Declared) (step : WorldStep) (s t : State) → link_side s ≡ link_side t → MayCome declared step s → MayCome declared step t
come_alike declared step s t alike may = come_with declared step t (subst (MayCome declared step) alike (come_but declared step s may))

-- steps of applications may come at any time
app_comes : (declared : List Declared) (step : WorldStep) (s : State) → is_app_step step ≡ true → MayCome declared step s
unfolding MayCome MayStep MayAct
app_comes declared (Acted (Stim x)) s is = absurd (false≢true is)
app_comes declared (Acted (Started app ok)) s is = tt
app_comes declared (Acted (Gave app bytes)) s is = tt
app_comes declared (Acted (Gone app bytes)) s is = tt
app_comes declared (Acted (Took app what)) s is = tt
app_comes declared (Acted (Ended app)) s is = tt
app_comes declared (Acted (Sent d bytes)) s is = absurd (false≢true is)
app_comes declared (Acted (Got d bytes)) s is = absurd (false≢true is)
app_comes declared (Acted (Lost d)) s is = absurd (false≢true is)
app_comes declared (TookInto app what room) s is = tt
app_comes declared (From d bytes) s is = absurd (false≢true is)
app_comes declared (Joined d bytes) s is = absurd (false≢true is)
app_comes declared (Left d) s is = absurd (false≢true is)
app_comes declared (Moment t) s is = absurd (false≢true is)
app_comes declared Idle s is = absurd (false≢true is)
app_comes declared End s is = absurd (false≢true is)
app_comes declared Opened s is = absurd (false≢true is)
app_comes declared NotOpened s is = absurd (false≢true is)
app_comes declared NextFailed s is = absurd (false≢true is)
app_comes declared (SendLost d) s is = absurd (false≢true is)
app_comes declared (RecvLost d) s is = absurd (false≢true is)
app_comes declared (SendFailed d) s is = absurd (false≢true is)
app_comes declared (RecvFailed d) s is = absurd (false≢true is)

-- ---- Histories

-- what may come without the steps of applications may come with them
come_among : (declared : List Declared) (steps : List WorldStep) (s t : State) → link_side s ≡ link_side t → MayComeAll declared (link_steps steps) t → MayComeAll declared steps s
unfolding link_steps
come_among declared [] s t alike may = tt
come_among declared (step ∷ steps) s t alike may =
    elim (cases_Bool (is_app_step step)) [
      | inl app ↦ (app_comes declared step s app, come_among declared steps (after_step step s) t (side-app step s app ∙ alike) (rw app at may))
      | inr other ↦
          let here : MayComeAll declared (step ∷ link_steps steps) t = rw other at may in
          (come_alike declared step t s (sym alike) here.0, come_among declared steps (after_step step s) (after_step step t) (side-alike step s t alike) here.1)
    ]

-- and what may come with them may come without
come_without : (declared : List Declared) (steps : List WorldStep) (s t : State) → link_side s ≡ link_side t → MayComeAll declared steps s → MayComeAll declared (link_steps steps) t
unfolding link_steps
come_without declared [] s t alike may = tt
come_without declared (step ∷ steps) s t alike may =
    elim (cases_Bool (is_app_step step)) [
      | inl app ↦ rw app (come_without declared steps (after_step step s) t (side-app step s app ∙ alike) may.1)
      | inr other ↦ rw other (come_alike declared step s t alike may.0, come_without declared steps (after_step step s) (after_step step t) (side-alike step s t alike) may.1)
    ]

app_brings : (step : WorldStep) → is_app_step step ≡ true → brings_message step ≡ true
app_brings (Acted (Stim x)) is = refl
app_brings (Acted (Started app ok)) is = refl
app_brings (Acted (Gave app bytes)) is = refl
app_brings (Acted (Gone app bytes)) is = refl
app_brings (Acted (Took app what)) is = refl
app_brings (Acted (Ended app)) is = refl
app_brings (Acted (Sent d bytes)) is = refl
app_brings (Acted (Got d bytes)) is = absurd (false≢true is)
app_brings (Acted (Lost d)) is = refl
app_brings (TookInto app what room) is = refl
app_brings (From d bytes) is = absurd (false≢true is)
app_brings (Joined d bytes) is = refl
app_brings (Left d) is = refl
app_brings (Moment t) is = refl
app_brings Idle is = refl
app_brings End is = refl
app_brings Opened is = refl
app_brings NotOpened is = refl
app_brings NextFailed is = refl
app_brings (SendLost d) is = refl
app_brings (RecvLost d) is = refl
app_brings (SendFailed d) is = refl
app_brings (RecvFailed d) is = refl

brings_among : (steps : List WorldStep) → BringMessages (link_steps steps) → BringMessages steps
unfolding link_steps
brings_among [] all = tt
brings_among (step ∷ steps) all =
    elim (cases_Bool (is_app_step step)) [
      | inl app ↦ (app_brings step app, brings_among steps (rw app at all))
      | inr other ↦
          let here : BringMessages (step ∷ link_steps steps) = rw other at all in
          (here.0, brings_among steps here.1)
    ]

brings_without : (steps : List WorldStep) → BringMessages steps → BringMessages (link_steps steps)
unfolding link_steps
brings_without [] all = tt
brings_without (step ∷ steps) all =
    elim (cases_Bool (is_app_step step)) [
      | inl app ↦ rw app (brings_without steps all.1)
      | inr other ↦ rw other (all.0, brings_without steps all.1)
    ]

-- ---- The word

pub InOrder-linked : {Own : Type 0} (notes : List Note) (apps : AppCounts) (inner : Seen Own) → Grows [] notes inner.history → InOrder inner → InOrder (seen_with notes apps inner)
unfolding seen_with
InOrder-linked notes apps inner grows order =
    let declared = inner.given.declared in
    let s = at_first inner.given in
    let links : MayComeAll declared (link_steps (woven [] notes inner.history)) s =
    subst (λ (xs : List WorldStep). MayComeAll declared xs s) (sym (links-woven [] notes inner.history grows)) (come_without declared inner.history s s refl order.steps) in
    record {
      declared = order.declared;
      switches = order.switches;
      steps = come_among declared (woven [] notes inner.history) s s refl links;
    }

pub Conforming-linked : {Own : Type 0} (notes : List Note) (apps : AppCounts) (inner : Seen Own) → Grows [] notes inner.history → InOrder inner → BringMessages inner.history → Conforming (seen_with notes apps inner)
unfolding seen_with
Conforming-linked notes apps inner grows order all =
    in_order-Conforming (seen_with notes apps inner) (InOrder-linked notes apps inner grows order)
    (brings_among (woven [] notes inner.history) (subst BringMessages (sym (links-woven [] notes inner.history grows)) (brings_without inner.history all)))

-- ---- The world as data

pub linked_in_order : {Own W : Type 0} {Tells : Type 0} (see : W → Seen Own) (d : Linkage W) → IsLinkage Tells see d → Tells → InOrder (see d.links) → InOrder (seen_of see d)
unfolding seen_of
linked_in_order see d is told order = InOrder-linked (noted see d.notes) d.counts (see d.links) (is.grows told) order

pub linked_keeps_word : {Own W : Type 0} {Tells : Type 0} (see : W → Seen Own) (d : Linkage W) → IsLinkage Tells see d → Tells → InOrder (see d.links) → BringMessages (see d.links).history → Conforming (seen_of see d)
unfolding seen_of
linked_keeps_word see d is told order all = Conforming-linked (noted see d.notes) d.counts (see d.links) (is.grows told) order all
