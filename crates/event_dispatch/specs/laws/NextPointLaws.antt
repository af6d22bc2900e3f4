-- Laws of what is told next: no quiescent point lies behind the one before it, since one stimulus is begun at most and comes first, and no call of a
-- link is made.
use Rattle.std.specs.Prelude.{◌≡◌, ℕ, true, false, List, [], ◌∷◌, ◌++◌, take, Option, Some, None, Result, Ok, Err, refl}
use Rattle.std.specs.List.{AllByRecursion}
use Rattle.std.proofs.Common.{sym, ap, ◌∙◌, true≢false}
use Rattle.of_types.specs.declared.journal.WorldStim.{WorldStim}
use Rattle.of_types.specs.declared.journal.Act.TheVariants.{Stim}
use Rattle.flow_table.specs.Switch.{Declared}
use Rattle.outside.specs.declared.faults.NextFault.{NextFault}
use Rattle.outside.specs.declared.faults.NextFault.TheVariants as coming
use Rattle.outside.specs.declared.item.Item.{Item}
use Rattle.outside.specs.declared.item.Item.TheVariants as items
use Rattle.outside.specs.declared.step.WorldStep.TheVariants.{Acted, From, Joined, Left, Moment}
use Rattle.outside.specs.Seen.{Seen}
use Rattle.outside.specs.State.{State, upcoming, after_stim, after_act, after_step, after_steps, state}
use Rattle.outside.specs.Calls.{Nexts, stim_steps, item_step, next_steps}
use Rattle.outside.specs.laws.CallLaws.{Nexts-state, nothing_next}
use Rattle.outside.specs.Conforming.{MayAct, MayStep}
use Rattle.outside.specs.InOrder.{brings_message, BringMessages, MessagesSince, MayCome, MayComeAll, InOrder}
use Rattle.outside.specs.laws.InOrderLaws.{InOrder-rest, messages-by}
use Rattle.outside.specs.Quiescence.{is_quiescent, NoneQuiescent, NoneQuiescentLater}
use Rattle.net_txn.specs.LinkSteps.{MakesNoStrayCall}
use Rattle.lego_model.specs.UndoFaults.{AreExpectedOnLinks}
use Rattle.net_txn.specs.laws.LinkStrayLaws.{no_strays_by}
use Rattle.run_laws.specs.Cut.{IsCallAmong}
use Rattle.event_dispatch.specs.Batch.{rest_by}
use Rattle.event_dispatch.specs.Steady.{NothingUnderWay}
use Rattle.event_dispatch.specs.Told.{NextPoint}
use Rattle.event_dispatch.specs.laws.AbreastItemLaws.{next_may}

-- ---- The steps

item_unquiet : (item : Item) (buf : List ℕ) → is_quiescent (item_step item buf) ≡ false
unfolding item_step
item_unquiet (items.From d n) buf = refl
item_unquiet (items.Joined d n) buf = refl
item_unquiet (items.Left d) buf = refl
item_unquiet (items.Moment t) buf = refl
item_unquiet items.Idle buf = refl
item_unquiet items.End buf = refl

-- a stimulus comes first
next_later : (begun : Option WorldStim) (result : Result Item NextFault) (buf : List ℕ) → NoneQuiescentLater (next_steps begun result buf)
unfolding next_steps
next_later None (Ok item) buf = tt
next_later (Some x) (Ok item) buf = (item_unquiet item buf, tt)
next_later begun (Err coming.Failed) buf = tt
next_later begun (Err coming.Short) buf = tt

-- none is begun where one is begun already
none_begun : (declared : List Declared) (x : WorldStim) (s : State) → MayCome declared (Acted (Stim x)) s → s.begun ≡ false
unfolding MayCome MayStep MayAct
none_begun declared x s may = may.none_begun

next_unquiet : (declared : List Declared) (begun : Option WorldStim) (result : Result Item NextFault) (buf : List ℕ) (s : State) → MayComeAll declared (next_steps begun result buf) s → s.begun ≡ true → NoneQuiescent (next_steps begun result buf)
unfolding next_steps
next_unquiet declared None (Ok item) buf s may is = (item_unquiet item buf, tt)
next_unquiet declared (Some x) (Ok item) buf s may is = absurd (true≢false (sym is ∙ none_begun declared x s may.0))
next_unquiet declared begun (Err coming.Failed) buf s may is = (refl, tt)
next_unquiet declared begun (Err coming.Short) buf s may is = tt

item_for : (number : ℕ) (item : Item) (buf : List ℕ) → IsCallAmong number (item_step item buf)
unfolding item_step
item_for number (items.From d n) buf = tt
item_for number (items.Joined d n) buf = tt
item_for number (items.Left d) buf = tt
item_for number (items.Moment t) buf = tt
item_for number items.Idle buf = tt
item_for number items.End buf = tt

next_for : (number : ℕ) (begun : Option WorldStim) (result : Result Item NextFault) (buf : List ℕ) → AllByRecursion (IsCallAmong number) (next_steps begun result buf)
unfolding next_steps
next_for number None (Ok item) buf = (item_for number item buf, tt)
next_for number (Some x) (Ok item) buf = (tt, (item_for number item buf, tt))
next_for number begun (Err coming.Failed) buf = (tt, tt)
next_for number begun (Err coming.Short) buf = tt

-- no quiescent point lies behind the one before it
pub next_quietly : {Own Tells : Type 0} {number : ℕ} {old new : Seen Own} {result : Result Item NextFault} {buf : List ℕ} → Nexts Tells old new result buf → NextPoint Tells number old new
next_quietly {number = number} {old = old} {new = new} {result = result} {buf = buf} call = record {
  last = λ told. record { steps = next_steps (call.told told).begun result buf; history = (call.told told).history; none_later = next_later (call.told told).begun result buf };
  none_quiescent = λ told order is.
      let begun = (call.told told).begun in
      let may = InOrder-rest old new (next_steps begun result buf) call.given (call.told told).history order in
      record { steps = next_steps begun result buf; history = (call.told told).history; none = next_unquiet old.given.declared begun result buf (state old) may is };
  own = λ told. record { steps = next_steps (call.told told).begun result buf; history = (call.told told).history; all = next_for number (call.told told).begun result buf };
}

-- ---- Calls of links, and what came

item_place : (item : Item) (buf : List ℕ) (s : State) → AreExpectedOnLinks (item_step item buf ∷ []) s
unfolding item_step
item_place (items.From d n) buf s = (tt, tt)
item_place (items.Joined d n) buf s = (tt, tt)
item_place (items.Left d) buf s = (tt, tt)
item_place (items.Moment t) buf s = (tt, tt)
item_place items.Idle buf s = (tt, tt)
item_place items.End buf s = (tt, tt)

next_place : (begun : Option WorldStim) (result : Result Item NextFault) (buf : List ℕ) (s : State) → AreExpectedOnLinks (next_steps begun result buf) s
unfolding next_steps
next_place None (Ok item) buf s = item_place item buf s
next_place (Some x) (Ok item) buf s = (tt, item_place item buf (after_step (Acted (Stim x)) s))
next_place begun (Err coming.Failed) buf s = (tt, tt)
next_place begun (Err coming.Short) buf s = tt

pub next_in_place : {Own Tells : Type 0} {old new : Seen Own} {result : Result Item NextFault} {buf : List ℕ} → Nexts Tells old new result buf → Tells → MakesNoStrayCall old new
next_in_place {old = old} {new = new} {result = result} {buf = buf} call told =
    no_strays_by old new (next_steps (call.told told).begun result buf) (call.told told).history (next_place (call.told told).begun result buf (state old))

next_brings : (begun : Option WorldStim) (item : Item) (buf : List ℕ) → brings_message (item_step item buf) ≡ true → BringMessages (next_steps begun (Ok item) buf)
unfolding next_steps
next_brings None item buf read = (read, tt)
next_brings (Some x) item buf read = (refl, (read, tt))

-- an item that is a message, if it came of a switch
pub next_messages : {Own Tells : Type 0} {old new : Seen Own} {item : Item} {buf : List ℕ} → Nexts Tells old new (Ok item) buf → Tells → brings_message (item_step item buf) ≡ true → MessagesSince old new
next_messages {old = old} {new = new} {item = item} {buf = buf} call told read =
    messages-by old new (next_steps (call.told told).begun (Ok item) buf) (call.told told).history (next_brings (call.told told).begun item buf read)

-- ---- A stimulus is begun while a batch goes on

item_begun : (item : Item) (buf : List ℕ) (t : State) → None ≡ rest_by item → t.begun ≡ true → (after_step (item_step item buf) t).begun ≡ true
unfolding item_step after_step
item_begun (items.From d n) buf t goes is = is
item_begun (items.Joined d n) buf t goes is = is
item_begun (items.Left d) buf t goes is = is
item_begun (items.Moment m) buf t goes is = is
item_begun items.Idle buf t goes is = absurd cc
item_begun items.End buf t goes is = absurd cc

begun_stim : (x : WorldStim) (s : State) → (after_step (Acted (Stim x)) s).begun ≡ true
unfolding after_step after_act after_stim
begun_stim x s = refl

still_begun : (begun : Option WorldStim) (s : State) → s.begun ≡ true → (after_steps (stim_steps begun) s).begun ≡ true
still_begun None s is = is
still_begun (Some x) s is = begun_stim x s

no_item : (declared : List Declared) (item : Item) (buf : List ℕ) (s : State) → None ≡ rest_by item → upcoming s ≡ [] → MayCome declared (item_step item buf) s → ⊥
unfolding item_step MayCome MayStep
no_item declared (items.From d n) buf s goes none may = nothing_next (From d (take n buf)) s none may
no_item declared (items.Joined d n) buf s goes none may = nothing_next (Joined d (take n buf)) s none may
no_item declared (items.Left d) buf s goes none may = nothing_next (Left d) s none may
no_item declared (items.Moment m) buf s goes none may = nothing_next (Moment m) s none may
no_item declared items.Idle buf s goes none may = absurd cc
no_item declared items.End buf s goes none may = absurd cc

begun_anew : (declared : List Declared) (begun : Option WorldStim) (item : Item) (buf : List ℕ) (s : State) → None ≡ rest_by item → upcoming s ≡ [] → MayComeAll declared (stim_steps begun ++ item_step item buf ∷ []) s → (after_steps (stim_steps begun) s).begun ≡ true
begun_anew declared None item buf s goes none may = absurd (no_item declared item buf s goes none may.0)
begun_anew declared (Some x) item buf s goes none may = begun_stim x s

pub next_still : {Own Tells : Type 0} {old new : Seen Own} {item : Item} {buf : List ℕ} → Nexts Tells old new (Ok item) buf → Tells → None ≡ rest_by item → (state old).begun ≡ true → (state new).begun ≡ true
next_still {old = old} {new = new} {item = item} {buf = buf} call told goes is =
    ap (λ (s : State). s.begun) (Nexts-state item told call) ∙ item_begun item buf (after_steps (stim_steps (call.told told).begun) (state old)) goes (still_begun (call.told told).begun (state old) is)

pub next_anew : {Own Tells : Type 0} {old new : Seen Own} {item : Item} {buf : List ℕ} → Nexts Tells old new (Ok item) buf → Tells → InOrder new → None ≡ rest_by item → NothingUnderWay (state old) → (state new).begun ≡ true
next_anew {old = old} {new = new} {item = item} {buf = buf} call told order goes rest =
    let begun = (call.told told).begun in
    ap (λ (s : State). s.begun) (Nexts-state item told call)
    ∙ item_begun item buf (after_steps (stim_steps begun) (state old)) goes (begun_anew old.given.declared begun item buf (state old) goes rest.none_upcoming (next_may told call order))
