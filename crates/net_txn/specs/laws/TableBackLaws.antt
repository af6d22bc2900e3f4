-- What an undo leaves of the table of a switch, whatever its world tells besides, and whatever waits of it: the table without the keys
-- whose inverses were sent. What comes of a switch moves no table.
use Rattle.std.specs.Prelude.{◌≡◌, ◌≢◌, ◌==◌, ℕ, Bool, true, false, List, [], ◌∷◌, ◌++◌, Option, Some, if◌then◌else◌}
use Rattle.std.specs.List.{AllByRecursion}
use Rattle.std.specs.Option.{is_some}
use Rattle.std.proofs.Common.{sym, ap, ◌∙◌, subst, eq-eqb, inl, inr}
use Rattle.std.proofs.lemmas.Bool.{cases_eq, ne_eqb}
use Rattle.of_types.specs.declared.journal.Act.TheVariants.{Sent}
use Rattle.of_match.specs.declared.key.Key.{Key}
use Rattle.of_wire.specs.declared.message.Message.TheVariants.{FlowMod, BarrierRequest, BarrierReply}
use Rattle.of_wire.specs.Spelling.{message_bytes}
use Rattle.of_wire.specs.laws.ReadingLaws.{reading_of-message_bytes}
use Rattle.flow_table.specs.Table.{TableState, IsTable}
use Rattle.flow_table.specs.Switch.{SwitchState}
use Rattle.outside.specs.declared.step.WorldStep.TheVariants.{Acted}
use Rattle.outside.specs.Seen.{Counts, Seen}
use Rattle.outside.specs.State.{State, after_step, after_steps, state, switch_of, is_joined}
use Rattle.outside.specs.laws.LinkLaws.{switch_of-got}
use Rattle.outside.specs.laws.StateLaws.{after_steps-append, state-append}
use Rattle.undo_laws.specs.Removal.{OnlyAdded}
use Rattle.undo_laws.specs.Serials.{IsSerialed}
use Rattle.lego_model.specs.BarrierWaits.{wait_steps, barrier_sent, reply_got}
use Rattle.lego_model.specs.UndoFaults.{delete_strict, inverse_bytes, IsStepOf}
use Rattle.net_txn.specs.laws.HeardLaws.{IsMessage-barrier}
use Rattle.net_txn.specs.laws.StepLaws.{told_switch, barrier_stays}
use Rattle.net_txn.specs.laws.NoticeLaws.{with_entries, inverse_moves}
use Rattle.net_txn.specs.laws.PartLaws.{steps_other, reading_of-inverse}
use Rattle.net_txn.specs.Undos.{IsTableBack, CanBeSent, IsBarrierPassed, alone, Part, Inverse, BarrierPassed, Stuck, part_steps, steps_of, parts_of, is_stuck, inverses_of, IsRun}
use Rattle.net_txn.specs.laws.RestoreLaws.{part_of, AllRun, runs_here, runs_older, entries_left, keys_reverted, restored_table, older_free}
use Rattle.net_txn.specs.laws.WaitMoveLaws.{wait_switch, some_switch}
use Rattle.net_txn.specs.laws.LinkStrayLaws.{switch_there}

-- ---- One part of an undo

-- the table of the switch without the keys so far
abbrev pub IsTableLeft : ℕ → SwitchState → List Part → State → Type 0
IsTableLeft d s parts t = switch_of d t ≡ Some (with_entries (entries_left parts s.table.entries) s)

table_inverse : (d xid : ℕ) (k : Key) (s : SwitchState) (older : List Part) (t : State) → CanBeSent xid k → IsTableLeft d s older t → IsTableLeft d s (Inverse xid k ∷ older) (after_step (Acted (Sent d (inverse_bytes xid k))) t)
table_inverse d xid k s older t can l =
    let now = with_entries (entries_left older s.table.entries) s in
    told_switch d xid (FlowMod (delete_strict k)) (inverse_bytes xid k) t now (reading_of-inverse xid k can) l ∙ ap (λ (x : SwitchState). some_switch x) (inverse_moves k now)

table_barred : (d xid : ℕ) (got : List (List ℕ)) (s : SwitchState) (older : List Part) (t : State) → IsBarrierPassed d xid (inverses_of older) got → IsTableLeft d s older t
    → IsTableLeft d s (BarrierPassed xid got ∷ older) (after_steps (part_steps d (BarrierPassed xid got)) t)
table_barred d xid got s older t is l =
    let a = alone d xid in
    let now = with_entries (entries_left older s.table.entries) s in
    let u = after_step (barrier_sent a) t in
    let moved : switch_of d u ≡ Some now =
    told_switch d xid BarrierRequest (message_bytes xid BarrierRequest) t now (reading_of-message_bytes xid BarrierRequest is.is_xid IsMessage-barrier) l ∙ ap (λ (x : SwitchState). some_switch x) (barrier_stays now) in
    ap (switch_of d) (after_steps-append (wait_steps a got) (reply_got a ∷ []) u)
    ∙ switch_of-got d (message_bytes xid BarrierReply) (after_steps (wait_steps a got) u)
    ∙ wait_switch a got u
    ∙ moved

table_part : (old new : Counts) (d : ℕ) (p : Part) (s : SwitchState) (older : List Part) (t : State) → IsRun old new d (p ∷ older) → is_stuck (p ∷ older) ≡ false → IsTableLeft d s older t → IsTableLeft d s (p ∷ older) (after_steps (part_steps d p) t)
table_part old new d (Inverse xid k) s older t run free l = table_inverse d xid k s older t run.0 l
table_part old new d (BarrierPassed xid got) s older t run free l = table_barred d xid got s older t run.0 l
table_part old new d (Stuck xid fault steps) s older t run free l = absurd cc

-- ---- All parts

pub table_left : (old new : Counts) (d : ℕ) (s : SwitchState) (parts : List (ℕ × Part)) (t : State) → AllRun old new parts → is_stuck (parts_of d parts) ≡ false → switch_of d t ≡ Some s
    → IsTableLeft d s (parts_of d parts) (after_steps (steps_of parts) t)
table_left old new d s [] t all free is = is
table_left old new d s (p ∷ older) t all free is =
    let here = runs_here old new p older all in
    let each = part_of old new p.0 p.1 (parts_of p.0 older) here in
    let end : after_steps (steps_of (p ∷ older)) t ≡ after_steps (part_steps p.0 p.1) (after_steps (steps_of older) t) = after_steps-append (steps_of older) (part_steps p.0 p.1) t in
    let rest : is_stuck (parts_of d older) ≡ false → IsTableLeft d s (parts_of d older) (after_steps (steps_of older) t) = λ f. table_left old new d s older t (runs_older old new p older all) f is in
    elim (cases_eq p.0 d) [
      | inl same ↦ mine same here end rest
      | inr other ↦ theirs other each end rest
    ]
  where
    mine : p.0 ≡ d → IsRun old new p.0 (p.1 ∷ parts_of p.0 older) → after_steps (steps_of (p ∷ older)) t ≡ after_steps (part_steps p.0 p.1) (after_steps (steps_of older) t)
        → (is_stuck (parts_of d older) ≡ false → IsTableLeft d s (parts_of d older) (after_steps (steps_of older) t)) → IsTableLeft d s (parts_of d (p ∷ older)) (after_steps (steps_of (p ∷ older)) t)
    mine same here end rest =
        let before = after_steps (steps_of older) t in
        let run = subst (λ (n : ℕ). IsRun old new n (p.1 ∷ parts_of n older)) same here in
        let taken : (p.0 == d) ≡ true = eq-eqb p.0 d same in
        let free_here = subst (λ (b : Bool). is_stuck (if b then p.1 ∷ parts_of d older else parts_of d older) ≡ false) taken free in
        let l = table_part old new d p.1 s (parts_of d older) before run free_here (rest (older_free old new d p.1 (parts_of d older) run)) in
        let there = end ∙ ap (λ (n : ℕ). after_steps (part_steps n p.1) before) same in
        subst (λ (u : State). IsTableLeft d s (parts_of d (p ∷ older)) u) (sym there) (subst (λ (b : Bool). IsTableLeft d s (if b then p.1 ∷ parts_of d older else parts_of d older) (after_steps (part_steps d p.1) before)) (sym taken) l)

    theirs : p.0 ≢ d → AllByRecursion (IsStepOf p.0) (part_steps p.0 p.1) → after_steps (steps_of (p ∷ older)) t ≡ after_steps (part_steps p.0 p.1) (after_steps (steps_of older) t)
        → (is_stuck (parts_of d older) ≡ false → IsTableLeft d s (parts_of d older) (after_steps (steps_of older) t)) → IsTableLeft d s (parts_of d (p ∷ older)) (after_steps (steps_of (p ∷ older)) t)
    theirs other each end rest =
        let before = after_steps (steps_of older) t in
        let taken : (p.0 == d) ≡ false = ne_eqb p.0 d other in
        let free_here = subst (λ (b : Bool). is_stuck (if b then p.1 ∷ parts_of d older else parts_of d older) ≡ false) taken free in
        let stays = (steps_other p.0 d (part_steps p.0 p.1) before (λ same. other (sym same)) each).0 in
        let l : IsTableLeft d s (parts_of d older) (after_steps (part_steps p.0 p.1) before) = stays ∙ rest free_here in
        subst (λ (u : State). IsTableLeft d s (parts_of d (p ∷ older)) u) (sym end) (subst (λ (b : Bool). IsTableLeft d s (if b then p.1 ∷ parts_of d older else parts_of d older) (after_steps (part_steps p.0 p.1) before)) (sym taken) l)

-- ---- It stays joined

pub joined_left : (old new : Counts) (d : ℕ) (parts : List (ℕ × Part)) (t : State) → AllRun old new parts → is_stuck (parts_of d parts) ≡ false → is_joined d t ≡ true → is_joined d (after_steps (steps_of parts) t) ≡ true
joined_left old new d parts t all free joined =
    let here = switch_there (switch_of d t) joined in
    ap (λ (o : Option SwitchState). is_some o) (table_left old new d here.0 parts t all free here.1)

pub stays_joined : {Own : Type 0} (old new : Seen Own) (d : ℕ) (parts : List (ℕ × Part)) → new.given ≡ old.given → new.history ≡ old.history ++ steps_of parts → AllRun old.counts new.counts parts → is_stuck (parts_of d parts) ≡ false
    → is_joined d (state old) ≡ true → is_joined d (state new) ≡ true
stays_joined old new d parts given is all free joined =
    subst (λ (t : State). is_joined d t ≡ true) (sym (state-append old new (steps_of parts) given is)) (joined_left old.counts new.counts d parts (state old) all free joined)

-- ---- The earlier table

pub table_back : {Own : Type 0} (old new : Seen Own) (d : ℕ) (s : SwitchState) (before : TableState) (keys : List Key) (parts : List (ℕ × Part)) → new.given ≡ old.given → new.history ≡ old.history ++ steps_of parts → AllRun old.counts new.counts parts
    → is_stuck (parts_of d parts) ≡ false → keys_reverted (parts_of d parts) ≡ keys → switch_of d (state old) ≡ Some s → IsTable before.entries → IsSerialed s.table → OnlyAdded keys before.entries s.table.entries → IsTableBack d before s (state new)
table_back old new d s before keys parts given is all free same here was serialed only =
    ap (switch_of d) (state-append old new (steps_of parts) given is)
    ∙ table_left old.counts new.counts d s parts (state old) all free here
    ∙ ap (λ (x : SwitchState). some_switch x) (restored_table (parts_of d parts) keys s before same was serialed only)
