-- What an undo leaves of a switch in a world that keeps its word: the table without the keys that were logged, and nothing waits.
use Rattle.std.specs.Prelude.{◌≡◌, ◌≢◌, ◌⊎◌, ◌==◌, ℕ, ◌+◌, ◌≤◌, Bool, true, false, List, [], ◌∷◌, ◌++◌, length, reverse, drop, map, Option, Some, None, Result, Ok, Err, if◌then◌else◌, refl}
use Rattle.std.specs.List.{AllByRecursion}
use Rattle.std.proofs.Common.{sym, ap, ◌∙◌, subst, eq-eqb, length-append, inl, inr, arith}
use Rattle.std.proofs.lemmas.Bool.{cases_eq, ne_eqb, eqb-true}
use Rattle.of_types.specs.Fields.{number_at}
use Rattle.std.proofs.lemmas.List.{map-append, reverse-append}
use Rattle.of_types.specs.declared.journal.Act.TheVariants.{Sent, Got}
use Rattle.of_match.specs.declared.key.Key.{Key}
use Rattle.of_wire.specs.declared.message.Message.TheVariants.{FlowMod, BarrierRequest, BarrierReply}
use Rattle.of_wire.specs.Spelling.{message_bytes}
use Rattle.of_wire.specs.laws.ReadingLaws.{reading_of-message_bytes}
use Rattle.flow_table.specs.declared.entry.Entry.{Entry}
use Rattle.flow_table.specs.Table.{TableState, IsTable}
use Rattle.flow_table.specs.Undone.{undone}
use Rattle.flow_table.specs.Switch.{Declared, SwitchState}
use Rattle.flow_table.specs.Step.{sent_by_message}
use Rattle.outside.specs.declared.step.WorldStep.{WorldStep}
use Rattle.outside.specs.declared.step.WorldStep.TheVariants.{Acted}
use Rattle.outside.specs.Seen.{Counts, Seen}
use Rattle.outside.specs.State.{State, after_step, after_steps, state, switch_of, waits_of}
use Rattle.outside.specs.laws.LinkLaws.{waits_of-got}
use Rattle.outside.specs.laws.StateLaws.{after_steps-append, MaySteps-front, MaySteps-rest, Conforming-rest, state-append}
use Rattle.outside.specs.Conforming.{MaySteps, Conforming}
use Rattle.undo_laws.specs.Removal.{without, without_all, OnlyAdded}
use Rattle.undo_laws.specs.laws.RemovalLaws.{without_added, is_key_among-reverse}
use Rattle.undo_laws.specs.laws.AddedLaws.{undone-added}
use Rattle.undo_laws.specs.Serials.{IsSerialed}
use Rattle.lego_model.specs.declared.wait.Awaited.{Awaited}
use Rattle.lego_model.specs.declared.wait.Heard.{Heard}
use Rattle.lego_model.specs.declared.wait.Heard.TheVariants as hearing
use Rattle.lego_model.specs.declared.fault.TxnFault.{TxnFault}
use Rattle.lego_model.specs.declared.fault.TxnFault.TheVariants.{Diverged}
use Rattle.lego_model.specs.UndoFaults.{delete_strict, inverse_bytes, key_sent, key_refused, Refuses, IsStepOf}
use Rattle.lego_model.specs.BarrierWaits.{heard, is_reply, steps_by, heard_steps, wait_steps, barrier_sent, reply_got}
use Rattle.net_txn.specs.laws.HeardLaws.{IsMessage-barrier}
use Rattle.net_txn.specs.laws.StepLaws.{first_got, reply_is_none, told_switch, told_waits, barrier_sends, barrier_stays, gots, gots_switch, gots_empty}
use Rattle.net_txn.specs.declared.halt.Halt.TheVariants.{Lost, Fault}
use Rattle.net_txn.specs.Undos.{IsFaultOf, fault_in, first_fault_of, first_fault, ended_by, SameSwitch, Restored, CanBeSent, IsBarrierPassed, alone, Part, Inverse, BarrierPassed, Stuck, part_steps, steps_of, parts_of, is_stuck, since_of, inverses_of, IsRun}
use Rattle.net_txn.specs.laws.PartLaws.{steps_other, reading_of-inverse}
use Rattle.net_txn.specs.laws.NoticeLaws.{reply_kind, notice_steps, with_entries, inverse_moves, inverse_sends, inverse_sends-few, AllNotices, notices_steps, notices_alone}
use Rattle.net_txn.specs.laws.SaidLaws.{all_two}

-- ---- The steps of a part are those of its switch.

by_of : (d : ℕ) (h : Heard) (bytes : List ℕ) → AllByRecursion (IsStepOf d) (steps_by d h bytes)
by_of d hearing.Reply bytes = tt
by_of d (hearing.Refused r) bytes = tt
by_of d hearing.Notice bytes = tt
by_of d hearing.Echo bytes = (refl, tt)
by_of d hearing.Other bytes = tt

pub wait_of : (a : Awaited) (got : List (List ℕ)) → AllByRecursion (IsStepOf a.dpid) (wait_steps a got)
wait_of a [] = tt
wait_of a (b ∷ bs) = (refl, all_two (IsStepOf a.dpid) (steps_by a.dpid (heard a b) b) (wait_steps a bs) (by_of a.dpid (heard a b) b) (wait_of a bs))

pub part_of : (old new : Counts) (d : ℕ) (p : Part) (older : List Part) → IsRun old new d (p ∷ older) → AllByRecursion (IsStepOf d) (part_steps d p)
part_of old new d (Inverse xid k) older run = (refl, tt)
part_of old new d (BarrierPassed xid got) older run = (refl, all_two (IsStepOf d) (wait_steps (alone d xid) got) (reply_got (alone d xid) ∷ []) (wait_of (alone d xid) got) (refl, tt))
part_of old new d (Stuck xid fault steps) older run = run.0.each

-- ---- One part of the switch

-- the entries that the inverses leave
abbrev pub entries_left : List Part → List Entry → List Entry
entries_left [] es = es
entries_left (Inverse xid k ∷ older) es = without k (entries_left older es)
entries_left (p ∷ older) es = entries_left older es

-- The switch so far: its table without keys, and notices wait, no more of them than entries went, and none behind a barrier whose reply
-- was got.
pub record Left (d : ℕ) (s : SwitchState) (parts : List Part) (t : State) : Type 0 where
  pub switch : switch_of d t ≡ Some (with_entries (entries_left parts s.table.entries) s)
  pub notices : AllNotices (waits_of d t)
  pub few : length (waits_of d t) + length (entries_left parts s.table.entries) ≤ length s.table.entries
  pub barred : since_of parts ≡ 0 → waits_of d t ≡ []

left_inverse : (d xid : ℕ) (k : Key) (s : SwitchState) (older : List Part) (t : State) → CanBeSent xid k → Left d s older t → Left d s (Inverse xid k ∷ older) (after_step (Acted (Sent d (inverse_bytes xid k))) t)
left_inverse d xid k s older t can l =
    let now = with_entries (entries_left older s.table.entries) s in
    let read = reading_of-inverse xid k can in
    record {
      switch = told_switch d xid (FlowMod (delete_strict k)) (inverse_bytes xid k) t now read l.switch ∙ ap (λ (x : SwitchState). Some x) (inverse_moves k now);
      notices = subst AllNotices (sym (told_waits d xid (FlowMod (delete_strict k)) (inverse_bytes xid k) t now read l.switch)) (all_two _ (waits_of d t) (sent_by_message xid (FlowMod (delete_strict k)) now) l.notices (inverse_sends xid k now));
      few = omega (arith, l.few, ap length (told_waits d xid (FlowMod (delete_strict k)) (inverse_bytes xid k) t now read l.switch), length-append (waits_of d t) (sent_by_message xid (FlowMod (delete_strict k)) now), inverse_sends-few xid k now);
      barred = λ none. absurd (omega (arith, none));
    }

left_settled : (declared : List Declared) (d xid : ℕ) (got : List (List ℕ)) (s : SwitchState) (older : List Part) (t : State) → IsBarrierPassed d xid (inverses_of older) got → MaySteps declared (part_steps d (BarrierPassed xid got)) t → Left d s older t
    → Left d s (BarrierPassed xid got ∷ older) (after_steps (part_steps d (BarrierPassed xid got)) t)
left_settled declared d xid got s older t is may l =
    let a = alone d xid in
    let now = with_entries (entries_left older s.table.entries) s in
    let reply = message_bytes xid BarrierReply in
    let read = reading_of-message_bytes xid BarrierRequest is.is_xid IsMessage-barrier in
    let u = after_step (barrier_sent a) t in
    let moved : switch_of d u ≡ Some now = told_switch d xid BarrierRequest (message_bytes xid BarrierRequest) t now read l.switch ∙ ap (λ (x : SwitchState). Some x) (barrier_stays now) in
    let waits : waits_of d u ≡ waits_of d t ++ reply ∷ [] = told_waits d xid BarrierRequest (message_bytes xid BarrierRequest) t now read l.switch ∙ ap (λ (ws : List (List ℕ)). waits_of d t ++ ws) (barrier_sends xid now) in
    let same : got ≡ waits_of d t = notices_alone declared a (waits_of d t) got u l.notices waits may.1 is.before.before_reply in
    let of_switch : List ℕ → WorldStep = λ b. Acted (Got d b) in
    let steps : wait_steps a got ++ reply_got a ∷ [] ≡ gots d (waits_of d t ++ reply ∷ []) =
    ap (λ (ws : List (List ℕ)). wait_steps a ws ++ reply_got a ∷ []) same ∙ ap (λ (xs : List WorldStep). xs ++ reply_got a ∷ []) (notices_steps a (waits_of d t) l.notices) ∙ sym (map-append of_switch (waits_of d t) (reply ∷ [])) in
    let end : after_steps (part_steps d (BarrierPassed xid got)) t ≡ after_steps (gots d (waits_of d t ++ reply ∷ [])) u = ap (λ (xs : List WorldStep). after_steps xs u) steps in
    let none : waits_of d (after_steps (part_steps d (BarrierPassed xid got)) t) ≡ [] = ap (waits_of d) end ∙ gots_empty d (waits_of d t ++ reply ∷ []) u waits in
    record {
      switch = ap (switch_of d) end ∙ gots_switch d (waits_of d t ++ reply ∷ []) u ∙ moved;
      notices = subst AllNotices (sym none) tt;
      few = omega (arith, l.few, ap length none);
      barred = λ zero_is. none;
    }

left_part : (declared : List Declared) (old new : Counts) (d : ℕ) (p : Part) (s : SwitchState) (older : List Part) (t : State) → IsRun old new d (p ∷ older) → is_stuck (p ∷ older) ≡ false → MaySteps declared (part_steps d p) t → Left d s older t
    → Left d s (p ∷ older) (after_steps (part_steps d p) t)
left_part declared old new d (Inverse xid k) s older t run free may l = left_inverse d xid k s older t run.0 l
left_part declared old new d (BarrierPassed xid got) s older t run free may l = left_settled declared d xid got s older t run.0 may l
left_part declared old new d (Stuck xid fault steps) s older t run free may l = absurd cc

pub older_free : (old new : Counts) (d : ℕ) (p : Part) (older : List Part) → IsRun old new d (p ∷ older) → is_stuck older ≡ false
older_free old new d (Inverse xid k) older run = run.2
older_free old new d (BarrierPassed xid got) older run = run.1
older_free old new d (Stuck xid fault steps) older run = run.1

older_run : (old new : Counts) (d : ℕ) (p : Part) (older : List Part) → IsRun old new d (p ∷ older) → IsRun old new d older
older_run old new d (Inverse xid k) older run = run.3
older_run old new d (BarrierPassed xid got) older run = run.2
older_run old new d (Stuck xid fault steps) older run = run.2

-- ---- All parts

abbrev pub AllRun : Counts → Counts → List (ℕ × Part) → Type 0
AllRun old new parts = (d : ℕ) → IsRun old new d (parts_of d parts)

pub runs_here : (old new : Counts) (p : ℕ × Part) (older : List (ℕ × Part)) → AllRun old new (p ∷ older) → IsRun old new p.0 (p.1 ∷ parts_of p.0 older)
runs_here old new p older all = subst (λ (b : Bool). IsRun old new p.0 (if b then p.1 ∷ parts_of p.0 older else parts_of p.0 older)) (eq-eqb p.0 p.0 refl) (all p.0)

pub runs_older : (old new : Counts) (p : ℕ × Part) (older : List (ℕ × Part)) → AllRun old new (p ∷ older) → AllRun old new older
runs_older old new p older all d =
    elim (cases_eq p.0 d) [
      | inl same ↦ subst (λ (n : ℕ). IsRun old new n (parts_of n older)) same (older_run old new p.0 p.1 (parts_of p.0 older) (runs_here old new p older all))
      | inr other ↦ subst (λ (b : Bool). IsRun old new d (if b then p.1 ∷ parts_of d older else parts_of d older)) (ne_eqb p.0 d other) (all d)
    ]

left_same : (d : ℕ) (s : SwitchState) (parts : List Part) (t u : State) → SameSwitch d t u → Left d s parts t → Left d s parts u
left_same d s parts t u same l = record {
  switch = same.0 ∙ l.switch;
  notices = subst AllNotices (sym same.1) l.notices;
  few = omega (arith, l.few, ap length same.1);
  barred = λ none. same.1 ∙ l.barred none;
}

pub left_all : (declared : List Declared) (old new : Counts) (d : ℕ) (s : SwitchState) (parts : List (ℕ × Part)) (t : State) → AllRun old new parts → is_stuck (parts_of d parts) ≡ false → MaySteps declared (steps_of parts) t
    → switch_of d t ≡ Some s → waits_of d t ≡ [] → Left d s (parts_of d parts) (after_steps (steps_of parts) t)
left_all declared old new d s [] t all free may is none = record { switch = is; notices = subst AllNotices (sym none) tt; few = omega (arith, ap length none); barred = λ zero_is. none }
left_all declared old new d s (p ∷ older) t all free may is none =
    let here = runs_here old new p older all in
    let each = part_of old new p.0 p.1 (parts_of p.0 older) here in
    let before = after_steps (steps_of older) t in
    let end : after_steps (steps_of (p ∷ older)) t ≡ after_steps (part_steps p.0 p.1) before = after_steps-append (steps_of older) (part_steps p.0 p.1) t in
    let may_older = MaySteps-front declared (steps_of older) (part_steps p.0 p.1) t may in
    let may_part = MaySteps-rest declared (steps_of older) (part_steps p.0 p.1) t may in
    let rest : is_stuck (parts_of d older) ≡ false → Left d s (parts_of d older) before = λ f. left_all declared old new d s older t (runs_older old new p older all) f may_older is none in
    elim (cases_eq p.0 d) [
      | inl same ↦ mine same here may_part end rest
      | inr other ↦ theirs other each end rest
    ]
  where
    mine : p.0 ≡ d → IsRun old new p.0 (p.1 ∷ parts_of p.0 older) → MaySteps declared (part_steps p.0 p.1) (after_steps (steps_of older) t) → after_steps (steps_of (p ∷ older)) t ≡ after_steps (part_steps p.0 p.1) (after_steps (steps_of older) t)
        → (is_stuck (parts_of d older) ≡ false → Left d s (parts_of d older) (after_steps (steps_of older) t)) → Left d s (parts_of d (p ∷ older)) (after_steps (steps_of (p ∷ older)) t)
    mine same here may_part end rest =
        let before = after_steps (steps_of older) t in
        let run = subst (λ (n : ℕ). IsRun old new n (p.1 ∷ parts_of n older)) same here in
        let may_here = subst (λ (n : ℕ). MaySteps declared (part_steps n p.1) before) same may_part in
        let taken : (p.0 == d) ≡ true = eq-eqb p.0 d same in
        let free_here = subst (λ (b : Bool). is_stuck (if b then p.1 ∷ parts_of d older else parts_of d older) ≡ false) taken free in
        let l = left_part declared old new d p.1 s (parts_of d older) before run free_here may_here (rest (older_free old new d p.1 (parts_of d older) run)) in
        let there = end ∙ ap (λ (n : ℕ). after_steps (part_steps n p.1) before) same in
        subst (λ (u : State). Left d s (parts_of d (p ∷ older)) u) (sym there) (subst (λ (b : Bool). Left d s (if b then p.1 ∷ parts_of d older else parts_of d older) (after_steps (part_steps d p.1) before)) (sym taken) l)

    theirs : p.0 ≢ d → AllByRecursion (IsStepOf p.0) (part_steps p.0 p.1) → after_steps (steps_of (p ∷ older)) t ≡ after_steps (part_steps p.0 p.1) (after_steps (steps_of older) t)
        → (is_stuck (parts_of d older) ≡ false → Left d s (parts_of d older) (after_steps (steps_of older) t)) → Left d s (parts_of d (p ∷ older)) (after_steps (steps_of (p ∷ older)) t)
    theirs other each end rest =
        let before = after_steps (steps_of older) t in
        let taken : (p.0 == d) ≡ false = ne_eqb p.0 d other in
        let free_here = subst (λ (b : Bool). is_stuck (if b then p.1 ∷ parts_of d older else parts_of d older) ≡ false) taken free in
        let l = left_same d s (parts_of d older) before (after_steps (part_steps p.0 p.1) before) (steps_other p.0 d (part_steps p.0 p.1) before (λ same. other (sym same)) each) (rest free_here) in
        subst (λ (u : State). Left d s (parts_of d (p ∷ older)) u) (sym end) (subst (λ (b : Bool). Left d s (if b then p.1 ∷ parts_of d older else parts_of d older) (after_steps (part_steps p.0 p.1) before)) (sym taken) l)

-- ---- The earlier table

without_all-more : (ls : List Key) (k : Key) (es : List Entry) → without_all (ls ++ k ∷ []) es ≡ without k (without_all ls es)
without_all-more [] k es = refl
without_all-more (l ∷ ls) k es = without_all-more ls k (without l es)

abbrev pub keys_reverted : List Part → List Key
keys_reverted parts = map (λ p. p.1) (inverses_of parts)

entries_left-keys : (parts : List Part) (es : List Entry) → entries_left parts es ≡ without_all (reverse (keys_reverted parts)) es
entries_left-keys [] es = refl
entries_left-keys (Inverse xid k ∷ older) es =
    ap (without k) (entries_left-keys older es) ∙ sym (without_all-more (reverse (keys_reverted older)) k es)
    ∙ ap (λ (ls : List Key). without_all ls es) (sym (reverse-append (k ∷ []) (keys_reverted older)))
entries_left-keys (BarrierPassed xid got ∷ older) es = entries_left-keys older es
entries_left-keys (Stuck xid fault steps ∷ older) es = entries_left-keys older es

pub restored_table : (parts : List Part) (keys : List Key) (s : SwitchState) (before : TableState) → keys_reverted parts ≡ keys → IsTable before.entries → IsSerialed s.table → OnlyAdded keys before.entries s.table.entries
    → with_entries (entries_left parts s.table.entries) s ≡ record s { table = undone before s.table s.moment }
restored_table parts keys s before same was is only =
    let es = s.table.entries in
    let now : entries_left parts es ≡ before.entries =
    entries_left-keys parts es ∙ ap (λ (ks : List Key). without_all (reverse ks) es) same ∙ without_added keys (reverse keys) before.entries es was is.table only (is_key_among-reverse keys) in
    ap (λ (xs : List Entry). with_entries xs s) now ∙ ap (λ (t : TableState). record s { table = t }) (sym (undone-added s.moment keys before s.table was is only))

-- ---- From what is seen

none_other : (old new : Counts) (d : ℕ) (parts : List (ℕ × Part)) (t : State) → AllRun old new parts → parts_of d parts ≡ [] → SameSwitch d t (after_steps (steps_of parts) t)
none_other old new d [] t all none = (refl, refl)
none_other old new d (p ∷ older) t all none =
    let here = runs_here old new p older all in
    let each = part_of old new p.0 p.1 (parts_of p.0 older) here in
    let end = after_steps-append (steps_of older) (part_steps p.0 p.1) t in
    let rest = none_other old new d older t (runs_older old new p older all) in
    elim (cases_eq p.0 d) [
      | inl same ↦ absurd (not_none (subst (λ (b : Bool). (if b then p.1 ∷ parts_of d older else parts_of d older) ≡ []) (eq-eqb p.0 d same) none))
      | inr other ↦
          (let r = rest (subst (λ (b : Bool). (if b then p.1 ∷ parts_of d older else parts_of d older) ≡ []) (ne_eqb p.0 d other) none) in
          let o = steps_other p.0 d (part_steps p.0 p.1) (after_steps (steps_of older) t) (λ same. other (sym same)) each in
          (ap (switch_of d) end ∙ o.0 ∙ r.0, ap (waits_of d) end ∙ o.1 ∙ r.1))
    ]
  where
    not_none : p.1 ∷ parts_of d older ≡ [] → ⊥
    not_none is = cc

pub others_stay : {Own : Type 0} (old new : Seen Own) (d : ℕ) (parts : List (ℕ × Part)) → new.given ≡ old.given → new.history ≡ old.history ++ steps_of parts → AllRun old.counts new.counts parts → parts_of d parts ≡ [] → SameSwitch d (state old) (state new)
others_stay old new d parts given is all none =
    subst (λ (t : State). SameSwitch d (state old) t) (sym (state-append old new (steps_of parts) given is)) (none_other old.counts new.counts d parts (state old) all none)

pub restored : {Own : Type 0} (old new : Seen Own) (d : ℕ) (s : SwitchState) (before : TableState) (keys : List Key) (parts : List (ℕ × Part)) → new.given ≡ old.given → new.history ≡ old.history ++ steps_of parts → AllRun old.counts new.counts parts → Conforming new
    → is_stuck (parts_of d parts) ≡ false → keys_reverted (parts_of d parts) ≡ keys → since_of (parts_of d parts) ≡ 0 → switch_of d (state old) ≡ Some s → waits_of d (state old) ≡ [] → IsTable before.entries → IsSerialed s.table → OnlyAdded keys before.entries s.table.entries
    → Restored d before s (state new)
restored old new d s before keys parts given is all conforming free same none here waits was serialed only =
    let may = Conforming-rest old new (steps_of parts) given is conforming in
    let l = left_all old.given.declared old.counts new.counts d s parts (state old) all free may here waits in
    subst (λ (t : State). Restored d before s t) (sym (state-append old new (steps_of parts) given is)) (record {
      switch = l.switch ∙ ap (λ (x : SwitchState). Some x) (restored_table (parts_of d parts) keys s before same was serialed only);
      waits = l.barred none;
    })

-- ---- No inverse is refused

no_error : (declared : List Declared) (a : Awaited) (ws got : List (List ℕ)) (bytes : List ℕ) (t : State) → AllNotices ws → waits_of a.dpid t ≡ ws ++ message_bytes a.barrier BarrierReply ∷ [] → MaySteps declared (wait_steps a got ++ Acted (Got a.dpid bytes) ∷ []) t
    → AllByRecursion (λ b. is_reply (heard a b) ≡ false) got → number_at 1 1 bytes ≡ 1 → ⊥
no_error declared a [] [] bytes t all waits may before kind =
    let is = first_got declared a.dpid bytes (message_bytes a.barrier BarrierReply) [] [] t waits may in
    let reply = ap (number_at 1 1) is ∙ reply_kind a.barrier in
    omega (arith, kind, reply)
no_error declared a [] (b ∷ bs) bytes t all waits may before kind =
    let is = first_got declared a.dpid b (message_bytes a.barrier BarrierReply) [] _ t waits may in
    reply_is_none a b is before.0
no_error declared a (w ∷ ws) [] bytes t all waits may before kind =
    let is = first_got declared a.dpid bytes w (ws ++ message_bytes a.barrier BarrierReply ∷ []) [] t waits may in
    let other = ap (number_at 1 1) is ∙ all.0.kind in
    omega (arith, kind, other)
no_error declared a (w ∷ ws) (b ∷ bs) bytes t all waits may before kind =
    let reply = message_bytes a.barrier BarrierReply in
    let is : b ≡ w = first_got declared a.dpid b w (ws ++ reply ∷ []) _ t waits may in
    let here = subst (λ (x : List ℕ). MaySteps declared ((heard_steps a x ++ wait_steps a bs) ++ Acted (Got a.dpid bytes) ∷ []) t) is may in
    let steps = subst (λ (xs : List WorldStep). MaySteps declared ((xs ++ wait_steps a bs) ++ Acted (Got a.dpid bytes) ∷ []) t) (notice_steps a w all.0) here in
    let left : waits_of a.dpid (after_step (Acted (Got a.dpid w)) t) ≡ ws ++ reply ∷ [] = waits_of-got a.dpid w t ∙ ap (drop 1) waits in
    no_error declared a ws bs bytes (after_step (Acted (Got a.dpid w)) t) all.1 left steps.1 before.1 kind

refused_kind : (kind : Bool) (k : Option Key) (key : Key) → (if kind then k else None) ≡ Some key → kind ≡ true
refused_kind true k key is = refl
refused_kind false k key is = absurd cc

refused_error : (sent : List (ℕ × Key)) (bytes : List ℕ) (key : Key) → key_refused sent bytes ≡ Some key → number_at 1 1 bytes ≡ 1
unfolding key_refused
refused_error sent bytes key is = eqb-true (number_at 1 1 bytes) 1 (refused_kind (number_at 1 1 bytes == 1) (key_sent (number_at 4 4 bytes) sent) key is)

pub left_refused : (declared : List Declared) (d : ℕ) (sent : List (ℕ × Key)) (steps : List WorldStep) (inverse bytes : List ℕ) (s : SwitchState) (older : List Part) (t : State) → Refuses d sent steps inverse bytes → MaySteps declared steps t → Left d s older t → ⊥
left_refused declared d sent steps inverse bytes s older t r may l =
    let a = r.awaited in
    let here = subst (λ (n : ℕ). Left n s older t) (sym r.of_switch) l in
    let now = with_entries (entries_left older s.table.entries) s in
    let reply = message_bytes a.barrier BarrierReply in
    let read = reading_of-message_bytes a.barrier BarrierRequest r.is_xid IsMessage-barrier in
    let u = after_step (barrier_sent a) t in
    let waits : waits_of a.dpid u ≡ waits_of a.dpid t ++ reply ∷ [] = told_waits a.dpid a.barrier BarrierRequest (message_bytes a.barrier BarrierRequest) t now read here.switch ∙ ap (λ (ws : List (List ℕ)). waits_of a.dpid t ++ ws) (barrier_sends a.barrier now) in
    let going = subst (λ (xs : List WorldStep). MaySteps declared xs t) r.steps_is may in
    no_error declared a (waits_of a.dpid t) r.got bytes u here.notices waits going.1 r.before.before_reply (refused_error sent bytes r.key r.of_key)

pub earlier_or : (o later : Option TxnFault) (g : TxnFault) → first_fault_of o later ≡ Some g → (o ≡ Some g) ⊎ ((o ≡ None) × (later ≡ Some g))
earlier_or None later g is = inr (refl, is)
earlier_or (Some f) later g is = inl is

pub one_fault : (f g : TxnFault) → Some f ≡ Some g → f ≡ g
one_fault f g e = cc

stuck_refused : (declared : List Declared) (old new : Counts) (d e : ℕ) (p : Part) (inverse bytes : List ℕ) (s : SwitchState) (older : List Part) (t : State) → IsRun old new e (p ∷ older) → fault_in p ≡ Some (Diverged d inverse bytes) → MaySteps declared (part_steps e p) t
    → (e ≡ d → is_stuck older ≡ false → Left e s older t) → ⊥
stuck_refused declared old new d e (Inverse xid k) inverse bytes s older t run is may l = absurd cc
stuck_refused declared old new d e (BarrierPassed xid got) inverse bytes s older t run is may l = absurd cc
stuck_refused declared old new d e (Stuck xid Lost steps) inverse bytes s older t run is may l = absurd cc
stuck_refused declared old new d e (Stuck xid (Fault fault) steps) inverse bytes s older t run is may l =
    let same : fault ≡ Diverged d inverse bytes = one_fault fault (Diverged d inverse bytes) is in
    let cause = subst (λ (f : TxnFault). IsFaultOf e (inverses_of older) old new steps f) same run.0.cause in
    left_refused declared e (inverses_of older) steps inverse bytes s older t cause.1 may (l (sym cause.0) run.1)

pub none_refused : (declared : List Declared) (old new : Counts) (d : ℕ) (s : SwitchState) (inverse bytes : List ℕ) (parts : List (ℕ × Part)) (t : State) → AllRun old new parts → MaySteps declared (steps_of parts) t → switch_of d t ≡ Some s → waits_of d t ≡ []
    → first_fault parts ≡ Some (Diverged d inverse bytes) → ⊥
none_refused declared old new d s inverse bytes [] t all may is none first = absurd cc
none_refused declared old new d s inverse bytes (p ∷ older) t all may is none first =
    let before = after_steps (steps_of older) t in
    let may_older = MaySteps-front declared (steps_of older) (part_steps p.0 p.1) t may in
    let may_part = MaySteps-rest declared (steps_of older) (part_steps p.0 p.1) t may in
    let rest = none_refused declared old new d s inverse bytes older t (runs_older old new p older all) may_older is none in
    let l : p.0 ≡ d → is_stuck (parts_of p.0 older) ≡ false → Left p.0 s (parts_of p.0 older) before = λ same free.
    left_all declared old new p.0 s older t (runs_older old new p older all) free may_older (ap (λ (n : ℕ). switch_of n t) same ∙ is) (ap (λ (n : ℕ). waits_of n t) same ∙ none) in
    elim (earlier_or (first_fault older) (fault_in p.1) (Diverged d inverse bytes) first) [
      | inl earlier ↦ rest earlier
      | inr now ↦ stuck_refused declared old new d p.0 p.1 inverse bytes s (parts_of p.0 older) before (runs_here old new p older all) now.1 may_part l
    ]

ended_err : (o : Option TxnFault) (r : Result (Unit {0}) TxnFault) (f : TxnFault) → r ≡ ended_by o → r ≡ Err f → o ≡ Some f
ended_err None r f is err = let bad : Ok tt ≡ Err f = sym is ∙ err in absurd cc
ended_err (Some g) r f is err = let same : Err g ≡ Err f = sym is ∙ err in cc

pub accepted : {Own : Type 0} (old new : Seen Own) (d : ℕ) (s : SwitchState) (inverse bytes : List ℕ) (parts : List (ℕ × Part)) (result : Result (Unit {0}) TxnFault) → new.given ≡ old.given → new.history ≡ old.history ++ steps_of parts → AllRun old.counts new.counts parts → Conforming new
    → result ≡ ended_by (first_fault parts) → switch_of d (state old) ≡ Some s → waits_of d (state old) ≡ [] → result ≡ Err (Diverged d inverse bytes) → ⊥
accepted old new d s inverse bytes parts result given is all conforming ended here waits err =
    let may = Conforming-rest old new (steps_of parts) given is conforming in
    none_refused old.given.declared old.counts new.counts d s inverse bytes parts (state old) all may here waits (ended_err (first_fault parts) result (Diverged d inverse bytes) ended err)
