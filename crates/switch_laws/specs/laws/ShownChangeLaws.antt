-- What follows where a change that the host let pass reaches a switch: the switch as it is shown refuses, and goes
-- through, what the application asked for.
use Rattle.std.proofs.Common.{◌≡◌, ◌==◌, ℕ, ◌+◌, ◌/◌, ◌*◌, ◌%◌, Bool, true, false, not, List, Option, Some, None, Ok, nat_lt, if◌then◌else◌, refl, sym, ap, ap₂, ◌∙◌, arith, inl, inr, true≢false}
use Rattle.std.proofs.lemmas.Bool.{cases_Bool, eqb-true}
use Rattle.of_types.specs.declared.errors.OfError.{OfError}
use Rattle.of_wire.specs.declared.bodies.FlowMod.{FlowMod as Change}
use Rattle.of_wire.specs.declared.message.Message.TheVariants.{FlowMod}
use Rattle.of_wire.specs.Reading.{reading_of}
use Rattle.of_wire.specs.Grammar.{enveloped}
use Rattle.flow_table.specs.declared.entry.Entry.{Entry}
use Rattle.flow_table.specs.declared.view.ViewRow.{ViewRow}
use Rattle.flow_table.specs.Table.{TableState, IsTable}
use Rattle.flow_table.specs.Change.{is_delete, describes, checks_overlap, adds, changed}
use Rattle.flow_table.specs.Switch.{SwitchState}
use Rattle.flow_table.specs.Refusals.{or_else, no_buffer, is_emergency, flow_actions_refusal, flow_refusal, message_refusal}
use Rattle.flow_table.specs.Step.{after_taken, after_message}
use Rattle.flow_table.specs.laws.RefusalLaws.{first_none}
use Rattle.undo_laws.specs.Corrected.{IsCorrection, corrected, AsksTheSame}
use Rattle.undo_laws.specs.laws.CorrectedLaws.{refusal-corrected, refusal-asked, kept-corrected, addition-corrected}
use Rattle.undo_laws.specs.CorrectedSwitch.{corrected_switch}
use Rattle.lego_model.specs.Answers.{Rows, rows_of_table, would_touch, addition_refused, flow_mod_refused, not_yet, refused_or, host_refusal, host_answer, with_notice, as_sent}
use Rattle.net_txn.specs.Views.{rows_after}
use Rattle.lego_model.specs.ViewRows.{row_in}
use Rattle.flow_table.specs.Sorted.{with_row}
use Rattle.net_txn.specs.laws.RowLaws.{sent, sent_adds, known_command}
use Rattle.switch_laws.specs.Shown.{correction_in, correction_after, Passes}
use Rattle.switch_laws.specs.laws.CorrectionLaws.{goes_along, shown-but, new-shown}

-- ---- The flags that are sent: CHECK_OVERLAP and EMERG are the application's own.

checks-sent : (flags : ℕ) → checks_overlap (with_notice flags) ≡ checks_overlap flags
checks-sent flags = let same : (flags / 2 * 2 + 1) / 2 ≡ flags / 2 = omega arith in ap (λ (n : ℕ). n % 2 == 1) same

emergency-sent : (flags : ℕ) → is_emergency (with_notice flags) ≡ is_emergency flags
emergency-sent flags = let same : (flags / 2 * 2 + 1) / 4 ≡ flags / 4 = omega arith in ap (λ (n : ℕ). n % 2 == 1) same

pub asks_the_same : (m : Change) → AsksTheSame (sent m) m
asks_the_same m = record { command = refl; matching = refl; priority = refl; out_port = refl; actions = refl; checks = checks-sent m.flags }

-- ---- What the host let pass

pub no_refusal : (o : Option OfError) → refused_or o None ≡ None → o ≡ None
no_refusal None h = refl
no_refusal (Some e) h = absurd cc

no_touch : (b : Bool) → not_yet b ≡ None → b ≡ false
no_touch true h = absurd cc
no_touch false h = refl

pub passes : (rows : Rows) (bytes : List ℕ) (m : Change) (xid : ℕ) → host_answer (Some rows) bytes ≡ None → reading_of bytes ≡ Ok (enveloped xid (FlowMod m)) → Passes m rows
unfolding host_answer host_refusal
passes rows bytes m xid host read =
    let both = first_none (flow_mod_refused m) (not_yet (would_touch m rows)) (no_refusal (or_else (flow_mod_refused m) (not_yet (would_touch m rows))) (rw read at host)) in
    record { unrefused = both.0; untouched = no_touch (would_touch m rows) both.1 }

pub addition_passed : (first second deletes : Bool) (x y : OfError) (rest : Option OfError) → (if first then Some x else if second then Some y else if deletes then None else rest) ≡ None → deletes ≡ false → rest ≡ None
addition_passed true second deletes x y rest h other = absurd cc
addition_passed false true deletes x y rest h other = absurd cc
addition_passed false false true x y rest h other = absurd cc
addition_passed false false false x y rest h other = h

buffer_passed : (b : Bool) (x : OfError) (rest : Option OfError) → (if not b then Some x else rest) ≡ None → b ≡ true
buffer_passed true x rest h = refl
buffer_passed false x rest h = absurd cc

-- an addition that passed asks for no buffer
no_buffer_asked : (m : Change) → flow_mod_refused m ≡ None → is_delete m ≡ false → m.buffer_id ≡ no_buffer
unfolding flow_mod_refused addition_refused
no_buffer_asked m h other =
    eqb-true m.buffer_id no_buffer (buffer_passed (m.buffer_id == no_buffer) _ _ (addition_passed (is_emergency m.flags) (nat_lt 4 m.command) (is_delete m) _ _ _ h other))

-- ---- Refusals

actions-sent : (had : List ℕ) (m : Change) → m.buffer_id ≡ no_buffer → flow_actions_refusal had (sent m) ≡ flow_actions_refusal had m
unfolding flow_actions_refusal
actions-sent had m none = rw none refl

flow-sent : (had : List ℕ) (m : Change) → flow_mod_refused m ≡ None → flow_refusal had (sent m) ≡ flow_refusal had m
unfolding flow_refusal
flow-sent had m h =
    elim (cases_Bool (is_delete m)) [
      | inl deletes ↦ rw (emergency-sent m.flags, deletes) refl
      | inr other ↦ rw (emergency-sent m.flags, other, actions-sent had m (no_buffer_asked m h other)) refl
    ]

pub refusal-shown : (shown : Entry → Entry) → IsCorrection shown → (m : Change) (s : SwitchState) → flow_mod_refused m ≡ None → message_refusal (corrected_switch shown s) (FlowMod m) ≡ message_refusal s (as_sent (FlowMod m))
unfolding message_refusal
refusal-shown shown corrects m s h =
    ap₂ (λ (a b : Option OfError). or_else a b) (sym (flow-sent s.had m h))
    (refusal-corrected shown corrects s.declared.cap m s.table.entries ∙ sym (refusal-asked s.declared.cap (sent m) m s.table.entries (asks_the_same m)))

-- ---- The table then

adds-unsent : (m : Change) (es : List Entry) → adds m es ≡ adds (sent m) es
unfolding adds describes
adds-unsent m es = refl

-- a DELETE puts no entry in
never_adds : (m : Change) (es : List Entry) → is_delete m ≡ true → adds m es ≡ false
unfolding adds
never_adds m es is =
    elim (cases_Bool (m.command == 3)) [
      | inl three ↦ let c : m.command ≡ 3 = eqb-true m.command 3 three in rw c refl
      | inr not_three ↦ elim (cases_Bool (m.command == 4)) [
        | inl four ↦ let c : m.command ≡ 4 = eqb-true m.command 4 four in rw c refl
        | inr not_four ↦ absurd (true≢false (sym is ∙ (rw (not_three, not_four) refl)))
      ]
    ]

pub table-shown : (now : ℕ) (m : Change) (rows : List ViewRow) (t : TableState) → IsTable t.entries → Passes m (rows_of_table t.entries)
    → corrected (correction_after m rows) (changed now (sent m) t) ≡ changed now m (corrected (correction_in rows) t)
unfolding rows_after
table-shown now m rows t is p =
    elim (cases_Bool (is_delete m)) [
      | inl deletes ↦
          rw deletes
          (kept-corrected now (correction_in rows) (sent m) m t (goes_along rows).corrects (asks_the_same m) (never_adds m t.entries deletes))
      | inr other ↦
          rw other
          (addition-corrected now (correction_in rows) (correction_in (with_row (row_in m) rows)) (sent m) m t is (goes_along rows).corrects (goes_along (with_row (row_in m) rows)).corrects
          (shown-but m rows) (asks_the_same m) (adds-unsent m t.entries ∙ sent_adds m t.entries other (known_command m p.unrefused) p.untouched) (new-shown now t.next m rows))
    ]

-- ---- The switch then

-- of a change that was not refused
pub taken-shown : (m : Change) (rows : List ViewRow) (s : SwitchState) → IsTable s.table.entries → Passes m (rows_of_table s.table.entries) → message_refusal s (as_sent (FlowMod m)) ≡ None
    → after_message (FlowMod m) (corrected_switch (correction_in rows) s) ≡ corrected_switch (correction_after m rows) (after_message (as_sent (FlowMod m)) s)
unfolding after_message after_taken
taken-shown m rows s is p none =
    let also : message_refusal (corrected_switch (correction_in rows) s) (FlowMod m) ≡ None = refusal-shown (correction_in rows) (goes_along rows).corrects m s p.unrefused ∙ none in
    rw (also, none) (ap (λ (t : TableState). record s { table = t }) (sym (table-shown s.moment m rows s.table is p)))

-- of one that was refused
pub refused-shown : (m : Change) (rows : List ViewRow) (s : SwitchState) (e : OfError) → Passes m (rows_of_table s.table.entries) → message_refusal s (as_sent (FlowMod m)) ≡ Some e
    → after_message (FlowMod m) (corrected_switch (correction_in rows) s) ≡ corrected_switch (correction_in rows) (after_message (as_sent (FlowMod m)) s)
unfolding after_message
refused-shown m rows s e p some =
    let also : message_refusal (corrected_switch (correction_in rows) s) (FlowMod m) ≡ Some e = refusal-shown (correction_in rows) (goes_along rows).corrects m s p.unrefused ∙ some in
    rw (also, some) refl
