-- Where a world keeps its word, switch and view take a change together.
use Rattle.std.specs.Prelude.{◌≡◌, ◌≢◌, ℕ, ◌^◌, ◌<◌, ◌≤◌, Bool, true, false, List, [], ◌∷◌, ◌++◌, Option, Some, None, Ok, refl}
use Rattle.std.specs.List.{AllByRecursion}
use Rattle.std.specs.Option.{option_map}
use Rattle.std.proofs.Common.{sym, ap, ◌∙◌, subst}
use Rattle.std.proofs.lemmas.List.{append-nil}
use Rattle.of_types.specs.declared.errors.OfError.{OfError}
use Rattle.of_wire.specs.declared.bodies.FlowMod.{FlowMod as Change}
use Rattle.of_wire.specs.declared.message.Message.{Message}
use Rattle.of_wire.specs.declared.message.Message.TheVariants.{FlowMod, BarrierRequest, BarrierReply}
use Rattle.of_wire.specs.Reading.{reading_of}
use Rattle.of_wire.specs.Spelling.{message_bytes}
use Rattle.of_wire.specs.Grammar.{enveloped}
use Rattle.of_wire.specs.laws.ReadingLaws.{reading_of-message_bytes}
use Rattle.flow_table.specs.declared.view.ViewRow.{ViewRow}
use Rattle.flow_table.specs.View.{TableView}
use Rattle.flow_table.specs.Change.{changed, entries_after}
use Rattle.flow_table.specs.Table.{TableState}
use Rattle.flow_table.specs.Switch.{Declared, SwitchState}
use Rattle.flow_table.specs.Refusals.{or_else, message_refusal}
use Rattle.flow_table.specs.Step.{after_taken, after_message, sent_by_taken, sent_by_message, error_bytes}
use Rattle.flow_table.specs.laws.RefusalLaws.{refused_sent}
use Rattle.app_frames.specs.declared.frame.Answer.{Answer}
use Rattle.app_frames.specs.laws.BodyLaws.{map_some}
use Rattle.lego_model.specs.Answers.{Rows, rows_of_table, rows_of_view, as_sent, would_touch, flow_mod_refused, not_yet, refused_or, host_refusal, host_answer, answer_by, switch_answer}
use Rattle.outside.specs.declared.step.WorldStep.{WorldStep}
use Rattle.outside.specs.Seen.{Seen}
use Rattle.outside.specs.State.{State, after_step, after_steps, state, switch_of, waits_of}
use Rattle.outside.specs.laws.StateLaws.{state-append, Conforming-rest}
use Rattle.outside.specs.laws.LinkLaws.{switch_of-sent_other, waits_of-sent_other}
use Rattle.outside.specs.Conforming.{MaySteps, Conforming}
use Rattle.lego_model.specs.declared.wait.Refusal.{Refusal}
use Rattle.lego_model.specs.declared.wait.Heard.TheVariants.{Refused}
use Rattle.net_txn.specs.Waits.{Brought, first_refusal, notices_of}
use Rattle.lego_model.specs.BarrierWaits.{heard, is_reply, kept_of, wait_steps, barrier_sent, reply_got, next_xid}
use Rattle.net_txn.specs.Views.{rows_at, rows_after}
use Rattle.net_txn.specs.laws.ViewLaws.{rows_at-same, rows_at-other}
use Rattle.net_txn.specs.Net.{NetState, awaited_from}
use Rattle.net_txn.specs.laws.SentLaws.{reading_of-as_sent}
use Rattle.net_txn.specs.laws.RowLaws.{sent, known_command, rows_agree, no_notices}
use Rattle.net_txn.specs.laws.HeardLaws.{IsMessage-barrier, IsSmall, small_refusal, next_xid-lt, heard-error}
use Rattle.net_txn.specs.laws.StepLaws.{told_switch, told_waits, barrier_sends, barrier_stays, gots, gots_switch, gots_other, gots_other_waits, gots_empty, got_rest, reply_alone, error_alone}
use Rattle.net_txn.specs.Answering.{known_rows, answer_of_host, error_in, views_by, held_by, change_sent, Asked}
use Rattle.lego_model.specs.Packets.{HeldBack}
use Rattle.app_frames.specs.declared.frame.Event.{Event}
use Rattle.net_txn.specs.ChangeSteps.{Agrees, InStep}
use Rattle.lego_model.specs.Places.{table_rows}

-- ---- Before the messages that were got: the change and the barrier were sent.

pub record Sending (d xid : ℕ) (m : Change) (s : SwitchState) (before after : State) : Type 0 where
  pub switch : switch_of d after ≡ Some (after_message (as_sent (FlowMod m)) s)
  pub waits : waits_of d after ≡ sent_by_message xid (as_sent (FlowMod m)) s ++ message_bytes (next_xid xid) BarrierReply ∷ []
  pub others : (e : ℕ) → e ≢ d → switch_of e after ≡ switch_of e before
  pub others_wait : (e : ℕ) → e ≢ d → waits_of e after ≡ waits_of e before

abbrev pub after_both : ℕ → ℕ → Change → State → State
after_both d xid m t = after_step (barrier_sent (awaited_from d xid)) (after_step (change_sent d xid m) t)

pub both_sent : (d xid : ℕ) (m : Change) (s : SwitchState) (t : State) → reading_of (message_bytes xid (as_sent (FlowMod m))) ≡ Ok (enveloped xid (as_sent (FlowMod m))) → next_xid xid < 2 ^ 32
    → switch_of d t ≡ Some s → waits_of d t ≡ [] → Sending d xid m s t (after_both d xid m t)
both_sent d xid m s t read small is none =
    let change = message_bytes xid (as_sent (FlowMod m)) in
    let barrier = message_bytes (next_xid xid) BarrierRequest in
    let asks = reading_of-message_bytes (next_xid xid) BarrierRequest small IsMessage-barrier in
    let one = after_step (change_sent d xid m) t in
    let moved = told_switch d xid (as_sent (FlowMod m)) change t s read is in
    let sends : waits_of d one ≡ sent_by_message xid (as_sent (FlowMod m)) s = told_waits d xid (as_sent (FlowMod m)) change t s read is ∙ ap (λ (ws : List (List ℕ)). ws ++ sent_by_message xid (as_sent (FlowMod m)) s) none in
    let next = after_message (as_sent (FlowMod m)) s in
    record {
      switch = told_switch d (next_xid xid) BarrierRequest barrier one next asks moved ∙ ap (λ (x : SwitchState). some_switch x) (barrier_stays next);
      waits = told_waits d (next_xid xid) BarrierRequest barrier one next asks moved ∙ ap (λ (ws : List (List ℕ)). ws ++ sent_by_message (next_xid xid) BarrierRequest next) sends
          ∙ ap (λ (ws : List (List ℕ)). sent_by_message xid (as_sent (FlowMod m)) s ++ ws) (barrier_sends (next_xid xid) next);
      others = λ e other. switch_of-sent_other d e barrier one other ∙ switch_of-sent_other d e change t other;
      others_wait = λ e other. waits_of-sent_other d e barrier one other ∙ waits_of-sent_other d e change t other;
    }
  where
    some_switch : SwitchState → Option SwitchState
    some_switch x = Some x

-- ---- What the switch sends for a change that the host let pass

refused_stays : (m : Message) (s : SwitchState) (e : OfError) → message_refusal s m ≡ Some e → after_message m s ≡ s
unfolding after_message
refused_stays m s e is = rw is refl

pub taken_sends : (xid : ℕ) (m : Change) (s : SwitchState) → message_refusal s (as_sent (FlowMod m)) ≡ None → would_touch m (rows_of_table s.table.entries) ≡ false → sent_by_message xid (as_sent (FlowMod m)) s ≡ []
unfolding sent_by_message sent_by_taken
taken_sends xid m s is none = rw (is, no_notices m s.table.entries s.moment none) refl

taken_table : (m : Change) (s : SwitchState) → message_refusal s (as_sent (FlowMod m)) ≡ None → (after_message (as_sent (FlowMod m)) s).table ≡ changed s.moment (sent m) s.table
unfolding after_message after_taken
taken_table m s is = rw is refl

-- ---- The messages that were got

-- what is left when the reply came
pub record Played (d xid : ℕ) (m : Change) (s : SwitchState) (got : List (List ℕ)) (before after : State) : Type 0 where
  pub refused : error_in (first_refusal (awaited_from d xid) got) ≡ message_refusal s (as_sent (FlowMod m))
  pub none_kept : kept_of (awaited_from d xid) got ≡ []
  pub none_noticed : notices_of (awaited_from d xid) got ≡ []
  pub switch : switch_of d after ≡ Some (after_message (as_sent (FlowMod m)) s)
  pub waits : waits_of d after ≡ []
  pub others : (e : ℕ) → e ≢ d → switch_of e after ≡ switch_of e before
  pub others_wait : (e : ℕ) → e ≢ d → waits_of e after ≡ waits_of e before

abbrev pub reply_to : ℕ → List ℕ
reply_to xid = message_bytes (next_xid xid) BarrierReply

pub small_of : (e : OfError) → IsSmall (Some e) → (e.kind < 256 ^ 2) × (e.code < 256 ^ 2)
small_of e is = is.small

-- where all that waited was got
reverted_all : (d xid : ℕ) (m : Change) (s : SwitchState) (got ws : List (List ℕ)) (before mid after : State) → Sending d xid m s before mid → waits_of d mid ≡ ws → after ≡ after_steps (gots d ws) mid
    → error_in (first_refusal (awaited_from d xid) got) ≡ message_refusal s (as_sent (FlowMod m)) → kept_of (awaited_from d xid) got ≡ [] → notices_of (awaited_from d xid) got ≡ [] → Played d xid m s got before after
reverted_all d xid m s got ws before mid after sending waits is refused kept noticed = record {
  refused = refused;
  none_kept = kept;
  none_noticed = noticed;
  switch = ap (switch_of d) is ∙ gots_switch d ws mid ∙ sending.switch;
  waits = ap (waits_of d) is ∙ gots_empty d ws mid waits;
  others = λ e other. ap (switch_of e) is ∙ gots_other d e ws mid other ∙ sending.others e other;
  others_wait = λ e other. ap (waits_of e) is ∙ gots_other_waits d e ws mid other ∙ sending.others_wait e other;
}

reverted_by : (declared : List Declared) (d xid : ℕ) (m : Change) (s : SwitchState) (got : List (List ℕ)) (before mid after : State) → xid < 2 ^ 32 → Sending d xid m s before mid
    → would_touch m (rows_of_table s.table.entries) ≡ false → AllByRecursion (λ b. is_reply (heard (awaited_from d xid) b) ≡ false) got → MaySteps declared (wait_steps (awaited_from d xid) got ++ reply_got (awaited_from d xid) ∷ []) mid
    → after ≡ after_steps (wait_steps (awaited_from d xid) got ++ reply_got (awaited_from d xid) ∷ []) mid → (o : Option OfError) → message_refusal s (as_sent (FlowMod m)) ≡ o → Played d xid m s got before after
reverted_by declared d xid m s got before mid after lt sending none before_reply may is None refusal =
    let a = awaited_from d xid in
    let waits : waits_of d mid ≡ reply_to xid ∷ [] = sending.waits ∙ ap (λ (ws : List (List ℕ)). ws ++ reply_to xid ∷ []) (taken_sends xid m s refusal none) in
    let got_is : got ≡ [] = reply_alone declared a got mid waits may before_reply in
    let steps : wait_steps a got ++ reply_got a ∷ [] ≡ gots d (reply_to xid ∷ []) = ap (λ (gs : List (List ℕ)). wait_steps a gs ++ reply_got a ∷ []) got_is in
    reverted_all d xid m s got (reply_to xid ∷ []) before mid after sending waits (is ∙ ap (λ (xs : List WorldStep). after_steps xs mid) steps)
    (ap (λ (gs : List (List ℕ)). error_in (first_refusal a gs)) got_is ∙ sym refusal) (ap (kept_of a) got_is) (ap (notices_of a) got_is)
reverted_by declared d xid m s got before mid after lt sending none before_reply may is (Some e) refusal =
    let a = awaited_from d xid in
    let error = error_bytes xid (as_sent (FlowMod m)) e in
    let r : Refusal = record { xid = xid; error = e } in
    let small = small_of e (subst IsSmall refusal (small_refusal s (sent m))) in
    let refused : heard a error ≡ Refused r = heard-error d xid (as_sent (FlowMod m)) e lt small in
    let waits : waits_of d mid ≡ error ∷ reply_to xid ∷ [] = sending.waits ∙ ap (λ (ws : List (List ℕ)). ws ++ reply_to xid ∷ []) (refused_sent xid (as_sent (FlowMod m)) s e refusal) in
    let got_is : got ≡ error ∷ [] = error_alone declared a error r got mid waits refused may before_reply in
    let steps : wait_steps a got ++ reply_got a ∷ [] ≡ gots d (error ∷ reply_to xid ∷ []) = ap (λ (gs : List (List ℕ)). wait_steps a gs ++ reply_got a ∷ []) got_is ∙ got_rest a error r [] refused in
    let answer : error_in (first_refusal a (error ∷ [])) ≡ Some e = rw refused refl in
    let kept : kept_of a (error ∷ []) ≡ [] = rw refused refl in
    let noticed : notices_of a (error ∷ []) ≡ [] = rw refused refl in
    reverted_all d xid m s got (error ∷ reply_to xid ∷ []) before mid after sending waits (is ∙ ap (λ (xs : List WorldStep). after_steps xs mid) steps)
    (ap (λ (gs : List (List ℕ)). error_in (first_refusal a gs)) got_is ∙ answer ∙ sym refusal) (ap (kept_of a) got_is ∙ kept) (ap (notices_of a) got_is ∙ noticed)

-- ---- What the host let pass

passed_if : (a : Option OfError) (b : Bool) → refused_or (or_else a (not_yet b)) None ≡ None → (a ≡ None) × (b ≡ false)
passed_if None true h = absurd cc
passed_if None false h = (refl, refl)
passed_if (Some e) b h = absurd cc

-- the switch is joined, and the change touches no row
pub record Passed (d : ℕ) (m : Change) (views : List TableView) : Type 0 where
  pub rows : Rows
  pub known : known_rows d views ≡ Some rows
  pub command : m.command ≤ 4
  pub touches_none : would_touch m rows ≡ false

passed_by : (d : ℕ) (bytes : List ℕ) (m : Change) (views : List TableView) (xid : ℕ) (o : Option Rows) → known_rows d views ≡ o → host_answer o bytes ≡ None → reading_of bytes ≡ Ok (enveloped xid (FlowMod m)) → Passed d m views
unfolding host_answer host_refusal
passed_by d bytes m views xid None known host read = absurd cc
passed_by d bytes m views xid (Some rows) known host read =
    let p = passed_if (flow_mod_refused m) (would_touch m rows) (rw read at host) in
    record { rows = rows; known = known; command = known_command m p.0; touches_none = p.1 }

pub passed : (d : ℕ) (bytes : List ℕ) (m : Change) (net : NetState) (xid : ℕ) → answer_of_host d bytes net ≡ None → reading_of bytes ≡ Ok (enveloped xid (FlowMod m)) → Passed d m net.views
passed d bytes m net xid host read = passed_by d bytes m net.views xid (known_rows d net.views) refl host read

-- ---- The view

entries_then : (m : Change) (s : SwitchState) (now : ℕ) → (changed now (sent m) s.table).entries ≡ entries_after now s.table.next (sent m) s.table.entries
unfolding changed
entries_then m s now = refl

abbrev pub some_rows : Rows → Option Rows
some_rows rows = Some rows

abbrev pub rows_by : Option Refusal → Change → List ViewRow → List ViewRow
rows_by None m rows = rows_after m rows
rows_by (Some r) m rows = rows

agreed : (m : Change) (s : SwitchState) (rows : List ViewRow) (refusal : Option Refusal) → error_in refusal ≡ message_refusal s (as_sent (FlowMod m)) → rows_of_view rows ≡ table_rows s → m.command ≤ 4 → would_touch m (rows_of_view rows) ≡ false
    → rows_of_view (rows_by refusal m rows) ≡ table_rows (after_message (as_sent (FlowMod m)) s)
agreed m s rows None refused same command none =
    rows_agree m rows s.table.entries s.moment s.table.next same command none ∙ ap rows_of_table (sym (entries_then m s s.moment)) ∙ ap (λ (t : TableState). rows_of_table t.entries) (sym (taken_table m s (sym refused)))
agreed m s rows (Some r) refused same command none = same ∙ ap table_rows (sym (refused_stays (as_sent (FlowMod m)) s r.error (sym refused)))

views_at : (refusal : Option Refusal) (d : ℕ) (m : Change) (views : List TableView) (rows : List ViewRow) → rows_at d views ≡ Some rows → rows_at d (views_by refusal d m views) ≡ Some (rows_by refusal m rows)
views_at None d m views rows is = rows_at-same d (rows_after m) views rows is
views_at (Some r) d m views rows is = is

views_other : (refusal : Option Refusal) (d e : ℕ) (m : Change) (views : List TableView) → e ≢ d → rows_at e (views_by refusal d m views) ≡ rows_at e views
views_other None d e m views other = rows_at-other d e (rows_after m) views other
views_other (Some r) d e m views other = refl

-- ---- What is held

none_held : (refusal : Option Refusal) (d : ℕ) (views : List TableView) (notices : List (List ℕ)) (held : HeldBack) → notices ≡ [] → held_by refusal d views notices held ≡ held
none_held None d views notices held none = rw none (ap (λ (events : List Event). record held { notices = events }) (append-nil held.notices))
none_held (Some r) d views notices held none = refl

-- ---- The whole

pub in_step : {Own : Type 0} {Tells : Type 0} (d : ℕ) (bytes : List ℕ) (old new : Seen Own) (net now_net : NetState) (answer : Answer) (m : Change) (xid : ℕ) → Tells → Asked Tells d m old new net now_net answer
    → answer_of_host d bytes net ≡ None → reading_of bytes ≡ Ok (enveloped xid (FlowMod m)) → Conforming new → waits_of d (state old) ≡ [] → Agrees d net.views (state old) → InStep d (as_sent (FlowMod m)) old new net now_net answer
unfolding switch_answer
in_step d bytes old new net now_net answer m xid told asked host read keeps waits agrees =
    let p = passed d bytes m net xid host read in
    let joined = map_some table_rows (switch_of d (state old)) p.rows (sym agrees ∙ p.known) in
    let s = joined.0 in
    let seen = map_some rows_of_view (rows_at d net.views) p.rows p.known in
    let rows = seen.0 in
    let none_touched : would_touch m (table_rows s) ≡ false = ap (would_touch m) joined.2 ∙ p.touches_none in
    let hears = asked.waits.hears in
    let steps = change_sent d net.xid m ∷ barrier_sent (awaited_from d net.xid) ∷ (wait_steps (awaited_from d net.xid) asked.waits.got ++ reply_got (awaited_from d net.xid) ∷ []) in
    let may = Conforming-rest old new steps hears.continues.given (hears.told told) keeps in
    let after = state-append old new steps hears.continues.given (hears.told told) in
    let sending = both_sent d net.xid m s (state old) (reading_of-as_sent net.xid m asked.is_xid.1 asked.message) (next_xid-lt net.xid asked.is_xid.1) joined.1 waits in
    let reverted = reverted_by old.given.declared d net.xid m s asked.waits.got (state old) (after_both d net.xid m (state old)) (state new) asked.is_xid.1 sending none_touched hears.before_reply may.1.1 after
    (message_refusal s (as_sent (FlowMod m))) refl in
    let refused : error_in asked.refusal ≡ message_refusal s (as_sent (FlowMod m)) = ap (λ (b : Brought). error_in b.refusal) hears.answer_is ∙ reverted.refused in
    let shown : rows_of_view rows ≡ table_rows s = seen.2 ∙ sym joined.2 in
    let there : rows_at d now_net.views ≡ Some (rows_by asked.refusal m rows) = ap (rows_at d) asked.views ∙ views_at asked.refusal d m net.views rows seen.1 in
    let same = agreed m s rows asked.refusal refused shown p.command (ap (would_touch m) seen.2 ∙ p.touches_none) in
    record {
      answer_is = rw joined.1 (asked.answer_is ∙ ap answer_by refused);
      moved = rw joined.1 reverted.switch;
      waits = reverted.waits;
      others = reverted.others;
      others_wait = reverted.others_wait;
      kept = hears.kept_is ∙ ap (λ (more : List (ℕ × List ℕ)). net.kept ++ more) reverted.none_kept ∙ append-nil net.kept;
      held = asked.held ∙ none_held asked.refusal d net.views asked.notices net.held (ap (λ (b : Brought). b.notices) hears.answer_is ∙ reverted.none_noticed);
      agrees = rw (there, reverted.switch) (ap (λ (r : Rows). some_rows r) same);
      others_agree = λ e other before. ap (λ (v : Option (List ViewRow)). option_map rows_of_view v) (ap (rows_at e) asked.views ∙ views_other asked.refusal d e m net.views other) ∙ before ∙ ap (λ (o : Option SwitchState). option_map table_rows o) (sym (reverted.others e other));
    }
