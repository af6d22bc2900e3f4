-- Where a world keeps its word, an application's request of statistics is answered by the switch's own, and nothing moves.
use Rattle.std.specs.Prelude.{◌≡◌, ◌==◌, ℕ, ◌^◌, ◌<◌, ◌≤◌, Bool, true, false, List, [], ◌∷◌, length, map, filter, Some, None, IsErr, if◌then◌else◌, refl}
use Rattle.std.specs.List.{concat}
use Rattle.std.proofs.Common.{sym, ap, ◌∙◌, subst, arith, inl, inr}
use Rattle.std.proofs.lemmas.Bool.{cases_Bool}
use Rattle.std.proofs.lemmas.List.{length-map, append-nil}
use Rattle.of_types.specs.Fields.{number_at, piece}
use Rattle.of_types.specs.Layout.{spelled, AreFields}
use Rattle.of_types.specs.laws.LayoutLaws.{length-spelled}
use Rattle.of_match.specs.declared.flow_match.Match.{Match}
use Rattle.of_match.specs.Match.{match_of}
use Rattle.of_wire.specs.declared.bodies.Stats.{Stats as StatsBody}
use Rattle.of_wire.specs.declared.message.Message.TheVariants.{StatsRequest}
use Rattle.of_stats.specs.Flows.{row_bytes, rows_bytes, AreRows}
use Rattle.of_stats.specs.Layouts.{sum_fields}
use Rattle.of_stats.specs.Parts.{joined}
use Rattle.of_stats.specs.Reading.{rows_of}
use Rattle.of_stats.specs.laws.FlowLaws.{rows_of-spelled, SpellRows-rows_bytes}
use Rattle.flow_table.specs.declared.entry.Entry.{Entry}
use Rattle.flow_table.specs.Refusals.{stats_refusal, message_refusal}
use Rattle.flow_table.specs.Rows.{is_selected, selected}
use Rattle.flow_table.specs.Statistics.{sees_table, selected_by, flow_row, flow_rows, sum_of, sum_bytes, port_rows, port_bytes, reply_rows}
use Rattle.flow_table.specs.Statistics as told
use Rattle.flow_table.specs.Switch.{SwitchState}
use Rattle.app_frames.specs.declared.frame.Answer.{Answer}
use Rattle.app_frames.specs.declared.frame.Answer.TheVariants.{Statistics}
use Rattle.outside.specs.Seen.{Seen, Continues}
use Rattle.outside.specs.State.{state, switch_of, waits_of}
use Rattle.outside.specs.laws.StateLaws.{Conforming-before}
use Rattle.outside.specs.Conforming.{Conforming}
use Rattle.lego_model.specs.declared.fault.TxnFault.{TxnFault}
use Rattle.lego_model.specs.declared.fault.TxnFault.TheVariants.{SwitchBroke, Diverged, Flooded, NoMemory}
use Rattle.lego_model.specs.Answers.{switch_answer}
use Rattle.lego_model.specs.FlowQueries.{parts_in, refusals_in, all_parts, asked_from, IsBadBody, IsAnswerTo}
use Rattle.net_txn.specs.Asks.{IsAsked, Inquiry, inquiry_sent}
use Rattle.net_txn.specs.AskSteps.{own_rows, IsAskFault}
use Rattle.net_txn.specs.Queries.{GivesAnswer, IsReplyFault, IsQueryCause, AnsweredInStep}
use Rattle.net_txn.specs.Waits.{IfFlooded}
use Rattle.net_txn.specs.laws.AskStepLaws.{joined_own, concat_flows, AskedInStep, asked_in_step}
use Rattle.flow_table.specs.laws.TableLaws.{length-filter-le}
use Rattle.net_txn.specs.laws.AskFaultLaws.{ok_no_err, broken_parts, some_came, came_long, wait_plain, plain_asks}
use Rattle.net_txn.specs.laws.TableBoundLaws.{length-filtered, table_few, switch-ports_few}

-- ---- How many rows a reply has

few_selected : (query : List ℕ) (s : SwitchState) → length (selected_by query s) ≤ length s.table.entries
unfolding selected_by
few_selected query s = by (sees_table (number_at 1 40 query))
  where
    by : (sees : Bool) → length (if sees then selected (match_of (piece 40 0 query)) (number_at 2 42 query) s.table.entries else []) ≤ length s.table.entries
    by true = length-filter-le (is_selected (match_of (piece 40 0 query)) (number_at 2 42 query)) s.table.entries
    by false = omega arith

few_flow_rows : (query : List ℕ) (s : SwitchState) → length (flow_rows query s) ≤ length s.table.entries
unfolding flow_rows
few_flow_rows query s = omega (arith, length-map (selected_by query s) (λ e. row_bytes (told.flow_row s.moment e)), few_selected query s)

few_port_rows : (query : List ℕ) (s : SwitchState) → length (port_rows query s) ≤ length s.ports
unfolding port_rows
few_port_rows query s = omega (arith, length-map (filter (told.is_asked (number_at 2 0 query)) s.ports) port_bytes, length-filtered (told.is_asked (number_at 2 0 query)) s.ports)

by_kind : (a b c d : Bool) (one two three four five : List (List ℕ)) (n : ℕ) → length one ≤ n → length two ≤ n → length three ≤ n → length four ≤ n → length five ≤ n
    → length (if a then one else if b then two else if c then three else if d then four else five) ≤ n
by_kind true b c d one two three four five n h1 h2 h3 h4 h5 = h1
by_kind false true c d one two three four five n h1 h2 h3 h4 h5 = h2
by_kind false false true d one two three four five n h1 h2 h3 h4 h5 = h3
by_kind false false false true one two three four five n h1 h2 h3 h4 h5 = h4
by_kind false false false false one two three four five n h1 h2 h3 h4 h5 = h5

few_rows : (q : StatsBody) (s : SwitchState) → length s.table.entries ≤ 4096 → length s.ports ≤ 64 → length (reply_rows q s) ≤ 4096
unfolding reply_rows
few_rows q s entries ports =
    by_kind (q.kind == 0) (q.kind == 1) (q.kind == 2) (q.kind == 3) (told.description_bytes ∷ []) (flow_rows q.body s) (sum_bytes q.body s ∷ []) (told.table_bytes s ∷ []) (port_rows q.body s) 4096
    (omega arith) (omega (arith, few_flow_rows q.body s, entries)) (omega arith) (omega arith) (omega (arith, few_port_rows q.body s, ports))

-- ---- What a reply spells

selected_rows : (moment : ℕ) (m : Match) (out_port : ℕ) (es : List Entry) → AreRows (map (flow_row moment) es) → AreRows (map (flow_row moment) (selected m out_port es))
selected_rows moment m out_port [] are = tt
selected_rows moment m out_port (e ∷ es) are =
    elim (cases_Bool (is_selected m out_port e)) [
      | inl is ↦ rw is (are.0, selected_rows moment m out_port es are.1)
      | inr other ↦ rw other (selected_rows moment m out_port es are.1)
    ]

found_rows : (query : List ℕ) (s : SwitchState) → AreRows (own_rows s) → AreRows (map (flow_row s.moment) (selected_by query s))
unfolding selected_by
found_rows query s are = by (sees_table (number_at 1 40 query))
  where
    by : (sees : Bool) → AreRows (map (flow_row s.moment) (if sees then selected (match_of (piece 40 0 query)) (number_at 2 42 query) s.table.entries else []))
    by true = selected_rows s.moment (match_of (piece 40 0 query)) (number_at 2 42 query) s.table.entries are
    by false = tt

flows_good : (q : StatsBody) (s : SwitchState) → q.kind ≡ 1 → AreRows (own_rows s) → IsErr (rows_of (concat (reply_rows q s))) → ⊥
unfolding reply_rows
flows_good q s kind are err =
    let rows = map (flow_row s.moment) (selected_by q.body s) in
    let fits = found_rows q.body s are in
    let body : concat (flow_rows q.body s) ≡ rows_bytes rows = concat_flows q.body s in
    ok_no_err (rows_of (rows_bytes rows)) rows (rows_of-spelled rows (rows_bytes rows) fits (SpellRows-rows_bytes rows fits)) (subst (λ (b : List ℕ). IsErr (rows_of b)) body (rw kind at err))

sum_fits : (es : List Entry) → length es ≤ 4096 → AreFields (sum_fields (sum_of es))
unfolding sum_of
sum_fits es few = (omega arith, (omega arith, (omega (arith, few), tt)))

sum_long : (q : StatsBody) (s : SwitchState) → length s.table.entries ≤ 4096 → q.kind ≡ 2 → length (concat (reply_rows q s)) ≡ 24
unfolding reply_rows sum_bytes
sum_long q s few kind =
    let es = selected_by q.body s in
    let short : length es ≤ 4096 = omega (arith, few_selected q.body s, few) in
    rw kind (ap length (append-nil (spelled (sum_fields (sum_of es)))) ∙ length-spelled (sum_fields (sum_of es)) (sum_fits es short))

good_body : (q : StatsBody) (s : SwitchState) → length s.table.entries ≤ 4096 → AreRows (own_rows s) → IsBadBody q.kind (concat (reply_rows q s)) → ⊥
good_body q s few are (inl bad) = flows_good q s bad.0 are bad.1
good_body q s few are (inr bad) = bad.1 (sum_long q s few bad.0)

-- ---- The answer

by_none : (kind : ℕ) (answer : Answer) (refusals parts : List (List ℕ)) → refusals ≡ [] → IsAnswerTo kind refusals parts answer → answer ≡ Statistics kind (joined (all_parts parts))
by_none kind answer [] parts none answers = answers.1
by_none kind answer (r ∷ rs) parts none answers = absurd cc

taken : (q : StatsBody) (s : SwitchState) → stats_refusal q ≡ None → switch_answer s (StatsRequest q) ≡ Statistics q.kind (concat (reply_rows q s))
unfolding switch_answer message_refusal
taken q s passed = rw passed refl

by_reply : {Own : Type 0} (i : Inquiry) (s : SwitchState) (old new : Seen Own) (kept now_kept came : List (ℕ × List ℕ)) (fault : TxnFault) → length s.table.entries ≤ 4096 → AskedInStep i s old new kept now_kept came
    → IsReplyFault i (parts_in i.xid came) (refusals_in i.xid came) fault → IsAskFault i.dpid s fault
by_reply i s old new kept now_kept came (SwitchBroke of bytes) few asked why =
    (why.0, λ fits. broken_parts i.query s (parts_in i.xid came) bytes asked.said (came_long i s old new kept now_kept came asked) why.2 (good_body i.query s few fits))
by_reply i s old new kept now_kept came (Diverged of sent got) few asked why = absurd (some_came i s old new kept now_kept came asked why.3)
by_reply i s old new kept now_kept came (Flooded of n) few asked why = absurd why
by_reply i s old new kept now_kept came NoMemory few asked why = tt

module _ {Own : Type 0} {Tells : Type 0} (i : Inquiry) (s : SwitchState) (old new : Seen Own) (kept now_kept : List (ℕ × List ℕ)) where
  pub answered_in_step : (answer : Answer) → IsAsked i.query → i.xid < 2 ^ 32 → Tells → GivesAnswer Tells i old new kept now_kept answer → Conforming new → switch_of i.dpid (state old) ≡ Some s → waits_of i.dpid (state old) ≡ []
      → AnsweredInStep i s old new kept now_kept answer
  answered_in_step answer asked lt told gives keeps is none =
      let in_step = asked_in_step i s old new kept now_kept gives.came asked lt told gives.answered keeps is none in
      record {
        answer_is = by_none i.query.kind answer (refusals_in i.xid gives.came) (parts_in i.xid gives.came) in_step.refusals gives.answers ∙ ap (Statistics i.query.kind) (ap joined in_step.said ∙ joined_own i.query s) ∙ sym (taken i.query s asked.passed);
        waits = in_step.waits;
        stays = in_step.stays;
        others = in_step.others;
        others_wait = in_step.others_wait;
        kept_is = in_step.kept_is;
      }

  pub query_fault : (fault : TxnFault) → IsAsked i.query → i.xid < 2 ^ 32 → Tells → Continues Tells old new → Conforming new → switch_of i.dpid (state old) ≡ Some s → waits_of i.dpid (state old) ≡ []
      → IfFlooded Tells (asked_from i.dpid i.xid) (inquiry_sent i) old new fault → IsQueryCause Tells i old new kept now_kept fault → IsAskFault i.dpid s fault
  query_fault fault asked lt told later keeps is none flooded (inl cause) =
      let before = Conforming-before told later keeps in
      let short = few_rows i.query s (table_few old i.dpid s before is) (switch-ports_few old i.dpid s before is) in
      plain_asks i.dpid s fault (wait_plain i s old new fault asked short lt told later keeps is none flooded cause)
  query_fault fault asked lt told later keeps is none flooded (inr reply) =
      by_reply i s old new kept now_kept reply.came fault (table_few old i.dpid s (Conforming-before told later keeps) is) (asked_in_step i s old new kept now_kept reply.came asked lt told reply.answered keeps is none) reply.why
