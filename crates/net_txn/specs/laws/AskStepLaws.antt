-- Where a world keeps its word, a switch that is asked for statistics tells them, and all stays as it was.
use Rattle.std.specs.Prelude.{◌≡◌, ◌≢◌, ℕ, ◌^◌, ◌<◌, false, List, [], ◌∷◌, ◌++◌, length, drop, map, Some, None, Ok, refl, filter, true}
use Rattle.std.specs.List.{AllByRecursion, concat, flat_map}
use Rattle.std.proofs.Common.{sym, ap, ◌∙◌, subst, arith}
use Rattle.std.proofs.lemmas.List.{append-nil}
use Rattle.of_types.specs.declared.journal.Act.TheVariants.{Got}
use Rattle.of_types.specs.laws.LayoutLaws.{length-spelled, IsLaidOut-spelled}
use Rattle.of_match.specs.declared.fields.Fields.{Fields}
use Rattle.of_match.specs.Fields.{bytes_of, any_fields, IsFields}
use Rattle.of_match.specs.Match.{match_of, fields_in}
use Rattle.of_types.specs.Fields.{piece}
use Rattle.of_types.specs.Layout.{Field, spelled, AreFields, IsLaidOut}
use Rattle.of_match.specs.laws.MatchLaws.{fields_in-match_of-bytes_of, match_of-bytes_of}
use Rattle.of_match.specs.declared.flow_match.Match.{Match}
use Rattle.match_overlap.specs.Fieldwise.{fields_subsume}
use Rattle.match_overlap.specs.Relations.{is_subsuming}
use Rattle.flow_table.specs.Change.{sends_to}
use Rattle.flow_table.specs.Rows.{is_selected}
use Rattle.of_wire.specs.declared.bodies.Stats.{Stats as StatsBody}
use Rattle.of_wire.specs.declared.message.Message.TheVariants.{StatsRequest, BarrierRequest, BarrierReply}
use Rattle.of_wire.specs.Spelling.{message_size, message_bytes}
use Rattle.of_wire.specs.Stats.{flow_query_fields}
use Rattle.of_wire.specs.Grammar.{IsMessage}
use Rattle.of_wire.specs.laws.ReadingLaws.{reading_of-message_bytes}
use Rattle.of_stats.specs.declared.flow_row.FlowRow.{FlowRow}
use Rattle.of_stats.specs.Flows.{row_bytes, rows_bytes, AreRows}
use Rattle.of_stats.specs.Reading.{rows_of}
use Rattle.of_stats.specs.laws.FlowLaws.{rows_of-spelled, SpellRows-rows_bytes, same_rows as equal_rows}
use Rattle.of_stats.specs.Parts.{Part, joined}
use Rattle.flow_table.specs.declared.entry.Entry.{Entry}
use Rattle.flow_table.specs.Switch.{Declared, SwitchState}
use Rattle.flow_table.specs.Refusals.{message_refusal, stats_refusal}
use Rattle.flow_table.specs.Statistics.{selected_by, flow_row, flow_rows, reply_rows, parts_of, part_bytes, statistics_replies}
use Rattle.flow_table.specs.Step.{after_taken, after_message, sent_by_taken, sent_by_message}
use Rattle.outside.specs.declared.step.WorldStep.{WorldStep}
use Rattle.outside.specs.declared.step.WorldStep.TheVariants.{Acted}
use Rattle.outside.specs.Seen.{Seen}
use Rattle.outside.specs.State.{State, after_step, after_steps, state, switch_of, waits_of}
use Rattle.outside.specs.laws.StateLaws.{state-append, Conforming-rest}
use Rattle.outside.specs.laws.LinkLaws.{switch_of-sent_other, waits_of-sent_other, waits_of-got}
use Rattle.outside.specs.Conforming.{MaySteps, Conforming}
use Rattle.lego_model.specs.declared.wait.Awaited.{Awaited}
use Rattle.lego_model.specs.declared.wait.Heard.TheVariants.{Other}
use Rattle.lego_model.specs.BarrierWaits.{next_xid, heard, is_reply, wait_steps, kept_of, barrier_sent, reply_got}
use Rattle.net_txn.specs.laws.HeardLaws.{IsMessage-barrier, next_xid-lt}
use Rattle.net_txn.specs.laws.StepLaws.{told_switch, told_waits, barrier_sends, barrier_stays, gots, gots_switch, gots_other, gots_other_waits, gots_empty, first_got, reply_alone, other_steps, other_no_reply}
use Rattle.net_txn.specs.Asks.{IsAsked, Inquiry, rows_inquiry, AnsweredFor, GivesRows}
use Rattle.lego_model.specs.FlowQueries.{query_bytes, query_sent, all_flows, flows_query, asked_from, parts_in, refusals_in, others_in, all_parts}
use Rattle.net_txn.specs.laws.AskLaws.{part_refuses_not}
use Rattle.net_txn.specs.AskSteps.{own_rows, RowsInStep}
use Rattle.net_txn.specs.laws.ReplyLaws.{IsSmallPart, IsPartOf-part_bytes, heard_part, about_part, small_parts, joined_parts}
use Rattle.net_txn.specs.laws.WaitLaws.{of_switch}
use Rattle.of_match.specs.laws.FieldsLaws.{bytes_of-length}

-- ---- The request

-- ---- The request selects each entry: any match subsumes each one, and NONE stands for no output.

abbrev any_match : Match
any_match = match_of (bytes_of any_fields)

pub any_subsumes : (f : Fields) → fields_subsume any_fields f ≡ true
unfolding fields_subsume
any_subsumes f = refl

pub IsFields-any : IsFields any_fields
IsFields-any = record { in_port = tt; dl_src = tt; dl_dst = tt; dl_vlan = tt; dl_vlan_pcp = tt; dl_type = tt; nw_tos = tt; nw_proto = tt; nw_src = tt; nw_dst = tt; tp_src = tt; tp_dst = tt }

selects : (e : Entry) → is_selected any_match 0xffff e ≡ true
unfolding is_selected is_subsuming sends_to
selects e = rw (fields_in-match_of-bytes_of any_fields IsFields-any, any_subsumes (fields_in e.key.matching)) refl

all_selected : (es : List Entry) → filter (is_selected any_match 0xffff) es ≡ es
all_selected [] = refl
all_selected (e ∷ es) = rw (selects e) (ap (λ (fs : List Entry). e ∷ fs) (all_selected es))

abbrev query_fields : List Field
query_fields = flow_query_fields (record { matching = any_match; table_id = 0xff; out_port = 0xffff })

query_fit : AreFields query_fields
query_fit = (bytes_of-length (fields_in any_match), (omega arith, (omega arith, tt)))

length-all_flows : length all_flows ≡ 44
unfolding all_flows
length-all_flows =
    length-spelled query_fields query_fit

query_laid : IsLaidOut 0 query_fields [] all_flows
unfolding all_flows
query_laid = subst (λ (b : List ℕ). IsLaidOut 0 query_fields [] b) (append-nil (spelled query_fields)) (IsLaidOut-spelled 0 query_fields [] [] refl query_fit)

pub selected_all : (s : SwitchState) → selected_by all_flows s ≡ s.table.entries
unfolding selected_by
selected_all s =
    let matching : match_of (piece 40 0 all_flows) ≡ any_match = ap match_of query_laid.0 ∙ match_of-bytes_of any_match in
    rw (query_laid.1.0, query_laid.1.1.0, matching) (all_selected s.table.entries)

abbrev pub asking : StatsBody
asking = flows_query

pub IsMessage-asking : IsMessage (StatsRequest asking)
unfolding message_size
IsMessage-asking = record { fields = (omega arith, (omega arith, tt)); tail = tt; size = omega (arith, length-all_flows) }

asking_passed : stats_refusal asking ≡ None
unfolding stats_refusal
asking_passed = rw length-all_flows refl

pub IsAsked-asking : IsAsked asking
IsAsked-asking = record { message = IsMessage-asking; passed = asking_passed }

-- ---- Any request that is taken

query_stays : (q : StatsBody) (s : SwitchState) → stats_refusal q ≡ None → after_message (StatsRequest q) s ≡ s
unfolding after_message after_taken message_refusal
query_stays q s passed = rw passed refl

abbrev pub own_parts : StatsBody → SwitchState → List Part
own_parts q s = parts_of q.kind (reply_rows q s)

abbrev pub own_replies : ℕ → StatsBody → SwitchState → List (List ℕ)
own_replies xid q s = map (part_bytes xid) (own_parts q s)

query_sends : (xid : ℕ) (q : StatsBody) (s : SwitchState) → stats_refusal q ≡ None → sent_by_message xid (StatsRequest q) s ≡ own_replies xid q s
unfolding sent_by_message sent_by_taken statistics_replies message_refusal
query_sends xid q s passed = rw passed refl

small_kind : (q : StatsBody) → IsAsked q → q.kind < 2 ^ 16
small_kind q asked = omega (arith, asked.message.fields.0)

pub small_own : (q : StatsBody) (s : SwitchState) → IsAsked q → AllByRecursion IsSmallPart (own_parts q s)
unfolding parts_of
small_own q s asked = small_parts q.kind [] (reply_rows q s) (small_kind q asked)

pub joined_own : (q : StatsBody) (s : SwitchState) → joined (own_parts q s) ≡ concat (reply_rows q s)
unfolding parts_of
joined_own q s = joined_parts q.kind [] (reply_rows q s)

concat_rows : (moment : ℕ) (es : List Entry) → concat (map (λ e. row_bytes (flow_row moment e)) es) ≡ flat_map row_bytes (map (flow_row moment) es)
concat_rows moment [] = refl
concat_rows moment (e ∷ es) = ap (λ (b : List ℕ). row_bytes (flow_row moment e) ++ b) (concat_rows moment es)

pub concat_flows : (query : List ℕ) (s : SwitchState) → concat (flow_rows query s) ≡ rows_bytes (map (flow_row s.moment) (selected_by query s))
unfolding flow_rows
concat_flows query s = concat_rows s.moment (selected_by query s)

-- of all flows
pub joined_rows : (s : SwitchState) → joined (own_parts asking s) ≡ rows_bytes (own_rows s)
unfolding reply_rows
joined_rows s = joined_own asking s ∙ concat_flows all_flows s ∙ ap (λ (es : List Entry). rows_bytes (map (flow_row s.moment) es)) (selected_all s)

-- ---- Before the messages that were got: the request and the barrier were sent.

pub record Asking (i : Inquiry) (s : SwitchState) (before after : State) : Type 0 where
  pub switch : switch_of i.dpid after ≡ Some s
  pub waits : waits_of i.dpid after ≡ own_replies i.xid i.query s ++ message_bytes (next_xid i.xid) BarrierReply ∷ []
  pub others : (e : ℕ) → e ≢ i.dpid → switch_of e after ≡ switch_of e before
  pub others_wait : (e : ℕ) → e ≢ i.dpid → waits_of e after ≡ waits_of e before

abbrev pub after_both : Inquiry → State → State
after_both i t = after_step (barrier_sent (asked_from i.dpid i.xid)) (after_step (query_sent i.dpid i.xid i.query) t)

pub both_sent : (i : Inquiry) (s : SwitchState) (t : State) → IsAsked i.query → i.xid < 2 ^ 32 → switch_of i.dpid t ≡ Some s → waits_of i.dpid t ≡ [] → Asking i s t (after_both i t)
both_sent i s t asked small is none =
    let d = i.dpid in
    let xid = i.xid in
    let request = query_bytes xid i.query in
    let barrier = message_bytes (next_xid xid) BarrierRequest in
    let read = reading_of-message_bytes xid (StatsRequest i.query) small asked.message in
    let asks = reading_of-message_bytes (next_xid xid) BarrierRequest (next_xid-lt xid small) IsMessage-barrier in
    let one = after_step (query_sent d xid i.query) t in
    let there : switch_of d one ≡ Some s = rw (told_switch d xid (StatsRequest i.query) request t s read is, query_stays i.query s asked.passed) refl in
    let sends : waits_of d one ≡ own_replies xid i.query s = rw (told_waits d xid (StatsRequest i.query) request t s read is, none) (query_sends xid i.query s asked.passed) in
    record {
      switch = rw (told_switch d (next_xid xid) BarrierRequest barrier one s asks there, barrier_stays s) refl;
      waits = rw (told_waits d (next_xid xid) BarrierRequest barrier one s asks there, sends, barrier_sends (next_xid xid) s) refl;
      others = λ e other. switch_of-sent_other d e barrier one other ∙ switch_of-sent_other d e request t other;
      others_wait = λ e other. waits_of-sent_other d e barrier one other ∙ waits_of-sent_other d e request t other;
    }

-- ---- The messages that were got

other_rest : (a : Awaited) (b : List ℕ) (bs : List (List ℕ)) → heard a b ≡ Other → wait_steps a (b ∷ bs) ++ reply_got a ∷ [] ≡ Acted (Got a.dpid b) ∷ (wait_steps a bs ++ reply_got a ∷ [])
other_rest a b bs is = ap (λ (steps : List WorldStep). (steps ++ wait_steps a bs) ++ reply_got a ∷ []) (other_steps a b is)

-- the parts are got, and nothing else
parts_alone : (declared : List Declared) (a : Awaited) (xid : ℕ) (parts : List Part) (got : List (List ℕ)) (t : State) → xid < 2 ^ 32 → a.barrier < 2 ^ 32 → AllByRecursion IsSmallPart parts
    → waits_of a.dpid t ≡ map (part_bytes xid) parts ++ message_bytes a.barrier BarrierReply ∷ [] → MaySteps declared (wait_steps a got ++ reply_got a ∷ []) t → AllByRecursion (λ b. is_reply (heard a b) ≡ false) got
    → got ≡ map (part_bytes xid) parts
parts_alone declared a xid [] got t lt small fit waits may before = reply_alone declared a got t waits may before
parts_alone declared a xid (p ∷ ps) [] t lt small fit waits may before =
    let other = heard_part a xid p (part_bytes xid p) small (IsPartOf-part_bytes xid p lt fit.0) in
    absurd (other_no_reply a (part_bytes xid p) other (first_got declared a.dpid (message_bytes a.barrier BarrierReply) (part_bytes xid p) (map (part_bytes xid) ps ++ message_bytes a.barrier BarrierReply ∷ []) [] t waits may))
parts_alone declared a xid (p ∷ ps) (b ∷ bs) t lt small fit waits may before =
    let part = part_bytes xid p in
    let later = map (part_bytes xid) ps ++ message_bytes a.barrier BarrierReply ∷ [] in
    let other = heard_part a xid p part small (IsPartOf-part_bytes xid p lt fit.0) in
    let is : b ≡ part = first_got declared a.dpid b part later _ t waits may in
    let here = subst (λ (x : List ℕ). MaySteps declared (wait_steps a (x ∷ bs) ++ reply_got a ∷ []) t) is may in
    let steps = subst (λ (xs : List WorldStep). MaySteps declared xs t) (other_rest a part bs other) here in
    let left : waits_of a.dpid (after_step (Acted (Got a.dpid part)) t) ≡ later = waits_of-got a.dpid part t ∙ ap (drop 1) waits in
    let rest : bs ≡ map (part_bytes xid) ps = parts_alone declared a xid ps bs (after_step (Acted (Got a.dpid part)) t) lt small fit.1 left steps.1 before.1 in
    ap (λ (x : List ℕ). x ∷ bs) is ∙ ap (λ (xs : List (List ℕ)). part ∷ xs) rest

part_steps : (a : Awaited) (xid : ℕ) (parts : List Part) → xid < 2 ^ 32 → a.barrier < 2 ^ 32 → AllByRecursion IsSmallPart parts
    → wait_steps a (map (part_bytes xid) parts) ++ reply_got a ∷ [] ≡ gots a.dpid (map (part_bytes xid) parts ++ message_bytes a.barrier BarrierReply ∷ [])
part_steps a xid [] lt small fit = refl
part_steps a xid (p ∷ ps) lt small fit =
    let part = part_bytes xid p in
    other_rest a part (map (part_bytes xid) ps) (heard_part a xid p part small (IsPartOf-part_bytes xid p lt fit.0))
    ∙ ap (λ (steps : List WorldStep). Acted (Got a.dpid part) ∷ steps) (part_steps a xid ps lt small fit.1)

-- ---- What came

came_parts : (a : Awaited) (xid : ℕ) (parts : List Part) → xid < 2 ^ 32 → a.barrier < 2 ^ 32 → AllByRecursion IsSmallPart parts → kept_of a (map (part_bytes xid) parts) ≡ map (of_switch a.dpid) (map (part_bytes xid) parts)
came_parts a xid [] lt small fit = refl
came_parts a xid (p ∷ ps) lt small fit =
    let part = part_bytes xid p in
    rw (heard_part a xid p part small (IsPartOf-part_bytes xid p lt fit.0)) (ap (λ (ms : List (ℕ × List ℕ)). (a.dpid, part) ∷ ms) (came_parts a xid ps lt small fit.1))

parts_there : (d xid : ℕ) (parts : List Part) → xid < 2 ^ 32 → AllByRecursion IsSmallPart parts → parts_in xid (map (of_switch d) (map (part_bytes xid) parts)) ≡ map (part_bytes xid) parts
parts_there d xid [] lt fit = refl
parts_there d xid (p ∷ ps) lt fit =
    let part = part_bytes xid p in
    rw (about_part xid p part (IsPartOf-part_bytes xid p lt fit.0)) (ap (λ (ms : List (List ℕ)). part ∷ ms) (parts_there d xid ps lt fit.1))

no_others : (d xid : ℕ) (parts : List Part) → xid < 2 ^ 32 → AllByRecursion IsSmallPart parts → others_in xid (map (of_switch d) (map (part_bytes xid) parts)) ≡ []
no_others d xid [] lt fit = refl
no_others d xid (p ∷ ps) lt fit =
    rw (about_part xid p (part_bytes xid p) (IsPartOf-part_bytes xid p lt fit.0)) (no_others d xid ps lt fit.1)

-- a part is no ERROR
no_refusals : (d xid : ℕ) (parts : List Part) → xid < 2 ^ 32 → AllByRecursion IsSmallPart parts → refusals_in xid (map (of_switch d) (map (part_bytes xid) parts)) ≡ []
no_refusals d xid [] lt fit = refl
no_refusals d xid (p ∷ ps) lt fit =
    let part = part_bytes xid p in
    rw (part_refuses_not xid part (about_part xid p part (IsPartOf-part_bytes xid p lt fit.0))) (no_refusals d xid ps lt fit.1)

parts_said : (xid : ℕ) (parts : List Part) → xid < 2 ^ 32 → AllByRecursion IsSmallPart parts → all_parts (map (part_bytes xid) parts) ≡ parts
parts_said xid [] lt fit = refl
parts_said xid (p ∷ ps) lt fit =
    let is = IsPartOf-part_bytes xid p lt fit.0 in
    ap (λ (q : Part). q ∷ all_parts (map (part_bytes xid) ps)) is.said ∙ ap (λ (qs : List Part). p ∷ qs) (parts_said xid ps lt fit.1)

-- ---- What was answered

-- the messages of the transaction id are the switch's own reply, and no ERROR; what the wait leaves
pub record AskedInStep {Own : Type 0} (i : Inquiry) (s : SwitchState) (old new : Seen Own) (kept now_kept came : List (ℕ × List ℕ)) : Type 0 where
  pub parts : parts_in i.xid came ≡ own_replies i.xid i.query s
  pub refusals : refusals_in i.xid came ≡ []
  pub said : all_parts (parts_in i.xid came) ≡ own_parts i.query s
  pub waits : waits_of i.dpid (state new) ≡ []
  pub stays : switch_of i.dpid (state new) ≡ Some s
  pub others : (e : ℕ) → e ≢ i.dpid → switch_of e (state new) ≡ switch_of e (state old)
  pub others_wait : (e : ℕ) → e ≢ i.dpid → waits_of e (state new) ≡ waits_of e (state old)
  pub kept_is : now_kept ≡ kept

pub asked_in_step : {Own : Type 0} {Tells : Type 0} (i : Inquiry) (s : SwitchState) (old new : Seen Own) (kept now_kept came : List (ℕ × List ℕ)) → IsAsked i.query → i.xid < 2 ^ 32 → Tells → AnsweredFor Tells i old new kept now_kept came
    → Conforming new → switch_of i.dpid (state old) ≡ Some s → waits_of i.dpid (state old) ≡ [] → AskedInStep i s old new kept now_kept came
asked_in_step i s old new kept now_kept came asked lt told answered keeps is none =
    let d = i.dpid in
    let xid = i.xid in
    let a = asked_from d xid in
    let small = next_xid-lt xid lt in
    let own = own_parts i.query s in
    let fit = small_own i.query s asked in
    let parts = own_replies xid i.query s in
    let reply = message_bytes (next_xid xid) BarrierReply in
    let w = answered.waits in
    let steps = query_sent d xid i.query ∷ barrier_sent a ∷ (wait_steps a w.got ++ reply_got a ∷ []) in
    let may = Conforming-rest old new steps w.hears.continues.given (w.hears.told told) keeps in
    let after = state-append old new steps w.hears.continues.given (w.hears.told told) in
    let mid = after_both i (state old) in
    let sent = both_sent i s (state old) asked lt is none in
    let got_is : w.got ≡ parts = parts_alone old.given.declared a xid own w.got mid lt small fit sent.waits may.1.1 w.hears.before_reply in
    let got_steps : wait_steps a w.got ++ reply_got a ∷ [] ≡ gots d (parts ++ reply ∷ []) = ap (λ (gs : List (List ℕ)). wait_steps a gs ++ reply_got a ∷ []) got_is ∙ part_steps a xid own lt small fit in
    let now : state new ≡ after_steps (gots d (parts ++ reply ∷ [])) mid = after ∙ ap (λ (xs : List WorldStep). after_steps xs mid) got_steps in
    let came_is : came ≡ map (of_switch d) parts = w.hears.kept_is ∙ ap (kept_of a) got_is ∙ came_parts a xid own lt small fit in
    let there : parts_in xid came ≡ parts = ap (parts_in xid) came_is ∙ parts_there d xid own lt fit in
    record {
      parts = there;
      refusals = ap (refusals_in xid) came_is ∙ no_refusals d xid own lt fit;
      said = ap all_parts there ∙ parts_said xid own lt fit;
      waits = ap (waits_of d) now ∙ gots_empty d (parts ++ reply ∷ []) mid sent.waits;
      stays = ap (switch_of d) now ∙ gots_switch d (parts ++ reply ∷ []) mid ∙ sent.switch;
      others = λ e other. ap (switch_of e) now ∙ gots_other d e (parts ++ reply ∷ []) mid other ∙ sent.others e other;
      others_wait = λ e other. ap (waits_of e) now ∙ gots_other_waits d e (parts ++ reply ∷ []) mid other ∙ sent.others_wait e other;
      kept_is = answered.kept_is ∙ ap (λ (ms : List (ℕ × List ℕ)). kept ++ others_in xid ms) came_is ∙ ap (λ (ms : List (ℕ × List ℕ)). kept ++ ms) (no_others d xid own lt fit) ∙ append-nil kept;
    }

-- ---- The rows

-- where the switch's own rows have a spelling, their bytes are read as they are
pub own_read : (s : SwitchState) → AreRows (own_rows s) → rows_of (rows_bytes (own_rows s)) ≡ Ok (own_rows s)
own_read s fits = rows_of-spelled (own_rows s) (rows_bytes (own_rows s)) fits (SpellRows-rows_bytes (own_rows s) fits)

pub rows_in_step : {Own : Type 0} {Tells : Type 0} (d xid : ℕ) (s : SwitchState) (old new : Seen Own) (kept now_kept : List (ℕ × List ℕ)) (rows : List FlowRow) → xid < 2 ^ 32 → Tells → GivesRows Tells d xid old new kept now_kept rows
    → Conforming new → switch_of d (state old) ≡ Some s → waits_of d (state old) ≡ [] → RowsInStep d s old new kept now_kept rows
rows_in_step d xid s old new kept now_kept rows lt told gives keeps is none =
    let in_step = asked_in_step (rows_inquiry d xid) s old new kept now_kept gives.came IsAsked-asking lt told gives.answered keeps is none in
    let said : joined (all_parts (parts_in xid gives.came)) ≡ rows_bytes (own_rows s) = ap joined in_step.said ∙ joined_rows s in
    let read : rows_of (rows_bytes (own_rows s)) ≡ Ok rows = ap rows_of (sym said) ∙ gives.rows_is.read in
    record {
      rows_is = read;
      same_rows = λ fits. equal_rows rows (own_rows s) (sym read ∙ own_read s fits);
      waits = in_step.waits;
      stays = in_step.stays;
      others = in_step.others;
      others_wait = in_step.others_wait;
      kept_is = in_step.kept_is;
    }
