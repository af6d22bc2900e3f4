-- How a switch fails to give its rows; and that where a world keeps its word, it gives no cause for a fault.
use Rattle.std.specs.Prelude.{◌≡◌, ℕ, ◌+◌, ◌^◌, ◌<◌, ◌≤◌, nat_le, List, [], ◌∷◌, ◌++◌, length, map, Option, Some, None, Result, Ok, Err, IsErr, slice_get, refl}
use Rattle.std.specs.Option.{option_map}
use Rattle.std.specs.List.{AllByRecursion, concat}
use Rattle.std.proofs.Common.{zero, suc, sym, ap, ◌∙◌, subst, inl, inr, arith}
use Rattle.std.proofs.lemmas.Bool.{cases_Bool, cases_eq}
use Rattle.of_types.specs.declared.errors.OfError.{OfError}
use Rattle.std.proofs.lemmas.List.{length-map}
use Rattle.of_wire.specs.Spelling.{message_bytes}
use Rattle.of_wire.specs.declared.message.Message.TheVariants.{StatsRequest, BarrierReply}
use Rattle.of_stats.specs.declared.flow_row.FlowRow.{FlowRow}
use Rattle.of_stats.specs.Flows.{row_bytes, AreRows}
use Rattle.of_stats.specs.Parts.{Part, room, part_at, IsInPlace, joined}
use Rattle.of_stats.specs.Reading.{rows_of}
use Rattle.flow_table.specs.Switch.{SwitchState}
use Rattle.flow_table.specs.Change.{unless_refused}
use Rattle.flow_table.specs.Refusals.{message_refusal}
use Rattle.flow_table.specs.Step.{after_taken, after_message}
use Rattle.flow_table.specs.Statistics.{selected_by, flow_row, flow_rows, reply_rows, parts_behind, parts_of, part_bytes}
use Rattle.outside.specs.Seen.{Seen, Continues}
use Rattle.outside.specs.State.{state, switch_of, waits_of}
use Rattle.outside.specs.laws.StateLaws.{Conforming-rest, Conforming-before}
use Rattle.outside.specs.Conforming.{Conforming}
use Rattle.lego_model.specs.declared.fault.TxnFault.{TxnFault}
use Rattle.lego_model.specs.declared.fault.TxnFault.TheVariants.{SwitchBroke, Diverged, Flooded, NoMemory}
use Rattle.lego_model.specs.declared.wait.Awaited.{Awaited}
use Rattle.net_txn.specs.Causes.{IsCause, IsPlain}
use Rattle.net_txn.specs.Waits.{Brought, Floods, IfFlooded}
use Rattle.lego_model.specs.BarrierWaits.{wait_steps, next_xid}
use Rattle.net_txn.specs.laws.HeardLaws.{next_xid-lt}
use Rattle.net_txn.specs.Answering.{MayMove}
use Rattle.net_txn.specs.laws.ChangeFlightLaws.{breaks_move, replied_move}
use Rattle.net_txn.specs.laws.WaitMoveLaws.{some_switch}
use Rattle.lego_model.specs.AfterFault.{SwitchesStay}
use Rattle.net_txn.specs.Asks.{IsAsked, Inquiry, inquiry_sent, rows_inquiry, InquiryHalts, IsRefusal, IsRepliesFault, Asks}
use Rattle.of_wire.specs.declared.bodies.Stats.{Stats as StatsBody}
use Rattle.of_wire.specs.Grammar.{IsMessage}
use Rattle.of_wire.specs.laws.ReadingLaws.{reading_of-message_bytes}
use Rattle.lego_model.specs.History.{lost_of}
use Rattle.net_txn.specs.declared.halt.Halt.{Halt}
use Rattle.net_txn.specs.declared.halt.Halt.TheVariants.{Lost, Fault}
use Rattle.net_txn.specs.declared.queue.Storage.TheVariants.{Growing}
use Rattle.net_txn.specs.Net.{NetState}
use Rattle.net_txn.specs.Losing.{lost_net, WaitHalts}
use Rattle.net_txn.specs.Said.{CannotSay, Calls, Speaks, frames_said, barrier_of, Replied, BreaksBy}
use Rattle.net_txn.specs.laws.OwnIdLaws.{FramesAscend, two_ascend, second_next, waits_leave, speaks_on_ids, speaks_over_ids}
use Rattle.net_txn.specs.laws.LostLaws.{fault_is_none, packets_said, breaks_halts, replied_lost, replied_none_lost, waits_none_lost}
use Rattle.net_txn.specs.laws.ReadLaws.{waits_read}
use Rattle.net_txn.specs.laws.TalkLaws.{parted_speaks, speaks_on, speaks_links, speaks_place}
use Rattle.lego_model.specs.FlowQueries.{query_bytes, all_flows, flows_request, asked_from, parts_in, refusals_in, all_parts, IsBadBody, IsBroken}
use Rattle.net_txn.specs.laws.ReplyLaws.{IsSmallPart, IsPartOf-part_bytes, heard_part}
use Rattle.net_txn.specs.laws.TableBoundLaws.{table_few}
use Rattle.net_txn.specs.laws.FloodLaws.{IsGotAlone, few_got, ends_read}
use Rattle.net_txn.specs.AskSteps.{own_rows, IsAskFault, AsksFrom, AskSteps}
use Rattle.net_txn.specs.laws.AskStepLaws.{asking, IsAsked-asking, own_parts, own_replies, small_own, selected_all, joined_own, joined_rows, after_both, both_sent, AskedInStep, asked_in_step, own_read, rows_in_step}
use Rattle.net_txn.specs.laws.ChangeLaws.{forget_kept}
use Rattle.of_stats.specs.laws.PartLaws.{IsPartAt}

-- ---- A reply of flows is whole, and has no more parts than rows, but one at least.

some_parts : (kind : ℕ) (begun : List ℕ) (rows : List (List ℕ)) → 0 < length (parts_behind kind begun rows)
some_parts kind begun [] = omega arith
some_parts kind begun (row ∷ rows) =
    elim (cases_Bool (nat_le (length begun + length row) room)) [
      | inl fits ↦ rw fits (some_parts kind (begun ++ row) rows)
      | inr full ↦ rw full (omega arith)
    ]

few_parts : (kind : ℕ) (begun : List ℕ) (rows : List (List ℕ)) → length (parts_behind kind begun rows) ≤ length rows + 1
few_parts kind begun [] = omega arith
few_parts kind begun (row ∷ rows) =
    elim (cases_Bool (nat_le (length begun + length row) room)) [
      | inl fits ↦ rw fits (omega (arith, few_parts kind (begun ++ row) rows))
      | inr full ↦ rw full (omega (arith, few_parts kind row rows))
    ]

abbrev ArePartsOf : ℕ → List Part → Type 0
ArePartsOf kind parts = (place : ℕ) → place < length parts → IsPartAt kind place parts

last_part : (kind : ℕ) (body : List ℕ) → ArePartsOf kind ((kind, 0, body) ∷ [])
last_part kind body zero lt = record { kind_is = refl; more_is = (λ e. absurd (omega (arith, e)), λ more. absurd (omega (arith, more))) }
last_part kind body (suc place) lt = absurd (omega arith)

part_before : (kind : ℕ) (body : List ℕ) (parts : List Part) → 0 < length parts → ArePartsOf kind parts → ArePartsOf kind ((kind, 1, body) ∷ parts)
part_before kind body parts some are zero lt = record { kind_is = refl; more_is = (λ e. omega (arith, some), λ more. refl) }
part_before kind body parts some are (suc place) lt =
    let later = are place (omega arith) in
    record { kind_is = later.kind_is; more_is = (λ e. let m = later.more_is.0 e in omega (arith, m), λ more. later.more_is.1 (omega (arith, more))) }

are_parts : (kind : ℕ) (begun : List ℕ) (rows : List (List ℕ)) → ArePartsOf kind (parts_behind kind begun rows)
are_parts kind begun [] = last_part kind begun
are_parts kind begun (row ∷ rows) =
    elim (cases_Bool (nat_le (length begun + length row) room)) [
      | inl fits ↦ rw fits (are_parts kind (begun ++ row) rows)
      | inr full ↦ rw full (part_before kind begun (parts_behind kind row rows) (some_parts kind row rows) (are_parts kind row rows))
    ]

pub own_some : (q : StatsBody) (s : SwitchState) → 0 < length (own_parts q s)
unfolding parts_of
own_some q s = some_parts q.kind [] (reply_rows q s)

own_are : (q : StatsBody) (s : SwitchState) → ArePartsOf q.kind (own_parts q s)
unfolding parts_of
own_are q s = are_parts q.kind [] (reply_rows q s)

own_whole : (q : StatsBody) (s : SwitchState) → (place : ℕ) → place < length (own_parts q s) → IsInPlace place (own_parts q s)
own_whole q s place lt =
    let first = own_are q s 0 (own_some q s) in
    let here = own_are q s place lt in
    record { there = lt; kind = here.kind_is ∙ sym first.kind_is; more = here.more_is }

own_few : (q : StatsBody) (s : SwitchState) → length (own_parts q s) ≤ length (reply_rows q s) + 1
unfolding parts_of
own_few q s = few_parts q.kind [] (reply_rows q s)

few_flows : (s : SwitchState) → length (reply_rows asking s) ≡ length s.table.entries
unfolding reply_rows flow_rows
few_flows s = length-map (selected_by all_flows s) (λ e. row_bytes (flow_row s.moment e)) ∙ ap length (selected_all s)

-- ---- What came is at fault only where the rows have no spelling.

no_value : {X : Type 0} (x : X) → None ≡ Some x → ⊥
no_value x e = cc

within_list : (xs : List (List ℕ)) (place : ℕ) (x : List ℕ) → slice_get xs place ≡ Some x → place < length xs
within_list [] place x is = absurd (no_value x is)
within_list (y ∷ ys) zero x is = omega arith
within_list (y ∷ ys) (suc place) x is = omega (arith, within_list ys place x is)

pub ok_no_err : {X Y : Type 0} (r : Result X Y) (x : X) → r ≡ Ok x → IsErr r → ⊥
ok_no_err (Ok y) x is err = absurd cc
ok_no_err (Err e) x is err = absurd cc

pub broken_parts : (q : StatsBody) (s : SwitchState) (messages : List (List ℕ)) (bytes : List ℕ) → all_parts messages ≡ own_parts q s → length messages ≡ length (own_parts q s) → IsBroken q.kind messages bytes
    → (IsBadBody q.kind (concat (reply_rows q s)) → ⊥) → ⊥
broken_parts q s messages bytes said len broken good =
    let place = broken.0 in
    let within : place < length (own_parts q s) = omega (arith, within_list messages place bytes broken.1, len) in
    elim broken.2 [
      | inl bad ↦ bad.here (subst (λ (ps : List Part). IsInPlace place ps) (sym said) (own_whole q s place within))
      | inr rest ↦ elim rest [
        | inl other ↦ other.1 (ap (λ (ps : List Part). (part_at place ps).0) said ∙ (own_are q s place within).kind_is)
        | inr unread ↦ good (subst (λ (body : List ℕ). IsBadBody q.kind body) (ap joined said ∙ joined_own q s) unread.2)
      ]
    ]

rows_good : (s : SwitchState) → AreRows (own_rows s) → IsBadBody 1 (concat (reply_rows asking s)) → ⊥
rows_good s fits (inl bad) = ok_no_err (rows_of (concat (reply_rows asking s))) (own_rows s) (ap rows_of (sym (joined_own asking s) ∙ joined_rows s) ∙ own_read s fits) bad.1
rows_good s fits (inr bad) = absurd (omega (arith, bad.0))

pub none_first : (xs : List (List ℕ)) (x : List ℕ) → xs ≡ [] → slice_get xs 0 ≡ Some x → ⊥
none_first xs x none is = absurd (no_value x (sym (ap (λ (ys : List (List ℕ)). slice_get ys 0) none) ∙ is))

none_there : (xs : List (List ℕ)) → xs ≡ [] → 0 < length xs → ⊥
none_there xs none some = omega (arith, some, ap length none)

-- no ERROR came, and some part
pub some_came : {Own : Type 0} (i : Inquiry) (s : SwitchState) (old new : Seen Own) (kept now_kept came : List (ℕ × List ℕ)) → AskedInStep i s old new kept now_kept came → parts_in i.xid came ≡ [] → ⊥
some_came i s old new kept now_kept came asked nothing =
    none_there (parts_in i.xid came) nothing (omega (arith, ap length asked.parts, length-map (own_parts i.query s) (part_bytes i.xid), own_some i.query s))

pub came_long : {Own : Type 0} (i : Inquiry) (s : SwitchState) (old new : Seen Own) (kept now_kept came : List (ℕ × List ℕ)) → AskedInStep i s old new kept now_kept came → length (parts_in i.xid came) ≡ length (own_parts i.query s)
came_long i s old new kept now_kept came asked = ap length asked.parts ∙ length-map (own_parts i.query s) (part_bytes i.xid)

no_refusal : {Own : Type 0} (i : Inquiry) (s : SwitchState) (old new : Seen Own) (kept now_kept came : List (ℕ × List ℕ)) (reply got : List ℕ) → AskedInStep i s old new kept now_kept came → IsRefusal (parts_in i.xid came) (refusals_in i.xid came) reply got → ⊥
no_refusal i s old new kept now_kept came reply got asked is =
    elim is [
      | inl error ↦ none_first (refusals_in i.xid came) got asked.refusals error
      | inr nothing ↦ some_came i s old new kept now_kept came asked nothing.1
    ]

by_replies : {Own : Type 0} (d xid : ℕ) (s : SwitchState) (old new : Seen Own) (kept now_kept came : List (ℕ × List ℕ)) (reply : List ℕ) (fault : TxnFault) → AskedInStep (rows_inquiry d xid) s old new kept now_kept came
    → IsRepliesFault d (flows_request xid) reply (parts_in xid came) (refusals_in xid came) fault → IsAskFault d s fault
by_replies d xid s old new kept now_kept came reply (SwitchBroke of bytes) asked is =
    (is.0, λ fits. broken_parts asking s (parts_in xid came) bytes asked.said (came_long (rows_inquiry d xid) s old new kept now_kept came asked) is.2 (rows_good s fits))
by_replies d xid s old new kept now_kept came reply (Diverged of sent got) asked is = absurd (no_refusal (rows_inquiry d xid) s old new kept now_kept came reply got asked is.2)
by_replies d xid s old new kept now_kept came reply (Flooded of n) asked is = absurd is
by_replies d xid s old new kept now_kept came reply NoMemory asked is = tt

-- ---- The wait

got_alone : (a : Awaited) (xid : ℕ) (parts : List Part) → xid < 2 ^ 32 → a.barrier < 2 ^ 32 → AllByRecursion IsSmallPart parts → AllByRecursion (IsGotAlone a) (map (part_bytes xid) parts)
got_alone a xid [] lt small fit = tt
got_alone a xid (p ∷ ps) lt small fit =
    let part = part_bytes xid p in
    let other = heard_part a xid p part small (IsPartOf-part_bytes xid p lt fit.0) in
    (rw other refl, got_alone a xid ps lt small fit.1)

not_flooded : {Own : Type 0} {Tells : Type 0} (i : Inquiry) (s : SwitchState) (old new : Seen Own) → IsAsked i.query → length (reply_rows i.query s) ≤ 4096 → i.xid < 2 ^ 32 → Tells → Conforming new → switch_of i.dpid (state old) ≡ Some s → waits_of i.dpid (state old) ≡ []
    → Floods Tells (asked_from i.dpid i.xid) (inquiry_sent i) old new → ⊥
not_flooded i s old new asked short lt told keeps is none f =
    let a = asked_from i.dpid i.xid in
    let small = next_xid-lt i.xid lt in
    let may = Conforming-rest old new (inquiry_sent i ++ wait_steps a f.got) f.continues.given (f.told told) keeps in
    let sent = both_sent i s (state old) asked lt is none in
    let few = few_got old.given.declared a (own_replies i.xid i.query s) f.got (after_both i (state old)) (got_alone a i.xid (own_parts i.query s) lt small (small_own i.query s asked)) sent.waits may.1.1 f.before_reply in
    omega (arith, f.many, few, length-map (own_parts i.query s) (part_bytes i.xid), own_few i.query s, short)

-- of a request whose reply has few rows
pub wait_plain : {Own : Type 0} {Tells : Type 0} (i : Inquiry) (s : SwitchState) (old new : Seen Own) (fault : TxnFault) → IsAsked i.query → length (reply_rows i.query s) ≤ 4096 → i.xid < 2 ^ 32 → Tells → Continues Tells old new → Conforming new → switch_of i.dpid (state old) ≡ Some s
    → waits_of i.dpid (state old) ≡ [] → IfFlooded Tells (asked_from i.dpid i.xid) (inquiry_sent i) old new fault → IsCause Tells i.dpid old new fault → IsPlain fault
wait_plain i s old new (SwitchBroke of bytes) asked short lt told later keeps is none f cause = absurd (ends_read i.dpid bytes old new later.given (cause.2 told) keeps cause.1)
wait_plain i s old new (Diverged of sent got) asked short lt told later keeps is none f cause = absurd cause
wait_plain i s old new (Flooded of n) asked short lt told later keeps is none f cause = absurd (not_flooded i s old new asked short lt told keeps is none f)
wait_plain i s old new NoMemory asked short lt told later keeps is none f cause = tt

pub plain_asks : (d : ℕ) (s : SwitchState) (fault : TxnFault) → IsPlain fault → IsAskFault d s fault
plain_asks d s (SwitchBroke of bytes) plain = absurd plain
plain_asks d s (Diverged of sent got) plain = absurd plain
plain_asks d s (Flooded of n) plain = absurd plain
plain_asks d s NoMemory plain = tt

-- ---- From a transaction id on

none_released : (i : Inquiry) → IsMessage (StatsRequest i.query) → i.xid < 2 ^ 32 → packets_said (frames_said i.dpid (query_bytes i.xid i.query ∷ [])) ≡ []
unfolding packets_said
none_released i message lt = let read = reading_of-message_bytes i.xid (StatsRequest i.query) lt message in rw read refl

-- a cause of a wait is such a cause
abbrev pub Causes : {Own : Type 0} → Type 0 → Inquiry → Seen Own → Seen Own → (TxnFault → Type 0) → Type 0
Causes Tells i old new Cause = (fault : TxnFault) → IsCause Tells i.dpid old new fault → Cause fault

-- ---- No switch moves

query_same : (q : StatsBody) (s : SwitchState) → after_message (StatsRequest q) s ≡ s
unfolding after_message after_taken
query_same q s = unless_same (message_refusal s (StatsRequest q)) s
  where
    unless_same : (o : Option OfError) (s : SwitchState) → unless_refused o s s ≡ s
    unless_same None s = refl
    unless_same (Some e) s = refl

map_same : (q : StatsBody) (o : Option SwitchState) → option_map (after_message (StatsRequest q)) o ≡ o
map_same q None = refl
map_same q (Some s) = ap some_switch (query_same q s)

still_by : {Own : Type 0} (d : ℕ) (q : StatsBody) (old new : Seen Own) → MayMove d (StatsRequest q) (state old) (state new) → SwitchesStay old new
still_by d q old new moves e =
    elim (cases_eq e d) [
      | inl same ↦ ap (λ (n : ℕ). switch_of n (state new)) same ∙ here ∙ ap (λ (n : ℕ). switch_of n (state old)) (sym same)
      | inr other ↦ moves.others e other
    ]
  where
    here : switch_of d (state new) ≡ switch_of d (state old)
    here = elim moves.switch [ inl same ↦ same | inr moved ↦ moved ∙ map_same q (switch_of d (state old)) ]

broke_still : {Own : Type 0} {Tells : Type 0} (i : Inquiry) (old new : Seen Own) (before came : List (ℕ × List ℕ)) (fault : TxnFault) → IsMessage (StatsRequest i.query) → i.xid < 2 ^ 32
    → BreaksBy Tells (asked_from i.dpid i.xid) (query_bytes i.xid i.query ∷ barrier_of (asked_from i.dpid i.xid) ∷ []) old new before came (Fault fault) → Tells → SwitchesStay old new
broke_still i old new before came fault message lt b told =
    let a = asked_from i.dpid i.xid in
    let read = reading_of-message_bytes i.xid (StatsRequest i.query) lt message in
    still_by i.dpid i.query old new (breaks_move a i.xid (StatsRequest i.query) (query_bytes i.xid i.query) old new before came b.buf b.trouble told (next_xid-lt i.xid lt) read (fault_is_none i.dpid b.trouble b.buf fault b.halt_is) b.breaks)

pub replied_still : {Own : Type 0} {Tells : Type 0} (i : Inquiry) (a : Awaited) (frame : List ℕ) (old new : Seen Own) (before came : List (ℕ × List ℕ)) (answer : Brought) → IsMessage (StatsRequest i.query) → i.xid < 2 ^ 32 → a ≡ asked_from i.dpid i.xid
    → frame ≡ query_bytes i.xid i.query → Replied Tells a (frame ∷ barrier_of a ∷ []) Growing [] old new before came answer → Tells → SwitchesStay old new
replied_still {Tells = Tells} i a frame old new before came answer message lt is frame_is r told =
    let here = asked_from i.dpid i.xid in
    let r1 = subst (λ (x : Awaited). Replied Tells x (frame ∷ barrier_of x ∷ []) Growing [] old new before came answer) is r in
    let r2 = subst (λ (f : List ℕ). Replied Tells here (f ∷ barrier_of here ∷ []) Growing [] old new before came answer) frame_is r1 in
    let read = reading_of-message_bytes i.xid (StatsRequest i.query) lt message in
    still_by i.dpid i.query old new (replied_move here i.xid (StatsRequest i.query) (query_bytes i.xid i.query) old new before came answer told (next_xid-lt i.xid lt) read r2)

-- ---- How it ends

ends_so : {Own : Type 0} {Tells : Type 0} (i : Inquiry) (old new : Seen Own) (before came : List (ℕ × List ℕ)) (Cause : TxnFault → Type 0) (halt : Halt) → IsMessage (StatsRequest i.query) → i.xid < 2 ^ 32 → Causes Tells i old new Cause
    → BreaksBy Tells (asked_from i.dpid i.xid) (query_bytes i.xid i.query ∷ barrier_of (asked_from i.dpid i.xid) ∷ []) old new before came halt → WaitHalts Tells (asked_from i.dpid i.xid) (inquiry_sent i) old new halt → InquiryHalts Tells i old new Cause halt
ends_so i old new before came Cause Lost message lt causes b w = w
ends_so i old new before came Cause (Fault fault) message lt causes b w = record { cause = causes fault w.0; flooded = w.1; losses = w.2; still = broke_still i old new before came fault message lt b }

-- how the wait behind the request ends before its end
pub inquiry_halts : {Own : Type 0} {Tells : Type 0} (i : Inquiry) (a : Awaited) (frame : List ℕ) (old new : Seen Own) (before came : List (ℕ × List ℕ)) (Cause : TxnFault → Type 0) (halt : Halt) → IsMessage (StatsRequest i.query) → i.xid < 2 ^ 32
    → a ≡ asked_from i.dpid i.xid → frame ≡ query_bytes i.xid i.query → Causes Tells i old new Cause → BreaksBy Tells a (frame ∷ barrier_of a ∷ []) old new before came halt → InquiryHalts Tells i old new Cause halt
inquiry_halts {Tells = Tells} i a frame old new before came Cause halt message lt is frame_is causes b =
    let here = asked_from i.dpid i.xid in
    let b1 = subst (λ (x : Awaited). BreaksBy Tells x (frame ∷ barrier_of x ∷ []) old new before came halt) is b in
    let b2 = subst (λ (f : List ℕ). BreaksBy Tells here (f ∷ barrier_of here ∷ []) old new before came halt) frame_is b1 in
    ends_so i old new before came Cause halt message lt causes b2 (breaks_halts (query_bytes i.xid i.query ∷ []) halt (next_xid-lt i.xid lt) (none_released i message lt) b2)

-- its transaction ids
pub request_ascends : (i : Inquiry) (a : Awaited) (frame : List ℕ) → a ≡ asked_from i.dpid i.xid → frame ≡ query_bytes i.xid i.query → FramesAscend i.xid 2 a (frame ∷ barrier_of a ∷ [])
request_ascends i a frame is same = two_ascend a i.xid (StatsRequest i.query) frame refl same (ap (λ (x : Awaited). x.barrier) is)

-- no memory was left behind the reply
pub inquiry_short : {Own : Type 0} {Tells : Type 0} (i : Inquiry) (a : Awaited) (frame : List ℕ) (old new : Seen Own) (before came : List (ℕ × List ℕ)) (Cause : TxnFault → Type 0) (answer : Brought) → IsMessage (StatsRequest i.query) → i.xid < 2 ^ 32
    → a ≡ asked_from i.dpid i.xid → frame ≡ query_bytes i.xid i.query → Causes Tells i old new Cause → Replied Tells a (frame ∷ barrier_of a ∷ []) Growing [] old new before came answer → InquiryHalts Tells i old new Cause (Fault NoMemory)
inquiry_short i a frame old new before came Cause answer message lt is frame_is causes r = record {
  cause = causes NoMemory tt;
  flooded = tt;
  losses = replied_none_lost a (frame ∷ barrier_of a ∷ []) r;
  still = replied_still i a frame old new before came answer message lt is frame_is r;
}

-- what came is at fault, and the switch was parted with
pub inquiry_parted : {Own : Type 0} {Tells : Type 0} (i : Inquiry) (a : Awaited) (frame : List ℕ) (old mid new : Seen Own) (before came : List (ℕ × List ℕ)) (Cause : TxnFault → Type 0) (answer : Brought) → IsMessage (StatsRequest i.query) → i.xid < 2 ^ 32
    → a ≡ asked_from i.dpid i.xid → frame ≡ query_bytes i.xid i.query → Replied Tells a (frame ∷ barrier_of a ∷ []) Growing [] old mid before came answer → Calls Tells i.dpid (CannotSay i.dpid ∷ []) mid new → InquiryHalts Tells i old new Cause Lost
inquiry_parted {Tells = Tells} i a frame old mid new before came Cause answer message lt is frame_is r c =
    let here = asked_from i.dpid i.xid in
    let r1 = subst (λ (x : Awaited). Replied Tells x (frame ∷ barrier_of x ∷ []) Growing [] old mid before came answer) is r in
    let r2 = subst (λ (f : List ℕ). Replied Tells here (f ∷ barrier_of here ∷ []) Growing [] old mid before came answer) frame_is r1 in
    replied_lost here (query_bytes i.xid i.query ∷ []) (next_xid-lt i.xid lt) (none_released i message lt) r2 c

pub inquiry_parted_speaks : {Own : Type 0} {Tells : Type 0} (i : Inquiry) (a : Awaited) (frame : List ℕ) (old mid new : Seen Own) (before came : List (ℕ × List ℕ)) (answer : Brought) → a ≡ asked_from i.dpid i.xid → frame ≡ query_bytes i.xid i.query
    → Replied Tells a (frame ∷ barrier_of a ∷ []) Growing [] old mid before came answer → Calls Tells i.dpid (CannotSay i.dpid ∷ []) mid new → Speaks Tells i.dpid i.xid 2 old new
inquiry_parted_speaks {Tells = Tells} i a frame old mid new before came answer is frame_is r c =
    let here = asked_from i.dpid i.xid in
    let r1 = subst (λ (x : Awaited). Replied Tells x (frame ∷ barrier_of x ∷ []) Growing [] old mid before came answer) is r in
    parted_speaks i.xid 2 here (frame ∷ []) r1 c (request_ascends i here frame refl frame_is)

-- what came is at fault
pub inquiry_broke : {Own : Type 0} {Tells : Type 0} (i : Inquiry) (a : Awaited) (frame : List ℕ) (old new : Seen Own) (before came : List (ℕ × List ℕ)) (Cause : TxnFault → Type 0) (answer : Brought) (fault : TxnFault) → IsMessage (StatsRequest i.query) → i.xid < 2 ^ 32
    → a ≡ asked_from i.dpid i.xid → frame ≡ query_bytes i.xid i.query → Replied Tells a (frame ∷ barrier_of a ∷ []) Growing [] old new before came answer → Cause fault → IfFlooded Tells (asked_from i.dpid i.xid) (inquiry_sent i) old new fault
    → InquiryHalts Tells i old new Cause (Fault fault)
inquiry_broke i a frame old new before came Cause answer fault message lt is frame_is r cause flooded = record {
  cause = cause;
  flooded = flooded;
  losses = replied_none_lost a (frame ∷ barrier_of a ∷ []) r;
  still = replied_still i a frame old new before came answer message lt is frame_is r;
}

-- ---- The whole

others_go : {Own : Type 0} {Tells : Type 0} (d xid : ℕ) (old new : Seen Own) (kept now_kept : List (ℕ × List ℕ)) (rows : List FlowRow) → xid < 2 ^ 32 → AsksFrom Tells d xid old new kept now_kept (Ok rows) → Tells → lost_of new ≡ lost_of old
others_go d xid old new kept now_kept rows lt asks told = waits_none_lost (inquiry_sent (rows_inquiry d xid)) (refl, (refl, tt)) refl asks.answer.answered.waits told

pub asks_rows : {Own : Type 0} {Tells : Type 0} (d xid : ℕ) (old new : Seen Own) (net : NetState) (now_kept : List (ℕ × List ℕ)) (rows : List FlowRow) → net.xid < 2 ^ 32 → xid ≡ next_xid (next_xid net.xid) → AsksFrom Tells d net.xid old new net.kept now_kept (Ok rows)
    → Asks Tells d old new net (record net { xid = xid; kept = now_kept }) (Ok (Some rows))
asks_rows d xid old new net now_kept rows lt next asks = record {
  continues = speaks_on asks.speaks;
  links = speaks_links asks.speaks;
  no_strays = speaks_place asks.speaks;
  read = λ ok told. waits_read _ (refl, (refl, tt)) (next_xid-lt net.xid lt) asks.answer.answered.waits told;
  ids = speaks_on_ids xid asks.speaks (omega arith) (λ small. next ∙ second_next net.xid small) (waits_leave asks.answer.answered.waits);
  asks = record {
    kept_more = asks.kept_more;
    answer = asks.answer;
    flooded = tt;
    losses = others_go d net.xid old new net.kept now_kept rows lt asks;
    stays = ap (λ (x : ℕ). record net { xid = x; kept = now_kept }) next;
  };
}

pub asks_fault : {Own : Type 0} {Tells : Type 0} (d xid : ℕ) (old new : Seen Own) (net : NetState) (now_kept : List (ℕ × List ℕ)) (fault : TxnFault) → xid ≡ next_xid (next_xid net.xid) → AsksFrom Tells d net.xid old new net.kept now_kept (Err (Fault fault))
    → Asks Tells d old new net (record net { xid = xid; kept = now_kept }) (Err fault)
asks_fault d xid old new net now_kept fault next asks = record {
  continues = speaks_on asks.speaks;
  links = speaks_links asks.speaks;
  no_strays = speaks_place asks.speaks;
  read = λ ok. absurd cc;
  ids = speaks_over_ids xid asks.speaks (omega arith) (λ small. next ∙ second_next net.xid small);
  asks = record {
    kept_more = asks.kept_more;
    answer = asks.answer.cause;
    flooded = asks.answer.flooded;
    losses = asks.answer.losses;
    stays = ap (λ (x : ℕ). record net { xid = x; kept = now_kept }) next;
  };
}

pub asks_lost : {Own : Type 0} {Tells : Type 0} (d xid : ℕ) (old new : Seen Own) (net : NetState) (now_kept : List (ℕ × List ℕ)) → xid ≡ next_xid (next_xid net.xid) → AsksFrom Tells d net.xid old new net.kept now_kept (Err Lost)
    → Asks Tells d old new net (lost_net d (record net { xid = xid; kept = now_kept })) (Ok None)
asks_lost d xid old new net now_kept next asks = record {
  continues = speaks_on asks.speaks;
  links = speaks_links asks.speaks;
  no_strays = speaks_place asks.speaks;
  read = λ ok told. asks.answer.1 told;
  ids = speaks_on_ids xid asks.speaks (omega arith) (λ small. next ∙ second_next net.xid small) asks.answer.0.some;
  asks = record {
    is_lost = asks.answer.0;
    net_is = ap (λ (k : List (ℕ × List ℕ)). record (lost_net d net) { xid = xid; kept = k }) (forget_kept d net.kept now_kept asks.kept_more);
  };
}

pub ask_steps : {Own : Type 0} {Tells : Type 0} (d xid : ℕ) (old new : Seen Own) (kept now_kept : List (ℕ × List ℕ)) (rows : List FlowRow) → xid < 2 ^ 32 → AsksFrom Tells d xid old new kept now_kept (Ok rows) → AskSteps Tells d old new kept now_kept (Ok (Some rows))
ask_steps d xid old new kept now_kept rows lt asks s told keeps is none = rows_in_step d xid s old new kept now_kept rows lt told asks.answer keeps is none

pub ask_fault_steps : {Own : Type 0} {Tells : Type 0} (d xid : ℕ) (old new : Seen Own) (kept now_kept : List (ℕ × List ℕ)) (fault : TxnFault) → xid < 2 ^ 32 → AsksFrom Tells d xid old new kept now_kept (Err (Fault fault)) → AskSteps Tells d old new kept now_kept (Err fault)
ask_fault_steps d xid old new kept now_kept fault lt asks s told keeps is none =
    let i = rows_inquiry d xid in
    let later = speaks_on asks.speaks in
    let short : length (reply_rows asking s) ≤ 4096 = omega (arith, few_flows s, table_few old d s (Conforming-before told later keeps) is) in
    elim asks.answer.cause [
      | inl cause ↦ plain_asks d s fault (wait_plain i s old new fault IsAsked-asking short lt told later keeps is none asks.answer.flooded cause)
      | inr replies ↦ by_replies d xid s old new kept now_kept replies.0 (message_bytes (next_xid xid) BarrierReply) fault (asked_in_step i s old new kept now_kept replies.0 IsAsked-asking lt told replies.1 keeps is none) replies.2
    ]
