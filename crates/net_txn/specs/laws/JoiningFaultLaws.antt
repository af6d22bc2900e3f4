-- How a switch fails to join; and that where a world keeps its word, it gives no cause for a fault.
use Rattle.std.specs.Prelude.{◌≡◌, ◌==◌, ℕ, ◌^◌, ◌<◌, not, List, [], ◌∷◌, ◌++◌, length, filter, Option, Some, None, refl}
use Rattle.std.specs.List.{AllByRecursion}
use Rattle.std.proofs.Common.{sym, ap, ◌∙◌, subst, arith}
use Rattle.of_types.specs.declared.journal.Act.TheVariants.{Sent}
use Rattle.of_wire.specs.declared.message.Message.TheVariants.{FlowMod, SetConfig}
use Rattle.of_wire.specs.Spelling.{message_bytes}
use Rattle.flow_table.specs.Switch.{Declared, SwitchState, first_config}
use Rattle.outside.specs.declared.step.WorldStep.TheVariants.{Acted}
use Rattle.outside.specs.Seen.{Seen, Continues}
use Rattle.outside.specs.State.{State, state, switch_of, waits_of}
use Rattle.outside.specs.laws.StateLaws.{Conforming-rest, Conforming-before}
use Rattle.outside.specs.Conforming.{MaySteps, Conforming}
use Rattle.lego_model.specs.declared.fault.TxnFault.{TxnFault}
use Rattle.lego_model.specs.declared.fault.TxnFault.TheVariants.{SwitchBroke, Diverged, Flooded, NoMemory}
use Rattle.lego_model.specs.declared.wait.Awaited.{Awaited}
use Rattle.net_txn.specs.Causes.{IsCause, IsPlain}
use Rattle.net_txn.specs.Waits.{Brought, Waits, Floods, IfFlooded}
use Rattle.lego_model.specs.BarrierWaits.{wait_steps, barrier_sent, next_xid}
use Rattle.flow_table.specs.View.{TableView}
use Rattle.net_txn.specs.declared.ports.KnownPorts.{KnownPorts}
use Rattle.net_txn.specs.Net.{NetState}
use Rattle.net_txn.specs.laws.NoticeLaws.{AllNotices, notice_steps}
use Rattle.net_txn.specs.laws.TableBoundLaws.{table_few}
use Rattle.net_txn.specs.laws.FloodLaws.{IsGotAlone, few_got, ends_read}
use Rattle.net_txn.specs.declared.halt.Halt.{Halt}
use Rattle.net_txn.specs.declared.halt.Halt.TheVariants.{Fault}
use Rattle.net_txn.specs.Losing.{WaitHalts}
use Rattle.net_txn.specs.declared.queue.Storage.TheVariants.{Growing}
use Rattle.net_txn.specs.Said.{frames_said, barrier_of, Replied, BreaksBy}
use Rattle.net_txn.specs.laws.HeardLaws.{next_xid-lt}
use Rattle.net_txn.specs.laws.LostLaws.{packets_said, breaks_halts, replied_none_lost}
use Rattle.net_txn.specs.Joining.{delete_all, greeted_from, greeting, DoesNotJoin}
use Rattle.net_txn.specs.JoiningSteps.{JoinHalts}
use Rattle.net_txn.specs.laws.JoiningStepLaws.{are_read, after_all, greeted, greeted_none, none_first}
use Rattle.net_txn.specs.laws.OwnIdLaws.{FramesAscend, three_ascend}
use Rattle.net_txn.specs.laws.ChangeLaws.{forget_kept}

-- ---- From the call on

none_released : (d xid : ℕ) → xid < 2 ^ 32 → packets_said (frames_said d (message_bytes xid (FlowMod delete_all) ∷ message_bytes (next_xid xid) (SetConfig first_config) ∷ [])) ≡ []
unfolding packets_said
none_released d xid lt = let read = are_read xid lt in rw (read.deletion, read.config) refl

-- how the wait behind the two messages ends before its end
pub greeted_halts : {Own : Type 0} {Tells : Type 0} (d xid : ℕ) (a : Awaited) (first second : List ℕ) (old new : Seen Own) (kept now_kept : List (ℕ × List ℕ)) (halt : Halt) → xid < 2 ^ 32 → a ≡ greeted_from d xid → first ≡ message_bytes xid (FlowMod delete_all)
    → second ≡ message_bytes (next_xid xid) (SetConfig first_config) → BreaksBy Tells a (first ∷ second ∷ barrier_of a ∷ []) old new kept now_kept halt → WaitHalts Tells (greeted_from d xid) (greeting d xid) old new halt
greeted_halts {Tells = Tells} d xid a first second old new kept now_kept halt lt is first_is second_is b =
    let here = greeted_from d xid in
    let one = message_bytes xid (FlowMod delete_all) in
    let two = message_bytes (next_xid xid) (SetConfig first_config) in
    let b1 = subst (λ (x : Awaited). BreaksBy Tells x (first ∷ second ∷ barrier_of x ∷ []) old new kept now_kept halt) is b in
    let b2 = subst (λ (f : List ℕ). BreaksBy Tells here (f ∷ second ∷ barrier_of here ∷ []) old new kept now_kept halt) first_is b1 in
    let b3 = subst (λ (f : List ℕ). BreaksBy Tells here (one ∷ f ∷ barrier_of here ∷ []) old new kept now_kept halt) second_is b2 in
    breaks_halts (one ∷ two ∷ []) halt (next_xid-lt (next_xid xid) (next_xid-lt xid lt)) (none_released d xid lt) b3

pub greeted_waits : {Own : Type 0} (Tells : Type 0) (d xid : ℕ) (a : Awaited) (first second : List ℕ) (old new : Seen Own) (kept net_kept now_kept : List (ℕ × List ℕ)) (answer : Brought) → a ≡ greeted_from d xid → first ≡ message_bytes xid (FlowMod delete_all)
    → second ≡ message_bytes (next_xid xid) (SetConfig first_config) → kept ≡ net_kept → Waits Tells a (Acted (Sent a.dpid first) ∷ Acted (Sent a.dpid second) ∷ barrier_sent a ∷ []) old new kept now_kept answer
    → Waits Tells (greeted_from d xid) (greeting d xid) old new net_kept now_kept answer
greeted_waits Tells d xid a first second old new kept net_kept now_kept answer is first_is second_is kept_is f =
    let here = greeted_from d xid in
    let f0 = subst (λ (k : List (ℕ × List ℕ)). Waits Tells a (Acted (Sent a.dpid first) ∷ Acted (Sent a.dpid second) ∷ barrier_sent a ∷ []) old new k now_kept answer) kept_is f in
    let f1 = subst (λ (x : Awaited). Waits Tells x (Acted (Sent x.dpid first) ∷ Acted (Sent x.dpid second) ∷ barrier_sent x ∷ []) old new net_kept now_kept answer) is f0 in
    let f2 = subst (λ (b : List ℕ). Waits Tells here (Acted (Sent d b) ∷ Acted (Sent d second) ∷ barrier_sent here ∷ []) old new net_kept now_kept answer) first_is f1 in
    subst (λ (b : List ℕ). Waits Tells here (Acted (Sent d (message_bytes xid (FlowMod delete_all))) ∷ Acted (Sent d b) ∷ barrier_sent here ∷ []) old new net_kept now_kept answer) second_is f2

-- ---- Where a world keeps its word

pub notices_got : (a : Awaited) (ws : List (List ℕ)) → AllNotices ws → AllByRecursion (IsGotAlone a) ws
notices_got a [] all = tt
notices_got a (w ∷ ws) all = (notice_steps a w all.0, notices_got a ws all.1)

none_got : (declared : List Declared) (a : Awaited) (got : List (List ℕ)) (t : State) → waits_of a.dpid t ≡ [] → 0 < length got → MaySteps declared (wait_steps a got) t → ⊥
none_got declared a [] t none some may = omega (arith, some)
none_got declared a (b ∷ bs) t none some may = none_first declared a.dpid b _ t none may

not_flooded : {Own : Type 0} {Tells : Type 0} (d xid : ℕ) (old new : Seen Own) (o : Option SwitchState) → xid < 2 ^ 32 → Tells → Conforming new → waits_of d (state old) ≡ [] → switch_of d (state old) ≡ o
    → Floods Tells (greeted_from d xid) (greeting d xid) old new → ⊥
not_flooded d xid old new None lt told keeps none out f =
    let a = greeted_from d xid in
    let may = Conforming-rest old new (greeting d xid ++ wait_steps a f.got) f.continues.given (f.told told) keeps in
    none_got old.given.declared a f.got (after_all d xid (state old)) (greeted_none d xid (state old) (are_read xid lt) out none) (omega (arith, f.many)) may.1.1.1
not_flooded d xid old new (Some s) lt told keeps none is f =
    let a = greeted_from d xid in
    let may = Conforming-rest old new (greeting d xid ++ wait_steps a f.got) f.continues.given (f.told told) keeps in
    let g = greeted d xid s (state old) (are_read xid lt) is none in
    let few = few_got old.given.declared a g.notices f.got (after_all d xid (state old)) (notices_got a g.notices g.are_notices) g.waits may.1.1.1 f.before_reply in
    let entries = table_few old d s (Conforming-before told f.continues keeps) is in
    omega (arith, f.many, few, g.few, entries)

pub join_plain : {Own : Type 0} {Tells : Type 0} (d xid : ℕ) (old new : Seen Own) (fault : TxnFault) → xid < 2 ^ 32 → Tells → Continues Tells old new → Conforming new → waits_of d (state old) ≡ []
    → IfFlooded Tells (greeted_from d xid) (greeting d xid) old new fault → IsCause Tells d old new fault → IsPlain fault
join_plain d xid old new (SwitchBroke of bytes) lt told later keeps none f cause = ends_read d bytes old new later.given (cause.2 told) keeps cause.1
join_plain d xid old new (Diverged of sent got) lt told later keeps none f cause = cause
join_plain d xid old new (Flooded of n) lt told later keeps none f cause = not_flooded d xid old new (switch_of d (state old)) lt told keeps none refl f
join_plain d xid old new NoMemory lt told later keeps none f cause = tt

-- ---- Where memory ran out

-- behind the reply
pub short_behind : {Own : Type 0} {Tells : Type 0} (d : ℕ) (a : Awaited) (frames : List (List ℕ)) (old new : Seen Own) (net now_net : NetState) (kept now_kept : List (ℕ × List ℕ)) (answer : Brought) → Replied Tells a frames Growing [] old new kept now_kept answer → DoesNotJoin d net now_net
    → JoinHalts Tells d old new net now_net (Fault NoMemory)
short_behind d a frames old new net now_net kept now_kept answer r not = record { not_joined = not; halts = (tt, tt, replied_none_lost a frames r) }

-- ---- Its transaction ids

pub greeting_ascends : (d xid : ℕ) (a : Awaited) (frame then_frame : List ℕ) → a ≡ greeted_from d xid → frame ≡ message_bytes xid (FlowMod delete_all) → then_frame ≡ message_bytes (next_xid xid) (SetConfig first_config) → FramesAscend xid 3 a (frame ∷ then_frame ∷ barrier_of a ∷ [])
greeting_ascends d xid a frame then_frame is first second = three_ascend a xid (FlowMod delete_all) (SetConfig first_config) frame then_frame refl refl first second (ap (λ (x : Awaited). x.barrier) is)

-- ---- What the host keeps where it was lost

pub not_joined : (d : ℕ) (net mid : NetState) (kept : List (ℕ × List ℕ)) → mid ≡ record net { views = mid.views; ports = mid.ports; xid = next_xid (next_xid (next_xid net.xid)); kept = mid.kept } → DoesNotJoin d net mid → kept ≡ filter (λ m. not (m.0 == d)) mid.kept
    → record mid { kept = kept } ≡ record net { xid = mid.xid; kept = filter (λ m. not (m.0 == d)) net.kept }
not_joined d net mid kept stays unjoined is =
    let next = next_xid (next_xid (next_xid net.xid)) in
    let left = filter (λ (m : ℕ × List ℕ). not (m.0 == d)) net.kept in
    ap (λ (n : NetState). record n { kept = kept }) stays
    ∙ ap (λ (vs : List TableView). record net { views = vs; ports = mid.ports; xid = next; kept = kept }) unjoined.views
    ∙ ap (λ (ps : List KnownPorts). record net { ports = ps; xid = next; kept = kept }) unjoined.known
    ∙ ap (λ (k : List (ℕ × List ℕ)). record net { xid = next; kept = k }) (is ∙ forget_kept d net.kept mid.kept unjoined.kept)
    ∙ ap (λ (x : ℕ). record net { xid = x; kept = left }) (sym (ap (λ (n : NetState). n.xid) stays))
