-- Laws of how a run may end in a world that keeps its word.
use Rattle.std.proofs.Common.{◌≡◌, ℕ, ◌<◌, ◌^◌, Bool, List, [], ◌∷◌, ◌++◌, length, map, Option, Some, IsSome, Result, Ok, Err, IfErr, IsOk, slice_get, take, refl, sym, ap, ◌∙◌, subst, inl, inr}
use Rattle.of_stats.specs.Flows.{AreRows}
use Rattle.of_wire.specs.Reading.{reading_of}
use Rattle.flow_table.specs.View.{TableView}
use Rattle.flow_table.specs.Switch.{SwitchState}
use Rattle.app_frames.specs.declared.frame.Event.{Event}
use Rattle.crash_policy.specs.Policies.{AppValue}
use Rattle.lego_model.specs.Places.{Place}
use Rattle.outside.specs.declared.item.Item.{Item}
use Rattle.outside.specs.declared.item.Item.TheVariants as items
use Rattle.outside.specs.declared.step.WorldStep.TheVariants.{Opened}
use Rattle.outside.specs.Seen.{Seen, Longer, Continues}
use Rattle.outside.specs.laws.SeenLaws.{Longer-trans}
use Rattle.outside.specs.Calls.{Nexts, item_step}
use Rattle.outside.specs.State.{state, switch_of}
use Rattle.outside.specs.laws.StateLaws.{Conforming-before}
use Rattle.outside.specs.Conforming.{Conforming}
use Rattle.lego_model.specs.declared.fault.TxnFault.{TxnFault}
use Rattle.lego_model.specs.declared.fault.TxnFault.TheVariants.{SwitchBroke, Diverged, Flooded, NoMemory}
use Rattle.lego_model.specs.SwitchFaults.{FloodedByPacket}
use Rattle.net_txn.specs.laws.FloodLaws.{both_ways}
use Rattle.switch_laws.specs.Released.{StopsFor}
use Rattle.net_txn.specs.Causes.{IsPlain}
use Rattle.net_txn.specs.laws.LostPartLaws.{Distinct}
use Rattle.net_txn.specs.Arriving.{IsArrivalCause}
use Rattle.net_txn.specs.JoiningSteps.{JoinSteps}
use Rattle.net_txn.specs.AskSteps.{own_rows, IsAskFault, AskSteps}
use Rattle.net_txn.specs.Net.{NetState}
use Rattle.net_txn.specs.Undos.{Undoes}
use Rattle.net_txn.specs.Releases.{Commits}
use Rattle.net_txn.specs.Views.{rows_at}
use Rattle.app_visor.specs.Beats.{Leads, Stops}
use Rattle.switch_laws.specs.laws.SoundLaws.{rows-are}
use Rattle.switch_laws.specs.laws.ClockLaws.{switch-in_time, moment-within}
use Rattle.run_laws.specs.laws.TellLaws.{chain_keeps}
use Rattle.app_visor.specs.laws.BeatLaws.{halts_continue}
use Rattle.switch_laws.specs.Since.{Goes}
use Rattle.switch_laws.specs.laws.SinceLaws.{begun}
use Rattle.turn_laws.specs.laws.StopLaws.{stop-plain, leads-ready, flooded-since, leads-commit-plain}
use Rattle.batch_laws.specs.laws.InBatchLaws.{next_can}
use Rattle.run_laws.specs.Engine.{Engine}
use Rattle.run_laws.specs.laws.CalmLaws.{stands_ready}
use Rattle.run_laws.specs.laws.FirstLaws.{settled-first}
use Rattle.run_laws.specs.First.{engine_at_first}
use Rattle.run_laws.specs.Promise.{Premise}
use Rattle.run_laws.specs.laws.LastReportLaws.{joined-with}
use Rattle.run_laws.specs.Moves.{AtRest}
use Rattle.event_dispatch.specs.declared.fault.Fault.{Fault}
use Rattle.event_dispatch.specs.declared.fault.Fault.TheVariants as faults
use Rattle.event_dispatch.specs.declared.batch.Rest.{Rest}
use Rattle.event_dispatch.specs.declared.batch.Rest.TheVariants as rests
use Rattle.event_dispatch.specs.declared.engine_core.Core.{Core}
use Rattle.event_dispatch.specs.declared.run.Run.{Run}
use Rattle.event_dispatch.specs.declared.served.Served.{Served}
use Rattle.event_dispatch.specs.declared.served.Served.TheVariants as ends
use Rattle.event_dispatch.specs.Why.{fault_of, served_by, ended_by}
use Rattle.event_dispatch.specs.Runs.{Waits}
use Rattle.event_dispatch.specs.Shows.{Stays, engine_of}
use Rattle.event_dispatch.specs.Batch.{standing_of, KeptSoFar, BatchGoes, BatchShown}
use Rattle.event_dispatch.specs.laws.BatchLaws.{some_kept}
use Rattle.event_dispatch.specs.ReportEnd.{TablesShown}
use Rattle.event_dispatch.specs.laws.LastLaws.{some_is, says_ready, says_sound, distinct-views, distinct-take}
use Rattle.event_dispatch.specs.Serves.{DispatchesSome, IsBatch, GoesRounds, GoesToEnd, Begins, IsUnopened}
use Rattle.event_dispatch.specs.laws.RoundLaws.{stays_engine, batch_is}
use Rattle.event_dispatch.specs.laws.CutLaws.{partly_gone}
use Rattle.event_dispatch.specs.Cut.{FailsNext}
use Rattle.event_dispatch.specs.laws.WholeLaws.{opened_is}
use Rattle.event_dispatch.specs.Plain.{IsPlainServed, IsPlainEnd, PlainRead, PlainJoin, PlainItem, PlainNext, PlainKept, PlainCalm, PlainTurn, PlainTable, PlainRun, EndsPlain}

-- ---- Want of memory, and faults of the network

pub plain_fault : (fault : TxnFault) → IsPlain fault → IsPlainServed (ended_by fault)
plain_fault NoMemory plain = tt
plain_fault (SwitchBroke e bytes) plain = absurd plain
plain_fault (Diverged e sent got) plain = absurd plain
plain_fault (Flooded e n) plain = absurd plain

-- ---- A flood

flood_before : {Own : Type 0} {Tells : Type 0} {d : ℕ} (old mid new : Seen Own) → Tells → Continues Tells mid new → FloodedByPacket d old mid → FloodedByPacket d old new
flood_before old mid new told later f = record {
  mid = f.mid;
  given = f.given ∙ sym later.given;
  before = f.before;
  packet = f.packet;
  switch = f.switch;
  stands = f.stands;
  many = f.many;
  xid = f.xid;
  sent = Longer-trans _ mid.history new.history f.sent (later.told told);
}

-- it ends so behind a part of a run,
pub ends_behind : {Own : Type 0} (old mid new : Seen Own) (end : Served) → Longer old.history mid.history → EndsPlain mid new end → EndsPlain old new end
ends_behind old mid new end first (inl plain) = inl plain
ends_behind old mid new end first (inr flood) = inr (flood.0, (flood.1.0, flooded-since old mid new first flood.1.1))

-- and before one
ends_before : {Own : Type 0} {Tells : Type 0} (old mid new : Seen Own) (end : Served) → Tells → Continues Tells mid new → EndsPlain old mid end → EndsPlain old new end
ends_before old mid new end told later (inl plain) = inl plain
ends_before old mid new end told later (inr flood) = inr (flood.0, (flood.1.0, flood_before old mid new told later flood.1.1))

-- a release that stopped
ends_release : {Own : Type 0} (old new : Seen Own) (fault : TxnFault) → StopsFor old new fault → EndsPlain old new (ended_by fault)
ends_release old new fault (inl plain) = inl (plain_fault fault plain)
ends_release old new fault (inr flood) = inr (flood.0, (ap ended_by flood.1.0, flood.1.1))

-- ---- A batch

arrival_plain : {Own : Type 0} (d : ℕ) (frame : List ℕ) (old new : Seen Own) (fault : TxnFault) → IsArrivalCause d frame old new fault → IsOk (reading_of frame) → IsPlainServed (ended_by fault)
arrival_plain d frame old new (SwitchBroke e bytes) cause read = absurd (both_ways (reading_of frame) read cause.2)
arrival_plain d frame old new (Diverged e sent got) cause read = absurd cause
arrival_plain d frame old new (Flooded e n) cause read = absurd cause
arrival_plain d frame old new NoMemory cause read = tt

pub read_memory : (bytes : List ℕ) → PlainRead bytes faults.NoMemory
read_memory bytes = record { plain = λ read. tt }

pub read_arrived : {Own : Type 0} (d : ℕ) (frame : List ℕ) (old new : Seen Own) (fault : TxnFault) → IsArrivalCause d frame old new fault → PlainRead frame (fault_of fault)
read_arrived d frame old new fault cause = record { plain = λ read. arrival_plain d frame old new fault cause read }

pub join_memory : {Own : Type 0} {Tells : Type 0} (d : ℕ) (old new : Seen Own) → PlainJoin Tells d old new faults.NoMemory
join_memory d old new = record { plain = λ told keeps free. tt }

pub join_fault : {Own : Type 0} {Tells : Type 0} (d : ℕ) (old new : Seen Own) (net now_net : NetState) (fault : TxnFault) → JoinSteps Tells d old new net now_net (Err fault) → PlainJoin Tells d old new (fault_of fault)
join_fault d old new net now_net fault steps = record { plain = λ told keeps free. plain_fault fault (steps told keeps free) }

-- an item
pub item_joined : {Own : Type 0} {Tells : Type 0} (item : Item) (d n : ℕ) (buf : List ℕ) (old new : Seen Own) (fault : Fault) → item ≡ items.Joined d n → PlainJoin Tells d old new fault → PlainItem Tells (item_step item buf) old new fault
unfolding item_step
item_joined {Tells = Tells} item d n buf old new fault is join = rw is (record { plain = λ told keeps can. join.plain told keeps can })

pub item_memory : {Own : Type 0} {Tells : Type 0} (item : Item) (buf : List ℕ) (old new : Seen Own) → PlainItem Tells (item_step item buf) old new faults.NoMemory
item_memory item buf old new = record { plain = λ told keeps can. tt }

-- what is told next
pub next_anyway : {Own : Type 0} {Tells : Type 0} (old new : Seen Own) (fault : Fault) → IsPlainEnd fault → PlainNext Tells old new fault
next_anyway old new fault plain = record { plain = λ told keeps can. plain }

pub next_taken : {Own : Type 0} {Tells : Type 0} (item : Item) (buf : List ℕ) (old mid new : Seen Own) (fault : Fault) → Nexts Tells old mid (Ok item) buf → Continues Tells mid new → PlainItem Tells (item_step item buf) mid new fault → PlainNext Tells old new fault
next_taken item buf old mid new fault call later taken = record { plain = λ told keeps can. taken.plain told keeps (can item buf mid (Conforming-before told later keeps) call) }

-- what was kept
pub kept_memory : (net : NetState) → PlainKept net faults.NoMemory
kept_memory net = record { plain = λ none. tt }

pub kept_none : {Own Tells : Type 0} {n : ℕ} {old now : Seen Own} (run mid : Core) (m : ℕ × List ℕ) (fault : Fault) → KeptSoFar Tells n old now run mid → Some m ≡ slice_get mid.net.kept 0 → PlainKept run.net fault
kept_none run mid m fault so_far is = record { plain = λ none. absurd (some_kept m mid.net.kept is (ap (λ (s : NetState). s.kept) (so_far.none none).1.1 ∙ none)) }

-- a batch
pub calm_anyway : {Own : Type 0} {Tells : Type 0} (old new : Seen Own) (net : NetState) (end : Served) → IsPlainServed end → PlainCalm Tells old new net end
calm_anyway old new net end plain = record { plain = λ told keeps calm. plain }

pub batch_kept : {Own : Type 0} {Tells : Type 0} (old new : Seen Own) (net : NetState) (fault : Fault) → PlainKept net fault → PlainCalm Tells old new net (served_by fault)
batch_kept old new net fault kept = record { plain = λ told keeps calm. kept.plain calm.kept }

pub batch_next : {Own : Type 0} {Tells : Type 0} (n : ℕ) (old now new : Seen Own) (run mid : Core) (fault : Fault) → BatchGoes Tells n old now run mid → Continues Tells now new → PlainNext Tells now new fault → PlainCalm Tells old new run.net (served_by fault)
batch_next n old now new run mid fault goes later next = record {
  plain = λ told keeps calm. next.plain told keeps (next_can n (standing_of old run) (standing_of now mid) told calm (goes.so_far told (Conforming-before told later keeps) calm));
}

-- ---- A turn

pub turn_memory : {Own : Type 0} {Tells : Type 0} (old new : Seen Own) (net : NetState) → PlainTurn Tells old new net faults.NoMemory
turn_memory old new net = record { plain = λ told keeps ready sound. inl tt }

-- what is noted leaves the network
pub turn_noted : {Own : Type 0} {Tells : Type 0} (old new : Seen Own) (net noted : NetState) (fault : Fault) → noted ≡ net → PlainTurn Tells old new noted fault → PlainTurn Tells old new net fault
turn_noted {Tells = Tells} old new net noted fault same turn = subst (λ (n : NetState). PlainTurn Tells old new n fault) same turn

pub turn_stopped : {Own : Type 0} {Tells : Type 0} {app : ℕ} (old mid new : Seen Own) (net now_net : NetState) (fault : TxnFault) → Continues Tells mid new → Stops Tells app old mid net now_net fault → PlainTurn Tells old new net (fault_of fault)
turn_stopped {Tells = Tells} {app = app} old mid new net now_net fault later stops = record {
  plain = λ told keeps ready sound.
      let before : Conforming mid = Conforming-before told later keeps in
      let there : Conforming stops.then_seen = Conforming-before told (halts_continue Tells stops.then_seen mid stops.then_net now_net fault stops.halts) before in
      let first : Goes (length net.log) [] old old net net = record { since = begun old net; ready = ready } in
      let keeps_sound = chain_keeps Tells app (length net.log) [] old net stops.leads.trace old stops.then_seen net stops.then_net told there stops.leads.chain first sound in
      inl (plain_fault fault (stop-plain Tells app old mid net now_net fault told before ready stops keeps_sound.sound));
}

-- a turn that failed, and could not be undone
pub turn_not_undone : {Own : Type 0} {Tells : Type 0} {app start : ℕ} (old mid new : Seen Own) (net txn_net mid_net now_net : NetState) (result : Result (Unit {0}) TxnFault) (fault : TxnFault) → txn_net ≡ net
    → Leads Tells app old mid txn_net mid_net → result ≡ Err fault → Undoes Tells start mid new mid_net now_net result → PlainTurn Tells old new net (fault_of fault)
turn_not_undone {Own} {Tells} {app} {start} old mid new net txn_net mid_net now_net result fault same leads is undoes =
    let failed : Undoes Tells start mid new mid_net now_net (Err fault) = subst (Undoes Tells start mid new mid_net now_net) is undoes in
    turn_noted old new net txn_net (fault_of fault) same (record {
      plain = λ told keeps ready sound.
          let before : Conforming mid = Conforming-before told failed.continues keeps in
          let again = leads-ready told before ready leads in
          inl (plain_fault fault (failed.plain told keeps (λ d viewed. stands_ready d mid mid_net again viewed (switch_of d (state mid)) refl)));
    })

-- one that was whole, and whose packets could not all be released
pub turn_uncommitted : {Own : Type 0} {Tells : Type 0} {app start now_start : ℕ} {queue now_queue : List Event} (old mid new : Seen Own) (net txn_net mid_net now_net : NetState) (fault : TxnFault) → txn_net ≡ net → start ≡ length net.log → now_start ≡ start
    → Leads Tells app old mid txn_net mid_net → Commits Tells now_start mid new mid_net now_net queue now_queue (Err fault) → PlainTurn Tells old new net (fault_of fault)
turn_uncommitted {Own} {Tells} {app} {start} {now_start} {queue} {now_queue} old mid new net txn_net mid_net now_net fault same at kept leads commits =
    let led : Leads Tells app old mid net mid_net = subst (λ (n : NetState). Leads Tells app old mid n mid_net) same leads in
    let broken : Commits Tells (length net.log) mid new mid_net now_net queue now_queue (Err fault) =
    subst (λ (n : ℕ). Commits Tells n mid new mid_net now_net queue now_queue (Err fault)) (kept ∙ at) commits in
    record {
      plain = λ told keeps ready sound.
          ends_release old new fault (leads-commit-plain new now_net queue now_queue fault told keeps ready led broken);
    }

-- ---- A question for rows

ask_plain : (d : ℕ) (s : SwitchState) (fault : TxnFault) → AreRows (own_rows s) → IsAskFault d s fault → IsPlainServed (ended_by fault)
ask_plain d s NoMemory are plain = tt
ask_plain d s (SwitchBroke e bytes) are plain = absurd (plain.1 are)
ask_plain d s (Diverged e sent got) are plain = absurd plain
ask_plain d s (Flooded e n) are plain = absurd plain

pub table_asked : {Own : Type 0} {Tells : Type 0} {old new : Seen Own} {net : NetState} (d : ℕ) (kept now_kept : List (ℕ × List ℕ)) (fault : TxnFault) → IsSome (rows_at d net.views) → Continues Tells old new
    → AskSteps Tells d old new kept now_kept (Err fault) → PlainTable Tells old new net (fault_of fault)
table_asked {Tells = Tells} {old = old} {new = new} {net = net} d kept now_kept fault known continues steps = record {
  plain = λ told keeps ready sound.
      let vs = some_is (rows_at d net.views) known in
      let j = joined-with d net.views (state old) vs.0 (ready.agrees d) vs.1 in
      let before : Conforming old = Conforming-before told continues keeps in
      let time = switch-in_time old before d j.switch j.stands in
      let small = subst (λ (n : ℕ). n < 2 ^ 32) (sym time.moment_is) (moment-within old before) in
      ask_plain d j.switch fault (rows-are j.switch (sound.entries d j.switch j.stands) small) (steps j.switch told keeps j.stands (ready.waits d));
}

pub table_memory : {Own : Type 0} {Tells : Type 0} (old new : Seen Own) (net : NetState) → PlainTable Tells old new net faults.NoMemory
table_memory old new net = record { plain = λ told keeps ready sound. tt }

pub tables_then : {Own : Type 0} {Tells : Type 0} (all : List ℕ) (i : ℕ) (old mid new : Seen Own) (r then_r : Core) (fault : Fault) → all ≡ map (λ v. v.dpid) r.net.views → TablesShown Tells (take i all) old mid r then_r → Continues Tells mid new
    → PlainTable Tells mid new then_r.net fault → PlainCalm Tells old new r.net (served_by fault)
tables_then all i old mid new r then_r fault is tables later table = record {
  plain = λ told keeps calm.
      let apart : Distinct all = subst Distinct (sym is) (distinct-views 0 r.net.views calm.order) in
      let says = (tables.shown (distinct-take i all apart) told (Conforming-before told later keeps) calm.ready calm.sound).says in
      table.plain told keeps (says_ready says calm.ready) (says_sound says calm.sound);
}

-- ---- Parts of a run

pub run_anyway : {Own : Type 0} {Tells : Type 0} {accepts : List TableView → Bool} (old new : Seen Own) (e : Engine) (end : Served) → IsPlainServed end → PlainRun Tells accepts old new e end
run_anyway old new e end plain = record { plain = λ allows told keeps judges settled. inl plain }

-- a fault ended an event, behind some turns at it
pub run_fails : {Own : Type 0} {Tells : Type 0} {accepts : List TableView → Bool} (old new : Seen Own) (r : Run) (fault : Fault) → FailsNext Tells accepts fault old new (engine_of r) → PlainRun Tells accepts old new (engine_of r) (served_by fault)
run_fails {Own} {Tells} {accepts} old new r fault next = record {
  plain = λ allows told keeps judges settled.
      let f = next.fails in
      let gone = partly_gone Tells accepts allows fault old new (engine_of r) next told (Conforming-before told f.later keeps) judges settled in
      ends_behind old f.mid new (served_by fault) (f.on.told told) (f.within.plain.plain told keeps gone.rest.calm.ready gone.rest.calm.sound);
}

-- events, one after the other
pub run_settled : {Own : Type 0} {Tells : Type 0} {accepts : List TableView → Bool} {n : ℕ} {a b : Option (List ℕ)} (old mid new : Seen Own) (r then_r : Run) (end : Served) → Continues Tells old mid → DispatchesSome Tells accepts n a b old mid r then_r → Continues Tells mid new
    → PlainRun Tells accepts mid new (engine_of then_r) end → PlainRun Tells accepts old new (engine_of r) end
run_settled old mid new r then_r end first some later rest = record {
  plain = λ allows told keeps judges settled.
      ends_behind old mid new end (first.told told) (rest.plain allows told keeps judges (some.shown.moved allows told (Conforming-before told later keeps) judges settled).settled);
}

-- a batch, and then the events that wait
pub run_calm : {Own : Type 0} {Tells : Type 0} {accepts : List TableView → Bool} (old new : Seen Own) (r : Run) (end : Served) → PlainCalm Tells old new r.core.net end → PlainRun Tells accepts old new (engine_of r) end
run_calm old new r end calm = record { plain = λ allows told keeps judges settled. inl (calm.plain told keeps settled.calm) }

batch_settled : {Own : Type 0} {Tells : Type 0} (rest : Rest) (noted : List ℕ) (old new : Seen Own) (e now_e : Engine) → IsBatch Tells rest noted old new e now_e → Tells → Conforming new → AtRest old e → AtRest new now_e
batch_settled rests.Idle noted old new e now_e batch told keeps settled = (batch.happens told keeps settled).moved.settled
batch_settled rests.End noted old new e now_e batch told keeps settled = (batch.over.moved told keeps settled).settled

pub run_batch : {Own : Type 0} {Tells : Type 0} {accepts : List TableView → Bool} (rest : Rest) (old mid new : Seen Own) (r : Run) (then_c mid_c : Core) (end : Served) → Continues Tells old mid → r.core.lines.items ≡ [] → Waits r.core then_c → BatchShown Tells rest old mid r.core then_c
    → Stays then_c mid_c → Continues Tells mid new → PlainRun Tells accepts mid new (engine_of (record r { core = mid_c })) end → PlainRun Tells accepts old new (engine_of r) end
run_batch {Tells = Tells} rest old mid new r then_c mid_c end first none waits batch same later settle = record {
  plain = λ allows told keeps judges settled.
      ends_behind old mid new end (first.told told)
      (settle.plain allows told keeps judges
      (subst (AtRest mid) (sym (stays_engine r then_c mid_c same))
      (batch_settled rest then_c.lines.items old mid (engine_of r) (engine_of (record r { core = then_c })) (batch_is Tells rest old mid r then_c first none waits batch) told (Conforming-before told later keeps) settled)));
}

-- rounds
pub run_rounds : {Own : Type 0} {Tells : Type 0} {accepts : List TableView → Bool} {n : ℕ} {a b : Option (List ℕ)} (old mid new : Seen Own) (r then_r : Run) (end : Served) → Continues Tells old mid → GoesRounds Tells accepts n a b old mid r then_r → Continues Tells mid new
    → PlainRun Tells accepts mid new (engine_of then_r) end → PlainRun Tells accepts old new (engine_of r) end
run_rounds old mid new r then_r end first rounds later rest = record {
  plain = λ allows told keeps judges settled.
      ends_behind old mid new end (first.told told) (rest.plain allows told keeps judges (rounds.shown.rounds_is allows told (Conforming-before told later keeps) judges settled).moved.settled);
}

-- ---- A whole run

begun_settled : {Own : Type 0} {Tells : Type 0} {a b : Option (List ℕ)} {old mid : Seen Own} {r then_r : Run} → Begins Tells a b old mid r then_r → Tells → Conforming mid → AtRest old (engine_of r) → AtRest mid (engine_of then_r)
begun_settled begins told keeps settled = (begins.shown.moved told keeps settled).settled

pub whole_rounds : {Own : Type 0} {Tells : Type 0} {accepts : List TableView → Bool} {a b : Option (List ℕ)} (old mid new : Seen Own) (r then_r : Run) (end : Served) → Continues Tells old mid → Begins Tells a b old mid r then_r → Continues Tells mid new
    → PlainRun Tells accepts mid new (engine_of then_r) end → PlainRun Tells accepts old new (engine_of r) end
whole_rounds old mid new r then_r end first begins later rest = record {
  plain = λ allows told keeps judges settled.
      ends_behind old mid new end (first.told told) (rest.plain allows told keeps judges (begun_settled begins told (Conforming-before told later keeps) settled));
}

pub whole_finish : {Own : Type 0} {Tells : Type 0} {accepts : List TableView → Bool} {most : ℕ} {a b c : Option (List ℕ)} (old mid last new : Seen Own) (r then_r last_r : Run) (result : Result (Unit {0}) Served) → Begins Tells a b old mid r then_r → Continues Tells mid last
    → GoesToEnd Tells accepts most b c mid last then_r last_r → Continues Tells last new → IfErr result (PlainCalm Tells last new last_r.core.net) → IfErr result (PlainRun Tells accepts old new (engine_of r))
whole_finish old mid last new r then_r last_r (Ok x) begins on rounds later ends = tt
whole_finish {Tells = Tells} old mid last new r then_r last_r (Err end) begins on rounds later ends = record {
  plain = λ allows told keeps judges settled.
      let keeps_last = Conforming-before told later keeps in
      let then_settled = begun_settled begins told (Conforming-before told on keeps_last) settled in
      let all = rounds.shown.to_end allows told keeps_last judges then_settled in
      inl (ends.plain told keeps all.moved.settled.calm);
}

pub whole_then : {Own : Type 0} {Tells : Type 0} (accepts : List TableView → Bool) (old mid new : Seen Own) (e : Engine) (result : Result (Unit {0}) Served) → Continues Tells mid new → IfErr result (PlainRun Tells accepts old mid e) → IfErr result (PlainRun Tells accepts old new e)
whole_then accepts old mid new e (Ok x) later whole = tt
whole_then {Tells = Tells} accepts old mid new e (Err end) later whole = record {
  plain = λ allows told keeps judges settled.
      ends_before old mid new end told later (whole.plain allows told (Conforming-before told later keeps) judges settled);
}

-- a run that was opened
pub unopened_plain : {Own : Type 0} (Tells : Type 0) (old new : Seen Own) (end : Served) → IsUnopened Tells old new end → IsPlainServed end
unopened_plain Tells old new (ends.Ended events) is = tt
unopened_plain Tells old new ends.WriteFault is = tt
unopened_plain Tells old new ends.Shut is = tt
unopened_plain Tells old new ends.NextFault is = tt
unopened_plain Tells old new (ends.Txn fault) is = absurd is
unopened_plain Tells old new (ends.EventsLeft left) is = tt
unopened_plain Tells old new ends.NoMemory is = tt

pub served_plain : {Own : Type 0} (rules : List AppValue) (Tells : Type 0) (accepts : List TableView → Bool) (end : Served) (old mid new : Seen Own) → (Tells → mid.history ≡ old.history ++ Opened ∷ []) → PlainRun Tells accepts mid new (engine_at_first rules) end
    → (allows : List Place → Bool) → Premise Tells accepts allows old new → EndsPlain old new end
served_plain rules Tells accepts end old mid new opened whole allows p =
    ends_behind old mid new end (Opened ∷ [], opened p.told) (whole.plain allows p.told p.keeps p.judges (settled-first rules mid (opened_is old mid p.untouched (opened p.told))))
