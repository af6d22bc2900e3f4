-- A cause in a part of a run is one in the whole.
use Rattle.std.proofs.Common.{◌⊎◌, ℕ, List, IsErr, ◌∙◌, arith, inl, inr}
use Rattle.lego_io.specs.Count.{NeverFell}
use Rattle.lego_io.specs.laws.CountLaws.{Rose-after, Rose-before}
use Rattle.of_wire.specs.Reading.{reading_of}
use Rattle.outside.specs.declared.step.WorldStep.{WorldStep}
use Rattle.outside.specs.Seen.{NoneFell, Seen, Longer, Continues}
use Rattle.lego_model.specs.declared.fault.TxnFault.{TxnFault}
use Rattle.lego_model.specs.declared.fault.TxnFault.TheVariants.{SwitchBroke, Diverged, Flooded, NoMemory}
use Rattle.event_dispatch.specs.declared.served.Served.{Served}
use Rattle.event_dispatch.specs.declared.served.Served.TheVariants as ends
use Rattle.event_dispatch.specs.declared.engine_core.Core.{Core}
use Rattle.event_dispatch.specs.Runs.{Waits, WaitsAtEnd}
use Rattle.event_dispatch.specs.Why.{IsWhy}
use Rattle.lego_model.specs.SwitchFaults.{CameFrom, IsBadPart, IsUnanswered, IsErrorFor, IsWhyTxn}
use Rattle.lego_model.specs.laws.SwitchFaultLaws.{happened_behind, happened_before, IsFlood-behind, IsFlood-before}

-- ---- What came in a part of a history came in the whole

came_behind : (d : ℕ) (bytes : List ℕ) (a b c : List WorldStep) → Longer a b → CameFrom d bytes b c → CameFrom d bytes a c
came_behind d bytes a b c first (inl told) = inl (happened_behind _ a b c first told)
came_behind d bytes a b c first (inr got) = inr (happened_behind _ a b c first got)

came_before : (d : ℕ) (bytes : List ℕ) (a b c : List WorldStep) → Longer b c → CameFrom d bytes a b → CameFrom d bytes a c
came_before d bytes a b c rest (inl told) = inl (happened_before _ a b c rest told)
came_before d bytes a b c rest (inr got) = inr (happened_before _ a b c rest got)

-- ---- The parts of a cause

module _ {Own Tells : Type 0} (a b c : Seen Own) (first : Tells → Longer a.history b.history) where
  bad_part_behind : (d : ℕ) (bytes : List ℕ) → IsBadPart Tells d bytes b c → IsBadPart Tells d bytes a c
  bad_part_behind d bytes is = record { xid = is.xid; query = is.query; got = is.got; kind = is.kind; no_refusal = is.no_refusal; broken = is.broken; told = λ told. happened_behind _ a.history b.history c.history (first told) (is.told told) }

  unanswered_behind : (d : ℕ) (sent reply : List ℕ) → IsUnanswered Tells d sent reply b c → IsUnanswered Tells d sent reply a c
  unanswered_behind d sent reply is = record {
    xid = is.xid;
    query = is.query;
    got = is.got;
    sent_is = is.sent_is;
    reply_is = is.reply_is;
    no_part = is.no_part;
    no_refusal = is.no_refusal;
    told = λ told. happened_behind _ a.history b.history c.history (first told) (is.told told);
  }

  broken_behind : (d : ℕ) (bytes : List ℕ) → IsErr (reading_of bytes) ⊎ IsBadPart Tells d bytes b c → IsErr (reading_of bytes) ⊎ IsBadPart Tells d bytes a c
  broken_behind d bytes (inl broken) = inl broken
  broken_behind d bytes (inr part) = inr (bad_part_behind d bytes part)

  refused_behind : (d : ℕ) (sent got : List ℕ) → IsErrorFor sent got ⊎ IsUnanswered Tells d sent got b c → IsErrorFor sent got ⊎ IsUnanswered Tells d sent got a c
  refused_behind d sent got (inl refused) = inl refused
  refused_behind d sent got (inr none) = inr (unanswered_behind d sent got none)

  pub IsWhyTxn-behind : (fault : TxnFault) → NoneFell a.counts b.counts → IsWhyTxn Tells b c fault → IsWhyTxn Tells a c fault
  IsWhyTxn-behind (Flooded d n) fell why = (why.0, IsFlood-behind a b c first d n why.1)
  IsWhyTxn-behind NoMemory fell why = why
  IsWhyTxn-behind (SwitchBroke d bytes) fell why = ((λ told. came_behind d bytes a.history b.history c.history (first told) (why.0 told)), broken_behind d bytes why.1)
  IsWhyTxn-behind (Diverged d sent got) fell why = ((λ told. ((why.0 told).0, happened_behind _ a.history b.history c.history (first told) (why.0 told).1)), refused_behind d sent got why.1)

module _ {Own Tells : Type 0} (a b c : Seen Own) (rest : Tells → Longer b.history c.history) where
  bad_part_before : (d : ℕ) (bytes : List ℕ) → IsBadPart Tells d bytes a b → IsBadPart Tells d bytes a c
  bad_part_before d bytes is = record { xid = is.xid; query = is.query; got = is.got; kind = is.kind; no_refusal = is.no_refusal; broken = is.broken; told = λ told. happened_before _ a.history b.history c.history (rest told) (is.told told) }

  unanswered_before : (d : ℕ) (sent reply : List ℕ) → IsUnanswered Tells d sent reply a b → IsUnanswered Tells d sent reply a c
  unanswered_before d sent reply is = record {
    xid = is.xid;
    query = is.query;
    got = is.got;
    sent_is = is.sent_is;
    reply_is = is.reply_is;
    no_part = is.no_part;
    no_refusal = is.no_refusal;
    told = λ told. happened_before _ a.history b.history c.history (rest told) (is.told told);
  }

  broken_before : (d : ℕ) (bytes : List ℕ) → IsErr (reading_of bytes) ⊎ IsBadPart Tells d bytes a b → IsErr (reading_of bytes) ⊎ IsBadPart Tells d bytes a c
  broken_before d bytes (inl broken) = inl broken
  broken_before d bytes (inr part) = inr (bad_part_before d bytes part)

  refused_before : (d : ℕ) (sent got : List ℕ) → IsErrorFor sent got ⊎ IsUnanswered Tells d sent got a b → IsErrorFor sent got ⊎ IsUnanswered Tells d sent got a c
  refused_before d sent got (inl refused) = inl refused
  refused_before d sent got (inr none) = inr (unanswered_before d sent got none)

  IsWhyTxn-before : (fault : TxnFault) → NoneFell a.counts b.counts → NoneFell b.counts c.counts → IsWhyTxn Tells a b fault → IsWhyTxn Tells a c fault
  IsWhyTxn-before (Flooded d n) fell on why = (why.0, IsFlood-before a b c rest d n why.1)
  IsWhyTxn-before NoMemory fell on why = why
  IsWhyTxn-before (SwitchBroke d bytes) fell on why = ((λ told. came_before d bytes a.history b.history c.history (rest told) (why.0 told)), broken_before d bytes why.1)
  IsWhyTxn-before (Diverged d sent got) fell on why = ((λ told. ((why.0 told).0, happened_before _ a.history b.history c.history (rest told) (why.0 told).1)), refused_before d sent got why.1)

-- ---- The whole

-- what came behind a part of a run
pub IsWhy-behind : {Own Tells : Type 0} (a b c : Seen Own) (k l m : ℕ) (end : Served) → Continues Tells a b → NeverFell k l → IsWhy Tells b c l m end → IsWhy Tells a c k m end
IsWhy-behind a b c k l m (ends.Ended events) first up why = tt
IsWhy-behind a b c k l m ends.WriteFault first up why = Rose-after k l m up why
IsWhy-behind a b c k l m ends.Shut first up why = Rose-after a.counts.shuts b.counts.shuts c.counts.shuts first.none_fell.shuts why
IsWhy-behind a b c k l m ends.NextFault first up why = Rose-after a.counts.next_faults b.counts.next_faults c.counts.next_faults first.none_fell.next_faults why
IsWhy-behind a b c k l m (ends.Txn fault) first up why = IsWhyTxn-behind a b c first.told fault first.none_fell why
IsWhy-behind a b c k l m (ends.EventsLeft left) first up why = why
IsWhy-behind a b c k l m ends.NoMemory first up why = tt

-- what came before the rest of a run
pub IsWhy-before : {Own Tells : Type 0} (a b c : Seen Own) (k l m : ℕ) (end : Served) → Continues Tells a b → Continues Tells b c → NeverFell k l → NeverFell l m → IsWhy Tells a b k l end → IsWhy Tells a c k m end
IsWhy-before a b c k l m (ends.Ended events) first rest up on why = tt
IsWhy-before a b c k l m ends.WriteFault first rest up on why = Rose-before k l m up why on
IsWhy-before a b c k l m ends.Shut first rest up on why = Rose-before a.counts.shuts b.counts.shuts c.counts.shuts first.none_fell.shuts why rest.none_fell.shuts
IsWhy-before a b c k l m ends.NextFault first rest up on why = Rose-before a.counts.next_faults b.counts.next_faults c.counts.next_faults first.none_fell.next_faults why rest.none_fell.next_faults
IsWhy-before a b c k l m (ends.Txn fault) first rest up on why = IsWhyTxn-before a b c rest.told fault first.none_fell rest.none_fell why
IsWhy-before a b c k l m (ends.EventsLeft left) first rest up on why = why
IsWhy-before a b c k l m ends.NoMemory first rest up on why = tt

-- where no sink was written to
pub IsWhy-sink : {Own : Type 0} (Tells : Type 0) (a b : Seen Own) (k m : ℕ) (end : Served) → NeverFell k m → IsWhy Tells a b 0 0 end → IsWhy Tells a b k m end
IsWhy-sink Tells a b k m (ends.Ended events) up why = tt
IsWhy-sink Tells a b k m ends.WriteFault up (inl lt) = absurd (omega (arith, lt))
IsWhy-sink Tells a b k m ends.WriteFault up (inr e) = absurd (omega (arith, e))
IsWhy-sink Tells a b k m ends.Shut up why = why
IsWhy-sink Tells a b k m ends.NextFault up why = why
IsWhy-sink Tells a b k m (ends.Txn fault) up why = why
IsWhy-sink Tells a b k m (ends.EventsLeft left) up why = why
IsWhy-sink Tells a b k m ends.NoMemory up why = tt

-- ---- Over what is seen

pub why_then : {Own : Type 0} {Tells : Type 0} (a b c : Seen Own) (end : Served) → Continues Tells a b → IsWhy Tells b c 0 0 end → IsWhy Tells a c 0 0 end
why_then a b c end first why = IsWhy-behind a b c 0 0 0 end first (omega arith) why

pub waits_then : (a b c : Core) → Waits a b → Waits b c → Waits a c
waits_then a b c first rest = record { room = rest.room ∙ first.room; events = rest.events ∙ first.events; store = rest.store ∙ first.store; left = λ none. rest.left (first.left none) }

-- at the end of a report
pub waits_at_end : (a b c : Core) → WaitsAtEnd a b → Waits b c → WaitsAtEnd a c
waits_at_end a b c first rest = record { room = rest.room ∙ first.room; events = rest.events ∙ first.events; store = rest.store ∙ first.store }

pub ends_then : (a b c : Core) → WaitsAtEnd a b → WaitsAtEnd b c → WaitsAtEnd a c
ends_then a b c first rest = record { room = rest.room ∙ first.room; events = rest.events ∙ first.events; store = rest.store ∙ first.store }

-- what came before an undo
pub why_before : {Own : Type 0} {Tells : Type 0} (a b c : Seen Own) (end : Served) → Continues Tells a b → Continues Tells b c → IsWhy Tells a b 0 0 end → IsWhy Tells a c 0 0 end
why_before a b c end first rest why = IsWhy-before a b c 0 0 0 end first rest (omega arith) (omega arith) why

-- ---- With a sink

pub why_behind : {Own : Type 0} {Tells : Type 0} (a b c : Seen Own) (k l m : ℕ) (end : Served) → Continues Tells a b → NeverFell k l → IsWhy Tells b c l m end → IsWhy Tells a c k m end
why_behind a b c k l m end first up why = IsWhy-behind a b c k l m end first up why

pub fell_then : (k l m : ℕ) → NeverFell k l → NeverFell l m → NeverFell k m
fell_then k l m up on = omega (arith, up, on)

pub same_fell : (k : ℕ) → NeverFell k k
same_fell k = omega arith

-- ---- The end of the application

-- a cause stays one behind calls of the world alone
pub why_still : {Own : Type 0} {Tells : Type 0} (a b c : Seen Own) (k l : ℕ) (end : Served) → Continues Tells a b → Continues Tells b c → NeverFell k l → IsWhy Tells a b k l end → IsWhy Tells a c k l end
why_still a b c k l end first rest up why = IsWhy-before a b c k l l end first rest up (omega arith) why
