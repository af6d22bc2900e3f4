-- What happened in a part of a history happened in the whole, and so a cause in a part of the calls is one in all of them.
use Rattle.std.proofs.Common.{◌≡◌, ℕ, List, ◌++◌, sym, ap, ◌∙◌, append_assoc}
use Rattle.lego_io.specs.laws.CountLaws.{Rose-after, Rose-before}
use Rattle.outside.specs.declared.step.WorldStep.{WorldStep}
use Rattle.outside.specs.Seen.{NoneFell, Seen, Longer, Continues}
use Rattle.lego_model.specs.declared.fault.TxnFault.{TxnFault}
use Rattle.lego_model.specs.declared.fault.TxnFault.TheVariants.{SwitchBroke, Diverged, Flooded, NoMemory}
use Rattle.lego_model.specs.SwitchFaults.{Happened, IsFlood}
use Rattle.lego_model.specs.AfterFault.{IsWhyUndo, FailsInUndo}

-- ---- Steps

pub happened_behind : (steps a b c : List WorldStep) → Longer a b → Happened steps b c → Happened steps a c
happened_behind steps a b c first h =
    let rest = h.before ++ (steps ++ h.behind) in
    record {
      before = first.0 ++ h.before;
      behind = h.behind;
      told = h.told ∙ ap (λ (xs : List WorldStep). xs ++ rest) first.1 ∙ append_assoc a first.0 rest ∙ ap (λ (xs : List WorldStep). a ++ xs) (sym (append_assoc first.0 h.before (steps ++ h.behind)));
    }

pub happened_before : (steps a b c : List WorldStep) → Longer b c → Happened steps a b → Happened steps a c
happened_before steps a b c rest h = record {
  before = h.before;
  behind = h.behind ++ rest.0;
  told = rest.1 ∙ ap (λ (xs : List WorldStep). xs ++ rest.0) h.told ∙ regroup a h.before steps h.behind rest.0;
}
  where
    regroup : (a b s e l : List WorldStep) → (a ++ (b ++ (s ++ e))) ++ l ≡ a ++ (b ++ (s ++ (e ++ l)))
    regroup a b s e l = simp append_assoc

-- ---- Causes, behind calls that came before

module _ {Own Tells : Type 0} (a b c : Seen Own) (first : Tells → Longer a.history b.history) where
  pub IsFlood-behind : (d n : ℕ) → IsFlood Tells d n b c → IsFlood Tells d n a c
  IsFlood-behind d n is = record {
    awaited = is.awaited;
    of_switch = is.of_switch;
    got = is.got;
    many = is.many;
    before_reply = is.before_reply;
    told = λ told. happened_behind _ a.history b.history c.history (first told) (is.told told);
  }

  why_behind : (d : ℕ) (fault : TxnFault) → NoneFell a.counts b.counts → IsWhyUndo Tells d b c fault → IsWhyUndo Tells d a c fault
  why_behind d (SwitchBroke e bytes) fell why = (why.0, why.1, λ told. happened_behind _ a.history b.history c.history (first told) (why.2 told))
  why_behind d (Diverged e inverse got) fell why = (why.0, why.1, λ told. ((why.2 told).0, happened_behind _ a.history b.history c.history (first told) (why.2 told).1))
  why_behind d (Flooded e n) fell why = (why.0, why.1, IsFlood-behind d n why.2)
  why_behind d NoMemory fell why =
      (Rose-after a.counts.shorts b.counts.shorts c.counts.shorts fell.shorts why.0, Rose-after (a.counts.shorts_of d) (b.counts.shorts_of d) (c.counts.shorts_of d) (fell.shorts_of d) why.1)

-- ---- Causes, before calls that come behind

module _ {Own Tells : Type 0} (a b c : Seen Own) (rest : Tells → Longer b.history c.history) where
  pub IsFlood-before : (d n : ℕ) → IsFlood Tells d n a b → IsFlood Tells d n a c
  IsFlood-before d n is = record {
    awaited = is.awaited;
    of_switch = is.of_switch;
    got = is.got;
    many = is.many;
    before_reply = is.before_reply;
    told = λ told. happened_before _ a.history b.history c.history (rest told) (is.told told);
  }

  why_before : (d : ℕ) (fault : TxnFault) → NoneFell a.counts b.counts → NoneFell b.counts c.counts → IsWhyUndo Tells d a b fault → IsWhyUndo Tells d a c fault
  why_before d (SwitchBroke e bytes) fell on why = (why.0, why.1, λ told. happened_before _ a.history b.history c.history (rest told) (why.2 told))
  why_before d (Diverged e inverse got) fell on why = (why.0, why.1, λ told. ((why.2 told).0, happened_before _ a.history b.history c.history (rest told) (why.2 told).1))
  why_before d (Flooded e n) fell on why = (why.0, why.1, IsFlood-before d n why.2)
  why_before d NoMemory fell on why =
      (Rose-before a.counts.shorts b.counts.shorts c.counts.shorts fell.shorts why.0 on.shorts, Rose-before (a.counts.shorts_of d) (b.counts.shorts_of d) (c.counts.shorts_of d) (fell.shorts_of d) why.1 (on.shorts_of d))

-- ---- A switch that failed in an undo

pub failed_behind : {Own Tells : Type 0} (d : ℕ) (a b c : Seen Own) → Continues Tells a b → FailsInUndo Tells d b c → FailsInUndo Tells d a c
failed_behind d a b c first f = record {
  fault = f.fault;
  why = why_behind a b c first.told d f.fault first.none_fell f.why;
  sent = f.sent;
  front = f.front;
  were_sent = f.were_sent;
  steps = f.steps;
  each = f.each;
  cause = f.cause;
  places = f.places;
  told = λ told. happened_behind (f.front ++ f.steps) a.history b.history c.history (first.told told) (f.told told);
}

pub failed_before : {Own Tells : Type 0} (d : ℕ) (a b c : Seen Own) → NoneFell a.counts b.counts → NoneFell b.counts c.counts → (Tells → Longer b.history c.history) → FailsInUndo Tells d a b → FailsInUndo Tells d a c
failed_before d a b c fell on rest f = record {
  fault = f.fault;
  why = why_before a b c rest d f.fault fell on f.why;
  sent = f.sent;
  front = f.front;
  were_sent = f.were_sent;
  steps = f.steps;
  each = f.each;
  cause = f.cause;
  places = f.places;
  told = λ told. happened_before (f.front ++ f.steps) a.history b.history c.history (rest told) (f.told told);
}

-- in a world that tells
why_told : {Own Tells : Type 0} (d : ℕ) (a b : Seen Own) (fault : TxnFault) → Tells → IsWhyUndo Tells d a b fault → IsWhyUndo (Unit {0}) d a b fault
why_told d a b (SwitchBroke e bytes) tells why = (why.0, why.1, λ told. why.2 tells)
why_told d a b (Diverged e inverse got) tells why = (why.0, why.1, λ told. why.2 tells)
why_told d a b (Flooded e n) tells why =
    (why.0, why.1, record { awaited = why.2.awaited; of_switch = why.2.of_switch; got = why.2.got; many = why.2.many; before_reply = why.2.before_reply; told = λ told. why.2.told tells })
why_told d a b NoMemory tells why = why

pub failed_told : {Own Tells : Type 0} (d : ℕ) (a b : Seen Own) → Tells → FailsInUndo Tells d a b → FailsInUndo (Unit {0}) d a b
failed_told d a b tells f = record {
  fault = f.fault;
  why = why_told d a b f.fault tells f.why;
  sent = f.sent;
  front = f.front;
  were_sent = f.were_sent;
  steps = f.steps;
  each = f.each;
  cause = f.cause;
  places = f.places;
  told = λ told. f.told tells;
}
