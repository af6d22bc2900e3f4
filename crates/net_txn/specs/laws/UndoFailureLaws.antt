-- A switch that failed in an undo has its cause in the calls of that undo.
use Rattle.std.specs.List.{AllByRecursion}
use Rattle.std.proofs.Common.{◌≡◌, ◌==◌, ℕ, Bool, true, false, List, [], ◌∷◌, ◌++◌, Option, Some, None, if◌then◌else◌, refl, sym, ap, ◌∙◌, subst, append_assoc, inl, inr}
use Rattle.std.proofs.lemmas.Bool.{cases_Bool, cases_eq, eq-eqb, ne_eqb, eqb-true}
use Rattle.std.proofs.lemmas.List.{append-nil}
use Rattle.of_types.specs.Fields.{number_at}
use Rattle.of_types.specs.declared.journal.Act.TheVariants.{Sent, Got}
use Rattle.of_match.specs.declared.key.Key.{Key}
use Rattle.outside.specs.declared.step.WorldStep.{WorldStep}
use Rattle.outside.specs.declared.step.WorldStep.TheVariants.{Acted}
use Rattle.outside.specs.Seen.{Counts, Seen}
use Rattle.lego_model.specs.declared.fault.TxnFault.{TxnFault}
use Rattle.lego_model.specs.declared.fault.TxnFault.TheVariants.{SwitchBroke, Diverged, Flooded, NoMemory}
use Rattle.lego_model.specs.AfterFault.{IsWhyUndo, FailsInUndo}
use Rattle.lego_model.specs.UndoFaults.{inverse_bytes, WasSent, key_sent, key_refused, HasCause}
use Rattle.lego_model.specs.BarrierWaits.{wait_steps, barrier_sent}
use Rattle.lego_model.specs.SwitchFaults.{Happened, SentThenGot, IsFlood}
use Rattle.net_txn.specs.declared.halt.Halt.{Halt}
use Rattle.net_txn.specs.declared.halt.Halt.TheVariants.{Lost, Fault}
use Rattle.net_txn.specs.Undos.{is_lost, is_out, IsFaultOf, IsHaltOf, IsStuckBy, Part, Inverse, BarrierPassed, Stuck, part_steps, steps_of, parts_of, is_stuck, inverses_of, IsRun}
use Rattle.net_txn.specs.laws.RestoreLaws.{AllRun, runs_here, runs_older}
use Rattle.net_txn.specs.laws.UndoLaws.{out_of_stuck}

-- ---- Steps of an undo

-- steps of a part of it happened
in_part : {old new : List WorldStep} (older steps rest front mid back : List WorldStep) → steps ≡ front ++ (mid ++ back) → new ≡ old ++ ((older ++ steps) ++ rest) → Happened mid old new
in_part {old = old} older steps rest front mid back steps_is told = record {
  before = older ++ front;
  behind = back ++ rest;
  told = told ∙ ap (λ (s : List WorldStep). old ++ ((older ++ s) ++ rest)) steps_is ∙ ap (λ (w : List WorldStep). old ++ w) (regroup older front mid back rest);
}
  where
    regroup : (o f m b r : List WorldStep) → (o ++ (f ++ (m ++ b))) ++ r ≡ (o ++ f) ++ (m ++ (b ++ r))
    regroup o f m b r = simp append_assoc

sent_earlier : (d xid : ℕ) (key : Key) (steps more : List WorldStep) → WasSent d xid key steps → WasSent d xid key (steps ++ more)
sent_earlier d xid key steps more is = record { before = is.before; behind = is.behind ++ more; steps_is = ap (λ (xs : List WorldStep). xs ++ more) is.steps_is ∙ append_assoc is.before (Acted (Sent d (inverse_bytes xid key)) ∷ is.behind) more }

same_key : (a b : Key) → Some a ≡ Some b → a ≡ b
same_key a b h = cc

sent_last : (c d x xid : ℕ) (k key : Key) (steps : List WorldStep) → c ≡ d → x ≡ xid → k ≡ key → WasSent d xid key (steps ++ Acted (Sent c (inverse_bytes x k)) ∷ [])
sent_last c d x xid k key steps of_switch of_xid of_key = record { before = steps; behind = []; steps_is = rw (of_switch, of_xid, of_key) refl }

parts_here : (d : ℕ) (p : ℕ × Part) (older : List (ℕ × Part)) → (p.0 == d) ≡ true → parts_of d (p ∷ older) ≡ p.1 ∷ parts_of d older
parts_here d p older here = rw here refl

parts_there : (d : ℕ) (p : ℕ × Part) (older : List (ℕ × Part)) → (p.0 == d) ≡ false → parts_of d (p ∷ older) ≡ parts_of d older
parts_there d p older other = rw other refl

inverse_here : (c d xid x : ℕ) (key k : Key) (sent : List (ℕ × Key)) (steps : List WorldStep) (same : Bool) → c ≡ d → (x == xid) ≡ same → (if same then Some k else key_sent xid sent) ≡ Some key → (key_sent xid sent ≡ Some key → WasSent d xid key steps)
    → WasSent d xid key (steps ++ Acted (Sent c (inverse_bytes x k)) ∷ [])
inverse_here c d xid x key k sent steps true of_switch same is older = sent_last c d x xid k key steps of_switch (eqb-true x xid same) (same_key k key is)
inverse_here c d xid x key k sent steps false of_switch same is older = sent_earlier d xid key steps (Acted (Sent c (inverse_bytes x k)) ∷ []) (older is)

part_sent : (c d xid : ℕ) (key : Key) (p : Part) (parts : List Part) (steps : List WorldStep) → c ≡ d → key_sent xid (inverses_of (p ∷ parts)) ≡ Some key → (key_sent xid (inverses_of parts) ≡ Some key → WasSent d xid key steps)
    → WasSent d xid key (steps ++ part_steps c p)
part_sent c d xid key (Inverse x k) parts steps of_switch is older = inverse_here c d xid x key k (inverses_of parts) steps (x == xid) of_switch refl is older
part_sent c d xid key (BarrierPassed x got) parts steps of_switch is older = sent_earlier d xid key steps (part_steps c (BarrierPassed x got)) (older is)
part_sent c d xid key (Stuck x fault stuck) parts steps of_switch is older = sent_earlier d xid key steps (part_steps c (Stuck x fault stuck)) (older is)

-- an inverse that is refused was sent
inverse_sent : (d xid : ℕ) (key : Key) (parts : List (ℕ × Part)) → key_sent xid (inverses_of (parts_of d parts)) ≡ Some key → WasSent d xid key (steps_of parts)
inverse_sent d xid key [] is = absurd cc
inverse_sent d xid key (p ∷ older) is =
    elim (cases_Bool (p.0 == d)) [
      | inl here ↦ part_sent p.0 d xid key p.1 (parts_of d older) (steps_of older) (eqb-true p.0 d here) (subst (λ (ps : List Part). key_sent xid (inverses_of ps) ≡ Some key) (parts_here d p older here) is) (λ earlier. inverse_sent d xid key older earlier)
      | inr other ↦ sent_earlier d xid key (steps_of older) (part_steps p.0 p.1) (inverse_sent d xid key older (subst (λ (ps : List Part). key_sent xid (inverses_of ps) ≡ Some key) (parts_there d p older other) is))
    ]

-- all inverses of its parts were sent
abbrev pub WereSent : ℕ → List WorldStep → List (ℕ × Key) → Type 0
WereSent d steps sent = AllByRecursion (λ p. WasSent d p.0 p.1 steps) sent

sent_before : (d : ℕ) (steps more : List WorldStep) (sent : List (ℕ × Key)) → WereSent d steps sent → WereSent d (steps ++ more) sent
sent_before d steps more [] all = tt
sent_before d steps more (p ∷ ps) all = (sent_earlier d p.0 p.1 steps more all.0, sent_before d steps more ps all.1)

sent_here : (c d : ℕ) (p : Part) (parts : List Part) (steps : List WorldStep) → c ≡ d → WereSent d steps (inverses_of parts) → WereSent d (steps ++ part_steps c p) (inverses_of (p ∷ parts))
sent_here c d (Inverse xid k) parts steps of_switch all = (sent_last c d xid xid k k steps of_switch refl refl, sent_before d steps (part_steps c (Inverse xid k)) (inverses_of parts) all)
sent_here c d (BarrierPassed xid got) parts steps of_switch all = sent_before d steps (part_steps c (BarrierPassed xid got)) (inverses_of parts) all
sent_here c d (Stuck xid fault stuck) parts steps of_switch all = sent_before d steps (part_steps c (Stuck xid fault stuck)) (inverses_of parts) all

pub were_sent : (d : ℕ) (parts : List (ℕ × Part)) → WereSent d (steps_of parts) (inverses_of (parts_of d parts))
were_sent d [] = tt
were_sent d (p ∷ older) =
    elim (cases_Bool (p.0 == d)) [
      | inl here ↦ subst (λ (ps : List Part). WereSent d (steps_of older ++ part_steps p.0 p.1) (inverses_of ps)) (sym (parts_here d p older here)) (sent_here p.0 d p.1 (parts_of d older) (steps_of older) (eqb-true p.0 d here) (were_sent d older))
      | inr other ↦ subst (λ (ps : List Part). WereSent d (steps_of older ++ part_steps p.0 p.1) (inverses_of ps)) (sym (parts_there d p older other)) (sent_before d (steps_of older) (part_steps p.0 p.1) (inverses_of (parts_of d older)) (were_sent d older))
    ]

refused_kind : (kind : Bool) (k : Option Key) (key : Key) → (if kind then k else None) ≡ Some key → (kind ≡ true) × (k ≡ Some key)
refused_kind true k key is = (refl, is)
refused_kind false k key is = absurd cc

refused_error : (sent : List (ℕ × Key)) (bytes : List ℕ) (key : Key) → key_refused sent bytes ≡ Some key → (number_at 1 1 bytes ≡ 1) × (key_sent (number_at 4 4 bytes) sent ≡ Some key)
unfolding key_refused
refused_error sent bytes key is = let both = refused_kind (number_at 1 1 bytes == 1) (key_sent (number_at 4 4 bytes) sent) key is in (eqb-true (number_at 1 1 bytes) 1 both.0, both.1)

-- the inverse, and behind it the message that refuses it
refused_after : {old new : List WorldStep} (d xid : ℕ) (key : Key) (bytes : List ℕ) (older steps front rest : List WorldStep) → WasSent d xid key older → steps ≡ front ++ Acted (Got d bytes) ∷ [] → new ≡ old ++ ((older ++ steps) ++ rest) → SentThenGot d (inverse_bytes xid key) bytes old new
refused_after {old = old} d xid key bytes older steps front rest sent steps_is told = (
  sent.behind ++ front,
  record {
    before = sent.before;
    behind = rest;
    told = told ∙ ap (λ (o : List WorldStep). old ++ ((o ++ steps) ++ rest)) sent.steps_is ∙ ap (λ (s : List WorldStep). old ++ (((sent.before ++ (Acted (Sent d (inverse_bytes xid key)) ∷ sent.behind)) ++ s) ++ rest)) steps_is
        ∙ ap (λ (w : List WorldStep). old ++ w) (regroup sent.before (Acted (Sent d (inverse_bytes xid key))) sent.behind front (Acted (Got d bytes)) rest);
  },
)
  where
    regroup : (b : List WorldStep) (s : WorldStep) (k f : List WorldStep) (g : WorldStep) (r : List WorldStep) → ((b ++ (s ∷ k)) ++ (f ++ (g ∷ []))) ++ r ≡ b ++ ((s ∷ ((k ++ f) ++ (g ∷ []))) ++ r)
    regroup b s k f g r = simp append_assoc

-- ---- The cause

module _ {Own Tells : Type 0} (old new : Seen Own) where
  -- the calls that failed, behind those of older parts
  pub stuck_in_undo : (d : ℕ) (older : List (ℕ × Part)) (steps rest : List WorldStep) (fault : TxnFault) → (Tells → new.history ≡ old.history ++ ((steps_of older ++ steps) ++ rest)) → IsFaultOf d (inverses_of (parts_of d older)) old.counts new.counts steps fault
      → IsWhyUndo Tells d old new fault
  stuck_in_undo d older steps rest (SwitchBroke e bytes) told cause =
      (cause.0, cause.1, λ tells. in_part (steps_of older) steps rest cause.2.0 (Acted (Got d bytes) ∷ []) [] cause.2.1 (told tells))
  stuck_in_undo d older steps rest (Diverged e inverse bytes) told cause =
      let r = cause.1 in
      let error = refused_error (inverses_of (parts_of d older)) bytes r.key r.of_key in
      let sent = inverse_sent d (number_at 4 4 bytes) r.key older error.1 in
      let last = subst (λ (n : ℕ). steps ≡ (barrier_sent r.awaited ∷ wait_steps r.awaited r.got) ++ Acted (Got n bytes) ∷ []) r.of_switch r.steps_is in (
        cause.0,
        record { kind = error.0; key = r.key; inverse_is = r.inverse_is },
        λ tells. subst (λ (b : List ℕ). SentThenGot d b bytes old.history new.history) (sym r.inverse_is)
            (refused_after d (number_at 4 4 bytes) r.key bytes (steps_of older) steps (barrier_sent r.awaited ∷ wait_steps r.awaited r.got) rest sent last (told tells)),
      )
  stuck_in_undo d older steps rest (Flooded e n) told cause =
      let o = cause.2 in
      let mid = barrier_sent o.awaited ∷ wait_steps o.awaited o.got in
      let here : IsFlood Tells d n old new = record {
        awaited = o.awaited;
        of_switch = o.of_switch;
        got = o.got;
        many = o.many ∙ sym cause.1;
        before_reply = o.before_reply;
        told = λ tells. in_part (steps_of older) steps rest [] mid [] (o.steps_is ∙ sym (append-nil mid)) (told tells);
      } in
      (cause.0, cause.1, here)
  stuck_in_undo d older steps rest NoMemory told cause = cause

-- ---- The part that failed

has_cause : (d : ℕ) (sent : List (ℕ × Key)) (old new : Counts) (steps : List WorldStep) (fault : TxnFault) → IsFaultOf d sent old new steps fault → HasCause d sent steps fault
has_cause d sent old new steps (SwitchBroke e bytes) cause = cause.2
has_cause d sent old new steps (Diverged e inverse bytes) cause = cause.1
has_cause d sent old new steps (Flooded e n) cause = cause.2
has_cause d sent old new steps NoMemory cause = tt

record Failing (d : ℕ) (old new : Counts) (all : List WorldStep) : Type 0 where
  halt : Halt
  xid : ℕ
  older : List (ℕ × Part)
  steps : List WorldStep
  behind : List WorldStep
  by : IsStuckBy d xid (inverses_of (parts_of d older)) old new halt steps
  steps_is : all ≡ (steps_of older ++ steps) ++ behind

failing_here : (d : ℕ) (old new : Counts) (p : Part) (older : List (ℕ × Part)) → IsRun old new d (p ∷ parts_of d older) → is_stuck (p ∷ parts_of d older) ≡ true → is_out (p ∷ parts_of d older) ≡ false → (f : Failing d old new (steps_of older ++ part_steps d p)) × (is_lost f.halt ≡ false)
failing_here d old new (Inverse xid k) older run is in_still = absurd cc
failing_here d old new (BarrierPassed xid got) older run is in_still = absurd cc
failing_here d old new (Stuck xid halt steps) older run is in_still = (
  record { halt = halt; xid = xid; older = older; steps = steps; behind = []; by = run.0; steps_is = sym (append-nil (steps_of older ++ steps)) },
  sym (out_of_stuck xid halt steps (parts_of d older)) ∙ in_still,
)

failing_longer : (d : ℕ) (old new : Counts) (all more : List WorldStep) → (f : Failing d old new all) × (is_lost f.halt ≡ false) → (f : Failing d old new (all ++ more)) × (is_lost f.halt ≡ false)
failing_longer d old new all more g =
    let f = g.0 in (
      record {
        halt = f.halt;
        xid = f.xid;
        older = f.older;
        steps = f.steps;
        behind = f.behind ++ more;
        by = f.by;
        steps_is = ap (λ (xs : List WorldStep). xs ++ more) f.steps_is ∙ append_assoc (steps_of f.older ++ f.steps) f.behind more;
      },
      g.1,
    )

failing : (d : ℕ) (old new : Counts) (parts : List (ℕ × Part)) → AllRun old new parts → is_stuck (parts_of d parts) ≡ true → is_out (parts_of d parts) ≡ false → (f : Failing d old new (steps_of parts)) × (is_lost f.halt ≡ false)
failing d old new [] all is in_still = absurd cc
failing d old new (p ∷ older) all is in_still =
    elim (cases_eq p.0 d) [
      | inl same ↦
          (let run = subst (λ (n : ℕ). IsRun old new n (p.1 ∷ parts_of n older)) same (runs_here old new p older all) in
          let here = subst (λ (b : Bool). is_stuck (if b then p.1 ∷ parts_of d older else parts_of d older) ≡ true) (eq-eqb p.0 d same) is in
          let in_here = subst (λ (b : Bool). is_out (if b then p.1 ∷ parts_of d older else parts_of d older) ≡ false) (eq-eqb p.0 d same) in_still in
          subst (λ (n : ℕ). (f : Failing d old new (steps_of older ++ part_steps n p.1)) × (is_lost f.halt ≡ false)) (sym same) (failing_here d old new p.1 older run here in_here))
      | inr other ↦
          (let there = subst (λ (b : Bool). is_stuck (if b then p.1 ∷ parts_of d older else parts_of d older) ≡ true) (ne_eqb p.0 d other) is in
          let in_there = subst (λ (b : Bool). is_out (if b then p.1 ∷ parts_of d older else parts_of d older) ≡ false) (ne_eqb p.0 d other) in_still in
          failing_longer d old new (steps_of older) (part_steps p.0 p.1) (failing d old new older (runs_older old new p older all) there in_there))
    ]

fault_is : (halt : Halt) → is_lost halt ≡ false → (fault : TxnFault) × (halt ≡ Fault fault)
fault_is Lost none = absurd cc
fault_is (Fault fault) none = (fault, refl)

pub fails_in_undo : {Own : Type 0} (Tells : Type 0) (d : ℕ) (old new : Seen Own) (parts : List (ℕ × Part)) → (Tells → new.history ≡ old.history ++ steps_of parts) → AllRun old.counts new.counts parts → is_stuck (parts_of d parts) ≡ true → is_out (parts_of d parts) ≡ false
    → FailsInUndo Tells d old new
fails_in_undo Tells d old new parts told all is in_still =
    let g = failing d old.counts new.counts parts all is in_still in
    let f = g.0 in
    let is_fault = fault_is f.halt g.1 in
    let fault = is_fault.0 in
    let cause : IsFaultOf d (inverses_of (parts_of d f.older)) old.counts new.counts f.steps fault = subst (λ (h : Halt). IsHaltOf d (inverses_of (parts_of d f.older)) old.counts new.counts f.steps h) is_fault.1 f.by.cause in
    let within = λ (t : Tells). told t ∙ ap (λ (xs : List WorldStep). old.history ++ xs) f.steps_is in
    record {
      fault = fault;
      why = stuck_in_undo old new d f.older f.steps f.behind fault within cause;
      sent = inverses_of (parts_of d f.older);
      front = steps_of f.older;
      were_sent = were_sent d f.older;
      steps = f.steps;
      each = f.by.each;
      cause = has_cause d (inverses_of (parts_of d f.older)) old.counts new.counts f.steps fault cause;
      places = f.by.places;
      told = λ t. record { before = []; behind = f.behind; told = within t };
    }
