-- The switches that are lost in an undo: which they are, what the journal has of them, and that they are out.
use Rattle.std.proofs.Common.{◌≡◌, ◌==◌, ℕ, Bool, true, false, ◌||◌, List, [], ◌∷◌, ◌++◌, Option, Some, None, if◌then◌else◌, refl, sym, ap, ◌∙◌, subst, inl, inr}
use Rattle.std.specs.Prelude.{Result, Ok, IsOk}
use Rattle.std.proofs.lemmas.Bool.{cases_Bool, cases_eq, eq-eqb, ne_eqb}
use Rattle.of_types.specs.declared.journal.Act.{Act}
use Rattle.outside.specs.Seen.{Counts, Seen, journal}
use Rattle.outside.specs.State.{State, after_steps, state, switch_of, waits_of}
use Rattle.outside.specs.laws.SeenLaws.{journal-append}
use Rattle.outside.specs.laws.StateLaws.{after_steps-append, state-append}
use Rattle.lego_model.specs.Journal.{losses}
use Rattle.lego_model.specs.History.{lost_of}
use Rattle.lego_model.specs.declared.fault.TxnFault.{TxnFault}
use Rattle.net_txn.specs.declared.halt.Halt.TheVariants.{Lost, Fault}
use Rattle.of_types.specs.Membership.{is_among}
use Rattle.net_txn.specs.Undos.{alone, Part, Inverse, BarrierPassed, Stuck, part_steps, steps_of, parts_of, is_stuck, is_out, lost_in, lost_parts, LosesIn, AreLostBy, fault_in, first_fault, ended_by, IsRun}
use Rattle.net_txn.specs.laws.LostLaws.{losses_two, losses_then}
use Rattle.net_txn.specs.laws.LostPartLaws.{among-append, lost-other, free-among}
use Rattle.std.proofs.Math.Bool.{or-false}
use Rattle.net_txn.specs.laws.RestoreLaws.{AllRun, runs_here, runs_older, older_free, part_of}
use Rattle.net_txn.specs.laws.PartLaws.{steps_other}
use Rattle.net_txn.specs.laws.LinkPresenceLaws.{losses_by, lost_none_all}
use Rattle.net_txn.specs.laws.SaidLaws.{wait_none_lost}
use Rattle.net_txn.specs.laws.LinkStepLaws.{links_append, wait_links}
use Rattle.net_txn.specs.laws.AgreeLaws.{both_none, no_fault}
use Rattle.lego_model.specs.BarrierWaits.{wait_steps, barrier_sent, reply_got}
use Rattle.net_txn.specs.laws.LinkPresenceLaws.{loses-append}

-- ---- Which they are

-- one part of the switch
among_here : (d : ℕ) (p : Part) (older : List Part) → is_among d (lost_in d p) ≡ is_out (p ∷ older)
among_here d (Inverse xid k) older = refl
among_here d (BarrierPassed xid got) older = refl
among_here d (Stuck xid Lost steps) older = rw (eq-eqb d d refl) refl
among_here d (Stuck xid (Fault fault) steps) older = refl

-- those whose parts end so
pub among_out : (old new : Counts) (d : ℕ) (parts : List (ℕ × Part)) → AllRun old new parts → is_among d (lost_parts parts) ≡ is_out (parts_of d parts)
among_out old new d [] run = refl
among_out old new d (p ∷ older) run =
    among-append d (lost_parts older) (lost_in p.0 p.1) ∙ elim (cases_eq p.0 d) [
      | inl same ↦
          (let here = subst (λ (n : ℕ). IsRun old new n (p.1 ∷ parts_of n older)) same (runs_here old new p older run) in
          let before : is_among d (lost_parts older) ≡ false = free-among old new d older (runs_older old new p older run d) (older_free old new d p.1 (parts_of d older) here) in
          let taken : (p.0 == d) ≡ true = eq-eqb p.0 d same in
          ap (λ (b : Bool). b || is_among d (lost_in p.0 p.1)) before ∙ ap (λ (n : ℕ). is_among d (lost_in n p.1)) same ∙ among_here d p.1 (parts_of d older)
          ∙ sym (ap (λ (b : Bool). is_out (if b then p.1 ∷ parts_of d older else parts_of d older)) taken))
      | inr other ↦
          (let apart : (p.0 == d) ≡ false = ne_eqb p.0 d other in
          ap (λ (b : Bool). is_among d (lost_parts older) || b) (lost-other d p.0 p.1 apart) ∙ or-false (is_among d (lost_parts older)) ∙ among_out old new d older (runs_older old new p older run)
          ∙ sym (ap (λ (b : Bool). is_out (if b then p.1 ∷ parts_of d older else parts_of d older)) apart))
    ]

-- without a fault those that stick were lost
stuck_head : (p : Part) (older : List Part) → fault_in p ≡ None → is_stuck (p ∷ older) ≡ is_out (p ∷ older)
stuck_head (Inverse xid k) older none = refl
stuck_head (BarrierPassed xid got) older none = refl
stuck_head (Stuck xid Lost steps) older none = refl
stuck_head (Stuck xid (Fault fault) steps) older none = absurd cc

stuck_out : (d : ℕ) (parts : List (ℕ × Part)) → first_fault parts ≡ None → is_stuck (parts_of d parts) ≡ is_out (parts_of d parts)
stuck_out d [] none = refl
stuck_out d (p ∷ older) none =
    let n = both_none (first_fault older) (fault_in p.1) none in
    elim (cases_Bool (p.0 == d)) [
      | inl here ↦ rw here (stuck_head p.1 (parts_of d older) n.1)
      | inr other ↦ rw other (stuck_out d older n.0)
    ]

pub none_failed : (old new : Counts) (result : Result (Unit {0}) TxnFault) (parts : List (ℕ × Part)) (d : ℕ) → AllRun old new parts → result ≡ ended_by (first_fault parts) → IsOk result → is_stuck (parts_of d parts) ≡ is_among d (lost_parts parts)
none_failed old new result parts d run is ok =
    stuck_out d parts (no_fault (first_fault parts) (subst (λ (r : Result (Unit {0}) TxnFault). IsOk r) is ok)) ∙ sym (among_out old new d parts run)

pub ended_none : (o : Option TxnFault) → Ok tt ≡ ended_by o → o ≡ None
ended_none None is = refl
ended_none (Some fault) is = absurd cc

-- where no switch failed but by its loss, one that sticks was lost
pub stuck_lost : (old new : Counts) (d : ℕ) (p : Part) (older : List (ℕ × Part)) → ((rest : List Part) → is_stuck (p ∷ rest) ≡ true) → AllRun old new ((d, p) ∷ older) → first_fault ((d, p) ∷ older) ≡ None → is_among d (lost_parts ((d, p) ∷ older)) ≡ true
stuck_lost old new d p older stuck runs none =
    let same : Ok tt ≡ ended_by (first_fault ((d, p) ∷ older)) = sym (ap ended_by none) in
    sym (none_failed old new (Ok tt) ((d, p) ∷ older) d runs same refl) ∙ rw (eq-eqb d d refl) (stuck (parts_of d older))

-- ---- What the journal has of them

part_losses : (old new : Counts) (d : ℕ) (p : Part) (older : List Part) → IsRun old new d (p ∷ older) → LosesIn d p → losses (journal (part_steps d p)) ≡ lost_in d p
part_losses old new d (Inverse xid k) older run so = losses_by (part_steps d (Inverse xid k)) (refl, tt) ∙ lost_none_all (part_steps d (Inverse xid k)) refl
part_losses old new d (BarrierPassed xid got) older run so =
    let a = alone d xid in
    let steps = barrier_sent a ∷ (wait_steps a got ++ reply_got a ∷ []) in
    losses_by steps (refl, links_append (wait_steps a got) (reply_got a ∷ []) (wait_links a got) (refl, tt)) ∙ lost_none_all steps (loses-append (wait_steps a got) (reply_got a ∷ []) (wait_none_lost a got) refl)
part_losses old new d (Stuck xid Lost steps) older run so = so.lost
part_losses old new d (Stuck xid (Fault fault) steps) older run so = so

parts_losses : (old new : Counts) (parts : List (ℕ × Part)) → AllRun old new parts → AreLostBy parts → losses (journal (steps_of parts)) ≡ lost_parts parts
unfolding losses journal
parts_losses old new [] run so = refl
parts_losses old new (p ∷ older) run so =
    ap (λ (acts : List Act). losses acts) (journal-append (steps_of older) (part_steps p.0 p.1)) ∙ losses_two (journal (steps_of older)) (journal (part_steps p.0 p.1))
    ∙ ap (λ (ds : List ℕ). ds ++ losses (journal (part_steps p.0 p.1))) (parts_losses old new older (runs_older old new p older run) so.1)
    ∙ ap (λ (ds : List ℕ). lost_parts older ++ ds) (part_losses old new p.0 p.1 (parts_of p.0 older) (runs_here old new p older run) so.0)

pub undo_losses : {Own : Type 0} (old new : Seen Own) (parts : List (ℕ × Part)) → new.history ≡ old.history ++ steps_of parts → AllRun old.counts new.counts parts → AreLostBy parts → lost_of new ≡ lost_of old ++ lost_parts parts
undo_losses old new parts told run so = losses_then old new (steps_of parts) told ∙ ap (λ (ds : List ℕ). lost_of old ++ ds) (parts_losses old.counts new.counts parts run so)

-- ---- They are out.

abbrev IsOut : ℕ → State → Type 0
IsOut d t = (switch_of d t ≡ None) × (waits_of d t ≡ [])

head_out : (d : ℕ) (p : Part) (older : List Part) (t : State) → is_out (p ∷ older) ≡ true → LosesIn d p → IsOut d (after_steps (part_steps d p) t)
head_out d (Inverse xid k) older t is so = absurd cc
head_out d (BarrierPassed xid got) older t is so = absurd cc
head_out d (Stuck xid Lost steps) older t is so = (so.out t, so.waits t)
head_out d (Stuck xid (Fault fault) steps) older t is so = absurd cc

parts_out : (old new : Counts) (d : ℕ) (parts : List (ℕ × Part)) (t : State) → AllRun old new parts → AreLostBy parts → is_out (parts_of d parts) ≡ true → IsOut d (after_steps (steps_of parts) t)
parts_out old new d [] t run so is = absurd cc
parts_out old new d (p ∷ older) t run so is =
    let before = after_steps (steps_of older) t in
    let end : after_steps (steps_of (p ∷ older)) t ≡ after_steps (part_steps p.0 p.1) before = after_steps-append (steps_of older) (part_steps p.0 p.1) t in
    subst (IsOut d) (sym end) (elim (cases_eq p.0 d) [
      | inl same ↦
          (let here = subst (λ (b : Bool). is_out (if b then p.1 ∷ parts_of d older else parts_of d older) ≡ true) (eq-eqb p.0 d same) is in
          let mine = subst (λ (n : ℕ). LosesIn n p.1) same so.0 in
          subst (λ (n : ℕ). IsOut d (after_steps (part_steps n p.1) before)) (sym same) (head_out d p.1 (parts_of d older) before here mine))
      | inr other ↦
          (let there = subst (λ (b : Bool). is_out (if b then p.1 ∷ parts_of d older else parts_of d older) ≡ true) (ne_eqb p.0 d other) is in
          let rest = parts_out old new d older t (runs_older old new p older run) so.1 there in
          let stays = steps_other p.0 d (part_steps p.0 p.1) before (λ same. other (sym same)) (part_of old new p.0 p.1 (parts_of p.0 older) (runs_here old new p older run)) in
          (stays.0 ∙ rest.0, stays.1 ∙ rest.1))
    ])

pub undo_out : {Own : Type 0} (old new : Seen Own) (d : ℕ) (parts : List (ℕ × Part)) → new.given ≡ old.given → new.history ≡ old.history ++ steps_of parts → AllRun old.counts new.counts parts → AreLostBy parts → is_among d (lost_parts parts) ≡ true
    → (switch_of d (state new) ≡ None) × (waits_of d (state new) ≡ [])
undo_out old new d parts given told run so lost =
    subst (IsOut d) (sym (state-append old new (steps_of parts) given told)) (parts_out old.counts new.counts d parts (state old) run so (sym (among_out old.counts new.counts d parts run) ∙ lost))
