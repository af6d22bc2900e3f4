-- The transaction ids of an undo ascend: each part takes the next one, and so few that they do not begin anew.
use Rattle.std.specs.Prelude.{◌≡◌, ◌==◌, ℕ, ◌+◌, ◌^◌, ◌<◌, ◌≤◌, Bool, true, false, List, [], ◌∷◌, ◌++◌, length, map, Option, Some, None, Result, IsOk, refl}
use Rattle.std.specs.Option.{is_some}
use Rattle.std.proofs.Common.{sym, ap, ◌∙◌, subst, inl, inr, arith}
use Rattle.std.proofs.lemmas.Bool.{cases_eq, eq-eqb, ne_eqb}
use Rattle.std.proofs.lemmas.List.{length-append, length-map}
use Rattle.of_match.specs.declared.key.Key.{Key}
use Rattle.of_wire.specs.declared.message.Message.TheVariants.{FlowMod}
use Rattle.flow_table.specs.Switch.{Declared}
use Rattle.flow_table.specs.View.{TableView}
use Rattle.outside.specs.declared.step.WorldStep.{WorldStep}
use Rattle.outside.specs.Seen.{Counts, Seen, journal}
use Rattle.outside.specs.State.{Link, State, after_steps, state, at_first, link_at_first, link_of, switch_in, switch_of}
use Rattle.outside.specs.laws.LinkKeptLaws.{steps-declared}
use Rattle.lego_model.specs.declared.fault.TxnFault.{TxnFault}
use Rattle.lego_model.specs.BarrierWaits.{next_xid}
use Rattle.lego_model.specs.UndoFaults.{delete_strict, inverse_bytes}
use Rattle.lego_model.specs.OwnIds.{own_ids, AscendWithin, IsShortRun, OwnIdsAscend, OwnIdsSoFar}
use Rattle.lego_model.specs.laws.OwnIdLaws.{ascend_then, ascend_to, own_id-sent}
use Rattle.net_txn.specs.declared.halt.Halt.TheVariants.{Lost, Fault}
use Rattle.net_txn.specs.Net.{NetState}
use Rattle.net_txn.specs.Views.{is_viewed}
use Rattle.net_txn.specs.Losing.{lose_all, lost_net}
use Rattle.net_txn.specs.Said.{Says, wait_said, frames_said, barrier_of, reply_heard, said_steps}
use Rattle.net_txn.specs.Undos.{Part, Inverse, BarrierPassed, Stuck, HasIdAtMost, alone, part_steps, steps_of, parts_of, next_free, xid_of, AreNumbered, is_stuck, lost_parts, fault_in, first_fault, IsRun, AreJoined, Undoes}
use Rattle.net_txn.specs.laws.AgreeLaws.{both_none, no_fault}
use Rattle.net_txn.specs.laws.OwnIdLaws.{own_ids_two, said_ids, wait_ids, with_none, ids_append, one_ascends, barrier_id, next_small, so_far_then}
use Rattle.net_txn.specs.laws.RestoreLaws.{AllRun, runs_here, runs_older}
use Rattle.net_txn.specs.laws.SaidLaws.{whole_steps}
use Rattle.app_frames.specs.Spelling.{bit}
use Rattle.net_txn.specs.laws.KeepLaws.{cons_not_none}

-- ---- What each part says of its id, and that its switch had not failed before

abbrev FactOf : List Part → Part → Type 0
FactOf older (Inverse xid k) = (xid < 2 ^ 32) × (is_stuck older ≡ false)
FactOf older (BarrierPassed xid got) = (xid < 2 ^ 32) × (is_stuck older ≡ false)
FactOf older (Stuck xid halt steps) = HasIdAtMost xid halt steps × (is_stuck older ≡ false)

fact_here : (old new : Counts) (d : ℕ) (p : Part) (older : List Part) → IsRun old new d (p ∷ older) → FactOf older p
fact_here old new d (Inverse xid k) older run = (run.0.is_xid, run.2)
fact_here old new d (BarrierPassed xid got) older run = (run.0.is_xid, run.1)
fact_here old new d (Stuck xid halt steps) older run = (run.0.ids, run.1)

abbrev AllFacts : List (ℕ × Part) → Type 0
AllFacts [] = Unit {0}
AllFacts (p ∷ older) = FactOf (parts_of p.0 older) p.1 × AllFacts older

all_facts : (old new : Counts) (parts : List (ℕ × Part)) → AllRun old new parts → AllFacts parts
all_facts old new [] run = tt
all_facts old new (p ∷ older) run = (fact_here old new p.0 p.1 (parts_of p.0 older) (runs_here old new p older run), all_facts old new older (runs_older old new p older run))

-- ---- Its ids

inverse_ids : (d xid : ℕ) (k : Key) → xid < 2 ^ 32 → AscendWithin xid (own_ids (journal (part_steps d (Inverse xid k)))) (xid + 1)
unfolding inverse_bytes
inverse_ids d xid k small =
    subst (λ (ids : List ℕ). AscendWithin xid ids (xid + 1)) (sym (said_ids true (Says d (inverse_bytes xid k) ∷ [])))
    (one_ascends xid (xid + 1) d (inverse_bytes xid k) (own_id-sent xid (FlowMod (delete_strict k)) small refl) (omega arith))

barrier_ids : (d xid : ℕ) (got : List (List ℕ)) → xid < 2 ^ 32 → AscendWithin xid (own_ids (journal (part_steps d (BarrierPassed xid got)))) (xid + 1)
barrier_ids d xid got small =
    let a = alone d xid in
    let said = frames_said d (barrier_of a ∷ []) ++ (wait_said a got ++ reply_heard a ∷ []) in
    let steps : said_steps true said ≡ part_steps d (BarrierPassed xid got) = whole_steps true a [] got (reply_heard a ∷ []) in
    subst (λ (s : List WorldStep). AscendWithin xid (own_ids (journal s)) (xid + 1)) steps
    (subst (λ (ids : List ℕ). AscendWithin xid ids (xid + 1)) (sym (said_ids true said ∙ with_none (frames_said d (barrier_of a ∷ [])) (wait_said a got ++ reply_heard a ∷ []) (ids_append (wait_said a got) (reply_heard a ∷ []) ∙ ap (λ (ids : List ℕ). ids ++ []) (wait_ids a got))))
    (one_ascends xid (xid + 1) d (barrier_of a) (barrier_id xid small) (omega arith)))

part_ids : (d : ℕ) (p : Part) (older : List Part) → FactOf older p → xid_of p + 1 < 2 ^ 32 → AscendWithin (xid_of p) (own_ids (journal (part_steps d p))) (xid_of p + 1)
part_ids d (Inverse xid k) older fact small = inverse_ids d xid k fact.0
part_ids d (BarrierPassed xid got) older fact small = barrier_ids d xid got fact.0
part_ids d (Stuck xid halt steps) older fact small = fact.0.ids small

pub free_after : (xid : ℕ) (parts : List (ℕ × Part)) → xid + length parts < 2 ^ 32 → next_free xid parts ≡ xid + length parts
free_after xid [] small = omega arith
free_after xid (p ∷ older) small = let before = free_after xid older (omega (arith, small)) in ap next_xid before ∙ next_small (xid + length older) (omega (arith, small)) ∙ omega arith

parts_ascend : (xid : ℕ) (parts : List (ℕ × Part)) → AllFacts parts → AreNumbered xid parts → xid + length parts < 2 ^ 32 → AscendWithin xid (own_ids (journal (steps_of parts))) (xid + length parts)
unfolding own_ids journal
parts_ascend xid [] facts numbered small = omega arith
parts_ascend xid (p ∷ older) facts numbered small =
    let before = parts_ascend xid older facts.1 numbered.1 (omega (arith, small)) in
    let here : xid_of p.1 ≡ xid + length older = numbered.0 ∙ free_after xid older (omega (arith, small)) in
    let part = part_ids p.0 p.1 (parts_of p.0 older) facts.0 (omega (arith, here, small)) in
    let part2 : AscendWithin (xid + length older) (own_ids (journal (part_steps p.0 p.1))) (xid + length (p ∷ older)) =
    ascend_to (own_ids (journal (part_steps p.0 p.1))) (xid + length older) (xid + length older + 1) (xid + length (p ∷ older)) (omega arith) (subst (λ (n : ℕ). AscendWithin n (own_ids (journal (part_steps p.0 p.1))) (n + 1)) here part) in
    subst (λ (ids : List ℕ). AscendWithin xid ids (xid + length (p ∷ older))) (sym (own_ids_two (steps_of older) (part_steps p.0 p.1)))
    (ascend_then (own_ids (journal (steps_of older))) (own_ids (journal (part_steps p.0 p.1))) xid (xid + length older) (xid + length (p ∷ older)) before part2)

-- ---- How many there are: each part but a failure leaves a step

abbrev failures_in : Part → ℕ
failures_in (Stuck xid halt steps) = 1
failures_in other = 0

abbrev failures : List (ℕ × Part) → ℕ
failures [] = 0
failures (p ∷ older) = failures older + failures_in p.1

one_step : (d : ℕ) (p : Part) → 1 ≤ length (part_steps d p) + failures_in p
one_step d (Inverse xid k) = omega arith
one_step d (BarrierPassed xid got) = omega arith
one_step d (Stuck xid halt steps) = omega arith

parts_few : (parts : List (ℕ × Part)) → length parts ≤ length (steps_of parts) + failures parts
parts_few [] = omega arith
parts_few (p ∷ older) = omega (arith, length-append (steps_of older) (part_steps p.0 p.1), one_step p.0 p.1, parts_few older)

-- and so does each switch that was lost
lost_step : (d : ℕ) (p : Part) (older : List Part) → FactOf older p → fault_in p ≡ None → 1 ≤ length (part_steps d p)
lost_step d (Inverse xid k) older fact none = omega arith
lost_step d (BarrierPassed xid got) older fact none = omega arith
lost_step d (Stuck xid Lost steps) older fact none = fact.0.some refl
lost_step d (Stuck xid (Fault fault) steps) older fact none = absurd cc

lost_few : (parts : List (ℕ × Part)) → AllFacts parts → first_fault parts ≡ None → length parts ≤ length (steps_of parts)
lost_few [] facts none = omega arith
lost_few (p ∷ older) facts none =
    let n = both_none (first_fault older) (fault_in p.1) none in
    omega (arith, length-append (steps_of older) (part_steps p.0 p.1), lost_step p.0 p.1 (parts_of p.0 older) facts.0 n.1, lost_few older facts.1 n.0)

-- ---- A switch fails once at most

abbrev failed_links : List (ℕ × Part) → List Link → ℕ
failed_links parts [] = 0
failed_links parts (l ∷ ls) = bit (is_stuck (parts_of l.declared.dpid parts)) + failed_links parts ls

few_one : (b : Bool) → bit b ≤ 1
few_one true = omega arith
few_one false = omega arith

few_links : (parts : List (ℕ × Part)) (ls : List Link) → failed_links parts ls ≤ length ls
few_links parts [] = omega arith
few_links parts (l ∷ ls) = omega (arith, few_one (is_stuck (parts_of l.declared.dpid parts)), few_links parts ls)

-- what is so of a switch with one part more
stuck_there : (d : ℕ) (p : ℕ × Part) (older : List (ℕ × Part)) → (p.0 == d) ≡ false → is_stuck (parts_of d (p ∷ older)) ≡ is_stuck (parts_of d older)
stuck_there d p older other = rw other refl

stuck_here : (d : ℕ) (p : ℕ × Part) (older : List (ℕ × Part)) → (p.0 == d) ≡ true → is_stuck (parts_of d (p ∷ older)) ≡ is_stuck (p.1 ∷ parts_of d older)
stuck_here d p older here = rw here refl

free_of : (older : List Part) (p : Part) → FactOf older p → is_stuck older ≡ false
free_of older (Inverse xid k) fact = fact.1
free_of older (BarrierPassed xid got) fact = fact.1
free_of older (Stuck xid halt steps) fact = fact.1

failed_by : (p : Part) (older : List Part) → bit (is_stuck (p ∷ older)) ≡ failures_in p
failed_by (Inverse xid k) older = refl
failed_by (BarrierPassed xid got) older = refl
failed_by (Stuck xid halt steps) older = refl

-- of one link: it was fine before, where the part is of its switch
link_more : (d : ℕ) (p : ℕ × Part) (older : List (ℕ × Part)) → FactOf (parts_of p.0 older) p.1 → bit (is_stuck (parts_of d older)) ≤ bit (is_stuck (parts_of d (p ∷ older)))
link_more d p older fact = elim (cases_eq p.0 d) [
  | inl same ↦
      (let free : is_stuck (parts_of d older) ≡ false = subst (λ (n : ℕ). is_stuck (parts_of n older) ≡ false) same (free_of (parts_of p.0 older) p.1 fact) in
      rw free (omega arith))
  | inr other ↦ rw (stuck_there d p older (ne_eqb p.0 d other)) (omega arith)
]

link_here : (d : ℕ) (p : ℕ × Part) (older : List (ℕ × Part)) → FactOf (parts_of p.0 older) p.1 → p.0 ≡ d → bit (is_stuck (parts_of d older)) + failures_in p.1 ≤ bit (is_stuck (parts_of d (p ∷ older)))
link_here d p older fact same =
    let free : is_stuck (parts_of d older) ≡ false = subst (λ (n : ℕ). is_stuck (parts_of n older) ≡ false) same (free_of (parts_of p.0 older) p.1 fact) in
    rw (free, stuck_here d p older (eq-eqb p.0 d same), failed_by p.1 (parts_of d older)) (omega arith)

links_more : (p : ℕ × Part) (older : List (ℕ × Part)) (ls : List Link) → FactOf (parts_of p.0 older) p.1 → failed_links older ls ≤ failed_links (p ∷ older) ls
links_more p older [] fact = omega arith
links_more p older (l ∷ ls) fact = omega (arith, link_more l.declared.dpid p older fact, links_more p older ls fact)

links_here : (p : ℕ × Part) (older : List (ℕ × Part)) (ls : List Link) → FactOf (parts_of p.0 older) p.1 → is_some (link_of p.0 ls) ≡ true → failed_links older ls + failures_in p.1 ≤ failed_links (p ∷ older) ls
links_here p older [] fact known = absurd cc
links_here p older (l ∷ ls) fact known = elim (cases_eq l.declared.dpid p.0) [
  | inl same ↦ omega (arith, link_here l.declared.dpid p older fact (sym same), links_more p older ls fact)
  | inr other ↦
      (let there : is_some (link_of p.0 ls) ≡ true = rw (ne_eqb l.declared.dpid p.0 other) at known in
      omega (arith, link_more l.declared.dpid p older fact, links_here p older ls fact there))
]

abbrev AllLinked : List (ℕ × Part) → List Link → Type 0
AllLinked [] ls = Unit {0}
AllLinked (p ∷ older) ls = (is_some (link_of p.0 ls) ≡ true) × AllLinked older ls

failures_few : (parts : List (ℕ × Part)) (ls : List Link) → AllFacts parts → AllLinked parts ls → failures parts ≤ failed_links parts ls
failures_few [] ls facts linked = omega arith
failures_few (p ∷ older) ls facts linked = omega (arith, links_here p older ls facts.0 linked.0, failures_few older ls facts.1 linked.1)

-- ---- Each switch of a part is joined

joined_linked : (d : ℕ) (o : Option Link) → is_some (switch_in o) ≡ true → is_some o ≡ true
joined_linked d None is = absurd cc
joined_linked d (Some l) is = refl

view_of : (b : Bool) (p : Part) (older : List Part) → (b ≡ false → p ∷ older ≡ []) → b ≡ true
view_of true p older unknown = refl
view_of false p older unknown = absurd (cons_not_none p older (unknown refl))

unknown_older : (d : ℕ) (p : ℕ × Part) (older : List (ℕ × Part)) → parts_of d (p ∷ older) ≡ [] → parts_of d older ≡ []
unknown_older d p older none = elim (cases_eq p.0 d) [
  | inl same ↦ absurd (cons_not_none p.1 (parts_of d older) (rw (eq-eqb p.0 d same) at none))
  | inr other ↦ rw (ne_eqb p.0 d other) at none
]

all_linked : (views : List TableView) (parts : List (ℕ × Part)) (s : State) → ((d : ℕ) → is_viewed d views ≡ false → parts_of d parts ≡ []) → AreJoined views s → AllLinked parts s.links
unfolding switch_of
all_linked views [] s unknown joined = tt
all_linked views (p ∷ older) s unknown joined =
    let none : is_viewed p.0 views ≡ false → p.1 ∷ parts_of p.0 older ≡ [] = λ is. rw (eq-eqb p.0 p.0 refl) at (unknown p.0 is) in
    let viewed = view_of (is_viewed p.0 views) p.1 (parts_of p.0 older) none in
    (joined_linked p.0 (link_of p.0 s.links) (joined p.0 viewed), all_linked views older s (λ d is. unknown_older d p older (unknown d is)) joined)

-- ---- There are as many links as declared switches

links_declared : {Own : Type 0} (seen : Seen Own) → length (state seen).links ≡ length seen.given.declared
unfolding state at_first
links_declared seen =
    let all = steps-declared seen.history (at_first seen.given) in
    sym (length-map (after_steps seen.history (at_first seen.given)).links (λ (l : Link). l.declared)) ∙ ap (λ (ds : List Declared). length ds) all
    ∙ length-map (map (link_at_first seen.given.fails) seen.given.declared) (λ (l : Link). l.declared) ∙ length-map seen.given.declared (link_at_first seen.given.fails)

-- ---- The whole

lose_all-xid : (lost : List ℕ) (net : NetState) → (lose_all lost net).xid ≡ net.xid
lose_all-xid [] net = refl
lose_all-xid (d ∷ ds) net = lose_all-xid ds (lost_net d net)

pub undone_ids : {Own : Type 0} {Tells : Type 0} {start : ℕ} {old new : Seen Own} {net now_net : NetState} {result : Result (Unit {0}) TxnFault} → (u : Undoes Tells start old new net now_net result) → Tells → IsShortRun new → AreJoined net.views (state old) → (more : ℕ) → more ≤ 4 → OwnIdsSoFar more old net.xid
    → OwnIdsAscend new × (IsOk result → OwnIdsSoFar more new now_net.xid)
undone_ids {old = old} {new = new} {net = net} {now_net = now_net} {result = result} u told short joined more le before =
    let run : AllRun old.counts new.counts u.parts = λ d. (u.each d).run in
    let facts = all_facts old.counts new.counts u.parts run in
    let linked = all_linked net.views u.parts (state old) (λ d is. (u.each d).unknown is) joined in
    let steps = steps_of u.parts in
    let size : length new.history ≡ length old.history + length steps = ap (λ (h : List WorldStep). length h) (u.told told) ∙ length-append old.history steps in
    let same : length new.given.declared ≡ length old.given.declared = ap (λ (g : _). length g.declared) u.continues.given in
    let few : length u.parts ≤ length steps + length old.given.declared =
    omega (arith, parts_few u.parts, failures_few u.parts (state old).links facts linked, few_links u.parts (state old).links, links_declared old) in
    let small : net.xid + length u.parts < 2 ^ 32 = omega (arith, few, before.few, size, same, short, le) in
    let ascends = parts_ascend net.xid u.parts facts u.numbered small in
    let both = so_far_then more (more + length old.given.declared) old new steps net.xid (net.xid + length u.parts) (u.told told) ascends (omega (arith, few)) before in
    let next : now_net.xid ≡ net.xid + length u.parts = ap (λ (n : NetState). n.xid) u.net_is ∙ lose_all-xid (lost_parts u.parts) _ ∙ free_after net.xid u.parts small in (
      ascend_to (own_ids (journal new.history)) 1 (net.xid + length u.parts) (2 ^ 32) (omega (arith, small)) both.ascend,
      λ ok. (
          let none = no_fault (first_fault u.parts) (subst (λ (r : Result (Unit {0}) TxnFault). IsOk r) u.result_is ok) in
          let fewer = lost_few u.parts facts none in
          subst (λ (n : ℕ). OwnIdsSoFar more new n) (sym next) (so_far_then more more old new steps net.xid (net.xid + length u.parts) (u.told told) ascends (omega (arith, fewer)) before)),
    )
