use Rattle.std.proofs.Common.{rules, ◌≡◌, ◌+◌, ◌<◌, nat_lt, drop, drop-cons, add-one, length, get_or, Option, Some, None, ℕ, true, false, List, refl, sym, ap, subst, ◌∙◌, cond}
use Rattle.std.proofs.lemmas.Option.{slice_get_within, get_or_from_slice_get, slice_get_read}
use Rattle.of_match.specs.Covers.{is_covering}
use Rattle.of_match.specs.declared.packet_key.PacketKey.{PacketKey}
use Rattle.flow_table.specs.declared.entry.Entry.{Entry}
use Rattle.flow_table.specs.Table.{IsPositionOf}
use Rattle.flow_table.specs.Hit.{rank, best, better}
use Rattle.flow_table.proofs.hitting.better.Goals as goal

-- the best from an entry on is the better one of it and the best behind it, if it covers the packet
step : (k : PacketKey) (es : List Entry) (i : ℕ) (e : Entry) → i < length es → e ≡ get_or es i e
    → best k (drop i es) ≡ cond (is_covering e.key.matching k) (better e (best k (drop (i + 1) es))) (best k (drop (i + 1) es))
unfolding best
step k es i e lt is = rw (add-one, drop-cons es i e lt, sym is) refl

within : (o : Option Entry) (es : List Entry) (j : ℕ) → IsPositionOf o es (Some j) → j < length es
within None es j p = absurd p
within (Some g) es j p = slice_get_within es j g p

found : (o : Option Entry) (es : List Entry) (j : ℕ) (f : Entry) → f ≡ get_or es j f → IsPositionOf o es (Some j) → o ≡ Some f
found None es j f is p = absurd p
found (Some g) es j f is p = ap Some (sym (get_or_from_slice_get es j g f p) ∙ sym is)

none : (o : Option Entry) (es : List Entry) → IsPositionOf o es None → o ≡ None
none None es p = refl
none (Some g) es p = absurd p

place : (o : Option Entry) (es : List Entry) (j : ℕ) (f : Entry) → o ≡ Some f → f ≡ get_or es j f → j < length es → IsPositionOf o es (Some j)
place o es j f e is lt = subst (λ p. IsPositionOf p es (Some j)) (sym e) (slice_get_read es (length es) j f refl lt is)

-- src/hitting.rt:39:9
pub returns-then-not-covers : goal.returns-then-not-covers
returns-then-not-covers c =
    let e = step c.args.k.now c.args.entries.now c.args.i c.index-entries-i.result c.requires.within c.index-entries-i.is in
    let no : is_covering c.index-entries-i.result.key.matching c.args.k.now ≡ false = cc in
    rw (e, no) c.requires.behind

-- src/hitting.rt:43:29
pub bounds-entries-j : goal.bounds-entries-j
bounds-entries-j c = within (best c.args.k.now (drop (c.args.i + 1) c.args.entries.now)) c.args.entries.now c.in-Some.j (rw c.in-Some.is at c.requires.behind)

-- src/hitting.rt:43:29
pub offset_bounds-entries-j : goal.offset_bounds-entries-j
offset_bounds-entries-j c =
    let lt = within (best c.args.k.now (drop (c.args.i + 1) c.args.entries.now)) c.args.entries.now c.in-Some.j (rw c.in-Some.is at c.requires.behind) in
    search rules

-- src/hitting.rt:32:1
pub returns-in-None : goal.returns-in-None
returns-in-None c =
    let es = c.args.entries.now in
    let o = best c.args.k.now (drop (c.args.i + 1) es) in
    let e = step c.args.k.now es c.args.i c.index-entries-i.result c.requires.within c.index-entries-i.is in
    let covers : is_covering c.index-entries-i.result.key.matching c.args.k.now ≡ true = cc in
    let is : o ≡ None = none o es (rw c.in-None.is at c.requires.behind) in
    place _ es c.args.i c.index-entries-i.result (rw (e, covers, is) refl) c.index-entries-i.is c.requires.within

-- src/hitting.rt:32:1
pub returns-in-Some : goal.returns-in-Some
returns-in-Some c =
    let es = c.args.entries.now in
    let o = best c.args.k.now (drop (c.args.i + 1) es) in
    let e = step c.args.k.now es c.args.i c.index-entries-i.result c.requires.within c.index-entries-i.is in
    let covers : is_covering c.index-entries-i.result.key.matching c.args.k.now ≡ true = cc in
    let here : IsPositionOf o es (Some c.in-Some.j) = rw c.in-Some.is at c.requires.behind in
    let is : o ≡ Some c.index-entries-j.result = found o es c.in-Some.j c.index-entries-j.result c.index-entries-j.is here in
    let above : nat_lt (rank c.index-entries-i.result) (rank c.index-entries-j.result) ≡ true = cc in
    place _ es c.in-Some.j c.index-entries-j.result (rw (e, covers, is, above) refl) c.index-entries-j.is (within o es c.in-Some.j here)

-- src/hitting.rt:32:1
pub returns-in-Some-2 : goal.returns-in-Some-2
returns-in-Some-2 c =
    let es = c.args.entries.now in
    let o = best c.args.k.now (drop (c.args.i + 1) es) in
    let e = step c.args.k.now es c.args.i c.index-entries-i.result c.requires.within c.index-entries-i.is in
    let covers : is_covering c.index-entries-i.result.key.matching c.args.k.now ≡ true = cc in
    let here : IsPositionOf o es (Some c.in-Some.j) = rw c.in-Some.is at c.requires.behind in
    let is : o ≡ Some c.index-entries-j.result = found o es c.in-Some.j c.index-entries-j.result c.index-entries-j.is here in
    let above : nat_lt (rank c.index-entries-i.result) (rank c.index-entries-j.result) ≡ false = cc in
    place _ es c.args.i c.index-entries-i.result (rw (e, covers, is, above) refl) c.index-entries-i.is c.requires.within
