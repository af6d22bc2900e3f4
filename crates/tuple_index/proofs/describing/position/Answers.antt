use Rattle.std.proofs.Common.{◌≡◌, ℕ, ◌+◌, ◌-◌, ◌/◌, ◌<◌, List, length, get_or, sym, ap, ◌∙◌, arith, inl, inr}
use Rattle.std.proofs.lemmas.Bool.{cases_lt}
use Rattle.std.proofs.lemmas.List.{get_or_default}
use Rattle.of_match.specs.Key.{key_number}
use Rattle.flow_table.specs.declared.entry.Entry.{Entry}
use Rattle.flow_table.specs.Table.{place_of, IsTable, Parts}
use Rattle.flow_table.specs.laws.SortedLaws.{less_than, more_than, same_as}
use Rattle.flow_table.specs.laws.TableLaws.{key_number-rises}
use Rattle.tuple_index.proofs.describing.position.Goals as goal

-- where the entry in the middle stands below, all up to it do
below_middle : (es : List Entry) (p low high middle : ℕ) → IsTable es → Parts p low high es → middle < length es → ((e : Entry) → place_of (get_or es middle e) < p) → Parts p (middle + 1) high es
below_middle es p low high middle is parts within below = record {
  below = λ k e lt. elim (cases_lt k middle) [
    | inl before ↦ omega (arith, key_number-rises es 0 k middle e is before within, below e)
    | inr after ↦ let same : k ≡ middle = omega arith in omega (arith, ap (λ j. place_of (get_or es j e)) same, below e)
  ];
  above = parts.above;
}

above_middle : (es : List Entry) (p low high middle : ℕ) → IsTable es → Parts p low high es → middle < length es → ((e : Entry) → p < place_of (get_or es middle e)) → Parts p low middle es
above_middle es p low high middle is parts within above = record {
  below = parts.below;
  above = λ k e le lt. elim (cases_lt middle k) [
    | inl after ↦ omega (arith, key_number-rises es 0 middle k e is after lt, above e)
    | inr before ↦ let same : k ≡ middle = omega arith in omega (arith, ap (λ j. place_of (get_or es j e)) same, above e)
  ];
}

place_at : (es : List Entry) (i : ℕ) (read : Entry) → i < length es → read ≡ get_or es i read → (e : Entry) → place_of (get_or es i e) ≡ place_of read
place_at es i read within is e = ap place_of (get_or_default es i e read within ∙ sym is)

pub loop-low-preserved-in-Less : goal.loop-low-preserved-in-Less
loop-low-preserved-in-Less c =
    let within : c.loop-low.low + (c.loop-low.high - c.loop-low.low) / 2 < length c.args.entries.now = omega arith in
    let lt = less_than (place_of c.index-entries-middle.result) (key_number c.args.key.now) (sym c.in-Less.is ∙ c.entry_order.ensures) in (
      omega arith,
      c.loop-low.invariant.1,
      below_middle _ _ _ _ _ c.requires c.loop-low.invariant.2 within (λ e. omega (arith, place_at _ _ _ within c.index-entries-middle.is e)),
    )

pub loop-low-preserved : goal.loop-low-preserved
loop-low-preserved c =
    let within : c.loop-low.low + (c.loop-low.high - c.loop-low.low) / 2 < length c.args.entries.now = omega arith in
    let gt = more_than (place_of c.index-entries-middle.result) (key_number c.args.key.now) (sym c.in-Greater.is ∙ c.entry_order.ensures) in (
      omega arith,
      omega arith,
      above_middle _ _ _ _ _ c.requires c.loop-low.invariant.2 within (λ e. omega (arith, place_at _ _ _ within c.index-entries-middle.is e)),
    )

pub returns-in-Equal : goal.returns-in-Equal
returns-in-Equal c =
    let within : c.loop-low.low + (c.loop-low.high - c.loop-low.low) / 2 < length c.args.entries.now = omega arith in
    let same = same_as (place_of c.index-entries-middle.result) (key_number c.args.key.now) (sym c.in-Equal.is ∙ c.entry_order.ensures) in
    (within, λ e. place_at _ _ _ within c.index-entries-middle.is e ∙ same)
