use Rattle.std.proofs.Common.{◌≡◌, ℕ, List, length, get_or, Option, Some, None, Ok, Err, sym, ap, ◌∙◌, subst}
use Rattle.std.proofs.lemmas.Bool.{eq-eqb}
use Rattle.std.proofs.lemmas.List.{get_or_default}
use Rattle.std.proofs.lemmas.Option.{slice_get-get_or}
use Rattle.of_match.specs.declared.key.Key.{Key}
use Rattle.of_match.specs.declared.packet_key.PacketKey.{PacketKey}
use Rattle.of_match.specs.Key.{key_number}
use Rattle.flow_table.specs.declared.entry.Entry.{Entry}
use Rattle.flow_table.specs.Table.{place_of, has_key, entry_at, IsTable, IsPlaceOf, IsPositionOf}
use Rattle.flow_table.specs.Hit.{best}
use Rattle.flow_table.specs.laws.TableLaws.{IsOnlyAt-has_key, NonePass-absent}
use Rattle.tuple_index.specs.Groups.{IsIndexed}
use Rattle.tuple_index.specs.Taken.{IsTaken}
use Rattle.tuple_index.specs.laws.IndexLaws.{Contains-entry_at, place-entry_at, entry_at-place, entry_at-number, entry-of_key}
use Rattle.tuple_index.specs.laws.TakenLaws.{taken-none, taken-best}
use Rattle.tuple_index.proofs.counting.lookup.Goals as goal

none : (k : PacketKey) (ks : List Key) (es : List Entry) → IsIndexed ks es → IsTaken (length ks) k ks None → IsPositionOf (best k es) es None
none k ks es indexed taken = subst (λ (o : Option Entry). IsPositionOf o es None) (sym (taken-none k ks es indexed.index indexed.in_order taken)) tt

-- the entry of the key that is taken
of_taken : (k : PacketKey) (ks : List Key) (es : List Entry) (j : ℕ) (l : Key) → IsIndexed ks es → IsTaken (length ks) k ks (Some j) → l ≡ get_or ks j l
    → (e : Entry) × (entry_at l es ≡ Some e) × (best k es ≡ Some e)
of_taken k ks es j l indexed taken read =
    let (e, found, key) = entry-of_key ks es l indexed.index (j, taken.0, sym read) in
    (e, found, taken-best k ks es j l e indexed.index indexed.in_order taken (sym read) found key)

here : (k : PacketKey) (es : List Entry) (l : Key) (e : Entry) (i : ℕ) → entry_at l es ≡ Some e → best k es ≡ Some e → IsTable es → IsPlaceOf (key_number l) es (Ok i) → IsPositionOf (best k es) es (Some i)
here k es l e i found is table at =
    let x : Entry = get_or es i e in
    let stands : entry_at x.key es ≡ Some x = entry_at-place es x i table at.0 (get_or_default es i x e at.0) in
    let same : Some x ≡ Some e = sym stands ∙ entry_at-number x.key l es (at.1 e) ∙ found in
    subst (λ (o : Option Entry). IsPositionOf o es (Some i)) (same ∙ sym is) (slice_get-get_or es i e at.0)

-- an entry that stands in the table is found
absent : {A : Type 0} (es : List Entry) (l : Key) (e : Entry) (i : ℕ) → entry_at l es ≡ Some e → IsPlaceOf (key_number l) es (Err i) → A
absent es l e i found at =
    let (j, within, is) = Contains-entry_at l es e found in
    let fails = NonePass-absent (has_key l) es l i (IsOnlyAt-has_key l) at.1 j e within in
    let passes = eq-eqb (place_of (get_or es j e)) (key_number l) (ap place_of is ∙ place-entry_at l es e found) in
    absurd cc

pub returns-in-None : goal.returns-in-None
returns-in-None c = none c.args.k.now c.args.index.now c.args.entries.now c.requires (rw c.in-None.is at c.find.ensures)

pub returns-in-Ok : goal.returns-in-Ok
returns-in-Ok c =
    let (e, found, is) = of_taken c.args.k.now c.args.index.now c.args.entries.now c.in-Some.at c.index-index-at.result c.requires (rw c.in-Some.is at c.find.ensures) c.index-index-at.is in
    here c.args.k.now c.args.entries.now c.index-index-at.result e c.in-Ok.place found is c.requires.in_order c.in-Ok.ensures

pub returns-in-Err : goal.returns-in-Err
returns-in-Err c =
    let (e, found, is) = of_taken c.args.k.now c.args.index.now c.args.entries.now c.in-Some.at c.index-index-at.result c.requires (rw c.in-Some.is at c.find.ensures) c.index-index-at.is in
    absent c.args.entries.now c.index-index-at.result e c.in-Err.field-0 found c.in-Err.ensures
