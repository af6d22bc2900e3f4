use Rattle.std.proofs.Common.{◌≡◌, ◌<◌, List, length, get_or, set, Some, ℕ, sym, ap, ◌∙◌}
use Rattle.std.specs.Prelude.{slice_get}
use Rattle.std.proofs.lemmas.List.{get_or_default}
use Rattle.std.proofs.lemmas.Option.{get_or_from_slice_get}
use Rattle.of_match.specs.declared.key.Key.{Key}
use Rattle.flow_table.specs.declared.entry.Entry.{Entry}
use Rattle.flow_table.specs.Table.{IsTable, place_of, with_entry}
use Rattle.flow_table.specs.Hit.{counted}
use Rattle.flow_table.specs.laws.TableLaws.{with_entry-found}
use Rattle.flow_table.specs.laws.HitLaws.{keys-set}
use Rattle.tuple_index.specs.Groups.{IsIndexed}
use Rattle.tuple_index.specs.laws.IndexLaws.{IsIndexed-keys}
use Rattle.tuple_index.proofs.counting.count_at.Goals as goal

counted_at : (len now : ℕ) (es : List Entry) (i : ℕ) (read e f : Entry) → IsTable es → i < length es → f ≡ counted len now (get_or es i read) → slice_get es i ≡ Some e → set es i f ≡ with_entry (counted len now e) es
counted_at len now es i read e f table within here stands =
    let there : get_or es i read ≡ e = get_or_from_slice_get es i e read stands in
    let c : Entry = counted len now e in
    let same : place_of (get_or es i c) ≡ place_of c = ap place_of (get_or_default es i c read within ∙ there) in
    rw (here, there) (sym (with_entry-found es c 0 i table within same))

stays : (ks : List Key) (es : List Entry) (i len now : ℕ) (read f : Entry) → IsIndexed ks es → i < length es → f ≡ counted len now (get_or es i read) → IsIndexed ks (set es i f)
stays ks es i len now read f indexed within here =
    let same : (get_or es i f).key ≡ f.key = ap (λ x. x.key) (get_or_default es i f read within) ∙ ap (λ x. x.key) (sym here) in
    IsIndexed-keys ks es (set es i f) (sym (keys-set es i f same)) indexed

pub returns-clause-entries : goal.returns-clause-entries
returns-clause-entries c = λ e stands.
    counted_at c.args.len c.args.now c.args.entries.now c.args.i c.index-entries-i.result e c.count.new.entry c.requires.indexed.in_order c.requires.within c.count.ensures stands

pub returns-clause-indexed : goal.returns-clause-indexed
returns-clause-indexed c =
    stays c.args.index.now c.args.entries.now c.args.i c.args.len c.args.now c.index-entries-i.result c.count.new.entry c.requires.indexed c.requires.within c.count.ensures
