use Rattle.std.proofs.Common.{◌≡◌, ◌<◌, ◌^◌, ℕ, List, get_or, Ok, sym, ap, ◌∙◌, arith}
use Rattle.std.proofs.lemmas.List.{get_or_default}
use Rattle.of_match.specs.laws.KeyLaws.{key_number-injective}
use Rattle.flow_table.specs.declared.entry.Entry.{Entry}
use Rattle.flow_table.specs.Table.{place_of, IsPlaceOf}
use Rattle.flow_table.specs.laws.HitLaws.{keys-set}
use Rattle.tuple_index.proofs.changing.replace.Goals as goal

same_key : (es : List Entry) (at : ℕ) (read e : Entry) → IsPlaceOf (place_of e) es (Ok at) → read ≡ get_or es at read → read.key.priority < 2 ^ 16 → e.key.priority < 2 ^ 16 → (get_or es at e).key ≡ e.key
same_key es at read e here is low high =
    let there : get_or es at e ≡ read = get_or_default es at e read here.0 ∙ sym is in
    let place : place_of read ≡ place_of e = ap place_of (sym there) ∙ here.1 e in
    ap (λ (f : Entry). f.key) there ∙ key_number-injective read.key e.key (record { priority = low }) (record { priority = high }) place

pub returns-clause-keys : goal.returns-clause-keys
returns-clause-keys c =
    keys-set c.args.entries.now.items c.args.at c.args.entry
    (same_key c.args.entries.now.items c.args.at c.index.result.now c.args.entry c.requires c.index.ensures (omega arith) (omega arith))
