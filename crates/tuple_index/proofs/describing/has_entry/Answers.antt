use Rattle.std.proofs.Common.{◌≡◌, ℕ, List, Result, Ok, Err, sym, ◌∙◌}
use Rattle.std.proofs.lemmas.Bool.{eq-eqb}
use Rattle.std.specs.List.{list_any}
use Rattle.std.specs.Result.{is_ok}
use Rattle.of_match.specs.declared.key.Key.{Key}
use Rattle.of_match.specs.Key.{key_number}
use Rattle.flow_table.specs.declared.entry.Entry.{Entry}
use Rattle.flow_table.specs.Table.{has_key, IsPlaceOf}
use Rattle.flow_table.specs.laws.TableLaws.{list_any-found, list_any-none, IsOnlyAt-has_key, NonePass-absent}
use Rattle.tuple_index.proofs.describing.has_entry.Goals as goal

is_there : (r : Result ℕ ℕ) (es : List Entry) (k : Key) → IsPlaceOf (key_number k) es r → is_ok r ≡ list_any (has_key k) es
is_there (Ok i) es k at = sym (list_any-found (has_key k) es i at.0 (λ e. eq-eqb _ (key_number k) (at.1 e)))
is_there (Err i) es k at = sym (list_any-none (has_key k) es (NonePass-absent (has_key k) es k i (IsOnlyAt-has_key k) at.1))

pub returns : goal.returns
returns c = c.is_ok.ensures.value ∙ is_there c.position.result c.args.entries.now c.args.key.now c.position.ensures
