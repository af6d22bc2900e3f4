-- Keys of entries and of notices. All of this is our own.
use Rattle.std.specs.Prelude.{◌≡◌, false, List, [], ◌∷◌, map}
use Rattle.of_match.specs.declared.key.Key.{Key}
use Rattle.flow_table.specs.declared.notice.Notice.{Notice}
use Rattle.undo_laws.specs.Removal.{is_key_among}

abbrev pub Distinct : List Key → Type 0
Distinct [] = Unit {0}
Distinct (k ∷ ks) = (is_key_among ks k ≡ false) × Distinct ks

abbrev pub notice_keys : List Notice → List Key
notice_keys ns = map (λ n. n.removed.key) ns
