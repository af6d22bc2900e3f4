-- A match is the normal form of its 40 bytes.
-- OpenFlow 1.0.0, 5.2.3 Flow Match Structures.
use Rattle.std.specs.Prelude.{ℕ, List}
use Rattle.of_match.specs.declared.fields.Fields.{Fields}
use Rattle.of_match.specs.declared.flow_match.Match.{Match}
use Rattle.of_match.specs.Fields.{fields_of, bytes_of}
use Rattle.of_match.specs.laws.FieldsLaws.{normal_again}

-- The match of any bytes: those that differ in ignored bits alone give one match.
unfoldable pub match_of : List ℕ → Match
match_of bytes = record { bytes = bytes_of (fields_of bytes); normal = normal_again bytes }

-- The twelve fields of a match.
unfoldable pub fields_in : Match → Fields
fields_in m = fields_of m.bytes
