-- Matches with the same bytes, or the same fields, are one match; what is decoded of a match's bytes is that match.
use Rattle.std.proofs.Common.{◌≡◌, ℕ, List, length, subst, sym, ap, ◌∙◌}
use Rattle.std.proofs.Props.{props}
use mathlib.Core.HLevel.{is_prop→PathP}
use Rattle.of_match.specs.declared.fields.Fields.{Fields}
use Rattle.of_match.specs.declared.flow_match.Match.{Match}
use Rattle.of_match.specs.Fields.{fields_of, bytes_of, IsNormal, IsFields}
use Rattle.of_match.specs.laws.FieldsLaws.{fields_of-bytes_of, fields_within, AreBytes, bytes_of-length, bytes_of-AreBytes}
use Rattle.of_match.specs.Match.{match_of, fields_in}

IsNormal-prop : (bytes : List ℕ) → IsProp (IsNormal bytes)
IsNormal-prop bytes = hlevel props

pub bytes-injective : (m n : Match) → m.bytes ≡ n.bytes → m ≡ n
bytes-injective m n e =
    λ i. record { bytes = e i; normal = is_prop→PathP (λ j. IsNormal (e j)) (λ j. IsNormal-prop (e j)) m.normal n.normal i }

-- what a match keeps are the bytes of its fields
pub bytes_of-fields_in : (m : Match) → bytes_of (fields_in m) ≡ m.bytes
unfolding fields_in
bytes_of-fields_in m = m.normal

pub fields_in-injective : (m n : Match) → fields_in m ≡ fields_in n → m ≡ n
fields_in-injective m n e = bytes-injective m n (sym (bytes_of-fields_in m) ∙ ap bytes_of e ∙ bytes_of-fields_in n)

pub fields_in-within : (m : Match) → IsFields (fields_in m)
unfolding fields_in
fields_in-within m = fields_within m.bytes

-- the fields of the match of some bytes are those that the bytes say
pub fields_in-match_of : (bytes : List ℕ) → fields_in (match_of bytes) ≡ fields_of bytes
unfolding fields_in match_of
fields_in-match_of bytes = fields_of-bytes_of (fields_of bytes) (fields_within bytes)

-- the fields of the match that is made of fields
pub fields_in-match_of-bytes_of : (f : Fields) → IsFields f → fields_in (match_of (bytes_of f)) ≡ f
fields_in-match_of-bytes_of f is = fields_in-match_of (bytes_of f) ∙ fields_of-bytes_of f is

-- bytes that differ in ignored bits alone give one match
pub match_of-same : (a b : List ℕ) → fields_of a ≡ fields_of b → match_of a ≡ match_of b
match_of-same a b e = fields_in-injective (match_of a) (match_of b) (fields_in-match_of a ∙ e ∙ sym (fields_in-match_of b))

-- decoding what was encoded
pub match_of-bytes_of : (m : Match) → match_of (bytes_of (fields_in m)) ≡ m
match_of-bytes_of m = fields_in-injective (match_of (bytes_of (fields_in m))) m (fields_in-match_of-bytes_of (fields_in m) (fields_in-within m))

-- what a match keeps are 40 bytes
pub match-length : (m : Match) → length m.bytes ≡ 40
match-length m = ap length (sym m.normal) ∙ bytes_of-length (fields_of m.bytes)

pub match-AreBytes : (m : Match) → AreBytes m.bytes
match-AreBytes m = subst AreBytes m.normal (bytes_of-AreBytes (fields_of m.bytes) (fields_within m.bytes))
