-- The text of a match, our own choice: `any`, or the fields that are not any, in the order of the 40 bytes, joined by commas.
use Rattle.std.specs.Prelude.{ℕ, ◌/◌, ◌%◌, ◌^◌, false, List, [], ◌∷◌, ◌++◌, Option, Some, None, nat_lt, if◌then◌else◌, slice_index, codes}
use Rattle.std.specs.List.{join_with_byte}
use Rattle.std.specs.Fmt.{decimal, digit_glyph}
use Rattle.of_match.specs.declared.fields.Fields.{Fields}

-- a byte as two lower-case digits of base 16
abbrev pub hex_pair : ℕ → List ℕ
hex_pair b = digit_glyph false (b / 16) ∷ digit_glyph false (b % 16) ∷ []

unfoldable pub front_text : List ℕ → List ℕ
front_text a = hex_pair (slice_index a 0) ++ codes ":" ++ hex_pair (slice_index a 1) ++ codes ":" ++ hex_pair (slice_index a 2) ++ codes ":"

unfoldable pub back_text : List ℕ → List ℕ
back_text a = hex_pair (slice_index a 3) ++ codes ":" ++ hex_pair (slice_index a 4) ++ codes ":" ++ hex_pair (slice_index a 5)

-- six bytes, as `02:00:00:00:00:01`
unfoldable pub ethernet_text : List ℕ → List ℕ
ethernet_text a = front_text a ++ back_text a

-- a type of frames, as `0x0800`
unfoldable pub type_text : ℕ → List ℕ
type_text n = codes "0x" ++ hex_pair (n / 256) ++ hex_pair (n % 256)

-- four decimal numbers, as `10.0.0.1`
unfoldable pub dotted : ℕ → List ℕ
dotted a = decimal (a / 2 ^ 24) ++ codes "." ++ decimal (a / 2 ^ 16 % 256) ++ codes "." ++ decimal (a / 2 ^ 8 % 256) ++ codes "." ++ decimal (a % 256)

-- an address and the length of its prefix, which is left out where it is the whole address: `10.0.0.0/24`, `10.0.0.1`
unfoldable pub network_text : ℕ × ℕ → List ℕ
network_text p = if nat_lt p.1 32 then dotted p.0 ++ codes "/" ++ decimal p.1 else dotted p.0

-- `name=value` of a field, and nothing where the field is any
abbrev pub named : {A : Type 0} → List ℕ → (A → List ℕ) → Option A → List (List ℕ)
named name shown None = []
named name shown (Some value) = (name ++ codes "=" ++ shown value) ∷ []

unfoldable pub link_fields : Fields → List (List ℕ)
link_fields f = named (codes "in_port") decimal f.in_port ++ named (codes "dl_src") ethernet_text f.dl_src ++ named (codes "dl_dst") ethernet_text f.dl_dst

unfoldable pub frame_fields : Fields → List (List ℕ)
frame_fields f = named (codes "dl_vlan") decimal f.dl_vlan ++ named (codes "dl_vlan_pcp") decimal f.dl_vlan_pcp ++ named (codes "dl_type") type_text f.dl_type

unfoldable pub network_fields : Fields → List (List ℕ)
network_fields f = named (codes "nw_tos") decimal f.nw_tos ++ named (codes "nw_proto") decimal f.nw_proto ++ named (codes "nw_src") network_text f.nw_src ++ named (codes "nw_dst") network_text f.nw_dst

unfoldable pub transport_fields : Fields → List (List ℕ)
transport_fields f = named (codes "tp_src") decimal f.tp_src ++ named (codes "tp_dst") decimal f.tp_dst

-- the fields that are not any, in the order of the 40 bytes
abbrev pub named_fields : Fields → List (List ℕ)
named_fields f = link_fields f ++ frame_fields f ++ network_fields f ++ transport_fields f

abbrev pub or_any : List ℕ → List ℕ
or_any [] = codes "any"
or_any (b ∷ text) = b ∷ text

unfoldable pub match_text : Fields → List ℕ
match_text f = or_any (join_with_byte 44 (named_fields f))

-- ---- A text that is written from left to right.

-- the text so far, with the comma that the next field wants
abbrev pub with_comma : List ℕ → List ℕ
with_comma [] = []
with_comma (b ∷ text) = (b ∷ text) ++ codes ","

abbrev pub with_fields : List ℕ → List (List ℕ) → List ℕ
with_fields text [] = text
with_fields text (part ∷ parts) = with_fields (with_comma text ++ part) parts
