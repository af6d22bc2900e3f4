-- The log of images: one for each place since a mark, oldest first. A mark is a position in it. All of this is our own.
use Rattle.std.specs.Prelude.{◌==◌, ℕ, Bool, true, false, ◌&&◌, nat_le, List, [], ◌∷◌, ◌++◌, length, drop, Option, Some, if◌then◌else◌}
use Rattle.std.specs.List.{list_any}
use Rattle.std.proofs.Common.{zero, suc}
use Rattle.of_types.specs.Fields.{number_bytes, with_field}
use Rattle.of_match.specs.Key.{key_number}
use Rattle.flow_table.specs.declared.lost.Lost.{Lost}
use Rattle.netlog_inverse.specs.declared.image.Image.{Image}
use Rattle.netlog_inverse.specs.declared.image.Logged.{Logged}
use Rattle.netlog_inverse.specs.declared.image.PutBack.{PutBack}
use Rattle.netlog_inverse.specs.declared.image.PutBack.TheVariants.{Row, Config, Settings}

-- a log as calls see it: what is logged, and for how many images more there is room
pub record LogState : Type 0 where
  pub logged : List Logged
  pub spare : ℕ

-- ---- Places

-- both are of one key, of one port, or of the configuration
abbrev pub is_one_place : PutBack → PutBack → Bool
is_one_place (Row k row lost) (Row l other more) = key_number k == key_number l
is_one_place (Config port config) (Config other more) = port == other
is_one_place (Settings flags len) (Settings other more) = true
is_one_place a b = false

-- an image is of that place of that switch
abbrev pub is_of : ℕ → PutBack → Logged → Bool
is_of d put l = l.dpid == d && is_one_place l.image.put put

-- ---- What is logged

abbrev pub logged_at : ℕ → Image → Logged
logged_at d i = record { dpid = d; image = i }

-- an image is logged where its place has none since the mark
unfoldable pub with_image : ℕ → ℕ → List Logged → Image → List Logged
with_image mark d log i = if list_any (is_of d i.put) (drop mark log) then log else log ++ logged_at d i ∷ []

-- one after the other
abbrev pub pushed : ℕ → ℕ → List Image → List Logged → List Logged
pushed mark d [] log = log
pushed mark d (i ∷ images) log = pushed mark d images (with_image mark d log i)

-- ---- An image that is set right

-- a FLOW_MOD with another hard timeout, which stands behind header, match, cookie, command and idle timeout (OpenFlow 1.0.0, 5.3.3)
abbrev pub with_hard : ℕ → List ℕ → List ℕ
with_hard hard bytes = if nat_le 62 (length bytes) then with_field 60 (number_bytes 2 hard) bytes else bytes

abbrev pub with_lost_row : Option Lost → PutBack → PutBack
with_lost_row lost (Row k row before) = Row k row lost
with_lost_row lost other = other

unfoldable pub mended : Option Lost → ℕ → Bool → Logged → Logged
mended lost hard stands l = record l { image = record l.image { put = with_lost_row lost l.image.put; add = with_hard hard l.image.add; stands = stands } }

-- one element of a list changed
abbrev pub changed_at : {A : Type 0} → ℕ → (A → A) → List A → List A
changed_at i change [] = []
changed_at zero change (x ∷ xs) = change x ∷ xs
changed_at (suc i) change (x ∷ xs) = x ∷ changed_at i change xs

-- an image of an entry
abbrev pub IsEntry : PutBack → Type 0
IsEntry (Row k (Some row) lost) = Unit {0}
IsEntry other = ⊥

-- the image of an entry is logged at a position
abbrev pub HasEntryAt : ℕ → List Logged → Type 0
HasEntryAt i [] = ⊥
HasEntryAt zero (l ∷ log) = IsEntry l.image.put
HasEntryAt (suc i) (l ∷ log) = HasEntryAt i log
