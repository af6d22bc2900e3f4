-- What becomes of a log when the entry of a key goes: each image for which that entry stood is set right. This is our own.
use Rattle.std.specs.Prelude.{◌≡◌, ◌≢◌, ◌==◌, ℕ, Bool, true, false, ◌&&◌, List, [], ◌∷◌, map, Option, Some, None, if◌then◌else◌}
use Rattle.std.proofs.Common.{zero, suc}
use Rattle.of_match.specs.declared.key.Key.{Key}
use Rattle.of_match.specs.Key.{key_number}
use Rattle.flow_table.specs.declared.entry.Entry.{Entry}
use Rattle.flow_table.specs.declared.lost.Lost.{Lost}
use Rattle.flow_table.specs.declared.view.ViewRow.{ViewRow}
use Rattle.undo_laws.specs.Log.{Untouched, seen, with_actions}
use Rattle.netlog_inverse.specs.declared.image.Image.{Image}
use Rattle.netlog_inverse.specs.declared.image.Logged.{Logged}
use Rattle.netlog_inverse.specs.declared.image.PutBack.{PutBack}
use Rattle.netlog_inverse.specs.declared.image.PutBack.TheVariants.{Row}
use Rattle.netlog_inverse.specs.Log.{mended}
use Rattle.netlog_inverse.specs.Meaning.{entry_of, said, is_image_of, first_at}
use Rattle.netlog_inverse.specs.Messages.{hard_left}

-- the image is one of an entry
abbrev pub is_entry : PutBack → Bool
is_entry (Row k (Some r) lost) = true
is_entry other = false

-- the entry at its key stands for the one of the image
abbrev pub is_standing : Image → Bool
is_standing i = i.stands && is_entry i.put

-- such an image, once its entry went and this was lost: its ADD has what is left of the hard timeout
unfoldable pub set_standing : Lost → Logged → Logged
set_standing lost l = if is_standing l.image then mended (Some lost) (hard_left lost.hard lost.age) false l else l

-- an image of that key of that switch, once the entry went; the others stay
unfoldable pub set_right : ℕ → Key → Lost → Logged → Logged
set_right d k lost l = if is_image_of d k l then set_standing lost l else l

-- the first elements of a list changed
abbrev pub map_first : {A : Type 0} → ℕ → (A → A) → List A → List A
map_first n change [] = []
map_first zero change (x ∷ xs) = x ∷ xs
map_first (suc n) change (x ∷ xs) = change x ∷ map_first n change xs

-- What is lost is that of the entry that goes: the first image of its key since a mark says something, and where the entry stood for it, the
-- image's row and what is lost are those of the entry, with the image's actions.
pub record IsLostOf (now d : ℕ) (k : Key) (lost : Lost) (e : Entry) (since : List Logged) : Type 0 where
  pub say : (i : Image) → first_at d k since ≡ Some i → said now (Some i) ≢ Untouched
  pub entry : (i : Image) (l : Key) (r : ViewRow) (before : Option Lost) → first_at d k since ≡ Some i → i.stands ≡ true → i.put ≡ Row l (Some r) before
      → entry_of now r lost ≡ record (with_actions r.actions (seen e)) { used = now }
