-- When what was logged since a mark stands for the table of the mark, whatever became of entries meanwhile: said key by key of the first
-- images themselves, without a list of all inverses. This is our own.
use Rattle.std.specs.Prelude.{◌≡◌, ◌≢◌, ℕ, ◌≤◌, true, false, List, [], ◌∷◌, Option, Some, None}
use Rattle.of_match.specs.declared.key.Key.{Key}
use Rattle.of_action.specs.declared.action.Action.{Action}
use Rattle.flow_table.specs.declared.entry.Entry.{Entry}
use Rattle.flow_table.specs.declared.lost.Lost.{Lost}
use Rattle.flow_table.specs.declared.view.ViewRow.{ViewRow}
use Rattle.flow_table.specs.Table.{TableState, entry_at}
use Rattle.std.proofs.Common.{zero, suc}
use Rattle.undo_laws.specs.Log.{Inverse, Image as Said, Untouched, Acted, image_of, merge, seen, with_actions}
use Rattle.undo_laws.specs.Serials.{IsSerialed}
use Rattle.undo_laws.specs.Stands.{Standing, is_gone}
use Rattle.netlog_inverse.specs.declared.image.Image.{Image}
use Rattle.netlog_inverse.specs.declared.image.Logged.{Logged}
use Rattle.netlog_inverse.specs.declared.image.PutBack.TheVariants.{Row}
use Rattle.netlog_inverse.specs.Meaning.{entry_of, said, settled, is_image_of, first_at}

-- The first image of each key since a mark gives back the entry that stood there at the mark, as `Standing` of `undo_laws` has it.
pub record ImagesStand (now d : ℕ) (earlier : TableState) (since : List Logged) (present : TableState) : Type 0 where
  pub was : IsSerialed earlier
  pub serialed : IsSerialed present
  pub later : earlier.next ≤ present.next
  pub keys : (k : Key) → Standing now earlier.next (entry_at k earlier.entries) (said now (first_at d k since)) (entry_at k present.entries)

-- after a change the images say of each key what they said before, and where they said nothing what the change logs
abbrev pub SayMore : ℕ → ℕ → List Logged → List Inverse → List Logged → Type 0
SayMore now d since newer after = (k : Key) → settled now (said now (first_at d k after)) ≡ settled now (merge (said now (first_at d k since)) (image_of k newer))

-- What was logged since a mark, in two parts: before an inner mark and since that. Each image of the first part says something, and one
-- that stands says so rightly: the second part does not say that its entry went, since at that the image was set right.
pub record AreSetRight (now d : ℕ) (front inner : List Logged) : Type 0 where
  pub say : (k : Key) (i : Image) → first_at d k front ≡ Some i → said now (Some i) ≢ Untouched
  pub stand : (k : Key) (actions : List Action) → said now (first_at d k front) ≡ Acted actions → is_gone (said now (first_at d k inner)) ≡ false

-- the first image of a key stands at a position
abbrev pub IsFirstAt : ℕ → Key → ℕ → List Logged → Type 0
IsFirstAt d k i [] = ⊥
IsFirstAt d k zero (l ∷ log) = is_image_of d k l ≡ true
IsFirstAt d k (suc i) (l ∷ log) = (is_image_of d k l ≡ false) × IsFirstAt d k i log

-- An entry that goes, the image of it whose actions were changed before, and what is lost of it: the row of the image and what is lost
-- are those of the entry.
pub record IsLast (now d at : ℕ) (k : Key) (r : ViewRow) (lost : Lost) (e : Entry) (since : List Logged) : Type 0 where
  pub first : IsFirstAt d k at since
  pub image : (i : Image) → first_at d k since ≡ Some i → (before : Option Lost) × (l : Key) × (i.put ≡ Row l (Some r) before)
  pub stood : said now (first_at d k since) ≡ Acted r.actions
  pub entry : entry_of now r lost ≡ record (with_actions r.actions (seen e)) { used = now }

-- ---- Images that are set right before those of a change are logged

-- The first image of a key before that (`before`), what the change logs of the key, and its first image then (`set`). Where there was none
-- there is none. One that was there says now what it and the change say together: what it said, unless it had the entry stand which the
-- change takes away, for then it says that this entry went, with the actions that it had.
abbrev pub IsSetRight : ℕ → Option Image → Said → Option Image → Type 0
IsSetRight now None newer set = set ≡ None
IsSetRight now (Some before) newer None = ⊥
IsSetRight now (Some before) newer (Some set) = settled now (said now (Some set)) ≡ settled now (merge (said now (Some before)) newer)

-- so it is of each key of a switch, in what was logged since a mark
abbrev pub AreSetRightFor : ℕ → ℕ → List Logged → List Inverse → List Logged → Type 0
AreSetRightFor now d since newer set = (k : Key) → IsSetRight now (first_at d k since) (image_of k newer) (first_at d k set)

-- an image of a key stands at a position
abbrev pub IsImageAt : ℕ → Key → ℕ → List Logged → Type 0
IsImageAt d k i [] = ⊥
IsImageAt d k zero (l ∷ log) = is_image_of d k l ≡ true
IsImageAt d k (suc i) (l ∷ log) = IsImageAt d k i log
