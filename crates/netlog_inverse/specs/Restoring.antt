-- When images undo what was changed, and what is sent for them: one message a key at most, by the table of `undo_laws` (`sent_for`). This
-- is our own.
use Rattle.std.specs.Prelude.{◌≡◌, ◌≢◌, ℕ, Bool, List, None}
use Rattle.of_match.specs.declared.key.Key.{Key}
use Rattle.of_action.specs.declared.action.Action.{Action}
use Rattle.flow_table.specs.Table.{TableState, entry_at}
use Rattle.undo_laws.specs.Log.{Inverse, Untouched, image_of}
use Rattle.undo_laws.specs.Table.{sent_for}
use Rattle.netlog_inverse.specs.declared.image.Logged.{Logged}
use Rattle.netlog_inverse.specs.Meaning.{said, settled, first_at}

-- what was logged for a switch since a mark says of each key what a list of all inverses since then says
abbrev pub Says : ℕ → ℕ → List Logged → List Inverse → Type 0
Says now d since log = (k : Key) → settled now (said now (first_at d k since)) ≡ settled now (image_of k log)

-- what is sent to a switch, as what it undoes: for each key what the table says of its first image and of the entry that stands there
abbrev pub IsSentFor : ℕ → ℕ → (List Action → List Action → Bool) → List Logged → List Inverse → TableState → Type 0
IsSentFor now d same since sent t = (k : Key) → image_of k sent ≡ sent_for same (said now (first_at d k since)) (entry_at k t.entries)

-- the images that are left of those since a mark when all that was logged behind a later mark is cut off: those of the keys that the
-- older inverses speak of
abbrev pub AreLeft : ℕ → List Logged → List Logged → List Inverse → Type 0
AreLeft d since left older = (k : Key) → (image_of k older ≡ Untouched → first_at d k left ≡ None) × (image_of k older ≢ Untouched → first_at d k left ≡ first_at d k since)
