-- The checkpoint of a learning switch: its rows, 16 bytes each. Our own choice.
--
--     switch u64 | address 6 | port u16
use Rattle.std.specs.Prelude.{ℕ, zero, suc, ◌==◌, ◌/◌, ◌%◌, Bool, true, false, ◌&&◌, List, [], ◌∷◌, ◌++◌, length, take, drop, Option, Some, None, nat_le, if◌then◌else◌}
use Rattle.std.specs.List.{flat_map}
use Rattle.std.specs.Ordering.{nat_cmp, is_lt}
use Rattle.std.specs.Cmp.Lexicographic.{slice_cmp}
use Rattle.std.specs.BTreeMap.{insert_entry}
use Rattle.of_types.specs.Fields.{number_at, number_bytes}
use Rattle.app_frames.specs.declared.frame.AppFrame.{AppFrame}
use Rattle.app_frames.specs.declared.frame.AppFrame.TheVariants.{Done}
use Rattle.app_frames.specs.declared.frame.Event.{Event}
use Rattle.app_objects.specs.Machine.{Reaction}
use Rattle.app_objects.specs.ByEvents.{gives_from}
use Rattle.machine_apps.specs.Learn.{Rows, rows_after, frames_for}

abbrev pub row_bytes : List ℕ × ℕ → List ℕ
row_bytes row = row.0 ++ number_bytes 2 row.1

unfoldable pub checkpoint_of : Rows → List ℕ
checkpoint_of rows = flat_map row_bytes rows

-- the first rows of some bytes
abbrev pub rows_in : ℕ → List ℕ → Rows
rows_in zero bytes = []
rows_in (suc n) bytes = (take 14 bytes, number_at 2 14 bytes) ∷ rows_in n (drop 16 bytes)

abbrev pub is_below : Option (List ℕ) → List ℕ → Bool
is_below None s = true
is_below (Some last) s = is_lt (slice_cmp nat_cmp last s)

-- each station is below the next
abbrev pub is_ascending : Option (List ℕ) → Rows → Bool
is_ascending last [] = true
is_ascending last (row ∷ rows) = is_below last row.0 && is_ascending (Some row.0) rows

abbrev pub with_rows : Rows → Rows → Rows
with_rows rows [] = rows
with_rows rows (row ∷ more) = with_rows (insert_entry (slice_cmp nat_cmp) rows row.0 row.1) more

-- whole rows, at most 65,536, that ascend
abbrev pub is_checkpoint : List ℕ → Bool
is_checkpoint bytes =
    (length bytes % 16 == 0) && (nat_le (length bytes / 16) 65536 && is_ascending None (rows_in (length bytes / 16) bytes))

-- the rows of a checkpoint; none where it has not this form
unfoldable pub restored : List ℕ → Rows
restored bytes = if is_checkpoint bytes then with_rows [] (rows_in (length bytes / 16) bytes) else []

-- all frames for an event: Done is the last, with what was learned by then
abbrev pub answers_to : ℕ → Event → Rows → List AppFrame
answers_to idle event rows = frames_for idle event rows ++ Done false (Some (checkpoint_of (rows_after event rows))) ∷ []

-- what it gives at frames of the host to come, and what it would give behind a Restore with a checkpoint
abbrev pub learn_gives : ℕ → Rows → List (List ℕ) → List Reaction
learn_gives idle rows frames = gives_from (answers_to idle) rows_after rows frames

abbrev pub learn_would : ℕ → List ℕ → List (List ℕ) → List Reaction
learn_would idle checkpoint frames = learn_gives idle (restored checkpoint) frames
