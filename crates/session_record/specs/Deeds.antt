-- What a recording keeps of applications: what became of each call for one of them, in order. All of this is our own choice.
use Rattle.std.specs.Prelude.{◌≡◌, ℕ, ◌-◌, ◌≤◌, ◌==◌, Bool, true, false, List, [], ◌∷◌, ◌++◌, length, take, drop, map, filter, Option, None, All, ◌⊎◌}
use Rattle.std.specs.Option.{option_map}
use Rattle.std.specs.List.{list_any, slice_split}
use Rattle.lego_model.specs.Journal.{End, Closes, Stalls, Untold}
use Rattle.session_record.specs.declared.deed.DeedKind.{DeedKind}
use Rattle.session_record.specs.declared.deed.DeedKind.TheVariants.{Started, Refused, Event, Unasked, Given, Gone, Piece, Closed, Silent}
use Rattle.session_record.specs.declared.log.Kept.{Kept}

pub record Deed : Type 0 where
  pub app : ℕ
  pub kind : DeedKind
  -- what it gave; nothing for other kinds
  pub bytes : List ℕ

-- ---- Deeds that are kept in one block of bytes

abbrev pub deed_in : List ℕ → Kept → Deed
deed_in bytes kept = record { app = kept.app; kind = kept.kind; bytes = take (kept.end - kept.start) (drop kept.start bytes) }

abbrev pub deeds_in : List ℕ → List Kept → List Deed
deeds_in bytes all = map (deed_in bytes) all

abbrev pub IsWithin : ℕ → Kept → Type 0
IsWithin size kept = (kept.start ≤ kept.end) × (kept.end ≤ size)

abbrev pub AreWithin : ℕ → List Kept → Type 0
AreWithin size all = All (IsWithin size) all

-- one deed more, or from now on none, since memory was refused
abbrev pub Notes : List Deed → Option (List Deed) → Option (List Deed) → Type 0
Notes more before after = (after ≡ None) ⊎ (after ≡ option_map (λ deeds. deeds ++ more) before)

-- ---- Kinds

abbrev pub is_started : DeedKind → Bool
is_started Started = true
is_started other = false

abbrev pub is_event : DeedKind → Bool
is_event Event = true
is_event other = false

abbrev pub is_refused : DeedKind → Bool
is_refused Refused = true
is_refused other = false

abbrev pub is_unasked : DeedKind → Bool
is_unasked Unasked = true
is_unasked other = false

abbrev pub is_given : DeedKind → Bool
is_given Given = true
is_given other = false

-- a frame could not be given
abbrev pub is_lost : DeedKind → Bool
is_lost Unasked = true
is_lost Gone = true
is_lost other = false

-- ---- Lives

abbrev pub of_app : ℕ → List Deed → List Deed
of_app app deeds = filter (λ d. d.app == app) deeds

-- what stands before the first attempt to start, and the deeds of each attempt
abbrev pub attempts : List Deed → List (List Deed)
attempts deeds = slice_split (λ d. is_started d.kind) deeds

-- of an attempt: the deeds of the start, and those of each turn
abbrev pub parts : List Deed → List (List Deed)
parts deeds = slice_split (λ d. is_event d.kind) deeds

abbrev pub pieces : List Deed → List (List ℕ)
pieces deeds = map (λ d. d.bytes) deeds

-- how the bytes end, by the last deed that took
abbrev pub end_by : End → DeedKind → End
end_by before Piece = Untold
end_by before Closed = Closes
end_by before Silent = Stalls
end_by before other = before

abbrev pub end_from : End → List Deed → End
end_from before [] = before
end_from before (d ∷ deeds) = end_from (end_by before d.kind) deeds
