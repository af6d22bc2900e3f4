-- A switch as its engine shows it to the owners of its entries. What packets and time do to the switch they do to what is shown of it. This is
-- our own.
use Rattle.std.specs.Prelude.{◌≡◌, ◌⊎◌, ℕ, ◌+◌, ◌%◌, ◌^◌, ◌≤◌, ◌<◌, Bool, true, List, Option, Some, None}
use Rattle.std.specs.List.{AllByRecursion}
use Rattle.of_types.specs.declared.journal.Stimulus.{Stimulus}
use Rattle.of_types.specs.declared.journal.Stimulus.TheVariants.{Advance}
use Rattle.of_match.specs.declared.key.Key.{Key}
use Rattle.flow_table.specs.declared.entry.Entry.{Entry}
use Rattle.flow_table.specs.declared.lost.Lost.{Lost}
use Rattle.flow_table.specs.declared.notice.Notice.{Notice}
use Rattle.flow_table.specs.declared.view.ViewRow.{ViewRow}
use Rattle.flow_table.specs.Change.{asks_notice}
use Rattle.flow_table.specs.Corrected.{row_at, lost_at, asked_flags}
use Rattle.flow_table.specs.Expiry.{deadline}
use Rattle.flow_table.specs.Switch.{SwitchState}
use Rattle.undo_laws.specs.Corrected.{IsCorrection, corrected}

-- the switch with its table as it is shown
abbrev pub corrected_switch : (Entry → Entry) → SwitchState → SwitchState
corrected_switch shown s = record s { table = corrected shown s.table }

-- ---- What happens to an entry happens to what is shown of it

-- an entry with so many packets and bytes more (counters are modulo 2^64), and one that was used now
abbrev pub with_counters : ℕ → ℕ → Entry → Entry
with_counters packets bytes e = record e { packets = (e.packets + packets) % 2 ^ 64; bytes = (e.bytes + bytes) % 2 ^ 64 }

abbrev pub with_use : ℕ → Entry → Entry
with_use now e = record e { used = now }

-- Packets count alike. Cookie, idle timeout and last use are the entry's own.
pub record GoesAlong (shown : Entry → Entry) : Type 0 where
  pub corrects : IsCorrection shown
  pub counters : (packets bytes : ℕ) (e : Entry) → with_counters packets bytes (shown e) ≡ shown (with_counters packets bytes e)
  pub used_now : (now : ℕ) (e : Entry) → with_use now (shown e) ≡ shown (with_use now e)
  pub cookie : (e : Entry) → (shown e).cookie ≡ e.cookie
  pub idle : (e : Entry) → (shown e).idle ≡ e.idle
  pub used : (e : Entry) → (shown e).used ≡ e.used

-- An entry goes at the moment at which what is shown of it goes, and for the same reason; both have no hard timeout, or the same end of it. An
-- entry that was put back has what was left of its timeout, and is shown with its age and the whole of it (OpenFlow 1.0.0, 3.3 Flow Removal).
pub record GoesWith (shown : Entry → Entry) (e : Entry) : Type 0 where
  pub deadline : deadline (shown e) ≡ deadline e
  pub hard : ((e.hard ≡ 0) × ((shown e).hard ≡ 0)) ⊎ (e.installed + e.hard ≡ (shown e).installed + (shown e).hard)

abbrev pub GoTogether : (Entry → Entry) → List Entry → Type 0
GoTogether shown es = AllByRecursion (GoesWith shown) es

-- ---- Notices. The engine asks the switch for a notice of each entry (SEND_FLOW_REM of OpenFlow 1.0.0, 5.3.3 Modify State Messages), so that an
-- owner's own flags are a matter of what is shown.

-- a notice of each entry is asked for
abbrev pub AskAll : List Entry → Type 0
AskAll es = AllByRecursion (λ e. asks_notice e.flags ≡ true) es

-- the owner of an entry asked for its notice
abbrev pub asks_shown : (Entry → Entry) → Entry → Bool
asks_shown shown e = asks_notice (shown e).flags

-- time does not pass at this stimulus
abbrev pub IsNoMoment : Stimulus → Type 0
IsNoMoment (Advance moment) = ⊥
IsNoMoment other = Unit {0}

-- ---- What the engine shows: what was lost, and the owner's own flags

-- An entry that has lost its age has the rest of its hard timeout, and a while of it is left; or it has none.
abbrev pub HasRest : Option Lost → Entry → Type 0
HasRest None e = Unit {0}
HasRest (Some l) e = (l.age ≤ e.installed) × (((e.hard ≡ 0) × (l.hard ≡ 0)) ⊎ ((0 < e.hard) × (e.hard + l.age ≡ l.hard)))

abbrev pub HaveRest : List (Key × Lost) → List Entry → Type 0
HaveRest lost es = AllByRecursion (λ e. HasRest (lost_at e.key lost) e) es

-- the owner of a key's entry asked for this notice
abbrev pub is_asked_for : (Key → ℕ) → Notice → Bool
is_asked_for flags n = asks_notice (flags n.removed.key)

-- the flags with which the owner of a key's entry asked for it
abbrev pub owner_flags : List ViewRow → Key → ℕ
owner_flags rows k = asked_flags (row_at k rows)
