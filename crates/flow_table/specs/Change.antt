-- What a FLOW_MOD makes of a flow table (OpenFlow 1.0.0, 4.6 Flow Table Modification Messages and 5.3.3 Modify State Messages).
-- Our own choice: MODIFY keeps cookie, timeouts and flags, out_port looks at OUTPUT actions alone, the check for overlaps passes
-- over the identical key, an entry that is replaced gives no notice, and notices stand in key order.
use Rattle.std.specs.Prelude.{◌≡◌, ◌==◌, ℕ, ◌+◌, ◌-◌, ◌/◌, ◌%◌, Bool, false, not, ◌&&◌, ◌||◌, nat_lt, nat_le, List, [], length, map, filter, Option, Some, None, Result, Ok, Err, if◌then◌else◌}
use Rattle.std.specs.List.{list_any}
use Rattle.of_types.specs.declared.errors.OfError.{OfError}
use Rattle.of_match.specs.declared.key.Key.{Key}
use Rattle.of_match.specs.Key.{key_number}
use Rattle.match_overlap.specs.Relations.{is_subsuming, is_overlapping}
use Rattle.of_action.specs.declared.action.Action.{Action}
use Rattle.of_action.specs.declared.action.Action.TheVariants.{Output}
use Rattle.of_wire.specs.declared.bodies.FlowMod.{FlowMod}
use Rattle.flow_table.specs.declared.entry.Entry.{Entry}
use Rattle.flow_table.specs.declared.fault.ChangeFault.{ChangeFault}
use Rattle.flow_table.specs.declared.fault.ChangeFault.TheVariants.{Refused, NoMemory}
use Rattle.flow_table.specs.declared.notice.Notice.{Notice}
use Rattle.flow_table.specs.Errors.{bad_command, overlap, all_tables_full}
use Rattle.flow_table.specs.Table.{TableState, has_key, with_entry}

-- ---- What a description asks for. The commands: ADD 0, MODIFY 1, MODIFY_STRICT 2, DELETE 3, DELETE_STRICT 4.

abbrev pub is_modify : FlowMod → Bool
is_modify m = m.command == 1 || m.command == 2

abbrev pub is_delete : FlowMod → Bool
is_delete m = m.command == 3 || m.command == 4

abbrev pub is_strict : FlowMod → Bool
is_strict m = m.command == 2 || m.command == 4

-- SEND_FLOW_REM of some flags
abbrev pub asks_notice : ℕ → Bool
asks_notice flags = flags % 2 == 1

-- CHECK_OVERLAP of some flags
abbrev pub checks_overlap : ℕ → Bool
checks_overlap flags = flags / 2 % 2 == 1

abbrev pub key_in : FlowMod → Key
key_in m = record { priority = m.priority; matching = m.matching }

-- ---- Which entries it meets

-- a strict description means the entry with its key, another one each entry whose match it subsumes
unfoldable pub describes : FlowMod → Key → Bool
describes m k = if is_strict m then key_number k == key_number (key_in m) else is_subsuming m.matching k.matching

abbrev pub is_output_to : ℕ → Action → Bool
is_output_to port (Output to max_len) = to == port
is_output_to port other = false

-- the restriction by out_port, which NONE (0xffff) lifts
unfoldable pub sends_to : ℕ → List Action → Bool
sends_to out_port actions = out_port == 0xffff || list_any (is_output_to out_port) actions

-- the entries that a DELETE removes
abbrev pub deletes : FlowMod → Entry → Bool
deletes m e = describes m e.key && sends_to m.out_port e.actions

-- a description means the entry
abbrev pub means : FlowMod → Entry → Bool
means m e = describes m e.key

-- an entry goes by a DELETE and asks for a notice
abbrev pub tells : FlowMod → Entry → Bool
tells m e = deletes m e && asks_notice e.flags

-- ADD, and a MODIFY that meets no entry
unfoldable pub adds : FlowMod → List Entry → Bool
adds m es = m.command == 0 || (is_modify m && not (list_any (λ e. describes m e.key) es))

-- ---- Refusals, the first of them

-- another entry of the priority overlaps, and that was to be checked
unfoldable pub clashes : FlowMod → List Entry → Bool
clashes m es =
    checks_overlap m.flags
    && list_any (λ e. e.key.priority == m.priority && (not (has_key (key_in m) e) && is_overlapping e.key.matching m.matching)) es

-- an entry has the priority of a key, another match, and some packet in common with it
abbrev pub clashes_with : Key → Entry → Bool
clashes_with k e = e.key.priority == k.priority && (not (has_key k e) && is_overlapping e.key.matching k.matching)

-- the key is new, and there is no place for it
unfoldable pub is_full : ℕ → FlowMod → List Entry → Bool
is_full cap m es = not (list_any (has_key (key_in m)) es) && nat_le cap (length es)

unfoldable pub refusal : ℕ → FlowMod → List Entry → Option OfError
refusal cap m es =
    if nat_lt 4 m.command then Some bad_command
    else if not (adds m es) then None
    else if clashes m es then Some overlap
    else if is_full cap m es then Some all_tables_full
    else None

-- ---- The table and the notices after a change that is not refused

-- an entry that was put in at a moment, with SEND_FLOW_REM alone of the flags
unfoldable pub new_entry : ℕ → ℕ → FlowMod → Entry
new_entry now serial m = record {
  key = key_in m;
  actions = m.actions;
  cookie = m.cookie;
  idle = m.idle;
  hard = m.hard;
  flags = m.flags % 2;
  installed = now;
  used = now;
  packets = 0;
  bytes = 0;
  serial = serial;
}

-- an entry that is met takes the new actions, and nothing else changes
abbrev pub modified : FlowMod → Entry → Entry
modified m e = if describes m e.key then record e { actions = m.actions } else e

unfoldable pub entries_after : ℕ → ℕ → FlowMod → List Entry → List Entry
entries_after now serial m es =
    if adds m es then with_entry (new_entry now serial m) es
    else if is_modify m then map (modified m) es
    else filter (λ e. not (deletes m e)) es

-- the notice of an entry that goes: why (IDLE_TIMEOUT 0, HARD_TIMEOUT 1, DELETE 2), and how long it stood
abbrev pub notice : ℕ → ℕ → Entry → Notice
notice reason end e = record { removed = e; reason = reason; duration = end - e.installed }

unfoldable pub notices_of : ℕ → FlowMod → List Entry → List Notice
notices_of now m es =
    if is_delete m then map (notice 2 now) (filter (λ e. deletes m e && asks_notice e.flags) es) else []

abbrev pub serial_after : FlowMod → TableState → ℕ
serial_after m t = if adds m t.entries then t.next + 1 else t.next

-- a change that is not refused
unfoldable pub changed : ℕ → FlowMod → TableState → TableState
changed now m t = record { entries = entries_after now t.next m t.entries; next = serial_after m t }

-- ---- The change as a whole: a refusal leaves the table and gives no notice.

abbrev pub unless_refused : Option OfError → {A : Type 0} → A → A → A
unless_refused None before after = after
unless_refused (Some e) before after = before

unfoldable pub change : ℕ → ℕ → FlowMod → TableState → TableState
change cap now m t = unless_refused (refusal cap m t.entries) t (changed now m t)

-- What a call answers: its notices, or the first refusal; want of memory is free.
abbrev pub Answers : Result (List Notice) ChangeFault → Option OfError → List Notice → Type 0
Answers (Ok notices) refusal expected = (refusal ≡ None) × (notices ≡ expected)
Answers (Err (Refused e)) refusal expected = refusal ≡ Some e
Answers (Err NoMemory) refusal expected = Unit {0}

-- Why a call did not change the table: the first refusal, or want of memory.
abbrev pub IsCause : Option OfError → ChangeFault → Type 0
IsCause refusal (Refused e) = refusal ≡ Some e
IsCause refusal NoMemory = Unit {0}
