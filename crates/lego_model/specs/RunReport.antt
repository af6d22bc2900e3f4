-- The report of a whole run: what the controller prints, a line for each fact, in the order in which the reference controller makes them.
-- This text form is our own.
use Rattle.std.specs.Prelude.{ℕ, zero, suc, Bool, true, false, List, [], ◌∷◌, ◌++◌, length, codes, Option, Some, None, if◌then◌else◌}
use Rattle.std.specs.List.{flat_map}
use Rattle.std.specs.Fmt.{decimal}
use Rattle.hex.specs.Hex.{encode_lower}
use Rattle.of_action.specs.declared.action.Action.{Action}
use Rattle.of_action.specs.Spelling.{list_bytes}
use Rattle.of_stats.specs.declared.flow_row.FlowRow.{FlowRow}
use Rattle.flow_table.specs.declared.entry.Entry.{Entry}
use Rattle.flow_table.specs.Switch.{SwitchState}
use Rattle.flow_table.specs.Statistics.{flow_row}
use Rattle.app_frames.specs.declared.frame.EventKind.{EventKind}
use Rattle.app_frames.specs.declared.frame.EventKind.TheVariants as events
use Rattle.app_frames.specs.declared.fault.FrameFault.{FrameFault}
use Rattle.app_frames.specs.declared.fault.FrameFault.TheVariants.{TooLong, BadKind, BadBody}
use Rattle.app_frames.specs.declared.cause.Cause.{Cause}
use Rattle.app_frames.specs.declared.cause.Cause.TheVariants as causes
use Rattle.app_frames.specs.declared.cause.Tried.{Tried}
use Rattle.app_frames.specs.declared.cause.Tried.TheVariants as tried
use Rattle.of_match.specs.declared.key.Key.{Key}
use Rattle.of_match.specs.Match.{fields_in}
use Rattle.of_match.specs.Text.{match_text}
use Rattle.lego_model.specs.Turns.{Outcome, Completed, Failed as FailedBy}
use Rattle.lego_model.specs.Places.{Place}
use Rattle.lego_model.specs.Controller.{App, Line, Started, IsGone, Dispatched, Ended, EndedInstead, Grouped, Out, Lost, Run, is_last_lost}
use Rattle.lego_model.specs.declared.turn.TurnWord.{TurnWord}
use Rattle.lego_model.specs.declared.turn.TurnWord.TheVariants.{Done, Stop, Failed}

-- ---- Words

abbrev pub tried_word : Tried → List ℕ
tried_word tried.Ready = codes "ready"
tried_word tried.Refused = codes "refused"
tried_word tried.Closed = codes "closed"
tried_word tried.Silent = codes "silent"
tried_word tried.Garbled = codes "garbled"

abbrev pub fault_word : FrameFault → List ℕ
fault_word TooLong = codes "garbled long"
fault_word BadKind = codes "garbled kind"
fault_word BadBody = codes "garbled body"

abbrev pub cause_words : Cause → List ℕ
cause_words causes.Closed = codes "closed"
cause_words causes.Silent = codes "silent"
cause_words (causes.Garbled fault) = fault_word fault
cause_words causes.Budget = codes "budget"
cause_words causes.Depth = codes "depth"
cause_words causes.Unbalanced = codes "unbalanced"
cause_words causes.Judged = codes "judged"

abbrev pub kind_word : EventKind → List ℕ
kind_word events.Join = codes "join"
kind_word events.Leave = codes "leave"
kind_word events.PacketIn = codes "packet_in"
kind_word events.FlowRemoved = codes "flow_removed"
kind_word events.PortStatus = codes "port_status"
kind_word events.SwitchError = codes "error"

abbrev pub turn_words : TurnWord → List ℕ
turn_words Done = codes "done"
turn_words Stop = codes "stop"
turn_words (Failed cause) = codes "failed " ++ cause_words cause

abbrev pub alive_word : Bool → List ℕ
alive_word true = codes "alive"
alive_word false = codes "dead"

abbrev pub kept_word : Bool → List ℕ
kept_word true = codes "kept"
kept_word false = codes "undone"

-- ---- Lines

-- a line ends by one LF
unfoldable pub line_of : List ℕ → List ℕ
line_of text = text ++ 10 ∷ []

-- `start APP WORD`
unfoldable pub start_line : List ℕ → Tried → List ℕ
start_line app how = line_of (codes "start " ++ app ++ codes " " ++ tried_word how)

-- `gone APP`
unfoldable pub gone_line : List ℕ → List ℕ
gone_line app = line_of (codes "gone " ++ app)

-- `event N KIND DPID`
unfoldable pub event_line : ℕ → EventKind → ℕ → List ℕ
event_line number kind dpid = line_of (codes "event " ++ decimal number ++ codes " " ++ kind_word kind ++ codes " " ++ decimal dpid)

-- `turn APP done`, `turn APP stop` or `turn APP failed CAUSE`
unfoldable pub turn_line : List ℕ → TurnWord → List ℕ
turn_line app word = line_of (codes "turn " ++ app ++ codes " " ++ turn_words word)

-- `instead APP KIND DPID done`, `instead APP KIND DPID stop` or `instead APP KIND DPID failed CAUSE`
unfoldable pub instead_line : List ℕ → EventKind → ℕ → TurnWord → List ℕ
instead_line app kind dpid word = line_of (codes "instead " ++ app ++ codes " " ++ kind_word kind ++ codes " " ++ decimal dpid ++ codes " " ++ turn_words word)

-- `group APP kept` or `group APP undone`
unfoldable pub group_line : List ℕ → Bool → List ℕ
group_line app kept = line_of (codes "group " ++ app ++ codes " " ++ kept_word kept)

-- `out DPID LEN`
unfoldable pub out_line : ℕ → ℕ → List ℕ
out_line dpid size = line_of (codes "out " ++ decimal dpid ++ codes " " ++ decimal size)

-- `lost DPID`
unfoldable pub lost_line : ℕ → List ℕ
lost_line dpid = line_of (codes "lost " ++ decimal dpid)

-- `switch DPID flows N`
unfoldable pub switch_line : ℕ → ℕ → List ℕ
switch_line dpid flows = line_of (codes "switch " ++ decimal dpid ++ codes " flows " ++ decimal flows)

-- `flow PRIORITY MATCH`
unfoldable pub flow_head : Key → List ℕ
flow_head k = codes "flow " ++ decimal k.priority ++ codes " " ++ match_text (fields_in k.matching)

-- ` cookie=C`
unfoldable pub cookie_text : ℕ → List ℕ
cookie_text cookie = codes " cookie=" ++ decimal cookie

-- ` idle=I hard=H flags=F`
unfoldable pub terms_text : FlowRow → ℕ → List ℕ
terms_text row flags = codes " idle=" ++ decimal row.idle ++ codes " hard=" ++ decimal row.hard ++ codes " flags=" ++ decimal flags

-- ` packets=P bytes=B age=A`
unfoldable pub counts_text : FlowRow → List ℕ
counts_text row = codes " packets=" ++ decimal row.packets ++ codes " bytes=" ++ decimal row.bytes ++ codes " age=" ++ decimal row.duration_sec

abbrev pub dash_or : List ℕ → List ℕ
dash_or [] = codes "-"
dash_or (byte ∷ bytes) = encode_lower (byte ∷ bytes)

-- ` actions=HEX`, or a dash for no actions
unfoldable pub actions_text : List Action → List ℕ
actions_text actions = codes " actions=" ++ dash_or (list_bytes actions)

-- `flow PRIORITY MATCH cookie=C idle=I hard=H flags=F packets=P bytes=B age=A actions=HEX`
unfoldable pub flow_line : FlowRow → ℕ → List ℕ
flow_line row flags = line_of (flow_head row.key ++ cookie_text row.cookie ++ terms_text row flags ++ counts_text row ++ actions_text row.actions)

-- `app NAME alive done D failed F`, or `dead` for one that is gone
unfoldable pub app_line : List ℕ → Bool → ℕ → ℕ → List ℕ
app_line app alive done failed =
    line_of (codes "app " ++ app ++ codes " " ++ alive_word alive ++ codes " done " ++ decimal done ++ codes " failed " ++ decimal failed)

-- `end MOMENT events E`
unfoldable pub end_line : ℕ → ℕ → List ℕ
end_line moment events = line_of (codes "end " ++ decimal moment ++ codes " events " ++ decimal events)

-- ---- The whole

-- the name of an application by its index
abbrev pub name_of : ℕ → List (List ℕ) → List ℕ
name_of i [] = []
name_of zero (name ∷ names) = name
name_of (suc i) (name ∷ names) = name_of i names

abbrev pub outcome_word : Outcome → TurnWord
outcome_word (Completed true checkpoint rest) = Stop
outcome_word (Completed false checkpoint rest) = Done
outcome_word (FailedBy cause) = Failed cause

abbrev pub line_text : List (List ℕ) → Line → List ℕ
line_text names (Started i how) = start_line (name_of i names) how
line_text names (IsGone i) = gone_line (name_of i names)
line_text names (Dispatched number event) = event_line number event.kind event.dpid
line_text names (Ended i outcome) = turn_line (name_of i names) (outcome_word outcome)
line_text names (EndedInstead i event outcome) = instead_line (name_of i names) event.kind event.dpid (outcome_word outcome)
line_text names (Grouped i kept) = group_line (name_of i names) kept
line_text names (Out dpid size) = out_line dpid size
line_text names (Lost dpid) = lost_line dpid

-- an entry with the flags of its owner
abbrev pub entry_text : ℕ → Entry → List ℕ
entry_text moment e = flow_line (flow_row moment e) e.flags

abbrev pub switch_text : Option SwitchState → List ℕ
switch_text None = []
switch_text (Some s) = switch_line s.declared.dpid (length s.table.entries) ++ flat_map (entry_text s.moment) s.table.entries

-- of one that is lost when it is asked for its rows, that alone
abbrev pub place_text : Run → Place → List ℕ
place_text run p = if is_last_lost run p then lost_line p.declared.dpid else switch_text p.switch

abbrev pub apps_text : List (List ℕ) → List App → List ℕ
apps_text (name ∷ names) (a ∷ more) = app_line name a.alive a.done a.failed ++ apps_text names more
apps_text names apps = []

-- what happened, then the joined switches by number with their flow entries in key order, the applications, and the end
unfoldable pub run_report : List (List ℕ) → Run → List ℕ
run_report names run =
    flat_map (line_text names) run.lines ++ flat_map (place_text run) run.places ++ apps_text names run.apps ++ end_line run.moment run.events
