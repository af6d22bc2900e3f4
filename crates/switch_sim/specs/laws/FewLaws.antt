-- What follows about how many messages a stimulus sends: one an action of a frame, and one an entry of a moment.
use Rattle.std.proofs.Common.{◌≡◌, ◌==◌, ℕ, ◌*◌, ◌≤◌, ◌&&◌, Bool, true, false, List, [], ◌∷◌, length, Option, Some, None, Result, Ok, Err, IfOk, refl, arith, length-append}
use Rattle.std.specs.Prelude.{All}
use Rattle.std.proofs.lemmas.Bool.{cond_both}
use Rattle.std.proofs.lemmas.List.{length-map}
use Rattle.std.proofs.lemmas.List.Elements.{All-contains}
use Rattle.std.proofs.lemmas.List.Sums.{sum_by-cons}
use Rattle.of_types.specs.declared.journal.PortChange.{PortChange}
use Rattle.of_types.specs.declared.journal.PortChange.TheVariants as changes
use Rattle.of_types.specs.declared.journal.Stimulus.{Stimulus}
use Rattle.of_types.specs.declared.journal.Stimulus.TheVariants.{Frame, Advance, Port, Counts, Raw}
use Rattle.of_action.specs.declared.action.Action.{Action}
use Rattle.of_action.specs.declared.action.Action.TheVariants.{Output, SetVlanVid, SetVlanPcp, StripVlan, SetDlSrc, SetDlDst, SetNwSrc, SetNwDst, SetNwTos, SetTpSrc, SetTpDst, Enqueue, Vendor}
use Rattle.of_action.specs.Spelling.{action_size, list_size}
use Rattle.eth_key.specs.PacketFields.{key_of}
use Rattle.frame_edit.specs.Edits.{AreEdits, edited, output_of, outputs}
use Rattle.flow_table.specs.declared.entry.Entry.{Entry}
use Rattle.flow_table.specs.laws.TableLaws.{length-filter-le}
use Rattle.flow_table.specs.Change.{asks_notice}
use Rattle.flow_table.specs.laws.HitLaws.{Contains-best}
use Rattle.flow_table.specs.Expiry.{is_due, expiry_notices}
use Rattle.flow_table.specs.Switch.{PortState, SwitchState, controller_number, port_at, new_port}
use Rattle.flow_table.specs.Frames.{packet_in, sent_by_output, sent_by_outputs, is_silent, sent_by_miss, sent_by_hit, sent_by_lookup, entry_hit, takes, sent_by_frame}
use Rattle.flow_table.specs.Step.{flow_removed_bytes, same_bool, set_link, port_status, sent_by_link, can_add, sent_by_deletion, sent_by_port_change, sent_by_stimulus}
use Rattle.switch_sim.specs.laws.EditLaws.{least_size}
use Rattle.switch_sim.specs.laws.NoticeLaws.{length-expiry_notices}
use Rattle.switch_sim.specs.Sound.{IsEntryAt, IsSound}

-- ---- Actions

few_actions : (actions : List Action) → AreEdits actions → 8 * length actions ≤ list_size actions
few_actions [] edits = omega arith
few_actions (action ∷ actions) edits = omega (arith, least_size action edits.0, few_actions actions edits.1, sum_by-cons action_size action actions)

length-output_of : (action : Action) (frame : List ℕ) → length (output_of action frame) ≤ 1
length-output_of (Output port max_len) frame = omega arith
length-output_of (SetVlanVid vid) frame = omega arith
length-output_of (SetVlanPcp pcp) frame = omega arith
length-output_of StripVlan frame = omega arith
length-output_of (SetDlSrc address) frame = omega arith
length-output_of (SetDlDst address) frame = omega arith
length-output_of (SetNwSrc address) frame = omega arith
length-output_of (SetNwDst address) frame = omega arith
length-output_of (SetNwTos tos) frame = omega arith
length-output_of (SetTpSrc port) frame = omega arith
length-output_of (SetTpDst port) frame = omega arith
length-output_of (Enqueue port queue) frame = omega arith
length-output_of (Vendor body) frame = omega arith

length-outputs : (actions : List Action) (frame : List ℕ) → length (outputs actions frame) ≤ length actions
unfolding outputs
length-outputs [] frame = omega arith
length-outputs (action ∷ actions) frame =
    omega (arith, length-append (output_of action frame) (outputs actions (edited action frame)), length-output_of action frame, length-outputs actions (edited action frame))

-- ---- A frame

length-sent_by_output : (in_port : ℕ) (output : ℕ × List ℕ) → length (sent_by_output in_port output) ≤ 1
unfolding sent_by_output
length-sent_by_output in_port output =
    cond_both (output.0 == controller_number) (packet_in 1 in_port output.1 ∷ []) [] (λ (list : List (List ℕ)). length list ≤ 1) (λ _. omega arith) (λ _. omega arith)

length-sent_by_outputs : (in_port : ℕ) (sent : List (ℕ × List ℕ)) → length (sent_by_outputs in_port sent) ≤ length sent
unfolding sent_by_outputs
length-sent_by_outputs in_port [] = omega arith
length-sent_by_outputs in_port (output ∷ more) =
    omega (arith, length-append (sent_by_output in_port output) (sent_by_outputs in_port more), length-sent_by_output in_port output, length-sent_by_outputs in_port more)

length-sent_by_miss : (in_port : ℕ) (frame : List ℕ) (ports : List PortState) → length (sent_by_miss in_port frame ports) ≤ 1
unfolding sent_by_miss
length-sent_by_miss in_port frame ports =
    cond_both (is_silent (port_at in_port ports)) [] (packet_in 0 in_port frame ∷ []) (λ (list : List (List ℕ)). length list ≤ 1) (λ _. omega arith) (λ _. omega arith)

-- an entry has so few actions
few_of_entry : (moment in_port : ℕ) (e : Entry) (frame : List ℕ) → IsEntryAt moment e → length (sent_by_outputs in_port (outputs e.actions frame)) ≤ 8179
few_of_entry moment in_port e frame is =
    omega (arith, length-sent_by_outputs in_port (outputs e.actions frame), length-outputs e.actions frame, few_actions e.actions is.edits, is.size)

few_of_hit : (moment in_port : ℕ) (frame : List ℕ) (ports : List PortState) (o : Option Entry) → ((e : Entry) → o ≡ Some e → IsEntryAt moment e) → length (sent_by_hit in_port frame ports o) ≤ 8179
few_of_hit moment in_port frame ports None each = omega (arith, length-sent_by_miss in_port frame ports)
few_of_hit moment in_port frame ports (Some e) each = few_of_entry moment in_port e frame (each e refl)

few_of_lookup : (in_port : ℕ) (frame : List ℕ) (s : SwitchState) → All (IsEntryAt s.moment) s.table.entries → length (sent_by_lookup in_port frame s) ≤ 8179
unfolding sent_by_lookup
few_of_lookup in_port frame s all =
    let k = key_of in_port frame in
    few_of_hit s.moment in_port frame s.ports (entry_hit in_port frame s)
    (λ e found. All-contains (IsEntryAt s.moment) s.table.entries e all (Contains-best k s.table.entries e found))

few_of_frame : (in_port : ℕ) (frame : List ℕ) (s : SwitchState) → All (IsEntryAt s.moment) s.table.entries → length (sent_by_frame in_port frame s) ≤ 8179
unfolding sent_by_frame
few_of_frame in_port frame s all =
    cond_both (takes (port_at in_port s.ports)) (sent_by_lookup in_port frame s) [] (λ (list : List (List ℕ)). length list ≤ 8179) (λ _. few_of_lookup in_port frame s all) (λ _. omega arith)

-- ---- A moment: at most one message an entry

pub few_of_moment : (moment : ℕ) (s : SwitchState) → length (sent_by_stimulus (Advance moment) s) ≤ length s.table.entries
unfolding sent_by_stimulus
few_of_moment moment s =
    let es = s.table.entries in
    omega (arith, length-map (expiry_notices moment es) flow_removed_bytes, length-expiry_notices moment es, length-filter-le (λ e. is_due moment e && asks_notice e.flags) es)

-- ---- A port

few_of_link : (up : Bool) (dpid : ℕ) (o : Option PortState) → length (sent_by_link up dpid o) ≤ 1
few_of_link up dpid None = omega arith
few_of_link up dpid (Some p) =
    cond_both (same_bool p.link up) [] (port_status 2 dpid (set_link up p) ∷ []) (λ (list : List (List ℕ)). length list ≤ 1) (λ _. omega arith) (λ _. omega arith)

few_of_deletion : (dpid : ℕ) (o : Option PortState) → length (sent_by_deletion dpid o) ≤ 1
few_of_deletion dpid None = omega arith
few_of_deletion dpid (Some p) = omega arith

few_of_port_change : (number : ℕ) (change : PortChange) (s : SwitchState) → length (sent_by_port_change number change s) ≤ 1
unfolding sent_by_port_change
few_of_port_change number changes.Up s = few_of_link true s.declared.dpid (port_at number s.ports)
few_of_port_change number changes.Down s = few_of_link false s.declared.dpid (port_at number s.ports)
few_of_port_change number changes.Add s =
    cond_both (can_add number s.ports) (port_status 0 s.declared.dpid (new_port number) ∷ []) [] (λ (list : List (List ℕ)). length list ≤ 1) (λ _. omega arith) (λ _. omega arith)
few_of_port_change number changes.Delete s = few_of_deletion s.declared.dpid (port_at number s.ports)

-- ---- A stimulus

pub few_of_stimulus : (x : Stimulus) (s : SwitchState) → IsSound s.declared.cap s.moment s.table.entries s.ports → s.declared.cap ≤ 4096 → length (sent_by_stimulus x s) ≤ 8192
unfolding sent_by_stimulus
few_of_stimulus (Frame port bytes) s sound few = omega (arith, few_of_frame port bytes s sound.entries)
few_of_stimulus (Advance moment) s sound few = omega (arith, few_of_moment moment s, sound.few)
few_of_stimulus (Port port change) s sound few = omega (arith, few_of_port_change port change s)
few_of_stimulus (Counts priority packets bytes) s sound few = omega arith
few_of_stimulus (Raw bytes) s sound few = omega arith

-- what a call sends, by the definitions
pub few_sent : {E : Type 0} (r : Result (List (List ℕ)) E) (x : Stimulus) (s : SwitchState) → IsSound s.declared.cap s.moment s.table.entries s.ports → s.declared.cap ≤ 4096
    → IfOk r (λ list. list ≡ sent_by_stimulus x s) → IfOk r (λ list. length list ≤ 8192)
few_sent (Ok list) x s sound few is = rw is (few_of_stimulus x s sound few)
few_sent (Err e) x s sound few is = tt

pub few_due : {E : Type 0} (r : Result (List (List ℕ)) E) (moment : ℕ) (s : SwitchState) → IsSound s.declared.cap s.moment s.table.entries s.ports
    → IfOk r (λ list. list ≡ sent_by_stimulus (Advance moment) s) → IfOk r (λ list. length list ≤ s.declared.cap)
few_due (Ok list) moment s sound is = rw is (omega (arith, few_of_moment moment s, sound.few))
few_due (Err e) moment s sound is = tt
