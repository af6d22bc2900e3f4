-- What a frame and a packet leave of a switch: its rows, and what its ports are described as.
use Rattle.std.proofs.Common.{◌≡◌, ◌==◌, ℕ, zero, suc, Bool, not, ◌&&◌, List, [], ◌∷◌, length, get_or, set, map, Option, Some, None, if◌then◌else◌, refl, sym, ap, ap₂, ◌∙◌, subst, inl, inr}
use Rattle.std.proofs.lemmas.Bool.{cases_Bool}
use Rattle.std.proofs.lemmas.List.{get_or_default}
use Rattle.of_types.specs.declared.errors.OfError.{OfError}
use Rattle.of_types.specs.declared.port_desc.PortDesc.{PortDesc}
use Rattle.of_match.specs.declared.packet_key.PacketKey.{PacketKey}
use Rattle.of_wire.specs.declared.bodies.PacketOut.{PacketOut as Packet}
use Rattle.of_wire.specs.declared.message.Message.TheVariants.{PacketOut}
use Rattle.eth_key.specs.PacketFields.{key_of}
use Rattle.flow_table.specs.declared.entry.Entry.{Entry}
use Rattle.flow_table.specs.Table.{TableState, IsTable}
use Rattle.flow_table.specs.Hit.{best, counted, hit}
use Rattle.flow_table.specs.laws.HitLaws.{Contains-best, hit-set, hit-none, cases_Option, IsTable-hit}
use Rattle.flow_table.specs.Change.{unless_refused}
use Rattle.flow_table.specs.Refusals.{message_refusal}
use Rattle.flow_table.specs.Switch.{Declared, PortState, SwitchState, is_down, has_no_fwd, port_at, port_desc}
use Rattle.flow_table.specs.Frames.{goes_out_by, after_frame_out, ports_after_output, after_output, after_outputs, hit_outputs, entry_hit, after_counts, after_lookup, after_packet_output, after_packet_outputs, after_packet_out, takes, after_frame_in, after_arrival, after_frame}
use Rattle.flow_table.specs.Step.{after_taken, after_message}
use Rattle.lego_model.specs.Answers.{rows_of_table}
use Rattle.lego_model.specs.Controller.{ports_of}
use Rattle.switch_laws.specs.Standing.{FaceKept}

pub face-same : (s : SwitchState) → FaceKept s s
face-same s = record { declared = refl; ports = λ n. refl; rows = refl }

face-then : (a b c : SwitchState) → FaceKept a b → FaceKept b c → FaceKept a c
face-then a b c first second = record { declared = second.declared ∙ first.declared; ports = λ n. second.ports n ∙ first.ports n; rows = second.rows ∙ first.rows }

record SameDesc (g : PortState → PortState) : Type 0 where
  desc : (n : ℕ) (p : PortState) → port_desc n (g p) ≡ port_desc n p

desc-map : (g : PortState → PortState) → SameDesc g → (n : ℕ) (ps : List PortState) → map (port_desc n) (map g ps) ≡ map (port_desc n) ps
desc-map g same n [] = refl
desc-map g same n (p ∷ ps) = ap₂ (λ (x : PortDesc) xs. x ∷ xs) (same.desc n p) (desc-map g same n ps)

desc-some : (test : PortState → Bool) (g : PortState → PortState) → SameDesc g → SameDesc (λ p. if test p then g p else p)
desc-some test g same = record { desc = λ n p. elim (cases_Bool (test p)) [ inl passes ↦ rw passes (same.desc n p) | inr fails ↦ rw fails refl ] }

abbrev pub goes : PortState → Bool
goes p = p.link && not (is_down p) && not (has_no_fwd p)

desc-frame_out : (len : ℕ) → SameDesc (after_frame_out len)
unfolding after_frame_out
desc-frame_out len = record { desc = λ n p. elim (cases_Bool (goes p)) [ inl sent ↦ rw sent refl | inr dropped ↦ rw dropped refl ] }

desc-frame_in : (len : ℕ) → SameDesc (after_frame_in len)
desc-frame_in len = record { desc = λ n p. refl }

face-ports : (g : PortState → PortState) → SameDesc g → (s : SwitchState) → FaceKept s (record s { ports = map g s.ports })
face-ports g same s = record { declared = refl; ports = λ n. desc-map g same n s.ports; rows = refl }

face-output : (in_port : ℕ) (out : ℕ × List ℕ) (s : SwitchState) → FaceKept s (after_output in_port out s)
unfolding ports_after_output
face-output in_port out s = face-ports (λ p. if goes_out_by in_port out.0 p then after_frame_out (length out.1) p else p) (desc-some (goes_out_by in_port out.0) (after_frame_out (length out.1)) (desc-frame_out (length out.1))) s

face-outputs : (in_port : ℕ) (outs : List (ℕ × List ℕ)) (s : SwitchState) → FaceKept s (after_outputs in_port outs s)
unfolding after_outputs
face-outputs in_port [] s = face-same s
face-outputs in_port (out ∷ outs) s =
    let next = after_output in_port out s in
    face-then s next (after_outputs in_port outs next) (face-output in_port out s) (face-outputs in_port outs next)

rows-set : (es : List Entry) (i : ℕ) (e : Entry) → (get_or es i e).key ≡ e.key → (get_or es i e).actions ≡ e.actions → rows_of_table (set es i e) ≡ rows_of_table es
rows-set [] i e key actions = refl
rows-set (f ∷ fs) zero e key actions = ap₂ (λ k a. (k, a) ∷ rows_of_table fs) (sym key) (sym actions)
rows-set (f ∷ fs) (suc i) e key actions = ap (λ rs. (f.key, f.actions) ∷ rs) (rows-set fs i e key actions)

rows-hit : (k : PacketKey) (len now : ℕ) (es : List Entry) → IsTable es → rows_of_table (hit k len now es) ≡ rows_of_table es
rows-hit k len now es is =
    elim (cases_Option (best k es)) [
      | inl none ↦ ap rows_of_table (hit-none k len now es none)
      | inr (e, found) ↦
          let (i, within, here) = Contains-best k es e found in
          let c : Entry = counted len now e in
          let there : get_or es i c ≡ e = get_or_default es i c e within ∙ here in
          ap rows_of_table (hit-set k len now es i e is found within here) ∙ rows-set es i c (ap (λ x. x.key) there) (ap (λ x. x.actions) there)
    ]

face-lookup : (in_port : ℕ) (frame : List ℕ) (s : SwitchState) → IsTable s.table.entries → FaceKept s (after_lookup in_port frame s)
unfolding after_lookup after_counts
face-lookup in_port frame s is =
    let counts = after_counts in_port frame s in
    face-then s counts (after_lookup in_port frame s)
    (record { declared = refl; ports = λ n. refl; rows = rows-hit (key_of in_port frame) (length frame) s.moment s.table.entries is })
    (face-outputs in_port (hit_outputs (entry_hit in_port frame s) frame) counts)

pub face-frame : (port : ℕ) (bytes : List ℕ) (s : SwitchState) → IsTable s.table.entries → FaceKept s (after_frame port bytes s)
unfolding after_frame
face-frame port bytes s is =
    elim (cases_Bool (takes (port_at port s.ports))) [
      | inl taken ↦
          let arrived : SwitchState = after_arrival port bytes s in
          rw taken
          (face-then s arrived (after_lookup port bytes arrived)
          (face-ports (λ p. if p.number == port then after_frame_in (length bytes) p else p) (desc-some (λ p. p.number == port) (after_frame_in (length bytes)) (desc-frame_in (length bytes))) s)
          (face-lookup port bytes arrived is))
      | inr dropped ↦ rw dropped (face-same s)
    ]

-- ---- A packet: what goes to TABLE is looked up as a frame is

outputs-table : (in_port : ℕ) (outs : List (ℕ × List ℕ)) (s : SwitchState) → (after_outputs in_port outs s).table ≡ s.table
unfolding after_outputs
outputs-table in_port [] s = refl
outputs-table in_port (out ∷ outs) s = outputs-table in_port outs (after_output in_port out s)

counts-table : (in_port : ℕ) (frame : List ℕ) (s : SwitchState) → IsTable s.table.entries → IsTable (after_counts in_port frame s).table.entries
unfolding after_counts
counts-table in_port frame s is = IsTable-hit (key_of in_port frame) _ s.moment s.table.entries is

lookup-table : (in_port : ℕ) (frame : List ℕ) (s : SwitchState) → IsTable s.table.entries → IsTable (after_lookup in_port frame s).table.entries
unfolding after_lookup
lookup-table in_port frame s is =
    subst (λ (t : TableState). IsTable t.entries) (sym (outputs-table in_port (hit_outputs (entry_hit in_port frame s) frame) (after_counts in_port frame s))) (counts-table in_port frame s is)

packet_output-table : (in_port : ℕ) (out : ℕ × List ℕ) (s : SwitchState) → IsTable s.table.entries → IsTable (after_packet_output in_port out s).table.entries
unfolding after_packet_output
packet_output-table in_port out s is =
    elim (cases_Bool (out.0 == 0xfff9)) [
      | inl table ↦ rw table (lookup-table in_port out.1 s is)
      | inr other ↦ rw other is
    ]

face-packet_output : (in_port : ℕ) (out : ℕ × List ℕ) (s : SwitchState) → IsTable s.table.entries → FaceKept s (after_packet_output in_port out s)
unfolding after_packet_output
face-packet_output in_port out s is =
    elim (cases_Bool (out.0 == 0xfff9)) [
      | inl table ↦ rw table (face-lookup in_port out.1 s is)
      | inr other ↦ rw other (face-output in_port out s)
    ]

face-packet_outputs : (in_port : ℕ) (outs : List (ℕ × List ℕ)) (s : SwitchState) → IsTable s.table.entries → FaceKept s (after_packet_outputs in_port outs s)
unfolding after_packet_outputs
face-packet_outputs in_port [] s is = face-same s
face-packet_outputs in_port (out ∷ outs) s is =
    let next = after_packet_output in_port out s in
    face-then s next (after_packet_outputs in_port outs next) (face-packet_output in_port out s is) (face-packet_outputs in_port outs next (packet_output-table in_port out s is))

face-unless : (o : Option OfError) (before after : SwitchState) → FaceKept before after → FaceKept before (unless_refused o before after)
face-unless None before after face = face
face-unless (Some e) before after face = face-same before

pub face-packet : (p : Packet) (s : SwitchState) → IsTable s.table.entries → FaceKept s (after_message (PacketOut p) s)
unfolding after_message after_taken
face-packet p s is = face-unless (message_refusal s (PacketOut p)) s (after_packet_out p s) (face-packet_outputs p.in_port _ s is)

-- ports that are described alike are known alike
pub face-ports_of : (before now : SwitchState) → FaceKept before now → ports_of now ≡ ports_of before
face-ports_of before now face = ap (λ (d : Declared). map (port_desc d.dpid) now.ports) face.declared ∙ face.ports before.declared.dpid
