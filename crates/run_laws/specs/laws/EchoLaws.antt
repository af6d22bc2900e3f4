-- Bytes with another type than ECHO_REQUEST (2) are read as none (OpenFlow 1.0.0, 5.1 OpenFlow Header).
use Rattle.std.specs.Prelude.{◌≡◌, ◌==◌, ◌+◌, ℕ, Bool, true, false, nat_lt, List, [], length, drop, if◌then◌else◌, Option, Some, None, Result, Ok, Err}
use Rattle.std.proofs.Common.{refl, inl, inr, true≢false}
use Rattle.std.proofs.lemmas.Bool.{cases_Bool}
use Rattle.of_types.specs.Fields.{number_at, piece}
use Rattle.of_action.specs.declared.action.Action.{Action}
use Rattle.of_action.specs.Reading.{◌>>=◌, actions_of}
use Rattle.of_wire.specs.declared.kind.MessageKind.{MessageKind}
use Rattle.of_wire.specs.declared.kind.MessageKind.TheVariants as kinds
use Rattle.of_wire.specs.declared.message.Message.{Message}
use Rattle.of_wire.specs.declared.message.Message.TheVariants as messages
use Rattle.of_wire.specs.declared.bodies.FlowMod.{FlowMod as Change}
use Rattle.of_wire.specs.declared.bodies.PacketOut.{PacketOut as Packet}
use Rattle.of_wire.specs.declared.message.Envelope.{Envelope}
use Rattle.of_wire.specs.declared.fault.WireFault.{WireFault}
use Rattle.of_wire.specs.Kinds.{kind_of_number}
use Rattle.of_wire.specs.Reading.{has_length, if_sized, front_of, body_of, packet_out_of, flow_mod_of, of_actions, reading_of}
use Rattle.net_txn.specs.Arriving.{arrival_steps}
use Rattle.lego_model.specs.Echoes.{IsEcho, IsEchoRead}
use Rattle.batch_laws.specs.Items.{answers}
use Rattle.switch_laws.specs.laws.OrderlyLaws.{enveloped_as}

-- ---- The type

abbrev is_echo : MessageKind → Bool
is_echo kinds.EchoRequest = true
is_echo other = false

abbrev some_echo : Option MessageKind → Bool
some_echo None = false
some_echo (Some kind) = is_echo kind

other_kind : (b : Bool) (kind : MessageKind) (rest : Option MessageKind) → is_echo kind ≡ false → some_echo rest ≡ false → some_echo (if b then Some kind else rest) ≡ false
other_kind true kind rest is others = is
other_kind false kind rest is others = others

not_two : (b : Bool) (rest : Option MessageKind) → b ≡ false → some_echo rest ≡ false → some_echo (if b then Some kinds.EchoRequest else rest) ≡ false
not_two true rest not others = absurd (true≢false not)
not_two false rest not others = others

kind_other : (n : ℕ) → (n == 2) ≡ false → some_echo (kind_of_number n) ≡ false
unfolding kind_of_number
kind_other n not =
    other_kind (n == 0) kinds.Hello _ refl (other_kind (n == 1) kinds.Error _ refl (not_two (n == 2) _ not
    (other_kind (n == 3) kinds.EchoReply _ refl (other_kind (n == 4) kinds.Vendor _ refl (other_kind (n == 5) kinds.FeaturesRequest _ refl (other_kind (n == 6) kinds.FeaturesReply _ refl
    (other_kind (n == 7) kinds.GetConfigRequest _ refl (other_kind (n == 8) kinds.GetConfigReply _ refl (other_kind (n == 9) kinds.SetConfig _ refl (other_kind (n == 10) kinds.PacketIn _ refl
    (other_kind (n == 11) kinds.FlowRemoved _ refl (other_kind (n == 12) kinds.PortStatus _ refl (other_kind (n == 13) kinds.PacketOut _ refl (other_kind (n == 14) kinds.FlowMod _ refl
    (other_kind (n == 15) kinds.PortMod _ refl (other_kind (n == 16) kinds.StatsRequest _ refl (other_kind (n == 17) kinds.StatsReply _ refl (other_kind (n == 18) kinds.BarrierRequest _ refl
    (other_kind (n == 19) kinds.BarrierReply _ refl (other_kind (n == 20) kinds.QueueGetConfigRequest _ refl (other_kind (n == 21) kinds.QueueGetConfigReply None refl refl)))))))))))))))))))))

-- ---- The front

abbrev ok_echo : Result MessageKind WireFault → Bool
ok_echo (Ok kind) = is_echo kind
ok_echo (Err fault) = false

sized_other : (bytes : List ℕ) (kind : Option MessageKind) → some_echo kind ≡ false → ok_echo (if_sized bytes kind) ≡ false
sized_other bytes None is = refl
sized_other bytes (Some kind) is =
    elim (cases_Bool (number_at 2 2 bytes == length bytes)) [
      | inl whole ↦ elim (cases_Bool (has_length kind (length bytes))) [
        | inl has ↦ rw (whole, has) is
        | inr other ↦ rw (whole, other) refl
      ]
      | inr other ↦ rw other refl
    ]

front_other : (bytes : List ℕ) → (number_at 1 1 bytes == 2) ≡ false → ok_echo (front_of bytes) ≡ false
unfolding front_of
front_other bytes not =
    elim (cases_Bool (nat_lt (length bytes) 8)) [
      | inl short ↦ rw short refl
      | inr long ↦ elim (cases_Bool (number_at 1 0 bytes == 1)) [
        | inl version ↦ rw (long, version) (sized_other bytes (kind_of_number (number_at 1 1 bytes)) (kind_other (number_at 1 1 bytes) not))
        | inr other ↦ rw (long, other) refl
      ]
    ]

-- ---- The message

change_other : (xid : ℕ) (r : Result (List Action) WireFault) (f : List Action → Change) → IsEchoRead (enveloped_as xid (r >>= λ actions. Ok (messages.FlowMod (f actions)))) → ⊥
change_other xid (Ok actions) f is = is
change_other xid (Err fault) f is = is

packet_other : (xid : ℕ) (r : Result (List Action) WireFault) (f : List Action → Packet) → IsEchoRead (enveloped_as xid (r >>= λ actions. Ok (messages.PacketOut (f actions)))) → ⊥
packet_other xid (Ok actions) f is = is
packet_other xid (Err fault) f is = is

short_other : (xid : ℕ) (short : Bool) (r : Result (List Action) WireFault) (fault : WireFault) (f : List Action → Packet) → IsEchoRead (enveloped_as xid (if short then Err fault else (r >>= λ actions. Ok (messages.PacketOut (f actions))))) → ⊥
short_other xid true r fault f is = is
short_other xid false r fault f is = packet_other xid r f is

body_other : (xid : ℕ) (kind : MessageKind) (bytes : List ℕ) → is_echo kind ≡ false → IsEchoRead (enveloped_as xid (body_of kind bytes)) → ⊥
unfolding body_of flow_mod_of packet_out_of
body_other xid kinds.Hello bytes not is = is
body_other xid kinds.Error bytes not is = is
body_other xid kinds.EchoRequest bytes not is = true≢false not
body_other xid kinds.EchoReply bytes not is = is
body_other xid kinds.Vendor bytes not is = is
body_other xid kinds.FeaturesRequest bytes not is = is
body_other xid kinds.FeaturesReply bytes not is = is
body_other xid kinds.GetConfigRequest bytes not is = is
body_other xid kinds.GetConfigReply bytes not is = is
body_other xid kinds.SetConfig bytes not is = is
body_other xid kinds.PacketIn bytes not is = is
body_other xid kinds.FlowRemoved bytes not is = is
body_other xid kinds.PortStatus bytes not is = is
body_other xid kinds.PacketOut bytes not is = short_other xid (nat_lt (length bytes) (16 + number_at 2 14 bytes)) (of_actions (actions_of (piece (number_at 2 14 bytes) 16 bytes))) _ _ is
body_other xid kinds.FlowMod bytes not is = change_other xid (of_actions (actions_of (drop 72 bytes))) _ is
body_other xid kinds.PortMod bytes not is = is
body_other xid kinds.StatsRequest bytes not is = is
body_other xid kinds.StatsReply bytes not is = is
body_other xid kinds.BarrierRequest bytes not is = is
body_other xid kinds.BarrierReply bytes not is = is
body_other xid kinds.QueueGetConfigRequest bytes not is = is
body_other xid kinds.QueueGetConfigReply bytes not is = is

read_other : (xid : ℕ) (r : Result MessageKind WireFault) (bytes : List ℕ) → ok_echo r ≡ false → IsEchoRead (r >>= λ kind. enveloped_as xid (body_of kind bytes)) → ⊥
read_other xid (Ok kind) bytes not is = body_other xid kind bytes not is
read_other xid (Err fault) bytes not is = is

pub no-echo : (bytes : List ℕ) → (number_at 1 1 bytes == 2) ≡ false → IsEchoRead (reading_of bytes) → ⊥
unfolding reading_of
no-echo bytes not is = read_other (number_at 4 4 bytes) (front_of bytes) bytes (front_other bytes not) is

-- ---- So nothing is sent for it.

sent_none : (d xid : ℕ) (m : Message) → (IsEcho m → ⊥) → arrival_steps d xid m ≡ []
sent_none d xid (messages.EchoRequest payload) other = absurd (other tt)
sent_none d xid (messages.Hello payload) other = refl
sent_none d xid (messages.Error kind code payload) other = refl
sent_none d xid (messages.EchoReply payload) other = refl
sent_none d xid (messages.Vendor payload) other = refl
sent_none d xid messages.FeaturesRequest other = refl
sent_none d xid (messages.FeaturesReply features) other = refl
sent_none d xid messages.GetConfigRequest other = refl
sent_none d xid (messages.GetConfigReply config) other = refl
sent_none d xid (messages.SetConfig config) other = refl
sent_none d xid (messages.PacketIn packet) other = refl
sent_none d xid (messages.FlowRemoved flow) other = refl
sent_none d xid (messages.PortStatus status) other = refl
sent_none d xid (messages.PacketOut packet) other = refl
sent_none d xid (messages.FlowMod m) other = refl
sent_none d xid (messages.PortMod port) other = refl
sent_none d xid (messages.StatsRequest m) other = refl
sent_none d xid (messages.StatsReply m) other = refl
sent_none d xid messages.BarrierRequest other = refl
sent_none d xid messages.BarrierReply other = refl
sent_none d xid (messages.QueueGetConfigRequest payload) other = refl
sent_none d xid (messages.QueueGetConfigReply payload) other = refl

answers_none : (d : ℕ) (r : Result Envelope WireFault) → (IsEchoRead r → ⊥) → answers d r ≡ []
answers_none d (Ok e) other = sent_none d e.xid e.message other
answers_none d (Err fault) other = refl

pub no-answer : (d : ℕ) (bytes : List ℕ) → (number_at 1 1 bytes == 2) ≡ false → answers d (reading_of bytes) ≡ []
no-answer d bytes other = answers_none d (reading_of bytes) (no-echo bytes other)
