-- What is got in a wait moves no switch, nor does the reply to an ECHO_REQUEST.
use Rattle.std.specs.Prelude.{◌≡◌, ◌==◌, ℕ, Bool, true, false, nat_lt, List, [], ◌∷◌, length, drop, Option, Some, None, Result, Ok, Err, if◌then◌else◌, refl}
use Rattle.std.proofs.Common.{sym, ap, ◌∙◌, subst, arith}
use Rattle.of_types.specs.Fields.{number_at}
use Rattle.of_types.specs.declared.journal.Act.TheVariants.{Got}
use Rattle.of_wire.specs.declared.kind.MessageKind.{MessageKind}
use Rattle.of_wire.specs.declared.kind.MessageKind.TheVariants as kinds
use Rattle.of_wire.specs.declared.fault.WireFault.{WireFault}
use Rattle.of_wire.specs.declared.fault.WireFault.TheVariants.{BadVersion, BadLength}
use Rattle.of_wire.specs.declared.message.Message.TheVariants.{EchoReply}
use Rattle.of_action.specs.Reading.{◌>>=◌}
use Rattle.of_wire.specs.Kinds.{kind_of_number}
use Rattle.of_wire.specs.Reading.{has_length, if_sized, front_of, body_of, reading_of}
use Rattle.of_wire.specs.Spelling.{body_bytes, message_bytes}
use Rattle.flow_table.specs.Switch.{SwitchState}
use Rattle.flow_table.specs.Refusals.{message_refusal}
use Rattle.flow_table.specs.Step.{after_taken, after_message}
use Rattle.outside.specs.declared.step.WorldStep.TheVariants.{Acted}
use Rattle.outside.specs.State.{State, after_step, after_steps, switch_of, switch_told}
use Rattle.outside.specs.laws.LinkLaws.{switch_of-sent, switch_of-got}
use Rattle.outside.specs.laws.StateLaws.{after_steps-append}
use Rattle.lego_model.specs.Journal.{packet_read}
use Rattle.lego_model.specs.declared.wait.Awaited.{Awaited}
use Rattle.lego_model.specs.declared.wait.Heard.{Heard}
use Rattle.lego_model.specs.declared.wait.Heard.TheVariants as hearing
use Rattle.lego_model.specs.BarrierWaits.{heard, echo_reply, steps_by, heard_steps, wait_steps}
use Rattle.net_txn.specs.laws.NoticeLaws.{kind_of_header}

-- ---- An ECHO_REPLY (3) moves no switch, and bytes that are no message move none.

abbrev pub some_switch : SwitchState → Option SwitchState
some_switch x = Some x

-- the front of bytes of that type is an ECHO_REPLY's, or there is a fault
record IsReplyFront (read : Result MessageKind WireFault) : Type 0 where
  reply : (kind : MessageKind) → read ≡ Ok kind → kind ≡ kinds.EchoReply

abbrev front_read : Result MessageKind WireFault → MessageKind
front_read (Ok kind) = kind
front_read (Err fault) = kinds.EchoReply

front_fault : (fault : WireFault) → IsReplyFront (Err fault)
front_fault fault = record { reply = λ kind e. absurd cc }

front_reply : IsReplyFront (Ok kinds.EchoReply)
front_reply = record { reply = λ kind e. sym (ap front_read e) }

front_if : (b : Bool) (x y : Result MessageKind WireFault) → IsReplyFront x → IsReplyFront y → IsReplyFront (if b then x else y)
front_if true x y first second = first
front_if false x y first second = second

front_sized : (bytes : List ℕ) → IsReplyFront (if_sized bytes (Some kinds.EchoReply))
front_sized bytes = front_if (number_at 2 2 bytes == length bytes) _ _ (front_if (has_length kinds.EchoReply (length bytes)) _ _ front_reply (front_fault BadLength)) (front_fault BadLength)

front_kind : (bytes : List ℕ) (kind : Option MessageKind) → kind ≡ Some kinds.EchoReply → IsReplyFront (if_sized bytes kind)
front_kind bytes kind is = subst (λ (o : Option MessageKind). IsReplyFront (if_sized bytes o)) (sym is) (front_sized bytes)

third : kind_of_number 3 ≡ Some kinds.EchoReply
unfolding kind_of_number
third = refl

front_is : (bytes : List ℕ) → number_at 1 1 bytes ≡ 3 → IsReplyFront (front_of bytes)
unfolding front_of
front_is bytes is =
    front_if (nat_lt (length bytes) 8) _ _ (front_fault BadLength)
    (front_if (number_at 1 0 bytes == 1) _ _ (front_kind bytes (kind_of_number (number_at 1 1 bytes)) (ap kind_of_number is ∙ third)) (front_fault BadVersion))

echo_stays : (payload : List ℕ) (s : SwitchState) → after_message (EchoReply payload) s ≡ s
unfolding after_message message_refusal after_taken
echo_stays payload s = refl

told_echo : (bytes : List ℕ) (o : Option SwitchState) → switch_told (body_of kinds.EchoReply bytes >>= λ message. Ok (record { xid = number_at 4 4 bytes; message = message })) o ≡ o
unfolding body_of
told_echo bytes None = refl
told_echo bytes (Some s) = ap (λ (x : SwitchState). some_switch x) (echo_stays (drop 8 bytes) s)

told_front : (bytes : List ℕ) (o : Option SwitchState) (front : Result MessageKind WireFault) → IsReplyFront front
    → switch_told (front >>= λ kind. body_of kind bytes >>= λ message. Ok (record { xid = number_at 4 4 bytes; message = message })) o ≡ o
told_front bytes o (Err fault) is = refl
told_front bytes o (Ok kind) is =
    subst (λ (k : MessageKind). switch_told (body_of k bytes >>= λ message. Ok (record { xid = number_at 4 4 bytes; message = message })) o ≡ o) (sym (is.reply kind refl)) (told_echo bytes o)

told_stays : (bytes : List ℕ) (o : Option SwitchState) → number_at 1 1 bytes ≡ 3 → switch_told (reading_of bytes) o ≡ o
unfolding reading_of
told_stays bytes o is = told_front bytes o (front_of bytes) (front_is bytes is)

reply_type : (bytes : List ℕ) → number_at 1 1 (echo_reply bytes) ≡ 3
unfolding message_bytes body_bytes
reply_type bytes = kind_of_header 3 _ (number_at 4 4 bytes) (body_bytes (EchoReply (drop 8 bytes))) (omega arith)

-- it is no packet that is released

packet_echo : (d : ℕ) (bytes : List ℕ) → packet_read d (body_of kinds.EchoReply bytes >>= λ message. Ok (record { xid = number_at 4 4 bytes; message = message })) ≡ None
unfolding body_of
packet_echo d bytes = refl

packet_front : (d : ℕ) (bytes : List ℕ) (front : Result MessageKind WireFault) → IsReplyFront front → packet_read d (front >>= λ kind. body_of kind bytes >>= λ message. Ok (record { xid = number_at 4 4 bytes; message = message })) ≡ None
packet_front d bytes (Err fault) is = refl
packet_front d bytes (Ok kind) is =
    subst (λ (k : MessageKind). packet_read d (body_of k bytes >>= λ message. Ok (record { xid = number_at 4 4 bytes; message = message })) ≡ None) (sym (is.reply kind refl)) (packet_echo d bytes)

read_none : (d : ℕ) (bytes : List ℕ) → number_at 1 1 bytes ≡ 3 → packet_read d (reading_of bytes) ≡ None
unfolding reading_of
read_none d bytes is = packet_front d bytes (front_of bytes) (front_is bytes is)

pub echo_none : (d : ℕ) (bytes : List ℕ) → packet_read d (reading_of (echo_reply bytes)) ≡ None
echo_none d bytes = read_none d (echo_reply bytes) (reply_type bytes)

-- ---- Nor does what is got in a wait.

echoed : (d : ℕ) (h : Heard) (bytes : List ℕ) (t : State) → switch_of d (after_steps (steps_by d h bytes) t) ≡ switch_of d t
echoed d hearing.Reply bytes t = refl
echoed d (hearing.Refused r) bytes t = refl
echoed d hearing.Notice bytes t = refl
echoed d hearing.Echo bytes t = switch_of-sent d (echo_reply bytes) t ∙ told_stays (echo_reply bytes) (switch_of d t) (reply_type bytes)
echoed d hearing.Other bytes t = refl

pub heard_switch : (a : Awaited) (bytes : List ℕ) (t : State) → switch_of a.dpid (after_steps (heard_steps a bytes) t) ≡ switch_of a.dpid t
heard_switch a bytes t = echoed a.dpid (heard a bytes) bytes (after_step (Acted (Got a.dpid bytes)) t) ∙ switch_of-got a.dpid bytes t

pub wait_switch : (a : Awaited) (got : List (List ℕ)) (t : State) → switch_of a.dpid (after_steps (wait_steps a got) t) ≡ switch_of a.dpid t
wait_switch a [] t = refl
wait_switch a (b ∷ bs) t =
    ap (switch_of a.dpid) (after_steps-append (heard_steps a b) (wait_steps a bs) t)
    ∙ wait_switch a bs (after_steps (heard_steps a b) t)
    ∙ heard_switch a b t
