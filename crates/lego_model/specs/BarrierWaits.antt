-- A wait for the reply to a barrier (OpenFlow 1.0.0, 4.2 Message Handling and 5.3.7 Barrier Message): what each message of the switch
-- is to it, and what is done with it. What a message is depends on its header and few fields of it: the type at 1 and the transaction id
-- at 4 (5.1 OpenFlow Header), the kind and code of an ERROR at 8 and 10 (5.4.4), and the reason of a FLOW_REMOVED at 58 (5.4.2).
-- What is done with each is our own choice.
use Rattle.std.specs.Prelude.{◌==◌, ℕ, ◌+◌, Bool, true, false, ◌&&◌, ◌||◌, nat_le, nat_lt, List, [], ◌∷◌, drop, if◌then◌else◌}
use Rattle.std.specs.List.{flat_map}
use Rattle.std.specs.Str.{bytes_eq}
use Rattle.of_types.specs.Fields.{number_at}
use Rattle.of_types.specs.declared.journal.Act.TheVariants.{Sent, Got}
use Rattle.of_wire.specs.declared.message.Message.TheVariants.{EchoReply, BarrierRequest, BarrierReply}
use Rattle.of_wire.specs.Spelling.{message_bytes}
use Rattle.outside.specs.declared.step.WorldStep.{WorldStep}
use Rattle.outside.specs.declared.step.WorldStep.TheVariants.{Acted}
use Rattle.lego_model.specs.declared.wait.Awaited.{Awaited}
use Rattle.lego_model.specs.declared.wait.Notices.{Notices}
use Rattle.lego_model.specs.declared.wait.Notices.TheVariants as notices
use Rattle.lego_model.specs.declared.wait.Refusal.{Refusal}
use Rattle.lego_model.specs.declared.wait.Heard.{Heard}
use Rattle.lego_model.specs.declared.wait.Heard.TheVariants.{Reply, Refused, Notice, Echo, Other}

-- ---- Transaction ids: 1, 2, .., and behind the last one 1 again

abbrev pub next_xid : ℕ → ℕ
next_xid xid = if xid == 4294967295 then 1 else xid + 1

-- ---- What a message is to a wait

-- how many messages without the reply to a barrier are too many
abbrev pub flood : ℕ
flood = 65536

-- the transaction ids from the first one up to the barrier's, which may begin anew from 1 on
abbrev pub is_awaited : Awaited → ℕ → Bool
is_awaited a xid =
    if nat_le a.first a.barrier then nat_le a.first xid && nat_lt xid a.barrier else nat_le a.first xid || nat_lt xid a.barrier

-- what an ERROR says
abbrev pub refusal_of : List ℕ → Refusal
refusal_of bytes = record { xid = number_at 4 4 bytes; error = record { kind = number_at 2 8 bytes; code = number_at 2 10 bytes } }

-- whether a notice of an entry that was deleted is no message as any other to it
abbrev pub is_apart : Notices → Bool
is_apart notices.Held = true
is_apart notices.Dropped = true
is_apart notices.Kept = false

-- ERROR is 1, ECHO_REQUEST 2, FLOW_REMOVED 11 with reason DELETE 2
unfoldable pub heard : Awaited → List ℕ → Heard
heard a bytes =
    if bytes_eq bytes (message_bytes a.barrier BarrierReply) then Reply
    else if number_at 1 1 bytes == 1 && is_awaited a (number_at 4 4 bytes) then Refused (refusal_of bytes)
    else if (number_at 1 1 bytes == 11 && number_at 1 58 bytes == 2) && is_apart a.notices then Notice
    else if number_at 1 1 bytes == 2 then Echo
    else Other

abbrev pub is_reply : Heard → Bool
is_reply Reply = true
is_reply _ = false

-- ---- What is done: an ECHO_REQUEST is answered at once (5.5.3 Echo Reply), and what is nothing to the wait is kept.

abbrev pub echo_reply : List ℕ → List ℕ
echo_reply bytes = message_bytes (number_at 4 4 bytes) (EchoReply (drop 8 bytes))

abbrev pub steps_by : ℕ → Heard → List ℕ → List WorldStep
steps_by d Echo bytes = Acted (Sent d (echo_reply bytes)) ∷ []
steps_by d _ bytes = []

abbrev pub kept_by : ℕ → Heard → List ℕ → List (ℕ × List ℕ)
kept_by d Other bytes = (d, bytes) ∷ []
kept_by d _ bytes = []

-- ---- Messages, one after the other

abbrev pub heard_steps : Awaited → List ℕ → List WorldStep
heard_steps a bytes = Acted (Got a.dpid bytes) ∷ steps_by a.dpid (heard a bytes) bytes

abbrev pub wait_steps : Awaited → List (List ℕ) → List WorldStep
wait_steps a got = flat_map (heard_steps a) got

abbrev pub kept_of : Awaited → List (List ℕ) → List (ℕ × List ℕ)
kept_of a got = flat_map (λ b. kept_by a.dpid (heard a b) b) got

-- ---- The barrier before the wait, and the reply that ends it

abbrev pub barrier_sent : Awaited → WorldStep
barrier_sent a = Acted (Sent a.dpid (message_bytes a.barrier BarrierRequest))

abbrev pub reply_got : Awaited → WorldStep
reply_got a = Acted (Got a.dpid (message_bytes a.barrier BarrierReply))
