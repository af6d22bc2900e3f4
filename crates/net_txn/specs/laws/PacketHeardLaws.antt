-- What a switch sends for a packet: PACKET_INs, or one ERROR (OpenFlow 1.0.0, 5.4.1 Packet-In Message and 5.4.4 Error Message). A wait keeps
-- each of them, and each becomes an event, whatever the transaction id was.
use Rattle.std.specs.Prelude.{◌≡◌, ◌==◌, ◌⊎◌, ℕ, ◌<◌, ◌^◌, Bool, true, false, ◌&&◌, nat_le, nat_lt, List, [], ◌∷◌, ◌++◌, length, take, map, Option, Some, None, Ok, Err, refl}
use Rattle.std.specs.List.{AllByRecursion, flat_map, cons_option}
use Rattle.std.specs.Str.{bytes_eq}
use Rattle.std.proofs.Common.{sym, ap, ◌∙◌, subst, append_assoc, inl, inr, arith}
use Rattle.std.proofs.lemmas.Bool.{cases_Bool, le-leb}
use Rattle.std.proofs.lemmas.List.{append-nil}
use Rattle.std.proofs.lemmas.Slice.Eq.{bytes_eq-Decides}
use Rattle.of_types.specs.Fields.{number_at, number_bytes}
use Rattle.of_types.specs.declared.errors.OfError.{OfError}
use Rattle.of_wire.specs.declared.bodies.PacketIn.{PacketIn as PacketInBody}
use Rattle.of_wire.specs.declared.bodies.PacketOut.{PacketOut as Packet}
use Rattle.of_wire.specs.declared.kind.MessageKind.TheVariants as wire
use Rattle.of_wire.specs.declared.message.Message.{Message}
use Rattle.of_wire.specs.declared.message.Message.TheVariants.{Error, PacketIn, PacketOut, BarrierReply}
use Rattle.of_wire.specs.declared.fault.WireFault.{WireFault}
use Rattle.of_wire.specs.declared.fault.WireFault.TheVariants.{BadVersion, BadLength}
use Rattle.of_wire.specs.Kinds.{kind_of_number}
use Rattle.of_wire.specs.Reading.{has_length, front_of, body_of, reading_of}
use Rattle.of_wire.specs.Spelling.{message_bytes}
use Rattle.of_wire.specs.Grammar.{enveloped}
use Rattle.of_wire.specs.laws.ReadingLaws.{reading_of-message_bytes}
use Rattle.of_wire.specs.laws.SpellingLaws.{SpellMessage-message_bytes}
use Rattle.flow_table.specs.declared.entry.Entry.{Entry}
use Rattle.flow_table.specs.Errors.{buffer_unknown}
use Rattle.flow_table.specs.Refusals.{no_buffer, packet_out_refusal, message_refusal}
use Rattle.flow_table.specs.Switch.{PortState, SwitchState, controller_number, table_number, port_at}
use Rattle.flow_table.specs.Frames.{packet_in, sent_by_output, sent_by_outputs, is_silent, sent_by_miss, sent_by_hit, entry_hit, sent_by_lookup, after_packet_output, sent_by_packet_output, sent_by_packet_outputs, sent_by_packet_out}
use Rattle.flow_table.specs.Step.{error_bytes, sent_by_taken, sent_by_message}
use Rattle.app_frames.specs.declared.frame.Event.{Event}
use Rattle.lego_model.specs.declared.wait.Awaited.{Awaited}
use Rattle.lego_model.specs.declared.wait.Heard.TheVariants.{Other}
use Rattle.lego_model.specs.BarrierWaits.{next_xid, is_awaited, heard}
use Rattle.lego_model.specs.Events.{event_of_read, events_of, event_list}
use Rattle.net_txn.specs.Releases.{Knows, takes_read, takes_all}
use Rattle.lego_model.specs.FlowQueries.{asked_from}
use Rattle.net_txn.specs.laws.HeardLaws.{IsSmall, known_small, small_actions, IsMessage-error}
use Rattle.net_txn.specs.laws.NoticeLaws.{reply_kind}
use Rattle.net_txn.specs.laws.InStepLaws.{small_of}
use Rattle.net_txn.specs.laws.WaitLaws.{of_switch}

-- ---- To a wait

-- it is nothing to a wait for the reply behind a packet
abbrev pub IsUnawaited : List ℕ → Type 0
IsUnawaited bytes = (d xid : ℕ) → heard (asked_from d xid) bytes ≡ Other

pub none_awaited : (d xid n : ℕ) → is_awaited (asked_from d xid) n ≡ false
none_awaited d xid n =
    let first = next_xid xid in
    let self : nat_le first first ≡ true = le-leb first first (omega arith) in
    elim (cases_Bool (nat_lt n first)) [
      | inl below ↦ let above : nat_le first n ≡ false = not_above first n below in rw (self, above) refl
      | inr other ↦ rw (self, other) (never (nat_le first n))
    ]
  where
    never : (b : Bool) → (b && false) ≡ false
    never true = refl
    never false = refl

    not_above : (first n : ℕ) → nat_lt n first ≡ true → nat_le first n ≡ false
    not_above first n below = grind (arith, below)

heard_other : (a : Awaited) (bytes : List ℕ) → bytes_eq bytes (message_bytes a.barrier BarrierReply) ≡ false → is_awaited a (number_at 4 4 bytes) ≡ false → (number_at 1 1 bytes ≡ 10) ⊎ (number_at 1 1 bytes ≡ 1) → heard a bytes ≡ Other
unfolding heard
heard_other a bytes other unawaited (inl kind) = rw (other, kind) refl
heard_other a bytes other unawaited (inr kind) = rw (other, kind, unawaited) refl

no_reply : (xid : ℕ) (bytes : List ℕ) → (number_at 1 1 bytes ≡ 10) ⊎ (number_at 1 1 bytes ≡ 1) → bytes_eq bytes (message_bytes xid BarrierReply) ≡ false
no_reply xid bytes kind =
    elim (cases_Bool (bytes_eq bytes (message_bytes xid BarrierReply))) [
      | inl same ↦
          let e : bytes ≡ message_bytes xid BarrierReply = (bytes_eq-Decides bytes (message_bytes xid BarrierReply)).0 same in
          let n : number_at 1 1 bytes ≡ 19 = ap (number_at 1 1) e ∙ reply_kind xid in
          absurd (elim kind [ inl ten ↦ omega (arith, ten, n) | inr one ↦ omega (arith, one, n) ])
      | inr other ↦ other
    ]

unawaited : (bytes : List ℕ) → (number_at 1 1 bytes ≡ 10) ⊎ (number_at 1 1 bytes ≡ 1) → IsUnawaited bytes
unawaited bytes kind d xid = heard_other (asked_from d xid) bytes (no_reply (next_xid xid) bytes kind) (none_awaited d xid (number_at 4 4 bytes)) kind

-- ---- Taken

-- it becomes its event, and changes nothing else
abbrev pub IsTakenAlone : List ℕ → Type 0
IsTakenAlone bytes = (d : ℕ) (k : Knows) → takes_read d (reading_of bytes) k ≡ (k.0, k.1 ++ event_list (event_of_read d (reading_of bytes)))

pub record IsNews (bytes : List ℕ) : Type 0 where
  pub unawaited : IsUnawaited bytes
  pub taken : IsTakenAlone bytes

abbrev pub AllNews : List (List ℕ) → Type 0
AllNews list = AllByRecursion IsNews list

front-packet : (bytes : List ℕ) → number_at 1 1 bytes ≡ 10 → (front_of bytes ≡ Ok wire.PacketIn) ⊎ ((fault : WireFault) × (front_of bytes ≡ Err fault))
unfolding front_of kind_of_number
front-packet bytes type =
    elim (cases_Bool (nat_lt (length bytes) 8)) [
      | inl short ↦ inr (BadLength, rw short refl)
      | inr enough ↦ elim (cases_Bool (number_at 1 0 bytes == 1)) [
        | inr other ↦ inr (BadVersion, rw (enough, other) refl)
        | inl version ↦ elim (cases_Bool (number_at 2 2 bytes == length bytes)) [
          | inr unlike ↦ inr (BadLength, rw (enough, version, type, unlike) refl)
          | inl size ↦ elim (cases_Bool (has_length wire.PacketIn (length bytes))) [
            | inl sized ↦ inl (rw (enough, version, type, size, sized) refl)
            | inr unsized ↦ inr (BadLength, rw (enough, version, type, size, unsized) refl)
          ]
        ]
      ]
    ]

same_knows : (k : Knows) → k ≡ (k.0, k.1 ++ [])
same_knows k = ap (λ (queue : List Event). (k.0, queue)) (sym (append-nil k.1))

packet-taken : (bytes : List ℕ) → number_at 1 1 bytes ≡ 10 → IsTakenAlone bytes
unfolding reading_of body_of
packet-taken bytes type d k =
    elim (front-packet bytes type) [
      | inl is ↦ rw is refl
      | inr (fault, is) ↦ rw is (same_knows k)
    ]

pub packet-type : (m : PacketInBody) → number_at 1 1 (message_bytes 0 (PacketIn m)) ≡ 10
unfolding message_bytes number_at number_bytes
packet-type m = refl

packet-news : (reason in_port : ℕ) (frame : List ℕ) → IsNews (packet_in reason in_port frame)
unfolding packet_in
packet-news reason in_port frame = record { unawaited = unawaited _ (inl (packet-type _)); taken = packet-taken _ (packet-type _) }

-- ---- An ERROR

error-read : (xid : ℕ) (m : Message) (e : OfError) → xid < 2 ^ 32 → (e.kind < 256 ^ 2) × (e.code < 256 ^ 2) → reading_of (error_bytes xid m e) ≡ Ok (enveloped xid (Error e.kind e.code (take 64 (message_bytes xid m))))
unfolding error_bytes
error-read xid m e lt small = reading_of-message_bytes xid (Error e.kind e.code (take 64 (message_bytes xid m))) lt (IsMessage-error xid m e small)

error-type : (xid : ℕ) (m : Message) (e : OfError) → xid < 2 ^ 32 → (e.kind < 256 ^ 2) × (e.code < 256 ^ 2) → number_at 1 1 (error_bytes xid m e) ≡ 1
unfolding error_bytes
error-type xid m e lt small = (SpellMessage-message_bytes xid (Error e.kind e.code (take 64 (message_bytes xid m))) lt (IsMessage-error xid m e small)).header.1.0

error-taken : (xid : ℕ) (m : Message) (e : OfError) → xid < 2 ^ 32 → (e.kind < 256 ^ 2) × (e.code < 256 ^ 2) → IsTakenAlone (error_bytes xid m e)
error-taken xid m e lt small d k = rw (error-read xid m e lt small) refl

error-news : (xid : ℕ) (m : Message) (e : OfError) → xid < 2 ^ 32 → (e.kind < 256 ^ 2) × (e.code < 256 ^ 2) → IsNews (error_bytes xid m e)
error-news xid m e lt small = record { unawaited = unawaited _ (inr (error-type xid m e lt small)); taken = error-taken xid m e lt small }

-- its event does not depend on the transaction id
error-event : (d xid : ℕ) (m : Message) (e : OfError) → xid < 2 ^ 32 → (e.kind < 256 ^ 2) × (e.code < 256 ^ 2) → events_of d (error_bytes xid m e ∷ []) ≡ events_of d (error_bytes 0 m e ∷ [])
unfolding events_of
error-event d xid m e lt small = rw (error-read xid m e lt small, error-read 0 m e (omega arith) small) refl

-- ---- What is sent for a packet

news-append : (xs ys : List (List ℕ)) → AllNews xs → AllNews ys → AllNews (xs ++ ys)
news-append [] ys all rest = rest
news-append (x ∷ xs) ys all rest = (all.0, news-append xs ys all.1 rest)

output-news : (in_port : ℕ) (out : ℕ × List ℕ) → AllNews (sent_by_output in_port out)
unfolding sent_by_output
output-news in_port out =
    elim (cases_Bool (out.0 == controller_number)) [
      | inl controller ↦ rw controller (packet-news 1 in_port out.1, tt)
      | inr other ↦ rw other tt
    ]

outputs-news : (in_port : ℕ) (outs : List (ℕ × List ℕ)) → AllNews (sent_by_outputs in_port outs)
unfolding sent_by_outputs
outputs-news in_port [] = tt
outputs-news in_port (out ∷ outs) = news-append (sent_by_output in_port out) (flat_map (sent_by_output in_port) outs) (output-news in_port out) (outputs-news in_port outs)

hit-news : (in_port : ℕ) (frame : List ℕ) (ports : List PortState) (o : Option Entry) → AllNews (sent_by_hit in_port frame ports o)
unfolding sent_by_miss
hit-news in_port frame ports None =
    elim (cases_Bool (is_silent (port_at in_port ports))) [
      | inl silent ↦ rw silent tt
      | inr told ↦ rw told (packet-news 0 in_port frame, tt)
    ]
hit-news in_port frame ports (Some e) = outputs-news in_port _

packet-output-news : (in_port : ℕ) (out : ℕ × List ℕ) (s : SwitchState) → AllNews (sent_by_packet_output in_port out s)
unfolding sent_by_packet_output sent_by_lookup
packet-output-news in_port out s =
    elim (cases_Bool (out.0 == table_number)) [
      | inl table ↦ rw table (hit-news in_port out.1 s.ports (entry_hit in_port out.1 s))
      | inr other ↦ rw other (output-news in_port out)
    ]

packet-outputs-news : (in_port : ℕ) (outs : List (ℕ × List ℕ)) (s : SwitchState) → AllNews (sent_by_packet_outputs in_port outs s)
unfolding sent_by_packet_outputs
packet-outputs-news in_port [] s = tt
packet-outputs-news in_port (out ∷ outs) s =
    news-append (sent_by_packet_output in_port out s) (sent_by_packet_outputs in_port outs (after_packet_output in_port out s)) (packet-output-news in_port out s) (packet-outputs-news in_port outs (after_packet_output in_port out s))

-- the ERROR has a kind and a code of two bytes
pub small_packet : (s : SwitchState) (packet : Packet) → IsSmall (message_refusal s (PacketOut packet))
unfolding message_refusal packet_out_refusal
small_packet s packet =
    elim (cases_Bool (packet.buffer_id == no_buffer)) [
      | inl none ↦ rw none (small_actions true s.had packet.actions)
      | inr some ↦ rw some (known_small buffer_unknown (omega arith) (omega arith))
    ]

sent_with : (xid : ℕ) (packet : Packet) (s : SwitchState) (o : Option OfError) → message_refusal s (PacketOut packet) ≡ o → List (List ℕ)
sent_with xid packet s None is = sent_by_packet_out packet s
sent_with xid packet s (Some e) is = error_bytes xid (PacketOut packet) e ∷ []

sent_is : (xid : ℕ) (packet : Packet) (s : SwitchState) (o : Option OfError) (is : message_refusal s (PacketOut packet) ≡ o) → sent_by_message xid (PacketOut packet) s ≡ sent_with xid packet s o is
unfolding sent_by_message sent_by_taken sent_with
sent_is xid packet s None is = rw is refl
sent_is xid packet s (Some e) is = rw is refl

news_with : (xid : ℕ) (packet : Packet) (s : SwitchState) (o : Option OfError) (is : message_refusal s (PacketOut packet) ≡ o) → xid < 2 ^ 32 → AllNews (sent_with xid packet s o is)
unfolding sent_with
news_with xid packet s None is lt = packet-outputs-news packet.in_port _ s
news_with xid packet s (Some e) is lt = (error-news xid (PacketOut packet) e lt (small_of e (subst IsSmall is (small_packet s packet))), tt)

pub packet_news : (xid : ℕ) (packet : Packet) (s : SwitchState) → xid < 2 ^ 32 → AllNews (sent_by_message xid (PacketOut packet) s)
packet_news xid packet s lt = subst AllNews (sym (sent_is xid packet s _ refl)) (news_with xid packet s _ refl lt)

events_with : (d xid : ℕ) (packet : Packet) (s : SwitchState) (o : Option OfError) (is : message_refusal s (PacketOut packet) ≡ o) → xid < 2 ^ 32 → events_of d (sent_with xid packet s o is) ≡ events_of d (sent_with 0 packet s o is)
unfolding sent_with
events_with d xid packet s None is lt = refl
events_with d xid packet s (Some e) is lt = error-event d xid (PacketOut packet) e lt (small_of e (subst IsSmall is (small_packet s packet)))

pub packet_events : (d xid : ℕ) (packet : Packet) (s : SwitchState) → xid < 2 ^ 32 → events_of d (sent_by_message xid (PacketOut packet) s) ≡ events_of d (sent_by_message 0 (PacketOut packet) s)
packet_events d xid packet s lt = ap (events_of d) (sent_is xid packet s _ refl) ∙ events_with d xid packet s _ refl lt ∙ ap (events_of d) (sym (sent_is 0 packet s _ refl))

many_with : (xid : ℕ) (packet : Packet) (s : SwitchState) (o : Option OfError) (is : message_refusal s (PacketOut packet) ≡ o) → length (sent_with xid packet s o is) ≡ length (sent_with 0 packet s o is)
unfolding sent_with
many_with xid packet s None is = refl
many_with xid packet s (Some e) is = refl

-- nor how many they are
pub packet_many : (xid : ℕ) (packet : Packet) (s : SwitchState) → length (sent_by_message xid (PacketOut packet) s) ≡ length (sent_by_message 0 (PacketOut packet) s)
packet_many xid packet s = ap length (sent_is xid packet s _ refl) ∙ many_with xid packet s _ refl ∙ ap length (sym (sent_is 0 packet s _ refl))

-- ---- One after the other

queued_more : (o : Option Event) (queue more : List Event) → (queue ++ event_list o) ++ more ≡ queue ++ cons_option o more
queued_more None queue more = ap (λ (q : List Event). q ++ more) (append-nil queue)
queued_more (Some event) queue more = append_assoc queue (event ∷ []) more

-- they become their events, and change nothing else
pub all_taken : (d : ℕ) (list : List (List ℕ)) (k : Knows) → AllNews list → takes_all (map (of_switch d) list) k ≡ (k.0, k.1 ++ events_of d list)
unfolding events_of
all_taken d [] k all = same_knows k
all_taken d (bytes ∷ list) k all =
    let o : Option Event = event_of_read d (reading_of bytes) in
    let next : Knows = (k.0, k.1 ++ event_list o) in
    ap (takes_all (map (of_switch d) list)) (all.0.taken d k) ∙ all_taken d list next all.1 ∙ ap (λ (queue : List Event). (k.0, queue)) (queued_more o k.1 (events_of d list))
