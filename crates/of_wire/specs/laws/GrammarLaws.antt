-- What is read was spelled.
use Rattle.std.proofs.Common.{◌≡◌, ℕ, zero, suc, ◌+◌, ◌-◌, ◌*◌, ◌/◌, ◌%◌, ◌^◌, ◌≤◌, ◌<◌, Bool, true, false, cond, eqb, ltb, List, [], ◌++◌, length, take, drop, Option, Some, None, Result, Ok, Err, refl, sym, ap, subst, ◌∙◌, arith}
use Rattle.std.specs.Prelude.{IfOk}
use Rattle.std.specs.List.{AllByRecursion}
use Rattle.std.proofs.lemmas.Bool.{eqb-true, ltb-false, leb-true, and_parts, cond_both}
use Rattle.std.proofs.lemmas.List.{drop_all, drop-drop, length-drop, take-append-drop, nil_from_length}
use Rattle.of_types.specs.Fields.{number_at, piece, IsBytes}
use Rattle.of_types.specs.laws.FieldLaws.{IsBytes-drop, IsBytes-piece, number_at-lt, number_at-drop, piece-drop, length-piece}
use Rattle.of_types.specs.Layout.{spelled, AreFields, IsLaidOut}
use Rattle.of_types.specs.laws.LayoutLaws.{spelled-IsLaidOut}
use Rattle.of_action.specs.declared.action.Action.{Action}
use Rattle.of_action.specs.declared.fault.ActionFault.{ActionFault}
use Rattle.of_action.specs.Spelling.{list_size, Spell}
use Rattle.of_action.specs.Reading.{actions_of}
use Rattle.of_action.specs.laws.ReadingLaws.{bind_ok, guard_ok}
use Rattle.of_action.specs.laws.ActionLaws.{AreSpelled-actions_of, length-Spell, the_actions}
use Rattle.of_wire.specs.declared.kind.MessageKind.{MessageKind}
use Rattle.of_wire.specs.declared.kind.MessageKind.TheVariants as kinds
use Rattle.of_wire.specs.declared.fault.WireFault.{WireFault}
use Rattle.of_wire.specs.declared.fault.WireFault.TheVariants.{BadVersion, BadLength}
use Rattle.of_wire.specs.declared.message.Envelope.{Envelope}
use Rattle.of_wire.specs.declared.message.Message.{Message}
use Rattle.of_wire.specs.declared.message.Message.TheVariants.{Hello, Error, EchoRequest, EchoReply, Vendor, FeaturesRequest, GetConfigRequest, GetConfigReply, SetConfig, FlowRemoved, PortStatus, PortMod, StatsRequest, StatsReply, BarrierRequest, BarrierReply, QueueGetConfigRequest, QueueGetConfigReply}
use Rattle.of_wire.specs.Kinds.{number_of_kind, kind_of_number}
use Rattle.of_wire.specs.Spelling.{kind_of, matching_in, port_fields, body_fields, ports_bytes, message_size, message_bytes}
use Rattle.of_wire.specs.Reading.{Gives, has_length, if_sized, front_of, port_of, ports_of, config_of, flow_removed_of, port_status_of, port_mod_of, stats_of, of_actions, packet_out_of, flow_mod_of, body_of, reading_of}
use Rattle.of_wire.specs.Grammar.{IsTail, IsMessage, SpellMatch, SpellTail, fields_place, tail_place, SpellMessage}
use Rattle.of_wire.specs.laws.ReadingLaws.{reading_of-message_bytes, same_envelope}

-- ---- the front

some_is : (a b : MessageKind) → Some a ≡ Some b → a ≡ b
some_is a b e = cc

number_of_kind-kind_of_number : (number : ℕ) (kind : MessageKind) → kind_of_number number ≡ Some kind → number ≡ number_of_kind kind
unfolding kind_of_number
number_of_kind-kind_of_number number kind =
    let P : Option MessageKind → Type 0 = λ o. o ≡ Some kind → number ≡ number_of_kind kind in
    let at : (n : ℕ) (k : MessageKind) → n ≡ number_of_kind k → eqb number n ≡ true → P (Some k) =
    λ n k is t e. eqb-true number n t ∙ is ∙ ap number_of_kind (some_is k kind e) in
    cond_both (eqb number 0) _ _ P (at 0 kinds.Hello refl) (λ n0.
    cond_both (eqb number 1) _ _ P (at 1 kinds.Error refl) (λ n1.
    cond_both (eqb number 2) _ _ P (at 2 kinds.EchoRequest refl) (λ n2.
    cond_both (eqb number 3) _ _ P (at 3 kinds.EchoReply refl) (λ n3.
    cond_both (eqb number 4) _ _ P (at 4 kinds.Vendor refl) (λ n4.
    cond_both (eqb number 5) _ _ P (at 5 kinds.FeaturesRequest refl) (λ n5.
    cond_both (eqb number 6) _ _ P (at 6 kinds.FeaturesReply refl) (λ n6.
    cond_both (eqb number 7) _ _ P (at 7 kinds.GetConfigRequest refl) (λ n7.
    cond_both (eqb number 8) _ _ P (at 8 kinds.GetConfigReply refl) (λ n8.
    cond_both (eqb number 9) _ _ P (at 9 kinds.SetConfig refl) (λ n9.
    cond_both (eqb number 10) _ _ P (at 10 kinds.PacketIn refl) (λ n10.
    cond_both (eqb number 11) _ _ P (at 11 kinds.FlowRemoved refl) (λ n11.
    cond_both (eqb number 12) _ _ P (at 12 kinds.PortStatus refl) (λ n12.
    cond_both (eqb number 13) _ _ P (at 13 kinds.PacketOut refl) (λ n13.
    cond_both (eqb number 14) _ _ P (at 14 kinds.FlowMod refl) (λ n14.
    cond_both (eqb number 15) _ _ P (at 15 kinds.PortMod refl) (λ n15.
    cond_both (eqb number 16) _ _ P (at 16 kinds.StatsRequest refl) (λ n16.
    cond_both (eqb number 17) _ _ P (at 17 kinds.StatsReply refl) (λ n17.
    cond_both (eqb number 18) _ _ P (at 18 kinds.BarrierRequest refl) (λ n18.
    cond_both (eqb number 19) _ _ P (at 19 kinds.BarrierReply refl) (λ n19.
    cond_both (eqb number 20) _ _ P (at 20 kinds.QueueGetConfigRequest refl) (λ n20.
    cond_both (eqb number 21) _ _ P (at 21 kinds.QueueGetConfigReply refl) (λ n21.
    (λ e. absurd cc)))))))))))))))))))))))

record IsFront (kind : MessageKind) (bytes : List ℕ) : Type 0 where
  least : 8 ≤ length bytes
  version : number_at 1 0 bytes ≡ 1
  number : number_at 1 1 bytes ≡ number_of_kind kind
  size : number_at 2 2 bytes ≡ length bytes
  has : has_length kind (length bytes) ≡ true

pub guard_then : {A F : Type 0} (b : Bool) (fault : F) (r : Result A F) (x : A) → cond b r (Err fault) ≡ Ok x → (b ≡ true) × (r ≡ Ok x)
guard_then true fault r x e = (refl, e)
guard_then false fault r x e = absurd cc

abbrev the_kind : MessageKind → Result MessageKind WireFault
the_kind kind = Ok kind

sized_is : (bytes : List ℕ) (o : Option MessageKind) (kind : MessageKind) → if_sized bytes o ≡ Ok kind → (o ≡ Some kind) × (number_at 2 2 bytes ≡ length bytes) × (has_length kind (length bytes) ≡ true)
sized_is bytes None kind e = absurd cc
sized_is bytes (Some k) kind e =
    let a = guard_then (eqb (number_at 2 2 bytes) (length bytes)) BadLength (cond (has_length k (length bytes)) (Ok k) (Err BadLength)) kind e in
    let b = guard_then (has_length k (length bytes)) BadLength (Ok k) kind a.1 in
    let same : k ≡ kind = ok_is k kind b.1 in
    (ap (λ (x : MessageKind). Some x) same, eqb-true _ _ a.0, subst (λ (x : MessageKind). has_length x (length bytes) ≡ true) same b.0)
  where
    ok_is : (x y : MessageKind) → the_kind x ≡ the_kind y → x ≡ y
    ok_is x y e = cc

IsFront-front_of : (bytes : List ℕ) (kind : MessageKind) → front_of bytes ≡ Ok kind → IsFront kind bytes
unfolding front_of
IsFront-front_of bytes kind e =
    let sized = if_sized bytes (kind_of_number (number_at 1 1 bytes)) in
    let a = guard_ok (ltb (length bytes) 8) BadLength (cond (eqb (number_at 1 0 bytes) 1) sized (Err BadVersion)) kind e in
    let b = guard_then (eqb (number_at 1 0 bytes) 1) BadVersion sized kind a.1 in
    let c = sized_is bytes (kind_of_number (number_at 1 1 bytes)) kind b.1 in
    record {
      least = ltb-false _ _ a.0;
      version = eqb-true _ _ b.0;
      number = number_of_kind-kind_of_number (number_at 1 1 bytes) kind c.0;
      size = c.1;
      has = c.2;
    }

abbrev the_message : Message → Result Message WireFault
the_message message = Ok message

same_message : (x y : Message) → the_message x ≡ the_message y → x ≡ y
same_message x y e = cc

abbrev of_wire_actions : List Action → Result (List Action) WireFault
of_wire_actions actions = Ok actions

ok_actions : (x y : List Action) → of_wire_actions x ≡ of_wire_actions y → x ≡ y
ok_actions x y e = cc

-- ---- the body

record WasSpelled (kind : MessageKind) (message : Message) (bytes : List ℕ) : Type 0 where
  kind_is : kind_of message ≡ kind
  size : message_size message ≡ length bytes
  fields_fit : AreFields (body_fields message)
  is_tail : IsTail message
  matching : SpellMatch (matching_in message) bytes
  fields : IsLaidOut (fields_place message) (body_fields message) (drop (tail_place message) bytes) bytes
  tail : SpellTail message (drop (tail_place message) bytes)

-- so many bytes and those behind them are all
all_but : (n : ℕ) (bytes : List ℕ) → n ≤ length bytes → n + length (drop n bytes) ≡ length bytes
all_but n bytes le = omega (arith, length-drop n bytes)

-- a message whose types are bytes alone behind the header

hello_was : (bytes : List ℕ) → has_length kinds.Hello (length bytes) ≡ true → WasSpelled kinds.Hello (Hello (drop 8 bytes)) bytes
unfolding message_size
hello_was bytes has =
    let least : 8 ≤ length bytes = leb-true _ _ has in
    record { kind_is = refl; size = all_but 8 bytes (omega (arith, least)); fields_fit = tt; is_tail = tt; matching = tt; fields = refl; tail = refl }

echo_request_was : (bytes : List ℕ) → has_length kinds.EchoRequest (length bytes) ≡ true → WasSpelled kinds.EchoRequest (EchoRequest (drop 8 bytes)) bytes
unfolding message_size
echo_request_was bytes has =
    let least : 8 ≤ length bytes = leb-true _ _ has in
    record { kind_is = refl; size = all_but 8 bytes (omega (arith, least)); fields_fit = tt; is_tail = tt; matching = tt; fields = refl; tail = refl }

echo_reply_was : (bytes : List ℕ) → has_length kinds.EchoReply (length bytes) ≡ true → WasSpelled kinds.EchoReply (EchoReply (drop 8 bytes)) bytes
unfolding message_size
echo_reply_was bytes has =
    let least : 8 ≤ length bytes = leb-true _ _ has in
    record { kind_is = refl; size = all_but 8 bytes (omega (arith, least)); fields_fit = tt; is_tail = tt; matching = tt; fields = refl; tail = refl }

vendor_was : (bytes : List ℕ) → has_length kinds.Vendor (length bytes) ≡ true → WasSpelled kinds.Vendor (Vendor (drop 8 bytes)) bytes
unfolding message_size
vendor_was bytes has =
    let least : 12 ≤ length bytes = leb-true _ _ has in
    record { kind_is = refl; size = all_but 8 bytes (omega (arith, least)); fields_fit = tt; is_tail = omega (arith, least, length-drop 8 bytes); matching = tt; fields = refl; tail = refl }

queue_get_config_request_was : (bytes : List ℕ) → has_length kinds.QueueGetConfigRequest (length bytes) ≡ true → WasSpelled kinds.QueueGetConfigRequest (QueueGetConfigRequest (drop 8 bytes)) bytes
unfolding message_size
queue_get_config_request_was bytes has =
    let least : length bytes ≡ 12 = eqb-true _ _ has in
    record { kind_is = refl; size = all_but 8 bytes (omega (arith, least)); fields_fit = tt; is_tail = omega (arith, least, length-drop 8 bytes); matching = tt; fields = refl; tail = refl }

queue_get_config_reply_was : (bytes : List ℕ) → has_length kinds.QueueGetConfigReply (length bytes) ≡ true → WasSpelled kinds.QueueGetConfigReply (QueueGetConfigReply (drop 8 bytes)) bytes
unfolding message_size
queue_get_config_reply_was bytes has =
    let least : 16 ≤ length bytes = leb-true _ _ has in
    record { kind_is = refl; size = all_but 8 bytes (omega (arith, least)); fields_fit = tt; is_tail = omega (arith, least, length-drop 8 bytes); matching = tt; fields = refl; tail = refl }

error_was : (bytes : List ℕ) → IsBytes bytes → has_length kinds.Error (length bytes) ≡ true → WasSpelled kinds.Error (Error (number_at 2 8 bytes) (number_at 2 10 bytes) (drop 12 bytes)) bytes
unfolding message_size
error_was bytes fit has = record {
  kind_is = refl;
  size = all_but 12 bytes (leb-true _ _ has);
  fields_fit = (number_at-lt 2 8 bytes fit, (number_at-lt 2 10 bytes fit, tt));
  is_tail = tt;
  matching = tt;
  fields = (refl, (refl, refl));
  tail = refl;
}

-- a message of its header alone
bare : (bytes : List ℕ) → eqb (length bytes) 8 ≡ true → (8 ≡ length bytes) × (drop 8 bytes ≡ [])
bare bytes has =
    let size : length bytes ≡ 8 = eqb-true _ _ has in
    (sym size, drop_all 8 bytes (omega (arith, size)))

features_request_was : (bytes : List ℕ) → has_length kinds.FeaturesRequest (length bytes) ≡ true → WasSpelled kinds.FeaturesRequest FeaturesRequest bytes
unfolding message_size
features_request_was bytes has =
    let b = bare bytes has in
    record { kind_is = refl; size = b.0; fields_fit = tt; is_tail = tt; matching = tt; fields = refl; tail = b.1 }

get_config_request_was : (bytes : List ℕ) → has_length kinds.GetConfigRequest (length bytes) ≡ true → WasSpelled kinds.GetConfigRequest GetConfigRequest bytes
unfolding message_size
get_config_request_was bytes has =
    let b = bare bytes has in
    record { kind_is = refl; size = b.0; fields_fit = tt; is_tail = tt; matching = tt; fields = refl; tail = b.1 }

barrier_request_was : (bytes : List ℕ) → has_length kinds.BarrierRequest (length bytes) ≡ true → WasSpelled kinds.BarrierRequest BarrierRequest bytes
unfolding message_size
barrier_request_was bytes has =
    let b = bare bytes has in
    record { kind_is = refl; size = b.0; fields_fit = tt; is_tail = tt; matching = tt; fields = refl; tail = b.1 }

barrier_reply_was : (bytes : List ℕ) → has_length kinds.BarrierReply (length bytes) ≡ true → WasSpelled kinds.BarrierReply BarrierReply bytes
unfolding message_size
barrier_reply_was bytes has =
    let b = bare bytes has in
    record { kind_is = refl; size = b.0; fields_fit = tt; is_tail = tt; matching = tt; fields = refl; tail = b.1 }

-- a message of a fixed length
fixed : (n : ℕ) (bytes : List ℕ) → eqb (length bytes) n ≡ true → (n ≡ length bytes) × (drop n bytes ≡ [])
fixed n bytes has =
    let size : length bytes ≡ n = eqb-true _ _ has in
    (sym size, drop_all n bytes (omega (arith, size)))

get_config_reply_was : (bytes : List ℕ) → IsBytes bytes → has_length kinds.GetConfigReply (length bytes) ≡ true → WasSpelled kinds.GetConfigReply (GetConfigReply (config_of bytes)) bytes
unfolding message_size
get_config_reply_was bytes fit has =
    let f = fixed 12 bytes has in
    record { kind_is = refl; size = f.0; fields_fit = (number_at-lt 2 8 bytes fit, (number_at-lt 2 10 bytes fit, tt)); is_tail = tt; matching = tt; fields = (refl, (refl, refl)); tail = f.1 }

set_config_was : (bytes : List ℕ) → IsBytes bytes → has_length kinds.SetConfig (length bytes) ≡ true → WasSpelled kinds.SetConfig (SetConfig (config_of bytes)) bytes
unfolding message_size
set_config_was bytes fit has =
    let f = fixed 12 bytes has in
    record { kind_is = refl; size = f.0; fields_fit = (number_at-lt 2 8 bytes fit, (number_at-lt 2 10 bytes fit, tt)); is_tail = tt; matching = tt; fields = (refl, (refl, refl)); tail = f.1 }

stats_request_was : (bytes : List ℕ) → IsBytes bytes → has_length kinds.StatsRequest (length bytes) ≡ true → WasSpelled kinds.StatsRequest (StatsRequest (stats_of bytes)) bytes
unfolding message_size
stats_request_was bytes fit has =
    record { kind_is = refl; size = all_but 12 bytes (leb-true _ _ has); fields_fit = (number_at-lt 2 8 bytes fit, (number_at-lt 2 10 bytes fit, tt)); is_tail = tt; matching = tt; fields = (refl, (refl, refl)); tail = refl }

stats_reply_was : (bytes : List ℕ) → IsBytes bytes → has_length kinds.StatsReply (length bytes) ≡ true → WasSpelled kinds.StatsReply (StatsReply (stats_of bytes)) bytes
unfolding message_size
stats_reply_was bytes fit has =
    record { kind_is = refl; size = all_but 12 bytes (leb-true _ _ has); fields_fit = (number_at-lt 2 8 bytes fit, (number_at-lt 2 10 bytes fit, tt)); is_tail = tt; matching = tt; fields = (refl, (refl, refl)); tail = refl }

packet_in_was : (bytes : List ℕ) → IsBytes bytes → has_length kinds.PacketIn (length bytes) ≡ true → (message : Message) → body_of kinds.PacketIn bytes ≡ Ok message → WasSpelled kinds.PacketIn message bytes
unfolding message_size body_of
packet_in_was bytes fit has message e = subst (λ (m : Message). WasSpelled kinds.PacketIn m bytes) (same_message _ message e) (record {
  kind_is = refl;
  size = all_but 18 bytes (leb-true _ _ has);
  fields_fit = (number_at-lt 4 8 bytes fit, (number_at-lt 2 12 bytes fit, (number_at-lt 2 14 bytes fit, (number_at-lt 1 16 bytes fit, tt))));
  is_tail = tt;
  matching = tt;
  fields = (refl, (refl, (refl, (refl, refl))));
  tail = refl;
})

flow_removed_was : (bytes : List ℕ) → IsBytes bytes → has_length kinds.FlowRemoved (length bytes) ≡ true → WasSpelled kinds.FlowRemoved (FlowRemoved (flow_removed_of bytes)) bytes
unfolding message_size
flow_removed_was bytes fit has =
    let f = fixed 88 bytes has in
    record {
      kind_is = refl;
      size = f.0;
      fields_fit = (number_at-lt 8 48 bytes fit, (number_at-lt 2 56 bytes fit, (number_at-lt 1 58 bytes fit, (number_at-lt 4 60 bytes fit, (number_at-lt 4 64 bytes fit, (number_at-lt 2 68 bytes fit, (number_at-lt 8 72 bytes fit, (number_at-lt 8 80 bytes fit, tt))))))));
      is_tail = tt;
      matching = refl;
      fields = (refl, (refl, (refl, (refl, (refl, (refl, (refl, (refl, refl))))))));
      tail = f.1;
    }

port_mod_was : (bytes : List ℕ) → IsBytes bytes → has_length kinds.PortMod (length bytes) ≡ true → WasSpelled kinds.PortMod (PortMod (port_mod_of bytes)) bytes
unfolding message_size
port_mod_was bytes fit has =
    let f = fixed 32 bytes has in
    record {
      kind_is = refl;
      size = f.0;
      fields_fit = (number_at-lt 2 8 bytes fit, (length-piece 6 10 bytes (omega (arith, f.0)), (number_at-lt 4 16 bytes fit, (number_at-lt 4 20 bytes fit, (number_at-lt 4 24 bytes fit, tt)))));
      is_tail = tt;
      matching = tt;
      fields = (refl, (refl, (refl, (refl, (refl, refl)))));
      tail = f.1;
    }

-- ---- ports

port_fits : (bytes : List ℕ) → IsBytes bytes → 48 ≤ length bytes → AreFields (port_fields (port_of bytes))
port_fits bytes fit within =
    (number_at-lt 2 0 bytes fit, (length-piece 6 2 bytes (omega arith), (length-piece 16 8 bytes (omega arith), (number_at-lt 4 24 bytes fit, (number_at-lt 4 28 bytes fit, (number_at-lt 4 32 bytes fit, (number_at-lt 4 36 bytes fit, (number_at-lt 4 40 bytes fit, (number_at-lt 4 44 bytes fit, tt)))))))))

port_laid : (bytes : List ℕ) → IsLaidOut 0 (port_fields (port_of bytes)) (drop 48 bytes) bytes
port_laid bytes = (refl, (refl, (refl, (refl, (refl, (refl, (refl, (refl, (refl, refl)))))))))

ports_fit : (count : ℕ) (bytes : List ℕ) → IsBytes bytes → length bytes ≡ 48 * count → AllByRecursion (λ port. AreFields (port_fields port)) (ports_of count bytes)
ports_fit zero bytes fit size = tt
ports_fit (suc count) bytes fit size =
    (port_fits bytes fit (omega arith), ports_fit count (drop 48 bytes) (IsBytes-drop 48 bytes fit) (omega (arith, length-drop 48 bytes)))

ports_bytes-ports_of : (count : ℕ) (bytes : List ℕ) → IsBytes bytes → length bytes ≡ 48 * count → bytes ≡ ports_bytes (ports_of count bytes)
ports_bytes-ports_of zero bytes fit size = nil_from_length bytes (omega arith)
ports_bytes-ports_of (suc count) bytes fit size =
    let first : spelled (port_fields (port_of bytes)) ≡ take 48 bytes = spelled-IsLaidOut 0 (port_fields (port_of bytes)) (drop 48 bytes) bytes fit (omega arith) tt (port_laid bytes) in
    let others = ports_bytes-ports_of count (drop 48 bytes) (IsBytes-drop 48 bytes fit) (omega (arith, length-drop 48 bytes)) in
    sym (take-append-drop 48 bytes) ∙ ap (λ (xs : List ℕ). xs ++ drop 48 bytes) (sym first) ∙ ap (λ (xs : List ℕ). spelled (port_fields (port_of bytes)) ++ xs) others

length-ports_of : (count : ℕ) (bytes : List ℕ) → length (ports_of count bytes) ≡ count
length-ports_of zero bytes = refl
length-ports_of (suc count) bytes = ap suc (length-ports_of count (drop 48 bytes))

port_status_was : (bytes : List ℕ) → IsBytes bytes → has_length kinds.PortStatus (length bytes) ≡ true → WasSpelled kinds.PortStatus (PortStatus (port_status_of bytes)) bytes
unfolding message_size
port_status_was bytes fit has =
    let f = fixed 64 bytes has in
    record {
      kind_is = refl;
      size = f.0;
      fields_fit = (number_at-lt 1 8 bytes fit, port_fits (drop 16 bytes) (IsBytes-drop 16 bytes fit) (omega (arith, f.0, length-drop 16 bytes)));
      is_tail = tt;
      matching = tt;
      fields = (
        refl,
        (
          sym (number_at-drop 2 0 16 bytes),
          (
            sym (piece-drop 6 2 16 bytes),
            (
              sym (piece-drop 16 8 16 bytes),
              (
                sym (number_at-drop 4 24 16 bytes),
                (
                  sym (number_at-drop 4 28 16 bytes),
                  (sym (number_at-drop 4 32 16 bytes), (sym (number_at-drop 4 36 16 bytes), (sym (number_at-drop 4 40 16 bytes), (sym (number_at-drop 4 44 16 bytes), refl)))),
                ),
              ),
            ),
          ),
        ),
      );
      tail = f.1;
    }

features_reply_was : (bytes : List ℕ) → IsBytes bytes → has_length kinds.FeaturesReply (length bytes) ≡ true → (message : Message) → body_of kinds.FeaturesReply bytes ≡ Ok message → WasSpelled kinds.FeaturesReply message bytes
unfolding message_size body_of
features_reply_was bytes fit has message e =
    let parts = and_parts _ _ has in
    let least : 32 ≤ length bytes = leb-true _ _ parts.0 in
    let whole : (length bytes - 32) % 48 ≡ 0 = eqb-true _ _ parts.1 in
    let count = (length bytes - 32) / 48 in
    let rest : length (drop 32 bytes) ≡ 48 * count = omega (arith, length-drop 32 bytes) in
    let many = length-ports_of count (drop 32 bytes) in
    subst (λ (m : Message). WasSpelled kinds.FeaturesReply m bytes) (same_message _ message e) (record {
      kind_is = refl;
      size = omega (arith, many, rest, length-drop 32 bytes);
      fields_fit = (number_at-lt 8 8 bytes fit, (number_at-lt 4 16 bytes fit, (number_at-lt 1 20 bytes fit, (number_at-lt 4 24 bytes fit, (number_at-lt 4 28 bytes fit, tt)))));
      is_tail = ports_fit count (drop 32 bytes) (IsBytes-drop 32 bytes fit) rest;
      matching = tt;
      fields = (refl, (refl, (refl, (refl, (refl, refl)))));
      tail = ports_bytes-ports_of count (drop 32 bytes) (IsBytes-drop 32 bytes fit) rest;
    })

-- ---- actions

of_actions_ok : (r : Result (List Action) ActionFault) (actions : List Action) → of_actions r ≡ Ok actions → r ≡ Ok actions
of_actions_ok (Ok x) actions e = ap the_actions (ok_actions x actions e)
of_actions_ok (Err fault) actions e = absurd cc

flow_mod_was : (bytes : List ℕ) → IsBytes bytes → has_length kinds.FlowMod (length bytes) ≡ true → (message : Message) → flow_mod_of bytes ≡ Ok message → WasSpelled kinds.FlowMod message bytes
unfolding message_size flow_mod_of
flow_mod_was bytes fit has message e =
    let a = bind_ok (of_actions (actions_of (drop 72 bytes))) _ message e in
    let found = AreSpelled-actions_of (drop 72 bytes) a.0 (IsBytes-drop 72 bytes fit) (of_actions_ok (actions_of (drop 72 bytes)) a.0 a.1) in
    let size = length-Spell a.0 (drop 72 bytes) found.spelled_is in
    subst (λ (m : Message). WasSpelled kinds.FlowMod m bytes) (same_message _ message a.2) (record {
      kind_is = refl;
      size = omega (arith, size, all_but 72 bytes (leb-true _ _ has));
      fields_fit = (number_at-lt 8 48 bytes fit, (number_at-lt 2 56 bytes fit, (number_at-lt 2 58 bytes fit, (number_at-lt 2 60 bytes fit, (number_at-lt 2 62 bytes fit, (number_at-lt 4 64 bytes fit, (number_at-lt 2 68 bytes fit, (number_at-lt 2 70 bytes fit, tt))))))));
      is_tail = found.fit;
      matching = refl;
      fields = (refl, (refl, (refl, (refl, (refl, (refl, (refl, (refl, refl))))))));
      tail = found.spelled_is;
    })

packet_out_was : (bytes : List ℕ) → IsBytes bytes → has_length kinds.PacketOut (length bytes) ≡ true → (message : Message) → packet_out_of bytes ≡ Ok message → WasSpelled kinds.PacketOut message bytes
unfolding message_size packet_out_of
packet_out_was bytes fit has message e =
    let len = number_at 2 14 bytes in
    let g = guard_ok (ltb (length bytes) (16 + len)) BadLength _ message e in
    let within : 16 + len ≤ length bytes = ltb-false _ _ g.0 in
    let a = bind_ok (of_actions (actions_of (piece len 16 bytes))) _ message g.1 in
    let found = AreSpelled-actions_of (piece len 16 bytes) a.0 (IsBytes-piece len 16 bytes fit) (of_actions_ok (actions_of (piece len 16 bytes)) a.0 a.1) in
    let size : len ≡ list_size a.0 = sym (length-piece len 16 bytes within) ∙ length-Spell a.0 (piece len 16 bytes) found.spelled_is in
    subst (λ (m : Message). WasSpelled kinds.PacketOut m bytes) (same_message _ message a.2) (record {
      kind_is = refl;
      size = omega (arith, size, all_but (16 + len) bytes within);
      fields_fit = (number_at-lt 4 8 bytes fit, (number_at-lt 2 12 bytes fit, (subst (λ (n : ℕ). n < 65536) size (number_at-lt 2 14 bytes fit), tt)));
      is_tail = found.fit;
      matching = tt;
      fields = (refl, (refl, (size, refl)));
      tail = (subst (λ (n : ℕ). Spell a.0 (take n (drop 16 bytes))) size found.spelled_is, ap (λ (n : ℕ). drop n (drop 16 bytes)) (sym size) ∙ drop-drop len 16 bytes);
    })

body_was : (kind : MessageKind) (message : Message) (bytes : List ℕ) → IsBytes bytes → has_length kind (length bytes) ≡ true → body_of kind bytes ≡ Ok message → WasSpelled kind message bytes
unfolding body_of
body_was kinds.Hello message bytes fit has e = subst (λ (m : Message). WasSpelled kinds.Hello m bytes) (same_message _ message e) (hello_was bytes has)
body_was kinds.Error message bytes fit has e = subst (λ (m : Message). WasSpelled kinds.Error m bytes) (same_message _ message e) (error_was bytes fit has)
body_was kinds.EchoRequest message bytes fit has e = subst (λ (m : Message). WasSpelled kinds.EchoRequest m bytes) (same_message _ message e) (echo_request_was bytes has)
body_was kinds.EchoReply message bytes fit has e = subst (λ (m : Message). WasSpelled kinds.EchoReply m bytes) (same_message _ message e) (echo_reply_was bytes has)
body_was kinds.Vendor message bytes fit has e = subst (λ (m : Message). WasSpelled kinds.Vendor m bytes) (same_message _ message e) (vendor_was bytes has)
body_was kinds.FeaturesRequest message bytes fit has e = subst (λ (m : Message). WasSpelled kinds.FeaturesRequest m bytes) (same_message _ message e) (features_request_was bytes has)
body_was kinds.FeaturesReply message bytes fit has e = features_reply_was bytes fit has message e
body_was kinds.GetConfigRequest message bytes fit has e = subst (λ (m : Message). WasSpelled kinds.GetConfigRequest m bytes) (same_message _ message e) (get_config_request_was bytes has)
body_was kinds.GetConfigReply message bytes fit has e = subst (λ (m : Message). WasSpelled kinds.GetConfigReply m bytes) (same_message _ message e) (get_config_reply_was bytes fit has)
body_was kinds.SetConfig message bytes fit has e = subst (λ (m : Message). WasSpelled kinds.SetConfig m bytes) (same_message _ message e) (set_config_was bytes fit has)
body_was kinds.PacketIn message bytes fit has e = packet_in_was bytes fit has message e
body_was kinds.FlowRemoved message bytes fit has e = subst (λ (m : Message). WasSpelled kinds.FlowRemoved m bytes) (same_message _ message e) (flow_removed_was bytes fit has)
body_was kinds.PortStatus message bytes fit has e = subst (λ (m : Message). WasSpelled kinds.PortStatus m bytes) (same_message _ message e) (port_status_was bytes fit has)
body_was kinds.PacketOut message bytes fit has e = packet_out_was bytes fit has message e
body_was kinds.FlowMod message bytes fit has e = flow_mod_was bytes fit has message e
body_was kinds.PortMod message bytes fit has e = subst (λ (m : Message). WasSpelled kinds.PortMod m bytes) (same_message _ message e) (port_mod_was bytes fit has)
body_was kinds.StatsRequest message bytes fit has e = subst (λ (m : Message). WasSpelled kinds.StatsRequest m bytes) (same_message _ message e) (stats_request_was bytes fit has)
body_was kinds.StatsReply message bytes fit has e = subst (λ (m : Message). WasSpelled kinds.StatsReply m bytes) (same_message _ message e) (stats_reply_was bytes fit has)
body_was kinds.BarrierRequest message bytes fit has e = subst (λ (m : Message). WasSpelled kinds.BarrierRequest m bytes) (same_message _ message e) (barrier_request_was bytes has)
body_was kinds.BarrierReply message bytes fit has e = subst (λ (m : Message). WasSpelled kinds.BarrierReply m bytes) (same_message _ message e) (barrier_reply_was bytes has)
body_was kinds.QueueGetConfigRequest message bytes fit has e = subst (λ (m : Message). WasSpelled kinds.QueueGetConfigRequest m bytes) (same_message _ message e) (queue_get_config_request_was bytes has)
body_was kinds.QueueGetConfigReply message bytes fit has e = subst (λ (m : Message). WasSpelled kinds.QueueGetConfigReply m bytes) (same_message _ message e) (queue_get_config_reply_was bytes has)

-- ---- the message

pub record IsRead (envelope : Envelope) (bytes : List ℕ) : Type 0 where
  pub xid : envelope.xid < 2 ^ 32
  pub message : IsMessage envelope.message
  pub spelled_is : SpellMessage envelope.xid envelope.message bytes

read_as : (kind : MessageKind) (message : Message) (bytes : List ℕ) → IsBytes bytes → IsFront kind bytes → WasSpelled kind message bytes → IsRead (record { xid = number_at 4 4 bytes; message = message }) bytes
read_as kind message bytes fit front was =
    let number : number_at 1 1 bytes ≡ number_of_kind (kind_of message) = front.number ∙ ap number_of_kind (sym was.kind_is) in
    let size : number_at 2 2 bytes ≡ message_size message = front.size ∙ sym was.size in
    record {
      xid = number_at-lt 4 4 bytes fit;
      message = record { fields = was.fields_fit; tail = was.is_tail; size = subst (λ (n : ℕ). n < 65536) size (number_at-lt 2 2 bytes fit) };
      spelled_is = record {
        size = sym was.size;
        header = (front.version, (number, (size, (refl, refl))));
        matching = was.matching;
        fields = was.fields;
        tail = was.tail;
      };
    }

pub IsRead-reading_of : (bytes : List ℕ) (envelope : Envelope) → IsBytes bytes → reading_of bytes ≡ Ok envelope → IsRead envelope bytes
unfolding reading_of
IsRead-reading_of bytes envelope fit e =
    let a = bind_ok (front_of bytes) _ envelope e in
    let b = bind_ok (body_of a.0 bytes) _ envelope a.2 in
    let front = IsFront-front_of bytes a.0 a.1 in
    let was = body_was a.0 b.0 bytes fit front.has b.1 in
    subst (λ (x : Envelope). IsRead x bytes) (same_envelope _ envelope b.2) (read_as a.0 b.0 bytes fit front was)

pub found_from_Gives : (bytes : List ℕ) (r : Result Envelope WireFault) → IsBytes bytes → Gives r (reading_of bytes) → IfOk r (λ envelope. IsMessage envelope.message × SpellMessage envelope.xid envelope.message bytes)
found_from_Gives bytes (Ok envelope) fit given =
    let read = IsRead-reading_of bytes envelope fit given in
    (read.message, read.spelled_is)
found_from_Gives bytes (Err fault) fit given = tt

-- what was read is spelled anew: it is read again as it was
pub read_again : (bytes : List ℕ) (envelope : Envelope) → IsBytes bytes → reading_of bytes ≡ Ok envelope → reading_of (message_bytes envelope.xid envelope.message) ≡ Ok envelope
read_again bytes envelope fit e =
    let read = IsRead-reading_of bytes envelope fit e in
    reading_of-message_bytes envelope.xid envelope.message read.xid read.message
