-- Laws of the transaction ids of the controller's own messages: of longer journals, and of one message.
use Rattle.std.specs.Prelude.{◌≡◌, ◌==◌, ℕ, ◌+◌, ◌^◌, ◌≤◌, ◌<◌, false, List, [], ◌∷◌, ◌++◌, length, Some, None, refl}
use Rattle.std.proofs.Common.{ap, ◌∙◌, arith, append_assoc}
use Rattle.std.proofs.lemmas.List.{length-append}
use Rattle.std.proofs.lemmas.List.Elements.{filter_map-append}
use Rattle.of_types.specs.Fields.{number_at, number_bytes}
use Rattle.of_types.specs.laws.FieldLaws.{number_at-number_bytes, length-number_bytes}
use Rattle.of_wire.specs.declared.message.Message.{Message}
use Rattle.of_wire.specs.declared.message.Message.TheVariants.{EchoReply}
use Rattle.of_wire.specs.Kinds.{number_of_kind}
use Rattle.of_wire.specs.Spelling.{kind_of, body_bytes, message_bytes}
use Rattle.lego_model.specs.Journal.{Journal}
use Rattle.lego_model.specs.OwnIds.{own_id_of, own_id_in, own_ids, AscendWithin}
use Rattle.of_wire.specs.laws.SpellingLaws.{number_of_kind-lt}

-- ---- Longer journals

pub own_ids-append : (first next : Journal) → own_ids (first ++ next) ≡ own_ids first ++ own_ids next
unfolding own_ids
own_ids-append first next = filter_map-append own_id_in first next

-- ---- Lists that ascend

pub ascend_le : (ids : List ℕ) (least bound : ℕ) → AscendWithin least ids bound → least ≤ bound
ascend_le [] least bound all = all
ascend_le (id ∷ ids) least bound all = omega (arith, all.0, ascend_le ids (id + 1) bound all.1)

pub ascend_from : (ids : List ℕ) (less least bound : ℕ) → less ≤ least → AscendWithin least ids bound → AscendWithin less ids bound
ascend_from [] less least bound le all = omega (arith, le, all)
ascend_from (id ∷ ids) less least bound le all = (omega (arith, le, all.0), all.1)

pub ascend_to : (ids : List ℕ) (least bound more : ℕ) → bound ≤ more → AscendWithin least ids bound → AscendWithin least ids more
ascend_to [] least bound more le all = omega (arith, le, all)
ascend_to (id ∷ ids) least bound more le all = (all.0, ascend_to ids (id + 1) bound more le all.1)

pub ascend_then : (first next : List ℕ) (least mid bound : ℕ) → AscendWithin least first mid → AscendWithin mid next bound → AscendWithin least (first ++ next) bound
ascend_then [] next least mid bound before after = ascend_from next least mid bound before after
ascend_then (id ∷ ids) next least mid bound before after = (before.0, ascend_then ids next (id + 1) mid bound before.1 after)

pub ascend_front : (first next : List ℕ) (least bound : ℕ) → AscendWithin least (first ++ next) bound → AscendWithin least first bound
ascend_front [] next least bound all = ascend_le next least bound all
ascend_front (id ∷ ids) next least bound all = (all.0, ascend_front ids next (id + 1) bound all.1)

-- ---- One message

pub kind_at : (a b c d e : List ℕ) → (a ++ (b ++ (c ++ (d ++ [])))) ++ e ≡ a ++ (b ++ (c ++ (d ++ e)))
kind_at a b c d e = simp append_assoc

xid_at : (a b c d e : List ℕ) → (a ++ (b ++ (c ++ (d ++ [])))) ++ e ≡ (a ++ (b ++ c)) ++ (d ++ e)
xid_at a b c d e = simp append_assoc

front_size : (kind size : ℕ) → length (number_bytes 1 1 ++ (number_bytes 1 kind ++ number_bytes 2 size)) ≡ 4
front_size kind size =
    omega (arith, length-append (number_bytes 1 1) (number_bytes 1 kind ++ number_bytes 2 size), length-append (number_bytes 1 kind) (number_bytes 2 size), length-number_bytes 1 1, length-number_bytes 1 kind, length-number_bytes 2 size)

pub type_sent : (xid : ℕ) (m : Message) → number_at 1 1 (message_bytes xid m) ≡ number_of_kind (kind_of m)
unfolding message_bytes
type_sent xid m =
    ap (number_at 1 1) (kind_at (number_bytes 1 1) (number_bytes 1 (number_of_kind (kind_of m))) (number_bytes 2 _) (number_bytes 4 xid) (body_bytes m))
    ∙ number_at-number_bytes 1 1 (number_of_kind (kind_of m)) (number_bytes 1 1) _ (length-number_bytes 1 1) (omega (arith, number_of_kind-lt (kind_of m)))

pub xid_sent : (xid : ℕ) (m : Message) → xid < 2 ^ 32 → number_at 4 4 (message_bytes xid m) ≡ xid
unfolding message_bytes
xid_sent xid m small =
    ap (number_at 4 4) (xid_at (number_bytes 1 1) (number_bytes 1 (number_of_kind (kind_of m))) (number_bytes 2 _) (number_bytes 4 xid) (body_bytes m))
    ∙ number_at-number_bytes 4 4 xid _ (body_bytes m) (front_size (number_of_kind (kind_of m)) _) (omega (arith, small))

-- a message of our own has its id, and an ECHO_REPLY none of ours
pub own_id-sent : (xid : ℕ) (m : Message) → xid < 2 ^ 32 → (number_of_kind (kind_of m) == 3) ≡ false → own_id_of (message_bytes xid m) ≡ Some xid
own_id-sent xid m small other = rw (type_sent xid m, other) (ap (λ (id : ℕ). Some id) (xid_sent xid m small))

pub own_id-echo : (xid : ℕ) (payload : List ℕ) → own_id_of (message_bytes xid (EchoReply payload)) ≡ None
own_id-echo xid payload = rw (type_sent xid (EchoReply payload)) refl
