-- Laws of the parts that a switch sends for a request of its flows: what each is to a wait, and what they say together.
use Rattle.std.specs.Prelude.{◌≡◌, ℕ, ◌+◌, ◌^◌, ◌<◌, ◌≤◌, true, false, nat_le, List, [], ◌∷◌, ◌++◌, length, refl}
use Rattle.std.specs.List.{AllByRecursion, concat}
use Rattle.std.specs.Str.{bytes_eq}
use Rattle.std.proofs.Common.{inl, inr, ap, ◌∙◌, append_assoc, arith}
use Rattle.std.proofs.lemmas.Bool.{cases_Bool, le-leb, eq-eqb}
use Rattle.std.proofs.lemmas.List.{append-nil, length-append}
use Rattle.std.proofs.lemmas.Slice.Eq.{bytes_eq-Decides}
use Rattle.of_types.specs.Fields.{number_bytes, number_at}
use Rattle.of_types.specs.laws.FieldLaws.{length-number_bytes}
use Rattle.of_types.specs.Layout.{number, spelled}
use Rattle.of_types.specs.laws.LayoutLaws.{IsLaidOut-spelled, length-spelled}
use Rattle.of_wire.specs.declared.message.Message.TheVariants.{BarrierReply}
use Rattle.of_wire.specs.Spelling.{message_size, body_bytes, message_bytes}
use Rattle.of_wire.specs.laws.SpellingLaws.{SpellMessage-message_bytes}
use Rattle.of_stats.specs.Parts.{Part, room, joined}
use Rattle.flow_table.specs.Statistics.{parts_behind, part_bytes}
use Rattle.lego_model.specs.declared.wait.Awaited.{Awaited}
use Rattle.lego_model.specs.declared.wait.Heard.TheVariants.{Other}
use Rattle.lego_model.specs.BarrierWaits.{heard}
use Rattle.net_txn.specs.laws.HeardLaws.{IsMessage-reply}
use Rattle.lego_model.specs.FlowQueries.{is_about, part_of}

-- ---- One part

-- type and flags take two bytes
abbrev pub IsSmallPart : Part → Type 0
IsSmallPart part = (part.0 < 2 ^ 16) × (part.1 < 2 ^ 16)

pub record IsPartOf (xid : ℕ) (part : Part) (bytes : List ℕ) : Type 0 where
  pub kind : number_at 1 1 bytes ≡ 17
  pub id : number_at 4 4 bytes ≡ xid
  pub said : part_of bytes ≡ part
  pub long : 12 ≤ length bytes

abbrev front_bytes : Part → List ℕ
front_bytes part = number_bytes 1 1 ++ (number_bytes 1 17 ++ number_bytes 2 (8 + 0 + 4 + length part.2))

part_regrouped : (xid : ℕ) (part : Part) → part_bytes xid part ≡ front_bytes part ++ (spelled (number 4 xid ∷ number 2 part.0 ∷ number 2 part.1 ∷ []) ++ part.2)
unfolding message_bytes body_bytes message_size
part_regrouped xid part = simp (append_assoc, append-nil)

type_regrouped : (xid : ℕ) (part : Part) → part_bytes xid part ≡ number_bytes 1 1 ++ (spelled (number 1 17 ∷ []) ++ (number_bytes 2 (8 + 0 + 4 + length part.2) ++ (spelled (number 4 xid ∷ number 2 part.0 ∷ number 2 part.1 ∷ []) ++ part.2)))
unfolding message_bytes body_bytes message_size
type_regrouped xid part = simp (append_assoc, append-nil)

length-front : (part : Part) → length (front_bytes part) ≡ 4
length-front part =
    omega (arith, length-append (number_bytes 1 1) (number_bytes 1 17 ++ number_bytes 2 (8 + 0 + 4 + length part.2)), length-append (number_bytes 1 17) (number_bytes 2 (8 + 0 + 4 + length part.2)), length-number_bytes 1 1, length-number_bytes 1 17, length-number_bytes 2 (8 + 0 + 4 + length part.2))

pub IsPartOf-part_bytes : (xid : ℕ) (part : Part) → xid < 2 ^ 32 → IsSmallPart part → IsPartOf xid part (part_bytes xid part)
unfolding part_of
IsPartOf-part_bytes xid part small fit =
    let fields = number 4 xid ∷ number 2 part.0 ∷ number 2 part.1 ∷ [] in
    let laid = IsLaidOut-spelled 4 fields (front_bytes part) part.2 (length-front part) (small, (fit.0, (fit.1, tt))) in
    let rest = number_bytes 2 (8 + 0 + 4 + length part.2) ++ (spelled fields ++ part.2) in
    let typed = IsLaidOut-spelled 1 (number 1 17 ∷ []) (number_bytes 1 1) rest (length-number_bytes 1 1) (omega arith, tt) in
    let e = part_regrouped xid part in
    let len = length-append (front_bytes part) (spelled fields ++ part.2) in
    let fields_len : length (spelled fields) ≡ 8 = length-spelled fields (small, (fit.0, (fit.1, tt))) in
    record {
      kind = ap (number_at 1 1) (type_regrouped xid part) ∙ typed.0;
      id = ap (number_at 4 4) e ∙ laid.0;
      said = rw (e, laid.1.0, laid.1.1.0, laid.1.1.1) refl;
      long = rw e (omega (arith, len, length-front part, length-append (spelled fields) part.2, fields_len));
    }

differs : (barrier : ℕ) (bytes : List ℕ) → barrier < 2 ^ 32 → number_at 1 1 bytes ≡ 17 → bytes_eq bytes (message_bytes barrier BarrierReply) ≡ false
differs barrier bytes small kind =
    let reply = SpellMessage-message_bytes barrier BarrierReply small IsMessage-reply in
    elim (cases_Bool (bytes_eq bytes (message_bytes barrier BarrierReply))) [
      | inl same ↦
          let e : bytes ≡ message_bytes barrier BarrierReply = (bytes_eq-Decides bytes (message_bytes barrier BarrierReply)).0 same in
          let n : number_at 1 1 bytes ≡ 19 = ap (number_at 1 1) e ∙ reply.header.1.0 in
          absurd (omega (arith, n, kind))
      | inr other ↦ other
    ]

-- a part is nothing to the wait, and answers the request
pub heard_part : (a : Awaited) (xid : ℕ) (part : Part) (bytes : List ℕ) → a.barrier < 2 ^ 32 → IsPartOf xid part bytes → heard a bytes ≡ Other
unfolding heard
heard_part a xid part bytes small is = rw (differs a.barrier bytes small is.kind, is.kind) refl

pub about_part : (xid : ℕ) (part : Part) (bytes : List ℕ) → IsPartOf xid part bytes → is_about xid 17 bytes ≡ true
unfolding is_about
about_part xid part bytes is =
    let long : nat_le 12 (length bytes) ≡ true = le-leb _ _ is.long in
    rw (long, is.id, is.kind, eq-eqb xid xid refl) refl

-- ---- The parts of a reply

pub small_parts : (kind : ℕ) (begun : List ℕ) (rows : List (List ℕ)) → kind < 2 ^ 16 → AllByRecursion IsSmallPart (parts_behind kind begun rows)
small_parts kind begun [] small = ((small, omega arith), tt)
small_parts kind begun (row ∷ rows) small =
    elim (cases_Bool (nat_le (length begun + length row) room)) [
      | inl fits ↦ rw fits (small_parts kind (begun ++ row) rows small)
      | inr full ↦ rw full ((small, omega arith), small_parts kind row rows small)
    ]

pub joined_parts : (kind : ℕ) (begun : List ℕ) (rows : List (List ℕ)) → joined (parts_behind kind begun rows) ≡ begun ++ concat rows
joined_parts kind begun [] = refl
joined_parts kind begun (row ∷ rows) =
    elim (cases_Bool (nat_le (length begun + length row) room)) [
      | inl fits ↦ rw fits (joined_parts kind (begun ++ row) rows ∙ append_assoc begun row (concat rows))
      | inr full ↦ rw full (ap (λ (b : List ℕ). begun ++ b) (joined_parts kind row rows))
    ]
