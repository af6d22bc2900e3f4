-- An ECHO_REQUEST whose type is made that of its reply is the reply, and is read.
use Rattle.std.proofs.Common.{◌≡◌, ℕ, ◌+◌, List, [], ◌∷◌, ◌++◌, length, take, drop, Ok, refl, sym, ap, ◌∙◌, append_assoc, arith}
use Rattle.std.specs.Prelude.{IsOk}
use Rattle.std.proofs.lemmas.List.{append-nil, take-append-drop, drop-drop, length-drop}
use Rattle.of_types.specs.Fields.{number_at, number_bytes, with_field, IsBytes}
use Rattle.of_types.specs.laws.FieldLaws.{number_bytes-number_at, number_at-lt}
use Rattle.of_wire.specs.declared.message.Message.TheVariants.{EchoReply}
use Rattle.of_wire.specs.Reading.{reading_of}
use Rattle.of_wire.specs.Spelling.{message_size, body_bytes, message_bytes}
use Rattle.of_wire.specs.Grammar.{IsMessage, enveloped}
use Rattle.of_wire.specs.laws.ReadingLaws.{reading_of-message_bytes}
use Rattle.lego_model.specs.BarrierWaits.{echo_reply}
use Rattle.net_txn.specs.laws.SizeLaws.{header-read, version-read, size-read}

three : number_bytes 1 3 ≡ 3 ∷ []
unfolding number_bytes
three = refl

-- six bytes and the others
six_and_rest : (rest : List ℕ) → take 2 rest ++ (take 4 (drop 2 rest) ++ drop 6 rest) ≡ rest
six_and_rest rest =
    let back : take 4 (drop 2 rest) ++ drop 4 (drop 2 rest) ≡ drop 2 rest = take-append-drop 4 (drop 2 rest) in
    ap (λ (xs : List ℕ). take 2 rest ++ (take 4 (drop 2 rest) ++ xs)) (sym (drop-drop 4 2 rest)) ∙ ap (λ (xs : List ℕ). take 2 rest ++ xs) back ∙ take-append-drop 2 rest

reply_from : (a b : ℕ) (rest : List ℕ) → IsBytes (a ∷ b ∷ rest) → IsOk (reading_of (a ∷ b ∷ rest)) → a ∷ 3 ∷ rest ≡ echo_reply (a ∷ b ∷ rest)
unfolding message_bytes body_bytes message_size
reply_from a b rest fit is =
    let bytes = a ∷ b ∷ rest in
    let least = header-read bytes is in
    let t2 = take 2 rest in
    let t4 = take 4 (drop 2 rest) in
    let others = drop 6 rest in
    let len : 8 + length others ≡ number_at 2 2 bytes = omega (arith, size-read bytes is, length-drop 6 rest, least) in
    let version : number_bytes 1 1 ≡ a ∷ [] = ap (number_bytes 1) (sym (version-read bytes is)) ∙ number_bytes-number_at 1 0 bytes fit (omega (arith, least)) in
    let size : number_bytes 2 (8 + length others) ≡ t2 = ap (number_bytes 2) len ∙ number_bytes-number_at 2 2 bytes fit (omega (arith, least)) in
    let xid : number_bytes 4 (number_at 4 4 bytes) ≡ t4 = number_bytes-number_at 4 4 bytes fit (omega (arith, least)) in
    let header : number_bytes 1 1 ++ (number_bytes 1 3 ++ (number_bytes 2 (8 + length others) ++ (number_bytes 4 (number_at 4 4 bytes) ++ []))) ≡ a ∷ 3 ∷ (t2 ++ t4) =
    rw (version, three, size, xid, append-nil t4) refl in
    ap (λ (xs : List ℕ). a ∷ 3 ∷ xs) (sym (six_and_rest rest)) ∙ sym (ap (λ (xs : List ℕ). xs ++ others) header ∙ ap (λ (xs : List ℕ). a ∷ 3 ∷ xs) (append_assoc t2 t4 others))

pub echo_reply-with_field : (bytes : List ℕ) → IsBytes bytes → IsOk (reading_of bytes) → with_field 1 (number_bytes 1 3) bytes ≡ echo_reply bytes
unfolding number_bytes
echo_reply-with_field [] fit is = absurd (omega (arith, header-read [] is))
echo_reply-with_field (a ∷ []) fit is = absurd (omega (arith, header-read (a ∷ []) is))
echo_reply-with_field (a ∷ b ∷ rest) fit is = reply_from a b rest fit is

IsMessage-echo : (bytes : List ℕ) → IsBytes bytes → IsOk (reading_of bytes) → IsMessage (EchoReply (drop 8 bytes))
unfolding message_size
IsMessage-echo bytes fit is = record {
  fields = tt;
  tail = tt;
  size = omega (arith, size-read bytes is, number_at-lt 2 2 bytes fit, length-drop 8 bytes, header-read bytes is);
}

pub echo_reply-reading : (bytes : List ℕ) → IsBytes bytes → IsOk (reading_of bytes) → reading_of (echo_reply bytes) ≡ Ok (enveloped (number_at 4 4 bytes) (EchoReply (drop 8 bytes)))
echo_reply-reading bytes fit is = reading_of-message_bytes (number_at 4 4 bytes) (EchoReply (drop 8 bytes)) (number_at-lt 4 4 bytes fit) (IsMessage-echo bytes fit is)

pub echo_reply-read : (bytes : List ℕ) → IsBytes bytes → IsOk (reading_of bytes) → IsOk (reading_of (echo_reply bytes))
echo_reply-read bytes fit is = rw (echo_reply-reading bytes fit is) refl
