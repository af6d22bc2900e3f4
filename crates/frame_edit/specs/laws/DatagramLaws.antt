-- Laws of the checksums of a datagram: computed anew, they verify.
use Rattle.std.proofs.Common.{◌≡◌, ℕ, ◌+◌, ◌-◌, ◌*◌, ◌^◌, ◌<◌, ◌≤◌, true, leb, not, ◌&&◌, List, [], ◌∷◌, ◌++◌, length, take, drop, refl, sym, ap, subst, ◌∙◌, arith}
use Rattle.std.proofs.lemmas.Bool.{and_parts, leb-true}
use Rattle.std.proofs.lemmas.List.{take-take, drop-take, drop-append-le, length-take, length-drop, length-append}
use Rattle.std.proofs.Math.Seq.{take-append-add}
use Rattle.of_types.specs.Fields.{number_at, number_bytes, piece, with_field}
use Rattle.of_types.specs.laws.FieldLaws.{number_at-take, length-number_bytes}
use Rattle.eth_key.specs.declared.ipv4.Ipv4Header.{Ipv4Header}
use Rattle.eth_key.specs.Ipv4.{IsWithin, protocol, is_fragment}
use Rattle.frame_edit.specs.Checksum.{word_sum, checksum}
use Rattle.frame_edit.specs.laws.ChecksumLaws.{word_sum-append, word_sum-number, checksum_fits, checksum-verified}
use Rattle.frame_edit.specs.Datagram.{cleared, header_bytes, header_checksum_place, header_checksum, with_header_checksum, datagram_end, segment, pseudo_header, covered, has_field}
use Rattle.frame_edit.specs.laws.FieldLaws.{number_at-with_field_later, take-with_field}

-- A field behind the header has nothing to do with the total length.
pub end_of_cleared : (header : Ipv4Header) (at : ℕ) (frame : List ℕ) → IsWithin header frame → header.end ≤ at → at ≤ length frame → datagram_end header (cleared at frame) ≡ datagram_end header frame
end_of_cleared header at frame within behind room =
    ap (λ (n : ℕ). header.start + n) (number_at-with_field_later 2 (header.start + 2) at (number_bytes 2 0) frame (omega (arith, within.at_least)) room)

-- ---- A field within a part of the bytes.

pub piece-with_field : (k n start : ℕ) (field bytes : List ℕ) → start + k + length field ≤ length bytes
    → piece (k + (length field + n)) start (with_field (start + k) field bytes) ≡ take k (drop start bytes) ++ (field ++ take n (drop (start + k + length field) bytes))
piece-with_field k n start field bytes within =
    let front = take k (drop start bytes) in
    let rest = drop (start + k + length field) bytes in
    let len : length (take (start + k) bytes) ≡ start + k = omega (arith, length-take (start + k) bytes) in
    let front_len : length front ≡ k = omega (arith, length-take k (drop start bytes), length-drop start bytes) in
    let dropped : drop start (with_field (start + k) field bytes) ≡ front ++ (field ++ rest) =
    drop-append-le start (take (start + k) bytes) (field ++ rest) (omega arith)
    ∙ ap (λ (xs : List ℕ). xs ++ (field ++ rest)) (drop-take start k bytes) in
    ap (take (k + (length field + n))) dropped
    ∙ ap (λ (i : ℕ). take (i + (length field + n)) (front ++ (field ++ rest))) (sym front_len)
    ∙ take-append-add front (field ++ rest) (length field + n)
    ∙ ap (λ (xs : List ℕ). front ++ xs) (take-append-add field rest n)

-- A number at an even place of a part counts as itself in the part's sum.
word_sum-part : (words n start value : ℕ) (bytes : List ℕ) → start + 2 * words + 2 ≤ length bytes → value < 2 ^ 16
    → word_sum (piece (2 * words + (2 + n)) start (with_field (start + 2 * words) (number_bytes 2 value) bytes))
    ≡ word_sum (take (2 * words) (drop start bytes)) + (value + word_sum (take n (drop (start + 2 * words + 2) bytes)))
word_sum-part words n start value bytes within lt =
    let width : length (number_bytes 2 value) ≡ 2 = length-number_bytes 2 value in
    let parts = piece-with_field (2 * words) n start (number_bytes 2 value) bytes (omega (arith, width)) in
    let parts2 : piece (2 * words + (2 + n)) start (with_field (start + 2 * words) (number_bytes 2 value) bytes) ≡ take (2 * words) (drop start bytes) ++ (number_bytes 2 value ++ take n (drop (start + 2 * words + 2) bytes)) =
    subst (λ (w : ℕ). piece (2 * words + (w + n)) start (with_field (start + 2 * words) (number_bytes 2 value) bytes) ≡ take (2 * words) (drop start bytes) ++ (number_bytes 2 value ++ take n (drop (start + 2 * words + w) bytes))) width parts in
    ap word_sum parts2
    ∙ word_sum-number words value (take (2 * words) (drop start bytes)) (take n (drop (start + 2 * words + 2) bytes)) (omega (arith, length-take (2 * words) (drop start bytes), length-drop start bytes)) lt

pub word_sum-filled : (words n start at len value : ℕ) (bytes : List ℕ) → at ≡ start + 2 * words → len ≡ 2 * words + (2 + n) → at + 2 ≤ length bytes → value < 2 ^ 16
    → word_sum (piece len start (with_field at (number_bytes 2 value) bytes)) ≡ word_sum (piece len start (cleared at bytes)) + value
word_sum-filled words n start at len value bytes at_is len_is within lt =
    let filled = word_sum-part words n start value bytes (omega arith) lt in
    let empty = word_sum-part words n start 0 bytes (omega arith) (omega arith) in
    rw (at_is, len_is) (omega (arith, filled, empty))

-- ---- The header's checksum verifies.

pub header_verifies : (header : Ipv4Header) (frame : List ℕ) → IsWithin header frame → checksum (word_sum (header_bytes header (with_header_checksum header frame))) ≡ 0
unfolding with_header_checksum header_checksum
header_verifies header frame within =
    let at = header_checksum_place header in
    let sum = word_sum (header_bytes header (cleared at frame)) in
    let filled : word_sum (header_bytes header (with_field at (number_bytes 2 (checksum sum)) frame)) ≡ sum + checksum sum =
    word_sum-filled 5 (header.end - header.start - 12) header.start at (header.end - header.start) (checksum sum) frame refl (omega (arith, within.at_least)) (omega (arith, within.at_least, within.whole)) (checksum_fits sum) in
    ap checksum filled ∙ checksum-verified sum

-- ---- What stands behind a header has nothing to do with it.

pub number-in_header : (n p : ℕ) (header : Ipv4Header) (old new : List ℕ) → take header.end new ≡ take header.end old → p + n ≤ header.end → number_at n p new ≡ number_at n p old
number-in_header n p header old new same within =
    sym (number_at-take n p header.end new within) ∙ ap (number_at n p) same ∙ number_at-take n p header.end old within

pub header_bytes-same : (header : Ipv4Header) (old new : List ℕ) → header.start + 20 ≤ header.end → take header.end new ≡ take header.end old → header_bytes header new ≡ header_bytes header old
header_bytes-same header old new long same =
    let parts : header.end ≡ header.start + (header.end - header.start) = omega arith in
    let part : (bytes : List ℕ) → header_bytes header bytes ≡ drop header.start (take header.end bytes) = λ bytes. sym (drop-take header.start (header.end - header.start) bytes) ∙ ap (λ (e : ℕ). drop header.start (take e bytes)) (sym parts) in
    part new ∙ ap (drop header.start) same ∙ sym (part old)

pub take-field_behind : (header : Ipv4Header) (at : ℕ) (field frame : List ℕ) → header.end ≤ at → at ≤ length frame → take header.end (with_field at field frame) ≡ take header.end frame
take-field_behind header at field frame behind within =
    sym (take-take header.end at (with_field at field frame) behind) ∙ ap (take header.end) (take-with_field at field frame within) ∙ take-take header.end at frame behind

end-same : (header : Ipv4Header) (old new : List ℕ) → header.start + 20 ≤ header.end → take header.end new ≡ take header.end old → datagram_end header new ≡ datagram_end header old
end-same header old new long same = ap (λ (n : ℕ). header.start + n) (number-in_header 2 (header.start + 2) header old new same (omega arith))

pub protocol-same : (header : Ipv4Header) (old new : List ℕ) → header.start + 20 ≤ header.end → take header.end new ≡ take header.end old → protocol header new ≡ protocol header old
protocol-same header old new long same = number-in_header 1 (header.start + 9) header old new same (omega arith)

pseudo_header-same : (header : Ipv4Header) (old new : List ℕ) → header.start + 20 ≤ header.end → take header.end new ≡ take header.end old → pseudo_header header new ≡ pseudo_header header old
unfolding pseudo_header
pseudo_header-same header old new long same =
    rw (number-in_header 4 (header.start + 12) header old new same (omega arith), number-in_header 4 (header.start + 16) header old new same (omega arith), protocol-same header old new long same, end-same header old new long same) refl

pub has_field-same : (header : Ipv4Header) (at : ℕ) (old new : List ℕ) → header.start + 20 ≤ header.end → length new ≡ length old → take header.end new ≡ take header.end old → has_field header at new ≡ has_field header at old
unfolding has_field is_fragment
has_field-same header at old new long len same =
    rw (end-same header old new long same, len, number-in_header 2 (header.start + 6) header old new same (omega arith)) refl

-- ---- The segment's checksum verifies.

pub record FieldFits (header : Ipv4Header) (at : ℕ) (frame : List ℕ) : Type 0 where
  pub whole : datagram_end header frame ≤ length frame
  pub within : at + 2 ≤ datagram_end header frame

pub has_field-true : (header : Ipv4Header) (at : ℕ) (frame : List ℕ) → has_field header at frame ≡ true → FieldFits header at frame
unfolding has_field
has_field-true header at frame e =
    let p = and_parts (leb (datagram_end header frame) (length frame) && not (is_fragment header frame)) (leb (at + 2) (datagram_end header frame)) e in
    let q = and_parts (leb (datagram_end header frame) (length frame)) (not (is_fragment header frame)) p.0 in
    record { whole = leb-true _ _ q.0; within = leb-true _ _ p.1 }

pseudo_header-len : (header : Ipv4Header) (frame : List ℕ) → length (pseudo_header header frame) ≡ 2 * 6
unfolding pseudo_header
pseudo_header-len header frame =
    let source = number_bytes 4 (number_at 4 (header.start + 12) frame) in
    let target = number_bytes 4 (number_at 4 (header.start + 16) frame) in
    let middle : List ℕ = 0 ∷ protocol header frame ∷ [] in
    let last = number_bytes 2 (datagram_end header frame - header.end) in
    omega (arith, length-append ((source ++ target) ++ middle) last, length-append (source ++ target) middle, length-append source target, length-number_bytes 4 (number_at 4 (header.start + 12) frame), length-number_bytes 4 (number_at 4 (header.start + 16) frame), length-number_bytes 2 (datagram_end header frame - header.end))

pub covered-filled : (words at value : ℕ) (header : Ipv4Header) (frame : List ℕ) → IsWithin header frame → FieldFits header at frame → at ≡ header.end + 2 * words → value < 2 ^ 16
    → word_sum (covered header (with_field at (number_bytes 2 value) frame)) ≡ word_sum (covered header (cleared at frame)) + value
covered-filled words at value header frame within fits at_is lt =
    let new = with_field at (number_bytes 2 value) frame in
    let old = cleared at frame in
    let room : at ≤ length frame = omega (arith, fits.whole, fits.within) in
    let behind : header.end ≤ at = omega arith in
    let new_same = take-field_behind header at (number_bytes 2 value) frame behind room in
    let old_same = take-field_behind header at (number_bytes 2 0) frame behind room in
    let same : take header.end new ≡ take header.end old = new_same ∙ sym old_same in
    let pseudo = pseudo_header-same header old new within.at_least same in
    let ends : datagram_end header new - header.end ≡ datagram_end header frame - header.end = ap (λ (e : ℕ). e - header.end) (end-same header frame new within.at_least new_same) in
    let old_ends : datagram_end header old - header.end ≡ datagram_end header frame - header.end = ap (λ (e : ℕ). e - header.end) (end-same header frame old within.at_least old_same) in
    let len = datagram_end header frame - header.end in
    let filled = word_sum-filled words (len - 2 * words - 2) header.end at len value frame at_is (omega (arith, fits.within)) (omega (arith, fits.whole, fits.within)) lt in
    let segments : word_sum (segment header new) ≡ word_sum (segment header old) + value =
    ap (λ (n : ℕ). word_sum (piece n header.end new)) ends ∙ filled ∙ ap (λ (n : ℕ). word_sum (piece n header.end old) + value) (sym old_ends) in
    let new_sum = word_sum-append 6 (pseudo_header header new) (segment header new) (pseudo_header-len header new) in
    let old_sum = word_sum-append 6 (pseudo_header header old) (segment header old) (pseudo_header-len header old) in
    omega (arith, new_sum, old_sum, segments, ap word_sum pseudo)
