-- A datagram whose checksums were computed anew verifies.
use Rattle.std.proofs.Common.{◌≡◌, ◌≢◌, ℕ, ◌^◌, ◌<◌, ◌≤◌, Bool, true, false, cond, eqb, not, ◌&&◌, List, length, take, refl, sym, ap, subst, ◌∙◌, inl, inr, ◌⊎◌, arith}
use Rattle.std.proofs.lemmas.Bool.{and_parts, eqb-true, eq-eqb, not-false}
use Rattle.std.proofs.lemmas.Bool.Decides.{nat_tests}
use Rattle.of_types.specs.Fields.{number_at, number_bytes, with_field}
use Rattle.of_types.specs.laws.FieldLaws.{length-number_bytes}
use Rattle.eth_key.specs.declared.ipv4.Ipv4Header.{Ipv4Header}
use Rattle.eth_key.specs.Ipv4.{IsWithin, protocol}
use Rattle.frame_edit.specs.Checksum.{word_sum, checksum}
use Rattle.frame_edit.specs.laws.ChecksumLaws.{checksum_fits, checksum-verified, checksum-verified_nonzero}
use Rattle.frame_edit.specs.Datagram.{cleared, header_checksum_place, header_checksum, with_header_checksum, covered, segment_checksum, has_field, tcp_checksum_place, udp_checksum_place, nonzero, with_tcp_checksum, with_udp_checksum, with_segment_checksum, with_checksums, Verifies}
use Rattle.frame_edit.specs.laws.DatagramLaws.{header_verifies, header_bytes-same, protocol-same, has_field-same, take-field_behind, FieldFits, has_field-true, covered-filled}
use Rattle.frame_edit.specs.laws.FieldLaws.{length-with_field}

pub either_way : {A : Type 0} (b : Bool) (x y : A) → ((b ≡ true) × (cond b x y ≡ x)) ⊎ ((b ≡ false) × (cond b x y ≡ y))
either_way true x y = inl (refl, refl)
either_way false x y = inr (refl, refl)

pub on_true : {A : Type 0} (b : Bool) (x y : A) → b ≡ true → cond b x y ≡ x
on_true true x y e = refl
on_true false x y e = absurd cc

pub on_false : {A : Type 0} (b : Bool) (x y : A) → b ≡ false → cond b x y ≡ y
on_false true x y e = absurd cc
on_false false x y e = refl

-- ---- A segment's checksum leaves the header, and the length.

pub record LeavesHeader (header : Ipv4Header) (old new : List ℕ) : Type 0 where
  pub len : length new ≡ length old
  pub front : take header.end new ≡ take header.end old

unwritten : (header : Ipv4Header) (old new : List ℕ) → new ≡ old → LeavesHeader header old new
unwritten header old new e = record { len = ap length e; front = ap (take header.end) e }

written : (header : Ipv4Header) (at value : ℕ) (old new : List ℕ) → header.end ≤ at → FieldFits header at old → new ≡ with_field at (number_bytes 2 value) old → LeavesHeader header old new
written header at value old new behind fits e =
    let width = length-number_bytes 2 value in
    record {
      len = ap length e ∙ length-with_field at (number_bytes 2 value) old (omega (arith, width, fits.whole, fits.within));
      front = ap (take header.end) e ∙ take-field_behind header at (number_bytes 2 value) old behind (omega (arith, fits.whole, fits.within));
    }

with_tcp-leaves : (header : Ipv4Header) (frame : List ℕ) → LeavesHeader header frame (with_tcp_checksum header frame)
unfolding with_tcp_checksum
with_tcp-leaves header frame =
    let at = tcp_checksum_place header in
    let value = segment_checksum header at frame in
    elim (either_way (has_field header at frame) (with_field at (number_bytes 2 value) frame) frame) [
      | inl p ↦ written header at value frame _ (omega arith) (has_field-true header at frame p.0) p.1
      | inr p ↦ unwritten header frame _ p.1
    ]

with_udp-leaves : (header : Ipv4Header) (frame : List ℕ) → LeavesHeader header frame (with_udp_checksum header frame)
unfolding with_udp_checksum
with_udp-leaves header frame =
    let at = udp_checksum_place header in
    let value = nonzero (segment_checksum header at frame) in
    let has = has_field header at frame in
    let stands = not (eqb (number_at 2 at frame) 0) in
    elim (either_way (has && stands) (with_field at (number_bytes 2 value) frame) frame) [
      | inl p ↦ written header at value frame _ (omega arith) (has_field-true header at frame (and_parts has stands p.0).0) p.1
      | inr p ↦ unwritten header frame _ p.1
    ]

pub with_segment-leaves : (header : Ipv4Header) (frame : List ℕ) → LeavesHeader header frame (with_segment_checksum header frame)
unfolding with_segment_checksum
with_segment-leaves header frame =
    let tcp = eqb (protocol header frame) 6 in
    let udp = eqb (protocol header frame) 17 in
    let other = cond udp (with_udp_checksum header frame) frame in
    elim (either_way tcp (with_tcp_checksum header frame) other) [
      | inl p ↦ subst (λ (new : List ℕ). LeavesHeader header frame new) (sym p.1) (with_tcp-leaves header frame)
      | inr p ↦ subst (λ (new : List ℕ). LeavesHeader header frame new) (sym p.1) (elim (either_way udp (with_udp_checksum header frame) frame) [
        | inl q ↦ subst (λ (new : List ℕ). LeavesHeader header frame new) (sym q.1) (with_udp-leaves header frame)
        | inr q ↦ unwritten header frame _ q.1
      ])
    ]

-- ---- What is computed verifies.

tcp_verifies : (header : Ipv4Header) (frame : List ℕ) → IsWithin header frame → protocol header frame ≡ 6 → has_field header (tcp_checksum_place header) frame ≡ true
    → checksum (word_sum (covered header (with_segment_checksum header frame))) ≡ 0
unfolding with_segment_checksum with_tcp_checksum segment_checksum
tcp_verifies header frame within is_tcp has =
    let at = tcp_checksum_place header in
    let sum = word_sum (covered header (cleared at frame)) in
    let new : with_segment_checksum header frame ≡ with_field at (number_bytes 2 (checksum sum)) frame =
    on_true (eqb (protocol header frame) 6) (with_tcp_checksum header frame) _ (eq-eqb _ _ is_tcp) ∙ on_true (has_field header at frame) _ frame has in
    ap (λ (bytes : List ℕ). checksum (word_sum (covered header bytes))) new
    ∙ ap checksum (covered-filled 8 at (checksum sum) header frame within (has_field-true header at frame has) refl (checksum_fits sum))
    ∙ checksum-verified sum

nonzero_fits : (value : ℕ) → value < 2 ^ 16 → nonzero value < 2 ^ 16
nonzero_fits value lt = grind (arith, nat_tests)

udp_verifies : (header : Ipv4Header) (frame : List ℕ) → IsWithin header frame → protocol header frame ≡ 17 → has_field header (udp_checksum_place header) frame ≡ true
    → number_at 2 (udp_checksum_place header) (with_segment_checksum header frame) ≢ 0 → checksum (word_sum (covered header (with_segment_checksum header frame))) ≡ 0
unfolding with_segment_checksum with_udp_checksum segment_checksum
udp_verifies header frame within is_udp has stands =
    let at = udp_checksum_place header in
    let sum = word_sum (covered header (cleared at frame)) in
    let value = nonzero (checksum sum) in
    let has_one = not (eqb (number_at 2 at frame) 0) in
    let chosen : with_segment_checksum header frame ≡ with_udp_checksum header frame =
    on_false (eqb (protocol header frame) 6) (with_tcp_checksum header frame) _ (ap (λ (n : ℕ). eqb n 6) is_udp)
    ∙ on_true (eqb (protocol header frame) 17) (with_udp_checksum header frame) frame (eq-eqb _ _ is_udp) in
    elim (either_way (has_field header at frame && has_one) (with_field at (number_bytes 2 value) frame) frame) [
      | inl p ↦
          ap (λ (bytes : List ℕ). checksum (word_sum (covered header bytes))) (chosen ∙ p.1)
          ∙ ap checksum (covered-filled 3 at value header frame within (has_field-true header at frame has) refl (nonzero_fits (checksum sum) (checksum_fits sum)))
          ∙ checksum-verified_nonzero sum
      | inr p ↦
          let none : has_one ≡ false = sym (ap (λ (b : Bool). b && has_one) has) ∙ p.0 in
          let zero_stands : number_at 2 at frame ≡ 0 = eqb-true _ _ (not-false _ none) in
          absurd (stands (ap (number_at 2 at) (chosen ∙ p.1) ∙ zero_stands))
    ]

pub with_checksums-verify : (header : Ipv4Header) (frame : List ℕ) → IsWithin header frame → Verifies header (with_checksums header frame)
unfolding with_header_checksum
with_checksums-verify header frame within =
    let first = with_header_checksum header frame in
    let width = length-number_bytes 2 (header_checksum header frame) in
    let len : length first ≡ length frame = length-with_field (header_checksum_place header) (number_bytes 2 (header_checksum header frame)) frame (omega (arith, width, within.at_least, within.whole)) in
    let within_first : IsWithin header first = record { at_least = within.at_least; at_most = within.at_most; whole = omega (arith, within.whole, len) } in
    let leaves = with_segment-leaves header first in
    let new = with_checksums header frame in
    record {
      ipv4 = ap (λ (bytes : List ℕ). checksum (word_sum bytes)) (header_bytes-same header first new within.at_least leaves.front) ∙ header_verifies header frame within;
      tcp = λ is_tcp has. tcp_verifies header first within_first (sym (protocol-same header first new within.at_least leaves.front) ∙ is_tcp) (sym (has_field-same header (tcp_checksum_place header) first new within.at_least leaves.len leaves.front) ∙ has);
      udp = λ is_udp has stands. udp_verifies header first within_first (sym (protocol-same header first new within.at_least leaves.front) ∙ is_udp) (sym (has_field-same header (udp_checksum_place header) first new within.at_least leaves.len leaves.front) ∙ has) stands;
    }
