-- Laws of the headers that are found.
use Rattle.std.proofs.Common.{◌≡◌, ℕ, ◌+◌, ◌/◌, ◌≤◌, Bool, true, false, cond, ◌&&◌, List, length, Option, Some, None, eqb, leb, subst, arith}
use Rattle.std.proofs.lemmas.Bool.{and_parts, leb-true}
use Rattle.of_types.specs.Fields.{number_at}
use Rattle.eth_key.specs.declared.ethernet.Payload.{Payload}
use Rattle.eth_key.specs.declared.ipv4.Ipv4Header.{Ipv4Header}
use Rattle.eth_key.specs.Ethernet.{payload_of}
use Rattle.eth_key.specs.Ipv4.{header_len, is_header, header_at, header_in, ipv4_header, IsWithin}
use Rattle.std.proofs.lemmas.Option.{cond_some}

taken : {A : Type 0} (b : Bool) (o : Option A) (y : A) → cond b o None ≡ Some y → o ≡ Some y
taken true o y e = e
taken false o y e = absurd cc

IsWithin-header_at : (start : ℕ) (frame : List ℕ) (header : Ipv4Header) → header_at start frame ≡ Some header → IsWithin header frame
unfolding header_at is_header
IsWithin-header_at start frame header e =
    let found : Ipv4Header = record { start = start; end = start + header_len start frame } in
    let fixed = leb (start + 20) (length frame) in
    let version = eqb (number_at 1 start frame / 16) 4 in
    let long = leb 20 (header_len start frame) in
    let whole = leb (start + header_len start frame) (length frame) in
    let c = cond_some (fixed && version && long && whole) found header e in
    let p = and_parts (fixed && version && long) whole c.0 in
    let q = and_parts (fixed && version) long p.0 in
    let at_least : 20 ≤ header_len start frame = leb-true _ _ q.1 in
    let within : start + header_len start frame ≤ length frame = leb-true _ _ p.1 in
    subst (λ (h : Ipv4Header). IsWithin h frame) c.1 (record { at_least = omega arith; at_most = omega arith; whole = within })

IsWithin-header_in : (payload : Option Payload) (frame : List ℕ) (header : Ipv4Header) → header_in payload frame ≡ Some header → IsWithin header frame
IsWithin-header_in None frame header e = absurd cc
IsWithin-header_in (Some payload) frame header e =
    IsWithin-header_at payload.start frame header (taken (eqb payload.dl_type 0x0800) (header_at payload.start frame) header e)

-- The header that a frame has lies within it.
pub IsWithin-ipv4_header : (frame : List ℕ) (header : Ipv4Header) → ipv4_header frame ≡ Some header → IsWithin header frame
IsWithin-ipv4_header frame header e = IsWithin-header_in (payload_of frame) frame header e
