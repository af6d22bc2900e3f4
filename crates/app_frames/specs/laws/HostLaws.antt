-- Laws of the frames of the host: what is written is read again, what is read is spelled so, and what is decided
-- stays, whatever follows.
use Rattle.std.proofs.Common.{◌≡◌, ℕ, ◌+◌, ◌-◌, ◌^◌, ◌<◌, ◌≤◌, List, ◌++◌, length, take, drop, Some, None, Ok, Err, refl, sym, ap, ◌∙◌, arith}
use Rattle.std.specs.Prelude.{◌↔◌}
use Rattle.std.proofs.lemmas.List.{length-take-le, drop_at}
use Rattle.of_types.specs.Fields.{number_at, piece, IsBytes}
use Rattle.of_types.specs.laws.FieldLaws.{number_at-lt, IsBytes-piece, length-piece}
use Rattle.app_frames.specs.declared.fault.FrameFault.{FrameFault}
use Rattle.app_frames.specs.declared.fault.FrameFault.TheVariants.{TooLong}
use Rattle.app_frames.specs.declared.frame.HostFrame.{HostFrame}
use Rattle.app_frames.specs.Kinds.{number_of_host, host_kind_of}
use Rattle.app_frames.specs.laws.KindLaws.{number_of_host-lt, host_kind_of-number_of_host, number_of_host-host_kind_of}
use Rattle.app_frames.specs.laws.ReadingLaws.{same_found, read_from, read_is, frame_of_stays, frame_none, frame_before, frame_alone, IsFront-framed, length-framed, piece-framed, framed_from, never_too_long}
use Rattle.app_frames.specs.Bodies.{host_body}
use Rattle.app_frames.specs.laws.BodyLaws.{host_body-spelled, length_host_body, was_host}
use Rattle.app_frames.specs.Spelling.{framed, host_kind, host_body_bytes, host_bytes}
use Rattle.app_frames.specs.Frames.{host_reading, IsHostPartial, HostFits, IsHostFrame, IsHostAtFront}

-- the length can be said
host_body_fits : (frame : HostFrame) → IsHostFrame frame → 1 + length (host_body_bytes frame) < 2 ^ 32
host_body_fits frame is = omega (arith, length_host_body frame is.0, is.1)

-- What is written is read again, whatever follows.
pub host_reading-host_bytes : (frame : HostFrame) (more : List ℕ) → IsHostFrame frame → host_reading (host_bytes frame ++ more) ≡ Ok (Some (frame, length (host_bytes frame)))
unfolding host_reading host_bytes
host_reading-host_bytes frame more is =
    let kind = host_kind frame in
    let body = host_body_bytes frame in
    let front = IsFront-framed None host_kind_of kind (number_of_host kind) body more (number_of_host-lt kind) (host_kind_of-number_of_host kind) (host_body_fits frame is) tt in
    let read = read_is None host_kind_of host_body (framed (number_of_host kind) body ++ more) kind frame (5 + length body) front (ap (host_body kind) (piece-framed (number_of_host kind) body more) ∙ host_body-spelled frame is) in
    read ∙ ap (λ (size : ℕ). Ok (Some (frame, size))) (sym (length-framed (number_of_host kind) body))

-- What is read is in the grammar, and the bytes spell it.
pub host_at_front : (bytes : List ℕ) (frame : HostFrame) (size : ℕ) → IsBytes bytes → host_reading bytes ≡ Ok (Some (frame, size)) → IsHostAtFront frame size bytes
unfolding host_reading host_bytes
host_at_front bytes frame size fit e =
    let read = read_from None host_kind_of host_body bytes frame size e in
    let front = read.front in
    let len = length-piece (size - 5) 5 bytes (omega (arith, front.said, front.some, front.whole)) in
    let was = was_host read.kind (piece (size - 5) 5 bytes) frame (IsBytes-piece (size - 5) 5 bytes fit) read.body in
    let number : number_of_host (host_kind frame) ≡ number_at 1 4 bytes = ap number_of_host was.kind_is ∙ sym (number_of_host-host_kind_of (number_at 1 4 bytes) read.kind front.kind_is) in
    let said = number_at-lt 4 0 bytes fit in
    let fits : HostFits frame = omega (arith, length_host_body frame was.numbers, ap (λ (xs : List ℕ). length xs) was.spelled_is, len, front.said, said) in
    let same : framed (number_of_host (host_kind frame)) (host_body_bytes frame) ≡ take size bytes =
    rw (number, was.spelled_is) (framed_from None host_kind_of read.kind size bytes fit front) in
    record { well_formed = (was.numbers, fits); spelled_is = same; size_is = ap (λ (xs : List ℕ). length xs) same ∙ length-take-le size bytes front.whole }

-- a frame has 5 bytes at least
pub host_size : (bytes : List ℕ) (frame : HostFrame) (size : ℕ) → host_reading bytes ≡ Ok (Some (frame, size)) → (5 ≤ size) × (size ≤ length bytes)
unfolding host_reading
host_size bytes frame size e =
    let front = (read_from None host_kind_of host_body bytes frame size e).front in
    (omega (arith, front.said, front.some), front.whole)

-- What is decided stays, whatever follows.
pub host_stays : (bytes more : List ℕ) → ¬ (host_reading bytes ≡ Ok None) → host_reading (bytes ++ more) ≡ host_reading bytes
unfolding host_reading
host_stays bytes more decided = frame_of_stays None host_kind_of host_body bytes more decided

pub host_whole_stays : (bytes more : List ℕ) (frame : HostFrame) (size : ℕ) → host_reading bytes ≡ Ok (Some (frame, size)) → host_reading (bytes ++ more) ≡ Ok (Some (frame, size))
host_whole_stays bytes more frame size e = host_stays bytes more (λ none. absurd cc) ∙ e

pub host_fault_stays : (bytes more : List ℕ) (fault : FrameFault) → host_reading bytes ≡ Err fault → host_reading (bytes ++ more) ≡ Err fault
host_fault_stays bytes more fault e = host_stays bytes more (λ none. absurd cc) ∙ e

-- A whole frame needs no more than its own bytes.
pub host_alone : (bytes : List ℕ) (frame : HostFrame) (size : ℕ) → host_reading bytes ≡ Ok (Some (frame, size)) → host_reading (take size bytes) ≡ Ok (Some (frame, size))
unfolding host_reading
host_alone bytes frame size e = frame_alone None host_kind_of host_body bytes frame size e

-- None exactly where the frame is yet to come
pub host_none : (bytes : List ℕ) → (host_reading bytes ≡ Ok None) ↔ IsHostPartial bytes
unfolding host_reading
host_none bytes = frame_none None host_kind_of host_body bytes

-- A front of a whole frame is yet to come.
pub host_before : (bytes more : List ℕ) (frame : HostFrame) (size : ℕ) → host_reading (bytes ++ more) ≡ Ok (Some (frame, size)) → length bytes < size → host_reading bytes ≡ Ok None
unfolding host_reading
host_before bytes more frame size e short = frame_before None host_kind_of host_body bytes more frame size e short

-- No length is too long.
pub host_never_too_long : (bytes : List ℕ) → host_reading bytes ≡ Err TooLong → ⊥
unfolding host_reading
host_never_too_long bytes e = never_too_long host_kind_of host_body bytes e

-- What is spelled one after the other is told apart.
pub host_one : (frame other : HostFrame) (more rest : List ℕ) → IsHostFrame frame → IsHostFrame other → host_bytes frame ++ more ≡ host_bytes other ++ rest → (frame ≡ other) × (more ≡ rest)
host_one frame other more rest is is' e =
    let here : HostFrame × ℕ = (frame, length (host_bytes frame)) in
    let there : HostFrame × ℕ = (other, length (host_bytes other)) in
    let same = same_found here there (sym (host_reading-host_bytes frame more is) ∙ ap host_reading e ∙ host_reading-host_bytes other rest is') in
    let frames : frame ≡ other = ap (λ (f : HostFrame × ℕ). f.0) same in (
      frames,
      sym (drop_at (host_bytes frame) more (length (host_bytes frame)) refl) ∙ ap (λ (xs : List ℕ). drop (length (host_bytes frame)) xs) e
          ∙ ap (λ (f : HostFrame). drop (length (host_bytes f)) (host_bytes other ++ rest)) frames ∙ drop_at (host_bytes other) rest (length (host_bytes other)) refl,
    )
