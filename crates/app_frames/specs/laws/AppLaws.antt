-- Laws of the frames of applications: what is written is read again, what is read is spelled so, and what is decided
-- stays, whatever follows.
use Rattle.std.proofs.Common.{◌≡◌, ℕ, ◌+◌, ◌-◌, ◌<◌, ◌≤◌, List, ◌++◌, length, take, drop, Some, None, Ok, Err, refl, sym, ap, ◌∙◌, arith, inl, inr}
use Rattle.std.specs.Prelude.{◌↔◌}
use Rattle.std.proofs.lemmas.List.{length-take-le, drop_at}
use Rattle.std.proofs.lemmas.Bool.{cases_lt}
use Rattle.of_types.specs.Fields.{number_at, piece, IsBytes}
use Rattle.of_types.specs.laws.FieldLaws.{IsBytes-piece, length-piece}
use Rattle.of_types.specs.Layout.{width}
use Rattle.app_frames.specs.declared.fault.FrameFault.{FrameFault}
use Rattle.app_frames.specs.declared.frame.AppFrame.{AppFrame}
use Rattle.app_frames.specs.declared.frame.AppFrame.TheVariants.{Message, Save, Keep, Undo, Done, Ready}
use Rattle.app_frames.specs.Kinds.{number_of_app, app_kind_of}
use Rattle.app_frames.specs.laws.KindLaws.{number_of_app-lt, app_kind_of-number_of_app, number_of_app-app_kind_of}
use Rattle.app_frames.specs.laws.ReadingLaws.{same_found, read_from, read_is, frame_of_stays, frame_none, frame_before, frame_alone, IsFront-framed, length-framed, piece-framed, framed_from}
use Rattle.app_frames.specs.Bodies.{app_body}
use Rattle.app_frames.specs.laws.BodyLaws.{app_body-spelled, length_app_body, was_app}
use Rattle.app_frames.specs.Spelling.{framed, app_kind, app_fields, app_tail, app_body_bytes, app_bytes}
use Rattle.app_frames.specs.Frames.{longest, app_reading, IsAppPartial, IsAppFrame, IsAppAtFront}

-- no body is longer than the table lets it be
app_body_fits : (frame : AppFrame) → IsAppFrame frame → length (app_body_bytes frame) ≤ 1048578
app_body_fits frame is = omega (arith, length_app_body frame is, within frame is)
  where
    within : (frame : AppFrame) → IsAppFrame frame → width (app_fields frame) + length (app_tail frame) ≤ 1048578
    within (Message dpid bytes) is = omega (arith, is.1.1)
    within Save is = omega arith
    within Keep is = omega arith
    within Undo is = omega arith
    within (Done stop None) is = omega arith
    within (Done stop (Some checkpoint)) is = omega (arith, is.1)
    within Ready is = omega arith

-- What is written is read again, whatever follows.
pub app_reading-app_bytes : (frame : AppFrame) (more : List ℕ) → IsAppFrame frame → app_reading (app_bytes frame ++ more) ≡ Ok (Some (frame, length (app_bytes frame)))
unfolding app_reading app_bytes
app_reading-app_bytes frame more is =
    let kind = app_kind frame in
    let body = app_body_bytes frame in
    let front = IsFront-framed (Some longest) app_kind_of kind (number_of_app kind) body more (number_of_app-lt kind) (app_kind_of-number_of_app kind) (omega (arith, app_body_fits frame is)) (omega (arith, app_body_fits frame is)) in
    let read = read_is (Some longest) app_kind_of app_body (framed (number_of_app kind) body ++ more) kind frame (5 + length body) front (ap (app_body kind) (piece-framed (number_of_app kind) body more) ∙ app_body-spelled frame is) in
    read ∙ ap (λ (size : ℕ). Ok (Some (frame, size))) (sym (length-framed (number_of_app kind) body))

-- What is read is in the grammar, and the bytes spell it.
pub app_at_front : (bytes : List ℕ) (frame : AppFrame) (size : ℕ) → IsBytes bytes → app_reading bytes ≡ Ok (Some (frame, size)) → IsAppAtFront frame size bytes
unfolding app_reading app_bytes
app_at_front bytes frame size fit e =
    let read = read_from (Some longest) app_kind_of app_body bytes frame size e in
    let front = read.front in
    let len = length-piece (size - 5) 5 bytes (omega (arith, front.said, front.some, front.whole)) in
    let was = was_app read.kind (piece (size - 5) 5 bytes) frame (IsBytes-piece (size - 5) 5 bytes fit) (omega (arith, len, front.said, front.is_within)) read.body in
    let number : number_of_app (app_kind frame) ≡ number_at 1 4 bytes = ap number_of_app was.kind_is ∙ sym (number_of_app-app_kind_of (number_at 1 4 bytes) read.kind front.kind_is) in
    let same : framed (number_of_app (app_kind frame)) (app_body_bytes frame) ≡ take size bytes =
    rw (number, was.spelled_is) (framed_from (Some longest) app_kind_of read.kind size bytes fit front) in
    record { well_formed = was.well_formed; spelled_is = same; size_is = ap (λ (xs : List ℕ). length xs) same ∙ length-take-le size bytes front.whole }

-- a frame has 5 bytes at least, and 1,048,583 at most
pub app_size : (bytes : List ℕ) (frame : AppFrame) (size : ℕ) → app_reading bytes ≡ Ok (Some (frame, size)) → (5 ≤ size) × (size ≤ 1048583) × (size ≤ length bytes)
unfolding app_reading
app_size bytes frame size e =
    let front = (read_from (Some longest) app_kind_of app_body bytes frame size e).front in
    (omega (arith, front.said, front.some), omega (arith, front.said, front.is_within), front.whole)

-- What is decided stays, whatever follows.
pub app_stays : (bytes more : List ℕ) → ¬ (app_reading bytes ≡ Ok None) → app_reading (bytes ++ more) ≡ app_reading bytes
unfolding app_reading
app_stays bytes more decided = frame_of_stays (Some longest) app_kind_of app_body bytes more decided

pub app_whole_stays : (bytes more : List ℕ) (frame : AppFrame) (size : ℕ) → app_reading bytes ≡ Ok (Some (frame, size)) → app_reading (bytes ++ more) ≡ Ok (Some (frame, size))
app_whole_stays bytes more frame size e = app_stays bytes more (λ none. absurd cc) ∙ e

pub app_fault_stays : (bytes more : List ℕ) (fault : FrameFault) → app_reading bytes ≡ Err fault → app_reading (bytes ++ more) ≡ Err fault
app_fault_stays bytes more fault e = app_stays bytes more (λ none. absurd cc) ∙ e

-- A whole frame needs no more than its own bytes.
pub app_alone : (bytes : List ℕ) (frame : AppFrame) (size : ℕ) → app_reading bytes ≡ Ok (Some (frame, size)) → app_reading (take size bytes) ≡ Ok (Some (frame, size))
unfolding app_reading
app_alone bytes frame size e = frame_alone (Some longest) app_kind_of app_body bytes frame size e

-- None exactly where the frame is yet to come
pub app_none : (bytes : List ℕ) → (app_reading bytes ≡ Ok None) ↔ IsAppPartial bytes
unfolding app_reading
app_none bytes = frame_none (Some longest) app_kind_of app_body bytes

-- A front of a whole frame is yet to come.
pub app_before : (bytes more : List ℕ) (frame : AppFrame) (size : ℕ) → app_reading (bytes ++ more) ≡ Ok (Some (frame, size)) → length bytes < size → app_reading bytes ≡ Ok None
unfolding app_reading
app_before bytes more frame size e short = frame_before (Some longest) app_kind_of app_body bytes more frame size e short

-- 1,048,583 bytes are a whole frame, or refused.
pub app_ends : (bytes : List ℕ) → app_reading bytes ≡ Ok None → length bytes < 1048583
app_ends bytes e = elim (cases_lt (length bytes) 1048583) [
  | inl lt ↦ lt
  | inr le ↦ let begun = (app_none bytes).0 e (omega (arith, le)) in omega (arith, le, begun.more, begun.within)
]

-- What is spelled one after the other is told apart.
pub app_one : (frame other : AppFrame) (more rest : List ℕ) → IsAppFrame frame → IsAppFrame other → app_bytes frame ++ more ≡ app_bytes other ++ rest → (frame ≡ other) × (more ≡ rest)
app_one frame other more rest is is' e =
    let here : AppFrame × ℕ = (frame, length (app_bytes frame)) in
    let there : AppFrame × ℕ = (other, length (app_bytes other)) in
    let same = same_found here there (sym (app_reading-app_bytes frame more is) ∙ ap app_reading e ∙ app_reading-app_bytes other rest is') in
    let frames : frame ≡ other = ap (λ (f : AppFrame × ℕ). f.0) same in (
      frames,
      sym (drop_at (app_bytes frame) more (length (app_bytes frame)) refl) ∙ ap (λ (xs : List ℕ). drop (length (app_bytes frame)) xs) e
          ∙ ap (λ (f : AppFrame). drop (length (app_bytes f)) (app_bytes other ++ rest)) frames ∙ drop_at (app_bytes other) rest (length (app_bytes other)) refl,
    )
