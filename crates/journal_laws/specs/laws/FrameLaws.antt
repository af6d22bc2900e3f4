-- Laws of frames to an application: their kind is their fifth byte; an Event tells an event, and an answer and a checkpoint tell none.
use Rattle.std.specs.Prelude.{◌≡◌, ℕ, List, [], ◌∷◌, true, false, slice_index, refl}
use Rattle.std.proofs.Common.{arith}
use Rattle.of_types.specs.Fields.{number_at, number_bytes}
use Rattle.app_frames.specs.declared.frame.Event.{Event}
use Rattle.app_frames.specs.declared.frame.Answer.{Answer}
use Rattle.app_frames.specs.Spelling.{framed, host_bytes}
use Rattle.lego_model.specs.Journal.{is_event}
use Rattle.lego_model.specs.Controller.{restore_frame, answer_frame, event_frame}

-- a frame's kind, read as a number of one byte behind its four bytes of length, is that byte
pub kind_byte : (bytes : List ℕ) → number_at 1 4 bytes ≡ slice_index bytes 4
unfolding number_at
kind_byte [] = refl
kind_byte (a ∷ []) = refl
kind_byte (a ∷ b ∷ []) = refl
kind_byte (a ∷ b ∷ c ∷ []) = refl
kind_byte (a ∷ b ∷ c ∷ d ∷ []) = refl
kind_byte (a ∷ b ∷ c ∷ d ∷ e ∷ rest) = omega arith

framed_event : (body : List ℕ) → is_event (framed 2 body) ≡ true
unfolding framed number_bytes
framed_event body = refl

framed_answer : (body : List ℕ) → is_event (framed 3 body) ≡ false
unfolding framed number_bytes
framed_answer body = refl

framed_restore : (body : List ℕ) → is_event (framed 1 body) ≡ false
unfolding framed number_bytes
framed_restore body = refl

pub event_is : (number moment : ℕ) (event : Event) → is_event (event_frame number moment event) ≡ true
unfolding host_bytes
event_is number moment event = framed_event _

pub answer_is_none : (answer : Answer) → is_event (answer_frame answer) ≡ false
unfolding host_bytes
answer_is_none answer = framed_answer _

pub restore_is_none : (checkpoint : List ℕ) → is_event (restore_frame checkpoint) ≡ false
unfolding host_bytes
restore_is_none checkpoint = framed_restore _
