-- Laws of frames to an application: that of an event tells its number, and those of answers and of a checkpoint tell none.
use Rattle.std.proofs.Common.{◌≡◌, ℕ, ◌+◌, ◌^◌, ◌<◌, List, [], ◌∷◌, ◌++◌, length, Some, None, refl, sym, ap, ◌∙◌, append_assoc, arith}
use Rattle.std.proofs.lemmas.List.{length-append}
use Rattle.of_types.specs.Fields.{number_at, number_bytes}
use Rattle.of_types.specs.laws.FieldLaws.{length-number_bytes, number_at-number_bytes}
use Rattle.of_types.specs.Layout.{spelled, number}
use Rattle.app_frames.specs.declared.frame.Event.{Event}
use Rattle.app_frames.specs.declared.frame.Answer.{Answer}
use Rattle.app_frames.specs.declared.frame.HostFrame.TheVariants as host
use Rattle.app_frames.specs.Kinds.{number_of_event}
use Rattle.app_frames.specs.Spelling.{framed, host_body_bytes, host_bytes}
use Rattle.lego_model.specs.Controller.{restore_frame, answer_frame, event_frame}
use Rattle.outside.specs.State.{event_number}

kind_read : (kind : ℕ) (body : List ℕ) → kind < 256 → number_at 1 4 (framed kind body) ≡ kind
unfolding framed
kind_read kind body small = number_at-number_bytes 1 4 kind (number_bytes 4 (1 + length body)) body (length-number_bytes 4 (1 + length body)) (omega (arith, small))

-- the number in front of the body
count_read : (kind count : ℕ) (more : List ℕ) → count < 2 ^ 64 → number_at 8 5 (framed kind (number_bytes 8 count ++ more)) ≡ count
unfolding framed
count_read kind count more few =
    let body = number_bytes 8 count ++ more in
    let front = number_bytes 4 (1 + length body) ++ number_bytes 1 kind in
    let five : length front ≡ 5 =
    length-append (number_bytes 4 (1 + length body)) (number_bytes 1 kind) ∙ ap (λ (n : ℕ). n + length (number_bytes 1 kind)) (length-number_bytes 4 (1 + length body)) ∙ ap (λ (n : ℕ). 4 + n) (length-number_bytes 1 kind) in
    ap (λ (bytes : List ℕ). number_at 8 5 bytes) (sym (append_assoc (number_bytes 4 (1 + length body)) (number_bytes 1 kind) body))
    ∙ number_at-number_bytes 8 5 count front more five (omega (arith, few))

event_is : (count : ℕ) (more : List ℕ) → count < 2 ^ 64 → event_number (framed 2 (number_bytes 8 count ++ more)) ≡ Some count
unfolding event_number
event_is count more few = rw (kind_read 2 (number_bytes 8 count ++ more) (omega arith)) (ap (λ (n : ℕ). Some n) (count_read 2 count more few))

pub restore_number : (checkpoint : List ℕ) → event_number (restore_frame checkpoint) ≡ None
unfolding host_bytes event_number
restore_number checkpoint = rw (kind_read 1 (host_body_bytes (host.Restore checkpoint)) (omega arith)) refl

pub answer_number : (answer : Answer) → event_number (answer_frame answer) ≡ None
unfolding host_bytes event_number
answer_number answer = rw (kind_read 3 (host_body_bytes (host.Answer answer)) (omega arith)) refl

event_body : (count moment : ℕ) (event : Event) → host_body_bytes (host.Event count moment event)
    ≡ number_bytes 8 count ++ (spelled (number 8 moment ∷ number 1 (number_of_event event.kind) ∷ number 8 event.dpid ∷ []) ++ event.body)
unfolding host_body_bytes
event_body count moment event = append_assoc (number_bytes 8 count) (spelled (number 8 moment ∷ number 1 (number_of_event event.kind) ∷ number 8 event.dpid ∷ [])) event.body

pub event_numbered : (count moment : ℕ) (event : Event) → count < 2 ^ 64 → event_number (event_frame count moment event) ≡ Some count
unfolding host_bytes
event_numbered count moment event few =
    ap (λ (body : List ℕ). event_number (framed 2 body)) (event_body count moment event)
    ∙ event_is count (spelled (number 8 moment ∷ number 1 (number_of_event event.kind) ∷ number 8 event.dpid ∷ []) ++ event.body) few
