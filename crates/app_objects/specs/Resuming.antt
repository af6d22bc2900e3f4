-- Applications that resume exactly at their checkpoints. A state is data: a checkpoint, and the frames of the host that came since the
-- Restore with it. All of this is our own choice.
use Rattle.std.specs.Prelude.{◌≡◌, ℕ, Bool, true, false, List, [], ◌∷◌, ◌++◌, length, drop, Option, Some, MatchOption, IsTrue}
use Rattle.std.specs.List.{AllByRecursion, flat_map}
use Rattle.of_types.specs.Fields.{IsBytes}
use Rattle.app_frames.specs.declared.frame.AppFrame.{AppFrame}
use Rattle.app_frames.specs.declared.frame.AppFrame.TheVariants.{Done}
use Rattle.app_frames.specs.declared.frame.HostFrame.{HostFrame}
use Rattle.app_frames.specs.declared.frame.HostFrame.TheVariants.{Event, Answer}
use Rattle.app_frames.specs.Frames.{IsAppFrame}
use Rattle.app_frames.specs.Spelling.{app_bytes}
use Rattle.app_objects.specs.Machine.{Reaction, Would}
use Rattle.app_objects.specs.ByEvents.{frame_in}

-- ---- States

-- what it gives at some frames behind those that came
abbrev pub given_behind : Would → List ℕ → List (List ℕ) → List (List ℕ) → List Reaction
given_behind would checkpoint came frames = drop (length came) (would checkpoint (came ++ frames))

abbrev pub bytes_in : List Reaction → List ℕ
bytes_in reactions = flat_map (λ reaction. reaction.bytes) reactions

-- in both states it gives the same at all frames to come
abbrev pub SameState : Would → List ℕ → List (List ℕ) → List ℕ → List (List ℕ) → Type 0
SameState would checkpoint came other came' =
    (frames : List (List ℕ)) → given_behind would checkpoint came frames ≡ given_behind would other came' frames

-- ---- Turns

abbrev pub is_event : Option HostFrame → Bool
is_event (Some (Event count moment event)) = true
is_event other = false

abbrev pub is_answer : Option HostFrame → Bool
is_answer (Some (Answer answer)) = true
is_answer other = false

-- the frames of one turn: an event, and answers
abbrev pub IsTurn : List (List ℕ) → Type 0
IsTurn [] = ⊥
IsTurn (event ∷ answers) = IsTrue (is_event (frame_in event)) × AllByRecursion (λ answer. IsTrue (is_answer (frame_in answer))) answers

-- In this turn it gave whole frames, the last of them Done with what it hands over.
pub record HandsOver (would : Would) (checkpoint : List ℕ) (came turn : List (List ℕ)) (handed : Option (List ℕ)) : Type 0 where
  pub said : List AppFrame
  pub stop : Bool
  pub frames : AllByRecursion IsAppFrame said
  pub done : IsAppFrame (Done stop handed)
  pub bytes : bytes_in (given_behind would checkpoint came turn) ≡ flat_map app_bytes said ++ app_bytes (Done stop handed)

-- After any checkpoint and any frames: with each Done it hands over a checkpoint, behind the turn it stands as behind a Restore with that
-- checkpoint, and until the next event it gives nothing.
pub record IsMachine (would : Would) : Type 0 where
  pub resumes : (checkpoint : List ℕ) (came turn : List (List ℕ)) (handed : Option (List ℕ)) → IsBytes checkpoint → AllByRecursion IsBytes came → AllByRecursion IsBytes turn → IsTurn turn
      → HandsOver would checkpoint came turn handed → MatchOption handed ⊥ (λ c. SameState would checkpoint (came ++ turn) c [])
  pub quiet : (checkpoint : List ℕ) (came turn : List (List ℕ)) (handed : Option (List ℕ)) (answer : List ℕ) → IsTurn turn → IsTrue (is_answer (frame_in answer))
      → HandsOver would checkpoint came turn handed → bytes_in (given_behind would checkpoint (came ++ turn) (answer ∷ [])) ≡ []
