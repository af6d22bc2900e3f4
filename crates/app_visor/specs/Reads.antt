-- The frames of an application as they come: pieces of its bytes are taken while no whole frame stands at the front of those that are
-- unread. All of this is our own choice.
use Rattle.std.specs.Prelude.{◌≡◌, ℕ, ◌≤◌, List, [], ◌∷◌, ◌++◌, length, drop, map, Option, Some, None, Ok, Err}
use Rattle.of_types.specs.declared.journal.Act.{Act}
use Rattle.of_types.specs.declared.journal.Act.TheVariants.{Took}
use Rattle.of_types.specs.declared.journal.TookWhat.TheVariants as took
use Rattle.app_frames.specs.declared.frame.AppFrame.{AppFrame}
use Rattle.app_frames.specs.Frames.{app_reading, AppFits}
use Rattle.outside.specs.Seen.{Seen}
use Rattle.app_visor.specs.declared.came.Came.{Came}
use Rattle.app_visor.specs.declared.came.Came.TheVariants.{Frame, Refused, Closed, Silent}
use Rattle.app_visor.specs.Talks.{Told, Wants}

-- ---- Pieces

-- the acts of taking these pieces
abbrev pub takes : ℕ → List (List ℕ) → List Act
takes app pieces = map (λ piece. Took app (took.Bytes piece)) pieces

-- Pieces were taken, each where no whole frame stood at the front of what was unread; `left` is unread then.
abbrev pub TakesAll : {Own : Type 0} → Type 0 → ℕ → List (List ℕ) → List ℕ → List ℕ → Seen Own → Seen Own → Type 0
TakesAll Tells app [] rest left old new = (left ≡ rest) × (new ≡ old)
TakesAll Tells app (piece ∷ pieces) rest left old new =
    (app_reading rest ≡ Ok None) × ((next : Seen _) × (Told Tells (Took app (took.Bytes piece)) old next × TakesAll Tells app pieces (rest ++ piece) left next new))

pub record Taken {Own : Type 0} (Tells : Type 0) (app : ℕ) (rest left : List ℕ) (old new : Seen Own) : Type 0 where
  pub pieces : List (List ℕ)
  pub all : TakesAll Tells app pieces rest left old new

-- ---- What comes

-- a whole frame stands at the front of what is unread, and is read
pub record IsNext (frame : AppFrame) (rest left : List ℕ) : Type 0 where
  pub size : ℕ
  pub read : app_reading rest ≡ Ok (Some (frame, size))
  -- a message or a checkpoint in it is no longer than it may be
  pub fits : AppFits frame
  pub left_is : left ≡ drop size rest

-- what stands at the front of what is unread: nothing whole, a frame, or bytes that are none
abbrev pub IsAtFront : Option Came → List ℕ → List ℕ → Type 0
IsAtFront None rest left = (app_reading rest ≡ Ok None) × (left ≡ rest)
IsAtFront (Some (Frame frame)) rest left = IsNext frame rest left
IsAtFront (Some (Refused fault)) rest left = app_reading rest ≡ Err fault
IsAtFront (Some Closed) rest left = ⊥
IsAtFront (Some Silent) rest left = ⊥

-- one piece more was taken
pub record TakesOne {Own : Type 0} (Tells : Type 0) (app : ℕ) (rest left : List ℕ) (old new : Seen Own) : Type 0 where
  pub piece : List ℕ
  pub some : 1 ≤ length piece
  pub left_is : left ≡ rest ++ piece
  pub told : Told Tells (Took app (took.Bytes piece)) old new

-- what a call of `take` gave: a piece, or why there is none
abbrev pub Gave : {Own : Type 0} → Type 0 → ℕ → Option Came → List ℕ → List ℕ → Seen Own → Seen Own → Type 0
Gave Tells app None rest left old new = TakesOne Tells app rest left old new
Gave Tells app (Some Closed) rest left old new = Told Tells (Took app took.Closed) old new
Gave Tells app (Some Silent) rest left old new = Told Tells (Took app took.Silent) old new
Gave Tells app (Some (Frame frame)) rest left old new = ⊥
Gave Tells app (Some (Refused fault)) rest left old new = ⊥

-- what came, once the pieces were taken
abbrev pub CameSo : {Own : Type 0} → Type 0 → ℕ → Came → List ℕ → List ℕ → Seen Own → Seen Own → Type 0
CameSo Tells app (Frame frame) rest left old new = IsNext frame rest left × (new ≡ old)
CameSo Tells app (Refused fault) rest left old new = (app_reading rest ≡ Err fault) × (new ≡ old)
CameSo Tells app Closed rest left old new = (app_reading rest ≡ Ok None) × Told Tells (Took app took.Closed) old new
CameSo Tells app Silent rest left old new = (app_reading rest ≡ Ok None) × Told Tells (Took app took.Silent) old new

-- Pieces were taken until a whole frame stood at the front, its bytes were refused, or no piece came.
pub record Comes {Own : Type 0} (Tells : Type 0) (app : ℕ) (rest left : List ℕ) (old new : Seen Own) (came : Came) : Type 0 where
  pub unread : List ℕ
  pub then_seen : Seen Own
  pub taken : Taken Tells app rest unread old then_seen
  pub came_is : CameSo Tells app came unread left then_seen new

-- Memory was wanting, after some pieces were taken.
pub record Breaks {Own : Type 0} (Tells : Type 0) (app : ℕ) (rest : List ℕ) (old new : Seen Own) : Type 0 where
  pub unread : List ℕ
  pub then_seen : Seen Own
  pub taken : Taken Tells app rest unread old then_seen
  pub wants : Wants Tells then_seen new

-- One step: nothing whole stood there and one piece more was taken, or something came.
abbrev pub StepSo : {Own : Type 0} → Type 0 → ℕ → Option Came → List ℕ → List ℕ → Seen Own → Seen Own → Type 0
StepSo Tells app None rest left old new = (app_reading rest ≡ Ok None) × TakesOne Tells app rest left old new
StepSo Tells app (Some came) rest left old new = CameSo Tells app came rest left old new

-- What is taken from here on goes on from what was taken before.
pub record TakesOn {Own : Type 0} (Tells : Type 0) (app : ℕ) (rest here : List ℕ) (old then_seen : Seen Own) : Type 0 where
  pub on : (left : List ℕ) (new : Seen Own) → Taken Tells app here left then_seen new → Taken Tells app rest left old new
