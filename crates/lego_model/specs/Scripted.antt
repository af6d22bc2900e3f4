-- What is said beforehand of an application: how its starts end and what it gives in its turns. And how what a journal tells of it stands to
-- that: the application was looked at no further than its turn went. All of this is our own.
use Rattle.std.specs.Prelude.{◌≡◌, ℕ, zero, suc, ◌+◌, ◌-◌, Bool, true, false, not, ◌||◌, ◌&&◌, if◌then◌else◌, List, [], ◌∷◌, ◌++◌, map, Option, None, ◌⊎◌}
use Rattle.app_frames.specs.declared.frame.AppFrame.TheVariants.{Message, Save, Keep, Undo, Done, Ready}
use Rattle.app_frames.specs.declared.script.ScriptStep.{ScriptStep}
use Rattle.app_frames.specs.declared.script.ScriptStep.TheVariants.{Bytes, Closed, Silent}
use Rattle.app_frames.specs.declared.script.StartScript.{StartScript}
use Rattle.app_frames.specs.declared.script.StartScript.TheVariants as start
use Rattle.app_frames.specs.Spelling.{app_bytes, garbled_bytes}
use Rattle.lego_model.specs.Journal.{End, Closes, Stalls, Untold, Reply, Start}
use Rattle.lego_model.specs.Turns.{Next, Framed, Faulty, Over, next_of, one_fewer, is_none_left, are_taken, is_full, is_open}

-- ---- What is said

-- The bytes cut after every so many: what still goes to a piece that has room for so many, and the pieces behind it.
abbrev pub cut_from : ℕ → List ℕ → List ℕ × List (List ℕ)
cut_from left [] = ([], [])
cut_from zero (b ∷ bytes) = let rest = cut_from 65535 bytes in ([], (b ∷ rest.0) ∷ rest.1)
cut_from (suc left) (b ∷ bytes) = let rest = cut_from left bytes in (b ∷ rest.0, rest.1)

unfoldable pub pieces_of : List ℕ → List (List ℕ)
pieces_of bytes = (cut_from 0 bytes).1

-- the bytes of the steps up to the first that ends them, in pieces
abbrev pub pieces_said : List ScriptStep → List (List ℕ)
pieces_said [] = []
pieces_said (Bytes bytes ∷ steps) = pieces_of bytes ++ pieces_said steps
pieces_said (Closed ∷ steps) = []
pieces_said (Silent ∷ steps) = []

-- it is silent where a step says so, and else closes its end
abbrev pub end_said : List ScriptStep → End
end_said [] = Closes
end_said (Bytes bytes ∷ steps) = end_said steps
end_said (Closed ∷ steps) = Closes
end_said (Silent ∷ steps) = Stalls

unfoldable pub reply_said : List ScriptStep → Reply
reply_said steps = record { given = true; pieces = pieces_said steps; answers = None; end = end_said steps }

-- a turn of which nothing is said: the frame Done
abbrev pub done_steps : List ScriptStep
done_steps = Bytes (app_bytes (Done false None)) ∷ []

abbrev pub stands_with : List (List ℕ) → End → Start
stands_with pieces end = record { stands = true; restored = true; pieces = pieces; end = end }

unfoldable pub start_said : StartScript → Start
start_said start.Ready = stands_with (app_bytes Ready ∷ []) Closes
start_said start.Refused = record { stands = false; restored = true; pieces = []; end = Untold }
start_said start.Closed = stands_with [] Closes
start_said start.Silent = stands_with [] Stalls
start_said start.Garbled = stands_with (garbled_bytes ∷ []) Closes

abbrev pub repeated : {A : Type 0} → ℕ → A → List A
repeated zero x = []
repeated (suc n) x = x ∷ repeated n x

-- how starts end, line by line, and behind the last line so many that are ready
unfoldable pub starts_said : ℕ → List StartScript → List Start
starts_said more lines = map start_said lines ++ repeated more (start_said start.Ready)

-- what is given in turns, line by line, and behind the last line so many that are done at once
unfoldable pub replies_said : ℕ → List (List ScriptStep) → List Reply
replies_said more lines = map reply_said lines ++ repeated more (reply_said done_steps)

-- ---- What is told of it

-- It was looked at up to its end, or no further than these pieces.
abbrev pub IsLookedAt : List (List ℕ) → End → List (List ℕ) → End → Type 0
IsLookedAt told end said said_end = (more : List (List ℕ)) × (said ≡ told ++ more) × ((end ≡ Untold) ⊎ ((more ≡ []) × (said_end ≡ end)))

-- the reply that is told is the front of the one that is said, which is what was looked at of it
pub record IsFront (told said : Reply) : Type 0 where
  pub given : said.given ≡ told.given
  pub answers : said.answers ≡ told.answers
  pub front : IsLookedAt told.pieces told.end said.pieces said.end

pub record IsStartFront (told said : Start) : Type 0 where
  pub stands : said.stands ≡ told.stands
  pub restored : said.restored ≡ told.restored
  pub front : IsLookedAt told.pieces told.end said.pieces said.end

-- each that is told, of those that are said in this order; more may be said
abbrev pub AreFronts : List Reply → List Reply → Type 0
AreFronts [] said = Unit {0}
AreFronts (t ∷ told) [] = ⊥
AreFronts (t ∷ told) (s ∷ said) = IsFront t s × AreFronts told said

abbrev pub AreStartFronts : List Start → List Start → Type 0
AreStartFronts [] said = Unit {0}
AreStartFronts (t ∷ told) [] = ⊥
AreStartFronts (t ∷ told) (s ∷ said) = IsStartFront t s × AreStartFronts told said

-- ---- Where enough is told: a turn, or a start, does not end for the reason alone that nothing more is told.

abbrev pub is_told : End → Bool
is_told Closes = true
is_told Stalls = true
is_told Untold = false

-- from a place on, with so many frames to take, so many snapshots, and so many Answers that can be given
unfoldable pub settles : ℕ → ℕ → Option ℕ → Next → Bool
settles left saved answers Over = false
settles left saved answers (Faulty fault) = true
settles zero saved answers (Framed frame rest pieces) = true
settles (suc left) saved answers (Framed (Message dpid bytes) rest pieces) = is_none_left answers || settles left saved (one_fewer answers) (next_of rest pieces)
settles (suc left) saved answers (Framed (Done stop checkpoint) rest pieces) = true
settles (suc left) saved answers (Framed Save rest pieces) = if are_taken && not (is_full saved) then settles left (saved + 1) answers (next_of rest pieces) else true
settles (suc left) saved answers (Framed Keep rest pieces) = if are_taken && is_open saved then settles left (saved - 1) answers (next_of rest pieces) else true
settles (suc left) saved answers (Framed Undo rest pieces) = if are_taken && is_open saved then settles left (saved - 1) answers (next_of rest pieces) else true
settles (suc left) saved answers (Framed Ready rest pieces) = true

abbrev pub is_heard_from : ℕ → ℕ → Option ℕ → End → Next → Bool
is_heard_from left saved answers end next = is_told end || settles left saved answers next

-- a turn with this budget, that begins with these bytes
unfoldable pub is_heard : ℕ → List ℕ → Reply → Bool
is_heard budget rest reply = not reply.given || is_heard_from budget 0 reply.answers reply.end (next_of rest reply.pieces)

abbrev pub is_whole : Next → Bool
is_whole Over = false
is_whole (Faulty fault) = true
is_whole (Framed frame rest pieces) = true

unfoldable pub is_start_heard : Start → Bool
is_start_heard s = not s.stands || (not s.restored || (is_told s.end || is_whole (next_of [] s.pieces)))
