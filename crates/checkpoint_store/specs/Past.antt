-- What is kept of an application, and what staged calls make of it. Our own choice.
use Rattle.std.specs.Prelude.{ℕ, ◌+◌, ◌≤◌, List, [], ◌∷◌, ◌++◌, length, sum_by}
use Rattle.checkpoint_store.specs.declared.turned.Turned.{Turned}

-- the last checkpoint of an application, and the turns that it completed since, oldest first
pub record Past : Type 0 where
  pub checkpoint : List ℕ
  pub turns : List Turned

-- nothing is kept yet
abbrev pub no_past : Past
no_past = record { checkpoint = []; turns = [] }

-- what one staged call does
pub data Step : Type 0 where
  -- these bytes become the checkpoint
  checkpoints : List ℕ → Step
  -- this turn is remembered behind the others
  remembers : Turned → Step
  -- no turn is remembered any more
  forgets : Step

-- the checkpoint after steps, done in order
abbrev pub kept_after : List ℕ → List Step → List ℕ
kept_after kept [] = kept
kept_after kept (checkpoints bytes ∷ steps) = kept_after bytes steps
kept_after kept (remembers turn ∷ steps) = kept_after kept steps
kept_after kept (forgets ∷ steps) = kept_after kept steps

-- the remembered turns after steps, done in order
abbrev pub remembered_after : List Turned → List Step → List Turned
remembered_after turns [] = turns
remembered_after turns (checkpoints bytes ∷ steps) = remembered_after turns steps
remembered_after turns (remembers turn ∷ steps) = remembered_after (turns ++ turn ∷ []) steps
remembered_after turns (forgets ∷ steps) = remembered_after [] steps

-- what is kept after steps, done in order
abbrev pub after : Past → List Step → Past
after past steps = record { checkpoint = kept_after past.checkpoint steps; turns = remembered_after past.turns steps }

-- the bytes of a turn: all its frames, each with its length word
abbrev pub turn_size : Turned → ℕ
turn_size turn = length turn.event + sum_by length turn.answers + sum_by length turn.frames

-- the bytes of turns
abbrev pub turns_size : List Turned → ℕ
turns_size turns = sum_by turn_size turns

-- what is kept stays within the limits: 1 MiB of a checkpoint, 16 MiB of remembered turns
pub record IsWithinLimits (past : Past) : Type 0 where
  pub checkpoint : length past.checkpoint ≤ 1048576
  pub turns : turns_size past.turns ≤ 16777216
