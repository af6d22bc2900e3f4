-- Applications of which three copies run in another world, and which give, frame by frame, what two of the copies gave. All of this is our
-- own choice.
use Rattle.std.specs.Prelude.{◌≡◌, ◌≢◌, ◌==◌, ℕ, ◌+◌, ◌-◌, ◌^◌, Bool, true, false, ◌&&◌, ◌||◌, List, [], ◌∷◌, ◌++◌, min, Option, if◌then◌else◌}
use Rattle.std.specs.Option.{unwrap_or}
use Rattle.frame_votes.specs.declared.ballot.Place.{Place}
use Rattle.frame_votes.specs.declared.ballot.Place.TheVariants.{First, Second, Third}
use Rattle.frame_votes.specs.Votes.{Given, Polled, voted, after_vote, out, copy_at, with_copy}
use Rattle.of_types.specs.declared.journal.TookWhat.{TookWhat}
use Rattle.of_types.specs.declared.journal.TookWhat.TheVariants.{Bytes, Closed, Silent}

-- An application: the number of its first copy in the other world, whether it has three copies or one, what the copies gave and was not
-- voted yet, and what was voted and was not taken yet.
pub record Voting : Type 0 where
  pub first : ℕ
  pub three : Bool
  pub ballot : Polled
  pub left : List ℕ

-- the number of a copy in the other world
abbrev pub copy_number : ℕ → Place → ℕ
copy_number first First = first
copy_number first Second = min (first + 1) (2 ^ 32 - 1)
copy_number first Third = min (first + 2) (2 ^ 32 - 1)

-- a copy whose start was tried
abbrev pub entered : Bool → Given
entered true = record { is_in = true; held = [] }
entered false = out

-- ---- What copies give

-- more was heard of a copy
abbrev pub Hears : Given → Given → Type 0
Hears old new = (more : List ℕ) × (new ≡ (record old { held = old.held ++ more }))

-- more was heard of one copy, and of no other
abbrev pub HearsAt : Place → Polled → Polled → Type 0
HearsAt place old new = (more : List ℕ) × (new ≡ with_copy place (record (copy_at place old) { held = (copy_at place old).held ++ more }) old)

pub record Heard (old new : Polled) : Type 0 where
  pub first : Hears old.first new.first
  pub second : Hears old.second new.second
  pub third : Hears old.third new.third

-- ---- What the application gives

-- More was heard of the copies, and then there was a vote, by which this frame was voted, if any.
pub record VotesTo (old new : Polled) (found : Option (List ℕ)) : Type 0 where
  pub polled : Polled
  pub heard : Heard old polled
  pub frame : found ≡ voted polled
  pub ballot : new ≡ after_vote polled

-- a vote by which a frame, if any, is there to be taken
pub record Votes (old new : Voting) : Type 0 where
  pub frame : Option (List ℕ)
  pub votes : VotesTo old.ballot new.ballot frame
  pub left : new.left ≡ unwrap_or frame []

-- There is a vote where nothing is left to be taken of the one before.
pub record Refilled (old new : Voting) : Type 0 where
  pub three : new.three ≡ old.three
  pub waits : old.left ≢ [] → new ≡ old
  pub votes : old.three ≡ true → old.left ≡ [] → Votes old new

-- The front of what is there is given; where nothing is there, that the end is closed, or of one copy that it is silent.
abbrev pub Passes : Voting → Voting → TookWhat → Type 0
Passes old new (Bytes bytes) = (old.left ≡ bytes ++ new.left) × (new ≡ (record old { left = new.left }))
Passes old new Closed = (old.left ≡ []) × (new ≡ old)
Passes old new Silent = (old.left ≡ []) × (new ≡ old)

-- what is answered where nothing is there
abbrev pub IsNothing : TookWhat → Type 0
IsNothing (Bytes bytes) = ⊥
IsNothing Closed = Unit {0}
IsNothing Silent = Unit {0}

-- of three copies nothing is given that was not voted
pub record Took (old new : Voting) (what : TookWhat) : Type 0 where
  pub between : Voting
  pub refilled : Refilled old between
  pub passes : Passes between new what
  pub silent : old.three ≡ true → what ≢ Silent

-- ---- Which copies are in

abbrev pub two_in : Polled → Bool
two_in p = (p.first.is_in && (p.second.is_in || p.third.is_in)) || (p.second.is_in && p.third.is_in)

-- two of three copies are in, or the one
abbrev pub is_enough : Voting → Bool
is_enough v = if v.three then two_in v.ballot else v.ballot.first.is_in

abbrev pub none_in : Polled
none_in = record { first = out; second = out; third = out }

-- ---- The applications of a world

abbrev pub copies_in : Bool → ℕ
copies_in true = 3
copies_in false = 1

-- The copies of an application come behind all copies of those before it.
abbrev pub numbered : ℕ → List ℕ → List Voting
numbered first [] = []
numbered first (n ∷ ns) = (record { first = first; three = n == 3; ballot = none_in; left = [] }) ∷ numbered (first + copies_in (n == 3)) ns

abbrev pub copies_before : ℕ → List ℕ → ℕ
copies_before first [] = first
copies_before first (n ∷ ns) = copies_before (first + copies_in (n == 3)) ns
