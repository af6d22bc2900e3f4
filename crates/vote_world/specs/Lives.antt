-- What copies gave in their lives, as the history of the other world tells it, and how it goes on with what was voted. All of this is our
-- own choice.
use Rattle.std.specs.Prelude.{◌≡◌, ◌≢◌, ◌==◌, ℕ, ◌+◌, ◌-◌, ◌^◌, ◌≤◌, Bool, true, false, ◌&&◌, List, [], ◌∷◌, ◌++◌, length, take, drop, Option, Some, None, Result, Ok, Err, ◌⊎◌, if◌then◌else◌}
use Rattle.of_types.specs.declared.journal.Act.{Act}
use Rattle.of_types.specs.declared.journal.Act.TheVariants.{Started, Took}
use Rattle.of_types.specs.declared.journal.TookWhat.{TookWhat}
use Rattle.of_types.specs.declared.journal.TookWhat.TheVariants as took
use Rattle.outside.specs.declared.faults.Short.{Short}
use Rattle.outside.specs.declared.item.Taken.{Taken}
use Rattle.outside.specs.declared.item.Taken.TheVariants as gave
use Rattle.outside.specs.declared.step.WorldStep.{WorldStep}
use Rattle.outside.specs.declared.step.WorldStep.TheVariants.{Acted, TookInto}
use Rattle.outside.specs.Seen.{Seen}
use Rattle.linked_world.specs.Linked.{Linkage}
use Rattle.linked_world.specs.laws.ThereLaws.{was_started}
use Rattle.frame_votes.specs.declared.ballot.Place.{Place}
use Rattle.frame_votes.specs.declared.ballot.Place.TheVariants.{First, Second, Third}
use Rattle.frame_votes.specs.Votes.{Given, Polled, voted, after_vote, out, copy_at, with_copy}
use Rattle.frame_votes.specs.laws.VoteLaws.{Lives, AllFollow, TwoBegin}
use Rattle.vote_world.specs.Voting.{copy_number, Voting}
use Rattle.std.specs.Option.{unwrap_or}

-- ---- A life

abbrev pub bytes_in : TookWhat → List ℕ
bytes_in (took.Bytes bytes) = bytes
bytes_in took.Closed = []
bytes_in took.Silent = []

abbrev pub life_after_act : ℕ → Act → List ℕ → List ℕ
life_after_act app (Started a ok) life = if ok && (a == app) then [] else life
life_after_act app (Took a what) life = if a == app then life ++ bytes_in what else life
life_after_act app other life = life

abbrev pub life_after : ℕ → WorldStep → List ℕ → List ℕ
life_after app (Acted act) life = life_after_act app act life
life_after app (TookInto a what room) life = if a == app then life ++ bytes_in what else life
life_after app other life = life

unfoldable pub life_from : ℕ → List ℕ → List WorldStep → List ℕ
life_from app life [] = life
life_from app life (step ∷ steps) = life_from app (life_after app step life) steps

-- all bytes that were taken of an application since it was last started
unfoldable pub life_in : ℕ → List WorldStep → List ℕ
life_in app history = life_from app [] history

-- those of the three copies, of which the first has this number
abbrev pub lives_of : ℕ → List WorldStep → Lives
lives_of first history = record {
  first = life_in (copy_number first First) history;
  second = life_in (copy_number first Second) history;
  third = life_in (copy_number first Third) history;
}

-- ---- What was voted in a life

-- An application gave so much in its life: two of its copies gave it, each from the beginning of its own life, and each copy that is in
-- gave it, and behind it what is held of the copy.
pub record Backed (first : ℕ) (so_far : List ℕ) (ballot : Polled) (history : List WorldStep) : Type 0 where
  pub few : first + 2 ≤ 2 ^ 32 - 1
  pub two : TwoBegin so_far (lives_of first history)
  pub follow : AllFollow so_far (lives_of first history) ballot

-- the copies that are in, each with what it gave in its life behind what was voted so far
abbrev pub behind : List ℕ → Lives → Polled → Polled
behind so_far lives p = record {
  first = record { is_in = p.first.is_in; held = drop (length so_far) lives.first };
  second = record { is_in = p.second.is_in; held = drop (length so_far) lives.second };
  third = record { is_in = p.third.is_in; held = drop (length so_far) lives.third };
}

-- The vote is of the next whole frames that the copies which are in gave in their lives.
pub record VotesBehind (so_far : List ℕ) (lives : Lives) (old new : Polled) (found : Option (List ℕ)) : Type 0 where
  pub frame : found ≡ voted (behind so_far lives old)
  pub ballot : new ≡ after_vote (behind so_far lives old)

-- ---- What calls leave

-- no life goes on
pub record Rests {Own W : Type 0} (Tells : Type 0) (see : W → Seen Own) (before after : Linkage W) : Type 0 where
  pub lives : Tells → (n : ℕ) → life_in n (see after.links).history ≡ life_in n (see before.links).history
  pub running : after.running ≡ before.running

-- no life but that of one copy goes on
pub record Touches {Own W : Type 0} (Tells : Type 0) (see : W → Seen Own) (copy : ℕ) (before after : Linkage W) : Type 0 where
  pub others : Tells → (n : ℕ) → n ≢ copy → life_in n (see after.links).history ≡ life_in n (see before.links).history
  pub running : after.running ≡ before.running

-- and that one by these bytes
pub record GoesOn {Own W : Type 0} (Tells : Type 0) (see : W → Seen Own) (copy : ℕ) (bytes : List ℕ) (before after : Linkage W) : Type 0 where
  pub life : Tells → life_in copy (see after.links).history ≡ life_in copy (see before.links).history ++ bytes
  pub touches : Touches Tells see copy before after

-- where it was started, that one begins
pub record Begins {Own W : Type 0} (Tells : Type 0) (see : W → Seen Own) (copy : ℕ) (result : Result Bool Short) (before after : Linkage W) : Type 0 where
  pub life : Tells → was_started result ≡ true → life_in copy (see after.links).history ≡ []
  pub touches : Touches Tells see copy before after

-- a piece of a copy, if there was one
abbrev pub piece_in : Result (Option ℕ) Short → List ℕ → List ℕ
piece_in (Ok (Some n)) buf = take n buf
piece_in (Ok None) buf = []
piece_in (Err short) buf = []

-- what a call of `take` put into the buffer
abbrev pub taken_in : Result Taken Short → List ℕ → List ℕ
taken_in (Ok (gave.Some n)) buf = take n buf
taken_in (Ok gave.Closed) buf = []
taken_in (Ok gave.Silent) buf = []
taken_in (Err short) buf = []

-- ---- The three copies

-- the number is of none of the three copies
abbrev pub Apart : ℕ → ℕ → Type 0
Apart first n = (place : Place) → n ≢ copy_number first place

-- the copy stays as it is, or it is out
abbrev pub Stays : Given → Given → Type 0
Stays old new = (new ≡ old) ⊎ (new ≡ out)

-- no copy comes in
pub record AllStay (old new : Polled) : Type 0 where
  pub first : Stays old.first new.first
  pub second : Stays old.second new.second
  pub third : Stays old.third new.third

-- each copy that is in was in before
pub record NoneEnters (old new : Polled) : Type 0 where
  pub first : new.first.is_in ≡ true → old.first.is_in ≡ true
  pub second : new.second.is_in ≡ true → old.second.is_in ≡ true
  pub third : new.third.is_in ≡ true → old.third.is_in ≡ true

-- A piece that a copy gave is held of it, or the copy is out.
abbrev pub Keeps : Place → List ℕ → Polled → Polled → Type 0
Keeps place bytes old new =
    (new ≡ with_copy place (record (copy_at place old) { held = (copy_at place old).held ++ bytes }) old) ⊎ (new ≡ with_copy place out old)

-- The copies give, and so much more is voted.
pub record Goes {Own W : Type 0} (Tells : Type 0) (see : W → Seen Own) (first : ℕ) (more : List ℕ) (old new : Polled) (before after : Linkage W) : Type 0 where
  pub backed : Tells → (so_far : List ℕ) → Backed first so_far old (see before.links).history → Backed first (so_far ++ more) new (see after.links).history
  pub others : Tells → (n : ℕ) → Apart first n → life_in n (see after.links).history ≡ life_in n (see before.links).history
  pub running : after.running ≡ before.running
  pub none_enters : NoneEnters old new

abbrev pub found_in : Result (Option (List ℕ)) Short → List ℕ
found_in (Ok (Some frame)) = frame
found_in (Ok None) = []
found_in (Err short) = []

-- ---- An application

-- the number is of no copy of the application
abbrev pub Elsewhere : Bool → ℕ → ℕ → Type 0
Elsewhere true first n = Apart first n
Elsewhere false first n = n ≢ first

-- no lives go on but those of its copies
pub record Leaves {Own W : Type 0} (Tells : Type 0) (see : W → Seen Own) (three : Bool) (first : ℕ) (before after : Linkage W) : Type 0 where
  pub others : Tells → (n : ℕ) → Elsewhere three first n → life_in n (see after.links).history ≡ life_in n (see before.links).history
  pub running : after.running ≡ before.running

-- The application gives these bytes, where it has three copies of what two of them gave: it goes on being backed, with what is left to
-- be taken.
pub record AppGoes {Own W : Type 0} (Tells : Type 0) (see : W → Seen Own) (bytes : List ℕ) (old new : Voting) (before after : Linkage W) : Type 0 where
  pub first : new.first ≡ old.first
  pub three : new.three ≡ old.three
  pub backed : Tells → old.three ≡ true → (given : List ℕ) → Backed old.first (given ++ old.left) old.ballot (see before.links).history
      → Backed old.first (given ++ (bytes ++ new.left)) new.ballot (see after.links).history
  pub leaves : Leaves Tells see old.three old.first before after
  pub none_enters : NoneEnters old.ballot new.ballot

-- The copies were started, or not all of them: each that is in begins its life.
pub record AppBegins {Own W : Type 0} (Tells : Type 0) (see : W → Seen Own) (old new : Voting) (before after : Linkage W) : Type 0 where
  pub first : new.first ≡ old.first
  pub three : new.three ≡ old.three
  pub left : new.left ≡ []
  pub fresh : Tells → old.three ≡ true → old.first + 2 ≤ 2 ^ 32 - 1 → AllFollow [] (lives_of old.first (see after.links).history) new.ballot
  pub leaves : Leaves Tells see old.three old.first before after

-- Where nothing is left of the last vote, the next whole frames of the copies are voted: what is given then, and what is left, is the frame
-- that two of the copies which are in gave, each behind what was given so far. A copy that gave another one, or none, is out.
pub record Polls (given bytes : List ℕ) (lives : Lives) (old new : Voting) : Type 0 where
  pub waits : old.left ≢ [] → (bytes ++ new.left ≡ old.left) × (new.ballot ≡ old.ballot)
  pub votes : old.left ≡ [] → bytes ++ new.left ≡ unwrap_or (voted (behind given lives old.ballot)) []
  pub ballot : old.left ≡ [] → new.ballot ≡ after_vote (behind given lives old.ballot)

-- what was taken, if anything
abbrev pub what_in : Result TookWhat Short → List ℕ
what_in (Ok what) = bytes_in what
what_in (Err short) = []

-- It is so of what was given so far, where that is backed.
abbrev pub IsPolled : {Own W : Type 0} → Type 0 → (W → Seen Own) → List ℕ → Voting → Voting → Linkage W → Linkage W → Type 0
IsPolled Tells see bytes old new before after =
    Tells → old.three ≡ true → (given : List ℕ) → Backed old.first (given ++ old.left) old.ballot (see before.links).history → Polls given bytes (lives_of old.first (see after.links).history) old new
