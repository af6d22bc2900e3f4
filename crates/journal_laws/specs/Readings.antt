-- Acts of one application: which of them belong to a turn or an attempt that was begun, and what further acts add to its starts and its
-- replies. All of this is our own.
use Rattle.std.specs.Prelude.{◌≡◌, ◌==◌, ℕ, Bool, true, false, not, ◌&&◌, List, [], ◌∷◌, ◌++◌, if◌then◌else◌}
use Rattle.std.specs.List.{AllByRecursion}
use Rattle.of_types.specs.declared.journal.Act.{Act}
use Rattle.of_types.specs.declared.journal.Act.TheVariants.{Stim, Started, Gave, Gone, Took, Ended, Sent, Got, Lost}
use Rattle.lego_model.specs.Journal.{Reply, Attempt, in_attempts, is_event, start_of}
use Rattle.lego_model.specs.History.{starts_in, replies_in}

-- the last attempt to start it stands
pub record LastStands (acts : List Act) : Type 0 where
  pub before : List Attempt
  pub last : Attempt
  pub attempts : (in_attempts acts).1 ≡ before ++ last ∷ []
  pub stands : last.stands ≡ true

-- ---- Acts within a turn or an attempt: the application was given bytes that are no Event, or could not be, its bytes were taken, or it was
-- ended.

abbrev pub is_within : ℕ → Act → Bool
is_within app (Gave to bytes) = to == app && not (is_event bytes)
is_within app (Gone to bytes) = to == app && not (is_event bytes)
is_within app (Took from what) = from == app
is_within app (Ended of) = of == app
is_within app other = false

abbrev pub Within : ℕ → List Act → Type 0
Within app acts = AllByRecursion (λ act. is_within app act ≡ true) acts

-- the calls for it, each but the giving of an Event
abbrev pub is_call : ℕ → Act → Bool
is_call app (Started of stands) = of == app
is_call app (Gave to bytes) = to == app && not (is_event bytes)
is_call app (Gone to bytes) = to == app && not (is_event bytes)
is_call app (Took from what) = from == app
is_call app (Ended of) = of == app
is_call app (Stim x) = false
is_call app (Sent d bytes) = false
is_call app (Got d bytes) = false
is_call app (Lost d) = false

abbrev pub Calls : ℕ → List Act → Type 0
Calls app acts = AllByRecursion (λ act. is_call app act ≡ true) acts

-- ---- What further acts tell

-- that it is ended, where it runs
abbrev pub end_acts : Bool → ℕ → List Act
end_acts running app = if running then Ended app ∷ [] else []

-- no start and no reply more
pub record ReadsSame (before after : List Act) : Type 0 where
  pub starts : starts_in after ≡ starts_in before
  pub replies : replies_in after ≡ replies_in before

-- one reply more, and the last attempt stands still
pub record ReadsTurn (before after : List Act) (reply : Reply) : Type 0 where
  pub starts : starts_in after ≡ starts_in before
  pub replies : replies_in after ≡ replies_in before ++ reply ∷ []
  pub life : LastStands after

-- one start more, which is the last, and stands where its attempt does
pub record ReadsAttempt (before after : List Act) (attempt : Attempt) : Type 0 where
  pub starts : starts_in after ≡ starts_in before ++ start_of attempt ∷ []
  pub replies : replies_in after ≡ replies_in before
  pub life : attempt.stands ≡ true → LastStands after
