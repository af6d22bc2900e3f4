-- A world whose applications vote: what holds of it over all calls, where the other world tells. All of this is our own choice.
use Rattle.std.specs.Prelude.{◌≡◌, ◌≢◌, ℕ, ◌+◌, ◌-◌, ◌^◌, ◌<◌, ◌≤◌, Bool, true, false, List, [], ◌++◌, length, Some, Result, Ok, Err, IsOk, IsErr, IsErrOf, IfOk, OnErr, IfSome, slice_get}
use Rattle.of_types.specs.Membership.{is_among}
use Rattle.outside.specs.declared.faults.Short.{Short}
use Rattle.outside.specs.declared.faults.StartFault.{StartFault}
use Rattle.outside.specs.declared.faults.GiveFault.{GiveFault}
use Rattle.outside.specs.declared.faults.GiveFault.TheVariants as giving
use Rattle.outside.specs.Seen.{Seen}
use Rattle.linked_world.specs.Linked.{Linkage, seen_of}
use Rattle.vote_world.specs.Voting.{Voting, copies_in, is_enough, none_in}
use Rattle.vote_world.specs.Lives.{life_in, lives_of, Backed, Polls, NoneEnters}

-- the world as data: the other world with what is noted of applications, and the applications
pub record Votings (W : Type 0) : Type 0 where
  pub linked : Linkage W
  pub copies : List Voting

-- No two applications share a copy, and the numbers of copies fit into 32 bits.
pub record AreNumbered (copies : List Voting) : Type 0 where
  pub few : (i : ℕ) (v : Voting) → slice_get copies i ≡ Some v → v.first + 2 ≤ 2 ^ 32 - 1
  pub apart : (i j : ℕ) (v w : Voting) → i < j → slice_get copies i ≡ Some v → slice_get copies j ≡ Some w → v.first + copies_in v.three ≤ w.first

-- what the application gave in its life, as this world tells it
unfoldable pub given_by : {Own W : Type 0} → (W → Seen Own) → ℕ → Linkage W → List ℕ
given_by see app linked = life_in app (seen_of see linked).history

-- What an application with three copies gave since its start, with what is left of the last vote, is what two of its copies gave since
-- theirs, and each copy that is in.
abbrev pub IsVotedOf : {Own W : Type 0} → (W → Seen Own) → ℕ → Linkage W → List Voting → Type 0
IsVotedOf see app linked copies =
    (v : Voting) → slice_get copies app ≡ Some v → v.three ≡ true → is_among app linked.running ≡ true → Backed v.first (given_by see app linked ++ v.left) v.ballot (see linked.links).history

pub record IsVotings {Own W : Type 0} (Tells : Type 0) (see : W → Seen Own) (d : Votings W) : Type 0 where
  pub numbered : AreNumbered d.copies
  pub voted : Tells → (app : ℕ) → IsVotedOf see app d.linked d.copies

-- A call of `take` for an application with three copies that runs: where nothing is left of the last vote, the next whole frames that the
-- copies gave in their lives are voted, each behind what the application gave in its own; what is taken is the front of the frame that two of
-- them gave, and the rest is left. With it the application gave what two copies gave from the beginning of their lives.
pub record TakesVoted {Own W : Type 0} (see : W → Seen Own) (app : ℕ) (bytes : List ℕ) (old new : Votings W) (o n : Voting) : Type 0 where
  pub given : given_by see app new.linked ≡ given_by see app old.linked ++ bytes
  pub polls : Polls (given_by see app old.linked) bytes (lives_of o.first (see new.linked.links).history) o n
  pub backed : Backed o.first (given_by see app new.linked ++ n.left) n.ballot (see new.linked.links).history

abbrev pub TakesOf : {Own W : Type 0} → (W → Seen Own) → ℕ → List ℕ → Votings W → Votings W → Type 0
TakesOf see app bytes old new =
    (o n : Voting) → slice_get old.copies app ≡ Some o → slice_get new.copies app ≡ Some n → o.three ≡ true → is_among app old.linked.running ≡ true → TakesVoted see app bytes old new o n

-- what holds of the world goes on holding
abbrev pub Keeps : {Own W : Type 0} → Type 0 → (W → Seen Own) → Linkage W → List Voting → Linkage W → List Voting → Type 0
Keeps Tells see x old y new = IsVotings Tells see (record { linked = x; copies = old }) → IsVotings Tells see (record { linked = y; copies = new })

-- The copies of the application that are in begin their lives, and nothing of it is left.
abbrev pub IsFresh : {Own W : Type 0} → (W → Seen Own) → ℕ → Linkage W → List Voting → Type 0
IsFresh see app linked copies = (v : Voting) → slice_get copies app ≡ Some v → v.three ≡ true → Backed v.first [] v.ballot (see linked.links).history × (v.left ≡ [])

-- ---- Which copies are in

-- what becomes of one application, while the others stay
pub record CopiesAt (R : Voting → Voting → Type 0) (app : ℕ) (old new : List Voting) : Type 0 where
  pub size : length new ≡ length old
  pub others : (i : ℕ) → i ≢ app → slice_get new i ≡ slice_get old i
  pub here : IfSome (slice_get old app) (λ o. IfSome (slice_get new app) (λ n. R o n))

-- The copies of an application stay its copies, and one that is out stays out.
pub record Remains (o n : Voting) : Type 0 where
  pub first : n.first ≡ o.first
  pub three : n.three ≡ o.three
  pub none_enters : NoneEnters o.ballot n.ballot

-- What was answered of its copies is whether enough are in; where memory was wanted, none is.
pub record Answers (result : Result Bool Short) (v : Voting) : Type 0 where
  pub enough : IfOk result (λ enough. enough ≡ is_enough v)
  pub short : OnErr result (v.ballot ≡ none_in)

-- An application that did not run was to start: its copies stay its copies, nothing is left of what was voted before, and where it was
-- started, enough copies are in, else none.
pub record StartsTo (result : Result (Unit {0}) StartFault) (o n : Voting) : Type 0 where
  pub first : n.first ≡ o.first
  pub three : n.three ≡ o.three
  pub left : n.left ≡ []
  pub started : IsOk result → is_enough n ≡ true
  pub refused : IsErr result → n.ballot ≡ none_in

-- An application that runs was to be given bytes: where it was given them, enough copies are in; where it is gone, too few; and none where
-- memory was wanted.
pub record GivesTo (result : Result (Unit {0}) GiveFault) (o n : Voting) : Type 0 where
  pub remains : Remains o n
  pub given : IsOk result → is_enough n ≡ true
  pub gone : IsErrOf result giving.Gone → is_enough n ≡ false
  pub short : IsErrOf result giving.Short → n.ballot ≡ none_in

-- None of its copies is in, and nothing is left of what was voted.
abbrev pub IsEnded : Voting → Voting → Type 0
IsEnded o n = n ≡ (record o { ballot = none_in; left = [] })

-- Where it was started its copies stay as they are, else they are ended.
pub record BegunTo (ready : Bool) (result : Result (Unit {0}) StartFault) (app : ℕ) (old new : List Voting) : Type 0 where
  pub enough : IsOk result → ready ≡ true
  pub stand : IsOk result → new ≡ old
  pub end : IsErr result → CopiesAt IsEnded app old new

abbrev pub wants_memory : Result (Unit {0}) GiveFault → Bool
wants_memory (Ok x) = false
wants_memory (Err giving.Gone) = false
wants_memory (Err giving.Short) = true

-- Where memory was wanted its copies are ended, else they stay as they are.
pub record GivenTo (enough : Bool) (result : Result (Unit {0}) GiveFault) (app : ℕ) (old new : List Voting) : Type 0 where
  pub given : IsOk result → enough ≡ true
  pub gone : IsErrOf result giving.Gone → enough ≡ false
  pub stand : wants_memory result ≡ false → new ≡ old
  pub end : wants_memory result ≡ true → CopiesAt IsEnded app old new
