-- What is told of a world by its calls and their answers alone: which messages and bytes went to and fro, which switches joined, left and
-- were lost, which applications were started and ended. All of this is our own choice.
use Rattle.std.specs.Prelude.{◌≡◌, ◌⊎◌, ◌≢◌, ℕ, ◌^◌, ◌<◌, ◌≤◌, Bool, true, false, List, [], ◌∷◌, ◌++◌, length, Option, Some, None, Result, Ok, Err}
use Rattle.std.proofs.Common.{zero, suc}
use Rattle.of_types.specs.Membership.{is_among}
use Rattle.of_types.specs.declared.journal.WorldStim.{WorldStim}
use Rattle.of_types.specs.declared.journal.WorldStim.TheVariants.{Join, Leave, At}
use Rattle.flow_table.specs.Switch.{Declared}
use Rattle.outside.specs.declared.faults.Short.{Short}
use Rattle.outside.specs.declared.faults.OpenFault.{OpenFault}
use Rattle.outside.specs.declared.faults.OpenFault.TheVariants as opening
use Rattle.outside.specs.declared.faults.NextFault.{NextFault}
use Rattle.outside.specs.declared.faults.NextFault.TheVariants as coming
use Rattle.outside.specs.declared.faults.StartFault.{StartFault}
use Rattle.outside.specs.declared.faults.StartFault.TheVariants as starting
use Rattle.outside.specs.declared.faults.GiveFault.{GiveFault}
use Rattle.outside.specs.declared.faults.GiveFault.TheVariants as giving
use Rattle.outside.specs.declared.faults.LinkFault.{LinkFault}
use Rattle.outside.specs.declared.faults.LinkFault.TheVariants as linking
use Rattle.outside.specs.declared.item.Item.{Item}
use Rattle.outside.specs.declared.item.Item.TheVariants as items
use Rattle.outside.specs.declared.item.Taken.{Taken}
use Rattle.outside.specs.declared.item.Taken.TheVariants as taking
use Rattle.outside.specs.declared.step.WorldStep.{WorldStep}
use Rattle.outside.specs.declared.step.WorldStep.TheVariants.{Acted, TookInto, From, Joined, Left, Moment, Idle, End, Opened, NotOpened, NextFailed as Untold}
use Rattle.outside.specs.Seen.{Given, Counts, Seen, with_short, with_short_of, with_link_fault}
use Rattle.lego_io.specs.Count.{raised}
use Rattle.telling_world.specs.declared.note.Note.{Note}
use Rattle.telling_world.specs.declared.note.Note.TheVariants as notes
use Rattle.of_types.specs.declared.journal.Act.TheVariants.{Stim, Started, Gave, Gone, Sent, Got}
use Rattle.of_types.specs.declared.journal.TookWhat.TheVariants as what
use Rattle.outside.specs.State.{state, is_running, is_joined}
use Rattle.outside.specs.Calls.{unsent, unreceived, Nexts, Sends, open_steps, next_steps, start_steps, give_steps, take_steps, end_steps, send_steps, receive_steps}

-- ---- What such a world was given

-- a switch of which nothing is known but its number
abbrev pub nameless : ℕ → Declared
nameless d = record { dpid = d; cap = 0; ports = [] }

-- those with the numbers below n, ascending
unfoldable pub numbered : ℕ → List Declared
numbered zero = []
numbered (suc n) = numbered n ++ nameless n ∷ []

-- Any switch may come. What will happen is not known, and no count is foretold.
unfoldable pub told_given : Given (Unit {0})
told_given = record { declared = numbered (2 ^ 64); stimuli = []; fails = []; own = tt; shows = false }

-- ---- What was told

-- how a call failed, or what an application did in place of going on
pub data Trouble : Type 0 where
  Shut : Trouble
  NextFailed : Trouble
  NotStarted : Trouble
  Closing : Trouble
  Silence : Trouble
  Wanting : Trouble
  ShortOf : ℕ → Trouble
  Failing : ℕ → Trouble

-- the steps, and what went wrong, the last first
pub record StoryData : Type 0 where
  pub history : List WorldStep
  pub troubles : List Trouble

abbrev pub no_counts : Counts
no_counts = record { shuts = 0; next_faults = 0; starts_failed = 0; closings = 0; silences = 0; link_faults = λ d. 0; shorts = 0; shorts_of = λ d. 0; strays = 0 }

unfoldable pub counted : Trouble → Counts → Counts
counted Shut c = record c { shuts = raised c.shuts }
counted NextFailed c = record c { next_faults = raised c.next_faults }
counted NotStarted c = record c { starts_failed = raised c.starts_failed }
counted Closing c = record c { closings = raised c.closings }
counted Silence c = record c { silences = raised c.silences }
counted Wanting c = with_short c
counted (ShortOf d) c = with_short_of d c
counted (Failing d) c = with_link_fault d c

-- how often each came
unfoldable pub counts_of : List Trouble → Counts
counts_of [] = no_counts
counts_of (x ∷ xs) = counted x (counts_of xs)

-- what is seen of the world then
unfoldable pub seen_of : StoryData → Seen (Unit {0})
seen_of story = record { given = told_given; history = story.history; counts = counts_of story.troubles }

abbrev pub untold : StoryData
untold = record { history = []; troubles = [] }

-- ---- What each call adds

abbrev pub told_more : List WorldStep → List Trouble → StoryData → StoryData
told_more steps troubles story = record { history = story.history ++ steps; troubles = troubles ++ story.troubles }

-- the stimulus that an item is of, where one can be told by it: that a switch joins or leaves, and the moment
abbrev pub begun_by : Result Item NextFault → Option WorldStim
begun_by (Ok (items.Joined d n)) = Some (Join d)
begun_by (Ok (items.Left d)) = Some (Leave d)
begun_by (Ok (items.Moment t)) = Some (At t)
begun_by other = None

abbrev pub open_troubles : {T : Type 0} → Result T OpenFault → List Trouble
open_troubles (Ok x) = []
open_troubles (Err opening.Shut) = Shut ∷ []
open_troubles (Err opening.Short) = Wanting ∷ []

unfoldable pub opened : {T : Type 0} → Result T OpenFault → StoryData → StoryData
opened answer story = told_more (open_steps answer) (open_troubles answer) story

abbrev pub next_troubles : Result Item NextFault → List Trouble
next_troubles (Ok item) = []
next_troubles (Err coming.Failed) = NextFailed ∷ []
next_troubles (Err coming.Short) = Wanting ∷ []

unfoldable pub came : Result Item NextFault → List ℕ → StoryData → StoryData
came answer buf story = told_more (next_steps (begun_by answer) answer buf) (next_troubles answer) story

abbrev pub start_troubles : {T : Type 0} → Result T StartFault → List Trouble
start_troubles (Ok x) = []
start_troubles (Err starting.NotStarted) = NotStarted ∷ []
start_troubles (Err starting.Short) = Wanting ∷ []

unfoldable pub started : {T : Type 0} → ℕ → Result T StartFault → StoryData → StoryData
started app answer story = told_more (start_steps app answer) (start_troubles answer) story

abbrev pub give_troubles : {T : Type 0} → Result T GiveFault → List Trouble
give_troubles (Ok x) = []
give_troubles (Err giving.Gone) = Closing ∷ []
give_troubles (Err giving.Short) = Wanting ∷ []

unfoldable pub gave : {T : Type 0} → ℕ → List ℕ → Result T GiveFault → StoryData → StoryData
gave app bytes answer story = told_more (give_steps app bytes answer) (give_troubles answer) story

abbrev pub take_troubles : Result Taken Short → List Trouble
take_troubles (Ok (taking.Some n)) = []
take_troubles (Ok taking.Closed) = Closing ∷ []
take_troubles (Ok taking.Silent) = Silence ∷ []
take_troubles (Err short) = Wanting ∷ []

unfoldable pub took : ℕ → Result Taken Short → List ℕ → StoryData → StoryData
took app answer buf story = told_more (take_steps app answer buf) (take_troubles answer) story

unfoldable pub ended : ℕ → StoryData → StoryData
ended app story = told_more (end_steps app (is_running app (state (seen_of story)))) [] story

abbrev pub link_troubles : {T : Type 0} → ℕ → Result T LinkFault → List Trouble
link_troubles d (Ok x) = []
link_troubles d (Err linking.Failed) = Failing d ∷ []
link_troubles d (Err linking.Short) = ShortOf d ∷ []

unfoldable pub sent : {T : Type 0} → ℕ → List ℕ → Result T LinkFault → StoryData → StoryData
sent d frame answer story = told_more (send_steps d frame (is_joined d (state (seen_of story))) answer) (link_troubles d answer) story

unfoldable pub received : ℕ → Result ℕ LinkFault → List ℕ → StoryData → StoryData
received d answer buf story = told_more (receive_steps d (is_joined d (state (seen_of story))) answer buf) (link_troubles d answer) story

-- ---- What is noted

-- one more thing is noted, with the bytes before it
unfoldable pub noted : Note → List ℕ → StoryData → StoryData
noted (notes.Byte b) bytes story = story
noted notes.Opened bytes story = told_more (Opened ∷ []) [] story
noted notes.Shut bytes story = told_more (NotOpened ∷ []) (Shut ∷ []) story
noted (notes.From d) bytes story = told_more (From d bytes ∷ []) [] story
noted (notes.Joined d) bytes story = told_more (Acted (Stim (Join d)) ∷ Joined d bytes ∷ []) [] story
noted (notes.Left d) bytes story = told_more (Acted (Stim (Leave d)) ∷ Left d ∷ []) [] story
noted (notes.Moment t) bytes story = told_more (Acted (Stim (At t)) ∷ Moment t ∷ []) [] story
noted notes.Idle bytes story = told_more (Idle ∷ []) [] story
noted notes.End bytes story = told_more (End ∷ []) [] story
noted notes.Untellable bytes story = told_more (Untold ∷ []) (NextFailed ∷ []) story
noted (notes.Started app) bytes story = told_more (Acted (Started app true) ∷ []) [] story
noted (notes.NotStarted app) bytes story = told_more (Acted (Started app false) ∷ []) (NotStarted ∷ []) story
noted (notes.Gave app) bytes story = told_more (Acted (Gave app bytes) ∷ []) [] story
noted (notes.Gone app) bytes story = told_more (Acted (Gone app bytes) ∷ []) (Closing ∷ []) story
noted (notes.Took app room) bytes story = told_more (TookInto app (what.Bytes bytes) room ∷ []) [] story
noted (notes.Closed app room) bytes story = told_more (TookInto app what.Closed room ∷ []) (Closing ∷ []) story
noted (notes.Silent app room) bytes story = told_more (TookInto app what.Silent room ∷ []) (Silence ∷ []) story
noted (notes.Ended app) bytes story = told_more (end_steps app (is_running app (state (seen_of story)))) [] story
noted (notes.Sent d) bytes story = told_more (Acted (Sent d bytes) ∷ []) [] story
noted (notes.Unsent d) bytes story = told_more (unsent d (is_joined d (state (seen_of story))) ∷ []) (Failing d ∷ []) story
noted (notes.Got d) bytes story = told_more (Acted (Got d bytes) ∷ []) [] story
noted (notes.Unreceived d) bytes story = told_more (unreceived d (is_joined d (state (seen_of story))) ∷ []) (Failing d ∷ []) story
noted notes.Short bytes story = told_more [] (Wanting ∷ []) story
noted (notes.ShortOf d) bytes story = told_more [] (ShortOf d ∷ []) story

abbrev pub is_byte : Note → Bool
is_byte (notes.Byte b) = true
is_byte note = false

-- what was told so far, and the bytes of what is noted next
pub record Told : Type 0 where
  pub story : StoryData
  pub waiting : List ℕ

abbrev pub after_note : Note → Told → Told
after_note (notes.Byte b) t = record t { waiting = t.waiting ++ b ∷ [] }
after_note note t = record { story = noted note t.waiting t.story; waiting = [] }

unfoldable pub told_from : {B : Type 0} → Told → List (Note × B) → Told
told_from t [] = t
told_from t (x ∷ xs) = told_from (after_note x.0 t) xs

abbrev pub told : {B : Type 0} → List (Note × B) → Told
told xs = told_from (record { story = untold; waiting = [] }) xs

-- no byte waits for what it belongs to
abbrev pub NoneWait : {B : Type 0} → List (Note × B) → Type 0
NoneWait xs = (told xs).waiting ≡ []

-- these bytes were noted behind others
abbrev pub Spelled : {B : Type 0} → List ℕ → List (Note × B) → List (Note × B) → Type 0
Spelled bytes old new = ((told new).story ≡ (told old).story) × ((told new).waiting ≡ (told old).waiting ++ bytes)

-- a buffer holds the bytes of an answer
abbrev pub HoldsItem : Item → List ℕ → Type 0
HoldsItem (items.From d n) buf = n ≤ length buf
HoldsItem (items.Joined d n) buf = n ≤ length buf
HoldsItem other buf = Unit {0}

abbrev pub HoldsTaken : Taken → List ℕ → Type 0
HoldsTaken (taking.Some n) buf = n ≤ length buf
HoldsTaken other buf = Unit {0}

-- ---- Which switches are joined

-- in the list, or not, as this says; the others are as they were
pub record Lists (d : ℕ) (here : Bool) (old new : List ℕ) : Type 0 where
  pub same : is_among d new ≡ here
  pub other : (e : ℕ) → e ≢ d → is_among e new ≡ is_among e old

-- as a switch joins or leaves
abbrev pub ListsAsTold : Result Item NextFault → List ℕ → List ℕ → Type 0
ListsAsTold (Ok (items.Joined d n)) old new = (d < 2 ^ 64) × Lists d true old new
ListsAsTold (Ok (items.Left d)) old new = Lists d false old new
ListsAsTold other old new = new ≡ old

-- as the call of a link is answered, which loses the switch where it fails
abbrev pub ListsAsLost : {T : Type 0} → ℕ → Result T LinkFault → List ℕ → List ℕ → Type 0
ListsAsLost d (Err linking.Failed) old new = Lists d false old new
ListsAsLost d other old new = new ≡ old

-- Of these switches it was told that they joined, and not that they left or were lost.
abbrev pub AreJoined : List ℕ → StoryData → Type 0
AreJoined listed story = (d : ℕ) → d < 2 ^ 64 → is_joined d (state (seen_of story)) ≡ is_among d listed

-- ---- What is passed on

-- the world within tells this next, which is passed on, but for want of memory
pub record PassesItem {Own : Type 0} (Tells : Type 0) (old new : Seen Own) (answer : Result Item NextFault) (buf : List ℕ) : Type 0 where
  pub told : Result Item NextFault
  pub nexts : Nexts Tells old new told buf
  pub passed : (answer ≡ told) ⊎ (answer ≡ Err coming.Short)

-- A message for a switch that is joined is sent by the world within; for another one nothing is seen there.
abbrev pub PassesMessage : {Own T : Type 0} → Type 0 → ℕ → List ℕ → Bool → Seen Own → Seen Own → Result T LinkFault → Type 0
PassesMessage Tells d frame true old new answer = Sends Tells d frame old new answer
PassesMessage Tells d frame false old new answer = new ≡ old

-- ---- The world

-- the world within, and what was told
pub record TellingData (W : Type 0) : Type 0 where
  pub world : W
  pub story : StoryData
