-- What each call of a world does to what is seen of it: one record a call, over what was seen before it and after it. The first
-- fields hold in every world: what it was given stays, no count falls, each fault comes only with its own count, and what stands in a
-- buffer is what the answer says. `told` holds in the worlds that tell: what the call appends to the history, and that nothing is sent
-- to a switch that is not joined. Where such a world also shows what it is (`IfShown`), it says which counts move, what comes next, and
-- that each call out of place fails. All of this is our own choice but for the messages of OpenFlow 1.0.0.
use Rattle.std.specs.Prelude.{◌≡◌, ℕ, ◌≤◌, ◌↔◌, Bool, true, false, not, List, [], ◌∷◌, ◌++◌, length, take, Option, Some, None, Result, Ok, Err, IsTrue, IsErr, IsErrOf, IfOk, IfSome, slice_get}
use Rattle.lego_io.specs.Count.{raised, Rose}
use Rattle.of_types.specs.Fields.{number_at}
use Rattle.of_types.specs.declared.journal.Act.TheVariants.{Stim, Started, Gave, Gone, Ended, Sent, Got}
use Rattle.of_types.specs.declared.journal.TookWhat.TheVariants as took
use Rattle.of_types.specs.declared.journal.WorldStim.{WorldStim}
use Rattle.outside.specs.declared.faults.Short.{Short}
use Rattle.outside.specs.declared.faults.OpenFault.{OpenFault}
use Rattle.outside.specs.declared.faults.OpenFault.TheVariants as opening
use Rattle.outside.specs.declared.faults.NextFault.{NextFault}
use Rattle.outside.specs.declared.faults.NextFault.TheVariants as coming
use Rattle.outside.specs.declared.faults.StartFault.{StartFault}
use Rattle.outside.specs.declared.faults.StartFault.TheVariants as starting
use Rattle.outside.specs.declared.faults.GiveFault.{GiveFault}
use Rattle.outside.specs.declared.faults.GiveFault.TheVariants as giving
use Rattle.outside.specs.declared.faults.LinkFault.{LinkFault}
use Rattle.outside.specs.declared.faults.LinkFault.TheVariants as linking
use Rattle.outside.specs.declared.item.Item.{Item}
use Rattle.outside.specs.declared.item.Item.TheVariants as items
use Rattle.outside.specs.declared.item.Taken.{Taken}
use Rattle.outside.specs.declared.item.Taken.TheVariants as gave
use Rattle.outside.specs.declared.step.WorldStep.{WorldStep}
use Rattle.outside.specs.declared.step.WorldStep.TheVariants.{Acted, TookInto, From, Joined, Left, Moment, Idle, End, Opened, NotOpened, NextFailed, SendLost, RecvLost, SendFailed, RecvFailed}
use Rattle.outside.specs.Seen.{Counts, Seen, IfShown, NoneFell, AreCounts, with_stray, with_short, with_short_of, with_link_fault}
use Rattle.outside.specs.State.{State, after_steps, state, is_running, is_joined, has_waiting, upcoming}
use Rattle.of_wire.specs.Handshake.{IsFeaturesOf}

-- ---- Messages in a buffer

-- how many bytes a message may have, which its length field holds (5.1 OpenFlow Header)
abbrev pub most_message : ℕ
most_message = 65535

-- one message by its header: the header at least, and as many bytes as it says
pub record IsFramed (bytes : List ℕ) : Type 0 where
  pub header : 8 ≤ length bytes
  pub whole : number_at 2 2 bytes ≡ length bytes

-- the first n bytes of a buffer are one message; a world that tells says which by its history
pub record IsMessageIn (Tells : Type 0) (n : ℕ) (buf : List ℕ) : Type 0 where
  pub within : n ≤ length buf
  pub at_most : n ≤ most_message
  pub framed : ¬ Tells → IsFramed (take n buf)

-- what stands in a buffer where `next` answers an item
abbrev pub IsItemIn : Type 0 → Item → List ℕ → Type 0
IsItemIn Tells (items.From d n) buf = IsMessageIn Tells n buf
IsItemIn Tells (items.Joined d n) buf = (n ≤ length buf) × (n ≤ most_message) × IsFeaturesOf d (take n buf)
IsItemIn Tells other buf = Unit {0}

-- what stands in a buffer where `take` answers
abbrev pub IsTakenIn : Taken → List ℕ → Type 0
IsTakenIn (gave.Some n) buf = (1 ≤ n) × (n ≤ length buf)
IsTakenIn other buf = Unit {0}

-- ---- open

unfoldable pub open_steps : {T : Type 0} → Result T OpenFault → List WorldStep
open_steps (Ok x) = Opened ∷ []
open_steps (Err opening.Shut) = NotOpened ∷ []
open_steps (Err opening.Short) = []

unfoldable pub open_counts : {T : Type 0} → Result T OpenFault → Counts → Counts
open_counts (Ok x) c = c
open_counts (Err opening.Shut) c = record c { shuts = raised c.shuts }
open_counts (Err opening.Short) c = with_short c

-- A second call is out of place.
pub record ToldOpen {Own T : Type 0} (old new : Seen Own) (result : Result T OpenFault) : Type 0 where
  pub history : new.history ≡ old.history ++ open_steps result
  pub counts : IfShown old (AreCounts old.given.declared (with_stray (state old).opened (open_counts result old.counts)) new.counts)
  pub out_of_place : IfShown old (IsTrue (state old).opened → IsErr result)

pub record Opens {Own T : Type 0} (Tells : Type 0) (old new : Seen Own) (result : Result T OpenFault) : Type 0 where
  pub given : new.given ≡ old.given
  pub none_fell : NoneFell old.counts new.counts
  pub shut : IsErrOf result opening.Shut → Rose old.counts.shuts new.counts.shuts
  pub short : IsErrOf result opening.Short → Rose old.counts.shorts new.counts.shorts
  pub told : Tells → ToldOpen old new result

-- ---- next

abbrev pub stim_steps : Option WorldStim → List WorldStep
stim_steps None = []
stim_steps (Some x) = Acted (Stim x) ∷ []

unfoldable pub item_step : Item → List ℕ → WorldStep
item_step (items.From d n) buf = From d (take n buf)
item_step (items.Joined d n) buf = Joined d (take n buf)
item_step (items.Left d) buf = Left d
item_step (items.Moment t) buf = Moment t
item_step items.Idle buf = Idle
item_step items.End buf = End

unfoldable pub next_steps : Option WorldStim → Result Item NextFault → List ℕ → List WorldStep
next_steps begun (Ok item) buf = stim_steps begun ++ item_step item buf ∷ []
next_steps begun (Err coming.Failed) buf = NextFailed ∷ []
next_steps begun (Err coming.Short) buf = []

unfoldable pub next_counts : Result Item NextFault → Counts → Counts
next_counts (Ok item) c = c
next_counts (Err coming.Failed) c = record c { next_faults = raised c.next_faults }
next_counts (Err coming.Short) c = with_short c

-- Idle comes where a stimulus was begun, no Idle was told since, and nothing waits; End comes where no stimulus is still to come and
-- the last one had its Idle.
abbrev pub IsIdle : State → Type 0
IsIdle s = (s.begun ≡ true) × (upcoming s ≡ [])

abbrev pub IsOver : State → Type 0
IsOver s = (s.begun ≡ false) × (s.to_come ≡ [])

-- `begun` is the stimulus that the call begins, if it begins one: the next one of those to come.
pub record ToldNext {Own : Type 0} (old new : Seen Own) (result : Result Item NextFault) (buf : List ℕ) : Type 0 where
  pub begun : Option WorldStim
  pub to_come : IfShown old (IfSome begun (λ x. slice_get (state old).to_come 0 ≡ Some x))
  pub history : new.history ≡ old.history ++ next_steps begun result buf
  pub counts : IfShown old (AreCounts old.given.declared (next_counts result old.counts) new.counts)
  pub idle : IfShown old (IfOk result (λ item. (item ≡ items.Idle) ↔ IsIdle (after_steps (stim_steps begun) (state old))))
  pub over : IfShown old (IfOk result (λ item. (item ≡ items.End) ↔ IsOver (after_steps (stim_steps begun) (state old))))

pub record Nexts {Own : Type 0} (Tells : Type 0) (old new : Seen Own) (result : Result Item NextFault) (buf : List ℕ) : Type 0 where
  pub given : new.given ≡ old.given
  pub none_fell : NoneFell old.counts new.counts
  pub item : IfOk result (λ item. IsItemIn Tells item buf)
  pub failed : IsErrOf result coming.Failed → Rose old.counts.next_faults new.counts.next_faults
  pub short : IsErrOf result coming.Short → Rose old.counts.shorts new.counts.shorts
  pub told : Tells → ToldNext old new result buf

-- ---- start

unfoldable pub start_steps : {T : Type 0} → ℕ → Result T StartFault → List WorldStep
start_steps app (Ok x) = Acted (Started app true) ∷ []
start_steps app (Err starting.NotStarted) = Acted (Started app false) ∷ []
start_steps app (Err starting.Short) = []

unfoldable pub start_counts : {T : Type 0} → Result T StartFault → Counts → Counts
start_counts (Ok x) c = c
start_counts (Err starting.NotStarted) c = record c { starts_failed = raised c.starts_failed }
start_counts (Err starting.Short) c = with_short c

-- A start of an application that was started and not ended is out of place.
pub record ToldStart {Own T : Type 0} (app : ℕ) (old new : Seen Own) (result : Result T StartFault) : Type 0 where
  pub history : new.history ≡ old.history ++ start_steps app result
  pub counts : IfShown old (AreCounts old.given.declared (with_stray (is_running app (state old)) (start_counts result old.counts)) new.counts)
  pub out_of_place : IfShown old (IsTrue (is_running app (state old)) → IsErr result)

pub record Starts {Own T : Type 0} (Tells : Type 0) (app : ℕ) (old new : Seen Own) (result : Result T StartFault) : Type 0 where
  pub given : new.given ≡ old.given
  pub none_fell : NoneFell old.counts new.counts
  pub not_started : IsErrOf result starting.NotStarted → Rose old.counts.starts_failed new.counts.starts_failed
  pub short : IsErrOf result starting.Short → Rose old.counts.shorts new.counts.shorts
  pub told : Tells → ToldStart app old new result

-- ---- give

unfoldable pub give_steps : {T : Type 0} → ℕ → List ℕ → Result T GiveFault → List WorldStep
give_steps app bytes (Ok x) = Acted (Gave app bytes) ∷ []
give_steps app bytes (Err giving.Gone) = Acted (Gone app bytes) ∷ []
give_steps app bytes (Err giving.Short) = []

unfoldable pub give_counts : {T : Type 0} → Result T GiveFault → Counts → Counts
give_counts (Ok x) c = c
give_counts (Err giving.Gone) c = record c { closings = raised c.closings }
give_counts (Err giving.Short) c = with_short c

-- A call for an application that was not started, or was ended since, is out of place.
pub record ToldGive {Own T : Type 0} (app : ℕ) (bytes : List ℕ) (old new : Seen Own) (result : Result T GiveFault) : Type 0 where
  pub history : new.history ≡ old.history ++ give_steps app bytes result
  pub counts : IfShown old (AreCounts old.given.declared (with_stray (not (is_running app (state old))) (give_counts result old.counts)) new.counts)
  pub out_of_place : IfShown old (is_running app (state old) ≡ false → IsErr result)

pub record Gives {Own T : Type 0} (Tells : Type 0) (app : ℕ) (bytes : List ℕ) (old new : Seen Own) (result : Result T GiveFault) : Type 0 where
  pub given : new.given ≡ old.given
  pub none_fell : NoneFell old.counts new.counts
  pub gone : IsErrOf result giving.Gone → Rose old.counts.closings new.counts.closings
  pub short : IsErrOf result giving.Short → Rose old.counts.shorts new.counts.shorts
  pub told : Tells → ToldGive app bytes old new result

-- ---- take

unfoldable pub take_steps : ℕ → Result Taken Short → List ℕ → List WorldStep
take_steps app (Ok (gave.Some n)) buf = TookInto app (took.Bytes (take n buf)) (length buf) ∷ []
take_steps app (Ok gave.Closed) buf = TookInto app took.Closed (length buf) ∷ []
take_steps app (Ok gave.Silent) buf = TookInto app took.Silent (length buf) ∷ []
take_steps app (Err short) buf = []

unfoldable pub take_counts : Result Taken Short → Counts → Counts
take_counts (Ok (gave.Some n)) c = c
take_counts (Ok gave.Closed) c = record c { closings = raised c.closings }
take_counts (Ok gave.Silent) c = record c { silences = raised c.silences }
take_counts (Err short) c = with_short c

-- A call for an application that was not started, or was ended since, is out of place, and answers Closed.
pub record ToldTake {Own : Type 0} (app : ℕ) (old new : Seen Own) (result : Result Taken Short) (buf : List ℕ) : Type 0 where
  pub history : new.history ≡ old.history ++ take_steps app result buf
  pub counts : IfShown old (AreCounts old.given.declared (with_stray (not (is_running app (state old))) (take_counts result old.counts)) new.counts)
  pub out_of_place : IfShown old (is_running app (state old) ≡ false → IfOk result (λ what. what ≡ gave.Closed))

pub record Takes {Own : Type 0} (Tells : Type 0) (app : ℕ) (old new : Seen Own) (result : Result Taken Short) (buf : List ℕ) : Type 0 where
  pub given : new.given ≡ old.given
  pub none_fell : NoneFell old.counts new.counts
  pub taken : IfOk result (λ what. IsTakenIn what buf)
  pub closed : result ≡ Ok gave.Closed → Rose old.counts.closings new.counts.closings
  pub silent : result ≡ Ok gave.Silent → Rose old.counts.silences new.counts.silences
  pub short : IsErr result → Rose old.counts.shorts new.counts.shorts
  pub told : Tells → ToldTake app old new result buf

-- ---- end

unfoldable pub end_steps : ℕ → Bool → List WorldStep
end_steps app true = Acted (Ended app) ∷ []
end_steps app false = []

pub record ToldEnd {Own : Type 0} (app : ℕ) (old new : Seen Own) : Type 0 where
  pub history : new.history ≡ old.history ++ end_steps app (is_running app (state old))
  pub counts : IfShown old (AreCounts old.given.declared old.counts new.counts)

pub record Ends {Own : Type 0} (Tells : Type 0) (app : ℕ) (old new : Seen Own) : Type 0 where
  pub given : new.given ≡ old.given
  pub none_fell : NoneFell old.counts new.counts
  pub told : Tells → ToldEnd app old new

-- ---- send

-- a call that fails: where the switch is joined it is lost
abbrev pub unsent : ℕ → Bool → WorldStep
unsent d true = SendLost d
unsent d false = SendFailed d

unfoldable pub send_steps : {T : Type 0} → ℕ → List ℕ → Bool → Result T LinkFault → List WorldStep
send_steps d frame joined (Ok x) = Acted (Sent d frame) ∷ []
send_steps d frame joined (Err linking.Failed) = unsent d joined ∷ []
send_steps d frame joined (Err linking.Short) = []

unfoldable pub link_counts : {T : Type 0} → ℕ → Result T LinkFault → Counts → Counts
link_counts d (Ok x) c = c
link_counts d (Err linking.Failed) c = with_link_fault d c
link_counts d (Err linking.Short) c = with_short_of d c

-- A call for a switch that is not joined is out of place; one that fails for a switch that is joined loses it.
pub record ToldSend {Own T : Type 0} (d : ℕ) (frame : List ℕ) (old new : Seen Own) (result : Result T LinkFault) : Type 0 where
  pub history : new.history ≡ old.history ++ send_steps d frame (is_joined d (state old)) result
  pub counts : IfShown old (AreCounts old.given.declared (with_stray (not (is_joined d (state old))) (link_counts d result old.counts)) new.counts)
  pub out_of_place : is_joined d (state old) ≡ false → IsErr result

pub record Sends {Own T : Type 0} (Tells : Type 0) (d : ℕ) (frame : List ℕ) (old new : Seen Own) (result : Result T LinkFault) : Type 0 where
  pub given : new.given ≡ old.given
  pub none_fell : NoneFell old.counts new.counts
  pub failed : IsErrOf result linking.Failed → Rose (old.counts.link_faults d) (new.counts.link_faults d)
  pub short : IsErrOf result linking.Short → Rose old.counts.shorts new.counts.shorts
  pub short_of : IsErrOf result linking.Short → Rose (old.counts.shorts_of d) (new.counts.shorts_of d)
  pub told : Tells → ToldSend d frame old new result

-- ---- recv

abbrev pub unreceived : ℕ → Bool → WorldStep
unreceived d true = RecvLost d
unreceived d false = RecvFailed d

unfoldable pub receive_steps : ℕ → Bool → Result ℕ LinkFault → List ℕ → List WorldStep
receive_steps d joined (Ok n) buf = Acted (Got d (take n buf)) ∷ []
receive_steps d joined (Err linking.Failed) buf = unreceived d joined ∷ []
receive_steps d joined (Err linking.Short) buf = []

-- the switch is joined and a message of it waits
abbrev pub can_receive : ℕ → State → Bool
can_receive d s = has_waiting d s

-- A call for a switch that is not joined, or of which no message waits, is out of place; one that fails for a switch that is joined loses
-- it.
pub record ToldReceive {Own : Type 0} (d : ℕ) (old new : Seen Own) (result : Result ℕ LinkFault) (buf : List ℕ) : Type 0 where
  pub history : new.history ≡ old.history ++ receive_steps d (is_joined d (state old)) result buf
  pub counts : IfShown old (AreCounts old.given.declared (with_stray (not (can_receive d (state old))) (link_counts d result old.counts)) new.counts)
  pub out_of_place : IfShown old (can_receive d (state old) ≡ false → IsErr result)

pub record Receives {Own : Type 0} (Tells : Type 0) (d : ℕ) (old new : Seen Own) (result : Result ℕ LinkFault) (buf : List ℕ) : Type 0 where
  pub given : new.given ≡ old.given
  pub none_fell : NoneFell old.counts new.counts
  pub message : IfOk result (λ n. IsMessageIn Tells n buf)
  pub failed : IsErrOf result linking.Failed → Rose (old.counts.link_faults d) (new.counts.link_faults d)
  pub short : IsErrOf result linking.Short → Rose old.counts.shorts new.counts.shorts
  pub short_of : IsErrOf result linking.Short → Rose (old.counts.shorts_of d) (new.counts.shorts_of d)
  pub told : Tells → ToldReceive d old new result buf

-- ---- part

-- The link of the switch ends: the same as where a message could not be sent to it. One that is joined is lost.
abbrev pub PartsWith : {Own : Type 0} → Type 0 → ℕ → Seen Own → Seen Own → Type 0
PartsWith Tells d old new = Sends {T = Unit {0}} Tells d [] old new (Err linking.Failed)
