-- What is said on the link of a switch, as data: which calls were made, in order, and how the last one failed. One record, `Calls`, says
-- on both exits of a function which of these it made; what else is known of them (no call for an application, no call out of place, the
-- cause of a fault) are laws over that list. All of this is our own but for the messages of OpenFlow 1.0.0.
use Rattle.std.specs.Prelude.{◌≡◌, ℕ, ◌+◌, ◌^◌, ◌<◌, ◌≤◌, Bool, true, false, List, [], ◌∷◌, ◌++◌, length, take, map, filter_map, ◌⊎◌, Option, Some, None, Result, IsErr, MatchResult}
use Rattle.std.specs.List.{AllByRecursion, flat_map, list_any}
use Rattle.std.specs.Option.{is_some}
use Rattle.lego_io.specs.Count.{Rose}
use Rattle.of_types.specs.Fields.{number_at}
use Rattle.of_types.specs.declared.journal.Act.TheVariants.{Sent, Got}
use Rattle.of_match.specs.declared.key.Key.{Key}
use Rattle.of_wire.specs.declared.message.Message.TheVariants.{BarrierRequest, BarrierReply}
use Rattle.of_wire.specs.Reading.{reading_of}
use Rattle.of_wire.specs.Spelling.{message_bytes}
use Rattle.outside.specs.declared.step.WorldStep.{WorldStep}
use Rattle.outside.specs.declared.step.WorldStep.TheVariants.{Acted}
use Rattle.outside.specs.Seen.{Counts, Seen, Continues}
use Rattle.outside.specs.State.{state, is_joined}
use Rattle.outside.specs.Calls.{unsent, unreceived}
use Rattle.net_txn.specs.declared.halt.Halt.{Halt}
use Rattle.net_txn.specs.declared.halt.Halt.TheVariants.{Lost, Fault}
use Rattle.lego_model.specs.declared.fault.TxnFault.{TxnFault}
use Rattle.lego_model.specs.declared.fault.TxnFault.TheVariants.{NoMemory}
use Rattle.lego_model.specs.declared.wait.Awaited.{Awaited}
use Rattle.lego_model.specs.declared.wait.Heard.{Heard}
use Rattle.lego_model.specs.declared.wait.Heard.TheVariants.{Echo}
use Rattle.lego_model.specs.BarrierWaits.{flood, heard, is_reply, echo_reply, kept_by, kept_of}
use Rattle.net_txn.specs.declared.queue.Storage.{Storage}
use Rattle.net_txn.specs.declared.queue.Storage.TheVariants.{Growing, Reserved}
use Rattle.net_txn.specs.declared.trouble.Trouble.{Trouble}
use Rattle.net_txn.specs.declared.trouble.Trouble.TheVariants as troubles
use Rattle.lego_model.specs.OwnIds.{own_id_of, AscendWithin}
use Rattle.lego_model.specs.UndoFaults.{GoesWithoutStrays, key_refused}
use Rattle.net_txn.specs.MessageStore.{KeptWhereFit}
use Rattle.net_txn.specs.Waits.{IsRead, Brought, with_heard, answer_of}
use Rattle.net_txn.specs.Causes.{halt_by}

-- ---- What is said

pub data Said : Type 0 where
  -- a message was sent to the switch
  Says : ℕ → List ℕ → Said
  -- a message was got from it
  Hears : ℕ → List ℕ → Said
  -- bytes were got from it that are no message
  HearsNoise : ℕ → List ℕ → Said
  -- its link failed where a message was to be sent, or it was parted with
  CannotSay : ℕ → Said
  -- its link failed where a message was to be got
  CannotHear : ℕ → Said
  -- the world's own memory ran out in a call of it, which leaves no step
  LacksMemory : ℕ → Said

-- The step of a call, by whether the switch is joined before it: one that is joined is lost where its link fails.
abbrev pub steps_in : Bool → Said → List WorldStep
steps_in joined (Says d bytes) = Acted (Sent d bytes) ∷ []
steps_in joined (Hears d bytes) = Acted (Got d bytes) ∷ []
steps_in joined (HearsNoise d bytes) = Acted (Got d bytes) ∷ []
steps_in joined (CannotSay d) = unsent d joined ∷ []
steps_in joined (CannotHear d) = unreceived d joined ∷ []
steps_in joined (LacksMemory d) = []

-- whether the switch is joined behind it
abbrev pub joined_behind : Bool → Said → Bool
joined_behind joined (CannotSay d) = false
joined_behind joined (CannotHear d) = false
joined_behind joined other = joined

abbrev pub said_steps : Bool → List Said → List WorldStep
said_steps joined [] = []
said_steps joined (x ∷ xs) = steps_in joined x ++ said_steps (joined_behind joined x) xs

-- It is of the switch; what is noise is no message; and where a call failed its count rose. That what was heard is a message is said where
-- it was read (`AreHeard`).
abbrev pub IsSaid : ℕ → Counts → Counts → Said → Type 0
IsSaid d old new (Says e bytes) = e ≡ d
IsSaid d old new (Hears e bytes) = e ≡ d
IsSaid d old new (HearsNoise e bytes) = (e ≡ d) × IsErr (reading_of bytes)
IsSaid d old new (CannotSay e) = (e ≡ d) × Rose (old.link_faults d) (new.link_faults d)
IsSaid d old new (CannotHear e) = (e ≡ d) × Rose (old.link_faults d) (new.link_faults d)
IsSaid d old new (LacksMemory e) = (e ≡ d) × Rose old.shorts new.shorts × Rose (old.shorts_of d) (new.shorts_of d)

-- a message is sent only where the switch is joined
abbrev pub IsSaidTo : Bool → Said → Type 0
IsSaidTo joined (Says d bytes) = joined ≡ true
IsSaidTo joined other = Unit {0}

abbrev pub AreSaidTo : Bool → List Said → Type 0
AreSaidTo joined [] = Unit {0}
AreSaidTo joined (x ∷ xs) = IsSaidTo joined x × AreSaidTo (joined_behind joined x) xs

-- Exactly this was said on the link of the switch: in a world that tells, the history grew by its steps.
pub record Calls {Own : Type 0} (Tells : Type 0) (d : ℕ) (said : List Said) (old new : Seen Own) : Type 0 where
  pub continues : Continues Tells old new
  pub each : AllByRecursion (IsSaid d old.counts new.counts) said
  pub told : Tells → new.history ≡ old.history ++ said_steps (is_joined d (state old)) said
  pub joined : Tells → AreSaidTo (is_joined d (state old)) said

-- the transaction ids of what was sent, but for answers to ECHO_REQUESTs
abbrev pub id_said : Said → Option ℕ
id_said (Says d bytes) = own_id_of bytes
id_said other = None

abbrev pub ids_said : List Said → List ℕ
ids_said said = filter_map id_said said

-- Calls of the link of one switch alone were made, each in place where the world tells in order and the switch is joined. They use so many ids
-- at most, from this one on, where these do not begin anew.
pub record Speaks {Own : Type 0} (Tells : Type 0) (d xid most : ℕ) (old new : Seen Own) : Type 0 where
  pub said : List Said
  pub calls : Calls Tells d said old new
  pub goes : GoesWithoutStrays d (said_steps true said)
  pub ids : xid + most < 2 ^ 32 → AscendWithin xid (ids_said said) (xid + most)

-- ---- One call

-- what a call said that was to send and failed
abbrev pub unsaid : ℕ → Trouble → List Said
unsaid d troubles.Link = CannotSay d ∷ []
unsaid d troubles.Short = LacksMemory d ∷ []
unsaid d other = []

-- what a call said that was to get a message and failed
abbrev pub unheard : ℕ → Trouble → List ℕ → List Said
unheard d troubles.Link buf = CannotHear d ∷ []
unheard d troubles.Short buf = LacksMemory d ∷ []
unheard d (troubles.Broke n) buf = HearsNoise d (take n buf) ∷ []
unheard d troubles.Parted buf = CannotSay d ∷ []
unheard d other buf = []

-- the link of the switch failed, or the world's own memory ran out
abbrev pub IsOfLink : Trouble → Type 0
IsOfLink troubles.Link = Unit {0}
IsOfLink troubles.Short = Unit {0}
IsOfLink other = ⊥

abbrev pub IsOfHearing : Trouble → Type 0
IsOfHearing (troubles.Broke n) = Unit {0}
IsOfHearing trouble = IsOfLink trouble

abbrev pub SaysOne : {Own T : Type 0} → Type 0 → ℕ → List ℕ → Seen Own → Seen Own → Result T Trouble → Type 0
SaysOne Tells d frame old new result = MatchResult result (λ x. Calls Tells d (Says d frame ∷ []) old new) (λ t. IsOfLink t × Calls Tells d (unsaid d t) old new)

-- the front of a buffer is a message, which was got
pub record HearsMessage {Own : Type 0} (Tells : Type 0) (d : ℕ) (old new : Seen Own) (buf : List ℕ) (n : ℕ) : Type 0 where
  pub read : IsRead (take n buf)
  pub calls : Calls Tells d (Hears d (take n buf) ∷ []) old new

abbrev pub HearsOne : {Own : Type 0} → Type 0 → ℕ → Seen Own → Seen Own → List ℕ → Result ℕ Trouble → Type 0
HearsOne Tells d old new buf result = MatchResult result (λ n. Calls Tells d (Hears d (take n buf) ∷ []) old new) (λ t. IsOfHearing t × Calls Tells d (unheard d t buf) old new)

-- ---- One message in a wait

-- Where messages are kept: in a queue that grows, or in a store of fixed size where one that does not fit is dropped.
abbrev pub KeptAs : Storage → List (ℕ × List ℕ) → List (ℕ × List ℕ) → List (ℕ × List ℕ) → Type 0
KeptAs Growing kept more now_kept = now_kept ≡ kept ++ more
KeptAs Reserved kept more now_kept = KeptWhereFit kept more now_kept

-- an ECHO_REQUEST is answered (5.5.3 Echo Reply)
abbrev pub said_by : ℕ → Heard → List ℕ → List Said
said_by d Echo bytes = Says d (echo_reply bytes) ∷ []
said_by d _ bytes = []

abbrev pub heard_said : Awaited → List ℕ → List Said
heard_said a bytes = Hears a.dpid bytes ∷ said_by a.dpid (heard a bytes) bytes

abbrev pub wait_said : Awaited → List (List ℕ) → List Said
wait_said a got = flat_map (heard_said a) got

-- what was to be done with a message was done
pub record Treats {Own : Type 0} (Tells : Type 0) (a : Awaited) (storage : Storage) (bytes : List ℕ) (old new : Seen Own) (kept now_kept : List (ℕ × List ℕ)) (answer now_answer : Brought) (ended : Bool) : Type 0 where
  pub ends : ended ≡ is_reply (heard a bytes)
  pub calls : Calls Tells a.dpid (said_by a.dpid (heard a bytes) bytes) old new
  pub kept_is : KeptAs storage kept (kept_by a.dpid (heard a bytes) bytes) now_kept
  pub answer_is : now_answer ≡ with_heard a.notices (heard a bytes) bytes answer

-- it was not: the answer to an ECHO_REQUEST could not be sent, or no memory was left to keep it
abbrev pub IsUntreated : Storage → Heard → Trouble → Type 0
IsUntreated storage h troubles.Full = storage ≡ Growing
IsUntreated storage h trouble = IsOfLink trouble × (h ≡ Echo)

pub record TreatsNot {Own : Type 0} (Tells : Type 0) (a : Awaited) (storage : Storage) (bytes : List ℕ) (old new : Seen Own) (kept now_kept : List (ℕ × List ℕ)) (t : Trouble) : Type 0 where
  pub why : IsUntreated storage (heard a bytes) t
  pub calls : Calls Tells a.dpid (unsaid a.dpid t) old new
  pub kept_is : now_kept ≡ kept

-- It was, and then its switch was parted with.
pub record TreatsAndParts {Own : Type 0} (Tells : Type 0) (a : Awaited) (storage : Storage) (bytes : List ℕ) (old new : Seen Own) (kept now_kept : List (ℕ × List ℕ)) (t : Trouble) : Type 0 where
  pub kept_is : KeptAs storage kept (kept_by a.dpid (heard a bytes) bytes) now_kept
  pub calls : Calls Tells a.dpid (said_by a.dpid (heard a bytes) bytes ++ CannotSay a.dpid ∷ []) old new
  pub parted : t ≡ troubles.Parted

abbrev pub PartsBehind : {Own : Type 0} → Type 0 → Awaited → Storage → List ℕ → Seen Own → Seen Own → List (ℕ × List ℕ) → List (ℕ × List ℕ) → Trouble → Type 0
PartsBehind Tells a storage bytes old new kept now_kept t = TreatsNot Tells a storage bytes old new kept now_kept t ⊎ TreatsAndParts Tells a storage bytes old new kept now_kept t

-- messages before the reply to a barrier, none of which refuses an inverse
pub record AreHeard (a : Awaited) (sent : List (ℕ × Key)) (got : List (List ℕ)) : Type 0 where
  pub read : AllByRecursion IsRead got
  pub before_reply : AllByRecursion (λ b. is_reply (heard a b) ≡ false) got
  pub unrefused : AllByRecursion (λ b. key_refused sent b ≡ None) got

-- What was said last where a wait failed: the next message could not be got, or one was got, and what it asks for could not be done.
abbrev pub last_said : ℕ → Option (List ℕ) → Trouble → List ℕ → List Said
last_said d None t buf = unheard d t buf
last_said d (Some bytes) t buf = Hears d bytes ∷ unsaid d t

abbrev pub IsBreakBehind : Awaited → List (ℕ × Key) → Storage → List ℕ → Trouble → List ℕ → Type 0
IsBreakBehind a sent storage bytes (troubles.Refused key xid n) buf = (bytes ≡ take n buf) × (key_refused sent bytes ≡ Some key) × (xid ≡ number_at 4 4 bytes)
IsBreakBehind a sent storage bytes trouble buf = IsUntreated storage (heard a bytes) trouble

-- behind so many messages
abbrev pub IsBreak : Awaited → List (ℕ × Key) → Storage → ℕ → Option (List ℕ) → Trouble → List ℕ → Type 0
IsBreak a sent storage n (Some bytes) trouble buf = IsRead bytes × IsBreakBehind a sent storage bytes trouble buf
IsBreak a sent storage n None troubles.Flooded buf = n ≡ flood
IsBreak a sent storage n None troubles.Parted buf = Unit {0}
IsBreak a sent storage n None trouble buf = IsOfHearing trouble

-- ---- A switch is parted with

abbrev pub is_parted : Trouble → Bool
is_parted troubles.Parted = true
is_parted other = false

-- the inverses that none of the messages refuses: of a switch that is parted with, nothing is said
abbrev pub unrefused_by : Trouble → List (ℕ × Key) → List (ℕ × Key)
unrefused_by troubles.Parted sent = []
unrefused_by other sent = sent

-- it refuses an inverse
abbrev pub refuses_any : List (ℕ × Key) → List ℕ → Bool
refuses_any sent bytes = is_some (key_refused sent bytes)

-- why: so many messages came, or one of them refuses an inverse
abbrev pub IsParting : Trouble → List (ℕ × Key) → List (List ℕ) → Type 0
IsParting troubles.Parted sent got = (length got ≡ flood) ⊎ (list_any (refuses_any sent) got ≡ true)
IsParting other sent got = Unit {0}

-- One message was got that refuses an inverse. What was to be done with it was done, and then the switch was parted with.
pub record HearsAndParts {Own : Type 0} (Tells : Type 0) (a : Awaited) (storage : Storage) (sent : List (ℕ × Key)) (old new : Seen Own) (kept now_kept : List (ℕ × List ℕ)) (t : Trouble) : Type 0 where
  pub bytes : List ℕ
  pub read : IsRead bytes
  pub refuses : refuses_any sent bytes ≡ true
  pub before_reply : is_reply (heard a bytes) ≡ false
  pub kept_is : KeptAs storage kept (kept_by a.dpid (heard a bytes) bytes) now_kept
  pub calls : Calls Tells a.dpid (heard_said a bytes ++ CannotSay a.dpid ∷ []) old new
  pub parted : t ≡ troubles.Parted

-- one message was got, and what was to be done with it was done
pub record HearsNext {Own : Type 0} (Tells : Type 0) (a : Awaited) (storage : Storage) (sent : List (ℕ × Key)) (old new : Seen Own) (kept now_kept : List (ℕ × List ℕ)) (answer now_answer : Brought) (ended : Bool) : Type 0 where
  pub bytes : List ℕ
  pub read : IsRead bytes
  pub unrefused : key_refused sent bytes ≡ None
  pub ends : ended ≡ is_reply (heard a bytes)
  pub kept_is : KeptAs storage kept (kept_by a.dpid (heard a bytes) bytes) now_kept
  pub answer_is : now_answer ≡ with_heard a.notices (heard a bytes) bytes answer
  pub calls : Calls Tells a.dpid (heard_said a bytes) old new

pub record HearsLast {Own : Type 0} (Tells : Type 0) (a : Awaited) (storage : Storage) (sent : List (ℕ × Key)) (old new : Seen Own) (kept now_kept : List (ℕ × List ℕ)) (buf : List ℕ) (t : Trouble) : Type 0 where
  pub by : Option (List ℕ)
  pub unparted : is_parted t ≡ false
  pub why : IsBreak a sent storage 0 by t buf
  pub calls : Calls Tells a.dpid (last_said a.dpid by t buf) old new
  pub kept_is : now_kept ≡ kept

-- no message was got with which the wait goes on
abbrev pub HearsNoMore : {Own : Type 0} → Type 0 → Awaited → Storage → List (ℕ × Key) → Seen Own → Seen Own → List (ℕ × List ℕ) → List (ℕ × List ℕ) → List ℕ → Trouble → Type 0
HearsNoMore Tells a storage sent old new kept now_kept buf t = HearsLast Tells a storage sent old new kept now_kept buf t ⊎ HearsAndParts Tells a storage sent old new kept now_kept t

-- ---- A wait

-- it has not ended yet, after so many messages
pub record WaitsOn {Own : Type 0} (Tells : Type 0) (a : Awaited) (storage : Storage) (sent : List (ℕ × Key)) (old new : Seen Own) (kept now_kept : List (ℕ × List ℕ)) (answer : Brought) (n : ℕ) : Type 0 where
  pub got : List (List ℕ)
  pub count : length got ≡ n
  pub before : AreHeard a sent got
  pub kept_is : KeptAs storage kept (kept_of a got) now_kept
  pub answer_is : answer ≡ answer_of a got
  pub calls : Calls Tells a.dpid (wait_said a got) old new

-- the switch was parted with, or nothing was done
abbrev pub PartsOrNot : {Own : Type 0} → Type 0 → ℕ → Seen Own → Seen Own → Bool → Type 0
PartsOrNot Tells d old new true = Calls Tells d (CannotSay d ∷ []) old new
PartsOrNot Tells d old new false = new ≡ old

-- The reply did not come, and the switch was parted with, or not.
abbrev pub GivesUp : {Own : Type 0} → Type 0 → ℕ → Seen Own → Seen Own → Trouble → Type 0
GivesUp Tells d old new t = ((t ≡ troubles.Flooded) × (new ≡ old)) ⊎ ((t ≡ troubles.Parted) × Calls Tells d (CannotSay d ∷ []) old new)

-- messages that are sent before a wait
abbrev pub frames_said : ℕ → List (List ℕ) → List Said
frames_said d frames = map (Says d) frames

abbrev pub barrier_of : Awaited → List ℕ
barrier_of a = message_bytes a.barrier BarrierRequest

abbrev pub reply_heard : Awaited → Said
reply_heard a = Hears a.dpid (message_bytes a.barrier BarrierReply)

-- The messages were sent, and then the reply came, at most 65,535 messages before it.
pub record Replied {Own : Type 0} (Tells : Type 0) (a : Awaited) (frames : List (List ℕ)) (storage : Storage) (sent : List (ℕ × Key)) (old new : Seen Own) (kept now_kept : List (ℕ × List ℕ)) (answer : Brought) : Type 0 where
  pub got : List (List ℕ)
  pub few : length got ≤ 65535
  pub before : AreHeard a sent got
  pub kept_is : KeptAs storage kept (kept_of a got) now_kept
  pub answer_is : answer ≡ answer_of a got
  pub calls : Calls Tells a.dpid (frames_said a.dpid frames ++ (wait_said a got ++ reply_heard a ∷ [])) old new

-- The messages were sent, and the wait failed.
pub record Unreplied {Own : Type 0} (Tells : Type 0) (a : Awaited) (frames : List (List ℕ)) (storage : Storage) (sent : List (ℕ × Key)) (old new : Seen Own) (kept now_kept : List (ℕ × List ℕ)) (buf : List ℕ) (t : Trouble) : Type 0 where
  pub is_xid : a.barrier < 2 ^ 32
  pub got : List (List ℕ)
  pub before : AreHeard a (unrefused_by t sent) got
  pub parting : IsParting t sent got
  pub kept_is : KeptAs storage kept (kept_of a got) now_kept
  pub by : Option (List ℕ)
  pub why : IsBreak a sent storage (length got) by t buf
  pub calls : Calls Tells a.dpid (frames_said a.dpid frames ++ (wait_said a got ++ last_said a.dpid by t buf)) old new

-- Only the first of the messages were sent.
pub record Unsent {Own : Type 0} (Tells : Type 0) (d : ℕ) (frames : List (List ℕ)) (old new : Seen Own) (kept now_kept : List (ℕ × List ℕ)) (t : Trouble) : Type 0 where
  pub first : List (List ℕ)
  pub rest : List (List ℕ)
  pub frames_is : frames ≡ first ++ rest
  pub why : IsOfLink t
  pub calls : Calls Tells d (frames_said d first ++ unsaid d t) old new
  pub kept_is : now_kept ≡ kept

abbrev pub Breaks : {Own : Type 0} → Type 0 → Awaited → List (List ℕ) → Storage → List (ℕ × Key) → Seen Own → Seen Own → List (ℕ × List ℕ) → List (ℕ × List ℕ) → List ℕ → Trouble → Type 0
Breaks Tells a frames storage sent old new kept now_kept buf t = Unsent Tells a.dpid frames old new kept now_kept t ⊎ Unreplied Tells a frames storage sent old new kept now_kept buf t

abbrev pub Exchanges : {Own : Type 0} → Type 0 → Awaited → List (List ℕ) → Storage → List (ℕ × Key) → Seen Own → Seen Own → List (ℕ × List ℕ) → List (ℕ × List ℕ) → List ℕ → Result Brought Trouble → Type 0
Exchanges Tells a frames storage sent old new kept now_kept buf result =
    MatchResult result (Replied Tells a frames storage sent old new kept now_kept) (Breaks Tells a frames storage sent old new kept now_kept buf)

-- ---- The same, with a fault that takes memory

-- A link that failed loses the switch, and so does parting with it. Any other trouble is its fault, or want of memory for that.
abbrev pub IsHaltBy : ℕ → Trouble → List ℕ → Halt → Type 0
IsHaltBy d troubles.Link buf halt = halt ≡ Lost
IsHaltBy d troubles.Parted buf halt = halt ≡ Lost
IsHaltBy d trouble buf halt = (halt ≡ halt_by d trouble buf) ⊎ (halt ≡ Fault NoMemory)

-- a fault of the switch, and none of memory
abbrev pub is_of_switch : TxnFault → Bool
is_of_switch NoMemory = false
is_of_switch other = true

-- What came is this fault, or the switch was parted with for it.
abbrev pub PartsOrFails : {Own : Type 0} → Type 0 → ℕ → TxnFault → Seen Own → Seen Own → Halt → Type 0
PartsOrFails Tells d fault old new halt = ((halt ≡ Fault fault) × (new ≡ old)) ⊎ ((is_of_switch fault ≡ true) × (halt ≡ Lost) × Calls Tells d (CannotSay d ∷ []) old new)

-- one message could not be sent
pub record SaysNot {Own : Type 0} (Tells : Type 0) (d : ℕ) (old new : Seen Own) (halt : Halt) : Type 0 where
  pub trouble : Trouble
  pub buf : List ℕ
  pub why : IsOfLink trouble
  pub calls : Calls Tells d (unsaid d trouble) old new
  pub halt_is : IsHaltBy d trouble buf halt

abbrev pub SaysTo : {Own T : Type 0} → Type 0 → ℕ → List ℕ → Seen Own → Seen Own → Result T Halt → Type 0
SaysTo Tells d frame old new result = MatchResult result (λ x. Calls Tells d (Says d frame ∷ []) old new) (SaysNot Tells d old new)

-- so by the trouble
pub record BreaksBy {Own : Type 0} (Tells : Type 0) (a : Awaited) (frames : List (List ℕ)) (old new : Seen Own) (kept now_kept : List (ℕ × List ℕ)) (halt : Halt) : Type 0 where
  pub trouble : Trouble
  pub buf : List ℕ
  pub breaks : Breaks Tells a frames Growing [] old new kept now_kept buf trouble
  pub halt_is : IsHaltBy a.dpid trouble buf halt

-- Messages are sent, then a barrier, and its reply is awaited.
abbrev pub Talks : {Own : Type 0} → Type 0 → Awaited → List (List ℕ) → Seen Own → Seen Own → List (ℕ × List ℕ) → List (ℕ × List ℕ) → Result Brought Halt → Type 0
Talks Tells a first old new kept now_kept result =
    MatchResult result (Replied Tells a (first ++ barrier_of a ∷ []) Growing [] old new kept now_kept) (BreaksBy Tells a (first ++ barrier_of a ∷ []) old new kept now_kept)
