-- What a run holds between two of its calls, and the moves by which it goes on: what each makes of the tables of the switches that are joined, of
-- the messages that are kept, and of the events that wait (OpenFlow 1.0.0, 4.2 Message Handling and 5.3.7 Barrier Message). All of this is our own.
use Rattle.std.specs.Prelude.{◌≡◌, ◌==◌, ◌⊎◌, ℕ, Bool, true, false, not, List, [], ◌∷◌, ◌++◌, map, filter, Option, Some, None, Result, Ok, Err, if◌then◌else◌}
use Rattle.std.specs.List.{AllByRecursion, list_any}
use Rattle.std.specs.Option.{option_map}
use Rattle.lego_io.specs.Count.{Rose}
use Rattle.of_types.specs.declared.journal.WorldStim.{WorldStim}
use Rattle.of_types.specs.Layout.{spelled}
use Rattle.of_match.specs.declared.key.Key.{Key}
use Rattle.of_match.specs.Key.{key_number}
use Rattle.of_wire.specs.declared.bodies.FeaturesReply.{FeaturesReply as Features}
use Rattle.of_wire.specs.declared.bodies.FlowMod.{FlowMod as Change}
use Rattle.of_wire.specs.declared.bodies.FlowRemoved.{FlowRemoved as Removed}
use Rattle.of_wire.specs.declared.bodies.PacketOut.{PacketOut as Packet}
use Rattle.of_wire.specs.declared.bodies.Stats.{Stats as Query}
use Rattle.of_wire.specs.declared.message.Message.{Message}
use Rattle.of_wire.specs.declared.message.Message.TheVariants.{FlowMod, FlowRemoved, FeaturesReply, PacketOut, SetConfig, StatsRequest}
use Rattle.of_wire.specs.declared.message.Envelope.{Envelope}
use Rattle.of_wire.specs.declared.fault.WireFault.{WireFault}
use Rattle.of_wire.specs.Grammar.{enveloped}
use Rattle.of_wire.specs.Reading.{reading_of}
use Rattle.of_wire.specs.Spelling.{message_bytes}
use Rattle.of_wire.specs.Stats.{flow_query_fields}
use Rattle.of_stats.specs.declared.flow_row.FlowRow.{FlowRow}
use Rattle.of_stats.specs.Reading.{rows_of}
use Rattle.flow_table.specs.declared.view.ViewRow.{ViewRow}
use Rattle.flow_table.specs.RowKeys.{key_removed}
use Rattle.app_frames.specs.declared.frame.Answer.{Answer}
use Rattle.app_frames.specs.declared.frame.Answer.TheVariants.{Statistics}
use Rattle.app_frames.specs.declared.frame.Event.{Event}
use Rattle.app_frames.specs.declared.frame.EventKind.TheVariants as kinds
use Rattle.outside.specs.declared.step.WorldStep.{WorldStep}
use Rattle.outside.specs.declared.step.WorldStep.TheVariants.{From, Joined, Left, Moment, Idle, End}
use Rattle.outside.specs.Seen.{Seen}
use Rattle.outside.specs.State.{state, is_joined}
use Rattle.outside.specs.Calls.{stim_steps}
use Rattle.lego_model.specs.declared.wait.Notices.TheVariants as notices
use Rattle.lego_model.specs.Answers.{as_sent}
use Rattle.lego_model.specs.BarrierWaits.{next_xid, kept_of}
use Rattle.lego_model.specs.FlowQueries.{query_bytes, asked_from, parts_in, refusals_in, others_in, IsAnswerTo}
use Rattle.lego_model.specs.History.{lost_of}
use Rattle.lego_model.specs.UndoFaults.{WasSent, IsStepOf}
use Rattle.lego_model.specs.Echoes.{IsEchoRead}
use Rattle.lego_model.specs.KeptMessages.{got_in}
use Rattle.lego_model.specs.ViewRows.{rows_without}
use Rattle.run_course.specs.Tables.{Tables, is_in, SameTables, SameBut, with_table, rows_with}
use Rattle.run_course.specs.Messages.{is_refused, sent_steps, Waited, EmptiesTable, replies_read, events_read, tables_read, all_events, tables_behind, but_of, AreStored}
use Rattle.run_course.specs.Asked.{CallsOf}
use Rattle.flow_table.specs.Switch.{first_config}
use Rattle.of_types.specs.Membership.{is_among}

pub record Holding (Own : Type 0) : Type 0 where
  pub seen : Seen Own
  -- the tables of the switches that joined, and have not left since and were not lost
  pub tables : Tables
  -- the messages that were kept, each with its switch, oldest first
  pub kept : List (ℕ × List ℕ)
  -- the events that wait, oldest first
  pub queue : List Event

-- each of these messages is of a switch that is joined
abbrev pub OfJoined : {Own : Type 0} → Holding Own → List (ℕ × List ℕ) → Type 0
OfJoined at messages = AllByRecursion (λ m. is_in m.0 at.tables ≡ true) messages

-- these events wait behind the others
abbrev pub AreQueued : {Own : Type 0} → List Event → Holding Own → Holding Own → Type 0
AreQueued events from to = to.queue ≡ from.queue ++ events

-- the same is held, but for what is seen
pub record HoldsStill {Own : Type 0} (from to : Holding Own) : Type 0 where
  pub tables : SameTables from.tables to.tables
  pub kept : to.kept ≡ from.kept
  pub queue : to.queue ≡ from.queue

-- ---- Calls that are no waits

-- nothing was called
pub record Rests {Own : Type 0} (from to : Holding Own) : Type 0 where
  pub history : to.seen.history ≡ from.seen.history
  pub still : HoldsStill from to

-- calls were made for this application alone
pub record Calls {Own : Type 0} (app : ℕ) (from to : Holding Own) : Type 0 where
  pub own : CallsOf app from.seen.history to.seen.history
  pub still : HoldsStill from to

-- Behind a turn, with no call: the notices that it held become events, and switches that were lost are told.
pub record Notes {Own : Type 0} (from to : Holding Own) : Type 0 where
  pub history : to.seen.history ≡ from.seen.history
  pub tables : SameTables from.tables to.tables
  pub kept : to.kept ≡ from.kept
  pub events : List Event
  pub queued : AreQueued events from to

-- ---- Waits

-- a change that was refused leaves the tables as they are
abbrev pub tables_by : Bool → ℕ → Change → Tables → Tables
tables_by refused d m tables = if refused then tables else with_table d (rows_with m) tables

-- The message that was asked is a change. It was sent to its switch, which is joined, and waited for. What came is kept behind the others, but for
-- what the wait is about: an ERROR that refuses the change, and a notice of an entry that was deleted, which is held for the turn.
pub record Changes {Own : Type 0} (asked : ℕ × List ℕ) (from to : Holding Own) : Type 0 where
  pub xid : ℕ
  pub change : Change
  pub read : reading_of asked.1 ≡ Ok (enveloped xid (FlowMod change))
  pub waited : Waited from.seen.history to.seen.history
  pub of_switch : waited.awaited.dpid ≡ asked.0
  pub barrier : waited.awaited.barrier ≡ next_xid waited.awaited.first
  pub notices : waited.awaited.notices ≡ notices.Held
  pub sent : waited.sent ≡ message_bytes waited.awaited.first (as_sent (FlowMod change)) ∷ []
  pub was_in : is_in asked.0 from.tables ≡ true
  pub tables : SameTables (tables_by (is_refused waited.awaited waited.got) asked.0 change from.tables) to.tables
  pub kept : to.kept ≡ from.kept ++ kept_of waited.awaited waited.got
  pub queue : to.queue ≡ from.queue

-- The message that was asked is a request of statistics. It was sent to its switch, which is joined, and waited for. What came is kept behind the
-- others, but for what answers it: the parts of a reply, and ERRORs, with its transaction id (5.3.5 Read State Messages).
pub record Queries {Own : Type 0} (asked : ℕ × List ℕ) (from to : Holding Own) : Type 0 where
  pub number : ℕ
  pub query : Query
  pub read : reading_of asked.1 ≡ Ok (enveloped number (StatsRequest query))
  pub xid : ℕ
  pub waited : Waited from.seen.history to.seen.history
  pub awaited_is : waited.awaited ≡ asked_from asked.0 xid
  pub sent : waited.sent ≡ query_bytes xid query ∷ []
  pub was_in : is_in asked.0 from.tables ≡ true
  pub tables : SameTables from.tables to.tables
  pub kept : to.kept ≡ from.kept ++ others_in xid (kept_of waited.awaited waited.got)
  pub queue : to.queue ≡ from.queue

-- A packet was released to a switch that is joined: what came becomes events at once, an ERROR or a notice as any other message.
pub record Releases {Own : Type 0} (from to : Holding Own) : Type 0 where
  pub xid : ℕ
  pub packet : Packet
  pub waited : Waited from.seen.history to.seen.history
  pub sent : waited.sent ≡ message_bytes xid (PacketOut packet) ∷ []
  pub no_refusal : waited.awaited.first ≡ waited.awaited.barrier
  pub notices : waited.awaited.notices ≡ notices.Kept
  pub was_in : is_in waited.awaited.dpid from.tables ≡ true
  pub tables : SameTables (tables_behind (kept_of waited.awaited waited.got) from.tables) to.tables
  pub kept : to.kept ≡ from.kept
  pub queued : AreQueued (all_events (kept_of waited.awaited waited.got) from.tables) from to

-- ---- Switches that are lost

-- a Leave event of the switch
abbrev pub IsLeaveOf : ℕ → Event → Type 0
IsLeaveOf d event = (event.kind ≡ kinds.Leave) × (event.dpid ≡ d)

-- A call of the link of this switch failed, and all calls were of it. So nothing came but of this switch. What was kept of it goes, and all else
-- that was kept stays.
pub record Loses {Own : Type 0} (from to : Holding Own) : Type 0 where
  pub dpid : ℕ
  pub rose : Rose (from.seen.counts.link_faults dpid) (to.seen.counts.link_faults dpid)
  pub steps : List WorldStep
  pub history : to.seen.history ≡ from.seen.history ++ steps
  pub each : AllByRecursion (IsStepOf dpid) steps
  pub out : to.tables dpid ≡ None
  pub others : SameBut dpid from.tables to.tables
  pub kept : to.kept ≡ filter (λ m. not (m.0 == dpid)) from.kept
  pub events : List Event
  pub leave : AllByRecursion (IsLeaveOf dpid) events
  pub queued : AreQueued events from to

-- each switch that is joined is joined by what the history tells
abbrev pub AreJoined : {Own : Type 0} → Holding Own → Type 0
AreJoined from = (d : ℕ) → is_in d from.tables ≡ true → is_joined d (state from.seen) ≡ true

-- the keys of one switch
abbrev pub keys_at : ℕ → List (ℕ × Key) → List Key
keys_at d added = map (λ a. a.1) (filter (λ a. a.0 == d) added)

-- the inverse for the key was sent to the switch by these steps
abbrev pub HasInverse : ℕ → List WorldStep → Key → Type 0
HasInverse d steps key = (xid : ℕ) × WasSent d xid key steps

-- The changes of a turn were undone, which had added entries with these keys, each with its switch: of each switch that stays the keys are gone, for
-- each of which the inverse was sent. Switches may be lost in it, which the history tells, where it tells of each joined switch that it joined. What
-- came is of switches that were joined, and is kept where there is room; then those of the switches that are lost go.
pub record TakesBack {Own : Type 0} (added : List (ℕ × Key)) (from to : Holding Own) : Type 0 where
  pub lost : List ℕ
  pub told : AreJoined from → lost_of to.seen ≡ lost_of from.seen ++ lost
  pub steps : List WorldStep
  pub history : to.seen.history ≡ from.seen.history ++ steps
  pub inverses : (d : ℕ) → is_among d lost ≡ false → is_in d from.tables ≡ true → AllByRecursion (HasInverse d steps) (keys_at d added)
  pub out : (d : ℕ) → is_among d lost ≡ true → to.tables d ≡ None
  pub tables : (d : ℕ) → is_among d lost ≡ false → to.tables d ≡ option_map (rows_without (keys_at d added)) (from.tables d)
  pub were_in : OfJoined from (got_in steps)
  pub stored : List (ℕ × List ℕ)
  pub came : AreStored (got_in steps) from.kept stored
  pub kept : to.kept ≡ but_of lost stored
  pub queue : to.queue ≡ from.queue

-- ---- What is told next

-- a stimulus may be begun, and then this is told
pub record IsTold (item : WorldStep) (before after : List WorldStep) : Type 0 where
  pub begun : Option WorldStim
  pub history : after ≡ before ++ (stim_steps begun ++ item ∷ [])

-- by another message no switch joins
abbrev pub is_features : Message → Bool
is_features (FeaturesReply features) = true
is_features other = false

abbrev pub IsNoJoin : Result Envelope WireFault → Type 0
IsNoJoin (Ok e) = is_features e.message ≡ false
IsNoJoin (Err fault) = Unit {0}

-- A message, or the leave, of a switch that is not joined; the join of one that is, or by another message; a moment; or that nothing comes.
abbrev pub IsIgnored : Tables → WorldStep → Type 0
IsIgnored tables (From d bytes) = is_in d tables ≡ false
IsIgnored tables (Joined d bytes) = (is_in d tables ≡ true) ⊎ IsNoJoin (reading_of bytes)
IsIgnored tables (Left d) = is_in d tables ≡ false
IsIgnored tables (Moment t) = Unit {0}
IsIgnored tables Idle = Unit {0}
IsIgnored tables End = Unit {0}
IsIgnored tables other = ⊥

pub record Ignores {Own : Type 0} (from to : Holding Own) : Type 0 where
  pub item : WorldStep
  pub told : IsTold item from.seen.history to.seen.history
  pub ignored : IsIgnored from.tables item
  pub still : HoldsStill from to

-- ---- A notice in doubt: it tells that an entry was deleted, and comes maybe long behind that (5.4.2 Flow Removed Message). It names the entry by its key
-- alone, so that it may be of one that stood there before.

-- a row has the key
abbrev pub HasRow : Key → Option (List ViewRow) → Type 0
HasRow k None = ⊥
HasRow k (Some rows) = list_any (λ r. key_number r.key == key_number k) rows ≡ true

-- the reason is DELETE (2), and a row has the key
pub record IsDoubted (key : Key) (rows : Option (List ViewRow)) (read : Result Envelope WireFault) : Type 0 where
  pub xid : ℕ
  pub flow : Removed
  pub read_is : read ≡ Ok (enveloped xid (FlowRemoved flow))
  pub reason : (flow.reason == 2) ≡ true
  pub key_is : key ≡ key_removed flow
  pub has_row : HasRow key rows

-- ---- What is made of it

-- A message of a switch that is joined is taken, unless it is a notice in doubt; an ECHO_REQUEST is answered, and nothing else. What it makes waits behind the others.
pub record Takes {Own : Type 0} (from to : Holding Own) : Type 0 where
  pub dpid : ℕ
  pub bytes : List ℕ
  pub mid : List WorldStep
  pub told : IsTold (From dpid bytes) from.seen.history mid
  pub answered : to.seen.history ≡ mid ++ sent_steps dpid (replies_read (reading_of bytes))
  pub was_in : is_in dpid from.tables ≡ true
  pub undoubted : (key : Key) → IsDoubted key (from.tables dpid) (reading_of bytes) → ⊥
  pub tables : SameTables (tables_read dpid (reading_of bytes) from.tables) to.tables
  pub kept : to.kept ≡ from.kept
  pub queued : AreQueued (events_read dpid (from.tables dpid) (reading_of bytes)) from to

-- A switch joins, by its FEATURES_REPLY. Its table is emptied and its configuration is set, behind a barrier, and its event waits behind the others.
pub record Joins {Own : Type 0} (from to : Holding Own) : Type 0 where
  pub dpid : ℕ
  pub bytes : List ℕ
  pub mid : List WorldStep
  pub told : IsTold (Joined dpid bytes) from.seen.history mid
  pub xid : ℕ
  pub features : Features
  pub read : reading_of bytes ≡ Ok (enveloped xid (FeaturesReply features))
  pub waited : Waited mid to.seen.history
  pub of_switch : waited.awaited.dpid ≡ dpid
  pub first : ℕ
  pub emptying : Change
  pub empties : EmptiesTable emptying
  pub sent : waited.sent ≡ message_bytes first (FlowMod emptying) ∷ message_bytes (next_xid first) (SetConfig first_config) ∷ []
  pub barrier : waited.awaited.barrier ≡ next_xid (next_xid first)
  pub no_refusal : waited.awaited.first ≡ waited.awaited.barrier
  pub notices : waited.awaited.notices ≡ notices.Dropped
  pub was_out : is_in dpid from.tables ≡ false
  pub empty : to.tables dpid ≡ Some []
  pub others : SameBut dpid from.tables to.tables
  pub kept : to.kept ≡ from.kept ++ kept_of waited.awaited waited.got
  pub queued : AreQueued (record { kind = kinds.Join; dpid = dpid; body = message_bytes 0 (FeaturesReply features) } ∷ []) from to

-- A switch leaves, with what was kept of it, and its event waits behind the others.
pub record Leaves {Own : Type 0} (from to : Holding Own) : Type 0 where
  pub dpid : ℕ
  pub told : IsTold (Left dpid) from.seen.history to.seen.history
  pub was_in : is_in dpid from.tables ≡ true
  pub out : to.tables dpid ≡ None
  pub others : SameBut dpid from.tables to.tables
  pub kept : to.kept ≡ filter (λ m. not (m.0 == dpid)) from.kept
  pub body : List ℕ
  pub queued : AreQueued (record { kind = kinds.Leave; dpid = dpid; body = body } ∷ []) from to

-- ---- A notice in doubt is settled by what its switch answers.

-- It asks for the flows (1) that the match of the key subsumes, in all tables (0xff), wherever they send packets: OFPP_NONE is 0xffff (5.3.5 Read State
-- Messages: Individual Flow Statistics).
pub record AsksForKey (key : Key) (query : Query) : Type 0 where
  pub kind : query.kind ≡ 1
  pub flags : query.flags ≡ 0
  pub body : query.body ≡ spelled (flow_query_fields (record { matching = key.matching; table_id = 0xff; out_port = 0xffff }))

-- the answer is rows of flows, none of which has the key
pub record LacksKey (key : Key) (answer : Answer) : Type 0 where
  pub kind : ℕ
  pub body : List ℕ
  pub answer_is : answer ≡ Statistics kind body
  pub rows : List FlowRow
  pub read : rows_of body ≡ Ok rows
  pub none : AllByRecursion (λ r. (key_number r.key == key_number key) ≡ false) rows

-- the notice is taken: its row goes, and its event waits behind the others, where its owner asked for one
pub record TakesNotice {Own : Type 0} (d : ℕ) (bytes : List ℕ) (from to : Holding Own) : Type 0 where
  pub tables : SameTables (tables_read d (reading_of bytes) from.tables) to.tables
  pub queued : AreQueued (events_read d (from.tables d) (reading_of bytes)) from to

-- it is dropped
pub record DropsNotice {Own : Type 0} (from to : Holding Own) : Type 0 where
  pub tables : SameTables from.tables to.tables
  pub queue : to.queue ≡ from.queue

-- The switch, which is joined, was asked for the rows of the key, behind a barrier, and nothing else was said. The notice is taken only where it answered that
-- no entry has the key. What came is kept behind the others, but for what answers.
pub record Settles {Own : Type 0} (from to : Holding Own) : Type 0 where
  pub dpid : ℕ
  pub bytes : List ℕ
  pub mid : List WorldStep
  pub told : IsTold (From dpid bytes) from.seen.history mid
  pub was_in : is_in dpid from.tables ≡ true
  pub key : Key
  pub doubt : IsDoubted key (from.tables dpid) (reading_of bytes)
  pub xid : ℕ
  pub query : Query
  pub asks : AsksForKey key query
  pub waited : Waited mid to.seen.history
  pub awaited_is : waited.awaited ≡ asked_from dpid xid
  pub sent : waited.sent ≡ query_bytes xid query ∷ []
  pub answer : Answer
  pub answers : IsAnswerTo 1 (refusals_in xid (kept_of waited.awaited waited.got)) (parts_in xid (kept_of waited.awaited waited.got)) answer
  pub made : (LacksKey key answer × TakesNotice dpid bytes from to) ⊎ ((LacksKey key answer → ⊥) × DropsNotice from to)
  pub kept : to.kept ≡ from.kept ++ others_in xid (kept_of waited.awaited waited.got)

-- an ECHO_REQUEST of this switch, which is joined, or a notice of it in doubt, or its join
abbrev pub MayLose : ℕ → Tables → WorldStep → Type 0
MayLose d tables (From e bytes) = (e ≡ d) × (is_in d tables ≡ true) × (IsEchoRead (reading_of bytes) ⊎ ((key : Key) × IsDoubted key (tables d) (reading_of bytes)))
MayLose d tables (Joined e bytes) = (e ≡ d) × (is_in d tables ≡ false)
MayLose d tables other = ⊥

-- A switch is lost as this is told: it could not be greeted, its ECHO_REQUEST not be answered, or it gave no answer on a notice in doubt.
pub record LosesTold {Own : Type 0} (from to : Holding Own) : Type 0 where
  pub item : WorldStep
  pub mid : Holding Own
  pub told : IsTold item from.seen.history mid.seen.history
  pub still : HoldsStill from mid
  pub loses : Loses mid to
  pub of_switch : MayLose loses.dpid from.tables item

-- ---- One move after the other

abbrev pub Go : {Own : Type 0} → (Holding Own → Holding Own → Type 0) → List (Holding Own) → Holding Own → Holding Own → Type 0
Go Move [] from to = to ≡ from
Go Move (mid ∷ more) from to = Move from mid × Go Move more mid to

pub record OneByOne {Own : Type 0} (Move : Holding Own → Holding Own → Type 0) (from to : Holding Own) : Type 0 where
  pub stops : List (Holding Own)
  pub moves : Go Move stops from to

-- what an item that is told makes
abbrev pub ItemMove : {Own : Type 0} → Holding Own → Holding Own → Type 0
ItemMove from to = Ignores from to ⊎ Takes from to ⊎ Joins from to ⊎ Leaves from to ⊎ LosesTold from to ⊎ Settles from to

-- what the end of a turn makes that was completed
abbrev pub EndMove : {Own : Type 0} → Holding Own → Holding Own → Type 0
EndMove from to = Rests from to ⊎ Notes from to ⊎ Releases from to ⊎ Loses from to
