-- The dialogue that a journal has with an application: it is answered message by message, in the order in which it gave them, and a change
-- has reached its switch before its answer is given, or its switch was lost (OpenFlow 1.0.0, 4.2 Message Handling and 5.3.7 Barrier
-- Message). No call for the application is out of place: it is started only where it does not run, and given to, taken from and ended only
-- while it runs. And it is looked at no further than needed: what it gives is taken only where no whole frame stands at the front of what is
-- unread, nor bytes that are refused, and where no end of its bytes was taken since it was started or given another frame than an Answer
-- last. All else is our own.
use Rattle.std.specs.Prelude.{◌≡◌, ◌==◌, ℕ, ◌<◌, Bool, true, false, List, [], ◌∷◌, ◌++◌, filter, filter_map, drop, Option, Some, None, Ok, ◌⊎◌, slice_index, slice_get, if◌then◌else◌}
use Rattle.of_types.specs.declared.errors.OfError.{OfError}
use Rattle.of_types.specs.declared.journal.Act.{Act}
use Rattle.of_types.specs.declared.journal.Act.TheVariants.{Started, Gave, Gone, Took, Ended, Sent, Got, Lost}
use Rattle.of_types.specs.declared.journal.TookWhat.TheVariants.{Bytes}
use Rattle.of_wire.specs.declared.bodies.Stats.{Stats as Query}
use Rattle.of_wire.specs.declared.message.Message.{Message}
use Rattle.of_wire.specs.declared.message.Message.TheVariants.{StatsRequest, BarrierRequest, BarrierReply}
use Rattle.of_wire.specs.Reading.{reading_of}
use Rattle.of_wire.specs.Grammar.{enveloped}
use Rattle.of_wire.specs.Spelling.{message_bytes}
use Rattle.app_frames.specs.declared.frame.AppFrame.{AppFrame}
use Rattle.app_frames.specs.declared.frame.AppFrame.TheVariants as frames
use Rattle.app_frames.specs.declared.frame.Answer.{Answer}
use Rattle.app_frames.specs.declared.frame.Answer.TheVariants.{Unknown}
use Rattle.std.specs.List.{list_any}
use Rattle.app_frames.specs.Frames.{app_reading}
use Rattle.lego_model.specs.declared.wait.Awaited.{Awaited}
use Rattle.lego_model.specs.declared.wait.Notices.TheVariants as notices
use Rattle.lego_model.specs.declared.wait.Heard.{Heard}
use Rattle.lego_model.specs.declared.wait.Heard.TheVariants.{Refused}
use Rattle.lego_model.specs.BarrierWaits.{heard}
use Rattle.lego_model.specs.FlowQueries.{query_bytes, parts_in, refusals_in, IsAnswerTo}
use Rattle.lego_model.specs.Answers.{Rows, as_sent, host_answer, answer_by}
use Rattle.lego_model.specs.Journal.{is_of, is_event, is_change, sends_change, ReachedAtOnce}
use Rattle.lego_model.specs.Controller.{answer_frame}

-- ---- What stands before an application

-- whether it runs, the bytes that it gave in this life and that were neither answered nor passed over, the acts since it was given a frame
-- last, and whether an end of its bytes was taken, closed or silent, since it was started or given another frame than an Answer last
pub record Before : Type 0 where
  pub running : Bool
  pub unread : List ℕ
  pub since : List Act
  pub ended : Bool

-- of an application that runs, and whose bytes have not ended
abbrev pub before : List ℕ → List Act → Before
before unread since = record { running = true; unread = unread; since = since; ended = false }

-- behind an attempt to start it, which stands or does not
abbrev pub attempted : Bool → Before
attempted stands = record { running = stands; unread = []; since = []; ended = false }

-- it was just started, or its checkpoint given
abbrev pub nothing_said : Before
nothing_said = attempted true

abbrev pub at_first : Before
at_first = attempted false

-- an act that moves none of its bytes
abbrev pub besides : Before → Act → Before
besides s act = record s { since = s.since ++ act ∷ [] }

-- an act that takes a piece of its bytes
abbrev pub took_piece : Before → List ℕ → Act → Before
took_piece s bytes act = record s { unread = s.unread ++ bytes; since = s.since ++ act ∷ [] }

-- an act that takes an end of its bytes
abbrev pub took_end : Before → Act → Before
took_end s act = record s { since = s.since ++ act ∷ []; ended = true }

-- More of its bytes is looked for only here: they have not ended, and no whole frame stands at the front, nor bytes that are refused.
pub record LooksFor (s : Before) : Type 0 where
  pub not_ended : s.ended ≡ false
  pub none_whole : app_reading s.unread ≡ Ok None

-- ---- Frames that ask for nothing

-- one by which a start or a turn ends well
abbrev pub ends_well : AppFrame → Bool
ends_well frames.Ready = true
ends_well (frames.Done stop checkpoint) = true
ends_well other = false

-- The frame at the front of the bytes, by which a start or a turn ended well, is passed over, and no other.
pub record Passes (bytes rest : List ℕ) : Type 0 where
  pub frame : AppFrame
  pub ended : ends_well frame ≡ true
  pub size : ℕ
  pub read : app_reading bytes ≡ Ok (Some (frame, size))
  pub rest_is : rest ≡ drop size bytes

-- so it is before an Event; before another frame, which is no Answer either, nothing is
abbrev pub PassesBefore : Bool → List ℕ → List ℕ → Type 0
PassesBefore true bytes rest = Passes bytes rest
PassesBefore false bytes rest = rest ≡ bytes

-- ---- A message and its answer

-- no change was sent
abbrev pub SendsNone : List Act → Type 0
SendsNone acts = filter sends_change acts ≡ []

-- the ERROR that refuses one of the messages before a barrier, where this act got it
abbrev pub error_said : Heard → Option OfError
error_said (Refused refusal) = Some refusal.error
error_said _ = None

abbrev pub error_got : Awaited → Act → Option OfError
error_got a (Got dpid bytes) = if dpid == a.dpid then error_said (heard a bytes) else None
error_got a act = None

-- the first such ERROR for a change, by the transaction ids of the change and of the barrier behind it
unfoldable pub first_error : ℕ → ℕ → ℕ → List Act → Option OfError
first_error dpid xid barrier acts = slice_get (filter_map (error_got (record { dpid = dpid; first = xid; barrier = barrier; notices = notices.Held })) acts) 0

-- It is the host's own answer, and no change was sent.
pub record AnsweredByHost (bytes : List ℕ) (answer : Answer) (since : List Act) : Type 0 where
  pub rows : Option Rows
  pub answer_is : host_answer rows bytes ≡ Some answer
  pub none_sent : SendsNone since

-- The message is a change: it was sent to its switch, and behind it a barrier, the barrier's reply came, and no other change was sent. The
-- answer is the first ERROR for it that was got behind it, or Fine.
pub record AnsweredBySwitch (dpid : ℕ) (bytes : List ℕ) (answer : Answer) (since : List Act) : Type 0 where
  pub xid : ℕ
  pub message : Message
  pub read : reading_of bytes ≡ Ok (enveloped xid message)
  pub change : is_change message ≡ true
  pub reached : ReachedAtOnce dpid (as_sent message) since
  pub error : Option OfError
  pub error_is : error ≡ first_error dpid reached.xid reached.barrier (drop reached.sent since)
  pub answer_is : answer ≡ answer_by error

-- ---- Statistics that are asked for (5.3.5 Read State Messages)

-- the messages that these acts got from the switch
abbrev pub got_from : ℕ → Act → Option (ℕ × List ℕ)
got_from dpid (Got of bytes) = if of == dpid then Some (of, bytes) else None
got_from dpid act = None

unfoldable pub all_got : ℕ → List Act → List (ℕ × List ℕ)
all_got dpid acts = filter_map (got_from dpid) acts

-- The request was sent to the switch, and behind it a barrier; the barrier's reply came, and no change was sent.
pub record AsksAtOnce (dpid : ℕ) (q : Query) (acts : List Act) : Type 0 where
  -- the transaction ids of the request and of the barrier
  pub xid : ℕ
  pub barrier : ℕ
  -- where the three acts stand
  pub sent : ℕ
  pub asked : ℕ
  pub told : ℕ
  pub query_sent : slice_get acts sent ≡ Some (Sent dpid (query_bytes xid q))
  pub barrier_sent : slice_get acts asked ≡ Some (Sent dpid (message_bytes barrier BarrierRequest))
  pub reply_got : slice_get acts told ≡ Some (Got dpid (message_bytes barrier BarrierReply))
  pub in_order : (sent < asked) × (asked < told)
  pub none_sent : SendsNone acts

-- The message is a request of statistics that its switch was asked: the answer is the first ERROR for it that was got behind it, or the whole
-- reply.
pub record AnsweredByStatistics (dpid : ℕ) (bytes : List ℕ) (answer : Answer) (since : List Act) : Type 0 where
  pub number : ℕ
  pub query : Query
  pub read : reading_of bytes ≡ Ok (enveloped number (StatsRequest query))
  pub asks : AsksAtOnce dpid query since
  pub answers : IsAnswerTo query.kind (refusals_in asks.xid (all_got dpid (drop asks.sent since))) (parts_in asks.xid (all_got dpid (drop asks.sent since))) answer

-- ---- A switch that is lost

-- this act is the loss of the switch
abbrev pub is_loss_of : ℕ → Act → Bool
is_loss_of dpid (Lost of) = of == dpid
is_loss_of dpid other = false

-- The switch was lost.
pub record AnsweredForLoss (dpid : ℕ) (answer : Answer) (since : List Act) : Type 0 where
  pub answer_is : answer ≡ Unknown
  pub lost : list_any (is_loss_of dpid) since ≡ true

-- the host answered, or the switch did, a change or a request of statistics, or the switch was lost
abbrev pub AnsweredAtOnce : ℕ → List ℕ → Answer → List Act → Type 0
AnsweredAtOnce dpid bytes answer since =
    AnsweredByHost bytes answer since ⊎ AnsweredBySwitch dpid bytes answer since ⊎ AnsweredForLoss dpid answer since ⊎ AnsweredByStatistics dpid bytes answer since

-- an Answer frame: its kind is 3
abbrev pub is_answer : List ℕ → Bool
is_answer frame = slice_index frame 4 == 3

-- The frame answers the message at the front of what is unread, by what happened since the frame before it.
pub record Answers (frame : List ℕ) (s t : Before) : Type 0 where
  pub dpid : ℕ
  pub bytes : List ℕ
  pub size : ℕ
  pub answer : Answer
  pub read : app_reading s.unread ≡ Ok (Some (frames.Message dpid bytes, size))
  pub frame_is : frame ≡ answer_frame answer
  pub at_once : AnsweredAtOnce dpid bytes answer s.since
  pub then_is : t ≡ before (drop size s.unread) []

-- Any other frame asks for what comes next. An Event comes behind the frame by which the start or the turn before it ended well. Behind the
-- end of its bytes only an Event is given.
pub record AsksNext (frame : List ℕ) (s t : Before) : Type 0 where
  pub not_ended : is_event frame ≡ false → s.ended ≡ false
  pub running_is : t.running ≡ true
  pub passes : PassesBefore (is_event frame) s.unread t.unread
  pub since_is : t.since ≡ []
  pub ended_is : t.ended ≡ false

-- ---- The dialogue

-- a frame that is an Answer, or another one
abbrev pub GivesFrame : Bool → List ℕ → Before → Before → Type 0
GivesFrame true frame s t = Answers frame s t
GivesFrame false frame s t = AsksNext frame s t

-- an act of the application, or another one
abbrev pub Says : Bool → Act → Before → Before → Type 0
Says true (Started app stands) s t = (s.running ≡ false) × (t ≡ attempted stands)
Says true (Took app (Bytes bytes)) s t = (s.running ≡ true) × (LooksFor s × (t ≡ took_piece s bytes (Took app (Bytes bytes))))
Says true (Took app what) s t = (s.running ≡ true) × (LooksFor s × (t ≡ took_end s (Took app what)))
Says true (Gave app frame) s t = (s.running ≡ true) × GivesFrame (is_answer frame) frame s t
Says true (Gone app frame) s t = (s.running ≡ true) × (t ≡ besides s (Gone app frame))
Says true (Ended app) s t = (s.running ≡ true) × (t ≡ record s { running = false; since = s.since ++ Ended app ∷ [] })
Says true act s t = t ≡ besides s act
Says false act s t = t ≡ besides s act

-- The acts go on with the dialogue, from what stood before the application to what stands then.
abbrev pub Dialogue : ℕ → Before → List Act → Before → Type 0
Dialogue app s [] t = t ≡ s
Dialogue app s (act ∷ acts) t = (next : Before) × (Says (is_of app act) act s next × Dialogue app next acts t)

-- The whole journal is a dialogue with the application.
pub record AtOnce (app : ℕ) (journal : List Act) : Type 0 where
  pub last : Before
  pub dialogue : Dialogue app at_first journal last
