-- What is told next, item by item, as the course of a run says it.
use Rattle.std.specs.Prelude.{take, map, is_some, if◌then◌else◌}
use Rattle.std.proofs.Common.{◌≡◌, ℕ, Bool, true, false, List, [], ◌∷◌, ◌++◌, Option, Some, None, Result, Ok, Err, refl, sym, ap, ◌∙◌, subst, inl, inr}
use Rattle.std.proofs.lemmas.List.{append-nil}
use Rattle.of_match.specs.declared.key.Key.{Key}
use Rattle.of_wire.specs.declared.bodies.FeaturesReply.{FeaturesReply as Features}
use Rattle.of_wire.specs.declared.message.Message.{Message}
use Rattle.of_wire.specs.declared.message.Message.TheVariants as messages
use Rattle.of_wire.specs.declared.message.Envelope.{Envelope}
use Rattle.of_wire.specs.declared.fault.WireFault.{WireFault}
use Rattle.of_wire.specs.Grammar.{enveloped}
use Rattle.of_wire.specs.Reading.{reading_of}
use Rattle.of_wire.specs.Spelling.{message_bytes}
use Rattle.flow_table.specs.Switch.{first_config}
use Rattle.app_frames.specs.declared.frame.Event.{Event}
use Rattle.outside.specs.declared.item.Item.{Item}
use Rattle.outside.specs.declared.item.Item.TheVariants as items
use Rattle.outside.specs.declared.step.WorldStep.{WorldStep}
use Rattle.outside.specs.declared.step.WorldStep.TheVariants.{From, Joined, Left, Moment, Idle, End}
use Rattle.outside.specs.Seen.{Seen}
use Rattle.outside.specs.Calls.{Nexts, item_step, next_steps}
use Rattle.lego_model.specs.BarrierWaits.{next_xid}
use Rattle.batch_laws.specs.laws.LossLaws.{unknown-rows}
use Rattle.net_txn.specs.Net.{NetState}
use Rattle.net_txn.specs.Views.{rows_at}
use Rattle.net_txn.specs.Settling.{doubted}
use Rattle.net_txn.specs.Joining.{delete_all}
use Rattle.net_txn.specs.Leaving.{ports_at, ports_text}
use Rattle.net_txn.specs.Arriving.{arrival_steps}
use Rattle.net_txn.specs.laws.JoiningLaws.{rows_at-with_view, rows_at-with_view-other}
use Rattle.switch_laws.specs.laws.LossLaws.{rows-gone, rows-stay}
use Rattle.batch_laws.specs.Knowledge.{Knowledge, knowledge_of, is_known, left_by, joined_by, joined_read, handled}
use Rattle.batch_laws.specs.Items.{Untouched, TakesMessage, TakesIn, TakesInBy, TakesInAs, DoesFrom, DoesJoined, DoesLeft, answers, HandlesStill, HandlesLost, WentBy, TakesNext}
use Rattle.run_course.specs.Messages.{sent_steps, replies_to, replies_read}
use Rattle.run_course.specs.Moves.{IsTold, is_features, IsNoJoin, IsIgnored, Takes, Joins, LosesTold, OneByOne, ItemMove}
use Rattle.run_laws.specs.Facts.{Between}
use Rattle.run_laws.specs.Course.{TakesItems}
use Rattle.run_laws.specs.laws.TableHoldingLaws.{tables_of}
use Rattle.run_laws.specs.laws.MadeEventLaws.{from_makes}
use Rattle.run_laws.specs.laws.SettleHoldingLaws.{undoubted_so, doubt_moves}
use Rattle.run_laws.specs.laws.HoldingLaws.{holding_of, no_move, one_move, moves_then, waited_by, loses_told, holds_still}

-- ---- What is told next

next_told : {Own Tells : Type 0} (item : Item) (buf : List ℕ) (old mid : Seen Own) → Tells → Nexts Tells old mid (Ok item) buf → IsTold (item_step item buf) old.history mid.history
unfolding next_steps
next_told item buf old mid told nexts = let next = nexts.told told in record { begun = next.begun; history = next.history }

-- what was told is none of the run's
ignores : {Own : Type 0} (step : WorldStep) (old mid new : Seen Own) (net now_net : NetState) (queue now_queue : List Event) → IsTold step old.history mid.history → new ≡ mid → now_net.views ≡ net.views → now_net.kept ≡ net.kept → now_queue ≡ queue → IsIgnored (tables_of net.views) step
    → OneByOne ItemMove (holding_of old net queue) (holding_of new now_net now_queue)
ignores step old mid new net now_net queue now_queue told seen views kept same ignored =
    one_move ItemMove (holding_of old net queue) (holding_of new now_net now_queue)
    (inl (record { item = step; told = subst (λ (s : Seen _). IsTold step old.history s.history) (sym seen) told; ignored = ignored; still = holds_still old new net now_net queue now_queue views kept same }))

-- ---- A message of a switch

answer_is : (d xid : ℕ) (m : Message) → arrival_steps d xid m ≡ sent_steps d (map (message_bytes xid) (replies_to m))
answer_is d xid (messages.EchoRequest payload) = refl
answer_is d xid (messages.Hello payload) = refl
answer_is d xid (messages.Error kind code payload) = refl
answer_is d xid (messages.EchoReply payload) = refl
answer_is d xid (messages.Vendor payload) = refl
answer_is d xid messages.FeaturesRequest = refl
answer_is d xid (messages.FeaturesReply features) = refl
answer_is d xid messages.GetConfigRequest = refl
answer_is d xid (messages.GetConfigReply config) = refl
answer_is d xid (messages.SetConfig config) = refl
answer_is d xid (messages.PacketIn packet) = refl
answer_is d xid (messages.FlowRemoved flow) = refl
answer_is d xid (messages.PortStatus status) = refl
answer_is d xid (messages.PacketOut packet) = refl
answer_is d xid (messages.FlowMod m) = refl
answer_is d xid (messages.PortMod port) = refl
answer_is d xid (messages.StatsRequest m) = refl
answer_is d xid (messages.StatsReply m) = refl
answer_is d xid messages.BarrierRequest = refl
answer_is d xid messages.BarrierReply = refl
answer_is d xid (messages.QueueGetConfigRequest payload) = refl
answer_is d xid (messages.QueueGetConfigReply payload) = refl

answers_are : (d : ℕ) (r : Result Envelope WireFault) → answers d r ≡ sent_steps d (replies_read r)
answers_are d (Ok e) = answer_is d e.xid e.message
answers_are d (Err fault) = refl

takes_so : {Own Tells : Type 0} (d : ℕ) (bytes : List ℕ) (old mid new : Seen Own) (net now_net : NetState) (queue now_queue : List Event) → Tells → IsTold (From d bytes) old.history mid.history → is_known d (knowledge_of net queue) ≡ true → doubted d net.views (reading_of bytes) ≡ None
    → knowledge_of now_net now_queue ≡ handled (From d bytes) (knowledge_of net queue) → TakesMessage Tells d bytes mid new net now_net → Takes (holding_of old net queue) (holding_of new now_net now_queue)
takes_so d bytes old mid new net now_net queue now_queue told item known none knowledge does =
    let makes = from_makes (d, bytes) (knowledge_of net queue) known in
    record {
      dpid = d;
      bytes = bytes;
      mid = mid.history;
      told = item;
      answered = does.told told ∙ ap (λ (steps : List WorldStep). mid.history ++ steps) (answers_are d (reading_of bytes));
      was_in = known;
      undoubted = undoubted_so d net.views (reading_of bytes) none;
      tables = λ e. ap (λ (x : Knowledge). rows_at e x.views) knowledge ∙ makes.tables e;
      kept = does.kept;
      queued = ap (λ (x : Knowledge). x.queue) knowledge ∙ makes.queue_is;
    }

-- of a switch that is not joined nothing is known behind it that was not before
out_handled : (d : ℕ) (bytes : List ℕ) (k : Knowledge) → is_known d k ≡ false → handled (From d bytes) k ≡ k
unfolding handled
out_handled d bytes k out = rw out refl

from_by : {Own Tells : Type 0} (d : ℕ) (bytes : List ℕ) (known : Bool) (old mid new : Seen Own) (net now_net : NetState) (queue now_queue : List Event) → Tells → IsTold (From d bytes) old.history mid.history → is_known d (knowledge_of net queue) ≡ known → doubted d net.views (reading_of bytes) ≡ None
    → knowledge_of now_net now_queue ≡ handled (From d bytes) (knowledge_of net queue) → DoesFrom Tells d bytes known mid new net now_net → OneByOne ItemMove (holding_of old net queue) (holding_of new now_net now_queue)
from_by d bytes true old mid new net now_net queue now_queue told item is none knowledge does =
    one_move ItemMove (holding_of old net queue) (holding_of new now_net now_queue) (inr (inl (takes_so d bytes old mid new net now_net queue now_queue told item is none knowledge does)))
from_by d bytes false old mid new net now_net queue now_queue told item is none knowledge does =
    let same = knowledge ∙ out_handled d bytes (knowledge_of net queue) is in
    ignores (From d bytes) old mid new net now_net queue now_queue item does.seen (ap (λ (x : Knowledge). x.views) same) does.kept (ap (λ (x : Knowledge). x.queue) same) is

-- a switch whose ECHO_REQUEST could not be answered is lost
from_lost : {Own Tells : Type 0} {text : List ℕ} (d : ℕ) (bytes : List ℕ) (old mid new : Seen Own) (net now_net : NetState) (queue now_queue : List Event) → Tells → IsTold (From d bytes) old.history mid.history → HandlesLost Tells (From d bytes) text mid new net now_net queue now_queue → LosesTold (holding_of old net queue) (holding_of new now_net now_queue)
from_lost d bytes old mid new net now_net queue now_queue told item lost =
    subst (λ (q : List Event). LosesTold (holding_of old net queue) (holding_of new now_net q)) (sym (ap (λ (x : Knowledge). x.queue) lost.knowledge)) (record {
      item = From d bytes;
      mid = holding_of mid net queue;
      told = item;
      still = holds_still old mid net net queue queue refl refl refl;
      loses = loses_told lost.dpid mid new net now_net queue told lost.is_lost (ap (λ (x : Knowledge). x.views) lost.knowledge) lost.kept;
      of_switch = (lost.at.0, lost.at.1, inl lost.at.2);
    })

-- ---- A switch joins

joins_so : {Own Tells : Type 0} (d xid : ℕ) (bytes : List ℕ) (features : Features) (old mid new : Seen Own) (net now_net : NetState) (queue now_queue : List Event) → Tells → IsTold (Joined d bytes) old.history mid.history → reading_of bytes ≡ Ok (enveloped xid (messages.FeaturesReply features)) → is_known d (knowledge_of net queue) ≡ false
    → TakesIn Tells d features.ports mid new net now_net → knowledge_of now_net now_queue ≡ joined_by d (messages.FeaturesReply features) (knowledge_of net queue) → Joins (holding_of old net queue) (holding_of new now_net now_queue)
joins_so d xid bytes features old mid new net now_net queue now_queue told item read out takes knowledge =
    let joins = takes.joins in
    record {
      dpid = d;
      bytes = bytes;
      mid = mid.history;
      told = item;
      xid = xid;
      features = features;
      read = read;
      waited = waited_by (message_bytes net.xid (messages.FlowMod delete_all) ∷ message_bytes (next_xid net.xid) (messages.SetConfig first_config) ∷ []) told joins.waits;
      of_switch = refl;
      first = net.xid;
      emptying = delete_all;
      empties = record { deletes = refl; any_match = refl; any_output = refl };
      sent = refl;
      barrier = refl;
      no_refusal = refl;
      notices = refl;
      was_out = out;
      empty = ap (rows_at d) joins.views ∙ rows_at-with_view d net.views;
      others = λ e other. ap (rows_at e) joins.views ∙ rows_at-with_view-other d e net.views other;
      kept = joins.waits.hears.kept_is;
      queued = ap (λ (x : Knowledge). x.queue) knowledge;
    }

module _ {Own Tells : Type 0} (d : ℕ) (bytes : List ℕ) (old mid new : Seen Own) (net now_net : NetState) (queue now_queue : List Event) (told : Tells) (item : IsTold (Joined d bytes) old.history mid.history) where
  abbrev Moved : Type 0
  Moved = OneByOne ItemMove (holding_of old net queue) (holding_of new now_net now_queue)

  -- it does not join
  none_joined : IsIgnored (tables_of net.views) (Joined d bytes) → Untouched mid new net now_net → knowledge_of now_net now_queue ≡ knowledge_of net queue → Moved
  none_joined ignored is knowledge = ignores (Joined d bytes) old mid new net now_net queue now_queue item is.seen (ap (λ (x : Knowledge). x.views) knowledge) is.kept (ap (λ (x : Knowledge). x.queue) knowledge) ignored

  read_else : (xid : ℕ) (m : Message) → reading_of bytes ≡ Ok (enveloped xid m) → is_features m ≡ false → IsNoJoin (reading_of bytes)
  read_else xid m read other = subst IsNoJoin (sym read) other

  joined_message : (xid : ℕ) (m : Message) → reading_of bytes ≡ Ok (enveloped xid m) → is_known d (knowledge_of net queue) ≡ false → TakesInBy Tells d m mid new net now_net → knowledge_of now_net now_queue ≡ joined_by d m (knowledge_of net queue) → Moved
  joined_message xid (messages.FeaturesReply features) read out does knowledge = one_move ItemMove (holding_of old net queue) (holding_of new now_net now_queue) (inr (inr (inl (joins_so d xid bytes features old mid new net now_net queue now_queue told item read out does knowledge))))
  joined_message xid (messages.Hello payload) read out does knowledge = none_joined (inr (read_else xid (messages.Hello payload) read refl)) does knowledge
  joined_message xid (messages.Error kind code payload) read out does knowledge = none_joined (inr (read_else xid (messages.Error kind code payload) read refl)) does knowledge
  joined_message xid (messages.EchoRequest payload) read out does knowledge = none_joined (inr (read_else xid (messages.EchoRequest payload) read refl)) does knowledge
  joined_message xid (messages.EchoReply payload) read out does knowledge = none_joined (inr (read_else xid (messages.EchoReply payload) read refl)) does knowledge
  joined_message xid (messages.Vendor payload) read out does knowledge = none_joined (inr (read_else xid (messages.Vendor payload) read refl)) does knowledge
  joined_message xid messages.FeaturesRequest read out does knowledge = none_joined (inr (read_else xid messages.FeaturesRequest read refl)) does knowledge
  joined_message xid messages.GetConfigRequest read out does knowledge = none_joined (inr (read_else xid messages.GetConfigRequest read refl)) does knowledge
  joined_message xid (messages.GetConfigReply config) read out does knowledge = none_joined (inr (read_else xid (messages.GetConfigReply config) read refl)) does knowledge
  joined_message xid (messages.SetConfig config) read out does knowledge = none_joined (inr (read_else xid (messages.SetConfig config) read refl)) does knowledge
  joined_message xid (messages.PacketIn packet) read out does knowledge = none_joined (inr (read_else xid (messages.PacketIn packet) read refl)) does knowledge
  joined_message xid (messages.FlowRemoved flow) read out does knowledge = none_joined (inr (read_else xid (messages.FlowRemoved flow) read refl)) does knowledge
  joined_message xid (messages.PortStatus status) read out does knowledge = none_joined (inr (read_else xid (messages.PortStatus status) read refl)) does knowledge
  joined_message xid (messages.PacketOut packet) read out does knowledge = none_joined (inr (read_else xid (messages.PacketOut packet) read refl)) does knowledge
  joined_message xid (messages.FlowMod m) read out does knowledge = none_joined (inr (read_else xid (messages.FlowMod m) read refl)) does knowledge
  joined_message xid (messages.PortMod port) read out does knowledge = none_joined (inr (read_else xid (messages.PortMod port) read refl)) does knowledge
  joined_message xid (messages.StatsRequest m) read out does knowledge = none_joined (inr (read_else xid (messages.StatsRequest m) read refl)) does knowledge
  joined_message xid (messages.StatsReply m) read out does knowledge = none_joined (inr (read_else xid (messages.StatsReply m) read refl)) does knowledge
  joined_message xid messages.BarrierRequest read out does knowledge = none_joined (inr (read_else xid messages.BarrierRequest read refl)) does knowledge
  joined_message xid messages.BarrierReply read out does knowledge = none_joined (inr (read_else xid messages.BarrierReply read refl)) does knowledge
  joined_message xid (messages.QueueGetConfigRequest payload) read out does knowledge = none_joined (inr (read_else xid (messages.QueueGetConfigRequest payload) read refl)) does knowledge
  joined_message xid (messages.QueueGetConfigReply payload) read out does knowledge = none_joined (inr (read_else xid (messages.QueueGetConfigReply payload) read refl)) does knowledge

  joined_as : (r : Result Envelope WireFault) → reading_of bytes ≡ r → is_known d (knowledge_of net queue) ≡ false → TakesInAs Tells d r mid new net now_net → knowledge_of now_net now_queue ≡ joined_read d r (knowledge_of net queue) → Moved
  joined_as (Ok e) read out does knowledge = joined_message e.xid e.message read out does knowledge
  joined_as (Err fault) read out does knowledge = none_joined (inr (subst IsNoJoin (sym read) tt)) does knowledge

  joined_by_view : (known : Bool) → is_known d (knowledge_of net queue) ≡ known → DoesJoined Tells d bytes known mid new net now_net
      → knowledge_of now_net now_queue ≡ (if known then knowledge_of net queue else joined_read d (reading_of bytes) (knowledge_of net queue)) → Moved
  joined_by_view true is does knowledge = none_joined (inl is) does knowledge
  joined_by_view false is does knowledge = joined_as (reading_of bytes) refl is does knowledge

  joined_still : {text : List ℕ} → HandlesStill Tells (Joined d bytes) text mid new net now_net queue now_queue → Moved
  unfolding handled
  joined_still still = joined_by_view (is_some (rows_at d net.views)) refl still.does still.knowledge

  -- it is lost as it joins
  joined_lost : {text : List ℕ} → HandlesLost Tells (Joined d bytes) text mid new net now_net queue now_queue → Moved
  joined_lost lost =
      let calls = lost.is_lost.only told in
      let views = ap (λ (x : Knowledge). x.views) lost.knowledge in
      one_move ItemMove (holding_of old net queue) (holding_of new now_net now_queue) (inr (inr (inr (inr (inl (record {
        item = Joined d bytes;
        mid = holding_of mid net queue;
        told = item;
        still = holds_still old mid net net queue queue refl refl refl;
        loses = record {
          dpid = lost.dpid;
          rose = lost.is_lost.rose;
          steps = calls.steps;
          history = calls.history;
          each = calls.each;
          out = ap (rows_at lost.dpid) views ∙ unknown-rows (rows_at lost.dpid net.views) lost.at.1;
          others = λ e other. ap (rows_at e) views;
          kept = lost.kept;
          events = [];
          leave = tt;
          queued = ap (λ (x : Knowledge). x.queue) lost.knowledge ∙ sym (append-nil queue);
        };
        of_switch = (lost.at.0, lost.at.1);
      }))))))

-- ---- A switch leaves

leaves_by : {Own : Type 0} (d : ℕ) (old mid new : Seen Own) (net now_net : NetState) (queue now_queue : List Event) → IsTold (Left d) old.history mid.history → (known : Bool) → is_known d (knowledge_of net queue) ≡ known → DoesLeft d known mid new net now_net
    → knowledge_of now_net now_queue ≡ (if known then left_by d (knowledge_of net queue) else knowledge_of net queue) → OneByOne ItemMove (holding_of old net queue) (holding_of new now_net now_queue)
leaves_by d old mid new net now_net queue now_queue item true is does knowledge =
    let views = ap (λ (x : Knowledge). x.views) knowledge in
    one_move ItemMove (holding_of old net queue) (holding_of new now_net now_queue) (inr (inr (inr (inl (record {
      dpid = d;
      told = subst (λ (s : Seen _). IsTold (Left d) old.history s.history) (sym does.seen) item;
      was_in = is;
      out = ap (rows_at d) views ∙ rows-gone d net.views;
      others = λ e other. ap (rows_at e) views ∙ rows-stay d e other net.views;
      kept = does.kept;
      body = ports_text (ports_at d net.ports);
      queued = ap (λ (x : Knowledge). x.queue) knowledge;
    })))))
leaves_by d old mid new net now_net queue now_queue item false is does knowledge =
    ignores (Left d) old mid new net now_net queue now_queue item does.seen (ap (λ (x : Knowledge). x.views) knowledge) does.kept (ap (λ (x : Knowledge). x.queue) knowledge) is

-- ---- An item

left_still : {Own Tells : Type 0} {text : List ℕ} (d : ℕ) (old mid new : Seen Own) (net now_net : NetState) (queue now_queue : List Event) → IsTold (Left d) old.history mid.history → HandlesStill Tells (Left d) text mid new net now_net queue now_queue → OneByOne ItemMove (holding_of old net queue) (holding_of new now_net now_queue)
unfolding handled
left_still d old mid new net now_net queue now_queue item still = leaves_by d old mid new net now_net queue now_queue item (is_some (rows_at d net.views)) refl still.does still.knowledge

moment_still : {Own Tells : Type 0} {text : List ℕ} (t : ℕ) (old mid new : Seen Own) (net now_net : NetState) (queue now_queue : List Event) → IsTold (Moment t) old.history mid.history → HandlesStill Tells (Moment t) text mid new net now_net queue now_queue → OneByOne ItemMove (holding_of old net queue) (holding_of new now_net now_queue)
unfolding handled
moment_still t old mid new net now_net queue now_queue item still =
    ignores (Moment t) old mid new net now_net queue now_queue item still.does.seen (ap (λ (x : Knowledge). x.views) still.knowledge) still.does.kept (ap (λ (x : Knowledge). x.queue) still.knowledge) tt

idle_still : {Own Tells : Type 0} {text : List ℕ} (old mid new : Seen Own) (net now_net : NetState) (queue now_queue : List Event) → IsTold Idle old.history mid.history → HandlesStill Tells Idle text mid new net now_net queue now_queue → OneByOne ItemMove (holding_of old net queue) (holding_of new now_net now_queue)
unfolding handled
idle_still old mid new net now_net queue now_queue item still =
    ignores Idle old mid new net now_net queue now_queue item still.does.seen (ap (λ (x : Knowledge). x.views) still.knowledge) (ap (λ (n : NetState). n.kept) still.does.same) (ap (λ (x : Knowledge). x.queue) still.knowledge) tt

end_still : {Own Tells : Type 0} {text : List ℕ} (old mid new : Seen Own) (net now_net : NetState) (queue now_queue : List Event) → IsTold End old.history mid.history → HandlesStill Tells End text mid new net now_net queue now_queue → OneByOne ItemMove (holding_of old net queue) (holding_of new now_net now_queue)
unfolding handled
end_still old mid new net now_net queue now_queue item still =
    ignores End old mid new net now_net queue now_queue item still.does.seen (ap (λ (x : Knowledge). x.views) still.knowledge) (ap (λ (n : NetState). n.kept) still.does.same) (ap (λ (x : Knowledge). x.queue) still.knowledge) tt

from_went : {Own Tells : Type 0} (text : List ℕ) (d : ℕ) (bytes : List ℕ) (doubt : Option Key) (old mid new : Seen Own) (net now_net : NetState) (queue now_queue : List Event) → Tells → IsTold (From d bytes) old.history mid.history → doubted d net.views (reading_of bytes) ≡ doubt
    → WentBy Tells (From d bytes) text doubt mid new net now_net queue now_queue → OneByOne ItemMove (holding_of old net queue) (holding_of new now_net now_queue)
from_went text d bytes None old mid new net now_net queue now_queue told item none (inl still) = from_by d bytes (is_some (rows_at d net.views)) old mid new net now_net queue now_queue told item refl none still.knowledge still.does
from_went text d bytes None old mid new net now_net queue now_queue told item none (inr lost) =
    one_move ItemMove (holding_of old net queue) (holding_of new now_net now_queue) (inr (inr (inr (inr (inl (from_lost d bytes old mid new net now_net queue now_queue told item lost))))))
from_went text d bytes (Some key) old mid new net now_net queue now_queue told item is doubt = one_move ItemMove (holding_of old net queue) (holding_of new now_net now_queue) (doubt_moves (From d bytes) old mid new net now_net queue now_queue told item doubt)

pub next_moves : {Own Tells : Type 0} {text : List ℕ} (item : Item) (old new : Seen Own) (net now_net : NetState) (queue now_queue : List Event) → Tells → TakesNext Tells item text old new net now_net queue now_queue → OneByOne ItemMove (holding_of old net queue) (holding_of new now_net now_queue)
unfolding item_step
next_moves (items.From d n) old new net now_net queue now_queue told takes =
    let bytes = take n takes.buf in
    from_went _ d bytes (doubted d net.views (reading_of bytes)) old takes.mid new net now_net queue now_queue told (next_told (items.From d n) takes.buf old takes.mid told takes.nexts) refl takes.handles.went
next_moves (items.Joined d n) old new net now_net queue now_queue told takes =
    let bytes = take n takes.buf in
    let item = next_told (items.Joined d n) takes.buf old takes.mid told takes.nexts in
    elim takes.handles.went [
      | inl still ↦ joined_still d bytes old takes.mid new net now_net queue now_queue told item still
      | inr lost ↦ joined_lost d bytes old takes.mid new net now_net queue now_queue told item lost
    ]
next_moves (items.Left d) old new net now_net queue now_queue told takes =
    let item = next_told (items.Left d) takes.buf old takes.mid told takes.nexts in
    elim takes.handles.went [
      | inl still ↦ left_still d old takes.mid new net now_net queue now_queue item still
      | inr lost ↦ absurd lost.at
    ]
next_moves (items.Moment t) old new net now_net queue now_queue told takes =
    let item = next_told (items.Moment t) takes.buf old takes.mid told takes.nexts in
    elim takes.handles.went [
      | inl still ↦ moment_still t old takes.mid new net now_net queue now_queue item still
      | inr lost ↦ absurd lost.at
    ]
next_moves items.Idle old new net now_net queue now_queue told takes =
    let item = next_told items.Idle takes.buf old takes.mid told takes.nexts in
    elim takes.handles.went [
      | inl still ↦ idle_still old takes.mid new net now_net queue now_queue item still
      | inr lost ↦ absurd lost.at
    ]
next_moves items.End old new net now_net queue now_queue told takes =
    let item = next_told items.End takes.buf old takes.mid told takes.nexts in
    elim takes.handles.went [
      | inl still ↦ end_still old takes.mid new net now_net queue now_queue item still
      | inr lost ↦ absurd lost.at
    ]

-- ---- Items, one after the other

pub items_move : {Own Tells : Type 0} (items : List Item) (from to : Between Own) → Tells → TakesItems Tells items from to → OneByOne ItemMove (holding_of from.seen from.net from.queue) (holding_of to.seen to.net to.queue)
items_move [] from to told takes = no_move ItemMove (holding_of from.seen from.net from.queue) (holding_of to.seen to.net to.queue) (ap (λ (b : Between _). holding_of b.seen b.net b.queue) takes)
items_move (item ∷ before) from to told takes =
    let mid = takes.0 in
    moves_then ItemMove (holding_of from.seen from.net from.queue) (holding_of mid.seen mid.net mid.queue) (holding_of to.seen to.net to.queue)
    (items_move before from mid told takes.1) (next_moves item mid.seen to.seen mid.net to.net mid.queue to.queue told takes.2.1)
