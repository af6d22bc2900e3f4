-- A notice in doubt, as the course of a run says it: its switch is asked for the rows of the key, and the notice is taken, dropped, or its switch is lost.
use Rattle.std.specs.Prelude.{is_some}
use Rattle.std.proofs.Common.{◌≡◌, ◌==◌, ◌⊎◌, ℕ, Bool, true, false, not, List, [], ◌∷◌, ◌++◌, Option, Some, None, Result, Ok, Err, refl, sym, ap, ◌∙◌, subst, inl, inr, true≢false}
use Rattle.std.specs.List.{AllByRecursion}
use Rattle.std.proofs.lemmas.Bool.{or_parts, not-true}
use Rattle.std.proofs.lemmas.List.{append-nil}
use Rattle.of_match.specs.declared.key.Key.{Key}
use Rattle.of_match.specs.Key.{key_number}
use Rattle.of_wire.specs.declared.message.Envelope.{Envelope}
use Rattle.of_wire.specs.declared.fault.WireFault.{WireFault}
use Rattle.of_wire.specs.Reading.{reading_of}
use Rattle.of_stats.specs.declared.flow_row.FlowRow.{FlowRow}
use Rattle.of_stats.specs.declared.fault.StatsFault.{StatsFault}
use Rattle.of_stats.specs.Reading.{rows_of}
use Rattle.flow_table.specs.declared.view.ViewRow.{ViewRow}
use Rattle.flow_table.specs.View.{TableView}
use Rattle.flow_table.specs.RowKeys.{key_removed}
use Rattle.app_frames.specs.declared.frame.Answer.{Answer}
use Rattle.app_frames.specs.declared.frame.Answer.TheVariants.{Fine, Error, Statistics, Unknown}
use Rattle.app_frames.specs.declared.frame.Event.{Event}
use Rattle.outside.specs.declared.step.WorldStep.{WorldStep}
use Rattle.outside.specs.declared.step.WorldStep.TheVariants.{From}
use Rattle.outside.specs.Seen.{Seen}
use Rattle.lego_model.specs.FlowQueries.{query_bytes, parts_in, refusals_in, others_in, IsAnswerTo}
use Rattle.net_txn.specs.declared.ports.KnownPorts.{KnownPorts}
use Rattle.net_txn.specs.Net.{NetState}
use Rattle.net_txn.specs.Views.{rows_at, has_key_in, is_row_at}
use Rattle.net_txn.specs.Losing.{IsLost}
use Rattle.net_txn.specs.Queries.{Queries, QueryLost}
use Rattle.net_txn.specs.Settling.{doubted, key_flows, key_query, key_inquiry, has_row, lacks_row, shows_gone}
use Rattle.batch_laws.specs.Knowledge.{Knowledge, knowledge_of, left_events, ports_lost}
use Rattle.batch_laws.specs.Items.{answers, TakesMessage, DoesFrom, SettledBy, HandlesDoubt}
use Rattle.batch_laws.specs.laws.DeletionLaws.{DoubtOf, doubt-of}
use Rattle.app_visor.specs.laws.AnswerLaws.{is_unknown}
use Rattle.run_course.specs.Messages.{events_read, tables_read}
use Rattle.run_course.specs.Moves.{IsTold, HasRow, IsDoubted, AsksForKey, LacksKey, TakesNotice, DropsNotice, Settles, LosesTold, ItemMove}
use Rattle.run_laws.specs.laws.TableHoldingLaws.{tables_of}
use Rattle.run_laws.specs.laws.MadeEventLaws.{from_makes}
use Rattle.run_laws.specs.laws.HoldingLaws.{holding_of, waited_by, loses_told, holds_still}

-- ---- Which notices are in doubt

row_of : (key : Key) (rows : Option (List ViewRow)) → has_key_in key rows ≡ true → HasRow key rows
row_of key None has = absurd (true≢false (sym has))
row_of key (Some rows) has = has

has_rows : (key : Key) (rows : Option (List ViewRow)) → has_key_in key rows ≡ true → is_some rows ≡ true
has_rows key None has = absurd (true≢false (sym has))
has_rows key (Some rows) has = refl

doubted_so : (d : ℕ) (views : List TableView) (key : Key) (r : Result Envelope WireFault) → DoubtOf d views key r → IsDoubted key (rows_at d views) r
doubted_so d views key r of = record { xid = of.xid; flow = of.flow; read_is = of.read_is; reason = of.reason; key_is = of.key_is; has_row = row_of key (rows_at d views) of.has_row }

-- ---- What an answer says

none_has : (key : Key) (rows : List FlowRow) → has_row key rows ≡ false → AllByRecursion (λ r. (key_number r.key == key_number key) ≡ false) rows
none_has key [] none = tt
none_has key (r ∷ rows) none = let parts = or_parts (key_number r.key == key_number key) (has_row key rows) none in (parts.0, none_has key rows parts.1)

has_none : (key : Key) (rows : List FlowRow) → AllByRecursion (λ r. (key_number r.key == key_number key) ≡ false) rows → has_row key rows ≡ false
has_none key [] none = refl
has_none key (r ∷ rows) none = rw none.0 (has_none key rows none.1)

lacks_by : (key : Key) (kind : ℕ) (body : List ℕ) (r : Result (List FlowRow) StatsFault) → rows_of body ≡ r → lacks_row key r ≡ true → LacksKey key (Statistics kind body)
lacks_by key kind body (Ok rows) read gone = record { kind = kind; body = body; answer_is = refl; rows = rows; read = read; none = none_has key rows (not-true (has_row key rows) gone) }
lacks_by key kind body (Err fault) read gone = absurd (true≢false (sym gone))

lacks_so : (key : Key) (answer : Answer) → shows_gone key answer ≡ true → LacksKey key answer
lacks_so key (Statistics kind body) gone = lacks_by key kind body (rows_of body) refl gone
lacks_so key Fine gone = absurd (true≢false (sym gone))
lacks_so key (Error error) gone = absurd (true≢false (sym gone))
lacks_so key Unknown gone = absurd (true≢false (sym gone))

lacks_not : (key : Key) (answer : Answer) → shows_gone key answer ≡ false → LacksKey key answer → ⊥
lacks_not key answer stands lacks =
    let gone : shows_gone key answer ≡ true =
    ap (shows_gone key) lacks.answer_is ∙ (ap (lacks_row key) lacks.read ∙ ap not (has_none key lacks.rows lacks.none)) in
    true≢false (sym gone ∙ stands)

asks_so : (key : Key) → AsksForKey key (key_query key)
unfolding key_flows
asks_so key = record { kind = refl; flags = refl; body = refl }

-- ---- The move

takes_known : {Own : Type 0} {Tells : Type 0} {d : ℕ} {bytes : List ℕ} {old new : Seen Own} {net now_net : NetState} (known : Bool) → known ≡ true → DoesFrom Tells d bytes known old new net now_net → TakesMessage Tells d bytes old new net now_net
takes_known true is does = does
takes_known false is does = absurd (true≢false (sym is))

module _ {Own Tells : Type 0} (d : ℕ) (bytes : List ℕ) (key : Key) (answer : Answer) (old mid asked new : Seen Own) (net asked_net now_net : NetState) (queue now_queue : List Event) (told : Tells) (item : IsTold (From d bytes) old.history mid.history)
    (doubt : DoubtOf d net.views key (reading_of bytes)) (none_left : net.left ≡ []) where
  known : is_some (rows_at d net.views) ≡ true
  known = has_rows key (rows_at d net.views) doubt.has_row

  abbrev Made : Type 0
  Made = (LacksKey key answer × TakesNotice d bytes (holding_of old net queue) (holding_of new now_net now_queue)) ⊎ ((LacksKey key answer → ⊥) × DropsNotice (holding_of old net queue) (holding_of new now_net now_queue))

  settles_so : Queries Tells (key_inquiry d net.xid key) mid asked net asked_net (Ok answer) → new.history ≡ asked.history → now_net.kept ≡ asked_net.kept → Made → Settles (holding_of old net queue) (holding_of new now_net now_queue)
  settles_so q same kept made =
      let answered = q.answer.answered in
      let w = waited_by (query_bytes net.xid (key_query key) ∷ []) told answered.waits in
      record {
        dpid = d;
        bytes = bytes;
        mid = mid.history;
        told = item;
        was_in = known;
        key = key;
        doubt = doubted_so d net.views key (reading_of bytes) doubt;
        xid = net.xid;
        query = key_query key;
        asks = asks_so key;
        waited = record { awaited = w.awaited; sent = w.sent; got = w.got; history = same ∙ w.history };
        awaited_is = refl;
        sent = refl;
        answer = answer;
        answers = subst (λ (came : List (ℕ × List ℕ)). IsAnswerTo 1 (refusals_in net.xid came) (parts_in net.xid came) answer) answered.waits.hears.kept_is q.answer.answers;
        made = made;
        kept = kept ∙ answered.kept_is ∙ ap (λ (came : List (ℕ × List ℕ)). net.kept ++ others_in net.xid came) answered.waits.hears.kept_is;
      }

  settles_by : (text : List ℕ) (gone : Bool) → Queries Tells (key_inquiry d net.xid key) mid asked net asked_net (Ok answer) → shows_gone key answer ≡ gone → SettledBy Tells (From d bytes) text gone asked new asked_net now_net queue now_queue
      → Settles (holding_of old net queue) (holding_of new now_net now_queue)
  settles_by text true q is still =
      let views : asked_net.views ≡ net.views = ap (λ (n : NetState). n.views) q.stays in
      let there : is_some (rows_at d asked_net.views) ≡ true = ap (λ (vs : List TableView). is_some (rows_at d vs)) views ∙ known in
      let takes = takes_known (is_some (rows_at d asked_net.views)) there still.does in
      let makes = from_makes (d, bytes) (knowledge_of asked_net queue) there in
      settles_so q (takes.told told ∙ ap (λ (r : Result Envelope WireFault). asked.history ++ answers d r) doubt.read_is ∙ append-nil asked.history) takes.kept
      (inl (
        lacks_so key answer is,
        record {
          tables = λ e. ap (λ (x : Knowledge). rows_at e x.views) still.knowledge ∙ makes.tables e ∙ ap (λ (vs : List TableView). tables_read d (reading_of bytes) (tables_of vs) e) views;
          queued = ap (λ (x : Knowledge). x.queue) still.knowledge ∙ makes.queue_is ∙ ap (λ (vs : List TableView). queue ++ events_read d (tables_of vs d) (reading_of bytes)) views;
        },
      ))
  settles_by text false q is dropped =
      let views : asked_net.views ≡ net.views = ap (λ (n : NetState). n.views) q.stays in
      let none : asked_net.left ≡ [] = ap (λ (n : NetState). n.left) q.stays ∙ none_left in
      settles_so q (ap (λ (s : Seen _). s.history) dropped.0) (ap (λ (n : NetState). n.kept) dropped.1)
      (inr (
        lacks_not key answer is,
        record {
          tables = λ e. ap (λ (n : NetState). rows_at e n.views) dropped.1 ∙ ap (λ (vs : List TableView). rows_at e vs) views;
          queue = dropped.2 ∙ ap (λ (ks : List KnownPorts). queue ++ left_events ks) none ∙ append-nil queue;
        },
      ))

  loses_so : (text : List ℕ) → QueryLost Tells (key_inquiry d net.xid key) mid asked net asked_net → SettledBy Tells (From d bytes) text false asked new asked_net now_net queue now_queue → LosesTold (holding_of old net queue) (holding_of new now_net now_queue)
  loses_so text lost dropped =
      let gone : asked_net.left ≡ ports_lost d net.ports = ap (λ (n : NetState). n.left) lost.net_is ∙ ap (λ (ks : List KnownPorts). ks ++ ports_lost d net.ports) none_left in
      let waiting : now_queue ≡ queue ++ left_events (ports_lost d net.ports) = dropped.2 ∙ ap (λ (ks : List KnownPorts). queue ++ left_events ks) gone in
      subst (λ (q : List Event). LosesTold (holding_of old net queue) (holding_of new now_net q)) (sym waiting) (record {
        item = From d bytes;
        mid = holding_of mid net queue;
        told = item;
        still = holds_still old mid net net queue queue refl refl refl;
        loses = loses_told d mid new net now_net queue told (subst (λ (s : Seen _). IsLost Tells d [] mid s) (sym dropped.0) lost.is_lost) (ap (λ (n : NetState). n.views) dropped.1 ∙ ap (λ (n : NetState). n.views) lost.net_is)
            (ap (λ (n : NetState). n.kept) dropped.1 ∙ ap (λ (n : NetState). n.kept) lost.net_is);
        of_switch = (refl, known, inr (key, doubted_so d net.views key (reading_of bytes) doubt));
      })

-- one that is in none
doubt_by : (d : ℕ) (views : List TableView) (key : Key) (r : Result Envelope WireFault) → IsDoubted key (rows_at d views) r → doubted d views r ≡ Some key
doubt_by d views key r is =
    let row : is_row_at d (key_removed is.flow) views ≡ true = ap (λ (k : Key). is_row_at d k views) (sym is.key_is) ∙ row_in_view key (rows_at d views) is.has_row in
    ap (doubted d views) is.read_is ∙ rw (is.reason, row) (ap (λ (k : Key). Some k) (sym is.key_is))
  where
    row_in_view : (key : Key) (rows : Option (List ViewRow)) → HasRow key rows → has_key_in key rows ≡ true
    row_in_view key None has = absurd has
    row_in_view key (Some rows) has = has

pub undoubted_so : (d : ℕ) (views : List TableView) (r : Result Envelope WireFault) → doubted d views r ≡ None → (key : Key) → IsDoubted key (rows_at d views) r → ⊥
undoubted_so d views r none key is = let h : None ≡ Some key = sym none ∙ doubt_by d views key r is in absurd cc

pub doubt_moves : {Own Tells : Type 0} {text : List ℕ} {key : Key} (item : WorldStep) (old mid new : Seen Own) (net now_net : NetState) (queue now_queue : List Event) → Tells → IsTold item old.history mid.history → HandlesDoubt Tells item text key mid new net now_net queue now_queue
    → ItemMove (holding_of old net queue) (holding_of new now_net now_queue)
doubt_moves {Tells = Tells} {text = text} {key = key} item old mid new net now_net queue now_queue told at doubt =
    let here = subst (λ (i : WorldStep). IsTold i old.history mid.history) doubt.item_is at in
    let of = doubt-of doubt.dpid net.views (reading_of doubt.bytes) key doubt.doubt in
    let settled = subst (λ (i : WorldStep). SettledBy Tells i text (shows_gone key doubt.answer) doubt.mid new doubt.mid_net now_net queue now_queue) doubt.item_is doubt.settled in
    elim doubt.asked.queried [
      | inl q ↦ inr (inr (inr (inr (inr (settles_by doubt.dpid doubt.bytes key doubt.answer old mid doubt.mid new net doubt.mid_net now_net queue now_queue told here of doubt.none_left text (shows_gone key doubt.answer) q refl settled)))))
      | inr lost ↦
          let none : shows_gone key doubt.answer ≡ false = ap (shows_gone key) (is_unknown doubt.answer lost.0) in
          inr (inr (inr (inr (inl (loses_so doubt.dpid doubt.bytes key doubt.answer old mid doubt.mid new net doubt.mid_net now_net queue now_queue told here of doubt.none_left text lost.1
          (subst (λ (b : Bool). SettledBy Tells (From doubt.dpid doubt.bytes) text b doubt.mid new doubt.mid_net now_net queue now_queue) none settled))))))
    ]
