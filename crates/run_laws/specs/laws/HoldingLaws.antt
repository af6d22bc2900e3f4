-- Moves of the network, as the course of a run says them: messages of applications for switches, and packets that are released.
use Rattle.std.specs.Prelude.{◌==◌, ◌||◌, map, if◌then◌else◌}
use Rattle.std.specs.List.{AllByRecursion}
use Rattle.std.specs.Option.{is_some, option_map}
use Rattle.std.proofs.Common.{◌≡◌, ℕ, Bool, true, false, List, [], ◌∷◌, ◌++◌, Option, Some, None, Result, Ok, Err, refl, sym, ap, ◌∙◌, subst, inl, inr, append_assoc}
use Rattle.std.proofs.lemmas.List.{append-nil}
use Rattle.std.proofs.lemmas.Bool.{cases_Bool, eqb-true}
use Rattle.of_match.specs.declared.key.Key.{Key}
use Rattle.of_wire.specs.declared.bodies.FlowMod.{FlowMod as Change}
use Rattle.of_wire.specs.declared.message.Message.TheVariants.{FlowMod, PacketOut}
use Rattle.of_wire.specs.declared.message.Envelope.{Envelope}
use Rattle.of_wire.specs.declared.fault.WireFault.{WireFault}
use Rattle.of_wire.specs.Reading.{reading_of}
use Rattle.of_wire.specs.Spelling.{message_bytes}
use Rattle.flow_table.specs.declared.view.ViewRow.{ViewRow}
use Rattle.flow_table.specs.View.{TableView}
use Rattle.flow_table.specs.Change.{is_delete, key_in}
use Rattle.flow_table.specs.Sorted.{with_row}
use Rattle.app_frames.specs.declared.frame.Answer.{Answer}
use Rattle.app_frames.specs.declared.frame.Event.{Event}
use Rattle.outside.specs.declared.step.WorldStep.{WorldStep}
use Rattle.outside.specs.Seen.{Seen}
use Rattle.lego_model.specs.declared.wait.Awaited.{Awaited}
use Rattle.lego_model.specs.declared.wait.Refusal.{Refusal}
use Rattle.lego_model.specs.declared.wait.Heard.{Heard}
use Rattle.lego_model.specs.declared.wait.Heard.TheVariants.{Reply, Refused, Notice, Echo, Other}
use Rattle.lego_model.specs.Answers.{as_sent}
use Rattle.lego_model.specs.Packets.{Held}
use Rattle.lego_model.specs.BarrierWaits.{heard, barrier_sent, wait_steps, reply_got}
use Rattle.net_txn.specs.declared.ports.KnownPorts.{KnownPorts}
use Rattle.net_txn.specs.declared.logged.Logged.{Logged}
use Rattle.net_txn.specs.Net.{NetState, awaited_from, logged_at, with_logged}
use Rattle.net_txn.specs.Views.{rows_at, is_viewed, with_added, rows_after}
use Rattle.net_txn.specs.laws.ViewLaws.{viewed}
use Rattle.net_txn.specs.laws.ChangeLaws.{host_unknown}
use Rattle.net_txn.specs.Waits.{refusal_in, first_of, first_refusal, Brought, answer_of, Waits}
use Rattle.net_txn.specs.Losing.{lost_net, IsLost}
use Rattle.net_txn.specs.laws.ArrivalLaws.{net_after_kept}
use Rattle.net_txn.specs.Changes.{answer_of_host, views_by, Changes, ChangesJoined}
use Rattle.net_txn.specs.Answering.{known_rows, log_by}
use Rattle.net_txn.specs.Releases.{Knows, takes_read, takes_all, SendsPacket, LosesPacket, ReleasesOne, ReleasesAll, committed, Commits}
use Rattle.lego_model.specs.FlowQueries.{query_bytes, others_in}
use Rattle.switch_laws.specs.Asked.{ReadAsChange, ReadAsQuery}
use Rattle.switch_laws.specs.laws.AskedLaws.{asked}
use Rattle.switch_laws.specs.laws.LossLaws.{rows-gone, rows-stay}
use Rattle.batch_laws.specs.Knowledge.{left_events, ports_lost}
use Rattle.run_course.specs.Tables.{rows_with}
use Rattle.lego_model.specs.ViewRows.{row_in}
use Rattle.lego_model.specs.KeptMessages.{got_in}
use Rattle.run_course.specs.Messages.{GotNone, is_refusal, is_refused, all_events, tables_behind, sent_steps, Waited}
use Rattle.run_course.specs.Moves as course
use Rattle.run_course.specs.Moves.{Holding, HoldsStill, Rests, tables_by, Releases, IsLeaveOf, Loses, Go, OneByOne, EndMove}
use Rattle.run_course.specs.Turns.{TalkMove, added_key, added_by}
use Rattle.run_laws.specs.laws.TableHoldingLaws.{tables_of, table_changed}
use Rattle.run_laws.specs.laws.MadeEventLaws.{came_events, came_tables}

-- what a run holds, by what the engine keeps
abbrev pub holding_of : {Own : Type 0} → Seen Own → NetState → List Event → Holding Own
holding_of seen net queue = record { seen = seen; tables = tables_of net.views; kept = net.kept; queue = queue }

-- ---- Steps

pub none_got : (h : List WorldStep) → GotNone h h
none_got h = record { steps = []; history = sym (append-nil h); none = refl }

pub none_got_as : (a b : List WorldStep) → b ≡ a → GotNone a b
none_got_as a b same = subst (GotNone a) (sym same) (none_got a)

pub none_got_by : (a b steps : List WorldStep) → b ≡ a ++ steps → got_in steps ≡ [] → GotNone a b
none_got_by a b steps history none = record { steps = steps; history = history; none = none }

-- ---- Moves

pub no_move : {Own : Type 0} (Move : Holding Own → Holding Own → Type 0) (from to : Holding Own) → to ≡ from → OneByOne Move from to
no_move Move from to same = record { stops = []; moves = same }

pub one_move : {Own : Type 0} (Move : Holding Own → Holding Own → Type 0) (from to : Holding Own) → Move from to → OneByOne Move from to
one_move Move from to move = record { stops = to ∷ []; moves = (move, refl) }

go_then : {Own : Type 0} (Move : Holding Own → Holding Own → Type 0) (first second : List (Holding Own)) (a b c : Holding Own) → Go Move first a b → Go Move second b c → Go Move (first ++ second) a c
go_then Move [] second a b c before after = subst (λ (s : Holding _). Go Move second s c) before after
go_then Move (mid ∷ more) second a b c before after = (before.0, go_then Move more second mid b c before.1 after)

pub moves_then : {Own : Type 0} (Move : Holding Own → Holding Own → Type 0) (a b c : Holding Own) → OneByOne Move a b → OneByOne Move b c → OneByOne Move a c
moves_then Move a b c before after = record { stops = before.stops ++ after.stops; moves = go_then Move before.stops after.stops a b c before.moves after.moves }

-- ---- A wait

abbrev pub waited_by : {Own Tells : Type 0} {a : Awaited} {old new : Seen Own} {kept now_kept : List (ℕ × List ℕ)} {answer : Brought} (sent : List (List ℕ)) → Tells
    → Waits Tells a (sent_steps a.dpid sent ++ barrier_sent a ∷ []) old new kept now_kept answer → Waited old.history new.history
waited_by {a = a} {old = old} sent told waits = record {
  awaited = a;
  sent = sent;
  got = waits.got;
  history = waits.hears.told told ∙ ap (λ (steps : List WorldStep). old.history ++ steps) (append_assoc (sent_steps a.dpid sent) (barrier_sent a ∷ []) (wait_steps a waits.got ++ reply_got a ∷ []));
}

-- ---- A switch that is lost

pub leaves_of : (d : ℕ) (ports : List KnownPorts) → AllByRecursion (IsLeaveOf d) (left_events (ports_lost d ports))
leaves_of d [] = tt
leaves_of d (p ∷ ps) = elim (cases_Bool (p.dpid == d)) [
  | inl here ↦ rw here ((refl, eqb-true p.dpid d here), leaves_of d ps)
  | inr other ↦ rw other (leaves_of d ps)
]

abbrev pub loses_switch : {Own Tells : Type 0} {packets : List Held} (d : ℕ) (old new : Seen Own) (net now_net : NetState) (queue : List Event) (events : List Event) → AllByRecursion (IsLeaveOf d) events → Tells → IsLost Tells d packets old new → now_net.views ≡ (lost_net d net).views → now_net.kept ≡ (lost_net d net).kept
    → Loses (holding_of old net queue) (holding_of new now_net (queue ++ events))
loses_switch d old new net now_net queue events leave told lost views kept =
    let calls = lost.only told in
    record {
      dpid = d;
      rose = lost.rose;
      steps = calls.steps;
      history = calls.history;
      each = calls.each;
      out = ap (rows_at d) views ∙ rows-gone d net.views;
      others = λ e other. ap (rows_at e) views ∙ rows-stay d e other net.views;
      kept = kept;
      events = events;
      leave = leave;
      queued = refl;
    }

-- with its Leave event
abbrev pub loses_told : {Own Tells : Type 0} (d : ℕ) (old new : Seen Own) (net now_net : NetState) (queue : List Event) → Tells → IsLost Tells d [] old new → now_net.views ≡ (lost_net d net).views → now_net.kept ≡ (lost_net d net).kept
    → Loses (holding_of old net queue) (holding_of new now_net (queue ++ left_events (ports_lost d net.ports)))
loses_told d old new net now_net queue told lost views kept = loses_switch d old new net now_net queue (left_events (ports_lost d net.ports)) (leaves_of d net.ports) told lost views kept

-- with none yet
loses_quietly : {Own Tells : Type 0} {packets : List Held} (d : ℕ) (old new : Seen Own) (net now_net : NetState) (queue : List Event) → Tells → IsLost Tells d packets old new → now_net.views ≡ (lost_net d net).views → now_net.kept ≡ (lost_net d net).kept → Loses (holding_of old net queue) (holding_of new now_net queue)
loses_quietly d old new net now_net queue told lost views kept =
    subst (λ (q : List Event). Loses (holding_of old net queue) (holding_of new now_net q)) (append-nil queue) (loses_switch d old new net now_net queue [] tt told lost views kept)

-- ---- Calls by which nothing came

pub holds_still : {Own : Type 0} (old new : Seen Own) (net now_net : NetState) (queue now_queue : List Event) → now_net.views ≡ net.views → now_net.kept ≡ net.kept → now_queue ≡ queue → HoldsStill (holding_of old net queue) (holding_of new now_net now_queue)
holds_still old new net now_net queue now_queue views kept same = record { tables = λ e. ap (rows_at e) views; kept = kept; queue = same }

-- nothing was called, and this is kept
pub rests_so : {Own : Type 0} (old new : Seen Own) (net now_net : NetState) (queue now_queue : List Event) → new ≡ old → now_net.views ≡ net.views → now_net.kept ≡ net.kept → now_queue ≡ queue → Rests (holding_of old net queue) (holding_of new now_net now_queue)
rests_so old new net now_net queue now_queue seen views kept same = record { history = ap (λ (s : Seen _). s.history) seen; still = holds_still old new net now_net queue now_queue views kept same }

-- ---- A message of an application

-- a switch that the host does not answer for is joined
asked_joined : (d : ℕ) (bytes : List ℕ) (net : NetState) (rows : Option (List ViewRow)) → rows_at d net.views ≡ rows → answer_of_host d bytes net ≡ None → is_some (rows_at d net.views) ≡ true
asked_joined d bytes net (Some rows) is none = ap is_some is
asked_joined d bytes net None is none = let unknown = host_unknown d bytes net net.views refl is in absurd cc

-- the first refusal tells whether there is one
refusal_is : (h : Heard) (more : Option Refusal) → is_some (first_of (refusal_in h) more) ≡ (is_refusal h || is_some more)
refusal_is (Refused refusal) more = refl
refusal_is Reply more = refl
refusal_is Notice more = refl
refusal_is Echo more = refl
refusal_is Other more = refl

refused_is : (a : Awaited) (got : List (List ℕ)) → is_some (first_refusal a got) ≡ is_refused a got
refused_is a [] = refl
refused_is a (b ∷ bs) = refusal_is (heard a b) (first_refusal a bs) ∙ ap (λ (rest : Bool). is_refusal (heard a b) || rest) (refused_is a bs)

added_same : (m : Change) (is : Bool) (rows : List ViewRow) → with_added (if is then None else Some (row_in m)) rows ≡ (if is then rows else with_row (row_in m) rows)
added_same m true rows = refl
added_same m false rows = refl

rows_same : (m : Change) (rows : List ViewRow) → rows_after m rows ≡ rows_with m rows
unfolding rows_after
rows_same m rows = added_same m (is_delete m) rows

mapped_same : (m : Change) (o : Option (List ViewRow)) → option_map (rows_after m) o ≡ option_map (rows_with m) o
mapped_same m None = refl
mapped_same m (Some rows) = ap (λ (rs : List ViewRow). Some rs) (rows_same m rows)

-- the tables behind the change, by whether it was refused
changed_by : (refusal : Option Refusal) (d e : ℕ) (m : Change) (views : List TableView) → rows_at e (views_by refusal d m views) ≡ tables_by (is_some refusal) d m (tables_of views) e
changed_by (Some refusal) d e m views = refl
changed_by None d e m views =
    table_changed d e (rows_after m) views ∙ ap (λ (o : Option (List ViewRow)). if e == d then o else rows_at e views) (mapped_same m (rows_at e views))

refusal_told : (a : Awaited) (got : List (List ℕ)) (refusal : Option Refusal) (notices : List (List ℕ)) → record { refusal = refusal; notices = notices } ≡ answer_of a got → is_some refusal ≡ is_refused a got
refusal_told a got refusal notices is = ap (λ (b : Brought). is_some b.refusal) is ∙ refused_is a got

change_asked : {Own Tells : Type 0} {d : ℕ} {old new : Seen Own} (bytes : List ℕ) (net now_net : NetState) (queue : List Event) (answer : Answer) → Tells → ChangesJoined Tells d bytes old new net now_net (Ok answer) → answer_of_host d bytes net ≡ None → ReadAsChange bytes → course.Changes (d, bytes) (holding_of old net queue) (holding_of new now_net queue)
change_asked {d = d} bytes net now_net queue answer told changes host change =
    let asks = changes.by_switch change.xid change.change host change.read in
    let frame = message_bytes net.xid (as_sent (FlowMod change.change)) in
    record {
      xid = change.xid;
      change = change.change;
      read = change.read;
      waited = waited_by (frame ∷ []) told asks.waits;
      of_switch = refl;
      barrier = refl;
      notices = refl;
      sent = refl;
      was_in = asked_joined d bytes net (rows_at d net.views) refl host;
      tables = λ e. ap (rows_at e) asks.views ∙ changed_by asks.refusal d e change.change net.views
          ∙ ap (λ (refused : Bool). tables_by refused d change.change (tables_of net.views) e) (refusal_told (awaited_from d net.xid) asks.waits.got asks.refusal asks.notices asks.waits.hears.answer_is);
      kept = asks.waits.hears.kept_is;
      queue = refl;
    }

-- ---- What is logged of it: the key that it added, where it was not refused

abbrev pub logged_of : ℕ × Key → Logged
logged_of a = logged_at a.0 a.1

-- what becomes of a message, with what it logs
pub record ChangeMove {Own : Type 0} (i d : ℕ) (bytes : List ℕ) (log now_log : List Logged) (from to : Holding Own) : Type 0 where
  pub move : TalkMove i (Some (d, bytes)) from to
  pub logged : now_log ≡ log ++ map logged_of (added_by i (Some (d, bytes)) from to move)

nothing_logged : (log now_log : List Logged) → now_log ≡ log → now_log ≡ log ++ []
nothing_logged log now_log same = same ∙ sym (append-nil log)

key_added : (delete : Bool) (d : ℕ) (m : Change) (log : List Logged) → with_logged (if delete then None else Some (logged_at d (key_in m))) log ≡ log ++ map logged_of (if delete then [] else (d, key_in m) ∷ [])
key_added true d m log = sym (append-nil log)
key_added false d m log = refl

logged_as : (refusal : Option Refusal) (d : ℕ) (m : Change) (log : List Logged) → log_by refusal d m log ≡ log ++ map logged_of (added_key (is_some refusal) d m)
logged_as (Some refusal) d m log = sym (append-nil log)
logged_as None d m log = key_added (is_delete m) d m log

asked_logged : {Own Tells : Type 0} {d : ℕ} {old new : Seen Own} (bytes : List ℕ) (net now_net : NetState) (queue : List Event) (answer : Answer) (told : Tells) (changes : ChangesJoined Tells d bytes old new net now_net (Ok answer)) (host : answer_of_host d bytes net ≡ None) (change : ReadAsChange bytes)
    → now_net.log ≡ net.log ++ map logged_of (added_by 0 (Some (d, bytes)) (holding_of old net queue) (holding_of new now_net queue) (inr (inl (change_asked bytes net now_net queue answer told changes host change))))
unfolding change_asked
asked_logged {d = d} bytes net now_net queue answer told changes host change =
    let asks = changes.by_switch change.xid change.change host change.read in
    asks.log ∙ (logged_as asks.refusal d change.change net.log
    ∙ ap (λ (refused : Bool). net.log ++ map logged_of (added_key refused d change.change)) (refusal_told (awaited_from d net.xid) asks.waits.got asks.refusal asks.notices asks.waits.hears.answer_is))

-- statistics that were asked for
query_asked : {Own Tells : Type 0} {d : ℕ} {old new : Seen Own} (bytes : List ℕ) (net now_net : NetState) (queue : List Event) (answer : Answer) → Tells → ChangesJoined Tells d bytes old new net now_net (Ok answer) → answer_of_host d bytes net ≡ None → ReadAsQuery bytes → course.Queries (d, bytes) (holding_of old net queue) (holding_of new now_net queue)
query_asked {d = d} bytes net now_net queue answer told changes host query =
    let asks = changes.by_statistics query.xid query.query host query.read in
    let answered = asks.answer.answered in
    record {
      number = query.xid;
      query = query.query;
      read = query.read;
      xid = net.xid;
      waited = waited_by (query_bytes net.xid query.query ∷ []) told answered.waits;
      awaited_is = refl;
      sent = refl;
      was_in = asked_joined d bytes net (rows_at d net.views) refl host;
      tables = λ e. ap (λ (n : NetState). rows_at e n.views) asks.stays;
      kept = answered.kept_is ∙ ap (λ (came : List (ℕ × List ℕ)). net.kept ++ others_in net.xid came) answered.waits.hears.kept_is;
      queue = refl;
    }

change_stays : {Own Tells : Type 0} {d : ℕ} {old new : Seen Own} (i : ℕ) (bytes : List ℕ) (net now_net : NetState) (queue : List Event) (answer : Answer) (host : Option Answer) → Tells → ChangesJoined Tells d bytes old new net now_net (Ok answer) → answer_of_host d bytes net ≡ host
    → ChangeMove i d bytes net.log now_net.log (holding_of old net queue) (holding_of new now_net queue)
change_stays {old = old} {new = new} i bytes net now_net queue answer (Some said) told changes host =
    let same = changes.by_host said host in
    record {
      move = inl (rests_so old new net now_net queue queue same.world (ap (λ (n : NetState). n.views) same.stays) (ap (λ (n : NetState). n.kept) same.stays) refl);
      logged = nothing_logged net.log now_net.log (ap (λ (n : NetState). n.log) same.stays);
    }
change_stays {d = d} i bytes net now_net queue answer None told changes host = elim (asked (known_rows d net.views) bytes host) [
  | inl change ↦ record { move = inr (inl (change_asked bytes net now_net queue answer told changes host change)); logged = asked_logged bytes net now_net queue answer told changes host change }
  | inr query ↦ record {
    move = inr (inr (inl (query_asked bytes net now_net queue answer told changes host query)));
    logged = nothing_logged net.log now_net.log (ap (λ (n : NetState). n.log) (changes.by_statistics query.xid query.query host query.read).stays);
  }
]

pub change_moves : {Own Tells : Type 0} {d : ℕ} {bytes : List ℕ} {old new : Seen Own} (i : ℕ) (net now_net : NetState) (queue : List Event) (answer : Answer) → Tells → Changes Tells d bytes old new net now_net (Ok answer)
    → ChangeMove i d bytes net.log now_net.log (holding_of old net queue) (holding_of new now_net queue)
change_moves {d = d} {bytes = bytes} {old = old} {new = new} i net now_net queue answer told changes =
    elim changes.answered [
      | inl joined ↦ change_stays i bytes net now_net queue answer (answer_of_host d bytes net) told joined refl
      | inr lost ↦ record {
        move = inr (inr (inr (loses_quietly d old new net now_net queue told lost.2.is_lost (ap (λ (n : NetState). n.views) lost.2.net_is) (ap (λ (n : NetState). n.kept) lost.2.net_is))));
        logged = nothing_logged net.log now_net.log (ap (λ (n : NetState). n.log) lost.2.net_is);
      }
    ]

-- ---- A packet that is released

read_kept : (d : ℕ) (r : Result Envelope WireFault) (k : Knows) → (takes_read d r k).0.kept ≡ k.0.kept
read_kept d (Ok x) k = net_after_kept d x.message k.0
read_kept d (Err fault) k = refl

all_kept : (came : List (ℕ × List ℕ)) (k : Knows) → (takes_all came k).0.kept ≡ k.0.kept
all_kept [] k = refl
all_kept (m ∷ more) k = all_kept more (takes_read m.0 (reading_of m.1) k) ∙ read_kept m.0 (reading_of m.1) k

packet_sent : {Own Tells : Type 0} (held : Held) (old new : Seen Own) (net now_net : NetState) (queue now_queue : List Event) → Tells → is_viewed held.0 net.views ≡ true → SendsPacket Tells held old new net now_net queue now_queue → Releases (holding_of old net queue) (holding_of new now_net now_queue)
packet_sent held old new net now_net queue now_queue told joined sends =
    let first : Knows = (record net { xid = _ }, queue) in
    let came_is = sends.waits.hears.kept_is in
    record {
      xid = net.xid;
      packet = held.1;
      waited = waited_by (message_bytes net.xid (PacketOut held.1) ∷ []) told sends.waits;
      sent = refl;
      no_refusal = refl;
      notices = refl;
      was_in = sym (viewed held.0 net.views) ∙ joined;
      tables = λ e. ap (λ (k : Knows). rows_at e k.0.views) sends.taken ∙ came_tables sends.came first e ∙ ap (λ (ms : List (ℕ × List ℕ)). tables_behind ms (tables_of net.views) e) came_is;
      kept = ap (λ (k : Knows). k.0.kept) sends.taken ∙ all_kept sends.came first;
      queued = ap (λ (k : Knows). k.1) sends.taken ∙ came_events sends.came first ∙ ap (λ (ms : List (ℕ × List ℕ)). queue ++ all_events ms (tables_of net.views)) came_is;
    }

packet_lost : {Own Tells : Type 0} {packets : List Held} (held : Held) (old new : Seen Own) (net now_net : NetState) (queue now_queue : List Event) → Tells → LosesPacket Tells packets held old new net now_net queue now_queue → EndMove (holding_of old net queue) (holding_of new now_net now_queue)
packet_lost held old new net now_net queue now_queue told is =
    inr (inr (inr (subst (λ (q : List Event). Loses (holding_of old net queue) (holding_of new now_net q)) (sym is.queue_is)
    (loses_quietly held.0 old new net now_net queue told is.is_lost (ap (λ (n : NetState). n.views) is.net_is) (ap (λ (n : NetState). n.kept) is.net_is)))))

packet_moves : {Own Tells : Type 0} (held : Held) (sent : List Held) (old new : Seen Own) (net now_net : NetState) (queue now_queue : List Event) → Tells → ReleasesOne Tells held sent old new net now_net queue now_queue → EndMove (holding_of old net queue) (holding_of new now_net now_queue)
packet_moves held sent old new net now_net queue now_queue told (inl sends) = inr (inr (inl (packet_sent held old new net now_net queue now_queue told sends.1 sends.2)))
packet_moves held sent old new net now_net queue now_queue told (inr (inl over)) =
    inl (rests_so old new net now_net queue now_queue over.1.seen (ap (λ (n : NetState). n.views) over.1.net_is) (ap (λ (n : NetState). n.kept) over.1.net_is) over.1.queue_is)
packet_moves held sent old new net now_net queue now_queue told (inr (inr (inl lost))) = packet_lost held old new net now_net queue now_queue told lost.1
packet_moves held sent old new net now_net queue now_queue told (inr (inr (inr lost))) = packet_lost held old new net now_net queue now_queue told lost.1

all_move : {Own Tells : Type 0} (packets sent : List Held) (old new : Seen Own) (net now_net : NetState) (queue now_queue : List Event) → Tells → ReleasesAll Tells packets sent old new net now_net queue now_queue → OneByOne EndMove (holding_of old net queue) (holding_of new now_net now_queue)
all_move [] sent old new net now_net queue now_queue told all =
    rw (all.1, all.2, all.3) (no_move EndMove (holding_of old net queue) (holding_of old net queue) refl)
all_move (held ∷ more) sent old new net now_net queue now_queue told all =
    let behind = all.1.1.1 in
    let mid = behind.0 in let mid_net = behind.1.0 in let mid_queue = behind.1.1.0 in
    moves_then EndMove (holding_of old net queue) (holding_of mid mid_net mid_queue) (holding_of new now_net now_queue)
    (one_move EndMove (holding_of old net queue) (holding_of mid mid_net mid_queue) (packet_moves held all.0 old mid net mid_net queue mid_queue told behind.1.1.1.0))
    (all_move more all.1.0 mid new mid_net now_net mid_queue now_queue told behind.1.1.1.1)

-- ---- A turn that completed: the notices that it held become events, and its packets are released.

pub commit_moves : {Own Tells : Type 0} {start : ℕ} {sizes : List (ℕ × ℕ)} (old new : Seen Own) (net now_net : NetState) (queue now_queue : List Event) → Tells → Commits Tells start old new net now_net queue now_queue (Ok sizes) → OneByOne EndMove (holding_of old net queue) (holding_of new now_net now_queue)
commit_moves {start = start} old new net now_net queue now_queue told commits =
    let all = commits.ended in
    let noticed = queue ++ net.held.notices in
    moves_then EndMove (holding_of old net queue) (holding_of old (committed start net) noticed) (holding_of new now_net now_queue)
    (one_move EndMove (holding_of old net queue) (holding_of old (committed start net) noticed) (inr (inl (record { history = refl; tables = λ e. refl; kept = refl; events = net.held.notices; queued = refl }))))
    (all_move net.held.packets all.sent old new (committed start net) now_net noticed now_queue told all.all)
