-- Laws of a release, packet by packet: what stays, what is called, what is taken, and the packets one after the other.
use Rattle.std.specs.Prelude.{◌≡◌, ◌==◌, ℕ, Bool, true, false, not, ◌&&◌, ◌||◌, List, [], ◌∷◌, ◌++◌, map, filter, Ok, Err, refl}
use Rattle.std.proofs.Common.{sym, ap, ◌∙◌, subst, append_assoc, inl, inr}
use Rattle.std.proofs.lemmas.Bool.{cases_Bool}
use Rattle.std.proofs.lemmas.List.{append-nil, map-append}
use Rattle.of_wire.specs.declared.message.Message.{Message}
use Rattle.of_wire.specs.declared.message.Message.TheVariants as messages
use Rattle.of_wire.specs.Reading.{reading_of}
use Rattle.flow_table.specs.View.{TableView}
use Rattle.app_frames.specs.declared.frame.Event.{Event}
use Rattle.outside.specs.Seen.{Seen}
use Rattle.outside.specs.State.{state}
use Rattle.outside.specs.laws.SeenLaws.{Continues-refl, Continues-trans}
use Rattle.outside.specs.laws.InOrderLaws.{InOrder-before, messages-none, messages-then}
use Rattle.lego_model.specs.declared.fault.TxnFault.{TxnFault}
use Rattle.lego_model.specs.History.{lost_of}
use Rattle.lego_model.specs.Packets.{Held}
use Rattle.net_txn.specs.Losing.{lost_net, IsLost}
use Rattle.of_types.specs.Membership.{is_among}
use Rattle.net_txn.specs.Said.{Speaks}
use Rattle.net_txn.specs.laws.OwnIdLaws.{ids_none, ids_then, stops_then}
use Rattle.net_txn.specs.Undos.{AreJoined}
use Rattle.net_txn.specs.Views.{is_viewed}
use Rattle.net_txn.specs.Net.{NetState}
use Rattle.net_txn.specs.Arriving.{net_after}
use Rattle.net_txn.specs.Releases.{Knows, takes_read, takes_all, ReleasesOne, ReleasesAll}
use Rattle.net_txn.specs.ReleaseSteps.{StaysSo, CallsLinks, sent_by, size_of, ReleasedFront, ReleasesNoted, StopsBehind}
use Rattle.net_txn.specs.laws.LinkPresenceLaws.{stays_in, stays-none, stays-then}
use Rattle.net_txn.specs.laws.LostPartLaws.{among-append}
use Rattle.net_txn.specs.laws.LinkStepLaws.{OnLinks-refl, OnLinks-trans}
use Rattle.net_txn.specs.laws.LinkStrayLaws.{no_strays_none, no_strays_then}
use Rattle.net_txn.specs.laws.LostLaws.{losses_then}
use Rattle.net_txn.specs.laws.TalkLaws.{speaks_on, speaks_links, speaks_place}
use Rattle.net_txn.specs.laws.AbreastLaws.{arrival_viewed, forget-viewed, links-lost}
use Rattle.undo_laws.specs.laws.LookupLaws.{filter-same}
use Rattle.net_txn.specs.laws.LoseAllLaws.{turned}

-- ---- What stays

-- a kept message is not of these switches
abbrev pub stays_kept : List ℕ → ℕ × List ℕ → Bool
stays_kept lost m = not (is_among m.0 lost)

filter_two : {X : Type 0} (p q r : X → Bool) → ((x : X) → r x ≡ (p x && q x)) → (xs : List X) → filter q (filter p xs) ≡ filter r xs
filter_two p q r same [] = refl
filter_two p q r same (x ∷ xs) =
    elim (cases_Bool (p x)) [
      | inl stays ↦ elim (cases_Bool (q x)) [
        | inl also ↦ rw (same x, stays, also) (ap (λ (ys : List _). x ∷ ys) (filter_two p q r same xs))
        | inr goes ↦ rw (same x, stays, goes) (filter_two p q r same xs)
      ]
      | inr goes ↦ rw (same x, goes) (filter_two p q r same xs)
    ]

none_goes : (ms : List (ℕ × List ℕ)) → ms ≡ filter (stays_kept []) ms
none_goes [] = refl
none_goes (m ∷ ms) = ap (λ (xs : List (ℕ × List ℕ)). m ∷ xs) (none_goes ms)

pub stays_same : (net : NetState) → StaysSo [] net net
stays_same net = record { moment = refl; room = refl; kept = none_goes net.kept; switches = λ e. stays-none e (is_viewed e net.views) }

neither : (a b : Bool) → not (a || b) ≡ (not a && not b)
neither true b = refl
neither false b = refl

-- kept messages go of one list of switches, and then of another
kept_two : (xs ys : List ℕ) (ms : List (ℕ × List ℕ)) → filter (stays_kept ys) (filter (stays_kept xs) ms) ≡ filter (stays_kept (xs ++ ys)) ms
kept_two xs ys ms = filter_two (stays_kept xs) (stays_kept ys) (stays_kept (xs ++ ys)) (λ m. ap not (among-append m.0 xs ys) ∙ neither (is_among m.0 xs) (is_among m.0 ys)) ms

pub stays_then : (xs ys : List ℕ) (a b c : NetState) → StaysSo xs a b → StaysSo ys b c → StaysSo (xs ++ ys) a c
stays_then xs ys a b c first second = record {
  moment = second.moment ∙ first.moment;
  room = second.room ∙ first.room;
  kept = second.kept ∙ ap (filter (stays_kept ys)) first.kept ∙ kept_two xs ys a.kept;
  switches = λ e. second.switches e ∙ ap (stays_in e ys) (first.switches e) ∙ stays-then e xs ys (is_viewed e a.views);
}

pub stays_xid : (net : NetState) (xid : ℕ) → StaysSo [] net (record net { xid = xid })
stays_xid net xid = record { moment = refl; room = refl; kept = none_goes net.kept; switches = λ e. stays-none e (is_viewed e net.views) }

or_none : (b : Bool) → b ≡ (b || false)
or_none true = refl
or_none false = refl

-- of a switch that is lost nothing stays
one_goes : (d : ℕ) (ms : List (ℕ × List ℕ)) → filter (λ m. not (m.0 == d)) ms ≡ filter (stays_kept (d ∷ [])) ms
one_goes d ms = filter-same (λ (m : ℕ × List ℕ). not (m.0 == d)) (stays_kept (d ∷ [])) (λ m. ap not (turned m.0 d ∙ or_none (d == m.0))) ms

lost_stays : (d : ℕ) (net : NetState) → StaysSo (d ∷ []) net (lost_net d net)
lost_stays d net = record { moment = refl; room = refl; kept = one_goes d net.kept; switches = λ e. forget-viewed d e net.views }

pub stays_lost : (d : ℕ) (net now_net mid : NetState) → mid.moment ≡ net.moment → mid.room ≡ net.room → mid.kept ≡ net.kept → mid.views ≡ net.views → now_net ≡ lost_net d mid → StaysSo (d ∷ []) net now_net
stays_lost d net now_net mid moment room kept views is =
    let lost = lost_stays d mid in
    subst (λ (n : NetState). StaysSo (d ∷ []) net n) (sym is) (record {
      moment = lost.moment ∙ moment;
      room = lost.room ∙ room;
      kept = lost.kept ∙ ap (filter (stays_kept (d ∷ []))) kept;
      switches = λ e. lost.switches e ∙ ap (λ (vs : List TableView). stays_in e (d ∷ []) (is_viewed e vs)) views;
    })

record NewsStays (net now_net : NetState) : Type 0 where
  moment : now_net.moment ≡ net.moment
  room : now_net.room ≡ net.room
  kept : now_net.kept ≡ net.kept

news_stays : (d : ℕ) (m : Message) (net : NetState) → NewsStays net (net_after d m net)
news_stays d (messages.FlowRemoved f) net = record { moment = refl; room = refl; kept = refl }
news_stays d (messages.PortStatus status) net = record { moment = refl; room = refl; kept = refl }
news_stays d (messages.Hello payload) net = record { moment = refl; room = refl; kept = refl }
news_stays d (messages.Error kind code payload) net = record { moment = refl; room = refl; kept = refl }
news_stays d (messages.EchoRequest payload) net = record { moment = refl; room = refl; kept = refl }
news_stays d (messages.EchoReply payload) net = record { moment = refl; room = refl; kept = refl }
news_stays d (messages.Vendor payload) net = record { moment = refl; room = refl; kept = refl }
news_stays d messages.FeaturesRequest net = record { moment = refl; room = refl; kept = refl }
news_stays d (messages.FeaturesReply features) net = record { moment = refl; room = refl; kept = refl }
news_stays d messages.GetConfigRequest net = record { moment = refl; room = refl; kept = refl }
news_stays d (messages.GetConfigReply config) net = record { moment = refl; room = refl; kept = refl }
news_stays d (messages.SetConfig config) net = record { moment = refl; room = refl; kept = refl }
news_stays d (messages.PacketIn packet) net = record { moment = refl; room = refl; kept = refl }
news_stays d (messages.PacketOut packet) net = record { moment = refl; room = refl; kept = refl }
news_stays d (messages.FlowMod m) net = record { moment = refl; room = refl; kept = refl }
news_stays d (messages.PortMod port) net = record { moment = refl; room = refl; kept = refl }
news_stays d (messages.StatsRequest m) net = record { moment = refl; room = refl; kept = refl }
news_stays d (messages.StatsReply m) net = record { moment = refl; room = refl; kept = refl }
news_stays d messages.BarrierRequest net = record { moment = refl; room = refl; kept = refl }
news_stays d messages.BarrierReply net = record { moment = refl; room = refl; kept = refl }
news_stays d (messages.QueueGetConfigRequest payload) net = record { moment = refl; room = refl; kept = refl }
news_stays d (messages.QueueGetConfigReply payload) net = record { moment = refl; room = refl; kept = refl }

pub stays_news : (d : ℕ) (m : Message) (net now_net : NetState) → now_net ≡ net_after d m net → StaysSo [] net now_net
stays_news d m net now_net is =
    let n = news_stays d m net in
    subst (λ (x : NetState). StaysSo [] net x) (sym is) (record {
      moment = n.moment;
      room = n.room;
      kept = n.kept ∙ none_goes net.kept;
      switches = λ e. arrival_viewed d e m net ∙ stays-none e (is_viewed e net.views);
    })

pub stays_by : (net now_net : NetState) → now_net ≡ net → StaysSo [] net now_net
stays_by net now_net is = subst (λ (x : NetState). StaysSo [] net x) (sym is) (stays_same net)

-- ---- What is called

none_more : (ds : List ℕ) (now : List ℕ) → now ≡ ds → now ≡ ds ++ []
none_more ds now same = same ∙ sym (append-nil ds)

pub calls_none : {Own : Type 0} (Tells : Type 0) (views : List TableView) (seen : Seen Own) → CallsLinks Tells [] views seen seen
calls_none Tells views seen = record {
  continues = Continues-refl Tells seen;
  links = OnLinks-refl Tells seen;
  no_strays = λ told order joined. no_strays_none seen;
  losses = λ told joined. sym (append-nil (lost_of seen));
}

pub calls_one : {Own : Type 0} {Tells : Type 0} {xid most : ℕ} (d : ℕ) (views : List TableView) (old new : Seen Own) → is_viewed d views ≡ true → Speaks Tells d xid most old new → (Tells → lost_of new ≡ lost_of old) → CallsLinks Tells [] views old new
calls_one d views old new viewed s none = record {
  continues = speaks_on s;
  links = speaks_links s;
  no_strays = λ told order joined. speaks_place s told order (joined d viewed);
  losses = λ told joined. none_more (lost_of old) (lost_of new) (none told);
}

pub calls_lost : {Own : Type 0} {Tells : Type 0} {xid most : ℕ} (d : ℕ) (views : List TableView) (old new : Seen Own) (packets : List Held) → is_viewed d views ≡ true → Speaks Tells d xid most old new → IsLost Tells d packets old new → CallsLinks Tells (d ∷ []) views old new
calls_lost d views old new packets viewed s lost = record {
  continues = speaks_on s;
  links = speaks_links s;
  no_strays = λ told order joined. speaks_place s told order (joined d viewed);
  losses = λ told joined. (let o = lost.out told (joined d viewed) in losses_then old new o.steps o.history ∙ ap (λ (ds : List ℕ). lost_of old ++ ds) o.lost);
}

-- what has a view behind the calls had one before, and was not lost
viewed_before : (e : ℕ) (lost : List ℕ) (b : Bool) → stays_in e lost b ≡ true → (b ≡ true) × (stays_in e lost true ≡ true)
viewed_before e lost true is = (refl, is)
viewed_before e lost false is = absurd cc

pub calls_then : {Own : Type 0} {Tells : Type 0} (xs ys : List ℕ) (net mid_net : NetState) (old mid new : Seen Own) → StaysSo xs net mid_net → CallsLinks Tells xs net.views old mid → CallsLinks Tells ys mid_net.views mid new → CallsLinks Tells (xs ++ ys) net.views old new
calls_then {Tells = Tells} xs ys net mid_net old mid new stays first second =
    let there : Tells → AreJoined net.views (state old) → AreJoined mid_net.views (state mid) = λ told joined d viewed. (
    let was = viewed_before d xs (is_viewed d net.views) (sym (stays.switches d) ∙ viewed) in
    links-lost xs first.continues (first.links told) (first.losses told joined) d ∙ ap (stays_in d xs) (joined d was.0) ∙ was.1) in
    record {
      continues = Continues-trans Tells old mid new first.continues second.continues;
      links = OnLinks-trans Tells old mid new first.links second.links;
      no_strays = λ told order joined.
          no_strays_then old mid new told first.continues second.continues (first.no_strays told (InOrder-before told second.continues order) joined) (second.no_strays told order (there told joined));
      losses = λ told joined. second.losses told (there told joined) ∙ ap (λ (ds : List ℕ). ds ++ ys) (first.losses told joined) ∙ append_assoc (lost_of old) xs ys;
    }

-- ---- What is taken

pub takes_more : (front : List (ℕ × List ℕ)) (d : ℕ) (bytes : List ℕ) (k : Knows) → takes_all (front ++ (d, bytes) ∷ []) k ≡ takes_read d (reading_of bytes) (takes_all front k)
takes_more [] d bytes k = refl
takes_more (m ∷ ms) d bytes k = takes_more ms d bytes (takes_read m.0 (reading_of m.1) k)

-- ---- One after the other

pub all_more : {Own : Type 0} (Tells : Type 0) (front sent : List Held) (held : Held) (one_sent : List Held) (old mid new : Seen Own) (net mid_net now_net : NetState) (queue mid_queue now_queue : List Event) → ReleasesAll Tells front sent old mid net mid_net queue mid_queue
    → ReleasesOne Tells held one_sent mid new mid_net now_net mid_queue now_queue → ReleasesAll Tells (front ++ held ∷ []) (sent ++ one_sent) old new net now_net queue now_queue
all_more Tells [] sent held one_sent old mid new net mid_net now_net queue mid_queue now_queue before one =
    let a = subst (λ (x : Seen _). ReleasesOne Tells held one_sent x new mid_net now_net mid_queue now_queue) before.1 one in
    let b = subst (λ (x : NetState). ReleasesOne Tells held one_sent old new x now_net mid_queue now_queue) before.2 a in
    let c = subst (λ (x : List Event). ReleasesOne Tells held one_sent old new net now_net x now_queue) before.3 b in
    let none : sent ++ one_sent ≡ one_sent ++ [] = ap (λ (hs : List Held). hs ++ one_sent) before.0 ∙ sym (append-nil one_sent) in
    (one_sent, ([], (none, (new, (now_net, (now_queue, (c, (refl, refl, refl, refl))))))))
all_more Tells (h ∷ hs) sent held one_sent old mid new net mid_net now_net queue mid_queue now_queue (first, (later, (split, (mid1, (net1, (queue1, (head, rest))))))) one =
    (first, (later ++ one_sent, (ap (λ (xs : List Held). xs ++ one_sent) split ∙ append_assoc first later one_sent, (mid1, (net1, (queue1, (head, all_more Tells hs later held one_sent mid1 mid new net1 mid_net now_net queue1 mid_queue now_queue rest one)))))))

pub front_none : {Own : Type 0} (Tells : Type 0) (seen : Seen Own) (net : NetState) (queue : List Event) → ReleasedFront Tells [] seen seen net net queue queue []
front_none Tells seen net queue = record { lost = []; stays = stays_same net; calls = calls_none Tells net.views seen; read = λ told. messages-none seen; ids = ids_none Tells 0 seen net.xid net.xid refl; sent = []; all = (refl, refl, refl, refl); sizes_is = refl }

pub front_more : {Own : Type 0} {Tells : Type 0} (front : List Held) (held : Held) (old mid new : Seen Own) (net mid_net now_net : NetState) (queue mid_queue now_queue : List Event) (sizes now_sizes : List (ℕ × ℕ)) → ReleasedFront Tells front old mid net mid_net queue mid_queue sizes
    → ReleasesNoted Tells held mid new mid_net now_net mid_queue now_queue sizes now_sizes (Ok tt) → ReleasedFront Tells (front ++ held ∷ []) old new net now_net queue now_queue now_sizes
front_more {Tells = Tells} front held old mid new net mid_net now_net queue mid_queue now_queue sizes now_sizes before (was_sent, (one, noted)) =
    let more = sent_by was_sent held in
    record {
      lost = before.lost ++ one.lost;
      stays = stays_then before.lost one.lost net mid_net now_net before.stays one.stays;
      calls = calls_then before.lost one.lost net mid_net old mid new before.stays before.calls one.calls;
      read = λ told. messages-then old mid new told before.calls.continues one.calls.continues (before.read told) (one.read refl told);
      ids = ids_then one.calls.continues before.ids one.ids;
      sent = before.sent ++ more;
      all = all_more Tells front before.sent held more old mid new net mid_net now_net queue mid_queue now_queue before.all one.does;
      sizes_is = noted ∙ ap (λ (ss : List (ℕ × ℕ)). ss ++ map size_of more) before.sizes_is ∙ sym (map-append size_of before.sent more);
    }

pub stops_behind : {Own : Type 0} {Tells : Type 0} (all front : List Held) (held : Held) (rest : List Held) (old mid new : Seen Own) (net mid_net now_net : NetState) (queue mid_queue now_queue : List Event) (sizes now_sizes : List (ℕ × ℕ)) (fault : TxnFault) → all ≡ front ++ held ∷ rest
    → ReleasedFront Tells front old mid net mid_net queue mid_queue sizes → ReleasesNoted Tells held mid new mid_net now_net mid_queue now_queue sizes now_sizes (Err fault) → StopsBehind Tells all old new net now_net queue fault
stops_behind all front held rest old mid new net mid_net now_net queue mid_queue now_queue sizes now_sizes fault split before one = record {
  lost = before.lost ++ one.lost;
  stays = stays_then before.lost one.lost net mid_net now_net before.stays one.stays;
  calls = calls_then before.lost one.lost net mid_net old mid new before.stays before.calls one.calls;
  ids = stops_then one.calls.continues before.ids one.ids;
  front = front;
  broken = held;
  rest = rest;
  held_is = split;
  sent = before.sent;
  mid = mid;
  mid_net = mid_net;
  mid_queue = mid_queue;
  before = before.all;
  breaks = one.does;
}

-- ---- Steps of a loop over a list that is taken apart

pub yielded_more : {X : Type 0} (all front rest later : List X) (x : X) → all ≡ front ++ rest → rest ≡ x ∷ later → all ≡ (front ++ x ∷ []) ++ later
yielded_more all front rest later x split step = split ∙ ap (λ (xs : List _). front ++ xs) step ∙ sym (append_assoc front (x ∷ []) later)

pub yielded_here : {X : Type 0} (all front rest later : List X) (x : X) → all ≡ front ++ rest → rest ≡ x ∷ later → all ≡ front ++ x ∷ later
yielded_here all front rest later x split step = split ∙ ap (λ (xs : List _). front ++ xs) step
