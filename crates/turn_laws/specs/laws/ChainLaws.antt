-- What follows of the beats of a turn in a world that keeps its word: its messages were answered as the reference controller answers them,
-- which loses the same switches at them, and its switches stand then as the world's do.
use Rattle.std.proofs.Common.{◌≡◌, ℕ, Bool, true, List, [], ◌∷◌, ◌++◌, length, Option, refl, sym, ap, ap₂, ◌∙◌, subst, append_assoc, true≢false}
use Rattle.std.proofs.lemmas.List.{append-nil, append_cancel_left}
use Rattle.std.specs.Option.{option_map}
use Rattle.of_types.specs.declared.journal.Act.{Act}
use Rattle.of_types.specs.declared.journal.Act.TheVariants.{Stim, Started, Gave, Gone, Took, Ended, Sent, Got, Lost}
use Rattle.flow_table.specs.View.{TableView}
use Rattle.flow_table.specs.Switch.{Declared, SwitchState}
use Rattle.undo_laws.specs.CorrectedSwitch.{corrected_switch}
use Rattle.app_frames.specs.declared.frame.Answer.{Answer}
use Rattle.app_frames.specs.declared.frame.Event.{Event}
use Rattle.lego_model.specs.History.{lost_of}
use Rattle.lego_model.specs.Answers.{rows_of_table}
use Rattle.lego_model.specs.Journal.{is_of, give_act}
use Rattle.lego_model.specs.Places.{Place}
use Rattle.lego_model.specs.Packets.{Play, play}
use Rattle.lego_model.specs.Controller.{leavers, table_of}
use Rattle.outside.specs.Seen.{Given, Seen}
use Rattle.outside.specs.State.{State, state, after_act, after_step}
use Rattle.outside.specs.laws.StateLaws.{state-append, Conforming-before}
use Rattle.outside.specs.Conforming.{Conforming}
use Rattle.net_txn.specs.Net.{NetState}
use Rattle.net_txn.specs.Answering.{known_rows}
use Rattle.net_txn.specs.ChangeSteps.{Agrees}
use Rattle.app_visor.specs.declared.state.TurnEnd.{TurnEnd}
use Rattle.app_visor.specs.Talks.{step_of, Told}
use Rattle.app_visor.specs.Beats.{Exchange, IsExchange, Beat, Talk, Asks, Chain, exchanges_in}
use Rattle.app_visor.specs.laws.BeatLaws.{Chain-continues}
use Rattle.app_visor.specs.Turns.{reply_by, Turns, Agrees as AnswersSo}
use Rattle.app_visor.specs.laws.TableLaws.{turn_alike}
use Rattle.switch_laws.specs.Shown.{shown_switch, shown_places, corrections, shown_by}
use Rattle.switch_laws.specs.laws.ShownExchangeLaws.{exchange-shown}
use Rattle.switch_laws.specs.Lost.{LeavesBy, shown_play}
use Rattle.switch_laws.specs.Released.{LosesNone}
use Rattle.switch_laws.specs.Since.{ports_known, Ready, Goes}
use Rattle.switch_laws.specs.laws.LossLaws.{losses-still, leaves-none, leaves-then, leavers-append}
use Rattle.switch_laws.specs.laws.SinceLaws.{begun, goes-on}
use Rattle.turn_laws.specs.Chain.{play_at, Leads, PlayedAlike}
use Rattle.switch_laws.specs.laws.PlaceLaws.{places-same}
use Rattle.switch_laws.specs.laws.LinkLaws.{links_switch, links_waits}

-- ---- Calls for an application move no switch

talk-links : (app : ℕ) (act : Act) → is_of app act ≡ true → (s : State) → (after_step (step_of act) s).links ≡ s.links
unfolding after_step after_act
talk-links app (Stim x) is s = absurd (true≢false (sym is))
talk-links app (Started of ok) is s = refl
talk-links app (Gave of bytes) is s = refl
talk-links app (Gone of bytes) is s = refl
talk-links app (Took of what) is s = refl
talk-links app (Ended of) is s = refl
talk-links app (Sent d bytes) is s = absurd (true≢false (sym is))
talk-links app (Got d bytes) is s = absurd (true≢false (sym is))
talk-links app (Lost d) is s = absurd (true≢false (sym is))

talk-loses-none : (app : ℕ) (act : Act) → is_of app act ≡ true → LosesNone (step_of act ∷ [])
talk-loses-none app (Stim x) is = absurd (true≢false (sym is))
talk-loses-none app (Started of ok) is = (refl, tt)
talk-loses-none app (Gave of bytes) is = (refl, tt)
talk-loses-none app (Gone of bytes) is = (refl, tt)
talk-loses-none app (Took of what) is = (refl, tt)
talk-loses-none app (Ended of) is = (refl, tt)
talk-loses-none app (Sent d bytes) is = absurd (true≢false (sym is))
talk-loses-none app (Got d bytes) is = absurd (true≢false (sym is))
talk-loses-none app (Lost d) is = absurd (true≢false (sym is))

-- nor do they lose one
pub losses-then : {Own : Type 0} (Tells : Type 0) (app : ℕ) (act : Act) (old new : Seen Own) → Tells → is_of app act ≡ true → Told Tells act old new → lost_of new ≡ lost_of old
losses-then Tells app act old new told is t = losses-still old new (step_of act ∷ []) (t.history told) (talk-loses-none app act is)

pub links-then : {Own : Type 0} (Tells : Type 0) (app : ℕ) (act : Act) (old new : Seen Own) → Tells → is_of app act ≡ true → Told Tells act old new → (state new).links ≡ (state old).links
links-then Tells app act old new told is t =
    ap (λ (s : State). s.links) (state-append old new (step_of act ∷ []) t.continues.given (t.history told)) ∙ talk-links app act is (state old)

-- the reference controller's switches stay where links do
pub shown-same : (declared : List Declared) (views : List TableView) (s t : State) → t.links ≡ s.links → shown_places declared (corrections views) t ≡ shown_places declared (corrections views) s
unfolding shown_places
shown-same declared views s t same =
    places-same (shown_switch (corrections views) t) (shown_switch (corrections views) s)
    (λ d. ap (λ (o : Option SwitchState). option_map_shown views d o) (links_switch d s t same)) declared
  where
    option_map_shown : List TableView → ℕ → Option SwitchState → Option SwitchState
    option_map_shown vs d o = option_map (corrected_switch (corrections vs d)) o

agrees-same : (d : ℕ) (views : List TableView) (s t : State) → t.links ≡ s.links → Agrees d views s → Agrees d views t
agrees-same d views s t same agrees = subst (λ (o : Option SwitchState). known_rows d views ≡ option_map (λ x. rows_of_table x.table.entries) o) (sym (links_switch d s t same)) agrees

-- all stays ready, and the transaction stands
pub goes-same : {Own : Type 0} (start : ℕ) (lost : List ℕ) (first old new : Seen Own) (net0 net : NetState) → new.given ≡ old.given → (state new).links ≡ (state old).links → lost_of new ≡ lost_of old → Goes start lost first old net0 net
    → Goes start lost first new net0 net
goes-same start lost first old new net0 net given same none_lost goes = record {
  since = record {
    started = goes.since.started;
    given = given ∙ goes.since.given;
    moment = goes.since.moment;
    kept = goes.since.kept;
    views = goes.since.views;
    losses = none_lost ∙ goes.since.losses;
    joined = λ d s stays is. let j = goes.since.joined d s stays is in record { switch = j.switch; stands = links_switch d (state old) (state new) same ∙ j.stands; since = j.since };
    lost_out = λ d is. links_switch d (state old) (state new) same ∙ goes.since.lost_out d is;
    out = λ d is. links_switch d (state old) (state new) same ∙ goes.since.out d is;
  };
  ready = record {
    waits = λ d. links_waits d (state old) (state new) same ∙ goes.ready.waits d;
    agrees = λ d. agrees-same d net.views (state old) (state new) same (goes.ready.agrees d);
    known = λ d. goes.ready.known d ∙ sym (ap (ports_known d) (links_switch d (state old) (state new) same));
  };
}

-- ---- One message

-- what one message leads to
record LeadsOne {Own : Type 0} (start : ℕ) (lost : List ℕ) (first : Seen Own) (net0 : NetState) (old : Seen Own) (net : NetState) (x : Exchange Own) : Type 0 where
  flag : Bool
  left : List Event
  leaves : LeavesBy old x.after net x.now_net left
  goes : Goes start (lost ++ leavers left) first x.after net0 x.now_net
  played : (losing : List Bool) (before : List Event) → play (play_at first old net (flag ∷ losing) before) x.dpid x.bytes ≡ (x.answer, play_at first x.after x.now_net losing (before ++ left))

leads-one : {Own : Type 0} (Tells : Type 0) (start : ℕ) (lost : List ℕ) (first : Seen Own) (net0 : NetState) (x : Exchange Own) → Tells → Conforming x.after → IsExchange Tells x → Goes start lost first x.before net0 x.net
    → LeadsOne start lost first net0 x.before x.net x
leads-one {Own} Tells start lost first net0 x told keeps is goes =
    let shown = exchange-shown Tells x.dpid x.bytes x.before x.after x.net x.now_net x.answer told keeps is.changes goes.ready in
    let on = goes-on Tells x.dpid x.bytes start lost first x.before x.after net0 x.net x.now_net x.answer told keeps is.changes goes in
    let same : on.more ≡ leavers shown.left = append_cancel_left (lost_of x.before) on.more (leavers shown.left) (sym on.losses ∙ shown.leaves.lost_is) in
    let declared : x.before.given.declared ≡ first.given.declared = ap (λ (g : Given _). g.declared) goes.since.given in
    record {
      flag = shown.lost;
      left = shown.left;
      leaves = shown.leaves;
      goes = subst (λ (ds : List ℕ). Goes start (lost ++ ds) first x.after net0 x.now_net) same on.goes;
      played = λ losing before.
          subst (λ (ds : List Declared). play (shown_play ds x.before x.net (shown.lost ∷ losing) before) x.dpid x.bytes ≡ (x.answer, shown_play ds x.after x.now_net losing (before ++ shown.left))) declared (shown.played losing before);
    }

-- ---- The beats

pub chain-shown : {Own : Type 0} (Tells : Type 0) (app : ℕ) (allows : List Place → Bool) (start : ℕ) (lost : List ℕ) (first : Seen Own) (net0 : NetState) (trace : List (Beat Own)) (old new : Seen Own) (net now_net : NetState) → Tells → Conforming new
    → Chain Tells app trace old new net now_net → Goes start lost first old net0 net → Leads allows start lost first old new net0 net now_net (exchanges_in trace)
chain-shown Tells app allows start lost first net0 [] old new net now_net told keeps chain goes = record {
  messages = [];
  left = [];
  leaves = leaves-none old new net now_net (ap (λ (n : NetState). n.left) chain.1) (ap (λ (s : Seen _). lost_of s) chain.0);
  answers = λ before. ap (λ (left : List Event). play_at first new now_net [] left) (append-nil before) ∙ ap₂ (λ (n : NetState) (s : Seen _). play_at first s n [] before) chain.1 chain.0;
  goes = subst (λ (ds : List ℕ). Goes start ds first new net0 now_net) (sym (append-nil lost))
      (subst (λ (n : NetState). Goes start lost first new net0 n) (sym chain.1) (subst (λ (s : Seen _). Goes start lost first s net0 net) (sym chain.0) goes));
}
chain-shown Tells app allows start lost first net0 (Talk act ∷ trace) old new net now_net told keeps chain goes =
    let next = chain.1.0 in
    let t = chain.1.1.0 in
    let same = links-then Tells app act old next told chain.0 t in
    let none_lost = losses-then Tells app act old next told chain.0 t in
    let rest = chain-shown Tells app allows start lost first net0 trace next new net now_net told keeps chain.1.1.1 (goes-same start lost first old next net0 net t.continues.given same none_lost goes) in
    record {
      messages = rest.messages;
      left = rest.left;
      leaves = leaves-then old next new net net now_net [] rest.left (leaves-none old next net net refl none_lost) rest.leaves;
      answers = λ before.
          subst (λ (ps : List Place). AnswersSo (table_of allows) (exchanges_in trace) (record { places = ps; held = net.held; losing = rest.messages; inner = []; left = before }) (play_at first new now_net [] (before ++ rest.left)))
          (shown-same first.given.declared net.views (state old) (state next) same) (rest.answers before);
      goes = rest.goes;
    }
chain-shown {Own} Tells app allows start lost first net0 (Asks x ∷ trace) old new net now_net told keeps chain goes =
    let later = Chain-continues Tells app trace x.after new x.now_net now_net chain.1.1 in
    let here = subst (λ (n : NetState). Goes start lost first x.before net0 n) (sym chain.0.1) (subst (λ (s : Seen _). Goes start lost first s net0 net) (sym chain.0.0) goes) in
    let one : LeadsOne start lost first net0 old net x =
    subst (λ (n : NetState). LeadsOne start lost first net0 old n x) chain.0.1
    (subst (λ (s : Seen _). LeadsOne start lost first net0 s x.net x) chain.0.0 (leads-one Tells start lost first net0 x told (Conforming-before told later keeps) chain.1.0 here)) in
    let rest = chain-shown Tells app allows start (lost ++ leavers one.left) first net0 trace x.after new x.now_net now_net told keeps chain.1.1 one.goes in
    record {
      messages = one.flag ∷ rest.messages;
      left = one.left ++ rest.left;
      leaves = leaves-then old x.after new net x.now_net now_net one.left rest.left one.leaves rest.leaves;
      answers = λ before. (
        ap (λ (p : Answer × Play). p.0) (one.played rest.messages before),
        subst (λ (p : Play). AnswersSo (table_of allows) (exchanges_in trace) p (play_at first new now_net [] (before ++ (one.left ++ rest.left)))) (sym (ap (λ (p : Answer × Play). p.1) (one.played rest.messages before)))
            (subst (λ (left : List Event). AnswersSo (table_of allows) (exchanges_in trace) (play_at first x.after x.now_net rest.messages (before ++ one.left)) (play_at first new now_net [] left)) (append_assoc before one.left rest.left)
            (rest.answers (before ++ one.left))),
      );
      goes = subst (λ (ds : List ℕ). Goes start ds first new net0 now_net)
          (append_assoc lost (leavers one.left) (leavers rest.left) ∙ ap (λ (ds : List ℕ). lost ++ ds) (sym (leavers-append one.left rest.left))) rest.goes;
    }

-- ---- A turn

pub turn-shown : {Own : Type 0} (Tells : Type 0) (accepts : List TableView → Bool) (allows : List Place → Bool) (app budget : ℕ) (rest frame : List ℕ) (old new : Seen Own) (net now_net : NetState) (end : TurnEnd) (unread : List ℕ) → Tells → Conforming new → Ready old net
    → (t : Turns Tells accepts app budget rest frame old new net now_net end unread)
    → ((lost : List ℕ) → Goes (length net.log) lost old new net now_net → allows (shown_places old.given.declared (shown_by now_net) (state new)) ≡ accepts now_net.views)
    → PlayedAlike allows budget rest (reply_by t.given t.trace) old new net now_net t.answers t.outcome
turn-shown Tells accepts allows app budget rest frame old new net now_net end unread told keeps ready t judges =
    let first : Goes (length net.log) [] old old net net = record { since = begun old net; ready = ready } in
    let leads = chain-shown Tells app allows (length net.log) [] old net (Talk (give_act t.given app frame) ∷ t.trace) old new net now_net told keeps t.chain first in
    record {
      messages = leads.messages;
      left = leads.left;
      leaves = leads.leaves;
      goes = leads.goes;
      played = turn_alike (table_of allows) (play_at old old net leads.messages []) (play_at old new now_net [] leads.left) t (leads.answers []) (judges (leavers leads.left) leads.goes);
    }
