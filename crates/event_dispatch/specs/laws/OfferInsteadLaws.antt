-- Laws of an event that an application has with what it is given in place of it, where its turn at it failed.
use Rattle.std.specs.Prelude.{MatchResult, Result, Ok, Err}
use Rattle.std.specs.List.{AllByRecursion, list_all}
use Rattle.std.proofs.Common.{◌≡◌, ◌==◌, ◌<◌, ◌≤◌, ◌^◌, ◌||◌, ℕ, Bool, true, false, List, [], ◌∷◌, ◌++◌, length, refl, sym, ap, ◌∙◌, subst, append_assoc, inl, inr, arith, true≢false}
use Rattle.std.proofs.lemmas.Bool.{and_parts, leb-true, eqb-true}
use Rattle.std.proofs.lemmas.List.{append-nil}
use Rattle.flow_table.specs.View.{TableView}
use Rattle.app_frames.specs.declared.frame.Event.{Event}
use Rattle.app_frames.specs.declared.frame.HostFrame.TheVariants as host
use Rattle.app_frames.specs.Frames.{HostFits}
use Rattle.checkpoint_store.specs.Slots.{Slot}
use Rattle.crash_policy.specs.Asking.{rule_at}
use Rattle.crash_policy.specs.Policies.{AppValue, app_value}
use Rattle.crash_policy.specs.declared.policy_file.Policy.{Policy}
use Rattle.crash_policy.specs.declared.policy_file.Policy.TheVariants as policy
use Rattle.lego_model.specs.Controller.{event_frame, instead_by}
use Rattle.journal_laws.specs.laws.FrameLaws.{event_is}
use Rattle.outside.specs.Conforming.{Conforming}
use Rattle.outside.specs.InOrder.{InOrder}
use Rattle.outside.specs.Seen.{Seen, Continues}
use Rattle.outside.specs.laws.SeenLaws.{Continues-trans}
use Rattle.outside.specs.laws.StateLaws.{Conforming-before}
use Rattle.outside.specs.laws.InOrderLaws.{InOrder-before}
use Rattle.net_txn.specs.Net.{NetState}
use Rattle.app_visor.specs.declared.state.AppState.{AppState}
use Rattle.app_visor.specs.declared.state.TurnEnd.{TurnEnd}
use Rattle.app_visor.specs.declared.state.TurnEnd.TheVariants as ends
use Rattle.app_visor.specs.Attempts.{kept_of}
use Rattle.app_visor.specs.CallsFor.{CallsFor, CalmLater, OwnSteps}
use Rattle.app_visor.specs.laws.BeatLaws.{Leads-continues}
use Rattle.app_visor.specs.laws.CalmLaws.{calls_then}
use Rattle.switch_laws.specs.Since.{Ready}
use Rattle.turn_laws.specs.laws.FaultLaws.{turn-leads}
use Rattle.turn_laws.specs.Failed.{TurnFailed}
use Rattle.turn_laws.specs.laws.FailedLaws.{failed-ready, failed-sound, failed-conforms, failed-undone, failed-stay, failed-acts}
use Rattle.run_course.specs.Points.{was_given}
use Rattle.run_course.specs.TurnsLeft.{EventLeft}
use Rattle.run_laws.specs.Engine.{Focus}
use Rattle.run_laws.specs.Facts.{Follows, TakesTurn, is_taking, says_stop, end_fails, instead_if, TakesInstead, TakesEvent}
use Rattle.run_laws.specs.Moves.{IsAtRest}
use Rattle.run_laws.specs.laws.AgainLaws.{turn_given, given_longer}
use Rattle.run_laws.specs.laws.DialogueLaws.{turn_converses}
use Rattle.run_laws.specs.laws.InsteadTurnLaws.{turn_counts, failed_if, whole_if, turn_only}
use Rattle.run_laws.specs.laws.LastPointLaws.{last_point_of, last_point_then}
use Rattle.event_dispatch.specs.declared.closing.Closing.{Closing}
use Rattle.event_dispatch.specs.declared.closing.Closing.TheVariants as closings
use Rattle.event_dispatch.specs.declared.engine_core.Core.{Core}
use Rattle.event_dispatch.specs.declared.fault.Fault.{Fault}
use Rattle.event_dispatch.specs.declared.fault.Fault.TheVariants as faults
use Rattle.event_dispatch.specs.declared.run.Managed.{Managed}
use Rattle.event_dispatch.specs.Cut.{IsOfTurn}
use Rattle.event_dispatch.specs.EventParts.{OfferDone, OfferStops}
use Rattle.event_dispatch.specs.GroupParts.{QuietAgain, GroupFails, GroupNoted, GroupTaken, TalksBehind, is_carried, InsteadDone, InsteadFails}
use Rattle.event_dispatch.specs.Runs.{CoreGoes}
use Rattle.event_dispatch.specs.Serves.{end_of, Closes}
use Rattle.event_dispatch.specs.Shows.{application_of, focus_of, played_core, played_app}
use Rattle.event_dispatch.specs.Steady.{OwnPoint}
use Rattle.event_dispatch.specs.Stored.{KeepsOthers, HoldsTurn}
use Rattle.event_dispatch.specs.TurnParts.{TurnDone}
use Rattle.event_dispatch.specs.Undone.{IsShort}
use Rattle.event_dispatch.specs.Why.{served_by}
use Rattle.event_dispatch.specs.laws.LeftLaws.{undone_is, undone_then, in_telling}
use Rattle.event_dispatch.specs.laws.NoEventLaws.{no_event_none}
use Rattle.event_dispatch.specs.laws.OfferLaws.{offer_had, taking_alive, takes_of}
use Rattle.event_dispatch.specs.laws.PlainLaws.{ends_behind}
use Rattle.event_dispatch.specs.laws.TurnLaws.{turn_is}
use Rattle.event_dispatch.specs.laws.WhyLaws.{why_then}

-- ---- Where a turn failed

follows_net : {Own : Type 0} (Tells : Type 0) (rule : Policy) (text : List ℕ) (old new : Seen Own) (e now_e : Focus) → Follows Tells rule text old new e now_e → now_e.net ≡ e.net
follows_net Tells policy.None text old new e now_e f = ap (λ (x : Focus). x.net) f.engine
follows_net Tells policy.Absolute text old new e now_e f = ap (λ (x : Focus). x.net) f.engine
follows_net Tells policy.Equivalence text old new e now_e f = ap (λ (x : Focus). x.net) f.engine

-- what a turn leaves that was held and closed
pub turn_done_so : {Own : Type 0} (Tells : Type 0) (accepts : List TableView → Bool) (event : Event) (closing : Closing) (stops : Bool) (old mid new : Seen Own) (net : NetState) (queue : List Event) (app : AppState) (slots : List Slot) (c now_c : Core) (m now_m : Managed)
    → HoldsTurn Tells accepts m.state.index m.rule.now.budget c.events event closing old mid c.net net c.queue queue m.state.rest app.rest (kept_of m.state.index c.store) (kept_of m.state.index slots) → app.index ≡ m.state.index → app.alive ≡ m.state.alive → stops ≡ says_stop (end_of closing)
    → Closes Tells event.kind closing mid new (played_core net queue slots c) now_c (played_app app m) now_m → CoreGoes now_c → now_c.events ≡ c.events → KeepsOthers m.state.index c.store now_c.store → now_m.state.index ≡ m.state.index → now_m.rule ≡ m.rule
    → Continues Tells mid new → (Tells → OwnSteps m.state.index mid new) → TurnDone Tells accepts event stops old new c now_c m now_m
turn_done_so Tells accepts event (closings.Done stop out) stops old mid new net queue app slots c now_c m now_m holds index alive stops_is closes goes events others now_index rule later own = record {
  goes = goes;
  events = events;
  others = others;
  index = now_index;
  rule = rule;
  turn = turn_is Tells accepts event (closings.Done stop out) stops old mid new net queue app slots c now_c m now_m holds index alive stops_is closes;
  behind = λ other. absurd (other (ap (λ (x : Focus). x.failed) closes.engine));
}
turn_done_so Tells accepts event (closings.Failed cause) stops old mid new net queue app slots c now_c m now_m holds index alive stops_is closes goes events others now_index rule later own = record {
  goes = goes;
  events = events;
  others = others;
  index = now_index;
  rule = rule;
  turn = turn_is Tells accepts event (closings.Failed cause) stops old mid new net queue app slots c now_c m now_m holds index alive stops_is closes;
  behind = λ other. record {
    mid = holds.plays.mid;
    mid_net = holds.plays.mid_net;
    cause = cause;
    unread = app.rest;
    turns = holds.plays.turns;
    undone = mid;
    undone_net = net;
    undoes = holds.plays.played.0;
    later = later;
    own = own;
    net_is = follows_net Tells (rule_at (app_value m.rule.now) event.kind) closes.text mid new _ (focus_of now_c now_m) closes.follows;
  };
}

-- it was given the event
pub failed_given : {Own : Type 0} {Tells : Type 0} {accepts : List TableView → Bool} {app budget : ℕ} {rest : List ℕ} {old new : Seen Own} {net now_net : NetState} (number moment : ℕ) (event : Event) → Tells → number < 2 ^ 64
    → TurnFailed Tells accepts app budget rest (event_frame number moment event) old new net now_net → was_given app number new.history ≡ true
failed_given {Tells = Tells} {app = app} {new = new} number moment event told few f =
    given_longer app number f.mid new ((Continues-trans Tells f.mid f.undone new f.undoes.continues f.later).told told) (turn_given number moment event told few f.turns)

-- ---- A fault behind it

module _ {Own : Type 0} {Tells : Type 0} {accepts : List TableView → Bool} {text : List ℕ} (event : Event) (fault : Fault) (old mid new : Seen Own) (c mid_c : Core) (m mid_m : Managed) (few : c.events < 2 ^ 64) (alive : m.state.alive ≡ true) (then_alive : mid_m.state.alive ≡ true)
    (index : mid_m.state.index ≡ m.state.index) (takes : TakesTurn Tells accepts event text old mid (focus_of c m) (focus_of mid_c mid_m))
    (f : TurnFailed Tells accepts m.state.index m.rule.now.budget m.state.rest (event_frame c.events c.net.moment event) old mid c.net mid_c.net)
    (first : Continues Tells old mid) (later : Continues Tells mid new) (calm : Tells → CalmLater m.state.index old mid) (quiet : Tells → QuietAgain m.state.index c.events mid new)
    (fails : GroupFails Tells m.state.index m.rule.now.budget mid_m.state.rest mid new mid_c.net fault) where
  converse : Tells → IsAtRest old m.state.index (application_of c.store m) → TalksBehind m.state.index mid_m.state.rest mid
  converse told rests =
      let v = turn_converses Tells accepts event text old mid (focus_of c m) (focus_of mid_c mid_m) told alive (record { at_once = rests.at_once; rest_is = rests.rest_is }) takes in
      subst (λ (i : ℕ). TalksBehind i mid_m.state.rest mid) index (record { at_once = v.at_once; runs = (v.rest_is then_alive).0; passes = (v.rest_is then_alive).1 })

  point : Tells → OwnPoint m.state.index old new
  point told = record {
    last = last_point_then (last_point_of (calm told).last) ((quiet told).quiet (failed_given c.events c.net.moment event told few f));
    own = calls_then (calm told).own (quiet told).own;
  }

  left_so : Tells → Conforming old → InOrder new → Ready old c.net → IsAtRest old m.state.index (application_of c.store m) → EventLeft m.state.index m.rule.now.budget (IsShort fault) old new
  left_so told keeps order ready rests =
      let order_mid = InOrder-before told later order in
      let keeps_mid = failed-conforms f told keeps order_mid in
      let acts = failed-acts f told in
      let there = converse told rests in
      let to_undone = Continues-trans Tells old f.mid f.undone (Leads-continues (turn-leads f.turns)) f.undoes.continues in
      inr (record {
        begun = mid;
        given = f.turns.given;
        event = event_frame c.events c.net.moment event;
        event_is = event_is c.events c.net.moment event;
        acts = acts.0;
        history = acts.1;
        undone = undone_then old f.undone mid told to_undone f.later (failed-stay f told) (undone_is old f.undone told (failed-undone f told keeps order_mid ready));
        later = in_telling mid new told later;
        left = fails.rests.left told keeps_mid order (failed-ready f told keeps_mid ready) there.at_once there.runs there.passes;
      })

  offer_broken : IsOfTurn fault (is_taking event (application_of c.store m)) → OfferStops Tells event old new c m fault
  offer_broken of_turn = record {
    fails = record {
      talks = λ told rests. let there = converse told rests in fails.talks.talks told there.at_once there.runs there.passes;
      of_turn = of_turn;
      left = left_so;
      later = point;
      plain = record {
        plain = λ told keeps ready sound.
            let keeps_mid = Conforming-before told later keeps in
            ends_behind old mid new (served_by fault) (first.told told) (fails.plain.plain told keeps (failed-ready f told keeps_mid ready) (failed-sound f told keeps_mid ready sound));
      };
    };
    why = why_then old mid new (served_by fault) first fails.why;
  }

-- ---- What it is given in place of the event

-- a frame can carry each of them
pub all_carried : (number moment : ℕ) (events : List Event) → list_all is_carried events ≡ true → AllByRecursion (λ e. HostFits (host.Event number moment e)) events
all_carried number moment [] all = tt
all_carried number moment (event ∷ events) all =
    let both = and_parts (is_carried event) (list_all is_carried events) all in
    (omega (arith, leb-true (length event.body) 4294967269 both.0), all_carried number moment events both.1)

pub no_item : {A : Type 0} (xs : List A) → (length xs == 0) ≡ true → xs ≡ []
no_item [] none = refl
no_item (x ∷ xs) none = absurd (omega (arith, eqb-true (length (x ∷ xs)) 0 none))

pub an_item : {A : Type 0} (xs : List A) → (length xs == 0) ≡ false → 1 ≤ length xs
an_item [] some = absurd (true≢false some)
an_item (x ∷ xs) some = omega arith

-- nothing
pub nothing_given : {Own : Type 0} (Tells : Type 0) (accepts : List TableView → Bool) (event : Event) (seen : Seen Own) (c : Core) (m : Managed) → CoreGoes c
    → instead_if true m.state.alive (app_value m.rule.now) event ≡ [] → InsteadDone Tells accepts event false seen seen c c m m
nothing_given Tells accepts event seen c m goes none = record {
  goes = goes;
  events_is = refl;
  others = record { number = refl; others = λ i other. refl };
  index = refl;
  rule = refl;
  text = [];
  takes = subst (λ (events : List Event). TakesInstead Tells accepts events false [] seen seen (focus_of c m) (focus_of c m)) (sym none) (refl, refl, refl, refl);
  notes = sym (append-nil c.lines.items);
}

-- where it is gone
pub none_if_gone : (alive : Bool) (rule : AppValue) (event : Event) → alive ≡ false → instead_if true alive rule event ≡ []
none_if_gone true rule event gone = absurd (true≢false gone)
none_if_gone false rule event gone = refl

-- and where it is not
pub given_if_alive : (alive : Bool) (rule : AppValue) (event : Event) → alive ≡ true → instead_if true alive rule event ≡ instead_by (rule_at rule event.kind) event
given_if_alive true rule event is = refl
given_if_alive false rule event is = absurd (true≢false (sym is))

-- memory was wanting before it
pub none_given : {Own : Type 0} (Tells : Type 0) (seen : Seen Own) (c : Core) (m : Managed) → m.state.alive ≡ true → InsteadFails Tells faults.NoMemory seen seen c m
none_given Tells seen c m alive = record {
  alive = alive;
  fails = record {
    talks = record { talks = λ told a runs passes. a };
    why = tt;
    plain = record { plain = λ told keeps ready sound. inl tt };
    rests = record { left = λ told keeps order ready a runs passes. inl (no_event_none seen) };
  };
}

-- a group of turns
is_group : {Own : Type 0} (Tells : Type 0) (accepts : List TableView → Bool) (events : List Event) (stops : Bool) (old new : Seen Own) (c now_c : Core) (m now_m : Managed) → 1 ≤ length events
    → (g : GroupNoted Tells accepts events stops old new c now_c m now_m) → TakesInstead Tells accepts events stops g.text old new (focus_of c m) (focus_of now_c now_m)
is_group Tells accepts [] stops old new c now_c m now_m some g = absurd (omega (arith, some))
is_group Tells accepts (event ∷ events) stops old new c now_c m now_m some g = (g.takes, g.stops_is)

pub group_given : {Own : Type 0} (Tells : Type 0) (accepts : List TableView → Bool) (event : Event) (events : List Event) (result : Result Bool Fault) (old new : Seen Own) (c now_c : Core) (m now_m : Managed) → m.state.alive ≡ true
    → events ≡ instead_by (rule_at (app_value m.rule.now) event.kind) event → 1 ≤ length events
    → MatchResult result (λ stops. GroupTaken Tells accepts events stops old new c now_c m now_m) (GroupFails Tells m.state.index m.rule.now.budget m.state.rest old new c.net)
    → MatchResult result (λ stops. InsteadDone Tells accepts event stops old new c now_c m now_m) (λ fault. InsteadFails Tells fault old new c m)
group_given Tells accepts event events (Ok stops) old new c now_c m now_m alive is some taken = record {
  goes = taken.goes;
  events_is = taken.events_is;
  others = taken.others;
  index = taken.index;
  rule = taken.rule;
  text = taken.group.text;
  takes = subst (λ (es : List Event). TakesInstead Tells accepts es stops taken.group.text old new (focus_of c m) (focus_of now_c now_m))
      (is ∙ sym (given_if_alive m.state.alive (app_value m.rule.now) event alive)) (is_group Tells accepts events stops old new c now_c m now_m some taken.group);
  notes = taken.group.notes;
}
group_given Tells accepts event events (Err fault) old new c now_c m now_m alive is some fails = record { alive = alive; fails = fails }

-- ---- Its turn was whole, and is all that it has at the event

pub offer_whole : {Own : Type 0} {Tells : Type 0} {accepts : List TableView → Bool} (event : Event) (stops : Bool) (old new : Seen Own) (c now_c : Core) (m now_m : Managed) → is_taking event (application_of c.store m) ≡ true
    → now_m.failed ≡ m.failed → (Tells → CalmLater m.state.index old new) → TurnDone Tells accepts event stops old new c now_c m now_m → OfferDone Tells accepts event stops old new c now_c m now_m
offer_whole {Tells = Tells} {accepts = accepts} event stops old new c now_c m now_m takes same later turn =
    let t = turn.turn.takes in
    let whole = whole_if t.end m.failed now_m.failed (turn_counts Tells accepts event turn.turn.text old new (focus_of c m) (focus_of now_c now_m) t) same in
    record {
      goes = turn.goes;
      events = turn.events;
      others = turn.others;
      index = turn.index;
      rule = turn.rule;
      offered = offer_had turn.turn.text old new c now_c m now_m takes turn.events turn.index (λ told. (later told).own)
          (turn_only Tells accepts event stops turn.turn.text old new (focus_of c m) (focus_of now_c now_m) t
          (ap (λ (b : Bool). instead_if b now_m.state.alive (app_value now_m.rule.now) event) whole) turn.turn.stops_is) turn.turn.notes;
    }

-- ---- It failed, and the application had what it was given in place of the event

others_then : {app : ℕ} {a b c : List Slot} → KeepsOthers app a b → KeepsOthers app b c → KeepsOthers app a c
others_then first later = record { number = later.number ∙ first.number; others = λ i other. later.others i other ∙ first.others i other }

says_none : (end : TurnEnd) → end_fails end ≡ true → says_stop end ≡ false
says_none (ends.Done stop) fails = absurd (true≢false (sym fails))
says_none (ends.Failed cause) fails = refl

module _ {Own : Type 0} {Tells : Type 0} {accepts : List TableView → Bool} {event : Event} {stopped stops : Bool} (old mid new : Seen Own) (c mid_c now_c : Core) (m mid_m now_m : Managed) (turn : TurnDone Tells accepts event stopped old mid c mid_c m mid_m)
    (fails : end_fails turn.turn.takes.end ≡ true) (given : InsteadDone Tells accepts event stops mid new mid_c now_c mid_m now_m) where
  takes_both : TakesEvent Tells accepts event stops (turn.turn.text ++ given.text) old new (focus_of c m) (focus_of now_c now_m)
  takes_both = record {
    mid = mid;
    mid_e = focus_of mid_c mid_m;
    front_text = turn.turn.text;
    takes = turn.turn.takes;
    stopped = stops;
    later_text = given.text;
    later = subst (λ (b : Bool). TakesInstead Tells accepts (instead_if b mid_m.state.alive (app_value mid_m.rule.now) event) stops given.text mid new (focus_of mid_c mid_m) (focus_of now_c now_m)) (sym fails) given.takes;
    stops_is = ap (λ (b : Bool). b || stops) (sym (says_none turn.turn.takes.end fails));
    text_is = refl;
  }

  offer_both : is_taking event (application_of c.store m) ≡ true → (Tells → CallsFor m.state.index old new) → OfferDone Tells accepts event stops old new c now_c m now_m
  offer_both takes own = record {
    goes = given.goes;
    events = given.events_is ∙ turn.events;
    others = others_then turn.others (subst (λ (i : ℕ). KeepsOthers i mid_c.store now_c.store) turn.index given.others);
    index = given.index ∙ turn.index;
    rule = given.rule ∙ turn.rule;
    offered = offer_had (turn.turn.text ++ given.text) old new c now_c m now_m takes (given.events_is ∙ turn.events) (given.index ∙ turn.index) own takes_both
        (given.notes ∙ ap (λ (xs : List ℕ). xs ++ given.text) turn.turn.notes ∙ append_assoc c.lines.items turn.turn.text given.text);
  }

-- however that ended
pub offer_instead : {Own : Type 0} {Tells : Type 0} {accepts : List TableView → Bool} {stopped : Bool} (event : Event) (result : Result Bool Fault) (old mid new : Seen Own) (c mid_c now_c : Core) (m mid_m now_m : Managed) → c.events < 2 ^ 64
    → is_taking event (application_of c.store m) ≡ true → (mid_m.failed ≡ m.failed → ⊥) → TurnDone Tells accepts event stopped old mid c mid_c m mid_m → Continues Tells old mid → Continues Tells mid new → (Tells → CalmLater m.state.index old mid)
    → (Tells → QuietAgain mid_m.state.index mid_c.events mid new)
    → MatchResult result (λ stops. InsteadDone Tells accepts event stops mid new mid_c now_c mid_m now_m) (λ fault. InsteadFails Tells fault mid new mid_c mid_m)
    → MatchResult result (λ stops. OfferDone Tells accepts event stops old new c now_c m now_m) (OfferStops Tells event old new c m)
offer_instead {Tells = Tells} {accepts = accepts} event (Ok stops) old mid new c mid_c now_c m mid_m now_m few takes other turn first later calm quiet given =
    let t = turn.turn.takes in
    let fails = failed_if t.end m.failed mid_m.failed (turn_counts Tells accepts event turn.turn.text old mid (focus_of c m) (focus_of mid_c mid_m) t) other in
    offer_both old mid new c mid_c now_c m mid_m now_m turn fails given takes
    (λ told. calls_then (calm told).own (subst (λ (i : ℕ). CallsFor i mid new) turn.index (quiet told).own))
offer_instead {Tells = Tells} event (Err fault) old mid new c mid_c now_c m mid_m now_m few takes other turn first later calm quiet fails =
    offer_broken event fault old mid new c mid_c m mid_m few (taking_alive event (application_of c.store m) takes) fails.alive turn.index turn.turn.takes (turn.behind other) first later calm
    (λ told. subst (λ (i : ℕ). QuietAgain i c.events mid new) turn.index (subst (λ (n : ℕ). QuietAgain mid_m.state.index n mid new) turn.events (quiet told)))
    (subst (λ (i : ℕ). GroupFails Tells i m.rule.now.budget mid_m.state.rest mid new mid_c.net fault) turn.index
    (subst (λ (b : ℕ). GroupFails Tells mid_m.state.index b mid_m.state.rest mid new mid_c.net fault) (ap (λ (r : _). r.now.budget) turn.rule) fails.fails))
    (takes_of fault takes)
