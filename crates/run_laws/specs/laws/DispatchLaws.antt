-- The law of an event: what the engine does at it is what the reference controller does, whether it is offered to all applications or, so far, to
-- the first of them; one event more was dispatched, and those that wait stay, in front of those that join them.
use Rattle.std.proofs.Common.{◌≡◌, ℕ, zero, suc, ◌+◌, Bool, true, false, List, [], ◌∷◌, ◌++◌, length, take, drop, map, Option, Result, Ok, Err, refl, sym, ap, ap₂, ◌∙◌, subst, inl, inr, arith}
use Rattle.std.proofs.lemmas.List.{append-nil, append_assoc, length-append, length-map, map-append, take-append-drop}
use Rattle.std.proofs.lemmas.List.Concat.{flat_map-append}
use Rattle.std.specs.List.{AllByRecursion}
use Rattle.flow_table.specs.View.{TableView}
use Rattle.app_frames.specs.declared.frame.Event.{Event}
use Rattle.app_frames.specs.declared.frame.EventKind.{EventKind}
use Rattle.crash_policy.specs.Policies.{AppValue}
use Rattle.crash_policy.specs.declared.policy_file.Policy.{Policy}
use Rattle.crash_policy.specs.declared.policy_file.Policy.TheVariants as policy
use Rattle.crash_policy.specs.Asking.{rule_at}
use Rattle.lego_model.specs.Places.{Place}
use Rattle.lego_model.specs.Losses.{Losses}
use Rattle.lego_model.specs.Packets.{Held}
use Rattle.lego_model.specs.Application.{names}
use Rattle.lego_model.specs.Controller.{App, Dispatched, Run, given_to, next_dispatched, dispatch_next, dispatch}
use Rattle.lego_model.specs.RunReport.{event_line, line_text}
use Rattle.lego_model.specs.ReferenceRun.{Said, AreFrontsOf, text_of}
use Rattle.lego_model.specs.CutRun.{dispatch_to, next_dispatched_to, dispatch_partly}
use Rattle.lego_model.specs.OrderlySteps.{IsOrderly}
use Rattle.lego_model.specs.History.{stimuli_in}
use Rattle.outside.specs.Seen.{Seen}
use Rattle.of_wire.specs.declared.message.Envelope.{Envelope}
use Rattle.of_wire.specs.declared.fault.WireFault.{WireFault}
use Rattle.of_wire.specs.Reading.{reading_of}
use Rattle.lego_model.specs.BarrierWaits.{next_xid}
use Rattle.net_txn.specs.Net.{NetState}
use Rattle.net_txn.specs.Arriving.{event_of}
use Rattle.net_txn.specs.Releases.{Knows, takes_read, takes_all, ReleasesOne, ReleasesAll, committed}
use Rattle.lego_model.specs.Events.{event_list}
use Rattle.app_visor.specs.declared.state.TurnEnd.{TurnEnd}
use Rattle.app_visor.specs.Turns.{handed}
use Rattle.app_visor.specs.declared.state.TurnEnd.TheVariants as ends
use Rattle.switch_laws.specs.laws.OrderlyLaws.{orderly-whole}
use Rattle.batch_laws.specs.Knowledge.{left_events}
use Rattle.run_laws.specs.Engine.{Application, Engine, EachFrom, Focus, focus, apps_from, left_behind, behind, Shares, Stands, ahead, rules_of}
use Rattle.run_laws.specs.Facts.{Between, between, Follows, all_told, IsClosed, is_taking, end_fails, Turning, ClosesGroup, instead_if, TakesInstead, IsOffered, AreLeftOut, if_stopped, Offers, Dispatches}
use Rattle.run_laws.specs.Moves.{IsAtRest, AtRest, Moves, Moved}
use Rattle.run_laws.specs.ReferenceTurn.{numbered}
use Rattle.run_laws.specs.LastReport.{lines_text}
use Rattle.run_laws.specs.EventMoves.{Joins}
use Rattle.run_laws.specs.laws.MoveLaws.{apps-ext, moves-none, moves-as}
use Rattle.run_laws.specs.laws.OtherLaws.{silent-given}
use Rattle.run_laws.specs.laws.OfferLaws.{NamesFrom, names-from, OfferMoves, each-silent}

-- ---- Applications in two parts

apps-both : {Own : Type 0} (i : ℕ) (seen : Seen Own) (xs ys : List Application) (said : ℕ → Said) → apps_from i seen (xs ++ ys) said ≡ apps_from i seen xs said ++ apps_from (i + length xs) seen ys said
apps-both i seen [] ys said =
    let here : i ≡ i + 0 = omega arith in
    ap (λ (k : ℕ). apps_from k seen ys said) here
apps-both {Own} i seen (a ∷ xs) ys said =
    let next : i + 1 + length xs ≡ i + length (a ∷ xs) = omega arith in
    ap (λ (later : List App). apps_from i seen (a ∷ []) said ++ later) (apps-both (i + 1) seen xs ys said ∙ ap (λ (k : ℕ). apps_from (i + 1) seen xs said ++ apps_from k seen ys said) next)

apps-take : {Own : Type 0} (n i : ℕ) (seen : Seen Own) (apps : List Application) (said : ℕ → Said) → take n (apps_from i seen apps said) ≡ apps_from i seen (take n apps) said
apps-take zero i seen apps said = refl
apps-take (suc n) i seen [] said = refl
apps-take (suc n) i seen (a ∷ more) said = ap (λ (later : List App). apps_from i seen (a ∷ []) said ++ later) (apps-take n (i + 1) seen more said)

apps-drop : {Own : Type 0} (n i : ℕ) (seen : Seen Own) (apps : List Application) (said : ℕ → Said) → drop n (apps_from i seen apps said) ≡ apps_from (i + length (take n apps)) seen (drop n apps) said
apps-drop zero i seen apps said =
    let here : i ≡ i + 0 = omega arith in
    ap (λ (k : ℕ). apps_from k seen apps said) here
apps-drop (suc n) i seen [] said = refl
apps-drop (suc n) i seen (a ∷ more) said =
    let next : i + 1 + length (take n more) ≡ i + length (a ∷ take n more) = omega arith in
    apps-drop n (i + 1) seen more said ∙ ap (λ (k : ℕ). apps_from k seen (drop n more) said) next

each-both : (P : ℕ → Application → Type 0) (i : ℕ) (xs ys : List Application) → EachFrom P i xs → EachFrom P (i + length xs) ys → EachFrom P i (xs ++ ys)
each-both P i [] ys first later =
    let here : i + 0 ≡ i = omega arith in
    subst (λ (k : ℕ). EachFrom P k ys) here later
each-both P i (a ∷ xs) ys first later =
    let next : i + length (a ∷ xs) ≡ i + 1 + length xs = omega arith in
    (first.0, each-both P (i + 1) xs ys first.1 (subst (λ (k : ℕ). EachFrom P k ys) next later))

each-first : (P : ℕ → Application → Type 0) (i : ℕ) (xs ys : List Application) → EachFrom P i (xs ++ ys) → EachFrom P i xs
each-first P i [] ys each = tt
each-first P i (a ∷ xs) ys each = (each.0, each-first P (i + 1) xs ys each.1)

each-later : (P : ℕ → Application → Type 0) (i : ℕ) (xs ys : List Application) → EachFrom P i (xs ++ ys) → EachFrom P (i + length xs) ys
each-later P i [] ys each =
    let here : i ≡ i + 0 = omega arith in
    subst (λ (k : ℕ). EachFrom P k ys) here each
each-later P i (a ∷ xs) ys each =
    let next : i + 1 + length xs ≡ i + length (a ∷ xs) = omega arith in
    subst (λ (k : ℕ). EachFrom P k ys) next (each-later P (i + 1) xs ys each.1)

names-first : (i : ℕ) (known : List (List ℕ)) (xs ys : List Application) → NamesFrom i known (xs ++ ys) → NamesFrom i known xs
names-first i known [] ys are = tt
names-first i known (a ∷ xs) ys are = (are.0, names-first (i + 1) known xs ys are.1)

-- what is said of the rules tells how many there are
pub same-number : (xs ys : List Application) → map (λ a. a.rule) xs ≡ map (λ a. a.rule) ys → length xs ≡ length ys
same-number xs ys same = sym (length-map xs (λ a. a.rule)) ∙ ap (λ (rules : List AppValue). length rules) same ∙ length-map ys (λ a. a.rule)

-- ---- An event that is offered to the first applications

abbrev with_others : List App × Run → List App → Run
with_others done others = record done.1 { apps = done.0 ++ others }

module _ {Own : Type 0} (allows : List Place → Bool) (event : Event) (f : Run → Run) (xs ys front : List Application) (turn_text text : List ℕ) (old new : Seen Own) (e now_e : Engine)
    (apps_are : e.apps ≡ xs ++ ys) (now_apps_are : now_e.apps ≡ front ++ ys) (events_is : now_e.events ≡ e.events + 1) (text_is : text ≡ event_line (e.events + 1) event.kind event.dpid ++ turn_text)
    (m : OfferMoves allows event (e.events + 1) 0 xs front turn_text (between old e) (between new now_e))
    (does : (said : ℕ → Said) (r : Run) → r.apps ≡ apps_from 0 old e.apps said → f r ≡ with_others (given_to allows event 0 (apps_from 0 old xs said) (numbered event r)) (apps_from (0 + length xs) old ys said)) where
  rules-so : rules_of now_e ≡ rules_of e
  rules-so =
      ap (map (λ (a : Application). a.rule)) now_apps_are ∙ map-append (λ (a : Application). a.rule) front ys ∙ ap (λ (rules : List AppValue). rules ++ map (λ (a : Application). a.rule) ys) m.rules
      ∙ sym (map-append (λ (a : Application). a.rule) xs ys) ∙ ap (map (λ (a : Application). a.rule)) (sym apps_are)

  -- all but the applications, before it
  shared : (said : ℕ → Said) (losses : Losses) (r : Run) → Stands old e said losses r → Shares old e.net e.queue (e.events + 1) losses (numbered event r)
  shared said losses r s = record {
    calm = s.calm;
    moment = s.moment;
    places = s.places;
    queue_is = s.queue;
    events_is = ap (λ (n : ℕ). n + 1) s.events;
    released = s.released;
    lost = s.lost;
    losses_is = s.losses_is;
    marks = s.marks;
  }

  stands-so : (said : ℕ → Said) (later : Losses) (r : Run) → AreFrontsOf m.told said → Stands old e said (ahead [] m.turns later) r → Stands new now_e (behind m.told said) later (f r)
  stands-so said later r fronts s =
      let g = m.gives said later (numbered event r) fronts (shared said (ahead [] m.turns later) r s) in
      let left = behind m.told said in
      let same : length front ≡ length xs = same-number front xs m.rules in
      subst (Stands new now_e left later) (sym (does said r s.apps)) (record {
        calm = g.shares.calm;
        moment = g.shares.moment;
        places = g.shares.places;
        queue = g.shares.queue_is;
        events = g.shares.events_is ∙ sym events_is;
        apps = ap₂ (λ (firsts others : List App). firsts ++ others) g.apps_is
            (apps-ext (0 + length xs) old new ys said left (λ j le. (silent-given j old new (m.still j (λ least less. omega (arith, le, less))), sym (ap (λ (t : Said). left_behind t (said j)) (m.untold j (λ least less. omega (arith, le, less))))))
            ∙ ap (λ (n : ℕ). apps_from (0 + n) new ys left) (sym same))
            ∙ sym (apps-both 0 new front ys left) ∙ ap (λ (all : List Application). apps_from 0 new all left) (sym now_apps_are);
        released = g.shares.released;
        lost = g.shares.lost;
        losses_is = g.shares.losses_is;
        marks = g.shares.marks;
      })

  says-so : (said : ℕ → Said) (later : Losses) (r : Run) → AreFrontsOf m.told said → Stands old e said (ahead [] m.turns later) r → text_of (names (rules_of e)) (f r) ≡ text_of (names (rules_of e)) r ++ text
  says-so said later r fronts s =
      let known = names (rules_of e) in
      let g = m.gives said later (numbered event r) fronts (shared said (ahead [] m.turns later) r s) in
      let named : NamesFrom 0 known xs = names-first 0 known xs ys (subst (λ (all : List Application). NamesFrom 0 known all) apps_are (names-from e.apps)) in
      let here = event_line (e.events + 1) event.kind event.dpid in
      let begun : lines_text known (r.lines ++ Dispatched (r.events + 1) event ∷ []) ≡ lines_text known r.lines ++ here =
      flat_map-append (line_text known) r.lines (Dispatched (r.events + 1) event ∷ [])
      ∙ ap (λ (line : List ℕ). lines_text known r.lines ++ line) (append-nil (event_line (r.events + 1) event.kind event.dpid))
      ∙ ap (λ (n : ℕ). lines_text known r.lines ++ event_line (n + 1) event.kind event.dpid) s.events in
      ap (text_of known) (does said r s.apps)
      ∙ g.lines known named
      ∙ ap (λ (lines : List ℕ). lines ++ turn_text) begun
      ∙ append_assoc (lines_text known r.lines) here turn_text
      ∙ ap (λ (more : List ℕ). lines_text known r.lines ++ more) (sym text_is)

  pub given-moves : Moves [] f text old new e now_e
  given-moves = record {
    told = m.told;
    batches = [];
    turns = m.turns;
    given = m.given;
    rules = rules-so;
    read = m.read;
    read_stimuli = m.stims ∙ sym (append-nil (stimuli_in old));
    stands = stands-so;
    says = says-so;
  }

  -- all is at rest behind it
  pub given-rests : AtRest old e → AtRest new now_e
  given-rests rests =
      let same : length front ≡ length xs = same-number front xs m.rules in
      let all : length now_e.apps ≡ length e.apps = same-number now_e.apps e.apps rules-so in
      let parts : length e.apps ≡ length xs + length ys = ap (λ (apps : List Application). length apps) apps_are ∙ length-append xs ys in
      let others = each-silent (0 + length xs) ys old new (λ j le. m.still j (λ least less. omega (arith, le, less)))
      (each-later (IsAtRest old) 0 xs ys (subst (λ (apps : List Application). EachFrom (IsAtRest old) 0 apps) apps_are rests.each)) in
      record {
        calm = m.calm;
        each = subst (λ (apps : List Application). EachFrom (IsAtRest new) 0 apps) (sym now_apps_are) (each-both (IsAtRest new) 0 front ys m.each (subst (λ (n : ℕ). EachFrom (IsAtRest new) (0 + n) ys) (sym same) others));
        orderly = orderly-whole (length now_e.apps) old new (subst (λ (n : ℕ). AllByRecursion (IsOrderly n) old.history) (sym all) rests.orderly) (m.orderly (length now_e.apps) (omega (arith, all, parts)));
      }

-- ---- To all of them, and to so many

dispatch-is : (allows : List Place → Bool) (event : Event) (r : Run) → dispatch allows event r ≡ (let done = given_to allows event 0 r.apps (numbered event r) in record done.1 { apps = done.0 })
unfolding dispatch
dispatch-is allows event r = refl

abbrev with_done : List App × Run → Run
with_done done = record done.1 { apps = done.0 }

dispatch-does : {Own : Type 0} (allows : List Place → Bool) (event : Event) (old : Seen Own) (apps : List Application) (said : ℕ → Said) (r : Run) → r.apps ≡ apps_from 0 old apps said
    → dispatch allows event r ≡ with_others (given_to allows event 0 (apps_from 0 old apps said) (numbered event r)) []
dispatch-does allows event old apps said r are =
    let done = given_to allows event 0 (apps_from 0 old apps said) (numbered event r) in
    dispatch-is allows event r
    ∙ ap (λ (all : List App). with_done (given_to allows event 0 all (numbered event r))) are
    ∙ ap (λ (all : List App). record done.1 { apps = all }) (sym (append-nil done.0))

dispatch_to-is : (allows : List Place → Bool) (n : ℕ) (event : Event) (r : Run) → dispatch_to allows n event r ≡ with_others (given_to allows event 0 (take n r.apps) (numbered event r)) (drop n r.apps)
unfolding dispatch_to
dispatch_to-is allows n event r = refl

dispatch_to-does : {Own : Type 0} (allows : List Place → Bool) (n : ℕ) (event : Event) (old : Seen Own) (apps : List Application) (said : ℕ → Said) (r : Run) → r.apps ≡ apps_from 0 old apps said
    → dispatch_to allows n event r ≡ with_others (given_to allows event 0 (apps_from 0 old (take n apps) said) (numbered event r)) (apps_from (0 + length (take n apps)) old (drop n apps) said)
dispatch_to-does allows n event old apps said r are =
    dispatch_to-is allows n event r
    ∙ ap (λ (all : List App). with_others (given_to allows event 0 (take n all) (numbered event r)) (drop n all)) are
    ∙ ap₂ (λ (first others : List App). with_others (given_to allows event 0 first (numbered event r)) others) (apps-take n 0 old apps said) (apps-drop n 0 old apps said)

-- to all
pub dispatch-moves : {Own : Type 0} (allows : List Place → Bool) (event : Event) (turn_text text : List ℕ) (old new : Seen Own) (e now_e : Engine) → now_e.events ≡ e.events + 1 → text ≡ event_line (e.events + 1) event.kind event.dpid ++ turn_text → AtRest old e
    → OfferMoves allows event (e.events + 1) 0 e.apps now_e.apps turn_text (between old e) (between new now_e) → Moved [] (dispatch allows event) text old new e now_e
dispatch-moves allows event turn_text text old new e now_e events_is text_is rests m =
    let does = λ (said : ℕ → Said) (r : Run) (are : r.apps ≡ apps_from 0 old e.apps said). dispatch-does allows event old e.apps said r are in
    record {
      moves = given-moves allows event (dispatch allows event) e.apps [] now_e.apps turn_text text old new e now_e (sym (append-nil e.apps)) (sym (append-nil now_e.apps)) events_is text_is m does;
      settled = given-rests allows event (dispatch allows event) e.apps [] now_e.apps turn_text text old new e now_e (sym (append-nil e.apps)) (sym (append-nil now_e.apps)) events_is text_is m does rests;
    }

-- to so many
pub dispatch_to-moves : {Own : Type 0} (allows : List Place → Bool) (n : ℕ) (event : Event) (front : List Application) (turn_text text : List ℕ) (old new : Seen Own) (e now_e : Engine) → now_e.apps ≡ front ++ drop n e.apps → now_e.events ≡ e.events + 1
    → text ≡ event_line (e.events + 1) event.kind event.dpid ++ turn_text → AtRest old e → OfferMoves allows event (e.events + 1) 0 (take n e.apps) front turn_text (between old e) (between new now_e) → Moved [] (dispatch_to allows n event) text old new e now_e
dispatch_to-moves allows n event front turn_text text old new e now_e apps_is events_is text_is rests m =
    let does = λ (said : ℕ → Said) (r : Run) (are : r.apps ≡ apps_from 0 old e.apps said). dispatch_to-does allows n event old e.apps said r are in
    let parts = sym (take-append-drop n e.apps) in
    record {
      moves = given-moves allows event (dispatch_to allows n event) (take n e.apps) (drop n e.apps) front turn_text text old new e now_e parts apps_is events_is text_is m does;
      settled = given-rests allows event (dispatch_to allows n event) (take n e.apps) (drop n e.apps) front turn_text text old new e now_e parts apps_is events_is text_is m does rests;
    }

-- each of the first is at rest
pub rests-take : {Own : Type 0} (n : ℕ) (old : Seen Own) (apps : List Application) → EachFrom (IsAtRest old) 0 apps → EachFrom (IsAtRest old) 0 (take n apps)
rests-take n old apps each = each-first (IsAtRest old) 0 (take n apps) (drop n apps) (subst (λ (all : List Application). EachFrom (IsAtRest old) 0 all) (sym (take-append-drop n apps)) each)

-- ---- Those that wait

-- what comes joins the events that wait
takes_read-joins : (d : ℕ) (read : Result Envelope WireFault) (k : Knows) → Joins k.1 (takes_read d read k).1
takes_read-joins d (Ok e) k = (event_list (event_of d k.0.views e.message), refl)
takes_read-joins d (Err fault) k = ([], sym (append-nil k.1))

joins-then : (xs ys zs : List Event) → Joins xs ys → Joins ys zs → Joins xs zs
joins-then xs ys zs first second = (first.0 ++ second.0, second.1 ∙ ap (λ (q : List Event). q ++ second.0) first.1 ∙ append_assoc xs first.0 second.0)

takes_all-joins : (came : List (ℕ × List ℕ)) (k : Knows) → Joins k.1 (takes_all came k).1
takes_all-joins [] k = ([], sym (append-nil k.1))
takes_all-joins (m ∷ more) k =
    let next = takes_read m.0 (reading_of m.1) k in
    joins-then k.1 next.1 (takes_all more next).1 (takes_read-joins m.0 (reading_of m.1) k) (takes_all-joins more next)

one-joins : {Own : Type 0} {Tells : Type 0} {held : Held} {sent : List Held} {old new : Seen Own} {net now_net : NetState} {queue now_queue : List Event} → ReleasesOne Tells held sent old new net now_net queue now_queue → Joins queue now_queue
one-joins {net = net} {queue = queue} (inl (is, viewed, sends)) =
    subst (λ (k : Knows). Joins queue k.1) (sym sends.taken) (takes_all-joins sends.came (record net { xid = next_xid (next_xid net.xid) }, queue))
one-joins {queue = queue} (inr (inl (is, over))) = ([], over.queue_is ∙ sym (append-nil queue))
one-joins {queue = queue} (inr (inr (inl (is, lost)))) = ([], lost.queue_is ∙ sym (append-nil queue))
one-joins {queue = queue} (inr (inr (inr (is, lost)))) = ([], lost.queue_is ∙ sym (append-nil queue))

release-joins : {Own : Type 0} (Tells : Type 0) (held sent : List Held) (old new : Seen Own) (net now_net : NetState) (queue now_queue : List Event) → ReleasesAll Tells held sent old new net now_net queue now_queue → Joins queue now_queue
release-joins Tells [] sent old new net now_net queue now_queue all = ([], all.3 ∙ sym (append-nil queue))
release-joins Tells (held ∷ more) sent old new net now_net queue now_queue (first, (later, (sent_is, (mid, (mid_net, (mid_queue, (one, rest))))))) =
    joins-then queue mid_queue now_queue (one-joins one) (release-joins Tells more later mid new mid_net now_net mid_queue now_queue rest)

-- where none joined
joins-none : (xs ys : List Event) → ys ≡ xs → Joins xs ys
joins-none xs ys same = ([], same ∙ sym (append-nil xs))

-- what follows a turn that failed dispatches no event, and none joins
record Still (e now_e : Focus) : Type 0 where
  events : now_e.events ≡ e.events
  queue : now_e.queue ≡ e.queue

follows_still : {Own : Type 0} (Tells : Type 0) (rule : Policy) (text : List ℕ) (old new : Seen Own) (e now_e : Focus) → Follows Tells rule text old new e now_e → Still e now_e
follows_still Tells policy.None text old new e now_e gone = record { events = ap (λ (x : Focus). x.events) gone.engine; queue = ap (λ (x : Focus). x.queue) gone.engine }
follows_still Tells policy.Absolute text old new e now_e s = record { events = ap (λ (x : Focus). x.events) s.engine; queue = ap (λ (x : Focus). x.queue) s.engine }
follows_still Tells policy.Equivalence text old new e now_e s = record { events = ap (λ (x : Focus). x.events) s.engine; queue = ap (λ (x : Focus). x.queue) s.engine }

closed_count : {Own : Type 0} (Tells : Type 0) (kind : EventKind) (end : TurnEnd) (checkpoint : Option (List ℕ)) (unread text : List ℕ) (start : ℕ) (mid new : Seen Own) (mid_net : NetState) (e now_e : Focus) → IsClosed Tells kind end checkpoint unread text start mid new mid_net e now_e
    → (now_e.events ≡ e.events) × Joins e.queue now_e.queue
closed_count Tells kind (ends.Done stop) checkpoint unread text start mid new mid_net e now_e closed = (
  ap (λ (x : Focus). x.events) closed.engine,
  subst (λ (x : Focus). Joins e.queue x.queue) (sym closed.engine) (joins-then e.queue closed.queue (closed.queue ++ left_events closed.net.left)
      (joins-then e.queue (e.queue ++ mid_net.held.notices) closed.queue (mid_net.held.notices, refl)
      (release-joins Tells mid_net.held.packets closed.commits.ended.sent mid new (committed start mid_net) closed.net (e.queue ++ mid_net.held.notices) closed.queue closed.commits.ended.all)) (left_events closed.net.left, refl)),
)
closed_count Tells kind (ends.Failed cause) checkpoint unread text start mid new mid_net e now_e closed =
    let still = follows_still Tells (rule_at e.rule kind) closed.later_text closed.undone new (all_told closed.undone_net e.queue (record e { rest = []; failed = e.failed + 1 })) now_e closed.follows in
    (still.events, (left_events closed.undone_net.left, still.queue))

-- so it is with the turns at what is given in place of an event
group_joins : {Own : Type 0} (Tells : Type 0) (fails : Bool) (number : ℕ) (text : List ℕ) (start : ℕ) (new : Seen Own) (t : Turning Own) (e now_e : Focus) → ClosesGroup fails Tells number text start new t e now_e → Joins e.queue now_e.queue
group_joins Tells false number text start new t e now_e closed =
    subst (λ (x : Focus). Joins e.queue x.queue) (sym closed.engine) (joins-then e.queue closed.queue (closed.queue ++ left_events closed.net.left)
    (joins-then e.queue (e.queue ++ t.net.held.notices) closed.queue (t.net.held.notices, refl)
    (release-joins Tells t.net.held.packets closed.commits.ended.sent t.seen new (committed start t.net) closed.net (e.queue ++ t.net.held.notices) closed.queue closed.commits.ended.all)) (left_events closed.net.left, refl))
group_joins Tells true number text start new t e now_e closed = (left_events closed.undone_net.left, ap (λ (x : Focus). x.queue) closed.starts.engine)

instead_joins : {Own : Type 0} (Tells : Type 0) (accepts : List TableView → Bool) (events : List Event) (stops : Bool) (text : List ℕ) (old new : Seen Own) (e now_e : Focus) → TakesInstead Tells accepts events stops text old new e now_e → Joins e.queue now_e.queue
instead_joins Tells accepts [] stops text old new e now_e none = joins-none e.queue now_e.queue (ap (λ (x : Focus). x.queue) none.1)
instead_joins Tells accepts (event ∷ events) stops text old new e now_e some =
    let g = some.0 in
    group_joins Tells g.turning.fails (length (event ∷ events)) text (length e.net.log) new g.turning e now_e g.closed

offered-joins : {Own : Type 0} (Tells : Type 0) (accepts : List TableView → Bool) (event : Event) (number i : ℕ) (takes stops : Bool) (text : List ℕ) (from to : Between Own) (a now_a : Application) → IsOffered Tells accepts event number i takes stops text from to a now_a → Joins from.queue to.queue
offered-joins Tells accepts event number i true stops text from to a now_a one =
    let e = focus i a from.net from.queue number in
    let h = one.takes in
    let takes = h.takes in
    let turn = closed_count Tells event.kind takes.end (handed takes.turns.outcome) takes.unread h.front_text (length from.net.log) takes.mid h.mid takes.mid_net e h.mid_e takes.closed in
    joins-then from.queue h.mid_e.queue to.queue turn.1
    (instead_joins Tells accepts (instead_if (end_fails takes.end) h.mid_e.alive h.mid_e.rule event) h.stopped h.later_text h.mid to.seen h.mid_e (focus i now_a to.net to.queue number) h.later)
offered-joins Tells accepts event number i false stops text from to a now_a passed = joins-none from.queue to.queue (ap (λ (x : Between _). x.queue) passed.0)

later-joins : {Own : Type 0} (Tells : Type 0) (accepts : List TableView → Bool) (event : Event) (number i : ℕ) (more : List Application) (text : List ℕ) (mid to : Between Own) (later_apps : List Application) (stopped stops : Bool)
    → if_stopped stops (AreLeftOut more mid to text later_apps stopped) (Offers Tells accepts event number i more text mid to later_apps stopped) → (Offers Tells accepts event number i more text mid to later_apps stopped → Joins mid.queue to.queue) → Joins mid.queue to.queue
later-joins Tells accepts event number i more text mid to later_apps stopped true out go = joins-none mid.queue to.queue (ap (λ (x : Between _). x.queue) out.0)
later-joins Tells accepts event number i more text mid to later_apps stopped false offers go = go offers

offers-join : {Own : Type 0} (Tells : Type 0) (accepts : List TableView → Bool) (event : Event) (number i : ℕ) (apps : List Application) (text : List ℕ) (from to : Between Own) (now_apps : List Application) (stopped : Bool) → Offers Tells accepts event number i apps text from to now_apps stopped → Joins from.queue to.queue
offers-join Tells accepts event number i [] text from to now_apps stopped none = joins-none from.queue to.queue (ap (λ (x : Between _). x.queue) none.0)
offers-join Tells accepts event number i (a ∷ more) text from to now_apps stopped (one, later) =
    joins-then from.queue one.mid.queue to.queue (offered-joins Tells accepts event number i (is_taking event a) one.stops one.front_text from one.mid a one.now_app one.offered)
    (later-joins Tells accepts event number (i + 1) more one.later_text one.mid to one.later_apps stopped one.stops later
    (λ offers. offers-join Tells accepts event number (i + 1) more one.later_text one.mid to one.later_apps stopped offers))

-- one event more was dispatched, and those that wait stay, in front of those that join them
pub dispatch-count : {Own : Type 0} (Tells : Type 0) (accepts : List TableView → Bool) (event : Event) (text : List ℕ) (old new : Seen Own) (e now_e : Engine) → Dispatches Tells accepts event text old new e now_e
    → (now_e.events ≡ e.events + 1) × Joins e.queue now_e.queue
dispatch-count Tells accepts event text old new e now_e d = (d.events_is, offers-join Tells accepts event (e.events + 1) 0 e.apps d.turn_text (between old e) (between new now_e) now_e.apps d.stopped d.offers)

-- ---- The oldest event that waits

queue_taken : {Own : Type 0} (seen : Seen Own) (e : Engine) (queue : List Event) (said : ℕ → Said) (later : Losses) (r : Run) → Stands seen e said later r → Stands seen (record e { queue = queue }) said later (record r { queue = queue })
queue_taken seen e queue said later r s = record {
  calm = s.calm;
  moment = s.moment;
  places = s.places;
  queue = refl;
  events = s.events;
  apps = s.apps;
  released = s.released;
  lost = s.lost;
  losses_is = s.losses_is;
  marks = s.marks;
}

-- it is taken out of the queue, and so much is done at it
taken-moves : {Own : Type 0} (f g : Run → Run) (event : Event) (queue : List Event) (text : List ℕ) (old new : Seen Own) (e now_e : Engine) → ((r : Run) → r.queue ≡ event ∷ queue → g r ≡ f (record r { queue = queue })) → e.queue ≡ event ∷ queue
    → Moves [] f text old new (record e { queue = queue }) now_e → Moves [] g text old new e now_e
taken-moves f g event queue text old new e now_e is waits moves = record {
  told = moves.told;
  batches = moves.batches;
  turns = moves.turns;
  given = moves.given;
  rules = moves.rules;
  read = moves.read;
  read_stimuli = moves.read_stimuli;
  stands = λ said later r fronts s.
      subst (λ (x : Run). Stands new now_e (behind moves.told said) later x) (sym (is r (s.queue ∙ waits)))
      (moves.stands said later (record r { queue = queue }) fronts (queue_taken old e queue said (ahead moves.batches moves.turns later) r s));
  says = λ said later r fronts s.
      ap (text_of (names (rules_of e))) (is r (s.queue ∙ waits))
      ∙ moves.says said later (record r { queue = queue }) fronts (queue_taken old e queue said (ahead moves.batches moves.turns later) r s);
}

-- it is dispatched
pub next-moves : {Own : Type 0} (allows : List Place → Bool) (event : Event) (queue : List Event) (text : List ℕ) (old new : Seen Own) (e now_e : Engine) → e.queue ≡ event ∷ queue
    → Moves [] (dispatch allows event) text old new (record e { queue = queue }) now_e → Moves [] (dispatch_next allows) text old new e now_e
next-moves allows event queue text old new e now_e waits moves =
    taken-moves (dispatch allows event) (dispatch_next allows) event queue text old new e now_e (λ r is. ap (λ (events : List Event). next_dispatched allows events r) is) waits moves

-- so far, to so many
pub next_to-moves : {Own : Type 0} (allows : List Place → Bool) (n : ℕ) (event : Event) (queue : List Event) (text : List ℕ) (old new : Seen Own) (e now_e : Engine) → e.queue ≡ event ∷ queue
    → Moves [] (dispatch_to allows (suc n) event) text old new (record e { queue = queue }) now_e → Moves [] (dispatch_partly allows (suc n)) text old new e now_e
next_to-moves allows n event queue text old new e now_e waits moves =
    taken-moves (dispatch_to allows (suc n) event) (dispatch_partly allows (suc n)) event queue text old new e now_e (λ r is. ap (λ (events : List Event). next_dispatched_to allows (suc n) events r) is) waits moves

-- none waits
pub none-moves : {Own : Type 0} (allows : List Place → Bool) (seen : Seen Own) (e : Engine) → e.queue ≡ [] → Moves [] (dispatch_next allows) [] seen seen e e
none-moves allows seen e none =
    moves-as [] (λ r. r) (dispatch_next allows) [] seen seen e e (λ said later r s. sym (ap (λ (events : List Event). next_dispatched allows events r) (s.queue ∙ none))) (moves-none seen e)
