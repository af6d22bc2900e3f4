-- What an item that the outside tells leaves of the state of a world that keeps its word: what was upcoming before it is the item and what
-- is upcoming behind it; and what the engine does at it moves no switch.
use Rattle.std.specs.Prelude.{◌≡◌, ◌==◌, ℕ, ◌+◌, ◌≤◌, ◌<◌, ◌^◌, ◌⊎◌, Bool, true, false, not, List, [], ◌∷◌, ◌++◌, map, filter, Option, Some, None, Result, Ok, Err, is_some, slice_get, if◌then◌else◌, refl}
use Rattle.std.specs.List.{AllByRecursion}
use Rattle.std.proofs.Common.{sym, ap, ap₂, ◌∙◌, subst, arith, inl, inr}
use Rattle.std.proofs.lemmas.Bool.{cases_Bool, eqb-true, eqb-false, eq-eqb, ne_eqb}
use Rattle.std.proofs.lemmas.List.{append-nil}
use Rattle.std.proofs.lemmas.List.Elements.{filter-append}
use Rattle.of_types.specs.Fields.{IsBytes}
use Rattle.of_types.specs.declared.port_desc.PortDesc.{PortDesc}
use Rattle.of_types.specs.declared.journal.WorldStim.{WorldStim}
use Rattle.of_types.specs.declared.journal.Act.{Act}
use Rattle.of_types.specs.declared.journal.Act.TheVariants.{Sent, Got}
use Rattle.of_wire.specs.declared.message.Message.{Message}
use Rattle.of_wire.specs.declared.message.Message.TheVariants.{Hello, Error, EchoRequest, EchoReply, Vendor, FeaturesRequest, FeaturesReply, GetConfigRequest, GetConfigReply, SetConfig, PacketIn, FlowRemoved, PortStatus, PacketOut, FlowMod, PortMod, StatsRequest, StatsReply, BarrierRequest, BarrierReply, QueueGetConfigRequest, QueueGetConfigReply}
use Rattle.of_wire.specs.declared.message.Envelope.{Envelope}
use Rattle.of_wire.specs.declared.fault.WireFault.{WireFault}
use Rattle.of_wire.specs.Reading.{reading_of}
use Rattle.of_wire.specs.Spelling.{message_size, message_bytes}
use Rattle.of_wire.specs.Grammar.{IsMessage, enveloped}
use Rattle.of_wire.specs.laws.GrammarLaws.{IsRead-reading_of}
use Rattle.of_wire.specs.laws.ReadingLaws.{reading_of-message_bytes}
use Rattle.flow_table.specs.Switch.{Declared, SwitchState}
use Rattle.flow_table.specs.Refusals.{message_refusal}
use Rattle.flow_table.specs.Step.{after_taken, after_message, sent_by_taken, sent_by_message}
use Rattle.app_frames.specs.declared.frame.Event.{Event}
use Rattle.lego_model.specs.Journal.{is_of, stimuli, losses}
use Rattle.lego_model.specs.laws.JournalLaws.{stimuli-append, losses-append, stimuli-nil, acts-nil}
use Rattle.outside.specs.declared.step.WorldStep.{WorldStep}
use Rattle.outside.specs.declared.step.WorldStep.TheVariants.{Acted, TookInto, From, Joined, Left, Moment, Idle, End, Opened, NotOpened, NextFailed, SendLost, RecvLost, SendFailed, RecvFailed}
use Rattle.outside.specs.Seen.{Seen, journal}
use Rattle.outside.specs.laws.SeenLaws.{journal-append}
use Rattle.outside.specs.State.{Link, State, link_of, waits_in, switch_in, waits_of, switch_of, upcoming, with_link, switch_told, message_sends, link_sent, link_told, after_act, after_step, after_steps, state, waiting_in}
use Rattle.outside.specs.laws.StateLaws.{state-append}
use Rattle.outside.specs.Conforming.{AreDeclaredFrom, Conforming}
use Rattle.lego_model.specs.declared.wait.Awaited.{Awaited}
use Rattle.lego_model.specs.declared.wait.Heard.{Heard}
use Rattle.lego_model.specs.declared.wait.Heard.TheVariants.{Reply, Refused, Notice, Echo, Other}
use Rattle.switch_laws.specs.laws.LossLaws.{losses-nil}
use Rattle.net_txn.specs.Net.{NetState}
use Rattle.lego_model.specs.BarrierWaits.{heard, steps_by, echo_reply, wait_steps, reply_got}
use Rattle.net_txn.specs.Views.{rows_at}
use Rattle.net_txn.specs.Arriving.{arrival_steps}
use Rattle.net_txn.specs.Joining.{greeting, greeted_from}
use Rattle.net_txn.specs.JoiningSteps.{JoinsInStep}
use Rattle.net_txn.specs.laws.SaidLaws.{all_two}
use Rattle.switch_laws.specs.laws.StandLaws.{state-links}
use Rattle.lego_model.specs.OrderlySteps.{IsOrderly}
use Rattle.switch_laws.specs.Released.{ReleasesNone}
use Rattle.switch_laws.specs.laws.OrderlyLaws.{echo-none, join-steps-none, released-still, orderly-none, join-steps-orderly}
use Rattle.batch_laws.specs.Items.{answers, Untouched, Rests, TakesMessage, TakesIn, TakesInBy, TakesInAs, DoesFrom, DoesJoined, DoesLeft, HandlesStill, Ascend, Leaves, SameRest, IsSentOrGot, ItemDone, Fresh, IsFresh, Done, IsItem}

-- ---- What waits, of the switches with lower numbers first

-- the links of a world that keeps its word are in order
pub links_ascend : {Own : Type 0} (seen : Seen Own) → Conforming seen → Ascend 1 (state seen).links
links_ascend seen keeps = subst (λ (ds : List Declared). AreDeclaredFrom 1 ds) (sym (state-links seen).declared_is) keeps.declared

pub lower_number : (d e : ℕ) (a b : List ℕ) → Some (From d a) ≡ Some (From e b) → d ≡ e
lower_number d e a b same = cc

pub same_bytes : (d e : ℕ) (a b : List ℕ) → Some (From d a) ≡ Some (From e b) → a ≡ b
same_bytes d e a b same = cc

-- The next message is that of the first switch of which one waits.
record NextWaits (d : ℕ) (bytes : List ℕ) (least : ℕ) (ls : List Link) : Type 0 where
  above : least ≤ d
  first : waiting_in ls ≡ From d bytes ∷ waiting_in (with_link d link_told ls)

waits_here : (d least : ℕ) (bytes : List ℕ) (l : Link) (ls : List Link) → least ≤ l.declared.dpid → (slice_get (waiting_in ls) 0 ≡ Some (From d bytes) → NextWaits d bytes (l.declared.dpid + 1) ls)
    → (ws : List (List ℕ)) → l.waits ≡ ws → slice_get (map (From l.declared.dpid) ws ++ waiting_in ls) 0 ≡ Some (From d bytes) → NextWaits d bytes least (l ∷ ls)
unfolding link_told
waits_here d least bytes l ls asc rest [] is next =
    let later = rest next in
    let apart : (l.declared.dpid == d) ≡ false = ne_eqb l.declared.dpid d (λ same. absurd (omega (arith, same, later.above))) in
    record {
      above = omega (arith, asc, later.above);
      first = rw (apart, is) later.first;
    }
waits_here d least bytes l ls asc rest (w ∷ ws) is next =
    let number : l.declared.dpid ≡ d = lower_number l.declared.dpid d w bytes next in
    let here : (l.declared.dpid == d) ≡ true = eq-eqb l.declared.dpid d number in
    let message : w ≡ bytes = same_bytes l.declared.dpid d w bytes next in
    let told : map (From l.declared.dpid) ws ++ waiting_in ls ≡ waiting_in (with_link d link_told (l ∷ ls)) = rw (here, is) refl in
    record {
      above = omega (arith, asc, number);
      first = ap (λ (xs : List (List ℕ)). map (From l.declared.dpid) xs ++ waiting_in ls) is ∙ ap₂ (λ (n : ℕ) (b : List ℕ). From n b ∷ (map (From l.declared.dpid) ws ++ waiting_in ls)) number message ∙ ap (λ (xs : List WorldStep). From d bytes ∷ xs) told;
    }

waits_first : (d least : ℕ) (bytes : List ℕ) (ls : List Link) → Ascend least ls → slice_get (waiting_in ls) 0 ≡ Some (From d bytes) → NextWaits d bytes least ls
waits_first d least bytes [] asc next = absurd cc
waits_first d least bytes (l ∷ ls) asc next =
    waits_here d least bytes l ls asc.0 (waits_first d (l.declared.dpid + 1) bytes ls asc.2) l.waits refl next

pub told_first : (d least : ℕ) (bytes : List ℕ) (ls : List Link) → Ascend least ls → slice_get (waiting_in ls) 0 ≡ Some (From d bytes) → waiting_in ls ≡ From d bytes ∷ waiting_in (with_link d link_told ls)
told_first d least bytes ls asc next = (waits_first d least bytes ls asc next).first

-- Nothing waits of any switch exactly where nothing waits.
no_link : (d least : ℕ) (ls : List Link) → Ascend least ls → d < least → link_of d ls ≡ None
no_link d least [] asc lt = refl
no_link d least (l ∷ ls) asc lt =
    let apart : (l.declared.dpid == d) ≡ false = ne_eqb l.declared.dpid d (λ same. absurd (omega (arith, same, asc.0, lt))) in
    rw apart (no_link d (l.declared.dpid + 1) ls asc.2 (omega (arith, asc.0, lt)))

waits_behind : (d : ℕ) (l : Link) (ls : List Link) → Ascend (l.declared.dpid + 1) ls → waits_in (link_of d (l ∷ ls)) ≡ [] → waits_in (link_of d ls) ≡ []
waits_behind d l ls asc none =
    elim (cases_Bool (l.declared.dpid == d)) [
      | inl here ↦ ap waits_in (no_link d (l.declared.dpid + 1) ls asc (omega (arith, eqb-true l.declared.dpid d here)))
      | inr other ↦ rw other at none
    ]

pub none_waiting : (least : ℕ) (ls : List Link) → Ascend least ls → ((d : ℕ) → waits_in (link_of d ls) ≡ []) → waiting_in ls ≡ []
none_waiting least [] asc none = refl
none_waiting least (l ∷ ls) asc none =
    let self : (l.declared.dpid == l.declared.dpid) ≡ true = eq-eqb l.declared.dpid l.declared.dpid refl in
    let found : link_of l.declared.dpid (l ∷ ls) ≡ Some l = rw self refl in
    let here : l.waits ≡ [] = ap waits_in (sym found) ∙ none l.declared.dpid in
    let rest : waiting_in ls ≡ [] = none_waiting (l.declared.dpid + 1) ls asc.2 (λ d. waits_behind d l ls asc.2 (none d)) in
    rw (here, rest) refl

none_mapped : (d : ℕ) (ws : List (List ℕ)) (rest : List WorldStep) → map (From d) ws ++ rest ≡ [] → (ws ≡ []) × (rest ≡ [])
none_mapped d [] rest none = (refl, none)
none_mapped d (w ∷ ws) rest none = absurd cc

pub none_waits : (d : ℕ) (ls : List Link) → waiting_in ls ≡ [] → waits_in (link_of d ls) ≡ []
none_waits d [] none = refl
none_waits d (l ∷ ls) none =
    let parts = none_mapped l.declared.dpid l.waits (waiting_in ls) none in
    elim (cases_Bool (l.declared.dpid == d)) [
      | inl here ↦ rw here parts.0
      | inr other ↦ rw other (none_waits d ls parts.1)
    ]

-- ---- A change of a link that moves no switch and of which nothing more waits

record Still (change : Link → Link) : Type 0 where
  declared : (l : Link) → (change l).declared ≡ l.declared
  switch : (l : Link) → (change l).switch ≡ l.switch
  waits : (l : Link) → (change l).waits ≡ l.waits

still_waiting : (d : ℕ) (change : Link → Link) → Still change → (ls : List Link) → waiting_in (with_link d change ls) ≡ waiting_in ls
still_waiting d change still [] = refl
still_waiting d change still (l ∷ ls) =
    elim (cases_Bool (l.declared.dpid == d)) [
      | inl here ↦ rw here (ap₂ (λ (n : ℕ) (ws : List (List ℕ)). map (From n) ws ++ waiting_in ls) (ap (λ (x : Declared). x.dpid) (still.declared l)) (still.waits l))
      | inr other ↦ rw other (ap (λ (xs : List WorldStep). map (From l.declared.dpid) l.waits ++ xs) (still_waiting d change still ls))
    ]

switch_if : (e : ℕ) (change : Link → Link) → Still change → (l : Link) (ls : List Link) (at : Bool) → switch_in (if at then Some (change l) else link_of e ls) ≡ switch_in (if at then Some l else link_of e ls)
switch_if e change still l ls true = still.switch l
switch_if e change still l ls false = refl

switch_behind : (e : ℕ) (l : Link) (xs ys : List Link) (at : Bool) → switch_in (link_of e xs) ≡ switch_in (link_of e ys) → switch_in (if at then Some l else link_of e xs) ≡ switch_in (if at then Some l else link_of e ys)
switch_behind e l xs ys true rest = refl
switch_behind e l xs ys false rest = rest

still_switch : (d e : ℕ) (change : Link → Link) → Still change → (ls : List Link) → switch_in (link_of e (with_link d change ls)) ≡ switch_in (link_of e ls)
still_switch d e change still [] = refl
still_switch d e change still (l ∷ ls) =
    elim (cases_Bool (l.declared.dpid == d)) [
      | inl here ↦ rw here (ap (λ (x : Declared). switch_in (if x.dpid == e then Some (change l) else link_of e ls)) (still.declared l) ∙ switch_if e change still l ls (l.declared.dpid == e))
      | inr other ↦ rw other (switch_behind e l (with_link d change ls) ls (l.declared.dpid == e) (still_switch d e change still ls))
    ]

-- ---- What the engine does leaves this of a state

pub leaves_all : (s : State) → Leaves s s
leaves_all s = record {
  besides = record { opened = refl; running = refl; moment = refl; to_come = refl; marks = refl };
  begun = refl;
  due = refl;
  switches = λ d. refl;
  upcoming_is = refl;
}

-- ---- Calls of links

sent_is : (d : ℕ) (bytes : List ℕ) → IsSentOrGot (Acted (Sent d bytes))
sent_is d bytes = (d, bytes, inl refl)

got_is : (d : ℕ) (bytes : List ℕ) → IsSentOrGot (Acted (Got d bytes))
got_is d bytes = (d, bytes, inr refl)

pub rest_all : (s : State) → SameRest s s
rest_all s = record { besides = record { opened = refl; running = refl; moment = refl; to_come = refl; marks = refl }; begun = refl; due = refl }

rest_sent : (d : ℕ) (bytes : List ℕ) (s : State) → SameRest s (after_step (Acted (Sent d bytes)) s)
unfolding after_step after_act
rest_sent d bytes s = record { besides = record { opened = refl; running = refl; moment = refl; to_come = refl; marks = refl }; begun = refl; due = refl }

rest_got : (d : ℕ) (bytes : List ℕ) (s : State) → SameRest s (after_step (Acted (Got d bytes)) s)
unfolding after_step after_act
rest_got d bytes s = record { besides = record { opened = refl; running = refl; moment = refl; to_come = refl; marks = refl }; begun = refl; due = refl }

rest_by : (step : WorldStep) (d : ℕ) (bytes : List ℕ) (s : State) → (step ≡ Acted (Sent d bytes)) ⊎ (step ≡ Acted (Got d bytes)) → SameRest s (after_step step s)
rest_by step d bytes s (inl is) = subst (λ (x : WorldStep). SameRest s (after_step x s)) (sym is) (rest_sent d bytes s)
rest_by step d bytes s (inr is) = subst (λ (x : WorldStep). SameRest s (after_step x s)) (sym is) (rest_got d bytes s)

pub rest_then : (r s t : State) → SameRest r s → SameRest s t → SameRest r t
rest_then r s t first later = record {
  besides = record {
    opened = later.besides.opened ∙ first.besides.opened;
    running = later.besides.running ∙ first.besides.running;
    moment = later.besides.moment ∙ first.besides.moment;
    to_come = later.besides.to_come ∙ first.besides.to_come;
    marks = later.besides.marks ∙ first.besides.marks;
  };
  begun = later.begun ∙ first.begun;
  due = later.due ∙ first.due;
}

rest_steps : (steps : List WorldStep) (s : State) → AllByRecursion IsSentOrGot steps → SameRest s (after_steps steps s)
rest_steps [] s all = rest_all s
rest_steps (step ∷ steps) s all =
    rest_then s (after_step step s) (after_steps steps (after_step step s)) (rest_by step all.0.0 all.0.1 s all.0.2) (rest_steps steps (after_step step s) all.1)

-- they are no stimuli and no losses, and none is of an application
abbrev TellsNothing : WorldStep → Type 0
TellsNothing step = (steps : List WorldStep) (app : ℕ)
    → (stimuli (journal (step ∷ steps)) ≡ stimuli (journal steps)) × (filter (is_of app) (journal (step ∷ steps)) ≡ filter (is_of app) (journal steps)) × (losses (journal (step ∷ steps)) ≡ losses (journal steps))

sent_tells : (d : ℕ) (bytes : List ℕ) → TellsNothing (Acted (Sent d bytes))
unfolding stimuli journal losses
sent_tells d bytes steps app = (refl, refl, refl)

got_tells : (d : ℕ) (bytes : List ℕ) → TellsNothing (Acted (Got d bytes))
unfolding stimuli journal losses
got_tells d bytes steps app = (refl, refl, refl)

tells_by : (step : WorldStep) (d : ℕ) (bytes : List ℕ) → (step ≡ Acted (Sent d bytes)) ⊎ (step ≡ Acted (Got d bytes)) → TellsNothing step
tells_by step d bytes (inl is) = subst (λ (x : WorldStep). TellsNothing x) (sym is) (sent_tells d bytes)
tells_by step d bytes (inr is) = subst (λ (x : WorldStep). TellsNothing x) (sym is) (got_tells d bytes)

stimuli_none : (steps : List WorldStep) → AllByRecursion IsSentOrGot steps → stimuli (journal steps) ≡ []
stimuli_none [] all = stimuli-nil
stimuli_none (step ∷ steps) all = (tells_by step all.0.0 all.0.1 all.0.2 steps 0).0 ∙ stimuli_none steps all.1

acts_none : (app : ℕ) (steps : List WorldStep) → AllByRecursion IsSentOrGot steps → filter (is_of app) (journal steps) ≡ []
acts_none app [] all = acts-nil app
acts_none app (step ∷ steps) all = (tells_by step all.0.0 all.0.1 all.0.2 steps app).1 ∙ acts_none app steps all.1

losses_none : (steps : List WorldStep) → AllByRecursion IsSentOrGot steps → losses (journal steps) ≡ []
losses_none [] all = losses-nil
losses_none (step ∷ steps) all = (tells_by step all.0.0 all.0.1 all.0.2 steps 0).2 ∙ losses_none steps all.1

-- ---- What an item leaves, from where it was told

none_done : {Own : Type 0} (mid : Seen Own) → ItemDone mid mid
none_done mid = record { given = refl; lost = refl; leaves = leaves_all (state mid); stimuli_is = refl; acts = λ app. refl; released = refl; orderly = λ app. orderly-none app mid }

untouched_done : {Own : Type 0} (mid new : Seen Own) → new ≡ mid → ItemDone mid new
untouched_done mid new is = subst (λ (x : Seen _). ItemDone mid x) (sym is) (none_done mid)

links_done : {Own : Type 0} (mid new : Seen Own) (steps : List WorldStep) → new.given ≡ mid.given → new.history ≡ mid.history ++ steps → AllByRecursion IsSentOrGot steps → ReleasesNone steps → ((app : ℕ) → AllByRecursion (IsOrderly app) steps) → Leaves (state mid) (state new) → ItemDone mid new
links_done mid new steps given longer all none orderly leaves = record {
  given = given;
  lost = ap (λ (h : List WorldStep). losses (journal h)) longer ∙ ap losses (journal-append mid.history steps) ∙ losses-append (journal mid.history) (journal steps)
      ∙ ap (λ (xs : List ℕ). losses (journal mid.history) ++ xs) (losses_none steps all) ∙ append-nil (losses (journal mid.history));
  leaves = leaves;
  stimuli_is = ap (λ (h : List WorldStep). stimuli (journal h)) longer ∙ ap stimuli (journal-append mid.history steps) ∙ stimuli-append (journal mid.history) (journal steps)
      ∙ ap (λ (xs : List WorldStim). stimuli (journal mid.history) ++ xs) (stimuli_none steps all) ∙ append-nil (stimuli (journal mid.history));
  acts = λ app. ap (λ (h : List WorldStep). filter (is_of app) (journal h)) longer ∙ ap (filter (is_of app)) (journal-append mid.history steps) ∙ filter-append (is_of app) (journal mid.history) (journal steps)
      ∙ ap (λ (xs : List Act). filter (is_of app) (journal mid.history) ++ xs) (acts_none app steps all) ∙ append-nil (filter (is_of app) (journal mid.history));
  released = released-still mid new steps longer none;
  orderly = λ app. record { steps = steps; history = longer; orderly = orderly app };
}

-- ---- An ECHO_REQUEST is answered

echo_switch : (xid : ℕ) (payload : List ℕ) (o : Option SwitchState) → switch_told (Ok (enveloped xid (EchoReply payload))) o ≡ o
unfolding after_message message_refusal after_taken
echo_switch xid payload None = refl
echo_switch xid payload (Some s) = refl

echo_sends : (xid : ℕ) (payload : List ℕ) (o : Option SwitchState) → message_sends (Ok (enveloped xid (EchoReply payload))) o ≡ []
unfolding sent_by_message message_refusal sent_by_taken
echo_sends xid payload None = refl
echo_sends xid payload (Some s) = refl

echo_still : (bytes : List ℕ) (xid : ℕ) (payload : List ℕ) → reading_of bytes ≡ Ok (enveloped xid (EchoReply payload)) → Still (link_sent bytes)
unfolding link_sent
echo_still bytes xid payload read = record {
  declared = λ l. refl;
  switch = λ l. ap (λ (r : Result Envelope WireFault). switch_told r l.switch) read ∙ echo_switch xid payload l.switch;
  waits = λ l. ap (λ (r : Result Envelope WireFault). l.waits ++ message_sends r l.switch) read ∙ ap (λ (xs : List (List ℕ)). l.waits ++ xs) (echo_sends xid payload l.switch) ∙ append-nil l.waits;
}

still_leaves : (d : ℕ) (bytes : List ℕ) → Still (link_sent bytes) → (s : State) → Leaves s (after_step (Acted (Sent d bytes)) s)
unfolding after_step after_act upcoming switch_of
still_leaves d bytes still s = record {
  besides = record { opened = refl; running = refl; moment = refl; to_come = refl; marks = refl };
  begun = refl;
  due = refl;
  switches = λ e. still_switch d e (link_sent bytes) still s.links;
  upcoming_is = ap (λ (xs : List WorldStep). s.due ++ xs) (still_waiting d (link_sent bytes) still s.links);
}

IsMessage-echo : (payload : List ℕ) → IsMessage (EchoRequest payload) → IsMessage (EchoReply payload)
unfolding message_size
IsMessage-echo payload is = record { fields = tt; tail = tt; size = is.size }

echo_leaves : (d xid : ℕ) (payload : List ℕ) → xid < 2 ^ 32 → IsMessage (EchoRequest payload) → (s : State) → Leaves s (after_step (Acted (Sent d (message_bytes xid (EchoReply payload)))) s)
echo_leaves d xid payload lt is s =
    let bytes = message_bytes xid (EchoReply payload) in
    still_leaves d bytes (echo_still bytes xid payload (reading_of-message_bytes xid (EchoReply payload) lt (IsMessage-echo payload is))) s

record IsAnswered (steps : List WorldStep) (s : State) : Type 0 where
  all : AllByRecursion IsSentOrGot steps
  none : ReleasesNone steps
  orderly : (app : ℕ) → AllByRecursion (IsOrderly app) steps
  leaves : Leaves s (after_steps steps s)

none_answered : (s : State) → IsAnswered [] s
none_answered s = record { all = tt; none = tt; orderly = λ app. tt; leaves = leaves_all s }

arrival_answered : (d xid : ℕ) (m : Message) → xid < 2 ^ 32 → IsMessage m → (s : State) → IsAnswered (arrival_steps d xid m) s
arrival_answered d xid (Hello payload) lt is s = none_answered s
arrival_answered d xid (Error kind code payload) lt is s = none_answered s
arrival_answered d xid (EchoRequest payload) lt is s = record { all = (sent_is d (message_bytes xid (EchoReply payload)), tt); none = (echo-none d xid payload, tt); orderly = λ app. (tt, tt); leaves = echo_leaves d xid payload lt is s }
arrival_answered d xid (EchoReply payload) lt is s = none_answered s
arrival_answered d xid (Vendor payload) lt is s = none_answered s
arrival_answered d xid FeaturesRequest lt is s = none_answered s
arrival_answered d xid (FeaturesReply features) lt is s = none_answered s
arrival_answered d xid GetConfigRequest lt is s = none_answered s
arrival_answered d xid (GetConfigReply config) lt is s = none_answered s
arrival_answered d xid (SetConfig config) lt is s = none_answered s
arrival_answered d xid (PacketIn packet) lt is s = none_answered s
arrival_answered d xid (FlowRemoved flow) lt is s = none_answered s
arrival_answered d xid (PortStatus status) lt is s = none_answered s
arrival_answered d xid (PacketOut packet) lt is s = none_answered s
arrival_answered d xid (FlowMod flow) lt is s = none_answered s
arrival_answered d xid (PortMod change) lt is s = none_answered s
arrival_answered d xid (StatsRequest stats) lt is s = none_answered s
arrival_answered d xid (StatsReply stats) lt is s = none_answered s
arrival_answered d xid BarrierRequest lt is s = none_answered s
arrival_answered d xid BarrierReply lt is s = none_answered s
arrival_answered d xid (QueueGetConfigRequest payload) lt is s = none_answered s
arrival_answered d xid (QueueGetConfigReply payload) lt is s = none_answered s

answered : (d : ℕ) (bytes : List ℕ) (r : Result Envelope WireFault) → IsBytes bytes → reading_of bytes ≡ r → (s : State) → IsAnswered (answers d r) s
answered d bytes (Ok e) fit read s = let is = IsRead-reading_of bytes e fit read in arrival_answered d e.xid e.message is.xid is.message s
answered d bytes (Err fault) fit read s = none_answered s

message_done : {Own Tells : Type 0} {d : ℕ} {bytes : List ℕ} {mid new : Seen Own} {net now_net : NetState} → Tells → new.given ≡ mid.given → TakesMessage Tells d bytes mid new net now_net → ItemDone mid new
message_done {d = d} {bytes = bytes} {mid = mid} {new = new} told given takes =
    let steps = answers d (reading_of bytes) in
    let is = answered d bytes (reading_of bytes) takes.fit refl (state mid) in
    links_done mid new steps given (takes.told told) is.all is.none is.orderly (subst (λ (t : State). Leaves (state mid) t) (sym (state-append mid new steps given (takes.told told))) is.leaves)

-- ---- A switch joins that is empty

heard_links : (d : ℕ) (h : Heard) (bytes : List ℕ) → AllByRecursion IsSentOrGot (steps_by d h bytes)
heard_links d Reply bytes = tt
heard_links d (Refused r) bytes = tt
heard_links d Notice bytes = tt
heard_links d Echo bytes = (sent_is d (echo_reply bytes), tt)
heard_links d Other bytes = tt

wait_links : (a : Awaited) (got : List (List ℕ)) → AllByRecursion IsSentOrGot (wait_steps a got)
wait_links a [] = tt
wait_links a (b ∷ bs) = (got_is a.dpid b, all_two IsSentOrGot (steps_by a.dpid (heard a b) b) (wait_steps a bs) (heard_links a.dpid (heard a b) b) (wait_links a bs))

join_links : (d xid : ℕ) (got : List (List ℕ)) → AllByRecursion IsSentOrGot (greeting d xid ++ (wait_steps (greeted_from d xid) got ++ reply_got (greeted_from d xid) ∷ []))
join_links d xid got =
    let a = greeted_from d xid in
    (sent_is d _, (sent_is d _, (sent_is d _, all_two IsSentOrGot (wait_steps a got) (reply_got a ∷ []) (wait_links a got) (got_is d _, tt))))

joins_leave : {Own : Type 0} {d : ℕ} {mid new : Seen Own} {net now_net : NetState} → Conforming mid → Conforming new → Fresh d (state mid) → SameRest (state mid) (state new) → JoinsInStep d mid new net now_net → Leaves (state mid) (state new)
unfolding upcoming waits_of
joins_leave {d = d} {mid = mid} {new = new} kept keeps fresh rest steps =
    let before : waiting_in (state mid).links ≡ [] = none_waiting 1 (state mid).links (links_ascend mid kept) fresh.waits in
    let waits : (e : ℕ) → waits_of e (state new) ≡ [] = λ e. elim (cases_Bool (e == d)) [
      | inl here ↦ subst (λ (n : ℕ). waits_of n (state new) ≡ []) (sym (eqb-true e d here)) steps.waits
      | inr other ↦ steps.others_wait e (eqb-false e d other) ∙ fresh.waits e
    ] in
    let after : waiting_in (state new).links ≡ [] = none_waiting 1 (state new).links (links_ascend new keeps) waits in
    record {
      besides = rest.besides;
      begun = rest.begun;
      due = rest.due;
      switches = λ e. elim (cases_Bool (e == d)) [
        | inl here ↦ subst (λ (n : ℕ). switch_of n (state new) ≡ switch_of n (state mid)) (sym (eqb-true e d here)) (steps.stays fresh.switch fresh.joined fresh.empty fresh.config ∙ sym fresh.joined)
        | inr other ↦ steps.others e (eqb-false e d other)
      ];
      upcoming_is = ap₂ (λ (due waits : List WorldStep). due ++ waits) rest.due (after ∙ sym before);
    }

join_done : {Own Tells : Type 0} {d : ℕ} {ports : List PortDesc} {mid new : Seen Own} {net now_net : NetState} → Tells → Conforming mid → Conforming new → new.given ≡ mid.given → Fresh d (state mid)
    → TakesIn Tells d ports mid new net now_net → ItemDone mid new × (now_net.kept ≡ net.kept)
join_done {d = d} {mid = mid} {new = new} {net = net} told kept keeps given fresh takes =
    let hears = takes.joins.waits.hears in
    let got = takes.joins.waits.got in
    let a = greeted_from d net.xid in
    let steps = greeting d net.xid ++ (wait_steps a got ++ reply_got a ∷ []) in
    let all = join_links d net.xid got in
    let in_step = takes.in_step told keeps (fresh.waits d) in
    let after = state-append mid new steps given (hears.told told) in
    let rest : SameRest (state mid) (state new) = subst (λ (t : State). SameRest (state mid) t) (sym after) (rest_steps steps (state mid) all) in (
      links_done mid new steps given (hears.told told) all (join-steps-none d net.xid got) (λ app. join-steps-orderly app d net.xid got) (joins_leave kept keeps fresh rest in_step),
      in_step.kept,
    )

-- ---- The whole

untouched : {Own : Type 0} {mid new : Seen Own} {net now_net : NetState} → net.kept ≡ [] → Untouched mid new net now_net → Done mid new now_net
untouched {mid = mid} {new = new} none is = record { done = untouched_done mid new is.seen; kept = is.kept ∙ none }

rested : {Own : Type 0} {mid new : Seen Own} {net now_net : NetState} → net.kept ≡ [] → Rests mid new net now_net → Done mid new now_net
rested {mid = mid} {new = new} none is = record { done = untouched_done mid new is.seen; kept = ap (λ (n : NetState). n.kept) is.same ∙ none }

from_done : {Own Tells : Type 0} {mid new : Seen Own} (net now_net : NetState) (d : ℕ) (bytes : List ℕ) (known : Bool) → Tells → new.given ≡ mid.given → net.kept ≡ [] → DoesFrom Tells d bytes known mid new net now_net → Done mid new now_net
from_done net now_net d bytes true told given none does = record { done = message_done told given does; kept = does.kept ∙ none }
from_done net now_net d bytes false told given none does = untouched none does

left_done : {Own : Type 0} (mid new : Seen Own) (net now_net : NetState) (d : ℕ) (known : Bool) → net.kept ≡ [] → DoesLeft d known mid new net now_net → Done mid new now_net
left_done mid new net now_net d true none does = record { done = untouched_done mid new does.seen; kept = does.kept ∙ ap (λ (xs : List (ℕ × List ℕ)). filter (λ m. not (m.0 == d)) xs) none }
left_done mid new net now_net d false none does = untouched none does

joined_by : {Own Tells : Type 0} {mid new : Seen Own} (net now_net : NetState) (d : ℕ) (m : Message) → Tells → Conforming mid → Conforming new → new.given ≡ mid.given → net.kept ≡ [] → Fresh d (state mid)
    → TakesInBy Tells d m mid new net now_net → Done mid new now_net
joined_by net now_net d (Hello payload) told kept keeps given none fresh does = untouched none does
joined_by net now_net d (Error kind code payload) told kept keeps given none fresh does = untouched none does
joined_by net now_net d (EchoRequest payload) told kept keeps given none fresh does = untouched none does
joined_by net now_net d (EchoReply payload) told kept keeps given none fresh does = untouched none does
joined_by net now_net d (Vendor payload) told kept keeps given none fresh does = untouched none does
joined_by net now_net d FeaturesRequest told kept keeps given none fresh does = untouched none does
joined_by net now_net d (FeaturesReply features) told kept keeps given none fresh does = let is = join_done told kept keeps given fresh does in record { done = is.0; kept = is.1 ∙ none }
joined_by net now_net d GetConfigRequest told kept keeps given none fresh does = untouched none does
joined_by net now_net d (GetConfigReply config) told kept keeps given none fresh does = untouched none does
joined_by net now_net d (SetConfig config) told kept keeps given none fresh does = untouched none does
joined_by net now_net d (PacketIn packet) told kept keeps given none fresh does = untouched none does
joined_by net now_net d (FlowRemoved flow) told kept keeps given none fresh does = untouched none does
joined_by net now_net d (PortStatus status) told kept keeps given none fresh does = untouched none does
joined_by net now_net d (PacketOut packet) told kept keeps given none fresh does = untouched none does
joined_by net now_net d (FlowMod flow) told kept keeps given none fresh does = untouched none does
joined_by net now_net d (PortMod change) told kept keeps given none fresh does = untouched none does
joined_by net now_net d (StatsRequest stats) told kept keeps given none fresh does = untouched none does
joined_by net now_net d (StatsReply stats) told kept keeps given none fresh does = untouched none does
joined_by net now_net d BarrierRequest told kept keeps given none fresh does = untouched none does
joined_by net now_net d BarrierReply told kept keeps given none fresh does = untouched none does
joined_by net now_net d (QueueGetConfigRequest payload) told kept keeps given none fresh does = untouched none does
joined_by net now_net d (QueueGetConfigReply payload) told kept keeps given none fresh does = untouched none does

joined_as : {Own Tells : Type 0} {mid new : Seen Own} (net now_net : NetState) (d : ℕ) (r : Result Envelope WireFault) → Tells → Conforming mid → Conforming new → new.given ≡ mid.given → net.kept ≡ [] → Fresh d (state mid)
    → TakesInAs Tells d r mid new net now_net → Done mid new now_net
joined_as net now_net d (Ok e) told kept keeps given none fresh does = joined_by net now_net d e.message told kept keeps given none fresh does
joined_as net now_net d (Err fault) told kept keeps given none fresh does = untouched none does

joined_done : {Own Tells : Type 0} {mid new : Seen Own} (net now_net : NetState) (d : ℕ) (bytes : List ℕ) (known : Bool) → Tells → Conforming mid → Conforming new → new.given ≡ mid.given → net.kept ≡ [] → Fresh d (state mid)
    → DoesJoined Tells d bytes known mid new net now_net → Done mid new now_net
joined_done net now_net d bytes true told kept keeps given none fresh does = untouched none does
joined_done net now_net d bytes false told kept keeps given none fresh does = joined_as net now_net d (reading_of bytes) told kept keeps given none fresh does

pub item_done : {Own Tells : Type 0} {mid new : Seen Own} {net now_net : NetState} {queue now_queue : List Event} {text : List ℕ} (item : WorldStep) → IsItem item → Tells → Conforming mid → Conforming new → net.kept ≡ [] → IsFresh item (state mid) → new.given ≡ mid.given
    → HandlesStill Tells item text mid new net now_net queue now_queue → Done mid new now_net
item_done {net = net} {now_net = now_net} (From d bytes) is told kept keeps none fresh given handles = from_done net now_net d bytes (is_some (rows_at d net.views)) told given none handles.does
item_done {net = net} {now_net = now_net} (Joined d bytes) is told kept keeps none fresh given handles = joined_done net now_net d bytes (is_some (rows_at d net.views)) told kept keeps given none fresh handles.does
item_done {mid = mid} {new = new} {net = net} {now_net = now_net} (Left d) is told kept keeps none fresh given handles = left_done mid new net now_net d (is_some (rows_at d net.views)) none handles.does
item_done (Moment t) is told kept keeps none fresh given handles = untouched none handles.does
item_done {mid = mid} {new = new} Idle is told kept keeps none fresh given handles = rested none handles.does
item_done {mid = mid} {new = new} End is told kept keeps none fresh given handles = rested none handles.does
item_done (Acted act) is told kept keeps none fresh given handles = absurd is
item_done (TookInto app what room) is told kept keeps none fresh given handles = absurd is
item_done Opened is told kept keeps none fresh given handles = absurd is
item_done NotOpened is told kept keeps none fresh given handles = absurd is
item_done NextFailed is told kept keeps none fresh given handles = absurd is
item_done (SendLost d) is told kept keeps none fresh given handles = absurd is
item_done (RecvLost d) is told kept keeps none fresh given handles = absurd is
item_done (SendFailed d) is told kept keeps none fresh given handles = absurd is
item_done (RecvFailed d) is told kept keeps none fresh given handles = absurd is
