-- Laws of what goes on with the dialogue with the application.
use Rattle.std.proofs.Common.{◌≡◌, ◌<◌, ◌+◌, ℕ, true, Bool, List, [], ◌∷◌, ◌++◌, filter, length, Option, Some, None, Result, Ok, Err, refl, sym, ap, ◌∙◌, subst, arith, inl, inr}
use Rattle.std.proofs.lemmas.Bool.{cases_eq}
use Rattle.of_types.specs.declared.journal.WorldStim.{WorldStim}
use Rattle.lego_model.specs.Journal.{is_of, is_event}
use Rattle.lego_model.specs.Controller.{attempts}
use Rattle.app_frames.specs.declared.cause.Tried.{Tried}
use Rattle.lego_model.specs.AtOnce.{Before, at_first as nobody_yet, Passes, Dialogue, AtOnce}
use Rattle.flow_table.specs.View.{TableView}
use Rattle.app_frames.specs.declared.frame.Event.{Event}
use Rattle.outside.specs.declared.faults.NextFault.{NextFault}
use Rattle.outside.specs.declared.faults.NextFault.TheVariants as coming
use Rattle.outside.specs.declared.item.Item.{Item}
use Rattle.outside.specs.declared.item.Item.TheVariants as items
use Rattle.outside.specs.declared.step.WorldStep.{WorldStep}
use Rattle.outside.specs.Seen.{Seen, journal}
use Rattle.outside.specs.State.{state, is_running}
use Rattle.outside.specs.Calls.{Nexts, Ends, next_steps, stim_steps, item_step}
use Rattle.run_laws.specs.laws.FinishLaws.{each-at}
use Rattle.net_txn.specs.LinkSteps.{OnLinks}
use Rattle.net_txn.specs.Net.{NetState}
use Rattle.app_visor.specs.declared.state.TurnEnd.{TurnEnd}
use Rattle.app_visor.specs.Attempts.{Restarts}
use Rattle.app_visor.specs.laws.TryLaws.{tries_speak}
use Rattle.app_visor.specs.Dialogues.{Converses, LeadsOn, TalksOn, Talks}
use Rattle.app_visor.specs.laws.LeadsOnLaws.{leads_on_links, leads_on_then}
use Rattle.app_visor.specs.Turns.{Turns}
use Rattle.app_visor.specs.laws.DialogueLaws.{Converses-then}
use Rattle.run_laws.specs.laws.DialogueLaws.{runs_now, others_at_once}
use Rattle.journal_laws.specs.laws.FrameLaws.{event_is}
use Rattle.run_laws.specs.Engine.{Application, Engine, EachFrom}
use Rattle.run_laws.specs.Moves.{IsAtRest}
use Rattle.event_dispatch.specs.declared.closing.Closing.{Closing}
use Rattle.event_dispatch.specs.declared.closing.Closing.TheVariants as closings
use Rattle.event_dispatch.specs.Serves.{PlaysTurn}
use Rattle.event_dispatch.specs.Talking.{KeepsTalking, TurnTalks, GoesOnTalking}
use Rattle.event_dispatch.specs.laws.NoEventLaws.{no_event_none, no_event_then, no_event_links, no_event_next, no_event_own, no_event_ended}
use Rattle.app_visor.specs.CallsFor.{CallsFor, OwnSteps}
use Rattle.app_visor.specs.laws.OwnLaws.{own_calls}
use Rattle.run_laws.specs.laws.OtherLaws.{calls-silent, silent-at-once}
use Rattle.run_laws.specs.laws.LeaveLaws.{end-leaves}

-- ---- Of any application

-- a dialogue from the first act on
converses_at_once : {Own : Type 0} (app : ℕ) (t : Before) (none new : Seen Own) → none.history ≡ [] → Converses app nobody_yet t none new → AtOnce app (journal new.history)
converses_at_once app t none new empty c = record {
  last = t;
  dialogue = subst (λ (steps : List WorldStep). Dialogue app nobody_yet (journal steps) t) (sym (c.history ∙ ap (λ (h : List WorldStep). h ++ c.steps) empty)) c.dialogue;
}

-- the history goes on, and its acts go on with the dialogue
pub leads_at_once : {Own : Type 0} (app : ℕ) (old new : Seen Own) (a : AtOnce app (journal old.history)) → LeadsOn app a.last old new → AtOnce app (journal new.history)
leads_at_once app old new a leads =
    let none : Seen _ = record old { history = [] } in
    converses_at_once app leads.0 none new refl (Converses-then app nobody_yet a.last leads.0 none old new (record { steps = old.history; history = refl; dialogue = a.dialogue }) leads.1)

pub talks_leads : {Own : Type 0} {app : ℕ} {s : Before} {old new : Seen Own} → Talks app s old new → LeadsOn app s old new
talks_leads says = (says.after, says.converses)

-- ---- Whatever it was

pub keeps_none : {Own : Type 0} (Tells : Type 0) (seen : Seen Own) → KeepsTalking Tells seen seen
keeps_none Tells seen = record { talks = λ told app a. a; no_event = λ told. no_event_none seen }

pub keeps_then : {Own : Type 0} (Tells : Type 0) (a b c : Seen Own) → KeepsTalking Tells a b → KeepsTalking Tells b c → KeepsTalking Tells a c
keeps_then Tells a b c first second = record { talks = λ told app said. second.talks told app (first.talks told app said); no_event = λ told. no_event_then (first.no_event told) (second.no_event told) }

-- links were used
pub keeps_links : {Own : Type 0} (Tells : Type 0) (old new : Seen Own) → OnLinks Tells old new → KeepsTalking Tells old new
keeps_links Tells old new links = record { talks = λ told app a. leads_at_once app old new a (leads_on_links app a.last links told); no_event = λ told. no_event_links (links told) }

-- no act of the application was told
item_none : (app : ℕ) (item : Item) (buf : List ℕ) → filter (is_of app) (journal (item_step item buf ∷ [])) ≡ []
unfolding item_step journal
item_none app (items.From d n) buf = refl
item_none app (items.Joined d n) buf = refl
item_none app (items.Left d) buf = refl
item_none app (items.Moment t) buf = refl
item_none app items.Idle buf = refl
item_none app items.End buf = refl

stim_none : (app : ℕ) (begun : Option WorldStim) (steps : List WorldStep) → filter (is_of app) (journal steps) ≡ [] → filter (is_of app) (journal (stim_steps begun ++ steps)) ≡ []
unfolding journal
stim_none app None steps none = none
stim_none app (Some x) steps none = none

next_none : (app : ℕ) (begun : Option WorldStim) (result : Result Item NextFault) (buf : List ℕ) → filter (is_of app) (journal (next_steps begun result buf)) ≡ []
unfolding next_steps journal
next_none app begun (Ok item) buf = stim_none app begun (item_step item buf ∷ []) (item_none app item buf)
next_none app begun (Err coming.Failed) buf = refl
next_none app begun (Err coming.Short) buf = refl

-- what comes next was told, or nothing
pub keeps_next : {Own : Type 0} {Tells : Type 0} {old new : Seen Own} {result : Result Item NextFault} {buf : List ℕ} → Nexts Tells old new result buf → KeepsTalking Tells old new
keeps_next {old = old} {new = new} {result = result} {buf = buf} nexts = record {
  talks = λ told app a.
      let call = nexts.told told in
      others_at_once app old new (next_steps call.begun result buf) call.history (next_none app call.begun result buf) a;
  no_event = λ told. no_event_next nexts told;
}

-- the application was ended, if it ran
pub keeps_ended : {Own : Type 0} (Tells : Type 0) (app : ℕ) (old new : Seen Own) → Ends Tells app old new → KeepsTalking Tells old new
keeps_ended Tells app old new ends = record { talks = λ told of said. (end-leaves Tells app (app + 1) old new told (omega arith) ends).at_once of said; no_event = λ told. no_event_ended ends told }

-- calls for one application go on with the dialogue with another
led_on : {Own : Type 0} (Tells : Type 0) (app of : ℕ) (old new : Seen Own) → CallsFor app old new → ((s : Before) → s.running ≡ is_running app (state old) → LeadsOn app s old new) → AtOnce of (journal old.history) → AtOnce of (journal new.history)
led_on Tells app of old new calls leads a = elim (cases_eq of app) [
  | inl same ↦
      let here : AtOnce app (journal old.history) = subst (λ (i : ℕ). AtOnce i (journal old.history)) same a in
      subst (λ (i : ℕ). AtOnce i (journal new.history)) (sym same) (leads_at_once app old new here (leads here.last (runs_now app old here)))
  | inr other ↦ silent-at-once of old new (calls-silent app of old new calls other) a
]

-- attempts to start it went on with the dialogue
keeps_led : {Own : Type 0} (Tells : Type 0) (app : ℕ) (old new : Seen Own) → (Tells → OwnSteps app old new) → TalksOn Tells app old new → KeepsTalking Tells old new
keeps_led Tells app old new own leads = record {
  talks = λ told of a. led_on Tells app of old new (own_calls (own told)) (leads told) a;
  no_event = λ told. no_event_own (own told);
}

-- they stopped early
pub keeps_tried : {Own : Type 0} (Tells : Type 0) (app : ℕ) (old new : Seen Own) → (Tells → OwnSteps app old new) → (Tells → (s : Before) → s.running ≡ is_running app (state old) → Talks app s old new) → KeepsTalking Tells old new
keeps_tried Tells app old new own says = keeps_led Tells app old new own (λ told s runs. talks_leads (says told s runs))

-- they were made to their end
pub keeps_restarted : {Own : Type 0} {kept : List ℕ} {found : Option (List ℕ)} {tries : List Tried} (Tells : Type 0) (app : ℕ) (old new : Seen Own) → (Tells → OwnSteps app old new) → Restarts Tells app kept old new found tries → KeepsTalking Tells old new
keeps_restarted {kept = kept} Tells app old new own restarts = keeps_led Tells app old new own
    (λ told s runs. let says = tries_speak Tells app kept attempts restarts.all old new s restarts.are told runs in (says.after, says.converses))

-- ---- A turn

-- it stopped by a fault, and was undone as far as that went
pub turn_stops : {Own : Type 0} (Tells : Type 0) (app : ℕ) (rest : List ℕ) (old mid new : Seen Own) → (Tells → (s : Before) → s.running ≡ true → Passes s.unread rest → Talks app s old mid) → OnLinks Tells mid new → TurnTalks Tells app rest old new
turn_stops Tells app rest old mid new says links = record {
  talks = λ told a runs passes.
      let first = says told a.last runs passes in
      leads_at_once app old new a (leads_on_then app a.last first.after old mid new first.converses (leads_on_links app first.after links told));
}

-- it ended, and links were used
pub turn_ends : {Own : Type 0} {Tells : Type 0} {accepts : List TableView → Bool} {most : ℕ} {frame : List ℕ} {end : TurnEnd} {net now_net : NetState} {unread : List ℕ} (app : ℕ) (rest : List ℕ) (old mid new : Seen Own) → is_event frame ≡ true
    → Turns Tells accepts app most rest frame old mid net now_net end unread → OnLinks Tells mid new → TurnTalks Tells app rest old new
turn_ends app rest old mid new is turns links = record {
  talks = λ told a runs passes.
      let first = turns.speaks told is a.last runs passes in
      leads_at_once app old new a (leads_on_then app a.last first.after old mid new first.converses (leads_on_links app first.after links told));
}

turn_played : {Own : Type 0} (Tells : Type 0) (accepts : List TableView → Bool) (app budget number : ℕ) (event : Event) (closing : Closing) (old new : Seen Own) (net now_net : NetState) (queue now_queue : List Event) (rest unread : List ℕ)
    → PlaysTurn Tells accepts app budget number event closing old new net now_net queue now_queue rest unread → TurnTalks Tells app rest old new
turn_played Tells accepts app budget number event (closings.Done stop out) old new net now_net queue now_queue rest unread plays = turn_ends app rest old plays.mid new (event_is number net.moment event) plays.turns plays.played.links
turn_played Tells accepts app budget number event (closings.Failed cause) old new net now_net queue now_queue rest unread plays = turn_ends app rest old plays.mid new (event_is number net.moment event) plays.turns plays.played.0.links

-- it was played, and what followed goes on
pub turn_closed : {Own : Type 0} {Tells : Type 0} {accepts : List TableView → Bool} {budget number : ℕ} {event : Event} {closing : Closing} {net now_net : NetState} {queue now_queue : List Event} {unread : List ℕ} (app : ℕ) (rest : List ℕ) (old mid new : Seen Own)
    → PlaysTurn Tells accepts app budget number event closing old mid net now_net queue now_queue rest unread → KeepsTalking Tells mid new → TurnTalks Tells app rest old new
turn_closed {Tells = Tells} {accepts = accepts} {budget = budget} {number = number} {event = event} {closing = closing} {net = net} {now_net = now_net} {queue = queue} {now_queue = now_queue} {unread = unread} app rest old mid new plays later =
    let first = turn_played Tells accepts app budget number event closing old mid net now_net queue now_queue rest unread plays in
    record { talks = λ told a runs passes. later.talks told app (first.talks told a runs passes) }

-- ---- Behind parts of a run that were done

-- each is at rest, so that all that happened is a dialogue with it
pub rests_at_once : {Own : Type 0} (seen : Seen Own) (apps : List Application) (app : ℕ) → EachFrom (IsAtRest seen) 0 apps → app < length apps → AtOnce app (journal seen.history)
rests_at_once seen apps app each less = (each-at (IsAtRest seen) 0 apps app app (omega arith) less each).1.at_once

pub goes_none : {Own : Type 0} (Tells : Type 0) (seen : Seen Own) (e : Engine) → GoesOnTalking Tells seen seen e
goes_none Tells seen e = record { talks = λ told each app less. rests_at_once seen e.apps app each less }

-- ---- Where a fault ended it
