-- Laws of parts of a run in which no application is given an event, no packet is released, and no switch moves.
use Rattle.std.specs.Prelude.{◌≡◌, ◌==◌, ℕ, Bool, true, false, List, [], ◌∷◌, ◌++◌, map, Option, Some, None, Result, Ok, Err, refl}
use Rattle.switch_laws.specs.laws.LinkLaws.{links_switch}
use Rattle.std.proofs.Common.{sym, ap, ◌∙◌, append_assoc, true≢false}
use Rattle.std.proofs.lemmas.List.{append-nil}
use Rattle.of_types.specs.declared.journal.Act.{Act}
use Rattle.of_types.specs.declared.journal.Act.TheVariants.{Stim, Started, Gave, Gone, Took, Ended, Sent, Got, Lost}
use Rattle.of_types.specs.declared.journal.WorldStim.{WorldStim}
use Rattle.lego_model.specs.Journal.{is_event, released_in, released}
use Rattle.outside.specs.declared.step.WorldStep.{WorldStep}
use Rattle.outside.specs.declared.step.WorldStep.TheVariants.{Acted, TookInto, From, Joined, Left, Moment, Idle, End, Opened, NotOpened, NextFailed, SendLost, RecvLost, SendFailed, RecvFailed}
use Rattle.outside.specs.declared.item.Item.{Item}
use Rattle.outside.specs.declared.item.Item.TheVariants as items
use Rattle.outside.specs.declared.faults.NextFault.{NextFault}
use Rattle.outside.specs.declared.faults.NextFault.TheVariants as coming
use Rattle.outside.specs.Seen.{Seen, Continues, journal}
use Rattle.outside.specs.State.{State, state, is_running, switch_of, after_act, after_step, after_steps}
use Rattle.outside.specs.Calls.{Nexts, Ends, stim_steps, item_step, next_steps, end_steps}
use Rattle.outside.specs.laws.StateLaws.{state-append}
use Rattle.outside.specs.laws.CallLaws.{Ends-state}
use Rattle.net_txn.specs.LinkSteps.{is_link_step, AreLinkSteps, LinkSteps}
use Rattle.journal_laws.specs.Readings.{is_call, Calls}
use Rattle.journal_laws.specs.laws.CallLaws.{both_second}
use Rattle.app_visor.specs.Talks.{step_of}
use Rattle.app_visor.specs.CallsFor.{OwnSteps}
use Rattle.app_visor.specs.laws.TellingLaws.{apart_called, journal_steps}
use Rattle.lego_model.specs.AfterFault.{gives_event, GiveNoEvent, NoEventSince, SwitchesStay}
use Rattle.event_dispatch.specs.Steady.{NoneReleased}

-- ---- One part behind another

none_append : (xs ys : List WorldStep) → GiveNoEvent xs → GiveNoEvent ys → GiveNoEvent (xs ++ ys)
none_append [] ys all rest = rest
none_append (x ∷ xs) ys all rest = (all.0, none_append xs ys all.1 rest)

pub no_event_by : {Own : Type 0} (old new : Seen Own) (steps : List WorldStep) → new.history ≡ old.history ++ steps → GiveNoEvent steps → NoEventSince old new
no_event_by old new steps longer none = record { steps = steps; history = longer; none = none }

pub no_event_none : {Own : Type 0} (seen : Seen Own) → NoEventSince seen seen
no_event_none seen = no_event_by seen seen [] (sym (append-nil seen.history)) tt

pub no_event_then : {Own : Type 0} {old mid new : Seen Own} → NoEventSince old mid → NoEventSince mid new → NoEventSince old new
no_event_then {old = old} {new = new} first second =
    no_event_by old new (first.steps ++ second.steps)
    (second.history ∙ ap (λ (xs : List WorldStep). xs ++ second.steps) first.history ∙ append_assoc old.history first.steps second.steps) (none_append first.steps second.steps first.none second.none)

-- ---- Links of switches were asked

link_gives : (step : WorldStep) → is_link_step step ≡ true → gives_event step ≡ false
link_gives (Acted (Sent d bytes)) is = refl
link_gives (Acted (Got d bytes)) is = refl
link_gives (Acted (Lost d)) is = refl
link_gives (SendLost d) is = refl
link_gives (RecvLost d) is = refl
link_gives (SendFailed d) is = refl
link_gives (RecvFailed d) is = refl
link_gives (Acted (Stim x)) is = refl
link_gives (Acted (Started of stands)) is = refl
link_gives (Acted (Gave of frame)) is = absurd (true≢false (sym is))
link_gives (Acted (Gone of frame)) is = refl
link_gives (Acted (Took of what)) is = refl
link_gives (Acted (Ended of)) is = refl
link_gives (TookInto of what room) is = refl
link_gives (From d bytes) is = refl
link_gives (Joined d bytes) is = refl
link_gives (Left d) is = refl
link_gives (Moment at) is = refl
link_gives Idle is = refl
link_gives End is = refl
link_gives Opened is = refl
link_gives NotOpened is = refl
link_gives NextFailed is = refl

links_give : (steps : List WorldStep) → AreLinkSteps steps → GiveNoEvent steps
links_give [] all = tt
links_give (step ∷ steps) all = (link_gives step all.0, links_give steps all.1)

pub no_event_links : {Own : Type 0} {old new : Seen Own} → LinkSteps old new → NoEventSince old new
no_event_links {old = old} {new = new} links = no_event_by old new links.steps links.history (links_give links.steps links.all)

-- ---- What comes next was told, or nothing

item_gives : (item : Item) (buf : List ℕ) → gives_event (item_step item buf) ≡ false
unfolding item_step
item_gives (items.From d n) buf = refl
item_gives (items.Joined d n) buf = refl
item_gives (items.Left d) buf = refl
item_gives (items.Moment t) buf = refl
item_gives items.Idle buf = refl
item_gives items.End buf = refl

stim_gives : (begun : Option WorldStim) (steps : List WorldStep) → GiveNoEvent steps → GiveNoEvent (stim_steps begun ++ steps)
stim_gives None steps none = none
stim_gives (Some x) steps none = (refl, none)

next_gives : (begun : Option WorldStim) (result : Result Item NextFault) (buf : List ℕ) → GiveNoEvent (next_steps begun result buf)
unfolding next_steps
next_gives begun (Ok item) buf = stim_gives begun (item_step item buf ∷ []) (item_gives item buf, tt)
next_gives begun (Err coming.Failed) buf = (refl, tt)
next_gives begun (Err coming.Short) buf = tt

pub no_event_next : {Own : Type 0} {Tells : Type 0} {old new : Seen Own} {result : Result Item NextFault} {buf : List ℕ} → Nexts Tells old new result buf → Tells → NoEventSince old new
no_event_next {old = old} {new = new} {result = result} {buf = buf} nexts told =
    let call = nexts.told told in
    no_event_by old new (next_steps call.begun result buf) call.history (next_gives call.begun result buf)

-- ---- Calls for the application, none of which gave it an event

call_gives : (app : ℕ) (act : Act) → is_call app act ≡ true → gives_event (step_of act) ≡ false
call_gives app (Started of stands) is = refl
call_gives app (Gave of bytes) is = both_second (of == app) (is_event bytes) is
call_gives app (Gone of bytes) is = refl
call_gives app (Took of what) is = refl
call_gives app (Ended of) is = refl
call_gives app (Stim x) is = refl
call_gives app (Sent d bytes) is = refl
call_gives app (Got d bytes) is = refl
call_gives app (Lost d) is = refl

calls_give : (app : ℕ) (acts : List Act) → Calls app acts → GiveNoEvent (map step_of acts)
calls_give app [] all = tt
calls_give app (act ∷ acts) all = (call_gives app act all.0, calls_give app acts all.1)

pub no_event_own : {Own : Type 0} {app : ℕ} {old new : Seen Own} → OwnSteps app old new → NoEventSince old new
no_event_own {app = app} {old = old} {new = new} own = no_event_by old new (map step_of own.acts) own.history (calls_give app own.acts own.all)

pub own_stay : {Own : Type 0} {Tells : Type 0} {app : ℕ} {old new : Seen Own} → Continues Tells old new → OwnSteps app old new → SwitchesStay old new
own_stay {app = app} {old = old} {new = new} on own d =
    links_switch d (state old) (state new) (ap (λ (s : State). s.links) (state-append old new (map step_of own.acts) on.given own.history) ∙ (apart_called app own.acts (state old) own.all).links)

call_releases : (app : ℕ) (act : Act) → is_call app act ≡ true → released_in act ≡ None
call_releases app (Started of stands) is = refl
call_releases app (Gave of bytes) is = refl
call_releases app (Gone of bytes) is = refl
call_releases app (Took of what) is = refl
call_releases app (Ended of) is = refl
call_releases app (Stim x) is = refl
call_releases app (Sent d bytes) is = absurd (true≢false (sym is))
call_releases app (Got d bytes) is = refl
call_releases app (Lost d) is = refl

calls_release : (app : ℕ) (acts : List Act) → Calls app acts → released acts ≡ []
unfolding released
calls_release app [] all = refl
calls_release app (act ∷ acts) all = rw (call_releases app act all.0) (calls_release app acts all.1)

pub own_releases : {Own : Type 0} {app : ℕ} {old new : Seen Own} → OwnSteps app old new → NoneReleased old new
own_releases {app = app} own = record { steps = map step_of own.acts; history = own.history; none = ap released (journal_steps own.acts) ∙ calls_release app own.acts own.all }

-- ---- The application was ended, if it ran

end_gives : (app : ℕ) (running : Bool) → GiveNoEvent (end_steps app running)
unfolding end_steps
end_gives app true = (refl, tt)
end_gives app false = tt

pub no_event_ended : {Own : Type 0} {Tells : Type 0} {app : ℕ} {old new : Seen Own} → Ends Tells app old new → Tells → NoEventSince old new
no_event_ended {app = app} {old = old} {new = new} ends told =
    let running = is_running app (state old) in
    no_event_by old new (end_steps app running) (ends.told told).history (end_gives app running)

end_stays : (app : ℕ) (running : Bool) (d : ℕ) (s : State) → switch_of d (after_steps (end_steps app running) s) ≡ switch_of d s
unfolding end_steps switch_of after_act after_step
end_stays app true d s = refl
end_stays app false d s = refl

pub end_stay : {Own : Type 0} {Tells : Type 0} {app : ℕ} {old new : Seen Own} → Ends Tells app old new → Tells → SwitchesStay old new
end_stay {app = app} {old = old} ends told d =
    let running = is_running app (state old) in
    ap (λ (s : State). switch_of d s) (Ends-state told ends) ∙ end_stays app running d (state old)

end_releases : (app : ℕ) (running : Bool) → released (journal (end_steps app running)) ≡ []
unfolding end_steps journal released
end_releases app true = refl
end_releases app false = refl

pub end_releases_none : {Own : Type 0} {Tells : Type 0} {app : ℕ} {old new : Seen Own} → Ends Tells app old new → Tells → NoneReleased old new
end_releases_none {app = app} {old = old} ends told =
    let running = is_running app (state old) in
    record { steps = end_steps app running; history = (ends.told told).history; none = end_releases app running }
