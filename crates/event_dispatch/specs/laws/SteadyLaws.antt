-- Laws of what the engine keeps of a world that tells in order, over parts of a run that follow one another.
use Rattle.std.specs.Prelude.{◌≡◌, ◌<◌, ℕ, true, List, [], ◌∷◌, ◌++◌}
use Rattle.std.specs.List.{AllByRecursion}
use Rattle.std.proofs.Common.{refl, sym, ap, ◌∙◌, append_assoc, subst, arith, true≢false}
use Rattle.std.proofs.lemmas.List.{append-nil}
use Rattle.std.proofs.lemmas.List.Elements.{filter_map-append}
use Rattle.flow_table.specs.View.{TableView}
use Rattle.of_types.specs.declared.journal.Act.{Act}
use Rattle.of_types.specs.declared.journal.Act.TheVariants.{Stim, Started, Gave, Gone, Took, Ended, Sent, Got, Lost}
use Rattle.outside.specs.declared.step.WorldStep.{WorldStep}
use Rattle.outside.specs.declared.step.WorldStep.TheVariants.{Acted, TookInto, From, Joined, Left, Moment, Idle, End, Opened, NotOpened, NextFailed, SendLost, RecvLost, SendFailed, RecvFailed}
use Rattle.outside.specs.Seen.{Seen, Continues, journal}
use Rattle.outside.specs.laws.SeenLaws.{journal-append}
use Rattle.outside.specs.laws.InOrderLaws.{InOrder-before, messages-none, messages-then}
use Rattle.outside.specs.laws.QuiescenceLaws.{none_since-none, none_since-then, last_quiescent-of}
use Rattle.net_txn.specs.laws.SaidLaws.{all_two}
use Rattle.net_txn.specs.Net.{NetState}
use Rattle.net_txn.specs.laws.LinkStrayLaws.{no_strays_none, no_strays_then}
use Rattle.net_txn.specs.Views.{is_viewed}
use Rattle.net_txn.specs.Abreast.{Abreast}
use Rattle.net_txn.specs.LinkSteps.{is_link_step, AreLinkSteps, LinkSteps}
use Rattle.run_laws.specs.laws.LastPointLaws.{last_point_of}
use Rattle.app_visor.specs.CallsFor.{IsActFor, IsCallFor, CallsFor}
use Rattle.run_laws.specs.Cut.{IsActAmong, IsCallAmong, CallsAmong}
use Rattle.lego_model.specs.Journal.{released_in, released}
use Rattle.lego_model.specs.Packets.{Held}
use Rattle.event_dispatch.specs.Steady.{NoStray, Reads, NoPoint, AtMostThisPoint, NoneReleased, NoneMoves}

-- ---- Calls for some applications

pub calls_none : {Own : Type 0} (number : ℕ) (seen : Seen Own) → CallsAmong number seen seen
calls_none number seen = record { steps = []; history = sym (append-nil seen.history); all = tt }

pub calls_then : {Own : Type 0} {number : ℕ} {old mid new : Seen Own} → CallsAmong number old mid → CallsAmong number mid new → CallsAmong number old new
calls_then {number = number} {old = old} first second = record {
  steps = first.steps ++ second.steps;
  history = second.history ∙ ap (λ (h : List WorldStep). h ++ second.steps) first.history ∙ append_assoc old.history first.steps second.steps;
  all = all_two (IsCallAmong number) first.steps second.steps first.all second.all;
}

-- calls for one of them
act_among : (app number : ℕ) (act : Act) → app < number → IsActFor app act → IsActAmong number act
act_among app number (Started of stands) small is = omega (arith, small, is)
act_among app number (Gave of bytes) small is = omega (arith, small, is)
act_among app number (Gone of bytes) small is = omega (arith, small, is)
act_among app number (Took of what) small is = omega (arith, small, is)
act_among app number (Ended of) small is = omega (arith, small, is)
act_among app number (Stim x) small is = tt
act_among app number (Sent d bytes) small is = tt
act_among app number (Got d bytes) small is = tt
act_among app number (Lost d) small is = tt

step_among : (app number : ℕ) (step : WorldStep) → app < number → IsCallFor app step → IsCallAmong number step
step_among app number (Acted act) small is = act_among app number act small is
step_among app number (TookInto of what room) small is = omega (arith, small, is)
step_among app number (From d bytes) small is = tt
step_among app number (Joined d bytes) small is = tt
step_among app number (Left d) small is = tt
step_among app number (Moment t) small is = tt
step_among app number Idle small is = tt
step_among app number End small is = tt
step_among app number Opened small is = tt
step_among app number NotOpened small is = absurd is
step_among app number NextFailed small is = tt
step_among app number (SendLost d) small is = tt
step_among app number (RecvLost d) small is = tt
step_among app number (SendFailed d) small is = tt
step_among app number (RecvFailed d) small is = tt

steps_among : (app number : ℕ) (steps : List WorldStep) → app < number → AllByRecursion (IsCallFor app) steps → AllByRecursion (IsCallAmong number) steps
steps_among app number [] small all = tt
steps_among app number (step ∷ steps) small all = (step_among app number step small all.0, steps_among app number steps small all.1)

pub calls_among : {Own : Type 0} {number : ℕ} {old new : Seen Own} (app : ℕ) → app < number → CallsFor app old new → CallsAmong number old new
calls_among {number = number} app small calls = record { steps = calls.steps; history = calls.history; all = steps_among app number calls.steps small calls.all }

-- links of switches were asked
link_among : (number : ℕ) (step : WorldStep) → is_link_step step ≡ true → IsCallAmong number step
link_among number (Acted (Sent d bytes)) is = tt
link_among number (Acted (Got d bytes)) is = tt
link_among number (Acted (Lost d)) is = tt
link_among number (Acted (Stim x)) is = tt
link_among number (Acted (Started of stands)) is = absurd (true≢false (sym is))
link_among number (Acted (Gave of frame)) is = absurd (true≢false (sym is))
link_among number (Acted (Gone of frame)) is = absurd (true≢false (sym is))
link_among number (Acted (Took of what)) is = absurd (true≢false (sym is))
link_among number (Acted (Ended of)) is = absurd (true≢false (sym is))
link_among number (TookInto of what room) is = absurd (true≢false (sym is))
link_among number (From d bytes) is = tt
link_among number (Joined d bytes) is = tt
link_among number (Left d) is = tt
link_among number (Moment at) is = tt
link_among number Idle is = tt
link_among number End is = tt
link_among number Opened is = tt
link_among number NotOpened is = absurd (true≢false (sym is))
link_among number NextFailed is = tt
link_among number (SendLost d) is = tt
link_among number (RecvLost d) is = tt
link_among number (SendFailed d) is = tt
link_among number (RecvFailed d) is = tt

are_among : (number : ℕ) (steps : List WorldStep) → AreLinkSteps steps → AllByRecursion (IsCallAmong number) steps
are_among number [] all = tt
are_among number (step ∷ steps) all = (link_among number step all.0, are_among number steps all.1)

pub links_among : {Own : Type 0} {old new : Seen Own} (number : ℕ) → LinkSteps old new → CallsAmong number old new
links_among number links = record { steps = links.steps; history = links.history; all = are_among number links.steps links.all }

-- ---- Nothing was done

pub places_none : {Own : Type 0} {number : ℕ} (Tells : Type 0) (seen : Seen Own) (net : NetState) → NoStray Tells number seen seen net
places_none {number = number} Tells seen net = record { places = λ told order abreast. no_strays_none seen; own = λ told. calls_none number seen }

-- the same switches have views
pub abreast_as : {Own : Type 0} (seen : Seen Own) (net now_net : NetState) → now_net.views ≡ net.views → Abreast seen net → Abreast seen now_net
abreast_as seen net now_net same abreast = record { joined = λ d. abreast.joined d ∙ ap (λ (vs : List TableView). is_viewed d vs) (sym same); none_due = abreast.none_due }

pub reads_none : {Own : Type 0} (Tells : Type 0) (seen : Seen Own) (net now_net : NetState) → now_net.views ≡ net.views → Reads Tells seen seen net now_net
reads_none Tells seen net now_net same = record { abreast = λ told order abreast. abreast_as seen net now_net same abreast; read = λ told order abreast. messages-none seen }

-- the views stayed behind what was done
pub reads_as : {Own : Type 0} (Tells : Type 0) (old new : Seen Own) (net mid_net now_net : NetState) → now_net.views ≡ mid_net.views → Reads Tells old new net mid_net → Reads Tells old new net now_net
reads_as Tells old new net mid_net now_net same reads = record { abreast = λ told order abreast. abreast_as new mid_net now_net same (reads.abreast told order abreast); read = reads.read }

pub quietly_none : {Own : Type 0} {number : ℕ} (Tells : Type 0) (seen : Seen Own) → NoPoint Tells number seen seen
quietly_none {number = number} Tells seen = record { none_quiescent = λ told. none_since-none seen; own = λ told. calls_none number seen }

none_released_none : {Own : Type 0} (seen : Seen Own) → NoneReleased seen seen
unfolding journal released
none_released_none seen = record { steps = []; history = sym (append-nil seen.history); none = refl }

pub none_move : {Own : Type 0} (Tells : Type 0) (seen : Seen Own) → NoneMoves Tells seen seen
none_move Tells seen = record { stay = λ told d. refl; releases = λ told. none_released_none seen }

-- ---- One after the other

pub places_then : {Own : Type 0} {number : ℕ} {Tells : Type 0} (old mid new : Seen Own) (net mid_net : NetState) → Continues Tells old mid → Continues Tells mid new → NoStray Tells number old mid net → Reads Tells old mid net mid_net → NoStray Tells number mid new mid_net → NoStray Tells number old new net
places_then old mid new net mid_net before later first reads second = record {
  places = λ told order abreast.
      let so_far = InOrder-before told later order in
      no_strays_then old mid new told before later (first.places told so_far abreast) (second.places told order (reads.abreast told so_far abreast));
  own = λ told. calls_then (first.own told) (second.own told);
}

pub reads_then : {Own : Type 0} {Tells : Type 0} (old mid new : Seen Own) (net mid_net now_net : NetState) → Continues Tells old mid → Continues Tells mid new → Reads Tells old mid net mid_net → Reads Tells mid new mid_net now_net → Reads Tells old new net now_net
reads_then old mid new net mid_net now_net before later first second = record {
  abreast = λ told order abreast. second.abreast told order (first.abreast told (InOrder-before told later order) abreast);
  read = λ told order abreast.
      let so_far = InOrder-before told later order in
      messages-then old mid new told before later (first.read told so_far abreast) (second.read told order (first.abreast told so_far abreast));
}

pub quietly_then : {Own : Type 0} {number : ℕ} (Tells : Type 0) (old mid new : Seen Own) → NoPoint Tells number old mid → NoPoint Tells number mid new → NoPoint Tells number old new
quietly_then Tells old mid new first second = record {
  none_quiescent = λ told. none_since-then (first.none_quiescent told) (second.none_quiescent told);
  own = λ told. calls_then (first.own told) (second.own told);
}

none_released_then : {Own : Type 0} {old mid new : Seen Own} → NoneReleased old mid → NoneReleased mid new → NoneReleased old new
unfolding released
none_released_then {old = old} first second = record {
  steps = first.steps ++ second.steps;
  history = second.history ∙ ap (λ (xs : List WorldStep). xs ++ second.steps) first.history ∙ append_assoc old.history first.steps second.steps;
  none = ap released (journal-append first.steps second.steps) ∙ filter_map-append released_in (journal first.steps) (journal second.steps)
      ∙ ap (λ (xs : List Held). xs ++ released (journal second.steps)) first.none ∙ second.none;
}

pub none_move_then : {Own : Type 0} {Tells : Type 0} {old mid new : Seen Own} → NoneMoves Tells old mid → NoneMoves Tells mid new → NoneMoves Tells old new
none_move_then first second = record { stay = λ told d. second.stay told d ∙ first.stay told d; releases = λ told. none_released_then (first.releases told) (second.releases told) }

-- ---- Of as many applications

pub places_number : {Own : Type 0} {Tells : Type 0} {old new : Seen Own} {net : NetState} (n m : ℕ) → m ≡ n → NoStray Tells m old new net → NoStray Tells n old new net
places_number {Tells = Tells} {old = old} {new = new} {net = net} n m same all = subst (λ (k : ℕ). NoStray Tells k old new net) same all

pub quietly_number : {Own : Type 0} {Tells : Type 0} {old new : Seen Own} (n m : ℕ) → m ≡ n → NoPoint Tells m old new → NoPoint Tells n old new
quietly_number {Tells = Tells} {old = old} {new = new} n m same all = subst (λ (k : ℕ). NoPoint Tells k old new) same all

-- no quiescent point behind one from which on there was none
pub quietly_here : {Own : Type 0} {number : ℕ} {Tells : Type 0} {old new : Seen Own} → NoPoint Tells number old new → AtMostThisPoint Tells number old new
quietly_here no_point = record { last = λ told order rest. last_point_of (last_quiescent-of (no_point.none_quiescent told)); own = no_point.own }
