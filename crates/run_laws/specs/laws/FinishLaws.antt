-- How a run ends: the last part of the report, and the ends of the applications, leave all else as it was.
use Rattle.std.proofs.Common.{◌≡◌, ℕ, zero, suc, ◌+◌, ◌<◌, Bool, List, [], ◌∷◌, ◌++◌, length, map, Option, None, if◌then◌else◌, refl, sym, ap, ap₂, ◌∙◌, subst, inl, inr, arith}
use Rattle.std.proofs.lemmas.Bool.{cases_Bool}
use Rattle.std.proofs.lemmas.List.{append-nil, length-map}
use Rattle.std.specs.Option.{option_map}
use Rattle.std.specs.List.{AllByRecursion}
use Rattle.std.specs.Io.KnownBytes.{append_known}
use Rattle.of_types.specs.declared.journal.WorldStim.{WorldStim}
use Rattle.flow_table.specs.Switch.{Declared, SwitchState}
use Rattle.undo_laws.specs.CorrectedSwitch.{corrected_switch}
use Rattle.app_frames.specs.declared.frame.Event.{Event}
use Rattle.crash_policy.specs.Policies.{AppValue}
use Rattle.lego_model.specs.Journal.{Reply, Start}
use Rattle.lego_model.specs.Places.{Place}
use Rattle.lego_model.specs.Scripted.{AreFronts, AreStartFronts}
use Rattle.lego_model.specs.Losses.{Losses}
use Rattle.lego_model.specs.Controller.{Run, out, at_end, reference_mark, reference}
use Rattle.lego_model.specs.Agreement.{AgreeMark, AgreeMarks}
use Rattle.lego_model.specs.RunReport.{run_report}
use Rattle.outside.specs.Seen.{Given, Seen, journal}
use Rattle.outside.specs.State.{Mark, State, switch_of, state}
use Rattle.outside.specs.Conforming.{Conforming}
use Rattle.flow_table.specs.View.{TableView}
use Rattle.switch_laws.specs.Shown.{shown_switch, places, shown_places, corrections, shown_by}
use Rattle.batch_laws.specs.laws.HistoryLaws.{links-declared}
use Rattle.lego_model.specs.History.{given_in, stimuli_in, lost_of, points_in, last_point}
use Rattle.lego_model.specs.AtOnce.{AtOnce}
use Rattle.run_laws.specs.Engine.{Application, Engine, EachFrom, Stands, apps_from, rules_of}
use Rattle.lego_model.specs.Application.{names}
use Rattle.run_laws.specs.laws.PointLaws.{marks_more, mark_alike}
use Rattle.of_types.specs.Membership.{is_among}
use Rattle.run_laws.specs.LastReport.{last_text, last_lines, switch_left}
use Rattle.run_laws.specs.laws.LastReportLaws.{report-ends, last-shown}
use Rattle.lego_model.specs.ReferenceRun.{Said, AreGiven, RunsAlike, told_of, fresh_from, reference_said, AreSaid}
use Rattle.run_laws.specs.laws.WholeLaws.{told-said}
use Rattle.run_laws.specs.Whole.{at_last, Ran}
use Rattle.lego_model.specs.OrderlySteps.{IsOrderly}
use Rattle.switch_laws.specs.laws.OrderlyLaws.{orderly-whole}
use Rattle.switch_laws.specs.laws.PlaceLaws.{places-same}
use Rattle.run_laws.specs.Moves.{IsAtRest, AtRest}
use Rattle.run_laws.specs.Endings.{Leaves}
use Rattle.lego_model.specs.WholeRun.{EndsAs, LeavesAs, EndsAlike, LeavesAlike}

-- the reference controller's run is the same
reference-same : {Own : Type 0} {number : ℕ} (rules : List AppValue) (allows : List Place → Bool) (spent : Bool) (losses : Losses) (lost : List ℕ) (last new : Seen Own) (said : ℕ → Said) → Leaves number lost last new → reference_said rules allows spent losses new said ≡ reference_said rules allows spent losses last said
reference-same {Own} rules allows spent losses lost last new said l =
    ap (λ (g : Given Own). reference allows g.declared (fresh_from 0 rules said) losses spent (stimuli_in new)) l.given
    ∙ ap (λ (xs : List WorldStim). reference allows last.given.declared (fresh_from 0 rules said) losses spent xs) l.stimuli

-- and the same was said of the applications
pub said-before : {Own : Type 0} {number : ℕ} (lost : List ℕ) (last new : Seen Own) (said : ℕ → Said) → Leaves number lost last new → AreSaid new said → AreSaid last said
said-before lost last new said l are i = (
  subst (λ (told : List Start). AreStartFronts told (said i).starts) (l.told i).starts (are i).0,
  subst (λ (told : List Reply). AreFronts told (said i).replies) (l.told i).replies (are i).1,
)

-- each application was given what the world told of it
pub given-from : {Own : Type 0} (i : ℕ) (last new : Seen Own) (apps : List Application) (said : ℕ → Said) → ((j : ℕ) → given_in j new ≡ given_in j last) → AreGiven i new (apps_from i last apps said)
given-from i last new [] said same = tt
given-from i last new (a ∷ more) said same = (sym (same i), given-from (i + 1) last new more said same)

pub shown-still : (declared : List Declared) (views : List TableView) (s t : State) → ((d : ℕ) → switch_of d t ≡ switch_of d s) → shown_places declared (corrections views) t ≡ shown_places declared (corrections views) s
unfolding shown_places
shown-still declared views s t same =
    places-same (shown_switch (corrections views) t) (shown_switch (corrections views) s) (λ d. ap (λ (o : Option SwitchState). option_map (corrected_switch (corrections views d)) o) (same d)) declared

-- some of them are out
left-places : (lost : List ℕ) (f g : ℕ → Option SwitchState) (ds : List Declared) → ((d : ℕ) → g d ≡ (if is_among d lost then None else f d))
    → map (λ p. if is_among p.declared.dpid lost then out p else p) (places f ds) ≡ places g ds
left-places lost f g [] so = refl
left-places lost f g (x ∷ xs) so =
    ap₂ (λ (p : Place) (ps : List Place). p ∷ ps) (elim (cases_Bool (is_among x.dpid lost)) [
      | inl gone ↦ rw gone (ap (λ (o : Option SwitchState). record { declared = x; switch = o }) (sym (so x.dpid ∙ rw gone refl)))
      | inr here ↦ rw here (ap (λ (o : Option SwitchState). record { declared = x; switch = o }) (sym (so x.dpid ∙ rw here refl)))
    ]) (left-places lost f g xs so)

shown_left : (lost : List ℕ) (views : List TableView) (s t : State) (d : ℕ) → switch_of d t ≡ switch_left lost s d → shown_switch (corrections views) t d ≡ (if is_among d lost then None else shown_switch (corrections views) s d)
shown_left lost views s t d same =
    ap (option_map (corrected_switch (corrections views d))) same
    ∙ elim (cases_Bool (is_among d lost)) [
      | inl gone ↦ rw gone refl
      | inr here ↦ rw here refl
    ]

pub shown-left : (lost : List ℕ) (declared : List Declared) (views : List TableView) (s t : State) → ((d : ℕ) → switch_of d t ≡ switch_left lost s d)
    → map (λ p. if is_among p.declared.dpid lost then out p else p) (shown_places declared (corrections views) s) ≡ shown_places declared (corrections views) t
unfolding shown_places
shown-left lost declared views s t same = left-places lost (shown_switch (corrections views) s) (shown_switch (corrections views) t) declared (λ d. shown_left lost views s t d (same d))

-- engine and reference controller ran alike, to the end, where switches were lost
pub ends-so : {Own : Type 0} {number : ℕ} (lost : List ℕ) (last new : Seen Own) (e : Engine) (said : ℕ → Said) (r : Run) → Conforming new → Leaves number lost last new → Stands last e said (at_last lost) r → RunsAlike new (at_end r)
ends-so {Own} lost last new e said r keeps l s =
    let declared = new.given.declared in
    let same_declared : declared ≡ last.given.declared = ap (λ (g : Given Own). g.declared) l.given in
    let ends : List Place = (at_end r).places in
    let last_is : r.losses.last ≡ lost = ap (λ (x : Losses). x.last) s.losses_is in
    let here : ends ≡ shown_places declared (shown_by e.net) (state new) =
    ap₂ (λ (ds : List ℕ) (ps : List Place). map (λ p. if is_among p.declared.dpid ds then out p else p) ps) last_is (s.places ∙ sym (ap (λ (ds : List Declared). shown_places ds (shown_by e.net) (state last)) same_declared))
    ∙ shown-left lost declared e.net.views (state last) (state new) l.switches in
    let marks : AgreeMarks (points_in new) r.marks = subst (λ (ms : List Mark). AgreeMarks ms r.marks) (sym l.marks) s.marks in
    let end : AgreeMark (last_point new) (reference_mark None ends) =
    subst (λ (ps : List Place). AgreeMark (last_point new) (reference_mark None ps)) (sym here) (mark_alike None declared e.net.views (state new) (links-declared new) keeps.declared) in
    record {
      tables = marks_more (points_in new) r.marks (last_point new) (reference_mark None ends) marks end;
      inputs = subst (AreGiven 0 new) (sym s.apps) (given-from 0 last new e.apps said (λ j. (l.told j).inputs));
      released = l.released ∙ sym s.released;
      lost = l.lost_is ∙ ap₂ (λ (a b : List ℕ). a ++ b) (sym s.lost) (sym last_is);
    }

-- engine and reference controller ran alike
pub runs-alike : {Own : Type 0} {number : ℕ} (last new : Seen Own) (e : Engine) (said : ℕ → Said) (later : Losses) (r : Run) → Conforming new → Leaves number [] last new → Stands last e said later r → RunsAlike new r
runs-alike {Own} last new e said later r keeps l s =
    let declared = new.given.declared in
    let same_declared : declared ≡ last.given.declared = ap (λ (g : Given Own). g.declared) l.given in
    let here : r.places ≡ shown_places declared (shown_by e.net) (state new) =
    s.places ∙ sym (ap (λ (ds : List Declared). shown_places ds (shown_by e.net) (state last)) same_declared) ∙ sym (shown-still declared e.net.views (state last) (state new) l.switches) in
    let marks : AgreeMarks (points_in new) r.marks = subst (λ (ms : List Mark). AgreeMarks ms r.marks) (sym l.marks) s.marks in
    let end : AgreeMark (last_point new) (reference_mark None r.places) =
    subst (λ (ps : List Place). AgreeMark (last_point new) (reference_mark None ps)) (sym here) (mark_alike None declared e.net.views (state new) (links-declared new) keeps.declared) in
    record {
      tables = marks_more (points_in new) r.marks (last_point new) (reference_mark None r.places) marks end;
      inputs = subst (AreGiven 0 new) (sym s.apps) (given-from 0 last new e.apps said (λ j. (l.told j).inputs));
      released = l.released ∙ sym s.released;
      lost = l.lost_is ∙ append-nil (lost_of last) ∙ sym s.lost;
    }

-- all steps were in order
pub all-in-order : {Own : Type 0} {e : Engine} (lost : List ℕ) (last new : Seen Own) → AtRest last e → Leaves (length e.apps) lost last new → AllByRecursion (IsOrderly (length e.apps)) new.history
all-in-order {e = e} lost last new settled l = orderly-whole (length e.apps) last new settled.orderly l.orderly

-- what is so with each of the applications from an index on, is so with that of a later index
pub each-at : (P : ℕ → Application → Type 0) (i : ℕ) (apps : List Application) (k n : ℕ) → n ≡ i + k → k < length apps → EachFrom P i apps → (a : Application) × P n a
each-at P i [] k n same less each = absurd (omega (arith, less))
each-at P i (a ∷ more) zero n same less each = let here : n ≡ i = omega (arith, same) in (a, subst (λ (m : ℕ). P m a) (sym here) each.0)
each-at P i (a ∷ more) (suc k) n same less each = each-at P (i + 1) more k n (omega (arith, same)) (omega (arith, less)) each.1

-- the journal is a dialogue with each of them
pub each-at-once : {Own : Type 0} (last : Seen Own) (e : Engine) (number : ℕ) → AtRest last e → length e.apps ≡ number → (i : ℕ) → i < number → AtOnce i (journal last.history)
each-at-once last e number settled count i less = (each-at (IsAtRest last) 0 e.apps i i (omega arith) (omega (arith, count, less)) settled.each).1.at_once

-- there are as many as the policy has
pub count-of : (rules : List AppValue) (e : Engine) → rules_of e ≡ rules → length e.apps ≡ length rules
count-of rules e is = sym (length-map e.apps (λ a. a.rule)) ∙ ap (λ (l : List AppValue). length l) is

ran-count : {Own : Type 0} (rules : List AppValue) (allows : List Place → Bool) (spent : Bool) (lost : List ℕ) (text : List ℕ) (last : Seen Own) (e : Engine) → Ran rules allows spent lost text last e → length e.apps ≡ length rules
ran-count rules allows spent lost text last e ran = count-of rules e (ran.as_said (told_of last) (told-said last)).rules_is

-- ---- All was dispatched

ends-as : {Own : Type 0} {number : ℕ} (rules : List AppValue) (allows : List Place → Bool) (spent : Bool) (lost : List ℕ) (text : List ℕ) (last new : Seen Own) (e : Engine) (contents now_contents : Option (List ℕ)) (said : ℕ → Said) → Conforming new → Leaves number lost last new → (ran : Ran rules allows spent lost text last e)
    → e.queue ≡ [] → now_contents ≡ append_known contents (text ++ last_text lost last e) → AreSaid new said → EndsAs rules new contents now_contents e.events (reference_said rules allows spent ran.losses new said)
ends-as rules allows spent lost text last new e contents now_contents said keeps l ran none written are =
    let r = reference_said rules allows spent ran.losses last said in
    let so = ran.as_said said (said-before lost last new said l are) in
    let last_is : last_lines (names rules) r ≡ last_text lost last e =
    subst (λ (of : List AppValue). last_lines (names of) r ≡ last_text lost last e) so.rules_is (last-shown lost last e so.said r so.stands) in
    let report : run_report (names rules) r ≡ text ++ last_text lost last e =
    report-ends (names rules) r ∙ ap₂ (λ (a b : List ℕ). a ++ b) so.text_is last_is in
    subst (EndsAs rules new contents now_contents e.events) (sym (reference-same rules allows spent ran.losses lost last new said l)) (record {
      alike = ends-so lost last new e so.said r keeps l so.stands;
      none_left = so.stands.queue ∙ none;
      events_is = sym so.stands.events;
      report = written ∙ ap (append_known contents) (sym report);
    })

pub ends-alike : {Own : Type 0} (rules : List AppValue) (allows : List Place → Bool) (spent : Bool) (lost : List ℕ) (text : List ℕ) (last new : Seen Own) (e : Engine) (contents now_contents : Option (List ℕ)) → Conforming new → Leaves (length e.apps) lost last new → AtRest last e → Ran rules allows spent lost text last e
    → e.queue ≡ [] → now_contents ≡ append_known contents (text ++ last_text lost last e) → EndsAlike rules allows spent new contents now_contents e.events
ends-alike rules allows spent lost text last new e contents now_contents keeps l settled ran none written =
    let count = ran-count rules allows spent lost text last e ran in
    record {
      losses = ran.losses;
      as_told = ends-as rules allows spent lost text last new e contents now_contents (told_of new) keeps l ran none written (told-said new);
      as_said = λ said are. ends-as rules allows spent lost text last new e contents now_contents said keeps l ran none written are;
      at_once = λ i less. l.at_once i (each-at-once last e (length rules) settled count i less);
      in_order = subst (λ (n : ℕ). AllByRecursion (IsOrderly n) new.history) count (all-in-order lost last new settled l);
    }

-- ---- Some events were left

leaves-as : {Own : Type 0} {number : ℕ} (rules : List AppValue) (allows : List Place → Bool) (spent : Bool) (text : List ℕ) (last new : Seen Own) (e : Engine) (contents now_contents : Option (List ℕ)) (said : ℕ → Said) → Conforming new → Leaves number [] last new → (ran : Ran rules allows spent [] text last e)
    → now_contents ≡ append_known contents text → AreSaid new said → LeavesAs rules new contents now_contents (length e.queue) (reference_said rules allows spent ran.losses new said)
leaves-as rules allows spent text last new e contents now_contents said keeps l ran written are =
    let r = reference_said rules allows spent ran.losses last said in
    let so = ran.as_said said (said-before [] last new said l are) in
    subst (LeavesAs rules new contents now_contents (length e.queue)) (sym (reference-same rules allows spent ran.losses [] last new said l)) (record {
      alike = runs-alike last new e so.said (at_last []) r keeps l so.stands;
      left_is = ap (λ (q : List Event). length q) (sym so.stands.queue);
      report = written ∙ ap (append_known contents) (sym so.text_is);
    })

pub leaves-alike : {Own : Type 0} (rules : List AppValue) (allows : List Place → Bool) (spent : Bool) (text : List ℕ) (last new : Seen Own) (e : Engine) (contents now_contents : Option (List ℕ)) → Conforming new → Leaves (length e.apps) [] last new → AtRest last e → Ran rules allows spent [] text last e
    → now_contents ≡ append_known contents text → LeavesAlike rules allows spent new contents now_contents (length e.queue)
leaves-alike rules allows spent text last new e contents now_contents keeps l settled ran written =
    let count = ran-count rules allows spent [] text last e ran in
    record {
      losses = ran.losses;
      as_told = leaves-as rules allows spent text last new e contents now_contents (told_of new) keeps l ran written (told-said new);
      as_said = λ said are. leaves-as rules allows spent text last new e contents now_contents said keeps l ran written are;
      at_once = λ i less. l.at_once i (each-at-once last e (length rules) settled count i less);
      in_order = subst (λ (n : ℕ). AllByRecursion (IsOrderly n) new.history) count (all-in-order [] last new settled l);
    }
