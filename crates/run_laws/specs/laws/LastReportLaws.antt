-- What follows about the last lines of a report: those of rows and views are those of the switches as their owners see them, and those of
-- the engine are those of the reference controller.
use Rattle.std.proofs.Common.{◌≡◌, ◌≢◌, ◌==◌, ℕ, ◌+◌, ◌<◌, ◌≤◌, true, false, List, [], ◌∷◌, ◌++◌, length, map, Option, Some, None, if◌then◌else◌, refl, sym, ap, ap₂, ◌∙◌, subst, append_assoc, inl, inr, arith, true≢false}
use Rattle.std.proofs.lemmas.Bool.{cases_Bool, eqb-true, eqb-false, eq-eqb, ne_eqb}
use Rattle.std.proofs.lemmas.List.{length-map, append-nil}
use Rattle.std.specs.Prelude.{filter}
use Rattle.std.specs.List.{flat_map, AllByRecursion}
use Rattle.std.specs.Option.{option_map}
use Rattle.std.proofs.lemmas.List.Elements.{filter-append}
use Rattle.std.proofs.lemmas.Option.{same_Some}
use Rattle.of_types.specs.declared.journal.Act.{Act}
use Rattle.of_types.specs.declared.journal.Act.TheVariants.{Stim, Started, Gave, Gone, Took, Ended, Sent, Got, Lost}
use Rattle.of_types.specs.declared.journal.WorldStim.{WorldStim}
use Rattle.of_match.specs.declared.key.Key.{Key}
use Rattle.of_match.specs.Key.{key_number}
use Rattle.of_action.specs.declared.action.Action.{Action}
use Rattle.of_stats.specs.declared.flow_row.FlowRow.{FlowRow}
use Rattle.flow_table.specs.declared.entry.Entry.{Entry}
use Rattle.flow_table.specs.declared.view.ViewRow.{ViewRow}
use Rattle.flow_table.specs.View.{TableView}
use Rattle.flow_table.specs.Table.{IsTable, AscendsFrom}
use Rattle.flow_table.specs.Switch.{Declared, SwitchState}
use Rattle.flow_table.specs.Statistics.{flow_row}
use Rattle.undo_laws.specs.CorrectedSwitch.{corrected_switch}
use Rattle.lego_model.specs.Answers.{Rows, rows_of_table, rows_of_view}
use Rattle.lego_model.specs.Controller.{Run}
use Rattle.lego_model.specs.RunReport.{lost_line, switch_line, flow_line, app_line, end_line, entry_text, switch_text, apps_text, run_report}
use Rattle.outside.specs.Seen.{Seen, Continues, is_declared, journal}
use Rattle.outside.specs.State.{State, state, switch_of, is_joined, after_act, after_step, after_steps}
use Rattle.outside.specs.Conforming.{AreDeclaredFrom, Conforming}
use Rattle.net_txn.specs.Views.{rows_at, ViewsAscend}
use Rattle.net_txn.specs.ChangeSteps.{Agrees}
use Rattle.net_txn.specs.AskSteps.{own_rows}
use Rattle.switch_laws.specs.Shown.{rows_or_none, flags_in, shown_switch, places, shown_places, Stand, corrections, shown_by, correction_in}
use Rattle.switch_laws.specs.laws.CorrectionLaws.{flags-shown, row-shown}
use Rattle.switch_laws.specs.laws.FlagLaws.{flags_in-here, flags_in-there}
use Rattle.lego_model.specs.Losses.{Losses}
use Rattle.lego_model.specs.Journal.{is_of, inputs, stimuli, released, losses}
use Rattle.lego_model.specs.laws.JournalLaws.{inputs-append, stimuli-append}
use Rattle.outside.specs.declared.step.WorldStep.{WorldStep}
use Rattle.outside.specs.declared.step.WorldStep.TheVariants.{Acted, TookInto, From, Joined, Left, Moment, Idle, End, Opened, NotOpened, NextFailed, SendLost, RecvLost, SendFailed, RecvFailed}
use Rattle.outside.specs.laws.SeenLaws.{journal-append}
use Rattle.outside.specs.laws.StateLaws.{state-append}
use Rattle.lego_model.specs.declared.wait.Awaited.{Awaited}
use Rattle.lego_model.specs.declared.wait.Heard.{Heard}
use Rattle.lego_model.specs.declared.wait.Heard.TheVariants as kinds
use Rattle.net_txn.specs.Waits.{Waits, Brought}
use Rattle.lego_model.specs.BarrierWaits.{heard, steps_by, wait_steps, barrier_sent, reply_got}
use Rattle.net_txn.specs.Net.{NetState}
use Rattle.net_txn.specs.LinkSteps.{OnLinks, AsksWithoutStrays}
use Rattle.of_types.specs.Membership.{is_among}
use Rattle.net_txn.specs.Asks.{GivesRows, AsksLost}
use Rattle.lego_model.specs.FlowQueries.{asked_from, request_sent}
use Rattle.lego_model.specs.OrderlySteps.{IsOrderly}
use Rattle.switch_laws.specs.laws.OrderlyLaws.{orderly-none, orderly-then, rows-orderly, rows-release-none}
use Rattle.switch_laws.specs.laws.ShownUndoLaws.{no-rows}
use Rattle.run_laws.specs.Engine.{Application, Engine, apps_from, Stands, rules_of}
use Rattle.lego_model.specs.Application.{names}
use Rattle.lego_model.specs.History.{own_acts, given_in, stimuli_in, lost_of}
use Rattle.lego_model.specs.ReferenceRun.{Said, text_of}
use Rattle.run_laws.specs.laws.DialogueLaws.{others_at_once}
use Rattle.run_laws.specs.laws.TellLaws.{released_same, lost_more}
use Rattle.run_laws.specs.laws.ChainLaws.{links_state, links_tell}
use Rattle.run_laws.specs.laws.LinkStepLaws.{link_steps-tell}
use Rattle.run_laws.specs.LinkSteps.{TellsSame}
use Rattle.batch_laws.specs.laws.KeepingLaws.{Conforming-in_order, calls-orderly}
use Rattle.run_laws.specs.Whole.{at_last}
use Rattle.run_laws.specs.LastReport.{SameKeys, flow_lines, table_lines, place_lines, shown_text, last_text, last_lines, OnlyAsked, JoinedWith, app_lines}
use Rattle.batch_laws.specs.laws.PortTellLaws.{some_is_none}

-- ---- A switch

first_key : (k l : Key) (a b : List Action) (rs ss : Rows) → (k, a) ∷ rs ≡ (l, b) ∷ ss → k ≡ l
first_key k l a b rs ss h = let same : (k, a) ≡ (l, b) = cc in ap (λ (p : Key × List Action). p.0) same

other_rows : (p q : Key × List Action) (rs ss : Rows) → p ∷ rs ≡ q ∷ ss → rs ≡ ss
other_rows p q rs ss h = cc

pub keys-same : (moment : ℕ) (es : List Entry) (vs : List ViewRow) → rows_of_view vs ≡ rows_of_table es → SameKeys (map (flow_row moment) es) vs
keys-same moment [] [] h = tt
keys-same moment [] (v ∷ vs) h = absurd cc
keys-same moment (e ∷ es) [] h = absurd cc
keys-same moment (e ∷ es) (v ∷ vs) h =
    (first_key v.key e.key v.actions e.actions (rows_of_view vs) (rows_of_table es) h, keys-same moment es vs (other_rows (v.key, v.actions) (e.key, e.actions) (rows_of_view vs) (rows_of_table es) h))

lines-shown : (moment least : ℕ) (all : List ViewRow) (es : List Entry) (vs : List ViewRow) → AscendsFrom least es → rows_of_view vs ≡ rows_of_table es → ((k : Key) → least ≤ key_number k → flags_in all k ≡ flags_in vs k)
    → flow_lines (map (flow_row moment) es) vs ≡ flat_map (entry_text moment) (map (correction_in all) es)
lines-shown moment least all [] [] up h flags = refl
lines-shown moment least all [] (v ∷ vs) up h flags = refl
lines-shown moment least all (e ∷ es) [] up h flags = absurd cc
lines-shown moment least all (e ∷ es) (v ∷ vs) up h flags =
    let key : v.key ≡ e.key = first_key v.key e.key v.actions e.actions (rows_of_view vs) (rows_of_table es) h in
    let there : key_number v.key ≡ key_number e.key = ap key_number key in
    let own : (correction_in all e).flags ≡ v.flags = flags-shown all e ∙ flags e.key up.0 ∙ flags_in-here v vs e.key there in
    ap₂ (λ (line text : List ℕ). line ++ text) (ap₂ (λ (r : FlowRow) (n : ℕ). flow_line r n) (sym (row-shown all moment e)) (sym own))
    (lines-shown moment (key_number e.key + 1) all es vs up.1 (other_rows (v.key, v.actions) (e.key, e.actions) (rows_of_view vs) (rows_of_table es) h)
    (λ k above. flags k (omega (arith, above, up.0)) ∙ flags_in-there v vs k (λ same. omega (arith, above, there, same))))

-- the lines of a switch's own rows, with the flags of its view, are those of the switch as its owner sees it
pub table-shown : (d : ℕ) (views : List TableView) (vs : List ViewRow) (s : SwitchState) → rows_at d views ≡ Some vs → rows_of_view vs ≡ rows_of_table s.table.entries → IsTable s.table.entries → s.declared.dpid ≡ d
    → table_lines d (own_rows s) vs ≡ switch_text (Some (corrected_switch (corrections views d) s))
table-shown d views vs s is same table number =
    let count : length (own_rows s) ≡ length (map (corrections views d) s.table.entries) = length-map s.table.entries (flow_row s.moment) ∙ sym (length-map s.table.entries (corrections views d)) in
    let all : List ViewRow = rows_or_none (rows_at d views) in
    let flags : (k : Key) → 0 ≤ key_number k → flags_in all k ≡ flags_in vs k = λ k le. ap (λ (o : Option (List ViewRow)). flags_in (rows_or_none o) k) is in
    ap₂ (λ (a b : List ℕ). a ++ b) (ap₂ switch_line (sym number) count) (lines-shown s.moment 0 all s.table.entries vs table same flags)

-- ---- All of them

pub joined-with : (d : ℕ) (views : List TableView) (s : State) (vs : List ViewRow) → Agrees d views s → rows_at d views ≡ Some vs → JoinedWith vs (switch_of d s)
joined-with d views s vs agrees is = joined_with (switch_of d s) (sym (ap (λ (o : Option (List ViewRow)). option_map rows_of_view o) is) ∙ agrees)
  where
    joined_with : {vs : List ViewRow} (o : Option SwitchState) → Some (rows_of_view vs) ≡ option_map (λ x. rows_of_table x.table.entries) o → JoinedWith vs o
    joined_with None h = absurd cc
    joined_with {vs = vs} (Some x) h = record { switch = x; stands = refl; rows = same_Some (rows_of_view vs) (rows_of_table x.table.entries) h }

-- one that has none is out
pub out-with : (d : ℕ) (views : List TableView) (s : State) → Agrees d views s → rows_at d views ≡ None → switch_of d s ≡ None
out-with d views s agrees is = out_with (switch_of d s) (sym (ap (λ (o : Option (List ViewRow)). option_map rows_of_view o) is) ∙ agrees)
  where
    out_with : (o : Option SwitchState) → None ≡ option_map (λ x. rows_of_table x.table.entries) o → o ≡ None
    out_with None h = refl
    out_with (Some x) h = absurd cc

-- and one that is out has none
none-viewed : (d : ℕ) (views : List TableView) (s : State) → Agrees d views s → switch_of d s ≡ None → rows_at d views ≡ None
none-viewed d views s agrees out = no-rows (rows_at d views) (agrees ∙ ap (option_map (λ x. rows_of_table x.table.entries)) out)

-- no view stands below the first
none_below : (d least : ℕ) (views : List TableView) → ViewsAscend least views → d < least → rows_at d views ≡ None
none_below d least [] up below = refl
none_below d least (v ∷ vs) up below =
    rw (ne_eqb v.dpid d (λ same. omega (arith, same, below, up.0))) (none_below d (v.dpid + 1) vs up.1 (omega (arith, below, up.0)))

-- none of these stands below the first
declared_above : (d least : ℕ) (ds : List Declared) → AreDeclaredFrom least ds → is_declared d ds ≡ true → least ≤ d
declared_above d least [] are is = absurd (true≢false (sym is))
declared_above d least (x ∷ xs) are is =
    elim (cases_Bool (x.dpid == d)) [
      | inl here ↦ omega (arith, eqb-true x.dpid d here, are.0)
      | inr other ↦ omega (arith, declared_above d (x.dpid + 1) xs are.2 (rw other at is), are.0)
    ]

abbrev declared_text : (ℕ → List ℕ) → List Declared → List ℕ
declared_text g ds = flat_map (λ x. g x.dpid) ds

abbrev viewed_text : (ℕ → List ℕ) → List TableView → List ℕ
viewed_text g vs = flat_map (λ v. g v.dpid) vs

-- What has text only where there is a view, over the declared switches: it is that over the views.
over-views : (g : ℕ → List ℕ) (first least : ℕ) (vs : List TableView) (ds : List Declared) → ViewsAscend first vs → AreDeclaredFrom least ds → ((d : ℕ) → is_declared d ds ≡ false → rows_at d vs ≡ None)
    → ((d : ℕ) → least ≤ d → rows_at d vs ≡ None → g d ≡ []) → viewed_text g vs ≡ declared_text g ds
over-views g first least [] [] up are known quiet = refl
over-views g first least (v ∷ vs) [] up are known quiet =
    let none : (if v.dpid == v.dpid then Some v.rows else rows_at v.dpid vs) ≡ None = known v.dpid refl in
    absurd (some_is_none v.rows (rw (eq-eqb v.dpid v.dpid refl) at none))
over-views g first least [] (x ∷ xs) up are known quiet =
    over-views g first (x.dpid + 1) [] xs tt are.2 (λ d h. refl) (λ d le h. quiet d (omega (arith, le, are.0)) refl) ∙ ap (λ (text : List ℕ). text ++ declared_text g xs) (sym (quiet x.dpid are.0 refl))
over-views g first least (v ∷ vs) (x ∷ xs) up are known quiet =
    elim (cases_Bool (v.dpid == x.dpid)) [
      | inl here ↦
          let same : v.dpid ≡ x.dpid = eqb-true v.dpid x.dpid here in
          ap₂ (λ (n : ℕ) (text : List ℕ). g n ++ text) same
          (over-views g (v.dpid + 1) (x.dpid + 1) vs xs up.1 are.2
          (λ d undeclared. elim (cases_Bool (x.dpid == d)) [
            | inl this ↦ none_below d (v.dpid + 1) vs up.1 (omega (arith, same, eqb-true x.dpid d this))
            | inr that ↦ behind v vs d (λ e. eqb-false x.dpid d that (sym same ∙ e)) (known d (rw that undeclared))
          ])
          (λ d le h. quiet d (omega (arith, le, are.0)) (before v vs d (λ e. omega (arith, e, le, same)) h)))
      | inr other ↦
          let apart : v.dpid ≢ x.dpid = eqb-false v.dpid x.dpid other in
          let above : x.dpid + 1 ≤ v.dpid = declared_above v.dpid (x.dpid + 1) xs are.2 (declared_behind v vs x xs apart (known v.dpid)) in
          let unseen : rows_at x.dpid (v ∷ vs) ≡ None = none_below x.dpid v.dpid (v ∷ vs) (omega arith, up.1) (omega (arith, above)) in
          over-views g first (x.dpid + 1) (v ∷ vs) xs up are.2
          (λ d undeclared. elim (cases_Bool (x.dpid == d)) [
            | inl this ↦ subst (λ (n : ℕ). rows_at n (v ∷ vs) ≡ None) (eqb-true x.dpid d this) unseen
            | inr that ↦ known d (rw that undeclared)
          ])
          (λ d le h. quiet d (omega (arith, le, are.0)) h)
          ∙ ap (λ (text : List ℕ). text ++ declared_text g xs) (sym (quiet x.dpid are.0 unseen))
    ]
  where
    behind : (v : TableView) (vs : List TableView) (d : ℕ) → v.dpid ≢ d → rows_at d (v ∷ vs) ≡ None → rows_at d vs ≡ None
    behind v vs d apart h = rw (ne_eqb v.dpid d apart) at h

    before : (v : TableView) (vs : List TableView) (d : ℕ) → v.dpid ≢ d → rows_at d vs ≡ None → rows_at d (v ∷ vs) ≡ None
    before v vs d apart h = rw (ne_eqb v.dpid d apart) h

    declared_behind : (v : TableView) (vs : List TableView) (x : Declared) (xs : List Declared) → v.dpid ≢ x.dpid → (is_declared v.dpid (x ∷ xs) ≡ false → rows_at v.dpid (v ∷ vs) ≡ None) → is_declared v.dpid xs ≡ true
    declared_behind v vs x xs apart known = elim (cases_Bool (is_declared v.dpid xs)) [
      | inl is ↦ is
      | inr not ↦
          let none : rows_at v.dpid (v ∷ vs) ≡ None = known (rw (ne_eqb x.dpid v.dpid (λ e. apart (sym e))) not) in
          absurd (some_is_none v.rows (rw (eq-eqb v.dpid v.dpid refl) at none))
    ]

abbrev place_text : List ℕ → (ℕ → Option SwitchState) → ℕ → List ℕ
place_text lost f d = if is_among d lost then lost_line d else switch_text (f d)

places-text : (lost : List ℕ) (f : ℕ → Option SwitchState) (ds : List Declared) → flat_map (place_lines lost) (places f ds) ≡ declared_text (place_text lost f) ds
places-text lost f [] = refl
places-text lost f (x ∷ xs) = ap (λ (text : List ℕ). place_text lost f x.dpid ++ text) (places-text lost f xs)

-- what is lost is joined
quiet_out : (lost : List ℕ) (views : List TableView) (s : State) (d : ℕ) → is_among d lost ≡ false → switch_of d s ≡ None → shown_text lost views s d ≡ []
quiet_out lost views s d here none = rw here (ap (λ (o : Option SwitchState). switch_text (option_map (corrected_switch (corrections views d)) o)) none)

-- Over the views is over the places of the declared switches.
pub places-shown : (lost : List ℕ) (declared : List Declared) (views : List TableView) (s : State) → ViewsAscend 0 views → AreDeclaredFrom 1 declared → Stand declared s → ((d : ℕ) → Agrees d views s)
    → ((d : ℕ) → rows_at d views ≡ None → is_among d lost ≡ false) → flat_map (λ v. shown_text lost views s v.dpid) views ≡ flat_map (place_lines lost) (shown_places declared (corrections views) s)
unfolding shown_places
places-shown lost declared views s up are stand agrees joined =
    over-views (shown_text lost views s) 0 1 views declared up are (λ d other. none-viewed d views s (agrees d) (stand.undeclared d other))
    (λ d le none. quiet_out lost views s d (joined d none) (out-with d views s (agrees d) none))
    ∙ sym (places-text lost (shown_switch (corrections views) s) declared)

-- ---- The whole

-- the report of a run of the reference controller is the text of its lines, and its last lines
pub report-ends : (called : List (List ℕ)) (r : Run) → run_report called r ≡ text_of called r ++ last_lines called r
unfolding run_report
report-ends called r =
    ap (λ (text : List ℕ). text ++ end_line r.moment r.events) (append_assoc (text_of called r) (places_lines r) (apps_text called r.apps))
    ∙ append_assoc (text_of called r) (places_lines r ++ apps_text called r.apps) (end_line r.moment r.events)
  where
    places_lines : Run → List ℕ
    places_lines q = flat_map (place_lines q.losses.last) q.places

-- the lines of the applications
apps-shown : {Own : Type 0} (i : ℕ) (seen : Seen Own) (apps : List Application) (said : ℕ → Said) → apps_text (names (map (λ a. a.rule) apps)) (apps_from i seen apps said) ≡ app_lines apps
apps-shown i seen [] said = refl
apps-shown i seen (a ∷ more) said = ap (λ (text : List ℕ). app_line a.rule.name a.alive a.done a.failed ++ text) (apps-shown (i + 1) seen more said)

-- Where engine and reference controller stand alike, they say the same at the end.
pub last-shown : {Own : Type 0} (lost : List ℕ) (seen : Seen Own) (e : Engine) (said : ℕ → Said) (r : Run) → Stands seen e said (at_last lost) r → last_lines (names (rules_of e)) r ≡ last_text lost seen e
last-shown lost seen e said r stands =
    let last_is : r.losses.last ≡ lost = ap (λ (l : Losses). l.last) stands.losses_is in
    let moment : r.moment ≡ e.net.moment = stands.moment ∙ sym stands.calm.moment in
    let first_text : List ℕ = flat_map (place_lines lost) (shown_places seen.given.declared (shown_by e.net) (state seen)) in
    rw (last_is, stands.places, stands.apps, moment, stands.events)
    (ap (λ (text : List ℕ). (first_text ++ text) ++ end_line e.net.moment e.events) (apps-shown 0 seen e.apps said)
    ∙ append_assoc first_text (app_lines e.apps) (end_line e.net.moment e.events))

-- ---- What it leaves

-- a message to or from a switch
abbrev IsTalk : WorldStep → Type 0
IsTalk (Acted (Sent d bytes)) = Unit {0}
IsTalk (Acted (Got d bytes)) = Unit {0}
IsTalk other = ⊥

all_talk : (xs ys : List WorldStep) → AllByRecursion IsTalk xs → AllByRecursion IsTalk ys → AllByRecursion IsTalk (xs ++ ys)
all_talk [] ys all rest = rest
all_talk (x ∷ xs) ys all rest = (all.0, all_talk xs ys all.1 rest)

heard-talk : (d : ℕ) (h : Heard) (bytes : List ℕ) → AllByRecursion IsTalk (steps_by d h bytes)
heard-talk d kinds.Reply bytes = tt
heard-talk d (kinds.Refused refusal) bytes = tt
heard-talk d kinds.Notice bytes = tt
heard-talk d kinds.Echo bytes = (tt, tt)
heard-talk d kinds.Other bytes = tt

wait-talk : (a : Awaited) (got : List (List ℕ)) → AllByRecursion IsTalk (wait_steps a got)
wait-talk a [] = tt
wait-talk a (b ∷ bs) = (tt, all_talk (steps_by a.dpid (heard a b) b) (wait_steps a bs) (heard-talk a.dpid (heard a b) b) (wait-talk a bs))

-- what such a step tells
record TellsNothing (app : ℕ) (steps : List WorldStep) : Type 0 where
  acts : filter (is_of app) (journal steps) ≡ []
  given : inputs app (journal steps) ≡ []
  stims : stimuli (journal steps) ≡ []
  lost : losses (journal steps) ≡ []

talk-tells : (app : ℕ) (steps : List WorldStep) → AllByRecursion IsTalk steps → TellsNothing app steps
unfolding journal inputs stimuli losses
talk-tells app [] are = record { acts = refl; given = refl; stims = refl; lost = refl }
talk-tells app (Acted (Sent d bytes) ∷ steps) are = let rest = talk-tells app steps are.1 in record { acts = rest.acts; given = rest.given; stims = rest.stims; lost = rest.lost }
talk-tells app (Acted (Got d bytes) ∷ steps) are = let rest = talk-tells app steps are.1 in record { acts = rest.acts; given = rest.given; stims = rest.stims; lost = rest.lost }
talk-tells app (Acted (Stim x) ∷ steps) are = absurd are.0
talk-tells app (Acted (Started of ok) ∷ steps) are = absurd are.0
talk-tells app (Acted (Gave of bytes) ∷ steps) are = absurd are.0
talk-tells app (Acted (Gone of bytes) ∷ steps) are = absurd are.0
talk-tells app (Acted (Took of what) ∷ steps) are = absurd are.0
talk-tells app (Acted (Ended of) ∷ steps) are = absurd are.0
talk-tells app (Acted (Lost d) ∷ steps) are = absurd are.0
talk-tells app (TookInto of what room ∷ steps) are = absurd are.0
talk-tells app (From d bytes ∷ steps) are = absurd are.0
talk-tells app (Joined d bytes ∷ steps) are = absurd are.0
talk-tells app (Left d ∷ steps) are = absurd are.0
talk-tells app (Moment t ∷ steps) are = absurd are.0
talk-tells app (Idle ∷ steps) are = absurd are.0
talk-tells app (End ∷ steps) are = absurd are.0
talk-tells app (Opened ∷ steps) are = absurd are.0
talk-tells app (NotOpened ∷ steps) are = absurd are.0
talk-tells app (NextFailed ∷ steps) are = absurd are.0
talk-tells app (SendLost d ∷ steps) are = absurd are.0
talk-tells app (RecvLost d ∷ steps) are = absurd are.0
talk-tells app (SendFailed d ∷ steps) are = absurd are.0
talk-tells app (RecvFailed d ∷ steps) are = absurd are.0

talk-marks : (steps : List WorldStep) (s : State) → AllByRecursion IsTalk steps → (after_steps steps s).marks ≡ s.marks
unfolding after_step after_act
talk-marks [] s are = refl
talk-marks (Acted (Sent d bytes) ∷ steps) s are = talk-marks steps (after_step (Acted (Sent d bytes)) s) are.1
talk-marks (Acted (Got d bytes) ∷ steps) s are = talk-marks steps (after_step (Acted (Got d bytes)) s) are.1
talk-marks (Acted (Stim x) ∷ steps) s are = absurd are.0
talk-marks (Acted (Started of ok) ∷ steps) s are = absurd are.0
talk-marks (Acted (Gave of bytes) ∷ steps) s are = absurd are.0
talk-marks (Acted (Gone of bytes) ∷ steps) s are = absurd are.0
talk-marks (Acted (Took of what) ∷ steps) s are = absurd are.0
talk-marks (Acted (Ended of) ∷ steps) s are = absurd are.0
talk-marks (Acted (Lost d) ∷ steps) s are = absurd are.0
talk-marks (TookInto of what room ∷ steps) s are = absurd are.0
talk-marks (From d bytes ∷ steps) s are = absurd are.0
talk-marks (Joined d bytes ∷ steps) s are = absurd are.0
talk-marks (Left d ∷ steps) s are = absurd are.0
talk-marks (Moment t ∷ steps) s are = absurd are.0
talk-marks (Idle ∷ steps) s are = absurd are.0
talk-marks (End ∷ steps) s are = absurd are.0
talk-marks (Opened ∷ steps) s are = absurd are.0
talk-marks (NotOpened ∷ steps) s are = absurd are.0
talk-marks (NextFailed ∷ steps) s are = absurd are.0
talk-marks (SendLost d ∷ steps) s are = absurd are.0
talk-marks (RecvLost d ∷ steps) s are = absurd are.0
talk-marks (SendFailed d ∷ steps) s are = absurd are.0
talk-marks (RecvFailed d ∷ steps) s are = absurd are.0

only-asked : {Own : Type 0} (old new : Seen Own) (steps : List WorldStep) → new.given ≡ old.given → new.history ≡ old.history ++ steps → AllByRecursion IsTalk steps → ((number : ℕ) → AllByRecursion (IsOrderly number) steps) → released (journal steps) ≡ [] → OnlyAsked [] old new
only-asked old new steps given more are orderly none =
    let tells : (app : ℕ) → TellsNothing app steps = λ app. talk-tells app steps are in
    let longer : journal new.history ≡ journal old.history ++ journal steps = ap journal more ∙ journal-append old.history steps in
    record {
      given = given;
      acts = λ app. ap (filter (is_of app)) longer ∙ filter-append (is_of app) (journal old.history) (journal steps) ∙ ap (λ (xs : List Act). own_acts app old ++ xs) (tells app).acts ∙ append-nil (own_acts app old);
      inputs = λ app. ap (inputs app) longer ∙ inputs-append app (journal old.history) (journal steps) ∙ ap (λ (xs : List (List ℕ)). given_in app old ++ xs) (tells app).given ∙ append-nil (given_in app old);
      stimuli = ap stimuli longer ∙ stimuli-append (journal old.history) (journal steps) ∙ ap (λ (xs : List WorldStim). stimuli_in old ++ xs) (tells 0).stims ∙ append-nil (stimuli_in old);
      released = released_same old new (journal steps) longer none;
      lost_is = lost_more old new (journal steps) longer ∙ ap (λ (ds : List ℕ). lost_of old ++ ds) (tells 0).lost;
      marks = ap (λ (s : State). s.marks) (state-append old new steps given more) ∙ talk-marks steps (state old) are;
      at_once = λ app. others_at_once app old new steps more (tells app).acts;
      orderly = λ number. record { steps = steps; history = more; orderly = orderly number };
    }

waits-asked : {Own : Type 0} (Tells : Type 0) (d xid : ℕ) (old new : Seen Own) (came : List (ℕ × List ℕ)) (brought : Brought) → Tells → Waits Tells (asked_from d xid) (request_sent d xid ∷ barrier_sent (asked_from d xid) ∷ []) old new [] came brought
    → OnlyAsked [] old new
waits-asked Tells d xid old new came brought told waits =
    let a : Awaited = asked_from d xid in
    only-asked old new (request_sent d xid ∷ barrier_sent a ∷ (wait_steps a waits.got ++ reply_got a ∷ [])) waits.hears.continues.given (waits.hears.told told)
    (tt, (tt, all_talk (wait_steps a waits.got) (reply_got a ∷ []) (wait-talk a waits.got) (tt, tt))) (λ number. rows-orderly number d xid waits.got) (rows-release-none d xid waits.got)

-- To ask a switch for its rows leaves all that is told of the applications.
pub rows-asked : {Own : Type 0} (Tells : Type 0) (d xid : ℕ) (old new : Seen Own) (kept now_kept : List (ℕ × List ℕ)) (rows : List FlowRow) → Tells → GivesRows Tells d xid old new kept now_kept rows → OnlyAsked [] old new
rows-asked Tells d xid old new kept now_kept rows told gives = waits-asked Tells d xid old new gives.came gives.answered.brought told gives.answered.waits

-- Where it was lost meanwhile, that leaves it too.
pub lost-asked : {Own : Type 0} (Tells : Type 0) (d : ℕ) (old new : Seen Own) (net now_net : NetState) → Tells → Conforming new → is_joined d (state old) ≡ true → Continues Tells old new → OnLinks Tells old new → AsksWithoutStrays Tells d old new → AsksLost Tells d old new net now_net
    → OnlyAsked (d ∷ []) old new
lost-asked Tells d old new net now_net told keeps joined continues links places lost =
    let only = links told in
    let out = lost.is_lost.out told joined in
    let longer : journal new.history ≡ journal old.history ++ journal out.steps = ap journal out.history ∙ journal-append old.history out.steps in
    let tells : (app : ℕ) → TellsSame app old new = λ app. links_tell app old new only in
    record {
      given = continues.given;
      acts = λ app. (tells app).acts;
      inputs = λ app. (tells app).given;
      stimuli = (tells 0).stims;
      released = released_same old new (journal out.steps) longer out.released_is;
      lost_is = lost_more old new (journal out.steps) longer ∙ ap (λ (ds : List ℕ). lost_of old ++ ds) out.lost;
      marks = (links_state old new continues.given only).marks;
      at_once = λ app. others_at_once app old new only.steps only.history (link_steps-tell app only.steps only.all).acts;
      orderly = λ number. calls-orderly number old new only (places told (Conforming-in_order new keeps) joined);
    }

pub asked-nothing : {Own : Type 0} (seen : Seen Own) → OnlyAsked [] seen seen
asked-nothing seen = record {
  given = refl;
  acts = λ app. refl;
  inputs = λ app. refl;
  stimuli = refl;
  released = refl;
  lost_is = sym (append-nil (lost_of seen));
  marks = refl;
  at_once = λ app said. said;
  orderly = λ number. orderly-none number seen;
}

pub asked-then : {Own : Type 0} (lost more : List ℕ) (old mid new : Seen Own) → OnlyAsked lost old mid → OnlyAsked more mid new → OnlyAsked (lost ++ more) old new
asked-then lost more old mid new first rest = record {
  given = rest.given ∙ first.given;
  acts = λ app. rest.acts app ∙ first.acts app;
  inputs = λ app. rest.inputs app ∙ first.inputs app;
  stimuli = rest.stimuli ∙ first.stimuli;
  released = rest.released ∙ first.released;
  lost_is = rest.lost_is ∙ ap (λ (ds : List ℕ). ds ++ more) first.lost_is ∙ append_assoc (lost_of old) lost more;
  marks = rest.marks ∙ first.marks;
  at_once = λ app said. rest.at_once app (first.at_once app said);
  orderly = λ number. orderly-then number old mid new (first.orderly number) (rest.orderly number);
}
