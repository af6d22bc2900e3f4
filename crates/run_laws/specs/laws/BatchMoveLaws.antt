-- A batch in a world that keeps its word is what the reference controller makes of its stimulus.
use Rattle.std.proofs.Common.{◌≡◌, ℕ, ◌+◌, List, [], ◌∷◌, ◌++◌, length, filter, Bool, true, false, Option, Some, None, refl, sym, ap, ap₂, ◌∙◌, subst, inl, inr}
use Rattle.std.specs.Option.{option_map}
use Rattle.std.proofs.lemmas.List.{append-nil, append_cancel_left}
use Rattle.std.proofs.lemmas.List.Concat.{flat_map-append}
use Rattle.std.proofs.lemmas.List.Elements.{filter-append}
use Rattle.of_types.specs.declared.journal.Act.{Act}
use Rattle.of_types.specs.declared.journal.WorldStim.{WorldStim}
use Rattle.of_types.specs.declared.journal.WorldStim.TheVariants.{Join, Leave, At, Of}
use Rattle.flow_table.specs.Switch.{Declared, SwitchState}
use Rattle.app_frames.specs.declared.frame.Event.{Event}
use Rattle.lego_model.specs.Answers.{rows_of_table}
use Rattle.lego_model.specs.Journal.{is_of, inputs, stimuli, released, losses}
use Rattle.lego_model.specs.Places.{Place, with_place}
use Rattle.lego_model.specs.Losses.{Losses, next_flag, batch_fewer}
use Rattle.lego_model.specs.Controller.{Run, Lost, reference_mark, places_after, events_after, lost_at, left_at, happen_to, happen}
use Rattle.lego_model.specs.RunReport.{lost_line, line_text}
use Rattle.lego_model.specs.Agreement.{AgreeMark, AgreeMarks}
use Rattle.outside.specs.declared.step.WorldStep.{WorldStep}
use Rattle.outside.specs.Seen.{Given, Seen, Continues, journal}
use Rattle.outside.specs.laws.SeenLaws.{journal-append}
use Rattle.outside.specs.State.{Mark, State, mark_of, after_stim, state, switch_of, waits_of, moment_after}
use Rattle.outside.specs.Conforming.{Conforming}
use Rattle.lego_model.specs.Packets.{nothing_held}
use Rattle.net_txn.specs.Net.{NetState}
use Rattle.switch_laws.specs.Shown.{shown_places, shown_by}
use Rattle.switch_laws.specs.Orderly.{OrderlySince}
use Rattle.switch_laws.specs.Since.{ports_known}
use Rattle.switch_laws.specs.Sound.{Sound}
use Rattle.switch_laws.specs.laws.OrderlyLaws.{orderly-whole}
use Rattle.lego_model.specs.History.{starts_in, replies_in, own_acts, given_in, stimuli_in, points_in}
use Rattle.journal_laws.specs.laws.CallLaws.{inputs_own}
use Rattle.batch_laws.specs.Knowledge.{knowledge_of}
use Rattle.batch_laws.specs.Calm.{Calm}
use Rattle.batch_laws.specs.Batches.{Standing}
use Rattle.batch_laws.specs.InBatch.{SameBesides, BatchDone, BatchLost, BatchEnds, BatchOver}
use Rattle.batch_laws.specs.laws.HistoryLaws.{links-declared}
use Rattle.batch_laws.specs.laws.StimulusLaws.{stimulus-handled}
use Rattle.batch_laws.specs.laws.LossLaws.{loss-handled}
use Rattle.batch_laws.specs.Tells.{StimulusHandled, StimulusLost}
use Rattle.run_laws.specs.Engine.{Application, Engine, EachFrom, Stands, apps_from, ahead, behind, told_none, rules_of, engine_then}
use Rattle.lego_model.specs.Application.{names}
use Rattle.lego_model.specs.ReferenceRun.{Said, text_of}
use Rattle.run_laws.specs.LinkSteps.{Silent}
use Rattle.run_laws.specs.Moves.{TellsMore, IsAtRest, AtRest, Moved, OneHappens}
use Rattle.run_laws.specs.laws.MoveLaws.{apps-ext, behind-none}
use Rattle.run_laws.specs.laws.OtherLaws.{silent-rests}
use Rattle.run_laws.specs.laws.PointLaws.{marks_more, mark_alike}
use Rattle.run_laws.specs.laws.FinishLaws.{shown-still}

-- ---- All is calm again

marks-then : (x : WorldStim) (s : State) → (after_stim x s).marks ≡ s.marks ++ mark_of None s ∷ []
unfolding after_stim
marks-then x s = refl

moment-then : (x : WorldStim) (s : State) → (after_stim x s).moment ≡ moment_after x s.moment
unfolding after_stim
moment-then (Join d) s = refl
moment-then (Leave d) s = refl
moment-then (At t) s = refl
moment-then (Of d y) s = refl

-- what is known then
pub calm-then : {Own : Type 0} (x : WorldStim) (first now : Standing Own) → first.net.held ≡ nothing_held → BatchDone x first now → StimulusHandled x first.seen first.net first.queue (knowledge_of now.net now.queue) → Calm now.seen now.net
calm-then x first now none done h = record {
  ready = record {
    waits = done.waits;
    agrees = λ d. h.agrees d ∙ ap (λ (o : Option SwitchState). option_map (λ y. rows_of_table y.table.entries) o) (sym (done.switches d));
    known = λ d. h.known d ∙ ap (ports_known d) (sym (done.switches d));
  };
  sound = record { entries = λ d y is. h.sound.entries d y (sym (done.switches d) ∙ is) };
  order = h.order;
  kept = done.kept;
  moment = h.moment ∙ sym done.stays.moment;
  none_begun = done.begun;
  none_due = done.due;
  held = done.held ∙ none;
  left = done.left;
}

-- or where a switch was lost
calm-lost : {Own : Type 0} (x : WorldStim) (first now : Standing Own) → first.net.held ≡ nothing_held → (l : BatchLost x false first now) → StimulusLost x l.dpid first.seen now.seen first.net first.queue (knowledge_of now.net now.queue) → Calm now.seen now.net
calm-lost x first now none l h = record {
  ready = record { waits = l.waits; agrees = h.agrees; known = h.known };
  sound = h.sound;
  order = h.order;
  kept = l.kept;
  moment = h.moment ∙ sym l.stays.moment;
  none_begun = l.begun_is;
  none_due = l.due;
  held = l.held ∙ none;
  left = l.left;
}

-- where the state is the same
calm-still : {Own : Type 0} (old new : Seen Own) (net : NetState) → state new ≡ state old → Calm old net → Calm new net
calm-still old new net same calm = record {
  ready = record {
    waits = λ d. ap (λ (t : State). waits_of d t) same ∙ calm.ready.waits d;
    agrees = λ d. calm.ready.agrees d ∙ ap (λ (t : State). option_map (λ y. rows_of_table y.table.entries) (switch_of d t)) (sym same);
    known = λ d. calm.ready.known d ∙ ap (λ (t : State). ports_known d (switch_of d t)) (sym same);
  };
  sound = subst Sound (sym same) calm.sound;
  order = calm.order;
  kept = calm.kept;
  moment = calm.moment ∙ ap (λ (t : State). t.moment) (sym same);
  none_begun = ap (λ (t : State). t.begun) same ∙ calm.none_begun;
  none_due = ap (λ (t : State). t.due) same ∙ calm.none_due;
  held = calm.held;
  left = calm.left;
}

-- ---- The reference controller

marks-stand : {Own : Type 0} (x : WorldStim) (first now : Standing Own) (e : Engine) (said : ℕ → Said) (later : Losses) (r : Run) → Conforming first.seen → e.net ≡ first.net → SameBesides (state now.seen) (after_stim x (state first.seen)) → Stands first.seen e said later r
    → AgreeMarks (points_in now.seen) (r.marks ++ reference_mark None r.places ∷ [])
marks-stand x first now e said later r keeps same_net stays s =
    let old = first.seen in
    let before : r.places ≡ shown_places old.given.declared (shown_by first.net) (state old) = s.places ∙ ap (λ (n : NetState). shown_places old.given.declared (shown_by n) (state old)) same_net in
    subst (λ (ms : List Mark). AgreeMarks ms (r.marks ++ reference_mark None r.places ∷ [])) (sym (stays.marks ∙ marks-then x (state old)))
    (marks_more (state old).marks r.marks (mark_of None (state old)) (reference_mark None r.places) s.marks
    (subst (λ (ps : List Place). AgreeMark (mark_of None (state old)) (reference_mark None ps)) (sym before) (mark_alike None old.given.declared first.net.views (state old) (links-declared old) keeps.declared)))

-- what the application was given is the same
pub inputs-same : {Own : Type 0} (i : ℕ) (old new : Seen Own) → own_acts i new ≡ own_acts i old → given_in i new ≡ given_in i old
inputs-same i old new own = sym (inputs_own i (journal new.history)) ∙ ap (λ (acts : List Act). inputs i acts) own ∙ inputs_own i (journal old.history)

-- so it is with all of them
apps-same : {Own : Type 0} (old new : Seen Own) (apps : List Application) (said : ℕ → Said) → ((i : ℕ) → own_acts i new ≡ own_acts i old) → apps_from 0 old apps said ≡ apps_from 0 new apps (behind told_none said)
apps-same old new apps said own = apps-ext 0 old new apps said (behind told_none said) (λ j le. (inputs-same j old new (own j), sym (behind-none said j)))

-- of the losses that are to come the first is that of a batch
flag-so : (flag : Bool) (later : Losses) (r : Run) (x : WorldStim) → r.losses ≡ ahead (flag ∷ []) [] later → lost_at (next_flag r.losses.batches) x ≡ lost_at flag x
flag-so flag later r x is = ap (λ (l : Losses). lost_at (next_flag l.batches) x) is

no_flag : (x : WorldStim) → lost_at false x ≡ None
no_flag (Join d) = refl
no_flag (Leave d) = refl
no_flag (At t) = refl
no_flag (Of d y) = refl

abbrev happened : WorldStim → Run → Run → Run
happened x r done = record done {
  moment = moment_after x r.moment;
  losses = batch_fewer r.losses;
  marks = r.marks ++ reference_mark None r.places ∷ [];
}

happen-by : (x : WorldStim) (r : Run) (o : Option ℕ) → lost_at (next_flag r.losses.batches) x ≡ o → happen x r ≡ happened x r (happen_to o x (places_after x r.moment r.places) r)
unfolding happen
happen-by x r o is = ap (λ (l : Option ℕ). happened x r (happen_to l x (places_after x r.moment r.places) r)) is

happens-stands : {Own : Type 0} (x : WorldStim) (first now : Standing Own) (e : Engine) (said : ℕ → Said) (later : Losses) (r : Run) → e.net ≡ first.net → e.queue ≡ first.queue
    → BatchDone x first now → Conforming first.seen → StimulusHandled x first.seen first.net first.queue (knowledge_of now.net now.queue) → Stands first.seen e said (ahead (false ∷ []) [] later) r
    → Stands now.seen (engine_then e now.net now.queue) (behind told_none said) later (happen x r)
happens-stands {Own} x first now e said later r same_net same_queue done keeps_old h s =
    let old = first.seen in
    let new = now.seen in
    let declared : new.given.declared ≡ old.given.declared = ap (λ (g : Given Own). g.declared) done.given in
    let before : r.places ≡ shown_places old.given.declared (shown_by first.net) (state old) = s.places ∙ ap (λ (n : NetState). shown_places old.given.declared (shown_by n) (state old)) same_net in
    subst (Stands new (engine_then e now.net now.queue) (behind told_none said) later) (sym (happen-by x r None (flag-so false later r x s.losses_is ∙ no_flag x))) (record {
      calm = calm-then x first now (subst (λ (n : NetState). n.held ≡ nothing_held) same_net s.calm.held) done h;
      moment = ap (moment_after x) s.moment ∙ sym (moment-then x (state old)) ∙ sym done.stays.moment;
      places = ap₂ (λ (m : ℕ) (ps : List Place). places_after x m ps) s.moment before ∙ sym h.places
          ∙ sym (shown-still old.given.declared now.net.views (after_stim x (state old)) (state new) done.switches)
          ∙ ap (λ (ds : List Declared). shown_places ds (shown_by now.net) (state new)) (sym declared);
      queue = ap₂ (λ (q : List Event) (more : List Event). q ++ more) (s.queue ∙ same_queue) (ap₂ (λ (m : ℕ) (ps : List Place). events_after x m ps) s.moment before) ∙ sym h.queue_is;
      events = s.events;
      apps = s.apps ∙ apps-same old new e.apps said done.acts;
      released = s.released ∙ sym done.released;
      lost = s.lost ∙ sym done.lost;
      losses_is = ap batch_fewer s.losses_is;
      marks = marks-stand x first now e said (ahead (false ∷ []) [] later) r keeps_old same_net done.stays s;
    })

lost-stands : {Own : Type 0} (x : WorldStim) (first now : Standing Own) (e : Engine) (said : ℕ → Said) (later : Losses) (r : Run) → e.net ≡ first.net → e.queue ≡ first.queue
    → (l : BatchLost x false first now) → Conforming first.seen → StimulusLost x l.dpid first.seen now.seen first.net first.queue (knowledge_of now.net now.queue) → Stands first.seen e said (ahead (true ∷ []) [] later) r
    → Stands now.seen (engine_then e now.net now.queue) (behind told_none said) later (happen x r)
lost-stands {Own} x first now e said later r same_net same_queue l keeps_old h s =
    let old = first.seen in
    let new = now.seen in
    let d = l.dpid in
    let declared : new.given.declared ≡ old.given.declared = ap (λ (g : Given Own). g.declared) l.given in
    let before : r.places ≡ shown_places old.given.declared (shown_by first.net) (state old) = s.places ∙ ap (λ (n : NetState). shown_places old.given.declared (shown_by n) (state old)) same_net in
    let after_is : places_after x r.moment r.places ≡ h.after = ap₂ (λ (m : ℕ) (ps : List Place). places_after x m ps) s.moment before ∙ sym h.after_is in
    subst (Stands new (engine_then e now.net now.queue) (behind told_none said) later) (sym (happen-by x r (Some d) (flag-so true later r x s.losses_is ∙ l.of_stimulus))) (record {
      calm = calm-lost x first now (subst (λ (n : NetState). n.held ≡ nothing_held) same_net s.calm.held) l h;
      moment = ap (moment_after x) s.moment ∙ sym (moment-then x (state old)) ∙ sym l.stays.moment;
      places = ap (with_place d (λ o. None)) after_is ∙ sym h.places ∙ ap (λ (ds : List Declared). shown_places ds (shown_by now.net) (state new)) (sym declared);
      queue = ap₂ (λ (q : List Event) (ps : List Place). q ++ left_at x d ps) (s.queue ∙ same_queue) after_is ∙ sym h.queue_is;
      events = s.events;
      apps = s.apps ∙ apps-same old new e.apps said l.acts;
      released = s.released ∙ sym l.released;
      lost = ap (λ (ds : List ℕ). ds ++ d ∷ []) s.lost ∙ sym l.lost;
      losses_is = ap batch_fewer s.losses_is;
      marks = marks-stand x first now e said (ahead (true ∷ []) [] later) r keeps_old same_net l.stays s;
    })

happen-text : (called : List (List ℕ)) (x : WorldStim) (later : Losses) (r : Run) → r.losses ≡ ahead (false ∷ []) [] later → text_of called (happen x r) ≡ text_of called r ++ []
happen-text called x later r is = ap (text_of called) (happen-by x r None (flag-so false later r x is ∙ no_flag x)) ∙ sym (append-nil (text_of called r))

lost-text : (called : List (List ℕ)) (x : WorldStim) (d : ℕ) (later : Losses) (r : Run) → lost_at true x ≡ Some d → r.losses ≡ ahead (true ∷ []) [] later → text_of called (happen x r) ≡ text_of called r ++ lost_line d
lost-text called x d later r of is =
    ap (text_of called) (happen-by x r (Some d) (flag-so true later r x is ∙ of)) ∙ flat_map-append (line_text called) r.lines (Lost d ∷ [])
    ∙ ap (λ (more : List ℕ). text_of called r ++ more) (append-nil (lost_line d))

-- ---- The batch

-- it tells nothing of an application
silent-since : {Own : Type 0} (i number : ℕ) (old new : Seen Own) → OrderlySince number old new → own_acts i new ≡ own_acts i old → Silent i old new
silent-since i number old new since own =
    let more : own_acts i new ≡ own_acts i old ++ filter (is_of i) (journal since.steps) =
    ap (λ (h : List WorldStep). filter (is_of i) (journal h)) since.history ∙ ap (λ (acts : List Act). filter (is_of i) acts) (journal-append old.history since.steps) ∙ filter-append (is_of i) (journal old.history) (journal since.steps) in
    record {
      steps = since.steps;
      history = since.history;
      none = append_cancel_left (own_acts i old) (filter (is_of i) (journal since.steps)) [] (sym more ∙ own ∙ sym (append-nil (own_acts i old)));
    }

pub each-still : {Own : Type 0} (i number : ℕ) (old new : Seen Own) (apps : List Application) → OrderlySince number old new → ((j : ℕ) → own_acts j new ≡ own_acts j old) → EachFrom (IsAtRest old) i apps → EachFrom (IsAtRest new) i apps
each-still i number old new [] since own each = tt
each-still i number old new (a ∷ more) since own each =
    (silent-rests i a old new (silent-since i number old new since (own i)) each.0, each-still (i + 1) number old new more since own each.1)

-- what is so of the applications then
talks-still : {Own : Type 0} (old new : Seen Own) (e : Engine) (net : NetState) (queue : List Event) → AtRest old e → ((i : ℕ) → own_acts i new ≡ own_acts i old) → Calm new net → OrderlySince (length e.apps) old new → AtRest new (engine_then e net queue)
talks-still old new e net queue settled own calm orderly = record {
  calm = calm;
  each = each-still 0 (length e.apps) old new e.apps orderly own settled.each;
  orderly = orderly-whole (length e.apps) old new settled.orderly orderly;
}

tells-none : {Own : Type 0} (old new : Seen Own) → ((i : ℕ) → own_acts i new ≡ own_acts i old) → (i : ℕ) → TellsMore (told_none i) (own_acts i old) (own_acts i new)
tells-none old new own i = record {
  starts = ap (λ (acts : List Act). starts_in acts) (own i) ∙ sym (append-nil (starts_in (own_acts i old)));
  replies = ap (λ (acts : List Act). replies_in acts) (own i) ∙ sym (append-nil (replies_in (own_acts i old)));
}

-- with a stimulus
pub batch-happens : {Own : Type 0} (Tells : Type 0) (x : WorldStim) (text : List ℕ) (first now : Standing Own) (e : Engine) → Tells → Continues Tells first.seen now.seen → Conforming first.seen → AtRest first.seen e → e.net ≡ first.net → e.queue ≡ first.queue
    → BatchEnds x first now → now.text ≡ first.text ++ text → OneHappens text first.seen now.seen e (engine_then e now.net now.queue)
batch-happens Tells x text first now e told later keeps_old settled same_net same_queue (inl done) noted =
    let old = first.seen in
    let new = now.seen in
    let calm : Calm old first.net = subst (λ (n : NetState). Calm old n) same_net settled.calm in
    let h = subst (StimulusHandled x old first.net first.queue) (sym done.knowledge) (stimulus-handled x old first.net first.queue keeps_old calm done.began.stimulus) in
    let none : [] ≡ text = append_cancel_left first.text [] text (append-nil first.text ∙ sym done.text ∙ noted) in
    subst (λ (t : List ℕ). OneHappens t old new e (engine_then e now.net now.queue)) none (record {
      stimulus = x;
      moved = record {
        settled = talks-still old new e now.net now.queue settled done.acts (calm-then x first now calm.held done h) (done.orderly (length e.apps));
        moves = record {
          told = told_none;
          batches = false ∷ [];
          turns = [];
          given = done.given;
          rules = refl;
          read = tells-none old new done.acts;
          read_stimuli = done.stimuli_is;
          stands = λ said more r fronts s. happens-stands x first now e said more r same_net same_queue done keeps_old h s;
          says = λ said more r fronts s. happen-text (names (rules_of e)) x more r s.losses_is;
        };
      };
    })
batch-happens Tells x text first now e told later keeps_old settled same_net same_queue (inr l) noted =
    let old = first.seen in
    let new = now.seen in
    let calm : Calm old first.net = subst (λ (n : NetState). Calm old n) same_net settled.calm in
    let h = loss-handled x false first now keeps_old calm l in
    let line : lost_line l.dpid ≡ text = append_cancel_left first.text (lost_line l.dpid) text (sym l.text ∙ noted) in
    subst (λ (t : List ℕ). OneHappens t old new e (engine_then e now.net now.queue)) line (record {
      stimulus = x;
      moved = record {
        settled = talks-still old new e now.net now.queue settled l.acts (calm-lost x first now calm.held l h) (l.orderly (length e.apps));
        moves = record {
          told = told_none;
          batches = true ∷ [];
          turns = [];
          given = l.given;
          rules = refl;
          read = tells-none old new l.acts;
          read_stimuli = l.stimuli_is;
          stands = λ said more r fronts s. lost-stands x first now e said more r same_net same_queue l keeps_old h s;
          says = λ said more r fronts s. lost-text (names (rules_of e)) x l.dpid more r l.of_stimulus s.losses_is;
        };
      };
    })

-- the last one, without a stimulus: nothing is done
pub batch-over : {Own : Type 0} (text : List ℕ) (first now : Standing Own) (e : Engine) → AtRest first.seen e → e.net ≡ first.net → e.queue ≡ first.queue
    → BatchOver first now → now.text ≡ first.text ++ text → Moved [] (λ r. r) text first.seen now.seen e (engine_then e now.net now.queue)
batch-over {Own} text first now e settled same_net same_queue over noted =
    let old = first.seen in
    let new = now.seen in
    let net = first.net in
    let now_net = now.net in
    let now_queue = now.queue in
    let none : [] ≡ text = append_cancel_left first.text [] text (append-nil first.text ∙ sym over.text ∙ noted) in
    let calm : Calm old net = subst (λ (n : NetState). Calm old n) same_net settled.calm in
    let journal_same : journal new.history ≡ journal old.history = over.acts in
    let own : (i : ℕ) → own_acts i new ≡ own_acts i old = λ i. ap (λ (js : List Act). filter (is_of i) js) journal_same in
    let calm_now : Calm new now_net = subst (λ (n : NetState). Calm new n) (sym over.net) (calm-still old new net over.state_is calm) in
    subst (λ (t : List ℕ). Moved [] (λ r. r) t old new e (engine_then e now_net now_queue)) none (record {
      settled = talks-still old new e now_net now_queue settled own calm_now (over.orderly (length e.apps));
      moves = record {
        told = told_none;
        batches = [];
        turns = [];
        given = over.given;
        rules = refl;
        read = tells-none old new own;
        read_stimuli = ap (λ (js : List Act). stimuli js) journal_same ∙ sym (append-nil (stimuli_in old));
        stands = λ said more r fronts s. record {
          calm = calm_now;
          moment = s.moment ∙ sym (ap (λ (t : State). t.moment) over.state_is);
          places = s.places
              ∙ ap₂ (λ (n : NetState) (t : State). shown_places old.given.declared (shown_by n) t) (same_net ∙ sym over.net) (sym over.state_is)
              ∙ ap (λ (g : Given Own). shown_places g.declared (shown_by now_net) (state new)) (sym over.given);
          queue = s.queue ∙ same_queue ∙ sym over.queue;
          events = s.events;
          apps = s.apps ∙ apps-same old new e.apps said own;
          released = s.released ∙ sym (ap (λ (js : List Act). released js) journal_same);
          lost = s.lost ∙ sym (ap (λ (js : List Act). losses js) journal_same);
          losses_is = s.losses_is;
          marks = subst (λ (t : State). AgreeMarks t.marks r.marks) (sym over.state_is) s.marks;
        };
        says = λ said more r fronts s. sym (append-nil (text_of (names (rules_of e)) r));
      };
    })
