-- The parts of a run of the engine are those of the course of a run.
use Rattle.std.specs.Prelude.{map, is_some}
use Rattle.std.specs.List.{AllByRecursion}
use Rattle.std.proofs.Common.{◌≡◌, ℕ, ◌+◌, Bool, true, List, [], ◌∷◌, Option, refl, ap, ◌∙◌, inl, inr}
use Rattle.std.specs.Io.KnownBytes.{append_known}
use Rattle.flow_table.specs.View.{TableView}
use Rattle.crash_policy.specs.Policies.{AppValue}
use Rattle.app_frames.specs.declared.frame.Event.{Event}
use Rattle.outside.specs.Seen.{Seen}
use Rattle.net_txn.specs.Net.{NetState}
use Rattle.net_txn.specs.Views.{rows_at}
use Rattle.batch_laws.specs.Knowledge.{Knowledge, knowledge_of, is_known}
use Rattle.run_course.specs.Messages.{GotNone}
use Rattle.run_course.specs.Parts as course
use Rattle.run_course.specs.Parts.{Standing, TakesCourse}
use Rattle.run_course.specs.Applications.{Application as course_app, at_first}
use Rattle.run_laws.specs.Facts.{between}
use Rattle.run_laws.specs.First.{app_at_first}
use Rattle.run_laws.specs.Course.{KeptComesFirst, Stage, TakesBatch, GivesOldest, Starts, IsPart, Course, WritesPart, RunsOn, first_stage}
use Rattle.run_laws.specs.laws.MadeEventLaws.{kept_events, kept_tables}
use Rattle.run_laws.specs.laws.HoldingLaws.{holding_of, holds_still}
use Rattle.run_laws.specs.laws.ItemHoldingLaws.{items_move}
use Rattle.run_laws.specs.laws.KeptJoinedLaws.{taken_joined, KeepsOfJoined, part_keeps, goes_keeps}
use Rattle.run_laws.specs.laws.StartHoldingLaws.{application_of, starts_all}
use Rattle.run_laws.specs.laws.TurnHoldingLaws.{offers_so}

-- how the run stands, by what the engine keeps
abbrev pub standing_of : {Own : Type 0} → Stage Own → Standing Own
standing_of s = record { holding = holding_of s.seen s.engine.net s.engine.queue; apps = map application_of s.engine.apps; events = s.engine.events; written = s.written }

-- ---- A batch

kept_first : {Own Tells : Type 0} (old new : Seen Own) (net now_net : NetState) (queue now_queue : List Event) → Tells → AllByRecursion (λ m. is_some (rows_at m.0 net.views) ≡ true) net.kept → KeptComesFirst Tells old new net now_net queue now_queue → course.KeptComeFirst (holding_of old net queue) (holding_of new now_net now_queue)
kept_first old new net now_net queue now_queue told joined first =
    let k = knowledge_of net queue in
    let known = taken_joined (λ e. is_known e k) net.kept first.taken now_net.kept first.kept_is joined in
    record {
      taken = first.taken;
      kept = first.kept_is;
      all = first.all;
      history = first.told told;
      tables = λ e. ap (λ (x : Knowledge). rows_at e x.views) first.knowledge ∙ kept_tables first.taken k known e;
      queued = ap (λ (x : Knowledge). x.queue) first.knowledge ∙ kept_events first.taken k known;
    }

batch_part : {Own Tells : Type 0} (from to : Stage Own) → Tells → KeepsOfJoined (standing_of from) → TakesBatch Tells from to → course.TakesBatch (standing_of from) (standing_of to)
batch_part from to told joined batch =
    let taken = batch.taken in
    record {
      mid = holding_of taken.mid.seen taken.mid.net taken.mid.queue;
      first = kept_first from.seen taken.mid.seen from.engine.net taken.mid.net from.engine.queue taken.mid.queue told joined taken.first;
      items = items_move taken.items taken.mid (between to.seen to.engine) told taken.told;
      apps = ap (map application_of) batch.apps;
      events = batch.events;
      noted = batch.noted;
      written = batch.written;
    }

-- ---- An event

event_part : {Own Tells : Type 0} {accepts : List TableView → Bool} (from to : Stage Own) → Tells → GivesOldest Tells accepts from to → course.GivesOldest (standing_of from) (standing_of to)
event_part {Tells = Tells} {accepts = accepts} from to told gives =
    let d = gives.dispatches in
    let e = record from.engine { queue = gives.later } in
    record {
      event = gives.event;
      later = gives.later;
      waits = gives.waits;
      offers = offers_so Tells accepts gives.event (from.engine.events + 1) 0 from.engine.apps d.turn_text (between from.seen e) (between to.seen to.engine) to.engine.apps d.stopped told d.offers;
      events = d.events_is;
      turn_text = d.turn_text;
      written = gives.written ∙ ap (append_known from.written) d.text_is;
    }

-- ---- The start

start_part : {Own Tells : Type 0} (from to : Stage Own) → Tells → Starts Tells from to → course.Starts (standing_of from) (standing_of to)
start_part {Tells = Tells} from to told starts =
    let all = starts.all in
    record {
      all = starts_all Tells 0 from.engine.apps starts.text from.seen to.seen from.engine.net from.engine.queue from.engine.events to.engine.apps told all.all;
      still = holds_still from.seen to.seen from.engine.net to.engine.net from.engine.queue to.engine.queue (ap (λ (n : NetState). n.views) all.net) (ap (λ (n : NetState). n.kept) all.net) all.queue;
      events = all.events;
      text = starts.text;
      written = starts.written;
    }

-- ---- The course

apps_first : (rules : List AppValue) → map application_of (map app_at_first rules) ≡ map at_first rules
apps_first [] = refl
apps_first (rule ∷ rules) = ap (λ (apps : List course_app). at_first rule ∷ apps) (apps_first rules)

part_is : {Own Tells : Type 0} (accepts : List TableView → Bool) (from to : Stage Own) → Tells → KeepsOfJoined (standing_of from) → IsPart Tells accepts from to → course.Part (standing_of from) (standing_of to)
part_is accepts from to told joined (inl batch) = inl (batch_part from to told joined batch)
part_is accepts from to told joined (inr (inl event)) = inr (inl (event_part from to told event))
part_is accepts from to told joined (inr (inr starts)) = inr (inr (start_part from to told starts))

goes_so : {Own Tells : Type 0} (accepts : List TableView → Bool) (stages : List (Stage Own)) (from to : Stage Own) → Tells → KeepsOfJoined (standing_of from) → Course Tells accepts stages from to → course.Goes (map standing_of stages) (standing_of from) (standing_of to)
goes_so accepts [] from to told joined parts = ap standing_of parts
goes_so accepts (mid ∷ more) from to told joined parts =
    let part = part_is accepts from mid told joined parts.0.part in
    (part, goes_so accepts more mid to told (part_keeps (standing_of from) (standing_of mid) part joined) parts.1)

module _ {Own Tells : Type 0} (accepts : List TableView → Bool) (rules : List AppValue) (opened new : Seen Own) (contents : Option (List ℕ)) (last : Stage Own) (told : Tells) (runs : RunsOn Tells accepts (first_stage rules opened contents) last new) where
  goes_on : course.Goes (map standing_of runs.course.stages) (standing_of (first_stage rules opened contents)) (standing_of last)
  goes_on = goes_so accepts runs.course.stages (first_stage rules opened contents) last told tt runs.course.parts

  last_joined : KeepsOfJoined (standing_of last)
  last_joined = goes_keeps (map standing_of runs.course.stages) (standing_of (first_stage rules opened contents)) (standing_of last) goes_on tt

  pub writes_part : (written : Option (List ℕ)) → WritesPart Tells accepts last written → course.WritesPart (standing_of last) written
  writes_part written writes = record {
    text = writes.text;
    whole = elim writes.whole [
      | inl more ↦ inl (standing_of more.0, part_is accepts last more.0 told last_joined more.1, more.2)
      | inr none ↦ inr none
    ];
    part = writes.part;
  }

  -- the run takes its course, up to where it stands so
  pub takes_course : (old : Seen Own) (Stands : Standing Own → Type 0) → GotNone old.history opened.history → Stands (standing_of last) → TakesCourse rules old new contents Stands
  takes_course old Stands opening stands = record {
    opened = opened;
    opening = opening;
    first = standing_of (first_stage rules opened contents);
    begins = record { seen_is = refl; none_joined = λ d. refl; none_kept = refl; none_waits = refl; apps_are = apps_first rules; none_given = refl; written_is = refl };
    stops = map standing_of runs.course.stages;
    last = standing_of last;
    parts = goes_on;
    later = runs.later.told told;
    stands = stands;
  }
