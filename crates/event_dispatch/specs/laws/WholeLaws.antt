-- Laws of a whole run: its start, its rounds and its end are the run that is promised.
use Rattle.std.proofs.Common.{◌≡◌, ◌↔◌, ℕ, ◌^◌, ◌<◌, ◌≤◌, Bool, false, List, [], ◌∷◌, ◌++◌, length, map, Option, Result, Ok, Err, IsErrAnd, IsTrue, refl, sym, ap, ◌∙◌, subst, inr, arith, true≢false}
use Rattle.std.specs.Io.KnownBytes.{append_known}
use Rattle.lego_io.specs.Count.{Rose}
use Rattle.std.proofs.lemmas.List.{append-nil, length-map}
use Rattle.flow_table.specs.View.{TableView}
use Rattle.app_frames.specs.declared.frame.Event.{Event}
use Rattle.crash_policy.specs.Policies.{AppValue, app_value}
use Rattle.crash_policy.specs.declared.policy_file.AppRule.{AppRule}
use Rattle.lego_model.specs.Places.{Place}
use Rattle.outside.specs.declared.step.WorldStep.{WorldStep}
use Rattle.outside.specs.declared.step.WorldStep.TheVariants.{Opened, NotOpened}
use Rattle.outside.specs.declared.faults.OpenFault.{OpenFault}
use Rattle.outside.specs.declared.faults.OpenFault.TheVariants as opening
use Rattle.outside.specs.Seen.{Seen, Continues}
use Rattle.outside.specs.Calls.{open_steps, ToldOpen, Opens}
use Rattle.outside.specs.laws.SeenLaws.{Continues-trans}
use Rattle.outside.specs.laws.StateLaws.{Conforming-before}
use Rattle.run_laws.specs.laws.CutLaws.{leaves-nothing}
use Rattle.run_laws.specs.Engine.{Engine}
use Rattle.run_laws.specs.laws.FirstLaws.{settled-first}
use Rattle.run_laws.specs.First.{IsOpened, app_at_first, engine_at_first}
use Rattle.run_laws.specs.laws.StimuliLaws.{none-later, fewer-before, took-first}
use Rattle.run_laws.specs.LastReport.{last_text}
use Rattle.run_laws.specs.Endings.{Leaves, ShownStart, ShownFinish, ShownLeaves}
use Rattle.run_laws.specs.Cut.{CallsAmong}
use Rattle.run_laws.specs.laws.LeaveLaws.{asked-leaves}
use Rattle.run_laws.specs.laws.EndingLaws.{whole-of, leaves-then, ran-out, ran-full}
use Rattle.run_laws.specs.Promise.{PremiseSoFar, Premise}
use Rattle.event_dispatch.specs.declared.fault.Fault.{Fault}
use Rattle.event_dispatch.specs.declared.fault.Fault.TheVariants as faults
use Rattle.event_dispatch.specs.declared.engine_core.Core.{Core}
use Rattle.event_dispatch.specs.declared.run.Run.{Run}
use Rattle.event_dispatch.specs.declared.served.Served.{Served}
use Rattle.event_dispatch.specs.declared.served.Served.TheVariants as served
use Rattle.event_dispatch.specs.Why.{served_by}
use Rattle.run_laws.specs.Course.{PartByPart}
use Rattle.run_laws.specs.laws.CourseLaws.{follows-one, follows-then, runs-later}
use Rattle.event_dispatch.specs.Shows.{Stays, application_of, engine_of, stage_of}
use Rattle.event_dispatch.specs.Steady.{NoPoint, IsEnded}
use Rattle.event_dispatch.specs.ReportEnd.{LastShown}
use Rattle.event_dispatch.specs.Runs.{Going}
use Rattle.event_dispatch.specs.laws.RoundLaws.{writes_then, number_is}
use Rattle.event_dispatch.specs.Serves.{Writes, NoneToCome, GoesToEnd, Begins, EndsReport, Finishes, RunsOut, RunsFull, GoesAs, RunsAs, IsUnopened, IsCut, IsAlike}
use Rattle.event_dispatch.specs.Cut.{CutAs}
use Rattle.event_dispatch.specs.laws.AlikeLaws.{so_cut}

-- ---- The end of the report

pub ends_is : {Own : Type 0} (Tells : Type 0) (contents now_contents : Option (List ℕ)) (last new : Seen Own) (r mid : Run) (now_c : Core) → r.core.lines.items ≡ [] → LastShown Tells last new r mid → mid.core.events ≡ r.core.events → Writes mid.core.lines.items contents now_contents now_c
    → Stays mid.core now_c → EndsReport Tells contents now_contents last new r (record mid { core = now_c })
ends_is Tells contents now_contents last new r mid now_c none shown counted writes same = record {
  finish = record {
    shown = λ told keeps calm.
        let says = shown.shown told keeps calm in
        record {
          lost = says.lost;
          written = writes.written ∙ ap (append_known contents) (says.says.lines ∙ ap (λ (xs : List ℕ). xs ++ last_text says.lost last (engine_of r)) none);
          leaves = asked-leaves (length (engine_of r).apps) says.lost last new says.says.asked says.says.switches;
        };
  };
  events = same.events ∙ counted;
  text = mid.core.lines.items;
  written = writes.written;
}

-- events are left, where the queue is not empty
pub some_left : (queue : List Event) (left : ℕ) (empty : Bool) → (IsTrue empty ↔ (queue ≡ [])) → empty ≡ false → left ≡ length queue → 1 ≤ left
some_left [] left empty is none same = absurd (true≢false (sym (is.1 refl) ∙ none))
some_left (event ∷ queue) left empty is none same = omega (arith, same)

-- ---- From the start to the end

-- the parts of the run up to there
went_course : {Own : Type 0} (Tells : Type 0) (accepts : List TableView → Bool) (most : ℕ) (a b c : Option (List ℕ)) (old begun last : Seen Own) (r r1 r2 : Run) → Continues Tells old begun → Begins Tells a b old begun r r1 → GoesToEnd Tells accepts most b c begun last r1 r2
    → PartByPart Tells accepts (stage_of old a r) (stage_of last c r2)
went_course Tells accepts most a b c old begun last r r1 r2 first begins rounds =
    follows-then Tells accepts (stage_of old a r) (stage_of begun b r1) (stage_of last c r2)
    (follows-one Tells accepts (stage_of old a r) (stage_of begun b r1) (record { continues = first; part = inr (inr (record { text = begins.text; all = begins.all; written = begins.writes.written })) }))
    rounds.course

none_then : {Own : Type 0} {text : List ℕ} (Tells : Type 0) (accepts : List TableView → Bool) (most : ℕ) (old begun last new : Seen Own) (e : Engine) (b c : Option (List ℕ)) (r1 r2 : Run) → Continues Tells begun last → Continues Tells last new → ShownStart Tells text old begun e (engine_of r1)
    → GoesToEnd Tells accepts most b c begun last r1 r2 → NoneToCome Tells accepts most old new e
none_then Tells accepts most old begun last new e b c r1 r2 on later begins rounds = record {
  none = λ allows told keeps judges settled few.
      let keeps_last = Conforming-before told later keeps in
      let one = begins.moved told (Conforming-before told on keeps_last) settled in
      none-later Tells last new told later keeps (rounds.none_to_come.none allows told keeps_last judges one.settled (fewer-before Tells last new told later few));
}

pub went_out : {Own : Type 0} (Tells : Type 0) (accepts : List TableView → Bool) (most : ℕ) (a b c d : Option (List ℕ)) (old begun last new : Seen Own) (r r1 r2 now_r : Run) → Continues Tells old begun → Continues Tells begun last → Continues Tells last new → length (engine_of r2).apps ≡ length (engine_of r).apps → Begins Tells a b old begun r r1
    → GoesToEnd Tells accepts most b c begun last r1 r2 → Finishes Tells (Ok tt) c d last new r2 now_r → RunsOut Tells accepts most now_r.core.events a d old new (engine_of r)
went_out Tells accepts most a b c d old begun last new r r1 r2 now_r first on later number begins rounds ends = record {
  last = engine_of r2;
  out = record {
    last = last;
    text = begins.text ++ rounds.text;
    later = later;
    whole_is = whole-of Tells accepts most begins.text rounds.text old begun last (engine_of r) (engine_of r1) (engine_of r2) on begins.shown rounds.shown;
    none_left = ends.0;
    finish = subst (λ (held : Option (List ℕ)). ShownFinish Tells held d last new (engine_of r2)) (writes_then begins.text rounds.text a b c r1.core r2.core begins.writes rounds.writes).written ends.1.finish;
  };
  number = number;
  events_is = ends.1.events;
  none_to_come = none_then Tells accepts most old begun last new (engine_of r) b c r1 r2 on later begins.shown rounds;
  held = c;
  course = record {
    course = went_course Tells accepts most a b c old begun last r r1 r2 first begins rounds;
    later = later;
  };
  written = (ends.1.text, ends.1.written);
}

pub went_full : {Own : Type 0} (Tells : Type 0) (accepts : List TableView → Bool) (most left : ℕ) (a b c d : Option (List ℕ)) (old begun last new : Seen Own) (r r1 r2 now_r : Run) → Continues Tells old begun → Continues Tells begun last → Continues Tells last new → length (engine_of r2).apps ≡ length (engine_of r).apps → Begins Tells a b old begun r r1
    → GoesToEnd Tells accepts most b c begun last r1 r2 → Finishes Tells (Err (served.EventsLeft left)) c d last new r2 now_r → RunsFull Tells accepts most left a d old new (engine_of r)
went_full {Own} Tells accepts most left a b c d old begun last new r r1 r2 now_r first on later number begins rounds ends = record {
  full = record {
    last = last;
    now_engine = engine_of r2;
    text = begins.text ++ rounds.text;
    later = later;
    whole_is = whole-of Tells accepts most begins.text rounds.text old begun last (engine_of r) (engine_of r1) (engine_of r2) on begins.shown rounds.shown;
    left_is = ends.0;
    contents_is = ends.1 ∙ (writes_then begins.text rounds.text a b c r1.core r2.core begins.writes rounds.writes).written;
    leaves = record { shown = λ told keeps. subst (Leaves (length (engine_of r2).apps) [] last) (sym ends.2) (leaves-nothing (length (engine_of r2).apps) last) };
  };
  number = number;
  none_to_come = none_then Tells accepts most old begun last new (engine_of r) b c r1 r2 on later begins.shown rounds;
  course = record {
    course = subst (λ (o : Option (List ℕ)). PartByPart Tells accepts (stage_of old a r) (stage_of last o r2)) (sym ends.1) (went_course Tells accepts most a b c old begun last r r1 r2 first begins rounds);
    later = later;
  };
}

-- as many applications at the end as at first
pub number_then : (r r2 : Run) → Going r → Going r2 → length r2.core.store ≡ length r.core.store → length (engine_of r2).apps ≡ length (engine_of r).apps
number_then r r2 going going_then same = sym (number_is r2 going_then) ∙ same ∙ number_is r going

pub went_as : {Own : Type 0} (Tells : Type 0) (accepts : List TableView → Bool) (most : ℕ) (result : Result (Unit {0}) Served) (a b c d : Option (List ℕ)) (old begun last new : Seen Own) (r r1 r2 now_r : Run) → Continues Tells old begun → Continues Tells begun last → Continues Tells last new → length (engine_of r2).apps ≡ length (engine_of r).apps → Begins Tells a b old begun r r1
    → GoesToEnd Tells accepts most b c begun last r1 r2 → Finishes Tells result c d last new r2 now_r → GoesAs Tells accepts most result a d old new r now_r
went_as Tells accepts most (Ok x) a b c d old begun last new r r1 r2 now_r first on later number begins rounds ends = went_out Tells accepts most a b c d old begun last new r r1 r2 now_r first on later number begins rounds ends
went_as Tells accepts most (Err (served.EventsLeft left)) a b c d old begun last new r r1 r2 now_r first on later number begins rounds ends = went_full Tells accepts most left a b c d old begun last new r r1 r2 now_r first on later number begins rounds ends
went_as Tells accepts most (Err (served.Ended events)) a b c d old begun last new r r1 r2 now_r first on later number begins rounds ends = absurd ends
went_as Tells accepts most (Err served.WriteFault) a b c d old begun last new r r1 r2 now_r first on later number begins rounds ends = tt
went_as Tells accepts most (Err served.Shut) a b c d old begun last new r r1 r2 now_r first on later number begins rounds ends = tt
went_as Tells accepts most (Err served.NextFault) a b c d old begun last new r r1 r2 now_r first on later number begins rounds ends = tt
went_as Tells accepts most (Err (served.Txn fault)) a b c d old begun last new r r1 r2 now_r first on later number begins rounds ends = tt
went_as Tells accepts most (Err served.NoMemory) a b c d old begun last new r r1 r2 now_r first on later number begins rounds ends = tt

-- ---- The applications are ended at last

none_later_then : {Own : Type 0} (Tells : Type 0) (accepts : List TableView → Bool) (most : ℕ) (old mid new : Seen Own) (e : Engine) → Continues Tells mid new → NoneToCome Tells accepts most old mid e → NoneToCome Tells accepts most old new e
none_later_then Tells accepts most old mid new e later none = record {
  none = λ allows told keeps judges settled few. none-later Tells mid new told later keeps (none.none allows told (Conforming-before told later keeps) judges settled (fewer-before Tells mid new told later few));
}

out_then : {Own : Type 0} (Tells : Type 0) (accepts : List TableView → Bool) (most events : ℕ) (a b : Option (List ℕ)) (old mid new : Seen Own) (e : Engine) → Continues Tells mid new → ShownLeaves Tells (length e.apps) mid new → RunsOut Tells accepts most events a b old mid e → RunsOut Tells accepts most events a b old new e
out_then Tells accepts most events a b old mid new e later leaves runs = record {
  last = runs.last;
  out = record {
    last = runs.out.last;
    text = runs.out.text;
    later = Continues-trans Tells runs.out.last mid new runs.out.later later;
    whole_is = runs.out.whole_is;
    none_left = runs.out.none_left;
    finish = record {
      shown = λ told keeps calm.
          let done = runs.out.finish.shown told (Conforming-before told later keeps) calm in
          record { lost = done.lost; written = done.written; leaves = leaves-then (length runs.last.apps) done.lost runs.out.last mid new done.leaves (subst (λ (n : ℕ). Leaves n [] mid new) (sym runs.number) (leaves.shown told keeps)) };
    };
  };
  number = runs.number;
  events_is = runs.events_is;
  none_to_come = none_later_then Tells accepts most old mid new e later runs.none_to_come;
  held = runs.held;
  course = runs-later Tells accepts (record { seen = old; engine = e; written = a }) (record { seen = runs.out.last; engine = runs.last; written = runs.held }) mid new later runs.course;
  written = runs.written;
}

full_then : {Own : Type 0} (Tells : Type 0) (accepts : List TableView → Bool) (most left : ℕ) (a b : Option (List ℕ)) (old mid new : Seen Own) (e : Engine) → Continues Tells mid new → ShownLeaves Tells (length e.apps) mid new → RunsFull Tells accepts most left a b old mid e
    → RunsFull Tells accepts most left a b old new e
full_then Tells accepts most left a b old mid new e later leaves runs = record {
  full = record {
    last = runs.full.last;
    now_engine = runs.full.now_engine;
    text = runs.full.text;
    later = Continues-trans Tells runs.full.last mid new runs.full.later later;
    whole_is = runs.full.whole_is;
    left_is = runs.full.left_is;
    contents_is = runs.full.contents_is;
    leaves = record {
      shown = λ told keeps.
          leaves-then (length runs.full.now_engine.apps) [] runs.full.last mid new (runs.full.leaves.shown told (Conforming-before told later keeps)) (subst (λ (n : ℕ). Leaves n [] mid new) (sym runs.number) (leaves.shown told keeps));
    };
  };
  number = runs.number;
  none_to_come = none_later_then Tells accepts most old mid new e later runs.none_to_come;
  course = runs-later Tells accepts (record { seen = old; engine = e; written = a }) (record { seen = runs.full.last; engine = runs.full.now_engine; written = b }) mid new later runs.course;
}

pub goes_then : {Own : Type 0} (Tells : Type 0) (accepts : List TableView → Bool) (most : ℕ) (result : Result (Unit {0}) Served) (a b : Option (List ℕ)) (old mid new : Seen Own) (r now_r : Run) → Continues Tells mid new → ShownLeaves Tells (length (engine_of r).apps) mid new → GoesAs Tells accepts most result a b old mid r now_r
    → GoesAs Tells accepts most result a b old new r now_r
goes_then Tells accepts most (Ok x) a b old mid new r now_r later leaves goes = out_then Tells accepts most now_r.core.events a b old mid new (engine_of r) later leaves goes
goes_then Tells accepts most (Err (served.EventsLeft left)) a b old mid new r now_r later leaves goes = full_then Tells accepts most left a b old mid new (engine_of r) later leaves goes
goes_then Tells accepts most (Err (served.Ended events)) a b old mid new r now_r later leaves goes = absurd goes
goes_then Tells accepts most (Err served.WriteFault) a b old mid new r now_r later leaves goes = tt
goes_then Tells accepts most (Err served.Shut) a b old mid new r now_r later leaves goes = tt
goes_then Tells accepts most (Err served.NextFault) a b old mid new r now_r later leaves goes = tt
goes_then Tells accepts most (Err (served.Txn fault)) a b old mid new r now_r later leaves goes = tt
goes_then Tells accepts most (Err served.NoMemory) a b old mid new r now_r later leaves goes = tt

-- all applications of the run were ended
ended_apps : (n : ℕ) (r : Run) → n ≡ length r.apps.items → n ≡ length (engine_of r).apps
ended_apps n r is = is ∙ sym (length-map r.apps.items (application_of r.core.store))

pub ended_leaves : {Own : Type 0} {n : ℕ} (Tells : Type 0) (mid new : Seen Own) (r : Run) → n ≡ length r.apps.items → ShownLeaves Tells n mid new → ShownLeaves Tells (length (engine_of r).apps) mid new
ended_leaves {n = n} Tells mid new r is leaves = subst (λ (k : ℕ). ShownLeaves Tells k mid new) (ended_apps n r is) leaves

pub ended_point : {Own : Type 0} {n : ℕ} (Tells : Type 0) (mid new : Seen Own) (r : Run) → n ≡ length r.apps.items → IsEnded Tells n mid new → NoPoint Tells (length (engine_of r).apps) mid new
ended_point {n = n} Tells mid new r is ended = subst (λ (k : ℕ). NoPoint Tells k mid new) (ended_apps n r is) ended.no_point

pub ended_number : {Own : Type 0} {n : ℕ} (Tells : Type 0) (mid new : Seen Own) (r : Run) → Going r → n ≡ length r.apps.items → IsEnded Tells n mid new → IsEnded Tells (length r.core.store) mid new
ended_number Tells mid new r going is ended = subst (λ (k : ℕ). IsEnded Tells k mid new) (is ∙ sym going.number) ended

-- ---- From an engine before anything happened

-- as many places and applications as rules
first_number : (rules : List AppRule) (r : Run) → engine_of r ≡ engine_at_first (map app_value rules) → length r.apps.items ≡ length rules
first_number rules r first =
    sym (length-map r.apps.items (application_of r.core.store)) ∙ ap (λ (e : Engine). length e.apps) first ∙ length-map (map app_value rules) app_at_first ∙ length-map rules app_value

pub first_places : (rules : List AppRule) (r : Run) → Going r → engine_of r ≡ engine_at_first (map app_value rules) → length r.core.store ≡ length rules
first_places rules r going first = going.number ∙ first_number rules r first

pub first_few : (rules : List AppRule) (r : Run) → engine_of r ≡ engine_at_first (map app_value rules) → length rules < 2 ^ 32 → length r.apps.items < 2 ^ 32
first_few rules r first few = subst (λ (n : ℕ). n < 2 ^ 32) (sym (first_number rules r first)) few

pub runs_done : {Own : Type 0} (rules : List AppValue) (Tells : Type 0) (accepts : List TableView → Bool) (most : ℕ) (a b : Option (List ℕ)) (old new : Seen Own) (r now_r : Run) → engine_of r ≡ engine_at_first rules → GoesAs Tells accepts most (Ok tt) a b old new r now_r → RunsAs rules Tells accepts most (Ok now_r.core.events) a b old new
runs_done rules Tells accepts most a b old new r now_r first goes = subst (RunsOut Tells accepts most now_r.core.events a b old new) first goes

runs_failed : {Own : Type 0} (rules : List AppValue) (Tells : Type 0) (accepts : List TableView → Bool) (most : ℕ) (end : Served) (a b : Option (List ℕ)) (old new : Seen Own) (r now_r : Run) → engine_of r ≡ engine_at_first rules → GoesAs Tells accepts most (Err end) a b old new r now_r → RunsAs rules Tells accepts most (Err end) a b old new
runs_failed rules Tells accepts most (served.EventsLeft left) a b old new r now_r first goes = subst (RunsFull Tells accepts most left a b old new) first goes
runs_failed rules Tells accepts most (served.Ended events) a b old new r now_r first goes = absurd goes
runs_failed rules Tells accepts most served.WriteFault a b old new r now_r first goes = tt
runs_failed rules Tells accepts most served.Shut a b old new r now_r first goes = tt
runs_failed rules Tells accepts most served.NextFault a b old new r now_r first goes = tt
runs_failed rules Tells accepts most (served.Txn fault) a b old new r now_r first goes = tt
runs_failed rules Tells accepts most served.NoMemory a b old new r now_r first goes = tt

-- what a `?` answers
pub runs_by : {Own : Type 0} (rules : List AppValue) (Tells : Type 0) (accepts : List TableView → Bool) (most : ℕ) (a b : Option (List ℕ)) (old new : Seen Own) (r now_r : Run) (end : Served) (result : Result ℕ Served) → IsErrAnd result (λ s. s ≡ end) → engine_of r ≡ engine_at_first rules
    → GoesAs Tells accepts most (Err end) a b old new r now_r → RunsAs rules Tells accepts most result a b old new
runs_by rules Tells accepts most a b old new r now_r end (Ok x) is first goes = absurd is
runs_by rules Tells accepts most a b old new r now_r end (Err s) is first goes = subst (λ (e : Served). RunsAs rules Tells accepts most (Err e) a b old new) (sym is) (runs_failed rules Tells accepts most end a b old new r now_r first goes)

-- memory ran out before anything was done
pub runs_short : {Own : Type 0} (rules : List AppValue) (Tells : Type 0) (accepts : List TableView → Bool) (most : ℕ) (a b : Option (List ℕ)) (old new : Seen Own) (result : Result ℕ Served) → IsErrAnd result (λ s. s ≡ served.NoMemory) → RunsAs rules Tells accepts most result a b old new
runs_short rules Tells accepts most a b old new (Ok x) is = absurd is
runs_short rules Tells accepts most a b old new (Err s) is = subst (λ (e : Served). RunsAs rules Tells accepts most (Err e) a b old new) (sym is) tt

-- ---- Of a world on which no call was made

pub opens_continue : {Own T Tells : Type 0} {old new : Seen Own} {result : Result T OpenFault} → Opens Tells old new result → Continues Tells old new
opens_continue {old = old} {result = result} opens = record { given = opens.given; none_fell = opens.none_fell; told = λ told. (open_steps result, (opens.told told).history) }

pub opened_by : {Own T : Type 0} {old new : Seen Own} {x : T} → ToldOpen old new (Ok x) → new.history ≡ old.history ++ Opened ∷ []
unfolding open_steps
opened_by told = told.history

pub opened_is : {Own : Type 0} (old mid : Seen Own) → old.history ≡ [] → mid.history ≡ old.history ++ Opened ∷ [] → IsOpened mid
opened_is old mid untouched is = is ∙ ap (λ (h : List WorldStep). h ++ Opened ∷ []) untouched

abbrev failed_open : OpenFault → Result (Unit {0}) OpenFault
failed_open fault = Err fault

-- what a failed call leaves
pub shut_by : {Own : Type 0} (Tells : Type 0) (old new : Seen Own) (fault : OpenFault) → fault ≡ opening.Shut → (Tells → ToldOpen old new (failed_open fault)) → IsUnopened Tells old new served.Shut
unfolding open_steps
shut_by Tells old new opening.Shut is told = λ tells. (told tells).history
shut_by Tells old new opening.Short is told = absurd cc

pub why_shut : {Own Tells : Type 0} {old new : Seen Own} (fault : OpenFault) → fault ≡ opening.Shut → Opens Tells old new (failed_open fault) → Rose old.counts.shuts new.counts.shuts
why_shut fault is opens = opens.shut (ap failed_open is)

pub short_by : {Own : Type 0} (Tells : Type 0) (old new : Seen Own) (fault : OpenFault) → fault ≡ opening.Short → (Tells → ToldOpen old new (failed_open fault)) → IsUnopened Tells old new served.NoMemory
unfolding open_steps
short_by Tells old new opening.Shut is told = absurd cc
short_by Tells old new opening.Short is told = λ tells. (told tells).history ∙ append-nil old.history

-- it could not be opened
pub cut_unopened : {Own : Type 0} (rules : List AppValue) (Tells : Type 0) (contents : Option (List ℕ)) (old new : Seen Own) (end : Served) → IsUnopened Tells old new end → (allows : List Place → Bool) → Tells → old.history ≡ [] → IsCut rules allows new contents contents end
cut_unopened rules Tells contents old new served.Shut left allows told none = record { history = left told ∙ ap (λ (h : List WorldStep). h ++ NotOpened ∷ []) none; still = refl }
cut_unopened rules Tells contents old new served.NoMemory left allows told none = inr (record { history = left told ∙ none; still = refl })
cut_unopened rules Tells contents old new (served.EventsLeft n) left allows told none = absurd left
cut_unopened rules Tells contents old new (served.Ended events) left allows told none = absurd left
cut_unopened rules Tells contents old new served.WriteFault left allows told none = absurd left
cut_unopened rules Tells contents old new served.NextFault left allows told none = absurd left
cut_unopened rules Tells contents old new (served.Txn fault) left allows told none = absurd left

pub alike_unopened : {Own : Type 0} (rules : List AppValue) (Tells : Type 0) (accepts : List TableView → Bool) (most : ℕ) (contents : Option (List ℕ)) (old new : Seen Own) (end : Served) → IsUnopened Tells old new end → (allows : List Place → Bool) → Premise Tells accepts allows old new → IsAlike rules allows most new contents contents end
alike_unopened rules Tells accepts most contents old new served.Shut left allows p = cut_unopened rules Tells contents old new served.Shut left allows p.told p.untouched
alike_unopened rules Tells accepts most contents old new served.NoMemory left allows p = cut_unopened rules Tells contents old new served.NoMemory left allows p.told p.untouched
alike_unopened rules Tells accepts most contents old new (served.EventsLeft n) left allows p = absurd left
alike_unopened rules Tells accepts most contents old new (served.Ended events) left allows p = absurd left
alike_unopened rules Tells accepts most contents old new served.WriteFault left allows p = absurd left
alike_unopened rules Tells accepts most contents old new served.NextFault left allows p = absurd left
alike_unopened rules Tells accepts most contents old new (served.Txn fault) left allows p = absurd left

pub alike_done : {Own : Type 0} (rules : List AppValue) (Tells : Type 0) (accepts : List TableView → Bool) (most events : ℕ) (a b : Option (List ℕ)) (old mid new : Seen Own) → (Tells → mid.history ≡ old.history ++ Opened ∷ []) → RunsAs rules Tells accepts most (Ok events) a b mid new
    → (allows : List Place → Bool) → Premise Tells accepts allows old new → IsAlike rules allows most new a b (served.Ended events)
alike_done rules Tells accepts most events a b old mid new opened runs allows p =
    let is = opened_is old mid p.untouched (opened p.told) in
    let ran = ran-out rules Tells accepts allows most a b mid new runs.last p.told p.keeps p.judges is runs.out in
    subst (λ (n : ℕ). IsAlike rules allows most new a b (served.Ended n)) (sym runs.events_is) (record {
      alike = ran.0;
      took_first = took-first most new p.keeps ran.1 (λ few. runs.none_to_come.none allows p.told p.keeps p.judges (settled-first rules mid is) few);
    })

-- no other application was called than those of the policy
pub rules_own : {Own : Type 0} {Tells : Type 0} {old new : Seen Own} (rules : List AppRule) → (Tells → CallsAmong (length rules) old new) → Tells → CallsAmong (length (map app_value rules)) old new
rules_own {old = old} {new = new} rules own told = subst (λ (n : ℕ). CallsAmong n old new) (sym (length-map rules app_value)) (own told)

-- a fault ended it
pub cut_failed : {Own : Type 0} (rules : List AppValue) (Tells : Type 0) (accepts : List TableView → Bool) (most : ℕ) (end : Served) (a b : Option (List ℕ)) (old mid new : Seen Own) → (Tells → mid.history ≡ old.history ++ Opened ∷ []) → Continues Tells mid new → (Tells → CallsAmong (length rules) mid new) → RunsAs rules Tells accepts most (Err end) a b mid new
    → CutAs Tells accepts most end a b mid new (engine_at_first rules) → (allows : List Place → Bool) → PremiseSoFar Tells accepts allows old → IsCut rules allows new a b end
cut_failed rules Tells accepts most (served.EventsLeft left) a b old mid new opened on own runs cut allows p = tt
cut_failed rules Tells accepts most (served.Ended events) a b old mid new opened on own runs cut allows p = absurd runs
cut_failed rules Tells accepts most served.WriteFault a b old mid new opened on own runs cut allows p = so_cut rules Tells accepts allows most served.WriteFault a b old mid new p (opened_is old mid p.untouched (opened p.told)) on (own p.told) cut
cut_failed rules Tells accepts most served.Shut a b old mid new opened on own runs cut allows p = so_cut rules Tells accepts allows most served.Shut a b old mid new p (opened_is old mid p.untouched (opened p.told)) on (own p.told) cut
cut_failed rules Tells accepts most served.NextFault a b old mid new opened on own runs cut allows p = so_cut rules Tells accepts allows most served.NextFault a b old mid new p (opened_is old mid p.untouched (opened p.told)) on (own p.told) cut
cut_failed rules Tells accepts most (served.Txn fault) a b old mid new opened on own runs cut allows p = so_cut rules Tells accepts allows most (served.Txn fault) a b old mid new p (opened_is old mid p.untouched (opened p.told)) on (own p.told) cut
cut_failed rules Tells accepts most served.NoMemory a b old mid new opened on own runs cut allows p = so_cut rules Tells accepts allows most served.NoMemory a b old mid new p (opened_is old mid p.untouched (opened p.told)) on (own p.told) cut

-- one that keeps its word to the end does so up to every point
premise_so_far : {Own : Type 0} (Tells : Type 0) (accepts : List TableView → Bool) (allows : List Place → Bool) (old new : Seen Own) → Premise Tells accepts allows old new → PremiseSoFar Tells accepts allows old
premise_so_far Tells accepts allows old new p = record { told = p.told; judges = p.judges; untouched = p.untouched }

pub alike_failed : {Own : Type 0} (rules : List AppValue) (Tells : Type 0) (accepts : List TableView → Bool) (most : ℕ) (end : Served) (a b : Option (List ℕ)) (old mid new : Seen Own) → (Tells → mid.history ≡ old.history ++ Opened ∷ []) → Continues Tells mid new → (Tells → CallsAmong (length rules) mid new) → RunsAs rules Tells accepts most (Err end) a b mid new
    → CutAs Tells accepts most end a b mid new (engine_at_first rules) → (allows : List Place → Bool) → Premise Tells accepts allows old new → IsAlike rules allows most new a b end
alike_failed rules Tells accepts most (served.EventsLeft left) a b old mid new opened on own runs cut allows p =
    let is = opened_is old mid p.untouched (opened p.told) in
    let ran = ran-full rules Tells accepts allows most left a b mid new p.told p.keeps p.judges is runs.full in
    record {
      alike = ran.0;
      took_first = took-first most new p.keeps ran.1 (λ few. runs.none_to_come.none allows p.told p.keeps p.judges (settled-first rules mid is) few);
    }
alike_failed rules Tells accepts most (served.Ended events) a b old mid new opened on own runs cut allows p = absurd runs
alike_failed rules Tells accepts most served.WriteFault a b old mid new opened on own runs cut allows p = cut_failed rules Tells accepts most served.WriteFault a b old mid new opened on own runs cut allows (premise_so_far Tells accepts allows old new p)
alike_failed rules Tells accepts most served.Shut a b old mid new opened on own runs cut allows p = cut_failed rules Tells accepts most served.Shut a b old mid new opened on own runs cut allows (premise_so_far Tells accepts allows old new p)
alike_failed rules Tells accepts most served.NextFault a b old mid new opened on own runs cut allows p = cut_failed rules Tells accepts most served.NextFault a b old mid new opened on own runs cut allows (premise_so_far Tells accepts allows old new p)
alike_failed rules Tells accepts most (served.Txn fault) a b old mid new opened on own runs cut allows p = cut_failed rules Tells accepts most (served.Txn fault) a b old mid new opened on own runs cut allows (premise_so_far Tells accepts allows old new p)
alike_failed rules Tells accepts most served.NoMemory a b old mid new opened on own runs cut allows p = cut_failed rules Tells accepts most served.NoMemory a b old mid new opened on own runs cut allows (premise_so_far Tells accepts allows old new p)

-- what ends a run before its end promises nothing of it
fault_finishes : {Own : Type 0} (Tells : Type 0) (fault : Fault) (a b : Option (List ℕ)) (old new : Seen Own) (r now_r : Run) → Finishes Tells (Err (served_by fault)) a b old new r now_r
fault_finishes Tells faults.Write a b old new r now_r = tt
fault_finishes Tells faults.Next a b old new r now_r = tt
fault_finishes Tells (faults.Txn fault) a b old new r now_r = tt
fault_finishes Tells faults.NoMemory a b old new r now_r = tt

fault_goes : {Own : Type 0} (Tells : Type 0) (accepts : List TableView → Bool) (most : ℕ) (fault : Fault) (a b : Option (List ℕ)) (old new : Seen Own) (r now_r : Run) → GoesAs Tells accepts most (Err (served_by fault)) a b old new r now_r
fault_goes Tells accepts most faults.Write a b old new r now_r = tt
fault_goes Tells accepts most faults.Next a b old new r now_r = tt
fault_goes Tells accepts most (faults.Txn fault) a b old new r now_r = tt
fault_goes Tells accepts most faults.NoMemory a b old new r now_r = tt

-- what a `?` answers is the end of the run by that fault
pub finishes_by : {Own : Type 0} (Tells : Type 0) (a b : Option (List ℕ)) (old new : Seen Own) (r now_r : Run) (fault : Fault) (result : Result (Unit {0}) Served) → IsErrAnd result (λ end. end ≡ served_by fault) → Finishes Tells result a b old new r now_r
finishes_by Tells a b old new r now_r fault (Ok x) is = absurd is
finishes_by Tells a b old new r now_r fault (Err end) is = subst (λ (e : Served). Finishes Tells (Err e) a b old new r now_r) (sym is) (fault_finishes Tells fault a b old new r now_r)

pub goes_by : {Own : Type 0} (Tells : Type 0) (accepts : List TableView → Bool) (most : ℕ) (a b : Option (List ℕ)) (old new : Seen Own) (r now_r : Run) (fault : Fault) (result : Result (Unit {0}) Served) → IsErrAnd result (λ end. end ≡ served_by fault)
    → GoesAs Tells accepts most result a b old new r now_r
goes_by Tells accepts most a b old new r now_r fault (Ok x) is = absurd is
goes_by Tells accepts most a b old new r now_r fault (Err end) is = subst (λ (e : Served). GoesAs Tells accepts most (Err e) a b old new r now_r) (sym is) (fault_goes Tells accepts most fault a b old new r now_r)
