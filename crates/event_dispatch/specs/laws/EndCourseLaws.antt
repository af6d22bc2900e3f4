-- What follows about the course of a run that a fault ended, or that came to its end: up to there it went from part to part.
use Rattle.std.proofs.Common.{◌≡◌, ℕ, Bool, List, [], ◌∷◌, ◌++◌, Option, Ok, Err, refl, sym, subst, inl, inr}
use Rattle.std.specs.Io.KnownBytes.{append_known}
use Rattle.flow_table.specs.View.{TableView}
use Rattle.crash_policy.specs.Policies.{AppValue}
use Rattle.outside.specs.declared.step.WorldStep.{WorldStep}
use Rattle.outside.specs.declared.step.WorldStep.TheVariants.{Opened, NotOpened}
use Rattle.outside.specs.Seen.{Seen, Continues}
use Rattle.outside.specs.laws.SeenLaws.{Continues-refl}
use Rattle.run_laws.specs.Engine.{Engine}
use Rattle.run_laws.specs.First.{engine_at_first}
use Rattle.run_laws.specs.Course.{Stage, PartByPart, RunsOn, WritesPart, first_stage}
use Rattle.lego_model.specs.KeptMessages.{got_in}
use Rattle.run_course.specs.Messages.{GotNone}
use Rattle.run_laws.specs.laws.HoldingLaws.{none_got_as, none_got_by}
use Rattle.run_laws.specs.laws.CourseLaws.{follows-one, runs-on, runs-later, runs-still}
use Rattle.event_dispatch.specs.declared.fault.Fault.{Fault}
use Rattle.event_dispatch.specs.declared.fault.Fault.TheVariants as faults
use Rattle.event_dispatch.specs.declared.run.Run.{Run}
use Rattle.event_dispatch.specs.declared.served.Served.{Served}
use Rattle.event_dispatch.specs.declared.served.Served.TheVariants as served
use Rattle.event_dispatch.specs.Why.{served_by}
use Rattle.event_dispatch.specs.Shows.{engine_of, stage_of}
use Rattle.event_dispatch.specs.Serves.{RunsAs, IsUnopened, EndsAt, GoesItsCourse}
use Rattle.event_dispatch.specs.Cut.{IsStill, CutOne, CutSome, CutNoted, CutRound, CutRounds, CutStart, CutEnd, CutGoes, CutRun, CutAs}

-- what was written behind the last whole part
abbrev EndsBy : {Own : Type 0} → Type 0 → (List TableView → Bool) → Fault → Option (List ℕ) → Stage Own → Type 0
EndsBy Tells accepts faults.Write written last = WritesPart Tells accepts last written
EndsBy Tells accepts other written last = written ≡ last.written

-- the last whole part, and what was behind it
record UpTo {Own : Type 0} (Tells : Type 0) (accepts : List TableView → Bool) (fault : Fault) (from : Stage Own) (new : Seen Own) (written : Option (List ℕ)) : Type 0 where
  last : Stage Own
  runs : RunsOn Tells accepts from last new
  ends : EndsBy Tells accepts fault written last

module _ {Own : Type 0} (Tells : Type 0) (accepts : List TableView → Bool) where
  -- a course up to a stage, and then up to another
  up-then : (fault : Fault) (a b : Stage Own) (new : Seen Own) (written : Option (List ℕ)) → PartByPart Tells accepts a b → UpTo Tells accepts fault b new written → UpTo Tells accepts fault a new written
  up-then fault a b new written before up = record { last = up.last; runs = runs-on Tells accepts a b up.last new before up.runs; ends = up.ends }

  up-still : (fault : Fault) (from : Stage Own) (new : Seen Own) (written : Option (List ℕ)) → Continues Tells from.seen new → EndsBy Tells accepts fault written from → UpTo Tells accepts fault from new written
  up-still fault from new written later ends = record { last = from; runs = runs-still Tells accepts from new later; ends = ends }

  -- ---- Events

  one-up : (fault : Fault) (held now_contents : Option (List ℕ)) (mid new : Seen Own) (r : Run) → Continues Tells mid new → CutOne Tells accepts fault held now_contents mid new (engine_of r) → UpTo Tells accepts fault (stage_of mid held r) new now_contents
  one-up faults.Write held now_contents mid new r later cut = up-still faults.Write (stage_of mid held r) new now_contents later
      (record { text = cut.more; whole = inl (record { seen = new; engine = cut.now_engine; written = append_known held cut.more }, cut.behind, refl); part = cut.part })
  one-up faults.Next held now_contents mid new r later cut = up-still faults.Next (stage_of mid held r) new now_contents later cut.0
  one-up (faults.Txn fault) held now_contents mid new r later cut = up-still (faults.Txn fault) (stage_of mid held r) new now_contents later cut.0
  one-up faults.NoMemory held now_contents mid new r later cut = up-still faults.NoMemory (stage_of mid held r) new now_contents later cut.0

  some-up : (fault : Fault) (contents now_contents : Option (List ℕ)) (old new : Seen Own) (r : Run) → CutSome Tells accepts fault contents now_contents old new r → UpTo Tells accepts fault (stage_of old contents r) new now_contents
  some-up fault contents now_contents old new r cut =
      up-then fault (stage_of old contents r) (stage_of cut.mid cut.held cut.mid_run) new now_contents cut.some.course
      (one-up fault cut.held now_contents cut.mid new cut.mid_run cut.later cut.one)

  -- ---- Rounds

  batch-up : (fault : Fault) (contents now_contents : Option (List ℕ)) (old new : Seen Own) (r : Run) → Continues Tells old new → IsStill fault contents now_contents → UpTo Tells accepts fault (stage_of old contents r) new now_contents
  batch-up faults.Write contents now_contents old new r later still = absurd still
  batch-up faults.Next contents now_contents old new r later still = up-still faults.Next (stage_of old contents r) new now_contents later still
  batch-up (faults.Txn fault) contents now_contents old new r later still = up-still (faults.Txn fault) (stage_of old contents r) new now_contents later still
  batch-up faults.NoMemory contents now_contents old new r later still = up-still faults.NoMemory (stage_of old contents r) new now_contents later still

  noted-up : (fault : Fault) (contents now_contents : Option (List ℕ)) (old new : Seen Own) (r : Run) → Continues Tells old new → CutNoted Tells accepts fault contents now_contents old new r → UpTo Tells accepts fault (stage_of old contents r) new now_contents
  noted-up faults.Write contents now_contents old new r later cut = up-still faults.Write (stage_of old contents r) new now_contents later
      (record { text = cut.noted; whole = inl (stage_of new (append_known contents cut.noted) cut.now_run, cut.behind, refl); part = cut.part })
  noted-up faults.Next contents now_contents old new r later cut = absurd cut
  noted-up (faults.Txn fault) contents now_contents old new r later cut = absurd cut
  noted-up faults.NoMemory contents now_contents old new r later cut = absurd cut

  round-up : (fault : Fault) (contents now_contents : Option (List ℕ)) (old new : Seen Own) (r : Run) → Continues Tells old new → CutRound Tells accepts fault contents now_contents old new r → UpTo Tells accepts fault (stage_of old contents r) new now_contents
  round-up fault contents now_contents old new r later (inl still) = batch-up fault contents now_contents old new r later still.0
  round-up fault contents now_contents old new r later (inr (inl behind)) =
      up-then fault (stage_of old contents r) (stage_of behind.mid behind.held behind.mid_run) new now_contents behind.course
      (some-up fault behind.held now_contents behind.mid new behind.mid_run behind.some)
  round-up fault contents now_contents old new r later (inr (inr noted)) = noted-up fault contents now_contents old new r later noted

  rounds-up : (fault : Fault) (contents now_contents : Option (List ℕ)) (old new : Seen Own) (r : Run) → CutRounds Tells accepts fault contents now_contents old new r → UpTo Tells accepts fault (stage_of old contents r) new now_contents
  rounds-up fault contents now_contents old new r cut =
      up-then fault (stage_of old contents r) (stage_of cut.mid cut.held cut.mid_run) new now_contents cut.rounds.course
      (round-up fault cut.held now_contents cut.mid new cut.mid_run cut.later cut.round)

  -- ---- The start, and the end

  abbrev at : Seen Own → Engine → Option (List ℕ) → Stage Own
  at seen e written = record { seen = seen; engine = e; written = written }

  start-up : (fault : Fault) (contents now_contents : Option (List ℕ)) (old new : Seen Own) (e : Engine) → Continues Tells old new → CutStart Tells fault contents now_contents old new e → UpTo Tells accepts fault (at old e contents) new now_contents
  start-up faults.Write contents now_contents old new e later cut = up-still faults.Write (at old e contents) new now_contents later
      (record { text = cut.more; whole = inl (at new cut.now_engine (append_known contents cut.more), inr (inr (record { text = cut.more; all = cut.all; written = refl })), refl); part = cut.part })
  start-up faults.NoMemory contents now_contents old new e later cut = up-still faults.NoMemory (at old e contents) new now_contents later cut.0
  start-up faults.Next contents now_contents old new e later cut = absurd cut
  start-up (faults.Txn fault) contents now_contents old new e later cut = absurd cut

  end-up : (fault : Fault) (contents now_contents : Option (List ℕ)) (last new : Seen Own) (r : Run) → Continues Tells last new → r.core.queue ≡ [] → CutEnd Tells fault contents now_contents last new (engine_of r) → UpTo Tells accepts fault (stage_of last contents r) new now_contents
  end-up faults.Write contents now_contents last new r later none cut = up-still faults.Write (stage_of last contents r) new now_contents later (record { text = cut.more; whole = inr none; part = cut.part })
  end-up faults.Next contents now_contents last new r later none cut = up-still faults.Next (stage_of last contents r) new now_contents later cut.0
  end-up (faults.Txn fault) contents now_contents last new r later none cut = up-still (faults.Txn fault) (stage_of last contents r) new now_contents later cut.0
  end-up faults.NoMemory contents now_contents last new r later none cut = up-still faults.NoMemory (stage_of last contents r) new now_contents later cut.0

  goes-up : (most : ℕ) (fault : Fault) (contents now_contents : Option (List ℕ)) (old new : Seen Own) (e : Engine) → Continues Tells old new → CutGoes Tells accepts most fault contents now_contents old new e → UpTo Tells accepts fault (at old e contents) new now_contents
  goes-up most fault contents now_contents old new e later (inl start) = start-up fault contents now_contents old new e later start
  goes-up most fault contents now_contents old new e later (inr (inl g)) =
      up-then fault (at old e contents) (stage_of g.begun g.held g.begun_run) new now_contents
      (follows-one Tells accepts (at old e contents) (stage_of g.begun g.held g.begun_run) (record { continues = g.first; part = inr (inr (record { text = g.text; all = g.all; written = g.writes.written })) }))
      (rounds-up fault g.held now_contents g.begun new g.begun_run g.rounds)
  goes-up most fault contents now_contents old new e later (inr (inr h)) =
      up-then fault (at old e contents) (stage_of h.begun h.held h.begun_run) new now_contents
      (follows-one Tells accepts (at old e contents) (stage_of h.begun h.held h.begun_run) (record { continues = h.first; part = inr (inr (record { text = h.text; all = h.all; written = h.writes.written })) }))
      (up-then fault (stage_of h.begun h.held h.begun_run) (stage_of h.last h.last_held h.last_run) new now_contents h.rounds.course
      (end-up fault h.last_held now_contents h.last new h.last_run h.later h.none_left h.ends))

-- how the whole ended by a fault
ends-at : {Own : Type 0} (Tells : Type 0) (accepts : List TableView → Bool) (fault : Fault) (written : Option (List ℕ)) (last : Stage Own) → EndsBy Tells accepts fault written last → EndsAt Tells accepts (served_by fault) written last
ends-at Tells accepts faults.Write written last ends = ends
ends-at Tells accepts faults.Next written last ends = ends
ends-at Tells accepts (faults.Txn fault) written last ends = ends
ends-at Tells accepts faults.NoMemory written last ends = ends

-- ---- The whole call

-- opening a world brings no message
opened_none : {Own : Type 0} (old new : Seen Own) (step : WorldStep) → got_in (step ∷ []) ≡ [] → new.history ≡ old.history ++ step ∷ [] → GotNone old.history new.history
opened_none old new step none is = none_got_by old.history new.history (step ∷ []) is none

-- the world was not opened
pub course_unopened : {Own : Type 0} (rules : List AppValue) (Tells : Type 0) (accepts : List TableView → Bool) (contents : Option (List ℕ)) (old new : Seen Own) (end : Served) → Continues Tells old new → IsUnopened Tells old new end
    → GoesItsCourse rules Tells accepts old new contents contents end
course_unopened rules Tells accepts contents old new served.Shut first left = record { opened = new; first = first; opening = λ told. opened_none old new NotOpened refl (left told); last = first_stage rules new contents; runs = runs-still Tells accepts (first_stage rules new contents) new (Continues-refl Tells new); ends = refl }
course_unopened rules Tells accepts contents old new served.NoMemory first left = record { opened = new; first = first; opening = λ told. none_got_as old.history new.history (left told); last = first_stage rules new contents; runs = runs-still Tells accepts (first_stage rules new contents) new (Continues-refl Tells new); ends = refl }
course_unopened rules Tells accepts contents old new (served.EventsLeft n) first left = absurd left
course_unopened rules Tells accepts contents old new (served.Ended events) first left = absurd left
course_unopened rules Tells accepts contents old new served.WriteFault first left = absurd left
course_unopened rules Tells accepts contents old new served.NextFault first left = absurd left
course_unopened rules Tells accepts contents old new (served.Txn fault) first left = absurd left

-- all was done
pub course_done : {Own : Type 0} (rules : List AppValue) (Tells : Type 0) (accepts : List TableView → Bool) (most events : ℕ) (a b : Option (List ℕ)) (old mid new : Seen Own) → Continues Tells old mid → (Tells → mid.history ≡ old.history ++ Opened ∷ []) → RunsAs rules Tells accepts most (Ok events) a b mid new
    → GoesItsCourse rules Tells accepts old new a b (served.Ended events)
course_done rules Tells accepts most events a b old mid new first opened runs = record {
  opened = mid;
  first = first;
  opening = λ told. opened_none old mid Opened refl (opened told);
  last = record { seen = runs.out.last; engine = runs.last; written = runs.held };
  runs = runs.course;
  ends = (runs.out.none_left, runs.events_is, runs.written.0, runs.written.1);
}

-- a fault ended it
course_cut : {Own : Type 0} (rules : List AppValue) (Tells : Type 0) (accepts : List TableView → Bool) (most : ℕ) (end : Served) (a b : Option (List ℕ)) (old mid new : Seen Own) → Continues Tells old mid → (Tells → mid.history ≡ old.history ++ Opened ∷ []) → CutRun Tells accepts most end a b mid new (engine_at_first rules)
    → GoesItsCourse rules Tells accepts old new a b end
course_cut rules Tells accepts most end a b old mid new first opened cut =
    let up = goes-up Tells accepts most cut.fault a b mid cut.stop (engine_at_first rules) cut.before cut.goes in
    record {
      opened = mid;
      first = first;
      opening = λ told. opened_none old mid Opened refl (opened told);
      last = up.last;
      runs = runs-later Tells accepts (first_stage rules mid a) up.last cut.stop new cut.later up.runs;
      ends = subst (λ (s : Served). EndsAt Tells accepts s b up.last) (sym cut.end_is) (ends-at Tells accepts cut.fault b up.last up.ends);
    }

-- or events were left
pub course_failed : {Own : Type 0} (rules : List AppValue) (Tells : Type 0) (accepts : List TableView → Bool) (most : ℕ) (end : Served) (a b : Option (List ℕ)) (old mid new : Seen Own) → Continues Tells old mid → (Tells → mid.history ≡ old.history ++ Opened ∷ []) → RunsAs rules Tells accepts most (Err end) a b mid new
    → CutAs Tells accepts most end a b mid new (engine_at_first rules) → GoesItsCourse rules Tells accepts old new a b end
course_failed rules Tells accepts most (served.EventsLeft left) a b old mid new first opened runs cut = record {
  opened = mid;
  first = first;
  opening = λ told. opened_none old mid Opened refl (opened told);
  last = record { seen = runs.full.last; engine = runs.full.now_engine; written = b };
  runs = runs.course;
  ends = (runs.full.left_is, refl);
}
course_failed rules Tells accepts most (served.Ended events) a b old mid new first opened runs cut = absurd runs
course_failed rules Tells accepts most served.WriteFault a b old mid new first opened runs cut = course_cut rules Tells accepts most served.WriteFault a b old mid new first opened cut
course_failed rules Tells accepts most served.Shut a b old mid new first opened runs cut = course_cut rules Tells accepts most served.Shut a b old mid new first opened cut
course_failed rules Tells accepts most served.NextFault a b old mid new first opened runs cut = course_cut rules Tells accepts most served.NextFault a b old mid new first opened cut
course_failed rules Tells accepts most (served.Txn fault) a b old mid new first opened runs cut = course_cut rules Tells accepts most (served.Txn fault) a b old mid new first opened cut
course_failed rules Tells accepts most served.NoMemory a b old mid new first opened runs cut = course_cut rules Tells accepts most served.NoMemory a b old mid new first opened cut
