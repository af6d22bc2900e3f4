-- Laws of parts of a run that a fault ended.
use Rattle.std.proofs.Common.{◌≡◌, ℕ, zero, suc, ◌+◌, ◌^◌, ◌<◌, Bool, List, [], ◌∷◌, ◌++◌, length, map, drop, Option, Some, Result, Ok, Err, IfErr, IsErrAnd, refl, sym, ap, ◌∙◌, subst, arith, inl, inr}
use Rattle.std.specs.Prelude.{slice_get}
use Rattle.std.specs.List.{AllByRecursion}
use Rattle.lego_io.specs.Sink.{TookPart}
use Rattle.flow_table.specs.View.{TableView}
use Rattle.app_frames.specs.declared.frame.Event.{Event}
use Rattle.lego_model.specs.Places.{Place}
use Rattle.lego_model.specs.RunReport.{event_line}
use Rattle.lego_model.specs.OrderlySteps.{IsOrderly}
use Rattle.lego_model.specs.CutRun.{dispatch_partly}
use Rattle.outside.specs.Seen.{Seen, Continues}
use Rattle.outside.specs.Conforming.{Conforming}
use Rattle.outside.specs.laws.SeenLaws.{Continues-refl, Continues-trans}
use Rattle.net_txn.specs.Net.{NetState}
use Rattle.batch_laws.specs.Calm.{Calm}
use Rattle.run_laws.specs.Engine.{Application, Engine, EachFrom, rules_of}
use Rattle.run_laws.specs.Facts.{Between, DispatchesTo}
use Rattle.run_laws.specs.Readings.{JudgesAlike}
use Rattle.run_laws.specs.Moves.{IsAtRest, AtRest, Moved}
use Rattle.run_laws.specs.LastReport.{last_text}
use Rattle.run_laws.specs.laws.MoveLaws.{moved-none}
use Rattle.run_laws.specs.laws.EventLaws.{next-shown, partly-moved}
use Rattle.event_dispatch.specs.declared.batch.Rest.{Rest}
use Rattle.event_dispatch.specs.declared.fault.Fault.{Fault}
use Rattle.event_dispatch.specs.declared.fault.Fault.TheVariants as faults
use Rattle.event_dispatch.specs.declared.engine_core.Core.{Core}
use Rattle.event_dispatch.specs.declared.run.Run.{Run}
use Rattle.event_dispatch.specs.declared.served.Served.{Served}
use Rattle.event_dispatch.specs.declared.served.Served.TheVariants as served
use Rattle.event_dispatch.specs.Why.{IsReason, served_by}
use Rattle.event_dispatch.specs.Runs.{Going, Waits}
use Rattle.event_dispatch.specs.Batch.{BatchShown}
use Rattle.checkpoint_store.specs.Slots.{Slot}
use Rattle.run_laws.specs.Course.{BatchTaken}
use Rattle.event_dispatch.specs.Shows.{Stays, application_of, engine_of, queued_run}
use Rattle.event_dispatch.specs.ReportEnd.{LastShown}
use Rattle.run_laws.specs.laws.LeaveLaws.{asked-leaves}
use Rattle.event_dispatch.specs.Talking.{KeepsTalking}
use Rattle.event_dispatch.specs.Steady.{Reads, NoPoint, NoneMoves}
use Rattle.event_dispatch.specs.laws.SteadyLaws.{quietly_none, quietly_then, none_move, none_move_then}
use Rattle.event_dispatch.specs.laws.TalkingLaws.{keeps_none, keeps_then}
use Rattle.event_dispatch.specs.Serves.{stand, Writes, AllStarted, IsDispatched, Begins}
use Rattle.event_dispatch.specs.laws.ReadLaws.{reads_engine}
use Rattle.event_dispatch.specs.laws.RoundLaws.{first_event, number_is, batch_is, batch_written, batch_follows, started_all, all_begun}
use Rattle.event_dispatch.specs.Cut.{IsStill, FailsIn, FailsNext, CutOne, CutSome, CutRound, CutRounds, CutStart, CutEnd, CutFinish, CutFinishAs, WentToEnd, CutGoes, CutRun, CutAs}

-- what a `?` answers is the fault
pub if_err : {T E : Type 0} (P : E → Type 0) (fault : E) (result : Result T E) → IsErrAnd result (λ e. e ≡ fault) → P fault → IfErr result P
if_err P fault (Ok x) is p = absurd is
if_err P fault (Err e) is p = subst P (sym is) p

-- a fault that has its cause where no sink was written to is not the sink's
pub still_is : {Own : Type 0} (Tells : Type 0) (a b : Seen Own) (fault : Fault) (contents now_contents : Option (List ℕ)) → IsReason Tells a b 0 0 fault → now_contents ≡ contents → IsStill fault contents now_contents
still_is Tells a b faults.Write contents now_contents (inl lt) same = absurd (omega (arith, lt))
still_is Tells a b faults.Write contents now_contents (inr e) same = absurd (omega (arith, e))
still_is Tells a b faults.Next contents now_contents why same = same
still_is Tells a b (faults.Txn fault) contents now_contents why same = same
still_is Tells a b faults.NoMemory contents now_contents why same = same

-- ---- Events

pub one_still : {Own : Type 0} (Tells : Type 0) (accepts : List TableView → Bool) (fault : Fault) (contents now_contents : Option (List ℕ)) (old new : Seen Own) (e : Engine) → IsStill fault contents now_contents → FailsNext Tells accepts fault old new e → CutOne Tells accepts fault contents now_contents old new e
one_still Tells accepts faults.Write contents now_contents old new e still fails = absurd still
one_still Tells accepts faults.Next contents now_contents old new e still fails = (still, fails)
one_still Tells accepts (faults.Txn fault) contents now_contents old new e still fails = (still, fails)
one_still Tells accepts faults.NoMemory contents now_contents old new e still fails = (still, fails)

-- it is the oldest of those that wait
pub fails_next : {Own : Type 0} (Tells : Type 0) (accepts : List TableView → Bool) (fault : Fault) (event : Event) (old new : Seen Own) (r : Run) (queue : List Event) → r.core.events < 2 ^ 63 → Some event ≡ slice_get r.core.queue 0 → queue ≡ drop 1 r.core.queue
    → FailsIn Tells accepts fault event old new (engine_of (queued_run queue r)) → FailsNext Tells accepts fault old new (engine_of r)
fails_next Tells accepts fault event old new r queue few waits left fails = record {
  event = event;
  queue = queue;
  waits = first_event r.core.queue event waits ∙ ap (λ (q : List Event). event ∷ q) (sym left);
  few = omega (arith, few);
  fails = fails;
}

-- Up to there the reference controller gives the event to as many: the first of them where it was given to some, and else nothing is done.
pub record PartlyGone {Own : Type 0} (allows : List Place → Bool) (old mid : Seen Own) (e mid_e : Engine) : Type 0 where
  pub given : ℕ
  pub more : List ℕ
  pub now_engine : Engine
  pub partly : Moved [] (dispatch_partly allows given) more old mid e now_engine
  pub rest : AtRest mid mid_e
  pub rules : rules_of mid_e ≡ rules_of e

-- it was given to none
none_gone : {Own : Type 0} (Tells : Type 0) (accepts : List TableView → Bool) (allows : List Place → Bool) (event : Event) (queue : List Event) (old mid : Seen Own) (e mid_e : Engine) → DispatchesTo Tells accepts event 0 old mid (record e { queue = queue }) mid_e → AtRest old e → PartlyGone allows old mid e mid_e
none_gone {Own} Tells accepts allows event queue old mid e mid_e given settled =
    let here : mid ≡ old = ap (λ (b : Between Own). b.seen) given.offers.0 in
    let net : mid_e.net ≡ e.net = ap (λ (b : Between Own). b.net) given.offers.0 in
    let apps : mid_e.apps ≡ e.apps = given.apps_is ∙ ap (λ (front : List Application). front ++ e.apps) given.offers.2 in
    record {
      given = 0;
      more = [];
      now_engine = e;
      partly = subst (λ (m : Seen Own). Moved [] (dispatch_partly allows 0) [] old m e e) (sym here) (moved-none old e settled);
      rest = record {
        calm = subst (λ (m : Seen Own). Calm m mid_e.net) (sym here) (subst (λ (n : NetState). Calm old n) (sym net) settled.calm);
        each = subst (λ (m : Seen Own). EachFrom (IsAtRest m) 0 mid_e.apps) (sym here) (subst (λ (xs : List Application). EachFrom (IsAtRest old) 0 xs) (sym apps) settled.each);
        orderly = subst (λ (m : Seen Own). AllByRecursion (IsOrderly (length mid_e.apps)) m.history) (sym here) (subst (λ (xs : List Application). AllByRecursion (IsOrderly (length xs)) old.history) (sym apps) settled.orderly);
      };
      rules = ap (λ (xs : List Application). map (λ a. a.rule) xs) apps;
    }

-- to some
to_gone : {Own : Type 0} (Tells : Type 0) (accepts : List TableView → Bool) (allows : List Place → Bool) (number : ℕ) (event : Event) (queue : List Event) (old mid : Seen Own) (e mid_e : Engine) → Tells → Conforming mid → JudgesAlike Own allows accepts → e.events + 1 < 2 ^ 64 → e.queue ≡ event ∷ queue
    → DispatchesTo Tells accepts event number old mid (record e { queue = queue }) mid_e → AtRest old e → PartlyGone allows old mid e mid_e
to_gone Tells accepts allows zero event queue old mid e mid_e told keeps judges few waits given settled = none_gone Tells accepts allows event queue old mid e mid_e given settled
to_gone Tells accepts allows (suc n) event queue old mid e mid_e told keeps judges few waits given settled =
    let moved = partly-moved Tells accepts allows n event queue old mid e mid_e told keeps judges few settled waits given in
    record {
      given = suc n;
      more = event_line (e.events + 1) event.kind event.dpid ++ given.text;
      now_engine = mid_e;
      partly = moved;
      rest = moved.settled;
      rules = moved.moves.rules;
    }

pub partly_gone : {Own : Type 0} (Tells : Type 0) (accepts : List TableView → Bool) (allows : List Place → Bool) (fault : Fault) (old new : Seen Own) (e : Engine) (next : FailsNext Tells accepts fault old new e) → Tells → Conforming next.fails.mid → JudgesAlike Own allows accepts → AtRest old e
    → PartlyGone allows old next.fails.mid e next.fails.mid_engine
partly_gone Tells accepts allows fault old new e next told keeps judges settled =
    to_gone Tells accepts allows next.fails.number next.event next.queue old next.fails.mid e next.fails.mid_engine told keeps judges next.few next.waits next.fails.given settled

-- it was dispatched, and the sink failed
pub one_unwritten : {Own : Type 0} (Tells : Type 0) (accepts : List TableView → Bool) (event : Event) (contents now_contents : Option (List ℕ)) (old new : Seen Own) (r : Run) (queue : List Event) (mid : Run) → Continues Tells old new → r.core.events < 2 ^ 63 → Some event ≡ slice_get r.core.queue 0
    → queue ≡ drop 1 r.core.queue → r.core.lines.items ≡ [] → IsDispatched Tells accepts event old new (queued_run queue r) mid → Reads Tells old new r.core.net mid.core.net → TookPart contents now_contents mid.core.lines.items → CutOne Tells accepts faults.Write contents now_contents old new (engine_of r)
one_unwritten Tells accepts event contents now_contents old new r queue mid continues few waits left none is reads part = record {
  more = is.text;
  now_engine = engine_of mid;
  shown = next-shown Tells accepts event queue is.text old new (engine_of r) (engine_of mid) continues (omega (arith, few)) (first_event r.core.queue event waits ∙ ap (λ (q : List Event). event ∷ q) (sym left)) is.dispatches;
  reads = reads;
  part = subst (λ (text : List ℕ). TookPart contents now_contents text) (is.notes ∙ ap (λ (xs : List ℕ). xs ++ is.text) none) part;
  behind = inr (inl (record {
    event = event;
    later = queue;
    waits = first_event r.core.queue event waits ∙ ap (λ (q : List Event). event ∷ q) (sym left);
    text = is.text;
    dispatches = is.dispatches;
    written = refl;
  }));
}

-- ---- Rounds

-- a batch was done, and a fault ended what came behind it
pub round_behind : {Own : Type 0} (Tells : Type 0) (accepts : List TableView → Bool) (rest : Rest) (fault : Fault) (contents held now_contents : Option (List ℕ)) (old mid new : Seen Own) (r : Run) (then_c mid_c : Core) → Continues Tells old mid → r.core.lines.items ≡ [] → Waits r.core then_c
    → BatchShown Tells rest old mid r.core then_c → BatchTaken Tells (stand old r.core) (stand mid then_c) → Reads Tells old mid r.core.net then_c.net → Stays then_c mid_c → Writes then_c.lines.items contents held mid_c → Continues Tells mid new → CutSome Tells accepts fault held now_contents mid new (record r { core = mid_c }) → CutRound Tells accepts fault contents now_contents old new r
round_behind Tells accepts rest fault contents held now_contents old mid new r then_c mid_c first none waits batch kept reads same writes later some = inr (inl (record {
  rest = rest;
  mid = mid;
  mid_run = record r { core = mid_c };
  noted = then_c.lines.items;
  held = held;
  first = first;
  batch = batch_written Tells rest old mid r then_c mid_c first none waits batch same;
  written = writes.written;
  reads = reads_engine old mid then_c mid_c same reads;
  course = batch_follows Tells accepts contents held old mid r then_c mid_c first kept waits same writes;
  later = later;
  some = some;
}))

-- or the sink failed at what it noted
pub round_unwritten : {Own : Type 0} (Tells : Type 0) (accepts : List TableView → Bool) (rest : Rest) (contents now_contents : Option (List ℕ)) (old new : Seen Own) (r : Run) (then_c : Core) → Continues Tells old new → r.core.lines.items ≡ [] → Waits r.core then_c
    → BatchShown Tells rest old new r.core then_c → BatchTaken Tells (stand old r.core) (stand new then_c) → Reads Tells old new r.core.net then_c.net → (then_c.lines.items ≡ [] → ⊥) → TookPart contents now_contents then_c.lines.items → CutRound Tells accepts faults.Write contents now_contents old new r
round_unwritten Tells accepts rest contents now_contents old new r then_c first none waits batch kept reads some part = inr (inr (record {
  rest = rest;
  noted = then_c.lines.items;
  now_run = record r { core = then_c };
  batch = batch_is Tells rest old new r then_c first none waits batch;
  some = some;
  reads = reads;
  part = part;
  behind = inl (record {
    taken = kept;
    events = waits.events;
    apps = ap (λ (slots : List Slot). map (application_of slots) r.apps.items) waits.store;
    noted = then_c.lines.items;
    written = refl;
  });
}))

-- ---- The start, and the end

-- memory ran out
pub start_short : {Own : Type 0} (Tells : Type 0) (contents : Option (List ℕ)) (old new : Seen Own) (r : Run) → Going r → KeepsTalking Tells old new → NoPoint Tells (length r.core.store) old new → CutStart Tells faults.NoMemory contents contents old new (engine_of r)
start_short Tells contents old new r going talks no_point = (refl, talks, subst (λ (n : ℕ). NoPoint Tells n old new) (number_is r going) no_point)

-- they were started, and the sink failed
pub start_unwritten : {Own : Type 0} (Tells : Type 0) (contents now_contents : Option (List ℕ)) (old new : Seen Own) (r mid : Run) → r.core.lines.items ≡ [] → AllStarted Tells old new r.core mid.core r.apps.items mid.apps.items → Reads Tells old new r.core.net mid.core.net → TookPart contents now_contents mid.core.lines.items → CutStart Tells faults.Write contents now_contents old new (engine_of r)
start_unwritten Tells contents now_contents old new r mid none starts reads part = record {
  more = starts.text;
  now_engine = engine_of mid;
  shown = all_begun Tells old new r mid starts;
  reads = reads;
  part = subst (λ (text : List ℕ). TookPart contents now_contents text) (starts.notes ∙ ap (λ (xs : List ℕ). xs ++ starts.text) none) part;
  all = started_all Tells old new r mid starts;
}

end_still : {Own : Type 0} (Tells : Type 0) (fault : Fault) (contents now_contents : Option (List ℕ)) (last new : Seen Own) (e : Engine) → IsStill fault contents now_contents → KeepsTalking Tells last new → NoPoint Tells (length e.apps) last new → CutEnd Tells fault contents now_contents last new e
end_still Tells faults.Write contents now_contents last new e still talks no_point = absurd still
end_still Tells faults.Next contents now_contents last new e still talks no_point = (still, talks, no_point)
end_still Tells (faults.Txn fault) contents now_contents last new e still talks no_point = (still, talks, no_point)
end_still Tells faults.NoMemory contents now_contents last new e still talks no_point = (still, talks, no_point)

pub end_stopped : {Own : Type 0} (Tells : Type 0) (fault : Fault) (contents now_contents : Option (List ℕ)) (last new : Seen Own) (r : Run) → Going r → IsStill fault contents now_contents → KeepsTalking Tells last new → NoPoint Tells (length r.core.store) last new → CutEnd Tells fault contents now_contents last new (engine_of r)
end_stopped Tells fault contents now_contents last new r going still talks no_point =
    end_still Tells fault contents now_contents last new (engine_of r) still talks (subst (λ (n : ℕ). NoPoint Tells n last new) (number_is r going) no_point)

-- the lines of the end are known, and the sink failed
pub end_unwritten : {Own : Type 0} (Tells : Type 0) (contents now_contents : Option (List ℕ)) (last new : Seen Own) (r mid : Run) → r.core.lines.items ≡ [] → LastShown Tells last new r mid → Reads Tells last new r.core.net mid.core.net → TookPart contents now_contents mid.core.lines.items → CutEnd Tells faults.Write contents now_contents last new (engine_of r)
end_unwritten Tells contents now_contents last new r mid none shown reads part = record {
  more = mid.core.lines.items;
  now_net = mid.core.net;
  shown = λ told keeps calm.
      let says = shown.shown told keeps calm in
      record { lost = says.lost; text_is = says.says.lines ∙ ap (λ (xs : List ℕ). xs ++ last_text says.lost last (engine_of r)) none; leaves = asked-leaves (length (engine_of r).apps) says.lost last new says.says.asked says.says.switches };
  reads = reads;
  part = part;
}

pub finish_cut : {Own : Type 0} (Tells : Type 0) (fault : Fault) (contents now_contents : Option (List ℕ)) (last new : Seen Own) (e : Engine) → e.queue ≡ [] → CutEnd Tells fault contents now_contents last new e → CutFinishAs Tells (served_by fault) contents now_contents last new e
finish_cut Tells faults.Write contents now_contents last new e none ends = record { fault = faults.Write; end_is = refl; none_left = none; ends = ends }
finish_cut Tells faults.Next contents now_contents last new e none ends = record { fault = faults.Next; end_is = refl; none_left = none; ends = ends }
finish_cut Tells (faults.Txn fault) contents now_contents last new e none ends = record { fault = faults.Txn fault; end_is = refl; none_left = none; ends = ends }
finish_cut Tells faults.NoMemory contents now_contents last new e none ends = record { fault = faults.NoMemory; end_is = refl; none_left = none; ends = ends }

-- ---- A whole run

pub goes_cut : {Own : Type 0} (Tells : Type 0) (accepts : List TableView → Bool) (most : ℕ) (fault : Fault) (contents now_contents : Option (List ℕ)) (old new : Seen Own) (e : Engine) → Continues Tells old new → CutGoes Tells accepts most fault contents now_contents old new e
    → CutAs Tells accepts most (served_by fault) contents now_contents old new e
goes_cut Tells accepts most faults.Write contents now_contents old new e on goes = record { fault = faults.Write; end_is = refl; stop = new; before = on; later = Continues-refl Tells new; talks = keeps_none Tells new; no_point = quietly_none Tells new; none_moves = none_move Tells new; goes = goes }
goes_cut Tells accepts most faults.Next contents now_contents old new e on goes = record { fault = faults.Next; end_is = refl; stop = new; before = on; later = Continues-refl Tells new; talks = keeps_none Tells new; no_point = quietly_none Tells new; none_moves = none_move Tells new; goes = goes }
goes_cut Tells accepts most (faults.Txn fault) contents now_contents old new e on goes = record { fault = faults.Txn fault; end_is = refl; stop = new; before = on; later = Continues-refl Tells new; talks = keeps_none Tells new; no_point = quietly_none Tells new; none_moves = none_move Tells new; goes = goes }
goes_cut Tells accepts most faults.NoMemory contents now_contents old new e on goes = record { fault = faults.NoMemory; end_is = refl; stop = new; before = on; later = Continues-refl Tells new; talks = keeps_none Tells new; no_point = quietly_none Tells new; none_moves = none_move Tells new; goes = goes }

-- a fault ended the rounds
pub rounds_cut : {Own : Type 0} (Tells : Type 0) (accepts : List TableView → Bool) (most : ℕ) (fault : Fault) (a b c : Option (List ℕ)) (old begun new : Seen Own) (r begun_r : Run) → Continues Tells old begun → Begins Tells a b old begun r begun_r → Reads Tells old begun r.core.net begun_r.core.net → Continues Tells begun new
    → CutRounds Tells accepts fault b c begun new begun_r → CutAs Tells accepts most (served_by fault) a c old new (engine_of r)
rounds_cut Tells accepts most fault a b c old begun new r begun_r first begins reads later rounds = goes_cut Tells accepts most fault a c old new (engine_of r) (Continues-trans Tells old begun new first later) (inr (inl (record {
  text = begins.text;
  begun = begun;
  begun_run = begun_r;
  held = b;
  first = first;
  starts = begins.shown;
  starts_read = reads;
  writes = begins.writes;
  all = begins.all;
  later = later;
  rounds = rounds;
})))

-- or the end of the report
end_cut : {Own : Type 0} (Tells : Type 0) (accepts : List TableView → Bool) (most : ℕ) (end : Served) (a b c d : Option (List ℕ)) (old begun last new : Seen Own) (r r1 r2 : Run) → WentToEnd Tells accepts most a b c old begun last r r1 r2 → Continues Tells last new → CutFinish Tells end c d last new (engine_of r2) → CutAs Tells accepts most end a d old new (engine_of r)
end_cut Tells accepts most end a b c d old begun last new r r1 r2 w later cut =
    let whole = Continues-trans Tells old last new (Continues-trans Tells old begun last w.first w.on) later in
    subst (λ (s : Served). CutAs Tells accepts most s a d old new (engine_of r)) (sym cut.end_is) (goes_cut Tells accepts most cut.fault a d old new (engine_of r) whole (inr (inr (record {
      text = w.begins.text;
      begun = begun;
      begun_run = r1;
      last = last;
      last_run = r2;
      held = b;
      last_held = c;
      first = w.first;
      starts = w.begins.shown;
      starts_read = w.starts_read;
      writes = w.begins.writes;
      all = w.begins.all;
      on = w.on;
      rounds = w.rounds;
      rounds_read = w.rounds_read;
      later = later;
      none_left = cut.none_left;
      ends = cut.ends;
    }))))

pub went_cut : {Own : Type 0} (Tells : Type 0) (accepts : List TableView → Bool) (most : ℕ) (result : Result (Unit {0}) Served) (a b c d : Option (List ℕ)) (old begun last new : Seen Own) (r r1 r2 : Run) → WentToEnd Tells accepts most a b c old begun last r r1 r2
    → Continues Tells last new → IfErr result (λ end. CutFinishAs Tells end c d last new (engine_of r2)) → IfErr result (λ end. CutAs Tells accepts most end a d old new (engine_of r))
went_cut Tells accepts most (Ok x) a b c d old begun last new r r1 r2 w later cut = tt
went_cut Tells accepts most (Err (served.EventsLeft left)) a b c d old begun last new r r1 r2 w later cut = tt
went_cut Tells accepts most (Err (served.Ended events)) a b c d old begun last new r r1 r2 w later cut = end_cut Tells accepts most (served.Ended events) a b c d old begun last new r r1 r2 w later cut
went_cut Tells accepts most (Err served.WriteFault) a b c d old begun last new r r1 r2 w later cut = end_cut Tells accepts most served.WriteFault a b c d old begun last new r r1 r2 w later cut
went_cut Tells accepts most (Err served.Shut) a b c d old begun last new r r1 r2 w later cut = end_cut Tells accepts most served.Shut a b c d old begun last new r r1 r2 w later cut
went_cut Tells accepts most (Err served.NextFault) a b c d old begun last new r r1 r2 w later cut = end_cut Tells accepts most served.NextFault a b c d old begun last new r r1 r2 w later cut
went_cut Tells accepts most (Err (served.Txn fault)) a b c d old begun last new r r1 r2 w later cut = end_cut Tells accepts most (served.Txn fault) a b c d old begun last new r r1 r2 w later cut
went_cut Tells accepts most (Err served.NoMemory) a b c d old begun last new r r1 r2 w later cut = end_cut Tells accepts most served.NoMemory a b c d old begun last new r r1 r2 w later cut

-- the run goes on, as with the end of the application
on_cut : {Own : Type 0} (Tells : Type 0) (accepts : List TableView → Bool) (most : ℕ) (end : Served) (a b : Option (List ℕ)) (old mid new : Seen Own) (e : Engine) → Continues Tells mid new → KeepsTalking Tells mid new → NoPoint Tells (length e.apps) mid new → NoneMoves Tells mid new → CutRun Tells accepts most end a b old mid e → CutRun Tells accepts most end a b old new e
on_cut Tells accepts most end a b old mid new e later talks no_point none_moves cut = record {
  fault = cut.fault;
  end_is = cut.end_is;
  stop = cut.stop;
  before = cut.before;
  later = Continues-trans Tells cut.stop mid new cut.later later;
  talks = keeps_then Tells cut.stop mid new cut.talks talks;
  no_point = quietly_then Tells cut.stop mid new cut.no_point no_point;
  none_moves = none_move_then cut.none_moves none_moves;
  goes = cut.goes;
}

pub goes_on_cut : {Own : Type 0} (Tells : Type 0) (accepts : List TableView → Bool) (most : ℕ) (result : Result (Unit {0}) Served) (a b : Option (List ℕ)) (old mid new : Seen Own) (e : Engine) → Continues Tells mid new → KeepsTalking Tells mid new → NoPoint Tells (length e.apps) mid new → NoneMoves Tells mid new → IfErr result (λ end. CutAs Tells accepts most end a b old mid e)
    → IfErr result (λ end. CutAs Tells accepts most end a b old new e)
goes_on_cut Tells accepts most (Ok x) a b old mid new e later talks no_point none_moves cut = tt
goes_on_cut Tells accepts most (Err (served.EventsLeft left)) a b old mid new e later talks no_point none_moves cut = tt
goes_on_cut Tells accepts most (Err (served.Ended events)) a b old mid new e later talks no_point none_moves cut = on_cut Tells accepts most (served.Ended events) a b old mid new e later talks no_point none_moves cut
goes_on_cut Tells accepts most (Err served.WriteFault) a b old mid new e later talks no_point none_moves cut = on_cut Tells accepts most served.WriteFault a b old mid new e later talks no_point none_moves cut
goes_on_cut Tells accepts most (Err served.Shut) a b old mid new e later talks no_point none_moves cut = on_cut Tells accepts most served.Shut a b old mid new e later talks no_point none_moves cut
goes_on_cut Tells accepts most (Err served.NextFault) a b old mid new e later talks no_point none_moves cut = on_cut Tells accepts most served.NextFault a b old mid new e later talks no_point none_moves cut
goes_on_cut Tells accepts most (Err (served.Txn fault)) a b old mid new e later talks no_point none_moves cut = on_cut Tells accepts most (served.Txn fault) a b old mid new e later talks no_point none_moves cut
goes_on_cut Tells accepts most (Err served.NoMemory) a b old mid new e later talks no_point none_moves cut = on_cut Tells accepts most served.NoMemory a b old mid new e later talks no_point none_moves cut

-- memory ran out before anything was done
pub short_cut : {Own : Type 0} (Tells : Type 0) (accepts : List TableView → Bool) (most : ℕ) (contents : Option (List ℕ)) (seen : Seen Own) (e : Engine) → CutAs Tells accepts most served.NoMemory contents contents seen seen e
short_cut Tells accepts most contents seen e = goes_cut Tells accepts most faults.NoMemory contents contents seen seen e (Continues-refl Tells seen) (inl (refl, keeps_none Tells seen, quietly_none Tells seen))
