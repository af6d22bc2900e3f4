-- Laws of what each part of a whole run leaves: where nothing was done, where parts follow one another, and where one of them ended the whole.
use Rattle.std.proofs.Common.{◌≡◌, ℕ, Bool, List, length, Option, Result, Ok, Err, IfErr, IsErr, IsErrAnd, subst}
use Rattle.lego_io.specs.Count.{NeverFell}
use Rattle.flow_table.specs.View.{TableView}
use Rattle.crash_policy.specs.Policies.{AppValue}
use Rattle.outside.specs.Seen.{Seen, Continues}
use Rattle.outside.specs.laws.SeenLaws.{Continues-refl, Continues-trans}
use Rattle.net_txn.specs.Net.{NetState}
use Rattle.run_laws.specs.Engine.{Engine}
use Rattle.run_laws.specs.First.{engine_at_first}
use Rattle.event_dispatch.specs.declared.engine_core.Core.{Core}
use Rattle.event_dispatch.specs.declared.fault.Fault.{Fault}
use Rattle.event_dispatch.specs.declared.run.Run.{Run}
use Rattle.event_dispatch.specs.declared.served.Served.{Served}
use Rattle.event_dispatch.specs.declared.served.Served.TheVariants as served
use Rattle.event_dispatch.specs.Why.{served_by}
use Rattle.event_dispatch.specs.Shows.{engine_of}
use Rattle.event_dispatch.specs.Talking.{KeepsTalking}
use Rattle.event_dispatch.specs.Steady.{NoPoint, NoneMoves, IsEnded}
use Rattle.event_dispatch.specs.Lines.{WritesLines}
use Rattle.event_dispatch.specs.Passes.{Passes}
use Rattle.event_dispatch.specs.Cut.{WentToEnd}
use Rattle.event_dispatch.specs.Parts.{PassesOn, PassesServed, PassesEnded, FinishFails, FinishesSo, WholeFails, GoesSo, RunsSo}
use Rattle.event_dispatch.specs.laws.CutLaws.{if_err, went_cut, goes_on_cut, short_cut}
use Rattle.event_dispatch.specs.laws.EndedLaws.{none_runs_none, none_runs_then}
use Rattle.event_dispatch.specs.laws.NumberLaws.{numbers_end, numbers_then, end_none, end_done, end_ended}
use Rattle.event_dispatch.specs.laws.PassesLaws.{same_next, next_of, passes_none, passes_then, passes_fails, passes_as, passes_number}
use Rattle.event_dispatch.specs.laws.PlainLaws.{run_anyway, whole_finish, whole_then}
use Rattle.event_dispatch.specs.laws.ReadLaws.{read_none, read_of, reads_as, reads_by, went_read, ended_read}
use Rattle.event_dispatch.specs.laws.SteadyLaws.{places_none, places_then}
use Rattle.event_dispatch.specs.laws.WholeLaws.{finishes_by, goes_by, runs_short, runs_by}
use Rattle.event_dispatch.specs.laws.WhyLaws.{why_behind, why_still, fell_then, same_fell}

-- ---- Parts that write to the sink

pub on_none : {Own T E : Type 0} {number : ℕ} (Tells : Type 0) (seen : Seen Own) (net : NetState) (k : ℕ) (result : Result T E)
    → PassesOn Tells number seen seen net net k k result
on_none Tells seen net k result = record { passes = passes_none Tells seen net net result (same_next net); never_fell = same_fell k }

pub on_of : {Own T E Tells : Type 0} {number : ℕ} {old new : Seen Own} {net now_net : NetState} {result : Result T E} (k l : ℕ)
    → Passes Tells number old new net now_net result → NeverFell k l → PassesOn Tells number old new net now_net k l result
on_of k l all fell = record { passes = all; never_fell = fell }

-- the sink was not written to
pub on_still : {Own T E Tells : Type 0} {number : ℕ} {old new : Seen Own} {net now_net : NetState} {result : Result T E} (k : ℕ)
    → Passes Tells number old new net now_net result → PassesOn Tells number old new net now_net k k result
on_still k all = record { passes = all; never_fell = same_fell k }

pub on_then : {Own A F T E Tells : Type 0} {number k l m : ℕ} {old mid new : Seen Own} {net mid_net now_net : NetState} {x : A} {result : Result T E}
    → PassesOn {T = A} {E = F} Tells number old mid net mid_net k l (Ok x) → PassesOn Tells number mid new mid_net now_net l m result
    → PassesOn Tells number old new net now_net k m result
on_then {k = k} {l = l} {m = m} first second = record { passes = passes_then first.passes second.passes; never_fell = fell_then k l m first.never_fell second.never_fell }

pub on_fails : {Own A F T E Tells : Type 0} {number k l : ℕ} {old new : Seen Own} {net mid_net : NetState} {first : Result A F} (now_net : NetState)
    (result : Result T E) → PassesOn Tells number old new net mid_net k l first → IsErr result → PassesOn Tells number old new net now_net k l result
on_fails now_net result first failed = record { passes = passes_fails now_net result first.passes failed; never_fell = first.never_fell }

-- a part that was done, whatever it gave
pub on_done : {Own A F T E Tells : Type 0} {number k l : ℕ} {old new : Seen Own} {net now_net : NetState} {x : A} (y : T)
    → PassesOn {T = A} {E = F} Tells number old new net now_net k l (Ok x) → PassesOn {E = E} Tells number old new net now_net k l (Ok y)
on_done {now_net = now_net} y all = record { passes = passes_as now_net (Ok y) all.passes (same_next now_net); never_fell = all.never_fell }

-- and then lines were written, or not
pub on_written : {Own A F B G Tells : Type 0} {number k l : ℕ} {old new : Seen Own} {net : NetState} {mid_c now_c : Core} {a b : Option (List ℕ)} {x : A}
    {written : Result B G} (E : Type 0) → Passes {T = A} {E = F} Tells number old new net mid_c.net (Ok x) → WritesLines a b k l mid_c now_c written
    → PassesOn {T = Unit {0}} {E = E} Tells number old new net now_c.net k l (Ok tt)
on_written {now_c = now_c} E first lines = record {
  passes = passes_as now_c.net (Ok tt) first (next_of lines.stays.net);
  never_fell = lines.never_fell;
}

pub on_number : {Own T E Tells : Type 0} {k l : ℕ} {old new : Seen Own} {net now_net : NetState} {result : Result T E} (n m : ℕ) → m ≡ n
    → PassesOn Tells m old new net now_net k l result → PassesOn Tells n old new net now_net k l result
on_number n m same all = record { passes = passes_number n m same all.passes; never_fell = all.never_fell }

-- ---- Parts that say how the run ended

-- events were left, and nothing was done
pub served_left : {Own T : Type 0} {number left : ℕ} (Tells : Type 0) (seen : Seen Own) (net : NetState) (k : ℕ)
    → PassesServed {T = T} Tells number seen seen net k k (Err (served.EventsLeft left))
served_left Tells seen net k = record {
  continues = Continues-refl Tells seen;
  places = places_none Tells seen net;
  reads = read_none Tells seen net;
  numbers = end_none Tells seen net;
  never_fell = same_fell k;
}

-- a fault ended it
pub served_fails : {Own A F T Tells : Type 0} {number k l : ℕ} {old new : Seen Own} {net mid_net : NetState} {first : Result A F} (fault : Fault)
    (result : Result T Served) → PassesOn Tells number old new net mid_net k l first → IsErrAnd result (λ e. e ≡ served_by fault)
    → PassesServed Tells number old new net k l result
served_fails {Tells = Tells} {old = old} {new = new} {net = net} {mid_net = mid_net} {first = part} fault result first failed = record {
  continues = first.passes.continues;
  places = first.passes.places;
  numbers = numbers_end mid_net part first.passes.numbers;
  reads = reads_by Tells fault result old new net failed;
  never_fell = first.never_fell;
}

pub served_done : {Own A F T Tells : Type 0} {number k l : ℕ} {old new : Seen Own} {net mid_net : NetState} {x : A} (y : T)
    → PassesOn {T = A} {E = F} Tells number old new net mid_net k l (Ok x) → PassesServed Tells number old new net k l (Ok y)
served_done {mid_net = mid_net} y all = record { continues = all.passes.continues; places = all.passes.places; reads = read_of all.passes.reads; numbers = end_done mid_net all.passes.numbers; never_fell = all.never_fell }

-- a part that was done, and then the last one
pub served_then : {Own A F T Tells : Type 0} {number k l m : ℕ} {old mid new : Seen Own} {net mid_net : NetState} {x : A} {result : Result T Served}
    → PassesOn {T = A} {E = F} Tells number old mid net mid_net k l (Ok x) → PassesServed Tells number mid new mid_net l m result
    → PassesServed Tells number old new net k m result
served_then {Tells = Tells} {k = k} {l = l} {m = m} {old = old} {mid = mid} {new = new} {net = net} {mid_net = mid_net} {result = result} first second = record {
  continues = Continues-trans Tells old mid new first.passes.continues second.continues;
  places = places_then old mid new net mid_net first.passes.continues second.continues first.passes.places first.passes.reads second.places;
  reads = went_read Tells result old mid new net mid_net first.passes.continues second.continues first.passes.reads second.reads;
  numbers = numbers_then second.continues first.passes.reads first.passes.numbers second.numbers;
  never_fell = fell_then k l m first.never_fell second.never_fell;
}

pub served_number : {Own T Tells : Type 0} {k l : ℕ} {old new : Seen Own} {net : NetState} {result : Result T Served} (n m : ℕ) → m ≡ n
    → PassesServed Tells m old new net k l result → PassesServed Tells n old new net k l result
served_number {Tells = Tells} {k = k} {l = l} {old = old} {new = new} {net = net} {result = result} n m same all = subst
    (λ (i : ℕ). PassesServed Tells i old new net k l result) same all

-- ---- The applications are ended at last

pub ended_then : {Own T Tells : Type 0} {number k l : ℕ} {old mid new : Seen Own} {net : NetState} {result : Result T Served}
    → PassesServed Tells number old mid net k l result → Continues Tells mid new → IsEnded Tells number mid new
    → PassesEnded Tells number old new net k l result
ended_then {Tells = Tells} {old = old} {mid = mid} {new = new} {net = net} {result = result} first later last = record {
  continues = Continues-trans Tells old mid new first.continues later;
  none_runs = none_runs_then old mid new net first.continues later first.places last;
  reads = ended_read Tells result old mid new net first.continues later last.messages first.reads;
  numbers = end_ended later last.none_sent first.numbers;
  never_fell = first.never_fell;
}

-- memory was wanting before anything was done
pub ended_short : {Own T : Type 0} {number : ℕ} (Tells : Type 0) (seen : Seen Own) (net : NetState) (k : ℕ) (result : Result T Served)
    → IsErrAnd result (λ e. e ≡ served.NoMemory) → PassesEnded Tells number seen seen net k k result
ended_short Tells seen net k result failed = record {
  continues = Continues-refl Tells seen;
  none_runs = none_runs_none Tells seen net;
  reads = reads_as Tells served.NoMemory result seen seen net failed tt;
  numbers = end_none Tells seen net;
  never_fell = same_fell k;
}

-- the whole ended as its part
pub ended_fails : {Own A T Tells : Type 0} {number k l : ℕ} {old new : Seen Own} {net : NetState} {end : Served} (result : Result T Served)
    → PassesEnded {T = A} Tells number old new net k l (Err end) → IsErrAnd result (λ e. e ≡ end) → PassesEnded Tells number old new net k l result
ended_fails {Tells = Tells} {old = old} {new = new} {net = net} {end = end} result all failed = record {
  continues = all.continues;
  none_runs = all.none_runs;
  reads = reads_as Tells end result old new net failed all.reads;
  numbers = all.numbers;
  never_fell = all.never_fell;
}

pub ended_done : {Own A T Tells : Type 0} {number k l : ℕ} {old new : Seen Own} {net : NetState} {x : A} (y : T)
    → PassesEnded {T = A} Tells number old new net k l (Ok x) → PassesEnded Tells number old new net k l (Ok y)
ended_done y all = record { continues = all.continues; none_runs = all.none_runs; reads = all.reads; numbers = all.numbers; never_fell = all.never_fell }

-- of as many applications, and over the same of the network
pub ended_as : {Own T Tells : Type 0} {k l : ℕ} {old new : Seen Own} {result : Result T Served} (n m : ℕ) (net now_net : NetState) → m ≡ n → now_net ≡ net
    → PassesEnded Tells m old new now_net k l result → PassesEnded Tells n old new net k l result
ended_as {Tells = Tells} {k = k} {l = l} {old = old} {new = new} {result = result} n m net now_net number same all =
    subst (λ (s : NetState). PassesEnded Tells n old new s k l result) same (subst (λ (i : ℕ). PassesEnded Tells i old new now_net k l result) number all)

-- ---- How a run ended

-- a fault ended the end of the report
pub finish_fails : {Own Tells : Type 0} {a b : Option (List ℕ)} {old new : Seen Own} (k l : ℕ) (r now_r : Run) (fault : Fault)
    (result : Result (Unit {0}) Served) → IsErrAnd result (λ e. e ≡ served_by fault) → FinishFails Tells a b k l old new r (served_by fault)
    → FinishesSo Tells a b k l old new r now_r result
finish_fails {Tells = Tells} {a = a} {b = b} {old = old} {new = new} k l r now_r fault result failed fails = record {
  finishes = finishes_by Tells a b old new r now_r fault result failed;
  fails = if_err (FinishFails Tells a b k l old new r) (served_by fault) result failed fails;
}

-- a fault ended a part of the run
pub goes_fails : {Own Tells : Type 0} {accepts : List TableView → Bool} {most : ℕ} {a b : Option (List ℕ)} {old new : Seen Own} (k l : ℕ) (r now_r : Run)
    (fault : Fault) (result : Result (Unit {0}) Served) → IsErrAnd result (λ e. e ≡ served_by fault)
    → WholeFails Tells accepts most a b k l old new (engine_of r) (served_by fault)
    → GoesSo Tells accepts most a b k l old new r now_r result
goes_fails {Tells = Tells} {accepts = accepts} {most = most} {a = a} {b = b} {old = old} {new = new} k l r now_r fault result failed fails = record {
  goes = goes_by Tells accepts most a b old new r now_r fault result failed;
  fails = if_err (WholeFails Tells accepts most a b k l old new (engine_of r)) (served_by fault) result failed fails;
}

-- the end of the report failed, or events were left
pub went_fails : {Own Tells : Type 0} (accepts : List TableView → Bool) (most : ℕ) (a b c d : Option (List ℕ)) (k l m : ℕ) (old begun last new : Seen Own)
    (r r1 r2 : Run) (result : Result (Unit {0}) Served) → WentToEnd Tells accepts most a b c old begun last r r1 r2 → Continues Tells last new → NeverFell k l
    → IfErr result (FinishFails Tells c d l m last new r2) → IfErr result (WholeFails Tells accepts most a d k m old new (engine_of r))
went_fails accepts most a b c d k l m old begun last new r r1 r2 (Ok x) went later fell fails = tt
went_fails {Tells = Tells} accepts most a b c d k l m old begun last new r r1 r2 (Err end) went later fell fails = record {
  cut = went_cut Tells accepts most (Err end) a b c d old begun last new r r1 r2 went later fails.cut;
  why = why_behind old last new k l m end (Continues-trans Tells old begun last went.first went.on) fell fails.why;
  plain = whole_finish old begun last new r r1 r2 (Err end) went.begins went.on went.rounds later fails.plain;
}

-- and then the applications were ended
pub then_fails : {Own Tells : Type 0} (accepts : List TableView → Bool) (most : ℕ) (a b : Option (List ℕ)) (k l : ℕ) (old mid new : Seen Own) (e : Engine)
    (result : Result (Unit {0}) Served) → Continues Tells old mid → Continues Tells mid new → NeverFell k l → KeepsTalking Tells mid new
    → NoPoint Tells (length e.apps) mid new
    → NoneMoves Tells mid new → IfErr result (WholeFails Tells accepts most a b k l old mid e) → IfErr result (WholeFails Tells accepts most a b k l old new e)
then_fails accepts most a b k l old mid new e (Ok x) first later fell talks no_point none_moves fails = tt
then_fails {Tells = Tells} accepts most a b k l old mid new e (Err end) first later fell talks no_point none_moves fails = record {
  cut = goes_on_cut Tells accepts most (Err end) a b old mid new e later talks no_point none_moves fails.cut;
  why = why_still old mid new k l end first later fell fails.why;
  plain = whole_then accepts old mid new e (Err end) later fails.plain;
}

-- ---- From an engine before anything happened

-- memory was wanting before anything was done
pub runs_wanting : {Own : Type 0} {accepts : List TableView → Bool} {most : ℕ} {a : Option (List ℕ)} {k : ℕ} (rules : List AppValue) (Tells : Type 0)
    (seen : Seen Own) (result : Result ℕ Served) → IsErrAnd result (λ e. e ≡ served.NoMemory)
    → RunsSo rules Tells accepts most a a k k seen seen (engine_at_first rules) result
runs_wanting {accepts = accepts} {most = most} {a = a} {k = k} rules Tells seen result failed = record {
  runs = runs_short rules Tells accepts most a a seen seen result failed;
  fails = if_err (WholeFails Tells accepts most a a k k seen seen (engine_at_first rules)) served.NoMemory result failed (record {
    cut = short_cut Tells accepts most a seen (engine_at_first rules);
    why = tt;
    plain = run_anyway seen seen (engine_at_first rules) served.NoMemory tt;
  });
}

pub runs_fail : {Own Tells : Type 0} {accepts : List TableView → Bool} {most : ℕ} {a b : Option (List ℕ)} {k l : ℕ} {old new : Seen Own}
    (rules : List AppValue) (r now_r : Run) (end : Served) (result : Result ℕ Served) → IsErrAnd result (λ e. e ≡ end) → engine_of r ≡ engine_at_first rules
    → GoesSo Tells accepts most a b k l old new r now_r (Err end) → RunsSo rules Tells accepts most a b k l old new (engine_at_first rules) result
runs_fail {Tells = Tells} {accepts = accepts} {most = most} {a = a} {b = b} {k = k} {l = l} {old = old} {new = new} rules r now_r end result failed first
    goes = record {
      runs = runs_by rules Tells accepts most a b old new r now_r end result failed first goes.goes;
      fails = if_err (WholeFails Tells accepts most a b k l old new (engine_at_first rules)) end result failed
          (subst (λ (e : Engine). WholeFails Tells accepts most a b k l old new e end) first goes.fails);
    }
