-- Laws of whole runs that a fault ended: they are the reference controller's as far as they go, if the world kept its word as far as there,
-- and no quiescent point lies behind.
use Rattle.std.proofs.Common.{◌≡◌, ◌==◌, ℕ, ◌<◌, ◌≤◌, Bool, true, List, [], ◌∷◌, ◌++◌, length, Option, refl, sym, ap, ◌∙◌, subst, arith, append_assoc, inl, inr}
use Rattle.std.specs.Io.KnownBytes.{append_known}
use Rattle.std.specs.List.{AllByRecursion, list_any}
use Rattle.std.proofs.lemmas.List.{append-nil, append_cancel_left}
use Rattle.lego_io.specs.Sink.{TookPart}
use Rattle.lego_model.specs.Controller.{Run as ModelRun}
use Rattle.lego_io.specs.laws.ToldLaws.{append_known-append}
use Rattle.flow_table.specs.View.{TableView}
use Rattle.crash_policy.specs.Policies.{AppValue}
use Rattle.lego_model.specs.Places.{Place}
use Rattle.outside.specs.Seen.{Seen, Continues, journal}
use Rattle.lego_model.specs.AtOnce.{AtOnce}
use Rattle.outside.specs.declared.step.WorldStep.{WorldStep}
use Rattle.app_frames.specs.declared.frame.Event.{Event}
use Rattle.outside.specs.laws.SeenLaws.{Continues-refl, Continues-trans}
use Rattle.outside.specs.laws.StateLaws.{Conforming-before}
use Rattle.outside.specs.Conforming.{Conforming}
use Rattle.outside.specs.InOrder.{InOrder}
use Rattle.outside.specs.laws.InOrderLaws.{InOrder-before, messages-of}
use Rattle.outside.specs.Quiescence.{NoneQuiescentSince}
use Rattle.outside.specs.laws.QuiescenceLaws.{none_since-then, last_quiescent-of}
use Rattle.run_course.specs.Points.{IsLastPoint}
use Rattle.run_laws.specs.laws.LastPointLaws.{no_point_of, last_point_of, last_point_then}
use Rattle.run_laws.specs.Engine.{Engine, rules_of}
use Rattle.run_laws.specs.Facts.{is_taking, takes_next}
use Rattle.run_laws.specs.Readings.{JudgesAlike}
use Rattle.run_laws.specs.Moves.{AtRest, Moved, Rounds}
use Rattle.run_laws.specs.laws.MoveLaws.{moved-none}
use Rattle.run_laws.specs.laws.FinishLaws.{each-at-once, count-of}
use Rattle.run_laws.specs.laws.FirstLaws.{rules-first, settled-first}
use Rattle.run_laws.specs.First.{IsOpened, net_at_first, engine_at_first}
use Rattle.run_laws.specs.laws.EndingLaws.{whole-of}
use Rattle.run_laws.specs.laws.StimuliLaws.{none-happened}
use Rattle.run_laws.specs.laws.WholeLaws.{no-stimuli}
use Rattle.lego_model.specs.ReferenceRun.{all_started}
use Rattle.run_laws.specs.Promise.{PremiseSoFar}
use Rattle.lego_model.specs.AllLines.{CutBehindLines, CutInLines, CutForMemory}
use Rattle.run_laws.specs.Cut.{IsCallAmong, CallsAmong, CutAt, CutAlike, CutWithLines, CutWriting, GoneSoFar, GoneWithin}
use Rattle.run_laws.specs.laws.CutLaws.{gone-rounds, gone-happens, gone-still, gone-more, gone-whole, last_events, last-few, lines-so, rounds-so, some-so, none-so, start-so, loss-so, event-so, end-so}
use Rattle.event_dispatch.specs.declared.batch.Rest.{Rest}
use Rattle.event_dispatch.specs.declared.batch.Rest.TheVariants as rests
use Rattle.event_dispatch.specs.declared.fault.Fault.{Fault}
use Rattle.event_dispatch.specs.declared.fault.Fault.TheVariants as faults
use Rattle.event_dispatch.specs.declared.served.Served.{Served}
use Rattle.event_dispatch.specs.Why.{served_by}
use Rattle.event_dispatch.specs.Shows.{engine_of}
use Rattle.event_dispatch.specs.laws.RoundLaws.{writes_then}
use Rattle.event_dispatch.specs.Talking.{KeepsTalking}
use Rattle.event_dispatch.specs.Steady.{Reads, NoPoint, NoneMoves}
use Rattle.event_dispatch.specs.Undone.{IsShort}
use Rattle.event_dispatch.specs.laws.LeftLaws.{behind_then, behind_for}
use Rattle.run_course.specs.TurnsLeft.{TurnsBehind}
use Rattle.event_dispatch.specs.laws.CutLaws.{PartlyGone, partly_gone}
use Rattle.event_dispatch.specs.laws.SteadyLaws.{reads_then}
use Rattle.event_dispatch.specs.laws.FrontLaws.{keeps_first, keeps_to, calm_rest}
use Rattle.event_dispatch.specs.Serves.{IsBatch, IsCut}
use Rattle.event_dispatch.specs.declared.run.Run.{Run}
use Rattle.event_dispatch.specs.Cut.{IsStill, IsOfTurn, FailsNext, CutOne, StopsBatch, CutBehind, CutNoted, CutRound, StartPart, CutStart, CutEnd, CutGoing, CutEnding, CutGoes, CutRun}

-- ---- A fault that is not the sink's

abbrev NotWrite : Fault → Type 0
NotWrite faults.Write = ⊥
NotWrite other = Unit {0}

still_held : (fault : Fault) (a b : Option (List ℕ)) → IsStill fault a b → b ≡ a
still_held faults.Write a b still = absurd still
still_held faults.Next a b still = still
still_held (faults.Txn fault) a b still = still
still_held faults.NoMemory a b still = still

one_held : {Own : Type 0} (Tells : Type 0) (accepts : List TableView → Bool) (fault : Fault) (a b : Option (List ℕ)) (old new : Seen Own) (e : Engine) → NotWrite fault → CutOne Tells accepts fault a b old new e → b ≡ a
one_held Tells accepts faults.Write a b old new e other cut = absurd other
one_held Tells accepts faults.Next a b old new e other cut = cut.0
one_held Tells accepts (faults.Txn fault) a b old new e other cut = cut.0
one_held Tells accepts faults.NoMemory a b old new e other cut = cut.0

start_held : {Own : Type 0} (Tells : Type 0) (fault : Fault) (a b : Option (List ℕ)) (old new : Seen Own) (e : Engine) → NotWrite fault → CutStart Tells fault a b old new e → b ≡ a
start_held Tells faults.Write a b old new e other cut = absurd other
start_held Tells faults.Next a b old new e other cut = absurd cut
start_held Tells (faults.Txn fault) a b old new e other cut = absurd cut
start_held Tells faults.NoMemory a b old new e other cut = cut.0

end_held : {Own : Type 0} (Tells : Type 0) (fault : Fault) (a b : Option (List ℕ)) (old new : Seen Own) (e : Engine) → NotWrite fault → CutEnd Tells fault a b old new e → b ≡ a
end_held Tells faults.Write a b old new e other cut = absurd other
end_held Tells faults.Next a b old new e other cut = cut.0
end_held Tells (faults.Txn fault) a b old new e other cut = cut.0
end_held Tells faults.NoMemory a b old new e other cut = cut.0

-- ---- Which goes on with the dialogue

-- a fault ended an event
one_fails : {Own : Type 0} (Tells : Type 0) (accepts : List TableView → Bool) (fault : Fault) (a b : Option (List ℕ)) (old new : Seen Own) (e : Engine) → NotWrite fault → CutOne Tells accepts fault a b old new e → FailsNext Tells accepts fault old new e
one_fails Tells accepts faults.Write a b old new e other cut = absurd other
one_fails Tells accepts faults.Next a b old new e other cut = cut.1
one_fails Tells accepts (faults.Txn fault) a b old new e other cut = cut.1
one_fails Tells accepts faults.NoMemory a b old new e other cut = cut.1

start_talks : {Own : Type 0} (Tells : Type 0) (fault : Fault) (a b : Option (List ℕ)) (old new : Seen Own) (e : Engine) → NotWrite fault → CutStart Tells fault a b old new e → KeepsTalking Tells old new
start_talks Tells faults.Write a b old new e other cut = absurd other
start_talks Tells faults.Next a b old new e other cut = absurd cut
start_talks Tells (faults.Txn fault) a b old new e other cut = absurd cut
start_talks Tells faults.NoMemory a b old new e other cut = cut.1

end_talks : {Own : Type 0} (Tells : Type 0) (fault : Fault) (a b : Option (List ℕ)) (old new : Seen Own) (e : Engine) → NotWrite fault → CutEnd Tells fault a b old new e → KeepsTalking Tells old new
end_talks Tells faults.Write a b old new e other cut = absurd other
end_talks Tells faults.Next a b old new e other cut = cut.1
end_talks Tells (faults.Txn fault) a b old new e other cut = cut.1
end_talks Tells faults.NoMemory a b old new e other cut = cut.1

-- ---- Behind which no quiescent point lies

start_quietly : {Own : Type 0} (Tells : Type 0) (fault : Fault) (a b : Option (List ℕ)) (old new : Seen Own) (e : Engine) → NotWrite fault → CutStart Tells fault a b old new e → NoPoint Tells (length e.apps) old new
start_quietly Tells faults.Write a b old new e other cut = absurd other
start_quietly Tells faults.Next a b old new e other cut = absurd cut
start_quietly Tells (faults.Txn fault) a b old new e other cut = absurd cut
start_quietly Tells faults.NoMemory a b old new e other cut = cut.2

end_quietly : {Own : Type 0} (Tells : Type 0) (fault : Fault) (a b : Option (List ℕ)) (old new : Seen Own) (e : Engine) → NotWrite fault → CutEnd Tells fault a b old new e → NoPoint Tells (length e.apps) old new
end_quietly Tells faults.Write a b old new e other cut = absurd other
end_quietly Tells faults.Next a b old new e other cut = cut.2
end_quietly Tells (faults.Txn fault) a b old new e other cut = cut.2
end_quietly Tells faults.NoMemory a b old new e other cut = cut.2

-- ---- A fault of what comes next, or of a switch

abbrev IsOutside : Fault → Type 0
IsOutside faults.Next = Unit {0}
IsOutside (faults.Txn fault) = Unit {0}
IsOutside other = ⊥

not_write : (fault : Fault) → IsOutside fault → NotWrite fault
not_write faults.Write out = absurd out
not_write faults.Next out = tt
not_write (faults.Txn fault) out = tt
not_write faults.NoMemory out = tt

may_be_short : (fault : Fault) → IsShort fault → Unit {0}
may_be_short fault short = tt

-- it is no want of memory
not_short : (fault : Fault) → IsOutside fault → IsShort fault → ⊥
not_short faults.Write out short = short
not_short faults.Next out short = short
not_short (faults.Txn fault) out short = short
not_short faults.NoMemory out short = absurd out

-- it comes at no start,
start_none : {Own : Type 0} (Tells : Type 0) (fault : Fault) (a b : Option (List ℕ)) (old new : Seen Own) (e : Engine) → IsOutside fault → CutStart Tells fault a b old new e → ⊥
start_none Tells faults.Write a b old new e out cut = absurd out
start_none Tells faults.Next a b old new e out cut = cut
start_none Tells (faults.Txn fault) a b old new e out cut = cut
start_none Tells faults.NoMemory a b old new e out cut = absurd out

-- and at an event only where an application has a turn at it
of_turn : (fault : Fault) (takes : Bool) → IsOutside fault → IsOfTurn fault takes → takes ≡ true
of_turn faults.Write takes out is = absurd out
of_turn faults.Next takes out is = is
of_turn (faults.Txn fault) takes out is = is
of_turn faults.NoMemory takes out is = absurd out

next_takes : {Own : Type 0} (Tells : Type 0) (accepts : List TableView → Bool) (fault : Fault) (old new : Seen Own) (e : Engine) → IsOutside fault → FailsNext Tells accepts fault old new e → takes_next e.apps e.queue ≡ true
next_takes Tells accepts fault old new e out next = ap (λ (q : List Event). takes_next e.apps q) next.waits ∙ of_turn fault (list_any (is_taking next.event) e.apps) out next.fails.of_turn

-- ---- What is supposed of a world that was opened, whose run stopped somewhere

record Supposed {Own : Type 0} (rules : List AppValue) (Tells : Type 0) (accepts : List TableView → Bool) (allows : List Place → Bool) (first stop seen : Seen Own) : Type 0 where
  told : Tells
  judges : JudgesAlike Own allows accepts
  opened : IsOpened first
  whole : Continues Tells first seen
  before : Continues Tells first stop
  later : Continues Tells stop seen
  talks : KeepsTalking Tells stop seen
  quiet : NoneQuiescentSince stop seen
  none_moves : NoneMoves Tells stop seen
  own : CallsAmong (length rules) first seen

-- A point from which the run went on to where it stopped: in a world that tells in order this kept its word as far as there, and no
-- quiescent point lies behind; and what was left of the tables.
record IsStop {Own : Type 0} (rules : List AppValue) (Tells Short : Type 0) (first last stop : Seen Own) : Type 0 where
  before : Continues Tells first last
  on : Continues Tells last stop
  keeps : InOrder last → Conforming last
  quiet : Conforming last → InOrder stop → IsLastPoint last stop
  left : Conforming last → InOrder stop → TurnsBehind rules Short last stop

-- the later ones of such calls
later_among : (number : ℕ) (front later : List WorldStep) → AllByRecursion (IsCallAmong number) (front ++ later) → AllByRecursion (IsCallAmong number) later
later_among number [] later all = all
later_among number (step ∷ front) later all = later_among number front later all.1

calls_behind : {Own : Type 0} {Tells : Type 0} {number : ℕ} (first last seen : Seen Own) → Tells → Continues Tells first last → Continues Tells last seen → CallsAmong number first seen → CallsAmong number last seen
calls_behind {number = number} first last seen told before later calls =
    let front = before.told told in
    let more = later.told told in
    let same : calls.steps ≡ front.0 ++ more.0 = append_cancel_left first.history calls.steps (front.0 ++ more.0) (sym calls.history ∙ more.1 ∙ ap (λ (h : List WorldStep). h ++ more.0) front.1 ∙ append_assoc first.history front.0 more.0) in
    record { steps = more.0; history = more.1; all = later_among number front.0 more.0 (subst (λ (steps : List WorldStep). AllByRecursion (IsCallAmong number) steps) same calls.all) }

-- up to such a point
cut_at : {Own : Type 0} {Tells Short : Type 0} {accepts : List TableView → Bool} {allows : List Place → Bool} (rules : List AppValue) (Alike : Seen Own → Type 0) (first stop seen : Seen Own) (p : Supposed rules Tells accepts allows first stop seen) (last : Seen Own) → IsStop rules Tells Short first last stop
    → (Conforming last → (i : ℕ) → i < length rules → AtOnce i (journal stop.history)) → (Conforming last → Alike last) → CutAt rules Short Alike seen
cut_at {Tells = Tells} rules Alike first stop seen p last is said so =
    let later = Continues-trans Tells last stop seen is.on p.later in
    record {
      last = last;
      given = later.given;
      later = later.told p.told;
      alike = so;
      at_once = λ keeps i few. p.talks.talks p.told i (said keeps i few);
      messages = λ order. messages-of last (is.keeps (InOrder-before p.told later order));
      last_point = λ order. last_point_then (is.quiet (is.keeps (InOrder-before p.told later order)) (InOrder-before p.told p.later order)) (no_point_of p.quiet);
      no_other_called = calls_behind first last seen p.told is.before later p.own;
      tables = λ order.
          behind_then last stop seen p.told is.on p.later (p.talks.no_event p.told) (p.none_moves.releases p.told) (p.none_moves.stay p.told) (is.left (is.keeps (InOrder-before p.told later order)) (InOrder-before p.told p.later order));
    }

-- up to where it stopped
writing_at : {Own : Type 0} {Tells : Type 0} {accepts : List TableView → Bool} {allows : List Place → Bool} (rules : List AppValue) (a b : Option (List ℕ)) (first stop seen : Seen Own) (p : Supposed rules Tells accepts allows first stop seen) → (InOrder stop → Conforming stop) → (Conforming stop → CutInLines rules allows stop a b)
    → CutWriting rules allows seen a b
writing_at rules a b first stop seen p keeps so = record {
  last = stop;
  given = p.later.given;
  later = p.later.told p.told;
  alike = so;
  at_once = λ keeps i few. p.talks.talks p.told i ((so keeps).run.up_to.at_once i few);
  messages = λ order. messages-of stop (keeps (InOrder-before p.told p.later order));
  last_point = λ order. last_point_of (last_quiescent-of p.quiet);
  no_other_called = calls_behind first stop seen p.told p.before p.later p.own;
  tables = λ order. inl (inl (p.talks.no_event p.told));
}

-- each application speaks so where all is at rest
speaks : {Own : Type 0} (rules : List AppValue) (seen : Seen Own) (e : Engine) → AtRest seen e → rules_of e ≡ rules → (i : ℕ) → i < length rules → AtOnce i (journal seen.history)
speaks rules seen e rest same = each-at-once seen e (length rules) rest (count-of rules e same)

-- and so it is behind what goes on with the dialogues
speaks_on : {Own : Type 0} {Tells : Type 0} (rules : List AppValue) (old new : Seen Own) (e : Engine) → Tells → KeepsTalking Tells old new → AtRest old e → rules_of e ≡ rules → (i : ℕ) → i < length rules → AtOnce i (journal new.history)
speaks_on rules old new e told talks rest same i few = talks.talks told i (speaks rules old e rest same i few)

-- the policy is the same one
gone_rules : {Own : Type 0} {rules : List AppValue} {allows : List Place → Bool} {started : Bool} {number : ℕ} {text : List ℕ} {first last : Seen Own} {e : Engine} → GoneSoFar allows started number text first last (engine_at_first rules) e → rules_of e ≡ rules
gone_rules {rules = rules} gone = gone.moved.moves.rules ∙ rules-first rules

-- and the next event was given to no application yet
abbrev within_none : {Own : Type 0} {allows : List Place → Bool} {number : ℕ} {text : List ℕ} {first last : Seen Own} {e now_e : Engine} → GoneSoFar allows true number text first last e now_e → GoneWithin allows number 0 text first last e now_e
within_none {last = last} {now_e = now_e} gone = record { here = last; here_engine = now_e; gone = gone; more = []; partly = moved-none last now_e gone.moved.settled }

-- ---- The start

start_alike : {Own : Type 0} {Tells : Type 0} {accepts : List TableView → Bool} {allows : List Place → Bool} {number : ℕ} {a b : Option (List ℕ)} {first stop seen : Seen Own} (rules : List AppValue) (p : Supposed rules Tells accepts allows first stop seen) → b ≡ a → KeepsTalking Tells first stop → NoPoint Tells number first stop → CutAlike rules allows seen a b
start_alike {Tells = Tells} {allows = allows} {a = a} {b = b} {first = first} {stop = stop} {seen = seen} rules p same talks no_point =
    let is : IsStop rules Tells (Unit {0}) first first stop = record { before = Continues-refl Tells first; on = p.before; keeps = keeps_first first p.opened; quiet = λ keeps order. last_point_of (last_quiescent-of (no_point.none_quiescent p.told)); left = λ keeps order. inl (inl (talks.no_event p.told)) } in
    cut_at rules (λ (last : Seen _). CutForMemory rules allows seen last a b) first stop seen p first is (λ keeps. speaks_on rules first stop (engine_at_first rules) p.told talks (settled-first rules first p.opened) (rules-first rules)) (λ keeps.
    none-so rules allows a b first seen p.opened (settled-first rules first p.opened) keeps (none-happened first seen (none_since-then (no_point.none_quiescent p.told) p.quiet) ∙ no-stimuli first p.opened) same)

start_writing : {Own : Type 0} {rules : List AppValue} {Tells : Type 0} {accepts : List TableView → Bool} {allows : List Place → Bool} {a b : Option (List ℕ)} {first stop seen : Seen Own} (p : Supposed rules Tells accepts allows first stop seen) → StartPart Tells a b first stop (engine_at_first rules) → CutWriting rules allows seen a b
start_writing {rules = rules} {allows = allows} {a = a} {b = b} {first = first} {stop = stop} {seen = seen} p cut =
    writing_at rules a b first stop seen p (keeps_to first stop p.told p.opened p.before cut.reads) (λ keeps.
    start-so rules allows cut.more a b first stop cut.now_engine p.opened (cut.shown.moved p.told keeps (settled-first rules first p.opened)) keeps cut.part)

-- ---- Rounds

begun_moved : {Own : Type 0} {rules : List AppValue} {Tells : Type 0} {accepts : List TableView → Bool} {allows : List Place → Bool} {fault : Fault} {a b : Option (List ℕ)} {first stop seen : Seen Own} (p : Supposed rules Tells accepts allows first stop seen) (g : CutGoing Tells accepts fault a b first stop (engine_at_first rules)) → Conforming g.rounds.mid → Moved [] all_started g.text first g.begun (engine_at_first rules) (engine_of g.begun_run)
begun_moved {rules = rules} {first = first} p g keeps = g.starts.moved p.told (Conforming-before p.told g.rounds.on keeps) (settled-first rules first p.opened)

rounds_moved : {Own : Type 0} {rules : List AppValue} {Tells : Type 0} {accepts : List TableView → Bool} {allows : List Place → Bool} {fault : Fault} {a b : Option (List ℕ)} {first stop seen : Seen Own} (p : Supposed rules Tells accepts allows first stop seen) (g : CutGoing Tells accepts fault a b first stop (engine_at_first rules)) → Conforming g.rounds.mid → Rounds allows g.rounds.number g.rounds.rounds.text g.begun g.rounds.mid (engine_of g.begun_run) (engine_of g.rounds.mid_run)
rounds_moved {allows = allows} p g keeps = g.rounds.rounds.shown.rounds_is allows p.told keeps p.judges (begun_moved p g keeps).settled

rounds_held : {Own : Type 0} {rules : List AppValue} {Tells : Type 0} {accepts : List TableView → Bool} {allows : List Place → Bool} {fault : Fault} {a b : Option (List ℕ)} {first stop seen : Seen Own} (p : Supposed rules Tells accepts allows first stop seen) (g : CutGoing Tells accepts fault a b first stop (engine_at_first rules)) → g.rounds.held ≡ append_known a (g.text ++ g.rounds.rounds.text)
rounds_held {a = a} p g = (writes_then g.text g.rounds.rounds.text a g.held g.rounds.held g.begun_run.core g.rounds.mid_run.core g.writes g.rounds.rounds.writes).written

rounds_gone : {Own : Type 0} {rules : List AppValue} {Tells : Type 0} {accepts : List TableView → Bool} {allows : List Place → Bool} {fault : Fault} {a b : Option (List ℕ)} {first stop seen : Seen Own} (p : Supposed rules Tells accepts allows first stop seen) (g : CutGoing Tells accepts fault a b first stop (engine_at_first rules)) → Conforming g.rounds.mid → GoneSoFar allows true 0 (g.text ++ g.rounds.rounds.text) first g.rounds.mid (engine_at_first rules) (engine_of g.rounds.mid_run)
rounds_gone {rules = rules} {allows = allows} {first = first} p g keeps =
    gone-rounds allows g.rounds.number g.text g.rounds.rounds.text first g.begun g.rounds.mid (engine_at_first rules) (engine_of g.begun_run) (engine_of g.rounds.mid_run) (begun_moved p g keeps) (rounds_moved p g keeps)

-- a batch more
batch_gone : {Own : Type 0} {rules : List AppValue} {Tells : Type 0} {accepts : List TableView → Bool} {allows : List Place → Bool} {fault : Fault} {a b : Option (List ℕ)} {first stop seen : Seen Own} (p : Supposed rules Tells accepts allows first stop seen) (g : CutGoing Tells accepts fault a b first stop (engine_at_first rules)) (rest : Rest) (noted : List ℕ) (behind : Seen Own) (e : Engine) → Conforming g.rounds.mid → Conforming behind → IsBatch Tells rest noted g.rounds.mid behind (engine_of g.rounds.mid_run) e → GoneSoFar allows true 0 ((g.text ++ g.rounds.rounds.text) ++ noted) first behind (engine_at_first rules) e
batch_gone {rules = rules} {allows = allows} {first = first} p g rests.Idle noted behind e keeps_mid keeps batch =
    gone-happens allows g.rounds.number g.text g.rounds.rounds.text noted first g.begun g.rounds.mid behind (engine_at_first rules) (engine_of g.begun_run) (engine_of g.rounds.mid_run) e (begun_moved p g keeps_mid) (rounds_moved p g keeps_mid)
    (batch.happens p.told keeps (rounds_moved p g keeps_mid).moved.settled)
batch_gone {rules = rules} {allows = allows} {first = first} p g rests.End noted behind e keeps_mid keeps batch =
    let settled = (rounds_moved p g keeps_mid).moved.settled in
    let none : noted ≡ [] = batch.none_noted p.told keeps settled in
    subst (λ (text : List ℕ). GoneSoFar allows true 0 text first behind (engine_at_first rules) e) (sym (ap (λ (xs : List ℕ). (g.text ++ g.rounds.rounds.text) ++ xs) none ∙ append-nil (g.text ++ g.rounds.rounds.text)))
    (gone-still allows true 0 (g.text ++ g.rounds.rounds.text) first g.rounds.mid behind (engine_at_first rules) (engine_of g.rounds.mid_run) e (rounds_gone p g keeps_mid)
    (subst (λ (text : List ℕ). Moved [] (λ (r : ModelRun). r) text g.rounds.mid behind (engine_of g.rounds.mid_run) e) none (batch.over.moved p.told keeps settled)))

-- and events behind it
behind_gone : {Own : Type 0} {rules : List AppValue} {Tells : Type 0} {accepts : List TableView → Bool} {allows : List Place → Bool} {fault : Fault} {a b : Option (List ℕ)} {first stop seen : Seen Own} (p : Supposed rules Tells accepts allows first stop seen) (g : CutGoing Tells accepts fault a b first stop (engine_at_first rules)) (h : CutBehind Tells accepts fault g.rounds.held b g.rounds.mid stop g.rounds.mid_run) → Conforming h.mid → GoneSoFar allows true 0 ((g.text ++ g.rounds.rounds.text) ++ h.noted) first h.mid (engine_at_first rules) (engine_of h.mid_run)
behind_gone p g h keeps = batch_gone p g h.rest h.noted h.mid (engine_of h.mid_run) (Conforming-before p.told h.first keeps) keeps h.batch

some_gone : {Own : Type 0} {rules : List AppValue} {Tells : Type 0} {accepts : List TableView → Bool} {allows : List Place → Bool} {fault : Fault} {a b : Option (List ℕ)} {first stop seen : Seen Own} (p : Supposed rules Tells accepts allows first stop seen) (g : CutGoing Tells accepts fault a b first stop (engine_at_first rules)) (h : CutBehind Tells accepts fault g.rounds.held b g.rounds.mid stop g.rounds.mid_run) → Conforming h.some.mid → GoneSoFar allows true h.some.number (((g.text ++ g.rounds.rounds.text) ++ h.noted) ++ h.some.some.text) first h.some.mid (engine_at_first rules) (engine_of h.some.mid_run)
some_gone {rules = rules} {allows = allows} {first = first} p g h keeps =
    let before = behind_gone p g h (Conforming-before p.told h.some.on keeps) in
    gone-more allows true h.some.number ((g.text ++ g.rounds.rounds.text) ++ h.noted) h.some.some.text first h.mid h.some.mid (engine_at_first rules) (engine_of h.mid_run) (engine_of h.some.mid_run) before
    (h.some.some.shown.moved allows p.told keeps p.judges before.moved.settled)

noted_held : {Own : Type 0} {rules : List AppValue} {Tells : Type 0} {accepts : List TableView → Bool} {allows : List Place → Bool} {fault : Fault} {a b : Option (List ℕ)} {first stop seen : Seen Own} (p : Supposed rules Tells accepts allows first stop seen) (g : CutGoing Tells accepts fault a b first stop (engine_at_first rules)) (h : CutBehind Tells accepts fault g.rounds.held b g.rounds.mid stop g.rounds.mid_run) → h.held ≡ append_known a ((g.text ++ g.rounds.rounds.text) ++ h.noted)
noted_held {a = a} p g h = h.written ∙ ap (λ (o : Option (List ℕ)). append_known o h.noted) (rounds_held p g) ∙ sym (append_known-append a (g.text ++ g.rounds.rounds.text) h.noted)

some_held : {Own : Type 0} {rules : List AppValue} {Tells : Type 0} {accepts : List TableView → Bool} {allows : List Place → Bool} {fault : Fault} {a b : Option (List ℕ)} {first stop seen : Seen Own} (p : Supposed rules Tells accepts allows first stop seen) (g : CutGoing Tells accepts fault a b first stop (engine_at_first rules)) (h : CutBehind Tells accepts fault g.rounds.held b g.rounds.mid stop g.rounds.mid_run) → h.some.held ≡ append_known a (((g.text ++ g.rounds.rounds.text) ++ h.noted) ++ h.some.some.text)
some_held {a = a} p g h =
    h.some.some.writes.written ∙ ap (λ (o : Option (List ℕ)). append_known o h.some.some.text) (noted_held p g h) ∙ sym (append_known-append a ((g.text ++ g.rounds.rounds.text) ++ h.noted) h.some.some.text)

-- what came up to there was read
rounds_on : {Own : Type 0} {rules : List AppValue} {Tells : Type 0} {accepts : List TableView → Bool} {allows : List Place → Bool} {fault : Fault} {a b : Option (List ℕ)} {first stop seen : Seen Own} (p : Supposed rules Tells accepts allows first stop seen) (g : CutGoing Tells accepts fault a b first stop (engine_at_first rules)) → Continues Tells first g.rounds.mid
rounds_on {Tells = Tells} {first = first} p g = Continues-trans Tells first g.begun g.rounds.mid g.first g.rounds.on

rounds_read : {Own : Type 0} {rules : List AppValue} {Tells : Type 0} {accepts : List TableView → Bool} {allows : List Place → Bool} {fault : Fault} {a b : Option (List ℕ)} {first stop seen : Seen Own} (p : Supposed rules Tells accepts allows first stop seen) (g : CutGoing Tells accepts fault a b first stop (engine_at_first rules)) → Reads Tells first g.rounds.mid net_at_first g.rounds.mid_run.core.net
rounds_read {first = first} p g = reads_then first g.begun g.rounds.mid net_at_first g.begun_run.core.net g.rounds.mid_run.core.net g.first g.rounds.on g.starts_read g.rounds.reads

some_on : {Own : Type 0} {rules : List AppValue} {Tells : Type 0} {accepts : List TableView → Bool} {allows : List Place → Bool} {fault : Fault} {a b : Option (List ℕ)} {first stop seen : Seen Own} (p : Supposed rules Tells accepts allows first stop seen) (g : CutGoing Tells accepts fault a b first stop (engine_at_first rules)) (h : CutBehind Tells accepts fault g.rounds.held b g.rounds.mid stop g.rounds.mid_run) → Continues Tells first h.some.mid
some_on {Tells = Tells} {first = first} p g h = Continues-trans Tells first h.mid h.some.mid (Continues-trans Tells first g.rounds.mid h.mid (rounds_on p g) h.first) h.some.on

some_read : {Own : Type 0} {rules : List AppValue} {Tells : Type 0} {accepts : List TableView → Bool} {allows : List Place → Bool} {fault : Fault} {a b : Option (List ℕ)} {first stop seen : Seen Own} (p : Supposed rules Tells accepts allows first stop seen) (g : CutGoing Tells accepts fault a b first stop (engine_at_first rules)) (h : CutBehind Tells accepts fault g.rounds.held b g.rounds.mid stop g.rounds.mid_run) → Reads Tells first h.some.mid net_at_first h.some.mid_run.core.net
some_read {Tells = Tells} {first = first} p g h =
    let behind = reads_then first g.rounds.mid h.mid net_at_first g.rounds.mid_run.core.net h.mid_run.core.net (rounds_on p g) h.first (rounds_read p g) h.reads in
    reads_then first h.mid h.some.mid net_at_first h.mid_run.core.net h.some.mid_run.core.net (Continues-trans Tells first g.rounds.mid h.mid (rounds_on p g) h.first) h.some.on behind h.some.reads

-- a fault ended what comes next, which leaves no quiescent point behind
round_stop : {Own : Type 0} {rules : List AppValue} {Tells Short : Type 0} {accepts : List TableView → Bool} {allows : List Place → Bool} {number : ℕ} {fault : Fault} {a b : Option (List ℕ)} {first stop seen : Seen Own} (p : Supposed rules Tells accepts allows first stop seen) (g : CutGoing Tells accepts fault a b first stop (engine_at_first rules)) → KeepsTalking Tells g.rounds.mid stop → StopsBatch Tells number g.rounds.mid stop g.rounds.mid_run.core.net → IsStop rules Tells Short first g.rounds.mid stop
round_stop {first = first} {stop = stop} {seen = seen} p g talks stops = record {
  before = rounds_on p g;
  on = g.rounds.later;
  keeps = keeps_to first g.rounds.mid p.told p.opened (rounds_on p g) (rounds_read p g);
  quiet = λ keeps order.
      let calm = (rounds_gone p g keeps).moved.settled.calm in
      (stops.here calm.kept).last p.told order (calm_rest g.rounds.mid g.rounds.mid_run.core.net keeps calm);
  left = λ keeps order. inl (inl (talks.no_event p.told));
}

-- A fault ended an event: the point is the one before the turn in which it did so, behind those before it.
some_to : {Own : Type 0} {rules : List AppValue} {Tells : Type 0} {accepts : List TableView → Bool} {allows : List Place → Bool} {fault : Fault} {a b : Option (List ℕ)} {first stop seen : Seen Own} (p : Supposed rules Tells accepts allows first stop seen) (g : CutGoing Tells accepts fault a b first stop (engine_at_first rules)) (h : CutBehind Tells accepts fault g.rounds.held b g.rounds.mid stop g.rounds.mid_run) (next : FailsNext Tells accepts fault h.some.mid stop (engine_of h.some.mid_run)) → Conforming next.fails.mid
    → GoneSoFar allows true h.some.number (((g.text ++ g.rounds.rounds.text) ++ h.noted) ++ h.some.some.text) first h.some.mid (engine_at_first rules) (engine_of h.some.mid_run)
some_to p g h next keeps = some_gone p g h (Conforming-before p.told next.fails.on keeps)

some_partly : {Own : Type 0} {rules : List AppValue} {Tells : Type 0} {accepts : List TableView → Bool} {allows : List Place → Bool} {fault : Fault} {a b : Option (List ℕ)} {first stop seen : Seen Own} (p : Supposed rules Tells accepts allows first stop seen) (g : CutGoing Tells accepts fault a b first stop (engine_at_first rules)) (h : CutBehind Tells accepts fault g.rounds.held b g.rounds.mid stop g.rounds.mid_run) (next : FailsNext Tells accepts fault h.some.mid stop (engine_of h.some.mid_run)) → Conforming next.fails.mid
    → PartlyGone allows h.some.mid next.fails.mid (engine_of h.some.mid_run) next.fails.mid_engine
some_partly {Tells = Tells} {accepts = accepts} {allows = allows} {fault = fault} {stop = stop} p g h next keeps =
    partly_gone Tells accepts allows fault h.some.mid stop (engine_of h.some.mid_run) next p.told keeps p.judges (some_to p g h next keeps).moved.settled

abbrev some_within : {Own : Type 0} {rules : List AppValue} {Tells : Type 0} {accepts : List TableView → Bool} {allows : List Place → Bool} {fault : Fault} {a b : Option (List ℕ)} {first stop seen : Seen Own} (p : Supposed rules Tells accepts allows first stop seen) (g : CutGoing Tells accepts fault a b first stop (engine_at_first rules)) (h : CutBehind Tells accepts fault g.rounds.held b g.rounds.mid stop g.rounds.mid_run) (next : FailsNext Tells accepts fault h.some.mid stop (engine_of h.some.mid_run)) (keeps : Conforming next.fails.mid)
    → GoneWithin allows h.some.number (some_partly p g h next keeps).given (((g.text ++ g.rounds.rounds.text) ++ h.noted) ++ h.some.some.text) first next.fails.mid (engine_at_first rules) (some_partly p g h next keeps).now_engine
some_within p g h next keeps =
    let partly = some_partly p g h next keeps in
    record { here = h.some.mid; here_engine = engine_of h.some.mid_run; gone = some_to p g h next keeps; more = partly.more; partly = partly.partly }

fails_rules : {Own : Type 0} {rules : List AppValue} {Tells : Type 0} {accepts : List TableView → Bool} {allows : List Place → Bool} {fault : Fault} {a b : Option (List ℕ)} {first stop seen : Seen Own} (p : Supposed rules Tells accepts allows first stop seen) (g : CutGoing Tells accepts fault a b first stop (engine_at_first rules)) (h : CutBehind Tells accepts fault g.rounds.held b g.rounds.mid stop g.rounds.mid_run) (next : FailsNext Tells accepts fault h.some.mid stop (engine_of h.some.mid_run)) → Conforming next.fails.mid
    → rules_of next.fails.mid_engine ≡ rules
fails_rules p g h next keeps = (some_partly p g h next keeps).rules ∙ gone_rules (some_to p g h next keeps)

fails_on : {Own : Type 0} {rules : List AppValue} {Tells : Type 0} {accepts : List TableView → Bool} {allows : List Place → Bool} {fault : Fault} {a b : Option (List ℕ)} {first stop seen : Seen Own} (p : Supposed rules Tells accepts allows first stop seen) (g : CutGoing Tells accepts fault a b first stop (engine_at_first rules)) (h : CutBehind Tells accepts fault g.rounds.held b g.rounds.mid stop g.rounds.mid_run) (next : FailsNext Tells accepts fault h.some.mid stop (engine_of h.some.mid_run)) → Continues Tells first next.fails.mid
fails_on {Tells = Tells} {first = first} p g h next = Continues-trans Tells first h.some.mid next.fails.mid (some_on p g h) next.fails.on

some_stop : {Own : Type 0} {rules : List AppValue} {Tells Other : Type 0} {accepts : List TableView → Bool} {allows : List Place → Bool} {fault : Fault} {a b : Option (List ℕ)} {first stop seen : Seen Own} (p : Supposed rules Tells accepts allows first stop seen) (g : CutGoing Tells accepts fault a b first stop (engine_at_first rules)) (h : CutBehind Tells accepts fault g.rounds.held b g.rounds.mid stop g.rounds.mid_run) (next : FailsNext Tells accepts fault h.some.mid stop (engine_of h.some.mid_run)) → (IsShort fault → Other) → IsStop rules Tells Other first next.fails.mid stop
some_stop {rules = rules} {fault = fault} {first = first} {stop = stop} {seen = seen} p g h next short =
    let f = next.fails in
    record {
      before = fails_on p g h next;
      on = f.later;
      keeps = keeps_to first f.mid p.told p.opened (fails_on p g h next) (reads_then first h.some.mid f.mid net_at_first h.some.mid_run.core.net f.mid_engine.net (some_on p g h) f.on (some_read p g h) f.reads);
      quiet = λ keeps order. f.within.here.last p.told order (calm_rest f.mid f.mid_engine.net keeps (some_partly p g h next keeps).rest.calm);
      left = λ keeps order.
          let rest = (some_partly p g h next keeps).rest in
          behind_for short (subst (λ (rs : List AppValue). TurnsBehind rs (IsShort fault) f.mid stop) (fails_rules p g h next keeps) (f.within.left.left p.told keeps order rest.calm.ready rest.each));
    }

some_speaks : {Own : Type 0} {rules : List AppValue} {Tells : Type 0} {accepts : List TableView → Bool} {allows : List Place → Bool} {fault : Fault} {a b : Option (List ℕ)} {first stop seen : Seen Own} (p : Supposed rules Tells accepts allows first stop seen) (g : CutGoing Tells accepts fault a b first stop (engine_at_first rules)) (h : CutBehind Tells accepts fault g.rounds.held b g.rounds.mid stop g.rounds.mid_run) (next : FailsNext Tells accepts fault h.some.mid stop (engine_of h.some.mid_run)) → Conforming next.fails.mid
    → (i : ℕ) → i < length rules → AtOnce i (journal stop.history)
some_speaks {rules = rules} p g h next keeps i few =
    let f = next.fails in
    f.within.talks.talks p.told (some_partly p g h next keeps).rest.each i (subst (λ (n : ℕ). i < n) (sym (count-of rules f.mid_engine (fails_rules p g h next keeps))) few)

-- a fault that is not the sink's ends no lines of a batch
noted_none : {Own : Type 0} (Tells : Type 0) (accepts : List TableView → Bool) (fault : Fault) (a b : Option (List ℕ)) (old new : Seen Own) (r : Run) → NotWrite fault → CutNoted Tells accepts fault a b old new r → ⊥
noted_none Tells accepts faults.Write a b old new r other cut = absurd other
noted_none Tells accepts faults.Next a b old new r other cut = cut
noted_none Tells accepts (faults.Txn fault) a b old new r other cut = cut
noted_none Tells accepts faults.NoMemory a b old new r other cut = cut

round_alike : {Own : Type 0} {rules : List AppValue} {Tells : Type 0} {accepts : List TableView → Bool} {allows : List Place → Bool} {fault : Fault} {a b : Option (List ℕ)} {first stop seen : Seen Own} (p : Supposed rules Tells accepts allows first stop seen) (g : CutGoing Tells accepts fault a b first stop (engine_at_first rules)) → NotWrite fault → CutRound Tells accepts fault g.rounds.held b g.rounds.mid stop g.rounds.mid_run → CutAlike rules allows seen a b
round_alike {rules = rules} {allows = allows} {fault = fault} {a = a} {b = b} {first = first} {stop = stop} {seen = seen} p g other (inl still) =
    cut_at rules (λ (last : Seen _). CutForMemory rules allows seen last a b) first stop seen p g.rounds.mid (round_stop p g still.1 still.2)
    (λ keeps. speaks_on rules g.rounds.mid stop (engine_of g.rounds.mid_run) p.told still.1 (rounds_gone p g keeps).moved.settled (gone_rules (rounds_gone p g keeps))) (λ keeps.
    some-so rules allows 0 0 (g.text ++ g.rounds.rounds.text) a b first g.rounds.mid seen (engine_of g.rounds.mid_run) p.opened (within_none (rounds_gone p g keeps)) (omega arith) keeps
    (still_held fault g.rounds.held b still.0 ∙ rounds_held p g))
round_alike {rules = rules} {Tells = Tells} {accepts = accepts} {allows = allows} {fault = fault} {a = a} {b = b} {first = first} {stop = stop} {seen = seen} p g other (inr (inl h)) =
    let next = one_fails Tells accepts fault h.some.held b h.some.mid stop (engine_of h.some.mid_run) other h.some.one in
    cut_at rules (λ (last : Seen _). CutForMemory rules allows seen last a b) first stop seen p next.fails.mid (some_stop p g h next (may_be_short fault)) (some_speaks p g h next) (λ keeps.
    some-so rules allows h.some.number (some_partly p g h next keeps).given (((g.text ++ g.rounds.rounds.text) ++ h.noted) ++ h.some.some.text) a b first next.fails.mid seen (some_partly p g h next keeps).now_engine p.opened (some_within p g h next keeps) (omega (arith, h.some.few)) keeps
    (one_held Tells accepts fault h.some.held b h.some.mid stop (engine_of h.some.mid_run) other h.some.one ∙ some_held p g h))
round_alike {Tells = Tells} {fault = fault} {b = b} {stop = stop} p g other (inr (inr noted)) = absurd (noted_none Tells _ fault g.rounds.held b g.rounds.mid stop g.rounds.mid_run other noted)

round_lines : {Own : Type 0} {rules : List AppValue} {Tells : Type 0} {accepts : List TableView → Bool} {allows : List Place → Bool} {fault : Fault} {a b : Option (List ℕ)} {first stop seen : Seen Own} (p : Supposed rules Tells accepts allows first stop seen) (g : CutGoing Tells accepts fault a b first stop (engine_at_first rules)) → IsOutside fault → CutRound Tells accepts fault g.rounds.held b g.rounds.mid stop g.rounds.mid_run → CutWithLines rules allows seen a b
round_lines {rules = rules} {allows = allows} {fault = fault} {a = a} {b = b} {first = first} {stop = stop} {seen = seen} p g out (inl still) =
    cut_at rules (λ (last : Seen _). CutBehindLines rules allows last a b) first stop seen p g.rounds.mid (round_stop p g still.1 still.2)
    (λ keeps. speaks_on rules g.rounds.mid stop (engine_of g.rounds.mid_run) p.told still.1 (rounds_gone p g keeps).moved.settled (gone_rules (rounds_gone p g keeps))) (λ keeps.
    rounds-so rules allows g.rounds.number g.text g.rounds.rounds.text a b first g.begun g.rounds.mid (engine_of g.begun_run) (engine_of g.rounds.mid_run) p.opened (begun_moved p g keeps) (rounds_moved p g keeps) keeps
    (still_held fault g.rounds.held b still.0 ∙ rounds_held p g))
round_lines {rules = rules} {Tells = Tells} {accepts = accepts} {allows = allows} {fault = fault} {a = a} {b = b} {first = first} {stop = stop} {seen = seen} p g out (inr (inl h)) =
    let other = not_write fault out in
    let next = one_fails Tells accepts fault h.some.held b h.some.mid stop (engine_of h.some.mid_run) other h.some.one in
    cut_at rules (λ (last : Seen _). CutBehindLines rules allows last a b) first stop seen p next.fails.mid (some_stop p g h next (not_short fault out)) (some_speaks p g h next) (λ keeps.
    lines-so rules allows h.some.number (some_partly p g h next keeps).given (((g.text ++ g.rounds.rounds.text) ++ h.noted) ++ h.some.some.text) a b first next.fails.mid (some_partly p g h next keeps).now_engine p.opened (some_within p g h next keeps) (omega (arith, h.some.few))
    (inr (inr (next_takes Tells accepts fault h.some.mid stop (engine_of h.some.mid_run) out next))) keeps
    (one_held Tells accepts fault h.some.held b h.some.mid stop (engine_of h.some.mid_run) other h.some.one ∙ some_held p g h))
round_lines {Tells = Tells} {fault = fault} {b = b} {stop = stop} p g out (inr (inr noted)) = absurd (noted_none Tells _ fault g.rounds.held b g.rounds.mid stop g.rounds.mid_run (not_write fault out) noted)

-- the sink failed at what a batch noted: it had a stimulus, since the last one notes nothing
noted_lines : {Own : Type 0} {rules : List AppValue} {Tells : Type 0} {accepts : List TableView → Bool} {allows : List Place → Bool} {a b : Option (List ℕ)} {first stop seen : Seen Own} (p : Supposed rules Tells accepts allows first stop seen) (g : CutGoing Tells accepts faults.Write a b first stop (engine_at_first rules)) (rest : Rest) (noted : List ℕ) (e : Engine) → IsBatch Tells rest noted g.rounds.mid stop (engine_of g.rounds.mid_run) e
    → (noted ≡ [] → ⊥) → TookPart g.rounds.held b noted → Conforming stop → CutInLines rules allows stop a b
noted_lines {rules = rules} {allows = allows} {a = a} {b = b} {first = first} {stop = stop} p g rests.Idle noted e batch some part keeps =
    let keeps_mid = Conforming-before p.told g.rounds.later keeps in
    let gone = gone-rounds allows g.rounds.number g.text g.rounds.rounds.text first g.begun g.rounds.mid (engine_at_first rules) (engine_of g.begun_run) (engine_of g.rounds.mid_run) (begun_moved p g keeps_mid) (rounds_moved p g keeps_mid) in
    loss-so rules allows (g.text ++ g.rounds.rounds.text) noted a b first g.rounds.mid stop (engine_of g.rounds.mid_run) e p.opened gone refl (batch.happens p.told keeps (rounds_moved p g keeps_mid).moved.settled) keeps
    (subst (λ (held : Option (List ℕ)). TookPart held b noted) (rounds_held p g) part)
noted_lines p g rests.End noted e batch some part keeps = absurd (some (batch.none_noted p.told keeps (rounds_moved p g (Conforming-before p.told g.rounds.later keeps)).moved.settled))

round_writing : {Own : Type 0} {rules : List AppValue} {Tells : Type 0} {accepts : List TableView → Bool} {allows : List Place → Bool} {a b : Option (List ℕ)} {first stop seen : Seen Own} (p : Supposed rules Tells accepts allows first stop seen) (g : CutGoing Tells accepts faults.Write a b first stop (engine_at_first rules)) → CutRound Tells accepts faults.Write g.rounds.held b g.rounds.mid stop g.rounds.mid_run → CutWriting rules allows seen a b
round_writing p g (inl still) = absurd still.0
round_writing {rules = rules} {allows = allows} {a = a} {b = b} {first = first} {stop = stop} {seen = seen} p g (inr (inl h)) =
    let one = h.some.one in
    let reads = reads_then first h.some.mid stop net_at_first h.some.mid_run.core.net one.now_engine.net (some_on p g h) h.some.later (some_read p g h) one.reads in
    writing_at rules a b first stop seen p (keeps_to first stop p.told p.opened p.before reads) (λ keeps.
    let gone = some_gone p g h (Conforming-before p.told h.some.later keeps) in
    event-so rules allows h.some.number (((g.text ++ g.rounds.rounds.text) ++ h.noted) ++ h.some.some.text) one.more a b first h.some.mid stop (engine_of h.some.mid_run) one.now_engine p.opened gone
    (one.shown.moved allows p.told keeps p.judges gone.moved.settled) h.some.few keeps
    (subst (λ (held : Option (List ℕ)). TookPart held b one.more) (some_held p g h) one.part))
round_writing {rules = rules} {allows = allows} {a = a} {b = b} {first = first} {stop = stop} {seen = seen} p g (inr (inr h)) =
    let reads = reads_then first g.rounds.mid stop net_at_first g.rounds.mid_run.core.net h.now_run.core.net (rounds_on p g) g.rounds.later (rounds_read p g) h.reads in
    writing_at rules a b first stop seen p (keeps_to first stop p.told p.opened p.before reads) (λ keeps. noted_lines p g h.rest h.noted (engine_of h.now_run) h.batch h.some h.part keeps)

-- ---- The end

-- so many events were dispatched behind the last stimulus
last_gone : {Own : Type 0} {rules : List AppValue} {Tells : Type 0} {accepts : List TableView → Bool} {allows : List Place → Bool} {most : ℕ} {fault : Fault} {a b : Option (List ℕ)} {first stop seen : Seen Own} (p : Supposed rules Tells accepts allows first stop seen) (n : CutEnding Tells accepts most fault a b first stop (engine_at_first rules)) → Conforming n.last → (number : ℕ) × (number ≤ 1000) × GoneSoFar allows true number (n.text ++ n.rounds.text) first n.last (engine_at_first rules) (engine_of n.last_run)
last_gone {rules = rules} {Tells = Tells} {accepts = accepts} {allows = allows} {most = most} {first = first} p n keeps =
    let whole = (whole-of Tells accepts most n.text n.rounds.text first n.begun n.last (engine_at_first rules) (engine_of n.begun_run) (engine_of n.last_run) n.on n.starts n.rounds.shown).whole_is allows p.told keeps p.judges (settled-first rules first p.opened) in
    let spent = length whole.stimuli == most in
    (last_events spent, last-few spent, gone-whole allows most (n.text ++ n.rounds.text) first n.last (engine_at_first rules) (engine_of n.last_run) whole)

last_held : {Own : Type 0} {rules : List AppValue} {Tells : Type 0} {accepts : List TableView → Bool} {allows : List Place → Bool} {most : ℕ} {fault : Fault} {a b : Option (List ℕ)} {first stop seen : Seen Own} (p : Supposed rules Tells accepts allows first stop seen) (n : CutEnding Tells accepts most fault a b first stop (engine_at_first rules)) → n.last_held ≡ append_known a (n.text ++ n.rounds.text)
last_held {a = a} p n = (writes_then n.text n.rounds.text a n.held n.last_held n.begun_run.core n.last_run.core n.writes n.rounds.writes).written

last_on : {Own : Type 0} {rules : List AppValue} {Tells : Type 0} {accepts : List TableView → Bool} {allows : List Place → Bool} {most : ℕ} {fault : Fault} {a b : Option (List ℕ)} {first stop seen : Seen Own} (p : Supposed rules Tells accepts allows first stop seen) (n : CutEnding Tells accepts most fault a b first stop (engine_at_first rules)) → Continues Tells first n.last
last_on {Tells = Tells} {first = first} p n = Continues-trans Tells first n.begun n.last n.first n.on

last_read : {Own : Type 0} {rules : List AppValue} {Tells : Type 0} {accepts : List TableView → Bool} {allows : List Place → Bool} {most : ℕ} {fault : Fault} {a b : Option (List ℕ)} {first stop seen : Seen Own} (p : Supposed rules Tells accepts allows first stop seen) (n : CutEnding Tells accepts most fault a b first stop (engine_at_first rules)) → Reads Tells first n.last net_at_first n.last_run.core.net
last_read {first = first} p n = reads_then first n.begun n.last net_at_first n.begun_run.core.net n.last_run.core.net n.first n.on n.starts_read n.rounds_read

last_stop : {Own : Type 0} {rules : List AppValue} {Tells Short : Type 0} {accepts : List TableView → Bool} {allows : List Place → Bool} {most number : ℕ} {fault : Fault} {a b : Option (List ℕ)} {first stop seen : Seen Own} (p : Supposed rules Tells accepts allows first stop seen) (n : CutEnding Tells accepts most fault a b first stop (engine_at_first rules)) → KeepsTalking Tells n.last stop → NoPoint Tells number n.last stop → IsStop rules Tells Short first n.last stop
last_stop {first = first} {stop = stop} {seen = seen} p n talks no_point = record {
  before = last_on p n;
  on = n.later;
  keeps = keeps_to first n.last p.told p.opened (last_on p n) (last_read p n);
  quiet = λ keeps order. last_point_of (last_quiescent-of (no_point.none_quiescent p.told));
  left = λ keeps order. inl (inl (talks.no_event p.told));
}

end_alike : {Own : Type 0} {rules : List AppValue} {Tells : Type 0} {accepts : List TableView → Bool} {allows : List Place → Bool} {most : ℕ} {fault : Fault} {a b : Option (List ℕ)} {first stop seen : Seen Own} (p : Supposed rules Tells accepts allows first stop seen) (n : CutEnding Tells accepts most fault a b first stop (engine_at_first rules)) → NotWrite fault → CutAlike rules allows seen a b
end_alike {rules = rules} {Tells = Tells} {allows = allows} {fault = fault} {a = a} {b = b} {first = first} {stop = stop} {seen = seen} p n other =
    let talks = end_talks Tells fault n.last_held b n.last stop (engine_of n.last_run) other n.ends in
    cut_at rules (λ (last : Seen _). CutForMemory rules allows seen last a b) first stop seen p n.last (last_stop p n talks (end_quietly Tells fault n.last_held b n.last stop (engine_of n.last_run) other n.ends))
    (λ keeps. speaks_on rules n.last stop (engine_of n.last_run) p.told talks (last_gone p n keeps).2.moved.settled (gone_rules (last_gone p n keeps).2)) (λ keeps.
    some-so rules allows (last_gone p n keeps).0 0 (n.text ++ n.rounds.text) a b first n.last seen (engine_of n.last_run) p.opened (within_none (last_gone p n keeps).2) (last_gone p n keeps).1 keeps
    (end_held Tells fault n.last_held b n.last stop (engine_of n.last_run) other n.ends ∙ last_held p n))

end_lines : {Own : Type 0} {rules : List AppValue} {Tells : Type 0} {accepts : List TableView → Bool} {allows : List Place → Bool} {most : ℕ} {fault : Fault} {a b : Option (List ℕ)} {first stop seen : Seen Own} (p : Supposed rules Tells accepts allows first stop seen) (n : CutEnding Tells accepts most fault a b first stop (engine_at_first rules)) → IsOutside fault → CutWithLines rules allows seen a b
end_lines {rules = rules} {Tells = Tells} {allows = allows} {fault = fault} {a = a} {b = b} {first = first} {stop = stop} {seen = seen} p n out =
    let other = not_write fault out in
    let talks = end_talks Tells fault n.last_held b n.last stop (engine_of n.last_run) other n.ends in
    cut_at rules (λ (last : Seen _). CutBehindLines rules allows last a b) first stop seen p n.last (last_stop p n talks (end_quietly Tells fault n.last_held b n.last stop (engine_of n.last_run) other n.ends))
    (λ keeps. speaks_on rules n.last stop (engine_of n.last_run) p.told talks (last_gone p n keeps).2.moved.settled (gone_rules (last_gone p n keeps).2)) (λ keeps.
    lines-so rules allows (last_gone p n keeps).0 0 (n.text ++ n.rounds.text) a b first n.last (engine_of n.last_run) p.opened (within_none (last_gone p n keeps).2) (last_gone p n keeps).1 (inr (inl n.none_left)) keeps
    (end_held Tells fault n.last_held b n.last stop (engine_of n.last_run) other n.ends ∙ last_held p n))

end_writing : {Own : Type 0} {rules : List AppValue} {Tells : Type 0} {accepts : List TableView → Bool} {allows : List Place → Bool} {most : ℕ} {a b : Option (List ℕ)} {first stop seen : Seen Own} (p : Supposed rules Tells accepts allows first stop seen) (n : CutEnding Tells accepts most faults.Write a b first stop (engine_at_first rules)) → CutWriting rules allows seen a b
end_writing {rules = rules} {allows = allows} {a = a} {b = b} {first = first} {stop = stop} {seen = seen} p n =
    let cut = n.ends in
    let reads = reads_then first n.last stop net_at_first n.last_run.core.net cut.now_net (last_on p n) n.later (last_read p n) cut.reads in
    writing_at rules a b first stop seen p (keeps_to first stop p.told p.opened p.before reads) (λ keeps.
    let gone = last_gone p n (Conforming-before p.told n.later keeps) in
    let shown = cut.shown p.told keeps gone.2.moved.settled.calm in
    end-so rules allows gone.0 shown.lost (n.text ++ n.rounds.text) cut.more a b first n.last stop (engine_of n.last_run) p.opened gone.2 gone.1 n.none_left shown.text_is shown.leaves keeps
    (subst (λ (held : Option (List ℕ)). TookPart held b cut.more) (last_held p n) cut.part))

-- ---- All of it

goes_alike : {Own : Type 0} {rules : List AppValue} {Tells : Type 0} {accepts : List TableView → Bool} {allows : List Place → Bool} {most : ℕ} {fault : Fault} {a b : Option (List ℕ)} {first stop seen : Seen Own} (p : Supposed rules Tells accepts allows first stop seen) → NotWrite fault → CutGoes Tells accepts most fault a b first stop (engine_at_first rules) → CutAlike rules allows seen a b
goes_alike {rules = rules} {Tells = Tells} {fault = fault} {a = a} {b = b} {first = first} {stop = stop} p other (inl cut) = start_alike rules p (start_held Tells fault a b first stop (engine_at_first rules) other cut) (start_talks Tells fault a b first stop (engine_at_first rules) other cut) (start_quietly Tells fault a b first stop (engine_at_first rules) other cut)
goes_alike p other (inr (inl g)) = round_alike p g other g.rounds.round
goes_alike p other (inr (inr n)) = end_alike p n other

goes_lines : {Own : Type 0} {rules : List AppValue} {Tells : Type 0} {accepts : List TableView → Bool} {allows : List Place → Bool} {most : ℕ} {fault : Fault} {a b : Option (List ℕ)} {first stop seen : Seen Own} (p : Supposed rules Tells accepts allows first stop seen) → IsOutside fault → CutGoes Tells accepts most fault a b first stop (engine_at_first rules) → CutWithLines rules allows seen a b
goes_lines {rules = rules} {Tells = Tells} {fault = fault} {a = a} {b = b} {first = first} {stop = stop} p out (inl cut) = absurd (start_none Tells fault a b first stop (engine_at_first rules) out cut)
goes_lines p out (inr (inl g)) = round_lines p g out g.rounds.round
goes_lines p out (inr (inr n)) = end_lines p n out

goes_writing : {Own : Type 0} {rules : List AppValue} {Tells : Type 0} {accepts : List TableView → Bool} {allows : List Place → Bool} {most : ℕ} {a b : Option (List ℕ)} {first stop seen : Seen Own} (p : Supposed rules Tells accepts allows first stop seen) → CutGoes Tells accepts most faults.Write a b first stop (engine_at_first rules) → CutWriting rules allows seen a b
goes_writing p (inl cut) = start_writing p cut
goes_writing p (inr (inl g)) = round_writing p g g.rounds.round
goes_writing p (inr (inr n)) = end_writing p n

by_fault : {Own : Type 0} {Tells : Type 0} {accepts : List TableView → Bool} {allows : List Place → Bool} {most : ℕ} {a b : Option (List ℕ)} {first stop seen : Seen Own} (rules : List AppValue) (fault : Fault) (p : Supposed rules Tells accepts allows first stop seen) → CutGoes Tells accepts most fault a b first stop (engine_at_first rules)
    → IsCut rules allows seen a b (served_by fault)
by_fault rules faults.Write p goes = goes_writing p goes
by_fault rules faults.Next p goes = goes_lines p tt goes
by_fault rules (faults.Txn fault) p goes = goes_lines p tt goes
by_fault rules faults.NoMemory p goes = inl (goes_alike p tt goes)

-- Of a world that was opened, however far it keeps its word.
pub so_cut : {Own : Type 0} (rules : List AppValue) (Tells : Type 0) (accepts : List TableView → Bool) (allows : List Place → Bool) (most : ℕ) (end : Served) (a b : Option (List ℕ)) (old first seen : Seen Own) → PremiseSoFar Tells accepts allows old → IsOpened first
    → Continues Tells first seen → CallsAmong (length rules) first seen → CutRun Tells accepts most end a b first seen (engine_at_first rules) → IsCut rules allows seen a b end
so_cut rules Tells accepts allows most end a b old first seen premise opened whole own cut =
    let p : Supposed rules Tells accepts allows first cut.stop seen = record { told = premise.told; judges = premise.judges; opened = opened; whole = whole; before = cut.before; later = cut.later; talks = cut.talks; quiet = cut.no_point.none_quiescent premise.told; none_moves = cut.none_moves; own = own } in
    subst (IsCut rules allows seen a b) (sym cut.end_is) (by_fault rules cut.fault p cut.goes)
