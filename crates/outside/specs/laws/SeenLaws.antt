-- Laws of what is seen: the journal of a longer history, and what later calls leave.
use Rattle.std.specs.Prelude.{◌≡◌, ℕ, List, [], ◌∷◌, ◌++◌, Option, Some, None, Result, refl}
use Rattle.std.specs.List.{cons_option}
use Rattle.std.proofs.Common.{sym, ap, ◌∙◌, append_assoc, arith}
use Rattle.std.proofs.lemmas.List.{append-nil}
use Rattle.of_types.specs.declared.journal.Act.{Act}
use Rattle.lego_io.specs.laws.CountLaws.{Rose-after, Rose-before}
use Rattle.outside.specs.declared.faults.NextFault.{NextFault}
use Rattle.outside.specs.declared.faults.StartFault.{StartFault}
use Rattle.outside.specs.declared.faults.GiveFault.{GiveFault}
use Rattle.outside.specs.declared.faults.LinkFault.{LinkFault}
use Rattle.outside.specs.declared.faults.Short.{Short}
use Rattle.outside.specs.declared.item.Item.{Item}
use Rattle.outside.specs.declared.item.Taken.{Taken}
use Rattle.outside.specs.declared.step.WorldStep.{WorldStep}
use Rattle.outside.specs.Seen.{Counts, Seen, NoneFell, Longer, Continues, LinkHeld, act_of, journal}
use Rattle.outside.specs.Calls.{Nexts, Starts, Gives, Takes, Ends, Sends, Receives, next_steps, start_steps, give_steps, take_steps, end_steps, send_steps, receive_steps}
use Rattle.outside.specs.State.{state, is_running, is_joined}

-- ---- The journal

cons_option-append : (act : Option Act) (xs ys : List Act) → cons_option act (xs ++ ys) ≡ cons_option act xs ++ ys
cons_option-append None xs ys = refl
cons_option-append (Some act) xs ys = refl

pub journal-append : (xs ys : List WorldStep) → journal (xs ++ ys) ≡ journal xs ++ journal ys
unfolding journal
journal-append [] ys = refl
journal-append (x ∷ xs) ys = ap (cons_option (act_of x)) (journal-append xs ys) ∙ cons_option-append (act_of x) (journal xs) (journal ys)

-- ---- No count falls

pub NoneFell-refl : (c : Counts) → NoneFell c c
NoneFell-refl c = record {
  shuts = omega arith;
  next_faults = omega arith;
  starts_failed = omega arith;
  closings = omega arith;
  silences = omega arith;
  link_faults = λ d. omega arith;
  shorts = omega arith;
  shorts_of = λ d. omega arith;
  strays = omega arith;
}

pub NoneFell-trans : (a b c : Counts) → NoneFell a b → NoneFell b c → NoneFell a c
NoneFell-trans a b c first second = record {
  shuts = omega (arith, first.shuts, second.shuts);
  next_faults = omega (arith, first.next_faults, second.next_faults);
  starts_failed = omega (arith, first.starts_failed, second.starts_failed);
  closings = omega (arith, first.closings, second.closings);
  silences = omega (arith, first.silences, second.silences);
  link_faults = λ d. omega (arith, first.link_faults d, second.link_faults d);
  shorts = omega (arith, first.shorts, second.shorts);
  shorts_of = λ d. omega (arith, first.shorts_of d, second.shorts_of d);
  strays = omega (arith, first.strays, second.strays);
}

-- ---- Later

pub Longer-refl : (xs : List WorldStep) → Longer xs xs
Longer-refl xs = ([], sym (append-nil xs))

pub Longer-trans : (xs ys zs : List WorldStep) → Longer xs ys → Longer ys zs → Longer xs zs
Longer-trans xs ys zs first second =
    (first.0 ++ second.0, second.1 ∙ ap (λ (front : List WorldStep). front ++ second.0) first.1 ∙ append_assoc xs first.0 second.0)

pub Continues-refl : {Own : Type 0} (Tells : Type 0) (seen : Seen Own) → Continues Tells seen seen
Continues-refl Tells seen = record { given = refl; none_fell = NoneFell-refl seen.counts; told = λ told. Longer-refl seen.history }

pub Continues-trans : {Own : Type 0} (Tells : Type 0) (a b c : Seen Own) → Continues Tells a b → Continues Tells b c → Continues Tells a c
Continues-trans Tells a b c first second = record {
  given = second.given ∙ first.given;
  none_fell = NoneFell-trans a.counts b.counts c.counts first.none_fell second.none_fell;
  told = λ told. Longer-trans a.history b.history c.history (first.told told) (second.told told);
}

-- ---- Each call

pub Nexts-continues : {Own : Type 0} {Tells : Type 0} {old new : Seen Own} {result : Result Item NextFault} {buf : List ℕ} → Nexts Tells old new result buf → Continues Tells old new
Nexts-continues {result = result} {buf = buf} call = record { given = call.given; none_fell = call.none_fell; told = λ told. (next_steps (call.told told).begun result buf, (call.told told).history) }

pub Starts-continues : {Own T : Type 0} {Tells : Type 0} {app : ℕ} {old new : Seen Own} {result : Result T StartFault} → Starts Tells app old new result → Continues Tells old new
Starts-continues {app = app} {result = result} call = record { given = call.given; none_fell = call.none_fell; told = λ told. (start_steps app result, (call.told told).history) }

pub Gives-continues : {Own T : Type 0} {Tells : Type 0} {app : ℕ} {bytes : List ℕ} {old new : Seen Own} {result : Result T GiveFault} → Gives Tells app bytes old new result → Continues Tells old new
Gives-continues {app = app} {bytes = bytes} {result = result} call = record { given = call.given; none_fell = call.none_fell; told = λ told. (give_steps app bytes result, (call.told told).history) }

pub Takes-continues : {Own : Type 0} {Tells : Type 0} {app : ℕ} {old new : Seen Own} {result : Result Taken Short} {buf : List ℕ} → Takes Tells app old new result buf → Continues Tells old new
Takes-continues {app = app} {result = result} {buf = buf} call = record { given = call.given; none_fell = call.none_fell; told = λ told. (take_steps app result buf, (call.told told).history) }

pub Ends-continues : {Own : Type 0} {Tells : Type 0} {app : ℕ} {old new : Seen Own} → Ends Tells app old new → Continues Tells old new
Ends-continues {app = app} {old = old} call = record { given = call.given; none_fell = call.none_fell; told = λ told. (end_steps app (is_running app (state old)), (call.told told).history) }

pub Sends-continues : {Own T : Type 0} {Tells : Type 0} {d : ℕ} {frame : List ℕ} {old new : Seen Own} {result : Result T LinkFault} → Sends Tells d frame old new result → Continues Tells old new
Sends-continues {d = d} {frame = frame} {old = old} {result = result} call = record { given = call.given; none_fell = call.none_fell; told = λ told. (send_steps d frame (is_joined d (state old)) result, (call.told told).history) }

pub Receives-continues : {Own : Type 0} {Tells : Type 0} {d : ℕ} {old new : Seen Own} {result : Result ℕ LinkFault} {buf : List ℕ} → Receives Tells d old new result buf → Continues Tells old new
Receives-continues {d = d} {old = old} {result = result} {buf = buf} call = record { given = call.given; none_fell = call.none_fell; told = λ told. (receive_steps d (is_joined d (state old)) result buf, (call.told told).history) }

-- ---- Nothing failed on a switch

-- Where nothing failed over two stretches, nothing failed over either.
pub LinkHeld-first : (d : ℕ) (a b c : Counts) → NoneFell a b → NoneFell b c → LinkHeld d a c → LinkHeld d a b
LinkHeld-first d a b c first second held = record {
  no_fault = λ rose. held.no_fault (Rose-before (a.link_faults d) (b.link_faults d) (c.link_faults d) (first.link_faults d) rose (second.link_faults d));
  no_short = λ rose. held.no_short (Rose-before (a.shorts_of d) (b.shorts_of d) (c.shorts_of d) (first.shorts_of d) rose (second.shorts_of d));
}

pub LinkHeld-second : (d : ℕ) (a b c : Counts) → NoneFell a b → NoneFell b c → LinkHeld d a c → LinkHeld d b c
LinkHeld-second d a b c first second held = record {
  no_fault = λ rose. held.no_fault (Rose-after (a.link_faults d) (b.link_faults d) (c.link_faults d) (first.link_faults d) rose);
  no_short = λ rose. held.no_short (Rose-after (a.shorts_of d) (b.shorts_of d) (c.shorts_of d) (first.shorts_of d) rose);
}
