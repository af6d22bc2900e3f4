-- What is seen of a world while applications that are not its own are called: nothing but want of memory. All of this is our own choice.
use Rattle.std.specs.Prelude.{◌≡◌, Bool, true, false, Result, Ok, Err}
use Rattle.lego_io.specs.Count.{Rose}
use Rattle.outside.specs.declared.faults.Short.{Short}
use Rattle.outside.specs.declared.faults.StartFault.{StartFault}
use Rattle.outside.specs.declared.faults.StartFault.TheVariants as starting
use Rattle.outside.specs.declared.faults.GiveFault.{GiveFault}
use Rattle.outside.specs.declared.faults.GiveFault.TheVariants as giving
use Rattle.outside.specs.Seen.{Seen, IfShown, NoneFell, AreCounts, with_short}

-- nothing is seen to happen
pub record Still {Own : Type 0} (Tells : Type 0) (old new : Seen Own) : Type 0 where
  pub given : new.given ≡ old.given
  pub none_fell : NoneFell old.counts new.counts
  pub told : Tells → (new.history ≡ old.history) × IfShown old (AreCounts old.given.declared old.counts new.counts)

-- nothing but want of memory
pub record Shorted {Own : Type 0} (Tells : Type 0) (old new : Seen Own) : Type 0 where
  pub given : new.given ≡ old.given
  pub none_fell : NoneFell old.counts new.counts
  pub short : Rose old.counts.shorts new.counts.shorts
  pub told : Tells → (new.history ≡ old.history) × IfShown old (AreCounts old.given.declared (with_short old.counts) new.counts)

abbrev pub Tried : {Own T : Type 0} → Type 0 → Result T Short → Seen Own → Seen Own → Type 0
Tried Tells (Ok x) old new = Still Tells old new
Tried Tells (Err short) old new = Shorted Tells old new

-- ---- What the application of the other world answered

-- it was started
abbrev pub start_answer : Result Bool Short → Result (Unit {0}) StartFault
start_answer (Ok true) = Ok tt
start_answer (Ok false) = Err starting.NotStarted
start_answer (Err short) = Err starting.Short

-- it was given the bytes
abbrev pub give_answer : Result Bool Short → Result (Unit {0}) GiveFault
give_answer (Ok true) = Ok tt
give_answer (Ok false) = Err giving.Gone
give_answer (Err short) = Err giving.Short
