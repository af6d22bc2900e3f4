-- Laws of calls for an application: each call of a world is told as its act.
use Rattle.std.specs.Prelude.{◌≡◌, ℕ, ◌≤◌, true, false, List, [], ◌∷◌, ◌++◌, length, take, Ok, Err, refl}
use Rattle.std.proofs.Common.{sym, ap, ◌∙◌, subst}
use Rattle.std.proofs.lemmas.List.{append-nil, length-take-le}
use Rattle.of_types.specs.declared.journal.Act.TheVariants.{Started, Gave, Gone, Took}
use Rattle.of_types.specs.declared.journal.TookWhat.{TookWhat}
use Rattle.of_types.specs.declared.journal.TookWhat.TheVariants as took
use Rattle.outside.specs.declared.faults.StartFault.TheVariants as starting
use Rattle.outside.specs.declared.faults.GiveFault.TheVariants as giving
use Rattle.outside.specs.declared.faults.Short.{Short}
use Rattle.outside.specs.declared.item.Taken.TheVariants as gave
use Rattle.outside.specs.declared.step.WorldStep.{WorldStep}
use Rattle.outside.specs.declared.step.WorldStep.TheVariants.{TookInto}
use Rattle.outside.specs.Seen.{Seen}
use Rattle.outside.specs.laws.SeenLaws.{Starts-continues, Gives-continues, Takes-continues}
use Rattle.outside.specs.Calls.{Starts, Gives, Takes, start_steps, give_steps, take_steps}
use Rattle.app_visor.specs.Talks.{room, Told, Wants}
use Rattle.app_visor.specs.Reads.{TakesOne}

pub told_started : {Own T : Type 0} {Tells : Type 0} {app : ℕ} {old new : Seen Own} (x : T) → Starts Tells app old new (Ok x) → Told Tells (Started app true) old new
unfolding start_steps
told_started x call = record { continues = Starts-continues call; history = λ told. (call.told told).history; rises = tt }

pub told_not_started : {Own T : Type 0} {Tells : Type 0} {app : ℕ} {old new : Seen Own} → Starts {T = T} Tells app old new (Err starting.NotStarted) → Told Tells (Started app false) old new
unfolding start_steps
told_not_started call = record { continues = Starts-continues call; history = λ told. (call.told told).history; rises = call.not_started refl }

pub wants_start : {Own T : Type 0} {Tells : Type 0} {app : ℕ} {old new : Seen Own} → Starts {T = T} Tells app old new (Err starting.Short) → Wants Tells old new
unfolding start_steps
wants_start {old = old} call = record { continues = Starts-continues call; history = λ told. (call.told told).history ∙ append-nil old.history }

pub told_gave : {Own T : Type 0} {Tells : Type 0} {app : ℕ} {bytes : List ℕ} {old new : Seen Own} (x : T) → Gives Tells app bytes old new (Ok x) → Told Tells (Gave app bytes) old new
unfolding give_steps
told_gave x call = record { continues = Gives-continues call; history = λ told. (call.told told).history; rises = tt }

pub told_gone : {Own T : Type 0} {Tells : Type 0} {app : ℕ} {bytes : List ℕ} {old new : Seen Own} → Gives {T = T} Tells app bytes old new (Err giving.Gone) → Told Tells (Gone app bytes) old new
unfolding give_steps
told_gone call = record { continues = Gives-continues call; history = λ told. (call.told told).history; rises = call.gone refl }

pub wants_give : {Own T : Type 0} {Tells : Type 0} {app : ℕ} {bytes : List ℕ} {old new : Seen Own} → Gives {T = T} Tells app bytes old new (Err giving.Short) → Wants Tells old new
unfolding give_steps
wants_give {old = old} call = record { continues = Gives-continues call; history = λ told. (call.told told).history ∙ append-nil old.history }

into : (app : ℕ) (what : TookWhat) (first : List WorldStep) (n : ℕ) → n ≡ room → first ++ TookInto app what n ∷ [] ≡ first ++ TookInto app what room ∷ []
into app what first n is = ap (λ (m : ℕ). first ++ TookInto app what m ∷ []) is

pub told_closed : {Own : Type 0} {Tells : Type 0} {app : ℕ} {old new : Seen Own} (buf : List ℕ) → length buf ≡ room → Takes Tells app old new (Ok gave.Closed) buf → Told Tells (Took app took.Closed) old new
unfolding take_steps
told_closed {app = app} {old = old} buf is call = record {
  continues = Takes-continues call;
  history = λ told. (call.told told).history ∙ into app took.Closed old.history (length buf) is;
  rises = call.closed refl;
}

pub told_silent : {Own : Type 0} {Tells : Type 0} {app : ℕ} {old new : Seen Own} (buf : List ℕ) → length buf ≡ room → Takes Tells app old new (Ok gave.Silent) buf → Told Tells (Took app took.Silent) old new
unfolding take_steps
told_silent {app = app} {old = old} buf is call = record {
  continues = Takes-continues call;
  history = λ told. (call.told told).history ∙ into app took.Silent old.history (length buf) is;
  rises = call.silent refl;
}

pub told_taken : {Own : Type 0} {Tells : Type 0} {app : ℕ} {old new : Seen Own} (n : ℕ) (buf : List ℕ) → length buf ≡ room → Takes Tells app old new (Ok (gave.Some n)) buf → Told Tells (Took app (took.Bytes (take n buf))) old new
unfolding take_steps
told_taken {app = app} {old = old} n buf is call = record {
  continues = Takes-continues call;
  history = λ told. (call.told told).history ∙ into app (took.Bytes (take n buf)) old.history (length buf) is;
  rises = tt;
}

pub wants_take : {Own : Type 0} {Tells : Type 0} {app : ℕ} {old new : Seen Own} (short : Short) (buf : List ℕ) → Takes Tells app old new (Err short) buf → Wants Tells old new
unfolding take_steps
wants_take {old = old} short buf call = record { continues = Takes-continues call; history = λ told. (call.told told).history ∙ append-nil old.history }

pub took_one : {Own : Type 0} {Tells : Type 0} {app : ℕ} {old new : Seen Own} (n : ℕ) (buf rest left : List ℕ) → length buf ≡ room → Takes Tells app old new (Ok (gave.Some n)) buf → left ≡ rest ++ take n buf
    → TakesOne Tells app rest left old new
took_one n buf rest left is call left_is = record {
  piece = take n buf;
  some = subst (λ (m : ℕ). 1 ≤ m) (sym (length-take-le n buf call.taken.1)) call.taken.0;
  left_is = left_is;
  told = told_taken n buf is call;
}
