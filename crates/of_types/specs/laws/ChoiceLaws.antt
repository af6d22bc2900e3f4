-- What follows where a test answered, and where a result is an error.
use Rattle.std.specs.Prelude.{◌≡◌, ◌||◌, ◌&&◌, Bool, true, false, Option, Some, None, Result, Ok, Err}
use Rattle.std.proofs.Common.{cond, refl}
use Rattle.std.specs.Result.{OnErr}

-- there is something only where the test did not refuse
pub guard_some : {A : Type 0} (b : Bool) (o : Option A) (x : A) → cond b None o ≡ Some x → (b ≡ false) × (o ≡ Some x)
guard_some true o x e = absurd cc
guard_some false o x e = (refl, e)

pub or_later : (a b : Bool) → (a || b) ≡ true → a ≡ false → b ≡ true
or_later true b is none = absurd cc
or_later false b is none = is

pub and_second : (a b : Bool) → b ≡ false → (a && b) ≡ false
and_second true b is = is
and_second false b is = refl

-- what holds anyway holds where there is an error
pub holds_on_err : {T E P : Type 0} (result : Result T E) → P → OnErr result P
holds_on_err (Ok x) p = tt
holds_on_err (Err e) p = p
