-- Laws of results: what holds of an error that is known.
use Rattle.std.specs.Prelude.{◌≡◌, Result, Ok, Err, IfErr}

pub err_is : {T E : Type 0} (P : E → Type 0) (result : Result T E) (y z : E) → result ≡ Err y → y ≡ z → P z → IfErr result P
err_is P result y z is same holds = rw (is, same) holds

pub err_then : {T E : Type 0} (P Q : E → Type 0) (result : Result T E) → ((e : E) → P e → Q e) → IfErr result P → IfErr result Q
err_then P Q (Ok x) weaker holds = tt
err_then P Q (Err e) weaker holds = weaker e holds
