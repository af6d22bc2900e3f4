-- Why an input is not read.
use Rattle.std.proofs.Common.{◌≡◌, ℕ, ◌<◌, List, length, Option, Some, None, Result, Ok, Err, IfSome, IfErr, refl}
use Rattle.std.specs.Result.{IsErrAnd}
use Rattle.std.proofs.lemmas.Bool.{lt-ltb}
use Rattle.lego_io.specs.Count.{Rose}
use Rattle.lego_io.specs.declared.transfer.ReadAllFault.{ReadAllFault}
use Rattle.lego_io.specs.declared.transfer.ReadAllFault.TheVariants.{Read, TooLong, NoMemory}
use Rattle.legosdn.specs.declared.stop.InputRefusal.{InputRefusal}
use Rattle.legosdn.specs.declared.stop.InputRefusal.TheVariants.{Size}
use Rattle.legosdn.specs.declared.stop.Stop.{Stop}
use Rattle.legosdn.specs.Input.{most_input, session_of, run_policy}
use Rattle.legosdn.specs.Stops.{stop_of_reading}
use Rattle.legosdn.specs.Headline.{IsNoSession, IsNoPolicy, IsReadCause}

-- an input that is too long is refused
abbrev pub RefusesLong : (InputRefusal → List ℕ → Type 0) → Type 0
RefusesLong IsRefused = (input : List ℕ) → most_input < length input → IsRefused Size input

pub no_session_long : RefusesLong (IsNoSession session_of)
unfolding session_of
no_session_long input long = rw (lt-ltb most_input (length input) long) refl

pub no_policy_long : RefusesLong IsNoPolicy
unfolding run_policy
no_policy_long input long = rw (lt-ltb most_input (length input) long) refl

told_too_long : (IsRefused : InputRefusal → List ℕ → Type 0) (told : Option (List ℕ)) → RefusesLong IsRefused → IfSome told (λ left. most_input < length left) → IfSome told (IsRefused Size)
told_too_long IsRefused None refuses long = tt
told_too_long IsRefused (Some left) refuses long = refuses left long

read_cause : (IsRefused : InputRefusal → List ℕ → Type 0) (told : Option (List ℕ)) (old new : ℕ) (fault : ReadAllFault) → RefusesLong IsRefused → (fault ≡ TooLong → IfSome told (λ left. most_input < length left)) → (fault ≡ Read → Rose old new)
    → IsReadCause IsRefused told old new (stop_of_reading fault)
read_cause IsRefused told old new Read refuses long rose = rose refl
read_cause IsRefused told old new TooLong refuses long rose = told_too_long IsRefused told refuses (long refl)
read_cause IsRefused told old new NoMemory refuses long rose = tt

pub read_causes : {T : Type 0} (IsRefused : InputRefusal → List ℕ → Type 0) (told : Option (List ℕ)) (old new : ℕ) (fault : ReadAllFault) (result : Result T Stop) → RefusesLong IsRefused → IsErrAnd result (λ stop. stop ≡ stop_of_reading fault)
    → (fault ≡ TooLong → IfSome told (λ left. most_input < length left)) → (fault ≡ Read → Rose old new) → IfErr result (IsReadCause IsRefused told old new)
read_causes IsRefused told old new fault (Ok x) refuses is long rose = tt
read_causes IsRefused told old new fault (Err stop) refuses is long rose = rw is (read_cause IsRefused told old new fault refuses long rose)
