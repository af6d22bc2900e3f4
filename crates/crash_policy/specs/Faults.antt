-- What is wrong with a policy, and how a call answers. All of this is our own.
use Rattle.std.specs.Prelude.{◌≡◌, ℕ, List, Result, Ok, Err, string_bytes}
use Rattle.crash_policy.specs.declared.policy_fault.PolicyFault.{PolicyFault}
use Rattle.crash_policy.specs.declared.policy_fault.PolicyFault.TheVariants.{Text, UnknownKey, Missing, Range, Double, NoMemory}

pub data Fault : Type 0 where
  -- the bytes are no TOML
  no_text : Fault
  -- there is no such key
  unknown : List ℕ → Fault
  -- the key is needed
  missing : List ℕ → Fault
  -- the key's value is of another type, or not among those that it may have
  out_of_range : List ℕ → Fault
  -- an earlier application has that name
  double : List ℕ → Fault

-- An error names the fault of the definition. Want of memory may come in place of any answer.
abbrev pub Refuses : {A : Type 0} → PolicyFault → Result A Fault → Type 0
Refuses NoMemory answer = Unit {0}
Refuses Text answer = answer ≡ Err no_text
Refuses (UnknownKey key) answer = answer ≡ Err (unknown (string_bytes key))
Refuses (Missing key) answer = answer ≡ Err (missing (string_bytes key))
Refuses (Range key) answer = answer ≡ Err (out_of_range (string_bytes key))
Refuses (Double name) answer = answer ≡ Err (double (string_bytes name))

-- A call gives what the definition says: its value, or its fault.
abbrev pub Gives : {V A : Type 0} → (V → A) → Result V PolicyFault → Result A Fault → Type 0
Gives view (Ok v) answer = answer ≡ Ok (view v)
Gives view (Err e) answer = Refuses e answer

infixl 10 ◌>>=◌
abbrev pub ◌>>=◌ : {A B : Type 0} → Result A Fault → (A → Result B Fault) → Result B Fault
(Ok x) >>= f = f x
(Err fault) >>= f = Err fault
