-- What a reader of the code answers is what a definition of the session text reads.
use Rattle.std.specs.Prelude.{◌≡◌, ℕ, not, ◌&&◌, nat_le, length, ◌++◌, ◌∷◌, [], List, Result, Ok, Err}
use Rattle.lego_model.specs.declared.session.SessionFault.{SessionFault}
use Rattle.lego_model.specs.declared.session.SessionKind.{SessionKind}
use Rattle.lego_model.specs.declared.session.SessionKind.TheVariants.{Range}
use Rattle.lego_model.specs.SessionWords.{◌>>=◌, unless, ascends, a_number}
use Rattle.session_text.specs.declared.text_fault.LineFault.{LineFault}
use Rattle.session_text.specs.declared.text_fault.LineFault.TheVariants.{Kind, NoMemory}
use Rattle.session_text.specs.declared.text_fault.SessionError.{SessionError}
use Rattle.session_text.specs.declared.text_fault.SessionError.TheVariants as text

abbrev pub Fails : {Y : Type 0} → LineFault → Result Y SessionKind → Type 0
Fails NoMemory read = Unit {0}
Fails (Kind kind) read = read ≡ Err kind

-- The result, seen by view, is what reading gives, unless memory ran out.
abbrev pub Gives : {X Y : Type 0} → (X → Y) → Result X LineFault → Result Y SessionKind → Type 0
Gives view (Ok x) read = read ≡ Ok (view x)
Gives view (Err fault) read = Fails fault read

-- the same for a whole text
abbrev pub TextFails : {Y : Type 0} → SessionError → Result Y SessionFault → Type 0
TextFails text.NoMemory read = Unit {0}
TextFails (text.Bad fault) read = read ≡ Err fault

abbrev pub TextGives : {X Y : Type 0} → (X → Y) → Result X SessionError → Result Y SessionFault → Type 0
TextGives view (Ok x) read = read ≡ Ok (view x)
TextGives view (Err fault) read = TextFails fault read

-- what was read so far, before what is read of the rest
abbrev pub with_front : {X : Type 0} → List X → Result (List X) SessionKind → Result (List X) SessionKind
with_front front read = read >>= λ more. Ok (front ++ more)

-- words that are numbers, all of them
abbrev pub numbers : ℕ → ℕ → List (List ℕ) → Result (List ℕ) SessionKind
numbers least most [] = Ok []
numbers least most (word ∷ words) = do
  n ← a_number least most word
  others ← numbers least most words
  Ok (n ∷ others)

-- numbers that ascend and are few enough for ports
abbrev pub ordered : List ℕ → Result (List ℕ) SessionKind
ordered ports = unless (not (ascends ports && nat_le (length ports) 64)) Range (Ok ports)

abbrev pub ports_read : List (List ℕ) → Result (List ℕ) SessionKind
ports_read pieces = numbers 1 65280 pieces >>= ordered
