-- Reading a list of actions: its value, or the first fault (OpenFlow 1.0.0, 5.2.4 Flow Action Structures).
use Rattle.std.specs.Prelude.{◌≡◌, ℕ, zero, suc, ◌+◌, ◌≤◌, ◌%◌, ◌==◌, ◌||◌, not, nat_lt, nat_le, if◌then◌else◌, List, [], ◌∷◌, length, take, drop, Option, Some, None, Result, Ok, Err}
use Rattle.of_types.specs.Fields.{number_at, piece}
use Rattle.of_action.specs.declared.action.Action.{Action}
use Rattle.of_action.specs.declared.action.Action.TheVariants.{Output, SetVlanVid, SetVlanPcp, StripVlan, SetDlSrc, SetDlDst, SetNwSrc, SetNwDst, SetNwTos, SetTpSrc, SetTpDst, Enqueue, Vendor}
use Rattle.of_action.specs.declared.fault.ActionKind.{ActionKind}
use Rattle.of_action.specs.declared.fault.ActionKind.TheVariants.{BadType, BadLen}
use Rattle.of_action.specs.declared.fault.ActionFault.{ActionFault}
use Rattle.of_action.specs.declared.fault.ActionFault.TheVariants.{Bad, NoMemory}

infixl 10 ◌>>=◌
abbrev pub ◌>>=◌ : {A B F : Type 0} → Result A F → (A → Result B F) → Result B F
(Ok x) >>= f = f x
(Err e) >>= f = Err e

-- What a call gave, seen by view, is what reading gives; where memory ran out, nothing is said.
abbrev pub Fails : {Y : Type 0} → ActionFault → Result Y ActionFault → Type 0
Fails (Bad place kind) read = read ≡ Err (Bad place kind)
Fails NoMemory read = Unit {0}

abbrev pub Gives : {X Y : Type 0} → (X → Y) → Result X ActionFault → Result Y ActionFault → Type 0
Gives view (Ok x) read = read ≡ Ok (view x)
Gives view (Err fault) read = Fails fault read

-- A test that makes no value answers as reading does: Ok where it is, and the same fault.
abbrev pub Tells : {X Y : Type 0} → Result X ActionFault → Result Y ActionFault → Type 0
Tells (Ok x) (Ok y) = Unit {0}
Tells (Err fault) read = read ≡ Err fault
Tells (Ok x) (Err fault) = ⊥

-- ---- the length

-- the length that the table has for a type; a vendor's action has the length that it says
unfoldable pub table_length : ℕ → ℕ → Option ℕ
table_length kind len =
    if kind == 4 || (kind == 5 || kind == 11) then Some 16
    else (if nat_le kind 10 then Some 8 else (if kind == 65535 then Some len else None))

abbrev pub if_table_has : ℕ → Option ℕ → Result ℕ ActionKind
if_table_has len None = Err BadType
if_table_has len (Some n) = if n == len then Ok len else Err BadLen

-- The length of the action at the front, or what is wrong with it: first a length that no action here can have,
-- then a type that the table does not have, then a length that is not the type's.
unfoldable pub length_at : List ℕ → Result ℕ ActionKind
length_at bytes =
    if nat_lt (length bytes) 4 then Err BadLen
    else (let len = number_at 2 2 bytes in
    if nat_lt len 8 || (not (len % 8 == 0) || nat_lt (length bytes) len) then Err BadLen
    else if_table_has len (table_length (number_at 2 0 bytes) len))

-- what is known of a length that was read, in so many bytes
pub record IsLength (kind size len : ℕ) : Type 0 where
  pub least : 8 ≤ len
  pub within : len ≤ size
  pub source : kind ≡ 4 → len ≡ 16
  pub target : kind ≡ 5 → len ≡ 16
  pub queue : kind ≡ 11 → len ≡ 16

-- ---- the value

-- The action that an action's bytes spell, by its type.
unfoldable pub action_of : ℕ → List ℕ → Action
action_of kind bytes =
    if kind == 0 then Output (number_at 2 4 bytes) (number_at 2 6 bytes)
    else (if kind == 1 then SetVlanVid (number_at 2 4 bytes)
    else (if kind == 2 then SetVlanPcp (number_at 1 4 bytes)
    else (if kind == 3 then StripVlan
    else (if kind == 4 then SetDlSrc (piece 6 4 bytes)
    else (if kind == 5 then SetDlDst (piece 6 4 bytes)
    else (if kind == 6 then SetNwSrc (number_at 4 4 bytes)
    else (if kind == 7 then SetNwDst (number_at 4 4 bytes)
    else (if kind == 8 then SetNwTos (number_at 1 4 bytes)
    else (if kind == 9 then SetTpSrc (number_at 2 4 bytes)
    else (if kind == 10 then SetTpDst (number_at 2 4 bytes)
    else (if kind == 11 then Enqueue (number_at 2 4 bytes) (number_at 4 12 bytes)
    else Vendor (drop 4 bytes))))))))))))

-- ---- the list

abbrev pub at_place : {X : Type 0} → ℕ → Result X ActionKind → Result X ActionFault
at_place place (Ok x) = Ok x
at_place place (Err kind) = Err (Bad place kind)

-- the action at the front of what stands from a place on, and its length
unfoldable pub action_at : ℕ → List ℕ → Result (Action × ℕ) ActionFault
action_at place bytes = do
  len ← at_place place (length_at bytes)
  Ok (action_of (number_at 2 0 bytes) (take len bytes), len)

-- So many actions at most, from a place on.
unfoldable pub actions_from : ℕ → ℕ → List ℕ → Result (List Action) ActionFault
actions_from zero place bytes = Ok []
actions_from (suc steps) place bytes =
    if length bytes == 0 then Ok []
    else (action_at place bytes >>= λ first. actions_from steps (place + first.1) (drop first.1 bytes) >>= λ others. Ok (first.0 ∷ others))

-- No action is shorter than a byte, so there are no more of them than bytes.
unfoldable pub actions_of : List ℕ → Result (List Action) ActionFault
actions_of bytes = actions_from (length bytes) 0 bytes
