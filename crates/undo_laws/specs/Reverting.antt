-- How the inverses of a log are sent (OpenFlow 1.0.0, 4.6 Flow Table Modification Messages), and when none of them is refused.
use Rattle.std.specs.Prelude.{◌≡◌, ℕ, ◌≤◌, false, List, [], ◌∷◌, length, IsSome}
use Rattle.std.specs.Option.{is_some}
use Rattle.of_match.specs.declared.key.Key.{Key}
use Rattle.of_action.specs.declared.action.Action.{Action}
use Rattle.of_wire.specs.declared.bodies.FlowMod.{FlowMod}
use Rattle.flow_table.specs.declared.entry.Entry.{Entry}
use Rattle.flow_table.specs.Table.{TableState, entry_at}
use Rattle.flow_table.specs.Change.{key_in, checks_overlap}
use Rattle.undo_laws.specs.Removal.{IsRemoval}
use Rattle.undo_laws.specs.Log.{Inverse, Remove, PutBack, GiveActions, undo}

-- ---- The messages. What is not named here is free for a refusal.

-- ADD (0) of an entry's key, without CHECK_OVERLAP
pub record IsAddition (e : Entry) (m : FlowMod) : Type 0 where
  pub command : m.command ≡ 0
  pub key : key_in m ≡ e.key
  pub unchecked : checks_overlap m.flags ≡ false

-- MODIFY_STRICT (2) of a key with these actions
pub record IsModification (k : Key) (given : List Action) (m : FlowMod) : Type 0 where
  pub command : m.command ≡ 2
  pub key : key_in m ≡ k
  pub actions : m.actions ≡ given

abbrev pub Reverts : Inverse → FlowMod → Type 0
Reverts (Remove k) m = IsRemoval k m
Reverts (PutBack e) m = IsAddition e m
Reverts (GiveActions k actions) m = IsModification k actions m

-- ---- Whether a log can be reverted

-- an inverse that changes an entry's actions meets it
abbrev pub Meets : Inverse → List Entry → Type 0
Meets (Remove k) es = Unit {0}
Meets (PutBack e) es = Unit {0}
Meets (GiveActions k actions) es = IsSome (entry_at k es)

-- In a table that takes so many entries: the table fits before and after each inverse, and each meets its entry.
abbrev pub CanRevert : ℕ → ℕ → List Inverse → TableState → Type 0
CanRevert cap now [] t = length t.entries ≤ cap
CanRevert cap now (x ∷ log) t = CanRevert cap now log t × Meets x (undo now log t).entries × (length (undo now (x ∷ log) t).entries ≤ cap)

-- two tables have entries of the same keys
abbrev pub SameKeys : List Entry → List Entry → Type 0
SameKeys es fs = (k : Key) → is_some (entry_at k es) ≡ is_some (entry_at k fs)
