use Rattle.std.proofs.Common.{◌≡◌, ℕ, List, take}
use Rattle.of_action.specs.Spelling.{list_bytes, list_size}
use Rattle.of_action.proofs.writing.encode_list.Given as goal

pub record IsSoFar (at size : ℕ) (out bytes : List ℕ) : Type 0 where
  pub place : at ≡ size
  pub written : take at out ≡ bytes

abbrev pub invariant-loop-action : goal.invariant-loop-action
invariant-loop-action l =
    IsSoFar l.at (list_size (take l.action-index l.action-items)) l.out (list_bytes (take l.action-index l.action-items))
