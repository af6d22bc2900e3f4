-- What a recording keeps of links: how many calls there were on that of each switch, and at which of them it was lost. A session names
-- a loss by that number. All of this is our own choice.
use Rattle.std.specs.Prelude.{◌≡◌, ℕ, ◌==◌, List, [], ◌∷◌, ◌++◌, Bool, unwrap_or, if◌then◌else◌}
use Rattle.std.specs.Ordering.{nat_cmp}
use Rattle.std.specs.BTreeMap.{get}
use Rattle.lego_io.specs.Count.{raised}
use Rattle.session_record.specs.declared.links.LinkCalls.{LinkCalls}

-- how many calls there were on the link of a switch
abbrev pub calls_of : LinkCalls → ℕ → ℕ
calls_of links d = unwrap_or (get nat_cmp links.counts d) 0

-- the loss, where the call failed
abbrev pub loss_at : ℕ → Bool → ℕ → List (ℕ × ℕ)
loss_at d lost call = if lost then (d, call) ∷ [] else []

-- one call more on the link of this switch, which was lost by it or not
pub record NotesCall (d : ℕ) (lost : Bool) (before after : LinkCalls) : Type 0 where
  pub counts : (e : ℕ) → calls_of after e ≡ (if e == d then raised (calls_of before d) else calls_of before e)
  pub losses : after.losses.items ≡ before.losses.items ++ loss_at d lost (raised (calls_of before d))
