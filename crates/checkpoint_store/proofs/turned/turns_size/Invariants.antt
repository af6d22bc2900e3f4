use Rattle.std.proofs.Common.{◌≡◌, ◌-◌, ◌^◌, min, take}
use Rattle.checkpoint_store.specs.Past.{turns_size}
use Rattle.checkpoint_store.proofs.turned.turns_size.Given as goal

abbrev pub invariant-loop-turn : goal.invariant-loop-turn
invariant-loop-turn l = l.size ≡ min (turns_size (take l.turn-index l.turns)) (2 ^ 64 - 1)
