use Rattle.std.proofs.Common.{◌≡◌, replicate}
use Rattle.checkpoint_store.specs.Slots.{empty_slot}
use Rattle.checkpoint_store.proofs.store.Store.new.Given as goal

abbrev pub invariant-loop : goal.invariant-loop
invariant-loop l = l.slots.items ≡ replicate l.counter empty_slot
