use Rattle.std.proofs.Common.{◌≡◌, refl}
use Rattle.flow_table.specs.Change.{new_entry}
use Rattle.tuple_index.proofs.changing.entry_of.Goals as goal

pub returns : goal.returns
unfolding new_entry
returns c =
    let copied : c.in_ok-copy_actions.field-0 ≡ c.args.m.now.actions = c.in_ok-copy_actions.ensures in
    rw (copied, c.key_of.ensures, c.kept_flags.ensures) refl
