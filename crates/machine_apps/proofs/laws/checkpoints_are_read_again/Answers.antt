use Rattle.machine_apps.specs.laws.CheckpointLaws.{restored-checkpoint_of}
use Rattle.machine_apps.proofs.laws.checkpoints_are_read_again.Goals as goal

pub returns : goal.returns
returns c = restored-checkpoint_of
