use Rattle.checkpoint_store.specs.laws.SlotLaws.{HasStaged-staged}
use Rattle.checkpoint_store.proofs.laws.laws_of_staging.Goals as goal

pub returns-clause-more : goal.returns-clause-more
returns-clause-more c = HasStaged-staged
