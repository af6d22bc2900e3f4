use Rattle.sent_laws.specs.laws.AbreastLaws.{abreast-nothing, abreast-changed, abreast-undo, abreast-alike, abreast-restored}
use Rattle.sent_laws.proofs.abreast.courses_stay_abreast.Goals as goal

pub returns-clause-nothing : goal.returns-clause-nothing
returns-clause-nothing c = abreast-nothing

pub returns-clause-changed : goal.returns-clause-changed
returns-clause-changed c = abreast-changed

pub returns-clause-undo : goal.returns-clause-undo
returns-clause-undo c = abreast-undo

pub returns-clause-alike : goal.returns-clause-alike
returns-clause-alike c = abreast-alike

pub returns-clause-restored : goal.returns-clause-restored
returns-clause-restored c = abreast-restored
