use Rattle.of_types.specs.laws.LayoutLaws.{IsLaidOut-spelled}
use Rattle.of_types.proofs.fields.law_of_layouts.Goals as goal

pub returns : goal.returns
returns c = IsLaidOut-spelled
