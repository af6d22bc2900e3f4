use Rattle.std.proofs.Common.{◌≡◌, ◌+◌, ◌%◌, length, take, ap, ◌∙◌, arith}
use Rattle.std.proofs.lemmas.Grind.{common_steps}
use Rattle.std.proofs.lemmas.List.{take_all}
use Rattle.of_types.specs.Fields.{number_bytes}
use Rattle.of_action.specs.Spelling.{action_bytes}
use Rattle.of_action.proofs.Lengths.{low_half}
use Rattle.of_action.proofs.writing.put_vendor.Goals as goal

pub returns : goal.returns
unfolding action_bytes
returns c =
    let low : number_bytes 2 (length c.args.out.now % 65536) ≡ number_bytes 2 (length c.args.body.now + 4) = low_half _ ∙ ap (number_bytes 2) c.requires in
    let whole : take (4 + length c.args.body.now) c.put_bytes.new.bytes ≡ c.put_bytes.new.bytes = take_all _ _ (omega arith) in
    grind (arith, common_steps)
