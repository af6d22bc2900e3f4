use Rattle.std.proofs.Common.{rules, ◌≡◌, true, string_bytes}
use Rattle.outside.specs.Seen.{Shown}
use Rattle.session_record.specs.laws.PushLaws.{first_more_so}
use Rattle.session_record.proofs.whole_text.push_stimuli.Goals as goal

pub loop-number-preserved : goal.loop-number-preserved
loop-number-preserved g c =
    let more : c.in_ok-push_next.field-0 ≡ true = search (rules, c.if-not-branch.false) in
    first_more_so (Shown g.W.World.Tells (g.W.World.seen c.args.world.now)) (g.W.World.seen c.args.world.now) c.loop-number.number (string_bytes c.args.out.now) (string_bytes c.loop-number.out) (string_bytes c.push_next.new.out)
    c.in_ok-push_next.field-0 more c.loop-number.invariant c.in_ok-push_next.ensures
