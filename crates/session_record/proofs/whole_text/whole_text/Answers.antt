use Rattle.std.proofs.Common.{◌∙◌, string_bytes}
use Rattle.outside.specs.Seen.{Shown}
use Rattle.session_record.specs.laws.PushLaws.{whole_spelled}
use Rattle.session_record.proofs.whole_text.whole_text.Goals as goal

pub returns : goal.returns
returns g c =
    whole_spelled (Shown g.W.World.Tells (g.W.World.seen c.args.world.now)) (g.W.World.seen c.args.world.now) _ c.deref.result.now _ _ (string_bytes c.in_ok-out.out) (string_bytes c.push_switches.new.out) (string_bytes c.push_apps.new.out)
    (string_bytes c.push_faults.new.out) (string_bytes c.push_stimuli.new.out) c.list_of.result c.in_ok-out.ensures.ok (λ t. c.deref.ensures.value ∙ c.in_ok-switches.ensures t)
    c.in_ok-push_switches.ensures c.in_ok-push_apps.ensures c.in_ok-push_faults.ensures c.in_ok-push_stimuli.ensures c.list_of.ensures
