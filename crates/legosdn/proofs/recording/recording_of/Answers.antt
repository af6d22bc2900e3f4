use Rattle.std.proofs.Common.{map, string_bytes, ap, ◌∙◌}
use Rattle.crash_policy.specs.Policies.{app_value}
use Rattle.lego_model.specs.Application.{names}
use Rattle.legosdn.proofs.Recordings.{spells}
use Rattle.legosdn.proofs.recording.recording_of.Goals as goal

pub returns : goal.returns
returns g c =
    spells g.W.World.Tells (g.W.World.seen c.args.live.now) (map app_value c.args.read.now.program.apps.items) _ c.args.read.now.text.items (string_bytes c.in_ok-remarks.remarks) c.in_ok-session.session _ _ _
    (g.W.Recorded.kept c.args.live.now) (λ out. out.items) c.text_of.result c.in_ok-remarks.ensures
    (ap (λ all. map (λ s. string_bytes s) all) c.deref-2.ensures.value ∙ c.in_ok-names.ensures ∙ ap (λ apps. names (map app_value apps)) c.deref.ensures.value) c.in_ok-session.ensures c.deref-3.ensures.value c.as_bytes.ensures.value c.as_slice-2.ensures c.text_of.ensures
