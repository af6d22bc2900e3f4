use Rattle.std.proofs.Common.{ap, ◌∙◌, map}
use Rattle.session_record.specs.laws.PushLaws.{app_pushed}
use Rattle.session_record.proofs.app_lines.push_app.Goals as goal

pub returns : goal.returns
returns c =
    app_pushed (λ s. s.now) _ _ _ _ c.args.bytes.now c.args.index c.args.deeds.now c.deref.result.now c.deref-2.result.now (c.deref.ensures.value ∙ c.in_ok-own.ensures)
    (ap (λ parts. map (λ s. s.now) parts) c.deref-2.ensures.value ∙ c.in_ok-all.ensures) c.push_attempts.ensures
