use Rattle.std.proofs.Common.{sym, ap, ◌∙◌, map}
use Rattle.session_record.specs.laws.PushLaws.{attempt_pushed}
use Rattle.session_record.proofs.app_lines.push_attempt.Goals as goal

pub returns : goal.returns
returns c =
    attempt_pushed (λ s. s.now) _ _ _ _ c.args.bytes.now c.args.attempt.now c.deref.result.now (sym c.is_empty.ensures ∙ c.if-is_empty.false)
    (ap (λ parts. map (λ s. s.now) parts) c.deref.ensures.value ∙ c.in_ok-all.ensures) c.push_parts.ensures
