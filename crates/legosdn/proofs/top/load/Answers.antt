use Rattle.std.proofs.Common.{map, string_bytes, sym, ap, ◌∙◌}
use Rattle.crash_policy.specs.Policies.{app_value}
use Rattle.lego_model.specs.Application.{names}
use Rattle.legosdn.specs.Input.{program_value, session_of}
use Rattle.legosdn.proofs.Loads.{loads, session_causes, spelled_behind}
use Rattle.legosdn.proofs.Runs.{loads_few}
use Rattle.legosdn.proofs.top.load.Goals as goal

pub returns-in_err-read_session-clause-why : goal.returns-in_err-read_session-clause-why
returns-in_err-read_session-clause-why g c =
    session_causes _ _ _ (program_value c.in_ok-program.program) c.in_ok-input.input.items c.in_ok-parts.parts.first_line c.in_ok-parts.parts.session.now (map (λ s. string_bytes s) c.deref-3.result.now) _ _
    c.in_err-read_session.field-0.0 c.from_residual-in_err-read_session.result c.from_residual-in_err-read_session.ensures.1
    (record {
      whole = c.in_ok-input.ensures.all;
      spelled = ap session_of (sym c.deref.ensures.value) ∙ spelled_behind (program_value c.in_ok-program.program) c.deref.result.now _ c.in_ok-parts.parts.policy.now _ _ _ (record { spelled = c.in_ok-parts.ensures.session; policy_is = c.in_ok-parts.ensures.policy }) c.in_ok-parts.ensures.found c.in_ok-program.ensures.taken;
      named = ap (λ texts. map (λ s. string_bytes s) texts) c.deref-3.ensures.value ∙ c.in_ok-names.ensures ∙ ap (λ apps. names (map app_value apps)) c.deref-2.ensures.value;
    })
    c.in_err-read_session.ensures.exact

pub returns-clause-loaded : goal.returns-clause-loaded
returns-clause-loaded g c =
    loads _ _ _ (program_value c.in_ok-program.program) c.in_ok-input.input.items c.in_ok-parts.parts.first_line c.in_ok-parts.parts.session.now (map (λ s. string_bytes s) c.deref-3.result.now)
    (record {
      whole = c.in_ok-input.ensures.all;
      spelled = ap session_of (sym c.deref.ensures.value) ∙ spelled_behind (program_value c.in_ok-program.program) c.deref.result.now _ c.in_ok-parts.parts.policy.now _ _ _ (record { spelled = c.in_ok-parts.ensures.session; policy_is = c.in_ok-parts.ensures.policy }) c.in_ok-parts.ensures.found c.in_ok-program.ensures.taken;
      named = ap (λ texts. map (λ s. string_bytes s) texts) c.deref-3.ensures.value ∙ c.in_ok-names.ensures ∙ ap (λ apps. names (map app_value apps)) c.deref-2.ensures.value;
    })
    c.in_ok-input.ensures.end c.in_ok-read_session.ensures.exact

pub returns-clause-few : goal.returns-clause-few
returns-clause-few g c = loads_few (map (λ s. string_bytes s) c.deref-3.result.now) c.in_ok-parts.parts.first_line c.in_ok-parts.parts.session.now _ c.in_ok-read_session.ensures.exact
