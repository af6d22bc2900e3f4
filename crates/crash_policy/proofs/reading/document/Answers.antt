use Rattle.std.proofs.Common.{◌≡◌, inl, inr, None, sym, ◌∙◌}
use Rattle.std.proofs.lemmas.Bool.{cases_Bool, false≢true}
use Rattle.std.proofs.lemmas.Str.{IsUtf8-from_is_utf8, is_utf8-from_IsUtf8}
use Rattle.std.specs.Str.{is_utf8}
use Rattle.toml.specs.Parse.{parse_document}
use Rattle.crash_policy.specs.Order.{document_of}
use Rattle.crash_policy.proofs.reading.document.Goals as goal

pub returns-in-Ok : goal.returns-in-Ok
unfolding document_of
returns-in-Ok c = rw (is_utf8-from_IsUtf8 c.args.text.now c.in-Ok.ensures.ok.0, c.in-Ok.ensures.ok.1)

pub returns-in-Err-2 : goal.returns-in-Err-2
unfolding document_of
returns-in-Err-2 c =
    let text = c.args.text.now in
    elim (cases_Bool (is_utf8 text)) [
      | inl is ↦
          let none : parse_document text ≡ None =
          c.in-Err.ensures.refused (λ memory. false≢true (sym c.if-is_memory.false ∙ c.is_memory.ensures.1 memory)) (IsUtf8-from_is_utf8 text is) in
          rw (is, none)
      | inr not_text ↦ rw not_text
    ]
