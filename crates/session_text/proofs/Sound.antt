-- A session that was read, by the names of the code.
use Rattle.std.proofs.Common.{◌≡◌, ℕ, List, length, map, Result, Ok, Err, IfOk, String, string_bytes, subst}
use Rattle.std.specs.Global.{Global}
use Rattle.std.proofs.lemmas.List.{length-map}
use Rattle.lego_model.specs.declared.session.Session.{Session}
use Rattle.session_text.specs.declared.text_fault.SessionError.{SessionError}
use Rattle.session_text.specs.TextGives.{TextGives}
use Rattle.session_text.specs.SessionView.{view_session}
use Rattle.lego_model.specs.SessionLines.{SessionValue}
use Rattle.lego_model.specs.SessionText.{session_text}
use Rattle.lego_model.specs.SessionFacts.{IsSession, IsOf}
use Rattle.lego_model.specs.laws.SessionTextLaws.{session_read}

session_of_names : (names : List (String Global)) (n : ℕ) (text : List ℕ) (s : SessionValue)
    → session_text (map (λ name. string_bytes name) names) n text ≡ Ok s → IsSession s × IsOf (length names) s
session_of_names names n text s read =
    let is = session_read (map (λ name. string_bytes name) names) n text s read in
    (is.0, subst (λ count. IsOf count s) (length-map names (λ (name : String Global). string_bytes name)) is.1)

pub sound : (names : List (String Global)) (n : ℕ) (text : List ℕ) (r : Result Session SessionError)
    → TextGives view_session r (session_text (map (λ name. string_bytes name) names) n text) → IfOk r (λ session. IsSession (view_session session))
sound names n text (Ok s) read = (session_of_names names n text (view_session s) read).0
sound names n text (Err fault) read = tt

pub named : (names : List (String Global)) (n : ℕ) (text : List ℕ) (r : Result Session SessionError)
    → TextGives view_session r (session_text (map (λ name. string_bytes name) names) n text) → IfOk r (λ session. IsOf (length names) (view_session session))
named names n text (Ok s) read = (session_of_names names n text (view_session s) read).1
named names n text (Err fault) read = tt
