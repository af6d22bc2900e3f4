-- What was fed is what was handed out, and then what is held.
use Rattle.std.proofs.Common.{◌≡◌, ℕ, List, [], ◌∷◌, ◌++◌, sym, ap, ◌∙◌, append_assoc}
use Rattle.std.specs.Prelude.{All}
use Rattle.std.specs.List.{concat}
use Rattle.std.proofs.lemmas.List.{append-nil}
use Rattle.std.proofs.lemmas.List.Elements.{All-nil, All-cons}
use Rattle.of_stream.specs.Frames.{IsFrame, stream_of}
use Rattle.of_stream.specs.Runs.{Step, fed, handed_out, Leads, bytes_fed, frames_handed_out}

pub stream_of_run : (steps : List Step) (old new : List ℕ) → Leads steps old new → old ++ bytes_fed steps ≡ stream_of (frames_handed_out steps) new
stream_of_run [] old new leads = append-nil old ∙ sym leads
stream_of_run (fed bytes ∷ steps) old new leads = sym (append_assoc old bytes (bytes_fed steps)) ∙ stream_of_run steps (old ++ bytes) new leads
stream_of_run (handed_out frame ∷ steps) old new leads =
    let left = leads.1.0 in
    ap (λ (xs : List ℕ). xs ++ bytes_fed steps) leads.1.1 ∙ append_assoc frame left (bytes_fed steps)
    ∙ ap (λ (xs : List ℕ). frame ++ xs) (stream_of_run steps left new leads.1.2) ∙ sym (append_assoc frame (concat (frames_handed_out steps)) new)

pub frames_of_run : (steps : List Step) (old new : List ℕ) → Leads steps old new → All IsFrame (frames_handed_out steps)
frames_of_run [] old new leads = All-nil IsFrame
frames_of_run (fed bytes ∷ steps) old new leads = frames_of_run steps (old ++ bytes) new leads
frames_of_run (handed_out frame ∷ steps) old new leads =
    All-cons IsFrame frame (frames_handed_out steps) leads.0 (frames_of_run steps leads.1.0 new leads.1.2)
