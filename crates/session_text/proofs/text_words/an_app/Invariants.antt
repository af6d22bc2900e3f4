use Rattle.std.proofs.Common.{◌≡◌, map, drop, string_bytes}
use Rattle.lego_model.specs.SessionWords.{place_among}
use Rattle.session_text.proofs.text_words.an_app.Given as goal

abbrev pub invariant-loop-place : goal.invariant-loop-place
invariant-loop-place l =
    place_among l.place (map (λ s. string_bytes s) (drop l.place l.names)) l.word ≡ place_among 0 (map (λ s. string_bytes s) l.names) l.word
