-- Laws of the lines of a run: the text of the reference controller's lines is what the engine prints.
use Rattle.std.proofs.Common.{◌≡◌, ℕ, Bool, true, false, List, [], ◌∷◌, ◌++◌, length, map, Option, refl, sym, ap, ◌∙◌, subst, append_assoc}
use Rattle.std.proofs.lemmas.List.{append-nil}
use Rattle.std.specs.List.{flat_map}
use Rattle.app_frames.specs.declared.cause.Tried.{Tried}
use Rattle.lego_model.specs.declared.turn.TurnWord.TheVariants as words
use Rattle.lego_model.specs.Turns.{Outcome, Completed, Failed}
use Rattle.lego_model.specs.Packets.{Held}
use Rattle.lego_model.specs.Controller.{Started, gone_line, out_lines}
use Rattle.lego_model.specs.RunReport.{out_line, start_line, gone_line as gone_line_of, outcome_word, name_of}
use Rattle.app_visor.specs.declared.state.TurnEnd.{TurnEnd}
use Rattle.app_visor.specs.declared.state.TurnEnd.TheVariants as ends
use Rattle.app_visor.specs.Turns.{IsEnd}
use Rattle.run_laws.specs.Facts.{gone_text, starts_text, turn_word, out_text}
use Rattle.run_laws.specs.LastReport.{lines_text}

gone_lines : (names : List (List ℕ)) (i : ℕ) (back : Bool) → lines_text names (gone_line i back) ≡ gone_text (name_of i names) back
gone_lines names i true = refl
gone_lines names i false = append-nil (gone_line_of (name_of i names))

-- the lines of attempts, of an application whose name is known
named_lines : (names : List (List ℕ)) (i : ℕ) (tries : List Tried) (back : Bool) → lines_text names (map (Started i) tries ++ gone_line i back) ≡ starts_text (name_of i names) tries back
named_lines names i [] back = gone_lines names i back
named_lines names i (t ∷ tries) back =
    ap (λ (text : List ℕ). start_line (name_of i names) t ++ text) (named_lines names i tries back)
    ∙ sym (append_assoc (start_line (name_of i names) t) (flat_map (start_line (name_of i names)) tries) (gone_text (name_of i names) back))

pub starts_lines : (names : List (List ℕ)) (i : ℕ) (name : List ℕ) → name_of i names ≡ name → (tries : List Tried) (back : Bool) → lines_text names (map (Started i) tries ++ gone_line i back) ≡ starts_text name tries back
starts_lines names i name known tries back = named_lines names i tries back ∙ ap (λ (n : List ℕ). starts_text n tries back) known

done_word : (stop : Bool) (checkpoint : Option (List ℕ)) (rest : List ℕ) → turn_word (ends.Done stop) ≡ outcome_word (Completed stop checkpoint rest)
done_word true checkpoint rest = refl
done_word false checkpoint rest = refl

-- how a turn ended
pub word_is : (end : TurnEnd) (unread : List ℕ) (outcome : Outcome) → IsEnd end unread outcome → turn_word end ≡ outcome_word outcome
word_is (ends.Done stop) unread (Completed stops checkpoint rest) is =
    subst (λ (b : Bool). turn_word (ends.Done stop) ≡ outcome_word (Completed b checkpoint rest)) is.0 (done_word stop checkpoint rest)
word_is (ends.Done stop) unread (Failed cause) is = absurd is
word_is (ends.Failed why) unread (Completed stops checkpoint rest) is = absurd is
word_is (ends.Failed why) unread (Failed cause) is = ap (λ c. words.Failed c) is

-- the lines of packets
pub outs_is : (names : List (List ℕ)) (packets : List Held) → out_text (map (λ h. (h.0, length h.1.payload)) packets) ≡ lines_text names (out_lines packets)
outs_is names [] = refl
outs_is names (h ∷ packets) = ap (λ (text : List ℕ). out_line h.0 (length h.1.payload) ++ text) (outs_is names packets)
