-- A line that is written in pieces.
use Rattle.std.proofs.Common.{◌≡◌, ℕ, ◌+◌, List, ◌++◌, length, take, Option, refl, sym, ap, ◌∙◌, arith, length-append, codes, String, string_bytes}
use Rattle.std.proofs.lemmas.List.{take-append-le}
use Rattle.std.proofs.Math.Seq.{take-append-add}
use Rattle.std.specs.declared.alloc.Global.{Global}
use Rattle.std.specs.Io.KnownBytes.{append_known}
use Rattle.std.specs.Fmt.{decimal}
use Rattle.crash_policy.specs.declared.policy_fault.PolicyFault.{PolicyFault}
use Rattle.crash_policy.specs.declared.policy_fault.PolicyFault.TheVariants.{Text, UnknownKey, Missing, Range, Double, NoMemory}
use Rattle.lego_model.specs.declared.session.SessionFault.{SessionFault}
use Rattle.lego_model.specs.RunReport.{line_of}
use Rattle.legosdn.specs.declared.stop.InputRefusal.{InputRefusal}
use Rattle.legosdn.specs.declared.stop.InputRefusal.TheVariants.{Session}
use Rattle.legosdn.specs.Stops.{refusal_line, kind_word, fault_words, policy_words, policy_line}
use Rattle.lego_io.specs.Sink.{TookPart}
use Rattle.lego_io.specs.laws.ToldLaws.{append_known-append}

-- a part of the first of two
pub part_of_two : (old new : Option (List ℕ)) (a b : List ℕ) → TookPart old new a → TookPart old new (a ++ b)
part_of_two old new a b part =
    (part.0, omega (arith, length-append a b, part.1), part.2 ∙ ap (append_known old) (sym (take-append-le part.0 a b (omega (arith, part.1)))))

-- the first of two, and a part of the second
pub part_behind : (old mid new : Option (List ℕ)) (a b : List ℕ) → mid ≡ append_known old a → TookPart mid new b → TookPart old new (a ++ b)
part_behind old mid new a b first part = (
  length a + part.0,
  omega (arith, length-append a b, part.1),
  part.2 ∙ ap (λ (told : Option (List ℕ)). append_known told (take part.0 b)) first ∙ sym (append_known-append old a (take part.0 b)) ∙ ap (append_known old) (sym (take-append-add a b part.0)),
)

pub part_of_second : (old mid new : Option (List ℕ)) (a b c : List ℕ) → mid ≡ append_known old a → TookPart mid new b → TookPart old new (a ++ b ++ c)
part_of_second old mid new a b c first part = part_of_two old new (a ++ b) c (part_behind old mid new a b first part)

pub part_of_third : (old mid late new : Option (List ℕ)) (a b c : List ℕ) → mid ≡ append_known old a → late ≡ append_known mid b → TookPart late new c → TookPart old new (a ++ b ++ c)
part_of_third old mid late new a b c first second part =
    part_behind old late new (a ++ b) c (second ∙ ap (λ (told : Option (List ℕ)). append_known told b) first ∙ sym (append_known-append old a b)) part

-- all three
pub whole_of_three : (old mid late new : Option (List ℕ)) (a b c : List ℕ) → mid ≡ append_known old a → late ≡ append_known mid b → new ≡ append_known late c → new ≡ append_known old (a ++ b ++ c)
whole_of_three old mid late new a b c first second third =
    third ∙ ap (λ (told : Option (List ℕ)). append_known told c) (second ∙ ap (λ (told : Option (List ℕ)). append_known told b) first)
    ∙ ap (λ (told : Option (List ℕ)). append_known told c) (sym (append_known-append old a b)) ∙ sym (append_known-append old (a ++ b) c)

-- the line of a session's fault, in its pieces
pub session_line : (refusal : InputRefusal) (fault : SessionFault) (end : List ℕ) → refusal ≡ Session fault → end ≡ line_of (codes " " ++ kind_word fault.kind)
    → refusal_line refusal ≡ codes "bad session " ++ decimal fault.line ++ end
unfolding refusal_line
session_line refusal fault end is said = rw (is, said) refl

-- the lines of a policy's faults, whole or in their pieces
pub text_line : (fault : PolicyFault) → fault ≡ Text → policy_line (policy_words fault) ≡ codes "bad policy text\n"
unfolding policy_words fault_words line_of
text_line fault is = rw is refl

pub memory_line : (fault : PolicyFault) → fault ≡ NoMemory → policy_line (policy_words fault) ≡ codes "bad policy no memory\n"
unfolding policy_words line_of
memory_line fault is = rw is refl

pub unknown_line : (fault : PolicyFault) (key : String Global) (bytes : List ℕ) → fault ≡ UnknownKey key → bytes ≡ string_bytes key → policy_line (policy_words fault) ≡ codes "bad policy unknown " ++ bytes ++ codes "\n"
unfolding policy_words fault_words line_of
unknown_line fault key bytes is said = rw (is, said) refl

pub missing_line : (fault : PolicyFault) (key : String Global) (bytes : List ℕ) → fault ≡ Missing key → bytes ≡ string_bytes key → policy_line (policy_words fault) ≡ codes "bad policy missing " ++ bytes ++ codes "\n"
unfolding policy_words fault_words line_of
missing_line fault key bytes is said = rw (is, said) refl

pub range_line : (fault : PolicyFault) (key : String Global) (bytes : List ℕ) → fault ≡ Range key → bytes ≡ string_bytes key → policy_line (policy_words fault) ≡ codes "bad policy range " ++ bytes ++ codes "\n"
unfolding policy_words fault_words line_of
range_line fault key bytes is said = rw (is, said) refl

pub double_line : (fault : PolicyFault) (key : String Global) (bytes : List ℕ) → fault ≡ Double key → bytes ≡ string_bytes key → policy_line (policy_words fault) ≡ codes "bad policy double " ++ bytes ++ codes "\n"
unfolding policy_words fault_words line_of
double_line fault key bytes is said = rw (is, said) refl
