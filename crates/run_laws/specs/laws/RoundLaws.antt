-- Laws of rounds: one round more, the last batch, and the whole.
use Rattle.std.proofs.Common.{◌≡◌, ◌==◌, ℕ, ◌+◌, ◌<◌, Bool, true, false, List, [], ◌∷◌, ◌++◌, length, refl, sym, ap, ◌∙◌, subst, arith}
use Rattle.std.proofs.lemmas.Bool.{ne_eqb, eq-eqb}
use Rattle.std.proofs.lemmas.List.{append-nil, length-append}
use Rattle.std.proofs.lemmas.List.Sums.{fold-append}
use Rattle.of_types.specs.declared.journal.WorldStim.{WorldStim}
use Rattle.flow_table.specs.View.{TableView}
use Rattle.lego_model.specs.Controller.{settle, settle_last, happen}
use Rattle.outside.specs.Seen.{Seen, Continues}
use Rattle.outside.specs.laws.StateLaws.{Conforming-before}
use Rattle.run_laws.specs.Engine.{Engine}
use Rattle.run_laws.specs.Moves.{Moved, Shown, ShownIdle, ShownOver, ShownRounds, ShownToEnd}
use Rattle.lego_model.specs.ReferenceRun.{round, rounds}
use Rattle.run_laws.specs.laws.MoveLaws.{moved-none, moved-then, moved-as}

-- no round
pub rounds-none : {Own : Type 0} (Tells : Type 0) (accepts : List TableView → Bool) (seen : Seen Own) (e : Engine) → ShownRounds Tells accepts 0 [] seen seen e e
rounds-none Tells accepts seen e = record {
  rounds_is = λ allows told keeps judges settled. record { stimuli = []; number_is = refl; moved = moved-none seen e settled };
}

-- one round more: a batch with its stimulus, and the events that wait then
pub rounds-more : {Own : Type 0} (Tells : Type 0) (accepts : List TableView → Bool) (number : ℕ) (first noted second : List ℕ) (a b c d : Seen Own) (e1 e2 e3 e4 : Engine)
    → Continues Tells b c → Continues Tells c d → ShownRounds Tells accepts number first a b e1 e2 → ShownIdle Tells noted b c e2 e3 → Shown Tells accepts [] settle second c d e3 e4
    → ShownRounds Tells accepts (number + 1) ((first ++ noted) ++ second) a d e1 e4
rounds-more Tells accepts number first noted second a b c d e1 e2 e3 e4 later last rs idle settles = record {
  rounds_is = λ allows told keeps judges settled.
      let keeps_c = Conforming-before told last keeps in
      let one = rs.rounds_is allows told (Conforming-before told later keeps_c) judges settled in
      let two = idle.happens told keeps_c one.moved.settled in
      let x = two.stimulus in
      let three = settles.moved allows told keeps judges two.moved.settled in
      let all = moved-then (one.stimuli ++ x ∷ []) [] (λ r. happen x (rounds allows one.stimuli r)) (settle allows) (first ++ noted) second a c d e1 e3 e4
      (moved-then one.stimuli (x ∷ []) (rounds allows one.stimuli) (happen x) first noted a b c e1 e2 e3 one.moved two.moved) three in
      record {
        stimuli = one.stimuli ++ x ∷ [];
        number_is = length-append one.stimuli (x ∷ []) ∙ ap (λ (n : ℕ). n + 1) one.number_is;
        moved = subst (λ (xs : List WorldStim). Moved xs (rounds allows (one.stimuli ++ x ∷ [])) ((first ++ noted) ++ second) a d e1 e4) (append-nil (one.stimuli ++ x ∷ []))
            (moved-as ((one.stimuli ++ x ∷ []) ++ []) (λ r. settle allows (happen x (rounds allows one.stimuli r))) (rounds allows (one.stimuli ++ x ∷ [])) ((first ++ noted) ++ second) a d e1 e4
            (λ said l r s. sym (fold-append (round allows) r one.stimuli (x ∷ []))) all);
      };
}

-- rounds are left behind fewer stimuli
left_over : (n most : ℕ) → n < most → (n == most) ≡ false
left_over n most few = ne_eqb n most (λ same. omega (arith, few, same))

all_taken : (n most : ℕ) → n ≡ most → (n == most) ≡ true
all_taken n most same = eq-eqb n most same

-- the last batch
pub rounds-end : {Own : Type 0} (Tells : Type 0) (accepts : List TableView → Bool) (number most : ℕ) (first noted second : List ℕ) (a b c d : Seen Own) (e1 e2 e3 e4 : Engine)
    → number < most → Continues Tells b c → Continues Tells c d → ShownRounds Tells accepts number first a b e1 e2 → ShownOver Tells noted b c e2 e3 → Shown Tells accepts [] settle second c d e3 e4
    → ShownToEnd Tells accepts most ((first ++ noted) ++ second) a d e1 e4
rounds-end Tells accepts number most first noted second a b c d e1 e2 e3 e4 few later last rs over settles = record {
  to_end = λ allows told keeps judges settled.
      let keeps_c = Conforming-before told last keeps in
      let one = rs.rounds_is allows told (Conforming-before told later keeps_c) judges settled in
      let two = over.moved told keeps_c one.moved.settled in
      let three = settles.moved allows told keeps judges two.settled in
      let all = moved-then (one.stimuli ++ []) [] (rounds allows one.stimuli) (settle allows) (first ++ noted) second a c d e1 e3 e4
      (moved-then one.stimuli [] (rounds allows one.stimuli) (λ r. r) first noted a b c e1 e2 e3 one.moved two) three in
      record {
        stimuli = one.stimuli;
        at_most = omega (arith, few, one.number_is);
        moved = subst (λ (spent : Bool). Moved one.stimuli (λ r. settle_last allows spent (rounds allows one.stimuli r)) ((first ++ noted) ++ second) a d e1 e4)
            (sym (left_over (length one.stimuli) most (omega (arith, few, one.number_is))))
            (subst (λ (xs : List WorldStim). Moved xs (λ r. settle allows (rounds allows one.stimuli r)) ((first ++ noted) ++ second) a d e1 e4) (append-nil one.stimuli)
            (subst (λ (xs : List WorldStim). Moved xs (λ r. settle allows (rounds allows one.stimuli r)) ((first ++ noted) ++ second) a d e1 e4) (append-nil (one.stimuli ++ [])) all));
      };
}

-- all rounds, each with a stimulus
pub rounds-spent : {Own : Type 0} (Tells : Type 0) (accepts : List TableView → Bool) (number most : ℕ) (text : List ℕ) (old new : Seen Own) (e now_e : Engine) → number ≡ most → ShownRounds Tells accepts number text old new e now_e → ShownToEnd Tells accepts most text old new e now_e
rounds-spent Tells accepts number most text old new e now_e all rs = record {
  to_end = λ allows told keeps judges settled.
      let one = rs.rounds_is allows told keeps judges settled in
      record {
        stimuli = one.stimuli;
        at_most = omega (arith, all, one.number_is);
        moved = subst (λ (spent : Bool). Moved one.stimuli (λ r. settle_last allows spent (rounds allows one.stimuli r)) text old new e now_e)
            (sym (all_taken (length one.stimuli) most (one.number_is ∙ all))) one.moved;
      };
}
