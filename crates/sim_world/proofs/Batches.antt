-- What follows about batches of messages.
use Rattle.std.proofs.Common.{◌≡◌, ◌==◌, ℕ, ◌<◌, ◌≤◌, Bool, false, List, [], ◌∷◌, ◌++◌, length, refl, sym, ap, subst, ◌∙◌, append_assoc, arith, length-append}
use Rattle.std.specs.Prelude.{IsTrue, ◌↔◌}
use Rattle.std.proofs.lemmas.Bool.{false≢true}
use Rattle.std.proofs.lemmas.List.{append-nil}
use Rattle.std.proofs.lemmas.List.Elements.{All-append, All-tail}
use Rattle.std.proofs.lemmas.Bool.Decides.{nat_tests}
use Rattle.sim_world.specs.LinkWaits.{joined, all_of, AreFilled, AreWaits}
use Rattle.switch_sim.specs.Readable.{AreShort}

-- filled batches have no message where there is no batch
none_joined : (later : List (List (List ℕ))) → AreFilled later → (length later == 0) ≡ (length (joined later) == 0)
none_joined [] filled = refl
none_joined (batch ∷ later) filled =
    let some : 0 < length batch = filled.0 in
    let all = length-append batch (joined later) in
    grind (arith, nat_tests)

pub none_behind : (current : List (List ℕ)) (later : List (List (List ℕ))) → length current ≡ 0 → AreFilled later → (length later == 0) ≡ (length (all_of current later) == 0)
none_behind [] later none filled = none_joined later filled
none_behind (message ∷ current) later none filled = absurd (omega arith)

joined-push : (later : List (List (List ℕ))) (batch : List (List ℕ)) → joined (later ++ batch ∷ []) ≡ joined later ++ batch
joined-push [] batch = append-nil batch
joined-push (first ∷ later) batch = ap (λ (rest : List (List ℕ)). first ++ rest) (joined-push later batch) ∙ sym (append_assoc first (joined later) batch)

filled-push : (later : List (List (List ℕ))) (batch : List (List ℕ)) → AreFilled later → 0 < length batch → AreFilled (later ++ batch ∷ [])
filled-push [] batch filled some = (some, tt)
filled-push (first ∷ later) batch filled some = (filled.0, filled-push later batch filled.1 some)

-- a batch more
pub AreWaits-push : (current : List (List ℕ)) (later : List (List (List ℕ))) (batch : List (List ℕ)) → AreWaits current later → 0 < length batch → AreShort batch → AreWaits current (later ++ batch ∷ [])
AreWaits-push current later batch waits some short = record {
  filled = filled-push later batch waits.filled some;
  short =
      subst AreShort (append_assoc current (joined later) batch ∙ ap (λ (rest : List (List ℕ)). current ++ rest) (sym (joined-push later batch)))
      (All-append (λ bytes. length bytes ≤ 65535) (all_of current later) batch waits.short short);
}

-- a message less
pub AreWaits-taken : (current rest_current : List (List ℕ)) (later rest_later : List (List (List ℕ))) (message : List ℕ) → AreWaits current later → AreFilled rest_later → all_of current later ≡ message ∷ all_of rest_current rest_later → AreWaits rest_current rest_later
AreWaits-taken current rest_current later rest_later message waits filled taken = record {
  filled = filled;
  short = All-tail (λ bytes. length bytes ≤ 65535) message (all_of rest_current rest_later) (subst AreShort taken waits.short);
}

-- a list that a test found not empty
pub some_of : (batch : List (List ℕ)) (b : Bool) → (IsTrue b ↔ (batch ≡ [])) → b ≡ false → 0 < length batch
some_of [] b test is_false = absurd (false≢true (sym is_false ∙ test.1 refl))
some_of (message ∷ batch) b test is_false = omega arith
