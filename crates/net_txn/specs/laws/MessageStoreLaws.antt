-- Messages that come behind others, one after the other.
use Rattle.std.specs.Prelude.{◌≡◌, ◌⊎◌, ℕ, Bool, true, false, List, [], ◌∷◌, ◌++◌, refl}
use Rattle.std.proofs.Common.{subst, inl, inr}
use Rattle.lego_model.specs.KeptMessages.{fits}
use Rattle.net_txn.specs.MessageStore.{KeptWhereFit}

pub where_fit_then : (ms ns : List (ℕ × List ℕ)) (kept mid now : List (ℕ × List ℕ)) → KeptWhereFit kept ms mid → KeptWhereFit mid ns now → KeptWhereFit kept (ms ++ ns) now
where_fit_then [] ns kept mid now first second = subst (λ (k : List (ℕ × List ℕ)). KeptWhereFit k ns now) first second
where_fit_then (m ∷ ms) ns kept mid now (inl one) second = inl (where_fit_then ms ns (kept ++ m ∷ []) mid now one second)
where_fit_then (m ∷ ms) ns kept mid now (inr none) second = inr (none.0, where_fit_then ms ns kept mid now none.1 second)

one_by : (fit : Bool) (m : ℕ × List ℕ) (kept now : List (ℕ × List ℕ)) → fits kept m.1 ≡ fit → (now ≡ kept ++ m ∷ []) ⊎ (now ≡ kept) → (fit ≡ true → now ≡ kept ++ m ∷ []) → KeptWhereFit kept (m ∷ []) now
one_by true m kept now is either when = inl (when refl)
one_by false m kept now is (inl one) when = inl one
one_by false m kept now is (inr none) when = inr (is, none)

-- one message was kept or dropped
pub where_fit_one : (m : ℕ × List ℕ) (kept now : List (ℕ × List ℕ)) → (now ≡ kept ++ m ∷ []) ⊎ (now ≡ kept) → (fits kept m.1 ≡ true → now ≡ kept ++ m ∷ []) → KeptWhereFit kept (m ∷ []) now
where_fit_one m kept now either when = one_by (fits kept m.1) m kept now refl either when
