-- Lines with a fixed number of words, by that number.
use Rattle.std.proofs.Common.{◌≡◌, ℕ, ◌≤◌, ◌<◌, List, [], ◌∷◌, map, length, Err, get_or, Bor, refl, arith}
use Rattle.lego_model.specs.declared.session.SessionKind.TheVariants.{Word}
use Rattle.lego_model.specs.SessionLines.{SoFar, fixed_line, line_of_three, line_of_four, line_of_five}

pub three_words : (names : List (List ℕ)) (s : SoFar) (words : List (Bor (List ℕ))) (d : Bor (List ℕ)) → 3 ≤ length words → length words < 4
    → fixed_line names s (map (λ w. w.now) words) ≡ line_of_three names s (get_or words 0 d).now (get_or words 1 d).now (get_or words 2 d).now
unfolding fixed_line
three_words names s [] d least most = absurd (omega (arith, least))
three_words names s (a ∷ []) d least most = absurd (omega (arith, least))
three_words names s (a ∷ b ∷ []) d least most = absurd (omega (arith, least))
three_words names s (a ∷ b ∷ c ∷ []) d least most = refl
three_words names s (a ∷ b ∷ c ∷ e ∷ more) d least most = absurd (omega (arith, most))

pub four_words : (names : List (List ℕ)) (s : SoFar) (words : List (Bor (List ℕ))) (d : Bor (List ℕ)) → 4 ≤ length words → length words < 5
    → fixed_line names s (map (λ w. w.now) words) ≡ line_of_four s (get_or words 0 d).now (get_or words 1 d).now (get_or words 2 d).now (get_or words 3 d).now
unfolding fixed_line
four_words names s [] d least most = absurd (omega (arith, least))
four_words names s (a ∷ []) d least most = absurd (omega (arith, least))
four_words names s (a ∷ b ∷ []) d least most = absurd (omega (arith, least))
four_words names s (a ∷ b ∷ c ∷ []) d least most = absurd (omega (arith, least))
four_words names s (a ∷ b ∷ c ∷ e ∷ []) d least most = refl
four_words names s (a ∷ b ∷ c ∷ e ∷ f ∷ more) d least most = absurd (omega (arith, most))

pub five_words : (names : List (List ℕ)) (s : SoFar) (words : List (Bor (List ℕ))) (d : Bor (List ℕ)) → 5 ≤ length words → length words < 6
    → fixed_line names s (map (λ w. w.now) words) ≡ line_of_five s (get_or words 0 d).now (get_or words 1 d).now (get_or words 2 d).now (get_or words 3 d).now (get_or words 4 d).now
unfolding fixed_line
five_words names s [] d least most = absurd (omega (arith, least))
five_words names s (a ∷ []) d least most = absurd (omega (arith, least))
five_words names s (a ∷ b ∷ []) d least most = absurd (omega (arith, least))
five_words names s (a ∷ b ∷ c ∷ []) d least most = absurd (omega (arith, least))
five_words names s (a ∷ b ∷ c ∷ e ∷ []) d least most = absurd (omega (arith, least))
five_words names s (a ∷ b ∷ c ∷ e ∷ f ∷ []) d least most = refl
five_words names s (a ∷ b ∷ c ∷ e ∷ f ∷ g ∷ more) d least most = absurd (omega (arith, most))

pub more_words : (names : List (List ℕ)) (s : SoFar) (words : List (Bor (List ℕ))) → 6 ≤ length words → fixed_line names s (map (λ w. w.now) words) ≡ Err Word
unfolding fixed_line
more_words names s [] least = absurd (omega (arith, least))
more_words names s (a ∷ []) least = absurd (omega (arith, least))
more_words names s (a ∷ b ∷ []) least = absurd (omega (arith, least))
more_words names s (a ∷ b ∷ c ∷ []) least = absurd (omega (arith, least))
more_words names s (a ∷ b ∷ c ∷ e ∷ []) least = absurd (omega (arith, least))
more_words names s (a ∷ b ∷ c ∷ e ∷ f ∷ []) least = absurd (omega (arith, least))
more_words names s (a ∷ b ∷ c ∷ e ∷ f ∷ g ∷ more) least = refl
