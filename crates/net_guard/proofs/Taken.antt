-- The row that a packet takes is the entry that it hits.
use Rattle.std.proofs.Common.{◌≡◌, ℕ, suc, ◌+◌, ◌-◌, ◌^◌, ◌<◌, ◌≤◌, Bool, true, false, not, List, [], ◌∷◌, map, filter, nat_lt, Option, Some, None, refl, sym, ap, ◌∙◌, subst, arith, inl, inr}
use Rattle.std.specs.Prelude.{find}
use Rattle.std.specs.List.{AllByRecursion, Contains}
use Rattle.std.specs.Option.{option_map, option_or}
use Rattle.std.proofs.lemmas.Bool.{cases_Bool, cases_lt, lt-ltb}
use Rattle.std.proofs.lemmas.List.Folds.{find-append}
use Rattle.std.proofs.lemmas.Grind.{common_steps}
use Rattle.std.proofs.Math.Nat.{mul-le-mul_right}
use Rattle.of_action.specs.declared.action.Action.{Action}
use Rattle.of_match.specs.Covers.{is_covering}
use Rattle.of_match.specs.Fields.{is_exact}
use Rattle.of_match.specs.Match.{fields_in}
use Rattle.of_match.specs.Key.{key_number}
use Rattle.of_match.specs.declared.key.Key.{Key}
use Rattle.of_match.specs.declared.packet_key.PacketKey.{PacketKey}
use Rattle.of_match.specs.laws.KeyLaws.{match-number-lt}
use Rattle.flow_table.specs.declared.entry.Entry.{Entry}
use Rattle.flow_table.specs.declared.view.ViewRow.{ViewRow}
use Rattle.flow_table.specs.RowKeys.{shown_row, held_entry}
use Rattle.flow_table.specs.Table.{place_of, AscendsFrom, IsTable}
use Rattle.flow_table.specs.Hit.{rank, best, better}
use Rattle.flow_table.specs.laws.HitLaws.{Contains-best, cases_Option}
use Rattle.net_guard.specs.Taking.{is_whole}
use Rattle.net_guard.specs.Carrying.{row_taken}
use Rattle.net_guard.proofs.Numbers.{Contains-cases, no_fewer}

-- ---- priorities fall in key order

abbrev Fits : Entry → Type 0
Fits e = e.key.priority ≤ 65535

falls : (a b : Key) → a.priority ≤ 65535 → b.priority ≤ 65535 → key_number a ≤ key_number b → b.priority ≤ a.priority
unfolding key_number
falls a b fits low le =
    elim (cases_lt a.priority b.priority) [
      | inl rises ↦
          let more = mul-le-mul_right {m = suc (65535 - b.priority)} {n = 65535 - a.priority} (256 ^ 40) (omega (arith, rises, fits, low)) in
          absurd (omega (arith, more, le, match-number-lt b.matching))
      | inr fall ↦ fall
    ]

later_falls : (e : Entry) (least : ℕ) (es : List Entry) (f : Entry) → Fits e → AllByRecursion Fits es → key_number e.key ≤ least → AscendsFrom least es → Contains es f → f.key.priority ≤ e.key.priority
later_falls e least [] f fits fit le sorted c = absurd (no_fewer f c)
later_falls e least (x ∷ xs) f fits fit le sorted c = elim (Contains-cases f x xs c) [
  | inl same ↦ subst (λ (y : Entry). y.key.priority ≤ e.key.priority) same (falls e.key x.key fits fit.0 (omega (arith, le, sorted.0)))
  | inr behind ↦ later_falls e (place_of x + 1) xs f fits fit.1 (omega (arith, le, sorted.0)) sorted.1 behind
]

-- ---- the entry that is hit is the first of those without a wildcard, or else the first of the others

abbrev exact : Entry → Bool
exact e = is_exact (fields_in e.key.matching)

abbrev covered : PacketKey → Entry → Bool
covered k e = is_covering e.key.matching k

abbrev first_by_rank : PacketKey → List Entry → Option Entry
first_by_rank k es = option_or (find (covered k) (filter exact es)) (find (covered k) (filter (λ e. not (exact e)) es))

rank_exact : (e : Entry) → exact e ≡ true → rank e ≡ 65536 + e.key.priority
unfolding rank
rank_exact e is = rw is refl

rank_other : (e : Entry) → exact e ≡ false → rank e ≡ e.key.priority
unfolding rank
rank_other e is = rw is refl

most_rank : (e : Entry) → rank e ≤ 65536 + e.key.priority
most_rank e = elim (cases_Bool (exact e)) [ inl is ↦ omega (arith, rank_exact e is) | inr is ↦ omega (arith, rank_other e is) ]

keeps : (e f : Entry) → rank f ≤ rank e → better e (Some f) ≡ Some e
keeps e f le = elim (cases_Bool (nat_lt (rank e) (rank f))) [ inl less ↦ absurd (grind (arith, common_steps, less, le)) | inr not_less ↦ rw not_less refl ]

gives_way : (e f : Entry) → rank e < rank f → better e (Some f) ≡ Some f
gives_way e f less = rw (lt-ltb (rank e) (rank f) less) refl

found_passes : (p : Entry → Bool) (q : Entry → Bool) (es : List Entry) (f : Entry) → find p (filter q es) ≡ Some f → q f ≡ true
found_passes p q [] f is = absurd cc
found_passes p q (e ∷ es) f is = elim (cases_Bool (q e)) [
  | inl passes ↦ elim (cases_Bool (p e)) [
    | inl here ↦ let same : e ≡ f = cc (rw (passes, here) at is) in ap q (sym same) ∙ passes
    | inr behind ↦ found_passes p q es f (rw (passes, behind) at is)
  ]
  | inr fails ↦ found_passes p q es f (rw fails at is)
]

best_covers : (k : PacketKey) (e : Entry) (es : List Entry) → covered k e ≡ true → best k (e ∷ es) ≡ better e (best k es)
unfolding best
best_covers k e es covers = rw covers refl

best_other : (k : PacketKey) (e : Entry) (es : List Entry) → covered k e ≡ false → best k (e ∷ es) ≡ best k es
unfolding best
best_other k e es other = rw other refl

-- an exact entry comes before all behind it
exact_first : (k : PacketKey) (e : Entry) (es : List Entry) → Fits e → AllByRecursion Fits es → exact e ≡ true → AscendsFrom (place_of e + 1) es → better e (best k es) ≡ Some e
exact_first k e es fits fit is sorted = elim (cases_Option (best k es)) [
  | inl none ↦ rw none refl
  | inr some ↦
      let f = some.0 in
      let less = later_falls e (place_of e + 1) es f fits fit (omega arith) sorted (Contains-best k es f some.1) in
      rw some.1 (keeps e f (omega (arith, less, most_rank f, rank_exact e is)))
]

-- another one comes before all others behind it, and behind each exact one
other_first : (k : PacketKey) (e : Entry) (es : List Entry) (w n : Option Entry) → Fits e → AllByRecursion Fits es → exact e ≡ false → AscendsFrom (place_of e + 1) es → best k es ≡ option_or w n
    → ((f : Entry) → w ≡ Some f → exact f ≡ true) → ((f : Entry) → n ≡ Some f → exact f ≡ false) → better e (best k es) ≡ option_or w (Some e)
other_first k e es (Some f) n fits fit is sorted best_is whole others = rw best_is (gives_way e f (omega (arith, fits, rank_other e is, rank_exact f (whole f refl))))
other_first k e es None None fits fit is sorted best_is whole others = rw best_is refl
other_first k e es None (Some f) fits fit is sorted best_is whole others =
    let less = later_falls e (place_of e + 1) es f fits fit (omega arith) sorted (Contains-best k es f best_is) in
    rw best_is (keeps e f (omega (arith, less, rank_other e is, rank_other f (others f refl))))

not_true : (b : Bool) → not b ≡ true → b ≡ false
not_true true is = absurd cc
not_true false is = refl

best_by_rank : (k : PacketKey) (es : List Entry) (least : ℕ) → AscendsFrom least es → AllByRecursion Fits es → best k es ≡ first_by_rank k es
unfolding best
best_by_rank k [] least sorted fit = refl
best_by_rank k (e ∷ es) least sorted fit =
    let rest = best_by_rank k es (place_of e + 1) sorted.1 fit.1 in
    elim (cases_Bool (covered k e)) [
      | inl covers ↦ best_covers k e es covers ∙ elim (cases_Bool (exact e)) [
        | inl is ↦ exact_first k e es fit.0 fit.1 is sorted.1 ∙ rw (is, covers) refl
        | inr is ↦
            other_first k e es (find (covered k) (filter exact es)) (find (covered k) (filter (λ x. not (exact x)) es)) fit.0 fit.1 is sorted.1 rest
            (λ f found. found_passes (covered k) exact es f found)
            (λ f found. not_true (exact f) (found_passes (covered k) (λ x. not (exact x)) es f found))
            ∙ rw (is, covers) refl
      ]
      | inr other ↦ best_other k e es other ∙ rest ∙ elim (cases_Bool (exact e)) [ inl is ↦ rw (is, other) refl | inr is ↦ rw (is, other) refl ]
    ]

-- ---- rows that show entries

same_found : (k : PacketKey) (test : Key → Bool) (es : List Entry) (rows : List ViewRow) → map held_entry es ≡ map shown_row rows
    → option_map held_entry (find (covered k) (filter (λ e. test e.key) es)) ≡ option_map shown_row (find (λ r. is_covering r.key.matching k) (filter (λ r. test r.key) rows))
same_found k test [] [] same = refl
same_found k test [] (r ∷ rows) same = absurd cc
same_found k test (e ∷ es) [] same = absurd cc
same_found k test (e ∷ es) (r ∷ rows) same =
    let here : held_entry e ≡ shown_row r = cc in
    let rest : map held_entry es ≡ map shown_row rows = cc in
    let key : e.key ≡ r.key = ap (λ (x : Key × List Action). x.0) here in
    let behind = same_found k test es rows rest in
    elim (cases_Bool (test e.key)) [
      | inl passes ↦
          let passes' : test r.key ≡ true = ap test (sym key) ∙ passes in
          elim (cases_Bool (covered k e)) [
            | inl covers ↦ let covers' : is_covering r.key.matching k ≡ true = ap (λ (x : Key). is_covering x.matching k) (sym key) ∙ covers in rw (passes, passes', covers, covers') (ap Some here)
            | inr other ↦ let other' : is_covering r.key.matching k ≡ false = ap (λ (x : Key). is_covering x.matching k) (sym key) ∙ other in rw (passes, passes', other, other') behind
          ]
      | inr fails ↦ let fails' : test r.key ≡ false = ap test (sym key) ∙ fails in rw (fails, fails') behind
    ]

either_found : (a b : Option Entry) (c d : Option ViewRow) → option_map held_entry a ≡ option_map shown_row c → option_map held_entry b ≡ option_map shown_row d → option_map held_entry (option_or a b) ≡ option_map shown_row (option_or c d)
either_found None b None d first second = second
either_found None b (Some r) d first second = absurd cc
either_found (Some e) b None d first second = absurd cc
either_found (Some e) b (Some r) d first second = first

-- a packet takes the row that shows the entry that it hits
pub taken_is_hit : (k : PacketKey) (es : List Entry) (rows : List ViewRow) → IsTable es → AllByRecursion (λ e. e.key.priority ≤ 65535) es → map held_entry es ≡ map shown_row rows
    → option_map held_entry (best k es) ≡ option_map shown_row (row_taken k rows)
unfolding row_taken
taken_is_hit k es rows sorted fit same =
    ap (λ (o : Option Entry). option_map held_entry o) (best_by_rank k es 0 sorted fit)
    ∙ either_found _ _ _ _ (same_found k (λ key. is_exact (fields_in key.matching)) es rows same) (same_found k (λ key. not (is_exact (fields_in key.matching))) es rows same)
    ∙ ap (λ (o : Option ViewRow). option_map shown_row o) (sym (find-append (λ (r : ViewRow). is_covering r.key.matching k) (filter is_whole rows) (filter (λ r. not (is_whole r)) rows)))
