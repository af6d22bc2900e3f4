-- What follows about images as `plan` makes them: pushed, cut off and set right they stay so, and each says something of its key.
use Rattle.std.proofs.Common.{◌≡◌, ◌≢◌, ◌==◌, ◌&&◌, if◌then◌else◌, ℕ, zero, suc, Bool, true, false, List, [], ◌∷◌, ◌++◌, map, filter, take, drop, Option, Some, None, refl, sym, ap, ◌∙◌, inl, inr}
use Rattle.std.proofs.lemmas.Bool.{cases_Bool}
use Rattle.std.specs.Prelude.{unwrap_or}
use Rattle.std.specs.List.{list_any, AllByRecursion}
use Rattle.of_match.specs.declared.key.Key.{Key}
use Rattle.of_stats.specs.declared.flow_row.FlowRow.{FlowRow}
use Rattle.of_wire.specs.declared.bodies.FlowMod.{FlowMod}
use Rattle.flow_table.specs.declared.lost.Lost.{Lost}
use Rattle.flow_table.specs.declared.view.ViewRow.{ViewRow}
use Rattle.flow_table.specs.Change.{key_in, is_modify}
use Rattle.flow_table.specs.Corrected.{row_at, lost_at}
use Rattle.undo_laws.specs.Log.{Untouched}
use Rattle.netlog_inverse.specs.declared.image.Image.{Image}
use Rattle.netlog_inverse.specs.declared.image.Logged.{Logged}
use Rattle.netlog_inverse.specs.declared.image.PutBack.{PutBack}
use Rattle.netlog_inverse.specs.declared.image.PutBack.TheVariants.{Row, Config, Settings}
use Rattle.netlog_inverse.specs.Log.{is_of, logged_at, with_image, pushed, mended, with_hard, with_lost_row}
use Rattle.netlog_inverse.specs.Meaning.{said, said_by, is_at, is_image_of, first_at}
use Rattle.netlog_inverse.specs.Mending.{is_entry, is_standing, set_standing, set_right}
use Rattle.netlog_inverse.specs.Messages.{removal, addition, modification, spelled_mod, hard_left}
use Rattle.netlog_inverse.specs.Next.{IsMadeAdd, IsMadePut, IsMade, AreMade}
use Rattle.netlog_inverse.specs.Plans.{adds_row, means_row, deletes_row, lost_of, nothing_stood, went, acted, counts_at, no_counts, went_by, acted_by, replaced, planned}
use Rattle.netlog_inverse.specs.laws.FirstLaws.{first_at-takes, first_at-skips}
use Rattle.netlog_inverse.specs.laws.MendLaws.{hard-mended}
use Rattle.netlog_inverse.specs.laws.WantedLaws.{made-first}

-- ---- What `plan` makes

lost-hard : (before : Option Lost) (hard : ℕ) (f : FlowRow) → (lost_of before hard f).hard ≡ hard
lost-hard None hard f = refl
lost-hard (Some lost) hard f = refl

made-went : (d : ℕ) (r : ViewRow) (lost : Lost) → lost.hard ≡ r.hard → IsMade (logged_at d (went r lost))
unfolding went
made-went d r lost same = (refl, λ bad. absurd cc, ap (λ (h : ℕ). spelled_mod (addition (hard_left h lost.age) r)) (sym same))

made-acted : (d : ℕ) (r : ViewRow) (lost : Option Lost) → IsMade (logged_at d (acted r lost))
unfolding acted
made-acted d r lost = (refl, λ stands. refl, (r.hard, refl))

made-nothing : (d : ℕ) (k : Key) (lost : Option Lost) → IsMade (logged_at d (nothing_stood k lost))
unfolding nothing_stood
made-nothing d k lost = refl

made-went_by : (d : ℕ) (cache : List (Key × Lost)) (fs : List FlowRow) (r : ViewRow) → IsMade (logged_at d (went_by cache fs r))
made-went_by d cache fs r = made-went d r (lost_of (lost_at r.key cache) r.hard (unwrap_or (counts_at r.key fs) (no_counts r))) (lost-hard (lost_at r.key cache) r.hard (unwrap_or (counts_at r.key fs) (no_counts r)))

made-replaced : (d : ℕ) (cache : List (Key × Lost)) (fs : List FlowRow) (k : Key) (o : Option ViewRow) → IsMade (logged_at d (replaced cache fs k o))
made-replaced d cache fs k None = made-nothing d k (lost_at k cache)
made-replaced d cache fs k (Some r) = made-went_by d cache fs r

made-all : (d : ℕ) (f : ViewRow → Image) → ((r : ViewRow) → IsMade (logged_at d (f r))) → (rs : List ViewRow) → AreMade (map (logged_at d) (map f rs))
made-all d f each [] = tt
made-all d f each (r ∷ rs) = (each r, made-all d f each rs)

pub made-planned : (d : ℕ) (m : FlowMod) (rs : List ViewRow) (cache : List (Key × Lost)) (fs : List FlowRow) → AreMade (map (logged_at d) (planned m rs cache fs))
unfolding planned
made-planned d m rs cache fs =
    elim (cases_Bool (adds_row m rs)) [
      | inl adds ↦ rw adds (made-replaced d cache fs (key_in m) (row_at (key_in m) rs), tt)
      | inr other ↦ rw other (elim (cases_Bool (is_modify m)) [
        | inl modifies ↦ rw modifies (made-all d (acted_by cache) (λ r. made-acted d r (lost_at r.key cache)) (filter (means_row m) rs))
        | inr deletes ↦ rw deletes (made-all d (went_by cache fs) (made-went_by d cache fs) (filter (deletes_row m) rs))
      ])
    ]

-- ---- What stays

made-append : (xs ys : List Logged) → AreMade xs → AreMade ys → AreMade (xs ++ ys)
made-append [] ys a b = b
made-append (x ∷ xs) ys a b = (a.0, made-append xs ys a.1 b)

made-with : (mark d : ℕ) (log : List Logged) (i : Image) → AreMade log → IsMade (logged_at d i) → AreMade (with_image mark d log i)
unfolding with_image
made-with mark d log i made one =
    elim (cases_Bool (list_any (is_of d i.put) (drop mark log))) [
      | inl some ↦ rw some made
      | inr none ↦ rw none (made-append log (logged_at d i ∷ []) made (one, tt))
    ]

pub made-pushed : (mark d : ℕ) (images : List Image) (log : List Logged) → AreMade log → AreMade (map (logged_at d) images) → AreMade (pushed mark d images log)
made-pushed mark d [] log made more = made
made-pushed mark d (i ∷ images) log made more = made-pushed mark d images (with_image mark d log i) (made-with mark d log i made more.0) more.1

pub made-drop : (n : ℕ) (log : List Logged) → AreMade log → AreMade (drop n log)
made-drop zero log made = made
made-drop (suc n) [] made = tt
made-drop (suc n) (l ∷ log) made = made-drop n log made.1

pub made-take : (n : ℕ) (log : List Logged) → AreMade log → AreMade (take n log)
made-take zero log made = tt
made-take (suc n) [] made = tt
made-take (suc n) (l ∷ log) made = (made.0, made-take n log made.1)

add-mended : (r : ViewRow) (before : Option Lost) (lost : Lost) (add : List ℕ) → IsMadeAdd true r before add → IsMadeAdd false r (Some lost) (with_hard (hard_left lost.hard lost.age) add)
add-mended r before lost add (hard, is) = ap (with_hard (hard_left lost.hard lost.age)) is ∙ hard-mended hard (hard_left lost.hard lost.age) r

made-mended : (lost : Lost) (l : Logged) (m : Key) (r : ViewRow) (before : Option Lost) → l.image.stands ≡ true → l.image.put ≡ Row m (Some r) before → IsMade l → IsMade (mended (Some lost) (hard_left lost.hard lost.age) false l)
unfolding mended
made-mended lost l m r before stands put made =
    let parts : IsMadePut l.image (Row m (Some r) before) = rw put at made in
    let add : IsMadeAdd true r before l.image.add = rw stands at parts.2 in
    rw put (parts.0, λ bad. absurd cc, add-mended r before lost l.image.add add)

standing-put : (stands : Bool) (put : PutBack) → (stands && is_entry put) ≡ true → (stands ≡ true) × ((m : Key) × (r : ViewRow) × (before : Option Lost) × (put ≡ Row m (Some r) before))
standing-put true (Row m (Some r) lost) is = (refl, (m, r, lost, refl))
standing-put true (Row m None lost) is = absurd cc
standing-put true (Config port config) is = absurd cc
standing-put true (Settings flags len) is = absurd cc
standing-put false put is = absurd cc

made-standing : (lost : Lost) (l : Logged) → IsMade l → IsMade (set_standing lost l)
unfolding set_standing
made-standing lost l made =
    elim (cases_Bool (is_standing l.image)) [
      | inr alone ↦ rw alone made
      | inl is ↦
          let (stands, row) = standing-put l.image.stands l.image.put is in
          let (m, r, before, put) = row in
          rw is (made-mended lost l m r before stands put made)
    ]

made-right : (d : ℕ) (k : Key) (lost : Lost) (l : Logged) → IsMade l → IsMade (set_right d k lost l)
unfolding set_right
made-right d k lost l made =
    elim (cases_Bool (is_image_of d k l)) [
      | inl is ↦ rw is (made-standing lost l made)
      | inr other ↦ rw other made
    ]

pub made-set_right : (d : ℕ) (k : Key) (lost : Lost) (log : List Logged) → AreMade log → AreMade (map (set_right d k lost) log)
made-set_right d k lost [] made = tt
made-set_right d k lost (l ∷ log) made = (made-right d k lost l made.0, made-set_right d k lost log made.1)

-- ---- Each says something

put-says : (now : ℕ) (i : Image) (stands : Bool) (put : PutBack) (k : Key) → is_at k put ≡ true → i.stands ≡ stands → IsMadePut i put → said_by now stands put ≢ Untouched
put-says now i true (Row m None lost) k is same made = λ bad. cc
put-says now i false (Row m None lost) k is same made = λ bad. cc
put-says now i true (Row m (Some r) lost) k is same made = λ bad. cc
put-says now i false (Row m (Some r) (Some lost)) k is same made = λ bad. cc
put-says now i false (Row m (Some r) None) k is same made = λ bad. absurd (none (rw same at made.2))
  where
    none : IsMadeAdd false r None i.add → ⊥
    none made = made
put-says now i true (Config port config) k is same made = absurd cc
put-says now i false (Config port config) k is same made = absurd cc
put-says now i true (Settings flags len) k is same made = absurd cc
put-says now i false (Settings flags len) k is same made = absurd cc

first-is_at : (d : ℕ) (k : Key) (log : List Logged) (i : Image) → first_at d k log ≡ Some i → is_at k i.put ≡ true
first-is_at d k [] i found = absurd cc
first-is_at d k (l ∷ log) i found =
    elim (cases_Bool (is_image_of d k l)) [
      | inl is ↦ let same : l.image ≡ i = some_image l.image i (sym (first_at-takes d k l log is) ∙ found) in rw same at (second (l.dpid == d) (is_at k l.image.put) is)
      | inr other ↦ first-is_at d k log i (sym (first_at-skips d k l log other) ∙ found)
    ]
  where
    some_image : (a b : Image) → Some a ≡ Some b → a ≡ b
    some_image a b is = cc

    second : (p q : Bool) → (p && q) ≡ true → q ≡ true
    second true q both = both
    second false q both = absurd cc

pub made-says : (now d : ℕ) (k : Key) (log : List Logged) (i : Image) → AreMade log → first_at d k log ≡ Some i → said now (Some i) ≢ Untouched
made-says now d k log i made found = put-says now i i.stands i.put k (first-is_at d k log i found) refl (made-first d k log i made found)
