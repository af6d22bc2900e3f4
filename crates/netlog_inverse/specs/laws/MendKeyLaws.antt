-- What follows about the images of a key that are set right when its entry goes: one after the other they all are, and since each mark they say
-- what they said and that the entry went.
use Rattle.std.proofs.Common.{◌≡◌, ◌≢◌, ◌==◌, ◌&&◌, if◌then◌else◌, ℕ, zero, suc, ◌+◌, ◌-◌, ◌<◌, ◌≤◌, Bool, true, false, List, [], ◌∷◌, ◌++◌, length, drop, map, Option, Some, None, refl, sym, ap, ap₂, subst, ◌∙◌, arith, ◌⊎◌, inl, inr}
use Rattle.std.proofs.lemmas.Bool.{cases_Bool, cases_eq}
use Rattle.of_match.specs.declared.key.Key.{Key}
use Rattle.of_match.specs.Key.{key_number}
use Rattle.flow_table.specs.declared.entry.Entry.{Entry}
use Rattle.flow_table.specs.declared.lost.Lost.{Lost}
use Rattle.flow_table.specs.declared.view.ViewRow.{ViewRow}
use Rattle.flow_table.specs.Sorted.{at_place}
use Rattle.flow_table.specs.Table.{place_of}
use Rattle.undo_laws.specs.Log.{Inverse, Image as Said, Untouched, Absent, Gone, Acted, old_entry, merge, image_of, seen, with_actions}
use Rattle.undo_laws.specs.laws.LogLaws.{merge-untouched, image_of-one}
use Rattle.netlog_inverse.specs.declared.image.Image.{Image}
use Rattle.netlog_inverse.specs.declared.image.Logged.{Logged}
use Rattle.netlog_inverse.specs.declared.image.PutBack.{PutBack}
use Rattle.netlog_inverse.specs.declared.image.PutBack.TheVariants.{Row, Config, Settings}
use Rattle.netlog_inverse.specs.declared.index.Spot.{Spot}
use Rattle.netlog_inverse.specs.Index.{rank, spot_at, spots, IsIndex}
use Rattle.netlog_inverse.specs.Log.{mended, changed_at, with_lost_row}
use Rattle.netlog_inverse.specs.Marks.{IsFirstAt, IsSetRight, AreSetRightFor}
use Rattle.netlog_inverse.specs.Meaning.{entry_of, said, said_of, said_by, settled, is_image_of, first_at}
use Rattle.netlog_inverse.specs.Mending.{is_entry, is_standing, set_standing, set_right, map_first, IsLostOf}
use Rattle.netlog_inverse.specs.Messages.{hard_left}
use Rattle.netlog_inverse.specs.Next.{IsFirstFrom}
use Rattle.netlog_inverse.specs.laws.FirstLaws.{first_at-takes, first_at-skips}
use Rattle.netlog_inverse.specs.laws.MarkLaws.{is-mended, first-number, one-number, said-gone}
use Rattle.netlog_inverse.specs.laws.PlannedLaws.{old-here, old-there, image-number}

-- ---- One after the other

pub map_first-zero : {A : Type 0} (f : A → A) (xs : List A) → map_first 0 f xs ≡ xs
map_first-zero f [] = refl
map_first-zero f (x ∷ xs) = refl

drop-map_first : {A : Type 0} (n : ℕ) (f : A → A) (xs : List A) → drop n (map_first n f xs) ≡ drop n xs
drop-map_first n f [] = refl
drop-map_first zero f (x ∷ xs) = refl
drop-map_first (suc n) f (x ∷ xs) = drop-map_first n f xs

takes : (d : ℕ) (k : Key) (lost : Lost) (l : Logged) → is_image_of d k l ≡ true → set_right d k lost l ≡ set_standing lost l
unfolding set_right
takes d k lost l is = rw is refl

skips : (d : ℕ) (k : Key) (lost : Lost) (l : Logged) → is_image_of d k l ≡ false → set_right d k lost l ≡ l
unfolding set_right
skips d k lost l is = rw is refl

first-set : (d : ℕ) (k : Key) (lost : Lost) (p : ℕ) (log : List Logged) → IsFirstAt d k p log → changed_at p (set_standing lost) log ≡ map_first (suc p) (set_right d k lost) log
first-set d k lost p [] is = absurd is
first-set d k lost zero (l ∷ log) is = ap₂ (λ (x : Logged) (xs : List Logged). x ∷ xs) (sym (takes d k lost l is)) (sym (map_first-zero (set_right d k lost) log))
first-set d k lost (suc p) (l ∷ log) is = ap₂ (λ (x : Logged) (xs : List Logged). x ∷ xs) (sym (skips d k lost l is.0)) (first-set d k lost p log is.1)

next-set : (d : ℕ) (k : Key) (lost : Lost) (from p at : ℕ) (log : List Logged) → at ≡ from + p → IsFirstAt d k p (drop from log) → changed_at at (set_standing lost) (map_first from (set_right d k lost) log) ≡ map_first (suc at) (set_right d k lost) log
next-set d k lost from p at [] sum is = refl
next-set d k lost zero p at (l ∷ log) sum is =
    let same : at ≡ p = omega arith in
    ap (λ (n : ℕ). changed_at n (set_standing lost) (l ∷ log)) same ∙ first-set d k lost p (l ∷ log) is ∙ ap (λ (n : ℕ). map_first (suc n) (set_right d k lost) (l ∷ log)) (sym same)
next-set d k lost (suc from) p zero (l ∷ log) sum is = absurd (omega arith)
next-set d k lost (suc from) p (suc at) (l ∷ log) sum is = ap (λ (xs : List Logged). set_right d k lost l ∷ xs) (next-set d k lost from p at log (omega arith) is)

pub mend-more : (d : ℕ) (k : Key) (lost : Lost) (from at : ℕ) (log now : List Logged) → now ≡ map_first from (set_right d k lost) log → IsFirstFrom d k from now (Some at)
    → changed_at at (set_standing lost) now ≡ map_first (at + 1) (set_right d k lost) log
mend-more d k lost from at log now is first =
    let rest : drop from now ≡ drop from log = ap (drop from) is ∙ drop-map_first from (set_right d k lost) log in
    let there : IsFirstAt d k (at - from) (drop from log) = subst (λ (xs : List Logged). IsFirstAt d k (at - from) xs) rest first.1 in
    let next : suc at ≡ at + 1 = omega arith in
    ap (changed_at at (set_standing lost)) is
    ∙ next-set d k lost from (at - from) at log (omega (arith, first.0)) there
    ∙ ap (λ (n : ℕ). map_first n (set_right d k lost) log) next

none-set : (d : ℕ) (k : Key) (lost : Lost) (log : List Logged) → first_at d k log ≡ None → map (set_right d k lost) log ≡ log
none-set d k lost [] none = refl
none-set d k lost (l ∷ log) none =
    elim (cases_Bool (is_image_of d k l)) [
      | inl is ↦ let bad = sym (first_at-takes d k l log is) ∙ none in absurd cc
      | inr other ↦ ap₂ (λ (x : Logged) (xs : List Logged). x ∷ xs) (skips d k lost l other) (none-set d k lost log (sym (first_at-skips d k l log other) ∙ none))
    ]

all-set : (d : ℕ) (k : Key) (lost : Lost) (from : ℕ) (log : List Logged) → first_at d k (drop from log) ≡ None → map_first from (set_right d k lost) log ≡ map (set_right d k lost) log
all-set d k lost from [] none = refl
all-set d k lost zero (l ∷ log) none = sym (none-set d k lost (l ∷ log) none)
all-set d k lost (suc from) (l ∷ log) none = ap (λ (xs : List Logged). set_right d k lost l ∷ xs) (all-set d k lost from log none)

pub mend-all : (d : ℕ) (k : Key) (lost : Lost) (from : ℕ) (log now : List Logged) → now ≡ map_first from (set_right d k lost) log → IsFirstFrom d k from now None → now ≡ map (set_right d k lost) log
mend-all d k lost from log now is none =
    is ∙ all-set d k lost from log (sym (ap (first_at d k) (ap (drop from) is ∙ drop-map_first from (set_right d k lost) log)) ∙ none)

pub first-within : (d : ℕ) (k : Key) (from at : ℕ) (log : List Logged) → IsFirstFrom d k from log (Some at) → at < length log
first-within d k from at log first = within from at log first.0 first.1
  where
    small : (p : ℕ) (log : List Logged) → IsFirstAt d k p log → p < length log
    small p [] is = absurd is
    small zero (l ∷ log) is = omega arith
    small (suc p) (l ∷ log) is = omega (arith, small p log is.1)

    within : (from at : ℕ) (log : List Logged) → from ≤ at → IsFirstAt d k (at - from) (drop from log) → at < length log
    within zero at log le is = omega (arith, small (at - 0) log is)
    within (suc from) at [] le is = absurd is
    within (suc from) zero (l ∷ log) le is = absurd (omega arith)
    within (suc from) (suc at) (l ∷ log) le is =
        let same : suc at - suc from ≡ at - from = omega arith in
        omega (arith, within from at log (omega arith) (subst (λ (n : ℕ). IsFirstAt d k n (drop from log)) same is))

-- ---- The index stays

standing-cases : (lost : Lost) (l : Logged) → (set_standing lost l ≡ mended (Some lost) (hard_left lost.hard lost.age) false l) ⊎ (set_standing lost l ≡ l)
unfolding set_standing
standing-cases lost l =
    elim (cases_Bool (is_standing l.image)) [
      | inl is ↦ inl (rw is refl)
      | inr other ↦ inr (rw other refl)
    ]

mended-spot : (i hard : ℕ) (lost : Option Lost) (l : Logged) → spot_at i (mended lost hard false l).dpid (mended lost hard false l).image.put ≡ spot_at i l.dpid l.image.put
unfolding mended
mended-spot i hard lost l = same_spot l.image.put
  where
    same_spot : (put : PutBack) → spot_at i l.dpid (with_lost_row lost put) ≡ spot_at i l.dpid put
    same_spot (Row k row before) = refl
    same_spot (Config port config) = refl
    same_spot (Settings flags len) = refl

set-spot : (i : ℕ) (lost : Lost) (l : Logged) → spot_at i (set_standing lost l).dpid (set_standing lost l).image.put ≡ spot_at i l.dpid l.image.put
set-spot i lost l =
    elim (standing-cases lost l) [
      | inl is ↦ rw is (mended-spot i (hard_left lost.hard lost.age) (Some lost) l)
      | inr same ↦ rw same refl
    ]

spots-set : (i at : ℕ) (lost : Lost) (log : List Logged) → spots i (changed_at at (set_standing lost) log) ≡ spots i log
spots-set i at lost [] = refl
spots-set i zero lost (l ∷ log) = ap (λ (ss : List Spot). ss ++ spots (i + 1) log) (set-spot i lost l)
spots-set i (suc at) lost (l ∷ log) = ap (λ (ss : List Spot). spot_at i l.dpid l.image.put ++ ss) (spots-set (i + 1) at lost log)

pub index-set : (at : ℕ) (lost : Lost) (log : List Logged) (index : List Spot) → IsIndex log index → IsIndex (changed_at at (set_standing lost) log) index
index-set at lost log index h =
    let same = spots-set 0 at lost log in
    record { in_order = h.in_order; same = λ n. h.same n ∙ ap (at_place rank n) (sym same); long = h.long ∙ ap length (sym same) }

set-all : (d : ℕ) (k : Key) (lost : Lost) (i : ℕ) (log : List Logged) → spots i (map (set_right d k lost) log) ≡ spots i log
set-all d k lost i [] = refl
set-all d k lost i (l ∷ log) =
    ap₂ (λ (ss ts : List Spot). ss ++ ts)
    (elim (cases_Bool (is_image_of d k l)) [
      | inl is ↦ ap (λ (x : Logged). spot_at i x.dpid x.image.put) (takes d k lost l is) ∙ set-spot i lost l
      | inr other ↦ ap (λ (x : Logged). spot_at i x.dpid x.image.put) (skips d k lost l other)
    ])
    (set-all d k lost (i + 1) log)

pub index-mapped : (d : ℕ) (k : Key) (lost : Lost) (log : List Logged) (index : List Spot) → IsIndex log index → IsIndex (map (set_right d k lost) log) index
index-mapped d k lost log index h =
    let same = set-all d k lost 0 log in
    record { in_order = h.in_order; same = λ n. h.same n ∙ ap (at_place rank n) (sym same); long = h.long ∙ ap length (sym same) }

-- ---- Since each mark

drop-map : {A B : Type 0} (n : ℕ) (f : A → B) (xs : List A) → drop n (map f xs) ≡ map f (drop n xs)
drop-map zero f xs = refl
drop-map (suc n) f [] = refl
drop-map (suc n) f (x ∷ xs) = drop-map n f xs

same-image : (d e : ℕ) (k l : Key) (lost : Lost) (x : Logged) → is_image_of e l (set_right d k lost x) ≡ is_image_of e l x
same-image d e k l lost x =
    elim (cases_Bool (is_image_of d k x)) [
      | inr other ↦ ap (is_image_of e l) (skips d k lost x other)
      | inl is ↦ ap (is_image_of e l) (takes d k lost x is) ∙ elim (standing-cases lost x) [
        | inl mends ↦ ap (is_image_of e l) mends ∙ is-mended e l (Some lost) (hard_left lost.hard lost.age) false x
        | inr same ↦ ap (is_image_of e l) same
      ]
    ]

-- the first image of a key later is the one from before, set right
pub first-set_right : (d e : ℕ) (k l : Key) (lost : Lost) (log : List Logged) → ((first_at e l log ≡ None) × (first_at e l (map (set_right d k lost) log) ≡ None))
    ⊎ ((x : Logged) × (is_image_of e l x ≡ true) × (first_at e l log ≡ Some x.image) × (first_at e l (map (set_right d k lost) log) ≡ Some (set_right d k lost x).image))
first-set_right d e k l lost [] = inl (refl, refl)
first-set_right d e k l lost (x ∷ log) =
    elim (cases_Bool (is_image_of e l x)) [
      | inl is ↦ inr (x, is, first_at-takes e l x log is, first_at-takes e l (set_right d k lost x) (map (set_right d k lost) log) (same-image d e k l lost x ∙ is))
      | inr other ↦
          let was = first_at-skips e l x log other in
          let later = first_at-skips e l (set_right d k lost x) (map (set_right d k lost) log) (same-image d e k l lost x ∙ other) in
          elim (first-set_right d e k l lost log) [
            | inl none ↦ inl (was ∙ none.0, later ∙ none.1)
            | inr (y, at, before, after) ↦ inr (y, at, was ∙ before, later ∙ after)
          ]
    ]

-- an image for which no entry stands is not changed by what came later
not-acted : (now : ℕ) (stands : Bool) (put : PutBack) (newer : Said) → (stands && is_entry put) ≡ false → said_by now stands put ≢ Untouched → merge (said_by now stands put) newer ≡ said_by now stands put
not-acted now stands (Row m None lost) newer alone some = refl
not-acted now true (Row m (Some r) lost) newer alone some = absurd cc
not-acted now false (Row m (Some r) None) newer alone some = absurd (some refl)
not-acted now false (Row m (Some r) (Some lost)) newer alone some = refl
not-acted now stands (Config port config) newer alone some = absurd (some refl)
not-acted now stands (Settings flags len) newer alone some = absurd (some refl)

-- one for which an entry stands is that of a row
standing-row : (now : ℕ) (stands : Bool) (put : PutBack) → (stands && is_entry put) ≡ true → (stands ≡ true) × ((m : Key) × (r : ViewRow) × (before : Option Lost) × (put ≡ Row m (Some r) before) × (said_by now stands put ≡ Acted r.actions))
standing-row now true (Row m (Some r) lost) is = (refl, (m, r, lost, refl, refl))
standing-row now true (Row m None lost) is = absurd cc
standing-row now true (Config port config) is = absurd cc
standing-row now true (Settings flags len) is = absurd cc
standing-row now false put is = absurd cc

set_when : (lost : Lost) (l : Logged) → is_standing l.image ≡ true → set_standing lost l ≡ mended (Some lost) (hard_left lost.hard lost.age) false l
unfolding set_standing
set_when lost l is = rw is refl

stays_when : (lost : Lost) (l : Logged) → is_standing l.image ≡ false → set_standing lost l ≡ l
unfolding set_standing
stays_when lost l is = rw is refl

right_of : (now : ℕ) (a b : Option Image) (i j : Image) (newer : Said) → a ≡ Some i → b ≡ Some j → settled now (said now (Some j)) ≡ settled now (merge (said now (Some i)) newer) → IsSetRight now a newer b
right_of now a b i j newer first later right = rw (first, later) right

-- Since each mark, once the entry of a key goes and its images are set right, each image says what it said and that the entry went.
pub right-key : (now d : ℕ) (k : Key) (lost : Lost) (e : Entry) (since : List Logged) → place_of e ≡ key_number k → IsLostOf now d k lost e since → AreSetRightFor now d since (old_entry e ∷ []) (map (set_right d k lost) since)
right-key now d k lost e since place of l =
    elim (cases_eq (key_number k) (key_number l)) [
      | inl same ↦ here same
      | inr other ↦ there other
    ]
  where
    after : List Logged
    after = map (set_right d k lost) since

    here : key_number k ≡ key_number l → IsSetRight now (first_at d l since) (image_of l (old_entry e ∷ [])) (first_at d l after)
    here same =
        elim (first-set_right d d k l lost since) [
          | inl none ↦ rw (none.0, none.1) refl
          | inr (x, is, before, later) ↦
              let found : first_at d k since ≡ Some x.image = sym (first-number d k l since same) ∙ before in
              let newer : image_of l (old_entry e ∷ []) ≡ Gone (seen e) = image_of-one l (old_entry e) ∙ old-here e l (place ∙ same) in
              let taken : set_right d k lost x ≡ set_standing lost x = takes d k lost x (sym (image-number d k l x same) ∙ is) in
              right_of now (first_at d l since) (first_at d l after) x.image (set_right d k lost x).image (image_of l (old_entry e ∷ [])) before later
              (elim (cases_Bool (is_standing x.image)) [
                | inr alone ↦
                    let stays : set_right d k lost x ≡ x = taken ∙ stays_when lost x alone in
                    ap (λ (y : Logged). settled now (said now (Some y.image))) stays
                    ∙ ap (settled now) (sym (not-acted now x.image.stands x.image.put (image_of l (old_entry e ∷ [])) alone (of.say x.image found)))
                | inl stands ↦
                    let (stood, row) = standing-row now x.image.stands x.image.put stands in
                    let (m, r, older, put, acted) = row in
                    let hard : ℕ = hard_left lost.hard lost.age in
                    let gone : said now (Some (mended (Some lost) hard false x).image) ≡ Gone (entry_of now r lost) = said-gone now hard lost x m r older put in
                    ap (λ (y : Logged). settled now (said now (Some y.image))) (taken ∙ set_when lost x stands)
                    ∙ ap (settled now) gone
                    ∙ ap (λ (f : Entry). settled now (Gone f)) (of.entry x.image m r older found stood put)
                    ∙ ap₂ (λ (i j : Said). settled now (merge i j)) (sym acted) (sym newer)
              ])
        ]

    there : key_number k ≢ key_number l → IsSetRight now (first_at d l since) (image_of l (old_entry e ∷ [])) (first_at d l after)
    there other =
        elim (first-set_right d d k l lost since) [
          | inl none ↦ rw (none.0, none.1) refl
          | inr (x, is, before, later) ↦
              let newer : image_of l (old_entry e ∷ []) ≡ Untouched = image_of-one l (old_entry e) ∙ old-there e l (λ same. other (sym place ∙ same)) in
              let apart : is_image_of d k x ≡ false = (elim (cases_Bool (is_image_of d k x)) [
                | inr no_one ↦ no_one
                | inl both ↦ absurd (other (one-number d k l x both is))
              ]) in
              right_of now (first_at d l since) (first_at d l after) x.image (set_right d k lost x).image (image_of l (old_entry e ∷ [])) before later
              (ap (λ (y : Logged). settled now (said now (Some y.image))) (skips d k lost x apart)
              ∙ ap (settled now) (sym (merge-untouched (said now (Some x.image))) ∙ ap (merge (said now (Some x.image))) (sym newer)))
        ]

-- so it is behind each mark of a log
pub right-marks : (now d mark : ℕ) (k : Key) (lost : Lost) (e : Entry) (log : List Logged) → place_of e ≡ key_number k → IsLostOf now d k lost e (drop mark log)
    → AreSetRightFor now d (drop mark log) (old_entry e ∷ []) (drop mark (map (set_right d k lost) log))
right-marks now d mark k lost e log place of l =
    let same : drop mark (map (set_right d k lost) log) ≡ map (set_right d k lost) (drop mark log) = drop-map mark (set_right d k lost) log in
    rw same (right-key now d k lost e (drop mark log) place of l)
