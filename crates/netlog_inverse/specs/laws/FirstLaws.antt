-- What follows about the first image of a key since a mark: what is pushed never takes its place.
use Rattle.std.proofs.Common.{◌≡◌, ◌==◌, ℕ, zero, suc, ◌+◌, ◌≤◌, Bool, true, false, ◌&&◌, List, [], ◌∷◌, ◌++◌, length, map, drop, Option, Some, None, refl, sym, ap, ◌∙◌, arith, inl, inr}
use Rattle.std.proofs.lemmas.Bool.{cases_Bool, eqb-true, and_parts, or_cases, or_right}
use Rattle.std.proofs.lemmas.List.{drop-append-le, length-append}
use Rattle.std.specs.List.{list_any}
use Rattle.of_match.specs.declared.key.Key.{Key}
use Rattle.of_match.specs.Key.{key_number}
use Rattle.netlog_inverse.specs.declared.image.Image.{Image}
use Rattle.netlog_inverse.specs.declared.image.Logged.{Logged}
use Rattle.netlog_inverse.specs.declared.image.PutBack.{PutBack}
use Rattle.netlog_inverse.specs.declared.image.PutBack.TheVariants.{Row, Config, Settings}
use Rattle.netlog_inverse.specs.Log.{is_one_place, is_of, logged_at, with_image, pushed}
use Rattle.netlog_inverse.specs.Meaning.{is_at, is_image_of, first_at, first_or}

-- ---- First images of longer logs

first_or-assoc : (a b c : Option Image) → first_or (first_or a b) c ≡ first_or a (first_or b c)
first_or-assoc None b c = refl
first_or-assoc (Some i) b c = refl

first_or-none : (a : Option Image) → first_or a None ≡ a
first_or-none None = refl
first_or-none (Some i) = refl

pub first_at-takes : (d : ℕ) (k : Key) (l : Logged) (log : List Logged) → is_image_of d k l ≡ true → first_at d k (l ∷ log) ≡ Some l.image
first_at-takes d k l log is = rw is refl

pub first_at-skips : (d : ℕ) (k : Key) (l : Logged) (log : List Logged) → is_image_of d k l ≡ false → first_at d k (l ∷ log) ≡ first_at d k log
first_at-skips d k l log is = rw is refl

pub first_at-append : (d : ℕ) (k : Key) (xs ys : List Logged) → first_at d k (xs ++ ys) ≡ first_or (first_at d k xs) (first_at d k ys)
first_at-append d k [] ys = refl
first_at-append d k (x ∷ xs) ys =
    elim (cases_Bool (is_image_of d k x)) [
      | inl is ↦ rw (first_at-takes d k x (xs ++ ys) is, first_at-takes d k x xs is) refl
      | inr other ↦ rw (first_at-skips d k x (xs ++ ys) other, first_at-skips d k x xs other) (first_at-append d k xs ys)
    ]

-- ---- Images of one place are images of the same keys

at-one_place : (k : Key) (a b : PutBack) → is_one_place a b ≡ true → is_at k a ≡ is_at k b
at-one_place k (Row l row lost) (Row m other more) same = ap (λ (p : ℕ). p == key_number k) (eqb-true (key_number l) (key_number m) same)
at-one_place k (Row l row lost) (Config port config) same = absurd cc
at-one_place k (Row l row lost) (Settings flags len) same = absurd cc
at-one_place k (Config port config) (Row l row lost) same = absurd cc
at-one_place k (Config port config) (Config other more) same = refl
at-one_place k (Config port config) (Settings flags len) same = refl
at-one_place k (Settings flags len) (Row l row lost) same = absurd cc
at-one_place k (Settings flags len) (Config port config) same = refl
at-one_place k (Settings flags len) (Settings other more) same = refl

-- a key that has an image of the place has a first one
found : (d : ℕ) (k : Key) (put : PutBack) (log : List Logged) → is_at k put ≡ true → list_any (is_of d put) log ≡ true → (i : Image) × (first_at d k log ≡ Some i)
found d k put [] is some = absurd cc
found d k put (l ∷ log) is some =
    elim (cases_Bool (is_image_of d k l)) [
      | inl here ↦ (l.image, first_at-takes d k l log here)
      | inr other ↦ elim (or_cases (is_of d put l) (list_any (is_of d put) log) some) [
        | inl one ↦
            let both = and_parts (l.dpid == d) (is_one_place l.image.put put) one in
            let at : is_at k l.image.put ≡ true = at-one_place k l.image.put put both.1 ∙ is in
            let here : is_image_of d k l ≡ true = rw (both.0, at) refl in
            absurd cc
        | inr behind ↦ let (i, at) = found d k put log is behind in (i, first_at-skips d k l log other ∙ at)
      ]
    ]

-- more images behind are no other first one
first_or-kept : (a b : Option Image) (i : Image) → a ≡ Some i → a ≡ first_or a b
first_or-kept a b i is = rw is refl

first-pushed_one : (mark outer d e : ℕ) (k : Key) (log : List Logged) (i : Image) → outer ≤ mark → mark ≤ length log → first_at e k (drop outer (with_image mark d log i)) ≡ first_or (first_at e k (drop outer log)) (first_at e k (logged_at d i ∷ []))
unfolding with_image
first-pushed_one mark outer d e k log i le within =
    elim (cases_Bool (list_any (is_of d i.put) (drop mark log))) [
      | inr none ↦ rw none (
          ap (first_at e k) (drop-append-le outer log (logged_at d i ∷ []) (omega arith))
          ∙ first_at-append e k (drop outer log) (logged_at d i ∷ []))
      | inl some ↦ rw some (elim (cases_Bool (d == e && is_at k i.put)) [
        | inr other ↦ rw other (sym (first_or-none (first_at e k (drop outer log))))
        | inl this ↦
            let both = and_parts (d == e) (is_at k i.put) this in
            let same : d ≡ e = eqb-true d e both.0 in
            let (j, at) = found d k i.put (drop outer log) both.1 (further mark outer log (is_of d i.put) le some) in
            first_or-kept (first_at e k (drop outer log)) (first_at e k (logged_at d i ∷ [])) j (ap (λ (x : ℕ). first_at x k (drop outer log)) (sym same) ∙ at)
      ])
    ]
  where
    any-drop : (test : Logged → Bool) (n : ℕ) (xs : List Logged) → list_any test (drop n xs) ≡ true → list_any test xs ≡ true
    any-drop test zero xs some = some
    any-drop test (suc n) [] some = some
    any-drop test (suc n) (x ∷ xs) some = or_right (test x) (list_any test xs) (any-drop test n xs some)

    further : (mark outer : ℕ) (xs : List Logged) (test : Logged → Bool) → outer ≤ mark → list_any test (drop mark xs) ≡ true → list_any test (drop outer xs) ≡ true
    further mark zero xs test le some = any-drop test mark xs some
    further zero (suc outer) xs test le some = absurd (omega arith)
    further (suc mark) (suc outer) [] test le some = some
    further (suc mark) (suc outer) (x ∷ xs) test le some = further mark outer xs test (omega arith) some

length-with_image : (mark d : ℕ) (log : List Logged) (i : Image) → length log ≤ length (with_image mark d log i)
unfolding with_image
length-with_image mark d log i =
    elim (cases_Bool (list_any (is_of d i.put) (drop mark log))) [
      | inl some ↦ rw some (omega arith)
      | inr none ↦ rw none (omega (arith, length-append log (logged_at d i ∷ [])))
    ]

pub length-pushed : (mark d : ℕ) (images : List Image) (log : List Logged) → length log ≤ length (pushed mark d images log)
length-pushed mark d [] log = omega arith
length-pushed mark d (i ∷ images) log = omega (arith, length-with_image mark d log i, length-pushed mark d images (with_image mark d log i))

-- Since the mark and since each mark before it: the first image of a key stays, and where it has none it is the first one pushed.
pub first-pushed : (mark outer d e : ℕ) (k : Key) (images : List Image) (log : List Logged) → outer ≤ mark → mark ≤ length log → first_at e k (drop outer (pushed mark d images log)) ≡ first_or (first_at e k (drop outer log)) (first_at e k (map (logged_at d) images))
first-pushed mark outer d e k [] log le within = sym (first_or-none (first_at e k (drop outer log)))
first-pushed mark outer d e k (i ∷ images) log le within =
    first-pushed mark outer d e k images (with_image mark d log i) le (omega (arith, length-with_image mark d log i))
    ∙ ap (λ (a : Option Image). first_or a (first_at e k (map (logged_at d) images))) (first-pushed_one mark outer d e k log i le within)
    ∙ first_or-assoc (first_at e k (drop outer log)) (first_at e k (logged_at d i ∷ [])) (first_at e k (map (logged_at d) images))
    ∙ ap (first_or (first_at e k (drop outer log))) (sym (first_at-append e k (logged_at d i ∷ []) (map (logged_at d) images)))

length-with_image-most : (mark d : ℕ) (log : List Logged) (i : Image) → length (with_image mark d log i) ≤ length log + 1
unfolding with_image
length-with_image-most mark d log i =
    elim (cases_Bool (list_any (is_of d i.put) (drop mark log))) [
      | inl some ↦ rw some (omega arith)
      | inr none ↦ rw none (omega (arith, length-append log (logged_at d i ∷ [])))
    ]

-- what is pushed takes one place for each image at most
pub length-pushed-most : (mark d : ℕ) (images : List Image) (log : List Logged) → length (pushed mark d images log) ≤ length log + length images
length-pushed-most mark d [] log = omega arith
length-pushed-most mark d (i ∷ images) log = omega (arith, length-with_image-most mark d log i, length-pushed-most mark d images (with_image mark d log i))
