-- Laws of reading a frame, whatever its kinds and bodies: what is decided stays, what a front is, and when a frame is yet to come.
use Rattle.std.proofs.Common.{◌≡◌, ℕ, zero, suc, ◌+◌, ◌-◌, ◌^◌, ◌<◌, ◌≤◌, Bool, true, false, cond, eqb, ltb, List, [], ◌++◌, length, take, drop, Option, Some, None, Result, Ok, Err, refl, sym, ap, subst, ◌∙◌, append_assoc, arith, inl, inr}
use Rattle.std.specs.Prelude.{◌⊎◌, ◌↔◌, IsSome, IfOk, IfSome}
use Rattle.std.proofs.lemmas.Bool.{ne_eqb, ltb-true, ltb-false, lt-ltb, le-ltb, cases_lt}
use Rattle.std.proofs.lemmas.List.{take_at, drop_at, take-append-le, length-append, length-drop, drop-append-le, length-take-le, take-append-drop}
use Rattle.of_types.specs.Fields.{number_at, number_bytes, piece, IsBytes}
use Rattle.of_types.specs.laws.FieldLaws.{number_at-take, number_at-number_bytes, number_bytes-number_at, length-number_bytes, length-piece, piece-append}
use Rattle.app_frames.specs.declared.fault.FrameFault.{FrameFault}
use Rattle.app_frames.specs.declared.fault.FrameFault.TheVariants.{TooLong, BadKind}
use Rattle.app_frames.specs.declared.fault.AppFrameError.{AppFrameError}
use Rattle.app_frames.specs.declared.fault.AppFrameError.TheVariants.{Refused, NoMemory}
use Rattle.app_frames.specs.Reading.{Reading, IsWhole, Gives, ◌>>=◌, is_above, length_of, known, kind_at, whole_at, front_of, by_table, frame_of, IsWithin, IsBegun, IsPartial}
use Rattle.app_frames.specs.Spelling.{framed}

-- ---- steps

-- a test that stopped at nothing
guard : {A : Type 0} (b : Bool) (stop go found : A) → ¬ (stop ≡ found) → cond b stop go ≡ found → (b ≡ false) × (go ≡ found)
guard true stop go found not e = absurd (not e)
guard false stop go found not e = (refl, e)

-- a step that found something
pub bind_found : {X Y : Type 0} (r : Reading X) (f : X → Reading Y) (y : Y) → (r >>= f) ≡ Ok (Some y) → (x : X) × (r ≡ Ok (Some x)) × (f x ≡ Ok (Some y))
bind_found (Ok (Some x)) f y e = (x, refl, e)
bind_found (Ok None) f y e = absurd cc
bind_found (Err fault) f y e = absurd cc

-- ---- what is decided stays, whatever follows

abbrev pub Stays : {X : Type 0} → (List ℕ → Reading X) → Type 0
Stays read = (bytes more : List ℕ) → ¬ (read bytes ≡ Ok None) → read (bytes ++ more) ≡ read bytes

number_at-append : (n at : ℕ) (bytes more : List ℕ) → at + n ≤ length bytes → number_at n at (bytes ++ more) ≡ number_at n at bytes
number_at-append n at bytes more within =
    sym (number_at-take n at (at + n) (bytes ++ more) (omega arith)) ∙ ap (λ (front : List ℕ). number_at n at front) (take-append-le (at + n) bytes more within) ∙ number_at-take n at (at + n) bytes (omega arith)

longer : (n : ℕ) (bytes more : List ℕ) → ltb (length bytes) n ≡ false → ltb (length (bytes ++ more)) n ≡ false
longer n bytes more t = let le = ltb-false _ _ t in le-ltb _ _ (omega (arith, le, length-append bytes more))

length_of_stays : (most : Option ℕ) → Stays (length_of most)
unfolding length_of
length_of_stays most bytes more decided = at (ltb (length bytes) 4) refl
  where
    at : (b : Bool) → ltb (length bytes) 4 ≡ b → length_of most (bytes ++ more) ≡ length_of most bytes
    at true t = absurd (decided (rw t refl))
    at false t =
        let le : 4 ≤ length bytes = ltb-false _ _ t in
        rw (t, longer 4 bytes more t, number_at-append 4 0 bytes more (omega (arith, le))) refl

kind_at_stays : {K : Type 0} (kind_of : ℕ → Option K) → Stays (kind_at kind_of)
unfolding kind_at
kind_at_stays kind_of bytes more decided = at (ltb (length bytes) 5) refl
  where
    at : (b : Bool) → ltb (length bytes) 5 ≡ b → kind_at kind_of (bytes ++ more) ≡ kind_at kind_of bytes
    at true t = absurd (decided (rw t refl))
    at false t =
        let le : 5 ≤ length bytes = ltb-false _ _ t in
        rw (t, longer 5 bytes more t, number_at-append 1 4 bytes more (omega (arith, le))) refl

whole_at_stays : (size : ℕ) → Stays (whole_at size)
unfolding whole_at
whole_at_stays size bytes more decided = at (ltb (length bytes) size) refl
  where
    at : (b : Bool) → ltb (length bytes) size ≡ b → whole_at size (bytes ++ more) ≡ whole_at size bytes
    at true t = absurd (decided (rw t refl))
    at false t = rw (t, longer size bytes more t) refl

bind_stays : {X Y : Type 0} (read : List ℕ → Reading X) (next : X → List ℕ → Reading Y) → Stays read → ((x : X) → Stays (next x)) → Stays (λ bytes. read bytes >>= λ x. next x bytes)
bind_stays {X} {Y} read next stays later bytes more decided = at (read bytes) refl
  where
    at : (r : Reading X) → read bytes ≡ r → (read (bytes ++ more) >>= λ x. next x (bytes ++ more)) ≡ (read bytes >>= λ x. next x bytes)
    at (Ok (Some x)) is =
        let there : read (bytes ++ more) ≡ Ok (Some x) = stays bytes more (λ none. absurd cc) ∙ is in
        rw (there, is) (later x bytes more (λ none. decided (rw is none)))
    at (Ok None) is = absurd (decided (rw is refl))
    at (Err fault) is =
        let there : read (bytes ++ more) ≡ Err fault = stays bytes more (λ none. absurd cc) ∙ is in
        rw (there, is) refl

pub front_of_stays : {K : Type 0} (most : Option ℕ) (kind_of : ℕ → Option K) → Stays (front_of most kind_of)
unfolding front_of
front_of_stays {K} most kind_of =
    bind_stays (length_of most) (λ said bytes. kind_at kind_of bytes >>= λ kind. whole_at (4 + said) bytes >>= λ size. Ok (Some (kind, size))) (length_of_stays most) (λ said.
    bind_stays (kind_at kind_of) (λ kind bytes. whole_at (4 + said) bytes >>= λ size. Ok (Some (kind, size))) (kind_at_stays kind_of) (λ kind.
    bind_stays (whole_at (4 + said)) (λ size bytes. Ok (Some (kind, size))) (whole_at_stays (4 + said)) (λ size bytes more decided. refl)))

-- ---- the front

-- what stands at the front, once all of it has come
pub record IsFront {K : Type 0} (most : Option ℕ) (kind_of : ℕ → Option K) (kind : K) (size : ℕ) (bytes : List ℕ) : Type 0 where
  pub some : 0 < number_at 4 0 bytes
  pub said : size ≡ 4 + number_at 4 0 bytes
  pub is_within : IsWithin most (number_at 4 0 bytes)
  pub kind_is : kind_of (number_at 1 4 bytes) ≡ Some kind
  pub whole : size ≤ length bytes

within_from : (most : Option ℕ) (said : ℕ) → is_above most said ≡ false → IsWithin most said
within_from None said t = tt
within_from (Some most) said t = ltb-false _ _ t

not_above : (most : Option ℕ) (said : ℕ) → IsWithin most said → is_above most said ≡ false
not_above None said within = refl
not_above (Some most) said within = le-ltb _ _ within

abbrev pub found : {X : Type 0} → X → Reading X
found x = Ok (Some x)

pub same_found : {X : Type 0} (x y : X) → found x ≡ found y → x ≡ y
same_found x y e = cc

length_found : (most : Option ℕ) (bytes : List ℕ) (said : ℕ) → length_of most bytes ≡ Ok (Some said) → (number_at 4 0 bytes ≡ said) × (0 < number_at 4 0 bytes) × IsWithin most (number_at 4 0 bytes)
unfolding length_of
length_found most bytes said e =
    let n = number_at 4 0 bytes in
    let last = cond (eqb n 0) (Err BadKind) (Ok (Some n)) in
    let a = guard (ltb (length bytes) 4) (Ok None) (cond (is_above most n) (Err TooLong) last) (Ok (Some said)) (λ h. absurd cc) e in
    let b = guard (is_above most n) (Err TooLong) last (Ok (Some said)) (λ h. absurd cc) a.1 in
    let c = guard (eqb n 0) (Err BadKind) (Ok (Some n)) (Ok (Some said)) (λ h. absurd cc) b.1 in
    (same_found n said c.1, positive n c.0, within_from most n b.0)
  where
    positive : (n : ℕ) → eqb n 0 ≡ false → 0 < n
    positive zero t = absurd cc
    positive (suc n) t = omega arith

not_zero : (n : ℕ) → 0 < n → eqb n 0 ≡ false
not_zero n lt = ne_eqb n 0 (λ e. omega (arith, e, lt))

known_found : {K : Type 0} (o : Option K) (kind : K) → known o ≡ Ok (Some kind) → o ≡ Some kind
known_found None kind e = absurd cc
known_found {K = K} (Some k) kind e = ap (λ (x : K). Some x) (same_found k kind e)

front_from : {K : Type 0} (most : Option ℕ) (kind_of : ℕ → Option K) (bytes : List ℕ) (front : K × ℕ) → front_of most kind_of bytes ≡ Ok (Some front) → IsFront most kind_of front.0 front.1 bytes
unfolding front_of kind_at whole_at
front_from {K} most kind_of bytes front e =
    let a = bind_found (length_of most bytes) (λ said. kind_at kind_of bytes >>= λ kind. whole_at (4 + said) bytes >>= λ size. Ok (Some (kind, size))) front e in
    let b = bind_found (kind_at kind_of bytes) (λ kind. whole_at (4 + a.0) bytes >>= λ size. Ok (Some (kind, size))) front a.2 in
    let c = bind_found (whole_at (4 + a.0) bytes) (λ size. Ok (Some (b.0, size))) front b.2 in
    let l = length_found most bytes a.0 a.1 in
    let k = guard (ltb (length bytes) 5) (Ok None) (known (kind_of (number_at 1 4 bytes))) (Ok (Some b.0)) (λ h. absurd cc) b.1 in
    let w = guard (ltb (length bytes) (4 + a.0)) (Ok None) (Ok (Some (4 + a.0))) (Ok (Some c.0)) (λ h. absurd cc) c.1 in
    let size : 4 + a.0 ≡ c.0 = same_found (4 + a.0) c.0 w.1 in
    let whole : 4 + a.0 ≤ length bytes = ltb-false _ _ w.0 in
    let made : K × ℕ = (b.0, c.0) in
    subst (λ (f : K × ℕ). IsFront most kind_of f.0 f.1 bytes) (same_found made front c.2) (record {
      some = l.1;
      said = omega (arith, size, l.0);
      is_within = l.2;
      kind_is = known_found (kind_of (number_at 1 4 bytes)) b.0 k.1;
      whole = omega (arith, size, whole);
    })

front_is : {K : Type 0} (most : Option ℕ) (kind_of : ℕ → Option K) (kind : K) (size : ℕ) (bytes : List ℕ) → IsFront most kind_of kind size bytes → front_of most kind_of bytes ≡ Ok (Some (kind, size))
unfolding front_of length_of kind_at whole_at
front_is most kind_of kind size bytes is =
    let n = number_at 4 0 bytes in
    let four : ltb (length bytes) 4 ≡ false = le-ltb _ _ (omega (arith, is.said, is.whole)) in
    let five : ltb (length bytes) 5 ≡ false = le-ltb _ _ (omega (arith, is.said, is.whole, is.some)) in
    let all : ltb (length bytes) (4 + n) ≡ false = le-ltb _ _ (omega (arith, is.said, is.whole)) in
    rw (four, not_above most n is.is_within, not_zero n is.some, five, is.kind_is, all, is.said) refl

-- ---- what is yet to come

bind_none : {X Y : Type 0} (r : Reading X) (f : X → Reading Y) → (r >>= f) ≡ Ok None → (r ≡ Ok None) ⊎ ((x : X) × (r ≡ Ok (Some x)) × (f x ≡ Ok None))
bind_none (Ok (Some x)) f e = inr (x, refl, e)
bind_none (Ok None) f e = inl refl
bind_none (Err fault) f e = absurd cc

-- a test that stopped, since nothing behind it does
stopped : {X : Type 0} (b : Bool) (go : Reading X) → ¬ (go ≡ Ok None) → cond b (Ok None) go ≡ Ok None → b ≡ true
stopped true go not e = refl
stopped false go not e = absurd (not e)

length_none : (most : Option ℕ) (bytes : List ℕ) → length_of most bytes ≡ Ok None → length bytes < 4
unfolding length_of
length_none most bytes e =
    let n = number_at 4 0 bytes in
    ltb-true _ _ (stopped (ltb (length bytes) 4) (cond (is_above most n) (Err TooLong) (cond (eqb n 0) (Err BadKind) (Ok (Some n)))) (decided (is_above most n) (eqb n 0) n) e)
  where
    decided : (above none : Bool) (n : ℕ) → ¬ (cond above (Err TooLong) (cond none (Err BadKind) (found n)) ≡ Ok None)
    decided true none n e = absurd cc
    decided false true n e = absurd cc
    decided false false n e = absurd cc

known_decided : {K : Type 0} (o : Option K) → ¬ (known o ≡ Ok None)
known_decided None e = absurd cc
known_decided (Some kind) e = absurd cc

kind_none : {K : Type 0} (kind_of : ℕ → Option K) (bytes : List ℕ) → kind_at kind_of bytes ≡ Ok None → length bytes < 5
unfolding kind_at
kind_none kind_of bytes e =
    ltb-true _ _ (stopped (ltb (length bytes) 5) (known (kind_of (number_at 1 4 bytes))) (known_decided (kind_of (number_at 1 4 bytes))) e)

kind_found : {K : Type 0} (kind_of : ℕ → Option K) (bytes : List ℕ) (kind : K) → kind_at kind_of bytes ≡ Ok (Some kind) → kind_of (number_at 1 4 bytes) ≡ Some kind
unfolding kind_at
kind_found kind_of bytes kind e =
    known_found (kind_of (number_at 1 4 bytes)) kind (guard (ltb (length bytes) 5) (Ok None) (known (kind_of (number_at 1 4 bytes))) (Ok (Some kind)) (λ h. absurd cc) e).1

whole_none : (size : ℕ) (bytes : List ℕ) → whole_at size bytes ≡ Ok None → length bytes < size
unfolding whole_at
whole_none size bytes e = ltb-true _ _ (stopped (ltb (length bytes) size) (Ok (Some size)) (λ h. absurd cc) e)

is_some_from : {K : Type 0} (o : Option K) (kind : K) → o ≡ Some kind → IsSome o
is_some_from None kind e = absurd cc
is_some_from (Some k) kind e = refl

pub partial_from : {K : Type 0} (most : Option ℕ) (kind_of : ℕ → Option K) (bytes : List ℕ) → front_of most kind_of bytes ≡ Ok None → IsPartial most kind_of bytes
unfolding front_of
partial_from {K} most kind_of bytes e four =
    elim (bind_none (length_of most bytes) (λ said. kind_at kind_of bytes >>= λ kind. whole_at (4 + said) bytes >>= λ size. Ok (Some (kind, size))) e) [
      | inl none ↦ let lt = length_none most bytes none in absurd (omega (arith, lt, four))
      | inr a ↦ let l = length_found most bytes a.0 a.1 in then_kind a.0 l.0 l.1 l.2 a.2
    ]
  where
    then_whole : (kind : K) (said : ℕ) → kind_of (number_at 1 4 bytes) ≡ Some kind → number_at 4 0 bytes ≡ said → 0 < number_at 4 0 bytes → IsWithin most (number_at 4 0 bytes)
        → (whole_at (4 + said) bytes >>= λ size. found {X = K × ℕ} (kind, size)) ≡ Ok None → IsBegun most kind_of bytes
    then_whole kind said is same some within e =
        elim (bind_none (whole_at (4 + said) bytes) (λ size. found {X = K × ℕ} (kind, size)) e) [
          | inl none ↦
              let lt = whole_none (4 + said) bytes none in
              record { some = some; within = within; kind = λ five. is_some_from (kind_of (number_at 1 4 bytes)) kind is; more = omega (arith, lt, same) }
          | inr a ↦ let h = a.2 in absurd cc
        ]

    then_kind : (said : ℕ) → number_at 4 0 bytes ≡ said → 0 < number_at 4 0 bytes → IsWithin most (number_at 4 0 bytes)
        → (kind_at kind_of bytes >>= λ kind. whole_at (4 + said) bytes >>= λ size. found {X = K × ℕ} (kind, size)) ≡ Ok None → IsBegun most kind_of bytes
    then_kind said same some within e =
        elim (bind_none (kind_at kind_of bytes) (λ kind. whole_at (4 + said) bytes >>= λ size. found {X = K × ℕ} (kind, size)) e) [
          | inl none ↦
              let lt = kind_none kind_of bytes none in
              record { some = some; within = within; kind = λ five. absurd (omega (arith, lt, five)); more = omega (arith, lt, some) }
          | inr a ↦ then_whole a.0 said (kind_found kind_of bytes a.0 a.1) same some within a.2
        ]

some_of : {K : Type 0} (o : Option K) → IsSome o → (kind : K) × (o ≡ Some kind)
some_of None is = absurd cc
some_of (Some kind) is = (kind, refl)

begun_none : {K : Type 0} (most : Option ℕ) (kind_of : ℕ → Option K) (bytes : List ℕ) → 4 ≤ length bytes → IsBegun most kind_of bytes → front_of most kind_of bytes ≡ Ok None
unfolding front_of length_of kind_at whole_at
begun_none most kind_of bytes there is =
    let n = number_at 4 0 bytes in
    let four = le-ltb (length bytes) 4 there in
    let above = not_above most n is.within in
    let zero = not_zero n is.some in
    elim (cases_lt (length bytes) 5) [
      | inl lt ↦ let five = lt-ltb (length bytes) 5 lt in rw (four, above, zero, five) refl
      | inr le ↦
          let five = le-ltb (length bytes) 5 le in
          let all = lt-ltb (length bytes) (4 + n) is.more in
          let kind = some_of (kind_of (number_at 1 4 bytes)) (is.kind le) in
          rw (four, above, zero, five, kind.1, all) refl
    ]

pub none_from : {K : Type 0} (most : Option ℕ) (kind_of : ℕ → Option K) (bytes : List ℕ) → IsPartial most kind_of bytes → front_of most kind_of bytes ≡ Ok None
unfolding front_of length_of
none_from most kind_of bytes is =
    elim (cases_lt (length bytes) 4) [
      | inl lt ↦ let four = lt-ltb (length bytes) 4 lt in rw four refl
      | inr le ↦ begun_none most kind_of bytes le (is le)
    ]

-- ---- the frame

-- where a whole frame came from
pub record IsRead {K X : Type 0} (most : Option ℕ) (kind_of : ℕ → Option K) (body_of : K → List ℕ → Option X) (frame : X) (size : ℕ) (bytes : List ℕ) : Type 0 where
  pub kind : K
  pub front : IsFront most kind_of kind size bytes
  pub body : body_of kind (piece (size - 5) 5 bytes) ≡ Some frame

by_table_found : {X : Type 0} (o : Option X) (x : X) → by_table o ≡ Ok (Some x) → o ≡ Some x
by_table_found None x e = absurd cc
by_table_found {X = X} (Some y) x e = ap (λ (z : X). Some z) (same_found y x e)

by_table_decided : {X : Type 0} (o : Option X) → ¬ (by_table o ≡ Ok None)
by_table_decided None e = absurd cc
by_table_decided (Some x) e = absurd cc

pub read_from : {K X : Type 0} (most : Option ℕ) (kind_of : ℕ → Option K) (body_of : K → List ℕ → Option X) (bytes : List ℕ) (frame : X) (size : ℕ) → frame_of most kind_of body_of bytes ≡ Ok (Some (frame, size)) → IsRead most kind_of body_of frame size bytes
unfolding frame_of
read_from {K} {X} most kind_of body_of bytes frame size e =
    let a = bind_found (front_of most kind_of bytes) (λ front. by_table (body_of front.0 (piece (front.1 - 5) 5 bytes)) >>= λ frame. found {X = X × ℕ} (frame, front.1)) (frame, size) e in
    let b = bind_found (by_table (body_of a.0.0 (piece (a.0.1 - 5) 5 bytes))) (λ frame. found {X = X × ℕ} (frame, a.0.1)) (frame, size) a.2 in
    let made : X × ℕ = (b.0, a.0.1) in
    let asked : X × ℕ = (frame, size) in
    subst (λ (f : X × ℕ). IsRead most kind_of body_of f.0 f.1 bytes) (same_found made asked b.2) (record {
      kind = a.0.0;
      front = front_from most kind_of bytes a.0 a.1;
      body = by_table_found (body_of a.0.0 (piece (a.0.1 - 5) 5 bytes)) b.0 b.1;
    })

pub read_is : {K X : Type 0} (most : Option ℕ) (kind_of : ℕ → Option K) (body_of : K → List ℕ → Option X) (bytes : List ℕ) (kind : K) (frame : X) (size : ℕ) → IsFront most kind_of kind size bytes → body_of kind (piece (size - 5) 5 bytes) ≡ Some frame → frame_of most kind_of body_of bytes ≡ Ok (Some (frame, size))
unfolding frame_of
read_is most kind_of body_of bytes kind frame size is body = rw (front_is most kind_of kind size bytes is, body) refl

piece_stays : (n at : ℕ) (bytes more : List ℕ) → at + n ≤ length bytes → piece n at (bytes ++ more) ≡ piece n at bytes
piece_stays n at bytes more within =
    ap (λ (rest : List ℕ). take n rest) (drop-append-le at bytes more (omega arith)) ∙ take-append-le n (drop at bytes) more (omega (arith, length-drop at bytes))

pub frame_of_stays : {K X : Type 0} (most : Option ℕ) (kind_of : ℕ → Option K) (body_of : K → List ℕ → Option X) → Stays (frame_of most kind_of body_of)
unfolding frame_of
frame_of_stays {K} {X} most kind_of body_of bytes more decided = at (front_of most kind_of bytes) refl
  where
    at : (r : Reading (K × ℕ)) → front_of most kind_of bytes ≡ r → frame_of most kind_of body_of (bytes ++ more) ≡ frame_of most kind_of body_of bytes
    at (Ok (Some front)) is =
        let f = front_from most kind_of bytes front is in
        let there : front_of most kind_of (bytes ++ more) ≡ Ok (Some front) = front_of_stays most kind_of bytes more (λ none. absurd cc) ∙ is in
        rw (there, is, piece_stays (front.1 - 5) 5 bytes more (omega (arith, f.said, f.some, f.whole))) refl
    at (Ok None) is = absurd (decided (rw is refl))
    at (Err fault) is =
        let there : front_of most kind_of (bytes ++ more) ≡ Err fault = front_of_stays most kind_of bytes more (λ none. absurd cc) ∙ is in
        rw (there, is) refl

-- None exactly where the frame is yet to come
pub frame_none : {K X : Type 0} (most : Option ℕ) (kind_of : ℕ → Option K) (body_of : K → List ℕ → Option X) (bytes : List ℕ) → (frame_of most kind_of body_of bytes ≡ Ok None) ↔ IsPartial most kind_of bytes
unfolding frame_of
frame_none {K} {X} most kind_of body_of bytes = (λ e. partial_from most kind_of bytes (front_none e), λ is. let none = none_from most kind_of bytes is in rw none refl)
  where
    front_none : frame_of most kind_of body_of bytes ≡ Ok None → front_of most kind_of bytes ≡ Ok None
    front_none e =
        elim (bind_none (front_of most kind_of bytes) (λ front. by_table (body_of front.0 (piece (front.1 - 5) 5 bytes)) >>= λ frame. found {X = X × ℕ} (frame, front.1)) e) [
          | inl none ↦ none
          | inr a ↦ elim (bind_none (by_table (body_of a.0.0 (piece (a.0.1 - 5) 5 bytes))) (λ frame. found {X = X × ℕ} (frame, a.0.1)) a.2) [
            | inl none ↦ absurd (by_table_decided (body_of a.0.0 (piece (a.0.1 - 5) 5 bytes)) none)
            | inr b ↦ let h = b.2 in absurd cc
          ]
        ]

-- A front of a whole frame is yet to come.
pub frame_before : {K X : Type 0} (most : Option ℕ) (kind_of : ℕ → Option K) (body_of : K → List ℕ → Option X) (bytes more : List ℕ) (frame : X) (size : ℕ) → frame_of most kind_of body_of (bytes ++ more) ≡ Ok (Some (frame, size)) → length bytes < size → frame_of most kind_of body_of bytes ≡ Ok None
frame_before {K} {X} most kind_of body_of bytes more frame size e short = at (frame_of most kind_of body_of bytes) refl
  where
    at : (r : Reading (X × ℕ)) → frame_of most kind_of body_of bytes ≡ r → frame_of most kind_of body_of bytes ≡ Ok None
    at (Ok (Some (other, n))) is =
        let there : frame_of most kind_of body_of (bytes ++ more) ≡ Ok (Some (other, n)) = frame_of_stays most kind_of body_of bytes more (λ none. absurd cc) ∙ is in
        let asked : X × ℕ = (frame, size) in
        let other_one : X × ℕ = (other, n) in
        let same = ap (λ (f : X × ℕ). f.1) (same_found asked other_one (sym e ∙ there)) in
        let whole = (read_from most kind_of body_of bytes other n is).front.whole in
        absurd (omega (arith, same, whole, short))
    at (Ok None) is = is
    at (Err fault) is =
        let there : frame_of most kind_of body_of (bytes ++ more) ≡ Err fault = frame_of_stays most kind_of body_of bytes more (λ none. absurd cc) ∙ is in
        absurd cc

-- A whole frame needs no more than its own bytes.
pub frame_alone : {K X : Type 0} (most : Option ℕ) (kind_of : ℕ → Option K) (body_of : K → List ℕ → Option X) (bytes : List ℕ) (frame : X) (size : ℕ) → frame_of most kind_of body_of bytes ≡ Ok (Some (frame, size)) → frame_of most kind_of body_of (take size bytes) ≡ Ok (Some (frame, size))
frame_alone most kind_of body_of bytes frame size e =
    let front = (read_from most kind_of body_of bytes frame size e).front in
    let len = length-take-le size bytes front.whole in
    let said = number_at-take 4 0 size bytes (omega (arith, front.said)) in
    let decided : ¬ (frame_of most kind_of body_of (take size bytes) ≡ Ok None) = λ none.
    let begun = (frame_none most kind_of body_of (take size bytes)).0 none (omega (arith, len, front.said)) in
    omega (arith, begun.more, said, len, front.said) in
    sym (frame_of_stays most kind_of body_of (take size bytes) (drop size bytes) decided) ∙ ap (λ (b : List ℕ). frame_of most kind_of body_of b) (take-append-drop size bytes) ∙ e

-- ---- without a greatest length none is too long

abbrev the_fault : {X : Type 0} → FrameFault → Reading X
the_fault fault = Err fault

same_fault : {X : Type 0} (x y : FrameFault) → the_fault {X = X} x ≡ the_fault {X = X} y → x ≡ y
same_fault x y e = cc

abbrev NotTooLong : {X : Type 0} → Reading X → Type 0
NotTooLong r = r ≡ Err TooLong → ⊥

bind_not_too_long : {X Y : Type 0} (r : Reading X) (f : X → Reading Y) → NotTooLong r → ((x : X) → NotTooLong (f x)) → NotTooLong (r >>= f)
bind_not_too_long (Ok (Some x)) f not later = later x
bind_not_too_long (Ok None) f not later = λ e. absurd cc
bind_not_too_long {X = X} (Err fault) f not later = λ e. not (ap (λ (x : FrameFault). the_fault {X = X} x) (same_fault fault TooLong e))

pub never_too_long : {K X : Type 0} (kind_of : ℕ → Option K) (body_of : K → List ℕ → Option X) (bytes : List ℕ) → frame_of None kind_of body_of bytes ≡ Err TooLong → ⊥
unfolding frame_of front_of length_of kind_at whole_at
never_too_long {K} {X} kind_of body_of bytes =
    bind_not_too_long (front_of None kind_of bytes) (λ front. by_table (body_of front.0 (piece (front.1 - 5) 5 bytes)) >>= λ frame. found {X = X × ℕ} (frame, front.1))
    (bind_not_too_long (length_of None bytes) (λ said. kind_at kind_of bytes >>= λ kind. whole_at (4 + said) bytes >>= λ size. found {X = K × ℕ} (kind, size)) (length_is (ltb (length bytes) 4) (eqb (number_at 4 0 bytes) 0)) (λ said.
    bind_not_too_long (kind_at kind_of bytes) (λ kind. whole_at (4 + said) bytes >>= λ size. found {X = K × ℕ} (kind, size)) (kind_is (ltb (length bytes) 5) (kind_of (number_at 1 4 bytes))) (λ kind.
    bind_not_too_long (whole_at (4 + said) bytes) (λ size. found {X = K × ℕ} (kind, size)) (whole_is (ltb (length bytes) (4 + said)) (4 + said)) (λ size e. absurd cc))))
    (λ front. bind_not_too_long (by_table (body_of front.0 (piece (front.1 - 5) 5 bytes))) (λ frame. found {X = X × ℕ} (frame, front.1)) (body_is (body_of front.0 (piece (front.1 - 5) 5 bytes))) (λ frame e. absurd cc))
  where
    length_is : (few none : Bool) → NotTooLong (cond few (Ok None) (cond none (Err BadKind) (found (number_at 4 0 bytes))))
    length_is true none = λ e. absurd cc
    length_is false true = λ e. absurd cc
    length_is false false = λ e. absurd cc

    kind_is : (few : Bool) (o : Option K) → NotTooLong (cond few (Ok None) (known o))
    kind_is true o = λ e. absurd cc
    kind_is false None = λ e. absurd cc
    kind_is false (Some kind) = λ e. absurd cc

    whole_is : (few : Bool) (size : ℕ) → NotTooLong (cond few (Ok None) (found size))
    whole_is true size = λ e. absurd cc
    whole_is false size = λ e. absurd cc

    body_is : (o : Option X) → NotTooLong (by_table o)
    body_is None = λ e. absurd cc
    body_is (Some x) = λ e. absurd cc

-- ---- the front of what is spelled

pub length-framed : (number : ℕ) (body : List ℕ) → length (framed number body) ≡ 5 + length body
unfolding framed
length-framed number body =
    omega (arith, length-append (number_bytes 4 (1 + length body)) (number_bytes 1 number ++ body), length-append (number_bytes 1 number) body, length-number_bytes 4 (1 + length body), length-number_bytes 1 number)

pub IsFront-framed : {K : Type 0} (most : Option ℕ) (kind_of : ℕ → Option K) (kind : K) (number : ℕ) (body more : List ℕ) → number < 256 → kind_of number ≡ Some kind → 1 + length body < 2 ^ 32 → IsWithin most (1 + length body)
    → IsFront most kind_of kind (5 + length body) (framed number body ++ more)
unfolding framed
IsFront-framed {K} most kind_of kind number body more small is fits within =
    let n = 1 + length body in
    let rest = number_bytes 1 number ++ (body ++ more) in
    let grouped : framed number body ++ more ≡ number_bytes 4 n ++ rest = simp append_assoc in
    let said : number_at 4 0 (framed number body ++ more) ≡ n = ap (number_at 4 0) grouped ∙ number_at-number_bytes 4 0 n [] rest refl fits in
    let kind_byte : number_at 1 4 (framed number body ++ more) ≡ number = ap (number_at 1 4) grouped ∙ number_at-number_bytes 1 4 number (number_bytes 4 n) (body ++ more) (length-number_bytes 4 n) small in
    record {
      some = omega (arith, said);
      said = omega (arith, said);
      is_within = subst (λ (k : ℕ). IsWithin most k) (sym said) within;
      kind_is = ap kind_of kind_byte ∙ is;
      whole = omega (arith, length-append (framed number body) more, length-framed number body);
    }

pub piece-framed : (number : ℕ) (body more : List ℕ) → piece (5 + length body - 5) 5 (framed number body ++ more) ≡ body
unfolding framed
piece-framed number body more =
    let n = 1 + length body in
    let head = number_bytes 4 n ++ number_bytes 1 number in
    let size : 5 + length body - 5 ≡ length body = omega arith in
    let grouped : framed number body ++ more ≡ head ++ (body ++ more) = simp append_assoc in
    let five : length head ≡ 5 = omega (arith, length-append (number_bytes 4 n) (number_bytes 1 number), length-number_bytes 4 n, length-number_bytes 1 number) in
    rw (size, grouped, drop_at head (body ++ more) 5 five) (take_at body more (length body) refl)

-- bytes at whose front a frame stands spell its front and its body
pub framed_from : {K : Type 0} (most : Option ℕ) (kind_of : ℕ → Option K) (kind : K) (size : ℕ) (bytes : List ℕ) → IsBytes bytes → IsFront most kind_of kind size bytes → framed (number_at 1 4 bytes) (piece (size - 5) 5 bytes) ≡ take size bytes
unfolding framed
framed_from most kind_of kind size bytes fit is =
    let body = piece (size - 5) 5 bytes in
    let len : 1 + length body ≡ number_at 4 0 bytes = omega (arith, length-piece (size - 5) 5 bytes (omega (arith, is.said, is.some, is.whole)), is.said, is.some) in
    let first : number_bytes 4 (1 + length body) ≡ piece 4 0 bytes = ap (number_bytes 4) len ∙ number_bytes-number_at 4 0 bytes fit (omega (arith, is.said, is.whole)) in
    let second : number_bytes 1 (number_at 1 4 bytes) ≡ piece 1 4 bytes = number_bytes-number_at 1 4 bytes fit (omega (arith, is.said, is.some, is.whole)) in
    let all : 4 + (1 + (size - 5)) ≡ size = omega (arith, is.said, is.some) in
    rw (first, second, piece-append 1 (size - 5) 4 bytes, piece-append 4 (1 + (size - 5)) 0 bytes, all) refl

-- ---- what a call gave

pub none_from_Gives : {X : Type 0} (result : Result (Option X) AppFrameError) (read : Reading X) → Gives result read → (result ≡ Ok None) ↔ (read ≡ Ok None)
none_from_Gives (Ok x) read gives = (λ e. gives ∙ (let same : x ≡ None = cc in ap (λ (o : Option _). Ok o) same), λ e. let both = sym gives ∙ e in (let same : x ≡ None = cc in ap (λ (o : Option _). Ok o) same))
none_from_Gives (Err (Refused fault)) read gives = (λ e. absurd cc, λ e. absurd cc)
none_from_Gives (Err NoMemory) read gives = (λ e. absurd cc, λ e. absurd (subst IsWhole e gives))

pub found_from_Gives : {X : Type 0} (result : Result (Option X) AppFrameError) (read : Reading X) (P : X → Type 0) → Gives result read → ((x : X) → read ≡ Ok (Some x) → P x) → IfOk result (λ next. IfSome next P)
found_from_Gives (Ok (Some x)) read P gives all = all x gives
found_from_Gives (Ok None) read P gives all = tt
found_from_Gives (Err error) read P gives all = tt
