-- What is voted was given whole, at the same place of the same life, by two copies.
use Rattle.std.proofs.Common.{◌≡◌, ℕ, true, List, ◌++◌, length, take, drop, Option, Some, None, Ok, Err, refl, sym, ap, subst, ◌∙◌, append_assoc, inl, inr}
use Rattle.std.specs.Prelude.{nat_eq, ◌⊎◌}
use Rattle.std.specs.Cmp.Lexicographic.{pointwise}
use Rattle.std.proofs.lemmas.Bool.{cases_Bool, false≢true}
use Rattle.std.proofs.lemmas.Option.{same_Some}
use Rattle.std.proofs.lemmas.List.{take-append-drop, drop_at}
use Rattle.std.proofs.lemmas.Slice.Eq.{slice_eq-Decides}
use Rattle.std.proofs.lemmas.Bool.Decides.{Decides-eqb}
use Rattle.app_frames.specs.declared.frame.AppFrame.{AppFrame}
use Rattle.app_frames.specs.Reading.{Reading}
use Rattle.app_frames.specs.Frames.{app_reading}
use Rattle.frame_votes.specs.Votes.{Given, whole, front_of, front_in, Polled, agreed, first_some, of_two, voted, settled_if, settled, after_vote}

-- ---- A vote is of two

-- the frame stands whole at the front of what the copy gave
abbrev pub Has : List ℕ → Given → Type 0
Has frame copy = front_in copy ≡ Some frame

-- two of the three have it
abbrev pub TwoHave : List ℕ → Polled → Type 0
TwoHave frame p = (Has frame p.first × Has frame p.second) ⊎ ((Has frame p.first × Has frame p.third) ⊎ (Has frame p.second × Has frame p.third))

same_bytes : (x y : List ℕ) → pointwise nat_eq x y ≡ true → x ≡ y
same_bytes x y e = (slice_eq-Decides Decides-eqb x y (pointwise nat_eq x y) refl).0 e

agreed_is : (x y : Option (List ℕ)) (frame : List ℕ) → agreed x y ≡ Some frame → (x ≡ Some frame) × (y ≡ Some frame)
agreed_is (Some x) (Some y) frame e =
    elim (cases_Bool (pointwise nat_eq x y)) [
      | inl same ↦
          let is : Some x ≡ Some frame = rw same at e in
          (is, ap (λ (b : List ℕ). Some b) (sym (same_bytes x y same)) ∙ is)
      | inr other ↦ absurd (none_some frame (rw other at e))
    ]
  where
    none_some : (frame : List ℕ) → None ≡ Some frame → ⊥
    none_some frame e = absurd cc
agreed_is (Some x) None frame e = absurd cc
agreed_is None other frame e = absurd cc

first_some_is : (x y : Option (List ℕ)) (frame : List ℕ) → first_some x y ≡ Some frame → (x ≡ Some frame) ⊎ (y ≡ Some frame)
first_some_is (Some x) y frame e = inl e
first_some_is None y frame e = inr e

pub two_have : (p : Polled) (frame : List ℕ) → voted p ≡ Some frame → TwoHave frame p
two_have p frame e =
    elim (first_some_is (agreed (front_in p.first) (front_in p.second)) (first_some (agreed (front_in p.first) (front_in p.third)) (agreed (front_in p.second) (front_in p.third))) frame e) [
      | inl one ↦ inl (agreed_is (front_in p.first) (front_in p.second) frame one)
      | inr more ↦ elim (first_some_is (agreed (front_in p.first) (front_in p.third)) (agreed (front_in p.second) (front_in p.third)) frame more) [
        | inl two ↦ inr (inl (agreed_is (front_in p.first) (front_in p.third) frame two))
        | inr three ↦ inr (inr (agreed_is (front_in p.second) (front_in p.third) frame three))
      ]
    ]

-- and a frame that two have is voted
agreed_same : (frame : List ℕ) → agreed (Some frame) (Some frame) ≡ Some frame
agreed_same frame = rw ((slice_eq-Decides Decides-eqb frame frame (pointwise nat_eq frame frame) refl).1 refl) refl

agreed_left : (frame : List ℕ) (y : Option (List ℕ)) → (agreed (Some frame) y ≡ Some frame) ⊎ (agreed (Some frame) y ≡ None)
agreed_left frame (Some y) =
    elim (cases_Bool (pointwise nat_eq frame y)) [
      | inl same ↦ inl (rw same refl)
      | inr other ↦ inr (rw other refl)
    ]
agreed_left frame None = inr refl

agreed_right : (x : Option (List ℕ)) (frame : List ℕ) → (agreed x (Some frame) ≡ Some frame) ⊎ (agreed x (Some frame) ≡ None)
agreed_right (Some x) frame =
    elim (cases_Bool (pointwise nat_eq x frame)) [
      | inl same ↦ inl (rw same (ap (λ (b : List ℕ). Some b) (same_bytes x frame same)))
      | inr other ↦ inr (rw other refl)
    ]
agreed_right None frame = inr refl

of_first_two : (x y z : Option (List ℕ)) (frame : List ℕ) → x ≡ Some frame → y ≡ Some frame → of_two x y z ≡ Some frame
of_first_two x y z frame one two = rw (one, two, agreed_same frame) refl

of_outer_two : (x y z : Option (List ℕ)) (frame : List ℕ) → x ≡ Some frame → z ≡ Some frame → of_two x y z ≡ Some frame
of_outer_two x y z frame one three =
    rw (one, three) (elim (agreed_left frame y) [
      | inl is ↦ rw is refl
      | inr none ↦ rw (none, agreed_same frame) refl
    ])

of_last_two : (x y z : Option (List ℕ)) (frame : List ℕ) → y ≡ Some frame → z ≡ Some frame → of_two x y z ≡ Some frame
of_last_two x y z frame two three =
    rw (two, three) (elim (agreed_right x frame) [
      | inl is ↦ rw is refl
      | inr none ↦ rw (none, agreed_same frame) refl
    ])

pub two_are_voted : (frame : List ℕ) (p : Polled) → TwoHave frame p → voted p ≡ Some frame
two_are_voted frame p two =
    let x = front_in p.first in
    let y = front_in p.second in
    let z = front_in p.third in
    elim two [
      | inl has ↦ of_first_two x y z frame has.0 has.1
      | inr more ↦ elim more [
        | inl has ↦ of_outer_two x y z frame has.0 has.1
        | inr has ↦ of_last_two x y z frame has.0 has.1
      ]
    ]

-- ---- Over a life

-- A copy that is in gave in its life what was voted so far, and then what it holds.
abbrev pub Follows : List ℕ → List ℕ → Given → Type 0
Follows so_far life copy = copy.is_in ≡ true → life ≡ so_far ++ copy.held

-- the life begins with these bytes
abbrev pub Begins : List ℕ → List ℕ → Type 0
Begins front life = (rest : List ℕ) × (life ≡ front ++ rest)

-- what the three copies gave in their lives
pub record Lives : Type 0 where
  pub first : List ℕ
  pub second : List ℕ
  pub third : List ℕ

pub record AllFollow (so_far : List ℕ) (lives : Lives) (p : Polled) : Type 0 where
  pub first : Follows so_far lives.first p.first
  pub second : Follows so_far lives.second p.second
  pub third : Follows so_far lives.third p.third

abbrev pub TwoBegin : List ℕ → Lives → Type 0
TwoBegin front lives =
    (Begins front lives.first × Begins front lives.second) ⊎ ((Begins front lives.first × Begins front lives.third) ⊎ (Begins front lives.second × Begins front lives.third))

cut_at : (bytes : List ℕ) (reading : Reading (AppFrame × ℕ)) (frame : List ℕ) → whole bytes reading ≡ Some frame → (rest : List ℕ) × (bytes ≡ frame ++ rest)
cut_at bytes (Ok (Some found)) frame e =
    (drop found.1 bytes, sym (take-append-drop found.1 bytes) ∙ ap (λ (front : List ℕ). front ++ drop found.1 bytes) (same_Some (take found.1 bytes) frame e))
cut_at bytes (Ok None) frame e = absurd cc
cut_at bytes (Err fault) frame e = absurd cc

held_is : (copy : Given) (frame : List ℕ) → Has frame copy → (copy.is_in ≡ true) × (copy.held ≡ frame ++ drop (length frame) copy.held)
unfolding front_of
held_is copy frame has =
    elim (cases_Bool copy.is_in) [
      | inl is ↦
          let cut = cut_at copy.held (app_reading copy.held) frame (rw is at has) in
          let rest : drop (length frame) copy.held ≡ cut.0 = ap (λ (bytes : List ℕ). drop (length frame) bytes) cut.1 ∙ drop_at frame cut.0 (length frame) refl in
          (is, cut.1 ∙ ap (λ (bytes : List ℕ). frame ++ bytes) (sym rest))
      | inr other ↦ absurd (none_some frame (rw other at has))
    ]
  where
    none_some : (frame : List ℕ) → None ≡ Some frame → ⊥
    none_some frame e = absurd cc

begins_with : (so_far life : List ℕ) (copy : Given) (frame : List ℕ) → Follows so_far life copy → Has frame copy → Begins (so_far ++ frame) life
begins_with so_far life copy frame follows has =
    let held = held_is copy frame has in
    let rest = drop (length frame) copy.held in
    (rest, follows held.0 ∙ ap (λ (bytes : List ℕ). so_far ++ bytes) held.1 ∙ sym (append_assoc so_far frame rest))

follows_on : (so_far life : List ℕ) (copy : Given) (frame : List ℕ) → Follows so_far life copy → Follows (so_far ++ frame) life (settled (Some frame) copy)
follows_on so_far life copy frame follows = by (agreed (Some frame) (front_in copy)) (λ other e. agreed_is (Some frame) (front_in copy) other e)
  where
    by : (o : Option (List ℕ)) → ((other : List ℕ) → o ≡ Some other → (Some frame ≡ Some other) × (front_in copy ≡ Some other)) → Follows (so_far ++ frame) life (settled_if o copy)
    by None is in_then = absurd (false≢true in_then)
    by (Some other) is in_then =
        let both = is other refl in
        let same : frame ≡ other = same_Some frame other both.0 in
        let has : Has frame copy = both.1 ∙ sym both.0 in
        let held = held_is copy frame has in
        follows held.0 ∙ ap (λ (bytes : List ℕ). so_far ++ bytes) held.1 ∙ sym (append_assoc so_far frame (drop (length frame) copy.held))
        ∙ ap (λ (f : List ℕ). (so_far ++ frame) ++ drop (length f) copy.held) same

-- A vote goes on by a frame that two copies gave whole behind what was voted so far, each from the beginning of its life.
pub record Voted (so_far frame : List ℕ) (lives : Lives) (after : Polled) : Type 0 where
  pub two : TwoBegin (so_far ++ frame) lives
  pub follow : AllFollow (so_far ++ frame) lives after

pub two_gave : (so_far frame : List ℕ) (lives : Lives) (p : Polled) → AllFollow so_far lives p → voted p ≡ Some frame → Voted so_far frame lives (after_vote p)
two_gave so_far frame lives p follow e = record {
  two = elim (two_have p frame e) [
    | inl has ↦ inl (begins_with so_far lives.first p.first frame follow.first has.0, begins_with so_far lives.second p.second frame follow.second has.1)
    | inr more ↦ elim more [
      | inl has ↦ inr (inl (begins_with so_far lives.first p.first frame follow.first has.0, begins_with so_far lives.third p.third frame follow.third has.1))
      | inr has ↦ inr (inr (begins_with so_far lives.second p.second frame follow.second has.0, begins_with so_far lives.third p.third frame follow.third has.1))
    ]
  ];
  follow = record {
    first = subst (λ (o : Option (List ℕ)). Follows (so_far ++ frame) lives.first (settled o p.first)) (sym e) (follows_on so_far lives.first p.first frame follow.first);
    second = subst (λ (o : Option (List ℕ)). Follows (so_far ++ frame) lives.second (settled o p.second)) (sym e) (follows_on so_far lives.second p.second frame follow.second);
    third = subst (λ (o : Option (List ℕ)). Follows (so_far ++ frame) lives.third (settled o p.third)) (sym e) (follows_on so_far lives.third p.third frame follow.third);
  };
}
