-- Messages that go out of a store: those behind them move down.
use Rattle.std.specs.Prelude.{◌==◌, true, false, not, filter, if◌then◌else◌}
use Rattle.std.proofs.Common.{◌≡◌, ℕ, ◌+◌, ◌-◌, ◌<◌, ◌≤◌, List, [], ◌∷◌, ◌++◌, length, take, drop, refl, sym, ap, ◌∙◌, arith, length-append, length-drop, append_assoc, append-nil, add-one, drop-cons, drop_of_length-le, inl, inr}
use Rattle.std.proofs.lemmas.Bool.{cases_Bool}
use Rattle.std.proofs.lemmas.List.{drop-drop, length-take-le, take_at, drop_at}
use Rattle.std.proofs.lemmas.List.Elements.{filter-append}
use Rattle.std.proofs.lemmas.List.Edits.{take-paste, drop-paste, length-paste}
use Rattle.std.proofs.Math.Seq.{paste}
use Rattle.net_txn.specs.MessageStore.{messages_in, sizes}
use Rattle.net_txn.proofs.MessageStoreSteps.{entry_at, next_size}

-- the entries of other switches
abbrev pub others : ℕ → List (ℕ × ℕ) → List (ℕ × ℕ)
others d es = filter (λ e. not (e.0 == d)) es

-- the bytes of their messages
abbrev pub bytes_left : ℕ → List (ℕ × ℕ) → List ℕ → List ℕ
bytes_left d [] bytes = []
bytes_left d (e ∷ es) bytes = if e.0 == d then bytes_left d es (drop e.1 bytes) else take e.1 bytes ++ bytes_left d es (drop e.1 bytes)

-- so many messages were looked at, up to this byte, and those that stay stand in the front, up to that byte
pub record Closed (d : ℕ) (es : List (ℕ × ℕ)) (old bytes : List ℕ) (at to i : ℕ) : Type 0 where
  pub parts : take to bytes ++ bytes_left d (drop i es) (drop at bytes) ≡ bytes_left d es old
  pub below : to ≤ at
  pub left : sizes (drop i es) + at ≡ length bytes

next_left : (d : ℕ) (es : List (ℕ × ℕ)) (bytes : List ℕ) (i : ℕ) → i < length es
    → bytes_left d (drop i es) bytes ≡ bytes_left d (entry_at es i ∷ drop (i + 1) es) bytes
next_left d es bytes i lt = rw add-one (ap (λ (fs : List (ℕ × ℕ)). bytes_left d fs bytes) (drop-cons es i (0, 0) lt))

pub closed_within : (d : ℕ) (es : List (ℕ × ℕ)) (old bytes : List ℕ) (at to i : ℕ) → Closed d es old bytes at to i → i < length es → at + (entry_at es i).1 ≤ length bytes
closed_within d es old bytes at to i so_far lt = omega (arith, next_size es i lt, so_far.left)

-- its messages are passed over
pub closed_over : (d : ℕ) (es : List (ℕ × ℕ)) (old bytes : List ℕ) (at to i : ℕ) → Closed d es old bytes at to i → i < length es → ((entry_at es i).0 == d) ≡ true
    → Closed d es old bytes (at + (entry_at es i).1) to (i + 1)
closed_over d es old bytes at to i so_far lt is =
    let e = entry_at es i in
    let here : bytes_left d (drop i es) (drop at bytes) ≡ bytes_left d (drop (i + 1) es) (drop e.1 (drop at bytes)) = next_left d es (drop at bytes) i lt ∙ rw is refl in
    record {
      parts = ap (λ (r : List ℕ). take to bytes ++ bytes_left d (drop (i + 1) es) r) (sym (drop-drop e.1 at bytes)) ∙ ap (λ (r : List ℕ). take to bytes ++ r) (sym here) ∙ so_far.parts;
      below = omega (arith, so_far.below);
      left = omega (arith, next_size es i lt, so_far.left);
    }

-- the others move down
pub closed_down : (d : ℕ) (es : List (ℕ × ℕ)) (old bytes now : List ℕ) (at to i : ℕ) → Closed d es old bytes at to i → i < length es → ((entry_at es i).0 == d) ≡ false
    → now ≡ paste bytes to (drop at bytes) (at + (entry_at es i).1 - at)
    → Closed d es old now (at + (entry_at es i).1) (to + (entry_at es i).1) (i + 1)
closed_down d es old bytes now at to i so_far lt is copied =
    let e = entry_at es i in
    let size : at + e.1 - at ≡ e.1 = omega arith in
    let within : at + e.1 ≤ length bytes = closed_within d es old bytes at to i so_far lt in
    let enough : e.1 ≤ length (drop at bytes) = omega (arith, length-drop at bytes, within) in
    let low : to ≤ length bytes = omega (arith, within, so_far.below) in
    let n : now ≡ paste bytes to (drop at bytes) e.1 = copied ∙ ap (λ (k : ℕ). paste bytes to (drop at bytes) k) size in
    let len : length now ≡ length bytes = ap length n ∙ length-paste bytes to (drop at bytes) e.1 (omega (arith, within, so_far.below)) enough in
    let front : take (to + e.1) now ≡ take to bytes ++ take e.1 (drop at bytes) = ap (take (to + e.1)) n ∙ take-paste bytes to (drop at bytes) e.1 low enough in
    let same : drop (to + e.1) now ≡ drop (to + e.1) bytes = ap (drop (to + e.1)) n ∙ drop-paste bytes to (drop at bytes) e.1 low enough in
    let gap : at + e.1 ≡ (to + e.1) + (at - to) = omega (arith, so_far.below) in
    let rest : drop (at + e.1) now ≡ drop (at + e.1) bytes =
    ap (λ (k : ℕ). drop k now) gap ∙ sym (drop-drop (at - to) (to + e.1) now) ∙ ap (drop (at - to)) same ∙ drop-drop (at - to) (to + e.1) bytes ∙ ap (λ (k : ℕ). drop k bytes) (sym gap) in
    let here : bytes_left d (drop i es) (drop at bytes) ≡ take e.1 (drop at bytes) ++ bytes_left d (drop (i + 1) es) (drop e.1 (drop at bytes)) = next_left d es (drop at bytes) i lt ∙ rw is refl in
    let far : drop e.1 (drop at bytes) ≡ drop (at + e.1) bytes = drop-drop e.1 at bytes in
    record {
      parts =
          ap (λ (f : List ℕ). f ++ bytes_left d (drop (i + 1) es) (drop (at + e.1) now)) front
          ∙ ap (λ (r : List ℕ). (take to bytes ++ take e.1 (drop at bytes)) ++ bytes_left d (drop (i + 1) es) r) (rest ∙ sym far)
          ∙ append_assoc (take to bytes) (take e.1 (drop at bytes)) (bytes_left d (drop (i + 1) es) (drop e.1 (drop at bytes)))
          ∙ ap (λ (r : List ℕ). take to bytes ++ r) (sym here)
          ∙ so_far.parts;
      below = omega (arith, so_far.below);
      left = omega (arith, next_size es i lt, so_far.left, len);
    }

pub closed_all : (d : ℕ) (es : List (ℕ × ℕ)) (old bytes : List ℕ) (at to i : ℕ) → Closed d es old bytes at to i → length es ≤ i → take to bytes ≡ bytes_left d es old
closed_all d es old bytes at to i so_far past =
    sym (append-nil (take to bytes)) ∙ ap (λ (fs : List (ℕ × ℕ)). take to bytes ++ bytes_left d fs (drop at bytes)) (sym (drop_of_length-le es past)) ∙ so_far.parts

-- ---- What they are then

record Stays (d : ℕ) (es : List (ℕ × ℕ)) (bytes : List ℕ) : Type 0 where
  messages : messages_in (others d es) (bytes_left d es bytes) ≡ filter (λ m. not (m.0 == d)) (messages_in es bytes)
  size : sizes (others d es) ≡ length (bytes_left d es bytes)

stays_more : (d : ℕ) (e : ℕ × ℕ) (es : List (ℕ × ℕ)) (bytes : List ℕ) → e.1 ≤ length bytes → Stays d es (drop e.1 bytes) → Stays d (e ∷ es) bytes
stays_more d e es bytes within s =
    elim (cases_Bool (e.0 == d)) [
      | inl is ↦ record { messages = rw is s.messages; size = rw is s.size }
      | inr is ↦
          let rest = bytes_left d es (drop e.1 bytes) in
          let len : length (take e.1 bytes) ≡ e.1 = length-take-le e.1 bytes within in
          let front : take e.1 (take e.1 bytes ++ rest) ≡ take e.1 bytes = take_at (take e.1 bytes) rest e.1 len in
          let behind : drop e.1 (take e.1 bytes ++ rest) ≡ rest = drop_at (take e.1 bytes) rest e.1 len in
          record {
            messages = rw is (rw (front, behind) (ap (λ (ms : List (ℕ × List ℕ)). (e.0, take e.1 bytes) ∷ ms) s.messages));
            size = rw is (omega (arith, s.size, len, length-append (take e.1 bytes) rest));
          }
    ]

stays : (d : ℕ) (es : List (ℕ × ℕ)) (bytes : List ℕ) → sizes es ≡ length bytes → Stays d es bytes
stays d [] bytes is = record { messages = refl; size = refl }
stays d (e ∷ es) bytes is =
    let within : e.1 ≤ length bytes = omega arith in
    stays_more d e es bytes within (stays d es (drop e.1 bytes) (omega (arith, length-drop e.1 bytes)))

pub messages_left : (d : ℕ) (es : List (ℕ × ℕ)) (bytes now : List ℕ) → sizes es ≡ length bytes → now ≡ bytes_left d es bytes → messages_in (others d es) now ≡ filter (λ m. not (m.0 == d)) (messages_in es bytes)
messages_left d es bytes now is left = ap (messages_in (others d es)) left ∙ (stays d es bytes is).messages

pub sizes_left : (d : ℕ) (es : List (ℕ × ℕ)) (bytes now : List ℕ) → sizes es ≡ length bytes → now ≡ bytes_left d es bytes → sizes (others d es) ≡ length now
sizes_left d es bytes now is left = (stays d es bytes is).size ∙ ap length (sym left)

-- those in front of the store go in the same way
pub forgotten : (d : ℕ) (ms ns now_ms now_ns kept : List (ℕ × List ℕ)) → ms ++ ns ≡ kept → now_ms ≡ filter (λ m. not (m.0 == d)) ms → now_ns ≡ filter (λ m. not (m.0 == d)) ns
    → now_ms ++ now_ns ≡ filter (λ m. not (m.0 == d)) kept
forgotten d ms ns now_ms now_ns kept viewed first second =
    ap (λ (xs : List (ℕ × List ℕ)). xs ++ now_ns) first ∙ ap (λ (xs : List (ℕ × List ℕ)). filter (λ m. not (m.0 == d)) ms ++ xs) second ∙ sym (filter-append (λ m. not (m.0 == d)) ms ns) ∙ ap (filter (λ m. not (m.0 == d))) viewed
