-- Messages that are put into a place, and copied out of it.
use Rattle.std.specs.Prelude.{Bool, true, false, ◌&&◌, nat_lt, nat_le, ◌⊎◌, if◌then◌else◌}
use Rattle.std.proofs.Common.{inl, inr}
use Rattle.std.proofs.lemmas.Bool.{ltb-true, leb-true, le-leb, lt-ltb}
use Rattle.std.proofs.Common.{◌≡◌, ℕ, ◌+◌, ◌-◌, ◌<◌, ◌≤◌, List, [], ◌∷◌, ◌++◌, length, take, drop, refl, sym, ap, ◌∙◌, arith, length-append, length-drop, append_assoc, append-nil, add-one, drop-cons, drop_of_length-le, get_or, subst}
use Rattle.std.proofs.lemmas.List.{take-append-le, drop-append-le, take_all, drop-drop, length-take-le}
use Rattle.lego_model.specs.KeptMessages.{bytes_kept, fits}
use Rattle.net_txn.specs.MessageStore.{messages_in, sizes}

pub length-messages : (es : List (ℕ × ℕ)) (bytes : List ℕ) → length (messages_in es bytes) ≡ length es
length-messages [] bytes = refl
length-messages (e ∷ es) bytes = omega (arith, length-messages es (drop e.1 bytes))

pub bytes-messages : (es : List (ℕ × ℕ)) (bytes : List ℕ) → sizes es ≡ length bytes → bytes_kept (messages_in es bytes) ≡ length bytes
bytes-messages [] bytes is = is
bytes-messages (e ∷ es) bytes is =
    let within : e.1 ≤ length bytes = omega arith in
    let rest : sizes es ≡ length (drop e.1 bytes) = omega (arith, length-drop e.1 bytes) in
    omega (arith, length-take-le e.1 bytes within, bytes-messages es (drop e.1 bytes) rest, length-drop e.1 bytes)

pub sizes_more : (es : List (ℕ × ℕ)) (e : ℕ × ℕ) → sizes (es ++ e ∷ []) ≡ sizes es + e.1
sizes_more [] e = omega arith
sizes_more (f ∷ es) e = omega (arith, sizes_more es e)

pub messages_more : (es : List (ℕ × ℕ)) (bytes : List ℕ) (d : ℕ) (message : List ℕ) → sizes es ≡ length bytes
    → messages_in (es ++ (d, length message) ∷ []) (bytes ++ message) ≡ messages_in es bytes ++ (d, message) ∷ []
messages_more [] [] d message is = ap (λ (m : List ℕ). (d, m) ∷ []) (take_all (length message) message (omega arith))
messages_more [] (b ∷ bytes) d message is = absurd (omega arith)
messages_more (e ∷ es) bytes d message is =
    let within : e.1 ≤ length bytes = omega arith in
    let rest : sizes es ≡ length (drop e.1 bytes) = omega (arith, length-drop e.1 bytes) in
    rw (take-append-le e.1 bytes message within, drop-append-le e.1 bytes message within)
    (ap (λ (ms : List (ℕ × List ℕ)). (e.0, take e.1 bytes) ∷ ms) (messages_more es (drop e.1 bytes) d message rest))

-- ---- Copies

-- so many messages were copied, up to this byte
pub record Copied (es : List (ℕ × ℕ)) (bytes : List ℕ) (copies : List (ℕ × List ℕ)) (at i : ℕ) : Type 0 where
  pub parts : copies ++ messages_in (drop i es) (drop at bytes) ≡ messages_in es bytes
  pub left : sizes (drop i es) + at ≡ length bytes

abbrev pub entry_at : List (ℕ × ℕ) → ℕ → ℕ × ℕ
entry_at es i = get_or es i (0, 0)

pub next_size : (es : List (ℕ × ℕ)) (i : ℕ) → i < length es → sizes (drop i es) ≡ (entry_at es i).1 + sizes (drop (i + 1) es)
next_size es i lt = rw add-one (ap sizes (drop-cons es i (0, 0) lt))

next_message : (es : List (ℕ × ℕ)) (bytes : List ℕ) (i : ℕ) → i < length es
    → messages_in (drop i es) bytes ≡ ((entry_at es i).0, take (entry_at es i).1 bytes) ∷ messages_in (drop (i + 1) es) (drop (entry_at es i).1 bytes)
next_message es bytes i lt = rw add-one (ap (λ (fs : List (ℕ × ℕ)). messages_in fs bytes) (drop-cons es i (0, 0) lt))

pub within : (es : List (ℕ × ℕ)) (bytes : List ℕ) (copies : List (ℕ × List ℕ)) (at i : ℕ) → Copied es bytes copies at i → i < length es → at + (entry_at es i).1 ≤ length bytes
within es bytes copies at i so_far lt = omega (arith, next_size es i lt, so_far.left)

pub one_copied : (es : List (ℕ × ℕ)) (bytes : List ℕ) (copies : List (ℕ × List ℕ)) (at i : ℕ) (b : List ℕ)
    → Copied es bytes copies at i → i < length es → b ≡ take (at + (entry_at es i).1 - at) (drop at bytes)
    → Copied es bytes (copies ++ ((entry_at es i).0, b) ∷ []) (at + (entry_at es i).1) (i + 1)
one_copied es bytes copies at i b so_far lt cut =
    let e = entry_at es i in
    let size : at + e.1 - at ≡ e.1 = omega arith in
    let is : b ≡ take e.1 (drop at bytes) = cut ∙ ap (λ (n : ℕ). take n (drop at bytes)) size in
    let joined : (copies ++ (e.0, b) ∷ []) ++ messages_in (drop (i + 1) es) (drop (at + e.1) bytes) ≡ messages_in es bytes =
    append_assoc copies ((e.0, b) ∷ []) (messages_in (drop (i + 1) es) (drop (at + e.1) bytes))
    ∙ ap (λ (m : List ℕ). copies ++ (e.0, m) ∷ messages_in (drop (i + 1) es) (drop (at + e.1) bytes)) is
    ∙ ap (λ (r : List ℕ). copies ++ (e.0, take e.1 (drop at bytes)) ∷ messages_in (drop (i + 1) es) r) (sym (drop-drop e.1 at bytes))
    ∙ ap (λ (ms : List (ℕ × List ℕ)). copies ++ ms) (sym (next_message es (drop at bytes) i lt))
    ∙ so_far.parts in
    record { parts = joined; left = omega (arith, next_size es i lt, so_far.left) }

pub all_copied : (es : List (ℕ × ℕ)) (bytes : List ℕ) (copies : List (ℕ × List ℕ)) (at i : ℕ) → Copied es bytes copies at i → length es ≤ i → copies ≡ messages_in es bytes
all_copied es bytes copies at i so_far past =
    sym (append-nil copies) ∙ ap (λ (fs : List (ℕ × ℕ)). copies ++ messages_in fs (drop at bytes)) (sym (drop_of_length-le es past)) ∙ so_far.parts

pub none_copied : (es : List (ℕ × ℕ)) (bytes : List ℕ) → sizes es ≡ length bytes → Copied es bytes [] 0 0
none_copied es bytes is = record { parts = refl; left = omega (arith, is) }

-- ---- What fits

pub fits_counted : (es : List (ℕ × ℕ)) (bytes message : List ℕ) → sizes es ≡ length bytes → fits (messages_in es bytes) message ≡ (nat_lt (length es) 16384 && nat_le (length bytes + length message) 1048576)
fits_counted es bytes message is = rw (length-messages es bytes, bytes-messages es bytes is) refl

bytes-append : (ms ns : List (ℕ × List ℕ)) → bytes_kept (ms ++ ns) ≡ bytes_kept ms + bytes_kept ns
bytes-append [] ns = omega arith
bytes-append (m ∷ ms) ns = omega (arith, bytes-append ms ns)

both : (a b : Bool) → a && b ≡ true → (a ≡ true) × (b ≡ true)
both true b is = (refl, is)
both false b is = absurd cc

not_true : false ≡ true → ⊥
not_true is = absurd cc

-- what fits behind all messages fits behind the last ones
pub fits_last : (ms ns : List (ℕ × List ℕ)) (message : List ℕ) → fits (ms ++ ns) message ≡ true → fits ns message ≡ true
fits_last ms ns message is =
    let parts = both (nat_lt (length (ms ++ ns)) 16384) (nat_le (bytes_kept (ms ++ ns) + length message) 1048576) is in
    let few : length (ms ++ ns) < 16384 = ltb-true (length (ms ++ ns)) 16384 parts.0 in
    let small : bytes_kept (ms ++ ns) + length message ≤ 1048576 = leb-true (bytes_kept (ms ++ ns) + length message) 1048576 parts.1 in
    rw (lt-ltb (length ns) 16384 (omega (arith, few, length-append ms ns)), le-leb (bytes_kept ns + length message) 1048576 (omega (arith, small, bytes-append ms ns))) refl

-- a message was put behind others, or dropped
pub record PutLast (d : ℕ) (message : List ℕ) (kept now_kept : List (ℕ × List ℕ)) : Type 0 where
  pub one_or_none : (now_kept ≡ kept ++ (d, message) ∷ []) ⊎ (now_kept ≡ kept)
  pub one : fits kept message ≡ true → now_kept ≡ kept ++ (d, message) ∷ []

put_if : (fit : Bool) (ms ns now : List (ℕ × List ℕ)) (d : ℕ) (message : List ℕ) → now ≡ (if fit then ns ++ (d, message) ∷ [] else ns) → (fits (ms ++ ns) message ≡ true → fit ≡ true) → PutLast d message (ms ++ ns) (ms ++ now)
put_if true ms ns now d message is when =
    let added : ms ++ now ≡ (ms ++ ns) ++ (d, message) ∷ [] = ap (λ (k : List (ℕ × List ℕ)). ms ++ k) is ∙ sym (append_assoc ms ns ((d, message) ∷ [])) in
    record { one_or_none = inl added; one = λ fit. added }
put_if false ms ns now d message is when =
    let same : ms ++ now ≡ ms ++ ns = ap (λ (k : List (ℕ × List ℕ)). ms ++ k) is in
    record { one_or_none = inr same; one = λ fit. absurd (not_true (when fit)) }

pub put_last : (ms ns now kept : List (ℕ × List ℕ)) (d : ℕ) (message : List ℕ) → ms ++ ns ≡ kept → now ≡ (if fits ns message then ns ++ (d, message) ∷ [] else ns) → PutLast d message kept (ms ++ now)
put_last ms ns now kept d message viewed is =
    subst (λ (k : List (ℕ × List ℕ)). PutLast d message k (ms ++ now)) viewed (put_if (fits ns message) ms ns now d message is (fits_last ms ns message))
