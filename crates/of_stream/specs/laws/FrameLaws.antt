-- Laws of streams: one stream is cut in one way, and what was handed out stays right whatever comes.
use Rattle.std.proofs.Common.{◌≡◌, ℕ, ◌≤◌, ◌⊎◌, List, [], ◌∷◌, ◌++◌, length, take, drop, refl, sym, ap, subst, ◌∙◌, append_assoc, arith, inl, inr}
use Rattle.std.specs.Prelude.{All}
use Rattle.std.specs.List.{concat}
use Rattle.std.proofs.lemmas.List.{take_at, drop_at, take-append-le, append-nil, length-take-le, length-append, take-append-drop}
use Rattle.std.proofs.lemmas.List.Folds.{concat-append}
use Rattle.std.proofs.lemmas.List.Elements.{All-head, All-tail, All-drop}
use Rattle.of_types.specs.Fields.{number_at}
use Rattle.of_types.specs.laws.FieldLaws.{number_at-take}
use Rattle.of_stream.specs.Frames.{said_length, IsFrame, IsPartial, IsBroken, stream_of, Cuts}

-- what is said is said whatever follows
pub said_length-append : (bytes more : List ℕ) → 4 ≤ length bytes → said_length (bytes ++ more) ≡ said_length bytes
said_length-append bytes more said =
    sym (number_at-take 2 2 4 (bytes ++ more) (omega arith)) ∙ ap (λ (front : List ℕ). number_at 2 2 front) (take-append-le 4 bytes more said) ∙ number_at-take 2 2 4 bytes (omega arith)

pub IsBroken-append : (bytes more : List ℕ) → IsBroken bytes → IsBroken (bytes ++ more)
IsBroken-append bytes more broken = record {
  said = omega (arith, length-append bytes more, broken.said);
  short = let e = said_length-append bytes more broken.said in omega (arith, e, broken.short);
}

-- ---- where a frame stands next, no other thing does

said_by_frame : (frame more : List ℕ) → IsFrame frame → said_length (frame ++ more) ≡ length frame
said_by_frame frame more is = said_length-append frame more (omega (arith, is.header)) ∙ is.whole

frame_not_partial : (frame more : List ℕ) → IsFrame frame → IsPartial (frame ++ more) → ⊥
frame_not_partial frame more is partial =
    let size = length-append frame more in
    let bounds = partial (omega (arith, size, is.header)) in
    omega (arith, size, bounds.1, said_by_frame frame more is)

frame_not_broken : (frame more : List ℕ) → IsFrame frame → IsBroken (frame ++ more) → ⊥
frame_not_broken frame more is broken = omega (arith, is.header, broken.short, said_by_frame frame more is)

pub front_not_partial : (size : ℕ) (held : List ℕ) → IsFrame (take size held) → IsPartial held → ⊥
front_not_partial size held is partial =
    frame_not_partial (take size held) (drop size held) is (subst IsPartial (sym (take-append-drop size held)) partial)

pub front_not_broken : (size : ℕ) (held : List ℕ) → IsFrame (take size held) → IsBroken held → ⊥
front_not_broken size held is broken =
    frame_not_broken (take size held) (drop size held) is (subst IsBroken (sym (take-append-drop size held)) broken)

frame_not_over : (frame more : List ℕ) → IsFrame frame → IsPartial (frame ++ more) ⊎ IsBroken (frame ++ more) → ⊥
frame_not_over frame more is (inl partial) = frame_not_partial frame more is partial
frame_not_over frame more is (inr broken) = frame_not_broken frame more is broken

-- ---- one way to cut

-- two streams that begin with a frame each, and are one
same_frame : (f g xs ys : List ℕ) → IsFrame f → IsFrame g → f ++ xs ≡ g ++ ys → (f ≡ g) × (xs ≡ ys)
same_frame f g xs ys is is' e =
    let len : length f ≡ length g = sym (said_by_frame f xs is) ∙ ap said_length e ∙ said_by_frame g ys is' in (
      sym (take_at f xs (length f) refl) ∙ ap (λ (s : List ℕ). take (length f) s) e ∙ take_at g ys (length f) (sym len),
      sym (drop_at f xs (length f) refl) ∙ ap (λ (s : List ℕ). drop (length f) s) e ∙ drop_at g ys (length f) (sym len),
    )

-- What was handed out begins what a whole cut has, and the rest of that cut is one of what is left.
pub handed_out_first : (frames whole : List (List ℕ)) (left rest : List ℕ) → All IsFrame frames → All IsFrame whole → IsPartial rest ⊎ IsBroken rest
    → stream_of frames left ≡ stream_of whole rest → (later : List (List ℕ)) × (whole ≡ frames ++ later) × (left ≡ stream_of later rest)
handed_out_first [] whole left rest each each' over e = (whole, refl, e)
handed_out_first (f ∷ frames) [] left rest each each' over e =
    absurd (frame_not_over f (stream_of frames left) (All-head IsFrame f frames each) (subst (λ (s : List ℕ). IsPartial s ⊎ IsBroken s) (sym e ∙ append_assoc f (concat frames) left) over))
handed_out_first (f ∷ frames) (g ∷ whole) left rest each each' over e =
    let regrouped : f ++ stream_of frames left ≡ g ++ stream_of whole rest = sym (append_assoc f (concat frames) left) ∙ e ∙ append_assoc g (concat whole) rest in
    let same = same_frame f g (stream_of frames left) (stream_of whole rest) (All-head IsFrame f frames each) (All-head IsFrame g whole each') regrouped in
    let found = handed_out_first frames whole left rest (All-tail IsFrame f frames each) (All-tail IsFrame g whole each') over same.1 in
    (found.0, ap (λ (x : List ℕ). x ∷ whole) (sym same.0) ∙ ap (λ (xs : List (List ℕ)). f ∷ xs) found.1, found.2)

-- nothing is left to cut of what is over
none_later : (later : List (List ℕ)) (rest end : List ℕ) → All IsFrame later → IsPartial rest ⊎ IsBroken rest → rest ≡ stream_of later end → later ≡ []
none_later [] rest end each over e = refl
none_later (f ∷ later) rest end each over e =
    absurd (frame_not_over f (stream_of later end) (All-head IsFrame f later each) (subst (λ (s : List ℕ). IsPartial s ⊎ IsBroken s) (e ∙ append_assoc f (concat later) end) over))

pub one_cut : (stream : List ℕ) (frames others : List (List ℕ)) (rest end : List ℕ) → Cuts stream frames rest → Cuts stream others end → (frames ≡ others) × (rest ≡ end)
one_cut stream frames others rest end cut cut' =
    let found = handed_out_first frames others rest end cut.each cut'.each cut'.over (sym cut.whole ∙ cut'.whole) in
    let each = All-drop IsFrame (length frames) others cut'.each in
    let later : drop (length frames) others ≡ found.0 = ap (λ (xs : List (List ℕ)). drop (length frames) xs) found.1 ∙ drop_at frames found.0 (length frames) refl in
    let none = none_later found.0 rest end (subst (λ (xs : List (List ℕ)). All IsFrame xs) later each) cut.over found.2 in
    (sym (found.1 ∙ ap (λ (xs : List (List ℕ)). frames ++ xs) none ∙ append-nil frames), found.2 ∙ ap (λ (xs : List (List ℕ)). stream_of xs end) none)

pub cut_is_first : (frames whole : List (List ℕ)) (held more rest : List ℕ) → All IsFrame frames → Cuts (stream_of frames held ++ more) whole rest
    → (later : List (List ℕ)) × (whole ≡ frames ++ later) × (held ++ more ≡ stream_of later rest)
cut_is_first frames whole held more rest each cut =
    handed_out_first frames whole (held ++ more) rest each cut.each cut.over (sym (append_assoc (concat frames) held more) ∙ cut.whole)

-- ---- what stands next

pub IsFrame-take : (held : List ℕ) (size : ℕ) → size ≡ said_length held → 8 ≤ size → size ≤ length held → IsFrame (take size held)
IsFrame-take held size is least within =
    let len = length-take-le size held within in
    record {
      header = omega (arith, len);
      whole = number_at-take 2 2 size held (omega arith) ∙ sym is ∙ sym len;
    }

-- ---- what is handed out, and what is fed

pub stream_of-push : (frames : List (List ℕ)) (frame left : List ℕ) → stream_of (frames ++ frame ∷ []) left ≡ stream_of frames (frame ++ left)
stream_of-push frames frame left =
    ap (λ (xs : List ℕ). xs ++ left) (concat-append frames (frame ∷ []) ∙ ap (λ (xs : List ℕ). concat frames ++ xs) (append-nil frame)) ∙ append_assoc (concat frames) frame left
