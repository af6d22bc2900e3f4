-- Laws of histories that are woven of another world's history and of notes.
use Rattle.std.specs.Prelude.{◌≡◌, true, List, [], ◌∷◌, ◌++◌, drop, length, IsTrue, refl}
use Rattle.std.proofs.Common.{sym, ap, ◌∙◌, append_assoc, inl, inr}
use Rattle.std.proofs.Math.Seq.{drop-append_seam, drop-length}
use Rattle.std.proofs.lemmas.Bool.{cases_Bool}
use Rattle.std.proofs.lemmas.List.Elements.{filter-append}
use Rattle.outside.specs.declared.step.WorldStep.{WorldStep}
use Rattle.outside.specs.Seen.{Seen, Longer}
use Rattle.outside.specs.State.{at_first, after_steps, state}
use Rattle.outside.specs.laws.SeenLaws.{Longer-refl, Longer-trans}
use Rattle.linked_world.specs.Linked.{is_app_step, is_link_step, link_steps, Note, links_since, woven, Grows, AppCounts, seen_with}
use Rattle.linked_world.specs.laws.SideLaws.{link_side, side-link_steps}

-- ---- Steps that are none of applications

pub link_steps-append : (xs ys : List WorldStep) → link_steps (xs ++ ys) ≡ link_steps xs ++ link_steps ys
unfolding link_steps
link_steps-append xs ys = filter-append is_link_step xs ys

pub link_steps-app : (step : WorldStep) (steps : List WorldStep) → is_app_step step ≡ true → link_steps (step ∷ steps) ≡ link_steps steps
unfolding link_steps
link_steps-app step steps app = rw app refl

pub link_steps-twice : (steps : List WorldStep) → link_steps (link_steps steps) ≡ link_steps steps
unfolding link_steps
link_steps-twice [] = refl
link_steps-twice (step ∷ steps) =
    elim (cases_Bool (is_app_step step)) [
      | inl app ↦ rw app (link_steps-twice steps)
      | inr other ↦ rw (other, other) (ap (λ (xs : List WorldStep). step ∷ xs) (link_steps-twice steps))
    ]

-- ---- What came since a front

seam : (before now more : List WorldStep) → Longer before now → drop (length before) (now ++ more) ≡ drop (length before) now ++ more
seam before now more longer =
    let there : drop (length before) (before ++ longer.0) ≡ longer.0 = drop-append_seam before longer.0 in
    let further : drop (length before) (before ++ (longer.0 ++ more)) ≡ longer.0 ++ more = drop-append_seam before (longer.0 ++ more) in
    ap (λ (xs : List WorldStep). drop (length before) (xs ++ more)) longer.1
    ∙ ap (drop (length before)) (append_assoc before longer.0 more)
    ∙ further
    ∙ ap (λ (xs : List WorldStep). xs ++ more) (sym there)
    ∙ ap (λ (xs : List WorldStep). drop (length before) xs ++ more) (sym longer.1)

pub links_since-more : (before now more : List WorldStep) → Longer before now → links_since before (now ++ more) ≡ links_since before now ++ link_steps more
links_since-more before now more longer =
    ap link_steps (seam before now more longer) ∙ link_steps-append (drop (length before) now) more

links_since-none : (now : List WorldStep) → links_since now now ≡ []
unfolding link_steps
links_since-none now = ap link_steps (drop-length now)

-- ---- The history goes on

pub Grows-longer : (before : List WorldStep) (notes : List Note) (now : List WorldStep) → Grows before notes now → Longer before now
Grows-longer before [] now grows = grows
Grows-longer before (note ∷ notes) now grows = Longer-trans before note.0 now grows.0 (Grows-longer note.0 notes now grows.2)

pub Grows-more : (before : List WorldStep) (notes : List Note) (now more : List WorldStep) → Grows before notes now → Grows before notes (now ++ more)
Grows-more before [] now more grows = Longer-trans before now (now ++ more) grows (more, refl)
Grows-more before (note ∷ notes) now more grows = (grows.0, grows.1, Grows-more note.0 notes now more grows.2)

pub Grows-noted : (before : List WorldStep) (notes : List Note) (now : List WorldStep) (step : WorldStep) → Grows before notes now → IsTrue (is_app_step step) → Grows before (notes ++ (now, step) ∷ []) now
Grows-noted before [] now step grows app = (grows, app, Longer-refl now)
Grows-noted before (note ∷ notes) now step grows app = (grows.0, grows.1, Grows-noted note.0 notes now step grows.2 app)

-- by steps of the other world
pub woven-more : (before : List WorldStep) (notes : List Note) (now more : List WorldStep) → Grows before notes now → woven before notes (now ++ more) ≡ woven before notes now ++ link_steps more
woven-more before [] now more grows = links_since-more before now more grows
woven-more before (note ∷ notes) now more grows =
    ap (λ (xs : List WorldStep). links_since before note.0 ++ note.1 ∷ xs) (woven-more note.0 notes now more grows.2)
    ∙ sym (append_assoc (links_since before note.0) (note.1 ∷ woven note.0 notes now) (link_steps more))

-- by a note
pub woven-noted : (before : List WorldStep) (notes : List Note) (now : List WorldStep) (step : WorldStep) → woven before (notes ++ (now, step) ∷ []) now ≡ woven before notes now ++ step ∷ []
woven-noted before [] now step = ap (λ (xs : List WorldStep). links_since before now ++ step ∷ xs) (links_since-none now)
woven-noted before (note ∷ notes) now step =
    ap (λ (xs : List WorldStep). links_since before note.0 ++ note.1 ∷ xs) (woven-noted note.0 notes now step)
    ∙ sym (append_assoc (links_since before note.0) (note.1 ∷ woven note.0 notes now) (step ∷ []))

-- ---- Against the other world

-- but for applications it is the other world's history
pub links-woven : (before : List WorldStep) (notes : List Note) (now : List WorldStep) → Grows before notes now → link_steps (woven before notes now) ≡ links_since before now
links-woven before [] now grows = link_steps-twice (drop (length before) now)
links-woven before (note ∷ notes) now grows =
    let rest : Longer note.0 now = Grows-longer note.0 notes now grows.2 in
    let behind : links_since note.0 now ≡ link_steps rest.0 =
    ap (λ (xs : List WorldStep). links_since note.0 xs) rest.1 ∙ ap link_steps (drop-append_seam note.0 rest.0) in
    link_steps-append (links_since before note.0) (note.1 ∷ woven note.0 notes now)
    ∙ ap (λ (xs : List WorldStep). xs ++ link_steps (note.1 ∷ woven note.0 notes now)) (link_steps-twice (drop (length before) note.0))
    ∙ ap (λ (xs : List WorldStep). links_since before note.0 ++ xs) (link_steps-app note.1 (woven note.0 notes now) grows.1 ∙ links-woven note.0 notes now grows.2 ∙ behind)
    ∙ sym (links_since-more before note.0 rest.0 grows.0)
    ∙ ap (λ (xs : List WorldStep). links_since before xs) (sym rest.1)

-- the state that it leaves is the other world's but for applications
pub side-woven : {Own : Type 0} (notes : List Note) (apps : AppCounts) (inner : Seen Own) → Grows [] notes inner.history → link_side (state (seen_with notes apps inner)) ≡ link_side (state inner)
unfolding state seen_with
side-woven notes apps inner grows =
    let s = at_first inner.given in
    side-link_steps (woven [] notes inner.history) s s refl
    ∙ ap (λ (xs : List WorldStep). link_side (after_steps xs s)) (links-woven [] notes inner.history grows)
    ∙ sym (side-link_steps inner.history s s refl)
