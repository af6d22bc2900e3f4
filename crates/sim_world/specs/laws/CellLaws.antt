-- Laws of the cells that lives are kept in.
use Rattle.std.proofs.Common.{◌≡◌, ◌≢◌, ℕ, zero, suc, ◌<◌, Bool, true, false, List, [], ◌∷◌, ◌++◌, length, get_or, set, refl, sym, ap, ◌∙◌, arith, ◌==◌, if◌then◌else◌, is_some}
use Rattle.std.proofs.lemmas.Bool.{eq-eqb, ne_eqb, eqb-true}
use Rattle.outside.specs.declared.call.FailCall.{FailCall}
use Rattle.app_frames.specs.declared.script.ScriptStep.{ScriptStep}
use Rattle.sim_world.specs.declared.life.LifeCell.{LifeCell}
use Rattle.of_types.specs.declared.journal.Act.TheVariants.{Started, Gave, Gone, Ended}
use Rattle.of_types.specs.declared.journal.TookWhat.{TookWhat}
use Rattle.outside.specs.declared.step.WorldStep.{WorldStep}
use Rattle.outside.specs.declared.step.WorldStep.TheVariants.{Acted, TookInto}
use Rattle.outside.specs.State.{event_number}
use Rattle.sim_world.specs.Scripts.{Scripts, Life, fresh, after_start, after_gave, after_gone, after_take, after_end, life_after, will_start}
use Rattle.sim_world.specs.Lives.{life_of_cell, life_in, has_life, named_life, named_lives, has_cell, IsFirst, Moved, ScriptedLives, life_of, is_known}

-- ---- Looking for a cell

not_first : (b rest : Bool) → (if b then true else rest) ≡ false → b ≡ false
not_first true rest none = absurd cc
not_first false rest none = refl

known_still : (b rest more : Bool) → (if b then true else rest) ≡ true → (rest ≡ true → more ≡ true) → (if b then true else more) ≡ true
known_still true rest more known still = refl
known_still false rest more known still = still known

pub no_cell : (app : ℕ) (cells : List LifeCell) → ((k : ℕ) (d : LifeCell) → k < length cells → (get_or cells k d).app ≢ app) → has_cell app cells ≡ false
no_cell app [] none = refl
no_cell app (c ∷ cs) none =
    ap (λ (b : Bool). if b then true else has_cell app cs) (ne_eqb c.app app (none 0 c (omega arith)))
    ∙ no_cell app cs (λ k d lt. none (suc k) d (omega arith))

pub has_life-cell : (replies : List (ℕ × List ScriptStep)) (app : ℕ) (cells : List LifeCell) → has_life app (named_lives replies cells) ≡ has_cell app cells
unfolding named_life
has_life-cell replies app [] = refl
has_life-cell replies app (c ∷ cs) = ap (λ (b : Bool). if c.app == app then true else b) (has_life-cell replies app cs)

pub unknown_is_fresh : (app : ℕ) (lives : List (ℕ × Life)) → has_life app lives ≡ false → life_in app lives ≡ fresh
unknown_is_fresh app [] none = refl
unknown_is_fresh app (x ∷ xs) none =
    let differs : (x.0 == app) ≡ false = not_first (x.0 == app) (has_life app xs) none in
    ap (λ (b : Bool). if b then x.1 else life_in app xs) differs
    ∙ unknown_is_fresh app xs (sym (ap (λ (b : Bool). if b then true else has_life app xs) differs) ∙ none)

pub first_cell : (app i : ℕ) (cells : List LifeCell) (d : LifeCell) → i < length cells → ((k : ℕ) (e : LifeCell) → k < i → (get_or cells k e).app ≢ app) → (get_or cells i d).app ≡ app → IsFirst app i cells
first_cell app i [] d within before here = absurd (omega arith)
first_cell app zero (c ∷ cs) d within before here = here
first_cell app (suc i) (c ∷ cs) d within before here =
    (before 0 c (omega arith), first_cell app i cs d (omega arith) (λ k e lt. before (suc k) e (omega arith)) here)

pub first_app : (app i : ℕ) (cells : List LifeCell) (d : LifeCell) → IsFirst app i cells → (get_or cells i d).app ≡ app
first_app app i [] d first = absurd first
first_app app zero (c ∷ cs) d first = first
first_app app (suc i) (c ∷ cs) d first = first_app app i cs d first.1

pub first_life : (replies : List (ℕ × List ScriptStep)) (app i : ℕ) (cells : List LifeCell) (d : LifeCell) → IsFirst app i cells → life_in app (named_lives replies cells) ≡ life_of_cell replies (get_or cells i d)
unfolding named_life
first_life replies app i [] d first = absurd first
first_life replies app zero (c ∷ cs) d first =
    ap (λ (b : Bool). if b then life_of_cell replies c else life_in app (named_lives replies cs)) (eq-eqb c.app app first)
first_life replies app (suc i) (c ∷ cs) d first =
    ap (λ (b : Bool). if b then life_of_cell replies c else life_in app (named_lives replies cs)) (ne_eqb c.app app first.0)
    ∙ first_life replies app i cs d first.1

-- what is asked of the cell is asked of the life
pub first_is : {X : Type 0} (f : ℕ → Life → X) (replies : List (ℕ × List ScriptStep)) (app i : ℕ) (cells : List LifeCell) (d : LifeCell) → IsFirst app i cells → f (get_or cells i d).app (life_of_cell replies (get_or cells i d)) ≡ f app (life_in app (named_lives replies cells))
first_is f replies app i cells d first =
    ap (λ (a : ℕ). f a (life_of_cell replies (get_or cells i d))) (first_app app i cells d first) ∙ ap (f app) (sym (first_life replies app i cells d first))

pub first_start_calls : (replies : List (ℕ × List ScriptStep)) (app i : ℕ) (cells : List LifeCell) (d : LifeCell) → IsFirst app i cells → (life_in app (named_lives replies cells)).start_calls ≡ (get_or cells i d).start_calls
unfolding life_of_cell
first_start_calls replies app i cells d first = ap (λ (l : Life). l.start_calls) (first_life replies app i cells d first)

pub first_give_calls : (replies : List (ℕ × List ScriptStep)) (app i : ℕ) (cells : List LifeCell) (d : LifeCell) → IsFirst app i cells → (life_in app (named_lives replies cells)).give_calls ≡ (get_or cells i d).give_calls
unfolding life_of_cell
first_give_calls replies app i cells d first = ap (λ (l : Life). l.give_calls) (first_life replies app i cells d first)

pub first_take_calls : (replies : List (ℕ × List ScriptStep)) (app i : ℕ) (cells : List LifeCell) (d : LifeCell) → IsFirst app i cells → (life_in app (named_lives replies cells)).take_calls ≡ (get_or cells i d).take_calls
unfolding life_of_cell
first_take_calls replies app i cells d first = ap (λ (l : Life). l.take_calls) (first_life replies app i cells d first)

pub first_running : (replies : List (ℕ × List ScriptStep)) (app i : ℕ) (cells : List LifeCell) (d : LifeCell) → IsFirst app i cells → (life_in app (named_lives replies cells)).running ≡ (get_or cells i d).running
unfolding life_of_cell
first_running replies app i cells d first = ap (λ (l : Life). l.running) (first_life replies app i cells d first)

-- ---- Changing a cell

moved_here : (b : Bool) (old new rest : Life) (change : Life → Life) → new ≡ change old → (if b then new else rest) ≡ if b then change (if b then old else rest) else (if b then old else rest)
moved_here true old new rest change same = same
moved_here false old new rest change same = refl

moved_later : (b m : Bool) (here old new : Life) (change : Life → Life) → (m ≡ true → b ≡ false) → new ≡ (if m then change old else old) → (if b then here else new) ≡ if m then change (if b then here else old) else (if b then here else old)
moved_later true true here old new change apart same = absurd (let bad = apart refl in cc)
moved_later true false here old new change apart same = refl
moved_later false true here old new change apart same = same
moved_later false false here old new change apart same = same

pub moved_lives : (replies : List (ℕ × List ScriptStep)) (app i : ℕ) (cells : List LifeCell) (d new : LifeCell) (change : Life → Life) → IsFirst app i cells → new.app ≡ app
    → life_of_cell replies new ≡ change (life_of_cell replies (get_or cells i d)) → (a : ℕ) → life_in a (named_lives replies (set cells i new)) ≡ if app == a then change (life_in a (named_lives replies cells)) else life_in a (named_lives replies cells)
unfolding named_life
moved_lives replies app i [] d new change first same life a = absurd first
moved_lives replies app zero (c ∷ cs) d new change first same life a =
    let old_is : (c.app == a) ≡ (app == a) = ap (λ (x : ℕ). x == a) first in
    let new_is : (new.app == a) ≡ (app == a) = ap (λ (x : ℕ). x == a) same in
    ap (λ (b : Bool). if b then life_of_cell replies new else life_in a (named_lives replies cs)) new_is
    ∙ moved_here (app == a) (life_of_cell replies c) (life_of_cell replies new) (life_in a (named_lives replies cs)) change life
    ∙ sym (ap (λ (b : Bool). if app == a then change (if b then life_of_cell replies c else life_in a (named_lives replies cs)) else (if b then life_of_cell replies c else life_in a (named_lives replies cs))) old_is)
moved_lives replies app (suc i) (c ∷ cs) d new change first same life a =
    moved_later (c.app == a) (app == a) (life_of_cell replies c) (life_in a (named_lives replies cs)) (life_in a (named_lives replies (set cs i new))) change
    (λ is. ne_eqb c.app a (λ e. first.0 (e ∙ sym (eqb-true app a is))))
    (moved_lives replies app i cs d new change first.1 same life a)

pub moved_known : (replies : List (ℕ × List ScriptStep)) (app i : ℕ) (cells : List LifeCell) (new : LifeCell) → IsFirst app i cells → new.app ≡ app → (a : ℕ) → has_life a (named_lives replies (set cells i new)) ≡ has_life a (named_lives replies cells)
unfolding named_life
moved_known replies app i [] new first same a = absurd first
moved_known replies app zero (c ∷ cs) new first same a =
    ap (λ (x : ℕ). if x == a then true else has_life a (named_lives replies cs)) (same ∙ sym first)
moved_known replies app (suc i) (c ∷ cs) new first same a =
    ap (λ (known : Bool). if c.app == a then true else known) (moved_known replies app i cs new first.1 same a)

pub Moved-cell : (replies : List (ℕ × List ScriptStep)) (app i : ℕ) (cells : List LifeCell) (d new : LifeCell) (change : ℕ → Life → Life) → IsFirst app i cells → new.app ≡ (get_or cells i d).app
    → life_of_cell replies new ≡ change (get_or cells i d).app (life_of_cell replies (get_or cells i d)) → Moved app (change app) (named_lives replies cells) (named_lives replies (set cells i new))
Moved-cell replies app i cells d new change first same life =
    let here = first_app app i cells d first in
    let lives = moved_lives replies app i cells d new (change app) first (same ∙ here) (life ∙ ap (λ (a : ℕ). change a (life_of_cell replies (get_or cells i d))) here) in
    record { lives = lives; known = moved_known replies app i cells new first (same ∙ here) }

-- ---- A cell more

pub first_known : (app i : ℕ) (cells : List LifeCell) → IsFirst app i cells → has_cell app cells ≡ true
first_known app i [] first = absurd first
first_known app zero (c ∷ cs) first = ap (λ (b : Bool). if b then true else has_cell app cs) (eq-eqb c.app app first)
first_known app (suc i) (c ∷ cs) first = ap (λ (b : Bool). if b then true else has_cell app cs) (ne_eqb c.app app first.0) ∙ first_known app i cs first.1

named_lives-push : (replies : List (ℕ × List ScriptStep)) (cells : List LifeCell) (cell : LifeCell) → named_lives replies (cells ++ cell ∷ []) ≡ named_lives replies cells ++ (cell.app, life_of_cell replies cell) ∷ []
unfolding named_life
named_lives-push replies [] cell = refl
named_lives-push replies (c ∷ cs) cell = ap (λ (xs : List (ℕ × Life)). (c.app, life_of_cell replies c) ∷ xs) (named_lives-push replies cs cell)

-- a fresh cell is one fresh life more
pub pushed : (replies : List (ℕ × List ScriptStep)) (cells new : List LifeCell) (cell : LifeCell) (app : ℕ) → new ≡ cells ++ cell ∷ [] → cell.app ≡ app → life_of_cell replies cell ≡ fresh → named_lives replies new ≡ named_lives replies cells ++ (app, fresh) ∷ []
pushed replies cells new cell app is named life =
    ap (named_lives replies) is
    ∙ named_lives-push replies cells cell
    ∙ ap (λ (a : ℕ). named_lives replies cells ++ (a, life_of_cell replies cell) ∷ []) named
    ∙ ap (λ (l : Life). named_lives replies cells ++ (app, l) ∷ []) life

pub life_in-fresh : (a app : ℕ) (lives : List (ℕ × Life)) → life_in a (lives ++ (app, fresh) ∷ []) ≡ life_in a lives
life_in-fresh a app [] = elim (app == a) as (λ (b : Bool). (if b then fresh else fresh) ≡ fresh) [ true ↦ refl | false ↦ refl ]
life_in-fresh a app (x ∷ xs) = ap (λ (l : Life). if x.0 == a then x.1 else l) (life_in-fresh a app xs)

pub has_life-kept : (a : ℕ) (lives more : List (ℕ × Life)) → has_life a lives ≡ true → has_life a (lives ++ more) ≡ true
has_life-kept a [] more known = absurd cc
has_life-kept a (x ∷ xs) more known = known_still (x.0 == a) (has_life a xs) (has_life a (xs ++ more)) known (has_life-kept a xs more)

pub has_life-new : (app : ℕ) (l : Life) (lives : List (ℕ × Life)) → has_life app (lives ++ (app, l) ∷ []) ≡ true
has_life-new app l [] = ap (λ (b : Bool). if b then true else false) (eq-eqb app app refl)
has_life-new app l (x ∷ xs) = elim (x.0 == app) as (λ (b : Bool). (if b then true else has_life app (xs ++ (app, l) ∷ [])) ≡ true) [ true ↦ refl | false ↦ has_life-new app l xs ]

-- ---- What a step makes of all lives

of_app : (b : Bool) (app a : ℕ) (change : ℕ → Life → Life) (old new : Life) → (b ≡ true → app ≡ a) → new ≡ (if b then change app old else old) → new ≡ if b then change a old else old
of_app true app a change old new same is = is ∙ ap (λ (x : ℕ). change x old) (same refl)
of_app false app a change old new same is = is

unchanged : (b : Bool) (app a : ℕ) (lives : List (ℕ × Life)) → (b ≡ true → app ≡ a) → life_in app lives ≡ fresh → life_in a lives ≡ if b then after_end (life_in a lives) else life_in a lives
unfolding fresh after_end
unchanged true app a lives same none = let here = same refl in let is : life_in a lives ≡ fresh = ap (λ (x : ℕ). life_in x lives) (sym here) ∙ none in is ∙ sym (ap after_end is)
unchanged false app a lives same none = refl

-- what is true of the change at the application is what a step makes of each life
pub Moved-steps : (app : ℕ) (change : ℕ → Life → Life) (old new : List (ℕ × Life)) → Moved app (change app) old new → (a : ℕ) → life_in a new ≡ if app == a then change a (life_in a old) else life_in a old
Moved-steps app change old new moved a = of_app (app == a) app a change (life_in a old) (life_in a new) (eqb-true app a) (moved.lives a)

pub lives-started : (own : Scripts) (fails : List FailCall) (app : ℕ) (ok : Bool) (old new : List (ℕ × Life)) → Moved app (after_start own fails app ok) old new → (a : ℕ) → life_in a new ≡ life_after own fails a (Acted (Started app ok)) (life_in a old)
unfolding life_after
lives-started own fails app ok old new moved a = Moved-steps app (λ x. after_start own fails x ok) old new moved a

pub lives-gave : (own : Scripts) (fails : List FailCall) (app : ℕ) (bytes : List ℕ) (old new : List (ℕ × Life)) → Moved app (after_gave own app (is_some (event_number bytes))) old new → (a : ℕ) → life_in a new ≡ life_after own fails a (Acted (Gave app bytes)) (life_in a old)
unfolding life_after
lives-gave own fails app bytes old new moved a = Moved-steps app (λ x. after_gave own x (is_some (event_number bytes))) old new moved a

pub lives-gone : (own : Scripts) (fails : List FailCall) (app : ℕ) (bytes : List ℕ) (old new : List (ℕ × Life)) → Moved app after_gone old new → (a : ℕ) → life_in a new ≡ life_after own fails a (Acted (Gone app bytes)) (life_in a old)
unfolding life_after
lives-gone own fails app bytes old new moved a = moved.lives a

pub lives-taken : (own : Scripts) (fails : List FailCall) (app room : ℕ) (what : TookWhat) (old new : List (ℕ × Life)) → Moved app (after_take fails app what) old new → (a : ℕ) → life_in a new ≡ life_after own fails a (TookInto app what room) (life_in a old)
unfolding life_after
lives-taken own fails app room what old new moved a = Moved-steps app (λ x. after_take fails x what) old new moved a

pub lives-ended : (own : Scripts) (fails : List FailCall) (app : ℕ) (old new : List (ℕ × Life)) → Moved app after_end old new → (a : ℕ) → life_in a new ≡ life_after own fails a (Acted (Ended app)) (life_in a old)
unfolding life_after
lives-ended own fails app old new moved a = moved.lives a

-- the end of an application that was not spoken of changes nothing
pub Moved-unknown : (app : ℕ) (lives : List (ℕ × Life)) → has_life app lives ≡ false → Moved app after_end lives lives
unfolding fresh after_end
Moved-unknown app lives unknown = record {
  lives = λ a. unchanged (app == a) app a lives (eqb-true app a) (unknown_is_fresh app lives unknown);
  known = λ a. refl;
}

-- ---- Lives as they are seen, and the cells behind them

pub seen_life : (a : ℕ) (s : ScriptedLives) (lines : Scripts) (cells items : List LifeCell) → ◌≡◌ {A = ScriptedLives} (record { own = lines; lives = named_lives lines.replies cells }) s → items ≡ cells → life_in a (named_lives lines.replies items) ≡ life_of a s
unfolding life_of
seen_life a s lines cells items view same = ap (λ (xs : List LifeCell). life_in a (named_lives lines.replies xs)) same ∙ ap (life_of a) view

pub seen_known : (a : ℕ) (s : ScriptedLives) (lines : Scripts) (cells items : List LifeCell) → ◌≡◌ {A = ScriptedLives} (record { own = lines; lives = named_lives lines.replies cells }) s → items ≡ cells → has_life a (named_lives lines.replies items) ≡ is_known a s
unfolding is_known
seen_known a s lines cells items view same = ap (λ (xs : List LifeCell). has_life a (named_lives lines.replies xs)) same ∙ ap (is_known a) view

pub seen_cell : (a : ℕ) (s : ScriptedLives) (lines : Scripts) (cells items : List LifeCell) → ◌≡◌ {A = ScriptedLives} (record { own = lines; lives = named_lives lines.replies cells }) s → items ≡ cells → is_known a s ≡ true → has_cell a items ≡ true
seen_cell a s lines cells items view same known = sym (has_life-cell lines.replies a items) ∙ seen_known a s lines cells items view same ∙ known

pub seen_steps : (s : ScriptedLives) (lines : Scripts) (cells items : List LifeCell) (new : List (ℕ × Life)) (fails : List FailCall) (step : WorldStep) → ◌≡◌ {A = ScriptedLives} (record { own = lines; lives = named_lives lines.replies cells }) s → items ≡ cells
    → ((a : ℕ) → life_in a new ≡ life_after lines fails a step (life_in a (named_lives lines.replies items))) → (a : ℕ) → life_in a new ≡ life_after s.own fails a step (life_of a s)
unfolding life_of
seen_steps s lines cells items new fails step view same moved a =
    moved a
    ∙ ap (λ (xs : List LifeCell). life_after lines fails a step (life_in a (named_lives lines.replies xs))) same
    ∙ ap (λ (p : ScriptedLives). life_after p.own fails a step (life_of a p)) view

pub seen_start : (s : ScriptedLives) (lines : Scripts) (cells items : List LifeCell) (fails : List FailCall) (app : ℕ) → ◌≡◌ {A = ScriptedLives} (record { own = lines; lives = named_lives lines.replies cells }) s → items ≡ cells
    → will_start lines fails app (life_in app (named_lives lines.replies items)) ≡ will_start s.own fails app (life_of app s)
unfolding life_of
seen_start s lines cells items fails app view same =
    ap (λ (xs : List LifeCell). will_start lines fails app (life_in app (named_lives lines.replies xs))) same
    ∙ ap (λ (p : ScriptedLives). will_start p.own fails app (life_of app p)) view
