-- Laws of how lives are kept: places in steps, and places in lines.
use Rattle.std.proofs.Common.{inl, inr, ◌≡◌, ℕ, zero, suc, ◌+◌, ◌<◌, ◌≤◌, Bool, true, false, cond, List, [], ◌∷◌, map, length, take, drop, min, ◌-◌, leb, refl, sym, ap, ◌∙◌, arith, Option, Some, None, slice_get, ◌==◌, if◌then◌else◌, is_some, add-one, ◌≢◌, nat_lt, ◌&&◌, Ok}
use Rattle.std.proofs.Math.Seq.{drop-nil}
use Rattle.std.proofs.Math.ListN.{drop_of_length-le}
use Rattle.std.proofs.Math.Dec.{leb-zero, leb-suc-zero, leb-suc-suc}
use Rattle.std.proofs.lemmas.Option.{slice_get_within}
use Rattle.std.specs.List.{filter}
use Rattle.std.specs.Option.{option_map}
use Rattle.std.proofs.lemmas.Bool.{eq-eqb, ne_eqb, leb-false, cases_lt}
use Rattle.std.proofs.Math.Nat.{min-eq_left, min-eq_right}
use Rattle.std.proofs.lemmas.List.{drop-drop, length-drop, length-take, length-take-le}
use Rattle.of_types.specs.declared.journal.TookWhat.{TookWhat}
use Rattle.of_types.specs.declared.journal.TookWhat.TheVariants as took
use Rattle.of_types.specs.Fields.{number_at}
use Rattle.app_frames.specs.declared.script.ScriptStep.{ScriptStep}
use Rattle.app_frames.specs.declared.script.ScriptStep.TheVariants.{Bytes, Closed, Silent}
use Rattle.outside.specs.Calls.{take_steps}
use Rattle.outside.specs.State.{event_number}
use Rattle.outside.specs.declared.item.Taken.{Taken}
use Rattle.outside.specs.declared.item.Taken.TheVariants as gave
use Rattle.outside.specs.declared.step.WorldStep.TheVariants.{TookInto}
use Rattle.sim_world.specs.declared.life.Position.{Position}
use Rattle.app_frames.specs.declared.script.StartScript.{StartScript}
use Rattle.outside.specs.declared.call.FailCall.{FailCall}
use Rattle.sim_world.specs.declared.life.Giving.{Giving}
use Rattle.sim_world.specs.declared.life.Giving.TheVariants.{Start}
use Rattle.sim_world.specs.declared.life.LifeCell.{LifeCell}
use Rattle.sim_world.specs.Scripts.{Scripts, Life, passed, first_given, first_taken, taken_bytes, lines_of, start_or_ready, turn_or_plain, steps_of_start, next_start, next_turn, after_start, after_gave, start_reached, is_refused}
use Rattle.sim_world.specs.Lives.{cut, from_position, begins_empty, steps_of_line, steps_given, IsGivingIn, IsNextLine, Follows, life_of_cell, IsCellOf, took_of}

-- ---- Elements and rests

-- an element begins the rest from its place on
pub drop-at : {A : Type 0} → (xs : List A) (i : ℕ) (x : A) → slice_get xs i ≡ Some x → drop i xs ≡ x ∷ drop (i + 1) xs
drop-at [] i x at = absurd cc
drop-at (y ∷ ys) zero x at = cc
drop-at (y ∷ ys) (suc i) x at = drop-at ys i x at ∙ rw add-one (rw add-one refl)

drop-suc : {A : Type 0} → (xs : List A) (i : ℕ) → drop (suc i) xs ≡ drop 1 (drop i xs)
drop-suc [] i = sym (ap (drop 1) (drop-nil i))
drop-suc (x ∷ xs) zero = refl
drop-suc (x ∷ xs) (suc i) = drop-suc xs i

pub drop-next : {A : Type 0} → (xs : List A) (i : ℕ) → drop (i + 1) xs ≡ drop 1 (drop i xs)
drop-next xs i = rw add-one (drop-suc xs i)

pub slice_get-drop : {A : Type 0} → (xs : List A) (i : ℕ) → slice_get (drop i xs) 0 ≡ slice_get xs i
slice_get-drop [] i = rw drop-nil refl
slice_get-drop (x ∷ xs) zero = refl
slice_get-drop (x ∷ xs) (suc i) = slice_get-drop xs i

-- ---- Places in steps

pub cut-zero : (steps : List ScriptStep) → cut 0 steps ≡ steps
cut-zero [] = refl
cut-zero (Bytes bytes ∷ steps) = refl
cut-zero (Closed ∷ steps) = refl
cut-zero (Silent ∷ steps) = refl

pub from_position-bytes : (steps : List ScriptStep) (at : Position) (bytes : List ℕ) → slice_get steps at.step ≡ Some (Bytes bytes) → from_position at steps ≡ Bytes (drop at.offset bytes) ∷ drop (at.step + 1) steps
unfolding from_position
from_position-bytes steps at bytes is = ap (cut at.offset) (drop-at steps at.step (Bytes bytes) is)

pub from_position-closed : (steps : List ScriptStep) (at : Position) → slice_get steps at.step ≡ Some Closed → from_position at steps ≡ Closed ∷ drop (at.step + 1) steps
unfolding from_position
from_position-closed steps at is = ap (cut at.offset) (drop-at steps at.step Closed is)

pub from_position-silent : (steps : List ScriptStep) (at : Position) → slice_get steps at.step ≡ Some Silent → from_position at steps ≡ Silent ∷ drop (at.step + 1) steps
unfolding from_position
from_position-silent steps at is = ap (cut at.offset) (drop-at steps at.step Silent is)

-- the place at the front of a step
pub from_position-front : (steps : List ScriptStep) (step : ℕ) → from_position (record { step = step; offset = 0 }) steps ≡ drop step steps
unfolding from_position
from_position-front steps step = cut-zero (drop step steps)

-- a step has no byte left where as many were taken as it has
pub begins_empty-bytes : (bytes : List ℕ) (n : ℕ) (steps : List ScriptStep) → begins_empty (Bytes (drop n bytes) ∷ steps) ≡ leb (length bytes) n
begins_empty-bytes [] zero steps = refl
begins_empty-bytes [] (suc n) steps = sym (leb-zero (suc n))
begins_empty-bytes (b ∷ bs) zero steps = sym (leb-suc-zero (length bs))
begins_empty-bytes (b ∷ bs) (suc n) steps = begins_empty-bytes bs n steps ∙ sym (leb-suc-suc (length bs) n)

passed-first : (steps : List ScriptStep) → begins_empty steps ≡ true → passed steps ≡ passed (drop 1 steps)
passed-first [] empty = refl
passed-first (Bytes [] ∷ steps) empty = refl
passed-first (Bytes (b ∷ bs) ∷ steps) empty = absurd cc
passed-first (Closed ∷ steps) empty = absurd cc
passed-first (Silent ∷ steps) empty = absurd cc

cut-rest : (n : ℕ) (steps : List ScriptStep) → drop 1 (cut n steps) ≡ drop 1 steps
cut-rest n [] = refl
cut-rest n (Bytes bytes ∷ steps) = refl
cut-rest n (Closed ∷ steps) = refl
cut-rest n (Silent ∷ steps) = refl

-- where a step has no byte left, the place behind it does as well
pub passed-next : (steps : List ScriptStep) (at : Position) → begins_empty (from_position at steps) ≡ true → passed (from_position at steps) ≡ passed (from_position (record { step = at.step + 1; offset = 0 }) steps)
unfolding from_position
passed-next steps at empty =
    passed-first (from_position at steps) empty
    ∙ ap passed (cut-rest at.offset (drop at.step steps) ∙ sym (drop-next steps at.step) ∙ sym (cut-zero (drop (at.step + 1) steps)))

-- ---- What is taken at a place

-- a step that begins a place which has a byte left
pub offset_within : (steps : List ScriptStep) (at : Position) (bytes : List ℕ) → slice_get steps at.step ≡ Some (Bytes bytes) → begins_empty (from_position at steps) ≡ false → at.offset < length bytes
offset_within steps at bytes is begun =
    leb-false (length bytes) at.offset (sym (begins_empty-bytes bytes at.offset (drop (at.step + 1) steps)) ∙ sym (ap begins_empty (from_position-bytes steps at bytes is)) ∙ begun)

pub bytes_empty : (steps : List ScriptStep) (at : Position) (bytes : List ℕ) → slice_get steps at.step ≡ Some (Bytes bytes) → leb (length bytes) at.offset ≡ begins_empty (from_position at steps)
bytes_empty steps at bytes is = sym (ap begins_empty (from_position-bytes steps at bytes is) ∙ begins_empty-bytes bytes at.offset (drop (at.step + 1) steps))

pub bytes_given : (steps : List ScriptStep) (at : Position) (bytes : List ℕ) (room : ℕ) → slice_get steps at.step ≡ Some (Bytes bytes) → first_given room (from_position at steps) ≡ took.Bytes (take room (drop at.offset bytes))
bytes_given steps at bytes room is = ap (first_given room) (from_position-bytes steps at bytes is)

pub bytes_count : (steps : List ScriptStep) (at : Position) (bytes : List ℕ) (room : ℕ) → slice_get steps at.step ≡ Some (Bytes bytes) → min room (length bytes - at.offset) ≡ length (taken_bytes (first_given room (from_position at steps)))
bytes_count steps at bytes room is =
    ap (λ (n : ℕ). min room n) (sym (length-drop at.offset bytes))
    ∙ sym (length-take room (drop at.offset bytes))
    ∙ sym (ap (λ (what : TookWhat). length (taken_bytes what)) (bytes_given steps at bytes room is))

-- what is left where so many bytes were taken, which stand in the front of a buffer
pub bytes_left : (steps : List ScriptStep) (at : Position) (bytes buf : List ℕ) (count : ℕ) → slice_get steps at.step ≡ Some (Bytes bytes) → count ≤ length buf
    → from_position (record { step = at.step; offset = at.offset + count }) steps ≡ first_taken (length (take count buf)) (from_position at steps)
bytes_left steps at bytes buf count is few =
    from_position-bytes steps (record { step = at.step; offset = at.offset + count }) bytes is
    ∙ ap (λ (bs : List ℕ). Bytes bs ∷ drop (at.step + 1) steps) (sym (drop-drop count at.offset bytes))
    ∙ ap (λ (n : ℕ). Bytes (drop n (drop at.offset bytes)) ∷ drop (at.step + 1) steps) (sym (length-take-le count buf few))
    ∙ sym (ap (first_taken (length (take count buf))) (from_position-bytes steps at bytes is))

-- some bytes are taken, and as many as there is room for
pub some_taken : (count room left : ℕ) → count ≡ min room left → 0 < room → 0 < left → (1 ≤ count) × (count ≤ room)
some_taken count room left is some more =
    elim (cases_lt room left) [
      | inl less ↦ let least : min room left ≡ room = min-eq_left (omega (arith, less)) in (omega (arith, is, least, some), omega (arith, is, least))
      | inr not_less ↦ let least : min room left ≡ left = min-eq_right not_less in (omega (arith, is, least, more), omega (arith, is, least, not_less))
    ]

-- a step without bytes leaves what stands behind it
pub closed_left : (steps : List ScriptStep) (at : Position) → slice_get steps at.step ≡ Some Closed → from_position (record { step = at.step + 1; offset = 0 }) steps ≡ first_taken 0 (from_position at steps)
closed_left steps at is = from_position-front steps (at.step + 1) ∙ sym (ap (first_taken 0) (from_position-closed steps at is))

pub silent_left : (steps : List ScriptStep) (at : Position) → slice_get steps at.step ≡ Some Silent → from_position (record { step = at.step + 1; offset = 0 }) steps ≡ first_taken 0 (from_position at steps)
silent_left steps at is = from_position-front steps (at.step + 1) ∙ sym (ap (first_taken 0) (from_position-silent steps at is))

-- ---- Events

-- what is too short for a kind tells no event
pub no_event : (bytes : List ℕ) → length bytes ≤ 4 → nat_lt 4 (length bytes) ≡ is_some (event_number bytes)
unfolding event_number number_at
no_event [] short = refl
no_event (a ∷ []) short = refl
no_event (a ∷ b ∷ []) short = refl
no_event (a ∷ b ∷ c ∷ []) short = refl
no_event (a ∷ b ∷ c ∷ d ∷ []) short = refl
no_event (a ∷ b ∷ c ∷ d ∷ e ∷ rest) short = absurd (omega arith)

-- ---- Places in lines

pub lines_of-cons : {A : Type 0} → (app : ℕ) (line : ℕ × A) (lines : List (ℕ × A)) → lines_of app (line ∷ lines) ≡ if line.0 == app then line.1 ∷ lines_of app lines else lines_of app lines
unfolding lines_of
lines_of-cons {A} app line lines =
    elim (line.0 == app) as (λ (b : Bool). map (λ (l : ℕ × A). l.1) (cond b (line ∷ filter (λ (l : ℕ × A). l.0 == app) lines) (filter (λ (l : ℕ × A). l.0 == app) lines)) ≡ if b then line.1 ∷ lines_of app lines else lines_of app lines) [
      | true ↦ refl
      | false ↦ refl
    ]

pub lines_of-same : {A : Type 0} → (app : ℕ) (lines : List (ℕ × A)) (i : ℕ) (line : ℕ × A) → slice_get lines i ≡ Some line → line.0 ≡ app → lines_of app (drop i lines) ≡ line.1 ∷ lines_of app (drop (i + 1) lines)
lines_of-same app lines i line at same =
    ap (lines_of app) (drop-at lines i line at)
    ∙ lines_of-cons app line (drop (i + 1) lines)
    ∙ ap (λ (b : Bool). if b then line.1 ∷ lines_of app (drop (i + 1) lines) else lines_of app (drop (i + 1) lines)) (eq-eqb line.0 app same)

pub lines_of-other : {A : Type 0} → (app : ℕ) (lines : List (ℕ × A)) (i : ℕ) (line : ℕ × A) → slice_get lines i ≡ Some line → line.0 ≢ app → lines_of app (drop i lines) ≡ lines_of app (drop (i + 1) lines)
lines_of-other app lines i line at other =
    ap (lines_of app) (drop-at lines i line at)
    ∙ lines_of-cons app line (drop (i + 1) lines)
    ∙ ap (λ (b : Bool). if b then line.1 ∷ lines_of app (drop (i + 1) lines) else lines_of app (drop (i + 1) lines)) (ne_eqb line.0 app other)

pub lines_of-end : {A : Type 0} → (app : ℕ) (lines : List (ℕ × A)) (i : ℕ) → length lines ≤ i → lines_of app (drop i lines) ≡ []
unfolding lines_of
lines_of-end app lines i end = ap (lines_of app) (drop_of_length-le lines end)

-- a line by its application, and by its steps
pub line_of_app : {A : Type 0} (found : Option (ℕ × A)) (app : ℕ) → option_map (λ line. line.0) found ≡ Some app → (line : ℕ × A) × (found ≡ Some line) × (line.0 ≡ app)
line_of_app None app is = absurd cc
line_of_app (Some line) app is = (line, refl, cc)

pub steps_of_reply : (found : Option (ℕ × List ScriptStep)) (steps : List ScriptStep) → option_map (λ line. line.1) found ≡ Some steps → steps ≡ steps_of_line found
steps_of_reply None steps is = absurd cc
steps_of_reply (Some line) steps is = cc

pub Follows-line : {A : Type 0} → (app from i : ℕ) (lines : List (ℕ × A)) → IsNextLine app from lines (Some i) → Follows app from (i + 1) lines
Follows-line app from i lines next =
    let within = slice_get_within lines i next.0 next.1 in
    record { rest = sym (ap (drop 1) next.2); within = omega arith }

pub Follows-none : {A : Type 0} → (app from : ℕ) (lines : List (ℕ × A)) → IsNextLine app from lines None → Follows app from (length lines) lines
Follows-none app from lines none =
    record { rest = lines_of-end app lines (length lines) (omega arith) ∙ sym (ap (drop 1) none); within = omega arith }

pub first-line : {A : Type 0} → (app from i : ℕ) (lines : List (ℕ × A)) (line : ℕ × A) → IsNextLine app from lines (Some i) → slice_get lines i ≡ Some line → slice_get (lines_of app (drop from lines)) 0 ≡ Some line.1
first-line {A} app from i lines line next at =
    let same : next.0 ≡ line = cc (next.1, at) in
    ap (λ (xs : List A). slice_get xs 0) next.2 ∙ ap (λ (l : ℕ × A). Some l.1) same

pub first-none : {A : Type 0} → (app from : ℕ) (lines : List (ℕ × A)) → IsNextLine app from lines None → slice_get (lines_of app (drop from lines)) 0 ≡ None
first-none {A} app from lines none = ap (λ (xs : List A). slice_get xs 0) none

-- ---- One life

-- the next line behind its place is the next one that it did not take
pub next_start-cell : (own : Scripts) (c : LifeCell) → IsCellOf own c → start_or_ready (slice_get (lines_of c.app (drop c.next_start own.starts)) 0) ≡ next_start own c.app (life_of_cell own.replies c)
unfolding next_start life_of_cell
next_start-cell own c is =
    ap start_or_ready (sym (ap (λ (xs : List StartScript). slice_get xs 0) is.starts_left) ∙ slice_get-drop (lines_of c.app own.starts) c.starts)

pub next_turn-cell : (own : Scripts) (c : LifeCell) → IsCellOf own c → turn_or_plain (slice_get (lines_of c.app (drop c.next_reply own.replies)) 0) ≡ next_turn own c.app (life_of_cell own.replies c)
unfolding next_turn life_of_cell
next_turn-cell own c is =
    ap turn_or_plain (sym (ap (λ (xs : List (List ScriptStep)). slice_get xs 0) is.replies_left) ∙ slice_get-drop (lines_of c.app own.replies) c.replies)

-- one line more is taken
pub lines-taken : {A : Type 0} → (app count from next : ℕ) (lines : List (ℕ × A)) → drop count (lines_of app lines) ≡ lines_of app (drop from lines) → Follows app from next lines → drop (count + 1) (lines_of app lines) ≡ lines_of app (drop next lines)
lines-taken app count from next lines left follows =
    drop-next (lines_of app lines) count ∙ ap (drop 1) left ∙ sym follows.rest

pub from_first : (steps : List ScriptStep) → from_position (record { step = 0; offset = 0 }) steps ≡ steps
from_first steps = from_position-front steps 0

pub IsCellOf-start : (own : Scripts) (c : LifeCell) (running : Bool) (next : ℕ) (giving : Giving) (at : Position) → IsCellOf own c → Follows c.app c.next_start next own.starts → IsGivingIn own.replies giving
    → IsCellOf own (record c { running = running; starts = c.starts + 1; start_calls = c.start_calls + 1; next_start = next; giving = giving; at = at })
IsCellOf-start own c running next giving at is follows given = record {
  starts_left = lines-taken c.app c.starts c.next_start next own.starts is.starts_left follows;
  replies_left = is.replies_left;
  start_within = follows.within;
  reply_within = is.reply_within;
  giving = given;
  few_starts = let few = is.few_starts in omega arith;
  few_replies = is.few_replies;
}

pub IsCellOf-turn : (own : Scripts) (c : LifeCell) (next : ℕ) (giving : Giving) (at : Position) → IsCellOf own c → Follows c.app c.next_reply next own.replies → IsGivingIn own.replies giving
    → IsCellOf own (record c { replies = c.replies + 1; give_calls = c.give_calls + 1; next_reply = next; giving = giving; at = at })
IsCellOf-turn own c next giving at is follows given = record {
  starts_left = is.starts_left;
  replies_left = lines-taken c.app c.replies c.next_reply next own.replies is.replies_left follows;
  start_within = is.start_within;
  reply_within = follows.within;
  giving = given;
  few_starts = is.few_starts;
  few_replies = let few = is.few_replies in omega arith;
}

pub after_start-refused : (own : Scripts) (fails : List FailCall) (app : ℕ) (l : Life) → (start_reached fails app l && is_refused (next_start own app l)) ≡ true → after_start own fails app false l ≡ record l { starts = l.starts + 1; start_calls = l.start_calls + 1 }
unfolding after_start
after_start-refused own fails app l refused = rw refused refl

pub after_start-missed : (own : Scripts) (fails : List FailCall) (app : ℕ) (l : Life) → (start_reached fails app l && is_refused (next_start own app l)) ≡ false → after_start own fails app false l ≡ record l { start_calls = l.start_calls + 1 }
unfolding after_start
after_start-missed own fails app l missed = rw missed refl

-- what is given from the front of a start, and of a turn
pub life-started : (own : Scripts) (fails : List FailCall) (c : LifeCell) (s : StartScript) (next : ℕ) → s ≡ next_start own c.app (life_of_cell own.replies c)
    → life_of_cell own.replies (record c { running = true; starts = c.starts + 1; start_calls = c.start_calls + 1; next_start = next; giving = Start s; at = record { step = 0; offset = 0 } }) ≡ after_start own fails c.app true (life_of_cell own.replies c)
unfolding life_of_cell after_start steps_given
life-started own fails c s next same =
    ap (λ (steps : List ScriptStep). record (life_of_cell own.replies c) { running = true; starts = c.starts + 1; start_calls = c.start_calls + 1; left = steps }) (from_first (steps_of_start s) ∙ ap steps_of_start same)

pub life-turn : (own : Scripts) (c : LifeCell) (giving : Giving) (next : ℕ) → steps_given own.replies giving ≡ next_turn own c.app (life_of_cell own.replies c)
    → life_of_cell own.replies (record c { replies = c.replies + 1; give_calls = c.give_calls + 1; next_reply = next; giving = giving; at = record { step = 0; offset = 0 } }) ≡ after_gave own c.app true (life_of_cell own.replies c)
unfolding life_of_cell after_gave
life-turn own c giving next same =
    ap (λ (steps : List ScriptStep). record (life_of_cell own.replies c) { replies = c.replies + 1; give_calls = c.give_calls + 1; left = steps }) (from_first (steps_given own.replies giving) ∙ same)

pub after_gave-other : (own : Scripts) (app : ℕ) (event : Bool) (l : Life) → event ≡ false → after_gave own app event l ≡ record l { give_calls = l.give_calls + 1 }
unfolding after_gave
after_gave-other own app event l other = rw other refl

-- ---- Takes

-- what a take that answers appends to the history
pub take_steps-took : (app : ℕ) (what : Taken) (buf : List ℕ) → take_steps app (Ok what) buf ≡ TookInto app (took_of what buf) (length buf) ∷ []
unfolding take_steps
take_steps-took app (gave.Some n) buf = refl
take_steps-took app gave.Closed buf = refl
take_steps-took app gave.Silent buf = refl
