-- How the lives of applications are kept: cursors into the lines, so that nothing is copied where a turn begins.
use Rattle.std.specs.Prelude.{◌≡◌, ◌≢◌, ℕ, zero, suc, ◌+◌, ◌<◌, ◌≤◌, ◌==◌, Bool, true, false, List, [], ◌∷◌, map, length, take, drop, Option, Some, None, if◌then◌else◌, slice_get}
use Rattle.app_frames.specs.declared.script.ScriptStep.{ScriptStep}
use Rattle.app_frames.specs.declared.script.ScriptStep.TheVariants.{Bytes, Closed, Silent}
use Rattle.of_types.specs.declared.journal.TookWhat.{TookWhat}
use Rattle.of_types.specs.declared.journal.TookWhat.TheVariants as took
use Rattle.outside.specs.declared.item.Taken.{Taken}
use Rattle.outside.specs.declared.item.Taken.TheVariants as gave
use Rattle.sim_world.specs.declared.life.Giving.{Giving}
use Rattle.sim_world.specs.declared.life.Giving.TheVariants.{Nothing, Start, Reply, Plain}
use Rattle.sim_world.specs.declared.life.Position.{Position}
use Rattle.sim_world.specs.declared.life.LifeCell.{LifeCell}
use Rattle.sim_world.specs.Scripts.{Scripts, Life, fresh, lines_of, steps_of_start, plain_turn}

-- ---- What is being given

abbrev pub steps_of_line : Option (ℕ × List ScriptStep) → List ScriptStep
steps_of_line None = []
steps_of_line (Some line) = line.1

unfoldable pub steps_given : List (ℕ × List ScriptStep) → Giving → List ScriptStep
steps_given replies Nothing = []
steps_given replies (Start s) = steps_of_start s
steps_given replies (Reply i) = steps_of_line (slice_get replies i)
steps_given replies Plain = plain_turn

abbrev pub IsGivingIn : List (ℕ × List ScriptStep) → Giving → Type 0
IsGivingIn replies (Reply i) = i < length replies
IsGivingIn replies other = Unit {0}

-- the steps, with so many bytes cut off the first
abbrev pub cut : ℕ → List ScriptStep → List ScriptStep
cut n [] = []
cut n (Bytes bytes ∷ steps) = Bytes (drop n bytes) ∷ steps
cut n (Closed ∷ steps) = Closed ∷ steps
cut n (Silent ∷ steps) = Silent ∷ steps

-- the steps from a position on
unfoldable pub from_position : Position → List ScriptStep → List ScriptStep
from_position at steps = cut at.offset (drop at.step steps)

-- the first step is one of no bytes
abbrev pub begins_empty : List ScriptStep → Bool
begins_empty [] = false
begins_empty (Bytes [] ∷ steps) = true
begins_empty (Bytes (b ∷ bs) ∷ steps) = false
begins_empty (Closed ∷ steps) = false
begins_empty (Silent ∷ steps) = false

-- what was taken, as a step of the history has it
abbrev pub took_of : Taken → List ℕ → TookWhat
took_of (gave.Some n) buf = took.Bytes (take n buf)
took_of gave.Closed buf = took.Closed
took_of gave.Silent buf = took.Silent

-- ---- The next line of an application

-- The line at a place is the next one of the application behind another place.
abbrev pub IsNextLine : {A : Type 0} → ℕ → ℕ → List (ℕ × A) → Option ℕ → Type 0
IsNextLine app from lines None = lines_of app (drop from lines) ≡ []
IsNextLine {A} app from lines (Some i) = (line : ℕ × A) × (slice_get lines i ≡ Some line) × (lines_of app (drop from lines) ≡ line.1 ∷ lines_of app (drop (i + 1) lines))

-- Behind a place, the lines of the application are those behind another place without the first of them.
pub record Follows {A : Type 0} (app from next : ℕ) (lines : List (ℕ × A)) : Type 0 where
  pub rest : lines_of app (drop next lines) ≡ drop 1 (lines_of app (drop from lines))
  pub within : next ≤ length lines

-- ---- One life

unfoldable pub life_of_cell : List (ℕ × List ScriptStep) → LifeCell → Life
life_of_cell replies c = record {
  running = c.running;
  starts = c.starts;
  replies = c.replies;
  start_calls = c.start_calls;
  give_calls = c.give_calls;
  take_calls = c.take_calls;
  left = from_position c.at (steps_given replies c.giving);
}

-- the lines that it did not take stand behind its places, and it took no more lines than there were calls
pub record IsCellOf (own : Scripts) (c : LifeCell) : Type 0 where
  pub starts_left : drop c.starts (lines_of c.app own.starts) ≡ lines_of c.app (drop c.next_start own.starts)
  pub replies_left : drop c.replies (lines_of c.app own.replies) ≡ lines_of c.app (drop c.next_reply own.replies)
  pub start_within : c.next_start ≤ length own.starts
  pub reply_within : c.next_reply ≤ length own.replies
  pub giving : IsGivingIn own.replies c.giving
  pub few_starts : c.starts ≤ c.start_calls
  pub few_replies : c.replies ≤ c.give_calls

-- ---- All lives

-- the lines, and the lives of those applications that were spoken of
pub record ScriptedLives : Type 0 where
  pub own : Scripts
  pub lives : List (ℕ × Life)

abbrev pub life_in : ℕ → List (ℕ × Life) → Life
life_in app [] = fresh
life_in app (x ∷ xs) = if x.0 == app then x.1 else life_in app xs

abbrev pub has_life : ℕ → List (ℕ × Life) → Bool
has_life app [] = false
has_life app (x ∷ xs) = if x.0 == app then true else has_life app xs

unfoldable pub life_of : ℕ → ScriptedLives → Life
life_of app s = life_in app s.lives

unfoldable pub is_known : ℕ → ScriptedLives → Bool
is_known app s = has_life app s.lives

unfoldable pub named_life : List (ℕ × List ScriptStep) → LifeCell → ℕ × Life
named_life replies c = (c.app, life_of_cell replies c)

abbrev pub named_lives : List (ℕ × List ScriptStep) → List LifeCell → List (ℕ × Life)
named_lives replies cells = map (named_life replies) cells

abbrev pub has_cell : ℕ → List LifeCell → Bool
has_cell app [] = false
has_cell app (c ∷ cs) = if c.app == app then true else has_cell app cs

-- the place of the first cell of an application
abbrev pub IsFirst : ℕ → ℕ → List LifeCell → Type 0
IsFirst app i [] = ⊥
IsFirst app zero (c ∷ cs) = c.app ≡ app
IsFirst app (suc i) (c ∷ cs) = (c.app ≢ app) × IsFirst app i cs

-- One life changed, and no other.
pub record Moved (app : ℕ) (change : Life → Life) (old new : List (ℕ × Life)) : Type 0 where
  pub lives : (a : ℕ) → life_in a new ≡ if app == a then change (life_in a old) else life_in a old
  pub known : (a : ℕ) → has_life a new ≡ has_life a old
