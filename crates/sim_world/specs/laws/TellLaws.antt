-- Laws of what is told in a state in which a stimulus is begun, and of a whole call of `next`.
use Rattle.std.specs.Prelude.{◌≡◌, ℕ, true, false, is_some, List, [], ◌∷◌, Some, slice_get, refl}
use Rattle.std.proofs.Common.{ap}
use Rattle.std.proofs.lemmas.Bool.{false≢true}
use Rattle.outside.specs.declared.item.Item.{Item}
use Rattle.outside.specs.declared.item.Item.TheVariants as items
use Rattle.outside.specs.declared.step.WorldStep.{WorldStep}
use Rattle.outside.specs.declared.step.WorldStep.TheVariants.{Idle}
use Rattle.outside.specs.State.{State, upcoming, waiting_in}
use Rattle.outside.specs.Calls.{item_step, IsItemIn}
use Rattle.outside.specs.Conforming.{MayStep}
use Rattle.outside.specs.InOrder.{MayCome}
use Rattle.sim_world.specs.Links.{IsDue}
use Rattle.sim_world.specs.World.{WorldData, Moves, IsAsTold, all_declared, next_told}
use Rattle.sim_world.specs.laws.NextLaws.{IsMessage, is_idle, is_end, due_item, due_may, due_is_told, told_something, told_idle, first_waiting, nothing_upcoming}
use Rattle.sim_world.specs.Doing.{Tells}

-- ---- What is told

first_of_due : (s : State) (step : WorldStep) → (due : List WorldStep) → s.due ≡ due → slice_get due 0 ≡ Some step → slice_get (upcoming s) 0 ≡ Some step
unfolding upcoming
first_of_due s step [] is first = absurd (false≢true (ap is_some first))
first_of_due s step (x ∷ due) is first = rw is first

pub Tells_by_due : (old new : WorldData) (item : Item) (buf : List ℕ) → old.state.begun ≡ true → Moves old new (item_step item buf ∷ []) old.tally → IsDue (item_step item buf)
    → slice_get old.state.due 0 ≡ Some (item_step item buf) → IsItemIn (Unit {0}) item buf → Tells old new item buf
Tells_by_due old new item buf begun moves due first within =
    let next = first_of_due old.state (item_step item buf) old.state.due refl first in
    let neither = due_item item buf due in
    let both = told_something item buf old.state (item_step item buf) begun next neither.0 neither.1 in
    record {
      moves = moves;
      within = within;
      idle = both.0;
      over = both.1;
      may = due_may (all_declared old.state) (item_step item buf) old.state due next;
      told = λ told. due_is_told old.told old.nexts (item_step item buf) old.state due told;
    }

message_may : (item : Item) (buf : List ℕ) (s : State) → IsMessage item → slice_get (upcoming s) 0 ≡ Some (item_step item buf) → MayCome (all_declared s) (item_step item buf) s
unfolding item_step MayCome
message_may (items.From d n) buf s is next = next
message_may other buf s is next = absurd is

message_told : (item : Item) (buf : List ℕ) (w : WorldData) → IsMessage item → next_told w.told w.nexts ≡ false → IsAsTold w.told w.nexts (item_step item buf) w.state
unfolding item_step IsAsTold
message_told (items.From d n) buf w is told = told
message_told other buf w is told = absurd is

message_item : (item : Item) → IsMessage item → (is_idle item ≡ false) × (is_end item ≡ false)
message_item (items.From d n) is = (refl, refl)
message_item other is = absurd is

pub Tells_by_message : (old new : WorldData) (item : Item) (buf : List ℕ) → old.state.begun ≡ true → Moves old new (item_step item buf ∷ []) old.tally → old.state.due ≡ [] → IsMessage item
    → slice_get (waiting_in old.state.links) 0 ≡ Some (item_step item buf) → IsItemIn (Unit {0}) item buf → Tells old new item buf
Tells_by_message old new item buf begun moves none message first within =
    let next = first_waiting old.state (item_step item buf) none first in
    let neither = message_item item message in
    let both = told_something item buf old.state (item_step item buf) begun next neither.0 neither.1 in
    record {
      moves = moves;
      within = within;
      idle = both.0;
      over = both.1;
      may = message_may item buf old.state message next;
      told = λ told. message_told item buf old message told;
    }

pub Tells_by_idle : (old new : WorldData) (buf : List ℕ) → old.state.begun ≡ true → Moves old new (Idle ∷ []) old.tally → old.state.due ≡ [] → waiting_in old.state.links ≡ [] → Tells old new items.Idle buf
unfolding item_step MayCome MayStep IsAsTold
Tells_by_idle old new buf begun moves due waiting =
    let none = nothing_upcoming old.state due waiting in
    let both = told_idle old.state begun none in
    record {
      moves = moves;
      within = tt;
      idle = both.0;
      over = both.1;
      may = (begun, none);
      told = λ told. told;
    }
