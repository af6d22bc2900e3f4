-- What calls of this world do to the lives that it and the other world tell.
use Rattle.std.specs.Prelude.{◌≡◌, ◌≢◌, ℕ, Bool, true, false, List, [], ◌∷◌, ◌++◌, Option, Some, None, Result, Ok, Err, refl}
use Rattle.std.proofs.Common.{sym, ap, ◌∙◌}
use Rattle.std.proofs.lemmas.Bool.{eq-eqb}
use Rattle.of_types.specs.declared.journal.TookWhat.{TookWhat}
use Rattle.of_types.specs.declared.journal.WorldStim.{WorldStim}
use Rattle.outside.specs.declared.faults.Short.{Short}
use Rattle.outside.specs.declared.faults.OpenFault.{OpenFault}
use Rattle.outside.specs.declared.faults.OpenFault.TheVariants as opening
use Rattle.outside.specs.declared.faults.NextFault.{NextFault}
use Rattle.outside.specs.declared.faults.NextFault.TheVariants as coming
use Rattle.outside.specs.declared.faults.StartFault.{StartFault}
use Rattle.outside.specs.declared.faults.StartFault.TheVariants as starting
use Rattle.outside.specs.declared.faults.GiveFault.{GiveFault}
use Rattle.outside.specs.declared.faults.LinkFault.{LinkFault}
use Rattle.outside.specs.declared.faults.LinkFault.TheVariants as linking
use Rattle.outside.specs.declared.item.Item.{Item}
use Rattle.outside.specs.declared.item.Item.TheVariants as items
use Rattle.outside.specs.declared.item.Taken.{Taken}
use Rattle.outside.specs.declared.step.WorldStep.{WorldStep}
use Rattle.outside.specs.declared.step.WorldStep.TheVariants.{TookInto}
use Rattle.outside.specs.Seen.{Seen}
use Rattle.outside.specs.State.{state, is_running, is_joined}
use Rattle.outside.specs.Calls.{Opens, open_steps, Nexts, next_steps, stim_steps, item_step, Starts, start_steps, Gives, give_steps, Takes, take_steps, Ends, end_steps, Sends, send_steps, Receives, receive_steps}
use Rattle.vote_world.specs.Lives.{life_from, life_in, bytes_in, taken_in}
use Rattle.vote_world.specs.laws.LifeLaws.{in-append, give_rests, start_rests, start_begins, take_rests, take_goes, end_rests}

-- ---- Calls of links

open_rests : {T : Type 0} (n : ℕ) (result : Result T OpenFault) (life : List ℕ) → life_from n life (open_steps result) ≡ life
unfolding life_from open_steps
open_rests n (Ok x) life = refl
open_rests n (Err opening.Shut) life = refl
open_rests n (Err opening.Short) life = refl

item_rests : (n : ℕ) (item : Item) (buf life : List ℕ) → life_from n life (item_step item buf ∷ []) ≡ life
unfolding life_from item_step
item_rests n (items.From d k) buf life = refl
item_rests n (items.Joined d k) buf life = refl
item_rests n (items.Left d) buf life = refl
item_rests n (items.Moment t) buf life = refl
item_rests n items.Idle buf life = refl
item_rests n items.End buf life = refl

stim_rests : (n : ℕ) (begun : Option WorldStim) (item : Item) (buf life : List ℕ) → life_from n life (stim_steps begun ++ item_step item buf ∷ []) ≡ life
unfolding life_from
stim_rests n None item buf life = item_rests n item buf life
stim_rests n (Some x) item buf life = item_rests n item buf life

next_rests : (n : ℕ) (begun : Option WorldStim) (result : Result Item NextFault) (buf life : List ℕ) → life_from n life (next_steps begun result buf) ≡ life
unfolding life_from next_steps
next_rests n begun (Ok item) buf life = stim_rests n begun item buf life
next_rests n begun (Err coming.Failed) buf life = refl
next_rests n begun (Err coming.Short) buf life = refl

send_rests : {T : Type 0} (n d : ℕ) (frame : List ℕ) (joined : Bool) (result : Result T LinkFault) (life : List ℕ) → life_from n life (send_steps d frame joined result) ≡ life
unfolding life_from send_steps
send_rests n d frame joined (Ok x) life = refl
send_rests n d frame true (Err linking.Failed) life = refl
send_rests n d frame false (Err linking.Failed) life = refl
send_rests n d frame joined (Err linking.Short) life = refl

receive_rests : (n d : ℕ) (joined : Bool) (result : Result ℕ LinkFault) (buf life : List ℕ) → life_from n life (receive_steps d joined result buf) ≡ life
unfolding life_from receive_steps
receive_rests n d joined (Ok k) buf life = refl
receive_rests n d true (Err linking.Failed) buf life = refl
receive_rests n d false (Err linking.Failed) buf life = refl
receive_rests n d joined (Err linking.Short) buf life = refl

abbrev pub SameLives : {Own : Type 0} → Type 0 → Seen Own → Seen Own → Type 0
SameLives Tells old new = Tells → (n : ℕ) → life_in n new.history ≡ life_in n old.history

pub opens_same : {Own T : Type 0} (Tells : Type 0) (old new : Seen Own) (result : Result T OpenFault) → Opens Tells old new result → SameLives Tells old new
opens_same Tells old new result call = λ told n. ap (life_in n) (call.told told).history ∙ in-append n old.history (open_steps result) ∙ open_rests n result (life_in n old.history)

pub nexts_same : {Own : Type 0} (Tells : Type 0) (old new : Seen Own) (result : Result Item NextFault) (buf : List ℕ) → Nexts Tells old new result buf → SameLives Tells old new
nexts_same Tells old new result buf call = λ told n.
    ap (life_in n) (call.told told).history ∙ in-append n old.history (next_steps (call.told told).begun result buf) ∙ next_rests n (call.told told).begun result buf (life_in n old.history)

pub sends_same : {Own T : Type 0} (Tells : Type 0) (d : ℕ) (frame : List ℕ) (old new : Seen Own) (result : Result T LinkFault) → Sends Tells d frame old new result → SameLives Tells old new
sends_same Tells d frame old new result call = λ told n.
    ap (life_in n) (call.told told).history ∙ in-append n old.history (send_steps d frame (is_joined d (state old)) result) ∙ send_rests n d frame (is_joined d (state old)) result (life_in n old.history)

pub receives_same : {Own : Type 0} (Tells : Type 0) (d : ℕ) (old new : Seen Own) (result : Result ℕ LinkFault) (buf : List ℕ) → Receives Tells d old new result buf → SameLives Tells old new
receives_same Tells d old new result buf call = λ told n.
    ap (life_in n) (call.told told).history ∙ in-append n old.history (receive_steps d (is_joined d (state old)) result buf) ∙ receive_rests n d (is_joined d (state old)) result buf (life_in n old.history)

-- ---- Calls of applications

pub gives_same : {Own T : Type 0} (Tells : Type 0) (app : ℕ) (bytes : List ℕ) (old new : Seen Own) (result : Result T GiveFault) → Gives Tells app bytes old new result → SameLives Tells old new
gives_same Tells app bytes old new result call = λ told n.
    ap (life_in n) (call.told told).history ∙ in-append n old.history (give_steps app bytes result) ∙ give_rests n app bytes result (life_in n old.history)

pub ends_same : {Own : Type 0} (Tells : Type 0) (app : ℕ) (old new : Seen Own) → Ends Tells app old new → SameLives Tells old new
ends_same Tells app old new call = λ told n.
    ap (life_in n) (call.told told).history ∙ in-append n old.history (end_steps app (is_running app (state old))) ∙ end_rests n app (is_running app (state old)) (life_in n old.history)

pub starts_others : {Own T : Type 0} (Tells : Type 0) (app : ℕ) (old new : Seen Own) (result : Result T StartFault) → Starts Tells app old new result → Tells → (n : ℕ) → n ≢ app → life_in n new.history ≡ life_in n old.history
starts_others Tells app old new result call told n differ =
    ap (life_in n) (call.told told).history ∙ in-append n old.history (start_steps app result) ∙ start_rests n app result (life_in n old.history) differ

fault_rests : (T : Type 0) (n app : ℕ) (fault : StartFault) (life : List ℕ) → life_from n life (start_steps {T = T} app (Err fault)) ≡ life
unfolding life_from start_steps
fault_rests T n app starting.NotStarted life = refl
fault_rests T n app starting.Short life = refl

pub starts_failed : {Own T : Type 0} (Tells : Type 0) (app : ℕ) (old new : Seen Own) (fault : StartFault) → Starts {T = T} Tells app old new (Err fault) → SameLives Tells old new
starts_failed {T = T} Tells app old new fault call = λ told n.
    ap (life_in n) (call.told told).history ∙ in-append n old.history (start_steps {T = T} app (Err fault)) ∙ fault_rests T n app fault (life_in n old.history)

pub starts_fresh : {Own T : Type 0} (Tells : Type 0) (app : ℕ) (old new : Seen Own) (x : T) → Starts Tells app old new (Ok x) → Tells → life_in app new.history ≡ []
starts_fresh {T = T} Tells app old new x call told =
    ap (life_in app) (call.told told).history ∙ in-append app old.history (start_steps {T = T} app (Ok x)) ∙ start_begins app x (life_in app old.history)

pub takes_others : {Own : Type 0} (Tells : Type 0) (app : ℕ) (old new : Seen Own) (result : Result Taken Short) (buf : List ℕ) → Takes Tells app old new result buf → Tells → (n : ℕ) → n ≢ app
    → life_in n new.history ≡ life_in n old.history
takes_others Tells app old new result buf call told n differ =
    ap (life_in n) (call.told told).history ∙ in-append n old.history (take_steps app result buf) ∙ take_rests n app result buf (life_in n old.history) differ

pub takes_more : {Own : Type 0} (Tells : Type 0) (app : ℕ) (old new : Seen Own) (result : Result Taken Short) (buf : List ℕ) → Takes Tells app old new result buf → Tells
    → life_in app new.history ≡ life_in app old.history ++ taken_in result buf
takes_more Tells app old new result buf call told =
    ap (life_in app) (call.told told).history ∙ in-append app old.history (take_steps app result buf) ∙ take_goes app result buf (life_in app old.history)

what_goes : (app : ℕ) (what : TookWhat) (room : ℕ) → life_from app [] (TookInto app what room ∷ []) ≡ bytes_in what
unfolding life_from
what_goes app what room = rw (eq-eqb app app refl) refl

pub taken_is : (app : ℕ) (result : Result Taken Short) (buf : List ℕ) (what : TookWhat) (room : ℕ) → take_steps app result buf ≡ TookInto app what room ∷ [] → taken_in result buf ≡ bytes_in what
taken_is app result buf what room is = sym (take_goes app result buf []) ∙ ap (λ (steps : List WorldStep). life_from app [] steps) is ∙ what_goes app what room
