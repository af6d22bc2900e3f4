-- Laws of calls in place: what holds of a history holds of its ends, marks do not matter, and a call in place that does not want memory
-- is not counted as one out of place.
use Rattle.std.specs.Prelude.{◌≡◌, ◌≤◌, ℕ, Bool, true, false, not, List, [], ◌∷◌, ◌++◌, Result, Ok, Err, IsErr, IfOk, IsTrue, refl}
use Rattle.std.proofs.Common.{sym, ap, ◌∙◌, subst, arith}
use Rattle.std.proofs.lemmas.Bool.{false≢true}
use Rattle.lego_io.specs.Count.{raised}
use Rattle.of_types.specs.declared.journal.Act.{Act}
use Rattle.of_types.specs.declared.journal.Act.TheVariants.{Stim, Started, Gave, Gone, Took, Ended, Sent, Got, Lost}
use Rattle.of_types.specs.declared.journal.TookWhat.{TookWhat}
use Rattle.of_types.specs.declared.journal.TookWhat.TheVariants as took
use Rattle.outside.specs.declared.faults.Short.{Short}
use Rattle.outside.specs.declared.faults.OpenFault.{OpenFault}
use Rattle.outside.specs.declared.faults.OpenFault.TheVariants as opening
use Rattle.outside.specs.declared.faults.NextFault.{NextFault}
use Rattle.outside.specs.declared.faults.NextFault.TheVariants as coming
use Rattle.outside.specs.declared.faults.StartFault.{StartFault}
use Rattle.outside.specs.declared.faults.StartFault.TheVariants as starting
use Rattle.outside.specs.declared.faults.GiveFault.{GiveFault}
use Rattle.outside.specs.declared.faults.GiveFault.TheVariants as giving
use Rattle.outside.specs.declared.faults.LinkFault.{LinkFault}
use Rattle.outside.specs.declared.faults.LinkFault.TheVariants as linking
use Rattle.outside.specs.declared.item.Item.{Item}
use Rattle.outside.specs.declared.item.Taken.{Taken}
use Rattle.outside.specs.declared.item.Taken.TheVariants as gave
use Rattle.outside.specs.declared.step.WorldStep.{WorldStep}
use Rattle.outside.specs.declared.step.WorldStep.TheVariants.{Acted, TookInto, From, Joined, Left, Moment, Idle, End, Opened, NotOpened, NextFailed, SendLost, RecvLost, SendFailed, RecvFailed}
use Rattle.outside.specs.Calls.{open_steps, start_steps, give_steps, take_steps, unsent, send_steps, unreceived, receive_steps, can_receive}
use Rattle.outside.specs.Seen.{Given}
use Rattle.outside.specs.State.{State, at_first, after_step, after_steps, state, but_marks, switch_of, waits_of, is_running, is_joined}
use Rattle.sim_world.specs.Scripts.{Scripts}
use Rattle.sim_world.specs.Tally.{TallyState, tally_stray, tally_short, tally_short_of, tally_fault_of}
use Rattle.sim_world.specs.Places.{IsStartExpected, IsTakeExpected, IsActExpected, IsExpected, AreExpected, FewStrays}
use Rattle.sim_world.specs.World.{WorldData, given_of, seen_of, Stands, Moves}
use Rattle.sim_world.specs.laws.WorldLaws.{after_same}
use Rattle.sim_world.specs.Doing.{open_tally, next_tally, start_tally, give_tally, take_tally, link_tally}
use Rattle.sim_world.specs.laws.DoingLaws.{given-stays}

-- ---- Marks do not matter

start_same : (app : ℕ) (ok : Bool) (s : State) → IsStartExpected app ok s ≡ IsStartExpected app ok (but_marks s)
start_same app true s = refl
start_same app false s = refl

take_same : (app : ℕ) (what : TookWhat) (s : State) → IsTakeExpected app what s ≡ IsTakeExpected app what (but_marks s)
take_same app (took.Bytes bytes) s = refl
take_same app took.Closed s = refl
take_same app took.Silent s = refl

act_same : (act : Act) (s : State) → IsActExpected act s ≡ IsActExpected act (but_marks s)
act_same (Stim x) s = refl
act_same (Started app ok) s = start_same app ok s
act_same (Gave app bytes) s = refl
act_same (Gone app bytes) s = refl
act_same (Took app what) s = refl
act_same (Ended app) s = refl
act_same (Sent d bytes) s = refl
act_same (Got d bytes) s = refl
act_same (Lost d) s = refl

place_same : (step : WorldStep) (s : State) → IsExpected step s ≡ IsExpected step (but_marks s)
unfolding switch_of waits_of
place_same (Acted act) s = act_same act s
place_same (TookInto app what room) s = take_same app what s
place_same (From d bytes) s = refl
place_same (Joined d bytes) s = refl
place_same (Left d) s = refl
place_same (Moment t) s = refl
place_same Idle s = refl
place_same End s = refl
place_same Opened s = refl
place_same NotOpened s = refl
place_same NextFailed s = refl
place_same (SendLost d) s = refl
place_same (RecvLost d) s = refl
place_same (SendFailed d) s = refl
place_same (RecvFailed d) s = refl

pub AreExpected-same : (steps : List WorldStep) (s t : State) → but_marks s ≡ but_marks t → AreExpected steps s → AreExpected steps t
AreExpected-same [] s t same are = tt
AreExpected-same (step ∷ steps) s t same are =
    let here : IsExpected step s ≡ IsExpected step t = place_same step s ∙ ap (IsExpected step) same ∙ sym (place_same step t) in (
      subst (λ (x : Type 0). x) here are.0,
      AreExpected-same steps (after_step step s) (after_step step t) (after_same step s t same) are.1,
    )

-- ---- The ends of a history

pub AreExpected-front : (xs ys : List WorldStep) (s : State) → AreExpected (xs ++ ys) s → AreExpected xs s
AreExpected-front [] ys s are = tt
AreExpected-front (x ∷ xs) ys s are = (are.0, AreExpected-front xs ys (after_step x s) are.1)

pub AreExpected-rest : (xs ys : List WorldStep) (s : State) → AreExpected (xs ++ ys) s → AreExpected ys (after_steps xs s)
AreExpected-rest [] ys s are = are
AreExpected-rest (x ∷ xs) ys s are = AreExpected-rest xs ys (after_step x s) are.1

-- ---- Counts

-- a call that is not out of place, and does not want memory
unstrayed : (stray : Bool) (t u : TallyState) → stray ≡ false → u.shorts ≡ t.shorts → u.strays ≡ t.strays → FewStrays t (tally_stray stray u)
unstrayed stray t u is shorts strays = λ few most.
    let still : u.strays ≤ u.shorts = omega (arith, few, shorts, strays) in
    rw is still

-- a call that wants memory is counted, and is out of place or not
wanting : (stray : Bool) (t u : TallyState) → u.shorts ≡ raised t.shorts → u.strays ≡ t.strays → FewStrays t (tally_stray stray u)
wanting true t u short strays = λ few most. rw (short, strays) (omega (arith, few))
wanting false t u short strays = λ few most. rw (short, strays) (omega (arith, few, most))

not_out : (b : Bool) → ¬ (b ≡ true) → b ≡ false
not_out true out = absurd (out refl)
not_out false out = refl

not_in : (b : Bool) → ¬ (b ≡ false) → not b ≡ false
not_in true out = refl
not_in false out = absurd (out refl)

-- ---- Each call

pub open_places : {T : Type 0} (result : Result T OpenFault) (s : State) (t : TallyState) → (IsTrue s.opened → IsErr result) → AreExpected (open_steps result) s
    → FewStrays t (tally_stray s.opened (open_tally result t))
unfolding open_steps
open_places (Ok x) s t out are = unstrayed s.opened t t (not_out s.opened (λ is. false≢true (out is))) refl refl
open_places (Err opening.Shut) s t out are = unstrayed s.opened t (record t { shuts = raised t.shuts }) are.0 refl refl
open_places (Err opening.Short) s t out are = wanting s.opened t (tally_short t) refl refl

pub next_places : (result : Result Item NextFault) (t : TallyState) → FewStrays t (next_tally result t)
next_places (Ok item) t = unstrayed false t t refl refl refl
next_places (Err coming.Failed) t = unstrayed false t (record t { next_faults = raised t.next_faults }) refl refl refl
next_places (Err coming.Short) t = wanting false t (tally_short t) refl refl

pub start_places : {T : Type 0} (app : ℕ) (result : Result T StartFault) (s : State) (t : TallyState) → (IsTrue (is_running app s) → IsErr result) → AreExpected (start_steps app result) s
    → FewStrays t (tally_stray (is_running app s) (start_tally result t))
unfolding start_steps
start_places app (Ok x) s t out are = unstrayed (is_running app s) t t (not_out (is_running app s) (λ is. false≢true (out is))) refl refl
start_places app (Err starting.NotStarted) s t out are = unstrayed (is_running app s) t (record t { starts_failed = raised t.starts_failed }) are.0 refl refl
start_places app (Err starting.Short) s t out are = wanting (is_running app s) t (tally_short t) refl refl

pub give_places : {T : Type 0} (app : ℕ) (bytes : List ℕ) (result : Result T GiveFault) (s : State) (t : TallyState) → (is_running app s ≡ false → IsErr result) → AreExpected (give_steps app bytes result) s
    → FewStrays t (tally_stray (not (is_running app s)) (give_tally result t))
unfolding give_steps
give_places app bytes (Ok x) s t out are = unstrayed (not (is_running app s)) t t (not_in (is_running app s) (λ is. false≢true (out is))) refl refl
give_places app bytes (Err giving.Gone) s t out are = unstrayed (not (is_running app s)) t (record t { closings = raised t.closings }) (ap not are.0) refl refl
give_places app bytes (Err giving.Short) s t out are = wanting (not (is_running app s)) t (tally_short t) refl refl

is_shut : Taken → Bool
is_shut gave.Closed = true
is_shut other = false

pub take_places : (app : ℕ) (result : Result Taken Short) (buf : List ℕ) (s : State) (t : TallyState) → (is_running app s ≡ false → IfOk result (λ what. what ≡ gave.Closed)) → AreExpected (take_steps app result buf) s
    → FewStrays t (tally_stray (not (is_running app s)) (take_tally result t))
unfolding take_steps is_shut
take_places app (Ok (gave.Some n)) buf s t out are = unstrayed (not (is_running app s)) t t (not_in (is_running app s) (λ is. false≢true (ap is_shut (out is)))) refl refl
take_places app (Ok gave.Closed) buf s t out are = unstrayed (not (is_running app s)) t (record t { closings = raised t.closings }) (ap not are.0) refl refl
take_places app (Ok gave.Silent) buf s t out are = unstrayed (not (is_running app s)) t (record t { silences = raised t.silences }) (not_in (is_running app s) (λ is. false≢true (ap is_shut (out is)))) refl refl
take_places app (Err short) buf s t out are = wanting (not (is_running app s)) t (tally_short t) refl refl

-- a call of a link that fails is in place where the switch is joined
unsent_places : (d : ℕ) (joined : Bool) (s : State) → IsExpected (unsent d joined) s → not joined ≡ false
unsent_places d true s is = refl
unsent_places d false s is = absurd is

pub send_places : {T : Type 0} (d : ℕ) (frame : List ℕ) (result : Result T LinkFault) (s : State) (t : TallyState) → (is_joined d s ≡ false → IsErr result) → AreExpected (send_steps d frame (is_joined d s) result) s
    → FewStrays t (tally_stray (not (is_joined d s)) (link_tally d result t))
unfolding send_steps
send_places d frame (Ok x) s t out are = unstrayed (not (is_joined d s)) t t (not_in (is_joined d s) (λ is. false≢true (out is))) refl refl
send_places d frame (Err linking.Failed) s t out are = unstrayed (not (is_joined d s)) t (tally_fault_of d t) (unsent_places d (is_joined d s) s are.0) refl refl
send_places d frame (Err linking.Short) s t out are = wanting (not (is_joined d s)) t (tally_short_of d t) refl refl

-- and where a message of it waits
unreceived_places : (d : ℕ) (joined : Bool) (s : State) → IsExpected (unreceived d joined) s → not (can_receive d s) ≡ false
unreceived_places d true s is = ap not is
unreceived_places d false s is = absurd is

pub receive_places : (d : ℕ) (result : Result ℕ LinkFault) (buf : List ℕ) (s : State) (t : TallyState) → (can_receive d s ≡ false → IsErr result) → AreExpected (receive_steps d (is_joined d s) result buf) s
    → FewStrays t (tally_stray (not (can_receive d s)) (link_tally d result t))
unfolding receive_steps
receive_places d (Ok n) buf s t out are = unstrayed (not (can_receive d s)) t t (not_in (can_receive d s) (λ is. false≢true (out is))) refl refl
receive_places d (Err linking.Failed) buf s t out are = unstrayed (not (can_receive d s)) t (tally_fault_of d t) (unreceived_places d (is_joined d s) s are.0) refl refl
receive_places d (Err linking.Short) buf s t out are = wanting (not (can_receive d s)) t (tally_short_of d t) refl refl

-- ---- A call that does what steps say

-- Where all calls were in place, no more were counted as out of place than wanted memory, before the steps and with them.
pub places_move : (old new : WorldData) (steps : List WorldStep) (counted : TallyState) → Stands old → Moves old new steps counted
    → (AreExpected old.history (at_first (given_of old)) → old.tally.strays ≤ old.tally.shorts)
    → (AreExpected steps old.state → FewStrays old.tally counted)
    → AreExpected new.history (at_first (given_of new)) → new.tally.strays ≤ new.tally.shorts
unfolding seen_of state
places_move old new steps counted stands moves before places are =
    let first = at_first (given_of old) in
    let given : given_of new ≡ given_of old = given-stays old new steps counted moves in
    let longer : AreExpected (old.history ++ steps) first =
    subst (λ (h : List WorldStep). AreExpected h first) moves.history (subst (λ (g : Given Scripts). AreExpected new.history (at_first g)) given are) in
    let now : but_marks (after_steps old.history first) ≡ but_marks old.state = ap but_marks stands.state in
    let here : AreExpected steps old.state = AreExpected-same steps (after_steps old.history first) old.state now (AreExpected-rest old.history steps first longer) in
    subst (λ (t : TallyState). t.strays ≤ t.shorts) (sym moves.tally) (places here (before (AreExpected-front old.history steps first longer)) stands.tally.within.strays)
