-- What a call leaves of the state of a world that tells, and what it was in a world that keeps its word.
use Rattle.std.specs.Prelude.{◌≡◌, ℕ, Bool, true, false, refl, List, [], ◌∷◌, ◌++◌, take, Option, Some, Ok, Err, IsOk, slice_get}
use Rattle.std.specs.Option.{is_some}
use Rattle.std.proofs.Common.{ap, ◌∙◌}
use Rattle.of_types.specs.declared.journal.Act.TheVariants.{Got, Lost}
use Rattle.of_wire.specs.Reading.{reading_of}
use Rattle.outside.specs.declared.faults.LinkFault.TheVariants as linking
use Rattle.outside.specs.declared.item.Item.{Item}
use Rattle.flow_table.specs.Switch.{Declared, SwitchState}
use Rattle.outside.specs.declared.item.Item.TheVariants as items
use Rattle.outside.specs.declared.step.WorldStep.{WorldStep}
use Rattle.outside.specs.declared.step.WorldStep.TheVariants.{Acted, From, Joined, Left, Moment, SendLost, RecvLost, SendFailed, RecvFailed}
use Rattle.outside.specs.Seen.{Seen, journal}
use Rattle.outside.specs.State.{State, after_step, after_steps, state, waits_of, is_running, is_joined, upcoming}
use Rattle.outside.specs.laws.StateLaws.{after_steps-append, state-append, Conforming-rest}
use Rattle.outside.specs.laws.LinkLaws.{switch_of-send_lost, switch_of-recv_lost, switch_of-send_failed, switch_of-recv_failed}
use Rattle.outside.specs.laws.SeenLaws.{journal-append}
use Rattle.outside.specs.Calls.{IsIdle, Nexts, Ends, Sends, Receives, stim_steps, item_step, next_steps, end_steps, unsent, send_steps, unreceived, receive_steps}
use Rattle.outside.specs.Conforming.{IsNext, MayStep, MayAct, Conforming}

-- ---- The state after a call that succeeded

pub Nexts-state : {Own Tells : Type 0} {old new : Seen Own} {buf : List ℕ} (item : Item) (told : Tells) (call : Nexts Tells old new (Ok item) buf)
    → state new ≡ after_step (item_step item buf) (after_steps (stim_steps (call.told told).begun) (state old))
unfolding next_steps
Nexts-state {old = old} {new = new} {buf = buf} item told call =
    state-append old new (stim_steps (call.told told).begun ++ item_step item buf ∷ []) call.given (call.told told).history
    ∙ after_steps-append (stim_steps (call.told told).begun) (item_step item buf ∷ []) (state old)

pub Ends-state : {Own Tells : Type 0} {app : ℕ} {old new : Seen Own} → Tells → Ends Tells app old new → state new ≡ after_steps (end_steps app (is_running app (state old))) (state old)
Ends-state {app = app} {old = old} {new = new} told call = state-append old new (end_steps app (is_running app (state old))) call.given (call.told told).history

pub Receives-state : {Own Tells : Type 0} {d : ℕ} {old new : Seen Own} {buf : List ℕ} (n : ℕ) → Tells → Receives Tells d old new (Ok n) buf → state new ≡ after_step (Acted (Got d (take n buf))) (state old)
unfolding receive_steps
Receives-state {d = d} {old = old} {new = new} {buf = buf} n told call = state-append old new (Acted (Got d (take n buf)) ∷ []) call.given (call.told told).history

-- ---- The state after a call of a link that failed

-- Where the switch was joined, it is lost.
pub Sends-lost : {Own T Tells : Type 0} {d : ℕ} {frame : List ℕ} {old new : Seen Own} → Tells → Sends {T = T} Tells d frame old new (Err linking.Failed) → is_joined d (state old) ≡ true
    → state new ≡ after_step (SendLost d) (state old)
unfolding send_steps
Sends-lost {d = d} {old = old} {new = new} told call joined =
    state-append old new (unsent d (is_joined d (state old)) ∷ []) call.given (call.told told).history ∙ ap (λ (b : Bool). after_step (unsent d b) (state old)) joined

pub Receives-lost : {Own Tells : Type 0} {d : ℕ} {old new : Seen Own} {buf : List ℕ} → Tells → Receives Tells d old new (Err linking.Failed) buf → is_joined d (state old) ≡ true
    → state new ≡ after_step (RecvLost d) (state old)
unfolding receive_steps
Receives-lost {d = d} {old = old} {new = new} told call joined =
    state-append old new (unreceived d (is_joined d (state old)) ∷ []) call.given (call.told told).history ∙ ap (λ (b : Bool). after_step (unreceived d b) (state old)) joined

-- The journal has it as lost then.
pub Sends-lost-journal : {Own T Tells : Type 0} {d : ℕ} {frame : List ℕ} {old new : Seen Own} → Tells → Sends {T = T} Tells d frame old new (Err linking.Failed) → is_joined d (state old) ≡ true
    → journal new.history ≡ journal old.history ++ Lost d ∷ []
unfolding send_steps journal
Sends-lost-journal {d = d} {old = old} told call joined =
    ap journal (call.told told).history
    ∙ ap (λ (b : Bool). journal (old.history ++ unsent d b ∷ [])) joined
    ∙ journal-append old.history (SendLost d ∷ [])

pub Receives-lost-journal : {Own Tells : Type 0} {d : ℕ} {old new : Seen Own} {buf : List ℕ} → Tells → Receives Tells d old new (Err linking.Failed) buf → is_joined d (state old) ≡ true
    → journal new.history ≡ journal old.history ++ Lost d ∷ []
unfolding receive_steps journal
Receives-lost-journal {d = d} {old = old} told call joined =
    ap journal (call.told told).history
    ∙ ap (λ (b : Bool). journal (old.history ++ unreceived d b ∷ [])) joined
    ∙ journal-append old.history (RecvLost d ∷ [])

-- Where it was out, nothing moves.
pub Sends-out : {Own T Tells : Type 0} {d : ℕ} {frame : List ℕ} {old new : Seen Own} → Tells → Sends {T = T} Tells d frame old new (Err linking.Failed) → is_joined d (state old) ≡ false
    → state new ≡ after_step (SendFailed d) (state old)
unfolding send_steps
Sends-out {d = d} {old = old} {new = new} told call out =
    state-append old new (unsent d (is_joined d (state old)) ∷ []) call.given (call.told told).history ∙ ap (λ (b : Bool). after_step (unsent d b) (state old)) out

pub Receives-out : {Own Tells : Type 0} {d : ℕ} {old new : Seen Own} {buf : List ℕ} → Tells → Receives Tells d old new (Err linking.Failed) buf → is_joined d (state old) ≡ false
    → state new ≡ after_step (RecvFailed d) (state old)
unfolding receive_steps
Receives-out {d = d} {old = old} {new = new} told call out =
    state-append old new (unreceived d (is_joined d (state old)) ∷ []) call.given (call.told told).history ∙ ap (λ (b : Bool). after_step (unreceived d b) (state old)) out

-- Either way the switch is out afterwards.
abbrev pub joins_in : Option SwitchState → Bool
joins_in o = is_some o

unsent_out : (d : ℕ) (s : State) (joined : Bool) → is_joined d s ≡ joined → is_joined d (after_step (unsent d joined) s) ≡ false
unsent_out d s true is = ap joins_in (switch_of-send_lost d s)
unsent_out d s false is = ap joins_in (switch_of-send_failed d d s) ∙ is

unreceived_out : (d : ℕ) (s : State) (joined : Bool) → is_joined d s ≡ joined → is_joined d (after_step (unreceived d joined) s) ≡ false
unreceived_out d s true is = ap joins_in (switch_of-recv_lost d s)
unreceived_out d s false is = ap joins_in (switch_of-recv_failed d d s) ∙ is

pub Sends-failed : {Own T Tells : Type 0} {d : ℕ} {frame : List ℕ} {old new : Seen Own} → Tells → Sends {T = T} Tells d frame old new (Err linking.Failed) → is_joined d (state new) ≡ false
unfolding send_steps
Sends-failed {d = d} {old = old} {new = new} told call =
    ap (is_joined d) (state-append old new (unsent d (is_joined d (state old)) ∷ []) call.given (call.told told).history)
    ∙ unsent_out d (state old) (is_joined d (state old)) refl

pub Receives-failed : {Own Tells : Type 0} {d : ℕ} {old new : Seen Own} {buf : List ℕ} → Tells → Receives Tells d old new (Err linking.Failed) buf → is_joined d (state new) ≡ false
unfolding receive_steps
Receives-failed {d = d} {old = old} {new = new} told call =
    ap (is_joined d) (state-append old new (unreceived d (is_joined d (state old)) ∷ []) call.given (call.told told).history)
    ∙ unreceived_out d (state old) (is_joined d (state old)) refl

-- ---- In a world that keeps its word

-- The message that is taken is the oldest one that waits, and `of_wire` reads it.
pub Receives-conforming : {Own Tells : Type 0} {d : ℕ} {old new : Seen Own} {buf : List ℕ} (n : ℕ) → Tells → Receives Tells d old new (Ok n) buf → Conforming new
    → (slice_get (waits_of d (state old)) 0 ≡ Some (take n buf)) × IsOk (reading_of (take n buf))
unfolding receive_steps MayStep MayAct
Receives-conforming {d = d} {old = old} {new = new} {buf = buf} n told call keeps =
    (Conforming-rest old new (Acted (Got d (take n buf)) ∷ []) call.given (call.told told).history keeps).0

-- Where nothing is upcoming and no stimulus is begun, the only item that may come without one is End, after the last stimulus.
pub nothing_next : (step : WorldStep) (s : State) → upcoming s ≡ [] → IsNext step s → ⊥
nothing_next step s none next = let h = rw none at next in cc

pub no_idle : (s : State) → s.begun ≡ false → IsIdle s → ⊥
no_idle s rests idle = cc (idle.0, rests)

pub MayStep-at_rest : (declared : List Declared) (item : Item) (buf : List ℕ) (s : State) → s.begun ≡ false → upcoming s ≡ [] → MayStep declared (item_step item buf) s
    → (item ≡ items.End) × (s.to_come ≡ [])
unfolding MayStep item_step
MayStep-at_rest declared (items.From d n) buf s rests none may = absurd (nothing_next (From d (take n buf)) s none may.0)
MayStep-at_rest declared (items.Joined d n) buf s rests none may = absurd (nothing_next (Joined d (take n buf)) s none may)
MayStep-at_rest declared (items.Left d) buf s rests none may = absurd (nothing_next (Left d) s none may)
MayStep-at_rest declared (items.Moment t) buf s rests none may = absurd (nothing_next (Moment t) s none may)
MayStep-at_rest declared items.Idle buf s rests none may = absurd (no_idle s rests may)
MayStep-at_rest declared items.End buf s rests none may = (refl, may.1)
