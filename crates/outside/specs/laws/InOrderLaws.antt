-- Laws of a world that tells in order: where all that comes of its switches are messages, it keeps its word.
use Rattle.std.specs.Prelude.{◌≡◌, true, List, [], ◌∷◌, ◌++◌, refl}
use Rattle.std.specs.List.{AllByRecursion}
use Rattle.std.proofs.Common.{sym, ap, ◌∙◌, subst, append_assoc}
use Rattle.std.proofs.lemmas.List.{append-nil, append_cancel_left}
use Rattle.of_types.specs.declared.journal.Act.TheVariants.{Stim, Started, Gave, Gone, Took, Ended, Sent, Got, Lost}
use Rattle.flow_table.specs.Switch.{Declared}
use Rattle.outside.specs.declared.step.WorldStep.{WorldStep}
use Rattle.outside.specs.declared.step.WorldStep.TheVariants.{Acted, TookInto, From, Joined, Left, Moment, Idle, End, Opened, NotOpened, NextFailed, SendLost, RecvLost, SendFailed, RecvFailed}
use Rattle.outside.specs.Seen.{Given, Seen, Continues}
use Rattle.outside.specs.State.{State, at_first, after_step, after_steps, state}
use Rattle.outside.specs.Conforming.{MayAct, MayStep, MaySteps, AreDeclaredFrom, MayDeclare, Conforming}
use Rattle.outside.specs.InOrder.{brings_message, BringMessages, MessagesSince, MayCome, MayComeAll, InOrder}

-- ---- One step

may_step : (declared : List Declared) (step : WorldStep) (s : State) → MayCome declared step s → brings_message step ≡ true → MayStep declared step s
unfolding MayCome MayStep MayAct
may_step declared (Acted (Stim x)) s may read = may
may_step declared (Acted (Started app ok)) s may read = may
may_step declared (Acted (Gave app bytes)) s may read = may
may_step declared (Acted (Gone app bytes)) s may read = may
may_step declared (Acted (Took app what)) s may read = may
may_step declared (Acted (Ended app)) s may read = may
may_step declared (Acted (Sent d bytes)) s may read = may
may_step declared (Acted (Got d bytes)) s may read = (may, read)
may_step declared (Acted (Lost d)) s may read = may
may_step declared (TookInto app what room) s may read = may
may_step declared (From d bytes) s may read = (may, read)
may_step declared (Joined d bytes) s may read = may
may_step declared (Left d) s may read = may
may_step declared (Moment t) s may read = may
may_step declared Idle s may read = may
may_step declared End s may read = may
may_step declared Opened s may read = may
may_step declared NotOpened s may read = may
may_step declared NextFailed s may read = may
may_step declared (SendLost d) s may read = may
may_step declared (RecvLost d) s may read = may
may_step declared (SendFailed d) s may read = may
may_step declared (RecvFailed d) s may read = may

all_step : (declared : List Declared) (steps : List WorldStep) (s : State) → MayComeAll declared steps s → BringMessages steps → MaySteps declared steps s
all_step declared [] s may read = tt
all_step declared (step ∷ steps) s may read = (may_step declared step s may.0 read.0, all_step declared steps (after_step step s) may.1 read.1)

-- ---- Against a world that keeps its word

pub in_order-Conforming : {Own : Type 0} (seen : Seen Own) → InOrder seen → BringMessages seen.history → Conforming seen
in_order-Conforming seen order read = record {
  declared = order.declared;
  switches = order.switches;
  steps = all_step seen.given.declared seen.history (at_first seen.given) order.steps read;
}

-- what came of a world that keeps its word

brings : (declared : List Declared) (step : WorldStep) (s : State) → MayStep declared step s → brings_message step ≡ true
unfolding MayStep MayAct
brings declared (Acted (Stim x)) s may = refl
brings declared (Acted (Started app ok)) s may = refl
brings declared (Acted (Gave app bytes)) s may = refl
brings declared (Acted (Gone app bytes)) s may = refl
brings declared (Acted (Took app what)) s may = refl
brings declared (Acted (Ended app)) s may = refl
brings declared (Acted (Sent d bytes)) s may = refl
brings declared (Acted (Got d bytes)) s may = may.1
brings declared (Acted (Lost d)) s may = refl
brings declared (TookInto app what room) s may = refl
brings declared (From d bytes) s may = may.1
brings declared (Joined d bytes) s may = refl
brings declared (Left d) s may = refl
brings declared (Moment t) s may = refl
brings declared Idle s may = refl
brings declared End s may = refl
brings declared Opened s may = refl
brings declared NotOpened s may = refl
brings declared NextFailed s may = refl
brings declared (SendLost d) s may = refl
brings declared (RecvLost d) s may = refl
brings declared (SendFailed d) s may = refl
brings declared (RecvFailed d) s may = refl

messages_in : (declared : List Declared) (steps : List WorldStep) (s : State) → MaySteps declared steps s → BringMessages steps
messages_in declared [] s may = tt
messages_in declared (step ∷ steps) s may = (brings declared step s may.0, messages_in declared steps (after_step step s) may.1)

pub messages-of : {Own : Type 0} (seen : Seen Own) → Conforming seen → BringMessages seen.history
messages-of seen keeps = messages_in seen.given.declared seen.history (at_first seen.given) keeps.steps

-- ---- A longer history

pub come_front : (declared : List Declared) (xs ys : List WorldStep) (s : State) → MayComeAll declared (xs ++ ys) s → MayComeAll declared xs s
come_front declared [] ys s may = tt
come_front declared (x ∷ xs) ys s may = (may.0, come_front declared xs ys (after_step x s) may.1)

pub come_rest : (declared : List Declared) (xs ys : List WorldStep) (s : State) → MayComeAll declared (xs ++ ys) s → MayComeAll declared ys (after_steps xs s)
come_rest declared [] ys s may = may
come_rest declared (x ∷ xs) ys s may = come_rest declared xs ys (after_step x s) may.1

pub come-append : (declared : List Declared) (xs ys : List WorldStep) (s : State) → MayComeAll declared xs s → MayComeAll declared ys (after_steps xs s) → MayComeAll declared (xs ++ ys) s
come-append declared [] ys s front rest = rest
come-append declared (x ∷ xs) ys s front rest = (front.0, come-append declared xs ys (after_step x s) front.1 rest)

pub InOrder-front : {Own : Type 0} (old new : Seen Own) (steps : List WorldStep) → new.given ≡ old.given → new.history ≡ old.history ++ steps → InOrder new → InOrder old
InOrder-front old new steps same longer order =
    let may : MayComeAll new.given.declared (old.history ++ steps) (at_first new.given) =
    subst (λ (xs : List WorldStep). MayComeAll new.given.declared xs (at_first new.given)) longer order.steps in
    record {
      declared = subst (λ (g : Given _). AreDeclaredFrom 1 g.declared) same order.declared;
      switches = subst (λ (g : Given _). AllByRecursion MayDeclare g.declared) same order.switches;
      steps = subst (λ (g : Given _). MayComeAll g.declared old.history (at_first g)) same (come_front new.given.declared old.history steps (at_first new.given) may);
    }

-- the steps that were appended to what was seen may come then
pub InOrder-rest : {Own : Type 0} (old new : Seen Own) (steps : List WorldStep) → new.given ≡ old.given → new.history ≡ old.history ++ steps → InOrder new → MayComeAll old.given.declared steps (state old)
unfolding state
InOrder-rest old new steps same longer order =
    let may : MayComeAll new.given.declared (old.history ++ steps) (at_first new.given) =
    subst (λ (xs : List WorldStep). MayComeAll new.given.declared xs (at_first new.given)) longer order.steps in
    come_rest old.given.declared old.history steps (at_first old.given) (subst (λ (g : Given _). MayComeAll g.declared (old.history ++ steps) (at_first g)) same may)

pub InOrder-before : {Own : Type 0} {Tells : Type 0} {old new : Seen Own} → Tells → Continues Tells old new → InOrder new → InOrder old
InOrder-before {old = old} {new = new} told later order =
    InOrder-front old new (later.told told).0 later.given (later.told told).1 order

-- ---- Messages since then

pub messages-append : (xs ys : List WorldStep) → BringMessages xs → BringMessages ys → BringMessages (xs ++ ys)
messages-append [] ys all rest = rest
messages-append (x ∷ xs) ys all rest = (all.0, messages-append xs ys all.1 rest)

-- by steps that are told
pub messages-by : {Own : Type 0} (old new : Seen Own) (known : List WorldStep) → new.history ≡ old.history ++ known → BringMessages known → MessagesSince old new
messages-by old new known told all steps longer = subst BringMessages (append_cancel_left old.history known steps (sym told ∙ longer)) all

pub messages-none : {Own : Type 0} (seen : Seen Own) → MessagesSince seen seen
messages-none seen = messages-by seen seen [] (sym (append-nil seen.history)) tt

pub messages-then : {Own : Type 0} {Tells : Type 0} (old mid new : Seen Own) → Tells → Continues Tells old mid → Continues Tells mid new → MessagesSince old mid → MessagesSince mid new → MessagesSince old new
messages-then old mid new told before later first second =
    let a = before.told told in
    let b = later.told told in
    messages-by old new (a.0 ++ b.0) (b.1 ∙ ap (λ (xs : List WorldStep). xs ++ b.0) a.1 ∙ append_assoc old.history a.0 b.0)
    (messages-append a.0 b.0 (first a.0 a.1) (second b.0 b.1))

-- a world that kept its word goes on keeping it with messages
pub Conforming-on : {Own : Type 0} {Tells : Type 0} (old new : Seen Own) → Tells → Continues Tells old new → Conforming old → InOrder new → MessagesSince old new → Conforming new
Conforming-on old new told later keeps order since =
    let on = later.told told in
    in_order-Conforming new order (subst BringMessages (sym on.1) (messages-append old.history on.0 (messages-of old keeps) (since on.0 on.1)))
