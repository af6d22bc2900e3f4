-- What each change of a link keeps, each history keeps: of a property of one link, and of the switches that are declared.
use Rattle.std.specs.Prelude.{◌≡◌, ◌==◌, ℕ, Bool, true, false, List, [], ◌∷◌, map, if◌then◌else◌, refl}
use Rattle.std.specs.List.{AllByRecursion}
use Rattle.std.proofs.Common.{ap, ◌∙◌, inl, inr}
use Rattle.std.proofs.lemmas.Bool.{cases_Bool}
use Rattle.of_types.specs.declared.journal.Act.{Act}
use Rattle.of_types.specs.declared.journal.Act.TheVariants.{Stim, Started, Gave, Gone, Took, Ended, Sent, Got, Lost}
use Rattle.of_types.specs.declared.journal.Stimulus.{Stimulus}
use Rattle.of_types.specs.declared.journal.Stimulus.TheVariants.{Advance}
use Rattle.of_types.specs.declared.journal.WorldStim.{WorldStim}
use Rattle.of_types.specs.declared.journal.WorldStim.TheVariants.{Join, Leave, At, Of}
use Rattle.flow_table.specs.Switch.{Declared}
use Rattle.outside.specs.declared.step.WorldStep.{WorldStep}
use Rattle.outside.specs.declared.step.WorldStep.TheVariants.{Acted, TookInto, From, Joined, Left, Moment, Idle, End, Opened, NotOpened, NextFailed, SendLost, RecvLost, SendFailed, RecvFailed}
use Rattle.outside.specs.State.{Link, State, with_link, link_joined, link_left, link_stimulated, link_sent, link_got, link_told, link_lost, link_failed, links_after, after_stim, after_act, after_step, after_steps, declared_in}
use Rattle.outside.specs.laws.LinkLaws.{KeepsDeclared, keeps_sent, keeps_got, keeps_told, keeps_lost, keeps_failed}

-- ---- A property of one link

abbrev pub Keeps : (Link → Type 0) → (Link → Link) → Type 0
Keeps P change = (l : Link) → P l → P (change l)

pub one-kept : (P : Link → Type 0) (d : ℕ) (change : Link → Link) → Keeps P change → (ls : List Link) → AllByRecursion P ls → AllByRecursion P (with_link d change ls)
one-kept P d change keeps [] all = tt
one-kept P d change keeps (l ∷ ls) all =
    elim (cases_Bool (l.declared.dpid == d)) [
      | inl here ↦ rw here (keeps l all.0, all.1)
      | inr other ↦ rw other (all.0, one-kept P d change keeps ls all.1)
    ]

pub each-kept : (P : Link → Type 0) (change : Link → Link) → Keeps P change → (ls : List Link) → AllByRecursion P ls → AllByRecursion P (map change ls)
each-kept P change keeps [] all = tt
each-kept P change keeps (l ∷ ls) all = (keeps l all.0, each-kept P change keeps ls all.1)

-- each change that a step makes of a link keeps it
pub record EachKeeps (P : Link → Type 0) : Type 0 where
  pub stimulated : (x : Stimulus) → Keeps P (link_stimulated x)
  pub joined : (moment : ℕ) → Keeps P (link_joined moment)
  pub left : Keeps P link_left
  pub sent : (bytes : List ℕ) → Keeps P (link_sent bytes)
  pub got : Keeps P link_got
  pub told : Keeps P link_told
  pub lost : Keeps P link_lost
  pub failed : Keeps P link_failed

stim-kept : (P : Link → Type 0) → EachKeeps P → (x : WorldStim) (moment : ℕ) (ls : List Link) → AllByRecursion P ls → AllByRecursion P (links_after x moment ls)
stim-kept P k (Join d) moment ls all = one-kept P d (link_joined moment) (k.joined moment) ls all
stim-kept P k (Leave d) moment ls all = one-kept P d link_left k.left ls all
stim-kept P k (At t) moment ls all = each-kept P (link_stimulated (Advance t)) (k.stimulated (Advance t)) ls all
stim-kept P k (Of d x) moment ls all = one-kept P d (link_stimulated x) (k.stimulated x) ls all

act-kept : (P : Link → Type 0) → EachKeeps P → (act : Act) (s : State) → AllByRecursion P s.links → AllByRecursion P (after_act act s).links
unfolding after_act after_stim
act-kept P k (Stim x) s all = stim-kept P k x s.moment s.links all
act-kept P k (Started app ok) s all = all
act-kept P k (Gave app bytes) s all = all
act-kept P k (Gone app bytes) s all = all
act-kept P k (Took app what) s all = all
act-kept P k (Ended app) s all = all
act-kept P k (Sent d bytes) s all = one-kept P d (link_sent bytes) (k.sent bytes) s.links all
act-kept P k (Got d bytes) s all = one-kept P d link_got k.got s.links all
act-kept P k (Lost d) s all = one-kept P d link_lost k.lost s.links all

pub step-kept : (P : Link → Type 0) → EachKeeps P → (step : WorldStep) (s : State) → AllByRecursion P s.links → AllByRecursion P (after_step step s).links
unfolding after_step
step-kept P k (Acted act) s all = act-kept P k act s all
step-kept P k (TookInto app what room) s all = all
step-kept P k (From d bytes) s all = one-kept P d link_told k.told s.links all
step-kept P k (Joined d bytes) s all = all
step-kept P k (Left d) s all = all
step-kept P k (Moment t) s all = all
step-kept P k Idle s all = all
step-kept P k End s all = all
step-kept P k Opened s all = all
step-kept P k NotOpened s all = all
step-kept P k NextFailed s all = all
step-kept P k (SendLost d) s all = one-kept P d link_lost k.lost s.links all
step-kept P k (RecvLost d) s all = one-kept P d link_lost k.lost s.links all
step-kept P k (SendFailed d) s all = one-kept P d link_failed k.failed s.links all
step-kept P k (RecvFailed d) s all = one-kept P d link_failed k.failed s.links all

pub steps-kept : (P : Link → Type 0) → EachKeeps P → (steps : List WorldStep) (s : State) → AllByRecursion P s.links → AllByRecursion P (after_steps steps s).links
steps-kept P k [] s all = all
steps-kept P k (step ∷ steps) s all = steps-kept P k steps (after_step step s) (step-kept P k step s all)

-- ---- The switches that are declared

pub keeps_joined : (moment : ℕ) → KeepsDeclared (link_joined moment)
unfolding link_joined
keeps_joined moment l = refl

pub keeps_left : KeepsDeclared link_left
unfolding link_left
keeps_left l = refl

pub keeps_stimulated : (x : Stimulus) → KeepsDeclared (link_stimulated x)
unfolding link_stimulated
keeps_stimulated x l = refl

one_declared : (d : ℕ) (change : Link → Link) (l : Link) (ls : List Link) → KeepsDeclared change → declared_in (with_link d change ls) ≡ declared_in ls → (here : Bool)
    → declared_in (if here then change l ∷ ls else l ∷ with_link d change ls) ≡ l.declared ∷ declared_in ls
one_declared d change l ls keeps rest true = ap (λ (x : Declared). x ∷ declared_in ls) (keeps l)
one_declared d change l ls keeps rest false = ap (λ (xs : List Declared). l.declared ∷ xs) rest

pub declared_in-with_link : (d : ℕ) (change : Link → Link) → KeepsDeclared change → (ls : List Link) → declared_in (with_link d change ls) ≡ declared_in ls
declared_in-with_link d change keeps [] = refl
declared_in-with_link d change keeps (l ∷ ls) = one_declared d change l ls keeps (declared_in-with_link d change keeps ls) (l.declared.dpid == d)

pub declared_in-map : (change : Link → Link) → KeepsDeclared change → (ls : List Link) → declared_in (map change ls) ≡ declared_in ls
declared_in-map change keeps [] = refl
declared_in-map change keeps (l ∷ ls) = rw (keeps l, declared_in-map change keeps ls) refl

stim-declared : (x : WorldStim) (moment : ℕ) (ls : List Link) → declared_in (links_after x moment ls) ≡ declared_in ls
stim-declared (Join d) moment ls = declared_in-with_link d (link_joined moment) (keeps_joined moment) ls
stim-declared (Leave d) moment ls = declared_in-with_link d link_left keeps_left ls
stim-declared (At t) moment ls = declared_in-map (link_stimulated (Advance t)) (keeps_stimulated (Advance t)) ls
stim-declared (Of d x) moment ls = declared_in-with_link d (link_stimulated x) (keeps_stimulated x) ls

act-declared : (act : Act) (s : State) → declared_in (after_act act s).links ≡ declared_in s.links
unfolding after_act after_stim
act-declared (Stim x) s = stim-declared x s.moment s.links
act-declared (Started app ok) s = refl
act-declared (Gave app bytes) s = refl
act-declared (Gone app bytes) s = refl
act-declared (Took app what) s = refl
act-declared (Ended app) s = refl
act-declared (Sent d bytes) s = declared_in-with_link d (link_sent bytes) (keeps_sent bytes) s.links
act-declared (Got d bytes) s = declared_in-with_link d link_got keeps_got s.links
act-declared (Lost d) s = declared_in-with_link d link_lost keeps_lost s.links

pub step-declared : (step : WorldStep) (s : State) → declared_in (after_step step s).links ≡ declared_in s.links
unfolding after_step
step-declared (Acted act) s = act-declared act s
step-declared (TookInto app what room) s = refl
step-declared (From d bytes) s = declared_in-with_link d link_told keeps_told s.links
step-declared (Joined d bytes) s = refl
step-declared (Left d) s = refl
step-declared (Moment t) s = refl
step-declared Idle s = refl
step-declared End s = refl
step-declared Opened s = refl
step-declared NotOpened s = refl
step-declared NextFailed s = refl
step-declared (SendLost d) s = declared_in-with_link d link_lost keeps_lost s.links
step-declared (RecvLost d) s = declared_in-with_link d link_lost keeps_lost s.links
step-declared (SendFailed d) s = declared_in-with_link d link_failed keeps_failed s.links
step-declared (RecvFailed d) s = declared_in-with_link d link_failed keeps_failed s.links

pub steps-declared : (steps : List WorldStep) (s : State) → declared_in (after_steps steps s).links ≡ declared_in s.links
steps-declared [] s = refl
steps-declared (step ∷ steps) s = steps-declared steps (after_step step s) ∙ step-declared step s
