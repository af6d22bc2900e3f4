-- Each loss of a switch in the simulated world stands at a call of its link that is to fail.
use Rattle.std.specs.Prelude.{◌≡◌, ◌==◌, ℕ, ◌+◌, Bool, true, false, not, ◌&&◌, ◌||◌, List, [], ◌∷◌, ◌++◌, map, Option, Some, None, Ok, IsTrue, if◌then◌else◌, refl}
use Rattle.std.specs.List.{list_any}
use Rattle.std.specs.Option.{option_map}
use Rattle.std.proofs.Common.{sym, ap, ◌∙◌, subst, arith, inl, inr}
use Rattle.std.proofs.lemmas.Bool.{cases_Bool, eqb-true, eqb-false, eq-eqb, false≢true}
use Rattle.of_types.specs.declared.journal.Act.{Act}
use Rattle.of_types.specs.declared.journal.Act.TheVariants.{Stim, Started, Gave, Gone, Took, Ended, Sent, Got, Lost}
use Rattle.of_types.specs.declared.journal.Stimulus.TheVariants.{Advance}
use Rattle.of_types.specs.declared.journal.WorldStim.{WorldStim}
use Rattle.of_types.specs.declared.journal.WorldStim.TheVariants.{Join, Leave, At, Of}
use Rattle.flow_table.specs.Switch.{Declared}
use Rattle.outside.specs.declared.call.FailCall.{FailCall}
use Rattle.outside.specs.declared.step.WorldStep.{WorldStep}
use Rattle.outside.specs.declared.step.WorldStep.TheVariants.{Acted, TookInto, From, Joined, Left, Moment, Idle, End, Opened, NotOpened, NextFailed, SendLost, RecvLost, SendFailed, RecvFailed}
use Rattle.outside.specs.Seen.{Given, Seen, act_of}
use Rattle.outside.specs.State.{Link, State, fails_of, link_at_first, at_first, link_of, with_link, fails_in, link_fails, is_joined, has_waiting, link_joined, link_left, link_stimulated, link_sent, link_got, link_told, link_lost, link_failed, links_after, after_stim, after_act, after_step}
use Rattle.outside.specs.Conforming.{MayAct, MayStep}
use Rattle.outside.specs.InOrder.{MayCome, MayComeAll, InOrder}
use Rattle.outside.specs.laws.LinkLaws.{KeepsDeclared, link_of-same, link_of-other, keeps_sent, keeps_got, keeps_told, keeps_lost, keeps_failed}
use Rattle.outside.specs.laws.LinkKeptLaws.{keeps_joined, keeps_left, keeps_stimulated}
use Rattle.session_text.specs.Loading.{fail_of, given_by}
use Rattle.lego_model.specs.SessionLines.{SessionValue}
use Rattle.sim_world.specs.Told.{without_links}
use Rattle.sim_world.specs.Scripts.{Scripts, KeepsScripts}
use Rattle.sim_world.specs.World.{WorldData, AreAsTold, given_of, seen_of}
use Rattle.sim_world.specs.Places.{IsExpected, AreExpected}
use Rattle.legosdn.specs.Input.{ProgramValue, Spelling}
use Rattle.legosdn.specs.Headline.{IsLoaded}
use Rattle.legosdn.specs.Live.{NoneStray}
use Rattle.legosdn.specs.LinkFaults.{is_call_of, calls_of, LostAtFaults, LosesAsTold, TellsAsTold}
use Rattle.legosdn.proofs.Said.{given_session}

-- ---- It tells in order, and as it was told

pub tells_as_told : (w : WorldData) → InOrder (seen_of w) → KeepsScripts w.scripts (without_links w.fails) w.history → AreAsTold (without_links w.fails) 0 w.history (at_first (given_of w)) → TellsAsTold (seen_of w)
unfolding seen_of given_of
tells_as_told w order scripts told = record { order = order; as_told = record { word = order.steps; scripts = scripts; told = told } }

-- ---- What is counted of a link: how many calls of it there were, beside the numbers of those that are to fail

abbrev Counted : Type 0
Counted = Option (ℕ × List ℕ)

abbrev counted : Option Link → Counted
counted None = None
counted (Some l) = Some (l.calls, l.fails)

-- one more
abbrev one_more : Bool → Counted → Counted
one_more true None = None
one_more true (Some x) = Some (x.0 + 1, x.1)
one_more false x = x

abbrev Calls : (Link → Link) → Type 0
Calls change = (l : Link) → counted (Some (change l)) ≡ one_more true (counted (Some l))

abbrev CallsNot : (Link → Link) → Type 0
CallsNot change = (l : Link) → counted (Some (change l)) ≡ counted (Some l)

changed : (change : Link → Link) → Calls change → (o : Option Link) → counted (option_map change o) ≡ one_more true (counted o)
changed change calls None = refl
changed change calls (Some l) = calls l

unchanged : (change : Link → Link) → CallsNot change → (o : Option Link) → counted (option_map change o) ≡ counted o
unchanged change calls None = refl
unchanged change calls (Some l) = calls l

called : (d e : ℕ) (change : Link → Link) → KeepsDeclared change → Calls change → (ls : List Link) → counted (link_of d (with_link e change ls)) ≡ one_more (e == d) (counted (link_of d ls))
called d e change keeps calls ls = elim (cases_Bool (e == d)) [
  | inl here ↦ rw here (subst (λ (k : ℕ). counted (link_of d (with_link k change ls)) ≡ one_more true (counted (link_of d ls))) (sym (eqb-true e d here)) (ap counted (link_of-same d change keeps ls) ∙ changed change calls (link_of d ls)))
  | inr other ↦ rw other (ap counted (link_of-other e d change keeps (λ same. eqb-false e d other (sym same)) ls))
]

still : (d e : ℕ) (change : Link → Link) → KeepsDeclared change → CallsNot change → (ls : List Link) → counted (link_of d (with_link e change ls)) ≡ counted (link_of d ls)
still d e change keeps calls ls = elim (cases_Bool (e == d)) [
  | inl here ↦ subst (λ (k : ℕ). counted (link_of d (with_link k change ls)) ≡ counted (link_of d ls)) (sym (eqb-true e d here)) (ap counted (link_of-same d change keeps ls) ∙ unchanged change calls (link_of d ls))
  | inr other ↦ ap counted (link_of-other e d change keeps (λ same. eqb-false e d other (sym same)) ls)
]

all_still : (d : ℕ) (change : Link → Link) → KeepsDeclared change → CallsNot change → (ls : List Link) → counted (link_of d (map change ls)) ≡ counted (link_of d ls)
all_still d change keeps calls [] = refl
all_still d change keeps calls (l ∷ ls) = elim (cases_Bool (l.declared.dpid == d)) [
  | inl here ↦ rw (keeps l, here) (calls l)
  | inr other ↦ rw (keeps l, other) (all_still d change keeps calls ls)
]

stimulated_still : (d : ℕ) (x : WorldStim) (moment : ℕ) (ls : List Link) → counted (link_of d (links_after x moment ls)) ≡ counted (link_of d ls)
unfolding link_joined link_left link_stimulated
stimulated_still d (Join e) moment ls = still d e (link_joined moment) (keeps_joined moment) (λ l. refl) ls
stimulated_still d (Leave e) moment ls = still d e link_left keeps_left (λ l. refl) ls
stimulated_still d (At t) moment ls = all_still d (link_stimulated (Advance t)) (keeps_stimulated (Advance t)) (λ l. refl) ls
stimulated_still d (Of e x) moment ls = still d e (link_stimulated x) (keeps_stimulated x) (λ l. refl) ls

act_counted : (d : ℕ) (act : Act) (s : State) → (act ≡ Lost d → ⊥) → counted (link_of d (after_act act s).links) ≡ one_more (is_call_of d (Acted act)) (counted (link_of d s.links))
unfolding after_act after_stim link_sent link_got
act_counted d (Stim x) s not = stimulated_still d x s.moment s.links
act_counted d (Started app ok) s not = refl
act_counted d (Gave app bytes) s not = refl
act_counted d (Gone app bytes) s not = refl
act_counted d (Took app what) s not = refl
act_counted d (Ended app) s not = refl
act_counted d (Sent e bytes) s not = called d e (link_sent bytes) (keeps_sent bytes) (λ l. refl) s.links
act_counted d (Got e bytes) s not = called d e link_got keeps_got (λ l. refl) s.links
act_counted d (Lost e) s not = ap counted (link_of-other e d link_lost keeps_lost (λ same. not (ap (λ k. Lost k) (sym same))) s.links)

no_loss : (d : ℕ) (act : Act) (declared : List Declared) (s : State) → MayCome declared (Acted act) s → act ≡ Lost d → ⊥
unfolding MayCome MayStep MayAct
no_loss d (Lost e) declared s may is = may
no_loss d (Stim x) declared s may is = absurd cc
no_loss d (Started app ok) declared s may is = absurd cc
no_loss d (Gave app bytes) declared s may is = absurd cc
no_loss d (Gone app bytes) declared s may is = absurd cc
no_loss d (Took app what) declared s may is = absurd cc
no_loss d (Ended app) declared s may is = absurd cc
no_loss d (Sent e bytes) declared s may is = absurd cc
no_loss d (Got e bytes) declared s may is = absurd cc

step_counted : (d : ℕ) (step : WorldStep) (declared : List Declared) (s : State) → MayCome declared step s → counted (link_of d (after_step step s).links) ≡ one_more (is_call_of d step) (counted (link_of d s.links))
unfolding after_step link_told link_lost link_failed
step_counted d (Acted act) declared s may = act_counted d act s (no_loss d act declared s may)
step_counted d (TookInto app what room) declared s may = refl
step_counted d (From e bytes) declared s may = still d e link_told keeps_told (λ l. refl) s.links
step_counted d (Joined e bytes) declared s may = refl
step_counted d (Left e) declared s may = refl
step_counted d (Moment t) declared s may = refl
step_counted d Idle declared s may = refl
step_counted d End declared s may = refl
step_counted d Opened declared s may = refl
step_counted d NotOpened declared s may = refl
step_counted d NextFailed declared s may = refl
step_counted d (SendLost e) declared s may = called d e link_lost keeps_lost (λ l. refl) s.links
step_counted d (RecvLost e) declared s may = called d e link_lost keeps_lost (λ l. refl) s.links
step_counted d (SendFailed e) declared s may = called d e link_failed keeps_failed (λ l. refl) s.links
step_counted d (RecvFailed e) declared s may = called d e link_failed keeps_failed (λ l. refl) s.links

-- ---- So many calls of a link there were

abbrev SoMany : ℕ → List ℕ → Counted → Type 0
SoMany n fails None = Unit {0}
SoMany n fails (Some x) = (x.0 ≡ n) × (x.1 ≡ fails)

many_more : (n : ℕ) (fails : List ℕ) (c : Counted) → SoMany n fails c → SoMany (n + 1) fails (one_more true c)
many_more n fails None is = tt
many_more n fails (Some x) is = (ap (λ (k : ℕ). k + 1) is.0, is.1)

-- none at first
first_counted : (d : ℕ) (fails : List FailCall) (ds : List Declared) → SoMany 0 (fails_of d fails) (counted (link_of d (map (link_at_first fails) ds)))
first_counted d fails [] = tt
first_counted d fails (x ∷ xs) = elim (cases_Bool (x.dpid == d)) [
  | inl here ↦ rw here (refl, ap (λ (k : ℕ). fails_of k fails) (eqb-true x.dpid d here))
  | inr other ↦ rw other (first_counted d fails xs)
]

is_to_fail : (n : ℕ) (fails : List ℕ) (o : Option Link) → SoMany n fails (counted o) → fails_in o ≡ true → list_any (λ k. k == n + 1) fails ≡ true
is_to_fail n fails None is fail = absurd (false≢true fail)
is_to_fail n fails (Some l) is fail = subst (λ (ks : List ℕ). list_any (λ k. k == n + 1) ks ≡ true) is.1 (subst (λ (m : ℕ). list_any (λ k. k == m + 1) l.fails ≡ true) is.0 fail)

-- ---- A loss

both_true : (a b : Bool) → IsTrue (a && b) → b ≡ true
both_true true b is = is
both_true false b is = absurd (false≢true is)

or_waiting : (fail waits : Bool) → waits ≡ true → (fail || not waits) ≡ true → fail ≡ true
or_waiting true waits is either = refl
or_waiting false waits is either = absurd (false≢true (sym (ap not is) ∙ either))

of_switch : (e d : ℕ) (o : Option Act) → o ≡ Some (Lost e) → o ≡ Some (Lost d) → e ≡ d
of_switch e d o first second = let both : Some (Lost e) ≡ Some (Lost d) = sym first ∙ second in cc

abbrev IsToFail : ℕ → WorldStep → State → Type 0
IsToFail d step s = (is_call_of d step ≡ true) × (link_fails d s ≡ true)

loss_fails : (d : ℕ) (declared : List Declared) (step : WorldStep) (s : State) → MayCome declared step s → IsExpected step s → act_of step ≡ Some (Lost d) → IsToFail d step s
unfolding MayCome MayStep
loss_fails d declared (Acted act) s may is lost = absurd (no_loss d act declared s may cc)
loss_fails d declared (TookInto app what room) s may is lost = absurd cc
loss_fails d declared (From e bytes) s may is lost = absurd cc
loss_fails d declared (Joined e bytes) s may is lost = absurd cc
loss_fails d declared (Left e) s may is lost = absurd cc
loss_fails d declared (Moment t) s may is lost = absurd cc
loss_fails d declared Idle s may is lost = absurd cc
loss_fails d declared End s may is lost = absurd cc
loss_fails d declared Opened s may is lost = absurd cc
loss_fails d declared NotOpened s may is lost = absurd cc
loss_fails d declared NextFailed s may is lost = absurd cc
loss_fails d declared (SendLost e) s may is lost =
    let same = of_switch e d (Some (Lost e)) refl lost in
    (eq-eqb e d same, subst (λ (k : ℕ). link_fails k s ≡ true) same (both_true (is_joined e s) (link_fails e s) may))
loss_fails d declared (RecvLost e) s may is lost =
    let same = of_switch e d (Some (Lost e)) refl lost in
    (eq-eqb e d same, subst (λ (k : ℕ). link_fails k s ≡ true) same (or_waiting (link_fails e s) (has_waiting e s) is (both_true (is_joined e s) (link_fails e s || not (has_waiting e s)) may)))
loss_fails d declared (SendFailed e) s may is lost = absurd cc
loss_fails d declared (RecvFailed e) s may is lost = absurd cc

count_on : (d n : ℕ) (step : WorldStep) (front : List WorldStep) (b : Bool) → is_call_of d step ≡ b → n + calls_of d (step ∷ front) ≡ (if b then n + 1 else n) + calls_of d front
count_on d n step front true is = rw is (omega arith)
count_on d n step front false is = rw is refl

many_on : (n : ℕ) (fails : List ℕ) (b : Bool) (c : Counted) → SoMany n fails c → SoMany (if b then n + 1 else n) fails (one_more b c)
many_on n fails true c is = many_more n fails c is
many_on n fails false c is = is

loss_told : (d n : ℕ) (fails : List ℕ) (declared : List Declared) (front behind : List WorldStep) (step : WorldStep) (s : State) → SoMany n fails (counted (link_of d s.links)) → MayComeAll declared (front ++ step ∷ behind) s
    → AreExpected (front ++ step ∷ behind) s → act_of step ≡ Some (Lost d) → (is_call_of d step ≡ true) × (list_any (λ k. k == (n + calls_of d front) + 1) fails ≡ true)
unfolding link_fails
loss_told d n fails declared [] behind step s many may is lost =
    let fail = loss_fails d declared step s may.0 is.0 lost in
    let none : n + calls_of d [] ≡ n = omega arith in
    (fail.0, subst (λ (m : ℕ). list_any (λ k. k == m + 1) fails ≡ true) (sym none) (is_to_fail n fails (link_of d s.links) many fail.1))
loss_told d n fails declared (x ∷ front) behind step s many may is lost =
    let b = is_call_of d x in
    let later = loss_told d (if b then n + 1 else n) fails declared front behind step (after_step x s)
    (subst (SoMany (if b then n + 1 else n) fails) (sym (step_counted d x declared s may.0)) (many_on n fails b (counted (link_of d s.links)) many)) may.1 is.1 lost in
    (later.0, subst (λ (m : ℕ). list_any (λ k. k == m + 1) fails ≡ true) (sym (count_on d n x front b refl)) later.1)

-- the numbers of the calls that `fault` lines name
told_lines : (d m : ℕ) (faults : List (ℕ × ℕ)) → list_any (λ k. k == m) (fails_of d (map fail_of faults)) ≡ list_any (λ f. f.0 == d && f.1 == m) faults
told_lines d m [] = refl
told_lines d m (f ∷ fs) = elim (cases_Bool (f.0 == d)) [
  | inl here ↦ rw here (ap (λ (b : Bool). f.1 == m || b) (told_lines d m fs))
  | inr other ↦ rw other (told_lines d m fs)
]

lost_at_faults : {Own : Type 0} (seen : Seen Own) (faults : List (ℕ × ℕ)) → InOrder seen → AreExpected seen.history (at_first seen.given) → seen.given.fails ≡ map fail_of faults → LostAtFaults faults seen.history
unfolding at_first
lost_at_faults seen faults order are fails d front behind step is lost =
    let given = seen.given in
    let none : 0 + calls_of d front ≡ calls_of d front = omega arith in
    let all = loss_told d 0 (fails_of d given.fails) given.declared front behind step (at_first given) (first_counted d given.fails given.declared)
    (subst (λ (h : List WorldStep). MayComeAll given.declared h (at_first given)) is order.steps) (subst (λ (h : List WorldStep). AreExpected h (at_first given)) is are) lost in
    let told = subst (λ (n : ℕ). list_any (λ k. k == n + 1) (fails_of d given.fails) ≡ true) none all.1 in
    (all.0, sym (told_lines d (calls_of d front + 1) faults) ∙ subst (λ (fs : List FailCall). list_any (λ k. k == calls_of d front + 1) (fails_of d fs) ≡ true) fails told)

-- of the world that a run leaves
pub loses_as_told : (seen : Seen Scripts) → InOrder seen → NoneStray seen → LosesAsTold seen
loses_as_told seen order none = λ faults fails. lost_at_faults seen faults order none fails

-- of the session that the input spells
pub lost_by_lines : (spells : Spelling) (program : ProgramValue) (told left : Option (List ℕ)) (seen : Seen Scripts) (input : List ℕ) (session : SessionValue) → IsLoaded spells told left seen → LosesAsTold seen
    → told ≡ Some input → spells input ≡ Ok (program, session) → LostAtFaults session.faults seen.history
unfolding given_by
lost_by_lines spells program told left seen input session loaded lost whole spelled =
    lost session.faults (ap (λ (g : Given Scripts). g.fails) (given_session spells loaded.0 program told left seen input session loaded.1 whole spelled))

-- where nothing was done
pub lost_nowhere : {Own : Type 0} (faults : List (ℕ × ℕ)) (seen : Seen Own) → seen.history ≡ [] → LostAtFaults faults seen.history
lost_nowhere faults seen none = λ d front behind step is lost. absurd (no_step front behind step (sym none ∙ is))
  where
    no_step : (front behind : List WorldStep) (step : WorldStep) → [] ≡ front ++ step ∷ behind → ⊥
    no_step [] behind step is = absurd cc
    no_step (x ∷ front) behind step is = absurd cc
