-- Each call keeps what holds of the world.
use Rattle.std.specs.Prelude.{◌≡◌, ◌≢◌, ◌==◌, ℕ, ◌+◌, ◌-◌, ◌*◌, ◌^◌, ◌<◌, ◌≤◌, ◌⊎◌, Bool, true, false, List, [], ◌∷◌, ◌++◌, length, Option, Some, None, Result, Ok, Err, IfSome, IsOk, slice_get, refl}
use Rattle.std.proofs.Common.{zero, suc, sym, ap, ◌∙◌, subst, arith, append_assoc, inl, inr}
use Rattle.std.proofs.lemmas.Bool.{cases_Bool, cases_eq, false≢true, ne_eqb}
use Rattle.std.proofs.lemmas.List.{append-nil}
use Rattle.std.proofs.lemmas.Option.{slice_get_cases, same_Some}
use Rattle.of_types.specs.Membership.{is_among}
use Rattle.of_types.specs.declared.journal.TookWhat.{TookWhat}
use Rattle.frame_votes.specs.declared.ballot.Place.{Place}
use Rattle.frame_votes.specs.declared.ballot.Place.TheVariants.{First, Second, Third}
use Rattle.frame_votes.specs.Votes.{Polled}
use Rattle.frame_votes.specs.laws.VoteLaws.{Lives, AllFollow, TwoBegin}
use Rattle.outside.specs.declared.faults.Short.{Short}
use Rattle.outside.specs.declared.step.WorldStep.{WorldStep}
use Rattle.outside.specs.Seen.{Seen}
use Rattle.linked_world.specs.Linked.{Linkage, seen_of, running_after, running_without, in_place}
use Rattle.linked_world.specs.laws.ThereLaws.{none_runs}
use Rattle.linked_world.specs.Still.{Still, Shorted}
use Rattle.vote_world.specs.Voting.{Voting, copy_number, copies_in, numbered}
use Rattle.vote_world.specs.Lives.{life_in, lives_of, Backed, Rests, Elsewhere, Leaves, AppGoes, AppBegins, Polls, IsPolled, bytes_in, taken_in}
use Rattle.vote_world.specs.World.{AreNumbered, given_by, IsVotedOf, IsVotings, TakesOf, Keeps, IsFresh, CopiesAt}
use Rattle.vote_world.specs.laws.StepLaws.{SameLives, opens_same, nexts_same, sends_same, receives_same, gives_same, ends_same, starts_others, starts_failed, starts_fresh, takes_others, takes_more, taken_is}
use Rattle.outside.specs.declared.faults.OpenFault.{OpenFault}
use Rattle.outside.specs.declared.faults.NextFault.{NextFault}
use Rattle.outside.specs.declared.faults.StartFault.{StartFault}
use Rattle.outside.specs.declared.faults.GiveFault.{GiveFault}
use Rattle.outside.specs.declared.faults.LinkFault.{LinkFault}
use Rattle.outside.specs.declared.item.Item.{Item}
use Rattle.outside.specs.declared.item.Taken.{Taken}
use Rattle.outside.specs.Calls.{Opens, Nexts, Starts, Gives, Takes, take_steps, Ends, Sends, Receives}
use Rattle.outside.specs.declared.step.WorldStep.TheVariants.{TookInto}

-- ---- Numbers

number_least : (first : ℕ) (place : Place) → first + 2 ≤ 2 ^ 32 - 1 → first ≤ copy_number first place
number_least first First few = omega (arith, few)
number_least first Second few = omega (arith, few)
number_least first Third few = omega (arith, few)

number_most : (first : ℕ) (place : Place) → first + 2 ≤ 2 ^ 32 - 1 → copy_number first place ≤ first + 2
number_most first First few = omega (arith, few)
number_most first Second few = omega (arith, few)
number_most first Third few = omega (arith, few)

behind_all : (v w : Voting) (place : Place) → v.first + 2 ≤ 2 ^ 32 - 1 → w.first + 2 ≤ 2 ^ 32 - 1 → v.first + copies_in v.three ≤ w.first → Elsewhere v.three v.first (copy_number w.first place)
behind_all v w place few_v few_w behind = by v.three behind
  where
    by : (three : Bool) → v.first + copies_in three ≤ w.first → Elsewhere three v.first (copy_number w.first place)
    by true behind = λ p e. absurd (omega (arith, behind, e, number_least w.first place few_w, number_most v.first p few_v))
    by false behind = λ e. absurd (omega (arith, behind, e, number_least w.first place few_w))

before_all : (v w : Voting) (place : Place) → v.first + 2 ≤ 2 ^ 32 - 1 → w.first + 2 ≤ 2 ^ 32 - 1 → w.first + 3 ≤ v.first → Elsewhere v.three v.first (copy_number w.first place)
before_all v w place few_v few_w before = by v.three
  where
    by : (three : Bool) → Elsewhere three v.first (copy_number w.first place)
    by true = λ p e. absurd (omega (arith, before, e, number_most w.first place few_w, number_least v.first p few_v))
    by false = λ e. absurd (omega (arith, before, e, number_most w.first place few_w))

less_or_more : (i j : ℕ) → i ≢ j → (i < j) ⊎ (j < i)
less_or_more i j differ = grind (arith, differ)

elsewhere : (copies : List Voting) → AreNumbered copies → (app other : ℕ) (v w : Voting) → other ≢ app → slice_get copies app ≡ Some v → slice_get copies other ≡ Some w → w.three ≡ true
    → (place : Place) → Elsewhere v.three v.first (copy_number w.first place)
elsewhere copies are app other v w differ is_v is_w three place =
    elim (less_or_more other app differ) [
      | inl less ↦ before_all v w place (are.few app v is_v) (are.few other w is_w) (subst (λ (t : Bool). w.first + copies_in t ≤ v.first) three (are.apart other app w v less is_w is_v))
      | inr more ↦ behind_all v w place (are.few app v is_v) (are.few other w is_w) (are.apart app other v w more is_v is_w)
    ]

-- each application keeps its numbers
abbrev pub SameNumbers : List Voting → List Voting → Type 0
SameNumbers old new = (i : ℕ) (v : Voting) → slice_get new i ≡ Some v → (o : Voting) × (slice_get old i ≡ Some o) × (v.first ≡ o.first) × (v.three ≡ o.three)

numbers_kept : (old new : List Voting) → SameNumbers old new → AreNumbered old → AreNumbered new
numbers_kept old new same are = record {
  few = λ i v is.
      let o = same i v is in
      subst (λ (n : ℕ). n + 2 ≤ 2 ^ 32 - 1) (sym o.2) (are.few i o.0 o.1);
  apart = λ i j v w less is_v is_w.
      let o = same i v is_v in
      let p = same j w is_w in
      subst (λ (n : ℕ). n + copies_in v.three ≤ w.first) (sym o.2)
      (subst (λ (t : Bool). o.0.first + copies_in t ≤ w.first) (sym o.3)
      (subst (λ (n : ℕ). o.0.first + copies_in o.0.three ≤ n) (sym p.2) (are.apart i j o.0 p.0 less o.1 p.1)));
}

-- ---- A call that moves one application

pub record Moves {Own W : Type 0} (Tells : Type 0) (see : W → Seen Own) (app : ℕ) (x y : Linkage W) (old new : List Voting) : Type 0 where
  pub numbers : SameNumbers old new
  pub others : (i : ℕ) → i ≢ app → slice_get new i ≡ slice_get old i
  pub inner : Tells → (n : ℕ) → ((v : Voting) → slice_get old app ≡ Some v → Elsewhere v.three v.first n) → life_in n (see y.links).history ≡ life_in n (see x.links).history
  pub own : Tells → (i : ℕ) → i ≢ app → given_by see i y ≡ given_by see i x
  pub running : (i : ℕ) → i ≢ app → is_among i y.running ≡ true → is_among i x.running ≡ true

lives_same : (first : ℕ) (before after : List WorldStep) → ((place : Place) → life_in (copy_number first place) after ≡ life_in (copy_number first place) before) → lives_of first after ≡ lives_of first before
lives_same first before after same =
    ap (λ (life : List ℕ). record {
      first = life;
      second = life_in (copy_number first Second) after;
      third = life_in (copy_number first Third) after;
    }) (same First)
    ∙ ap (λ (life : List ℕ). record {
      first = life_in (copy_number first First) before;
      second = life;
      third = life_in (copy_number first Third) after;
    }) (same Second)
    ∙ ap (λ (life : List ℕ). record {
      first = life_in (copy_number first First) before;
      second = life_in (copy_number first Second) before;
      third = life;
    }) (same Third)

pub backed_same : (first : ℕ) (so_far : List ℕ) (ballot : Polled) (before after : List WorldStep) → ((place : Place) → life_in (copy_number first place) after ≡ life_in (copy_number first place) before)
    → Backed first so_far ballot before → Backed first so_far ballot after
backed_same first so_far ballot before after same backed = record {
  few = backed.few;
  two = subst (λ (lives : Lives). TwoBegin so_far lives) (sym (lives_same first before after same)) backed.two;
  follow = subst (λ (lives : Lives). AllFollow so_far lives ballot) (sym (lives_same first before after same)) backed.follow;
}

pub moves_keep : {Own W : Type 0} (Tells : Type 0) (see : W → Seen Own) (app : ℕ) (x y : Linkage W) (old new : List Voting) → Moves Tells see app x y old new
    → (Tells → AreNumbered old → IsVotedOf see app x old → IsVotedOf see app y new)
    → IsVotings Tells see (record { linked = x; copies = old }) → IsVotings Tells see (record { linked = y; copies = new })
moves_keep Tells see app x y old new moves here are = record {
  numbered = numbers_kept old new moves.numbers are.numbered;
  voted = λ told i. elim (cases_eq i app) [
    | inl same ↦ subst (λ (n : ℕ). IsVotedOf see n y new) (sym same) (here told are.numbered (are.voted told app))
    | inr differ ↦ λ v is three runs.
        let is_old : slice_get old i ≡ Some v = sym (moves.others i differ) ∙ is in
        subst (λ (given : List ℕ). Backed v.first (given ++ v.left) v.ballot (see y.links).history) (sym (moves.own told i differ))
        (backed_same v.first (given_by see i x ++ v.left) v.ballot (see x.links).history (see y.links).history
        (λ place. moves.inner told (copy_number v.first place) (λ o is_o. elsewhere old are.numbered app i o v differ is_o is_old three place))
        (are.voted told i v is_old three (moves.running i differ runs)))
  ];
}

pub moves_twice : {Own W : Type 0} (Tells : Type 0) (see : W → Seen Own) (app : ℕ) (x y z : Linkage W) (a b c : List Voting) → Moves Tells see app x y a b → Moves Tells see app y z b c → Moves Tells see app x z a c
moves_twice Tells see app x y z a b c one two = record {
  numbers = λ i v is.
      let o = two.numbers i v is in
      let p = one.numbers i o.0 o.1 in
      (p.0, p.1, o.2 ∙ p.2, o.3 ∙ p.3);
  others = λ i differ. two.others i differ ∙ one.others i differ;
  inner = λ told n away.
      two.inner told n (λ v is.
      let p = one.numbers app v is in
      subst (λ (f : ℕ). Elsewhere v.three f n) (sym p.2) (subst (λ (t : Bool). Elsewhere t p.0.first n) (sym p.3) (away p.0 p.1)))
      ∙ one.inner told n away;
  own = λ told i differ. two.own told i differ ∙ one.own told i differ;
  running = λ i differ runs. one.running i differ (two.running i differ runs);
}

-- ---- Calls that move no application

pub links_keep : {Own W : Type 0} (Tells : Type 0) (see : W → Seen Own) (x y : Linkage W) (copies : List Voting) → SameLives Tells (see x.links) (see y.links) → SameLives Tells (seen_of see x) (seen_of see y)
    → y.running ≡ x.running → Keeps Tells see x copies y copies
unfolding given_by
links_keep Tells see x y copies inner own running are = record {
  numbered = are.numbered;
  voted = λ told app v is three runs.
      subst (λ (given : List ℕ). Backed v.first (given ++ v.left) v.ballot (see y.links).history) (sym (own told app))
      (backed_same v.first (given_by see app x ++ v.left) v.ballot (see x.links).history (see y.links).history (λ place. inner told (copy_number v.first place))
      (are.voted told app v is three (sym (ap (is_among app) running) ∙ runs)));
}

same_links : {Own W : Type 0} (Tells : Type 0) (see : W → Seen Own) (x y : Linkage W) → y.links ≡ x.links → SameLives Tells (see x.links) (see y.links)
same_links Tells see x y same = λ told n. ap (λ (w : _). life_in n (see w).history) same

pub opens_keep : {Own W T : Type 0} (Tells : Type 0) (see : W → Seen Own) (x y : Linkage W) (copies : List Voting) (result : Result T OpenFault) → Opens Tells (seen_of see x) (seen_of see y) result
    → Opens Tells (see x.links) (see y.links) result → y.running ≡ x.running → Keeps Tells see x copies y copies
opens_keep Tells see x y copies result seen call running = links_keep Tells see x y copies (opens_same Tells _ _ result call) (opens_same Tells _ _ result seen) running

pub nexts_keep : {Own W : Type 0} (Tells : Type 0) (see : W → Seen Own) (x y : Linkage W) (copies : List Voting) (result : Result Item NextFault) (buf : List ℕ) → Nexts Tells (seen_of see x) (seen_of see y) result buf
    → Nexts Tells (see x.links) (see y.links) result buf → y.running ≡ x.running → Keeps Tells see x copies y copies
nexts_keep Tells see x y copies result buf seen call running = links_keep Tells see x y copies (nexts_same Tells _ _ result buf call) (nexts_same Tells _ _ result buf seen) running

pub sends_keep : {Own W T : Type 0} (Tells : Type 0) (see : W → Seen Own) (d : ℕ) (frame : List ℕ) (x y : Linkage W) (copies : List Voting) (result : Result T LinkFault) → Sends Tells d frame (seen_of see x) (seen_of see y) result
    → Sends Tells d frame (see x.links) (see y.links) result → y.running ≡ x.running → Keeps Tells see x copies y copies
sends_keep Tells see d frame x y copies result seen call running = links_keep Tells see x y copies (sends_same Tells d frame _ _ result call) (sends_same Tells d frame _ _ result seen) running

pub receives_keep : {Own W : Type 0} (Tells : Type 0) (see : W → Seen Own) (d : ℕ) (x y : Linkage W) (copies : List Voting) (result : Result ℕ LinkFault) (buf : List ℕ) → Receives Tells d (seen_of see x) (seen_of see y) result buf
    → Receives Tells d (see x.links) (see y.links) result buf → y.running ≡ x.running → Keeps Tells see x copies y copies
receives_keep Tells see d x y copies result buf seen call running = links_keep Tells see x y copies (receives_same Tells d _ _ result buf call) (receives_same Tells d _ _ result buf seen) running

-- ---- Calls that this world alone notes

pub gave_keeps : {Own W T : Type 0} (Tells : Type 0) (see : W → Seen Own) (app : ℕ) (bytes : List ℕ) (x y : Linkage W) (copies : List Voting) (result : Result T GiveFault)
    → Gives Tells app bytes (seen_of see x) (seen_of see y) result → y.links ≡ x.links → y.running ≡ x.running → Keeps Tells see x copies y copies
gave_keeps Tells see app bytes x y copies result seen links running = links_keep Tells see x y copies (same_links Tells see x y links) (gives_same Tells app bytes _ _ result seen) running

pub refused_keeps : {Own W T : Type 0} (Tells : Type 0) (see : W → Seen Own) (app : ℕ) (x y : Linkage W) (copies : List Voting) (result : Result T StartFault)
    → Starts Tells app (seen_of see x) (seen_of see y) result → y.links ≡ x.links → y.running ≡ running_after app result x.running → (IsOk result → false ≡ true) → Keeps Tells see x copies y copies
refused_keeps Tells see app x y copies (Ok z) seen links running ok = absurd (false≢true (ok refl))
refused_keeps Tells see app x y copies (Err fault) seen links running ok = links_keep Tells see x y copies (same_links Tells see x y links) (starts_failed Tells app _ _ fault seen) running

idle_here : {Own W : Type 0} (see : W → Seen Own) (app : ℕ) (y : Linkage W) (copies : List Voting) → is_among app y.running ≡ false → IsVotedOf see app y copies
idle_here see app y copies idle = λ v is three runs. absurd (false≢true (sym idle ∙ runs))

same_numbers : (copies : List Voting) → SameNumbers copies copies
same_numbers copies = λ i v is. (v, is, refl, refl)

-- an application that does not run gives nothing
pub idle_keeps : {Own W : Type 0} (Tells : Type 0) (see : W → Seen Own) (app : ℕ) (x y : Linkage W) (copies : List Voting) (result : Result Taken Short) (buf : List ℕ)
    → Takes Tells app (seen_of see x) (seen_of see y) result buf → y.links ≡ x.links → y.running ≡ x.running → is_among app x.running ≡ false → Keeps Tells see x copies y copies
unfolding given_by
idle_keeps Tells see app x y copies result buf seen links running idle =
    moves_keep Tells see app x y copies copies (record {
      numbers = same_numbers copies;
      others = λ i differ. refl;
      inner = λ told n away. same_links Tells see x y links told n;
      own = λ told i differ. takes_others Tells app _ _ result buf seen told i differ;
      running = λ i differ runs. sym (ap (is_among i) running) ∙ runs;
    }) (λ told are here. idle_here see app y copies (ap (is_among app) running ∙ idle))

-- ---- The copies of one application

-- there is such an application, or there is none
pub record FoundAt (R : Voting → Voting → Type 0) (app : ℕ) (old new : List Voting) : Type 0 where
  pub was : Voting
  pub then : Voting
  pub is_was : slice_get old app ≡ Some was
  pub is_then : slice_get new app ≡ Some then
  pub by : R was then

some_there : (xs ys : List Voting) (app : ℕ) → length ys ≡ length xs → ((v w : Voting) × (slice_get xs app ≡ Some v) × (slice_get ys app ≡ Some w)) ⊎ ((slice_get xs app ≡ None) × (slice_get ys app ≡ None))
some_there xs ys app size = elim (slice_get_cases xs app).1 [
  | inl here ↦ elim (slice_get_cases ys app).1 [
    | inl there ↦ inl (here.0, there.0, here.2, there.2)
    | inr past ↦ absurd (omega (arith, size, here.1, past.0))
  ]
  | inr past ↦ elim (slice_get_cases ys app).1 [
    | inl there ↦ absurd (omega (arith, size, there.1, past.0))
    | inr none ↦ inr (past.1, none.1)
  ]
]

pub at_here : (R : Voting → Voting → Type 0) (app : ℕ) (old new : List Voting) (o n : Voting) → CopiesAt R app old new → slice_get old app ≡ Some o → slice_get new app ≡ Some n → R o n
at_here R app old new o n at_app is_o is_n =
    let one = subst (λ (found : Option Voting). IfSome found (λ o. IfSome (slice_get new app) (λ n. R o n))) is_o at_app.here in
    subst (λ (found : Option Voting). IfSome found (λ n. R o n)) is_n one

pub found_at : (R : Voting → Voting → Type 0) (app : ℕ) (old new : List Voting) → CopiesAt R app old new → FoundAt R app old new ⊎ ((slice_get old app ≡ None) × (slice_get new app ≡ None))
found_at R app old new at_app = elim (some_there old new app at_app.size) [
  | inl some ↦ inl (record { was = some.0; then = some.1; is_was = some.2; is_then = some.3; by = at_here R app old new some.0 some.1 at_app some.2 some.3 })
  | inr none ↦ inr none
]

pub none_some : (xs : List Voting) (app : ℕ) (v : Voting) → slice_get xs app ≡ None → slice_get xs app ≡ Some v → ⊥
none_some xs app v none is = absurd (no v (sym none ∙ is))
  where
    no : (v : Voting) → None ≡ Some v → ⊥
    no v e = absurd cc

same_some : (v w : Voting) → Some v ≡ Some w → v ≡ w
same_some v w e = same_Some v w e

-- what is left of a call on the copies of one application
record Leaving {Own W : Type 0} (Tells : Type 0) (see : W → Seen Own) (x y : Linkage W) (o n : Voting) : Type 0 where
  first : n.first ≡ o.first
  three : n.three ≡ o.three
  leaves : Leaves Tells see o.three o.first x y

goes_leaving : {Own W : Type 0} (Tells : Type 0) (see : W → Seen Own) (bytes : List ℕ) (x y : Linkage W) (o n : Voting) → AppGoes Tells see bytes o n x y → Leaving Tells see x y o n
goes_leaving Tells see bytes x y o n goes = record { first = goes.first; three = goes.three; leaves = goes.leaves }

begins_leaving : {Own W : Type 0} (Tells : Type 0) (see : W → Seen Own) (x y : Linkage W) (o n : Voting) → AppBegins Tells see o n x y → Leaving Tells see x y o n
begins_leaving Tells see x y o n begins = record { first = begins.first; three = begins.three; leaves = begins.leaves }

pub at_weaker : (R S : Voting → Voting → Type 0) (app : ℕ) (old new : List Voting) → ((o n : Voting) → R o n → S o n) → CopiesAt R app old new → CopiesAt S app old new
at_weaker R S app old new weaker at_app = record {
  size = at_app.size;
  others = at_app.others;
  here = by (slice_get old app) (slice_get new app) at_app.here;
}
  where
    by : (found there : Option Voting) → IfSome found (λ o. IfSome there (λ n. R o n)) → IfSome found (λ o. IfSome there (λ n. S o n))
    by (Some o) (Some n) is = weaker o n is
    by (Some o) None is = tt
    by None there is = tt

at_running : {Own W : Type 0} (Tells : Type 0) (see : W → Seen Own) (app : ℕ) (x y : Linkage W) (old new : List Voting) → CopiesAt (λ o n. Leaving Tells see x y o n) app old new
    → (slice_get old app ≡ None → Rests Tells see x y) → y.running ≡ x.running
at_running {W = W} Tells see app x y old new at_app none = elim (found_at (λ o n. Leaving {W = W} Tells see x y o n) app old new at_app) [
  | inl found ↦ found.by.leaves.running
  | inr gone ↦ (none gone.0).running
]

at_moves : {Own W : Type 0} (Tells : Type 0) (see : W → Seen Own) (app : ℕ) (x y : Linkage W) (old new : List Voting) → CopiesAt (λ o n. Leaving Tells see x y o n) app old new
    → (slice_get old app ≡ None → Rests Tells see x y) → SameLives Tells (seen_of see x) (seen_of see y) → Moves Tells see app x y old new
unfolding given_by
at_moves {W = W} Tells see app x y old new at_app none own = record {
  numbers = λ i v is. elim (cases_eq i app) [
    | inl same ↦ elim (found_at (λ o n. Leaving {W = W} Tells see x y o n) app old new at_app) [
      | inl found ↦
          let v_is : found.then ≡ v = same_some found.then v (sym found.is_then ∙ subst (λ (k : ℕ). slice_get new k ≡ Some v) same is) in (
            found.was,
            subst (λ (k : ℕ). slice_get old k ≡ Some found.was) (sym same) found.is_was,
            ap (λ (v : Voting). v.first) (sym v_is) ∙ found.by.first,
            ap (λ (v : Voting). v.three) (sym v_is) ∙ found.by.three,
          )
      | inr gone ↦ absurd (none_some new app v gone.1 (subst (λ (k : ℕ). slice_get new k ≡ Some v) same is))
    ]
    | inr differ ↦ (v, sym (at_app.others i differ) ∙ is, refl, refl)
  ];
  others = at_app.others;
  inner = λ told n away. elim (found_at (λ o n. Leaving {W = W} Tells see x y o n) app old new at_app) [
    | inl found ↦ found.by.leaves.others told n (away found.was found.is_was)
    | inr gone ↦ (none gone.0).lives told n
  ];
  own = λ told i differ. own told i;
  running = λ i differ runs. sym (ap (is_among i) (at_running Tells see app x y old new at_app none)) ∙ runs;
}

-- ---- What this world shows stays

pub still_same : {Own : Type 0} (Tells : Type 0) (old new : Seen Own) → Still Tells old new → SameLives Tells old new
still_same Tells old new still = λ told n. ap (life_in n) (still.told told).0

pub shorted_same : {Own : Type 0} (Tells : Type 0) (old new : Seen Own) → Shorted Tells old new → SameLives Tells old new
shorted_same Tells old new shorted = λ told n. ap (life_in n) (shorted.told told).0

-- an application goes on, and gives these bytes, which this world tells or not
here_goes : {Own W : Type 0} (Tells : Type 0) (see : W → Seen Own) (app : ℕ) (bytes given_then : List ℕ) (x y : Linkage W) (old new : List Voting) → CopiesAt (λ o n. AppGoes Tells see bytes o n x y) app old new
    → Tells → y.running ≡ x.running → given_then ≡ given_by see app x ++ bytes → IsVotedOf see app x old
    → (v : Voting) → slice_get new app ≡ Some v → v.three ≡ true → is_among app y.running ≡ true → Backed v.first (given_then ++ v.left) v.ballot (see y.links).history
here_goes {W = W} Tells see app bytes given_then x y old new at_app told running given here = λ v is three runs. elim (found_at (λ o n. AppGoes {W = W} Tells see bytes o n x y) app old new at_app) [
  | inl found ↦
      let v_is : found.then ≡ v = same_some found.then v (sym found.is_then ∙ is) in
      let three_was : found.was.three ≡ true = sym found.by.three ∙ ap (λ (v : Voting). v.three) v_is ∙ three in
      let backed = found.by.backed told three_was (given_by see app x) (here found.was found.is_was three_was (sym (ap (is_among app) running) ∙ runs)) in
      subst (λ (w : Voting). Backed w.first (given_then ++ w.left) w.ballot (see y.links).history) v_is
      (subst (λ (n : ℕ). Backed n (given_then ++ found.then.left) found.then.ballot (see y.links).history) (sym found.by.first)
      (subst (λ (so_far : List ℕ). Backed found.was.first so_far found.then.ballot (see y.links).history)
      (sym (append_assoc (given_by see app x) bytes found.then.left) ∙ ap (λ (xs : List ℕ). xs ++ found.then.left) (sym given)) backed))
  | inr gone ↦ absurd (none_some new app v gone.1 is)
]

pub app_keeps : {Own W : Type 0} (Tells : Type 0) (see : W → Seen Own) (app : ℕ) (x y : Linkage W) (old new : List Voting) → CopiesAt (λ o n. AppGoes Tells see [] o n x y) app old new
    → (slice_get old app ≡ None → Rests Tells see x y) → SameLives Tells (seen_of see x) (seen_of see y) → Keeps Tells see x old y new
unfolding given_by
app_keeps {W = W} Tells see app x y old new at_app none own =
    let leaving = at_weaker (λ o n. AppGoes {W = W} Tells see [] o n x y) (λ o n. Leaving {W = W} Tells see x y o n) app old new (λ o n goes. goes_leaving Tells see [] x y o n goes) at_app in
    moves_keep Tells see app x y old new (at_moves Tells see app x y old new leaving none own)
    (λ told are here. here_goes Tells see app [] (given_by see app y) x y old new at_app told (at_running Tells see app x y old new leaving none) (own told app ∙ sym (append-nil (given_by see app x))) here)

-- ---- A start

pub began_keeps : {Own W : Type 0} (Tells : Type 0) (see : W → Seen Own) (app : ℕ) (x y : Linkage W) (old new : List Voting) → CopiesAt (λ o n. AppBegins Tells see o n x y) app old new
    → (slice_get old app ≡ None → Rests Tells see x y) → SameLives Tells (seen_of see x) (seen_of see y) → is_among app x.running ≡ false → Keeps Tells see x old y new
began_keeps {W = W} Tells see app x y old new at_app none own idle =
    let leaving = at_weaker (λ o n. AppBegins {W = W} Tells see o n x y) (λ o n. Leaving {W = W} Tells see x y o n) app old new (λ o n begins. begins_leaving Tells see x y o n begins) at_app in
    moves_keep Tells see app x y old new (at_moves Tells see app x y old new leaving none own)
    (λ told are here. idle_here see app y new (ap (is_among app) (at_running Tells see app x y old new leaving none) ∙ idle))

pub began_fresh : {Own W : Type 0} (Tells : Type 0) (see : W → Seen Own) (app : ℕ) (x y : Linkage W) (old new : List Voting) → CopiesAt (λ o n. AppBegins Tells see o n x y) app old new
    → AreNumbered old → Tells → IsFresh see app y new
began_fresh {W = W} Tells see app x y old new at_app are told = λ v is three. elim (found_at (λ o n. AppBegins {W = W} Tells see o n x y) app old new at_app) [
  | inl found ↦
      let v_is : found.then ≡ v = same_some found.then v (sym found.is_then ∙ is) in
      let begins = found.by in
      let three_was : found.was.three ≡ true = sym begins.three ∙ ap (λ (v : Voting). v.three) v_is ∙ three in
      let few = are.few app found.was found.is_was in
      let lives = lives_of found.was.first (see y.links).history in
      let backed : Backed found.was.first [] found.then.ballot (see y.links).history = record {
        few = few;
        two = inl ((lives.first, refl), (lives.second, refl));
        follow = begins.fresh told three_was few;
      } in (
        subst (λ (w : Voting). Backed w.first [] w.ballot (see y.links).history) v_is (subst (λ (n : ℕ). Backed n [] found.then.ballot (see y.links).history) (sym begins.first) backed),
        ap (λ (w : Voting). w.left) (sym v_is) ∙ begins.left,
      )
  | inr gone ↦ absurd (none_some new app v gone.1 is)
]

among_last : (i app : ℕ) (xs : List ℕ) → i ≢ app → is_among i (xs ++ app ∷ []) ≡ true → is_among i xs ≡ true
among_last i app [] differ is = absurd (false≢true (sym (rw (ne_eqb app i (λ e. differ (sym e))) refl) ∙ is))
among_last i app (x ∷ xs) differ is = elim (cases_Bool (x == i)) [
  | inl here ↦ rw here refl
  | inr other ↦ rw other (among_last i app xs differ (rw other at is))
]

pub started_keeps : {Own W T : Type 0} (Tells : Type 0) (see : W → Seen Own) (app : ℕ) (x y : Linkage W) (copies : List Voting) (result : Result T StartFault)
    → Starts Tells app (seen_of see x) (seen_of see y) result → y.links ≡ x.links → y.running ≡ running_after app result x.running → (Tells → IsFresh see app x copies) → Keeps Tells see x copies y copies
unfolding given_by
started_keeps Tells see app x y copies (Ok z) seen links running fresh =
    moves_keep Tells see app x y copies copies (record {
      numbers = same_numbers copies;
      others = λ i differ. refl;
      inner = λ told n away. same_links Tells see x y links told n;
      own = λ told i differ. starts_others Tells app _ _ (Ok z) seen told i differ;
      running = λ i differ runs. among_last i app x.running differ (sym (ap (is_among i) running) ∙ runs);
    }) (λ told are here. λ v is three runs.
    let first = fresh told v is three in
    let nothing : life_in app (seen_of see y).history ++ v.left ≡ [] = ap (λ (xs : List ℕ). xs ++ v.left) (starts_fresh Tells app _ _ z seen told) ∙ first.1 in
    subst (λ (so_far : List ℕ). Backed v.first so_far v.ballot (see y.links).history) (sym nothing)
    (backed_same v.first [] v.ballot (see x.links).history (see y.links).history (λ place. same_links Tells see x y links told (copy_number v.first place)) first.0))
started_keeps Tells see app x y copies (Err fault) seen links running fresh = links_keep Tells see x y copies (same_links Tells see x y links) (starts_failed Tells app _ _ fault seen) running

-- ---- An end

among_more : (i app : ℕ) (xs : List ℕ) → is_among i (running_without app xs) ≡ true → is_among i xs ≡ true
among_more i app [] is = is
among_more i app (a ∷ rest) is = elim (cases_Bool (a == i)) [
  | inl here ↦ rw here refl
  | inr other ↦ rw other (elim (cases_Bool (a == app)) [
    | inl out ↦ among_more i app rest (rw out at is)
    | inr kept ↦ among_more i app rest (rw other at (rw kept at is))
  ])
]

pub ended_keeps : {Own W : Type 0} (Tells : Type 0) (see : W → Seen Own) (app : ℕ) (x y : Linkage W) (copies : List Voting)
    → Ends Tells app (seen_of see x) (seen_of see y) → y.links ≡ x.links → y.running ≡ running_without app x.running → Keeps Tells see x copies y copies
unfolding given_by
ended_keeps Tells see app x y copies seen links running =
    moves_keep Tells see app x y copies copies (record {
      numbers = same_numbers copies;
      others = λ i differ. refl;
      inner = λ told n away. same_links Tells see x y links told n;
      own = λ told i differ. ends_same Tells app _ _ seen told i;
      running = λ i differ runs. among_more i app x.running (sym (ap (is_among i) running) ∙ runs);
    }) (λ told are here. idle_here see app y copies (ap (is_among app) running ∙ none_runs app x.running))

-- ---- Bytes taken

given_taken : {Own W : Type 0} (Tells : Type 0) (see : W → Seen Own) (app : ℕ) (what : TookWhat) (x y z : Linkage W) (taken : Taken) (buf : List ℕ) (room : ℕ)
    → SameLives Tells (seen_of see x) (seen_of see y) → Takes Tells app (seen_of see y) (seen_of see z) (Ok taken) buf
    → take_steps app (Ok taken) buf ≡ TookInto app what room ∷ [] → Tells → given_by see app z ≡ given_by see app x ++ bytes_in what
unfolding given_by
given_taken Tells see app what x y z taken buf room own seen steps told =
    takes_more Tells app _ _ (Ok taken) buf seen told
    ∙ ap (λ (xs : List ℕ). life_in app (seen_of see y).history ++ xs) (taken_is app (Ok taken) buf what room steps)
    ∙ ap (λ (xs : List ℕ). xs ++ bytes_in what) (own told app)

pub took_steps : {Own W : Type 0} (Tells : Type 0) (see : W → Seen Own) (app : ℕ) (what : TookWhat) (x y : Linkage W) (old new : List Voting) (taken : Taken) (buf : List ℕ) (room : ℕ)
    → CopiesAt (λ o n. AppGoes Tells see (bytes_in what) o n x y) app old new → (slice_get old app ≡ None → Rests Tells see x y) → is_among app x.running ≡ true
    → take_steps app (Ok taken) buf ≡ TookInto app (in_place (is_among app y.running) what) room ∷ [] → take_steps app (Ok taken) buf ≡ TookInto app what room ∷ []
took_steps {W = W} Tells see app what x y old new taken buf room at_app none runs steps =
    let leaving = at_weaker (λ o n. AppGoes {W = W} Tells see (bytes_in what) o n x y) (λ o n. Leaving {W = W} Tells see x y o n) app old new (λ o n goes. goes_leaving Tells see (bytes_in what) x y o n goes) at_app in
    steps ∙ ap (λ (b : Bool). TookInto app (in_place b what) room ∷ []) (ap (is_among app) (at_running Tells see app x y old new leaving none) ∙ runs)

pub took_keeps : {Own W : Type 0} (Tells : Type 0) (see : W → Seen Own) (app : ℕ) (what : TookWhat) (x y z : Linkage W) (old new : List Voting) (taken : Taken) (buf : List ℕ) (room : ℕ)
    → CopiesAt (λ o n. AppGoes Tells see (bytes_in what) o n x y) app old new → (slice_get old app ≡ None → Rests Tells see x y) → SameLives Tells (seen_of see x) (seen_of see y)
    → Takes Tells app (seen_of see y) (seen_of see z) (Ok taken) buf → take_steps app (Ok taken) buf ≡ TookInto app what room ∷ [] → z.links ≡ y.links → z.running ≡ y.running → Keeps Tells see x old z new
unfolding given_by
took_keeps {W = W} Tells see app what x y z old new taken buf room at_app none own seen steps links running =
    let leaving = at_weaker (λ o n. AppGoes {W = W} Tells see (bytes_in what) o n x y) (λ o n. Leaving {W = W} Tells see x y o n) app old new (λ o n goes. goes_leaving Tells see (bytes_in what) x y o n goes) at_app in
    let one = at_moves Tells see app x y old new leaving none own in
    let two : Moves {W = W} Tells see app y z new new = record {
      numbers = same_numbers new;
      others = λ i differ. refl;
      inner = λ told n away. same_links Tells see y z links told n;
      own = λ told i differ. takes_others Tells app _ _ (Ok taken) buf seen told i differ;
      running = λ i differ runs. sym (ap (is_among i) running) ∙ runs;
    } in
    moves_keep Tells see app x z old new (moves_twice Tells see app x y z old new new one two)
    (λ told are here. λ v is three runs.
    backed_same v.first (given_by see app z ++ v.left) v.ballot (see y.links).history (see z.links).history (λ place. same_links Tells see y z links told (copy_number v.first place))
    (here_goes Tells see app (bytes_in what) (given_by see app z) x y old new at_app told (at_running Tells see app x y old new leaving none)
    (given_taken Tells see app what x y z taken buf room own seen steps told) here v is three (sym (ap (is_among app) running) ∙ runs)))

pub took_votes : {Own W : Type 0} (Tells : Type 0) (see : W → Seen Own) (app : ℕ) (what : TookWhat) (x y z : Linkage W) (old new : List Voting) (taken : Taken) (buf : List ℕ) (room : ℕ)
    → CopiesAt (λ o n. AppGoes Tells see (bytes_in what) o n x y) app old new → CopiesAt (λ o n. IsPolled Tells see (bytes_in what) o n x y) app old new
    → (slice_get old app ≡ None → Rests Tells see x y) → SameLives Tells (seen_of see x) (seen_of see y)
    → Takes Tells app (seen_of see y) (seen_of see z) (Ok taken) buf → take_steps app (Ok taken) buf ≡ TookInto app what room ∷ [] → z.links ≡ y.links → z.running ≡ y.running
    → IsVotings Tells see (record { linked = x; copies = old })
    → Tells → TakesOf see app (taken_in (Ok taken) buf) (record { linked = x; copies = old }) (record { linked = z; copies = new })
took_votes {W = W} Tells see app what x y z old new taken buf room at_app polled none own seen steps links running are told o n is_o is_n three runs =
    let goes = at_here (λ o n. AppGoes {W = W} Tells see (bytes_in what) o n x y) app old new o n at_app is_o is_n in
    let polls = at_here (λ o n. IsPolled {W = W} Tells see (bytes_in what) o n x y) app old new o n polled is_o is_n in
    let same = taken_is app (Ok taken) buf what room steps in
    let kept = took_keeps Tells see app what x y z old new taken buf room at_app none own seen steps links running are in
    let leaving = at_weaker (λ o n. AppGoes {W = W} Tells see (bytes_in what) o n x y) (λ o n. Leaving {W = W} Tells see x y o n) app old new (λ o n goes. goes_leaving Tells see (bytes_in what) x y o n goes) at_app in
    let runs_then : is_among app z.running ≡ true = ap (is_among app) (running ∙ at_running Tells see app x y old new leaving none) ∙ runs in
    record {
      given = given_taken Tells see app what x y z taken buf room own seen steps told ∙ ap (λ (xs : List ℕ). given_by see app x ++ xs) (sym same);
      polls = subst (λ (bytes : List ℕ). Polls (given_by see app x) bytes (lives_of o.first (see z.links).history) o n) (sym same)
          (subst (λ (w : _). Polls (given_by see app x) (bytes_in what) (lives_of o.first (see w).history) o n) (sym links)
          (polls told three (given_by see app x) (are.voted told app o is_o three runs)));
      backed = subst (λ (k : ℕ). Backed k (given_by see app z ++ n.left) n.ballot (see z.links).history) goes.first
          (kept.voted told app n is_n (goes.three ∙ three) runs_then);
    }

-- ---- A new world

numbers_of : (first : ℕ) (ns : List ℕ) (i : ℕ) (v : Voting) → slice_get (numbered first ns) i ≡ Some v → (first ≤ v.first) × (v.first + copies_in v.three ≤ first + 3 * length ns)
numbers_of first [] i v is = absurd cc
numbers_of first (n ∷ ns) zero v is =
    let v_is = same_some _ v is in
    (omega (arith, ap (λ (v : Voting). v.first) v_is), by (n == 3) (ap (λ (v : Voting). v.three) v_is) (ap (λ (v : Voting). v.first) v_is))
  where
    by : (three : Bool) → three ≡ v.three → first ≡ v.first → v.first + copies_in v.three ≤ first + 3 * length (n ∷ ns)
    by true three same = rw (← three) (omega (arith, same))
    by false three same = rw (← three) (omega (arith, same))
numbers_of first (n ∷ ns) (suc i) v is =
    let rest = numbers_of (first + copies_in (n == 3)) ns i v is in
    by (n == 3) rest.0 rest.1
  where
    by : (three : Bool) → first + copies_in three ≤ v.first → v.first + copies_in v.three ≤ (first + copies_in three) + 3 * length ns → (first ≤ v.first) × (v.first + copies_in v.three ≤ first + 3 * length (n ∷ ns))
    by true least most = (omega (arith, least), omega (arith, most))
    by false least most = (omega (arith, least), omega (arith, most))

numbers_apart : (first : ℕ) (ns : List ℕ) (i j : ℕ) (v w : Voting) → i < j → slice_get (numbered first ns) i ≡ Some v → slice_get (numbered first ns) j ≡ Some w → v.first + copies_in v.three ≤ w.first
numbers_apart first [] i j v w less is_v is_w = absurd cc
numbers_apart first (n ∷ ns) i zero v w less is_v is_w = absurd (omega (arith, less))
numbers_apart first (n ∷ ns) zero (suc j) v w less is_v is_w =
    let v_is = same_some _ v is_v in
    subst (λ (v : Voting). v.first + copies_in v.three ≤ w.first) v_is (numbers_of (first + copies_in (n == 3)) ns j w is_w).0
numbers_apart first (n ∷ ns) (suc i) (suc j) v w less is_v is_w = numbers_apart (first + copies_in (n == 3)) ns i j v w (omega (arith, less)) is_v is_w

some_copies : (three : Bool) → 1 ≤ copies_in three
some_copies true = omega arith
some_copies false = omega arith

pub new_votings : {Own W : Type 0} (Tells : Type 0) (see : W → Seen Own) (x : Linkage W) (copies : List Voting) (ns : List ℕ) → x.running ≡ [] → copies ≡ numbered 0 ns → length ns ≤ 32
    → IsVotings Tells see (record { linked = x; copies = copies })
new_votings Tells see x copies ns none same few = record {
  numbered = subst AreNumbered (sym same) (record {
    few = λ i v is. omega (arith, few, some_copies v.three, (numbers_of 0 ns i v is).1);
    apart = λ i j v w less is_v is_w. numbers_apart 0 ns i j v w less is_v is_w;
  });
  voted = λ told app. idle_here see app x copies (ap (is_among app) none);
}
