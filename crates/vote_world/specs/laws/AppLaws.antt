-- What an application gives stays backed by its copies.
use Rattle.std.specs.Prelude.{◌≡◌, ℕ, Bool, true, false, List, [], ◌++◌, Result, Ok, Err, IfOk, OnErr, refl}
use Rattle.std.proofs.Common.{sym, ap, ◌∙◌, subst, append_assoc, inl, inr}
use Rattle.std.proofs.lemmas.Bool.{false≢true}
use Rattle.std.proofs.lemmas.List.{append-nil}
use Rattle.frame_votes.specs.declared.ballot.Place.{Place}
use Rattle.frame_votes.specs.declared.ballot.Place.TheVariants.{First, Second, Third}
use Rattle.frame_votes.specs.Votes.{Polled}
use Rattle.frame_votes.specs.laws.VoteLaws.{Lives, AllFollow, Begins as Front, TwoBegin}
use Rattle.of_types.specs.declared.journal.TookWhat.{TookWhat}
use Rattle.of_types.specs.declared.journal.TookWhat.TheVariants as took
use Rattle.outside.specs.declared.faults.Short.{Short}
use Rattle.outside.specs.declared.step.WorldStep.{WorldStep}
use Rattle.outside.specs.Seen.{Seen}
use Rattle.linked_world.specs.Linked.{Linkage}
use Rattle.vote_world.specs.Voting.{Voting, copy_number, none_in, Passes}
use Rattle.vote_world.specs.Lives.{life_in, lives_of, Backed, Rests, Touches, Leaves, NoneEnters, AppGoes, Polls, IsPolled, bytes_in, what_in}
use Rattle.vote_world.specs.laws.BackedLaws.{goes_stay, none_stay, none_less, all_stay_enters}

-- ---- Other lives

rests_leave : {Own W : Type 0} (Tells : Type 0) (see : W → Seen Own) (three : Bool) (first : ℕ) (x y : Linkage W) → Rests Tells see x y → Leaves Tells see three first x y
rests_leave Tells see three first x y rests = record { others = λ told n elsewhere. rests.lives told n; running = rests.running }

pub leaves_twice : {Own W : Type 0} (Tells : Type 0) (see : W → Seen Own) (three : Bool) (first : ℕ) (x y z : Linkage W)
    → Leaves Tells see three first x y → Leaves Tells see three first y z → Leaves Tells see three first x z
leaves_twice Tells see three first x y z one two = record { others = λ told n elsewhere. two.others told n elsewhere ∙ one.others told n elsewhere; running = two.running ∙ one.running }

pub leaves_rest : {Own W : Type 0} (Tells : Type 0) (see : W → Seen Own) (three : Bool) (first : ℕ) (x y z : Linkage W)
    → Leaves Tells see three first x y → Rests Tells see y z → Leaves Tells see three first x z
leaves_rest Tells see three first x y z one two = leaves_twice Tells see three first x y z one (rests_leave Tells see three first y z two)

pub touches_place : {Own W : Type 0} (Tells : Type 0) (see : W → Seen Own) (place : Place) (first : ℕ) (x y : Linkage W) → Touches Tells see (copy_number first place) x y → Leaves Tells see true first x y
touches_place Tells see place first x y touches = record { others = λ told n apart. touches.others told n (apart place); running = touches.running }

pub touches_first : {Own W : Type 0} (Tells : Type 0) (see : W → Seen Own) (three : Bool) (first : ℕ) (x y : Linkage W) → Touches Tells see first x y → Leaves Tells see three first x y
touches_first Tells see true first x y touches = record { others = λ told n apart. touches.others told n (apart First); running = touches.running }
touches_first Tells see false first x y touches = record { others = λ told n other. touches.others told n other; running = touches.running }

-- ---- Nothing is given

same_backed : (first : ℕ) (so_far then_so_far : List ℕ) (ballot : Polled) (history : List WorldStep) → then_so_far ≡ so_far → Backed first so_far ballot history → Backed first then_so_far ballot history
same_backed first so_far then_so_far ballot history same backed = subst (λ (xs : List ℕ). Backed first xs ballot history) (sym same) backed

shorter : (front more life : List ℕ) → Front (front ++ more) life → Front front life
shorter front more life begins = (more ++ begins.0, begins.1 ∙ append_assoc front more begins.0)

two_shorter : (front more : List ℕ) (lives : Lives) → TwoBegin (front ++ more) lives → TwoBegin front lives
two_shorter front more lives two = elim two [
  | inl has ↦ inl (shorter front more lives.first has.0, shorter front more lives.second has.1)
  | inr rest ↦ elim rest [
    | inl has ↦ inr (inl (shorter front more lives.first has.0, shorter front more lives.third has.1))
    | inr has ↦ inr (inr (shorter front more lives.second has.0, shorter front more lives.third has.1))
  ]
]

pub none_follow : (so_far : List ℕ) (lives : Lives) → AllFollow so_far lives none_in
none_follow so_far lives = record { first = λ is. absurd (false≢true is); second = λ is. absurd (false≢true is); third = λ is. absurd (false≢true is) }

ended_backed : (first : ℕ) (given left : List ℕ) (ballot : Polled) (history : List WorldStep) → Backed first (given ++ left) ballot history → Backed first (given ++ []) none_in history
ended_backed first given left ballot history backed = same_backed first given (given ++ []) none_in history (append-nil given) (record {
  few = backed.few;
  two = two_shorter given left (lives_of first history) backed.two;
  follow = none_follow given (lives_of first history);
})

pub ends_app : {Own W : Type 0} (Tells : Type 0) (see : W → Seen Own) (old new : Voting) (x y : Linkage W)
    → new ≡ (record old { ballot = none_in; left = [] }) → Rests Tells see x y → AppGoes Tells see [] old new x y
ends_app Tells see old new x y is rests = record {
  first = ap (λ (v : Voting). v.first) is;
  three = ap (λ (v : Voting). v.three) is;
  backed = λ told three given backed.
      let stays = none_less old.first (given ++ old.left) none_in (see y.links).history
      ((goes_stay Tells see old.first old.ballot none_in x y (none_stay old.ballot none_in refl) rests).backed told (given ++ old.left) backed) in
      subst (λ (v : Voting). Backed old.first (given ++ v.left) v.ballot (see y.links).history) (sym is) (ended_backed old.first given old.left none_in (see y.links).history stays);
  leaves = rests_leave Tells see old.three old.first x y rests;
  none_enters = subst (λ (v : Voting). NoneEnters old.ballot v.ballot) (sym is) (all_stay_enters old.ballot none_in (none_stay old.ballot none_in refl));
}

-- ---- A vote

-- ---- Taken

passed : (old new : Voting) (what : TookWhat) → Passes old new what → (bytes_in what ++ new.left ≡ old.left) × (new ≡ (record old { left = new.left }))
passed old new (took.Bytes bytes) passes = (sym passes.0, passes.1)
passed old new took.Closed passes = (ap (λ (v : Voting). v.left) passes.1, passes.1 ∙ ap (λ (left : List ℕ). record old { left = left }) (sym (ap (λ (v : Voting). v.left) passes.1)))
passed old new took.Silent passes = (ap (λ (v : Voting). v.left) passes.1, passes.1 ∙ ap (λ (left : List ℕ). record old { left = left }) (sym (ap (λ (v : Voting). v.left) passes.1)))

taken_goes : {Own W : Type 0} (Tells : Type 0) (see : W → Seen Own) (bytes : List ℕ) (old mid new : Voting) (x y z : Linkage W) → AppGoes Tells see [] old mid x y
    → bytes ++ new.left ≡ mid.left → new ≡ (record mid { left = new.left }) → Rests Tells see y z → AppGoes Tells see bytes old new x z
taken_goes Tells see bytes old mid new x y z goes same is rests = record {
  first = ap (λ (v : Voting). v.first) is ∙ goes.first;
  three = ap (λ (v : Voting). v.three) is ∙ goes.three;
  backed = λ told three given backed.
      let stays = none_less old.first (given ++ mid.left) mid.ballot (see z.links).history
      ((goes_stay Tells see old.first mid.ballot mid.ballot y z (record { first = inl refl; second = inl refl; third = inl refl }) rests).backed told (given ++ mid.left) (goes.backed told three given backed)) in
      subst (λ (p : Polled). Backed old.first (given ++ (bytes ++ new.left)) p (see z.links).history) (sym (ap (λ (v : Voting). v.ballot) is))
      (same_backed old.first (given ++ mid.left) (given ++ (bytes ++ new.left)) mid.ballot (see z.links).history (ap (λ (xs : List ℕ). given ++ xs) same) stays);
  leaves = leaves_rest Tells see old.three old.first x y z goes.leaves rests;
  none_enters = subst (λ (p : Polled). NoneEnters old.ballot p) (sym (ap (λ (v : Voting). v.ballot) is)) goes.none_enters;
}

pub took_goes : {Own W : Type 0} (Tells : Type 0) (see : W → Seen Own) (old mid new : Voting) (x y z : Linkage W) (result : Result TookWhat Short) → AppGoes Tells see [] old mid x y
    → IfOk result (λ what. Passes mid new what) → OnErr result (new ≡ mid) → Rests Tells see y z → AppGoes Tells see (what_in result) old new x z
took_goes Tells see old mid new x y z (Ok what) goes passes err rests =
    let pass = passed mid new what passes in
    taken_goes Tells see (bytes_in what) old mid new x y z goes pass.0 pass.1 rests
took_goes Tells see old mid new x y z (Err short) goes passes err rests =
    taken_goes Tells see [] old mid new x y z goes (ap (λ (v : Voting). v.left) err) (err ∙ ap (λ (left : List ℕ). record mid { left = left }) (sym (ap (λ (v : Voting). v.left) err))) rests

-- ---- What was voted

same_lives : {Own W : Type 0} (Tells : Type 0) (see : W → Seen Own) (first : ℕ) (y z : Linkage W) → Rests Tells see y z → Tells → lives_of first (see z.links).history ≡ lives_of first (see y.links).history
same_lives Tells see first y z rests told =
    ap (λ (life : List ℕ). record {
      first = life;
      second = life_in (copy_number first Second) (see z.links).history;
      third = life_in (copy_number first Third) (see z.links).history;
    }) (rests.lives told (copy_number first First))
    ∙ ap (λ (life : List ℕ). record {
      first = life_in (copy_number first First) (see y.links).history;
      second = life;
      third = life_in (copy_number first Third) (see z.links).history;
    }) (rests.lives told (copy_number first Second))
    ∙ ap (λ (life : List ℕ). record {
      first = life_in (copy_number first First) (see y.links).history;
      second = life_in (copy_number first Second) (see y.links).history;
      third = life;
    }) (rests.lives told (copy_number first Third))

polls_pass : (given bytes : List ℕ) (lives : Lives) (old mid new : Voting) → Polls given [] lives old mid → bytes ++ new.left ≡ mid.left → new ≡ (record mid { left = new.left }) → Polls given bytes lives old new
polls_pass given bytes lives old mid new polls same is = record {
  waits = λ some. (same ∙ (polls.waits some).0, ap (λ (v : Voting). v.ballot) is ∙ (polls.waits some).1);
  votes = λ none. same ∙ polls.votes none;
  ballot = λ none. ap (λ (v : Voting). v.ballot) is ∙ polls.ballot none;
}

pub polls_taken : {Own W : Type 0} (Tells : Type 0) (see : W → Seen Own) (old mid new : Voting) (x y z : Linkage W) (result : Result TookWhat Short) → IsPolled Tells see [] old mid x y
    → IfOk result (λ what. Passes mid new what) → Rests Tells see y z → IfOk result (λ what. IsPolled Tells see (bytes_in what) old new x z)
polls_taken Tells see old mid new x y z (Ok what) polls passes rests = λ told three given backed.
    let pass = passed mid new what passes in
    subst (λ (lives : Lives). Polls given (bytes_in what) lives old new) (sym (same_lives Tells see old.first y z rests told))
    (polls_pass given (bytes_in what) (lives_of old.first (see y.links).history) old mid new (polls told three given backed) pass.0 pass.1)
polls_taken Tells see old mid new x y z (Err short) polls passes rests = tt

-- ---- A start

pub leaves_three : {Own W : Type 0} (Tells : Type 0) (see : W → Seen Own) (three : Bool) (first : ℕ) (x y z : Linkage W) → three ≡ true
    → Touches Tells see (copy_number first First) x y → Leaves Tells see true first y z → Leaves Tells see three first x z
leaves_three {W = W} Tells see three first x y z is touches leaves =
    subst (λ (t : Bool). Leaves {W = W} Tells see t first x z) (sym is) (leaves_twice Tells see true first x y z (touches_place Tells see First first x y touches) leaves)
