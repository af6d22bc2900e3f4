-- Which copies are in after a call.
use Rattle.std.specs.Prelude.{◌≡◌, ◌≢◌, ℕ, Bool, true, false, not, ◌&&◌, List, [], length, Option, Some, None, Result, Ok, Err, IfSome, IfOk, IsOk, IsErr, IsErrOf, is_ok, slice_get, refl}
use Rattle.std.proofs.Common.{sym, ap, ◌∙◌, subst, inl, inr}
use Rattle.std.proofs.lemmas.Bool.{false≢true, and_parts}
use Rattle.outside.specs.declared.faults.Short.{Short}
use Rattle.outside.specs.declared.faults.StartFault.{StartFault}
use Rattle.outside.specs.declared.faults.StartFault.TheVariants as starting
use Rattle.outside.specs.declared.faults.GiveFault.{GiveFault}
use Rattle.outside.specs.declared.faults.GiveFault.TheVariants as giving
use Rattle.outside.specs.Seen.{Seen}
use Rattle.linked_world.specs.Linked.{Linkage}
use Rattle.vote_world.specs.Voting.{Voting, is_enough, none_in}
use Rattle.vote_world.specs.Lives.{NoneEnters, AppGoes, AppBegins}
use Rattle.vote_world.specs.World.{CopiesAt, Remains, Answers, StartsTo, GivesTo, IsEnded, BegunTo, GivenTo, wants_memory}
use Rattle.vote_world.specs.laws.BackedLaws.{enters_none, enters_twice, all_stay_enters, none_stay}
use Rattle.vote_world.specs.laws.WorldLaws.{found_at, none_some, at_here, at_weaker}

-- ---- One application

-- one application became another one, and then another one again
at_twice : (R S T : Voting → Voting → Type 0) (app : ℕ) (a b c : List Voting) → ((o m n : Voting) → slice_get b app ≡ Some m → R o m → S m n → T o n) → CopiesAt R app a b → CopiesAt S app b c → CopiesAt T app a c
at_twice R S T app a b c both one two = record {
  size = two.size ∙ one.size;
  others = λ i differ. two.others i differ ∙ one.others i differ;
  here = elim (found_at R app a b one) [
    | inl first ↦ elim (found_at S app b c two) [
      | inl second ↦
          let same : slice_get b app ≡ Some first.then = first.is_then in
          placed first.was second.then first.is_was second.is_then (both first.was first.then second.then same first.by (at_here S app b c first.then second.then two same second.is_then))
      | inr gone ↦ absurd (none_some b app first.then gone.0 first.is_then)
    ]
    | inr none ↦ subst (λ (found : Option Voting). IfSome found (λ o. IfSome (slice_get c app) (λ n. T o n))) (sym none.0) tt
  ];
}
  where
    placed : (o n : Voting) → slice_get a app ≡ Some o → slice_get c app ≡ Some n → T o n → IfSome (slice_get a app) (λ o. IfSome (slice_get c app) (λ n. T o n))
    placed o n is_o is_n by =
        subst (λ (found : Option Voting). IfSome found (λ o. IfSome (slice_get c app) (λ n. T o n))) (sym is_o)
        (subst (λ (found : Option Voting). IfSome found (λ n. T o n)) (sym is_n) by)

remains_same : (v : Voting) → Remains v v
remains_same v = record { first = refl; three = refl; none_enters = enters_none v.ballot }

pub at_same : (app : ℕ) (copies : List Voting) → CopiesAt Remains app copies copies
at_same app copies = record { size = refl; others = λ i differ. refl; here = by (slice_get copies app) }
  where
    by : (found : Option Voting) → IfSome found (λ o. IfSome found (λ n. Remains o n))
    by (Some v) = remains_same v
    by None = tt

remains_ended : (o m n : Voting) → Remains o m → IsEnded m n → Remains o n
remains_ended o m n remains ended = record {
  first = ap (λ (v : Voting). v.first) ended ∙ remains.first;
  three = ap (λ (v : Voting). v.three) ended ∙ remains.three;
  none_enters = subst (λ (v : Voting). NoneEnters o.ballot v.ballot) (sym ended) (all_stay_enters o.ballot none_in (none_stay o.ballot none_in refl));
}

-- ---- Taken

pub goes_remain : {Own W : Type 0} (Tells : Type 0) (see : W → Seen Own) (app : ℕ) (bytes : List ℕ) (x y : Linkage W) (old new : List Voting)
    → CopiesAt (λ o n. AppGoes Tells see bytes o n x y) app old new → CopiesAt Remains app old new
goes_remain {W = W} Tells see app bytes x y old new at_app =
    at_weaker (λ o n. AppGoes {W = W} Tells see bytes o n x y) Remains app old new (λ o n goes. record { first = goes.first; three = goes.three; none_enters = goes.none_enters }) at_app

-- ---- A start

-- what a start leaves of one application before it is answered
record Begun (result : Result Bool Short) (o n : Voting) : Type 0 where
  first : n.first ≡ o.first
  three : n.three ≡ o.three
  left : n.left ≡ []
  answers : Answers result n

begins_begun : {Own W : Type 0} (Tells : Type 0) (see : W → Seen Own) (app : ℕ) (result : Result Bool Short) (x y : Linkage W) (old new : List Voting)
    → CopiesAt (λ o n. AppBegins Tells see o n x y) app old new → IfSome (slice_get new app) (λ n. Answers result n) → CopiesAt (Begun result) app old new
begins_begun {W = W} Tells see app result x y old new at_app answers = record { size = at_app.size; others = at_app.others; here = by (slice_get old app) (slice_get new app) at_app.here answers }
  where
    by : (found there : Option Voting) → IfSome found (λ o. IfSome there (λ n. AppBegins {W = W} Tells see o n x y)) → IfSome there (λ n. Answers result n) → IfSome found (λ o. IfSome there (λ n. Begun result o n))
    by (Some o) (Some n) begins answers = record { first = begins.first; three = begins.three; left = begins.left; answers = answers }
    by (Some o) None begins answers = tt
    by None there begins answers = tt

and_true : (a b : Bool) → b ≡ true → (a && b) ≡ false → a ≡ false
and_true true b holds fails = absurd (false≢true (sym fails ∙ holds))
and_true false b holds fails = refl

pub begun_to : (ready idle stands : Bool) (result : Result (Unit {0}) StartFault) (app : ℕ) (old new : List Voting) → (IsOk result → (ready && idle) ≡ true) → stands ≡ is_ok result → (stands ≡ true → new ≡ old)
    → (stands ≡ false → CopiesAt IsEnded app old new) → BegunTo ready result app old new
begun_to ready idle stands (Ok x) app old new ok is stand end = record { enough = λ started. (and_parts ready idle (ok started)).0; stand = λ started. stand is; end = λ failed. absurd (false≢true failed) }
begun_to ready idle stands (Err fault) app old new ok is stand end = record { enough = λ started. absurd (false≢true started); stand = λ started. absurd (false≢true started); end = λ failed. end is }

pub starts_to : {Own W : Type 0} (Tells : Type 0) (see : W → Seen Own) (app : ℕ) (ready : Bool) (result : Result (Unit {0}) StartFault) (x y : Linkage W) (a b c : List Voting)
    → CopiesAt (λ o n. AppBegins Tells see o n x y) app a b → IfSome (slice_get b app) (λ n. Answers (Ok ready) n) → BegunTo ready result app b c → CopiesAt (StartsTo result) app a c
starts_to Tells see app ready (Ok z) x y a b c at_app answers begun =
    subst (λ (copies : List Voting). CopiesAt (StartsTo (Ok z)) app a copies) (sym (begun.stand refl))
    (at_weaker (Begun (Ok ready)) (StartsTo (Ok z)) app a b (λ o n is. record {
      first = is.first;
      three = is.three;
      left = is.left;
      started = λ ok. sym is.answers.enough ∙ begun.enough refl;
      refused = λ err. absurd (false≢true err);
    }) (begins_begun Tells see app (Ok ready) x y a b at_app answers))
starts_to Tells see app ready (Err fault) x y a b c at_app answers begun =
    at_twice (Begun (Ok ready)) IsEnded (StartsTo (Err fault)) app a b c (λ o m n at_m is ended. record {
      first = ap (λ (v : Voting). v.first) ended ∙ is.first;
      three = ap (λ (v : Voting). v.three) ended ∙ is.three;
      left = ap (λ (v : Voting). v.left) ended;
      started = λ ok. absurd (false≢true ok);
      refused = λ err. ap (λ (v : Voting). v.ballot) ended;
    }) (begins_begun Tells see app (Ok ready) x y a b at_app answers) (begun.end refl)

pub starts_short : {Own W : Type 0} (Tells : Type 0) (see : W → Seen Own) (app : ℕ) (short : Short) (x y : Linkage W) (a b : List Voting)
    → CopiesAt (λ o n. AppBegins Tells see o n x y) app a b → IfSome (slice_get b app) (λ n. Answers (Err short) n) → CopiesAt (StartsTo (Err starting.Short)) app a b
starts_short Tells see app short x y a b at_app answers =
    at_weaker (Begun (Err short)) (StartsTo (Err starting.Short)) app a b (λ o n is. record {
      first = is.first;
      three = is.three;
      left = is.left;
      started = λ ok. absurd (false≢true ok);
      refused = λ err. is.answers.short;
    }) (begins_begun Tells see app (Err short) x y a b at_app answers)

-- ---- Bytes given

-- what a gift leaves of one application before it is answered
record Gifted (result : Result Bool Short) (o n : Voting) : Type 0 where
  remains : Remains o n
  answers : Answers result n

goes_gifted : {Own W : Type 0} (Tells : Type 0) (see : W → Seen Own) (app : ℕ) (result : Result Bool Short) (x y : Linkage W) (old new : List Voting)
    → CopiesAt (λ o n. AppGoes Tells see [] o n x y) app old new → IfSome (slice_get new app) (λ n. Answers result n) → CopiesAt (Gifted result) app old new
goes_gifted {W = W} Tells see app result x y old new at_app answers = record { size = at_app.size; others = at_app.others; here = by (slice_get old app) (slice_get new app) at_app.here answers }
  where
    by : (found there : Option Voting) → IfSome found (λ o. IfSome there (λ n. AppGoes {W = W} Tells see [] o n x y)) → IfSome there (λ n. Answers result n) → IfSome found (λ o. IfSome there (λ n. Gifted result o n))
    by (Some o) (Some n) goes answers = record { remains = record { first = goes.first; three = goes.three; none_enters = goes.none_enters }; answers = answers }
    by (Some o) None goes answers = tt
    by None there goes answers = tt

pub given_to : (enough runs short : Bool) (result : Result (Unit {0}) GiveFault) (app : ℕ) (old new : List Voting) → runs ≡ true → (IsOk result → (enough && runs) ≡ true)
    → (IsErrOf result giving.Gone → (enough && runs) ≡ false) → short ≡ wants_memory result → (not short ≡ true → new ≡ old) → (not short ≡ false → CopiesAt IsEnded app old new)
    → GivenTo enough result app old new
given_to enough runs short result app old new running ok gone is stand end = record {
  given = λ given. (and_parts enough runs (ok given)).0;
  gone = λ err. and_true enough runs running (gone err);
  stand = λ other. stand (ap not (is ∙ other));
  end = λ wants. end (ap not (is ∙ wants));
}

pub gives_to : {Own W : Type 0} (Tells : Type 0) (see : W → Seen Own) (app : ℕ) (enough : Bool) (result : Result (Unit {0}) GiveFault) (x y : Linkage W) (a b c : List Voting)
    → CopiesAt (λ o n. AppGoes Tells see [] o n x y) app a b → IfSome (slice_get b app) (λ n. Answers (Ok enough) n) → GivenTo enough result app b c → CopiesAt (GivesTo result) app a c
gives_to Tells see app enough (Ok z) x y a b c at_app answers given =
    subst (λ (copies : List Voting). CopiesAt (GivesTo (Ok z)) app a copies) (sym (given.stand refl))
    (at_weaker (Gifted (Ok enough)) (GivesTo (Ok z)) app a b (λ o n is. record {
      remains = is.remains;
      given = λ ok. sym is.answers.enough ∙ given.given refl;
      gone = λ err. absurd cc;
      short = λ err. absurd cc;
    }) (goes_gifted Tells see app (Ok enough) x y a b at_app answers))
gives_to Tells see app enough (Err giving.Gone) x y a b c at_app answers given =
    subst (λ (copies : List Voting). CopiesAt (GivesTo (Err giving.Gone)) app a copies) (sym (given.stand refl))
    (at_weaker (Gifted (Ok enough)) (GivesTo (Err giving.Gone)) app a b (λ o n is. record {
      remains = is.remains;
      given = λ ok. absurd (false≢true ok);
      gone = λ err. sym is.answers.enough ∙ given.gone refl;
      short = λ err. absurd cc;
    }) (goes_gifted Tells see app (Ok enough) x y a b at_app answers))
gives_to Tells see app enough (Err giving.Short) x y a b c at_app answers given =
    at_twice (Gifted (Ok enough)) IsEnded (GivesTo (Err giving.Short)) app a b c (λ o m n at_m is ended. record {
      remains = remains_ended o m n is.remains ended;
      given = λ ok. absurd (false≢true ok);
      gone = λ err. absurd cc;
      short = λ err. ap (λ (v : Voting). v.ballot) ended;
    }) (goes_gifted Tells see app (Ok enough) x y a b at_app answers) (given.end refl)

pub gives_short : {Own W : Type 0} (Tells : Type 0) (see : W → Seen Own) (app : ℕ) (short : Short) (x y : Linkage W) (a b : List Voting)
    → CopiesAt (λ o n. AppGoes Tells see [] o n x y) app a b → IfSome (slice_get b app) (λ n. Answers (Err short) n) → CopiesAt (GivesTo (Err giving.Short)) app a b
gives_short Tells see app short x y a b at_app answers =
    at_weaker (Gifted (Err short)) (GivesTo (Err giving.Short)) app a b (λ o n is. record {
      remains = is.remains;
      given = λ ok. absurd (false≢true ok);
      gone = λ err. absurd cc;
      short = λ err. is.answers.short;
    }) (goes_gifted Tells see app (Err short) x y a b at_app answers)
