-- What is voted stays backed by lives that go on.
use Rattle.std.specs.Prelude.{◌≡◌, ◌≢◌, ℕ, ◌+◌, ◌-◌, ◌^◌, ◌≤◌, Bool, true, false, List, [], ◌++◌, length, take, drop, Option, Some, None, Result, Ok, Err, IfOk, OnOk, OnErr, ◌⊎◌, refl}
use Rattle.std.proofs.Common.{sym, ap, ◌∙◌, subst, arith, append_assoc, inl, inr}
use Rattle.std.proofs.lemmas.Bool.{cases_Bool, cases_eq, false≢true}
use Rattle.std.proofs.lemmas.List.{append-nil, drop_at}
use Rattle.frame_votes.specs.declared.ballot.Place.{Place}
use Rattle.frame_votes.specs.declared.ballot.Place.TheVariants.{First, Second, Third}
use Rattle.frame_votes.specs.Votes.{Given, Polled, front_in, agreed, settled, of_two, voted, after_vote, out}
use Rattle.frame_votes.specs.laws.VoteLaws.{Follows, Lives, AllFollow, Begins as Front, TwoBegin, two_gave}
use Rattle.outside.specs.declared.faults.Short.{Short}
use Rattle.outside.specs.declared.step.WorldStep.{WorldStep}
use Rattle.outside.specs.Seen.{Seen}
use Rattle.linked_world.specs.Linked.{Linkage}
use Rattle.linked_world.specs.laws.ThereLaws.{was_started}
use Rattle.vote_world.specs.Voting.{copy_number, entered, none_in, Hears, Heard}
use Rattle.vote_world.specs.Lives.{life_in, lives_of, Backed, behind, VotesBehind, Rests, GoesOn, Begins, piece_in, Stays, AllStay, NoneEnters, Keeps, Goes, found_in}

-- ---- Numbers

second_is : (first : ℕ) → first + 2 ≤ 2 ^ 32 - 1 → copy_number first Second ≡ first + 1
second_is first few = omega (arith, few)

third_is : (first : ℕ) → first + 2 ≤ 2 ^ 32 - 1 → copy_number first Third ≡ first + 2
third_is first few = omega (arith, few)

pub first_second : (first : ℕ) → first + 2 ≤ 2 ^ 32 - 1 → copy_number first First ≢ copy_number first Second
first_second first few e = absurd (omega (arith, few, e, second_is first few))

pub first_third : (first : ℕ) → first + 2 ≤ 2 ^ 32 - 1 → copy_number first First ≢ copy_number first Third
first_third first few e = absurd (omega (arith, few, e, third_is first few))

pub second_third_differ : (first : ℕ) → first + 2 ≤ 2 ^ 32 - 1 → copy_number first Second ≢ copy_number first Third
second_third_differ first few e = absurd (omega (arith, few, e, second_is first few, third_is first few))

-- ---- One copy

-- Its life goes on, and where it is in, that is held behind what was.
record CopyGoes (life life_then : List ℕ) (old new : Given) : Type 0 where
  more : List ℕ
  grows : life_then ≡ life ++ more
  held : new.is_in ≡ true → (old.is_in ≡ true) × (new.held ≡ old.held ++ more)

goes_same : (life life_then : List ℕ) (old new : Given) → life_then ≡ life → Stays old new → CopyGoes life life_then old new
goes_same life life_then old new same (inl stays) = record {
  more = [];
  grows = same ∙ sym (append-nil life);
  held = λ is. (ap (λ (c : Given). c.is_in) (sym stays) ∙ is, ap (λ (c : Given). c.held) stays ∙ sym (append-nil old.held));
}
goes_same life life_then old new same (inr left) = record {
  more = [];
  grows = same ∙ sym (append-nil life);
  held = λ is. absurd (false≢true (ap (λ (c : Given). c.is_in) (sym left) ∙ is));
}

goes_heard : (life life_then bytes : List ℕ) (old new : Given) → life_then ≡ life ++ bytes → (new ≡ (record old { held = old.held ++ bytes })) ⊎ (new ≡ out) → CopyGoes life life_then old new
goes_heard life life_then bytes old new grows (inl kept) = record {
  more = bytes;
  grows = grows;
  held = λ is. (ap (λ (c : Given). c.is_in) (sym kept) ∙ is, ap (λ (c : Given). c.held) kept);
}
goes_heard life life_then bytes old new grows (inr left) = record {
  more = bytes;
  grows = grows;
  held = λ is. absurd (false≢true (ap (λ (c : Given). c.is_in) (sym left) ∙ is));
}

follows_goes : (so_far life life_then : List ℕ) (old new : Given) → CopyGoes life life_then old new → Follows so_far life old → Follows so_far life_then new
follows_goes so_far life life_then old new goes follows is =
    let held = goes.held is in
    goes.grows ∙ ap (λ (xs : List ℕ). xs ++ goes.more) (follows held.0) ∙ append_assoc so_far old.held goes.more ∙ ap (λ (xs : List ℕ). so_far ++ xs) (sym held.1)

front_goes : (front life life_then : List ℕ) (old new : Given) → CopyGoes life life_then old new → Front front life → Front front life_then
front_goes front life life_then old new goes begins =
    (begins.0 ++ goes.more, goes.grows ∙ ap (λ (xs : List ℕ). xs ++ goes.more) begins.1 ∙ append_assoc front begins.0 goes.more)

-- ---- Three copies

record AllGo (lives lives_then : Lives) (old new : Polled) : Type 0 where
  first : CopyGoes lives.first lives_then.first old.first new.first
  second : CopyGoes lives.second lives_then.second old.second new.second
  third : CopyGoes lives.third lives_then.third old.third new.third

two_go : (front : List ℕ) (lives lives_then : Lives) (old new : Polled) → AllGo lives lives_then old new → TwoBegin front lives → TwoBegin front lives_then
two_go front lives lives_then old new go two = elim two [
  | inl has ↦ inl (front_goes front lives.first lives_then.first old.first new.first go.first has.0, front_goes front lives.second lives_then.second old.second new.second go.second has.1)
  | inr more ↦ elim more [
    | inl has ↦ inr (inl (front_goes front lives.first lives_then.first old.first new.first go.first has.0, front_goes front lives.third lives_then.third old.third new.third go.third has.1))
    | inr has ↦ inr (inr (front_goes front lives.second lives_then.second old.second new.second go.second has.0, front_goes front lives.third lives_then.third old.third new.third go.third has.1))
  ]
]

backed_goes : (first : ℕ) (so_far : List ℕ) (old new : Polled) (before after : List WorldStep) → AllGo (lives_of first before) (lives_of first after) old new
    → Backed first so_far old before → Backed first so_far new after
backed_goes first so_far old new before after go backed = record {
  few = backed.few;
  two = two_go so_far (lives_of first before) (lives_of first after) old new go backed.two;
  follow = record {
    first = follows_goes so_far _ _ old.first new.first go.first backed.follow.first;
    second = follows_goes so_far _ _ old.second new.second go.second backed.follow.second;
    third = follows_goes so_far _ _ old.third new.third go.third backed.follow.third;
  };
}

none_more : (first : ℕ) (so_far : List ℕ) (ballot : Polled) (history : List WorldStep) → Backed first so_far ballot history → Backed first (so_far ++ []) ballot history
none_more first so_far ballot history backed = subst (λ (xs : List ℕ). Backed first xs ballot history) (sym (append-nil so_far)) backed

pub none_less : (first : ℕ) (so_far : List ℕ) (ballot : Polled) (history : List WorldStep) → Backed first (so_far ++ []) ballot history → Backed first so_far ballot history
none_less first so_far ballot history backed = subst (λ (xs : List ℕ). Backed first xs ballot history) (append-nil so_far) backed

-- ---- Calls, one behind another

all_stay : (p q : Polled) → q ≡ p → AllStay p q
all_stay p q same = record { first = inl (ap (λ (p : Polled). p.first) same); second = inl (ap (λ (p : Polled). p.second) same); third = inl (ap (λ (p : Polled). p.third) same) }

pub stay_none : (p : Polled) → AllStay p p
stay_none p = all_stay p p refl

pub none_stay : (p q : Polled) → q ≡ none_in → AllStay p q
none_stay p q left = record { first = inr (ap (λ (p : Polled). p.first) left); second = inr (ap (λ (p : Polled). p.second) left); third = inr (ap (λ (p : Polled). p.third) left) }

stay_enters : (old new : Given) → Stays old new → new.is_in ≡ true → old.is_in ≡ true
stay_enters old new (inl same) is = ap (λ (c : Given). c.is_in) (sym same) ∙ is
stay_enters old new (inr left) is = absurd (false≢true (ap (λ (c : Given). c.is_in) (sym left) ∙ is))

pub all_stay_enters : (old new : Polled) → AllStay old new → NoneEnters old new
all_stay_enters old new stay = record {
  first = stay_enters old.first new.first stay.first;
  second = stay_enters old.second new.second stay.second;
  third = stay_enters old.third new.third stay.third;
}

pub enters_twice : (a b c : Polled) → NoneEnters a b → NoneEnters b c → NoneEnters a c
enters_twice a b c one two = record {
  first = λ is. one.first (two.first is);
  second = λ is. one.second (two.second is);
  third = λ is. one.third (two.third is);
}

pub enters_none : (p : Polled) → NoneEnters p p
enters_none p = record { first = λ is. is; second = λ is. is; third = λ is. is }

keeps_enters : (place : Place) (bytes : List ℕ) (old new : Polled) → Keeps place bytes old new → NoneEnters old new
keeps_enters First bytes old new (inl kept) = subst (λ (p : Polled). NoneEnters old p) (sym kept) (record { first = λ is. is; second = λ is. is; third = λ is. is })
keeps_enters First bytes old new (inr left) = subst (λ (p : Polled). NoneEnters old p) (sym left) (record { first = λ is. absurd (false≢true is); second = λ is. is; third = λ is. is })
keeps_enters Second bytes old new (inl kept) = subst (λ (p : Polled). NoneEnters old p) (sym kept) (record { first = λ is. is; second = λ is. is; third = λ is. is })
keeps_enters Second bytes old new (inr left) = subst (λ (p : Polled). NoneEnters old p) (sym left) (record { first = λ is. is; second = λ is. absurd (false≢true is); third = λ is. is })
keeps_enters Third bytes old new (inl kept) = subst (λ (p : Polled). NoneEnters old p) (sym kept) (record { first = λ is. is; second = λ is. is; third = λ is. is })
keeps_enters Third bytes old new (inr left) = subst (λ (p : Polled). NoneEnters old p) (sym left) (record { first = λ is. is; second = λ is. is; third = λ is. absurd (false≢true is) })

-- Where no life goes on and no copy comes in, what was voted stays backed.
pub goes_stay : {Own W : Type 0} (Tells : Type 0) (see : W → Seen Own) (first : ℕ) (old new : Polled) (before after : Linkage W) → AllStay old new → Rests Tells see before after → Goes Tells see first [] old new before after
goes_stay Tells see first old new before after stay rests = record {
  backed = λ told so_far backed. none_more first so_far new (see after.links).history
      (backed_goes first so_far old new (see before.links).history (see after.links).history
      (record {
        first = goes_same _ _ old.first new.first (rests.lives told (copy_number first First)) stay.first;
        second = goes_same _ _ old.second new.second (rests.lives told (copy_number first Second)) stay.second;
        third = goes_same _ _ old.third new.third (rests.lives told (copy_number first Third)) stay.third;
      }) backed);
  others = λ told n apart. rests.lives told n;
  running = rests.running;
  none_enters = all_stay_enters old new stay;
}

pub goes_none : {Own W : Type 0} (Tells : Type 0) (see : W → Seen Own) (first : ℕ) (p : Polled) (before after : Linkage W) → Rests Tells see before after → Goes Tells see first [] p p before after
goes_none Tells see first p before after rests = goes_stay Tells see first p p before after (stay_none p) rests

pub goes_twice : {Own W : Type 0} (Tells : Type 0) (see : W → Seen Own) (first : ℕ) (more : List ℕ) (a b c : Polled) (x y z : Linkage W)
    → Goes Tells see first [] a b x y → Goes Tells see first more b c y z → Goes Tells see first more a c x z
goes_twice Tells see first more a b c x y z one two = record {
  backed = λ told so_far backed. two.backed told so_far (none_less first so_far b (see y.links).history (one.backed told so_far backed));
  others = λ told n apart. two.others told n apart ∙ one.others told n apart;
  running = two.running ∙ one.running;
  none_enters = enters_twice a b c one.none_enters two.none_enters;
}

-- ---- A piece

all_go : (place : Place) (first : ℕ) (bytes : List ℕ) (old new : Polled) (before after : List WorldStep) → first + 2 ≤ 2 ^ 32 - 1
    → life_in (copy_number first place) after ≡ life_in (copy_number first place) before ++ bytes
    → ((n : ℕ) → n ≢ copy_number first place → life_in n after ≡ life_in n before)
    → Keeps place bytes old new → AllGo (lives_of first before) (lives_of first after) old new
all_go First first bytes old new before after few life others (inl kept) = record {
  first = goes_heard _ _ bytes old.first new.first life (inl (ap (λ (p : Polled). p.first) kept));
  second = goes_same _ _ old.second new.second (others (copy_number first Second) (λ e. first_second first few (sym e))) (inl (ap (λ (p : Polled). p.second) kept));
  third = goes_same _ _ old.third new.third (others (copy_number first Third) (λ e. first_third first few (sym e))) (inl (ap (λ (p : Polled). p.third) kept));
}
all_go First first bytes old new before after few life others (inr left) = record {
  first = goes_heard _ _ bytes old.first new.first life (inr (ap (λ (p : Polled). p.first) left));
  second = goes_same _ _ old.second new.second (others (copy_number first Second) (λ e. first_second first few (sym e))) (inl (ap (λ (p : Polled). p.second) left));
  third = goes_same _ _ old.third new.third (others (copy_number first Third) (λ e. first_third first few (sym e))) (inl (ap (λ (p : Polled). p.third) left));
}
all_go Second first bytes old new before after few life others (inl kept) = record {
  first = goes_same _ _ old.first new.first (others (copy_number first First) (first_second first few)) (inl (ap (λ (p : Polled). p.first) kept));
  second = goes_heard _ _ bytes old.second new.second life (inl (ap (λ (p : Polled). p.second) kept));
  third = goes_same _ _ old.third new.third (others (copy_number first Third) (λ e. second_third_differ first few (sym e))) (inl (ap (λ (p : Polled). p.third) kept));
}
all_go Second first bytes old new before after few life others (inr left) = record {
  first = goes_same _ _ old.first new.first (others (copy_number first First) (first_second first few)) (inl (ap (λ (p : Polled). p.first) left));
  second = goes_heard _ _ bytes old.second new.second life (inr (ap (λ (p : Polled). p.second) left));
  third = goes_same _ _ old.third new.third (others (copy_number first Third) (λ e. second_third_differ first few (sym e))) (inl (ap (λ (p : Polled). p.third) left));
}
all_go Third first bytes old new before after few life others (inl kept) = record {
  first = goes_same _ _ old.first new.first (others (copy_number first First) (first_third first few)) (inl (ap (λ (p : Polled). p.first) kept));
  second = goes_same _ _ old.second new.second (others (copy_number first Second) (second_third_differ first few)) (inl (ap (λ (p : Polled). p.second) kept));
  third = goes_heard _ _ bytes old.third new.third life (inl (ap (λ (p : Polled). p.third) kept));
}
all_go Third first bytes old new before after few life others (inr left) = record {
  first = goes_same _ _ old.first new.first (others (copy_number first First) (first_third first few)) (inl (ap (λ (p : Polled). p.first) left));
  second = goes_same _ _ old.second new.second (others (copy_number first Second) (second_third_differ first few)) (inl (ap (λ (p : Polled). p.second) left));
  third = goes_heard _ _ bytes old.third new.third life (inr (ap (λ (p : Polled). p.third) left));
}

heard_goes : {Own W : Type 0} (Tells : Type 0) (see : W → Seen Own) (place : Place) (first copy : ℕ) (bytes : List ℕ) (old new : Polled) (x y z : Linkage W) → copy ≡ copy_number first place
    → GoesOn Tells see copy bytes x y → Keeps place bytes old new → Rests Tells see y z → Goes Tells see first [] old new x z
heard_goes {W = W} Tells see place first copy bytes old new x y z number goes keeps rests =
    let at_place : GoesOn {W = W} Tells see (copy_number first place) bytes x y = subst (λ (n : ℕ). GoesOn Tells see n bytes x y) number goes in
    record {
      backed = λ told so_far backed. none_more first so_far new (see z.links).history
          (backed_goes first so_far old new (see x.links).history (see z.links).history
          (all_go place first bytes old new (see x.links).history (see z.links).history backed.few
          (rests.lives told (copy_number first place) ∙ at_place.life told) (λ n other. rests.lives told n ∙ at_place.touches.others told n other) keeps) backed);
      others = λ told n apart. rests.lives told n ∙ at_place.touches.others told n (apart place);
      running = rests.running ∙ at_place.touches.running;
      none_enters = keeps_enters place bytes old new keeps;
    }

pub rests_by : {Own W : Type 0} (Tells : Type 0) (see : W → Seen Own) (copy : ℕ) (x y : Linkage W) → GoesOn Tells see copy [] x y → Rests Tells see x y
rests_by Tells see copy x y goes = record {
  lives = λ told n. elim (cases_eq n copy) [
    | inl same ↦ subst (λ (m : ℕ). life_in m (see y.links).history ≡ life_in m (see x.links).history) (sym same) (goes.life told ∙ append-nil (life_in copy (see x.links).history))
    | inr other ↦ goes.touches.others told n other
  ];
  running = goes.touches.running;
}

pub hears_some : {Own W : Type 0} (Tells : Type 0) (see : W → Seen Own) (place : Place) (first copy n : ℕ) (buf : List ℕ) (found : Option ℕ) (old new : Polled) (x y z : Linkage W)
    → copy ≡ copy_number first place → found ≡ Some n → GoesOn Tells see copy (piece_in (Ok found) buf) x y → Keeps place (take n buf) old new → Rests Tells see y z → Goes Tells see first [] old new x z
hears_some Tells see place first copy n buf found old new x y z number is goes keeps rests =
    heard_goes Tells see place first copy (take n buf) old new x y z number (subst (λ (o : Option ℕ). GoesOn Tells see copy (piece_in (Ok o) buf) x y) is goes) keeps rests

pub hears_no_more : {Own W : Type 0} (Tells : Type 0) (see : W → Seen Own) (first copy : ℕ) (buf : List ℕ) (found : Option ℕ) (p : Polled) (x y : Linkage W)
    → found ≡ None → GoesOn Tells see copy (piece_in (Ok found) buf) x y → Goes Tells see first [] p p x y
hears_no_more Tells see first copy buf found p x y is goes =
    goes_none Tells see first p x y (rests_by Tells see copy x y (subst (λ (o : Option ℕ). GoesOn Tells see copy (piece_in (Ok o) buf) x y) is goes))

pub hears_fails : {Own W : Type 0} (Tells : Type 0) (see : W → Seen Own) (first copy : ℕ) (buf : List ℕ) (short : Short) (p : Polled) (x y : Linkage W)
    → GoesOn Tells see copy (piece_in (Err short) buf) x y → Goes Tells see first [] p p x y
hears_fails Tells see first copy buf short p x y goes = goes_none Tells see first p x y (rests_by Tells see copy x y goes)

-- ---- A vote

agreed_none : (found : Option (List ℕ)) → agreed found None ≡ None
agreed_none (Some x) = refl
agreed_none None = refl

settled_out : (found : Option (List ℕ)) (copy : Given) → copy.is_in ≡ false → settled found copy ≡ out
settled_out found copy is = rw (is, agreed_none found) refl

settled_enters : (found : Option (List ℕ)) (copy : Given) → (settled found copy).is_in ≡ true → copy.is_in ≡ true
settled_enters found copy is = elim (cases_Bool copy.is_in) [
  | inl was ↦ was
  | inr was ↦ absurd (false≢true (ap (λ (c : Given). c.is_in) (sym (settled_out found copy was)) ∙ is))
]

vote_enters : (p : Polled) → NoneEnters p (after_vote p)
vote_enters p = record { first = settled_enters (voted p) p.first; second = settled_enters (voted p) p.second; third = settled_enters (voted p) p.third }

settled_none : (so_far life : List ℕ) (copy : Given) → Follows so_far life (settled None copy)
settled_none so_far life copy is = absurd (false≢true is)

vote_backed : (first : ℕ) (so_far : List ℕ) (found : Option (List ℕ)) (p : Polled) (history : List WorldStep) → voted p ≡ found
    → Backed first so_far p history → Backed first (so_far ++ found_in (Ok found)) (after_vote p) history
vote_backed first so_far (Some frame) p history e backed =
    let voted_then = two_gave so_far frame (lives_of first history) p backed.follow e in
    record { few = backed.few; two = voted_then.two; follow = voted_then.follow }
vote_backed first so_far None p history e backed = none_more first so_far (after_vote p) history (record {
  few = backed.few;
  two = backed.two;
  follow = record {
    first = subst (λ (o : Option (List ℕ)). Follows so_far (lives_of first history).first (settled o p.first)) (sym e) (settled_none so_far _ p.first);
    second = subst (λ (o : Option (List ℕ)). Follows so_far (lives_of first history).second (settled o p.second)) (sym e) (settled_none so_far _ p.second);
    third = subst (λ (o : Option (List ℕ)). Follows so_far (lives_of first history).third (settled o p.third)) (sym e) (settled_none so_far _ p.third);
  };
})

pub vote_goes : {Own W : Type 0} (Tells : Type 0) (see : W → Seen Own) (first : ℕ) (old new : Polled) (x y : Linkage W) (result : Result (Option (List ℕ)) Short)
    → IfOk result (λ found. found ≡ voted old) → OnOk result (new ≡ after_vote old) → OnErr result (new ≡ old) → Rests Tells see x y → Goes Tells see first (found_in result) old new x y
vote_goes Tells see first old new x y (Ok found) frame ballot err rests = record {
  backed = λ told so_far backed.
      subst (λ (p : Polled). Backed first (so_far ++ found_in (Ok found)) p (see y.links).history) (sym ballot)
      (vote_backed first so_far found old (see y.links).history (sym frame)
      (none_less first so_far old (see y.links).history ((goes_none Tells see first old x y rests).backed told so_far backed)));
  others = λ told n apart. rests.lives told n;
  running = rests.running;
  none_enters = subst (λ (p : Polled). NoneEnters old p) (sym ballot) (vote_enters old);
}
vote_goes Tells see first old new x y (Err short) frame ballot err rests = goes_stay Tells see first old new x y (all_stay old new err) rests

-- ---- The vote is of what the copies gave

abbrev behind_copy : List ℕ → List ℕ → Bool → Given
behind_copy so_far life is_in = record { is_in = is_in; held = drop (length so_far) life }

same_copy : (so_far life : List ℕ) (copy : Given) → Follows so_far life copy → copy.is_in ≡ true → behind_copy so_far life copy.is_in ≡ copy
same_copy so_far life copy follows is =
    ap (λ (held : List ℕ). record copy { held = held }) (ap (λ (xs : List ℕ). drop (length so_far) xs) (follows is) ∙ drop_at so_far copy.held (length so_far) refl)

same_front : (so_far life : List ℕ) (copy : Given) → Follows so_far life copy → front_in (behind_copy so_far life copy.is_in) ≡ front_in copy
same_front so_far life copy follows = elim (cases_Bool copy.is_in) [
  | inl is ↦ ap front_in (same_copy so_far life copy follows is)
  | inr left ↦ rw left refl
]

same_settled : (so_far life : List ℕ) (found : Option (List ℕ)) (copy : Given) → Follows so_far life copy → settled found (behind_copy so_far life copy.is_in) ≡ settled found copy
same_settled so_far life found copy follows = elim (cases_Bool copy.is_in) [
  | inl is ↦ ap (settled found) (same_copy so_far life copy follows is)
  | inr left ↦ settled_out found (behind_copy so_far life copy.is_in) left ∙ sym (settled_out found copy left)
]

same_votes : (so_far : List ℕ) (lives : Lives) (p : Polled) → AllFollow so_far lives p → VotesBehind so_far lives p (after_vote p) (voted p)
same_votes so_far lives p follow =
    let one = same_front so_far lives.first p.first follow.first in
    let two = same_front so_far lives.second p.second follow.second in
    let three = same_front so_far lives.third p.third follow.third in
    let frame : voted p ≡ voted (behind so_far lives p) =
    sym (ap (λ (o : Option (List ℕ)). of_two o (front_in (behind_copy so_far lives.second p.second.is_in)) (front_in (behind_copy so_far lives.third p.third.is_in))) one
    ∙ ap (λ (o : Option (List ℕ)). of_two (front_in p.first) o (front_in (behind_copy so_far lives.third p.third.is_in))) two
    ∙ ap (λ (o : Option (List ℕ)). of_two (front_in p.first) (front_in p.second) o) three) in
    record {
      frame = frame;
      ballot = sym (
          ap (λ (o : Option (List ℕ)). record {
            first = settled o (behind_copy so_far lives.first p.first.is_in);
            second = settled o (behind_copy so_far lives.second p.second.is_in);
            third = settled o (behind_copy so_far lives.third p.third.is_in);
          }) (sym frame)
          ∙ ap (λ (c : Given). record {
            first = c;
            second = settled (voted p) (behind_copy so_far lives.second p.second.is_in);
            third = settled (voted p) (behind_copy so_far lives.third p.third.is_in);
          }) (same_settled so_far lives.first (voted p) p.first follow.first)
          ∙ ap (λ (c : Given). record {
            first = settled (voted p) p.first;
            second = c;
            third = settled (voted p) (behind_copy so_far lives.third p.third.is_in);
          }) (same_settled so_far lives.second (voted p) p.second follow.second)
          ∙ ap (λ (c : Given). record {
            first = settled (voted p) p.first;
            second = settled (voted p) p.second;
            third = c;
          }) (same_settled so_far lives.third (voted p) p.third follow.third));
    }

heard_in : (old new : Given) → Hears old new → new.is_in ≡ old.is_in
heard_in old new hears = ap (λ (c : Given). c.is_in) hears.1

heard_behind : (so_far : List ℕ) (lives : Lives) (a b : Polled) → Heard a b → behind so_far lives b ≡ behind so_far lives a
heard_behind so_far lives a b heard =
    ap (λ (is : Bool). record {
      first = behind_copy so_far lives.first is;
      second = behind_copy so_far lives.second b.second.is_in;
      third = behind_copy so_far lives.third b.third.is_in;
    }) (heard_in a.first b.first heard.first)
    ∙ ap (λ (is : Bool). record {
      first = behind_copy so_far lives.first a.first.is_in;
      second = behind_copy so_far lives.second is;
      third = behind_copy so_far lives.third b.third.is_in;
    }) (heard_in a.second b.second heard.second)
    ∙ ap (λ (is : Bool). record {
      first = behind_copy so_far lives.first a.first.is_in;
      second = behind_copy so_far lives.second a.second.is_in;
      third = behind_copy so_far lives.third is;
    }) (heard_in a.third b.third heard.third)

pub votes_tied : {Own W : Type 0} (Tells : Type 0) (see : W → Seen Own) (first : ℕ) (a b c : Polled) (x y z : Linkage W) (result : Result (Option (List ℕ)) Short)
    → Heard a b → Goes Tells see first [] a b x y → Rests Tells see y z → IfOk result (λ found. found ≡ voted b) → OnOk result (c ≡ after_vote b)
    → IfOk result (λ found. Tells → (so_far : List ℕ) → Backed first so_far a (see x.links).history → VotesBehind so_far (lives_of first (see z.links).history) a c found)
votes_tied Tells see first a b c x y z (Ok found) heard goes rests frame ballot = λ told so_far backed.
    let history = (see z.links).history in
    let lives = lives_of first history in
    let then_backed = none_less first so_far b history ((goes_none Tells see first b y z rests).backed told so_far (none_less first so_far b (see y.links).history (goes.backed told so_far backed))) in
    let votes = same_votes so_far lives b then_backed.follow in
    record {
      frame = frame ∙ votes.frame ∙ ap voted (heard_behind so_far lives a b heard);
      ballot = ballot ∙ votes.ballot ∙ ap after_vote (heard_behind so_far lives a b heard);
    }
votes_tied Tells see first a b c x y z (Err short) heard goes rests frame ballot = tt

-- ---- A start

pub fresh : {Own W : Type 0} (Tells : Type 0) (see : W → Seen Own) (copy : ℕ) (result : Result Bool Short) (x y : Linkage W) → Begins Tells see copy result x y → Tells → Follows [] (life_in copy (see y.links).history) (entered (was_started result))
fresh Tells see copy (Ok true) x y begins told is = begins.life told refl
fresh Tells see copy (Ok false) x y begins told is = absurd (false≢true is)
fresh Tells see copy (Err short) x y begins told is = absurd (false≢true is)
