-- What is upcoming: the item that a stimulus makes due, and then messages; the switch that is due to join is empty.
use Rattle.std.specs.Prelude.{◌≡◌, ◌==◌, ℕ, ◌⊎◌, Bool, true, false, List, [], ◌∷◌, ◌++◌, map, Option, Some, None, is_some, slice_get, if◌then◌else◌, refl}
use Rattle.std.specs.Option.{option_map}
use Rattle.std.proofs.Common.{sym, ap, ◌∙◌, subst, inl, inr, true≢false}
use Rattle.std.proofs.lemmas.Bool.{cases_Bool, eqb-true, eqb-false}
use Rattle.of_types.specs.declared.journal.WorldStim.{WorldStim}
use Rattle.of_types.specs.declared.journal.WorldStim.TheVariants.{Join, Leave, At, Of}
use Rattle.flow_table.specs.Switch.{SwitchState, joined_at, features_reply}
use Rattle.outside.specs.declared.step.WorldStep.{WorldStep}
use Rattle.outside.specs.declared.step.WorldStep.TheVariants.{From, Joined, Left, Moment}
use Rattle.outside.specs.State.{Link, State, link_of, waits_in, switch_in, waits_of, switch_of, is_joined, with_link, switch_joined, link_joined, join_due, due_of, after_stim, waiting_in}
use Rattle.outside.specs.laws.LinkLaws.{link_of-same, link_of-other}
use Rattle.outside.specs.laws.LinkKeptLaws.{keeps_joined}
use Rattle.batch_laws.specs.Items.{Fresh}

-- ---- What is upcoming

-- what waits are messages
abbrev pub IsOfSwitch : WorldStep → Type 0
IsOfSwitch step = (d : ℕ) × (bytes : List ℕ) × (step ≡ From d bytes)

mapped_first : (d : ℕ) (ws : List (List ℕ)) (rest : List WorldStep) (step : WorldStep) → (slice_get rest 0 ≡ Some step → IsOfSwitch step) → slice_get (map (From d) ws ++ rest) 0 ≡ Some step → IsOfSwitch step
mapped_first d [] rest step later is = later is
mapped_first d (w ∷ ws) rest step later is = (d, w, same (From d w) step is)
  where
    same : (a b : WorldStep) → Some a ≡ Some b → b ≡ a
    same a b e = cc

waiting_first : (ls : List Link) (step : WorldStep) → slice_get (waiting_in ls) 0 ≡ Some step → IsOfSwitch step
waiting_first [] step is = absurd cc
waiting_first (l ∷ ls) step is = mapped_first l.declared.dpid l.waits (waiting_in ls) step (waiting_first ls step) is

pub no_message_joined : (e : ℕ) (bytes : List ℕ) → IsOfSwitch (Joined e bytes) → ⊥
no_message_joined e bytes is = let h : Joined e bytes ≡ From is.0 is.1 = is.2 in absurd cc

pub no_message_left : (e : ℕ) → IsOfSwitch (Left e) → ⊥
no_message_left e is = let h : Left e ≡ From is.0 is.1 = is.2 in absurd cc

pub no_message_moment : (t : ℕ) → IsOfSwitch (Moment t) → ⊥
no_message_moment t is = let h : Moment t ≡ From is.0 is.1 = is.2 in absurd cc

-- what a stimulus makes beside messages is one item at most, and no message
abbrev pub IsDue : List WorldStep → Type 0
IsDue due = (due ≡ []) ⊎ ((item : WorldStep) × (due ≡ item ∷ []) × (IsOfSwitch item → ⊥))

join_is_due : (d moment : ℕ) (o : Option Link) → IsDue (join_due d moment o)
join_is_due d moment None = inl refl
join_is_due d moment (Some l) =
    let item = Joined d (features_reply 0 (joined_at moment l.declared)) in
    elim (cases_Bool (is_some l.switch)) [
      | inl joined ↦ inl (rw joined refl)
      | inr out ↦ inr (item, rw out refl, no_message_joined d (features_reply 0 (joined_at moment l.declared)))
    ]

leave_is_due : (d : ℕ) (joined : Bool) → IsDue (if joined then Left d ∷ [] else [])
leave_is_due d true = inr (Left d, refl, no_message_left d)
leave_is_due d false = inl refl

pub stim_is_due : (x : WorldStim) (s : State) → IsDue (due_of x s)
stim_is_due (Join d) s = join_is_due d s.moment (link_of d s.links)
stim_is_due (Leave d) s = leave_is_due d (is_joined d s)
stim_is_due (At t) s = inr (Moment t, refl, no_message_moment t)
stim_is_due (Of d x) s = inl refl

pub some_same : (a b : WorldStep) → Some a ≡ Some b → a ≡ b
some_same a b e = cc

-- a message is told where nothing is due
pub none_due_by : (due later : List WorldStep) (d : ℕ) (bytes : List ℕ) → IsDue due → slice_get (due ++ later) 0 ≡ Some (From d bytes) → due ≡ []
none_due_by due later d bytes (inl none) next = none
none_due_by due later d bytes (inr one) next =
    let h : Some one.0 ≡ Some (From d bytes) = sym (ap (λ (xs : List WorldStep). slice_get (xs ++ later) 0) one.1) ∙ next in
    absurd (one.2 (d, bytes, some_same one.0 (From d bytes) h))

-- another item is told where it is due
pub one_due_by : (due : List WorldStep) (ls : List Link) (item : WorldStep) → IsDue due → (IsOfSwitch item → ⊥) → slice_get (due ++ waiting_in ls) 0 ≡ Some item → due ≡ item ∷ []
one_due_by due ls item (inl none) other next =
    absurd (other (waiting_first ls item (sym (ap (λ (xs : List WorldStep). slice_get (xs ++ waiting_in ls) 0) none) ∙ next)))
one_due_by due ls item (inr one) other next =
    let h : Some one.0 ≡ Some item = sym (ap (λ (xs : List WorldStep). slice_get (xs ++ waiting_in ls) 0) one.1) ∙ next in
    one.1 ∙ ap (λ (y : WorldStep). y ∷ []) (some_same one.0 item h)

-- ---- The switch that joins is empty, and nothing waits

joined_link : (moment : ℕ) (o : Option Link) → waits_in (option_map (link_joined moment) o) ≡ waits_in o
unfolding link_joined
joined_link moment None = refl
joined_link moment (Some l) = refl

join_waits : (d e moment : ℕ) (ls : List Link) → waits_in (link_of e (with_link d (link_joined moment) ls)) ≡ waits_in (link_of e ls)
join_waits d e moment ls =
    elim (cases_Bool (e == d)) [
      | inl here ↦ subst (λ (n : ℕ). waits_in (link_of n (with_link d (link_joined moment) ls)) ≡ waits_in (link_of n ls)) (sym (eqb-true e d here)) (ap waits_in (link_of-same d (link_joined moment) (keeps_joined moment) ls) ∙ joined_link moment (link_of d ls))
      | inr other ↦ ap waits_in (link_of-other d e (link_joined moment) (keeps_joined moment) (eqb-false e d other) ls)
    ]

joined_switch : (moment : ℕ) (l : Link) → is_some l.switch ≡ false → (link_joined moment l).switch ≡ Some (joined_at moment l.declared)
unfolding link_joined
joined_switch moment l out = by l.switch out
  where
    by : (o : Option SwitchState) → is_some o ≡ false → switch_joined moment l.declared o ≡ Some (joined_at moment l.declared)
    by None e = refl
    by (Some s) e = absurd (true≢false e)

-- of the switch that is due to join
record JoinsNow (d : ℕ) (moment : ℕ) (o : Option Link) : Type 0 where
  link : Link
  found : o ≡ Some link
  out : is_some link.switch ≡ false

joins_now : (e d moment : ℕ) (bytes : List ℕ) (o : Option Link) → join_due e moment o ≡ Joined d bytes ∷ [] → JoinsNow d moment o × (e ≡ d)
joins_now e d moment bytes None is = absurd cc
joins_now e d moment bytes (Some l) is =
    elim (cases_Bool (is_some l.switch)) [
      | inl joined ↦ (let h = rw joined at is in absurd cc)
      | inr out ↦ (record { link = l; found = refl; out = out }, same e d (features_reply 0 (joined_at moment l.declared)) bytes (rw out at is))
    ]
  where
    same : (a b : ℕ) (x y : List ℕ) → Joined a x ∷ [] ≡ Joined b y ∷ [] → a ≡ b
    same a b x y h = cc

joins_fresh : (d : ℕ) (s : State) → ((e : ℕ) → waits_of e s ≡ []) → JoinsNow d s.moment (link_of d s.links) → Fresh d (after_stim (Join d) s)
unfolding after_stim waits_of switch_of
joins_fresh d s none now = record {
  waits = λ e. join_waits d e s.moment s.links ∙ none e;
  switch = joined_at s.moment now.link.declared;
  joined = ap switch_in (link_of-same d (link_joined s.moment) (keeps_joined s.moment) s.links) ∙ ap (λ (o : Option Link). switch_in (option_map (link_joined s.moment) o)) now.found ∙ joined_switch s.moment now.link now.out;
  empty = refl;
  config = refl;
}

leave_no_join : (e d : ℕ) (bytes : List ℕ) (joined : Bool) → (if joined then Left e ∷ [] else []) ≡ Joined d bytes ∷ [] → ⊥
leave_no_join e d bytes true is = absurd cc
leave_no_join e d bytes false is = absurd cc

pub stim_fresh : (x : WorldStim) (d : ℕ) (bytes : List ℕ) (s : State) → ((e : ℕ) → waits_of e s ≡ []) → due_of x s ≡ Joined d bytes ∷ [] → Fresh d (after_stim x s)
stim_fresh (Join e) d bytes s none is =
    let now = joins_now e d s.moment bytes (link_of e s.links) is in
    subst (λ (n : ℕ). Fresh d (after_stim (Join n) s)) (sym now.1) (joins_fresh d s none (subst (λ (n : ℕ). JoinsNow d s.moment (link_of n s.links)) now.1 now.0))
stim_fresh (Leave e) d bytes s none is = absurd (leave_no_join e d bytes (is_joined e s) is)
stim_fresh (At t) d bytes s none is = absurd (moment_no_join t d bytes is)
  where
    moment_no_join : (t d : ℕ) (bytes : List ℕ) → Moment t ∷ [] ≡ Joined d bytes ∷ [] → ⊥
    moment_no_join t d bytes h = absurd cc
stim_fresh (Of e x) d bytes s none is = absurd cc
