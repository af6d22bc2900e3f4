-- Laws of what a world that tells in order tells next to a host that keeps up with its switches: which switches are joined then, and whether
-- a stimulus is begun.
use Rattle.std.specs.Prelude.{◌≡◌, ◌≢◌, ◌==◌, ℕ, ◌+◌, ◌≤◌, Bool, true, false, List, [], ◌∷◌, ◌++◌, map, take, drop, Option, Some, None, Ok, slice_get, if◌then◌else◌, refl}
use Rattle.std.specs.Option.{is_some, option_map}
use Rattle.std.proofs.Common.{sym, ap, ◌∙◌, subst, arith, inl, inr, true≢false}
use Rattle.std.proofs.lemmas.Bool.{cases_Bool, cases_eq, eq-eqb, ne_eqb, eqb-false}
use Rattle.of_types.specs.declared.journal.Stimulus.{Stimulus}
use Rattle.of_types.specs.declared.journal.Stimulus.TheVariants.{Advance}
use Rattle.of_types.specs.declared.journal.WorldStim.{WorldStim}
use Rattle.of_types.specs.declared.journal.WorldStim.TheVariants.{Join, Leave, At, Of}
use Rattle.of_types.specs.declared.journal.Act.TheVariants.{Stim}
use Rattle.flow_table.specs.Switch.{Declared, SwitchState, joined_at, features_reply}
use Rattle.flow_table.specs.Step.{after_stimulus}
use Rattle.flow_table.specs.View.{TableView}
use Rattle.outside.specs.declared.item.Item.{Item}
use Rattle.outside.specs.declared.item.Item.TheVariants as items
use Rattle.outside.specs.declared.step.WorldStep.{WorldStep}
use Rattle.outside.specs.declared.step.WorldStep.TheVariants.{Acted, From, Joined, Left, Moment, Idle, End}
use Rattle.outside.specs.Seen.{Seen}
use Rattle.outside.specs.State.{Link, State, link_of, waits_in, switch_in, waits_of, switch_of, is_joined, upcoming, with_link, switch_joined, link_joined, link_left, link_stimulated, join_due, due_of, after_stim, after_step, after_steps, state, waiting_in}
use Rattle.outside.specs.laws.SeenLaws.{Nexts-continues}
use Rattle.outside.specs.laws.StateLaws.{state-append}
use Rattle.outside.specs.laws.LinkLaws.{KeepsDeclared, link_of-same, link_of-other, switch_of-from, switch_of-from_other}
use Rattle.outside.specs.Calls.{Nexts, IsItemIn, stim_steps, item_step, next_steps}
use Rattle.of_wire.specs.Handshake.{IsFeaturesOf}
use Rattle.outside.specs.laws.CallLaws.{Nexts-state}
use Rattle.outside.specs.Conforming.{AreDeclaredFrom, MayStep}
use Rattle.outside.specs.InOrder.{MayCome, MayComeAll, InOrder}
use Rattle.outside.specs.laws.InOrderLaws.{InOrder-rest, InOrder-before}
use Rattle.outside.specs.laws.LinkKeptLaws.{keeps_joined, keeps_left, keeps_stimulated}
use Rattle.net_txn.specs.Net.{NetState}
use Rattle.net_txn.specs.Views.{is_viewed}
use Rattle.net_txn.specs.Abreast.{Abreast}
use Rattle.switch_laws.specs.laws.StandLaws.{state-links}
use Rattle.batch_laws.specs.Items.{Ascend}
use Rattle.event_dispatch.specs.Told.{IsTold}
use Rattle.event_dispatch.specs.laws.NothingWaitsLaws.{state_empty, steps_empty, out_is_empty}
use Rattle.event_dispatch.specs.NothingWaits.{AllEmptyOut}
use Rattle.batch_laws.specs.laws.InBatchLaws.{some_same, stim_step, stim_begun}
use Rattle.batch_laws.specs.laws.ItemLaws.{lower_number, same_bytes}
use Rattle.net_txn.specs.laws.AskFaultLaws.{none_first}

-- ---- What waits are messages of switches, and a switch of which one is told is joined

of_switch : Option WorldStep → Bool
of_switch (Some (From d bytes)) = true
of_switch None = true
of_switch other = false

mapped_of : (d : ℕ) (ws : List (List ℕ)) (rest : List WorldStep) → of_switch (slice_get rest 0) ≡ true → of_switch (slice_get (map (From d) ws ++ rest) 0) ≡ true
unfolding of_switch
mapped_of d [] rest is = is
mapped_of d (w ∷ ws) rest is = refl

waiting_of : (ls : List Link) → of_switch (slice_get (waiting_in ls) 0) ≡ true
unfolding of_switch
waiting_of [] = refl
waiting_of (l ∷ ls) = mapped_of l.declared.dpid l.waits (waiting_in ls) (waiting_of ls)

record FirstWaits (d : ℕ) (bytes : List ℕ) (least : ℕ) (ls : List Link) : Type 0 where
  above : least ≤ d
  waits : slice_get (waits_in (link_of d ls)) 0 ≡ Some bytes

waits_here : (d least : ℕ) (bytes : List ℕ) (l : Link) (ls : List Link) → least ≤ l.declared.dpid → (slice_get (waiting_in ls) 0 ≡ Some (From d bytes) → FirstWaits d bytes (l.declared.dpid + 1) ls)
    → (ws : List (List ℕ)) → l.waits ≡ ws → slice_get (map (From l.declared.dpid) ws ++ waiting_in ls) 0 ≡ Some (From d bytes) → FirstWaits d bytes least (l ∷ ls)
waits_here d least bytes l ls asc rest [] is next =
    let later = rest next in
    let apart : (l.declared.dpid == d) ≡ false = ne_eqb l.declared.dpid d (λ same. absurd (omega (arith, same, later.above))) in
    record { above = omega (arith, asc, later.above); waits = rw apart later.waits }
waits_here d least bytes l ls asc rest (w ∷ ws) is next =
    let number : l.declared.dpid ≡ d = lower_number l.declared.dpid d w bytes next in
    let here : (l.declared.dpid == d) ≡ true = eq-eqb l.declared.dpid d number in
    record { above = omega (arith, asc, number); waits = rw (here, is) (ap (λ (b : List ℕ). Some b) (same_bytes l.declared.dpid d w bytes next)) }

first_waits : (d least : ℕ) (bytes : List ℕ) (ls : List Link) → Ascend least ls → slice_get (waiting_in ls) 0 ≡ Some (From d bytes) → FirstWaits d bytes least ls
first_waits d least bytes [] asc next = absurd cc
first_waits d least bytes (l ∷ ls) asc next = waits_here d least bytes l ls asc.0 (first_waits d (l.declared.dpid + 1) bytes ls asc.2) l.waits refl next

first_found : (d : ℕ) (bytes : List ℕ) (s : State) → Ascend 1 s.links → slice_get (waiting_in s.links) 0 ≡ Some (From d bytes) → slice_get (waits_of d s) 0 ≡ Some bytes
unfolding waits_of
first_found d bytes s asc next = (first_waits d 1 bytes s.links asc next).waits

waits_joined : (d : ℕ) (bytes : List ℕ) (s : State) → Ascend 1 s.links → AllEmptyOut s.links → slice_get (waiting_in s.links) 0 ≡ Some (From d bytes) → is_joined d s ≡ true
waits_joined d bytes s asc empty next =
    elim (cases_Bool (is_joined d s)) [
      | inl joined ↦ joined
      | inr out ↦ absurd (none_first (waits_of d s) bytes (out_is_empty d s empty out) (first_found d bytes s asc next))
    ]

-- ---- What a stimulus makes due, and who is joined then

-- one item, of the state before the stimulus and that behind it
abbrev OneDue : WorldStep → State → State → Type 0
OneDue (Joined d bytes) s t = (is_joined d s ≡ false) × (is_joined d t ≡ true) × ((e : ℕ) → e ≢ d → is_joined e t ≡ is_joined e s)
OneDue (Left d) s t = (is_joined d s ≡ true) × (is_joined d t ≡ false) × ((e : ℕ) → e ≢ d → is_joined e t ≡ is_joined e s)
OneDue (Moment m) s t = (e : ℕ) → is_joined e t ≡ is_joined e s
OneDue other s t = ⊥

-- and one at most
abbrev DueBy : List WorldStep → State → State → Type 0
DueBy [] s t = (e : ℕ) → is_joined e t ≡ is_joined e s
DueBy (item ∷ []) s t = OneDue item s t
DueBy (item ∷ more ∷ rest) s t = ⊥

-- other switches stay as they are
other_stays : (d e : ℕ) (change : Link → Link) → KeepsDeclared change → (ls : List Link) → e ≢ d → is_some (switch_in (link_of e (with_link d change ls))) ≡ is_some (switch_in (link_of e ls))
other_stays d e change keeps ls other = ap (λ (o : Option Link). is_some (switch_in o)) (link_of-other d e change keeps other ls)

-- a switch that is declared is joined behind a joining
some_joined : (moment : ℕ) (d : Declared) (o : Option SwitchState) → is_some (switch_joined moment d o) ≡ true
some_joined moment d None = refl
some_joined moment d (Some s) = refl

found_joined : (moment : ℕ) (o : Option Link) → is_some (switch_in (option_map (link_joined moment) o)) ≡ is_some o
unfolding link_joined
found_joined moment None = refl
found_joined moment (Some l) = some_joined moment l.declared l.switch

joins_here : (d moment : ℕ) (ls : List Link) → is_some (switch_in (link_of d (with_link d (link_joined moment) ls))) ≡ is_some (link_of d ls)
joins_here d moment ls = ap (λ (o : Option Link). is_some (switch_in o)) (link_of-same d (link_joined moment) (keeps_joined moment) ls) ∙ found_joined moment (link_of d ls)

found_left : (o : Option Link) → is_some (switch_in (option_map link_left o)) ≡ false
unfolding link_left
found_left None = refl
found_left (Some l) = refl

leaves_here : (d : ℕ) (ls : List Link) → is_some (switch_in (link_of d (with_link d link_left ls))) ≡ false
leaves_here d ls = ap (λ (o : Option Link). is_some (switch_in o)) (link_of-same d link_left keeps_left ls) ∙ found_left (link_of d ls)

some_stimulated : (x : Stimulus) (o : Option SwitchState) → is_some (option_map (after_stimulus x) o) ≡ is_some o
some_stimulated x None = refl
some_stimulated x (Some s) = refl

found_stimulated : (x : Stimulus) (o : Option Link) → is_some (switch_in (option_map (link_stimulated x) o)) ≡ is_some (switch_in o)
unfolding link_stimulated
found_stimulated x None = refl
found_stimulated x (Some l) = some_stimulated x l.switch

stimulated_here : (d e : ℕ) (x : Stimulus) (ls : List Link) → is_some (switch_in (link_of e (with_link d (link_stimulated x) ls))) ≡ is_some (switch_in (link_of e ls))
stimulated_here d e x ls =
    elim (cases_eq e d) [
      | inl same ↦ subst (λ (n : ℕ). is_some (switch_in (link_of n (with_link d (link_stimulated x) ls))) ≡ is_some (switch_in (link_of n ls))) (sym same)
          (ap (λ (o : Option Link). is_some (switch_in o)) (link_of-same d (link_stimulated x) (keeps_stimulated x) ls) ∙ found_stimulated x (link_of d ls))
      | inr other ↦ other_stays d e (link_stimulated x) (keeps_stimulated x) ls other
    ]

stimulated_all : (e : ℕ) (x : Stimulus) (ls : List Link) → is_some (switch_in (link_of e (map (link_stimulated x) ls))) ≡ is_some (switch_in (link_of e ls))
unfolding link_stimulated
stimulated_all e x [] = refl
stimulated_all e x (l ∷ ls) =
    elim (cases_Bool (l.declared.dpid == e)) [
      | inl here ↦ rw here (some_stimulated x l.switch)
      | inr other ↦ rw other (stimulated_all e x ls)
    ]

-- the switch is declared, or not
join_due_by : (d : ℕ) (s t : State) (o : Option Link) → link_of d s.links ≡ o → is_joined d t ≡ is_some o → ((e : ℕ) → e ≢ d → is_joined e t ≡ is_joined e s) → DueBy (join_due d s.moment o) s t
unfolding switch_of
join_due_by d s t None is here others = λ e. elim (cases_eq e d) [
  | inl same ↦ subst (λ (n : ℕ). is_joined n t ≡ is_joined n s) (sym same) (here ∙ sym (ap (λ (o : Option Link). is_some (switch_in o)) is))
  | inr other ↦ others e other
]
join_due_by d s t (Some l) is here others =
    let before : is_joined d s ≡ is_some l.switch = ap (λ (o : Option Link). is_some (switch_in o)) is in
    let item = Joined d (features_reply 0 (joined_at s.moment l.declared)) in
    elim (cases_Bool (is_some l.switch)) [
      | inl joined ↦ subst (λ (due : List WorldStep). DueBy due s t) (sym (ap (λ (b : Bool). if b then [] else item ∷ []) joined)) (λ e. elim (cases_eq e d) [
        | inl same ↦ subst (λ (n : ℕ). is_joined n t ≡ is_joined n s) (sym same) (here ∙ sym (before ∙ joined))
        | inr other ↦ others e other
      ])
      | inr out ↦ subst (λ (due : List WorldStep). DueBy due s t) (sym (ap (λ (b : Bool). if b then [] else item ∷ []) out)) (before ∙ out, here, others)
    ]

leave_due_by : (d : ℕ) (s t : State) (joined : Bool) → is_joined d s ≡ joined → is_joined d t ≡ false → ((e : ℕ) → e ≢ d → is_joined e t ≡ is_joined e s) → DueBy (if joined then Left d ∷ [] else []) s t
leave_due_by d s t true is here others = (is, here, others)
leave_due_by d s t false is here others = λ e. elim (cases_eq e d) [
  | inl same ↦ subst (λ (n : ℕ). is_joined n t ≡ is_joined n s) (sym same) (here ∙ sym is)
  | inr other ↦ others e other
]

stim_due_by : (x : WorldStim) (s : State) → DueBy (due_of x s) s (after_stim x s)
unfolding switch_of after_stim
stim_due_by (Join d) s = join_due_by d s (after_stim (Join d) s) (link_of d s.links) refl (joins_here d s.moment s.links) (λ e other. other_stays d e (link_joined s.moment) (keeps_joined s.moment) s.links other)
stim_due_by (Leave d) s = leave_due_by d s (after_stim (Leave d) s) (is_joined d s) refl (leaves_here d s.links) (λ e other. other_stays d e link_left keeps_left s.links other)
stim_due_by (At m) s = λ e. stimulated_all e (Advance m) s.links
stim_due_by (Of d x) s = λ e. stimulated_here d e x s.links

stim_due : (x : WorldStim) (s : State) → s.due ≡ [] → (after_stim x s).due ≡ due_of x s
unfolding after_stim
stim_due x s none = ap (λ (due : List WorldStep). due ++ due_of x s) none

-- ---- The item that is told next

upcoming_none : (t : State) → t.due ≡ [] → upcoming t ≡ waiting_in t.links
unfolding upcoming
upcoming_none t none = ap (λ (due : List WorldStep). due ++ waiting_in t.links) none

upcoming_one : (t : State) (item : WorldStep) → t.due ≡ item ∷ [] → slice_get (upcoming t) 0 ≡ Some item
unfolding upcoming
upcoming_one t item one = ap (λ (due : List WorldStep). slice_get (due ++ waiting_in t.links) 0) one

nil_front : (xs ys : List WorldStep) → xs ++ ys ≡ [] → xs ≡ []
nil_front [] ys none = refl
nil_front (x ∷ xs) ys none = absurd cc

none_upcoming : (t : State) → upcoming t ≡ [] → t.due ≡ []
unfolding upcoming
none_upcoming t none = nil_front t.due (waiting_in t.links) none

-- an item that is no message is the one that was due
the_one : (step : WorldStep) (s t : State) (due : List WorldStep) → of_switch (Some step) ≡ false → t.due ≡ due → DueBy due s t → slice_get (upcoming t) 0 ≡ Some step → OneDue step s t × (t.due ≡ step ∷ [])
the_one step s t [] other is by next =
    absurd (true≢false (sym (waiting_of t.links) ∙ ap (λ (xs : List WorldStep). of_switch (slice_get xs 0)) (sym (upcoming_none t is)) ∙ ap of_switch next ∙ other))
the_one step s t (item ∷ []) other is by next =
    let same : item ≡ step = some_same item step (sym (upcoming_one t item is) ∙ next) in
    (subst (λ (x : WorldStep). OneDue x s t) same by, is ∙ ap (λ (x : WorldStep). x ∷ []) same)
the_one step s t (item ∷ more ∷ rest) other is by next = absurd by

-- a message is told where nothing is due
message_due : (d : ℕ) (bytes : List ℕ) (s t : State) (due : List WorldStep) → t.due ≡ due → DueBy due s t → slice_get (upcoming t) 0 ≡ Some (From d bytes) → due ≡ []
message_due d bytes s t [] is by next = refl
message_due d bytes s t (item ∷ []) is by next = absurd (subst (λ (x : WorldStep). OneDue x s t) (some_same item (From d bytes) (sym (upcoming_one t item is) ∙ next)) by)
message_due d bytes s t (item ∷ more ∷ rest) is by next = absurd by

from_joined : (d e : ℕ) (bytes : List ℕ) (t : State) → is_joined e (after_step (From d bytes) t) ≡ is_joined e t
from_joined d e bytes t =
    elim (cases_eq e d) [
      | inl same ↦ subst (λ (n : ℕ). is_joined n (after_step (From d bytes) t) ≡ is_joined n t) (sym same) (ap (λ (o : Option SwitchState). is_some o) (switch_of-from d bytes t))
      | inr other ↦ ap (λ (o : Option SwitchState). is_some o) (switch_of-from_other d e bytes t other)
    ]

from_due : (d : ℕ) (bytes : List ℕ) (t : State) → (after_step (From d bytes) t).due ≡ t.due
unfolding after_step
from_due d bytes t = refl

from_told : (d : ℕ) (bytes : List ℕ) (s t : State) (views : List TableView) (due : List WorldStep) → t.due ≡ due → DueBy due s t → ((e : ℕ) → is_joined e s ≡ is_viewed e views) → Ascend 1 t.links → AllEmptyOut t.links → slice_get (upcoming t) 0 ≡ Some (From d bytes)
    → IsTold (From d bytes) (after_step (From d bytes) t) views
from_told d bytes s t views due is by viewed asc empty next =
    let none : due ≡ [] = message_due d bytes s t due is by next in
    let stays : (e : ℕ) → is_joined e t ≡ is_joined e s = subst (λ (xs : List WorldStep). DueBy xs s t) none by in
    let waits : slice_get (waiting_in t.links) 0 ≡ Some (From d bytes) = sym (ap (λ (xs : List WorldStep). slice_get xs 0) (upcoming_none t (is ∙ none))) ∙ next in
    record {
      others = λ e other. from_joined d e bytes t ∙ stays e ∙ viewed e;
      told_of = from_joined d d bytes t ∙ waits_joined d bytes t asc empty waits;
      none_due = from_due d bytes t ∙ is ∙ none;
    }

after_joined : (d e : ℕ) (bytes : List ℕ) (t : State) → is_joined e (after_step (Joined d bytes) t) ≡ is_joined e t
unfolding after_step switch_of
after_joined d e bytes t = refl

after_left : (d e : ℕ) (t : State) → is_joined e (after_step (Left d) t) ≡ is_joined e t
unfolding after_step switch_of
after_left d e t = refl

after_moment : (m e : ℕ) (t : State) → is_joined e (after_step (Moment m) t) ≡ is_joined e t
unfolding after_step switch_of
after_moment m e t = refl

joined_due : (d : ℕ) (bytes : List ℕ) (t : State) → t.due ≡ Joined d bytes ∷ [] → (after_step (Joined d bytes) t).due ≡ []
unfolding after_step
joined_due d bytes t one = ap (drop 1) one

left_due : (d : ℕ) (t : State) → t.due ≡ Left d ∷ [] → (after_step (Left d) t).due ≡ []
unfolding after_step
left_due d t one = ap (drop 1) one

moment_due : (m : ℕ) (t : State) → t.due ≡ Moment m ∷ [] → (after_step (Moment m) t).due ≡ []
unfolding after_step
moment_due m t one = ap (drop 1) one

is_other : (d e : ℕ) → (d == e) ≡ false → e ≢ d
is_other d e apart same = eqb-false d e apart (sym same)

joined_told : (d : ℕ) (bytes : List ℕ) (s t : State) (views : List TableView) (due : List WorldStep) → t.due ≡ due → DueBy due s t → ((e : ℕ) → is_joined e s ≡ is_viewed e views) → IsFeaturesOf d bytes → slice_get (upcoming t) 0 ≡ Some (Joined d bytes)
    → IsTold (Joined d bytes) (after_step (Joined d bytes) t) views
unfolding of_switch
joined_told d bytes s t views due is by viewed features next =
    let one = the_one (Joined d bytes) s t due refl is by next in
    record {
      others = λ e apart. after_joined d e bytes t ∙ one.0.2 e (is_other d e apart) ∙ viewed e;
      told_of = (after_joined d d bytes t ∙ one.0.1, sym (viewed d) ∙ one.0.0, features);
      none_due = joined_due d bytes t one.1;
    }

left_told : (d : ℕ) (s t : State) (views : List TableView) (due : List WorldStep) → t.due ≡ due → DueBy due s t → ((e : ℕ) → is_joined e s ≡ is_viewed e views) → slice_get (upcoming t) 0 ≡ Some (Left d) → IsTold (Left d) (after_step (Left d) t) views
unfolding of_switch
left_told d s t views due is by viewed next =
    let one = the_one (Left d) s t due refl is by next in
    record {
      others = λ e apart. after_left d e t ∙ one.0.2 e (is_other d e apart) ∙ viewed e;
      told_of = (after_left d d t ∙ one.0.1, sym (viewed d) ∙ one.0.0);
      none_due = left_due d t one.1;
    }

moment_told : (m : ℕ) (s t : State) (views : List TableView) (due : List WorldStep) → t.due ≡ due → DueBy due s t → ((e : ℕ) → is_joined e s ≡ is_viewed e views) → slice_get (upcoming t) 0 ≡ Some (Moment m) → IsTold (Moment m) (after_step (Moment m) t) views
unfolding of_switch
moment_told m s t views due is by viewed next =
    let one = the_one (Moment m) s t due refl is by next in
    record { others = λ e other. after_moment m e t ∙ one.0 e ∙ viewed e; told_of = tt; none_due = moment_due m t one.1 }

idle_told : (s t : State) (views : List TableView) (due : List WorldStep) → t.due ≡ due → DueBy due s t → ((e : ℕ) → is_joined e s ≡ is_viewed e views) → upcoming t ≡ [] → IsTold Idle (after_step Idle t) views
unfolding after_step switch_of
idle_told s t views due is by viewed none =
    let stays : (e : ℕ) → is_joined e t ≡ is_joined e s = subst (λ (xs : List WorldStep). DueBy xs s t) (sym is ∙ none_upcoming t none) by in
    record { others = λ e other. stays e ∙ viewed e; told_of = tt; none_due = none_upcoming t none }

end_told : (s t : State) (views : List TableView) (due : List WorldStep) → t.due ≡ due → DueBy due s t → ((e : ℕ) → is_joined e s ≡ is_viewed e views) → due ≡ [] → IsTold End (after_step End t) views
unfolding after_step switch_of
end_told s t views due is by viewed none =
    let stays : (e : ℕ) → is_joined e t ≡ is_joined e s = subst (λ (xs : List WorldStep). DueBy xs s t) none by in
    record { others = λ e other. stays e ∙ viewed e; told_of = tt; none_due = is ∙ none }

item_told : (Tells : Type 0) (declared : List Declared) (item : Item) (buf : List ℕ) (s t : State) (views : List TableView) (due : List WorldStep) → t.due ≡ due → DueBy due s t → (t.begun ≡ false → due ≡ []) → ((e : ℕ) → is_joined e s ≡ is_viewed e views)
    → Ascend 1 t.links → AllEmptyOut t.links → IsItemIn Tells item buf → MayCome declared (item_step item buf) t → IsTold (item_step item buf) (after_step (item_step item buf) t) views
unfolding item_step MayCome MayStep
item_told Tells declared (items.From d n) buf s t views due is by over viewed asc empty fits may = from_told d (take n buf) s t views due is by viewed asc empty may
item_told Tells declared (items.Joined d n) buf s t views due is by over viewed asc empty fits may = joined_told d (take n buf) s t views due is by viewed fits.2 may
item_told Tells declared (items.Left d) buf s t views due is by over viewed asc empty fits may = left_told d s t views due is by viewed may
item_told Tells declared (items.Moment m) buf s t views due is by over viewed asc empty fits may = moment_told m s t views due is by viewed may
item_told Tells declared items.Idle buf s t views due is by over viewed asc empty fits may = idle_told s t views due is by viewed may.1
item_told Tells declared items.End buf s t views due is by over viewed asc empty fits may = end_told s t views due is by viewed (over may.0)

begun_told : (Tells : Type 0) (declared : List Declared) (begun : Option WorldStim) (item : Item) (buf : List ℕ) (s : State) (views : List TableView) → s.due ≡ [] → ((e : ℕ) → is_joined e s ≡ is_viewed e views)
    → Ascend 1 (after_steps (stim_steps begun) s).links → AllEmptyOut (after_steps (stim_steps begun) s).links → IsItemIn Tells item buf → MayComeAll declared (stim_steps begun ++ item_step item buf ∷ []) s
    → IsTold (item_step item buf) (after_step (item_step item buf) (after_steps (stim_steps begun) s)) views
begun_told Tells declared None item buf s views none viewed asc empty fits may = item_told Tells declared item buf s s views [] none (λ e. refl) (λ over. refl) viewed asc empty fits may.0
begun_told Tells declared (Some x) item buf s views none viewed asc empty fits may =
    let after : after_step (Acted (Stim x)) s ≡ after_stim x s = stim_step x s in
    subst (λ (t : State). IsTold (item_step item buf) (after_step (item_step item buf) t) views) (sym after)
    (item_told Tells declared item buf s (after_stim x s) views (due_of x s) (stim_due x s none) (stim_due_by x s) (λ over. absurd (true≢false (sym (stim_begun x s) ∙ over))) viewed
    (subst (λ (t : State). Ascend 1 t.links) after asc) (subst (λ (t : State). AllEmptyOut t.links) after empty) fits (subst (λ (t : State). MayCome declared (item_step item buf) t) after may.1.0))

ascend_steps : {Own : Type 0} (seen : Seen Own) (steps : List WorldStep) → AreDeclaredFrom 1 seen.given.declared → Ascend 1 (after_steps steps (state seen)).links
ascend_steps seen steps declared =
    let next : Seen _ = record seen { history = seen.history ++ steps } in
    subst (λ (s : State). Ascend 1 s.links) (state-append seen next steps refl refl) (subst (λ (ds : List Declared). AreDeclaredFrom 1 ds) (sym (state-links next).declared_is) declared)

-- what was appended to what was seen
pub next_may : {Own Tells : Type 0} {old mid : Seen Own} {item : Item} {buf : List ℕ} (told : Tells) (call : Nexts Tells old mid (Ok item) buf) → InOrder mid → MayComeAll old.given.declared (stim_steps (call.told told).begun ++ item_step item buf ∷ []) (state old)
unfolding next_steps
next_may {old = old} {mid = mid} {item = item} {buf = buf} told call order = InOrder-rest old mid (stim_steps (call.told told).begun ++ item_step item buf ∷ []) call.given (call.told told).history order

-- What is told next to a host that keeps up.
pub next_tells : {Own Tells : Type 0} {old mid : Seen Own} {item : Item} {buf : List ℕ} (net : NetState) → Nexts Tells old mid (Ok item) buf → Tells → InOrder mid → Abreast old net → IsTold (item_step item buf) (state mid) net.views
next_tells {Tells = Tells} {old = old} {mid = mid} {item = item} {buf = buf} net call told order abreast =
    let begun = (call.told told).begun in
    let before = InOrder-before told (Nexts-continues call) order in
    subst (λ (s : State). IsTold (item_step item buf) s net.views) (sym (Nexts-state item told call))
    (begun_told Tells old.given.declared begun item buf (state old) net.views abreast.none_due abreast.joined (ascend_steps old (stim_steps begun) before.declared) (steps_empty (stim_steps begun) (state old) (state_empty old)) call.item (next_may told call order))
