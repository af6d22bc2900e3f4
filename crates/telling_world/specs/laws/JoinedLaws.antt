-- Laws of which switches a history leaves joined, where any switch may come.
use Rattle.std.specs.Prelude.{◌≡◌, ◌≢◌, ℕ, ◌==◌, ◌<◌, Bool, true, false, not, ◌&&◌, ◌||◌, List, [], ◌∷◌, ◌++◌, map, filter, Option, Some, None, Result, Ok, Err, if◌then◌else◌, refl}
use Rattle.std.specs.List.{list_any}
use Rattle.std.specs.Option.{is_some, option_map}
use Rattle.std.proofs.Common.{zero, suc, sym, ap, ◌∙◌, subst, inl, inr, arith}
use Rattle.std.proofs.lemmas.Bool.{cases_eq, eq-eqb, eqb-true, ne_eqb, false≢true}
use Rattle.of_types.specs.declared.journal.Act.TheVariants.{Stim, Sent, Got}
use Rattle.of_types.specs.declared.journal.WorldStim.TheVariants.{Join, Leave, At}
use Rattle.of_types.specs.declared.journal.Stimulus.{Stimulus}
use Rattle.of_types.specs.declared.journal.Stimulus.TheVariants.{Advance}
use Rattle.of_types.specs.Membership.{is_among}
use Rattle.of_wire.specs.declared.message.Envelope.{Envelope}
use Rattle.of_wire.specs.declared.fault.WireFault.{WireFault}
use Rattle.of_wire.specs.Reading.{reading_of}
use Rattle.flow_table.specs.Switch.{Declared, SwitchState}
use Rattle.flow_table.specs.Step.{after_stimulus}
use Rattle.outside.specs.declared.step.WorldStep.TheVariants.{Acted, From, Joined, Left, Moment, Idle, End, NextFailed, SendLost, RecvLost, SendFailed, RecvFailed}
use Rattle.outside.specs.State.{Link, State, state, at_first, link_at_first, link_of, switch_in, switch_of, switch_told, switch_joined, is_joined, declared_in, link_joined, link_left, link_stimulated, after_stim, after_act, after_step, after_steps}
use Rattle.outside.specs.laws.LinkLaws.{KeepsDeclared, link_of-same, link_of-other, switch_of-sent, switch_of-sent_other, switch_of-got, switch_of-got_other, switch_of-from, switch_of-from_other, switch_of-send_lost, switch_of-send_lost_other, switch_of-recv_lost, switch_of-recv_lost_other, switch_of-send_failed, switch_of-recv_failed}
use Rattle.outside.specs.laws.LinkKeptLaws.{keeps_joined, keeps_left, keeps_stimulated}
use Rattle.telling_world.specs.Story.{nameless, numbered, told_given, untold, seen_of, Lists}
use Rattle.outside.specs.declared.call.FailCall.{FailCall}
use Rattle.outside.specs.Calls.{unsent, unreceived}

-- ---- A step moves one switch

-- one of them is joined, or not, as this says; the others are as they were
pub record Moves (d : ℕ) (here : Bool) (old new : State) : Type 0 where
  pub same : is_joined d new ≡ here
  pub other : (e : ℕ) → e ≢ d → is_joined e new ≡ is_joined e old

-- all are as they were
abbrev pub AllStay : State → State → Type 0
AllStay old new = (e : ℕ) → is_joined e new ≡ is_joined e old

-- a list that goes with what is joined, below a bound
abbrev pub GoesWith : ℕ → List ℕ → State → Type 0
GoesWith n joined s = (e : ℕ) → e < n → is_joined e s ≡ is_among e joined

pub goes-moved : (n d : ℕ) (here : Bool) (joined after : List ℕ) (old new : State) → GoesWith n joined old → Moves d here old new → Lists d here joined after → GoesWith n after new
goes-moved n d here joined after old new goes moves lists e few =
    elim (cases_eq e d) [
      | inl same ↦ subst (λ (m : ℕ). is_joined m new ≡ is_among m after) (sym same) (moves.same ∙ sym lists.same)
      | inr other ↦ moves.other e other ∙ goes e few ∙ sym (lists.other e other)
    ]

pub goes-stayed : (n : ℕ) (joined : List ℕ) (old new : State) → GoesWith n joined old → AllStay old new → GoesWith n joined new
goes-stayed n joined old new goes stay e few = stay e ∙ goes e few

-- ---- Messages

pub sent_stays : (d : ℕ) (bytes : List ℕ) (s : State) → AllStay s (after_step (Acted (Sent d bytes)) s)
sent_stays d bytes s e =
    elim (cases_eq d e) [
      | inl same ↦ subst (λ (n : ℕ). is_joined n (after_step (Acted (Sent d bytes)) s) ≡ is_joined n s) same (ap (λ (o : Option SwitchState). is_some o) (switch_of-sent d bytes s) ∙ told_joined (reading_of bytes) (switch_of d s))
      | inr other ↦ ap (λ (o : Option SwitchState). is_some o) (switch_of-sent_other d e bytes s (λ same. other (sym same)))
    ]
  where
    told_joined : (r : Result Envelope WireFault) (o : Option SwitchState) → is_some (switch_told r o) ≡ is_some o
    told_joined (Ok e) None = refl
    told_joined (Ok e) (Some s) = refl
    told_joined (Err fault) o = refl

pub got_stays : (d : ℕ) (bytes : List ℕ) (s : State) → AllStay s (after_step (Acted (Got d bytes)) s)
got_stays d bytes s e =
    elim (cases_eq d e) [
      | inl same ↦ subst (λ (n : ℕ). is_joined n (after_step (Acted (Got d bytes)) s) ≡ is_joined n s) same (ap (λ (o : Option SwitchState). is_some o) (switch_of-got d bytes s))
      | inr other ↦ ap (λ (o : Option SwitchState). is_some o) (switch_of-got_other d e bytes s (λ same. other (sym same)))
    ]

pub from_stays : (d : ℕ) (bytes : List ℕ) (s : State) → AllStay s (after_step (From d bytes) s)
from_stays d bytes s e =
    elim (cases_eq d e) [
      | inl same ↦ subst (λ (n : ℕ). is_joined n (after_step (From d bytes) s) ≡ is_joined n s) same (ap (λ (o : Option SwitchState). is_some o) (switch_of-from d bytes s))
      | inr other ↦ ap (λ (o : Option SwitchState). is_some o) (switch_of-from_other d e bytes s (λ same. other (sym same)))
    ]

pub send_lost_moves : (d : ℕ) (s : State) → Moves d false s (after_step (SendLost d) s)
send_lost_moves d s = record {
  same = ap (λ (o : Option SwitchState). is_some o) (switch_of-send_lost d s);
  other = λ e other. ap (λ (o : Option SwitchState). is_some o) (switch_of-send_lost_other d e s other);
}

pub recv_lost_moves : (d : ℕ) (s : State) → Moves d false s (after_step (RecvLost d) s)
recv_lost_moves d s = record {
  same = ap (λ (o : Option SwitchState). is_some o) (switch_of-recv_lost d s);
  other = λ e other. ap (λ (o : Option SwitchState). is_some o) (switch_of-recv_lost_other d e s other);
}

pub send_failed_stays : (d : ℕ) (s : State) → AllStay s (after_step (SendFailed d) s)
send_failed_stays d s e = ap (λ (o : Option SwitchState). is_some o) (switch_of-send_failed d e s)

pub recv_failed_stays : (d : ℕ) (s : State) → AllStay s (after_step (RecvFailed d) s)
recv_failed_stays d s e = ap (λ (o : Option SwitchState). is_some o) (switch_of-recv_failed d e s)

-- ---- A switch that joins, leaves, or hears the moment

-- Each number has a switch.
abbrev pub has_link : ℕ → List Link → Bool
has_link d ls = list_any (λ x. x.dpid == d) (declared_in ls)

found_at : (d : ℕ) (l : Link) (ls : List Link) → is_some (link_of d ls) ≡ has_link d ls → (here : Bool) → (l.declared.dpid == d) ≡ here
    → is_some (if here then Some l else link_of d ls) ≡ (here || has_link d ls)
found_at d l ls rest true e = refl
found_at d l ls rest false e = rest

pub link_found : (d : ℕ) (ls : List Link) → is_some (link_of d ls) ≡ has_link d ls
link_found d [] = refl
link_found d (l ∷ ls) = found_at d l ls (link_found d ls) (l.declared.dpid == d) refl

any_append : (d : ℕ) (xs ys : List Declared) → list_any (λ x. x.dpid == d) (xs ++ ys) ≡ (list_any (λ x. x.dpid == d) xs || list_any (λ x. x.dpid == d) ys)
any_append d [] ys = refl
any_append d (x ∷ xs) ys = ap (λ (b : Bool). (x.dpid == d) || b) (any_append d xs ys) ∙ grouped (x.dpid == d) (list_any (λ x. x.dpid == d) xs) (list_any (λ x. x.dpid == d) ys)
  where
    grouped : (a b c : Bool) → (a || (b || c)) ≡ ((a || b) || c)
    grouped true b c = refl
    grouped false b c = refl

-- below the bound each number has one
none : (d : ℕ) → ¬ (d < 0)
none d few = omega (arith, few)

pub numbered_at : (n d : ℕ) → d < n → (list_any (λ x. x.dpid == d) (numbered n)) ≡ true
unfolding numbered
numbered_at zero d few = absurd (none d few)
numbered_at (suc n) d few =
    any_append d (numbered n) (nameless n ∷ [])
    ∙ elim (cases_eq n d) [
      | inl same ↦ ap (λ (b : Bool). list_any (λ x. x.dpid == d) (numbered n) || (b || false)) (eq-eqb n d same) ∙ true_behind (list_any (λ x. x.dpid == d) (numbered n))
      | inr other ↦ ap (λ (b : Bool). b || ((n == d) || false)) (numbered_at n d (below n d few other))
    ]
  where
    true_behind : (b : Bool) → (b || true) ≡ true
    true_behind true = refl
    true_behind false = refl

    below : (n d : ℕ) → d < suc n → n ≢ d → d < n
    below n d few other = omega (arith, few, other)

join_in : (moment : ℕ) (o : Option Link) → is_some o ≡ true → is_some (switch_in (option_map (link_joined moment) o)) ≡ true
unfolding link_joined
join_in moment None is = absurd cc
join_in moment (Some l) is = joins l.switch
  where
    joins : (o : Option SwitchState) → is_some (switch_joined moment l.declared o) ≡ true
    joins None = refl
    joins (Some s) = refl

pub join_moves : (d : ℕ) (bytes : List ℕ) (s : State) → has_link d s.links ≡ true → Moves d true s (after_steps (Acted (Stim (Join d)) ∷ Joined d bytes ∷ []) s)
unfolding switch_of after_step after_act after_stim
join_moves d bytes s has = record {
  same = ap (λ (o : Option Link). is_some (switch_in o)) (link_of-same d (link_joined s.moment) (keeps_joined s.moment) s.links) ∙ join_in s.moment (link_of d s.links) (link_found d s.links ∙ has);
  other = λ e other. ap (λ (o : Option Link). is_some (switch_in o)) (link_of-other d e (link_joined s.moment) (keeps_joined s.moment) other s.links);
}

pub leave_moves : (d : ℕ) (s : State) → Moves d false s (after_steps (Acted (Stim (Leave d)) ∷ Left d ∷ []) s)
unfolding switch_of after_step after_act after_stim link_left
leave_moves d s = record {
  same = ap (λ (o : Option Link). is_some (switch_in o)) (link_of-same d link_left keeps_left s.links) ∙ left_out (link_of d s.links);
  other = λ e other. ap (λ (o : Option Link). is_some (switch_in o)) (link_of-other d e link_left keeps_left other s.links);
}
  where
    left_out : (o : Option Link) → is_some (switch_in (option_map link_left o)) ≡ false
    left_out None = refl
    left_out (Some l) = refl

mapped_at : (e : ℕ) (change : Link → Link) → KeepsDeclared change → (l : Link) (ls : List Link) → link_of e (map change ls) ≡ option_map change (link_of e ls)
    → (here : Bool) → (l.declared.dpid == e) ≡ here → link_of e (change l ∷ map change ls) ≡ option_map change (if here then Some l else link_of e ls)
mapped_at e change keeps l ls rest true is = rw (keeps l, is) refl
mapped_at e change keeps l ls rest false is = rw (keeps l, is) rest

link_of-map : (e : ℕ) (change : Link → Link) → KeepsDeclared change → (ls : List Link) → link_of e (map change ls) ≡ option_map change (link_of e ls)
link_of-map e change keeps [] = refl
link_of-map e change keeps (l ∷ ls) = mapped_at e change keeps l ls (link_of-map e change keeps ls) (l.declared.dpid == e) refl

pub moment_stays : (t : ℕ) (s : State) → AllStay s (after_steps (Acted (Stim (At t)) ∷ Moment t ∷ []) s)
unfolding switch_of after_step after_act after_stim link_stimulated
moment_stays t s e =
    ap (λ (o : Option Link). is_some (switch_in o)) (link_of-map e (link_stimulated (Advance t)) (keeps_stimulated (Advance t)) s.links) ∙ stimulated_in (Advance t) (link_of e s.links)
  where
    stays : (x : Stimulus) (o : Option SwitchState) → is_some (option_map (after_stimulus x) o) ≡ is_some o
    stays x None = refl
    stays x (Some s) = refl

    stimulated_in : (x : Stimulus) (o : Option Link) → is_some (switch_in (option_map (link_stimulated x) o)) ≡ is_some (switch_in o)
    stimulated_in x None = refl
    stimulated_in x (Some l) = stays x l.switch

pub idle_stays : (s : State) → AllStay s (after_steps (Idle ∷ []) s)
unfolding switch_of after_step
idle_stays s e = refl

pub end_stays : (s : State) → AllStay s (after_steps (End ∷ []) s)
unfolding switch_of after_step
end_stays s e = refl

pub failed_stays : (s : State) → AllStay s (after_steps (NextFailed ∷ []) s)
unfolding switch_of after_step
failed_stays s e = refl

-- A call that fails leaves the switch out, whether it was joined or not.
pub unsent_moves : (d : ℕ) (s : State) → Moves d false s (after_steps (unsent d (is_joined d s) ∷ []) s)
unsent_moves d s = by (is_joined d s) refl
  where
    by : (b : Bool) → is_joined d s ≡ b → Moves d false s (after_steps (unsent d b ∷ []) s)
    by true was = send_lost_moves d s
    by false was = record { same = send_failed_stays d s d ∙ was; other = λ e other. send_failed_stays d s e }

pub unreceived_moves : (d : ℕ) (s : State) → Moves d false s (after_steps (unreceived d (is_joined d s) ∷ []) s)
unreceived_moves d s = by (is_joined d s) refl
  where
    by : (b : Bool) → is_joined d s ≡ b → Moves d false s (after_steps (unreceived d b ∷ []) s)
    by true was = recv_lost_moves d s
    by false was = record { same = recv_failed_stays d s d ∙ was; other = λ e other. recv_failed_stays d s e }

-- ---- At first

pub declared_first : (fails : List FailCall) (ds : List Declared) → declared_in (map (link_at_first fails) ds) ≡ ds
declared_first fails [] = refl
declared_first fails (d ∷ ds) = ap (λ (xs : List Declared). d ∷ xs) (declared_first fails ds)

none_in : (fails : List FailCall) (d : ℕ) (ds : List Declared) → is_some (switch_in (link_of d (map (link_at_first fails) ds))) ≡ false
none_in fails d [] = refl
none_in fails d (x ∷ ds) = by (x.dpid == d) (none_in fails d ds)
  where
    by : (here : Bool) → is_some (switch_in (link_of d (map (link_at_first fails) ds))) ≡ false → is_some (switch_in (if here then Some (link_at_first fails x) else link_of d (map (link_at_first fails) ds))) ≡ false
    by true rest = refl
    by false rest = rest

-- no switch is joined
pub none_first : (d : ℕ) → is_joined d (state (seen_of untold)) ≡ false
unfolding switch_of state at_first seen_of
none_first d = none_in told_given.fails d told_given.declared

-- ---- The list of those that are joined

any_end : (d : ℕ) (joined : List ℕ) (e : ℕ) → is_among e (joined ++ d ∷ []) ≡ (is_among e joined || ((d == e) || false))
any_end d [] e = refl
any_end d (j ∷ joined) e = ap (λ (b : Bool). (j == e) || b) (any_end d joined e) ∙ grouped (j == e) (is_among e joined) ((d == e) || false)
  where
    grouped : (a b c : Bool) → (a || (b || c)) ≡ ((a || b) || c)
    grouped true b c = refl
    grouped false b c = refl

pub among_more : (d : ℕ) (joined : List ℕ) → Lists d true joined (joined ++ d ∷ [])
among_more d joined = record {
  same = any_end d joined d ∙ ap (λ (b : Bool). is_among d joined || (b || false)) (eq-eqb d d refl) ∙ true_behind (is_among d joined);
  other = λ e other. any_end d joined e ∙ ap (λ (b : Bool). is_among e joined || (b || false)) (ne_eqb d e (λ same. other (sym same))) ∙ false_behind (is_among e joined);
}
  where
    true_behind : (b : Bool) → (b || true) ≡ true
    true_behind true = refl
    true_behind false = refl

    false_behind : (b : Bool) → (b || false) ≡ b
    false_behind true = refl
    false_behind false = refl

-- one that is there already
pub among_there : (d : ℕ) (joined : List ℕ) → is_among d joined ≡ true → Lists d true joined joined
among_there d joined there = record { same = there; other = λ e other. refl }

kept_at : (d e j : ℕ) (joined : List ℕ) → is_among e (filter (λ m. not (m == d)) joined) ≡ (is_among e joined && not (d == e)) → (here : Bool) → (j == d) ≡ here
    → is_among e (if not here then j ∷ filter (λ m. not (m == d)) joined else filter (λ m. not (m == d)) joined) ≡ (((j == e) || is_among e joined) && not (d == e))
kept_at d e j joined rest true is = rest ∙ out_so (j == e) (d == e) (is_among e joined) (λ here. ap (λ (n : ℕ). n == e) (sym (eqb-true j d is)) ∙ here)
  where
    out_so : (a b c : Bool) → (a ≡ true → b ≡ true) → (c && not b) ≡ ((a || c) && not b)
    out_so true true true so = refl
    out_so true true false so = refl
    out_so true false c so = absurd (false≢true (so refl))
    out_so false b c so = refl
kept_at d e j joined rest false is = ap (λ (b : Bool). (j == e) || b) rest ∙ in_so (j == e) (d == e) (is_among e joined) (λ here. ne_eqb d e (λ same. false≢true (sym is ∙ eq-eqb j d (eqb-true j e here ∙ sym same))))
  where
    in_so : (a b c : Bool) → (a ≡ true → b ≡ false) → (a || (c && not b)) ≡ ((a || c) && not b)
    in_so true b c so = rw (so refl) refl
    in_so false b c so = refl

kept_among : (d e : ℕ) (joined : List ℕ) → is_among e (filter (λ m. not (m == d)) joined) ≡ (is_among e joined && not (d == e))
kept_among d e [] = refl
kept_among d e (j ∷ joined) = kept_at d e j joined (kept_among d e joined) (j == d) refl

pub among_without : (d : ℕ) (joined : List ℕ) → Lists d false joined (filter (λ m. not (m == d)) joined)
among_without d joined = record {
  same = kept_among d d joined ∙ ap (λ (b : Bool). is_among d joined && not b) (eq-eqb d d refl) ∙ false_behind (is_among d joined);
  other = λ e other. kept_among d e joined ∙ ap (λ (b : Bool). is_among e joined && not b) (ne_eqb d e (λ same. other (sym same))) ∙ true_behind (is_among e joined);
}
  where
    false_behind : (b : Bool) → (b && false) ≡ false
    false_behind true = refl
    false_behind false = refl

    true_behind : (b : Bool) → (b && true) ≡ b
    true_behind true = refl
    true_behind false = refl
