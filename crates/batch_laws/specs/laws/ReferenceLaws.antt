-- What the reference controller has in the places of the declared switches, and the events of its stimuli, switch by switch.
use Rattle.std.proofs.Common.{◌≡◌, ◌==◌, ℕ, ◌+◌, ◌<◌, ◌≤◌, true, false, List, [], ◌∷◌, ◌++◌, map, Option, Some, refl, sym, ap, ap₂, ◌∙◌, subst, inl, inr, arith}
use Rattle.std.proofs.lemmas.Bool.{cases_Bool, eqb-true, eqb-false, eq-eqb, ne_eqb}
use Rattle.std.proofs.lemmas.List.{append-nil}
use Rattle.std.specs.List.{AllByRecursion, flat_map}
use Rattle.std.specs.Option.{option_map}
use Rattle.std.proofs.lemmas.Option.{same_Some}
use Rattle.of_types.specs.declared.journal.Stimulus.{Stimulus}
use Rattle.flow_table.specs.View.{TableView}
use Rattle.flow_table.specs.Switch.{Declared, SwitchState}
use Rattle.undo_laws.specs.CorrectedSwitch.{corrected_switch}
use Rattle.app_frames.specs.declared.frame.Event.{Event}
use Rattle.lego_model.specs.Places.{Place}
use Rattle.lego_model.specs.Controller.{events_at, sent_events}
use Rattle.outside.specs.declared.step.WorldStep.{WorldStep}
use Rattle.outside.specs.declared.step.WorldStep.TheVariants.{From}
use Rattle.outside.specs.Seen.{is_declared}
use Rattle.outside.specs.State.{Link, link_of, switch_in, with_link, link_stimulated, stimulus_sends, declared_in}
use Rattle.outside.specs.Conforming.{AreDeclaredFrom}
use Rattle.switch_laws.specs.Shown.{places, corrections}
use Rattle.batch_laws.specs.LinkTells.{items_of, seen_events}
use Rattle.batch_laws.specs.Waiting.{place_at, events_of_one, HasLink, waiting, NoneWait}
use Rattle.net_txn.specs.laws.SaidLaws.{all_weaker}

-- ---- Lists

pub all-of : {X : Type 0} (P : X → Type 0) → ((x : X) → P x) → (xs : List X) → AllByRecursion P xs
all-of P each [] = tt
all-of P each (x ∷ xs) = (each x, all-of P each xs)

-- ---- Places

pub place-map : (change : Place → Place) (g now : ℕ → Option SwitchState) (ds : List Declared) → AllByRecursion (λ d. change (place_at g d) ≡ place_at now d) ds → map change (places g ds) ≡ places now ds
place-map change g now [] h = refl
place-map change g now (d ∷ ds) h = ap₂ (λ (p : Place) ps. p ∷ ps) h.0 (place-map change g now ds h.1)

-- ---- Events

flat-none : (d : ℕ) (f : Place → List Event) (g : ℕ → Option SwitchState) (least : ℕ) (ds : List Declared) → AreDeclaredFrom least ds → d < least → flat_map (events_of_one d f) (places g ds) ≡ []
flat-none d f g least [] are lt = refl
flat-none d f g least (x ∷ xs) are lt =
    let apart : (x.dpid == d) ≡ false = ne_eqb x.dpid d (λ same. omega (arith, same, are.0, lt)) in
    rw apart (flat-none d f g (x.dpid + 1) xs are.2 (omega (arith, are.0, lt)))

pub flat-one : (d : ℕ) (f : Place → List Event) (g : ℕ → Option SwitchState) (events : List Event) (least : ℕ) (ds : List Declared) → AreDeclaredFrom least ds → is_declared d ds ≡ true → AllByRecursion (λ x. x.dpid ≡ d → f (place_at g x) ≡ events) ds
    → flat_map (events_of_one d f) (places g ds) ≡ events
flat-one d f g events least [] are is each = absurd cc
flat-one d f g events least (x ∷ xs) are is each =
    elim (cases_Bool (x.dpid == d)) [
      | inl here ↦
          let none = flat-none d f g (x.dpid + 1) xs are.2 (omega (arith, eqb-true x.dpid d here)) in
          rw here (ap (λ (es : List Event). f (place_at g x) ++ es) none ∙ append-nil (f (place_at g x)) ∙ each.0 (eqb-true x.dpid d here))
      | inr other ↦ rw other (flat-one d f g events (x.dpid + 1) xs are.2 (rw other at is) each.1)
    ]

pub flat-alike : (f h : Place → List Event) → ((p : Place) → f p ≡ h p) → (ps : List Place) → flat_map f ps ≡ flat_map h ps
flat-alike f h same [] = refl
flat-alike f h same (p ∷ ps) = ap₂ (λ (xs : List Event) ys. xs ++ ys) (same p) (flat-alike f h same ps)

-- of all switches
pub events-links : (x : Stimulus) (g : ℕ → Option SwitchState) (views : List TableView) (ls : List Link) → AllByRecursion (λ l. g l.declared.dpid ≡ option_map (corrected_switch (corrections views l.declared.dpid)) l.switch) ls
    → flat_map (events_at x) (places g (declared_in ls)) ≡ flat_map (seen_events x views) ls
events-links x g views [] h = refl
events-links x g views (l ∷ ls) h = ap₂ (λ (o : Option SwitchState) es. sent_events x l.declared.dpid o ++ es) h.0 (events-links x g views ls h.1)

-- ---- Declared switches and links by their numbers

all-from : (least : ℕ) (ds : List Declared) → AreDeclaredFrom least ds → AllByRecursion (λ d. least ≤ d.dpid) ds
all-from least [] are = tt
all-from least (d ∷ ds) are = (are.0, all_weaker (λ x. d.dpid + 1 ≤ x.dpid) (λ x. least ≤ x.dpid) (λ x low. omega (arith, low, are.0)) ds (all-from (d.dpid + 1) ds are.2))

links-from : (least : ℕ) (ls : List Link) → AreDeclaredFrom least (declared_in ls) → AllByRecursion (λ l. least ≤ l.declared.dpid) ls
links-from least [] are = tt
links-from least (l ∷ ls) are =
    (are.0, all_weaker (λ m. l.declared.dpid + 1 ≤ m.declared.dpid) (λ m. least ≤ m.declared.dpid) (λ m low. omega (arith, low, are.0)) ls (links-from (l.declared.dpid + 1) ls are.2))

-- each link is found under its number
pub links-found : (least : ℕ) (ls : List Link) → AreDeclaredFrom least (declared_in ls) → AllByRecursion (λ l. link_of l.declared.dpid ls ≡ Some l) ls
links-found least [] are = tt
links-found least (l ∷ ls) are =
    let first : link_of l.declared.dpid (l ∷ ls) ≡ Some l = rw (eq-eqb l.declared.dpid l.declared.dpid refl) refl in
    let low = links-from (l.declared.dpid + 1) ls are.2 in
    (first, both ls low (links-found (l.declared.dpid + 1) ls are.2))
  where
    later : (m : Link) → l.declared.dpid + 1 ≤ m.declared.dpid → link_of m.declared.dpid ls ≡ Some m → link_of m.declared.dpid (l ∷ ls) ≡ Some m
    later m low is =
        let apart : (l.declared.dpid == m.declared.dpid) ≡ false = ne_eqb l.declared.dpid m.declared.dpid (λ same. omega (arith, same, low)) in
        rw apart is

    both : (ms : List Link) → AllByRecursion (λ m. l.declared.dpid + 1 ≤ m.declared.dpid) ms → AllByRecursion (λ m. link_of m.declared.dpid ls ≡ Some m) ms → AllByRecursion (λ m. link_of m.declared.dpid (l ∷ ls) ≡ Some m) ms
    both [] h g = tt
    both (m ∷ ms) h g = (later m h.0 g.0, both ms h.1 g.1)

-- a declared switch of the number of a link is the link's
pub declared-found : (d least : ℕ) (ls : List Link) (l : Link) → AreDeclaredFrom least (declared_in ls) → link_of d ls ≡ Some l → AllByRecursion (λ x. x.dpid ≡ d → x ≡ l.declared) (declared_in ls)
declared-found d least [] l are is = tt
declared-found d least (m ∷ ms) l are is =
    elim (cases_Bool (m.declared.dpid == d)) [
      | inl here ↦
          let this : m ≡ l = same_Some m l (rw here at is) in
          let e : m.declared.dpid ≡ d = eqb-true m.declared.dpid d here in (
            (λ same. ap (λ (y : Link). y.declared) this),
            all_weaker (λ x. m.declared.dpid + 1 ≤ x.dpid) (λ x. x.dpid ≡ d → x ≡ l.declared) (λ x low same. absurd (apart x e low same)) (declared_in ms) (all-from (m.declared.dpid + 1) (declared_in ms) are.2),
          )
      | inr other ↦ (
        (λ same. absurd (eqb-false m.declared.dpid d other same)),
        declared-found d (m.declared.dpid + 1) ms l are.2 (rw other at is),
      )
    ]
  where
    apart : (x : Declared) → m.declared.dpid ≡ d → m.declared.dpid + 1 ≤ x.dpid → x.dpid ≡ d → ⊥
    apart x e low same = omega (arith, e, low, same)

pub has-link : (d : ℕ) (ls : List Link) → is_declared d (declared_in ls) ≡ true → HasLink d ls
has-link d [] is = absurd cc
has-link d (l ∷ ls) is =
    elim (cases_Bool (l.declared.dpid == d)) [
      | inl here ↦ record { link = l; link_is = rw here refl; number = eqb-true l.declared.dpid d here }
      | inr other ↦
          let h = has-link d ls (rw other at is) in
          record { link = h.link; link_is = rw other h.link_is; number = h.number }
    ]

-- what all links have in common has the one of a number
pub all-at : (P : Link → Type 0) (d : ℕ) (ls : List Link) (l : Link) → AllByRecursion P ls → link_of d ls ≡ Some l → P l × (l.declared.dpid ≡ d)
all-at P d [] l h is = absurd cc
all-at P d (m ∷ ms) l h is =
    elim (cases_Bool (m.declared.dpid == d)) [
      | inl here ↦
          let this : m ≡ l = same_Some m l (rw here at is) in
          (subst P this h.0, ap (λ (y : Link). y.declared.dpid) (sym this) ∙ eqb-true m.declared.dpid d here)
      | inr other ↦ all-at P d ms l h.1 (rw other at is)
    ]

pub link_of-map : (g : Link → Link) → ((l : Link) → (g l).declared ≡ l.declared) → (d : ℕ) (ls : List Link) → link_of d (map g ls) ≡ option_map g (link_of d ls)
link_of-map g keeps d [] = refl
link_of-map g keeps d (l ∷ ls) =
    let same : ((g l).declared.dpid == d) ≡ (l.declared.dpid == d) = ap (λ (x : Declared). x.dpid == d) (keeps l) in
    elim (cases_Bool (l.declared.dpid == d)) [
      | inl here ↦ rw (same ∙ here, here) refl
      | inr other ↦ rw (same ∙ other, other) (link_of-map g keeps d ls)
    ]

-- ---- What waits

waiting-none : (l : Link) → l.waits ≡ [] → waiting l ≡ []
waiting-none l h = ap (map (From l.declared.dpid)) h

pub none-waiting : (ls : List Link) → NoneWait ls → flat_map waiting ls ≡ []
none-waiting [] h = refl
none-waiting (l ∷ ls) h = ap₂ (λ (xs : List WorldStep) ys. xs ++ ys) (waiting-none l h.0) (none-waiting ls h.1)

-- after something happened to all
pub waiting-all : (x : Stimulus) (ls : List Link) → NoneWait ls → flat_map waiting (map (link_stimulated x) ls) ≡ flat_map (items_of x) ls
unfolding link_stimulated
waiting-all x [] h = refl
waiting-all x (l ∷ ls) h = ap₂ (λ (ws : List (List ℕ)) ys. map (From l.declared.dpid) (ws ++ stimulus_sends x l.switch) ++ ys) h.0 (waiting-all x ls h.1)

-- after something happened to one
pub waiting-one : (d : ℕ) (x : Stimulus) (ls : List Link) → NoneWait ls → flat_map waiting (with_link d (link_stimulated x) ls) ≡ map (From d) (stimulus_sends x (switch_in (link_of d ls)))
unfolding link_stimulated
waiting-one d x [] h = refl
waiting-one d x (l ∷ ls) h =
    elim (cases_Bool (l.declared.dpid == d)) [
      | inl here ↦
          rw here
          (ap₂ (λ (ws : List (List ℕ)) ys. map (From l.declared.dpid) (ws ++ stimulus_sends x l.switch) ++ ys) h.0 (none-waiting ls h.1)
          ∙ append-nil (map (From l.declared.dpid) (stimulus_sends x l.switch))
          ∙ ap (λ (n : ℕ). map (From n) (stimulus_sends x l.switch)) (eqb-true l.declared.dpid d here))
      | inr other ↦ rw other (ap₂ (λ (xs : List WorldStep) ys. xs ++ ys) (waiting-none l h.0) (waiting-one d x ls h.1))
    ]

-- where it joins or leaves nothing waits either
pub waiting-silent : (d : ℕ) (g : Link → Link) → ((l : Link) → l.waits ≡ [] → (g l).waits ≡ []) → (ls : List Link) → NoneWait ls → NoneWait (with_link d g ls)
waiting-silent d g keeps [] h = tt
waiting-silent d g keeps (l ∷ ls) h =
    elim (cases_Bool (l.declared.dpid == d)) [
      | inl here ↦ rw here (keeps l h.0, h.1)
      | inr other ↦ rw other (h.0, waiting-silent d g keeps ls h.1)
    ]
