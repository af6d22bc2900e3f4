-- What each call of an application does to lives.
use Rattle.std.specs.Prelude.{◌≡◌, ◌≢◌, ℕ, Bool, true, false, List, [], ◌∷◌, ◌++◌, Result, Ok, Err, refl}
use Rattle.std.proofs.Common.{sym, ap, ◌∙◌, subst}
use Rattle.std.proofs.lemmas.Bool.{ne_eqb, eq-eqb, false≢true}
use Rattle.std.proofs.lemmas.List.{append-nil}
use Rattle.outside.specs.declared.faults.Short.{Short}
use Rattle.outside.specs.declared.faults.StartFault.{StartFault}
use Rattle.outside.specs.declared.faults.StartFault.TheVariants as starting
use Rattle.outside.specs.declared.faults.GiveFault.{GiveFault}
use Rattle.outside.specs.declared.faults.GiveFault.TheVariants as giving
use Rattle.outside.specs.declared.item.Taken.{Taken}
use Rattle.outside.specs.declared.item.Taken.TheVariants as gave
use Rattle.outside.specs.declared.step.WorldStep.{WorldStep}
use Rattle.outside.specs.Seen.{Seen}
use Rattle.outside.specs.State.{state, is_running}
use Rattle.outside.specs.Calls.{start_steps, Gives, give_steps, Takes, take_steps, Ends, end_steps}
use Rattle.linked_world.specs.Linked.{Linkage}
use Rattle.linked_world.specs.Still.{start_answer}
use Rattle.linked_world.specs.laws.ThereLaws.{Restarts, was_started}
use Rattle.vote_world.specs.Lives.{life_after, life_from, life_in, taken_in, Rests, Touches, GoesOn, Begins}

from-append : (n : ℕ) (life : List ℕ) (xs ys : List WorldStep) → life_from n life (xs ++ ys) ≡ life_from n (life_from n life xs) ys
unfolding life_from
from-append n life [] ys = refl
from-append n life (x ∷ xs) ys = from-append n (life_after n x life) xs ys

pub in-append : (n : ℕ) (xs ys : List WorldStep) → life_in n (xs ++ ys) ≡ life_from n (life_in n xs) ys
unfolding life_in
in-append n xs ys = from-append n [] xs ys

-- ---- Steps

pub end_rests : (n app : ℕ) (ran : Bool) (life : List ℕ) → life_from n life (end_steps app ran) ≡ life
unfolding life_from end_steps
end_rests n app true life = refl
end_rests n app false life = refl

pub give_rests : {T : Type 0} (n app : ℕ) (bytes : List ℕ) (result : Result T GiveFault) (life : List ℕ) → life_from n life (give_steps app bytes result) ≡ life
unfolding life_from give_steps
give_rests n app bytes (Ok x) life = refl
give_rests n app bytes (Err giving.Gone) life = refl
give_rests n app bytes (Err giving.Short) life = refl

pub start_rests : {T : Type 0} (n app : ℕ) (result : Result T StartFault) (life : List ℕ) → n ≢ app → life_from n life (start_steps app result) ≡ life
unfolding life_from start_steps
start_rests n app (Ok x) life other = rw (ne_eqb app n (λ e. other (sym e))) refl
start_rests n app (Err starting.NotStarted) life other = refl
start_rests n app (Err starting.Short) life other = refl

pub start_begins : {T : Type 0} (app : ℕ) (x : T) (life : List ℕ) → life_from app life (start_steps {T = T} app (Ok x)) ≡ []
unfolding life_from start_steps
start_begins app x life = rw (eq-eqb app app refl) refl

pub take_rests : (n app : ℕ) (result : Result Taken Short) (buf life : List ℕ) → n ≢ app → life_from n life (take_steps app result buf) ≡ life
unfolding life_from take_steps
take_rests n app (Ok (gave.Some k)) buf life other = rw (ne_eqb app n (λ e. other (sym e))) refl
take_rests n app (Ok gave.Closed) buf life other = rw (ne_eqb app n (λ e. other (sym e))) refl
take_rests n app (Ok gave.Silent) buf life other = rw (ne_eqb app n (λ e. other (sym e))) refl
take_rests n app (Err short) buf life other = refl

pub take_goes : (app : ℕ) (result : Result Taken Short) (buf life : List ℕ) → life_from app life (take_steps app result buf) ≡ life ++ taken_in result buf
unfolding life_from take_steps
take_goes app (Ok (gave.Some k)) buf life = rw (eq-eqb app app refl) refl
take_goes app (Ok gave.Closed) buf life = rw (eq-eqb app app refl) refl
take_goes app (Ok gave.Silent) buf life = rw (eq-eqb app app refl) refl
take_goes app (Err short) buf life = sym (append-nil life)

-- ---- Calls on a link of the other world

pub rests_none : {Own W : Type 0} (Tells : Type 0) (see : W → Seen Own) (d : Linkage W) → Rests Tells see d d
rests_none Tells see d = record { lives = λ told n. refl; running = refl }

pub rests_same : {Own W : Type 0} (Tells : Type 0) (see : W → Seen Own) (d e : Linkage W) → e.links ≡ d.links → e.running ≡ d.running → Rests Tells see d e
rests_same Tells see d e same running = record { lives = λ told n. ap (λ (w : _). life_in n (see w).history) same; running = running }

pub rests_twice : {Own W : Type 0} (Tells : Type 0) (see : W → Seen Own) (a b c : Linkage W) → Rests Tells see a b → Rests Tells see b c → Rests Tells see a c
rests_twice Tells see a b c one two = record { lives = λ told n. two.lives told n ∙ one.lives told n; running = two.running ∙ one.running }

pub rests_want : {Own W : Type 0} (Tells : Type 0) (see : W → Seen Own) (a b c : Linkage W) → Rests Tells see a b → c.links ≡ b.links → c.running ≡ b.running → Rests Tells see a c
rests_want Tells see a b c one same running = rests_twice Tells see a b c one (rests_same Tells see b c same running)

pub ends_rest : {Own W : Type 0} (Tells : Type 0) (see : W → Seen Own) (copy : ℕ) (old new : Linkage W) → Ends Tells copy (see old.links) (see new.links) → new.running ≡ old.running → Rests Tells see old new
ends_rest Tells see copy old new call same = record {
  lives = λ told n.
      ap (life_in n) (call.told told).history
      ∙ in-append n (see old.links).history (end_steps copy (is_running copy (state (see old.links))))
      ∙ end_rests n copy (is_running copy (state (see old.links))) (life_in n (see old.links).history);
  running = same;
}

pub gives_rest : {Own W T : Type 0} (Tells : Type 0) (see : W → Seen Own) (copy : ℕ) (bytes : List ℕ) (old new : Linkage W) (result : Result T GiveFault)
    → Gives Tells copy bytes (see old.links) (see new.links) result → new.running ≡ old.running → Rests Tells see old new
gives_rest Tells see copy bytes old new result call same = record {
  lives = λ told n.
      ap (life_in n) (call.told told).history
      ∙ in-append n (see old.links).history (give_steps copy bytes result)
      ∙ give_rests n copy bytes result (life_in n (see old.links).history);
  running = same;
}

pub takes_go : {Own W : Type 0} (Tells : Type 0) (see : W → Seen Own) (copy : ℕ) (old new : Linkage W) (result : Result Taken Short) (buf : List ℕ)
    → Takes Tells copy (see old.links) (see new.links) result buf → new.running ≡ old.running → GoesOn Tells see copy (taken_in result buf) old new
takes_go Tells see copy old new result buf call same = record {
  life = λ told.
      ap (life_in copy) (call.told told).history
      ∙ in-append copy (see old.links).history (take_steps copy result buf)
      ∙ take_goes copy result buf (life_in copy (see old.links).history);
  touches = record {
    others = λ told n other.
        ap (life_in n) (call.told told).history
        ∙ in-append n (see old.links).history (take_steps copy result buf)
        ∙ take_rests n copy result buf (life_in n (see old.links).history) other;
    running = same;
  };
}

pub takes_as : {Own W : Type 0} (Tells : Type 0) (see : W → Seen Own) (copy : ℕ) (old new : Linkage W) (taken is : Taken) (buf : List ℕ) → taken ≡ is
    → Takes Tells copy (see old.links) (see new.links) (Ok taken) buf → new.running ≡ old.running → GoesOn Tells see copy (taken_in (Ok is) buf) old new
takes_as Tells see copy old new taken is buf same call running =
    subst (λ (t : Taken). GoesOn Tells see copy (taken_in (Ok t) buf) old new) same (takes_go Tells see copy old new (Ok taken) buf call running)

pub touches_rest : {Own W : Type 0} (Tells : Type 0) (see : W → Seen Own) (copy : ℕ) (a b c : Linkage W) → Touches Tells see copy a b → Rests Tells see b c → Touches Tells see copy a c
touches_rest Tells see copy a b c touches rests = record { others = λ told n other. rests.lives told n ∙ touches.others told n other; running = rests.running ∙ touches.running }

-- ---- A start

begins_in : {Own : Type 0} (Tells : Type 0) (copy : ℕ) (old new : Seen Own) (result : Result Bool Short) → Restarts Tells copy old new result → Tells → was_started result ≡ true → life_in copy new.history ≡ []
begins_in Tells copy old new (Ok true) call told started =
    ap (life_in copy) (call.starts.told told).history ∙ in-append copy call.between.history (start_steps copy (start_answer (Ok true))) ∙ start_begins copy tt (life_in copy call.between.history)
begins_in Tells copy old new (Ok false) call told started = absurd (false≢true started)
begins_in Tells copy old new (Err short) call told started = absurd (false≢true started)

pub restarts_begin : {Own W : Type 0} (Tells : Type 0) (see : W → Seen Own) (copy : ℕ) (old new : Linkage W) (result : Result Bool Short)
    → Restarts Tells copy (see old.links) (see new.links) result → new.running ≡ old.running → Begins Tells see copy result old new
restarts_begin Tells see copy old new result call same = record {
  life = λ told started. begins_in Tells copy (see old.links) (see new.links) result call told started;
  touches = record {
    others = λ told n other.
        ap (life_in n) (call.starts.told told).history
        ∙ in-append n call.between.history (start_steps copy (start_answer result))
        ∙ start_rests n copy (start_answer result) (life_in n call.between.history) other
        ∙ ap (life_in n) (call.ends.told told).history
        ∙ in-append n (see old.links).history (end_steps copy (is_running copy (state (see old.links))))
        ∙ end_rests n copy (is_running copy (state (see old.links))) (life_in n (see old.links).history);
    running = same;
  };
}

pub begins_none : {Own W : Type 0} (Tells : Type 0) (see : W → Seen Own) (copy : ℕ) (d : Linkage W) → Begins Tells see copy (Ok false) d d
begins_none Tells see copy d = record {
  life = λ told started. absurd (false≢true started);
  touches = record { others = λ told n other. refl; running = refl };
}
