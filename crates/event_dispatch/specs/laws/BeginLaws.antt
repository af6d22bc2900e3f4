-- Laws of the start: applications of which nothing has happened, and that they are started, one after the other.
use Rattle.std.specs.Prelude.{◌≡◌, ℕ, zero, suc, ◌+◌, ◌<◌, ◌≤◌, false, List, [], ◌∷◌, ◌++◌, length, take, drop, map, get_or, set, replicate, Ok, refl}
use Rattle.std.proofs.Common.{sym, ap, ap₂, ◌∙◌, subst, append_assoc, add-one, arith}
use Rattle.std.proofs.lemmas.List.{append-nil, take_more}
use Rattle.app_frames.specs.declared.frame.Event.{Event}
use Rattle.crash_policy.specs.declared.policy_file.AppRule.{AppRule}
use Rattle.crash_policy.specs.Policies.{app_value}
use Rattle.outside.specs.Seen.{Seen}
use Rattle.net_txn.specs.Net.{NetState}
use Rattle.checkpoint_store.specs.Slots.{Slot, empty_slot, slot_of}
use Rattle.app_visor.specs.CallsFor.{CallsFor}
use Rattle.app_visor.specs.laws.OwnLaws.{own_calls}
use Rattle.app_visor.specs.Attempts.{kept_of}
use Rattle.run_laws.specs.Engine.{Application, Focus, focus}
use Rattle.run_laws.specs.Facts.{StartsAgain, StartsOne, StartsFrom}
use Rattle.run_laws.specs.First.{net_at_first, app_at_first, engine_at_first}
use Rattle.event_dispatch.specs.declared.engine_core.Core.{Core}
use Rattle.event_dispatch.specs.declared.run.Managed.{Managed}
use Rattle.event_dispatch.specs.Runs.{AreRead, StoreRests, CoreGoes, AreNumbered, AreGoing, IsFresh, AreFresh, Waits}
use Rattle.event_dispatch.specs.Shows.{application_of, focus_of, engine_with, Stays}
use Rattle.event_dispatch.specs.Serves.{Notes, AllStarted}
use Rattle.event_dispatch.specs.Passes.{PassesQuietly, PassesQuietlySoFar}
use Rattle.event_dispatch.specs.TurnParts.{StartKeeps, StartDone}
use Rattle.event_dispatch.specs.laws.WhyLaws.{waits_then}
use Rattle.event_dispatch.specs.laws.LastLaws.{stays_then}
use Rattle.event_dispatch.specs.laws.PassesLaws.{quiet_waits, quiet_so_far_none, quiet_so_far_then}
use Rattle.event_dispatch.specs.laws.OfferLaws.{map_both, split_at, set_at, drop_one, take_next, taken_length, taken_whole, numbered_at, numbered_set}

-- ---- Applications of which nothing has happened

pub fresh_next : (i k : ℕ) (rules : List AppRule) (apps : List Managed) (rule : AppRule) (m : Managed) → k ≡ i + length rules → AreFresh i rules apps → IsFresh k rule m → AreFresh i (rules ++ rule ∷ []) (apps ++ m ∷ [])
fresh_next i k [] [] rule m is fresh one = let here : k ≡ i = omega (arith, is) in (subst (λ (n : ℕ). IsFresh n rule m) here one, tt)
fresh_next i k [] (x ∷ apps) rule m is fresh one = absurd fresh
fresh_next i k (x ∷ rules) [] rule m is fresh one = absurd fresh
fresh_next i k (x ∷ rules) (y ∷ apps) rule m is fresh one = (fresh.0, fresh_next (i + 1) k rules apps rule m (omega (arith, is)) fresh.1 one)

taken_long : {A : Type 0} (n : ℕ) (xs : List A) → n ≤ length xs → length (take n xs) ≡ n
taken_long zero xs le = refl
taken_long (suc n) [] le = absurd (omega (arith, le))
taken_long (suc n) (x ∷ xs) le = ap suc (taken_long n xs (omega (arith, le)))

pub fresh_more : (rules : List AppRule) (apps : List Managed) (n : ℕ) (rule : AppRule) (m : Managed) → n < length rules → AreFresh 0 (take n rules) apps → IsFresh n (get_or rules n rule) m → AreFresh 0 (take (n + 1) rules) (apps ++ m ∷ [])
fresh_more rules apps n rule m less fresh one =
    subst (λ (rs : List AppRule). AreFresh 0 rs (apps ++ m ∷ [])) (sym (take_more rules n rule less))
    (fresh_next 0 n (take n rules) apps (get_or rules n rule) m (omega (arith, taken_long n rules (omega (arith, less)))) fresh one)

fresh_numbered : (i : ℕ) (rules : List AppRule) (apps : List Managed) → AreFresh i rules apps → AreNumbered i apps
fresh_numbered i [] [] fresh = tt
fresh_numbered i [] (m ∷ apps) fresh = absurd fresh
fresh_numbered i (rule ∷ rules) [] fresh = absurd fresh
fresh_numbered i (rule ∷ rules) (m ∷ apps) fresh = (ap (λ s. s.index) fresh.0.state_is, fresh_numbered (i + 1) rules apps fresh.1)

pub fresh_length : (i : ℕ) (rules : List AppRule) (apps : List Managed) → AreFresh i rules apps → length apps ≡ length rules
fresh_length i [] [] fresh = refl
fresh_length i [] (m ∷ apps) fresh = absurd fresh
fresh_length i (rule ∷ rules) [] fresh = absurd fresh
fresh_length i (rule ∷ rules) (m ∷ apps) fresh = ap suc (fresh_length (i + 1) rules apps fresh.1)

-- the places of a store in which nothing was put
empty_at : (n i : ℕ) → slot_of i (replicate n empty_slot) ≡ empty_slot
empty_at zero i = refl
empty_at (suc n) zero = refl
empty_at (suc n) (suc i) = empty_at n i

pub empty_length : (n : ℕ) → length (replicate n empty_slot) ≡ n
empty_length zero = refl
empty_length (suc n) = ap suc (empty_length n)

fresh_app : (n i : ℕ) (rule : AppRule) (m : Managed) → IsFresh i rule m → application_of (replicate n empty_slot) m ≡ app_at_first (app_value rule)
fresh_app n i rule m fresh =
    ap (λ (x : AppRule). record (application_of (replicate n empty_slot) m) { rule = app_value x }) fresh.rule_is
    ∙ ap (λ s. record { rule = app_value rule; alive = s.alive; rest = s.rest; kept = kept_of s.index (replicate n empty_slot); done = m.done; failed = m.failed }) fresh.state_is
    ∙ ap (λ (x : Slot). record { rule = app_value rule; alive = false; rest = []; kept = x.kept.checkpoint; done = m.done; failed = m.failed }) (empty_at n i)
    ∙ ap₂ (λ (x y : ℕ). record { rule = app_value rule; alive = false; rest = []; kept = []; done = x; failed = y }) fresh.done fresh.failed

fresh_apps : (n i : ℕ) (rules : List AppRule) (apps : List Managed) → AreFresh i rules apps → map (application_of (replicate n empty_slot)) apps ≡ map app_at_first (map app_value rules)
fresh_apps n i [] [] fresh = refl
fresh_apps n i [] (m ∷ apps) fresh = absurd fresh
fresh_apps n i (rule ∷ rules) [] fresh = absurd fresh
fresh_apps n i (rule ∷ rules) (m ∷ apps) fresh = ap₂ (λ (a : Application) (items : List Application). a ∷ items) (fresh_app n i rule m fresh.0) (fresh_apps n (i + 1) rules apps fresh.1)

pub fresh_going : (n : ℕ) (rules : List AppRule) (c : Core) (apps : List Managed) → CoreGoes c → n ≡ length rules → c.store ≡ replicate n empty_slot → AreFresh 0 rules apps → AreGoing c apps
fresh_going n rules c apps goes is store fresh = record {
  core = goes;
  numbered = fresh_numbered 0 rules apps fresh;
  number = ap (λ (slots : List Slot). length slots) store ∙ empty_length n ∙ is ∙ sym (fresh_length 0 rules apps fresh);
}

pub fresh_engine : (n : ℕ) (rules : List AppRule) (c : Core) (apps : List Managed) → c.net ≡ net_at_first → c.queue ≡ [] → c.events ≡ 0 → c.store ≡ replicate n empty_slot → AreFresh 0 rules apps → engine_with c apps ≡ engine_at_first (map app_value rules)
fresh_engine n rules c apps net queue events store fresh =
    ap (λ (x : NetState). record (engine_with c apps) { net = x }) net
    ∙ ap (λ (x : List Event). record (engine_with c apps) { net = net_at_first; queue = x }) queue
    ∙ ap (λ (x : ℕ). record (engine_with c apps) { net = net_at_first; queue = []; events = x }) events
    ∙ ap (λ (slots : List Slot). record { net = net_at_first; queue = []; events = 0; apps = map (application_of slots) apps }) store
    ∙ ap (λ (items : List Application). record { net = net_at_first; queue = []; events = 0; apps = items }) (fresh_apps n 0 rules apps fresh)

-- ---- Starts behind one another

module _ {Own : Type 0} (Tells : Type 0) (net : NetState) (queue : List Event) (events : ℕ) where
  pub starts_behind : (i k : ℕ) (xs : List Application) (a now_a : Application) (text more : List ℕ) (from mid to : Seen Own) (front : List Application) → k ≡ i + length xs
      → StartsFrom Tells i xs text from mid net queue events front → StartsOne Tells k more mid to net queue events a now_a → StartsFrom Tells i (xs ++ a ∷ []) (text ++ more) from to net queue events (front ++ now_a ∷ [])
  starts_behind i k [] a now_a text more from mid to front is first one = (
    record {
      mid = to;
      now_app = now_a;
      front_text = more;
      later_text = [];
      later_apps = [];
      begins = subst (λ (s : Seen Own). StartsOne Tells i more s to net queue events a now_a) first.0 (subst (λ (n : ℕ). StartsOne Tells n more mid to net queue events a now_a) (same_number k i is) one);
      apps_is = ap (λ (items : List Application). items ++ now_a ∷ []) first.2;
      text_is = ap (λ (t : List ℕ). t ++ more) first.1 ∙ sym (append-nil more);
    },
    (refl, refl, refl),
  )
    where
      same_number : (k i : ℕ) → k ≡ i + 0 → k ≡ i
      same_number k i is = omega (arith, is)
  starts_behind i k (x ∷ xs) a now_a text more from mid to front is first one =
      let begun = first.0 in (
        record {
          mid = begun.mid;
          now_app = begun.now_app;
          front_text = begun.front_text;
          later_text = begun.later_text ++ more;
          later_apps = begun.later_apps ++ now_a ∷ [];
          begins = begun.begins;
          apps_is = ap (λ (items : List Application). items ++ now_a ∷ []) begun.apps_is;
          text_is = ap (λ (t : List ℕ). t ++ more) begun.text_is ∙ append_assoc begun.front_text begun.later_text more;
        },
        starts_behind (i + 1) k xs a now_a begun.later_text more begun.mid mid to begun.later_apps (omega (arith, is)) first.1 one,
      )

-- ---- So many were started

pub record StartsSoFar {Own : Type 0} (Tells : Type 0) (n : ℕ) (old now : Seen Own) (c now_c : Core) (apps now_apps : List Managed) : Type 0 where
  pub front : List Managed
  pub now_is : now_apps ≡ front ++ drop n apps
  pub here : length front ≡ n
  pub number_is : length c.store ≡ length now_apps
  pub waits : Waits c now_c
  pub stays : Stays c now_c
  pub numbered : AreNumbered 0 (front ++ drop n apps)
  pub text : List ℕ
  pub started : StartsFrom Tells 0 (map (application_of c.store) (take n apps)) text old now c.net c.queue c.events (map (application_of c.store) front)
  pub notes : Notes text c now_c
  pub passes : PassesQuietlySoFar Tells (length c.store) old now c.net now_c.net

pub starts_first : {Own : Type 0} (Tells : Type 0) (seen : Seen Own) (c : Core) (apps : List Managed) → AreGoing c apps → StartsSoFar Tells 0 seen seen c c apps apps
starts_first Tells seen c apps going = record {
  front = [];
  now_is = refl;
  here = refl;
  number_is = going.number;
  waits = record { room = refl; events = refl; store = refl; left = λ none. none };
  stays = record { net = refl; queue = refl; events = refl; store = refl };
  numbered = going.numbered;
  text = [];
  started = (refl, refl, refl);
  notes = sym (append-nil c.lines.items);
  passes = quiet_so_far_none Tells seen c.net;
}

pub start_split : {Own Tells : Type 0} {old now : Seen Own} {c now_c : Core} {apps now_apps : List Managed} (n : ℕ) (m : Managed) → StartsSoFar Tells n old now c now_c apps now_apps → n < length now_apps → m ≡ get_or now_apps n m → drop n apps ≡ m ∷ drop (suc n) apps
start_split {apps = apps} n m so_far less is =
    split_at so_far.front (drop n apps) n m so_far.here (subst (λ (ms : List Managed). n < length ms) so_far.now_is less) (is ∙ ap (λ (ms : List Managed). get_or ms n m) so_far.now_is)
    ∙ ap (λ (ms : List Managed). m ∷ ms) (drop_one n apps)

start_index : {Own Tells : Type 0} {old now : Seen Own} {c now_c : Core} {apps now_apps : List Managed} (n : ℕ) (m : Managed) → StartsSoFar Tells n old now c now_c apps now_apps → drop n apps ≡ m ∷ drop (suc n) apps → m.state.index ≡ n
start_index {apps = apps} n m so_far split =
    let at = numbered_at 0 so_far.front m (drop (suc n) apps) (subst (λ (ms : List Managed). AreNumbered 0 (so_far.front ++ ms)) split so_far.numbered) in
    omega (arith, at, so_far.here)

pub start_place : {Own Tells : Type 0} {old now : Seen Own} {c now_c : Core} {apps now_apps : List Managed} (n : ℕ) (m : Managed) → StartsSoFar Tells n old now c now_c apps now_apps → n < length now_apps → m ≡ get_or now_apps n m → m.state.index < length now_c.store
start_place {c = c} {now_c = now_c} n m so_far less is =
    let at = start_index n m so_far (start_split n m so_far less is) in
    let same : length now_c.store ≡ length c.store = ap (λ (slots : List Slot). length slots) so_far.stays.store in
    omega (arith, at, less, same, so_far.number_is)

pub start_rests : {Own Tells : Type 0} {n : ℕ} {old now : Seen Own} {c now_c : Core} {apps now_apps : List Managed} → StartsSoFar Tells n old now c now_c apps now_apps → StoreRests c.store → StoreRests now_c.store
start_rests so_far rests = subst (λ (slots : List Slot). StoreRests slots) (sym so_far.stays.store) rests

module _ {Own A F : Type 0} {Tells : Type 0} {x : A} (n : ℕ) (old now new : Seen Own) (c now_c later_c : Core) (apps now_apps : List Managed) (m now_m : Managed) (so_far : StartsSoFar Tells n old now c now_c apps now_apps)
    (split : drop n apps ≡ m ∷ drop (suc n) apps) (passes : PassesQuietly {T = A} {E = F} Tells (length now_c.store) now new now_c.net later_c.net (Ok x)) (keeps : StartKeeps Tells now new m now_m) (done : StartDone Tells now new now_c later_c m now_m) where
  abbrev past_it : List Managed
  past_it = drop (suc n) apps

  stays_now : Stays now_c later_c
  stays_now = record { net = done.net; queue = done.queue; events = done.waits.events; store = done.waits.store }

  stays_later : Stays c later_c
  stays_later = stays_then so_far.stays stays_now

  at_place : m.state.index ≡ n
  at_place = start_index n m so_far split

  numbered_now : AreNumbered 0 (so_far.front ++ m ∷ past_it)
  numbered_now = subst (λ (ms : List Managed). AreNumbered 0 (so_far.front ++ ms)) split so_far.numbered

  now_apps_are : set now_apps n now_m ≡ so_far.front ++ now_m ∷ past_it
  now_apps_are = ap (λ (ms : List Managed). set ms n now_m) (so_far.now_is ∙ ap (λ (ms : List Managed). so_far.front ++ ms) split) ∙ set_at so_far.front past_it n m now_m so_far.here

  -- over what the engine keeps as it was
  focus_before : focus_of now_c m ≡ focus n (application_of c.store m) c.net c.queue c.events
  focus_before =
      ap (λ (i : ℕ). focus i (application_of now_c.store m) now_c.net now_c.queue now_c.events) at_place
      ∙ ap (λ (slots : List Slot). focus n (application_of slots m) now_c.net now_c.queue now_c.events) so_far.stays.store
      ∙ ap₂ (λ (net : NetState) (queue : List Event). focus n (application_of c.store m) net queue now_c.events) so_far.stays.net so_far.stays.queue
      ∙ ap (λ (k : ℕ). focus n (application_of c.store m) c.net c.queue k) so_far.stays.events

  focus_behind : focus_of later_c now_m ≡ focus n (application_of c.store now_m) c.net c.queue c.events
  focus_behind =
      ap (λ (i : ℕ). focus i (application_of later_c.store now_m) later_c.net later_c.queue later_c.events) (keeps.same.index ∙ at_place)
      ∙ ap (λ (slots : List Slot). focus n (application_of slots now_m) later_c.net later_c.queue later_c.events) stays_later.store
      ∙ ap₂ (λ (net : NetState) (queue : List Event). focus n (application_of c.store now_m) net queue later_c.events) stays_later.net stays_later.queue
      ∙ ap (λ (k : ℕ). focus n (application_of c.store now_m) c.net c.queue k) stays_later.events

  one_started : StartsOne Tells n done.starts.text now new c.net c.queue c.events (application_of c.store m) (application_of c.store now_m)
  one_started = record {
    starts = subst (λ (e : Focus). StartsAgain Tells done.starts.text now new e (focus n (application_of c.store now_m) c.net c.queue c.events)) focus_before
        (subst (λ (e : Focus). StartsAgain Tells done.starts.text now new (focus_of now_c m) e) focus_behind done.starts.starts);
    own = λ told. subst (λ (i : ℕ). CallsFor i now new) at_place (own_calls (keeps.own told));
  }

  length_now : length c.store ≡ length (set now_apps n now_m)
  length_now = so_far.number_is ∙ ap (λ (ms : List Managed). length ms) (so_far.now_is ∙ ap (λ (ms : List Managed). so_far.front ++ ms) split) ∙ same_length so_far.front past_it ∙ ap (λ (ms : List Managed). length ms) (sym now_apps_are)
    where
      same_length : (xs ys : List Managed) → length (xs ++ m ∷ ys) ≡ length (xs ++ now_m ∷ ys)
      same_length [] ys = refl
      same_length (z ∷ xs) ys = ap suc (same_length xs ys)

  pub starts_next : StartsSoFar Tells (n + 1) old new c later_c apps (set now_apps n now_m)
  starts_next = subst (λ (k : ℕ). StartsSoFar Tells k old new c later_c apps (set now_apps n now_m)) (sym (add-one n)) (record {
    front = so_far.front ++ now_m ∷ [];
    now_is = now_apps_are ∙ sym (append_assoc so_far.front (now_m ∷ []) past_it);
    here = omega (arith, length_last so_far.front, so_far.here);
    number_is = length_now;
    waits = waits_then c now_c later_c so_far.waits done.waits;
    stays = stays_later;
    numbered = subst (λ (ms : List Managed). AreNumbered 0 ms) (sym (append_assoc so_far.front (now_m ∷ []) past_it)) (numbered_set 0 so_far.front m now_m past_it keeps.same.index numbered_now);
    text = so_far.text ++ done.starts.text;
    started = subst (λ (items : List Application). StartsFrom Tells 0 items (so_far.text ++ done.starts.text) old new c.net c.queue c.events (map (application_of c.store) (so_far.front ++ now_m ∷ [])))
        (sym (ap (λ (ms : List Managed). map (application_of c.store) ms) (take_next n apps m past_it split) ∙ map_both (application_of c.store) (take n apps) (m ∷ [])))
        (subst (λ (items : List Application). StartsFrom Tells 0 (map (application_of c.store) (take n apps) ++ application_of c.store m ∷ []) (so_far.text ++ done.starts.text) old new c.net c.queue c.events items)
        (sym (map_both (application_of c.store) so_far.front (now_m ∷ [])))
        (starts_behind Tells c.net c.queue c.events 0 n (map (application_of c.store) (take n apps)) (application_of c.store m) (application_of c.store now_m) so_far.text done.starts.text old now new (map (application_of c.store) so_far.front)
        (omega (arith, taken_length (application_of c.store) n apps m past_it split)) so_far.started one_started));
    notes = done.starts.notes ∙ ap (λ (xs : List ℕ). xs ++ done.starts.text) so_far.notes ∙ append_assoc c.lines.items so_far.text done.starts.text;
    passes = quiet_so_far_then so_far.passes (quiet_waits so_far.waits passes);
  })
    where
      length_last : (xs : List Managed) → length (xs ++ now_m ∷ []) ≡ length xs + 1
      length_last [] = refl
      length_last (y ∷ ys) = omega (arith, length_last ys)

-- ---- All of them were started

module _ {Own : Type 0} {Tells : Type 0} (n : ℕ) (old now : Seen Own) (c now_c : Core) (apps now_apps : List Managed) (so_far : StartsSoFar Tells n old now c now_c apps now_apps) (all : length now_apps ≤ n) where
  none_behind : drop n apps ≡ []
  none_behind = nothing so_far.front (drop n apps) so_far.here (subst (λ (ms : List Managed). length ms ≤ n) so_far.now_is all)
    where
      longer : (xs ys : List Managed) (y : Managed) → length xs < length (xs ++ y ∷ ys)
      longer [] ys y = omega arith
      longer (x ∷ xs) ys y = omega (arith, longer xs ys y)

      nothing : (xs ys : List Managed) → length xs ≡ n → length (xs ++ ys) ≤ n → ys ≡ []
      nothing xs [] is le = refl
      nothing xs (y ∷ ys) is le = absurd (omega (arith, is, le, longer xs ys y))

  front_is : now_apps ≡ so_far.front
  front_is = so_far.now_is ∙ ap (λ (ms : List Managed). so_far.front ++ ms) none_behind ∙ append-nil so_far.front

  taken_is : take n apps ≡ apps
  taken_is = sym (append-nil (take n apps)) ∙ ap (λ (ms : List Managed). take n apps ++ ms) (sym none_behind) ∙ taken_whole n apps

  pub all_started : AllStarted Tells old now c now_c apps now_apps
  all_started = record {
    text = so_far.text;
    started = subst (λ (items : List Application). StartsFrom Tells 0 items so_far.text old now c.net c.queue c.events (map (application_of now_c.store) now_apps)) (ap (λ (ms : List Managed). map (application_of c.store) ms) taken_is)
        (subst (λ (items : List Application). StartsFrom Tells 0 (map (application_of c.store) (take n apps)) so_far.text old now c.net c.queue c.events items)
        (ap (λ (ms : List Managed). map (application_of c.store) ms) (sym front_is) ∙ ap (λ (slots : List Slot). map (application_of slots) now_apps) (sym so_far.stays.store)) so_far.started);
    stays = so_far.stays;
    notes = so_far.notes;
  }

  pub starts_going : CoreGoes c → AreGoing now_c now_apps
  starts_going goes = record {
    core = record {
      room = subst (λ (net : NetState). 1 ≤ net.room) (sym so_far.stays.net) goes.room;
      read = subst (λ (net : NetState). AreRead net.kept) (sym so_far.stays.net) goes.read;
      store = start_rests so_far goes.store;
      left = ap (λ (net : NetState). net.left) so_far.stays.net ∙ goes.left;
    };
    numbered = subst (λ (ms : List Managed). AreNumbered 0 ms) (sym so_far.now_is) so_far.numbered;
    number = ap (λ (slots : List Slot). length slots) so_far.stays.store ∙ so_far.number_is;
  }
