-- Laws of the switches of a simulated world, all together: what one change, or the same of all, keeps of what holds of each.
use Rattle.std.specs.Prelude.{◌≡◌, ◌≢◌, ◌==◌, ℕ, ◌+◌, ◌*◌, ◌<◌, ◌≤◌, Bool, true, false, nat_lt, List, [], ◌∷◌, ◌++◌, length, map, Option, Some, None, IfSome, slice_get, slice_index_or, slice_set, if◌then◌else◌, refl, Result, Ok, Err, OnOk, OnErr, ◌||◌}
use Rattle.std.specs.List.{AllByRecursion}
use Rattle.std.specs.Option.{is_some}
use Rattle.std.proofs.Common.{zero, suc, sym, ap, ◌∙◌, subst, arith, length-append}
use Rattle.std.proofs.lemmas.Bool.{eq-eqb, eqb-false, ne_eqb, ltb-true, ltb-false, cond_both, cond-false}
use Rattle.std.proofs.Math.Seq.{map-set_same}
use Rattle.std.proofs.lemmas.List.{length-map}
use Rattle.of_types.specs.declared.journal.Stimulus.TheVariants.{Advance}
use Rattle.of_types.specs.declared.journal.WorldStim.{WorldStim}
use Rattle.of_types.specs.declared.journal.WorldStim.TheVariants.{Join, Leave, At, Of}
use Rattle.flow_table.specs.Switch.{Declared}
use Rattle.outside.specs.declared.step.WorldStep.{WorldStep}
use Rattle.outside.specs.declared.step.WorldStep.TheVariants.{From}
use Rattle.outside.specs.State.{Link, State, link_of, with_link, links_after, join_due, due_of, stimulus_sends, link_stimulated, is_joined, after_stim, upcoming, link_joined, link_left, switch_of, waits_in, declared_in, waiting_in}
use Rattle.outside.specs.Seen.{is_declared}
use Rattle.outside.specs.Conforming.{AreDeclaredFrom}
use Rattle.sim_world.specs.Links.{Held, links_in, insert_link, AreLinks, HasPlace, HasNoPlace, WaitsFirst, NoneWaits, IsReady, AreReady, insert_held, due_in, IsPlaceOf}

-- ---- What holds of each

-- of the changed one holds what follows for it, and of the others what follows without
pub All-with_link : (P Q : Link → Type 0) (d : ℕ) (change : Link → Link) → ((l : Link) → P l → Q l) → ((l : Link) → P l → Q (change l)) → (ls : List Link) → AllByRecursion P ls → AllByRecursion Q (with_link d change ls)
All-with_link P Q d change stays changes [] all = tt
All-with_link P Q d change stays changes (l ∷ ls) all =
    cond_both (l.declared.dpid == d) (change l ∷ ls) (l ∷ with_link d change ls) (AllByRecursion Q)
    (λ _. (changes l all.0, others ls all.1)) (λ _. (stays l all.0, All-with_link P Q d change stays changes ls all.1))
  where
    others : (ls : List Link) → AllByRecursion P ls → AllByRecursion Q ls
    others [] all = tt
    others (l ∷ ls) all = (stays l all.0, others ls all.1)

pub All-map : (P Q : Link → Type 0) (change : Link → Link) → ((l : Link) → P l → Q (change l)) → (ls : List Link) → AllByRecursion P ls → AllByRecursion Q (map change ls)
All-map P Q change changes [] all = tt
All-map P Q change changes (l ∷ ls) all = (changes l all.0, All-map P Q change changes ls all.1)

pub All-link_of : (P : Link → Type 0) (d : ℕ) (ls : List Link) → AllByRecursion P ls → IfSome (link_of d ls) P
All-link_of P d [] all = tt
All-link_of P d (l ∷ ls) all =
    cond_both (l.declared.dpid == d) (Some l) (link_of d ls) (λ (o : Option Link). IfSome o P) (λ _. all.0) (λ _. All-link_of P d ls all.1)

-- ---- What was declared

-- who has the same declarations is in order where the other is
pub AreLinks-same : (old new : List Link) → declared_in new ≡ declared_in old → AreLinks old → AreLinks new
AreLinks-same old new same links = record {
  declared = subst (AreDeclaredFrom 1) (sym same) links.declared;
  few = omega (arith, links.few, length-map old (λ (l : Link). l.declared), length-map new (λ (l : Link). l.declared), ap length same);
}

-- one more, of a number that is not there
put_declared : (least : ℕ) (l : Link) (ls : List Link) → least ≤ l.declared.dpid → l.declared.cap ≤ 4096 → link_of l.declared.dpid ls ≡ None → AreDeclaredFrom least (declared_in ls) → AreDeclaredFrom least (declared_in (insert_link l ls))
put_declared least l [] from small none are = (from, small, tt)
put_declared least l (m ∷ ms) from small none are =
    let apart : (m.declared.dpid == l.declared.dpid) ≡ false = apart_of (m.declared.dpid == l.declared.dpid) none in
    cond_both (nat_lt l.declared.dpid m.declared.dpid) (l ∷ m ∷ ms) (m ∷ insert_link l ms) (λ (ls : List Link). AreDeclaredFrom least (declared_in ls))
    (λ less. (from, small, (omega (arith, ltb-true l.declared.dpid m.declared.dpid less), are.1, are.2)))
    (λ not_less. (are.0, are.1, put_declared (m.declared.dpid + 1) l ms (omega (arith, ltb-false l.declared.dpid m.declared.dpid not_less, eqb-false m.declared.dpid l.declared.dpid apart)) small (cond_false apart none) are.2))
  where
    apart_of : (b : Bool) → (if b then Some m else link_of l.declared.dpid ms) ≡ None → b ≡ false
    apart_of true none = cc
    apart_of false none = refl

    cond_false : (m.declared.dpid == l.declared.dpid) ≡ false → link_of l.declared.dpid (m ∷ ms) ≡ None → link_of l.declared.dpid ms ≡ None
    cond_false apart none = sym (cond-false (m.declared.dpid == l.declared.dpid) (Some m) (link_of l.declared.dpid ms) apart) ∙ none

length-insert_link : (l : Link) (ls : List Link) → length (insert_link l ls) ≡ length ls + 1
length-insert_link l [] = refl
length-insert_link l (m ∷ ms) =
    cond_both (nat_lt l.declared.dpid m.declared.dpid) (l ∷ m ∷ ms) (m ∷ insert_link l ms) (λ (ls : List Link). length ls ≡ suc (length ms) + 1)
    (λ _. omega arith) (λ _. omega (arith, length-insert_link l ms))

pub AreLinks-insert : (l : Link) (ls : List Link) → 1 ≤ l.declared.dpid → l.declared.cap ≤ 4096 → link_of l.declared.dpid ls ≡ None → length ls < 64 → AreLinks ls → AreLinks (insert_link l ls)
AreLinks-insert l ls from small none room are = record {
  declared = put_declared 1 l ls from small none are.declared;
  few = omega (arith, length-insert_link l ls);
}

-- both ends of a call that puts one more
pub AreLinks-inserted : {T E : Type 0} (r : Result T E) (l : Link) (old new : List Link) → OnOk r (new ≡ insert_link l old) → OnErr r (new ≡ old)
    → 1 ≤ l.declared.dpid → l.declared.cap ≤ 4096 → link_of l.declared.dpid old ≡ None → length old < 64 → AreLinks old → AreLinks new
AreLinks-inserted (Ok x) l old new put kept from small none room are = subst AreLinks (sym put) (AreLinks-insert l old from small none room are)
AreLinks-inserted (Err e) l old new put kept from small none room are = subst AreLinks (sym kept) are

-- ---- Places

next_place : (d : ℕ) (h : Held) (hs : List Held) (place : ℕ) → HasPlace d (h ∷ hs) (suc place) → HasPlace d hs place
next_place d h hs place has = record {
  within = omega (arith, has.within);
  here = has.here;
  first = λ k g less. has.first (suc k) g (omega arith);
}

pub links_in-changed : (d : ℕ) (change : Link → Link) (held : List Held) (place : ℕ) (h x : Held) → HasPlace d held place → h.link ≡ change (slice_index_or held place x).link → links_in (slice_set held place h) ≡ with_link d change (links_in held)
links_in-changed d change [] place h x has changed = absurd (omega (arith, has.within))
links_in-changed d change (g ∷ gs) zero h x has changed =
    let same : (g.link.declared.dpid == d) ≡ true = eq-eqb g.link.declared.dpid d (has.here x) in
    rw (same, changed) refl
links_in-changed d change (g ∷ gs) (suc place) h x has changed =
    let apart : (g.link.declared.dpid == d) ≡ false = ne_eqb g.link.declared.dpid d (has.first 0 x (omega arith)) in
    rw apart (ap (λ (ls : List Link). g.link ∷ ls) (links_in-changed d change gs place h x (next_place d g gs place has) changed))

pub links_in-kept : (held : List Held) (place : ℕ) (h x : Held) → h.link ≡ (slice_index_or held place x).link → links_in (slice_set held place h) ≡ links_in held
links_in-kept held place h x kept = map-set_same (λ (g : Held). g.link) held place h x kept

pub declared_in-set : (held : List Held) (place : ℕ) (h x : Held) → h.link.declared ≡ (slice_index_or held place x).link.declared → declared_in (links_in (slice_set held place h)) ≡ declared_in (links_in held)
declared_in-set [] place h x same = refl
declared_in-set (g ∷ gs) zero h x same = ap (λ (d : Declared). d ∷ declared_in (links_in gs)) same
declared_in-set (g ∷ gs) (suc place) h x same = ap (λ (ds : List Declared). g.link.declared ∷ ds) (declared_in-set gs place h x same)

pub link_of-held : (d : ℕ) (held : List Held) (place : ℕ) (x : Held) → HasPlace d held place → link_of d (links_in held) ≡ Some (slice_index_or held place x).link
link_of-held d [] place x has = absurd (omega (arith, has.within))
link_of-held d (g ∷ gs) zero x has =
    let same : (g.link.declared.dpid == d) ≡ true = eq-eqb g.link.declared.dpid d (has.here x) in
    rw same refl
link_of-held d (g ∷ gs) (suc place) x has =
    let apart : (g.link.declared.dpid == d) ≡ false = ne_eqb g.link.declared.dpid d (has.first 0 x (omega arith)) in
    rw apart (link_of-held d gs place x (next_place d g gs place has))

pub link_of-not_held : (d : ℕ) (held : List Held) → HasNoPlace d held → link_of d (links_in held) ≡ None
link_of-not_held d [] none = refl
link_of-not_held d (g ∷ gs) none =
    let apart : (g.link.declared.dpid == d) ≡ false = ne_eqb g.link.declared.dpid d (none 0 g (omega arith)) in
    rw apart (link_of-not_held d gs (λ k h less. none (suc k) h (omega arith)))

-- a switch that is not there is not changed
pub with_link-not_held : (d : ℕ) (change : Link → Link) (held : List Held) → HasNoPlace d held → with_link d change (links_in held) ≡ links_in held
with_link-not_held d change [] none = refl
with_link-not_held d change (g ∷ gs) none =
    let apart : (g.link.declared.dpid == d) ≡ false = ne_eqb g.link.declared.dpid d (none 0 g (omega arith)) in
    rw apart (ap (λ (ls : List Link). g.link ∷ ls) (with_link-not_held d change gs (λ k h less. none (suc k) h (omega arith))))

pub cap_at : (least : ℕ) (held : List Held) (place : ℕ) (x : Held) → AreDeclaredFrom least (declared_in (links_in held)) → place < length held → (slice_index_or held place x).link.declared.cap ≤ 4096
cap_at least [] place x are within = absurd (omega arith)
cap_at least (g ∷ gs) zero x are within = are.1
cap_at least (g ∷ gs) (suc place) x are within = cap_at (g.link.declared.dpid + 1) gs place x are.2 (omega arith)

-- where the numbers ascend, each switch is found at its place
least_at : (least : ℕ) (held : List Held) (place : ℕ) (x : Held) → AreDeclaredFrom least (declared_in (links_in held)) → place < length held → least ≤ (slice_index_or held place x).link.declared.dpid
least_at least [] place x are within = absurd (omega arith)
least_at least (g ∷ gs) zero x are within = are.0
least_at least (g ∷ gs) (suc place) x are within = omega (arith, are.0, least_at (g.link.declared.dpid + 1) gs place x are.2 (omega arith))

first_more : (d : ℕ) (g : Held) (gs : List Held) (place : ℕ) → g.link.declared.dpid ≢ d → HasPlace d gs place → (k : ℕ) (h : Held) → k < suc place → (slice_index_or (g ∷ gs) k h).link.declared.dpid ≢ d
first_more d g gs place apart has zero h less = apart
first_more d g gs place apart has (suc k) h less = has.first k h (omega arith)

pub HasPlace-ascending : (least : ℕ) (held : List Held) (place : ℕ) (x : Held) → AreDeclaredFrom least (declared_in (links_in held)) → place < length held → HasPlace (slice_index_or held place x).link.declared.dpid held place
HasPlace-ascending least [] place x are within = absurd (omega arith)
HasPlace-ascending least (g ∷ gs) zero x are within = record { within = within; here = λ h. refl; first = λ k h less. absurd (omega arith) }
HasPlace-ascending least (g ∷ gs) (suc place) x are within =
    let d = (slice_index_or gs place x).link.declared.dpid in
    let rest = HasPlace-ascending (g.link.declared.dpid + 1) gs place x are.2 (omega arith) in
    let apart : g.link.declared.dpid ≢ d = λ same. absurd (omega (arith, same, least_at (g.link.declared.dpid + 1) gs place x are.2 (omega arith))) in
    record { within = within; here = rest.here; first = first_more d g gs place apart rest }

pub links_in-insert : (h : Held) (held : List Held) → links_in (insert_held h held) ≡ insert_link h.link (links_in held)
links_in-insert h [] = refl
links_in-insert h (g ∷ gs) =
    insert_at (nat_lt h.link.declared.dpid g.link.declared.dpid) (links_in-insert h gs)
  where
    insert_at : (b : Bool) → links_in (insert_held h gs) ≡ insert_link h.link (links_in gs)
        → links_in (if b then h ∷ g ∷ gs else g ∷ insert_held h gs) ≡ (if b then h.link ∷ g.link ∷ links_in gs else g.link ∷ insert_link h.link (links_in gs))
    insert_at true rest = refl
    insert_at false rest = ap (λ (ls : List Link). g.link ∷ ls) rest

-- a switch is declared where it is held
pub is_declared-link_of : (d : ℕ) (ls : List Link) → is_declared d (declared_in ls) ≡ is_some (link_of d ls)
is_declared-link_of d [] = refl
is_declared-link_of d (l ∷ ls) = declared_at (l.declared.dpid == d) (is_declared-link_of d ls)
  where
    declared_at : (b : Bool) → is_declared d (declared_in ls) ≡ is_some (link_of d ls) → (b || is_declared d (declared_in ls)) ≡ is_some (if b then Some l else link_of d ls)
    declared_at true rest = refl
    declared_at false rest = rest

pub is_declared-place : (d : ℕ) (held : List Held) (place : Option ℕ) → IsPlaceOf d held place → is_some place ≡ is_declared d (declared_in (links_in held))
is_declared-place d held None none = sym (is_declared-link_of d (links_in held) ∙ ap is_some (link_of-not_held d held none))
is_declared-place d [] (Some place) has = absurd (omega (arith, has.within))
is_declared-place d (g ∷ gs) (Some place) has = sym (is_declared-link_of d (links_in (g ∷ gs)) ∙ ap is_some (link_of-held d (g ∷ gs) place g has))

-- ---- All, one after the other

-- one more has what those before it have
pub below_set : (P : ℕ → Held → Type 0) (held : List Held) (i : ℕ) (new : Held) → i < length held → ((k : ℕ) (h : Held) → k < i → P k (slice_index_or held k h)) → P i new
    → (k : ℕ) (h : Held) → k < i + 1 → P k (slice_index_or (slice_set held i new) k h)
below_set P [] i new within below here k h less = absurd (omega arith)
below_set P (g ∷ gs) zero new within below here zero h less = here
below_set P (g ∷ gs) zero new within below here (suc k) h less = absurd (omega arith)
below_set P (g ∷ gs) (suc i) new within below here zero h less = below 0 h (omega arith)
below_set P (g ∷ gs) (suc i) new within below here (suc k) h less =
    below_set (λ j m. P (suc j) m) gs i new (omega arith) (λ j m j_less. below (suc j) m (omega arith)) here k h (omega arith)

pub links_in-mapped : (change : Link → Link) (old new : List Held) → length new ≡ length old → ((k : ℕ) (h g : Held) → k < length old → (slice_index_or new k h).link ≡ change (slice_index_or old k g).link)
    → links_in new ≡ map change (links_in old)
links_in-mapped change [] [] same changed = refl
links_in-mapped change [] (n ∷ ns) same changed = absurd (omega arith)
links_in-mapped change (o ∷ os) [] same changed = absurd (omega arith)
links_in-mapped change (o ∷ os) (n ∷ ns) same changed =
    rw (changed 0 o o (omega arith), links_in-mapped change os ns (omega arith) (λ k h g less. changed (suc k) h g (omega arith))) refl

pub All-at : (P : Link → Type 0) (held : List Held) (place : ℕ) (x : Held) → place < length held → AllByRecursion P (links_in held) → P (slice_index_or held place x).link
All-at P [] place x within all = absurd (omega arith)
All-at P (g ∷ gs) zero x within all = all.0
All-at P (g ∷ gs) (suc place) x within all = All-at P gs place x (omega arith) all.1

-- ---- What waits

pub waiting_in-first : (held : List Held) (place : ℕ) (x : Held) (message : List ℕ) → WaitsFirst held place → slice_get (slice_index_or held place x).link.waits 0 ≡ Some message
    → slice_get (waiting_in (links_in held)) 0 ≡ Some (From (slice_index_or held place x).link.declared.dpid message)
waiting_in-first [] place x message waits found = absurd (omega (arith, waits.within))
waiting_in-first (g ∷ gs) zero x message waits found = head_of g.link.waits found
  where
    head_of : (messages : List (List ℕ)) → slice_get messages 0 ≡ Some message → slice_get (map (From g.link.declared.dpid) messages ++ waiting_in (links_in gs)) 0 ≡ Some (From g.link.declared.dpid message)
    head_of [] found = cc
    head_of (first ∷ more) found = cc
waiting_in-first (g ∷ gs) (suc place) x message waits found =
    let rest : WaitsFirst gs place = record { within = omega (arith, waits.within); here = waits.here; first = λ k h less. waits.first (suc k) h (omega arith) } in
    rw (waits.first 0 x (omega arith)) (waiting_in-first gs place x message rest found)

pub waiting_in-none : (held : List Held) → NoneWaits held → waiting_in (links_in held) ≡ []
waiting_in-none [] none = refl
waiting_in-none (g ∷ gs) none = rw (none 0 g (omega arith)) (waiting_in-none gs (λ k h less. none (suc k) h (omega arith)))

-- what waits of the switch at the first place of which a message waits comes first of all
pub waiting_next : (held : List Held) (place : ℕ) (x : Held) (d : ℕ) → AreDeclaredFrom 1 (declared_in (links_in held)) → WaitsFirst held place → d ≡ (slice_index_or held place x).link.declared.dpid
    → (message : List ℕ) → slice_get (waits_in (link_of d (links_in held))) 0 ≡ Some message → slice_get (waiting_in (links_in held)) 0 ≡ Some (From d message)
waiting_next held place x d are waits same message found =
    let own = link_of-held d held place x (subst (λ (e : ℕ). HasPlace e held place) (sym same) (HasPlace-ascending 1 held place x are waits.within)) in
    subst (λ (e : ℕ). slice_get (waiting_in (links_in held)) 0 ≡ Some (From e message)) (sym same)
    (waiting_in-first held place x message waits (subst (λ (o : Option Link). slice_get (waits_in o) 0 ≡ Some message) own found))

pub waits_at_first : (held : List Held) (place : ℕ) (x : Held) (d : ℕ) → AreDeclaredFrom 1 (declared_in (links_in held)) → WaitsFirst held place → d ≡ (slice_index_or held place x).link.declared.dpid
    → waits_in (link_of d (links_in held)) ≢ []
waits_at_first held place x d are waits same none =
    let own = link_of-held d held place x (subst (λ (e : ℕ). HasPlace e held place) (sym same) (HasPlace-ascending 1 held place x are waits.within)) in
    waits.here x (subst (λ (o : Option Link). waits_in o ≡ []) own none)

-- ---- How much waits

length-waiting_in : (l : Link) (ls : List Link) → length (waiting_in (l ∷ ls)) ≡ length l.waits + length (waiting_in ls)
length-waiting_in l ls = omega (arith, length-append (map (From l.declared.dpid) l.waits) (waiting_in ls), length-map l.waits (From l.declared.dpid))

pub few-with_link : (d n : ℕ) (change : Link → Link) (ls : List Link) → IfSome (link_of d ls) (λ l. length (change l).waits ≤ length l.waits + n)
    → length (waiting_in (with_link d change ls)) ≤ length (waiting_in ls) + n
few-with_link d n change [] few = omega arith
few-with_link d n change (l ∷ ls) few = few_at (l.declared.dpid == d) (few-with_link d n change ls) few
  where
    few_at : (b : Bool) → (IfSome (link_of d ls) (λ l. length (change l).waits ≤ length l.waits + n) → length (waiting_in (with_link d change ls)) ≤ length (waiting_in ls) + n)
        → IfSome (if b then Some l else link_of d ls) (λ l. length (change l).waits ≤ length l.waits + n)
        → length (waiting_in (if b then change l ∷ ls else l ∷ with_link d change ls)) ≤ length (waiting_in (l ∷ ls)) + n
    few_at true rest few = omega (arith, few, length-waiting_in (change l) ls, length-waiting_in l ls)
    few_at false rest few = omega (arith, rest few, length-waiting_in l (with_link d change ls), length-waiting_in l ls)

pub few-set : (n : ℕ) (held : List Held) (place : ℕ) (h x : Held) → place < length held → length h.link.waits ≤ length (slice_index_or held place x).link.waits + n
    → length (waiting_in (links_in (slice_set held place h))) ≤ length (waiting_in (links_in held)) + n
few-set n [] place h x within few = absurd (omega arith)
few-set n (g ∷ gs) zero h x within few = omega (arith, few, length-waiting_in h.link (links_in gs), length-waiting_in g.link (links_in gs))
few-set n (g ∷ gs) (suc place) h x within few =
    omega (arith, few-set n gs place h x (omega arith) few, length-waiting_in g.link (links_in gs), length-waiting_in g.link (links_in (slice_set gs place h)))

-- as many more as a call that answered says, and none after want of memory
pub few_after : {T E : Type 0} (r : Result T E) (n : ℕ) (old new : Link) → OnOk r (length new.waits ≤ length old.waits + n) → OnErr r (new ≡ old) → length new.waits ≤ length old.waits + n
few_after (Ok x) n old new few same = few
few_after (Err e) n old new few same = omega (arith, ap (λ (l : Link). length l.waits) same)

pub few-map : (change : Link → Link) (ls : List Link) → AllByRecursion (λ l. length (change l).waits ≤ length l.waits + 4096) ls
    → length (waiting_in (map change ls)) ≤ length (waiting_in ls) + 4096 * length ls
few-map change [] few = omega arith
few-map change (l ∷ ls) few = omega (arith, few.0, few-map change ls few.1, length-waiting_in (change l) (map change ls), length-waiting_in l ls)

few_ready : (moment : ℕ) (h : Held) → IsReady moment h → h.link.declared.cap ≤ 4096 → length (link_stimulated (Advance moment) h.link).waits ≤ length h.link.waits + 4096
unfolding link_stimulated
few_ready moment h ready small =
    omega (arith, ready.few, small, ap length ready.due, length-append h.link.waits (stimulus_sends (Advance moment) h.link.switch))

all_few : (moment least : ℕ) (held : List Held) → AreReady moment held → AreDeclaredFrom least (declared_in (links_in held)) → AllByRecursion (λ l. length (link_stimulated (Advance moment) l).waits ≤ length l.waits + 4096) (links_in held)
all_few moment least [] ready are = tt
all_few moment least (g ∷ gs) ready are =
    (few_ready moment g (ready 0 g (omega arith)) are.1, all_few moment (g.link.declared.dpid + 1) gs (λ k h less. ready (suc k) h (omega arith)) are.2)

-- When the moment moves on, each of 64 switches sends as many messages at most as its table has entries.
pub few_passed : (moment : ℕ) (held : List Held) → AreReady moment held → AreLinks (links_in held) → length (waiting_in (map (link_stimulated (Advance moment)) (links_in held))) ≤ length (waiting_in (links_in held)) + 262144
few_passed moment held ready links =
    omega (arith, few-map (link_stimulated (Advance moment)) (links_in held) (all_few moment 1 held ready links.declared), links.few)

one_due : (x : WorldStim) (s : State) → length (due_of x s) ≤ 1
one_due (Join d) s = one_join (link_of d s.links)
  where
    one_join : (o : Option Link) → length (join_due d s.moment o) ≤ 1
    one_join None = omega arith
    one_join (Some l) = cond_both (is_some l.switch) [] _ (λ (steps : List WorldStep). length steps ≤ 1) (λ _. omega arith) (λ _. omega arith)
one_due (Leave d) s = cond_both (is_joined d s) _ [] (λ (steps : List WorldStep). length steps ≤ 1) (λ _. omega arith) (λ _. omega arith)
one_due (At t) s = omega arith
one_due (Of d x) s = omega arith

-- Where few messages more wait after a stimulus, few items more are upcoming.
pub few_upcoming : (x : WorldStim) (s : State) → length (waiting_in (links_after x s.moment s.links)) ≤ length (waiting_in s.links) + 262144
    → length (upcoming (after_stim x s)) < length (upcoming s) + 1000000
unfolding upcoming after_stim
few_upcoming x s few =
    omega (arith, few, one_due x s, length-append s.due (waiting_in s.links), length-append (s.due ++ due_of x s) (waiting_in (links_after x s.moment s.links)), length-append s.due (due_of x s))

-- ---- A stimulus

pub due_of-links : (x : WorldStim) (s : State) → due_of x s ≡ due_in x s.moment s.links
unfolding switch_of
due_of-links (Join d) s = refl
due_of-links (Leave d) s = refl
due_of-links (At t) s = refl
due_of-links (Of d x) s = refl

pub few_joined : (d moment : ℕ) (ls : List Link) → length (waiting_in (with_link d (link_joined moment) ls)) ≤ length (waiting_in ls) + 262144
unfolding link_joined
few_joined d moment ls = few-with_link d 262144 (link_joined moment) ls (as_many (link_of d ls))
  where
    as_many : (o : Option Link) → IfSome o (λ l. length (link_joined moment l).waits ≤ length l.waits + 262144)
    as_many None = tt
    as_many (Some l) = omega arith

pub few_left : (d : ℕ) (ls : List Link) → length (waiting_in (with_link d link_left ls)) ≤ length (waiting_in ls) + 262144
unfolding link_left
few_left d ls = few-with_link d 262144 link_left ls (none_waits (link_of d ls))
  where
    none_waits : (o : Option Link) → IfSome o (λ l. length (link_left l).waits ≤ length l.waits + 262144)
    none_waits None = tt
    none_waits (Some l) = omega arith
