-- Laws of the counts of a simulated world: what each change of the tally makes of the counts that are seen.
use Rattle.std.specs.Prelude.{◌≡◌, ◌==◌, ℕ, ◌-◌, ◌^◌, ◌≤◌, Bool, true, false, List, [], ◌∷◌, All, refl, if◌then◌else◌}
use Rattle.std.specs.List.{list_any}
use Rattle.std.proofs.Common.{sym, ap, ◌∙◌, arith}
use Rattle.std.proofs.lemmas.Bool.{eqb-true, eq-eqb, false≢true, or_parts}
use Rattle.std.proofs.lemmas.List.Elements.{All-head, All-tail, All-nil, All-cons}
use Rattle.lego_io.specs.Count.{raised, Rose}
use Rattle.lego_io.specs.laws.CountLaws.{Rose-raised}
use Rattle.flow_table.specs.Switch.{Declared}
use Rattle.outside.specs.Seen.{Counts, NoneFell, AreCounts, is_declared, with_stray, with_short, with_short_of, with_link_fault}
use Rattle.sim_world.specs.Tally.{last_count, LinkCounts, TallyState, count_at, counts_of, counts_at, one_fault, one_short, tally_stray, tally_short, tally_short_of, tally_fault_of, CountsFor}
use Rattle.of_types.specs.laws.ChoiceLaws.{or_later}

-- ---- One switch's counts

-- a change keeps whose counts they are
abbrev KeepsNumber : (LinkCounts → LinkCounts) → Type 0
KeepsNumber change = (l : LinkCounts) → (change l).dpid ≡ l.dpid

-- the count of a switch that is there rises by one where it is the one that changes
one_raised : (count : LinkCounts → ℕ) (change : LinkCounts → LinkCounts) → KeepsNumber change → ((l : LinkCounts) → count (change l) ≡ raised (count l)) → (d e other before : ℕ) (l : LinkCounts) (ls : List LinkCounts)
    → (here : Bool) → (l.dpid == e) ≡ here
    → (here ≡ false → count_at count other e (counts_at d change ls) ≡ (if e == d then raised (count_at count before e ls) else count_at count before e ls))
    → (it : Bool) → (l.dpid == d) ≡ it
    → (if (if it then change l else l).dpid == e then count (if it then change l else l) else count_at count other e (counts_at d change ls))
    ≡ (if e == d then raised (if here then count l else count_at count before e ls) else (if here then count l else count_at count before e ls))
one_raised count change keeps rises d e other before l ls true is rest true it =
    let same : (e == d) ≡ true = rw (← eqb-true l.dpid e is) it in
    let still : ((change l).dpid == e) ≡ true = ap (λ n. n == e) (keeps l) ∙ is in
    rw (still, same) (rises l)
one_raised count change keeps rises d e other before l ls true is rest false it =
    let apart : (e == d) ≡ false = rw (← eqb-true l.dpid e is) it in
    rw (is, apart) refl
one_raised count change keeps rises d e other before l ls false is rest true it = rw (ap (λ n. n == e) (keeps l) ∙ is) (rest refl)
one_raised count change keeps rises d e other before l ls false is rest false it = rw is (rest refl)

count-raised : (count : LinkCounts → ℕ) (change : LinkCounts → LinkCounts) → KeepsNumber change → ((l : LinkCounts) → count (change l) ≡ raised (count l)) → (d e other before : ℕ) (ls : List LinkCounts)
    → list_any (λ l. l.dpid == e) ls ≡ true
    → count_at count other e (counts_at d change ls) ≡ (if e == d then raised (count_at count before e ls) else count_at count before e ls)
count-raised count change keeps rises d e other before [] there = absurd (false≢true there)
count-raised count change keeps rises d e other before (l ∷ ls) there =
    one_raised count change keeps rises d e other before l ls (l.dpid == e) refl
    (λ elsewhere. count-raised count change keeps rises d e other before ls (or_later (l.dpid == e) _ there elsewhere))
    (l.dpid == d) refl

-- a count that does not change, whichever switch's counts do
one_kept : (count : LinkCounts → ℕ) (change : LinkCounts → LinkCounts) → KeepsNumber change → ((l : LinkCounts) → count (change l) ≡ count l) → (e other before : ℕ) (l : LinkCounts) (ls rest : List LinkCounts)
    → (here : Bool) → (l.dpid == e) ≡ here
    → (here ≡ false → count_at count other e rest ≡ count_at count before e ls)
    → (it : Bool)
    → (if (if it then change l else l).dpid == e then count (if it then change l else l) else count_at count other e rest)
    ≡ (if here then count l else count_at count before e ls)
one_kept count change keeps same e other before l ls rest true is later true = rw (ap (λ n. n == e) (keeps l) ∙ is) (same l)
one_kept count change keeps same e other before l ls rest true is later false = rw is refl
one_kept count change keeps same e other before l ls rest false is later true = rw (ap (λ n. n == e) (keeps l) ∙ is) (later refl)
one_kept count change keeps same e other before l ls rest false is later false = rw is (later refl)

count-kept : (count : LinkCounts → ℕ) (change : LinkCounts → LinkCounts) → KeepsNumber change → ((l : LinkCounts) → count (change l) ≡ count l) → (d e other before : ℕ) (ls : List LinkCounts)
    → list_any (λ l. l.dpid == e) ls ≡ true
    → count_at count other e (counts_at d change ls) ≡ count_at count before e ls
count-kept count change keeps same d e other before [] there = absurd (false≢true there)
count-kept count change keeps same d e other before (l ∷ ls) there =
    one_kept count change keeps same e other before l ls (counts_at d change ls) (l.dpid == e) refl
    (λ elsewhere. count-kept count change keeps same d e other before ls (or_later (l.dpid == e) _ there elsewhere))
    (l.dpid == d)

-- a count that is looked up does not depend on what stands for a switch that is not there, where it is
one_same : (count : LinkCounts → ℕ) (e other before : ℕ) (l : LinkCounts) (ls : List LinkCounts) → (here : Bool)
    → (here ≡ false → count_at count other e ls ≡ count_at count before e ls)
    → (if here then count l else count_at count other e ls) ≡ (if here then count l else count_at count before e ls)
one_same count e other before l ls true later = refl
one_same count e other before l ls false later = later refl

count-same : (count : LinkCounts → ℕ) (e other before : ℕ) (ls : List LinkCounts) → list_any (λ l. l.dpid == e) ls ≡ true → count_at count other e ls ≡ count_at count before e ls
count-same count e other before [] there = absurd (false≢true there)
count-same count e other before (l ∷ ls) there =
    one_same count e other before l ls (l.dpid == e) (λ elsewhere. count-same count e other before ls (or_later (l.dpid == e) _ there elsewhere))

-- ---- No count falls

raised-grows : (n : ℕ) → n ≤ 2 ^ 64 - 1 → n ≤ raised n
raised-grows n within = omega arith

raised-within : (n : ℕ) → raised n ≤ 2 ^ 64 - 1
raised-within n = omega arith

abbrev IsWithin : LinkCounts → Type 0
IsWithin l = (l.faults ≤ last_count) × (l.shorts ≤ last_count)

one_grows : (count : LinkCounts → ℕ) (change : LinkCounts → LinkCounts) → KeepsNumber change → (e before other : ℕ) (l : LinkCounts) (ls rest : List LinkCounts)
    → count l ≤ count (change l) → count_at count before e ls ≤ count_at count other e rest
    → (here : Bool) → (l.dpid == e) ≡ here → (it : Bool)
    → (if here then count l else count_at count before e ls)
    ≤ (if (if it then change l else l).dpid == e then count (if it then change l else l) else count_at count other e rest)
one_grows count change keeps e before other l ls rest grows later true is true = rw (ap (λ n. n == e) (keeps l) ∙ is) grows
one_grows count change keeps e before other l ls rest grows later true is false = rw is (omega arith)
one_grows count change keeps e before other l ls rest grows later false is true = rw (ap (λ n. n == e) (keeps l) ∙ is) later
one_grows count change keeps e before other l ls rest grows later false is false = rw is later

count-grows : (count : LinkCounts → ℕ) (change : LinkCounts → LinkCounts) → KeepsNumber change → ((l : LinkCounts) → IsWithin l → count l ≤ count (change l)) → (d e before other : ℕ) → before ≤ other → (ls : List LinkCounts)
    → All IsWithin ls → count_at count before e ls ≤ count_at count other e (counts_at d change ls)
count-grows count change keeps grows d e before other less [] all = less
count-grows count change keeps grows d e before other less (l ∷ ls) all =
    one_grows count change keeps e before other l ls (counts_at d change ls) (grows l (All-head IsWithin l ls all)) (count-grows count change keeps grows d e before other less ls (All-tail IsWithin l ls all)) (l.dpid == e) refl (l.dpid == d)

-- ---- Each change, with a call out of place or without

-- where one of the counts that stand for the whole world rises
scalar : (declared : List Declared) (stray : Bool) (t new : TallyState) (c : Counts) → CountsFor declared t → new.links ≡ t.links
    → c.link_faults ≡ (λ d. count_at (λ l. l.faults) t.strays d t.links) → c.shorts_of ≡ (λ d. count_at (λ l. l.shorts) t.shorts d t.links)
    → new.shuts ≡ c.shuts → new.next_faults ≡ c.next_faults → new.starts_failed ≡ c.starts_failed → new.closings ≡ c.closings → new.silences ≡ c.silences → new.shorts ≡ c.shorts → new.strays ≡ c.strays
    → AreCounts declared c (counts_of new)
unfolding counts_of
scalar declared stray t new c for links faults shorts_of shuts next_faults starts_failed closings silences shorts strays = record {
  shuts = shuts;
  next_faults = next_faults;
  starts_failed = starts_failed;
  closings = closings;
  silences = silences;
  link_faults = λ d is. rw (links, faults) (count-same (λ l. l.faults) d new.strays t.strays t.links (for.switches d ∙ is));
  shorts = shorts;
  shorts_of = λ d is. rw (links, shorts_of) (count-same (λ l. l.shorts) d new.shorts t.shorts t.links (for.switches d ∙ is));
  strays = strays;
}

pub counts-none : (declared : List Declared) (stray : Bool) (t : TallyState) → CountsFor declared t → AreCounts declared (with_stray stray (counts_of t)) (counts_of (tally_stray stray t))
unfolding counts_of
counts-none declared stray t for = scalar declared stray t _ _ for refl refl refl refl refl refl refl refl refl refl

pub counts-shut : (declared : List Declared) (stray : Bool) (t : TallyState) → CountsFor declared t
    → AreCounts declared (with_stray stray (record (counts_of t) { shuts = raised (counts_of t).shuts })) (counts_of (tally_stray stray (record t { shuts = raised t.shuts })))
unfolding counts_of
counts-shut declared stray t for = scalar declared stray t _ _ for refl refl refl refl refl refl refl refl refl refl

pub counts-next_fault : (declared : List Declared) (t : TallyState) → CountsFor declared t
    → AreCounts declared (record (counts_of t) { next_faults = raised (counts_of t).next_faults }) (counts_of (record t { next_faults = raised t.next_faults }))
unfolding counts_of
counts-next_fault declared t for = scalar declared false t _ _ for refl refl refl refl refl refl refl refl refl refl

pub counts-start_failed : (declared : List Declared) (stray : Bool) (t : TallyState) → CountsFor declared t
    → AreCounts declared (with_stray stray (record (counts_of t) { starts_failed = raised (counts_of t).starts_failed })) (counts_of (tally_stray stray (record t { starts_failed = raised t.starts_failed })))
unfolding counts_of
counts-start_failed declared stray t for = scalar declared stray t _ _ for refl refl refl refl refl refl refl refl refl refl

pub counts-closing : (declared : List Declared) (stray : Bool) (t : TallyState) → CountsFor declared t
    → AreCounts declared (with_stray stray (record (counts_of t) { closings = raised (counts_of t).closings })) (counts_of (tally_stray stray (record t { closings = raised t.closings })))
unfolding counts_of
counts-closing declared stray t for = scalar declared stray t _ _ for refl refl refl refl refl refl refl refl refl refl

pub counts-silence : (declared : List Declared) (stray : Bool) (t : TallyState) → CountsFor declared t
    → AreCounts declared (with_stray stray (record (counts_of t) { silences = raised (counts_of t).silences })) (counts_of (tally_stray stray (record t { silences = raised t.silences })))
unfolding counts_of
counts-silence declared stray t for = scalar declared stray t _ _ for refl refl refl refl refl refl refl refl refl refl

pub counts-short : (declared : List Declared) (stray : Bool) (t : TallyState) → CountsFor declared t
    → AreCounts declared (with_stray stray (with_short (counts_of t))) (counts_of (tally_stray stray (tally_short t)))
unfolding counts_of
counts-short declared stray t for = scalar declared stray t _ _ for refl refl refl refl refl refl refl refl refl refl

pub counts-short_of : (declared : List Declared) (stray : Bool) (d : ℕ) (t : TallyState) → CountsFor declared t
    → AreCounts declared (with_stray stray (with_short_of d (counts_of t))) (counts_of (tally_stray stray (tally_short_of d t)))
unfolding counts_of
counts-short_of declared stray d t for = record {
  shuts = refl;
  next_faults = refl;
  starts_failed = refl;
  closings = refl;
  silences = refl;
  link_faults = λ e is. count-kept (λ l. l.faults) one_short (λ l. refl) (λ l. refl) d e _ t.strays t.links (for.switches e ∙ is);
  shorts = refl;
  shorts_of = λ e is. count-raised (λ l. l.shorts) one_short (λ l. refl) (λ l. refl) d e _ t.shorts t.links (for.switches e ∙ is);
  strays = refl;
}

pub counts-fault_of : (declared : List Declared) (stray : Bool) (d : ℕ) (t : TallyState) → CountsFor declared t
    → AreCounts declared (with_stray stray (with_link_fault d (counts_of t))) (counts_of (tally_stray stray (tally_fault_of d t)))
unfolding counts_of
counts-fault_of declared stray d t for = record {
  shuts = refl;
  next_faults = refl;
  starts_failed = refl;
  closings = refl;
  silences = refl;
  link_faults = λ e is. count-raised (λ l. l.faults) one_fault (λ l. refl) (λ l. refl) d e _ t.strays t.links (for.switches e ∙ is);
  shorts = refl;
  shorts_of = λ e is. count-kept (λ l. l.shorts) one_fault (λ l. refl) (λ l. refl) d e _ t.shorts t.links (for.switches e ∙ is);
  strays = refl;
}

-- ---- What a change leaves: no count fell, and it counts for the same switches

pub record Counted (declared : List Declared) (t u : TallyState) : Type 0 where
  pub none_fell : NoneFell (counts_of t) (counts_of u)
  pub for : CountsFor declared u

one_less : (count : LinkCounts → ℕ) (e before other : ℕ) (l : LinkCounts) (ls : List LinkCounts) → count_at count before e ls ≤ count_at count other e ls → (here : Bool)
    → (if here then count l else count_at count before e ls) ≤ (if here then count l else count_at count other e ls)
one_less count e before other l ls later true = omega arith
one_less count e before other l ls later false = later

count-less : (count : LinkCounts → ℕ) (e before other : ℕ) → before ≤ other → (ls : List LinkCounts) → count_at count before e ls ≤ count_at count other e ls
count-less count e before other less [] = less
count-less count e before other less (l ∷ ls) = one_less count e before other l ls (count-less count e before other less ls) (l.dpid == e)

stray-grows : (stray : Bool) (n : ℕ) → n ≤ last_count → n ≤ (if stray then raised n else n)
stray-grows true n within = raised-grows n within
stray-grows false n within = omega arith

stray-within : (stray : Bool) (n : ℕ) → n ≤ last_count → (if stray then raised n else n) ≤ last_count
stray-within true n within = raised-within n
stray-within false n within = within

-- where one of the counts that stand for the whole world rises
whole : (declared : List Declared) (stray : Bool) (t u : TallyState) → CountsFor declared t → u.links ≡ t.links → u.strays ≡ (if stray then raised t.strays else t.strays)
    → t.shuts ≤ u.shuts → t.next_faults ≤ u.next_faults → t.starts_failed ≤ u.starts_failed → t.closings ≤ u.closings → t.silences ≤ u.silences → t.shorts ≤ u.shorts
    → u.shuts ≤ last_count → u.next_faults ≤ last_count → u.starts_failed ≤ last_count → u.closings ≤ last_count → u.silences ≤ last_count → u.shorts ≤ last_count
    → Counted declared t u
unfolding counts_of
whole declared stray t u for links strays shuts next_faults starts_failed closings silences shorts shuts_in next_in starts_in closings_in silences_in shorts_in =
    let strays_grow : t.strays ≤ u.strays = rw strays (stray-grows stray t.strays for.within.strays) in
    record {
      none_fell = record {
        shuts = shuts;
        next_faults = next_faults;
        starts_failed = starts_failed;
        closings = closings;
        silences = silences;
        link_faults = λ e. rw links (count-less (λ l. l.faults) e t.strays u.strays strays_grow t.links);
        shorts = shorts;
        shorts_of = λ e. rw links (count-less (λ l. l.shorts) e t.shorts u.shorts shorts t.links);
        strays = strays_grow;
      };
      for = record {
        switches = λ e. ap (list_any (λ l. l.dpid == e)) links ∙ for.switches e;
        within = record {
          shuts = shuts_in;
          next_faults = next_in;
          starts_failed = starts_in;
          closings = closings_in;
          silences = silences_in;
          shorts = shorts_in;
          strays = rw strays (stray-within stray t.strays for.within.strays);
          links = rw links for.within.links;
        };
      };
    }

pub counted-none : (declared : List Declared) (stray : Bool) (t : TallyState) → CountsFor declared t → Counted declared t (tally_stray stray t)
counted-none declared stray t for =
    whole declared stray t _ for refl refl (omega arith) (omega arith) (omega arith) (omega arith) (omega arith) (omega arith)
    for.within.shuts for.within.next_faults for.within.starts_failed for.within.closings for.within.silences for.within.shorts

pub counted-shut : (declared : List Declared) (stray : Bool) (t : TallyState) → CountsFor declared t → Counted declared t (tally_stray stray (record t { shuts = raised t.shuts }))
counted-shut declared stray t for =
    whole declared stray t _ for refl refl (raised-grows t.shuts for.within.shuts) (omega arith) (omega arith) (omega arith) (omega arith) (omega arith)
    (raised-within t.shuts) for.within.next_faults for.within.starts_failed for.within.closings for.within.silences for.within.shorts

pub counted-next_fault : (declared : List Declared) (t : TallyState) → CountsFor declared t → Counted declared t (record t { next_faults = raised t.next_faults })
counted-next_fault declared t for =
    whole declared false t _ for refl refl (omega arith) (raised-grows t.next_faults for.within.next_faults) (omega arith) (omega arith) (omega arith) (omega arith)
    for.within.shuts (raised-within t.next_faults) for.within.starts_failed for.within.closings for.within.silences for.within.shorts

pub counted-start_failed : (declared : List Declared) (stray : Bool) (t : TallyState) → CountsFor declared t → Counted declared t (tally_stray stray (record t { starts_failed = raised t.starts_failed }))
counted-start_failed declared stray t for =
    whole declared stray t _ for refl refl (omega arith) (omega arith) (raised-grows t.starts_failed for.within.starts_failed) (omega arith) (omega arith) (omega arith)
    for.within.shuts for.within.next_faults (raised-within t.starts_failed) for.within.closings for.within.silences for.within.shorts

pub counted-closing : (declared : List Declared) (stray : Bool) (t : TallyState) → CountsFor declared t → Counted declared t (tally_stray stray (record t { closings = raised t.closings }))
counted-closing declared stray t for =
    whole declared stray t _ for refl refl (omega arith) (omega arith) (omega arith) (raised-grows t.closings for.within.closings) (omega arith) (omega arith)
    for.within.shuts for.within.next_faults for.within.starts_failed (raised-within t.closings) for.within.silences for.within.shorts

pub counted-silence : (declared : List Declared) (stray : Bool) (t : TallyState) → CountsFor declared t → Counted declared t (tally_stray stray (record t { silences = raised t.silences }))
counted-silence declared stray t for =
    whole declared stray t _ for refl refl (omega arith) (omega arith) (omega arith) (omega arith) (raised-grows t.silences for.within.silences) (omega arith)
    for.within.shuts for.within.next_faults for.within.starts_failed for.within.closings (raised-within t.silences) for.within.shorts

pub counted-short : (declared : List Declared) (stray : Bool) (t : TallyState) → CountsFor declared t → Counted declared t (tally_stray stray (tally_short t))
counted-short declared stray t for =
    whole declared stray t _ for refl refl (omega arith) (omega arith) (omega arith) (omega arith) (omega arith) (raised-grows t.shorts for.within.shorts)
    for.within.shuts for.within.next_faults for.within.starts_failed for.within.closings for.within.silences (raised-within t.shorts)

-- where a count of one switch rises
one_number : (d e : ℕ) (change : LinkCounts → LinkCounts) → KeepsNumber change → (l : LinkCounts) (it : Bool) → ((if it then change l else l).dpid == e) ≡ (l.dpid == e)
one_number d e change keeps l true = ap (λ n. n == e) (keeps l)
one_number d e change keeps l false = refl

any-kept : (d e : ℕ) (change : LinkCounts → LinkCounts) → KeepsNumber change → (ls : List LinkCounts) → list_any (λ l. l.dpid == e) (counts_at d change ls) ≡ list_any (λ l. l.dpid == e) ls
any-kept d e change keeps [] = refl
any-kept d e change keeps (l ∷ ls) = rw (one_number d e change keeps l (l.dpid == d), any-kept d e change keeps ls) refl

one_within : (change : LinkCounts → LinkCounts) → ((l : LinkCounts) → IsWithin l → IsWithin (change l)) → (l : LinkCounts) → IsWithin l → (it : Bool) → IsWithin (if it then change l else l)
one_within change stays l is true = stays l is
one_within change stays l is false = is

all_within : (d : ℕ) (change : LinkCounts → LinkCounts) → ((l : LinkCounts) → IsWithin l → IsWithin (change l)) → (ls : List LinkCounts) → All IsWithin ls → All IsWithin (counts_at d change ls)
all_within d change stays [] all = All-nil IsWithin
all_within d change stays (l ∷ ls) all =
    All-cons IsWithin (if l.dpid == d then change l else l) (counts_at d change ls) (one_within change stays l (All-head IsWithin l ls all) (l.dpid == d)) (all_within d change stays ls (All-tail IsWithin l ls all))

pub counted-short_of : (declared : List Declared) (stray : Bool) (d : ℕ) (t : TallyState) → CountsFor declared t → Counted declared t (tally_stray stray (tally_short_of d t))
unfolding counts_of
counted-short_of declared stray d t for = record {
  none_fell = record {
    shuts = omega arith;
    next_faults = omega arith;
    starts_failed = omega arith;
    closings = omega arith;
    silences = omega arith;
    link_faults = λ e. count-grows (λ l. l.faults) one_short (λ l. refl) (λ l is. omega arith) d e t.strays _ (stray-grows stray t.strays for.within.strays) t.links for.within.links;
    shorts = raised-grows t.shorts for.within.shorts;
    shorts_of = λ e. count-grows (λ l. l.shorts) one_short (λ l. refl) (λ l is. raised-grows l.shorts is.1) d e t.shorts _ (raised-grows t.shorts for.within.shorts) t.links for.within.links;
    strays = stray-grows stray t.strays for.within.strays;
  };
  for = record {
    switches = λ e. any-kept d e one_short (λ l. refl) t.links ∙ for.switches e;
    within = record {
      shuts = for.within.shuts;
      next_faults = for.within.next_faults;
      starts_failed = for.within.starts_failed;
      closings = for.within.closings;
      silences = for.within.silences;
      shorts = raised-within t.shorts;
      strays = stray-within stray t.strays for.within.strays;
      links = all_within d one_short (λ l is. (is.0, raised-within l.shorts)) t.links for.within.links;
    };
  };
}

pub counted-fault_of : (declared : List Declared) (stray : Bool) (d : ℕ) (t : TallyState) → CountsFor declared t → Counted declared t (tally_stray stray (tally_fault_of d t))
unfolding counts_of
counted-fault_of declared stray d t for = record {
  none_fell = record {
    shuts = omega arith;
    next_faults = omega arith;
    starts_failed = omega arith;
    closings = omega arith;
    silences = omega arith;
    link_faults = λ e. count-grows (λ l. l.faults) one_fault (λ l. refl) (λ l is. raised-grows l.faults is.0) d e t.strays _ (stray-grows stray t.strays for.within.strays) t.links for.within.links;
    shorts = omega arith;
    shorts_of = λ e. count-grows (λ l. l.shorts) one_fault (λ l. refl) (λ l is. omega arith) d e t.shorts _ (omega arith) t.links for.within.links;
    strays = stray-grows stray t.strays for.within.strays;
  };
  for = record {
    switches = λ e. any-kept d e one_fault (λ l. refl) t.links ∙ for.switches e;
    within = record {
      shuts = for.within.shuts;
      next_faults = for.within.next_faults;
      starts_failed = for.within.starts_failed;
      closings = for.within.closings;
      silences = for.within.silences;
      shorts = for.within.shorts;
      strays = stray-within stray t.strays for.within.strays;
      links = all_within d one_fault (λ l is. (raised-within l.faults, is.1)) t.links for.within.links;
    };
  };
}

-- ---- Each fault comes with its own count

count-absent : (count : LinkCounts → ℕ) (e other : ℕ) (ls : List LinkCounts) → list_any (λ l. l.dpid == e) ls ≡ false → count_at count other e ls ≡ other
count-absent count e other [] none = refl
count-absent count e other (l ∷ ls) none =
    let apart = or_parts (l.dpid == e) _ none in
    rw apart.0 (count-absent count e other ls apart.1)

one_in : (count : LinkCounts → ℕ) (d other : ℕ) (l : LinkCounts) (ls : List LinkCounts) → count l ≤ last_count → count_at count other d ls ≤ last_count → (here : Bool)
    → (if here then count l else count_at count other d ls) ≤ last_count
one_in count d other l ls is later true = is
one_in count d other l ls is later false = later

count-within : (count : LinkCounts → ℕ) → ((l : LinkCounts) → IsWithin l → count l ≤ last_count) → (d other : ℕ) → other ≤ last_count → (ls : List LinkCounts) → All IsWithin ls → count_at count other d ls ≤ last_count
count-within count each d other is [] all = is
count-within count each d other is (l ∷ ls) all =
    one_in count d other l ls (each l (All-head IsWithin l ls all)) (count-within count each d other is ls (All-tail IsWithin l ls all)) (l.dpid == d)

pub rose-raised : (n : ℕ) → n ≤ last_count → Rose n (raised n)
rose-raised n within = Rose-raised n (omega (arith, within))

rose_there : (count : LinkCounts → ℕ) (change : LinkCounts → LinkCounts) → KeepsNumber change → ((l : LinkCounts) → count (change l) ≡ raised (count l)) → ((l : LinkCounts) → IsWithin l → count l ≤ last_count)
    → (d before other : ℕ) (ls : List LinkCounts) → before ≤ last_count → All IsWithin ls → (there : Bool) → list_any (λ l. l.dpid == d) ls ≡ there → (there ≡ false → Rose before other)
    → Rose (count_at count before d ls) (count_at count other d (counts_at d change ls))
rose_there count change keeps rises each d before other ls within all true is rose =
    let risen : count_at count other d (counts_at d change ls) ≡ raised (count_at count before d ls) =
    count-raised count change keeps rises d d other before ls is ∙ ap (λ (b : Bool). if b then raised (count_at count before d ls) else count_at count before d ls) (eq-eqb d d refl) in
    rw risen (rose-raised (count_at count before d ls) (count-within count each d before within ls all))
rose_there count change keeps rises each d before other ls within all false is rose =
    rw (count-absent count d before ls is, count-absent count d other (counts_at d change ls) (any-kept d d change keeps ls ∙ is)) (rose refl)

-- A link that failed is counted for its switch; for a switch that is not declared the call is out of place, and that is counted.
pub rose-fault_of : (declared : List Declared) (stray : Bool) (d : ℕ) (t : TallyState) → CountsFor declared t → (is_declared d declared ≡ false → stray ≡ true)
    → Rose ((counts_of t).link_faults d) ((counts_of (tally_stray stray (tally_fault_of d t))).link_faults d)
unfolding counts_of
rose-fault_of declared stray d t for out =
    rose_there (λ l. l.faults) one_fault (λ l. refl) (λ l. refl) (λ l is. is.0) d t.strays _ t.links for.within.strays for.within.links _ refl
    (λ none. rw (out (sym (for.switches d) ∙ none)) (rose-raised t.strays for.within.strays))

pub rose-short_of : (declared : List Declared) (stray : Bool) (d : ℕ) (t : TallyState) → CountsFor declared t
    → Rose ((counts_of t).shorts_of d) ((counts_of (tally_stray stray (tally_short_of d t))).shorts_of d)
unfolding counts_of
rose-short_of declared stray d t for =
    rose_there (λ l. l.shorts) one_short (λ l. refl) (λ l. refl) (λ l is. is.1) d t.shorts _ t.links for.within.shorts for.within.links _ refl
    (λ none. rose-raised t.shorts for.within.shorts)
