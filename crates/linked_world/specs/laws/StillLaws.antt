-- A call behind calls of which nothing is seen, or before such calls, is such a call over all of them.
use Rattle.std.specs.Prelude.{◌≡◌, ℕ, Bool, true, false, not, List, [], ◌++◌, Result, Ok, Err, IsTrue, if◌then◌else◌, refl}
use Rattle.std.proofs.Common.{sym, ap, ◌∙◌, subst}
use Rattle.std.proofs.lemmas.List.{append-nil}
use Rattle.lego_io.specs.Count.{raised}
use Rattle.lego_io.specs.laws.CountLaws.{Rose-after, Rose-before}
use Rattle.flow_table.specs.Switch.{Declared}
use Rattle.outside.specs.declared.faults.Short.{Short}
use Rattle.outside.specs.declared.faults.StartFault.{StartFault}
use Rattle.outside.specs.declared.faults.StartFault.TheVariants as starting
use Rattle.outside.specs.declared.faults.GiveFault.{GiveFault}
use Rattle.outside.specs.declared.faults.GiveFault.TheVariants as giving
use Rattle.outside.specs.declared.item.Taken.{Taken}
use Rattle.outside.specs.declared.item.Taken.TheVariants as gave
use Rattle.outside.specs.declared.step.WorldStep.{WorldStep}
use Rattle.outside.specs.Seen.{Counts, Seen, AreCounts, with_stray, with_short}
use Rattle.outside.specs.State.{at_first, after_steps, state, is_running}
use Rattle.outside.specs.Calls.{Starts, start_steps, start_counts, Gives, give_steps, give_counts, Takes, take_steps, take_counts, Ends, end_steps}
use Rattle.outside.specs.laws.SeenLaws.{NoneFell-refl, NoneFell-trans}
use Rattle.linked_world.specs.Still.{Still, Shorted, Tried}
use Rattle.linked_world.specs.laws.CountLaws.{AreCounts-refl}

-- ---- Counts

pub AreCounts-trans : (declared : List Declared) (a b c : Counts) → AreCounts declared a b → AreCounts declared b c → AreCounts declared a c
AreCounts-trans declared a b c first second = record {
  shuts = second.shuts ∙ first.shuts;
  next_faults = second.next_faults ∙ first.next_faults;
  starts_failed = second.starts_failed ∙ first.starts_failed;
  closings = second.closings ∙ first.closings;
  silences = second.silences ∙ first.silences;
  link_faults = λ d is. second.link_faults d is ∙ first.link_faults d is;
  shorts = second.shorts ∙ first.shorts;
  shorts_of = λ d is. second.shorts_of d is ∙ first.shorts_of d is;
  strays = second.strays ∙ first.strays;
}

stray_alike : (declared : List Declared) (stray : Bool) (a b : Counts) → AreCounts declared a b → AreCounts declared (with_stray stray a) (with_stray stray b)
stray_alike declared stray a b are = record {
  shuts = are.shuts;
  next_faults = are.next_faults;
  starts_failed = are.starts_failed;
  closings = are.closings;
  silences = are.silences;
  link_faults = are.link_faults;
  shorts = are.shorts;
  shorts_of = are.shorts_of;
  strays = ap (λ (n : ℕ). if stray then raised n else n) are.strays;
}

short_alike : (declared : List Declared) (a b : Counts) → AreCounts declared a b → AreCounts declared (with_short a) (with_short b)
short_alike declared a b are = record {
  shuts = are.shuts;
  next_faults = are.next_faults;
  starts_failed = are.starts_failed;
  closings = are.closings;
  silences = are.silences;
  link_faults = are.link_faults;
  shorts = ap raised are.shorts;
  shorts_of = are.shorts_of;
  strays = are.strays;
}

starts_failed_alike : (declared : List Declared) (a b : Counts) → AreCounts declared a b → AreCounts declared (record a { starts_failed = raised a.starts_failed }) (record b { starts_failed = raised b.starts_failed })
starts_failed_alike declared a b are = record {
  shuts = are.shuts;
  next_faults = are.next_faults;
  starts_failed = ap raised are.starts_failed;
  closings = are.closings;
  silences = are.silences;
  link_faults = are.link_faults;
  shorts = are.shorts;
  shorts_of = are.shorts_of;
  strays = are.strays;
}

closings_alike : (declared : List Declared) (a b : Counts) → AreCounts declared a b → AreCounts declared (record a { closings = raised a.closings }) (record b { closings = raised b.closings })
closings_alike declared a b are = record {
  shuts = are.shuts;
  next_faults = are.next_faults;
  starts_failed = are.starts_failed;
  closings = ap raised are.closings;
  silences = are.silences;
  link_faults = are.link_faults;
  shorts = are.shorts;
  shorts_of = are.shorts_of;
  strays = are.strays;
}

silences_alike : (declared : List Declared) (a b : Counts) → AreCounts declared a b → AreCounts declared (record a { silences = raised a.silences }) (record b { silences = raised b.silences })
silences_alike declared a b are = record {
  shuts = are.shuts;
  next_faults = are.next_faults;
  starts_failed = are.starts_failed;
  closings = are.closings;
  silences = ap raised are.silences;
  link_faults = are.link_faults;
  shorts = are.shorts;
  shorts_of = are.shorts_of;
  strays = are.strays;
}

start_alike : {T : Type 0} (declared : List Declared) (result : Result T StartFault) (a b : Counts) → AreCounts declared a b → AreCounts declared (start_counts result a) (start_counts result b)
unfolding start_counts
start_alike declared (Ok x) a b are = are
start_alike declared (Err starting.NotStarted) a b are = starts_failed_alike declared a b are
start_alike declared (Err starting.Short) a b are = short_alike declared a b are

give_alike : {T : Type 0} (declared : List Declared) (result : Result T GiveFault) (a b : Counts) → AreCounts declared a b → AreCounts declared (give_counts result a) (give_counts result b)
unfolding give_counts
give_alike declared (Ok x) a b are = are
give_alike declared (Err giving.Gone) a b are = closings_alike declared a b are
give_alike declared (Err giving.Short) a b are = short_alike declared a b are

take_alike : (declared : List Declared) (result : Result Taken Short) (a b : Counts) → AreCounts declared a b → AreCounts declared (take_counts result a) (take_counts result b)
unfolding take_counts
take_alike declared (Ok (gave.Some n)) a b are = are
take_alike declared (Ok gave.Closed) a b are = closings_alike declared a b are
take_alike declared (Ok gave.Silent) a b are = silences_alike declared a b are
take_alike declared (Err short) a b are = short_alike declared a b are

-- ---- Still

-- a world that is known whole stays one
shown_behind : {Own : Type 0} (a b : Seen Own) → b.given ≡ a.given → a.given.shows ≡ true → b.given.shows ≡ true
shown_behind a b given shown = ap (λ (g : _). g.shows) given ∙ shown

pub still_none : {Own : Type 0} (Tells : Type 0) (a : Seen Own) → Still Tells a a
still_none Tells a = record {
  given = refl;
  none_fell = NoneFell-refl a.counts;
  told = λ told. (refl, λ shown. AreCounts-refl a.given.declared a.counts);
}

declared_same : {Own : Type 0} {Tells : Type 0} {a b : Seen Own} → Still Tells a b → b.given.declared ≡ a.given.declared
declared_same still = ap (λ (g : _). g.declared) still.given

state_same : {Own : Type 0} {Tells : Type 0} {a b : Seen Own} → Tells → Still Tells a b → state b ≡ state a
unfolding state
state_same {a = a} {b = b} told still =
    ap (λ (xs : List WorldStep). after_steps xs (at_first b.given)) (still.told told).0 ∙ ap (λ (g : _). after_steps a.history (at_first g)) still.given

pub still_twice : {Own : Type 0} {Tells : Type 0} {a b c : Seen Own} → Still Tells a b → Still Tells b c → Still Tells a c
still_twice {a = a} {b = b} {c = c} first second = record {
  given = second.given ∙ first.given;
  none_fell = NoneFell-trans a.counts b.counts c.counts first.none_fell second.none_fell;
  told = λ told. (
    (second.told told).0 ∙ (first.told told).0,
    λ shown. AreCounts-trans a.given.declared a.counts b.counts c.counts ((first.told told).1 shown)
        (subst (λ (d : List Declared). AreCounts d b.counts c.counts) (declared_same first) ((second.told told).1 (shown_behind a b first.given shown))),
  );
}

pub still_shorted : {Own : Type 0} {Tells : Type 0} {a b c : Seen Own} → Still Tells a b → Shorted Tells b c → Shorted Tells a c
still_shorted {a = a} {b = b} {c = c} first second = record {
  given = second.given ∙ first.given;
  none_fell = NoneFell-trans a.counts b.counts c.counts first.none_fell second.none_fell;
  short = Rose-after a.counts.shorts b.counts.shorts c.counts.shorts first.none_fell.shorts second.short;
  told = λ told. (
    (second.told told).0 ∙ (first.told told).0,
    λ shown. AreCounts-trans a.given.declared (with_short a.counts) (with_short b.counts) c.counts
        (short_alike a.given.declared a.counts b.counts ((first.told told).1 shown))
        (subst (λ (d : List Declared). AreCounts d (with_short b.counts) c.counts) (declared_same first) ((second.told told).1 (shown_behind a b first.given shown))),
  );
}

pub shorted_still : {Own : Type 0} {Tells : Type 0} {a b c : Seen Own} → Shorted Tells a b → Still Tells b c → Shorted Tells a c
shorted_still {a = a} {b = b} {c = c} first second = record {
  given = second.given ∙ first.given;
  none_fell = NoneFell-trans a.counts b.counts c.counts first.none_fell second.none_fell;
  short = Rose-before a.counts.shorts b.counts.shorts c.counts.shorts first.none_fell.shorts first.short second.none_fell.shorts;
  told = λ told. (
    (second.told told).0 ∙ (first.told told).0,
    λ shown. AreCounts-trans a.given.declared (with_short a.counts) b.counts c.counts ((first.told told).1 shown)
        (subst (λ (d : List Declared). AreCounts d b.counts c.counts) (ap (λ (g : _). g.declared) first.given) ((second.told told).1 (shown_behind a b first.given shown))),
  );
}

pub tried_behind : {Own T : Type 0} {Tells : Type 0} (a b c : Seen Own) (result : Result T Short) → Still Tells a b → Tried Tells result b c → Tried Tells result a c
tried_behind a b c (Ok x) first second = still_twice first second
tried_behind a b c (Err short) first second = still_shorted first second

-- ---- A call behind

pub starts_behind : {Own T : Type 0} {Tells : Type 0} {app : ℕ} {a b c : Seen Own} (result : Result T StartFault) → Still Tells a b → Starts Tells app b c result → Starts Tells app a c result
starts_behind {app = app} {a = a} {b = b} {c = c} result still call = record {
  given = call.given ∙ still.given;
  none_fell = NoneFell-trans a.counts b.counts c.counts still.none_fell call.none_fell;
  not_started = λ is. Rose-after a.counts.starts_failed b.counts.starts_failed c.counts.starts_failed still.none_fell.starts_failed (call.not_started is);
  short = λ is. Rose-after a.counts.shorts b.counts.shorts c.counts.shorts still.none_fell.shorts (call.short is);
  told = λ told.
      let t = call.told told in
      let runs : is_running app (state b) ≡ is_running app (state a) = ap (is_running app) (state_same told still) in
      record {
        history = t.history ∙ ap (λ (xs : List WorldStep). xs ++ start_steps app result) (still.told told).0;
        counts = λ shown. AreCounts-trans a.given.declared (with_stray (is_running app (state a)) (start_counts result a.counts)) (with_stray (is_running app (state a)) (start_counts result b.counts)) c.counts
            (stray_alike a.given.declared (is_running app (state a)) (start_counts result a.counts) (start_counts result b.counts) (start_alike a.given.declared result a.counts b.counts ((still.told told).1 shown)))
            (subst (λ (d : List Declared). AreCounts d (with_stray (is_running app (state a)) (start_counts result b.counts)) c.counts) (declared_same still)
            (subst (λ (s : Bool). AreCounts b.given.declared (with_stray s (start_counts result b.counts)) c.counts) runs (t.counts (shown_behind a b still.given shown))));
        out_of_place = λ shown. λ is. t.out_of_place (shown_behind a b still.given shown) (subst IsTrue (sym runs) is);
      };
}

pub gives_behind : {Own T : Type 0} {Tells : Type 0} {app : ℕ} {bytes : List ℕ} {a b c : Seen Own} (result : Result T GiveFault) → Still Tells a b → Gives Tells app bytes b c result → Gives Tells app bytes a c result
gives_behind {app = app} {bytes = bytes} {a = a} {b = b} {c = c} result still call = record {
  given = call.given ∙ still.given;
  none_fell = NoneFell-trans a.counts b.counts c.counts still.none_fell call.none_fell;
  gone = λ is. Rose-after a.counts.closings b.counts.closings c.counts.closings still.none_fell.closings (call.gone is);
  short = λ is. Rose-after a.counts.shorts b.counts.shorts c.counts.shorts still.none_fell.shorts (call.short is);
  told = λ told.
      let t = call.told told in
      let runs : is_running app (state b) ≡ is_running app (state a) = ap (is_running app) (state_same told still) in
      let stray = not (is_running app (state a)) in
      record {
        history = t.history ∙ ap (λ (xs : List WorldStep). xs ++ give_steps app bytes result) (still.told told).0;
        counts = λ shown. AreCounts-trans a.given.declared (with_stray stray (give_counts result a.counts)) (with_stray stray (give_counts result b.counts)) c.counts
            (stray_alike a.given.declared stray (give_counts result a.counts) (give_counts result b.counts) (give_alike a.given.declared result a.counts b.counts ((still.told told).1 shown)))
            (subst (λ (d : List Declared). AreCounts d (with_stray stray (give_counts result b.counts)) c.counts) (declared_same still)
            (subst (λ (s : Bool). AreCounts b.given.declared (with_stray (not s) (give_counts result b.counts)) c.counts) runs (t.counts (shown_behind a b still.given shown))));
        out_of_place = λ shown. λ is. t.out_of_place (shown_behind a b still.given shown) (runs ∙ is);
      };
}

pub takes_behind : {Own : Type 0} {Tells : Type 0} {app : ℕ} {a b c : Seen Own} {buf : List ℕ} (result : Result Taken Short) → Still Tells a b → Takes Tells app b c result buf → Takes Tells app a c result buf
takes_behind {app = app} {a = a} {b = b} {c = c} {buf = buf} result still call = record {
  given = call.given ∙ still.given;
  none_fell = NoneFell-trans a.counts b.counts c.counts still.none_fell call.none_fell;
  taken = call.taken;
  closed = λ is. Rose-after a.counts.closings b.counts.closings c.counts.closings still.none_fell.closings (call.closed is);
  silent = λ is. Rose-after a.counts.silences b.counts.silences c.counts.silences still.none_fell.silences (call.silent is);
  short = λ is. Rose-after a.counts.shorts b.counts.shorts c.counts.shorts still.none_fell.shorts (call.short is);
  told = λ told.
      let t = call.told told in
      let runs : is_running app (state b) ≡ is_running app (state a) = ap (is_running app) (state_same told still) in
      let stray = not (is_running app (state a)) in
      record {
        history = t.history ∙ ap (λ (xs : List WorldStep). xs ++ take_steps app result buf) (still.told told).0;
        counts = λ shown. AreCounts-trans a.given.declared (with_stray stray (take_counts result a.counts)) (with_stray stray (take_counts result b.counts)) c.counts
            (stray_alike a.given.declared stray (take_counts result a.counts) (take_counts result b.counts) (take_alike a.given.declared result a.counts b.counts ((still.told told).1 shown)))
            (subst (λ (d : List Declared). AreCounts d (with_stray stray (take_counts result b.counts)) c.counts) (declared_same still)
            (subst (λ (s : Bool). AreCounts b.given.declared (with_stray (not s) (take_counts result b.counts)) c.counts) runs (t.counts (shown_behind a b still.given shown))));
        out_of_place = λ shown. λ is. t.out_of_place (shown_behind a b still.given shown) (runs ∙ is);
      };
}

pub ends_behind : {Own : Type 0} {Tells : Type 0} {app : ℕ} {a b c : Seen Own} → Still Tells a b → Ends Tells app b c → Ends Tells app a c
ends_behind {app = app} {a = a} {b = b} {c = c} still call = record {
  given = call.given ∙ still.given;
  none_fell = NoneFell-trans a.counts b.counts c.counts still.none_fell call.none_fell;
  told = λ told.
      let t = call.told told in
      record {
        history = t.history ∙ ap (λ (s : _). b.history ++ end_steps app (is_running app s)) (state_same told still)
            ∙ ap (λ (xs : List WorldStep). xs ++ end_steps app (is_running app (state a))) (still.told told).0;
        counts = λ shown. AreCounts-trans a.given.declared a.counts b.counts c.counts ((still.told told).1 shown)
            (subst (λ (d : List Declared). AreCounts d b.counts c.counts) (declared_same still) (t.counts (shown_behind a b still.given shown)));
      };
}

-- ---- A call before

pub starts_before : {Own T : Type 0} {Tells : Type 0} {app : ℕ} {a b c : Seen Own} (result : Result T StartFault) → Starts Tells app a b result → Still Tells b c → Starts Tells app a c result
starts_before {app = app} {a = a} {b = b} {c = c} result call still = record {
  given = still.given ∙ call.given;
  none_fell = NoneFell-trans a.counts b.counts c.counts call.none_fell still.none_fell;
  not_started = λ is. Rose-before a.counts.starts_failed b.counts.starts_failed c.counts.starts_failed call.none_fell.starts_failed (call.not_started is) still.none_fell.starts_failed;
  short = λ is. Rose-before a.counts.shorts b.counts.shorts c.counts.shorts call.none_fell.shorts (call.short is) still.none_fell.shorts;
  told = λ told.
      let t = call.told told in
      record {
        history = (still.told told).0 ∙ t.history;
        counts = λ shown. AreCounts-trans a.given.declared (with_stray (is_running app (state a)) (start_counts result a.counts)) b.counts c.counts (t.counts shown)
            (subst (λ (d : List Declared). AreCounts d b.counts c.counts) (ap (λ (g : _). g.declared) call.given) ((still.told told).1 (shown_behind a b call.given shown)));
        out_of_place = t.out_of_place;
      };
}

pub gives_before : {Own T : Type 0} {Tells : Type 0} {app : ℕ} {bytes : List ℕ} {a b c : Seen Own} (result : Result T GiveFault) → Gives Tells app bytes a b result → Still Tells b c → Gives Tells app bytes a c result
gives_before {app = app} {a = a} {b = b} {c = c} result call still = record {
  given = still.given ∙ call.given;
  none_fell = NoneFell-trans a.counts b.counts c.counts call.none_fell still.none_fell;
  gone = λ is. Rose-before a.counts.closings b.counts.closings c.counts.closings call.none_fell.closings (call.gone is) still.none_fell.closings;
  short = λ is. Rose-before a.counts.shorts b.counts.shorts c.counts.shorts call.none_fell.shorts (call.short is) still.none_fell.shorts;
  told = λ told.
      let t = call.told told in
      record {
        history = (still.told told).0 ∙ t.history;
        counts = λ shown. AreCounts-trans a.given.declared (with_stray (not (is_running app (state a))) (give_counts result a.counts)) b.counts c.counts (t.counts shown)
            (subst (λ (d : List Declared). AreCounts d b.counts c.counts) (ap (λ (g : _). g.declared) call.given) ((still.told told).1 (shown_behind a b call.given shown)));
        out_of_place = t.out_of_place;
      };
}

-- ---- Want of memory

unstrayed : (declared : List Declared) (stray : Bool) (a b : Counts) → stray ≡ false → AreCounts declared a b → AreCounts declared (with_stray stray a) b
unstrayed declared stray a b none are = record {
  shuts = are.shuts;
  next_faults = are.next_faults;
  starts_failed = are.starts_failed;
  closings = are.closings;
  silences = are.silences;
  link_faults = are.link_faults;
  shorts = are.shorts;
  shorts_of = are.shorts_of;
  strays = are.strays ∙ sym (ap (λ (s : Bool). if s then raised a.strays else a.strays) none);
}

none_more : (xs ys : List WorldStep) → xs ≡ ys → xs ≡ ys ++ []
none_more xs ys same = same ∙ sym (append-nil ys)

-- of an application that does not run
pub starts_short : {Own T : Type 0} {Tells : Type 0} {app : ℕ} {a b : Seen Own} → Shorted Tells a b → (Tells → is_running app (state a) ≡ false) → Starts {T = T} Tells app a b (Err starting.Short)
unfolding start_steps start_counts
starts_short {app = app} {a = a} {b = b} short runs = record {
  given = short.given;
  none_fell = short.none_fell;
  not_started = λ is. absurd cc;
  short = λ is. short.short;
  told = λ told. record {
    history = none_more b.history a.history (short.told told).0;
    counts = λ shown. unstrayed a.given.declared (is_running app (state a)) (with_short a.counts) b.counts (runs told) ((short.told told).1 shown);
    out_of_place = λ shown. λ is. refl;
  };
}

-- of one that runs
pub gives_short : {Own T : Type 0} {Tells : Type 0} {app : ℕ} {bytes : List ℕ} {a b : Seen Own} → Shorted Tells a b → (Tells → is_running app (state a) ≡ true) → Gives {T = T} Tells app bytes a b (Err giving.Short)
unfolding give_steps give_counts
gives_short {app = app} {a = a} {b = b} short runs = record {
  given = short.given;
  none_fell = short.none_fell;
  gone = λ is. absurd cc;
  short = λ is. short.short;
  told = λ told. record {
    history = none_more b.history a.history (short.told told).0;
    counts = λ shown. unstrayed a.given.declared (not (is_running app (state a))) (with_short a.counts) b.counts (ap not (runs told)) ((short.told told).1 shown);
    out_of_place = λ shown. λ is. refl;
  };
}

pub takes_short : {Own : Type 0} {Tells : Type 0} {app : ℕ} {a b : Seen Own} {buf : List ℕ} (answer : Short) → Shorted Tells a b → (Tells → is_running app (state a) ≡ true) → Takes Tells app a b (Err answer) buf
unfolding take_steps take_counts
takes_short {app = app} {a = a} {b = b} answer short runs = record {
  given = short.given;
  none_fell = short.none_fell;
  taken = tt;
  closed = λ is. absurd cc;
  silent = λ is. absurd cc;
  short = λ is. short.short;
  told = λ told. record {
    history = none_more b.history a.history (short.told told).0;
    counts = λ shown. unstrayed a.given.declared (not (is_running app (state a))) (with_short a.counts) b.counts (ap not (runs told)) ((short.told told).1 shown);
    out_of_place = λ shown. λ is. tt;
  };
}
