-- Laws of a whole run: events one after the other, batches, the start and the end, and what a run of them promises.
use Rattle.std.proofs.Common.{◌≡◌, ℕ, ◌+◌, ◌-◌, ◌^◌, ◌<◌, ◌≤◌, Bool, true, false, List, [], ◌∷◌, ◌++◌, length, map, drop, Option, Some, None, refl, sym, ap, ap₂, ◌∙◌, subst, arith, inl, inr}
use Rattle.std.specs.Prelude.{slice_get}
use Rattle.std.specs.Io.KnownBytes.{append_known}
use Rattle.std.proofs.lemmas.List.{append-nil, length-append, length-map}
use Rattle.of_types.specs.declared.journal.WorldStim.{WorldStim}
use Rattle.flow_table.specs.View.{TableView}
use Rattle.app_frames.specs.declared.frame.Event.{Event}
use Rattle.lego_model.specs.Places.{Place}
use Rattle.lego_model.specs.Losses.{Losses}
use Rattle.lego_model.specs.Controller.{Run as ModelRun, settle, per_batch}
use Rattle.outside.specs.Seen.{Seen, Continues}
use Rattle.outside.specs.laws.SeenLaws.{Continues-trans}
use Rattle.outside.specs.laws.StateLaws.{Conforming-before}
use Rattle.outside.specs.Conforming.{Conforming}
use Rattle.net_txn.specs.Net.{NetState}
use Rattle.run_laws.specs.Engine.{Engine, Stands, engine_then, behind, rules_of}
use Rattle.lego_model.specs.History.{stimuli_in}
use Rattle.lego_model.specs.ReferenceRun.{Said, text_of, dispatch_next, times}
use Rattle.run_laws.specs.Endings.{ShownStart}
use Rattle.run_laws.specs.Moves.{AtRest, Moved, Shown, OneHappens}
use Rattle.run_laws.specs.laws.BatchMoveLaws.{batch-happens, batch-over}
use Rattle.run_laws.specs.Readings.{JudgesAlike}
use Rattle.run_laws.specs.laws.StimuliLaws.{none-later}
use Rattle.run_laws.specs.laws.MoveLaws.{shown-none, shown-then, shown-as}
use Rattle.run_laws.specs.laws.DispatchWaitingLaws.{settle-times, times-more, times-stop}
use Rattle.run_laws.specs.laws.RoundLaws.{rounds-none, rounds-more, rounds-end, rounds-spent}
use Rattle.run_laws.specs.laws.StartShownLaws.{start-shown}
use Rattle.run_laws.specs.laws.EventLaws.{next-shown, rest-shown}
use Rattle.event_dispatch.specs.declared.batch.Rest.{Rest}
use Rattle.event_dispatch.specs.declared.batch.Rest.TheVariants as rests
use Rattle.event_dispatch.specs.declared.engine_core.Core.{Core}
use Rattle.event_dispatch.specs.declared.run.Run.{Run}
use Rattle.event_dispatch.specs.Runs.{AreRead, StoreRests, Going, Waits}
use Rattle.event_dispatch.specs.Batch.{standing_of, BatchShown}
use Rattle.run_laws.specs.Facts.{Dispatches, StartsAll}
use Rattle.run_laws.specs.Course.{BatchTaken, PartByPart}
use Rattle.run_laws.specs.laws.CourseLaws.{follows-none, follows-one, follows-then}
use Rattle.event_dispatch.specs.Shows.{Stays, application_of, engine_of, stage_of, queued_run}
use Rattle.checkpoint_store.specs.Slots.{Slot}
use Rattle.lego_model.specs.Application.{names}
use Rattle.event_dispatch.specs.Serves.{stand, Notes, Writes, AllStarted, IsDispatched, DispatchesOldest, DispatchesSome, DispatchesWaiting, IsBatch, GoesRound, GoesRounds, GoesToEnd, Begins}
use Rattle.run_laws.specs.laws.EndingLaws.{known-append}

-- ---- What is written

nothing_written : (o : Option (List ℕ)) → o ≡ append_known o []
nothing_written None = refl
nothing_written (Some xs) = ap (λ (l : List ℕ). Some l) (sym (append-nil xs))

writes_none : (contents : Option (List ℕ)) (c : Core) → c.lines.items ≡ [] → Writes [] contents contents c
writes_none contents c none = record { written = nothing_written contents; none_waits = none }

pub writes_then : (first second : List ℕ) (a b c : Option (List ℕ)) (r later : Core) → Writes first a b r → Writes second b c later → Writes (first ++ second) a c later
writes_then first second a b c r later one two = record {
  written = two.written ∙ ap (λ (o : Option (List ℕ)). append_known o second) one.written ∙ known-append a first second;
  none_waits = two.none_waits;
}

-- ---- The oldest event that waits

pub first_event : (queue : List Event) (event : Event) → Some event ≡ slice_get queue 0 → queue ≡ event ∷ drop 1 queue
first_event [] event is = absurd cc
first_event (first ∷ queue) event is = cc

no_event : (queue : List Event) → None ≡ slice_get queue 0 → queue ≡ []
no_event [] is = refl
no_event (first ∷ queue) is = absurd cc

-- the lines that a part noted are all that are written, where none waited before
pub all_noted : (contents now_contents : Option (List ℕ)) (text : List ℕ) (c mid now_c : Core) → c.lines.items ≡ [] → Notes text c mid → Writes mid.lines.items contents now_contents now_c → Writes text contents now_contents now_c
all_noted contents now_contents text c mid now_c none notes writes = subst (λ (xs : List ℕ). Writes xs contents now_contents now_c) (notes ∙ ap (λ (xs : List ℕ). xs ++ text) none) writes

-- the engine stands as it stood, where nothing happened but to the lines
pub stays_engine : (r : Run) (c now_c : Core) → Stays c now_c → engine_of (record r { core = now_c }) ≡ engine_of (record r { core = c })
stays_engine r c now_c stays =
    ap₂ (λ (net : NetState) (queue : List Event). record { net = net; queue = queue; events = now_c.events; apps = map (application_of now_c.store) r.apps.items }) stays.net stays.queue
    ∙ ap₂ (λ (events : ℕ) (slots : List Slot). record { net = c.net; queue = c.queue; events = events; apps = map (application_of slots) r.apps.items }) stays.events stays.store

-- as many applications as places for checkpoints
pub number_is : (r : Run) → Going r → length r.core.store ≡ length (engine_of r).apps
number_is r going = going.number ∙ sym (length-map r.apps.items (application_of r.core.store))

pub one_settled : {Own : Type 0} (Tells : Type 0) (accepts : List TableView → Bool) (event : Event) (contents now_contents : Option (List ℕ)) (old new : Seen Own) (r : Run) (queue : List Event) (mid : Run) (now_c : Core) → Continues Tells old new → r.core.events < 2 ^ 63 → Some event ≡ slice_get r.core.queue 0
    → queue ≡ drop 1 r.core.queue → r.core.lines.items ≡ [] → IsDispatched Tells accepts event old new (queued_run queue r) mid → Stays mid.core now_c → Writes mid.core.lines.items contents now_contents now_c → DispatchesOldest Tells accepts true contents now_contents old new r (record mid { core = now_c })
one_settled Tells accepts event contents now_contents old new r queue mid now_c continues few waits left none is same writes = record {
  text = is.text;
  shown = subst (λ (e : Engine). Shown Tells accepts [] dispatch_next is.text old new (engine_of r) e) (sym (stays_engine mid mid.core now_c same))
      (next-shown Tells accepts event queue is.text old new (engine_of r) (engine_of mid) continues (omega (arith, few)) (first_event r.core.queue event waits ∙ ap (λ (q : List Event). event ∷ q) (sym left)) is.dispatches);
  writes = all_noted contents now_contents is.text r.core mid.core now_c none is.notes writes;
  none = λ h. absurd cc;
  course = follows-one Tells accepts (stage_of old contents r) (stage_of new now_contents (record mid { core = now_c })) (record {
    continues = continues;
    part = inr (inl (record {
      event = event;
      later = queue;
      waits = first_event r.core.queue event waits ∙ ap (λ (q : List Event). event ∷ q) (sym left);
      text = is.text;
      dispatches = subst (λ (e : Engine). Dispatches Tells accepts event is.text old new (engine_of (queued_run queue r)) e) (sym (stays_engine mid mid.core now_c same)) is.dispatches;
      written = (all_noted contents now_contents is.text r.core mid.core now_c none is.notes writes).written;
    }));
  });
}

pub none_settled : {Own : Type 0} (Tells : Type 0) (accepts : List TableView → Bool) (contents : Option (List ℕ)) (seen : Seen Own) (r : Run) (queue : List Event) → queue ≡ drop 1 r.core.queue → None ≡ slice_get r.core.queue 0 → r.core.lines.items ≡ []
    → DispatchesOldest Tells accepts false contents contents seen seen r (queued_run queue r)
none_settled Tells accepts contents seen r queue left waits none =
    let empty : r.core.queue ≡ [] = no_event r.core.queue waits in
    let same : queue ≡ r.core.queue = left ∙ ap (drop 1) empty ∙ sym empty in
    record {
      text = [];
      shown = subst (λ (q : List Event). Shown Tells accepts [] dispatch_next [] seen seen (engine_of r) (record (engine_of r) { queue = q })) (sym same) (rest-shown Tells accepts seen (engine_of r) empty);
      writes = record { written = nothing_written contents; none_waits = none };
      none = λ h. same ∙ empty;
      course = subst (λ (q : List Event). PartByPart Tells accepts (stage_of seen contents r) (stage_of seen contents (queued_run q r))) (sym same)
          (follows-none Tells accepts (stage_of seen contents r));
    }

-- ---- Events, one after the other

pub some_none : {Own : Type 0} (Tells : Type 0) (accepts : List TableView → Bool) (contents : Option (List ℕ)) (seen : Seen Own) (r : Run) → r.core.lines.items ≡ [] → DispatchesSome Tells accepts 0 contents contents seen seen r r
some_none Tells accepts contents seen r none = record { text = []; shown = shown-none Tells accepts seen (engine_of r); writes = writes_none contents r.core none; course = follows-none Tells accepts (stage_of seen contents r) }

pub some_more : {Own : Type 0} (Tells : Type 0) (accepts : List TableView → Bool) (n : ℕ) (found : Bool) (a b c : Option (List ℕ)) (old mid new : Seen Own) (r then_r now_r : Run) → Continues Tells mid new → DispatchesSome Tells accepts n a b old mid r then_r
    → DispatchesOldest Tells accepts found b c mid new then_r now_r → DispatchesSome Tells accepts (n + 1) a c old new r now_r
some_more Tells accepts n found a b c old mid new r then_r now_r continues some one = record {
  text = some.text ++ one.text;
  shown = shown-as Tells accepts [] (λ allows q. dispatch_next allows (times n (dispatch_next allows) q)) (λ allows q. times (n + 1) (dispatch_next allows) q) (some.text ++ one.text) old new (engine_of r) (engine_of now_r)
      (λ allows q is. sym (times-more n 1 (dispatch_next allows) q))
      (shown-then Tells accepts [] [] (λ allows q. times n (dispatch_next allows) q) dispatch_next some.text one.text old mid new (engine_of r) (engine_of then_r) (engine_of now_r) continues some.shown one.shown);
  writes = writes_then some.text one.text a b c then_r.core now_r.core some.writes one.writes;
  course = follows-then Tells accepts (stage_of old a r) (stage_of mid b then_r) (stage_of new c now_r) some.course one.course;
}

-- where none is left after so many, all were dispatched
settled_early : {Own : Type 0} (Tells : Type 0) (accepts : List TableView → Bool) (n m : ℕ) (text : List ℕ) (old new : Seen Own) (e now_e : Engine) → n + m ≡ per_batch → now_e.queue ≡ [] → Shown Tells accepts [] (λ allows q. times n (dispatch_next allows) q) text old new e now_e
    → Shown Tells accepts [] settle text old new e now_e
settled_early {Own} Tells accepts n m text old new e now_e sum none shown = record {
  moved = λ allows told keeps judges settled.
      let m = shown.moved allows told keeps judges settled in
      record {
        moves = record {
          told = m.moves.told;
          batches = m.moves.batches;
          turns = m.moves.turns;
          given = m.moves.given;
          rules = m.moves.rules;
          read = m.moves.read;
          read_stimuli = m.moves.read_stimuli;
          stands = λ said later q fronts s.
              let left = behind m.moves.told said in
              let t = m.moves.stands said later q fronts s in
              subst (Stands new now_e left later) (same allows left later q t) t;
          says = λ said later q fronts s.
              let t = m.moves.stands said later q fronts s in
              subst (λ (p : ModelRun). text_of (names (rules_of e)) p ≡ text_of (names (rules_of e)) q ++ text) (same allows (behind m.moves.told said) later q t) (m.moves.says said later q fronts s);
        };
        settled = m.settled;
      };
}
  where
    same : (allows : List Place → Bool) (said : ℕ → Said) (later : Losses) (q : ModelRun) → Stands new now_e said later (times n (dispatch_next allows) q) → times n (dispatch_next allows) q ≡ settle allows q
    same allows said later q t = sym (times-stop allows n m q (t.queue ∙ none)) ∙ ap (λ (k : ℕ). times k (dispatch_next allows) q) sum ∙ settle-times allows q

pub settles_early : {Own : Type 0} (Tells : Type 0) (accepts : List TableView → Bool) (n : ℕ) (a b : Option (List ℕ)) (old new : Seen Own) (r now_r : Run) → n ≤ 1000 → now_r.core.queue ≡ [] → DispatchesSome Tells accepts n a b old new r now_r → DispatchesWaiting Tells accepts a b old new r now_r
settles_early Tells accepts n a b old new r now_r few none some =
    let rest : (m : ℕ) × (n + m ≡ 1000) = (1000 - n, omega (arith, few)) in
    record { text = some.text; shown = settled_early Tells accepts n rest.0 some.text old new (engine_of r) (engine_of now_r) rest.1 none some.shown; writes = some.writes; course = some.course }

pub settles_all : {Own : Type 0} (Tells : Type 0) (accepts : List TableView → Bool) (n : ℕ) (a b : Option (List ℕ)) (old new : Seen Own) (r now_r : Run) → n ≡ 1000 → DispatchesSome Tells accepts n a b old new r now_r → DispatchesWaiting Tells accepts a b old new r now_r
settles_all Tells accepts n a b old new r now_r all some = record {
  text = some.text;
  shown = shown-as Tells accepts [] (λ allows q. times n (dispatch_next allows) q) settle some.text old new (engine_of r) (engine_of now_r)
      (λ allows q is. ap (λ (k : ℕ). times k (dispatch_next allows) q) all ∙ settle-times allows q) some.shown;
  writes = some.writes;
  course = some.course;
}

-- ---- Rounds

-- the engine with the network and the queue that a batch leaves
engine_behind : (r : Run) (now_c : Core) → Waits r.core now_c → engine_then (engine_of r) now_c.net now_c.queue ≡ engine_of (record r { core = now_c })
engine_behind r now_c waits =
    ap₂ (λ (n : ℕ) (slots : List Slot). record { net = now_c.net; queue = now_c.queue; events = n; apps = map (application_of slots) r.apps.items }) (sym waits.events) (sym waits.store)

-- its lines are all that it noted
pub batch_is : {Own : Type 0} (Tells : Type 0) (rest : Rest) (old new : Seen Own) (r : Run) (now_c : Core) → Continues Tells old new → r.core.lines.items ≡ [] → Waits r.core now_c → BatchShown Tells rest old new r.core now_c
    → IsBatch Tells rest now_c.lines.items old new (engine_of r) (engine_of (record r { core = now_c }))
batch_is Tells rests.Idle old new r now_c continues none waits shown = record {
  happens = λ told keeps settled.
      let done = shown.shown told keeps settled.calm in
      subst (OneHappens now_c.lines.items old new (engine_of r)) (engine_behind r now_c waits)
      (batch-happens Tells done.0 now_c.lines.items (standing_of old r.core) (standing_of new now_c) (engine_of r) told continues (Conforming-before told continues keeps) settled refl refl done.1 (ap (λ (xs : List ℕ). xs ++ now_c.lines.items) (sym none)));
}
batch_is Tells rests.End old new r now_c continues none waits shown = record {
  over = record {
    moved = λ told keeps settled.
        subst (Moved [] (λ (q : ModelRun). q) now_c.lines.items old new (engine_of r)) (engine_behind r now_c waits)
        (batch-over now_c.lines.items (standing_of old r.core) (standing_of new now_c) (engine_of r) settled refl refl (shown.shown told keeps settled.calm) (ap (λ (xs : List ℕ). xs ++ now_c.lines.items) (sym none)));
  };
  none_noted = λ told keeps settled. (shown.shown told keeps settled.calm).text ∙ none;
  none_to_come = λ told keeps settled. (shown.shown told keeps settled.calm).to_come;
}

-- the same, where they were written
pub batch_written : {Own : Type 0} (Tells : Type 0) (rest : Rest) (old new : Seen Own) (r : Run) (then_c mid_c : Core) → Continues Tells old new → r.core.lines.items ≡ [] → Waits r.core then_c → BatchShown Tells rest old new r.core then_c → Stays then_c mid_c
    → IsBatch Tells rest then_c.lines.items old new (engine_of r) (engine_of (record r { core = mid_c }))
batch_written Tells rest old new r then_c mid_c continues none waits shown same =
    subst (λ (e : Engine). IsBatch Tells rest then_c.lines.items old new (engine_of r) e) (sym (stays_engine r then_c mid_c same)) (batch_is Tells rest old new r then_c continues none waits shown)

-- In every world the messages that were kept came first in it.
pub batch_follows : {Own : Type 0} (Tells : Type 0) (accepts : List TableView → Bool) (contents held : Option (List ℕ)) (old mid : Seen Own) (r : Run) (then_c mid_c : Core) → Continues Tells old mid → BatchTaken Tells (stand old r.core) (stand mid then_c)
    → Waits r.core then_c → Stays then_c mid_c → Writes then_c.lines.items contents held mid_c → PartByPart Tells accepts (stage_of old contents r) (stage_of mid held (record r { core = mid_c }))
batch_follows Tells accepts contents held old mid r then_c mid_c first kept waits same writes = follows-one Tells accepts (stage_of old contents r) (stage_of mid held (record r { core = mid_c })) (record {
  continues = first;
  part = inl (record {
    taken = subst (λ (n : NetState). BatchTaken Tells (stand old r.core) (record { seen = mid; net = n; queue = mid_c.queue })) (sym same.net)
        (subst (λ (q : List Event). BatchTaken Tells (stand old r.core) (record { seen = mid; net = then_c.net; queue = q })) (sym same.queue) kept);
    events = same.events ∙ waits.events;
    apps = ap (λ (slots : List Slot). map (application_of slots) r.apps.items) (same.store ∙ waits.store);
    noted = then_c.lines.items;
    written = writes.written;
  });
})

-- and were written
pub round_is : {Own : Type 0} {Tells : Type 0} {accepts : List TableView → Bool} {rest : Rest} {contents held now_contents : Option (List ℕ)} {old mid new : Seen Own} {r now_r : Run} {then_c mid_c : Core} → Continues Tells old mid → r.core.lines.items ≡ [] → Waits r.core then_c
    → BatchShown Tells rest old mid r.core then_c → BatchTaken Tells (stand old r.core) (stand mid then_c) → Stays then_c mid_c → Writes then_c.lines.items contents held mid_c → Continues Tells mid new → DispatchesWaiting Tells accepts held now_contents mid new (record r { core = mid_c }) now_r → GoesRound Tells accepts rest contents now_contents old new r now_r
round_is {Tells = Tells} {accepts = accepts} {rest = rest} {contents = contents} {held = held} {now_contents = now_contents} {old = old} {mid = mid} {new = new} {r = r} {now_r = now_r} {then_c = then_c} {mid_c = mid_c} first none waits batch kept same writes later dispatches = record {
  mid = mid;
  mid_run = record r { core = mid_c };
  first = first;
  noted = then_c.lines.items;
  held = held;
  batch = batch_written Tells rest old mid r then_c mid_c first none waits batch same;
  written = writes.written;
  later = later;
  dispatches = dispatches;
  course = follows-then Tells accepts (stage_of old contents r) (stage_of mid held (record r { core = mid_c })) (stage_of new now_contents now_r)
      (batch_follows Tells accepts contents held old mid r then_c mid_c first kept waits same writes) dispatches.course;
}

-- and the run goes on
pub going_written : (r : Run) (then_c mid_c : Core) → Going r → Waits r.core then_c → AreRead then_c.net.kept → Waits then_c mid_c → Stays then_c mid_c → Going (record r { core = mid_c })
going_written r then_c mid_c going first read second same = record {
  core = record {
    room = subst (λ (n : ℕ). 1 ≤ n) (sym (second.room ∙ first.room)) going.core.room;
    read = subst (λ (n : NetState). AreRead n.kept) (sym same.net) read;
    store = subst StoreRests (sym (second.store ∙ first.store)) going.core.store;
    left = second.left (first.left going.core.left);
  };
  numbered = going.numbered;
  number = ap (λ (slots : List Slot). length slots) (second.store ∙ first.store) ∙ going.number;
}

-- what a round wrote, behind what was written before
round_written : (first noted second : List ℕ) (a b held c : Option (List ℕ)) (r later : Core) → Writes first a b r → held ≡ append_known b noted → Writes second held c later → Writes ((first ++ noted) ++ second) a c later
round_written first noted second a b held c r later one written two = record {
  written = two.written ∙ ap (λ (o : Option (List ℕ)). append_known o second) (written ∙ ap (λ (o : Option (List ℕ)). append_known o noted) one.written ∙ known-append a first noted) ∙ known-append a (first ++ noted) second;
  none_waits = two.none_waits;
}

pub rounds_none : {Own : Type 0} (Tells : Type 0) (accepts : List TableView → Bool) (contents : Option (List ℕ)) (seen : Seen Own) (r : Run) → r.core.lines.items ≡ [] → GoesRounds Tells accepts 0 contents contents seen seen r r
rounds_none Tells accepts contents seen r none = record { text = []; shown = rounds-none Tells accepts seen (engine_of r); writes = writes_none contents r.core none; course = follows-none Tells accepts (stage_of seen contents r) }

pub rounds_next : {Own : Type 0} (Tells : Type 0) (accepts : List TableView → Bool) (n : ℕ) (a b c : Option (List ℕ)) (old mid new : Seen Own) (r then_r now_r : Run) → GoesRounds Tells accepts n a b old mid r then_r → GoesRound Tells accepts rests.Idle b c mid new then_r now_r
    → GoesRounds Tells accepts (n + 1) a c old new r now_r
rounds_next Tells accepts n a b c old mid new r then_r now_r rounds one = record {
  text = (rounds.text ++ one.noted) ++ one.dispatches.text;
  shown = rounds-more Tells accepts n rounds.text one.noted one.dispatches.text old mid one.mid new (engine_of r) (engine_of then_r) (engine_of one.mid_run) (engine_of now_r) one.first one.later rounds.shown one.batch one.dispatches.shown;
  writes = round_written rounds.text one.noted one.dispatches.text a b one.held c then_r.core now_r.core rounds.writes one.written one.dispatches.writes;
  course = follows-then Tells accepts (stage_of old a r) (stage_of mid b then_r) (stage_of new c now_r) rounds.course one.course;
}

pub rounds_last : {Own : Type 0} (Tells : Type 0) (accepts : List TableView → Bool) (most n : ℕ) (a b c : Option (List ℕ)) (old mid new : Seen Own) (r then_r now_r : Run) → n < most → GoesRounds Tells accepts n a b old mid r then_r → GoesRound Tells accepts rests.End b c mid new then_r now_r
    → GoesToEnd Tells accepts most a c old new r now_r
rounds_last Tells accepts most n a b c old mid new r then_r now_r few rounds one = record {
  text = (rounds.text ++ one.noted) ++ one.dispatches.text;
  shown = rounds-end Tells accepts n most rounds.text one.noted one.dispatches.text old mid one.mid new (engine_of r) (engine_of then_r) (engine_of one.mid_run) (engine_of now_r) few one.first one.later rounds.shown one.batch.over one.dispatches.shown;
  none_to_come = record {
    none = λ allows told keeps judges settled fewer.
        let keeps_mid = Conforming-before told one.later keeps in
        let then_settled = (rounds.shown.rounds_is allows told (Conforming-before told one.first keeps_mid) judges settled).moved.settled in
        none-later Tells mid new told (Continues-trans Tells mid one.mid new one.first one.later) keeps (one.batch.none_to_come told keeps_mid then_settled);
  };
  writes = round_written rounds.text one.noted one.dispatches.text a b one.held c then_r.core now_r.core rounds.writes one.written one.dispatches.writes;
  course = follows-then Tells accepts (stage_of old a r) (stage_of mid b then_r) (stage_of new c now_r) rounds.course one.course;
}

-- all of them, each with a stimulus
pub rounds_out : {Own : Type 0} (Tells : Type 0) (accepts : List TableView → Bool) (most n : ℕ) (a b : Option (List ℕ)) (old new : Seen Own) (r now_r : Run) → n ≡ most → GoesRounds Tells accepts n a b old new r now_r → GoesToEnd Tells accepts most a b old new r now_r
rounds_out {Own} Tells accepts most n a b old new r now_r many rounds = record {
  text = rounds.text;
  shown = rounds-spent Tells accepts n most rounds.text old new (engine_of r) (engine_of now_r) many rounds.shown;
  none_to_come = record { none = λ allows told keeps judges settled few. absurd (never allows told keeps judges settled few) };
  writes = rounds.writes;
  course = rounds.course;
}
  where
    never : (allows : List Place → Bool) → Tells → Conforming new → JudgesAlike Own allows accepts → AtRest old (engine_of r) → length (stimuli_in new) < most → ⊥
    never allows told keeps judges settled few =
        let one = rounds.shown.rounds_is allows told keeps judges settled in
        let long : length (stimuli_in new) ≡ length (stimuli_in old) + n =
        ap (λ (xs : List WorldStim). length xs) one.moved.moves.read_stimuli ∙ length-append (stimuli_in old) one.stimuli ∙ ap (λ (k : ℕ). length (stimuli_in old) + k) one.number_is in
        omega (arith, long, few, many)

-- ---- The start

-- all were started
pub started_all : {Own : Type 0} (Tells : Type 0) (old new : Seen Own) (r : Run) (mid : Run) → (s : AllStarted Tells old new r.core mid.core r.apps.items mid.apps.items) → StartsAll Tells s.text old new (engine_of r) (engine_of mid)
started_all Tells old new r mid s = record { all = s.started; net = s.stays.net; queue = s.stays.queue; events = s.stays.events }

pub all_begun : {Own : Type 0} (Tells : Type 0) (old new : Seen Own) (r : Run) (mid : Run) → (s : AllStarted Tells old new r.core mid.core r.apps.items mid.apps.items) → ShownStart Tells s.text old new (engine_of r) (engine_of mid)
all_begun Tells old new r mid s = start-shown Tells s.text old new (engine_of r) (engine_of mid) (started_all Tells old new r mid s)

pub begins_is : {Own : Type 0} (Tells : Type 0) (contents now_contents : Option (List ℕ)) (old new : Seen Own) (r mid : Run) (now_c : Core) → r.core.lines.items ≡ [] → AllStarted Tells old new r.core mid.core r.apps.items mid.apps.items → Stays mid.core now_c → Writes mid.core.lines.items contents now_contents now_c
    → Begins Tells contents now_contents old new r (record mid { core = now_c })
begins_is Tells contents now_contents old new r mid now_c none starts same writes = record {
  text = starts.text;
  shown = subst (λ (e : Engine). ShownStart Tells starts.text old new (engine_of r) e) (sym (stays_engine mid mid.core now_c same)) (all_begun Tells old new r mid starts);
  writes = all_noted contents now_contents starts.text r.core mid.core now_c none starts.notes writes;
  all = subst (λ (e : Engine). StartsAll Tells starts.text old new (engine_of r) e) (sym (stays_engine mid mid.core now_c same)) (started_all Tells old new r mid starts);
}

-- the same run, with its lines written
pub going_stays : (r : Run) (now_c : Core) → Going r → Waits r.core now_c → Stays r.core now_c → Going (record r { core = now_c })
going_stays r now_c going waits same = record {
  core = record {
    room = subst (λ (n : ℕ). 1 ≤ n) (sym waits.room) going.core.room;
    read = subst (λ (n : NetState). AreRead n.kept) (sym same.net) going.core.read;
    store = subst StoreRests (sym waits.store) going.core.store;
    left = waits.left going.core.left;
  };
  numbered = going.numbered;
  number = ap (λ (slots : List Slot). length slots) waits.store ∙ going.number;
}
