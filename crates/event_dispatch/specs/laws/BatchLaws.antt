-- Laws of a batch: one item more takes it on or ends it, and it ends before so many items were told.
use Rattle.std.specs.Prelude.{◌≡◌, ◌==◌, IsSome, ℕ, ◌+◌, ◌-◌, ◌≤◌, ◌⊎◌, Bool, true, List, [], ◌∷◌, ◌++◌, drop, slice_get, take, Option, Some, None, is_some, Result, Ok, Err, false, refl}
use Rattle.std.proofs.Common.{sym, ap, ap₂, ◌∙◌, subst, arith, inl, inr, true≢false, append_assoc}
use Rattle.std.proofs.lemmas.List.{append-nil, length-append}
use Rattle.std.proofs.lemmas.Option.{same_Some}
use Rattle.of_wire.specs.declared.message.Envelope.{Envelope}
use Rattle.of_wire.specs.declared.fault.WireFault.{WireFault}
use Rattle.of_wire.specs.declared.fault.WireFault.TheVariants.{BadVersion, BadType, BadLength, BadAction, NoMemory}
use Rattle.of_wire.specs.Reading.{Fails, reading_of}
use Rattle.app_frames.specs.declared.frame.Event.{Event}
use Rattle.outside.specs.declared.item.Item.{Item}
use Rattle.outside.specs.declared.item.Item.TheVariants as items
use Rattle.outside.specs.declared.step.WorldStep.{WorldStep}
use Rattle.outside.specs.declared.step.WorldStep.TheVariants.{From, Joined, Left, Moment, Idle, End}
use Rattle.outside.specs.Seen.{Seen, Continues}
use Rattle.outside.specs.laws.SeenLaws.{Nexts-continues, Continues-trans}
use Rattle.outside.specs.laws.StateLaws.{Conforming-before}
use Rattle.outside.specs.Calls.{item_step}
use Rattle.outside.specs.Conforming.{Conforming}
use Rattle.flow_table.specs.View.{TableView}
use Rattle.net_txn.specs.Net.{NetState}
use Rattle.batch_laws.specs.Calm.{Calm}
use Rattle.batch_laws.specs.Knowledge.{knowledge_of, handled, handled_all, with_event, lost_text}
use Rattle.batch_laws.specs.laws.LinkTellLaws.{handled_all-append}
use Rattle.batch_laws.specs.Items.{doubt_in, DoesFrom, Departs, Handles, HandlesStill, HandlesLost, TakesNext}
use Rattle.net_txn.specs.Views.{rows_at}
use Rattle.batch_laws.specs.laws.HandleLaws.{arrived_handles, departs_handles, enters_handles, idle_handles, end_handles}
use Rattle.batch_laws.specs.InBatch.{SoFar, GoesOn}
use Rattle.batch_laws.specs.laws.InBatchLaws.{next_goes_on, never_so_many}
use Rattle.event_dispatch.specs.declared.batch.Rest.{Rest}
use Rattle.event_dispatch.specs.declared.batch.Rest.TheVariants as rests
use Rattle.event_dispatch.specs.declared.engine_core.Core.{Core}
use Rattle.event_dispatch.specs.Runs.{AreRead}
use Rattle.event_dispatch.specs.Shows.{TellsLost}
use Rattle.run_laws.specs.Course.{as_told, BatchTaken}
use Rattle.event_dispatch.specs.Serves.{stand}
use Rattle.event_dispatch.specs.Batch.{of_memory, standing_of, rest_by, TakesItem, TakesJoin, TakesFirst, KeptSoFar, TakesKept, NextTaken, BatchGoes, BatchShown}
use Rattle.run_laws.specs.laws.EchoLaws.{no-echo, no-answer}
use Rattle.of_types.specs.Fields.{IsBytes, number_at}
use Rattle.net_txn.specs.Arriving.{Arrives}
use Rattle.net_txn.specs.LinkSteps.{OnLinks, AsksWithoutStrays}

-- ---- What was kept

pub kept_at_first : {Own : Type 0} (Tells : Type 0) (seen : Seen Own) (run : Core) → KeptSoFar Tells 0 seen seen run run
kept_at_first Tells seen run = record { taken = []; number_is = refl; first = record { kept_is = refl; knowledge = refl; told = λ told. refl }; none = λ is. (refl, (refl, refl, refl, refl)) }

pub some_kept : (m : ℕ × List ℕ) (kept : List (ℕ × List ℕ)) → Some m ≡ slice_get kept 0 → kept ≡ [] → ⊥
some_kept m kept is none = let h : Some m ≡ None = is ∙ ap (λ (xs : List (ℕ × List ℕ)). slice_get xs 0) none in absurd cc

none_first : (kept : List (ℕ × List ℕ)) → None ≡ slice_get kept 0 → kept ≡ []
none_first [] is = refl
none_first (m ∷ kept) is = absurd cc

one_first : (m : ℕ × List ℕ) (kept : List (ℕ × List ℕ)) → Some m ≡ slice_get kept 0 → kept ≡ m ∷ drop 1 kept
one_first m [] is = absurd cc
one_first m (x ∷ kept) is = cc

told_append : (xs ys : List (ℕ × List ℕ)) → as_told (xs ++ ys) ≡ as_told xs ++ as_told ys
told_append [] ys = refl
told_append (x ∷ xs) ys = ap (λ (items : List WorldStep). From x.0 x.1 ∷ items) (told_append xs ys)

-- a message that is told leaves those that are kept
from_kept : {Own : Type 0} (Tells : Type 0) (d : ℕ) (bytes : List ℕ) (now new : Seen Own) (net now_net : NetState) (known : Bool) → DoesFrom Tells d bytes known now new net now_net → now_net.kept ≡ net.kept
from_kept Tells d bytes now new net now_net true does = does.kept
from_kept Tells d bytes now new net now_net false does = does.kept

-- and one that is no ECHO_REQUEST calls nothing
from_told : {Own : Type 0} (Tells : Type 0) (d : ℕ) (bytes : List ℕ) (now new : Seen Own) (net now_net : NetState) (known : Bool) → (number_at 1 1 bytes == 2) ≡ false → Tells → DoesFrom Tells d bytes known now new net now_net → new.history ≡ now.history
from_told Tells d bytes now new net now_net true other told does = does.told told ∙ ap (λ (steps : List WorldStep). now.history ++ steps) (no-answer d bytes other) ∙ append-nil now.history
from_told Tells d bytes now new net now_net false other told does = ap (λ (s : Seen _). s.history) does.seen

-- the oldest one is no ECHO_REQUEST
first_other : (m : ℕ × List ℕ) (kept : List (ℕ × List ℕ)) → AreRead kept → Some m ≡ slice_get kept 0 → (number_at 1 1 m.1 == 2) ≡ false
first_other m [] read is = absurd cc
first_other m (x ∷ kept) read is = subst (λ (y : ℕ × List ℕ). (number_at 1 1 y.1 == 2) ≡ false) (sym (same_Some m x is)) read.0.1

-- so that no switch is lost at it
still_one : {Own Tells : Type 0} {d : ℕ} {text : List ℕ} {old new : Seen Own} {net now_net : NetState} {queue now_queue : List Event} (bytes : List ℕ) → (number_at 1 1 bytes == 2) ≡ false
    → HandlesStill Tells (From d bytes) text old new net now_net queue now_queue ⊎ HandlesLost Tells (From d bytes) text old new net now_net queue now_queue → HandlesStill Tells (From d bytes) text old new net now_net queue now_queue
still_one bytes other (inl still) = still
still_one bytes other (inr lost) = absurd (no-echo bytes other lost.at.2)

-- the oldest of those that are kept is taken, as if it were told now
takes_next : {Own : Type 0} (Tells : Type 0) (taken : List (ℕ × List ℕ)) (m : ℕ × List ℕ) (text : List ℕ) (old now new : Seen Own) (run mid later : Core) (taken_net : NetState) → (number_at 1 1 m.1 == 2) ≡ false → TakesFirst Tells taken old now run mid → Some m ≡ slice_get mid.net.kept 0 → taken_net ≡ record mid.net { kept = drop 1 mid.net.kept }
    → HandlesStill Tells (From m.0 m.1) text now new taken_net later.net mid.queue later.queue → TakesFirst Tells (taken ++ m ∷ []) old new run later
takes_next Tells taken m text old now new run mid later taken_net other first is without handles = record {
  kept_is = first.kept_is ∙ ap (λ (xs : List (ℕ × List ℕ)). taken ++ xs) (one_first m mid.net.kept is) ∙ sym (append_assoc taken (m ∷ []) (drop 1 mid.net.kept))
      ∙ ap (λ (xs : List (ℕ × List ℕ)). (taken ++ m ∷ []) ++ xs) (sym (from_kept Tells m.0 m.1 now new taken_net later.net (is_some (rows_at m.0 taken_net.views)) handles.does ∙ ap (λ (s : NetState). s.kept) without));
  knowledge = handles.knowledge ∙ ap (λ (s : NetState). handled (From m.0 m.1) (knowledge_of s mid.queue)) without ∙ ap (handled (From m.0 m.1)) first.knowledge
      ∙ sym (handled_all-append (as_told taken) (From m.0 m.1 ∷ []) (knowledge_of run.net run.queue)) ∙ ap (λ (items : List WorldStep). handled_all items (knowledge_of run.net run.queue)) (sym (told_append taken (m ∷ [])));
  told = λ told. from_told Tells m.0 m.1 now new taken_net later.net (is_some (rows_at m.0 taken_net.views)) other told handles.does ∙ first.told told;
}

pub kept_one_more : {Own : Type 0} {Tells : Type 0} (n d : ℕ) (bytes frame : List ℕ) (old now new : Seen Own) (run mid later : Core) (taken_net : NetState) → KeptSoFar Tells n old now run mid → AreRead mid.net.kept → Some (d, bytes) ≡ slice_get mid.net.kept 0 → frame ≡ bytes
    → taken_net ≡ record mid.net { kept = drop 1 mid.net.kept } → TakesItem Tells (From d frame) now new (record mid { net = taken_net }) later → KeptSoFar Tells (n + 1) old new run later
kept_one_more {Tells = Tells} n d bytes frame old now new run mid later taken_net so_far read is same without takes = record {
  taken = so_far.taken ++ (d, bytes) ∷ [];
  number_is = length-append so_far.taken ((d, bytes) ∷ []) ∙ ap (λ (k : ℕ). k + 1) so_far.number_is;
  first = takes_next Tells so_far.taken (d, bytes) takes.text old now new run mid later taken_net (first_other (d, bytes) mid.net.kept read is) so_far.first is without (still_one bytes (first_other (d, bytes) mid.net.kept read is)
      (subst (λ (b : List ℕ). HandlesStill Tells (From d b) takes.text now new taken_net later.net mid.queue later.queue ⊎ HandlesLost Tells (From d b) takes.text now new taken_net later.net mid.queue later.queue) same takes.handles.went));
  none = λ none. absurd (some_kept (d, bytes) mid.net.kept is (ap (λ (s : NetState). s.kept) (so_far.none none).1.1 ∙ none));
}

-- and nothing is noted
pub kept_line : {Own : Type 0} {Tells : Type 0} (d : ℕ) (bytes frame : List ℕ) (now new : Seen Own) (mid later : Core) (taken_net : NetState) → AreRead mid.net.kept → Some (d, bytes) ≡ slice_get mid.net.kept 0 → frame ≡ bytes
    → TakesItem Tells (From d frame) now new (record mid { net = taken_net }) later → later.lines.items ≡ mid.lines.items
kept_line {Tells = Tells} d bytes frame now new mid later taken_net read is same takes =
    let still = still_one bytes (first_other (d, bytes) mid.net.kept read is)
    (subst (λ (b : List ℕ). HandlesStill Tells (From d b) takes.text now new taken_net later.net mid.queue later.queue ⊎ HandlesLost Tells (From d b) takes.text now new taken_net later.net mid.queue later.queue) same takes.handles.went) in
    takes.lines ∙ ap (λ (t : List ℕ). mid.lines.items ++ t) still.text_is ∙ append-nil mid.lines.items

without_first : (net : NetState) → net.kept ≡ [] → record net { kept = drop 1 net.kept } ≡ net
without_first net none = ap (λ (xs : List (ℕ × List ℕ)). record net { kept = xs }) (ap (drop 1) none ∙ sym none)

none_left : (mid later : NetState) → later ≡ record mid { kept = drop 1 mid.kept } → None ≡ slice_get mid.kept 0 → later.kept ≡ []
none_left mid later without none = ap (λ (s : NetState). s.kept) without ∙ ap (drop 1) (none_first mid.kept none)

pub kept_ends : {Own Tells : Type 0} (n : ℕ) (old now : Seen Own) (run mid later : Core) → KeptSoFar Tells n old now run mid → later.net ≡ record mid.net { kept = drop 1 mid.net.kept } → None ≡ slice_get mid.net.kept 0 → later.queue ≡ mid.queue → later.lines.items ≡ mid.lines.items → TakesKept Tells (1000000 - n) old now run later
kept_ends n old now run mid later so_far net no_more queue lines = record {
  taken = so_far.taken;
  first = record {
    kept_is = so_far.first.kept_is ∙ ap (λ (xs : List (ℕ × List ℕ)). so_far.taken ++ xs) (none_first mid.net.kept no_more ∙ sym (none_left mid.net later.net net no_more));
    knowledge = ap₂ (λ (s : NetState) (q : List Event). knowledge_of s q) net queue ∙ so_far.first.knowledge;
    told = so_far.first.told;
  };
  all = inl (none_left mid.net later.net net no_more);
  none = λ none.
      let is = so_far.none none in
      let kept : mid.net.kept ≡ [] = ap (λ (s : NetState). s.kept) is.1.1 ∙ none in
      (ap (λ (k : ℕ). 1000000 - k) is.0, (is.1.0, net ∙ without_first mid.net kept ∙ is.1.1, queue ∙ is.1.2, lines ∙ is.1.3));
}

pub kept_all : {Own Tells : Type 0} (n : ℕ) (old now : Seen Own) (run mid : Core) → 1000000 ≤ n → KeptSoFar Tells n old now run mid → TakesKept Tells 0 old now run mid
kept_all n old now run mid many so_far = record {
  taken = so_far.taken;
  first = so_far.first;
  all = inr (omega (arith, many, so_far.number_is), refl);
  none = λ none. absurd (omega (arith, many, (so_far.none none).0));
}

-- ---- Which come first in a batch

-- an item more is told
pub then_told : {Own : Type 0} (Tells : Type 0) (rest : Option Rest) (old now new : Seen Own) (run mid later : Core) → BatchTaken Tells (stand old run) (stand now mid) → NextTaken Tells rest now new mid later → BatchTaken Tells (stand old run) (stand new later)
then_told Tells rest old now new run mid later before next = record {
  mid = before.mid;
  first = before.first;
  items = next.item ∷ before.items;
  told = (stand now mid, before.told, (next.text, next.takes));
}

-- ---- What was told

takes_continues : {Own Tells : Type 0} {item : Item} {text : List ℕ} {old new : Seen Own} {net now_net : NetState} {queue now_queue : List _} → TakesNext Tells item text old new net now_net queue now_queue → Continues Tells old new
takes_continues {Tells = Tells} {old = old} {new = new} takes = Continues-trans Tells old takes.mid new (Nexts-continues takes.nexts) takes.handles.continues

-- one item more was told, and this text noted
record OneMore {Own : Type 0} (Tells : Type 0) (item : Item) (now new : Seen Own) (mid later : Core) : Type 0 where
  text : List ℕ
  takes : TakesNext Tells item text now new mid.net later.net mid.queue later.queue
  lines : later.lines.items ≡ mid.lines.items ++ text

-- what comes of it
went : {Own Tells : Type 0} {n : ℕ} {first now new : Seen Own} {run mid : Core} (later : Core) (item : Item) → BatchGoes Tells n first now run mid → OneMore Tells item now new mid later → Tells → Conforming new → Calm first run.net → GoesOn item n (standing_of first run) (standing_of new later)
went {n = n} {first = first} {now = now} {run = run} {mid = mid} later item goes more told keeps calm =
    next_goes_on n (standing_of first run) (standing_of now mid) later.lines.items item told keeps calm (goes.so_far told (Conforming-before told (takes_continues more.takes) keeps) calm) more.takes more.lines

goes_by : {Own Tells : Type 0} {n : ℕ} {first now new : Seen Own} {run mid : Core} (later : Core) (item : Item) → BatchGoes Tells n first now run mid → OneMore Tells item now new mid later → None ≡ rest_by item → BatchGoes Tells (n + 1) first new run later
goes_by later (items.From d k) goes more is = record { so_far = λ told keeps calm. inr (went later (items.From d k) goes more told keeps calm) }
goes_by later (items.Joined d k) goes more is = record { so_far = λ told keeps calm. inr (went later (items.Joined d k) goes more told keeps calm) }
goes_by later (items.Left d) goes more is = record { so_far = λ told keeps calm. inr (went later (items.Left d) goes more told keeps calm) }
goes_by later (items.Moment t) goes more is = record { so_far = λ told keeps calm. inr (went later (items.Moment t) goes more told keeps calm) }
goes_by later items.Idle goes more is = absurd cc
goes_by later items.End goes more is = absurd cc

pub batch_goes : {Own : Type 0} {Tells : Type 0} (n : ℕ) (first now new : Seen Own) (run mid later : Core) → BatchGoes Tells n first now run mid → NextTaken Tells None now new mid later → BatchGoes Tells (n + 1) first new run later
batch_goes n first now new run mid later goes taken = goes_by later taken.item goes (record { text = taken.text; takes = taken.takes; lines = taken.lines }) taken.rest_is

same_rest : (a b : Rest) → Some a ≡ Some b → a ≡ b
same_rest a b e = cc

shown_by : {Own Tells : Type 0} {n : ℕ} {first now new : Seen Own} {run mid : Core} (later : Core) (rest : Rest) (item : Item) → BatchGoes Tells n first now run mid → OneMore Tells item now new mid later → Some rest ≡ rest_by item → BatchShown Tells rest first new run later
shown_by later rest (items.From d k) goes more is = absurd cc
shown_by later rest (items.Joined d k) goes more is = absurd cc
shown_by later rest (items.Left d) goes more is = absurd cc
shown_by later rest (items.Moment t) goes more is = absurd cc
shown_by {Tells = Tells} {first = first} {new = new} {run = run} later rest items.Idle goes more is =
    subst (λ (r : Rest). BatchShown Tells r first new run later) (sym (same_rest rest rests.Idle is)) (record { shown = λ told keeps calm. went later items.Idle goes more told keeps calm })
shown_by {Tells = Tells} {first = first} {new = new} {run = run} later rest items.End goes more is =
    subst (λ (r : Rest). BatchShown Tells r first new run later) (sym (same_rest rest rests.End is)) (record { shown = λ told keeps calm. went later items.End goes more told keeps calm })

pub batch_ends : {Own : Type 0} {Tells : Type 0} (n : ℕ) (rest : Rest) (first now new : Seen Own) (run mid later : Core) → BatchGoes Tells n first now run mid → NextTaken Tells (Some rest) now new mid later → BatchShown Tells rest first new run later
batch_ends n rest first now new run mid later goes taken = shown_by later rest taken.item goes (record { text = taken.text; takes = taken.takes; lines = taken.lines }) taken.rest_is

-- a batch ends before so many items
pub batch_too_long : {Own : Type 0} {Tells : Type 0} (n left : ℕ) (old first now : Seen Own) (run begun mid : Core) → left ≤ n → Continues Tells old now → TakesKept Tells left old first run begun → BatchGoes Tells n old now run mid → BatchShown Tells rests.Idle old now run mid
batch_too_long n left old first now run begun mid many continues kept goes = record { shown = λ told keeps calm. absurd (by (kept.none calm.kept).0 (Conforming-before told continues keeps) calm (goes.so_far told keeps calm)) }
  where
    by : left ≡ 1000000 → Conforming old → Calm old run.net → SoFar n (standing_of old run) (standing_of now mid) → ⊥
    by is keeps calm (inl none) = omega (arith, is, many, none.0)
    by is keeps calm (inr (x, inl batch)) = omega (arith, is, many, never_so_many keeps calm batch)
    by is keeps calm (inr (x, inr lost)) = omega (arith, is, many, lost.0)

-- ---- The answers of calls

pub from_step : (item : Item) (d n : ℕ) (buf : List ℕ) → item ≡ items.From d n → From d (take n buf) ≡ item_step item buf
unfolding item_step
from_step item d n buf is = rw is refl

pub joined_step : (item : Item) (d n : ℕ) (buf : List ℕ) → item ≡ items.Joined d n → Joined d (take n buf) ≡ item_step item buf
unfolding item_step
joined_step item d n buf is = rw is refl

pub left_step : (item : Item) (d : ℕ) (buf : List ℕ) → item ≡ items.Left d → Left d ≡ item_step item buf
unfolding item_step
left_step item d buf is = rw is refl

pub moment_step : (item : Item) (t : ℕ) (buf : List ℕ) → item ≡ items.Moment t → Moment t ≡ item_step item buf
unfolding item_step
moment_step item t buf is = rw is refl

pub idle_step : (item : Item) (buf : List ℕ) → item ≡ items.Idle → Idle ≡ item_step item buf
unfolding item_step
idle_step item buf is = rw is refl

pub end_step : (item : Item) (buf : List ℕ) → item ≡ items.End → End ≡ item_step item buf
unfolding item_step
end_step item buf is = rw is refl

pub rest_handles : {Own : Type 0} {Tells : Type 0} (item : Item) (buf : List ℕ) (seen : Seen Own) (net : NetState) (queue : List Event) → net.left ≡ [] → (item ≡ items.Idle) ⊎ (item ≡ items.End) → Handles Tells (item_step item buf) [] seen seen net net queue queue
rest_handles {Tells = Tells} item buf seen net queue none (inl is) = subst (λ (step : WorldStep). Handles Tells step [] seen seen net net queue queue) (idle_step item buf is) (idle_handles seen net queue none)
rest_handles {Tells = Tells} item buf seen net queue none (inr is) = subst (λ (step : WorldStep). Handles Tells step [] seen seen net net queue queue) (end_step item buf is) (end_handles seen net queue none)

-- and no notice is in doubt then
pub rest_undoubted : (item : Item) (buf : List ℕ) (views : List TableView) → (item ≡ items.Idle) ⊎ (item ≡ items.End) → doubt_in (item_step item buf) views ≡ None
unfolding item_step
rest_undoubted item buf views (inl is) = rw is refl
rest_undoubted item buf views (inr is) = rw is refl

-- ---- An item that is taken, and the text that is noted

-- nothing is noted
pub takes_none : {Own Tells : Type 0} {item : WorldStep} {old new : Seen Own} (run now_run : Core) → now_run.lines.items ≡ run.lines.items → Handles Tells item [] old new run.net now_run.net run.queue now_run.queue → TakesItem Tells item old new run now_run
takes_none run now_run same handles = record { text = []; handles = handles; lines = same ∙ sym (append-nil run.lines.items) }

-- of a message, where the switches that were lost are told behind it
pub message_taken : {Own Tells : Type 0} (d : ℕ) (bytes : List ℕ) (old new : Seen Own) (run mid now_run : Core) (event : Option Event) → run.net.left ≡ [] → IsSome (rows_at d run.net.views) → IsBytes bytes → Arrives Tells d bytes old new run.net mid.net (Ok event)
    → mid.queue ≡ with_event event run.queue → mid.lines.items ≡ run.lines.items → TellsLost mid now_run → TakesItem Tells (From d bytes) old new run now_run
message_taken d bytes old new run mid now_run event none known fit arrives waits lines tells = record {
  text = lost_text mid.net.left;
  handles = arrived_handles d bytes old new run.net mid.net now_run.net run.queue mid.queue now_run.queue (lost_text mid.net.left) event none known fit arrives waits
      tells.net tells.queue refl;
  lines = tells.lines ∙ ap (λ (t : List ℕ). t ++ lost_text mid.net.left) lines;
}

-- of a switch that leaves
pub left_taken : {Own Tells : Type 0} (d : ℕ) (seen : Seen Own) (run now_run : Core) → run.net.left ≡ [] → now_run.lines.items ≡ run.lines.items → Departs d run.net now_run.net run.queue now_run.queue → TakesItem Tells (Left d) seen seen run now_run
left_taken d seen run now_run none lines departs = takes_none run now_run lines (departs_handles d seen run.net now_run.net run.queue now_run.queue none departs)

-- of a switch that joins or is lost
pub joined_taken : {Own Tells : Type 0} (d : ℕ) (bytes : List ℕ) (e : Envelope) (old new : Seen Own) (run now_run : Core) → run.net.left ≡ [] → rows_at d run.net.views ≡ None → reading_of bytes ≡ Ok e → Continues Tells old new → OnLinks Tells old new → AsksWithoutStrays Tells d old new
    → TakesJoin Tells d e.message old new run now_run → TakesItem Tells (Joined d bytes) old new run now_run
joined_taken d bytes e old new run now_run none out read continues links no_strays joins = record {
  text = joins.text;
  handles = enters_handles d bytes e joins.text old new run.net now_run.net run.queue now_run.queue none out read continues links no_strays joins.enters;
  lines = joins.lines;
}

pub no_rest : (item : Item) → (item ≡ items.Idle → ⊥) → (item ≡ items.End → ⊥) → None ≡ rest_by item
no_rest (items.From d n) idle end = refl
no_rest (items.Joined d n) idle end = refl
no_rest (items.Left d) idle end = refl
no_rest (items.Moment t) idle end = refl
no_rest items.Idle idle end = absurd (idle refl)
no_rest items.End idle end = absurd (end refl)

-- bytes that could not be read, with memory enough
pub unread : (fault : WireFault) (read : Result Envelope WireFault) → of_memory fault ≡ false → Fails fault read → read ≡ Err fault
unread NoMemory read short is = absurd (true≢false short)
unread BadVersion read short is = is
unread BadType read short is = is
unread BadLength read short is = is
unread (BadAction place kind) read short is = is
