-- An undo in which no switch failed but by its loss, as the course of a run says it: what came is kept where there was room.
use Rattle.std.specs.Prelude.{◌==◌, map, is_some, if◌then◌else◌}
use Rattle.std.proofs.Common.{◌≡◌, ℕ, Bool, true, false, List, [], ◌∷◌, ◌++◌, drop, Option, None, Ok, refl, sym, ap, ◌∙◌, subst, inl, inr, true≢false}
use Rattle.std.specs.List.{AllByRecursion}
use Rattle.std.specs.Option.{option_map}
use Rattle.std.specs.List.Sorted.{IsPermutation}
use Rattle.std.proofs.lemmas.List.Elements.{All-from_recursion, recursion_from_All}
use Rattle.std.proofs.lemmas.List.Sorted.{IsPermutation-sym, All-permutation}
use Rattle.std.proofs.lemmas.Bool.{cases_Bool, eq-eqb, eqb-true}
use Rattle.of_types.specs.declared.journal.Act.TheVariants.{Stim, Started, Gave, Gone, Took, Ended, Sent, Got, Lost as WasLost}
use Rattle.of_match.specs.declared.key.Key.{Key}
use Rattle.of_wire.specs.declared.message.Message.TheVariants.{BarrierReply}
use Rattle.of_wire.specs.Spelling.{message_bytes}
use Rattle.app_frames.specs.declared.frame.Event.{Event}
use Rattle.outside.specs.declared.step.WorldStep.{WorldStep}
use Rattle.outside.specs.declared.step.WorldStep.TheVariants.{Acted, TookInto, From, Joined, Left, Moment, Idle, End, Opened, NotOpened, NextFailed, SendLost, RecvLost, SendFailed, RecvFailed}
use Rattle.outside.specs.Seen.{Counts, Seen}
use Rattle.lego_model.specs.declared.wait.Heard.{Heard}
use Rattle.lego_model.specs.declared.wait.Heard.TheVariants.{Reply, Refused, Notice, Echo, Other}
use Rattle.lego_model.specs.BarrierWaits.{heard, kept_by, kept_of, wait_steps, reply_got}
use Rattle.lego_model.specs.declared.fault.TxnFault.{TxnFault}
use Rattle.lego_model.specs.KeptMessages.{got_in}
use Rattle.lego_model.specs.UndoFaults.{IsStepOf}
use Rattle.lego_model.specs.laws.KeptMessageLaws.{got_append, got_wait}
use Rattle.net_txn.specs.Net.{NetState}
use Rattle.net_txn.specs.Views.{rows_at}
use Rattle.net_txn.specs.MessageStore.{KeptWhereFit}
use Rattle.net_txn.specs.Undos.{EndsWait, KeepsUntil, Part, Inverse, BarrierPassed, Stuck, alone, part_steps, steps_of, parts_of, inverses_of, key_logged, keys_of, undone_net, next_free, fault_in, first_fault, lost_parts, KeepsOne, Keeps, Undoes}
use Rattle.net_txn.specs.laws.AgreeLaws.{both_none, rows_left}
use Rattle.net_txn.specs.laws.UndoFailureLaws.{WereSent, were_sent}
use Rattle.net_txn.specs.laws.ViewLaws.{viewed}
use Rattle.net_txn.specs.laws.HeardLaws.{heard-reply}
use Rattle.net_txn.specs.laws.LoseAllLaws.{lose_all-so}
use Rattle.net_txn.specs.laws.OutLaws.{ended_none}
use Rattle.net_txn.specs.laws.SaidLaws.{all_two}
use Rattle.net_txn.specs.laws.RestoreLaws.{part_of, AllRun, runs_here, runs_older}
use Rattle.run_course.specs.Messages.{HeardInUndo, AreStored}
use Rattle.switch_laws.specs.laws.LossLaws.{lose_all-rows, lose_all-rows_gone}
use Rattle.lego_model.specs.ViewRows.{rows_without}
use Rattle.run_course.specs.Moves.{keys_at, HasInverse, TakesBack}
use Rattle.run_laws.specs.laws.HoldingLaws.{holding_of}

-- ---- Some messages and then others

stored_then : (first second : List (ℕ × List ℕ)) (a b c : List (ℕ × List ℕ)) → AreStored first a b → AreStored second b c → AreStored (first ++ second) a c
stored_then [] second a b c before after = subst (λ (stored : List (ℕ × List ℕ)). AreStored second stored c) before after
stored_then (m ∷ more) second a b c (inl one) after = inl (one.0, stored_then more second (a ++ m ∷ []) b c one.1 after)
stored_then (m ∷ more) second a b c (inr (inl none)) after = inr (inl (none.0, stored_then more second a b c none.1 after))
stored_then (m ∷ more) second a b c (inr (inr full)) after = inr (inr (full.0, stored_then more second a b c full.1 after))

-- ---- The messages of a wait

heard_as : (d xid : ℕ) (bytes : List ℕ) (h : Heard) → heard (alone d xid) bytes ≡ h → HeardInUndo (d, bytes) (kept_by d h bytes)
heard_as d xid bytes h is = record { awaited = alone d xid; of_switch = refl; no_refusal = refl; notices = refl; kept_is = ap (λ (x : Heard). kept_by d x bytes) (sym is) }

-- one, and then the others
one_stored : (d xid : ℕ) (b : List ℕ) (more later kept now_kept : List (ℕ × List ℕ)) → ((k : List (ℕ × List ℕ)) → KeptWhereFit k later now_kept → AreStored more k now_kept) → (h : Heard) → heard (alone d xid) b ≡ h
    → KeptWhereFit kept (kept_by d h b ++ later) now_kept → AreStored ((d, b) ∷ more) kept now_kept
one_stored d xid b more later kept now_kept rest Reply is fit = inr (inl (heard_as d xid b Reply is, rest kept fit))
one_stored d xid b more later kept now_kept rest (Refused refusal) is fit = inr (inl (heard_as d xid b (Refused refusal) is, rest kept fit))
one_stored d xid b more later kept now_kept rest Notice is fit = inr (inl (heard_as d xid b Notice is, rest kept fit))
one_stored d xid b more later kept now_kept rest Echo is fit = inr (inl (heard_as d xid b Echo is, rest kept fit))
one_stored d xid b more later kept now_kept rest Other is (inl one) = inl (heard_as d xid b Other is, rest (kept ++ (d, b) ∷ []) one)
one_stored d xid b more later kept now_kept rest Other is (inr over) = inr (inr (over.0, rest kept over.1))

wait_stored : (d xid : ℕ) (got : List (List ℕ)) (kept now_kept : List (ℕ × List ℕ)) → KeptWhereFit kept (kept_of (alone d xid) got) now_kept → AreStored (map (λ b. (d, b)) got) kept now_kept
wait_stored d xid [] kept now_kept fit = fit
wait_stored d xid (b ∷ bs) kept now_kept fit =
    one_stored d xid b (map (λ c. (d, c)) bs) (kept_of (alone d xid) bs) kept now_kept (λ k fits. wait_stored d xid bs k now_kept fits) (heard (alone d xid) b) refl fit

-- ---- The parts of an undo

-- a message that a call of the switch got is one of it
step_of_switch : (P : ℕ → Bool) (d : ℕ) (step : WorldStep) (rest : List (ℕ × List ℕ)) → P d ≡ true → IsStepOf d step → AllByRecursion (λ m. P m.0 ≡ true) rest → AllByRecursion (λ m. P m.0 ≡ true) (got_in (step ∷ []) ++ rest)
step_of_switch P d (Acted (Got e bytes)) rest so is all = (ap P is ∙ so, all)
step_of_switch P d (Acted (Sent e bytes)) rest so is all = all
step_of_switch P d (SendLost e) rest so is all = all
step_of_switch P d (RecvLost e) rest so is all = all
step_of_switch P d (SendFailed e) rest so is all = all
step_of_switch P d (RecvFailed e) rest so is all = all
step_of_switch P d (Acted (Stim x)) rest so is all = absurd is
step_of_switch P d (Acted (Started app stands)) rest so is all = absurd is
step_of_switch P d (Acted (Gave app bytes)) rest so is all = absurd is
step_of_switch P d (Acted (Gone app bytes)) rest so is all = absurd is
step_of_switch P d (Acted (Took app what)) rest so is all = absurd is
step_of_switch P d (Acted (Ended app)) rest so is all = absurd is
step_of_switch P d (Acted (WasLost e)) rest so is all = absurd is
step_of_switch P d (TookInto app what room) rest so is all = absurd is
step_of_switch P d (From e bytes) rest so is all = absurd is
step_of_switch P d (Joined e bytes) rest so is all = absurd is
step_of_switch P d (Left e) rest so is all = absurd is
step_of_switch P d (Moment t) rest so is all = absurd is
step_of_switch P d Idle rest so is all = absurd is
step_of_switch P d End rest so is all = absurd is
step_of_switch P d Opened rest so is all = absurd is
step_of_switch P d NotOpened rest so is all = absurd is
step_of_switch P d NextFailed rest so is all = absurd is

steps_of_switch : (P : ℕ → Bool) (d : ℕ) (steps : List WorldStep) → P d ≡ true → AllByRecursion (IsStepOf d) steps → AllByRecursion (λ m. P m.0 ≡ true) (got_in steps)
steps_of_switch P d [] so all = tt
steps_of_switch P d (step ∷ steps) so all =
    subst (AllByRecursion (λ m. P m.0 ≡ true)) (sym (got_append (step ∷ []) steps)) (step_of_switch P d step (got_in steps) so all.0 (steps_of_switch P d steps so all.1))

-- the ECHO_REQUEST that could not be answered, if the switch was lost by it
last_stored : (d xid : ℕ) (last : List WorldStep) (kept : List (ℕ × List ℕ)) → EndsWait (alone d xid) None last → AreStored (got_in last) kept kept
last_stored d xid last kept (inl none) = rw none refl
last_stored d xid last kept (inr one) = rw one.1 (inr (inl (heard_as d xid one.0 Echo one.2, refl)))

lost_stored : (d xid : ℕ) (steps : List WorldStep) (kept now_kept : List (ℕ × List ℕ)) → KeepsUntil (alone d xid) None steps kept now_kept → AreStored (got_in steps) kept now_kept
lost_stored d xid steps kept now_kept keeps =
    let a = alone d xid in
    let wait = wait_steps a keeps.got in
    let came : got_in steps ≡ map (λ b. (d, b)) keeps.got ++ got_in keeps.last =
    ap got_in keeps.steps_is ∙ got_append keeps.front (wait ++ keeps.last) ∙ ap (λ (ms : List (ℕ × List ℕ)). ms ++ got_in (wait ++ keeps.last)) keeps.none_before
    ∙ got_append wait keeps.last ∙ ap (λ (ms : List (ℕ × List ℕ)). ms ++ got_in keeps.last) (got_wait a keeps.got) in
    subst (λ (ms : List (ℕ × List ℕ)). AreStored ms kept now_kept) (sym came)
    (stored_then (map (λ b. (d, b)) keeps.got) (got_in keeps.last) kept now_kept now_kept (wait_stored d xid keeps.got kept now_kept keeps.kept_is) (last_stored d xid keeps.last now_kept keeps.ends))

part_stored : (d : ℕ) (p : Part) (kept now_kept : List (ℕ × List ℕ)) → fault_in p ≡ None → KeepsOne d p kept now_kept → AreStored (got_in (part_steps d p)) kept now_kept
part_stored d (Inverse xid k) kept now_kept none keeps = keeps
part_stored d (BarrierPassed xid got) kept now_kept none keeps =
    let a = alone d xid in
    subst (λ (ms : List (ℕ × List ℕ)). AreStored ms kept now_kept) (sym (got_append (wait_steps a got) (reply_got a ∷ []) ∙ ap (λ (ms : List (ℕ × List ℕ)). ms ++ got_in (reply_got a ∷ [])) (got_wait a got)))
    (stored_then (map (λ b. (d, b)) got) (got_in (reply_got a ∷ [])) kept now_kept now_kept (wait_stored d xid got kept now_kept keeps)
    (inr (inl (heard_as d xid (message_bytes xid BarrierReply) Reply (heard-reply a), refl))))
part_stored d (Stuck xid halt steps) kept now_kept none keeps =
    lost_stored d xid steps kept now_kept (subst (λ (fault : Option TxnFault). KeepsUntil (alone d xid) fault steps kept now_kept) none keeps)

parts_stored : (parts : List (ℕ × Part)) (kept now_kept : List (ℕ × List ℕ)) → first_fault parts ≡ None → Keeps kept parts now_kept → AreStored (got_in (steps_of parts)) kept now_kept
parts_stored [] kept now_kept none keeps = keeps
parts_stored (p ∷ older) kept now_kept none keeps =
    let both = both_none (first_fault older) (fault_in p.1) none in
    subst (λ (ms : List (ℕ × List ℕ)). AreStored ms kept now_kept) (sym (got_append (steps_of older) (part_steps p.0 p.1)))
    (stored_then (got_in (steps_of older)) (got_in (part_steps p.0 p.1)) kept keeps.0 now_kept (parts_stored older kept keeps.0 both.0 keeps.1) (part_stored p.0 p.1 keeps.0 now_kept both.1 keeps.2))

-- ---- All that came is of switches that were joined.

-- nothing was done with the others
abbrev NoneOfOthers : (ℕ → Bool) → List (ℕ × Part) → Type 0
NoneOfOthers joined parts = (d : ℕ) → joined d ≡ false → parts_of d parts ≡ []

here_joined : (joined : Bool) (d : ℕ) (p : Part) (older : List (ℕ × Part)) → (joined ≡ false → parts_of d ((d, p) ∷ older) ≡ []) → joined ≡ true
here_joined true d p older none = refl
here_joined false d p older none =
    let taken = eq-eqb d d refl in
    let nothing : p ∷ parts_of d older ≡ [] = subst (λ (b : Bool). (if b then p ∷ parts_of d older else parts_of d older) ≡ []) taken (none refl) in
    absurd cc

older_none : (here : Bool) (p : Part) (older : List Part) → (if here then p ∷ older else older) ≡ [] → older ≡ []
older_none true p older none = absurd cc
older_none false p older none = none

parts_joined : (old new : Counts) (joined : ℕ → Bool) (parts : List (ℕ × Part)) → AllRun old new parts → NoneOfOthers joined parts → AllByRecursion (λ m. joined m.0 ≡ true) (got_in (steps_of parts))
parts_joined old new joined [] runs none = tt
parts_joined old new joined (p ∷ older) runs none =
    let here = part_of old new p.0 p.1 (parts_of p.0 older) (runs_here old new p older runs) in
    let before = parts_joined old new joined older (runs_older old new p older runs) (λ d out. older_none (p.0 == d) p.1 (parts_of d older) (none d out)) in
    subst (AllByRecursion (λ m. joined m.0 ≡ true)) (sym (got_append (steps_of older) (part_steps p.0 p.1)))
    (all_two (λ m. joined m.0 ≡ true) (got_in (steps_of older)) (got_in (part_steps p.0 p.1)) before (steps_of_switch joined p.0 (part_steps p.0 p.1) (here_joined (joined p.0) p.0 p.1 older (none p.0)) here))

-- ---- The keys that go: the inverse was sent for each of them.

have_inverses : (d : ℕ) (steps : List WorldStep) (sent : List (ℕ × Key)) → WereSent d steps sent → AllByRecursion (HasInverse d steps) (map (λ p. p.1) sent)
have_inverses d steps [] all = tt
have_inverses d steps (p ∷ ps) all = ((p.0, all.0), have_inverses d steps ps all.1)

-- the keys of one switch, in another order

abbrev IfOf : ℕ → (Key → Type 0) → ℕ × Key → Type 0
IfOf d P p = p.0 ≡ d → P p.1

keys_all : (d : ℕ) (P : Key → Type 0) (ps : List (ℕ × Key)) → AllByRecursion P (keys_of d ps) → AllByRecursion (IfOf d P) ps
keys_all d P [] all = tt
keys_all d P (p ∷ ps) all = elim (cases_Bool (p.0 == d)) [
  | inl here ↦ let both : AllByRecursion P (p.1 ∷ keys_of d ps) = subst (λ (b : Bool). AllByRecursion P (if b then p.1 ∷ keys_of d ps else keys_of d ps)) here all in ((λ is. both.0), keys_all d P ps both.1)
  | inr other ↦ ((λ is. absurd (true≢false (sym (eq-eqb p.0 d is) ∙ other))), keys_all d P ps (subst (λ (b : Bool). AllByRecursion P (if b then p.1 ∷ keys_of d ps else keys_of d ps)) other all))
]

all_keys : (d : ℕ) (P : Key → Type 0) (ps : List (ℕ × Key)) → AllByRecursion (IfOf d P) ps → AllByRecursion P (keys_of d ps)
all_keys d P [] all = tt
all_keys d P (p ∷ ps) all = elim (cases_Bool (p.0 == d)) [
  | inl here ↦ rw here (all.0 (eqb-true p.0 d here), all_keys d P ps all.1)
  | inr other ↦ rw other (all_keys d P ps all.1)
]

keys_moved : (d : ℕ) (P : Key → Type 0) (logged keys : List (ℕ × Key)) → IsPermutation logged keys → AllByRecursion P (keys_of d keys) → AllByRecursion P (keys_of d logged)
keys_moved d P logged keys moved all =
    all_keys d P logged (recursion_from_All (IfOf d P) logged (All-permutation (IfOf d P) keys logged (IsPermutation-sym logged keys moved) (All-from_recursion (IfOf d P) keys (keys_all d P keys all))))

-- the keys of one switch are those of the entries that are its own
at_is : (d : ℕ) (ps : List (ℕ × Key)) → keys_of d ps ≡ keys_at d ps
at_is d [] = refl
at_is d (p ∷ ps) = elim (cases_Bool (p.0 == d)) [
  | inl here ↦ rw here (ap (λ (ks : List Key). p.1 ∷ ks) (at_is d ps))
  | inr other ↦ rw other (at_is d ps)
]

-- ---- The whole

pub undo_moves : {Own Tells : Type 0} {start : ℕ} (old new : Seen Own) (net now_net : NetState) (queue : List Event) (added : List (ℕ × Key)) → Tells → map key_logged (drop start net.log) ≡ added → Undoes Tells start old new net now_net (Ok tt)
    → TakesBack added (holding_of old net queue) (holding_of new now_net queue)
undo_moves {start = start} old new net now_net queue added told added_is u =
    let lost = lost_parts u.parts in
    let runs : AllRun old.counts new.counts u.parts = λ d. (u.each d).run in
    let left = record (undone_net start net) { xid = next_free net.xid u.parts; kept = u.kept; room = now_net.room } in
    let logged = map key_logged (drop start net.log) in
    subst (λ (keys : List (ℕ × Key)). TakesBack keys (holding_of old net queue) (holding_of new now_net queue)) added_is (record {
      lost = lost;
      told = λ joined. u.losses told (λ d is. joined d (sym (viewed d net.views) ∙ is));
      steps = steps_of u.parts;
      history = u.told told;
      inverses = λ d stays is.
          subst (AllByRecursion (HasInverse d (steps_of u.parts))) (at_is d logged) (keys_moved d (HasInverse d (steps_of u.parts)) logged u.keys u.ordered.same
          (subst (AllByRecursion (HasInverse d (steps_of u.parts))) ((u.each d).keys_is (viewed d net.views ∙ is) (u.none_failed refl d ∙ stays)) (have_inverses d (steps_of u.parts) (inverses_of (parts_of d u.parts)) (were_sent d u.parts))));
      out = λ d goes. ap (λ (n : NetState). rows_at d n.views) u.net_is ∙ lose_all-rows_gone lost d left goes;
      tables = λ d stays. ap (λ (n : NetState). rows_at d n.views) u.net_is ∙ (lose_all-rows lost d left stays ∙ (rows_left d logged net.views ∙ ap (λ (keys : List Key). option_map (rows_without keys) (rows_at d net.views)) (at_is d logged)));
      were_in = parts_joined old.counts new.counts (λ e. is_some (rows_at e net.views)) u.parts runs (λ d out. (u.each d).unknown (viewed d net.views ∙ out));
      stored = u.kept;
      came = parts_stored u.parts net.kept u.kept (ended_none (first_fault u.parts) u.result_is) u.keeps;
      kept = ap (λ (n : NetState). n.kept) u.net_is ∙ ap (λ (n : NetState). n.kept) (lose_all-so lost left);
      queue = refl;
    })
