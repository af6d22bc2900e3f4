-- Laws of endings: what a whole run promises follows of its parts.
use Rattle.std.proofs.Common.{◌≡◌, ◌==◌, ℕ, ◌≤◌, Bool, List, [], ◌++◌, length, Option, Some, None, refl, sym, ap, ◌∙◌, subst}
use Rattle.std.specs.Io.KnownBytes.{append_known}
use Rattle.std.proofs.lemmas.List.{append-nil, append_assoc}
use Rattle.flow_table.specs.View.{TableView}
use Rattle.crash_policy.specs.Policies.{AppValue}
use Rattle.lego_model.specs.Places.{Place}
use Rattle.of_types.specs.declared.journal.WorldStim.{WorldStim}
use Rattle.lego_model.specs.Controller.{settle_last}
use Rattle.outside.specs.Seen.{Seen, Continues}
use Rattle.outside.specs.Conforming.{Conforming}
use Rattle.outside.specs.laws.StateLaws.{Conforming-before}
use Rattle.switch_laws.specs.laws.OrderlyLaws.{orderly-then}
use Rattle.run_laws.specs.Engine.{Engine}
use Rattle.lego_model.specs.History.{stimuli_in, lost_of}
use Rattle.run_laws.specs.Readings.{JudgesAlike}
use Rattle.run_laws.specs.Moves.{ShownToEnd}
use Rattle.lego_model.specs.ReferenceRun.{rounds, all_started}
use Rattle.run_laws.specs.laws.MoveLaws.{moved-then}
use Rattle.run_laws.specs.LastReport.{last_text}
use Rattle.run_laws.specs.laws.WholeLaws.{no-stimuli, ran}
use Rattle.run_laws.specs.laws.FirstLaws.{settled-first}
use Rattle.run_laws.specs.First.{IsOpened, engine_at_first}
use Rattle.lego_model.specs.WholeRun.{is_spent, EndsAlike, LeavesAlike}
use Rattle.run_laws.specs.laws.FinishLaws.{ends-alike, leaves-alike}
use Rattle.run_laws.specs.Endings.{ShownStart, WholeMoves, ShownWhole, Leaves, RanOut, RanFull}

pub known-append : (o : Option (List ℕ)) (s t : List ℕ) → append_known (append_known o s) t ≡ append_known o (s ++ t)
known-append None s t = refl
known-append (Some xs) s t = ap (λ (l : List ℕ). Some l) (append_assoc xs s t)

-- the applications are started, and then the rounds follow
pub whole-of : {Own : Type 0} (Tells : Type 0) (accepts : List TableView → Bool) (most : ℕ) (first second : List ℕ) (a b c : Seen Own) (e1 e2 e3 : Engine) → Continues Tells b c
    → ShownStart Tells first a b e1 e2 → ShownToEnd Tells accepts most second b c e2 e3 → ShownWhole Tells accepts most (first ++ second) a c e1 e3
whole-of Tells accepts most first second a b c e1 e2 e3 later begins ends = record {
  whole_is = λ allows told keeps judges settled.
      let one = begins.moved told (Conforming-before told later keeps) settled in
      let two = ends.to_end allows told keeps judges one.settled in
      record {
        stimuli = two.stimuli;
        at_most = two.at_most;
        moved = moved-then [] two.stimuli all_started (λ r. settle_last allows (length two.stimuli == most) (rounds allows two.stimuli r)) first second a b c e1 e2 e3 one two.moved;
      };
}

-- where none is lost any more
pub leaves-then : {Own : Type 0} (number : ℕ) (lost : List ℕ) (a b c : Seen Own) → Leaves number lost a b → Leaves number [] b c → Leaves number lost a c
leaves-then number lost a b c m n = record {
  given = n.given ∙ m.given;
  told = λ app. record { starts = (n.told app).starts ∙ (m.told app).starts; replies = (n.told app).replies ∙ (m.told app).replies; inputs = (n.told app).inputs ∙ (m.told app).inputs };
  stimuli = n.stimuli ∙ m.stimuli;
  released = n.released ∙ m.released;
  lost_is = n.lost_is ∙ append-nil (lost_of b) ∙ m.lost_is;
  marks = n.marks ∙ m.marks;
  switches = λ d. n.switches d ∙ m.switches d;
  at_once = λ app said. n.at_once app (m.at_once app said);
  orderly = orderly-then number a b c m.orderly n.orderly;
}

-- ---- Of a world that was opened

-- so many stimuli at most
most-taken : {Own : Type 0} {allows : List Place → Bool} {most : ℕ} {text : List ℕ} {old last : Seen Own} {e now_e : Engine} → IsOpened old → WholeMoves allows most text old last e now_e → length (stimuli_in last) ≤ most
most-taken {most = most} {old = old} {last = last} opened moved =
    let told : stimuli_in last ≡ moved.stimuli = moved.moved.moves.read_stimuli ∙ ap (λ (xs : List WorldStim). xs ++ moved.stimuli) (no-stimuli old opened) in
    subst (λ (xs : List WorldStim). length xs ≤ most) (sym told) moved.at_most

-- and no more behind the end
most-left : {Own : Type 0} {number most : ℕ} {lost : List ℕ} {last new : Seen Own} → Leaves number lost last new → length (stimuli_in last) ≤ most → length (stimuli_in new) ≤ most
most-left {most = most} leaves few = subst (λ (xs : List WorldStim). length xs ≤ most) (sym leaves.stimuli) few

spent-left : {Own : Type 0} {number : ℕ} {lost : List ℕ} (most : ℕ) (last new : Seen Own) → Leaves number lost last new → is_spent most last ≡ is_spent most new
spent-left most last new leaves = ap (λ (xs : List WorldStim). length xs == most) (sym leaves.stimuli)

pub ran-out : {Own : Type 0} (rules : List AppValue) (Tells : Type 0) (accepts : List TableView → Bool) (allows : List Place → Bool) (most : ℕ) (contents now_contents : Option (List ℕ)) (old new : Seen Own) (e : Engine) → Tells → Conforming new → JudgesAlike Own allows accepts → IsOpened old
    → RanOut Tells accepts most contents now_contents old new (engine_at_first rules) e → EndsAlike rules allows (is_spent most new) new contents now_contents e.events × (length (stimuli_in new) ≤ most)
ran-out rules Tells accepts allows most contents now_contents old new e told keeps judges opened out =
    let moved = out.whole_is.whole_is allows told (Conforming-before told out.later keeps) judges (settled-first rules old opened) in
    let done = out.finish.shown told keeps moved.moved.settled.calm in (
      subst (λ (spent : Bool). EndsAlike rules allows spent new contents now_contents e.events) (spent-left most out.last new done.leaves)
          (ends-alike rules allows (is_spent most out.last) done.lost out.text out.last new e contents now_contents keeps done.leaves moved.moved.settled
          (ran rules allows most done.lost moved.stimuli out.text old out.last e opened moved.moved.moves) out.none_left (done.written ∙ known-append contents out.text (last_text done.lost out.last e))),
      most-left done.leaves (most-taken opened moved),
    )

pub ran-full : {Own : Type 0} (rules : List AppValue) (Tells : Type 0) (accepts : List TableView → Bool) (allows : List Place → Bool) (most left : ℕ) (contents now_contents : Option (List ℕ)) (old new : Seen Own) → Tells → Conforming new → JudgesAlike Own allows accepts → IsOpened old
    → RanFull Tells accepts most left contents now_contents old new (engine_at_first rules) → LeavesAlike rules allows (is_spent most new) new contents now_contents left × (length (stimuli_in new) ≤ most)
ran-full rules Tells accepts allows most left contents now_contents old new told keeps judges opened full =
    let moved = full.whole_is.whole_is allows told (Conforming-before told full.later keeps) judges (settled-first rules old opened) in
    let leaves = full.leaves.shown told keeps in (
      subst (λ (n : ℕ). LeavesAlike rules allows (is_spent most new) new contents now_contents n) (sym full.left_is)
          (subst (λ (spent : Bool). LeavesAlike rules allows spent new contents now_contents (length full.now_engine.queue)) (spent-left most full.last new leaves)
          (leaves-alike rules allows (is_spent most full.last) full.text full.last new full.now_engine contents now_contents keeps leaves moved.moved.settled
          (ran rules allows most [] moved.stimuli full.text old full.last full.now_engine opened moved.moved.moves) full.contents_is)),
      most-left leaves (most-taken opened moved),
    )
