-- Laws of an application that has its turn alone at an event, with nothing in place of it. By the count of turns that failed it can be told whether its
-- turn did.
use Rattle.std.proofs.Common.{◌≡◌, ◌||◌, ℕ, Bool, true, false, List, [], refl, sym, ap, ◌∙◌, subst, arith}
use Rattle.std.proofs.lemmas.List.{append-nil}
use Rattle.flow_table.specs.View.{TableView}
use Rattle.app_frames.specs.declared.frame.Event.{Event}
use Rattle.app_frames.specs.declared.frame.EventKind.{EventKind}
use Rattle.crash_policy.specs.Asking.{rule_at}
use Rattle.crash_policy.specs.declared.policy_file.Policy.{Policy}
use Rattle.crash_policy.specs.declared.policy_file.Policy.TheVariants as policy
use Rattle.outside.specs.Seen.{Seen}
use Rattle.net_txn.specs.Net.{NetState}
use Rattle.std.specs.Prelude.{Option}
use Rattle.app_visor.specs.declared.state.TurnEnd.{TurnEnd}
use Rattle.app_visor.specs.declared.state.TurnEnd.TheVariants as ends
use Rattle.app_visor.specs.Turns.{handed}
use Rattle.run_laws.specs.Engine.{Focus}
use Rattle.run_laws.specs.Facts.{Follows, IsClosed, TakesTurn, TakesInstead, TakesEvent, says_stop, end_fails, failed_by, instead_if}
use Rattle.run_laws.specs.laws.HadLaws.{or_false}

-- ---- Whether it failed

follows_count : {Own : Type 0} (Tells : Type 0) (rule : Policy) (text : List ℕ) (old new : Seen Own) (e now_e : Focus) → Follows Tells rule text old new e now_e → now_e.failed ≡ e.failed
follows_count Tells policy.None text old new e now_e f = ap (λ (x : Focus). x.failed) f.engine
follows_count Tells policy.Absolute text old new e now_e f = ap (λ (x : Focus). x.failed) f.engine
follows_count Tells policy.Equivalence text old new e now_e f = ap (λ (x : Focus). x.failed) f.engine

closed_count : {Own : Type 0} (Tells : Type 0) (kind : EventKind) (end : TurnEnd) (checkpoint : Option (List ℕ)) (unread text : List ℕ) (start : ℕ) (mid new : Seen Own) (mid_net : NetState) (e now_e : Focus)
    → IsClosed Tells kind end checkpoint unread text start mid new mid_net e now_e → now_e.failed ≡ failed_by end e.failed
closed_count Tells kind (ends.Done stop) checkpoint unread text start mid new mid_net e now_e closed = ap (λ (x : Focus). x.failed) closed.engine
closed_count Tells kind (ends.Failed cause) checkpoint unread text start mid new mid_net e now_e closed =
    follows_count Tells (rule_at e.rule kind) closed.later_text closed.undone new _ now_e closed.follows

-- a turn more failed, or none
pub turn_counts : {Own : Type 0} (Tells : Type 0) (accepts : List TableView → Bool) (event : Event) (text : List ℕ) (old new : Seen Own) (e now_e : Focus) (t : TakesTurn Tells accepts event text old new e now_e) → now_e.failed ≡ failed_by t.end e.failed
turn_counts Tells accepts event text old new e now_e t = closed_count Tells event.kind t.end (handed t.turns.outcome) t.unread text _ t.mid new t.mid_net e now_e t.closed

-- so it failed where the count is another one
pub failed_if : (end : TurnEnd) (before now : ℕ) → now ≡ failed_by end before → (now ≡ before → ⊥) → end_fails end ≡ true
failed_if (ends.Done stop) before now is other = absurd (other is)
failed_if (ends.Failed cause) before now is other = refl

pub whole_if : (end : TurnEnd) (before now : ℕ) → now ≡ failed_by end before → now ≡ before → end_fails end ≡ false
whole_if (ends.Done stop) before now is same = refl
whole_if (ends.Failed cause) before now is same = absurd (omega (arith, is, same))

-- ---- Its turn alone

stops_alone : (stops : Bool) (end : TurnEnd) → stops ≡ says_stop end → stops ≡ (says_stop end || false)
stops_alone stops end is = is ∙ sym (or_false (says_stop end))

pub turn_only : {Own : Type 0} (Tells : Type 0) (accepts : List TableView → Bool) (event : Event) (stops : Bool) (text : List ℕ) (old new : Seen Own) (e now_e : Focus) (t : TakesTurn Tells accepts event text old new e now_e)
    → instead_if (end_fails t.end) now_e.alive now_e.rule event ≡ [] → stops ≡ says_stop t.end → TakesEvent Tells accepts event stops text old new e now_e
turn_only Tells accepts event stops text old new e now_e t none stops_is = record {
  mid = new;
  mid_e = now_e;
  front_text = text;
  takes = t;
  stopped = false;
  later_text = [];
  later = subst (λ (events : List Event). TakesInstead Tells accepts events false [] new new now_e now_e) (sym none) (refl, refl, refl, refl);
  stops_is = stops_alone stops t.end stops_is;
  text_is = sym (append-nil text);
}
