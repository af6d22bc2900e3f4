-- Laws of an application's request of statistics: how its pieces make the whole.
use Rattle.std.specs.Prelude.{◌≡◌, ℕ, ◌^◌, ◌<◌, List, Ok, Err, refl}
use Rattle.std.proofs.Common.{ap, ◌∙◌, subst, inl, inr, arith}
use Rattle.app_frames.specs.declared.frame.Answer.{Answer}
use Rattle.app_frames.specs.declared.frame.Answer.TheVariants.{Unknown}
use Rattle.outside.specs.Seen.{Seen}
use Rattle.lego_model.specs.History.{lost_of}
use Rattle.lego_model.specs.BarrierWaits.{next_xid}
use Rattle.lego_model.specs.declared.fault.TxnFault.{TxnFault}
use Rattle.net_txn.specs.declared.halt.Halt.TheVariants.{Lost, Fault}
use Rattle.net_txn.specs.Net.{NetState}
use Rattle.net_txn.specs.Losing.{lost_net}
use Rattle.net_txn.specs.Asks.{IsAsked, Inquiry, inquiry_sent}
use Rattle.net_txn.specs.Said.{Speaks}
use Rattle.net_txn.specs.Queries.{QueriesFrom, Queried}
use Rattle.net_txn.specs.laws.ChangeLaws.{forget_kept}
use Rattle.net_txn.specs.laws.HeardLaws.{next_xid-lt}
use Rattle.net_txn.specs.laws.LostLaws.{waits_none_lost}
use Rattle.net_txn.specs.laws.OwnIdLaws.{second_next, waits_leave, speaks_on_ids, speaks_over_ids}
use Rattle.net_txn.specs.laws.ReadLaws.{waits_read}
use Rattle.net_txn.specs.laws.TalkLaws.{speaks_on, speaks_links, speaks_place}
use Rattle.net_txn.specs.laws.QueryReachedLaws.{asked_since}
use Rattle.net_txn.specs.laws.QueryStepLaws.{answered_in_step, query_fault}

module _ {Own : Type 0} {Tells : Type 0} (i : Inquiry) (xid : ℕ) (old new : Seen Own) (net : NetState) (now_kept : List (ℕ × List ℕ)) (asked : IsAsked i.query) (lt : i.xid < 2 ^ 32) (at : i.xid ≡ net.xid) (next : xid ≡ next_xid (next_xid net.xid)) where
  no_losses : (answer : Answer) → QueriesFrom Tells i old new net.kept now_kept (Ok answer) → Tells → lost_of new ≡ lost_of old
  no_losses answer q told = waits_none_lost (inquiry_sent i) (refl, (refl, tt)) refl q.answer.answered.waits told

  pub queried_ok : (answer : Answer) → QueriesFrom Tells i old new net.kept now_kept (Ok answer) → Queried Tells i old new net (record net { xid = xid; kept = now_kept }) (Ok answer)
  queried_ok answer q = record {
    continues = speaks_on q.speaks;
    links = speaks_links q.speaks;
    no_strays = speaks_place q.speaks;
    read = λ ok told. waits_read _ (refl, (refl, tt)) (next_xid-lt i.xid lt) q.answer.answered.waits told;
    ids = speaks_on_ids xid (subst (λ (n : ℕ). Speaks Tells i.dpid n 2 old new) at q.speaks) (omega arith) (λ small. next ∙ second_next net.xid small) (waits_leave q.answer.answered.waits);
    queried = inl (record {
      kept_more = q.kept_more;
      answer = q.answer;
      flooded = tt;
      stays = refl;
      losses = no_losses answer q;
      still = q.still;
      reached = λ told. asked_since i old new net.kept now_kept answer asked.message lt told q.answer;
      in_step = λ s told keeps is none. answered_in_step i s old new net.kept now_kept answer asked lt told q.answer keeps is none;
    });
  }

  pub queried_fault : (fault : TxnFault) → QueriesFrom Tells i old new net.kept now_kept (Err (Fault fault)) → Queried Tells i old new net (record net { xid = xid; kept = now_kept }) (Err fault)
  queried_fault fault q = record {
    continues = speaks_on q.speaks;
    links = speaks_links q.speaks;
    no_strays = speaks_place q.speaks;
    read = λ ok. absurd cc;
    ids = speaks_over_ids xid (subst (λ (n : ℕ). Speaks Tells i.dpid n 2 old new) at q.speaks) (omega arith) (λ small. next ∙ second_next net.xid small);
    queried = inl (record {
      kept_more = q.kept_more;
      answer = q.answer.cause;
      flooded = q.answer.flooded;
      stays = refl;
      losses = q.answer.losses;
      still = q.answer.still;
      reached = λ told. tt;
      in_step = λ s told keeps is none. query_fault i s old new net.kept now_kept fault asked lt told (speaks_on q.speaks) keeps is none q.answer.flooded q.answer.cause;
    });
  }

  pub queried_lost : QueriesFrom Tells i old new net.kept now_kept (Err Lost) → Queried Tells i old new net (lost_net i.dpid (record net { xid = xid; kept = now_kept })) (Ok Unknown)
  queried_lost q = record {
    continues = speaks_on q.speaks;
    links = speaks_links q.speaks;
    no_strays = speaks_place q.speaks;
    read = λ ok told. q.answer.1 told;
    ids = speaks_on_ids xid (subst (λ (n : ℕ). Speaks Tells i.dpid n 2 old new) at q.speaks) (omega arith) (λ small. next ∙ second_next net.xid small) q.answer.0.some;
    queried = inr (
      refl,
      record {
        is_lost = q.answer.0;
        net_is = ap (λ (k : List (ℕ × List ℕ)). record (lost_net i.dpid net) { xid = xid; kept = k }) (forget_kept i.dpid net.kept now_kept q.kept_more);
      },
    );
  }
