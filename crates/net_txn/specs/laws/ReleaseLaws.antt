-- The laws of a commit: how its parts make the whole.
use Rattle.std.specs.Prelude.{ℕ, List, ◌++◌, map, drop, Result, Ok, Err, refl}
use Rattle.std.proofs.Common.{ap, ◌∙◌, inl, inr, arith}
use Rattle.app_frames.specs.declared.frame.Event.{Event}
use Rattle.outside.specs.Seen.{Seen}
use Rattle.lego_model.specs.declared.fault.TxnFault.{TxnFault}
use Rattle.lego_model.specs.declared.fault.TxnFault.TheVariants.{NoMemory}
use Rattle.net_txn.specs.Net.{NetState}
use Rattle.net_txn.specs.Undos.{Undoes, key_logged, lost_parts}
use Rattle.net_txn.specs.Releases.{committed, Commits}
use Rattle.net_txn.specs.ReleaseSteps.{ReleasedFront, StopsBehind}
use Rattle.net_txn.specs.laws.OwnIdLaws.{so_far_ascends}
use Rattle.net_txn.specs.laws.UndoIdLaws.{undone_ids}
use Rattle.net_txn.specs.laws.LinkPresenceLaws.{stays_in}
use Rattle.net_txn.specs.laws.AbreastLaws.{without_keys-viewed, lose_all-viewed, in_views}
use Rattle.net_txn.specs.laws.LoseAllLaws.{lose_all-moment}

-- no memory was left before the release
pub commits_undone : {Own : Type 0} {Tells : Type 0} (start : ℕ) (old new : Seen Own) (net now_net : NetState) (queue : List Event) (result : Result (Unit {0}) TxnFault) → Undoes Tells start old new net now_net result
    → Commits Tells start old new net now_net queue queue (Err NoMemory)
commits_undone start old new net now_net queue result u =
    let lost = lost_parts u.parts in
    record {
      continues = u.continues;
      links = u.links;
      no_strays = u.no_strays;
      read = λ ok. absurd cc;
      ids = λ told short joined before. ((undone_ids u told short joined 0 (omega arith) before).0, λ ok. absurd cc);
      lost = lost;
      losses = u.losses;
      moment = ap (λ (n : NetState). n.moment) u.net_is ∙ lose_all-moment lost _;
      room = λ ok. absurd cc;
      kept = λ ok. absurd cc;
      switches = λ e. ap (λ (n : NetState). in_views e n.views) u.net_is ∙ lose_all-viewed e lost _ ∙ ap (stays_in e lost) (without_keys-viewed e (map key_logged (drop start net.log)) net.views);
      ended = inl (record { fault_is = refl; result = result; undoes = u; queue_is = refl });
    }

-- all were released
pub commits_all : {Own : Type 0} {Tells : Type 0} (start : ℕ) (old new : Seen Own) (net now_net : NetState) (queue now_queue : List Event) (sizes : List (ℕ × ℕ)) → ReleasedFront Tells net.held.packets old new (committed start net) now_net (queue ++ net.held.notices) now_queue sizes
    → Commits Tells start old new net now_net queue now_queue (Ok sizes)
commits_all start old new net now_net queue now_queue sizes r = record {
  continues = r.calls.continues;
  links = r.calls.links;
  no_strays = r.calls.no_strays;
  read = λ ok. r.read;
  ids = λ told short joined before. (let after = r.ids told short before in (so_far_ascends new now_net.xid 0 short (omega arith) after, λ ok. after));
  lost = r.lost;
  losses = r.calls.losses;
  moment = r.stays.moment;
  room = λ ok. r.stays.room;
  kept = λ ok. r.stays.kept;
  switches = r.stays.switches;
  ended = record { sent = r.sent; all = r.all; answer_is = r.sizes_is };
}

-- the release stopped
pub commits_stopped : {Own : Type 0} {Tells : Type 0} (start : ℕ) (old new : Seen Own) (net now_net : NetState) (queue now_queue : List Event) (fault : TxnFault) → StopsBehind Tells net.held.packets old new (committed start net) now_net (queue ++ net.held.notices) fault
    → Commits Tells start old new net now_net queue now_queue (Err fault)
commits_stopped start old new net now_net queue now_queue fault r = record {
  continues = r.calls.continues;
  links = r.calls.links;
  no_strays = r.calls.no_strays;
  read = λ ok. absurd cc;
  ids = λ told short joined before. (r.ids told short before, λ ok. absurd cc);
  lost = r.lost;
  losses = r.calls.losses;
  moment = r.stays.moment;
  room = λ ok. absurd cc;
  kept = λ ok. absurd cc;
  switches = r.stays.switches;
  ended = inr (record {
    front = r.front;
    broken = r.broken;
    rest = r.rest;
    held_is = r.held_is;
    sent = r.sent;
    mid = r.mid;
    mid_net = r.mid_net;
    mid_queue = r.mid_queue;
    before = r.before;
    breaks = r.breaks;
  });
}
