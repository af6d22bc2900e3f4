use Rattle.std.proofs.Common.{sym, arith, subst, List}
use Rattle.std.proofs.lemmas.Result.{on_ok_weaker}
use Rattle.net_txn.specs.declared.ports.KnownPorts.{KnownPorts}
use Rattle.net_txn.specs.Arriving.{IsNoKnown}
use Rattle.net_txn.specs.laws.KnownLaws.{known_after-none, known_placed, IsKnownAt-within}
use Rattle.net_txn.proofs.message_event.change_known.Goals as goal

pub index_mut-requires : goal.index_mut-requires
index_mut-requires c = omega (arith, IsKnownAt-within c.args.dpid c.deref.result.now c.in-Some.at c.in-Some.ensures, c.deref.ensures.len)

pub returns-in-None-clause-ok : goal.returns-in-None-clause-ok
returns-in-None-clause-ok c = sym (known_after-none c.args.dpid c.args.status.now _ (subst (λ (ks : List KnownPorts). IsNoKnown c.args.dpid ks) c.deref.ensures.value c.in-None.ensures))

pub returns-in-Some-clause-ok : goal.returns-in-Some-clause-ok
returns-in-Some-clause-ok c =
    on_ok_weaker c.change.result (λ done. known_placed c.args.dpid c.args.status.now _ c.deref.result.now c.in-Some.at c.index_mut.result.now c.change.new.ports c.deref.ensures.value c.in-Some.ensures c.index_mut.ensures.value done) c.change.ensures.ok
