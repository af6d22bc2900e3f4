use Rattle.std.proofs.Common.{◌≡◌, List, Result, Ok, Err, OnOk, OnErr, map}
use Rattle.of_match.specs.declared.key.Key.{Key}
use Rattle.of_wire.specs.declared.bodies.FlowMod.{FlowMod}
use Rattle.flow_table.specs.declared.entry.Entry.{Entry}
use Rattle.flow_table.specs.Change.{modified}
use Rattle.tuple_index.specs.Groups.{IsIndexed}
use Rattle.tuple_index.specs.laws.IndexLaws.{IsIndexed-modified}
use Rattle.tuple_index.proofs.changing.modify.Goals as goal

either : {T E : Type 0} (r : Result T E) (ks : List Key) (m : FlowMod) (new old : List Entry) → IsIndexed ks old → OnOk r (new ≡ map (modified m) old) → OnErr r (new ≡ old) → IsIndexed ks new
either (Ok x) ks m new old h ok err = rw ok (IsIndexed-modified ks m old h)
either (Err x) ks m new old h ok err = rw err h

pub returns-then-m-eq-MODIFY_STRICT-clause-indexed : goal.returns-then-m-eq-MODIFY_STRICT-clause-indexed
returns-then-m-eq-MODIFY_STRICT-clause-indexed c = either c.modify_one.result c.args.index.now c.args.m.now _ c.args.entries.now.items c.requires c.modify_one.ensures.ok c.modify_one.ensures.err

pub returns-in_ok-copies-clause-indexed : goal.returns-in_ok-copies-clause-indexed
returns-in_ok-copies-clause-indexed c = rw c.replace_actions.ensures (IsIndexed-modified c.args.index.now c.args.m.now c.args.entries.now.items c.requires)
