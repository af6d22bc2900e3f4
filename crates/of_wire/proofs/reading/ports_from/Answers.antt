use Rattle.std.proofs.Common.{◌≡◌, ◌+◌, ◌*◌, ◌++◌, ◌∷◌, [], drop, ap, ◌∙◌}
use Rattle.std.proofs.lemmas.List.{take_rest}
use Rattle.of_wire.specs.Reading.{port_of, ports_of}
use Rattle.of_wire.proofs.Ports.{ports_go_on}
use Rattle.of_wire.proofs.reading.ports_from.Goals as goal

pub loop-i-preserved : goal.loop-i-preserved
loop-i-preserved c =
    let place = c.args.at + 48 * c.loop-i.i in
    let port : c.port_at_front.result ≡ port_of (drop place c.args.bytes.now) = c.port_at_front.ensures ∙ ap port_of (take_rest c.args.bytes.now place) in
    let items : c.push.new.self.items ≡ c.loop-i.ports.items ++ port_of (drop place c.args.bytes.now) ∷ [] = c.in_ok-push.ensures.items ∙ ap (λ p. c.loop-i.ports.items ++ p ∷ []) port in
    rw items (ports_go_on c.loop-i.ports.items c.args.count c.loop-i.i c.args.at c.args.bytes.now (ports_of c.args.count (drop c.args.at c.args.bytes.now)) c.loop-i-test.true c.loop-i.invariant)
