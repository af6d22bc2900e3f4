use Rattle.std.proofs.Common.{ℕ, List, ◌+◌, ◌<◌, ◌≤◌, ◌∙◌, ap, ◌≡◌, ◌++◌, length, map, take, drop, get_or, set, append-nil, length-append, length-drop, arith}
use Rattle.std.proofs.Math.ListN.{drop_of_length-le}
use Rattle.std.proofs.lemmas.List.{take_all, get_or_default, length-map, length-take-le}
use Rattle.std.proofs.lemmas.List.Edits.{map_over_more}
use Rattle.shadow_tables.specs.Known.{configured}
use Rattle.shadow_tables.proofs.ports.configure.Goals as goal

-- past the end each port is done
whole : {X : Type 0} (f : X → X) (xs ys : List X) (i : ℕ) → ys ≡ map f (take i xs) ++ drop i xs → length xs ≤ i → ys ≡ map f xs
whole f xs ys i is past = is ∙ rw (take_all i xs past, drop_of_length-le xs past) (append-nil (map f xs))

same_length : {X : Type 0} (f : X → X) (xs ys : List X) (i : ℕ) → i < length xs → ys ≡ map f (take i xs) ++ drop i xs → length ys ≡ length xs
same_length f xs ys i lt is =
    let within : i ≤ length xs = omega arith in
    omega (arith, ap length is, length-append (map f (take i xs)) (drop i xs), length-map (take i xs) f, length-take-le i xs within, length-drop i xs)

-- one port more
step : {X : Type 0} (f : X → X) (xs ys : List X) (i : ℕ) (d y : X) → i < length xs → ys ≡ map f (take i xs) ++ drop i xs → y ≡ f (get_or ys i d) → set ys i y ≡ map f (take (i + 1) xs) ++ drop (i + 1) xs
step f xs ys i d y lt is new =
    let here : i < length ys = omega (arith, same_length f xs ys i lt is) in
    ap (λ z. set ys i z) new ∙ map_over_more f xs ys i (get_or ys i d) lt is (get_or_default ys i d (get_or ys i d) here)

pub loop-port-preserved : goal.loop-port-preserved
loop-port-preserved c = step (configured c.args.number c.args.config) c.args.ports.now c.loop-port.ports c.loop-port.port-index _ c.configure_port.new.port c.loop-port-test.true c.loop-port.invariant c.configure_port.ensures

pub returns : goal.returns
returns c = whole _ c.args.ports.now c.loop-port.ports c.loop-port.port-index c.loop-port.invariant c.loop-port-test.false
