use Rattle.std.proofs.Common.{◌≡◌, ◌==◌, length, sym, ap, ◌∙◌, arith}
use Rattle.std.proofs.lemmas.Bool.{eqb-true}
use Rattle.std.specs.VecDeque.{deque_len}
use Rattle.sim_world.specs.LinkWaits.{Waiting}
use Rattle.sim_world.proofs.Batches.{none_behind}
use Rattle.sim_world.proofs.waits.Waits.is_empty.Goals as goal

pub returns-then-is_empty : goal.returns-then-is_empty
returns-then-is_empty c =
    let current = c.self.inside.current in
    let later = c.self.inside.later in
    let none = eqb-true (deque_len current) 0 (sym c.is_empty.ensures ∙ c.if-is_empty.true) in
    let all : deque_len later ≡ length later.items = omega arith in
    c.is_empty-then-is_empty.ensures ∙ ap (λ n. n == 0) all
    ∙ none_behind current.items later.items (omega arith) c.self.invariant.filled
    ∙ ap (λ (w : Waiting). length w.messages == 0) c.self.view_is
