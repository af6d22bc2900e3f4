use Rattle.std.proofs.Common.{◌≡◌, ◌-◌, ◌*◌, ◌++◌, ◌≤◌, map}
use Rattle.session_gen.specs.Rounds.{turns_drawn, happenings_drawn}
use Rattle.session_gen.proofs.session.draw_rounds.Given as goal

abbrev pub invariant-loop : goal.invariant-loop
invariant-loop l = record {
  moment : l.moment ≤ 4 * l.counter;
  replies : l.script.replies ++ map (λ turn. (0, turn)) (turns_drawn (l.count - l.counter) l.draws.state) ≡ l.fn.script.replies ++ map (λ turn. (0, turn)) (turns_drawn l.count l.fn.draws.state);
  stimuli : l.script.stimuli ++ happenings_drawn (l.count - l.counter) l.moment l.draws.state ≡ l.fn.script.stimuli ++ happenings_drawn l.count 0 l.fn.draws.state;
}
