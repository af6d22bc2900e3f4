use Rattle.std.proofs.Common.{◌≡◌, false, sym, ◌∙◌, arith}
use Rattle.outside.specs.State.{is_running}
use Rattle.outside.specs.Calls.{end_steps}
use Rattle.sim_world.specs.laws.DoingLaws.{fewer_run, Moves_none}
use Rattle.sim_world.proofs.parts.Parts.end.Goals as goal

pub ended-requires : goal.ended-requires
ended-requires c = omega (arith, fewer_run c.args.app c.args.self.now.state.running (c.requires.alike c.args.app ∙ sym c.runs.ensures ∙ c.if-runs.true), c.requires.promised)

pub returns-else-runs-clause-moves : goal.returns-else-runs-clause-moves
unfolding end_steps
returns-else-runs-clause-moves c =
    let rests : is_running c.args.app c.args.self.now.state ≡ false = c.requires.alike c.args.app ∙ sym c.runs.ensures ∙ c.if-runs.false in
    rw rests (Moves_none c.args.self.now (sym c.requires.plain) c.requires.promised)
