use Rattle.std.proofs.Common.{◌∙◌, ℕ, List, sym, ap}
use Rattle.flow_table.specs.Frames.{hit_outputs, entry_hit, after_outputs, after_lookup}
use Rattle.switch_sim.specs.laws.LookLaws.{after_outputs-ports}
use Rattle.switch_sim.proofs.switch.SimSwitch.finish_lookup.Goals as goal

pub returns : goal.returns
unfolding after_lookup
returns c =
    let s = c.args.self.now in
    let counted = c.count_lookup.new.self in
    let port = c.args.in_port in
    c.put_out.ensures
    ∙ sym (after_outputs-ports port c.args.outputs.now counted)
    ∙ ap (λ (o : List (ℕ × List ℕ)). after_outputs port o counted) c.requires.outputs
    ∙ ap (after_outputs port (hit_outputs (entry_hit port c.args.frame.now s) c.args.frame.now)) c.count_lookup.ensures
