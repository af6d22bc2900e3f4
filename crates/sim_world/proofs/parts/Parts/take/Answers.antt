use Rattle.std.proofs.Common.{◌≡◌, ℕ, Bool, not, [], ◌∷◌, length, Ok, sym, ap, subst, ◌∙◌}
use Rattle.outside.specs.State.{is_running}
use Rattle.outside.specs.declared.step.WorldStep.TheVariants.{TookInto}
use Rattle.sim_world.specs.Tally.{TallyState, tally_stray}
use Rattle.sim_world.specs.Scripts.{next_taken, IsScripted}
use Rattle.sim_world.specs.Lives.{took_of}
use Rattle.sim_world.specs.World.{WorldData, Moves}
use Rattle.sim_world.specs.laws.WorldLaws.{Moves_ready}
use Rattle.sim_world.specs.laws.LifeLaws.{take_steps-took}
use Rattle.sim_world.specs.Doing.{lives_of, take_tally}
use Rattle.sim_world.specs.laws.DoingLaws.{taken_out_of_place}
use Rattle.sim_world.proofs.parts.Parts.take.Goals as goal

-- what was taken is what the life before says
from : (old mid : WorldData) (app room : ℕ) → mid ≡ record old { room = mid.room; calls = mid.calls; lives = mid.lives } → lives_of mid app ≡ lives_of old app → next_taken mid.told app room (lives_of mid app) ≡ next_taken old.told app room (lives_of old app)
from old mid app room same lives =
    ap (λ (w : WorldData). next_taken w.told app room (lives_of mid app)) same ∙ ap (next_taken old.told app room) lives

pub returns-clause-does : goal.returns-clause-does
returns-clause-does c =
    let tally = ap (λ (w : WorldData). w.tally) c.is_ready_for.ensures.same in
    let stray = c.runs-stray.ensures ∙ sym (c.requires.stands.alike c.args.app) in
    let moves = Moves_ready c.args.self.now c.is_ready_for.new.self c.take_with.new.self _ _ c.is_ready_for.ensures.same c.is_ready_for.ensures.lives c.take_with.ensures.moves in
    let what = c.take_with.ensures.what ∙ from c.args.self.now c.is_ready_for.new.self c.args.app _ c.is_ready_for.ensures.same (c.is_ready_for.ensures.lives c.args.app) in
    let counted =
    ap (λ (b : Bool). tally_stray (not b) (take_tally (Ok c.take_with.result) c.is_ready_for.new.self.tally)) stray
    ∙ ap (λ (t : TallyState). tally_stray (not (is_running c.args.app c.args.self.now.state)) (take_tally (Ok c.take_with.result) t)) tally in
    record {
      moves = rw (take_steps-took c.args.app c.take_with.result c.take_with.new.buf)
          (subst (λ (t : TallyState). Moves c.args.self.now c.take_with.new.self (TookInto c.args.app (took_of c.take_with.result c.take_with.new.buf) (length c.take_with.new.buf) ∷ []) t) counted moves);
      taken = c.take_with.ensures.taken;
      out_of_place = λ out. taken_out_of_place _ _ _ _ c.take_with.result c.take_with.new.buf what (sym (c.requires.stands.alike c.args.app) ∙ out);
    }

pub returns-clause-scripted : goal.returns-clause-scripted
unfolding IsScripted
returns-clause-scripted c =
    let what = c.take_with.ensures.what ∙ from c.args.self.now c.is_ready_for.new.self c.args.app _ c.is_ready_for.ensures.same (c.is_ready_for.ensures.lives c.args.app) in
    rw (take_steps-took c.args.app c.take_with.result c.take_with.new.buf) (rw c.take_with.auto.buf what, tt)
