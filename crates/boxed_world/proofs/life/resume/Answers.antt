use Rattle.std.proofs.Common.{rules, sym, ◌∙◌}
use Rattle.std.proofs.lemmas.Bool.{false≢true}
use Rattle.boxed_world.proofs.life.resume.Goals as goal

pub returns-then-restore : goal.returns-then-restore
returns-then-restore g c =
    λ ok. record {
      same = c.restore.ensures.same;
      restored = λ is. (rw (← c.checkpoint_in.ensures) (c.restore.ensures.restored c.if-restore.true), search rules);
      reacted = λ is. absurd (false≢true (sym is ∙ c.requires));
    }
