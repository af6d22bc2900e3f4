use Rattle.std.proofs.Common.{ap, ◌∙◌, length, map, drop, subst, sym, List, [], ◌∷◌, arith}
use Rattle.std.proofs.lemmas.List.{length-map}
use Rattle.netlog_inverse.specs.declared.image.Logged.{Logged}
use Rattle.netlog_inverse.specs.Index.{IsIndex}
use Rattle.netlog_inverse.specs.Log.{LogState}
use Rattle.netlog_inverse.specs.Marks.{AreSetRightFor}
use Rattle.netlog_inverse.specs.Mending.{set_right}
use Rattle.undo_laws.specs.Log.{old_entry}
use Rattle.netlog_inverse.specs.laws.MendKeyLaws.{right-marks, index-mapped}
use Rattle.netlog_inverse.proofs.log.Log.mend_key.Goals as goal

pub invariant_of-self : goal.invariant_of-self
invariant_of-self c =
    let long = ap length c.mend_images.ensures.items ∙ length-map c.self.inside.logged.items (set_right c.args.dpid c.args.key.now c.args.lost) in
    record {
      index = subst (λ (log : List Logged). IsIndex log c.self.inside.index.items) (sym c.mend_images.ensures.items) (index-mapped c.args.dpid c.args.key.now c.args.lost c.self.inside.logged.items c.self.inside.index.items c.self.invariant.index);
      fits = omega (arith, long, c.mend_images.ensures.room, c.self.invariant.fits);
      index_fits = omega (arith, long, c.self.invariant.index_fits);
    }

pub returns-clause-marks : goal.returns-clause-marks
returns-clause-marks c = λ now mark e place of.
    subst (λ (log : List Logged). AreSetRightFor now c.args.dpid (drop mark c.args.self.now.logged) (old_entry e ∷ []) (drop mark log)) (sym (c.mend_images.ensures.items ∙ ap (λ (x : LogState). map (set_right c.args.dpid c.args.key.now c.args.lost) x.logged) c.self.view_is))
    (right-marks now c.args.dpid mark c.args.key.now c.args.lost e c.args.self.now.logged place of)
