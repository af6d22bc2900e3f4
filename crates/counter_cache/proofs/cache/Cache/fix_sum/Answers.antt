use Rattle.std.proofs.Common.{◌≡◌, List, ap, ◌∙◌, filter}
use Rattle.of_match.specs.declared.key.Key.{Key}
use Rattle.flow_table.specs.declared.lost.Lost.{Lost}
use Rattle.counter_cache.specs.Cache.{CacheState}
use Rattle.counter_cache.specs.Fixed.{is_met, fixed_sum}
use Rattle.counter_cache.specs.laws.FixedLaws.{SumIsShown-fixed}
use Rattle.counter_cache.proofs.cache.Cache.fix_sum.Goals as goal

pub returns-clause-shown : goal.returns-clause-shown
returns-clause-shown c =
    let rows : c.deref.result.now ≡ c.args.self.now.rows = c.deref.ensures.value ∙ ap (λ (s : CacheState). s.rows) c.self.view_is in
    SumIsShown-fixed c.args.self.now.rows c.args.view.now.rows.rows c.args.m.now c.args.out_port c.args.sum.now _ (c.fix_sum_of.ensures ∙ ap (λ (lost : List (Key × Lost)). fixed_sum lost (filter (is_met c.args.m.now c.args.out_port) c.args.view.now.rows.rows) c.args.sum.now) rows)
