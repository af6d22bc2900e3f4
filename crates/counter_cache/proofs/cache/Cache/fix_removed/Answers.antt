use Rattle.std.proofs.Common.{◌≡◌, List, ap, ◌∙◌}
use Rattle.of_match.specs.declared.key.Key.{Key}
use Rattle.flow_table.specs.declared.lost.Lost.{Lost}
use Rattle.counter_cache.specs.Cache.{CacheState}
use Rattle.counter_cache.specs.Fixed.{fixed_removed}
use Rattle.counter_cache.specs.laws.FixedLaws.{NoticeIsShown-fixed}
use Rattle.counter_cache.proofs.cache.Cache.fix_removed.Goals as goal

pub returns-clause-shown : goal.returns-clause-shown
returns-clause-shown c =
    let rows : c.deref.result.now ≡ c.args.self.now.rows = c.deref.ensures.value ∙ ap (λ (s : CacheState). s.rows) c.self.view_is in
    NoticeIsShown-fixed c.args.self.now.rows c.args.n.now _ (c.fix_notice.ensures ∙ ap (λ (lost : List (Key × Lost)). fixed_removed lost c.args.n.now) rows)
