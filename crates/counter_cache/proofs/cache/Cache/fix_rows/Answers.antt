use Rattle.std.proofs.Common.{◌≡◌, List, ap, ◌∙◌, map}
use Rattle.of_match.specs.declared.key.Key.{Key}
use Rattle.flow_table.specs.declared.lost.Lost.{Lost}
use Rattle.counter_cache.specs.Cache.{CacheState}
use Rattle.counter_cache.specs.Fixed.{fixed_row}
use Rattle.counter_cache.specs.laws.FixedLaws.{RowsAreShown-fixed}
use Rattle.counter_cache.proofs.cache.Cache.fix_rows.Goals as goal

pub returns-clause-shown : goal.returns-clause-shown
returns-clause-shown c =
    let rows : c.deref.result.now ≡ c.args.self.now.rows = c.deref.ensures.value ∙ ap (λ (s : CacheState). s.rows) c.self.view_is in
    RowsAreShown-fixed c.args.self.now.rows c.args.rows.now _ (c.fix_row_list.ensures ∙ ap (λ (lost : List (Key × Lost)). map (fixed_row lost) c.args.rows.now) rows)
