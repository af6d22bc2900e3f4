use Rattle.std.proofs.Common.{◌≡◌, ℕ, ◌+◌, ◌<◌, ◌≤◌, List, length, get_or, take, All, sym, arith}
use Rattle.std.proofs.lemmas.List.{take_all}
use Rattle.std.proofs.lemmas.List.Elements.{All-more, All-weaker}
use Rattle.flow_table.specs.declared.entry.Entry.{Entry}
use Rattle.switch_tests.proofs.tests.drawn.latest.Goals as goal

-- a bound on the first so many, raised to a bound on one more
raised : (n : Entry → ℕ) (es : List Entry) (i : ℕ) (e : Entry) (low high : ℕ) → i < length es → e ≡ get_or es i e → low ≤ high → n e ≤ high → All (λ f. n f ≤ low) (take i es) → All (λ f. n f ≤ high) (take (i + 1) es)
raised n es i e low high lt is le here all =
    All-more (λ f. n f ≤ high) es i e lt (All-weaker (λ f. n f ≤ low) (λ f. n f ≤ high) (λ f at. omega arith) (take i es) all) (rw (sym is) here)

pub loop-entry-preserved : goal.loop-entry-preserved
loop-entry-preserved c = record {
  installed = raised (λ e. e.installed) c.args.entries.now c.loop-entry.entry-index c.entry-item.result c.loop-entry.last c.max-last.result c.loop-entry-test.true c.entry-item.is (omega arith) (omega arith) c.loop-entry.invariant.installed;
  used = raised (λ e. e.used) c.args.entries.now c.loop-entry.entry-index c.entry-item.result c.loop-entry.last c.max-last.result c.loop-entry-test.true c.entry-item.is (omega arith) (omega arith) c.loop-entry.invariant.used;
}

pub returns-clause-installed : goal.returns-clause-installed
returns-clause-installed c = rw (sym (take_all c.loop-entry.entry-index c.args.entries.now c.loop-entry-test.false)) c.loop-entry.invariant.installed

pub returns-clause-used : goal.returns-clause-used
returns-clause-used c = rw (sym (take_all c.loop-entry.entry-index c.args.entries.now c.loop-entry-test.false)) c.loop-entry.invariant.used
