-- The first number stands no second time, and so on.
use Rattle.std.proofs.Common.{sym, ◌∙◌}
use Rattle.world.proofs.CalmLemmas.{distinct_none, distinct_first, distinct_not}
use Rattle.world.proofs.calms.+are_distinct.Goals as goal

pub returns-in-empty : goal.returns-in-empty
returns-in-empty t c = distinct_none c.args.numbers.now c.in-empty.len_below

pub returns-then-not-contains : goal.returns-then-not-contains
returns-then-not-contains t c =
    distinct_first c.args.numbers.now c.are_distinct.result c.in-len1-up.len_at_least (sym c.contains.ensures.value ∙ c.if-not-contains.true)
    c.are_distinct.ensures

pub returns-else-not-contains : goal.returns-else-not-contains
returns-else-not-contains t c =
    distinct_not c.args.numbers.now c.contains.result c.in-len1-up.len_at_least (sym c.contains.ensures.value ∙ c.if-not-contains.false) c.if-not-contains.false
