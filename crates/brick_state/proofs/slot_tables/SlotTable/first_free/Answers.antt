-- The first node of the tree has the least slot, if any is free.
use Rattle.std.proofs.Common.{◌≡◌, ◌≤◌, ℕ, List, length, get_or, subst, sym, ◌∙◌, arith}
use Rattle.std.proofs.lemmas.Bool.Decides.{nat_tests}
use Rattle.std.proofs.lemmas.List.{get_or_default}
use Rattle.brick_state.specs.SlotTrees.{IsLeastUnused}
use Rattle.brick_state.proofs.SlotTrees.{first_least, empty_least}
use Rattle.brick_state.proofs.slot_tables.SlotTable.first_free.Goals as goal

pub returns-then-is_empty : goal.returns-then-is_empty
returns-then-is_empty c =
    subst (λ (counts : List ℕ). IsLeastUnused counts 0) c.self.view_is
    (empty_least c.self.inside.counts.items (grind (arith, nat_tests, c.is_empty.ensures, c.if-is_empty.true)))

pub returns : goal.returns
returns c =
    let t = c.self.inside in
    let some : 1 ≤ length t.counts.items = grind (arith, nat_tests, c.is_empty.ensures, c.if-is_empty.false) in
    let read : c.index.result.now ≡ get_or t.least.items 1 0 =
    c.index.ensures ∙ get_or_default t.least.items 1 c.index.result.now 0 (omega (arith, some, c.self.invariant.tree.size)) in
    subst (λ (counts : List ℕ). IsLeastUnused counts c.first_in.result) c.self.view_is
    (first_least t.least.items t.counts.items c.first_in.result c.self.invariant some
    (λ none. omega (arith, c.first_in.ensures.none (read ∙ none), c.len.ensures))
    (λ other. c.first_in.ensures.one (λ is. other (sym read ∙ is)) ∙ read))
