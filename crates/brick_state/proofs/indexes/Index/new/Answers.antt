-- So many groups of which nothing is kept, and no stripes.
use Rattle.std.proofs.Common.{◌≡◌, ℕ, List, [], ap, ◌∙◌, arith}
use Rattle.std.specs.Prelude.{replicate}
use Rattle.brick_state.specs.declared.groups.Group.{Group}
use Rattle.brick_state.specs.Entries.{Entry}
use Rattle.brick_state.specs.States.{no_group, Place, StripeOf, StateOf}
use Rattle.brick_state.specs.Maps.{listed_in}
use Rattle.brick_state.proofs.indexes.Index.new.Goals as goal

made : List Group → List (Place × StripeOf Entry) → StateOf Entry
made groups stripes = record { boot = 0; groups = groups; stripes = stripes }

same_parts : (g h : List Group) (s t : List (Place × StripeOf Entry)) → g ≡ h → s ≡ t → made g s ≡ made h t
same_parts g h s t p q = ap (λ (x : List Group). made x s) p ∙ ap (made h) q

pub returns-clause-nothing : goal.returns-clause-nothing
unfolding made
returns-clause-nothing c =
    let count : c.loop.counter ≡ 64 = omega arith in
    let groups = c.loop.invariant ∙ ap (λ (n : ℕ). replicate n no_group) count in
    same_parts c.loop.groups.items (replicate 64 no_group) (listed_in c.new-stripes.result.views) [] groups (c.new-stripes.ensures.nothing)
