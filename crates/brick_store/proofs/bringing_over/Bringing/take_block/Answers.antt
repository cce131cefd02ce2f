-- The block moves to its slot, if its number is new.
use Rattle.std.proofs.Common.{◌≡◌, ℕ, Some, None, List, sym, subst, ◌∙◌}
use Rattle.stamp_store.specs.declared.log_records.LogChange.{LogChange}
use Rattle.brick_state.specs.Folds.{slot_named}
use Rattle.brick_store.specs.declared.bringing_over.Bringing.{Bringing}
use Rattle.brick_store.specs.MovingBlocks.{AreMoved}
use Rattle.brick_store.specs.Renumbering.{given_by, given_with}
use Rattle.brick_store.specs.Standing.{IsCached}
use Rattle.brick_store.proofs.MovingBlocks.{block_left, block_moved, named_old}
use Rattle.brick_store.proofs.bringing_over.Bringing.take_block.Goals as goal
use Rattle.brick_store.proofs.bringing_over.Bringing.take_block.Goals.{then-is_new+in-Some+in_ok-hold, then-is_new+in_default-take, else-is_new}

pub returns-clause-moved : goal.returns-clause-moved
returns-clause-moved c = λ size before given are moved cached_one.
    let self = c.args.self.now in
    let n = c.in-Slot.number in
    let held : IsCached size before n = subst (λ (change : LogChange). IsCached size before (slot_named change)) c.in-Slot.is cached_one in
    let new = c.of-slot.ensures.new given are in
    let slot = c.of-slot.ensures.slot given are in
    subst (λ (change : LogChange). AreMoved size before (given_by change given) c.if-is_new.self.held c.if-is_new.self.brought.blocks) (sym c.in-Slot.is)
    (elim c.if-is_new.branch [
      | then-is_new+in-Some+in_ok-hold w ↦
          subst (λ (s : Bringing). AreMoved size before (given_with given n) s.held s.brought.blocks) (sym w.self-is)
          (block_moved size before given self.held w.take.new.self self.brought.blocks w.hold.new.self
          n c.of-slot.result.0 w.in-Some.block moved (sym new ∙ w.if-is_new.true) slot (sym w.take.ensures.taken ∙ w.in-Some.is) w.take.ensures.others
          w.in_ok-hold.ensures.held w.in_ok-hold.ensures.others)
      | then-is_new+in_default-take w ↦
          let there = block_left size before given self.held self.brought.blocks n moved (sym new ∙ w.if-is_new.true) held in
          absurd (never there.0 (sym there.1 ∙ sym w.take.ensures.taken ∙ w.in_default-take.is))
      | else-is_new w ↦
          subst (λ (s : Bringing). AreMoved size before (given_with given n) s.held s.brought.blocks) (sym w.self-is)
          (subst (λ (g : List ℕ). AreMoved size before g self.held self.brought.blocks)
          (sym (named_old given n (sym new ∙ w.if-is_new.false))) moved)
    ])
  where
    never : (block : List ℕ) → Some block ≡ None → ⊥
    never block is = cc
