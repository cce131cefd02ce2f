-- The records are put one after the other.
use Rattle.std.proofs.Common.{◌+◌, ◌<◌, ℕ, [], ◌∷◌, length, sym, ap, subst, ◌∙◌}
use Rattle.std.specs.List.{Contains}
use Rattle.brick_state.specs.Folds.{Limits}
use Rattle.brick_state.specs.Indexes.{limits_of, state_of}
use Rattle.brick_state.specs.Slots.{slots_of}
use Rattle.brick_store.specs.declared.bringing_over.Slots.{Slots}
use Rattle.brick_store.specs.MovingBlocks.{AreGiven}
use Rattle.brick_store.proofs.Bringing.{IsBrought, IsOnItsWay, at_first, at_first_of, at_last, left_way, next_few, one_more}
use Rattle.brick_store.proofs.bringing_over.bring_over.Goals.{In-Some, In_ok-bytes}
use Rattle.brick_store.proofs.bringing_over.bring_over.Goals as goal

pub loop-item-init : goal.loop-item-init
loop-item-init c =
    let old = c.args.folded in
    let st = state_of old.index in
    let now = c.in_ok-bringing.bringing in
    let made = c.in_ok-bringing.ensures in
    let end = λ (slot : ℕ) (within : slot < old.sizes.records + 1) (there : Contains (slots_of st) slot).
    c.named_end-numbers.ensures.named slot (subst (λ (l : Limits). slot < l.slots) (sym c.requires.limits) within) there in
    record {
      way = at_first_of old.sizes.block old.sizes.records old.blocks st c.new-remaining.result now.slots.moved.items now.slots.next now.held
          now.brought.blocks (limits_of now.brought.index) (state_of now.brought.index) now.brought.frames
          (c.new-remaining.ensures ∙ c.in_ok-records.ensures) made.held made.blocks made.frames
          (at_first old.sizes.block old.sizes.records c.named_end-numbers.result old.blocks st now.slots.moved.items now.slots.next (limits_of now.brought.index)
          (state_of now.brought.index) c.requires.kept old.few c.requires.held c.requires.members
          (ap (λ (s : Slots). length s.moved.items) made.slots ∙ c.in_ok-slots.ensures.numbers) end
          (subst (λ (s : Slots). AreGiven [] s.moved.items s.next) (sym made.slots) c.in_ok-slots.ensures.given) made.limits made.nothing);
    }

-- the next record is the first of those that are left
way_now : (c : In-Some) → IsOnItsWay c.args.folded.sizes.block c.args.folded.sizes.records c.args.folded.blocks (state_of c.args.folded.index)
    (c.in-Some.item ∷ c.next.new.self) c.loop-item.bringing.slots.moved.items c.loop-item.bringing.slots.next c.loop-item.bringing.held
    c.loop-item.bringing.brought.blocks (limits_of c.loop-item.bringing.brought.index) (state_of c.loop-item.bringing.brought.index)
    c.loop-item.bringing.brought.frames
way_now c = left_way _ _ _ _ _ _ _ _ _ _ _ _ _ c.in-Some.ensures c.loop-item.invariant.way

pub bring-requires-clause-members : goal.bring-requires-clause-members
bring-requires-clause-members c = (way_now (goal.at.bring-requires-clause-members c).In-Some).each.0.members

pub bring-requires-clause-named : goal.bring-requires-clause-named
bring-requires-clause-named c = (way_now (goal.at.bring-requires-clause-named c).In-Some).each.0.within

pub bring-requires-clause-few : goal.bring-requires-clause-few
bring-requires-clause-few c = next_few _ _ _ _ _ _ _ _ _ _ _ _ c.args.folded.few c.requires.kept c.loop-item.invariant.way

pub loop-item-preserved : goal.loop-item-preserved
loop-item-preserved c =
    let old = c.args.folded in
    let way = way_now (goal.at.loop-item-preserved c).In-Some in
    let made = c.in_ok-bring.ensures in
    record {
      way = one_more _ _ _ _ _ _ _ _ _ _ _ _ _ _ _ _ _ _ _ _ way made.numbers made.limits (made.given way.given way.are)
          (made.moved old.sizes.block old.blocks way.given way.are way.blocks way.each.0.held) (made.put way.given way.are);
    }

-- all of them were put
done : (c : In_ok-bytes) → IsBrought c.args.folded.sizes.block c.args.folded.sizes.records c.args.folded.blocks (state_of c.args.folded.index)
    c.loop-item.bringing.brought.blocks c.in_ok-bytes.bytes.items (limits_of c.loop-item.bringing.brought.index)
    (state_of c.loop-item.bringing.brought.index) c.loop-item.bringing.brought.frames
done c =
    at_last _ _ _ _ _ _ _ _ _ _ _ _ c.args.folded.few c.requires.kept c.requires.held c.requires.members
    (left_way _ _ _ _ _ _ _ _ _ _ _ _ _ c.in_default.ensures c.loop-item.invariant.way) c.in_ok-bytes.ensures

pub returns-clause-state : goal.returns-clause-state
returns-clause-state c = (done (goal.at.returns-clause-state c).In_ok-bytes).state

pub returns-clause-frames : goal.returns-clause-frames
returns-clause-frames c = (done (goal.at.returns-clause-frames c).In_ok-bytes).read

pub returns-clause-bytes : goal.returns-clause-bytes
returns-clause-bytes c = (done (goal.at.returns-clause-bytes c).In_ok-bytes).bytes_are

pub returns-clause-over : goal.returns-clause-over
returns-clause-over c = (done (goal.at.returns-clause-over c).In_ok-bytes).over
