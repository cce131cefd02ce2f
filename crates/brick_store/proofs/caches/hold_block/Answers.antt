-- A block more is held.
use Rattle.std.proofs.Common.{◌≡◌, inr, true, false, Option, List, ℕ, refl, sym, subst, ◌∙◌, rules}
use Rattle.std.specs.List.{AllByRecursion, Contains}
use Rattle.std.specs.Option.{IsSome}
use Rattle.frame_store.specs.Images.{HasSlot}
use Rattle.brick_state.specs.Indexes.{state_of}
use Rattle.brick_state.specs.Slots.{slots_of}
use Rattle.brick_store.specs.Openings.{IsHeld, IsInside}
use Rattle.brick_store.proofs.HeldBlocks.{read_more, held_still, named_inside}
use Rattle.brick_store.proofs.caches.hold_block.Goals as goal

differ : true ≡ false → ⊥
differ h = cc

pub returns-clause-held : goal.returns-clause-held
returns-clause-held g c = λ named. inr (subst (λ (o : Option (List ℕ)). IsSome o) (sym c.in_ok-hold.ensures.held) refl)

pub returns-clause-others : goal.returns-clause-others
returns-clause-others g c = held_still c.args.blocks.now c.hold.new.self c.args.slot c.in_ok-bytes.bytes c.in_ok-hold.ensures.held c.in_ok-hold.ensures.others

pub returns-clause-read : goal.returns-clause-read
returns-clause-read g c = read_more c.args.blocks.now c.hold.new.self c.args.slot c.in_ok-bytes.bytes c.in_ok-hold.ensures.held c.in_ok-hold.ensures.others
    g.D.Disk.tells c.args.frames.now.shape c.args.frames.now.size (g.D.Disk.seen c.args.frames.now.disk)
    (record { has = c.in_ok-bytes.ensures.has; len = c.in_ok-bytes.ensures.len; told = c.in_ok-bytes.ensures.bytes })

pub returns-then-not-is_named : goal.returns-then-not-is_named
returns-then-not-is_named g c =
    let held : Contains (slots_of (state_of c.args.index.now)) c.args.slot → IsHeld c.args.blocks.now c.args.slot =
    λ there. absurd (differ (sym (c.is_named.ensures.1 there) ∙ c.if-not-is_named.true)) in
    search (rules, held)

pub returns-in_err-bytes : goal.returns-in_err-bytes
returns-in_err-bytes g c =
    let shape = c.args.frames.now.shape in
    let size = c.args.frames.now.size in
    let used = slots_of (state_of c.args.index.now) in
    let inside : AllByRecursion (IsInside shape size) used → HasSlot shape size c.args.slot =
    named_inside shape size used c.args.slot c.requires.slot.1 (c.is_named.ensures.0 c.if-not-is_named.false) in
    search (rules, inside)

pub returns-in_err-hold : goal.returns-in_err-hold
returns-in_err-hold g c = search rules
