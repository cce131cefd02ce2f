-- What the index and the blocks in memory say is what a clause sees.
use Rattle.std.proofs.Common.{◌≡◌, List, ap, sym, subst, ◌∙◌}
use Rattle.brick_state.specs.Entries.{Entry}
use Rattle.brick_state.specs.States.{StripeOf, stripe_at}
use Rattle.brick_state.specs.Folds.{place}
use Rattle.brick_state.specs.Indexes.{state_of}
use Rattle.brick_store.specs.Blocks.{cached, log_at}
use Rattle.brick_store.specs.Bricks.{Brick}
use Rattle.brick_store.specs.Logs.{AllHeld, log_held}
use Rattle.brick_store.specs.Standing.{IsCached}
use Rattle.brick_store.proofs.Changed.{slots_at}
use Rattle.brick_store.proofs.HeldLogs.{cached_held, log_seen, order_seen}
use Rattle.brick_store.proofs.stores.BrickStore.state.Given.{Over}
use Rattle.brick_store.proofs.stores.BrickStore.state.Goals.{After-stripe}
use Rattle.brick_store.proofs.stores.BrickStore.state.Goals as goal

-- the stripe in the index
abbrev stripe : (g : Over) → After-stripe g → StripeOf Entry
stripe g c = stripe_at (state_of c.self.inside.index) (place c.args.group c.args.view c.args.stripe)

-- its order stamp is the one that is seen
order_so : (g : Over) (c : After-stripe g) (s : StripeOf Entry) → stripe g c ≡ s
    → s.order ≡ (stripe_at c.args.self.now.state (place c.args.group c.args.view c.args.stripe)).order
order_so g c s is =
    let p = place c.args.group c.args.view c.args.stripe in
    sym (ap (λ (s : StripeOf Entry). s.order) is) ∙ order_seen (cached c.self.inside.frames.shape.block c.self.inside.blocks) (state_of c.self.inside.index) p
    ∙ ap (λ (b : Brick g.row.D.Denot). (stripe_at b.state p).order) c.self.view_is

-- its log, with the blocks that are held, is the one that is seen
log_so : (g : Over) (c : After-stripe g) (s : StripeOf Entry) → stripe g c ≡ s
    → log_held c.self.inside.zero c.self.inside.blocks s.from_start s.added
    ≡ log_at c.args.self.now.shape.block c.args.self.now.state (place c.args.group c.args.view c.args.stripe)
log_so g c s is =
    let x = c.self.inside in
    let p = place c.args.group c.args.view c.args.stripe in
    log_seen x.frames.shape.block x.zero x.blocks (state_of x.index) p s.from_start s.added c.self.invariant.zero_is
    (ap (λ (s : StripeOf Entry). s.from_start) is) (ap (λ (s : StripeOf Entry). s.added) is)
    ∙ ap (λ (b : Brick g.row.D.Denot). log_at b.shape.block b.state p) c.self.view_is

pub invariant_of-t-11 : goal.invariant_of-t-11
invariant_of-t-11 g c =
    let x = c.self.inside in
    let st = state_of x.index in
    let size = x.frames.shape.block in
    let p = place c.args.group c.args.view c.args.stripe in
    let all = cached_held size x.blocks (stripe_at st p).added (slots_at (IsCached size x.blocks) p st.stripes c.self.invariant.cached_all) in
    subst (λ (es : List Entry). AllHeld x.blocks es) (ap (λ (s : StripeOf Entry). s.added) c.in-Some.ensures.some) all

pub returns-in-Some : goal.returns-in-Some
returns-in-Some g c =
    let d = (goal.at.returns-in-Some g c).After-stripe in
    record { order = order_so g d _ c.in-Some.ensures.some; log = log_so g d _ c.in-Some.ensures.some }

pub returns-in-None : goal.returns-in-None
returns-in-None g c =
    let d = (goal.at.returns-in-None g c).After-stripe in
    record { order = order_so g d _ c.in-None.ensures.none; log = log_so g d _ c.in-None.ensures.none }
