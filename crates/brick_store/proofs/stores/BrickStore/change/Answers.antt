-- The change of a record that puts no block.
use Rattle.std.proofs.Common.{◌≡◌, refl, sym, ap, subst, ◌∙◌}
use Rattle.std.proofs.lemmas.Result.{err_from_is_err_and}
use Rattle.brick_state.specs.Entries.{Entry}
use Rattle.brick_state.specs.States.{StateOf}
use Rattle.brick_state.specs.Indexes.{state_of, limits_of}
use Rattle.brick_store.specs.Blocks.{resolved, cached}
use Rattle.brick_store.specs.Bricks.{Brick}
use Rattle.brick_store.specs.Calls.{calls_of}
use Rattle.brick_store.specs.PlainChanges.{made_by, adds_record}
use Rattle.brick_store.specs.Sizes.{body_size}
use Rattle.brick_store.proofs.Changed.{can_from}
use Rattle.brick_store.proofs.Changing.{told_as, told_refused, told_of, changes_plain, standing_plain}
use Rattle.brick_store.proofs.PlainChanges.{IsPlain, plain_seen}
use Rattle.brick_store.proofs.Stepping.{refused}
use Rattle.brick_store.proofs.stores.BrickStore.change.Given.{Over}
use Rattle.brick_store.proofs.stores.BrickStore.change.Goals.{After-ready, In_ok-ready}
use Rattle.brick_store.proofs.stores.BrickStore.change.Goals as goal

-- the record adds a live one to the index where it does to what is seen
adds_so : (g : Over) (c : After-ready g) → (let x = c.self.inside in
    c.args.adds ≡ adds_record c.args.item.now (resolved (cached x.frames.shape.block x.blocks) (state_of x.index)))
adds_so g c = c.requires.adds ∙ sym (ap (λ (b : Brick g.row.D.Denot). adds_record c.args.item.now b.state) c.self.view_is)

-- what it makes of the index
plain_so : (g : Over) (c : In_ok-ready g) → (let x = c.self.inside in
    (next : StateOf Entry) × IsPlain x.blocks x.frames (limits_of x.index) c.args.item.now (state_of x.index) next)
plain_so g c =
    let x = c.self.inside in
    plain_seen x.blocks x.frames (limits_of x.index) c.args.item.now (state_of x.index) c.args.self.now c.args.adds c.self.invariant.indexed.kept
    c.self.invariant.indexed.members c.self.view_is c.requires.can c.requires.adds c.in_ok-ready.ensures.free

pub commit-requires-clause-can : goal.commit-requires-clause-can
commit-requires-clause-can g c = can_from _ _ _ _ (plain_so g (goal.at.commit-requires-clause-can g c).In_ok-ready).1.is

pub commit-requires-clause-members : goal.commit-requires-clause-members
commit-requires-clause-members g c = (plain_so g (goal.at.commit-requires-clause-members g c).In_ok-ready).1.has

pub invariant_of-self : goal.invariant_of-self
invariant_of-self g c =
    let x = c.self.inside in
    let p = plain_so g (goal.at.invariant_of-self g c).In_ok-ready in
    let call = c.commit.ensures in
    standing_plain g.D.Disk x.blocks x.zero x.frames c.commit.new.frames x.index c.commit.new.index c.args.item.now p.0 c.commit.result c.self.invariant
    c.in_ok-ready.ensures.runs p.1.is p.1.slots (p.1.members c.self.invariant.indexed.members) call.limits call.step call.made call.not_made call.change

pub returns : goal.returns
returns g c =
    let x = c.self.inside in
    let st = state_of x.index in
    let now = state_of c.commit.new.index in
    let item = c.args.item.now in
    let size = body_size item in
    let p = plain_so g (goal.at.returns g c).In_ok-ready in
    let shown = subst (λ (b : Brick g.row.D.Denot). resolved (cached x.frames.shape.block x.blocks) p.0 ≡ made_by b.shape.block item
    (resolved (cached x.frames.shape.block x.blocks) st)) c.self.view_is p.1.shown in
    let tried = changes_plain g.D.Disk x.blocks x.zero x.frames c.commit.new.frames x.index item now p.0 size c.args.adds c.commit.result c.self.invariant
    c.in_ok-ready.ensures.runs c.in_ok-ready.ensures.free p.1.is p.1.slots c.commit.ensures.step c.commit.ensures.made c.commit.ensures.not_made
    c.commit.ensures.change in
    let both = told_of g.D.Disk x.blocks x.frames c.commit.new.frames st now p.0 c.args.self.now (made_by c.args.self.now.shape.block item)
    (adds_record item) (λ b. calls_of b size 4) size c.args.adds _ c.commit.result c.self.view_is shown
    (adds_so g (goal.at.returns g c).After-ready) refl tried in
    record { change = both.0; answer = both.1 }

pub returns-in_err-ready : goal.returns-in_err-ready
returns-in_err-ready g c =
    let x = c.self.inside in
    let item = c.args.item.now in
    let f = c.in_err-ready.field-0.0 in
    let adds = adds_so g (goal.at.returns-in_err-ready g c).After-ready in
    let told = told_refused g.D.Disk g.met.D.Disk.only_now x.blocks x.zero x.frames x.index c.args.self.now (made_by c.args.self.now.shape.block item)
    (adds_record item) (body_size item) c.args.adds (calls_of c.args.self.now (body_size item) 4) f c.self.view_is adds c.self.invariant
    c.in_err-ready.ensures.refused in
    let q = err_from_is_err_and c.from_residual.result c.from_residual.ensures.1 in
    let both = told_as g.D.Disk _ _ _ _ _ _ c.from_residual.result (refused f) (q.1 ∙ ap refused q.2) told in
    record { change = both.0; answer = both.1 }
