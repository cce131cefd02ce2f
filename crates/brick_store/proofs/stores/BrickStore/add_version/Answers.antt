-- With no block of its own a version is added as one of the newest block.
use Rattle.std.proofs.Common.{ℕ, true, Option, List, sym, subst}
use Rattle.brick_state.specs.Folds.{place}
use Rattle.brick_store.specs.Blocks.{with_version}
use Rattle.brick_store.specs.Calls.{calls_of, version_calls}
use Rattle.brick_store.specs.Sizes.{version_size}
use Rattle.brick_store.proofs.Changing.{Told}
use Rattle.brick_store.proofs.stores.BrickStore.add_version.Goals as goal

pub returns-in-None : goal.returns-in-None
returns-in-None g c =
    let d = g.D.Disk in
    let old = c.args.self.now in
    let both = subst (λ (b : Option (List ℕ)). Told d old c.add_same.new.self
    (with_version old.shape.block (place c.args.group c.args.view c.args.stripe) c.args.stamp b old.state) (version_size b) true
    (calls_of old (version_size b) (version_calls b)) c.add_same.result) (sym c.in-None.is) (c.add_same.ensures.change, c.add_same.ensures.answer) in
    record { change = both.0; answer = both.1 }

pub returns-in-Some : goal.returns-in-Some
returns-in-Some g c =
    let d = g.D.Disk in
    let old = c.args.self.now in
    let both = subst (λ (b : Option (List ℕ)). Told d old c.add_block.new.self
    (with_version old.shape.block (place c.args.group c.args.view c.args.stripe) c.args.stamp b old.state) (version_size b) true
    (calls_of old (version_size b) (version_calls b)) c.add_block.result) (sym c.in-Some.is) (c.add_block.ensures.change, c.add_block.ensures.answer) in
    record { change = both.0; answer = both.1 }
