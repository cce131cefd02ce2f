-- What a brick is taught is the machine's step.
use Rattle.std.proofs.Common.{false, sym, subst, ◌∙◌}
use Rattle.fab_base.specs.declared.member_lists.View.{View}
use Rattle.messages.specs.declared.packets.Message.{Message}
use Rattle.brick_state.specs.States.{viewed}
use Rattle.brick_store.specs.Calls.{append_calls, calls_of}
use Rattle.brick_store.specs.Changes.{Answers}
use Rattle.brick_store.specs.Ends.{BrickChange, end_of}
use Rattle.brick_store.specs.Sizes.{view_size}
use Rattle.replica.specs.Handling.{me_of, unanswered}
use Rattle.replica.proofs.Keeping.{view_left, view_kept}
use Rattle.replica.proofs.views.on_learn.Goals as goal

pub returns-then-not-is_to_learn : goal.returns-then-not-is_to_learn
returns-then-not-is_to_learn g c from =
    let both = view_left g.D.Disk g.met.D.Disk.only_now c.args.store.now c.requires.runs c.args.layout.now (me_of c.args.store.now) from c.args.group
    c.args.view.now (sym c.is_to_learn.ensures.teaches ∙ c.if-not-is_to_learn.true) in
    record { handles = both.handles; change = both.change }

pub returns : goal.returns
returns g c from =
    let d = g.D.Disk in
    let old = c.args.store.now in
    let new = c.learn.new.self in
    let group = c.args.group in
    let to_learn = sym c.is_to_learn.ensures.teaches ∙ c.if-not-is_to_learn.false in
    let more = c.is_to_learn.ensures.above c.if-not-is_to_learn.false in
    let change = subst (λ (v : View). BrickChange d (calls_of old (view_size v) append_calls) old (viewed group.0 v false old.state) new.disk (end_of c.learn.result))
    c.copy.ensures c.learn.ensures.change in
    let answer = subst (λ (v : View). Answers old new (viewed group.0 v false old.state) (view_size v) false c.learn.result) c.copy.ensures
    c.learn.ensures.answer in
    let both = view_kept d g.met.D.Disk.only_now old c.requires.runs c.args.layout.now (me_of old) from group c.args.view.now
    (c.is_to_learn.ensures.few c.if-not-is_to_learn.false) to_learn more new c.learn.result (unanswered c.taught.result)
    (λ reply. Message.Learn group c.args.view.now) (c.taught.ensures _) change answer in
    record { handles = both.handles; change = both.change }
