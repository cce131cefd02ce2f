-- It is the view that the store has learnt, of a group of the layout.
use Rattle.std.proofs.Common.{◌≡◌, Option, Some, sym, ◌∙◌, ap, subst}
use Rattle.std.specs.Option.{option_map}
use Rattle.fab_base.specs.declared.member_lists.View.{View}
use Rattle.fab_base.specs.Layouts.{Group, group_of}
use Rattle.replica.specs.Parts.{learnt_in}
use Rattle.node.specs.Running.{Running, state_of}
use Rattle.node.proofs.nodes.Node.learnt.Goals as goal

pub returns : goal.returns
unfolding state_of
returns g c =
    let x = c.self.inside in
    let number = c.args.group.0 in
    let found : group_of x.layout number ≡ Some c.in_ok-kept.kept.now = sym c.in_ok-kept.ensures.found in
    let view : View = (learnt_in x.layout x.store.state number).view in
    subst
    (λ (n : Running g.row.D.Denot). Some c.learnt_view.result ≡ option_map (λ (kept : Group). ((state_of n).learnt number).view) (group_of n.layout number))
    c.self.view_is
    (ap (λ (v : View). Some v) (c.learnt_view.ensures.view x.layout found) ∙ ap (λ (o : Option Group). option_map (λ (kept : Group). view) o) (sym found))
