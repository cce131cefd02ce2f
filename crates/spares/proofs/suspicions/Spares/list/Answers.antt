-- What the proposal of a view is.
use Rattle.std.proofs.Common.{List, ap, ◌∙◌}
use Rattle.fab_base.specs.declared.identities.BrickId.{BrickId}
use Rattle.spares.specs.Replacements.{list_for}
use Rattle.spares.proofs.Soundness.{list_for-none, list_for-sound}
use Rattle.spares.proofs.suspicions.Spares.list.Goals as goal

pub returns-clause-none : goal.returns-clause-none
returns-clause-none c =
    list_for-none c.args.self.now c.args.by c.args.view.now.members c.proposal.result
    (c.proposal.ensures ∙ ap (λ (z : List BrickId). list_for c.args.self.now c.args.by z) c.as_slice.ensures.value)

pub returns-clause-sound : goal.returns-clause-sound
returns-clause-sound c =
    list_for-sound c.args.self.now c.args.by c.args.view.now.members c.proposal.result
    (c.proposal.ensures ∙ ap (λ (z : List BrickId). list_for c.args.self.now c.args.by z) c.as_slice.ensures.value)
