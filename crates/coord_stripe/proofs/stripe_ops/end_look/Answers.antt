-- What all replies tell is decoded from the blocks that they tell.
use Rattle.std.proofs.Common.{◌≡◌, ℕ, true, List, Some, None, ap, ◌∙◌}
use Rattle.fab_base.specs.declared.answers.Answer.TheVariants.{Data}
use Rattle.protocol.specs.Coordinators.{Ends, all_tell, fast_version, answered_fast, pieces_of}
use Rattle.stripe_code.specs.Codes.{block_code, decoded}
use Rattle.coord_phase.proofs.FastReads.{all_pieces, enough_pieces}
use Rattle.coord_stripe.proofs.stripe_ops.end_look.Goals as goal

pub content_of-requires-clause-enough : goal.content_of-requires-clause-enough
content_of-requires-clause-enough c =
    enough_pieces _ _ _ c.requires.enough c.in-Some.ensures.all

pub returns-clause-next : goal.returns-clause-next
returns-clause-next c =
    let op = c.args.op.now in
    let version = c.in-Some.version in
    let told : all_tell version op.state.counted ≡ true = c.in-Some.ensures.all in
    let fast : Some version ≡ fast_version op.state.counted = c.in-Some.ensures.value in
    let content : c.in_ok-content.content ≡ decoded op.state.group.m op.block (pieces_of op.state.counted) =
    c.in_ok-content.ensures.value ∙ ap (decoded op.state.group.m op.block) (all_pieces version op.state.counted told) in
    c.end_look.ensures.next
    ∙ ap (λ (z : List ℕ). Ends (Data z) (Some version) None) content
    ∙ ap (answered_fast (block_code op.block) op.state) fast
