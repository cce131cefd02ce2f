-- The proposal begins in the brick's next call.
use Rattle.std.proofs.Common.{◌≡◌, ◌+◌, Bool, if◌then◌else◌, Some, refl, sym, ◌∙◌, ap, subst}
use Rattle.fab_base.specs.declared.identities.BrickId.{BrickId}
use Rattle.quorum.specs.Memberships.{is_membership}
use Rattle.stripe_code.specs.Codes.{coding}
use Rattle.protocol.specs.Nodes.{Node, proposed_in}
use Rattle.node.specs.Proposals.{ProposesAs}
use Rattle.node.specs.States.{parts_with, state_in, state_with}
use Rattle.node.proofs.open_work.OpenWork.propose.Goals as goal

pub returns-clause-step : goal.returns-clause-step
unfolding state_with
returns-clause-step c = λ parts view.
    let work = c.args.self.now in
    let node : Node = state_in parts work in
    let layout = c.args.layout.now in
    let kept = c.args.kept.now in
    let members = c.args.members.now in
    let began = is_membership kept.m layout.bricks members in
    let after = c.propose.new.self in
    let goes : ProposesAs work.calls.me node (proposed_in (coding layout) work.calls.me node c.args.group members (Some kept)) began c.in_ok-outs.outs after =
    subst (λ (me : BrickId). ProposesAs me node (proposed_in (coding layout) me node c.args.group members (Some kept)) began c.in_ok-outs.outs after) c.me-me.ensures
    (c.in_ok-outs.ensures.proposes node refl refl view (sym (c.next_call-call.ensures (parts_with parts work.proposals)))) in
    let made : c.is_membership-begins.result ≡ began =
    c.is_membership-begins.ensures ∙ (λ i. is_membership (c.m.ensures i) (c.bricks.ensures.value i) members) in
    let made_now : Node = state_with (parts_with parts after) work.calls in
    record {
      packets = goes.packets;
      told = goes.told;
      answers = goes.answers;
      reports = goes.reports;
      state_is = c.made_call.ensures.state (parts_with parts after)
          ∙ ap (λ (b : Bool). record made_now { seq = if b then work.calls.seq + 1 else work.calls.seq }) made
          ∙ sym goes.node_is;
    }

pub returns-clause-same : goal.returns-clause-same
returns-clause-same c =
    let same = c.made_call.ensures.same c.args.layout.now in
    record { me = same.me; boot = same.boot; of = λ of. record { calls = same.of of.calls; proposing = c.propose.ensures.of of.proposing } }
