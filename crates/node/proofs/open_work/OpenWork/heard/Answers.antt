-- The time is known from then on, and the round.
use Rattle.std.proofs.Common.{ℕ, Option, sym, ◌∙◌, ap, subst}
use Rattle.protocol.specs.Proposals.{Proposal, round_heard}
use Rattle.protocol.specs.Nodes.{known_after, with_known}
use Rattle.node.specs.declared.proposals.OpenProposal.{OpenProposal}
use Rattle.node.specs.Proposals.{IsUnderWayOn, proposal_in}
use Rattle.node.specs.States.{OtherParts, parts_with, state_with}
use Rattle.node.proofs.open_work.OpenWork.heard.Goals as goal

pub returns-clause-state : goal.returns-clause-state
unfolding state_with
returns-clause-state c = λ kept.
    let work = c.args.self.now in
    let told = c.args.reply.now in
    let held = parts_with kept work.proposals in
    let rounds = c.heard-2.ensures.rounds ∙ ap (round_heard work.proposals.rounds) c.requires.reply.1 in
    let parts = λ (round : ℕ) (proposal : Option Proposal). (let p : OtherParts = record held { round = round; proposal = proposal } in p) in
    c.heard.ensures.state (parts_with kept c.heard-2.new.self)
    ∙ (λ i. with_known (state_with (parts (rounds i) (proposal_in (c.heard-2.ensures.under_way i))) work.calls) (known_after work.calls.stamps.known told))

pub returns-clause-same : goal.returns-clause-same
returns-clause-same c = λ layout.
    let same = c.heard.ensures.same layout in
    record {
      me = same.me;
      boot = same.boot;
      of = λ of. record {
        calls = same.of of.calls;
        proposing = subst (λ (held : Option OpenProposal). IsUnderWayOn layout.bricks held) (sym c.heard-2.ensures.under_way) of.proposing;
      };
    }
