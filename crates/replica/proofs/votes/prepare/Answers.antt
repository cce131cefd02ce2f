-- A vote that promises keeps what is new of that.
use Rattle.std.proofs.Common.{Option, Some, None, List, sym, ap, ◌∙◌}
use Rattle.fab_base.specs.declared.identities.BrickId.{BrickId}
use Rattle.fab_base.specs.declared.stamps.Ballot.{Ballot}
use Rattle.brick_state.specs.States.{group_at}
use Rattle.brick_store.specs.Blocks.{accepted_of}
use Rattle.protocol.specs.Ballots.{voting}
use Rattle.view_synod.specs.Acceptors.{Acceptor, vote_of}
use Rattle.replica.specs.Parts.{ballots_in}
use Rattle.replica.proofs.Answering.{handles_refused}
use Rattle.replica.proofs.Keeping.{IsCast, vote_told, vote_kept}
use Rattle.replica.proofs.Voting.{accepted_last, granted}
use Rattle.replica.proofs.votes.prepare.Given.{Over}
use Rattle.replica.proofs.votes.prepare.Goals.{In_ok-reply}
use Rattle.replica.proofs.votes.prepare.Goals as goal

-- the vote is the one of the machine's brick
cast_so : (g : Over) (c : In_ok-reply g)
    → IsCast (voting c.args.call.view.0 c.args.learnt (ballots_in c.args.store.now.state c.args.call.group.0) c.args.ballot None)
    c.in_ok-reply.reply c.prepare-vote.new.self
cast_so g c = record {
  reply_is = c.in_ok-reply.ensures ∙ c.prepare-vote.ensures.vote
      ∙ ap (λ (a : Acceptor). (vote_of a c.args.ballot None).reply) c.acceptor_of-acceptor.ensures;
  kept_is = ap (λ (a : Acceptor). a.kept) c.prepare-vote.ensures.kept
      ∙ ap (λ (a : Acceptor). (vote_of a c.args.ballot None).kept) c.acceptor_of-acceptor.ensures;
}

pub returns-then-is_kept : goal.returns-then-is_kept
returns-then-is_kept g c =
    vote_told g.D.Disk g.met.D.Disk.only_now c.args.store.now c.requires.runs c.args.call _ c.in_ok-reply.reply c.prepare-vote.new.self
    (cast_so g (goal.at.returns-then-is_kept g c).In_ok-reply) (sym c.is_kept.ensures ∙ c.if-is_kept.true)

pub returns : goal.returns
returns g c =
    let kept = ballots_in c.args.store.now.state c.args.call.group.0 in
    vote_kept g.D.Disk g.met.D.Disk.only_now c.args.store.now c.requires.runs c.args.call _ c.in_ok-reply.reply c.prepare-vote.new.self
    (cast_so g (goal.at.returns g c).In_ok-reply) c.requires.group c.args.ballot (accepted_of (group_at c.args.store.now.state c.args.call.group.0))
    (sym c.is_kept.ensures ∙ c.if-is_kept.false)
    (λ other. granted c.args.call.view.0 c.args.learnt kept c.args.ballot None other
    ∙ ap (λ (a : Option (Ballot × List BrickId)). Some (c.args.ballot, a)) (sym (accepted_last kept)))
    c.set_ballot.new.self c.set_ballot.result c.answered.result c.answered.ensures c.set_ballot.ensures.change c.set_ballot.ensures.answer

pub returns-in_err-reply : goal.returns-in_err-reply
returns-in_err-reply g c =
    handles_refused g.D.Disk g.met.D.Disk.only_now _ c.args.store.now c.requires.runs _ c.from_residual.result c.from_residual.ensures.1
