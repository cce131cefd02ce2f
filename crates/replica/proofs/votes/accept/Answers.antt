-- A vote that accepts keeps what is new of that.
use Rattle.std.proofs.Common.{Some, sym, ap, ◌∙◌}
use Rattle.protocol.specs.Ballots.{voting}
use Rattle.view_synod.specs.Acceptors.{Acceptor, vote_of}
use Rattle.replica.specs.Parts.{ballots_in}
use Rattle.replica.proofs.Answering.{handles_refused}
use Rattle.replica.proofs.Keeping.{IsCast, vote_told, vote_kept}
use Rattle.replica.proofs.Voting.{granted}
use Rattle.replica.proofs.votes.accept.Given.{Over}
use Rattle.replica.proofs.votes.accept.Goals.{In_ok-reply}
use Rattle.replica.proofs.votes.accept.Goals as goal

-- the vote is the one of the machine's brick
cast_so : (g : Over) (c : In_ok-reply g)
    → IsCast (voting c.args.call.view.0 c.args.learnt (ballots_in c.args.store.now.state c.args.call.group.0) c.args.ballot (Some c.args.members))
    c.in_ok-reply.reply c.accept-vote.new.self
cast_so g c = record {
  reply_is = c.in_ok-reply.ensures ∙ c.accept-vote.ensures.vote
      ∙ (λ i. (vote_of (c.acceptor_of-acceptor.ensures i) c.args.ballot (Some (c.copy.ensures i))).reply);
  kept_is = ap (λ (a : Acceptor). a.kept) c.accept-vote.ensures.kept
      ∙ (λ i. (vote_of (c.acceptor_of-acceptor.ensures i) c.args.ballot (Some (c.copy.ensures i))).kept);
}

pub returns-then-is_kept : goal.returns-then-is_kept
returns-then-is_kept g c =
    vote_told g.D.Disk g.met.D.Disk.only_now c.args.store.now c.requires.runs c.args.call _ c.in_ok-reply.reply c.accept-vote.new.self
    (cast_so g (goal.at.returns-then-is_kept g c).In_ok-reply) (sym c.is_kept.ensures ∙ c.if-is_kept.true)

pub returns : goal.returns
returns g c =
    vote_kept g.D.Disk g.met.D.Disk.only_now c.args.store.now c.requires.runs c.args.call _ c.in_ok-reply.reply c.accept-vote.new.self
    (cast_so g (goal.at.returns g c).In_ok-reply) c.requires.group c.args.ballot (Some (c.args.ballot, c.args.members))
    (sym c.is_kept.ensures ∙ c.if-is_kept.false) (granted c.args.call.view.0 c.args.learnt _ c.args.ballot (Some c.args.members))
    c.accept.new.self c.accept.result c.answered.result c.answered.ensures c.accept.ensures.change c.accept.ensures.answer

pub returns-in_err-reply : goal.returns-in_err-reply
returns-in_err-reply g c =
    handles_refused g.D.Disk g.met.D.Disk.only_now _ c.args.store.now c.requires.runs _ c.from_residual.result c.from_residual.ensures.1
