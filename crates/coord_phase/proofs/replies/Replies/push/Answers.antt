-- The tally has the new reply's vote.
use Rattle.std.proofs.Common.{List, [], ◌∷◌, ◌++◌, sym, ◌∙◌, ap, subst}
use Rattle.protocol.specs.declared.phases.Counted.{Counted}
use Rattle.quorum.specs.Tallies.{Votes, with_vote}
use Rattle.coord_phase.specs.Tallies.{IsTallyOf}
use Rattle.coord_phase.proofs.TallyOf.{more_of}
use Rattle.coord_phase.proofs.replies.Replies.push.Goals as goal

pub invariant_of-self-2 : goal.invariant_of-self-2
invariant_of-self-2 c =
    let old = c.args.self.now in
    let reply = c.args.reply in
    let vote = c.add.ensures.vote ∙ ap (with_vote old.tally reply.seat) c.told_stamp-mark.ensures in
    record {
      tallied = subst (λ (replies : List Counted). IsTallyOf replies c.add.new.self) (sym c.in_ok-push.ensures.items)
          (subst (λ (votes : Votes). IsTallyOf (old.list.items ++ (reply ∷ [])) votes) (sym vote)
          (more_of old.list.items old.tally reply old.tallied c.requires.within c.requires.first));
    }
