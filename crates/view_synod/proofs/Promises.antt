-- What an acceptor keeps is true of the Synod's history, before and after it promises and accepts.
use Rattle.std.proofs.Common.{◌≡◌, false, cond, List, Option, Some, None, refl, sym, subst}
use Rattle.std.specs.Prelude.{nat_lt}
use Rattle.std.specs.Option.{option_map}
use Rattle.std.proofs.lemmas.Bool.{cond_both, false≢true}
use Rattle.fab_base.specs.declared.identities.BrickId.{BrickId}
use Rattle.fab_base.specs.declared.stamps.Ballot.{Ballot}
use Rattle.fab_base.specs.Stamps.{ballot_below}
use Rattle.synod_laws.specs.Synods.{Kept, last_of, is_promised_above}
use Rattle.synod_laws.proofs.Ballots.{ballot_below_at_most}
use Rattle.synod_laws.proofs.Acceptors.{promising, accepting}
use Rattle.messages.specs.declared.replies.Reply.{Reply}
use Rattle.messages.specs.declared.replies.Reply.TheVariants as reply
use Rattle.protocol.specs.Ballots.{moved_to, outbidding, ballot_refusal}
use Rattle.view_synod.specs.Acceptors.{Acceptor, NeverFalls, IsPromise, IsVote}

-- where no greater ballot was promised to, none is in the way
not_outbid : (kept : Kept (List BrickId)) (ballot : Ballot) → option_map (λ greater. reply.Outbid greater) (outbidding kept ballot) ≡ None
    → is_promised_above kept ballot ≡ false
not_outbid None ballot none = refl
not_outbid (Some (promised, accepted)) ballot none =
    cond_both (ballot_below ballot promised) (Some promised) None
    (λ (o : Option Ballot). option_map (λ greater. reply.Outbid greater) o ≡ None → ballot_below ballot promised ≡ false)
    (λ above e. cc)
    (λ isnt e. isnt)
    none

-- who refuses no ballot has promised to no greater one
pub not_refused : (acceptor : Acceptor) (ballot : Ballot) → ballot_refusal acceptor.of acceptor.learnt acceptor.kept ballot ≡ None
    → is_promised_above acceptor.kept ballot ≡ false
not_refused acceptor ballot =
    cond_both (nat_lt acceptor.of acceptor.learnt.view.number.0) (Some (moved_to acceptor.learnt.view))
    (cond acceptor.learnt.synced (option_map (λ greater. reply.Outbid greater) (outbidding acceptor.kept ballot)) (Some reply.NotSynced))
    (λ (o : Option Reply). o ≡ None → is_promised_above acceptor.kept ballot ≡ false)
    (λ later e. cc)
    (λ isnt.
    cond_both acceptor.learnt.synced (option_map (λ greater. reply.Outbid greater) (outbidding acceptor.kept ballot)) (Some reply.NotSynced)
    (λ (o : Option Reply). o ≡ None → is_promised_above acceptor.kept ballot ≡ false)
    (λ synced e. not_outbid acceptor.kept ballot e)
    (λ unsynced e. cc))

-- what an acceptor keeps under a ballot that it does not refuse is past what it kept
pub never_falls : (kept : Kept (List BrickId)) (ballot : Ballot) (last : Option (Ballot × List BrickId)) → is_promised_above kept ballot ≡ false
    → NeverFalls kept (Some (ballot, last))
never_falls None ballot last free lower above = absurd (false≢true above)
never_falls (Some (promised, accepted)) ballot last free lower above = ballot_below_at_most lower promised ballot above free

-- a promise is one of the Synod's
pub promise_is_true : (kept : Kept (List BrickId)) (ballot : Ballot) → is_promised_above kept ballot ≡ false
    → IsPromise kept ballot (last_of kept) (Some (ballot, last_of kept))
promise_is_true kept ballot free n q seat synod agrees keeps =
    let step = promising n q synod seat kept ballot free agrees keeps in (step.here, step.says)

-- the same, where the list accepted last is told, and kept as it was told
pub promise_told : (kept : Kept (List BrickId)) (ballot : Ballot) (told stored : Option (Ballot × List BrickId)) → is_promised_above kept ballot ≡ false
    → told ≡ last_of kept → stored ≡ told → IsPromise kept ballot told (Some (ballot, stored))
promise_told kept ballot told stored free told_is stored_is =
    subst (λ (x : Option (Ballot × List BrickId)). IsPromise kept ballot told (Some (ballot, x))) (sym stored_is)
    (subst (λ (x : Option (Ballot × List BrickId)). IsPromise kept ballot x (Some (ballot, x))) (sym told_is) (promise_is_true kept ballot free))

-- an acceptance is a vote of the Synod's
pub vote_is_true : (kept : Kept (List BrickId)) (ballot : Ballot) (members : List BrickId) → is_promised_above kept ballot ≡ false
    → IsVote kept ballot members (Some (ballot, Some (ballot, members)))
vote_is_true kept ballot members free n q seat synod agrees keeps proposed =
    let step = accepting n q synod seat kept ballot members free proposed agrees keeps in (step.here, step.agrees)
