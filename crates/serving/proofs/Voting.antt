-- What a proposal does with a reply: each list that it asks members to accept, and each that was decided, has a member. So has each that a member keeps by its
-- vote, or tells.
use Rattle.std.proofs.Common.{◌≡◌, ℕ, ◌<◌, ◌≤◌, true, List, [], ◌∷◌, length, Option, Some, None, refl, arith, nat_lt}
use Rattle.std.specs.Prelude.{not, is_some, if◌then◌else◌}
use Rattle.std.specs.List.{AllByRecursion}
use Rattle.std.specs.Option.{IfSome, option_map}
use Rattle.std.proofs.lemmas.Bool.{cond_both, and_from, and_parts, ltb-true, lt-ltb}
use Rattle.fab_base.specs.declared.identities.BrickId.{BrickId}
use Rattle.fab_base.specs.declared.identities.ViewNo.{ViewNo}
use Rattle.fab_base.specs.declared.member_lists.View.{View}
use Rattle.fab_base.specs.declared.stamps.Ballot.{Ballot}
use Rattle.fab_base.specs.Stamps.{ballot_below}
use Rattle.fab_base.specs.Layouts.{Layout, seat_in}
use Rattle.messages.specs.declared.calls.Call.{Call}
use Rattle.messages.specs.declared.replies.Reply.{Reply}
use Rattle.messages.specs.declared.replies.Reply.TheVariants.{Promise, Outbid, NotSynced}
use Rattle.quorum.specs.Memberships.{is_membership}
use Rattle.synod_laws.specs.Synods.{Kept, last_of, greater_told, value_or}
use Rattle.protocol.specs.declared.phases.Counted.{Counted}
use Rattle.protocol.specs.declared.tellings.ViewAnswer.{ViewAnswer}
use Rattle.protocol.specs.declared.tellings.ViewAnswer.TheVariants as answer
use Rattle.protocol.specs.Ballots.{Voted, moved_to, choice_of, outbidding, ballot_refusal, granting, unless_barred, voting}
use Rattle.protocol.specs.Coordinators.{call_same, has_seat, new_seat}
use Rattle.protocol.specs.Proposals.{Proposal, Waited, answers_ballot, voting_seat, seat_voting, with_voice, first_answer, lowest, moved_view, unsynced_brick, greatest_outbid, refused_by, told_choice, greatest_choice, goes_on, unless_voted_down, ballot_decided, ballot_quorum, voted_at, voted}
use Rattle.protocol.specs.Views.{Learnt}
use Rattle.serving.specs.Spellings.{has_some, has_whole_choice, reply_fits}
use Rattle.serving.proofs.Everywhere.{all_append}
use Rattle.serving.proofs.Fitting.{NamesSome, TellsSome, ViewFits, ProposalFits, DecidesSome, VotingFits, VoteFits}
use Rattle.serving.proofs.Lists.{names_some}

-- ---- a proposal

-- a reply that answers a ballot tells a list that has a member, if it tells one
pub answer_names : (m bricks : ℕ) (asks : Option (List BrickId)) (reply : Reply) → 1 ≤ m → answers_ballot m bricks asks reply ≡ true
    → NamesSome (told_choice reply)
answer_names m bricks asks (Promise None) some answers = tt
answer_names m bricks asks (Promise (Some choice)) some answers =
    names_some m bricks choice.members some (and_parts (not (is_some asks)) (is_membership m bricks choice.members) answers).1
answer_names m bricks asks reply some answers = tt

-- so does the one of the greatest ballot
greater_names : (first other : Option (Ballot × List BrickId)) → NamesSome first → NamesSome other → NamesSome (greater_told first other)
greater_names None other first_some other_some = other_some
greater_names (Some first) None first_some other_some = first_some
greater_names (Some first) (Some other) first_some other_some =
    cond_both (ballot_below first.0 other.0) (Some other) (Some first) NamesSome (λ below. other_some) (λ above. first_some)

greatest_names : (counted : List Counted) → AllByRecursion TellsSome counted → NamesSome (greatest_choice counted)
greatest_names [] all = tt
greatest_names (c ∷ counted) all = greater_names (told_choice c.reply) (greatest_choice counted) all.0 (greatest_names counted all.1)

-- and so the one that is asked for
asked_some : (own : List BrickId) (told : Option (Ballot × List BrickId)) → has_some own ≡ true → NamesSome told → has_some (value_or own told) ≡ true
asked_some own None some names = some
asked_some own (Some choice) some names = names

-- a refusal decides nothing
abbrev Refuses : Option ViewAnswer → Type 0
Refuses refused = IfSome refused DecidesSome

either_refuses : (first other : Option ViewAnswer) → Refuses first → Refuses other → Refuses (first_answer first other)
either_refuses None other first_does other_does = other_does
either_refuses (Some first) other first_does other_does = first_does

mapped_refuses : {X : Type 0} (f : X → ViewAnswer) → ((x : X) → DecidesSome (f x)) → (told : Option X) → Refuses (option_map f told)
mapped_refuses f each None = tt
mapped_refuses f each (Some x) = each x

refuses : (counted : List Counted) → Refuses (refused_by counted)
refuses counted =
    either_refuses _ _ (mapped_refuses (λ (told : ℕ × ViewNo). answer.Moved told.1) (λ told. tt) (lowest moved_view counted))
    (either_refuses _ _ (mapped_refuses (λ (told : ℕ × BrickId). answer.NotSynced told.1) (λ told. tt) (lowest unsynced_brick counted))
    (mapped_refuses (λ (ballot : Ballot). answer.Outbid ballot) (λ ballot. tt) (greatest_outbid counted)))

-- the seat at which a reply counts has answered the ballot
abbrev Answers : ℕ → Proposal → Reply → Option ℕ → Type 0
Answers bricks p reply seat = IfSome seat (λ k. answers_ballot p.m bricks p.asks reply ≡ true)

answering : (bricks : ℕ) (p : Proposal) (reply : Reply) (seat : Option ℕ) → Answers bricks p reply (voting_seat bricks p reply seat)
answering bricks p reply None = tt
answering bricks p reply (Some seat) =
    cond_both (answers_ballot p.m bricks p.asks reply) (Some seat) None (Answers bricks p reply) (λ answers. answers) (λ not. tt)

still_answering : (bricks : ℕ) (p : Proposal) (reply : Reply) (seat : Option ℕ) → Answers bricks p reply seat
    → Answers bricks p reply (new_seat p.counted seat)
still_answering bricks p reply None answers = tt
still_answering bricks p reply (Some seat) answers =
    cond_both (has_seat seat p.counted) None (Some seat) (Answers bricks p reply) (λ has. tt) (λ new. answers)

counting : (bricks : ℕ) (p : Proposal) (from : ℕ) (call : Call) (reply : Reply) → Answers bricks p reply (seat_voting bricks p from call reply)
unfolding seat_voting
counting bricks p from call reply =
    cond_both (call_same call p.call) (new_seat p.counted (voting_seat bricks p reply (seat_in p.view.members from))) None (Answers bricks p reply)
    (λ this. still_answering bricks p reply (voting_seat bricks p reply (seat_in p.view.members from))
    (answering bricks p reply (seat_in p.view.members from)))
    (λ other. tt)

module _ (layout : Layout) where
  -- a proposal that goes on
  goes_fits : (p : Proposal) (asks : Option (List BrickId)) → ProposalFits layout (record p { asks = asks }) → VotingFits layout (goes_on p asks)
  goes_fits p None fits =
      record {
        m = fits.m;
        view = fits.view;
        own = fits.own;
        asks = asked_some p.own (greatest_choice p.counted) fits.own (greatest_names p.counted fits.counted);
        counted = tt;
      }
  goes_fits p (Some members) fits = fits.asks

  unless_fits : (p : Proposal) (refused : Option ViewAnswer) → ProposalFits layout p → Refuses refused → VotingFits layout (unless_voted_down p refused)
  unless_fits p None fits none = goes_fits p p.asks fits
  unless_fits p (Some refused) fits some = some

  decided_fits : (p : Proposal) → ProposalFits layout p → VotingFits layout (ballot_decided p)
  unfolding ballot_decided
  decided_fits p fits = unless_fits p (refused_by p.counted) fits (refuses p.counted)

  heard_at : (p : Proposal) (from : BrickId) (reply : Reply) (seat : Option ℕ) → ProposalFits layout p → Answers layout.bricks p reply seat
      → VotingFits layout (voted_at p from reply seat)
  heard_at p from reply None fits answers = tt
  heard_at p from reply (Some seat) fits answers =
      let it : Proposal = with_voice p seat from reply in
      let now : ProposalFits layout it = record {
        m = fits.m;
        view = fits.view;
        own = fits.own;
        asks = fits.asks;
        counted = all_append TellsSome p.counted (record { seat = seat; brick = from; reply = reply } ∷ []) fits.counted
            (answer_names p.m layout.bricks p.asks reply fits.m answers, tt);
      } in
      cond_both (nat_lt (length it.counted) (ballot_quorum it)) (Waited it) (ballot_decided it) (VotingFits layout)
      (λ waits. now) (λ full. decided_fits it now)

  -- what a proposal does with a reply
  pub voted_fits : (p : Proposal) (from : BrickId) (call : Call) (reply : Reply) → ProposalFits layout p
      → VotingFits layout (voted layout.bricks p from call reply)
  voted_fits p from call reply fits =
      heard_at p from reply (seat_voting layout.bricks p from.0 call reply) fits (counting layout.bricks p from.0 call reply)

  -- ---- a member's vote

  -- a later view is told with its members, and with those before
  pub moved_fits : (view : View) → ViewFits layout view → 1 < view.number.0 → reply_fits (moved_to view) ≡ true
  moved_fits view fits later = and_from (has_some view.members) (has_some view.prior) fits.some (fits.prior (lt-ltb 1 view.number.0 later))

  choice_fits : (told : Option (Ballot × List BrickId)) → NamesSome told → has_whole_choice (option_map choice_of told) ≡ true
  choice_fits None some = refl
  choice_fits (Some told) some = some

  granted_fits : (kept : Kept (List BrickId)) (ballot : Ballot) (asks : Option (List BrickId)) → NamesSome (last_of kept)
      → IfSome asks (λ members. has_some members ≡ true) → VoteFits (granting kept ballot asks)
  granted_fits kept ballot None some asks_some = record { reply = choice_fits (last_of kept) some; kept = some }
  granted_fits kept ballot (Some members) some asks_some = record { reply = refl; kept = asks_some }

  outbid_fits : (greater : Option Ballot) → IfSome (option_map (λ ballot. Outbid ballot) greater) (λ reply. reply_fits reply ≡ true)
  outbid_fits None = tt
  outbid_fits (Some ballot) = refl

  refusal_fits : (view : ℕ) (learnt : Learnt) (kept : Kept (List BrickId)) (ballot : Ballot) → 1 ≤ view → ViewFits layout learnt.view
      → IfSome (ballot_refusal view learnt kept ballot) (λ reply. reply_fits reply ≡ true)
  refusal_fits view learnt kept ballot some fits =
      cond_both (nat_lt view learnt.view.number.0) (Some (moved_to learnt.view))
      (if learnt.synced then option_map (λ greater. Outbid greater) (outbidding kept ballot) else Some NotSynced)
      (λ (r : Option Reply). IfSome r (λ reply. reply_fits reply ≡ true))
      (λ later. moved_fits learnt.view fits (let above = ltb-true view learnt.view.number.0 later in omega (arith, some, above)))
      (λ own.
      cond_both learnt.synced (option_map (λ greater. Outbid greater) (outbidding kept ballot)) (Some NotSynced)
      (λ (r : Option Reply). IfSome r (λ reply. reply_fits reply ≡ true)) (λ synced. outbid_fits (outbidding kept ballot)) (λ not. refl))

  barred_fits : (refused : Option Reply) (kept : Kept (List BrickId)) (granted : Voted) → IfSome refused (λ reply. reply_fits reply ≡ true)
      → NamesSome (last_of kept) → VoteFits granted → VoteFits (unless_barred refused kept granted)
  barred_fits None kept granted says some fits = fits
  barred_fits (Some refused) kept granted says some fits = record { reply = says; kept = some }

  -- how a member votes on a ballot for the successor of a view
  pub vote_fits : (view : ℕ) (learnt : Learnt) (kept : Kept (List BrickId)) (ballot : Ballot) (asks : Option (List BrickId)) → 1 ≤ view
      → ViewFits layout learnt.view → NamesSome (last_of kept) → IfSome asks (λ members. has_some members ≡ true)
      → VoteFits (voting view learnt kept ballot asks)
  unfolding voting
  vote_fits view learnt kept ballot asks some fits names asks_some =
      barred_fits (ballot_refusal view learnt kept ballot) kept (granting kept ballot asks) (refusal_fits view learnt kept ballot some fits) names
      (granted_fits kept ballot asks names asks_some)
