-- The list that a proposal asks for may keep the group.
use Rattle.std.proofs.Common.{◌≡◌, ℕ, true, List, [], ◌∷◌, Option, Some, None}
use Rattle.std.specs.Prelude.{not, is_some}
use Rattle.std.specs.Option.{option_map}
use Rattle.std.specs.List.{list_all}
use Rattle.std.proofs.lemmas.Bool.{cond_both, and_parts}
use Rattle.fab_base.specs.declared.identities.BrickId.{BrickId}
use Rattle.fab_base.specs.declared.stamps.Ballot.{Ballot}
use Rattle.fab_base.specs.Stamps.{ballot_below}
use Rattle.messages.specs.declared.replies.Choice.{Choice}
use Rattle.messages.specs.declared.replies.Reply.{Reply}
use Rattle.messages.specs.declared.replies.Reply.TheVariants as reply
use Rattle.protocol.specs.declared.phases.Counted.{Counted}
use Rattle.synod_laws.specs.Synods.{greater_told, value_or}
use Rattle.quorum.specs.Memberships.{is_membership}
use Rattle.protocol.specs.Proposals.{Proposal, answers_ballot, may_be_choice, told_choice, greatest_choice}
use Rattle.view_synod.specs.Proposers.{IsUnderWay}

-- the list of what was told, or else the proposer's own, may keep the group
abbrev may_keep : ℕ → ℕ → List BrickId → Option (Ballot × List BrickId) → Type 0
may_keep m bricks own told = is_membership m bricks (value_or own told) ≡ true

-- so may that of the greater of two
keeps_greater : (m bricks : ℕ) (own : List BrickId) (a b : Option (Ballot × List BrickId)) → may_keep m bricks own a → may_keep m bricks own b
    → may_keep m bricks own (greater_told a b)
keeps_greater m bricks own None b first second = second
keeps_greater m bricks own (Some a) None first second = first
keeps_greater m bricks own (Some a) (Some b) first second =
    cond_both (ballot_below a.0 b.0) (Some b) (Some a) (λ (o : Option (Ballot × List BrickId)). may_keep m bricks own o) (λ lower. second) (λ isnt. first)

-- what a choice may be, its list may be
keeps_choice : (m bricks : ℕ) (own : List BrickId) (accepted : Option Choice) → is_membership m bricks own ≡ true → may_be_choice m bricks accepted ≡ true
    → may_keep m bricks own (option_map (λ (choice : Choice). (choice.ballot, choice.members)) accepted)
keeps_choice m bricks own None mine told = mine
keeps_choice m bricks own (Some choice) mine told = told

-- so may what an answering reply tells
keeps_told : (m bricks : ℕ) (own : List BrickId) (asks : Option (List BrickId)) (r : Reply) → is_membership m bricks own ≡ true
    → answers_ballot m bricks asks r ≡ true → may_keep m bricks own (told_choice r)
keeps_told m bricks own asks (reply.Found order newest) mine answers = mine
keeps_told m bricks own asks reply.Ordered mine answers = mine
keeps_told m bricks own asks (reply.OrderedRead found) mine answers = mine
keeps_told m bricks own asks reply.Stored mine answers = mine
keeps_told m bricks own asks (reply.Behind newest) mine answers = mine
keeps_told m bricks own asks (reply.Later stamp) mine answers = mine
keeps_told m bricks own asks (reply.Full live) mine answers = mine
keeps_told m bricks own asks (reply.Moved view lineage) mine answers = mine
keeps_told m bricks own asks (reply.Old found) mine answers = mine
keeps_told m bricks own asks reply.Retired mine answers = mine
keeps_told m bricks own asks (reply.Promise accepted) mine answers =
    keeps_choice m bricks own accepted mine (and_parts (not (is_some asks)) (may_be_choice m bricks accepted) answers).1
keeps_told m bricks own asks reply.Accepted mine answers = mine
keeps_told m bricks own asks (reply.Outbid ballot) mine answers = mine
keeps_told m bricks own asks reply.NotSynced mine answers = mine

-- so may the greatest that is told
keeps_greatest : (m bricks : ℕ) (own : List BrickId) (asks : Option (List BrickId)) (counted : List Counted) → is_membership m bricks own ≡ true
    → list_all (λ c. answers_ballot m bricks asks c.reply) counted ≡ true → may_keep m bricks own (greatest_choice counted)
keeps_greatest m bricks own asks [] mine answers = mine
keeps_greatest m bricks own asks (c ∷ counted) mine answers =
    let parts = and_parts (answers_ballot m bricks asks c.reply) (list_all (λ d. answers_ballot m bricks asks d.reply) counted) answers in
    keeps_greater m bricks own (told_choice c.reply) (greatest_choice counted) (keeps_told m bricks own asks c.reply mine parts.0)
    (keeps_greatest m bricks own asks counted mine parts.1)

-- the list that a proposal under way asks for may keep the group
pub chosen_may_keep : (bricks : ℕ) (p : Proposal) → IsUnderWay bricks p → is_membership p.m bricks (value_or p.own (greatest_choice p.counted)) ≡ true
chosen_may_keep bricks p is = keeps_greatest p.m bricks p.own p.asks p.counted is.own is.answers
