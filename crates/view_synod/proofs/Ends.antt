-- What a proposal does has its evidence: each end, and that it asks for a list.
use Rattle.std.proofs.Common.{◌≡◌, ℕ, ◌+◌, ◌<◌, ◌≤◌, true, false, List, [], ◌∷◌, length, nat_eq, nat_lt, ◌⊎◌, inl, inr, ⊎_elim, Option, Some, None, refl, sym, ap, ◌∙◌, subst, arith}
use Rattle.std.specs.Prelude.{not, is_some}
use Rattle.std.specs.Option.{option_map}
use Rattle.std.specs.List.{list_all}
use Rattle.std.proofs.lemmas.Bool.{cond_both, and_parts, and_from, or_parts, or_from, not-true, ne_eqb, eqb-false}
use Rattle.std.proofs.lemmas.Bool.Decides.{nat_tests}
use Rattle.std.proofs.lemmas.List.{length-map}
use Rattle.fab_base.specs.declared.identities.BrickId.{BrickId}
use Rattle.fab_base.specs.declared.identities.ViewNo.{ViewNo}
use Rattle.fab_base.specs.declared.stamps.Ballot.{Ballot}
use Rattle.fab_base.specs.Stamps.{ballot_below}
use Rattle.messages.specs.declared.calls.Call.{Call}
use Rattle.messages.specs.declared.packets.Message.{Message}
use Rattle.messages.specs.declared.packets.Message.TheVariants as messages
use Rattle.messages.specs.declared.replies.Reply.{Reply}
use Rattle.messages.specs.declared.replies.Reply.TheVariants as reply
use Rattle.quorum.proofs.Counts.{seat_in, AreDistinctBelow}
use Rattle.protocol.specs.declared.phases.Counted.{Counted}
use Rattle.protocol.specs.Coordinators.{has_seat}
use Rattle.synod_laws.specs.Synods.{seats_of, value_or}
use Rattle.synod_laws.proofs.Agreement.{quorums_are_majorities}
use Rattle.synod_laws.proofs.Greatest.{safe_replies}
use Rattle.protocol.specs.declared.tellings.ViewAnswer.{ViewAnswer}
use Rattle.protocol.specs.declared.tellings.ViewAnswer.TheVariants as answer
use Rattle.view_synod.specs.declared.answers.ViewNext.{ViewNext}
use Rattle.view_synod.specs.declared.answers.ViewNext.TheVariants as next
use Rattle.protocol.specs.Proposals.{Proposal, Voting, Ignored, Waited, Asks, Ended, answers_ballot, asking, ballot_quorum, ballot_decided, first_answer, goes_on, greater_ballot, greatest_choice, greatest_outbid, lower_seat, lowest, may_be_choice, moved_view, outbid_ballot, promises, refused_by, seat_voting, told_choice, unless_voted_down, unsynced_brick, voted_at, with_voice}
use Rattle.view_synod.specs.Proposers.{ballot_messages}
use Rattle.view_synod.specs.Proposers.{Proposing, IsUnderWay, are_apart, voting_on, GoesOn, SendsPhase}
use Rattle.view_synod.specs.Evidence.{grants, IsSafeToAsk, IsPromised, IsTold, ShowsEnd, EndsBy, HasEvidence}
use Rattle.view_synod.proofs.Replies.{one_more}

-- of two things that seats told, the one of the lower seat is one of them
lower_is : {X : Type 0} (a b : Option (ℕ × X)) (t : ℕ × X) → lower_seat a b ≡ Some t → (a ≡ Some t) ⊎ (b ≡ Some t)
lower_is None b t is = inr is
lower_is (Some a) None t is = inl is
lower_is {X = X} (Some a) (Some b) t is =
    cond_both (nat_lt b.0 a.0) (Some b) (Some a) (λ (o : Option (ℕ × X)). o ≡ Some t → (Some a ≡ Some t) ⊎ (Some b ≡ Some t))
    (λ lower e. inr e) (λ isnt e. inl e) is

-- a thing that is told with its seat is told
told_alone : {X : Type 0} (seat : ℕ) (o : Option X) (t : ℕ × X) → option_map (λ x. (seat, x)) o ≡ Some t → o ≡ Some t.1
told_alone seat None t is = cc
told_alone {X = X} seat (Some x) t is = let e : (seat, x) ≡ t = cc in ap (λ (z : ℕ × X). Some z.1) e

-- what the lowest seat told is told
lowest_told : {X : Type 0} (tells : Counted → Option X) (counted : List Counted) (t : ℕ × X) → lowest tells counted ≡ Some t → IsTold tells counted t.1
lowest_told tells [] t is = cc
lowest_told tells (c ∷ counted) t is = ⊎_elim
    (λ here. inl (told_alone c.seat (tells c) t here))
    (λ there. inr (lowest_told tells counted t there))
    (lower_is (option_map (λ x. (c.seat, x)) (tells c)) (lowest tells counted) t is)

-- the greater of two ballots is one of them
greater_is : (a b : Option Ballot) (t : Ballot) → greater_ballot a b ≡ Some t → (a ≡ Some t) ⊎ (b ≡ Some t)
greater_is None b t is = inr is
greater_is (Some a) None t is = inl is
greater_is (Some a) (Some b) t is =
    cond_both (ballot_below a b) (Some b) (Some a) (λ (o : Option Ballot). o ≡ Some t → (Some a ≡ Some t) ⊎ (Some b ≡ Some t))
    (λ lower e. inr e) (λ isnt e. inl e) is

-- the greatest ballot is told
outbid_told : (counted : List Counted) (t : Ballot) → greatest_outbid counted ≡ Some t → IsTold outbid_ballot counted t
outbid_told [] t is = cc
outbid_told (c ∷ counted) t is = ⊎_elim
    (λ here. inl here)
    (λ there. inr (outbid_told counted t there))
    (greater_is (outbid_ballot c) (greatest_outbid counted) t is)

-- where nothing is told of two, neither tells
lower_none : {X : Type 0} (a b : Option (ℕ × X)) → lower_seat a b ≡ None → (a ≡ None) × (b ≡ None)
lower_none None b is = (refl, is)
lower_none (Some a) None is = cc
lower_none {X = X} (Some a) (Some b) is =
    cond_both (nat_lt b.0 a.0) (Some b) (Some a) (λ (o : Option (ℕ × X)). o ≡ None → (Some a ≡ None) × (Some b ≡ None)) (λ lower e. cc) (λ isnt e. cc) is

-- of two ballots the same
greater_none : (a b : Option Ballot) → greater_ballot a b ≡ None → (a ≡ None) × (b ≡ None)
greater_none None b is = (refl, is)
greater_none (Some a) None is = cc
greater_none (Some a) (Some b) is =
    cond_both (ballot_below a b) (Some b) (Some a) (λ (o : Option Ballot). o ≡ None → (Some a ≡ None) × (Some b ≡ None)) (λ lower e. cc) (λ isnt e. cc) is

-- where nothing is told with a seat, nothing is told
none_alone : {X : Type 0} (seat : ℕ) (o : Option X) → option_map {U = ℕ × X} (λ x. (seat, x)) o ≡ None → o ≡ None
none_alone seat None is = refl
none_alone seat (Some x) is = cc

-- a reply that answers the phase, and does not refuse, grants what the phase asks for
grants_one : (m bricks : ℕ) (asks : Option (List BrickId)) (seat : ℕ) (brick : BrickId) (r : Reply) → answers_ballot m bricks asks r ≡ true
    → moved_view (record { seat = seat; brick = brick; reply = r }) ≡ None → unsynced_brick (record { seat = seat; brick = brick; reply = r }) ≡ None
    → outbid_ballot (record { seat = seat; brick = brick; reply = r }) ≡ None → grants asks r ≡ true
grants_one m bricks asks seat brick (reply.Found order newest) answers moved unsynced outbid = cc
grants_one m bricks asks seat brick reply.Ordered answers moved unsynced outbid = cc
grants_one m bricks asks seat brick (reply.OrderedRead found) answers moved unsynced outbid = cc
grants_one m bricks asks seat brick reply.Stored answers moved unsynced outbid = cc
grants_one m bricks asks seat brick (reply.Behind newest) answers moved unsynced outbid = cc
grants_one m bricks asks seat brick (reply.Later stamp) answers moved unsynced outbid = cc
grants_one m bricks asks seat brick (reply.Full live) answers moved unsynced outbid = cc
grants_one m bricks asks seat brick (reply.Moved view lineage) answers moved unsynced outbid = cc
grants_one m bricks asks seat brick (reply.Old found) answers moved unsynced outbid = cc
grants_one m bricks asks seat brick reply.Retired answers moved unsynced outbid = cc
grants_one m bricks asks seat brick (reply.Promise accepted) answers moved unsynced outbid = (and_parts (not (is_some asks)) (may_be_choice m bricks accepted) answers).0
grants_one m bricks asks seat brick reply.Accepted answers moved unsynced outbid = answers
grants_one m bricks asks seat brick (reply.Outbid ballot) answers moved unsynced outbid = cc
grants_one m bricks asks seat brick reply.NotSynced answers moved unsynced outbid = cc

-- where no reply refuses, all grant it
all_grant : (m bricks : ℕ) (asks : Option (List BrickId)) (counted : List Counted)
    → list_all (λ c. answers_ballot m bricks asks c.reply) counted ≡ true
    → lowest moved_view counted ≡ None → lowest unsynced_brick counted ≡ None → greatest_outbid counted ≡ None
    → list_all (λ c. grants asks c.reply) counted ≡ true
all_grant m bricks asks [] answers moved unsynced outbid = refl
all_grant m bricks asks (c ∷ counted) answers moved unsynced outbid =
    let parts = and_parts (answers_ballot m bricks asks c.reply) (list_all (λ d. answers_ballot m bricks asks d.reply) counted) answers in
    let no_move = lower_none (option_map (λ x. (c.seat, x)) (moved_view c)) (lowest moved_view counted) moved in
    let no_want = lower_none (option_map (λ x. (c.seat, x)) (unsynced_brick c)) (lowest unsynced_brick counted) unsynced in
    let no_bid = greater_none (outbid_ballot c) (greatest_outbid counted) outbid in
    and_from (grants asks c.reply) (list_all (λ d. grants asks d.reply) counted)
    (grants_one m bricks asks c.seat c.brick c.reply parts.0 (none_alone c.seat (moved_view c) no_move.0)
    (none_alone c.seat (unsynced_brick c) no_want.0) no_bid.0)
    (all_grant m bricks asks counted parts.1 no_move.1 no_want.1 no_bid.1)

-- the answer of what three kinds of refusal tell
answer_of : Option (ℕ × ViewNo) → Option (ℕ × BrickId) → Option Ballot → Option ViewAnswer
answer_of a b c =
    first_answer (option_map (λ (told : ℕ × ViewNo). answer.Moved told.1) a)
    (first_answer (option_map (λ (told : ℕ × BrickId). answer.NotSynced told.1) b)
    (option_map (λ (ballot : Ballot). answer.Outbid ballot) c))

-- where there is none, nothing was told
none_refused : (a : Option (ℕ × ViewNo)) (b : Option (ℕ × BrickId)) (c : Option Ballot) → answer_of a b c ≡ None
    → (a ≡ None) × ((b ≡ None) × (c ≡ None))
unfolding answer_of
none_refused None None None is = (refl, (refl, refl))
none_refused None None (Some t) is = cc
none_refused None (Some t) c is = cc
none_refused (Some t) b c is = cc

-- where there is one, it was told
refused_told : (p : Proposal) (a : Option (ℕ × ViewNo)) (b : Option (ℕ × BrickId)) (c : Option Ballot) (ended : ViewAnswer)
    → ((t : ℕ × ViewNo) → a ≡ Some t → IsTold moved_view p.counted t.1) → ((t : ℕ × BrickId) → b ≡ Some t → IsTold unsynced_brick p.counted t.1)
    → ((t : Ballot) → c ≡ Some t → IsTold outbid_ballot p.counted t) → answer_of a b c ≡ Some ended → ShowsEnd p ended
unfolding answer_of
refused_told p None None None ended moved unsynced outbid is = cc
refused_told p None None (Some t) ended moved unsynced outbid is =
    let same : answer.Outbid t ≡ ended = cc in subst (λ (z : ViewAnswer). ShowsEnd p z) same (outbid t refl)
refused_told p None (Some t) c ended moved unsynced outbid is =
    let same : answer.NotSynced t.1 ≡ ended = cc in subst (λ (z : ViewAnswer). ShowsEnd p z) same (unsynced t refl)
refused_told p (Some t) b c ended moved unsynced outbid is =
    let same : answer.Moved t.1 ≡ ended = cc in subst (λ (z : ViewAnswer). ShowsEnd p z) same (moved t refl)

-- a proposal that asked for a list, and that no reply refuses, ends with the list accepted
asked_shown : (bricks : ℕ) (p : Proposal) → IsUnderWay bricks p → nat_lt (length p.counted) (ballot_quorum p) ≡ false → refused_by p.counted ≡ None
    → (asks : Option (List BrickId)) → p.asks ≡ asks → (call : Call) (ended : ViewAnswer) → goes_on p asks ≡ Ended call ended → ShowsEnd p ended
unfolding answer_of
asked_shown bricks p is full free None asked call ended e = cc
asked_shown bricks p is full free (Some members) asked call ended e =
    let none = none_refused (lowest moved_view p.counted) (lowest unsynced_brick p.counted) (greatest_outbid p.counted) free in
    let answers = subst (λ (o : Option (List BrickId)). list_all (λ c. answers_ballot p.m bricks o c.reply) p.counted ≡ true) asked is.answers in
    let same : answer.Decided (record { 0 = p.view.number.0 + 1 }) members ≡ ended = cc in
    subst (λ (z : ViewAnswer). ShowsEnd p z) same (
      refl,
      record {
        asked = asked;
        many = grind (arith, nat_tests, full);
        accepted = all_grant p.m bricks (Some members) p.counted answers none.0 none.1.0 none.1.1;
        seats = is.seats;
        apart = is.apart;
      },
    )

-- what a quorum decides, if it ends the proposal, the replies show
decided_shown : (bricks : ℕ) (p : Proposal) → IsUnderWay bricks p → nat_lt (length p.counted) (ballot_quorum p) ≡ false
    → (o : Option ViewAnswer) → refused_by p.counted ≡ o → (call : Call) (ended : ViewAnswer) → unless_voted_down p o ≡ Ended call ended → ShowsEnd p ended
unfolding answer_of
decided_shown bricks p is full None free call ended e = asked_shown bricks p is full free p.asks refl call ended e
decided_shown bricks p is full (Some refused) told call ended e =
    let same : refused ≡ ended = cc in
    subst (λ (z : ViewAnswer). ShowsEnd p z) same
    (refused_told p (lowest moved_view p.counted) (lowest unsynced_brick p.counted) (greatest_outbid p.counted) refused
    (lowest_told moved_view p.counted) (lowest_told unsynced_brick p.counted) (outbid_told p.counted) told)

-- the same, of what was decided
voting_shown : (x : Proposing) (p : Proposal) → IsUnderWay x.bricks p → nat_lt (length p.counted) (ballot_quorum p) ≡ false
    → (v : Voting) → ballot_decided p ≡ v → (ended : ViewAnswer) (after : Option Proposing) → GoesOn (Some x) v (next.End ended) after → ShowsEnd p ended
unfolding ballot_decided
voting_shown x p is full Ignored e ended after goes = let no : next.End ended ≡ next.Wait = goes.0 in cc
voting_shown x p is full (Waited q) e ended after goes = let no : next.End ended ≡ next.Wait = goes.0 in cc
voting_shown x p is full (Asks q) e ended after goes = absurd goes.0
voting_shown x p is full (Ended call other) e ended after goes =
    let ends : next.End ended ≡ next.End other = goes.0 in
    let same : other ≡ ended = cc in
    decided_shown x.bricks p is full (refused_by p.counted) refl call ended (e ∙ ap (λ (z : ViewAnswer). Ended call z) same)

-- the same, where the reply counts at a seat
seat_shown : (x : Proposing) → IsUnderWay x.bricks x.state → (from : BrickId) (call : Call) (reply : Reply) (o : Option ℕ)
    → seat_voting x.bricks x.state from.0 call reply ≡ o → (ended : ViewAnswer) (after : Option Proposing)
    → GoesOn (Some x) (voted_at x.state from reply o) (next.End ended) after
    → (seat : ℕ) × (seat_voting x.bricks x.state from.0 call reply ≡ Some seat) × ShowsEnd (with_voice x.state seat from reply) ended
seat_shown x is from call reply None counts ended after goes = let no : next.End ended ≡ next.Wait = goes.0 in cc
seat_shown x is from call reply (Some seat) counts ended after goes =
    let p = with_voice x.state seat from reply in (
      seat,
      counts,
      cond_both (nat_lt (length p.counted) (ballot_quorum p)) (Waited p) (ballot_decided p)
          (λ (v : Voting). GoesOn (Some x) v (next.End ended) after → ShowsEnd p ended)
          (λ few waits. let no : next.End ended ≡ next.Wait = waits.0 in cc)
          (λ full goes_on. voting_shown x p (one_more x.bricks x.state from call reply seat is counts) full (ballot_decided p) refl ended after goes_on)
          goes,
    )

-- the same, of any message
message_shown : (x : Proposing) → IsUnderWay x.bricks x.state → (from : BrickId) (message : Message) (ended : ViewAnswer) (after : Option Proposing)
    → GoesOn (Some x) (voting_on x from message) (next.End ended) after → EndsBy (Some x) from message ended
message_shown x is from (messages.Request call request) ended after goes = let no : next.End ended ≡ next.Wait = goes.0 in cc
message_shown x is from (messages.Reply call reply) ended after goes =
    seat_shown x is from call reply (seat_voting x.bricks x.state from.0 call reply) refl ended after goes
message_shown x is from (messages.Learn group view) ended after goes = let no : next.End ended ≡ next.Wait = goes.0 in cc
message_shown x is from (messages.Synced group view) ended after goes = let no : next.End ended ≡ next.Wait = goes.0 in cc
message_shown x is from (messages.Client ask) ended after goes = let no : next.End ended ≡ next.Wait = goes.0 in cc
message_shown x is from (messages.ClientReply id reply) ended after goes = let no : next.End ended ≡ next.Wait = goes.0 in cc

-- ---- what it asks for

-- a seat without a reply is not among the seats of the replies
seat_absent : (counted : List Counted) (seat : ℕ) → has_seat seat counted ≡ false → seat_in (seats_of (promises counted)) seat ≡ false
seat_absent [] seat none = refl
seat_absent (c ∷ counted) seat none =
    let nones = or_parts (nat_eq c.seat seat) (has_seat seat counted) none in
    or_from (nat_eq seat c.seat) (seat_in (seats_of (promises counted)) seat) (ne_eqb seat c.seat (λ e. eqb-false c.seat seat nones.0 (sym e)))
    (seat_absent counted seat nones.1)

-- replies of different seats of the view are as many seats
seats_distinct : (n : ℕ) (counted : List Counted) → list_all (λ c. nat_lt c.seat n) counted ≡ true → are_apart counted ≡ true
    → AreDistinctBelow n (seats_of (promises counted))
seats_distinct n [] seats apart = tt
seats_distinct n (c ∷ counted) seats apart =
    let within = and_parts (nat_lt c.seat n) (list_all (λ d. nat_lt d.seat n) counted) seats in
    let parts = and_parts (not (has_seat c.seat counted)) (are_apart counted) apart in
    let below : c.seat < n = grind (arith, nat_tests, within.0) in
    (below, seat_absent counted c.seat (not-true (has_seat c.seat counted) parts.0), seats_distinct n counted within.1 parts.1)

-- what the promises of a quorum allow is safe
promised_safe : (bricks : ℕ) (p : Proposal) → IsUnderWay bricks p → ballot_quorum p ≤ length p.counted
    → IsSafeToAsk p (value_or p.own (greatest_choice p.counted))
promised_safe bricks p is many synod free agrees says =
    safe_replies (length p.view.members) (ballot_quorum p) synod p.ballot p.own (promises p.counted)
    (quorums_are_majorities p.m (length p.view.members) is.limits) free agrees (seats_distinct (length p.view.members) p.counted is.seats is.apart)
    (omega (arith, many, length-map {B = ℕ × Option (Ballot × List BrickId)} p.counted (λ (c : Counted). (c.seat, told_choice c.reply)))) says

-- a proposal that prepared, and that no reply refuses, has its list promised
prepared_shown : (bricks : ℕ) (p q : Proposal) → IsUnderWay bricks p → nat_lt (length p.counted) (ballot_quorum p) ≡ false → refused_by p.counted ≡ None
    → (asks : Option (List BrickId)) → p.asks ≡ asks → goes_on p asks ≡ Asks q
    → (members : List BrickId) × (q ≡ asking p members) × IsPromised p members
unfolding answer_of
prepared_shown bricks p q is full free (Some members) asked e = cc
prepared_shown bricks p q is full free None asked e =
    let none = none_refused (lowest moved_view p.counted) (lowest unsynced_brick p.counted) (greatest_outbid p.counted) free in
    let answers = subst (λ (o : Option (List BrickId)). list_all (λ c. answers_ballot p.m bricks o c.reply) p.counted ≡ true) asked is.answers in
    let many : ballot_quorum p ≤ length p.counted = grind (arith, nat_tests, full) in
    let same : asking p (value_or p.own (greatest_choice p.counted)) ≡ q = cc in (
      value_or p.own (greatest_choice p.counted),
      sym same,
      record {
        prepared = asked;
        many = many;
        promised = all_grant p.m bricks None p.counted answers none.0 none.1.0 none.1.1;
        seats = is.seats;
        apart = is.apart;
        greatest = refl;
        safe = promised_safe bricks p is many;
      },
    )

-- the same, of what a quorum decides
deciding_asks : (bricks : ℕ) (p q : Proposal) → IsUnderWay bricks p → nat_lt (length p.counted) (ballot_quorum p) ≡ false
    → (o : Option ViewAnswer) → refused_by p.counted ≡ o → unless_voted_down p o ≡ Asks q
    → (members : List BrickId) × (q ≡ asking p members) × IsPromised p members
deciding_asks bricks p q is full None free e = prepared_shown bricks p q is full free p.asks refl e
deciding_asks bricks p q is full (Some refused) told e = cc

-- what a phase's request to accept shows: its list is promised
abbrev ShowsAsk : Proposal → ViewNext → Type 0
ShowsAsk p (next.Send sent) = (members : List BrickId) × (sent.items ≡ ballot_messages (asking p members)) × IsPromised p members
ShowsAsk p next.Wait = Unit {0}
ShowsAsk p (next.End ended) = Unit {0}

-- the same, with the seat of the reply that brought it
abbrev AsksIn : Proposing → BrickId → Call → Reply → ViewNext → Type 0
AsksIn x from call reply (next.Send sent) =
    (seat : ℕ) × (members : List BrickId) × (seat_voting x.bricks x.state from.0 call reply ≡ Some seat)
    × (sent.items ≡ ballot_messages (asking (with_voice x.state seat from reply) members)) × IsPromised (with_voice x.state seat from reply) members
AsksIn x from call reply next.Wait = Unit {0}
AsksIn x from call reply (next.End ended) = Unit {0}

-- what sends the messages of a proposal that asks for a promised list shows it
sends_ask : (p q : Proposal) → (members : List BrickId) × (q ≡ asking p members) × IsPromised p members → (does : ViewNext) → SendsPhase q does
    → ShowsAsk p does
sends_ask p q asks (next.Send sent) sends =
    (asks.0, subst (λ (z : Proposal). sent.items ≡ ballot_messages z) asks.1 sends, asks.2)
sends_ask p q asks next.Wait sends = tt
sends_ask p q asks (next.End ended) sends = tt

-- the same, of what was decided
voting_asks : (x : Proposing) (p : Proposal) → IsUnderWay x.bricks p → nat_lt (length p.counted) (ballot_quorum p) ≡ false
    → (v : Voting) → ballot_decided p ≡ v → (does : ViewNext) (after : Option Proposing) → GoesOn (Some x) v does after → ShowsAsk p does
unfolding ballot_decided
voting_asks x p is full Ignored e does after goes = subst (λ (z : ViewNext). ShowsAsk p z) (sym goes.0) tt
voting_asks x p is full (Waited q) e does after goes = subst (λ (z : ViewNext). ShowsAsk p z) (sym goes.0) tt
voting_asks x p is full (Asks q) e does after goes =
    sends_ask p q (deciding_asks x.bricks p q is full (refused_by p.counted) refl e) does goes.0
voting_asks x p is full (Ended call ended) e does after goes = subst (λ (z : ViewNext). ShowsAsk p z) (sym goes.0) tt

-- the same, with the seat
with_seat_shown : (x : Proposing) (from : BrickId) (call : Call) (reply : Reply) (seat : ℕ) → seat_voting x.bricks x.state from.0 call reply ≡ Some seat
    → (does : ViewNext) → ShowsAsk (with_voice x.state seat from reply) does → AsksIn x from call reply does
with_seat_shown x from call reply seat counts (next.Send sent) shown = (seat, shown.0, counts, shown.1, shown.2)
with_seat_shown x from call reply seat counts next.Wait shown = tt
with_seat_shown x from call reply seat counts (next.End ended) shown = tt

-- the same, where the reply counts at a seat
seat_asks : (x : Proposing) → IsUnderWay x.bricks x.state → (from : BrickId) (call : Call) (reply : Reply) (o : Option ℕ)
    → seat_voting x.bricks x.state from.0 call reply ≡ o → (does : ViewNext) (after : Option Proposing)
    → GoesOn (Some x) (voted_at x.state from reply o) does after → AsksIn x from call reply does
seat_asks x is from call reply None counts does after goes = subst (λ (z : ViewNext). AsksIn x from call reply z) (sym goes.0) tt
seat_asks x is from call reply (Some seat) counts does after goes =
    let p = with_voice x.state seat from reply in
    cond_both (nat_lt (length p.counted) (ballot_quorum p)) (Waited p) (ballot_decided p)
    (λ (v : Voting). GoesOn (Some x) v does after → AsksIn x from call reply does)
    (λ few waits. subst (λ (z : ViewNext). AsksIn x from call reply z) (sym waits.0) tt)
    (λ full onward. with_seat_shown x from call reply seat counts does
    (voting_asks x p (one_more x.bricks x.state from call reply seat is counts) full (ballot_decided p) refl does after onward))
    goes

-- what a proposal does with a message has its evidence
pub has_evidence : (x : Proposing) → IsUnderWay x.bricks x.state → (from : BrickId) (message : Message) (does : ViewNext) (after : Option Proposing)
    → GoesOn (Some x) (voting_on x from message) does after → HasEvidence (Some x) from message does
has_evidence x is from message next.Wait after goes = tt
has_evidence x is from message (next.End ended) after goes = message_shown x is from message ended after goes
has_evidence x is from (messages.Request call request) (next.Send sent) after goes = let no : next.Send sent ≡ next.Wait = goes.0 in cc
has_evidence x is from (messages.Reply call reply) (next.Send sent) after goes =
    seat_asks x is from call reply (seat_voting x.bricks x.state from.0 call reply) refl (next.Send sent) after goes
has_evidence x is from (messages.Learn group view) (next.Send sent) after goes = let no : next.Send sent ≡ next.Wait = goes.0 in cc
has_evidence x is from (messages.Synced group view) (next.Send sent) after goes = let no : next.Send sent ≡ next.Wait = goes.0 in cc
has_evidence x is from (messages.Client ask) (next.Send sent) after goes = let no : next.Send sent ≡ next.Wait = goes.0 in cc
has_evidence x is from (messages.ClientReply id reply) (next.Send sent) after goes = let no : next.Send sent ≡ next.Wait = goes.0 in cc
