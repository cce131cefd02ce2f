-- The replies that count in a phase of a proposal: what makes one count, and what they are where none refuses.
use Rattle.std.proofs.Common.{◌≡◌, ℕ, zero, suc, ◌<◌, true, false, List, [], ◌∷◌, ◌++◌, map, Option, Some, None, refl, sym, ◌∙◌, subst, nat_lt, nat_eq}
use Rattle.std.specs.Prelude.{slice_get}
use Rattle.std.specs.Option.{option_map}
use Rattle.std.specs.List.{AllByRecursion}
use Rattle.std.proofs.lemmas.Bool.{cond_both, eqb-true, eqb-false, ne_eqb, and_parts, or_parts, or_from}
use Rattle.fab_base.specs.declared.identities.BrickId.{BrickId}
use Rattle.fab_base.specs.declared.identities.ViewNo.{ViewNo}
use Rattle.fab_base.specs.declared.stamps.Ballot.{Ballot}
use Rattle.fab_base.specs.Layouts.{Layout, seat_in}
use Rattle.fab_base.specs.Stamps.{ballot_below}
use Rattle.messages.specs.declared.calls.Call.{Call}
use Rattle.messages.specs.declared.replies.Choice.{Choice}
use Rattle.messages.specs.declared.replies.Reply.{Reply}
use Rattle.messages.specs.declared.replies.Reply.TheVariants as reply
use Rattle.quorum.proofs.Counts.{seat_in as is_in, AreDistinctBelow}
use Rattle.protocol.specs.declared.phases.Counted.{Counted}
use Rattle.protocol.specs.declared.tellings.ViewAnswer.{ViewAnswer}
use Rattle.protocol.specs.declared.tellings.ViewAnswer.TheVariants as answer
use Rattle.protocol.specs.Coordinators.{call_same, has_seat, new_seat}
use Rattle.protocol.specs.Proposals.{Proposal, answers_ballot, voting_seat, seat_voting, lower_seat, lowest, moved_view, unsynced_brick, outbid_ballot, greater_ballot, greatest_outbid, first_answer, refused_by}
use Rattle.protocol.specs.Nodes.{ended_packets}

-- ---- which replies count

-- calls that test the same are equal
call_of : ℕ → ℕ → ℕ → ℕ → ℕ → ℕ → Call
call_of boot seq phase group view stripe =
    record { boot = boot; seq = seq; phase = phase; group = record { 0 = group }; view = record { 0 = view }; stripe = record { 0 = stripe } }

-- a call is made of these
call_is : (a : Call) → a ≡ call_of a.boot a.seq a.phase a.group.0 a.view.0 a.stripe.0
unfolding call_of
call_is a = refl

-- so calls with equal parts are equal
call_from : (a b : Call) → a.boot ≡ b.boot → a.seq ≡ b.seq → a.phase ≡ b.phase → a.group.0 ≡ b.group.0 → a.view.0 ≡ b.view.0 → a.stripe.0 ≡ b.stripe.0
    → a ≡ b
call_from a b boot seq phase group view stripe =
    call_is a
    ∙ (let e : call_of a.boot a.seq a.phase a.group.0 a.view.0 a.stripe.0 ≡ call_of b.boot b.seq b.phase b.group.0 b.view.0 b.stripe.0 = cc in e)
    ∙ sym (call_is b)

-- and so are those that test the same
calls_equal : (a b : Call) → call_same a b ≡ true → a ≡ b
unfolding call_same
calls_equal a b is =
    let p = and_parts (nat_eq a.boot b.boot) _ is in
    let q = and_parts (nat_eq a.seq b.seq) _ p.1 in
    let r = and_parts (nat_eq a.phase b.phase) _ q.1 in
    let s = and_parts (nat_eq a.group.0 b.group.0) _ r.1 in
    let t = and_parts (nat_eq a.view.0 b.view.0) (nat_eq a.stripe.0 b.stripe.0) s.1 in
    call_from a b (eqb-true a.boot b.boot p.0) (eqb-true a.seq b.seq q.0) (eqb-true a.phase b.phase r.0) (eqb-true a.group.0 b.group.0 s.0)
    (eqb-true a.view.0 b.view.0 t.0) (eqb-true a.stripe.0 b.stripe.0 t.1)

-- a reply that counts at a seat: it is to the phase, its sender has the seat, it answers, and it is its seat's first
pub record VoiceCounts (bricks : ℕ) (p : Proposal) (from : ℕ) (call : Call) (said : Reply) (seat : ℕ) : Type 0 where
  pub call_is : call ≡ p.call
  pub seat_is : seat_in p.view.members from ≡ Some seat
  pub answers : answers_ballot p.m bricks p.asks said ≡ true
  pub first : has_seat seat p.counted ≡ false

-- a seat that is new is the one that was given, and has no reply
new_seat_is : (counted : List Counted) (o : Option ℕ) (seat : ℕ) → new_seat counted o ≡ Some seat → (o ≡ Some seat) × (has_seat seat counted ≡ false)
new_seat_is counted None seat is = cc
new_seat_is counted (Some s) seat is =
    cond_both (has_seat s counted) None (Some s)
    (λ (z : Option ℕ). z ≡ Some seat → (Some s ≡ Some seat) × (has_seat seat counted ≡ false))
    (λ has e. cc)
    (λ isnt e. let same : s ≡ seat = cc in (e, subst (λ (z : ℕ). has_seat z counted ≡ false) same isnt))
    is

-- a seat whose reply answers is the one that was given
voting_seat_is : (bricks : ℕ) (p : Proposal) (said : Reply) (o : Option ℕ) (seat : ℕ) → voting_seat bricks p said o ≡ Some seat
    → (o ≡ Some seat) × (answers_ballot p.m bricks p.asks said ≡ true)
voting_seat_is bricks p said None seat is = cc
voting_seat_is bricks p said (Some s) seat is =
    cond_both (answers_ballot p.m bricks p.asks said) (Some s) None
    (λ (z : Option ℕ). z ≡ Some seat → (Some s ≡ Some seat) × (answers_ballot p.m bricks p.asks said ≡ true))
    (λ answers e. (e, answers))
    (λ isnt e. cc)
    is

-- what is known of a reply that counts
pub voice_counts : (bricks : ℕ) (p : Proposal) (from : ℕ) (call : Call) (said : Reply) (seat : ℕ) → seat_voting bricks p from call said ≡ Some seat
    → VoiceCounts bricks p from call said seat
unfolding seat_voting
voice_counts bricks p from call said seat =
    cond_both (call_same call p.call) (new_seat p.counted (voting_seat bricks p said (seat_in p.view.members from))) None
    (λ (z : Option ℕ). z ≡ Some seat → VoiceCounts bricks p from call said seat)
    (λ same e.
    let new = new_seat_is p.counted (voting_seat bricks p said (seat_in p.view.members from)) seat e in
    let here = voting_seat_is bricks p said (seat_in p.view.members from) seat new.0 in
    record { call_is = calls_equal call p.call same; seat_is = here.0; answers = here.1; first = new.1 })
    (λ other e. cc)

-- ---- seats

-- the seats of replies, with what they told, are those of the replies
pub has_seat_in : {A : Type 0} (tells : Counted → A) (counted : List Counted) (seat : ℕ) → has_seat seat counted ≡ false
    → is_in (map (λ (reply : ℕ × A). reply.0) (map (λ (c : Counted). (c.seat, tells c)) counted)) seat ≡ false
has_seat_in tells [] seat none = refl
has_seat_in {A = A} tells (c ∷ counted) seat none =
    let parts = or_parts (nat_eq c.seat seat) (has_seat seat counted) none in
    or_from (nat_eq seat c.seat) (is_in (map (λ (reply : ℕ × A). reply.0) (map (λ (c : Counted). (c.seat, tells c)) counted)) seat)
    (ne_eqb seat c.seat (λ same. eqb-false c.seat seat parts.0 (sym same))) (has_seat_in tells counted seat parts.1)

-- a seat that is not among others is not among them and one more
in_more : (seats : List ℕ) (first seat : ℕ) → is_in seats first ≡ false → nat_eq seat first ≡ false → is_in (seats ++ (seat ∷ [])) first ≡ false
in_more [] first seat none other = or_from (nat_eq first seat) false (ne_eqb first seat (λ same. eqb-false seat first other (sym same))) refl
in_more (next ∷ seats) first seat none other =
    let parts = or_parts (nat_eq first next) (is_in seats first) none in
    or_from (nat_eq first next) (is_in (seats ++ (seat ∷ [])) first) parts.0 (in_more seats first seat parts.1 other)

-- distinct seats stay so with one more
pub distinct_more : (n : ℕ) (seats : List ℕ) (seat : ℕ) → AreDistinctBelow n seats → seat < n → is_in seats seat ≡ false
    → AreDistinctBelow n (seats ++ (seat ∷ []))
distinct_more n [] seat distinct less none = (less, refl, tt)
distinct_more n (first ∷ seats) seat distinct less none =
    let parts = or_parts (nat_eq seat first) (is_in seats seat) none in
    (distinct.0, in_more seats first seat distinct.1 parts.0, distinct_more n seats seat distinct.2 less parts.1)

-- ---- where no reply refuses

-- the reply is no refusal
abbrev pub IsUnrefusing : Counted → Type 0
IsUnrefusing c = (moved_view c ≡ None) × (unsynced_brick c ≡ None) × (outbid_ballot c ≡ None)

-- where neither of two seats told a thing, none did
lower_none : {X : Type 0} (a b : Option (ℕ × X)) → lower_seat a b ≡ None → (a ≡ None) × (b ≡ None)
lower_none None b is = (refl, is)
lower_none (Some a) None is = cc
lower_none {X = X} (Some a) (Some b) is =
    cond_both (nat_lt b.0 a.0) (Some b) (Some a) (λ (o : Option (ℕ × X)). o ≡ None → (Some a ≡ None) × (Some b ≡ None)) (λ lower e. cc) (λ isnt e. cc) is

-- the same of two ballots
greater_none : (a b : Option Ballot) → greater_ballot a b ≡ None → (a ≡ None) × (b ≡ None)
greater_none None b is = (refl, is)
greater_none (Some a) None is = cc
greater_none (Some a) (Some b) is =
    cond_both (ballot_below a b) (Some b) (Some a) (λ (o : Option Ballot). o ≡ None → (Some a ≡ None) × (Some b ≡ None)) (λ lower e. cc) (λ isnt e. cc) is

-- where nothing is told with a seat, nothing is told
none_alone : {X : Type 0} (seat : ℕ) (o : Option X) → option_map {U = ℕ × X} (λ x. (seat, x)) o ≡ None → o ≡ None
none_alone seat None is = refl
none_alone seat (Some x) is = cc

-- how three kinds of refusal answer
unfoldable pub answer_of : Option (ℕ × ViewNo) → Option (ℕ × BrickId) → Option Ballot → Option ViewAnswer
answer_of a b c =
    first_answer (option_map (λ (told : ℕ × ViewNo). answer.Moved told.1) a)
    (first_answer (option_map (λ (told : ℕ × BrickId). answer.NotSynced told.1) b)
    (option_map (λ (ballot : Ballot). answer.Outbid ballot) c))

-- where there is no answer, there was no refusal of any kind
none_refused : (a : Option (ℕ × ViewNo)) (b : Option (ℕ × BrickId)) (c : Option Ballot) → answer_of a b c ≡ None
    → (a ≡ None) × (b ≡ None) × (c ≡ None)
unfolding answer_of
none_refused None None None is = (refl, refl, refl)
none_refused None None (Some t) is = cc
none_refused None (Some t) c is = cc
none_refused (Some t) b c is = cc

-- so no reply is a refusal
each_unrefusing : (counted : List Counted) → lowest moved_view counted ≡ None → lowest unsynced_brick counted ≡ None → greatest_outbid counted ≡ None
    → (k : ℕ) (c : Counted) → slice_get counted k ≡ Some c → IsUnrefusing c
each_unrefusing [] moved unsynced outbid k c at = absurd (let never : None ≡ Some c = at in cc)
each_unrefusing (first ∷ counted) moved unsynced outbid k c at =
    let no_move = lower_none (option_map (λ x. (first.seat, x)) (moved_view first)) (lowest moved_view counted) moved in
    let no_want = lower_none (option_map (λ x. (first.seat, x)) (unsynced_brick first)) (lowest unsynced_brick counted) unsynced in
    let no_bid = greater_none (outbid_ballot first) (greatest_outbid counted) outbid in
    by (λ j at. each_unrefusing counted no_move.1 no_want.1 no_bid.1 j c at)
    (none_alone first.seat (moved_view first) no_move.0, none_alone first.seat (unsynced_brick first) no_want.0, no_bid.0) k at
  where
    by : ((j : ℕ) → slice_get counted j ≡ Some c → IsUnrefusing c) → IsUnrefusing first → (j : ℕ) → slice_get (first ∷ counted) j ≡ Some c → IsUnrefusing c
    by later here zero at = let same : first ≡ c = cc in subst (λ (z : Counted). IsUnrefusing z) same here
    by later here (suc j) at = later j at

-- where none of the replies refuses, each is no refusal
pub unrefused : (counted : List Counted) → refused_by counted ≡ None → (k : ℕ) (c : Counted) → slice_get counted k ≡ Some c → IsUnrefusing c
unfolding answer_of
unrefused counted none =
    let parts = none_refused (lowest moved_view counted) (lowest unsynced_brick counted) (greatest_outbid counted) none in
    each_unrefusing counted parts.0 parts.1 parts.2

-- a reply that answers a phase that prepares, and is no refusal, is a promise
pub promise_of : (m bricks seat : ℕ) (brick : BrickId) (r : Reply) → answers_ballot m bricks None r ≡ true
    → IsUnrefusing (record { seat = seat; brick = brick; reply = r }) → (accepted : Option Choice) × (r ≡ reply.Promise accepted)
promise_of m bricks seat brick (reply.Promise accepted) answers unrefusing = (accepted, refl)
promise_of m bricks seat brick (reply.Moved view lineage) answers unrefusing = absurd (let never : Some view ≡ None = unrefusing.0 in cc)
promise_of m bricks seat brick (reply.Outbid ballot) answers unrefusing = absurd (let never : Some ballot ≡ None = unrefusing.2 in cc)
promise_of m bricks seat brick reply.NotSynced answers unrefusing = absurd (let never : Some brick ≡ None = unrefusing.1 in cc)
promise_of m bricks seat brick reply.Accepted answers unrefusing = cc
promise_of m bricks seat brick (reply.Found order newest) answers unrefusing = cc
promise_of m bricks seat brick reply.Ordered answers unrefusing = cc
promise_of m bricks seat brick (reply.OrderedRead found) answers unrefusing = cc
promise_of m bricks seat brick reply.Stored answers unrefusing = cc
promise_of m bricks seat brick (reply.Behind newest) answers unrefusing = cc
promise_of m bricks seat brick (reply.Later stamp) answers unrefusing = cc
promise_of m bricks seat brick (reply.Full live) answers unrefusing = cc
promise_of m bricks seat brick (reply.Old found) answers unrefusing = cc
promise_of m bricks seat brick reply.Retired answers unrefusing = cc

-- one that answers a phase that asks for a list is an acceptance
pub acceptance_of : (m bricks seat : ℕ) (brick : BrickId) (members : List BrickId) (r : Reply) → answers_ballot m bricks (Some members) r ≡ true
    → IsUnrefusing (record { seat = seat; brick = brick; reply = r }) → r ≡ reply.Accepted
acceptance_of m bricks seat brick members reply.Accepted answers unrefusing = refl
acceptance_of m bricks seat brick members (reply.Moved view lineage) answers unrefusing = absurd (let never : Some view ≡ None = unrefusing.0 in cc)
acceptance_of m bricks seat brick members (reply.Outbid ballot) answers unrefusing = absurd (let never : Some ballot ≡ None = unrefusing.2 in cc)
acceptance_of m bricks seat brick members reply.NotSynced answers unrefusing = absurd (let never : Some brick ≡ None = unrefusing.1 in cc)
acceptance_of m bricks seat brick members (reply.Promise accepted) answers unrefusing = cc
acceptance_of m bricks seat brick members (reply.Found order newest) answers unrefusing = cc
acceptance_of m bricks seat brick members reply.Ordered answers unrefusing = cc
acceptance_of m bricks seat brick members (reply.OrderedRead found) answers unrefusing = cc
acceptance_of m bricks seat brick members reply.Stored answers unrefusing = cc
acceptance_of m bricks seat brick members (reply.Behind newest) answers unrefusing = cc
acceptance_of m bricks seat brick members (reply.Later stamp) answers unrefusing = cc
acceptance_of m bricks seat brick members (reply.Full live) answers unrefusing = cc
acceptance_of m bricks seat brick members (reply.Old found) answers unrefusing = cc
acceptance_of m bricks seat brick members reply.Retired answers unrefusing = cc

-- ---- where one refuses

-- an end by a refusal sends nothing
refusal_sends_none : (layout : Layout) (me : BrickId) (p : Proposal) (a : Option (ℕ × ViewNo)) (b : Option (ℕ × BrickId)) (c : Option Ballot) (refused : ViewAnswer)
    → answer_of a b c ≡ Some refused → ended_packets layout me p refused ≡ []
unfolding answer_of
refusal_sends_none layout me p None None None refused is = cc
refusal_sends_none layout me p None None (Some t) refused is =
    let same : answer.Outbid t ≡ refused = cc in subst (λ (z : ViewAnswer). ended_packets layout me p z ≡ []) same refl
refusal_sends_none layout me p None (Some t) c refused is =
    let same : answer.NotSynced t.1 ≡ refused = cc in subst (λ (z : ViewAnswer). ended_packets layout me p z ≡ []) same refl
refusal_sends_none layout me p (Some t) b c refused is =
    let same : answer.Moved t.1 ≡ refused = cc in subst (λ (z : ViewAnswer). ended_packets layout me p z ≡ []) same refl

-- a proposal that is refused sends nothing
pub refused_sends_none : (layout : Layout) (me : BrickId) (p : Proposal) (counted : List Counted) (refused : ViewAnswer) → refused_by counted ≡ Some refused
    → ended_packets layout me p refused ≡ []
unfolding answer_of
refused_sends_none layout me p counted refused is =
    refusal_sends_none layout me p (lowest moved_view counted) (lowest unsynced_brick counted) (greatest_outbid counted) refused is

-- ---- lists

-- what holds of each element holds of all
pub of_each : {A : Type 0} (P : A → Type 0) (xs : List A) → ((k : ℕ) (x : A) → slice_get xs k ≡ Some x → P x) → AllByRecursion P xs
of_each P [] each = tt
of_each P (x ∷ xs) each = (each 0 x refl, of_each P xs (λ k y at. each (suc k) y at))
