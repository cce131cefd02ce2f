-- A change of members as a run, and what the laws say of it: a group of one data block on bricks 0, 1 and 2 of four goes over to 1, 2 and 3.
use Rattle.std.proofs.Common.{◌≡◌, ℕ, zero, suc, ◌<◌, Bool, true, false, List, [], ◌∷◌, ◌++◌, Some, refl, arith}
use Rattle.fab_base.specs.declared.identities.BrickId.{BrickId}
use Rattle.fab_base.specs.Layouts.{Layout, Group, brick_at}
use Rattle.fab_base.specs.Stamps.{stamp_below, stamp_same, ballot_below}
use Rattle.messages.specs.declared.replies.Reply.{Reply}
use Rattle.quorum.specs.Memberships.{is_membership}
use Rattle.quorum.specs.Quorums.{count}
use Rattle.synod_laws.specs.Synods.{ballot_same}
use Rattle.protocol.specs.Settings.{Setting}
use Rattle.protocol.specs.Views.{learns, views_in}
use Rattle.protocol.specs.Ballots.{voting}
use Rattle.protocol.specs.Proposals.{seat_voting, ballot_decided}
use Rattle.protocol.specs.Coordinators.{call_same}
use Rattle.protocol.specs.Replicas.{handle}
use Rattle.protocol.specs.Nodes.{node_taught, node_learnt, requested, replied, received, proposal_refusal, proposed}
use Rattle.protocol.specs.Worlds.{World, Event, Proposes, Delivers, first_world, happens, run}
use Rattle.view_laws.specs.Successors.{WasChosen, closes_in}
use Rattle.view_laws.specs.Ends.{voices_of}

-- the brick of a number
abbrev brick : ℕ → BrickId
brick i = record { 0 = i }

-- the group in view 1
abbrev group : Group
group = record { members = brick 0 ∷ (brick 1 ∷ (brick 2 ∷ [])); m = 1; stripes = 4 }

-- four bricks, and one group
abbrev layout : Layout
layout = record { block = 1; bricks = 4; records = 10; port = 0; store = 2; spares = []; groups = group ∷ []; volumes = [] }

-- one data block, of which each seat keeps a copy
abbrev setting : Setting
setting = record {
  layout = layout;
  code = record { encode = λ m content seat. content; decode = λ m pieces. []; delta = λ old new. new; modify = λ m j seat delta block. delta };
}

-- these messages are delivered, one after another
abbrev delivers : List ℕ → List Event
delivers [] = []
delivers (number ∷ numbers) = Delivers number ∷ delivers numbers

-- the list that follows view 1
abbrev members : List BrickId
members = brick 1 ∷ (brick 2 ∷ (brick 3 ∷ []))

-- brick 3 proposes; bricks 1 and 2 promise and accept; the list is decided
abbrev change : List Event
change = Proposes (brick 3) (record { 0 = 0 }) members ∷ delivers (2 ∷ (3 ∷ (4 ∷ (5 ∷ (7 ∷ (8 ∷ (9 ∷ (10 ∷ []))))))))

-- the world after events
abbrev after : List Event → World
after events = run setting events (first_world layout)

-- what has to compute
unfoldable machine : Type 0
unfolding stamp_below stamp_same ballot_below is_membership ballot_same learns voting seat_voting ballot_decided handle call_same requested node_taught node_learnt replied received proposal_refusal proposed happens count
machine = Unit {0}

-- the messages name the list as that of view 2
named : views_in layout (after change).packets 0 2 ≡ members
unfolding machine
named = refl

-- before it is decided they name none, so that the layout's stands
unnamed : views_in layout (after (Proposes (brick 3) (record { 0 = 0 }) members ∷ [])).packets 0 2 ≡ group.members
unfolding machine
unnamed = refl

-- the seats of bricks 1 and 2
seats : ℕ → Bool
seats zero = false
seats (suc zero) = true
seats (suc (suc zero)) = true
seats (suc (suc (suc k))) = false

-- two of three seats accepted it under one ballot, so it was chosen
chosen : WasChosen (after change) 0 1 group members
unfolding machine seats
chosen = record {
  ballot = record { round = 1; brick = brick 3; boot = 1 };
  seats = seats;
  many = (let two : count 3 seats ≡ 2 = refl in omega (arith, two));
  accepted = each;
}
  where
    each : (seat : ℕ) → seat < 3 → seats seat ≡ true
        → (after change).choices.votes (brick_at group seat) 0 1 (record { round = 1; brick = brick 3; boot = 1 }) ≡ Some members
    each zero below member = absurd (let never : false ≡ true = member in cc)
    each (suc zero) below member = refl
    each (suc (suc zero)) below member = refl
    each (suc (suc (suc k))) below member = absurd (let never : false ≡ true = member in cc)

-- these two have closed view 1, and brick 0 has not
closed : closes_in (after change) 0 1 1 ≡ true
unfolding machine
closed = refl

-- brick 0 has accepted nothing
still_open : closes_in (after change) 0 1 0 ≡ false
unfolding machine
still_open = refl

-- brick 0 has closed it once it has learnt view 2
closed_then : closes_in (after (change ++ delivers (11 ∷ []))) 0 1 0 ≡ true
unfolding machine
closed_then = refl

-- the acceptances of these two show the end
voices : voices_of (after change) (brick 3)
    (record { boot = 1; seq = 1; phase = 2; group = record { 0 = 0 }; view = record { 0 = 1 }; stripe = record { 0 = 0 } })
    ≡ (record { seat = 1; brick = brick 1; reply = Reply.Accepted } ∷ (record { seat = 2; brick = brick 2; reply = Reply.Accepted } ∷ []))
unfolding machine
voices = refl
