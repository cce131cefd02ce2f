-- A scrub, question by question: who counts and how many, whom it may name, who lags, and how it ends. A group of two data blocks on bricks 0 to 3, of whom
-- three are a quorum, scrubs bricks 0, 2 and 3.
use Rattle.std.proofs.Common.{◌≡◌, ℕ, true, false, List, [], ◌∷◌, Option, Some, None, refl}
use Rattle.fab_base.specs.declared.identities.BrickId.{BrickId}
use Rattle.fab_base.specs.declared.stamps.Stamp.{Stamp}
use Rattle.fab_base.specs.declared.answers.Cause.TheVariants.{Gone}
use Rattle.fab_base.specs.Layouts.{Group}
use Rattle.fab_base.specs.Stamps.{stamp_below}
use Rattle.messages.specs.declared.replies.Reply.TheVariants.{Found}
use Rattle.protocol.specs.declared.phases.Counted.{Counted}
use Rattle.protocol.specs.declared.phases.Phase.TheVariants.{Looks, Recovers, Descends, LooksBack, Stores}
use Rattle.protocol.specs.declared.tellings.ScrubAnswer.TheVariants.{Clean, Repaired, Aborted}
use Rattle.protocol.specs.Coordinators.{needed_of, may_count_in}
use Rattle.protocol.specs.Scrubs.{names_quorum, lagging_of, scrub_answer}

abbrev brick : ℕ → BrickId
brick i = record { 0 = i }

abbrev group : Group
group = record { members = brick 0 ∷ (brick 1 ∷ (brick 2 ∷ (brick 3 ∷ []))); m = 2; stripes = 1 }

abbrev named : List BrickId
named = brick 3 ∷ (brick 0 ∷ (brick 2 ∷ []))

-- ---- whom it may name: distinct members, at least a quorum, in any order

may_name : names_quorum group named ≡ true
may_name = refl

twice : names_quorum group (brick 0 ∷ (brick 2 ∷ (brick 3 ∷ (brick 0 ∷ [])))) ≡ false
twice = refl

no_member : names_quorum group (brick 0 ∷ (brick 2 ∷ (brick 4 ∷ []))) ≡ false
no_member = refl

too_few : names_quorum group (brick 0 ∷ (brick 1 ∷ [])) ≡ false
too_few = refl

-- ---- how many replies decide a phase: all that are named where it looks, orders or stores; else a quorum of those who are asked

abbrev all_named : List BrickId
all_named = group.members

look_needs : needed_of group Looks (Some all_named) ≡ 4
look_needs = refl

order_needs : needed_of group Recovers (Some all_named) ≡ 4
order_needs = refl

descent_needs : needed_of group (Descends (record { view = record { 0 = 1 }; time = 7; brick = brick 0; boot = 1 })) (Some all_named) ≡ 3
descent_needs = refl

store_needs : needed_of group Stores (Some all_named) ≡ 4
store_needs = refl

-- an operation needs a quorum
operation_needs : needed_of group Stores None ≡ 3
operation_needs = refl

-- ---- who counts: who is named; and of the members of the view before, whoever replies

counts_named : may_count_in Looks (Some named) 2 ≡ true
counts_named = refl

leaves_out : may_count_in Looks (Some named) 1 ≡ false
leaves_out = refl

counts_elders : may_count_in (LooksBack None) (Some named) 1 ≡ true
counts_elders = refl

-- ---- who lags, by the newest version that each told

abbrev at_time : ℕ → Stamp
at_time time = record { view = record { 0 = 1 }; time = time; brick = brick 0; boot = 1 }

-- a seat's reply that tells this version, or none, and this order
abbrev tells_of : ℕ → ℕ → Option Stamp → Counted
tells_of seat order None = record { seat = seat; brick = brick seat; reply = Found (at_time order) None }
tells_of seat order (Some t) = record { seat = seat; brick = brick seat; reply = Found (at_time order) (Some (record { stamp = t; block = 5 ∷ [] })) }

-- in the order of seats, whoever replied first: one that told an earlier version, and one that told none
two_lag : lagging_of group.members (tells_of 3 0 None ∷ (tells_of 0 0 (Some (at_time 1)) ∷ (tells_of 2 0 (Some (at_time 4)) ∷ []))) ≡ brick 0 ∷ (brick 3 ∷ [])
unfolding stamp_below
two_lag = refl

-- an order above the newest version lets nobody lag
none_lags : lagging_of group.members (tells_of 3 9 (Some (at_time 4)) ∷ (tells_of 0 0 (Some (at_time 4)) ∷ [])) ≡ []
unfolding stamp_below
none_lags = refl

-- and where no version is told, nobody does
no_version : lagging_of group.members (tells_of 3 0 None ∷ (tells_of 0 0 None ∷ [])) ≡ []
no_version = refl

-- ---- how it ends

clean : scrub_answer [] None None ≡ Clean
clean = refl

repaired : scrub_answer (brick 2 ∷ []) None (Some (at_time 8)) ≡ Repaired (at_time 8) (brick 2 ∷ [])
repaired = refl

aborted : scrub_answer (brick 2 ∷ []) (Some (Gone (brick 1))) None ≡ Aborted (Gone (brick 1))
aborted = refl
