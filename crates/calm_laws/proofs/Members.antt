-- Who counts of the members that hear the coordinator: the first quorum, or all of them where some members alone count and these are they.
use Rattle.std.proofs.Common.{Bool, List, None, Option, Some, [], ap, arith, cond, drop, false, length, map, refl, suc, sym, take, true, ℕ, ⊎_elim, inl, inr, ◌⊎◌, ◌++◌, ◌+◌, ◌∙◌, ◌∷◌, ◌≡◌, ◌≤◌, is_some, take_all, subst}
use Rattle.std.proofs.lemmas.Bool.{cases_Bool, cond_both, false≢true, or_cases}
use Rattle.std.proofs.lemmas.List.{append-nil, take-append-drop}
use Rattle.std.specs.List.{IsDistinct}
use Rattle.std.specs.Option.{option_map}
use Rattle.std.specs.Prelude.{nat_eq}
use Rattle.calm_laws.proofs.Casting.{apart_take, chosen, chosen_few, chosen_many, each_drop, each_take}
use Rattle.calm_laws.proofs.Scenes.{AreApart, Each, Seated}
use Rattle.fab_base.specs.Layouts.{Group, seat_in}
use Rattle.fab_base.specs.declared.identities.BrickId.{BrickId}
use Rattle.protocol.specs.Calms.{is_one_of, members_among}
use Rattle.protocol.specs.Coordinators.{asks_each, needed_of}
use Rattle.protocol.specs.declared.phases.Phase.{Phase}
use Rattle.quorum.specs.Quorums.{quorum_of}

-- those that a phase for each counts, the others, and those that count in such a phase beside the first quorum
abbrev pub counts_of : Option (List BrickId) → ℕ → List Seated → List Seated
counts_of None q all = take q all
counts_of (Some only) q all = all

abbrev pub rest_of : Option (List BrickId) → ℕ → List Seated → List Seated
rest_of None q all = drop q all
rest_of (Some only) q all = []

abbrev pub more_of : Option (List BrickId) → ℕ → List Seated → List Seated
more_of None q all = []
more_of (Some only) q all = drop q all

-- these are all, in their order
pub counts_rest : (only : Option (List BrickId)) (q : ℕ) (all : List Seated) → counts_of only q all ++ rest_of only q all ≡ all
counts_rest None q all = take-append-drop q all
counts_rest (Some only) q all = append-nil all

pub first_more : (only : Option (List BrickId)) (q : ℕ) (all : List Seated) → take q all ++ more_of only q all ≡ counts_of only q all
first_more None q all = append-nil (take q all)
first_more (Some only) q all = take-append-drop q all

-- what holds of all holds of each of them
pub counts_each : (P : Seated → Type 0) (only : Option (List BrickId)) (q : ℕ) (all : List Seated) → Each P all → Each P (counts_of only q all)
counts_each P None q all each = each_take P q all each
counts_each P (Some only) q all each = each

pub rest_each : (P : Seated → Type 0) (only : Option (List BrickId)) (q : ℕ) (all : List Seated) → Each P all → Each P (rest_of only q all)
rest_each P None q all each = each_drop P q all each
rest_each P (Some only) q all each = tt

pub counts_apart : (only : Option (List BrickId)) (q : ℕ) (all : List Seated) → AreApart all → AreApart (counts_of only q all)
counts_apart None q all apart = apart_take q all apart
counts_apart (Some only) q all apart = apart

-- and what holds of them all of all, where these are no more than the first quorum
pub counts_all : (P : Seated → Type 0) (only : Option (List BrickId)) (q : ℕ) (all : List Seated) → length all ≤ q → Each P (counts_of only q all) → Each P all
counts_all P None q all most each = subst (λ (l : List Seated). Each P l) (take_all q all most) each
counts_all P (Some only) q all most each = each

-- where just these members hear, they are as many as hear
pub as_many : (bricks members : List BrickId) → IsDistinct nat_eq (map (λ (b : BrickId). b.0) bricks) → IsDistinct nat_eq (map (λ (b : BrickId). b.0) members)
    → members_among members bricks ≡ length bricks → length (chosen bricks 0 members) ≡ length bricks
as_many bricks members distinct apart just =
    let least = chosen_many bricks 0 members distinct in
    let most = chosen_few bricks 0 members apart in
    omega (arith, least, most, just)

-- and no more than the members
pub few_chosen : (bricks : List BrickId) (seat : ℕ) (members : List BrickId) → length (chosen bricks seat members) ≤ length members
few_chosen bricks seat [] = omega arith
few_chosen bricks seat (member ∷ members) =
    let rest = few_chosen bricks (suc seat) members in
    cond_both (is_one_of bricks member) (record { seat = seat; brick = member } ∷ chosen bricks (suc seat) members) (chosen bricks (suc seat) members)
    (λ (l : List Seated). length l ≤ suc (length members)) (λ is. omega (arith, rest)) (λ isnt. omega (arith, rest))

-- one of these bricks has a place among them
pub has_place : (bricks : List BrickId) (brick : BrickId) → is_one_of bricks brick ≡ true → is_some (seat_in bricks brick.0) ≡ true
has_place [] brick one = absurd (false≢true one)
has_place (b ∷ bricks) brick one = ⊎_elim
    (λ (here : nat_eq b.0 brick.0 ≡ true).
    ap (λ (t : Bool). is_some (cond t (Some 0) (option_map (λ seat. seat + 1) (seat_in bricks brick.0)))) here)
    (λ (other : nat_eq b.0 brick.0 ≡ false).
    ap (λ (t : Bool). is_some (cond t (Some 0) (option_map (λ seat. seat + 1) (seat_in bricks brick.0)))) other
    ∙ later (seat_in bricks brick.0) (has_place bricks brick (there other (or_cases (nat_eq b.0 brick.0) (is_one_of bricks brick) one))))
    (cases_Bool (nat_eq b.0 brick.0))
  where
    later : (z : Option ℕ) → is_some z ≡ true → is_some (option_map (λ (seat : ℕ). seat + 1) z) ≡ true
    later None some = some
    later (Some seat) some = refl

    there : nat_eq b.0 brick.0 ≡ false → (nat_eq b.0 brick.0 ≡ true) ⊎ (is_one_of bricks brick ≡ true) → is_one_of bricks brick ≡ true
    there other (inl here) = absurd (false≢true (sym other ∙ here))
    there other (inr rest) = rest

-- a phase for each needs as many as are named
pub each_needed : (group : Group) (phase : Phase) (only : Option (List BrickId)) (named : List BrickId) → only ≡ Some named → asks_each phase ≡ true
    → needed_of group phase only ≡ length named
each_needed group phase only named is each =
    ap (λ (z : Option (List BrickId)). needed_of group phase z) is ∙ ap (λ (b : Bool). cond b (length named) (quorum_of group)) each
