-- A stripe's versions in order, from stamps in any order: they rise, and are the same ones.
use Rattle.std.proofs.Common.{◌≡◌, ℕ, ◌<◌, ◌+◌, true, false, if◌then◌else◌, ◌⊎◌, inl, inr, ⊎_elim, List, [], ◌∷◌, length, get_or, Option, refl, subst, arith, zero, suc, add-one}
use Rattle.std.specs.List.{All, Contains}
use Rattle.std.proofs.lemmas.Bool.{cond_both, both_ways}
use Rattle.std.proofs.lemmas.List.Elements.{All-cons, All-nil, All-head, All-tail}
use Rattle.fab_base.specs.declared.stamps.Stamp.{Stamp}
use Rattle.fab_base.specs.Stamps.{stamp_below, first_stamp}
use Rattle.fab_base.proofs.StampOrder.{stamp_neither_below}
use Rattle.reg_model.proofs.Bases.{Ascends, IsEffective, AreEffective, added, versions_of}

-- stamps rise from a on
abbrev RiseFrom : Stamp → List Stamp → Type 0
RiseFrom a [] = Unit {0}
RiseFrom a (v ∷ versions) = (stamp_below a v ≡ true) × RiseFrom v versions

-- stamps that rise from the first on ascend
rise_each : (a : Stamp) (versions : List Stamp) → RiseFrom a versions → (k : ℕ) (d : Stamp) → k + 1 < length (a ∷ versions)
    → stamp_below (get_or (a ∷ versions) k d) (get_or (a ∷ versions) (suc k) d) ≡ true
rise_each a [] rise k d inside = absurd (omega arith)
rise_each a (v ∷ versions) rise zero d inside = rise.0
rise_each a (v ∷ versions) rise (suc k) d inside = rise_each v versions rise.1 k d (omega arith)

-- a stamp in its place among rising stamps leaves them rising
added_rises : (a t : Stamp) (versions : List Stamp) → stamp_below a t ≡ true → RiseFrom a versions → RiseFrom a (added t versions)
added_rises a t [] above rise = (above, tt)
added_rises a t (v ∷ versions) above rise =
    cond_both (stamp_below t v) (t ∷ (v ∷ versions)) (if stamp_below v t then v ∷ added t versions else v ∷ versions) (RiseFrom a)
    (λ under. (above, (under, rise.1)))
    (λ not_under. cond_both (stamp_below v t) (v ∷ added t versions) (v ∷ versions) (RiseFrom a)
    (λ over. (rise.0, added_rises v t versions over rise.1))
    (λ not_over. rise))

-- what a list has, it has with one more in front
behind : (v : Stamp) (versions : List Stamp) (x : Stamp) → Contains versions x → Contains (v ∷ versions) x
behind v versions x (k, inside, is) = (suc k, omega arith, is)

-- and what such a list has is in front, or was there before
front_or_behind : (v : Stamp) (versions : List Stamp) (x : Stamp) → Contains (v ∷ versions) x → (v ≡ x) ⊎ Contains versions x
front_or_behind v versions x (zero, inside, is) = inl is
front_or_behind v versions x (suc k, inside, is) = inr (k, omega arith, is)

-- the stamp stands there
added_has : (t : Stamp) (versions : List Stamp) → Contains (added t versions) t
added_has t [] = (0, omega arith, refl)
added_has t (v ∷ versions) =
    cond_both (stamp_below t v) (t ∷ (v ∷ versions)) (if stamp_below v t then v ∷ added t versions else v ∷ versions) (λ l. Contains l t)
    (λ under. (0, omega arith, refl))
    (λ not_under. cond_both (stamp_below v t) (v ∷ added t versions) (v ∷ versions) (λ l. Contains l t)
    (λ over. behind v (added t versions) t (added_has t versions))
    (λ not_over. (0, omega arith, stamp_neither_below v t not_over not_under)))

-- and so do the others
added_keeps : (t : Stamp) (versions : List Stamp) (x : Stamp) → Contains versions x → Contains (added t versions) x
added_keeps t [] x (k, inside, is) = absurd (omega arith)
added_keeps t (v ∷ versions) x has =
    cond_both (stamp_below t v) (t ∷ (v ∷ versions)) (if stamp_below v t then v ∷ added t versions else v ∷ versions) (λ l. Contains l x)
    (λ under. behind t (v ∷ versions) x has)
    (λ not_under. cond_both (stamp_below v t) (v ∷ added t versions) (v ∷ versions) (λ l. Contains l x)
    (λ over. ⊎_elim
    (λ (here : v ≡ x). (0, omega arith, here))
    (λ (rest : Contains versions x). behind v (added t versions) x (added_keeps t versions x rest))
    (front_or_behind v versions x has))
    (λ not_over. has))

-- and nothing else
added_all : (P : Stamp → Type 0) (t : Stamp) (versions : List Stamp) → P t → All P versions → All P (added t versions)
added_all P t [] here all = All-cons P t [] here (All-nil P)
added_all P t (v ∷ versions) here all =
    cond_both (stamp_below t v) (t ∷ (v ∷ versions)) (if stamp_below v t then v ∷ added t versions else v ∷ versions) (All P)
    (λ under. All-cons P t (v ∷ versions) here all)
    (λ not_under. cond_both (stamp_below v t) (v ∷ added t versions) (v ∷ versions) (All P)
    (λ over. All-cons P v (added t versions) (All-head P v versions all) (added_all P t versions here (All-tail P v versions all)))
    (λ not_over. all))

-- the versions rise
versions_rise : (stamps : List Stamp) → RiseFrom first_stamp (versions_of stamps)
versions_rise [] = tt
versions_rise (t ∷ stamps) =
    cond_both (stamp_below first_stamp t) (added t (versions_of stamps)) (versions_of stamps) (RiseFrom first_stamp)
    (λ above. added_rises first_stamp t (versions_of stamps) above (versions_rise stamps))
    (λ first. versions_rise stamps)

-- what holds of all stamps holds of all versions
versions_all : (P : Stamp → Type 0) (stamps : List Stamp) → All P stamps → All P (versions_of stamps)
versions_all P [] all = All-nil P
versions_all P (t ∷ stamps) all =
    cond_both (stamp_below first_stamp t) (added t (versions_of stamps)) (versions_of stamps) (All P)
    (λ above. added_all P t (versions_of stamps) (All-head P t stamps all) (versions_all P stamps (All-tail P t stamps all)))
    (λ first. versions_all P stamps (All-tail P t stamps all))

-- a stamp above the first is a version
versions_have : (stamps : List Stamp) (x : Stamp) → stamp_below first_stamp x ≡ true → Contains stamps x → Contains (versions_of stamps) x
versions_have [] x above (k, inside, is) = absurd (omega arith)
versions_have (t ∷ stamps) x above has =
    cond_both (stamp_below first_stamp t) (added t (versions_of stamps)) (versions_of stamps) (λ l. Contains l x)
    (λ over. ⊎_elim
    (λ (here : t ≡ x). subst (λ (s : Stamp). Contains (added t (versions_of stamps)) s) here (added_has t (versions_of stamps)))
    (λ (rest : Contains stamps x). added_keeps t (versions_of stamps) x (versions_have stamps x above rest))
    (front_or_behind t stamps x has))
    (λ first. ⊎_elim
    (λ (here : t ≡ x). absurd (both_ways (stamp_below first_stamp x) (subst (λ (s : Stamp). stamp_below first_stamp s ≡ false) here first) above))
    (λ (rest : Contains stamps x). versions_have stamps x above rest)
    (front_or_behind t stamps x has))

-- versions ascend
pub versions_ascend : (stamps : List Stamp) → Ascends (versions_of stamps)
versions_ascend stamps k d inside =
    rw (add-one) (rise_each first_stamp (versions_of stamps) (versions_rise stamps) k d inside)

-- where the stamps are effective versions, and all of them above the first are there, their list in order is that of the effective versions
pub versions_are_effective : (Stands : Stamp → Type 0) (base : Stamp → Option Stamp) (stamps : List Stamp)
    → All (λ t. IsEffective Stands base t) stamps
    → ((t : Stamp) → IsEffective Stands base t → stamp_below first_stamp t ≡ true → Contains stamps t)
    → AreEffective Stands base (versions_of stamps)
versions_are_effective Stands base stamps effective complete = record {
  ascend = versions_ascend stamps;
  effective = versions_all (λ t. IsEffective Stands base t) stamps effective;
  complete = λ t e above. versions_have stamps t above (complete t e above);
}
