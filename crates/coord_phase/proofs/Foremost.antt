-- What goes first of what replies tell is the machine's choice.
use Rattle.std.proofs.Common.{◌≡◌, Bool, true, false, not, cond, nat_lt, List, [], ◌∷◌, Option, Some, None, refl, ap, ◌∙◌}
use Rattle.std.specs.Prelude.{◌||◌, ◌&&◌}
use Rattle.fab_base.specs.declared.stamps.Stamp.{Stamp}
use Rattle.fab_base.specs.Stamps.{stamp_below}
use Rattle.protocol.specs.declared.phases.Counted.{Counted}
use Rattle.protocol.specs.declared.phases.Refuser.{Refuser}
use Rattle.protocol.specs.declared.phases.FullMember.{FullMember}
use Rattle.protocol.specs.declared.phases.Mover.{Mover}
use Rattle.protocol.specs.declared.phases.Dropper.{Dropper}
use Rattle.protocol.specs.Coordinators.{refuser_of, greater_refuser, greatest_refuser, full_member_of, lower_full, lowest_full, mover_of, lower_mover, lowest_mover, dropper_of, lower_dropper, lowest_dropper, greater_stamp, greatest_found}
use Rattle.coord_phase.specs.Foremost.{foremost, foremost_of, told_version, yields_refuser, yields_full, yields_mover, yields_dropper}

-- three tests one after the other, as one
one_test : {X : Type 0} (less more low : Bool) (x y : X) → cond (less || (not more && low)) x y ≡ cond less x (cond more y (cond low x y))
one_test true more low x y = refl
one_test false true low x y = refl
one_test false false low x y = refl

refuser_of_two : (a b : Option Refuser) → foremost_of yields_refuser a b ≡ greater_refuser a b
refuser_of_two None b = refl
refuser_of_two (Some a) None = refl
refuser_of_two (Some a) (Some b) = one_test (stamp_below a.stamp b.stamp) (stamp_below b.stamp a.stamp) (nat_lt b.seat a.seat) (Some b) (Some a)

full_of_two : (a b : Option FullMember) → foremost_of yields_full a b ≡ lower_full a b
full_of_two None b = refl
full_of_two (Some a) None = refl
full_of_two (Some a) (Some b) = refl

mover_of_two : (a b : Option Mover) → foremost_of yields_mover a b ≡ lower_mover a b
mover_of_two None b = refl
mover_of_two (Some a) None = refl
mover_of_two (Some a) (Some b) = refl

dropper_of_two : (a b : Option Dropper) → foremost_of yields_dropper a b ≡ lower_dropper a b
dropper_of_two None b = refl
dropper_of_two (Some a) None = refl
dropper_of_two (Some a) (Some b) = refl

stamp_of_two : (a b : Option Stamp) → foremost_of stamp_below a b ≡ greater_stamp a b
stamp_of_two None b = refl
stamp_of_two (Some a) None = refl
stamp_of_two (Some a) (Some b) = refl

-- the refuser of the greatest stamp
pub greatest_refuser_is : (counted : List Counted) → foremost refuser_of yields_refuser counted ≡ greatest_refuser counted
greatest_refuser_is [] = refl
greatest_refuser_is (c ∷ counted) =
    ap (foremost_of yields_refuser (refuser_of c)) (greatest_refuser_is counted) ∙ refuser_of_two (refuser_of c) (greatest_refuser counted)

-- the full member of the lowest seat
pub lowest_full_is : (counted : List Counted) → foremost full_member_of yields_full counted ≡ lowest_full counted
lowest_full_is [] = refl
lowest_full_is (c ∷ counted) =
    ap (foremost_of yields_full (full_member_of c)) (lowest_full_is counted) ∙ full_of_two (full_member_of c) (lowest_full counted)

-- the member of the lowest seat that told a later view
pub lowest_mover_is : (counted : List Counted) → foremost mover_of yields_mover counted ≡ lowest_mover counted
lowest_mover_is [] = refl
lowest_mover_is (c ∷ counted) =
    ap (foremost_of yields_mover (mover_of c)) (lowest_mover_is counted) ∙ mover_of_two (mover_of c) (lowest_mover counted)

-- the member of the lowest seat that dropped its versions of the view before
pub lowest_dropper_is : (counted : List Counted) → foremost dropper_of yields_dropper counted ≡ lowest_dropper counted
lowest_dropper_is [] = refl
lowest_dropper_is (c ∷ counted) =
    ap (foremost_of yields_dropper (dropper_of c)) (lowest_dropper_is counted) ∙ dropper_of_two (dropper_of c) (lowest_dropper counted)

-- the greatest version
pub greatest_found_is : (counted : List Counted) → foremost told_version stamp_below counted ≡ greatest_found counted
greatest_found_is [] = refl
greatest_found_is (c ∷ counted) =
    ap (foremost_of stamp_below (told_version c)) (greatest_found_is counted) ∙ stamp_of_two (told_version c) (greatest_found counted)
