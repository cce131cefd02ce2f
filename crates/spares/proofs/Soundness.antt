-- What a list of replaced members keeps, whatever is suspected.
use Rattle.std.proofs.Common.{◌≡◌, ◌≢◌, ℕ, zero, suc, ◌+◌, ◌-◌, ◌<◌, ◌≤◌, Bool, true, false, not, ◌&&◌, ◌||◌, cond, List, [], ◌∷◌, length, map, Option, Some, None, refl, sym, ap, ◌∙◌, subst, arith}
use Rattle.std.specs.Prelude.{IsNone, IfSome, filter, nat_eq, slice_get}
use Rattle.std.specs.List.{IsDistinct, AllByRecursion}
use Rattle.std.proofs.lemmas.Bool.{cond_both, and_parts, not-true, eqb-true, eq-eqb}
use Rattle.std.proofs.lemmas.Bool.Decides.{nat_tests}
use Rattle.fab_base.specs.declared.identities.BrickId.{BrickId}
use Rattle.quorum.specs.Memberships.{stands_in}
use Rattle.spares.specs.Suspicions.{Suspicions, is_spare, suspects}
use Rattle.spares.specs.Replacements.{AreBricks, IsReplacement, is_left, bricks_from, left_from, with_spares, replaced, are_same, list_for}

-- a number is that of none of these bricks
abbrev Avoids : List BrickId → ℕ → Type 0
Avoids bricks n = AllByRecursion (λ (b : BrickId). nat_eq n b.0 ≡ false) bricks

-- what follows from a fact of each brick holds of each
each : (P Q : BrickId → Type 0) (xs : List BrickId) → ((b : BrickId) → P b → Q b) → AllByRecursion P xs → AllByRecursion Q xs
each P Q [] then all = tt
each P Q (b ∷ xs) then all = (then b all.0, each P Q xs then all.1)

-- a fact of each number, and of each brick by its number
to_numbers : (P : ℕ → Type 0) (xs : List BrickId) → AllByRecursion (λ (b : BrickId). P b.0) xs → AllByRecursion P (map (λ b. b.0) xs)
to_numbers P [] all = tt
to_numbers P (b ∷ xs) all = (all.0, to_numbers P xs all.1)

of_numbers : (P : ℕ → Type 0) (xs : List BrickId) → AllByRecursion P (map (λ b. b.0) xs) → AllByRecursion (λ (b : BrickId). P b.0) xs
of_numbers P [] all = tt
of_numbers P (b ∷ xs) all = (all.0, of_numbers P xs all.1)

-- two numbers that differ do so in either order
flip : (a b : ℕ) → nat_eq a b ≡ false → nat_eq b a ≡ false
flip a b other = grind (arith, nat_tests)

-- a lesser number is another
below_other : (a b : ℕ) → a < b → nat_eq a b ≡ false
below_other a b less = grind (arith, nat_tests)

-- what holds of each brick holds of those that pass a test
all-filter : (P : BrickId → Type 0) (test : BrickId → Bool) (xs : List BrickId) → AllByRecursion P xs → AllByRecursion P (filter test xs)
all-filter P test [] all = tt
all-filter P test (b ∷ xs) all =
    cond_both (test b) (b ∷ filter test xs) (filter test xs) (λ (z : List BrickId). AllByRecursion P z)
    (λ is. (all.0, all-filter P test xs all.1))
    (λ is. all-filter P test xs all.1)

-- each brick that passes a test passes it
passed : (test : BrickId → Bool) (xs : List BrickId) → AllByRecursion (λ (b : BrickId). test b ≡ true) (filter test xs)
passed test [] = tt
passed test (b ∷ xs) =
    cond_both (test b) (b ∷ filter test xs) (filter test xs) (λ (z : List BrickId). AllByRecursion (λ (b : BrickId). test b ≡ true) z)
    (λ is. (is, passed test xs))
    (λ is. passed test xs)

-- the bricks from one on are not below it, and below the end
from-above : (low first n : ℕ) → low ≤ first → AllByRecursion (λ (b : BrickId). low ≤ b.0) (bricks_from first n)
from-above low first zero above = tt
from-above low first (suc n) above = (above, from-above low (first + 1) n (omega arith))

from-below : (end first n : ℕ) → first + n ≤ end → AllByRecursion (λ (b : BrickId). b.0 < end) (bricks_from first n)
from-below end first zero below = tt
from-below end first (suc n) below = (omega arith, from-below end (first + 1) n (omega arith))

-- of the bricks from one on, those that pass a test are distinct
from-distinct : (test : BrickId → Bool) (first n : ℕ) → IsDistinct nat_eq (map (λ b. b.0) (filter test (bricks_from first n)))
unfolding IsDistinct
from-distinct test first zero = tt
from-distinct test first (suc n) =
    let first_brick : BrickId = record { 0 = first } in
    let rest : List BrickId = bricks_from (first + 1) n in
    cond_both (test first_brick) (first_brick ∷ filter test rest) (filter test rest) (λ (z : List BrickId). IsDistinct nat_eq (map (λ b. b.0) z))
    (λ is. (
      to_numbers (λ y. nat_eq first y ≡ false) (filter test rest)
          (all-filter (λ (b : BrickId). nat_eq first b.0 ≡ false) test rest
          (each (λ (b : BrickId). first + 1 ≤ b.0) (λ (b : BrickId). nat_eq first b.0 ≡ false) rest (λ b above. below_other first b.0 (omega arith))
          (from-above (first + 1) (first + 1) n (omega arith)))),
      from-distinct test (first + 1) n,
    ))
    (λ is. from-distinct test (first + 1) n)

-- where neither of two tests passes
neither : (a b : Bool) → (a || b) ≡ false → (a ≡ false) × (b ≡ false)
neither true b e = cc
neither false b e = (refl, e)

-- no member is one of the bricks that do not stand among the members
apart : (left members : List BrickId) → AllByRecursion (λ (b : BrickId). stands_in members b ≡ false) left
    → AllByRecursion (λ (m : BrickId). Avoids left m.0) members
apart left [] none = tt
apart left (member ∷ members) none = (
  each (λ (b : BrickId). stands_in (member ∷ members) b ≡ false) (λ (b : BrickId). nat_eq member.0 b.0 ≡ false) left
      (λ b not_in. flip b.0 member.0 (neither (nat_eq b.0 member.0) (stands_in members b) not_in).0) none,
  apart left members
      (each (λ (b : BrickId). stands_in (member ∷ members) b ≡ false) (λ (b : BrickId). stands_in members b ≡ false) left
      (λ b not_in. (neither (nat_eq b.0 member.0) (stands_in members b) not_in).1) none),
)

-- what holds of each brick that is left and of each member holds of each that stands in the list
with_spares-all : (P : BrickId → Type 0) (suspected : BrickId → Bool) (left members : List BrickId) → AllByRecursion P left
    → AllByRecursion P members → AllByRecursion P (with_spares suspected left members)
unfolding with_spares
with_spares-all P suspected left [] all each_member = tt
with_spares-all P suspected [] (member ∷ members) all each_member = each_member
with_spares-all P suspected (spare ∷ left) (member ∷ members) all each_member =
    cond_both (suspected member) (spare ∷ with_spares suspected left members) (member ∷ with_spares suspected (spare ∷ left) members)
    (λ (z : List BrickId). AllByRecursion P z)
    (λ is. (all.0, with_spares-all P suspected left members all.1 each_member.1))
    (λ is. (each_member.0, with_spares-all P suspected (spare ∷ left) members all each_member.1))

-- the list is as long as the members
with_spares-length : (suspected : BrickId → Bool) (left members : List BrickId) → length (with_spares suspected left members) ≡ length members
unfolding with_spares
with_spares-length suspected left [] = refl
with_spares-length suspected [] (member ∷ members) = refl
with_spares-length suspected (spare ∷ left) (member ∷ members) =
    cond_both (suspected member) (spare ∷ with_spares suspected left members) (member ∷ with_spares suspected (spare ∷ left) members)
    (λ (z : List BrickId). length z ≡ length (member ∷ members))
    (λ is. ap suc (with_spares-length suspected left members))
    (λ is. ap suc (with_spares-length suspected (spare ∷ left) members))

-- the list is of distinct bricks, where those that are left are distinct, and no members
with_spares-distinct : (suspected : BrickId → Bool) (left members : List BrickId) → IsDistinct nat_eq (map (λ b. b.0) left)
    → IsDistinct nat_eq (map (λ b. b.0) members) → AllByRecursion (λ (m : BrickId). Avoids left m.0) members
    → IsDistinct nat_eq (map (λ b. b.0) (with_spares suspected left members))
unfolding with_spares IsDistinct
with_spares-distinct suspected left [] of_left of_members others = tt
with_spares-distinct suspected [] (member ∷ members) of_left of_members others = of_members
with_spares-distinct suspected (spare ∷ left) (member ∷ members) of_left of_members others =
    cond_both (suspected member) (spare ∷ with_spares suspected left members) (member ∷ with_spares suspected (spare ∷ left) members)
    (λ (z : List BrickId). IsDistinct nat_eq (map (λ b. b.0) z))
    (λ is. (
      to_numbers (λ y. nat_eq spare.0 y ≡ false) (with_spares suspected left members)
          (with_spares-all (λ (b : BrickId). nat_eq spare.0 b.0 ≡ false) suspected left members
          (of_numbers (λ y. nat_eq spare.0 y ≡ false) left of_left.0)
          (each (λ (m : BrickId). Avoids (spare ∷ left) m.0) (λ (m : BrickId). nat_eq spare.0 m.0 ≡ false) members
          (λ m avoids. flip m.0 spare.0 avoids.0) others.1)),
      with_spares-distinct suspected left members of_left.1 of_members.1
          (each (λ (m : BrickId). Avoids (spare ∷ left) m.0) (λ (m : BrickId). Avoids left m.0) members (λ m avoids. avoids.1) others.1),
    ))
    (λ is. (
      to_numbers (λ y. nat_eq member.0 y ≡ false) (with_spares suspected (spare ∷ left) members)
          (with_spares-all (λ (b : BrickId). nat_eq member.0 b.0 ≡ false) suspected (spare ∷ left) members others.0
          (of_numbers (λ y. nat_eq member.0 y ≡ false) members of_members.0)),
      with_spares-distinct suspected (spare ∷ left) members of_left of_members.1 others.1,
    ))

-- a member that is not suspected keeps its seat
with_spares-keeps : (suspected : BrickId → Bool) (left members : List BrickId) (seat : ℕ) (member : BrickId)
    → slice_get members seat ≡ Some member → suspected member ≡ false → slice_get (with_spares suspected left members) seat ≡ Some member
unfolding with_spares
with_spares-keeps suspected left [] seat member at trusted = cc
with_spares-keeps suspected [] (first ∷ members) seat member at trusted = at
with_spares-keeps suspected (spare ∷ left) (first ∷ members) zero member at trusted =
    let same : first ≡ member = cc in
    let kept : suspected first ≡ false = ap suspected same ∙ trusted in
    ap
    (λ (t : Bool). slice_get (cond t (spare ∷ with_spares suspected left members) (first ∷ with_spares suspected (spare ∷ left) members)) zero)
    kept
    ∙ at
with_spares-keeps suspected (spare ∷ left) (first ∷ members) (suc seat) member at trusted =
    cond_both (suspected first) (spare ∷ with_spares suspected left members) (first ∷ with_spares suspected (spare ∷ left) members)
    (λ (z : List BrickId). slice_get z (suc seat) ≡ Some member)
    (λ is. with_spares-keeps suspected left members seat member at trusted)
    (λ is. with_spares-keeps suspected (spare ∷ left) members seat member at trusted)

-- a brick that was put in another's seat is not suspected, where none that is left is
with_spares-trusts : (suspected : BrickId → Bool) (left members : List BrickId) → AllByRecursion (λ (b : BrickId). suspected b ≡ false) left
    → (seat : ℕ) (member spare : BrickId) → slice_get members seat ≡ Some member
    → slice_get (with_spares suspected left members) seat ≡ Some spare → spare ≢ member → suspected spare ≡ false
unfolding with_spares
with_spares-trusts suspected left [] all seat member spare at now other = cc
with_spares-trusts suspected [] (first ∷ members) all seat member spare at now other =
    let same : spare ≡ member = cc in
    absurd (other same)
with_spares-trusts suspected (next ∷ left) (first ∷ members) all zero member spare at now other =
    cond_both (suspected first) (next ∷ with_spares suspected left members) (first ∷ with_spares suspected (next ∷ left) members)
    (λ (z : List BrickId). slice_get z zero ≡ Some spare → suspected spare ≡ false)
    (λ is e. let same : next ≡ spare = cc in subst (λ (z : BrickId). suspected z ≡ false) same all.0)
    (λ is e. let same : spare ≡ member = cc in absurd (other same))
    now
with_spares-trusts suspected (next ∷ left) (first ∷ members) all (suc seat) member spare at now other =
    cond_both (suspected first) (next ∷ with_spares suspected left members) (first ∷ with_spares suspected (next ∷ left) members)
    (λ (z : List BrickId). slice_get z (suc seat) ≡ Some spare → suspected spare ≡ false)
    (λ is e. with_spares-trusts suspected left members all.1 seat member spare at e other)
    (λ is e. with_spares-trusts suspected (next ∷ left) members all seat member spare at e other)
    now

-- what a brick that is left is
record IsLeft (s : Suspicions) (by : BrickId) (members : List BrickId) (brick : BrickId) : Type 0 where
  trusted : suspects s by brick ≡ false
  no_member : stands_in members brick ≡ false

left_means : (s : Suspicions) (by : BrickId) (members : List BrickId) (brick : BrickId) → is_left s by members brick ≡ true
    → IsLeft s by members brick
left_means s by members brick is =
    let parts = and_parts (is_spare s brick && not (suspects s by brick)) (not (stands_in members brick)) is in
    let first = and_parts (is_spare s brick) (not (suspects s by brick)) parts.0 in
    record { trusted = not-true (suspects s by brick) first.1; no_member = not-true (stands_in members brick) parts.1 }

-- each brick that is left is so
all_left : (s : Suspicions) (by : BrickId) (members : List BrickId) → AllByRecursion (IsLeft s by members) (left_from s by members 0)
unfolding left_from
all_left s by members =
    each (λ (b : BrickId). is_left s by members b ≡ true) (IsLeft s by members) (left_from s by members 0) (λ b is. left_means s by members b is)
    (passed (is_left s by members) (bricks_from 0 (s.bricks - 0)))

-- members with those that are suspected replaced are what a brick may propose
pub replaced_sound : (s : Suspicions) (by : BrickId) (members : List BrickId) → AreBricks s.bricks members
    → IsReplacement s by members (replaced s by members)
unfolding left_from
replaced_sound s by members are =
    let left : List BrickId = left_from s by members 0 in
    let all : AllByRecursion (IsLeft s by members) left = all_left s by members in
    record {
      long = with_spares-length (suspects s by) left members;
      bricks = record {
        distinct = with_spares-distinct (suspects s by) left members (from-distinct (is_left s by members) 0 (s.bricks - 0)) are.distinct
            (apart left members (each (IsLeft s by members) (λ (b : BrickId). stands_in members b ≡ false) left (λ b is. is.no_member) all));
        below = with_spares-all (λ (b : BrickId). b.0 < s.bricks) (suspects s by) left members
            (all-filter (λ (b : BrickId). b.0 < s.bricks) (is_left s by members) (bricks_from 0 (s.bricks - 0))
            (from-below s.bricks 0 (s.bricks - 0) (omega arith)))
            are.below;
      };
      keeps = λ seat member at trusted. with_spares-keeps (suspects s by) left members seat member at trusted;
      trusts = with_spares-trusts (suspects s by) left members
          (each (IsLeft s by members) (λ (b : BrickId). suspects s by b ≡ false) left (λ b is. is.trusted) all);
    }

-- two lists with the same brick at each seat are equal
same_lists : (xs ys : List BrickId) → are_same xs ys ≡ true → xs ≡ ys
same_lists [] [] e = refl
same_lists [] (y ∷ ys) e = cc
same_lists (x ∷ xs) [] e = cc
same_lists (x ∷ xs) (y ∷ ys) e =
    let parts = and_parts (nat_eq x.0 y.0) (are_same xs ys) e in
    let first : x.0 ≡ y.0 = eqb-true x.0 y.0 parts.0 in
    let rest : xs ≡ ys = same_lists xs ys parts.1 in
    let one : x ≡ y = ap (λ (n : ℕ). let b : BrickId = record { 0 = n } in b) first in
    ap (λ (z : BrickId). z ∷ xs) one ∙ ap (λ (z : List BrickId). y ∷ z) rest

-- a list has the same brick as itself at each seat
same_self : (xs : List BrickId) → are_same xs xs ≡ true
same_self [] = refl
same_self (x ∷ xs) = ap (λ (t : Bool). t && are_same xs xs) (eq-eqb x.0 x.0 refl) ∙ same_self xs

chosen_none : (t : Bool) (r members : List BrickId) (o : Option (List BrickId)) → o ≡ cond t None (Some r) → (t ≡ true → r ≡ members)
    → (r ≡ members → t ≡ true) → (IsNone o → r ≡ members) × (r ≡ members → IsNone o)
chosen_none true r members o is same known = (λ none. same refl, λ e. subst (λ (z : Option (List BrickId)). IsNone z) (sym is) refl)
chosen_none false r members o is same known =
    (λ none. let n : IsNone (Some r) = subst (λ (z : Option (List BrickId)). IsNone z) is none in cc, λ e. let k = known e in cc)

chosen_holds : (P : List BrickId → Type 0) (t : Bool) (r : List BrickId) (o : Option (List BrickId)) → o ≡ cond t None (Some r) → P r
    → IfSome o P
chosen_holds P true r o is holds = subst (λ (z : Option (List BrickId)). IfSome z P) (sym is) tt
chosen_holds P false r o is holds = subst (λ (z : Option (List BrickId)). IfSome z P) (sym is) holds

-- no list is proposed exactly where no seat changes
pub list_for-none : (s : Suspicions) (by : BrickId) (members : List BrickId) (o : Option (List BrickId)) → o ≡ list_for s by members
    → (IsNone o → replaced s by members ≡ members) × (replaced s by members ≡ members → IsNone o)
list_for-none s by members o is =
    chosen_none (are_same (replaced s by members) members) (replaced s by members) members o is
    (same_lists (replaced s by members) members)
    (λ same. ap (λ (z : List BrickId). are_same z members) same ∙ same_self members)

-- a list that is proposed is of distinct bricks, keeps those that are not suspected, and puts in none that is
pub list_for-sound : (s : Suspicions) (by : BrickId) (members : List BrickId) (o : Option (List BrickId)) → o ≡ list_for s by members
    → AreBricks s.bricks members → IfSome o (IsReplacement s by members)
list_for-sound s by members o is are =
    chosen_holds (IsReplacement s by members) (are_same (replaced s by members) members) (replaced s by members) o is
    (replaced_sound s by members are)
