-- The orders of stamps and of ballots are strict total orders, and their tests mean what they say.
use Rattle.std.proofs.Common.{◌≡◌, ℕ, Bool, true, false, ◌&&◌, ◌||◌, nat_lt, nat_eq, refl, sym, ◌∙◌, arith}
use Rattle.std.proofs.lemmas.Bool.Decides.{nat_tests}
use Rattle.fab_base.specs.declared.stamps.Stamp.{Stamp}
use Rattle.fab_base.specs.declared.stamps.Ballot.{Ballot}
use Rattle.fab_base.specs.Stamps.{stamp_below, stamp_same, first_stamp, ballot_below, IsStrictOrder}

-- one field before the rest keeps the order transitive
below_rest : (x y z : ℕ) (p q r : Bool) → (p ≡ true → q ≡ true → r ≡ true)
    → (nat_lt x y || (nat_eq x y && p)) ≡ true → (nat_lt y z || (nat_eq y z && q)) ≡ true → (nat_lt x z || (nat_eq x z && r)) ≡ true
below_rest x y z p q r f h k = grind (arith, nat_tests)

-- one field before the rest keeps "not below" transitive
not_below_rest : (x y z : ℕ) (p q r : Bool) → (p ≡ false → q ≡ false → r ≡ false)
    → (nat_lt y x || (nat_eq y x && p)) ≡ false → (nat_lt z y || (nat_eq z y && q)) ≡ false → (nat_lt z x || (nat_eq z x && r)) ≡ false
not_below_rest x y z p q r f h k = grind (arith, nat_tests)

-- one field before the rest keeps the order asymmetric
asym_rest : (x y : ℕ) (p q : Bool) → (p ≡ true → q ≡ false)
    → (nat_lt x y || (nat_eq x y && p)) ≡ true → (nat_lt y x || (nat_eq y x && q)) ≡ false
asym_rest x y p q f h = grind (arith, nat_tests)

-- the order of one field
lt_trans : (x y z : ℕ) → nat_lt x y ≡ true → nat_lt y z ≡ true → nat_lt x z ≡ true
lt_trans x y z h k = grind (arith, nat_tests)

not_lt_trans : (x y z : ℕ) → nat_lt y x ≡ false → nat_lt z y ≡ false → nat_lt z x ≡ false
not_lt_trans x y z h k = grind (arith, nat_tests)

lt_asym : (x y : ℕ) → nat_lt x y ≡ true → nat_lt y x ≡ false
lt_asym x y h = grind (arith, nat_tests)

-- no stamp is below itself
pub stamp_below_irrefl : (a : Stamp) → stamp_below a a ≡ false
unfolding stamp_below
stamp_below_irrefl a = grind (arith, nat_tests)

-- the order is transitive
pub stamp_below_trans : (a b c : Stamp) → stamp_below a b ≡ true → stamp_below b c ≡ true → stamp_below a c ≡ true
unfolding stamp_below
stamp_below_trans a b c =
    below_rest a.view.0 b.view.0 c.view.0 _ _ _
    (below_rest a.time b.time c.time _ _ _
    (below_rest a.brick.0 b.brick.0 c.brick.0 _ _ _ (lt_trans a.boot b.boot c.boot)))

-- at or above is transitive
pub stamp_not_below_trans : (a b c : Stamp) → stamp_below b a ≡ false → stamp_below c b ≡ false → stamp_below c a ≡ false
unfolding stamp_below
stamp_not_below_trans a b c =
    not_below_rest a.view.0 b.view.0 c.view.0 _ _ _
    (not_below_rest a.time b.time c.time _ _ _
    (not_below_rest a.brick.0 b.brick.0 c.brick.0 _ _ _ (not_lt_trans a.boot b.boot c.boot)))

-- no two stamps are below each other
pub stamp_below_asym : (a b : Stamp) → stamp_below a b ≡ true → stamp_below b a ≡ false
unfolding stamp_below
stamp_below_asym a b =
    asym_rest a.view.0 b.view.0 _ _
    (asym_rest a.time b.time _ _
    (asym_rest a.brick.0 b.brick.0 _ _ (lt_asym a.boot b.boot)))

-- no stamp is below the first one
pub stamp_below_first : (a : Stamp) → stamp_below a first_stamp ≡ false
unfolding stamp_below
stamp_below_first a = grind (arith, nat_tests)

-- a stamp is the same as itself
pub stamp_same_refl : (a : Stamp) → stamp_same a a ≡ true
unfolding stamp_same
stamp_same_refl a = grind (arith, nat_tests)

-- the stamp of these fields
stamp_of : ℕ → ℕ → ℕ → ℕ → Stamp
stamp_of v t k o = record { view = record { 0 = v }; time = t; brick = record { 0 = k }; boot = o }

-- a stamp is the stamp of its fields
stamp_is : (a : Stamp) → a ≡ stamp_of a.view.0 a.time a.brick.0 a.boot
unfolding stamp_of
stamp_is a = refl

-- equal fields make equal stamps
pub stamp_of_fields : (a b : Stamp) → a.view.0 ≡ b.view.0 → a.time ≡ b.time → a.brick.0 ≡ b.brick.0 → a.boot ≡ b.boot → a ≡ b
stamp_of_fields a b v t k o = stamp_is a ∙ (let e : stamp_of a.view.0 a.time a.brick.0 a.boot ≡ stamp_of b.view.0 b.time b.brick.0 b.boot = cc in e)
    ∙ sym (stamp_is b)

-- stamps that test the same are equal
pub stamp_same_true : (a b : Stamp) → stamp_same a b ≡ true → a ≡ b
unfolding stamp_same
stamp_same_true a b h =
    stamp_of_fields a b (grind (arith, nat_tests)) (grind (arith, nat_tests)) (grind (arith, nat_tests)) (grind (arith, nat_tests))

-- one field before the rest: where neither side is below, the field is the same, and neither rest is below
same_field : (x y : ℕ) (p q : Bool) → (nat_lt x y || (nat_eq x y && p)) ≡ false → (nat_lt y x || (nat_eq y x && q)) ≡ false
    → (x ≡ y) × (p ≡ false) × (q ≡ false)
same_field x y p q h k = (grind (arith, nat_tests), grind (arith, nat_tests), grind (arith, nat_tests))

-- of two stamps neither of which is below the other, both are the same
pub stamp_neither_below : (a b : Stamp) → stamp_below a b ≡ false → stamp_below b a ≡ false → a ≡ b
unfolding stamp_below
stamp_neither_below a b h k =
    let views = same_field a.view.0 b.view.0 _ _ h k in
    let times = same_field a.time b.time _ _ views.1 views.2 in
    let bricks = same_field a.brick.0 b.brick.0 _ _ times.1 times.2 in
    let boots : a.boot ≡ b.boot = grind (arith, nat_tests, bricks.1, bricks.2) in
    stamp_of_fields a b views.0 times.0 bricks.0 boots

-- the order of stamps is a strict total order
pub stamp_below_order : IsStrictOrder stamp_below
stamp_below_order = record { irreflexive = stamp_below_irrefl; transitive = stamp_below_trans; total = stamp_neither_below }

-- the ballot of these fields
ballot_of : ℕ → ℕ → ℕ → Ballot
ballot_of r k o = record { round = r; brick = record { 0 = k }; boot = o }

-- equal fields make equal ballots
ballot_of_fields : (a b : Ballot) → a.round ≡ b.round → a.brick.0 ≡ b.brick.0 → a.boot ≡ b.boot → a ≡ b
unfolding ballot_of
ballot_of_fields a b r k o =
    let e : ballot_of a.round a.brick.0 a.boot ≡ ballot_of b.round b.brick.0 b.boot = cc in e

-- no ballot is below itself
ballot_below_irrefl : (a : Ballot) → ballot_below a a ≡ false
unfolding ballot_below
ballot_below_irrefl a = grind (arith, nat_tests)

-- the order of ballots is transitive
ballot_below_trans : (a b c : Ballot) → ballot_below a b ≡ true → ballot_below b c ≡ true → ballot_below a c ≡ true
unfolding ballot_below
ballot_below_trans a b c =
    below_rest a.round b.round c.round _ _ _ (below_rest a.brick.0 b.brick.0 c.brick.0 _ _ _ (lt_trans a.boot b.boot c.boot))

-- of two ballots neither of which is below the other, both are the same
ballot_neither_below : (a b : Ballot) → ballot_below a b ≡ false → ballot_below b a ≡ false → a ≡ b
unfolding ballot_below
ballot_neither_below a b h k =
    let rounds = same_field a.round b.round _ _ h k in
    let bricks = same_field a.brick.0 b.brick.0 _ _ rounds.1 rounds.2 in
    let boots : a.boot ≡ b.boot = grind (arith, nat_tests, bricks.1, bricks.2) in
    ballot_of_fields a b rounds.0 bricks.0 boots

-- the order of ballots is a strict total order
pub ballot_below_order : IsStrictOrder ballot_below
ballot_below_order = record { irreflexive = ballot_below_irrefl; transitive = ballot_below_trans; total = ballot_neither_below }
