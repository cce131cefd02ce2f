-- The order of stamps, and how stamps and ballots print.
use Rattle.std.specs.Prelude.{◌≡◌, ℕ, Bool, true, false, nat_lt, nat_eq, ◌&&◌, ◌||◌, List, ◌++◌, codes}
use Rattle.std.specs.Fmt.{decimal}
use Rattle.fab_base.specs.declared.stamps.Stamp.{Stamp}
use Rattle.fab_base.specs.declared.stamps.Ballot.{Ballot}

-- one field of two values, and whether the fields after it put the first value below: the first field that differs decides
abbrev pub below_by : ℕ → ℕ → Bool → Bool
below_by x y rest = nat_lt x y || (nat_eq x y && rest)

-- a is below b by the first field that differs: view, time, brick, boot
unfoldable pub stamp_below : Stamp → Stamp → Bool
stamp_below a b = below_by a.view.0 b.view.0 (below_by a.time b.time (below_by a.brick.0 b.brick.0 (nat_lt a.boot b.boot)))

-- a is below b by the first field that differs: round, brick, boot
unfoldable pub ballot_below : Ballot → Ballot → Bool
ballot_below a b = below_by a.round b.round (below_by a.brick.0 b.brick.0 (nat_lt a.boot b.boot))

-- A strict total order: of two different values exactly one is below the other.
pub record IsStrictOrder {A : Type 0} (below : A → A → Bool) : Type 0 where
  pub irreflexive : (a : A) → below a a ≡ false
  pub transitive : (a b c : A) → below a b ≡ true → below b c ≡ true → below a c ≡ true
  pub total : (a b : A) → below a b ≡ false → below b a ≡ false → a ≡ b

-- a and b are the same stamp
unfoldable pub stamp_same : Stamp → Stamp → Bool
stamp_same a b =
    nat_eq a.view.0 b.view.0 && (nat_eq a.time b.time && (nat_eq a.brick.0 b.brick.0 && nat_eq a.boot b.boot))

-- the stamp of the zero block that each stripe begins with
abbrev pub first_stamp : Stamp
first_stamp = record { view = record { 0 = 0 }; time = 0; brick = record { 0 = 0 }; boot = 0 }

-- view.time.brick.boot
abbrev pub stamp_text : Stamp → List ℕ
stamp_text s =
    decimal s.view.0 ++ (codes "." ++ (decimal s.time ++ (codes "." ++ (decimal s.brick.0 ++ (codes "." ++ decimal s.boot)))))

-- round.brick.boot
abbrev pub ballot_text : Ballot → List ℕ
ballot_text b = decimal b.round ++ (codes "." ++ (decimal b.brick.0 ++ (codes "." ++ decimal b.boot)))
