-- Lists that are proposed, worked out, on a disk of six bricks whose pool is told as `[4, 1, 3]`.
use Rattle.std.proofs.Common.{◌≡◌, ℕ, true, false, List, [], ◌∷◌, map, Some, None, refl}
use Rattle.fab_base.specs.declared.identities.BrickId.{BrickId}
use Rattle.fab_base.specs.Layouts.{Layout}
use Rattle.spares.specs.Suspicions.{Suspicions, unsuspecting, with_opinion}
use Rattle.spares.specs.Replacements.{left_from, with_spares, list_for}

abbrev brick : ℕ → BrickId
brick n = record { 0 = n }

abbrev bricks : List ℕ → List BrickId
bricks numbers = map brick numbers

abbrev disk : Layout
disk =
    record {
      block = 4;
      bricks = 6;
      records = 64;
      port = 4000;
      store = 2;
      spares = bricks (4 ∷ 1 ∷ 3 ∷ []);
      groups = record { members = bricks (0 ∷ 1 ∷ 2 ∷ []); m = 1; stripes = 4 } ∷ [];
      volumes = [];
    }

abbrev members : List BrickId
members = bricks (0 ∷ 1 ∷ 2 ∷ [])

-- brick 1 suspects one brick more
abbrev suspecting : Suspicions → ℕ → Suspicions
suspecting suspicions other = with_opinion suspicions (brick 1) (brick other) true

none_suspected : list_for (unsuspecting disk) (brick 1) members ≡ None
unfolding left_from with_spares
none_suspected = refl

-- the least of the pool, and not the first of its text; brick 1 is a member
one_suspected : list_for (suspecting (unsuspecting disk) 0) (brick 1) members ≡ Some (bricks (3 ∷ 1 ∷ 2 ∷ []))
unfolding left_from with_spares
one_suspected = refl

-- what brick 1 suspects is nothing to brick 2
another_brick : list_for (suspecting (unsuspecting disk) 0) (brick 2) members ≡ None
unfolding left_from with_spares
another_brick = refl

suspected_spare : list_for (suspecting (suspecting (unsuspecting disk) 0) 3) (brick 1) members ≡ Some (bricks (4 ∷ 1 ∷ 2 ∷ []))
unfolding left_from with_spares
suspected_spare = refl

-- two bricks are left for three seats
pool_used_up : list_for (suspecting (suspecting (suspecting (unsuspecting disk) 0) 1) 2) (brick 1) members ≡ Some (bricks (3 ∷ 4 ∷ 2 ∷ []))
unfolding left_from with_spares
pool_used_up = refl

none_left : list_for (suspecting (suspecting (suspecting (unsuspecting disk) 0) 3) 4) (brick 1) members ≡ None
unfolding left_from with_spares
none_left = refl

trusted_again : list_for (with_opinion (suspecting (unsuspecting disk) 0) (brick 1) (brick 0) false) (brick 1) members ≡ None
unfolding left_from with_spares
trusted_again = refl
