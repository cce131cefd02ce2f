-- What is true of each of a list, by recursion on it.
use Rattle.std.proofs.Common.{List, [], ◌∷◌, ◌++◌, map}
use Rattle.std.specs.List.{AllByRecursion}

-- of two lists, one after the other
pub all_append : {X : Type 0} (P : X → Type 0) (xs ys : List X) → AllByRecursion P xs → AllByRecursion P ys → AllByRecursion P (xs ++ ys)
all_append P [] ys all more = more
all_append P (x ∷ xs) ys all more = (all.0, all_append P xs ys all.1 more)

-- of each that comes of one
pub all_map : {X Y : Type 0} (P : X → Type 0) (Q : Y → Type 0) (f : X → Y) → ((x : X) → P x → Q (f x)) → (xs : List X) → AllByRecursion P xs
    → AllByRecursion Q (map f xs)
all_map P Q f each [] all = tt
all_map P Q f each (x ∷ xs) all = (each x all.0, all_map P Q f each xs all.1)
