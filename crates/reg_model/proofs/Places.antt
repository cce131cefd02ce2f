-- Facts on lists by place: numbers that rise, a number that a list has, numbers apart.
use Rattle.std.proofs.Common.{◌≡◌, ℕ, ◌<◌, ◌≤◌, ◌+◌, Bool, true, false, nat_lt, nat_le, eqb, ◌↔◌, IsTrue, List, [], ◌∷◌, ◌++◌, length, map, get_or, take, drop, Option, Some, None, MatchOption, ⊎_elim, refl, sym, ◌∙◌, ap, subst, arith, zero, suc}
use Rattle.std.specs.Bool.{⊤, MatchBool}
use Rattle.std.specs.List.{Any, Contains, IsDistinct, AllAdjacentBelow, IsAllAdjacentAnswer}
use Rattle.std.specs.List.Sorted.{IsStrictlyIncreasing, IsNonDecreasing}
use Rattle.std.specs.Option.{option_to_list}
use Rattle.std.proofs.lemmas.Bool.{cases_lt, ltb-true, ltb-false, leb-true, leb-false, ne_eqb, eqb-false}
use Rattle.std.proofs.lemmas.List.{length-map, length-take, get_or-map, get_or-take, get_or_default, at_drop_more}
use Rattle.std.proofs.lemmas.List.Sorted.{IsNonDecreasingBy-from_all_adjacent}
use Rattle.std.proofs.lemmas.Map.Keys.{IsDistinct-from_apart, apart_from_distinct}

-- an answer with what each case says decides a fact
pub iff_from_cases : (r : Bool) (A B P : Type 0) → MatchBool r A B → (A → P) → (B → P → ⊥) → IsTrue r ↔ P
iff_from_cases true A B P says holds fails = (λ _. holds says, λ _. refl)
iff_from_cases false A B P says holds fails = (λ (never : false ≡ true). cc, λ p. absurd (fails says p))

-- an element of a list that has one
element_of : {X : Type 0} (xs : List X) (k : ℕ) → k < length xs → X
element_of [] k below = absurd (omega arith)
element_of (x ∷ xs) k below = x

-- neighbours' numbers, in the list of numbers
adjacent_map : {X : Type 0} (f : X → ℕ) (R : ℕ → ℕ → Type 0) (xs : List X)
    → AllAdjacentBelow (λ x y. R (f x) (f y)) xs (length xs) → AllAdjacentBelow R (map f xs) (length (map f xs))
adjacent_map f R xs holds k d below =
    let inside : k + 1 < length xs = omega (arith, length-map xs f) in
    let x = element_of xs (k + 1) inside in
    let first = get_or-map f xs k x d (omega arith) in
    let second = get_or-map f xs (k + 1) x d inside in
    subst (λ (n : ℕ). R n (get_or (map f xs) (k + 1) d)) (sym first) (subst (λ (n : ℕ). R (f (get_or xs k x)) n) (sym second) (holds k x inside))

-- and back
map_adjacent : {X : Type 0} (f : X → ℕ) (R : ℕ → ℕ → Type 0) (xs : List X) (k d : ℕ) (x : X) → k + 1 < length xs
    → R (get_or (map f xs) k d) (get_or (map f xs) (k + 1) d) → R (f (get_or xs k x)) (f (get_or xs (k + 1) x))
map_adjacent f R xs k d x inside holds =
    subst (λ (n : ℕ). R n (f (get_or xs (k + 1) x))) (get_or-map f xs k x d (omega arith))
    (subst (λ (n : ℕ). R (get_or (map f xs) k d) n) (get_or-map f xs (k + 1) x d inside) holds)

-- the answer of `is_sorted_by` at "below" by a number
pub rises_from_sorted : {X : Type 0} (f : X → ℕ) (xs : List X) (r : Bool)
    → IsAllAdjacentAnswer (λ x y b. b ≡ nat_lt (f x) (f y)) xs r → IsTrue r ↔ IsStrictlyIncreasing (map f xs)
rises_from_sorted {X} f xs r says =
    iff_from_cases r _ _ _ says
    (λ all k below. adjacent_map f (λ m n. m < n) xs (λ j d inside. ltb-true _ _ (sym (all j d inside))) k 0 below)
    (λ some up.
    let inside : some.0 + 1 < length xs = some.1 in
    let x = element_of xs (some.0 + 1) inside in
    let rise = map_adjacent f (λ m n. m < n) xs some.0 0 x inside (up some.0 (omega (arith, length-map xs f))) in
    let falls = ltb-false _ _ (sym (some.2 x)) in
    omega arith)

-- the answer of `is_sorted_by` at "at most" by a number
pub not_falling_from_sorted : {X : Type 0} (f : X → ℕ) (xs : List X) (r : Bool)
    → IsAllAdjacentAnswer (λ x y b. b ≡ nat_le (f x) (f y)) xs r → IsTrue r ↔ IsNonDecreasing (map f xs)
not_falling_from_sorted {X} f xs r says =
    iff_from_cases r _ _ _ says
    (λ all. IsNonDecreasingBy-from_all_adjacent (λ n. n) (map f xs)
    (adjacent_map f (λ m n. m ≤ n) xs (λ j d inside. leb-true _ _ (sym (all j d inside)))))
    (λ some up.
    let inside : some.0 + 1 < length xs = some.1 in
    let x = element_of xs (some.0 + 1) inside in
    let rise = map_adjacent f (λ m n. m ≤ n) xs some.0 0 x inside (up some.0 (some.0 + 1) 0 (omega arith) (omega (arith, length-map xs f))) in
    let falls = leb-false _ _ (sym (some.2 x)) in
    omega arith)

-- an element with a number is that number in the list of numbers
pub Contains-from_any : {X : Type 0} (f : X → ℕ) (xs : List X) (n : ℕ) → Any (λ x. f x ≡ n) xs → Contains (map f xs) n
Contains-from_any f xs n (k, x, inside, is, same) =
    (k, omega (arith, length-map xs f), get_or-map f xs k x n inside ∙ ap f is ∙ same)

-- and back
pub any_from_contains : {X : Type 0} (f : X → ℕ) (xs : List X) (n : ℕ) → Contains (map f xs) n → Any (λ x. f x ≡ n) xs
any_from_contains f [] n (k, inside, is) = absurd (omega arith)
any_from_contains f (x ∷ xs) n (zero, inside, is) = (0, x, omega arith, refl, is)
any_from_contains f (x ∷ xs) n (suc k, inside, is) =
    let found = any_from_contains f xs n (k, omega arith, is) in
    (suc found.0, found.1, omega (arith, found.2), found.3, found.4)

-- two numbers in front, which must rise
rises-two : (l n : ℕ) (xs : List ℕ) → IsStrictlyIncreasing (l ∷ n ∷ xs) → l < n
rises-two l n xs up = up 0 (omega arith)

-- and without the first
rises-tail : (l : ℕ) (xs : List ℕ) → IsStrictlyIncreasing (l ∷ xs) → IsStrictlyIncreasing xs
rises-tail l xs up k below =
    let later = up (suc k) (omega arith) in
    let place : suc k + 1 ≡ suc (k + 1) = omega arith in
    subst (λ (j : ℕ). get_or xs k 0 < get_or (l ∷ xs) j 0) place later

-- a smaller number may be put in front
rises-cons : (l n : ℕ) (xs : List ℕ) → l < n → IsStrictlyIncreasing (n ∷ xs) → IsStrictlyIncreasing (l ∷ n ∷ xs)
rises-cons l n xs less up zero below = less
rises-cons l n xs less up (suc k) below =
    let later = up k (omega arith) in
    let place : suc (k + 1) ≡ suc k + 1 = omega arith in
    subst (λ (j : ℕ). get_or (n ∷ xs) k 0 < get_or (l ∷ n ∷ xs) j 0) place later

-- numbers that rise behind a last one, if there is one: the next is above it
pub next_above : (last : Option ℕ) (n : ℕ) (xs : List ℕ) → IsStrictlyIncreasing (option_to_list last ++ (n ∷ xs)) → MatchOption last ⊤ (λ l. l < n)
next_above None n xs up = tt
next_above (Some l) n xs up = rises-two l n xs up

-- and where it is, they rise behind the last one as they do behind the next
pub rises-next : (last : Option ℕ) (n : ℕ) (xs : List ℕ) → MatchOption last ⊤ (λ l. l < n)
    → IsStrictlyIncreasing (option_to_list last ++ (n ∷ xs)) ↔ IsStrictlyIncreasing (n ∷ xs)
rises-next None n xs above = (λ up. up, λ up. up)
rises-next (Some l) n xs above = (rises-tail l (n ∷ xs), rises-cons l n xs above)

-- a function of what is left, where the next element was read
pub at_read_more : {X Y : Type 0} (F : List X → Y) (xs : List X) (i : ℕ) (x : X) → i < length xs → x ≡ get_or xs i x
    → F (drop i xs) ≡ F (x ∷ drop (i + 1) xs)
at_read_more {X} F xs i x below is = at_drop_more F xs i x below ∙ ap (λ (y : X). F (y ∷ drop (i + 1) xs)) (sym is)

-- a number that stands again is twice in the list
pub twice : {X : Type 0} (f : X → ℕ) (xs : List X) (i : ℕ) (d : X) → i < length xs
    → Contains (map f (take i xs)) (f (get_or xs i d)) → IsDistinct eqb (map f xs) → ⊥
twice f xs i d below (k, inside, is) distinct =
    let before : k < i = omega (arith, length-map (take i xs) f, length-take i xs) in
    let read = get_or-map f (take i xs) k d (f (get_or xs i d)) (omega (arith, length-map (take i xs) f)) in
    let taken = get_or-take i xs k d before in
    let first = get_or-map f xs k d 0 (omega arith) in
    let second = get_or-map f xs i d 0 below in
    let differ = eqb-false _ _ (apart_from_distinct eqb (map f xs) k i 0 distinct before (omega (arith, length-map xs f))) in
    differ (first ∙ ap f (sym taken) ∙ sym read ∙ is ∙ sym second)

-- numbers that are apart so far, and the next is none of them
pub apart_more : {X : Type 0} (f : X → ℕ) (xs : List X) (i : ℕ) (d : X) → i < length xs → (Contains (map f (take i xs)) (f (get_or xs i d)) → ⊥)
    → ((j k : ℕ) → j < k → k < i → get_or (map f xs) j 0 ≡ get_or (map f xs) k 0 → ⊥)
    → (j k : ℕ) → j < k → k < i + 1 → get_or (map f xs) j 0 ≡ get_or (map f xs) k 0 → ⊥
apart_more f xs i d below fresh apart j k less inside same =
    ⊎_elim
    (λ (earlier : k < i). apart j k less earlier same)
    (λ (last : i ≤ k).
    let here : k ≡ i = omega arith in
    let first = get_or-map f xs j d 0 (omega arith) in
    let second = get_or-map f xs k d 0 (omega arith) in
    let there : j < length (map f (take i xs)) = omega (arith, length-map (take i xs) f, length-take i xs) in
    let read = get_or-map f (take i xs) j d (f (get_or xs i d)) (omega (arith, length-map (take i xs) f)) in
    let taken = get_or-take i xs j d (omega arith) in
    fresh (j, there, read ∙ ap f taken ∙ sym first ∙ same ∙ second ∙ ap (λ (n : ℕ). f (get_or xs n d)) here))
    (cases_lt k i)

-- numbers that are apart to the end
pub apart_all : {X : Type 0} (f : X → ℕ) (xs : List X) (i : ℕ) → length xs ≤ i
    → ((j k : ℕ) → j < k → k < i → get_or (map f xs) j 0 ≡ get_or (map f xs) k 0 → ⊥) → IsDistinct eqb (map f xs)
apart_all f xs i all apart =
    IsDistinct-from_apart eqb (map f xs)
    (λ j k d less inside. ne_eqb _ _ (λ same.
    apart j k less (omega (arith, length-map xs f))
    (get_or_default (map f xs) j 0 d (omega arith) ∙ same ∙ get_or_default (map f xs) k d 0 inside)))
