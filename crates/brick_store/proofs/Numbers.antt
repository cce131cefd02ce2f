-- Numbers that get slots in the order in which they are named.
use Rattle.std.proofs.Common.{◌≡◌, ◌⊎◌, inl, inr, ℕ, ◌+◌, ◌≤◌, Bool, true, false, not, ◌&&◌, ◌||◌, cond, eqb, List, [], ◌∷◌, ◌++◌, length, get_or, refl, sym, ap, subst, ◌∙◌, append_assoc, arith}
use Rattle.std.specs.List.{AllByRecursion, filter}
use Rattle.std.proofs.lemmas.Bool.{eqb-true, lt-ltb}
use Rattle.std.proofs.lemmas.Bool.Decides.{nat_tests}
use Rattle.std.proofs.lemmas.List.{append-nil, length_push, length-append}
use Rattle.std.proofs.lemmas.List.Folds.{position_or_len_push, prefix_len-append}
use Rattle.std.proofs.lemmas.List.Sums.{prefix_len-le-length, passes_at_first}
use Rattle.brick_store.specs.Renumbering.{each_once, slot_for, place_of, has_place, is_new, given_with}

-- the numbers that have got a slot once all of these were named
unfoldable pub given_all : List ℕ → List ℕ → List ℕ
given_all given [] = given
given_all given (n ∷ ns) = given_all (given_with given n) ns

pub given_none : (given : List ℕ) → given_all given [] ≡ given
unfolding given_all
given_none given = refl

pub given_first : (given : List ℕ) (n : ℕ) (ns : List ℕ) → given_all given (n ∷ ns) ≡ given_all (given_with given n) ns
unfolding given_all
given_first given n ns = refl

pub given_append : (given xs ys : List ℕ) → given_all given (xs ++ ys) ≡ given_all (given_all given xs) ys
unfolding given_all
given_append given [] ys = refl
given_append given (x ∷ xs) ys = given_append (given_with given x) xs ys

-- ---- places

pub place_within : (given : List ℕ) (n : ℕ) → place_of given n ≤ length given
place_within given n = prefix_len-le-length (λ other. not (eqb other n)) given

-- one number more is past the others
place_push : (given : List ℕ) (n m : ℕ) → place_of (given ++ n ∷ []) m
    ≡ cond (eqb (place_of given m) (length given)) (length given + cond (eqb n m) 0 1) (place_of given m)
place_push given n m = position_or_len_push (λ other. eqb other m) given n

-- what has a place keeps it
pub place_kept : (given more : List ℕ) (n : ℕ) → has_place given n ≡ true → place_of (given ++ more) n ≡ place_of given n
place_kept given more n has =
    prefix_len-append (λ other. not (eqb other n)) given more ∙ by (eqb (place_of given n) (length given)) refl
  where
    by : (b : Bool) → eqb (place_of given n) (length given) ≡ b → cond b (length given + place_of more n) (place_of given n) ≡ place_of given n
    by true at = absurd (grind (arith, nat_tests))
    by false at = refl

pub has_place_kept : (given more : List ℕ) (n : ℕ) → has_place given n ≡ true → has_place (given ++ more) n ≡ true
has_place_kept given more n has = lt-ltb (place_of (given ++ more) n) (length (given ++ more))
    (let is = place_kept given more n has in let long = length-append given more in grind (arith, nat_tests))

-- a number that gets one has the next place
pub place_new : (given : List ℕ) (n : ℕ) → has_place given n ≡ false → place_of (given ++ n ∷ []) n ≡ length given
place_new given n none =
    let is : place_of given n ≡ length given = let le = place_within given n in grind (arith, nat_tests) in
    place_push given n n ∙ grind (arith, nat_tests)

pub has_place_new : (given : List ℕ) (n : ℕ) → has_place given n ≡ false → has_place (given ++ n ∷ []) n ≡ true
has_place_new given n none = lt-ltb (place_of (given ++ n ∷ []) n) (length (given ++ n ∷ []))
    (let is = place_new given n none in let long = length_push given n in omega arith)

-- and no other has
pub has_place_other : (given : List ℕ) (n m : ℕ) → eqb n m ≡ false → has_place (given ++ n ∷ []) m ≡ has_place given m
has_place_other given n m other =
    let is = place_push given n m in let le = place_within given m in let long = length_push given n in grind (arith, nat_tests)

-- what stands in the place of a number is that number
pub at_place : (given : List ℕ) (n : ℕ) → has_place given n ≡ true → get_or given (place_of given n) 0 ≡ n
at_place given n has = eqb-true (get_or given (place_of given n) 0) n
    (passes_at_first (λ other. eqb other n) given 0 (grind (arith, nat_tests)))

-- ---- numbers that are named

-- the zero block's number, or one that has a place
abbrev pub IsPlaced : List ℕ → ℕ → Type 0
IsPlaced given n = (eqb n 4294967295 ≡ true) ⊎ (has_place given n ≡ true)

pub placed_kept : (given more : List ℕ) (n : ℕ) → IsPlaced given n → IsPlaced (given ++ more) n
placed_kept given more n (inl zero_block) = inl zero_block
placed_kept given more n (inr has) = inr (has_place_kept given more n has)

-- to name a number gives it a place, and those that have one keep it
with_more : (given : List ℕ) (n : ℕ) → (more : List ℕ) × (given_with given n ≡ given ++ more)
with_more given n = by (is_new given n)
  where
    by : (b : Bool) → (more : List ℕ) × (cond b (given ++ n ∷ []) given ≡ given ++ more)
    by true = (n ∷ [], refl)
    by false = ([], sym (append-nil given))

pub placed_now : (given : List ℕ) (n : ℕ) → IsPlaced (given_with given n) n
placed_now given n = by (eqb n 4294967295) refl (has_place given n) refl
  where
    by : (z : Bool) → eqb n 4294967295 ≡ z → (h : Bool) → has_place given n ≡ h → IsPlaced (cond (not (z || h)) (given ++ n ∷ []) given) n
    by true is h at = inl is
    by false is true at = inr at
    by false is false at = inr (has_place_new given n at)

pub all_more : (given ns : List ℕ) → (more : List ℕ) × (given_all given ns ≡ given ++ more)
unfolding given_all
all_more given [] = ([], sym (append-nil given))
all_more given (n ∷ ns) =
    let first = with_more given n in
    let rest = all_more (given_with given n) ns in
    (first.0 ++ rest.0, rest.1 ∙ ap (λ (xs : List ℕ). xs ++ rest.0) first.1 ∙ append_assoc given first.0 rest.0)

placed_on : (given ns : List ℕ) (n : ℕ) → IsPlaced given n → IsPlaced (given_all given ns) n
placed_on given ns n placed = let more = all_more given ns in
    subst (λ (xs : List ℕ). IsPlaced xs n) (sym more.1) (placed_kept given more.0 n placed)

pub all_placed : (given ns : List ℕ) → AllByRecursion (IsPlaced (given_all given ns)) ns
unfolding given_all
all_placed given [] = tt
all_placed given (n ∷ ns) = (placed_on (given_with given n) ns n (placed_now given n), all_placed (given_with given n) ns)

-- to name a number again gives nothing
pub named_again : (given : List ℕ) (n : ℕ) → IsPlaced given n → given_with given n ≡ given
named_again given n placed = by (eqb n 4294967295) refl (has_place given n) refl placed
  where
    by : (z : Bool) → eqb n 4294967295 ≡ z → (h : Bool) → has_place given n ≡ h → IsPlaced given n
        → cond (not (z || h)) (given ++ n ∷ []) given ≡ given
    by true is h at placed = refl
    by false is true at placed = refl
    by false is false at (inl zero_block) = absurd cc
    by false is false at (inr has) = absurd cc

-- there are no more than were named
pub with_long : (given : List ℕ) (n : ℕ) → length (given_with given n) ≤ length given + 1
with_long given n = by (is_new given n)
  where
    by : (b : Bool) → length (cond b (given ++ n ∷ []) given) ≤ length given + 1
    by true = omega (arith, length_push given n)
    by false = omega arith

pub all_long : (given ns : List ℕ) → length (given_all given ns) ≤ length given + length ns
unfolding given_all
all_long given [] = omega arith
all_long given (n ∷ ns) = omega (arith, all_long (given_with given n) ns, with_long given n)

-- what holds of all that are named holds of those that get a slot
pub all_given : (P : ℕ → Type 0) (given ns : List ℕ) → AllByRecursion P given → AllByRecursion P ns → AllByRecursion P (given_all given ns)
unfolding given_all
all_given P given [] has all = has
all_given P given (n ∷ ns) has all = all_given P (given_with given n) ns (by (is_new given n)) all.1
  where
    push : (xs : List ℕ) → AllByRecursion P xs → AllByRecursion P (xs ++ n ∷ [])
    push [] h = (all.0, tt)
    push (x ∷ xs) h = (h.0, push xs h.1)

    by : (b : Bool) → AllByRecursion P (cond b (given ++ n ∷ []) given)
    by true = push given has
    by false = has

-- a slot stays what it is, while others are given
pub slot_kept : (given more : List ℕ) (n : ℕ) → IsPlaced given n → slot_for (given ++ more) n ≡ slot_for given n
slot_kept given more n placed = by (eqb n 4294967295) refl placed
  where
    by : (z : Bool) → eqb n 4294967295 ≡ z → IsPlaced given n
        → cond z 4294967295 (place_of (given ++ more) n) ≡ cond z 4294967295 (place_of given n)
    by true is placed = refl
    by false is (inl zero_block) = absurd cc
    by false is (inr has) = place_kept given more n has

-- ---- each number once

abbrev keeps : List ℕ → ℕ → Bool
keeps given n = not (has_place given n)

filter_both : (p q r : ℕ → Bool) → ((n : ℕ) → (q n && p n) ≡ r n) → (xs : List ℕ) → filter p (filter q xs) ≡ filter r xs
filter_both p q r same [] = refl
filter_both p q r same (x ∷ xs) = by (q x) (p x) refl (r x) (same x) (filter_both p q r same xs)
  where
    by : (b c : Bool) → p x ≡ c → (d : Bool) → (b && c) ≡ d → filter p (filter q xs) ≡ filter r xs
        → filter p (cond b (x ∷ filter q xs) (filter q xs)) ≡ cond d (x ∷ filter r xs) (filter r xs)
    by true true at d is rest = rw (sym is, at) (ap (λ (ys : List ℕ). x ∷ ys) rest)
    by true false at d is rest = rw (sym is, at) rest
    by false c at d is rest = rw (sym is) rest

-- a number that has a place is not among those that have none
past : (given : List ℕ) (n : ℕ) → has_place given n ≡ true → (m : ℕ) → (not (eqb m n) && keeps given m) ≡ keeps given m
past given n has m = by (eqb m n) refl
  where
    by : (b : Bool) → eqb m n ≡ b → (not b && keeps given m) ≡ keeps given m
    by true is = sym (ap not (ap (has_place given) (eqb-true m n is) ∙ has))
    by false is = refl

behind : (given : List ℕ) (n : ℕ) → has_place given n ≡ false → (m : ℕ) → (not (eqb m n) && keeps given m) ≡ keeps (given ++ n ∷ []) m
behind given n none m = by (eqb m n) refl
  where
    by : (b : Bool) → eqb m n ≡ b → (not b && keeps given m) ≡ keeps (given ++ n ∷ []) m
    by true is = sym (ap not (ap (has_place (given ++ n ∷ [])) (eqb-true m n is) ∙ has_place_new given n none))
    by false is = let other : eqb n m ≡ false = grind (arith, nat_tests) in sym (ap not (has_place_other given n m other))

-- of numbers that are named, these get a place behind those that have one
pub given_is : (given ns : List ℕ) → given_all given ns ≡ given ++ filter (keeps given) (each_once (filter (λ n. not (eqb n 4294967295)) ns))
unfolding given_all each_once
given_is given [] = sym (append-nil given)
given_is given (n ∷ ns) = by (eqb n 4294967295) refl (has_place given n) refl (given_is (given_with given n) ns)
  where
    left : List ℕ
    left = each_once (filter (λ m. not (eqb m 4294967295)) ns)

    by : (z : Bool) → eqb n 4294967295 ≡ z → (h : Bool) → has_place given n ≡ h
        → given_all (cond (not (z || h)) (given ++ n ∷ []) given) ns
        ≡ cond (not (z || h)) (given ++ n ∷ []) given ++ filter (keeps (cond (not (z || h)) (given ++ n ∷ []) given)) left
        → given_all (cond (not (z || h)) (given ++ n ∷ []) given) ns
        ≡ given ++ filter (keeps given) (each_once (cond (not z) (n ∷ filter (λ m. not (eqb m 4294967295)) ns) (filter (λ m. not (eqb m 4294967295)) ns)))
    by true is h at rest = rest
    by false is true at rest =
        rest
        ∙ ap (λ (xs : List ℕ). given ++ xs) (sym (filter_both (keeps given) (λ m. not (eqb m n)) (keeps given) (past given n at) left))
        ∙ ap (λ (b : Bool). given ++ cond (not b) (n ∷ filter (keeps given) (filter (λ m. not (eqb m n)) left))
        (filter (keeps given) (filter (λ m. not (eqb m n)) left))) (sym at)
    by false is false at rest =
        rest
        ∙ append_assoc given (n ∷ []) (filter (keeps (given ++ n ∷ [])) left)
        ∙ ap (λ (xs : List ℕ). given ++ n ∷ xs)
        (sym (filter_both (keeps given) (λ m. not (eqb m n)) (keeps (given ++ n ∷ [])) (behind given n at) left))
        ∙ ap (λ (b : Bool). given ++ cond (not b) (n ∷ filter (keeps given) (filter (λ m. not (eqb m n)) left))
        (filter (keeps given) (filter (λ m. not (eqb m n)) left))) (sym at)

keeps_all : (xs : List ℕ) → filter (keeps []) xs ≡ xs
keeps_all [] = refl
keeps_all (x ∷ xs) = ap (λ (ys : List ℕ). x ∷ ys) (keeps_all xs)

-- so each that is named gets one, where it stands first
pub each_given : (ns : List ℕ) → given_all [] ns ≡ each_once (filter (λ n. not (eqb n 4294967295)) ns)
each_given ns = given_is [] ns ∙ keeps_all (each_once (filter (λ n. not (eqb n 4294967295)) ns))
