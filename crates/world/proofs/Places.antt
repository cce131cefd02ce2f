-- Lists that grow or change at one place, functions with one value changed, and queries for calls.
use Rattle.std.proofs.Common.{◌≡◌, ◌≢◌, ℕ, zero, suc, ◌<◌, ◌⊎◌, inl, inr, Bool, cond, nat_eq, ◌&&◌, List, [], ◌∷◌, ◌++◌, length, get_or, set, Some, None, refl, sym, ap, ◌∙◌, subst, arith}
use Rattle.std.specs.Prelude.{slice_get}
use Rattle.std.specs.declared.cmp.Ordering.{Ordering}
use Rattle.std.specs.declared.cmp.Ordering.TheVariants.{Less, Equal, Greater}
use Rattle.std.specs.Ordering.{nat_cmp, is_eq, ordering_then}
use Rattle.std.specs.BTreeMap.{is_at}
use Rattle.std.proofs.lemmas.Bool.{cond_both, eqb-true, eqb-false, eq-eqb, ne_eqb}
use Rattle.std.proofs.lemmas.Bool.Decides.{nat_tests}
use Rattle.std.proofs.lemmas.List.{get_or_append_left, length-append}
use Rattle.std.proofs.lemmas.Option.{slice_get-get_or}
use Rattle.protocol.specs.Nodes.{put}
use Rattle.world.specs.Shown.{pair_cmp}

-- an element of a list that grew by one is an old one, or the one at the end
pub grown : {A : Type 0} (xs : List A) (x : A) (n : ℕ) (y : A) → slice_get (xs ++ x ∷ []) n ≡ Some y
    → (slice_get xs n ≡ Some y) ⊎ ((n ≡ length xs) × (x ≡ y))
grown [] x zero y is = inr (refl, let e : Some x ≡ Some y = is in cc)
grown [] x (suc n) y is = let e : None ≡ Some y = is in cc
grown (z ∷ xs) x zero y is = inl is
grown (z ∷ xs) x (suc n) y is =
    elim (grown xs x n y is) as (λ _. (slice_get xs n ≡ Some y) ⊎ ((suc n ≡ suc (length xs)) × (x ≡ y))) [
      | inl old ↦ inl old
      | inr new ↦ inr
          (ap suc new.0, new.1)
    ]

-- an element of a list with one place changed is the new one, or one of another place
pub replaced : {A : Type 0} (xs : List A) (k : ℕ) (x : A) (n : ℕ) (y : A) → slice_get (set xs k x) n ≡ Some y
    → ((n ≡ k) × (x ≡ y)) ⊎ ((n ≢ k) × (slice_get xs n ≡ Some y))
replaced [] k x n y is = let e : None ≡ Some y = is in cc
replaced (z ∷ xs) zero x zero y is = inl (refl, let e : Some x ≡ Some y = is in cc)
replaced (z ∷ xs) zero x (suc n) y is = inr (λ e. omega arith, is)
replaced (z ∷ xs) (suc k) x zero y is = inr (λ e. omega arith, is)
replaced (z ∷ xs) (suc k) x (suc n) y is =
    elim (replaced xs k x n y is) as (λ _. ((suc n ≡ suc k) × (x ≡ y)) ⊎ ((suc n ≢ suc k) × (slice_get xs n ≡ Some y)))
    [ inl here ↦ inl (ap suc here.0, here.1) | inr there ↦ inr (λ e. there.0 (omega arith), there.1) ]

-- what holds of the new value, and of each other value of the old function
pub each_value : {A : Type 0} (P : ℕ → A → Type 0) (f : ℕ → A) (k : ℕ) (v : A) → P k v → ((i : ℕ) → i ≢ k → P i (f i)) → (i : ℕ) → P i (put f k v i)
each_value P f k v new old i =
    cond_both (nat_eq i k) v (f i) (P i) (λ is. subst (λ (j : ℕ). P j v) (sym (eqb-true i k is)) new) (λ isnt. old i (eqb-false i k isnt))

-- the new value
pub value_here : {A : Type 0} (f : ℕ → A) (k i : ℕ) (v : A) → i ≡ k → put f k v i ≡ v
value_here f k i v here = ap (λ (b : Bool). cond b v (f i)) (eq-eqb i k here)

-- any other value is as before
pub value_elsewhere : {A : Type 0} (f : ℕ → A) (k i : ℕ) (v : A) → i ≢ k → put f k v i ≡ f i
value_elsewhere f k i v other = ap (λ (b : Bool). cond b v (f i)) (ne_eqb i k other)

-- a query for a number is at its own key
pub is_at_number : (k q : ℕ) → is_at (nat_cmp k) q ≡ nat_eq q k
is_at_number k q = grind (arith, nat_tests)

-- two orders in turn find a key equal where both do
pub then_is_eq : (a b : Ordering) → is_eq (ordering_then a b) ≡ is_eq a && is_eq b
then_is_eq Less b = refl
then_is_eq Equal b = refl
then_is_eq Greater b = refl

-- a query for a pair of numbers is at its own two
pub is_at_call : (b s i k : ℕ) → is_at (pair_cmp (b, s)) (i, k) ≡ nat_eq i b && nat_eq k s
is_at_call b s i k =
    then_is_eq (nat_cmp b i) (nat_cmp s k) ∙ ap (λ x. x && is_eq (nat_cmp s k)) (is_at_number b i) ∙ ap (λ x. nat_eq i b && x) (is_at_number s k)

-- the new element of a list with one place changed
pub set_here : {A : Type 0} (xs : List A) (k : ℕ) (x : A) → k < length xs → slice_get (set xs k x) k ≡ Some x
set_here [] k x within = absurd (omega arith)
set_here (z ∷ xs) zero x within = refl
set_here (z ∷ xs) (suc k) x within = set_here xs k x (omega arith)

-- an element of another place
pub set_elsewhere : {A : Type 0} (xs : List A) (k : ℕ) (x : A) (n : ℕ) → n ≢ k → slice_get (set xs k x) n ≡ slice_get xs n
set_elsewhere [] k x n other = refl
set_elsewhere (z ∷ xs) zero x zero other = absurd (other refl)
set_elsewhere (z ∷ xs) zero x (suc n) other = refl
set_elsewhere (z ∷ xs) (suc k) x zero other = refl
set_elsewhere (z ∷ xs) (suc k) x (suc n) other = set_elsewhere xs k x n (λ e. other (ap suc e))

-- what stands before a list that is added stays
pub append_get : {A : Type 0} (xs ys : List A) (k : ℕ) (x : A) → k < length xs → slice_get (xs ++ ys) k ≡ Some x → slice_get xs k ≡ Some x
append_get xs ys k x within at =
    slice_get-get_or xs k x within ∙ ap Some (sym (get_or_append_left xs ys x k within))
    ∙ sym (slice_get-get_or (xs ++ ys) k x (omega (arith, within, length-append xs ys))) ∙ at

-- the element at the end
pub get_or_end : {A : Type 0} (xs : List A) (x d : A) → get_or (xs ++ x ∷ []) (length xs) d ≡ x
get_or_end [] x d = refl
get_or_end (y ∷ xs) x d = get_or_end xs x d

-- there is an element at each place of a list
pub slice_get_not_none : {A : Type 0} (xs : List A) (k : ℕ) → k < length xs → slice_get xs k ≡ None → ⊥
slice_get_not_none [] k within none = absurd (omega arith)
slice_get_not_none (x ∷ xs) zero within none = (let never : Some x ≡ None = none in cc)
slice_get_not_none (x ∷ xs) (suc k) within none = slice_get_not_none xs k (omega arith) none
