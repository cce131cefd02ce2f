-- What the values of a map give in the order of their keys, numbers, is what the keys give.
use Rattle.std.proofs.Common.{◌≡◌, ℕ, zero, suc, ◌+◌, ◌<◌, ◌≤◌, Bool, true, false, cond, nat_eq, List, [], ◌∷◌, ◌++◌, Option, Some, None, refl, sym, ◌∙◌, ap, subst, arith}
use Rattle.std.specs.Option.{is_some}
use Rattle.std.specs.List.{flat_map, AllByRecursion}
use Rattle.std.specs.List.Sorted.{IsStrictlySortedBy}
use Rattle.std.specs.declared.cmp.Ordering.TheVariants.{Less}
use Rattle.std.specs.Ordering.{nat_cmp}
use Rattle.std.specs.Map.{lookup, keys_of, values_of}
use Rattle.std.specs.BTreeMap.{BTreeMap, IsOrdered, get, is_at, values}
use Rattle.std.proofs.lemmas.Bool.Decides.{nat_tests}
use Rattle.std.proofs.lemmas.List.{append_assoc, append-nil}
use Rattle.std.proofs.lemmas.Map.Keys.{sorted_head, sorted_tail}
use Rattle.node.proofs.Tables.{is_at_number, not_above}

-- the value at a number
abbrev pub at : {X : Type 0} → List (ℕ × X) → ℕ → Option X
at es k = lookup (is_at (nat_cmp k)) es

-- what a function gives of a value, if there is one
abbrev pub of_value : {X Y : Type 0} → (X → List Y) → Option X → List Y
of_value f None = []
of_value f (Some x) = f x

-- what a function gives at the keys 1 to n, in order
abbrev pub by_key : {Y : Type 0} → (ℕ → List Y) → ℕ → List Y
by_key F zero = []
by_key F (suc k) = by_key F k ++ F (suc k)

-- the keys rise, from above a up to n
abbrev pub Rises : {X : Type 0} → ℕ → ℕ → List (ℕ × X) → Type 0
Rises a n [] = Unit {0}
Rises a n (e ∷ es) = (a < e.0) × (e.0 ≤ n) × Rises e.0 n es

-- another key than the first one's is looked for among the others
at_other : {X : Type 0} (e : ℕ × X) (es : List (ℕ × X)) (k : ℕ) → nat_eq e.0 k ≡ false → at (e ∷ es) k ≡ at es k
at_other e es k apart = ap (λ b. cond b (Some e.1) (at es k)) (is_at_number k e.0 ∙ apart)

-- the first key has its value
at_first : {X : Type 0} (e : ℕ × X) (es : List (ℕ × X)) (k : ℕ) → nat_eq e.0 k ≡ true → at (e ∷ es) k ≡ Some e.1
at_first e es k same = ap (λ b. cond b (Some e.1) (at es k)) (is_at_number k e.0 ∙ same)

-- no key is at a number below the rising ones
at_low : {X : Type 0} (a n : ℕ) (es : List (ℕ × X)) (k : ℕ) → Rises a n es → k ≤ a → at es k ≡ None
at_low a n [] k rises low = refl
at_low a n (e ∷ es) k rises low =
    let first = rises.0 in
    let apart : nat_eq e.0 k ≡ false = grind (arith, nat_tests) in
    at_other e es k apart ∙ at_low e.0 n es k rises.2 (omega arith)

-- keys in order rise
rises_from : {X : Type 0} (a n : ℕ) (es : List (ℕ × X)) → IsStrictlySortedBy nat_cmp (keys_of es) → AllByRecursion (λ k. nat_cmp a k ≡ Less)
    (keys_of es)
    → AllByRecursion (λ k. k ≤ n) (keys_of es) → Rises a n es
rises_from a n [] sorted low high = tt
rises_from a n (e ∷ es) sorted low high =
    let first = low.0 in
    let above : a < e.0 = grind (arith, nat_tests) in
    (above, high.0, rises_from e.0 n es (sorted_tail nat_cmp e.0 (keys_of es) sorted) (sorted_head nat_cmp e.0 (keys_of es) sorted) high.1)

-- a value among the others is there, whatever the first key is
there_some : {X : Type 0} (b : Bool) (x : X) (o : Option X) → is_some o ≡ true → is_some (cond b (Some x) o) ≡ true
there_some true x o e = refl
there_some false x o e = e

-- what holds of each number that has a value holds of each key
keys_pass : {X : Type 0} (P : ℕ → Type 0) (es : List (ℕ × X)) → ((k : ℕ) → is_some (at es k) ≡ true → P k) → AllByRecursion P (keys_of es)
keys_pass P [] each = tt
keys_pass P (e ∷ es) each =
    let same : nat_eq e.0 e.0 ≡ true = grind (arith, nat_tests) in
    (each e.0 (ap is_some (at_first e es e.0 same)), keys_pass P es (λ k there. each k (there_some (is_at (nat_cmp k) e.0) e.1 (at es k) there)))

-- a value among the others is at its key: the first key is another
passed : {X : Type 0} (n : ℕ) (e : ℕ × X) (es : List (ℕ × X)) (k : ℕ) (x : X) → Rises e.0 n es → at es k ≡ Some x → (b : Bool) → nat_eq e.0 k ≡ b
    → at (e ∷ es) k ≡ Some x
passed n e es k x rises is true same =
    let low : k ≤ e.0 = grind (arith, nat_tests) in
    let none : at es k ≡ None = at_low e.0 n es k rises low in
    cc
passed n e es k x rises is false apart = at_other e es k apart ∙ is

-- what holds of each value at its key holds of each value
values_pass : {X : Type 0} (P : X → Type 0) (a n : ℕ) (es : List (ℕ × X)) → Rises a n es → ((k : ℕ) (x : X) → at es k ≡ Some x → P x)
    → AllByRecursion P (values_of es)
values_pass P a n [] rises each = tt
values_pass P a n (e ∷ es) rises each =
    let same : nat_eq e.0 e.0 ≡ true = grind (arith, nat_tests) in
    (each e.0 e.1 (at_first e es e.0 same), values_pass P e.0 n es rises.2 (λ k x is. each k x (passed n e es k x rises.2 is (nat_eq e.0 k) refl)))

-- what a function gives at the c keys above a, in order
abbrev above : {Y : Type 0} → (ℕ → List Y) → ℕ → ℕ → List Y
above F a zero = []
above F a (suc c) = F (a + 1) ++ above F (a + 1) c

-- the last of these keys
above_last : {Y : Type 0} (F : ℕ → List Y) (c a : ℕ) → above F a (suc c) ≡ above F a c ++ F (a + suc c)
above_last F zero a = append-nil (F (a + 1))
above_last F (suc c) a =
    let last : a + 1 + suc c ≡ a + suc (suc c) = omega arith in
    ap (λ rest. F (a + 1) ++ rest) (above_last F c (a + 1))
    ∙ sym (append_assoc (F (a + 1)) (above F (a + 1) c) (F (a + 1 + suc c)))
    ∙ ap (λ k. (F (a + 1) ++ above F (a + 1) c) ++ F k) last

-- the keys 1 to n are those above 0
by_key_above : {Y : Type 0} (F : ℕ → List Y) (n : ℕ) → by_key F n ≡ above F 0 n
by_key_above F zero = refl
by_key_above F (suc k) =
    let last : suc k ≡ 0 + suc k = omega arith in
    ap (λ front. front ++ F (suc k)) (by_key_above F k) ∙ ap (λ j. above F 0 k ++ F j) last ∙ sym (above_last F k 0)

-- the first key above a is that of the first value, or has none
values_step : {X Y : Type 0} (f : X → List Y) (F : ℕ → List Y) (n c a : ℕ) (e : ℕ × X) (es : List (ℕ × X)) → Rises a n (e ∷ es)
    → ((k : ℕ) → a < k → F k ≡ of_value f (at (e ∷ es) k))
    → ((rest : List (ℕ × X)) → Rises (a + 1) n rest → ((k : ℕ) → a + 1 < k → F k ≡ of_value f (at rest k))
    → flat_map f (values_of rest) ≡ above F (a + 1) c)
    → (b : Bool) → nat_eq e.0 (a + 1) ≡ b → flat_map f (values_of (e ∷ es)) ≡ above F a (suc c)
values_step f F n c a e es rises gives rest true same =
    let key : e.0 ≡ a + 1 = grind (arith, nat_tests) in
    let here : F (a + 1) ≡ f e.1 = gives (a + 1) (omega arith) ∙ ap (of_value f) (at_first e es (a + 1) same) in
    let others : flat_map f (values_of es) ≡ above F (a + 1) c =
    rest es (subst (λ k. Rises k n es) key rises.2)
    (λ k over. let apart : nat_eq e.0 k ≡ false = grind (arith, nat_tests) in gives k (omega arith) ∙ ap (of_value f) (at_other e es k apart)) in
    ap (λ front. front ++ flat_map f (values_of es)) (sym here) ∙ ap (λ back. F (a + 1) ++ back) others
values_step f F n c a e es rises gives rest false apart =
    let first = rises.0 in
    let later : a + 1 < e.0 = grind (arith, nat_tests) in
    let here : F (a + 1) ≡ [] = gives (a + 1) (omega arith)
    ∙ ap (of_value f) (at_low (a + 1) n (e ∷ es) (a + 1) (later, rises.1, rises.2) (omega arith)) in
    rest (e ∷ es) (later, rises.1, rises.2) (λ k over. gives k (omega arith)) ∙ ap (λ front. front ++ above F (a + 1) c) (sym here)

-- values in order of their keys, all among the c above a, give what the keys give
values_above : {X Y : Type 0} (f : X → List Y) (F : ℕ → List Y) (n c a : ℕ) (es : List (ℕ × X)) → a + c ≡ n → Rises a n es
    → ((k : ℕ) → a < k → F k ≡ of_value f (at es k)) → flat_map f (values_of es) ≡ above F a c
values_above f F n zero a [] total rises gives = refl
values_above f F n zero a (e ∷ es) total rises gives =
    let first = rises.0 in
    let within = rises.1 in
    absurd (omega arith)
values_above f F n (suc c) a [] total rises gives =
    let none : F (a + 1) ≡ [] = gives (a + 1) (omega arith) in
    values_above f F n c (a + 1) [] (omega arith) tt (λ k over. gives k (omega arith)) ∙ ap (λ front. front ++ above F (a + 1) c) (sym none)
values_above f F n (suc c) a (e ∷ es) total rises gives =
    values_step f F n c a e es rises gives (λ rest up each. values_above f F n c (a + 1) rest (omega arith) up each) (nat_eq e.0 (a + 1)) refl

-- a number that has a value is above 0, where 0 has none
positive : {X : Type 0} (m : BTreeMap ℕ X) → is_some (get nat_cmp m 0) ≡ false → (k : ℕ) → is_some (get nat_cmp m k) ≡ true → nat_cmp 0 k ≡ Less
positive m none zero there = let wrong : false ≡ true = sym none ∙ there in cc
positive m none (suc k) there = grind (arith, nat_tests)

-- a map has values at the numbers 1 to n alone
pub record IsWithin {X : Type 0} (m : BTreeMap ℕ X) (n : ℕ) : Type 0 where
  pub ordered : IsOrdered nat_cmp m
  pub none : is_some (get nat_cmp m 0) ≡ false
  pub fresh : (k : ℕ) → n < k → is_some (get nat_cmp m k) ≡ false

-- its keys rise
keys_rise : {X : Type 0} (m : BTreeMap ℕ X) (n : ℕ) → IsWithin m n → Rises 0 n m.entries
keys_rise m n is =
    rises_from 0 n m.entries is.ordered (keys_pass (λ k. nat_cmp 0 k ≡ Less) m.entries (λ k there. positive m is.none k there))
    (keys_pass (λ k. k ≤ n) m.entries (λ k there. not_above m n k is.fresh there))

-- its values in order give what its keys give
pub values_by_key : {X Y : Type 0} (f : X → List Y) (F : ℕ → List Y) (m : BTreeMap ℕ X) (n : ℕ) → IsWithin m n
    → ((k : ℕ) → F k ≡ of_value f (get nat_cmp m k)) → flat_map f (values m) ≡ by_key F n
values_by_key f F m n is gives =
    let total : 0 + n ≡ n = omega arith in
    values_above f F n n 0 m.entries total (keys_rise m n is) (λ k over. gives k) ∙ sym (by_key_above F n)

-- what holds of the value at each key holds of each value
pub all_values : {X : Type 0} (P : X → Type 0) (m : BTreeMap ℕ X) (n : ℕ) → IsWithin m n → ((k : ℕ) (x : X) → get nat_cmp m k ≡ Some x → P x)
    → AllByRecursion P (values m)
all_values P m n is each = values_pass P 0 n m.entries (keys_rise m n is) each
