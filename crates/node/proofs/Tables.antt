-- Maps as functions of their keys.
use Rattle.std.proofs.Common.{◌≡◌, ℕ, ◌+◌, ◌<◌, ◌≤◌, Bool, true, false, cond, nat_eq, if◌then◌else◌, Option, Some, refl, sym, ◌∙◌, ap, subst, arith}
use Rattle.std.specs.Option.{is_some, option_map}
use Rattle.std.specs.Ordering.{nat_cmp}
use Rattle.std.specs.Map.{lookup}
use Rattle.std.specs.BTreeMap.{BTreeMap, get, is_at}
use Rattle.std.proofs.lemmas.Bool.Decides.{nat_tests}
use Rattle.protocol.specs.Nodes.{put}

-- a query for a number is at its own key
pub is_at_number : (k q : ℕ) → is_at (nat_cmp k) q ≡ nat_eq q k
is_at_number k q = grind (arith, nat_tests)

-- after a change at a key the map is the function changed there
pub calls_after : {X : Type 0} (m n : BTreeMap ℕ X) (k : ℕ) (w : Option X)
    → ((q : ℕ) → get nat_cmp n q ≡ cond (is_at (nat_cmp k) q) w (get nat_cmp m q))
    → (q : ℕ) → get nat_cmp n q ≡ put (λ j. get nat_cmp m j) k w q
calls_after m n k w h q = h q ∙ ap (λ b. cond b w (get nat_cmp m q)) (is_at_number k q)

-- a key that the map has is not above the last one
pub not_above : {X : Type 0} (m : BTreeMap ℕ X) (last k : ℕ)
    → ((q : ℕ) → last < q → is_some (get nat_cmp m q) ≡ false) → is_some (get nat_cmp m k) ≡ true → k ≤ last
not_above m last k fresh held = grind (arith, fresh k)

-- a key that was absent makes one more entry
pub one_more : {X : Type 0} (old : Option X) (before after : ℕ)
    → is_some old ≡ false → after ≡ before + (if is_some old then 0 else 1) → after ≡ before + 1
one_more old before after absent e = e ∙ ap (λ b. before + (if b then 0 else 1)) absent

-- maps with the same entries have the same values
pub same_calls : {X : Type 0} (m n : BTreeMap ℕ X) → n.entries ≡ m.entries → (k : ℕ) → get nat_cmp n k ≡ get nat_cmp m k
same_calls m n e k = ap (lookup (is_at (nat_cmp k))) e

-- a choice between two, seen through a function
pub map_cond : {X Y : Type 0} (f : X → Y) (b : Bool) (w o : Option X) → option_map f (cond b w o) ≡ cond b (option_map f w) (option_map f o)
map_cond f true w o = refl
map_cond f false w o = refl

-- after a change at a key the map, seen through a function, is the function of keys changed there
pub shown_after : {X Y : Type 0} (f : X → Y) (m n : BTreeMap ℕ X) (k : ℕ) (w : Option X)
    → ((q : ℕ) → get nat_cmp n q ≡ cond (is_at (nat_cmp k) q) w (get nat_cmp m q))
    → (q : ℕ) → option_map f (get nat_cmp n q) ≡ put (λ j. option_map f (get nat_cmp m j)) k (option_map f w) q
shown_after f m n k w h q = ap (option_map f) (calls_after m n k w h q) ∙ map_cond f (nat_eq q k) w (get nat_cmp m q)

-- what holds of each value of a function of keys, and of a new one, holds of each after a change at its key
each_at : {X : Type 0} (P : ℕ → X → Type 0) (f : ℕ → Option X) (k : ℕ) (w : Option X) → ((q : ℕ) (x : X) → f q ≡ Some x → P q x)
    → ((x : X) → w ≡ Some x → P k x) → (q : ℕ) (x : X) (b : Bool) → nat_eq q k ≡ b → cond b w (f q) ≡ Some x → P q x
each_at P f k w was new q x true e is = let same : q ≡ k = grind (arith, nat_tests) in subst (λ j. P j x) (sym same) (new x is)
each_at P f k w was new q x false e is = was q x is

-- the same of a map
pub each_after : {X : Type 0} (P : ℕ → X → Type 0) (m n : BTreeMap ℕ X) (k : ℕ) (w : Option X)
    → ((q : ℕ) → get nat_cmp n q ≡ cond (is_at (nat_cmp k) q) w (get nat_cmp m q))
    → ((q : ℕ) (x : X) → get nat_cmp m q ≡ Some x → P q x) → ((x : X) → w ≡ Some x → P k x) → (q : ℕ) (x : X) → get nat_cmp n q ≡ Some x → P q x
each_after P m n k w h was new q x is =
    each_at P (λ j. get nat_cmp m j) k w was new q x (nat_eq q k) refl (sym (calls_after m n k w h q) ∙ is)

-- a map with the same entries keeps what holds of each
pub each_same : {X : Type 0} (P : ℕ → X → Type 0) (m n : BTreeMap ℕ X) → n.entries ≡ m.entries
    → ((q : ℕ) (x : X) → get nat_cmp m q ≡ Some x → P q x) → (q : ℕ) (x : X) → get nat_cmp n q ≡ Some x → P q x
each_same P m n e was q x is = was q x (sym (same_calls m n e q) ∙ is)
