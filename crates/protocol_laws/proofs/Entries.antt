-- The entries of a stripe's operations: which operation each is of, and which operations have one.
use Rattle.std.proofs.Common.{◌≡◌, ◌≢◌, ℕ, zero, suc, ◌<◌, ◌≤◌, ◌⊎◌, inl, inr, ⊎_elim, Bool, true, not, cond, eqb, List, [], ◌∷◌, ◌++◌, length, get_or, map, Option, Some, None, refl, sym, ap, ◌∙◌, subst, arith}
use Rattle.std.specs.List.{All, AllPairs, Contains, IsDistinct, list_any}
use Rattle.std.proofs.lemmas.Bool.{cond_both, cases_eq, ne_eqb}
use Rattle.std.proofs.lemmas.Option.{slice_get-get_or}
use Rattle.std.proofs.lemmas.List.{get_or-map, length-map, append-nil}
use Rattle.std.proofs.lemmas.List.Elements.{All-cons, All-nil, All-append, All-weaker, Contains-append_left, Contains-append_right}
use Rattle.std.proofs.lemmas.List.Quantifiers.{all_pairs_push}
use Rattle.std.proofs.lemmas.Map.Keys.{IsDistinct-from_apart, any_passes_from_place}
use Rattle.fab_base.specs.declared.stamps.Stamp.{Stamp}
use Rattle.fab_base.specs.Stamps.{first_stamp}
use Rattle.reg_model.specs.declared.entries.Entry.{Entry}
use Rattle.protocol.specs.Worlds.{Operation}
use Rattle.protocol.specs.Happenings.{is_of, entry_with, entry_at, entries_to}

-- the entry is operation o's
pub record IsEntryOf (operations : ℕ → Option Operation) (g s : ℕ) (e : Entry) : Type 0 where
  pub operation : Operation
  pub is : operations e.operation ≡ Some operation
  pub of : is_of g s operation ≡ true
  pub version : operation.version ≡ Some e.stamp
  pub reader : e.reader ≡ not operation.made

-- the entry of an operation of this version
abbrev pub entry_of : ℕ → Operation → Stamp → Entry
entry_of n o t = record { stamp = t; reader = not o.made; operation = n }

-- at most one entry, and that is number n's
abbrev IsOneOf : ℕ → List Entry → Type 0
IsOneOf n entries = (entries ≡ []) ⊎ ((e : Entry) × (e.operation ≡ n) × (entries ≡ e ∷ []))

with_one : (n : ℕ) (reader : Bool) (version : Option Stamp) → IsOneOf n (entry_with n reader version)
with_one n reader None = inl refl
with_one n reader (Some t) = inr (record { stamp = t; reader = reader; operation = n }, refl, refl)

at_one : (g s n : ℕ) (o : Option Operation) → IsOneOf n (entry_at g s n o)
at_one g s n None = inl refl
at_one g s n (Some o) = cond_both (is_of g s o) (entry_with n (not o.made) o.version) [] (λ (l : List Entry). IsOneOf n l)
    (λ of. with_one n (not o.made) o.version) (λ other. inl refl)

with_of : (operations : ℕ → Option Operation) (g s n : ℕ) (o : Operation) (version : Option Stamp) → operations n ≡ Some o → is_of g s o ≡ true
    → o.version ≡ version
    → All (IsEntryOf operations g s) (entry_with n (not o.made) version)
with_of operations g s n o None is of same = All-nil (IsEntryOf operations g s)
with_of operations g s n o (Some t) is of same =
    All-cons (IsEntryOf operations g s) (entry_of n o t) [] (record { operation = o; is = is; of = of; version = same; reader = refl })
    (All-nil (IsEntryOf operations g s))

at_of : (operations : ℕ → Option Operation) (g s n : ℕ) (o : Option Operation) → operations n ≡ o → All (IsEntryOf operations g s) (entry_at g s n o)
at_of operations g s n None is = All-nil (IsEntryOf operations g s)
at_of operations g s n (Some o) is =
    cond_both (is_of g s o) (entry_with n (not o.made) o.version) [] (λ (l : List Entry). All (IsEntryOf operations g s) l)
    (λ of. with_of operations g s n o o.version is of refl) (λ other. All-nil (IsEntryOf operations g s))

-- each entry is of an operation of the stripe
pub entries_of : (operations : ℕ → Option Operation) (g s n : ℕ) → All (IsEntryOf operations g s) (entries_to operations g s n)
entries_of operations g s zero = All-nil (IsEntryOf operations g s)
entries_of operations g s (suc n) =
    All-append (IsEntryOf operations g s) (entries_to operations g s n) (entry_at g s (suc n) (operations (suc n))) (entries_of operations g s n)
    (at_of operations g s (suc n) (operations (suc n)) refl)

-- their numbers are at most n
entries_below : (operations : ℕ → Option Operation) (g s n : ℕ) → All (λ (e : Entry). e.operation ≤ n) (entries_to operations g s n)
entries_below operations g s zero = All-nil (λ (e : Entry). e.operation ≤ zero)
entries_below operations g s (suc n) =
    All-append (λ (e : Entry). e.operation ≤ suc n) (entries_to operations g s n) (entry_at g s (suc n) (operations (suc n)))
    (All-weaker (λ (e : Entry). e.operation ≤ n) (λ (e : Entry). e.operation ≤ suc n) (λ e le. omega arith) (entries_to operations g s n)
    (entries_below operations g s n))
    (one_below (suc n) (entry_at g s (suc n) (operations (suc n))) (at_one g s (suc n) (operations (suc n))))
  where
    one_below : (m : ℕ) (entries : List Entry) → IsOneOf m entries → All (λ (e : Entry). e.operation ≤ m) entries
    one_below m entries (inl none) = subst (λ (l : List Entry). All (λ (e : Entry). e.operation ≤ m) l) (sym none)
        (All-nil (λ (e : Entry). e.operation ≤ m))
    one_below m entries (inr (e, is, one)) =
        subst (λ (l : List Entry). All (λ (e : Entry). e.operation ≤ m) l) (sym one)
        (All-cons (λ (e : Entry). e.operation ≤ m) e [] (omega arith) (All-nil (λ (e : Entry). e.operation ≤ m)))

-- the numbers of the entries rise
abbrev NumbersBelow : Entry → Entry → Type 0
NumbersBelow a b = a.operation < b.operation

push_rises : (m : ℕ) (entries more : List Entry) → AllPairs NumbersBelow entries → All (λ (e : Entry). e.operation < m) entries → IsOneOf m more
    → AllPairs NumbersBelow (entries ++ more)
push_rises m entries more pairs below (inl none) =
    subst (λ (l : List Entry). AllPairs NumbersBelow l) (sym (ap (λ (l : List Entry). entries ++ l) none ∙ append-nil entries)) pairs
push_rises m entries more pairs below (inr (e, is, one)) =
    subst (λ (l : List Entry). AllPairs NumbersBelow (entries ++ l)) (sym one)
    (all_pairs_push NumbersBelow entries e pairs
    (λ k d lt. (let lower : (get_or entries k d).operation < m = below k d lt in omega (arith, is))))

entries_rise : (operations : ℕ → Option Operation) (g s n : ℕ) → AllPairs NumbersBelow (entries_to operations g s n)
entries_rise operations g s zero = λ i j d lt le. absurd (omega arith)
entries_rise operations g s (suc n) =
    push_rises (suc n) (entries_to operations g s n) (entry_at g s (suc n) (operations (suc n))) (entries_rise operations g s n)
    (All-weaker (λ (e : Entry). e.operation ≤ n) (λ (e : Entry). e.operation < suc n) (λ e le. omega arith) (entries_to operations g s n)
    (entries_below operations g s n))
    (at_one g s (suc n) (operations (suc n)))

-- two entries of different operations
abbrev pub AreApart : Entry → Entry → Type 0
AreApart a b = a.operation ≢ b.operation

-- no two entries are of one operation
pub entries_apart : (operations : ℕ → Option Operation) (g s n : ℕ) → AllPairs AreApart (entries_to operations g s n)
entries_apart operations g s n i j d lt le =
    let rise : (get_or (entries_to operations g s n) i d).operation < (get_or (entries_to operations g s n) j d).operation
    = entries_rise operations g s n i j d lt le in
    λ same. omega arith

-- such entries have distinct numbers
pub numbers_distinct : (entries : List Entry) → AllPairs AreApart entries → IsDistinct eqb (map (λ e. e.operation) entries)
numbers_distinct entries apart =
    let long : length (map (λ (e : Entry). e.operation) entries) ≡ length entries = length-map entries (λ (e : Entry). e.operation) in
    IsDistinct-from_apart eqb (map (λ (e : Entry). e.operation) entries)
    (λ i j d lt le.
    let e : Entry = record { stamp = first_stamp; reader = true; operation = 0 } in
    let one : get_or (map (λ (e : Entry). e.operation) entries) i d ≡ (get_or entries i e).operation =
    get_or-map (λ (e : Entry). e.operation) entries i e d (omega arith) in
    let other : get_or (map (λ (e : Entry). e.operation) entries) j d ≡ (get_or entries j e).operation =
    get_or-map (λ (e : Entry). e.operation) entries j e d (omega arith) in
    ne_eqb (get_or (map (λ (e : Entry). e.operation) entries) i d) (get_or (map (λ (e : Entry). e.operation) entries) j d)
    (λ same. apart i j e lt (omega arith) (sym one ∙ same ∙ other)))

at_has : (g s n : ℕ) (o : Operation) (t : Stamp) → is_of g s o ≡ true → o.version ≡ Some t → Contains (entry_at g s n (Some o)) (entry_of n o t)
at_has g s n o t of version =
    let is : entry_at g s n (Some o) ≡ entry_of n o t ∷ [] =
    ap (λ (b : Bool). cond b (entry_with n (not o.made) o.version) []) of ∙ ap (λ (v : Option Stamp). entry_with n (not o.made) v) version in
    subst (λ (l : List Entry). Contains l (entry_of n o t)) (sym is) (0, omega arith, refl)

-- each operation of the stripe that made or read a version has its entry
pub entries_have : (operations : ℕ → Option Operation) (g s n k : ℕ) (o : Operation) (t : Stamp) → 1 ≤ k → k ≤ n → operations k ≡ Some o
    → is_of g s o ≡ true
    → o.version ≡ Some t → Contains (entries_to operations g s n) (entry_of k o t)
entries_have operations g s zero k o t low high is of version = absurd (omega arith)
entries_have operations g s (suc n) k o t low high is of version = ⊎_elim
    (λ (last : k ≡ suc n).
    let has : Contains (entry_at g s k (operations k)) (entry_of k o t) =
    subst (λ (x : Option Operation). Contains (entry_at g s k x) (entry_of k o t)) (sym is) (at_has g s k o t of version) in
    Contains-append_right (entries_to operations g s n) (entry_at g s (suc n) (operations (suc n))) (entry_of k o t)
    (subst (λ (m : ℕ). Contains (entry_at g s m (operations m)) (entry_of k o t)) last has))
    (λ (other : k ≢ suc n).
    Contains-append_left (entries_to operations g s n) (entry_at g s (suc n) (operations (suc n))) (entry_of k o t)
    (entries_have operations g s n k o t low (omega arith) is of version))
    (cases_eq k (suc n))

-- the number of an entry that stands in a list stands among the numbers
pub Contains-number : (entries : List Entry) (e : Entry) → Contains entries e → Contains (map (λ x. x.operation) entries) e.operation
Contains-number entries e (k, lt, is) =
    let long : length (map (λ (x : Entry). x.operation) entries) ≡ length entries = length-map entries (λ (x : Entry). x.operation) in
    (k, omega arith, get_or-map (λ (x : Entry). x.operation) entries k e e.operation lt ∙ ap (λ (x : Entry). x.operation) is)

-- a test that an element passes passes on the list
pub any_passes : {A : Type 0} (test : A → Bool) (xs : List A) (x : A) → Contains xs x → test x ≡ true → list_any test xs ≡ true
any_passes test xs x (k, lt, is) pass =
    any_passes_from_place test xs k x (slice_get-get_or xs k x lt ∙ ap (λ y. Some y) is) pass
