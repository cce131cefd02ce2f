-- The keys of a table, which stand in byte order.
use Rattle.std.proofs.Common.{◌≡◌, ℕ, true, false, cond, List, [], ◌∷◌, Option, Some, None, map, String, Global, string_bytes, Less, Greater, refl, ap, ◌∙◌, nat_cmp, is_lt}
use Rattle.std.specs.Cmp.Lexicographic.{slice_cmp}
use Rattle.std.specs.List.{AllByRecursion}
use Rattle.std.specs.List.Sorted.{IsStrictlySortedBy}
use Rattle.std.specs.Ordering.{ordering_reverse}
use Rattle.std.proofs.lemmas.Cmp.{nat_list_cmp_total}
use Rattle.std.proofs.lemmas.Map.Keys.{sorted_tail}
use Rattle.std.specs.String.{string_cmp}
use Rattle.toml.specs.View.{members_view}
use Rattle.toml.specs.declared.value.Value.{Value}
use Rattle.layout.specs.declared.faults.Key.{Key}
use Rattle.layout.specs.Checks.{keys_of, is_known, lesser, least_other}

-- the texts of some keys of a map
abbrev pub texts_of : List (String Global) → List (List ℕ)
texts_of keys = map (λ key. string_bytes key) keys

-- the keys of a table are the texts of its map's keys
pub keys_of-view : (entries : List (String Global × Value)) → keys_of (members_view entries) ≡ texts_of (map (λ entry. entry.0) entries)
keys_of-view [] = refl
keys_of-view (entry ∷ entries) = ap (λ (texts : List (List ℕ)). string_bytes entry.0 ∷ texts) (keys_of-view entries)

-- a text is below the best one, if there is one
abbrev pub IsBelow : List ℕ → Option (List ℕ) → Type 0
IsBelow text None = Unit {0}
IsBelow text (Some best) = slice_cmp nat_cmp best text ≡ Greater

-- the lesser of two texts above one is above it
below_lesser : (text next : List ℕ) (best : Option (List ℕ)) → slice_cmp nat_cmp next text ≡ Greater → IsBelow text best
    → IsBelow text (Some (lesser next best))
below_lesser text next None above below = above
below_lesser text next (Some best) above below =
    elim (is_lt (slice_cmp nat_cmp best next)) as (λ b. slice_cmp nat_cmp (cond b best next) text ≡ Greater) [ true ↦ below | false ↦ above ]

-- a text below some keys is below the least of them that is not known
below_least : (known : List Key) (text : List ℕ) (keys : List (String Global))
    → AllByRecursion (λ key. slice_cmp nat_cmp text (string_bytes key) ≡ Less) keys
    → IsBelow text (least_other known (texts_of keys))
below_least known text [] above = tt
below_least known text (key ∷ keys) above =
    let rest : IsBelow text (least_other known (texts_of keys)) = below_least known text keys above.1 in
    let here : slice_cmp nat_cmp (string_bytes key) text ≡ Greater =
    nat_list_cmp_total.antisymm (string_bytes key) text ∙ ap ordering_reverse above.0 in
    elim (is_known known (string_bytes key)) as (λ b. IsBelow text
    (cond b (least_other known (texts_of keys)) (Some (lesser (string_bytes key) (least_other known (texts_of keys)))))) [
      | true ↦ rest
      | false ↦ below_lesser text (string_bytes key) (least_other known (texts_of keys)) here rest
    ]

-- a text below another is the lesser
lesser-below : (text : List ℕ) (best : Option (List ℕ)) → IsBelow text best → lesser text best ≡ text
lesser-below text None below = refl
lesser-below text (Some best) below = rw below refl

-- the first key that is not known is the least, where the keys ascend
pub least_other-first : (known : List Key) (key : String Global) (keys : List (String Global)) → IsStrictlySortedBy string_cmp (key ∷ keys)
    → is_known known (string_bytes key) ≡ false → least_other known (texts_of (key ∷ keys)) ≡ Some (string_bytes key)
unfolding IsStrictlySortedBy
least_other-first known key keys sorted other =
    rw other (ap (λ (text : List ℕ). Some text) (lesser-below (string_bytes key) _ (below_least known (string_bytes key) keys sorted.0)))

-- what follows the first key ascends
pub sorted_rest : (key : String Global) (keys : List (String Global)) → IsStrictlySortedBy string_cmp (key ∷ keys)
    → IsStrictlySortedBy string_cmp keys
sorted_rest key keys sorted = sorted_tail string_cmp key keys sorted

-- a known key is passed over
pub least_other-known : (known : List Key) (key : String Global) (keys : List (String Global)) → is_known known (string_bytes key) ≡ true
    → least_other known (texts_of (key ∷ keys)) ≡ least_other known (texts_of keys)
least_other-known known key keys is = rw is refl
