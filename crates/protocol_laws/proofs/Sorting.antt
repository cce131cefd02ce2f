-- Entries in ascending order: the same entries, each before the next.
use Rattle.std.proofs.Common.{◌≡◌, suc, ◌+◌, false, List, [], ◌∷◌, get_or, sym, arith}
use Rattle.std.specs.List.{All, AllPairs}
use Rattle.std.specs.List.Sorted.{IsPermutation, IsSortedBy}
use Rattle.std.proofs.lemmas.Bool.{cond_both}
use Rattle.std.proofs.lemmas.List.Elements.{All-cons, All-nil, All-head, All-tail}
use Rattle.std.proofs.lemmas.List.Kept.{AllPairs-cons}
use Rattle.std.proofs.lemmas.List.Sorted.{IsPermutation-refl, IsPermutation-trans, IsPermutation-cons, IsPermutation-middle, All-permutation}
use Rattle.reg_model.specs.declared.entries.Entry.{Entry}
use Rattle.reg_model.specs.Walk.{entry_below}
use Rattle.reg_model.proofs.EntryOrder.{entry_order}
use Rattle.protocol.specs.Happenings.{inserted, ascending}
use Rattle.protocol_laws.proofs.Entries.{AreApart}

-- an entry in its place is one more entry
inserted_permutation : (e : Entry) (entries : List Entry) → IsPermutation (e ∷ entries) (inserted e entries)
inserted_permutation e [] = IsPermutation-refl (e ∷ [])
inserted_permutation e (x ∷ entries) =
    cond_both (entry_below e x) (e ∷ (x ∷ entries)) (x ∷ inserted e entries) (λ (l : List Entry). IsPermutation (e ∷ (x ∷ entries)) l)
    (λ below. IsPermutation-refl (e ∷ (x ∷ entries)))
    (λ above. IsPermutation-trans (e ∷ (x ∷ entries)) (x ∷ (e ∷ entries)) (x ∷ inserted e entries) (IsPermutation-middle (e ∷ []) x entries)
    (IsPermutation-cons x (e ∷ entries) (inserted e entries) (inserted_permutation e entries)))

-- in ascending order stand the same entries
pub ascending_permutation : (entries : List Entry) → IsPermutation entries (ascending entries)
ascending_permutation [] = IsPermutation-refl []
ascending_permutation (e ∷ entries) =
    IsPermutation-trans (e ∷ entries) (e ∷ ascending entries) (inserted e (ascending entries))
    (IsPermutation-cons e entries (ascending entries) (ascending_permutation entries)) (inserted_permutation e (ascending entries))

-- no later entry is before an earlier one
abbrev pub InOrder : List Entry → Type 0
InOrder entries = AllPairs (λ (a b : Entry). entry_below b a ≡ false) entries

pub AllPairs-head : {A : Type 0} (R : A → A → Type 0) (x : A) (xs : List A) → AllPairs R (x ∷ xs) → All (R x) xs
AllPairs-head R x xs pairs k d lt = pairs 0 (suc k) d (omega arith) (omega arith)

pub AllPairs-tail : {A : Type 0} (R : A → A → Type 0) (x : A) (xs : List A) → AllPairs R (x ∷ xs) → AllPairs R xs
AllPairs-tail R x xs pairs i j d lt le = pairs (suc i) (suc j) d (omega arith) (omega arith)

-- an entry in its place keeps the order
inserted_order : (e : Entry) (entries : List Entry) → InOrder entries → InOrder (inserted e entries)
inserted_order e [] order = AllPairs-cons (λ (a b : Entry). entry_below b a ≡ false) e [] (All-nil (λ (y : Entry). entry_below y e ≡ false)) order
inserted_order e (x ∷ entries) order =
    let rest : All (λ (y : Entry). entry_below y x ≡ false) entries = AllPairs-head (λ (a b : Entry). entry_below b a ≡ false) x entries order in
    cond_both (entry_below e x) (e ∷ (x ∷ entries)) (x ∷ inserted e entries) (λ (l : List Entry). InOrder l)
    (λ below.
    let after : entry_below x e ≡ false = entry_order.one_way e x below in
    AllPairs-cons (λ (a b : Entry). entry_below b a ≡ false) e (x ∷ entries)
    (All-cons (λ (y : Entry). entry_below y e ≡ false) x entries after
    (λ k d lt. entry_order.chain (get_or entries k d) x e (rest k d lt) after))
    order)
    (λ above.
    AllPairs-cons (λ (a b : Entry). entry_below b a ≡ false) x (inserted e entries)
    (All-permutation (λ (y : Entry). entry_below y x ≡ false) (e ∷ entries) (inserted e entries) (inserted_permutation e entries)
    (All-cons (λ (y : Entry). entry_below y x ≡ false) e entries above rest))
    (inserted_order e entries (AllPairs-tail (λ (a b : Entry). entry_below b a ≡ false) x entries order)))

-- ascending entries are in order
pub ascending_order : (entries : List Entry) → InOrder (ascending entries)
ascending_order [] = λ i j d lt le. absurd (omega arith)
ascending_order (e ∷ entries) = inserted_order e (ascending entries) (ascending_order entries)

-- entries in order are sorted
pub IsSortedBy-from_order : (entries : List Entry) → InOrder entries → IsSortedBy entry_below entries
IsSortedBy-from_order entries order k d low lt = order k (k + 1) d (omega arith) lt

-- an entry in its place stays apart from the others
inserted_apart : (e : Entry) (entries : List Entry) → All (AreApart e) entries → AllPairs AreApart entries → AllPairs AreApart (inserted e entries)
inserted_apart e [] each apart = AllPairs-cons AreApart e [] each apart
inserted_apart e (x ∷ entries) each apart =
    cond_both (entry_below e x) (e ∷ (x ∷ entries)) (x ∷ inserted e entries) (λ (l : List Entry). AllPairs AreApart l)
    (λ below. AllPairs-cons AreApart e (x ∷ entries) each apart)
    (λ above.
    AllPairs-cons AreApart x (inserted e entries)
    (All-permutation (AreApart x) (e ∷ entries) (inserted e entries) (inserted_permutation e entries)
    (All-cons (AreApart x) e entries (λ same. All-head (AreApart e) x entries each (sym same)) (AllPairs-head AreApart x entries apart)))
    (inserted_apart e entries (All-tail (AreApart e) x entries each) (AllPairs-tail AreApart x entries apart)))

-- ascending entries are apart, where the entries are
pub ascending_apart : (entries : List Entry) → AllPairs AreApart entries → AllPairs AreApart (ascending entries)
ascending_apart [] apart = apart
ascending_apart (e ∷ entries) apart =
    inserted_apart e (ascending entries)
    (All-permutation (AreApart e) entries (ascending entries) (ascending_permutation entries) (AllPairs-head AreApart e entries apart))
    (ascending_apart entries (AllPairs-tail AreApart e entries apart))
