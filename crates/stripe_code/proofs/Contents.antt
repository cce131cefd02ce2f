-- Lists of bytes, and a content with one of its blocks replaced.
use Rattle.std.proofs.Common.{◌≡◌, ◌≢◌, ℕ, zero, suc, ◌+◌, ◌-◌, ◌*◌, ◌<◌, ◌≤◌, true, inl, inr, List, [], ◌∷◌, ◌++◌, length, get_or, take, drop, sym, ap, subst, ◌∙◌, arith}
use Rattle.std.specs.Prelude.{nat_lt}
use Rattle.std.proofs.Math.Nat.{mul-le-mul_right}
use Rattle.std.proofs.lemmas.Bool.{cases_lt, and_parts, ltb-true}
use Rattle.std.proofs.lemmas.List.{get_or-take, get_or-drop, get_or_append_left, get_or-append_right, length-take-le}
use Rattle.rs_code.specs.Stripes.{byte_of}
use Rattle.rs_code.proofs.StripeLaws.{HoldsBytes}
use Rattle.reg_model.specs.Registers.{with_block}
use Rattle.protocol.specs.Settings.{are_bytes}

-- ---- lists of bytes

-- the list of bytes holds bytes
pub bytes_hold : (xs : List ℕ) → are_bytes xs ≡ true → HoldsBytes xs
bytes_hold [] bytes n = omega arith
bytes_hold (x ∷ xs) bytes zero = ltb-true x 256 (and_parts (nat_lt x 256) (are_bytes xs) bytes).0
bytes_hold (x ∷ xs) bytes (suc n) = bytes_hold xs (and_parts (nat_lt x 256) (are_bytes xs) bytes).1 n

-- two lists of bytes, one after the other
pub append_holds : (xs ys : List ℕ) → HoldsBytes xs → HoldsBytes ys → HoldsBytes (xs ++ ys)
append_holds [] ys hx hy n = hy n
append_holds (x ∷ xs) ys hx hy zero = hx 0
append_holds (x ∷ xs) ys hx hy (suc n) = append_holds xs ys (λ k. hx (suc k)) hy n

-- the first of them, and the others
take_holds : (n : ℕ) (xs : List ℕ) → HoldsBytes xs → HoldsBytes (take n xs)
take_holds zero xs h k = omega arith
take_holds (suc n) [] h k = omega arith
take_holds (suc n) (x ∷ xs) h zero = h 0
take_holds (suc n) (x ∷ xs) h (suc k) = take_holds n xs (λ i. h (suc i)) k

drop_holds : (n : ℕ) (xs : List ℕ) → HoldsBytes xs → HoldsBytes (drop n xs)
drop_holds n xs h k = subst (λ y. y < 256) (sym (get_or-drop n xs k 0)) (h (n + k))

-- ---- one block replaced

-- a content of bytes, with bytes in place of one block, is one of bytes
pub with_block_holds : (size j : ℕ) (bytes content : List ℕ) → HoldsBytes bytes → HoldsBytes content → HoldsBytes (with_block size j bytes content)
with_block_holds size j bytes content small_bytes small =
    append_holds (take (j * size) content) (bytes ++ drop ((j + 1) * size) content) (take_holds (j * size) content small)
    (append_holds bytes (drop ((j + 1) * size) content) small_bytes (drop_holds ((j + 1) * size) content small))

-- the replaced block's place lies within the content
room : (m size j : ℕ) (content : List ℕ) → length content ≡ m * size → j < m → j * size + size ≤ length content
room m size j content long within =
    let some : suc j * size ≤ m * size = mul-le-mul_right size within in
    omega arith

-- its bytes are the new ones
pub with_block_own : (m size j t : ℕ) (bytes content : List ℕ) → length content ≡ m * size → length bytes ≡ size → j < m → t < size
    → byte_of size (with_block size j bytes content) t j ≡ get_or bytes t 0
with_block_own m size j t bytes content long bytes_long within h =
    let fits : j * size + size ≤ length content = room m size j content long within in
    let first : length (take (j * size) content) ≡ j * size = length-take-le (j * size) content (omega arith) in
    get_or-append_right (take (j * size) content) (bytes ++ drop ((j + 1) * size) content) (j * size) (j * size + t) 0 first (omega arith)
    ∙ ap (λ n. get_or (bytes ++ drop ((j + 1) * size) content) n 0) (omega arith)
    ∙ get_or_append_left bytes (drop ((j + 1) * size) content) 0 t (omega arith)

-- bytes before it stay
before : (size j n : ℕ) (bytes content : List ℕ) → j * size ≤ length content → n < j * size
    → get_or (with_block size j bytes content) n 0 ≡ get_or content n 0
before size j n bytes content fits h =
    get_or_append_left (take (j * size) content) (bytes ++ drop ((j + 1) * size) content) 0 n (omega (arith, length-take-le (j * size) content fits))
    ∙ get_or-take (j * size) content n 0 h

-- and those after it
after : (size j n : ℕ) (bytes content : List ℕ) → j * size ≤ length content → length bytes ≡ size → (j + 1) * size ≤ n
    → get_or (with_block size j bytes content) n 0 ≡ get_or content n 0
after size j n bytes content fits bytes_long h =
    let first : length (take (j * size) content) ≡ j * size = length-take-le (j * size) content fits in
    get_or-append_right (take (j * size) content) (bytes ++ drop ((j + 1) * size) content) (j * size) n 0 first (omega arith)
    ∙ get_or-append_right bytes (drop ((j + 1) * size) content) size (n - j * size) 0 bytes_long (omega arith)
    ∙ get_or-drop ((j + 1) * size) content (n - j * size - size) 0
    ∙ ap (λ k. get_or content k 0) (omega arith)

-- so the bytes of the other blocks stay
pub with_block_other : (m size i j t : ℕ) (bytes content : List ℕ) → length content ≡ m * size → length bytes ≡ size → j < m → i ≢ j → t < size
    → byte_of size (with_block size j bytes content) t i ≡ byte_of size content t i
with_block_other m size i j t bytes content long bytes_long within other h =
    let fits : j * size + size ≤ length content = room m size j content long within in
    elim (cases_lt i j) as (λ _. byte_of size (with_block size j bytes content) t i ≡ byte_of size content t i) [
      | inl lt ↦
          let below : suc i * size ≤ j * size = mul-le-mul_right size lt in
          before size j (i * size + t) bytes content (omega arith) (omega arith)
      | inr le ↦
          let above : (j + 1) * size ≤ i * size = mul-le-mul_right size (omega arith) in
          after size j (i * size + t) bytes content (omega arith) bytes_long (omega arith)
    ]
