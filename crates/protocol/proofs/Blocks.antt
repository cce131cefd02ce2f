-- A content with one of its blocks replaced: that block is the new one, the others stay, and it is a content still.
use Rattle.std.proofs.Common.{◌≡◌, ◌≢◌, ℕ, zero, suc, ◌+◌, ◌-◌, ◌*◌, ◌<◌, ◌≤◌, true, inl, inr, List, [], ◌∷◌, ◌++◌, length, get_or, take, drop, refl, sym, ap, ◌∙◌, arith, length-append, length-drop}
use Rattle.std.specs.Prelude.{nat_lt, nat_eq}
use Rattle.std.proofs.Math.Nat.{mul-le-mul_right}
use Rattle.std.proofs.Math.Seq.{take-append_seam, drop-append_seam}
use Rattle.std.proofs.lemmas.Bool.{cases_lt, and_parts, and_from, eqb-true, ltb-true}
use Rattle.std.proofs.lemmas.List.{ext_get_or, get_or-take, get_or-drop, get_or_append_left, get_or-append_right, length-take-le}
use Rattle.std.proofs.lemmas.List.Folds.{list_all-append}
use Rattle.fab_base.specs.declared.asks.Op.{Op}
use Rattle.fab_base.specs.declared.asks.Op.TheVariants.{ReadBlock, WriteBlock, ReadStripe, WriteStripe}
use Rattle.reg_model.specs.Registers.{block_of, with_block, after_op}
use Rattle.protocol.specs.Settings.{are_bytes}
use Rattle.protocol.specs.Nodes.{has_block, has_length}

-- a stripe's content: the bytes of m blocks
abbrev pub IsContent : ℕ → ℕ → List ℕ → Type 0
IsContent m block content = (length content ≡ m * block) × (are_bytes content ≡ true)

-- block j of m blocks ends within them
pub block_room : (j m block : ℕ) → j < m → j * block + block ≤ m * block
block_room j m block below = let some : suc j * block ≤ m * block = mul-le-mul_right block below in omega arith

-- a block within a list has its length
pub block_long : (block j : ℕ) (content : List ℕ) → j * block + block ≤ length content → length (block_of block j content) ≡ block
block_long block j content fits =
    length-take-le block (drop (j * block) content) (let rest = length-drop (j * block) content in omega (arith, rest, fits))

-- byte t of a block
byte_at : (block k t : ℕ) (content : List ℕ) → t < block → get_or (block_of block k content) t 0 ≡ get_or content (k * block + t) 0
byte_at block k t content within = get_or-take block (drop (k * block) content) t 0 within ∙ get_or-drop (k * block) content t 0

module _ (block j : ℕ) (bytes content : List ℕ) (fits : j * block + block ≤ length content) (long : length bytes ≡ block) where
  -- what stands before the block, and what from it on
  abbrev front : List ℕ
  front = take (j * block) content

  abbrev back : List ℕ
  back = drop ((j + 1) * block) content

  front_long : length (take (j * block) content) ≡ j * block
  front_long = length-take-le (j * block) content (omega arith)

  back_long : length (drop ((j + 1) * block) content) ≡ length content - (j + 1) * block
  back_long = length-drop ((j + 1) * block) content

  -- it has as many bytes as before
  pub length_with : length (with_block block j bytes content) ≡ length content
  length_with =
      length-append front (bytes ++ back) ∙ ap (λ n. length front + n) (length-append bytes back)
      ∙ (let one : (j + 1) * block ≡ j * block + block = omega arith in omega (arith, front_long, back_long, long, fits, one))

  -- the block is the new one
  pub block_same : block_of block j (with_block block j bytes content) ≡ bytes
  block_same =
      ap (λ n. take block (drop n (front ++ (bytes ++ back)))) (sym front_long)
      ∙ ap (take block) (drop-append_seam front (bytes ++ back))
      ∙ ap (λ n. take n (bytes ++ back)) (sym long) ∙ take-append_seam bytes back

  -- bytes before it stay, and those after it
  before : (n : ℕ) → n < j * block → get_or (with_block block j bytes content) n 0 ≡ get_or content n 0
  before n h = get_or_append_left front (bytes ++ back) 0 n (omega (arith, front_long)) ∙ get_or-take (j * block) content n 0 h

  after : (n : ℕ) → (j + 1) * block ≤ n → get_or (with_block block j bytes content) n 0 ≡ get_or content n 0
  after n h =
      get_or-append_right front (bytes ++ back) (j * block) n 0 front_long (omega arith)
      ∙ get_or-append_right bytes back block (n - j * block) 0 long (omega arith)
      ∙ get_or-drop ((j + 1) * block) content (n - j * block - block) 0
      ∙ ap (λ k. get_or content k 0) (omega arith)

  -- so the other blocks stay
  pub block_other : (k : ℕ) → k ≢ j → k * block + block ≤ length content
      → block_of block k (with_block block j bytes content) ≡ block_of block k content
  block_other k other inside =
      ext_get_or 0 (block_of block k (with_block block j bytes content)) (block_of block k content)
      (block_long block k (with_block block j bytes content) (omega (arith, length_with, inside)) ∙ sym (block_long block k content inside))
      (λ t h.
      let within : t < block = omega (arith, h, block_long block k (with_block block j bytes content) (omega (arith, length_with, inside))) in
      byte_at block k t (with_block block j bytes content) within ∙ stays t within ∙ sym (byte_at block k t content within))
    where
      stays : (t : ℕ) → t < block → get_or (with_block block j bytes content) (k * block + t) 0 ≡ get_or content (k * block + t) 0
      stays t within =
          elim (cases_lt k j) as (λ _. get_or (with_block block j bytes content) (k * block + t) 0 ≡ get_or content (k * block + t) 0) [
            | inl lt ↦ let below : suc k * block ≤ j * block = mul-le-mul_right block lt in before (k * block + t) (omega arith)
            | inr le ↦ let above : (j + 1) * block ≤ k * block = mul-le-mul_right block (omega arith) in after (k * block + t) (omega arith)
          ]

-- parts of a list of bytes are bytes
take_bytes : (n : ℕ) (bytes : List ℕ) → are_bytes bytes ≡ true → are_bytes (take n bytes) ≡ true
take_bytes zero bytes are = refl
take_bytes (suc n) [] are = refl
take_bytes (suc n) (x ∷ bytes) are =
    let parts = and_parts (nat_lt x 256) (are_bytes bytes) are in and_from (nat_lt x 256) (are_bytes (take n bytes)) parts.0 (take_bytes n bytes parts.1)

drop_bytes : (n : ℕ) (bytes : List ℕ) → are_bytes bytes ≡ true → are_bytes (drop n bytes) ≡ true
drop_bytes zero bytes are = are
drop_bytes (suc n) [] are = refl
drop_bytes (suc n) (x ∷ bytes) are = drop_bytes n bytes (and_parts (nat_lt x 256) (are_bytes bytes) are).1

append_bytes : (xs ys : List ℕ) → are_bytes xs ≡ true → are_bytes ys ≡ true → are_bytes (xs ++ ys) ≡ true
append_bytes xs ys some more =
    list_all-append (λ byte. nat_lt byte 256) xs ys ∙ and_from (are_bytes xs) (are_bytes ys) some more

-- what an operation makes of a content is a content
pub formed_after : (m block : ℕ) (op : Op) (content : List ℕ) → has_block m op ≡ true → has_length m block op ≡ true → IsContent m block content
    → IsContent m block (after_op block op content)
formed_after m block (ReadBlock j) content has long formed = formed
formed_after m block ReadStripe content has long formed = formed
formed_after m block (WriteBlock j bytes) content has long formed =
    let below : j < m = ltb-true j m has in
    let given = and_parts (are_bytes bytes) (nat_eq (length bytes) block) long in
    let room = block_room j m block below in (
      length_with block j bytes content (omega (arith, room, formed.0)) (eqb-true (length bytes) block given.1) ∙ formed.0,
      append_bytes (take (j * block) content) (bytes ++ drop ((j + 1) * block) content) (take_bytes (j * block) content formed.1)
          (append_bytes bytes (drop ((j + 1) * block) content) given.0 (drop_bytes ((j + 1) * block) content formed.1)),
    )
formed_after m block (WriteStripe bytes) content has long formed =
    let given = and_parts (are_bytes bytes) (nat_eq (length bytes) (m * block)) long in (eqb-true (length bytes) (m * block) given.1, given.0)
