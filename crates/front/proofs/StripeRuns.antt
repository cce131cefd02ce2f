-- The data blocks of a stripe follow one another in their volume.
use Rattle.std.proofs.Common.{◌≡◌, ℕ, suc, ◌+◌, ◌-◌, ◌*◌, ◌/◌, ◌%◌, ◌<◌, ◌≤◌, nat_lt, Bool, true, false, cond, List, [], ◌∷◌, Option, Some, None, option_and_then, refl, sym, ap, subst, ◌∙◌, mul_comm, arith}
use Rattle.std.proofs.lemmas.Bool.Decides.{nat_tests}
use Rattle.std.proofs.lemmas.Nat.{div-mul-add, mod-mul-add, div-add-mod', mul-add-lt}
use Rattle.std.proofs.Math.Nat.{mul-le-mul_right, le_of_mul-le-mul_right}
use Rattle.fab_base.specs.declared.identities.GroupId.{GroupId}
use Rattle.fab_base.specs.declared.segments.Segment.{Segment}
use Rattle.fab_base.specs.Layouts.{Volume, Layout, group_of}
use Rattle.layout.specs.declared.places.Place.{Place}
use Rattle.layout.specs.Places.{volume_of, blocks_of, stripe_blocks, segment_length, place_from, place_in, place_of}
use Rattle.layout.proofs.PlaceLaws.{numbers}
use Rattle.front.specs.Blocks.{block_of}

-- the data blocks of a stripe of a group
abbrev pub width : Layout → GroupId → ℕ
width layout group = blocks_of (group_of layout group.0)

-- the place of data block k is the first byte of a block, and the stripe's other blocks follow
pub record Follows (layout : Layout) (at : ℕ → Option Place) (k : ℕ) (place : Place) : Type 0 where
  pub within : place.within ≡ 0
  pub some : 1 ≤ width layout place.group
  pub block : place.block < width layout place.group
  pub next : (i : ℕ) → place.block + i < width layout place.group
      → at ((k + i) * layout.block) ≡ Some (block_of place.group place.stripe (place.block + i))

-- the number of a data block, and its first byte
number_of : (k b : ℕ) → 1 ≤ b → k * b / b ≡ k
number_of k b some = let same : k * b ≡ k * b + 0 = omega arith in ap (λ n. n / b) same ∙ div-mul-add k b 0 some

first_byte : (k b : ℕ) → 1 ≤ b → k * b % b ≡ 0
first_byte k b some = let same : k * b ≡ k * b + 0 = omega arith in ap (λ n. n % b) same ∙ mod-mul-add k b 0 some

-- so many blocks further in the same stripe
same_stripe : (k i m : ℕ) → k % m + i < m → (k + i) / m ≡ k / m
same_stripe k i m h =
    let all : k + i ≡ k / m * m + (k % m + i) = omega (arith, div-add-mod' k m) in
    ap (λ n. n / m) all ∙ div-mul-add (k / m) m (k % m + i) h

later_block : (k i m : ℕ) → k % m + i < m → (k + i) % m ≡ k % m + i
later_block k i m h =
    let all : k + i ≡ k / m * m + (k % m + i) = omega (arith, div-add-mod' k m) in
    ap (λ n. n % m) all ∙ mod-mul-add (k / m) m (k % m + i) h

still_below : (k i m stripes : ℕ) → k % m + i < m → k / m < stripes → k + i < stripes * m
still_below k i m stripes h below =
    let top : k / m * m + (k % m + i) < m * stripes = mul-add-lt (k / m) m (k % m + i) stripes below h in
    omega (arith, top, div-add-mod' k m, mul_comm m stripes)

bytes_below : (k n b : ℕ) → 1 ≤ b → k < n → k * b < n * b
bytes_below k n b some below = let most : suc k * b ≤ n * b = mul-le-mul_right b below in omega (arith, most, some)

-- the place of a block further in the stripe
place_along : (layout : Layout) (s : Segment) (k i : ℕ) → 1 ≤ layout.block → k * layout.block / layout.block % stripe_blocks layout s + i < stripe_blocks layout s
    → place_from layout s ((k + i) * layout.block)
    ≡ block_of s.group (place_from layout s (k * layout.block)).stripe ((place_from layout s (k * layout.block)).block + i)
place_along layout s k i some h =
    let b = layout.block in
    let m = stripe_blocks layout s in
    let here : k * b / b ≡ k = number_of k b some in
    let there : (k + i) * b / b ≡ k + i = number_of (k + i) b some in
    let fits : k % m + i < m = subst (λ n. n % m + i < m) here h in
    let stripe : (k + i) * b / b / m ≡ k * b / b / m = ap (λ n. n / m) there ∙ same_stripe k i m fits ∙ sym (ap (λ n. n / m) here) in
    let block : (k + i) * b / b % m ≡ k * b / b % m + i = ap (λ n. n % m) there ∙ later_block k i m fits ∙ sym (ap (λ n. n % m + i) here) in
    let made : ℕ → ℕ → ℕ → Place =
    λ x y z. record { group = s.group; stripe = record { 0 = s.first.0 + x }; block = y; within = z } in
    ap (λ x. made x ((k + i) * b / b % m) ((k + i) * b % b)) stripe ∙ ap (λ y. made (k * b / b / m) y ((k + i) * b % b)) block
    ∙ ap (λ z. made (k * b / b / m) (k * b / b % m + i) z) (first_byte (k + i) b some)

-- a block of the first segment
in_first : (layout : Layout) (s : Segment) (more : List Segment) (k : ℕ) → 1 ≤ layout.block → k * layout.block < segment_length layout s
    → Follows layout (place_in layout (s ∷ more)) k (place_from layout s (k * layout.block))
in_first layout s more k some below =
    let b = layout.block in
    let m = stripe_blocks layout s in
    let has = numbers layout s (k * b) below in
    record {
      within = first_byte k b some;
      some = has.some_block;
      block = has.block;
      next = λ i h.
          let here : k * b / b ≡ k = number_of k b some in
          let fits : k % m + i < m = subst (λ n. n % m + i < m) here h in
          let stripe : k / m < s.stripes = subst (λ n. n / m < s.stripes) here has.stripe in
          let end : (k + i) * b < segment_length layout s = bytes_below (k + i) (s.stripes * m) b some (still_below k i m s.stripes fits stripe) in
          let test : nat_lt ((k + i) * b) (segment_length layout s) ≡ true = grind (arith, nat_tests) in
          ap (λ (t : Bool). cond t (Some (place_from layout s ((k + i) * b))) (place_in layout more ((k + i) * b - segment_length layout s))) test
          ∙ ap (λ (p : Place). Some p) (place_along layout s k i some h);
    }

-- numbers behind the first segment
further : (k i n : ℕ) → n ≤ k → k + i ≡ k - n + i + n
further k i n h = omega arith

bytes_behind : (k n d b : ℕ) → k ≡ d + n → k * b - n * b ≡ d * b
bytes_behind k n d b e = let all : k * b ≡ (d + n) * b = ap (λ x. x * b) e in omega (arith, all)

not_below : (a b n : ℕ) → n ≤ a → a ≤ b → nat_lt b n ≡ false
not_below a b n h e = grind (arith, nat_tests)

-- a block of some segments
pub in_stripe : (layout : Layout) (segments : List Segment) (k : ℕ) (place : Place) → 1 ≤ layout.block
    → place_in layout segments (k * layout.block) ≡ Some place → Follows layout (place_in layout segments) k place
in_stripe layout [] k place some is = let never : None ≡ Some place = is in cc
in_stripe layout (s ∷ more) k place some is =
    by_test (nat_lt (k * layout.block) (segment_length layout s)) refl is
    (in_stripe layout more (k - s.stripes * stripe_blocks layout s) place some)
  where
    by_test : (t : Bool) → nat_lt (k * layout.block) (segment_length layout s) ≡ t
        → cond t (Some (place_from layout s (k * layout.block))) (place_in layout more (k * layout.block - segment_length layout s)) ≡ Some place
        → (place_in layout more ((k - s.stripes * stripe_blocks layout s) * layout.block) ≡ Some place
        → Follows layout (place_in layout more) (k - s.stripes * stripe_blocks layout s) place)
        → Follows layout (place_in layout (s ∷ more)) k place
    by_test true test found rest =
        let below : k * layout.block < segment_length layout s = grind (arith, nat_tests, test) in
        let same : place_from layout s (k * layout.block) ≡ place = cc in
        subst (λ (p : Place). Follows layout (place_in layout (s ∷ more)) k p) same (in_first layout s more k some below)
    by_test false test found rest =
        let past : segment_length layout s ≤ k * layout.block = grind (arith, nat_tests, test) in
        let before = s.stripes * stripe_blocks layout s in
        let passed : before ≤ k = le_of_mul-le-mul_right past some in
        let here : k * layout.block - segment_length layout s ≡ (k - before) * layout.block =
        bytes_behind k before (k - before) layout.block (omega arith) in
        let follows = rest (sym (ap (place_in layout more) here) ∙ found) in
        record {
          within = follows.within;
          some = follows.some;
          block = follows.block;
          next = λ i h.
              let there : (k + i) * layout.block - segment_length layout s ≡ (k - before + i) * layout.block =
              bytes_behind (k + i) before (k - before + i) layout.block (further k i before passed) in
              let behind : nat_lt ((k + i) * layout.block) (segment_length layout s) ≡ false =
              not_below (k * layout.block) ((k + i) * layout.block) (segment_length layout s) past (mul-le-mul_right layout.block (omega arith)) in
              ap (λ (t : Bool). cond t (Some (place_from layout s ((k + i) * layout.block))) (place_in layout more ((k + i) * layout.block - segment_length layout s))) behind
              ∙ ap (place_in layout more) there ∙ follows.next i h;
        }

-- a block of a volume
pub in_volume : (layout : Layout) (name : List ℕ) (k : ℕ) (place : Place) → 1 ≤ layout.block
    → place_of layout name (k * layout.block) ≡ Some place → Follows layout (place_of layout name) k place
in_volume layout name k place some is = by_volume (volume_of layout name) is
  where
    at : Option Volume → ℕ → Option Place
    at found byte = option_and_then (λ (v : Volume). place_in layout v.segments byte) found

    by_volume : (found : Option Volume) → at found (k * layout.block) ≡ Some place → Follows layout (at found) k place
    by_volume None none = let never : None ≡ Some place = none in cc
    by_volume (Some v) here = in_stripe layout v.segments k place some here
