-- A number that is named gets its slot, and its block moves there.
use Rattle.std.proofs.Common.{◌≡◌, ◌≢◌, inl, inr, ⊎_elim, ℕ, ◌+◌, ◌<◌, Bool, true, false, not, ◌||◌, cond, eqb, Option, Some, List, [], ◌∷◌, ◌++◌, length, get_or, set, refl, sym, ap, subst, ◌∙◌, arith}
use Rattle.std.specs.Prelude.{replicate}
use Rattle.std.specs.List.{flat_map}
use Rattle.std.specs.Option.{unwrap_or}
use Rattle.std.proofs.lemmas.Bool.{cases_eq, eqb-true}
use Rattle.std.proofs.lemmas.Bool.Decides.{nat_tests}
use Rattle.std.proofs.lemmas.List.{flat_map_more, get_or-set_other, get_or-set_same, length-set, length_push}
use Rattle.brick_store.specs.BlockTables.{SlotBlocks, block_under, joined_blocks}
use Rattle.brick_store.specs.Blocks.{cached}
use Rattle.brick_store.specs.MovingBlocks.{AreGiven, AreMoved}
use Rattle.brick_store.specs.Renumbering.{given_with, has_place, is_new, place_of, slot_for}
use Rattle.brick_store.specs.Standing.{IsCached}
use Rattle.brick_store.proofs.BlockTables.{joined_next}
use Rattle.brick_store.proofs.Numbers.{has_place_new, has_place_other, place_kept, place_new}

-- a number that has a place has a slot that is not that of the zero block
given_now : (given : List ℕ) (n : ℕ) → n ≢ 4294967295 → has_place given n ≡ false → given_with given n ≡ given ++ n ∷ []
given_now given n other none =
    let is : eqb n 4294967295 ≡ false = grind (arith, nat_tests, other) in
    ap (λ (b : Bool). cond (not (b || has_place given n)) (given ++ n ∷ []) given) is
    ∙ ap (λ (b : Bool). cond (not b) (given ++ n ∷ []) given) none

module _ (given moved : List ℕ) (next n : ℕ) (other : n ≢ 4294967295) (within : n < length moved) (few : next < 4294967295)
    (free : get_or moved n 0 ≡ 4294967295) (are : AreGiven given moved next) where
  no_place : has_place given n ≡ false
  no_place = by (has_place given n) refl
    where
      by : (b : Bool) → has_place given n ≡ b → b ≡ false
      by true has = absurd (never (subst (λ (b : Bool). get_or moved n 0 ≡ cond b (place_of given n) 4294967295) has (are.moved_is n within)))
        where
          never : get_or moved n 0 ≡ place_of given n → ⊥
          never is = let lt : place_of given n < length given = grind (arith, nat_tests) in omega (arith, is, free, lt, are.next_is, few)
      by false none = refl

  -- it gets the next slot
  pub given_next : AreGiven (given_with given n) (set moved n next) (next + 1)
  given_next = subst (λ (g : List ℕ). AreGiven g (set moved n next) (next + 1)) (sym (given_now given n other no_place)) (record {
    next_is = omega (arith, are.next_is, length_push given n);
    moved_is = λ m lt. ⊎_elim (λ same. here m same) (λ apart. away m apart (omega (arith, lt, length-set moved n next))) (cases_eq m n);
  })
    where
      here : (m : ℕ) → m ≡ n → get_or (set moved n next) m 0 ≡ cond (has_place (given ++ n ∷ []) m) (place_of (given ++ n ∷ []) m) 4294967295
      here m same = subst (λ (k : ℕ). get_or (set moved n next) k 0 ≡ cond (has_place (given ++ n ∷ []) k) (place_of (given ++ n ∷ []) k) 4294967295) (sym same)
          (get_or-set_same moved n next 0 within ∙ are.next_is ∙ sym (place_new given n no_place)
          ∙ ap (λ (b : Bool). cond b (place_of (given ++ n ∷ []) n) 4294967295) (sym (has_place_new given n no_place)))

      away : (m : ℕ) → m ≢ n → m < length moved
          → get_or (set moved n next) m 0 ≡ cond (has_place (given ++ n ∷ []) m) (place_of (given ++ n ∷ []) m) 4294967295
      away m apart lt =
          let differ : eqb n m ≡ false = grind (arith, nat_tests, apart) in
          get_or-set_other moved n m next 0 apart ∙ are.moved_is m lt ∙ same (has_place given m) refl
          ∙ ap (λ (b : Bool). cond b (place_of (given ++ n ∷ []) m) 4294967295) (sym (has_place_other given n m differ))
        where
          same : (b : Bool) → has_place given m ≡ b → cond b (place_of given m) 4294967295 ≡ cond b (place_of (given ++ n ∷ []) m) 4294967295
          same true has = sym (place_kept given (n ∷ []) m has)
          same false none = refl

  pub slot_next : next ≡ slot_for (given_with given n) n
  slot_next =
      let is : eqb n 4294967295 ≡ false = grind (arith, nat_tests, other) in
      are.next_is ∙ sym (place_new given n no_place)
      ∙ ap (λ (g : List ℕ). place_of g n) (sym (given_now given n other no_place))
      ∙ ap (λ (b : Bool). cond b 4294967295 (place_of (given_with given n) n)) (sym is)

-- a number that is new is none of those that have a slot, nor that of the zero block
new_parts : (given : List ℕ) (n : ℕ) → is_new given n ≡ true → (n ≢ 4294967295) × (has_place given n ≡ false)
new_parts given n is = by (eqb n 4294967295) refl (has_place given n) refl is
  where
    by : (z : Bool) → eqb n 4294967295 ≡ z → (h : Bool) → has_place given n ≡ h → not (z || h) ≡ true → (n ≢ 4294967295) × (has_place given n ≡ false)
    by true at h has never = absurd cc
    by false at true has never = absurd cc
    by false at false has new = ((λ same. let differ : eqb n 4294967295 ≡ true = grind (arith, nat_tests) in absurd cc), has)

pub named_old : (given : List ℕ) (n : ℕ) → is_new given n ≡ false → given_with given n ≡ given
named_old given n is = ap (λ (b : Bool). cond b (given ++ n ∷ []) given) is

-- its block is held under its number still
pub block_left : (size : ℕ) (before : SlotBlocks) (given : List ℕ) (held now : SlotBlocks) (n : ℕ)
    → AreMoved size before given held now → is_new given n ≡ true → IsCached size before n → (block : List ℕ) × (block_under held n ≡ Some block)
block_left size before given held now n moved new (inl zero_block) = absurd ((new_parts given n new).0 (eqb-true n 4294967295 zero_block))
block_left size before given held now n moved new (inr some) = (some.0, moved.left n (new_parts given n new).1 ∙ some.1)

-- and moves to its slot
pub block_moved : (size : ℕ) (before : SlotBlocks) (given : List ℕ) (held held_now now now_then : SlotBlocks) (n slot : ℕ)
    (block : List ℕ) → AreMoved size before given held now → is_new given n ≡ true → slot ≡ slot_for (given_with given n) n
    → block_under held n ≡ Some block → ((other : ℕ) → other ≢ n → block_under held_now other ≡ block_under held other)
    → block_under now_then slot ≡ Some block → ((other : ℕ) → other ≢ slot → block_under now_then other ≡ block_under now other)
    → AreMoved size before (given_with given n) held_now now_then
block_moved size before given held held_now now now_then n slot block moved new slot_is there held_others here now_others =
    subst (λ (g : List ℕ). AreMoved size before g held_now now_then) (sym with) (record {
      left = λ m free. ⊎_elim (λ same. absurd (taken m same free)) (λ apart. held_others m apart ∙ moved.left m (sym (apart_place m apart) ∙ free)) (cases_eq m n);
      here = λ m has. ⊎_elim (λ same. own m same) (λ apart. others m apart (sym (apart_place m apart) ∙ has)) (cases_eq m n);
      joined_are = ap (joined_blocks now_then) (length_push given n)
          ∙ joined_next now_then now (length given) block (ap (block_under now_then) (sym slot_last) ∙ here)
          (λ other apart. now_others other (λ is. apart (is ∙ slot_last)))
          ∙ ap (λ (bs : List ℕ). bs ++ block) moved.joined_are ∙ ap (λ (bs : List ℕ). flat_map (cached size before) given ++ bs) block_is
          ∙ flat_map_more (cached size before) [] given n;
    })
  where
    parts : (n ≢ 4294967295) × (has_place given n ≡ false)
    parts = new_parts given n new

    with : given_with given n ≡ given ++ n ∷ []
    with = given_now given n parts.0 parts.1

    zero_not : eqb n 4294967295 ≡ false
    zero_not = let other = parts.0 in grind (arith, nat_tests, other)

    slot_last : slot ≡ length given
    slot_last =
        slot_is ∙ ap (λ (b : Bool). cond b 4294967295 (place_of (given_with given n) n)) zero_not ∙ ap (λ (g : List ℕ). place_of g n) with
        ∙ place_new given n parts.1

    apart_place : (m : ℕ) → m ≢ n → has_place (given ++ n ∷ []) m ≡ has_place given m
    apart_place m apart = let differ : eqb n m ≡ false = grind (arith, nat_tests, apart) in has_place_other given n m differ

    taken : (m : ℕ) → m ≡ n → has_place (given ++ n ∷ []) m ≡ false → ⊥
    taken m same free = let has : has_place (given ++ n ∷ []) m ≡ true = ap (has_place (given ++ n ∷ [])) same ∙ has_place_new given n parts.1 in
        differ (sym has ∙ free)
      where
        differ : true ≡ false → ⊥
        differ e = cc

    before_is : block_under before n ≡ Some block
    before_is = sym (moved.left n parts.1) ∙ there

    own : (m : ℕ) → m ≡ n → block_under now_then (place_of (given ++ n ∷ []) m) ≡ block_under before m
    own m same =
        ap (λ (k : ℕ). block_under now_then (place_of (given ++ n ∷ []) k)) same
        ∙ ap (block_under now_then) (place_new given n parts.1 ∙ sym slot_last) ∙ here ∙ sym before_is ∙ ap (block_under before) (sym same)

    others : (m : ℕ) → m ≢ n → has_place given m ≡ true → block_under now_then (place_of (given ++ n ∷ []) m) ≡ block_under before m
    others m apart has =
        let kept = place_kept given (n ∷ []) m has in
        let lt : place_of given m < length given = grind (arith, nat_tests) in
        ap (block_under now_then) kept ∙ now_others (place_of given m) (λ is. absurd (omega (arith, is, slot_last, lt))) ∙ moved.here m has

    block_is : block ≡ cached size before n
    block_is =
        sym (ap (λ (o : Option (List ℕ)). unwrap_or o []) before_is)
        ∙ ap (λ (b : Bool). cond b (replicate size 0) (unwrap_or (block_under before n) [])) (sym zero_not)
