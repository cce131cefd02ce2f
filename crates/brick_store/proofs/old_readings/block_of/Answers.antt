-- The first three bytes say whether there is a block.
use Rattle.std.proofs.Common.{◌≡◌, ◌-◌, ℕ, Bool, true, false, ◌&&◌, eqb, eq-eqb, ne_eqb, leb, Some, List, [], ◌∷◌, length, take, drop, get_or, refl, sym, ap, ◌∙◌, arith}
use Rattle.std.specs.Int.{w16, from_be_bytes}
use Rattle.std.proofs.lemmas.Bool.Decides.{nat_tests}
use Rattle.std.proofs.lemmas.List.{take_rest}
use Rattle.brick_store.proofs.OldVersions.{no_block, none_told, some_told}
use Rattle.brick_store.proofs.old_readings.block_of.Goals as goal
use Rattle.brick_store.proofs.old_readings.block_of.Goals.{then-flag-gt1-via-then-flag-gt1, then-flag-gt1-via-else-flag-gt1+then-length-size, then-flag-gt1-via-else-flag-gt1+else-length-size+then-block-size}

pub returns-in_default : goal.returns-in_default
returns-in_default c = sym (no_block c.args.size c.args.bytes.now (omega (arith, c.in_default.len_below)))

pub returns-then-flag-gt1 : goal.returns-then-flag-gt1
returns-then-flag-gt1 c =
    let bytes = c.args.bytes.now in
    let told : c.from_be_bytes-length.result ≡ from_be_bytes w16 (get_or bytes 1 0 ∷ get_or bytes 2 0 ∷ []) = c.from_be_bytes-length.ensures in
    let rest = take_rest bytes 3 in
    elim c.then-flag-gt1.branch [
      | then-flag-gt1-via-then-flag-gt1 w ↦
          let first : leb (get_or bytes 0 0) 1 ≡ false = let h = w.if-flag-gt1.true in grind (arith, nat_tests) in
          sym (none_told c.args.size bytes false _ _ c.in-len3-up.len_at_least first refl refl refl)
      | then-flag-gt1-via-else-flag-gt1+then-length-size w ↦
          let second : eqb (from_be_bytes w16 (get_or bytes 1 0 ∷ get_or bytes 2 0 ∷ [])) c.args.size ≡ false = ne_eqb _ _ (λ is. w.if-length-size.true (told ∙ is)) in
          sym (none_told c.args.size bytes (leb (get_or bytes 0 0) 1) false _ c.in-len3-up.len_at_least refl second refl (never (leb (get_or bytes 0 0) 1)))
      | then-flag-gt1-via-else-flag-gt1+else-length-size+then-block-size w ↦
          let third : eqb (length (drop 3 bytes)) c.args.size ≡ false =
          ne_eqb _ _ (λ is. w.if-block-size.true (ap length rest ∙ is)) in
          sym (none_told c.args.size bytes (leb (get_or bytes 0 0) 1) _ false c.in-len3-up.len_at_least refl refl third (neither (leb (get_or bytes 0 0) 1) _))
    ]
  where
    never : (x : Bool) → (x && false) ≡ false
    never true = refl
    never false = refl

    neither : (x y : Bool) → (x && (y && false)) ≡ false
    neither true true = refl
    neither true false = refl
    neither false y = refl

pub returns : goal.returns
returns c =
    let bytes = c.args.bytes.now in
    let told : c.from_be_bytes-length.result ≡ from_be_bytes w16 (get_or bytes 1 0 ∷ get_or bytes 2 0 ∷ []) = c.from_be_bytes-length.ensures in
    let rest : take (length bytes - 3) (drop 3 bytes) ≡ drop 3 bytes = take_rest bytes 3 in
    let first : leb (get_or bytes 0 0) 1 ≡ true = let h = c.if-flag-gt1.false in grind (arith, nat_tests) in
    let second : eqb (from_be_bytes w16 (get_or bytes 1 0 ∷ get_or bytes 2 0 ∷ [])) c.args.size ≡ true = eq-eqb _ _ (sym told ∙ c.if-length-size.false) in
    let third : eqb (length (drop 3 bytes)) c.args.size ≡ true = eq-eqb _ _ (ap length (sym rest) ∙ c.if-block-size.false) in
    ap (λ (block : List ℕ). Some (eqb (get_or bytes 0 0) 1, block)) rest ∙ sym (some_told c.args.size bytes c.in-len3-up.len_at_least first second third)
