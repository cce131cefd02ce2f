-- A version's frame of the old format as it is read.
use Rattle.std.proofs.Common.{◌≡◌, ◌≢◌, ⊎_elim, ℕ, ◌<◌, ◌≤◌, Bool, true, false, ◌&&◌, cond, eqb, leb, Option, Some, None, List, [], ◌∷◌, length, get_or, take, drop, refl, sym, ap, ◌∙◌, arith}
use Rattle.std.specs.Int.{w16, from_be_bytes}
use Rattle.std.specs.Option.{option_map}
use Rattle.std.proofs.lemmas.Bool.Decides.{nat_tests}
use Rattle.std.proofs.lemmas.Option.{same_Some}
use Rattle.std.proofs.lemmas.Bool.{cases_lt, eqb-true}
use Rattle.std.proofs.lemmas.List.{get_or-take, get_or_past, length-take}
use Rattle.stamp_store.specs.declared.kept_records.Kept.{Kept}
use Rattle.stamp_store.specs.declared.log_records.LogChange.TheVariants.{Slot}
use Rattle.stamp_store.specs.declared.log_records.Logged.{Logged}
use Rattle.stamp_store.specs.LogSpelling.{logged_kind, logged_of}
use Rattle.stamp_store.specs.Reading.{read_of}
use Rattle.stamp_store.proofs.Fields.{IsBytes}
use Rattle.stamp_store.proofs.LogRecords.{logged_spells}
use Rattle.frame_store.specs.Listed.{frame_of}
use Rattle.brick_state.specs.declared.records.Record.{Record}
use Rattle.brick_state.specs.declared.records.Record.TheVariants as forms
use Rattle.brick_store.specs.Images.{or_logged, record_of}
use Rattle.brick_store.specs.OldLists.{old_block_of}
use Rattle.brick_store.proofs.Framing.{logged_length}

-- ---- its place

-- bytes up to a place are bytes
pub bytes_front : (n : ℕ) (bytes : List ℕ) → IsBytes bytes → IsBytes (take n bytes)
bytes_front n bytes are i = ⊎_elim (λ below. omega (arith, get_or-take n bytes i 0 below, are i))
    (λ past. omega (arith, get_or_past (take n bytes) i 0 (omega (arith, length-take n bytes, past)))) (cases_lt i n)

-- fewer than thirty spell no change of a log
pub too_short : (kind : ℕ) (bytes : List ℕ) → IsBytes bytes → length bytes < 30 → logged_of kind bytes ≡ None
too_short kind bytes are short = by (logged_of kind bytes) refl
  where
    by : (found : Option Logged) → logged_of kind bytes ≡ found → found ≡ None
    by None is = refl
    by (Some r) is = absurd (omega (arith, short, ap length (logged_spells kind bytes r are is).body_is, logged_length r))

-- ---- its block

-- fewer than three bytes have none
pub no_block : (size : ℕ) (bytes : List ℕ) → length bytes < 3 → old_block_of size bytes ≡ None
unfolding old_block_of
no_block size [] short = refl
no_block size (a ∷ []) short = refl
no_block size (a ∷ b ∷ []) short = refl
no_block size (a ∷ b ∷ c ∷ rest) short = absurd (omega arith)

-- of more, the first three bytes say whether there is one
pub block_is : (size : ℕ) (bytes : List ℕ) → 3 ≤ length bytes → old_block_of size bytes
    ≡ cond (leb (get_or bytes 0 0) 1 && (eqb (from_be_bytes w16 (get_or bytes 1 0 ∷ get_or bytes 2 0 ∷ [])) size && eqb (length (drop 3 bytes)) size))
    (Some (eqb (get_or bytes 0 0) 1, drop 3 bytes)) None
unfolding old_block_of
block_is size [] long = absurd (omega arith)
block_is size (a ∷ []) long = absurd (omega arith)
block_is size (a ∷ b ∷ []) long = absurd (omega arith)
block_is size (a ∷ b ∷ c ∷ rest) long = refl

-- so there is none where one of three tests fails
pub none_told : (size : ℕ) (bytes : List ℕ) (x y z : Bool) → 3 ≤ length bytes → leb (get_or bytes 0 0) 1 ≡ x
    → eqb (from_be_bytes w16 (get_or bytes 1 0 ∷ get_or bytes 2 0 ∷ [])) size ≡ y → eqb (length (drop 3 bytes)) size ≡ z → (x && (y && z)) ≡ false
    → old_block_of size bytes ≡ None
none_told size bytes x y z long first second third none =
    block_is size bytes long
    ∙ ap (λ (b : Bool). told (b && (eqb (from_be_bytes w16 (get_or bytes 1 0 ∷ get_or bytes 2 0 ∷ [])) size && eqb (length (drop 3 bytes)) size))) first
    ∙ ap (λ (b : Bool). told (x && (b && eqb (length (drop 3 bytes)) size))) second ∙ ap (λ (b : Bool). told (x && (y && b))) third ∙ ap told none
  where
    told : Bool → Option (Bool × List ℕ)
    told c = cond c (Some (eqb (get_or bytes 0 0) 1, drop 3 bytes)) None

pub some_told : (size : ℕ) (bytes : List ℕ) → 3 ≤ length bytes → leb (get_or bytes 0 0) 1 ≡ true
    → eqb (from_be_bytes w16 (get_or bytes 1 0 ∷ get_or bytes 2 0 ∷ [])) size ≡ true → eqb (length (drop 3 bytes)) size ≡ true
    → old_block_of size bytes ≡ Some (eqb (get_or bytes 0 0) 1, drop 3 bytes)
some_told size bytes long first second third =
    block_is size bytes long
    ∙ ap (λ (b : Bool). told (b && (eqb (from_be_bytes w16 (get_or bytes 1 0 ∷ get_or bytes 2 0 ∷ [])) size && eqb (length (drop 3 bytes)) size))) first
    ∙ ap (λ (b : Bool). told (b && eqb (length (drop 3 bytes)) size)) second ∙ ap told third
  where
    told : Bool → Option (Bool × List ℕ)
    told c = cond c (Some (eqb (get_or bytes 0 0) 1, drop 3 bytes)) None

-- and it is as long as it is to be
pub block_long : (size : ℕ) (bytes : List ℕ) (bottom : Bool) (block : List ℕ) → old_block_of size bytes ≡ Some (bottom, block) → length block ≡ size
unfolding old_block_of
block_long size [] bottom block is = absurd cc
block_long size (a ∷ []) bottom block is = absurd cc
block_long size (a ∷ b ∷ []) bottom block is = absurd cc
block_long size (a ∷ b ∷ c ∷ rest) bottom block is = by (leb a 1) (eqb (from_be_bytes w16 (b ∷ c ∷ [])) size) (eqb (length rest) size) refl is
  where
    told : Option (Bool × List ℕ)
    told = Some (eqb a 1, rest)

    by : (x y z : Bool) → eqb (length rest) size ≡ z → cond (x && (y && z)) told None ≡ Some (bottom, block) → length block ≡ size
    by true true true at found = ap length (sym (ap second found)) ∙ eqb-true (length rest) size at
      where
        second : Option (Bool × List ℕ) → List ℕ
        second None = []
        second (Some told) = told.1
    by true true false at found = absurd cc
    by true false z at found = absurd cc
    by false y z at found = absurd cc

-- ---- other frames

-- a frame of another kind names no slot
pub no_slot : (kind : ℕ) (body : List ℕ) → IsBytes body → eqb kind 8 ≡ false → (r : Record) → record_of (frame_of kind body) ≡ Some r → (bottom : Bool)
    (slot : ℕ) (l : Logged) → r ≡ forms.Logged l → l.change ≢ Slot bottom slot
no_slot kind body are other r is bottom slot l same change = by (read_of kind body) is
  where
    found : (o : Option Logged) → logged_of kind body ≡ o → option_map forms.Logged o ≡ Some r → ⊥
    found None at never = absurd cc
    found (Some m) at told =
        let to : m ≡ l = logged_same m l (same_Some (forms.Logged m) r told ∙ same) in
        let kinds_are : kind ≡ 8 = (logged_spells kind body m are at).kind_is ∙ ap (λ (x : Logged). logged_kind x.change) to ∙ ap logged_kind change in
        absurd (differ kinds_are)
      where
        logged_same : (x y : Logged) → forms.Logged x ≡ forms.Logged y → x ≡ y
        logged_same x y e = cc

        differ : kind ≡ 8 → ⊥
        differ e = let here : eqb kind 8 ≡ true = grind (arith, nat_tests) in absurd cc

    by : (o : Option Kept) → or_logged o kind body ≡ Some r → ⊥
    by None told = found (logged_of kind body) refl told
    by (Some kept) told = never (same_Some (forms.Kept kept) r told ∙ same)
      where
        never : forms.Kept kept ≡ forms.Logged l → ⊥
        never e = cc
