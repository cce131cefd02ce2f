-- The blocks that are held in memory.
use Rattle.std.proofs.Common.{◌≡◌, ◌≢◌, ◌⊎◌, inl, inr, ⊎_elim, ℕ, zero, suc, ◌+◌, ◌<◌, true, eqb, ltb, Option, Some, List, [], ◌∷◌, refl, sym, ap, subst, ◌∙◌, arith}
use Rattle.std.specs.List.{AllByRecursion, Contains}
use Rattle.std.specs.Option.{IsSome}
use Rattle.std.proofs.lemmas.Bool.{or_cases, ltb-true, eqb-true, cases_eq, cases_lt}
use Rattle.std.proofs.lemmas.Option.{same_Some}
use Rattle.fab_disk.specs.Disk.{IsUntouched}
use Rattle.frame_store.specs.declared.shapes.Shape.{Shape}
use Rattle.frame_store.specs.Images.{HasSlot}
use Rattle.frame_store.specs.Stores.{Held, IsSame}
use Rattle.brick_state.specs.Folds.{Limits, is_slot}
use Rattle.brick_store.specs.BlockTables.{SlotBlocks, block_under}
use Rattle.brick_store.specs.Openings.{IsHeld, IsReadFrom, AreRead, IsInside}

-- what is held after one block more: that one, and what was held before
module _ (old new : SlotBlocks) (k : ℕ) (v : List ℕ) (there : block_under new k ≡ Some v)
    (others : (other : ℕ) → other ≢ k → block_under new other ≡ block_under old other) where
  cases : (slot : ℕ) → (slot ≡ k) ⊎ (slot ≢ k)
  cases slot = cases_eq slot k

  pub read_more : (tells : Type 0) (shape : Shape) (size : ℕ) (content : List ℕ) → IsReadFrom tells shape size content k v
      → AreRead tells shape size content old → AreRead tells shape size content new
  read_more tells shape size content here all slot bytes found = ⊎_elim at away (cases slot)
    where
      at : slot ≡ k → IsReadFrom tells shape size content slot bytes
      at is = subst (λ (b : List ℕ). IsReadFrom tells shape size content slot b)
          (same_Some _ _ (sym there ∙ ap (λ (n : ℕ). block_under new n) (sym is) ∙ found))
          (subst (λ (n : ℕ). IsReadFrom tells shape size content n v) (sym is) here)

      away : slot ≢ k → IsReadFrom tells shape size content slot bytes
      away other = all slot bytes (sym (others slot other) ∙ found)

  pub held_still : (other : ℕ) → IsHeld old other → IsHeld new other
  held_still other (inl zero_block) = inl zero_block
  held_still other (inr some) = ⊎_elim at away (cases other)
    where
      at : other ≡ k → IsHeld new other
      at is = inr (subst (λ (o : Option (List ℕ)). IsSome o) (sym (ap (λ (n : ℕ). block_under new n) is ∙ there)) refl)

      away : other ≢ k → IsHeld new other
      away apart = inr (subst (λ (o : Option (List ℕ)). IsSome o) (sym (others other apart)) some)

-- one slot more was looked at
pub held_more : (used : List ℕ) (old new : SlotBlocks) (k : ℕ) → ((other : ℕ) → IsHeld old other → IsHeld new other)
    → (Contains used k → IsHeld new k) → ((slot : ℕ) → slot < k → Contains used slot → IsHeld old slot)
    → (slot : ℕ) → slot < k + 1 → Contains used slot → IsHeld new slot
held_more used old new k others here before slot within there =
    ⊎_elim (λ below. others slot (before slot below there))
    (λ past. subst (λ (n : ℕ). Contains used n → IsHeld new n) (omega (arith, within, past)) here there) (cases_lt slot k)

-- ---- slots that versions name

all_each : (P Q : ℕ → Type 0) (xs : List ℕ) → ((x : ℕ) → Contains xs x → Q x → P x) → AllByRecursion Q xs → AllByRecursion P xs
all_each P Q [] each all = tt
all_each P Q (x ∷ xs) each all = (each x (0, omega arith, refl) all.0, all_each P Q xs (λ y there. each y (later y there)) all.1)
  where
    later : (y : ℕ) → Contains xs y → Contains (x ∷ xs) y
    later y (k, lt, e) = (suc k, omega (arith, lt), e)

-- each of them is held, if those are that lie before the end
pub all_held : (limits : Limits) (used : List ℕ) (blocks : SlotBlocks) (end : ℕ) → AllByRecursion (λ slot. is_slot limits slot ≡ true) used
    → ((slot : ℕ) → slot < limits.slots → Contains used slot → slot < end)
    → ((slot : ℕ) → slot < end → Contains used slot → IsHeld blocks slot) → AllByRecursion (IsHeld blocks) used
all_held limits used blocks end are ends held = all_each (IsHeld blocks) (λ slot. is_slot limits slot ≡ true) used
    (λ slot there is. by slot there (or_cases (eqb slot 4294967295) (ltb slot limits.slots) is)) are
  where
    by : (slot : ℕ) → Contains used slot → (eqb slot 4294967295 ≡ true) ⊎ (ltb slot limits.slots ≡ true) → IsHeld blocks slot
    by slot there (inl zero_block) = inl zero_block
    by slot there (inr lt) = held slot (ends slot (ltb-true slot limits.slots lt) there) there

contained : (P : ℕ → Type 0) (xs : List ℕ) (x : ℕ) → AllByRecursion P xs → Contains xs x → P x
contained P [] x all (k, lt, e) = absurd (omega (arith, lt))
contained P (y ∷ ys) x all (zero, lt, e) = subst P e all.0
contained P (y ∷ ys) x all (suc k, lt, e) = contained P ys x all.1 (k, omega (arith, lt), e)

-- a slot that is named lies in the file, if all do
pub named_inside : (shape : Shape) (size : ℕ) (used : List ℕ) (slot : ℕ) → slot < 4294967295 → Contains used slot
    → AllByRecursion (IsInside shape size) used → HasSlot shape size slot
named_inside shape size used slot small there all = by (contained (IsInside shape size) used slot all there)
  where
    by : IsInside shape size slot → HasSlot shape size slot
    by (inl zero_block) = absurd (omega (arith, small, eqb-true slot 4294967295 zero_block))
    by (inr has) = has

-- ---- calls that read alone

module _ {D : Type 0} (seen : D → List ℕ) (may_leave : D → List ℕ → Type 0) (moment : D → ℕ) (left_since : D → ℕ → List ℕ → Type 0) where
  pub untouched_self : (disk : D) → IsUntouched seen may_leave moment left_since disk disk
  untouched_self disk = record {
    content = refl;
    crash = λ image left. left;
    clock = refl;
    time = record { later = omega arith; nothing_else = λ t image le left. inl left; keeps = λ t image le left. left };
  }

pub same_self : {D : Type 0} (held : Held D) → IsSame held held
same_self held = record { shape = refl; frames = refl; closed = refl; size = refl }

pub same_both : {D : Type 0} (a b c : Held D) → IsSame a b → IsSame b c → IsSame a c
same_both a b c first second = record {
  shape = second.shape ∙ first.shape;
  frames = second.frames ∙ first.frames;
  closed = second.closed
      ∙ first.closed;
  size = second.size ∙ first.size;
}

-- what was read from this file was read from that one, where they are the same
pub read_moved : (tells : Type 0) (shape shape_then : Shape) (size size_then : ℕ) (content content_then : List ℕ) (old new : SlotBlocks)
    → shape ≡ shape_then → size ≡ size_then → content ≡ content_then
    → (AreRead tells shape size content old → AreRead tells shape size content new) → AreRead tells shape_then size_then content_then old
    → AreRead tells shape_then size_then content_then new
read_moved tells shape shape_then size size_then content content_then old new p q r step =
    subst (λ (c : List ℕ). AreRead tells shape_then size_then c old → AreRead tells shape_then size_then c new) r
    (subst (λ (n : ℕ). AreRead tells shape_then n content old → AreRead tells shape_then n content new) q
    (subst (λ (s : Shape). AreRead tells s size content old → AreRead tells s size content new) p step))
