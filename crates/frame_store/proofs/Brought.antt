-- What bringing an old store over leaves: in the words of a clause, and of the store's fields.
use Rattle.std.proofs.Common.{◌≡◌, inl, ℕ, ◌+◌, ◌-◌, ◌*◌, ◌^◌, ◌<◌, ◌≤◌, max, Bool, true, false, List, [], ◌∷◌, length, refl, sym, ◌∙◌, ap, subst, arith}
use Rattle.std.proofs.Math.Nat.{mul-le-mul_left, mul-le-mul_right}
use Rattle.fab_disk.specs.declared.disk.Disk as on_disk
use Rattle.fab_disk.specs.Disk.{written}
use Rattle.fab_disk.specs.Changing.{End, Whole, Still, Run}
use Rattle.fab_disk.proofs.Writes.{written_torn}
use Rattle.frame_store.specs.declared.frames.Frame.{Frame}
use Rattle.frame_store.specs.declared.shapes.Form.{Form}
use Rattle.frame_store.specs.declared.shapes.Form.TheVariants.{Old, New, Moved}
use Rattle.frame_store.specs.declared.shapes.Half.{Half}
use Rattle.frame_store.specs.declared.shapes.Half.TheVariants.{A, B}
use Rattle.frame_store.specs.declared.shapes.Shape.{Shape}
use Rattle.frame_store.specs.Layouts.{IsShape, formed, is_old, is_old_form, open_gate, header_at, header_rest, slot_at, half_at, index_half_size, store_end}
use Rattle.frame_store.specs.Listed.{size_of, closed_list}
use Rattle.frame_store.specs.Laid.{other, Laid, IsCounted}
use Rattle.frame_store.specs.Images.{OpensAs, AreBlocks, IsBroughtOver}
use Rattle.frame_store.specs.Steps.{IsShutBefore, IsBrought, thrice_written, closing, next_of}
use Rattle.frame_store.specs.Stores.{Held}
use Rattle.frame_store.specs.Ends.{BringsOver}
use Rattle.frame_store.proofs.Runs.{torn_same}
use Rattle.frame_store.proofs.Parts.{length-written}
use Rattle.frame_store.proofs.Headers.{header_within}
use Rattle.frame_store.proofs.Slots.{half_behind, slot_behind}
use Rattle.frame_store.proofs.Appending.{Rooted}
use Rattle.frame_store.proofs.Shutting.{length-closed_list}
use Rattle.frame_store.proofs.Bringing.{bring_before, bring_moment, bring_after, brought_laid, blocks_before}
use Rattle.frame_store.proofs.Exits.{Ready, rooted, size, content_same, change_by, size_shut}

-- blocks that are no more than the slots take no more bytes than these
few_bytes : (shape : Shape) (most : ℕ) (blocks : List ℕ) → AreBlocks shape most blocks → length blocks ≤ shape.records * shape.block
few_bytes shape most blocks are = omega (arith, are.long, mul-le-mul_right {m = are.count} {n = shape.records} shape.block are.slots)

-- What is written as a store is brought over lies below its end.
pub record Within (shape : Shape) (half : Half) (frames : List Frame) (blocks : List ℕ) : Type 0 where
  pub headers_below : 64 ≤ store_end shape
  pub blocks_below : slot_at (formed Moved shape) 0 + length blocks ≤ store_end shape
  pub list_below : half_at (formed Moved shape) (other half) + size_of frames + 1 ≤ store_end shape
  pub end_is : store_end shape ≡ store_end (formed Moved shape)

end_same : (shape : Shape) → is_old shape ≡ true → store_end shape ≡ store_end (formed Moved shape)
end_same shape old = each shape.form old
  where
    each : (form : Form) → is_old_form form ≡ true → store_end (formed form shape) ≡ store_end (formed Moved shape)
    each Old is = refl
    each New is = absurd cc
    each Moved is = absurd cc

within : (shape : Shape) (half : Half) (frames : List Frame) (blocks : List ℕ) → is_old shape ≡ true → size_of frames + 1 ≤ index_half_size shape
    → length blocks ≤ shape.records * shape.block → Within shape half frames blocks
within shape half frames blocks old fits few =
    let same = end_same shape old in
    record {
      headers_below = omega (arith, same, slot_behind (formed Moved shape) 0);
      blocks_below = omega (arith, same, few);
      list_below = list half;
      end_is = same;
    }
  where
    list : (h : Half) → half_at (formed Moved shape) (other h) + size_of frames + 1 ≤ store_end shape
    list A = omega (arith, end_same shape old, fits)
    list B = omega (arith, end_same shape old, fits)

pub brought_within : {D : Type 0} (held s : Held D) (half : Half) (frames : List Frame) (blocks : List ℕ) → held ≡ s → is_old s.shape ≡ true
    → size_of frames + 1 ≤ index_half_size s.shape → AreBlocks s.shape (length frames) blocks → Within held.shape half frames blocks
brought_within held s half frames blocks view old fits are =
    subst (λ h. Within h.shape half frames blocks) (sym view) (within s.shape half frames blocks old fits (few_bytes s.shape (length frames) blocks are))

-- the blocks are at most 2^32 bytes
pub brought_few : {D : Type 0} (held s : Held D) (frames : List Frame) (blocks : List ℕ) → held ≡ s → IsShape held.shape
    → AreBlocks s.shape (length frames) blocks → length blocks ≤ 2 ^ 32
brought_few held s frames blocks view limits are =
    let here = subst (λ h. length blocks ≤ h.shape.records * h.shape.block) (sym view) (few_bytes s.shape (length frames) blocks are) in
    let wide : held.shape.records * held.shape.block ≤ held.shape.records * 4096 =
    mul-le-mul_left {m = held.shape.block} {n = 4096} held.shape.records limits.few_bytes in
    omega (arith, here, wide, limits.few_slots)

module _ {D : Type 0} (d : on_disk.Ghosts D) where
  -- the run of calls that brings it over, by where they write and what
  abbrev pub BringRun : ℕ → List ℕ → ℕ → List ℕ → ℕ → List ℕ → List ℕ → D → D → End → Type 0
  BringRun gate shut start blocks at list behind mid new end =
      Run d 8 (IsShutBefore gate shut start blocks at list behind (d.seen mid)) (IsBrought gate shut start blocks at list behind (d.seen mid))
      (λ image. image ≡ written gate (open_gate ∷ []) (thrice_written start blocks at list (gate + 1) behind (written gate shut (d.seen mid)))) mid new end

  -- the store is brought over so, and where that was made whole, what it keeps of it is true
  pub record Comes (half : Half) (number used size : ℕ) (after : List Frame) (blocks : List ℕ) (shape : Shape) (s : Held D) (new : D) (end : End) : Type 0 where
    pub change : BringsOver d s after blocks new end
    pub counted : IsCounted (formed Moved shape) after used
    pub laid : end ≡ Whole → d.tells → Laid (formed Moved shape) half number false after true (d.seen new) × (length (d.seen new) ≡ size)

module _ {D : Type 0} (d : on_disk.Ghosts D) (only_now : (disk : D) (image : List ℕ) → d.left_since disk (d.moment disk) image → d.may_leave disk image)
    (counts : (disk : D) (t : ℕ) (image : List ℕ) → t ≤ d.moment disk → d.may_leave disk image → d.left_since disk t image) where
  -- Nothing was done yet but to make room, and the store is what a clause sees.
  module _ (half : Half) (number : ℕ) (other_shut : Bool) (used : ℕ) (held s : Held D) (mid new : D) (end : End) (view : held ≡ s)
      (counted : IsCounted held.shape held.frames used)
      (invariant : d.tells → held.halted ≡ false → Laid held.shape half number other_shut held.frames held.closed (d.seen held.disk)
      × (length (d.seen held.disk) ≡ held.size)) (runs : held.halted ≡ false) (old : is_old s.shape ≡ true) (rest : Still d held.disk mid ⊥)
      (fs : List Frame) (blocks : List ℕ) (fits : size_of fs + 1 ≤ index_half_size s.shape) (are : AreBlocks s.shape (length fs) blocks)
      (small : number < 2 ^ 64) where
    ready : Ready d half number other_shut used mid held
    ready = record { counted = counted; invariant = invariant; runs = runs; rest = rest }

    abbrev to : Shape
    to = formed Moved held.shape

    old_held : is_old held.shape ≡ true
    old_held = subst (λ (h : Held D). is_old h.shape ≡ true) (sym view) old

    fits_held : size_of fs + 1 ≤ index_half_size held.shape
    fits_held = subst (λ (h : Held D). size_of fs + 1 ≤ index_half_size h.shape) (sym view) fits

    few : length blocks ≤ held.shape.records * held.shape.block
    few = subst (λ (h : Held D). length blocks ≤ h.shape.records * h.shape.block) (sym view) (few_bytes s.shape (length fs) blocks are)

    abbrev content : List ℕ
    content = d.seen held.disk

    root : d.tells → Rooted held.shape half number other_shut held.frames content
    root told = rooted d held half number other_shut used mid new ready told

    abbrev Brings : ℕ → List ℕ → ℕ → ℕ → List ℕ → List ℕ → Type 0
    Brings gate shut start at list behind = BringRun d gate shut start blocks at list behind mid new end

    abbrev after : List ℕ → List ℕ
    after c = written (header_at (other half)) (open_gate ∷ [])
        (thrice_written (slot_at to 0) blocks (half_at to (other half)) (closed_list fs) (header_at (other half) + 1) (header_rest to (next_of number))
        (written (header_at (other half)) (closing other_shut) c))

    module _ (run : Brings (header_at (other half)) (closing other_shut) (slot_at to 0) (half_at to (other half)) (closed_list fs) (header_rest to (next_of number))) where
      change_held : BringsOver d held fs blocks new end
      change_held =
          change_by d held half number other_shut used mid new ready only_now counts end 8 (OpensAs held.shape held.frames true)
          (IsBroughtOver held.shape fs blocks)
          (IsShutBefore (header_at (other half)) (closing other_shut) (slot_at to 0) blocks (half_at to (other half)) (closed_list fs) (header_rest to (next_of number)))
          (IsBrought (header_at (other half)) (closing other_shut) (slot_at to 0) blocks (half_at to (other half)) (closed_list fs) (header_rest to (next_of number)))
          after (λ image is. is) (λ c. inl (torn_same (header_at (other half)) (length (closing other_shut)) c))
          (λ told index. bring_before held.shape half number other_shut held.frames fs blocks content counted.limits old_held small fits_held few (root told) index)
          (λ told index. bring_moment held.shape half number other_shut held.frames fs blocks content counted.limits old_held small fits_held few (root told) index)
          (λ told. bring_after held.shape half number other_shut held.frames fs blocks content counted.limits old_held small fits_held few (root told))
          run

      made : end ≡ Whole → d.tells → d.seen new ≡ after content
      made is told = (run.whole is told).has ∙ ap after (content_same d held half number other_shut used mid new ready)

      long : d.tells → length (after content) ≡ max held.size (half_at to (other half) + length (closed_list fs))
      long told =
          let shut_content = written (header_at (other half)) (closing other_shut) content in
          let first = size_shut (other half) other_shut content (root told).whole in
          let blocks_content = written (slot_at to 0) blocks shut_content in
          let torn = written_torn (slot_at to 0) blocks shut_content in
          let list_content = written (half_at to (other half)) (closed_list fs) blocks_content in
          let list = length-closed_list fs in
          let third = length-written (half_at to (other half)) (closed_list fs) blocks_content (omega (arith, list)) in
          let header_content = written (header_at (other half) + 1) (header_rest to (next_of number)) list_content in
          let fourth = length-written (header_at (other half) + 1) (header_rest to (next_of number)) list_content (omega arith) in
          let fifth = length-written (header_at (other half)) (open_gate ∷ []) header_content (omega arith) in
          let below = blocks_before held.shape half number other_shut held.frames fs blocks content counted.limits old_held small fits_held few (root told) (other half) in
          omega (
            arith,
            first,
            torn.no_shorter,
            torn.no_longer,
            third,
            fourth,
            fifth,
            below,
            size d held half number other_shut used mid new ready told,
            header_within (other half),
            (root told).whole,
            half_behind to (other half),
          )

      came_so : Comes d (other half) (next_of number) (length (closed_list fs) - 1) (max held.size (half_at to (other half) + length (closed_list fs))) fs blocks
          held.shape s new end
      came_so = record {
        change = subst (λ (h : Held D). BringsOver d h fs blocks new end) view change_held;
        counted = record {
          limits = record {
            some_bytes = counted.limits.some_bytes;
            few_bytes = counted.limits.few_bytes;
            some_slots = counted.limits.some_slots;
            few_slots = counted.limits.few_slots;
          };
          used_is = omega (arith, length-closed_list fs);
          within = omega (arith, fits_held);
        };
        laid = λ is told. (
          subst (λ (c : List ℕ). Laid to (other half) (next_of number) false fs true c) (sym (made is told))
              (brought_laid held.shape half number other_shut held.frames fs blocks content counted.limits old_held small fits_held few (root told)),
          ap length (made is told) ∙ long told,
        );
      }

    pub came : (gate start at : ℕ) (shut behind line : List ℕ) → gate ≡ header_at (other half) → start ≡ slot_at to 0 → at ≡ half_at to (other half)
        → shut ≡ closing other_shut → behind ≡ header_rest to (next_of number) → line ≡ closed_list fs → Brings gate shut start at line behind
        → Comes d (other half) (next_of number) (length line - 1) (max held.size (at + length line)) fs blocks held.shape s new end
    came gate start at shut behind line gate_is start_is at_is shut_is behind_is line_is run =
        subst (λ (a : ℕ). Comes d (other half) (next_of number) (length line - 1) (max held.size (a + length line)) fs blocks held.shape s new end) (sym at_is)
        (subst (λ (l : List ℕ). Comes d (other half) (next_of number) (length l - 1) (max held.size (half_at to (other half) + length l)) fs blocks held.shape s new end)
        (sym line_is)
        (came_so (subst (λ (l : List ℕ). Brings (header_at (other half)) (closing other_shut) (slot_at to 0) (half_at to (other half)) l (header_rest to (next_of number))) line_is
        (subst (λ (r : List ℕ). Brings (header_at (other half)) (closing other_shut) (slot_at to 0) (half_at to (other half)) line r) behind_is
        (subst (λ (x : List ℕ). Brings (header_at (other half)) x (slot_at to 0) (half_at to (other half)) line behind) shut_is
        (subst (λ (a : ℕ). Brings (header_at (other half)) shut (slot_at to 0) a line behind) at_is
        (subst (λ (b : ℕ). Brings (header_at (other half)) shut b at line behind) start_is
        (subst (λ (g : ℕ). Brings g shut start at line behind) gate_is run))))))))
