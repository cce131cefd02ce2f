-- An old store that is brought over: its blocks in the slots behind its halves, and its list in the other half of the index.
use Rattle.std.proofs.Common.{◌≡◌, ◌⊎◌, inl, inr, ℕ, ◌+◌, ◌*◌, ◌^◌, ◌<◌, ◌≤◌, Bool, true, false, List, [], ◌∷◌, length, get_or, ◌∙◌, ap, arith}
use Rattle.std.proofs.lemmas.Bool.{cases_eq}
use Rattle.fab_disk.specs.Disk.{Torn, written}
use Rattle.fab_disk.proofs.Writes.{written_torn}
use Rattle.frame_store.specs.declared.frames.Frame.{Frame}
use Rattle.frame_store.specs.declared.shapes.Form.TheVariants.{Moved}
use Rattle.frame_store.specs.declared.shapes.Shape.{Shape}
use Rattle.frame_store.specs.declared.shapes.Half.{Half}
use Rattle.frame_store.specs.declared.shapes.Half.TheVariants.{A, B}
use Rattle.frame_store.specs.Layouts.{IsShape, formed, is_old, header_at, slot_at, half_at, half_size, index_half_size, header_rest}
use Rattle.frame_store.specs.Listed.{size_of, closed_list, AreShort}
use Rattle.frame_store.specs.Laid.{other, Laid}
use Rattle.frame_store.specs.Images.{part, IsShut, EndsClosed, OpensAs, IsBroughtOver}
use Rattle.frame_store.specs.Steps.{IsStagedThrice, IsShutBefore, IsBrought, thrice_written, closing, next_of}
use Rattle.frame_store.proofs.Parts.{below, above, part_kept, part_stays, part_written, written_get, length-written}
use Rattle.frame_store.proofs.Listing.{are_short}
use Rattle.frame_store.proofs.Headers.{header_within}
use Rattle.frame_store.proofs.Slots.{half_behind, slot_behind, old_before}
use Rattle.frame_store.proofs.Indexes.{Index, half_small, index_opens, index_kept}
use Rattle.frame_store.proofs.Appending.{Rooted, laid_of}
use Rattle.frame_store.proofs.Changes.{laid_opens}
use Rattle.frame_store.proofs.Shutting.{length-closed_list, apart_headers, shut_kept, index_closing, is_shut, torn_shut, own_shut, index_header, index_unopened, taken_over, taken_ends}

module _ (shape : Shape) (half : Half) (number : ℕ) (other_shut : Bool) (frames new : List Frame) (blocks content : List ℕ) (limits : IsShape shape)
    (old : is_old shape ≡ true) (small : number < 2 ^ 64) (fits : size_of new + 1 ≤ index_half_size shape)
    (few : length blocks ≤ shape.records * shape.block) (rooted : Rooted shape half number other_shut frames content) where
  -- the store that it becomes
  abbrev pub to : Shape
  to = formed Moved shape

  abbrev pub gate_at : ℕ
  gate_at = header_at (other half)

  abbrev pub start_at : ℕ
  start_at = slot_at to 0

  abbrev pub list_at : ℕ
  list_at = half_at to (other half)

  abbrev pub header : List ℕ
  header = header_rest to (next_of number)

  -- the content once the other header's gate is shut, once blocks, list and header are written, and once the gate is open
  abbrev pub shut_content : List ℕ
  shut_content = written gate_at (closing other_shut) content

  abbrev pub blocks_content : List ℕ
  blocks_content = written start_at blocks shut_content

  abbrev pub list_content : List ℕ
  list_content = written list_at (closed_list new) blocks_content

  abbrev pub behind_content : List ℕ
  behind_content = thrice_written start_at blocks list_at (closed_list new) (gate_at + 1) header shut_content

  abbrev pub brought : List ℕ
  brought = written gate_at (165 ∷ []) behind_content

  within : gate_at + 32 ≤ 64
  within = header_within (other half)

  long_list : length (closed_list new) ≡ size_of new + 1
  long_list = length-closed_list new

  -- where the old halves end, the slots begin, and the index behind them
  before : half_at shape half + half_size shape ≤ start_at
  before = old_before shape half old

  pub blocks_before : (h : Half) → start_at + length blocks ≤ half_at to h
  blocks_before A = omega (arith, few)
  blocks_before B = omega (arith, few)

  -- the list is left alone by what is written from where the slots begin on
  index_behind : (from k : ℕ) → start_at ≤ from → (before_it image : List ℕ) → Index shape half frames before_it → Torn from k before_it image
      → Index shape half frames image
  index_behind from k low before_it image index torn =
      index_kept shape half frames before_it image from k torn (omega (arith, low, slot_behind to 0))
      (below (omega (arith, low, before, index.ends.within_half))) (below (omega (arith, low, before, index.ends.within_half))) index

  list_behind : start_at ≤ list_at
  list_behind = omega (arith, blocks_before (other half))

  closed : (image : List ℕ) → Index shape half frames content → Torn gate_at (length (closing other_shut)) content image → Index shape half frames image
  closed = index_closing shape half number other_shut frames content rooted

  shut_torn : Torn gate_at (length (closing other_shut)) content shut_content
  shut_torn = torn_shut shape half number other_shut frames content rooted

  shut_now : IsShut gate_at shut_content
  shut_now = is_shut shape half number other_shut frames content rooted

  whole_shut : 64 ≤ length shut_content
  whole_shut = omega (arith, rooted.whole, shut_torn.no_shorter)

  -- a write behind the headers leaves the other one shut
  shut_behind : (from k : ℕ) → 64 ≤ from → (before_it image : List ℕ) → 64 ≤ length before_it → Torn from k before_it image → IsShut gate_at before_it
      → IsShut gate_at image
  shut_behind from k low before_it image whole torn shut =
      shut_kept (other half) before_it image from k torn (omega (arith, within, low)) whole shut

  -- while blocks, list and header are written, the old list is there
  index_written : Index shape half frames shut_content → (image : List ℕ)
      → IsStagedThrice start_at (length blocks) list_at (length (closed_list new)) (gate_at + 1) 31 shut_content image → Index shape half frames image
  index_written index image staged =
      let first = staged.between in
      let second = staged.rest.between in
      let one = index_behind start_at (length blocks) (omega arith) shut_content first index staged.first in
      let two = index_behind list_at (length (closed_list new)) list_behind first second one staged.rest.first in
      let shut_one = shut_behind start_at (length blocks) (slot_behind to 0) shut_content first whole_shut staged.first shut_now in
      let shut_two = shut_behind list_at (length (closed_list new)) (half_behind to (other half)) first second one.whole staged.rest.first shut_one in
      index_header shape half number other_shut frames content rooted second image two shut_two staged.rest.second

  torn_blocks : Torn start_at (length blocks) shut_content blocks_content
  torn_blocks = written_torn start_at blocks shut_content

  torn_list : Torn list_at (length (closed_list new)) blocks_content list_content
  torn_list = written_torn list_at (closed_list new) blocks_content

  torn_header : Torn (gate_at + 1) 31 list_content behind_content
  torn_header = written_torn (gate_at + 1) header list_content

  whole_blocks : 64 ≤ length blocks_content
  whole_blocks = omega (arith, whole_shut, torn_blocks.no_shorter)

  whole_list : 64 ≤ length list_content
  whole_list = omega (arith, whole_blocks, torn_list.no_shorter)

  whole_behind : 64 ≤ length behind_content
  whole_behind = omega (arith, whole_list, torn_header.no_shorter)

  list_long : list_at + length (closed_list new) ≤ length list_content
  list_long = omega (arith, length-written list_at (closed_list new) blocks_content (omega (arith, long_list)))

  behind_long : list_at + length (closed_list new) ≤ length behind_content
  behind_long = omega (arith, list_long, torn_header.no_shorter)

  shut_still : IsShut gate_at behind_content
  shut_still =
      shut_kept (other half) list_content behind_content (gate_at + 1) 31 torn_header (omega arith) whole_list
      (shut_behind list_at (length (closed_list new)) (half_behind to (other half)) blocks_content list_content whole_blocks torn_list
      (shut_behind start_at (length blocks) (slot_behind to 0) shut_content blocks_content whole_shut torn_blocks shut_now))

  list_there : part list_at (length (closed_list new)) behind_content ≡ closed_list new
  list_there =
      part_kept (gate_at + 1) 31 list_content behind_content list_at (length (closed_list new)) torn_header list_long
      (above (omega (arith, within, half_behind to (other half))))
      ∙ part_written list_at (closed_list new) blocks_content

  blocks_there : part start_at (length blocks) behind_content ≡ blocks
  blocks_there =
      part_stays (gate_at + 1) 31 list_content behind_content start_at blocks torn_header (above (omega (arith, within, slot_behind to 0)))
      (part_stays list_at (length (closed_list new)) blocks_content list_content start_at blocks torn_list (below (blocks_before (other half)))
      (part_written start_at blocks shut_content))

  own_behind : part (header_at half) 26 behind_content ≡ part (header_at half) 26 content
  own_behind =
      part_kept (gate_at + 1) 31 list_content behind_content (header_at half) 26 torn_header (omega (arith, header_within half, whole_list))
      (apart_headers half (gate_at + 1) 31 (omega arith) (omega arith))
      ∙ part_kept list_at (length (closed_list new)) blocks_content list_content (header_at half) 26 torn_list
      (omega (arith, header_within half, whole_blocks)) (below (omega (arith, header_within half, half_behind to (other half))))
      ∙ part_kept start_at (length blocks) shut_content blocks_content (header_at half) 26 torn_blocks
      (omega (arith, header_within half, whole_shut)) (below (omega (arith, header_within half, slot_behind to 0)))
      ∙ own_shut shape half number other_shut frames content rooted

  short : AreShort new
  short = are_short new (omega (arith, half_small shape limits))

  -- where the other header's gate is open, the new list and the blocks are there
  module _ (image : List ℕ) (torn : Torn gate_at 1 behind_content image) (gate : get_or image gate_at 0 ≡ 165) where
    whole : 64 ≤ length image
    whole = omega (arith, whole_behind, torn.no_shorter)

    rest_there : part (gate_at + 1) 31 image ≡ header
    rest_there =
        part_kept gate_at 1 behind_content image (gate_at + 1) 31 torn (omega (arith, within, whole_behind)) (above (omega arith))
        ∙ part_written (gate_at + 1) header list_content

    own : part (header_at half) 26 image ≡ part (header_at half) 26 content
    own =
        part_kept gate_at 1 behind_content image (header_at half) 26 torn (omega (arith, header_within half, whole_behind))
        (apart_headers half gate_at 1 (omega arith) (omega arith)) ∙ own_behind

    long : list_at + size_of new + 1 ≤ length image
    long = omega (arith, behind_long, long_list, torn.no_shorter)

    list : part list_at (length (closed_list new)) image ≡ closed_list new
    list =
        part_kept gate_at 1 behind_content image list_at (length (closed_list new)) torn behind_long
        (above (omega (arith, within, half_behind to (other half))))
        ∙ list_there

    rooted_now : Rooted to (other half) (next_of number) false new image
    rooted_now = taken_over shape half number other_shut frames content rooted to new image small short fits whole gate rest_there own long list

    ends_now : EndsClosed to (other half) new image
    ends_now = taken_ends shape half number other_shut frames content rooted to new image small short fits whole gate rest_there own long list

    pub opened_laid : Laid to (other half) (next_of number) false new true image
    opened_laid = laid_of to (other half) (next_of number) false new image rooted_now ends_now

    pub opened : IsBroughtOver shape new blocks image
    opened = record {
      opens = laid_opens to (other half) (next_of number) false new true image opened_laid;
      stand = part_stays gate_at 1 behind_content image start_at blocks torn (above (omega (arith, within, slot_behind to 0))) blocks_there;
    }

  index_shut : Index shape half frames content → Index shape half frames shut_content
  index_shut index = closed shut_content index shut_torn

  -- the moments: until the other header's gate is opened again
  pub bring_before : Index shape half frames content → (image : List ℕ)
      → IsShutBefore gate_at (closing other_shut) start_at blocks list_at (closed_list new) header content image → OpensAs shape frames true image
  bring_before index image (inl torn) = index_opens shape half frames image (closed image index torn)
  bring_before index image (inr staged) = index_opens shape half frames image (index_written (index_shut index) image staged)

  -- and while it is
  pub bring_moment : Index shape half frames content → (image : List ℕ)
      → IsBrought gate_at (closing other_shut) start_at blocks list_at (closed_list new) header content image
      → OpensAs shape frames true image ⊎ IsBroughtOver shape new blocks image
  bring_moment index image (inl torn) = inl (index_opens shape half frames image (closed image index torn))
  bring_moment index image (inr (inl staged)) = inl (index_opens shape half frames image (index_written (index_shut index) image staged))
  bring_moment index image (inr (inr torn)) = elim (cases_eq (get_or image gate_at 0) 165) [
    | inl is_open ↦ inr (opened image torn is_open)
    | inr shut ↦
        let there = index_written (index_shut index) behind_content (record {
          between = blocks_content;
          first = torn_blocks;
          rest = record { between = list_content; first = torn_list; second = torn_header };
        }) in
        inl (index_opens shape half frames image (index_unopened shape half number other_shut frames content rooted behind_content image there shut torn))
  ]

  -- and the content at its end
  torn_gate : Torn gate_at 1 behind_content brought
  torn_gate = written_torn gate_at (165 ∷ []) behind_content

  gate_open : get_or brought gate_at 0 ≡ 165
  gate_open =
      let same : gate_at ≡ gate_at + 0 = omega arith in
      ap (λ (i : ℕ). get_or brought i 0) same ∙ written_get gate_at (165 ∷ []) behind_content 0 (omega arith)

  pub brought_laid : Laid to (other half) (next_of number) false new true brought
  brought_laid = opened_laid brought torn_gate gate_open

  pub bring_after : IsBroughtOver shape new blocks brought
  bring_after = opened brought torn_gate gate_open
