-- An old store's records that are put behind each other with new slots, one after the other.
use Rattle.std.proofs.Common.{◌≡◌, ◌≢◌, inl, inr, ⊎_elim, ℕ, suc, ◌+◌, ◌*◌, ◌<◌, ◌≤◌, Bool, true, false, cond, eqb, ltb, Option, Some, List, [], ◌∷◌, ◌++◌, length, map, refl, sym, ap, subst, ◌∙◌, append_assoc, arith}
use Rattle.std.specs.Prelude.{replicate}
use Rattle.std.specs.List.{AllByRecursion, Contains, flat_map}
use Rattle.std.specs.Option.{unwrap_or}
use Rattle.std.proofs.Math.Nat.{mul-le-mul_right}
use Rattle.std.proofs.lemmas.Bool.{eqb-true, ltb-true, or_cases}
use Rattle.std.proofs.lemmas.Bool.Decides.{nat_tests}
use Rattle.std.proofs.lemmas.List.{append-nil, length_push, length-append, length-replicate, map-append}
use Rattle.std.proofs.lemmas.Option.{same_Some}
use Rattle.stamp_store.specs.declared.kept_records.Kept.{Kept}
use Rattle.stamp_store.specs.declared.kept_records.Kept.TheVariants.{Boot}
use Rattle.stamp_store.specs.declared.log_records.LogChange.{LogChange}
use Rattle.stamp_store.specs.declared.log_records.LogChange.TheVariants.{Same, Collect, Slot}
use Rattle.version_log.specs.Versions.{Version, version}
use Rattle.frame_store.specs.declared.frames.Frame.{Frame}
use Rattle.frame_store.specs.Listed.{size_of}
use Rattle.frame_store.proofs.Listing.{size_of-append}
use Rattle.brick_state.specs.declared.records.Record.{Record}
use Rattle.brick_state.specs.declared.records.Record.TheVariants as forms
use Rattle.brick_state.specs.Entries.{Entry}
use Rattle.brick_state.specs.States.{Place, StripeOf, StateOf, booted, empty, live}
use Rattle.brick_state.specs.Folds.{Limits, applied, is_slot, slot_named}
use Rattle.brick_state.specs.KeptStates.{IsKeptState}
use Rattle.brick_state.specs.Rewrites.{groups_records, stripes_records, live_records}
use Rattle.brick_state.specs.Slots.{slots_of}
use Rattle.brick_state.proofs.Rewriting as lists
use Rattle.brick_state.proofs.StateRewrites.{records_lead}
use Rattle.brick_state.proofs.UsedSlots.{each_slot, kept_slots}
use Rattle.brick_store.specs.BlockTables.{SlotBlocks, block_under, joined_blocks}
use Rattle.brick_store.specs.Blocks.{cached, resolved, resolved_stripe}
use Rattle.brick_store.specs.BringingOver.{IsAmong, IsBroughtTo, IsCut, cut_block}
use Rattle.brick_store.specs.Images.{record_of, limits_for}
use Rattle.brick_store.specs.MovingBlocks.{AreGiven, AreMoved, IsPut}
use Rattle.brick_store.specs.Openings.{memory_limits}
use Rattle.brick_store.specs.Renumbering.{blocks_over, brought, change_over, entry_over, stripe_over, given_by, given_by_record, given_with, has_place, number_in, numbers_of, place_of, record_over, records_over, slot_for}
use Rattle.brick_store.specs.Sizes.{most, most_of}
use Rattle.brick_store.specs.Standing.{AllSlots, GroupHasMembers, IsCached}
use Rattle.brick_store.specs.Steps.{RecordHasMembers}
use Rattle.brick_store.proofs.Adding.{slots_both}
use Rattle.brick_store.proofs.CutBlocks.{block_cut, blocks_long}
use Rattle.brick_store.proofs.LiveSizes.{live_most, live_named}
use Rattle.brick_store.proofs.Numbers.{IsPlaced, all_more, at_place, given_all, given_first, given_none, placed_now, slot_kept, with_long}
use Rattle.brick_store.proofs.Renumbered.{brought_kept, brought_live, brought_records, numbers_few, numbers_have, records_name, records_names, slots_placed, stripes_slots}
use Rattle.brick_store.proofs.Resolving.{resolved_same, slots_imply, version_of}
use Rattle.brick_store.proofs.Stepping.{leads_from_records}

-- ---- a record

-- a record can be taken: its block is held under its number, of which there are so many
pub record IsTakeable (size : ℕ) (before : SlotBlocks) (named : ℕ) (r : Record) : Type 0 where
  pub members : RecordHasMembers r
  pub within : number_in r ≢ 4294967295 → number_in r < named
  pub held : IsCached size before (number_in r)

-- the numbers that have a slot once it was taken
pub by_record : (r : Record) (given : List ℕ) → given_by_record r given ≡ given_with given (number_in r)
by_record (forms.Kept kept) given = refl
by_record (forms.Logged r) given = by r.change
  where
    by : (change : LogChange) → given_by change given ≡ given_with given (slot_named change)
    by Same = refl
    by Collect = refl
    by (Slot bottom n) = refl

most_over : (given : List ℕ) (r : Record) → most (record_over given r) ≡ most r
most_over given (forms.Kept kept) = by kept
  where
    by : (k : Kept) → most (forms.Kept k) ≡ most (forms.Kept k)
    by k = refl
most_over given (forms.Logged r) = refl

-- its slot stays what it is, while others are given
record_kept : (given more : List ℕ) (r : Record) → IsPlaced given (number_in r) → record_over (given ++ more) r ≡ record_over given r
record_kept given more (forms.Kept kept) placed = refl
record_kept given more (forms.Logged r) placed = ap logged (by r.change placed)
  where
    logged : LogChange → Record
    logged change = forms.Logged (record { group = r.group; view = r.view; stripe = r.stripe; stamp = r.stamp; change = change })

    by : (change : LogChange) → IsPlaced given (slot_named change) → change_over (given ++ more) change ≡ change_over given change
    by Same placed = refl
    by Collect placed = refl
    by (Slot bottom n) placed = ap (λ (slot : ℕ). Slot bottom slot) (slot_kept given more n placed)

-- ---- on the way

-- Of the records of a state these are left. The others were put: their blocks lie in their slots, and the index is what they lead to.
pub record IsOnItsWay (size records : ℕ) (before : SlotBlocks) (st : StateOf Entry) (left : List Record) (moved : List ℕ) (next : ℕ) (held now : SlotBlocks)
    (limits : Limits) (index : StateOf Entry) (frames : List Frame) : Type 0 where
  pub given : List ℕ
  pub named : given_all given (map number_in left) ≡ numbers_of st
  pub are : AreGiven given moved next
  pub blocks : AreMoved size before given held now
  pub each : AllByRecursion (IsTakeable size before (length moved)) left
  pub enough : length given ≤ length frames
  pub limits_are : limits ≡ limits_for records
  pub leads : lists.Leads (limits_for records) (map (record_over (numbers_of st)) left) index (brought st)
  pub read : map record_of frames ++ map Some (map (record_over (numbers_of st)) left) ≡ map Some (map (record_over (numbers_of st)) (records_over st))
  pub listed : size_of frames + most_of left ≤ 15690 + 41 * live st

-- ---- at first

-- what holds of all records, and of those but the first
over_cases : (P : List Record → Type 0) (st : StateOf Entry) → P (groups_records 0 st.groups ++ stripes_records st.stripes) → P (live_records st)
    → P (records_over st)
over_cases P st rest all = by (eqb st.boot 0)
  where
    by : (b : Bool) → P (cond b (groups_records 0 st.groups ++ stripes_records st.stripes) (live_records st))
    by true = rest
    by false = all

all_both : {X : Type 0} (P Q R : X → Type 0) → ((x : X) → P x → Q x → R x) → (xs : List X) → AllByRecursion P xs → AllByRecursion Q xs → AllByRecursion R xs
all_both P Q R step [] first second = tt
all_both P Q R step (x ∷ xs) first second = (step x first.0 second.0, all_both P Q R step xs first.1 second.1)

-- each number of a version is one of those that are named
all_within : (limits : Limits) (named : ℕ) (all ns : List ℕ) → ((n : ℕ) → Contains ns n → Contains all n)
    → ((slot : ℕ) → slot < limits.slots → Contains all slot → slot < named) → AllByRecursion (λ n. is_slot limits n ≡ true) ns
    → AllByRecursion (λ n. n ≢ 4294967295 → n < named) ns
all_within limits named all [] within end are = tt
all_within limits named all (n ∷ ns) within end are =
    (λ other. end n (small other) (within n (0, omega arith, refl)), all_within limits named all ns (λ m there. within m (later m there)) end are.1)
  where
    small : n ≢ 4294967295 → n < limits.slots
    small other = ⊎_elim (λ zero_block. absurd (other (eqb-true n 4294967295 zero_block))) (λ lt. ltb-true n limits.slots lt)
        (or_cases (eqb n 4294967295) (ltb n limits.slots) are.0)

    later : (m : ℕ) → Contains ns m → Contains (n ∷ ns) m
    later m (k, lt, e) = (suc k, omega (arith, lt), e)

abbrev rest_of : StateOf Entry → List Record
rest_of st = groups_records 0 st.groups ++ stripes_records st.stripes

-- the records with their slots lead to the state with these slots
over_lead : (limits : Limits) (st : StateOf Entry) → live st ≤ 4294967295 → IsKeptState limits (brought st)
    → lists.Leads limits (map (record_over (numbers_of st)) (records_over st)) empty (brought st)
unfolding lists.Leads applied
over_lead limits st few kept = by (eqb st.boot 0) refl
  where
    all : lists.Leads limits (map (record_over (numbers_of st)) (live_records st)) empty (brought st)
    all = subst (λ (rs : List Record). lists.Leads limits (forms.Kept (Boot st.boot) ∷ rs) empty (brought st)) (brought_records st few)
        (records_lead limits (brought st) kept)

    by : (b : Bool) → eqb st.boot 0 ≡ b → lists.Leads limits (map (record_over (numbers_of st)) (cond b (rest_of st) (live_records st))) empty (brought st)
    by true is =
        let none : st.boot ≡ 0 = eqb-true st.boot 0 is in
        let mid : all.0 ≡ empty = sym (same_Some (booted st.boot empty) all.0 all.1) ∙ ap (λ (n : ℕ). booted {E = Entry} n empty) none in
        subst (λ (s : StateOf Entry). lists.Leads limits (map (record_over (numbers_of st)) (rest_of st)) s (brought st)) mid all.2
    by false is = all

-- nothing is put yet
pub at_first : (size records named : ℕ) (before : SlotBlocks) (st : StateOf Entry) (moved : List ℕ) (next : ℕ) (limits : Limits) (index : StateOf Entry)
    → IsKeptState (memory_limits records) st → records < 4294967295 → AllSlots (IsCached size before) st → AllByRecursion GroupHasMembers st.groups
    → length moved ≡ named → ((slot : ℕ) → slot < records + 1 → Contains (slots_of st) slot → slot < named) → AreGiven [] moved next
    → limits ≡ limits_for records → index ≡ empty
    → IsOnItsWay size records before st (records_over st) moved next before [] limits index []
unfolding most_of joined_blocks
at_first size records named before st moved next limits index kept few cached_all members long end are limits_are none = record {
  given = [];
  named = over_cases (λ (rs : List Record). given_all [] (map number_in rs) ≡ numbers_of st) st
      (sym (given_first [] 4294967295 (map number_in (rest_of st))) ∙ records_name st) (records_name st);
  are = are;
  blocks = record { left = λ n free. refl; here = λ n has. absurd cc; joined_are = refl };
  each = over_cases (AllByRecursion (IsTakeable size before (length moved))) st takeable.1 takeable;
  enough = omega arith;
  limits_are = limits_are;
  leads = subst (λ (s : StateOf Entry). lists.Leads (limits_for records) (map (record_over (numbers_of st)) (records_over st)) s (brought st)) (sym none)
      (over_lead (limits_for records) st (omega (arith, kept.within, few))
      (brought_kept (memory_limits records) (limits_for records) st refl (omega arith) (omega (arith, few)) kept));
  read = refl;
  listed = over_cases (λ (rs : List Record). size_of [] + most_of rs ≤ 15690 + 41 * live st) st (omega (arith, most_live)) (omega (arith, most_live));
}
  where
    most_live : most_of (live_records st) ≤ 15690 + 41 * live st
    most_live = live_most st kept.all_groups

    Has : ℕ → Type 0
    Has n = (n ≢ 4294967295 → n < length moved) × IsCached size before n

    slots : AllByRecursion Has (slots_of st)
    slots = all_both (λ n. n ≢ 4294967295 → n < length moved) (IsCached size before) Has (λ n first second. (first, second)) (slots_of st)
        (all_within (memory_limits records) (length moved) (slots_of st) (slots_of st) (λ n there. there)
        (λ slot lt there. omega (arith, long, end slot lt there)) (kept_slots (memory_limits records) st kept))
        (stripes_slots (IsCached size before) st.stripes cached_all)

    takeable : AllByRecursion (IsTakeable size before (length moved)) (live_records st)
    takeable = all_both RecordHasMembers (λ r. Has (number_in r)) (IsTakeable size before (length moved))
        (λ r first second. record { members = first; within = second.0; held = second.1 }) (live_records st) (live_named st members)
        (records_names Has (λ other. absurd (other refl), inl refl) st slots)

-- as it is told of a store of these parts
pub at_first_of : (size records : ℕ) (before : SlotBlocks) (st : StateOf Entry) (left : List Record) (moved : List ℕ) (next : ℕ) (held now : SlotBlocks)
    (limits : Limits) (index : StateOf Entry) (frames : List Frame) → left ≡ records_over st → held ≡ before → now ≡ []
    → frames ≡ [] → IsOnItsWay size records before st (records_over st) moved next before [] limits index []
    → IsOnItsWay size records before st left moved next held now limits index frames
at_first_of size records before st left moved next held now limits index frames left_is held_is now_is frames_are way =
    subst (λ (rs : List Record). IsOnItsWay size records before st rs moved next held now limits index frames) (sym left_is)
    (subst (λ (b : SlotBlocks). IsOnItsWay size records before st (records_over st) moved next b now limits index frames) (sym held_is)
    (subst (λ (b : SlotBlocks). IsOnItsWay size records before st (records_over st) moved next before b limits index frames) (sym now_is)
    (subst (λ (fs : List Frame). IsOnItsWay size records before st (records_over st) moved next before [] limits index fs) (sym frames_are) way)))

-- and of what is left
pub left_way : (size records : ℕ) (before : SlotBlocks) (st : StateOf Entry) (left rest : List Record) (moved : List ℕ) (next : ℕ) (held now : SlotBlocks)
    (limits : Limits) (index : StateOf Entry) (frames : List Frame) → left ≡ rest
    → IsOnItsWay size records before st left moved next held now limits index frames
    → IsOnItsWay size records before st rest moved next held now limits index frames
left_way size records before st left rest moved next held now limits index frames same way =
    subst (λ (rs : List Record). IsOnItsWay size records before st rs moved next held now limits index frames) same way

-- fewer slots are given than there are numbers
pub next_few : (size records : ℕ) (before : SlotBlocks) (st : StateOf Entry) (left : List Record) (moved : List ℕ) (next : ℕ) (held now : SlotBlocks)
    (limits : Limits) (index : StateOf Entry) (frames : List Frame) → records < 4294967295 → IsKeptState (memory_limits records) st
    → IsOnItsWay size records before st left moved next held now limits index frames → next < 4294967295
next_few size records before st left moved next held now limits index frames few kept way =
    let more = all_more way.given (map number_in left) in
    let all : length (numbers_of st) ≡ length way.given + length more.0 = ap length (sym way.named ∙ more.1) ∙ length-append way.given more.0 in
    omega (arith, all, way.are.next_is, numbers_few st, kept.within, few)

-- ---- one more

pub one_more : (size records : ℕ) (before : SlotBlocks) (st : StateOf Entry) (r : Record) (left : List Record) (moved moved_now : List ℕ) (next next_now : ℕ)
    (held held_now now now_now : SlotBlocks) (limits limits_now : Limits) (index index_now : StateOf Entry)
    (frames frames_now : List Frame) → (way : IsOnItsWay size records before st (r ∷ left) moved next held now limits index frames)
    → length moved_now ≡ length moved → limits_now ≡ limits → AreGiven (given_by_record r way.given) moved_now next_now
    → AreMoved size before (given_by_record r way.given) held_now now_now
    → IsPut limits (record_over (given_by_record r way.given) r) frames frames_now index index_now
    → IsOnItsWay size records before st left moved_now next_now held_now now_now limits_now index_now frames_now
unfolding lists.Leads most_of
one_more size records before st r left moved moved_now next next_now held held_now now now_now limits limits_now index index_now frames frames_now way long same are blocks put = record {
  given = now_given;
  named = named;
  are = are;
  blocks = blocks;
  each = subst (λ (n : ℕ). AllByRecursion (IsTakeable size before n) left) (sym long) way.each.1;
  enough = omega (arith, way.enough, given_long, ap length put.listed, length_push frames put.frame);
  limits_are = same ∙ way.limits_are;
  leads = subst (λ (s : StateOf Entry). lists.Leads (limits_for records) (map (record_over (numbers_of st)) left) s (brought st)) (sym leads) way.leads.2;
  read =
      ap (λ (fs : List Frame). map record_of fs ++ rest) put.listed
      ∙ ap (λ (xs : List (Option Record)). xs ++ rest) (map-append record_of frames (put.frame ∷ []))
      ∙ append_assoc (map record_of frames) (record_of put.frame ∷ []) rest
      ∙ ap (λ (o : Option Record). map record_of frames ++ o ∷ rest) (put.reads ∙ ap (λ (x : Record). Some x) (sym item))
      ∙ way.read;
  listed = omega (arith, ap size_of put.listed, size_of-append frames (put.frame ∷ []), put.few, most_over now_given r, way.listed);
}
  where
    now_given : List ℕ
    now_given = given_by_record r way.given

    by_with : now_given ≡ given_with way.given (number_in r)
    by_with = by_record r way.given

    named : given_all now_given (map number_in left) ≡ numbers_of st
    named = ap (λ (g : List ℕ). given_all g (map number_in left)) by_with ∙ sym (given_first way.given (number_in r) (map number_in left)) ∙ way.named

    placed : IsPlaced now_given (number_in r)
    placed = subst (λ (g : List ℕ). IsPlaced g (number_in r)) (sym by_with) (placed_now way.given (number_in r))

    -- its slot is the one that it has at last
    item : record_over (numbers_of st) r ≡ record_over now_given r
    item = let more = all_more now_given (map number_in left) in
        ap (λ (g : List ℕ). record_over g r) (sym named ∙ more.1) ∙ record_kept now_given more.0 r placed

    given_long : length now_given ≤ length way.given + 1
    given_long = omega (arith, ap length by_with, with_long way.given (number_in r))

    rest : List (Option Record)
    rest = map Some (map (record_over (numbers_of st)) left)

    leads : index_now ≡ way.leads.0
    leads = put.leads way.leads.0 (ap (λ (l : Limits). applied l (record_over now_given r) index) way.limits_are
        ∙ ap (λ (x : Record). applied (limits_for records) x index) (sym item) ∙ way.leads.1)

-- ---- at last

-- stripes with these slots, and seen with these blocks
abbrev stripes_moved : List ℕ → List (Place × StripeOf Entry) → List (Place × StripeOf Entry)
stripes_moved numbers stripes = map (λ e. (e.0, stripe_over numbers e.1)) stripes

abbrev stripes_seen : (ℕ → List ℕ) → List (Place × StripeOf Entry) → List (Place × StripeOf Version)
stripes_seen block stripes = map (λ e. (e.0, resolved_stripe block e.1)) stripes

module _ (size records : ℕ) (before : SlotBlocks) (st : StateOf Entry) (few : records < 4294967295) (kept : IsKeptState (memory_limits records) st)
    (cached_all : AllSlots (IsCached size before) st) (members : AllByRecursion GroupHasMembers st.groups) where
  abbrev numbers : List ℕ
  numbers = numbers_of st

  long : length numbers ≤ records
  long = omega (arith, numbers_few st, kept.within)

  -- each version has a number that has a place, and a block
  abbrev Has : ℕ → Type 0
  Has n = IsPlaced numbers n × IsCached size before n

  each : AllSlots Has st
  each = slots_both (IsPlaced numbers) (IsCached size before) st (each_slot (IsPlaced numbers) st.stripes (slots_placed st)) cached_all

  -- a block is as long as each
  block_long : (n : ℕ) → IsCached size before n → length (cached size before n) ≡ size
  block_long n (inl zero_block) = rw zero_block (length-replicate size 0)
  block_long n (inr some) = by (eqb n 4294967295)
    where
      by : (b : Bool) → length (cond b (replicate size 0) (unwrap_or (block_under before n) [])) ≡ size
      by true = length-replicate size 0
      by false = ap (λ (o : Option (List ℕ)). length (unwrap_or o [])) some.1 ∙ some.2

  blocks_are : AllByRecursion (λ n. length (cached size before n) ≡ size) numbers
  blocks_are = numbers_have (λ n. length (cached size before n) ≡ size) st
      (stripes_slots (λ n. length (cached size before n) ≡ size) st.stripes
      (slots_imply (IsCached size before) (λ n. length (cached size before n) ≡ size) block_long st cached_all))

  module _ (now : SlotBlocks) (here : (n : ℕ) → has_place numbers n ≡ true → block_under now (place_of numbers n) ≡ block_under before n) where
    bytes : List ℕ
    bytes = flat_map (cached size before) numbers

    bytes_long : length bytes ≡ length numbers * size
    unfolding bytes
    bytes_long = blocks_long (cached size before) size numbers blocks_are

    -- the slot of a number that has a place is not that of the zero block
    slot_is : (n : ℕ) → eqb n 4294967295 ≡ false → has_place numbers n ≡ true → (slot_for numbers n ≡ place_of numbers n)
        × ((eqb (place_of numbers n) 4294967295 ≡ false) × (place_of numbers n < length numbers))
    slot_is n other has =
        let lt : place_of numbers n < length numbers = grind (arith, nat_tests) in
        (rw other refl, (let small = long in grind (arith, nat_tests, few), lt))

    -- its block is cut out of the bytes
    cut_is : (n : ℕ) → Has n → cut_block size bytes (slot_for numbers n) ≡ cached size before n
    unfolding bytes
    cut_is n (placed, held) = by (eqb n 4294967295) refl placed
      where
        by : (b : Bool) → eqb n 4294967295 ≡ b → IsPlaced numbers n
            → cut_block size (flat_map (cached size before) numbers) (cond b 4294967295 (place_of numbers n))
            ≡ cond b (replicate size 0) (unwrap_or (block_under before n) [])
        by true is placed = refl
        by false is (inl zero_block) = absurd cc
        by false is (inr has) =
            let slot = slot_is n is has in
            rw slot.1.0 (block_cut (cached size before) size numbers (place_of numbers n) blocks_are slot.1.1
            ∙ ap (cached size before) (at_place numbers n has)
            ∙ ap (λ (c : Bool). cond c (replicate size 0) (unwrap_or (block_under before n) [])) is)

    -- and held under its slot
    now_is : (n : ℕ) → Has n → cached size now (slot_for numbers n) ≡ cached size before n
    now_is n (placed, held) = by (eqb n 4294967295) refl placed
      where
        by : (b : Bool) → eqb n 4294967295 ≡ b → IsPlaced numbers n → cached size now (cond b 4294967295 (place_of numbers n))
            ≡ cond b (replicate size 0) (unwrap_or (block_under before n) [])
        by true is placed = refl
        by false is (inl zero_block) = absurd cc
        by false is (inr has) =
            let slot = slot_is n is has in rw slot.1.0 (ap (λ (o : Option (List ℕ)). unwrap_or o []) (here n has))

    cached_now : (n : ℕ) → Has n → IsCached size now (slot_for numbers n)
    cached_now n (placed, held) = by (eqb n 4294967295) refl placed held
      where
        by : (b : Bool) → eqb n 4294967295 ≡ b → IsPlaced numbers n → IsCached size before n → IsCached size now (cond b 4294967295 (place_of numbers n))
        by true is placed held = inl refl
        by false is (inl zero_block) held = absurd cc
        by false is (inr has) (inl zero_block) = absurd cc
        by false is (inr has) (inr some) = inr (some.0, here n has ∙ some.1, some.2)

    among : (n : ℕ) → Has n → IsAmong size (length bytes) (slot_for numbers n)
    among n (placed, held) = by (eqb n 4294967295) refl placed
      where
        by : (b : Bool) → eqb n 4294967295 ≡ b → IsPlaced numbers n → IsAmong size (length bytes) (cond b 4294967295 (place_of numbers n))
        by true is placed = inl refl
        by false is (inl zero_block) = absurd cc
        by false is (inr has) =
            let lt = (slot_is n is has).1.1 in
            let le : place_of numbers n + 1 ≤ length numbers = omega (arith, lt) in
            inr (omega (arith, bytes_long, mul-le-mul_right {m = place_of numbers n + 1} {n = length numbers} size le))

    -- what holds of the new slots holds of the state with them
    slots_over : (P : ℕ → Type 0) → ((n : ℕ) → Has n → P (slot_for numbers n)) → AllSlots P (brought st)
    slots_over P step = stripes_over st.stripes each
      where
        entries_over : (entries : List Entry) → AllByRecursion (λ v. Has v.block) entries
            → AllByRecursion {X = Entry} (λ v. P v.block) (map (entry_over numbers) entries)
        entries_over [] all = tt
        entries_over (e ∷ entries) all = (step e.block all.0, entries_over entries all.1)

        stripes_over : (stripes : List (Place × StripeOf Entry)) → AllByRecursion (λ e. AllByRecursion (λ v. Has v.block) e.1.added) stripes
            → AllByRecursion {X = Place × StripeOf Entry} (λ e. AllByRecursion (λ v. P v.block) e.1.added) (stripes_moved numbers stripes)
        stripes_over [] all = tt
        stripes_over (e ∷ stripes) all = (entries_over e.1.added all.0, stripes_over stripes all.1)

    -- and the state with its blocks is the one with the blocks of the new slots
    state_over : (block : ℕ → List ℕ) → ((n : ℕ) → Has n → block (slot_for numbers n) ≡ cached size before n)
        → resolved block (brought st) ≡ resolved (cached size before) st
    unfolding resolved
    state_over block same =
        moved_resolved ∙ resolved_same (λ n. block (slot_for numbers n)) (cached size before) st
        (slots_imply Has (λ n. block (slot_for numbers n) ≡ cached size before n) same st each)
      where
        entries_same : (entries : List Entry) → map (version_of block) (map (entry_over numbers) entries)
            ≡ map (version_of (λ n. block (slot_for numbers n))) entries
        entries_same [] = refl
        entries_same (e ∷ entries) = ap (λ (vs : List Version). version e.stamp (block (slot_for numbers e.block)) ∷ vs) (entries_same entries)

        stripes_same : (stripes : List (Place × StripeOf Entry))
            → stripes_seen block (stripes_moved numbers stripes) ≡ stripes_seen (λ n. block (slot_for numbers n)) stripes
        stripes_same [] = refl
        stripes_same (e ∷ stripes) =
            ap (λ (vs : List Version). (e.0, stripe_with e.1 vs) ∷ stripes_seen block (stripes_moved numbers stripes))
            (entries_same e.1.added)
            ∙ ap (λ (es : List (Place × StripeOf Version)). (e.0, resolved_stripe (λ n. block (slot_for numbers n)) e.1) ∷ es) (stripes_same stripes)
          where
            stripe_with : StripeOf Entry → List Version → StripeOf Version
            stripe_with s vs = record { order = s.order; from_start = s.from_start; added = vs }

        moved_resolved : resolved block (brought st) ≡ resolved (λ n. block (slot_for numbers n)) st
        moved_resolved = ap (λ (stripes : List (Place × StripeOf Version)). record { boot = st.boot; groups = st.groups; stripes = stripes }) (stripes_same st.stripes)

-- the records that bring back the state with the new slots
over_records : (st : StateOf Entry) → live st ≤ 4294967295 → map (record_over (numbers_of st)) (records_over st) ≡ records_over (brought st)
over_records st few = by (eqb st.boot 0)
  where
    by : (b : Bool) → map (record_over (numbers_of st)) (cond b (rest_of st) (live_records st)) ≡ cond b (rest_of (brought st)) (live_records (brought st))
    by true = sym (brought_records st few)
    by false = ap (λ (rs : List Record). forms.Kept (Boot st.boot) ∷ rs) (sym (brought_records st few))

-- all are put
pub record IsBrought (size records : ℕ) (before : SlotBlocks) (st : StateOf Entry) (now : SlotBlocks) (bytes : List ℕ) (limits : Limits) (index : StateOf Entry)
    (frames : List Frame) : Type 0 where
  pub state : index ≡ brought st
  pub read : map record_of frames ≡ map Some (records_over (brought st))
  pub bytes_are : bytes ≡ blocks_over (cached size before) st
  pub over : IsBroughtTo size records (resolved (cached size before) st) limits index now bytes frames

pub at_last : (size records : ℕ) (before : SlotBlocks) (st : StateOf Entry) (moved : List ℕ) (next : ℕ) (held now : SlotBlocks) (bytes : List ℕ)
    (limits : Limits) (index : StateOf Entry) (frames : List Frame) → records < 4294967295 → IsKeptState (memory_limits records) st
    → AllSlots (IsCached size before) st → AllByRecursion GroupHasMembers st.groups
    → IsOnItsWay size records before st [] moved next held now limits index frames → bytes ≡ joined_blocks now next
    → IsBrought size records before st now bytes limits index frames
unfolding lists.Leads most_of bytes
at_last size records before st moved next held now bytes limits index frames few kept cached_all members way joined = record {
  state = way.leads;
  read = read;
  bytes_are = bytes_are;
  over = subst (λ (s : StateOf Entry). IsBroughtTo size records (resolved (cached size before) st) limits s now bytes frames) (sym way.leads)
      (subst (λ (bs : List ℕ). IsBroughtTo size records (resolved (cached size before) st) limits (brought st) now bs frames) (sym bytes_are) (record {
        limits_are = way.limits_are;
        leads = leads_from_records (limits_for records) frames (records_over (brought st)) empty (brought st) read
            (subst (λ (rs : List Record). lists.Leads (limits_for records) rs empty (brought st)) (over_records st small)
            (over_lead (limits_for records) st small kept_now));
        kept = kept_now;
        members = members;
        count = length (numbers_of st);
        long = bytes_long size records before st few kept cached_all members now here;
        few = omega (arith, way.enough, ap length given_is);
        slots = omega (arith, numbers_few st, kept.within);
        among = slots_over size records before st few kept cached_all members now here (IsAmong size (length content))
            (among size records before st few kept cached_all members now here);
        held = slots_over size records before st few kept cached_all members now here (IsCached size now)
            (cached_now size records before st few kept cached_all members now here);
        cut = slots_over size records before st few kept cached_all members now here (IsCut size content now)
            (λ n has. cut_is size records before st few kept cached_all members now here n has
            ∙ sym (now_is size records before st few kept cached_all members now here n has));
        state = state_over size records before st few kept cached_all members now here (cut_block size content)
            (cut_is size records before st few kept cached_all members now here);
        listed = omega (arith, way.listed, brought_live st small);
      }));
}
  where
    small : live st ≤ 4294967295
    small = omega (arith, kept.within, few)

    kept_now : IsKeptState (limits_for records) (brought st)
    kept_now = brought_kept (memory_limits records) (limits_for records) st refl (omega arith) (omega (arith, few)) kept

    given_is : way.given ≡ numbers_of st
    given_is = sym (given_none way.given) ∙ way.named

    here : (n : ℕ) → has_place (numbers_of st) n ≡ true → block_under now (place_of (numbers_of st) n) ≡ block_under before n
    here = subst (λ (g : List ℕ). (n : ℕ) → has_place g n ≡ true → block_under now (place_of g n) ≡ block_under before n) given_is way.blocks.here

    content : List ℕ
    content = blocks_over (cached size before) st

    bytes_are : bytes ≡ blocks_over (cached size before) st
    bytes_are = joined ∙ ap (joined_blocks now) way.are.next_is ∙ way.blocks.joined_are ∙ ap (flat_map (cached size before)) given_is

    read : map record_of frames ≡ map Some (records_over (brought st))
    read = sym (append-nil (map record_of frames)) ∙ way.read ∙ ap (λ (rs : List Record). map Some rs) (over_records st small)
