-- The bytes of the volumes and the places of their segments are one to one.
use Rattle.std.proofs.Common.{◌≡◌, ◌⊎◌, ◌↔◌, inl, inr, ℕ, zero, suc, ◌+◌, ◌-◌, ◌*◌, ◌/◌, ◌%◌, ◌<◌, ◌≤◌, nat_eq, nat_lt, Bool, true, false, ◌&&◌, cond, List, [], ◌∷◌, ◌++◌, Option, Some, None, option_map, option_and_then, IsSome, IsSomeAnd, slice_get, refl, sym, ap, subst, ◌∙◌, true≢false, mul_comm, mul-zero, arith}
use Rattle.std.specs.List.{AllByRecursion, IsDistinct, find}
use Rattle.std.specs.Str.{bytes_eq}
use Rattle.std.proofs.lemmas.Bool.{and_from}
use Rattle.std.proofs.lemmas.Bool.Decides.{nat_tests}
use Rattle.std.proofs.lemmas.Nat.{div-add-mod', div_below, mod_below, mul-add-lt, div-mul-add, mod-mul-add}
use Rattle.std.proofs.lemmas.Slice.Eq.{bytes_eq-Decides}
use Rattle.fab_base.specs.declared.segments.Segment.{Segment}
use Rattle.fab_base.specs.Layouts.{Group, Volume, Layout}
use Rattle.layout.specs.declared.places.Place.{Place}
use Rattle.layout.specs.Limits.{IsSegment, IsVolume, IsLayout}
use Rattle.layout.specs.Segments.{shares_stripe, segments_of}
use Rattle.layout.specs.Places.{volume_of, stripe_blocks, segment_length, run_length, length_of, place_from, place_in, place_of, LiesIn, LiesInOne, AreOneToOne}

-- ---- lists

-- what is true of each element is true of one
all_has : {X : Type 0} (P : X → Type 0) (xs : List X) (i : ℕ) (x : X) → AllByRecursion P xs → slice_get xs i ≡ Some x → P x
all_has P [] i x all is = let never : None ≡ Some x = is in cc
all_has P (y ∷ ys) zero x all is =
    let same : Some y ≡ Some x = is in
    let e : y ≡ x = cc in
    subst P e all.0
all_has P (y ∷ ys) (suc i) x all is = all_has P ys i x all.1 is

all_left : {X : Type 0} (P : X → Type 0) (xs ys : List X) → AllByRecursion P (xs ++ ys) → AllByRecursion P xs
all_left P [] ys all = tt
all_left P (x ∷ xs) ys all = (all.0, all_left P xs ys all.1)

all_right : {X : Type 0} (P : X → Type 0) (xs ys : List X) → AllByRecursion P (xs ++ ys) → AllByRecursion P ys
all_right P [] ys all = all
all_right P (x ∷ xs) ys all = all_right P xs ys all.1

-- parts of a list of distinct elements
distinct_left : {X : Type 0} (same : X → X → Bool) (xs ys : List X) → IsDistinct same (xs ++ ys) → IsDistinct same xs
unfolding IsDistinct
distinct_left same [] ys distinct = tt
distinct_left same (x ∷ xs) ys distinct = (all_left (λ y. same x y ≡ false) xs ys distinct.0, distinct_left same xs ys distinct.1)

distinct_right : {X : Type 0} (same : X → X → Bool) (xs ys : List X) → IsDistinct same (xs ++ ys) → IsDistinct same ys
unfolding IsDistinct
distinct_right same [] ys distinct = distinct
distinct_right same (x ∷ xs) ys distinct = distinct_right same xs ys distinct.1

-- an element of the first part is distinct from one of the second
distinct_cross : {X : Type 0} (same : X → X → Bool) (xs ys : List X) (i j : ℕ) (x y : X) → IsDistinct same (xs ++ ys)
    → slice_get xs i ≡ Some x → slice_get ys j ≡ Some y → same x y ≡ false
unfolding IsDistinct
distinct_cross same [] ys i j x y distinct here there = let never : None ≡ Some x = here in cc
distinct_cross same (z ∷ zs) ys zero j x y distinct here there =
    let first : Some z ≡ Some x = here in
    let e : z ≡ x = cc in
    subst (λ w. same w y ≡ false) e
    (all_has (λ w. same z w ≡ false) ys j y (all_right (λ w. same z w ≡ false) zs ys distinct.0) there)
distinct_cross same (z ∷ zs) ys (suc i) j x y distinct here there = distinct_cross same zs ys i j x y distinct.1 here there

-- an element of a part is one of the whole
has_left : {X : Type 0} (xs ys : List X) (i : ℕ) (x : X) → slice_get xs i ≡ Some x → slice_get (xs ++ ys) i ≡ Some x
has_left [] ys i x is = let never : None ≡ Some x = is in cc
has_left (y ∷ xs) ys zero x is = is
has_left (y ∷ xs) ys (suc i) x is = has_left xs ys i x is

has_right : {X : Type 0} (xs ys : List X) (i : ℕ) (x : X) → slice_get ys i ≡ Some x → (k : ℕ) × (slice_get (xs ++ ys) k ≡ Some x)
has_right [] ys i x is = (i, is)
has_right (y ∷ xs) ys i x is =
    let (k, found) = has_right xs ys i x is in
    (suc k, found)

-- ---- places of one segment

-- numbers with the same quotient and remainder are the same
same_parts : (x y m : ℕ) → x / m ≡ y / m → x % m ≡ y % m → x ≡ y
same_parts x y m quotient rest =
    sym (div-add-mod' x m) ∙ ap (λ (q : ℕ). q * m + x % m) quotient ∙ ap (λ (r : ℕ). y / m * m + r) rest ∙ div-add-mod' y m

-- a place by its numbers
abbrev numbered : ℕ → ℕ → ℕ → ℕ → Place
numbered g stripe block within = record { group = record { 0 = g }; stripe = record { 0 = stripe }; block = block; within = within }

-- places with the same numbers are the same
same_numbers : (p q : Place) → p.group.0 ≡ q.group.0 → p.stripe.0 ≡ q.stripe.0 → p.block ≡ q.block → p.within ≡ q.within → p ≡ q
same_numbers p q group stripe block within =
    ap (λ (n : ℕ). numbered n p.stripe.0 p.block p.within) group
    ∙ ap (λ (n : ℕ). numbered q.group.0 n p.block p.within) stripe
    ∙ ap (λ (n : ℕ). numbered q.group.0 q.stripe.0 n p.within) block
    ∙ ap (λ (n : ℕ). numbered q.group.0 q.stripe.0 q.block n) within

-- the second factor of a product that is above a number is not 0
factor_right : (a b n : ℕ) → n < a * b → 1 ≤ b
factor_right a zero n below =
    let never : n < zero = subst (λ (k : ℕ). n < k) (mul-zero a) below in
    omega (arith, never)
factor_right a (suc b) n below = omega arith

-- bytes of a segment with the same place are the same
same_byte : (layout : Layout) (segment : Segment) (byte at : ℕ) → place_from layout segment byte ≡ place_from layout segment at → byte ≡ at
same_byte layout segment byte at same =
    let b = layout.block in
    let m = stripe_blocks layout segment in
    let stripe : segment.first.0 + byte / b / m ≡ segment.first.0 + at / b / m = ap (λ (p : Place). p.stripe.0) same in
    let quotient : byte / b / m ≡ at / b / m = omega (arith, stripe) in
    let block : byte / b % m ≡ at / b % m = ap (λ (p : Place). p.block) same in
    let within : byte % b ≡ at % b = ap (λ (p : Place). p.within) same in
    same_parts byte at b (same_parts (byte / b) (at / b) m quotient block) within

-- the byte of a place of a segment
abbrev byte_at : Layout → Segment → Place → ℕ
byte_at layout segment place =
    ((place.stripe.0 - segment.first.0) * stripe_blocks layout segment + place.block) * layout.block + place.within

byte_below : (layout : Layout) (segment : Segment) (place : Place) → LiesIn layout segment place
    → byte_at layout segment place < segment_length layout segment
byte_below layout segment place is =
    let b = layout.block in
    let m = stripe_blocks layout segment in
    let d = place.stripe.0 - segment.first.0 in
    let stripe : d < segment.stripes = omega (arith, is.from, is.below) in
    let number : d * m + place.block < m * segment.stripes = mul-add-lt d m place.block segment.stripes stripe is.block in
    let all : (d * m + place.block) * b + place.within < b * (m * segment.stripes) =
    mul-add-lt (d * m + place.block) b place.within (m * segment.stripes) number is.within in
    subst (λ (n : ℕ). byte_at layout segment place < n) (mul_comm b (m * segment.stripes) ∙ ap (λ (n : ℕ). n * b) (mul_comm m segment.stripes)) all

byte_place : (layout : Layout) (segment : Segment) (place : Place) → LiesIn layout segment place
    → place_from layout segment (byte_at layout segment place) ≡ place
byte_place layout segment place is =
    let b = layout.block in
    let m = stripe_blocks layout segment in
    let d = place.stripe.0 - segment.first.0 in
    let number : byte_at layout segment place / b ≡ d * m + place.block = div-mul-add (d * m + place.block) b place.within is.within in
    let quotient : byte_at layout segment place / b / m ≡ d = ap (λ (n : ℕ). n / m) number ∙ div-mul-add d m place.block is.block in
    let rest : byte_at layout segment place / b % m ≡ place.block = ap (λ (n : ℕ). n % m) number ∙ mod-mul-add d m place.block is.block in
    same_numbers (place_from layout segment (byte_at layout segment place)) place (sym is.group) (omega (arith, quotient, is.from)) rest
    (mod-mul-add (d * m + place.block) b place.within is.within)

-- what a byte of a segment says of the numbers that give its place
pub record HasNumbers (layout : Layout) (segment : Segment) (byte : ℕ) : Type 0 where
  pub some_byte : 1 ≤ layout.block
  pub some_block : 1 ≤ stripe_blocks layout segment
  pub stripe : byte / layout.block / stripe_blocks layout segment < segment.stripes
  pub block : byte / layout.block % stripe_blocks layout segment < stripe_blocks layout segment
  pub within : byte % layout.block < layout.block

pub numbers : (layout : Layout) (segment : Segment) (byte : ℕ) → byte < segment_length layout segment → HasNumbers layout segment byte
numbers layout segment byte below =
    let b = layout.block in
    let m = stripe_blocks layout segment in
    let some_byte : 1 ≤ b = factor_right (segment.stripes * m) b byte below in
    let blocks : byte / b < segment.stripes * m = div_below byte b (segment.stripes * m) some_byte below in
    let some_block : 1 ≤ m = factor_right segment.stripes m (byte / b) blocks in
    record {
      some_byte = some_byte;
      some_block = some_block;
      stripe = div_below (byte / b) m segment.stripes some_block blocks;
      block = mod_below (byte / b) m some_block;
      within = mod_below byte b some_byte;
    }

-- the place of a byte of a segment is one of the segment's
lies : (layout : Layout) (segment : Segment) (byte : ℕ) → byte < segment_length layout segment
    → LiesIn layout segment (place_from layout segment byte)
lies layout segment byte below =
    let has = numbers layout segment byte below in
    record {
      group = refl;
      from = omega arith;
      below = omega (arith, has.stripe);
      block = has.block;
      within = has.within;
    }

-- a segment ends with its group, or before
pub segment_fits : (layout : Layout) (segment : Segment) → IsLayout layout → IsSegment layout.groups segment
    → segment.first.0 + segment.stripes ≤ 65536
segment_fits layout segment is held = by_group (slice_get layout.groups segment.group.0) refl held.held
  where
    by_group : (o : Option Group) → slice_get layout.groups segment.group.0 ≡ o
        → IsSomeAnd o (λ (group : Group). segment.first.0 + segment.stripes ≤ group.stripes) → segment.first.0 + segment.stripes ≤ 65536
    by_group None e never = absurd never
    by_group (Some group) e upto = omega (arith, upto, (is.each segment.group.0 group e).few_stripes)

-- segments with a place in common have a stripe in common
shares : (layout : Layout) (s t : Segment) (place : Place) → LiesIn layout s place → LiesIn layout t place → shares_stripe s t ≡ true
shares layout s t place here there =
    let same : s.group.0 ≡ t.group.0 = sym here.group ∙ there.group in
    let low : s.first.0 < t.first.0 + t.stripes = omega (arith, here.from, there.below) in
    let high : t.first.0 < s.first.0 + s.stripes = omega (arith, there.from, here.below) in
    let group_test : nat_eq s.group.0 t.group.0 ≡ true = grind (arith, nat_tests, same) in
    let low_test : nat_lt s.first.0 (t.first.0 + t.stripes) ≡ true = grind (arith, nat_tests, low) in
    let high_test : nat_lt t.first.0 (s.first.0 + s.stripes) ≡ true = grind (arith, nat_tests, high) in
    and_from (nat_eq s.group.0 t.group.0) (nat_lt s.first.0 (t.first.0 + t.stripes) && nat_lt t.first.0 (s.first.0 + s.stripes)) group_test
    (and_from (nat_lt s.first.0 (t.first.0 + t.stripes)) (nat_lt t.first.0 (s.first.0 + s.stripes)) low_test high_test)

-- ---- places of some segments

-- a byte is one of the first segment's, or one of the others'
record IsFirst (layout : Layout) (segment : Segment) (byte : ℕ) (place : Place) : Type 0 where
  below : byte < segment_length layout segment
  same : place_from layout segment byte ≡ place

record IsLater (layout : Layout) (segment : Segment) (more : List Segment) (byte : ℕ) (place : Place) : Type 0 where
  past : segment_length layout segment ≤ byte
  rest : place_in layout more (byte - segment_length layout segment) ≡ Some place

first_or_later : (layout : Layout) (segment : Segment) (more : List Segment) (byte : ℕ) (place : Place)
    → place_in layout (segment ∷ more) byte ≡ Some place → IsFirst layout segment byte place ⊎ IsLater layout segment more byte place
first_or_later layout segment more byte place is = chosen (nat_lt byte (segment_length layout segment)) refl is
  where
    chosen : (b : Bool) → nat_lt byte (segment_length layout segment) ≡ b
        → cond b (Some (place_from layout segment byte)) (place_in layout more (byte - segment_length layout segment)) ≡ Some place
        → IsFirst layout segment byte place ⊎ IsLater layout segment more byte place
    chosen true test found =
        let some : Some (place_from layout segment byte) ≡ Some place = found in
        let place_is : place_from layout segment byte ≡ place = cc in
        let below : byte < segment_length layout segment = grind (arith, nat_tests, test) in
        inl (record { below = below; same = place_is })
    chosen false test found =
        let past : segment_length layout segment ≤ byte = grind (arith, nat_tests, test) in
        inr (record { past = past; rest = found })

-- the place of a byte is one of the segments'
lies_in_one : (layout : Layout) (segments : List Segment) (byte : ℕ) (place : Place) → place_in layout segments byte ≡ Some place
    → LiesInOne layout segments place
lies_in_one layout [] byte place is = let never : None ≡ Some place = is in cc
lies_in_one layout (segment ∷ more) byte place is =
    by_place (first_or_later layout segment more byte place is)
    (λ rest. lies_in_one layout more (byte - segment_length layout segment) place rest)
  where
    later : LiesInOne layout more place → LiesInOne layout (segment ∷ more) place
    later (i, s, found, there) = (suc i, s, found, there)

    by_place : (IsFirst layout segment byte place ⊎ IsLater layout segment more byte place)
        → (place_in layout more (byte - segment_length layout segment) ≡ Some place → LiesInOne layout more place)
        → LiesInOne layout (segment ∷ more) place
    by_place (inl first) others = (zero, segment, refl, subst (LiesIn layout segment) first.same (lies layout segment byte first.below))
    by_place (inr rest) others = later (others rest.rest)

-- no place of the first of some segments that are apart is one of the others'
first_apart : (layout : Layout) (segment : Segment) (more : List Segment) (place : Place) → IsDistinct shares_stripe (segment ∷ more)
    → LiesIn layout segment place → LiesInOne layout more place → ⊥
unfolding IsDistinct
first_apart layout segment more place apart here (i, s, found, there) =
    true≢false (sym (shares layout segment s place here there) ∙ all_has (λ t. shares_stripe segment t ≡ false) more i s apart.0 found)

-- of segments that are apart, bytes with the same place are the same
one_byte : (layout : Layout) (segments : List Segment) (byte at : ℕ) (place : Place) → IsDistinct shares_stripe segments
    → place_in layout segments byte ≡ Some place → place_in layout segments at ≡ Some place → byte ≡ at
one_byte layout [] byte at place apart is other = let never : None ≡ Some place = is in cc
one_byte layout (segment ∷ more) byte at place apart is other =
    by_places (first_or_later layout segment more byte place is) (first_or_later layout segment more at place other)
    (λ a b. one_byte layout more (byte - segment_length layout segment) (at - segment_length layout segment) place
    (distinct_right shares_stripe (segment ∷ []) more apart) a b)
  where
    by_places : (IsFirst layout segment byte place ⊎ IsLater layout segment more byte place)
        → (IsFirst layout segment at place ⊎ IsLater layout segment more at place)
        → (place_in layout more (byte - segment_length layout segment) ≡ Some place
        → place_in layout more (at - segment_length layout segment) ≡ Some place
        → byte - segment_length layout segment ≡ at - segment_length layout segment) → byte ≡ at
    by_places (inl a) (inl b) others = same_byte layout segment byte at (a.same ∙ sym b.same)
    by_places (inl a) (inr b) others =
        absurd (first_apart layout segment more place apart (subst (LiesIn layout segment) a.same (lies layout segment byte a.below))
        (lies_in_one layout more (at - segment_length layout segment) place b.rest))
    by_places (inr a) (inl b) others =
        absurd (first_apart layout segment more place apart (subst (LiesIn layout segment) b.same (lies layout segment at b.below))
        (lies_in_one layout more (byte - segment_length layout segment) place a.rest))
    by_places (inr a) (inr b) others =
        let rest : byte - segment_length layout segment ≡ at - segment_length layout segment = others a.rest b.rest in
        omega (arith, rest, a.past, b.past)

-- each place of one of some segments is that of a byte
reached_in : (layout : Layout) (segments : List Segment) (i : ℕ) (segment : Segment) (place : Place) → slice_get segments i ≡ Some segment
    → LiesIn layout segment place → (byte : ℕ) × (place_in layout segments byte ≡ Some place)
reached_in layout [] i segment place found is = let never : None ≡ Some segment = found in cc
reached_in layout (s ∷ more) zero segment place found is =
    let same : Some s ≡ Some segment = found in
    let s_is : s ≡ segment = cc in
    let here : LiesIn layout s place = subst (λ (t : Segment). LiesIn layout t place) (sym s_is) is in
    let below = byte_below layout s place here in
    let test : nat_lt (byte_at layout s place) (segment_length layout s) ≡ true = grind (arith, nat_tests, below) in (
      byte_at layout s place,
      ap (λ (b : Bool). cond b (Some (place_from layout s (byte_at layout s place)))
          (place_in layout more (byte_at layout s place - segment_length layout s))) test
          ∙ ap (λ (p : Place). Some p) (byte_place layout s place here),
    )
reached_in layout (s ∷ more) (suc i) segment place found is = later (reached_in layout more i segment place found is)
  where
    later : ((byte : ℕ) × (place_in layout more byte ≡ Some place)) → (byte : ℕ) × (place_in layout (s ∷ more) byte ≡ Some place)
    later (byte, there) =
        let end = segment_length layout s in
        let test : nat_lt (end + byte) end ≡ false = grind (arith, nat_tests) in
        let back : end + byte - end ≡ byte = omega arith in (
          end + byte,
          ap (λ (b : Bool). cond b (Some (place_from layout s (end + byte))) (place_in layout more (end + byte - end))) test
              ∙ ap (λ (n : ℕ). place_in layout more n) back ∙ there,
        )

-- a byte has a place below the length of the segments, and nowhere else
some_below : (layout : Layout) (segments : List Segment) (byte : ℕ) → IsSome (place_in layout segments byte) → byte < run_length layout segments
some_below layout [] byte some = absurd (true≢false (sym some))
some_below layout (s ∷ more) byte some =
    by_test (nat_lt byte (segment_length layout s)) refl (λ is. some_below layout more (byte - segment_length layout s) is) some
  where
    by_test : (b : Bool) → nat_lt byte (segment_length layout s) ≡ b
        → (IsSome (place_in layout more (byte - segment_length layout s)) → byte - segment_length layout s < run_length layout more)
        → IsSome (cond b (Some (place_from layout s byte)) (place_in layout more (byte - segment_length layout s)))
        → byte < segment_length layout s + run_length layout more
    by_test true test others is =
        let below : byte < segment_length layout s = grind (arith, nat_tests, test) in
        omega (arith, below)
    by_test false test others is =
        let rest : byte - segment_length layout s < run_length layout more = others is in
        omega (arith, rest)

below_some : (layout : Layout) (segments : List Segment) (byte : ℕ) → byte < run_length layout segments → IsSome (place_in layout segments byte)
below_some layout [] byte below = absurd (omega (arith, below))
below_some layout (s ∷ more) byte below =
    by_test (nat_lt byte (segment_length layout s)) refl (λ rest. below_some layout more (byte - segment_length layout s) rest)
  where
    by_test : (b : Bool) → nat_lt byte (segment_length layout s) ≡ b
        → (byte - segment_length layout s < run_length layout more → IsSome (place_in layout more (byte - segment_length layout s)))
        → IsSome (cond b (Some (place_from layout s byte)) (place_in layout more (byte - segment_length layout s)))
    by_test true test others = refl
    by_test false test others =
        let past : segment_length layout s ≤ byte = grind (arith, nat_tests, test) in
        others (omega (arith, past, below))

-- ---- volumes

-- the volume of a name among some
abbrev named : List Volume → List ℕ → Option Volume
named volumes name = find (λ volume. bytes_eq volume.name name) volumes

-- the first volume is the one of the name, or it is one of the others
record IsHead (head : Volume) (name : List ℕ) (volume : Volume) : Type 0 where
  name_is : head.name ≡ name
  volume_is : head ≡ volume

head_or_more : (head : Volume) (more : List Volume) (name : List ℕ) (volume : Volume) → named (head ∷ more) name ≡ Some volume
    → IsHead head name volume ⊎ (named more name ≡ Some volume)
head_or_more head more name volume is = chosen (bytes_eq head.name name) refl is
  where
    chosen : (b : Bool) → bytes_eq head.name name ≡ b → cond b (Some head) (named more name) ≡ Some volume
        → IsHead head name volume ⊎ (named more name ≡ Some volume)
    chosen true test found =
        let some : Some head ≡ Some volume = found in
        let e : head ≡ volume = cc in
        inl (record { name_is = (bytes_eq-Decides head.name name).0 test; volume_is = e })
    chosen false test found = inr found

-- what holds of each volume holds of the one of a name
pub named_has : (P : Volume → Type 0) (volumes : List Volume) (name : List ℕ) (volume : Volume) → AllByRecursion P volumes
    → named volumes name ≡ Some volume → P volume
named_has P [] name volume all is = let never : None ≡ Some volume = is in cc
named_has P (head ∷ more) name volume all is =
    by_head (head_or_more head more name volume is) (λ there. named_has P more name volume all.1 there)
  where
    by_head : (IsHead head name volume ⊎ (named more name ≡ Some volume)) → (named more name ≡ Some volume → P volume) → P volume
    by_head (inl here) others = subst P here.volume_is all.0
    by_head (inr there) others = others there

-- a segment of a volume is one of all the segments
segment_of_all : (volumes : List Volume) (name : List ℕ) (volume : Volume) (i : ℕ) (segment : Segment) → named volumes name ≡ Some volume
    → slice_get volume.segments i ≡ Some segment → (k : ℕ) × (slice_get (segments_of volumes) k ≡ Some segment)
segment_of_all [] name volume i segment is found = let never : None ≡ Some volume = is in cc
segment_of_all (head ∷ more) name volume i segment is found =
    by_head (head_or_more head more name volume is) (λ there. segment_of_all more name volume i segment there found)
  where
    later : ((k : ℕ) × (slice_get (segments_of more) k ≡ Some segment)) → (k : ℕ) × (slice_get (segments_of (head ∷ more)) k ≡ Some segment)
    later (k, there) = has_right head.segments (segments_of more) k segment there

    by_head : (IsHead head name volume ⊎ (named more name ≡ Some volume))
        → (named more name ≡ Some volume → (k : ℕ) × (slice_get (segments_of more) k ≡ Some segment))
        → (k : ℕ) × (slice_get (segments_of (head ∷ more)) k ≡ Some segment)
    by_head (inl here) others = (
      i,
      has_left head.segments (segments_of more) i segment
          (ap (λ (v : Volume). slice_get v.segments i) here.volume_is ∙ found),
    )
    by_head (inr there) others = later (others there)

-- the segments of one volume are apart, where all are
volume_apart : (volumes : List Volume) (name : List ℕ) (volume : Volume) → IsDistinct shares_stripe (segments_of volumes)
    → named volumes name ≡ Some volume → IsDistinct shares_stripe volume.segments
volume_apart [] name volume apart is = let never : None ≡ Some volume = is in cc
volume_apart (head ∷ more) name volume apart is =
    by_head (head_or_more head more name volume is)
    (λ there. volume_apart more name volume (distinct_right shares_stripe head.segments (segments_of more) apart) there)
  where
    by_head : (IsHead head name volume ⊎ (named more name ≡ Some volume))
        → (named more name ≡ Some volume → IsDistinct shares_stripe volume.segments) → IsDistinct shares_stripe volume.segments
    by_head (inl here) others =
        subst (λ (v : Volume). IsDistinct shares_stripe v.segments) here.volume_is
        (distinct_left shares_stripe head.segments (segments_of more) apart)
    by_head (inr there) others = others there

-- no place of the first volume is one of another's
head_apart : (layout : Layout) (head : Volume) (more : List Volume) (name : List ℕ) (volume : Volume) (place : Place)
    → IsDistinct shares_stripe (segments_of (head ∷ more)) → named more name ≡ Some volume → LiesInOne layout head.segments place
    → LiesInOne layout volume.segments place → ⊥
head_apart layout head more name volume place apart is (i, s, s_found, here) (j, t, t_found, there) =
    crossing (segment_of_all more name volume j t is t_found)
  where
    crossing : ((k : ℕ) × (slice_get (segments_of more) k ≡ Some t)) → ⊥
    crossing (k, t_there) =
        true≢false (sym (shares layout s t place here there)
        ∙ distinct_cross shares_stripe head.segments (segments_of more) i k s t apart s_found t_there)

-- volumes with a place in common have the same name
one_name : (layout : Layout) (volumes : List Volume) (name other : List ℕ) (volume another : Volume) (place : Place)
    → IsDistinct shares_stripe (segments_of volumes) → named volumes name ≡ Some volume → named volumes other ≡ Some another
    → LiesInOne layout volume.segments place → LiesInOne layout another.segments place → name ≡ other
one_name layout [] name other volume another place apart is other_is here there = let never : None ≡ Some volume = is in cc
one_name layout (head ∷ more) name other volume another place apart is other_is here there =
    by_heads (head_or_more head more name volume is) (head_or_more head more other another other_is)
    (λ a b. one_name layout more name other volume another place (distinct_right shares_stripe head.segments (segments_of more) apart) a b here there)
  where
    by_heads : (IsHead head name volume ⊎ (named more name ≡ Some volume)) → (IsHead head other another ⊎ (named more other ≡ Some another))
        → (named more name ≡ Some volume → named more other ≡ Some another → name ≡ other) → name ≡ other
    by_heads (inl a) (inl b) others = sym a.name_is ∙ b.name_is
    by_heads (inl a) (inr b) others =
        absurd (head_apart layout head more other another place apart b
        (subst (λ (v : Volume). LiesInOne layout v.segments place) (sym a.volume_is) here) there)
    by_heads (inr a) (inl b) others =
        absurd (head_apart layout head more name volume place apart a
        (subst (λ (v : Volume). LiesInOne layout v.segments place) (sym b.volume_is) there) here)
    by_heads (inr a) (inr b) others = others a b

-- the volume of a name is within the limits
pub volume_is : (layout : Layout) (name : List ℕ) (volume : Volume) → IsLayout layout → volume_of layout name ≡ Some volume
    → IsVolume layout.groups volume
volume_is layout name volume is found = named_has (IsVolume layout.groups) layout.volumes name volume is.volumes.each found

-- ---- the law

-- a byte of a volume
record IsByteOf (layout : Layout) (name : List ℕ) (byte : ℕ) (place : Place) : Type 0 where
  volume : Volume
  found : volume_of layout name ≡ Some volume
  lies_at : place_in layout volume.segments byte ≡ Some place

byte_of : (layout : Layout) (name : List ℕ) (byte : ℕ) (place : Place) → place_of layout name byte ≡ Some place → IsByteOf layout name byte place
byte_of layout name byte place is = by_volume (volume_of layout name) refl is
  where
    by_volume : (o : Option Volume) → volume_of layout name ≡ o
        → option_and_then (λ (volume : Volume). place_in layout volume.segments byte) o ≡ Some place → IsByteOf layout name byte place
    by_volume None e same = let never : None ≡ Some place = same in cc
    by_volume (Some volume) e same = record { volume = volume; found = e; lies_at = same }

-- the place of a byte of the volume of a name
at_volume : (layout : Layout) (name : List ℕ) (volume : Volume) (byte : ℕ) → volume_of layout name ≡ Some volume
    → place_of layout name byte ≡ place_in layout volume.segments byte
at_volume layout name volume byte found =
    ap (λ (o : Option Volume). option_and_then (λ (v : Volume). place_in layout v.segments byte) o) found

each_byte : (layout : Layout) (name : List ℕ) (byte : ℕ)
    → IsSome (place_of layout name byte) ↔ IsSomeAnd (length_of layout name) (λ end. byte < end)
each_byte layout name byte = by_volume (volume_of layout name)
  where
    by_volume : (o : Option Volume) → IsSome (option_and_then (λ (volume : Volume). place_in layout volume.segments byte) o)
        ↔ IsSomeAnd (option_map (λ (volume : Volume). run_length layout volume.segments) o) (λ end. byte < end)
    by_volume None = (λ never. absurd (true≢false (sym never)), λ never. absurd never)
    by_volume (Some volume) = (some_below layout volume.segments byte, below_some layout volume.segments byte)

one_place : (layout : Layout) → IsLayout layout → (name other : List ℕ) (byte at : ℕ) (place : Place) → IsByteOf layout name byte place
    → IsByteOf layout other at place → (name ≡ other) × (byte ≡ at)
one_place layout is name other byte at place a b =
    let names : name ≡ other =
    one_name layout layout.volumes name other a.volume b.volume place is.volumes.apart a.found b.found
    (lies_in_one layout a.volume.segments byte place a.lies_at) (lies_in_one layout b.volume.segments at place b.lies_at) in
    let same : Some b.volume ≡ Some a.volume = sym b.found ∙ ap (λ (n : List ℕ). volume_of layout n) (sym names) ∙ a.found in
    let volumes : b.volume ≡ a.volume = cc in (
      names,
      one_byte layout a.volume.segments byte at place (volume_apart layout.volumes name a.volume is.volumes.apart a.found) a.lies_at
          (ap (λ (v : Volume). place_in layout v.segments at) (sym volumes) ∙ b.lies_at),
    )

-- the bytes of the volumes of a layout and the places of their segments are one to one
pub one_to_one : (layout : Layout) → IsLayout layout → AreOneToOne layout
one_to_one layout is =
    record {
      each = each_byte layout;
      inside = λ name volume byte place found at. lies_in_one layout volume.segments byte place (sym (at_volume layout name volume byte found) ∙ at);
      reached = λ name volume place found lies_at. reached_by name volume place found lies_at;
      one = λ name other byte at place here there. one_place layout is name other byte at place (byte_of layout name byte place here)
          (byte_of layout other at place there);
    }
  where
    carried : (name : List ℕ) (volume : Volume) (place : Place) → volume_of layout name ≡ Some volume
        → ((byte : ℕ) × (place_in layout volume.segments byte ≡ Some place)) → (byte : ℕ) × (place_of layout name byte ≡ Some place)
    carried name volume place found (byte, there) = (byte, at_volume layout name volume byte found ∙ there)

    reached_by : (name : List ℕ) (volume : Volume) (place : Place) → volume_of layout name ≡ Some volume
        → LiesInOne layout volume.segments place → (byte : ℕ) × (place_of layout name byte ≡ Some place)
    reached_by name volume place found (i, s, s_found, there) =
        carried name volume place found (reached_in layout volume.segments i s place s_found there)
