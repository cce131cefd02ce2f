-- The operations of a range are on each of its data blocks once, in their order.
use Rattle.std.proofs.Common.{◌≡◌, ℕ, zero, suc, ◌+◌, ◌-◌, ◌*◌, ◌/◌, ◌<◌, ◌≤◌, nat_eq, nat_le, Bool, true, false, ◌&&◌, cond, List, [], ◌∷◌, ◌++◌, map, Option, Some, None, option_map, option_and_then, IsSome, refl, sym, ap, ◌∙◌, arith}
use Rattle.std.specs.Prelude.{◌%◌, unwrap_or, IsSomeAnd}
use Rattle.std.specs.Option.{option_map_or}
use Rattle.std.specs.List.{flat_map}
use Rattle.std.proofs.lemmas.Bool.{and_parts}
use Rattle.std.proofs.lemmas.Bool.Decides.{nat_tests}
use Rattle.std.proofs.lemmas.List.{map-append}
use Rattle.std.proofs.lemmas.Nat.{div-add-mod'}
use Rattle.std.proofs.Math.Nat.{mul-le-mul_right}
use Rattle.fab_base.specs.Layouts.{Group, Layout, group_of}
use Rattle.layout.specs.declared.places.Place.{Place}
use Rattle.layout.specs.Limits.{IsLayout}
use Rattle.layout.specs.Places.{place_of, length_of, blocks_of}
use Rattle.layout.proofs.PlaceLaws.{one_to_one}
use Rattle.front.specs.declared.pieces.StripePart.{StripePart}
use Rattle.front.specs.declared.steps.Halt.TheVariants as halt
use Rattle.front.specs.Halts.{halt_of}
use Rattle.front.specs.Pieces.{Wish, Part, is_whole, piece_of, piece_at, op_of, cut_of, part_of, parts_from, wish_of}
use Rattle.front.specs.Blocks.{block_of, blocks_from, blocks_by, blocks_in, places_at, AsksEach}
use Rattle.front.proofs.StripeRuns.{width, Follows, in_volume}

-- the data blocks of the operations of some parts
abbrev pub blocks_of_parts : Layout → List Part → List Place
blocks_of_parts layout parts = flat_map (blocks_in layout) (map (λ part. part.ask) parts)

-- the places of two runs of blocks, one after the other
split : (layout : Layout) (volume : List ℕ) (number n more : ℕ)
    → places_at layout volume number (n + more) ≡ places_at layout volume number n ++ places_at layout volume (number + n) more
split layout volume number zero more =
    let none : 0 + more ≡ more = omega arith in
    let at : number ≡ number + 0 = omega arith in
    ap (places_at layout volume number) none ∙ ap (λ k. places_at layout volume k more) at
split layout volume number (suc n) more =
    let all : suc n + more ≡ suc (n + more) = omega arith in
    let at : suc number + n ≡ number + suc n = omega arith in
    ap (places_at layout volume number) all
    ∙ ap (λ (rest : List (Option Place)). place_of layout volume (number * layout.block) ∷ rest)
    (split layout volume (suc number) n more ∙ ap (λ k. places_at layout volume (suc number) n ++ places_at layout volume k more) at)

-- blocks of one stripe
run_of : (layout : Layout) (volume : List ℕ) (k : ℕ) (place : Place) (n i : ℕ) → Follows layout (place_of layout volume) k place
    → place.block + i + n ≤ width layout place.group
    → map Some (blocks_from place.group place.stripe (place.block + i) n) ≡ places_at layout volume (k + i) n
run_of layout volume k place zero i follows h = refl
run_of layout volume k place (suc n) i follows h =
    let at : suc (place.block + i) ≡ place.block + suc i = omega arith in
    let number : k + suc i ≡ suc (k + i) = omega arith in
    let rest = run_of layout volume k place n (suc i) follows (omega arith) in
    ap (λ (first : Option Place). first ∷ map Some (blocks_from place.group place.stripe (suc (place.block + i)) n)) (sym (follows.next i (omega arith)))
    ∙ ap (λ (tail : List (Option Place)). place_of layout volume ((k + i) * layout.block) ∷ tail)
    (ap (λ j. map Some (blocks_from place.group place.stripe j n)) at ∙ rest ∙ ap (λ j. places_at layout volume j n) number)

-- the blocks of an operation on a whole stripe, and on a block
whole_blocks : (m : ℕ) (piece : StripePart) (bytes : Option (List ℕ)) → piece.whole ≡ true
    → blocks_by m piece.place.group piece.place.stripe (op_of piece bytes) ≡ blocks_from piece.place.group piece.place.stripe 0 m
whole_blocks m piece None is =
    ap (λ (t : Bool). blocks_by m piece.place.group piece.place.stripe (op_of (record piece { whole = t }) None)) is
whole_blocks m piece (Some bytes) is =
    ap (λ (t : Bool). blocks_by m piece.place.group piece.place.stripe (op_of (record piece { whole = t }) (Some bytes))) is

one_block : (m : ℕ) (piece : StripePart) (bytes : Option (List ℕ)) → piece.whole ≡ false
    → blocks_by m piece.place.group piece.place.stripe (op_of piece bytes) ≡ block_of piece.place.group piece.place.stripe piece.place.block ∷ []
one_block m piece None is =
    ap (λ (t : Bool). blocks_by m piece.place.group piece.place.stripe (op_of (record piece { whole = t }) None)) is
one_block m piece (Some bytes) is =
    ap (λ (t : Bool). blocks_by m piece.place.group piece.place.stripe (op_of (record piece { whole = t }) (Some bytes))) is

-- two runs of blocks make one
joined_up : (layout : Layout) (volume : List ℕ) (k n more : ℕ) (xs ys : List Place) → n ≤ more → map Some xs ≡ places_at layout volume k n
    → map Some ys ≡ places_at layout volume (k + n) (more - n) → map Some (xs ++ ys) ≡ places_at layout volume k more
joined_up layout volume k n more xs ys h first rest =
    let all : n + (more - n) ≡ more = omega arith in
    map-append Some xs ys ∙ ap (λ (l : List (Option Place)). l ++ map Some ys) first
    ∙ ap (λ (l : List (Option Place)). places_at layout volume k n ++ l) rest
    ∙ sym (split layout volume k n (more - n)) ∙ ap (places_at layout volume k) all

-- a whole piece begins at block 0, and the range has all of its blocks
whole_fits : (place : Place) (m more : ℕ) → is_whole place m more ≡ true → (place.block ≡ 0) × (m ≤ more)
whole_fits place m more is =
    let both = and_parts (nat_eq place.block 0) (nat_le m more) is in
    let zeroth : place.block ≡ 0 = grind (arith, nat_tests, both.0) in
    let fits : m ≤ more = grind (arith, nat_tests, both.1) in
    (zeroth, fits)

-- how many blocks a piece has behind its first
pub behind_fits : (place : Place) (m more : ℕ) (t : Bool) → is_whole place m (suc more) ≡ t → (piece_of place m (suc more)).behind ≤ more
behind_fits place m more true is =
    let fits = whole_fits place m (suc more) is in
    let behind : (piece_of place m (suc more)).behind ≡ m - 1 = ap (λ (t : Bool). cond t (m - 1) 0) is in
    omega (arith, behind, fits.1)
behind_fits place m more false is =
    let behind : (piece_of place m (suc more)).behind ≡ 0 = ap (λ (t : Bool). cond t (m - 1) 0) is in
    omega (arith, behind)

-- the blocks of a piece
piece_blocks : (layout : Layout) (volume : List ℕ) (k more : ℕ) (place : Place) (bytes : Option (List ℕ)) (t : Bool)
    → Follows layout (place_of layout volume) k place → is_whole place (width layout place.group) more ≡ t
    → map Some
    (blocks_by (width layout place.group) place.group place.stripe (op_of (piece_of place (width layout place.group) more) bytes))
    ≡ places_at layout volume k ((piece_of place (width layout place.group) more).behind + 1)
piece_blocks layout volume k more place bytes true follows is =
    let m = width layout place.group in
    let piece = piece_of place m more in
    let fits = whole_fits place m more is in
    let block : place.block + 0 ≡ 0 = omega (arith, fits.0) in
    let number : k + 0 ≡ k = omega arith in
    let behind : piece.behind ≡ m - 1 = ap (λ (t : Bool). cond t (m - 1) 0) is in
    let all : m ≡ piece.behind + 1 = omega (arith, behind, follows.some) in
    ap (map Some) (whole_blocks m piece bytes is)
    ∙ sym (ap (λ j. map Some (blocks_from place.group place.stripe j m)) block)
    ∙ run_of layout volume k place m 0 follows (omega (arith, fits.0))
    ∙ ap (λ j. places_at layout volume j m) number ∙ ap (places_at layout volume k) all
piece_blocks layout volume k more place bytes false follows is =
    let m = width layout place.group in
    let piece = piece_of place m more in
    let block : place.block + 0 ≡ place.block = omega arith in
    let number : k + 0 ≡ k = omega arith in
    let behind : piece.behind ≡ 0 = ap (λ (t : Bool). cond t (m - 1) 0) is in
    let all : suc zero ≡ piece.behind + 1 = omega (arith, behind) in
    ap (map Some) (one_block m piece bytes is)
    ∙ sym (ap (λ j. map Some (blocks_from place.group place.stripe j (suc zero))) block)
    ∙ run_of layout volume k place (suc zero) 0 follows (omega (arith, follows.block))
    ∙ ap (λ j. places_at layout volume j (suc zero)) number ∙ ap (places_at layout volume k) all

-- the operations on so many blocks, the first of which are joined to the one before
pub covers : (wish : Wish) (limit done more joined : ℕ) → 1 ≤ wish.layout.block
    → ((k : ℕ) → k < limit → IsSome (place_of wish.layout wish.volume (k * wish.layout.block)))
    → wish.first + done + more ≤ limit → joined ≤ more
    → map Some (blocks_of_parts wish.layout (parts_from wish done more joined))
    ≡ places_at wish.layout wish.volume (wish.first + done + joined) (more - joined)
unfolding parts_from
covers wish limit done zero joined some held bound h =
    let none : zero - joined ≡ 0 = omega arith in
    sym (ap (places_at wish.layout wish.volume (wish.first + done + joined)) none)
covers wish limit done (suc more) (suc joined) some held bound h =
    let at : wish.first + suc done + joined ≡ wish.first + done + suc joined = omega arith in
    let left : more - joined ≡ suc more - suc joined = omega arith in
    covers wish limit (suc done) more joined some held (omega arith) (omega arith)
    ∙ ap (λ k. places_at wish.layout wish.volume k (more - joined)) at
    ∙ ap (places_at wish.layout wish.volume (wish.first + done + suc joined)) left
covers wish limit done (suc more) zero some held bound h =
    let number : wish.first + done ≡ wish.first + done + zero = omega arith in
    let all : suc more ≡ suc more - zero = omega arith in
    at_place (place_of wish.layout wish.volume ((wish.first + done) * wish.layout.block)) refl (held (wish.first + done) (omega arith))
    (λ joined fits. covers wish limit (suc done) more joined some held (omega arith) fits)
    ∙ ap (λ k. places_at wish.layout wish.volume k (suc more)) number
    ∙ ap (places_at wish.layout wish.volume (wish.first + done + zero)) all
  where
    Rest : Type 0
    Rest = (joined : ℕ) → joined ≤ more → map Some (blocks_of_parts wish.layout (parts_from wish (suc done) more joined))
        ≡ places_at wish.layout wish.volume (wish.first + suc done + joined) (more - joined)

    whole_piece : (place : Place) → place_of wish.layout wish.volume ((wish.first + done) * wish.layout.block) ≡ Some place → Rest
        → (found : Option Group) → group_of wish.layout place.group.0 ≡ found
        → map Some (blocks_of_parts wish.layout (parts_from wish done (suc more) zero))
        ≡ places_at wish.layout wish.volume (wish.first + done) (suc more)
    whole_piece place is rest None group =
        let follows = in_volume wish.layout wish.volume (wish.first + done) place some is in
        let none : width wish.layout place.group ≡ 0 = ap blocks_of group in
        absurd (omega (arith, none, follows.some))
    whole_piece place is rest (Some g) group =
        let layout = wish.layout in
        let k = wish.first + done in
        let follows = in_volume layout wish.volume k place some is in
        let m : width layout place.group ≡ g.m = ap blocks_of group in
        let piece : StripePart = piece_of place (width layout place.group) (suc more) in
        let same : piece_of place g.m (suc more) ≡ piece = ap (λ n. piece_of place n (suc more)) (sym m) in
        let found : piece_at layout wish.volume k (suc more) ≡ Some piece =
        ap (option_and_then (λ (p : Place). option_map (λ (o : Group). piece_of p o.m (suc more)) (group_of layout p.group.0))) is
        ∙ ap (option_map (λ (o : Group). piece_of place o.m (suc more))) group ∙ ap (λ (p : StripePart). Some p) same in
        let parts : parts_from wish done (suc more) zero ≡ part_of wish done piece ∷ parts_from wish (suc done) more piece.behind =
        ap (λ (o : Option StripePart). option_map_or (λ p. part_of wish done p ∷ parts_from wish (suc done) more p.behind) o []) found in
        let fits : piece.behind ≤ more = behind_fits place (width layout place.group) more (is_whole place (width layout place.group) (suc more)) refl in
        let at : wish.first + suc done + piece.behind ≡ k + (piece.behind + 1) = omega arith in
        let left : more - piece.behind ≡ suc more - (piece.behind + 1) = omega arith in
        let first = piece_blocks layout wish.volume k (suc more) place
        (option_map (λ bytes. cut_of layout.block done piece.behind bytes) wish.content)
        (is_whole place (width layout place.group) (suc more)) follows refl in
        let behind = rest piece.behind fits ∙ ap (λ j. places_at layout wish.volume j (more - piece.behind)) at
        ∙ ap (places_at layout wish.volume (k + (piece.behind + 1))) left in
        ap (λ (l : List Part). map Some (blocks_of_parts layout l)) parts
        ∙ joined_up layout wish.volume k (piece.behind + 1) (suc more) _ _ (omega arith) first behind

    at_place : (found : Option Place) → place_of wish.layout wish.volume ((wish.first + done) * wish.layout.block) ≡ found → IsSome found → Rest
        → map Some (blocks_of_parts wish.layout (parts_from wish done (suc more) zero))
        ≡ places_at wish.layout wish.volume (wish.first + done) (suc more)
    at_place None is never rest = let no : false ≡ true = never in cc
    at_place (Some place) is found rest = whole_piece place is rest (group_of wish.layout place.group.0) refl

-- a range that nothing halts begins and ends where data blocks do, within the volume
record IsWithin (layout : Layout) (volume : List ℕ) (byte length : ℕ) : Type 0 where
  first : byte % layout.block ≡ 0
  last : length % layout.block ≡ 0
  end : byte + length ≤ unwrap_or (length_of layout volume) 0

going_within : (layout : Layout) (volume : List ℕ) (byte length : ℕ) → halt_of layout volume byte length ≡ None → IsWithin layout volume byte length
going_within layout volume byte length =
    by_tests (nat_eq (byte % layout.block) 0 && nat_eq (length % layout.block) 0)
    (nat_le (byte + length) (unwrap_or (length_of layout volume) 0)) refl refl
  where
    by_tests : (a b : Bool) → (nat_eq (byte % layout.block) 0 && nat_eq (length % layout.block) 0) ≡ a
        → nat_le (byte + length) (unwrap_or (length_of layout volume) 0) ≡ b
        → cond a (cond b None (Some halt.Beyond)) (Some halt.Unaligned) ≡ None → IsWithin layout volume byte length
    by_tests true true aligned fits is =
        let both = and_parts (nat_eq (byte % layout.block) 0) (nat_eq (length % layout.block) 0) aligned in
        record {
          first = grind (arith, nat_tests, both.0);
          last = grind (arith, nat_tests, both.1);
          end = grind (arith, nat_tests, fits);
        }
    by_tests true false aligned fits is = let never : Some halt.Beyond ≡ None = is in cc
    by_tests false b aligned fits is = let never : Some halt.Unaligned ≡ None = is in cc

-- a byte below the end of a volume has a place
has_place : (layout : Layout) (volume : List ℕ) (byte : ℕ) → IsLayout layout → byte < unwrap_or (length_of layout volume) 0
    → IsSome (place_of layout volume byte)
has_place layout volume byte is below =
    ((one_to_one layout is).each volume byte).1 (by_length (length_of layout volume) below)
  where
    by_length : (end : Option ℕ) → byte < unwrap_or end 0 → IsSomeAnd end (λ e. byte < e)
    by_length None below = absurd (omega (arith, below))
    by_length (Some e) below = below

-- each data block of a range that nothing halts has a place
pub all_placed : (layout : Layout) (volume : List ℕ) (byte length : ℕ) → IsLayout layout → halt_of layout volume byte length ≡ None → (k : ℕ)
    → k < byte / layout.block + length / layout.block → IsSome (place_of layout volume (k * layout.block))
all_placed layout volume byte length is going k below =
    let b = layout.block in
    let fits = going_within layout volume byte length going in
    let first : byte / b * b ≡ byte = omega (arith, div-add-mod' byte b, fits.first) in
    let more : length / b * b ≡ length = omega (arith, div-add-mod' length b, fits.last) in
    let limit = byte / b + length / b in
    let end : limit * b ≤ unwrap_or (length_of layout volume) 0 = omega (arith, first, more, fits.end) in
    let most : suc k * b ≤ limit * b = mul-le-mul_right b below in
    has_place layout volume (k * b) is (omega (arith, most, end, is.some_byte))

-- a range that nothing halts has whole data blocks
pub all_whole : (layout : Layout) (volume : List ℕ) (byte length : ℕ) → halt_of layout volume byte length ≡ None
    → length / layout.block * layout.block ≡ length
all_whole layout volume byte length going =
    omega (arith, div-add-mod' length layout.block, (going_within layout volume byte length going).last)

-- the operations of a range are on each of its data blocks
pub asks_each : (layout : Layout) (volume : List ℕ) (byte length : ℕ) (content : Option (List ℕ)) → IsLayout layout
    → AsksEach layout volume byte length content
asks_each layout volume byte length content is = λ going.
    let b = layout.block in
    let at : byte / b + 0 + 0 ≡ byte / b = omega arith in
    let all : length / b - 0 ≡ length / b = omega arith in
    covers (wish_of layout volume byte content) (byte / b + length / b) 0 (length / b) 0 is.some_byte
    (all_placed layout volume byte length is going) (omega arith) (omega arith)
    ∙ ap (λ k. places_at layout volume k (length / b - 0)) at ∙ ap (places_at layout volume (byte / b)) all
