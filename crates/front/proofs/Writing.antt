-- The operations of a write write its bytes in order.
use Rattle.std.proofs.Common.{◌≡◌, ℕ, zero, suc, ◌+◌, ◌*◌, ◌/◌, ◌<◌, ◌≤◌, Bool, true, false, List, [], ◌∷◌, ◌++◌, length, map, drop, Option, Some, None, option_map, option_and_then, IsSome, refl, sym, ap, ◌∙◌, arith}
use Rattle.std.specs.Option.{option_map_or}
use Rattle.std.specs.List.{flat_map}
use Rattle.std.proofs.lemmas.List.{take-append-drop, drop-drop}
use Rattle.std.proofs.Math.ListN.{drop_of_length-le}
use Rattle.fab_base.specs.Layouts.{Group, Layout, group_of}
use Rattle.layout.specs.declared.places.Place.{Place}
use Rattle.layout.specs.Limits.{IsLayout}
use Rattle.layout.specs.Places.{place_of, blocks_of}
use Rattle.front.specs.declared.pieces.StripePart.{StripePart}
use Rattle.front.specs.Pieces.{Wish, Part, is_whole, piece_of, piece_at, op_of, cut_of, part_of, parts_from, wish_of}
use Rattle.fab_base.specs.Asks.{bytes_by}
use Rattle.front.specs.Blocks.{WritesAll}
use Rattle.front.proofs.StripeRuns.{in_volume}
use Rattle.front.proofs.Covering.{behind_fits, all_placed, all_whole}

-- the bytes that the operations of some parts write
abbrev bytes_of_parts : List Part → List ℕ
bytes_of_parts parts = flat_map (λ ask. bytes_by ask.op) (map (λ part. part.ask) parts)

-- a piece is the first of the operations on so many blocks
record Begins (wish : Wish) (done more : ℕ) : Type 0 where
  piece : StripePart
  fits : piece.behind ≤ more
  parts : parts_from wish done (suc more) zero ≡ part_of wish done piece ∷ parts_from wish (suc done) more piece.behind

begins_at : (wish : Wish) (done more : ℕ) (place : Place) (group : Group)
    → place_of wish.layout wish.volume ((wish.first + done) * wish.layout.block) ≡ Some place → group_of wish.layout place.group.0 ≡ Some group
    → Begins wish done more
unfolding parts_from
begins_at wish done more place group is held =
    let piece : StripePart = piece_of place group.m (suc more) in
    let found : piece_at wish.layout wish.volume (wish.first + done) (suc more) ≡ Some piece =
    ap (option_and_then (λ (p : Place). option_map (λ (o : Group). piece_of p o.m (suc more)) (group_of wish.layout p.group.0))) is
    ∙ ap (option_map (λ (o : Group). piece_of place o.m (suc more))) held in
    record {
      piece = piece;
      fits = behind_fits place group.m more (is_whole place group.m (suc more)) refl;
      parts = ap (λ (o : Option StripePart). option_map_or (λ p. part_of wish done p ∷ parts_from wish (suc done) more p.behind) o []) found;
    }

begins_some : (wish : Wish) (done more : ℕ) → 1 ≤ wish.layout.block
    → IsSome (place_of wish.layout wish.volume ((wish.first + done) * wish.layout.block)) → Begins wish done more
begins_some wish done more some held = by_place (place_of wish.layout wish.volume ((wish.first + done) * wish.layout.block)) refl held
  where
    by_group : (place : Place) → place_of wish.layout wish.volume ((wish.first + done) * wish.layout.block) ≡ Some place
        → (found : Option Group) → group_of wish.layout place.group.0 ≡ found → Begins wish done more
    by_group place is None none =
        let follows = in_volume wish.layout wish.volume (wish.first + done) place some is in
        let never : blocks_of (group_of wish.layout place.group.0) ≡ 0 = ap blocks_of none in
        absurd (omega (arith, never, follows.some))
    by_group place is (Some group) found = begins_at wish done more place group is found

    by_place : (found : Option Place) → place_of wish.layout wish.volume ((wish.first + done) * wish.layout.block) ≡ found → IsSome found
        → Begins wish done more
    by_place None is never = let no : false ≡ true = never in cc
    by_place (Some place) is found = by_group place is (group_of wish.layout place.group.0) refl

-- an operation that writes bytes writes those
op_bytes : (piece : StripePart) (bytes : List ℕ) (t : Bool) → piece.whole ≡ t → bytes_by (op_of piece (Some bytes)) ≡ bytes
op_bytes piece bytes true is = ap (λ (t : Bool). bytes_by (op_of (record piece { whole = t }) (Some bytes))) is
op_bytes piece bytes false is = ap (λ (t : Bool). bytes_by (op_of (record piece { whole = t }) (Some bytes))) is

-- the bytes of a piece, and those behind it
cut_and_rest : (block done behind : ℕ) (bytes : List ℕ)
    → cut_of block done behind bytes ++ drop ((suc done + behind) * block) bytes ≡ drop (done * block) bytes
cut_and_rest block done behind bytes =
    let n = (behind + 1) * block in
    let at : (suc done + behind) * block ≡ done * block + n = omega arith in
    ap (λ k. cut_of block done behind bytes ++ drop k bytes) at
    ∙ ap (λ (l : List ℕ). cut_of block done behind bytes ++ l) (sym (drop-drop n (done * block) bytes))
    ∙ take-append-drop n (drop (done * block) bytes)

-- the operations on so many blocks, the first of which are joined to the one before
writes : (wish : Wish) (bytes : List ℕ) (limit done more joined : ℕ) → 1 ≤ wish.layout.block → wish.content ≡ Some bytes
    → ((k : ℕ) → k < limit → IsSome (place_of wish.layout wish.volume (k * wish.layout.block)))
    → wish.first + done + more ≤ limit → joined ≤ more → length bytes ≤ (done + more) * wish.layout.block
    → bytes_of_parts (parts_from wish done more joined) ≡ drop ((done + joined) * wish.layout.block) bytes
unfolding parts_from
writes wish bytes limit done zero joined some content held bound h enough =
    let all : length bytes ≤ (done + joined) * wish.layout.block = omega (arith, enough) in
    sym (drop_of_length-le bytes all)
writes wish bytes limit done (suc more) (suc joined) some content held bound h enough =
    let at : suc done + joined ≡ done + suc joined = omega arith in
    let same : suc done + more ≡ done + suc more = omega arith in
    let rest : length bytes ≤ (suc done + more) * wish.layout.block = omega (arith, enough) in
    writes wish bytes limit (suc done) more joined some content held (omega arith) (omega arith) rest
    ∙ ap (λ k. drop (k * wish.layout.block) bytes) at
writes wish bytes limit done (suc more) zero some content held bound h enough =
    let first = begins_some wish done more some (held (wish.first + done) (omega arith)) in
    let b = wish.layout.block in
    let piece = first.piece in
    let behind : length bytes ≤ (suc done + more) * b = omega (arith, enough) in
    let rest = writes wish bytes limit (suc done) more piece.behind some content held (omega arith) first.fits behind in
    let here : bytes_by (part_of wish done piece).ask.op ≡ cut_of b done piece.behind bytes =
    ap (λ (o : Option (List ℕ)). bytes_by (op_of piece (option_map (cut_of b done piece.behind) o))) content
    ∙ op_bytes piece (cut_of b done piece.behind bytes) piece.whole refl in
    let at : done ≡ done + zero = omega arith in
    ap bytes_of_parts first.parts
    ∙ ap (λ (l : List ℕ). l ++ bytes_of_parts (parts_from wish (suc done) more piece.behind)) here
    ∙ ap (λ (l : List ℕ). cut_of b done piece.behind bytes ++ l) rest
    ∙ cut_and_rest b done piece.behind bytes ∙ ap (λ k. drop (k * b) bytes) at

-- the operations of a write write its bytes
pub writes_all : (layout : Layout) (volume : List ℕ) (byte : ℕ) (written : List ℕ) → IsLayout layout → WritesAll layout volume byte written
writes_all layout volume byte written is = λ going.
    let b = layout.block in
    let n = length written in
    let whole = all_whole layout volume byte n going in
    let enough : n ≤ (0 + n / b) * b = omega (arith, whole) in
    let none : (0 + 0) * b ≡ 0 = omega arith in
    writes (wish_of layout volume byte (Some written)) written (byte / b + n / b) 0 (n / b) 0 is.some_byte refl
    (all_placed layout volume byte n is going) (omega arith) (omega arith) enough
    ∙ ap (λ k. drop k written) none
