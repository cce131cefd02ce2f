-- The blocks that replies tell.
use Rattle.std.proofs.Common.{◌≡◌, ℕ, zero, suc, ◌+◌, ◌*◌, ◌<◌, ◌≤◌, Bool, true, false, not, cond, nat_lt, List, [], ◌∷◌, ◌++◌, length, take, map, get_or, Some, ap, refl, sym, ◌∙◌, subst, arith, length-append}
use Rattle.std.specs.Prelude.{nat_eq, filter, ◌||◌}
use Rattle.std.specs.List.{list_all, concat, range_with_len, AllByRecursion}
use Rattle.std.proofs.Math.Nat.{suc-mul, mul-le-mul_right}
use Rattle.std.proofs.Math.Seq.{take-append-add}
use Rattle.std.proofs.lemmas.List.{length-take-le}
use Rattle.std.proofs.lemmas.Bool.{and_parts, and_from, or_parts, or_from, not-true, ltb-true, lt-ltb, eqb-true, eq-eqb, eqb-false, false≢true, cond_both}
use Rattle.std.proofs.lemmas.List.FromFn.{length-map-range_with_len, length-range_with_len}
use Rattle.fab_base.specs.declared.identities.BrickId.{BrickId}
use Rattle.fab_base.specs.declared.stamps.Stamp.{Stamp}
use Rattle.fab_base.specs.Stamps.{stamp_below, stamp_same}
use Rattle.messages.specs.declared.requests.Version.{Version}
use Rattle.messages.specs.declared.replies.Reply.{Reply}
use Rattle.messages.specs.declared.replies.Reply.TheVariants as replies
use Rattle.rs_code.specs.Codewords.{AreSeats}
use Rattle.protocol.specs.Settings.{Piece}
use Rattle.protocol.specs.declared.phases.Counted.{Counted}
use Rattle.protocol.specs.declared.phases.Phase.{Phase}
use Rattle.protocol.specs.declared.phases.Phase.TheVariants.{Looks, LooksAt, OrdersAt, Recovers, Descends, LooksBack, Bases}
use Rattle.protocol.specs.Coordinators.{Coordinator, asked_group, old_bound, has_seat, answers_phase, told_length, finds, all_find, found_bytes, bytes_at, pieces_of, pieces_at}
use Rattle.stripe_code.specs.Codes.{AreFirst, decoded, decoded_block}
use Rattle.coord_phase.specs.Operations.{are_apart, wants_all, IsInPhase}
use Rattle.coord_phase.proofs.PhaseReplies.{all-take, apart-take}

-- there is one for each reply
pub length-pieces_of : (counted : List Counted) → length (pieces_of counted) ≡ length counted
length-pieces_of [] = refl
length-pieces_of (c ∷ counted) = ap suc (length-pieces_of counted)

take-pieces_of : (n : ℕ) (counted : List Counted) → take n (pieces_of counted) ≡ pieces_of (take n counted)
take-pieces_of zero counted = refl
take-pieces_of (suc n) [] = refl
take-pieces_of (suc n) (c ∷ counted) = ap (λ pieces. record { seat = c.seat; bytes = found_bytes c.reply } ∷ pieces) (take-pieces_of n counted)

-- the seats and the blocks of pieces
abbrev pub seats_of : List Piece → List ℕ
seats_of pieces = map (λ piece. piece.seat) pieces

abbrev pub blocks_of : List Piece → List ℕ
blocks_of pieces = concat (map (λ piece. piece.bytes) pieces)

take-seats_of : (n : ℕ) (pieces : List Piece) → take n (seats_of pieces) ≡ seats_of (take n pieces)
take-seats_of zero pieces = refl
take-seats_of (suc n) [] = refl
take-seats_of (suc n) (piece ∷ pieces) = ap (λ seats. piece.seat ∷ seats) (take-seats_of n pieces)

-- each block has this many bytes
abbrev AreLong : ℕ → List Piece → Type 0
AreLong size pieces = AllByRecursion (λ piece. length piece.bytes ≡ size) pieces

length-blocks_of : (size : ℕ) (pieces : List Piece) → AreLong size pieces → length (blocks_of pieces) ≡ length pieces * size
length-blocks_of size [] long = omega arith
length-blocks_of size (piece ∷ pieces) long =
    let rest = length-blocks_of size pieces long.1 in
    length-append piece.bytes (blocks_of pieces) ∙ omega (arith, long.0, rest, suc-mul (length pieces) size)

take_nothing : (k : ℕ) → take {A = ℕ} k [] ≡ []
take_nothing zero = refl
take_nothing (suc k) = refl

take-blocks_of : (size n : ℕ) (pieces : List Piece) → AreLong size pieces → take (n * size) (blocks_of pieces) ≡ blocks_of (take n pieces)
take-blocks_of size zero pieces long = let none : 0 * size ≡ 0 = omega arith in rw none refl
take-blocks_of size (suc n) [] long = take_nothing (suc n * size)
take-blocks_of size (suc n) (piece ∷ pieces) long =
    let more : suc n * size ≡ length piece.bytes + n * size = omega (arith, long.0, suc-mul n size) in
    ap (λ k. take k (piece.bytes ++ blocks_of pieces)) more
    ∙ take-append-add piece.bytes (blocks_of pieces) (n * size)
    ∙ ap (λ rest. piece.bytes ++ rest) (take-blocks_of size n pieces long.1)

-- how many bytes of a version's block a seat tells in a phase
abbrev told_in_phase : ℕ → ℕ → Phase → ℕ
told_in_phase block seat (LooksAt j) = told_length block j seat
told_in_phase block seat (OrdersAt j) = told_length block j seat
told_in_phase block seat phase = block

-- a block that a counted reply tells has so many bytes
newest_long : (block : ℕ) (t : Stamp) (seat : ℕ) (phase : Phase) (order : Stamp) (version : Version)
    → answers_phase block t seat phase (replies.Found order (Some version)) ≡ true → length version.block ≡ told_in_phase block seat phase
newest_long block t seat Looks order version answers = eqb-true (length version.block) block answers
newest_long block t seat (LooksAt j) order version answers = eqb-true (length version.block) (told_length block j seat) answers
newest_long block t seat phase order version answers = absurd (false≢true answers)

read_long : (block : ℕ) (t : Stamp) (seat : ℕ) (phase : Phase) (version : Version)
    → answers_phase block t seat phase (replies.OrderedRead (Some version)) ≡ true → length version.block ≡ told_in_phase block seat phase
read_long block t seat (OrdersAt j) version answers =
    let length_is = nat_eq (length version.block) (told_length block j seat) in
    eqb-true (length version.block) (told_length block j seat) (and_parts length_is (stamp_below version.stamp t) answers).0
read_long block t seat Recovers version answers =
    eqb-true (length version.block) block (and_parts (nat_eq (length version.block) block) (stamp_below version.stamp t) answers).0
read_long block t seat (Descends bound) version answers =
    eqb-true (length version.block) block (and_parts (nat_eq (length version.block) block) (stamp_below version.stamp bound) answers).0
read_long block t seat (Bases base) version answers =
    eqb-true (length version.block) block (and_parts (nat_eq (length version.block) block) (stamp_same version.stamp base) answers).0
read_long block t seat phase version answers = absurd (false≢true answers)

old_long : (block : ℕ) (t : Stamp) (seat : ℕ) (phase : Phase) (version : Version)
    → answers_phase block t seat phase (replies.Old (Some version)) ≡ true → length version.block ≡ told_in_phase block seat phase
old_long block t seat (LooksBack bound) version answers =
    eqb-true (length version.block) block
    (and_parts (nat_eq (length version.block) block) (stamp_below version.stamp (old_bound t bound)) answers).0
old_long block t seat phase version answers = absurd (false≢true answers)

found_long : (block : ℕ) (t v : Stamp) (phase : Phase) (seat : ℕ) (brick : BrickId) (reply : Reply)
    → answers_phase block t seat phase reply ≡ true → finds v (record { seat = seat; brick = brick; reply = reply }) ≡ true
    → length (found_bytes reply) ≡ told_in_phase block seat phase
found_long block t v phase seat brick (replies.Found order (Some version)) answers found = newest_long block t seat phase order version answers
found_long block t v phase seat brick (replies.OrderedRead (Some version)) answers found = read_long block t seat phase version answers
found_long block t v phase seat brick (replies.Old (Some version)) answers found = old_long block t seat phase version answers
found_long block t v phase seat brick reply answers found = absurd (false≢true found)

-- where each member is to tell its block, that is the length of a block
whole_block : (block seat : ℕ) (phase : Phase) → wants_all phase ≡ true → told_in_phase block seat phase ≡ block
whole_block block seat (LooksAt j) whole = absurd (false≢true whole)
whole_block block seat (OrdersAt j) whole = absurd (false≢true whole)
whole_block block seat phase whole = refl

-- so have all blocks of a version
found_are_long : (block : ℕ) (t v : Stamp) (phase : Phase) (counted : List Counted) → wants_all phase ≡ true
    → list_all (λ c. answers_phase block t c.seat phase c.reply) counted ≡ true → AreLong block (pieces_at v counted)
found_are_long block t v phase [] whole all = tt
found_are_long block t v phase (c ∷ counted) whole all =
    let parts = and_parts (answers_phase block t c.seat phase c.reply) (list_all (λ c. answers_phase block t c.seat phase c.reply) counted) all in
    let rest = found_are_long block t v phase counted whole parts.1 in
    cond_both (finds v c) (c ∷ filter (finds v) counted) (filter (finds v) counted)
    (λ (z : List Counted). AreLong block (pieces_of z))
    (λ found. (found_long block t v phase c.seat c.brick c.reply parts.0 found ∙ whole_block block c.seat phase whole, rest))
    (λ other. rest)

-- the block that the seat of a data block tells has the length of a block, where that is ordered to be written, and all find one version
pub told_at_seat : (block : ℕ) (t v : Stamp) (j : ℕ) (counted : List Counted)
    → list_all (λ c. answers_phase block t c.seat (OrdersAt j) c.reply) counted ≡ true → has_seat j counted ≡ true → all_find v counted ≡ true
    → length (bytes_at j counted) ≡ block
told_at_seat block t v j [] all has found = absurd (false≢true has)
told_at_seat block t v j (c ∷ counted) all has found =
    let answer = and_parts (answers_phase block t c.seat (OrdersAt j) c.reply)
    (list_all (λ c. answers_phase block t c.seat (OrdersAt j) c.reply) counted) all in
    let finding = and_parts (finds v c) (all_find v counted) found in
    cond_both (nat_eq c.seat j) (found_bytes c.reply) (bytes_at j counted) (λ (z : List ℕ). length z ≡ block)
    (λ same. found_long block t v (OrdersAt j) c.seat c.brick c.reply answer.0 finding.0
    ∙ ap (λ (b : Bool). cond b block 0) (eq-eqb j c.seat (sym (eqb-true c.seat j same))))
    (λ other. told_at_seat block t v j counted answer.1 (sym (ap (λ (b : Bool). b || has_seat j counted) other) ∙ has) finding.1)

long-take : (size n : ℕ) (pieces : List Piece) → AreLong size pieces → AreLong size (take n pieces)
long-take size zero pieces long = tt
long-take size (suc n) [] long = tt
long-take size (suc n) (piece ∷ pieces) long = (long.0, long-take size n pieces long.1)

-- a test that all replies pass is passed by those that tell the version
all-filter : (p q : Counted → Bool) (counted : List Counted) → list_all p counted ≡ true → list_all p (filter q counted) ≡ true
all-filter p q [] all = refl
all-filter p q (c ∷ counted) all =
    let parts = and_parts (p c) (list_all p counted) all in
    let rest = all-filter p q counted parts.1 in
    cond_both (q c) (c ∷ filter q counted) (filter q counted) (λ (z : List Counted). list_all p z ≡ true)
    (λ passes. and_from (p c) (list_all p (filter q counted)) parts.0 rest)
    (λ fails. rest)

seat-filter : (q : Counted → Bool) (seat : ℕ) (counted : List Counted) → has_seat seat counted ≡ false → has_seat seat (filter q counted) ≡ false
seat-filter q seat [] none = refl
seat-filter q seat (c ∷ counted) none =
    let parts = or_parts (nat_eq c.seat seat) (has_seat seat counted) none in
    let rest = seat-filter q seat counted parts.1 in
    cond_both (q c) (c ∷ filter q counted) (filter q counted) (λ (z : List Counted). has_seat seat z ≡ false)
    (λ passes. or_from (nat_eq c.seat seat) (has_seat seat (filter q counted)) parts.0 rest)
    (λ fails. rest)

apart-filter : (q : Counted → Bool) (counted : List Counted) → are_apart counted ≡ true → are_apart (filter q counted) ≡ true
apart-filter q [] apart = refl
apart-filter q (c ∷ counted) apart =
    let parts = and_parts (not (has_seat c.seat counted)) (are_apart counted) apart in
    let rest = apart-filter q counted parts.1 in
    cond_both (q c) (c ∷ filter q counted) (filter q counted) (λ (z : List Counted). are_apart z ≡ true)
    (λ passes. and_from (not (has_seat c.seat (filter q counted))) (are_apart (filter q counted))
    (ap not (seat-filter q c.seat counted (not-true (has_seat c.seat counted) parts.0))) rest)
    (λ fails. rest)

-- the seat of each piece is below n
seat_at-below : (n : ℕ) (counted : List Counted) (i : ℕ) → list_all (λ c. nat_lt c.seat n) counted ≡ true → i < length counted
    → get_or (seats_of (pieces_of counted)) i 0 < n
seat_at-below n [] i all within = absurd (omega (arith, within))
seat_at-below n (c ∷ counted) zero all within = ltb-true c.seat n (and_parts (nat_lt c.seat n) (list_all (λ c. nat_lt c.seat n) counted) all).0
seat_at-below n (c ∷ counted) (suc i) all within =
    seat_at-below n counted i (and_parts (nat_lt c.seat n) (list_all (λ c. nat_lt c.seat n) counted) all).1 (omega (arith, within))

-- a seat without a reply is the seat of no piece
seat_at-other : (seat : ℕ) (counted : List Counted) (i : ℕ) → has_seat seat counted ≡ false → i < length counted
    → get_or (seats_of (pieces_of counted)) i 0 ≡ seat → ⊥
seat_at-other seat [] i none within same = omega (arith, within)
seat_at-other seat (c ∷ counted) zero none within same = eqb-false c.seat seat (or_parts (nat_eq c.seat seat) (has_seat seat counted) none).0 same
seat_at-other seat (c ∷ counted) (suc i) none within same =
    seat_at-other seat counted i (or_parts (nat_eq c.seat seat) (has_seat seat counted) none).1 (omega (arith, within)) same

-- no two pieces are of one seat
seats_at-apart : (counted : List Counted) (h i : ℕ) → are_apart counted ≡ true → h < length counted → i < length counted → (h ≡ i → ⊥)
    → get_or (seats_of (pieces_of counted)) h 0 ≡ get_or (seats_of (pieces_of counted)) i 0 → ⊥
seats_at-apart [] h i apart first second other same = omega (arith, first)
seats_at-apart (c ∷ counted) zero zero apart first second other same = other refl
seats_at-apart (c ∷ counted) zero (suc i) apart first second other same =
    seat_at-other c.seat counted i (not-true (has_seat c.seat counted) (and_parts (not (has_seat c.seat counted)) (are_apart counted) apart).0)
    (omega (arith, second)) (sym same)
seats_at-apart (c ∷ counted) (suc h) zero apart first second other same =
    seat_at-other c.seat counted h (not-true (has_seat c.seat counted) (and_parts (not (has_seat c.seat counted)) (are_apart counted) apart).0)
    (omega (arith, first)) same
seats_at-apart (c ∷ counted) (suc h) (suc i) apart first second other same =
    seats_at-apart counted h i (and_parts (not (has_seat c.seat counted)) (are_apart counted) apart).1 (omega (arith, first)) (omega (arith, second))
    (λ e. other (ap suc e)) same

below_limit : (n : ℕ) (counted : List Counted) → n ≤ 32 → list_all (λ c. nat_lt c.seat n) counted ≡ true
    → list_all (λ c. nat_lt c.seat 32) counted ≡ true
below_limit n [] few all = refl
below_limit n (c ∷ counted) few all =
    let parts = and_parts (nat_lt c.seat n) (list_all (λ c. nat_lt c.seat n) counted) all in
    let below : c.seat < 32 = omega (arith, ltb-true c.seat n parts.0, few) in
    and_from (nat_lt c.seat 32) (list_all (λ c. nat_lt c.seat 32) counted) (lt-ltb c.seat 32 below) (below_limit n counted few parts.1)

length-take_first : (n : ℕ) (counted : List Counted) → n ≤ length counted → length (take n counted) ≡ n
length-take_first zero counted enough = refl
length-take_first (suc n) [] enough = absurd (omega (arith, enough))
length-take_first (suc n) (c ∷ counted) enough = ap suc (length-take_first n counted (omega (arith, enough)))

-- the seats of replies that are apart, all below 32
are_seats : (m : ℕ) (counted : List Counted) → length counted ≡ m → list_all (λ c. nat_lt c.seat 32) counted ≡ true → are_apart counted ≡ true
    → AreSeats m 32 (seats_of (pieces_of counted))
are_seats m counted count below apart =
    record {
      count = length-seats (pieces_of counted) ∙ length-pieces_of counted ∙ count;
      within = λ i lt. seat_at-below 32 counted i below (omega (arith, lt, count));
      apart = λ h i first second other. seats_at-apart counted h i apart (omega (arith, first, count)) (omega (arith, second, count)) other;
    }
  where
    length-seats : (pieces : List Piece) → length (seats_of pieces) ≡ length pieces
    length-seats [] = refl
    length-seats (piece ∷ pieces) = ap suc (length-seats pieces)

-- What is asked of the first m blocks of a version, so that they give back its content: all its seats and blocks are these.
pub record GiveBack (m block : ℕ) (pieces : List Piece) (seats blocks : List ℕ) : Type 0 where
  pub at_seats : AreSeats m 32 (take m seats)
  pub long : length (take (m * block) blocks) ≡ m * block
  pub first : AreFirst m block pieces (take m seats) (take (m * block) blocks)

-- so do those of a version that m counted replies tell
pub give_back : (block : ℕ) (c : Coordinator) (v : Stamp) (m : ℕ) (seats blocks : List ℕ) → IsInPhase block c → wants_all c.phase ≡ true
    → length (asked_group c).members ≤ 32
    → m ≤ length (pieces_at v c.counted) → seats ≡ seats_of (pieces_at v c.counted) → blocks ≡ blocks_of (pieces_at v c.counted)
    → GiveBack m block (pieces_at v c.counted) seats blocks
give_back block c v m seats blocks is whole few enough seats_are blocks_are =
    let found : List Counted = filter (finds v) c.counted in
    let pieces : List Piece = pieces_at v c.counted in
    let long = found_are_long block c.stamp v c.phase c.counted whole is.answers in
    let below = below_limit (length (asked_group c).members) (take m found) few (all-take _ m found (all-filter _ (finds v) c.counted is.seats)) in
    let apart = apart-take m found (apart-filter (finds v) c.counted is.apart) in
    let count : length (take m found) ≡ m = length-take_first m found (omega (arith, enough, length-pieces_of found)) in
    let firsts : take m seats ≡ seats_of (pieces_of (take m found)) = ap (take m) seats_are ∙ take-seats_of m pieces
    ∙ ap seats_of (take-pieces_of m found) in
    let whole : length blocks ≡ length pieces * block = ap length blocks_are ∙ length-blocks_of block pieces long in
    let room : m * block ≤ length blocks = omega (arith, whole, mul-le-mul_right block enough) in
    record {
      at_seats = subst (λ (z : List ℕ). AreSeats m 32 z) (sym firsts) (are_seats m (take m found) count below apart);
      long = length-take-le (m * block) blocks room;
      first = record {
        enough = enough;
        seats_are = sym (ap (take m) seats_are ∙ take-seats_of m pieces);
        blocks_are = sym (ap (take (m * block)) blocks_are ∙ take-blocks_of block m pieces long);
        long = long-take block m pieces long;
      };
    }

-- a content that is given back has m blocks
length-blocks : (size : ℕ) (f : ℕ → List ℕ) (places : List ℕ) → ((j : ℕ) → length (f j) ≡ size)
    → length (concat (map f places)) ≡ length places * size
length-blocks size f [] each = omega arith
length-blocks size f (j ∷ places) each =
    let rest = length-blocks size f places each in
    length-append (f j) (concat (map f places)) ∙ omega (arith, each j, rest, suc-mul (length places) size)

pub length-decoded : (m size : ℕ) (pieces : List Piece) → length (decoded m size pieces) ≡ m * size
unfolding decoded
length-decoded m size pieces =
    length-blocks size (decoded_block m size (take m pieces)) (range_with_len 0 m) (λ j. length-map-range_with_len _ 0 size)
    ∙ ap (λ n. n * size) (length-range_with_len 0 m)
