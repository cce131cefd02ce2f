use Rattle.std.proofs.Common.{◌≡◌, ℕ, ◌<◌, ◌≤◌, length, get_or, sym, subst, ◌∙◌, arith}
use Rattle.gf_field.specs.Polynomials.{AreDistinct}
use Rattle.rs_code.specs.Codewords.{weighted_sum}
use Rattle.rs_code.specs.Stripes.{byte_of, IsDecoded}
use Rattle.rs_code.proofs.CodewordLaws.{combined-weighted, seats_AreDistinct}
use Rattle.rs_code.proofs.StripeLaws.{HoldsBytes, IsDecoded-from_sums, IsDecoded-from_seat}
use Rattle.rs_code.proofs.code.Code.decode_into.Goals as goal

pub seat_weights-weights-requires-clause-distinct : goal.seat_weights-weights-requires-clause-distinct
seat_weights-weights-requires-clause-distinct c =
    let few : c.args.self.now.n ≤ 256 = omega (arith, c.args.self.now.few_blocks) in
    subst (λ m. AreDistinct m (λ i. get_or c.args.seats.now i 0)) (sym c.requires.seats.count)
    (seats_AreDistinct c.args.self.now.m c.args.self.now.n c.args.seats.now few c.requires.seats)

pub returns : goal.returns
returns c =
    let m = c.args.self.now.m in
    let seats = c.args.seats.now in
    let blocks = c.args.blocks.now in
    let into = c.combine_into.new.into in
    let seat = λ (i : ℕ). get_or seats i 0 in
    let few : c.args.self.now.m ≤ 256 = omega (arith, c.args.self.now.few_data) in
    let few_seats : c.args.self.now.n ≤ 256 = omega (arith, c.args.self.now.few_blocks) in
    let small : HoldsBytes c.args.blocks.now = λ n. omega (arith, c.type_inv.blocks n) in
    let long : length c.combine_into.new.into ≡ length c.args.into.now = omega arith in
    let count : length c.args.seats.now ≡ c.args.self.now.m = c.requires.seats.count in
    IsDecoded-from_sums m c.args.self.now.n (length c.args.into.now) seats blocks c.args.j into few few_seats c.requires.seats small c.requires.size
    c.requires.block long
    (λ t h. c.combine_into.ensures.each t (omega arith)
    ∙ combined-weighted (length seats) (length into) t seat c.seat_weights-weights.result blocks c.args.j (omega (arith, count, c.args.self.now.few_data))
    c.seat_weights-weights.ensures
    ∙ (λ i. weighted_sum (count i) (count i) seat (byte_of (long i) blocks t) c.args.j))

pub returns-in-Some : goal.returns-in-Some
returns-in-Some c =
    let m = c.args.self.now.m in
    let size = length c.args.into.now in
    let few : c.args.self.now.m ≤ 256 = omega (arith, c.args.self.now.few_data) in
    let few_seats : c.args.self.now.n ≤ 256 = omega (arith, c.args.self.now.few_blocks) in
    let small : HoldsBytes c.args.blocks.now = λ n. omega (arith, c.type_inv.blocks n) in
    let found = c.in-Some.ensures.found in
    let place : c.in-Some.i < c.args.self.now.m = omega (arith, found.0, c.requires.seats.count) in
    subst (IsDecoded m size c.args.seats.now c.args.blocks.now c.args.j) (sym c.copy_block.ensures)
    (IsDecoded-from_seat m c.args.self.now.n size c.args.seats.now c.args.blocks.now c.args.j c.in-Some.i few few_seats c.requires.seats small c.requires.size c.requires.block place found.1)
