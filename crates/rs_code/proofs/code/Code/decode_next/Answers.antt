use Rattle.std.proofs.Common.{◌<◌, ◌≤◌, ℕ, Option, length, take, subst, arith}
use Rattle.gf_lanes.specs.Sums.{combined, values_of}
use Rattle.rs_code.specs.Stripes.{byte_of, HasDataBelow}
use Rattle.rs_code.proofs.StripeLaws.{HoldsBytes, seat_byte}
use Rattle.rs_code.proofs.DecodingLaws.{combined-by_seats, data-written, data-both_written}
use Rattle.rs_code.proofs.code.Code.decode_next.Goals as goal

pub returns-in-Some : goal.returns-in-Some
returns-in-Some c =
    let m = c.args.self.now.m in
    let size = c.args.size in
    let seats = c.args.seats.now in
    let blocks = c.args.blocks.now in
    let few_seats : c.args.self.now.n ≤ 256 = omega (arith, c.args.self.now.few_blocks) in
    let small : HoldsBytes c.args.blocks.now = λ n. omega (arith, c.type_inv.blocks n) in
    let found = c.in-Some.ensures.found in
    let place : c.in-Some.i < c.args.self.now.m = omega (arith, found.0, c.requires.seats.count) in
    data-written m size seats blocks c.args.waiting c.args.j (λ t. byte_of size blocks t c.in-Some.i) c.args.stripe.now c.copy_to.new.buffer
    (λ t h. seat_byte m c.args.self.now.n size seats blocks c.args.j c.in-Some.i t few_seats c.requires.seats small place found.1)
    c.copy_to.ensures c.requires.before

pub returns : goal.returns
returns c =
    let m = c.args.self.now.m in
    let size = c.args.size in
    let seats = c.args.seats.now in
    let blocks = c.args.blocks.now in
    let count = c.requires.seats.count in
    let h = c.in-Some-waiting.h in
    let first = c.seat_factors-first.result in
    let second = c.seat_factors-second.result in
    let before = subst (λ (w : Option ℕ). HasDataBelow m size seats blocks w c.args.j c.args.stripe.now) c.in-Some-waiting.is c.requires.before in
    data-both_written m size seats blocks h c.args.j (combined size (values_of (take (length seats) first)) blocks)
    (combined size (values_of (take (length seats) second)) blocks) c.args.stripe.now c.combine_both_to.new.buffer
    (λ t l. combined-by_seats m size seats blocks first h t count (omega (arith, count, c.seat_factors-first.ensures.long, c.args.self.now.few_data)) c.seat_factors-first.ensures.weights)
    (λ t l. combined-by_seats m size seats blocks second c.args.j t count (omega (arith, count, c.seat_factors-second.ensures.long, c.args.self.now.few_data)) c.seat_factors-second.ensures.weights)
    c.combine_both_to.ensures before
