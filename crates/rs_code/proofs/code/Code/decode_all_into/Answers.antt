use Rattle.std.proofs.Common.{◌≡◌, ◌≤◌, ℕ, Option, Some, None, length, take, subst, ◌∙◌, arith}
use Rattle.std.proofs.lemmas.Option.{none-some}
use Rattle.gf_lanes.specs.Sums.{combined, values_of}
use Rattle.rs_code.specs.Stripes.{HasDataBelow}
use Rattle.rs_code.proofs.StripeLaws.{HoldsBytes}
use Rattle.rs_code.proofs.DecodingLaws.{combined-by_seats, data-last_written, data-decoded}
use Rattle.rs_code.proofs.code.Code.decode_all_into.Goals as goal

pub returns-in-Some : goal.returns-in-Some
returns-in-Some c =
    let m = c.args.self.now.m in
    let size = c.args.size in
    let seats = c.args.seats.now in
    let blocks = c.args.blocks.now in
    let few : c.args.self.now.m ≤ 256 = omega (arith, c.args.self.now.few_data) in
    let few_seats : c.args.self.now.n ≤ 256 = omega (arith, c.args.self.now.few_blocks) in
    let small : HoldsBytes c.args.blocks.now = λ n. omega (arith, c.type_inv.blocks n) in
    let count = c.requires.seats.count in
    let h = c.in-Some.h in
    let factors = c.seat_factors.result in
    let all : c.loop-j.j ≡ c.args.self.now.m = omega arith in
    let before : HasDataBelow c.args.self.now.m c.args.size c.args.seats.now c.args.blocks.now (Some c.in-Some.h) c.args.self.now.m c.loop-j.stripe =
    subst (λ (k : ℕ). HasDataBelow m size seats blocks (Some h) k c.loop-j.stripe) all
    (subst (λ (w : Option ℕ). HasDataBelow m size seats blocks w c.loop-j.j c.loop-j.stripe) c.in-Some.is c.loop-j.invariant.below) in
    let done = data-last_written m size seats blocks h (combined size (values_of (take (length seats) factors)) blocks) c.loop-j.stripe c.combine_to.new.buffer
    (λ t l. combined-by_seats m size seats blocks factors h t count (omega (arith, count, c.seat_factors.ensures.long, c.args.self.now.few_data)) c.seat_factors.ensures.weights)
    c.combine_to.ensures before in
    data-decoded m c.args.self.now.n size seats blocks None c.combine_to.new.buffer few few_seats c.requires.seats small c.requires.blocks
    (c.combine_to.auto.buffer ∙ c.loop-j.invariant.long ∙ c.requires.stripe) (λ i e. none-some i e) done

pub returns-in_default : goal.returns-in_default
returns-in_default c =
    let m = c.args.self.now.m in
    let size = c.args.size in
    let seats = c.args.seats.now in
    let blocks = c.args.blocks.now in
    let few : c.args.self.now.m ≤ 256 = omega (arith, c.args.self.now.few_data) in
    let few_seats : c.args.self.now.n ≤ 256 = omega (arith, c.args.self.now.few_blocks) in
    let small : HoldsBytes c.args.blocks.now = λ n. omega (arith, c.type_inv.blocks n) in
    let all : c.loop-j.j ≡ c.args.self.now.m = omega arith in
    data-decoded m c.args.self.now.n size seats blocks c.loop-j.waiting c.loop-j.stripe few few_seats c.requires.seats small c.requires.blocks
    (c.loop-j.invariant.long ∙ c.requires.stripe) c.in_default.not-Some
    (subst (λ (k : ℕ). HasDataBelow m size seats blocks c.loop-j.waiting k c.loop-j.stripe) all c.loop-j.invariant.below)
