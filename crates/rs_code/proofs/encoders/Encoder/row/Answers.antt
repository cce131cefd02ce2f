use Rattle.std.proofs.Common.{◌≡◌, suc, ◌+◌, ◌-◌, ◌*◌, ◌≤◌, ◌∙◌, take, drop, get_or, ap, arith}
use Rattle.gf_lanes.specs.Sums.{values_of}
use Rattle.rs_code.proofs.ParityLaws.{rows-room, value-within}
use Rattle.rs_code.proofs.encoders.Encoder.row.Goals as goal

pub slice_bounds-result-end : goal.slice_bounds-result-end
slice_bounds-result-end c =
    let code = c.args.self.now.code in
    let room : suc c.args.r * c.args.self.now.code.m ≤ 256 = rows-room code.m code.n (suc c.args.r) code.few_data code.few_blocks (omega (arith, c.requires)) in
    omega (arith, room)

pub returns-clause-weights : goal.returns-clause-weights
returns-clause-weights c j within =
    let m = c.args.self.now.code.m in
    let start = c.args.r * m in
    let long : start + m - start ≡ m = omega arith in
    ap (λ n. get_or (values_of (take n (drop start c.args.self.now.factors))) j 0) long
    ∙ value-within c.args.self.now.factors start m j within ∙ c.args.self.now.weights.each c.args.r j c.requires within
