use Rattle.std.proofs.Common.{◌+◌, ◌-◌, ◌*◌, ◌<◌, ◌≤◌, ◌∙◌, length, arith}
use Rattle.std.proofs.lemmas.Nat.{mul-add-lt}
use Rattle.std.proofs.lemmas.List.{length-set}
use Rattle.rs_code.proofs.ParityLaws.{rows-room, weight-made}
use Rattle.rs_code.proofs.encoders.Encoder.new.Goals as goal

pub loop-place-preserved : goal.loop-place-preserved
loop-place-preserved c =
    let code = c.args.code in
    let all : (c.args.code.n - c.args.code.m) * c.args.code.m ≤ 256 =
    rows-room code.m code.n (code.n - code.m) code.few_data code.few_blocks (omega (arith, code.data_among_blocks)) in
    let room : c.loop-place.place < length c.loop-place.factors = omega (arith, all, c.loop-place-test.true, c.loop-place.invariant.long) in
    record {
      long = length-set c.loop-place.factors c.loop-place.place c.new.result ∙ c.loop-place.invariant.long;
      done = weight-made code.m code.n c.loop-place.place c.loop-place.factors c.new.result code.some_data room (c.new.ensures ∙ c.parity_weight.ensures)
          c.loop-place.invariant.done;
    }

pub invariant_of-result : goal.invariant_of-result
invariant_of-result c =
    let m = c.args.code.m in
    let n = c.args.code.n in
    record {
      weights = record {
        each = λ r j row column.
            let within : r * c.args.code.m + j < c.args.code.m * (c.args.code.n - c.args.code.m) = mul-add-lt r m j (n - m) (omega arith) column in
            c.loop-place.invariant.done r j row column (omega arith);
      };
    }
