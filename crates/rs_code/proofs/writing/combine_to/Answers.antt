use Rattle.std.proofs.Common.{◌≡◌, ◌++◌, length, ap, ◌∙◌, arith}
use Rattle.gf_lanes.specs.Sums.{combined, values_of}
use Rattle.rs_code.proofs.WritingLaws.{block-written}
use Rattle.rs_code.proofs.writing.combine_to.Goals as goal

pub returns : goal.returns
returns c =
    let size = c.args.size in
    let outer = c.split_at_mut-rest in
    let inner = c.split_at_mut-block in
    let long : length c.combine_one_into.new.into ≡ c.args.size = c.combine_one_into.auto.into ∙ c.split_at_mut-block.ensures.front_len in
    block-written size c.args.k (combined size (values_of c.args.factors.now) c.args.blocks.now) c.args.buffer.now outer.result.0.now inner.result.0.now
    c.combine_one_into.new.into inner.result.1.now (outer.ensures.value ∙ ap (λ l. outer.result.0.now ++ l) inner.ensures.value) outer.ensures.front_len
    inner.ensures.front_len long
    (λ t h. c.combine_one_into.ensures.each t (omega arith) ∙ ap (λ n. combined n (values_of c.args.factors.now) c.args.blocks.now t) long)
