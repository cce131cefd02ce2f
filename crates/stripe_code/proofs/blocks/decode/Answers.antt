use Rattle.std.proofs.Common.{◌≡◌, ◌*◌, ◌≤◌, length, drop, sym, ◌∙◌, arith}
use Rattle.std.proofs.lemmas.List.{take_at, take_all}
use Rattle.rs_code.specs.Stripes.{block_of, data_block}
use Rattle.rs_code.proofs.StripeLaws.{HoldsBytes, data_block-IsDecoded, IsDecoded-unique}
use Rattle.stripe_code.proofs.Pieces.{decoded_is, joined}
use Rattle.stripe_code.proofs.blocks.decode.Goals as goal

pub returns : goal.returns
returns c pieces first =
    let m = c.args.m in
    let size = c.args.size in
    let seats = c.args.seats.now in
    let blocks = c.args.blocks.now in
    let few : c.args.m ≤ 256 = omega (arith, c.requires.few_data) in
    let small : HoldsBytes c.args.blocks.now = λ n. omega (arith, c.type_inv.blocks n) in
    let new = c.decode_all_into.new.stripe in
    let long : length c.decode_all_into.new.stripe ≡ c.args.m * c.args.size =
    c.decode_all_into.auto.stripe ∙ c.deref_mut.ensures.len ∙ c.in_ok-content.ensures.len in
    let whole = joined size m new (data_block m size seats blocks)
    (λ j within. IsDecoded-unique m size seats blocks j (data_block m size seats blocks j) (block_of size new j)
    (data_block-IsDecoded m 32 size seats blocks j few (omega arith) c.requires.seats small c.requires.long within) (c.decode_all_into.ensures j within)) in
    c.from_vec.ensures ∙ take_at new (drop (length new) c.in_ok-content.content.items) c.in_ok-content.content.len (long ∙ sym c.in_ok-content.ensures.len)
    ∙ sym (take_all (m * size) new (omega (arith, long))) ∙ sym whole ∙ sym (decoded_is m size pieces seats blocks first)
