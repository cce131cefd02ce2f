use Rattle.std.proofs.Common.{◌≡◌, ◌*◌, ◌++◌, length, sym, ap, ◌∙◌, arith}
use Rattle.std.proofs.lemmas.List.{append_assoc}
use Rattle.gf_lanes.specs.Sums.{combined, values_of}
use Rattle.rs_code.proofs.WritingLaws.{block-written, blocks-written}
use Rattle.rs_code.proofs.writing.combine_both_to.Goals as goal

pub returns : goal.returns
returns c =
    let size = c.args.size in
    let outer = c.split_at_mut-before in
    let before = c.split_at_mut-between in
    let first = c.split_at_mut-first_block in
    let second = c.split_at_mut-second_block in
    let a = before.result.0.now in
    let b = first.result.1.now in
    let d = second.result.1.now in
    let rest = outer.result.1.now in
    let new_first = c.combine_two_into.new.first in
    let new_second = c.combine_two_into.new.second in
    let first_byte = combined size (values_of c.args.first.now) c.args.blocks.now in
    let second_byte = combined size (values_of c.args.second.now) c.args.blocks.now in
    let first_long : length c.combine_two_into.new.first ≡ c.args.size = c.combine_two_into.auto.first ∙ c.split_at_mut-first_block.ensures.front_len in
    let second_long : length c.combine_two_into.new.second ≡ c.args.size = c.combine_two_into.auto.second ∙ c.split_at_mut-second_block.ensures.front_len in
    let old_first = first.result.0.now in
    let wrote_first = block-written size c.args.h first_byte c.args.buffer.now a old_first new_first (b ++ rest)
    (outer.ensures.value ∙ ap (λ l. l ++ rest) (before.ensures.value ∙ ap (λ l. a ++ l) first.ensures.value) ∙ append_assoc a (old_first ++ b) rest
    ∙ ap (λ l. a ++ l) (append_assoc old_first b rest))
    before.ensures.front_len first.ensures.front_len first_long
    (λ t h. c.combine_two_into.ensures.first.each t (omega arith) ∙ ap (λ n. combined n (values_of c.args.first.now) c.args.blocks.now t) first_long) in
    let front : length (c.split_at_mut-between.result.0.now ++ (c.combine_two_into.new.first ++ c.split_at_mut-first_block.result.1.now)) ≡ c.args.k * c.args.size =
    omega (arith, first_long, c.split_at_mut-before.ensures.front_len, ap length c.split_at_mut-between.ensures.value, ap length c.split_at_mut-first_block.ensures.value, c.split_at_mut-first_block.ensures.front_len) in
    let wrote_second = block-written size c.args.k second_byte (a ++ (new_first ++ (b ++ rest))) (a ++ (new_first ++ b)) second.result.0.now new_second d
    (sym (append_assoc a (new_first ++ b) rest ∙ ap (λ l. a ++ l) (append_assoc new_first b rest)) ∙ ap (λ l. a ++ (new_first ++ b) ++ l) second.ensures.value)
    front second.ensures.front_len second_long
    (λ t h. c.combine_two_into.ensures.second.each t (omega arith) ∙ ap (λ n. combined n (values_of c.args.second.now) c.args.blocks.now t) second_long) in
    blocks-written size c.args.h c.args.k first_byte second_byte c.args.buffer.now (a ++ (new_first ++ (b ++ rest))) (a ++ (new_first ++ b) ++ (new_second ++ d))
    (λ e. omega (arith, c.requires.order)) wrote_first wrote_second
