use Rattle.std.proofs.Common.{◌≡◌, ◌+◌, ◌-◌, ◌*◌, ◌++◌, length, get_or, drop, ap, ◌∙◌, arith}
use Rattle.std.proofs.lemmas.List.{get_or-take, get_or-drop}
use Rattle.rs_code.specs.Stripes.{byte_of}
use Rattle.rs_code.proofs.WritingLaws.{block-written}
use Rattle.rs_code.proofs.writing.copy_to.Goals as goal

pub returns : goal.returns
returns c =
    let size = c.args.size in
    let outer = c.split_at_mut-rest in
    let inner = c.split_at_mut-block in
    let long : length c.copy_from_slice.new.self ≡ c.args.size = c.copy_from_slice.auto.self ∙ c.split_at_mut-block.ensures.front_len in
    let place = c.args.i * c.args.size in
    let after = c.copy_from_slice.ensures.after in
    block-written size c.args.k (λ t. byte_of size c.args.blocks.now t c.args.i) c.args.buffer.now outer.result.0.now inner.result.0.now
    c.copy_from_slice.new.self inner.result.1.now (outer.ensures.value ∙ ap (λ l. outer.result.0.now ++ l) inner.ensures.value) outer.ensures.front_len
    inner.ensures.front_len long
    (λ t h. ap (λ l. get_or l t 0) after ∙ get_or-take (place + size - place) (drop place c.args.blocks.now) t 0 (omega arith)
    ∙ get_or-drop place c.args.blocks.now t 0)
