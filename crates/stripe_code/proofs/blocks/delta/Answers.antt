use Rattle.std.proofs.Common.{◌≡◌, length, get_or, drop, sym, ◌∙◌, arith}
use Rattle.std.specs.Prelude.{bit_xor}
use Rattle.std.proofs.lemmas.List.{take_at}
use Rattle.std.proofs.lemmas.List.FromFn.{fill_by_all}
use Rattle.stripe_code.specs.Codes.{block_delta}
use Rattle.stripe_code.proofs.blocks.delta.Goals as goal

pub returns : goal.returns
unfolding block_delta
returns c =
    let made = c.loop-t.byte-items in
    let long : length c.loop-t.byte-items ≡ c.args.size = c.loop-t.auto.byte-items ∙ c.deref_mut-byte-items.ensures.len ∙ c.in_ok-delta.ensures.len in
    c.from_vec.ensures
    ∙ take_at made (drop (length made) c.in_ok-delta.delta.items) c.in_ok-delta.delta.len (long ∙ sym c.in_ok-delta.ensures.len)
    ∙ fill_by_all (λ t. bit_xor (get_or c.args.old.now t 0) (get_or c.args.new.now t 0)) made c.args.size 0 long
    (λ k h. c.loop-t.invariant k (omega (arith, long)))
