use Rattle.std.proofs.Common.{◌≡◌, ◌≤◌, length, sym, ap, subst, ◌∙◌, arith}
use Rattle.rs_code.specs.Codewords.{weighted_sum}
use Rattle.rs_code.specs.Stripes.{byte_of, IsCodedBlock}
use Rattle.rs_code.proofs.CodewordLaws.{combined-weighted}
use Rattle.rs_code.proofs.StripeLaws.{HoldsBytes, coded_block-from_sums, coded_block-IsCodedBlock, coded_block-data}
use Rattle.rs_code.proofs.code.Code.encode_into.Goals as goal

-- each byte is Lagrange's formula at its place
pub returns-clause-formula : goal.returns-clause-formula
returns-clause-formula c =
    let m = c.args.self.now.m in
    let stripe = c.args.stripe.now in
    let into = c.combine_into.new.into in
    let long : length c.combine_into.new.into ≡ length c.args.into.now = omega arith in
    coded_block-from_sums m (length c.args.into.now) stripe c.args.k into long
    (λ t h. c.combine_into.ensures.each t (omega arith)
    ∙ combined-weighted m (length into) t (λ i. i) c.data_weights-weights.result stripe c.args.k (omega (arith, c.args.self.now.few_data)) c.data_weights-weights.ensures
    ∙ ap (λ size. weighted_sum m m (λ i. i) (byte_of size stripe t) c.args.k) long)

pub returns-clause-coded : goal.returns-clause-coded
returns-clause-coded c =
    let few : c.args.self.now.m ≤ 256 = omega (arith, c.args.self.now.few_data) in
    let small : HoldsBytes c.args.stripe.now = λ n. omega (arith, c.type_inv.stripe n) in
    subst (IsCodedBlock c.args.self.now.m (length c.args.into.now) c.args.stripe.now c.args.k) (sym (returns-clause-formula c))
    (coded_block-IsCodedBlock c.args.self.now.m (length c.args.into.now) c.args.stripe.now c.args.k few small)

pub returns-clause-data_block : goal.returns-clause-data_block
returns-clause-data_block c within = absurd (omega arith)

pub returns-then-k-self-clause-formula : goal.returns-then-k-self-clause-formula
returns-then-k-self-clause-formula c =
    let few : c.args.self.now.m ≤ 256 = omega (arith, c.args.self.now.few_data) in
    let small : HoldsBytes c.args.stripe.now = λ n. omega (arith, c.type_inv.stripe n) in
    c.copy_block.ensures ∙ sym (coded_block-data c.args.self.now.m
    (length c.args.into.now) c.args.stripe.now c.args.k few small c.requires.size c.if-k-self.true)

pub returns-then-k-self-clause-coded : goal.returns-then-k-self-clause-coded
returns-then-k-self-clause-coded c =
    let few : c.args.self.now.m ≤ 256 = omega (arith, c.args.self.now.few_data) in
    let small : HoldsBytes c.args.stripe.now = λ n. omega (arith, c.type_inv.stripe n) in
    subst (IsCodedBlock c.args.self.now.m (length c.args.into.now) c.args.stripe.now c.args.k) (sym (returns-then-k-self-clause-formula c))
    (coded_block-IsCodedBlock c.args.self.now.m (length c.args.into.now) c.args.stripe.now c.args.k few small)
