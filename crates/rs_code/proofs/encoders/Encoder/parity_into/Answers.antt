use Rattle.std.proofs.Common.{◌≡◌, ℕ, ◌+◌, ◌-◌, ◌*◌, ◌≤◌, sym, ap, subst, ◌∙◌, arith}
use Rattle.std.proofs.lemmas.List.{length-map}
use Rattle.gf_field.specs.Polynomials.{weight_of}
use Rattle.gf_lanes.specs.declared.factor.Factor.{Factor}
use Rattle.gf_lanes.specs.Sums.{combined, values_of}
use Rattle.rs_code.specs.Stripes.{IsCodedBlock, WritesBlock}
use Rattle.rs_code.proofs.ParityLaws.{HasParity, combined-by_weights, parity-one, parity-two, parity-block}
use Rattle.rs_code.proofs.StripeLaws.{HoldsBytes, coded_block-IsCodedBlock}
use Rattle.rs_code.proofs.encoders.Encoder.parity_into.Goals as goal

pub loop-pair-preserved : goal.loop-pair-preserved
loop-pair-preserved c =
    let m = c.args.self.now.code.m in
    let size = c.args.size in
    let stripe = c.args.stripe.now in
    let rows = 2 * c.loop-pair.pair in
    let next : 2 * c.loop-pair.pair + 2 ≡ 2 * (c.loop-pair.pair + 1) = omega arith in
    let first = values_of c.row.result.now in
    let second = values_of c.row-in-loop-pair.result.now in
    record {
      long = c.combine_both_to.auto.buffer ∙ c.loop-pair.invariant.long;
      done =
          subst (λ (n : ℕ). HasParity m size stripe n c.combine_both_to.new.buffer) next
          (parity-two m size stripe rows (combined size first stripe) (combined size second stripe) c.loop-pair.parity c.combine_both_to.new.buffer
          (λ t h. combined-by_weights m size (λ i. i) stripe first (m + rows) t (length-map c.row.result.now (λ (f : Factor). f.value) ∙ c.row.ensures.long) c.row.ensures.weights)
          (λ t h. combined-by_weights m size (λ i. i) stripe second (m + (rows + 1)) t (length-map c.row-in-loop-pair.result.now (λ (f : Factor). f.value) ∙ c.row-in-loop-pair.ensures.long)
          c.row-in-loop-pair.ensures.weights)
          c.combine_both_to.ensures c.loop-pair.invariant.done);
    }

pub returns-then-rows-eq1-clause-formula : goal.returns-then-rows-eq1-clause-formula
returns-then-rows-eq1-clause-formula c =
    let m = c.args.self.now.code.m in
    let n = c.args.self.now.code.n in
    let size = c.args.size in
    let stripe = c.args.stripe.now in
    let rows = 2 * c.loop-pair.pair in
    let last : c.args.self.now.code.n - c.args.self.now.code.m - 1 ≡ 2 * c.loop-pair.pair = omega arith in
    let row = values_of c.row-then-rows-eq1.result.now in
    let all : 2 * c.loop-pair.pair + 1 ≡ c.args.self.now.code.n - c.args.self.now.code.m = omega arith in
    let written : WritesBlock c.args.size (2 * c.loop-pair.pair) (combined c.args.size (values_of c.row-then-rows-eq1.result.now) c.args.stripe.now)
    c.loop-pair.parity c.combine_to.new.buffer =
    subst (λ (k : ℕ). WritesBlock size k (combined size row stripe) c.loop-pair.parity c.combine_to.new.buffer) last c.combine_to.ensures in
    parity-block m n size stripe c.combine_to.new.buffer (c.combine_to.auto.buffer ∙ c.loop-pair.invariant.long ∙ c.requires.parity)
    (subst (λ (k : ℕ). HasParity m size stripe k c.combine_to.new.buffer) all
    (parity-one m size stripe rows (combined size row stripe) c.loop-pair.parity c.combine_to.new.buffer
    (λ t h. combined-by_weights m size (λ i. i) stripe row (m + rows) t
    (length-map c.row-then-rows-eq1.result.now (λ (f : Factor). f.value) ∙ c.row-then-rows-eq1.ensures.long)
    (λ j within. c.row-then-rows-eq1.ensures.weights j within ∙ ap (λ r. weight_of m (λ i. i) j (m + r)) last))
    written c.loop-pair.invariant.done))

pub returns-then-rows-eq1-clause-coded : goal.returns-then-rows-eq1-clause-coded
returns-then-rows-eq1-clause-coded c k from to =
    let m = c.args.self.now.code.m in
    let few : c.args.self.now.code.m ≤ 256 = omega (arith, c.args.self.now.code.few_data) in
    let small : HoldsBytes c.args.stripe.now = λ n. omega (arith, c.type_inv.stripe n) in
    subst (IsCodedBlock m c.args.size c.args.stripe.now k) (sym (returns-then-rows-eq1-clause-formula c k from to))
    (coded_block-IsCodedBlock m c.args.size c.args.stripe.now k few small)

pub returns-else-rows-eq1-clause-formula : goal.returns-else-rows-eq1-clause-formula
returns-else-rows-eq1-clause-formula c =
    let m = c.args.self.now.code.m in
    let n = c.args.self.now.code.n in
    let size = c.args.size in
    let stripe = c.args.stripe.now in
    let all : 2 * c.loop-pair.pair ≡ c.args.self.now.code.n - c.args.self.now.code.m = omega (arith, c.if-rows-eq1.false) in
    parity-block m n size stripe c.loop-pair.parity (c.loop-pair.invariant.long ∙ c.requires.parity)
    (subst (λ (rows : ℕ). HasParity m size stripe rows c.loop-pair.parity) all c.loop-pair.invariant.done)

pub returns-else-rows-eq1-clause-coded : goal.returns-else-rows-eq1-clause-coded
returns-else-rows-eq1-clause-coded c k from to =
    let m = c.args.self.now.code.m in
    let few : c.args.self.now.code.m ≤ 256 = omega (arith, c.args.self.now.code.few_data) in
    let small : HoldsBytes c.args.stripe.now = λ n. omega (arith, c.type_inv.stripe n) in
    subst (IsCodedBlock m c.args.size c.args.stripe.now k) (sym (returns-else-rows-eq1-clause-formula c k from to))
    (coded_block-IsCodedBlock m c.args.size c.args.stripe.now k few small)
