-- A block that changes has bytes to change by, and is as long as a block.
use Rattle.std.proofs.Common.{◌≡◌, ◌≤◌, Bool, true, false, cond, eqb, Some, length, subst, sym, ap, ◌∙◌, arith}
use Rattle.std.proofs.lemmas.Bool.Decides.{nat_tests}
use Rattle.protocol.specs.Replicas.{is_changed}
use Rattle.stripe_code.proofs.Changes.{length-modified_block}
use Rattle.replica.specs.Members.{Member}
use Rattle.replica.specs.Plans.{IsStorable}
use Rattle.replica.proofs.members.changed_block.Goals as goal

pub returns-clause-storable : goal.returns-clause-storable
returns-clause-storable c base =
    let member = c.args.member in
    let changed : is_changed c.args.member.m c.args.data_block c.args.member.seat ≡ true = sym c.is_changed.ensures ∙ c.if-not-is_changed.false in
    let long : length c.args.delta.now ≡ c.args.member.block = c.requires.delta ∙ ap (λ (b : Bool). cond b c.args.member.block 0) changed in
    let inside = c.member.inside in
    let some_byte : 1 ≤ member.block = subst (λ (x : Member). 1 ≤ x.block) c.member.view_is c.member.invariant.some_byte in
    let some : eqb (length c.args.delta.now) 0 ≡ false = grind (arith, nat_tests, long, some_byte) in
    subst (λ (shares : Bool). IsStorable c.args.member.block shares (Some base) (Some c.in_ok-changed.changed)) (sym some)
    (ap length c.in_ok-changed.ensures
    ∙ length-modified_block inside.m inside.block c.args.data_block inside.seat c.as_slice.result.now c.as_slice-2.result.now
    ∙ ap (λ (x : Member). x.block) c.member.view_is)
