-- An order stores nothing, and neither does what is dropped; what fits is as long as a block.
use Rattle.std.proofs.Common.{◌≡◌, ℕ, Bool, true, false, length, sym, subst}
use Rattle.std.specs.Prelude.{IfOk}
use Rattle.std.proofs.lemmas.Bool.{eqb-true}
use Rattle.messages.specs.declared.requests.Request.{Request}
use Rattle.replica.specs.Courses.{fits_block}
use Rattle.replica.specs.Parts.{part_seen}
use Rattle.replica.specs.Plans.{IsChange}
use Rattle.replica.specs.Calls.{shares_block}
use Rattle.replica.proofs.members.decide.Goals as goal

pub returns-in-Order-clause-change : goal.returns-in-Order-clause-change
returns-in-Order-clause-change c start = c.order.ensures.change c.args.member.block (shares_block c.args.request.now) start

pub returns-in-Collect-clause-change : goal.returns-in-Collect-clause-change
returns-in-Collect-clause-change c start = c.collect.ensures.change c.args.member.block (shares_block c.args.request.now) start

pub returns-in-Write-clause-change : goal.returns-in-Write-clause-change
returns-in-Write-clause-change c =
    let member = c.args.member in
    let long : length c.in-Write.block ≡ c.args.member.block = eqb-true (length c.in-Write.block) member.block
    (subst (λ (r : Request). fits_block member.block member.m member.seat r ≡ true) c.in-Write.is c.requires.fits) in
    subst (λ (r : Request). IfOk c.write.result (λ plan. (start : Bool) → IsChange member.block (shares_block r) (part_seen c.args.part.now start) plan))
    (sym c.in-Write.is)
    (subst (λ (n : ℕ). IfOk c.write.result (λ plan. (start : Bool) → IsChange n false (part_seen c.args.part.now start) plan)) long
    c.write.ensures.change)

pub returns-in-Modify-clause-change : goal.returns-in-Modify-clause-change
returns-in-Modify-clause-change c =
    subst (λ (r : Request). IfOk c.modify.result (λ plan. (start : Bool) → IsChange c.args.member.block (shares_block r) (part_seen c.args.part.now start) plan))
    (sym c.in-Modify.is) c.modify.ensures.change
