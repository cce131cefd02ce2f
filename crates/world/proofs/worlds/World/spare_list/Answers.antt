-- The list is that of the brick that is asked, by the number that it is asked by.
use Rattle.std.proofs.Common.{List, map, Some, sym, ap, ◌∙◌, subst}
use Rattle.fab_base.specs.declared.identities.BrickId.{BrickId}
use Rattle.layout.specs.Limits.{IsLayout}
use Rattle.world.specs.Runs.{Run}
use Rattle.world.specs.Suspected.{suspicions_of, list_to_propose}
use Rattle.world.proofs.Suspecting.{found_list, numbers_in}
use Rattle.world.proofs.worlds.World.spare_list.Goals as goal

pub returns-in-Err : goal.returns-in-Err
returns-in-Err c =
    let r : Run = c.args.self.now in
    let list = found_list r c.args.brick c.args.group c.member_no-by.result c.group_asked.result.0 c.proposer.result
    (subst (λ (x : Run). IsLayout x.layout) c.self.view_is c.bricks.ensures.limits) c.member_no-by.ensures c.group_asked.ensures c.proposer.ensures in
    ap Some (c.from_vec.ensures ∙ c.new.ensures.items)
    ∙ ap numbers_in (sym (ap (list_to_propose (suspicions_of r) c.member_no-by.result) c.in-Err.is) ∙ list)

pub returns-in-None : goal.returns-in-None
returns-in-None c =
    let r : Run = c.args.self.now in
    let list = found_list r c.args.brick c.args.group c.member_no-by.result c.group_asked.result.0 c.proposer.result
    (subst (λ (x : Run). IsLayout x.layout) c.self.view_is c.bricks.ensures.limits) c.member_no-by.ensures c.group_asked.ensures c.proposer.ensures in
    ap numbers_in (sym c.in-None.is ∙ c.replaced.ensures ∙ sym (ap (list_to_propose (suspicions_of r) c.member_no-by.result) c.in-Ok.is) ∙ list)

pub returns-in_ok-numbers_of-in-Some : goal.returns-in_ok-numbers_of-in-Some
returns-in_ok-numbers_of-in-Some c =
    let r : Run = c.args.self.now in
    let list = found_list r c.args.brick c.args.group c.member_no-by.result c.group_asked.result.0 c.proposer.result
    (subst (λ (x : Run). IsLayout x.layout) c.self.view_is c.bricks.ensures.limits) c.member_no-by.ensures c.group_asked.ensures c.proposer.ensures in
    ap Some (c.in_ok-numbers_of-in-Some.ensures ∙ ap (λ (members : List BrickId). map (λ (member : BrickId). member.0) members) c.as_slice.ensures.value)
    ∙ ap numbers_in (sym c.in-Some.is ∙ c.replaced.ensures ∙ sym (ap (list_to_propose (suspicions_of r) c.member_no-by.result) c.in-Ok.is) ∙ list)
