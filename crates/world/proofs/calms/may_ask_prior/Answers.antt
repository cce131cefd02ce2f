-- The view is a later one, and some brick knows it, or none does.
use Rattle.std.proofs.Common.{◌≡◌, Bool, true, not, ◌&&◌, nat_lt, sym, ap, ◌∙◌, arith}
use Rattle.std.proofs.lemmas.Bool.Decides.{nat_tests}
use Rattle.world.proofs.calms.may_ask_prior.Goals as goal

pub returns-then-view-gt1 : goal.returns-then-view-gt1
returns-then-view-gt1 c =
    let later : nat_lt 1 c.args.view.0 ≡ true = grind (arith, nat_tests, c.if-view-gt1.true) in
    ap (λ (b : Bool). b && not c.one_knows_synced.result) (sym later) ∙ ap (λ (b : Bool). nat_lt 1 c.args.view.0 && not b) c.one_knows_synced.ensures
