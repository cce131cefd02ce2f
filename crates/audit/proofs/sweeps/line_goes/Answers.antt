-- The happenings of a line are walked along in a group that has its stripe.
use Rattle.std.proofs.Common.{ℕ, ◌*◌, List, replicate, sym, ap, ◌∙◌, subst, arith}
use Rattle.std.specs.Option.{option_copied}
use Rattle.reg_model.specs.declared.marks.Happening.{Happening}
use Rattle.audit.specs.Walks.{life_among, walk_from, WalksAlong}
use Rattle.audit.proofs.LineGoing.{line_fits, line_answers, no_group, no_stripe}
use Rattle.audit.proofs.sweeps.line_goes.Goals as goal

pub returns-in_default : goal.returns-in_default
returns-in_default c =
    no_group c.args.layout.now c.args.claims.now c.args.review.now c.args.line.now c.args.happened.now
    (sym c.find_group.ensures ∙ ap option_copied c.in_default.is)

pub returns-then-line-from : goal.returns-then-line-from
returns-then-line-from c =
    no_stripe c.args.layout.now c.args.claims.now c.args.review.now c.args.line.now c.args.happened.now c.in-Some.group.now
    (sym c.find_group.ensures ∙ ap option_copied c.in-Some.is) (omega (arith, c.if-line-from.true, c.from.ensures, c.stripes.ensures))

pub walk-requires-clause-fits : goal.walk-requires-clause-fits
walk-requires-clause-fits c =
    line_fits c.args.layout.now c.args.claims.now c.args.review.now c.args.line.now.group c.args.line.now.stripe c.in-Some.group.now c.m-m.result
    c.from-block.result c.past.result c.requires.review (sym c.find_group.ensures ∙ ap option_copied c.in-Some.is) c.m-m.ensures
    (c.from-block.ensures ∙ c.block.ensures) c.past.ensures

pub returns : goal.returns
returns c =
    line_answers c.args.layout.now c.args.claims.now c.args.review.now c.args.line.now c.args.happened.now c.walk.new.happened c.in-Some.group.now
    c.m-m.result c.from-block.result c.past.result c.as_mut_slice.result.now c.walk.result
    (sym c.find_group.ensures ∙ ap option_copied c.in-Some.is) (omega (arith, c.if-line-from.false, c.from.ensures, c.stripes.ensures)) c.m-m.ensures
    (c.from-block.ensures ∙ c.block.ensures) c.past.ensures
    (c.as_mut_slice.ensures.value ∙ c.in_ok-registers.ensures ∙ ap (λ (k : ℕ). replicate (k * c.from-block.result) 0) c.from-2.ensures)
    (subst (λ (hs : List Happening). WalksAlong c.from-block.result
    (life_among c.args.claims.now c.args.review.now.operations c.past.result c.args.line.now.group c.args.line.now.stripe)
    (walk_from c.args.happened.now c.as_mut_slice.result.now) hs c.walk.new.happened c.walk.result)
    c.as_slice.ensures c.walk.ensures)
