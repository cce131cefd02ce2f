-- No one may have to be asked, or a quorum is counted.
use Rattle.std.proofs.Common.{◌≡◌, true, false, refl, sym, ◌∙◌}
use Rattle.world.proofs.calms.has_prior_quorum.Goals as goal

pub returns-then-not-may_ask_prior : goal.returns-then-not-may_ask_prior
returns-then-not-may_ask_prior c = (
  λ on may. absurd (let never : true ≡ false = sym may ∙ sym c.may_ask_prior.ensures ∙ c.if-not-may_ask_prior.true in cc),
  λ all. refl,
)

pub returns : goal.returns
returns c = (λ on may. c.has_quorum.ensures.0 on, λ all. c.has_quorum.ensures.1 (all (sym c.may_ask_prior.ensures ∙ c.if-not-may_ask_prior.false)))
