-- Each mark is taken or refused.
use Rattle.std.proofs.Common.{◌≡◌, Bool, cond, List, Option, Some, None, refl, ap, ◌∙◌, ◌+◌, rules}
use Rattle.std.proofs.lemmas.Option.{slice_get_read}
use Rattle.audit.specs.declared.operations.Operation.{Operation}
use Rattle.audit.specs.Operations.{Index}
use Rattle.audit.specs.Lasts.{last_at, touches}
use Rattle.audit.proofs.ReviewLemmas.{reviewed_none, reviewed_more, refused}
use Rattle.audit.proofs.reviews.go_through.Goals as goal

-- what was answered of a mark
answered : (given : Option Index) (new : Index) (b t : Bool) → given ≡ cond b (Some new) None → b ≡ t → given ≡ cond t (Some new) None
answered given new b t is same = is ∙ ap (λ (x : Bool). cond x (Some new) None) same

pub loop-place-init : goal.loop-place-init
loop-place-init c = reviewed_none _ _ _ _ c.in_ok-operations.ensures c.new-lasts.ensures

pub returns-then-not-branch : goal.returns-then-not-branch
returns-then-not-branch c =
    refused _ _ _ _ _ _ c.loop-place.invariant (slice_get_read _ _ _ _ refl c.loop-place-test.true c.index-claims-place.is)
    (answered _ _ _ _ c.in_ok-take.ensures c.if-not-branch.true)

pub loop-place-preserved : goal.loop-place-preserved
loop-place-preserved c =
    reviewed_more _ _ _ _ _ _ _ _ c.loop-place.invariant (slice_get_read _ _ _ _ refl c.loop-place-test.true c.index-claims-place.is)
    (answered _ _ _ _ c.in_ok-take.ensures c.if-not-branch.false)
    (λ g s. c.in_ok-take-2.ensures g s
    ∙ ap (λ (found : List Operation). cond (touches found c.index-claims-place.result g s) (c.loop-place.place + 1) (last_at c.loop-place.lasts g s))
    c.as_slice.ensures)

pub returns-in_err-operations : goal.returns-in_err-operations
returns-in_err-operations c = search rules

pub returns-in_err-take : goal.returns-in_err-take
returns-in_err-take c = search rules

pub returns-in_err-take-2 : goal.returns-in_err-take-2
returns-in_err-take-2 c = search rules
