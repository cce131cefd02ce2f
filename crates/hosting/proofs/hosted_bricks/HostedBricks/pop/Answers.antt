-- What is taken away is the last brick.
use Rattle.std.proofs.Common.{◌≡◌, ◌+◌, ◌++◌, length, Option, Some, MatchOption, option_to_list, vec_len, sym, ap, ◌∙◌, subst}
use Rattle.hosting.specs.Hosted.{Hosted, Hosting}
use Rattle.hosting.proofs.Turning.{TakesLast-none, TakesLast-some}
use Rattle.hosting.proofs.hosted_bricks.HostedBricks.pop.Goals as goal

pub returns-in_err-brick-clause-bricks : goal.returns-in_err-brick-clause-bricks
returns-in_err-brick-clause-bricks g c =
    let old = c.self.inside.bricks in
    let new = c.pop.new.self in
    let none : (vec_len old ≡ 0) × (vec_len new ≡ 0) =
    subst (λ (o : Option (Hosted g.row.D.Denot g.row.L.Denot)). MatchOption o ((vec_len old ≡ 0) × (vec_len new ≡ 0)) (λ _. vec_len new + 1 ≡ vec_len old))
    c.in_err-brick.was c.pop.ensures.cases in
    TakesLast-none _ _ _ (ap (λ (h : Hosting g.row.D.Denot g.row.L.Denot). length h.bricks) (sym c.self.view_is) ∙ sym old.ok.0 ∙ none.0)
    (sym new.ok.0 ∙ none.1) c.from_residual.ensures

pub returns-clause-bricks : goal.returns-clause-bricks
returns-clause-bricks g c =
    TakesLast-some _ _ c.in_ok-brick.brick _
    (ap (λ (h : Hosting g.row.D.Denot g.row.L.Denot). h.bricks) (sym c.self.view_is) ∙ c.pop.ensures.items
    ∙ ap (λ (o : Option (Hosted g.row.D.Denot g.row.L.Denot)). c.pop.new.self.items ++ option_to_list o) c.in_ok-brick.was)
    (ap Some c.into_parts.ensures)

pub returns-in_err-brick-clause-room : goal.returns-in_err-brick-clause-room
returns-in_err-brick-clause-room g c = c.pop.ensures.capacity ∙ ap (λ (h : Hosting g.row.D.Denot g.row.L.Denot). h.room) c.self.view_is

pub returns-clause-room : goal.returns-clause-room
returns-clause-room g c = c.pop.ensures.capacity ∙ ap (λ (h : Hosting g.row.D.Denot g.row.L.Denot). h.room) c.self.view_is
