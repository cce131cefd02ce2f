-- The brick that was added stands behind the others.
use Rattle.std.proofs.Common.{◌<◌, ◌++◌, ◌∷◌, [], length, vec_capacity, ap, sym, subst, ◌∙◌}
use Rattle.hosting.specs.Hosted.{Hosting}
use Rattle.hosting.proofs.hosted_bricks.HostedBricks.add.Goals as goal

pub returns-clause-bricks : goal.returns-clause-bricks
returns-clause-bricks g c = (
  c.new-brick.result,
  c.push_reserved.ensures.items ∙ ap (λ (h : Hosting g.row.D.Denot g.row.L.Denot). h.bricks ++ (c.new-brick.result ∷ [])) c.self.view_is,
  c.new-brick.ensures,
)

pub returns-clause-room : goal.returns-clause-room
returns-clause-room g c = c.push_reserved.ensures.capacity ∙ ap (λ (h : Hosting g.row.D.Denot g.row.L.Denot). h.room) c.self.view_is

pub push_reserved-requires : goal.push_reserved-requires
push_reserved-requires g c =
    subst (λ n. n < vec_capacity c.self.inside.bricks) (sym c.self.inside.bricks.ok.0)
    (subst (λ (h : Hosting g.row.D.Denot g.row.L.Denot). length h.bricks < h.room) (sym c.self.view_is) c.requires)
