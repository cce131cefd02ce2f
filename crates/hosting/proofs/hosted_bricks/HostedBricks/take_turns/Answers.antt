-- The turns of the list are those of the bricks.
use Rattle.std.proofs.Common.{List, length, MatchResult, sym, ap, ◌∙◌, subst}
use Rattle.std.specs.Vec.{with_items}
use Rattle.std.proofs.lemmas.List.{with_items_is}
use Rattle.hosting.specs.Hosted.{Hosted, Hosting, TakeTurns, StopTurns}
use Rattle.hosting.proofs.hosted_bricks.HostedBricks.take_turns.Goals as goal

pub invariant_of-self : goal.invariant_of-self
invariant_of-self g c =
    let room = c.self.inside.room in
    ap length (with_items_is room c.take_turns.new.room (c.take_turns.auto.room ∙ c.as_mut_slice-2.ensures.len)) ∙ c.take_turns.auto.room
    ∙ ap length c.as_mut_slice-2.ensures.value ∙ c.self.invariant

pub returns-clause-turns : goal.returns-clause-turns
returns-clause-turns g c =
    let x = c.self.inside in
    let old = c.args.clock.now in
    let new = c.take_turns.new.clock in
    let after = c.take_turns.new.bricks in
    subst (λ (h : Hosting g.row.D.Denot g.row.L.Denot). MatchResult c.take_turns.result
    (λ _. TakeTurns g.D.Disk g.L.Link g.C.Clock h.bricks (with_items x.bricks after).items old new)
    (λ fault. StopTurns g.D.Disk g.L.Link g.C.Clock fault h.bricks (with_items x.bricks after).items old new)) c.self.view_is
    (subst (λ (bs : List (Hosted g.row.D.Denot g.row.L.Denot)). MatchResult c.take_turns.result
    (λ _. TakeTurns g.D.Disk g.L.Link g.C.Clock x.bricks.items bs old new)
    (λ fault. StopTurns g.D.Disk g.L.Link g.C.Clock fault x.bricks.items bs old new))
    (sym (with_items_is x.bricks after (c.take_turns.auto.bricks ∙ c.as_mut_slice.ensures.len)))
    (subst (λ (bs : List (Hosted g.row.D.Denot g.row.L.Denot)). MatchResult c.take_turns.result
    (λ _. TakeTurns g.D.Disk g.L.Link g.C.Clock bs after old new)
    (λ fault. StopTurns g.D.Disk g.L.Link g.C.Clock fault bs after old new)) c.as_mut_slice.ensures.value c.take_turns.ensures))

pub returns-clause-room : goal.returns-clause-room
returns-clause-room g c = ap (λ (h : Hosting g.row.D.Denot g.row.L.Denot). h.room) c.self.view_is

pub take_turns-requires : goal.take_turns-requires
take_turns-requires g c = ap length c.as_mut_slice-2.ensures.value ∙ c.self.invariant
