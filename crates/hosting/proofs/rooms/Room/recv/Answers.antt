-- What a look put into the room stands there, and it is as long as before.
use Rattle.std.proofs.Common.{◌≡◌, ◌≤◌, ℕ, List, length, IfOk, IfSome, sym, ap, subst, ◌∙◌}
use Rattle.std.proofs.lemmas.List.{with_items_is}
use Rattle.fab_io.specs.Datagrams.{RecvTakes}
use Rattle.hosting.proofs.rooms.Room.recv.Goals as goal

pub invariant_of-self : goal.invariant_of-self
invariant_of-self g c =
    ap length (with_items_is c.self.inside.bytes c.recv.new.into (c.recv.auto.into ∙ c.as_mut_slice.ensures.len)) ∙ c.recv.auto.into
    ∙ ap length c.as_mut_slice.ensures.value ∙ c.self.invariant

pub returns-clause-all : goal.returns-clause-all
returns-clause-all g c =
    ap length (with_items_is c.self.inside.bytes c.recv.new.into (c.recv.auto.into ∙ c.as_mut_slice.ensures.len)) ∙ c.recv.auto.into
    ∙ ap length c.as_mut_slice.ensures.value ∙ c.self.invariant

pub returns-clause-within : goal.returns-clause-within
returns-clause-within g c =
    let long : length c.recv.new.into ≡ 65535 = c.recv.auto.into ∙ ap length c.as_mut_slice.ensures.value ∙ c.self.invariant in
    subst (λ (n : ℕ). IfOk c.recv.result (λ came. IfSome came (λ p. p.1 ≤ n))) long c.recv.ensures.within

pub returns-clause-takes : goal.returns-clause-takes
returns-clause-takes g c =
    subst (λ (l : List ℕ). RecvTakes (g.L.Link.waiting c.args.link.now) (g.L.Link.waiting c.recv.new.self) c.recv.result l)
    (sym (with_items_is c.self.inside.bytes c.recv.new.into (c.recv.auto.into ∙ c.as_mut_slice.ensures.len))) c.recv.ensures.takes
