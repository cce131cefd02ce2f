-- The first m blocks that are found give back the content.
use Rattle.std.proofs.Common.{◌≡◌, ◌≤◌, true, length, ap, ◌∙◌, sym, subst, arith}
use Rattle.std.proofs.lemmas.Result.{IfOk-weaker}
use Rattle.fab_base.specs.Layouts.{Group}
use Rattle.protocol.specs.Coordinators.{asked_group, pieces_at}
use Rattle.stripe_code.specs.Codes.{decoded}
use Rattle.coord_phase.specs.Operations.{Operation, wants_all}
use Rattle.coord_phase.proofs.Asked.{asked_m}
use Rattle.coord_phase.proofs.Pieces.{give_back, length-decoded, seats_of, blocks_of}
use Rattle.coord_phase.proofs.operations.Operation.content_of.Goals as goal

pub decode-requires-clause-seats : goal.decode-requires-clause-seats
decode-requires-clause-seats c =
    let inside = c.self.inside in
    let v = c.args.version in
    let m_is : c.m-m.result ≡ inside.group.m = c.m-m.ensures.value ∙ c.policy.ensures.m ∙ ap (λ (z : Group). z.m) c.asked.ensures
    ∙ asked_m c.args.self.now.state ∙ ap (λ (op : Operation). op.state.group.m) (sym c.self.view_is) in
    let few = subst (λ (op : Operation). length (asked_group op.state).members ≤ 32) (sym c.self.view_is)
    (subst (λ (z : Group). length z.members ≤ 32) c.asked.ensures c.policy.ensures.limits.few_seats) in
    let needed : inside.group.m ≤ length (pieces_at v inside.replies.list.items) = subst
    (λ (op : Operation). op.state.group.m ≤ length (pieces_at v op.state.counted)) (sym c.self.view_is) c.requires.enough in
    let whole : wants_all inside.stage.phase ≡ true = subst (λ (op : Operation). wants_all op.state.phase ≡ true) (sym c.self.view_is) c.requires.whole in
    let enough : c.m-m.result ≤ length (pieces_at v inside.replies.list.items) = omega (arith, needed, m_is) in
    (give_back _ _ v _ _ _ c.self.invariant.0 whole few enough
    (c.deref.ensures.value ∙ c.in_ok-seats.ensures ∙ ap (λ counted. seats_of (pieces_at v counted)) c.as_slice.ensures)
    (c.deref-2.ensures.value ∙ c.in_ok-blocks.ensures ∙ ap (λ counted. blocks_of (pieces_at v counted)) c.as_slice-2.ensures)).at_seats

pub decode-requires-clause-long : goal.decode-requires-clause-long
decode-requires-clause-long c =
    let inside = c.self.inside in
    let v = c.args.version in
    let m_is : c.m-m.result ≡ inside.group.m = c.m-m.ensures.value ∙ c.policy.ensures.m ∙ ap (λ (z : Group). z.m) c.asked.ensures
    ∙ asked_m c.args.self.now.state ∙ ap (λ (op : Operation). op.state.group.m) (sym c.self.view_is) in
    let few = subst (λ (op : Operation). length (asked_group op.state).members ≤ 32) (sym c.self.view_is)
    (subst (λ (z : Group). length z.members ≤ 32) c.asked.ensures c.policy.ensures.limits.few_seats) in
    let needed : inside.group.m ≤ length (pieces_at v inside.replies.list.items) = subst
    (λ (op : Operation). op.state.group.m ≤ length (pieces_at v op.state.counted)) (sym c.self.view_is) c.requires.enough in
    let whole : wants_all inside.stage.phase ≡ true = subst (λ (op : Operation). wants_all op.state.phase ≡ true) (sym c.self.view_is) c.requires.whole in
    let enough : c.m-m.result ≤ length (pieces_at v inside.replies.list.items) = omega (arith, needed, m_is) in
    (give_back _ _ v _ _ _ c.self.invariant.0 whole few enough
    (c.deref.ensures.value ∙ c.in_ok-seats.ensures ∙ ap (λ counted. seats_of (pieces_at v counted)) c.as_slice.ensures)
    (c.deref-2.ensures.value ∙ c.in_ok-blocks.ensures ∙ ap (λ counted. blocks_of (pieces_at v counted)) c.as_slice-2.ensures)).long

pub slice_bounds-decode-end-2 : goal.slice_bounds-decode-end-2
slice_bounds-decode-end-2 c = sym (decode-requires-clause-long c)

pub returns-clause-value : goal.returns-clause-value
returns-clause-value c =
    let inside = c.self.inside in
    let v = c.args.version in
    let m_is : c.m-m.result ≡ inside.group.m = c.m-m.ensures.value ∙ c.policy.ensures.m ∙ ap (λ (z : Group). z.m) c.asked.ensures
    ∙ asked_m c.args.self.now.state ∙ ap (λ (op : Operation). op.state.group.m) (sym c.self.view_is) in
    let few = subst (λ (op : Operation). length (asked_group op.state).members ≤ 32) (sym c.self.view_is)
    (subst (λ (z : Group). length z.members ≤ 32) c.asked.ensures c.policy.ensures.limits.few_seats) in
    let needed : inside.group.m ≤ length (pieces_at v inside.replies.list.items) = subst
    (λ (op : Operation). op.state.group.m ≤ length (pieces_at v op.state.counted)) (sym c.self.view_is) c.requires.enough in
    let whole : wants_all inside.stage.phase ≡ true = subst (λ (op : Operation). wants_all op.state.phase ≡ true) (sym c.self.view_is) c.requires.whole in
    let enough : c.m-m.result ≤ length (pieces_at v inside.replies.list.items) = omega (arith, needed, m_is) in
    let back = give_back _ _ v _ _ _ c.self.invariant.0 whole few enough
    (c.deref.ensures.value ∙ c.in_ok-seats.ensures ∙ ap (λ counted. seats_of (pieces_at v counted)) c.as_slice.ensures)
    (c.deref-2.ensures.value ∙ c.in_ok-blocks.ensures ∙ ap (λ counted. blocks_of (pieces_at v counted)) c.as_slice-2.ensures) in
    IfOk-weaker c.decode.result _ _
    (λ content is.
    is _ back.first
    ∙ ap (λ m. decoded m inside.block (pieces_at v inside.replies.list.items)) m_is
    ∙ ap (λ (op : Operation). decoded op.state.group.m op.block (pieces_at v op.state.counted)) c.self.view_is)
    c.decode.ensures

pub returns-clause-long : goal.returns-clause-long
returns-clause-long c =
    let now = c.args.self.now in
    let v = c.args.version in
    IfOk-weaker c.decode.result (λ content. content ≡ decoded now.state.group.m now.block (pieces_at v now.state.counted)) _
    (λ content is. ap length is ∙ length-decoded now.state.group.m now.block (pieces_at v now.state.counted))
    (returns-clause-value c)
