-- The operation is that of the call.
use Rattle.std.proofs.Common.{◌≡◌, Bool, true, false, not, refl, subst, ◌∙◌}
use Rattle.std.specs.Prelude.{is_some}
use Rattle.world.specs.Shown.{ChangesAt, ended_kept}
use Rattle.world.proofs.HistoryLemmas.{call_changes, call_stays}
use Rattle.world.proofs.histories.History.closed.Goals as goal

-- what another is not is not the other
is_not : (x y : Bool) → x ≡ not y → y ≡ not x
is_not true true e = absurd (let never : true ≡ false = e in cc)
is_not true false e = refl
is_not false true e = refl
is_not false false e = absurd (let never : false ≡ true = e in cc)

pub returns-in-Some : goal.returns-in-Some
returns-in-Some c =
    call_changes c.args.self.now c.args.brick.0 c.args.seq c.in-Some.number (ended_kept (not (is_some c.args.cause))) c.deref_mut.result.now _
    c.in-Some.ensures c.deref_mut.ensures.value (c.note_answer.auto.operations ∙ c.deref_mut.ensures.len)
    (subst (λ (answered : Bool). ChangesAt c.deref_mut.result.now c.note_answer.new.operations c.in-Some.number (ended_kept answered))
    (is_not (is_some c.args.cause) c.is_none.result c.is_none.ensures) c.note_answer.ensures)

pub returns-in_default : goal.returns-in_default
returns-in_default c = call_stays c.args.self.now c.args.brick.0 c.args.seq (ended_kept (not (is_some c.args.cause))) c.in_default.ensures
