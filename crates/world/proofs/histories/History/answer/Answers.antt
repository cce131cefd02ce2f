-- The operation is that of the call, and its mark has its place.
use Rattle.std.proofs.Common.{◌≡◌, ℕ, List, length, Option, None, Some, [], ◌∷◌, ◌++◌, refl, sym, ap, subst, ◌∙◌}
use Rattle.std.specs.Prelude.{option_to_list}
use Rattle.std.specs.Vec.{with_items}
use Rattle.std.proofs.lemmas.Option.{same_Some}
use Rattle.fab_base.specs.declared.identities.BrickId.{BrickId}
use Rattle.reg_model.specs.declared.marks.Mark.TheVariants.{End}
use Rattle.protocol.specs.Worlds.{is_answer}
use Rattle.protocol.specs.declared.tellings.Answered.{Answered}
use Rattle.world.specs.Shown.{ChangesAt, mark_kept, ended_kept}
use Rattle.world.specs.Noted.{NotesEnd, NotesEnds, number_in}
use Rattle.world.specs.declared.histories.History.{History}
use Rattle.world.specs.declared.histories.OperationRecord.{OperationRecord}
use Rattle.world.proofs.HistoryLemmas.{call_changes, call_stays}
use Rattle.world.proofs.histories.History.answer.Goals as goal

-- one answer was given
ended : (brick : BrickId) (answer : Option Answered) (one : Answered) (old new : History) → answer ≡ Some one → NotesEnd old new brick.0 one
    → NotesEnds brick (option_to_list answer) old new
ended brick answer one old new is notes = subst (λ (a : Option Answered). NotesEnds brick (option_to_list a) old new) (sym is) (new, notes, refl)

pub returns-in_default-number-clause-ended : goal.returns-in_default-number-clause-ended
returns-in_default-number-clause-ended c =
    let old = c.args.self.now in
    let one : Answered = c.in-Some.field-0 in
    ended c.args.brick c.args.answer one old old c.in-Some.is
    (record {
      changed = (call_stays old c.args.brick.0 one.seq (ended_kept (is_answer one.answer)) c.in_default-number.ensures).changed;
      count = refl;
      marks = λ k at. absurd (let never : None ≡ Some k = c.in_default-number.ensures ∙ at in cc);
      rest = refl;
    })

pub returns-clause-ended : goal.returns-clause-ended
returns-clause-ended c =
    let old = c.args.self.now in
    let b : ℕ = c.args.brick.0 in
    let one : Answered = c.in-Some.field-0 in
    let number : ℕ = c.in-Some-number.number in
    let after = with_items old.operations c.note_answer.new.operations in
    let changes = call_changes old b one.seq number (ended_kept c.is_answer.result) c.deref_mut.result.now c.note_answer.new.operations
    c.in-Some-number.ensures c.deref_mut.ensures.value (c.note_answer.auto.operations ∙ c.deref_mut.ensures.len) c.note_answer.ensures in
    ended c.args.brick c.args.answer one old _ c.in-Some.is
    (record {
      changed = subst (λ answered. ChangesAt old.operations.items after.items (number_in old b one.seq) (ended_kept answered)) c.is_answer.ensures
          changes.changed;
      count = changes.count;
      marks = λ k at. c.push_reserved.ensures.items
          ∙ ap (λ p. old.marks.items ++ End p c.mark_of-operation.result one.answer ∷ []) (c.len-position.ensures ∙ old.marks.ok.0)
          ∙ ap (λ n. old.marks.items ++ End (length old.marks.items) n one.answer ∷ [])
          (c.mark_of-operation.ensures ∙ ap (λ (l : List OperationRecord). mark_kept l number) c.deref.ensures.value
          ∙ ap (mark_kept after.items) (same_Some number k (c.in-Some-number.ensures ∙ at)));
      rest = refl;
    })
