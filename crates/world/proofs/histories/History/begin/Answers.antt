-- What is put is what is noted, at its place.
use Rattle.std.proofs.Common.{ℕ, ◌+◌, Bool, [], ◌∷◌, ◌++◌, length, sym, ap, ◌∙◌}
use Rattle.reg_model.specs.declared.marks.Mark.TheVariants.{Begin}
use Rattle.world.specs.CallNumbers.{calls_in}
use Rattle.world.specs.Noted.{begun_kept, calls_with}
use Rattle.world.specs.declared.histories.History.{History}
use Rattle.world.proofs.histories.History.begin.Goals as goal

pub returns : goal.returns
returns c =
    let old = c.args.self.now in
    let sends = c.send.ensures.rest in
    let place = c.len-position.ensures ∙ old.marks.ok.0 in
    let count = c.len.ensures ∙ old.operations.ok.0 in
    let marks = c.len-2.ensures ∙ old.marked.ok.0 in
    let mark = λ (p n : ℕ). old.marks.items ++ Begin p (n + 1) c.args.brick c.args.ask ∷ [] in
    let kept = λ (p m : ℕ). old.operations.items ++ begun_kept c.args.brick c.args.boot c.args.begun.seq p (m + 1) c.args.ask ∷ [] in
    record {
      sent = c.send.ensures.items;
      marks = ap (λ (h : History). h.marks.items) sends ∙ c.push_reserved-3.ensures.items
          ∙ ap (λ (p : ℕ). mark p c.len-2.result) place ∙ ap (λ (n : ℕ). mark (length old.marks.items) n) marks;
      operations = ap (λ (h : History). h.operations.items) sends ∙ c.push_reserved.ensures.items
          ∙ ap (λ (wr : Bool). old.operations.items
          ++ record (begun_kept c.args.brick c.args.boot c.args.begun.seq c.len-position.result (c.len-2.result + 1) c.args.ask) { writes = wr } ∷ [])
          c.writes.ensures
          ∙ ap (λ (p : ℕ). kept p c.len-2.result) place ∙ ap (λ (m : ℕ). kept (length old.marks.items) m) marks;
      marked = ap (λ (h : History). h.marked.items) sends ∙ c.push_reserved-2.ensures.items ∙ ap (λ (n : ℕ). old.marked.items ++ (n + 1) ∷ []) count;
      calls = λ i. ap (λ (h : History). calls_in h.calls i) sends ∙ c.add.ensures i
          ∙ ap (λ (n : ℕ). calls_with old.calls c.args.brick.0 (n + 1) i) count;
      rest = sends
          ∙ ap (λ (h : History). record old { sent = c.send.new.self.sent; marks = h.marks; operations = h.operations; marked = h.marked; calls = h.calls })
          (sym sends);
    }
