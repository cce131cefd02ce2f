use Rattle.std.proofs.Common.{rules, ◌≡◌, ◌-◌, ℕ, List, arith, length, take, drop, ap, ◌∙◌, length-append, length-drop}
use Rattle.std.proofs.lemmas.List.{take_rest}
use Rattle.fab_io.specs.Memory.{SourceInMemory}
use Rattle.fab_io.proofs.Copies.{Consumes-copied}
use Rattle.fab_io.proofs.memory.MemSourceSource.read.Goals as goal

pub returns-clause-content : goal.returns-clause-content
returns-clause-content c =
    let at = c.self.inside.at in
    let all : List ℕ = c.deref.result.now in
    let from : drop at c.self.inside.bytes.items ≡ c.args.self.now.left = ap (λ (s : SourceInMemory). s.left) c.self.view_is in
    let left : take (length all - at) (drop at all) ≡ c.args.self.now.left = take_rest all at ∙ ap (drop at) c.deref.ensures.value ∙ from in
    let long = ap length left in
    let room = c.self.invariant.1 in
    let n = c.min-n.result in
    Consumes-copied _ _ _ _ at n from (c.copy_from_slice.ensures.after ∙ ap (take n) left) (omega arith)
    (λ zero more. omega (arith, length-append c.copy_from_slice.new.self (drop n c.args.into.now), length-drop n c.args.into.now))

pub returns-in_err-count : goal.returns-in_err-count
returns-in_err-count c = search rules
