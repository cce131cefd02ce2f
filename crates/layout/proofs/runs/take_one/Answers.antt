-- A run that is free is one more.
use Rattle.std.proofs.Common.{ℕ, ◌+◌, ap}
use Rattle.layout.proofs.TakenRuns.{left_at, took_at}
use Rattle.layout.proofs.runs.take_one.Goals as goal

pub returns-then-is_taken : goal.returns-then-is_taken
returns-then-is_taken c = left_at _ _ c.args.segment _ _ _ c.requires c.start_of-start.ensures
    (ap (λ (n : ℕ). c.start_of-start.result + n) c.from.ensures) c.is_taken.ensures c.if-is_taken.true

pub returns : goal.returns
returns c =
    took_at _ _ c.args.segment _ _ _ c.requires c.start_of-start.ensures
    (ap (λ (n : ℕ). c.start_of-start.result + n) c.from.ensures) c.is_taken.ensures c.if-is_taken.false c.in_ok-insert.ensures.updates.1
    c.in_ok-insert.ensures.updates.2
