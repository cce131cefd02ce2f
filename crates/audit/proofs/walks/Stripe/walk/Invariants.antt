-- the happenings so far went on, and those that are left go on where all do
use Rattle.std.proofs.Common.{◌≡◌, ◌↔◌, drop}
use Rattle.audit.specs.Walks.{lives_of, walk_from, GoOn, walked_along}
use Rattle.audit.proofs.walks.Stripe.walk.Given as goal

abbrev pub invariant-loop-happening : goal.invariant-loop-happening
invariant-loop-happening l = record {
  same : GoOn l.self.block (lives_of l.self) (walk_from l.initial.happened l.initial.registers) l.happenings
      ↔ GoOn l.self.block (lives_of l.self) (record { last = l.last; happened = l.happened; registers = l.registers }) (drop l.happening-index l.happenings);
  after : (walked_along l.self.block (lives_of l.self) (walk_from l.initial.happened l.initial.registers) l.happenings)
      ≡ walked_along l.self.block (lives_of l.self) (record { last = l.last; happened = l.happened; registers = l.registers }) (drop l.happening-index l.happenings);
}
