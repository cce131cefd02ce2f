-- The happenings so far read right where those that are left do, from what the registers now hold.
use Rattle.std.proofs.Common.{◌↔◌, drop}
use Rattle.reg_model.specs.Registers.{zero_registers}
use Rattle.reg_model.specs.Strict.{ReadsRightAlong}
use Rattle.reg_model.proofs.strictness.reads_right.Given as goal

abbrev pub invariant-loop-happening : goal.invariant-loop-happening
invariant-loop-happening l =
    ReadsRightAlong l.block l.marks l.happenings (zero_registers l.m l.block)
    ↔ ReadsRightAlong l.block l.marks (drop l.happening-index l.happenings) l.scratch
