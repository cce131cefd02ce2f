-- All numbers rise where the last one and those that are left do.
use Rattle.std.proofs.Common.{◌↔◌, ◌++◌, drop}
use Rattle.std.specs.Option.{option_to_list}
use Rattle.std.specs.List.Sorted.{IsStrictlyIncreasing}
use Rattle.reg_model.specs.Marks.{begun_numbers}
use Rattle.reg_model.proofs.well_formed.numbers_rise.Given as goal

abbrev pub invariant-loop-mark : goal.invariant-loop-mark
invariant-loop-mark l =
    IsStrictlyIncreasing (begun_numbers l.marks) ↔ IsStrictlyIncreasing (option_to_list l.last ++ begun_numbers (drop l.mark-index l.marks))
