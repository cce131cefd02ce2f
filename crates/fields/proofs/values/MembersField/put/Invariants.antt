use Rattle.std.proofs.Common.{◌≡◌, ◌++◌, length, take, map}
use Rattle.fields.specs.Parts.{AllFit, spelled, number_bytes}
use Rattle.fields.specs.Values.{brick_part}
use Rattle.fields.proofs.values.MembersField.put.Given as goal

abbrev pub invariant-loop-brick : goal.invariant-loop-brick
invariant-loop-brick l = record {
  written : l.out.items ≡ l.fn.out.items ++ (number_bytes 1 (length l.bricks) ++ spelled (map brick_part (take l.brick-index l.bricks)));
  each : AllFit (map brick_part (take l.brick-index l.bricks));
}
