use Rattle.std.proofs.Common.{◌≡◌, ◌++◌, drop}
use Rattle.std.specs.Prelude.{filter}
use Rattle.trace.specs.Told.{is_inside}
use Rattle.trace.proofs.pages.Page.line.Given as goal

abbrev pub invariant-loop-byte : goal.invariant-loop-byte
invariant-loop-byte l =
    l.self-inside.bytes.items ++ filter is_inside (drop l.byte-index l.text) ≡ l.initial.self-inside.bytes.items ++ filter is_inside l.text
