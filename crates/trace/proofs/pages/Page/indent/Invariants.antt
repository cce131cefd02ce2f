use Rattle.std.proofs.Common.{◌≡◌, ◌++◌, true, drop}
use Rattle.trace.specs.Told.{indented}
use Rattle.trace.proofs.pages.Page.indent.Given as goal

abbrev pub invariant-loop-byte : goal.invariant-loop-byte
invariant-loop-byte l =
    l.self-inside.bytes.items ++ indented l.begins (drop l.byte-index l.text) ≡ l.initial.self-inside.bytes.items ++ indented true l.text
