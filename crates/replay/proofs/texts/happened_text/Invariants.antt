use Rattle.std.proofs.Common.{◌≡◌, ◌++◌, drop, codes, string_bytes}
use Rattle.std.specs.Fmt.{decimal}
use Rattle.printed.specs.Outputs.{happenings_text}
use Rattle.replay.proofs.texts.happened_text.Given as goal

abbrev pub invariant-loop-happening : goal.invariant-loop-happening
invariant-loop-happening l =
    string_bytes l.text ++ happenings_text (drop l.happening-index l.happenings)
    ≡ codes "happened " ++ (decimal l.group ++ (codes " " ++ (decimal l.stripe ++ happenings_text l.happenings)))
