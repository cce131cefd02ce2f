use Rattle.std.proofs.Common.{◌≡◌, ◌+◌, ◌-◌, ◌<◌, length, take, drop, subst, All, false, ◌==◌, arith, le_refl, ap, length-drop}
use Rattle.std.proofs.lemmas.List.{take_rest, take_all}
use Rattle.lines.proofs.Splits.{tokens-last, tokens-at, none_before}
use Rattle.lines.proofs.tokens.cut.Goals as goal

pub returns-in-Some : goal.returns-in-Some
returns-in-Some c =
    let line = c.args.content.now in
    let end = c.in-Some.end in
    let first = c.in-Some.ensures in
    let more : take (length line - (end + 1)) (drop (end + 1) line) ≡ drop (end + 1) line = take_rest line (end + 1) in
    let lt : end < length line = first.0.high in (
      tokens-at line _ end lt first.0.before first.1 more,
      omega (arith, ap length more, length-drop (end + 1) line, lt),
    )

pub returns-in-None : goal.returns-in-None
returns-in-None c =
    let line = c.args.content.now in
    tokens-last line (subst (All (λ byte. (byte == 32) ≡ false)) (take_all (length line) line (le_refl (length line))) (none_before line (length line) (le_refl (length line)) c.in-None.ensures))
