use Rattle.std.proofs.Common.{◌∙◌, sym, ap}
use Rattle.hosting.proofs.CommandLines.{line_of-long, line_of-short}
use Rattle.lines.proofs.Arguments.{words}
use Rattle.hosting.proofs.commands.parse.Goals as goal

pub returns-then-content-gt-LINE_LIMIT : goal.returns-then-content-gt-LINE_LIMIT
returns-then-content-gt-LINE_LIMIT c = sym (line_of-long _ c.if-content-gt-LINE_LIMIT.true)

pub returns : goal.returns
returns c =
    let same = ap words c.deref.ensures.value ∙ c.in_ok-tokens.ensures in
    rw (line_of-short _ c.if-content-gt-LINE_LIMIT.false, ← same) c.parse_tokens.ensures
