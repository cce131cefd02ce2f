use Rattle.std.proofs.Common.{◌∙◌, sym}
use Rattle.hosting.proofs.CommandLines.{no_word, comment, first_word}
use Rattle.hosting.proofs.commands.parse_tokens.Goals as goal

pub returns-in_default : goal.returns-in_default
returns-in_default c = no_word _ c.in_default.len_below

pub returns-then-starts_with : goal.returns-then-starts_with
returns-then-starts_with c = comment _ c.in-len1-up.len_at_least (sym c.starts_with.ensures.value ∙ c.if-starts_with.true)

pub returns : goal.returns
returns c =
    rw (first_word _ c.in-len1-up.len_at_least (sym c.starts_with.ensures.value ∙ c.if-starts_with.false)) c.parse_form.ensures
