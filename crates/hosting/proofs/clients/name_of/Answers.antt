use Rattle.std.proofs.Common.{sym, ◌∙◌}
use Rattle.hosting.proofs.Names.{utf8, name_known}
use Rattle.hosting.proofs.clients.name_of.Goals as goal

pub returns-in-Ok : goal.returns-in-Ok
returns-in-Ok c =
    let test = sym c.is_ascii.ensures ∙ c.if-not-is_ascii.false in
    c.in-Ok.ensures.cases.0 ∙ sym (name_known _ test)

pub returns-in-Err : goal.returns-in-Err
returns-in-Err c =
    let test = sym c.is_ascii.ensures ∙ c.if-not-is_ascii.false in
    absurd (c.in-Err.ensures.cases.0 (utf8 _ test))
