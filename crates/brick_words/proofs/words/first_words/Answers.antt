-- The arguments are those of the command line.
use Rattle.std.proofs.Common.{◌≡◌, rules, codes, ap₂, ◌∙◌}
use Rattle.clap.specs.Walk.{rule_of}
use Rattle.clap.specs.Simple.{with_rule}
use Rattle.brick_words.specs.CommandLines.{needed_rule}
use Rattle.brick_words.proofs.words.first_words.Goals as goal

pub returns : goal.returns
returns c =
    let word_is : rule_of c.required-word.result ≡ needed_rule (codes "word") = search rules in
    let layout_is : rule_of c.required-layout.result ≡ needed_rule (codes "layout") = search rules in
    c.in_ok-two.ensures.shape (search rules)
    ∙ ap₂ with_rule (c.in_ok-one.ensures.shape (search rules) ∙ ap₂ with_rule c.named.ensures word_is) layout_is
