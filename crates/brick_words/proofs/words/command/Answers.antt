-- The arguments are those of the command line.
use Rattle.std.proofs.Common.{◌≡◌, rules, codes, ap₂, ◌∙◌}
use Rattle.clap.specs.Walk.{rule_of}
use Rattle.clap.specs.Simple.{new_rule, with_rule}
use Rattle.brick_words.specs.CommandLines.{needed_rule}
use Rattle.brick_words.proofs.words.command.Goals as goal

pub returns : goal.returns
returns c =
    let name_is : rule_of c.required-name.result ≡ needed_rule (codes "name") = search rules in
    let number_is : rule_of c.required-number.result ≡ needed_rule (codes "number") = search rules in
    let turns_is : rule_of c.new-turns.result ≡ new_rule (codes "turns") = search rules in
    c.in_ok-five.ensures.shape (search rules)
    ∙ ap₂ with_rule (c.in_ok-four.ensures.shape (search rules)
    ∙ ap₂ with_rule (c.in_ok-three.ensures.shape (search rules) ∙ ap₂ with_rule c.in_ok-two.ensures name_is) number_is) turns_is
