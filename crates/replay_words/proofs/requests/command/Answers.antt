-- The arguments are those of the command line.
use Rattle.std.proofs.Common.{◌≡◌, rules, codes, ap₂, ◌∙◌}
use Rattle.clap.specs.Walk.{rule_of}
use Rattle.clap.specs.Simple.{new_rule, with_rule}
use Rattle.replay_words.specs.CommandLines.{word_rule}
use Rattle.replay_words.proofs.requests.command.Goals as goal

pub returns : goal.returns
returns c =
    let word_is : rule_of c.required-word.result ≡ word_rule = search rules in
    let seed_is : rule_of c.new-seed.result ≡ new_rule (codes "seed") = search rules in
    let lines_is : rule_of c.new-lines.result ≡ new_rule (codes "lines") = search rules in
    c.in_ok-three.ensures.shape (search rules)
    ∙ ap₂ with_rule (c.in_ok-two.ensures.shape (search rules)
    ∙ ap₂ with_rule (c.in_ok-one.ensures.shape (search rules) ∙ ap₂ with_rule c.named.ensures word_is) seed_is) lines_is
