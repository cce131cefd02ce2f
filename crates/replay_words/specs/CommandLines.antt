-- The command line, as clap sees it.
use Rattle.std.specs.Prelude.{true, codes}
use Rattle.clap.specs.Walk.{Rule}
use Rattle.clap.specs.Simple.{App, new_app, new_rule, on_top, with_rule}

-- its name; no word is the program's own
abbrev pub named_app : App
named_app = on_top (λ s. record s { no_binary_name = true }) (new_app (codes "replay"))

-- the word that stands first
abbrev pub word_rule : Rule
word_rule = record (new_rule (codes "word")) { required = true }

-- a word, and two more that may be missing
abbrev pub command_app : App
command_app = with_rule (with_rule (with_rule named_app word_rule) (new_rule (codes "seed"))) (new_rule (codes "lines"))
