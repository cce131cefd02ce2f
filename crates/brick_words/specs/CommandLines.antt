-- The command line, as clap sees it.
use Rattle.std.specs.Prelude.{List, ℕ, true, codes}
use Rattle.clap.specs.Walk.{Rule}
use Rattle.clap.specs.Simple.{App, new_app, new_rule, on_top, with_rule}

-- its name; no word is the program's own
abbrev pub brick_named : App
brick_named = on_top (λ s. record s { no_binary_name = true }) (new_app (codes "brick"))

-- a word that may not be missing
abbrev pub needed_rule : List ℕ → Rule
needed_rule id = record (new_rule id) { required = true }

-- the first two words: what is to be done, and the layout
abbrev pub brick_first : App
brick_first = with_rule (with_rule brick_named (needed_rule (codes "word"))) (needed_rule (codes "layout"))

-- a name and a number behind them, and one more number, which may be missing
abbrev pub brick_app : App
brick_app = with_rule (with_rule (with_rule brick_first (needed_rule (codes "name"))) (needed_rule (codes "number"))) (new_rule (codes "turns"))
