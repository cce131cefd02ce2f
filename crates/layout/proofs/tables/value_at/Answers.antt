-- What the map of a table finds at a key's text.
use Rattle.std.proofs.Common.{ap, ◌∙◌, List, ℕ}
use Rattle.toml.specs.Data.{get_member}
use Rattle.toml.specs.View.{table_view}
use Rattle.toml.proofs.Views.{table_get}
use Rattle.layout.proofs.tables.value_at.Goals as goal

pub returns : goal.returns
returns c =
    table_get c.get.result c.as_str.result.now c.args.table.now.entries c.get.ensures.value
    ∙ ap (λ (key : List ℕ). get_member key (table_view c.args.table.now)) c.as_str.ensures
