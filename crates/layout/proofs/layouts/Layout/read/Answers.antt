-- Once there is a document, the checks of its table do not say that there is none.
use Rattle.toml.specs.View.{table_view}
use Rattle.layout.proofs.Refusals.{never_toml}
use Rattle.layout.proofs.layouts.Layout.read.Goals as goal

pub returns-clause-toml : goal.returns-clause-toml
returns-clause-toml c = λ is. absurd (never_toml (table_view c.in_ok-table.table) c.layout_in.result c.layout_in.ensures.err is)
