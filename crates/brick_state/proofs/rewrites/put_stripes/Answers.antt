-- What is left of the views gives the records that are left.
use Rattle.std.proofs.Common.{List, ◌++◌, sym, ap, ◌∙◌, append_assoc}
use Rattle.std.specs.BTreeMap.{BTreeMap}
use Rattle.std.proofs.lemmas.List.{append-nil}
use Rattle.brick_state.specs.declared.view_tables.ViewTable.{ViewTable}
use Rattle.brick_state.specs.Maps.{ViewKey, listed, placed, flat}
use Rattle.brick_state.specs.Rewrites.{stripes_records}
use Rattle.brick_state.proofs.LiveRecords.{records-view, stripes_none}
use Rattle.brick_state.proofs.rewrites.put_stripes.Goals as goal

pub loop-key-preserved : goal.loop-key-preserved
loop-key-preserved c =
    let k = c.in-Some.key.now in
    let t = c.in-Some.table.now in
    let rest = c.next.new.self in
    let done = c.loop-key.records.items in
    ap (λ xs. xs ++ stripes_records (listed (flat rest))) (c.in_ok-put_table.ensures
    ∙ ap (λ (m : BTreeMap _ _). done ++ stripes_records (listed (placed k m.entries))) c.stripes.ensures)
    ∙ append_assoc done (stripes_records (listed (placed k t.stripes.entries))) (stripes_records (listed (flat rest)))
    ∙ ap (λ xs. done ++ xs) (sym (records-view (k, t) rest))
    ∙ ap (λ (es : List (ViewKey × ViewTable)). done ++ stripes_records (listed (flat es))) (sym c.in-Some.ensures.steps)
    ∙ c.loop-key.invariant

pub returns : goal.returns
unfolding flat
returns c =
    let done = c.loop-key.records.items in
    sym (append-nil done) ∙ ap (λ xs. done ++ xs) (sym stripes_none)
    ∙ ap (λ (es : List (ViewKey × ViewTable)). done ++ stripes_records (listed (flat es))) (sym c.in-None.ensures.steps.0)
    ∙ c.loop-key.invariant
