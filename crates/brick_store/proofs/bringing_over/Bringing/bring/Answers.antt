-- The block of the record moves.
use Rattle.std.proofs.Common.{Result, Ok, Err, OnOk, sym, subst}
use Rattle.brick_state.specs.declared.records.Record.{Record}
use Rattle.brick_state.specs.declared.records.Record.TheVariants as forms
use Rattle.brick_store.specs.BlockTables.{SlotBlocks}
use Rattle.brick_store.specs.MovingBlocks.{AreMoved}
use Rattle.brick_store.specs.Renumbering.{given_by, given_by_record, number_in}
use Rattle.brick_store.specs.Standing.{IsCached}
use Rattle.brick_store.proofs.bringing_over.Bringing.bring.Goals as goal

pub returns-in_ok-logged-in-Logged-clause-moved : goal.returns-in_ok-logged-in-Logged-clause-moved
returns-in_ok-logged-in-Logged-clause-moved c = on_ok c.put-in-Logged.result (λ size before given are moved cached_one.
    let held : IsCached size before (number_in (forms.Logged c.in-Logged.logged)) = subst (λ (r : Record). IsCached size before (number_in r)) c.in-Logged.is cached_one in
    let now = c.in_ok-logged-in-Logged.ensures.moved size before given are moved held in
    subst (λ (r : Record). AreMoved size before (given_by_record r given) c.take_block.new.self.held c.put-in-Logged.new.self.blocks) (sym c.in-Logged.is)
    (subst (λ (blocks : SlotBlocks). AreMoved size before (given_by c.in-Logged.logged.change given) c.take_block.new.self.held blocks)
    (sym c.put-in-Logged.ensures.blocks) now))
  where
    on_ok : {E P : Type 0} (r : Result (Unit {0}) E) → P → OnOk r P
    on_ok (Ok value) is = is
    on_ok (Err fault) is = tt
