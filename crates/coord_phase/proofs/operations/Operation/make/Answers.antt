-- What is ready to be stored is m blocks.
use Rattle.std.proofs.Common.{◌≡◌, ℕ, List, ap, sym, subst}
use Rattle.fab_base.specs.declared.asks.Op.{Op}
use Rattle.protocol.specs.declared.phases.Phase.{Phase}
use Rattle.protocol.specs.declared.phases.Phase.TheVariants.{Orders, Stores}
use Rattle.coord_phase.specs.declared.operations.Stage.{Stage}
use Rattle.coord_phase.specs.Operations.{StoresBlocks}
use Rattle.coord_phase.proofs.operations.Operation.make.Goals as goal

ready : (block m : ℕ) (op : Op) (content : List ℕ) (phase next : Phase) → phase ≡ Orders → next ≡ Stores → StoresBlocks block m op content phase
    → StoresBlocks block m op content next
ready block m op content phase next orders stores long =
    subst (λ (z : Phase). StoresBlocks block m op content z) (sym stores)
    (let z : StoresBlocks block m op content Orders = subst (λ (z : Phase). StoresBlocks block m op content z) orders long in z)

pub begin-requires-clause-content : goal.begin-requires-clause-content
begin-requires-clause-content c =
    ready _ _ c.args.self.now.state.ask.op _ _ _ c.requires.orders (ap (λ (stage : Stage). stage.phase) c.next_stage.ensures) c.stored.ensures.long
