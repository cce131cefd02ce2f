-- What an operation stores or writes, and when.
use Rattle.std.proofs.Common.{◌≡◌, ◌*◌, ℕ, List, length, Option, Some, None, refl, subst, sym}
use Rattle.std.specs.Prelude.{true, IsSome}
use Rattle.std.proofs.lemmas.Bool.{false≢true}
use Rattle.std.specs.List.{list_all}
use Rattle.fab_base.specs.declared.stamps.Stamp.{Stamp}
use Rattle.fab_base.specs.declared.asks.Op.{Op}
use Rattle.protocol.specs.declared.phases.Phase.{Phase}
use Rattle.protocol.specs.declared.phases.Phase.TheVariants.{Orders, OrdersAt, Stores}
use Rattle.protocol.specs.Coordinators.{answers_phase, block_written, bytes_at, common_version_at}
use Rattle.coord_phase.specs.Operations.{Operation, StoresBlocks, IsInPhase}
use Rattle.coord_phase.proofs.FastReads.{common_at}
use Rattle.coord_phase.proofs.Pieces.{told_at_seat}

-- m blocks may be what it stores in each phase
pub stores_blocks : (block m : ℕ) (op : Op) (before content : List ℕ) (phase : Phase) → length content ≡ m * block
    → StoresBlocks block m op before phase → StoresBlocks block m op content phase
stores_blocks block m op before content Orders long is = long
stores_blocks block m op before content (OrdersAt j) long is = is
stores_blocks block m op before content Stores long is = long
stores_blocks block m op before content phase long is = tt

-- and what its data block changes by may be so where it orders to write that
pub stores_change : (block m : ℕ) (op : Op) (before content : List ℕ) (phase : Phase) (j : ℕ) → phase ≡ OrdersAt j
    → StoresBlocks block m op before phase → StoresBlocks block m op content phase
stores_change block m op before content phase j orders is =
    subst (λ (z : Phase). StoresBlocks block m op content z) (sym orders)
    (let z : StoresBlocks block m op before (OrdersAt j) = subst (λ (z : Phase). StoresBlocks block m op before z) orders is in z)

-- what it is to write there is a block
pub written_block : (block m : ℕ) (op : Op) (content : List ℕ) (phase : Phase) (j : ℕ) → phase ≡ OrdersAt j → StoresBlocks block m op content phase
    → length (block_written op) ≡ block
written_block block m op content phase j orders is = subst (λ (z : Phase). StoresBlocks block m op content z) orders is

-- and so is what the data block's seat tells of a version that all find
pub told_block : (op : Operation) (j : ℕ) → IsInPhase op.block op.state → op.state.phase ≡ OrdersAt j → IsSome (common_version_at j op.state.counted)
    → length (bytes_at j op.state.counted) ≡ op.block
told_block op j is orders = told (common_version_at j op.state.counted) refl
  where
    answers : list_all (λ c. answers_phase op.block op.state.stamp c.seat (OrdersAt j) c.reply) op.state.counted ≡ true
    answers = subst (λ (z : Phase). list_all (λ c. answers_phase op.block op.state.stamp c.seat z c.reply) op.state.counted ≡ true) orders is.answers

    told : (common : Option Stamp) → common_version_at j op.state.counted ≡ common → IsSome common → length (bytes_at j op.state.counted) ≡ op.block
    told None same some = absurd (false≢true some)
    told (Some v) same some =
        let found = common_at j op.state.counted v same in told_at_seat op.block op.state.stamp v j op.state.counted answers found.0 found.1
