-- What the operations that a world keeps say of the machine's world: enough to tell the happenings of a
-- stripe.
use Rattle.std.specs.Prelude.{◌≡◌, ℕ, zero, suc, Bool, true, if◌then◌else◌, max, List, [], ◌∷◌, length, reverse, Option, Some, None, option_map, unwrap_or, slice_get}
use Rattle.std.specs.declared.cmp.Ordering.{Ordering}
use Rattle.std.specs.Ordering.{nat_cmp, ordering_then}
use Rattle.std.specs.BTreeMap.{get}
use Rattle.std.specs.BTreeSet.{BTreeSet, contains}
use Rattle.std.specs.List.{All}
use Rattle.fab_base.specs.declared.asks.Op.{Op}
use Rattle.fab_base.specs.declared.asks.Op.TheVariants.{ReadStripe, WriteStripe}
use Rattle.fab_base.specs.Stamps.{first_stamp}
use Rattle.reg_model.specs.declared.entries.Entry.{Entry}
use Rattle.reg_model.specs.declared.marks.Happening.{Happening}
use Rattle.reg_model.specs.declared.marks.Mark.{Mark}
use Rattle.fab_base.specs.declared.stamps.Stamp.{Stamp}
use Rattle.reg_model.specs.Marks.{life_of, stripe_marks}
use Rattle.reg_model.specs.Walk.{begin_of}
use Rattle.protocol.specs.Worlds.{World, Operation, own_mark}
use Rattle.protocol.specs.Happenings.{Effect, is_marked, ascending, effect_of, entries_to, is_among}
use Rattle.world.specs.declared.histories.OperationRecord.{OperationRecord}
use Rattle.world.specs.declared.stripe_entries.StripeEntries.{StripeEntries}
use Rattle.world.specs.declared.walks.Sweep.{Sweep}
use Rattle.world.specs.Shown.{TellsOperations, pair_cmp}

-- these are the operations of a world, number n at place n - 1
pub record KeepsAll (operations : List OperationRecord) (w : World) : Type 0 where
  pub begun : length operations ≡ w.begun
  pub each : TellsOperations operations w.operations

-- each operation that has marks begins where those of its stripe say
pub record BeginsAgree (w : World) : Type 0 where
  pub each : (n : ℕ) (o : Operation) → w.operations n ≡ Some o → is_marked o ≡ true
      → begin_of (life_of (stripe_marks o.ask.group.0 o.ask.stripe.0 w.marks) o.mark) ≡ o.begin

-- an operation on a stripe that writes, or reads
abbrev pub op_that : Bool → Op
op_that writes = if writes then WriteStripe [] else ReadStripe

-- an operation of which no more is known than is kept: what is not kept is filled in
abbrev pub operation_of : OperationRecord → Operation
operation_of kept =
    record {
      brick = kept.brick;
      boot = kept.boot;
      seq = kept.seq;
      begin = kept.begin;
      ask = record { group = kept.group; stripe = kept.stripe; op = op_that kept.writes };
      version = kept.version;
      made = kept.made;
      base = kept.base;
      answered = kept.answered;
      mark = kept.mark;
      closed = None;
      view = 0;
      floor = λ i. first_stamp;
    }

-- the operations that are kept, by number from 1
abbrev pub operations_of : List OperationRecord → ℕ → Option Operation
operations_of operations zero = None
operations_of operations (suc k) = option_map operation_of (slice_get operations k)

-- where an operation begins
abbrev pub begin_at : Option Operation → ℕ
begin_at None = 0
begin_at (Some o) = o.begin

-- each entry's operation begins where its marks say
abbrev pub BeginAsMarked : (ℕ → Option Operation) → List Mark → List Entry → Type 0
BeginAsMarked operations marks entries =
    All (λ (e : Entry). begin_at (operations e.operation) ≡ begin_of (life_of marks (own_mark e.operation (operations e.operation)))) entries

-- each entry's operation happens at the greatest begin so far, p or one of those up to its own; it is told by the number of its marks
abbrev pub placed : (ℕ → Option Operation) → ℕ → List Entry → List Happening
placed operations p [] = []
placed operations p (e ∷ entries) =
    let position = max p (begin_at (operations e.operation)) in
    record { operation = own_mark e.operation (operations e.operation); position = position } ∷ placed operations position entries

-- the happenings that kept operations tell of the entries of a stripe
abbrev pub happenings_from : List OperationRecord → List Entry → List Happening
happenings_from operations entries =
    placed (operations_of operations) 0 (effect_of (operations_of operations) (ascending entries)).told

-- the entries of a stripe among those that were gathered
abbrev pub entries_at : StripeEntries → ℕ → ℕ → List Entry
entries_at gathered g s = unwrap_or (option_map (λ entries. entries.items) (get pair_cmp gathered.entries (g, s))) []

-- the entries that were gathered are those of a world's operations
abbrev pub AreEntriesOf : StripeEntries → World → Type 0
AreEntriesOf gathered w = (g s : ℕ) → entries_at gathered g s ≡ entries_to w.operations g s w.begun

-- stamps compare field by field
abbrev pub stamp_cmp : Stamp → Stamp → Ordering
stamp_cmp a b =
    ordering_then (nat_cmp a.view.0 b.view.0) (ordering_then (nat_cmp a.time b.time)
    (ordering_then (nat_cmp a.brick.0 b.brick.0) (nat_cmp a.boot b.boot)))

-- a set has just these stamps
abbrev pub Holds : BTreeSet Stamp → List Stamp → Type 0
Holds set stamps = (t : Stamp) → contains stamp_cmp set t ≡ is_among t stamps

-- A sweep has come to an effect, from the greatest entry down: it has put each thing that is told behind
-- those of the entries above, and has the versions that are needed.
pub record HasSwept (sweep : Sweep) (effect : Effect) : Type 0 where
  pub told : sweep.told.items ≡ reverse effect.told
  pub needed : Holds sweep.needed effect.needed
