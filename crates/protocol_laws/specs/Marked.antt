-- What the marks of a run show beside being well formed: words that fit, and no gaps.
use Rattle.std.specs.Prelude.{◌≡◌, ℕ, ◌+◌, ◌*◌, ◌<◌, ◌≤◌, List, length, Option, Some, slice_get}
use Rattle.fab_base.specs.declared.asks.Op.{Op}
use Rattle.fab_base.specs.declared.asks.Op.TheVariants.{ReadBlock, WriteBlock, ReadStripe, WriteStripe}
use Rattle.fab_base.specs.declared.answers.Answer.{Answer}
use Rattle.fab_base.specs.declared.answers.Answer.TheVariants.{Data, Done, Aborted}
use Rattle.fab_base.specs.Layouts.{Layout, Group, group_of}
use Rattle.reg_model.specs.declared.marks.Mark.{Mark}
use Rattle.reg_model.specs.declared.marks.Mark.TheVariants.{End}
use Rattle.protocol.specs.Worlds.{World, Operation}
use Rattle.reg_model.specs.Marks.{Life, life_of, position_of, begun_numbers}

-- An answer has the word of its operation: a read is answered the data of one block, or of m blocks, and a write that it is done. Either may
-- be aborted.
abbrev pub WordFits : ℕ → ℕ → Op → Answer → Type 0
WordFits m block op (Aborted cause) = Unit {0}
WordFits m block (ReadBlock j) (Data bytes) = length bytes ≡ block
WordFits m block ReadStripe (Data bytes) = length bytes ≡ m * block
WordFits m block (WriteBlock j bytes) Done = Unit {0}
WordFits m block (WriteStripe bytes) Done = Unit {0}
WordFits m block op answer = ⊥

-- each End is that of an operation of a group of the layout, and has its word
abbrev pub WordsFit : Layout → List Mark → Type 0
WordsFit layout marks =
    (k p n : ℕ) (answer : Answer) → slice_get marks k ≡ Some (End p n answer)
    → (life : Life) × (group : Group) × (life_of marks n ≡ Some life) × (group_of layout life.ask.group.0 ≡ Some group)
    × WordFits group.m layout.block life.ask.op answer

-- marks are at the positions 0, 1, 2 and so on, and operations are numbered 1, 2, 3 and so on, in the order of their Begins
pub record AreWithoutGaps (marks : List Mark) : Type 0 where
  pub placed : (k : ℕ) (mark : Mark) → slice_get marks k ≡ Some mark → position_of mark ≡ k
  pub numbered : (k n : ℕ) → slice_get (begun_numbers marks) k ≡ Some n → n ≡ k + 1

-- Marks are numbered 1, 2, 3 and so on, in the order in which their operations begin: no operation has a later number than the last Begin; of two that have marks, the one
-- that began first has the lower number; and each number is that of an operation's marks. A read of a synchronisation has none, which is number 0.
pub record AreOwnMarks (marked : ℕ) (operations : ℕ → Option Operation) : Type 0 where
  pub within : (n : ℕ) (o : Operation) → operations n ≡ Some o → o.mark ≤ marked
  pub in_turn : (n m : ℕ) (o p : Operation) → operations n ≡ Some o → operations m ≡ Some p → 1 ≤ o.mark → 1 ≤ p.mark → n < m → o.mark < p.mark
  pub each : (mark : ℕ) → 1 ≤ mark → mark ≤ marked → (n : ℕ) × (o : Operation) × (operations n ≡ Some o) × (o.mark ≡ mark)

-- so in a world
abbrev pub OwnMarks : World → Type 0
OwnMarks w = AreOwnMarks w.marked w.operations
