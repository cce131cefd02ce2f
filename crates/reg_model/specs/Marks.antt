-- What is seen of a run from outside: which operations begin, how each ends, and which marks are well formed.
-- (Aguilera and Frølund 2003: invocations, responses, aborts and crashes of a history.)
use Rattle.std.specs.Prelude.{◌≡◌, ℕ, ◌+◌, Bool, true, false, nat_eq, ◌&&◌, if◌then◌else◌, List, [], ◌∷◌, Option, Some, None, map, filter, take, slice_get}
use Rattle.std.specs.List.Sorted.{IsStrictlyIncreasing}
use Rattle.fab_base.specs.declared.asks.Ask.{Ask}
use Rattle.fab_base.specs.declared.answers.Answer.{Answer}
use Rattle.reg_model.specs.declared.marks.Mark.{Mark}
use Rattle.reg_model.specs.declared.marks.Mark.TheVariants.{Begin, End, Crash}

-- a mark's place in the list of all marks
abbrev pub position_of : Mark → ℕ
position_of (Begin p n b ask) = p
position_of (End p n answer) = p
position_of (Crash p b) = p

-- what becomes of an operation after its Begin: it is answered, its brick stops, or it is still open
-- one past the last mark
pub data Ending : Type 0 where
  Answered : (position : ℕ) (answer : Answer) → Ending
  Interrupted : (position : ℕ) → Ending
  Unended : (past : ℕ) → Ending

-- of the marks after its Begin, the first that is its End or a Crash of its brick; past is one past the mark before these
abbrev pub ending_of : List Mark → ℕ → ℕ → ℕ → Ending
ending_of [] n brick past = Unended past
ending_of (Begin p k b ask ∷ marks) n brick past = ending_of marks n brick (p + 1)
ending_of (End p k answer ∷ marks) n brick past = if nat_eq k n then Answered p answer else ending_of marks n brick (p + 1)
ending_of (Crash p b ∷ marks) n brick past = if nat_eq b.0 brick then Interrupted p else ending_of marks n brick (p + 1)

-- an operation: where it begins, at which brick, what it asks, and what becomes of it
pub record Life : Type 0 where
  pub begin : ℕ
  pub brick : ℕ
  pub ask : Ask
  pub ending : Ending

-- the life of operation n, if it has begun
abbrev pub life_of : List Mark → ℕ → Option Life
life_of [] n = None
life_of (Begin p k b ask ∷ marks) n =
    if nat_eq k n then Some (record { begin = p; brick = b.0; ask = ask; ending = ending_of marks n b.0 (p + 1) })
    else life_of marks n
life_of (End p k answer ∷ marks) n = life_of marks n
life_of (Crash p b ∷ marks) n = life_of marks n

-- the last position at which an operation may happen
abbrev pub end_of : Ending → ℕ
end_of (Answered p answer) = p
end_of (Interrupted p) = p
end_of (Unended past) = past

-- the operation has begun, and has neither been answered nor interrupted
abbrev pub IsUnended : Ending → Type 0
IsUnended (Answered p answer) = ⊥
IsUnended (Interrupted p) = ⊥
IsUnended (Unended past) = Unit {0}

-- an operation that has begun is unended
abbrev pub IsOpen : Option Life → Type 0
IsOpen None = ⊥
IsOpen (Some life) = IsUnended life.ending

-- the numbers of the operations that begin, in order
abbrev pub begun_numbers : List Mark → List ℕ
begun_numbers [] = []
begun_numbers (Begin p n b ask ∷ marks) = n ∷ begun_numbers marks
begun_numbers (End p n answer ∷ marks) = begun_numbers marks
begun_numbers (Crash p b ∷ marks) = begun_numbers marks

-- Positions rise, operations are numbered in the order of their Begins, and each End is of an operation that is open just
-- before it: so an operation has at most one End, after its Begin and before any later Crash of its brick.
pub record IsWellFormed (marks : List Mark) : Type 0 where
  pub positions_rise : IsStrictlyIncreasing (map position_of marks)
  pub numbers_rise : IsStrictlyIncreasing (begun_numbers marks)
  pub ends_are_of_open : (i p n : ℕ) (answer : Answer) → slice_get marks i ≡ Some (End p n answer)
      → IsOpen (life_of (take i marks) n)

-- what an operation asks is of this stripe
abbrev pub is_of_stripe : ℕ → ℕ → Option Life → Bool
is_of_stripe group stripe None = false
is_of_stripe group stripe (Some life) = nat_eq life.ask.group.0 group && nat_eq life.ask.stripe.0 stripe

-- a mark of this stripe: a Begin or End of one of its operations, or any Crash
abbrev pub concerns : ℕ → ℕ → List Mark → Mark → Bool
concerns group stripe marks (Begin p n b ask) = nat_eq ask.group.0 group && nat_eq ask.stripe.0 stripe
concerns group stripe marks (End p n answer) = is_of_stripe group stripe (life_of marks n)
concerns group stripe marks (Crash p b) = true

-- the marks of a stripe, with their positions unchanged
abbrev pub stripe_marks : ℕ → ℕ → List Mark → List Mark
stripe_marks group stripe marks = filter (concerns group stripe marks) marks
