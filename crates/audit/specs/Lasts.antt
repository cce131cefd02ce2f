-- The last mark of each stripe.
use Rattle.std.specs.Prelude.{ℕ, ◌+◌, ◌-◌, max, nat_eq, ◌&&◌, Bool, true, false, List, [], ◌∷◌, slice_get, Option, Some, None, unwrap_or}
use Rattle.std.specs.declared.cmp.Ordering.{Ordering}
use Rattle.std.specs.Ordering.{nat_cmp, ordering_then}
use Rattle.std.specs.BTreeMap.{get}
use Rattle.reg_model.specs.declared.marks.Mark.{Mark}
use Rattle.reg_model.specs.Marks.{position_of}
use Rattle.transcript.specs.declared.claims.ParsedMark.{ParsedMark}
use Rattle.transcript.specs.declared.claims.ParsedMark.TheVariants.{Begin, End, Crash}
use Rattle.audit.specs.declared.operations.Operation.{Operation}
use Rattle.audit.specs.declared.lasts.LastMarks.{LastMarks}

-- one past the last of some marks, or else past what stood before
abbrev pub past_behind : ℕ → List Mark → ℕ
past_behind past [] = past
past_behind past (mark ∷ marks) = past_behind (position_of mark + 1) marks

-- pairs of numbers compare by the first, and then by the second
abbrev pub pair_cmp : ℕ × ℕ → ℕ × ℕ → Ordering
pair_cmp x y = ordering_then (nat_cmp x.0 y.0) (nat_cmp x.1 y.1)

-- what is kept of one past a stripe's last mark, a crash being one of every stripe
abbrev pub last_at : LastMarks → ℕ → ℕ → ℕ
last_at lasts g s = max (unwrap_or (get pair_cmp lasts.stripes (g, s)) 0) lasts.crash

-- an operation that was found is of a stripe
abbrev pub is_of : ℕ → ℕ → Option Operation → Bool
is_of g s None = false
is_of g s (Some o) = nat_eq o.group g && nat_eq o.stripe s

-- a mark is one of a stripe, by the operations that were found
abbrev pub touches : List Operation → ParsedMark → ℕ → ℕ → Bool
touches found (Begin p n b group stripe access) g s = nat_eq group g && nat_eq stripe s
touches found (End p n outcome) g s = is_of g s (slice_get found (n - 1))
touches found (Crash p b) g s = true
