-- A walk along a stripe's versions: the operations that made or read a version, by the version's stamp, each at the greatest
-- begin so far.
use Rattle.std.specs.Prelude.{ℕ, max, nat_lt, Bool, true, false, ◌&&◌, ◌||◌, List, [], ◌∷◌, Option, Some, None}
use Rattle.fab_base.specs.Stamps.{stamp_below, stamp_same}
use Rattle.reg_model.specs.declared.marks.Mark.{Mark}
use Rattle.reg_model.specs.declared.marks.Happening.{Happening}
use Rattle.reg_model.specs.declared.entries.Entry.{Entry}
use Rattle.reg_model.specs.Marks.{Life, life_of, end_of}

-- of one version, a maker is before a reader, and among makers or readers the smaller operation is first
abbrev pub turn_below : Bool → ℕ → Bool → ℕ → Bool
turn_below false k false n = nat_lt k n
turn_below false k true n = true
turn_below true k false n = false
turn_below true k true n = nat_lt k n

-- a is before b: by stamp, then the maker before the readers, then by operation
unfoldable pub entry_below : Entry → Entry → Bool
entry_below a b =
    stamp_below a.stamp b.stamp || (stamp_same a.stamp b.stamp && turn_below a.reader a.operation b.reader b.operation)

-- where an operation begins
abbrev pub begin_of : Option Life → ℕ
begin_of None = 0
begin_of (Some life) = life.begin

-- the last position at which an operation may happen
abbrev pub last_of : Option Life → ℕ
last_of None = 0
last_of (Some life) = end_of life.ending

-- each entry's operation happens at the greatest begin so far, p or one of those up to its own
abbrev pub positioned : List Mark → ℕ → List Entry → List Happening
positioned marks p [] = []
positioned marks p (e ∷ entries) =
    let position = max p (begin_of (life_of marks e.operation)) in
    record { operation = e.operation; position = position } ∷ positioned marks position entries
