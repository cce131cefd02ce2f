-- Which happenings are told of a stripe. A version is effective where an answered operation made it, or a
-- read answered it at once, or where it is the base of an effective version. Effective versions are walked by
-- rising stamp: the maker, where it is a write, or a read that was answered; then the reads that answered it
-- at once, by number; each at the greatest begin so far.
use Rattle.std.specs.Prelude.{ℕ, zero, suc, Bool, true, false, not, nat_eq, nat_lt, ◌&&◌, ◌||◌, if◌then◌else◌, List, [], ◌∷◌, ◌++◌, Option, Some, None, map, option_to_list}
use Rattle.std.specs.List.{list_any}
use Rattle.fab_base.specs.declared.asks.Op.{Op}
use Rattle.fab_base.specs.declared.asks.Op.TheVariants.{ReadBlock, WriteBlock, ReadStripe, WriteStripe}
use Rattle.fab_base.specs.declared.stamps.Stamp.{Stamp}
use Rattle.fab_base.specs.Stamps.{stamp_same}
use Rattle.reg_model.specs.declared.marks.Happening.{Happening}
use Rattle.reg_model.specs.declared.entries.Entry.{Entry}
use Rattle.reg_model.specs.Marks.{stripe_marks}
use Rattle.reg_model.specs.Walk.{entry_below, positioned}
use Rattle.protocol.specs.Worlds.{World, Operation, own_mark}

-- an operation of this stripe
abbrev pub is_of : ℕ → ℕ → Operation → Bool
is_of group stripe o = nat_eq o.ask.group.0 group && nat_eq o.ask.stripe.0 stripe

-- the entry of operation n, where it made or read a version
abbrev pub entry_with : ℕ → Bool → Option Stamp → List Entry
entry_with n reader None = []
entry_with n reader (Some t) = record { stamp = t; reader = reader; operation = n } ∷ []

-- the entry of operation n, where it is of this stripe, and made or read a version
abbrev pub entry_at : ℕ → ℕ → ℕ → Option Operation → List Entry
entry_at group stripe n None = []
entry_at group stripe n (Some o) = if is_of group stripe o then entry_with n (not o.made) o.version else []

-- the entries of the operations 1 to n
abbrev pub entries_to : (ℕ → Option Operation) → ℕ → ℕ → ℕ → List Entry
entries_to operations group stripe zero = []
entries_to operations group stripe (suc n) = entries_to operations group stripe n ++ entry_at group stripe (suc n) (operations (suc n))

-- an operation that has marks: numbers are from 1
abbrev pub is_marked : Operation → Bool
is_marked o = nat_lt 0 o.mark

-- an operation that has marks was answered
abbrev pub was_answered : Option Operation → Bool
was_answered None = false
was_answered (Some o) = is_marked o && o.answered

-- an operation that writes
abbrev pub writes : Op → Bool
writes (ReadBlock j) = false
writes (WriteBlock j bytes) = true
writes ReadStripe = false
writes (WriteStripe bytes) = true

-- an entry's operation, where it was answered or effective, is told: a write, or an answered read, that has marks
abbrev pub is_told : Option Operation → Bool
is_told None = false
is_told (Some o) = is_marked o && (o.answered || writes o.ask.op)

-- the version that an operation's was made on
abbrev pub base_of : Option Operation → Option Stamp
base_of None = None
base_of (Some o) = o.base

-- one of these is this version
abbrev pub is_among : Stamp → List Stamp → Bool
is_among t stamps = list_any (λ u. stamp_same u t) stamps

-- an entry in its place among entries that ascend
abbrev pub inserted : Entry → List Entry → List Entry
inserted e [] = e ∷ []
inserted e (x ∷ entries) = if entry_below e x then e ∷ (x ∷ entries) else x ∷ inserted e entries

abbrev pub ascending : List Entry → List Entry
ascending [] = []
ascending (e ∷ entries) = inserted e (ascending entries)

-- of entries that ascend: those that are told, the versions of those that are effective, and the versions
-- that these make effective
pub record Effect : Type 0 where
  pub told : List Entry
  pub versions : List Stamp
  pub needed : List Stamp

-- the versions that an effective entry makes effective: the one that it reads, or the one that it was made on
abbrev pub needs : Option Operation → Entry → List Stamp
needs operation e = if e.reader then e.stamp ∷ [] else option_to_list (base_of operation)

-- An entry before others that ascend. It is effective where its operation was answered, or where its version
-- is read, or is the base of an effective version, which is above it.
abbrev pub with_entry : Option Operation → Entry → Effect → Effect
with_entry operation e above =
    if was_answered operation || is_among e.stamp above.needed
    then record {
      told = (if is_told operation then e ∷ above.told else above.told);
      versions = e.stamp ∷ above.versions;
      needed = needs operation e ++ above.needed;
    }
    else above

-- the effect of entries that ascend, from the greatest down: a base is below its version, so one sweep finds all
abbrev pub effect_of : (ℕ → Option Operation) → List Entry → Effect
effect_of operations [] = record { told = []; versions = []; needed = [] }
effect_of operations (e ∷ entries) = with_entry (operations e.operation) e (effect_of operations entries)

-- what is effective of a stripe
abbrev pub effect_in : World → ℕ → ℕ → Effect
effect_in w group stripe = effect_of w.operations (ascending (entries_to w.operations group stripe w.begun))

-- an entry by the number of its operation's marks
abbrev pub by_mark : (ℕ → Option Operation) → Entry → Entry
by_mark operations e = record e { operation = own_mark e.operation (operations e.operation) }

-- the walk along a stripe's effective versions, by the numbers of marks
unfoldable pub walk_of : World → ℕ → ℕ → List Entry
walk_of w group stripe = map (by_mark w.operations) (effect_in w group stripe).told

-- the happenings of a stripe
unfoldable pub happenings_of : World → ℕ → ℕ → List Happening
happenings_of w group stripe = positioned (stripe_marks group stripe w.marks) 0 (walk_of w group stripe)
