-- What must be known of a stripe's versions so that the happenings of a walk along them are strict (Aguilera and Frølund 2003): a
-- record of facts, which speaks of stamps and contents and of no message.
use Rattle.std.specs.Prelude.{◌≡◌, ℕ, ◌≤◌, ◌<◌, eqb, Bool, true, false, ◌⊎◌, List, length, slice_index_or, Option, Some, None, map, All, Any, Contains}
use Rattle.std.specs.List.{IsDistinct}
use Rattle.std.specs.List.Sorted.{IsSortedBy}
use Rattle.fab_base.specs.declared.asks.Op.{Op}
use Rattle.fab_base.specs.declared.asks.Op.TheVariants.{ReadBlock, WriteBlock, ReadStripe, WriteStripe}
use Rattle.fab_base.specs.declared.stamps.Stamp.{Stamp}
use Rattle.fab_base.specs.Stamps.{first_stamp}
use Rattle.reg_model.specs.declared.marks.Mark.{Mark}
use Rattle.reg_model.specs.declared.entries.Entry.{Entry}
use Rattle.reg_model.specs.Marks.{Life, life_of}
use Rattle.reg_model.specs.Registers.{zero_registers}
use Rattle.reg_model.specs.Strict.{ReadsRight, WasAnswered, after_life}
use Rattle.reg_model.specs.Walk.{entry_below, begin_of, last_of}
use Rattle.reg_model.proofs.Bases.{Ascends, EachNext}

-- an operation that changes nothing
abbrev pub OnlyReads : Op → Type 0
OnlyReads (ReadBlock j) = Unit {0}
OnlyReads (WriteBlock j bytes) = ⊥
OnlyReads ReadStripe = Unit {0}
OnlyReads (WriteStripe bytes) = ⊥

-- An operation that has begun makes or reads the version of this content: what it was answered, if it read, is right for the
-- content; and a reader only reads. What a maker changes is said where its version follows another.
abbrev pub HasTurn : ℕ → List ℕ → Bool → Option Life → Type 0
HasTurn block content reader None = ⊥
HasTurn block content false (Some life) = ReadsRight block content (Some life)
HasTurn block content true (Some life) = OnlyReads life.ask.op × ReadsRight block content (Some life)

-- the entry is the maker of the stamp's version
abbrev pub IsMaker : Stamp → Entry → Type 0
IsMaker stamp e = (e.reader ≡ false) × (e.stamp ≡ stamp)

-- among the entries stands a maker of the stamp's version
abbrev pub IsMade : List Entry → Stamp → Type 0
IsMade entries stamp = Any (IsMaker stamp) entries

-- v's maker stands among the entries, and turns the content of u into that of v: a write of the whole stripe, whatever u holds; a
-- write of one block on base u; or a read that changes nothing, and wrote back under its own stamp what it recovered
-- (Frølund et al. 2004)
abbrev pub IsMadeFrom : ℕ → List Mark → (Stamp → List ℕ) → List Entry → Stamp → Stamp → Type 0
IsMadeFrom block marks content entries u v =
    Any (λ e. IsMaker v e × (content v ≡ after_life block (content u) (life_of marks e.operation))) entries

-- no maker of v stands among the entries, and v has the content of u: a recovery that answered nobody wrote it back
abbrev pub IsWrittenBack : (Stamp → List ℕ) → List Entry → Stamp → Stamp → Type 0
IsWrittenBack content entries u v = (IsMade entries v → ⊥) × (content v ≡ content u)

-- how version v came from the version before it, u
abbrev pub Follows : ℕ → List Mark → (Stamp → List ℕ) → List Entry → Stamp → Stamp → Type 0
Follows block marks content entries u v = IsMadeFrom block marks content entries u v ⊎ IsWrittenBack content entries u v

-- an entry is of one of the versions, or reads the first one
abbrev pub IsOfVersion : List Stamp → Entry → Type 0
IsOfVersion versions e = Contains versions e.stamp ⊎ ((e.stamp ≡ first_stamp) × (e.reader ≡ true))

-- What makes a walk's happenings strict. The entries ascend, and no operation stands twice. The versions rise, each entry is of one
-- of them or reads the first, and a version has at most one maker. Each operation has begun, and its answer is right for its version's
-- content. The first version is zero, and each other one follows the one before it. Every answered operation stands there. In real
-- time, no operation that began after the end of another stands before it.
pub record WalkFacts (m block : ℕ) (marks : List Mark) (content : Stamp → List ℕ) (versions : List Stamp) (entries : List Entry) : Type 0 where
  pub ascending : IsSortedBy entry_below entries
  pub once : IsDistinct eqb (map (λ e. e.operation) entries)
  pub versions_ascend : Ascends versions
  pub of_versions : All (IsOfVersion versions) entries
  pub one_maker : (stamp : Stamp) (a b : Entry) → Contains entries a → Contains entries b → IsMaker stamp a → IsMaker stamp b
      → a.operation ≡ b.operation
  pub turns : All (λ e. HasTurn block (content e.stamp) e.reader (life_of marks e.operation)) entries
  pub first_is_zero : content first_stamp ≡ zero_registers m block
  pub each_follows : EachNext (Follows block marks content entries) versions
  pub answered_stand : (n : ℕ) → WasAnswered (life_of marks n) → Contains (map (λ e. e.operation) entries) n
  pub real_time : (i j : ℕ) (d : Entry) → i ≤ j → j < length entries
      → begin_of (life_of marks (slice_index_or entries i d).operation) ≤ last_of (life_of marks (slice_index_or entries j d).operation)
