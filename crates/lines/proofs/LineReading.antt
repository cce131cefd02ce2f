-- What was read to answer the question for the next line.
use Rattle.std.proofs.Common.{◌≡◌, ℕ, ◌≤◌, List, [], ◌++◌, length, Option, None, Result, Ok, Err, IsErr, inl, inr, refl, sym, ap, ◌∙◌, subst, arith, append_assoc, append-nil, take, take-append-drop}
use Rattle.std.specs.List.{position}
use Rattle.std.specs.Str.Lines.{strip_carriage_return}
use Rattle.std.specs.Io.KnownBytes.{Keeps, Consumes}
use Rattle.lines.specs.Lines.{is_line_feed}
use Rattle.std.proofs.KnownBytes.{Consumes-nil, Consumes-trans, Consumes-kept}
use Rattle.fab_base.specs.declared.faults.IoFault.{IoFault}
use Rattle.fab_base.specs.declared.faults.IoFault.TheVariants.{Failed}
use Rattle.lines.specs.Reading.{IsBegun, IsNeeded, taken_by, LineReads}
use Rattle.lines.specs.LineReader.{Takes, TakesLast, Fills}
use Rattle.lines.specs.declared.reader.NextLine.{NextLine}
use Rattle.lines.specs.declared.reader.NextLine.TheVariants.{Whole, Last, Long, Ended}

-- nothing was read
pub Fills-none : (bytes : List ℕ) (told told_after : Option (List ℕ)) (came : ℕ) → Keeps told told_after → Fills bytes bytes told told_after came
Fills-none bytes told told_after came kept =
    ([], Consumes-kept told told told_after [] (Consumes-nil told) kept, sym (append-nil bytes), omega arith)

-- bytes without a line feed that are within the limit
pub begun_of : (limit : ℕ) (bytes seen front : List ℕ) → position is_line_feed bytes ≡ None → front ≡ strip_carriage_return seen → seen ≡ bytes
    → length front ≤ limit → IsBegun limit bytes
begun_of limit bytes seen front none is same within =
    (none, subst (λ (l : List ℕ). length l ≤ limit) (is ∙ ap strip_carriage_return same) within)

-- what was read so far, before an answer is known
abbrev pub HasRead : ℕ → List ℕ → List ℕ → Option (List ℕ) → Option (List ℕ) → ℕ → Type 0 → Type 0
HasRead limit old new told told_after came untouched =
    (read : List ℕ) × Consumes told told_after read × (new ≡ old ++ read) × IsNeeded (IsBegun limit) old read came untouched

pub HasRead-start : (limit : ℕ) (bytes : List ℕ) (told : Option (List ℕ)) (came : ℕ) (untouched : Type 0) → untouched
    → HasRead limit bytes bytes told told came untouched
HasRead-start limit bytes told came untouched same = ([], Consumes-nil told, sym (append-nil bytes), inl (refl, same))

-- once more was read, while what was at hand was of a line that was begun
pub HasRead-filled : (limit : ℕ) (old mid new : List ℕ) (a b c : Option (List ℕ)) (came now : ℕ) (first then : Type 0)
    → HasRead limit old mid a b came first → IsBegun limit mid → Fills mid new b c now → HasRead limit old new a c now then
HasRead-filled limit old mid new a b c came now first then (read, consumed, is, needed) begun (bytes, more, grown, within) = (
  read ++ bytes,
  Consumes-trans a b c read bytes consumed more,
  grown ∙ ap (λ (l : List ℕ). l ++ bytes) is ∙ append_assoc old read bytes,
  inr (read, bytes, refl, within, subst (IsBegun limit) is begun),
)

-- where so many bytes are taken
pub reads_of : (limit : ℕ) (old mid new : List ℕ) (a b : Option (List ℕ)) (came : ℕ) (untouched : Type 0) (taken : List ℕ) (failed : Type 0)
    → HasRead limit old mid a b came untouched → mid ≡ taken ++ new → (failed → IsBegun limit new)
    → LineReads limit old new a b came untouched taken failed
reads_of limit old mid new a b came untouched taken failed (read, consumed, is, needed) split begun =
    record { read = read; consumes = consumed; bytes = sym is ∙ split; needed = needed; begun = begun }

-- an error, where what is at hand is of a line that was begun
pub reads_err : (limit : ℕ) (old new : List ℕ) (a b : Option (List ℕ)) (came : ℕ) (untouched : Type 0) (answer : Result NextLine IoFault) → IsErr answer
    → HasRead limit old new a b came untouched → IsBegun limit new
    → LineReads limit old new a b came untouched (taken_by answer) (answer ≡ Err Failed)
reads_err limit old new a b came untouched (Ok piece) is read begun = cc
reads_err limit old new a b came untouched (Err fault) is read begun =
    reads_of limit old new new a b came untouched [] (Err fault ≡ Err Failed) read refl (λ _. begun)

-- what is taken, and what is left behind it
pub taken_bytes : (limit len : ℕ) (old new : List ℕ) (piece : NextLine) → Takes limit len old new piece → old ≡ taken_by {E = IoFault} (Ok piece) ++ new
taken_bytes limit len old new (Whole line) (is, left, short) =
    sym (ap (λ (l : List ℕ). l ++ new) is ∙ ap (λ (l : List ℕ). take len old ++ l) left ∙ take-append-drop len old)
taken_bytes limit len old new (Last line) t = absurd t
taken_bytes limit len old new Long (same, over) = sym same
taken_bytes limit len old new Ended t = absurd t

pub last_bytes : (limit : ℕ) (old new : List ℕ) (piece : NextLine) → TakesLast limit old new piece → old ≡ taken_by {E = IoFault} (Ok piece) ++ new
last_bytes limit old new (Whole line) t = absurd t
last_bytes limit old new (Last line) (some, is, left, short) = sym (ap (λ (l : List ℕ). line ++ l) left ∙ append-nil line ∙ is)
last_bytes limit old new Long (some, same, over) = sym same
last_bytes limit old new Ended (none, left) = none ∙ sym left
