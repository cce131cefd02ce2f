-- The stripes of a text, one after another: those whose happenings are said, and then the answered operations that did not happen.
use Rattle.std.specs.Prelude.{◌≡◌, ℕ, zero, suc, ◌-◌, ◌<◌, nat_eq, nat_lt, ◌&&◌, ◌||◌, not, Bool, true, false, if◌then◌else◌, List, [], ◌∷◌, replicate, slice_set, ⊤, Option, Some, None}
use Rattle.fab_base.specs.Layouts.{Layout, Group, group_of}
use Rattle.reg_model.specs.declared.marks.Happening.{Happening}
use Rattle.reg_model.specs.Marks.{Life}
use Rattle.reg_model.specs.Registers.{zero_registers}
use Rattle.transcript.specs.declared.claims.ParsedMark.{ParsedMark}
use Rattle.transcript.specs.declared.claims.ParsedAnswer.{ParsedAnswer}
use Rattle.transcript.specs.declared.claims.ParsedAnswer.TheVariants.{Data, Done, Aborted}
use Rattle.transcript.specs.declared.claims.StripeLine.{StripeLine}
use Rattle.audit.specs.declared.operations.Operation.{Operation}
use Rattle.audit.specs.declared.reviews.Review.{Review}
use Rattle.audit.specs.declared.sweeps.StripeName.{StripeName}
use Rattle.audit.specs.Operations.{outcome_at}
use Rattle.audit.specs.Walks.{life_among, GoOn, walk_from}
use Rattle.audit.specs.Lasts.{last_at}

-- which operations have happened, once these have
abbrev pub happened_along : List Bool → List Happening → List Bool
happened_along happened [] = happened
happened_along happened (h ∷ happenings) = happened_along (slice_set happened (h.operation - 1) true) happenings

-- the lives of a stripe's operations
abbrev pub lives_at : List ParsedMark → Review → ℕ → ℕ → ℕ → Option Life
lives_at claims review g s n = life_among claims review.operations (last_at review.lasts g s) g s n

-- the happenings said of a stripe go on, from zero, in a group that has the stripe
abbrev pub GoesIn : Option Group → ℕ → (ℕ → Option Life) → List Bool → ℕ → List Happening → Type 0
GoesIn None block lives happened s happenings = ⊥
GoesIn (Some group) block lives happened s happenings =
    (s < group.stripes) × GoOn block lives (walk_from happened (zero_registers group.m block)) happenings

abbrev pub LineGoes : Layout → List ParsedMark → Review → List Bool → StripeLine → Type 0
LineGoes layout claims review happened line =
    GoesIn (group_of layout line.group) layout.block (lives_at claims review line.group line.stripe) happened line.stripe line.happenings

-- whether a line goes on was answered, and which operations have happened then
abbrev pub AnswersLine : Layout → List ParsedMark → Review → List Bool → List Bool → StripeLine → Bool → Type 0
AnswersLine layout claims review old new line true = LineGoes layout claims review old line × (new ≡ happened_along old line.happenings)
AnswersLine layout claims review old new line false = LineGoes layout claims review old line → ⊥

-- all lines go on
abbrev pub LinesGo : Layout → List ParsedMark → Review → List Bool → List StripeLine → Type 0
LinesGo layout claims review happened [] = ⊤
LinesGo layout claims review happened (line ∷ lines) =
    LineGoes layout claims review happened line × LinesGo layout claims review (happened_along happened line.happenings) lines

-- the line at a place is the first that does not go on
abbrev pub StopsAt : Layout → List ParsedMark → Review → List Bool → List StripeLine → ℕ → Type 0
StopsAt layout claims review happened [] k = ⊥
StopsAt layout claims review happened (line ∷ lines) zero = LineGoes layout claims review happened line → ⊥
StopsAt layout claims review happened (line ∷ lines) (suc k) =
    LineGoes layout claims review happened line × StopsAt layout claims review (happened_along happened line.happenings) lines k

abbrev pub LinesStop : Layout → List ParsedMark → Review → List Bool → List StripeLine → Option ℕ → Type 0
LinesStop layout claims review happened lines None = LinesGo layout claims review happened lines
LinesStop layout claims review happened lines (Some k) = StopsAt layout claims review happened lines k

-- which operations have happened along lines
abbrev pub happened_in : List Bool → List StripeLine → List Bool
happened_in happened [] = happened
happened_in happened (line ∷ lines) = happened_in (happened_along happened line.happenings) lines

-- no operation has happened, of so many
abbrev pub none_happened : ℕ → List Bool
none_happened count = replicate count false

-- an answer that is no abort
abbrev pub says_answer : ParsedAnswer → Bool
says_answer (Data bytes) = true
says_answer Done = true
says_answer (Aborted reason) = false

abbrev pub was_answered : List ParsedMark → Option ℕ → Bool
was_answered claims None = false
was_answered claims (Some p) = says_answer (outcome_at claims p)

-- an operation was answered and has not happened
abbrev pub is_missing : List ParsedMark → Operation → Bool → Bool
is_missing claims o happened = not happened && was_answered claims o.end

-- one stripe is before another, by group and then by number
abbrev pub name_before : StripeName → StripeName → Bool
name_before a b = nat_lt a.group b.group || (nat_eq a.group b.group && nat_lt a.stripe b.stripe)

-- the earlier of two stripes
abbrev pub earlier : Option StripeName → StripeName → Option StripeName
earlier None name = Some name
earlier (Some first) name = if name_before name first then Some name else Some first

-- the earlier of this stripe, where there is one, and that of an operation, where it is missing
abbrev pub with_missing : List ParsedMark → Operation → Bool → Option StripeName → Option StripeName
with_missing claims o happened first =
    if is_missing claims o happened then earlier first (record { group = o.group; stripe = o.stripe }) else first

-- the first of this stripe, where there is one, and the stripes of operations that are missing
abbrev pub first_missing : List ParsedMark → List Operation → List Bool → Option StripeName → Option StripeName
first_missing claims [] happened first = first
first_missing claims (o ∷ operations) [] first = first
first_missing claims (o ∷ operations) (b ∷ happened) first = first_missing claims operations happened (with_missing claims o b first)

-- the stripe of a line
abbrev pub name_of : StripeLine → StripeName
name_of line = record { group = line.group; stripe = line.stripe }
