-- What is kept of marks that hold.
use Rattle.std.specs.Prelude.{◌≡◌, ℕ, ◌≤◌, List, length, take}
use Rattle.fab_base.specs.Layouts.{Layout}
use Rattle.reg_model.specs.Marks.{stripe_marks}
use Rattle.transcript.specs.declared.claims.ParsedMark.{ParsedMark}
use Rattle.transcript.specs.Marks.{marks_of}
use Rattle.audit.specs.declared.lasts.LastMarks.{LastMarks}
use Rattle.audit.specs.declared.reviews.Review.{Review}
use Rattle.audit.specs.Checks.{MarksHold}
use Rattle.audit.specs.Operations.{Index, Shows}
use Rattle.audit.specs.Lasts.{past_behind, last_at}

-- The first i marks hold, and this is kept of them: the life of each operation, and one past the last mark of each stripe.
pub record Reviewed (layout : Layout) (claims : List ParsedMark) (i : ℕ) (index : Index) (lasts : LastMarks) : Type 0 where
  pub hold : MarksHold layout (marks_of (take i claims))
  pub shows : Shows claims (marks_of (take i claims)) i index
  pub bricks : length index.crashes ≡ layout.bricks
  pub lasts_are : (g s : ℕ) → past_behind 0 (stripe_marks g s (marks_of (take i claims))) ≡ last_at lasts g s
  pub low : (g s : ℕ) → last_at lasts g s ≤ i

-- all marks hold, and this is kept of them
abbrev pub Reviews : Layout → List ParsedMark → Review → Type 0
Reviews layout claims review = Reviewed layout claims (length claims) review.operations review.lasts
