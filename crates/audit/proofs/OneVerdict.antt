-- Of a text one thing is found.
use Rattle.std.proofs.Common.{◌≡◌, ℕ, ◌<◌, ◌≤◌, ◌⊎◌, ⊎_elim, List, inl, inr, refl, sym, ap, ◌∙◌, arith}
use Rattle.std.proofs.lemmas.Bool.{cases_lt}
use Rattle.fab_base.specs.Layouts.{Layout}
use Rattle.reg_model.specs.declared.marks.Mark.{Mark}
use Rattle.transcript.specs.declared.claims.Counts.{Counts}
use Rattle.transcript.specs.declared.claims.StripeLine.{StripeLine}
use Rattle.transcript.specs.declared.readings.Text.{Text}
use Rattle.transcript.specs.declared.readings.Text.TheVariants.{Whole, BadLine, TooManyLines}
use Rattle.transcript.specs.Marks.{marks_of}
use Rattle.audit.specs.declared.findings.Finding.{Finding}
use Rattle.audit.specs.declared.findings.Finding.TheVariants.{Sound, BadMarks, BadStripe, BadCount}
use Rattle.audit.specs.declared.examining.AuditResult.{AuditResult}
use Rattle.audit.specs.declared.examining.AuditResult.TheVariants.{Judged, BadForm, TooMany}
use Rattle.audit.specs.Checks.{IsBefore, IsFirstBad, StripesHold, Finds}
use Rattle.audit.specs.Examining.{Examines}

-- of two stripes, neither of which is before the other, the numbers are equal
same_stripe : (g s h t : ℕ) → (IsBefore g s h t → ⊥) → (IsBefore h t g s → ⊥) → (h ≡ g) × (t ≡ s)
same_stripe g s h t one other =
    let group : h ≡ g = ⊎_elim (λ (lt : g < h). absurd (one (inl lt)))
    (λ (le : h ≤ g). ⊎_elim (λ (lt : h < g). absurd (other (inl lt))) (λ (le' : g ≤ h). omega arith) (cases_lt h g)) (cases_lt g h) in
    let stripe : t ≡ s = ⊎_elim (λ (lt : s < t). absurd (one (inr (sym group, lt))))
    (λ (le : t ≤ s). ⊎_elim (λ (lt : t < s). absurd (other (inr (group, lt)))) (λ (le' : s ≤ t). omega arith) (cases_lt t s)) (cases_lt s t) in
    (group, stripe)

-- one stripe is the first whose happenings do not hold
first_alone : (layout : Layout) (marks : List Mark) (lines : List StripeLine) (g s h t : ℕ) → IsFirstBad layout marks lines g s
    → IsFirstBad layout marks lines h t → BadStripe h t ≡ BadStripe g s
first_alone layout marks lines g s h t one other =
    let same = same_stripe g s h t (λ b. one.fails (other.before g s b one.named)) (λ b. other.fails (one.before h t b other.named)) in
    ap (λ (x : ℕ). BadStripe x t) same.0 ∙ ap (λ (x : ℕ). BadStripe g x) same.1

-- one stripe is bad where all hold
none_bad : (layout : Layout) (marks : List Mark) (lines : List StripeLine) (g s : ℕ) → StripesHold layout marks lines
    → IsFirstBad layout marks lines g s → ⊥
none_bad layout marks lines g s all bad = bad.fails (all g s bad.named)

finding_alone : (layout : Layout) (marks : List Mark) (lines : List StripeLine) (counts : Counts) (one other : Finding)
    → Finds layout marks lines counts one → Finds layout marks lines counts other → other ≡ one
finding_alone layout marks lines counts Sound Sound p q = refl
finding_alone layout marks lines counts Sound BadMarks p q = absurd (q p.0)
finding_alone layout marks lines counts Sound (BadStripe h t) p q = absurd (none_bad layout marks lines h t p.1 q.1)
finding_alone layout marks lines counts Sound BadCount p q = absurd (q.2 p.2)
finding_alone layout marks lines counts BadMarks Sound p q = absurd (p q.0)
finding_alone layout marks lines counts BadMarks BadMarks p q = refl
finding_alone layout marks lines counts BadMarks (BadStripe h t) p q = absurd (p q.0)
finding_alone layout marks lines counts BadMarks BadCount p q = absurd (p q.0)
finding_alone layout marks lines counts (BadStripe g s) Sound p q = absurd (none_bad layout marks lines g s q.1 p.1)
finding_alone layout marks lines counts (BadStripe g s) BadMarks p q = absurd (q p.0)
finding_alone layout marks lines counts (BadStripe g s) (BadStripe h t) p q = first_alone layout marks lines g s h t p.1 q.1
finding_alone layout marks lines counts (BadStripe g s) BadCount p q = absurd (none_bad layout marks lines g s q.1 p.1)
finding_alone layout marks lines counts BadCount Sound p q = absurd (p.2 q.2)
finding_alone layout marks lines counts BadCount BadMarks p q = absurd (q p.0)
finding_alone layout marks lines counts BadCount (BadStripe h t) p q = absurd (none_bad layout marks lines h t p.1 q.1)
finding_alone layout marks lines counts BadCount BadCount p q = refl

-- what is found of a text is found alone
pub verdict_alone : (layout : Layout) (text : Text) (one other : AuditResult) → Examines layout text one → Examines layout text other → other ≡ one
verdict_alone layout (Whole said counts) (Judged one) (Judged other) p q =
    ap (λ (f : Finding). Judged f) (finding_alone layout (marks_of said.claims) said.stripes counts one other p q)
verdict_alone layout (Whole said counts) (Judged one) (BadForm other) p q = absurd q
verdict_alone layout (Whole said counts) (Judged one) TooMany p q = absurd q
verdict_alone layout (Whole said counts) (BadForm one) other p q = absurd p
verdict_alone layout (Whole said counts) TooMany other p q = absurd p
verdict_alone layout (BadLine n) (BadForm one) (BadForm other) p q = ap (λ (k : ℕ). BadForm k) (q ∙ sym p)
verdict_alone layout (BadLine n) (BadForm one) (Judged other) p q = absurd q
verdict_alone layout (BadLine n) (BadForm one) TooMany p q = absurd q
verdict_alone layout (BadLine n) (Judged one) other p q = absurd p
verdict_alone layout (BadLine n) TooMany other p q = absurd p
verdict_alone layout TooManyLines TooMany TooMany p q = refl
verdict_alone layout TooManyLines TooMany (Judged other) p q = absurd q
verdict_alone layout TooManyLines TooMany (BadForm other) p q = absurd q
verdict_alone layout TooManyLines (Judged one) other p q = absurd p
verdict_alone layout TooManyLines (BadForm one) other p q = absurd p
