-- What printed lines say together: the marks of a run, then the happenings of its stripes, then its counts.
use Rattle.std.proofs.Common.{◌≡◌, ℕ, zero, suc, ◌+◌, ◌-◌, ◌<◌, ◌≤◌, ◌⊎◌, inl, inr, Bool, true, cond, nat_lt, List, [], ◌∷◌, ◌++◌, length, map, Option, Some, None, refl, sym, ap, ◌∙◌, subst, arith, append_assoc, append-nil, codes, length-append}
use Rattle.std.specs.Prelude.{⊤, slice_get}
use Rattle.std.proofs.lemmas.Bool.{eq-eqb}
use Rattle.std.proofs.lemmas.Bool.Decides.{nat_tests}
use Rattle.fab_base.specs.declared.identities.BrickId.{BrickId}
use Rattle.protocol.specs.declared.tellings.Report.{Report}
use Rattle.reg_model.specs.declared.marks.Mark.{Mark}
use Rattle.reg_model.specs.declared.marks.Mark.TheVariants.{Begin, End, Crash}
use Rattle.reg_model.specs.declared.marks.Happening.{Happening}
use Rattle.reg_model.specs.Marks.{position_of}
use Rattle.transcript.specs.declared.claims.ParsedMark.{ParsedMark}
use Rattle.transcript.specs.declared.claims.Counts.{Counts}
use Rattle.transcript.specs.declared.claims.StripeLine.{StripeLine}
use Rattle.transcript.specs.declared.claims.Entry.{Entry}
use Rattle.transcript.specs.declared.claims.Entry.TheVariants as entry
use Rattle.transcript.specs.declared.readings.Text.TheVariants.{Whole}
use Rattle.transcript.specs.Said.{Transcribed}
use Rattle.transcript.specs.Forms.{entry_of}
use Rattle.transcript.specs.Transcripts.{position_said, stripe_before, is_behind, after_entry, after_line, text_at_line, text_behind, most_lines}
use Rattle.printed.specs.Printed.{Printed, OfMark, OfReport, OfRefusal, OfNothing, printed_text, printed_texts, printed_marks, printed_reports}
use Rattle.fab_base.specs.Texts.{newline}
use Rattle.printed.proofs.LineTexts.{text_of_lines, AreClear}
use Rattle.printed.specs.Spellings.{IsSmall, ReportReads}
use Rattle.printed.proofs.MarkLines.{claim_of, mark_line, mark_ends, mark_piece, mark_back, MarkReads}
use Rattle.printed.proofs.ReportLines.{ReportFits, report_line, report_ends, report_piece, report_back}
use Rattle.printed.proofs.OtherLines.{refusal_line, refusal_ends, refusal_piece, refusal_back, idle_back, AllRead, happened_line, happened_piece, happened_back, counts_line, counts_back, CountsRead}

-- these lines lead from the first n lines, which say so much, to the first m, which say that
abbrev pub Reads : ℕ → Transcribed → List (List ℕ) → ℕ → Transcribed → Type 0
Reads n t lines m u = (more : List (List ℕ)) → text_behind n t (lines ++ more) ≡ text_behind m u more

-- lines, and then others
pub reads_both : (n m k : ℕ) (t u v : Transcribed) (one other : List (List ℕ)) → Reads n t one m u → Reads m u other k v
    → Reads n t (one ++ other) k v
reads_both n m k t u v one other first second more =
    ap (text_behind n t) (append_assoc one other more) ∙ first (other ++ more) ∙ second more

-- a line that there may be
within : (n : ℕ) → n < most_lines → nat_lt n most_lines ≡ true
within n h = grind (arith, nat_tests)

-- one line
pub reads_one : (n : ℕ) (t u : Transcribed) (line : List ℕ) (said : Entry) → n < most_lines → entry_of line ≡ Some said → after_entry t said ≡ Some u
    → Reads n t (line ∷ []) (n + 1) u
unfolding text_behind
reads_one n t u line said few is after more =
    ap (λ (b : Bool). text_at_line n b (after_line t (entry_of line)) (λ next. text_behind (n + 1) next more)) (within n few)
    ∙ ap (λ (e : Option Entry). text_at_line n true (after_line t e) (λ next. text_behind (n + 1) next more)) is
    ∙ ap (λ (o : Option Transcribed). text_at_line n true o (λ next. text_behind (n + 1) next more)) after

-- marks, and other words

-- so much was said by marks alone
abbrev pub of_marks : List ParsedMark → Transcribed
of_marks claims = record { claims = claims; stripes = []; counts = None }

-- a mark is claimed at its position
position_same : (mark : Mark) → position_said (claim_of mark) ≡ position_of mark
position_same (Begin p n b ask) = refl
position_same (End p n answer) = refl
position_same (Crash p b) = refl

-- a mark at its place leads on
mark_after : (claims : List ParsedMark) (mark : Mark) → position_of mark ≡ length claims
    → after_entry (of_marks claims) (entry.Mark (claim_of mark)) ≡ Some (of_marks (claims ++ claim_of mark ∷ []))
unfolding after_entry
mark_after claims mark at =
    ap (λ (b : Bool). cond b (Some (of_marks (claims ++ claim_of mark ∷ []))) None)
    (eq-eqb (position_said (claim_of mark)) (length claims) (position_same mark ∙ at))

-- so does another word
other_after : (claims : List ParsedMark) → after_entry (of_marks claims) entry.Other ≡ Some (of_marks claims)
unfolding after_entry
other_after claims = refl

-- a printed line, without its line feed
abbrev pub printed_line : Printed → List ℕ
printed_line (OfMark mark) = mark_line mark
printed_line (OfReport told) = report_line told.1
printed_line (OfRefusal refusal) = refusal_line refusal
printed_line OfNothing = codes "idle"

-- the printed text is the line and its line feed
printed_end : (one : Printed) → printed_text one ≡ printed_line one ++ newline
printed_end (OfMark mark) = mark_ends mark
printed_end (OfReport told) = report_ends told.1
printed_end (OfRefusal refusal) = refusal_ends refusal
printed_end OfNothing = refl

-- of printed lines
pub printed_lines : (printed : List Printed) → printed_texts printed ≡ text_of_lines (map printed_line printed)
printed_lines [] = refl
printed_lines (one ∷ printed) =
    ap (λ (text : List ℕ). text ++ printed_texts printed) (printed_end one)
    ∙ ap (λ (text : List ℕ). (printed_line one ++ newline) ++ text) (printed_lines printed)

-- each mark reads back, and each is at its place
abbrev pub EachReads : List Mark → Type 0
EachReads [] = ⊤
EachReads (mark ∷ marks) = MarkReads mark × EachReads marks

-- each report reads back
abbrev pub EachReported : List (BrickId × Report) → Type 0
EachReported [] = ⊤
EachReported (told ∷ reports) = (ReportReads told.1 × ReportFits told.1) × EachReported reports

-- each of these marks is at its place, from p
abbrev pub EachPlaced : ℕ → List Mark → Type 0
EachPlaced p [] = ⊤
EachPlaced p (mark ∷ marks) = (position_of mark ≡ p) × EachPlaced (p + 1) marks

-- no byte of a printed line ends one
pub printed_clear : (printed : List Printed) → EachReads (printed_marks printed) → EachReported (printed_reports printed)
    → AreClear (map printed_line printed)
printed_clear [] reads reported = tt
printed_clear (OfMark mark ∷ printed) reads reported = ((mark_piece mark reads.0).clear, printed_clear printed reads.1 reported)
printed_clear (OfReport told ∷ printed) reads reported =
    ((report_piece told.1 reported.0.0 reported.0.1).clear, printed_clear printed reads reported.1)
printed_clear (OfRefusal refusal ∷ printed) reads reported = ((refusal_piece refusal).clear, printed_clear printed reads reported)
printed_clear (OfNothing ∷ printed) reads reported = (refl, printed_clear printed reads reported)

-- Printed lines say their marks.
pub printed_read : (printed : List Printed) (n : ℕ) (claims : List ParsedMark) → n + length printed ≤ most_lines → EachReads (printed_marks printed)
    → EachReported (printed_reports printed) → EachPlaced (length claims) (printed_marks printed)
    → Reads n (of_marks claims) (map printed_line printed) (n + length printed) (of_marks (claims ++ map claim_of (printed_marks printed)))
printed_read [] n claims few reads reported placed more =
    ap (λ (k : ℕ). text_behind k (of_marks claims) more) (let same : n ≡ n + 0 = omega arith in same)
    ∙ ap (λ (l : List ParsedMark). text_behind (n + 0) (of_marks l) more) (sym (append-nil claims))
printed_read (OfMark mark ∷ printed) n claims few reads reported placed more =
    reads_one n (of_marks claims) (of_marks (claims ++ claim_of mark ∷ [])) (mark_line mark) (entry.Mark (claim_of mark)) (omega (arith, few))
    (mark_back mark reads.0) (mark_after claims mark placed.0) (map printed_line printed ++ more)
    ∙ printed_read printed (n + 1) (claims ++ claim_of mark ∷ []) (omega (arith, few)) reads.1 reported
    (subst (λ (k : ℕ). EachPlaced k (printed_marks printed)) (sym (length-append claims (claim_of mark ∷ []))) placed.1) more
    ∙ ap (λ (k : ℕ). text_behind k (of_marks ((claims ++ claim_of mark ∷ []) ++ map claim_of (printed_marks printed))) more)
    (let same : (n + 1) + length printed ≡ n + suc (length printed) = omega arith in same)
    ∙ ap (λ (l : List ParsedMark). text_behind (n + suc (length printed)) (of_marks l) more)
    (append_assoc claims (claim_of mark ∷ []) (map claim_of (printed_marks printed)))
printed_read (OfReport told ∷ printed) n claims few reads reported placed more =
    reads_one n (of_marks claims) (of_marks claims) (report_line told.1) entry.Other (omega (arith, few))
    (report_back told.1 reported.0.0 reported.0.1) (other_after claims) (map printed_line printed ++ more)
    ∙ printed_read printed (n + 1) claims (omega (arith, few)) reads reported.1 placed more
    ∙ ap (λ (k : ℕ). text_behind k (of_marks (claims ++ map claim_of (printed_marks printed))) more)
    (let same : (n + 1) + length printed ≡ n + suc (length printed) = omega arith in same)
printed_read (OfRefusal refusal ∷ printed) n claims few reads reported placed more =
    reads_one n (of_marks claims) (of_marks claims) (refusal_line refusal) entry.Other (omega (arith, few))
    (refusal_back refusal) (other_after claims) (map printed_line printed ++ more)
    ∙ printed_read printed (n + 1) claims (omega (arith, few)) reads reported placed more
    ∙ ap (λ (k : ℕ). text_behind k (of_marks (claims ++ map claim_of (printed_marks printed))) more)
    (let same : (n + 1) + length printed ≡ n + suc (length printed) = omega arith in same)
printed_read (OfNothing ∷ printed) n claims few reads reported placed more =
    reads_one n (of_marks claims) (of_marks claims) (codes "idle") entry.Other (omega (arith, few))
    idle_back (other_after claims) (map printed_line printed ++ more)
    ∙ printed_read printed (n + 1) claims (omega (arith, few)) reads reported placed more
    ∙ ap (λ (k : ℕ). text_behind k (of_marks (claims ++ map claim_of (printed_marks printed))) more)
    (let same : (n + 1) + length printed ≡ n + suc (length printed) = omega arith in same)

-- happenings of stripes

-- so much was said by marks and by the lines of stripes
abbrev pub of_stripes : List ParsedMark → List StripeLine → Transcribed
of_stripes claims stripes = record { claims = claims; stripes = stripes; counts = None }

-- each of these is before a stripe
abbrev pub AreBefore : List StripeLine → ℕ → ℕ → Type 0
AreBefore [] g s = ⊤
AreBefore (line ∷ lines) g s = ((line.group < g) ⊎ ((line.group ≡ g) × (line.stripe < s))) × AreBefore lines g s

-- of lines, and then others
pub before_both : (one other : List StripeLine) (g s : ℕ) → AreBefore one g s → AreBefore other g s → AreBefore (one ++ other) g s
before_both [] other g s first second = second
before_both (line ∷ one) other g s first second = (first.0, before_both one other g s first.1 second)

-- a later stripe of the group, and a later group
pub before_stripe : (lines : List StripeLine) (g s t : ℕ) → s ≤ t → AreBefore lines g s → AreBefore lines g t
before_stripe [] g s t le before = tt
before_stripe (line ∷ lines) g s t le before = (later before.0, before_stripe lines g s t le before.1)
  where
    later : ((line.group < g) ⊎ ((line.group ≡ g) × (line.stripe < s))) → (line.group < g) ⊎ ((line.group ≡ g) × (line.stripe < t))
    later (inl lower) = inl lower
    later (inr here) = inr (here.0, omega (arith, here.1))

-- a later group
pub before_group : (lines : List StripeLine) (g s : ℕ) → AreBefore lines g s → AreBefore lines (g + 1) 0
before_group [] g s before = tt
before_group (line ∷ lines) g s before = (inl (later before.0), before_group lines g s before.1)
  where
    later : ((line.group < g) ⊎ ((line.group ≡ g) × (line.stripe < s))) → line.group < g + 1
    later (inl lower) = omega arith
    later (inr here) = omega (arith, here.0)

-- the test of it
before_test : (a b : StripeLine) → (a.group < b.group) ⊎ ((a.group ≡ b.group) × (a.stripe < b.stripe)) → stripe_before a b ≡ true
before_test a b (inl lower) = grind (arith, nat_tests)
before_test a b (inr here) = grind (arith, nat_tests)

-- so a line is behind any of those before it
before_at : (lines : List StripeLine) (line : StripeLine) (k : ℕ) → AreBefore lines line.group line.stripe → is_behind (slice_get lines k) line ≡ true
before_at [] line k before = refl
before_at (first ∷ lines) line zero before = before_test first line before.0
before_at (first ∷ lines) line (suc k) before = before_at lines line k before.1

-- the line of a stripe behind the last leads on
stripe_after : (claims : List ParsedMark) (lines : List StripeLine) (line : StripeLine) → AreBefore lines line.group line.stripe
    → after_entry (of_stripes claims lines) (entry.Happened line) ≡ Some (of_stripes claims (lines ++ line ∷ []))
unfolding after_entry
stripe_after claims lines line before =
    ap (λ (b : Bool). cond b (Some (of_stripes claims (lines ++ line ∷ []))) None) (before_at lines line (length lines - 1) before)

-- the line of a stripe, where it has happenings
abbrev pub stripe_lines : ℕ → ℕ → List Happening → List StripeLine
stripe_lines g s [] = []
stripe_lines g s (h ∷ happenings) = record { group = g; stripe = s; happenings = h ∷ happenings } ∷ []

-- its text
abbrev pub stripe_contents : ℕ → ℕ → List Happening → List (List ℕ)
stripe_contents g s [] = []
stripe_contents g s (h ∷ happenings) = happened_line g s h happenings ∷ []

-- the happenings of a stripe read back
pub record StripeReads (g s : ℕ) (happenings : List Happening) : Type 0 where
  pub group : IsSmall g
  pub stripe : IsSmall s
  pub each : AllRead happenings
  pub few : length happenings < 2000000

-- no byte of it ends one
pub stripe_clear : (g s : ℕ) (happenings : List Happening) → StripeReads g s happenings → AreClear (stripe_contents g s happenings)
stripe_clear g s [] reads = tt
stripe_clear g s (h ∷ happenings) reads =
    ((happened_piece g s h happenings reads.group reads.stripe reads.each.0 reads.each.1 (let few = reads.few in omega arith)).clear, tt)

-- The line of a stripe says its happenings.
pub stripe_read : (g s : ℕ) (happenings : List Happening) (n : ℕ) (claims : List ParsedMark) (lines : List StripeLine)
    → n + length (stripe_lines g s happenings) ≤ most_lines → StripeReads g s happenings → AreBefore lines g s
    → Reads n (of_stripes claims lines) (stripe_contents g s happenings) (n + length (stripe_lines g s happenings))
    (of_stripes claims (lines ++ stripe_lines g s happenings))
stripe_read g s [] n claims lines few reads before more =
    ap (λ (k : ℕ). text_behind k (of_stripes claims lines) more) (let same : n ≡ n + 0 = omega arith in same)
    ∙ ap (λ (l : List StripeLine). text_behind (n + 0) (of_stripes claims l) more) (sym (append-nil lines))
stripe_read g s (h ∷ happenings) n claims lines few reads before more =
    reads_one n (of_stripes claims lines) (of_stripes claims (lines ++ record { group = g; stripe = s; happenings = h ∷ happenings } ∷ []))
    (happened_line g s h happenings) (entry.Happened (record { group = g; stripe = s; happenings = h ∷ happenings })) (omega (arith, few))
    (happened_back g s h happenings reads.group reads.stripe reads.each.0 reads.each.1 (let short = reads.few in omega arith))
    (stripe_after claims lines (record { group = g; stripe = s; happenings = h ∷ happenings }) before) more

-- counts

-- the counts lead on
counts_after : (claims : List ParsedMark) (lines : List StripeLine) (counts : Counts)
    → after_entry (of_stripes claims lines) (entry.Counted counts) ≡ Some (record { claims = claims; stripes = lines; counts = Some counts })
unfolding after_entry
counts_after claims lines counts = refl

-- and end the text
text_ends : (n : ℕ) (claims : List ParsedMark) (lines : List StripeLine) (counts : Counts)
    → text_behind n (record { claims = claims; stripes = lines; counts = Some counts }) []
    ≡ Whole (record { claims = claims; stripes = lines; counts = Some counts }) counts
unfolding text_behind
text_ends n claims lines counts = refl

-- The line of the counts ends a whole text.
pub counts_end : (n lines : ℕ) (claims : List ParsedMark) (stripes : List StripeLine) (counts : Counts) → n < most_lines → IsSmall lines
    → CountsRead counts
    → text_behind n (of_stripes claims stripes) (counts_line lines counts ∷ [])
    ≡ Whole (record { claims = claims; stripes = stripes; counts = Some counts }) counts
counts_end n lines claims stripes counts few small reads =
    reads_one n (of_stripes claims stripes) (record { claims = claims; stripes = stripes; counts = Some counts }) (counts_line lines counts)
    (entry.Counted counts) few (counts_back lines counts small reads) (counts_after claims stripes counts) []
    ∙ text_ends (n + 1) claims stripes counts
