-- What is printed for a whole schedule is a text that an audit finds sound.
use Rattle.std.proofs.Common.{◌≡◌, ℕ, zero, suc, ◌+◌, ◌<◌, ◌≤◌, inl, inr, List, [], ◌∷◌, ◌++◌, length, map, count_by, Option, Some, None, Ok, refl, sym, ap, ap₂, ◌∙◌, subst, arith, append_assoc}
use Rattle.std.specs.Prelude.{slice_get}
use Rattle.std.proofs.lemmas.List.Sums.{count_by-le-length}
use Rattle.std.proofs.lemmas.Option.{same_Some, slice_get_within}
use Rattle.fab_base.specs.declared.identities.BrickId.{BrickId}
use Rattle.fab_base.specs.Layouts.{Layout, Group, group_of}
use Rattle.protocol.specs.declared.tellings.Report.{Report}
use Rattle.layout.specs.Limits.{IsLayout}
use Rattle.layout.specs.Texts.{layout_of}
use Rattle.layout.proofs.Accepted.{accepted_is}
use Rattle.lines.specs.Lines.{raw_lines, content}
use Rattle.stripe_code.specs.Codes.{coding}
use Rattle.reg_model.specs.declared.marks.Mark.{Mark}
use Rattle.reg_model.specs.Marks.{Life, life_of, begun_numbers, position_of, stripe_marks}
use Rattle.reg_model.specs.Strict.{IsStrict}
use Rattle.protocol.specs.Views.{views_in}
use Rattle.protocol.specs.Worlds.{World, Event, first_world}
use Rattle.protocol.specs.Happenings.{happenings_of}
use Rattle.protocol_laws.specs.Laws.{Laws}
use Rattle.protocol_laws.proofs.BooksEvents.{books}
use Rattle.protocol_laws.proofs.Numbers.{always_numbered}
use Rattle.transcript.specs.declared.claims.ParsedMark.{ParsedMark}
use Rattle.transcript.specs.declared.claims.Counts.{Counts}
use Rattle.transcript.specs.declared.claims.StripeLine.{StripeLine}
use Rattle.transcript.specs.declared.readings.Text.{Text}
use Rattle.transcript.specs.declared.readings.Text.TheVariants.{Whole}
use Rattle.transcript.specs.Kinds.{is_begin, is_answered, is_aborted, is_crash}
use Rattle.transcript.specs.Marks.{marks_of}
use Rattle.transcript.specs.Transcripts.{text_of}
use Rattle.audit.specs.Checks.{HasStripe, HoldsIn, StripesHold, CountsHold, MarksHold, happenings_said}
use Rattle.audit.specs.declared.findings.Finding.TheVariants.{Sound}
use Rattle.audit.specs.declared.examining.AuditResult.TheVariants.{Judged}
use Rattle.audit.specs.Examining.{Examines}
use Rattle.world.specs.Runs.{Step, all_events}
use Rattle.fab_base.specs.Texts.{newline}
use Rattle.printed.specs.Outputs as out
use Rattle.printed.specs.Outputs.{happened_text, stripes_text, stripes_of, groups_text, count_text, closing_text, left_by, steps_text}
use Rattle.printed.specs.Printed.{printed_marks, printed_reports}
use Rattle.printed.specs.LineSteps.{AreStepsOf}
use Rattle.printed.specs.Sound.{ReadsBack, IsSoundText}
use Rattle.printed.proofs.Counts.{begins_are, begun_place, ends_few}
use Rattle.printed.proofs.LineTexts.{text_of_lines, lines_both, one_line_text, AreClear, clear_all, lines_back}
use Rattle.printed.specs.Spellings.{IsSmall, ReportReads, WorldReads}
use Rattle.printed.proofs.MarkLines.{claim_of, claimed, MarkReads}
use Rattle.printed.proofs.MarksSound as marking
use Rattle.printed.proofs.OtherLines.{counts_line, counts_piece, CountsRead}
use Rattle.printed.proofs.PrintedMarks.{is_end, others, lines_are, begins_among, marks_among_lines, IsPrintedAs, lines_few, schedule_printed}
use Rattle.printed.proofs.ReportLines.{ReportFits}
use Rattle.printed.proofs.Reading.{Reads, of_marks, printed_line, printed_lines, printed_clear, printed_read, EachReads, EachReported, EachPlaced, counts_end}
use Rattle.printed.proofs.Stripes.{IsStory, count_less, is_before, all_begins, Stage, groups_stage, groups_text_of, stripes_text_of, AreOfLayout}

-- the claims of marks are these marks
pub marks_back : (marks : List Mark) → marks_of (map claim_of marks) ≡ marks
marks_back [] = refl
marks_back (mark ∷ marks) = ap (λ (m : Mark). m ∷ marks_of (map claim_of marks)) (claimed mark) ∙ ap (λ (l : List Mark). mark ∷ l) (marks_back marks)

-- each mark is at its place
each_placed : (from : ℕ) (marks : List Mark) → ((k : ℕ) (mark : Mark) → slice_get marks k ≡ Some mark → position_of mark ≡ from + k)
    → EachPlaced from marks
each_placed from [] placed = tt
each_placed from (mark ∷ marks) placed = (
  let here = placed 0 mark refl in omega (arith, here),
  each_placed (from + 1) marks (λ k one at. let there = placed (suc k) one at in omega (arith, there)),
)

-- each mark reads back
each_read : (marks : List Mark) → ((k : ℕ) (mark : Mark) → slice_get marks k ≡ Some mark → MarkReads mark) → EachReads marks
each_read [] reads = tt
each_read (mark ∷ marks) reads = (reads 0 mark refl, each_read marks (λ k one at. reads (suc k) one at))

-- so does each report
each_reported : (reports : List (BrickId × Report))
    → ((k : ℕ) (told : BrickId × Report) → slice_get reports k ≡ Some told → ReportReads told.1 × ReportFits told.1) → EachReported reports
each_reported [] reads = tt
each_reported (told ∷ reports) reads = (reads 0 told refl, each_reported reports (λ k one at. reads (suc k) one at))

-- the last line is that of the counts, and its line feed
counts_end_text : (lines : ℕ) (marks : List Mark)
    → count_text lines marks
    ≡ counts_line lines (record { begun = count_by is_begin marks; answered = count_by is_answered marks; aborted = count_by is_aborted marks; crashes = count_by is_crash marks })
    ++ newline
counts_end_text lines marks =
    simp append_assoc refl

module _ (layout : Layout) (is : IsLayout layout) (schedule : List (List ℕ)) (steps : List Step) (are : AreStepsOf layout schedule steps)
    (few : length steps ≤ out.most_lines) (told : WorldReads (left_by layout steps)) where
  abbrev events : List Event
  events = all_events steps

  -- the world that they leave
  abbrev w : World
  w = left_by layout steps

  -- the printed lines
  printed : IsPrintedAs (coding layout) (first_world layout) w (steps_text (coding layout) (first_world layout) steps) (length steps)
  printed = schedule_printed layout schedule steps are

  -- the laws of the disk
  laws : Laws (coding layout) (views_in layout w.packets) w
  laws = marking.laws layout is events

  -- the marks among the printed lines are the world's
  marks_are : printed_marks printed.printed ≡ w.marks
  marks_are = sym printed.marks_are

  -- and so are the reports
  reports_are : printed_reports printed.printed ≡ w.choices.reports
  reports_are = sym printed.reports_are

  -- no more lines than there are steps are no Ends
  others_low : others printed.printed ≤ length steps
  others_low = lines_few layout w (steps_text (coding layout) (first_world layout) steps) (length steps) printed

  -- how many begin, and how many end
  begun_is : length (begun_numbers w.marks) ≡ w.marked
  begun_is = (always_numbered (coding layout) events).count

  -- no more begin than there are steps
  begins_few : count_by is_begin w.marks ≤ length steps
  begins_few =
      let low = begins_among printed.printed in
      let most = others_low in
      omega (arith, subst (λ (l : List Mark). count_by is_begin l ≤ others printed.printed) marks_are low, most)

  -- so no operation has a greater number
  lives_low : (n : ℕ) (life : Life) → life_of w.marks n ≡ Some life → n ≤ length steps
  lives_low n life at =
      let own = ((books (coding layout) events).lives n life at).1 in
      omega (arith, own, begun_is, begins_are w.marks, begins_few)

  -- and hardly more end
  ends_low : count_by is_end w.marks ≤ length steps + 1
  ends_low =
      ends_few w.marks laws.well_formed laws.without_gaps.placed
      (λ n life at. ((books (coding layout) events).lives n life at).0) (length steps)
      (λ k p n answer at. let word = laws.words k p n answer at in lives_low n word.0 word.2)

  -- so many lines are printed before the happenings
  lines_low : length printed.printed ≤ length steps + (length steps + 1)
  lines_low =
      let most = others_low in
      omega (
        arith,
        lines_are printed.printed,
        most,
        subst (λ (l : List Mark). count_by is_end l ≤ length steps + 1) (sym marks_are) ends_low,
      )

  -- and so many marks are made
  marks_low : length w.marks ≤ length steps + (length steps + 1)
  marks_low =
      omega (arith, lines_low, subst (λ (l : List Mark). length l ≤ length printed.printed) marks_are (marks_among_lines printed.printed))

  -- each mark reads back
  reads : (k : ℕ) (mark : Mark) → slice_get w.marks k ≡ Some mark → MarkReads mark
  reads =
      marking.mark_reads layout is events told.marks (omega (arith, marks_low, few))
      (λ n life at. let low = lives_low n life at in omega (arith, low, few))
      (λ k p n b ask at.
      let place = begun_place w.marks k p n b ask at in
      let number = laws.without_gaps.numbered place.0 n place.1 in
      let within = slice_get_within (begun_numbers w.marks) place.0 n place.1 in
      omega (arith, number, within, begins_are w.marks, begins_few, few))

  -- and so does each report
  reported : EachReported (printed_reports printed.printed)
  reported = subst EachReported (sym reports_are) (each_reported w.choices.reports (marking.reports_read layout is events told.reports))

  -- the marks as they are claimed
  abbrev claims : List ParsedMark
  claims = map claim_of w.marks

  -- the printed lines say the marks
  printed_reads : Reads 0 (of_marks []) (map printed_line printed.printed) (0 + length printed.printed) (of_marks claims)
  printed_reads =
      subst (λ (l : List Mark). Reads 0 (of_marks []) (map printed_line printed.printed) (0 + length printed.printed)
      (of_marks (map claim_of l))) marks_are
      (printed_read printed.printed 0 [] (omega (arith, lines_low, few))
      (subst EachReads (sym marks_are) (each_read w.marks reads)) reported
      (subst (λ (l : List Mark). EachPlaced 0 l) (sym marks_are)
      (each_placed 0 w.marks (λ k mark at. let place = laws.without_gaps.placed k mark at in omega (arith, place)))))

  -- the lines of stripes
  story : IsStory layout w.marks (happenings_of w)
  story = record {
    few_marks = omega (arith, marks_low, few);
    placed = laws.without_gaps.placed;
    numbers = λ n life at. let low = lives_low n life at in omega (arith, low, few);
    strict = laws.strict;
    group_small = marking.group_few layout is;
    stripe_small = marking.stripe_few layout is;
  }

  -- the lines of all stripes
  stage : Stage layout w.marks (happenings_of w) story claims
      (0 + length printed.printed) 64 0
      (groups_text_of layout w.marks (happenings_of w) story claims
      (0 + length printed.printed) 64)
  stage =
      groups_stage layout w.marks (happenings_of w) story claims
      (0 + length printed.printed) (omega (arith, lines_low, begins_few, few)) 64

  -- their text is what is printed
  groups_same : (g : ℕ) → groups_text layout w g
      ≡ groups_text_of layout w.marks (happenings_of w) story claims
      (0 + length printed.printed) g
  unfolding groups_text
  groups_same zero = refl
  groups_same (suc g) = ap₂ (λ (one other : List ℕ). one ++ other) (groups_same g) (stripes_same g (stripes_of (group_of layout g)))
    where
      stripes_same : (h s : ℕ) → stripes_text w h s
          ≡ stripes_text_of layout w.marks (happenings_of w) story claims
          (0 + length printed.printed) h s
      stripes_same h zero = refl
      stripes_same h (suc s) = ap (λ (l : List ℕ). l ++ happened_text h s (happenings_of w h s)) (stripes_same h s)

  -- the counts
  abbrev counts : Counts
  counts = record {
    begun = count_by is_begin w.marks;
    answered = count_by is_answered w.marks;
    aborted = count_by is_aborted w.marks;
    crashes = count_by is_crash w.marks;
  }

  -- they have a spelling
  counts_read : CountsRead counts
  counts_read =
      let all = marks_low in
      let one = count_by-le-length is_begin w.marks in
      let two = count_by-le-length is_answered w.marks in
      let three = count_by-le-length is_aborted w.marks in
      let four = count_by-le-length is_crash w.marks in
      record {
        begun = omega (arith, one, all, few);
        answered = omega (arith, two, all, few);
        aborted = omega (arith, three, all, few);
        crashes = omega (arith, four, all, few);
      }

  -- so has the number of lines of the schedule
  steps_small : IsSmall (length steps)
  steps_small = omega (arith, few)

  -- the lines of the text
  abbrev all_lines : List (List ℕ)
  all_lines = map printed_line printed.printed ++ (stage.contents ++ (counts_line (length steps) counts ∷ []))

  -- they are the printed text
  text_is : steps_text (coding layout) (first_world layout) steps ++ closing_text layout w (length steps) ≡ text_of_lines all_lines
  text_is =
      ap (λ (l : List ℕ). l ++ closing_text layout w (length steps)) (printed.text_is ∙ printed_lines printed.printed)
      ∙ ap (λ (l : List ℕ). text_of_lines (map printed_line printed.printed) ++ (l ++ count_text (length steps) w.marks))
      (groups_same 64 ∙ stage.text_is)
      ∙ ap (λ (l : List ℕ). text_of_lines (map printed_line printed.printed) ++ (text_of_lines stage.contents ++ l))
      (counts_end_text (length steps) w.marks ∙ sym (one_line_text (counts_line (length steps) counts)))
      ∙ ap (λ (l : List ℕ). text_of_lines (map printed_line printed.printed) ++ l)
      (sym (lines_both stage.contents (counts_line (length steps) counts ∷ [])))
      ∙ sym (lines_both (map printed_line printed.printed) (stage.contents ++ (counts_line (length steps) counts ∷ [])))

  -- no byte of them ends one
  all_clear : AreClear all_lines
  all_clear =
      clear_all (map printed_line printed.printed) (stage.contents ++ (counts_line (length steps) counts ∷ []))
      (printed_clear printed.printed (subst EachReads (sym marks_are) (each_read w.marks reads)) reported)
      (clear_all stage.contents (counts_line (length steps) counts ∷ []) stage.clear
      ((counts_piece (length steps) counts steps_small counts_read).clear, tt))

  -- what the text says
  says : text_of all_lines
      ≡ Whole (record { claims = claims; stripes = stage.lines; counts = Some counts }) counts
  says =
      printed_reads (stage.contents ++ (counts_line (length steps) counts ∷ []))
      ∙ stage.reads (counts_line (length steps) counts ∷ [])
      ∙ counts_end ((0 + length printed.printed) + length stage.lines) (length steps) claims stage.lines counts
      (let some = stage.few in
      let all = count_less (is_before 64 0) is_begin w.marks
      (all_begins 64 0) in
      omega (arith, some, all, lines_low, begins_few, few))
      steps_small counts_read

  -- the happenings that it says of a stripe of the layout are the world's
  said_is : (g s : ℕ) (found : Option Group) → group_of layout g ≡ found → s < stripes_of found
      → happenings_said stage.lines g s ≡ happenings_of w g s
  said_is g s None here within = absurd (omega arith)
  said_is g s (Some group) here within =
      let within_groups = slice_get_within layout.groups g group here in
      let few_groups = marking.few_groups layout is in
      stage.said g s (inl (
        (let low = within_groups in omega (arith, low, few_groups)),
        subst (λ (o : Option Group). s < stripes_of o) (sym here) within,
      ))

  -- and they hold
  holds_in : (g s : ℕ) (found : Option Group) → group_of layout g ≡ found → s < stripes_of found
      → HoldsIn found layout.block g s w.marks (happenings_said stage.lines g s)
  holds_in g s None here within = absurd (omega arith)
  holds_in g s (Some group) here within = (
    within,
    subst (λ (l : List _). IsStrict group.m layout.block (stripe_marks g s w.marks) l) (sym (said_is g s (Some group) here within))
        (laws.strict g s group here),
  )

  -- a stripe that the layout has is one of a group's
  stripe_within : (g s : ℕ) (found : Option Group) → HasStripe found s → s < stripes_of found
  stripe_within g s None has = absurd has
  stripe_within g s (Some group) has = has

  -- so is a stripe that a line names
  named_within : (lines : List StripeLine) → AreOfLayout layout w.marks (happenings_of w) story
      claims (0 + length printed.printed) lines
      → (i : ℕ) (line : StripeLine) → slice_get lines i ≡ Some line → line.stripe < stripes_of (group_of layout line.group)
  named_within [] all i line at = absurd (let never : None ≡ Some line = at in cc)
  named_within (first ∷ lines) all zero line at =
      subst (λ (l : StripeLine). l.stripe < stripes_of (group_of layout l.group)) (same_Some first line at) all.0
  named_within (first ∷ lines) all (suc i) line at = named_within lines all.1 i line at

  -- the happenings of each stripe hold
  stripes_hold : StripesHold layout w.marks stage.lines
  stripes_hold g s (inl has) =
      holds_in g s (group_of layout g) refl (stripe_within g s (group_of layout g) has)
  stripes_hold g s (inr named) =
      let within = named_within stage.lines stage.of_layout named.0 named.1 named.2 in
      holds_in g s (group_of layout g) refl
      (subst (λ (x : ℕ). x < stripes_of (group_of layout g)) named.4
      (subst (λ (x : ℕ). named.1.stripe < stripes_of (group_of layout x)) named.3 within))

  -- the counts hold
  counts_hold : CountsHold counts w.marks
  counts_hold = record { begun = refl; answered = refl; aborted = refl; crashes = refl }

  -- what the printed text reads as
  reads_as : text_of (map content (raw_lines (steps_text (coding layout) (first_world layout) steps ++ closing_text layout w (length steps))))
      ≡ Whole (record { claims = claims; stripes = stage.lines; counts = Some counts }) counts
  reads_as = ap (λ (l : List ℕ). text_of (map content (raw_lines l))) text_is ∙ ap text_of (lines_back all_lines all_clear) ∙ says

  -- The text reads back as the world.
  pub text_back : ReadsBack layout (steps_text (coding layout) (first_world layout) steps ++ closing_text layout (left_by layout steps) (length steps))
      (left_by layout steps)
  text_back = record {
    said = record { claims = claims; stripes = stage.lines; counts = Some counts };
    counts = counts;
    whole = reads_as;
    marks_are = marks_back w.marks;
    happenings_are = λ g s has. said_is g s (group_of layout g) refl (stripe_within g s (group_of layout g) has);
  }

  -- The text is sound.
  pub sound_text : IsSoundText layout (steps_text (coding layout) (first_world layout) steps ++ closing_text layout (left_by layout steps)
      (length steps))
  sound_text =
      subst (λ (text : Text). Examines layout text (Judged Sound)) (sym reads_as)
      (subst (λ (marks : List Mark). MarksHold layout marks × StripesHold layout marks stage.lines × CountsHold counts marks)
      (sym (marks_back w.marks))
      (marking.marks_hold layout is events, stripes_hold, counts_hold))

-- What is printed for the steps of a whole schedule, over the layout that a text says, reads back as the world that they leave.
pub what_is_printed_reads_back : (head : List ℕ) (layout : Layout) (schedule : List (List ℕ)) (steps : List Step) → layout_of head ≡ Ok layout
    → AreStepsOf layout schedule steps → length steps ≤ out.most_lines → WorldReads (left_by layout steps)
    → ReadsBack layout (steps_text (coding layout) (first_world layout) steps ++ closing_text layout (left_by layout steps) (length steps))
    (left_by layout steps)
what_is_printed_reads_back head layout schedule steps says are few told = text_back layout (accepted_is head layout says) schedule steps are few told

-- It is a text that an audit finds sound.
pub what_is_printed_audits : (head : List ℕ) (layout : Layout) (schedule : List (List ℕ)) (steps : List Step) → layout_of head ≡ Ok layout
    → AreStepsOf layout schedule steps → length steps ≤ out.most_lines → WorldReads (left_by layout steps)
    → IsSoundText layout (steps_text (coding layout) (first_world layout) steps ++ closing_text layout (left_by layout steps) (length steps))
what_is_printed_audits head layout schedule steps says are few told = sound_text layout (accepted_is head layout says) schedule steps are few told
