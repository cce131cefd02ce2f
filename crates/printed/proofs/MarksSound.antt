-- The marks of a run hold under its layout, and each has a spelling; and so has each report.
use Rattle.std.proofs.Common.{◌≡◌, ℕ, zero, suc, ◌*◌, ◌<◌, ◌≤◌, Bool, true, nat_lt, nat_eq, ◌&&◌, List, [], ◌∷◌, length, take, drop, replicate, Option, Some, None, refl, sym, ap, ◌∙◌, subst, arith, take-append-drop, append-nil, inl, inr}
use Rattle.std.specs.Prelude.{slice_get, slice_index}
use Rattle.std.specs.Option.{option_map}
use Rattle.std.proofs.lemmas.Bool.{and_parts, ltb-true, eqb-true}
use Rattle.std.proofs.lemmas.Option.{same_Some, slice_get_within, get_or_from_slice_get}
use Rattle.fab_base.specs.declared.identities.BrickId.{BrickId}
use Rattle.fab_base.specs.declared.identities.GroupId.{GroupId}
use Rattle.fab_base.specs.declared.identities.ViewNo.{ViewNo}
use Rattle.fab_base.specs.declared.stamps.Stamp.{Stamp}
use Rattle.fab_base.specs.declared.asks.Ask.{Ask}
use Rattle.fab_base.specs.declared.asks.Op.{Op}
use Rattle.fab_base.specs.declared.asks.Op.TheVariants.{ReadBlock, WriteBlock, ReadStripe, WriteStripe}
use Rattle.fab_base.specs.declared.answers.Answer.{Answer}
use Rattle.fab_base.specs.declared.answers.Answer.TheVariants.{Data, Done, Aborted}
use Rattle.fab_base.specs.Layouts.{Layout, Group, group_of}
use Rattle.layout.specs.Limits.{IsGroup, IsLayout}
use Rattle.quorum.specs.Quorums.{IsWithinLimits}
use Rattle.stripe_code.specs.Codes.{coding}
use Rattle.stripe_code.proofs.Soundness.{coding_is_sound}
use Rattle.reg_model.specs.declared.marks.Mark.{Mark}
use Rattle.reg_model.specs.declared.marks.Mark.TheVariants.{Begin, End, Crash}
use Rattle.reg_model.specs.Marks.{Life, life_of, IsOpen}
use Rattle.reg_model.specs.Registers.{block_of, read_of}
use Rattle.reg_model.specs.Strict.{OpFits}
use Rattle.protocol.specs.Settings.{are_bytes}
use Rattle.protocol.specs.declared.tellings.Report.{Report}
use Rattle.protocol.specs.declared.tellings.Report.TheVariants.{View, Sync, Scrub}
use Rattle.protocol.specs.declared.tellings.ViewAnswer.TheVariants as answer
use Rattle.protocol.specs.Nodes.{has_block, has_length}
use Rattle.protocol.specs.Views.{kept_by, views_in}
use Rattle.protocol.specs.Worlds.{World, Operation, Event, zero_content, first_world, run}
use Rattle.protocol_laws.specs.Laws.{Laws}
use Rattle.protocol_laws.specs.Marked as law
use Rattle.protocol_laws.proofs.BooksEvents as books
use Rattle.protocol_laws.proofs.EveryRun.{every_views_run}
use Rattle.view_laws.proofs.Followed.{every_run_follows}
use Rattle.view_laws.proofs.Named.{every_name_is_chosen, every_proposal_shows}
use Rattle.reg_model.proofs.GrowingLives.{life_of-append, life_onward}
use Rattle.protocol_laws.proofs.Said.{Stamping, Said, IsMadeOrFirst}
use Rattle.protocol_laws.proofs.SaidAlways.{always_said}
use Rattle.audit.specs.Checks.{GroupFits, BeginFits, WordFits, AnswerFits, MarksHold}
use Rattle.printed.specs.Spellings.{IsSmall, ToldReads, AllToldRead, ReportReads, AllReportsRead}
use Rattle.printed.proofs.MarkLines.{IsTold, OpReads, AskReads, AnswerReads, MarkReads, most_told}
use Rattle.printed.proofs.ReportLines.{ReportFits}
use Rattle.printed.proofs.Standing.{MarkStands, AllStand, always_stand}

-- bytes, by a test

-- each of them is below 256
byte_at : (bytes : List ℕ) (i : ℕ) → are_bytes bytes ≡ true → slice_index bytes i < 256
byte_at [] i are = omega arith
byte_at (b ∷ bytes) zero are = ltb-true b 256 (and_parts (nat_lt b 256) (are_bytes bytes) are).0
byte_at (b ∷ bytes) (suc i) are = byte_at bytes i (and_parts (nat_lt b 256) (are_bytes bytes) are).1

-- bytes that a mark tells
are_told : (bytes : List ℕ) → are_bytes bytes ≡ true → 1 ≤ length bytes → length bytes ≤ most_told → IsTold bytes
are_told bytes are some few = record { some = some; few = few; are = λ i. byte_at bytes i are }

-- the first of them are bytes
taken : (k : ℕ) (bytes : List ℕ) → are_bytes bytes ≡ true → are_bytes (take k bytes) ≡ true
taken zero bytes are = refl
taken (suc k) [] are = refl
taken (suc k) (b ∷ bytes) are =
    let parts = and_parts (nat_lt b 256) (are_bytes bytes) are in
    ap (λ (t : Bool). t && are_bytes (take k bytes)) parts.0 ∙ taken k bytes parts.1

-- so are those behind the first
dropped : (k : ℕ) (bytes : List ℕ) → are_bytes bytes ≡ true → are_bytes (drop k bytes) ≡ true
dropped zero bytes are = are
dropped (suc k) [] are = are
dropped (suc k) (b ∷ bytes) are = dropped k bytes (and_parts (nat_lt b 256) (are_bytes bytes) are).1

-- and zeros
zeros : (n : ℕ) → are_bytes (replicate n 0) ≡ true
zeros zero = refl
zeros (suc n) = zeros n

-- members that were decided are no list that may not keep a group
not_bad : (next : ViewNo) (members : List BrickId) → answer.Decided next members ≡ answer.BadMembers → ⊥
not_bad next members never = cc

-- what is asked

-- a group's number is below how many there are
group_within : (groups : List Group) (g : ℕ) (group : Group) → slice_get groups g ≡ Some group → g < length groups
group_within groups g group is = slice_get_within groups g group is

-- a product of two positive numbers
room : (m block : ℕ) → 1 ≤ m → 1 ≤ block → 1 ≤ m * block
room m block some more = grind arith

module _ (layout : Layout) (is : IsLayout layout) where
  pub few_groups : length layout.groups ≤ 64
  few_groups = is.few_groups

  -- a group's number has a spelling
  pub group_few : (g : ℕ) (group : Group) → group_of layout g ≡ Some group → IsSmall g
  group_few g group here = let within = group_within layout.groups g group here in let few = is.few_groups in omega arith

  -- and a stripe's
  pub stripe_few : (g : ℕ) (group : Group) (s : ℕ) → group_of layout g ≡ Some group → s < group.stripes → IsSmall s
  stripe_few g group s here within = let few = (is.each g group here).few_stripes in omega arith

  -- what is not refused fits its group
  op_fits : (m block : ℕ) (op : Op) → has_block m op ≡ true → has_length m block op ≡ true → OpFits m block op
  op_fits m block (ReadBlock j) has long = ltb-true j m has
  op_fits m block (WriteBlock j bytes) has long =
      (ltb-true j m has, eqb-true (length bytes) block (and_parts (are_bytes bytes) (nat_eq (length bytes) block) long).1)
  op_fits m block ReadStripe has long = tt
  op_fits m block (WriteStripe bytes) has long =
      eqb-true (length bytes) (m * block) (and_parts (are_bytes bytes) (nat_eq (length bytes) (m * block)) long).1

  -- and has a spelling
  op_reads : (group : Group) (op : Op) → IsGroup layout.block layout.bricks group → has_block group.m op ≡ true
      → has_length group.m layout.block op ≡ true → OpReads op
  op_reads group (ReadBlock j) of has long =
      let below = ltb-true j group.m has in let few = of.limits.few_blocks in omega arith
  op_reads group (WriteBlock j bytes) of has long =
      let below = ltb-true j group.m has in
      let few = of.limits.few_blocks in
      let parts = and_parts (are_bytes bytes) (nat_eq (length bytes) layout.block) long in
      let length_is = eqb-true (length bytes) layout.block parts.1 in
      let some = is.some_byte in
      let short = is.few_bytes in
      (omega arith, are_told bytes parts.0 (omega arith) (omega arith))
  op_reads group ReadStripe of has long = tt
  op_reads group (WriteStripe bytes) of has long =
      let parts = and_parts (are_bytes bytes) (nat_eq (length bytes) (group.m * layout.block)) long in
      let length_is = eqb-true (length bytes) (group.m * layout.block) parts.1 in
      let some = room group.m layout.block of.limits.some_block is.some_byte in
      let short = of.room in
      are_told bytes parts.0 (omega (arith, length_is, some)) (omega (arith, length_is, short))

  -- it fits the group that was found
  group_fits : (found : Option Group) (group : Group) (s : ℕ) (op : Op) → found ≡ Some group → s < group.stripes → OpFits group.m layout.block op
      → GroupFits found layout.block s op
  group_fits found group s op here within fits = subst (λ (z : Option Group). GroupFits z layout.block s op) (sym here) (within, fits)

  -- an operation that begins fits the layout
  begin_fits : (mark : Mark) → MarkStands (coding layout) mark → BeginFits layout mark
  begin_fits (Begin p n b ask) stands = (
    stands.0,
    group_fits (group_of layout ask.group.0) stands.1.group ask.stripe.0 ask.op stands.1.group_is stands.1.stripe
        (op_fits stands.1.group.m layout.block ask.op stands.1.block_fits stands.1.length_fits),
  )
  begin_fits (End p n answer) stands = tt
  begin_fits (Crash p b) stands = tt

  -- what it asks has a spelling
  ask_reads : (ask : Ask) → books.BeginFits (coding layout) ask → AskReads ask
  ask_reads ask fits = record {
    group = group_few ask.group.0 fits.group fits.group_is;
    stripe = stripe_few ask.group.0 fits.group ask.stripe.0 fits.group_is fits.stripe;
    op = op_reads fits.group ask.op (is.each ask.group.0 fits.group fits.group_is) fits.block_fits fits.length_fits;
  }

  -- a world that events leave
  module _ (events : List Event) where
    abbrev w : World
    w = run (coding layout) events (first_world layout)

    -- the laws of the disk
    pub laws : Laws (coding layout) (views_in layout w.packets) w
    laws = every_views_run (coding layout) events (coding_is_sound layout is)

    -- each operation that begins fits, and each brick that stops is the layout's
    stands : AllStand (coding layout) w.marks
    stands = always_stand (coding layout) events

    -- data that was answered is bytes

    -- the content of a version is bytes
    content_bytes : (stamps : Stamping) (said : Said (coding layout) (views_in layout w.packets) w stamps) (g s : ℕ) (t : Stamp) (group : Group)
        → group_of layout g ≡ Some group → IsMadeOrFirst w g s t
        → are_bytes (w.contents g s t) ≡ true
    content_bytes stamps said g s t group here (inl first) =
        ap (λ (u : Stamp). are_bytes (w.contents g s u)) first
        ∙ ap are_bytes (said.first g s ∙ ap (λ (z : Option Group). zero_content layout.block z) here) ∙ zeros (group.m * layout.block)
    content_bytes stamps said g s t group here (inr made) =
        let p : Operation = made.1 in
        let content : w.contents made.1.ask.group.0 made.1.ask.stripe.0 t
        ≡ w.contents g s t =
        ap (λ (x : ℕ). w.contents x made.1.ask.stripe.0 t) made.3
        ∙ ap (λ (x : ℕ). w.contents g x t) made.4
        in
        ap are_bytes (sym content)
        ∙ ((said.operations made.0 made.1 made.2).content t made.5 made.6 group (ap (group_of layout) made.3 ∙ here)).1

    -- what is read of it is bytes
    read_bytes : (op : Op) (bytes content : List ℕ) → read_of layout.block op content ≡ Some bytes → are_bytes content ≡ true → are_bytes bytes ≡ true
    read_bytes (ReadBlock j) bytes content read are =
        ap are_bytes (sym (same_Some (block_of layout.block j content) bytes read))
        ∙ taken layout.block (drop (j * layout.block) content) (dropped (j * layout.block) content are)
    read_bytes ReadStripe bytes content read are = ap are_bytes (sym (same_Some content bytes read)) ∙ are
    read_bytes (WriteBlock j given) bytes content read are = absurd (let never : None ≡ Some bytes = read in cc)
    read_bytes (WriteStripe given) bytes content read are = absurd (let never : None ≡ Some bytes = read in cc)

    -- so is the data of an answer
    data_bytes : (k p n : ℕ) (bytes : List ℕ) → slice_get w.marks k ≡ Some (End p n (Data bytes))
        → are_bytes bytes ≡ true
    data_bytes k p n bytes at =
        let said = always_said (coding layout) (views_in layout w.packets) events (coding_is_sound layout is)
        (every_run_follows (coding layout) events (coding_is_sound layout is)) in
        let shown = said.1.ends k p n (Data bytes) at in
        let own = (books.books (coding layout) events).operations shown.number shown.operation shown.is in
        read_bytes shown.operation.ask.op bytes
        (w.contents shown.operation.ask.group.0 shown.operation.ask.stripe.0 shown.version) shown.bytes_are
        (content_bytes said.0 said.1 shown.operation.ask.group.0 shown.operation.ask.stripe.0 shown.version own.group own.group_is
        ((said.1.operations shown.number shown.operation shown.is).version shown.version shown.version_is).made)

    -- the lengths of answers
    word_long : (group : Group) (op : Op) (bytes : List ℕ) → IsGroup layout.block layout.bricks group
        → law.WordFits group.m layout.block op (Data bytes)
        → (1 ≤ length bytes) × (length bytes ≤ most_told)
    word_long group (ReadBlock j) bytes of word =
        let same : length bytes ≡ layout.block = word in
        let some = is.some_byte in let few = is.few_bytes in (omega arith, omega arith)
    word_long group ReadStripe bytes of word =
        let same : length bytes ≡ group.m * layout.block = word in
        let some = room group.m layout.block of.limits.some_block is.some_byte in
        let few = of.room in
        (omega (arith, same, some), omega (arith, same, few))
    word_long group (WriteBlock j given) bytes of word = absurd word
    word_long group (WriteStripe given) bytes of word = absurd word

    -- what a mark says has a spelling, where all that the marks say has one
    told_reads : AllToldRead w.marks → (k : ℕ) (mark : Mark) → slice_get w.marks k ≡ Some mark → ToldReads mark
    told_reads all k mark at =
        subst ToldReads (get_or_from_slice_get w.marks k mark mark at) (all k mark (slice_get_within w.marks k mark at))

    -- an answer has a spelling
    answer_reads : AllToldRead w.marks → (k p n : ℕ) (answer : Answer) → slice_get w.marks k ≡ Some (End p n answer)
        → AnswerReads answer
    answer_reads all k p n (Data bytes) at =
        let word = laws.words k p n (Data bytes) at in
        let long = word_long word.1 word.0.ask.op bytes (is.each word.0.ask.group.0 word.1 word.3) word.4 in
        are_told bytes (data_bytes k p n bytes at) long.0 long.1
    answer_reads all k p n Done at = tt
    answer_reads all k p n (Aborted cause) at = told_reads all k (End p n (Aborted cause)) at

    -- where there are so few marks and operations, each mark reads back
    pub mark_reads : AllToldRead w.marks → (length w.marks ≤ 10000000) → ((n : ℕ) → (life : Life)
        → life_of w.marks n ≡ Some life → IsSmall n)
        → ((k p n : ℕ) (b : BrickId) (ask : Ask) → slice_get w.marks k ≡ Some (Begin p n b ask) → IsSmall n)
        → (k : ℕ) (mark : Mark) → slice_get w.marks k ≡ Some mark → MarkReads mark
    mark_reads all few lives begins k (Begin p n b ask) at =
        let place = laws.without_gaps.placed k (Begin p n b ask) at in
        let within = slice_get_within w.marks k (Begin p n b ask) at in
        let its = stands k (Begin p n b ask) at in
        let bricks = is.few_bricks in
        let there = its.0 in
        (omega (arith, place, within, few), begins k p n b ask at, omega (arith, bricks, there), ask_reads ask its.1)
    mark_reads all few lives begins k (End p n answer) at =
        let place = laws.without_gaps.placed k (End p n answer) at in
        let within = slice_get_within w.marks k (End p n answer) at in
        let word = laws.words k p n answer at in
        (omega (arith, place, within, few), lives n word.0 word.2, answer_reads all k p n answer at)
    mark_reads all few lives begins k (Crash p b) at =
        let place = laws.without_gaps.placed k (Crash p b) at in
        let within = slice_get_within w.marks k (Crash p b) at in
        let bricks = is.few_bricks in
        let there = stands k (Crash p b) at in
        (omega (arith, place, within, few), omega (arith, bricks, there))

    -- the word of an answer is that of its operation
    word_fits : (m : ℕ) (op : Op) (answer : Answer) → law.WordFits m layout.block op answer → WordFits op answer
    word_fits m (ReadBlock j) (Data bytes) word = tt
    word_fits m (ReadBlock j) Done word = absurd word
    word_fits m (ReadBlock j) (Aborted cause) word = tt
    word_fits m (WriteBlock j written) (Data bytes) word = absurd word
    word_fits m (WriteBlock j written) Done word = tt
    word_fits m (WriteBlock j written) (Aborted cause) word = tt
    word_fits m ReadStripe (Data bytes) word = tt
    word_fits m ReadStripe Done word = absurd word
    word_fits m ReadStripe (Aborted cause) word = tt
    word_fits m (WriteStripe written) (Data bytes) word = absurd word
    word_fits m (WriteStripe written) Done word = tt
    word_fits m (WriteStripe written) (Aborted cause) word = tt

    -- what an operation asks stays in later marks
    ask_stays : (life : Option Life) (more : List Mark) (n : ℕ) (later : Life) → IsOpen life → life_onward life more n ≡ Some later
        → (answer : Answer) → (m : ℕ) → law.WordFits m layout.block later.ask.op answer → AnswerFits life answer
    ask_stays None more n later open' onward answer m word = absurd open'
    ask_stays (Some life) more n later open' onward answer m word =
        word_fits m life.ask.op answer (subst (λ (l : Life). law.WordFits m layout.block l.ask.op answer) (sym (same_Some _ later onward)) word)

    -- so is that of each End, by the marks before it
    answers_fit : (i p n : ℕ) (answer : Answer) → slice_get w.marks i ≡ Some (End p n answer)
        → AnswerFits (life_of (take i w.marks) n) answer
    answers_fit i p n answer at =
        let marks : List Mark = w.marks in
        let word = laws.words i p n answer at in
        ask_stays (life_of (take i w.marks) n)
        (drop i w.marks) n word.0
        (laws.well_formed.ends_are_of_open i p n answer at)
        (sym (life_of-append (take i w.marks) (drop i w.marks) n)
        ∙ ap (λ (l : List Mark). life_of l n) (take-append-drop i w.marks) ∙ word.2)
        answer word.1.m word.4

    -- The marks hold.
    pub marks_hold : MarksHold layout w.marks
    marks_hold = record {
      placed = laws.without_gaps.placed;
      numbered = laws.without_gaps.numbered;
      well_formed = laws.well_formed;
      begins_fit = λ i mark at. begin_fits mark (stands i mark at);
      answers_fit = answers_fit;
    }

    -- reports

    -- members that were decided are some, and few: those of a view that the run follows
    decided_fit : (number : GroupId) (found : Option Group) (next : ℕ) (members : List BrickId) (before : Group) (prior : List BrickId)
        → group_of layout number.0 ≡ found → option_map (kept_by prior) found ≡ Some before → views_in layout w.packets number.0 next ≡ members
        → (1 ≤ length members) × (length members ≤ 32)
    decided_fit number None next members before prior here kept named = absurd (let never : None ≡ Some before = kept in cc)
    decided_fit number (Some group) next members before prior here kept named =
        let limits : IsWithinLimits group.m (length (views_in layout w.packets number.0 next)) =
        (every_run_follows (coding layout) events (coding_is_sound layout is) events [] (sym (append-nil events))).limits number.0 next
        (kept_by (views_in layout w.packets number.0 next) group)
        (ap (option_map (kept_by (views_in layout w.packets number.0 next))) here) in
        let many : length (views_in layout w.packets number.0 next) ≡ length members = ap (λ (l : List BrickId). length l) named in
        let some = limits.some_block in
        let enough = limits.enough_seats in
        let few = limits.few_seats in
        (omega (arith, many, some, enough), omega (arith, many, few))

    -- so are those that a report tells
    report_fits : (k : ℕ) (brick : BrickId) (told : Report) → slice_get w.choices.reports k ≡ Some (brick, told) → ReportFits told
    report_fits k brick (Sync number ended) at = tt
    report_fits k brick (Scrub call named ended) at = tt
    report_fits k brick (View number call (answer.Outbid ballot)) at = tt
    report_fits k brick (View number call (answer.NotSynced member)) at = tt
    report_fits k brick (View number call (answer.Moved view)) at = tt
    report_fits k brick (View number call answer.BadMembers) at = tt
    report_fits k brick (View number None (answer.Decided next members)) at =
        let never : answer.Decided next members ≡ answer.BadMembers =
        (every_proposal_shows (coding layout) events (coding_is_sound layout is)).unsent brick number (answer.Decided next members) (k, at) in
        absurd (not_bad next members never)
    report_fits k brick (View number (Some call) (answer.Decided next members)) at =
        let named = ((every_name_is_chosen (coding layout) events (coding_is_sound layout is)).decided brick number call next members (k, at)).1 in
        decided_fit number (group_of layout number.0) next.0 members named.group (views_in layout w.packets number.0 named.before) refl named.group_is named.named

    -- Where what the reports tell has a spelling, each reads back.
    pub reports_read : AllReportsRead w.choices.reports → (k : ℕ) (told : BrickId × Report) → slice_get w.choices.reports k ≡ Some told
        → ReportReads told.1 × ReportFits told.1
    reports_read all k told at = (
      subst (λ (one : BrickId × Report). ReportReads one.1) (get_or_from_slice_get w.choices.reports k told told at)
          (all k told (slice_get_within w.choices.reports k told at)),
      report_fits k told.0 told.1 at,
    )
