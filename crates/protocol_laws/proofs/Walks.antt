-- The walk along a stripe's effective versions, and why its happenings are strict.
use Rattle.std.proofs.Common.{◌≡◌, ◌≢◌, ℕ, ◌<◌, ◌≤◌, ◌⊎◌, inl, inr, ⊎_elim, Bool, true, false, not, ◌&&◌, ◌||◌, nat_eq, List, length, get_or, map, Option, Some, None, refl, sym, ap, ◌∙◌, subst, arith}
use Rattle.std.specs.List.{All, AllPairs, Contains}
use Rattle.std.proofs.lemmas.Bool.{cases_Bool, cases_eq, cases_lt, both_ways, or_parts, or_left, and_from, and_parts, and_cases, ltb-false, ltb-true, lt-ltb}
use Rattle.std.proofs.lemmas.Option.{none-some, same_Some}
use Rattle.std.proofs.lemmas.List.Elements.{All-map, All-weaker, All-contains, All-contains_itself}
use Rattle.std.proofs.lemmas.List.{get_or-map, length-map}
use Rattle.std.proofs.lemmas.List.Sorted.{sorted_far}
use Rattle.fab_base.specs.declared.stamps.Stamp.{Stamp}
use Rattle.fab_base.specs.declared.asks.Op.{Op}
use Rattle.fab_base.specs.declared.asks.Op.TheVariants.{ReadBlock, WriteBlock, ReadStripe, WriteStripe}
use Rattle.fab_base.specs.declared.answers.Answer.{Answer}
use Rattle.fab_base.specs.declared.answers.Answer.TheVariants.{Data, Done, Aborted}
use Rattle.fab_base.specs.Stamps.{stamp_below, stamp_same, first_stamp}
use Rattle.fab_base.proofs.StampOrder.{stamp_below_first, stamp_neither_below, stamp_same_refl}
use Rattle.reg_model.specs.declared.marks.Mark.{Mark}
use Rattle.reg_model.specs.declared.entries.Entry.{Entry}
use Rattle.reg_model.specs.Marks.{Ending, Answered, Interrupted, Unended, Life, life_of, IsUnended, end_of, is_of_stripe, concerns, stripe_marks}
use Rattle.reg_model.specs.Strict.{IsAnswered, WasAnswered, IsRead, data_of, after_life, IsStrict}
use Rattle.reg_model.specs.Registers.{after_op, read_of}
use Rattle.reg_model.proofs.Bases.{EachNext, IsMadeOn, IsEffective, AreEffective, versions_of}
use Rattle.reg_model.specs.Walk.{turn_below, entry_below, begin_of, last_of}
use Rattle.reg_model.proofs.WalkFacts.{OnlyReads, HasTurn, IsMade, IsOfVersion, Follows, WalkFacts}
use Rattle.reg_model.proofs.Chains.{each_next_from_made}
use Rattle.reg_model.proofs.EntryOrder.{entry_order}
use Rattle.reg_model.proofs.Walk.{walk_is_strict}
use Rattle.fab_base.specs.Layouts.{Group, group_of}
use Rattle.protocol.specs.Views.{Views}
use Rattle.protocol.specs.Settings.{Setting}
use Rattle.protocol.specs.Worlds.{World, Operation, own_mark}
use Rattle.protocol.specs.Happenings.{is_of, entries_to, is_marked, was_answered, writes, is_told, base_of, ascending, Effect, effect_of, by_mark, walk_of, happenings_of}
use Rattle.protocol_laws.proofs.ByMarks.{mapped_from, mapped_has, mapped_pairs, not_before_from, turn_kept, marks_order, marks_apart}
use Rattle.protocol_laws.proofs.Books.{Books, LifeBooks, IsOperation}
use Rattle.protocol_laws.proofs.Chains.{above_first, base_in, base_is, entries_ours, has_entry, stripe_of, maker_facts, one_maker, IsAnsweredVersion, base_facts, maker_swept, versions_effective, MadeVersion, maker_entry, maker_reads, complete, are_effective, version_made}
use Rattle.protocol_laws.proofs.Effects.{IsSwept, answered_swept, told_all, told_pairs, told_told, told_versions}
use Rattle.protocol_laws.proofs.Entries.{AreApart, IsEntryOf, entry_of, entries_apart, numbers_distinct, Contains-number}
use Rattle.reg_model.proofs.GrowingLives.{EndingStays, EndingStays-answered_before, LifeStays}
use Rattle.protocol_laws.proofs.QuorumFacts.{QuorumFacts, MakerFacts, BaseSays}
use Rattle.reg_model.proofs.RisingMarks.{RisesFrom, RisesFrom-increasing, RisesFrom-filter, NumbersRise, NumbersRise-increasing, NumbersRise-filter, life_within, begins_before_open, begins_in_order}
use Rattle.protocol_laws.proofs.Said.{WritesWhole}
use Rattle.protocol_laws.proofs.Sorting.{InOrder, ascending_order, ascending_apart, IsSortedBy-from_order}
use Rattle.reg_model.proofs.StripeLives.{life_filtered, none_filtered, others_filtered, numbers_from_one}

-- what an answered operation was answered is what was to be read
reads_data : (wanted : Option (List ℕ)) (ending : Ending)
    → ((p : ℕ) (bytes : List ℕ) → ending ≡ Answered p (Data bytes) → wanted ≡ Some bytes) → IsRead wanted (data_of ending)
reads_data None ending h = tt
reads_data (Some content) (Answered p (Data bytes)) h = sym (same_Some content bytes (h p bytes refl))
reads_data (Some content) (Answered p Done) h = tt
reads_data (Some content) (Answered p (Aborted cause)) h = tt
reads_data (Some content) (Interrupted p) h = tt
reads_data (Some content) (Unended past) h = tt

-- an operation that does not write only reads, and leaves the registers
only_reads : (op : Op) → writes op ≡ false → OnlyReads op
only_reads (ReadBlock j) reads = tt
only_reads ReadStripe reads = tt
only_reads (WriteBlock j bytes) reads = absurd (let never : true ≡ false = reads in cc)
only_reads (WriteStripe bytes) reads = absurd (let never : true ≡ false = reads in cc)

reads_leave : (block : ℕ) (op : Op) (registers : List ℕ) → writes op ≡ false → after_op block op registers ≡ registers
reads_leave block (ReadBlock j) registers reads = refl
reads_leave block ReadStripe registers reads = refl
reads_leave block (WriteBlock j bytes) registers reads = absurd (let never : true ≡ false = reads in cc)
reads_leave block (WriteStripe bytes) registers reads = absurd (let never : true ≡ false = reads in cc)

-- an ending in the stripe's marks that is an answer is that answer in all marks
answer_before : (e later : Ending) (p : ℕ) (answer : Answer) → EndingStays e later → later ≡ Answered p answer → e ≡ Answered p answer
answer_before (Answered q a) later p answer stays is = sym stays ∙ is
answer_before (Interrupted q) later p answer stays is = absurd (let never : Interrupted q ≡ Answered p answer = sym stays ∙ is in cc)
answer_before (Unended past) later p answer stays is = absurd (subst (λ (x : Ending). IsUnended x) is stays)

interrupted_before : (e later : Ending) (p : ℕ) → EndingStays e later → later ≡ Interrupted p → e ≡ Interrupted p
interrupted_before (Answered q a) later p stays is = absurd (let never : Answered q a ≡ Interrupted p = sym stays ∙ is in cc)
interrupted_before (Interrupted q) later p stays is = sym stays ∙ is
interrupted_before (Unended past) later p stays is = absurd (subst (λ (x : Ending). IsUnended x) is stays)

-- what is not before an entry has no smaller stamp, and of the same version no earlier turn
not_before : (a b : Entry) → entry_below b a ≡ false
    → (stamp_below b.stamp a.stamp ≡ false) × (b.stamp ≡ a.stamp → turn_below b.reader b.operation a.reader a.operation ≡ false)
unfolding entry_below
not_before a b h =
    let parts = or_parts _ _ h in (
      parts.0,
      λ same. ⊎_elim
          (λ (differ : stamp_same b.stamp a.stamp ≡ false). absurd (both_ways (stamp_same b.stamp a.stamp) differ
          (subst (λ (t : Stamp). stamp_same b.stamp t ≡ true) same (stamp_same_refl b.stamp))))
          (λ (turn : turn_below b.reader b.operation a.reader a.operation ≡ false). turn)
          (and_cases _ _ parts.1),
    )

-- of two readers of one version, the later is of no smaller number; no maker is after a reader
reader_after : (reader : Bool) (k n : ℕ) → turn_below reader k true n ≡ false → n ≤ k
reader_after false k n h = absurd (let never : true ≡ false = h in cc)
reader_after true k n h = ltb-false k n h

module _ (setting : Setting) (views : Views) (w : World) (g s : ℕ) (books : Books setting w) (facts : QuorumFacts setting views w) where
  -- the stripe's marks, its entries in order, what the sweep finds of them, and the walk
  abbrev marks : List Mark
  marks = stripe_marks g s w.marks

  abbrev entries : List Entry
  entries = ascending (entries_to w.operations g s w.begun)

  abbrev effect : Effect
  effect = effect_of w.operations (ascending (entries_to w.operations g s w.begun))

  abbrev walk : List Entry
  walk = (effect_of w.operations (ascending (entries_to w.operations g s w.begun))).told

  abbrev content : Stamp → List ℕ
  content = w.contents g s

  abbrev versions : List Stamp
  versions = versions_of (effect_of w.operations (ascending (entries_to w.operations g s w.begun))).versions

  abbrev base : Stamp → Option Stamp
  base t = base_in w.operations (ascending (entries_to w.operations g s w.begun)) t

  abbrev IsOurs : Entry → Type 0
  IsOurs e = IsEntryOf w.operations g s e

  all_rise : RisesFrom 0 w.marks
  all_rise = RisesFrom-increasing w.marks books.well_formed.positions_rise

  all_numbers : NumbersRise 0 w.marks
  all_numbers = NumbersRise-increasing w.marks (numbers_from_one w.marks (λ n life is. (books.lives n life is).0)) books.well_formed.numbers_rise

  rise : RisesFrom 0 marks
  rise = RisesFrom-filter (concerns g s w.marks) w.marks 0 all_rise

  numbers : NumbersRise 0 marks
  numbers = NumbersRise-filter (concerns g s w.marks) w.marks 0 all_numbers

  -- the walk by the numbers of marks
  abbrev marked_walk : List Entry
  marked_walk = map (by_mark w.operations) (effect_of w.operations (ascending (entries_to w.operations g s w.begun))).told

  -- the life of an operation of the stripe that has marks, in all marks and in the stripe's
  record StripeLife (o : Operation) : Type 0 where
    full : Life
    full_is : life_of w.marks o.mark ≡ Some full
    begin : full.begin ≡ o.begin
    ask : full.ask ≡ o.ask
    life : Life
    life_is : life_of marks o.mark ≡ Some life
    stays : LifeStays full life
    answered : IsAnswered full.ending → o.answered ≡ true

  stripe_life : (n : ℕ) (o : Operation) → IsOperation w n o → is_of g s o ≡ true → 1 ≤ o.mark → StripeLife o
  stripe_life n o is of marked =
      let mine : LifeBooks w o = (books.operations n o is).lived marked in
      let own : is_of_stripe g s (Some mine.life) ≡ true = ap (λ a. nat_eq a.group.0 g && nat_eq a.stripe.0 s) mine.ask ∙ of in
      let found = life_filtered g s w.marks o.mark (ap (is_of_stripe g s) mine.life_is ∙ own) w.marks mine.life mine.life_is own in
      record { full = mine.life; full_is = mine.life_is; begin = mine.begin; ask = mine.ask; life = found.0; life_is = found.1; stays = found.2; answered = mine.answered_only }

  -- marks that have a life in the stripe's are of one of its operations
  record IsMarkOf (m : ℕ) : Type 0 where
    number : ℕ
    operation : Operation
    is : IsOperation w number operation
    mark : operation.mark ≡ m
    marked : 1 ≤ operation.mark
    of : is_of g s operation ≡ true

  stripe_operation : (m : ℕ) (l : Life) → life_of marks m ≡ Some l → IsMarkOf m
  stripe_operation m l is = found (life_of w.marks m) refl
    where
      found : (x : Option Life) → life_of w.marks m ≡ x → IsMarkOf m
      found None none = absurd (none-some l (sym (none_filtered (concerns g s w.marks) w.marks m none) ∙ is))
      found (Some life) at =
          let bounds = books.lives m life at in
          let begun = books.own.each m bounds.0 bounds.1 in
          let marked : 1 ≤ begun.1.mark = omega (arith, begun.3, bounds.0) in
          let mine : LifeBooks w begun.1 = (books.operations begun.0 begun.1 begun.2).lived marked in
          ⊎_elim
          (λ (of : is_of g s begun.1 ≡ true).
          record { number = begun.0; operation = begun.1; is = begun.2; mark = begun.3; marked = marked; of = of })
          (λ (other : is_of g s begun.1 ≡ false).
          let foreign : is_of_stripe g s (Some mine.life) ≡ false = ap (λ a. nat_eq a.group.0 g && nat_eq a.stripe.0 s) mine.ask ∙ other in
          let none : life_of marks begun.1.mark ≡ None = others_filtered g s w.marks w.marks 0 begun.1.mark mine.life all_numbers mine.life_is foreign in
          absurd (none-some l (sym (ap (λ (x : ℕ). life_of marks x) (sym begun.3) ∙ none) ∙ is)))
          (cases_Bool (is_of g s begun.1))

  -- each entry of the walk is one of the stripe's
  walk_ours : All IsOurs walk
  walk_ours = told_all w.operations IsOurs entries (entries_ours setting views w g s books facts)

  -- each entry of the walk stands among all entries
  walk_entries : All (Contains entries) walk
  walk_entries = told_all w.operations (Contains entries) entries (All-contains_itself entries)

  -- the walk is in order
  walk_order : InOrder walk
  walk_order =
      told_pairs w.operations (λ a b. entry_below b a ≡ false) entries (ascending_order (entries_to w.operations g s w.begun))

  -- and no two of its entries are of one operation
  walk_apart : AllPairs AreApart walk
  walk_apart =
      told_pairs w.operations AreApart entries
      (ascending_apart (entries_to w.operations g s w.begun) (entries_apart w.operations g s w.begun))

  -- an entry of the walk is of an operation of the stripe that has marks
  record IsWalked (e : Entry) : Type 0 where
    ours : IsOurs e
    marked : 1 ≤ ours.operation.mark

  has_marks : (o : Operation) → is_told (Some o) ≡ true → 1 ≤ o.mark
  has_marks o told = let less : 0 < o.mark = ltb-true 0 o.mark (and_parts (is_marked o) (o.answered || writes o.ask.op) told).0 in omega arith

  walked : All IsWalked walk
  walked k d lt =
      let e : Entry = get_or walk k d in
      let ours : IsOurs e = walk_ours k d lt in
      let told : is_told (w.operations e.operation) ≡ true = told_told w.operations entries k d lt in
      record { ours = ours; marked = has_marks ours.operation (sym (ap (λ (o : Option Operation). is_told o) ours.is) ∙ told) }

  -- by its marks it has their number
  mark_is : (e : Entry) (ours : IsOurs e) → (by_mark w.operations e).operation ≡ ours.operation.mark
  mark_is e ours = ap (λ (o : Option Operation). own_mark e.operation o) ours.is

  -- of two entries, the order by marks is that by numbers
  marks_rise : (a b : Entry) → IsWalked a → IsWalked b → a.operation ≤ b.operation → (by_mark w.operations a).operation ≤ (by_mark w.operations b).operation
  marks_rise a b first second most =
      let rise : first.ours.operation.mark ≤ second.ours.operation.mark
      = marks_order w.marked w.operations books.own a.operation b.operation first.ours.operation second.ours.operation first.ours.is second.ours.is first.marked second.marked most in
      omega (arith, mark_is a first.ours, mark_is b second.ours, rise)

  -- the walk by the numbers of marks is in order
  marked_order : InOrder marked_walk
  marked_order = mapped_pairs (λ (a b : Entry). entry_below b a ≡ false) (by_mark w.operations) walk
      (λ i j d lt le. after (get_or walk i d) (get_or walk j d) (walked i d (omega arith)) (walked j d le) (walk_order i j d lt le))
    where
      after : (a b : Entry) → IsWalked a → IsWalked b → entry_below b a ≡ false → entry_below (by_mark w.operations b) (by_mark w.operations a) ≡ false
      after a b first second order =
          let parts = not_before a b order in
          not_before_from (by_mark w.operations b) (by_mark w.operations a) parts.0
          (λ same. turn_kept b.reader a.reader b.operation a.operation (by_mark w.operations b).operation (by_mark w.operations a).operation
          (marks_rise a b first second) (parts.1 same))

  -- and no two of its entries are of the same marks
  marked_apart : AllPairs AreApart marked_walk
  marked_apart = mapped_pairs AreApart (by_mark w.operations) walk
      (λ i j d lt le. apart (get_or walk i d) (get_or walk j d) (walked i d (omega arith)) (walked j d le) (walk_apart i j d lt le))
    where
      apart : (a b : Entry) → IsWalked a → IsWalked b → a.operation ≢ b.operation → (by_mark w.operations a).operation ≢ (by_mark w.operations b).operation
      apart a b first second differ same =
          marks_apart w.marked w.operations books.own a.operation b.operation first.ours.operation second.ours.operation first.ours.is second.ours.is first.marked
          second.marked differ (sym (mark_is a first.ours) ∙ same ∙ mark_is b second.ours)

  -- what an operation of the stripe was answered is what it reads of its version's content
  reads_right : (n : ℕ) (o : Operation) (t : Stamp) (l : StripeLife o) → IsOperation w n o → is_of g s o ≡ true → o.version ≡ Some t
      → IsRead (read_of setting.layout.block o.ask.op (w.contents g s t)) (data_of l.life.ending)
  reads_right n o t l is of version =
      let at : (o.ask.group.0 ≡ g) × (o.ask.stripe.0 ≡ s) = stripe_of setting views w g s books facts o of in
      let same : w.contents o.ask.group.0 o.ask.stripe.0 t ≡ w.contents g s t
      = ap (λ (x : ℕ). w.contents x o.ask.stripe.0 t) at.0 ∙ ap (λ (y : ℕ). w.contents g y t) at.1 in
      reads_data (read_of setting.layout.block o.ask.op (w.contents g s t)) l.life.ending
      (λ p bytes ending.
      ap (λ (z : List ℕ). read_of setting.layout.block o.ask.op z) (sym same)
      ∙ facts.answered_data n o t l.full p bytes is version l.full_is (answer_before l.full.ending l.life.ending p (Data bytes) l.stays.ending ending))

  -- what an operation's life asks
  life_op : (o : Operation) (l : StripeLife o) → l.life.ask.op ≡ o.ask.op
  life_op o l = ap (λ a. a.op) (l.stays.ask ∙ l.ask)

  -- an operation makes or reads its version's content
  turn_right : (n : ℕ) (o : Operation) (t : Stamp) (l : StripeLife o) → IsOperation w n o → is_of g s o ≡ true → o.version ≡ Some t
      → IsRead (read_of setting.layout.block l.life.ask.op (w.contents g s t)) (data_of l.life.ending)
  turn_right n o t l is of version =
      subst (λ (x : Op). IsRead (read_of setting.layout.block x (w.contents g s t)) (data_of l.life.ending)) (sym (life_op o l))
      (reads_right n o t l is of version)

  turn_of : (n : ℕ) (o : Operation) (t : Stamp) (l : StripeLife o) (made : Bool) → IsOperation w n o → is_of g s o ≡ true → o.version ≡ Some t
      → o.made ≡ made
      → HasTurn setting.layout.block (w.contents g s t) (not made) (Some l.life)
  turn_of n o t l true is of version made = turn_right n o t l is of version
  turn_of n o t l false is of version made = (
    only_reads l.life.ask.op (ap (λ (x : Op). writes x) (life_op o l) ∙ (facts.reader n o t is made version).op),
    turn_right n o t l is of version,
  )

  -- an entry's turn, by its marks
  abbrev TakesTurn : Entry → Type 0
  TakesTurn e = HasTurn setting.layout.block (w.contents g s e.stamp) e.reader (life_of marks e.operation)

  walk_turns : All (λ (e : Entry). HasTurn setting.layout.block (w.contents g s e.stamp) e.reader (life_of marks e.operation)) marked_walk
  walk_turns = All-map TakesTurn (by_mark w.operations) walk
      (All-weaker IsWalked (λ (e : Entry). TakesTurn (by_mark w.operations e)) (λ e mine. turn e mine.ours mine.marked) walk walked)
    where
      turn : (e : Entry) (ours : IsOurs e) → 1 ≤ ours.operation.mark → TakesTurn (by_mark w.operations e)
      turn e ours marked =
          let l : StripeLife ours.operation = stripe_life e.operation ours.operation ours.is ours.of marked in
          subst (λ (x : Option Life). HasTurn setting.layout.block (w.contents g s e.stamp) e.reader x)
          (sym (ap (λ (n : ℕ). life_of marks n) (mark_is e ours) ∙ l.life_is))
          (subst (λ (x : Bool). HasTurn setting.layout.block (w.contents g s e.stamp) x (Some l.life)) (sym ours.reader)
          (turn_of e.operation ours.operation e.stamp l ours.operation.made ours.is ours.of ours.version refl))

  -- an entry of the walk is of an effective version, or reads the first one
  walk_versions : All (IsOfVersion versions) walk
  walk_versions k d lt =
      let e : Entry = get_or walk k d in
      let ours : IsOurs e = walk_ours k d lt in
      let effective = All-contains (λ (t : Stamp). IsEffective (IsAnsweredVersion setting views w g s books facts) base t) effect.versions e.stamp
      (versions_effective setting views w g s books facts) (told_versions w.operations entries k d lt) in
      ⊎_elim
      (λ (above : stamp_below first_stamp e.stamp ≡ true). inl ((are_effective setting views w g s books facts).complete e.stamp effective above))
      (λ (not_above : stamp_below first_stamp e.stamp ≡ false). inr (
        sym (stamp_neither_below first_stamp e.stamp not_above (stamp_below_first e.stamp)),
        ⊎_elim (λ (reads : e.reader ≡ true). reads)
            (λ (maker : e.reader ≡ false).
            absurd (both_ways (stamp_below first_stamp e.stamp) not_above (maker_facts setting views w g s books facts e ours maker).later))
            (cases_Bool e.reader),
      ))
      (cases_Bool (stamp_below first_stamp e.stamp))

  -- so is one by its marks
  marked_versions : All (IsOfVersion versions) marked_walk
  marked_versions = All-map (IsOfVersion versions) (by_mark w.operations) walk walk_versions

  -- an operation that is not told reads
  untold_reads : (n : ℕ) (o : Operation) → IsOperation w n o → is_told (Some o) ≡ false → writes o.ask.op ≡ false
  untold_reads n o is untold = ⊎_elim
      (λ (none : o.mark ≡ 0). ap (λ (x : Op). writes x) ((books.operations n o is).unmarked none).op)
      (λ (some : o.mark ≢ 0).
      let marked : is_marked o ≡ true = lt-ltb 0 o.mark (omega (arith, some)) in
      (or_parts o.answered (writes o.ask.op) (sym (ap (λ (b : Bool). b && (o.answered || writes o.ask.op)) marked) ∙ untold)).1)
      (cases_eq o.mark 0)

  -- how an effective version came from the one before it, by its maker that the sweep found
  follows_by : (u v : Stamp) → IsMadeOn base u v → (r : Entry) → Contains entries r → r.reader ≡ false → r.stamp ≡ v
      → IsSwept w.operations effect r → Follows setting.layout.block marks (w.contents g s) marked_walk u v
  follows_by u v on r has maker stamp swept = subst (λ (t : Stamp). Follows setting.layout.block marks (w.contents g s) marked_walk u t) stamp
      (by facts_of.how)
    where
      mine : IsOurs r
      mine = All-contains IsOurs entries r (entries_ours setting views w g s books facts) has

      facts_of : MakerFacts setting views w mine.operation r.stamp
      facts_of = maker_facts setting views w g s books facts r mine maker

      at : (mine.operation.ask.group.0 ≡ g) × (mine.operation.ask.stripe.0 ≡ s)
      at = stripe_of setting views w g s books facts mine.operation mine.of

      content_of : (t : Stamp) → w.contents mine.operation.ask.group.0 mine.operation.ask.stripe.0 t ≡ w.contents g s t
      content_of t = ap (λ (x : ℕ). w.contents x mine.operation.ask.stripe.0 t) at.0 ∙ ap (λ (y : ℕ). w.contents g y t) at.1

      -- the maker stands in the walk, and changes the content so
      made_from : is_told (Some mine.operation) ≡ true
          → w.contents g s r.stamp ≡ after_op setting.layout.block mine.operation.ask.op (w.contents g s u)
          → Follows setting.layout.block marks (w.contents g s) marked_walk u r.stamp
      made_from told changes =
          let its : StripeLife mine.operation = stripe_life r.operation mine.operation mine.is mine.of (has_marks mine.operation told) in
          let stands : Contains marked_walk (by_mark w.operations r)
          = mapped_has (by_mark w.operations) walk r (swept.told (ap (λ (o : Option Operation). is_told o) mine.is ∙ told)) in
          inl (
            stands.0,
            by_mark w.operations r,
            stands.1,
            stands.2,
            (
              (maker, refl),
              subst (λ (x : Option Life). w.contents g s r.stamp ≡ after_life setting.layout.block (w.contents g s u) x)
                  (sym (ap (λ (n : ℕ). life_of marks n) (mark_is r mine) ∙ its.life_is))
                  (changes
                  ∙ sym (ap (λ (x : Op). after_op setting.layout.block x (w.contents g s u)) (life_op mine.operation its))),
            ),
          )

      -- what was read back is the version before
      base_is_u : (says : BaseSays setting views w mine.operation r.stamp) → says.base ≡ u
      base_is_u says =
          let is : base r.stamp ≡ Some says.base
          = base_is setting views w g s books facts r has maker ∙ ap (λ (o : Option Operation). base_of o) mine.is ∙ says.base_is in
          ⊎_elim
          (λ (none : base v ≡ None). absurd (let never : None ≡ Some says.base = sym none ∙ ap (λ (t : Stamp). base t) (sym stamp) ∙ is in cc))
          (λ (some : base v ≡ Some u). same_Some says.base u (sym is ∙ ap (λ (t : Stamp). base t) stamp ∙ some))
          on

      -- no other operation made the version
      unmade : is_told (Some mine.operation) ≡ false → IsMade marked_walk r.stamp → ⊥
      unmade untold (k, x, lt, is, made) =
          let from = mapped_from (by_mark w.operations) walk x (k, lt, is) in
          let e : Entry = from.0 in
          let e_has : Contains entries e = All-contains (Contains entries) walk e walk_entries from.1 in
          let one : e.operation ≡ r.operation
          = one_maker setting views w g s books facts e r e_has has (ap (λ (y : Entry). y.reader) from.2 ∙ made.0) maker
          (ap (λ (y : Entry). y.stamp) from.2 ∙ made.1) in
          let told : is_told (w.operations e.operation) ≡ true
          = All-contains (λ (y : Entry). is_told (w.operations y.operation) ≡ true) walk e (told_told w.operations entries) from.1 in
          both_ways (is_told (Some mine.operation)) untold
          (sym (ap (λ (o : Option Operation). is_told o) (ap w.operations one ∙ mine.is)) ∙ told)

      by : WritesWhole w mine.operation r.stamp ⊎ BaseSays setting views w mine.operation r.stamp → Follows setting.layout.block marks
          (w.contents g s) marked_walk u r.stamp
      by (inl whole) = ⊎_elim
          (λ (told : is_told (Some mine.operation) ≡ true).
          made_from told (sym (ap (λ (x : Op). after_op setting.layout.block x (w.contents g s u)) whole.1 ∙ content_of r.stamp)))
          (λ (untold : is_told (Some mine.operation) ≡ false).
          absurd (both_ways (writes mine.operation.ask.op) (untold_reads r.operation mine.operation mine.is untold) (ap (λ (x : Op). writes x) whole.1)))
          (cases_Bool (is_told (Some mine.operation)))
      by (inr says) =
          let op : Op = mine.operation.ask.op in
          let changes : w.contents g s r.stamp ≡ after_op setting.layout.block op (w.contents g s u)
          = sym (content_of r.stamp) ∙ says.content
          ∙ ap (λ (z : List ℕ). after_op setting.layout.block op z) (content_of says.base ∙ ap (λ (t : Stamp). w.contents g s t) (base_is_u says)) in
          ⊎_elim
          (λ (told : is_told (Some mine.operation) ≡ true). made_from told changes)
          (λ (untold : is_told (Some mine.operation) ≡ false).
          let reads : writes op ≡ false = untold_reads r.operation mine.operation mine.is untold in
          inr (unmade untold, changes ∙ reads_leave setting.layout.block op (w.contents g s u) reads))
          (cases_Bool (is_told (Some mine.operation)))

  -- each effective version came so from the one before it
  follows : (u v : Stamp) → IsEffective (IsAnsweredVersion setting views w g s books facts) base v → IsMadeOn base u v → stamp_below first_stamp v ≡ true
      → Follows setting.layout.block marks (w.contents g s) marked_walk u v
  follows u v effective on above =
      let has : Contains effect.versions v = complete setting views w g s books facts v effective above in
      let made : MadeVersion setting views w g s books facts v = version_made setting views w g s books facts v has above in
      let swept = maker_swept setting views w g s books facts v has (entry_of made.number made.operation v) (maker_entry setting views w g s books facts v made)
      (maker_reads setting views w g s books facts v made) refl in
      follows_by u v on swept.0 swept.1 swept.2 swept.3 swept.4

  each_follows : EachNext (Follows setting.layout.block marks (w.contents g s) marked_walk) versions
  each_follows k d inside =
      let are : AreEffective (IsAnsweredVersion setting views w g s books facts) base versions = are_effective setting views w g s books facts in
      each_next_from_made (IsAnsweredVersion setting views w g s books facts) base (base_facts setting views w g s books facts)
      (λ (u v : Stamp). stamp_below first_stamp v ≡ true → Follows setting.layout.block marks (w.contents g s) marked_walk u v) versions are
      (λ u v effective on above. follows u v effective on above) k d inside
      (above_first _ _ (are.ascend k d inside))

  -- the marks of each answered operation are in it
  walk_answered : (m : ℕ) → WasAnswered (life_of marks m) → Contains (map (λ (e : Entry). e.operation) marked_walk) m
  walk_answered m answered = stands (life_of marks m) refl answered
    where
      stands : (x : Option Life) → life_of marks m ≡ x → WasAnswered x → Contains (map (λ (e : Entry). e.operation) marked_walk) m
      stands None none never = absurd never
      stands (Some life) is ended =
          let its : IsMarkOf m = stripe_operation m life is in
          let o : Operation = its.operation in
          let l : StripeLife o = stripe_life its.number o its.is its.of its.marked in
          let same : life ≡ l.life = same_Some life l.life (sym is ∙ ap (λ (x : ℕ). life_of marks x) (sym its.mark) ∙ l.life_is) in
          let was : o.answered ≡ true = l.answered (EndingStays-answered_before l.full.ending l.life.ending l.stays.ending
          (subst (λ (x : Life). IsAnswered x.ending) same ended)) in
          let marked : is_marked o ≡ true = lt-ltb 0 o.mark (omega (arith, its.marked)) in
          let version = (books.operations its.number o its.is).answered_version was in
          let e : Entry = entry_of its.number o version.0 in
          let swept : IsSwept w.operations effect e = answered_swept w.operations entries e
          (has_entry setting views w g s books facts its.number o version.0 its.is its.of version.1)
          (ap (λ (x : Option Operation). was_answered x) its.is ∙ and_from _ _ marked was) in
          let has : Contains walk e = swept.told (ap (λ (x : Option Operation). is_told x) its.is ∙ and_from _ _ marked (or_left o.answered _ was)) in
          subst (λ (x : ℕ). Contains (map (λ (y : Entry). y.operation) marked_walk) x)
          (ap (λ (x : Option Operation). own_mark its.number x) its.is ∙ its.mark)
          (Contains-number marked_walk (by_mark w.operations e) (mapped_has (by_mark w.operations) walk e has))

  -- an operation that ended did not end before one that stands no later in the walk began
  in_time_ended : (a b : Entry) (first : IsWalked a) (second : IsWalked b) (one : StripeLife first.ours.operation)
      (other : StripeLife second.ours.operation)
      → entry_below b a ≡ false → end_of other.life.ending ≡ end_of other.full.ending → one.life.begin ≤ end_of other.life.ending
  in_time_ended a b first second one other order ends = ⊎_elim
      (λ (late : end_of other.life.ending < one.life.begin).
      let last : last_of (life_of w.marks second.ours.operation.mark) ≡ end_of other.life.ending = ap last_of other.full_is ∙ sym ends in
      let begin : one.life.begin ≡ first.ours.operation.begin = one.stays.begin ∙ one.begin in
      let parts = not_before a b order in
      ⊎_elim
      (λ (below : stamp_below b.stamp a.stamp ≡ true). absurd (both_ways (stamp_below b.stamp a.stamp) parts.0 below))
      (λ (same : (b.stamp ≡ a.stamp) × (first.ours.operation.made ≡ false)).
      let reads : a.reader ≡ true = first.ours.reader ∙ ap not same.1 in
      let turn : turn_below b.reader b.operation true a.operation ≡ false =
      subst (λ (x : Bool). turn_below b.reader b.operation x a.operation ≡ false) reads (parts.1 same.0) in
      let numbered : a.operation ≤ b.operation = reader_after b.reader b.operation a.operation turn in
      let within : (0 ≤ other.life.begin) × (other.life.begin < end_of other.life.ending)
      = life_within marks 0 second.ours.operation.mark other.life rise other.life_is in
      ⊎_elim
      (λ (equal : a.operation ≡ b.operation).
      let alike : first.ours.operation ≡ second.ours.operation
      = same_Some first.ours.operation second.ours.operation (sym first.ours.is ∙ ap w.operations equal ∙ second.ours.is) in
      let lives : one.life ≡ other.life
      = same_Some one.life other.life (sym one.life_is ∙ ap (λ (o : Operation). life_of marks o.mark) alike ∙ other.life_is) in
      let begins : one.life.begin ≡ other.life.begin = ap (λ (x : Life). x.begin) lives in
      omega (arith, within.1))
      (λ (differ : a.operation ≢ b.operation).
      let less : first.ours.operation.mark < second.ours.operation.mark
      = books.own.in_turn a.operation b.operation first.ours.operation second.ours.operation first.ours.is second.ours.is first.marked second.marked
      (omega (arith, differ, numbered)) in
      let begins : one.life.begin < other.life.begin =
      begins_in_order marks 0 0 first.ours.operation.mark second.ours.operation.mark one.life other.life rise numbers less one.life_is other.life_is in
      omega (arith, within.1))
      (cases_eq a.operation b.operation))
      (facts.real_time g s b.operation a.operation second.ours.operation first.ours.operation b.stamp a.stamp second.ours.is first.ours.is second.ours.of
      first.ours.of second.ours.version first.ours.version second.marked (omega arith)))
      (λ (early : one.life.begin ≤ end_of other.life.ending). early)
      (cases_lt (end_of other.life.ending) one.life.begin)

  in_time : (a b : Entry) (first : IsWalked a) (second : IsWalked b) (one : StripeLife first.ours.operation) (other : StripeLife second.ours.operation)
      → entry_below b a ≡ false → (e : Ending) → other.life.ending ≡ e → one.life.begin ≤ end_of other.life.ending
  in_time a b first second one other order (Answered p answer) ends =
      in_time_ended a b first second one other order
      (ap end_of ends ∙ sym (ap end_of (answer_before other.full.ending other.life.ending p answer other.stays.ending ends)))
  in_time a b first second one other order (Interrupted p) ends =
      in_time_ended a b first second one other order
      (ap end_of ends ∙ sym (ap end_of (interrupted_before other.full.ending other.life.ending p other.stays.ending ends)))
  in_time a b first second one other order (Unended past) ends =
      let before : one.life.begin < past =
      begins_before_open marks 0 second.ours.operation.mark past first.ours.operation.mark other.life one.life rise other.life_is ends one.life_is in
      let at : end_of other.life.ending ≡ past = ap end_of ends in
      omega arith

  walk_real_time : (i j : ℕ) (d : Entry) → i ≤ j → j < length marked_walk
      → begin_of (life_of marks (get_or marked_walk i d).operation) ≤ last_of (life_of marks (get_or marked_walk j d).operation)
  walk_real_time i j d le lt =
      let long : length marked_walk ≡ length walk = length-map walk (by_mark w.operations) in
      let a : Entry = get_or walk i d in
      let b : Entry = get_or walk j d in
      let first : IsWalked a = walked i d (omega arith) in
      let second : IsWalked b = walked j d (omega arith) in
      let one : StripeLife first.ours.operation = stripe_life a.operation first.ours.operation first.ours.is first.ours.of first.marked in
      let other : StripeLife second.ours.operation = stripe_life b.operation second.ours.operation second.ours.is second.ours.of second.marked in
      let order : entry_below b a ≡ false = sorted_far entry_below entry_order walk (IsSortedBy-from_order walk walk_order) i j d le (omega arith) in
      subst (λ (x : Option Life). begin_of x ≤ last_of (life_of marks (get_or marked_walk j d).operation))
      (sym (life_at i d (omega arith) first one))
      (subst (λ (x : Option Life). one.life.begin ≤ last_of x) (sym (life_at j d (omega arith) second other))
      (in_time a b first second one other order other.life.ending refl))
    where
      life_at : (k : ℕ) (d : Entry) → k < length walk → (mine : IsWalked (get_or walk k d)) (l : StripeLife mine.ours.operation)
          → life_of marks (get_or marked_walk k d).operation ≡ Some l.life
      life_at k d inside mine l =
          ap (λ (e : Entry). life_of marks e.operation) (get_or-map (by_mark w.operations) walk k d d inside)
          ∙ ap (λ (n : ℕ). life_of marks n) (mark_is (get_or walk k d) mine.ours) ∙ l.life_is

  -- two entries that make one version are of the same marks
  marked_maker : (a b : Entry) → Contains marked_walk a → Contains marked_walk b → a.reader ≡ false → b.reader ≡ false → a.stamp ≡ b.stamp
      → a.operation ≡ b.operation
  marked_maker a b a_has b_has a_maker b_maker same =
      let first = mapped_from (by_mark w.operations) walk a a_has in
      let second = mapped_from (by_mark w.operations) walk b b_has in
      let one : first.0.operation ≡ second.0.operation = one_maker setting views w g s books facts first.0 second.0
      (All-contains (Contains entries) walk first.0 walk_entries first.1) (All-contains (Contains entries) walk second.0 walk_entries second.1)
      (ap (λ (y : Entry). y.reader) first.2 ∙ a_maker) (ap (λ (y : Entry). y.reader) second.2 ∙ b_maker)
      (ap (λ (y : Entry). y.stamp) first.2 ∙ same ∙ sym (ap (λ (y : Entry). y.stamp) second.2)) in
      sym (ap (λ (y : Entry). y.operation) first.2) ∙ ap (λ (n : ℕ). own_mark n (w.operations n)) one ∙ ap (λ (y : Entry). y.operation) second.2

  -- what is known of the walk
  walk_facts : (group : Group) → group_of setting.layout g ≡ Some group
      → WalkFacts group.m setting.layout.block marks (w.contents g s) versions marked_walk
  walk_facts group is = record {
    ascending = IsSortedBy-from_order marked_walk marked_order;
    once = numbers_distinct marked_walk marked_apart;
    versions_ascend = (are_effective setting views w g s books facts).ascend;
    of_versions = marked_versions;
    one_maker = λ stamp a b a_has b_has a_makes b_makes.
        marked_maker a b a_has b_has a_makes.0 b_makes.0 (a_makes.1 ∙ sym b_makes.1);
    turns = walk_turns;
    first_is_zero = facts.first g s group is;
    each_follows = each_follows;
    answered_stand = walk_answered;
    real_time = walk_real_time;
  }

  -- the stripe's happenings are strict
  pub happenings_strict : (group : Group) → group_of setting.layout g ≡ Some group
      → IsStrict group.m setting.layout.block marks (happenings_of w g s)
  unfolding happenings_of walk_of
  happenings_strict group is = walk_is_strict group.m setting.layout.block marks (w.contents g s) versions marked_walk (walk_facts group is)
