-- The printed happenings of stripes: they read back, rise by group and stripe, are few, and are those of the world.
use Rattle.std.proofs.Common.{◌≡◌, ◌≢◌, ℕ, zero, suc, ◌+◌, ◌<◌, ◌≤◌, ◌⊎◌, inl, inr, ⊎_elim, Bool, true, false, cond, nat_lt, nat_eq, ◌&&◌, ◌||◌, eqb, List, [], ◌∷◌, ◌++◌, length, map, count_by, filter, Option, Some, None, refl, sym, ap, ◌∙◌, subst, arith, append-nil, append_assoc, length-append}
use Rattle.std.specs.Prelude.{⊤, slice_get}
use Rattle.std.specs.List.{list_any, All}
use Rattle.std.proofs.lemmas.Bool.{and_parts, cond_both, eqb-true, cases_lt, cases_eq}
use Rattle.std.proofs.lemmas.Bool.Decides.{nat_tests}
use Rattle.std.proofs.lemmas.List.{length-map}
use Rattle.std.proofs.lemmas.List.Elements.{All-head, All-tail}
use Rattle.std.proofs.lemmas.Map.Steps.{length-le_from_distinct_below}
use Rattle.std.proofs.lemmas.Option.{same_Some}
use Rattle.fab_base.specs.declared.identities.BrickId.{BrickId}
use Rattle.fab_base.specs.declared.asks.Ask.{Ask}
use Rattle.fab_base.specs.Layouts.{Layout, Group, group_of}
use Rattle.reg_model.specs.declared.marks.Mark.{Mark}
use Rattle.reg_model.specs.declared.marks.Mark.TheVariants.{Begin, End, Crash}
use Rattle.reg_model.specs.declared.marks.Happening.{Happening}
use Rattle.reg_model.specs.Marks.{Life, life_of, Ending, Answered, Interrupted, ending_of, end_of, position_of, concerns, stripe_marks}
use Rattle.reg_model.specs.Strict.{IsInTime, IsStrict}
use Rattle.transcript.specs.declared.claims.ParsedMark.{ParsedMark}
use Rattle.transcript.specs.declared.claims.StripeLine.{StripeLine}
use Rattle.transcript.specs.Kinds.{is_begin}
use Rattle.transcript.specs.Transcripts.{text_behind, most_lines}
use Rattle.reg_model.proofs.StripeLives.{filter_place, none_filtered}
use Rattle.audit.specs.Checks.{happenings_said}
use Rattle.printed.specs.Outputs.{happened_text, stripes_of}
use Rattle.printed.proofs.LineTexts.{text_of_lines, lines_both, one_line_text, AreClear, clear_all}
use Rattle.printed.specs.Spellings.{IsSmall}
use Rattle.printed.proofs.OtherLines.{HappeningReads, AllRead, happened_line, happened_ends}
use Rattle.printed.proofs.PrintedMarks.{count_yes, count_no}
use Rattle.printed.proofs.Reading.{Reads, reads_both, of_stripes, AreBefore, before_both, before_stripe, before_group, stripe_lines, stripe_contents, StripeReads, stripe_clear, stripe_read}

-- where lives end

-- the positions of marks are below this
abbrev pub AreBelow : ℕ → List Mark → Type 0
AreBelow most [] = ⊤
AreBelow most (mark ∷ marks) = (position_of mark < most) × AreBelow most marks

-- those of marks at their places
pub below_placed : (most from : ℕ) (marks : List Mark) → ((k : ℕ) (mark : Mark) → slice_get marks k ≡ Some mark → position_of mark ≡ from + k)
    → from + length marks ≤ most → AreBelow most marks
below_placed most from [] placed few = tt
below_placed most from (mark ∷ marks) placed few = (
  let here = placed 0 mark refl in omega (arith, here, few),
  below_placed most (from + 1) marks (λ k one at. let there = placed (suc k) one at in omega (arith, there)) (omega (arith, few)),
)

-- those of some of them
below_filter : (most : ℕ) (test : Mark → Bool) (marks : List Mark) → AreBelow most marks → AreBelow most (filter test marks)
below_filter most test [] below = tt
below_filter most test (mark ∷ marks) below =
    cond_both (test mark) (mark ∷ filter test marks) (filter test marks) (λ (l : List Mark). AreBelow most l)
    (λ own. (below.0, below_filter most test marks below.1)) (λ other. below_filter most test marks below.1)

-- so an operation's end is no later
ending_low : (marks : List Mark) (n brick past most : ℕ) → past ≤ most → AreBelow most marks → end_of (ending_of marks n brick past) ≤ most
ending_low [] n brick past most le below = le
ending_low (Begin p k b ask ∷ marks) n brick past most le below =
    ending_low marks n brick (p + 1) most (let low = below.0 in omega arith) below.1
ending_low (End p k answer ∷ marks) n brick past most le below =
    cond_both (nat_eq k n) (Answered p answer) (ending_of marks n brick (p + 1)) (λ (e : Ending). end_of e ≤ most)
    (λ its. let low = below.0 in omega arith) (λ other. ending_low marks n brick (p + 1) most (let low = below.0 in omega arith) below.1)
ending_low (Crash p b ∷ marks) n brick past most le below =
    cond_both (nat_eq b.0 brick) (Interrupted p) (ending_of marks n brick (p + 1)) (λ (e : Ending). end_of e ≤ most)
    (λ its. let low = below.0 in omega arith) (λ other. ending_low marks n brick (p + 1) most (let low = below.0 in omega arith) below.1)

-- an operation ends no later, where it has begun
abbrev LowLife : ℕ → Option Life → Type 0
LowLife most None = ⊤
LowLife most (Some life) = end_of life.ending ≤ most

-- so it is of each operation
life_low : (marks : List Mark) (n most : ℕ) → AreBelow most marks → LowLife most (life_of marks n)
life_low [] n most below = tt
life_low (Begin p k b ask ∷ marks) n most below =
    cond_both (nat_eq k n) (Some (record { begin = p; brick = b.0; ask = ask; ending = ending_of marks n b.0 (p + 1) })) (life_of marks n)
    (λ (l : Option Life). LowLife most l)
    (λ its. ending_low marks n b.0 (p + 1) most (let low = below.0 in omega arith) below.1) (λ other. life_low marks n most below.1)
life_low (End p k answer ∷ marks) n most below = life_low marks n most below.1
life_low (Crash p b ∷ marks) n most below = life_low marks n most below.1

-- an operation that lives has its Begin
abbrev HasBegin : List Mark → ℕ → Type 0
HasBegin marks n = (k : ℕ) × (p : ℕ) × (b : BrickId) × (ask : Ask) × (slice_get marks k ≡ Some (Begin p n b ask))

-- a Begin behind one more mark
later_begin : (mark : Mark) (marks : List Mark) (n : ℕ) → HasBegin marks n → HasBegin (mark ∷ marks) n
later_begin mark marks n has = (suc has.0, has.1, has.2, has.3, has.4)

-- each life begins
life_begins : (marks : List Mark) (n : ℕ) (life : Life) → life_of marks n ≡ Some life → HasBegin marks n
life_begins [] n life is = absurd (let never : None ≡ Some life = is in cc)
life_begins (Begin p k b ask ∷ marks) n life is =
    cond_both (nat_eq k n) (Some (record { begin = p; brick = b.0; ask = ask; ending = ending_of marks n b.0 (p + 1) })) (life_of marks n)
    (λ (l : Option Life). l ≡ Some life → HasBegin (Begin p k b ask ∷ marks) n)
    (λ its e. (0, p, b, ask, ap (λ (i : ℕ). Some (Begin p i b ask)) (eqb-true k n its)))
    (λ other e. later_begin (Begin p k b ask) marks n (life_begins marks n life e)) is
life_begins (End p k answer ∷ marks) n life is = later_begin (End p k answer) marks n (life_begins marks n life is)
life_begins (Crash p b ∷ marks) n life is = later_begin (Crash p b) marks n (life_begins marks n life is)

-- Begins by group and stripe

-- a Begin of a stripe before this one
abbrev pub is_before : ℕ → ℕ → Mark → Bool
is_before g s (Begin p n b ask) = nat_lt ask.group.0 g || (nat_eq ask.group.0 g && nat_lt ask.stripe.0 s)
is_before g s (End p n answer) = false
is_before g s (Crash p b) = false

-- one mark more
less_step : (p q : Mark → Bool) (mark : Mark) (marks : List Mark) (k : ℕ) (a b : Bool) → p mark ≡ a → q mark ≡ b → (a ≡ true → b ≡ true)
    → count_by p marks + k ≤ count_by q marks → count_by p (mark ∷ marks) + k ≤ count_by q (mark ∷ marks)
less_step p q mark marks k true true first second then rest =
    omega (arith, rest, count_yes p mark marks first, count_yes q mark marks second)
less_step p q mark marks k true false first second then rest = absurd (let never : false ≡ true = then refl in cc)
less_step p q mark marks k false true first second then rest =
    omega (arith, rest, count_no p mark marks first, count_yes q mark marks second)
less_step p q mark marks k false false first second then rest =
    omega (arith, rest, count_no p mark marks first, count_no q mark marks second)

-- a test that passes more
pub count_less : (p q : Mark → Bool) (marks : List Mark) → ((mark : Mark) → p mark ≡ true → q mark ≡ true) → count_by p marks + 0 ≤ count_by q marks
count_less p q [] then = omega arith
count_less p q (mark ∷ marks) then = less_step p q mark marks 0 (p mark) (q mark) refl refl (then mark) (count_less p q marks then)

-- and one mark that only it passes
count_more : (p q : Mark → Bool) (marks : List Mark) → ((mark : Mark) → p mark ≡ true → q mark ≡ true) → (k : ℕ) (one : Mark)
    → slice_get marks k ≡ Some one → p one ≡ false → q one ≡ true → count_by p marks + 1 ≤ count_by q marks
count_more p q [] then k one at first second = absurd (let never : None ≡ Some one = at in cc)
count_more p q (mark ∷ marks) then zero one at first second =
    let same : mark ≡ one = same_Some mark one at in
    let rest = count_less p q marks then in
    omega (arith, rest, count_no p mark marks (ap p same ∙ first), count_yes q mark marks (ap q same ∙ second))
count_more p q (mark ∷ marks) then (suc k) one at first second =
    less_step p q mark marks 1 (p mark) (q mark) refl refl (then mark) (count_more p q marks then k one at first second)

-- what is before a stripe is before the next
next_stripe : (g s : ℕ) (mark : Mark) → is_before g s mark ≡ true → is_before g (s + 1) mark ≡ true
next_stripe g s (Begin p n b ask) is = grind (arith, nat_tests)
next_stripe g s (End p n answer) is = is
next_stripe g s (Crash p b) is = is

-- and before the next group
next_group : (g s : ℕ) (mark : Mark) → is_before g s mark ≡ true → is_before (g + 1) 0 mark ≡ true
next_group g s (Begin p n b ask) is = grind (arith, nat_tests)
next_group g s (End p n answer) is = is
next_group g s (Crash p b) is = is

-- it is a Begin
pub all_begins : (g s : ℕ) (mark : Mark) → is_before g s mark ≡ true → is_begin mark ≡ true
all_begins g s (Begin p n b ask) is = refl
all_begins g s (End p n answer) is = is
all_begins g s (Crash p b) is = is

-- what is said of a stripe

-- what is said of a stripe behind lines of those before it
said_right : (xs ys : List StripeLine) (g s : ℕ) → AreBefore xs g s → happenings_said (xs ++ ys) g s ≡ happenings_said ys g s
said_right [] ys g s before = refl
said_right (x ∷ xs) ys g s before =
    ap (λ (b : Bool). cond b x.happenings (happenings_said (xs ++ ys) g s)) (isnt before.0) ∙ said_right xs ys g s before.1
  where
    isnt : ((x.group < g) ⊎ ((x.group ≡ g) × (x.stripe < s))) → (nat_eq x.group g && nat_eq x.stripe s) ≡ false
    isnt (inl lower) = grind (arith, nat_tests)
    isnt (inr here) = grind (arith, nat_tests)

-- what is said of it before lines of others
said_left : (xs ys : List StripeLine) (g s : ℕ) → happenings_said ys g s ≡ [] → happenings_said (xs ++ ys) g s ≡ happenings_said xs g s
said_left [] ys g s none = none
said_left (x ∷ xs) ys g s none =
    ap (λ (l : List Happening). cond (nat_eq x.group g && nat_eq x.stripe s) x.happenings l) (said_left xs ys g s none)

-- its line says its happenings
said_here : (g s : ℕ) (happenings : List Happening) → happenings_said (stripe_lines g s happenings) g s ≡ happenings
said_here g s [] = refl
said_here g s (h ∷ happenings) =
    let test : (nat_eq g g && nat_eq s s) ≡ true = grind (arith, nat_tests) in
    ap (λ (b : Bool). cond b (h ∷ happenings) []) test

-- and nothing of another stripe
said_elsewhere : (g s h t : ℕ) (happenings : List Happening) → (nat_eq g h && nat_eq s t) ≡ false
    → happenings_said (stripe_lines g s happenings) h t ≡ []
said_elsewhere g s h t [] other = refl
said_elsewhere g s h t (first ∷ happenings) other = ap (λ (b : Bool). cond b (first ∷ happenings) []) other

-- each happening reads back where numbers are small

-- each of some
each_reads : (happenings : List Happening) → All (λ (h : Happening). HappeningReads h) happenings → AllRead happenings
each_reads [] all = tt
each_reads (h ∷ happenings) all = (
  All-head (λ (x : Happening). HappeningReads x) h happenings all,
  each_reads happenings
      (All-tail (λ (x : Happening). HappeningReads x) h happenings all),
)

-- its printed text is its line
stripe_text : (g s : ℕ) (happenings : List Happening) → happened_text g s happenings ≡ text_of_lines (stripe_contents g s happenings)
stripe_text g s [] = refl
stripe_text g s (h ∷ happenings) = happened_ends g s h happenings ∙ sym (one_line_text (happened_line g s h happenings))

-- its line is before the next stripe
stripe_before : (g s : ℕ) (happenings : List Happening) → AreBefore (stripe_lines g s happenings) g (s + 1)
stripe_before g s [] = tt
stripe_before g s (h ∷ happenings) = (inr (refl, omega arith), tt)

-- Of marks, and of what happens of each stripe, what makes the lines of stripes sound.
pub record IsStory (layout : Layout) (marks : List Mark) (of : ℕ → ℕ → List Happening) : Type 0 where
  pub few_marks : length marks ≤ 3000000
  pub placed : (k : ℕ) (mark : Mark) → slice_get marks k ≡ Some mark → position_of mark ≡ k
  pub numbers : (n : ℕ) (life : Life) → life_of marks n ≡ Some life → n ≤ 1500000
  pub strict : (g s : ℕ) (group : Group) → group_of layout g ≡ Some group → IsStrict group.m layout.block (stripe_marks g s marks) (of g s)
  pub group_small : (g : ℕ) (group : Group) → group_of layout g ≡ Some group → IsSmall g
  pub stripe_small : (g : ℕ) (group : Group) (s : ℕ) → group_of layout g ≡ Some group → s < group.stripes → IsSmall s

module _ (layout : Layout) (marks : List Mark) (of : ℕ → ℕ → List Happening) (story : IsStory layout marks of) (claims : List ParsedMark) (start : ℕ) where
  -- an operation that lives in the marks of a stripe has a small number
  lives : (g s n : ℕ) (o : Option Life) → life_of marks n ≡ o → (life : Life) → life_of (stripe_marks g s marks) n ≡ Some life → n ≤ 1500000
  lives g s n None none life is = absurd (let never : None ≡ Some life = sym (none_filtered (concerns g s marks) marks n none) ∙ is in cc)
  lives g s n (Some own) at life is = story.numbers n own at

  -- so has one that happens
  in_time_low : (g s : ℕ) (h : Happening) (o : Option Life) → life_of (stripe_marks g s marks) h.operation ≡ o → IsInTime o h.position
      → h.operation ≤ 1500000
  in_time_low g s h None is in' = absurd in'
  in_time_low g s h (Some life) is in' = lives g s h.operation (life_of marks h.operation) refl life is

  -- a happening has a spelling
  in_time_reads : (g s : ℕ) (h : Happening) → IsInTime (life_of (stripe_marks g s marks) h.operation) h.position → HappeningReads h
  in_time_reads g s h in' = by (life_of (stripe_marks g s marks) h.operation) refl in'
    where
      by : (o : Option Life) → life_of (stripe_marks g s marks) h.operation ≡ o → IsInTime o h.position → HappeningReads h
      by None is in' = absurd in'
      by (Some life) is in' =
          let low : end_of life.ending ≤ 3000000 =
          subst (LowLife 3000000) is (life_low (stripe_marks g s marks) h.operation 3000000
          (below_filter 3000000 (concerns g s marks) marks (below_placed 3000000 0 marks
          (λ k mark at. let place = story.placed k mark at in omega arith)
          (let few = story.few_marks in omega arith))))
          in
          let number = lives g s h.operation (life_of marks h.operation) refl life is in
          let late = in'.1 in
          record { operation = omega (arith, number); position = omega (arith, late, low) }

  -- the first number is low, and so are the others
  numbers_step : (q n : ℕ) (more : Bool) → n ≤ 1500000 → (more ≡ true → q < 1500001) → (b : Bool) → eqb q n ≡ b → b || more ≡ true → q < 1500001
  numbers_step q n more low then true same any = let number = eqb-true q n same in omega (arith, number, low)
  numbers_step q n more low then false other any = then any

  -- the numbers of happenings are low
  numbers_low : (g s : ℕ) (happenings : List Happening)
      → All (λ (h : Happening). IsInTime (life_of (stripe_marks g s marks) h.operation) h.position) happenings
      → (q : ℕ) → list_any (eqb q) (map (λ (h : Happening). h.operation) happenings) ≡ true → q < 1500001
  numbers_low g s [] all q any = absurd (let never : false ≡ true = any in cc)
  numbers_low g s (h ∷ happenings) all q any =
      numbers_step q h.operation (list_any (eqb q) (map (λ (x : Happening). x.operation) happenings))
      (in_time_low g s h (life_of (stripe_marks g s marks) h.operation) refl
      (All-head (λ (x : Happening). IsInTime (life_of (stripe_marks g s marks) x.operation) x.position) h happenings all))
      (numbers_low g s happenings
      (All-tail (λ (x : Happening). IsInTime (life_of (stripe_marks g s marks) x.operation) x.position) h happenings all) q)
      (eqb q h.operation) refl any

  -- the happenings of a stripe read back
  reads_stripe : (g s : ℕ) (group : Group) → group_of layout g ≡ Some group → s < group.stripes → StripeReads g s (of g s)
  reads_stripe g s group is within =
      let its = story.strict g s group is in
      let long = length-le_from_distinct_below (map (λ (h : Happening). h.operation) (of g s)) 1500001 its.once
      (numbers_low g s (of g s) its.in_time) in
      let same = length-map (of g s) (λ (h : Happening). h.operation) in
      record {
        group = story.group_small g group is;
        stripe = story.stripe_small g group s is within;
        each = each_reads (of g s) (λ k d lt. in_time_reads g s _ (its.in_time k d lt));
        few = omega (arith, long, same);
      }

  -- a stripe with happenings has a Begin of its own
  own_begin : (g s : ℕ) (group : Group) → group_of layout g ≡ Some group → (h : Happening) (rest : List Happening) → of g s ≡ h ∷ rest
      → (k : ℕ) × (p : ℕ) × (n : ℕ) × (b : BrickId) × (ask : Ask) × (slice_get marks k ≡ Some (Begin p n b ask)) × (ask.group.0 ≡ g) ×
      (ask.stripe.0 ≡ s)
  own_begin g s group is h rest some =
      let first : IsInTime (life_of (stripe_marks g s marks) h.operation) h.position =
      All-head (λ (x : Happening). IsInTime (life_of (stripe_marks g s marks) x.operation) x.position) h rest
      (subst (λ (l : List Happening). All (λ (x : Happening). IsInTime (life_of (stripe_marks g s marks) x.operation) x.position) l) some
      (story.strict g s group is).in_time)
      in
      by (life_of (stripe_marks g s marks) h.operation) refl first
    where
      by : (o : Option Life) → life_of (stripe_marks g s marks) h.operation ≡ o → IsInTime o h.position
          → (k : ℕ) × (p : ℕ) × (n : ℕ) × (b : BrickId) × (ask : Ask) × (slice_get marks k ≡ Some (Begin p n b ask)) × (ask.group.0 ≡ g) ×
          (ask.stripe.0 ≡ s)
      by None at in' = absurd in'
      by (Some life) at in' =
          let has = life_begins (stripe_marks g s marks) h.operation life at in
          let place = filter_place (concerns g s marks) marks has.0 (Begin has.1 h.operation has.2 has.3) has.4 in
          let own = and_parts (nat_eq has.3.group.0 g) (nat_eq has.3.stripe.0 s) place.3 in
          (place.0, has.1, h.operation, has.2, has.3, place.1, eqb-true has.3.group.0 g own.0, eqb-true has.3.stripe.0 s own.1)

  -- how many stripes a group has
  abbrev pub count : ℕ → ℕ
  count g = stripes_of (group_of layout g)

  -- a stripe stands below a place
  abbrev pub IsOver : ℕ → ℕ → ℕ → ℕ → Type 0
  IsOver h t g s = ((h < g) × (t < count h)) ⊎ ((h ≡ g) × (t < s))

  -- each line is of a stripe of the layout
  abbrev pub AreOfLayout : List StripeLine → Type 0
  AreOfLayout [] = ⊤
  AreOfLayout (line ∷ lines) = (line.stripe < count line.group) × AreOfLayout lines

  -- of lines, and then others
  layout_both : (one other : List StripeLine) → AreOfLayout one → AreOfLayout other → AreOfLayout (one ++ other)
  layout_both [] other first second = second
  layout_both (line ∷ one) other first second = (first.0, layout_both one other first.1 second)

  -- The lines of the stripes before a place.
  pub record Stage (g s : ℕ) (text : List ℕ) : Type 0 where
    pub lines : List StripeLine
    pub contents : List (List ℕ)
    pub text_is : text ≡ text_of_lines contents
    pub clear : AreClear contents
    pub before : AreBefore lines g s
    pub few : length lines ≤ count_by (is_before g s) marks
    pub reads : Reads start (of_stripes claims []) contents (start + length lines) (of_stripes claims lines)
    pub said : (h t : ℕ) → IsOver h t g s → happenings_said lines h t ≡ of h t
    pub of_layout : AreOfLayout lines

  -- at first there is none
  first_stage : Stage 0 0 []
  first_stage = record {
    lines = [];
    contents = [];
    text_is = refl;
    clear = tt;
    before = tt;
    few = omega arith;
    reads = λ more. ap (λ (k : ℕ). text_behind k (of_stripes claims []) more) (let same : start ≡ start + 0 = omega arith in same);
    said = λ h t over. absurd (none h t over);
    of_layout = tt;
  }
    where
      none : (h t : ℕ) → IsOver h t 0 0 → ⊥
      none h t (inl low) = let lower = low.0 in omega arith
      none h t (inr here) = let lower = here.1 in omega arith

  -- the text of the lines of stripes, and of groups
  abbrev pub stripes_text_of : ℕ → ℕ → List ℕ
  stripes_text_of g zero = []
  stripes_text_of g (suc s) = stripes_text_of g s ++ happened_text g s (of g s)

  -- of groups
  abbrev pub groups_text_of : ℕ → List ℕ
  groups_text_of zero = []
  groups_text_of (suc g) = groups_text_of g ++ stripes_text_of g (count g)

  -- a stripe more
  module _ (room : start + count_by is_begin marks ≤ most_lines) where
    new_few : (g s : ℕ) (group : Group) → group_of layout g ≡ Some group → (happenings : List Happening) → of g s ≡ happenings
        → count_by (is_before g s) marks + length (stripe_lines g s happenings) ≤ count_by (is_before g (s + 1)) marks
    new_few g s group is [] none =
        let less = count_less (is_before g s) (is_before g (s + 1)) marks (next_stripe g s) in omega (arith, less)
    new_few g s group is (h ∷ rest) some =
        let own = own_begin g s group is h rest some in
        let one : Mark = Begin own.1 own.2 own.3 own.4 in
        let low : is_before g s (Begin own.1 own.2 own.3 own.4) ≡ false = outside own.4 own.6 own.7 in
        let high : is_before g (s + 1) (Begin own.1 own.2 own.3 own.4) ≡ true = inside own.4 own.6 own.7 in
        count_more (is_before g s) (is_before g (s + 1)) marks (next_stripe g s) own.0 one own.5 low high
      where
        outside : (ask : Ask) → ask.group.0 ≡ g → ask.stripe.0 ≡ s → (nat_lt ask.group.0 g || (nat_eq ask.group.0 g && nat_lt ask.stripe.0 s)) ≡ false
        outside ask group_is stripe_is = grind (arith, nat_tests)

        inside : (ask : Ask) → ask.group.0 ≡ g → ask.stripe.0 ≡ s
            → (nat_lt ask.group.0 g || (nat_eq ask.group.0 g && nat_lt ask.stripe.0 (s + 1))) ≡ true
        inside ask group_is stripe_is = grind (arith, nat_tests)

    -- the line of a stripe is of the layout
    lines_of_layout : (g s : ℕ) (group : Group) (happenings : List Happening) → group_of layout g ≡ Some group → s < group.stripes
        → AreOfLayout (stripe_lines g s happenings)
    lines_of_layout g s group [] is within = tt
    lines_of_layout g s group (h ∷ happenings) is within = (subst (λ (o : Option Group). s < stripes_of o) (sym is) within, tt)

    -- what is said of the stripes before the next one
    said_more : (g s : ℕ) (lines : List StripeLine) → AreBefore lines g s → ((h t : ℕ) → IsOver h t g s → happenings_said lines h t ≡ of h t)
        → (h t : ℕ) → IsOver h t g (s + 1) → happenings_said (lines ++ stripe_lines g s (of g s)) h t ≡ of h t
    said_more g s lines before said h t (inl low) =
        said_left lines (stripe_lines g s (of g s)) h t
        (said_elsewhere g s h t (of g s) (let lower = low.0 in let test : (nat_eq g h && nat_eq s t) ≡ false = grind (arith, nat_tests) in test))
        ∙ said h t (inl low)
    said_more g s lines before said h t (inr here) =
        by (cases_eq t s)
      where
        by : (t ≡ s) ⊎ (t ≢ s) → happenings_said (lines ++ stripe_lines g s (of g s)) h t ≡ of h t
        by (inl same) =
            ap (λ (x : ℕ). happenings_said (lines ++ stripe_lines g s (of g s)) x t) here.0
            ∙ ap (λ (x : ℕ). happenings_said (lines ++ stripe_lines g s (of g s)) g x) same
            ∙ said_right lines (stripe_lines g s (of g s)) g s before ∙ said_here g s (of g s)
            ∙ ap (λ (x : ℕ). of x s) (sym here.0) ∙ ap (of h) (sym same)
        by (inr other) =
            said_left lines (stripe_lines g s (of g s)) h t
            (said_elsewhere g s h t (of g s) (let test : (nat_eq g h && nat_eq s t) ≡ false = grind (arith, nat_tests) in test))
            ∙ said h t (inr (here.0, (let lower = here.1 in omega arith)))

    -- the next stripe of a group
    next_of : (g s : ℕ) (group : Group) (text : List ℕ) → group_of layout g ≡ Some group → s < group.stripes → Stage g s text
        → Stage g (s + 1) (text ++ happened_text g s (of g s))
    next_of g s group text is within stage =
        let new : List StripeLine = stripe_lines g s (of g s) in
        let more = new_few g s group is (of g s) refl in
        let all = count_less (is_before g (s + 1)) is_begin marks (all_begins g (s + 1)) in
        let few = stage.few in
        let long = length-append stage.lines (stripe_lines g s (of g s)) in
        record {
          lines = stage.lines ++ stripe_lines g s (of g s);
          contents = stage.contents ++ stripe_contents g s (of g s);
          text_is = ap (λ (l : List ℕ). l ++ happened_text g s (of g s)) stage.text_is
              ∙ ap (λ (l : List ℕ). text_of_lines stage.contents ++ l) (stripe_text g s (of g s))
              ∙ sym (lines_both stage.contents (stripe_contents g s (of g s)));
          clear = clear_all stage.contents (stripe_contents g s (of g s)) stage.clear (stripe_clear g s (of g s) (reads_stripe g s group is within));
          before = before_both stage.lines (stripe_lines g s (of g s)) g (s + 1) (before_stripe stage.lines g s (s + 1) (omega arith) stage.before)
              (stripe_before g s (of g s));
          few = omega (arith, long, few, more);
          reads = subst (λ (k : ℕ). Reads start (of_stripes claims []) (stage.contents ++ stripe_contents g s (of g s)) k
              (of_stripes claims (stage.lines ++ stripe_lines g s (of g s))))
              (let same : (start + length stage.lines) + length (stripe_lines g s (of g s)) ≡ start + length
              (stage.lines ++ stripe_lines g s (of g s)) = omega (arith, long) in same)
              (reads_both start (start + length stage.lines) ((start + length stage.lines) + length (stripe_lines g s (of g s)))
              (of_stripes claims [])
              (of_stripes claims stage.lines) (of_stripes claims (stage.lines ++ stripe_lines g s (of g s))) stage.contents
              (stripe_contents g s (of g s)) stage.reads
              (stripe_read g s (of g s) (start + length stage.lines) claims stage.lines (omega (arith, few, more, all, room))
              (reads_stripe g s group is within) stage.before));
          said = said_more g s stage.lines stage.before stage.said;
          of_layout = layout_both stage.lines (stripe_lines g s (of g s)) stage.of_layout (lines_of_layout g s group (of g s) is within);
        }

    -- the stripes of a group
    next_stripes : (g : ℕ) (group : Group) (text : List ℕ) → group_of layout g ≡ Some group → Stage g 0 text → (s : ℕ) → s ≤ group.stripes
        → Stage g s (text ++ stripes_text_of g s)
    next_stripes g group text is stage zero few = subst (λ (l : List ℕ). Stage g 0 l) (sym (append-nil text)) stage
    next_stripes g group text is stage (suc s) few =
        subst (λ (k : ℕ). Stage g k (text ++ (stripes_text_of g s ++ happened_text g s (of g s)))) (let same : s + 1 ≡ suc s = omega arith in same)
        (subst (λ (l : List ℕ). Stage g (s + 1) l) (append_assoc text (stripes_text_of g s) (happened_text g s (of g s)))
        (next_of g s group (text ++ stripes_text_of g s) is (omega (arith, few)) (next_stripes g group text is stage s (omega (arith, few)))))

    -- a group more
    over_group : (h t g : ℕ) → IsOver h t (g + 1) 0 → IsOver h t g (count g)
    over_group h t g (inl low) = ⊎_elim
        (λ (lower : h < g). inl (lower, low.1))
        (λ (other : g ≤ h).
        let here : h ≡ g = (let below = low.0 in omega arith) in
        inr (here, subst (λ (x : ℕ). t < count x) here low.1))
        (cases_lt h g)
    over_group h t g (inr here) = absurd (let lower = here.1 in omega arith)

    -- all stripes of a group are those before the next group
    shut_group : (g : ℕ) (text : List ℕ) → Stage g (count g) text → Stage (g + 1) 0 text
    shut_group g text stage =
        let few = stage.few in
        let more = count_less (is_before g (count g)) (is_before (g + 1) 0) marks (next_group g (count g)) in
        record {
          lines = stage.lines;
          contents = stage.contents;
          text_is = stage.text_is;
          clear = stage.clear;
          before = before_group stage.lines g (count g) stage.before;
          few = omega (arith, few, more);
          reads = stage.reads;
          said = λ h t over. stage.said h t (over_group h t g over);
          of_layout = stage.of_layout;
        }

    -- the stripes of the next group, where there is one
    next_group_of : (g : ℕ) (found : Option Group) → group_of layout g ≡ found → (text : List ℕ) → Stage g 0 text
        → Stage g (count g) (text ++ stripes_text_of g (count g))
    next_group_of g None is text stage =
        subst (λ (k : ℕ). Stage g k (text ++ stripes_text_of g k)) (ap stripes_of (sym is))
        (subst (λ (l : List ℕ). Stage g 0 l) (sym (append-nil text)) stage)
    next_group_of g (Some group) is text stage =
        subst (λ (k : ℕ). Stage g k (text ++ stripes_text_of g k)) (ap stripes_of (sym is))
        (next_stripes g group text is stage group.stripes (omega arith))

    -- The lines of the first groups.
    pub groups_stage : (g : ℕ) → Stage g 0 (groups_text_of g)
    groups_stage zero = first_stage
    groups_stage (suc g) =
        subst (λ (k : ℕ). Stage k 0 (groups_text_of g ++ stripes_text_of g (count g))) (let same : g + 1 ≡ suc g = omega arith in same)
        (shut_group g (groups_text_of g ++ stripes_text_of g (count g))
        (next_group_of g (group_of layout g) refl (groups_text_of g) (groups_stage g)))
