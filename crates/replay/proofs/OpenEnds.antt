-- What was read does not decide how a run ends.
use Rattle.std.proofs.Common.{◌≡◌, ℕ, ◌≤◌, false, List, [], ◌∷◌, ◌++◌, length, map, Option, Some, None, Result, Ok, Err, inl, inr, refl, sym, ap, ◌∙◌, subst, arith, append_assoc, append-nil}
use Rattle.std.specs.List.{list_any, concat, position}
use Rattle.std.proofs.lemmas.List.Folds.{concat-append}
use Rattle.std.specs.Io.KnownBytes.{Consumes, Appends}
use Rattle.std.proofs.KnownBytes.{Consumes-nil, Consumes-trans}
use Rattle.fab_base.specs.Layouts.{Layout}
use Rattle.layout.specs.Texts.{layout_of}
use Rattle.stripe_code.specs.Codes.{coding}
use Rattle.world.specs.Runs.{Run, world_of}
use Rattle.printed.specs.Outputs.{steps_text}
use Rattle.printed.specs.LineSteps.{StartsFresh}
use Rattle.lines.specs.Lines.{is_line_feed, raw_lines, content, ends_layout, parts, parts_of_lines, whole_lines}
use Rattle.lines.specs.Reading.{AreWhole, IsNeeded}
use Rattle.lines.proofs.WholeLines.{AreWhole-both, whole_firsts, lines_of}
use Rattle.lines.proofs.HeadLines.{parts-none, parts-found}
use Rattle.lines.proofs.Needs.{IsNeeded-none, IsNeeded-map, IsNeeded-more}
use Rattle.replay.specs.declared.endings.Halt.{Halt}
use Rattle.replay.specs.declared.endings.Halt.TheVariants.{Source}
use Rattle.replay.specs.declared.heads.Head.{Head}
use Rattle.replay.specs.Inputs.{Input, Parted, Endless, most_layout_bytes, input_of}
use Rattle.replay.specs.Readings.{ReadsPart, HeadSoFar, LinesSoFar, ScheduleSoFar, BehindSoFar, TakesHead, HeadReads}
use Rattle.replay.specs.Replays.{RunGoesOn, MayGoOn, LeavesOpen, ReadsAsNeeded, FailedSource}
use Rattle.replay.proofs.LayoutTexts.{within}
use Rattle.replay.proofs.Inputs.{input_of-parts}

-- whole lines alone
alone : (lines : List (List ℕ)) → AreWhole lines → raw_lines (concat lines) ≡ lines
alone lines whole = ap raw_lines (sym (append-nil (concat lines))) ∙ whole_firsts lines [] whole ∙ append-nil lines

-- whole lines, and a line that was begun, from which a run may go on
open_of : (goes_on : List ℕ → List (List ℕ) → List ℕ → List ℕ → Type 0) (lines : List (List ℕ)) (begun bytes text : List ℕ) (input : Input)
    → AreWhole lines → position is_line_feed begun ≡ None → bytes ≡ concat lines ++ begun → input_of (concat lines) ≡ input
    → MayGoOn goes_on input begun text → LeavesOpen goes_on bytes text
open_of goes_on lines begun bytes text input whole none is same may =
    let split = lines_of lines begun whole none in
    let at : List ℕ = concat lines ++ begun in
    let first : MayGoOn goes_on (input_of (concat lines)) begun text = subst (λ (i : Input). MayGoOn goes_on i begun text) (sym same) may in
    let then : MayGoOn goes_on (input_of (concat (whole_lines at))) begun text =
    subst (λ (l : List (List ℕ)). MayGoOn goes_on (input_of (concat l)) begun text) (sym split.0) first in
    let all : LeavesOpen goes_on at text =
    subst (λ (b : List ℕ). MayGoOn goes_on (input_of (concat (whole_lines at))) b text) (sym split.1) then in
    subst (λ (b : List ℕ). LeavesOpen goes_on b text) (sym is) all

-- the lines of a layout's text have no schedule behind them
endless_lines : (lines : List (List ℕ)) → AreWhole lines → list_any ends_layout lines ≡ false → length (concat lines) ≤ most_layout_bytes
    → input_of (concat lines) ≡ Endless
unfolding input_of
endless_lines lines whole none under =
    rw (ap parts_of_lines (alone lines whole) ∙ parts-none lines none) (within (concat lines) Endless under)

-- the text of a layout goes on
pub head_open : (goes_on : List ℕ → List (List ℕ) → List ℕ → List ℕ → Type 0) (bytes : List ℕ) → HeadSoFar bytes → LeavesOpen goes_on bytes []
head_open goes_on bytes h =
    open_of goes_on h.lines h.begun bytes [] Endless h.are_whole h.is_begun.0 h.bytes_are (endless_lines h.lines h.are_whole h.none_ends h.within)
    (h.is_begun, refl)

-- what stands behind a layout's text goes on
behind_open : (goes_on : List ℕ → List (List ℕ) → List ℕ → List ℕ → Type 0) (head bytes new before text : List ℕ) → TakesHead head bytes new
    → BehindSoFar goes_on head (new ++ before) text → LeavesOpen goes_on (bytes ++ before) text
behind_open goes_on head bytes new before text t s =
    let lines : List (List ℕ) = t.lines ++ (t.end ∷ s.raw) in
    let whole : AreWhole lines = AreWhole-both t.lines (t.end ∷ s.raw) t.are_whole (t.is_whole, s.are_whole) in
    let joined : concat lines ≡ concat t.lines ++ (t.end ++ concat s.raw) = concat-append t.lines (t.end ∷ s.raw) in
    let found : parts (concat lines) ≡ Some (record { layout = head; schedule = map content s.raw }) =
    ap parts_of_lines (alone lines whole) ∙ parts-found t.lines t.end s.raw t.none_ends t.ends
    ∙ ap (λ (l : List ℕ). Some (record { layout = l; schedule = map content s.raw })) (sym t.text_is) in
    let is : bytes ++ before ≡ concat lines ++ s.begun =
    ap (λ (l : List ℕ). l ++ before) t.bytes_are ∙ append_assoc (concat t.lines) (t.end ++ new) before
    ∙ ap (λ (l : List ℕ). concat t.lines ++ l) (append_assoc t.end new before
    ∙ ap (λ (l : List ℕ). t.end ++ l) s.bytes_are ∙ sym (append_assoc t.end (concat s.raw) s.begun))
    ∙ sym (append_assoc (concat t.lines) (t.end ++ concat s.raw) s.begun)
    ∙ ap (λ (l : List ℕ). l ++ s.begun) (sym joined) in
    open_of goes_on lines s.begun (bytes ++ before) text (Parted head (map content s.raw)) whole s.has_none is
    (input_of-parts (concat lines) head (map content s.raw) t.within found) s.goes

-- the schedule of a run goes on
pub schedule_goes : (head bytes text : List ℕ) → ScheduleSoFar head bytes text → BehindSoFar RunGoesOn head bytes text
schedule_goes head bytes text so_far =
    let s = so_far.lines in
    record {
      raw = s.raw;
      begun = s.begun;
      are_whole = s.are_whole;
      has_none = s.is_begun.0;
      bytes_are = s.bytes_are;
      goes = (
        s.is_begun,
        record {
          layout = so_far.layout;
          steps = s.steps;
          layout_is = so_far.layout_is;
          steps_are = record {
            lines = s.lines_are;
            first = so_far.first;
            last = s.last;
            first_is = so_far.first_is;
            fresh = so_far.fresh;
            leads = s.leads;
          };
          within = s.within;
          text_is = s.text_is ∙ ap (λ (r : Run). steps_text (coding r.layout) (world_of r) s.steps) so_far.first_is;
        },
      );
    }

-- before the first read
nothing_open : (goes_on : List ℕ → List (List ℕ) → List ℕ → List ℕ → Type 0) → LeavesOpen goes_on [] []
nothing_open goes_on = head_open goes_on [] (record {
  lines = [];
  begun = [];
  are_whole = tt;
  is_begun = (refl, omega arith);
  bytes_are = refl;
  none_ends = refl;
  within = omega arith;
})

abbrev IsLeftOpen : (List ℕ → List (List ℕ) → List ℕ → List ℕ → Type 0) → List ℕ → Type 0
IsLeftOpen goes_on bytes = (text : List ℕ) × LeavesOpen goes_on bytes text

-- nothing was read in a part of a run
pub ReadsPart-none : (open_after : List ℕ → List ℕ → Type 0) (unread : List ℕ) (told old new : Option (List ℕ)) (came : ℕ) (untouched failed : Type 0)
    → untouched → (failed → ⊥) → ReadsPart open_after unread told told old new came untouched failed
ReadsPart-none open_after unread told old new came untouched failed same other = record {
  read = [];
  consumes = Consumes-nil told;
  needed = IsNeeded-none (λ bytes. (text : List ℕ) × open_after bytes text) unread came untouched same;
  printed = λ e. absurd (other e);
}

-- what leaves open one thing leaves open another
pub ReadsPart-map : (one other : List ℕ → List ℕ → Type 0) (unread : List ℕ) (told told_after old new : Option (List ℕ)) (came : ℕ) (untouched failed : Type 0)
    → ((bytes text : List ℕ) → one bytes text → other bytes text) → ReadsPart one unread told told_after old new came untouched failed
    → ReadsPart other unread told told_after old new came untouched failed
ReadsPart-map one other unread told told_after old new came untouched failed to p = record {
  read = p.read;
  consumes = p.consumes;
  needed = IsNeeded-map (λ bytes. (text : List ℕ) × one bytes text) (λ bytes. (text : List ℕ) × other bytes text) unread p.read came untouched
      (λ bytes s. (s.0, to bytes s.0 s.1)) p.needed;
  printed = λ e. let s = p.printed e in (s.0, to (unread ++ p.read) s.0 s.1, s.2);
}

-- lines were read behind the text of a layout
pub ReadsPart-schedule : (head unread : List ℕ) (first : Run) (layout : Layout) (told told_after old new : Option (List ℕ)) (came : ℕ) (untouched failed : Type 0)
    → layout_of head ≡ Ok layout → first ≡ record { layout = layout; steps = []; disks = first.disks } → StartsFresh first
    → ReadsPart (LinesSoFar first) unread told told_after old new came untouched failed
    → ReadsPart (ScheduleSoFar head) unread told told_after old new came untouched failed
ReadsPart-schedule head unread first layout told told_after old new came untouched failed is start fresh p =
    ReadsPart-map (LinesSoFar first) (ScheduleSoFar head) unread told told_after old new came untouched failed
    (λ bytes text s. record { layout = layout; layout_is = is; first = first; first_is = start; fresh = fresh; lines = s }) p

-- nothing was unread at first
pub HeadReads-first : (first unread : List ℕ) (told told_after : Option (List ℕ)) (came : ℕ) (untouched : Type 0) (result : Result Head Halt)
    → first ≡ [] → HeadReads first unread told told_after came untouched result → HeadReads [] unread told told_after came untouched result
HeadReads-first first unread told told_after came untouched result none h =
    subst (λ (l : List ℕ). HeadReads l unread told told_after came untouched result) none h

-- the text before a schedule was read, and no more
pub ReadsPart-head : (goes_on : List ℕ → List (List ℕ) → List ℕ → List ℕ → Type 0) (unread : List ℕ) (told told_after old new : Option (List ℕ)) (came : ℕ) (untouched failed : Type 0) (result : Result Head Halt)
    → HeadReads [] unread told told_after came untouched result → (failed → (result ≡ Err Source) × Appends old new [])
    → ReadsPart (LeavesOpen goes_on) [] told told_after old new came untouched failed
ReadsPart-head goes_on unread told told_after old new came untouched failed result h cause = record {
  read = h.read;
  consumes = h.consumes;
  needed = IsNeeded-map HeadSoFar (IsLeftOpen goes_on) [] h.read came untouched (λ bytes s. ([], head_open goes_on bytes s)) h.needed;
  printed = λ e. ([], head_open goes_on h.read (h.failed (cause e).0), (cause e).1);
}

-- nothing was read behind the text before a schedule
pub ReadsPart-alone : (goes_on : List ℕ → List (List ℕ) → List ℕ → List ℕ → Type 0) (unread : List ℕ) (told told_mid told_after old new : Option (List ℕ)) (came came_after : ℕ) (untouched untouched_after failed : Type 0)
    (result : Result Head Halt) → HeadReads [] unread told told_mid came untouched result → told_after ≡ told_mid → came_after ≡ came
    → (untouched → untouched_after) → (failed → ⊥)
    → ReadsPart (LeavesOpen goes_on) [] told told_after old new came_after untouched_after failed
ReadsPart-alone goes_on unread told told_mid told_after old new came came_after untouched untouched_after failed result h same_told same_came still other = record {
  read = h.read;
  consumes = subst (λ (t : Option (List ℕ)). Consumes told t h.read) (sym same_told) h.consumes;
  needed = subst (λ (n : ℕ). IsNeeded (IsLeftOpen goes_on) [] h.read n untouched_after) (sym same_came)
      (of_untouched (IsNeeded-map HeadSoFar (IsLeftOpen goes_on) [] h.read came untouched (λ bytes s. ([], head_open goes_on bytes s)) h.needed));
  printed = λ e. absurd (other e);
}
  where
    of_untouched : IsNeeded (IsLeftOpen goes_on) [] h.read came untouched → IsNeeded (IsLeftOpen goes_on) [] h.read came untouched_after
    of_untouched needed = elim needed [ inl none ↦ inl (none.0, still none.1) | inr some ↦ inr some ]

-- the text of a layout was read, and then lines behind it
pub ReadsPart-both : (goes_on : List ℕ → List (List ℕ) → List ℕ → List ℕ → Type 0) (head unread : List ℕ) (told told_mid told_after old new : Option (List ℕ)) (came came_after : ℕ)
    (untouched same untouched_after failed : Type 0) (result : Result Head Halt) → (h : HeadReads [] unread told told_mid came untouched result)
    → TakesHead head h.read unread → ReadsPart (BehindSoFar goes_on head) unread told_mid told_after old new came_after same failed
    → (same → (came_after ≡ came) × (untouched → untouched_after))
    → ReadsPart (LeavesOpen goes_on) [] told told_after old new came_after untouched_after failed
ReadsPart-both goes_on head unread told told_mid told_after old new came came_after untouched same untouched_after failed result h t p stays = record {
  read = h.read ++ p.read;
  consumes = Consumes-trans told told_mid told_after h.read p.read h.consumes p.consumes;
  needed = IsNeeded-more (IsLeftOpen goes_on) (λ bytes. (text : List ℕ) × BehindSoFar goes_on head bytes text) [] h.read unread p.read came came_after
      untouched same untouched_after
      (IsNeeded-map HeadSoFar (IsLeftOpen goes_on) [] h.read came untouched (λ bytes s. ([], head_open goes_on bytes s)) h.needed)
      p.needed stays (λ before s. (s.0, behind_open goes_on head h.read unread before s.0 t s.1));
  printed = λ e. let s = p.printed e in (s.0, behind_open goes_on head h.read unread p.read s.0 t s.1, s.2);
}

-- what a whole run read
pub reads_as_needed : (goes_on : List ℕ → List (List ℕ) → List ℕ → List ℕ → Type 0) (told told_after old new : Option (List ℕ)) (came : ℕ)
    (untouched failed : Type 0) → ReadsPart (LeavesOpen goes_on) [] told told_after old new came untouched failed
    → ReadsAsNeeded goes_on told told_after came
reads_as_needed goes_on told told_after old new came untouched failed p =
    elim p.needed [
      | inl none ↦ record {
        before = [];
        last = [];
        text = [];
        was_read = subst (Consumes told told_after) none.0 p.consumes;
        by_last_read = omega arith;
        leaves_open = nothing_open goes_on;
      }
      | inr some ↦ record {
        before = some.0;
        last = some.1;
        text = some.4.0;
        was_read = subst (Consumes told told_after) some.2 p.consumes;
        by_last_read = some.3;
        leaves_open = some.4.1;
      }
    ]

pub failed_source : (goes_on : List ℕ → List (List ℕ) → List ℕ → List ℕ → Type 0) (told told_after old new : Option (List ℕ)) (came : ℕ)
    (untouched failed : Type 0) → ReadsPart (LeavesOpen goes_on) [] told told_after old new came untouched failed → failed
    → FailedSource goes_on told told_after old new
failed_source goes_on told told_after old new came untouched failed p e =
    let s = p.printed e in
    record { read = p.read; text = s.0; was_read = p.consumes; leaves_open = s.1; printed = s.2 }
