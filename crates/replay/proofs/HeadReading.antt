-- What was read of the text before a schedule.
use Rattle.std.proofs.Common.{◌≡◌, ℕ, ◌≤◌, true, false, List, [], ◌∷◌, ◌++◌, length, Option, Result, Ok, Err, IsErr, refl, sym, ap, ◌∙◌, subst, append_assoc, append-nil}
use Rattle.std.specs.List.{list_any, concat}
use Rattle.std.specs.Io.KnownBytes.{Consumes}
use Rattle.std.proofs.KnownBytes.{Consumes-nil, Consumes-trans}
use Rattle.std.proofs.lemmas.List.Folds.{concat-append, list_any-append}
use Rattle.lines.specs.Lines.{ends_layout}
use Rattle.lines.specs.Reading.{AreWhole, IsWhole, IsBegun, IsNeeded, LineReads}
use Rattle.lines.proofs.WholeLines.{AreWhole-push}
use Rattle.lines.proofs.Needs.{IsNeeded-none, IsNeeded-more}
use Rattle.replay.specs.declared.endings.Halt.{Halt}
use Rattle.replay.specs.declared.endings.Halt.TheVariants.{Source}
use Rattle.replay.specs.declared.heads.Head.{Head}
use Rattle.replay.specs.Inputs.{most_layout_bytes}
use Rattle.replay.specs.Readings.{HeadSoFar, TakesHead, HeadTakes, HeadReads}

-- Lines of a layout's text were taken, these bytes in all, behind those that were unread at first; and what is unread now.
pub record HasHead (unread now : List ℕ) (told told_now : Option (List ℕ)) (came : ℕ) (untouched : Type 0) (head : List ℕ) : Type 0 where
  pub lines : List (List ℕ)
  pub are_whole : AreWhole lines
  pub none_ends : list_any ends_layout lines ≡ false
  pub head_is : head ≡ concat lines
  pub read : List ℕ
  pub consumes : Consumes told told_now read
  pub bytes : unread ++ read ≡ concat lines ++ now
  pub needed : IsNeeded HeadSoFar unread read came untouched

pub HasHead-start : (unread : List ℕ) (told : Option (List ℕ)) (came : ℕ) (untouched : Type 0) → untouched
    → HasHead unread unread told told came untouched []
HasHead-start unread told came untouched same = record {
  lines = [];
  are_whole = tt;
  none_ends = refl;
  head_is = refl;
  read = [];
  consumes = Consumes-nil told;
  bytes = append-nil unread;
  needed = IsNeeded-none HeadSoFar unread came untouched same;
}

-- a line that was begun stands behind the lines that were taken
head_so_far : (unread now : List ℕ) (told told_now : Option (List ℕ)) (came : ℕ) (untouched : Type 0) (head begun bytes : List ℕ)
    → length head ≤ most_layout_bytes → (h : HasHead unread now told told_now came untouched head) → IsBegun most_layout_bytes begun
    → bytes ≡ concat h.lines ++ begun → HeadSoFar bytes
head_so_far unread now told told_now came untouched head begun bytes within h is_begun is = record {
  lines = h.lines;
  begun = begun;
  are_whole = h.are_whole;
  is_begun = is_begun;
  bytes_are = is;
  none_ends = h.none_ends;
  within = subst (λ (l : List ℕ). length l ≤ most_layout_bytes) h.head_is within;
}

-- what was unread, and then more that was read
pub unread_more : (unread read now more : List ℕ) (lines : List (List ℕ)) → unread ++ read ≡ concat lines ++ now
    → unread ++ (read ++ more) ≡ concat lines ++ (now ++ more)
unread_more unread read now more lines is =
    sym (append_assoc unread read more) ∙ ap (λ (l : List ℕ). l ++ more) is ∙ append_assoc (concat lines) now more

-- what was read so far, and for the next line
head_needed : (unread now next : List ℕ) (told told_now told_next : Option (List ℕ)) (came came_next : ℕ) (untouched same untouched_next : Type 0)
    (head taken : List ℕ) (failed : Type 0) → length head ≤ most_layout_bytes → (h : HasHead unread now told told_now came untouched head)
    → (r : LineReads most_layout_bytes now next told_now told_next came_next same taken failed)
    → (same → (came_next ≡ came) × (untouched → untouched_next))
    → IsNeeded HeadSoFar unread (h.read ++ r.read) came_next untouched_next
head_needed unread now next told told_now told_next came came_next untouched same untouched_next head taken failed within h r stays =
    IsNeeded-more HeadSoFar (IsBegun most_layout_bytes) unread h.read now r.read came came_next untouched same untouched_next h.needed r.needed stays
    (λ before is_begun. head_so_far unread now told told_now came untouched head (now ++ before) (unread ++ (h.read ++ before)) within h is_begun
    (unread_more unread h.read now before h.lines h.bytes))

-- the bytes, where the next line was taken
head_bytes : (unread now next : List ℕ) (told told_now told_next : Option (List ℕ)) (came came_next : ℕ) (untouched same : Type 0)
    (head taken : List ℕ) (failed : Type 0) → (h : HasHead unread now told told_now came untouched head)
    → (r : LineReads most_layout_bytes now next told_now told_next came_next same taken failed)
    → unread ++ (h.read ++ r.read) ≡ concat h.lines ++ (taken ++ next)
head_bytes unread now next told told_now told_next came came_next untouched same head taken failed h r =
    unread_more unread h.read now r.read h.lines h.bytes ∙ ap (λ (l : List ℕ). concat h.lines ++ l) r.bytes

-- one more line of the text was taken
pub HasHead-line : (unread now next : List ℕ) (told told_now told_next : Option (List ℕ)) (came came_next : ℕ) (untouched same untouched_next : Type 0)
    (head longer line : List ℕ) (failed : Type 0) → length head ≤ most_layout_bytes → HasHead unread now told told_now came untouched head
    → LineReads most_layout_bytes now next told_now told_next came_next same line failed
    → (same → (came_next ≡ came) × (untouched → untouched_next)) → IsWhole line → ends_layout line ≡ false → longer ≡ head ++ line
    → HasHead unread next told told_next came_next untouched_next longer
HasHead-line unread now next told told_now told_next came came_next untouched same untouched_next head longer line failed within h r stays whole other is =
    let pushed : concat (h.lines ++ line ∷ []) ≡ concat h.lines ++ line =
    concat-append h.lines (line ∷ []) ∙ ap (λ (l : List ℕ). concat h.lines ++ l) (append-nil line) in
    record {
      lines = h.lines ++ line ∷ [];
      are_whole = AreWhole-push h.lines line h.are_whole whole;
      none_ends = list_any-append ends_layout h.lines (line ∷ []) ∙ rw (h.none_ends, other) refl;
      head_is = is ∙ ap (λ (l : List ℕ). l ++ line) h.head_is ∙ sym pushed;
      read = h.read ++ r.read;
      consumes = Consumes-trans told told_now told_next h.read r.read h.consumes r.consumes;
      bytes = head_bytes unread now next told told_now told_next came came_next untouched same head line failed h r
          ∙ sym (append_assoc (concat h.lines) line next) ∙ ap (λ (l : List ℕ). l ++ next) (sym pushed);
      needed = head_needed unread now next told told_now told_next came came_next untouched same untouched_next head line failed within h r stays;
    }

-- the text ended at what came next
pub HeadReads-ended : (unread now next : List ℕ) (told told_now told_next : Option (List ℕ)) (came came_next : ℕ) (untouched same untouched_next : Type 0)
    (head taken : List ℕ) (failed : Type 0) (result : Result Head Halt) → length head ≤ most_layout_bytes
    → (h : HasHead unread now told told_now came untouched head)
    → (r : LineReads most_layout_bytes now next told_now told_next came_next same taken failed)
    → (same → (came_next ≡ came) × (untouched → untouched_next))
    → HeadTakes result (unread ++ (h.read ++ r.read)) next → (result ≡ Err Source → ⊥)
    → HeadReads unread next told told_next came_next untouched_next result
HeadReads-ended unread now next told told_now told_next came came_next untouched same untouched_next head taken failed result within h r stays takes other = record {
  read = h.read ++ r.read;
  consumes = Consumes-trans told told_now told_next h.read r.read h.consumes r.consumes;
  needed = head_needed unread now next told told_now told_next came came_next untouched same untouched_next head taken failed within h r stays;
  takes = takes;
  failed = λ e. absurd (other e);
}

-- the line that ends the text was taken
pub HeadTakes-text : (unread now next : List ℕ) (told told_now told_next : Option (List ℕ)) (came came_next : ℕ) (untouched same : Type 0)
    (head line : List ℕ) (failed : Type 0) → length head ≤ most_layout_bytes → (h : HasHead unread now told told_now came untouched head)
    → (r : LineReads most_layout_bytes now next told_now told_next came_next same line failed) → IsWhole line → ends_layout line ≡ true
    → TakesHead head (unread ++ (h.read ++ r.read)) next
HeadTakes-text unread now next told told_now told_next came came_next untouched same head line failed within h r whole ends = record {
  lines = h.lines;
  end = line;
  are_whole = h.are_whole;
  is_whole = whole;
  none_ends = h.none_ends;
  ends = ends;
  text_is = h.head_is;
  within = within;
  bytes_are = head_bytes unread now next told told_now told_next came came_next untouched same head line failed h r;
}

-- nothing came next
pub HeadReads-failed : (unread now next : List ℕ) (told told_now told_next : Option (List ℕ)) (came came_next : ℕ) (untouched same untouched_next : Type 0)
    (head : List ℕ) (failed : Type 0) (result : Result Head Halt) → IsErr result → length head ≤ most_layout_bytes
    → (h : HasHead unread now told told_now came untouched head)
    → (r : LineReads most_layout_bytes now next told_now told_next came_next same [] failed)
    → (same → (came_next ≡ came) × (untouched → untouched_next)) → (result ≡ Err Source → failed)
    → HeadReads unread next told told_next came_next untouched_next result
HeadReads-failed unread now next told told_now told_next came came_next untouched same untouched_next head failed (Ok found) is within h r stays cause = cc
HeadReads-failed unread now next told told_now told_next came came_next untouched same untouched_next head failed (Err halt) is within h r stays cause = record {
  read = h.read ++ r.read;
  consumes = Consumes-trans told told_now told_next h.read r.read h.consumes r.consumes;
  needed = head_needed unread now next told told_now told_next came came_next untouched same untouched_next head [] failed within h r stays;
  takes = tt;
  failed = λ e. head_so_far unread now told told_now came untouched head next (unread ++ (h.read ++ r.read)) within h (r.begun (cause e))
      (head_bytes unread now next told told_now told_next came came_next untouched same head [] failed h r);
}

-- nothing is said of what an error took
pub HeadTakes-err : (result : Result Head Halt) (bytes new : List ℕ) → IsErr result → HeadTakes result bytes new
HeadTakes-err (Ok head) bytes new is = cc
HeadTakes-err (Err halt) bytes new is = tt
