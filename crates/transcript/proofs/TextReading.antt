-- What was read of a text, line by line.
use Rattle.std.proofs.Common.{◌≡◌, ℕ, ◌+◌, ◌<◌, ◌≤◌, List, [], ◌∷◌, ◌++◌, length, map, Option, Some, refl, sym, ap, ◌∙◌, subst, arith, append_assoc, append-nil, length-append}
use Rattle.std.specs.List.{concat}
use Rattle.std.specs.Io.KnownBytes.{Consumes}
use Rattle.std.proofs.KnownBytes.{Consumes-nil, Consumes-trans}
use Rattle.std.proofs.lemmas.List.{length-map, map-append}
use Rattle.std.proofs.lemmas.List.Folds.{concat-append}
use Rattle.lines.specs.Lines.{content}
use Rattle.lines.specs.Reading.{AreWhole, IsWhole, IsBegun, IsNeeded, LineReads}
use Rattle.lines.proofs.WholeLines.{AreWhole-push}
use Rattle.lines.proofs.Needs.{IsNeeded-none, IsNeeded-more}
use Rattle.transcript.specs.Said.{Transcribed}
use Rattle.transcript.specs.Forms.{entry_of, most_line_bytes}
use Rattle.transcript.specs.Transcripts.{after_line, nothing_said, text_of, text_behind, most_lines}
use Rattle.transcript.specs.Readings.{LeadsOn, TextSoFar, TextReads}
use Rattle.transcript.proofs.Turns.{one_line}

-- So many lines of a text were taken, which say so much, behind the bytes that were unread at first; and what is unread now.
pub record HasText (unread now : List ℕ) (told told_now : Option (List ℕ)) (came : ℕ) (untouched : Type 0) (count : ℕ) (said : Transcribed) : Type 0 where
  pub raw : List (List ℕ)
  pub are_whole : AreWhole raw
  pub count_is : length raw ≡ count
  pub leads : (more : List (List ℕ)) → text_of (map content raw ++ more) ≡ text_behind count said more
  pub read : List ℕ
  pub consumes : Consumes told told_now read
  pub bytes : unread ++ read ≡ concat raw ++ now
  pub needed : IsNeeded TextSoFar unread read came untouched

pub HasText-start : (unread : List ℕ) (told : Option (List ℕ)) (came : ℕ) (untouched : Type 0) → untouched
    → HasText unread unread told told came untouched 0 nothing_said
HasText-start unread told came untouched same = record {
  raw = [];
  are_whole = tt;
  count_is = refl;
  leads = λ more. refl;
  read = [];
  consumes = Consumes-nil told;
  bytes = append-nil unread;
  needed = IsNeeded-none TextSoFar unread came untouched same;
}

-- a line that was begun stands behind the lines that were taken
text_so_far : (unread now : List ℕ) (told told_now : Option (List ℕ)) (came : ℕ) (untouched : Type 0) (count : ℕ) (said : Transcribed) (begun bytes : List ℕ)
    → count ≤ most_lines → (h : HasText unread now told told_now came untouched count said) → IsBegun most_line_bytes begun
    → bytes ≡ concat h.raw ++ begun → TextSoFar bytes
text_so_far unread now told told_now came untouched count said begun bytes within h is_begun is =
    let many : length (map content h.raw) ≡ count = length-map h.raw content ∙ h.count_is in
    record {
      raw = h.raw;
      begun = begun;
      are_whole = h.are_whole;
      is_begun = is_begun;
      bytes_are = is;
      leads_on = record {
        said = said;
        within = omega (arith, many, within);
        leads = λ more. h.leads more ∙ ap (λ (k : ℕ). text_behind k said more) (sym many);
      };
    }

-- what was unread, and then more that was read
unread_more : (unread read now more : List ℕ) (lines : List (List ℕ)) → unread ++ read ≡ concat lines ++ now
    → unread ++ (read ++ more) ≡ concat lines ++ (now ++ more)
unread_more unread read now more lines is =
    sym (append_assoc unread read more) ∙ ap (λ (l : List ℕ). l ++ more) is ∙ append_assoc (concat lines) now more

-- what was read so far, and for the next line
text_needed : (unread now next : List ℕ) (told told_now told_next : Option (List ℕ)) (came came_next : ℕ) (untouched same untouched_next : Type 0)
    (count : ℕ) (said : Transcribed) (taken : List ℕ) (failed : Type 0) → count ≤ most_lines
    → (h : HasText unread now told told_now came untouched count said)
    → (r : LineReads most_line_bytes now next told_now told_next came_next same taken failed)
    → (same → (came_next ≡ came) × (untouched → untouched_next))
    → IsNeeded TextSoFar unread (h.read ++ r.read) came_next untouched_next
text_needed unread now next told told_now told_next came came_next untouched same untouched_next count said taken failed within h r stays =
    IsNeeded-more TextSoFar (IsBegun most_line_bytes) unread h.read now r.read came came_next untouched same untouched_next h.needed r.needed stays
    (λ before is_begun. text_so_far unread now told told_now came untouched count said (now ++ before) (unread ++ (h.read ++ before)) within h is_begun
    (unread_more unread h.read now before h.raw h.bytes))

-- the bytes, where the next line was taken
text_bytes : (unread now next : List ℕ) (told told_now told_next : Option (List ℕ)) (came came_next : ℕ) (untouched same : Type 0) (count : ℕ)
    (said : Transcribed) (taken : List ℕ) (failed : Type 0) → (h : HasText unread now told told_now came untouched count said)
    → (r : LineReads most_line_bytes now next told_now told_next came_next same taken failed)
    → unread ++ (h.read ++ r.read) ≡ concat h.raw ++ (taken ++ next)
text_bytes unread now next told told_now told_next came came_next untouched same count said taken failed h r =
    unread_more unread h.read now r.read h.raw h.bytes ∙ ap (λ (l : List ℕ). concat h.raw ++ l) r.bytes

-- one more line was taken, which leads on
pub HasText-line : (unread now next : List ℕ) (told told_now told_next : Option (List ℕ)) (came came_next : ℕ) (untouched same untouched_next : Type 0)
    (count : ℕ) (said new : Transcribed) (line : List ℕ) (failed : Type 0) → count < most_lines
    → HasText unread now told told_now came untouched count said
    → LineReads most_line_bytes now next told_now told_next came_next same line failed
    → (same → (came_next ≡ came) × (untouched → untouched_next)) → IsWhole line → after_line said (entry_of (content line)) ≡ Some new
    → HasText unread next told told_next came_next untouched_next (count + 1) new
HasText-line unread now next told told_now told_next came came_next untouched same untouched_next count said new line failed within h r stays whole is =
    let pushed : concat (h.raw ++ line ∷ []) ≡ concat h.raw ++ line =
    concat-append h.raw (line ∷ []) ∙ ap (λ (l : List ℕ). concat h.raw ++ l) (append-nil line) in
    record {
      raw = h.raw ++ line ∷ [];
      are_whole = AreWhole-push h.raw line h.are_whole whole;
      count_is = length-append h.raw (line ∷ []) ∙ ap (λ (k : ℕ). k + 1) h.count_is;
      leads = λ more. ap (λ (l : List (List ℕ)). text_of (l ++ more)) (map-append content h.raw (line ∷ []))
          ∙ ap text_of (append_assoc (map content h.raw) (content line ∷ []) more) ∙ h.leads (content line ∷ more)
          ∙ one_line count said (content line) more (Some new) within is;
      read = h.read ++ r.read;
      consumes = Consumes-trans told told_now told_next h.read r.read h.consumes r.consumes;
      bytes = text_bytes unread now next told told_now told_next came came_next untouched same count said line failed h r
          ∙ sym (append_assoc (concat h.raw) line next) ∙ ap (λ (l : List ℕ). l ++ next) (sym pushed);
      needed = text_needed unread now next told told_now told_next came came_next untouched same untouched_next count said line failed
          (omega (arith, within)) h r stays;
    }

-- what the text is was told by what came next
pub TextReads-ended : (unread now next : List ℕ) (told told_now told_next : Option (List ℕ)) (came came_next : ℕ) (untouched same untouched_next : Type 0)
    (count : ℕ) (said : Transcribed) (taken : List ℕ) (failed stopped : Type 0) → count ≤ most_lines
    → HasText unread now told told_now came untouched count said
    → LineReads most_line_bytes now next told_now told_next came_next same taken failed
    → (same → (came_next ≡ came) × (untouched → untouched_next)) → (stopped → ⊥)
    → TextReads unread told told_next came_next untouched_next stopped
TextReads-ended unread now next told told_now told_next came came_next untouched same untouched_next count said taken failed stopped within h r stays other = record {
  read = h.read ++ r.read;
  consumes = Consumes-trans told told_now told_next h.read r.read h.consumes r.consumes;
  needed = text_needed unread now next told told_now told_next came came_next untouched same untouched_next count said taken failed within h r stays;
  left_open = λ e. absurd (other e);
}

-- nothing came next
pub TextReads-failed : (unread now next : List ℕ) (told told_now told_next : Option (List ℕ)) (came came_next : ℕ) (untouched same untouched_next : Type 0)
    (count : ℕ) (said : Transcribed) (failed stopped : Type 0) → count ≤ most_lines
    → HasText unread now told told_now came untouched count said
    → LineReads most_line_bytes now next told_now told_next came_next same [] failed
    → (same → (came_next ≡ came) × (untouched → untouched_next)) → (stopped → failed)
    → TextReads unread told told_next came_next untouched_next stopped
TextReads-failed unread now next told told_now told_next came came_next untouched same untouched_next count said failed stopped within h r stays cause = record {
  read = h.read ++ r.read;
  consumes = Consumes-trans told told_now told_next h.read r.read h.consumes r.consumes;
  needed = text_needed unread now next told told_now told_next came came_next untouched same untouched_next count said [] failed within h r stays;
  left_open = λ e. text_so_far unread now told told_now came untouched count said next (unread ++ (h.read ++ r.read)) within h (r.begun (cause e))
      (text_bytes unread now next told told_now told_next came came_next untouched same count said [] failed h r);
}

-- the same, where the failure is told otherwise
pub TextReads-as : (unread : List ℕ) (told told_after : Option (List ℕ)) (came : ℕ) (untouched failed stopped : Type 0) → (stopped → failed)
    → TextReads unread told told_after came untouched failed → TextReads unread told told_after came untouched stopped
TextReads-as unread told told_after came untouched failed stopped to r =
    record { read = r.read; consumes = r.consumes; needed = r.needed; left_open = λ e. r.left_open (to e) }
