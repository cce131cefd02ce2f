-- What `replay` prints for a line is whole lines, none of which begins with a space.
use Rattle.std.proofs.Common.{◌≡◌, Bool, ℕ, zero, suc, ◌+◌, ◌/◌, ◌%◌, ◌<◌, ◌==◌, not, true, false, List, [], ◌∷◌, ◌++◌, codes, nat_lt, slice_index, refl, sym, ap, ◌∙◌, subst, arith, lit<, append_assoc}
use Rattle.std.specs.List.{list_all}
use Rattle.std.specs.Fmt.{decimal, digits, digits_onto, digit_glyph}
use Rattle.std.proofs.lemmas.Bool.{cond_both}
use Rattle.std.proofs.lemmas.Bool.Decides.{nat_tests}
use Rattle.hex.specs.Hex.{encode_with, encode_lower, lower_digits}
use Rattle.fab_base.specs.declared.stamps.Stamp.{Stamp}
use Rattle.fab_base.specs.declared.asks.Ask.{Ask}
use Rattle.fab_base.specs.declared.asks.Op.{Op}
use Rattle.fab_base.specs.declared.asks.Op.TheVariants.{ReadBlock, WriteBlock, ReadStripe, WriteStripe}
use Rattle.fab_base.specs.declared.answers.Answer.{Answer}
use Rattle.fab_base.specs.declared.answers.Answer.TheVariants.{Data, Done, Aborted}
use Rattle.fab_base.specs.declared.answers.Cause.{Cause}
use Rattle.fab_base.specs.declared.answers.Cause.TheVariants.{Later, Gone, Full, Moved}
use Rattle.fab_base.specs.declared.answers.Refusal.{Refusal}
use Rattle.fab_base.specs.declared.answers.Refusal.TheVariants.{Down, NoStripe, NoQuorum, NoBlock, Length, Busy, Spent}
use Rattle.fab_base.specs.declared.identities.BrickId.{BrickId}
use Rattle.fab_base.specs.declared.stamps.Ballot.{Ballot}
use Rattle.fab_base.specs.Stamps.{stamp_text, ballot_text}
use Rattle.protocol.specs.declared.tellings.ViewAnswer.{ViewAnswer}
use Rattle.protocol.specs.declared.tellings.ViewAnswer.TheVariants as ended
use Rattle.protocol.specs.declared.tellings.SyncAnswer.{SyncAnswer}
use Rattle.protocol.specs.declared.tellings.SyncAnswer.TheVariants as synced
use Rattle.protocol.specs.declared.tellings.ScrubAnswer.{ScrubAnswer}
use Rattle.protocol.specs.declared.tellings.ScrubAnswer.TheVariants as scrubbed
use Rattle.protocol.specs.declared.tellings.Report.{Report}
use Rattle.protocol.specs.declared.tellings.Report.TheVariants.{View, Sync, Scrub}
use Rattle.reg_model.specs.declared.marks.Mark.{Mark}
use Rattle.reg_model.specs.declared.marks.Mark.TheVariants.{Begin, End, Crash}
use Rattle.lines.specs.declared.forms.Line.{Line}
use Rattle.lines.specs.declared.forms.Line.TheVariants as line
use Rattle.protocol.specs.Settings.{Setting}
use Rattle.protocol.specs.Worlds.{World, Event, happens}
use Rattle.fab_base.specs.Texts.{newline, cause_text, refusal_text}
use Rattle.world.specs.Texts.{place_text, op_text, answer_text, mark_text, marks_text, members_text, view_answer_text, sync_answer_text, scrub_answer_text, report_text, reports_text, idle_text, outcome_of, new_marks, new_reports, outcome_text, event_text, text_of, suspicion_text, empty_text, line_text}
use Rattle.world.specs.Suspected.{has_both}
use Rattle.world.specs.declared.simulations.Outcome.{Outcome}
use Rattle.world.specs.declared.simulations.Outcome.TheVariants.{Marks, Refused, Idle}
use Rattle.trace.specs.Told.{told_in, IsTold, IsStepText, indented, is_inside}
use Rattle.trace.proofs.WholeTexts.{IsInside, no_feed, inside_byte, inside_first, inside_rest, inside-cons, inside-both, told-own, told-none, told-after}

-- a text behind spaces, whatever stands behind it, and what that tells
pub record Speaks (text : List ℕ) : Type 0 where
  pub joins : (rest : List ℕ) → indented true (text ++ rest) ≡ indented true text ++ indented true rest
  pub is_told : IsTold (indented true text) text

speaks-none : Speaks []
speaks-none = record { joins = λ rest. refl; is_told = told-none }

speaks-both : (a b : List ℕ) → Speaks a → Speaks b → Speaks (a ++ b)
speaks-both a b p q = record {
  joins = λ rest. ap (indented true) (append_assoc a b rest) ∙ p.joins (b ++ rest)
      ∙ ap (λ (l : List ℕ). indented true a ++ l) (q.joins rest) ∙ sym (append_assoc (indented true a) (indented true b) (indented true rest))
      ∙ ap (λ (l : List ℕ). l ++ indented true rest) (sym (p.joins b));
  is_told = subst (λ (l : List ℕ). IsTold l (a ++ b)) (sym (p.joins b)) (told-after (indented true a) (indented true b) a b p.is_told q.is_told);
}

-- the rest of a line keeps its bytes
indented-line : (body rest : List ℕ) → IsInside body → indented false (body ++ 10 ∷ rest) ≡ body ++ 10 ∷ indented true rest
indented-line [] rest inside = refl
indented-line (b ∷ body) rest inside =
    ap (λ t. b ∷ indented t (body ++ 10 ∷ rest)) (no_feed b (inside_first b body inside))
    ∙ ap (λ (l : List ℕ). b ∷ l) (indented-line body rest (inside_rest b body inside))

-- a line that begins with no space
pub record IsLine (text : List ℕ) : Type 0 where
  pub first : ℕ
  pub body : List ℕ
  pub solid : 32 < first
  pub inside : IsInside body
  pub text_is : text ≡ first ∷ (body ++ newline)

indented-first : (b : ℕ) (body rest : List ℕ) → 32 < b → IsInside body
    → indented true (b ∷ (body ++ 10 ∷ rest)) ≡ (32 ∷ 32 ∷ b ∷ body) ++ 10 ∷ indented true rest
indented-first b body rest solid inside =
    ap (λ t. 32 ∷ 32 ∷ b ∷ indented t (body ++ 10 ∷ rest)) (no_feed b (inside_byte b solid))
    ∙ ap (λ (l : List ℕ). 32 ∷ 32 ∷ b ∷ l) (indented-line body rest inside)

first_told : (b : ℕ) (body : List ℕ) → 32 < b → IsInside body → IsTold ((32 ∷ 32 ∷ b ∷ body) ++ newline) (b ∷ (body ++ newline))
first_told b body solid inside more =
    let other : (b == 32) ≡ false = grind (arith, nat_tests) in
    ap told_in (append_assoc (32 ∷ 32 ∷ b ∷ body) newline more)
    ∙ told-own (32 ∷ 32 ∷ b ∷ body) more (inside-cons b body (inside_byte b solid) inside) (ap not other)

speaks-first : (b : ℕ) (body : List ℕ) → 32 < b → IsInside body → Speaks (b ∷ (body ++ newline))
speaks-first b body solid inside = record {
  joins = λ rest. ap (λ (l : List ℕ). indented true (b ∷ l)) (append_assoc body newline rest) ∙ indented-first b body rest solid inside
      ∙ sym (append_assoc (32 ∷ 32 ∷ b ∷ body) newline (indented true rest))
      ∙ ap (λ (l : List ℕ). l ++ indented true rest) (sym (indented-first b body [] solid inside));
  is_told = subst (λ (l : List ℕ). IsTold l (b ∷ (body ++ newline))) (sym (indented-first b body [] solid inside)) (first_told b body solid inside);
}

speaks-line : (text : List ℕ) → IsLine text → Speaks text
speaks-line text l = subst Speaks (sym l.text_is) (speaks-first l.first l.body l.solid l.inside)

-- a text that ends with its only line feed
abbrev Ends : List ℕ → Type 0
Ends text = (body : List ℕ) × IsInside body × (text ≡ body ++ newline)

ends_here : Ends newline
ends_here = ([], refl, refl)

behind : (a text : List ℕ) → IsInside a → Ends text → Ends (a ++ text)
behind a text inside (body, rest, is) =
    (a ++ body, inside-both a body inside rest, ap (λ (l : List ℕ). a ++ l) is ∙ sym (append_assoc a body newline))

-- digits, one at least
abbrev Starts : List ℕ → Type 0
Starts text = (first : ℕ) × (rest : List ℕ) × (32 < first) × IsInside rest × (text ≡ first ∷ rest)

glyph_solid : (d : ℕ) → 32 < digit_glyph false d
glyph_solid d = cond_both (nat_lt d 10) (48 + d) (87 + d) (λ (x : ℕ). 32 < x) (λ e. omega arith) (λ e. omega arith)

all_inside : (text : List ℕ) → Starts text → IsInside text
all_inside text (first, rest, solid, inside, is) = ap (list_all is_inside) is ∙ inside-cons first rest (inside_byte first solid) inside

digits-more : (k n : ℕ) (text : List ℕ) → Starts text → Starts (digits_onto k 10 false n text)
digits-more zero n text starts = starts
digits-more (suc k) n text starts =
    let glyph = digit_glyph false (n % 10) in
    let one : Starts (glyph ∷ text) = (glyph, text, glyph_solid (n % 10), all_inside text starts, refl) in
    cond_both (n / 10 == 0) (glyph ∷ text) (digits_onto k 10 false (n / 10) (glyph ∷ text)) Starts (λ e. one)
    (λ e. digits-more k (n / 10) (glyph ∷ text) one)

digits-some : (k n : ℕ) → Starts (digits_onto (suc k) 10 false n [])
digits-some k n =
    let glyph = digit_glyph false (n % 10) in
    let one : Starts (glyph ∷ []) = (glyph, [], glyph_solid (n % 10), refl, refl) in
    cond_both (n / 10 == 0) (glyph ∷ []) (digits_onto k 10 false (n / 10) (glyph ∷ [])) Starts (λ e. one)
    (λ e. digits-more k (n / 10) (glyph ∷ []) one)

decimal-starts : (n : ℕ) → Starts (decimal n)
unfolding digits
decimal-starts n = digits-some 63 n

number : (n : ℕ) (text : List ℕ) → Ends text → Ends (decimal n ++ text)
number n text ends = behind (decimal n) text (all_inside (decimal n) (decimal-starts n)) ends

-- what stands behind a number makes a line of it
line-number : (n : ℕ) (text : List ℕ) → Ends text → IsLine (decimal n ++ text)
line-number n text (body, inside, is) =
    let (first, rest, solid, digits, starts) = decimal-starts n in
    record {
      first = first;
      body = rest ++ body;
      solid = solid;
      inside = inside-both rest body digits inside;
      text_is = ap (λ (l : List ℕ). l ++ text) starts ∙ ap (λ (l : List ℕ). first ∷ (rest ++ l)) is
          ∙ ap (λ (l : List ℕ). first ∷ l) (sym (append_assoc rest body newline));
    }

-- the digits of bytes
inside-at : (t : List ℕ) (i : ℕ) → IsInside t → is_inside (slice_index t i) ≡ true
inside-at [] i inside = refl
inside-at (b ∷ t) zero inside = inside_first b t inside
inside-at (b ∷ t) (suc i) inside = inside-at t i (inside_rest b t inside)

inside-hex : (bytes : List ℕ) → IsInside (encode_lower bytes)
unfolding encode_with
inside-hex [] = refl
inside-hex (b ∷ bytes) =
    let low = slice_index lower_digits (b % 16) in
    inside-cons (slice_index lower_digits (b / 16)) (low ∷ encode_lower bytes) (inside-at lower_digits (b / 16) refl)
    (inside-cons low (encode_lower bytes) (inside-at lower_digits (b % 16) refl) (inside-hex bytes))

hex : (bytes text : List ℕ) → Ends text → Ends (encode_lower bytes ++ text)
hex bytes text ends = behind (encode_lower bytes) text (inside-hex bytes) ends

inside-number : (n : ℕ) → IsInside (decimal n)
inside-number n = all_inside (decimal n) (decimal-starts n)

inside-point : (n : ℕ) (text : List ℕ) → IsInside text → IsInside (decimal n ++ (codes "." ++ text))
inside-point n text inside = inside-both (decimal n) (codes "." ++ text) (inside-number n) inside

inside-stamp : (s : Stamp) → IsInside (stamp_text s)
inside-stamp s =
    let boot : List ℕ = decimal s.boot in
    let brick : List ℕ = decimal s.brick.0 ++ (codes "." ++ boot) in
    let time : List ℕ = decimal s.time ++ (codes "." ++ brick) in
    inside-point s.view.0 time (inside-point s.time brick (inside-point s.brick.0 boot (inside-number s.boot)))

stamp : (s : Stamp) (text : List ℕ) → Ends text → Ends (stamp_text s ++ text)
stamp s text ends = behind (stamp_text s) text (inside-stamp s) ends

place : (ask : Ask) (text : List ℕ) → Ends text → Ends (place_text ask text)
place ask text ends = number ask.group.0 _ (behind (codes " ") _ refl (number ask.stripe.0 text ends))

op_ends : (ask : Ask) (op : Op) → Ends (op_text ask op)
op_ends ask (ReadBlock j) = behind (codes "read ") _ refl (place ask _ (behind (codes " ") _ refl (number j newline ends_here)))
op_ends ask (WriteBlock j bytes) =
    behind (codes "write ") _ refl
    (place ask _ (behind (codes " ") _ refl (number j _ (behind (codes " ") _ refl (hex bytes newline ends_here)))))
op_ends ask ReadStripe = behind (codes "readall ") _ refl (place ask newline ends_here)
op_ends ask (WriteStripe bytes) = behind (codes "writeall ") _ refl (place ask _ (behind (codes " ") _ refl (hex bytes newline ends_here)))

cause_ends : (cause : Cause) → Ends (cause_text cause)
cause_ends (Later brick top) = behind (codes "later ") _ refl (number brick.0 _ (behind (codes " ") _ refl (stamp top newline ends_here)))
cause_ends (Gone brick) = behind (codes "gone ") _ refl (number brick.0 newline ends_here)
cause_ends (Full brick live) = behind (codes "full ") _ refl (number brick.0 _ (behind (codes " ") _ refl (number live newline ends_here)))
cause_ends (Moved brick view) = behind (codes "moved ") _ refl (number brick.0 _ (behind (codes " ") _ refl (number view.0 newline ends_here)))

answer_ends : (answer : Answer) → Ends (answer_text answer)
answer_ends (Data bytes) = behind (codes "data ") _ refl (hex bytes newline ends_here)
answer_ends Done = behind (codes "done") newline refl ends_here
answer_ends (Aborted cause) = behind (codes "aborted ") _ refl (cause_ends cause)

-- marks, one by one and in a row
mark_line : (mark : Mark) → IsLine (mark_text mark)
mark_line (Begin p n brick ask) =
    line-number p _ (behind (codes " begin ") _ refl (number n _ (behind (codes " ") _ refl
    (number brick.0 _ (behind (codes " ") _ refl (op_ends ask ask.op))))))
mark_line (End p n answer) = line-number p _ (behind (codes " end ") _ refl (number n _ (behind (codes " ") _ refl (answer_ends answer))))
mark_line (Crash p brick) = line-number p _ (behind (codes " crash ") _ refl (number brick.0 newline ends_here))

speaks-marks : (marks : List Mark) → Speaks (marks_text marks)
speaks-marks [] = speaks-none
speaks-marks (mark ∷ marks) = speaks-both (mark_text mark) (marks_text marks) (speaks-line (mark_text mark) (mark_line mark)) (speaks-marks marks)

-- a ballot
inside-ballot : (b : Ballot) → IsInside (ballot_text b)
inside-ballot b =
    let boot : List ℕ = decimal b.boot in
    inside-point b.round (decimal b.brick.0 ++ (codes "." ++ boot)) (inside-point b.brick.0 boot (inside-number b.boot))

-- members, to the end of a line
members_end : (members : List BrickId) → Ends (members_text members)
members_end [] = ends_here
members_end (member ∷ members) = behind (codes " ") _ refl (number member.0 (members_text members) (members_end members))

view_ends : (answer : ViewAnswer) → Ends (view_answer_text answer)
view_ends (ended.Decided view members) = behind (codes "decided ") _ refl (number view.0 (members_text members) (members_end members))
view_ends (ended.Outbid ballot) = behind (codes "outbid ") _ refl (behind (ballot_text ballot) newline (inside-ballot ballot) ends_here)
view_ends (ended.NotSynced brick) = behind (codes "notsynced ") _ refl (number brick.0 newline ends_here)
view_ends (ended.Moved view) = behind (codes "moved ") _ refl (number view.0 newline ends_here)
view_ends ended.BadMembers = behind (codes "badmembers") newline refl ends_here

sync_ends : (answer : SyncAnswer) → Ends (sync_answer_text answer)
sync_ends (synced.Synced view) = behind (codes "synced ") _ refl (number view.0 newline ends_here)
sync_ends (synced.Stopped stripe cause) =
    behind (codes "stopped ") _ refl (number stripe.0 _ (behind (codes " ") _ refl (cause_ends cause)))
sync_ends (synced.Spent stripe) = behind (codes "spent ") _ refl (number stripe.0 newline ends_here)

scrub_ends : (answer : ScrubAnswer) → Ends (scrub_answer_text answer)
scrub_ends scrubbed.Clean = behind (codes "clean") newline refl ends_here
scrub_ends (scrubbed.Repaired version lagging) =
    behind (codes "repaired ") _ refl (stamp version (members_text lagging) (members_end lagging))
scrub_ends (scrubbed.Aborted cause) = behind (codes "aborted ") _ refl (cause_ends cause)

-- a word makes a line of what stands behind its first letter
line-word : (first : ℕ) (text : List ℕ) → 32 < first → Ends text → IsLine (first ∷ text)
line-word first text solid (body, inside, is) =
    record { first = first; body = body; solid = solid; inside = inside; text_is = ap (λ (l : List ℕ). first ∷ l) is }

-- reports, one by one and in a row
report_line : (report : Report) → IsLine (report_text report)
report_line (View group call answer) =
    line-word 118 _ (lit< tt) (behind (codes "iew ") _ refl (number group.0 _ (behind (codes " ") _ refl (view_ends answer))))
report_line (Sync group answer) =
    line-word 115 _ (lit< tt) (behind (codes "ync ") _ refl (number group.0 _ (behind (codes " ") _ refl (sync_ends answer))))
report_line (Scrub call members answer) =
    line-word 115 _ (lit< tt) (behind (codes "crub ") _ refl (number call.group.0 _ (behind (codes " ") _ refl
    (number call.stripe.0 _ (behind (codes " ") _ refl (scrub_ends answer))))))

speaks-reports : (reports : List (BrickId × Report)) → Speaks (reports_text reports)
speaks-reports [] = speaks-none
speaks-reports (told ∷ reports) =
    speaks-both (report_text told.1) (reports_text reports) (speaks-line (report_text told.1) (report_line told.1)) (speaks-reports reports)

-- words alone
speaks-refusal : (refusal : Refusal) → Speaks (refusal_text refusal)
speaks-refusal Down = speaks-first 114 (codes "efused down") (lit< tt) refl
speaks-refusal NoStripe = speaks-first 114 (codes "efused nostripe") (lit< tt) refl
speaks-refusal NoQuorum = speaks-first 114 (codes "efused noquorum") (lit< tt) refl
speaks-refusal NoBlock = speaks-first 114 (codes "efused noblock") (lit< tt) refl
speaks-refusal Length = speaks-first 114 (codes "efused length") (lit< tt) refl
speaks-refusal Busy = speaks-first 114 (codes "efused busy") (lit< tt) refl
speaks-refusal Spent = speaks-first 114 (codes "efused spent") (lit< tt) refl

speaks-idle : Speaks idle_text
speaks-idle = speaks-first 105 (codes "dle") (lit< tt) refl

-- events, one by one and in a row
speaks-outcome : (outcome : Outcome) (marks : List Mark) (reports : List (BrickId × Report)) → Speaks (outcome_text outcome marks reports)
speaks-outcome Marks marks reports = speaks-both (marks_text marks) (reports_text reports) (speaks-marks marks) (speaks-reports reports)
speaks-outcome (Refused refusal) marks reports = speaks-refusal refusal
speaks-outcome Idle marks reports = speaks-idle

speaks-events : (setting : Setting) (w : World) (events : List Event) → Speaks (text_of setting w events)
speaks-events setting w [] = speaks-none
speaks-events setting w (event ∷ events) =
    speaks-both (event_text setting w event) (text_of setting (happens setting w event) events)
    (speaks-outcome (outcome_of setting w event) (new_marks w (happens setting w event)) (new_reports w (happens setting w event))) (speaks-events setting (happens setting w event) events)

-- what a line prints that is no event
speaks-suspicion : (has : Bool) → Speaks (suspicion_text has)
speaks-suspicion true = speaks-none
speaks-suspicion false = speaks-idle

speaks-empty : (bricks : ℕ) (l : Line) → Speaks (empty_text bricks l)
speaks-empty bricks line.Nothing = speaks-none
speaks-empty bricks (line.Invoke b g s access) = speaks-none
speaks-empty bricks (line.Deliver k fault) = speaks-none
speaks-empty bricks (line.SetClock b v) = speaks-none
speaks-empty bricks (line.Tick b) = speaks-none
speaks-empty bricks (line.Crash b) = speaks-none
speaks-empty bricks (line.Start b fault) = speaks-none
speaks-empty bricks (line.Propose b g members) = speaks-none
speaks-empty bricks (line.Sync b g) = speaks-none
speaks-empty bricks (line.Scrub b g s members) = speaks-none
speaks-empty bricks (line.Suspect b c) = speaks-suspicion (has_both bricks b c)
speaks-empty bricks (line.Trust b c) = speaks-suspicion (has_both bricks b c)
speaks-empty bricks (line.Spare b g) = speaks-idle
speaks-empty bricks (line.Calm n others) = speaks-idle

speaks-events_of : (setting : Setting) (w : World) (l : Line) (events : List Event) → Speaks (line_text setting w l events)
speaks-events_of setting w l [] = speaks-empty setting.layout.bricks l
speaks-events_of setting w l (event ∷ events) = speaks-events setting w (event ∷ events)

-- what `replay` prints for a line, behind spaces
pub step-told : (text : List ℕ) → IsStepText text → IsTold (indented true text) text
step-told text (setting, w, step, is) =
    subst (λ (l : List ℕ). IsTold (indented true l) l) (sym is) (speaks-events_of setting w step.line step.events).is_told

-- a text, and that behind it
pub tell-after : (old new printed : List ℕ) → IsStepText printed → new ≡ old ++ indented true printed → (told : List ℕ) → IsTold old told
    → IsTold new (told ++ printed)
tell-after old new printed step is told h =
    subst (λ (l : List ℕ). IsTold l (told ++ printed)) (sym is) (told-after old (indented true printed) told printed h (step-told printed step))

-- what begins with a number begins with no space
pub number-solid : (n : ℕ) (text number space rest : List ℕ) → text ≡ number ++ rest → number ≡ decimal n ++ space → 32 < slice_index text 0
number-solid n text number space rest is spelled =
    let (first, digits, solid, inside, starts) = decimal-starts n in
    subst (λ (l : List ℕ). 32 < slice_index l 0)
    (sym (is ∙ ap (λ (l : List ℕ). l ++ rest) spelled ∙ ap (λ (l : List ℕ). (l ++ space) ++ rest) starts)) solid
