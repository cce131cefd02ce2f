-- What an audit finds of an input, from what was read of its layout and found of the text behind it.
use Rattle.std.proofs.Common.{◌≡◌, ℕ, ◌≤◌, List, [], ◌++◌, length, map, Option, Some, None, Result, Ok, Err, inl, inr, refl, sym, ap, ◌∙◌, subst}
use Rattle.std.specs.Io.KnownBytes.{Appends, Keeps, IsAtEnd, prepend_known}
use Rattle.std.proofs.KnownBytes.{prepend_known-nil}
use Rattle.fab_io.proofs.Content.{Appends-none}
use Rattle.fab_base.specs.Layouts.{Layout}
use Rattle.layout.specs.declared.faults.LayoutFault.{LayoutFault}
use Rattle.layout.specs.Texts.{layout_of}
use Rattle.lines.specs.Lines.{raw_lines, content}
use Rattle.lines.specs.Reading.{ReadsSchedule}
use Rattle.lines.proofs.Needs.{IsNeeded-map}
use Rattle.transcript.specs.Transcripts.{text_of, text_behind}
use Rattle.transcript.specs.Readings.{TextSoFar, TextReads}
use Rattle.audit.specs.declared.findings.Finding.TheVariants.{Sound}
use Rattle.audit.specs.declared.examining.AuditResult.{AuditResult}
use Rattle.audit.specs.declared.examining.AuditResult.TheVariants.{Judged, BadForm, TooMany}
use Rattle.audit.specs.Examining.{Examines, ExaminesLeft}
use Rattle.audit.proofs.OneVerdict.{verdict_alone}
use Rattle.replay.specs.declared.endings.RunResult.{RunResult}
use Rattle.replay.specs.declared.endings.Halt.{Halt}
use Rattle.replay.specs.declared.endings.Halt.TheVariants.{Source, Sink, Memory}
use Rattle.replay.specs.declared.audits.Audited.{Audited}
use Rattle.replay.specs.declared.audits.Audited.TheVariants.{NoLayout, LongLayout, NoEnd, Examined}
use Rattle.replay.specs.Inputs.{Input, Parted, TooLong, Endless, most_layout_bytes, input_of, IsInput}
use Rattle.replay.specs.Readings.{ReadsPart, BehindSoFar}
use Rattle.replay.specs.Replays.{status_of, MayGoOn, LeavesOpen}
use Rattle.replay.specs.AuditFindings.{AuditsWith, Audits, FindsAlone}
use Rattle.replay.specs.Audits.{FindsTold, EndsAudited, FindsLeft, FindsBehind, FindsIn, AuditPrints, AuditGoesOn, IsAuditDecided}
use Rattle.replay.proofs.Inputs.{input_of-parts, at_end}

-- what is found of the lines behind a layout's text is found alone
with_alone : (layout : Result Layout LayoutFault) (lines : List (List ℕ)) (one other : Audited) → AuditsWith layout lines one
    → AuditsWith layout lines other → other ≡ one
with_alone (Err fault) lines one other p q = q ∙ sym p
with_alone (Ok layout) lines one other p q =
    q.2 ∙ ap (λ (f : AuditResult). Examined f) (verdict_alone layout (text_of lines) p.0 q.0 p.1 q.1) ∙ sym p.2

-- what is found of an input is found alone
finds_alone : (input : Input) (one other : Audited) → Audits input one → Audits input other → other ≡ one
finds_alone (Parted head lines) one other p q = with_alone (layout_of head) lines one other p q
finds_alone TooLong one other p q = q ∙ sym p
finds_alone Endless one other p q = q ∙ sym p

-- so it is
alone : (input : Input) (audited : Audited) → Audits input audited → FindsAlone input audited
alone input audited p = record { finds = p; alone = λ other q. finds_alone input audited other p q }

-- a sound text behind a layout
pub sound_alone : (head : List ℕ) (layout : Layout) (lines : List (List ℕ)) → layout_of head ≡ Ok layout → Examines layout (text_of lines) (Judged Sound)
    → FindsAlone (Parted head lines) (Examined (Judged Sound))
sound_alone head layout lines is sound =
    alone (Parted head lines) (Examined (Judged Sound))
    (subst (λ (r : Result Layout LayoutFault). AuditsWith r lines (Examined (Judged Sound))) (sym is) (Judged Sound, sound, refl))

-- an input has no layout, and this is found of it
pub told_alone : (source : Option (List ℕ)) (input : Input) (audited : Audited) → IsInput source input → Audits input audited → FindsTold source audited
told_alone None input audited is p = tt
told_alone (Some bytes) input audited is p = alone (input_of bytes) audited (subst (λ (i : Input). Audits i audited) (sym is) p)

-- the layout was taken, and this was found behind it
told_behind : (source left : Option (List ℕ)) (head : List ℕ) (audited : Audited) → ReadsSchedule source left head [] → length head ≤ most_layout_bytes
    → FindsLeft head left audited → FindsTold source audited
told_behind None left head audited reads under p = tt
told_behind (Some x) None head audited reads under p = absurd reads
told_behind (Some x) (Some y) head audited reads under p =
    told_alone (Some x) (Parted head (map content (raw_lines y))) audited (input_of-parts x head (map content (raw_lines y)) under reads) p

-- bytes that were not read yet stand before those of the source
ended : (unread : List ℕ) (source : Option (List ℕ)) (audited : Audited) → EndsAudited audited (prepend_known unread source) → EndsAudited audited source
ended unread source (NoLayout fault) e = tt
ended unread source LongLayout e = tt
ended unread source NoEnd e = tt
ended unread source (Examined (Judged finding)) e = at_end unread source e
ended unread source (Examined (BadForm line)) e = tt
ended unread source (Examined TooMany) e = tt

pub told_unread : (unread : List ℕ) (source : Option (List ℕ)) (audited : Audited) → unread ≡ [] → FindsTold (prepend_known unread source) audited
    → FindsTold source audited
told_unread unread source audited none p =
    subst (λ (s : Option (List ℕ)). FindsTold s audited) (ap (λ u. prepend_known u source) none ∙ prepend_known-nil source) p

-- what was found behind a layout was found of the input
pub FindsIn-behind : (first unread : List ℕ) (source source_after left : Option (List ℕ)) (head : List ℕ) (audited : Audited) → first ≡ []
    → ReadsSchedule (prepend_known first source) left head [] → length head ≤ most_layout_bytes
    → FindsBehind head left (prepend_known unread source_after) audited → FindsIn source source_after audited
FindsIn-behind first unread source source_after left head audited none reads under p = (
  told_unread first source audited none (told_behind (prepend_known first source) left head audited reads under p.0),
  ended unread source_after audited p.1,
)

-- this was found of the lines that are left
pub left_found : (head : List ℕ) (layout : Layout) (left : Option (List ℕ)) (found : AuditResult) → layout_of head ≡ Ok layout
    → ExaminesLeft layout left found → FindsLeft head left (Examined found)
left_found head layout None found is p = tt
left_found head layout (Some bytes) found is p =
    subst (λ (r : Result Layout LayoutFault). AuditsWith r (map content (raw_lines bytes)) (Examined found)) (sym is) (found, p, refl)

-- a text without lines has no counts
empty_found : (layout : Layout) → Examines layout (text_of []) (BadForm 1)
unfolding text_behind
empty_found layout = refl

-- no line is left, and the counts are missing on the first
pub none_found : (head : List ℕ) (layout : Layout) (left : Option (List ℕ)) → layout_of head ≡ Ok layout → IsAtEnd left
    → FindsLeft head left (Examined (BadForm 1))
none_found head layout None is end = tt
none_found head layout (Some bytes) is end =
    left_found head layout (Some bytes) (BadForm 1) is
    (subst (λ (b : List ℕ). Examines layout (text_of (map content (raw_lines b))) (BadForm 1)) (sym end) (empty_found layout))

-- the layout's text is none
pub refused_found : (head : List ℕ) (left : Option (List ℕ)) (fault : LayoutFault) → layout_of head ≡ Err fault → FindsLeft head left (NoLayout fault)
refused_found head None fault is = tt
refused_found head (Some bytes) fault is =
    subst (λ (r : Result Layout LayoutFault). AuditsWith r (map content (raw_lines bytes)) (NoLayout fault)) (sym is) refl

-- lines that lead on were read behind a layout's text
audit_goes : (head : List ℕ) (layout : Layout) (bytes : List ℕ) → layout_of head ≡ Ok layout → TextSoFar bytes → BehindSoFar AuditGoesOn head bytes []
audit_goes head layout bytes is s = record {
  raw = s.raw;
  begun = s.begun;
  are_whole = s.are_whole;
  has_none = s.is_begun.0;
  bytes_are = s.bytes_are;
  goes = (s.is_begun, (layout, is), s.leads_on, refl);
}

-- what was read of a text was read behind its layout's
pub ReadsPart-text : (head : List ℕ) (layout : Layout) (unread : List ℕ) (told told_after : Option (List ℕ)) (came : ℕ) (untouched failed stopped : Type 0)
    → layout_of head ≡ Ok layout → (stopped → failed) → TextReads unread told told_after came untouched failed
    → ReadsPart (BehindSoFar AuditGoesOn head) unread told told_after None None came untouched stopped
ReadsPart-text head layout unread told told_after came untouched failed stopped is cause r = record {
  read = r.read;
  consumes = r.consumes;
  needed = IsNeeded-map TextSoFar (λ bytes. (text : List ℕ) × BehindSoFar AuditGoesOn head bytes text) unread r.read came untouched
      (λ bytes s. ([], audit_goes head layout bytes is s)) r.needed;
  printed = λ e. ([], audit_goes head layout (unread ++ r.read) is (r.left_open (cause e)), tt);
}

-- an audit that goes on has printed nothing
no_text : (input : Input) (begun text : List ℕ) → MayGoOn AuditGoesOn input begun text → text ≡ []
no_text (Parted head lines) begun text goes = goes.3
no_text TooLong begun text goes = absurd goes
no_text Endless begun text goes = goes.1

-- a sink that took nothing
pub ReadsPart-sink : (told told_after old new : Option (List ℕ)) (came : ℕ) (untouched failed stopped : Type 0) → (stopped → failed × Keeps old new)
    → ReadsPart (LeavesOpen AuditGoesOn) [] told told_after None None came untouched failed
    → ReadsPart (LeavesOpen AuditGoesOn) [] told told_after old new came untouched stopped
ReadsPart-sink told told_after old new came untouched failed stopped cause r = record {
  read = r.read;
  consumes = r.consumes;
  needed = r.needed;
  printed = λ e.
      let stop = cause e in
      let open_at = r.printed stop.0 in
      (open_at.0, open_at.1, subst (Appends old new) (sym (no_text _ _ open_at.0 open_at.1)) (Appends-none old new stop.1));
}

-- an audit that neither end stopped answers what the input calls for, or was stopped for want of memory
pub audit_decided : (source source_after old new : Option (List ℕ)) (ending : Result RunResult Halt)
    → AuditPrints (FindsIn source source_after) old new ending → (ending ≡ Err Source → ⊥) → (ending ≡ Err Sink → ⊥)
    → IsAuditDecided source (status_of ending)
audit_decided None source_after old new ending p no_source no_sink = tt
audit_decided (Some bytes) source_after old new (Ok one) p no_source no_sink =
    inl (p.0, p.1.0, ap (λ (v : RunResult). status_of (Ok v)) p.2)
audit_decided (Some bytes) source_after old new (Err Source) p no_source no_sink = absurd (no_source refl)
audit_decided (Some bytes) source_after old new (Err Sink) p no_source no_sink = absurd (no_sink refl)
audit_decided (Some bytes) source_after old new (Err Memory) p no_source no_sink = inr refl
