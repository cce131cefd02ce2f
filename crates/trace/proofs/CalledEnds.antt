-- How the lines that are left end a run, and so the input.
use Rattle.std.proofs.Common.{◌≡◌, ◌≢◌, ℕ, ◌+◌, ◌<◌, ◌≤◌, List, [], ◌∷◌, length, map, Option, Some, None, IfSome, Result, Ok, Err, IfOk, inl, inr, refl, sym, ap, ◌∙◌, subst}
use Rattle.std.specs.Io.KnownBytes.{IsAtEnd, prepend_known}
use Rattle.std.proofs.KnownBytes.{prepend_known-nil}
use Rattle.fab_base.specs.Layouts.{Layout}
use Rattle.lines.specs.declared.forms.Line.{Line}
use Rattle.lines.specs.Grammar.{line_of}
use Rattle.lines.specs.Lines.{raw_lines, content}
use Rattle.lines.specs.Reading.{Passes, BeginsLong, Says, ReadsSchedule}
use Rattle.lines.specs.declared.reader.NextLine.{NextLine}
use Rattle.lines.specs.declared.reader.NextLine.TheVariants.{Ended}
use Rattle.layout.specs.declared.faults.LayoutFault.{LayoutFault}
use Rattle.layout.specs.Texts.{layout_of}
use Rattle.world.specs.Runs.{Run}
use Rattle.printed.specs.Outputs.{most_lines}
use Rattle.replay.specs.declared.endings.RunResult.{RunResult}
use Rattle.replay.specs.declared.endings.RunResult.TheVariants.{Whole, BadLayout, BadLine, TooManyLines, Refuted}
use Rattle.replay.specs.declared.endings.Halt.{Halt}
use Rattle.replay.specs.declared.endings.Halt.TheVariants.{Source, Sink, Memory}
use Rattle.replay.specs.Inputs.{Input, TooLong, Endless, most_layout_bytes, IsInput}
use Rattle.replay.specs.Outputs.{verdict_of, verdict_behind}
use Rattle.replay.specs.Replays.{status_of, IsDecided}
use Rattle.replay.specs.Turns.{AreLinesOf}
use Rattle.replay.proofs.Inputs.{input_of-parts}
use Rattle.replay.proofs.LeftLines.{first_line, long_line, some_line}
use Rattle.replay.proofs.OutputLines.{verdict_of-text, verdict_of-fault, verdict_of-long, verdict_of-endless, verdict_behind-end, verdict_behind-line, verdict_behind-bad, verdict_behind-many}
use Rattle.trace.specs.Calls.{CallsFor, CallsBehind, EndsAsCalled, IsLeftTo, PassesOne}
use Rattle.trace.specs.TextReport.{EndsAs, OpensLayout, IsRefused, Opens, IsRefusal, RunsLine, Turns}
use Rattle.trace.specs.declared.schedules.Opening.{Opening}
use Rattle.trace.specs.declared.schedules.Opening.TheVariants as opening
use Rattle.trace.specs.declared.schedules.Turn.{Turn}
use Rattle.trace.specs.declared.schedules.Turn.TheVariants as turn

-- lines that are left end a run so
lines-called : (n : ℕ) (left : Option (List ℕ)) (contents : List (List ℕ)) (verdict : RunResult) → AreLinesOf left contents
    → verdict_behind n contents ≡ verdict → CallsBehind n left verdict
lines-called n None contents verdict are is = tt
lines-called n (Some bytes) contents verdict are is = ap (verdict_behind n) are ∙ is

-- at the end all was run
pub end-called : (n : ℕ) (left : Option (List ℕ)) → IsAtEnd left → CallsBehind n left Whole
end-called n None end = tt
end-called n (Some bytes) end = ap (λ (b : List ℕ). verdict_behind n (map content (raw_lines b))) end ∙ verdict_behind-end n

-- a line was run, which there may be
pub line-passes : (n : ℕ) (before now : Option (List ℕ)) (raw : List ℕ) (line : Line) → n < most_lines → Passes before now (raw ∷ [])
    → line_of (content raw) ≡ Some line → PassesOne n before now
line-passes n None now raw line few passes is verdict called = tt
line-passes n (Some x) None raw line few passes is verdict called = absurd passes
line-passes n (Some x) (Some y) raw line few passes is verdict called =
    ap (λ (l : List (List ℕ)). verdict_behind n (map content l)) passes
    ∙ verdict_behind-line n (content raw) (map content (raw_lines y)) line few is ∙ called

-- the next line is none
pub bad-called : (n : ℕ) (left rest : Option (List ℕ)) (raw : List ℕ) → n < most_lines → Passes left rest (raw ∷ []) → line_of (content raw) ≡ None
    → CallsBehind n left (BadLine (n + 1))
bad-called n left rest raw few passes is =
    let first = first_line left rest raw passes in
    lines-called n left (content raw ∷ first.0) (BadLine (n + 1)) first.1 (verdict_behind-bad n (content raw) first.0 few is)

-- it is too long
pub long-called : (n : ℕ) (left : Option (List ℕ)) → n < most_lines → IfSome left (BeginsLong 70000) → CallsBehind n left (BadLine (n + 1))
long-called n left few long =
    let (line, contents, are, bad) = long_line left long in
    lines-called n left (line ∷ contents) (BadLine (n + 1)) are (verdict_behind-bad n line contents few bad)

-- it is one too many
pub many-called : (n : ℕ) (left rest : Option (List ℕ)) (piece : NextLine) → most_lines ≤ n → Says 70000 left rest piece → (piece ≡ Ended → ⊥)
    → CallsBehind n left TooManyLines
many-called n left rest piece all says more =
    let (line, contents, are) = some_line left rest piece says more in
    lines-called n left (line ∷ contents) TooManyLines are (verdict_behind-many n line contents all)

-- a layout was read, and all lines are left
start-left : (start now : Option (List ℕ)) (head : List ℕ) (layout : Layout) → length head ≤ most_layout_bytes → ReadsSchedule start now head []
    → layout_of head ≡ Ok layout → IsLeftTo start 0 now
start-left None now head layout few reads is verdict called = tt
start-left (Some x) None head layout few reads is verdict called = absurd reads
start-left (Some x) (Some y) head layout few reads is verdict called =
    ap verdict_of (input_of-parts x head (map content (raw_lines y)) few reads) ∙ verdict_of-text head layout (map content (raw_lines y)) is ∙ called

-- the text of a layout is none
fault-called : (start now : Option (List ℕ)) (head : List ℕ) (fault : LayoutFault) → length head ≤ most_layout_bytes → ReadsSchedule start now head []
    → layout_of head ≡ Err fault → CallsFor start BadLayout
fault-called None now head fault few reads is = tt
fault-called (Some x) None head fault few reads is = absurd reads
fault-called (Some x) (Some y) head fault few reads is =
    ap verdict_of (input_of-parts x head (map content (raw_lines y)) few reads) ∙ verdict_of-fault head fault (map content (raw_lines y)) is

-- an input that is called to end so
input-called : (start : Option (List ℕ)) (input : Input) (verdict : RunResult) → IsInput start input → verdict_of input ≡ verdict → CallsFor start verdict
input-called None input verdict is called = tt
input-called (Some x) input verdict is called = ap verdict_of is ∙ called

-- what a layout's text opens
pub opens-text : (start now : Option (List ℕ)) (head slice : List ℕ) (r : Result Opening Halt)
    → (length head ≤ most_layout_bytes) × ReadsSchedule start now head [] → slice ≡ head → IfOk r (OpensLayout slice) → IfOk r (Opens start now)
opens-text start now head slice r reads same opens =
    by r (subst (λ (l : List ℕ). IfOk r (OpensLayout l)) same opens)
  where
    by : (r : Result Opening Halt) → IfOk r (OpensLayout head) → IfOk r (Opens start now)
    by (Ok (opening.Opened world)) o = ((head, reads.1, o), start-left start now head world.layout reads.0 reads.1 o.0)
    by (Ok (opening.Refused why)) o = (o.0, fault-called start now head o.1.0 reads.0 reads.1 o.1.1)
    by (Err halt) o = tt

-- what no layout opens
opens-none : (start now : Option (List ℕ)) (input : Input) (r : Result Opening Halt) → IsInput start input → verdict_of input ≡ BadLayout
    → IfOk r IsRefused → IfOk r (Opens start now)
opens-none start now input (Ok (opening.Opened world)) is called refused = absurd refused
opens-none start now input (Ok (opening.Refused why)) is called refused = (refused, input-called start input BadLayout is called)
opens-none start now input (Err halt) is called refused = tt

pub opens-long : (start now : Option (List ℕ)) (r : Result Opening Halt) → IsInput start TooLong → IfOk r IsRefused → IfOk r (Opens start now)
opens-long start now r is refused = opens-none start now TooLong r is verdict_of-long refused

pub opens-endless : (start now : Option (List ℕ)) (r : Result Opening Halt) → IsInput start Endless → IfOk r IsRefused → IfOk r (Opens start now)
opens-endless start now r is refused = opens-none start now Endless r is verdict_of-endless refused

-- a line that is none
pub runs-none : (before after : Run) (number : ℕ) (raw : List ℕ) (r : Result Turn Halt) → line_of (content raw) ≡ None
    → IfOk r (IsRefusal (BadLine number)) → IfOk r (RunsLine before after number raw)
runs-none before after number raw (Ok (turn.Ran line run)) is refusal = absurd refusal
runs-none before after number raw (Ok turn.Ended) is refusal = absurd refusal
runs-none before after number raw (Ok (turn.Refused verdict why)) is refusal = (refusal, is)
runs-none before after number raw (Err halt) is refusal = tt

-- a refusal by what the lines behind the first n call for
pub turns-refused : (before after : Run) (n : ℕ) (start now : Option (List ℕ)) (verdict : RunResult) (r : Result Turn Halt) → verdict ≢ Whole
    → verdict ≢ Refuted → CallsBehind n start verdict → IfOk r (IsRefusal verdict) → IfOk r (Turns before after n start now)
turns-refused before after n start now verdict (Ok (turn.Ran line run)) whole refuted called refusal = absurd refusal
turns-refused before after n start now verdict (Ok turn.Ended) whole refuted called refusal = absurd refusal
turns-refused before after n start now verdict (Ok (turn.Refused other why)) whole refuted called refusal = (
  ((λ e. whole (sym refusal.0 ∙ e)), (λ e. refuted (sym refusal.0 ∙ e)), refusal.1),
  subst (λ (v : RunResult). CallsBehind n start v) (sym refusal.0) called,
)
turns-refused before after n start now verdict (Err halt) whole refuted called refusal = tt

-- bad lines, and lines too many, are no whole run and no refuted one
pub bad_not_whole : (n : ℕ) → BadLine n ≢ Whole
bad_not_whole n e = cc

pub bad_not_refuted : (n : ℕ) → BadLine n ≢ Refuted
bad_not_refuted n e = cc

pub many_not_whole : TooManyLines ≢ Whole
many_not_whole e = cc

pub many_not_refuted : TooManyLines ≢ Refuted
many_not_refuted e = cc

-- a line was run, or refused
pub turns-line : (before after : Run) (n : ℕ) (start now : Option (List ℕ)) (raw : List ℕ) (r : Result Turn Halt) → n < most_lines
    → Passes start now (raw ∷ []) → IfOk r (RunsLine before after (n + 1) raw) → IfOk r (Turns before after n start now)
turns-line before after n start now raw (Ok (turn.Ran line run)) few passes runs =
    let own : Passes start now (line ∷ []) = subst (λ (l : List ℕ). Passes start now (l ∷ [])) (sym runs.0) passes in
    ((own, runs.1), line-passes n start now line runs.1.line few own runs.1.is_line)
turns-line before after n start now raw (Ok turn.Ended) few passes runs = absurd runs
turns-line before after n start now raw (Ok (turn.Refused verdict why)) few passes runs =
    turns-refused before after n start now (BadLine (n + 1)) (Ok (turn.Refused verdict why)) (bad_not_whole (n + 1)) (bad_not_refuted (n + 1))
    (bad-called n start now raw few passes runs.1) runs.0
turns-line before after n start now raw (Err halt) few passes runs = tt

-- the lines that are left after one more
pub left-more : (input before now : Option (List ℕ)) (n : ℕ) → IsLeftTo input n before → PassesOne n before now → IsLeftTo input (n + 1) now
left-more input before now n left passes verdict called = left verdict (passes verdict called)

-- bytes that were not read yet stand before those of the source
pub left-first : (unread : List ℕ) (source now : Option (List ℕ)) (n : ℕ) → unread ≡ [] → IsLeftTo (prepend_known unread source) n now
    → IsLeftTo source n now
left-first unread source now n none left =
    subst (λ (s : Option (List ℕ)). IsLeftTo s n now) (ap (λ u. prepend_known u source) none ∙ prepend_known-nil source) left

pub called-first : (unread : List ℕ) (source : Option (List ℕ)) (verdict : RunResult) → unread ≡ [] → CallsFor (prepend_known unread source) verdict
    → CallsFor source verdict
called-first unread source verdict none called =
    subst (λ (s : Option (List ℕ)). CallsFor s verdict) (ap (λ u. prepend_known u source) none ∙ prepend_known-nil source) called

-- a run that goes on to an end that its input calls for
pub ends-called : (source : Option (List ℕ)) (verdict : RunResult) (ending : Result RunResult Halt) → EndsAs verdict ending → CallsFor source verdict
    → EndsAsCalled source ending
ends-called source verdict (Ok one) ends called = subst (λ (v : RunResult). CallsFor source v) (sym ends) called
ends-called source verdict (Err halt) ends called = tt

-- a run that neither end stopped answers what its input calls for, or was stopped for want of memory
pub decided-called : (source : Option (List ℕ)) (ending : Result RunResult Halt) → EndsAsCalled source ending → (ending ≡ Err Source → ⊥)
    → (ending ≡ Err Sink → ⊥) → IsDecided source (status_of ending)
decided-called None ending called no_source no_sink = tt
decided-called (Some bytes) (Ok one) called no_source no_sink = inl (ap (λ (v : RunResult). status_of (Ok v)) (sym called))
decided-called (Some bytes) (Err Source) called no_source no_sink = absurd (no_source refl)
decided-called (Some bytes) (Err Sink) called no_source no_sink = absurd (no_sink refl)
decided-called (Some bytes) (Err Memory) called no_source no_sink = inr refl
