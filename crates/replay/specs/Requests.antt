-- What the program `replay` does with what its words ask for.
use Rattle.std.specs.Prelude.{◌≡◌, ℕ, ◌⊎◌, List, Option, Some, None}
use Rattle.replay_words.specs.declared.requests.Request.{Request}
use Rattle.replay_words.specs.declared.requests.Request.TheVariants.{Run, Audit, Make}
use Rattle.replay.specs.Replays.{usage_text, Refuses, RunEnds, IsDecided}
use Rattle.replay.specs.Audits.{AuditEnds, IsAuditDecided}
use Rattle.replay.specs.MadeRuns.{MakeEnds}

-- what the source told before and after, how many bytes its last read gave, that it was not touched, what the sink told before and after, and the status
abbrev pub AnswersTo : Option Request → Option (List ℕ) → Option (List ℕ) → ℕ → Type 0 → Option (List ℕ) → Option (List ℕ) → ℕ → Type 0
AnswersTo None source source_after came untouched sink sink_after status = Refuses usage_text sink sink_after status × untouched
AnswersTo (Some Run) source source_after came untouched sink sink_after status = RunEnds source source_after came sink sink_after status
AnswersTo (Some Audit) source source_after came untouched sink sink_after status = AuditEnds source source_after came sink sink_after status
AnswersTo (Some (Make seed lines)) source source_after came untouched sink sink_after status =
    MakeEnds seed lines sink sink_after status × untouched

-- The status is the one that words and input alone call for, or memory was lacking. Where the source is read, that is told of a sound one.
abbrev pub IsDecidedFor : Option Request → Type 0 → Option (List ℕ) → ℕ → Type 0
IsDecidedFor None sound source status = (status ≡ 2) ⊎ (status ≡ 7)
IsDecidedFor (Some Run) sound source status = sound → IsDecided source status
IsDecidedFor (Some Audit) sound source status = sound → IsAuditDecided source status
IsDecidedFor (Some (Make seed lines)) sound source status = (status ≡ 0) ⊎ (status ≡ 7)
