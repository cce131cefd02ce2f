-- What the program `trace` promises of its words.
use Rattle.std.specs.Prelude.{◌≡◌, ◌≢◌, ℕ, ◌⊎◌, Bool, List, ◌++◌, codes, Option, Result, IfOk}
use Rattle.fab_base.specs.Texts.{newline}
use Rattle.fab_io.specs.Ends.{Rose, Kept}
use Rattle.replay.specs.declared.endings.RunResult.{RunResult}
use Rattle.replay.specs.declared.endings.RunResult.TheVariants.{Whole, Refuted}
use Rattle.replay.specs.declared.endings.Halt.{Halt}
use Rattle.replay.specs.Replays.{is_word, status_of}
use Rattle.trace.specs.Calls.{EndsAsCalled}
use Rattle.trace.specs.TextReport.{Tells}

-- the words are the one word `text`
abbrev pub asks_text : List (List ℕ) → Bool
asks_text words = is_word (codes "text") words

-- the words are the one word `svg`
abbrev pub asks_picture : List (List ℕ) → Bool
asks_picture words = is_word (codes "svg") words

-- the usage line
abbrev pub usage_text : List ℕ
usage_text = codes "usage: trace text | trace svg" ++ newline

-- a run ended with this status, as one of `replay` does, and its trace was written; if nothing stopped it, its input calls for that end
pub record TextEnds (source old new : Option (List ℕ)) (status : ℕ) : Type 0 where
  pub ending : Result RunResult Halt
  pub status_is : status ≡ status_of ending
  pub tells : Tells source old new ending
  pub called : EndsAsCalled source ending

-- A run ended with this status, as one of `replay` does. If nothing stopped it, its input calls for that end, and where not all was run, the
-- sink took nothing. No run is refuted: an audit alone is.
pub record PictureEnds (source old new : Option (List ℕ)) (status : ℕ) : Type 0 where
  pub ending : Result RunResult Halt
  pub status_is : status ≡ status_of ending
  pub called : EndsAsCalled source ending
  pub undrawn : IfOk ending (λ verdict. verdict ≢ Whole → new ≡ old)
  pub ran : IfOk ending (λ verdict. verdict ≢ Refuted)

-- What calls do to two sinks: one of them fails only if the count of one rose, and of two sound ones none fails.
pub record AreKept (first first_after second second_after : ℕ) (sound sound_after fine fine_after failed : Type 0) : Type 0 where
  pub one : Kept first first_after sound sound_after ⊥
  pub other : Kept second second_after fine fine_after ⊥
  pub rose : failed → Rose first first_after ⊎ Rose second second_after
  pub never : sound → fine → failed → ⊥
