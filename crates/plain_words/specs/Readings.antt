-- What clap reads of words none of which begins with `-`.
use Rattle.std.specs.Prelude.{◌≡◌, ◌⊎◌, ℕ, ◌==◌, Bool, true, false, List, [], slice_index, Option, Some, None}
use Rattle.std.specs.List.{list_any}
use Rattle.clap.specs.Faults.{fault_of}
use Rattle.clap.specs.Simple.{App, matches_of}
use Rattle.clap.specs.Takes.{takes}
use Rattle.clap.specs.Walk.{rows_of}
use Rattle.clap.specs.declared.parser.matches.Found.{Found}

-- a word begins with `-`
abbrev pub is_flag : List ℕ → Bool
is_flag word = slice_index word 0 == 45

-- one of these words does
abbrev pub has_flag : List (List ℕ) → Bool
has_flag words = list_any is_flag words

-- No word does, and a command line takes them without a fault: it found this in them.
pub record FindsWords (app : App) (words : List (List ℕ)) (found : Found) : Type 0 where
  pub plain : has_flag words ≡ false
  pub sound : fault_of app words ≡ []
  pub rows : rows_of found ≡ matches_of app words

-- what it found; nothing where one of the words begins with `-`, or where it does not take them
abbrev pub ReadsWords : App → List (List ℕ) → Option Found → Type 0
ReadsWords app words (Some found) = FindsWords app words found
ReadsWords app words None = (has_flag words ≡ true) ⊎ ((has_flag words ≡ false) × (takes app words ≡ true → ⊥))
