-- How a line is spelt.
use Rattle.std.specs.Prelude.{ℕ, List, [], ◌∷◌, ◌++◌, map, codes, Option, Some, None}
use Rattle.std.specs.Fmt.{decimal}
use Rattle.hex.specs.Hex.{encode_lower}
use Rattle.lines.specs.declared.forms.Line.{Line}
use Rattle.lines.specs.declared.forms.Line.TheVariants.{Nothing, Invoke, Deliver, SetClock, Tick, Crash, Start, Propose, Sync, Scrub, Suspect, Trust, Spare, Calm}
use Rattle.lines.specs.declared.forms.Access.{Access}
use Rattle.lines.specs.declared.forms.Access.TheVariants.{WriteBlock, ReadBlock, WriteStripe, ReadStripe}
use Rattle.lines.specs.declared.forms.Fault.{Fault}
use Rattle.lines.specs.declared.forms.Fault.TheVariants.{Cut, Fail}

-- words with a space between each two
unfoldable pub spaced : List ℕ → List (List ℕ) → List ℕ
spaced word [] = word
spaced word (next ∷ words) = word ++ (32 ∷ spaced next words)

-- what is to be done with a stripe of a group, behind the brick that is asked
abbrev pub access_words : ℕ → ℕ → ℕ → Access → List ℕ × List (List ℕ)
access_words b g s (WriteBlock j bytes) = (codes "write", decimal b ∷ decimal g ∷ decimal s ∷ decimal j ∷ encode_lower bytes ∷ [])
access_words b g s (ReadBlock j) = (codes "read", decimal b ∷ decimal g ∷ decimal s ∷ decimal j ∷ [])
access_words b g s (WriteStripe bytes) = (codes "writeall", decimal b ∷ decimal g ∷ decimal s ∷ encode_lower bytes ∷ [])
access_words b g s ReadStripe = (codes "readall", decimal b ∷ decimal g ∷ decimal s ∷ [])

-- what is to befall a call of the disk
abbrev pub fault_words : Option Fault → List (List ℕ)
fault_words None = []
fault_words (Some (Cut call pick)) = codes "cut" ∷ decimal call ∷ codes "pick" ∷ decimal pick ∷ []
fault_words (Some (Fail call)) = codes "fail" ∷ decimal call ∷ []

-- the words of a line: the first, and those behind it
abbrev pub words_of : Line → List ℕ × List (List ℕ)
words_of Nothing = ([], [])
words_of (Invoke b g s access) = access_words b g s access
words_of (Deliver k fault) = (codes "deliver", decimal k ∷ fault_words fault)
words_of (SetClock b v) = (codes "clock", decimal b ∷ decimal v ∷ [])
words_of (Tick b) = (codes "tick", decimal b ∷ [])
words_of (Crash b) = (codes "crash", decimal b ∷ [])
words_of (Start b fault) = (codes "start", decimal b ∷ fault_words fault)
words_of (Propose b g members) = (codes "view", decimal b ∷ decimal g ∷ map decimal members)
words_of (Sync b g) = (codes "sync", decimal b ∷ decimal g ∷ [])
words_of (Scrub b g s members) = (codes "scrub", decimal b ∷ decimal g ∷ decimal s ∷ map decimal members)
words_of (Suspect b c) = (codes "suspect", decimal b ∷ decimal c ∷ [])
words_of (Trust b c) = (codes "trust", decimal b ∷ decimal c ∷ [])
words_of (Spare b g) = (codes "spare", decimal b ∷ decimal g ∷ [])
words_of (Calm n bricks) = (codes "calm", decimal n ∷ map decimal bricks)

-- a line as it is spelt, without a line feed
abbrev pub spelt : Line → List ℕ
spelt line = spaced (words_of line).0 (words_of line).1
