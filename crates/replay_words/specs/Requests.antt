-- What words ask for.
use Rattle.std.specs.Prelude.{ℕ, ◌≤◌, ⊤, nat_le, if◌then◌else◌, List, [], ◌∷◌, codes, Option, Some, None}
use Rattle.std.specs.Str.{bytes_eq}
use Rattle.clap.specs.Matches.{first_value}
use Rattle.clap.specs.declared.parser.matches.Found.{Found}
use Rattle.lines.specs.Grammar.{◌>>=◌}
use Rattle.lines.specs.Tokens.{number}
use Rattle.replay_words.specs.declared.requests.Request.{Request}
use Rattle.replay_words.specs.declared.requests.Request.TheVariants.{Run, Audit, Make}

-- what one word asks for
abbrev pub one_word : List ℕ → Option Request
one_word word = if bytes_eq word (codes "run") then Some Run else if bytes_eq word (codes "audit") then Some Audit else None

-- a schedule that is to be made: its seed and how many lines it has, as numbers; it has at most 1,048,576
abbrev pub made_by : List ℕ → List ℕ → Option Request
made_by seed lines = do
  s ← number seed
  n ← number lines
  if nat_le n 1048576 then Some (Make s n) else None

-- what three words ask for
abbrev pub three_words : List ℕ → List ℕ → List ℕ → Option Request
three_words word seed lines = if bytes_eq word (codes "make") then made_by seed lines else None

-- what words ask for: `run`, `audit` or `make SEED LINES`, and nothing else
abbrev pub request_of : List (List ℕ) → Option Request
request_of [] = None
request_of (word ∷ []) = one_word word
request_of (word ∷ (seed ∷ [])) = None
request_of (word ∷ (seed ∷ (lines ∷ []))) = three_words word seed lines
request_of (word ∷ (seed ∷ (lines ∷ (more ∷ words)))) = None

-- a schedule that is to be made has at most 1,048,576 lines
abbrev pub IsLegal : Request → Type 0
IsLegal Run = ⊤
IsLegal Audit = ⊤
IsLegal (Make seed lines) = lines ≤ 1048576

-- what is asked for by a word, and by two more, if they are there
abbrev pub request_found : Option (List ℕ) → Option (List ℕ) → Option (List ℕ) → Option Request
request_found None seed lines = None
request_found (Some word) None None = one_word word
request_found (Some word) None (Some lines) = None
request_found (Some word) (Some seed) None = None
request_found (Some word) (Some seed) (Some lines) = three_words word seed lines

-- the same, as clap found them
abbrev pub request_matched : Found → Option Request
request_matched found = request_found (first_value found (codes "word")) (first_value found (codes "seed")) (first_value found (codes "lines"))
