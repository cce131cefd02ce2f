-- What the words of a command line ask for.
use Rattle.std.specs.Prelude.{ℕ, nat_le, ◌&&◌, if◌then◌else◌, List, [], ◌∷◌, codes, Option, Some, None, option_map, option_and_then}
use Rattle.std.specs.Str.{bytes_eq}
use Rattle.clap.specs.Matches.{first_value}
use Rattle.clap.specs.declared.parser.matches.Found.{Found}
use Rattle.lines.specs.Grammar.{◌>>=◌}
use Rattle.lines.specs.Tokens.{number}
use Rattle.plain_words.specs.Readings.{has_flag}
use Rattle.brick_words.specs.declared.words.Task.TheVariants.{Commands, Session}
use Rattle.brick_words.specs.declared.words.Words.{Words}
use Rattle.brick_words.specs.declared.words.Work.{Work}
use Rattle.brick_words.specs.declared.words.Work.TheVariants.{Format, Serve, HostAll}

-- the name of the layout's source, that of the disk, or what those of the bricks' disks begin with, and what is to be done
pub record Wanted : Type 0 where
  pub layout : List ℕ
  pub name : List ℕ
  pub work : Work

-- to make the store of brick ID
abbrev pub format_work : List ℕ → Option Work
format_work id = option_map Format (number id)

-- to serve TURNS turns as brick ID
abbrev pub serve_work : List ℕ → List ℕ → Option Work
serve_work id turns = option_and_then (λ brick. option_map (Serve brick) (number turns)) (number id)

-- to run commands over all bricks, by TURNS turns
abbrev pub local_work : List ℕ → Option Work
local_work turns = option_map (λ n. HostAll (Commands n)) (number turns)

-- the TCP port that a word spells: a number that is not 0 and has 16 bits
abbrev pub tcp_port : List ℕ → Option ℕ
tcp_port word = option_and_then (λ port. if nat_le 1 port && nat_le port 65_535 then Some port else None) (number word)

-- to serve the client of the session at TCPPORT over all bricks, by TURNS turns
abbrev pub session_work : List ℕ → List ℕ → Option Work
session_work port turns = option_and_then (λ at. option_map (λ n. HostAll (Session at n)) (number turns)) (tcp_port port)

-- this work on the disk of this name, or those of this prefix
abbrev pub wants : List ℕ → List ℕ → Option Work → Option Wanted
wants layout name = option_map (λ w. record { layout = layout; name = name; work = w })

-- `format LAYOUT DISK ID`, or `local LAYOUT PREFIX TURNS`
abbrev pub four_words : List ℕ → List ℕ → List ℕ → List ℕ → Option Wanted
four_words word layout name count =
    if bytes_eq word (codes "format") then wants layout name (format_work count)
    else if bytes_eq word (codes "local") then wants layout name (local_work count) else None

-- `serve LAYOUT DISK ID TURNS`, or `nbd LAYOUT PREFIX TCPPORT TURNS`
abbrev pub five_words : List ℕ → List ℕ → List ℕ → List ℕ → List ℕ → Option Wanted
five_words word layout name number turns =
    if bytes_eq word (codes "serve") then wants layout name (serve_work number turns)
    else if bytes_eq word (codes "nbd") then wants layout name (session_work number turns) else None

-- what words want that are of one of these forms, as to their number and order
abbrev pub form_of : List (List ℕ) → Option Wanted
form_of [] = None
form_of (word ∷ []) = None
form_of (word ∷ (layout ∷ [])) = None
form_of (word ∷ (layout ∷ (name ∷ []))) = None
form_of (word ∷ (layout ∷ (name ∷ (number ∷ [])))) = four_words word layout name number
form_of (word ∷ (layout ∷ (name ∷ (number ∷ (turns ∷ []))))) = five_words word layout name number turns
form_of (word ∷ (layout ∷ (name ∷ (number ∷ (turns ∷ (more ∷ words)))))) = None

-- what a command line wants, if it is of one of them; no word of it begins with `-`
abbrev pub command_of : List (List ℕ) → Option Wanted
command_of words = if has_flag words then None else form_of words

-- what these words ask for
abbrev pub wanted : Words → Wanted
wanted words = record { layout = words.layout.now; name = words.name.now; work = words.work }

-- by the last word, if it is there
abbrev pub last_word : List ℕ → List ℕ → List ℕ → List ℕ → Option (List ℕ) → Option Wanted
last_word word layout name number None = four_words word layout name number
last_word word layout name number (Some turns) = five_words word layout name number turns

-- what is wanted by the words that were found
abbrev pub words_found : Option (List ℕ) → Option (List ℕ) → Option (List ℕ) → Option (List ℕ) → Option (List ℕ) → Option Wanted
words_found word layout name number turns = do
  w ← word
  l ← layout
  d ← name
  n ← number
  last_word w l d n turns

-- the same, as clap found them
abbrev pub words_matched : Found → Option Wanted
words_matched found =
    words_found (first_value found (codes "word")) (first_value found (codes "layout")) (first_value found (codes "name"))
    (first_value found (codes "number")) (first_value found (codes "turns"))
