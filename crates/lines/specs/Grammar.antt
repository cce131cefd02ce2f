-- What a line of a schedule says.
use Rattle.std.specs.Prelude.{ℕ, nat_le, nat_lt, ◌&&◌, if◌then◌else◌, List, [], ◌∷◌, length, nat_eq, codes, Option, Some, None, option_and_then}
use Rattle.std.specs.List.{starts_with}
use Rattle.std.specs.Option.{option_map}
use Rattle.std.specs.Str.{bytes_eq}
use Rattle.lines.specs.Tokens.{tokens, number, bytes_of_hex}
use Rattle.lines.specs.declared.forms.Line.{Line}
use Rattle.lines.specs.declared.forms.Line.TheVariants.{Nothing, Invoke, Deliver, SetClock, Tick, Crash, Start, Propose, Sync, Scrub, Suspect, Trust, Spare, Calm}
use Rattle.lines.specs.declared.forms.Access.{Access}
use Rattle.lines.specs.declared.forms.Access.TheVariants.{WriteBlock, ReadBlock, WriteStripe, ReadStripe}
use Rattle.lines.specs.declared.forms.Fault.{Fault}
use Rattle.lines.specs.declared.forms.Fault.TheVariants.{Cut, Fail}

-- the second step, if the first found a value
infixl 10 ◌>>=◌
abbrev pub ◌>>=◌ : {A B : Type 0} → Option A → (A → Option B) → Option B
found >>= next = option_and_then next found

-- an operation on the stripe that the tokens `B G S` name
unfoldable pub invoke : List ℕ → List ℕ → List ℕ → Access → Option Line
invoke b g s access = do
  brick ← number b
  group ← number g
  stripe ← number s
  Some (Invoke brick group stripe access)

-- `write B G S J HEX`, behind its first word
unfoldable pub write_block : List (List ℕ) → Option Line
write_block (b ∷ g ∷ s ∷ j ∷ text ∷ []) = do
  block ← number j
  bytes ← bytes_of_hex text
  invoke b g s (WriteBlock block bytes)
write_block _ = None

-- `read B G S J`, behind its first word
unfoldable pub read_block : List (List ℕ) → Option Line
read_block (b ∷ g ∷ s ∷ j ∷ []) = do
  block ← number j
  invoke b g s (ReadBlock block)
read_block _ = None

-- `writeall B G S HEX`, behind its first word
unfoldable pub write_all : List (List ℕ) → Option Line
write_all (b ∷ g ∷ s ∷ text ∷ []) = do
  bytes ← bytes_of_hex text
  invoke b g s (WriteStripe bytes)
write_all _ = None

-- `readall B G S`, behind its first word
unfoldable pub read_all : List (List ℕ) → Option Line
read_all (b ∷ g ∷ s ∷ []) = invoke b g s ReadStripe
read_all _ = None

-- the number of a call, from 1
unfoldable pub call_number : List ℕ → Option ℕ
call_number c = do
  call ← number c
  if nat_eq call 0 then None else Some call

-- `fail C`
unfoldable pub fail : List ℕ → List ℕ → Option Fault
fail word c =
    if bytes_eq word (codes "fail") then (do
      call ← call_number c
      Some (Fail call)) else None

-- `cut C pick P`
unfoldable pub cut : List ℕ → List ℕ → List ℕ → List ℕ → Option Fault
cut word c second p =
    if bytes_eq word (codes "cut") then (if bytes_eq second (codes "pick") then (do
      call ← call_number c
      pick ← number p
      Some (Cut call pick)) else None) else None

-- the fault of a call of the disk, behind `deliver K` or `start B`: none where no word is left
unfoldable pub fault : List (List ℕ) → Option (Option Fault)
fault [] = Some None
fault (word ∷ c ∷ []) = do
  befalls ← fail word c
  Some (Some befalls)
fault (word ∷ c ∷ second ∷ p ∷ []) = do
  befalls ← cut word c second p
  Some (Some befalls)
fault _ = None

-- `deliver K`, behind its first word, with the fault of a call
unfoldable pub deliver : List (List ℕ) → Option Line
deliver (k ∷ behind) = do
  message ← number k
  befalls ← fault behind
  Some (Deliver message befalls)
deliver _ = None

-- `start B`, behind its first word, with the fault of a call
unfoldable pub start : List (List ℕ) → Option Line
start (b ∷ behind) = do
  brick ← number b
  befalls ← fault behind
  Some (Start brick befalls)
start _ = None

-- `clock B V`, behind its first word
unfoldable pub clock : List (List ℕ) → Option Line
clock (b ∷ v ∷ []) = do
  brick ← number b
  time ← number v
  Some (SetClock brick time)
clock _ = None

-- the brick of `tick B` and `crash B`, behind the first word
unfoldable pub one_brick : List (List ℕ) → Option ℕ
one_brick (b ∷ []) = number b
one_brick _ = None

-- the numbers that tokens spell, where each spells one
unfoldable pub numbers : List (List ℕ) → Option (List ℕ)
numbers [] = Some []
numbers (token ∷ tokens) = do
  first ← number token
  others ← numbers tokens
  Some (first ∷ others)

-- the numbers of 1 to 64 bricks, as tokens spell them
unfoldable pub brick_list : List (List ℕ) → Option (List ℕ)
brick_list tokens = if nat_lt 0 (length tokens) && nat_le (length tokens) 64 then numbers tokens else None

-- `calm N B ..`, behind its first word: 1 to 64 bricks
unfoldable pub calm : List (List ℕ) → Option Line
calm (n ∷ tokens) = do
  operation ← number n
  bricks ← brick_list tokens
  Some (Calm operation bricks)
calm _ = None

-- `view B G M ..`, behind its first word: 1 to 64 members
unfoldable pub propose : List (List ℕ) → Option Line
propose (b ∷ g ∷ tokens) = do
  brick ← number b
  group ← number g
  members ← brick_list tokens
  Some (Propose brick group members)
propose _ = None

-- `sync B G`, behind its first word
unfoldable pub sync : List (List ℕ) → Option Line
sync (b ∷ g ∷ []) = do
  brick ← number b
  group ← number g
  Some (Sync brick group)
sync _ = None

-- `scrub B G S M ..`, behind its first word: 1 to 64 members
unfoldable pub scrub : List (List ℕ) → Option Line
scrub (b ∷ g ∷ s ∷ tokens) = do
  brick ← number b
  group ← number g
  stripe ← number s
  members ← brick_list tokens
  Some (Scrub brick group stripe members)
scrub _ = None

-- the two bricks of `suspect B C` and `trust B C`, behind the first word
unfoldable pub two_bricks : List (List ℕ) → Option (ℕ × ℕ)
two_bricks (b ∷ c ∷ []) = do
  by ← number b
  brick ← number c
  Some (by, brick)
two_bricks _ = None

-- `spare B G`, behind its first word
unfoldable pub spare : List (List ℕ) → Option Line
spare (b ∷ g ∷ []) = do
  brick ← number b
  group ← number g
  Some (Spare brick group)
spare _ = None

-- what a line says whose first word and the words behind it are these; nothing else is a line
unfoldable pub form : List ℕ → List (List ℕ) → Option Line
form word arguments =
    if bytes_eq word (codes "write") then write_block arguments
    else if bytes_eq word (codes "read") then read_block arguments
    else if bytes_eq word (codes "writeall") then write_all arguments
    else if bytes_eq word (codes "readall") then read_all arguments
    else if bytes_eq word (codes "deliver") then deliver arguments
    else if bytes_eq word (codes "clock") then clock arguments
    else if bytes_eq word (codes "tick") then option_map Tick (one_brick arguments)
    else if bytes_eq word (codes "crash") then option_map Crash (one_brick arguments)
    else if bytes_eq word (codes "start") then start arguments
    else if bytes_eq word (codes "view") then propose arguments
    else if bytes_eq word (codes "sync") then sync arguments
    else if bytes_eq word (codes "scrub") then scrub arguments
    else if bytes_eq word (codes "suspect") then option_map (λ bricks. Suspect bricks.0 bricks.1) (two_bricks arguments)
    else if bytes_eq word (codes "trust") then option_map (λ bricks. Trust bricks.0 bricks.1) (two_bricks arguments)
    else if bytes_eq word (codes "spare") then spare arguments
    else if bytes_eq word (codes "calm") then calm arguments
    else None

-- what the tokens of a line say: nothing where there is none or the first begins with `#`
unfoldable pub line_of_tokens : List (List ℕ) → Option Line
line_of_tokens [] = Some Nothing
line_of_tokens (word ∷ arguments) = if starts_with nat_eq word (codes "#") then Some Nothing else form word arguments

-- what a line says that has these bytes before its line feed and the one carriage return before that; none has
-- more than 70,000
unfoldable pub line_of : List ℕ → Option Line
line_of content = if nat_le (length content) 70000 then line_of_tokens (tokens content) else None
