-- Reading parts from left to right: a value and the bytes after it, or how many bytes are left from the first part on that is cut
-- short or has a value not allowed.
use Rattle.std.specs.Prelude.{◌≡◌, ℕ, zero, suc, ◌&&◌, List, [], ◌∷◌, length, take, drop, Option, Some, None, Result, Ok, Err, nat_lt, nat_le, ◌==◌, if◌then◌else◌}
use Rattle.byteorder.specs.Endian.{big_number}
use Rattle.fields.specs.declared.readers.Malformed.{Malformed}
use Rattle.fields.specs.declared.readers.ReadFault.{ReadFault}
use Rattle.fields.specs.declared.readers.ReadFault.TheVariants as faults

-- how a field is read
abbrev pub Reads : Type 0 → Type 0
Reads X = List ℕ → Result (X × List ℕ) ℕ

infixl 10 ◌>>=◌
abbrev pub ◌>>=◌ : {A B : Type 0} → Result A ℕ → (A → Result B ℕ) → Result B ℕ
(Ok x) >>= f = f x
(Err left) >>= f = Err left

-- what a function took from the front of bytes, with these bytes after it, is what reading gives
abbrev pub Gives : {X : Type 0} → Result X Malformed → List ℕ → Result (X × List ℕ) ℕ → Type 0
Gives (Ok x) rest read = read ≡ Ok (x, rest)
Gives (Err fault) rest read = read ≡ Err fault.left

-- the same of bytes that were lent
abbrev pub Shows : {X : Type 0} → (X → List ℕ) → Result X Malformed → List ℕ → Result (List ℕ × List ℕ) ℕ → Type 0
Shows lent (Ok x) rest read = read ≡ Ok (lent x, rest)
Shows lent (Err fault) rest read = read ≡ Err fault.left

-- the same, unless memory ran out
abbrev pub Fails : {Y : Type 0} → ReadFault → Result Y ℕ → Type 0
Fails (faults.Malformed left) read = read ≡ Err left
Fails faults.NoMemory read = Unit {0}

abbrev pub GivesOrNoMemory : {X : Type 0} → Result X ReadFault → List ℕ → Result (X × List ℕ) ℕ → Type 0
GivesOrNoMemory (Ok x) rest read = read ≡ Ok (x, rest)
GivesOrNoMemory (Err fault) rest read = Fails fault read

-- what a function made of all of the bytes is what reading gives, unless memory ran out
abbrev pub GivesAll : {X : Type 0} → Result X ReadFault → Result X ℕ → Type 0
GivesAll (Ok x) read = read ≡ Ok x
GivesAll (Err fault) read = Fails fault read

-- one field after another, and fields seen as something else
abbrev pub then_at : {X Y : Type 0} → Reads X → Reads Y → Reads (X × Y)
then_at first second bytes = first bytes >>= λ x. second x.1 >>= λ y. Ok ((x.0, y.0), y.1)

abbrev pub as_at : {X Y : Type 0} → (X → Y) → Reads X → Reads Y
as_at made at bytes = at bytes >>= λ x. Ok (made x.0, x.1)

abbrev pub nothing_at : Reads (Unit {0})
nothing_at bytes = Ok (tt, bytes)

-- a number of so many bytes
unfoldable pub number_at : ℕ → Reads ℕ
number_at size bytes = if nat_lt (length bytes) size then Err (length bytes) else Ok (big_number size (take size bytes), drop size bytes)

-- a number that stands for a value, if it stands for one
abbrev pub valued : {K : Type 0} → Option K → List ℕ → ℕ → Result (K × List ℕ) ℕ
valued None rest here = Err here
valued (Some k) rest here = Ok (k, rest)

abbrev pub value_at : {K : Type 0} → ℕ → (ℕ → Option K) → Reads K
value_at size value bytes = number_at size bytes >>= λ x. valued (value x.0) x.1 (length bytes)

-- a number with limits
abbrev pub within : ℕ → ℕ → ℕ → Option ℕ
within least most n = if nat_le least n && nat_le n most then Some n else None

abbrev pub limited_at : ℕ → ℕ → ℕ → Reads ℕ
limited_at size least most = value_at size (within least most)

-- a number that has one value alone
abbrev pub equals : ℕ → ℕ → Option (Unit {0})
equals value n = if n == value then Some tt else None

abbrev pub exactly_at : ℕ → ℕ → Reads (Unit {0})
exactly_at size value = value_at size (equals value)

-- the number of one of the values of a list
abbrev pub find : {K : Type 0} → (K → ℕ) → List K → ℕ → Option K
find number [] n = None
find number (k ∷ ks) n = if n == number k then Some k else find number ks n

-- the same, or the last value
abbrev pub find_or : {K : Type 0} → K → (K → ℕ) → List K → ℕ → K
find_or last number [] n = last
find_or last number (k ∷ ks) n = if n == number k then k else find_or last number ks n

-- so many bytes
unfoldable pub raw_at : ℕ → Reads (List ℕ)
raw_at count bytes = if nat_lt (length bytes) count then Err (length bytes) else Ok (take count bytes, drop count bytes)

-- so many fields, one after the other
unfoldable pub times_at : {X : Type 0} → Reads X → ℕ → Reads (List X)
times_at at zero = as_at (λ u. []) nothing_at
times_at at (suc n) = as_at (λ p. p.0 ∷ p.1) (then_at at (times_at at n))
