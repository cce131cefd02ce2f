-- What runs of writes and syncs do to the content of a disk.
use Rattle.std.specs.Prelude.{◌⊎◌, ℕ, ◌+◌, ◌%◌, ◌^◌, Bool, true, false, List, [], ◌∷◌, length}
use Rattle.fab_disk.specs.Disk.{written, Torn}

-- an image after two writes of which both may be torn
pub record IsStaged (from n at k : ℕ) (content image : List ℕ) : Type 0 where
  pub between : List ℕ
  pub first : Torn from n content between
  pub second : Torn at k between image

-- the content after two writes
abbrev pub both_written : ℕ → List ℕ → ℕ → List ℕ → List ℕ → List ℕ
both_written from first at second content = written at second (written from first content)

-- A crash while a byte is written behind a sync, and before it the bytes of one write.
abbrev pub IsGated : ℕ → List ℕ → ℕ → List ℕ → List ℕ → Type 0
IsGated at line gate content image = Torn at (length line) content image ⊎ Torn gate 1 (written at line content) image

-- and before it the bytes of two
abbrev pub IsBothGated : ℕ → List ℕ → ℕ → List ℕ → ℕ → List ℕ → List ℕ → Type 0
IsBothGated from first at second gate content image =
    IsStaged from (length first) at (length second) content image ⊎ Torn gate 1 (both_written from first at second content) image

-- an image after three writes of which each may be torn, and the content after them
pub record IsStagedThrice (start n from k at m : ℕ) (content image : List ℕ) : Type 0 where
  pub between : List ℕ
  pub first : Torn start n content between
  pub rest : IsStaged from k at m between image

abbrev pub thrice_written : ℕ → List ℕ → ℕ → List ℕ → ℕ → List ℕ → List ℕ → List ℕ
thrice_written start first from second at third content = both_written from second at third (written start first content)

-- A crash while a byte is written behind a sync, and before it the bytes of three writes.
abbrev pub IsThriceGated : ℕ → List ℕ → ℕ → List ℕ → ℕ → List ℕ → ℕ → List ℕ → List ℕ → Type 0
IsThriceGated start first from second at third gate content image =
    IsStagedThrice start (length first) from (length second) at (length third) content image
    ⊎ Torn gate 1 (thrice_written start first from second at third content) image

-- what shuts the other header's gate: nothing where it is shut already, since a torn 00 might open it
abbrev pub closing : Bool → List ℕ
closing true = []
closing false = 0 ∷ []

-- the generation of the next list
abbrev pub next_of : ℕ → ℕ
next_of number = (number + 1) % 2 ^ 64

-- a crash while a gate is shut, then the rest of its header and a list are written
abbrev pub IsShutFirst : ℕ → List ℕ → List ℕ → ℕ → List ℕ → List ℕ → List ℕ → Type 0
IsShutFirst gate shut rest at list content image =
    Torn gate (length shut) content image ⊎ IsStaged (gate + 1) (length rest) at (length list) (written gate shut content) image

-- A crash while a gate is shut, then the rest of its header and a list are written, and then it is opened.
abbrev pub IsRewritten : ℕ → List ℕ → List ℕ → ℕ → List ℕ → List ℕ → List ℕ → Type 0
IsRewritten gate shut rest at list content image =
    Torn gate (length shut) content image ⊎ IsBothGated (gate + 1) rest at list gate (written gate shut content) image

-- A crash while a gate is shut, then blocks, a list and the rest of the gate's header are written,
abbrev pub IsShutBefore : ℕ → List ℕ → ℕ → List ℕ → ℕ → List ℕ → List ℕ → List ℕ → List ℕ → Type 0
IsShutBefore gate shut start blocks at list rest content image =
    Torn gate (length shut) content image
    ⊎ IsStagedThrice start (length blocks) at (length list) (gate + 1) (length rest) (written gate shut content) image

-- and then it is opened.
abbrev pub IsBrought : ℕ → List ℕ → ℕ → List ℕ → ℕ → List ℕ → List ℕ → List ℕ → List ℕ → Type 0
IsBrought gate shut start blocks at list rest content image =
    Torn gate (length shut) content image ⊎ IsThriceGated start blocks at list (gate + 1) rest gate (written gate shut content) image
