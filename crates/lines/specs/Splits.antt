-- What stands between two spaces of a line.
use Rattle.std.specs.Prelude.{ℕ, ◌==◌, not, if◌then◌else◌, List, [], ◌∷◌, length}

-- what stands there as a token, if it has a byte
abbrev pub one_token : List ℕ → List (List ℕ)
one_token piece = if not (length piece == 0) then piece ∷ [] else []
