-- The operations of a brick's calls since it started.
use Rattle.std.specs.Prelude.{◌≡◌, ℕ, zero, suc, ◌+◌, ◌<◌, Bool, true, false, List, [], length, Option, Some, None, get_or, unwrap_or, slice_get, vec_len, vec_capacity}
use Rattle.std.specs.Option.{option_map}
use Rattle.world.specs.declared.call_numbers.CallNumbers.{CallNumbers}

-- the numbers of the operations of a brick's calls, in the order of the calls
abbrev pub calls_in : CallNumbers → ℕ → List ℕ
calls_in calls i = unwrap_or (option_map (λ row. row.items) (slice_get calls.rows.items i)) []

-- the number of the operation of a call, counted from 1
abbrev pub call_at : List ℕ → ℕ → Option ℕ
call_at calls zero = None
call_at calls (suc k) = slice_get calls k

-- there is room for one call more of a brick
pub record HasCallRoom (calls : CallNumbers) (i : ℕ) : Type 0 where
  pub within : i < vec_len calls.rows
  pub room : (row : _) → slice_get calls.rows.items i ≡ Some row → vec_len row < vec_capacity row

-- The calls of a brick that is up are those of its present boot, so many, and their operations have these numbers. One that is down has made none.
abbrev pub AreCalls : Bool → List ℕ → (ℕ → ℕ) → ℕ → Type 0
AreCalls true calls number seq = (length calls ≡ seq) × ((k : ℕ) → k < seq → get_or calls k 0 ≡ number (k + 1))
AreCalls false calls number seq = calls ≡ []
