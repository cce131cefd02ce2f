-- A member of a group at its seat.
use Rattle.std.specs.Prelude.{ℕ, ◌≤◌, ◌<◌}

-- the data blocks of a stripe, the member's seat, and the bytes of a block
pub record Member : Type 0 where
  pub m : ℕ
  pub seat : ℕ
  pub block : ℕ

-- they are within the limits of a group and of a block
pub record IsMember (m seat block : ℕ) : Type 0 where
  pub some_data : 1 ≤ m
  pub few_data : m ≤ 16
  pub few_seats : seat < 32
  pub some_byte : 1 ≤ block
