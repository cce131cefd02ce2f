-- The greatest of some times, while they come and go.
use Rattle.std.specs.Prelude.{◌≡◌, ℕ, ◌≤◌, max}

-- the greatest of some times, before and after one of them is lost for another one
pub record IsReplaced (before lost come after : ℕ) : Type 0 where
  pub same : max after lost ≡ max before come
  pub kept : come ≤ after
