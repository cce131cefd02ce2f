-- Bytes in memory with their past.
use Rattle.std.specs.Prelude.{ℕ, ◌≡◌, ◌+◌, ◌≤◌, List, ◌∷◌, reverse, vec_len, vec_capacity}
use Rattle.fab_disk.specs.Disk.{Torn}
use Rattle.fab_disk.specs.Past.{PastWrite, Past, wrote, past_of, undone}
use Rattle.fab_disk.specs.Stored.{CanHold}
use Rattle.fab_disk.specs.declared.medium.Medium.{Medium}

-- the calls that are remembered, the newest first
abbrev pub past : Medium → List Past
past m = past_of (reverse m.steps.items) m.saved.items

-- room for so many calls that write so many bytes in all and end at most there
pub record HasRoom (m : Medium) (calls bytes end : ℕ) : Type 0 where
  pub for_calls : vec_len m.steps + calls ≤ vec_capacity m.steps
  pub for_bytes : vec_len m.saved + bytes ≤ vec_capacity m.saved
  pub for_content : CanHold m.content calls bytes end

-- one write more is remembered, by which the content before comes back
pub record IsWrittenOver (at n : ℕ) (old new : List Past) (content content_after : List ℕ) : Type 0 where
  pub change : PastWrite
  pub remembered : new ≡ wrote change ∷ old
  pub comes_back : undone change content_after ≡ content
  pub torn : (before image : List ℕ) → Torn change.at change.len before image → Torn at n before image
