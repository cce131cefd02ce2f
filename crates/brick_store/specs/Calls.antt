-- How many calls of the disk's `write_at` and `sync` a call of a brick's store makes.
use Rattle.std.specs.Prelude.{◌≡◌, ℕ, ◌+◌, Bool, ◌&&◌, nat_le, if◌then◌else◌, Option, Some, None}
use Rattle.frame_store.specs.declared.shapes.Shape.{Shape}
use Rattle.frame_store.specs.Layouts.{index_half_size, is_old}
use Rattle.frame_store.specs.Listed.{size_of}
use Rattle.frame_store.specs.Stores.{Held}
use Rattle.brick_store.specs.Bricks.{Brick}
use Rattle.brick_store.specs.Lengths.{IsAppended}

-- A half of the index has room behind so many bytes of frames: for a frame with a body of this length, and the next gate.
abbrev pub has_room_for : Shape → ℕ → ℕ → Bool
has_room_for shape listed body = nat_le (listed + 6 + body + 1) (index_half_size shape)

-- so many calls append a frame with a body of this length, and seven more where the list is rewritten first, for want of room
abbrev pub calls_with : Shape → ℕ → ℕ → ℕ → ℕ
calls_with shape listed body calls = if has_room_for shape listed body then calls else (7 + calls)

-- those of a store
abbrev pub calls_of : {D : Type 0} → Brick D → ℕ → ℕ → ℕ
calls_of store body calls = calls_with store.shape store.listed body calls

-- A list of the new format that was read can be appended to: each frame of it counts, a closed gate stands behind it, and it has room for a frame
-- with a body of this length.
abbrev pub is_appendable : {D : Type 0} → Bool → Held D → ℕ → Bool
is_appendable whole frames body = (whole && frames.closed) && has_room_for frames.shape (size_of frames.frames) body

-- an opening syncs the disk and appends its count, and rewrites before a list that can't be appended to
abbrev pub opening_calls : Bool → ℕ
opening_calls appendable = if appendable then 5 else 12

-- Bringing an old store over makes one call more than a rewrite: so many does the opening make of a list that can be appended to or can't.
abbrev pub calls_to_open : Shape → Bool → ℕ
calls_to_open shape appendable = if is_old shape then 13 else opening_calls appendable

-- a record that is appended: how many bytes its body has, and how many calls append it where the half has room
pub record Append : Type 0 where
  pub body : ℕ
  pub calls : ℕ

abbrev pub append_of : ℕ → ℕ → Append
append_of body calls = record { body = body; calls = calls }

-- so many calls append it, over a list of frames of so many bytes, and none where nothing is appended
abbrev pub calls_for : Shape → ℕ → Option Append → ℕ
calls_for shape listed None = 0
calls_for shape listed (Some append) = calls_with shape listed append.body append.calls

-- How long the list is then, over a state of so many live records.
abbrev pub IsListedAfter : Shape → ℕ → ℕ → Option Append → ℕ → Type 0
IsListedAfter shape live listed None after = after ≡ listed
IsListedAfter shape live listed (Some append) after = IsAppended (has_room_for shape listed append.body) live listed append.body after

-- an append makes so many calls, and one more where a block is put in its slot
abbrev pub append_calls : ℕ
append_calls = 4

abbrev pub version_calls : {T : Type 0} → Option T → ℕ
version_calls None = append_calls
version_calls (Some block) = append_calls + 1
