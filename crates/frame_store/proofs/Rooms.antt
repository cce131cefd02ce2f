-- Room for writes one after another, and for the sync behind them.
use Rattle.std.proofs.Common.{ℕ, ◌+◌, ◌≤◌, arith}

module _ {D : Type 0} (has_room : D → ℕ → ℕ → ℕ → Type 0)
    (less : (disk : D) (calls bytes end fewer small near : ℕ) → fewer ≤ calls → small ≤ bytes → near ≤ end → has_room disk calls bytes end
    → has_room disk fewer small near) where
  -- what a write of n bytes, up to p, leaves of the room that there was
  abbrev Leaves : D → D → ℕ → ℕ → Type 0
  Leaves old new p n = (calls room end : ℕ) → p ≤ end → has_room old (calls + 1) (room + n) end → has_room new calls room end

  -- room for a write, out of room for it and more
  pub room_for : {disk : D} {p n sum all end : ℕ} → 1 ≤ all → n ≤ sum → p ≤ end → has_room disk all sum end → has_room disk 1 n p
  room_for {disk} {p} {n} {sum} {all} {end} few short near had = less disk all sum end 1 n p few short near had

  -- after a write there is room for what was to follow
  pub after_write : {old new : D} {sum all end : ℕ} (p n calls room : ℕ) → Leaves old new p n → calls + 1 ≤ all → room + n ≤ sum → p ≤ end
      → has_room old all sum end → has_room new calls room end
  after_write {old} {new} {sum} {all} {end} p n calls room write few short near had =
      write calls room end near (less old all sum end (calls + 1) (room + n) end few short (omega arith) had)

  -- with nothing beyond it
  pub alone : {disk : D} {end : ℕ} (calls bytes : ℕ) → has_room disk calls bytes end → has_room disk (0 + calls) (0 + bytes) end
  alone {disk} {end} calls bytes had = less disk calls bytes end (0 + calls) (0 + bytes) end (omega arith) (omega arith) (omega arith) had

  -- three writes of n, k and m bytes and a sync, and what there is room for beyond them: what the first, the second and the third leave
  module _ {old one : D} {end p : ℕ} (n k m calls room : ℕ) (had : has_room old (calls + 4) (room + (n + (k + m))) end) (first : p ≤ end)
      (write_one : Leaves old one p n) where
    after_one : has_room one (calls + 3) (room + (k + m)) end
    after_one = after_write p n (calls + 3) (room + (k + m)) write_one (omega arith) (omega arith) first had

    pub second_room : {q : ℕ} → q ≤ end → has_room one 1 k q
    second_room second = room_for (omega arith) (omega arith) second after_one

    module _ {two : D} {q : ℕ} (second : q ≤ end) (write_two : Leaves one two q k) where
      after_two : has_room two (calls + 2) (room + m) end
      after_two = after_write q k (calls + 2) (room + m) write_two (omega arith) (omega arith) second after_one

      pub third_room : {r : ℕ} → r ≤ end → has_room two 1 m r
      third_room third = room_for (omega arith) (omega arith) third after_two

      pub after_three : {three : D} {r : ℕ} → r ≤ end → Leaves two three r m → has_room three (calls + 1) room end
      after_three {three} {r} third write_three = after_write r m (calls + 1) room write_three (omega arith) (omega arith) third after_two
