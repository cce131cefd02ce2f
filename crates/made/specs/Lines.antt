-- The lines of a made schedule: how each is drawn, from left to right.
use Rattle.std.specs.Prelude.{ℕ, ◌+◌, ◌-◌, ◌%◌, ◌==◌, min, if◌then◌else◌, [], ◌∷◌, Some, None}
use Rattle.lines.specs.declared.forms.Line.{Line}
use Rattle.lines.specs.declared.forms.Line.TheVariants.{Invoke, Deliver, SetClock, Tick, Crash, Start, Propose, Sync}
use Rattle.lines.specs.declared.forms.Access.TheVariants.{WriteBlock, ReadBlock, WriteStripe, ReadStripe}
use Rattle.lines.specs.declared.forms.Fault.TheVariants.{Cut}
use Rattle.rand_pcg.specs.Lcg.{Lcg}
use Rattle.made.specs.Draws.{◌>>=◌, just, number_below, four_bytes, eight_bytes}

-- `write B 0 S J HEX`
unfoldable pub write_line : Lcg → Line × Lcg
write_line = do
  b ← number_below 6
  s ← number_below 8
  j ← number_below 2
  bytes ← four_bytes
  just (Invoke b 0 s (WriteBlock j bytes))

-- `read B 0 S J`
unfoldable pub read_line : Lcg → Line × Lcg
read_line = do
  b ← number_below 6
  s ← number_below 8
  j ← number_below 2
  just (Invoke b 0 s (ReadBlock j))

-- `writeall B 0 S HEX`
unfoldable pub write_all_line : Lcg → Line × Lcg
write_all_line = do
  b ← number_below 6
  s ← number_below 8
  bytes ← eight_bytes
  just (Invoke b 0 s (WriteStripe bytes))

-- `readall B 0 S`
unfoldable pub read_all_line : Lcg → Line × Lcg
read_all_line = do
  b ← number_below 6
  s ← number_below 8
  just (Invoke b 0 s ReadStripe)

-- `tick B`
unfoldable pub tick_line : Lcg → Line × Lcg
tick_line = do
  b ← number_below 6
  just (Tick b)

-- `clock B V`
unfoldable pub clock_line : Lcg → Line × Lcg
clock_line = do
  b ← number_below 6
  v ← number_below 1000
  just (SetClock b v)

-- `crash B`
unfoldable pub crash_line : Lcg → Line × Lcg
crash_line = do
  b ← number_below 6
  just (Crash b)

-- `start B`
unfoldable pub start_line : Lcg → Line × Lcg
start_line = do
  b ← number_below 6
  just (Start b None)

-- one time in eight a brick stops, else one is to start
unfoldable pub power_line : Lcg → Line × Lcg
power_line = do
  x ← number_below 8
  if x == 0 then crash_line else start_line

-- `view B 0 R R+1 R+2 R+3`, the bricks counted round
unfoldable pub proposal_line : Lcg → Line × Lcg
proposal_line = do
  b ← number_below 6
  r ← number_below 6
  just (Propose b 0 (r ∷ (r + 1) % 6 ∷ (r + 2) % 6 ∷ (r + 3) % 6 ∷ []))

-- `sync B 0`
unfoldable pub sync_line : Lcg → Line × Lcg
sync_line = do
  b ← number_below 6
  just (Sync b 0)

-- one time in sixty-four a view is proposed, one time a view is synchronised, else a brick is to start
unfoldable pub change_line : Lcg → Line × Lcg
change_line = do
  x ← number_below 64
  if x == 0 then proposal_line else if x == 1 then sync_line else start_line

-- the number of a message, of which so many were sent: one of the last 32; where none was, 1, and nothing is drawn
unfoldable pub message : ℕ → Lcg → ℕ × Lcg
message sent = if sent == 0 then just 1 else (do
  x ← number_below (min sent 32)
  just (sent - x))

-- `deliver K`
unfoldable pub delivery_line : ℕ → Lcg → Line × Lcg
delivery_line sent = do
  k ← message sent
  just (Deliver k None)

-- `deliver K cut C pick P`
unfoldable pub cut_line : ℕ → Lcg → Line × Lcg
cut_line sent = do
  k ← message sent
  c ← number_below 8
  p ← number_below 4
  just (Deliver k (Some (Cut (1 + c) p)))

-- one time in sixteen a call of the receiver's disk is cut
unfoldable pub fault_line : ℕ → Lcg → Line × Lcg
fault_line sent = do
  x ← number_below 16
  if x == 0 then cut_line sent else delivery_line sent

-- the kind of a line, where so many messages were sent
abbrev pub line_of_kind : ℕ → ℕ → Lcg → Line × Lcg
line_of_kind sent c =
    if c == 0 then write_line
    else if c == 1 then read_line
    else if c == 2 then write_all_line
    else if c == 3 then read_all_line
    else if c == 4 then tick_line
    else if c == 5 then clock_line
    else if c == 6 then power_line
    else if c == 7 then change_line
    else if c == 15 then fault_line sent
    else delivery_line sent

-- the next line, where so many messages were sent before it
unfoldable pub next_line : ℕ → Lcg → Line × Lcg
next_line sent = do
  c ← number_below 16
  line_of_kind sent c
