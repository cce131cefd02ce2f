-- What is seen of a link and of a clock in memory, which follow a script.
use Rattle.std.specs.Prelude.{ℕ, ◌+◌, ◌-◌, min, List, [], ◌∷◌, ◌++◌, length, drop, get_or}
use Rattle.fab_io.specs.declared.links.Datagram.{Datagram}
use Rattle.fab_io.specs.Calls.{CallCount, no_calls, after_call, after_failed_call}

-- the datagrams not given yet, those that were sent, and the calls made
pub record LinkInMemory : Type 0 where
  pub waiting : List Datagram
  pub sent : List Datagram
  pub calls : CallCount

-- a link at which these datagrams wait, of which nothing was asked yet
abbrev pub link_of : List Datagram → LinkInMemory
link_of datagrams = record { waiting = datagrams; sent = []; calls = no_calls }

-- after a look, which gave a datagram where one waited
abbrev pub after_look : LinkInMemory → LinkInMemory
after_look l = record l { waiting = drop 1 l.waiting; calls = after_call l.calls }

-- after a datagram was sent
abbrev pub after_send : LinkInMemory → Datagram → LinkInMemory
after_send l datagram = record l { sent = l.sent ++ datagram ∷ []; calls = after_call l.calls }

-- after a call that failed
abbrev pub link_after_failing : LinkInMemory → LinkInMemory
link_after_failing l = record l { calls = after_failed_call l.calls }

-- the moments of a clock, the number of the next one, from 0, and the calls made
pub record ClockInMemory : Type 0 where
  pub moments : List ℕ
  pub at : ℕ
  pub calls : CallCount

-- a clock of these moments, of which nothing was asked yet
abbrev pub clock_of : List ℕ → ClockInMemory
clock_of moments = record { moments = moments; at = 0; calls = no_calls }

-- the number of the last moment, where there are so many
abbrev pub last_of : ℕ → ℕ
last_of n = n - 1

-- the moments to come: those of the list in order, then its last again, and 0 where it is empty
abbrev pub coming_of : ClockInMemory → ℕ → ℕ
coming_of c k = get_or c.moments (min (c.at + k) (last_of (length c.moments))) 0

-- after the next moment was read
abbrev pub after_reading : ClockInMemory → ClockInMemory
after_reading c = record c { at = min (c.at + 1) (last_of (length c.moments)); calls = after_call c.calls }

-- after a call that failed
abbrev pub clock_after_failing : ClockInMemory → ClockInMemory
clock_after_failing c = record c { calls = after_failed_call c.calls }
