-- A member's part of a stripe, and what it does with each request (Frølund 2004, the storage replica).
use Rattle.std.specs.Prelude.{ℕ, Bool, true, false, not, nat_eq, nat_lt, ◌||◌, ◌&&◌, if◌then◌else◌, List, [], ◌∷◌, ◌++◌, Option, Some, None, replicate, filter, length, ◌-◌}
use Rattle.fab_base.specs.declared.stamps.Stamp.{Stamp}
use Rattle.fab_base.specs.Stamps.{stamp_below, stamp_same, first_stamp}
use Rattle.messages.specs.declared.requests.Version.{Version}
use Rattle.messages.specs.declared.requests.Look.{Look}
use Rattle.messages.specs.declared.requests.Look.TheVariants.{Below, At}
use Rattle.messages.specs.declared.requests.Want.{Want}
use Rattle.messages.specs.declared.requests.Want.TheVariants.{Seat, All}
use Rattle.messages.specs.declared.requests.Request.{Request}
use Rattle.messages.specs.declared.requests.Request.TheVariants.{Read, Order, OrderRead, Write, Modify, Collect, OldRead, Prepare, Accept}
use Rattle.messages.specs.declared.replies.Reply.{Reply}
use Rattle.messages.specs.declared.replies.Reply.TheVariants.{Found, Ordered, OrderedRead, Stored, Behind, Later, Full}
use Rattle.protocol.specs.Settings.{Code}

-- the stamp that the member has promised to take nothing below; its log of versions, oldest first; and whether that still begins with the first
-- version, which the member has from the start and which takes no room
pub record Replica : Type 0 where
  pub order : Stamp
  pub log : List Version
  pub from_start : Bool

-- what a stripe begins with in view 1: a zero block of the first stamp
abbrev pub first_replica : ℕ → Replica
first_replica block = record { order = first_stamp; log = record { stamp = first_stamp; block = replicate block 0 } ∷ []; from_start = true }

-- what a stripe begins with in a view: nothing, but in view 1
abbrev pub fresh_replica : ℕ → ℕ → Replica
fresh_replica block view = if nat_eq view 1 then first_replica block else record { order = first_stamp; log = []; from_start = false }

-- the last version of a log
abbrev pub newest_of : List Version → Option Version
newest_of [] = None
newest_of (version ∷ []) = Some version
newest_of (version ∷ (next ∷ log)) = newest_of (next ∷ log)

-- a version of this stamp is in the log
abbrev pub is_held : Stamp → List Version → Bool
is_held t [] = false
is_held t (version ∷ log) = stamp_same version.stamp t || is_held t log

-- the greater of two stamps
abbrev pub stamp_max : Stamp → Stamp → Stamp
stamp_max a b = if stamp_below a b then b else a

-- the greater of the order stamp and the newest version's
unfoldable pub top_of : Replica → Stamp
top_of replica = top_from replica.order (newest_of replica.log)
  where
    top_from : Stamp → Option Version → Stamp
    top_from order None = order
    top_from order (Some version) = stamp_max order version.stamp

-- whether this seat's block is wanted
abbrev pub is_wanted : Want → ℕ → Bool
is_wanted (Seat k) seat = nat_eq k seat
is_wanted All seat = true

-- the version to tell: without its bytes where they are not wanted
abbrev pub told_version : Bool → Option Version → Option Version
told_version wanted None = None
told_version true (Some version) = Some version
told_version false (Some version) = Some (record { stamp = version.stamp; block = [] })

-- the member's part after a request, its reply, and how many live records (order stamps above the first one, and versions) that adds and
-- drops
pub record Reaction : Type 0 where
  pub replica : Replica
  pub reply : Option Reply
  pub adds : ℕ
  pub drops : ℕ

-- a part that stays as it is, and the reply
abbrev pub stays : Replica → Reply → Reaction
stays replica reply = record { replica = replica; reply = Some reply; adds = 0; drops = 0 }

-- a change that would add to the live records is refused where there are as many as there may be
abbrev pub unless_full : Option ℕ → Replica → Reaction → Reaction
unless_full None replica reaction = reaction
unless_full (Some live) replica reaction = if nat_lt reaction.drops reaction.adds then stays replica (Full live) else reaction

-- the member promises the stamp, and replies so
abbrev pub promised : Replica → Stamp → Reply → Reaction
promised replica t reply =
    record {
      replica = record replica { order = t };
      reply = Some reply;
      adds = if stamp_same replica.order first_stamp && not (stamp_same t first_stamp) then 1 else 0;
      drops = 0;
    }

-- the member stores the version
abbrev pub stored : Replica → Stamp → List ℕ → Reaction
stored replica t block =
    record {
      replica = record replica { log = replica.log ++ (record { stamp = t; block = block } ∷ []) };
      reply = Some Stored;
      adds = 1;
      drops = 0;
    }

-- promise to take nothing below t, unless something later was promised or stored; where so many records are
-- live as there may be, full tells how many
abbrev pub ordered : Option ℕ → Replica → Stamp → Reaction
ordered full replica t =
    if stamp_below t (top_of replica) then stays replica (Later (top_of replica)) else unless_full full replica (promised replica t Ordered)

-- store a version, unless something later was promised or stored; one that is held already is stored
abbrev pub written : Option ℕ → Replica → Stamp → List ℕ → Reaction
written full replica t block =
    if is_held t replica.log then stays replica Stored
    else if stamp_below t (top_of replica) then stays replica (Later (top_of replica))
    else unless_full full replica (stored replica t block)

-- the versions of a log that are below a bound
abbrev pub below : Stamp → List Version → List Version
below bound log = filter (λ version. stamp_below version.stamp bound) log

-- those below a bound, or all where there is none
abbrev pub under : Option Stamp → List Version → List Version
under None log = log
under (Some bound) log = below bound log

-- the version that is looked for in a log: the newest one below a bound, or the one of a stamp
abbrev pub looked_up : Look → List Version → Option Version
looked_up (Below bound) log = newest_of (below bound log)
looked_up (At t) log = newest_of (filter (λ version. stamp_same version.stamp t) log)

-- promise to take nothing below t, unless something later was promised or stored, and tell a version
abbrev pub order_read : Option ℕ → Replica → Stamp → Look → Bool → Reaction
order_read full replica t look wanted =
    if stamp_below t (top_of replica) then stays replica (Later (top_of replica))
    else unless_full full replica (promised replica t (OrderedRead (told_version wanted (looked_up look replica.log))))

-- the seats whose blocks change with data block j: its own, and those of the parity blocks
abbrev pub is_changed : ℕ → ℕ → ℕ → Bool
is_changed m j seat = nat_eq seat j || not (nat_lt seat m)

-- a seat's block, once data block j changed by this
abbrev pub modified_block : Code → ℕ → ℕ → ℕ → List ℕ → List ℕ → List ℕ
modified_block code m j seat delta block = if is_changed m j seat then code.modify m j seat delta block else block

-- store a version that differs from its base, the newest one here, by what data block j changed by
abbrev pub modified_on : Code → ℕ → Option ℕ → ℕ → Replica → Stamp → Stamp → ℕ → List ℕ → Option Version → Reaction
modified_on code m full seat replica t base j delta None = stays replica (Behind None)
modified_on code m full seat replica t base j delta (Some newest) =
    if stamp_same newest.stamp base
    then unless_full full replica (stored replica t (modified_block code m j seat delta newest.block))
    else stays replica (Behind (Some newest.stamp))

-- the same, unless something later was promised or stored; a version that is held already is stored
abbrev pub modified : Code → ℕ → Option ℕ → ℕ → Replica → Stamp → Stamp → ℕ → List ℕ → Reaction
modified code m full seat replica t base j delta =
    if is_held t replica.log then stays replica Stored
    else if stamp_below t (top_of replica) then stays replica (Later (top_of replica))
    else modified_on code m full seat replica t base j delta (newest_of replica.log)

-- a request that is ignored
abbrev pub ignored : Replica → Reaction
ignored replica = record { replica = replica; reply = None; adds = 0; drops = 0 }

-- the versions of a log that are not below a stamp
abbrev pub not_below : Stamp → List Version → List Version
not_below c log = filter (λ version. not (stamp_below version.stamp c)) log

-- whether the version that a member has from the start is among those below a stamp
abbrev pub drops_start : Replica → Stamp → Bool
drops_start replica c = replica.from_start && stamp_below first_stamp c

-- Drop the versions below one that is held. Where that is not held, nothing changes. There is no reply.
abbrev pub collected : Replica → Stamp → Reaction
collected replica c =
    if is_held c replica.log
    then record {
      replica = record replica { log = not_below c replica.log; from_start = replica.from_start && not (stamp_below first_stamp c) };
      reply = None;
      adds = 0;
      drops = length (below c replica.log) - (if drops_start replica c then 1 else 0);
    }
    else ignored replica

-- What the member at a seat does with a request, where a stripe has m data blocks. No coordinator sends the requests that are ignored here.
unfoldable pub handle : Code → ℕ → Option ℕ → ℕ → Replica → Request → Reaction
handle code m full seat replica (Read want) = stays replica (Found replica.order (told_version (is_wanted want seat) (newest_of replica.log)))
handle code m full seat replica (Order t) = ordered full replica t
handle code m full seat replica (Write t block) = written full replica t block
handle code m full seat replica (OrderRead t look want) = order_read full replica t look (is_wanted want seat)
handle code m full seat replica (Modify t base j delta) = modified code m full seat replica t base j delta
handle code m full seat replica (Collect t) = collected replica t
handle code m full seat replica (OldRead bound) = ignored replica
handle code m full seat replica (Prepare ballot) = ignored replica
handle code m full seat replica (Accept ballot members) = ignored replica
