-- What a request comes to at a member, before it is kept.
use Rattle.std.specs.Prelude.{◌≡◌, ◌≢◌, ℕ, Bool, true, false, if◌then◌else◌, is_none, Option, Some, None, unwrap_or, List, [], length, IsTrue, IsSome, IsNone, IsSomeAnd}
use Rattle.std.specs.Option.{ForSome, option_map}
use Rattle.fab_base.specs.declared.stamps.Stamp.{Stamp}
use Rattle.fab_base.specs.Stamps.{stamp_below}
use Rattle.messages.specs.declared.requests.Version.{Version}
use Rattle.messages.specs.declared.replies.Reply.{Reply}
use Rattle.messages.specs.declared.replies.Reply.TheVariants.{Stored, Later}
use Rattle.protocol.specs.Replicas.{Replica, Reaction, newest_of, top_of, is_held, below, ignored, stays, promised, stored, collected, unless_full}
use Rattle.replica.specs.declared.plans.Plan.{Plan}
use Rattle.replica.specs.declared.plans.Plan.TheVariants.{Ignore, Tell, Promise, Store, Collect}

-- the reply to a request to store a version that is held already, or is below the top
abbrev pub settled_reply : Replica → Stamp → Option Reply
settled_reply part t =
    if is_held t part.log then Some Stored
    else if stamp_below t (top_of part) then Some (Later (top_of part))
    else None

-- the block that is stored: the one given, or that of the newest version
abbrev pub block_stored : List Version → Option (List ℕ) → List ℕ
block_stored log (Some bytes) = bytes
block_stored log None = unwrap_or (option_map (λ v. v.block) (newest_of log)) []

-- the machine's reaction that is planned
abbrev pub planned : Option ℕ → Replica → Plan → Reaction
planned full part Ignore = ignored part
planned full part (Tell reply) = stays part reply
planned full part (Promise t reply) = unless_full full part (promised part t reply)
planned full part (Store t block) = unless_full full part (stored part t (block_stored part.log block))
planned full part (Collect t) = collected part t

-- the stamp is above the newest version's
abbrev pub IsAboveNewest : List Version → Stamp → Type 0
IsAboveNewest log t = ForSome (newest_of log) (λ top. IsTrue (stamp_below top.stamp t))

-- a version shares the block of the newest one, or has a block of this size
abbrev pub IsStorable : ℕ → Bool → Option Version → Option (List ℕ) → Type 0
IsStorable size true newest block = IsNone block × IsSome newest
IsStorable size false newest block = IsSomeAnd block (λ bytes. length bytes ≡ size)

-- what is planned is a change: a later order stamp; a version above the newest one, which shares that one's block or does not; or versions to drop,
-- below one that is held
abbrev pub IsChange : ℕ → Bool → Replica → Plan → Type 0
IsChange size shares part Ignore = Unit {0}
IsChange size shares part (Tell reply) = Unit {0}
IsChange size shares part (Promise t reply) = stamp_below part.order t ≡ true
IsChange size shares part (Store t block) = IsAboveNewest part.log t × IsStorable size shares (newest_of part.log) block
IsChange size shares part (Collect t) = IsTrue (is_held t part.log) × (below t part.log ≢ [])

-- what is planned is to store a version that shares the newest one's block
abbrev pub is_shared : Plan → Bool
is_shared Ignore = false
is_shared (Tell reply) = false
is_shared (Promise t reply) = false
is_shared (Store t block) = is_none block
is_shared (Collect t) = false
