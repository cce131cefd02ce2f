-- What a brick keeps, with the bytes of its blocks in the place of their slots.
use Rattle.std.specs.Prelude.{◌≡◌, ℕ, ◌-◌, ◌≤◌, Bool, true, not, ◌&&◌, ◌==◌, if◌then◌else◌, IsTrue, IsSome, find, option_and_then, Option, Some, None, List, [], ◌∷◌, ◌++◌, map, replicate, unwrap_or, option_map}
use Rattle.fab_base.specs.declared.stamps.Stamp.{Stamp}
use Rattle.std.specs.Option.{ForSome}
use Rattle.fab_base.specs.declared.stamps.Ballot.{Ballot}
use Rattle.fab_base.specs.declared.identities.BrickId.{BrickId}
use Rattle.fab_base.specs.declared.member_lists.View.{View}
use Rattle.fab_base.specs.Stamps.{first_stamp, stamp_below, stamp_same}
use Rattle.brick_state.specs.declared.groups.Group.{Group}
use Rattle.brick_state.specs.Rewrites.{learnt_number}
use Rattle.version_log.specs.Versions.{Version, version, newest, block_of, has_stamp}
use Rattle.brick_state.specs.Entries.{Entry}
use Rattle.brick_state.specs.States.{StripeOf, StateOf, Place, stripe_at, group_at, viewed, added}
use Rattle.brick_store.specs.BlockTables.{SlotBlocks, block_under}

-- a stripe and a state whose slots are seen as what lies in them
abbrev pub resolved_stripe : (ℕ → List ℕ) → StripeOf Entry → StripeOf Version
resolved_stripe block s = record { order = s.order; from_start = s.from_start; added = map (λ e. version e.stamp (block e.block)) s.added }

unfoldable pub resolved : (ℕ → List ℕ) → StateOf Entry → StateOf Version
resolved block st = record { boot = st.boot; groups = st.groups; stripes = map (λ e. (e.0, resolved_stripe block e.1)) st.stripes }

-- The log of a stripe: what was added, and under it what a stripe of view 1 begins with, a zero block of this many bytes.
abbrev pub log_of : ℕ → StripeOf Version → List Version
log_of block s = (if s.from_start then version first_stamp (replicate block 0) ∷ [] else []) ++ s.added

abbrev pub log_at : ℕ → StateOf Version → Place → List Version
log_at block st p = log_of block (stripe_at st p)

-- the block of a version that is added: its own, or that of the newest version
abbrev pub block_added : Option (List ℕ) → List Version → List ℕ
block_added (Some bytes) log = bytes
block_added None log = unwrap_or (option_map block_of (newest log)) []

-- the state with a version more in the log of a stripe
abbrev pub with_version : ℕ → Place → Stamp → Option (List ℕ) → StateOf Version → StateOf Version
with_version size p t block st = added p (version t (block_added block (log_at size st p))) st

-- a version's stamp
abbrev pub version_stamp : Version → Stamp
version_stamp v = v.stamp

-- the blocks that are held in memory, by slot; that of the zero block is not
abbrev pub cached : ℕ → SlotBlocks → ℕ → List ℕ
cached size blocks slot = if slot == 4294967295 then replicate size 0 else unwrap_or (block_under blocks slot) []

-- the number of the greatest view learnt, 1 before a view was, and the successor that was accepted
abbrev pub learnt_of : Group → ℕ
learnt_of group = learnt_number group.known

abbrev pub accepted_of : Group → Option (Ballot × List BrickId)
accepted_of group = option_and_then (λ b. b.1) group.ballots

-- All stripes of a group are known to be in the view that it learnt: that is kept, and the logs of the view before it are dropped.
abbrev pub learnt_view : Group → Option View
learnt_view group = option_map (λ known. known.0) group.known

abbrev pub synced_to : {E : Type 0} → Option View → ℕ → StateOf E → StateOf E
synced_to None g st = st
synced_to (Some view) g st = viewed g view true st

abbrev pub all_synced : {E : Type 0} → ℕ → StateOf E → StateOf E
all_synced g st = synced_to (learnt_view (group_at st g)) g st

-- The view is one whose logs are kept: the learnt one, or the one before it until all stripes are known to be in the learnt one.
abbrev pub first_kept : Option (View × Bool) → ℕ
first_kept None = 1
first_kept (Some known) = if known.1 then known.0.number.0 else (known.0.number.0 - 1)

pub record IsServed (group : Group) (view : ℕ) : Type 0 where
  pub some : 1 ≤ view
  pub kept : first_kept group.known ≤ view
  pub learnt : view ≤ learnt_of group

-- a version of this stamp is in the log
abbrev pub HasStamp : Stamp → List Version → Type 0
HasStamp t log = IsSome (find (has_stamp t) log)

-- the stamp is above the newest version's; without a block of its own there is one below it
pub record IsNext (t : Stamp) (log : List Version) (block : Option (List ℕ)) : Type 0 where
  pub above : ForSome (newest log) (λ top. IsTrue (stamp_below top.stamp t))
  pub content : log ≡ [] → IsSome block

-- an order stamp that is one live record more
abbrev pub adds_stamp : Stamp → Stamp → Bool
adds_stamp t order = stamp_same order first_stamp && not (stamp_same t first_stamp)
