-- What a look-up sees of one stripe.
use Rattle.std.specs.Prelude.{◌≡◌, ◌⊎◌, ℕ, Bool, true, ◌==◌, if◌then◌else◌, IsSome, Option, Some, None, List, [], ◌∷◌, ◌++◌, map, unwrap_or}
use Rattle.std.specs.List.{AllByRecursion}
use Rattle.fab_base.specs.declared.stamps.Stamp.{Stamp}
use Rattle.fab_base.specs.Stamps.{first_stamp}
use Rattle.version_log.specs.declared.logs.VersionLog.{VersionLog}
use Rattle.version_log.specs.Versions.{Version, version}
use Rattle.brick_state.specs.Entries.{Entry}
use Rattle.brick_store.specs.BlockTables.{SlotBlocks, block_under}

-- the order stamp and the log of a stripe
pub record StripeLog : Type 0 where
  pub order : Stamp
  pub log : List Version

-- the versions that were added to a stripe: none where nothing is kept of it
abbrev pub added_in : Option (VersionLog ℕ) → List Entry
added_in None = []
added_in (Some log) = log.versions.items

-- the block that memory holds for a slot
abbrev pub held : List ℕ → SlotBlocks → ℕ → List ℕ
held zero blocks slot = if slot == 4294967295 then zero else unwrap_or (block_under blocks slot) []

abbrev pub held_version : List ℕ → SlotBlocks → Entry → Version
held_version zero blocks e = version e.stamp (held zero blocks e.block)

-- what was added, and under it the version that a stripe begins with, while it is there
abbrev pub start_held : List ℕ → Bool → List Version
start_held zero from_start = if from_start then version first_stamp zero ∷ [] else []

abbrev pub log_held : List ℕ → SlotBlocks → Bool → List Entry → List Version
log_held zero blocks from_start added = start_held zero from_start ++ map (held_version zero blocks) added

-- memory holds a block for this slot
abbrev pub IsHeld : SlotBlocks → ℕ → Type 0
IsHeld blocks slot = ((slot == 4294967295) ≡ true) ⊎ IsSome (block_under blocks slot)

abbrev pub AllHeld : SlotBlocks → List Entry → Type 0
AllHeld blocks added = AllByRecursion (λ e. IsHeld blocks e.block) added
