-- Which data blocks the operations of a range are on.
use Rattle.std.specs.Prelude.{◌≡◌, ℕ, zero, suc, ◌*◌, ◌/◌, List, [], ◌∷◌, length, map, Option, Some, None}
use Rattle.std.specs.List.{flat_map}
use Rattle.fab_base.specs.declared.asks.Ask.{Ask}
use Rattle.fab_base.specs.declared.asks.Op.{Op}
use Rattle.fab_base.specs.declared.asks.Op.TheVariants.{ReadBlock, WriteBlock, ReadStripe, WriteStripe}
use Rattle.fab_base.specs.declared.identities.GroupId.{GroupId}
use Rattle.fab_base.specs.declared.identities.StripeNo.{StripeNo}
use Rattle.fab_base.specs.Asks.{bytes_by}
use Rattle.fab_base.specs.Layouts.{Layout, group_of}
use Rattle.layout.specs.declared.places.Place.{Place}
use Rattle.layout.specs.Places.{place_of, blocks_of}
use Rattle.front.specs.Halts.{halt_of}
use Rattle.front.specs.Pieces.{asks_of}

-- the place of the first byte of a data block
abbrev pub block_of : GroupId → StripeNo → ℕ → Place
block_of group stripe j = record { group = group; stripe = stripe; block = j; within = 0 }

-- the places of so many data blocks of a stripe, from block j on
abbrev pub blocks_from : GroupId → StripeNo → ℕ → ℕ → List Place
blocks_from group stripe j zero = []
blocks_from group stripe j (suc more) = block_of group stripe j ∷ blocks_from group stripe (suc j) more

-- the data blocks that an operation on a stripe of m data blocks is on
abbrev pub blocks_by : ℕ → GroupId → StripeNo → Op → List Place
blocks_by m group stripe (ReadBlock j) = block_of group stripe j ∷ []
blocks_by m group stripe (WriteBlock j bytes) = block_of group stripe j ∷ []
blocks_by m group stripe ReadStripe = blocks_from group stripe 0 m
blocks_by m group stripe (WriteStripe bytes) = blocks_from group stripe 0 m

-- the data blocks that an operation is on
abbrev pub blocks_in : Layout → Ask → List Place
blocks_in layout ask = blocks_by (blocks_of (group_of layout ask.group.0)) ask.group ask.stripe ask.op

-- where so many data blocks of a volume lie, from the one of this number on
abbrev pub places_at : Layout → List ℕ → ℕ → ℕ → List (Option Place)
places_at layout volume number zero = []
places_at layout volume number (suc more) = place_of layout volume (number * layout.block) ∷ places_at layout volume (suc number) more

-- The operations of a range that nothing halts are on the range's data blocks, on each once and in their order.
abbrev pub AsksEach : Layout → List ℕ → ℕ → ℕ → Option (List ℕ) → Type 0
AsksEach layout volume byte length content =
    halt_of layout volume byte length ≡ None
    → map Some (flat_map (blocks_in layout) (asks_of layout volume byte length content))
    ≡ places_at layout volume (byte / layout.block) (length / layout.block)

-- The operations of a write that nothing halts write its bytes, in their order.
abbrev pub WritesAll : Layout → List ℕ → ℕ → List ℕ → Type 0
WritesAll layout volume byte written =
    halt_of layout volume byte (length written) ≡ None
    → flat_map (λ ask. bytes_by ask.op) (asks_of layout volume byte (length written) (Some written)) ≡ written
