-- The stamps that a brick makes.
use Rattle.std.specs.Prelude.{◌≢◌, ℕ, ◌+◌, ◌-◌, ◌^◌, ◌<◌, max, List, [], ◌∷◌, ◌++◌, Option, Some, None, ◌==◌, if◌then◌else◌, option_to_list, Contains}
use Rattle.std.specs.List.{AllPairs}
use Rattle.fab_base.specs.declared.identities.BrickId.{BrickId}
use Rattle.fab_base.specs.declared.identities.ViewNo.{ViewNo}
use Rattle.fab_base.specs.declared.stamps.Stamp.{Stamp}
use Rattle.stamp_store.specs.declared.stamp_sources.StampSource.{StampSource}

-- an opening that made and saw nothing
abbrev pub opened : ℕ → StampSource
opened boot = record { boot = boot; known = 0 }

-- the time of the next stamp, by the clock's reading: above all that is known
abbrev pub next_time : StampSource → ℕ → ℕ
next_time source now = max now (source.known + 1)

-- the next stamp, while there is a later time
abbrev pub next_stamp : StampSource → ℕ → ViewNo → BrickId → Option Stamp
next_stamp source now view brick =
    if source.known == 2 ^ 64 - 1 then None else Some (record { view = view; time = next_time source now; brick = brick; boot = source.boot })

-- the source after it was asked for a stamp, and after it saw one
abbrev pub after_next : StampSource → ℕ → ViewNo → BrickId → StampSource
after_next source now view brick = if source.known == 2 ^ 64 - 1 then source else record source { known = next_time source now }

abbrev pub after_seen : StampSource → Stamp → StampSource
after_seen source stamp = record source { known = max source.known stamp.time }

-- what a source is used for
pub data Use : Type 0 where
  Asked : (now : ℕ) (view : ViewNo) (brick : BrickId) → Use
  Saw : (stamp : Stamp) → Use

-- the stamps that a source makes
unfoldable pub stamps_of : StampSource → List Use → List Stamp
stamps_of source [] = []
stamps_of source (Asked now view brick ∷ uses) = option_to_list (next_stamp source now view brick) ++ stamps_of
    (after_next source now view brick) uses
stamps_of source (Saw stamp ∷ uses) = stamps_of (after_seen source stamp) uses

-- the stamps of a source have rising times
abbrev pub TimesRise : StampSource → Type 0
TimesRise source = (uses : List Use) → AllPairs (λ s t. s.time < t.time) (stamps_of source uses)

-- no stamp of one source is a stamp of the other
abbrev pub NeverMakeTheSame : StampSource → StampSource → Type 0
NeverMakeTheSame a b = (uses more : List Use) (s t : Stamp) → Contains (stamps_of a uses) s → Contains (stamps_of b more) t → s ≢ t
