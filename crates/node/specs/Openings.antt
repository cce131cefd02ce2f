-- What the start of a brick makes of its disk.
use Rattle.std.specs.Prelude.{◌≡◌, ◌-◌, ◌<◌, ◌^◌, List, Bool, Result, Ok, Err}
use Rattle.fab_base.specs.declared.identities.BrickId.{BrickId}
use Rattle.fab_base.specs.Layouts.{Layout}
use Rattle.fab_disk.specs.declared.disk.Disk as on_disk
use Rattle.fab_disk.specs.Changing.{End, Whole, Cut, NotBegun}
use Rattle.fab_disk.specs.Disk.{IsUntouched, LeavesOnly, Kept}
use Rattle.fab_disk.specs.Plan.{IsRun}
use Rattle.frame_store.specs.declared.frames.Frame.{Frame}
use Rattle.frame_store.specs.declared.shapes.Form.{Form}
use Rattle.frame_store.specs.Images.{OpensAs}
use Rattle.frame_store.specs.Layouts.{formed}
use Rattle.brick_store.specs.declared.faults.OpenFault.{OpenFault}
use Rattle.brick_store.specs.declared.faults.OpenFault.TheVariants.{Disk, NotAStore}
use Rattle.brick_store.specs.Openings.{IsAllowedOr, StopsOpening, calls_on_opening}
use Rattle.protocol.specs.Nodes.{Node}
use Rattle.node.specs.Running.{Running, shape_at, ImageShows, ShowsEither, reopened}

-- the disk that is in the answer of a start
abbrev pub disk_in : {D : Type 0} → Result (Running D) (OpenFault × D) → D
disk_in (Ok node) = node.brick.disk
disk_in (Err refused) = refused.1

-- how a start ended, by its fault or its answer: a fault of the disk cut the opening short, a store whose lists of members may not keep the layout's groups was
-- opened, and any other fault came before the first call
abbrev pub stopped_by : OpenFault → End
stopped_by Disk = Cut
stopped_by NotAStore = Whole
stopped_by fault = NotBegun

abbrev pub end_in : {D : Type 0} → Result (Running D) (OpenFault × D) → End
end_in (Ok node) = Whole
end_in (Err refused) = stopped_by refused.0

-- An opening of the store of a brick of the layout, by how it ended.
pub record OpensBrick {D : Type 0} (d : on_disk.Ghosts D) (layout : Layout) (me : BrickId) (old new : D) (end : End) : Type 0 where
  -- At each moment each image is one that the disk allowed before, or shows the brick as it was, or opened once more.
  pub moments : d.tells → (before : Node) → ImageShows layout me before (d.seen old)
      → LeavesOnly d.moment d.left_since old new (IsAllowedOr (d.may_leave old) (ShowsEither layout me before (reopened before)))
  -- It is a run of five calls, or of twelve where the list of frames can't be appended to, and of thirteen over a store of the old format.
  pub run : d.tells → (form : Form) (frames : List Frame) (closed : Bool) → OpensAs (formed form (shape_at layout me)) frames closed (d.seen old)
      → IsRun d.tells d.moment d.plan d.unlisted (calls_on_opening (formed form (shape_at layout me)) frames closed) old new (end ≡ Whole) (end ≡ Cut)
  -- Cut short where no fault is listed, its store was not worn.
  pub not_worn : end ≡ Cut → d.tells → d.unlisted old → (before : Node) → ImageShows layout me before (d.seen old) → before.boot < 2 ^ 32 - 1
  -- What the last sync left is then as it was before, or shows the brick as it was. So does what a read gives, until the last call but one was made;
  -- from then on that shows the brick with its store opened once more.
  pub cut : end ≡ Cut → d.tells → d.unlisted old → (form : Form) (frames : List Frame) (closed : Bool)
      → OpensAs (formed form (shape_at layout me)) frames closed (d.seen old) → (before : Node) → ImageShows layout me before (d.seen old)
      → StopsOpening d.seen d.certain d.moment (calls_on_opening (formed form (shape_at layout me)) frames closed) old new
      (ImageShows layout me before) (ImageShows layout me (reopened before))
  pub not_begun : end ≡ NotBegun → IsUntouched d.seen d.may_leave d.moment d.left_since old new
  pub cause : Kept (d.faults old) (d.faults new) (d.sound old) (d.sound new) (end ≡ Cut)
