-- What `brick format` does to its host, once the layout was found, and how it ends.
use Rattle.std.specs.Prelude.{◌≡◌, ◌⊎◌, ◌<◌, ◌==◌, ℕ, Bool, true, false, List, [], Option, Some, None}
use Rattle.fab_base.specs.declared.identities.BrickId.{BrickId}
use Rattle.fab_base.specs.Layouts.{Layout}
use Rattle.fab_base.specs.Faults.{Rose}
use Rattle.fab_host.specs.declared.hosts.Asked.TheVariants as calls
use Rattle.fab_host.specs.Holdings.{Holdings, IsFree}
use Rattle.frame_store.specs.declared.shapes.Form.{Form}
use Rattle.frame_store.specs.declared.shapes.Form.TheVariants.{Old, New}
use Rattle.frame_store.specs.Images.{OpensAs}
use Rattle.frame_store.specs.Layouts.{shape_of, formed}
use Rattle.brick_state.specs.States.{empty}
use Rattle.brick_store.specs.Images.{StandsFor, LeavesState}
use Rattle.brick.specs.declared.endings.Ending.{Ending}
use Rattle.brick.specs.declared.endings.Ending.TheVariants.{Formatted, Usage, Memory, Disk, Host}
use Rattle.brick.specs.Hosts.{HostSeen, IsUnasked, AsksOnly, AsksInVain, ReturnsFresh}
use Rattle.brick.specs.Layouts.{HoldsLayout}

-- the form in which a store is made, of the old format or of the new one
abbrev pub made_form : Bool → Form
made_form true = Old
made_form false = New

-- the disk opens, now and after a crash, as the empty store of this layout and brick, and in the format that the layout names
pub record IsFresh {D : Type 0} (seen : D → List ℕ) (may_leave : D → List ℕ → Type 0) (layout : Layout) (me : BrickId) (disk : D) : Type 0 where
  pub now : StandsFor (shape_of me.0 layout.block layout.records) empty (seen disk)
  pub durable : LeavesState (shape_of me.0 layout.block layout.records) empty (may_leave disk)
  pub format : OpensAs (formed (made_form (layout.store == 1)) (shape_of me.0 layout.block layout.records)) [] true (seen disk)

-- the fresh disk of this name was asked for, and given back as this one
abbrev pub AsksFresh : {S D L N C : Type 0} → HostSeen S D L N C → HostSeen S D L N C → List ℕ → D → Type 0
AsksFresh before after name back = AsksOnly before after (calls.Disk name true) (ReturnsFresh name back)

-- A store was to be made on a fresh disk.
abbrev pub MakesStore : {S D L N C : Type 0} → Type 0 → (D → List ℕ) → (D → List ℕ → Type 0) → (D → ℕ) → Layout → BrickId
    → HostSeen S D L N C → HostSeen S D L N C → List ℕ → Ending → Type 0
MakesStore {S} {D} {L} {N} {C} tells seen may_leave failed layout me before after name (Formatted made) =
    (made ≡ me) × ((back : D) × AsksFresh before after name back × (tells → IsFresh seen may_leave layout me back))
MakesStore {S} {D} {L} {N} {C} tells seen may_leave failed layout me before after name Disk =
    (opened back : D) × AsksFresh before after name back × Rose (failed opened) (failed back)
MakesStore {S} {D} {L} {N} {C} tells seen may_leave failed layout me before after name Host = AsksInVain before after (calls.Disk name true)
MakesStore {S} {D} {L} {N} {C} tells seen may_leave failed layout me before after name Memory =
    IsUnasked before after ⊎ ((back : D) × AsksFresh before after name back)
MakesStore {S} {D} {L} {N} {C} tells seen may_leave failed layout me before after name other = ⊥

-- A layout was found; a brick that it has not is refused, and else a store was to be made.
abbrev pub FormatsBrick : {S D L N C : Type 0} → Type 0 → (D → List ℕ) → (D → List ℕ → Type 0) → (D → ℕ) → Layout → Option BrickId
    → HostSeen S D L N C → HostSeen S D L N C → List ℕ → Ending → Type 0
FormatsBrick tells seen may_leave failed layout None before after name ending = (ending ≡ Usage) × (after ≡ before)
FormatsBrick tells seen may_leave failed layout (Some me) before after name ending =
    MakesStore tells seen may_leave failed layout me before after name ending

-- The host holds a source with the text of a layout, which has the brick, and the name of the disk is free.
pub record MayFormat {S D L N C : Type 0} (told : S → Option (List ℕ)) (h : Holdings S D L N C) (source disk : List ℕ) (id : ℕ) : Type 0 where
  pub layout : Layout
  pub holds : HoldsLayout told h source layout
  pub has : id < layout.bricks
  pub free : IsFree h disk
