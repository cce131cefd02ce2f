-- What becomes of the disks where one brick changes.
use Rattle.std.proofs.Common.{◌≡◌, ◌≢◌, ℕ, zero, suc, ◌<◌, Bool, true, false, eqb, List, [], ◌∷◌, length, set, get_or, map, Option, Some, None, refl, sym, ap, ◌∙◌, subst}
use Rattle.std.specs.Option.{option_map}
use Rattle.std.specs.Prelude.{slice_get}
use Rattle.std.proofs.lemmas.Bool.{eqb-true, eqb-false}
use Rattle.std.proofs.lemmas.Option.{same_Some, slice_get-map, slice_get_read, slice_get-get_or, slice_get_within}
use Rattle.fab_base.specs.Layouts.{Layout}
use Rattle.fab_base.specs.declared.identities.BrickId.{BrickId}
use Rattle.fab_disk.specs.MemDisk.{content_of}
use Rattle.fab_disk.specs.declared.mem_disk.MemDisk.{MemDisk}
use Rattle.protocol.specs.Settings.{Setting}
use Rattle.protocol.specs.Worlds.{World, Event}
use Rattle.world.specs.BrickSteps.{ChangesBrick}
use Rattle.world.specs.Disks.{KeepsOthers, OfDisk, IsUnwritten, AreUnwritten, LeavesDisks, KeepsDisks, ListsEvent, changes_disk_of}
use Rattle.world.specs.Shown.{disk_in, disks_of}
use Rattle.world.specs.declared.bricks.Brick.{Brick}
use Rattle.world.specs.declared.bricks.Power.{Power}
use Rattle.world.proofs.Places.{set_here, set_elsewhere}

-- what of each element is as it was where one of them changes, of which it is as it was
map_same : {A B : Type 0} (f : A → B) (xs : List A) (k : ℕ) (old new : A) → old ≡ get_or xs k old → f new ≡ f old → map f (set xs k new) ≡ map f xs
map_same f [] k old new is same = refl
map_same f (x ∷ xs) zero old new is same = ap (λ y. y ∷ map f xs) (same ∙ ap f is)
map_same f (x ∷ xs) (suc k) old new is same = ap (λ ys. f x ∷ ys) (map_same f xs k old new is same)

-- what a place holds
pub brick_is : (bricks : List Brick) (b : ℕ) (brick : Brick) → slice_get bricks b ≡ Some brick → brick ≡ get_or bricks b brick
brick_is bricks b brick at = same_Some brick (get_or bricks b brick) (sym at ∙ slice_get-get_or bricks b brick (slice_get_within bricks b brick at))

-- the disks, where a brick has the disk that it had
pub disks_same : (bricks : List Brick) (b : ℕ) (old new : Brick) → old ≡ get_or bricks b old → disk_in new.power ≡ disk_in old.power
    → disks_of (set bricks b new) ≡ disks_of bricks
disks_same bricks b old new is same = map_same (λ (brick : Brick). disk_in brick.power) bricks b old new is same

-- the disk of a brick
pub disk_at : (bricks : List Brick) (b : ℕ) (brick : Brick) → b < length bricks → brick ≡ get_or bricks b brick
    → slice_get (disks_of bricks) b ≡ Some (disk_in brick.power)
disk_at bricks b brick within is =
    slice_get-map (λ (x : Brick). disk_in x.power) bricks b
    ∙ ap (option_map (λ (x : Brick). disk_in x.power)) (slice_get_read bricks (length bricks) b brick refl within is)

pub disk_set : (bricks : List Brick) (b : ℕ) (brick : Brick) → b < length bricks
    → slice_get (disks_of (set bricks b brick)) b ≡ Some (disk_in brick.power)
disk_set bricks b brick within =
    slice_get-map (λ (x : Brick). disk_in x.power) (set bricks b brick) b
    ∙ ap (option_map (λ (x : Brick). disk_in x.power)) (set_here bricks b brick within)

-- the other disks, where a brick has changed
pub others_kept : (bricks : List Brick) (b : BrickId) (new : Brick) → KeepsOthers (Some b) (disks_of bricks) (disks_of (set bricks b.0 new))
others_kept bricks b new i other =
    let disk : Brick → MemDisk = λ (brick : Brick). disk_in brick.power in
    slice_get-map disk (set bricks b.0 new) i ∙ ap (option_map disk) (set_elsewhere bricks b.0 new i other) ∙ sym (slice_get-map disk bricks i)

-- what reads give of the disks, where they give what they gave of one that may have changed
pub contents_same : (bricks : List Brick) (b : ℕ) (old new : Brick) → old ≡ get_or bricks b old
    → content_of (disk_in new.power) ≡ content_of (disk_in old.power) → map content_of (disks_of (set bricks b new)) ≡ map content_of (disks_of bricks)
contents_same [] b old new is same = refl
contents_same (x ∷ bricks) zero old new is same =
    ap (λ (bytes : List ℕ). bytes ∷ map content_of (disks_of bricks)) (same ∙ ap (λ (brick : Brick). content_of (disk_in brick.power)) is)
contents_same (x ∷ bricks) (suc b) old new is same =
    ap (λ (all : List (List ℕ)). content_of (disk_in x.power) ∷ all) (contents_same bricks b old new is same)

-- nothing was written on a disk that is as it was
unwritten_same : (was disk : MemDisk) → was ≡ disk → IsUnwritten was disk
unwritten_same was disk same = subst (λ (d : MemDisk). IsUnwritten was d) same (record { content = refl; crash = λ image left. left })

-- nor on the disks, where a brick has one on which nothing was
pub unwritten_but : (bricks : List Brick) (b : BrickId) (old new : Brick) → b.0 < length bricks → old ≡ get_or bricks b.0 old
    → IsUnwritten (disk_in old.power) (disk_in new.power) → AreUnwritten (disks_of bricks) (disks_of (set bricks b.0 new))
unwritten_but bricks b old new within is unwritten i was disk at now = by (eqb i b.0) refl
  where
    by : (here : Bool) → eqb i b.0 ≡ here → IsUnwritten was disk
    by true here =
        let same : i ≡ b.0 = eqb-true i b.0 here in
        let before : disk_in old.power ≡ was =
        (let e : Some (disk_in old.power) ≡ Some was = sym (disk_at bricks b.0 old within is) ∙ sym (ap (slice_get (disks_of bricks)) same) ∙ at in cc)
        in
        let after : disk_in new.power ≡ disk =
        (let e : Some (disk_in new.power) ≡ Some disk =
        sym (disk_set bricks b.0 new within) ∙ sym (ap (slice_get (disks_of (set bricks b.0 new))) same) ∙ now in cc)
        in
        subst (λ (d : MemDisk). IsUnwritten d disk) before (subst (λ (d : MemDisk). IsUnwritten (disk_in old.power) d) after unwritten)
    by false there =
        let other : i ≢ b.0 = eqb-false i b.0 there in
        unwritten_same was disk (let e : Some was ≡ Some disk = sym at ∙ sym (others_kept bricks b new i other) ∙ now in cc)

-- The disks where the brick of a number may have changed.
module _ {old new : List Brick} {number : BrickId} {Holds : Brick → Power → Type 0} (changes : ChangesBrick old new number Holds) where
  is_there : changes.brick ≡ get_or old number.0 changes.brick
  is_there = brick_is old number.0 changes.brick changes.at

  within_there : number.0 < length old
  within_there = slice_get_within old number.0 changes.brick changes.at

  pub disk_was : slice_get (disks_of old) number.0 ≡ Some (disk_in changes.brick.power)
  disk_was = disk_at old number.0 changes.brick within_there is_there

  disk_now : slice_get (disks_of new) number.0 ≡ Some (disk_in changes.power)
  disk_now =
      ap (λ (bricks : List Brick). slice_get (disks_of bricks) number.0) changes.now
      ∙ disk_set old number.0 (record changes.brick { power = changes.power }) within_there

  -- what is so of its disk, then and now, is so of those at its place
  pub of_disk : (P : MemDisk → MemDisk → Type 0) → P (disk_in changes.brick.power) (disk_in changes.power) → OfDisk number P (disks_of old) (disks_of new)
  of_disk P is was disk was_is disk_is =
      let before : disk_in changes.brick.power ≡ was = (let e : Some (disk_in changes.brick.power) ≡ Some was = sym disk_was ∙ was_is in cc) in
      let after : disk_in changes.power ≡ disk = (let e : Some (disk_in changes.power) ≡ Some disk = sym disk_now ∙ disk_is in cc) in
      subst (λ (d : MemDisk). P d disk) before (subst (λ (d : MemDisk). P (disk_in changes.brick.power) d) after is)

  -- and what is so of its disk now
  pub of_now : (P : MemDisk → Type 0) → P (disk_in changes.power) → (disk : MemDisk) → slice_get (disks_of new) number.0 ≡ Some disk → P disk
  of_now P is disk disk_is =
      let same : disk_in changes.power ≡ disk = (let e : Some (disk_in changes.power) ≡ Some disk = sym disk_now ∙ disk_is in cc) in subst P same is

  pub others_changed : KeepsOthers (Some number) (disks_of old) (disks_of new)
  others_changed =
      subst (λ (bricks : List Brick). KeepsOthers (Some number) (disks_of old) (disks_of bricks)) (sym changes.now)
      (others_kept old number (record changes.brick { power = changes.power }))

  pub unwritten_changed : IsUnwritten (disk_in changes.brick.power) (disk_in changes.power) → AreUnwritten (disks_of old) (disks_of new)
  unwritten_changed still =
      subst (λ (bricks : List Brick). AreUnwritten (disks_of old) (disks_of bricks)) (sym changes.now)
      (unwritten_but old number changes.brick (record changes.brick { power = changes.power }) within_there is_there still)

  pub contents_changed : content_of (disk_in changes.power) ≡ content_of (disk_in changes.brick.power)
      → map content_of (disks_of new) ≡ map content_of (disks_of old)
  contents_changed same =
      ap (λ (bricks : List Brick). map content_of (disks_of bricks)) changes.now
      ∙ contents_same old number.0 changes.brick (record changes.brick { power = changes.power }) is_there same

  pub disks_kept : disk_in changes.power ≡ disk_in changes.brick.power → disks_of new ≡ disks_of old
  disks_kept same = ap disks_of changes.now ∙ disks_same old number.0 changes.brick (record changes.brick { power = changes.power }) is_there same

-- what one event keeps
pub one_kept : (setting : Setting) (w : World) (event : Event) (old new : List MemDisk) → LeavesDisks setting.layout w event old new
    → KeepsDisks setting w (event ∷ []) old new
one_kept setting w event old new kept = (new, kept, refl)

-- where no disk has changed
pub same_kept : (layout : Layout) (w : World) (event : Event) (old new : List MemDisk) → new ≡ old → ListsEvent layout w event old new
    → LeavesDisks layout w event old new
same_kept layout w event old new same lists = record {
  lists = lists;
  others = by (changes_disk_of layout w event);
  still = λ none i was disk at now.
      unwritten_same was disk
      (let e : Some was ≡ Some disk = sym at ∙ ap (λ (disks : List MemDisk). slice_get disks i) (sym same) ∙ now in cc);
}
  where
    by : (brick : Option BrickId) → KeepsOthers brick old new
    by None = same
    by (Some brick) = λ i other. ap (λ (disks : List MemDisk). slice_get disks i) same
