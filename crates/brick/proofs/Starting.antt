-- A store that may be started is neither refused as none nor as worn.
use Rattle.std.proofs.Common.{◌≡◌, ◌⊎◌, ◌-◌, ◌^◌, ◌<◌, ℕ, arith, List, inl, inr, sym, ap, ◌∙◌, subst}
use Rattle.frame_store.specs.declared.frames.Frame.{Frame}
use Rattle.frame_store.specs.declared.shapes.Form.{Form}
use Rattle.frame_store.specs.declared.shapes.Shape.{Shape}
use Rattle.frame_store.specs.declared.shapes.Half.{Half}
use Rattle.frame_store.specs.declared.shapes.Half.TheVariants.{A, B}
use Rattle.frame_store.specs.Images.{InForce, IsNoStore, OpensAs}
use Rattle.frame_store.specs.Layouts.{formed}
use Rattle.frame_store.proofs.Openings.{opens_once, opens_in_one_form}
use Rattle.version_log.specs.Versions.{Version}
use Rattle.brick_state.specs.States.{StateOf}
use Rattle.brick_store.specs.Images.{IsFound, state_in}
use Rattle.replica.specs.Parts.{ListsStand}
use Rattle.fab_base.specs.declared.identities.BrickId.{BrickId}
use Rattle.fab_base.specs.Layouts.{Layout}
use Rattle.protocol.specs.Nodes as machine
use Rattle.fab_disk.specs.Changing.{Stands}
use Rattle.node.specs.Running.{Running, shape_at, state_of, ImageShows}
use Rattle.node.proofs.Shown.{leaves_shown}
use Rattle.brick.specs.Serves.{IsLeft, MayStart}
use Rattle.brick.specs.Views.{Views}

-- an image is found as one state
found_once : (shape : Shape) (st other : StateOf Version) (image : List ℕ) → IsFound shape st image → IsFound shape other image → st ≡ other
found_once shape st other image found again =
    let same : found.form ≡ again.form =
    opens_in_one_form shape found.form again.form image found.frames again.frames found.closed again.closed found.opens again.opens
    in
    let there : OpensAs (formed again.form shape) found.frames found.closed image =
    subst (λ (form : Form). OpensAs (formed form shape) found.frames found.closed image) same found.opens
    in
    let once = opens_once (formed again.form shape) image found.frames again.frames found.closed again.closed there again.opens in
    sym found.state ∙ ap (λ (form : Form). state_in (formed form shape) found.frames image) same
    ∙ ap (λ (frames : List Frame). state_in (formed again.form shape) frames image) once.0 ∙ again.state

-- an image that is read by one half has an open header
in_force_open : (shape : Shape) (form : Form) (half : Half) (image : List ℕ) → InForce (formed form shape) half image → IsNoStore shape image → ⊥
in_force_open shape form A image force none = none.first form force.0
in_force_open shape form B image force none = none.second form force.0

pub is_a_store : {D : Type 0} (tells : Type 0) (seen : D → List ℕ) (layout : Layout) (me : BrickId) (disk : D) (U : Type 0)
    → MayStart tells seen layout me disk
    → (tells → (IsNoStore (shape_at layout me) (seen disk) × U)
    ⊎ ((st : StateOf Version) × IsFound (shape_at layout me) st (seen disk) × (ListsStand layout st → ⊥))) → ⊥
is_a_store tells seen layout me disk U may refused =
    elim (refused may.told) [
      | inl none ↦ in_force_open (shape_at layout me) may.found.form may.found.opens.half (seen disk) may.found.opens.in_force none.0
      | inr other ↦ other.2 (subst (ListsStand layout) (found_once (shape_at layout me) may.st other.0 (seen disk) may.found other.1) may.lists)
    ]

pub is_not_worn : {D : Type 0} (tells : Type 0) (seen : D → List ℕ) (layout : Layout) (me : BrickId) (disk : D) → MayStart tells seen layout me disk
    → (tells → (st : StateOf Version) × IsFound (shape_at layout me) st (seen disk) × (st.boot ≡ 2 ^ 32 - 1)) → ⊥
is_not_worn tells seen layout me disk may refused =
    let worn = refused may.told in
    let same : may.st.boot ≡ worn.0.boot = ap (λ (s : StateOf Version). s.boot) (found_once (shape_at layout me) may.st worn.0 (seen disk) may.found worn.1) in
    let few : may.st.boot < 2 ^ 32 - 1 = may.openable in
    let many : worn.0.boot ≡ 2 ^ 32 - 1 = worn.2 in
    omega (arith, same, few, many)

-- what an image shows of a brick is shown by the same layout and number under other names
pub shown_as : (layout other : Layout) (me you : BrickId) (state : machine.Node) (image : List ℕ) → layout ≡ other → me ≡ you
    → ImageShows layout me state image → ImageShows other you state image
shown_as layout other me you state image layouts bricks shows =
    subst (λ (l : Layout). ImageShows l you state image) layouts (subst (λ (b : BrickId). ImageShows layout b state image) bricks shows)

-- a disk that a brick of this layout and number left, where it stands for the brick
pub left_by : {D L C : Type 0} (v : Views D L C) (layout : Layout) (me : BrickId) (node : Running D) (back : D) (whole : Type 0) → back ≡ node.brick.disk
    → node.layout ≡ layout → node.me ≡ me → (v.disk.tells → whole → Stands v.disk (ImageShows node.layout node.me (state_of node)) back)
    → IsLeft v layout me node back whole
left_by v layout me node back whole disk layouts bricks stands = record {
  disk = disk;
  shows = λ tells is. shown_as node.layout layout node.me me (state_of node) (v.disk.seen back) layouts bricks (stands tells is).has;
  durable = λ tells is image may. shown_as node.layout layout node.me me (state_of node) image layouts bricks
      (leaves_shown v.disk node.layout node.me (state_of node) back (stands tells is) image may);
}
