-- What a brick shows as it starts.
use Rattle.std.proofs.Common.{◌≡◌, ◌⊎◌, ℕ, ◌+◌, List, inl, inr, ⊎_elim, refl, sym, ◌∙◌, ap, subst, arith}
use Rattle.fab_base.specs.declared.identities.BrickId.{BrickId}
use Rattle.fab_base.specs.Layouts.{Layout}
use Rattle.fab_disk.specs.declared.disk.Disk as on_disk
use Rattle.fab_disk.specs.Disk.{IsUntouched}
use Rattle.fab_disk.specs.Changing.{End, Cut, NotBegun}
use Rattle.fab_disk.proofs.Moments.{widened}
use Rattle.frame_store.specs.declared.shapes.Shape.{Shape}
use Rattle.frame_store.specs.declared.shapes.Form.{Form}
use Rattle.frame_store.specs.declared.shapes.Half.{Half}
use Rattle.frame_store.specs.declared.shapes.Half.TheVariants.{A, B}
use Rattle.frame_store.specs.Images.{InForce, IsNoStore}
use Rattle.frame_store.specs.Layouts.{formed}
use Rattle.version_log.specs.Versions.{Version}
use Rattle.brick_state.specs.States.{StateOf, booted, live}
use Rattle.brick_store.specs.declared.faults.OpenFault.{OpenFault}
use Rattle.brick_store.specs.declared.faults.OpenFault.TheVariants as faults
use Rattle.brick_store.specs.Bricks.{Brick}
use Rattle.brick_store.specs.Images.{IsFound, StandsFor}
use Rattle.brick_store.specs.Openings as stores
use Rattle.brick_store.specs.Openings.{IsCounted, Opens}
use Rattle.brick_store.proofs.OpeningLaws.{counted_is}
use Rattle.protocol.specs.Nodes.{Node, restarted}
use Rattle.replica.specs.Parts.{ListsStand, part_in, learnt_in, ballots_in, live_at}
use Rattle.node.specs.declared.tasks.Tasks.{Tasks}
use Rattle.node.specs.Openings.{OpensBrick, stopped_by}
use Rattle.node.specs.States.{KeptParts, fresh_node, parts_in}
use Rattle.node.specs.Tasks.{tasks_in}
use Rattle.node.specs.Running.{running, state_of, shape_at, ImageShows, reopened}
use Rattle.node.proofs.States.{same_states}
use Rattle.node.proofs.Views.{seen_so}

-- where a half is in force, there is a store
some_store : (shape : Shape) (form : Form) (half : Half) (image : List ℕ) → IsNoStore shape image → InForce (formed form shape) half image → ⊥
some_store shape form A image none in_force = none.first form in_force.0
some_store shape form B image none in_force = none.second form in_force.0

-- over a store that was opened once more, the brick is the one that the image showed, restarted
pub restarts_so : {D : Type 0} (layout : Layout) (me : BrickId) (tasks : Tasks) (store : Brick D) (boot : ℕ) (node : Node) (image : List ℕ)
    → tasks.work.calls.stamps.boot ≡ store.state.boot → boot ≡ store.state.boot → ((kept : KeptParts) → tasks_in kept tasks ≡ fresh_node boot kept)
    → ImageShows layout me node image → IsCounted (shape_at layout me) image store.state → state_of (running layout tasks store) ≡ restarted 1 node
unfolding restarted
restarts_so layout me tasks store boot node image own same fresh shows counted =
    let is : store.state ≡ booted (shows.st.boot + 1) shows.st =
    counted_is (shape_at layout me) image store.state counted shows.st shows.stands in
    seen_so layout tasks store own
    ∙ fresh (parts_in layout store.state)
    ∙ same_states _ _ (same ∙ ap (λ (st : StateOf Version). st.boot) is ∙ ap (λ b. b + 1) (sym shows.parts.boot)) refl refl refl refl
    (ap (λ (st : StateOf Version). live st) is ∙ sym shows.parts.live)
    (λ g e. ap (λ (st : StateOf Version). live_at st g e) is ∙ sym (shows.parts.live_in g e))
    (λ g. ap (λ (st : StateOf Version). learnt_in layout st g) is ∙ sym (shows.parts.learnt g))
    (λ g. ap (λ (st : StateOf Version). ballots_in st g) is ∙ sym (shows.parts.ballots g))
    (λ g e s. ap (λ (st : StateOf Version). part_in layout.block st g e s) is ∙ sym (shows.parts.replicas g e s)) (λ k. refl) refl refl refl

module _ {D : Type 0} (d : on_disk.Ghosts D) (layout : Layout) (me : BrickId) (old new : D) where
  before_shows : (node : Node) (first : List ℕ) (shows : ImageShows layout me node first) (image : List ℕ)
      → StandsFor (shape_at layout me) shows.st image → ImageShows layout me node image
  before_shows node first shows image stands = record { st = shows.st; stands = stands; parts = shows.parts; lists = shows.lists }

  after_shows : (node : Node) (first : List ℕ) (shows : ImageShows layout me node first) (image : List ℕ)
      → StandsFor (shape_at layout me) (booted (shows.st.boot + 1) shows.st) image → ImageShows layout me (reopened node) image
  after_shows node first shows image stands = record {
    st = booted (shows.st.boot + 1) shows.st;
    stands = stands;
    parts = record {
      boot = ap (λ b. b + 1) shows.parts.boot;
      live = shows.parts.live;
      live_in = shows.parts.live_in;
      learnt = shows.parts.learnt;
      ballots = shows.parts.ballots;
      replicas = shows.parts.replicas;
    };
    lists = shows.lists;
  }

  -- the opening of the store is the brick's
  pub opens_so : (end : End) → Opens d (shape_at layout me) old new end → OpensBrick d layout me old new end
  opens_so end opens = record {
    moments = λ told node shows.
        widened d.moment d.left_since old new _ _
        (λ image. ⊎_elim (λ had. inl had)
        (⊎_elim (λ was. inr (inl (before_shows node (d.seen old) shows image was))) (λ is. inr (inr (after_shows node (d.seen old) shows image is)))))
        (opens.moments told shows.st shows.stands);
    run = opens.run;
    not_worn = λ is told free node shows. let few = opens.not_worn is told free shows.st shows.stands in omega (arith, few, shows.parts.boot);
    cut = λ is told free form frames closed listed node shows.
        let stops = opens.cut is told free form frames closed listed shows.st shows.stands in
        record {
          clock = stops.clock;
          settled = ⊎_elim (λ had. inl had) (λ now. inr (before_shows node (d.seen old) shows (d.certain new) now)) stops.settled;
          early = λ at. before_shows node (d.seen old) shows (d.seen new) (stops.early at);
          late = λ at. after_shows node (d.seen old) shows (d.seen new) (stops.late at);
        };
    not_begun = opens.not_begun;
    cause = opens.cause;
  }

  -- so is one that was refused; where there is no store, it may be said to have been opened
  pub refused_so : (fault : OpenFault) → Opens d (shape_at layout me) old new (stores.stopped_by fault)
      → (fault ≡ faults.NotAStore → d.tells → IsNoStore (shape_at layout me) (d.seen old)) → OpensBrick d layout me old new (stopped_by fault)
  refused_so faults.Disk opens none = opens_so Cut opens
  refused_so faults.Worn opens none = opens_so NotBegun opens
  refused_so faults.NoMemory opens none = opens_so NotBegun opens
  refused_so faults.NotAStore opens none =
      let refused = opens_so NotBegun opens in
      record {
        moments = refused.moments;
        run = λ told form frames closed listed.
            absurd (some_store (shape_at layout me) form listed.half (d.seen old) (none refl told) listed.in_force);
        not_worn = λ is. absurd cc;
        cut = λ is. absurd cc;
        not_begun = λ is. absurd cc;
        cause = record {
          later = refused.cause.later;
          rose = λ is. absurd cc;
          stays = refused.cause.stays;
          never = λ sound is. absurd cc;
        };
      }

-- a store of a shape that is the brick's
module _ {D : Type 0} (d : on_disk.Ghosts D) (layout : Layout) (me : BrickId) (old : D) (shape : Shape) (same : shape ≡ shape_at layout me) where
  pub opens_at : (new last : D) (end : End) → new ≡ last → Opens d shape old last end → OpensBrick d layout me old new end
  opens_at new last end is opens =
      opens_so d layout me old new end
      (subst (λ (disk : D). Opens d (shape_at layout me) old disk end) (sym is) (subst (λ (s : Shape). Opens d s old last end) same opens))

  pub counted_at : (st : StateOf Version) → (d.tells → IsCounted shape (d.seen old) st) → d.tells → IsCounted (shape_at layout me) (d.seen old) st
  counted_at st = subst (λ (s : Shape). d.tells → IsCounted s (d.seen old) st) same

  -- the brick has no store that it may run on
  abbrev pub HasNone : D → Type 0
  HasNone new =
      (IsNoStore (shape_at layout me) (d.seen old) × IsUntouched d.seen d.may_leave d.moment d.left_since old new)
      ⊎ ((st : StateOf Version) × IsFound (shape_at layout me) st (d.seen old) × (ListsStand layout st → ⊥))

  -- for none was found
  module _ (fault : OpenFault) (new : D) (opens : Opens d shape old new (stores.stopped_by fault))
      (none : fault ≡ faults.NotAStore → d.tells → IsNoStore shape (d.seen old)) where
    none_here : fault ≡ faults.NotAStore → d.tells → IsNoStore (shape_at layout me) (d.seen old)
    none_here = subst (λ (s : Shape). fault ≡ faults.NotAStore → d.tells → IsNoStore s (d.seen old)) same none

    pub refused_at : OpensBrick d layout me old new (stopped_by fault)
    refused_at = refused_so d layout me old new fault (subst (λ (s : Shape). Opens d s old new (stores.stopped_by fault)) same opens) none_here

    pub none_found : fault ≡ faults.NotAStore → d.tells → HasNone new
    none_found is told = inl (none_here is told, opens.not_begun (ap stores.stopped_by is))

  -- or its lists may not keep the layout's groups
  pub lists_fall : (new : D) (st : StateOf Version) → (d.tells → IsCounted shape (d.seen old) st) → (ListsStand layout st → ⊥) → d.tells → HasNone new
  lists_fall new st found fall told =
      let counted = counted_at st found told in
      inr (counted.before, counted.found, λ first. fall (subst (λ (now : StateOf Version). ListsStand layout now) (sym counted.counted) first))
