-- What the machine sees of a brick, and what its store shows of it.
use Rattle.std.proofs.Common.{◌≡◌, ℕ, suc, Bool, cond, List, [], ◌∷◌, Some, refl, sym, ◌∙◌, ap, subst}
use Rattle.std.specs.Prelude.{length, map}
use Rattle.std.specs.Option.{option_map}
use Rattle.std.specs.Ordering.{nat_cmp}
use Rattle.std.specs.Map.{lookup}
use Rattle.std.specs.BTreeMap.{is_at}
use Rattle.fab_base.specs.declared.identities.BrickId.{BrickId}
use Rattle.frame_store.specs.declared.shapes.Shape.{Shape}
use Rattle.version_log.specs.Versions.{Version}
use Rattle.brick_state.specs.States.{StateOf}
use Rattle.brick_store.specs.Bricks.{Brick}
use Rattle.brick_store.specs.Images.{StandsFor}
use Rattle.fab_base.specs.Layouts.{Layout}
use Rattle.protocol.specs.Nodes.{Node}
use Rattle.node.specs.declared.tasks.Tasks.{Tasks}
use Rattle.node.specs.Operations.{coordinator_of}
use Rattle.node.specs.States.{state_with, parts_in}
use Rattle.node.specs.Tasks.{tasks_in}
use Rattle.node.specs.Jobs.{calls_with, reading_in}
use Rattle.node.specs.Scrubs.{calls_with_scrub, scrubbing_in}
use Rattle.node.specs.Running.{running, state_of, shape_at, IsKept, IsBrickOf, ImageShows}
use Rattle.node.proofs.States.{same_states}
use Rattle.node.proofs.Tables.{map_cond}

-- as many as before
map_length : {X Y : Type 0} (f : X → Y) (es : List X) → length (map f es) ≡ length es
map_length f [] = refl
map_length f (e ∷ es) = ap (λ n. suc n) (map_length f es)

-- a value among others, seen through a function
map_lookup : {X Y : Type 0} (f : X → Y) (test : ℕ → Bool) (es : List (ℕ × X)) → lookup test (map (λ e. (e.0, f e.1)) es) ≡ option_map f
    (lookup test es)
map_lookup f test [] = refl
map_lookup f test (e ∷ es) =
    ap (λ o. cond (test e.0) (Some (f e.1)) o) (map_lookup f test es) ∙ sym (map_cond f (test e.0) (Some e.1) (lookup test es))

module _ {D : Type 0} (layout : Layout) (tasks : Tasks) (store : Brick D) where
  -- the machine sees what the store keeps, and what is under way
  pub seen_so : tasks.work.calls.stamps.boot ≡ store.state.boot → state_of (running layout tasks store) ≡ tasks_in (parts_in layout store.state) tasks
  unfolding state_of state_with
  seen_so boot =
      same_states _ _ (sym boot) refl refl refl (map_length (λ e. (e.0, coordinator_of e.1)) tasks.work.calls.operations.entries) refl (λ g e. refl) (λ g. refl)
      (λ g. refl) (λ g e s. refl) (λ k i. calls_with_scrub (scrubbing_in tasks.scrub) (calls_with (reading_in tasks.job)
      (λ q. map_lookup coordinator_of (is_at (nat_cmp q)) tasks.work.calls.operations.entries i)) k) refl refl refl

  -- what the machine's brick keeps is what the store keeps
  pub kept_so : IsBrickOf layout store.shape store.state tasks → IsKept layout store.state (state_of (running layout tasks store))
  unfolding state_of
  kept_so is =
      record {
        parts = record { boot = refl; live = refl; live_in = λ g e. refl; learnt = λ g. refl; ballots = λ g. refl; replicas = λ g e s. refl };
        lists = is.lists;
      }

-- whatever is under way, the images are the same
pub still_shows : {D : Type 0} (layout : Layout) (before after : Tasks) (store : Brick D) (me : BrickId) (image : List ℕ)
    → ImageShows layout me (state_of (running layout before store)) image → ImageShows layout me (state_of (running layout after store)) image
unfolding state_of
still_shows layout before after store me image shows =
    record {
      st = shows.st;
      stands = shows.stands;
      parts = record {
        boot = shows.parts.boot;
        live = shows.parts.live;
        live_in = shows.parts.live_in;
        learnt = shows.parts.learnt;
        ballots = shows.parts.ballots;
        replicas = shows.parts.replicas;
      };
      lists = shows.lists;
    }

-- a store that keeps the same is the same to the machine
pub same_kept : {D : Type 0} (layout : Layout) (tasks : Tasks) (old new : Brick D) → new.state ≡ old.state
    → state_of (running layout tasks new) ≡ state_of (running layout tasks old)
unfolding state_of
same_kept layout tasks old new is =
    ap (λ (st : StateOf Version). state_of (running layout tasks (record { disk = old.disk; shape = old.shape; state = st; listed = old.listed; halted = old.halted }))) is

-- an image that stands for the store shows the brick
pub shows_so : {D : Type 0} (layout : Layout) (me : BrickId) (node : Node) (store : Brick D) (image : List ℕ) → store.shape ≡ shape_at layout me
    → IsKept layout store.state node → StandsFor store.shape store.state image → ImageShows layout me node image
shows_so layout me node store image shape kept stands =
    record { st = store.state; stands = subst (λ (s : Shape). StandsFor s store.state image) shape stands; parts = kept.parts; lists = kept.lists }
