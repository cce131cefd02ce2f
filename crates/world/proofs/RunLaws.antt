-- What holds in the world that a run leaves, since a schedule of events reaches it.
use Rattle.std.proofs.Common.{◌≡◌, ℕ, ◌+◌, List, Option, Some, None, refl, sym, ap, ◌∙◌, subst}
use Rattle.std.specs.Option.{option_map}
use Rattle.std.proofs.lemmas.Option.{same_Some}
use Rattle.fab_base.specs.declared.identities.BrickId.{BrickId}
use Rattle.fab_base.specs.Layouts.{Layout, Group, group_of}
use Rattle.protocol.specs.Jobs.{Job}
use Rattle.protocol.specs.Scrubs.{Scrub}
use Rattle.protocol.specs.Worlds.{World, Operation, first_world, number_of, run}
use Rattle.stripe_code.specs.Codes.{coding}
use Rattle.protocol.specs.Settings.{IsSound}
use Rattle.protocol.specs.Coordinators.{Coordinator}
use Rattle.protocol.specs.Views.{Views, views_in, kept_by}
use Rattle.protocol_laws.specs.Laws.{Laws}
use Rattle.protocol_laws.proofs.Books.{Books, OwnBooks}
use Rattle.protocol_laws.proofs.BooksEvents.{books}
use Rattle.protocol_laws.proofs.EveryRun.{every_views_run}
use Rattle.protocol_laws.proofs.SaidAlways.{always_said}
use Rattle.view_laws.proofs.Followed.{every_run_follows}
use Rattle.world.specs.Runs.{Run, world_of, all_events}
use Rattle.world.specs.Shown.{IsNumbered, IsReachedBy}
use Rattle.world.specs.Walks.{BeginsAgree}
use Rattle.world.proofs.CallNumbers.{NumbersSay, AreOfBricks, KnowsCalls, numbers_say, of_bricks, knows_calls, next_unnumbered}
use Rattle.world.proofs.KeptOperations.{begins_from_books}
use Rattle.world.proofs.RunLemmas.{numbered_from_books}

-- its books are kept
books_of : (r : Run) → Books (coding r.layout) (world_of r)
books_of r = books (coding r.layout) (all_events r.steps)

-- each open call knows its number
pub numbered : (r : Run) → IsNumbered (world_of r)
numbered r = numbered_from_books (coding r.layout) (world_of r) (books_of r)

-- so of any world that a schedule reaches
pub reached_books : (layout : Layout) (w : World) → IsReachedBy layout w → Books (coding layout) w
reached_books layout w (events, is) = subst (λ (v : World). Books (coding layout) v) (sym is) (books (coding layout) events)

-- an open operation is of a group of the layout, of as many data blocks
pub reached_group : (layout : Layout) (w : World) (i k : ℕ) (c : Coordinator) → IsSound (coding layout) → IsReachedBy layout w
    → (w.nodes i).calls k ≡ Some c → (group : Group) × (group_of layout c.call.group.0 ≡ Some group) × (c.group.m ≡ group.m)
reached_group layout w i k c sound (events, is) call =
    let v : World = run (coding layout) events (first_world layout) in
    let views : Views = views_in layout v.packets in
    let said = always_said (coding layout) views events sound (every_run_follows (coding layout) events sound) in
    of_layout _ (group_of layout c.call.group.0) (said.1.calls i k c (ap (λ (x : World). (x.nodes i).calls k) (sym is) ∙ call)).group
  where
    of_layout : (members : List BrickId) (found : Option Group) → option_map (kept_by members) found ≡ Some c.group
        → (group : Group) × (found ≡ Some group) × (c.group.m ≡ group.m)
    of_layout members None none = absurd (let never : None ≡ Some c.group = none in cc)
    of_layout members (Some group) same = (group, refl, sym (ap (λ (g : Group). g.m) (same_Some (kept_by members group) c.group same)))

pub reached_numbered : (layout : Layout) (w : World) → IsReachedBy layout w → IsNumbered w
reached_numbered layout w reached = numbered_from_books (coding layout) w (reached_books layout w reached)

pub reached_knows : (layout : Layout) (w : World) → IsReachedBy layout w → KnowsCalls w
reached_knows layout w reached = knows_calls (coding layout) w (reached_books layout w reached)

pub reached_numbers : (layout : Layout) (w : World) → IsReachedBy layout w → NumbersSay w
reached_numbers layout w (events, is) = subst NumbersSay (sym is) (numbers_say layout events)

-- no read of a brick's own is an operation that has marks: neither one of its synchronisation nor its scrub
pub record OwnReadsUnmarked (w : World) : Type 0 where
  pub jobs : (i : ℕ) (job : Job) → (w.nodes i).job ≡ Some job → (o : Operation) → w.operations (number_of w i job.seq) ≡ Some o → o.mark ≡ 0
  pub scrubs : (i : ℕ) (scrub : Scrub) → (w.nodes i).scrub ≡ Some scrub → (o : Operation) → w.operations (number_of w i scrub.seq) ≡ Some o → o.mark ≡ 0

own_unmarked : (w : World) (i k : ℕ) → OwnBooks w i k → (o : Operation) → w.operations (number_of w i k) ≡ Some o → o.mark ≡ 0
own_unmarked w i k own o at = ap (λ (x : Operation). x.mark) (same_Some o own.operation (sym at ∙ own.operation_is)) ∙ own.mark

pub reached_unmarked : (layout : Layout) (w : World) → IsReachedBy layout w → OwnReadsUnmarked w
reached_unmarked layout w reached = record {
  jobs = λ i job is. own_unmarked w i job.seq ((reached_books layout w reached).jobs i job is).own;
  scrubs = λ i scrub is.
      own_unmarked w i scrub.seq
      ((reached_books layout w reached).scrubs i scrub.seq (ap (option_map (λ (x : Scrub). x.seq)) is));
}

pub reached_bricks : (layout : Layout) (w : World) → IsReachedBy layout w → AreOfBricks layout w
reached_bricks layout w (events, is) = subst (AreOfBricks layout) (sym is) (of_bricks layout events)

-- a brick's next call is that of no operation yet
pub reached_next : (layout : Layout) (w : World) → IsReachedBy layout w → (i : ℕ) → number_of w i ((w.nodes i).seq + 1) ≡ 0
reached_next layout w reached = next_unnumbered w (reached_numbers layout w reached) (reached_knows layout w reached)

-- each operation begins where the marks of its stripe say
pub begins_agree : (r : Run) → BeginsAgree (world_of r)
begins_agree r = begins_from_books (coding r.layout) (world_of r) (books_of r)

-- the laws of the disk hold
pub laws_of : (r : Run) → IsSound (coding r.layout) → Laws (coding r.layout) (views_in r.layout (world_of r).packets) (world_of r)
laws_of r sound = every_views_run (coding r.layout) (all_events r.steps) sound
