-- The deliveries of an operation that runs alone take one state to another.
use Rattle.std.proofs.Common.{◌≡◌, ℕ, ◌+◌, Bool, true, false, List, [], ◌∷◌, ◌++◌, map, Option, Some, None, refl, sym, ap, ◌∙◌, subst}
use Rattle.std.specs.Prelude.{if◌then◌else◌}
use Rattle.fab_base.specs.Layouts.{Layout}
use Rattle.layout.specs.Limits.{IsLayout}
use Rattle.lines.specs.declared.forms.Line.TheVariants.{Deliver, Calm}
use Rattle.messages.specs.declared.packets.Packet.{Packet}
use Rattle.stripe_code.specs.Codes.{coding}
use Rattle.protocol.specs.Calms.{IsCalm, operation_marked}
use Rattle.protocol.specs.Worlds.{World, Event, Delivers}
use Rattle.world.specs.Deliveries.{FindsLeft}
use Rattle.world.specs.Noted.{IsSameHistory}
use Rattle.world.specs.Runs.{Course, brick_of, with_events}
use Rattle.world.specs.Shown.{BeginsAloneTo, ComesTo, DeliversAlone, GoesOn, HasBegun, HasMarks, HasRun, MayRun, OpensAs, RunsAloneTo, Shows, Stands, StaysAs, StopsShort, disks_of, number_at, open_record, world_in}
use Rattle.world.specs.declared.histories.History.{History}
use Rattle.world.specs.declared.histories.OperationRecord.{OperationRecord}
use Rattle.world.specs.declared.simulations.Outcome.TheVariants.{Marks, Idle}
use Rattle.world.specs.declared.simulations.Simulation.{Simulation}
use Rattle.world.proofs.CalmEnds.{run_comes, begun_refused}
use Rattle.world.proofs.CalmLoops.{SoFar, come_so, goes_on, has_begun, has_ended, has_stuck, none_yet, one_delivery}
use Rattle.world.proofs.DeliveryLemmas.{idle_comes}
use Rattle.world.proofs.HavingMarks.{marked_has}
use Rattle.world.proofs.KeptNumbers.{none_told}
use Rattle.world.proofs.OpenRecords.{opens_as}
use Rattle.world.proofs.SimulationLemmas.{come_to, shows_alike, with_both, with_more}

-- So many were made from one state to another.
abbrev pub RanSoFar : Layout → Simulation → Simulation → ℕ → List ℕ → ℕ → Bool → Type 0
RanSoFar layout old state n numbers from some =
    (events : List Event) × SoFar layout (world_in layout old) n numbers (disks_of old.bricks.items) state from some events
    × (state.trail.course ≡ with_events old.trail.course events)

-- none at first
pub none_so : (layout : Layout) (old : Simulation) (n : ℕ) (numbers : List ℕ) → MayRun layout old n numbers → RanSoFar layout old old n numbers 0 false
none_so layout old n numbers may = (
  [],
  none_yet layout (world_in layout old) n numbers old (come_to layout old) may.stands may.marked,
  sym (with_more old.trail.course),
)

module _ (layout : Layout) (old state : Simulation) (n : ℕ) (numbers : List ℕ) (from : ℕ) (some : Bool) (may : MayRun layout old n numbers)
    (ran : RanSoFar layout old state n numbers from some) where
  -- their events, and what is so of them
  abbrev events : List Event
  events = ran.0

  abbrev so : SoFar layout (world_in layout old) n numbers (disks_of old.bricks.items) state from some events
  so = ran.1

  -- the world behind them is the one that the state has come to, and the state stands
  here : so.last ≡ world_in layout state
  here = come_so layout old state n numbers (disks_of old.bricks.items) from some events so ran.2

  pub stands_so : Stands layout state
  stands_so = subst (λ (v : World). Shows layout state v) here so.shows

  -- what is found of the operation is so of that world
  opens : (found : Option OperationRecord) → found ≡ open_record state n → OpensAs state so.last n found
  opens found is = opens_as layout so.last state n found is so.reached so.shows

  -- the operation has ended
  pub ended_so : None ≡ open_record state n → RunsAloneTo layout old state n numbers some
  ended_so is = (
    events,
    has_ended layout (world_in layout old) n numbers (disks_of old.bricks.items) state from some events may.calm so (opens None is),
    ran.2,
  )

  -- or none of its messages is left
  pub stuck_so : (kept : OperationRecord) → Some kept ≡ open_record state n
      → FindsLeft state.history.delivered.reached.items kept numbers from state.history.sent.packets.items None
      → RunsAloneTo layout old state n numbers some
  stuck_so kept is none = (
    events,
    has_stuck layout (world_in layout old) n numbers (disks_of old.bricks.items) state from some events may.calm so kept (opens (Some kept) is)
        (subst (λ (sent : List Packet). FindsLeft state.history.delivered.reached.items kept numbers from sent None) so.shows.history.packets none),
    ran.2,
  )

  -- or no memory was left to deliver one
  pub begun_so : (next : Simulation) → StaysAs layout state next → BeginsAloneTo layout old next n numbers
  begun_so next stays = (
    events,
    has_begun layout (world_in layout old) n numbers (disks_of old.bricks.items) state from some events may.calm so next
        (subst (λ (v : World). Shows layout next v) (sym here) stays.shows) stays.contents,
    ap (λ trail. trail.course) stays.trail ∙ ran.2,
  )

  -- or one was delivered
  pub more_so : (kept : OperationRecord) (place : ℕ) (next : Simulation) → Some kept ≡ open_record state n
      → FindsLeft state.history.delivered.reached.items kept numbers from state.history.sent.packets.items (Some place)
      → DeliversAlone layout state next (place + 1) → RanSoFar layout old next n numbers (place + 1) true
  more_so kept place next is found (outcome, (more, comes, after)) =
      let event : Event = Delivers (place + 1) in
      let one : more ≡ event ∷ [] = one_delivery layout _ _ _ (place + 1) outcome more comes in (
        events ++ event ∷ [],
        goes_on layout (world_in layout old) n numbers (disks_of old.bricks.items) state from some events may.calm so kept (opens (Some kept) is) place next
            outcome
            (subst (λ (sent : List Packet). FindsLeft state.history.delivered.reached.items kept numbers from sent (Some place)) so.shows.history.packets
            found)
            (subst (λ (v : World). ComesTo layout v (disks_of state.bricks.items) next (Deliver (place + 1) None) outcome (event ∷ [])) (sym here)
            (subst (λ (l : List Event). ComesTo layout (world_in layout state) (disks_of state.bricks.items) next (Deliver (place + 1) None) outcome l) one
            comes)),
        after ∙ ap (λ (l : List Event). with_events state.trail.course l) one ∙ ap (λ (x : Course). with_events x (event ∷ [])) ran.2
            ∙ with_both old.trail.course events (event ∷ []),
      )

-- The operation whose marks have a number runs alone. Chaining what was sent leaves what the history tells.
module _ (layout : Layout) (old : Simulation) (history : History) (same : IsSameHistory old.history history) (stands : Stands layout old) (mark : ℕ)
    (numbers : List ℕ) (n : ℕ) (number : n ≡ number_at history.marked.items mark) where
  -- the state with the messages chained: it stands as before
  abbrev chained : Simulation
  chained = record old { history = history }

  pub chained_stands : Stands layout chained
  chained_stands = shows_alike layout old chained (world_in layout old) refl same stands

  -- the number that was found is the machine's
  its_number : n ≡ operation_marked (world_in layout old) mark
  its_number = number ∙ chained_stands.history.marked.each mark

  -- so the operation may run alone that has the marks
  calm_marked : IsCalm (coding layout) (world_in layout old) n (map brick_of numbers)
      → IsCalm (coding layout) (world_in layout old) (operation_marked (world_in layout old) mark) (map brick_of numbers)
  calm_marked calm = subst (λ (k : ℕ). IsCalm (coding layout) (world_in layout old) k (map brick_of numbers)) its_number calm

  -- it may not
  pub chained_idle : (decided : Bool) → (IsCalm (coding layout) (world_in layout old) n (map brick_of numbers) → decided ≡ true) → decided ≡ false
      → GoesOn layout old chained (Calm mark numbers) Idle
  chained_idle decided on off = (
    [],
    idle_comes layout (world_in layout old) chained mark numbers
        (λ calm. absurd (let never : true ≡ false =
        sym (on (subst (λ (k : ℕ). IsCalm (coding layout) (world_in layout old) k (map brick_of numbers)) (sym its_number) calm)) ∙ off in cc)) chained_stands,
    sym (with_more old.trail.course),
  )

  -- it may
  pub chained_may : IsCalm (coding layout) (world_in layout old) n (map brick_of numbers) → MayRun layout chained n numbers
  chained_may calm = record {
    stands = chained_stands;
    calm = calm;
    marked = subst (HasMarks (world_in layout old)) (sym its_number)
        (marked_has (world_in layout old) mark (none_told history.operations.items (world_in layout old).operations chained_stands.history.operations));
  }

  -- and it did
  pub chained_run : (new : Simulation) (found some : Bool) → IsLayout layout → IsCalm (coding layout) (world_in layout old) n (map brick_of numbers)
      → found ≡ some → RunsAloneTo layout chained new n numbers found → GoesOn layout old new (Calm mark numbers) (if some then Marks else Idle)
  chained_run new found some is calm decided (events, has, course) = (
    events,
    run_comes layout is (world_in layout old) mark numbers (disks_of old.bricks.items) new some (come_to layout old) (calm_marked calm) events
        (subst (λ (b : Bool). HasRun layout (world_in layout old) (operation_marked (world_in layout old) mark) (map brick_of numbers)
        (disks_of old.bricks.items) new b events) decided
        (subst (λ (k : ℕ). HasRun layout (world_in layout old) k (map brick_of numbers) (disks_of old.bricks.items) new found events) its_number has)),
    course,
  )

  -- or no memory was left for the rest
  pub chained_cut : (new : Simulation) → IsCalm (coding layout) (world_in layout old) n (map brick_of numbers)
      → BeginsAloneTo layout chained new n numbers → StopsShort layout old new (Calm mark numbers)
  chained_cut new calm (events, has, course) = (
    events,
    begun_refused layout (world_in layout old) (disks_of old.bricks.items) new mark numbers (calm_marked calm) events
        (subst (λ (k : ℕ). HasBegun layout (world_in layout old) k (map brick_of numbers) (disks_of old.bricks.items) new events) its_number has),
    course,
  )
