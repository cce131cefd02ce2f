-- Every run has numbers that are operations', and fresh operations where no message reached.
use Rattle.protocol_laws.proofs.BooksEvents.{BeginFits, books, begin_fits, group_there, fits_at}
use Rattle.std.proofs.Common.{ltb-true, nat_lt, ◌&&◌, ◌≡◌, not, List, Option, Some, None, refl, sym, subst, arith, is_some, true, false, length, ◌+◌}
use Rattle.std.proofs.lemmas.Bool.{and_parts, not-true}
use Rattle.fab_base.specs.Layouts.{Group}
use Rattle.protocol.specs.Settings.{Setting}
use Rattle.protocol.specs.Nodes.{NodeStep, put, invoked, began, began_in, new_coordinator, may_open, refusal_of, sync_refusal, top_at, view_at, scrub_refusal}
use Rattle.protocol.specs.Worlds.{World, Event, Operation, first_world, may_begin, world_began, is_brick, is_up, run}
use Rattle.protocol_laws.proofs.Books.{Books}
use Rattle.calm_laws.proofs.Fresh.{IsNumbered, AreFresh, AreAlike, fresh_on, numbered_alike, fresh_alike}
use Rattle.view_laws.proofs.CallSteps.{Calls, always_calls}
use Rattle.calm_laws.proofs.FreshDelivered.{now_made, delivered_kept, proposed_numbered, proposed_fresh, synced_kept, scrubbed_kept}
use Rattle.calm_laws.proofs.FreshTicked.{ticked_numbered, ticked_fresh}
use Rattle.calm_laws.proofs.FreshBegun.{world_begun, began_numbered, began_fresh}
use Rattle.calm_laws.proofs.FreshStopped.{stopped_numbered, stopped_fresh, started_numbered, started_fresh}
use Rattle.protocol.proofs.Events.{EventCases, always_where}
use Rattle.fab_base.specs.declared.asks.Ask.{Ask}
use Rattle.fab_base.specs.declared.identities.BrickId.{BrickId}

-- the numbers are operations', and fresh operations are so
abbrev IsFresh : Setting → World → Type 0
IsFresh setting w = IsNumbered w × AreFresh setting w

-- a brick begins an operation of this group
module _ (setting : Setting) (w : World) (books : Books setting w) (calls : Calls w) (holds : IsFresh setting w) (brick : BrickId) (ask : Ask)
    (may : may_begin setting w brick ask ≡ true) where
  up : is_up setting.layout w brick ≡ true
  up = (and_parts (is_up setting.layout w brick) (not (is_some (refusal_of setting.layout (w.nodes brick.0) ask))) may).0

  there : is_brick setting.layout brick ≡ true
  there = (and_parts (is_brick setting.layout brick) (w.up brick.0) up).0

  module _ (group : Group) where
    abbrev step : NodeStep
    step = began_in setting brick (w.nodes brick.0) (new_coordinator group brick (w.clocks brick.0) (w.nodes brick.0) ask)

    abbrev next : World
    next = world_began w brick ask step

    -- the operation, as the world has it
    abbrev operation : Operation
    operation = record {
      brick = brick;
      boot = step.node.boot;
      seq = step.node.seq;
      begin = length w.marks;
      ask = ask;
      version = None;
      made = false;
      base = None;
      answered = false;
      mark = w.marked + 1;
      closed = None;
      view = view_at (w.nodes brick.0) ask.group.0;
      floor = λ i. top_at (w.nodes i) ask.group.0 ask.stripe.0;
    }

    abbrev begun : World
    begun =
        world_begun setting w brick (w.nodes brick.0) (new_coordinator group brick (w.clocks brick.0) (w.nodes brick.0) ask) ((w.nodes brick.0).busy + 1)
        (w.nodes brick.0).job (w.nodes brick.0).scrub operation

    alike : AreAlike begun next
    alike = record { nodes = refl; packets = refl; operations = refl; numbers = refl; up = refl; reached = refl }

    begun_kept : IsFresh setting next
    begun_kept = (
      numbered_alike begun next alike
          (began_numbered setting w (now_made setting w books calls holds.0 holds.1) holds.0 holds.1 brick there group
          ((w.nodes brick.0).learnt ask.group.0).view None (w.clocks brick.0) ask ((w.nodes brick.0).busy + 1) (w.nodes brick.0).job (w.nodes brick.0).scrub
          operation),
      fresh_alike setting begun next alike
          (began_fresh setting w (now_made setting w books calls holds.0 holds.1) holds.0 holds.1 brick there group
          ((w.nodes brick.0).learnt ask.group.0).view None (w.clocks brick.0) ask ((w.nodes brick.0).busy + 1) (w.nodes brick.0).job (w.nodes brick.0).scrub
          operation),
    )

  -- a beginning keeps both
  invoked_kept : IsFresh setting (world_began w brick ask (invoked setting brick (w.clocks brick.0) (w.nodes brick.0) ask))
  unfolding invoked
  invoked_kept =
      let fits : BeginFits setting ask = begin_fits setting w brick ask may in
      subst (λ (found : Option Group). IsFresh setting (world_began w brick ask (began setting brick (w.clocks brick.0) (w.nodes brick.0) ask found)))
      (sym (fits_at setting (w.nodes brick.0) ask fits)) (begun_kept (group_there (w.nodes brick.0) ask fits.group))

-- every event keeps both
fresh_cases : (setting : Setting) (w : World) → Books setting w × Calls w → IsFresh setting w → EventCases setting w (IsFresh setting)
fresh_cases setting w known holds = record {
  begins = λ brick ask may. invoked_kept setting w known.0 known.1 holds brick ask may;
  proposes = λ brick group members may. (
    proposed_numbered setting w known.0 known.1 holds.0 holds.1 brick group members,
    proposed_fresh setting w known.0 known.1 holds.0 holds.1 brick group members,
  );
  syncs = λ brick group may.
      synced_kept setting w known.0 known.1 holds.0 holds.1 brick
      (and_parts (is_brick setting.layout brick) (w.up brick.0)
      (and_parts (is_up setting.layout w brick) (not (is_some (sync_refusal setting.layout (w.nodes brick.0) group.0))) may).0).0 group;
  scrubs = λ brick group stripe members may.
      scrubbed_kept setting w known.0 known.1 holds.0 holds.1 brick
      (and_parts (is_brick setting.layout brick) (w.up brick.0)
      (and_parts (is_up setting.layout w brick) (not (is_some (scrub_refusal setting.layout (w.nodes brick.0) group stripe members))) may).0).0 group stripe
      members;
  handles = λ number packet at up. delivered_kept setting w known.0 known.1 holds.0 holds.1 number packet at up;
  sets = λ brick time is. (
    record { numbers = holds.0.numbers; drafts = holds.0.drafts; packets = holds.0.packets; reached = holds.0.reached },
    (λ n c opens untouched. fresh_on setting w (record w { clocks = put w.clocks brick.0 time }) n c refl (holds.1 n c opens untouched)),
  );
  ticks = λ brick up. (ticked_numbered setting w known.0 known.1 holds.0 holds.1 brick, ticked_fresh setting w known.0 known.1 holds.0 holds.1 brick);
  stops = λ brick during up. (
    stopped_numbered setting w known.0 known.1 holds.0 holds.1 brick during,
    stopped_fresh setting w known.0 known.1 holds.0 holds.1 brick during,
  );
  starts = λ brick openings found may.
      let parts = and_parts _ (not (w.up brick.0) && may_open openings (w.nodes brick.0)) may in
      let down = and_parts (not (w.up brick.0)) (may_open openings (w.nodes brick.0)) parts.1 in
      let some = (and_parts (nat_lt 0 openings) _ down.1).0 in (
        started_numbered setting w known.0 known.1 holds.0 holds.1 brick openings found (ltb-true 0 openings some) (not-true (w.up brick.0) down.0),
        started_fresh setting w known.0 known.1 holds.0 holds.1 brick openings found,
      );
}

-- every run has numbers that are operations', and fresh operations where no message reached
pub always_fresh : (setting : Setting) (events : List Event)
    → (let w = run setting events (first_world setting.layout) in IsNumbered w × AreFresh setting w)
always_fresh setting =
    always_where (IsFresh setting) (λ w. Books setting w × Calls w) setting (λ events. (books setting events, always_calls setting events)) (
      record {
        numbers = λ j b k some. absurd (omega (arith, some));
        drafts = λ i p is. let never : None ≡ Some p = is in cc;
        packets = λ k packet at. let never : ⊥ = cc in absurd never;
        reached = λ k beyond. refl;
      },
      (λ n c opens untouched. let never : None ≡ Some c = opens in cc),
    ) (fresh_cases setting)
