-- What further steps leave follows what the first ones left, since both are worlds of one run.
use Rattle.view_laws.specs.Following.{RunFollows}
use Rattle.view_laws.specs.Successors.{ChoicesHoldIn, StaysClosed}
use Rattle.view_laws.proofs.Closed.{closed_stays}
use Rattle.view_laws.proofs.Followed.{every_run_follows}
use Rattle.view_laws.proofs.Held.{choices_hold}
use Rattle.std.proofs.Common.{◌≡◌, List, [], ◌∷◌, ◌++◌, refl, sym, ap, ◌∙◌, subst, append_assoc}
use Rattle.stripe_code.specs.Codes.{coding}
use Rattle.fab_base.specs.Layouts.{Layout}
use Rattle.protocol.specs.Settings.{IsSound}
use Rattle.protocol.specs.Views.{views_in}
use Rattle.protocol.specs.Worlds.{World, Event, first_world, run}
use Rattle.protocol_laws.proofs.ViewLaws.{never_lowers, never_surfaces}
use Rattle.world.specs.Runs.{Step, all_events}
use Rattle.protocol.proofs.Events.{run-append}
use Rattle.replay.specs.Histories.{Succeeds}
use Rattle.printed.specs.Outputs.{left_by}

-- the events of steps, and then of further ones
all_events-both : (steps more : List Step) → all_events (steps ++ more) ≡ all_events steps ++ all_events more
all_events-both [] more = refl
all_events-both (step ∷ steps) more =
    ap (λ (events : List Event). step.events ++ events) (all_events-both steps more) ∙ sym (append_assoc step.events (all_events steps) (all_events more))

-- what further events leave follows what the first ones left
follows_events : (layout : Layout) → IsSound (coding layout) → (events more : List Event)
    → (let w = run (coding layout) events (first_world layout) in Succeeds layout w (run (coding layout) more w))
follows_events layout sound events more =
    let lowers = never_lowers (coding layout) events more in
    let w : World = run (coding layout) events (first_world layout) in
    let same : run (coding layout) (events ++ more) (first_world layout) ≡ run (coding layout) more w = run-append (coding layout) (first_world layout) events more in
    record {
      never_falls = lowers.tops;
      adds_nothing_below = lowers.adds;
      orders_rise = lowers.orders;
      never_surfaces = λ g s group v here lost held.
          never_surfaces (coding layout) (views_in layout (run (coding layout) more w).packets) events more g s group v sound
          (subst (λ (x : World). RunFollows (coding layout) (views_in layout x.packets) (events ++ more)) same
          (every_run_follows (coding layout) (events ++ more) sound)) here lost held;
      choices_hold = subst (λ (x : World). ChoicesHoldIn w x) same (choices_hold (coding layout) events more sound);
      stays_closed = subst (λ (x : World). StaysClosed layout w x) same (closed_stays (coding layout) events more sound);
    }

-- what further steps leave follows what the first ones left
pub follows_steps : (layout : Layout) → IsSound (coding layout) → (steps more : List Step)
    → Succeeds layout (left_by layout steps) (left_by layout (steps ++ more))
follows_steps layout sound steps more =
    subst (λ (w : World). Succeeds layout (left_by layout steps) w)
    (sym (ap (λ (events : List Event). run (coding layout) events (first_world layout)) (all_events-both steps more)
    ∙ run-append (coding layout) (first_world layout) (all_events steps) (all_events more)))
    (follows_events layout sound (all_events steps) (all_events more))
