-- What was accepted and chosen holds in each later world, and no promise is taken back.
use Rattle.std.proofs.Common.{sym, subst}
use Rattle.protocol.specs.Settings.{Setting}
use Rattle.protocol.specs.Worlds.{World, first_world, run}
use Rattle.protocol.proofs.Events.{run-append}
use Rattle.fab_base.specs.Layouts.{brick_at}
use Rattle.view_laws.specs.Successors.{ChoicesHoldIn, ChoicesHold}
use Rattle.view_laws.proofs.Histories.{view_world, Extends}
use Rattle.view_laws.proofs.Extending.{run_extends}

-- where more is known, it holds
extended_holds : (setting : Setting) (w later : World) → Extends setting.layout (view_world w) (view_world later) → ChoicesHoldIn w later
extended_holds setting w later extends = record {
  accepted = λ brick number view ballot members is. (extends.grows number view).votes brick ballot members is;
  past = λ brick number view ballot is. (extends.grows number view).past brick ballot is;
  barred = λ brick number view ballot members past is. (extends.grows number view).closed brick ballot members past is;
  chosen = λ number view group members chosen. record {
    ballot = chosen.ballot;
    seats = chosen.seats;
    many = chosen.many;
    accepted = λ seat below member. (extends.grows number view).votes (brick_at group seat) chosen.ballot members (chosen.accepted seat below member);
  };
}

-- so it is however a run goes on
pub choices_hold : ChoicesHold
choices_hold setting events more sound =
    let w : World = run setting events (first_world setting.layout) in
    subst (λ (x : World). ChoicesHoldIn w x) (sym (run-append setting (first_world setting.layout) events more))
    (extended_holds setting w (run setting more w) (run_extends setting sound events more))
