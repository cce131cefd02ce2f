-- The turns so far, and how they end.
use Rattle.std.proofs.Common.{◌≡◌, ℕ, Ok, Err, Result, refl, ap, ◌∙◌, subst, arith}
use Rattle.std.proofs.lemmas.Result.{err_from_is_err_and}
use Rattle.fab_base.specs.declared.identities.BrickId.{BrickId}
use Rattle.fab_base.proofs.Keeping.{Kept-refl, Kept-trans, Kept-calm, Kept-narrower}
use Rattle.protocol.specs.Settings.{Setting}
use Rattle.stripe_code.specs.Codes.{coding}
use Rattle.node.specs.Running.{state_of}
use Rattle.serving.specs.declared.faults.ServeFault.{ServeFault}
use Rattle.serving.specs.declared.faults.ServeFault.TheVariants.{Disk, Link, Clock}
use Rattle.serving.specs.Serves.{outside, TakesTurn, IsServed}
use Rattle.serving.specs.Servings.{begun}
use Rattle.serving.specs.Views.{serving_of}
use Rattle.serving.proofs.Ends.{at_exit, was_met}
use Rattle.serving.proofs.Runs.{same_disk, HasServed-none, HasServed-more, fresh_begun, served_all, served_stop}
use Rattle.serving.proofs.turns.take_turns.Goals as goal

pub loop-turn-init : goal.loop-turn-init
loop-turn-init g c =
    let node = c.args.node.now in
    record {
      has = HasServed-none (coding node.layout) node.me (begun (state_of node)) (serving_of c.args.server node)
          (outside (g.L.Link.waiting c.args.link.now) (g.L.Link.sent c.args.link.now) (g.C.Clock.coming c.args.clock.now)) c.requires.begins;
      few = omega arith;
      fresh = fresh_begun (state_of node) (serving_of c.args.server node) c.requires.begins;
      server = c.requires.server;
      same = record { layout = refl; me = refl };
      runs = c.requires.runs;
      disk = Kept-refl _ _;
      link = Kept-refl _ _;
      clock = Kept-refl _ _;
    }

pub loop-turn-preserved : goal.loop-turn-preserved
loop-turn-preserved g c =
    let node = c.args.node.now in
    let inv = c.loop-turn.invariant in
    let said = c.in_ok-malformed.ensures in
    let from = serving_of c.loop-turn.server c.loop-turn.node in
    let to = serving_of c.take_turn.new.self c.take_turn.new.node in
    let before = outside (g.L.Link.waiting c.args.link.now) (g.L.Link.sent c.args.link.now) (g.C.Clock.coming c.args.clock.now) in
    let between = outside (g.L.Link.waiting c.loop-turn.link) (g.L.Link.sent c.loop-turn.link) (g.C.Clock.coming c.loop-turn.clock) in
    let after = outside (g.L.Link.waiting c.take_turn.new.link) (g.L.Link.sent c.take_turn.new.link) (g.C.Clock.coming c.take_turn.new.clock) in
    let turn = same_disk (λ (s : Setting) (b : BrickId). TakesTurn s b from to between after (Ok c.in_ok-malformed.field-0)) inv.same.layout inv.same.me said.turn in
    record {
      has = HasServed-more (coding node.layout) node.me (begun (state_of node)) from to before between after c.loop-turn.turn c.loop-turn.malformed
          c.in_ok-malformed.field-0 inv.has turn;
      few = (let few = inv.few in let one = said.few in omega (arith, few, one));
      fresh = said.fresh;
      server = said.server;
      same = record { layout = said.same.layout ∙ inv.same.layout; me = said.same.me ∙ inv.same.me };
      runs = said.runs (λ e. cc);
      disk = Kept-trans inv.disk (Kept-narrower (λ e. absurd e) said.disk);
      link = Kept-trans inv.link (Kept-calm said.link);
      clock = Kept-trans inv.clock (Kept-calm said.clock);
    }

pub returns-in_err-malformed : goal.returns-in_err-malformed
returns-in_err-malformed g c =
    let q = err_from_is_err_and c.from_residual.result c.from_residual.ensures.1 in
    let met = c.in_err-malformed.field-0.0 in
    let node = c.args.node.now in
    let inv = c.loop-turn.invariant in
    let said = c.in_err-malformed.ensures in
    let from = serving_of c.loop-turn.server c.loop-turn.node in
    let to = serving_of c.take_turn.new.self c.take_turn.new.node in
    let before = outside (g.L.Link.waiting c.args.link.now) (g.L.Link.sent c.args.link.now) (g.C.Clock.coming c.args.clock.now) in
    let between = outside (g.L.Link.waiting c.loop-turn.link) (g.L.Link.sent c.loop-turn.link) (g.C.Clock.coming c.loop-turn.clock) in
    let after = outside (g.L.Link.waiting c.take_turn.new.link) (g.L.Link.sent c.take_turn.new.link) (g.C.Clock.coming c.take_turn.new.clock) in
    let stop = same_disk (λ (s : Setting) (b : BrickId). TakesTurn s b from to between after (Err met)) inv.same.layout inv.same.me said.turn in
    let failed : (fault : ServeFault) → c.from_residual.result ≡ Err fault → (let r : Result ℕ ServeFault = Err met in r ≡ Err fault) =
    λ fault e. ap (λ (x : ServeFault). Err x) (was_met c.from_residual.result met fault q.0 q.1 q.2 e) in
    record {
      served = at_exit c.from_residual.result met
          (IsServed (coding node.layout) node.me (state_of node) (state_of c.take_turn.new.node) before after c.args.turns) q.0 q.1 q.2
          (served_stop (coding node.layout) node.me (state_of node) before between after c.loop-turn.turn c.args.turns from to c.loop-turn.malformed met
          inv.has (omega arith) stop);
      same = record { layout = said.same.layout ∙ inv.same.layout; me = said.same.me ∙ inv.same.me };
      runs = λ not. said.runs (λ e. not (q.1 ∙ ap (λ (x : ServeFault). Err x) q.2 ∙ e));
      disk = Kept-trans inv.disk (Kept-narrower (failed Disk) said.disk);
      link = Kept-trans inv.link (Kept-narrower (failed Link) said.link);
      clock = Kept-trans inv.clock (Kept-narrower (failed Clock) said.clock);
    }

pub returns : goal.returns
returns g c =
    let node = c.args.node.now in
    let inv = c.loop-turn.invariant in
    let before = outside (g.L.Link.waiting c.args.link.now) (g.L.Link.sent c.args.link.now) (g.C.Clock.coming c.args.clock.now) in
    let after = outside (g.L.Link.waiting c.loop-turn.link) (g.L.Link.sent c.loop-turn.link) (g.C.Clock.coming c.loop-turn.clock) in
    let all : c.loop-turn.turn ≡ c.args.turns = omega arith in
    record {
      served = subst (λ (n : ℕ). IsServed (coding node.layout) node.me (state_of node) (state_of c.loop-turn.node) before after n (Ok c.loop-turn.malformed)) all
          (served_all (coding node.layout) node.me (state_of node) before after after c.loop-turn.turn 0 (serving_of c.loop-turn.server c.loop-turn.node)
          c.loop-turn.malformed inv.has);
      same = inv.same;
      runs = λ not. inv.runs;
      disk = Kept-narrower (λ e. cc) inv.disk;
      link = Kept-narrower (λ e. cc) inv.link;
      clock = Kept-narrower (λ e. cc) inv.clock;
    }
