-- The synchronisation of the learnt view begins.
use Rattle.std.proofs.Common.{◌≡◌, refl, sym, ◌∙◌, ap, subst}
use Rattle.protocol.specs.Jobs.{begun_job}
use Rattle.protocol.specs.Nodes.{Node, NodeStep, synced_at}
use Rattle.stripe_code.specs.Codes.{coding}
use Rattle.node.specs.declared.call_sources.CallSource.{CallSource}
use Rattle.node.specs.declared.outs.Tellings.{Tellings}
use Rattle.node.specs.Jobs.{FollowsFrom, MakesFrom, begins_sync, followed_step, reading_in, then_told, with_reading}
use Rattle.node.specs.Scrubs.{scrubbing_in, with_scrubbing}
use Rattle.node.specs.States.{StepsAs, state_in, state_with}
use Rattle.node.specs.Tasks.{tasks_in}
use Rattle.node.proofs.ScrubCalls.{aside_next}
use Rattle.node.proofs.TakenUp.{synced_so}
use Rattle.node.proofs.Turning.{alone}
use Rattle.node.proofs.tasks.Tasks.sync.Goals as goal

pub take_up-requires-clause-from : goal.take_up-requires-clause-from
take_up-requires-clause-from c = (
  c.args.layout.now,
  subst (λ (at : CallSource). FollowsFrom c.args.layout.now at.seq c.args.group c.in_ok-next.next) c.source-at.ensures c.in_ok-next.ensures.from,
)

pub take_up-requires-clause-apart : goal.take_up-requires-clause-apart
take_up-requires-clause-apart c =
    aside_next c.args.layout.now c.args.self.now.work.calls c.args.self.now.job c.args.self.now.scrub c.requires.of.scrub_is

pub returns-clause-step : goal.returns-clause-step
unfolding state_with
returns-clause-step c = λ parts learns.
    let tasks = c.args.self.now in
    let layout = c.args.layout.now in
    let group = c.args.group in
    let view = c.args.view in
    let me = tasks.work.calls.me in
    let node : Node = with_scrubbing (scrubbing_in tasks.scrub) (state_in parts tasks.work) in
    let next = c.in_ok-next.next in
    let begins = subst (λ (at : CallSource). MakesFrom at node → begins_sync layout at.me at.now node (begun_job group view) c.args.synced
    ≡ followed_step at.me group node next) c.source-at.ensures (λ makes. c.in_ok-next.ensures.step node makes refl) in
    let is : synced_at (coding layout) me c.args.now (tasks_in parts tasks) group ≡ then_told c.nothing.result (followed_step me group node next) =
    (λ i. synced_at (coding layout) me c.args.now (with_scrubbing (scrubbing_in tasks.scrub) (with_reading (reading_in (c.requires.idle i)) (state_in parts tasks.work))) group)
    ∙ synced_so layout me c.args.now node group view c.args.synced learns
    ∙ begins (record { boot = refl; seq = refl; known = refl })
    ∙ ap (λ (told : Tellings). then_told told (followed_step me group node next)) (sym c.nothing.ensures) in
    subst (λ (step : NodeStep). StepsAs me (tasks_in parts c.take_up.new.self) step c.take_up.result) (sym is) (c.take_up.ensures.step parts)

pub returns-clause-same : goal.returns-clause-same
returns-clause-same c =
    let same = c.take_up.ensures.same c.args.layout.now
    (subst (λ (at : CallSource). FollowsFrom c.args.layout.now at.seq c.args.group c.in_ok-next.next) c.source-at.ensures c.in_ok-next.ensures.from) in
    record {
      me = same.me;
      boot = same.boot;
      of = λ of. same.of (record {
        work_is = of.work_is;
        job_is = tt;
        scrub_is = alone c.args.layout.now c.args.self.now.work.calls c.args.self.now.job c.args.self.now.scrub of.scrub_is;
      });
    }
