-- The brick of the number scrubs as the machine's does.
use Rattle.std.proofs.Common.{◌≡◌, ◌≤◌, true, false, List, ◌∙◌, sym, subst}
use Rattle.std.proofs.lemmas.Result.{IfOk-weaker}
use Rattle.node.specs.Outcomes.{Outcome}
use Rattle.node.specs.Running.{state_of}
use Rattle.protocol.specs.declared.tellings.Told.{Told}
use Rattle.stripe_code.specs.Codes.{coding}
use Rattle.world.specs.Shown.{reads_begun}
use Rattle.world.proofs.MachineSteps.{scrubbed_opens_reads}
use Rattle.world.specs.BrickSteps.{DoesScrub}
use Rattle.world.proofs.BrickListLemmas.{on_at, asked}
use Rattle.world.proofs.bricks.ask_to_scrub.Goals as goal

pub unreachable-requires : goal.unreachable-requires
unreachable-requires c =
    on_at c.args.bricks.now.items c.args.number c.index_mut-brick.result.now _ c.index_mut-brick.ensures.value c.in-Down.is c.requires

pub returns-clause-asks : goal.returns-clause-asks
returns-clause-asks c =
    asked c.args.bricks.now.items c.args.number c.index_mut-brick.result.now c.in-Up.node c.scrub.new.self (DoesScrub c.args.group c.args.stripe c.args.members.now c.scrub.result)
    c.requires.within c.index_mut-brick.ensures.value c.in-Up.is c.scrub.ensures.same c.scrub.ensures.brick
    (record { refused = c.scrub.ensures.refused; steps = c.scrub.ensures.step; stays = c.scrub.ensures.err })

pub returns-clause-not_halted : goal.returns-clause-not_halted
returns-clause-not_halted c = λ halted.
    let on =
    on_at c.args.bricks.now.items c.args.number c.index_mut-brick.result.now _ c.index_mut-brick.ensures.value c.in-Up.is c.requires
    in
    let never : true ≡ false = sym (c.scrub.ensures.only_halted halted) ∙ on.runs in
    cc

pub returns-clause-reads : goal.returns-clause-reads
returns-clause-reads c =
    IfOk-weaker c.scrub.result _ (λ (outs : Outcome). reads_begun outs.told ≤ 1)
    (λ outs steps. subst (λ (l : List Told). reads_begun l ≤ 1) (sym steps.told)
    (scrubbed_opens_reads (coding c.in-Up.node.layout) c.in-Up.node.me c.index_mut-brick.result.now.clock (state_of c.in-Up.node) c.args.group c.args.stripe
    c.args.members.now).few)
    c.scrub.ensures.step
