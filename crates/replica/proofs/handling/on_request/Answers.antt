-- What a request comes to is the machine's step, by its course.
use Rattle.std.proofs.Common.{◌≡◌, ℕ, true, List, map, sym, ap, subst, ◌∙◌}
use Rattle.messages.specs.declared.replies.Reply.TheVariants.{Old}
use Rattle.version_log.specs.Versions.{Version}
use Rattle.frame_store.specs.declared.shapes.Shape.{Shape}
use Rattle.brick_store.specs.Blocks.{log_at}
use Rattle.protocol.specs.Views.{Learnt}
use Rattle.replica.specs.declared.courses.Course.TheVariants.{Serve, Vote}
use Rattle.replica.specs.Courses.{ServesAs, VotesBy, fits_block}
use Rattle.protocol.specs.Replicas.{newest_of, under}
use Rattle.replica.specs.Parts.{as_version}
use Rattle.replica.specs.Reactions.{place_of}
use Rattle.replica.specs.Handling.{me_of}
use Rattle.replica.proofs.CourseSteps.{serves_of, votes_of, number_learnt, asked_some}
use Rattle.replica.proofs.Messages.{message_refused}
use Rattle.replica.proofs.Stepping.{Takes}
use Rattle.replica.proofs.Decided.{IsDecided, decided, change_decided}
use Rattle.replica.proofs.Requested.{void_kept, told_kept, old_kept, voted_kept, served_kept}
use Rattle.replica.proofs.handling.on_request.Given.{Over}
use Rattle.replica.proofs.handling.on_request.Goals.{In-Serve, In_ok-plan-in-Serve, In-Vote}
use Rattle.replica.proofs.handling.on_request.Goals as goal

pub returns-in-Void : goal.returns-in-Void
returns-in-Void g c =
    void_kept g.D.Disk g.met.D.Disk.only_now c.args.store.now c.requires.runs c.args.layout.now (me_of c.args.store.now) c.args.from c.args.call
    c.args.request.now (sym c.in_ok-course.ensures.course ∙ c.in-Void.is)

pub returns-in-Tell : goal.returns-in-Tell
returns-in-Tell g c =
    told_kept g.D.Disk g.met.D.Disk.only_now c.args.store.now c.requires.runs c.args.layout.now (me_of c.args.store.now) c.args.from c.args.call
    c.args.request.now c.in-Tell.reply (sym c.in_ok-course.ensures.course ∙ c.in-Tell.is)

pub returns-in_ok-found-in-TellOld : goal.returns-in_ok-found-in-TellOld
returns-in_ok-found-in-TellOld g c =
    old_kept g.D.Disk g.met.D.Disk.only_now c.args.store.now c.requires.runs c.args.layout.now (me_of c.args.store.now) c.args.from c.args.call
    c.args.request.now c.in-TellOld.bound (sym c.in_ok-course.ensures.course ∙ c.in-TellOld.is) (Old c.in_ok-found-in-TellOld.found)
    (ap Old (c.in_ok-found-in-TellOld.ensures
    ∙ ap (λ (log : List Version). newest_of (under c.in-TellOld.bound (map as_version log))) (c.state-part.ensures.log
    ∙ ap (λ (x : Shape). log_at x.block c.args.store.now.state (place_of c.args.call)) c.requires.shape)))

pub returns-in_err-course : goal.returns-in_err-course
returns-in_err-course g c =
    message_refused g.D.Disk g.met.D.Disk.only_now c.args.store.now c.requires.runs c.args.layout.now (me_of c.args.store.now) c.args.from _
    c.from_residual.result c.from_residual.ensures.1

-- ---- as a member

-- the request is served by a member
takes_serve : (g : Over) (c : In-Serve g)
    → Takes c.args.layout.now (me_of c.args.store.now) c.args.from c.args.call c.args.request.now c.args.store.now.state (Serve c.in-Serve.member)
takes_serve g c = sym c.in_ok-course.ensures.course ∙ c.in-Serve.is

-- which the store may have do so
serves_so : (g : Over) (c : In-Serve g) → ServesAs c.args.layout.now c.args.store.now.state c.args.call c.args.request.now c.in-Serve.member
serves_so g c =
    serves_of c.args.layout.now (me_of c.args.store.now) c.args.store.now.state c.args.call c.in-Serve.member c.args.request.now (takes_serve g c)

-- what it decides is the step of the machine's member
decided_so : (g : Over) (c : In_ok-plan-in-Serve g) → c.in-Serve.member.block ≡ c.args.layout.now.block
    → IsDecided c.args.store.now c.args.layout.now c.args.call c.args.request.now c.in-Serve.member.m c.in-Serve.member.seat c.in_ok-plan-in-Serve.plan
decided_so g c block =
    decided c.args.store.now c.args.layout.now c.args.call c.args.request.now c.in-Serve.member.m c.in-Serve.member.seat c.in-Serve.member.block
    c.state-part-in-Serve.result c.in_ok-plan-in-Serve.plan c.requires.shape block c.state-part-in-Serve.ensures.order c.state-part-in-Serve.ensures.log
    c.in_ok-plan-in-Serve.ensures.plan c.in_ok-plan-in-Serve.ensures.change

pub decide-requires-clause-fits : goal.decide-requires-clause-fits
decide-requires-clause-fits g c =
    let serves = serves_so g (goal.at.decide-requires-clause-fits g c).In-Serve in
    subst (λ (b : ℕ). fits_block b c.in-Serve.member.m c.in-Serve.member.seat c.args.request.now ≡ true) (sym serves.block) serves.fits

pub carry_out-requires-clause-view : goal.carry_out-requires-clause-view
carry_out-requires-clause-view g c = (serves_so g (goal.at.carry_out-requires-clause-view g c).In-Serve).view

pub carry_out-requires-clause-change : goal.carry_out-requires-clause-change
carry_out-requires-clause-change g c =
    let at = goal.at.carry_out-requires-clause-change g c in
    change_decided c.args.store.now c.args.layout.now (me_of c.args.store.now) c.args.from c.args.call c.args.request.now c.in-Serve.member
    c.in_ok-plan-in-Serve.plan (decided_so g at.In_ok-plan-in-Serve (serves_so g at.In-Serve).block)

pub returns-in_ok-plan-in-Serve : goal.returns-in_ok-plan-in-Serve
returns-in_ok-plan-in-Serve g c =
    let at = goal.at.returns-in_ok-plan-in-Serve g c in
    served_kept g.D.Disk g.met.D.Disk.only_now c.args.store.now c.requires.runs c.args.layout.now (me_of c.args.store.now) c.args.from c.args.call
    c.args.request.now c.in-Serve.member c.in_ok-plan-in-Serve.plan (decided_so g at.In_ok-plan-in-Serve (serves_so g at.In-Serve).block)
    (takes_serve g at.In-Serve) c.carry_out.new.store c.carry_out.result c.answer.result c.answer.ensures c.carry_out.ensures

pub returns-in_err-plan-in-Serve : goal.returns-in_err-plan-in-Serve
returns-in_err-plan-in-Serve g c =
    message_refused g.D.Disk g.met.D.Disk.only_now c.args.store.now c.requires.runs c.args.layout.now (me_of c.args.store.now) c.args.from _
    c.from_residual-in_err-plan-in-Serve.result c.from_residual-in_err-plan-in-Serve.ensures.1

-- ---- by a vote

-- the request is voted on
takes_vote : (g : Over) (c : In-Vote g)
    → Takes c.args.layout.now (me_of c.args.store.now) c.args.from c.args.call c.args.request.now c.args.store.now.state
    (Vote c.in-Vote.learnt c.in-Vote.ballot c.in-Vote.asks)
takes_vote g c = sym c.in_ok-course.ensures.course ∙ c.in-Vote.is

-- by what the brick has learnt of the group
votes_so : (g : Over) (c : In-Vote g) → VotesBy c.args.layout.now c.args.store.now.state c.args.call c.in-Vote.learnt c.in-Vote.asks
votes_so g c =
    votes_of c.args.layout.now (me_of c.args.store.now) c.args.store.now.state c.args.call c.in-Vote.learnt c.in-Vote.ballot c.in-Vote.asks
    c.args.request.now (takes_vote g c)

pub vote-requires-clause-learnt : goal.vote-requires-clause-learnt
vote-requires-clause-learnt g c =
    ap (λ (l : Learnt). l.view.number.0) (votes_so g (goal.at.vote-requires-clause-learnt g c).In-Vote).learnt_is
    ∙ number_learnt c.args.layout.now c.args.store.now.state c.args.call.group.0

pub vote-requires-clause-some : goal.vote-requires-clause-some
vote-requires-clause-some g c =
    asked_some c.args.layout.now c.args.store.now.state c.args.call c.in-Vote.learnt c.in-Vote.asks c.records.ensures.limits
    (votes_so g (goal.at.vote-requires-clause-some g c).In-Vote)

pub returns-in-Vote : goal.returns-in-Vote
returns-in-Vote g c =
    let at = (goal.at.returns-in-Vote g c).In-Vote in
    voted_kept g.D.Disk g.met.D.Disk.only_now c.args.store.now c.requires.runs c.args.layout.now (me_of c.args.store.now) c.args.from c.args.call
    c.args.request.now c.in-Vote.learnt c.in-Vote.ballot c.in-Vote.asks (takes_vote g at) (votes_so g at) c.vote.new.store c.vote.result
    c.answer-in-Vote.result c.answer-in-Vote.ensures c.vote.ensures
