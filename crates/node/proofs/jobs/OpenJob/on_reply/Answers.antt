-- The read goes on, or what was prepared comes after it.
use Rattle.std.proofs.Common.{◌≡◌, ℕ, Bool, true, false, not, [], ◌∷◌, ◌++◌, length, Option, Some, None, is_some, option_to_list, refl, sym, ◌∙◌, ap, subst, arith}
use Rattle.fab_base.specs.declared.answers.Answer.{Answer}
use Rattle.fab_base.specs.declared.answers.Cause.{Cause}
use Rattle.fab_base.specs.declared.stamps.Stamp.{Stamp}
use Rattle.messages.specs.declared.calls.Call.{Call}
use Rattle.messages.specs.declared.packets.Message.{Message}
use Rattle.messages.specs.declared.packets.Message.TheVariants as message
use Rattle.messages.specs.declared.replies.Reply.{Reply}
use Rattle.stripe_code.specs.Codes.{block_code, coding}
use Rattle.protocol.specs.declared.tellings.Answered.{Answered}
use Rattle.protocol.specs.Coordinators as machine
use Rattle.protocol.specs.declared.tellings.Told.TheVariants.{Closed}
use Rattle.protocol.specs.Jobs.{abort_cause}
use Rattle.protocol.specs.Nodes.{Node, carried_read, fresh_stamp}
use Rattle.coord_phase.specs.Decisions.{decided_on}
use Rattle.coord_phase.specs.Messages.{packets_from}
use Rattle.node.specs.declared.jobs.OpenJob.{OpenJob}
use Rattle.node.specs.declared.jobs.Prepared.{Prepared}
use Rattle.node.specs.declared.jobs.ReadTurn.TheVariants as turn
use Rattle.node.specs.Decisions.{CarriesOut, or_waits}
use Rattle.node.specs.Jobs.{GoesOn, MakesFrom, cause_in, ended_by, job_of, reading_of, with_reading}
use Rattle.node.specs.Operations.{coordinator_of, shown_of}
use Rattle.node.specs.Outcomes.{Outcome}
use Rattle.node.specs.Reads.{IsPrepared, MayFollow, read_step, turn_step}
use Rattle.node.proofs.Reading.{ended_goes, ends_in, ends_so, goes_so, same_read, told_once, unanswered}
use Rattle.node.proofs.jobs.OpenJob.on_reply.Goals as goal
use Rattle.node.proofs.jobs.OpenJob.on_reply.Goals.{After-is_none, In_ok-outs}

-- nothing is answered
none_answered : (o : Option Answered) (b : Bool) → is_some o ≡ not b → b ≡ true → option_to_list o ≡ []
none_answered None b is none = refl
none_answered (Some x) b is none = absurd cc

-- something is
one_answered : (o : Option Answered) (b : Bool) → is_some o ≡ not b → b ≡ false → (x : Answered) × (option_to_list o ≡ x ∷ [])
one_answered None b is none = absurd cc
one_answered (Some x) b is none = (x, refl)

-- what the message lets the read decide
abbrev decides : In_ok-outs → machine.Next
decides c = decided_on c.fresh_stamp-fresh.result (shown_of c.args.self.now.read) c.args.from c.args.message.now

-- what the machine's read decides on a reply
abbrev decided_by : In_ok-outs → Call → Reply → machine.Next
decided_by c call reply =
    machine.on_reply c.args.layout.now.block (block_code c.args.layout.now.block)
    (fresh_stamp c.args.at.me (coordinator_of c.args.self.now.read).stamp.view c.args.at.now c.args.at.stamps.boot c.args.at.stamps.known)
    (coordinator_of c.args.self.now.read) c.args.from call reply

-- is that
decided_so : (c : In_ok-outs) (call : Call) (reply : Reply) → c.args.message.now ≡ message.Reply call reply → decides c ≡ decided_by c call reply
decided_so c call reply is =
    let op = c.args.self.now.read in
    let k = coordinator_of op in
    let from = c.args.from in
    let new = c.fresh_stamp-fresh.ensures.stamp
    ∙ (λ i. fresh_stamp c.args.at.me (c.stamp_view.ensures i) c.args.at.now c.args.at.stamps.boot c.args.at.stamps.known) in
    ap (λ (m : Message). decided_on c.fresh_stamp-fresh.result (shown_of op) from m) is
    ∙ ap (λ (f : Option Stamp). decided_on f (shown_of op) from (message.Reply call reply)) new
    ∙ ap (λ (b : ℕ). machine.on_reply b (block_code b) (fresh_stamp c.args.at.me k.stamp.view c.args.at.now c.args.at.stamps.boot c.args.at.stamps.known) k from call reply)
    c.requires.of.is_operation

-- and carried out
carried_so : (c : In_ok-outs) (call : Call) (reply : Reply) → c.args.message.now ≡ message.Reply call reply
    → CarriesOut c.args.layout.now c.args.self.now.read c.on_reply.new.self c.args.at.stamps.known c.on_reply.new.stamps.known
    (or_waits (coordinator_of c.args.self.now.read) (decided_by c call reply)) c.in_ok-outs.outs
carried_so c call reply is =
    subst (λ (n : machine.Next). CarriesOut c.args.layout.now c.args.self.now.read c.on_reply.new.self c.args.at.stamps.known c.on_reply.new.stamps.known
    (or_waits (coordinator_of c.args.self.now.read) n) c.in_ok-outs.outs)
    (decided_so c call reply is) (c.in_ok-outs.ensures.step c.args.layout.now c.requires.of.is_operation)

-- where it is not over, it has answered nothing
none_so : (c : After-is_none) → c.is_none.result ≡ true → c.in_ok-outs.outs.answers ≡ []
none_so c none = sym (ap (λ (o : Outcome). o.answers) c.outs.view_is) ∙ none_answered c.outs.inside.answer c.is_none.result c.is_none.ensures none

-- where it is, it has answered
one_so : (c : After-is_none) → c.is_none.result ≡ false → (x : Answered) × (c.in_ok-outs.outs.answers ≡ x ∷ [])
one_so c some =
    let one = one_answered c.outs.inside.answer c.is_none.result c.is_none.ensures some in
    (one.0, sym (ap (λ (o : Outcome). o.answers) c.outs.view_is) ∙ one.1)

-- what goes on then
abbrev after : In_ok-outs → OpenJob
after c = record { job = c.args.self.now.job; view = c.args.self.now.view; read = c.on_reply.new.self }

-- as the machine's read does
goes_step : (c : In_ok-outs) → c.in_ok-outs.outs.answers ≡ [] → (node : Node) (call : Call) (reply : Reply) → c.args.message.now ≡ message.Reply call reply
    → MakesFrom c.args.at node → node.calls (coordinator_of c.args.self.now.read).call.seq ≡ None
    → read_step c.args.layout.now c.args.at c.args.self.now node c.args.from call reply
    ≡ turn_step c.args.at.me (after c) node (turn.Goes c.in_ok-outs.outs c.on_reply.new.stamps.known)
goes_step c none node call reply is makes free =
    goes_so c.args.layout.now c.args.at c.args.self.now node makes free (decided_by c call reply) (after c) c.on_reply.new.stamps.known c.in_ok-outs.outs
    refl refl (carried_so c call reply is) none

pub returns-then-is_none-clause-turn : goal.returns-then-is_none-clause-turn
returns-then-is_none-clause-turn c =
    let d = (goal.at.returns-then-is_none-clause-turn c).In_ok-outs in
    let none = none_so (goal.at.returns-then-is_none-clause-turn c).After-is_none c.if-is_none.true in
    let carried = c.in_ok-outs.ensures.step c.args.layout.now c.requires.of.is_operation in
    let same = same_read c.args.layout.now c.args.self.now (after d) c.in_ok-outs.outs.answers refl refl c.in_ok-outs.ensures.group carried.block
    carried.keeps none in
    record { group = refl; step = goes_step d none; left = same }

pub end-next-requires-clause-one : goal.end-next-requires-clause-one
end-next-requires-clause-one c =
    let read = coordinator_of c.args.self.now.read in
    let once = told_once read (decides (goal.at.end-next-requires-clause-one c).In_ok-outs) read.call.seq in
    let same = ap length (c.in_ok-outs.ensures.step c.args.layout.now c.requires.of.is_operation).told in
    omega (arith, once, same)

pub returns-clause-turn : goal.returns-clause-turn
returns-clause-turn c =
    let d = (goal.at.returns-clause-turn c).In_ok-outs in
    let layout = c.args.layout.now in
    let job = c.args.self.now in
    let at = c.args.at in
    let answers = c.in_ok-outs.outs.answers in
    let k = coordinator_of job.read in
    let p = c.in-Some.prepared in
    let is_prepared : IsPrepared layout job at p =
    subst (λ (o : Option Prepared). MayFollow layout job at c.args.from c.args.message.now o) c.in-Some.is c.in_ok-prepared.ensures in
    let one = one_so (goal.at.returns-clause-turn c).After-is_none c.if-is_none.false in
    let told = c.end-next.result.0 in
    let f = ended_by (cause_in answers) p.answered p.aborted in
    record {
      group = refl;
      step = λ node call reply is makes free.
          let carried = carried_so d call reply is in
          let end = ends_in k (decided_by d call reply) k.call.seq one.0 answers carried.answers one.1 in
          let answer : Answer = end.0 in
          let seen : Option Stamp = end.1 in
          let stored : Option Stamp = end.2 in
          let next_is : decided_by d call reply ≡ machine.Ends answer seen stored = end.3 in
          let cause_is : cause_in answers ≡ abort_cause answer = end.4 in
          let done = subst (λ (n : machine.Next). CarriesOut layout job.read c.on_reply.new.self at.stamps.known c.on_reply.new.stamps.known (or_waits k n) c.in_ok-outs.outs)
          next_is carried in
          ap (carried_read (coding layout) at.me at.now (with_reading (Some (reading_of job)) node) at.stamps.known (job_of job) k) next_is
          ∙ ends_so layout at job node makes free answer seen stored told (packets_from at.me c.in_ok-outs.outs.messages) f c.end-next.result.1
          c.requires.of.job_is.stripes
          (subst (λ (o : Option Cause). GoesOn layout job.job job.view at o f) cause_is (ended_goes layout job at p (cause_in answers) is_prepared))
          (done.packets at.me)
          (c.end-next.ensures.told
          ∙ (λ i. done.told i ++ (Closed ((c.call-seq.ensures i).seq) (cause_is i) ∷ [])))
          (c.end-next.ensures.step at.me job.job.group node);
      left = (c.end-next.ensures.from layout at.seq job.job.group is_prepared.read_answered is_prepared.read_aborted, c.end-next.ensures.begun);
    }

pub unreachable-requires : goal.unreachable-requires
unreachable-requires c =
    let read = coordinator_of c.args.self.now.read in
    let never = subst (λ (o : Option Prepared). MayFollow c.args.layout.now c.args.self.now c.args.at c.args.from c.args.message.now o) c.in_default.is
    c.in_ok-prepared.ensures in
    let some = one_so (goal.at.unreachable-requires c).After-is_none c.if-is_none.false in
    let both : [] ≡ some.0 ∷ [] =
    sym ((c.in_ok-outs.ensures.step c.args.layout.now c.requires.of.is_operation).answers
    ∙ unanswered read (decides (goal.at.unreachable-requires c).In_ok-outs) read.call.seq (never c.fresh_stamp-fresh.result)) ∙ some.1 in
    cc
