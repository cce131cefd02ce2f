-- What the look decides is what the machine does.
use Rattle.std.proofs.Common.{◌≡◌, ℕ, Bool, true, false, [], Option, None, Result, Ok, Err, refl, sym, ◌∙◌, ap, subst}
use Rattle.std.specs.Result.{OnErr}
use Rattle.std.proofs.lemmas.Result.{IfOk-weaker}
use Rattle.fab_base.specs.declared.identities.BrickId.{BrickId}
use Rattle.fab_base.specs.declared.stamps.Stamp.{Stamp}
use Rattle.fab_base.specs.Layouts.{Layout}
use Rattle.messages.specs.declared.packets.Message.{Message}
use Rattle.protocol.specs.Coordinators.{fast_version}
use Rattle.coord_phase.specs.Operations as phased
use Rattle.coord_phase.specs.Operations.{counts, with_state, without_last}
use Rattle.coord_phase.proofs.Answered as answered
use Rattle.scrub.specs.declared.answers.ScrubNext.{ScrubNext}
use Rattle.scrub.specs.declared.answers.ScrubNext.TheVariants as next
use Rattle.scrub.specs.Scrubs as looks
use Rattle.scrub.specs.Scrubs.{taken_back}
use Rattle.scrub.specs.Decisions.{Hears}
use Rattle.node.specs.declared.operations.Operation.{Operation}
use Rattle.node.specs.declared.scrubs.OpenScrub.{OpenScrub}
use Rattle.node.specs.Outcomes.{Outcome}
use Rattle.node.specs.Scrubs.{IsScrubOf, Recovers, StepsScrub, end_outs, phase_of, scrubbing_of}
use Rattle.node.proofs.ScrubReplies.{look_ends, look_recovers, look_waits, looking, nothing_outs}
use Rattle.node.proofs.scrubs.OpenScrub.on_look_reply.Goals as goal
use Rattle.node.proofs.scrubs.OpenScrub.on_look_reply.Goals.{In-Recover}

-- a scrub without a recovery looks
abbrev with_none : looks.Scrubbing → Option Operation → OpenScrub
with_none scrub recovery = record { scrub = scrub; recovery = recovery }

still_looks : (layout : Layout) (was now : looks.Scrubbing) (from : BrickId) (told : Message) (fresh : Option Stamp) (known later : ℕ) (outs : Outcome)
    (o : Option Operation) → o ≡ None → (IsScrubOf layout (looking was) → StepsScrub layout (looking was) from told fresh known outs (looking now) later)
    → IsScrubOf layout (with_none was o) → StepsScrub layout (with_none was o) from told fresh known outs (with_none now o) later
still_looks layout was now from told fresh known later outs o none steps =
    subst (λ (r : Option Operation). IsScrubOf layout (with_none was r) → StepsScrub layout (with_none was r) from told fresh known outs (with_none now r) later)
    (sym none) steps

-- where its stripe is to be recovered, the next phase has a number
module _ (was now : looks.Scrubbing) (from : BrickId) (told : Message) where
  counted_so : Hears was from told next.Recover now → (some : Bool) → counts was.look from told ≡ some → counts was.look from told ≡ true
  counted_so hears false e = absurd (hears.ignored e)
  counted_so hears true e = e

  never_sends : (messages : _) → Hears was from told (next.Send messages) now → (some : Bool) → counts was.look from told ≡ some → ⊥
  never_sends messages hears false e = hears.ignored e
  never_sends messages hears true e = hears.stands None e

  -- once the reply is taken back, nothing has changed
  back_so : Hears was from told next.Recover now → taken_back now ≡ was
  back_so hears =
      let look = ap (λ (op : phased.Operation). with_state op (without_last op.state)) hears.heard
      ∙ answered.taken_back was.look from told (counted_so hears (counts was.look from told) refl) in
      λ i. record { look = look i; lagging = hears.kept i }

-- ---- the stripe is to be recovered

-- so the look has it
recovers : (c : In-Recover) → Hears c.args.self.now.scrub c.args.from c.args.message.now next.Recover c.on_reply.new.self
recovers c =
    subst (λ (done : ScrubNext). Hears c.args.self.now.scrub c.args.from c.args.message.now done c.on_reply.new.self) c.in-Recover.is
    c.in_ok-on_reply.ensures.hears

pub recover-requires-clause-phase : goal.recover-requires-clause-phase
recover-requires-clause-phase c =
    let look = c.args.self.now.scrub.look in
    let hears = recovers (goal.at.recover-requires-clause-phase c).In-Recover in
    (hears.stands None (counted_so c.args.self.now.scrub c.on_reply.new.self c.args.from c.args.message.now hears
    (counts look c.args.from c.args.message.now) refl)).1

pub returns-in-Recover-clause-step : goal.returns-in-Recover-clause-step
returns-in-Recover-clause-step c =
    let was = c.args.self.now.scrub in
    let now = c.on_reply.new.self in
    let after = c.recover.new.self in
    let known = c.args.stamps.now.known in
    let later = c.recover.new.stamps.known in
    let from = c.args.from in
    let told = c.args.message.now in
    let hears = recovers (goal.at.returns-in-Recover-clause-step c).In-Recover in
    IfOk-weaker c.recover.result _ _
    (λ outs recovers layout fresh.
    subst (λ (o : Option Operation). Recovers (with_none now o) after known later outs → IsScrubOf layout (with_none was o)
    → StepsScrub layout (with_none was o) from told fresh known outs after later) (sym c.requires.looks)
    (λ so of. look_recovers layout was now from told fresh known of after later outs hears so) recovers)
    c.recover.ensures.recovers

-- both that follow from an error do so together
both_err : {T E P Q R : Type 0} (r : Result T E) → OnErr r P → OnErr r Q → (P → Q → R) → OnErr r R
both_err (Ok x) p q f = tt
both_err (Err e) p q f = f p q

pub returns-in-Recover-clause-same : goal.returns-in-Recover-clause-same
returns-in-Recover-clause-same c = λ layout.
    let before = c.args.self.now in
    let after = c.recover.new.self in
    both_err c.recover.result c.recover.ensures.back c.recover.ensures.none
    (λ back none.
    let scrub : after.scrub ≡ before.scrub =
    back ∙ back_so before.scrub c.on_reply.new.self c.args.from c.args.message.now (recovers (goal.at.returns-in-Recover-clause-same c).In-Recover) in
    let recovery : after.recovery ≡ before.recovery = none ∙ sym c.requires.looks in
    let same : after ≡ before = λ i. with_none (scrub i) (recovery i) in
    record { scrubbing_is = ap scrubbing_of same; of = λ of. subst (IsScrubOf layout) (sym same) of })

-- ---- it is not

pub unreachable-requires : goal.unreachable-requires
unreachable-requires c =
    never_sends c.args.self.now.scrub c.on_reply.new.self c.args.from c.args.message.now c.in-Send.field-0
    (subst (λ (done : ScrubNext). Hears c.args.self.now.scrub c.args.from c.args.message.now done c.on_reply.new.self) c.in-Send.is c.in_ok-on_reply.ensures.hears)
    (counts c.args.self.now.scrub.look c.args.from c.args.message.now) refl

-- a look that stays one, with what it sends, tells and reports
looks_so : (layout : Layout) (before : OpenScrub) (now : looks.Scrubbing) (from : BrickId) (told : Message) (fresh : Option Stamp) (known : ℕ) (outs : Outcome)
    → before.recovery ≡ None
    → (IsScrubOf layout (looking before.scrub) → StepsScrub layout (looking before.scrub) from told fresh known outs (looking now) known)
    → (done : Outcome) → done ≡ outs → IsScrubOf layout before → StepsScrub layout before from told fresh known done (with_none now before.recovery) known
looks_so layout before now from told fresh known outs none steps done is of =
    subst (λ (o : Outcome). StepsScrub layout before from told fresh known o (with_none now before.recovery) known) (sym is)
    (still_looks layout before.scrub now from told fresh known known outs before.recovery none steps of)

pub returns-in-Wait-clause-step : goal.returns-in-Wait-clause-step
returns-in-Wait-clause-step c = λ layout fresh.
    let was = c.args.self.now.scrub in
    let hears = subst (λ (done : ScrubNext). Hears was c.args.from c.args.message.now done c.on_reply.new.self) c.in-Wait.is c.in_ok-on_reply.ensures.hears in
    looks_so layout c.args.self.now c.on_reply.new.self c.args.from c.args.message.now fresh c.args.stamps.now.known nothing_outs c.requires.looks
    (λ so. look_waits layout was c.on_reply.new.self c.args.from c.args.message.now fresh c.args.stamps.now.known so hears) c.nothing.result c.nothing.ensures

pub returns-in-End-clause-step : goal.returns-in-End-clause-step
returns-in-End-clause-step c = λ layout fresh.
    let looked = c.args.self.now.scrub in
    let left = c.on_reply.new.self in
    let answer = c.in-End.answer in
    let hears = subst (λ (done : ScrubNext). Hears looked c.args.from c.args.message.now done left) c.in-End.is c.in_ok-on_reply.ensures.hears in
    let call : c.call-call.result ≡ looked.look.state.call =
    c.call-call.ensures ∙ ap (λ (o : Option Operation). (phase_of looked.look o).state.call) c.requires.looks in
    looks_so layout c.args.self.now left c.args.from c.args.message.now fresh c.args.stamps.now.known
    (end_outs (looking left) looked.look.state.call [] (fast_version left.look.state.counted) answer) c.requires.looks
    (λ so. look_ends layout looked left c.args.from c.args.message.now fresh c.args.stamps.now.known so answer hears) c.end.result
    (c.end.ensures ∙ (λ i. end_outs (looking left) (call i) (c.new.ensures.items i) (c.clean_version-seen.ensures i) answer))
