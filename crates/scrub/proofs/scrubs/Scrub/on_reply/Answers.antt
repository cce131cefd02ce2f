-- What a scrub does with a message is what the machine decides.
use Rattle.std.proofs.Common.{◌≡◌, true, false, is_some, List, Option, Some, None, refl, sym, ◌∙◌, ap, subst}
use Rattle.std.proofs.lemmas.Bool.{false≢true}
use Rattle.fab_base.specs.declared.stamps.Stamp.{Stamp}
use Rattle.coord_phase.specs.Operations.{Operation}
use Rattle.scrub.specs.Scrubs.{Scrubbing}
use Rattle.scrub.specs.declared.answers.ScrubNext.TheVariants.{Wait, Recover, End}
use Rattle.protocol.specs.declared.tellings.ScrubAnswer.TheVariants.{Aborted, Clean}
use Rattle.fab_base.specs.declared.answers.Cause.TheVariants.{Moved}
use Rattle.fab_base.specs.declared.identities.BrickId.{BrickId}
use Rattle.scrub.specs.Decisions.{Hears}
use Rattle.scrub.proofs.Hearing.{hears_apart, hears_clean, hears_ignored, hears_moved, hears_waiting, phase_heard}
use Rattle.scrub.proofs.scrubs.Scrub.on_reply.Goals as goal
use Rattle.scrub.proofs.scrubs.Scrub.on_reply.Goals.{then-not-branch-via-then-not-branch, then-not-branch-via-else-not-branch+then-not-is_full}

-- a scrub that looks like this, and knows so much of who lagged
abbrev seen : Operation → List BrickId → Scrubbing
seen look lagging = record { look = look; lagging = lagging }

pub returns-then-not-branch-clause-hears : goal.returns-then-not-branch-clause-hears
returns-then-not-branch-clause-hears c =
    let before = seen c.self.inside.look c.self.inside.lagging in
    let after = seen c.count.new.self c.self.inside.lagging in
    let from = c.args.from in
    let told = c.args.reply.now in
    let count = c.in_ok-count.ensures in
    subst (λ (was : Scrubbing). Hears was from told Wait after) c.self.view_is
    (elim c.then-not-branch.branch [
      | then-not-branch-via-then-not-branch w ↦ hears_ignored before after from told count.heard (sym count.counted ∙ w.if-not-branch.true) refl
      | then-not-branch-via-else-not-branch+then-not-is_full w ↦
          hears_waiting before after from told count.heard (sym count.counted ∙ w.if-not-branch.false) (sym w.is_full.ensures.full ∙ w.if-not-is_full.true) refl
    ])

pub returns-in-Some-clause-hears : goal.returns-in-Some-clause-hears
returns-in-Some-clause-hears c =
    let before = seen c.self.inside.look c.self.inside.lagging in
    let after = seen c.count.new.self c.self.inside.lagging in
    let from = c.args.from in
    let told = c.args.reply.now in
    let count = c.in_ok-count.ensures in
    subst (λ (was : Scrubbing). Hears was from told (End (Aborted (Moved c.in-Some.field-0.brick c.in-Some.field-0.view))) after) c.self.view_is
    (hears_moved before after from told count.heard (sym count.counted ∙ c.if-not-branch.false) (sym c.is_full.ensures.full ∙ c.if-not-is_full.false)
    (ap (λ (op : Operation). op.state.phase) count.heard ∙ phase_heard c.self.inside.look from told ∙ c.self.invariant.0)
    c.is_full.ensures.answers c.in-Some.field-0 (sym c.mover.ensures ∙ c.in-Some.is) refl)

-- the version of a scrub that found one
found : (o : Option Stamp) → is_some o ≡ true → (v : Stamp) × (o ≡ Some v)
found None some = absurd (false≢true some)
found (Some v) some = (v, refl)

-- there is none
missing : (o : Option Stamp) → is_some o ≡ false → o ≡ None
missing None none = refl
missing (Some v) none = absurd (false≢true (sym none))

pub returns-then-is_some-clause-hears : goal.returns-then-is_some-clause-hears
returns-then-is_some-clause-hears c =
    let before = seen c.self.inside.look c.self.inside.lagging in
    let after = seen c.count.new.self c.self.inside.lagging in
    let from = c.args.from in
    let told = c.args.reply.now in
    let count = c.in_ok-count.ensures in
    let version = found c.clean_version.result (sym c.is_some.ensures ∙ c.if-is_some.true) in
    subst (λ (was : Scrubbing). Hears was from told (End Clean) after) c.self.view_is
    (hears_clean before after from told count.heard (sym count.counted ∙ c.if-not-branch.false) (sym c.is_full.ensures.full ∙ c.if-not-is_full.false)
    (ap (λ (op : Operation). op.state.phase) count.heard ∙ phase_heard c.self.inside.look from told ∙ c.self.invariant.0)
    c.is_full.ensures.answers version.0 (sym c.mover.ensures ∙ c.in_default.is) (sym c.clean_version.ensures ∙ version.1) refl)

pub returns-clause-hears : goal.returns-clause-hears
returns-clause-hears c =
    let before = seen c.self.inside.look c.self.inside.lagging in
    let after = seen c.count.new.self c.self.inside.lagging in
    let from = c.args.from in
    let told = c.args.reply.now in
    let count = c.in_ok-count.ensures in
    let some = sym count.counted ∙ c.if-not-branch.false in
    subst (λ (was : Scrubbing). Hears was from told Recover after) c.self.view_is
    (hears_apart before after from told count.heard some (sym c.is_full.ensures.full ∙ c.if-not-is_full.false)
    (ap (λ (op : Operation). op.state.phase) count.heard ∙ phase_heard c.self.inside.look from told ∙ c.self.invariant.0)
    c.is_full.ensures.answers (sym c.mover.ensures ∙ c.in_default.is)
    (sym c.clean_version.ensures ∙ missing c.clean_version.result (sym c.is_some.ensures ∙ c.if-is_some.false))
    refl
    (count.few c.if-not-branch.false))
