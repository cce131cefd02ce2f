-- The body spells the record.
use Rattle.std.proofs.Common.{◌+◌, ◌≤◌, ℕ, Some, length, sym, ap, subst, ◌∙◌, arith}
use Rattle.stamp_store.specs.Spelling.{Spells}
use Rattle.stamp_store.specs.LogSpelling.{SpellsLogged}
use Rattle.brick_state.specs.declared.records.Record.{Record}
use Rattle.brick_store.specs.Sizes.{body_size, most}
use Rattle.brick_store.proofs.Framing.{kept_read, logged_read, kept_length, logged_length, kept_most, logged_most}
use Rattle.brick_store.proofs.rewrites.frame_of.Goals as goal

pub returns-in_ok-body-in-Kept-clause-read : goal.returns-in_ok-body-in-Kept-clause-read
returns-in_ok-body-in-Kept-clause-read c =
    let body = c.in_ok-body-in-Kept.field-0 in
    kept_read c.kind.result body c.in-Kept.kept (subst (λ (k : ℕ). Spells k body c.in-Kept.kept) (sym c.kind.ensures) c.in_ok-body-in-Kept.ensures)
    ∙ ap Some (sym c.in-Kept.is)

pub returns-in_ok-body-in-Kept-clause-length : goal.returns-in_ok-body-in-Kept-clause-length
returns-in_ok-body-in-Kept-clause-length c =
    ap length c.in_ok-body-in-Kept.ensures.body_is ∙ kept_length c.in-Kept.kept ∙ ap body_size (sym c.in-Kept.is)

pub returns-in_ok-body-in-Kept-clause-size : goal.returns-in_ok-body-in-Kept-clause-size
returns-in_ok-body-in-Kept-clause-size c =
    let spells = c.in_ok-body-in-Kept.ensures in
    subst (λ (r : Record). 6 + length c.in_ok-body-in-Kept.field-0 ≤ most r) (sym c.in-Kept.is)
    (omega (arith, ap length spells.body_is, kept_length c.in-Kept.kept, kept_most c.in-Kept.kept spells.fits))

pub returns-in_ok-body-in-Logged-clause-read : goal.returns-in_ok-body-in-Logged-clause-read
returns-in_ok-body-in-Logged-clause-read c =
    let body = c.in_ok-body-in-Logged.field-0 in
    let kind = c.kind-in-Logged in
    logged_read kind.result body c.in-Logged.logged kind.ensures
    (subst (λ (k : ℕ). SpellsLogged k body c.in-Logged.logged) (sym kind.ensures) c.in_ok-body-in-Logged.ensures) ∙ ap Some (sym c.in-Logged.is)

pub returns-in_ok-body-in-Logged-clause-length : goal.returns-in_ok-body-in-Logged-clause-length
returns-in_ok-body-in-Logged-clause-length c =
    ap length c.in_ok-body-in-Logged.ensures.body_is ∙ logged_length c.in-Logged.logged ∙ ap body_size (sym c.in-Logged.is)

pub returns-in_ok-body-in-Logged-clause-size : goal.returns-in_ok-body-in-Logged-clause-size
returns-in_ok-body-in-Logged-clause-size c =
    subst (λ (r : Record). 6 + length c.in_ok-body-in-Logged.field-0 ≤ most r) (sym c.in-Logged.is)
    (omega (arith, ap length c.in_ok-body-in-Logged.ensures.body_is, logged_length c.in-Logged.logged, logged_most c.in-Logged.logged))
