-- A version's body is read as it is spelled.
use Rattle.std.proofs.Common.{◌≡◌, ◌⊎◌, inl, Option, None, take, drop, sym, ap, subst, ◌∙◌, arith}
use Rattle.std.specs.Option.{IfNone}
use Rattle.std.proofs.lemmas.List.{length-take}
use Rattle.stamp_store.specs.LogSpelling.{logged_of}
use Rattle.stamp_store.proofs.Fields.{IsBytes}
use Rattle.stamp_store.proofs.LogRecords.{spells_logged}
use Rattle.brick_store.specs.declared.old_readings.OldVersion.{OldVersion}
use Rattle.brick_store.specs.OldLists.{old_block_of}
use Rattle.brick_store.proofs.OldVersions.{bytes_front, too_short}
use Rattle.brick_store.proofs.Reading.{logged_is}
use Rattle.brick_store.proofs.old_readings.version_of.Goals as goal

pub returns-then-body-lt-PLACE-clause-none : goal.returns-then-body-lt-PLACE-clause-none
returns-then-body-lt-PLACE-clause-none c =
    let body = c.args.body.now in
    let bytes : IsBytes body = λ i. omega (arith, c.type_inv.body i) in
    inl (too_short 6 (take 30 body) (bytes_front 30 body bytes) (omega (arith, length-take 30 body, c.if-body-lt-PLACE.true)))

pub returns-in_err-place-clause-none : goal.returns-in_err-place-clause-none
returns-in_err-place-clause-none c =
    let body = c.args.body.now in
    let bytes : IsBytes body = λ i. omega (arith, c.type_inv.body i) in
    let front = c.split_at.result.0.now in
    let is : front ≡ take 30 body = c.split_at.ensures.front in
    let none = logged_is 6 front None (subst IsBytes (sym is) (bytes_front 30 body bytes)) tt c.in_err-place.ensures.only in
    subst (λ (r : Option OldVersion). IfNone r ((logged_of 6 (take 30 body) ≡ None) ⊎ (old_block_of c.args.size (drop 30 body) ≡ None)))
    (sym c.from_residual.ensures) (inl (ap (logged_of 6) (sym is) ∙ none))

pub returns-clause-place : goal.returns-clause-place
returns-clause-place c =
    let is : c.split_at.result.0.now ≡ take 30 c.args.body.now = c.split_at.ensures.front in
    ap (logged_of 6) (sym is) ∙ spells_logged 6 c.split_at.result.0.now c.in_ok-place.place c.in_ok-place.ensures.found
