-- What a reader finds is what the bytes say.
use Rattle.std.proofs.Common.{Some, None, arith}
use Rattle.stamp_store.proofs.Fields.{IsBytes}
use Rattle.brick_store.proofs.Reading.{kept_is, logged_is, has_members, kept_first, logged_next, nothing_read}
use Rattle.brick_store.proofs.readings.read_body.Goals as goal

pub returns-in-Some-clause-found : goal.returns-in-Some-clause-found
returns-in-Some-clause-found c =
    let bytes : IsBytes c.args.body.now = λ i. omega (arith, c.type_inv.body i) in
    kept_first c.args.kind c.args.body.now c.in-Some.kept
    (kept_is c.args.kind c.args.body.now (Some c.in-Some.kept) bytes c.in-Some.ensures.found c.in-Some.ensures.only)

pub returns-in-Some-clause-members : goal.returns-in-Some-clause-members
returns-in-Some-clause-members c = has_members c.in-Some.kept c.in-Some.ensures.found.fits

pub returns-in-Some-read-clause-found : goal.returns-in-Some-read-clause-found
returns-in-Some-read-clause-found c =
    let bytes : IsBytes c.args.body.now = λ i. omega (arith, c.type_inv.body i) in
    logged_next c.args.kind c.args.body.now c.in-Some-read.logged
    (kept_is c.args.kind c.args.body.now None bytes c.in-None.ensures.found c.in-None.ensures.only)
    (logged_is c.args.kind c.args.body.now (Some c.in-Some-read.logged) bytes c.in-Some-read.ensures.found c.in-Some-read.ensures.only)

pub returns-in-None-read-clause-found : goal.returns-in-None-read-clause-found
returns-in-None-read-clause-found c =
    let bytes : IsBytes c.args.body.now = λ i. omega (arith, c.type_inv.body i) in
    nothing_read c.args.kind c.args.body.now
    (kept_is c.args.kind c.args.body.now None bytes c.in-None.ensures.found c.in-None.ensures.only)
    (logged_is c.args.kind c.args.body.now None bytes c.in-None-read.ensures.found c.in-None-read.ensures.only)
