-- What is read is spelled so, and where nothing is read no message goes further.
use Rattle.std.proofs.Common.{◌-◌, length, arith}
use Rattle.fab_wire.specs.Spelling.{message_codec}
use Rattle.fab_wire.proofs.WholeMessages.{read_spells, one_message, left_within, malformed_at}
use Rattle.fab_wire.proofs.datagrams.decode.Goals as goal

pub overflow_sub-result : goal.overflow_sub-result
overflow_sub-result c =
    let fails = rw c.in-Err-Malformed.field-0-is at c.in-Err-Malformed.ensures in
    left_within c.args.bytes.now c.in-Err-Malformed.left (λ i. omega (arith, c.type_inv.bytes i)) fails

pub returns-in-Ok-clause-spelling : goal.returns-in-Ok-clause-spelling
returns-in-Ok-clause-spelling c = read_spells c.args.bytes.now c.in-Ok.message (λ i. omega (arith, c.type_inv.bytes i)) c.in-Ok.ensures

pub returns-in-Ok-clause-one : goal.returns-in-Ok-clause-one
returns-in-Ok-clause-one c = one_message c.args.bytes.now

pub returns-in-Ok-clause-limits : goal.returns-in-Ok-clause-limits
returns-in-Ok-clause-limits c m spells = message_codec.within m spells.fits

pub returns-in-Err-Malformed-clause-malformed : goal.returns-in-Err-Malformed-clause-malformed
returns-in-Err-Malformed-clause-malformed c =
    let fails = rw c.in-Err-Malformed.field-0-is at c.in-Err-Malformed.ensures in
    let left = c.in-Err-Malformed.left in
    let bytes = c.args.bytes.now in
    let within = left_within bytes left (λ i. omega (arith, c.type_inv.bytes i)) fails in
    malformed_at bytes left (length bytes - left) (λ i. omega (arith, c.type_inv.bytes i)) fails (omega arith)

pub returns-in-Err-Malformed-clause-one : goal.returns-in-Err-Malformed-clause-one
returns-in-Err-Malformed-clause-one c = one_message c.args.bytes.now

pub returns-in-Err-Malformed-clause-limits : goal.returns-in-Err-Malformed-clause-limits
returns-in-Err-Malformed-clause-limits c m spells = message_codec.within m spells.fits

pub returns-in-Err-NoMemory-clause-one : goal.returns-in-Err-NoMemory-clause-one
returns-in-Err-NoMemory-clause-one c = one_message c.args.bytes.now

pub returns-in-Err-NoMemory-clause-limits : goal.returns-in-Err-NoMemory-clause-limits
returns-in-Err-NoMemory-clause-limits c m spells = message_codec.within m spells.fits
