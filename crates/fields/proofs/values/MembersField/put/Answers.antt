-- One brick more is written, and it fits.
use Rattle.std.proofs.Common.{length}
use Rattle.fields.specs.Parts.{number_bytes}
use Rattle.fields.proofs.Writings.{one_written, one_fits}
use Rattle.fields.proofs.values.MembersField.put.Goals as goal

pub loop-brick-preserved : goal.loop-brick-preserved
loop-brick-preserved c =
    let at = c.loop-brick in
    let bricks = c.as_slice-bricks.result.now in
    record {
      written = one_written c.args.out.now.items (number_bytes 1 (length bricks)) at.out.items c.put-in-loop-brick.new.out.items bricks at.brick-index
          (record { 0 = 0 }) c.loop-brick-test.true at.invariant.written c.in_ok-put-2.ensures.bytes;
      each = one_fits bricks at.brick-index (record { 0 = 0 }) c.loop-brick-test.true at.invariant.each c.in_ok-put-2.ensures.fits;
    }
