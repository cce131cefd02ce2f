-- The list of no frames stands for a brick that keeps nothing.
use Rattle.std.proofs.Common.{[], refl}
use Rattle.frame_store.specs.declared.shapes.Form.TheVariants.{New}
use Rattle.frame_store.specs.Layouts.{shape_of}
use Rattle.brick_store.proofs.EmptyStores.{made_empty, made_ends}
use Rattle.brick_store.proofs.formats.format.Goals as goal

pub returns-in-Ok : goal.returns-in-Ok
returns-in-Ok g c = record {
  change = made_empty g.D.Disk New (shape_of c.args.me.0 c.args.block c.args.records) c.args.disk.now c.format.new.disk _ c.in-Ok.ensures.change;
  listed = λ told. record { form = New; frames = []; opens = (c.in-Ok.ensures.change.whole refl told).has.opens; bytes = refl };
  form = λ told. (c.in-Ok.ensures.change.whole refl told).has.opens;
}

pub returns-in-Err : goal.returns-in-Err
returns-in-Err g c =
    let here = c.in-Err.ensures in
    let shape = shape_of c.args.me.0 c.args.block c.args.records in
    rw c.write_fault.ensures (record {
      change = made_ends g.D.Disk New shape c.args.disk.now c.format.new.disk c.in-Err.fault here.only
          (made_empty g.D.Disk New shape c.args.disk.now c.format.new.disk _ here.change);
      listed = λ told. tt;
      form = λ told. tt;
    })
