use Rattle.std.proofs.Common.{[], ◌∷◌, take, Some, arith}
use Rattle.serving.proofs.Ends.{on_err}
use Rattle.serving.proofs.Looks.{Looked-one}
use Rattle.serving.proofs.looking.look.Goals as goal

pub returns-in_err-read_datagram-in-Ok-Some-clause-lost : goal.returns-in_err-read_datagram-in-Ok-Some-clause-lost
returns-in_err-read_datagram-in-Ok-Some-clause-lost g c =
    let takes = rw c.in-Ok-Some.field-0-is at c.in-Ok-Some.ensures.takes in
    on_err c.from_residual.result (
      Some (record { port = c.in-Ok-Some.port; bytes = take c.in-Ok-Some.length c.recv.new.into }) ∷ [],
      omega arith,
      Looked-one _ _ takes.0 c.in-Ok-Some.port c.in-Ok-Some.length c.recv.new.into (let kept = c.recv.auto.into in omega (arith, c.requires, kept)) takes.1 takes.2,
    )

pub returns-in_ok-read_datagram-in-Ok-Some-clause-came : goal.returns-in_ok-read_datagram-in-Ok-Some-clause-came
returns-in_ok-read_datagram-in-Ok-Some-clause-came g c =
    let takes = rw c.in-Ok-Some.field-0-is at c.in-Ok-Some.ensures.takes in
    let incoming = c.in_ok-read_datagram-in-Ok-Some.ensures in (
      Some (record { port = c.in-Ok-Some.port; bytes = take c.in-Ok-Some.length c.recv.new.into }),
      Looked-one _ _ takes.0 c.in-Ok-Some.port c.in-Ok-Some.length c.recv.new.into (let kept = c.recv.auto.into in omega (arith, c.requires, kept)) takes.1 takes.2,
      incoming,
    )
