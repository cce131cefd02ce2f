use Rattle.std.proofs.Common.{List, ℕ, ◌∷◌, [], take, Some, subst, arith}
use Rattle.hosting.specs.Asks.{Hears}
use Rattle.hosting.proofs.Exits.{on_err}
use Rattle.serving.proofs.Looks.{Looked-one}
use Rattle.hosting.proofs.replies.hear.Goals as goal

pub returns-in_err-reply-in-Ok-Some-clause-lost : goal.returns-in_err-reply-in-Ok-Some-clause-lost
returns-in_err-reply-in-Ok-Some-clause-lost g c =
    let takes = rw c.in-Ok-Some.field-0-is at c.in-Ok-Some.ensures.takes in
    on_err c.from_residual.result (
      Some (record { port = c.in-Ok-Some.from; bytes = take c.in-Ok-Some.length c.recv.new.self }) ∷ [],
      omega arith,
      Looked-one _ _ takes.0 c.in-Ok-Some.from c.in-Ok-Some.length c.recv.new.self (omega (arith, c.recv.ensures.all)) takes.1 takes.2,
    )

pub returns-in_ok-reply-in-Ok-Some-clause-heard : goal.returns-in_ok-reply-in-Ok-Some-clause-heard
returns-in_ok-reply-in-Ok-Some-clause-heard g c =
    let takes = rw c.in-Ok-Some.field-0-is at c.in-Ok-Some.ensures.takes in (
      Some (record { port = c.in-Ok-Some.from; bytes = take c.in-Ok-Some.length c.recv.new.self }),
      Looked-one _ _ takes.0 c.in-Ok-Some.from c.in-Ok-Some.length c.recv.new.self (omega (arith, c.recv.ensures.all)) takes.1 takes.2,
      subst (λ (l : List ℕ). Hears c.args.port c.args.id c.args.wanted (Some (record { port = c.in-Ok-Some.from; bytes = take c.in-Ok-Some.length l }))
          c.in_ok-reply-in-Ok-Some.reply) c.bytes.ensures c.in_ok-reply-in-Ok-Some.ensures,
    )
