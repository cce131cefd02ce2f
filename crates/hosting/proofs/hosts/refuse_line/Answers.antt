-- Without memory nothing is written.
use Rattle.std.proofs.lemmas.Result.{err_from_is_err_and}
use Rattle.std.proofs.KnownBytes.{Keeps-refl}
use Rattle.fab_io.specs.Ends.{WriteTakes}
use Rattle.fab_io.proofs.Content.{AppendsFront-none}
use Rattle.hosting.specs.declared.faults.HostFault.TheVariants.{NoMemory}
use Rattle.hosting.specs.Answers.{bad_line_text}
use Rattle.hosting.proofs.Stopping.{at_exit}
use Rattle.hosting.proofs.hosts.refuse_line.Goals as goal

pub returns-in_err-text-clause-content : goal.returns-in_err-text-clause-content
returns-in_err-text-clause-content g c =
    let q = err_from_is_err_and c.from_residual.result c.from_residual.ensures.1 in
    let told = g.K.Sink.told c.args.sink.now in
    at_exit c.from_residual.result NoMemory (λ r. WriteTakes told told r (bad_line_text c.args.number)) q.0 q.1 q.2 (AppendsFront-none told told _ (Keeps-refl told))
