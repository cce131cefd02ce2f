-- Without memory nothing is written.
use Rattle.std.proofs.Common.{sym, ap, ◌∙◌, subst}
use Rattle.std.proofs.lemmas.Result.{err_from_is_err_and}
use Rattle.std.proofs.KnownBytes.{Keeps-refl}
use Rattle.fab_io.specs.Ends.{AppendsFront, WriteTakes}
use Rattle.fab_io.proofs.Content.{AppendsFront-none}
use Rattle.hosting.specs.declared.faults.HostFault.TheVariants.{NoMemory}
use Rattle.hosting.specs.Hosting.{printed}
use Rattle.hosting.proofs.Stopping.{at_exit}
use Rattle.hosting.proofs.hosts.print_answer.Goals as goal

pub returns-in_err-text-in-Some-clause-content : goal.returns-in_err-text-in-Some-clause-content
returns-in_err-text-in-Some-clause-content g c =
    let q = err_from_is_err_and c.from_residual.result c.from_residual.ensures.1 in
    let told = g.K.Sink.told c.args.sink.now in
    at_exit c.from_residual.result NoMemory (λ r. WriteTakes told told r (printed c.args.reading c.args.answer.now)) q.0 q.1 q.2 (AppendsFront-none told told _ (Keeps-refl told))

-- else some of the answer may be, from its front
pub returns-in_err-write-in-Some-clause-content : goal.returns-in_err-write-in-Some-clause-content
returns-in_err-write-in-Some-clause-content g c =
    let q = err_from_is_err_and c.from_residual-in_err-write-in-Some.result c.from_residual-in_err-write-in-Some.ensures.1 in
    let old = g.K.Sink.told c.args.sink.now in
    let new = g.K.Sink.told c.write.new.sink in
    let text = c.as_bytes.ensures.value ∙ c.in_ok-text-in-Some.ensures ∙ ap (printed c.args.reading) (sym c.in-Some.is) in
    at_exit c.from_residual-in_err-write-in-Some.result c.in_err-write-in-Some.field-0.0 (λ r. WriteTakes old new r (printed c.args.reading c.args.answer.now))
    q.0 q.1 q.2 (subst (AppendsFront old new) text c.in_err-write-in-Some.ensures.content)
