use Rattle.std.proofs.Common.{Err, ap, arith}
use Rattle.std.proofs.lemmas.Result.{err_from_is_err_and}
use Rattle.fab_base.proofs.Keeping.{Kept-refl, Kept-trans, Kept-calm, Kept-narrower}
use Rattle.fab_io.proofs.Told.{Stays-refl, Grows-none}
use Rattle.serving.specs.declared.faults.ServeFault.{ServeFault}
use Rattle.serving.specs.declared.faults.ServeFault.TheVariants.{Link}
use Rattle.serving.proofs.Carried.{sent_more, sent_first}
use Rattle.serving.proofs.Looks.{Stays-trans}
use Rattle.serving.proofs.Ends.{on_err, was_met}
use Rattle.serving.proofs.sending.send_all.Goals as goal

pub loop-to-init : goal.loop-to-init
loop-to-init g c = record {
  waiting = Stays-refl (g.L.Link.waiting c.args.link.now);
  sent = Grows-none (g.L.Link.sent c.args.link.now) (g.L.Link.sent c.args.link.now) (Stays-refl (g.L.Link.sent c.args.link.now));
  kept = Kept-refl _ _;
}

pub loop-to-preserved : goal.loop-to-preserved
loop-to-preserved g c = record {
  waiting = Stays-trans _ _ _ c.loop-to.invariant.waiting c.in_ok-send.ensures.waiting;
  sent = sent_more _ _ _ c.args.ports c.args.messages.now c.loop-to.to-index c.port_of.result c.loop-to-item.result (omega arith) c.loop-to-item.is
      c.port_of.ensures c.loop-to.invariant.sent c.in_ok-send.ensures.sent;
  kept = Kept-trans c.loop-to.invariant.kept (Kept-calm c.in_ok-send.ensures.kept);
}

pub returns-in_err-send-clause-waiting : goal.returns-in_err-send-clause-waiting
returns-in_err-send-clause-waiting g c = Stays-trans _ _ _ c.loop-to.invariant.waiting c.in_err-send.ensures.waiting

pub returns-in_err-send-clause-front : goal.returns-in_err-send-clause-front
returns-in_err-send-clause-front g c =
    on_err c.from_residual.result
    (sent_first _ _ _ c.args.ports c.args.messages.now c.loop-to.to-index c.loop-to.invariant.sent c.in_err-send.ensures.sent)

pub returns-in_err-send-clause-kept : goal.returns-in_err-send-clause-kept
returns-in_err-send-clause-kept g c =
    let q = err_from_is_err_and c.from_residual.result c.from_residual.ensures.1 in
    Kept-trans c.loop-to.invariant.kept
    (Kept-narrower (λ e. ap (λ (fault : ServeFault). Err fault) (was_met c.from_residual.result c.in_err-send.field-0.0 Link q.0 q.1 q.2 e)) c.in_err-send.ensures.kept)

pub returns-clause-waiting : goal.returns-clause-waiting
returns-clause-waiting g c = c.loop-to.invariant.waiting

pub returns-clause-kept : goal.returns-clause-kept
returns-clause-kept g c = Kept-narrower (λ e. cc) c.loop-to.invariant.kept
