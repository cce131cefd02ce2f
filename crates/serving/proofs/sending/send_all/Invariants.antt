use Rattle.std.proofs.Common.{take}
use Rattle.fab_io.specs.Ends.{Kept}
use Rattle.fab_io.specs.Datagrams.{Stays, Grows}
use Rattle.serving.specs.Datagrams.{datagrams_of}
use Rattle.serving.specs.Sending.{addressed}
use Rattle.serving.proofs.sending.send_all.Given as goal

-- the messages so far were sent
abbrev pub invariant-loop-to : goal.invariant-loop-to
invariant-loop-to g l = record {
  waiting : Stays (g.L.Link.waiting l.initial.link) (g.L.Link.waiting l.link);
  sent : Grows (g.L.Link.sent l.initial.link) (g.L.Link.sent l.link) (datagrams_of (addressed l.ports (take l.to-index l.messages)));
  kept : Kept (g.L.Link.faults l.initial.link) (g.L.Link.faults l.link) (g.L.Link.sound l.initial.link) (g.L.Link.sound l.link) ⊥;
}
