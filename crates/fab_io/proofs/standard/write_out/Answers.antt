use Rattle.std.proofs.Common.{◌≡◌, rules, length}
use Rattle.fab_io.proofs.Pieces.{Written-none, Written-more, Written-kept, Written-part, Written-whole, WriteTakes-flushed}
use Rattle.fab_io.proofs.standard.write_out.Goals as goal
use Rattle.fab_io.proofs.standard.write_out.Goals.{in-Ok, in-Err+else-ne}

pub loop-init : goal.loop-init
loop-init g c = Written-none _ _

pub returns-then-is_empty : goal.returns-then-is_empty
returns-then-is_empty g c =
    let none : length c.loop.rest.now ≡ 0 = search rules in
    let written = Written-kept _ _ _ _ _ c.loop.invariant c.flush.ensures.bytes in
    WriteTakes-flushed _ _ c.flush.result _ (Written-whole _ _ _ _ written none)

pub returns-in-Ok-eq0 : goal.returns-in-Ok-eq0
returns-in-Ok-eq0 g c = Written-part _ _ _ _ (Written-more _ _ _ _ _ _ c.loop.invariant c.in-Ok-eq0.ensures.bytes)

pub returns-then-ne : goal.returns-then-ne
returns-then-ne g c = Written-part _ _ _ _ (Written-kept _ _ _ _ _ c.loop.invariant c.in-Err.ensures.bytes)

pub loop-preserved : goal.loop-preserved
loop-preserved g c =
    elim c.match-write.branch [
      | in-Ok w ↦ rw w.rest-is (Written-more _ _ _ _ _ _ c.loop.invariant w.in-Ok.ensures.bytes)
      | in-Err+else-ne w ↦ rw w.rest-is (Written-kept _ _ _ _ _ c.loop.invariant w.in-Err.ensures.bytes)
    ]

pub returns : goal.returns
returns g c = Written-part _ _ _ _ c.loop.invariant
