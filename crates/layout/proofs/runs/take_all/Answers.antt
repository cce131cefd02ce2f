-- Each segment that is taken is one of the list's.
use Rattle.std.proofs.Common.{subst}
use Rattle.layout.specs.Runs.{HasOwnPlaces, Takes}
use Rattle.layout.proofs.TakenRuns.{none_yet, more_taken, one_taken, all_taken, at_place}
use Rattle.layout.proofs.runs.take_all.Goals as goal

pub loop-segment-init : goal.loop-segment-init
loop-segment-init c = none_yet _ _

pub take_one-requires : goal.take_one-requires
take_one-requires c = at_place HasOwnPlaces c.args.segments.now c.loop-segment.segment-index _ c.requires c.loop-segment-test.true

pub loop-segment-preserved : goal.loop-segment-preserved
loop-segment-preserved c =
    more_taken _ _ _ c.args.segments.now c.loop-segment.segment-index _ c.loop-segment-test.true c.loop-segment.invariant
    (subst (Takes c.loop-segment.ends c.take_one.new.ends _) c.if-not-branch.false c.in_ok-take_one.ensures)

pub returns-then-not-branch : goal.returns-then-not-branch
returns-then-not-branch c =
    one_taken _ _ _ c.args.segments.now c.loop-segment.segment-index _ c.loop-segment-test.true c.loop-segment.invariant
    (subst (Takes c.loop-segment.ends c.take_one.new.ends _) c.if-not-branch.true c.in_ok-take_one.ensures)

pub returns : goal.returns
returns c = all_taken _ _ c.args.segments.now c.loop-segment.segment-index c.loop-segment-test.false c.loop-segment.invariant
