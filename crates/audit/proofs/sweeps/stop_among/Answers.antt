-- A line goes on, or it is the first that does not.
use Rattle.audit.proofs.LineGoing.{go_more, stop_here, stop_more, go_all, answered_as}
use Rattle.audit.proofs.sweeps.stop_among.Goals as goal

pub returns-then-not-branch : goal.returns-then-not-branch
returns-then-not-branch c =
    stop_here c.args.layout.now c.args.claims.now c.args.review.now c.args.happened.now c.loop-place.happened c.args.lines.now c.loop-place.place
    c.index-lines-place.result c.loop-place-test.true c.index-lines-place.is c.loop-place.invariant.stops
    (answered_as c.args.layout.now c.args.claims.now c.args.review.now c.loop-place.happened c.line_goes.new.happened c.index-lines-place.result _ _
    c.if-not-branch.true c.in_ok-line_goes.ensures)

pub loop-place-preserved : goal.loop-place-preserved
loop-place-preserved c =
    let goes =
    answered_as c.args.layout.now c.args.claims.now c.args.review.now c.loop-place.happened c.line_goes.new.happened c.index-lines-place.result _ _
    c.if-not-branch.false c.in_ok-line_goes.ensures in
    record {
      go = go_more c.args.layout.now c.args.claims.now c.args.review.now c.args.happened.now c.loop-place.happened c.line_goes.new.happened c.args.lines.now
          c.loop-place.place c.index-lines-place.result c.loop-place-test.true c.index-lines-place.is c.loop-place.invariant.go goes;
      stops = stop_more c.args.layout.now c.args.claims.now c.args.review.now c.args.happened.now c.loop-place.happened c.line_goes.new.happened
          c.args.lines.now c.loop-place.place c.index-lines-place.result c.loop-place-test.true c.index-lines-place.is c.loop-place.invariant.stops goes;
    }

pub returns : goal.returns
returns c =
    go_all c.args.layout.now c.args.claims.now c.args.review.now c.args.happened.now c.loop-place.happened c.args.lines.now c.loop-place.place
    c.loop-place-test.false c.loop-place.invariant.go
