-- What is seen of the stripes is what was seen, and so are the counts.
use Rattle.std.proofs.Common.{sym, ap, ◌∙◌}
use Rattle.brick_state.specs.States.{live_in, stamp_of}
use Rattle.brick_state.specs.Times.{time_in}
use Rattle.brick_state.specs.Maps.{key_of}
use Rattle.brick_state.proofs.ViewMaps.{live-placed, time-placed}
use Rattle.brick_state.proofs.view_tables.ViewTable.make_room.Goals as goal

pub invariant_of-self : goal.invariant_of-self
invariant_of-self c =
    let t = c.args.self.now in
    let k = key_of c.args.place in
    let old = t.stripes.entries in
    let new = c.make_room.new.stripes.entries in
    record {
      fits = t.fits;
      counted = t.counted ∙ sym (live-placed k old) ∙ sym (ap live_in c.make_room.ensures.same) ∙ live-placed k new;
      timed = t.timed ∙ sym (time-placed k old) ∙ sym (ap (time_in stamp_of) c.make_room.ensures.same) ∙ time-placed k new;
      ordered = c.make_room.ensures.ordered;
    }
