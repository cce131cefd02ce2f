-- A place of a segment is one of its group.
use Rattle.std.proofs.Common.{rules}
use Rattle.layout.proofs.PlaceLaws.{numbers, segment_fits}
use Rattle.layout.proofs.layouts.Layout.place_from.Goals as goal

pub overflow_add-result : goal.overflow_add-result
overflow_add-result c =
    let has = numbers c.args.self.now c.args.segment c.args.byte c.requires.below in
    let fits = segment_fits c.args.self.now c.args.segment c.is_within_limits.ensures c.requires.held in
    search (rules, has.stripe, fits)
