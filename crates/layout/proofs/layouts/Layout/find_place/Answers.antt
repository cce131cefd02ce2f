-- The segments of a volume are those of groups.
use Rattle.std.proofs.Common.{sym, subst, rules}
use Rattle.std.specs.List.{AllByRecursion}
use Rattle.layout.specs.Limits.{IsSegment}
use Rattle.layout.proofs.PlaceLaws.{volume_is}
use Rattle.layout.proofs.layouts.Layout.find_place.Goals as goal

pub place_in-requires : goal.place_in-requires
place_in-requires c =
    let volume = c.in_ok-volume.volume.now in
    let is = volume_is c.args.self.now c.args.volume.now volume c.is_within_limits.ensures (search rules) in
    subst (AllByRecursion (IsSegment c.args.self.now.groups)) (sym c.segments.ensures) is.each
