-- A volume has few segments.
use Rattle.std.proofs.Common.{length, List, sym, subst, rules, ◌≤◌}
use Rattle.fab_base.specs.declared.segments.Segment.{Segment}
use Rattle.layout.proofs.PlaceLaws.{volume_is}
use Rattle.layout.proofs.layouts.Layout.length.Goals as goal

pub run_length-requires : goal.run_length-requires
run_length-requires c =
    let volume = c.in_ok-volume.volume.now in
    let is = volume_is c.args.self.now c.args.volume.now volume c.is_within_limits.ensures (search rules) in
    subst (λ (segments : List Segment). length segments ≤ 1024) (sym c.segments.ensures) is.few_segments
