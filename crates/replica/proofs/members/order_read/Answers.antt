-- A stamp that is not below the top is not below the order stamp.
use Rattle.std.proofs.Common.{true, sym, ap, ◌∙◌}
use Rattle.fab_base.specs.Stamps.{stamp_below}
use Rattle.replica.specs.Parts.{part_seen}
use Rattle.replica.proofs.Deciding.{not_below_order}
use Rattle.replica.proofs.members.order_read.Goals as goal

pub promise-requires : goal.promise-requires
promise-requires c = not_below_order (part_seen c.args.part.now true) c.args.stamp (ap (stamp_below c.args.stamp) (sym (c.top-top.ensures true))
    ∙ sym c.is_below.ensures ∙ c.if-is_below.false)
