-- A version that is not held, and not below the top, is above the newest one.
use Rattle.std.proofs.Common.{◌≡◌, true, false, sym, ap, ◌∙◌}
use Rattle.fab_base.specs.Stamps.{stamp_below}
use Rattle.protocol.specs.Replicas.{top_of}
use Rattle.replica.specs.Parts.{part_seen}
use Rattle.replica.proofs.Deciding.{above_newest}
use Rattle.replica.proofs.members.settled_reply.Goals as goal

pub returns-clause-above : goal.returns-clause-above
returns-clause-above c =
    let part = part_seen c.args.part.now true in
    let not_below : stamp_below c.args.stamp (top_of (part_seen c.args.part.now true)) ≡ false = ap (stamp_below c.args.stamp) (sym (c.top-top.ensures true))
    ∙ sym c.is_below.ensures ∙ c.if-is_below.false in
    above_newest part c.args.stamp (sym c.is_held.ensures ∙ c.if-is_held.false) not_below
