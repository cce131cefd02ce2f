-- The seats that report the stamp, by list and by seat.
use Rattle.std.proofs.Common.{◌≡◌, length, ap, sym, ◌∙◌}
use Rattle.std.specs.List.{count_by}
use Rattle.quorum.specs.Tallies.{reports}
use Rattle.quorum.proofs.TallyCounts.{count_of_seats}
use Rattle.quorum.proofs.tallies.Tally.with_stamp.Goals as goal

pub returns : goal.returns
returns c =
    let votes = c.args.self.now in
    let same = c.replies.ensures.value in
    let size : length votes.seats ≡ votes.n = ap length (sym same) ∙ c.replies.ensures.len in
    c.seats_with.ensures.value ∙ ap (count_by (reports c.args.stamp)) same ∙ count_of_seats (reports c.args.stamp) votes size
