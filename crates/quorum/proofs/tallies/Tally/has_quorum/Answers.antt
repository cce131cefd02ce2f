-- The counted seats, by list and by seat, against a quorum's size.
use Rattle.std.proofs.Common.{◌≡◌, length, ap, sym, ◌∙◌, arith}
use Rattle.std.specs.List.{count_by}
use Rattle.std.proofs.lemmas.Bool.Decides.{nat_tests}
use Rattle.quorum.specs.Quorums.{count}
use Rattle.quorum.specs.Tallies.{Votes, is_counted, counted}
use Rattle.quorum.proofs.TallyCounts.{count_of_seats}
use Rattle.quorum.proofs.tallies.Tally.has_quorum.Goals as goal

pub returns : goal.returns
returns c =
    let votes = c.args.self.now in
    let same = c.replies.ensures.value in
    let size : length votes.seats ≡ votes.n = ap length (sym same) ∙ c.replies.ensures.len in
    let many : c.counted_seats.result ≡ count votes.n (counted votes) = c.counted_seats.ensures ∙ ap (count_by is_counted) same
    ∙ count_of_seats is_counted votes size in
    let quorum : c.from.result ≡ votes.q = c.from.ensures ∙ ap (λ (tally : Votes). tally.q) c.self.view_is in
    (λ is. grind (arith, nat_tests, is), λ enough. grind (arith, nat_tests, enough))
