-- The first stamp reported is the one that all report, or there is none.
use Rattle.std.proofs.Common.{◌≡◌, Some, true, length, ap, sym, ◌∙◌}
use Rattle.std.specs.List.{find, list_all}
use Rattle.std.specs.Option.{option_and_then}
use Rattle.quorum.specs.Tallies.{is_counted, mark_of, fits}
use Rattle.quorum.proofs.Agreements.{unanimous_first, unanimous_fits, unanimous_from}
use Rattle.quorum.proofs.tallies.Tally.agreed.Goals as goal

pub returns-in-None : goal.returns-in-None
returns-in-None c = λ v unanimous.
    let votes = c.args.self.now in
    let same = c.replies-replies.ensures.value in
    let size : length votes.seats ≡ votes.n = ap length (sym same) ∙ c.replies-replies.ensures.len in
    let first : option_and_then mark_of (find is_counted votes.seats) ≡ Some v = unanimous_first votes v size unanimous in
    cc

pub returns-then-all_fit : goal.returns-then-all_fit
returns-then-all_fit c =
    let votes = c.args.self.now in
    let same = c.replies-replies.ensures.value in
    let size : length votes.seats ≡ votes.n = ap length (sym same) ∙ c.replies-replies.ensures.len in
    let first : option_and_then mark_of (find is_counted votes.seats) ≡ Some c.in-Some.first = cc in
    let fit : list_all (fits c.in-Some.first) votes.seats ≡ true = cc in
    unanimous_from votes c.in-Some.first size first fit

pub returns-else-all_fit : goal.returns-else-all_fit
returns-else-all_fit c = λ v unanimous.
    let votes = c.args.self.now in
    let same = c.replies-replies.ensures.value in
    let size : length votes.seats ≡ votes.n = ap length (sym same) ∙ c.replies-replies.ensures.len in
    let first : option_and_then mark_of (find is_counted votes.seats) ≡ Some v = unanimous_first votes v size unanimous in
    let fit : list_all (fits v) votes.seats ≡ true = unanimous_fits votes v size unanimous in
    let is : c.in-Some.first ≡ v = cc in
    cc
