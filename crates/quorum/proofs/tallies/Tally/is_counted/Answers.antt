-- The seat's place is within the tally.
use Rattle.std.proofs.Common.{◌≡◌, ◌<◌, ap, sym, ◌∙◌, subst}
use Rattle.std.proofs.lemmas.List.{get_or-take}
use Rattle.std.specs.Prelude.{slice_index_or}
use Rattle.quorum.specs.declared.seats.Seat.TheVariants.{Silent}
use Rattle.quorum.specs.Tallies.{Votes, is_counted, counted}
use Rattle.quorum.proofs.tallies.Tally.is_counted.Goals as goal

pub returns : goal.returns
returns c =
    let inside = c.self.inside in
    let P : Votes → Type 0 = λ votes. c.args.seat < votes.n → is_counted (slice_index_or inside.seats c.args.seat Silent) ≡ counted votes c.args.seat in
    c.is_counted.ensures ∙ ap (λ k. is_counted (slice_index_or inside.seats k Silent)) c.from.ensures
    ∙ subst P c.self.view_is (λ within. ap is_counted (sym (get_or-take inside.n inside.seats c.args.seat Silent within))) c.requires
