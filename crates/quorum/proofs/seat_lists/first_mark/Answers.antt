-- The first that `find` gives, and its mark.
use Rattle.std.proofs.Common.{refl, rules, tests}
use Rattle.std.proofs.lemmas.Iterator.{YieldsList-from_slice}
use Rattle.std.proofs.lemmas.Iterator.Search.{find_from_yields_List}
use Rattle.quorum.specs.Tallies.{is_counted}
use Rattle.quorum.proofs.seat_lists.first_mark.Goals as goal

pub returns-in-None : goal.returns-in-None
returns-in-None c =
    let found = find_from_yields_List is_counted _ _ c.find.result c.find.ensures.ran (YieldsList-from_slice c.args.seats.now cc)
    (λ x b q k. search (rules, tests)) in
    rw (← found, c.in-None.is) refl

pub returns-in-Some : goal.returns-in-Some
returns-in-Some c =
    let found = find_from_yields_List is_counted _ _ c.find.result c.find.ensures.ran (YieldsList-from_slice c.args.seats.now cc)
    (λ x b q k. search (rules, tests)) in
    rw (← found, c.in-Some.is) c.mark.ensures
