-- A stripe without entries has no happenings.
use Rattle.std.proofs.Common.{◌∙◌, sym}
use Rattle.std.proofs.lemmas.Option.{IfSome_then}
use Rattle.world.specs.Runs.{world_of}
use Rattle.world.proofs.StripeRanges.{no_happenings, none_happens}
use Rattle.world.proofs.worlds.World.next_stripe.Goals as goal

pub returns-clause-none : goal.returns-clause-none
returns-clause-none c =
    none_happens c.next_stripe.result
    (λ none s least less. no_happenings (world_of c.args.self.now) c.args.group.0 s (sym (c.requires.entries c.args.group.0 s) ∙ none s least less))
    c.next_stripe.ensures.none

pub returns-clause-some : goal.returns-clause-some
returns-clause-some c =
    IfSome_then c.next_stripe.result c.next_stripe.ensures.some
    (λ stripe found. (
      found.0,
      found.1,
      λ s least less. no_happenings (world_of c.args.self.now) c.args.group.0 s (sym (c.requires.entries c.args.group.0 s) ∙ found.2 s least less),
    ))
