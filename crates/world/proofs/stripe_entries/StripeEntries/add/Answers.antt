-- the stripe's entries are put back with one more
use Rattle.std.proofs.Common.{◌∷◌, [], ◌++◌, unwrap_or, ap, ◌∙◌}
use Rattle.world.proofs.EntryMaps.{added_at}
use Rattle.world.proofs.stripe_entries.StripeEntries.add.Goals as goal

pub returns : goal.returns
returns c =
    added_at c.args.self.now.entries c.remove.new.self c.insert.new.self c.args.group.0 c.args.stripe.0 c.push.new.self c.new.result c.args.entry
    c.remove.ensures.updates c.in_ok-insert.ensures.updates c.new.ensures.items
    (c.in_ok-push.ensures.items
    ∙ ap (λ v. v.items ++ c.args.entry ∷ []) (c.unwrap_or-entries.ensures ∙ ap (λ o. unwrap_or o c.new.result) c.remove.ensures.value))
