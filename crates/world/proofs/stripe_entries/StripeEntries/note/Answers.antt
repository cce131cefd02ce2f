-- the entry of an operation that made or read a version, or none
use Rattle.std.proofs.Common.{Option, not, nat_eq, ◌&&◌, ◌++◌, cond, [], ap, sym, ◌∙◌}
use Rattle.std.proofs.lemmas.Result.{on_ok_weaker}
use Rattle.fab_base.specs.declared.stamps.Stamp.{Stamp}
use Rattle.protocol.specs.Happenings.{entry_with}
use Rattle.world.specs.Walks.{entries_at}
use Rattle.world.proofs.EntryMaps.{no_entry}
use Rattle.world.proofs.stripe_entries.StripeEntries.note.Goals as goal

pub returns-in-Some : goal.returns-in-Some
returns-in-Some c =
    on_ok_weaker c.add.result
    (λ added g s. added g s ∙ ap (λ (version : Option Stamp). entries_at c.args.self.now g s
    ++ cond (nat_eq c.args.kept.now.group.0 g && nat_eq c.args.kept.now.stripe.0 s) (entry_with c.args.number (not c.args.kept.now.made) version) [])
    (sym c.in-Some.is))
    c.add.ensures

pub returns-in-None : goal.returns-in-None
returns-in-None c g s =
    no_entry (nat_eq c.args.kept.now.group.0 g && nat_eq c.args.kept.now.stripe.0 s) (entries_at c.args.self.now g s)
    ∙ ap (λ (version : Option Stamp). entries_at c.args.self.now g s
    ++ cond (nat_eq c.args.kept.now.group.0 g && nat_eq c.args.kept.now.stripe.0 s) (entry_with c.args.number (not c.args.kept.now.made) version) [])
    (sym c.in-None.is)
