use Rattle.std.proofs.Common.{rules, ◌≡◌, Err, ap, sym, subst, arith, ◌∙◌}
use Rattle.std.specs.Str.{bytes_eq}
use Rattle.fab_disk.specs.MemDisk.{IsSound}
use Rattle.fab_base.specs.declared.faults.IoFault.TheVariants.{Failed}
use Rattle.fab_host.specs.Held.{AllHere, absent, lent, at_name}
use Rattle.fab_host.specs.InMemory.{HoldingsInMemory, seen_of}
use Rattle.fab_host.specs.Slots.{named}
use Rattle.fab_host.proofs.Lending.{AllHere-lent, kept_lent}
use Rattle.fab_host.proofs.mem_host.MemHost.make_disk.Goals as goal

pub returns-clause-makes : goal.returns-clause-makes
returns-clause-makes c =
    let is : c.in_ok-key.key ≡ c.args.name.now = search rules in
    let grown : named c.push_named.new.slots.items ≡ at_name (named c.args.self.now.disks.items) c.args.name.now lent = c.push_named.ensures
    ∙ ap (λ l. at_name (named l) c.in_ok-key.key lent) c.reserve.ensures.items
    ∙ ap (λ k. at_name (named c.args.self.now.disks.items) k lent) is in
    let no_source : named c.args.self.now.sources.items c.args.name.now ≡ absent = search rules in
    let no_disk : named c.reserve.new.self.items c.args.name.now ≡ absent = search rules in (
      (no_source, ap (λ l. named l c.args.name.now) (sym c.reserve.ensures.items) ∙ no_disk),
      ap (λ f. let h : HoldingsInMemory = record { sources = (seen_of c.args.self.now).held.sources; disks = f; links = (seen_of c.args.self.now).held.links; sessions = (seen_of c.args.self.now).held.sessions; clock = (seen_of c.args.self.now).held.clock } in h) grown,
    )

pub returns-clause-kept : goal.returns-clause-kept
returns-clause-kept c =
    let is : c.in_ok-key.key ≡ c.args.name.now = search rules in
    let grown : named c.push_named.new.slots.items ≡ at_name (named c.args.self.now.disks.items) c.args.name.now lent = c.push_named.ensures
    ∙ ap (λ l. at_name (named l) c.in_ok-key.key lent) c.reserve.ensures.items
    ∙ ap (λ k. at_name (named c.args.self.now.disks.items) k lent) is in
    kept_lent c.count.ensures.kept.later
    (λ s. record { unlisted = c.count.ensures.kept.stays s.unlisted; sources = s.sources; disks = AllHere-lent bytes_eq IsSound _ _ c.args.name.now grown s.disks; links = s.links; sessions = s.sessions; clock = s.clock })
    (λ e. cc)

-- no memory was left, and nothing has changed
pub returns-in_err-reserve-clause-kept : goal.returns-in_err-reserve-clause-kept
returns-in_err-reserve-clause-kept c =
    let calm : c.from_residual-in_err-reserve.result ≡ Err Failed → ⊥ = search rules in
    kept_lent (omega arith)
    (λ s. record { unlisted = s.unlisted; sources = s.sources; disks = subst (λ l. AllHere IsSound (named l)) (sym c.reserve.ensures.items) s.disks; links = s.links; sessions = s.sessions; clock = s.clock })
    calm

-- no memory was left, and nothing has changed
pub returns-in_err-name_asked-clause-kept : goal.returns-in_err-name_asked-clause-kept
returns-in_err-name_asked-clause-kept c =
    let calm : c.from_residual-in_err-name_asked.result ≡ Err Failed → ⊥ = search rules in
    kept_lent (omega arith)
    (λ s. record { unlisted = s.unlisted; sources = s.sources; disks = subst (λ l. AllHere IsSound (named l)) (sym c.reserve.ensures.items) s.disks; links = s.links; sessions = s.sessions; clock = s.clock })
    calm

-- no memory was left, and nothing has changed
pub returns-in_err-ask-clause-kept : goal.returns-in_err-ask-clause-kept
returns-in_err-ask-clause-kept c =
    let calm : c.from_residual-in_err-ask.result ≡ Err Failed → ⊥ = search rules in
    kept_lent (omega arith)
    (λ s. record { unlisted = s.unlisted; sources = s.sources; disks = subst (λ l. AllHere IsSound (named l)) (sym c.reserve.ensures.items) s.disks; links = s.links; sessions = s.sessions; clock = s.clock })
    calm
