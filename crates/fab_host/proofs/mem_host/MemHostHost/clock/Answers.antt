use Rattle.std.proofs.Common.{ap, sym, subst, ◌∙◌}
use Rattle.fab_io.specs.Calls.{NoneToFail}
use Rattle.fab_host.specs.Held.{IsMissing}
use Rattle.fab_host.proofs.Lending.{kept_refused}
use Rattle.fab_host.specs.Slots.{held_in}
use Rattle.fab_host.proofs.Lending.{missing_lent}
use Rattle.fab_host.proofs.mem_host.MemHostHost.clock.Goals as goal

pub returns-in-None-clause-kept : goal.returns-in-None-clause-kept
returns-in-None-clause-kept c =
    kept_refused c.count.ensures.kept.later c.refuse.ensures.later c.refuse.ensures.rose
    (λ s. record {
      unlisted = subst NoneToFail (sym c.refuse.ensures.counted) (c.count.ensures.kept.stays s.unlisted);
      sources = s.sources;
      disks = s.disks;
      links = s.links;
      sessions = s.sessions;
      clock = λ x is. absurd (missing_lent c.take.new.self x c.take.ensures.after is);
    })
    (subst IsMissing (sym (ap held_in (sym c.take.ensures.value ∙ c.in-None.is))) tt)
