use Rattle.std.proofs.Common.{inr, refl, ◌∙◌}
use Rattle.brick_store.proofs.Words.{leaves}
use Rattle.brick.proofs.Found.{fresh}
use Rattle.brick.proofs.Hosts.{fresh_returned}
use Rattle.brick.proofs.formats.make_store.Goals as goal

pub returns-in-Ok-made-clause-makes : goal.returns-in-Ok-made-clause-makes
returns-in-Ok-made-clause-makes g c = (
  refl,
  (
    c.make_on-made.new.disk,
    record {
      asked = c.keep_disk.ensures.asked ∙ c.in-Ok.ensures.asked;
      later = rw (c.keep_disk.ensures.faults) c.in-Ok.ensures.kept.later;
      told = fresh_returned _ _ _ _ _ _ _ (c.in-Ok.ensures.makes refl) c.keep_disk.ensures.holds;
    },
    λ tells.
        let stands = c.in-Ok-made.ensures.change.whole refl tells in
        fresh _ _ _ _ _ _ _ _ c.block.ensures c.records.ensures.value c.store-is_old.ensures stands.has (leaves _ _ _ stands) (c.in-Ok-made.ensures.form tells),
  ),
)

pub returns-in-Err-NoMemory-made-clause-makes : goal.returns-in-Err-NoMemory-made-clause-makes
returns-in-Err-NoMemory-made-clause-makes g c = inr (
  c.make_on-made.new.disk,
  record {
    asked = c.keep_disk.ensures.asked ∙ c.in-Ok.ensures.asked;
    later = rw (c.keep_disk.ensures.faults) c.in-Ok.ensures.kept.later;
    told = fresh_returned _ _ _ _ _ _ _ (c.in-Ok.ensures.makes refl) c.keep_disk.ensures.holds;
  },
)
