-- An old store was brought over, or was refused.
use Rattle.std.proofs.Common.{refl, sym, subst}
use Rattle.brick_store.specs.Openings.{StartsOver, stopped_by}
use Rattle.brick_store.specs.ReadStores.{old_state_of}
use Rattle.brick_store.proofs.KeptLogs.{standing_stands}
use Rattle.brick_store.proofs.openings.open_over.Goals as goal

pub returns-in-Ok-clause-stands : goal.returns-in-Ok-clause-stands
returns-in-Ok-clause-stands g c = λ told.
    let made = c.in-Ok.ensures in
    let taken = c.in-Ok.taken in
    standing_stands g.D.Disk taken.blocks taken.zero c.take_over.new.frames taken.index made.standing told (made.still_runs refl)

pub returns-in-Err-clause-starts : goal.returns-in-Err-clause-starts
returns-in-Err-clause-starts g c =
    let held = c.args.frames in
    subst (λ (last : g.row.D.Denot). StartsOver g.D.Disk (old_state_of held) held last (stopped_by c.in-Err.fault))
    (sym c.into_disk.ensures) c.in-Err.ensures.starts
