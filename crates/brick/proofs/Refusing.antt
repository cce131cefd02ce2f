-- A call of the host that opened nothing.
use Rattle.std.proofs.Common.{◌≡◌, ◌≤◌, arith, Option, Some, None, Err, refl}
use Rattle.fab_base.specs.declared.faults.IoFault.{IoFault}
use Rattle.fab_base.specs.declared.faults.IoFault.TheVariants as io
use Rattle.fab_io.specs.Ends.{Rose}
use Rattle.fab_host.specs.declared.hosts.Asked.{Asked}
use Rattle.fab_host.specs.Asking.{Asks}
use Rattle.fab_host.specs.Holdings.{Holdings}
use Rattle.fab_host.specs.Opening.{Lends, WhereTold}
use Rattle.brick.specs.declared.endings.Ending.{Ending}
use Rattle.brick_words.specs.declared.words.Task.{Task}
use Rattle.brick_words.specs.declared.words.Task.TheVariants.{Commands, Session}
use Rattle.brick_words.specs.declared.words.Work.{Work}
use Rattle.brick_words.specs.declared.words.Work.TheVariants.{Format, Serve, HostAll}
use Rattle.brick.specs.Bricks.{FailsAt}
use Rattle.brick.specs.Endings.{status_of, IsDone}
use Rattle.brick.specs.Hosts.{HostSeen, Told, Has, KnowsStill, IsRefused, refusal_by}
use Rattle.brick.specs.Locals.{FailsOut}
use Rattle.brick.proofs.Knowing.{knows_equal}
use Rattle.brick.proofs.Lending.{has_apart}

-- it left what is held
err_told : {H T : Type 0} (before after : Option H) (gives : H → T → Type 0) (lent_by : H → H) (fault : IoFault)
    → Lends before after gives lent_by (Err fault) → Told before after (λ h now. now ≡ h)
err_told None None gives lent_by fault l = tt
err_told None (Some now) gives lent_by fault l = absurd l
err_told (Some h) None gives lent_by fault l = absurd l
err_told (Some h) (Some now) gives lent_by fault l = l

pub err_knows : {S D L N C T : Type 0} (before after : Option (Holdings S D L N C)) (gives : Holdings S D L N C → T → Type 0)
    (lent_by : Holdings S D L N C → Holdings S D L N C) (fault : IoFault) → Lends before after gives lent_by (Err fault) → Told before after KnowsStill
err_knows before after gives lent_by fault l = knows_equal before after (err_told before after gives lent_by fault l)

-- it refused what it was asked for, by its fault
pub refused_by : {S D L N C T : Type 0} (before after : HostSeen S D L N C) (call : Asked) (gives : Holdings S D L N C → T → Type 0)
    (lent_by : Holdings S D L N C → Holdings S D L N C) (fault : IoFault) → Asks {T = T} before.asked after.asked call (Err fault)
    → Lends before.holds after.holds gives lent_by (Err fault) → before.faults ≤ after.faults → (fault ≡ io.Failed → Rose before.faults after.faults)
    → IsRefused before after call (refusal_by fault)
refused_by before after call gives lent_by io.Failed asked lends later rose =
    (record { asked = asked; later = later; told = err_told before.holds after.holds gives lent_by io.Failed lends }, rose refl)
refused_by before after call gives lent_by io.NoMemory asked lends later rose =
    (asked, err_told before.holds after.holds gives lent_by io.NoMemory lends)

-- over a host that holds it, and does not fail at what it holds, memory was lacking
pub refused_done : {H : Type 0} {P Q : H → Type 0} (held : Option H) (fault : IoFault) → Has held P → (fault ≡ io.Failed → WhereTold held Q)
    → ((h : H) → P h → Q h → ⊥) → IsDone (refusal_by fault)
refused_done held io.Failed has wrong apart = absurd (has_apart held has (wrong refl) apart)
refused_done held io.NoMemory has wrong apart = tt

-- the sink is no fault of it
pub refused_not_sink : (fault : IoFault) → status_of (refusal_by fault) ≡ 6 → ⊥
refused_not_sink io.Failed e = absurd (omega arith)
refused_not_sink io.NoMemory e = absurd (omega arith)

-- an ending that is no fault of the sink is none of the program's own sink, whatever the task is
pub not_out : (task : Task) (ending : Ending) → (status_of ending ≡ 6 → ⊥) → FailsOut task ending → ⊥
not_out (Commands turns) ending not e = not e
not_out (Session port turns) ending not e = e

-- nor of a work
pub not_at : (work : Work) (ending : Ending) → (status_of ending ≡ 6 → ⊥) → FailsAt work ending → ⊥
not_at (Format id) ending not e = not e
not_at (Serve id turns) ending not e = not e
not_at (HostAll task) ending not e = not_out task ending not e
