-- How turns, and stores that are not opened, end a program.
use Rattle.std.proofs.Common.{◌≡◌, ◌≢◌, ◌⊎◌, ◌-◌, ◌^◌, ℕ, arith, List, Result, Ok, Err, inl, inr, refl}
use Rattle.std.specs.Prelude.{IsOk}
use Rattle.fab_base.specs.declared.identities.BrickId.{BrickId}
use Rattle.fab_base.specs.Layouts.{Layout}
use Rattle.fab_disk.specs.Disk.{IsUntouched}
use Rattle.fab_io.specs.Ends.{Rose}
use Rattle.frame_store.specs.Images.{IsNoStore}
use Rattle.version_log.specs.Versions.{Version}
use Rattle.brick_state.specs.States.{StateOf}
use Rattle.brick_store.specs.declared.faults.OpenFault.{OpenFault}
use Rattle.brick_store.specs.declared.faults.OpenFault.TheVariants as stores
use Rattle.brick_store.specs.Images.{IsFound}
use Rattle.replica.specs.Parts.{ListsStand}
use Rattle.node.specs.Running.{shape_at}
use Rattle.serving.specs.declared.faults.ServeFault.{ServeFault}
use Rattle.serving.specs.declared.faults.ServeFault.TheVariants as faults
use Rattle.brick.specs.declared.endings.Ending.{Ending}
use Rattle.brick.specs.declared.endings.Ending.TheVariants.{Formatted, Ended, Commanded, Served, Usage, BadLayout, LongLayout, Source, Sink, Memory, Disk, Host, NotAStore, Worn}
use Rattle.brick.specs.Endings.{status_of, IsDone}
use Rattle.brick.specs.Serves.{ending_of, refusal_of, RoseAt, IsUnharmed, RefusesStore}
use Rattle.brick.specs.Views.{Views}

-- each fault of a turn is one of the thing whose count of faults rose
pub rose_at : {D L C : Type 0} (v : Views D L C) (disk disk_after : D) (link link_after : L) (clock clock_after : C) (result : Result ℕ ServeFault)
    → (result ≡ Err faults.Disk → Rose (v.disk.faults disk) (v.disk.faults disk_after))
    → (result ≡ Err faults.Link → Rose (v.link.faults link) (v.link.faults link_after))
    → (result ≡ Err faults.Clock → Rose (v.clock.faults clock) (v.clock.faults clock_after))
    → RoseAt v disk disk_after link link_after clock clock_after result
rose_at v disk disk_after link link_after clock clock_after (Ok malformed) at_disk at_link at_clock = tt
rose_at v disk disk_after link link_after clock clock_after (Err faults.Disk) at_disk at_link at_clock = at_disk refl
rose_at v disk disk_after link link_after clock clock_after (Err faults.Halted) at_disk at_link at_clock = tt
rose_at v disk disk_after link link_after clock clock_after (Err faults.Link) at_disk at_link at_clock = at_link refl
rose_at v disk disk_after link link_after clock clock_after (Err faults.Clock) at_disk at_link at_clock = at_clock refl
rose_at v disk disk_after link link_after clock clock_after (Err faults.NoMemory) at_disk at_link at_clock = tt

-- the sink is no fault of turns
pub turns_not_sink : (turns : ℕ) (result : Result ℕ ServeFault) → status_of (ending_of turns result) ≡ 6 → ⊥
turns_not_sink turns (Ok malformed) e = absurd (omega arith)
turns_not_sink turns (Err faults.Disk) e = absurd (omega arith)
turns_not_sink turns (Err faults.Halted) e = absurd (omega arith)
turns_not_sink turns (Err faults.Link) e = absurd (omega arith)
turns_not_sink turns (Err faults.Clock) e = absurd (omega arith)
turns_not_sink turns (Err faults.NoMemory) e = absurd (omega arith)

-- turns that were all taken, or for which no memory was left
pub turns_done : (turns : ℕ) (result : Result ℕ ServeFault) → IsOk result ⊎ (result ≡ Err faults.NoMemory) → IsDone (ending_of turns result)
turns_done turns (Ok malformed) end = tt
turns_done turns (Err faults.Disk) end = elim end [ inl ok ↦ cc | inr e ↦ cc ]
turns_done turns (Err faults.Halted) end = elim end [ inl ok ↦ cc | inr e ↦ cc ]
turns_done turns (Err faults.Link) end = elim end [ inl ok ↦ cc | inr e ↦ cc ]
turns_done turns (Err faults.Clock) end = elim end [ inl ok ↦ cc | inr e ↦ cc ]
turns_done turns (Err faults.NoMemory) end = tt

-- a disk that was not touched is unharmed
pub unharmed : {D L C : Type 0} (v : Views D L C) (moment : D → ℕ) (left_since : D → ℕ → List ℕ → Type 0) (disk back : D)
    → IsUntouched v.disk.seen v.disk.may_leave moment left_since disk back → IsUnharmed v disk back
unharmed v moment left_since disk back untouched = record { content = untouched.content; crash = untouched.crash }

-- each cause of a store that is not opened
pub refuses : {D L C : Type 0} (v : Views D L C) (layout : Layout) (me : BrickId) (moment : D → ℕ) (left_since : D → ℕ → List ℕ → Type 0) (disk back : D)
    (fault : OpenFault) → (fault ≡ stores.Disk → Rose (v.disk.faults disk) (v.disk.faults back))
    → (fault ≡ stores.NotAStore → v.disk.tells
    → (IsNoStore (shape_at layout me) (v.disk.seen disk) × IsUntouched v.disk.seen v.disk.may_leave moment left_since disk back)
    ⊎ ((st : StateOf Version) × IsFound (shape_at layout me) st (v.disk.seen disk) × (ListsStand layout st → ⊥)))
    → (fault ≡ stores.Worn → v.disk.tells → (st : StateOf Version) × IsFound (shape_at layout me) st (v.disk.seen disk) × (st.boot ≡ 2 ^ 32 - 1))
    → ((fault ≡ stores.Worn) ⊎ (fault ≡ stores.NoMemory) → IsUntouched v.disk.seen v.disk.may_leave moment left_since disk back)
    → RefusesStore v layout me disk back (refusal_of fault)
refuses v layout me moment left_since disk back stores.Disk at_disk none worn untouched = at_disk refl
refuses v layout me moment left_since disk back stores.NotAStore at_disk none worn untouched =
    λ tells. elim (none refl tells) [ inl gone ↦ inl (gone.0, unharmed v moment left_since disk back gone.1) | inr kept ↦ inr kept ]
refuses v layout me moment left_since disk back stores.Worn at_disk none worn untouched =
    (unharmed v moment left_since disk back (untouched (inl refl)), worn refl)
refuses v layout me moment left_since disk back stores.NoMemory at_disk none worn untouched = tt

-- it is no fault of the sink
pub refusal_not_sink : (fault : OpenFault) → status_of (refusal_of fault) ≡ 6 → ⊥
refusal_not_sink stores.Disk e = absurd (omega arith)
refusal_not_sink stores.NotAStore e = absurd (omega arith)
refusal_not_sink stores.Worn e = absurd (omega arith)
refusal_not_sink stores.NoMemory e = absurd (omega arith)

-- where none of these causes is there, no memory was left
pub refusal_done : (fault : OpenFault) → fault ≢ stores.Disk → fault ≢ stores.NotAStore → fault ≢ stores.Worn → IsDone (refusal_of fault)
refusal_done stores.Disk not_disk not_none not_worn = absurd (not_disk refl)
refusal_done stores.NotAStore not_disk not_none not_worn = absurd (not_none refl)
refusal_done stores.Worn not_disk not_none not_worn = absurd (not_worn refl)
refusal_done stores.NoMemory not_disk not_none not_worn = tt

-- a disk that failed ends the program so
pub not_disk_turns : (turns : ℕ) (result : Result ℕ ServeFault) → ending_of turns result ≢ Disk → result ≢ Err faults.Disk
not_disk_turns turns (Ok malformed) not = λ e. cc
not_disk_turns turns (Err faults.Disk) not = λ e. not refl
not_disk_turns turns (Err faults.Halted) not = λ e. cc
not_disk_turns turns (Err faults.Link) not = λ e. cc
not_disk_turns turns (Err faults.Clock) not = λ e. cc
not_disk_turns turns (Err faults.NoMemory) not = λ e. cc

-- a disk failed, or not
pub disk_or_not : (ending : Ending) → (ending ≡ Disk) ⊎ (ending ≢ Disk)
disk_or_not Disk = inl refl
disk_or_not (Formatted me) = inr (λ e. cc)
disk_or_not (Ended turns malformed) = inr (λ e. cc)
disk_or_not Commanded = inr (λ e. cc)
disk_or_not (Served end) = inr (λ e. cc)
disk_or_not Usage = inr (λ e. cc)
disk_or_not (BadLayout fault) = inr (λ e. cc)
disk_or_not LongLayout = inr (λ e. cc)
disk_or_not Source = inr (λ e. cc)
disk_or_not Sink = inr (λ e. cc)
disk_or_not Memory = inr (λ e. cc)
disk_or_not Host = inr (λ e. cc)
disk_or_not NotAStore = inr (λ e. cc)
disk_or_not Worn = inr (λ e. cc)
