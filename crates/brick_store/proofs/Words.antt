-- What a disk that stands leaves after a crash.
use Rattle.std.proofs.Common.{List, ℕ, sym, subst}
use Rattle.fab_disk.specs.declared.disk.Disk as on_disk
use Rattle.fab_disk.specs.Changing.{Stands}

-- a crash leaves only what is so
pub leaves : {D : Type 0} (d : on_disk.Ghosts D) (P : List ℕ → Type 0) (disk : D) → Stands d P disk → (image : List ℕ) → d.may_leave disk image → P image
leaves d P disk stands image left = subst P (sym (stands.only image left)) stands.has
