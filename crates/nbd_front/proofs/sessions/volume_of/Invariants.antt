use Rattle.std.proofs.Common.{◌≡◌, drop}
use Rattle.std.specs.List.{find}
use Rattle.std.specs.Str.{bytes_eq}
use Rattle.layout.specs.Places.{volume_of}
use Rattle.nbd_front.proofs.sessions.volume_of.Given as goal

-- the volume is among those that are left, if it is among all
abbrev pub invariant-loop-volume : goal.invariant-loop-volume
invariant-loop-volume l =
    find (λ volume. bytes_eq volume.name l.name) (drop l.volume-index l.volume-items) ≡ volume_of l.layout l.name
