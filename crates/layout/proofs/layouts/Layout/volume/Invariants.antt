-- What is left decides.
use Rattle.std.proofs.Common.{◌≡◌, drop}
use Rattle.std.specs.List.{find}
use Rattle.std.specs.Str.{bytes_eq}
use Rattle.fab_base.specs.Layouts.{Volume}
use Rattle.layout.proofs.layouts.Layout.volume.Given as goal

abbrev pub invariant-loop-volume : goal.invariant-loop-volume
invariant-loop-volume l =
    find (λ (volume : Volume). bytes_eq volume.name l.name) l.self.volumes
    ≡ find (λ (volume : Volume). bytes_eq volume.name l.name) (drop l.volume-index l.self.volumes)
