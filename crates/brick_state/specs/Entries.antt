-- A version in memory: its stamp, and the slot that its block lies in.
use Rattle.std.specs.Prelude.{ℕ}
use Rattle.version_log.specs.declared.versions.Version.{Version}

abbrev pub Entry : Type 0
Entry = Version ℕ
