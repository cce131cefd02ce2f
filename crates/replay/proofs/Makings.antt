-- What the status of a made run says.
use Rattle.std.proofs.Common.{◌≡◌, ℕ, ◌⊎◌, List, Option, Result, Ok, Err, refl, inl, inr}
use Rattle.replay.specs.declared.endings.RunResult.{RunResult}
use Rattle.replay.specs.declared.endings.RunResult.TheVariants.{Whole, BadLayout, BadLine, TooManyLines, Refuted}
use Rattle.replay.specs.declared.endings.Halt.{Halt}
use Rattle.replay.specs.declared.endings.Halt.TheVariants.{Source, Sink, Memory}
use Rattle.replay.specs.Replays.{status_of}
use Rattle.replay.specs.MadeRuns.{MakePrints}

-- where the sink did not fail, it was whole or lacked memory
pub make_decided : (seed lines : ℕ) (old new : Option (List ℕ)) (ending : Result RunResult Halt) → MakePrints seed lines old new ending
    → (ending ≡ Err Sink → ⊥) → (status_of ending ≡ 0) ⊎ (status_of ending ≡ 7)
make_decided seed lines old new (Ok Whole) prints no_sink = inl refl
make_decided seed lines old new (Ok BadLayout) prints no_sink = absurd prints
make_decided seed lines old new (Ok (BadLine line)) prints no_sink = absurd prints
make_decided seed lines old new (Ok TooManyLines) prints no_sink = absurd prints
make_decided seed lines old new (Ok Refuted) prints no_sink = absurd prints
make_decided seed lines old new (Err Source) prints no_sink = absurd prints
make_decided seed lines old new (Err Sink) prints no_sink = absurd (no_sink refl)
make_decided seed lines old new (Err Memory) prints no_sink = inr refl
