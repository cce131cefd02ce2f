-- What a status says of the words, and of the end of a run.
use Rattle.std.proofs.Common.{◌≡◌, ℕ, ◌⊎◌, true, List, [], ◌∷◌, length, Option, Some, None, Result, Ok, Err, refl, sym, ap, ◌∙◌, inl, inr}
use Rattle.std.proofs.lemmas.Slice.Eq.{bytes_eq-Decides}
use Rattle.replay.specs.declared.endings.RunResult.{RunResult}
use Rattle.replay.specs.declared.endings.Halt.{Halt}
use Rattle.replay.specs.declared.endings.Halt.TheVariants.{Source, Sink, Memory}
use Rattle.world.specs.Runs.{Step}
use Rattle.replay.specs.Outputs.{output_of, verdict_of}
use Rattle.replay.specs.LineSteps.{AreStepsIn}
use Rattle.replay.proofs.OutputLines.{verdict_alone}
use Rattle.replay.specs.Inputs.{Input, IsInput}
use Rattle.replay.specs.Turns.{Prints}
use Rattle.replay.specs.Replays.{is_word, status_of, IsDecided}

-- words that are one word, and another one, are as long
pub one_word : (one other : List ℕ) (words : List (List ℕ)) → is_word one words ≡ true → is_word other words ≡ true → length one ≡ length other
one_word one other [] is also = cc
one_word one other (word ∷ []) is also = ap length (sym ((bytes_eq-Decides word one).0 is) ∙ (bytes_eq-Decides word other).0 also)
one_word one other (word ∷ (more ∷ words)) is also = cc

-- a run that neither end stopped answers what the input calls for, or was stopped for want of memory
pub decided : (source old new : Option (List ℕ)) (input : Input) (steps : List Step) (ending : Result RunResult Halt) → IsInput source input
    → AreStepsIn input steps ending → Prints old new (output_of steps input) ending → (ending ≡ Err Source → ⊥) → (ending ≡ Err Sink → ⊥)
    → IsDecided source (status_of ending)
decided None old new input steps ending is are p no_source no_sink = tt
decided (Some bytes) old new input steps (Ok one) is are (same, appends) no_source no_sink =
    inl (ap (λ (v : RunResult). status_of (Ok v)) (sym (verdict_alone input steps (Ok one) one are same) ∙ ap verdict_of (sym is)))
decided (Some bytes) old new input steps (Err Source) is are p no_source no_sink = absurd (no_source refl)
decided (Some bytes) old new input steps (Err Sink) is are p no_source no_sink = absurd (no_sink refl)
decided (Some bytes) old new input steps (Err Memory) is are p no_source no_sink = inr refl

-- the status of a refused write of the usage line
pub of_write : (halt : Halt) → (halt ≡ Source → ⊥) → (status_of (Err halt) ≡ 6) ⊎ (status_of (Err halt) ≡ 7)
of_write Source other = absurd (other refl)
of_write Sink other = inl refl
of_write Memory other = inr refl

-- the same, where neither end failed
pub of_sound : (halt : Halt) → (halt ≡ Source → ⊥) → (halt ≡ Sink → ⊥) → (status_of (Err halt) ≡ 2) ⊎ (status_of (Err halt) ≡ 7)
of_sound Source no_source no_sink = absurd (no_source refl)
of_sound Sink no_source no_sink = absurd (no_sink refl)
of_sound Memory no_source no_sink = inr refl
