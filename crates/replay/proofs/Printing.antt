-- What was printed in several steps.
use Rattle.std.proofs.Common.{◌≡◌, ℕ, List, [], Option, Some, Result, Ok, Err, IsErr, subst, sym}
use Rattle.std.specs.Io.KnownBytes.{Keeps, Appends}
use Rattle.std.proofs.KnownBytes.{Appends-trans, Keeps-refl}
use Rattle.fab_io.proofs.Content.{Appends-none, AppendsFront-none, AppendsFront-after}
use Rattle.replay.specs.declared.endings.RunResult.{RunResult}
use Rattle.replay.specs.declared.endings.RunResult.TheVariants as verdict
use Rattle.replay.specs.declared.endings.Halt.{Halt}
use Rattle.replay.specs.declared.endings.Halt.TheVariants.{Source, Memory}
use Rattle.replay.specs.Outputs.{Output, onto}
use Rattle.replay.specs.Turns.{Prints}

-- a text, and then the rest of the output
pub Prints-after : (a b c : Option (List ℕ)) (text : List ℕ) (output : Output) (r : Result RunResult Halt) → Appends a b text → Prints b c output r
    → Prints a c (onto text output) r
Prints-after a b c text output (Ok verdict) p (same, q) = (same, Appends-trans a b c text output.text p q)
Prints-after a b c text output (Err halt) p q = AppendsFront-after a b c text output.text p q

-- nothing, and then the output
pub Prints-kept : (a b c : Option (List ℕ)) (output : Output) (r : Result RunResult Halt) → Keeps a b → Prints b c output r → Prints a c output r
Prints-kept a b c output r k p = Prints-after a b c [] output r (Appends-none a b k) p

-- the run was stopped before anything was printed
pub Prints-nothing : (a : Option (List ℕ)) (output : Output) (halt : Halt) → Prints a a output (Err halt)
Prints-nothing a output halt = AppendsFront-none a a output.text (Keeps-refl a)

-- an equal output
pub Prints-same : (a b : Option (List ℕ)) (r : Result RunResult Halt) (output other : Output) → output ≡ other → Prints a b other r
    → Prints a b output r
Prints-same a b r output other e p = subst (λ (o : Output). Prints a b o r) (sym e) p

-- the output of an equal text
pub Prints-text : (a b : Option (List ℕ)) (r : Result RunResult Halt) (text other : List ℕ) (verdict : RunResult) → text ≡ other
    → Prints a b (record { text = text; verdict = Some verdict }) r → Prints a b (record { text = other; verdict = Some verdict }) r
Prints-text a b r text other verdict e p = subst (λ (t : List ℕ). Prints a b (record { text = t; verdict = Some verdict }) r) e p

-- what holds at any error holds where there is one
pub at_err : {T E : Type 0} (r : Result T E) (P : Result T E → Type 0) → ((e : E) → P (Err e)) → IsErr r → P r
at_err (Ok x) P h is = cc
at_err (Err e) P h is = h e

-- the error of an exit is the one that was met
pub same_error : {T : Type 0} (r : Result T Halt) (met gave said : Halt) → r ≡ Err gave → gave ≡ met → r ≡ Err said → met ≡ said
same_error r met gave said is same e = cc

-- want of memory is no failure of the source
pub memory_alone : Memory ≡ Source → ⊥
memory_alone e = cc

-- a run that stops is not whole
pub stops_not : (halt : Halt) → (let r : Result RunResult Halt = Err halt in r ≡ Ok verdict.Whole → ⊥)
stops_not halt e = cc

-- what ends otherwise is not whole
pub ends_not : (old new : Option (List ℕ)) (text : List ℕ) (one : RunResult) (r : Result RunResult Halt) → (one ≡ verdict.Whole → ⊥)
    → Prints old new (record { text = text; verdict = Some one }) r → r ≡ Ok verdict.Whole → ⊥
ends_not old new text one (Ok other) differs p e =
    differs (let said : Some one ≡ Some other = p.0 in let whole : other ≡ verdict.Whole = cc in cc)
ends_not old new text one (Err halt) differs p e = stops_not halt e
