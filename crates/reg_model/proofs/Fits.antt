-- What an operation asks fits the stripe, where each mark does.
use Rattle.std.proofs.Common.{ℕ, nat_eq, ◌+◌, List, [], ◌∷◌, Option, Some, None}
use Rattle.std.specs.List.{All}
use Rattle.std.proofs.lemmas.Bool.{cond_both}
use Rattle.std.proofs.lemmas.List.Elements.{All-head, All-tail}
use Rattle.reg_model.specs.declared.marks.Mark.{Mark}
use Rattle.reg_model.specs.declared.marks.Mark.TheVariants.{Begin, End, Crash}
use Rattle.reg_model.specs.Marks.{Life, life_of, ending_of}
use Rattle.reg_model.specs.Strict.{OpFits, MarkFits}

-- an operation that has begun fits
abbrev pub LifeFits : ℕ → ℕ → Option Life → Type 0
LifeFits m block None = Unit {0}
LifeFits m block (Some life) = OpFits m block life.ask.op

pub life_of-fits : (m block : ℕ) (marks : List Mark) (n : ℕ) → All (MarkFits m block) marks → LifeFits m block (life_of marks n)
life_of-fits m block [] n fits = tt
life_of-fits m block (Begin p k b ask ∷ marks) n fits =
    cond_both (nat_eq k n) (Some (record { begin = p; brick = b.0; ask = ask; ending = ending_of marks n b.0 (p + 1) })) (life_of marks n)
    (λ (life : Option Life). LifeFits m block life)
    (λ same. All-head (MarkFits m block) _ marks fits)
    (λ other. life_of-fits m block marks n (All-tail (MarkFits m block) _ marks fits))
life_of-fits m block (End p k answer ∷ marks) n fits = life_of-fits m block marks n (All-tail (MarkFits m block) _ marks fits)
life_of-fits m block (Crash p b ∷ marks) n fits = life_of-fits m block marks n (All-tail (MarkFits m block) _ marks fits)
