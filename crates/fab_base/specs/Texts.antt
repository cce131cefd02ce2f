-- The lines that say why an operation was aborted, or is not begun.
use Rattle.std.specs.Prelude.{ℕ, List, [], ◌∷◌, ◌++◌, codes}
use Rattle.std.specs.Fmt.{decimal}
use Rattle.fab_base.specs.declared.answers.Cause.{Cause}
use Rattle.fab_base.specs.declared.answers.Cause.TheVariants.{Later, Gone, Full, Moved}
use Rattle.fab_base.specs.declared.answers.Refusal.{Refusal}
use Rattle.fab_base.specs.declared.answers.Refusal.TheVariants.{Down, NoStripe, NoQuorum, NoBlock, Length, Busy, Spent}
use Rattle.fab_base.specs.Stamps.{stamp_text}

-- the end of a line
abbrev pub newline : List ℕ
newline = 10 ∷ []

-- why an operation was aborted
abbrev pub cause_text : Cause → List ℕ
cause_text (Later brick stamp) = codes "later " ++ (decimal brick.0 ++ (codes " " ++ (stamp_text stamp ++ newline)))
cause_text (Gone brick) = codes "gone " ++ (decimal brick.0 ++ newline)
cause_text (Full brick live) = codes "full " ++ (decimal brick.0 ++ (codes " " ++ (decimal live ++ newline)))
cause_text (Moved brick view) = codes "moved " ++ (decimal brick.0 ++ (codes " " ++ (decimal view.0 ++ newline)))

-- why an operation is not begun
abbrev pub refusal_text : Refusal → List ℕ
refusal_text Down = codes "refused down" ++ newline
refusal_text NoStripe = codes "refused nostripe" ++ newline
refusal_text NoQuorum = codes "refused noquorum" ++ newline
refusal_text NoBlock = codes "refused noblock" ++ newline
refusal_text Length = codes "refused length" ++ newline
refusal_text Busy = codes "refused busy" ++ newline
refusal_text Spent = codes "refused spent" ++ newline
