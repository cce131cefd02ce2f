-- Which places a crash may change.
use Rattle.std.proofs.Common.{◌≡◌, ℕ, ◌+◌, ◌-◌, Bool, ◌&&◌, ◌||◌, nat_lt, List, [], ◌∷◌, ◌++◌, reverse, length, take, refl, ◌∙◌, ap}
use Rattle.std.specs.Prelude.{nat_le}
use Rattle.std.proofs.lemmas.List.{reverse-append}
use Rattle.fab_disk.specs.Past.{past_of}
use Rattle.fab_disk.specs.Settled.{is_uncertain}
use Rattle.fab_disk.specs.declared.medium.Overwrite.{Overwrite}
use Rattle.fab_disk.specs.declared.medium.Step.{Step}
use Rattle.fab_disk.specs.declared.medium.Step.TheVariants.{Wrote, Synced}

-- place i is in the range of a write
abbrev pub in_range : Overwrite → ℕ → Bool
in_range w i = nat_le w.at i && nat_lt i (w.at + w.len)

-- the bytes that stood there before do not matter
pub same_places : (steps : List Step) (a b : List ℕ) (size i : ℕ) → is_uncertain (past_of steps a) size i ≡ is_uncertain (past_of steps b) size i
same_places [] a b size i = refl
same_places (Synced ∷ steps) a b size i = refl
same_places (Wrote w ∷ steps) a b size i =
    ap (λ (t : Bool). in_range w i || t) (same_places steps (take (length a - w.kept) a) (take (length b - w.kept) b) w.length_before i)

-- what a newer write adds
pub uncertain_wrote : (steps : List Step) (w : Overwrite) (size i : ℕ)
    → is_uncertain (past_of (reverse (steps ++ Wrote w ∷ [])) []) size i ≡
    (in_range w i || is_uncertain (past_of (reverse steps) []) w.length_before i)
uncertain_wrote steps w size i =
    ap (λ (s : List Step). is_uncertain (past_of s []) size i) (reverse-append steps (Wrote w ∷ []))
    ∙ ap (λ (t : Bool). in_range w i || t) (same_places (reverse steps) (take (0 - w.kept) []) [] w.length_before i)

-- a newer sync leaves what lies past the end
pub uncertain_synced : (steps : List Step) (size i : ℕ) → is_uncertain (past_of (reverse (steps ++ Synced ∷ [])) []) size i ≡ nat_le size i
uncertain_synced steps size i = ap (λ (s : List Step). is_uncertain (past_of s []) size i) (reverse-append steps (Synced ∷ []))
