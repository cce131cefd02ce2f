-- How the past goes on.
use Rattle.std.proofs.Common.{◌≡◌, ℕ, ◌-◌, List, [], ◌∷◌, ◌++◌, length, reverse, take, drop, ◌∙◌, ap, arith}
use Rattle.std.proofs.lemmas.List.{reverse-append, take_at, drop_at, length-append}
use Rattle.fab_disk.specs.Past.{PastWrite, wrote, synced, past_of}
use Rattle.fab_disk.specs.declared.medium.Overwrite.{Overwrite}
use Rattle.fab_disk.specs.declared.medium.Step.{Step}
use Rattle.fab_disk.specs.declared.medium.Step.TheVariants.{Wrote, Synced}

-- the write that is remembered, with the bytes that were saved
abbrev pub change_of : Overwrite → List ℕ → PastWrite
change_of w before = record { at = w.at; len = w.len; before = before; length_before = w.length_before }

-- one write more
pub past_wrote : (steps : List Step) (w : Overwrite) (saved before : List ℕ) → w.kept ≡ length before
    → past_of (reverse (steps ++ Wrote w ∷ [])) (saved ++ before) ≡ wrote (change_of w before) ∷ past_of (reverse steps) saved
past_wrote steps w saved before kept =
    let seam : length saved ≡ length (saved ++ before) - w.kept = omega (arith, length-append saved before) in
    ap (λ (s : List Step). past_of s (saved ++ before)) (reverse-append steps (Wrote w ∷ []))
    ∙ ap (λ (b : List ℕ). wrote (change_of w b) ∷ past_of (reverse steps) (take (length (saved ++ before) - w.kept) (saved ++ before)))
    (drop_at saved before _ seam)
    ∙ ap (λ (b : List ℕ). wrote (change_of w before) ∷ past_of (reverse steps) b) (take_at saved before _ seam)

-- one sync more
pub past_synced : (steps : List Step) (saved : List ℕ) → past_of (reverse (steps ++ Synced ∷ [])) saved ≡ synced ∷ past_of (reverse steps) saved
past_synced steps saved = ap (λ (s : List Step). past_of s saved) (reverse-append steps (Synced ∷ []))

-- the newest call was a write
pub past_split : (steps older : List Step) (w : Overwrite) (saved : List ℕ) → steps ≡ older ++ Wrote w ∷ [] → past_of (reverse steps) saved
    ≡ wrote (change_of w (drop (length saved - w.kept) saved)) ∷ past_of (reverse older) (take (length saved - w.kept) saved)
past_split steps older w saved is =
    ap (λ (s : List Step). past_of (reverse s) saved) is ∙ ap (λ (s : List Step). past_of s saved) (reverse-append older (Wrote w ∷ []))
