-- The usage line was written, or not.
use Rattle.std.proofs.Common.{◌≡◌, ℕ, ◌⊎◌, Err, inl, inr, refl, sym, ap, ◌∙◌, subst}
use Rattle.std.specs.Io.KnownBytes.{Appends}
use Rattle.fab_io.specs.Ends.{AppendsFront}
use Rattle.replay.proofs.Statuses.{of_write, of_sound}
use Rattle.replay.proofs.programs.refuse_words.Goals as goal

pub returns-in-Ok-clause-refuses : goal.returns-in-Ok-clause-refuses
returns-in-Ok-clause-refuses g c = inl (refl, subst (Appends _ _) c.as_slice.ensures c.in-Ok.ensures.content)

pub returns-in-Err-clause-refuses : goal.returns-in-Err-clause-refuses
returns-in-Err-clause-refuses g c =
    let status = of_write c.in-Err.halt (λ e. c.write.ensures.cause (c.in-Err.is ∙ ap (λ h. Err h) e)) in
    inr (
      subst (λ (s : ℕ). (s ≡ 6) ⊎ (s ≡ 7)) (sym c.status_of.ensures) status,
      subst (AppendsFront _ _) c.as_slice.ensures c.in-Err.ensures.content,
    )

pub returns-in-Err-clause-decided : goal.returns-in-Err-clause-decided
returns-in-Err-clause-decided g c = λ sound.
    subst (λ (s : ℕ). (s ≡ 2) ⊎ (s ≡ 7)) (sym c.status_of.ensures)
    (of_sound c.in-Err.halt (λ e. c.write.ensures.cause (c.in-Err.is ∙ ap (λ h. Err h) e)) (λ e. c.write.ensures.kept.never sound (c.in-Err.is ∙ ap (λ h. Err h) e)))
