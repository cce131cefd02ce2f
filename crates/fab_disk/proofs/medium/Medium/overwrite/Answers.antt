use Rattle.std.proofs.Common.{◌≡◌, ◌+◌, ◌-◌, [], ◌∷◌, ◌++◌, List, ℕ, length, min, slice_range, reverse, refl, sym, ◌∙◌, ap, subst, arith, rules}
use Rattle.fab_disk.specs.Disk.{Torn}
use Rattle.fab_disk.specs.Past.{PastWrite, Past, wrote, past_of, IsPlaced, Fits}
use Rattle.fab_disk.specs.Held.{HoldsWritten, HoldsSeam}
use Rattle.fab_disk.specs.declared.pages.Page.{Page}
use Rattle.fab_disk.proofs.Held.{written_more, seam_more}
use Rattle.fab_disk.specs.Stored.{shown}
use Rattle.fab_disk.specs.declared.medium.Overwrite.{Overwrite}
use Rattle.fab_disk.specs.declared.medium.Step.{Step}
use Rattle.fab_disk.specs.declared.medium.Step.TheVariants.{Wrote}
use Rattle.fab_disk.proofs.Pasts.{change_of, past_wrote}
use Rattle.fab_disk.proofs.Spreads.{length-shown}
use Rattle.fab_disk.proofs.Writes.{written_torn, undone_back, same_range, length-stood, is_placed}
use Rattle.fab_disk.proofs.medium.Medium.overwrite.Goals as goal

pub returns-clause-past : goal.returns-clause-past
returns-clause-past c =
    let self = c.args.self.now in
    let at : ℕ = c.args.at in
    let old : List ℕ = shown self.content in
    let from : List ℕ = c.args.from.now in
    let new : List ℕ = shown c.write.new.self in
    let size = length-shown self.content.front.items self.content.pages.items self.content.len self.content.within in
    let size_new = length-shown c.write.new.self.front.items c.write.new.self.pages.items c.write.new.self.len c.write.new.self.within in
    let stood : List ℕ = slice_range old (min at (length old)) (min (at + length from) (length old)) in
    let step : Overwrite = record { at = c.min-2.result; len = length from; kept = c.min.result - c.min-start.result; length_before = self.content.len } in
    let steps : c.push.new.self.items ≡ self.steps.items ++ Wrote step ∷ [] = search rules in
    let saved : c.save.new.saved.items ≡ self.saved.items ++ stood =
    c.save.ensures.items ∙ ap (λ (n : ℕ). self.saved.items ++ slice_range old n (c.min-start.result + (c.min.result - c.min-start.result)))
    (let same : c.min-start.result ≡ min at (length old) = omega arith in same)
    ∙ ap (λ (n : ℕ). self.saved.items ++ slice_range old (min at (length old)) n)
    (let same : c.min-start.result + (c.min.result - c.min-start.result) ≡ min (at + length from) (length old) = omega arith in same) in
    let torn : Torn at (length from) old new = subst (λ (l : List ℕ). Torn at (length from) old l) (sym c.write.ensures.bytes)
    (written_torn at from old) in
    record {
      change = change_of step stood;
      remembered = ap (λ (s : List Step). past_of (reverse s) c.save.new.saved.items) steps
          ∙ ap (λ (b : List ℕ). past_of (reverse (self.steps.items ++ Wrote step ∷ [])) b) saved
          ∙ past_wrote self.steps.items step self.saved.items stood (omega (arith, length-stood at (length from) old));
      comes_back = undone_back at (length from) old new (change_of step stood) torn (omega (arith, size_new)) refl (sym size);
      torn = λ before image is. same_range at (length new) from old before image (ap length c.write.ensures.bytes)
          (subst (λ (n : ℕ). Torn n (length from) before image) (let same : c.min-2.result ≡ min at (length new) = omega (arith, size_new) in same) is);
    }

pub invariant_of-self : goal.invariant_of-self
invariant_of-self c =
    let self = c.args.self.now in
    let at : ℕ = c.args.at in
    let old : List ℕ = shown self.content in
    let from : List ℕ = c.args.from.now in
    let new : List ℕ = shown c.write.new.self in
    let size = length-shown self.content.front.items self.content.pages.items self.content.len self.content.within in
    let size_new = length-shown c.write.new.self.front.items c.write.new.self.pages.items c.write.new.self.len c.write.new.self.within in
    let stood : List ℕ = slice_range old (min at (length old)) (min (at + length from) (length old)) in
    let step : Overwrite = record { at = c.min-2.result; len = length from; kept = c.min.result - c.min-start.result; length_before = self.content.len } in
    let steps : c.push.new.self.items ≡ self.steps.items ++ Wrote step ∷ [] = search rules in
    let saved : c.save.new.saved.items ≡ self.saved.items ++ stood =
    c.save.ensures.items ∙ ap (λ (n : ℕ). self.saved.items ++ slice_range old n (c.min-start.result + (c.min.result - c.min-start.result)))
    (let same : c.min-start.result ≡ min at (length old) = omega arith in same)
    ∙ ap (λ (n : ℕ). self.saved.items ++ slice_range old (min at (length old)) n)
    (let same : c.min-start.result + (c.min.result - c.min-start.result) ≡ min (at + length from) (length old) = omega arith in same) in
    let torn : Torn at (length from) old new = subst (λ (l : List ℕ). Torn at (length from) old l) (sym c.write.ensures.bytes)
    (written_torn at from old) in
    let change : PastWrite = change_of step stood in
    let front : ℕ = length self.content.front.items in
    let pages : List Page = c.write.new.self.pages.items in
    let past : List Past = past_of (reverse self.steps.items) self.saved.items in
    let remembered : past_of (reverse c.push.new.self.items) c.save.new.saved.items ≡ wrote change ∷ past =
    ap (λ (s : List Step). past_of (reverse s) c.save.new.saved.items) steps
    ∙ ap (λ (b : List ℕ). past_of (reverse (self.steps.items ++ Wrote step ∷ [])) b) saved
    ∙ past_wrote self.steps.items step self.saved.items stood (omega (arith, length-stood at (length from) old)) in
    let starts : change.at ≡ min at (length new) = omega (arith, size_new) in
    let placed : IsPlaced change (length new) = is_placed at (length from) old new change torn starts refl refl (sym size)
    (λ some. omega (arith, c.write.ensures.reach some, size_new)) in
    let fits : Fits (wrote change ∷ past) c.write.new.self.len = (subst (IsPlaced change) size_new placed, self.fits) in
    let written : HoldsWritten front pages (wrote change ∷ past) =
    written_more front self.content.pages.items pages past change at (length from) self.content.len c.write.new.self.len self.fits self.written
    c.write.ensures.keeps c.write.ensures.range (omega (arith, size_new)) refl c.write.ensures.reach in
    let seam : HoldsSeam front pages (wrote change ∷ past) c.write.new.self.len =
    seam_more front self.content.pages.items pages past change self.content.len c.write.new.self.len self.fits refl self.seam
    c.write.ensures.keeps c.write.ensures.edge c.write.ensures.longer in
    record {
      fits = subst (λ (p : List Past). Fits p c.write.new.self.len) (sym remembered) fits;
      written = subst (λ (n : ℕ). HoldsWritten n pages (past_of (reverse c.push.new.self.items) c.save.new.saved.items)) (sym c.write.ensures.front)
          (subst (λ (p : List Past). HoldsWritten front pages p) (sym remembered) written);
      seam = subst (λ (n : ℕ). HoldsSeam n pages (past_of (reverse c.push.new.self.items) c.save.new.saved.items) c.write.new.self.len)
          (sym c.write.ensures.front) (subst (λ (p : List Past). HoldsSeam front pages p c.write.new.self.len) (sym remembered) seam);
    }

pub returns-clause-room : goal.returns-clause-room
returns-clause-room c = λ calls bytes end low had. record {
  for_calls = omega (arith, had.for_calls, c.push.ensures.len, c.push.ensures.capacity);
  for_bytes = omega (arith, had.for_bytes, c.save.ensures.len, c.save.ensures.capacity);
  for_content = c.write.ensures.room calls bytes end had.for_content;
}
