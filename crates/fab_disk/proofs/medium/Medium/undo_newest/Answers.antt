use Rattle.std.proofs.Common.{◌≡◌, ℕ, ◌-◌, min, List, [], ◌∷◌, ◌++◌, length, take, drop, reverse, refl, sym, ◌∙◌, ap, subst, arith, rules}
use Rattle.std.proofs.lemmas.List.{take_at, length-take, length-drop}
use Rattle.fab_disk.specs.Pages.{held_at}
use Rattle.fab_disk.specs.Held.{HoldsWritten, HoldsSeam}
use Rattle.fab_disk.specs.declared.pages.Page.{Page}
use Rattle.fab_disk.specs.Past.{PastWrite, Past, wrote, past_of, Fits}
use Rattle.fab_disk.specs.declared.medium.Step.{Step}
use Rattle.fab_disk.specs.declared.medium.Step.TheVariants.{Wrote}
use Rattle.fab_disk.proofs.Pasts.{change_of, past_split}
use Rattle.fab_disk.proofs.Held.{undone_fits, undone_written, undone_seam, undone_range}
use Rattle.fab_disk.proofs.medium.Medium.undo_newest.Goals as goal

pub put-requires-clause-held : goal.put-requires-clause-held
put-requires-clause-held c =
    let self = c.args.self.now in
    let write = c.in-Some-Wrote-default.write in
    let older : List Step = c.in-Some-Wrote-default.older.now in
    let split : self.steps.items ≡ older ++ Wrote write ∷ [] = search rules in
    let saved : List ℕ = self.saved.items in
    let past : past_of (reverse self.steps.items) saved
    ≡ wrote (change_of write (drop (length saved - write.kept) saved)) ∷ past_of (reverse older) (take (length saved - write.kept) saved) =
    past_split self.steps.items older write saved split in
    let both : Fits (wrote (change_of write (drop (length saved - write.kept) saved)) ∷ past_of (reverse older) (take (length saved - write.kept) saved))
    self.content.len = subst (λ (p : List Past). Fits p self.content.len) past self.fits in
    let part = length-take (length c.deref-2.result.now - c.saturating_sub-from.result) (drop c.saturating_sub-from.result c.deref-2.result.now) in
    let rest = length-drop c.saturating_sub-from.result c.deref-2.result.now in
    let here = length-drop (length saved - write.kept) saved in
    undone_range (length self.content.front.items) self.content.pages.items (past_of (reverse self.steps.items) saved) _ _ self.content.len _ past self.fits self.written
    (omega (arith, part, rest, here, both.0.no_more, c.deref-2.ensures.len, c.saturating_sub-from.ensures, c.len.ensures))

pub invariant_of-self-2 : goal.invariant_of-self-2
invariant_of-self-2 c =
    let self = c.args.self.now in
    let write = c.in-Some-Wrote-default.write in
    let older : List Step = c.in-Some-Wrote-default.older.now in
    let split : self.steps.items ≡ older ++ Wrote write ∷ [] = search rules in
    let saved : List ℕ = self.saved.items in
    let change : PastWrite = change_of write (drop (length saved - write.kept) saved) in
    let past : past_of (reverse self.steps.items) saved ≡ wrote change ∷ past_of (reverse older) (take (length saved - write.kept) saved) =
    past_split self.steps.items older write saved split in
    let steps : c.truncate-3.new.self.items ≡ older =
    c.truncate-3.ensures.items ∙ ap (take (length older)) split ∙ take_at older (Wrote write ∷ []) (length older) refl in
    let bytes : c.truncate-2.new.self.items ≡ take (length saved - write.kept) saved =
    c.truncate-2.ensures.items ∙ ap (λ (n : ℕ). take n saved) (let same : c.saturating_sub-from.result ≡ length saved - write.kept = omega
    (arith, c.saturating_sub-from.ensures, c.len.ensures) in same) in
    let rest : past_of (reverse c.truncate-3.new.self.items) c.truncate-2.new.self.items
    ≡ past_of (reverse older) (take (length saved - write.kept) saved) =
    ap (λ (s : List Step). past_of (reverse s) c.truncate-2.new.self.items) steps ∙ ap (λ (b : List ℕ). past_of (reverse older) b) bytes in
    let whole : past_of (reverse self.steps.items) saved ≡ wrote change ∷ past_of (reverse c.truncate-3.new.self.items) c.truncate-2.new.self.items =
    past ∙ ap (λ (p : List Past). wrote change ∷ p) (sym rest) in
    let short : c.truncate.new.self.len ≡ min change.length_before self.content.len =
    c.truncate.ensures.len ∙ ap (min change.length_before) c.put.ensures.len in
    let front : length self.content.front.items ≡ length c.truncate.new.self.front.items = search rules in
    let same : (k : ℕ) → held_at c.truncate.new.self.pages.items k ≡ held_at self.content.pages.items k = λ k.
    ap (λ (l : List Page). held_at l k) (let pages : c.truncate.new.self.pages.items ≡ c.put.new.self.pages.items = search rules in pages)
    ∙ c.put.ensures.held k in
    record {
      fits = undone_fits _ _ change self.content.len c.truncate.new.self.len whole self.fits short;
      written = subst (λ (n : ℕ). HoldsWritten n c.truncate.new.self.pages.items (past_of (reverse c.truncate-3.new.self.items) c.truncate-2.new.self.items)) front
          (undone_written (length self.content.front.items) self.content.pages.items c.truncate.new.self.pages.items _ _ change whole self.written same);
      seam = subst (λ (n : ℕ). HoldsSeam n c.truncate.new.self.pages.items (past_of (reverse c.truncate-3.new.self.items) c.truncate-2.new.self.items)
          c.truncate.new.self.len) front (undone_seam (length self.content.front.items) self.content.pages.items c.truncate.new.self.pages.items _ _ change
          self.content.len c.truncate.new.self.len whole self.fits self.seam short same);
    }

pub returns-clause-room : goal.returns-clause-room
returns-clause-room c = λ calls bytes end had. record {
  for_calls = omega (arith, had.for_calls, c.truncate-3.ensures.len, c.truncate-3.ensures.capacity);
  for_bytes = omega (arith, had.for_bytes, c.truncate-2.ensures.len, c.truncate-2.ensures.capacity);
  for_content = c.truncate.ensures.room calls bytes end (c.put.ensures.room calls bytes end had.for_content);
}
