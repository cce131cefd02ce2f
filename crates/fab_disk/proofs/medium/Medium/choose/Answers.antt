use Rattle.std.proofs.Common.{◌≡◌, ◌+◌, ◌*◌, ℕ, List, length, [], reverse, sym, ◌∙◌, ap, subst}
use Rattle.fab_disk.specs.Past.{Past, past_of, Fits}
use Rattle.fab_disk.specs.Settled.{filled, is_uncertain, seeded}
use Rattle.fab_disk.specs.Stored.{shown}
use Rattle.fab_disk.specs.declared.medium.Step.{Step}
use Rattle.fab_disk.proofs.Filled.{drawn_by_steps}
use Rattle.fab_disk.specs.Held.{HoldsWritten, HoldsSeam}
use Rattle.fab_disk.specs.Uncertain.{IsSameWithin}
use Rattle.fab_disk.specs.declared.pages.Page.{Page}
use Rattle.fab_disk.proofs.Held.{unheld_by_steps, same_written, same_seam}
use Rattle.fab_disk.proofs.Spreads.{length-shown}
use Rattle.fab_disk.proofs.medium.Medium.choose.Goals as goal

pub returns-clause-content : goal.returns-clause-content
returns-clause-content c =
    let medium = c.args.self.now in
    let content : List ℕ = shown medium.content in
    let size : length content ≡ medium.content.len =
    length-shown medium.content.front.items medium.content.pages.items medium.content.len medium.content.within in
    c.scatter_all.ensures.bytes
    ∙ ap (λ (s : List Step). filled (is_uncertain (past_of (reverse s) []) medium.content.len) (seeded c.args.pick) 0 content) c.deref.ensures.value
    ∙ ap (λ (n : ℕ). filled (is_uncertain (past_of (reverse medium.steps.items) []) n) (seeded c.args.pick) 0 content) (sym size)
    ∙ drawn_by_steps c.args.pick medium.steps.items medium.saved.items content c.if-pick-eq0.false c.if-pick-eq1.false

pub scatter_all-requires : goal.scatter_all-requires
scatter_all-requires c =
    let medium = c.args.self.now in
    let front : ℕ = length medium.content.front.items in
    record {
      whole = λ k none. subst (λ (s : List Step). IsSameWithin (is_uncertain (past_of (reverse s) []) medium.content.len) (front + 4096 * k) medium.content.len)
          (sym c.deref.ensures.value)
          (unheld_by_steps front medium.content.pages.items (reverse medium.steps.items) medium.saved.items medium.content.len k medium.written medium.seam none);
    }

pub invariant_of-self : goal.invariant_of-self
invariant_of-self c =
    let medium = c.args.self.now in
    let front : ℕ = length medium.content.front.items in
    let pages : List Page = medium.content.pages.items in
    let now = c.scatter_all.new.content in
    let past : List Past = past_of (reverse medium.steps.items) medium.saved.items in
    record {
      fits = subst (Fits past) (sym c.scatter_all.ensures.len) medium.fits;
      written = subst (λ (n : ℕ). HoldsWritten n now.pages.items past) (sym c.scatter_all.ensures.front)
          (same_written front pages now.pages.items past c.scatter_all.ensures.held medium.written);
      seam = subst (λ (n : ℕ). HoldsSeam n now.pages.items past now.len) (sym c.scatter_all.ensures.front)
          (subst (λ (n : ℕ). HoldsSeam front now.pages.items past n) (sym c.scatter_all.ensures.len)
          (same_seam front pages now.pages.items past medium.content.len c.scatter_all.ensures.held medium.seam));
    }

pub returns-clause-room : goal.returns-clause-room
returns-clause-room c = λ calls bytes end had. record {
  for_calls = had.for_calls;
  for_bytes = had.for_bytes;
  for_content = c.scatter_all.ensures.room calls bytes end had.for_content;
}
