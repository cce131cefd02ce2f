use Rattle.std.proofs.Common.{◌≡◌, ℕ, ◌-◌, ◌≤◌, List, [], ◌∷◌, ◌++◌, IsTrue, length, take, replicate, sym, ◌∙◌, ap, subst, arith, rules}
use Rattle.std.proofs.lemmas.List.{length-append}
use Rattle.fab_disk.specs.Disk.{padded}
use Rattle.fab_disk.specs.Pages.{spread, held_at}
use Rattle.fab_disk.specs.Stored.{stored, shown}
use Rattle.fab_disk.specs.declared.pages.Page.{Page}
use Rattle.fab_disk.specs.declared.pages.Page.TheVariants.{Zero}
use Rattle.fab_disk.proofs.Writes.{padded_enough}
use Rattle.fab_disk.proofs.Spreads.{length-spread, length-shown, spread_push, zeros_more, held_push, grown, shown_cleared}
use Rattle.fab_disk.proofs.pages.Pages.grow.Goals as goal

pub loop-self-preserved : goal.loop-self-preserved
loop-self-preserved c =
    let front : List ℕ = c.loop-self.self.front.items in
    let pages : List Page = c.loop-self.self.pages.items in
    let old : List ℕ = shown c.clear_tail.new.self in
    let len : ℕ = c.clear_tail.new.self.len in
    let push : c.push.new.self.items ≡ pages ++ Zero ∷ [] = search rules in
    let fits : len ≤ length (front ++ spread pages) = omega (
      arith,
      c.loop-self.self.within,
      c.loop-self.invariant.len,
      length-append front (spread pages),
      length-spread pages,
    ) in
    record {
      bytes = subst (λ (l : List Page). front ++ spread l ≡ old ++ replicate (length (front ++ spread l) - len) 0) (sym push)
          (spread_push front pages ∙ zeros_more old (front ++ spread pages) len c.loop-self.invariant.bytes fits
          ∙ ap (λ (l : List ℕ). old ++ replicate (length l - len) 0) (sym (spread_push front pages)));
      held = λ k was. subst (λ (l : List Page). IsTrue (held_at l k)) (sym push) (held_push pages k (c.loop-self.invariant.held k was));
      len = c.loop-self.invariant.len;
      front = c.loop-self.invariant.front;
      capacity = search rules;
      spare = c.loop-self.invariant.spare;
    }

pub returns-then-end-self : goal.returns-then-end-self
returns-then-end-self c =
    let bytes = (
    let self = c.args.self.now in
    sym (padded_enough c.args.end (shown self) (omega (arith, length-shown self.front.items self.pages.items self.len self.within)))
    ) in
    search (rules, bytes)

pub returns : goal.returns
returns c =
    let bytes = (
    let self = c.args.self.now in
    let now = c.loop-self.self in
    let old : List ℕ = shown c.clear_tail.new.self in
    let size : length (shown self) ≡ self.len = length-shown self.front.items self.pages.items self.len self.within in
    let same : old ≡ shown self = ap (λ (n : ℕ). take n (stored c.clear_tail.new.self)) c.clear_tail.ensures.len
    ∙ shown_cleared (shown self) (stored c.clear_tail.new.self) self.len _ size c.clear_tail.ensures.bytes in
    grown old (stored now) _ c.args.end c.loop-self.invariant.bytes
    (omega (arith, length-append now.front.items (spread now.pages.items), length-spread now.pages.items, c.loop-self.invariant.front, c.div_ceil-pages.ensures, c.saturating_sub.ensures))
    (omega (arith, ap length same, size))
    ∙ ap (padded c.args.end) same
    ) in
    search (rules, bytes)
