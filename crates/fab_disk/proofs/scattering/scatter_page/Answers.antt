use Rattle.std.proofs.Common.{◌≡◌, ℕ, ◌+◌, ◌-◌, ◌<◌, Bool, true, false, min, List, [], length, take, drop, reverse, refl, sym, ◌∙◌, ap, arith, rules}
use Rattle.std.proofs.lemmas.List.{take_at, length-append, length-take, length-drop}
use Rattle.rand_pcg.specs.Lcg.{Lcg}
use Rattle.fab_disk.specs.Draws.{drawn}
use Rattle.fab_disk.specs.Pages.{page_bytes, is_held}
use Rattle.fab_disk.specs.Past.{past_of}
use Rattle.fab_disk.specs.Settled.{is_uncertain, filled, left_over}
use Rattle.fab_disk.specs.declared.pages.Page.{Page}
use Rattle.fab_disk.proofs.Draws.{advance_is}
use Rattle.fab_disk.proofs.Spreads.{length-page, drawn_front}
use Rattle.fab_disk.proofs.Filled.{length-filled}
use Rattle.fab_disk.proofs.Scattered.{filled_all, left_all, filled_none, left_none}
use Rattle.fab_disk.proofs.scattering.scatter_page.Goals as goal

pub invariant_of-sheet : goal.invariant_of-sheet
invariant_of-sheet c =
    let sheet = c.in-Held.sheet in
    let uncertain : ℕ → Bool = is_uncertain (past_of (reverse c.args.steps.now) []) c.args.size in
    let n : ℕ = c.min-count.result in
    let drawn = filled uncertain c.args.source.now c.args.start (take n sheet.bytes.items) in
    record {
      whole = ap length c.scatter.ensures.items ∙ omega (
        arith,
        length-append drawn (drop n sheet.bytes.items),
        length-filled uncertain c.args.source.now c.args.start (take n sheet.bytes.items),
        length-take n sheet.bytes.items,
        length-drop n sheet.bytes.items,
        sheet.whole,
        c.min-count.ensures,
      );
    }

pub returns-in-Held-clause-bytes : goal.returns-in-Held-clause-bytes
returns-in-Held-clause-bytes c =
    let sheet = c.in-Held.sheet in
    let uncertain : ℕ → Bool = is_uncertain (past_of (reverse c.args.steps.now) []) c.args.size in
    let n : ℕ = min (c.args.size - c.args.start) 4096 in
    let draws = λ (l : List ℕ). filled uncertain c.args.source.now c.args.start l in
    ap (take n) c.scatter.ensures.items
    ∙ take_at (draws (take c.min-count.result sheet.bytes.items)) (drop c.min-count.result sheet.bytes.items) n
    (omega (arith, length-filled uncertain c.args.source.now c.args.start (take c.min-count.result sheet.bytes.items), length-take c.min-count.result sheet.bytes.items, sheet.whole, c.min-count.ensures))
    ∙ ap (λ (k : ℕ). draws (take k sheet.bytes.items)) c.min-count.ensures
    ∙ ap (λ (p : Page). draws (take n (page_bytes p))) (sym c.in-Held.is)

pub returns-then-is_uncertain : goal.returns-then-is_uncertain
returns-then-is_uncertain c =
    let page = c.args.page.now in
    let uncertain : ℕ → Bool = is_uncertain (past_of (reverse c.args.steps.now) []) c.args.size in
    let start : ℕ = c.args.start in
    let n : ℕ = min (c.args.size - start) 4096 in
    let none : is_held page ≡ false = search rules in
    let here : uncertain start ≡ true = sym c.is_uncertain.ensures ∙ c.if-is_uncertain.true in
    let all : (k : ℕ) → k < n → uncertain (start + k) ≡ true = λ k lt. c.requires.whole none k (omega arith) (omega arith) ∙ here in
    let size : length (take n (page_bytes page)) ≡ n = omega (arith, length-take n (page_bytes page), length-page page) in
    record {
      bytes = ap (λ (p : Page). take n (page_bytes p)) c.replace.ensures.after ∙ ap (λ (r : Lcg). take n (drawn 4096 r)) c.copied-drawn.ensures
          ∙ drawn_front n c.args.source.now (omega arith) ∙ ap (λ (k : ℕ). drawn k c.args.source.now) (sym size)
          ∙ sym (filled_all uncertain c.args.source.now start (take n (page_bytes page)) (λ k lt. all k (omega (arith, size))));
      source = c.advance.ensures ∙ advance_is c.min-count.result c.args.source.now
          ∙ sym (left_all uncertain c.args.source.now start c.min-count.result (λ k lt. all k (omega (arith, c.min-count.ensures))))
          ∙ ap (λ (k : ℕ). left_over uncertain c.args.source.now start k) c.min-count.ensures;
      held = ap is_held c.replace.ensures.after ∙ sym none;
    }

pub returns-else-is_uncertain : goal.returns-else-is_uncertain
returns-else-is_uncertain c =
    let page = c.args.page.now in
    let uncertain : ℕ → Bool = is_uncertain (past_of (reverse c.args.steps.now) []) c.args.size in
    let start : ℕ = c.args.start in
    let n : ℕ = min (c.args.size - start) 4096 in
    let absent : is_held page ≡ false = search rules in
    let here : uncertain start ≡ false = sym c.is_uncertain.ensures ∙ c.if-is_uncertain.false in
    let none : (k : ℕ) → k < n → uncertain (start + k) ≡ false = λ k lt. c.requires.whole absent k (omega arith) (omega arith) ∙ here in
    record {
      bytes = sym (filled_none uncertain c.args.source.now start (take n (page_bytes page)) (λ k lt. none k (omega (arith, length-take n (page_bytes page)))));
      source = sym (left_none uncertain c.args.source.now start n none);
      held = refl;
    }
