use Rattle.std.proofs.Common.{rules, ◌≡◌, ℕ, ◌+◌, ◌*◌, ◌-◌, ◌<◌, Bool, false, min, List, [], length, take, drop, reverse, refl, sym, ◌∙◌, ap, arith}
use Rattle.std.proofs.lemmas.List.{length-append, length-take, length-drop, length-set}
use Rattle.rand_pcg.specs.Lcg.{Lcg}
use Rattle.fab_disk.specs.Pages.{page_bytes, spread, is_held, held_at}
use Rattle.fab_disk.specs.Past.{past_of}
use Rattle.fab_disk.specs.Settled.{is_uncertain, filled}
use Rattle.fab_disk.specs.Stored.{shown}
use Rattle.fab_disk.specs.declared.pages.Page.{Page}
use Rattle.fab_disk.specs.declared.pages.Page.TheVariants.{Zero}
use Rattle.fab_disk.proofs.Filled.{length-filled}
use Rattle.fab_disk.proofs.Spreads.{length-spread, length-shown, same_page, held_set}
use Rattle.fab_disk.proofs.Scattered.{start_drawn, page_drawn, end_drawn}
use Rattle.fab_disk.proofs.scattering.scatter_all.Goals as goal

pub invariant_of-content : goal.invariant_of-content
invariant_of-content c =
    let old = c.args.content.now in
    let uncertain : ℕ → Bool = is_uncertain (past_of (reverse c.args.steps.now) []) old.len in
    let n : ℕ = c.min.result in
    let first : List ℕ = filled uncertain c.seed_from_u64-source.result 0 (take n old.front.items) in
    let size : length c.scatter.new.bytes.items ≡ length old.front.items =
    ap length c.scatter.ensures.items ∙ omega (
      arith,
      length-append first (drop n old.front.items),
      length-filled uncertain c.seed_from_u64-source.result 0 (take n old.front.items),
      length-take n old.front.items,
      length-drop n old.front.items,
      c.min.ensures,
    ) in
    record { within = omega (arith, size, old.within) }

pub loop-page-init : goal.loop-page-init
loop-page-init c =
    let old = c.args.content.now in
    let uncertain : ℕ → Bool = is_uncertain (past_of (reverse c.args.steps.now) []) old.len in
    let n : ℕ = c.min.result in
    let first : List ℕ = filled uncertain c.seed_from_u64-source.result 0 (take n old.front.items) in
    let size : length c.scatter.new.bytes.items ≡ length old.front.items =
    ap length c.scatter.ensures.items ∙ omega (
      arith,
      length-append first (drop n old.front.items),
      length-filled uncertain c.seed_from_u64-source.result 0 (take n old.front.items),
      length-take n old.front.items,
      length-drop n old.front.items,
      c.min.ensures,
    ) in
    record {
      bytes = start_drawn uncertain c.seed_from_u64-source.result c.scatter.new.source old.front.items c.scatter.new.bytes.items
          (spread old.pages.items) n old.len (min old.len (c.len-front.result + 0)) (omega (arith, c.min.ensures)) (omega (arith, c.min.ensures))
          (omega (arith, length-append old.front.items (spread old.pages.items), length-spread old.pages.items, old.within))
          c.scatter.ensures.items c.scatter.ensures.source
          ∙ ap (λ (r : Lcg). filled uncertain r 0 (shown old)) c.seed_from_u64-source.ensures;
      held = λ k. refl;
      len = refl;
      front = size;
      pages = refl;
      room = λ calls bytes end had. record { for_pages = had.for_pages; for_end = omega (arith, had.for_end, size) };
    }

pub scatter_page-requires-clause-whole : goal.scatter_page-requires-clause-whole
scatter_page-requires-clause-whole c = λ none j lt within.
    let old = c.args.content.now in
    let k : ℕ = c.loop-page.page in
    let uncertain : ℕ → Bool = is_uncertain (past_of (reverse c.args.steps.now) []) old.len in
    let pages : List Page = c.loop-page.content.pages.items in
    let in_range : k < length pages = omega (arith, c.loop-page.invariant.pages, old.within) in
    let absent : held_at old.pages.items k ≡ false =
    sym (c.loop-page.invariant.held k) ∙ ap is_held (same_page pages k Zero c.index_mut.result.now in_range ∙ sym c.index_mut.ensures.value) ∙ none in
    ap uncertain (let same : c.len-front.result + k * 4096 + j ≡ length old.front.items + 4096 * k + j = omega arith in same)
    ∙ c.requires.whole k absent j lt (omega arith)
    ∙ ap uncertain (let same : length old.front.items + 4096 * k ≡ c.len-front.result + k * 4096 = omega arith in same)

pub loop-page-preserved : goal.loop-page-preserved
loop-page-preserved c =
    let old = c.args.content.now in
    let now = c.loop-page.content in
    let k : ℕ = c.loop-page.page in
    let uncertain : ℕ → Bool = is_uncertain (past_of (reverse c.args.steps.now) []) old.len in
    let pages : List Page = now.pages.items in
    let start : ℕ = c.len-front.result + k * 4096 in
    let n : ℕ = min (old.len - start) 4096 in
    let in_range : k < length pages = omega (arith, c.loop-page.invariant.pages, old.within) in
    let new : Page = c.scatter_page.new.page in
    let held : is_held new ≡ held_at pages k =
    c.scatter_page.ensures.held ∙ ap is_held (c.index_mut.ensures.value ∙ same_page pages k c.index_mut.result.now Zero in_range) in
    record {
      bytes = page_drawn uncertain c.loop-page.source c.scatter_page.new.source now.front.items pages k c.index_mut.result.now new start n now.len
          (min old.len (c.len-front.result + 4096 * k)) (min old.len (c.len-front.result + 4096 * (k + 1))) in_range
          (omega (arith, c.loop-page.invariant.front)) (omega (arith, c.loop-page.invariant.len)) (omega (arith, c.loop-page.invariant.len)) (omega arith)
          (omega arith) (omega (arith, length-append now.front.items (spread pages), length-spread pages, now.within))
          (c.scatter_page.ensures.bytes ∙ ap (λ (p : Page). filled uncertain c.loop-page.source start (take n (page_bytes p))) c.index_mut.ensures.value)
          c.scatter_page.ensures.source
          ∙ c.loop-page.invariant.bytes;
      held = λ i. held_set pages k new held i ∙ c.loop-page.invariant.held i;
      len = c.loop-page.invariant.len;
      front = c.loop-page.invariant.front;
      pages = length-set pages k new ∙ c.loop-page.invariant.pages;
      room = λ calls bytes end had. let room = c.loop-page.invariant.room calls bytes end had in
          record { for_pages = room.for_pages; for_end = room.for_end };
    }

pub returns : goal.returns
returns c =
    let bytes = (
    let old = c.args.content.now in
    let now = c.loop-page.content in
    let uncertain : ℕ → Bool = is_uncertain (past_of (reverse c.args.steps.now) []) old.len in
    sym (end_drawn uncertain c.loop-page.source (shown now) _ (omega (
      arith,
      length-shown now.front.items now.pages.items now.len now.within,
      c.loop-page.invariant.len,
      c.div_ceil-page-end.ensures,
      c.saturating_sub.ensures,
    )))
    ∙ c.loop-page.invariant.bytes
    ) in
    search (rules, bytes)
