use Rattle.std.proofs.Common.{rules, ◌≡◌, ℕ, ◌+◌, ◌-◌, ◌/◌, ◌%◌, List, ◌++◌, length, take, replicate, get_or, set, sym, ◌∙◌, ap, subst, arith}
use Rattle.fab_disk.specs.Pages.{page_bytes, spread}
use Rattle.fab_disk.specs.declared.pages.Page.{Page}
use Rattle.fab_disk.proofs.Spreads.{tail_cut, tail_cleared}
use Rattle.fab_disk.proofs.pages.Pages.clear_tail.Goals as goal

pub returns-then-place-gt0 : goal.returns-then-place-gt0
returns-then-place-gt0 c =
    let bytes = (
    let front : List ℕ = c.args.self.now.front.items in
    let pages : List Page = c.args.self.now.pages.items in
    let len : ℕ = c.args.self.now.len in
    let place : ℕ = len - c.len-front.result in
    let k : ℕ = place / 4096 in
    let held : Page = c.hold.new.self in
    let cleared : Page = c.clear-then-place-gt0.new.self in
    let up : c.div_ceil.result ≡ k + 1 = omega (arith, c.div_ceil.ensures, c.if-place-gt0.true) in
    let short : c.truncate.new.self.items ≡ take (k + 1) pages = c.truncate.ensures.items ∙ ap (λ (n : ℕ). take n pages) up in
    let same : page_bytes held ≡ page_bytes (get_or (take (k + 1) pages) k c.index_mut.result.now) =
    c.hold.ensures.same ∙ ap page_bytes c.index_mut.ensures.value ∙ ap (λ (l : List Page). page_bytes (get_or l k c.index_mut.result.now)) short in
    let other : Page = c.index_mut-then-place-gt0.result.now in
    let zeros : page_bytes cleared ≡ take (place % 4096) (page_bytes (get_or (set (take (k + 1) pages) k held) k other)) ++ replicate (4096 - place % 4096) 0 =
    c.clear-then-place-gt0.ensures.bytes
    ∙ ap (λ (p : Page). take (place % 4096) (page_bytes p) ++ replicate (4096 - place % 4096) 0) c.index_mut-then-place-gt0.ensures.value
    ∙ ap (λ (l : List Page). take (place % 4096) (page_bytes (get_or (set l k held) k other)) ++ replicate (4096 - place % 4096) 0) short in
    subst (λ (l : List Page). front ++ spread (set (set l k held) k cleared)
    ≡ take len (front ++ spread pages) ++ replicate (length (front ++ spread (set (set l k held) k cleared)) - len) 0) (sym short)
    (tail_cleared front pages k (place % 4096) len c.index_mut.result.now other held cleared (omega (arith, c.args.self.now.within)) (omega arith)
    (omega arith) same zeros)
    ) in
    search (rules, bytes)

pub returns-else-place-gt0 : goal.returns-else-place-gt0
returns-else-place-gt0 c =
    let bytes = (
    let front : List ℕ = c.args.self.now.front.items in
    let pages : List Page = c.args.self.now.pages.items in
    let len : ℕ = c.args.self.now.len in
    let k : ℕ = (len - c.len-front.result) / 4096 in
    let down : c.div_ceil.result ≡ k = omega (arith, c.div_ceil.ensures, c.if-place-gt0.false) in
    let short : c.truncate.new.self.items ≡ take k pages = c.truncate.ensures.items ∙ ap (λ (n : ℕ). take n pages) down in
    subst (λ (l : List Page). front ++ spread l ≡ take len (front ++ spread pages) ++ replicate (length (front ++ spread l) - len) 0) (sym short)
    (tail_cut front pages k len (omega (arith, c.if-place-gt0.false)) (omega (arith, c.args.self.now.within)))
    ) in
    search (rules, bytes)
