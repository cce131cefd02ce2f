-- The lines of happenings, one more at a time.
use Rattle.std.proofs.Common.{◌≡◌, ℕ, zero, suc, ◌+◌, ◌-◌, ◌<◌, ◌≤◌, List, [], ◌++◌, refl, ap, ◌∙◌, add-one, arith, append-nil}
use Rattle.reg_model.specs.declared.marks.Happening.{Happening}
use Rattle.fab_base.specs.Layouts.{Layout, group_of}
use Rattle.protocol.specs.Worlds.{World}
use Rattle.protocol.specs.Happenings.{happenings_of}
use Rattle.printed.specs.Outputs.{happened_text, stripes_text, groups_text, stripes_of}

-- one more stripe
pub stripes_text-more : (w : World) (g s : ℕ) → stripes_text w g (s + 1) ≡ stripes_text w g s ++ happened_text g s (happenings_of w g s)
stripes_text-more w g s = rw add-one refl

-- stripes without happenings add nothing
stripes_text-passed : (w : World) (g first n end : ℕ) → end ≡ n + first → ((s : ℕ) → first ≤ s → s < end → happenings_of w g s ≡ [])
    → stripes_text w g end ≡ stripes_text w g first
stripes_text-passed w g first zero end is none = ap (stripes_text w g) (let same : end ≡ first = omega (arith, is) in same)
stripes_text-passed w g first (suc n) end is none =
    ap (stripes_text w g) (let one : end ≡ suc (n + first) = omega (arith, is) in one)
    ∙ ap (λ (hs : List Happening). stripes_text w g (n + first) ++ happened_text g (n + first) hs) (none (n + first) (omega arith) (omega (arith, is)))
    ∙ append-nil (stripes_text w g (n + first))
    ∙ stripes_text-passed w g first n (n + first) refl (λ s low high. none s low (omega (arith, high, is)))

-- the same, by where they end
pub stripes_text-up_to : (w : World) (g first end : ℕ) → first ≤ end → ((s : ℕ) → first ≤ s → s < end → happenings_of w g s ≡ [])
    → stripes_text w g end ≡ stripes_text w g first
stripes_text-up_to w g first end within none =
    stripes_text-passed w g first (end - first) end (let same : end ≡ (end - first) + first = omega (arith, within) in same) none

-- no group
pub groups_text-none : (layout : Layout) (w : World) → groups_text layout w 0 ≡ []
unfolding groups_text
groups_text-none layout w = refl

-- one more group
pub groups_text-more : (layout : Layout) (w : World) (g : ℕ)
    → groups_text layout w (g + 1) ≡ groups_text layout w g ++ stripes_text w g (stripes_of (group_of layout g))
unfolding groups_text
groups_text-more layout w g = rw add-one refl

pub ruleset groups_rules = (groups_text-none, groups_text-more)
