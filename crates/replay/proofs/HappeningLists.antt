-- The happenings of stripes, one more at a time.
use Rattle.std.proofs.Common.{◌≡◌, ℕ, zero, suc, ◌+◌, ◌-◌, ◌<◌, ◌≤◌, List, [], ◌++◌, refl, ap, ◌∙◌, add-one, arith, append-nil}
use Rattle.reg_model.specs.declared.marks.Happening.{Happening}
use Rattle.fab_base.specs.Layouts.{Layout, group_of}
use Rattle.protocol.specs.Worlds.{World}
use Rattle.protocol.specs.Happenings.{happenings_of}
use Rattle.printed.specs.Outputs.{stripes_of}
use Rattle.replay.specs.MadeRuns.{happenings_to, happenings_below}

-- one more stripe
pub happenings_to-more : (w : World) (g s : ℕ) → happenings_to w g (s + 1) ≡ happenings_to w g s ++ happenings_of w g s
happenings_to-more w g s = rw add-one refl

-- stripes without happenings add nothing
happenings_to-passed : (w : World) (g first n end : ℕ) → end ≡ n + first → ((s : ℕ) → first ≤ s → s < end → happenings_of w g s ≡ [])
    → happenings_to w g end ≡ happenings_to w g first
happenings_to-passed w g first zero end is none = ap (happenings_to w g) (let same : end ≡ first = omega (arith, is) in same)
happenings_to-passed w g first (suc n) end is none =
    ap (happenings_to w g) (let one : end ≡ suc (n + first) = omega (arith, is) in one)
    ∙ ap (λ (hs : List Happening). happenings_to w g (n + first) ++ hs) (none (n + first) (omega arith) (omega (arith, is)))
    ∙ append-nil (happenings_to w g (n + first))
    ∙ happenings_to-passed w g first n (n + first) refl (λ s low high. none s low (omega (arith, high, is)))

-- the same, by where they end
pub happenings_to-up_to : (w : World) (g first end : ℕ) → first ≤ end → ((s : ℕ) → first ≤ s → s < end → happenings_of w g s ≡ [])
    → happenings_to w g end ≡ happenings_to w g first
happenings_to-up_to w g first end within none =
    happenings_to-passed w g first (end - first) end (let same : end ≡ (end - first) + first = omega (arith, within) in same) none

-- no group
pub happenings_below-none : (layout : Layout) (w : World) → happenings_below layout w 0 ≡ []
unfolding happenings_below
happenings_below-none layout w = refl

-- one more group
pub happenings_below-more : (layout : Layout) (w : World) (g : ℕ)
    → happenings_below layout w (g + 1) ≡ happenings_below layout w g ++ happenings_to w g (stripes_of (group_of layout g))
unfolding happenings_below
happenings_below-more layout w g = rw add-one refl

pub ruleset below_rules = (happenings_below-none, happenings_below-more)
