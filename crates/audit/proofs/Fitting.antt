-- What the operations of a stripe ask fits it.
use Rattle.std.proofs.Common.{◌≡◌, ℕ, ◌<◌, true, nat_eq, List, get_or, Option, Some, None, ap, ◌∙◌, subst}
use Rattle.std.specs.List.{All}
use Rattle.std.proofs.lemmas.Bool.{and_parts, eqb-true}
use Rattle.std.proofs.lemmas.Option.{slice_get-get_or}
use Rattle.fab_base.specs.Layouts.{Layout, Group, group_of}
use Rattle.fab_base.specs.declared.asks.Op.{Op}
use Rattle.reg_model.specs.declared.marks.Mark.{Mark}
use Rattle.reg_model.specs.declared.marks.Mark.TheVariants.{Begin, End, Crash}
use Rattle.reg_model.specs.Marks.{Life, life_of, concerns, stripe_marks}
use Rattle.reg_model.specs.Strict.{OpFits, MarkFits}
use Rattle.reg_model.proofs.Fits.{life_of-fits, LifeFits as FitsLife}
use Rattle.reg_model.proofs.StripeLives.{filter_place}
use Rattle.audit.specs.Checks.{GroupFits, BeginFits, MarksHold}
use Rattle.audit.specs.Walks.{LifeFits}

group_fits : (given : Option Group) (group : Group) (block s : ℕ) (op : Op) → given ≡ Some group → GroupFits given block s op → (s < group.stripes) × OpFits group.m block op
group_fits None group block s op is fits = absurd fits
group_fits (Some g) group block s op is fits =
    subst (λ (x : Group). (s < x.stripes) × OpFits x.m block op) (let same : g ≡ group = cc in same) fits

-- a mark that concerns a stripe fits it
mark_fits : (layout : Layout) (marks : List Mark) (g s : ℕ) (group : Group) → group_of layout g ≡ Some group → (mark : Mark) → BeginFits layout mark
    → concerns g s marks mark ≡ true → MarkFits group.m layout.block mark
mark_fits layout marks g s group is (Begin p n b ask) fits own =
    let parts = and_parts (nat_eq ask.group.0 g) (nat_eq ask.stripe.0 s) own in
    (group_fits (group_of layout ask.group.0) group layout.block ask.stripe.0 ask.op
    (ap (group_of layout) (eqb-true ask.group.0 g parts.0) ∙ is) fits.1).1
mark_fits layout marks g s group is (End p n answer) fits own = tt
mark_fits layout marks g s group is (Crash p b) fits own = tt

-- and so do all of its marks
pub stripe_fits : (layout : Layout) (marks : List Mark) (g s : ℕ) (group : Group) → MarksHold layout marks → group_of layout g ≡ Some group
    → All (MarkFits group.m layout.block) (stripe_marks g s marks)
stripe_fits layout marks g s group hold is k d lt =
    let at = slice_get-get_or (stripe_marks g s marks) k d lt in
    let place = filter_place (concerns g s marks) marks k (get_or (stripe_marks g s marks) k d) at in
    mark_fits layout marks g s group is (get_or (stripe_marks g s marks) k d)
    (hold.begins_fit place.0 (get_or (stripe_marks g s marks) k d) place.1) place.3

-- what a life asks fits
pub life_fits : (layout : Layout) (marks : List Mark) (g s : ℕ) (group : Group) → MarksHold layout marks → group_of layout g ≡ Some group
    → (n : ℕ) → LifeFits group.m layout.block (life_of (stripe_marks g s marks) n)
life_fits layout marks g s group hold is n =
    turned (life_of (stripe_marks g s marks) n) (life_of-fits group.m layout.block (stripe_marks g s marks) n (stripe_fits layout marks g s group hold is))
  where
    turned : (life : Option Life) → FitsLife group.m layout.block life → LifeFits group.m layout.block life
    turned None h = tt
    turned (Some l) h = h
