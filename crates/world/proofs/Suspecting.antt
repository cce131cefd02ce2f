-- What lines change of what is suspected, and which lines are run as they stand.
use Rattle.std.proofs.Common.{◌≡◌, ℕ, ◌≤◌, ◌-◌, Bool, true, false, cond, ◌&&◌, nat_lt, List, [], ◌∷◌, ◌++◌, Option, Some, None, refl, sym, ap, ◌∙◌, subst, arith}
use Rattle.std.specs.Prelude.{◌^◌, ◌↔◌, IsTrue, Result, Err, is_some, map}
use Rattle.std.specs.Option.{option_map}
use Rattle.std.proofs.lemmas.Bool.{cond_both, and_parts, and_from, false≢true}
use Rattle.std.proofs.lemmas.Bool.Decides.{nat_tests}
use Rattle.std.proofs.lemmas.Option.{same_Some, slice_get_past}
use Rattle.fab_base.specs.declared.answers.Refusal.{Refusal}
use Rattle.fab_base.specs.declared.answers.Refusal.TheVariants.{Down, NoStripe}
use Rattle.fab_base.specs.declared.identities.BrickId.{BrickId}
use Rattle.fab_base.specs.declared.member_lists.View.{View}
use Rattle.fab_base.specs.Layouts.{Layout, Group, group_of}
use Rattle.layout.specs.Limits.{IsLayout}
use Rattle.lines.specs.declared.forms.Line.{Line}
use Rattle.lines.specs.declared.forms.Line.TheVariants.{Propose, Suspect, Trust, Spare}
use Rattle.protocol.specs.Worlds.{World, is_up}
use Rattle.spares.specs.Suspicions.{Suspicions, HasBoth, unsuspecting, with_opinion}
use Rattle.world.specs.Runs.{Run, Step, world_of, brick_of, member_no}
use Rattle.world.specs.Shown.{AsksBricks}
use Rattle.world.specs.Suspected.{has_both, with_suspicion, suspected_after, suspected_in, suspicions_of, group_asked, proposer_in, proposer_at, list_to_propose, spare_list, proposing_line, meant}

-- one step more changes it by its line
pub suspected_in-more : (s : Suspicions) (steps : List Step) (step : Step)
    → suspected_in s (steps ++ step ∷ []) ≡ suspected_after (suspected_in s steps) step.line
suspected_in-more s [] step = refl
suspected_in-more s (first ∷ steps) step = suspected_in-more (suspected_after s first.line) steps step

-- a line that asks something of bricks changes none of it
pub asked_suspected : (s : Suspicions) (line : Line) → AsksBricks line → suspected_after s line ≡ s
asked_suspected s (Suspect b c) asks = absurd asks
asked_suspected s (Trust b c) asks = absurd asks
asked_suspected s (Spare b g) asks = absurd asks
asked_suspected s line asks = refl

-- and it is run as it stands
pub asked_meant : (r : Run) (line : Line) → AsksBricks line → meant r line ≡ line
asked_meant r (Suspect b c) asks = absurd asks
asked_meant r (Trust b c) asks = absurd asks
asked_meant r (Spare b g) asks = absurd asks
asked_meant r line asks = refl

-- a line asks something of bricks that is none of the three that speak of suspicions
pub asks_bricks : (line : Line) → ((b c : ℕ) → line ≡ Suspect b c → ⊥) → ((b c : ℕ) → line ≡ Trust b c → ⊥) → ((b g : ℕ) → line ≡ Spare b g → ⊥)
    → AsksBricks line
asks_bricks (Suspect b c) never_suspect never_trust never_spare = never_suspect b c refl
asks_bricks (Trust b c) never_suspect never_trust never_spare = never_trust b c refl
asks_bricks (Spare b g) never_suspect never_trust never_spare = never_spare b g refl
asks_bricks line never_suspect never_trust never_spare = tt

-- a disk has as many bricks whatever is suspected
bricks_with : (s : Suspicions) (b c : ℕ) (suspected : Bool) → (with_suspicion s b c suspected).bricks ≡ s.bricks
bricks_with s b c suspected =
    cond_both (has_both s.bricks b c) (with_opinion s (brick_of b) (brick_of c) suspected) s (λ (z : Suspicions). z.bricks ≡ s.bricks) (λ is. refl) (λ isnt. refl)

bricks_after : (s : Suspicions) (line : Line) → (suspected_after s line).bricks ≡ s.bricks
bricks_after s (Suspect b c) = bricks_with s b c true
bricks_after s (Trust b c) = bricks_with s b c false
bricks_after s line = refl

bricks_in : (s : Suspicions) (steps : List Step) → (suspected_in s steps).bricks ≡ s.bricks
bricks_in s [] = refl
bricks_in s (step ∷ steps) = bricks_in (suspected_after s step.line) steps ∙ bricks_after s step.line

pub bricks_of : (r : Run) → (suspicions_of r).bricks ≡ r.layout.bricks
bricks_of r = bricks_in (unsuspecting r.layout) r.steps

-- a number past 65535 is no brick's, and neither is what is asked for in its place
pub asked_below : (bricks n : ℕ) → bricks ≤ 64 → nat_lt (member_no n).0 bricks ≡ nat_lt n bricks
asked_below bricks n few = by (nat_lt n 65536) refl
  where
    by : (t : Bool) → nat_lt n 65536 ≡ t → nat_lt (cond t n 65535) bricks ≡ nat_lt n bricks
    by true small = refl
    by false large =
        let past : nat_lt 65535 bricks ≡ false = grind (arith, nat_tests, few) in
        let so : nat_lt n bricks ≡ false = grind (arith, nat_tests, large, few) in
        past ∙ sym so

-- a brick of a disk is asked for by its number
pub asked_is : (bricks n : ℕ) → bricks ≤ 64 → nat_lt n bricks ≡ true → member_no n ≡ brick_of n
asked_is bricks n few below =
    let small : nat_lt n 65536 ≡ true = grind (arith, nat_tests, few, below) in
    ap (λ (t : Bool). brick_of (cond t n 65535)) small

-- what was noted of two bricks is what a line says of them
pub noted_line : (old new : Suspicions) (b c : ℕ) (suspected both : Bool) → old.bricks ≤ 64
    → (IsTrue both ↔ HasBoth old (member_no b) (member_no c))
    → (IsTrue both → new ≡ with_opinion old (member_no b) (member_no c) suspected) → (both ≡ false → new ≡ old)
    → (new ≡ with_suspicion old b c suspected) × (both ≡ has_both old.bricks b c)
noted_line old new b c suspected true few has noted idle =
    let here : nat_lt b old.bricks ≡ true =
    sym (asked_below old.bricks b few) ∙ (let below = (has.0 refl).0 in grind (arith, nat_tests, below)) in
    let there : nat_lt c old.bricks ≡ true =
    sym (asked_below old.bricks c few) ∙ (let below = (has.0 refl).1 in grind (arith, nat_tests, below)) in
    let both_are : has_both old.bricks b c ≡ true = and_from (nat_lt b old.bricks) (nat_lt c old.bricks) here there in (
      noted refl
          ∙ ap (λ (z : BrickId). with_opinion old z (member_no c) suspected) (asked_is old.bricks b few here)
          ∙ ap (λ (z : BrickId). with_opinion old (brick_of b) z suspected) (asked_is old.bricks c few there)
          ∙ sym (ap (λ (t : Bool). cond t (with_opinion old (brick_of b) (brick_of c) suspected) old) both_are),
      sym both_are,
    )
noted_line old new b c suspected false few has noted idle =
    let lacks : has_both old.bricks b c ≡ false = by (has_both old.bricks b c) refl in (
      idle refl ∙ sym (ap (λ (t : Bool). cond t (with_opinion old (brick_of b) (brick_of c) suspected) old) lacks),
      sym lacks,
    )
  where
    by : (t : Bool) → has_both old.bricks b c ≡ t → t ≡ false
    by false is = refl
    by true is =
        let parts = and_parts (nat_lt b old.bricks) (nat_lt c old.bricks) is in
        let here : nat_lt (member_no b).0 old.bricks ≡ true = asked_below old.bricks b few ∙ parts.0 in
        let there : nat_lt (member_no c).0 old.bricks ≡ true = asked_below old.bricks c few ∙ parts.1 in
        absurd (false≢true (has.1 (grind (arith, nat_tests, here), grind (arith, nat_tests, there))))

-- the same of the bricks that were asked for
pub noted_asked : (old new : Suspicions) (x y : BrickId) (b c : ℕ) (suspected both : Bool) → x ≡ member_no b → y ≡ member_no c → old.bricks ≤ 64
    → (IsTrue both ↔ HasBoth old x y) → (IsTrue both → new ≡ with_opinion old x y suspected) → (both ≡ false → new ≡ old)
    → (new ≡ with_suspicion old b c suspected) × (both ≡ has_both old.bricks b c)
noted_asked old new x y b c suspected both x_is y_is few has noted idle =
    noted_line old new b c suspected both few
    (subst (λ (z : BrickId). IsTrue both ↔ HasBoth old z (member_no c)) x_is (subst (λ (z : BrickId). IsTrue both ↔ HasBoth old x z) y_is has))
    (subst (λ (z : BrickId). IsTrue both → new ≡ with_opinion old z (member_no c) suspected) x_is
    (subst (λ (z : BrickId). IsTrue both → new ≡ with_opinion old x z suspected) y_is noted))
    idle

-- there are at most 64 bricks, whatever is suspected
pub few_suspicions : (r : Run) (s : Suspicions) → s ≡ suspicions_of r → IsLayout r.layout → s.bricks ≤ 64
few_suspicions r s is within = subst (λ (n : ℕ). n ≤ 64) (sym (ap (λ (z : Suspicions). z.bricks) is ∙ bricks_of r)) within.few_bricks

-- a brick past the last is not up
past_down : (layout : Layout) (w : World) (i : ℕ) → nat_lt i layout.bricks ≡ false → is_up layout w (brick_of i) ≡ false
past_down layout w i past = ap (λ (t : Bool). t && w.up i) past

-- a number past 2^32 is no group's, and neither is what is asked for in its place
asked_group : (r : Run) (i g : ℕ) → IsLayout r.layout → proposer_at r i (group_asked g) ≡ proposer_at r i g
asked_group r i g is = by (nat_lt g (2 ^ 32)) refl
  where
    answer : ℕ → Bool → Result View Refusal
    answer g there =
        cond (is_up r.layout (world_of r) (brick_of i)) (cond there (proposer_in ((world_of r).nodes i) g) (Err NoStripe)) (Err Down)

    by : (t : Bool) → nat_lt g (2 ^ 32) ≡ t → proposer_at r i (cond t g (2 ^ 32 - 1)) ≡ proposer_at r i g
    by true small = refl
    by false large =
        let few = is.few_groups in
        let past : group_of r.layout (2 ^ 32 - 1) ≡ None = slice_get_past r.layout.groups (2 ^ 32 - 1) (omega (arith, few)) in
        let so : group_of r.layout g ≡ None = slice_get_past r.layout.groups g (grind (arith, nat_tests, large, few)) in
        ap (λ (o : Option Group). answer (2 ^ 32 - 1) (is_some o)) past ∙ sym (ap (λ (o : Option Group). answer g (is_some o)) so)

-- what a brick is to propose, as it is asked for that
pub asked_list : (r : Run) (b g : ℕ) → IsLayout r.layout
    → list_to_propose (suspicions_of r) (member_no b) (proposer_at r (member_no b).0 (group_asked g)) ≡ spare_list r b g
asked_list r b g is =
    ap (list_to_propose (suspicions_of r) (member_no b)) (asked_group r (member_no b).0 g is) ∙ by (nat_lt b 65536) refl
  where
    down : (i : ℕ) → nat_lt i r.layout.bricks ≡ false → list_to_propose (suspicions_of r) (brick_of i) (proposer_at r i g) ≡ Some []
    down i past =
        ap (λ (t : Bool). list_to_propose (suspicions_of r) (brick_of i)
        (cond t (cond (is_some (group_of r.layout g)) (proposer_in ((world_of r).nodes i) g) (Err NoStripe)) (Err Down)))
        (past_down r.layout (world_of r) i past)

    by : (t : Bool) → nat_lt b 65536 ≡ t
        → list_to_propose (suspicions_of r) (brick_of (cond t b 65535)) (proposer_at r (cond t b 65535) g) ≡ spare_list r b g
    by true small = refl
    by false large =
        let few = is.few_bricks in
        down 65535 (grind (arith, nat_tests, few)) ∙ sym (down b (grind (arith, nat_tests, large, few)))

pub found_list : (r : Run) (b g : ℕ) (by : BrickId) (asked : ℕ) (answer : Result View Refusal) → IsLayout r.layout → by ≡ member_no b → asked ≡ group_asked g
    → answer ≡ proposer_at r by.0 asked → list_to_propose (suspicions_of r) by answer ≡ spare_list r b g
found_list r b g by asked answer within by_is asked_is is =
    ap (list_to_propose (suspicions_of r) by) is
    ∙ ap (λ (n : ℕ). list_to_propose (suspicions_of r) by (proposer_at r by.0 n)) asked_is
    ∙ ap (λ (z : BrickId). list_to_propose (suspicions_of r) z (proposer_at r z.0 (group_asked g))) by_is
    ∙ asked_list r b g within

-- the numbers of a list's bricks
abbrev pub numbers_in : Option (List BrickId) → Option (List ℕ)
numbers_in list = option_map (λ (members : List BrickId). map (λ (member : BrickId). member.0) members) list

-- a line `spare` stands for the line of its list, or there is none
pub stands_for : (r : Run) (line : Line) (b g : ℕ) (members : List ℕ) → line ≡ Spare b g → Some members ≡ numbers_in (spare_list r b g)
    → meant r line ≡ Propose b g members
stands_for r line b g members is list = ap (meant r) is ∙ by (spare_list r b g) list
  where
    by : (o : Option (List BrickId)) → Some members ≡ numbers_in o → proposing_line b g o ≡ Propose b g members
    by None found = let never : Some members ≡ None = found in cc
    by (Some found) same = ap (Propose b g) (sym (same_Some members (map (λ (member : BrickId). member.0) found) same))

pub no_list : (o : Option (List BrickId)) → None ≡ numbers_in o → o ≡ None
no_list None none = refl
no_list (Some found) none = let never : None ≡ Some (map (λ (member : BrickId). member.0) found) = none in cc

-- what is suspected after one step more
pub suspected_on : (layout : Layout) (before after : List Step) (step : Step) (old new : Suspicions) → after ≡ before ++ step ∷ []
    → old ≡ suspected_in (unsuspecting layout) before → new ≡ suspected_after old step.line → new ≡ suspected_in (unsuspecting layout) after
suspected_on layout before after step old new steps was now =
    now ∙ ap (λ (z : Suspicions). suspected_after z step.line) was
    ∙ sym (ap (suspected_in (unsuspecting layout)) steps ∙ suspected_in-more (unsuspecting layout) before step)
