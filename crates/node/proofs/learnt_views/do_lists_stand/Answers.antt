-- Each group that was looked at stands.
use Rattle.std.proofs.Common.{◌≡◌, ◌<◌, ◌+◌, ℕ, Bool, true, false, nat_eq, List, length, Option, Some, get_or, refl, sym, ◌∙◌, ap, subst, arith}
use Rattle.std.specs.Option.{unwrap_or}
use Rattle.std.specs.List.{slice_get}
use Rattle.std.proofs.lemmas.Bool.{eqb-true}
use Rattle.std.proofs.lemmas.Bool.Decides.{nat_tests}
use Rattle.std.proofs.lemmas.Option.{slice_get_within, unwrap_or-slice_get}
use Rattle.fab_base.specs.Layouts.{Group, group_of}
use Rattle.brick_state.specs.States.{group_at}
use Rattle.replica.specs.Parts.{lists_stand}
use Rattle.node.proofs.learnt_views.do_lists_stand.Goals as goal

-- the group that is found at a place is the one that is there
found_there : (groups : List Group) (k : ℕ) (group other : Group) → slice_get groups k ≡ Some group → get_or groups k other ≡ group
found_there groups k group other found = sym (unwrap_or-slice_get groups k other) ∙ ap (λ (o : Option Group). unwrap_or o other) found

pub loop-number-preserved : goal.loop-number-preserved
loop-number-preserved g c = record { below = λ k group less found. by k group less found (nat_eq k c.loop-number.number) refl }
  where
    stands : ℕ → Group → Type 0
    stands k group = lists_stand group.m c.args.layout.now.bricks (group_at c.args.store.now.state k) ≡ true

    by : (k : ℕ) (group : Group) → k < c.loop-number.number + 1 → group_of c.args.layout.now k ≡ Some group → (b : Bool) → nat_eq k c.loop-number.number ≡ b
        → stands k group
    by k group less found false other =
        let below : k < c.loop-number.number = grind (arith, nat_tests, less, other) in
        c.loop-number.invariant.below k group below found
    by k group less found true same =
        let here : k ≡ c.loop-number.number = eqb-true k c.loop-number.number same in
        let item : c.group-item.result ≡ group = c.group-item.is
        ∙ ap (λ (groups : List Group). get_or groups c.loop-number.number c.group-item.result) c.groups-group-items.ensures
        ∙ found_there c.args.layout.now.groups c.loop-number.number group c.group-item.result (ap (slice_get c.args.layout.now.groups) (sym here) ∙ found) in
        let m : c.m.result ≡ group.m = c.m.ensures ∙ ap (λ (k : Group). k.m) item in
        subst (λ (j : ℕ). stands j group) (sym here)
        (sym ((λ i. lists_stand (m i) (c.bricks-bricks.ensures.value i) (group_at c.args.store.now.state c.loop-number.number))) ∙ sym c.stand_of.ensures ∙ c.if-not-stand_of.false)

pub returns-clause-stand : goal.returns-clause-stand
returns-clause-stand g c = λ all k group found.
    let inside : k < length c.args.layout.now.groups = slice_get_within c.args.layout.now.groups k group found in
    let count = ap (λ (groups : List Group). length groups) c.groups-group-items.ensures in
    c.loop-number.invariant.below k group (omega (arith, inside, count, c.loop-number-test.false)) found
