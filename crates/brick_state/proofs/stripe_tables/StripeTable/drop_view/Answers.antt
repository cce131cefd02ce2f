-- The view takes its names and its live records along.
use Rattle.std.proofs.Common.{◌≡◌, ℕ, ◌-◌, ◌<◌, List, get_or, subst, sym, ap, ◌∙◌, arith}
use Rattle.std.specs.BTreeMap.{BTreeMap, values}
use Rattle.std.specs.List.{sum_by}
use Rattle.brick_state.specs.declared.stripes.Stripe.{Stripe}
use Rattle.brick_state.specs.declared.view_tables.ViewTable.{ViewTable}
use Rattle.brick_state.specs.States.{live_in}
use Rattle.brick_state.specs.Maps.{ViewKey, flat, listed}
use Rattle.brick_state.specs.Tallies.{AreNames, NoneBeyond, names_of}
use Rattle.brick_state.proofs.Tallies.{names-removed, beyond-removed, live-removed}
use Rattle.brick_state.proofs.stripe_tables.StripeTable.drop_view.Goals as goal

pub overflow_sub-self : goal.overflow_sub-self
overflow_sub-self c =
    let t = c.args.self.now in
    omega (arith, t.counted, c.live.ensures, live-removed c.args.key c.in-Some.table t.views.entries (sym c.in-Some.ensures.value))

pub invariant_of-self : goal.invariant_of-self
invariant_of-self c =
    let t = c.args.self.now in
    let table = c.in-Some.table in
    let found = sym c.in-Some.ensures.value in
    let less = c.release_stripes.new.counts in
    let gone = live-removed c.args.key table t.views.entries found in
    let released : (slot : ℕ) → slot < _ → get_or less slot 0 ≡ get_or t.counts slot 0 - sum_by (λ s. names_of slot s.added.versions.items) (values table.stripes) =
    λ slot within. c.release_stripes.ensures.counts slot within
    ∙ ap (λ (m : BTreeMap ℕ Stripe). get_or t.counts slot 0 - sum_by (λ s. names_of slot s.added.versions.items) (values m)) c.stripes.ensures in
    record {
      fits = omega (arith, t.fits);
      few = t.few;
      counted = omega (arith, t.counted, c.live.ensures, gone, ap (λ (es : List (ViewKey × ViewTable)). live_in (listed (flat es))) c.remove.ensures.entries);
      named = subst (λ (es : List (ViewKey × ViewTable)). AreNames (listed (flat es)) less) (sym c.remove.ensures.entries)
          (names-removed c.args.key table t.views.entries t.counts less found t.named c.release_stripes.ensures.length released);
      beyond = subst (λ (es : List (ViewKey × ViewTable)). NoneBeyond t.slots (listed (flat es)) less) (sym c.remove.ensures.entries)
          (beyond-removed t.slots c.args.key table t.views.entries t.counts less found t.beyond c.release_stripes.ensures.length);
    }
