-- One live record more or less, as the stamps say, and the same names.
use Rattle.std.proofs.Common.{◌≡◌, ◌<◌, ℕ, ◌&&◌, Bool, true, false, not, refl, List, subst, sym, ap, ◌∙◌, arith}
use Rattle.brick_state.specs.Entries.{Entry}
use Rattle.brick_state.specs.States.{Place, StripeOf, stripe_in, with_order, live_in}
use Rattle.brick_state.specs.Maps.{listed_in}
use Rattle.brick_state.specs.Tallies.{AreNames, NoneBeyond, order_weight}
use Rattle.brick_state.proofs.Tallies.{names-ordered, beyond-put, live-ordered, order_within, order_fits}
use Rattle.fab_base.specs.declared.stamps.Stamp.{Stamp}
use Rattle.fab_base.specs.Stamps.{stamp_same, first_stamp}
use Rattle.brick_state.proofs.stripe_tables.StripeTable.set_order.Goals.{else-adds-via-then-adds+else-full, else-adds-via-else-adds}
use Rattle.brick_state.proofs.stripe_tables.StripeTable.set_order.Goals as goal

abbrev adds_order_of : Stamp → Stamp → Bool
adds_order_of t old = stamp_same old first_stamp && not (stamp_same t first_stamp)

differ : true ≡ false → ⊥
differ h = cc

pub overflow_sub-self : goal.overflow_sub-self
overflow_sub-self c =
    omega (
      arith,
      c.args.self.now.counted,
      c.order_weight-before.ensures,
      ap order_weight c.order-replaced.ensures.order,
      order_within (listed_in c.args.self.now.views) c.args.place c.order-replaced.ensures.sorted,
    )

pub invariant_of-self : goal.invariant_of-self
invariant_of-self c =
    let t = c.args.self.now in
    let stripes = listed_in t.views in
    let sorted = c.order-replaced.ensures.sorted in
    let free : adds_order_of c.args.stamp c.order-replaced.result ≡ true → c.args.full ≡ false = λ adds. elim c.else-adds.branch [
      | else-adds-via-then-adds+else-full w ↦ w.if-full.false
      | else-adds-via-else-adds w ↦ absurd (differ (sym adds ∙ sym c.adds_record-adds.ensures ∙ w.if-adds.false))
    ] in
    record {
      fits = order_fits t.live c.order_weight-before.result c.order_weight.result c.args.stamp c.order-replaced.result c.order_weight-before.ensures c.order_weight.ensures
          (λ adds. subst (λ (n : ℕ). n < 4294967295) (sym t.counted) (c.requires.fits (free adds)))
          t.fits (omega (arith, t.counted, c.order_weight-before.ensures, ap order_weight c.order-replaced.ensures.order, order_within stripes c.args.place sorted));
      counted = omega (
        arith,
        t.counted,
        c.order_weight-before.ensures,
        ap order_weight c.order-replaced.ensures.order,
        c.order_weight.ensures,
        ap live_in c.change.ensures.changed,
        live-ordered stripes c.args.place c.args.stamp sorted,
        order_within stripes c.args.place sorted,
      );
      few = t.few;
      beyond = subst (λ (now : List (Place × StripeOf Entry)). NoneBeyond t.slots now t.counts) (sym c.change.ensures.changed)
          (beyond-put t.slots stripes t.counts t.counts c.args.place (with_order c.args.stamp (stripe_in stripes c.args.place)) sorted t.beyond refl
          (λ slot past is_slot. omega arith));
      named = subst (λ (now : List (Place × StripeOf Entry)). AreNames now t.counts) (sym c.change.ensures.changed)
          (names-ordered stripes t.counts c.args.place c.args.stamp sorted t.named);
    }
