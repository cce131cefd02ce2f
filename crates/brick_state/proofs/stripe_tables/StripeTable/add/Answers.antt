-- One live record more, and one name more of the version's slot.
use Rattle.std.proofs.Common.{◌+◌, List, length, get_or, set, subst, sym, ap, ◌∙◌, arith}
use Rattle.std.proofs.lemmas.List.{length-set}
use Rattle.brick_state.specs.Entries.{Entry}
use Rattle.brick_state.specs.States.{Place, StripeOf, live_in}
use Rattle.brick_state.specs.Maps.{listed_in}
use Rattle.brick_state.specs.Tallies.{AreNames, NoneBeyond}
use Rattle.brick_state.proofs.Tallies.{names-added, beyond-added, live-added, count_fits}
use Rattle.brick_state.proofs.stripe_tables.StripeTable.add.Goals as goal

pub take-requires : goal.take-requires
take-requires c = count_fits (listed_in c.args.self.now.views) c.args.self.now.counts c.args.entry.block c.args.self.now.named c.requires.fits

pub invariant_of-self : goal.invariant_of-self
invariant_of-self c =
    let t = c.args.self.now in
    let stripes = listed_in t.views in
    record {
      fits = omega (arith, t.counted, c.requires.fits);
      counted = omega (arith, t.counted, ap live_in c.change.ensures.changed, live-added stripes c.args.place c.args.entry c.change.ensures.sorted);
      few = t.few;
      beyond = subst (λ (now : List (Place × StripeOf Entry)). NoneBeyond t.slots now c.take.new.self) (sym c.change.ensures.changed)
          (beyond-added t.slots stripes t.counts c.take.new.self c.args.place c.args.entry c.change.ensures.sorted t.beyond
          (ap length c.take.ensures ∙ length-set t.counts c.args.entry.block (get_or t.counts c.args.entry.block 0 + 1)) c.requires.slot);
      named = subst (λ (counts : List _). AreNames (listed_in c.change.new.views) counts) (sym c.take.ensures)
          (subst (λ (now : List (Place × StripeOf Entry)). AreNames now (set t.counts c.args.entry.block (get_or t.counts c.args.entry.block 0 + 1)))
          (sym c.change.ensures.changed) (names-added stripes t.counts c.args.place c.args.entry c.change.ensures.sorted t.named));
    }
