-- One live record more, and one name more of the version's slot.
use Rattle.std.proofs.Common.{◌+◌, List, length, get_or, set, subst, sym, ap, ◌∙◌, arith}
use Rattle.std.proofs.lemmas.Bool.{ltb-true}
use Rattle.std.proofs.lemmas.List.{length-set}
use Rattle.brick_state.specs.Entries.{Entry}
use Rattle.brick_state.specs.States.{Place, StripeOf, live_in}
use Rattle.brick_state.specs.Maps.{listed_in}
use Rattle.brick_state.specs.Tallies.{AreNames, NoneBeyond}
use Rattle.brick_state.proofs.Tallies.{names-added, beyond-added, live-added, count_fits}
use Rattle.brick_state.proofs.stripe_tables.StripeTable.add_listed.Goals as goal

pub take-requires : goal.take-requires
take-requires c = count_fits (listed_in c.args.self.now.views) c.args.self.now.counts c.args.entry.block c.args.self.now.named c.requires.few

pub invariant_of-self-2 : goal.invariant_of-self-2
invariant_of-self-2 c =
    let t = c.args.self.now in
    let stripes = listed_in t.views in
    let extended = c.add_listed.ensures.added c.if-not-add_listed.false in
    let sorted = c.add_listed.ensures.sorted in
    record {
      fits = omega (arith, t.counted, c.requires.few);
      counted = omega (arith, t.counted, ap live_in extended.is, live-added stripes c.args.place c.args.entry sorted);
      few = t.few;
      beyond = subst (λ (now : List (Place × StripeOf Entry)). NoneBeyond t.slots now c.take.new.self) (sym extended.is)
          (beyond-added t.slots stripes t.counts c.take.new.self c.args.place c.args.entry sorted t.beyond
          (ap length c.take.ensures ∙ length-set t.counts c.args.entry.block (get_or t.counts c.args.entry.block 0 + 1)) (λ is_slot. ltb-true c.args.entry.block (length t.counts) (sym c.has.ensures ∙ c.if-not-has.false)));
      named = subst (λ (counts : List _). AreNames (listed_in c.add_listed.new.views) counts) (sym c.take.ensures)
          (subst (λ (now : List (Place × StripeOf Entry)). AreNames now (set t.counts c.args.entry.block (get_or t.counts c.args.entry.block 0 + 1)))
          (sym extended.is) (names-added stripes t.counts c.args.place c.args.entry sorted t.named));
    }
