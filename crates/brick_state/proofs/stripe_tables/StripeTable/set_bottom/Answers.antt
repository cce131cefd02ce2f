-- The names of the dropped versions are counted less, and that of the new one more.
use Rattle.std.proofs.Common.{◌+◌, ◌-◌, ◌<◌, ℕ, List, length, get_or, set, subst, sym, ap, ◌∙◌, arith}
use Rattle.std.proofs.lemmas.List.{length-set}
use Rattle.brick_state.specs.Entries.{Entry}
use Rattle.brick_state.specs.States.{Place, StripeOf, live_in}
use Rattle.brick_state.specs.Maps.{listed_in}
use Rattle.brick_state.specs.Tallies.{AreNames, NoneBeyond, names_of}
use Rattle.brick_state.proofs.Tallies.{names-bottom, beyond-bottom, live-bottom, added_within, less_fits, bottom_fits}
use Rattle.brick_state.proofs.stripe_tables.StripeTable.set_bottom.Goals as goal

pub overflow_cast-self : goal.overflow_cast-self
overflow_cast-self c =
    let t = c.args.self.now in
    let most = t.fits in
    omega (
      arith,
      t.counted,
      c.release_all-dropped.ensures.number,
      ap length c.added-versions.ensures.added,
      added_within (listed_in t.views) c.args.place c.added-versions.ensures.sorted,
      most,
    )

pub overflow_sub-self : goal.overflow_sub-self
overflow_sub-self c =
    let t = c.args.self.now in
    omega (
      arith,
      t.counted,
      c.release_all-dropped.ensures.number,
      ap length c.added-versions.ensures.added,
      added_within (listed_in t.views) c.args.place c.added-versions.ensures.sorted,
    )

pub take-requires : goal.take-requires
take-requires c =
    let t = c.args.self.now in
    let most = t.fits in
    let stripes = listed_in t.views in
    less_fits stripes t.counts c.release_all-dropped.new.counts c.args.place c.args.entry.block c.added-versions.ensures.sorted t.named
    (omega (arith, t.counted, most))
    c.requires.fits c.release_all-dropped.ensures.length
    (λ s within. c.release_all-dropped.ensures.counts s within ∙ ap (λ (es : List Entry). get_or t.counts s 0 - names_of s es) c.added-versions.ensures.added)

pub invariant_of-self : goal.invariant_of-self
invariant_of-self c =
    let t = c.args.self.now in
    let stripes = listed_in t.views in
    let less = c.release_all-dropped.new.counts in
    let sorted = c.added-versions.ensures.sorted in
    record {
      fits = bottom_fits t.live c.release_all-dropped.result
          (λ none. subst (λ (n : ℕ). n < 4294967295) (sym t.counted) (c.requires.fits (sym (ap length c.added-versions.ensures.added) ∙ sym c.release_all-dropped.ensures.number ∙ none)))
          t.fits (omega (arith, t.counted, c.release_all-dropped.ensures.number, ap length c.added-versions.ensures.added, added_within stripes c.args.place sorted));
      counted = omega (
        arith,
        t.counted,
        c.release_all-dropped.ensures.number,
        ap length c.added-versions.ensures.added,
        ap live_in c.change.ensures.changed,
        live-bottom stripes c.args.place c.args.entry sorted,
        added_within stripes c.args.place sorted,
      );
      few = t.few;
      beyond = subst (λ (now : List (Place × StripeOf Entry)). NoneBeyond t.slots now c.take.new.self) (sym c.change.ensures.changed)
          (beyond-bottom t.slots stripes t.counts c.take.new.self c.args.place c.args.entry sorted t.beyond
          (ap length c.take.ensures ∙ length-set less c.args.entry.block (get_or less c.args.entry.block 0 + 1) ∙ c.release_all-dropped.ensures.length) c.requires.slot);
      named = subst (λ (counts : List ℕ). AreNames (listed_in c.change.new.views) counts) (sym c.take.ensures)
          (subst (λ (now : List (Place × StripeOf Entry)). AreNames now (set less c.args.entry.block (get_or less c.args.entry.block 0 + 1)))
          (sym c.change.ensures.changed) (names-bottom stripes t.counts less c.args.place c.args.entry sorted t.named c.release_all-dropped.ensures.length
          (λ s within. c.release_all-dropped.ensures.counts s within ∙ ap (λ (es : List Entry). get_or t.counts s 0 - names_of s es) c.added-versions.ensures.added)));
    }
