-- The counts after a version more.
use Rattle.std.proofs.Common.{ℕ, max, ap, sym, ◌∙◌, arith}
use Rattle.brick_state.proofs.TopTimes.{time-extended}
use Rattle.brick_state.proofs.ViewChanges.{live-extended}
use Rattle.brick_state.proofs.view_tables.ViewTable.add_listed.Goals as goal

pub invariant_of-self-2 : goal.invariant_of-self-2
invariant_of-self-2 c =
    let t = c.args.self.now in
    let old = t.stripes.entries in
    let new = c.add_listed.new.stripes.entries in
    let extended = c.add_listed.ensures.added c.if-not-add_listed.false in
    record {
      fits = omega (arith, t.counted, c.requires.few);
      counted = omega (arith, t.counted, live-extended c.args.number c.args.entry old new extended);
      timed = c.max-self.ensures ∙ ap (λ (n : ℕ). max n c.args.entry.stamp.time) t.timed
          ∙ sym (time-extended c.args.number c.args.entry old new extended);
      ordered = c.add_listed.ensures.ordered;
    }
