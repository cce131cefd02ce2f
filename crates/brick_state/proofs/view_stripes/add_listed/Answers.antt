-- The stripe is written with its new version, or as it was.
use Rattle.std.proofs.Common.{ap, sym, ◌∙◌}
use Rattle.std.specs.Ordering.{nat_cmp}
use Rattle.std.specs.Map.{set_value}
use Rattle.std.specs.BTreeMap.{is_at}
use Rattle.std.proofs.lemmas.Map.Steps.{set_value_same}
use Rattle.brick_state.proofs.view_stripes.add_listed.Goals as goal

pub returns-in-Some-clause-left : goal.returns-in-Some-clause-left
returns-in-Some-clause-left c = λ refused.
    let test = is_at (nat_cmp c.args.number) in
    let old = c.args.stripes.now.entries in
    (c.get_mut.follows.holds c.add.new.self).0
    ∙ ap (set_value test old) (c.add.ensures.left refused)
    ∙ set_value_same test old c.in-Some.stripe.now (sym c.in-Some.ensures.value)

pub returns-in-Some-clause-added : goal.returns-in-Some-clause-added
returns-in-Some-clause-added c = λ done. record {
  is = record {
    from = c.in-Some.stripe.now;
    to = c.add.new.self;
    there = sym c.in-Some.ensures.value;
    written = (c.get_mut.follows.holds c.add.new.self).0;
    now = c.add.ensures.added done;
  };
  above = c.add.ensures.above done;
}
