-- The mark has its place.
use Rattle.std.proofs.Common.{[], ◌∷◌, ◌++◌, refl, ap, ◌∙◌}
use Rattle.reg_model.specs.declared.marks.Mark.TheVariants.{Crash}
use Rattle.world.proofs.histories.History.crash.Goals as goal

pub returns : goal.returns
returns c = record {
  marks = c.push_reserved.ensures.items
      ∙ ap (λ p. c.args.self.now.marks.items ++ Crash p c.args.brick ∷ []) (c.len-position.ensures ∙ c.args.self.now.marks.ok.0);
  calls = c.clear.ensures;
  rest = refl;
}
