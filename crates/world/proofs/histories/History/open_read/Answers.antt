-- What is put is what is noted, at its place.
use Rattle.std.proofs.Common.{ℕ, ◌+◌, [], ◌∷◌, ◌++◌, refl, ap, ◌∙◌}
use Rattle.fab_base.specs.declared.asks.Op.TheVariants.{ReadStripe}
use Rattle.world.specs.Noted.{begun_kept, calls_with}
use Rattle.world.proofs.histories.History.open_read.Goals as goal

pub returns : goal.returns
returns c =
    let old = c.args.self.now in
    let call = c.args.call in
    record {
      operations = c.push_reserved.ensures.items
          ∙ ap (λ (p : ℕ). old.operations.items
          ++ begun_kept c.args.brick call.boot call.seq p 0 (record { group = call.group; stripe = call.stripe; op = ReadStripe }) ∷ [])
          (c.len-begin.ensures ∙ old.marks.ok.0);
      calls = λ i. c.add.ensures i ∙ ap (λ (n : ℕ). calls_with old.calls c.args.brick.0 (n + 1) i) (c.len.ensures ∙ old.operations.ok.0);
      rest = refl;
    }
