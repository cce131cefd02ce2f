use Rattle.std.proofs.Common.{◌≡◌, ℕ, ◌%◌, List, [], ◌∷◌, ◌++◌, refl, sym, ◌∙◌, ap, arith}
use Rattle.std.proofs.lemmas.List.{take_more_set}
use Rattle.rand_pcg.specs.Lcg.{Lcg, advance}
use Rattle.rand_pcg.specs.Pcg.{pcg32, multiplier_64}
use Rattle.fab_disk.specs.Draws.{drawn, skipped}
use Rattle.fab_disk.proofs.Draws.{advance_is, drawn_more, skipped_more}
use Rattle.fab_disk.proofs.pages.draw.Goals as goal

pub loop-place-init : goal.loop-place-init
unfolding drawn skipped
loop-place-init c = record {
  so_far = refl;
  source = c.advance.ensures ∙ ap (λ (r : Lcg). advance 64 multiplier_64 c.args.passed r) c.copied-source.ensures
      ∙ advance_is c.args.passed c.args.random.now;
}

pub loop-place-preserved : goal.loop-place-preserved
loop-place-preserved c =
    let start : Lcg = skipped c.args.passed c.args.random.now in
    let i : ℕ = c.loop-place.place in
    let word : (c.next_word.result, c.next_word.new.self) ≡ pcg32 (skipped i start) = c.next_word.ensures ∙ ap pcg32 c.loop-place.invariant.source in
    record {
      so_far = take_more_set c.loop-place.into i (c.next_word.result % 256) (omega arith)
          ∙ ap (λ (l : List ℕ). l ++ (c.next_word.result % 256) ∷ []) c.loop-place.invariant.so_far
          ∙ ap (λ (p : ℕ × Lcg). drawn i start ++ (p.0 % 256) ∷ []) word ∙ sym (drawn_more i start);
      source = ap (λ (p : ℕ × Lcg). p.1) word ∙ sym (skipped_more i start);
    }
