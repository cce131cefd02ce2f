-- The bricks are those of the numbers.
use Rattle.std.proofs.Common.{◌≡◌, ℕ, List, [], ◌∷◌, map, nat_eq, ◌||◌, refl, ap, ◌∙◌}
use Rattle.std.specs.List.{list_any}
use Rattle.fab_base.specs.declared.identities.BrickId.{BrickId}
use Rattle.protocol.specs.Calms.{is_one_of}
use Rattle.world.specs.Runs.{brick_of}
use Rattle.world.proofs.deliveries.is_one_of.Goals as goal

among : (numbers : List ℕ) (brick : BrickId) → list_any (λ one. nat_eq one brick.0) numbers ≡ is_one_of (map brick_of numbers) brick
among [] brick = refl
among (n ∷ numbers) brick = ap (λ b. nat_eq n brick.0 || b) (among numbers brick)

pub returns : goal.returns
returns c = c.is_among.ensures ∙ ap (λ n. list_any (λ one. nat_eq one n) c.args.bricks.now) c.from.ensures ∙ among c.args.bricks.now c.args.brick
