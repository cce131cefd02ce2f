-- What the fields of a range say.
use Rattle.std.specs.Prelude.{◌≡◌, ℕ, ◌+◌, ◌-◌, ◌*◌, ◌<◌, ◌≤◌, ◌^◌, List, length, Option, None, option_map, nat_lt, if◌then◌else◌}
use Rattle.std.specs.Option.{ForSome}
use Rattle.fab_base.specs.Layouts.{Layout}
use Rattle.front.specs.declared.steps.Halt.{Halt}
use Rattle.front.specs.declared.pieces.StripePart.{StripePart}
use Rattle.front.specs.Halts.{answer_of}
use Rattle.front.specs.Pieces.{Wish, parts_from, piece_at}
use Rattle.front.specs.Ranges.{Progress}

-- a range of so many data blocks as its fields show it, some of which are done
abbrev pub progress_of : Wish → ℕ → ℕ → List ℕ → Option Halt → Progress
progress_of wish total done came halt =
    record {
      block = wish.layout.block;
      left = parts_from wish done (total - done) 0;
      blocks = done;
      came = came;
      halted = option_map (answer_of done) halt;
    }

-- No more is done than the range has, its bytes have numbers of 64 bits, there are bytes for all that is to be written, and nothing is
-- left of a range that halted.
pub record IsSound (wish : Wish) (total done : ℕ) (halt : Option Halt) : Type 0 where
  pub within : done ≤ total
  pub some_byte : 1 ≤ wish.layout.block
  pub fits : (wish.first + total) * wish.layout.block < 2 ^ 64
  pub enough : ForSome wish.content (λ bytes. total * wish.layout.block ≤ length bytes)
  pub over : ForSome halt (λ why. done ≡ total)

-- the piece that is next, if one is left
abbrev pub first_piece : Layout → List ℕ → ℕ → ℕ → ℕ → Option StripePart
first_piece layout volume first total done =
    if nat_lt done total then piece_at layout volume (first + done) (total - done) else None
