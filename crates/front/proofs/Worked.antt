-- A worked example: stripes of two data blocks of four bytes, and a volume `v` of the stripes 2 to 5 of group 0.
use Rattle.std.proofs.Common.{◌≡◌, ℕ, [], ◌∷◌, Some, None, refl}
use Rattle.fab_base.specs.declared.asks.Ask.{Ask}
use Rattle.fab_base.specs.declared.asks.Op.{Op}
use Rattle.fab_base.specs.declared.asks.Op.TheVariants.{WriteBlock, WriteStripe}
use Rattle.fab_base.specs.Layouts.{Layout}
use Rattle.front.specs.declared.steps.Halt.TheVariants as halt
use Rattle.front.specs.Halts.{halt_of}
use Rattle.front.specs.Pieces.{parts_from, asks_of}

abbrev example : Layout
example =
    record {
      block = 4;
      bricks = 4;
      records = 64;
      port = 4000;
      store = 2;
      spares = [];
      groups = record { members = []; m = 2; stripes = 8 } ∷ [];
      volumes =
          record {
            name = 118 ∷ [];
            segments = record { group = record { 0 = 0 }; first = record { 0 = 2 }; stripes = 4 } ∷ [];
          }
          ∷ [];
    }

abbrev ask : ℕ → Op → Ask
ask stripe op = record { group = record { 0 = 0 }; stripe = record { 0 = stripe }; op = op }

-- sixteen bytes at byte 4: block 1 of stripe 2, the whole stripe 3, and block 0 of stripe 4
written : asks_of example (118 ∷ []) 4 16 (Some (1 ∷ 2 ∷ 3 ∷ 4 ∷ 5 ∷ 6 ∷ 7 ∷ 8 ∷ 9 ∷ 10 ∷ 11 ∷ 12 ∷ 13 ∷ 14 ∷ 15 ∷ 16 ∷ []))
    ≡ ask 2 (WriteBlock 1 (1 ∷ 2 ∷ 3 ∷ 4 ∷ [])) ∷ ask 3 (WriteStripe (5 ∷ 6 ∷ 7 ∷ 8 ∷ 9 ∷ 10 ∷ 11 ∷ 12 ∷ []))
    ∷ ask 4 (WriteBlock 0 (13 ∷ 14 ∷ 15 ∷ 16 ∷ [])) ∷ []
unfolding parts_from
written = refl

between_blocks : halt_of example (118 ∷ []) 2 40 ≡ Some halt.Unaligned
between_blocks = refl

past_the_end : halt_of example (118 ∷ []) 4 32 ≡ Some halt.Beyond
past_the_end = refl

up_to_the_end : halt_of example (118 ∷ []) 4 28 ≡ None
up_to_the_end = refl

of_no_volume : halt_of example (119 ∷ []) 0 4 ≡ Some halt.Beyond
of_no_volume = refl

no_bytes : halt_of example (118 ∷ []) 32 0 ≡ None
no_bytes = refl
