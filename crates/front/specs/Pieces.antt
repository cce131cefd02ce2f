-- The operations of a range of a volume.
use Rattle.std.specs.Prelude.{ℕ, zero, suc, ◌+◌, ◌-◌, ◌*◌, ◌/◌, nat_eq, nat_le, Bool, ◌&&◌, if◌then◌else◌, List, [], ◌∷◌, map, take, drop, Option, None, Some, option_map, option_and_then}
use Rattle.std.specs.Option.{option_map_or}
use Rattle.fab_base.specs.declared.asks.Ask.{Ask}
use Rattle.fab_base.specs.declared.asks.Op.{Op}
use Rattle.fab_base.specs.declared.asks.Op.TheVariants.{ReadBlock, WriteBlock, ReadStripe, WriteStripe}
use Rattle.fab_base.specs.Layouts.{Layout, group_of}
use Rattle.layout.specs.declared.places.Place.{Place}
use Rattle.layout.specs.Places.{place_of}
use Rattle.front.specs.declared.pieces.StripePart.{StripePart}

-- A range has a whole stripe from this place on: its block 0 lies there, and the range has no fewer data blocks from there on than the
-- stripe has.
abbrev pub is_whole : Place → ℕ → ℕ → Bool
is_whole place blocks more = nat_eq place.block 0 && nat_le blocks more

-- the piece at a place of a stripe of so many data blocks: all of the stripe where the range has it, and else the block
abbrev pub piece_of : Place → ℕ → ℕ → StripePart
piece_of place blocks more =
    record {
      place = place;
      whole = is_whole place blocks more;
      behind = (if is_whole place blocks more then blocks - 1 else 0);
    }

-- the piece that begins at a data block of a volume, where the range has so many data blocks from there on
abbrev pub piece_at : Layout → List ℕ → ℕ → ℕ → Option StripePart
piece_at layout name number more =
    option_and_then (λ place. option_map (λ group. piece_of place group.m more) (group_of layout place.group.0))
    (place_of layout name (number * layout.block))

-- the bytes of a piece, of those that are to be written from the range's first data block on
abbrev pub cut_of : ℕ → ℕ → ℕ → List ℕ → List ℕ
cut_of block done behind content = take ((behind + 1) * block) (drop (done * block) content)

-- the operation on a piece: a write of these bytes, or a read
abbrev pub op_of : StripePart → Option (List ℕ) → Op
op_of piece None = if piece.whole then ReadStripe else ReadBlock piece.place.block
op_of piece (Some bytes) = if piece.whole then WriteStripe bytes else WriteBlock piece.place.block bytes

-- The operation on a piece before which so many data blocks of the range come: a write of its bytes of these, or a read.
abbrev pub ask_of : ℕ → Option (List ℕ) → ℕ → StripePart → Ask
ask_of block content done piece =
    record {
      group = piece.place.group;
      stripe = piece.place.stripe;
      op = op_of piece (option_map (cut_of block done piece.behind) content);
    }

-- what is asked for: data blocks of a volume from one of this number on, to be read, or to be written with these bytes
pub record Wish : Type 0 where
  pub layout : Layout
  pub volume : List ℕ
  pub first : ℕ
  pub content : Option (List ℕ)

-- an operation, and how many data blocks it is on
pub record Part : Type 0 where
  pub ask : Ask
  pub blocks : ℕ

-- the operation on a piece before which so many data blocks of the range come
abbrev pub part_of : Wish → ℕ → StripePart → Part
part_of wish done piece = record { ask = ask_of wish.layout.block wish.content done piece; blocks = piece.behind + 1 }

-- The operations on `more` data blocks of the range, before which `done` come, in rising order. The first `joined` of them are in the
-- operation before. Each other one begins an operation: on its stripe, where it is block 0 of a stripe that the range covers whole,
-- so that the stripe's other blocks are in it too; and else on itself alone.
unfoldable pub parts_from : Wish → ℕ → ℕ → ℕ → List Part
parts_from wish done zero joined = []
parts_from wish done (suc more) (suc joined) = parts_from wish (suc done) more joined
parts_from wish done (suc more) zero =
    option_map_or (λ piece. part_of wish done piece ∷ parts_from wish (suc done) more piece.behind) (piece_at wish.layout wish.volume (wish.first + done) (suc more)) []

-- what is asked for by a range of bytes
abbrev pub wish_of : Layout → List ℕ → ℕ → Option (List ℕ) → Wish
wish_of layout volume byte content =
    record { layout = layout; volume = volume; first = byte / layout.block; content = content }

-- the operations on a range of bytes, and how many data blocks each is on
abbrev pub parts_of : Layout → List ℕ → ℕ → ℕ → Option (List ℕ) → List Part
parts_of layout volume byte length content = parts_from (wish_of layout volume byte content) 0 (length / layout.block) 0

-- the operations that read or write a range of bytes
abbrev pub asks_of : Layout → List ℕ → ℕ → ℕ → Option (List ℕ) → List Ask
asks_of layout volume byte length content = map (λ part. part.ask) (parts_of layout volume byte length content)
