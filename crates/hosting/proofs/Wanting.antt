-- What a range wants next, as its layout has it, and what ends that.
use Rattle.std.proofs.Common.{◌≡◌, ℕ, zero, suc, ◌+◌, ◌-◌, ◌*◌, ◌≤◌, nat_lt, Bool, true, false, cond, List, [], ◌∷◌, length, take, drop, Option, Some, None, Result, Ok, Err, option_map, option_and_then, refl, sym, ap, subst, ◌∙◌, arith}
use Rattle.std.specs.Option.{option_map_or}
use Rattle.std.proofs.lemmas.Bool.Decides.{nat_tests}
use Rattle.std.proofs.lemmas.List.{length-take}
use Rattle.std.proofs.lemmas.Option.{same_Some}
use Rattle.fab_base.specs.declared.answers.Answer.{Answer}
use Rattle.fab_base.specs.declared.answers.Answer.TheVariants as answer
use Rattle.fab_base.specs.declared.answers.Refusal.{Refusal}
use Rattle.fab_base.specs.declared.answers.Refusal.TheVariants.{Down}
use Rattle.fab_base.specs.declared.asks.Ask.{Ask}
use Rattle.fab_base.specs.declared.asks.Op.{Op}
use Rattle.fab_base.specs.declared.asks.Op.TheVariants.{ReadBlock, WriteBlock, ReadStripe, WriteStripe}
use Rattle.fab_base.specs.Layouts.{Group, Layout, group_of}
use Rattle.front.specs.declared.steps.Halt.{Halt}
use Rattle.front.specs.declared.steps.RangeAnswer.{RangeAnswer}
use Rattle.front.specs.declared.steps.RangeStep.{RangeStep}
use Rattle.front.specs.declared.steps.RangeStep.TheVariants as step
use Rattle.fab_base.specs.Asks.{bytes_by}
use Rattle.front.specs.Pieces.{Wish, Part, is_whole, piece_of, piece_at, ask_of, part_of, parts_from, parts_of, wish_of}
use Rattle.front.specs.Halts.{halt_of}
use Rattle.front.specs.Ranges.{Progress, begun_by, begun, next_by, next_of, FitsOp, FitsFirst, FitsEnd, after_by, after_end}
use Rattle.layout.specs.declared.places.Place.{Place}
use Rattle.layout.specs.Limits.{IsLayout}
use Rattle.layout.specs.Places.{place_of, blocks_of}
use Rattle.hosting.specs.declared.commands.Command.{Command}
use Rattle.hosting.specs.Asks.{wanted_of, wanted_by, wanted_in, answers, ends}
use Rattle.hosting.specs.Commanded.{range_of, refused_by, opened, bytes_asked, IsPart, AreParts, IsRangeOf, name_of, count_of, content_of}

-- ---- what ends an operation

ends_op : (op : Op) (count : ℕ) (ended : Answer) → answers (wanted_of op count) ended ≡ true → FitsOp op count ended
ends_op (ReadBlock j) count (answer.Data came) e = grind (arith, nat_tests)
ends_op (ReadBlock j) count answer.Done e = absurd cc
ends_op (ReadBlock j) count (answer.Aborted cause) e = tt
ends_op (WriteBlock j bytes) count (answer.Data came) e = absurd cc
ends_op (WriteBlock j bytes) count answer.Done e = tt
ends_op (WriteBlock j bytes) count (answer.Aborted cause) e = tt
ends_op ReadStripe count (answer.Data came) e = grind (arith, nat_tests)
ends_op ReadStripe count answer.Done e = absurd cc
ends_op ReadStripe count (answer.Aborted cause) e = tt
ends_op (WriteStripe bytes) count (answer.Data came) e = absurd cc
ends_op (WriteStripe bytes) count answer.Done e = tt
ends_op (WriteStripe bytes) count (answer.Aborted cause) e = tt

ends_first : (block : ℕ) (halted : Option RangeAnswer) (left : List Part) (came : List ℕ) (ask : Ask) (end : Result Answer Refusal)
    → next_by halted left came ≡ step.Ask ask → ends (wanted_by block left) end ≡ true → FitsFirst block left end
ends_first block (Some said) left came ask end next e = let never : step.End said ≡ step.Ask ask = next in absurd cc
ends_first block None [] came ask end next e = let never : step.End _ ≡ step.Ask ask = next in absurd cc
ends_first block None (part ∷ parts) came ask (Ok ended) next e = ends_op part.ask.op (part.blocks * block) ended e
ends_first block None (part ∷ parts) came ask (Err refusal) next e = tt

-- what is wanted of the operation that a range waits for fits it
pub ends_range : (range : Progress) (ask : Ask) (end : Result Answer Refusal) → next_of range ≡ step.Ask ask
    → ends (wanted_in range) end ≡ true → FitsEnd range end
ends_range range ask end next e = ends_first range.block range.halted range.left range.came ask end next e

-- and so does a refusal
pub refusal_fits : (range : Progress) (ask : Ask) (refusal : Refusal) → next_of range ≡ step.Ask ask → FitsEnd range (Err refusal)
refusal_fits range ask refusal next = ends_range range ask (Err refusal) next refl

-- ---- the operations that are left

-- a piece lies at a place of a group that there is
pieced : (layout : Layout) (more : ℕ) (found : Option Place) (piece : _)
    → option_and_then (λ place. option_map (λ group. piece_of place group.m more) (group_of layout place.group.0)) found ≡ Some piece
    → (place : Place) × (group : Group) × (group_of layout place.group.0 ≡ Some group) × (piece_of place group.m more ≡ piece)
pieced layout more None piece is = let never : None ≡ Some piece = is in absurd cc
pieced layout more (Some place) piece is = by_group (group_of layout place.group.0) refl is
  where
    by_group : (found : Option Group) → group_of layout place.group.0 ≡ found → option_map (λ group. piece_of place group.m more) found ≡ Some piece
        → (place : Place) × (group : Group) × (group_of layout place.group.0 ≡ Some group) × (piece_of place group.m more ≡ piece)
    by_group None e known = let never : None ≡ Some piece = known in absurd cc
    by_group (Some group) e known = (place, group, e, same_Some _ _ known)

-- an operation on a place, on all of its stripe or not
module _ (layout : Layout) (done : ℕ) (place : Place) (group : Group) (e : group_of layout place.group.0 ≡ Some group) (some : 1 ≤ group.m)
    (room : group.m * layout.block ≤ 32768) (few : layout.block ≤ 4096) where
  whole_blocks : (group.m - 1 + 1) * layout.block ≡ blocks_of (group_of layout place.group.0) * layout.block
  whole_blocks =
      let m : blocks_of (group_of layout place.group.0) ≡ group.m = ap blocks_of e in
      let all : group.m - 1 + 1 ≡ blocks_of (group_of layout place.group.0) = omega (arith, m, some) in
      ap (λ k. k * layout.block) all

  whole_room : (bytes : List ℕ) → length (take ((group.m - 1 + 1) * layout.block) bytes) ≤ 32768
  whole_room bytes =
      let all : (group.m - 1 + 1) * layout.block ≡ group.m * layout.block = ap (λ k. k * layout.block) (let same : group.m - 1 + 1 ≡ group.m = omega (arith, some) in same) in
      omega (arith, length-take ((group.m - 1 + 1) * layout.block) bytes, all, room)

  block_room : (bytes : List ℕ) → length (take ((0 + 1) * layout.block) bytes) ≤ 32768
  block_room bytes = omega (arith, length-take ((0 + 1) * layout.block) bytes, few)

  part_fits : (content : Option (List ℕ)) (whole : Bool)
      → IsPart layout (record {
        ask = ask_of layout.block content done (record (piece_of place group.m 0) { whole = whole; behind = cond whole (group.m - 1) 0 });
        blocks = cond whole (group.m - 1) 0 + 1;
      })
  part_fits None true = record { blocks = whole_blocks; bytes = omega arith }
  part_fits None false = record { blocks = omega arith; bytes = omega arith }
  part_fits (Some content) true = record { blocks = whole_blocks; bytes = whole_room (drop (done * layout.block) content) }
  part_fits (Some content) false = record { blocks = omega arith; bytes = block_room (drop (done * layout.block) content) }

piece_fits : (wish : Wish) (done more : ℕ) (piece : _) → IsLayout wish.layout
    → piece_at wish.layout wish.volume (wish.first + done) more ≡ Some piece → IsPart wish.layout (part_of wish done piece)
piece_fits wish done more piece limits is =
    let found = pieced wish.layout more (place_of wish.layout wish.volume ((wish.first + done) * wish.layout.block)) piece is in
    let group = limits.each found.0.group.0 found.1 found.2 in
    subst (λ (p : _). IsPart wish.layout (part_of wish done p)) found.3
    (part_fits wish.layout done found.0 found.1 found.2 (omega (arith, group.limits.some_block)) group.room limits.few_bytes wish.content
    (is_whole found.0 found.1.m more))

by_piece : (wish : Wish) (done more : ℕ) → IsLayout wish.layout
    → ((joined : ℕ) → AreParts wish.layout (parts_from wish (suc done) more joined))
    → (found : Option _) → piece_at wish.layout wish.volume (wish.first + done) (suc more) ≡ found
    → AreParts wish.layout (option_map_or (λ piece. part_of wish done piece ∷ parts_from wish (suc done) more piece.behind) found [])
by_piece wish done more limits rest None e = tt
by_piece wish done more limits rest (Some piece) e = (piece_fits wish done (suc more) piece limits e, rest piece.behind)

AreParts-from : (wish : Wish) (done more joined : ℕ) → IsLayout wish.layout → AreParts wish.layout (parts_from wish done more joined)
unfolding parts_from
AreParts-from wish done zero joined limits = tt
AreParts-from wish done (suc more) (suc joined) limits = AreParts-from wish (suc done) more joined limits
AreParts-from wish done (suc more) zero limits =
    by_piece wish done more limits (λ joined. AreParts-from wish (suc done) more joined limits)
    (piece_at wish.layout wish.volume (wish.first + done) (suc more)) refl

IsRangeOf-begun_by : (layout : Layout) (halt : Option Halt) (parts : List Part) → AreParts layout parts → IsRangeOf layout (begun_by halt layout.block parts)
IsRangeOf-begun_by layout None parts are = record { block = refl; parts = are }
IsRangeOf-begun_by layout (Some halt) parts are = record { block = refl; parts = tt }

-- a range of bytes that begins is one of its layout
pub IsRangeOf-begun : (layout : Layout) (volume : List ℕ) (byte count : ℕ) (content : Option (List ℕ)) → IsLayout layout
    → IsRangeOf layout (begun layout volume byte count content)
IsRangeOf-begun layout volume byte count content limits =
    IsRangeOf-begun_by layout (halt_of layout volume byte count) (parts_of layout volume byte count content)
    (AreParts-from (wish_of layout volume byte content) 0 _ 0 limits)

after_by_fits : (layout : Layout) (range : Progress) (left : List Part) (end : Result Answer Refusal) → IsRangeOf layout range → AreParts layout left
    → IsRangeOf layout (after_by range left end)
after_by_fits layout range [] end of are = of
after_by_fits layout range (part ∷ parts) (Ok (answer.Data bytes)) of are = record { block = of.block; parts = are.1 }
after_by_fits layout range (part ∷ parts) (Ok answer.Done) of are = record { block = of.block; parts = are.1 }
after_by_fits layout range (part ∷ parts) (Ok (answer.Aborted cause)) of are = record { block = of.block; parts = tt }
after_by_fits layout range (part ∷ parts) (Err refusal) of are = record { block = of.block; parts = tt }

-- a range stays one of its layout as its operations end
pub IsRangeOf-after_end : (layout : Layout) (range : Progress) (end : Result Answer Refusal) → IsRangeOf layout range → IsRangeOf layout (after_end range end)
IsRangeOf-after_end layout range end of = after_by_fits layout range range.left end of of.parts

IsRangeOf-refused_by : (layout : Layout) (range : Progress) (next : RangeStep) → IsRangeOf layout range → IsRangeOf layout (refused_by next range)
IsRangeOf-refused_by layout range (step.Ask ask) of = IsRangeOf-after_end layout range (Err Down) of
IsRangeOf-refused_by layout range (step.End said) of = of

-- the range of a command is one of its layout
pub IsRangeOf-range_of : (layout : Layout) (command : Command) → IsLayout layout → IsRangeOf layout (range_of layout command)
IsRangeOf-range_of layout command limits =
    IsRangeOf-begun layout (name_of command.volume) command.byte (count_of command.access) (content_of command.access) limits

-- also where its brick is none
pub IsRangeOf-opened : (layout : Layout) (command : Command) → IsLayout layout → IsRangeOf layout (opened layout command)
IsRangeOf-opened layout command limits = by_test (nat_lt command.brick layout.bricks)
  where
    by_test : (b : Bool) → IsRangeOf layout (cond b (range_of layout command) (refused_by (next_of (range_of layout command)) (range_of layout command)))
    by_test true = IsRangeOf-range_of layout command limits
    by_test false =
        IsRangeOf-refused_by layout (range_of layout command) (next_of (range_of layout command)) (IsRangeOf-range_of layout command limits)

-- ---- the operation that is wanted

-- it has room in a datagram, and what it is to be answered is known from it
pub record IsWanted (layout : Layout) (range : Progress) (ask : Ask) : Type 0 where
  pub bytes : length (bytes_by ask.op) ≤ 32768
  pub wanted : wanted_of ask.op (bytes_asked layout ask) ≡ wanted_in range

wanted_first : (layout : Layout) (block : ℕ) (halted : Option RangeAnswer) (left : List Part) (came : List ℕ) (ask : Ask)
    → block ≡ layout.block → AreParts layout left → next_by halted left came ≡ step.Ask ask
    → (length (bytes_by ask.op) ≤ 32768) × (wanted_of ask.op (bytes_asked layout ask) ≡ wanted_by block left)
wanted_first layout block (Some said) left came ask same are next = let never : step.End said ≡ step.Ask ask = next in absurd cc
wanted_first layout block None [] came ask same are next = let never : step.End _ ≡ step.Ask ask = next in absurd cc
wanted_first layout block None (part ∷ parts) came ask same are next =
    let it : step.Ask part.ask ≡ step.Ask ask = next in
    let is : part.ask ≡ ask = cc in
    subst (λ (a : Ask). (length (bytes_by a.op) ≤ 32768) × (wanted_of a.op (bytes_asked layout a) ≡ wanted_of part.ask.op (part.blocks * block))) is
    (are.0.bytes, ap (wanted_of part.ask.op) (sym are.0.blocks ∙ ap (λ k. part.blocks * k) (sym same)))

pub wanted_next : (layout : Layout) (range : Progress) (ask : Ask) → IsRangeOf layout range → next_of range ≡ step.Ask ask → IsWanted layout range ask
wanted_next layout range ask of next =
    let first = wanted_first layout range.block range.halted range.left range.came ask of.block of.parts next in
    record { bytes = first.0; wanted = first.1 }
