-- Fields of a fixed number of bytes are read exactly where they end within the bytes.
use Rattle.std.proofs.Common.{◌≡◌, ℕ, ◌+◌, ◌-◌, ◌<◌, ◌≤◌, Bool, true, false, cond, ltb, List, ◌++◌, length, get_or, take, drop, Result, Ok, Err, refl, sym, ap, subst, ◌∙◌, arith, IfSome, IsNone, ◌↔◌}
use Rattle.std.specs.Result.{result_ok}
use Rattle.std.proofs.lemmas.Bool.{ltb-false, ltb-true}
use Rattle.std.proofs.lemmas.List.{length-take, length-drop, take-append-drop, take_rest}
use Rattle.byteorder.specs.Endian.{big_number}
use Rattle.fab_base.specs.declared.identities.BrickId.{BrickId}
use Rattle.fab_base.specs.declared.identities.GroupId.{GroupId}
use Rattle.fab_base.specs.declared.identities.StripeNo.{StripeNo}
use Rattle.fab_base.specs.declared.identities.ViewNo.{ViewNo}
use Rattle.fields.specs.declared.readers.Malformed.{Malformed}
use Rattle.fields.specs.Parts.{Part}
use Rattle.fields.specs.Laws.{IsBytes, IsBytes-drop, IsPlain, takes}
use Rattle.fields.specs.Reading.{Gives, Reads, ◌>>=◌, then_at, as_at, number_at}
use Rattle.fields.specs.Values.{made_stamp, made_ballot, stamp_fields, ballot_fields, brick_codec, view_number_codec, stamp_codec, ballot_codec}
use Rattle.fab_wire.specs.Spelling.{IsAt}
use Rattle.fab_wire.specs.Values.{made_call, call_fields, call_codec}

-- of so many bytes, this number was taken, or there are fewer
abbrev pub TakesSize : {X : Type 0} → ℕ → ℕ → Result (X × List ℕ) ℕ → Type 0
TakesSize size count (Ok x) = count ≡ size + length x.1
TakesSize size count (Err left) = count < size

-- how many bytes a field takes
pub record IsSized {X : Type 0} (size : ℕ) (at : Reads X) : Type 0 where
  pub reads : (bytes : List ℕ) → TakesSize size (length bytes) (at bytes)

number_by : (size : ℕ) (bytes : List ℕ) (b : Bool) → ltb (length bytes) size ≡ b
    → TakesSize size (length bytes) (cond b (Err (length bytes)) (Ok (big_number size (take size bytes), drop size bytes)))
number_by size bytes true e = ltb-true _ _ e
number_by size bytes false e = omega (arith, ltb-false _ _ e, length-drop size bytes)

number_sized : (size : ℕ) → IsSized size (number_at size)
unfolding number_at
number_sized size = record { reads = λ bytes. number_by size bytes (ltb (length bytes) size) refl }

second_by : {X Y : Type 0} (x : X) (m n count : ℕ) (rest : List ℕ) → count ≡ m + length rest → (r : Result (Y × List ℕ) ℕ) → TakesSize n (length rest) r
    → TakesSize {X = X × Y} (m + n) count (r >>= λ y. Ok ((x, y.0), y.1))
second_by x m n count rest first (Ok y) second = omega (arith, first, second)
second_by x m n count rest first (Err left) second = omega (arith, first, second)

first_by : {X Y : Type 0} {n : ℕ} {second : Reads Y} → IsSized n second → (m count : ℕ) (r : Result (X × List ℕ) ℕ) → TakesSize m count r
    → TakesSize {X = X × Y} (m + n) count (r >>= λ x. second x.1 >>= λ y. Ok ((x.0, y.0), y.1))
first_by {n = n} {second} two m count (Ok x) one = second_by x.0 m n count x.1 one (second x.1) (two.reads x.1)
first_by two m count (Err left) one = omega (arith, one)

then_sized : {X Y : Type 0} {m n : ℕ} {first : Reads X} {second : Reads Y} → IsSized m first → IsSized n second
    → IsSized (m + n) (then_at first second)
then_sized {m = m} {first = first} one two = record { reads = λ bytes. first_by two m (length bytes) (first bytes) (one.reads bytes) }

made_by : {X Y : Type 0} (made : X → Y) (size count : ℕ) (r : Result (X × List ℕ) ℕ) → TakesSize size count r
    → TakesSize size count (r >>= λ x. Ok (made x.0, x.1))
made_by made size count (Ok x) one = one
made_by made size count (Err left) one = one

as_sized : {X Y : Type 0} {n : ℕ} {at : Reads X} (made : X → Y) → IsSized n at → IsSized n (as_at made at)
as_sized {n = n} {at} made sized = record { reads = λ bytes. made_by made n (length bytes) (at bytes) (sized.reads bytes) }

brick_sized : IsSized 2 brick_codec.read
brick_sized = as_sized (λ (n : ℕ). let brick : BrickId = record { 0 = n } in brick) (number_sized 2)

view_sized : IsSized 4 view_number_codec.read
view_sized = as_sized (λ (n : ℕ). let view : ViewNo = record { 0 = n } in view) (number_sized 4)

pub call_sized : IsSized 28 call_codec.read
unfolding call_fields
call_sized =
    let group = as_sized (λ (n : ℕ). let group : GroupId = record { 0 = n } in group) (number_sized 4) in
    let stripe = as_sized (λ (n : ℕ). let stripe : StripeNo = record { 0 = n } in stripe) (number_sized 4) in
    as_sized made_call (then_sized (number_sized 4) (then_sized (number_sized 8) (then_sized (number_sized 4) (then_sized group (then_sized view_sized stripe)))))

pub stamp_sized : IsSized 18 stamp_codec.read
unfolding stamp_fields
stamp_sized = as_sized made_stamp (then_sized view_sized (then_sized (number_sized 8) (then_sized brick_sized (number_sized 4))))

pub ballot_sized : IsSized 10 ballot_codec.read
unfolding ballot_fields
ballot_sized = as_sized made_ballot (then_sized (number_sized 4) (then_sized brick_sized (number_sized 4)))

-- ---- at a place

-- what is read at a place stands there, and nothing is read exactly where it does not end within the bytes
pub at_place : {X : Type 0} {parts : X → List Part} {reads : Reads X} {size : ℕ} → IsPlain parts reads → IsSized size reads
    → (bytes : List ℕ) (at : ℕ) (from : List ℕ) → ((i : ℕ) → get_or bytes i 0 < 256)
    → at ≤ length bytes → from ≡ take (length bytes - at) (drop at bytes)
    → (r : Result X Malformed) (rest : List ℕ) → Gives r rest (reads from)
    → IfSome (result_ok r) (λ x. IsAt bytes at (parts x)) × (IsNone (result_ok r) ↔ (length bytes < at + size))
at_place {X} {size = size} law sized bytes at from isb within part (Ok x) rest e =
    let same : from ≡ drop at bytes = part ∙ take_rest bytes at in
    let took = (takes law from x rest (subst IsBytes (sym same) (IsBytes-drop at bytes isb)) e).1 in
    let whole : length from ≡ size + length rest = subst (λ (r : Result (X × List ℕ) ℕ). TakesSize size (length from) r) e (sized.reads from) in
    let long : length from ≡ length bytes - at = ap (λ (t : List ℕ). length t) same ∙ length-drop at bytes in (
      record {
        front = take at bytes;
        tail = rest;
        fits = took.fits;
        bytes_are = sym (take-append-drop at bytes) ∙ ap (λ (t : List ℕ). take at bytes ++ t) (sym same ∙ took.parts);
        at_is = omega (arith, within, length-take at bytes);
      },
      (λ none. absurd cc, λ short. absurd (omega (arith, within, short, whole, long))),
    )
at_place {X} {size = size} law sized bytes at from isb within part (Err fault) rest e =
    let fewer : length from < size = subst (λ (r : Result (X × List ℕ) ℕ). TakesSize size (length from) r) e (sized.reads from) in
    let long : length from ≡ length bytes - at = ap (λ (t : List ℕ). length t) (part ∙ take_rest bytes at) ∙ length-drop at bytes in
    (tt, (λ none. omega (arith, within, fewer, long), λ short. refl))
