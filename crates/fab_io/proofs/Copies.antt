-- What a copy between a buffer and an end in memory does to the bytes of either.
use Rattle.std.proofs.Common.{◌≡◌, ℕ, ◌+◌, ◌<◌, ◌≤◌, List, [], ◌++◌, ap, sym, ◌∙◌, length, take, drop, arith, take_at, length-take-le, take-append-drop, drop-drop, drop_of_length-le}
use Rattle.fab_io.specs.Calls.{CallCount}
use Rattle.fab_io.specs.Memory.{SinkInMemory}

-- the next n bytes, copied to the front of a buffer, are what a read consumes
pub Consumes-copied : (bytes left copied old : List ℕ) (at n : ℕ) → drop at bytes ≡ left → copied ≡ take n left → n ≤ length left
    → (n ≡ 0 → 0 < length (copied ++ old) → length left ≡ 0)
    → (left ≡ take n (copied ++ old) ++ drop (at + n) bytes) × (n ≡ 0 → 0 < length (copied ++ old) → drop (at + n) bytes ≡ [])
Consumes-copied bytes left copied old at n from is within none =
    let front : take n (copied ++ old) ≡ take n left = ap (λ l. take n (l ++ old)) is ∙ take_at (take n left) old n (length-take-le n left within) in
    let back : drop (at + n) bytes ≡ drop n left = sym (drop-drop n at bytes) ∙ ap (drop n) from in (
      sym (take-append-drop n left) ∙ ap (λ l. l ++ drop n left) (sym front) ∙ ap (λ l. take n (copied ++ old) ++ l) (sym back),
      λ zero room. back ∙ drop_of_length-le left (omega (arith, none zero room)),
    )

-- a sink by its parts
pub sink_by_parts : (part : ℕ) (taken taken' : List ℕ) (calls calls' : CallCount) → taken ≡ taken' → calls ≡ calls'
    → let a : SinkInMemory = record { taken = taken; part = part; calls = calls } in
    let b : SinkInMemory = record { taken = taken'; part = part; calls = calls' } in
    a ≡ b
sink_by_parts part taken taken' calls calls' e f = cc
