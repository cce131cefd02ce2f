-- How many calls of the disk are made.
use Rattle.std.proofs.Common.{◌≡◌, inl, inr, ℕ, ◌+◌, ◌≤◌, Bool, true, false, if◌then◌else◌, Option, Some, None, Result, Err, refl, arith, ◌&&◌, List, sym, ap, ◌∙◌}
use Rattle.std.proofs.lemmas.Bool.{cases_lt, le-leb}
use Rattle.std.proofs.lemmas.Bool.Decides.{nat_tests}
use Rattle.stamp_store.specs.declared.kept_records.Kept.TheVariants.{Boot, Ballots, Order}
use Rattle.stamp_store.specs.declared.kept_records.Kept.TheVariants as kinds
use Rattle.brick_state.specs.declared.records.Record.{Record}
use Rattle.brick_state.specs.declared.records.Record.TheVariants as forms
use Rattle.frame_store.specs.declared.shapes.Shape.{Shape}
use Rattle.frame_store.specs.declared.faults.FrameFault.{FrameFault}
use Rattle.frame_store.specs.declared.faults.FrameFault.TheVariants as frames
use Rattle.frame_store.specs.declared.frames.Frame.{Frame}
use Rattle.frame_store.specs.Layouts.{index_half_size}
use Rattle.frame_store.specs.Listed.{size_of}
use Rattle.frame_store.specs.Stores.{Held}
use Rattle.brick_store.specs.Calls.{calls_with, version_calls, has_room_for, is_appendable, opening_calls}
use Rattle.brick_store.specs.Sizes.{most}

-- no frame of a record is longer
pub most_few : (item : Record) → most item ≤ 145
most_few (forms.Kept (Boot count)) = omega arith
most_few (forms.Kept (kinds.View group view synced)) = omega arith
most_few (forms.Kept (Ballots group view promised accepted)) = omega arith
most_few (forms.Kept (Order group view stripe stamp)) = omega arith
most_few (forms.Logged logged) = omega arith

-- a list that has no room is rewritten first
pub no_room : (shape : Shape) (listed body calls : ℕ) → (listed + 6 + body + 1 ≤ index_half_size shape → ⊥) → 7 + calls ≡ calls_with shape listed body calls
no_room shape listed body calls full = elim (cases_lt (index_half_size shape) (listed + 6 + body + 1)) [
  | inl more ↦ grind (arith, nat_tests)
  | inr fits ↦ absurd (full fits)
]

-- one that has room is not
pub has_room : (shape : Shape) (listed body calls : ℕ) → listed + 6 + body + 1 ≤ index_half_size shape → calls ≡ calls_with shape listed body calls
has_room shape listed body calls fits =
    sym (ap (λ (b : Bool). if b then calls else (7 + calls)) (le-leb (listed + 6 + body + 1) (index_half_size shape) fits))

-- room was made by no call or by seven, and then the frame was appended
pub room_then : (shape : Shape) (listed body calls : ℕ) → calls_with shape listed body calls ≡ calls_with shape listed body 0 + calls
room_then shape listed body calls = by (has_room_for shape listed body)
  where
    by : (b : Bool) → (if b then calls else (7 + calls)) ≡ (if b then 0 else (7 + 0)) + calls
    by true = omega arith
    by false = omega arith

-- an append makes more than one call
pub some_calls : {T : Type 0} (put : Option T) → 2 ≤ version_calls put
some_calls None = omega arith
some_calls (Some block) = omega arith

-- the list was made ready for the count, and then the opening was counted
pub start_sum : (b : Bool) → opening_calls b ≡ (if b then 1 else 8) + 4
start_sum true = refl
start_sum false = refl

-- what is left where the list of frames was refused
abbrev refusal : FrameFault → Result (Unit {0}) FrameFault
refusal f = Err f

pub disk_failed : (f : FrameFault) (halted : Bool) → halted ≡ false → (refusal f ≡ refusal frames.Halted → halted ≡ true)
    → (refusal f ≡ refusal frames.NoMemory → ⊥) → f ≡ frames.Disk
disk_failed frames.Disk halted runs only_halted memory = refl
disk_failed frames.Halted halted runs only_halted memory = absurd (differ (sym (only_halted refl) ∙ runs))
  where
    differ : true ≡ false → ⊥
    differ e = cc
disk_failed frames.NoMemory halted runs only_halted memory = absurd (memory refl)

-- a list that was read can be appended to as one that is the same
pub appendable_is : {D : Type 0} (held : Held D) (whole now : Bool) (shape : Shape) (listed : List Frame) (closed : Bool) → whole ≡ now
    → held.shape ≡ shape → held.frames ≡ listed → held.closed ≡ closed
    → is_appendable whole held 4 ≡ ((now && closed) && has_room_for shape (size_of listed) 4)
appendable_is held whole now shape listed closed w s f e =
    ap (λ (b : Bool). (b && held.closed) && has_room_for held.shape (size_of held.frames) 4) w
    ∙ ap (λ (b : Bool). (now && b) && has_room_for held.shape (size_of held.frames) 4) e
    ∙ ap (λ (x : Shape). (now && closed) && has_room_for x (size_of held.frames) 4) s
    ∙ ap (λ (fs : List Frame). (now && closed) && has_room_for shape (size_of fs) 4) f

-- so an opening of it makes as many calls
pub opening_is : {D : Type 0} (held : Held D) (whole now : Bool) (shape : Shape) (listed : List Frame) (closed : Bool) → whole ≡ now
    → held.shape ≡ shape → held.frames ≡ listed → held.closed ≡ closed
    → opening_calls (is_appendable whole held 4) ≡ opening_calls ((now && closed) && has_room_for shape (size_of listed) 4)
opening_is held whole now shape listed closed w s f e = ap opening_calls (appendable_is held whole now shape listed closed w s f e)
