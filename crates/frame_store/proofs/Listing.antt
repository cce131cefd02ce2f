-- Lists of frames, as bytes and read back.
use Rattle.std.proofs.Common.{◌≡◌, ◌≢◌, ℕ, zero, suc, ◌+◌, ◌^◌, ◌<◌, ◌≤◌, List, [], ◌∷◌, ◌++◌, length, take, drop, Option, Some, None, refl, sym, ◌∙◌, ap, arith, append_assoc, append-nil, length-append, length-drop}
use Rattle.std.proofs.lemmas.Bool.Decides.{nat_tests}
use Rattle.std.proofs.lemmas.List.{take_at, drop_at}
use Rattle.std.proofs.lemmas.Nat.{from_be_bytes-to_be_bytes_4}
use Rattle.std.specs.Int.{w32, to_be_bytes, from_be_bytes}
use Rattle.frame_store.specs.declared.frames.Frame.{Frame}
use Rattle.frame_store.specs.Listed.{frame_rest, spelled, size_of, AreShort, frame_at, onto, frames_in, frames_of}

-- how many bytes a list of frames is
pub length-spelled : (frames : List Frame) → length (spelled frames) ≡ size_of frames
length-spelled [] = refl
length-spelled (f ∷ frames) = omega (arith, length-append (frame_rest f) (spelled frames), length-spelled frames)

pub size_of-append : (a b : List Frame) → size_of (a ++ b) ≡ size_of a + size_of b
size_of-append [] b = omega arith
size_of-append (f ∷ a) b = omega (arith, size_of-append a b)

pub spelled-append : (a b : List Frame) → spelled (a ++ b) ≡ spelled a ++ spelled b
spelled-append [] b = refl
spelled-append (f ∷ a) b = ap (λ (l : List ℕ). 165 ∷ l) (ap (λ (l : List ℕ). frame_rest f ++ l) (spelled-append a b)
    ∙ sym (append_assoc (frame_rest f) (spelled a) (spelled b)))

-- one frame more stands behind the others
pub spelled_more : (frames : List Frame) (f : Frame) → spelled (frames ++ f ∷ []) ≡ (spelled frames ++ 165 ∷ []) ++ frame_rest f
spelled_more frames f = spelled-append frames (f ∷ []) ∙ ap (λ (l : List ℕ). spelled frames ++ 165 ∷ l) (append-nil (frame_rest f))
    ∙ sym (append_assoc (spelled frames) (165 ∷ []) (frame_rest f))

-- frames of few bytes have short bodies
pub are_short : (frames : List Frame) → size_of frames < 2 ^ 32 → AreShort frames
are_short [] few = tt
are_short (f ∷ frames) few = (omega arith, are_short frames (omega arith))

pub are_short-append : (a b : List Frame) → AreShort a → AreShort b → AreShort (a ++ b)
are_short-append [] b none short = short
are_short-append (f ∷ a) b (first, rest) short = (first, are_short-append a b rest short)

-- each frame takes some bytes
pub length_le-size_of : (frames : List Frame) → length frames ≤ size_of frames
length_le-size_of [] = omega arith
length_le-size_of (f ∷ frames) = omega (arith, length_le-size_of frames)

-- a frame that stands at the front is read
pub frame_at-spelled : (frame : Frame) (rest : List ℕ) → length frame.body < 2 ^ 32 → frame_at (165 ∷ (frame_rest frame ++ rest)) ≡ Some (frame, rest)
unfolding frame_at
frame_at-spelled frame rest short =
    let size : from_be_bytes w32 (to_be_bytes w32 (length frame.body)) ≡ length frame.body = from_be_bytes-to_be_bytes_4 (length frame.body) short in
    let long = length-append frame.body rest in
    let body : take (length frame.body) (frame.body ++ rest) ≡ frame.body = take_at frame.body rest (length frame.body) refl in
    let after : drop (length frame.body) (frame.body ++ rest) ≡ rest = drop_at frame.body rest (length frame.body) refl in
    grind (arith, nat_tests)

-- none is read where the gate is not open
pub frame_at-shut : (gate : ℕ) (rest : List ℕ) → gate ≢ 165 → frame_at (gate ∷ rest) ≡ None
unfolding frame_at
frame_at-shut gate [] shut = refl
frame_at-shut gate (k ∷ []) shut = refl
frame_at-shut gate (k ∷ a ∷ []) shut = refl
frame_at-shut gate (k ∷ a ∷ b ∷ []) shut = refl
frame_at-shut gate (k ∷ a ∷ b ∷ c ∷ []) shut = refl
frame_at-shut gate (k ∷ a ∷ b ∷ c ∷ d ∷ rest) shut = grind (arith, nat_tests)

pub frame_at-nil : frame_at [] ≡ None
unfolding frame_at
frame_at-nil = refl

-- frames and a gate that is not open are read as these frames
pub frames_in-spelled : (n : ℕ) (frames : List Frame) (gate : ℕ) (rest : List ℕ) → length frames ≤ n → AreShort frames → gate ≢ 165
    → frames_in n (spelled frames ++ gate ∷ rest) ≡ frames
unfolding frames_in
frames_in-spelled zero [] gate rest enough short shut = refl
frames_in-spelled (suc n) [] gate rest enough short shut = ap (λ (x : Option (Frame × List ℕ)). onto x (frames_in n)) (frame_at-shut gate rest shut)
frames_in-spelled zero (f ∷ frames) gate rest enough short shut = absurd (omega arith)
frames_in-spelled (suc n) (f ∷ frames) gate rest enough (first, short) shut =
    let split : spelled (f ∷ frames) ++ gate ∷ rest ≡ 165 ∷ (frame_rest f ++ (spelled frames ++ gate ∷ rest)) = ap (λ (l : List ℕ). 165 ∷ l)
    (append_assoc (frame_rest f) (spelled frames) (gate ∷ rest)) in
    ap (λ (l : List ℕ). onto (frame_at l) (frames_in n)) split
    ∙ ap (λ (x : Option (Frame × List ℕ)). onto x (frames_in n)) (frame_at-spelled f (spelled frames ++ gate ∷ rest) first)
    ∙ ap (λ (l : List Frame). f ∷ l) (frames_in-spelled n frames gate rest (omega arith) short shut)

-- what stands after a frame is shorter
pub rest_shorter : (bytes : List ℕ) (found : Frame × List ℕ) → frame_at bytes ≡ Some found → length found.1 < length bytes
unfolding frame_at
rest_shorter [] found is = cc
rest_shorter (g ∷ []) found is = cc
rest_shorter (g ∷ k ∷ []) found is = cc
rest_shorter (g ∷ k ∷ a ∷ []) found is = cc
rest_shorter (g ∷ k ∷ a ∷ b ∷ []) found is = cc
rest_shorter (g ∷ k ∷ a ∷ b ∷ c ∷ []) found is = cc
rest_shorter (g ∷ k ∷ a ∷ b ∷ c ∷ d ∷ rest) found is =
    let long = length-drop (from_be_bytes w32 (a ∷ b ∷ c ∷ d ∷ [])) rest in
    grind (arith, nat_tests)

-- more turns than there are bytes give no more frames
pub turns_enough : (m n : ℕ) (bytes : List ℕ) → length bytes ≤ m → length bytes ≤ n → frames_in m bytes ≡ frames_in n bytes
unfolding frames_in
turns_enough zero zero bytes le_m le_n = refl
turns_enough zero (suc n) [] le_m le_n = ap (λ (x : Option (Frame × List ℕ)). onto x (frames_in n)) (sym frame_at-nil)
turns_enough zero (suc n) (b ∷ bytes) le_m le_n = absurd (omega arith)
turns_enough (suc m) zero [] le_m le_n = ap (λ (x : Option (Frame × List ℕ)). onto x (frames_in m)) frame_at-nil
turns_enough (suc m) zero (b ∷ bytes) le_m le_n = absurd (omega arith)
turns_enough (suc m) (suc n) bytes le_m le_n = each (frame_at bytes) refl (λ rest rest_m rest_n. turns_enough m n rest rest_m rest_n)
  where
    each : (x : Option (Frame × List ℕ)) → frame_at bytes ≡ x
        → ((rest : List ℕ) → length rest ≤ m → length rest ≤ n → frames_in m rest ≡ frames_in n rest)
        → onto x (frames_in m) ≡ onto x (frames_in n)
    each None is again = refl
    each (Some found) is again =
        let shorter = rest_shorter bytes found is in
        ap (λ (l : List Frame). found.0 ∷ l) (again found.1 (omega arith) (omega arith))

-- the list of bytes that begin with a frame, and of bytes that begin with none
pub frames_of-more : (bytes : List ℕ) (found : Frame × List ℕ) → frame_at bytes ≡ Some found → frames_of bytes ≡ found.0 ∷ frames_of found.1
unfolding frames_in
frames_of-more [] found is = cc (is, frame_at-nil)
frames_of-more (b ∷ bytes) found is =
    let shorter = rest_shorter (b ∷ bytes) found is in
    ap (λ (x : Option (Frame × List ℕ)). onto x (frames_in (length bytes))) is
    ∙ ap (λ (l : List Frame). found.0 ∷ l) (turns_enough (length bytes) (length found.1) found.1 (omega arith) (omega arith))

pub frames_of-none : (bytes : List ℕ) → frame_at bytes ≡ None → frames_of bytes ≡ []
unfolding frames_in
frames_of-none [] is = refl
frames_of-none (b ∷ bytes) is = ap (λ (x : Option (Frame × List ℕ)). onto x (frames_in (length bytes))) is

-- frames and a gate that is not open, in as many turns as there are bytes
pub frames_of-spelled : (frames : List Frame) (gate : ℕ) (rest : List ℕ) → AreShort frames → gate ≢ 165
    → frames_of (spelled frames ++ gate ∷ rest) ≡ frames
frames_of-spelled frames gate rest short shut =
    let long = length-append (spelled frames) (gate ∷ rest) in
    let enough : length frames ≤ length (spelled frames ++ gate ∷ rest) = omega (arith, length-spelled frames, length_le-size_of frames) in
    frames_in-spelled (length (spelled frames ++ gate ∷ rest)) frames gate rest enough short shut
