-- A part that has come whole is the same whatever bytes come behind it.
use Rattle.std.proofs.Common.{◌≡◌, ℕ, ◌+◌, ◌≤◌, nat_eq, nat_le, Bool, true, false, ◌&&◌, cond, List, ◌++◌, length, take, drop, length-append, sym, ap, subst, ◌∙◌, arith}
use Rattle.std.proofs.lemmas.Bool.Decides.{nat_tests}
use Rattle.std.proofs.lemmas.List.{drop-append-le, take-append-le, length-drop}
use Rattle.byteorder.specs.Endian.{big_number}
use Rattle.byteorder.specs.Numbers.{big_from-append}
use Rattle.nbd_front.specs.declared.parts.NbdRequest.{NbdRequest}
use Rattle.nbd_front.specs.Wire.{field, option_magic, option_length, option_data, is_option, option_size, kind_of, request_of, request_magic, bytes_behind, is_request, request_size}

-- a field that has come whole
pub field_same : (at size : ℕ) (xs ys : List ℕ) → at + size ≤ length xs → field at size (xs ++ ys) ≡ field at size xs
unfolding field
field_same at size xs ys whole =
    let from : drop at (xs ++ ys) ≡ drop at xs ++ ys = drop-append-le at xs ys (omega (arith, whole)) in
    let rest : size ≤ length (drop at xs) = omega (arith, whole, length-drop at xs) in
    ap (big_number size) from ∙ big_from-append size (drop at xs) ys rest

-- ---- options

pub is_option_same : (xs ys : List ℕ) → 16 ≤ length xs → is_option (xs ++ ys) ≡ is_option xs
is_option_same xs ys head =
    ap (λ n. nat_eq n 0x4948_4156_454f_5054 && nat_le (option_length (xs ++ ys)) 4096) (field_same 0 8 xs ys (omega (arith, head)))
    ∙ ap (λ n. nat_eq (option_magic xs) 0x4948_4156_454f_5054 && nat_le n 4096) (field_same 12 4 xs ys head)

-- how long an option is, by a test
abbrev pub sized : Bool → ℕ → ℕ → ℕ
sized t head behind = cond t (head + behind) head

pub some_head : (t : Bool) (head behind : ℕ) → head ≤ sized t head behind
some_head true head behind = omega arith
some_head false head behind = omega arith

pub option_size_known : (xs ys : List ℕ) → 16 ≤ length xs → option_size (xs ++ ys) ≡ option_size xs
option_size_known xs ys head =
    let longer : 16 ≤ length (xs ++ ys) = omega (arith, head, length-append xs ys) in
    let here : nat_le 16 (length xs) ≡ true = grind (arith, nat_tests) in
    let there : nat_le 16 (length (xs ++ ys)) ≡ true = grind (arith, nat_tests) in
    ap (λ t. sized (t && is_option (xs ++ ys)) 16 (option_length (xs ++ ys))) there
    ∙ ap (λ t. sized t 16 (option_length (xs ++ ys))) (is_option_same xs ys head)
    ∙ ap (λ n. sized (is_option xs) 16 n) (field_same 12 4 xs ys head)
    ∙ ap (λ t. sized (t && is_option xs) 16 (option_length xs)) (sym here)

-- the head of an option that has come whole has come
pub option_head : (xs : List ℕ) → option_size xs ≤ length xs → 16 ≤ length xs
option_head xs whole = omega (arith, whole, some_head (nat_le 16 (length xs) && is_option xs) 16 (option_length xs))

pub option_size_same : (xs ys : List ℕ) → option_size xs ≤ length xs → option_size (xs ++ ys) ≡ option_size xs
option_size_same xs ys whole = option_size_known xs ys (option_head xs whole)

-- so has the data of a right one
pub option_all : (xs : List ℕ) → option_size xs ≤ length xs → is_option xs ≡ true → 16 + option_length xs ≤ length xs
option_all xs whole right =
    let head : 16 ≤ length xs = option_head xs whole in
    let here : nat_le 16 (length xs) ≡ true = grind (arith, nat_tests) in
    let size : option_size xs ≡ 16 + option_length xs =
    ap (λ t. sized (t && is_option xs) 16 (option_length xs)) here ∙ ap (λ t. sized t 16 (option_length xs)) right in
    subst (λ n. n ≤ length xs) size whole

-- so many bytes behind others
pub cut_same : (at count : ℕ) (xs ys : List ℕ) → at + count ≤ length xs → take count (drop at (xs ++ ys)) ≡ take count (drop at xs)
cut_same at count xs ys whole =
    let from : drop at (xs ++ ys) ≡ drop at xs ++ ys = drop-append-le at xs ys (omega (arith, whole)) in
    let rest : count ≤ length (drop at xs) = omega (arith, whole, length-drop at xs) in
    ap (take count) from ∙ take-append-le count (drop at xs) ys rest

pub option_data_same : (xs ys : List ℕ) → 16 + option_length xs ≤ length xs → option_data (xs ++ ys) ≡ option_data xs
option_data_same xs ys all =
    ap (λ n. take n (drop 16 (xs ++ ys))) (field_same 12 4 xs ys (omega (arith, all))) ∙ cut_same 16 (option_length xs) xs ys all

-- ---- requests

abbrev request_with : ℕ → ℕ → ℕ → ℕ → ℕ → NbdRequest
request_with flags number cookie offset length =
    record { flags = flags; kind = kind_of number; cookie = cookie; offset = offset; length = length }

pub request_same : (xs ys : List ℕ) → 28 ≤ length xs → request_of (xs ++ ys) ≡ request_of xs
request_same xs ys head =
    ap (λ n. request_with n (field 6 2 (xs ++ ys)) (field 8 8 (xs ++ ys)) (field 16 8 (xs ++ ys)) (field 24 4 (xs ++ ys)))
    (field_same 4 2 xs ys (omega (arith, head)))
    ∙ ap (λ n. request_with (field 4 2 xs) n (field 8 8 (xs ++ ys)) (field 16 8 (xs ++ ys)) (field 24 4 (xs ++ ys)))
    (field_same 6 2 xs ys (omega (arith, head)))
    ∙ ap (λ n. request_with (field 4 2 xs) (field 6 2 xs) n (field 16 8 (xs ++ ys)) (field 24 4 (xs ++ ys)))
    (field_same 8 8 xs ys (omega (arith, head)))
    ∙ ap (λ n. request_with (field 4 2 xs) (field 6 2 xs) (field 8 8 xs) n (field 24 4 (xs ++ ys)))
    (field_same 16 8 xs ys (omega (arith, head)))
    ∙ ap (λ n. request_with (field 4 2 xs) (field 6 2 xs) (field 8 8 xs) (field 16 8 xs) n) (field_same 24 4 xs ys head)

abbrev right_request : ℕ → NbdRequest → Bool
right_request magic request = nat_eq magic 0x2560_9513 && nat_le (bytes_behind request.kind request.length) 33_554_432

pub is_request_same : (xs ys : List ℕ) → 28 ≤ length xs → is_request (xs ++ ys) ≡ is_request xs
is_request_same xs ys head =
    ap (λ n. right_request n (request_of (xs ++ ys))) (field_same 0 4 xs ys (omega (arith, head)))
    ∙ ap (λ r. right_request (request_magic xs) r) (request_same xs ys head)

pub request_head : (xs : List ℕ) → request_size xs ≤ length xs → 28 ≤ length xs
request_head xs whole =
    omega (arith, whole, some_head (nat_le 28 (length xs) && is_request xs) 28 (bytes_behind (request_of xs).kind (request_of xs).length))

pub request_size_known : (xs ys : List ℕ) → 28 ≤ length xs → request_size (xs ++ ys) ≡ request_size xs
request_size_known xs ys head =
    let longer : 28 ≤ length (xs ++ ys) = omega (arith, head, length-append xs ys) in
    let here : nat_le 28 (length xs) ≡ true = grind (arith, nat_tests) in
    let there : nat_le 28 (length (xs ++ ys)) ≡ true = grind (arith, nat_tests) in
    let behind : NbdRequest → ℕ = λ request. bytes_behind request.kind request.length in
    ap (λ t. sized (t && is_request (xs ++ ys)) 28 (behind (request_of (xs ++ ys)))) there
    ∙ ap (λ t. sized t 28 (behind (request_of (xs ++ ys)))) (is_request_same xs ys head)
    ∙ ap (λ r. sized (is_request xs) 28 (behind r)) (request_same xs ys head)
    ∙ ap (λ t. sized (t && is_request xs) 28 (behind (request_of xs))) (sym here)

pub request_size_same : (xs ys : List ℕ) → request_size xs ≤ length xs → request_size (xs ++ ys) ≡ request_size xs
request_size_same xs ys whole = request_size_known xs ys (request_head xs whole)
