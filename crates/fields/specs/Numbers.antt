-- Numbers and counted bytes are fields: each is read as it is spelled.
use Rattle.std.proofs.Common.{◌≡◌, ℕ, zero, suc, ◌^◌, ◌<◌, ◌≤◌, Bool, true, false, ◌&&◌, cond, eqb, ltb, leb, List, [], ◌∷◌, ◌++◌, length, take, drop, Option, Some, None, Result, Ok, Err, refl, sym, ap, subst, ◌∙◌, arith, ◌⊎◌, inl, inr}
use Rattle.std.proofs.lemmas.Bool.{cases_lt, eqb-true, eq-eqb, ltb-true, ltb-false, le-ltb, leb-true, le-leb, and_parts, and_from}
use Rattle.std.proofs.lemmas.List.{append-nil, take_at, drop_at, take-append-drop, length-append, length-take}
use Rattle.std.proofs.lemmas.Nat.{be_bytes_2, be_bytes_4, be_bytes_8}
use Rattle.byteorder.specs.Endian.{big_number}
use Rattle.byteorder.specs.Numbers.{big_number-reads_back, big_from-lt, length-bytes_high_first}
use Rattle.fields.specs.Parts.{Part, Number, Limited, Raw, number_bytes, bytes_of, exactly, Fits}
use Rattle.fields.specs.Reading.{◌>>=◌, number_at, valued, value_at, limited_at, exactly_at, raw_at}
use Rattle.fields.specs.Laws.{IsBytes, IsBytes-take, IsBytes-drop, IsField, IsPlain, IsReadWhole, single_field}

-- the bytes of a number of this size are its own, and there is such a number
pub record IsSize (size : ℕ) : Type 0 where
  pub back : (bytes : List ℕ) → length bytes ≡ size → IsBytes bytes → number_bytes size (big_number size bytes) ≡ bytes
  pub some : 0 < 256 ^ size

one_byte : (bytes : List ℕ) → length bytes ≡ 1 → IsBytes bytes → number_bytes 1 (big_number 1 bytes) ≡ bytes
unfolding number_bytes
one_byte [] len fits = absurd (omega arith)
one_byte (b ∷ []) len fits = let lt : b < 256 = fits 0 in ap (λ (n : ℕ). n ∷ []) (omega arith)
one_byte (b ∷ c ∷ bytes) len fits = absurd (omega arith)

pub size1 : IsSize 1
size1 = record { back = one_byte; some = omega arith }

pub size2 : IsSize 2
unfolding number_bytes
size2 = record { back = λ bytes len fits. be_bytes_2 bytes (big_number 2 bytes) len fits (omega arith); some = omega arith }

pub size4 : IsSize 4
unfolding number_bytes
size4 = record { back = λ bytes len fits. be_bytes_4 bytes (big_number 4 bytes) len fits (omega arith); some = omega arith }

pub size8 : IsSize 8
unfolding number_bytes
size8 = record { back = λ bytes len fits. be_bytes_8 bytes (big_number 8 bytes) len fits (omega arith); some = omega arith }

-- which of two answers a test chose
pub chosen : {A : Type 0} (b : Bool) (x y z : A) → cond b x y ≡ z → ((b ≡ true) × (x ≡ z)) ⊎ ((b ≡ false) × (y ≡ z))
chosen true x y z e = inl (refl, e)
chosen false x y z e = inr (refl, e)

-- the one answer of a test
chosen_some : {A : Type 0} (b : Bool) (x y : A) → cond b (Some x) None ≡ Some y → (b ≡ true) × (x ≡ y)
chosen_some true x y e = (refl, cc)
chosen_some false x y e = absurd cc

-- ---- numbers

number_read : (size : ℕ) → IsSize size → (bytes : List ℕ) → IsBytes bytes → (b : Bool) → ltb (length bytes) size ≡ b
    → IsReadWhole (λ n. Unit {0}) (λ (n : ℕ). Number size n) bytes (cond b (Err (length bytes)) (Ok (big_number size (take size bytes), drop size bytes)))
number_read size is bytes isb true e = refl
number_read size is bytes isb false e =
    let fits = IsBytes-take size bytes isb in
    let front = is.back (take size bytes) (omega (arith, length-take size bytes, ltb-false _ _ e)) fits in (
      tt,
      record {
        parts = sym (take-append-drop size bytes) ∙ ap (λ (t : List ℕ). t ++ drop size bytes) (sym front ∙ sym (append-nil _));
        fits = (big_from-lt 0 size (take size bytes) fits, tt);
        rest_fits = IsBytes-drop size bytes isb;
      },
    )

number_again : (size n : ℕ) (rest : List ℕ) → n < 256 ^ size → number_at size (number_bytes size n ++ rest) ≡ Ok (n, rest)
unfolding number_at number_bytes
number_again size n rest lt =
    let len = length-bytes_high_first size n in
    let long : ltb (length (number_bytes size n ++ rest)) size ≡ false = le-ltb _ _ (omega (arith, length-append (number_bytes size n) rest)) in
    let value : big_number size (number_bytes size n) ≡ n = ap (big_number size) (sym (append-nil (number_bytes size n)))
    ∙ big_number-reads_back size n [] lt in
    rw (long, take_at (number_bytes size n) rest size len, drop_at (number_bytes size n) rest size len, value) refl

pub number_reads : (size : ℕ) → IsSize size → (bytes : List ℕ) → IsBytes bytes → IsReadWhole (λ n. Unit {0}) (λ (n : ℕ). Number size n) bytes (number_at size bytes)
unfolding number_at
number_reads size is bytes isb = number_read size is bytes isb (ltb (length bytes) size) refl

pub number_field : (size : ℕ) → IsSize size → IsPlain (λ (n : ℕ). Number size n ∷ []) (number_at size)
number_field size is = single_field (λ (n : ℕ). Unit {0}) (λ (n : ℕ). Number size n) (number_at size) 0 tt is.some (number_reads size is)
    (λ n rest u lt. number_again size n rest lt)

-- ---- numbers that stand for values

-- part is what a value is written as, and value which one a number stands for
pub record Stands {K : Type 0} (size : ℕ) (part : K → Part) (value : ℕ → Option K) : Type 0 where
  pub is_size : IsSize size
  pub number : K → ℕ
  pub written : (k : K) → bytes_of (part k) ≡ number_bytes size (number k)
  pub there : (k : K) → Fits (part k) → (number k < 256 ^ size) × (value (number k) ≡ Some k)
  pub only : (n : ℕ) (k : K) → n < 256 ^ size → value n ≡ Some k → (number k ≡ n) × Fits (part k)
  pub example : K
  pub example_fits : Fits (part example)

valued_read : {K : Type 0} {size : ℕ} {part : K → Part} {value : ℕ → Option K} → Stands size part value → (bytes : List ℕ) (n : ℕ) (rest : List ℕ)
    → IsReadWhole (λ n. Unit {0}) (λ (n : ℕ). Number size n) bytes (Ok (n, rest)) → (o : Option K) → value n ≡ o
    → IsReadWhole (λ k. Unit {0}) part bytes (valued o rest (length bytes))
valued_read stands bytes n rest read None e = refl
valued_read {size = size} {part = part} stands bytes n rest (u, took) (Some k) e =
    let only = stands.only n k took.fits.0 e in
    let same : number_bytes size n ≡ bytes_of (part k) = ap (number_bytes size) (sym only.0) ∙ sym (stands.written k) in
    (tt, record { parts = took.parts ∙ ap (λ (t : List ℕ). (t ++ []) ++ rest) same; fits = (only.1, tt); rest_fits = took.rest_fits })

value_read : {K : Type 0} {size : ℕ} {part : K → Part} {value : ℕ → Option K} → Stands size part value → (bytes : List ℕ) (r : Result (ℕ × List ℕ) ℕ)
    → IsReadWhole (λ n. Unit {0}) (λ (n : ℕ). Number size n) bytes r
    → IsReadWhole (λ k. Unit {0}) part bytes (r >>= λ x. valued (value x.0) x.1 (length bytes))
value_read {value = value} stands bytes (Ok x) read = valued_read stands bytes x.0 x.1 read (value x.0) refl
value_read stands bytes (Err left) e = e

pub stands_field : {K : Type 0} {size : ℕ} {part : K → Part} {value : ℕ → Option K} → Stands size part value
    → IsPlain (λ (k : K). part k ∷ []) (value_at size value)
stands_field {K} {size} {part} {value} stands =
    single_field (λ (k : K). Unit {0}) part (value_at size value) stands.example tt stands.example_fits
    (λ bytes isb. value_read stands bytes (number_at size bytes) (number_reads size stands.is_size bytes isb))
    (λ k rest u fits.
    let there = stands.there k fits in
    let bytes = number_bytes size (stands.number k) ++ rest in
    ap (λ (t : List ℕ). value_at size value (t ++ rest)) (stands.written k)
    ∙ ap (λ (r : Result (ℕ × List ℕ) ℕ). r >>= λ x. valued (value x.0) x.1 (length bytes)) (number_again size (stands.number k) rest there.0)
    ∙ ap (λ (o : Option K). valued o rest (length bytes)) there.1)

-- ---- numbers with limits, and numbers that have one value alone

pub limited_field : {size : ℕ} → IsSize size → (least most : ℕ) → least ≤ most → least < 256 ^ size
    → IsPlain (λ (n : ℕ). Limited size least most n ∷ []) (limited_at size least most)
limited_field {size} is least most le some = stands_field (record {
  is_size = is;
  number = λ n. n;
  written = λ n. refl;
  there = λ n fits. (fits.0, rw (and_from (leb least n) (leb n most) (le-leb least n fits.1.0) (le-leb n most fits.1.1)) refl);
  only = λ n k lt e.
      let c = chosen_some (leb least n && leb n most) n k e in
      let both = and_parts (leb least n) (leb n most) c.0 in
      (sym c.1, subst (λ (j : ℕ). Fits (Limited size least most j)) c.1 (lt, (leb-true _ _ both.0, leb-true _ _ both.1)));
  example = least;
  example_fits = (some, (omega arith, le));
})

pub exactly_field : {size : ℕ} → IsSize size → (v : ℕ) → v < 256 ^ size → IsPlain (λ (u : Unit {0}). Limited size v v v ∷ []) (exactly_at size v)
exactly_field {size} is v some = stands_field (record {
  is_size = is;
  number = λ u. v;
  written = λ u. refl;
  there = λ u fits. (fits.0, rw (eq-eqb v v refl) refl);
  only = λ n u lt e.
      let same : n ≡ v = eqb-true n v (chosen_some (eqb n v) tt u e).0 in
      (sym same, (subst (λ (m : ℕ). m < 256 ^ size) same lt, (omega arith, omega arith)));
  example = tt;
  example_fits = (some, (omega arith, omega arith));
})

-- ---- bytes that stand for values: each of the 256 is tried

abbrev pub fits_test : Part → Bool
fits_test (Number size n) = ltb n (256 ^ size)
fits_test (Limited size least most n) = ltb n (256 ^ size) && (leb least n && leb n most)
fits_test (Raw bytes) = true

fits_true : (part : Part) → fits_test part ≡ true → Fits part
fits_true (Number size n) e = ltb-true _ _ e
fits_true (Limited size least most n) e =
    let both = and_parts (ltb n (256 ^ size)) (leb least n && leb n most) e in
    let limits = and_parts (leb least n) (leb n most) both.1 in
    (ltb-true _ _ both.0, (leb-true _ _ limits.0, leb-true _ _ limits.1))
fits_true (Raw bytes) e = tt

-- a number stands for no value, or for one that is written as it
abbrev pub agrees : {K : Type 0} → (K → ℕ) → (K → Part) → ℕ → Option K → Bool
agrees number part n None = true
agrees number part n (Some k) = eqb (number k) n && fits_test (part k)

abbrev pub each_below : ℕ → (ℕ → Bool) → Bool
each_below zero test = true
each_below (suc n) test = test n && each_below n test

below : (n : ℕ) (test : ℕ → Bool) → each_below n test ≡ true → (i : ℕ) → i < n → test i ≡ true
below zero test e i lt = absurd (omega arith)
below (suc n) test e i lt =
    let both = and_parts (test n) (each_below n test) e in
    elim (cases_lt i n) [
      | inl lt ↦ below n test both.1 i lt
      | inr le ↦ let last : n ≡ i = omega arith in subst (λ (j : ℕ). test j ≡ true) last both.0
    ]

pub byte_stands : {K : Type 0} (number : K → ℕ) (part : K → Part) (value : ℕ → Option K)
    → ((k : K) → bytes_of (part k) ≡ number_bytes 1 (number k)) → ((k : K) → Fits (part k) → (number k < 256 ^ 1) × (value (number k) ≡ Some k))
    → each_below 256 (λ n. agrees number part n (value n)) ≡ true → (k : K) → Fits (part k) → Stands 1 part value
byte_stands {K} number part value written there tried k fits = record {
  is_size = size1;
  number = number;
  written = written;
  there = there;
  only = λ n j lt e.
      let one : agrees number part n (Some j) ≡ true = ap (agrees number part n) (sym e) ∙ below 256 (λ n. agrees number part n (value n)) tried n (omega arith) in
      let both = and_parts (eqb (number j) n) (fits_test (part j)) one in
      (eqb-true _ _ both.0, fits_true (part j) both.1);
  example = k;
  example_fits = fits;
}

-- where each value whose number has room is written as its number alone
pub exact_stands : {K : Type 0} (number : K → ℕ) (value : ℕ → Option K) → ((k : K) → number k < 256 → value (number k) ≡ Some k)
    → each_below 256 (λ n. agrees number (λ k. exactly (number k)) n (value n)) ≡ true → (k : K) → number k < 256
    → Stands 1 (λ (k : K). exactly (number k)) value
exact_stands number value known tried k lt =
    byte_stands number (λ k. exactly (number k)) value (λ j. refl) (λ j fits. (fits.0, known j fits.0)) tried k (lt, (omega arith, omega arith))

-- ---- bytes whose count was told before

zeros : ℕ → List ℕ
zeros zero = []
zeros (suc n) = 0 ∷ zeros n

length-zeros : (n : ℕ) → length (zeros n) ≡ n
unfolding zeros
length-zeros zero = refl
length-zeros (suc n) = ap suc (length-zeros n)

raw_read : (count : ℕ) (bytes : List ℕ) → IsBytes bytes → (b : Bool) → ltb (length bytes) count ≡ b
    → IsReadWhole (λ (x : List ℕ). length x ≡ count) (λ (x : List ℕ). Raw x) bytes (cond b (Err (length bytes)) (Ok (take count bytes, drop count bytes)))
raw_read count bytes isb true e = refl
raw_read count bytes isb false e = (
  omega (arith, length-take count bytes, ltb-false _ _ e),
  record {
    parts = sym (take-append-drop count bytes) ∙ ap (λ (t : List ℕ). t ++ drop count bytes) (sym (append-nil (take count bytes)));
    fits = (tt, tt);
    rest_fits = IsBytes-drop count bytes isb;
  },
)

pub raw_field : (count : ℕ) → IsField (λ (bytes : List ℕ). length bytes ≡ count) (λ (bytes : List ℕ). Raw bytes ∷ []) (raw_at count)
unfolding raw_at
raw_field count = single_field (λ (bytes : List ℕ). length bytes ≡ count) (λ (bytes : List ℕ). Raw bytes) (raw_at count) (zeros count)
    (length-zeros count) tt (λ bytes isb. raw_read count bytes isb (ltb (length bytes) count) refl)
    (λ x rest len u.
    let long : ltb (length (x ++ rest)) count ≡ false = le-ltb _ _ (omega (arith, length-append x rest)) in
    rw (long, take_at x rest count len, drop_at x rest count len) refl)
