-- Readers of fields: what one takes is spelled so, what is spelled so it reads again, and where it stops nothing goes further.
use Rattle.std.proofs.Common.{◌≡◌, ℕ, zero, suc, ◌+◌, ◌<◌, ◌≤◌, List, [], ◌∷◌, ◌++◌, length, get_or, take, drop, map, Result, Ok, Err, refl, sym, ap, subst, ◌∙◌, append_assoc, arith, ◌⊎◌, inl, inr}
use Rattle.std.proofs.lemmas.Bool.{cases_lt}
use Rattle.std.proofs.lemmas.List.{append-nil, length-append, length-take, get_or-drop, get_or-take, get_or_past}
use Rattle.fields.specs.Parts.{Part, bytes_of, spelled, Fits, AllFit}
use Rattle.fields.specs.Reading.{Reads, ◌>>=◌, then_at, as_at, nothing_at, times_at}

abbrev pub IsBytes : List ℕ → Type 0
IsBytes bytes = (i : ℕ) → get_or bytes i 0 < 256

pub IsBytes-drop : (n : ℕ) (bytes : List ℕ) → IsBytes bytes → IsBytes (drop n bytes)
IsBytes-drop n bytes h i = rw get_or-drop (h (n + i))

pub IsBytes-take : (n : ℕ) (bytes : List ℕ) → IsBytes bytes → IsBytes (take n bytes)
IsBytes-take n bytes h i =
    elim (cases_lt i n) [
      | inl lt ↦ rw (get_or-take n bytes i 0 lt) (h i)
      | inr le ↦ rw (get_or_past (take n bytes) i 0 (omega (arith, length-take n bytes))) (omega arith)
    ]

-- ---- lists of parts

pub spelled-append : (a b : List Part) → spelled (a ++ b) ≡ spelled a ++ spelled b
spelled-append [] b = refl
spelled-append (f ∷ a) b = ap (λ (t : List ℕ). bytes_of f ++ t) (spelled-append a b) ∙ sym (append_assoc (bytes_of f) (spelled a) (spelled b))

-- parts, and bytes after them
spelled_then : (a b : List Part) (rest : List ℕ) → spelled (a ++ b) ++ rest ≡ spelled a ++ (spelled b ++ rest)
spelled_then a b rest = ap (λ (t : List ℕ). t ++ rest) (spelled-append a b) ∙ append_assoc (spelled a) (spelled b) rest

pub AllFit-append : (a b : List Part) → AllFit a → AllFit b → AllFit (a ++ b)
AllFit-append [] b p q = q
AllFit-append (f ∷ a) b p q = (p.0, AllFit-append a b p.1 q)

pub AllFit-front : (a b : List Part) → AllFit (a ++ b) → AllFit a
AllFit-front [] b h = tt
AllFit-front (f ∷ a) b h = (h.0, AllFit-front a b h.1)

pub AllFit-back : (a b : List Part) → AllFit (a ++ b) → AllFit b
AllFit-back [] b h = h
AllFit-back (f ∷ a) b h = AllFit-back a b h.1

-- the bytes begin with the first of these parts, and so many bytes are left after them
abbrev pub Front : List Part → List ℕ → ℕ → Type 0
Front [] bytes left = length bytes ≡ left
Front (part ∷ parts) bytes left = (length bytes ≡ left) ⊎ ((rest : List ℕ) × (bytes ≡ bytes_of part ++ rest) × Front parts rest left)

-- with none of them
pub front_none : (a : List Part) (bytes : List ℕ) (left : ℕ) → length bytes ≡ left → Front a bytes left
front_none [] bytes left e = e
front_none (f ∷ a) bytes left e = inl e

-- with the first of the first list
front_before : (a b : List Part) (bytes : List ℕ) (left : ℕ) → Front a bytes left → Front (a ++ b) bytes left
front_before [] b bytes left e = front_none b bytes left e
front_before (f ∷ a) b bytes left (inl e) = inl e
front_before (f ∷ a) b bytes left (inr w) = inr (w.0, w.1, front_before a b w.0 left w.2)

-- with all of the first list
pub front_after : (a b : List Part) (rest : List ℕ) (left : ℕ) → Front b rest left → Front (a ++ b) (spelled a ++ rest) left
front_after [] b rest left front = front
front_after (f ∷ a) b rest left front = inr (spelled a ++ rest, append_assoc (bytes_of f) (spelled a) rest, front_after a b rest left front)

-- one or the other
front_cases : (a b : List Part) (bytes : List ℕ) (left : ℕ) → Front (a ++ b) bytes left
    → Front a bytes left ⊎ ((rest : List ℕ) × (bytes ≡ spelled a ++ rest) × Front b rest left)
front_cases [] b bytes left front = inr (bytes, refl, front)
front_cases (f ∷ a) b bytes left (inl e) = inl (inl e)
front_cases (f ∷ a) b bytes left (inr w) =
    elim (front_cases a b w.0 left w.2) [
      | inl front ↦ inl (inr (w.0, w.1, front))
      | inr v ↦ inr (v.0, w.1 ∙ ap (λ (t : List ℕ). bytes_of f ++ t) v.1 ∙ sym (append_assoc (bytes_of f) (spelled a) v.0), v.2)
    ]

-- ---- readers

-- how many bytes are left after a field, or from the part on that is not read
abbrev pub left_of : {X : Type 0} → Result (X × List ℕ) ℕ → ℕ
left_of (Ok x) = length x.1
left_of (Err left) = left

-- what a reader took from the front
pub record Takes (bytes : List ℕ) (fields : List Part) (rest : List ℕ) : Type 0 where
  pub parts : bytes ≡ spelled fields ++ rest
  pub fits : AllFit fields
  pub rest_fits : IsBytes rest

-- the bytes begin with the first parts of a value, and so many bytes are left
pub record Reaches {X : Type 0} (Is : X → Type 0) (parts : X → List Part) (bytes : List ℕ) (left : ℕ) : Type 0 where
  pub value : X
  pub is : Is value
  pub fits : AllFit (parts value)
  pub front : Front (parts value) bytes left

-- what is read stands there, and where nothing is read the bytes before are parts of a value
abbrev pub IsRead : {X : Type 0} (Is : X → Type 0) (parts : X → List Part) (bytes : List ℕ) → Result (X × List ℕ) ℕ → Type 0
IsRead Is parts bytes (Ok x) = Is x.0 × Takes bytes (parts x.0) x.1
IsRead Is parts bytes (Err left) = Reaches Is parts bytes left

-- A way to read the parts of a value.
pub record IsField {X : Type 0} (Is : X → Type 0) (parts : X → List Part) (at : Reads X) : Type 0 where
  pub example : X
  pub example_is : Is example
  pub example_fits : AllFit (parts example)
  pub reads : (bytes : List ℕ) → IsBytes bytes → IsRead Is parts bytes (at bytes)
  pub again : (x : X) (rest : List ℕ) → Is x → AllFit (parts x) → at (spelled (parts x) ++ rest) ≡ Ok (x, rest)
  pub furthest : (bytes : List ℕ) (x : X) (left : ℕ) → IsBytes bytes → Is x → AllFit (parts x) → Front (parts x) bytes left → left_of (at bytes) ≤ left

-- the same of every value
abbrev pub IsPlain : {X : Type 0} → (X → List Part) → Reads X → Type 0
IsPlain parts at = IsField (λ x. Unit {0}) parts at

pub takes : {X : Type 0} {Is : X → Type 0} {parts : X → List Part} {at : Reads X} → IsField Is parts at → (bytes : List ℕ) (x : X) (rest : List ℕ)
    → IsBytes bytes → at bytes ≡ Ok (x, rest) → Is x × Takes bytes (parts x) rest
takes {X} {Is} {parts} field bytes x rest isb e = subst (λ (r : Result (X × List ℕ) ℕ). IsRead Is parts bytes r) e (field.reads bytes isb)

pub no_more : {X : Type 0} {Is : X → Type 0} {parts : X → List Part} {at : Reads X} → IsField Is parts at → (bytes : List ℕ) → IsBytes bytes
    → left_of (at bytes) ≤ length bytes
no_more {X} {Is} {parts} field bytes isb =
    field.furthest bytes field.example (length bytes) isb field.example_is field.example_fits (front_none (parts field.example) bytes (length bytes) refl)

-- ---- a field that depends on the one before

-- a first field, and then one by the value of the first; J is what holds of a second value that goes with a first one
pub record Follows {X Z : Type 0} (px : X → List Part) (ax : Reads X) (key : Z → X) (J : X → Z → Type 0) (Is : Z → Type 0) (pz : Z → List Part)
    (az : X → Reads Z) : Type 0 where
  pub first : IsPlain px ax
  pub second : (x : X) → AllFit (px x) → IsField (J x) pz (az x)
  pub is : (x : X) (z : Z) → J x z → (key z ≡ x) × Is z
  pub goes : (z : Z) → Is z → J (key z) z

second_read : {X Z : Type 0} {px : X → List Part} {ax : Reads X} {key : Z → X} {J : X → Z → Type 0} {Is : Z → Type 0} {pz : Z → List Part}
    {az : X → Reads Z} → Follows px ax key J Is pz az → (bytes : List ℕ) (x : X) (rest : List ℕ) → Takes bytes (px x) rest
    → (r : Result (Z × List ℕ) ℕ) → IsRead (J x) pz rest r → IsRead Is (λ (z : Z). px (key z) ++ pz z) bytes r
second_read {X} {px = px} {key = key} {pz = pz} follows bytes x rest took (Ok z) (j, then) =
    let is = follows.is x z.0 j in
    let took : Takes bytes (px (key z.0)) rest = subst (λ (y : X). Takes bytes (px y) rest) (sym is.0) took in (
      is.1,
      record {
        parts = took.parts ∙ ap (λ (t : List ℕ). spelled (px (key z.0)) ++ t) then.parts ∙ sym (spelled_then (px (key z.0)) (pz z.0) z.1);
        fits = AllFit-append (px (key z.0)) (pz z.0) took.fits then.fits;
        rest_fits = then.rest_fits;
      },
    )
second_read {X} {px = px} {key = key} {pz = pz} follows bytes x rest took (Err left) s =
    let is = follows.is x s.value s.is in
    let took : Takes bytes (px (key s.value)) rest = subst (λ (y : X). Takes bytes (px y) rest) (sym is.0) took in
    record {
      value = s.value;
      is = is.1;
      fits = AllFit-append (px (key s.value)) (pz s.value) took.fits s.fits;
      front = subst (λ (b : List ℕ). Front (px (key s.value) ++ pz s.value) b left) (sym took.parts)
          (front_after (px (key s.value)) (pz s.value) rest left s.front);
    }

both_read : {X Z : Type 0} {px : X → List Part} {ax : Reads X} {key : Z → X} {J : X → Z → Type 0} {Is : Z → Type 0} {pz : Z → List Part}
    {az : X → Reads Z} → Follows px ax key J Is pz az → (bytes : List ℕ) (r : Result (X × List ℕ) ℕ) → IsRead (λ x. Unit {0}) px bytes r
    → IsRead Is (λ (z : Z). px (key z) ++ pz z) bytes (r >>= λ x. az x.0 x.1)
both_read {az = az} follows bytes (Ok x) (u, took) =
    second_read follows bytes x.0 x.1 took (az x.0 x.1) ((follows.second x.0 took.fits).reads x.1 took.rest_fits)
both_read {X} {px = px} {key = key} {pz = pz} follows bytes (Err left) s =
    let field = follows.second s.value s.fits in
    let z = field.example in
    let is = follows.is s.value z field.example_is in
    record {
      value = z;
      is = is.1;
      fits = AllFit-append (px (key z)) (pz z) (subst (λ (y : X). AllFit (px y)) (sym is.0) s.fits) field.example_fits;
      front = front_before (px (key z)) (pz z) bytes left (subst (λ (y : X). Front (px y) bytes left) (sym is.0) s.front);
    }

both_left : {X Z : Type 0} {px : X → List Part} {ax : Reads X} {key : Z → X} {J : X → Z → Type 0} {Is : Z → Type 0} {pz : Z → List Part}
    {az : X → Reads Z} → Follows px ax key J Is pz az → (bytes : List ℕ) (r : Result (X × List ℕ) ℕ) → IsRead (λ x. Unit {0}) px bytes r
    → left_of (r >>= λ x. az x.0 x.1) ≤ left_of r
both_left follows bytes (Ok x) (u, took) = no_more (follows.second x.0 took.fits) x.1 took.rest_fits
both_left follows bytes (Err left) s = omega arith

pub bind_field : {X Z : Type 0} {px : X → List Part} {ax : Reads X} {key : Z → X} {J : X → Z → Type 0} {Is : Z → Type 0} {pz : Z → List Part}
    {az : X → Reads Z} → Follows px ax key J Is pz az → IsField Is (λ (z : Z). px (key z) ++ pz z) (λ bytes. ax bytes >>= λ x. az x.0 x.1)
bind_field {X} {Z} {px} {ax} {key} {J} {Is} {pz} {az} follows =
    let first = follows.first in
    let field = follows.second first.example first.example_fits in
    let is = follows.is first.example field.example field.example_is in
    record {
      example = field.example;
      example_is = is.1;
      example_fits = AllFit-append (px (key field.example)) (pz field.example)
          (subst (λ (x : X). AllFit (px x)) (sym is.0) first.example_fits) field.example_fits;
      reads = λ bytes isb. both_read follows bytes (ax bytes) (first.reads bytes isb);
      again = λ z rest is fits.
          let front = AllFit-front (px (key z)) (pz z) fits in
          ap (λ (bytes : List ℕ). ax bytes >>= λ x. az x.0 x.1) (spelled_then (px (key z)) (pz z) rest)
          ∙ ap (λ (r : Result (X × List ℕ) ℕ). r >>= λ x. az x.0 x.1) (first.again (key z) (spelled (pz z) ++ rest) tt front)
          ∙ (follows.second (key z) front).again z rest (follows.goes z is) (AllFit-back (px (key z)) (pz z) fits);
      furthest = λ bytes z left isb is fits there.
          let front = AllFit-front (px (key z)) (pz z) fits in
          elim (front_cases (px (key z)) (pz z) bytes left there) [
            | inl there ↦ omega (arith, first.furthest bytes (key z) left isb tt front there, both_left follows bytes (ax bytes) (first.reads bytes isb))
            | inr w ↦
                let read : ax bytes ≡ Ok (key z, w.0) = ap ax w.1 ∙ first.again (key z) w.0 tt front in
                subst (λ (r : Result (X × List ℕ) ℕ). left_of (r >>= λ x. az x.0 x.1) ≤ left) (sym read)
                ((follows.second (key z) front).furthest w.0 z left (takes first bytes (key z) w.0 isb read).1.rest_fits (follows.goes z is)
                (AllFit-back (px (key z)) (pz z) fits) w.2)
          ];
    }

-- ---- fields seen as something else

-- a value that is made of another
pub record IsMade {X Y : Type 0} (Is : X → Type 0) (made : X → Y) (y : Y) : Type 0 where
  pub from : X
  pub is : Is from
  pub same : made from ≡ y

made_left : {X Y : Type 0} (made : X → Y) (r : Result (X × List ℕ) ℕ) → left_of r ≡ left_of (r >>= λ x. Ok (made x.0, x.1))
made_left made (Ok x) = refl
made_left made (Err left) = refl

made_read : {X Y : Type 0} {Ix : X → Type 0} {px : X → List Part} (Iy : Y → Type 0) (py : Y → List Part) (made : X → Y)
    → ((x : X) → Ix x → Iy (made x)) → ((x : X) → Ix x → px x ≡ py (made x)) → (bytes : List ℕ) (r : Result (X × List ℕ) ℕ) → IsRead Ix px bytes r
    → IsRead Iy py bytes (r >>= λ x. Ok (made x.0, x.1))
made_read Iy py made is parts bytes (Ok x) (i, took) = (is x.0 i, subst (λ (fs : List Part). Takes bytes fs x.1) (parts x.0 i) took)
made_read Iy py made is parts bytes (Err left) s = record {
  value = made s.value;
  is = is s.value s.is;
  fits = subst (λ (fs : List Part). AllFit fs) (parts s.value s.is) s.fits;
  front = subst (λ (fs : List Part). Front fs bytes left) (parts s.value s.is) s.front;
}

pub made_field : {X Y : Type 0} {Ix : X → Type 0} {px : X → List Part} {ax : Reads X} (Iy : Y → Type 0) (py : Y → List Part) (made : X → Y)
    → ((x : X) → Ix x → Iy (made x)) → ((x : X) → Ix x → py (made x) ≡ px x) → ((y : Y) → Iy y → IsMade Ix made y)
    → IsField Ix px ax → IsField Iy py (as_at made ax)
made_field {X} {Y} {Ix} {px} {ax} Iy py made is_made parts_made find field =
    let parts : (y : Y) (i : Iy y) → py y ≡ px (find y i).from = λ y i. ap py (sym (find y i).same) ∙ parts_made (find y i).from (find y i).is in
    record {
      example = made field.example;
      example_is = is_made field.example field.example_is;
      example_fits = subst (λ (fs : List Part). AllFit fs) (sym (parts_made field.example field.example_is)) field.example_fits;
      reads = λ bytes isb. made_read Iy py made is_made (λ x i. sym (parts_made x i)) bytes (ax bytes) (field.reads bytes isb);
      again = λ y rest is fits.
          let found = find y is in
          ap (λ (fs : List Part). as_at made ax (spelled fs ++ rest)) (parts y is)
          ∙ ap (λ (r : Result (X × List ℕ) ℕ). r >>= λ x. Ok (made x.0, x.1))
          (field.again found.from rest found.is (subst (λ (fs : List Part). AllFit fs) (parts y is) fits))
          ∙ ap (λ (z : Y). Ok (z, rest)) found.same;
      furthest = λ bytes y left isb is fits front.
          let found = find y is in
          subst (λ (n : ℕ). n ≤ left) (made_left made (ax bytes))
          (field.furthest bytes found.from left isb found.is (subst (λ (fs : List Part). AllFit fs) (parts y is) fits)
          (subst (λ (fs : List Part). Front fs bytes left) (parts y is) front));
    }

-- one field after another
pub pair_field : {X Y : Type 0} {Is : Y → Type 0} {px : X → List Part} {py : Y → List Part} {ax : Reads X} {ay : Reads Y}
    → IsPlain px ax → IsField Is py ay → IsField (λ (p : X × Y). Is p.1) (λ (p : X × Y). px p.0 ++ py p.1) (then_at ax ay)
pair_field {X} {Y} {Is} {px} {py} {ax} {ay} first second =
    let with : X → Y → X × Y = λ x y. (x, y) in
    bind_field {key = λ (p : X × Y). p.0} {J = λ (x : X) (p : X × Y). (p.0 ≡ x) × Is p.1} {pz = λ (p : X × Y). py p.1} {az = λ (x : X). as_at (with x) ay}
    (record {
      first = first;
      second = λ x fits. made_field (λ (p : X × Y). (p.0 ≡ x) × Is p.1) (λ (p : X × Y). py p.1) (with x) (λ y i. (refl, i)) (λ y i. refl)
          (λ p i. record { from = p.1; is = i.1; same = ap (λ (z : X). with z p.1) (sym i.0) }) second;
      is = λ x p j. j;
      goes = λ p i. (refl, i);
    })

-- a field that is another one seen as something else, and back
pub plain_made : {X Y : Type 0} {px : X → List Part} {ax : Reads X} (py : Y → List Part) (made : X → Y) (parts : Y → X)
    → ((y : Y) → made (parts y) ≡ y) → ((x : X) → py (made x) ≡ px x) → IsPlain px ax → IsPlain py (as_at made ax)
plain_made {X} {Y} py made parts back same field =
    made_field (λ (y : Y). Unit {0}) py made (λ x is. tt) (λ x is. same x) (λ y is. record { from = parts y; is = tt; same = back y }) field

-- no field
pub nothing_field : IsPlain (λ (u : Unit {0}). []) nothing_at
nothing_field = record {
  example = tt;
  example_is = tt;
  example_fits = tt;
  reads = λ bytes isb. (tt, record { parts = refl; fits = tt; rest_fits = isb });
  again = λ u rest is fits. refl;
  furthest = λ bytes u left isb is fits front. omega (arith, front);
}

-- ---- single parts

-- what is read stands there, or all of the bytes are left
abbrev pub IsReadWhole : {X : Type 0} (Is : X → Type 0) (part : X → Part) (bytes : List ℕ) → Result (X × List ℕ) ℕ → Type 0
IsReadWhole Is part bytes (Ok x) = Is x.0 × Takes bytes (part x.0 ∷ []) x.1
IsReadWhole Is part bytes (Err left) = left ≡ length bytes

single_read : {X : Type 0} (Is : X → Type 0) (part : X → Part) (example : X) → Is example → Fits (part example) → (bytes : List ℕ)
    (r : Result (X × List ℕ) ℕ) → IsReadWhole Is part bytes r → IsRead Is (λ (x : X). part x ∷ []) bytes r
single_read Is part example is fits bytes (Ok x) read = read
single_read Is part example is fits bytes (Err left) e = record { value = example; is = is; fits = (fits, tt); front = inl (sym e) }

single_left : {X : Type 0} (Is : X → Type 0) (part : X → Part) (bytes : List ℕ) (r : Result (X × List ℕ) ℕ) → IsReadWhole Is part bytes r
    → left_of r ≤ length bytes
single_left Is part bytes (Ok x) (i, took) =
    omega (arith, ap (λ (b : List ℕ). length b) took.parts, length-append (spelled (part x.0 ∷ [])) x.1)
single_left Is part bytes (Err left) e = omega (arith, e)

single_furthest : {X : Type 0} (Is : X → Type 0) (part : X → Part) (at : Reads X) (bytes : List ℕ) (x : X) (left : ℕ)
    → IsReadWhole Is part bytes (at bytes) → ((rest : List ℕ) → at (bytes_of (part x) ++ rest) ≡ Ok (x, rest)) → Front (part x ∷ []) bytes left
    → left_of (at bytes) ≤ left
single_furthest Is part at bytes x left read again (inl e) = omega (arith, e, single_left Is part bytes (at bytes) read)
single_furthest {X} Is part at bytes x left read again (inr w) =
    subst (λ (r : Result (X × List ℕ) ℕ). left_of r ≤ left) (sym (ap at w.1 ∙ again w.0)) (omega (arith, w.2))

pub single_field : {X : Type 0} (Is : X → Type 0) (part : X → Part) (at : Reads X) (example : X) → Is example → Fits (part example)
    → ((bytes : List ℕ) → IsBytes bytes → IsReadWhole Is part bytes (at bytes))
    → ((x : X) (rest : List ℕ) → Is x → Fits (part x) → at (bytes_of (part x) ++ rest) ≡ Ok (x, rest)) → IsField Is (λ (x : X). part x ∷ []) at
single_field {X} Is part at example example_is example_fits read again = record {
  example = example;
  example_is = example_is;
  example_fits = (example_fits, tt);
  reads = λ bytes isb. single_read Is part example example_is example_fits bytes (at bytes) (read bytes isb);
  again = λ x rest is fits. ap (λ (t : List ℕ). at (t ++ rest)) (append-nil (bytes_of (part x))) ∙ again x rest is fits.0;
  furthest = λ bytes x left isb is fits front. single_furthest Is part at bytes x left (read bytes isb) (λ rest. again x rest is fits.0) front;
}

-- ---- so many fields, one after the other

no_values : {X : Type 0} (xs : List X) → length xs ≡ 0 → IsMade (λ (u : Unit {0}). Unit {0}) (λ (u : Unit {0}). let xs : List X = [] in xs) xs
no_values [] e = record { from = tt; is = tt; same = refl }
no_values (x ∷ xs) e = absurd (omega arith)

some_values : {X : Type 0} (n : ℕ) (xs : List X) → length xs ≡ suc n
    → IsMade (λ (p : X × List X). length p.1 ≡ n) (λ (p : X × List X). p.0 ∷ p.1) xs
some_values n [] e = absurd (omega arith)
some_values n (x ∷ xs) e = record { from = (x, xs); is = omega arith; same = refl }

pub times_field : {X : Type 0} {part : X → Part} {at : Reads X} → IsPlain (λ (x : X). part x ∷ []) at → (n : ℕ)
    → IsField (λ (xs : List X). length xs ≡ n) (λ (xs : List X). map part xs) (times_at at n)
unfolding times_at
times_field {X} {part} {at} field zero =
    made_field (λ (xs : List X). length xs ≡ 0) (λ (xs : List X). map part xs) (λ (u : Unit {0}). let xs : List X = [] in xs)
    (λ u is. refl) (λ u is. refl) no_values nothing_field
times_field {X} {part} {at} field (suc n) =
    made_field (λ (xs : List X). length xs ≡ suc n) (λ (xs : List X). map part xs) (λ (p : X × List X). p.0 ∷ p.1)
    (λ p is. ap suc is) (λ p is. refl) (some_values n) (pair_field field (times_field field n))
