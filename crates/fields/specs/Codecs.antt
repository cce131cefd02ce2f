-- A codec says how a value is spelled and how it is read: one spelling for each value, and one value for each spelling.
use Rattle.std.proofs.Common.{◌≡◌, ℕ, List, [], ◌∷◌, ◌++◌, length, Option, refl, ap}
use Rattle.fields.specs.Parts.{Part, Fits, AllFit}
use Rattle.fields.specs.Reading.{Reads, ◌>>=◌, then_at, as_at, value_at}
use Rattle.fields.specs.Laws.{AllFit-front, AllFit-back, IsField, IsPlain, pair_field, plain_made, nothing_field, bind_field}
use Rattle.fields.specs.Numbers.{size1, size2, size4, size8, number_field, Stands, stands_field}

-- Limits is what the type of a value leaves open; parts is what a value spells; read is how it is read. What is spelled is read
-- again, what is read is spelled so, and what has no spelling is refused at its first bad part.
pub record Codec (X : Type 0) : Type 1 where
  pub Limits : X → Type 0
  pub parts : X → List Part
  pub read : Reads X
  pub law : IsPlain parts read
  pub within : (x : X) → AllFit (parts x) → Limits x

-- one whose type leaves nothing open
abbrev pub free : {X : Type 0} {parts : X → List Part} {read : Reads X} → IsPlain parts read → Codec X
free {X} {parts} {read} law = record { Limits = λ x. Unit {0}; parts = parts; read = read; law = law; within = λ x fits. tt }

-- ---- numbers

abbrev pub u8_codec : Codec ℕ
u8_codec = free (number_field 1 size1)

abbrev pub u16_codec : Codec ℕ
u16_codec = free (number_field 2 size2)

abbrev pub u32_codec : Codec ℕ
u32_codec = free (number_field 4 size4)

abbrev pub u64_codec : Codec ℕ
u64_codec = free (number_field 8 size8)

-- ---- one after another, and seen as something else

abbrev pub pair : {X Y : Type 0} → Codec X → Codec Y → Codec (X × Y)
pair {X} {Y} a b = record {
  Limits = λ (p : X × Y). a.Limits p.0 × b.Limits p.1;
  parts = λ (p : X × Y). a.parts p.0 ++ b.parts p.1;
  read = then_at a.read b.read;
  law = pair_field a.law b.law;
  within = λ p fits. (
    a.within p.0 (AllFit-front (a.parts p.0) (b.parts p.1) fits),
    b.within p.1 (AllFit-back (a.parts p.0) (b.parts p.1) fits),
  );
}

-- a value that is another one, made so and seen so
abbrev pub seen : {X Y : Type 0} (made : X → Y) (view : Y → X) → ((y : Y) → made (view y) ≡ y) → ((x : X) → view (made x) ≡ x) → Codec X → Codec Y
seen {X} {Y} made view back forth c = record {
  Limits = λ y. c.Limits (view y);
  parts = λ y. c.parts (view y);
  read = as_at made c.read;
  law = plain_made (λ y. c.parts (view y)) made view back (λ x. ap c.parts (forth x)) c.law;
  within = λ y fits. c.within (view y) fits;
}

-- the same, with its limits in other words
abbrev pub limited_to : {X : Type 0} (Limits : X → Type 0) (c : Codec X) → ((x : X) → AllFit (c.parts x) → Limits x) → Codec X
limited_to {X} Limits c within = record { Limits = Limits; parts = c.parts; read = c.read; law = c.law; within = within }

-- no field
abbrev pub nothing : Codec (Unit {0})
nothing = free nothing_field

-- a byte that stands for a value
abbrev pub byte_of : {K : Type 0} (Limits : K → Type 0) {part : K → Part} {value : ℕ → Option K} → ((k : K) → Fits (part k) → Limits k)
    → Stands 1 part value → Codec K
byte_of Limits {part} {value} within stands = record {
  Limits = Limits;
  parts = λ k. part k ∷ [];
  read = value_at 1 value;
  law = stands_field stands;
  within = λ k fits. within k fits.0;
}

-- ---- a count, and so many

pub counted_law : {X : Type 0} {part : ℕ → Part} {parts : List X → List Part} {tag : Reads ℕ} {at : ℕ → Reads (List X)}
    → IsPlain (λ (n : ℕ). part n ∷ []) tag → ((n : ℕ) → IsField (λ (xs : List X). length xs ≡ n) parts (at n))
    → IsPlain (λ (xs : List X). part (length xs) ∷ parts xs) (λ bytes. tag bytes >>= λ n. at n.0 n.1)
counted_law {X} {part} {parts} {tag} {at} first second =
    bind_field {key = λ (xs : List X). length xs} {J = λ n xs. length xs ≡ n}
    (record { first = first; second = λ n fits. second n; is = λ n xs e. (e, tt); goes = λ xs u. refl })
