-- Values of several kinds: a byte that says which kind, and then the fields of that kind.
use Rattle.std.proofs.Common.{◌≡◌, ℕ, ◌<◌, Bool, true, false, List, [], ◌∷◌, Option, Some, None, refl, ap, subst, arith}
use Rattle.fields.specs.Parts.{Part, AllFit, exactly}
use Rattle.fields.specs.Reading.{Reads, ◌>>=◌, as_at, value_at, find}
use Rattle.fields.specs.Laws.{IsField, IsPlain, IsMade, made_field, bind_field}
use Rattle.fields.specs.Numbers.{Stands, stands_field, exact_stands}
use Rattle.fields.specs.Codecs.{Codec, nothing, byte_of}

-- the fields of a kind, and the value that is made of them
pub data Row (X : Type 0) : Type 1 where
  of : {V : Type 0} → Codec V → (V → X) → Row X

abbrev pub Value : {X : Type 0} → Row X → Type 0
Value (of {V} codec made) = V

abbrev pub codec_of : {X : Type 0} (row : Row X) → Codec (Value row)
codec_of (of codec made) = codec

abbrev pub made_by : {X : Type 0} (row : Row X) → Value row → X
made_by (of codec made) = made

abbrev pub read_of : {X : Type 0} → Row X → Reads X
read_of (of codec made) = as_at made codec.read

-- what a row reads it spells, if each of the values is made of its fields
pub row_field : {X : Type 0} (Is : X → Type 0) (parts : X → List Part) (row : Row X) → ((v : Value row) → Is (made_by row v))
    → ((v : Value row) → parts (made_by row v) ≡ (codec_of row).parts v)
    → ((x : X) → Is x → IsMade (λ (v : Value row). Unit {0}) (made_by row) x) → IsField Is parts (read_of row)
row_field Is parts (of codec made) is same from = made_field Is parts made (λ v u. is v) (λ v u. same v) from codec.law

-- a kind, and its fields
pub data Tagged {K X : Type 0} (row : K → Row X) : Type 0 where
  Tag : (k : K) → Value (row k) → Tagged row

abbrev pub kind_of : {K X : Type 0} {row : K → Row X} → Tagged row → K
kind_of (Tag k v) = k

abbrev pub parts_of : {K X : Type 0} {row : K → Row X} → Tagged row → List Part
parts_of {row = row} (Tag k v) = (codec_of (row k)).parts v

abbrev pub LimitsOf : {K X : Type 0} {row : K → Row X} → Tagged row → Type 0
LimitsOf {row = row} (Tag k v) = (codec_of (row k)).Limits v

abbrev pub made_of : {K X : Type 0} {row : K → Row X} → Tagged row → X
made_of {row = row} (Tag k v) = made_by (row k) v

pub limits_within : {K X : Type 0} {row : K → Row X} (t : Tagged row) → AllFit (parts_of t) → LimitsOf t
limits_within {row = row} (Tag k v) fits = (codec_of (row k)).within v fits

-- each value is seen as a kind and its fields, of which it is made
pub record IsUnion {K X : Type 0} (row : K → Row X) (view : X → Tagged row) : Type 0 where
  pub back : (x : X) → made_of (view x) ≡ x
  pub forth : (k : K) (v : Value (row k)) → view (made_by (row k) v) ≡ Tag k v

made_in : {K X : Type 0} {row : K → Row X} (x : X) (k : K) (t : Tagged row) → made_of t ≡ x → kind_of t ≡ k
    → IsMade (λ (v : Value (row k)). Unit {0}) (made_by (row k)) x
made_in {K} {row = row} x k (Tag j v) same e =
    subst (λ (i : K). IsMade (λ (v : Value (row i)). Unit {0}) (made_by (row i)) x) e (record { from = v; is = tt; same = same })

-- the values of a kind are read by its row
pub kind_field : {K X : Type 0} {row : K → Row X} {view : X → Tagged row} → IsUnion row view → (k : K)
    → IsField (λ (x : X). kind_of (view x) ≡ k) (λ (x : X). parts_of (view x)) (read_of (row k))
kind_field {X = X} {row} {view} union k =
    row_field (λ (x : X). kind_of (view x) ≡ k) (λ (x : X). parts_of (view x)) (row k) (λ v. ap kind_of (union.forth k v))
    (λ v. ap parts_of (union.forth k v)) (λ x e. made_in x k (view x) (union.back x) e)

-- a byte for the kind, and then what goes with it
abbrev pub kinds_at : {K X : Type 0} → (ℕ → Option K) → (K → Reads X) → Reads X
kinds_at value reads bytes = value_at 1 value bytes >>= λ k. reads k.0 k.1

pub kinds_law : {K X : Type 0} {part : K → Part} {value : ℕ → Option K} {kind : X → K} {parts : X → List Part} {reads : K → Reads X}
    → Stands 1 part value → ((k : K) → IsField (λ (x : X). kind x ≡ k) parts (reads k))
    → IsPlain (λ (x : X). part (kind x) ∷ parts x) (kinds_at value reads)
kinds_law {kind = kind} {reads = reads} stands field = bind_field {key = kind} {J = λ k x. kind x ≡ k} {az = reads}
    (record { first = stands_field stands; second = λ k fits. field k; is = λ k x e. (e, tt); goes = λ x u. refl })

abbrev pub one_of : {K X : Type 0} {part : K → Part} {value : ℕ → Option K} {row : K → Row X} {view : X → Tagged row} → Stands 1 part value
    → IsUnion row view → Codec X
one_of {part = part} {value} {row} {view} stands union = record {
  Limits = λ x. LimitsOf (view x);
  parts = λ x. part (kind_of (view x)) ∷ parts_of (view x);
  read = kinds_at value (λ k. read_of (row k));
  law = kinds_law stands (kind_field union);
  within = λ x fits. limits_within (view x) fits.1;
}

-- ---- a flag, a byte 0 or 1

abbrev pub flag_number : Bool → ℕ
flag_number false = 0
flag_number true = 1

abbrev pub flag_value : ℕ → Option Bool
flag_value = find flag_number (false ∷ true ∷ [])

flag_known : (b : Bool) → flag_number b < 256 → flag_value (flag_number b) ≡ Some b
flag_known false lt = refl
flag_known true lt = refl

pub flag_stands : Stands 1 (λ (b : Bool). exactly (flag_number b)) flag_value
flag_stands = exact_stands flag_number flag_value flag_known refl false (omega arith)

abbrev pub flag_codec : Codec Bool
flag_codec = byte_of (λ b. Unit {0}) (λ b fits. tt) flag_stands

-- ---- what may be left out: a byte 0, or a byte 1 and the value

abbrev pub option_row : {X : Type 0} → Codec X → Bool → Row (Option X)
option_row c false = of nothing (λ u. None)
option_row c true = of c (λ x. Some x)

abbrev pub option_view : {X : Type 0} (c : Codec X) → Option X → Tagged (option_row c)
option_view c None = Tag false tt
option_view c (Some x) = Tag true x

option_back : {X : Type 0} (c : Codec X) (o : Option X) → made_of (option_view c o) ≡ o
option_back c None = refl
option_back c (Some x) = refl

option_forth : {X : Type 0} (c : Codec X) (b : Bool) (v : Value (option_row c b)) → option_view c (made_by (option_row c b) v) ≡ Tag b v
option_forth c false v = refl
option_forth c true v = refl

pub option_union : {X : Type 0} (c : Codec X) → IsUnion (option_row c) (option_view c)
option_union c = record { back = option_back c; forth = option_forth c }

abbrev pub option : {X : Type 0} → Codec X → Codec (Option X)
option c = one_of flag_stands (option_union c)
