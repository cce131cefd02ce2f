-- What the fields of a record mean in bytes.
use Rattle.std.proofs.Common.{◌≡◌, ℕ, ◌<◌, ◌^◌, Bool, true, false, List, [], ◌∷◌, ◌++◌, length, map, get_or, Option, Some, None, All, refl, sym, ap, ◌∙◌, arith}
use Rattle.std.specs.List.{flat_map}
use Rattle.std.specs.Int.{w16, w32, w64}
use Rattle.std.proofs.lemmas.List.{append-nil}
use Rattle.std.proofs.lemmas.List.Concat.{flat_map-cons}
use Rattle.std.proofs.lemmas.List.Elements.{All-cons, All-head, All-tail}
use Rattle.fab_base.specs.declared.identities.BrickId.{BrickId}
use Rattle.fab_base.specs.declared.identities.GroupId.{GroupId}
use Rattle.fab_base.specs.declared.identities.StripeNo.{StripeNo}
use Rattle.fab_base.specs.declared.identities.ViewNo.{ViewNo}
use Rattle.fab_base.specs.declared.stamps.Ballot.{Ballot}
use Rattle.fields.specs.Codecs.{Codec, u32_codec, u64_codec, pair}
use Rattle.fields.specs.Kinds.{flag_codec}
use Rattle.fields.specs.Laws.{spelled-append, AllFit-append, AllFit-front, AllFit-back}
use Rattle.fields.specs.Parts as parts
use Rattle.fields.specs.Parts.{spelled, AllFit}
use Rattle.fields.specs.Values.{brick_part, brick_codec, group_codec, stripe_codec, view_number_codec, stamp_codec, ballot_codec, members_codec, stamp_fields, ballot_fields, members_fields}
use Rattle.stamp_store.specs.Spelling.{number_bytes, stamp_bytes, ballot_bytes, brick_bytes, members_bytes, accepted_bytes, flag_bytes, StampFits, BallotFits, BrickFits, MembersFit, AcceptedFits, AcceptedHasMembers}
use Rattle.stamp_store.specs.Reading.{accepted_fields}

abbrev pub IsBytes : List ℕ → Type 0
IsBytes bytes = (i : ℕ) → get_or bytes i 0 < 256

-- a field is spelled by these bytes, and fits exactly where its numbers do
pub record Means {X : Type 0} (codec : Codec X) (bytes : X → List ℕ) (Fits : X → Type 0) : Type 0 where
  pub same : (x : X) → AllFit (codec.parts x) → spelled (codec.parts x) ≡ bytes x
  pub fits : (x : X) → AllFit (codec.parts x) → Fits x
  pub back : (x : X) → Fits x → AllFit (codec.parts x)

pub both : {X Y : Type 0} {a : Codec X} {b : Codec Y} {s : X → List ℕ} {t : Y → List ℕ} {F : X → Type 0} {G : Y → Type 0} → Means a s F → Means b t G
    → Means (pair a b) (λ (p : X × Y). s p.0 ++ t p.1) (λ (p : X × Y). F p.0 × G p.1)
both {X} {Y} {a} {b} {s} {t} first second = record {
  same = λ p h. spelled-append (a.parts p.0) (b.parts p.1)
      ∙ ap (λ (u : List ℕ). u ++ spelled (b.parts p.1)) (first.same p.0 (AllFit-front (a.parts p.0) (b.parts p.1) h))
      ∙ ap (λ (u : List ℕ). s p.0 ++ u) (second.same p.1 (AllFit-back (a.parts p.0) (b.parts p.1) h));
  fits = λ p h. (first.fits p.0 (AllFit-front (a.parts p.0) (b.parts p.1) h), second.fits p.1 (AllFit-back (a.parts p.0) (b.parts p.1) h));
  back = λ p h. AllFit-append (a.parts p.0) (b.parts p.1) (first.back p.0 h.0) (second.back p.1 h.1);
}

number16 : (n : ℕ) → parts.number_bytes 2 n ++ [] ≡ number_bytes w16 n
unfolding parts.number_bytes number_bytes
number16 n = refl

number32 : (n : ℕ) → parts.number_bytes 4 n ++ [] ≡ number_bytes w32 n
unfolding parts.number_bytes number_bytes
number32 n = refl

number64 : (n : ℕ) → parts.number_bytes 8 n ++ [] ≡ number_bytes w64 n
unfolding parts.number_bytes number_bytes
number64 n = refl

pub field32 : Means u32_codec (λ (n : ℕ). number_bytes w32 n) (λ (n : ℕ). n < 2 ^ 32)
field32 = record { same = λ n h. number32 n; fits = λ n h. h.0; back = λ n h. (h, tt) }

field64 : Means u64_codec (λ (n : ℕ). number_bytes w64 n) (λ (n : ℕ). n < 2 ^ 64)
field64 = record { same = λ n h. number64 n; fits = λ n h. h.0; back = λ n h. (h, tt) }

pub group_field : Means group_codec (λ (g : GroupId). number_bytes w32 g.0) (λ (g : GroupId). g.0 < 2 ^ 32)
group_field = record { same = λ g h. number32 g.0; fits = λ g h. h.0; back = λ g h. (h, tt) }

pub view_field : Means view_number_codec (λ (v : ViewNo). number_bytes w32 v.0) (λ (v : ViewNo). v.0 < 2 ^ 32)
view_field = record { same = λ v h. number32 v.0; fits = λ v h. h.0; back = λ v h. (h, tt) }

pub stripe_field : Means stripe_codec (λ (s : StripeNo). number_bytes w32 s.0) (λ (s : StripeNo). s.0 < 2 ^ 32)
stripe_field = record { same = λ s h. number32 s.0; fits = λ s h. h.0; back = λ s h. (h, tt) }

brick_field : Means brick_codec brick_bytes BrickFits
brick_field = record { same = λ b h. number16 b.0; fits = λ b h. h.0; back = λ b h. (h, tt) }

pub stamp_field : Means stamp_codec stamp_bytes StampFits
unfolding stamp_fields stamp_bytes
stamp_field =
    let all = both view_field (both field64 (both brick_field field32)) in
    record {
      same = λ s h. all.same (s.view, (s.time, (s.brick, s.boot))) h;
      fits = λ s h. all.fits (s.view, (s.time, (s.brick, s.boot))) h;
      back = λ s h. all.back (s.view, (s.time, (s.brick, s.boot))) h;
    }

pub ballot_field : Means ballot_codec ballot_bytes BallotFits
unfolding ballot_fields ballot_bytes
ballot_field =
    let all = both field32 (both brick_field field32) in
    record {
      same = λ b h. all.same (b.round, (b.brick, b.boot)) h;
      fits = λ b h. all.fits (b.round, (b.brick, b.boot)) h;
      back = λ b h. all.back (b.round, (b.brick, b.boot)) h;
    }

-- ---- members

bricks_same : (bricks : List BrickId) → spelled (map brick_part bricks) ≡ flat_map brick_bytes bricks
bricks_same [] = refl
bricks_same (b ∷ bricks) =
    ap (λ (t : List ℕ). t ++ spelled (map brick_part bricks)) (sym (append-nil (parts.number_bytes 2 b.0)) ∙ number16 b.0)
    ∙ ap (λ (t : List ℕ). brick_bytes b ++ t) (bricks_same bricks)
    ∙ sym (flat_map-cons brick_bytes b bricks)

bricks_fit : (bricks : List BrickId) → AllFit (map brick_part bricks) → All BrickFits bricks
bricks_fit [] h = λ i d lt. absurd (omega arith)
bricks_fit (b ∷ bricks) h = All-cons BrickFits b bricks h.0 (bricks_fit bricks h.1)

bricks_back : (bricks : List BrickId) → All BrickFits bricks → AllFit (map brick_part bricks)
bricks_back [] h = tt
bricks_back (b ∷ bricks) h = (All-head BrickFits b bricks h, bricks_back bricks (All-tail BrickFits b bricks h))

count_byte : (n : ℕ) → n < 256 → parts.number_bytes 1 n ≡ n ∷ []
unfolding parts.number_bytes
count_byte n few = ap (λ (b : ℕ). b ∷ []) (omega arith)

pub members_field : Means members_codec members_bytes MembersFit
unfolding members_fields members_bytes
members_field = record {
  same = λ members h. ap (λ (t : List ℕ). t ++ spelled (map brick_part members)) (count_byte (length members) h.0.0)
      ∙ ap (λ (t : List ℕ). length members ∷ t) (bricks_same members);
  fits = λ members h. record { some = h.0.1.0; few = h.0.1.1; each = bricks_fit members h.1 };
  back = λ members h. ((omega (arith, h.few), (h.some, h.few)), bricks_back members h.each);
}

-- ---- flags, and what was accepted

flag_same : (b : Bool) → spelled (flag_codec.parts b) ≡ flag_bytes b
unfolding parts.number_bytes
flag_same false = refl
flag_same true = refl

flag_fits : (b : Bool) → AllFit (flag_codec.parts b)
flag_fits false = ((omega arith, (omega arith, omega arith)), tt)
flag_fits true = ((omega arith, (omega arith, omega arith)), tt)

pub flag_field : Means flag_codec flag_bytes (λ (b : Bool). Unit {0})
flag_field = record { same = λ b h. flag_same b; fits = λ b h. tt; back = λ b h. flag_fits b }

accepted_same : (a : Option (Ballot × List BrickId)) → AllFit (accepted_fields.parts a) → spelled (accepted_fields.parts a) ≡ accepted_bytes a
unfolding accepted_bytes parts.number_bytes
accepted_same None h = refl
accepted_same (Some a) h = ap (λ (t : List ℕ). 1 ∷ t) ((both ballot_field members_field).same a h.1)

accepted_fits : (a : Option (Ballot × List BrickId)) → AllFit (accepted_fields.parts a) → AcceptedFits a
accepted_fits None h = tt
accepted_fits (Some a) h = (both ballot_field members_field).fits a h.1

accepted_back : (a : Option (Ballot × List BrickId)) → AcceptedFits a → AllFit (accepted_fields.parts a)
accepted_back None h = ((omega arith, (omega arith, omega arith)), tt)
accepted_back (Some a) h = ((omega arith, (omega arith, omega arith)), (both ballot_field members_field).back a h)

pub accepted_field : Means accepted_fields accepted_bytes AcceptedFits
accepted_field = record { same = accepted_same; fits = accepted_fits; back = accepted_back }

-- what the types leave open
pub accepted_limits : (a : Option (Ballot × List BrickId)) → AcceptedHasMembers a → accepted_fields.Limits a
accepted_limits None h = tt
accepted_limits (Some a) h = (tt, h)
