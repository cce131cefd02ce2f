-- A record that is read has the body that was read, and a record's body is read as that record.
use Rattle.std.proofs.Common.{◌≡◌, ℕ, Bool, true, false, cond, eqb, List, [], ◌++◌, length, Option, Some, None, Result, Ok, Err, refl, sym, ap, ◌∙◌, arith}
use Rattle.std.specs.Option.{IfSome, option_map}
use Rattle.std.proofs.lemmas.Bool.{eqb-true}
use Rattle.std.proofs.lemmas.List.{append-nil, nil_from_length}
use Rattle.fab_base.specs.declared.identities.BrickId.{BrickId}
use Rattle.fab_base.specs.declared.identities.GroupId.{GroupId}
use Rattle.fab_base.specs.declared.identities.StripeNo.{StripeNo}
use Rattle.fab_base.specs.declared.identities.ViewNo.{ViewNo}
use Rattle.fab_base.specs.declared.stamps.Stamp.{Stamp}
use Rattle.fab_base.specs.declared.stamps.Ballot.{Ballot}
use Rattle.fields.specs.Codecs.{u32_codec}
use Rattle.fields.specs.Parts.{spelled}
use Rattle.fields.specs.Reading.{◌>>=◌, as_at}
use Rattle.fields.specs.Laws.{IsMade, made_field}
use Rattle.stamp_store.proofs.Rows.{Rows, HasRow, with_row, without_rows, rows_read, rows_again}
use Rattle.stamp_store.specs.declared.kept_records.Kept.{Kept}
use Rattle.stamp_store.specs.declared.kept_records.Kept.TheVariants.{Boot, Ballots, Order}
use Rattle.stamp_store.specs.declared.kept_records.Kept.TheVariants as kinds
use Rattle.stamp_store.specs.Spelling.{kind_of, Spells}
use Rattle.stamp_store.specs.Reading.{row_at, view_fields, ballots_fields, order_fields, made_boot, made_view, made_ballots, made_order, kept_parts, kept_rows, kept_at, whole, read_of}
use Rattle.stamp_store.proofs.Fields.{IsBytes}
use Rattle.stamp_store.proofs.Bodies.{kept_same, kept_fits, kept_back}

is_boot : (k : Kept) → kind_of k ≡ 1 → IsMade (λ (p : ℕ). Unit {0}) made_boot k
is_boot (Boot count) e = record { from = count; is = tt; same = refl }
is_boot k e = absurd (omega arith)

is_view : (k : Kept) → kind_of k ≡ 2 → IsMade (λ (p : GroupId × (ViewNo × (List BrickId × (List BrickId × Bool)))). Unit {0}) made_view k
is_view (kinds.View group view synced) e = record { from = (group, (view.number, (view.members, (view.prior, synced)))); is = tt; same = refl }
is_view k e = absurd (omega arith)

is_ballots : (k : Kept) → kind_of k ≡ 3 → IsMade (λ (p : GroupId × (ViewNo × (Ballot × Option (Ballot × List BrickId)))). Unit {0}) made_ballots k
is_ballots (Ballots group view promised accepted) e = record { from = (group, (view, (promised, accepted))); is = tt; same = refl }
is_ballots k e = absurd (omega arith)

is_order : (k : Kept) → kind_of k ≡ 4 → IsMade (λ (p : GroupId × (ViewNo × (StripeNo × Stamp))). Unit {0}) made_order k
is_order (Order group view stripe stamp) e = record { from = (group, (view, (stripe, stamp))); is = tt; same = refl }
is_order k e = absurd (omega arith)

-- each kind is read as it is spelled
kept_table : Rows kind_of kept_parts kept_rows
kept_table = with_row 1 (made_field (λ (k : Kept). kind_of k ≡ 1) kept_parts made_boot (λ p is. refl) (λ p is. refl) is_boot u32_codec.law)
    (with_row 2 (made_field (λ (k : Kept). kind_of k ≡ 2) kept_parts made_view (λ p is. refl) (λ p is. refl) is_view view_fields.law)
    (with_row 3 (made_field (λ (k : Kept). kind_of k ≡ 3) kept_parts made_ballots (λ p is. refl) (λ p is. refl) is_ballots ballots_fields.law)
    (with_row 4 (made_field (λ (k : Kept). kind_of k ≡ 4) kept_parts made_order (λ p is. refl) (λ p is. refl) is_order order_fields.law)
    without_rows)))

has_kind : (k : Kept) → HasRow kept_rows (kind_of k)
has_kind (Boot count) = record { at = as_at made_boot u32_codec.read; is = refl }
has_kind (kinds.View group view synced) = record { at = as_at made_view view_fields.read; is = refl }
has_kind (Ballots group view promised accepted) = record { at = as_at made_ballots ballots_fields.read; is = refl }
has_kind (Order group view stripe stamp) = record { at = as_at made_order order_fields.read; is = refl }

abbrev read_as : {X : Type 0} → X → List ℕ → Result (X × List ℕ) ℕ
read_as x rest = Ok (x, rest)

abbrev one : {X : Type 0} → X → Option X
one x = Some x

all_read : {X : Type 0} (y : X) (rest : List ℕ) (x : X) (b : Bool) → eqb (length rest) 0 ≡ b → cond b (one y) None ≡ one x → read_as y rest ≡ read_as x []
all_read y rest x true nothing h =
    let same : y ≡ x = cc in
    let ends : rest ≡ [] = nil_from_length rest (eqb-true _ _ nothing) in
    ap (λ z. read_as z rest) same ∙ ap (λ t. read_as x t) ends
all_read y rest x false some h = absurd cc

-- what is read in full
pub whole_is : {X : Type 0} (r : Result (X × List ℕ) ℕ) (x : X) → whole r ≡ one x → r ≡ read_as x []
whole_is (Err left) x e = absurd cc
whole_is (Ok read) x e = all_read read.0 read.1 x (eqb (length read.1) 0) refl e

-- what is made of all that is read is all that is read of what is made
pub whole_made : {X Y : Type 0} (made : X → Y) (r : Result (X × List ℕ) ℕ) → option_map made (whole r) ≡ whole (r >>= λ x. read_as (made x.0) x.1)
whole_made made (Err left) = refl
whole_made {X} {Y} made (Ok read) = by (eqb (length read.1) 0)
  where
    by : (b : Bool) → option_map made (cond b (one read.0) None) ≡ cond b (one (made read.0)) None
    by true = refl
    by false = refl

-- what is read is spelled so
pub read_spells : (kind : ℕ) (bytes : List ℕ) (kept : Kept) → IsBytes bytes → read_of kind bytes ≡ Some kept → Spells kind bytes kept
unfolding read_of kept_at
read_spells kind bytes kept isb e =
    let read = whole_is (row_at (kept_rows kind) (length bytes) bytes) kept e in
    let took = rows_read kept_table kind (length bytes) bytes kept [] isb read in
    record {
      fits = kept_fits kept took.1.fits;
      kind_is = sym took.0;
      body_is = took.1.parts ∙ append-nil (spelled (kept_parts kept)) ∙ kept_same kept took.1.fits;
    }

-- what is spelled so is read
pub spells_read : (kind : ℕ) (bytes : List ℕ) (kept : Kept) → Spells kind bytes kept → read_of kind bytes ≡ Some kept
unfolding read_of kept_at
spells_read kind bytes kept spells =
    let fits = kept_back kept spells.fits in
    let body : bytes ≡ spelled (kept_parts kept) ++ [] = spells.body_is ∙ sym (kept_same kept fits) ∙ sym (append-nil (spelled (kept_parts kept))) in
    ap (λ k. read_of k bytes) spells.kind_is ∙ ap (λ b. read_of (kind_of kept) b) body
    ∙ ap whole (rows_again kept_table (length (spelled (kept_parts kept) ++ [])) kept [] (has_kind kept) fits)

-- an answer that gives what is read is the record that is spelled so
pub spells_found : (kind : ℕ) (bytes : List ℕ) (found : Option Kept) (kept : Kept) → Spells kind bytes kept
    → found ≡ read_of kind bytes → found ≡ Some kept
spells_found kind bytes found kept spells gives = gives ∙ spells_read kind bytes kept spells

pub found_spells : (kind : ℕ) (bytes : List ℕ) (found : Option Kept) → IsBytes bytes → found ≡ read_of kind bytes → IfSome found (Spells kind bytes)
found_spells kind bytes None isb gives = tt
found_spells kind bytes (Some kept) isb gives = read_spells kind bytes kept isb (sym gives)
