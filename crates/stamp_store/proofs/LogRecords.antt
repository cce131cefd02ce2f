-- A record of a log's change that is read has the body that was read, and its body is read as that record.
use Rattle.std.proofs.Common.{◌≡◌, ℕ, Bool, List, [], ◌++◌, length, Option, Some, None, refl, sym, ap, ◌∙◌, arith}
use Rattle.std.specs.Option.{IfSome}
use Rattle.std.proofs.lemmas.List.{append-nil}
use Rattle.fab_base.specs.declared.identities.GroupId.{GroupId}
use Rattle.fab_base.specs.declared.identities.StripeNo.{StripeNo}
use Rattle.fab_base.specs.declared.identities.ViewNo.{ViewNo}
use Rattle.fab_base.specs.declared.stamps.Stamp.{Stamp}
use Rattle.fields.specs.Parts.{spelled}
use Rattle.fields.specs.Reading.{as_at}
use Rattle.fields.specs.Laws.{IsMade, made_field}
use Rattle.stamp_store.proofs.Rows.{Rows, HasRow, with_row, without_rows, rows_read, rows_again}
use Rattle.stamp_store.specs.declared.log_records.LogChange.{LogChange}
use Rattle.stamp_store.specs.declared.log_records.LogChange.TheVariants.{Same, Collect, Slot}
use Rattle.stamp_store.specs.declared.log_records.Logged.{Logged}
use Rattle.stamp_store.specs.LogSpelling.{logged_kind, SpellsLogged, place_fields, slot_fields, made_change, made_slot, logged_parts, logged_rows, logged_at, logged_of}
use Rattle.stamp_store.specs.Reading.{row_at, whole}
use Rattle.stamp_store.proofs.Bodies.{changed_same, changed_fits, changed_back}
use Rattle.stamp_store.proofs.Fields.{IsBytes}
use Rattle.stamp_store.proofs.Records.{whole_is}

abbrev kind_of : Logged → ℕ
kind_of r = logged_kind r.change

-- a record of a change, which is the one of its kind
placed : (change : LogChange) (r : Logged) → r.change ≡ change → IsMade (λ (p : GroupId × (ViewNo × (StripeNo × Stamp))). Unit {0}) (made_change change) r
placed change r e = record { from = (r.group, (r.view, (r.stripe, r.stamp))); is = tt; same = ap (λ (c : LogChange). made_change c (r.group, (r.view, (r.stripe, r.stamp)))) (sym e) }

is_same : (change : LogChange) → logged_kind change ≡ 6 → change ≡ Same
is_same Same e = refl
is_same change e = absurd (omega arith)

is_collect : (change : LogChange) → logged_kind change ≡ 7 → change ≡ Collect
is_collect Collect e = refl
is_collect change e = absurd (omega arith)

is_slot : (r : Logged) (change : LogChange) → r.change ≡ change → logged_kind change ≡ 8
    → IsMade (λ (p : GroupId × (ViewNo × (StripeNo × (Stamp × (Bool × ℕ))))). Unit {0}) made_slot r
is_slot r (Slot bottom slot) is e = record {
  from = (r.group, (r.view, (r.stripe, (r.stamp, (bottom, slot)))));
  is = tt;
  same = ap (λ (c : LogChange). made_change c (r.group, (r.view, (r.stripe, r.stamp)))) (sym is);
}
is_slot r change is e = absurd (omega arith)

-- each kind is read as it is spelled
logged_table : Rows kind_of logged_parts logged_rows
logged_table = with_row 6 (made_field (λ (r : Logged). kind_of r ≡ 6) logged_parts (made_change Same) (λ p is. refl) (λ p is. refl)
    (λ r e. placed Same r (is_same r.change e)) place_fields.law)
    (with_row 7 (made_field (λ (r : Logged). kind_of r ≡ 7) logged_parts (made_change Collect) (λ p is. refl) (λ p is. refl)
    (λ r e. placed Collect r (is_collect r.change e)) place_fields.law)
    (with_row 8 (made_field (λ (r : Logged). kind_of r ≡ 8) logged_parts made_slot (λ p is. refl) (λ p is. refl)
    (λ r e. is_slot r r.change refl e) slot_fields.law) without_rows))

has_change : (change : LogChange) → HasRow logged_rows (logged_kind change)
has_change Same = record { at = as_at (made_change Same) place_fields.read; is = refl }
has_change Collect = record { at = as_at (made_change Collect) place_fields.read; is = refl }
has_change (Slot bottom slot) = record { at = as_at made_slot slot_fields.read; is = refl }

-- what is read is spelled so
pub logged_spells : (kind : ℕ) (bytes : List ℕ) (logged : Logged) → IsBytes bytes → logged_of kind bytes ≡ Some logged
    → SpellsLogged kind bytes logged
unfolding logged_of logged_at
logged_spells kind bytes logged isb e =
    let read = whole_is (row_at (logged_rows kind) (length bytes) bytes) logged e in
    let took = rows_read logged_table kind (length bytes) bytes logged [] isb read in
    record {
      fits = changed_fits logged took.1.fits;
      kind_is = sym took.0;
      body_is = took.1.parts ∙ append-nil (spelled (logged_parts logged)) ∙ changed_same logged took.1.fits;
    }

-- what is spelled so is read
pub spells_logged : (kind : ℕ) (bytes : List ℕ) (logged : Logged) → SpellsLogged kind bytes logged → logged_of kind bytes ≡ Some logged
unfolding logged_of logged_at
spells_logged kind bytes logged spells =
    let fits = changed_back logged spells.fits in
    let body : bytes ≡ spelled (logged_parts logged) ++ []
    = spells.body_is ∙ sym (changed_same logged fits) ∙ sym (append-nil (spelled (logged_parts logged))) in
    ap (λ k. logged_of k bytes) spells.kind_is ∙ ap (λ b. logged_of (kind_of logged) b) body
    ∙ ap whole (rows_again logged_table (length (spelled (logged_parts logged) ++ [])) logged [] (has_change logged.change) fits)

-- an answer that gives what is read is the record that is spelled so
pub found_logged : (kind : ℕ) (bytes : List ℕ) (found : Option Logged) → IsBytes bytes → found ≡ logged_of kind bytes
    → IfSome found (SpellsLogged kind bytes)
found_logged kind bytes None isb gives = tt
found_logged kind bytes (Some logged) isb gives = logged_spells kind bytes logged isb (sym gives)

pub logged_found : (kind : ℕ) (bytes : List ℕ) (found : Option Logged) (logged : Logged) → SpellsLogged kind bytes logged
    → found ≡ logged_of kind bytes → found ≡ Some logged
logged_found kind bytes found logged spells gives = gives ∙ spells_logged kind bytes logged spells
