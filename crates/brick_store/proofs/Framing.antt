-- The frames of records: what is read back from them, and how long they are.
use Rattle.std.proofs.Common.{◌≡◌, ℕ, suc, ◌+◌, ◌*◌, ◌<◌, ◌≤◌, Bool, true, false, Option, Some, None, List, [], ◌∷◌, ◌++◌, length, get_or, drop, refl, sym, ap, subst, ◌∙◌, arith}
use Rattle.std.specs.Option.{option_map}
use Rattle.std.specs.Int.{w16, w32, w64}
use Rattle.std.specs.List.{flat_map}
use Rattle.std.proofs.Math.Seq.{drop-cons}
use Rattle.std.proofs.lemmas.List.{length-append}
use Rattle.fab_base.specs.declared.identities.BrickId.{BrickId}
use Rattle.fab_base.specs.declared.stamps.Stamp.{Stamp}
use Rattle.fab_base.specs.declared.stamps.Ballot.{Ballot}
use Rattle.stamp_store.specs.declared.kept_records.Kept.{Kept}
use Rattle.stamp_store.specs.declared.kept_records.Kept.TheVariants.{Boot, Ballots, Order}
use Rattle.stamp_store.specs.declared.kept_records.Kept.TheVariants as kinds
use Rattle.stamp_store.specs.declared.log_records.LogChange.{LogChange}
use Rattle.stamp_store.specs.declared.log_records.LogChange.TheVariants.{Same, Collect, Slot}
use Rattle.stamp_store.specs.declared.log_records.Logged.{Logged}
use Rattle.stamp_store.specs.Spelling.{number_bytes, stamp_bytes, ballot_bytes, brick_bytes, members_bytes, accepted_bytes, flag_bytes, body_of, AcceptedFits, Fits, Spells}
use Rattle.stamp_store.specs.Reading.{read_of, kept_at}
use Rattle.stamp_store.specs.LogSpelling.{logged_kind, change_bytes, logged_body, SpellsLogged}
use Rattle.stamp_store.proofs.Records.{spells_read}
use Rattle.stamp_store.proofs.LogRecords.{spells_logged}
use Rattle.frame_store.specs.Listed.{frame_of}
use Rattle.brick_state.specs.declared.records.Record.{Record}
use Rattle.brick_state.specs.declared.records.Record.TheVariants as forms
use Rattle.brick_store.specs.Images.{or_logged, record_of}
use Rattle.brick_store.specs.Sizes.{accepted_size, change_size, body_size, most}

-- ---- reading

pub kept_read : (kind : ℕ) (body : List ℕ) (kept : Kept) → Spells kind body kept → record_of (frame_of kind body) ≡ Some (forms.Kept kept)
kept_read kind body kept spells = ap (λ (found : Option Kept). or_logged found kind body) (spells_read kind body kept spells)

-- a change of a log is of no other kind
not_kept : (change : LogChange) (body : List ℕ) → read_of (logged_kind change) body ≡ None
unfolding read_of kept_at
not_kept Same body = refl
not_kept Collect body = refl
not_kept (Slot bottom slot) body = refl

pub logged_read : (kind : ℕ) (body : List ℕ) (logged : Logged) → kind ≡ logged_kind logged.change → SpellsLogged kind body logged
    → record_of (frame_of kind body) ≡ Some (forms.Logged logged)
logged_read kind body logged is spells =
    ap (λ (found : Option Kept). or_logged found kind body) (ap (λ k. read_of k body) is ∙ not_kept logged.change body)
    ∙ ap (λ (found : Option Logged). option_map forms.Logged found) (spells_logged kind body logged spells)

-- ---- lengths

length32 : (n : ℕ) → length (number_bytes w32 n) ≡ 4
unfolding number_bytes
length32 n = refl

length16 : (n : ℕ) → length (number_bytes w16 n) ≡ 2
unfolding number_bytes
length16 n = refl

length64 : (n : ℕ) → length (number_bytes w64 n) ≡ 8
unfolding number_bytes
length64 n = refl

two : (a b : List ℕ) (m n : ℕ) → length a ≡ m → length b ≡ n → length (a ++ b) ≡ m + n
two a b m n p q = omega (arith, length-append a b, p, q)

stamp_length : (s : Stamp) → length (stamp_bytes s) ≡ 18
unfolding stamp_bytes
stamp_length s =
    two (number_bytes w32 s.view.0) _ 4 14 (length32 s.view.0)
    (two (number_bytes w64 s.time) _ 8 6 (length64 s.time) (two (number_bytes w16 s.brick.0) (number_bytes w32 s.boot) 2 4 (length16 s.brick.0)
    (length32 s.boot)))

ballot_length : (b : Ballot) → length (ballot_bytes b) ≡ 10
unfolding ballot_bytes
ballot_length b = two (number_bytes w32 b.round) _ 4 6 (length32 b.round) (two (number_bytes w16 b.brick.0) (number_bytes w32 b.boot) 2 4
    (length16 b.brick.0) (length32 b.boot))

bricks_length : (members : List BrickId) → length (flat_map brick_bytes members) ≡ 2 * length members
bricks_length [] = refl
bricks_length (brick ∷ members) = omega (
  arith,
  length-append (brick_bytes brick) (flat_map brick_bytes members),
  length16 brick.0,
  bricks_length members,
)

members_length : (members : List BrickId) → length (members_bytes members) ≡ 1 + 2 * length members
unfolding members_bytes
members_length members = omega (arith, bricks_length members)

accepted_length : (accepted : Option (Ballot × List BrickId)) → length (accepted_bytes accepted) ≡ accepted_size accepted
unfolding accepted_bytes
accepted_length None = refl
accepted_length (Some a) = omega (
  arith,
  two (ballot_bytes a.0) (members_bytes a.1) 10 _ (ballot_length a.0) (members_length a.1),
)

flag_length : (b : Bool) → length (flag_bytes b) ≡ 1
flag_length true = refl
flag_length false = refl

pub kept_length : (kept : Kept) → length (body_of kept) ≡ body_size (forms.Kept kept)
unfolding body_of
kept_length (Boot count) = length32 count
kept_length (kinds.View group view synced) =
    let tail = two (members_bytes view.prior) (flag_bytes synced) _ 1 (members_length view.prior) (flag_length synced) in
    let lists = two (members_bytes view.members) _ _ _ (members_length view.members) tail in
    let numbered = two (number_bytes w32 view.number.0) _ 4 _ (length32 view.number.0) lists in
    omega (arith, two (number_bytes w32 group.0) _ 4 _ (length32 group.0) numbered)
kept_length (Ballots group view promised accepted) =
    let tail = two (ballot_bytes promised) (accepted_bytes accepted) 10 _ (ballot_length promised) (accepted_length accepted) in
    let numbered = two (number_bytes w32 view.0) _ 4 _ (length32 view.0) tail in
    omega (arith, two (number_bytes w32 group.0) _ 4 _ (length32 group.0) numbered)
kept_length (Order group view stripe stamp) =
    let tail = two (number_bytes w32 stripe.0) (stamp_bytes stamp) 4 18 (length32 stripe.0) (stamp_length stamp) in
    let numbered = two (number_bytes w32 view.0) _ 4 22 (length32 view.0) tail in
    two (number_bytes w32 group.0) _ 4 26 (length32 group.0) numbered

change_length : (change : LogChange) → length (change_bytes change) ≡ change_size change
change_length Same = refl
change_length Collect = refl
change_length (Slot bottom slot) = two (flag_bytes bottom) (number_bytes w32 slot) 1 4 (flag_length bottom) (length32 slot)

pub logged_length : (r : Logged) → length (logged_body r) ≡ body_size (forms.Logged r)
unfolding logged_body
logged_length r =
    let tail = two (stamp_bytes r.stamp) (change_bytes r.change) 18 _ (stamp_length r.stamp) (change_length r.change) in
    let placed = two (number_bytes w32 r.stripe.0) _ 4 _ (length32 r.stripe.0) tail in
    let numbered = two (number_bytes w32 r.view.0) _ 4 _ (length32 r.view.0) placed in
    omega (arith, two (number_bytes w32 r.group.0) _ 4 _ (length32 r.group.0) numbered)

-- no frame is longer than it may be
accepted_few : (accepted : Option (Ballot × List BrickId)) → AcceptedFits accepted → accepted_size accepted ≤ 76
accepted_few None fit = omega arith
accepted_few (Some a) fit = omega (arith, fit.1.few)

change_few : (change : LogChange) → change_size change ≤ 5
change_few Same = omega arith
change_few Collect = omega arith
change_few (Slot bottom slot) = omega arith

pub kept_most : (kept : Kept) → Fits kept → 6 + body_size (forms.Kept kept) ≤ most (forms.Kept kept)
kept_most (Boot count) fit = omega arith
kept_most (kinds.View group view synced) fit = omega (arith, fit.1.1.0.few, fit.1.1.1.0.few)
kept_most (Ballots group view promised accepted) fit = omega (arith, accepted_few accepted fit.1.1.1)
kept_most (Order group view stripe stamp) fit = omega arith

pub logged_most : (r : Logged) → 6 + body_size (forms.Logged r) ≤ most (forms.Logged r)
logged_most r = omega (arith, change_few r.change)

-- ---- one after the other

-- of records that are gone through, these are left
pub left_is : (rs : List Record) (k : ℕ) (r : Record) → k < length rs → r ≡ get_or rs k r → drop k rs ≡ r ∷ drop (k + 1) rs
left_is rs k r within is =
    let next : k + 1 ≡ suc k = omega arith in
    subst (λ (n : ℕ). drop k rs ≡ r ∷ drop n rs) (sym next) (drop-cons rs k r within ∙ ap (λ x. x ∷ drop (suc k) rs) (sym is))
