-- The operations that a world keeps, and the machine's: the same walks and the same happenings.
use Rattle.std.proofs.Common.{◌≡◌, ℕ, zero, suc, ◌+◌, ◌<◌, ◌≤◌, Bool, true, false, not, ◌&&◌, ◌||◌, cond, max, nat_eq, List, [], ◌∷◌, ◌++◌, length, get_or, Option, Some, None, option_map, drop, refl, sym, ap, ap₂, ◌∙◌, subst, arith, add-one, append_assoc, drop-cons}
use Rattle.std.specs.Prelude.{slice_get, option_to_list, map, nat_lt}
use Rattle.std.specs.List.{All}
use Rattle.std.proofs.lemmas.Bool.{cond_both, and_parts, and_from, eqb-true, eq-eqb}
use Rattle.std.proofs.lemmas.Bool.Decides.{nat_tests}
use Rattle.std.proofs.lemmas.Option.{same_Some, slice_get-get_or}
use Rattle.std.proofs.lemmas.List.Elements.{All-cons, All-nil, All-append, All-weaker, All-head, All-tail}
use Rattle.std.proofs.lemmas.List.Sorted.{All-permutation}
use Rattle.fab_base.specs.declared.identities.GroupId.{GroupId}
use Rattle.fab_base.specs.declared.identities.StripeNo.{StripeNo}
use Rattle.fab_base.specs.declared.stamps.Stamp.{Stamp}
use Rattle.reg_model.specs.declared.entries.Entry.{Entry}
use Rattle.reg_model.specs.declared.marks.Happening.{Happening}
use Rattle.reg_model.specs.declared.marks.Mark.{Mark}
use Rattle.reg_model.specs.Marks.{life_of, is_of_stripe, stripe_marks}
use Rattle.reg_model.specs.Walk.{begin_of, positioned}
use Rattle.protocol.specs.Settings.{Setting}
use Rattle.protocol.specs.Worlds.{World, Operation, own_mark}
use Rattle.protocol.specs.Happenings.{is_marked, Effect, is_of, entry_with, entry_at, entries_to, was_answered, writes, is_told, base_of, is_among, with_entry, effect_of, effect_in, ascending, by_mark, walk_of, happenings_of}
use Rattle.protocol_laws.proofs.Books.{Books, LifeBooks}
use Rattle.protocol_laws.proofs.Effects.{told_all, told_told}
use Rattle.protocol_laws.proofs.Entries.{IsEntryOf, entries_of}
use Rattle.protocol_laws.proofs.Sorting.{ascending_permutation}
use Rattle.reg_model.proofs.StripeLives.{life_filtered}
use Rattle.world.specs.declared.histories.OperationRecord.{OperationRecord}
use Rattle.world.specs.Shown.{TellsOperation, TellsOne}
use Rattle.world.proofs.KeptNumbers.{told_of}
use Rattle.world.specs.Walks.{KeepsAll, BeginsAgree, BeginAsMarked, op_that, operation_of, operations_of, begin_at, placed, happenings_from}

-- stands for an operation of which nothing is kept
abbrev pub nothing_kept : OperationRecord
nothing_kept = record { brick = record { 0 = 0 }; boot = 0; seq = 0; begin = 0; group = record { 0 = 0 }; stripe = record { 0 = 0 }; version = None; made = false; base = None; writes = false; answered = false; mark = 0 }

-- the entries of one operation more
pub entries_more : (operations : List OperationRecord) (g s i : ℕ) (d : OperationRecord) → i < length operations
    → entries_to (operations_of operations) g s (i + 1)
    ≡ entries_to (operations_of operations) g s i ++ entry_at g s (i + 1) (Some (operation_of (get_or operations i d)))
entries_more operations g s i d within =
    let known : OperationRecord = get_or operations i d in
    subst (λ (m : ℕ). entries_to (operations_of operations) g s m ≡ entries_to (operations_of operations) g s i ++ entry_at g s m
    (Some (operation_of known)))
    (sym (add-one i))
    (ap (λ (o : Option OperationRecord). entries_to (operations_of operations) g s i ++ entry_at g s (suc i) (option_map operation_of o))
    (slice_get-get_or operations i d within))

-- the entry of an operation that is kept is the machine's
kept_entry : (g s n : ℕ) (known : OperationRecord) (o : Operation) → TellsOperation known o → entry_at g s n (Some (operation_of known)) ≡ entry_at g s n (Some o)
kept_entry g s n known o is =
    ap (λ (x : GroupId). cond (nat_eq x.0 g && nat_eq known.stripe.0 s) (entry_with n (not known.made) known.version) []) is.group
    ∙ ap (λ (x : StripeNo). cond (nat_eq o.ask.group.0 g && nat_eq x.0 s) (entry_with n (not known.made) known.version) []) is.stripe
    ∙ ap (λ (x : Bool). cond (is_of g s o) (entry_with n (not x) known.version) []) is.made
    ∙ ap (λ (x : Option Stamp). cond (is_of g s o) (entry_with n (not o.made) x) []) is.version

-- operation k, as it is kept and as the machine has it
record Agrees (operations : List OperationRecord) (w : World) (k : ℕ) : Type 0 where
  known : OperationRecord
  operation : Operation
  kept : operations_of operations k ≡ Some (operation_of known)
  is : w.operations k ≡ Some operation
  same : TellsOperation known operation

agrees : (operations : List OperationRecord) (w : World) → KeepsAll operations w → (d : OperationRecord) (k : ℕ) → 1 ≤ k → k ≤ length operations → Agrees operations w k
agrees operations w are d zero low high = absurd (omega arith)
agrees operations w are d (suc i) low high =
    let known : OperationRecord = get_or operations i d in
    let at : slice_get operations i ≡ Some known = slice_get-get_or operations i d (omega arith) in
    let mine = told_of known (w.operations (suc i)) (subst (λ (r : Option OperationRecord). TellsOne r (w.operations (suc i))) at (are.each (suc i))) in
    record {
      known = known;
      operation = mine.0;
      kept = ap (λ (o : Option OperationRecord). option_map operation_of o) at;
      is = mine.1;
      same = mine.2;
    }

-- numbered 1 to n
abbrev IsUpTo : ℕ → Entry → Type 0
IsUpTo n e = (1 ≤ e.operation) × (e.operation ≤ n)

at_number : (g s n : ℕ) (o : Option Operation) → All (λ (e : Entry). e.operation ≡ n) (entry_at g s n o)
at_number g s n None = All-nil (λ (e : Entry). e.operation ≡ n)
at_number g s n (Some o) =
    cond_both (is_of g s o) (entry_with n (not o.made) o.version) [] (λ (l : List Entry). All (λ (e : Entry). e.operation ≡ n) l)
    (λ of. with_number (not o.made) o.version) (λ other. All-nil (λ (e : Entry). e.operation ≡ n))
  where
    with_number : (reader : Bool) (version : Option Stamp) → All (λ (e : Entry). e.operation ≡ n) (entry_with n reader version)
    with_number reader None = All-nil (λ (e : Entry). e.operation ≡ n)
    with_number reader (Some t) =
        All-cons (λ (e : Entry). e.operation ≡ n) (record { stamp = t; reader = reader; operation = n }) [] refl
        (All-nil (λ (e : Entry). e.operation ≡ n))

-- the entries of operations 1 to n are so numbered
entries_numbered : (operations : ℕ → Option Operation) (g s n : ℕ) → All (IsUpTo n) (entries_to operations g s n)
entries_numbered operations g s zero = All-nil (IsUpTo zero)
entries_numbered operations g s (suc n) =
    All-append (IsUpTo (suc n)) (entries_to operations g s n) (entry_at g s (suc n) (operations (suc n)))
    (All-weaker (IsUpTo n) (IsUpTo (suc n)) (λ e old. (old.0, omega (arith, old.1))) (entries_to operations g s n)
    (entries_numbered operations g s n))
    (All-weaker (λ (e : Entry). e.operation ≡ suc n) (IsUpTo (suc n)) (λ e is. (omega arith, omega arith)) (entry_at g s (suc n) (operations (suc n)))
    (at_number g s (suc n) (operations (suc n))))

-- the operation that is filled in writes where the kept one does
writes_that : (b : Bool) → writes (op_that b) ≡ b
writes_that true = refl
writes_that false = refl

-- where of two operations the same is known, the same is done with their entry
with_entry_same : (o p : Option Operation) (e : Entry) (above : Effect) → was_answered o ≡ was_answered p → is_told o ≡ is_told p
    → base_of o ≡ base_of p
    → with_entry o e above ≡ with_entry p e above
with_entry_same o p e above answered told base =
    ap (λ (b : Bool). cond (b || is_among e.stamp above.needed) (took (is_told o) (base_of o)) above) answered
    ∙ ap (λ (t : Bool). cond (was_answered p || is_among e.stamp above.needed) (took t (base_of o)) above) told
    ∙ ap (λ (u : Option Stamp). cond (was_answered p || is_among e.stamp above.needed) (took (is_told p) u) above) base
  where
    took : Bool → Option Stamp → Effect
    took told base = record {
      told = cond told (e ∷ above.told) above.told;
      versions = e.stamp ∷ above.versions;
      needed = cond e.reader (e.stamp ∷ []) (option_to_list base) ++ above.needed;
    }

-- the effects are the same, where of each entry's operation the same is known
effect_same : (f g : ℕ → Option Operation) (entries : List Entry)
    → All (λ (e : Entry). (was_answered (f e.operation) ≡ was_answered (g e.operation)) × (is_told (f e.operation) ≡ is_told (g e.operation))
    × (base_of (f e.operation) ≡ base_of (g e.operation))) entries
    → effect_of f entries ≡ effect_of g entries
effect_same f g [] same = refl
effect_same f g (e ∷ entries) same =
    let AreSame : Entry → Type 0 = λ x.
    (was_answered (f x.operation) ≡ was_answered (g x.operation)) × (is_told (f x.operation) ≡ is_told (g x.operation))
    × (base_of (f x.operation) ≡ base_of (g x.operation)) in
    let first : AreSame e = All-head AreSame e entries same in
    ap (λ (above : Effect). with_entry (f e.operation) e above) (effect_same f g entries (All-tail AreSame e entries same))
    ∙ with_entry_same (f e.operation) (g e.operation) e (effect_of g entries) first.0 first.1 first.2

module _ (operations : List OperationRecord) (w : World) (are : KeepsAll operations w) (d : OperationRecord) (g s : ℕ) where
  -- the entries are the same
  entries_same : (n : ℕ) → n ≤ length operations → entries_to (operations_of operations) g s n ≡ entries_to w.operations g s n
  entries_same zero within = refl
  entries_same (suc n) within =
      let mine : Agrees operations w (suc n) = agrees operations w are d (suc n) (omega arith) within in
      let one : entry_at g s (suc n) (operations_of operations (suc n)) ≡ entry_at g s (suc n) (w.operations (suc n)) =
      ap (λ (o : Option Operation). entry_at g s (suc n) o) mine.kept ∙ kept_entry g s (suc n) mine.known mine.operation mine.same
      ∙ sym (ap (λ (o : Option Operation). entry_at g s (suc n) o) mine.is) in
      ap₂ (λ (a b : List Entry). a ++ b) (entries_same n (omega arith)) one

  -- the same is known of an operation as the machine knows
  known_same : (k : ℕ) → 1 ≤ k → k ≤ length operations
      → (was_answered (operations_of operations k) ≡ was_answered (w.operations k))
      × (is_told (operations_of operations k) ≡ is_told (w.operations k))
      × (base_of (operations_of operations k) ≡ base_of (w.operations k))
  known_same k low high =
      let mine : Agrees operations w k = agrees operations w are d k low high in
      let marked : is_marked (operation_of mine.known) ≡ is_marked mine.operation = ap (λ (n : ℕ). nat_lt 0 n) mine.same.mark in
      let writing : writes (op_that mine.known.writes) ≡ writes mine.operation.ask.op = writes_that mine.known.writes ∙ mine.same.writes in (
        ap was_answered mine.kept ∙ ap₂ (λ (a b : Bool). a && b) marked mine.same.answered ∙ sym (ap was_answered mine.is),
        ap is_told mine.kept ∙ ap₂ (λ (a b : Bool). a && b) marked (ap₂ (λ (a b : Bool). a || b) mine.same.answered writing) ∙ sym (ap is_told mine.is),
        ap base_of mine.kept ∙ mine.same.base ∙ sym (ap base_of mine.is),
      )

  -- so are its marks
  mark_same : (k : ℕ) → 1 ≤ k → k ≤ length operations → own_mark k (operations_of operations k) ≡ own_mark k (w.operations k)
  mark_same k low high =
      let mine : Agrees operations w k = agrees operations w are d k low high in
      ap (own_mark k) mine.kept ∙ mine.same.mark ∙ sym (ap (own_mark k) mine.is)

  -- what holds of each entry of the stripe's operations holds of each as they ascend
  rising_all : (P : Entry → Type 0) → All P (entries_to w.operations g s w.begun) → All P (ascending (entries_to w.operations g s w.begun))
  rising_all P all =
      let entries : List Entry = entries_to w.operations g s w.begun in
      All-permutation P entries (ascending entries) (ascending_permutation entries) all

  -- the same entries are told
  told_same : (effect_of (operations_of operations) (ascending (entries_to w.operations g s w.begun))).told ≡ (effect_in w g s).told
  told_same =
      let entries : List Entry = entries_to w.operations g s w.begun in
      let AreSame : Entry → Type 0 = λ e.
      (was_answered (operations_of operations e.operation) ≡ was_answered (w.operations e.operation))
      × (is_told (operations_of operations e.operation) ≡ is_told (w.operations e.operation))
      × (base_of (operations_of operations e.operation) ≡ base_of (w.operations e.operation)) in
      ap (λ (x : Effect). x.told) (effect_same (operations_of operations) w.operations (ascending entries)
      (rising_all AreSame
      (All-weaker (IsUpTo w.begun) AreSame
      (λ e upto. known_same e.operation upto.0 (let begun = are.begun in omega (arith, upto.1))) entries
      (entries_numbered w.operations g s w.begun))))

  -- the operation of an entry that is told begins where its marks of the stripe say
  begin_same : BeginsAgree w → (e : Entry) → IsUpTo (length operations) e → IsEntryOf w.operations g s e → is_told (w.operations e.operation) ≡ true
      → begin_at (operations_of operations e.operation)
      ≡ begin_of (life_of (stripe_marks g s w.marks) (own_mark e.operation (operations_of operations e.operation)))
  begin_same begins e upto ours told =
      let mine : Agrees operations w e.operation = agrees operations w are d e.operation upto.0 upto.1 in
      let o : Operation = ours.operation in
      let one : mine.operation ≡ o = same_Some mine.operation o (sym mine.is ∙ ours.is) in
      let parts = and_parts _ _ ours.of in
      let group : o.ask.group.0 ≡ g = eqb-true o.ask.group.0 g parts.0 in
      let stripe : o.ask.stripe.0 ≡ s = eqb-true o.ask.stripe.0 s parts.1 in
      let marked : is_marked o ≡ true = (and_parts (is_marked o) _ (sym (ap is_told ours.is) ∙ told)).0 in
      let mark : own_mark e.operation (operations_of operations e.operation) ≡ o.mark =
      mark_same e.operation upto.0 upto.1 ∙ ap (own_mark e.operation) ours.is in
      let agree : begin_of (life_of (stripe_marks g s w.marks) (own_mark e.operation (operations_of operations e.operation))) ≡ o.begin =
      subst (λ (x : ℕ). begin_of (life_of (stripe_marks x s w.marks) (own_mark e.operation (operations_of operations e.operation))) ≡ o.begin) group
      (subst (λ (y : ℕ). begin_of (life_of (stripe_marks o.ask.group.0 y w.marks) (own_mark e.operation (operations_of operations e.operation))) ≡ o.begin) stripe
      (subst (λ (n : ℕ). begin_of (life_of (stripe_marks o.ask.group.0 o.ask.stripe.0 w.marks) n) ≡ o.begin) (sym mark)
      (begins.each e.operation o ours.is marked))) in
      ap begin_at mine.kept ∙ mine.same.begin ∙ ap (λ (x : Operation). x.begin) one ∙ sym agree

  -- what holds of each entry of the stripe's operations holds of each that is told
  told_each : (P : Entry → Type 0) → All P (entries_to w.operations g s w.begun) → All P (effect_in w g s).told
  told_each P all = told_all w.operations P (ascending (entries_to w.operations g s w.begun)) (rising_all P all)

  -- the operations that are told begin where the marks of the stripe say
  told_begins : BeginsAgree w → BeginAsMarked (operations_of operations) (stripe_marks g s w.marks) (effect_in w g s).told
  told_begins begins =
      let told : List Entry = (effect_in w g s).told in
      let upto : All (IsUpTo w.begun) told = told_each (IsUpTo w.begun) (entries_numbered w.operations g s w.begun) in
      let ours : All (IsEntryOf w.operations g s) told = told_each (IsEntryOf w.operations g s) (entries_of w.operations g s w.begun) in
      let are_told = told_told w.operations (ascending (entries_to w.operations g s w.begun)) in
      λ k e lt. begin_same begins (get_or told k e)
      (let near : IsUpTo w.begun (get_or told k e) = upto k e lt in (near.0, (let begun = are.begun in omega (arith, near.1)))) (ours k e lt)
      (are_told k e lt)

  -- the entries that are told by the numbers of marks
  told_marked : map (by_mark (operations_of operations)) (effect_in w g s).told ≡ map (by_mark w.operations) (effect_in w g s).told
  told_marked =
      let told : List Entry = (effect_in w g s).told in
      marks_alike told (All-weaker (IsUpTo w.begun)
      (λ (e : Entry). own_mark e.operation (operations_of operations e.operation) ≡ own_mark e.operation (w.operations e.operation))
      (λ e upto. mark_same e.operation upto.0 (let begun = are.begun in omega (arith, upto.1))) told
      (told_each (IsUpTo w.begun) (entries_numbered w.operations g s w.begun)))
    where
      marks_alike : (entries : List Entry)
          → All (λ (e : Entry). own_mark e.operation (operations_of operations e.operation) ≡ own_mark e.operation (w.operations e.operation)) entries
          → map (by_mark (operations_of operations)) entries ≡ map (by_mark w.operations) entries
      marks_alike [] all = refl
      marks_alike (e ∷ entries) all =
          let IsSame : Entry → Type 0 =
          λ (x : Entry). own_mark x.operation (operations_of operations x.operation) ≡ own_mark x.operation (w.operations x.operation) in
          ap (λ (n : ℕ). record e { operation = n } ∷ map (by_mark (operations_of operations)) entries) (All-head IsSame e entries all)
          ∙ ap (λ (l : List Entry). by_mark w.operations e ∷ l) (marks_alike entries (All-tail IsSame e entries all))

-- the entries of a world, from the operations that are kept
pub kept_entries : (operations : List OperationRecord) (w : World) (g s : ℕ) → KeepsAll operations w
    → entries_to (operations_of operations) g s (length operations) ≡ entries_to w.operations g s w.begun
kept_entries operations w g s are =
    entries_same operations w are nothing_kept g s (length operations) (omega arith)
    ∙ ap (λ (m : ℕ). entries_to w.operations g s m) are.begun

-- one happening more, along a walk
pub placed_more : (operations : ℕ → Option Operation) (done : List Happening) (p q b n : ℕ) (walk : List Entry) (i : ℕ) (e : Entry) → i < length walk
    → b ≡ begin_at (operations (get_or walk i e).operation) → q ≡ max p b
    → n ≡ own_mark (get_or walk i e).operation (operations (get_or walk i e).operation)
    → (done ++ record { operation = n; position = q } ∷ []) ++ placed operations q (drop (i + 1) walk)
    ≡ done ++ placed operations p (drop i walk)
placed_more operations done p q b n walk i e within begins greatest mark =
    let next : Entry = get_or walk i e in
    let place : q ≡ max p (begin_at (operations next.operation)) = greatest ∙ ap (λ (n : ℕ). max p n) begins in
    append_assoc done _ _
    ∙ ap (λ (m : ℕ). done ++ (record { operation = m; position = q } ∷ placed operations q (drop (i + 1) walk))) mark
    ∙ ap (λ (m : ℕ). done ++ (record { operation = own_mark next.operation (operations next.operation); position = m } ∷ placed operations m (drop (i + 1) walk)))
    place
    ∙ ap (λ (m : ℕ). done ++ (placed operations p (next ∷ drop m walk))) (add-one i)
    ∙ ap (λ (l : List Entry). done ++ placed operations p l) (sym (drop-cons walk i e within))

-- where the operations begin as their marks say, the happenings are at the same positions
placed_as_marked : (operations : ℕ → Option Operation) (marks : List Mark) (p : ℕ) (walk : List Entry) → BeginAsMarked operations marks walk
    → placed operations p walk ≡ positioned marks p (map (by_mark operations) walk)
placed_as_marked operations marks p [] begin = refl
placed_as_marked operations marks p (e ∷ walk) begin =
    let IsAsMarked : Entry → Type 0 =
    λ x. begin_at (operations x.operation) ≡ begin_of (life_of marks (own_mark x.operation (operations x.operation))) in
    let position : ℕ = max p (begin_at (operations e.operation)) in
    let mark : ℕ = own_mark e.operation (operations e.operation) in
    ap (λ (l : List Happening). record { operation = mark; position = position } ∷ l)
    (placed_as_marked operations marks position walk (All-tail IsAsMarked e walk begin))
    ∙ ap (λ (n : ℕ). record { operation = mark; position = max p n } ∷ positioned marks (max p n) (map (by_mark operations) walk))
    (All-head IsAsMarked e walk begin)

-- what the operations that a world keeps tell of a stripe is what the world tells
pub kept_happenings : (operations : List OperationRecord) (w : World) (g s : ℕ) → KeepsAll operations w → BeginsAgree w
    → happenings_from operations (entries_to w.operations g s w.begun) ≡ happenings_of w g s
unfolding happenings_of walk_of
kept_happenings operations w g s are begins =
    let marks : List Mark = stripe_marks g s w.marks in
    ap (λ (l : List Entry). placed (operations_of operations) 0 l) (told_same operations w are nothing_kept g s)
    ∙ placed_as_marked (operations_of operations) marks 0 (effect_in w g s).told (told_begins operations w are nothing_kept g s begins)
    ∙ ap (λ (l : List Entry). positioned marks 0 l) (told_marked operations w are nothing_kept g s)

-- where the books hold, operations begin where the marks of their stripes say
pub begins_from_books : (setting : Setting) (w : World) → Books setting w → BeginsAgree w
begins_from_books setting w books = record {
  each = λ n o is marked.
      (let low : 1 ≤ o.mark = grind (arith, nat_tests, marked) in
      let mine : LifeBooks w o = (books.operations n o is).lived low in
      let g : ℕ = o.ask.group.0 in
      let s : ℕ = o.ask.stripe.0 in
      let own : is_of_stripe g s (Some mine.life) ≡ true =
      ap (λ a. nat_eq a.group.0 g && nat_eq a.stripe.0 s) mine.ask ∙ and_from _ _ (eq-eqb g g refl) (eq-eqb s s refl) in
      let found = life_filtered g s w.marks o.mark (ap (is_of_stripe g s) mine.life_is ∙ own) w.marks mine.life mine.life_is own in
      ap begin_of found.1 ∙ found.2.begin ∙ mine.begin);
}
