-- Marks are numbered in the order in which their operations begin: so it stays where an operation begins, with marks or without, and where one changes that keeps its
-- marks' number.
use Rattle.std.proofs.Common.{◌≡◌, ◌≢◌, ℕ, ◌+◌, ◌<◌, ◌≤◌, ◌⊎◌, inl, inr, ⊎_elim, true, Option, Some, refl, sym, ap, ◌∙◌, arith}
use Rattle.std.proofs.lemmas.Bool.{cases_eq, cases_lt, lt-ltb}
use Rattle.std.proofs.lemmas.Option.{same_Some}
use Rattle.fab_base.specs.declared.stamps.Stamp.{Stamp}
use Rattle.protocol.specs.Nodes.{put}
use Rattle.protocol.specs.Worlds.{Operation, own_mark, with_seen}
use Rattle.protocol.specs.Happenings.{is_marked}
use Rattle.protocol.proofs.Tables.{put_each, put_same}
use Rattle.protocol_laws.specs.Marked.{AreOwnMarks}

-- an operation has marks, or has none
pub cases_marked : (o : Operation) → (1 ≤ o.mark) ⊎ (o.mark ≡ 0)
cases_marked o = ⊎_elim (λ (low : o.mark < 1). inr (omega arith)) (λ (high : 1 ≤ o.mark). inl high) (cases_lt o.mark 1)

-- numbers of marks are from 1
pub has_marks : (o : Operation) → 1 ≤ o.mark → is_marked o ≡ true
has_marks o from = lt-ltb 0 o.mark (omega arith)

-- the number of an operation's marks, also once it saw a version
pub mark_at : (operations : ℕ → Option Operation) (n : ℕ) (o : Operation) → operations n ≡ Some o → own_mark n (operations n) ≡ o.mark
mark_at operations n o is = ap (own_mark n) is

pub mark_seen : (operations : ℕ → Option Operation) (n : ℕ) (v : Stamp) (o : Operation) → operations n ≡ Some o
    → own_mark n (put operations n (with_seen v (operations n)) n) ≡ o.mark
mark_seen operations n v o is =
    ap (own_mark n) (put_same operations n (with_seen v (operations n))) ∙ ap (λ (x : Option Operation). own_mark n (with_seen v x)) is

module _ (marked : ℕ) (operations : ℕ → Option Operation) (own : AreOwnMarks marked operations) where
  -- two operations that have the same marks are one
  pub by_mark_is : (n m : ℕ) (o p : Operation) → operations n ≡ Some o → operations m ≡ Some p → 1 ≤ o.mark → o.mark ≡ p.mark → n ≡ m
  by_mark_is n m o p first second from same =
      ⊎_elim
      (λ (before : n < m). (let below : o.mark < p.mark = own.in_turn n m o p first second from (omega (arith, same)) before in absurd (omega arith)))
      (λ (not_before : m ≤ n).
      ⊎_elim
      (λ (after : m < n). (let below : p.mark < o.mark = own.in_turn m n p o second first (omega (arith, same)) from after in absurd (omega arith)))
      (λ (not_after : n ≤ m). omega arith)
      (cases_lt m n))
      (cases_lt n m)

  -- another operation has other marks
  pub other_mark : (n m : ℕ) (o p : Operation) → operations n ≡ Some o → operations m ≡ Some p → 1 ≤ o.mark → m ≢ n → p.mark ≢ o.mark
  other_mark n m o p first second from other same = other (sym (by_mark_is n m o p first second from (sym same)))

  -- one operation is another, of the same marks
  module _ (n : ℕ) (o p : Operation) (later : ℕ → Option Operation) (was : operations n ≡ Some o) (is : later n ≡ Some p) (mark : p.mark ≡ o.mark)
      (others : (m : ℕ) → m ≢ n → later m ≡ operations m) where
    was_there : (m : ℕ) (q : Operation) → later m ≡ Some q → (r : Operation) × (operations m ≡ Some r) × (q.mark ≡ r.mark)
    was_there m q at =
        ⊎_elim
        (λ (mine : m ≡ n).
        let one : p ≡ q = same_Some p q (sym is ∙ ap later (sym mine) ∙ at) in
        (o, ap operations mine ∙ was, ap (λ (x : Operation). x.mark) (sym one) ∙ mark))
        (λ (other : m ≢ n). (q, sym (others m other) ∙ at, refl))
        (cases_eq m n)

    still_there : (m : ℕ) (r : Operation) → operations m ≡ Some r → (q : Operation) × (later m ≡ Some q) × (q.mark ≡ r.mark)
    still_there m r at =
        ⊎_elim
        (λ (mine : m ≡ n).
        let one : o ≡ r = same_Some o r (sym was ∙ ap operations (sym mine) ∙ at) in
        (p, ap later mine ∙ is, mark ∙ ap (λ (x : Operation). x.mark) one))
        (λ (other : m ≢ n). (r, others m other ∙ at, refl))
        (cases_eq m n)

    pub own_by : AreOwnMarks marked later
    own_by = record {
      within = λ m q at. (let old = was_there m q at in let high : old.0.mark ≤ marked = own.within m old.0 old.1 in let same : q.mark ≡ old.0.mark = old.2 in omega arith);
      in_turn = λ m l q r first second from_first from_second before.
          (let a = was_there m q first in
          let b = was_there l r second in
          let same_a : q.mark ≡ a.0.mark = a.2 in
          let same_b : r.mark ≡ b.0.mark = b.2 in
          let below : a.0.mark < b.0.mark = own.in_turn m l a.0 b.0 a.1 b.1 (omega arith) (omega arith) before in
          omega arith);
      each = λ m low high.
          (let old = own.each m low high in
          let now = still_there old.0 old.1 old.2 in
          (old.0, now.0, now.1, now.2 ∙ old.3));
    }

  -- an operation begins, at the next number
  module _ (begun : ℕ) (below : (n : ℕ) (o : Operation) → operations n ≡ Some o → n ≤ begun) (o : Operation) where
    at_last : (m : ℕ) (q : Operation) → put operations (begun + 1) (Some o) m ≡ Some q → ((m ≡ begun + 1) × (q ≡ o)) ⊎ (operations m ≡ Some q)
    at_last m q =
        put_each (λ (x : ℕ) (y : Option Operation). y ≡ Some q → ((x ≡ begun + 1) × (q ≡ o)) ⊎ (operations x ≡ Some q)) operations (begun + 1) (Some o)
        (λ is. inl (refl, sym (same_Some o q is))) (λ x other is. inr is) m

    kept_there : (m : ℕ) (q : Operation) → operations m ≡ Some q → put operations (begun + 1) (Some o) m ≡ Some q
    kept_there m q is =
        put_each (λ (x : ℕ) (y : Option Operation). operations x ≡ Some q → y ≡ Some q) operations (begun + 1) (Some o)
        (λ last. (let high : begun + 1 ≤ begun = below (begun + 1) q last in absurd (omega arith))) (λ x other at. at) m is

    -- which has the next marks
    pub own_more : o.mark ≡ marked + 1 → AreOwnMarks (marked + 1) (put operations (begun + 1) (Some o))
    own_more mark = record {
      within = λ m q at.
          ⊎_elim
          (λ (last : (m ≡ begun + 1) × (q ≡ o)). (let same : q.mark ≡ o.mark = ap (λ (x : Operation). x.mark) last.1 in omega arith))
          (λ (old : operations m ≡ Some q). (let high : q.mark ≤ marked = own.within m q old in omega arith))
          (at_last m q at);
      in_turn = λ m l q r first second from_first from_second before.
          ⊎_elim
          (λ (last : (l ≡ begun + 1) × (r ≡ o)).
          let same : r.mark ≡ o.mark = ap (λ (x : Operation). x.mark) last.1 in
          ⊎_elim
          (λ (twice : (m ≡ begun + 1) × (q ≡ o)). absurd (let a : m ≡ begun + 1 = twice.0 in let b : l ≡ begun + 1 = last.0 in omega arith))
          (λ (old : operations m ≡ Some q). (let high : q.mark ≤ marked = own.within m q old in omega arith))
          (at_last m q first))
          (λ (later : operations l ≡ Some r).
          ⊎_elim
          (λ (last : (m ≡ begun + 1) × (q ≡ o)).
          (let high : l ≤ begun = below l r later in let a : m ≡ begun + 1 = last.0 in absurd (omega arith)))
          (λ (old : operations m ≡ Some q). own.in_turn m l q r old later from_first from_second before)
          (at_last m q first))
          (at_last l r second);
      each = λ m low high.
          ⊎_elim
          (λ (old : m < marked + 1). (let was = own.each m low (omega arith) in (was.0, was.1, kept_there was.0 was.1 was.2, was.3)))
          (λ (new : marked + 1 ≤ m). (begun + 1, o, put_same operations (begun + 1) (Some o), (let e : o.mark ≡ m = omega arith in e)))
          (cases_lt m (marked + 1));
    }

    -- which has none
    pub own_unmarked : o.mark ≡ 0 → AreOwnMarks marked (put operations (begun + 1) (Some o))
    own_unmarked mark = record {
      within = λ m q at.
          ⊎_elim
          (λ (last : (m ≡ begun + 1) × (q ≡ o)). (let same : q.mark ≡ o.mark = ap (λ (x : Operation). x.mark) last.1 in omega arith))
          (λ (old : operations m ≡ Some q). own.within m q old)
          (at_last m q at);
      in_turn = λ m l q r first second from_first from_second before.
          ⊎_elim
          (λ (last : (l ≡ begun + 1) × (r ≡ o)). (let same : r.mark ≡ o.mark = ap (λ (x : Operation). x.mark) last.1 in absurd (omega arith)))
          (λ (later : operations l ≡ Some r).
          ⊎_elim
          (λ (last : (m ≡ begun + 1) × (q ≡ o)). (let same : q.mark ≡ o.mark = ap (λ (x : Operation). x.mark) last.1 in absurd (omega arith)))
          (λ (old : operations m ≡ Some q). own.in_turn m l q r old later from_first from_second before)
          (at_last m q first))
          (at_last l r second);
      each = λ m low high. (let was = own.each m low high in (was.0, was.1, kept_there was.0 was.1 was.2, was.3));
    }
