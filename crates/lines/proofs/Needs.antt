-- What several calls read, no more than they needed.
use Rattle.std.proofs.Common.{◌≡◌, ℕ, ◌≤◌, List, [], ◌++◌, length, inl, inr, refl, sym, ap, ◌∙◌, subst, append_assoc, append-nil}
use Rattle.lines.specs.Reading.{IsNeeded}

-- nothing was read yet
pub IsNeeded-none : (undecided : List ℕ → Type 0) (unread : List ℕ) (came : ℕ) (untouched : Type 0) → untouched → IsNeeded undecided unread [] came untouched
IsNeeded-none undecided unread came untouched same = inl (refl, same)

-- what leaves open one thing leaves open another
pub IsNeeded-map : (one other : List ℕ → Type 0) (unread read : List ℕ) (came : ℕ) (untouched : Type 0) → ((bytes : List ℕ) → one bytes → other bytes)
    → IsNeeded one unread read came untouched → IsNeeded other unread read came untouched
IsNeeded-map one other unread read came untouched to needed =
    elim needed [
      | inl none ↦ inl none
      | inr some ↦ inr (some.0, some.1, some.2, some.3, to (unread ++ some.0) some.4)
    ]

-- some were read, and then more of them, behind those that were unread by then
pub IsNeeded-more : (one other : List ℕ → Type 0) (unread read now more : List ℕ) (came came_then : ℕ) (untouched same untouched_then : Type 0)
    → IsNeeded one unread read came untouched → IsNeeded other now more came_then same → (same → (came_then ≡ came) × (untouched → untouched_then))
    → ((before : List ℕ) → other (now ++ before) → one (unread ++ (read ++ before)))
    → IsNeeded one unread (read ++ more) came_then untouched_then
IsNeeded-more one other unread read now more came came_then untouched same untouched_then first then stays to =
    elim then [
      | inl none ↦ still none
      | inr some ↦ inr (
        read ++ some.0,
        some.1,
        ap (λ (l : List ℕ). read ++ l) some.2 ∙ sym (append_assoc read some.0 some.1),
        some.3,
        to some.0 some.4,
      )
    ]
  where
    still : (more ≡ []) × same → IsNeeded one unread (read ++ more) came_then untouched_then
    still none =
        let nothing : read ++ more ≡ read = ap (λ (l : List ℕ). read ++ l) none.0 ∙ append-nil read in
        let kept = stays none.1 in
        elim first [
          | inl empty ↦ inl (nothing ∙ empty.0, kept.1 empty.1)
          | inr some ↦ inr (
            some.0,
            some.1,
            nothing ∙ some.2,
            subst (λ (n : ℕ). length some.1 ≤ n) (sym kept.0) some.3,
            some.4,
          )
        ]
