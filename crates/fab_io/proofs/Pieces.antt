-- A piece that is written in several calls.
use Rattle.std.proofs.Common.{◌≡◌, ℕ, ◌-◌, List, [], ◌++◌, Option, Result, Ok, Err, ap, sym, ◌∙◌, subst, length, take, drop, arith, refl, append_assoc, append-nil, take-append-drop, drop_of_length-le}
use Rattle.std.proofs.lemmas.List.{take_rest}
use Rattle.std.specs.Io.KnownBytes.{Appends, Keeps}
use Rattle.std.proofs.KnownBytes.{Appends-nil, Appends-trans, Appends-kept}
use Rattle.fab_io.specs.Ends.{AppendsFront, WriteTakes}
use Rattle.fab_io.proofs.Content.{AppendsFront-all, AppendsFront-more}

-- of the piece all but the rest was written
abbrev pub Written : Option (List ℕ) → Option (List ℕ) → List ℕ → List ℕ → Type 0
Written old new piece rest = (done : List ℕ) × (piece ≡ done ++ rest) × Appends old new done

pub Written-none : (a : Option (List ℕ)) (piece : List ℕ) → Written a a piece piece
Written-none a piece = ([], refl, Appends-nil a)

-- one more call took n bytes
pub Written-more : (a b c : Option (List ℕ)) (piece rest : List ℕ) (n : ℕ) → Written a b piece rest → Appends b c (take n rest)
    → Written a c piece (take (length rest - n) (drop n rest))
Written-more a b c piece rest n (done, split, p) q =
    let parts : rest ≡ take n rest ++ take (length rest - n) (drop n rest) = sym (take-append-drop n rest)
    ∙ ap (λ l. take n rest ++ l) (sym (take_rest rest n)) in (
      done ++ take n rest,
      split ∙ ap (λ l. done ++ l) parts ∙ sym (append_assoc done (take n rest) (take (length rest - n) (drop n rest))),
      Appends-trans a b c done (take n rest) p q,
    )

-- one more call took none
pub Written-kept : (a b c : Option (List ℕ)) (piece rest : List ℕ) → Written a b piece rest → Keeps b c → Written a c piece rest
Written-kept a b c piece rest (done, split, p) q = (done, split, Appends-kept a b c done p q)

-- so far some of the piece was written
pub Written-part : (a b : Option (List ℕ)) (piece rest : List ℕ) → Written a b piece rest → AppendsFront a b piece
Written-part a b piece rest (done, split, p) =
    subst (AppendsFront a b) (sym split) (AppendsFront-more a b done rest (AppendsFront-all a b done p))

-- where no rest is left the whole piece was written
pub Written-whole : (a b : Option (List ℕ)) (piece rest : List ℕ) → Written a b piece rest → length rest ≡ 0 → Appends a b piece
Written-whole a b piece rest (done, split, p) none =
    let empty : rest ≡ [] = drop_of_length-le rest {i = 0} (omega arith) in
    subst (Appends a b) (sym (split ∙ ap (λ l. done ++ l) empty ∙ append-nil done)) p

-- the whole piece was written, and then flushed
pub WriteTakes-flushed : {T E : Type 0} (a b : Option (List ℕ)) (r : Result T E) (piece : List ℕ) → Appends a b piece → WriteTakes a b r piece
WriteTakes-flushed a b (Ok _) piece p = p
WriteTakes-flushed a b (Err _) piece p = AppendsFront-all a b piece p
