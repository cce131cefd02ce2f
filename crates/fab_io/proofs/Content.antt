-- What several reads or writes do to the bytes that the ends of a stream tell.
use Rattle.std.proofs.Common.{◌≡◌, ℕ, ◌+◌, ◌≤◌, List, [], ◌++◌, Some, None, Option, sym, ap, ◌∙◌, subst, length, take, arith, append_assoc, append-nil, length-append, length-take-le, IfSome}
use Rattle.std.proofs.lemmas.List.{take-append-le}
use Rattle.std.proofs.Math.Seq.{take-length, take-append-add}
use Rattle.std.specs.Io.KnownBytes.{Appends, Consumes, Keeps, IsAtEnd, prepend_known}
use Rattle.std.proofs.KnownBytes.{Appends-trans}
use Rattle.fab_io.specs.Ends.{AppendsFront}

-- all of the bytes are some of them
pub AppendsFront-all : (a b : Option (List ℕ)) (bs : List ℕ) → Appends a b bs → AppendsFront a b bs
AppendsFront-all a b bs p = (length bs, omega arith, subst (Appends a b) (sym (take-length bs)) p)

-- what stays has grown by no bytes
pub Appends-none : (a b : Option (List ℕ)) → Keeps a b → Appends a b []
Appends-none None b p = tt
Appends-none (Some x) None p = absurd p
Appends-none (Some x) (Some y) p = p ∙ sym (append-nil x)

-- none of the bytes are some of them
pub AppendsFront-none : (a b : Option (List ℕ)) (bs : List ℕ) → Keeps a b → AppendsFront a b bs
AppendsFront-none a b bs p = (0, omega arith, Appends-none a b p)

-- some of the bytes are some of these and more
pub AppendsFront-more : (a b : Option (List ℕ)) (bs cs : List ℕ) → AppendsFront a b bs → AppendsFront a b (bs ++ cs)
AppendsFront-more a b bs cs (k, within, p) =
    (k, omega (arith, length-append bs cs), subst (Appends a b) (sym (take-append-le k bs cs within)) p)

-- the bytes of one write, and then some of those of the next
pub AppendsFront-after : (a b c : Option (List ℕ)) (bs cs : List ℕ) → Appends a b bs → AppendsFront b c cs → AppendsFront a c (bs ++ cs)
AppendsFront-after a b c bs cs p (k, within, q) =
    (length bs + k, omega (arith, length-append bs cs), subst (Appends a c) (sym (take-append-add bs cs k)) (Appends-trans a b c bs (take k cs) p q))

-- bytes read behind a buffer that is part of what is left
pub prepend_known-filled : (start old new : Option (List ℕ)) (seen buffer more : List ℕ) → Consumes start (prepend_known buffer old) seen
    → Consumes old new more
    → Consumes start (prepend_known (buffer ++ more) new) seen
prepend_known-filled None old new seen buffer more p q = tt
prepend_known-filled (Some x) None new seen buffer more p q = absurd p
prepend_known-filled (Some x) (Some y) None seen buffer more p q = absurd q
prepend_known-filled (Some x) (Some y) (Some z) seen buffer more p q =
    p ∙ ap (λ l. seen ++ (buffer ++ l)) q ∙ ap (λ l. seen ++ l) (sym (append_assoc buffer more z))

-- bytes taken from the front of such a buffer
pub prepend_known-taken : (start now : Option (List ℕ)) (seen front rest : List ℕ) → Consumes start (prepend_known (front ++ rest) now) seen
    → Consumes start (prepend_known rest now) (seen ++ front)
prepend_known-taken None now seen front rest p = tt
prepend_known-taken (Some x) None seen front rest p = absurd p
prepend_known-taken (Some x) (Some y) seen front rest p =
    p ∙ ap (λ l. seen ++ l) (append_assoc front rest y) ∙ sym (append_assoc seen front (rest ++ y))

-- at the end of what is left, the buffer is the last of it
pub prepend_known-ended : (start now : Option (List ℕ)) (seen buffer : List ℕ) → Consumes start (prepend_known buffer now) seen → IsAtEnd now
    → IfSome start (λ xs. xs ≡ seen ++ buffer)
prepend_known-ended None now seen buffer p end = tt
prepend_known-ended (Some x) None seen buffer p end = absurd p
prepend_known-ended (Some x) (Some y) seen buffer p end = p ∙ ap (λ l. seen ++ (buffer ++ l)) end ∙ ap (λ l. seen ++ l) (append-nil buffer)

-- a read where none is left gives none
pub none_given_at_end : (new : Option (List ℕ)) (buffer : List ℕ) (n : ℕ) → n ≤ length buffer → Consumes (Some []) new (take n buffer) → n ≡ 0
none_given_at_end None buffer n within p = absurd p
none_given_at_end (Some y) buffer n within p =
    omega (arith, ap length p, length-append (take n buffer) y, length-take-le n buffer within)
