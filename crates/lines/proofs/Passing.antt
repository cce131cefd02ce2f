-- What is known of an input after some of its lines were taken.
use Rattle.std.proofs.Common.{ℕ, ◌≡◌, List, [], ◌++◌, Option, Some, None, IfSome, refl, sym, ap, ◌∙◌, append_assoc, append-nil}
use Rattle.std.specs.Io.KnownBytes.{Keeps, IsAtEnd, prepend_known}
use Rattle.lines.specs.Lines.{raw_lines}
use Rattle.lines.specs.Reading.{Passes}

-- none was taken
pub Passes-nil : (before now : Option (List ℕ)) → Keeps before now → Passes before now []
Passes-nil None now p = tt
Passes-nil (Some x) None p = absurd p
Passes-nil (Some x) (Some y) p = ap raw_lines (sym p)

-- some were taken, and then more
pub Passes-trans : (a b c : Option (List ℕ)) (lines more : List (List ℕ)) → Passes a b lines → Passes b c more → Passes a c (lines ++ more)
Passes-trans None b c lines more p q = tt
Passes-trans (Some x) None c lines more p q = absurd p
Passes-trans (Some x) (Some y) None lines more p q = absurd q
Passes-trans (Some x) (Some y) (Some z) lines more p q = p ∙ ap (λ l. lines ++ l) q ∙ sym (append_assoc lines more (raw_lines z))

-- what stays is not taken
pub Passes-kept : (a b c : Option (List ℕ)) (lines : List (List ℕ)) → Passes a b lines → Keeps b c → Passes a c lines
Passes-kept None b c lines p q = tt
Passes-kept (Some x) None c lines p q = absurd p
Passes-kept (Some x) (Some y) None lines p q = absurd q
Passes-kept (Some x) (Some y) (Some z) lines p q = p ∙ ap (λ l. lines ++ raw_lines l) (sym q)

-- where none is left, all lines were taken
pub Passes-all : (a b : Option (List ℕ)) (lines : List (List ℕ)) → Passes a b lines → IsAtEnd b → IfSome a (λ input. raw_lines input ≡ lines)
Passes-all None b lines p end = tt
Passes-all (Some x) None lines p end = absurd p
Passes-all (Some x) (Some y) lines p end = p ∙ ap (λ l. lines ++ raw_lines l) end ∙ append-nil lines

-- before the first read all is left in the source
pub none_read : (a : Option (List ℕ)) → Keeps a (prepend_known [] a)
none_read None = tt
none_read (Some x) = refl
