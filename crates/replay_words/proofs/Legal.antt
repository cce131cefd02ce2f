-- What words ask for is legal.
use Rattle.std.proofs.Common.{◌≡◌, ℕ, Bool, true, false, nat_le, List, [], ◌∷◌, Option, Some, None, refl, ◌∙◌, subst, arith, codes}
use Rattle.std.specs.Prelude.{if◌then◌else◌}
use Rattle.std.specs.Option.{ForSome}
use Rattle.std.specs.Str.{bytes_eq}
use Rattle.std.proofs.lemmas.Bool.Decides.{nat_tests}
use Rattle.lines.specs.Grammar.{◌>>=◌}
use Rattle.lines.specs.Tokens.{number}
use Rattle.replay_words.specs.declared.requests.Request.{Request}
use Rattle.replay_words.specs.declared.requests.Request.TheVariants.{Run, Audit, Make}
use Rattle.replay_words.specs.Requests.{IsLegal, made_by, request_of}

-- the same request
same : (one other : Request) → IsLegal one → Some one ≡ Some other → IsLegal other
same one other legal is = subst IsLegal (let equal : one ≡ other = cc in equal) legal

-- one word
one_legal : (a b : Bool) (request : Request) → (if a then Some Run else if b then Some Audit else None) ≡ Some request → IsLegal request
one_legal true b request is = same Run request tt is
one_legal false true request is = same Audit request tt is
one_legal false false request is = absurd (cc)

-- so many lines
few_legal : (seed lines : ℕ) (b : Bool) (request : Request) → nat_le lines 1048576 ≡ b → (if b then Some (Make seed lines) else None) ≡ Some request
    → IsLegal request
few_legal seed lines true request few is = same (Make seed lines) request (grind (arith, nat_tests)) is
few_legal seed lines false request few is = absurd (cc)

made_legal : (seed lines : Option ℕ) (request : Request)
    → (seed >>= (λ s. lines >>= (λ n. if nat_le n 1048576 then Some (Make s n) else None))) ≡ Some request → IsLegal request
made_legal None lines request is = absurd (cc)
made_legal (Some s) None request is = absurd (cc)
made_legal (Some s) (Some n) request is = few_legal s n (nat_le n 1048576) request refl is

-- three words
three_legal : (b : Bool) (seed lines : List ℕ) (request : Request) → (if b then made_by seed lines else None) ≡ Some request → IsLegal request
three_legal true seed lines request is = made_legal (number seed) (number lines) request is
three_legal false seed lines request is = absurd (cc)

-- any words
pub legal_of : (words : List (List ℕ)) (request : Request) → request_of words ≡ Some request → IsLegal request
legal_of [] request is = absurd (cc)
legal_of (word ∷ []) request is = one_legal (bytes_eq word (codes "run")) (bytes_eq word (codes "audit")) request is
legal_of (word ∷ (seed ∷ [])) request is = absurd (cc)
legal_of (word ∷ (seed ∷ (lines ∷ []))) request is = three_legal (bytes_eq word (codes "make")) seed lines request is
legal_of (word ∷ (seed ∷ (lines ∷ (more ∷ words)))) request is = absurd (cc)

-- the same, of what was found to be asked for
pub legal_words : (words : List (List ℕ)) (found : Option Request) → request_of words ≡ found → ForSome found IsLegal
legal_words words found is request found_is = legal_of words request (is ∙ found_is)
