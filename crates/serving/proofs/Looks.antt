-- What looks at a link give, and what is sent between them.
use Rattle.std.proofs.Common.{◌≡◌, ℕ, zero, suc, min, List, [], ◌∷◌, ◌++◌, length, take, drop, Option, Some, None, refl, sym, ap, ◌∙◌, arith}
use Rattle.std.proofs.lemmas.List.{take_min}
use Rattle.fab_io.specs.declared.links.Datagram.{Datagram}
use Rattle.fab_io.specs.Datagrams.{Stays, Grows, Loses, HasNone, IsGiven}
use Rattle.serving.specs.Datagrams.{Looked, looks, cut, most_bytes}

-- what stays stays over more calls
pub Stays-trans : (a b c : Option (List Datagram)) → Stays a b → Stays b c → Stays a c
Stays-trans None b c p q = tt
Stays-trans (Some x) None c p q = absurd p
Stays-trans (Some x) (Some y) None p q = absurd q
Stays-trans (Some x) (Some y) (Some z) p q = q ∙ p

-- what was not sent yet is sent
pub Grows-stays : (a b c : Option (List Datagram)) (datagrams : List Datagram) → Stays a b → Grows b c datagrams → Grows a c datagrams
Grows-stays None b c datagrams p q = tt
Grows-stays (Some x) None c datagrams p q = absurd p
Grows-stays (Some x) (Some y) None datagrams p q = absurd q
Grows-stays (Some x) (Some y) (Some z) datagrams p q = q ∙ ap (λ l. l ++ datagrams) p

-- what was sent stays sent
pub Grows-quiet : (a b c : Option (List Datagram)) (datagrams : List Datagram) → Grows a b datagrams → Stays b c → Grows a c datagrams
Grows-quiet None b c datagrams p q = tt
Grows-quiet (Some x) None c datagrams p q = absurd p
Grows-quiet (Some x) (Some y) None datagrams p q = absurd q
Grows-quiet (Some x) (Some y) (Some z) datagrams p q = q ∙ p

-- of no datagrams none are left
drop-none : (n : ℕ) → drop n (let none : List Datagram = [] in none) ≡ []
drop-none zero = refl
drop-none (suc n) = refl

-- more looks give the next datagrams
looks-more : (first later : List (Option Datagram)) (waiting : List Datagram)
    → looks (length (first ++ later)) waiting ≡ looks (length first) waiting ++ looks (length later) (drop (length first) waiting)
looks-more [] later waiting = refl
looks-more (x ∷ first) later [] =
    ap (λ l. None ∷ l) (looks-more first later [] ∙ ap (λ l. looks (length first) [] ++ looks (length later) l) (drop-none (length first)))
looks-more (x ∷ first) later (datagram ∷ waiting) = ap (λ l. Some (cut datagram) ∷ l) (looks-more first later waiting)

-- and take them
drop-more : (first later : List (Option Datagram)) (waiting : List Datagram)
    → drop (length (first ++ later)) waiting ≡ drop (length later) (drop (length first) waiting)
drop-more [] later waiting = refl
drop-more (x ∷ first) later [] = sym (drop-none (length later))
drop-more (x ∷ first) later (datagram ∷ waiting) = drop-more first later waiting

-- no look
pub Looked-none : (a b : Option (List Datagram)) → Stays a b → Looked a b []
Looked-none None b stays = tt
Looked-none (Some x) None stays = absurd stays
Looked-none (Some x) (Some y) stays = (refl, stays)

-- what was looked at stays looked at
pub Looked-stays : (a b c : Option (List Datagram)) (came : List (Option Datagram)) → Looked a b came → Stays b c → Looked a c came
Looked-stays None b c came p q = tt
Looked-stays (Some x) None c came p q = absurd p
Looked-stays (Some x) (Some y) None came p q = absurd q
Looked-stays (Some x) (Some y) (Some z) came p q = (p.0, q ∙ p.1)

-- looks, and later more
pub Looked-trans : (a b c : Option (List Datagram)) (first later : List (Option Datagram)) → Looked a b first → Looked b c later
    → Looked a c (first ++ later)
Looked-trans None b c first later p q = tt
Looked-trans (Some x) None c first later p q = absurd p
Looked-trans (Some x) (Some y) None first later p q = absurd q
Looked-trans (Some x) (Some y) (Some z) first later p q = (
  ap (λ l. l ++ later) p.0
      ∙ ap (λ l. looks (length first) x ++ l) (q.0 ∙ ap (looks (length later)) p.1)
      ∙ sym (looks-more first later x),
  q.1 ∙ ap (drop (length later)) p.1 ∙ sym (drop-more first later x),
)

-- a look that found none
pub Looked-nothing : (a b : Option (List Datagram)) → HasNone a → Stays a b → Looked a b (None ∷ [])
Looked-nothing None b none stays = tt
Looked-nothing (Some x) None none stays = absurd stays
Looked-nothing (Some x) (Some y) none stays =
    (ap (looks 1) (sym none), stays ∙ none ∙ ap (drop 1) (sym none))

-- what was looked at of a datagram is its bytes as far as there is room
looked_at : (datagram : Datagram) (port n : ℕ) (buffer : List ℕ) → length buffer ≡ most_bytes → IsGiven datagram port n buffer
    → take n buffer ≡ take most_bytes datagram.bytes
looked_at datagram port n buffer room given =
    let length_is = given.length_is in
    let same : n ≡ min most_bytes (length datagram.bytes) = omega arith in
    given.bytes_are ∙ ap (λ k. take k datagram.bytes) same ∙ take_min most_bytes datagram.bytes

-- a look that found one, of which this is what was looked at
pub Looked-one : (a b : Option (List Datagram)) (datagram : Datagram) (port n : ℕ) (buffer : List ℕ) → length buffer ≡ most_bytes
    → Loses a b (datagram ∷ []) → IsGiven datagram port n buffer → Looked a b (Some (record { port = port; bytes = take n buffer }) ∷ [])
Looked-one None b datagram port n buffer room loses given = tt
Looked-one (Some x) None datagram port n buffer room loses given = absurd loses
Looked-one (Some x) (Some y) datagram port n buffer room loses given =
    let bytes = looked_at datagram port n buffer room given in
    let given_as : Datagram = record { port = port; bytes = take n buffer } in
    let same : given_as ≡ cut datagram = (λ i. record { port = given.port_is i; bytes = bytes i }) in
    (ap (λ (d : Datagram). Some d ∷ []) same ∙ ap (looks 1) (sym loses), ap (drop 1) (sym loses))
