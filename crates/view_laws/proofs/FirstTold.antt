-- What the first packet of a list tells that tells something: it stays as the list grows.
use Rattle.std.proofs.Common.{◌≡◌, ℕ, zero, suc, List, [], ◌∷◌, ◌++◌, Option, Some, None, refl, sym, ap, ◌∙◌}
use Rattle.std.specs.Prelude.{slice_get}
use Rattle.messages.specs.declared.packets.Packet.{Packet}

-- the first of two things that are there
abbrev pub either : {A : Type 0} → Option A → Option A → Option A
either None other = other
either (Some x) other = Some x

-- what the first of these packets tells that tells something
abbrev pub first_told : {A : Type 0} → (Packet → Option A) → List Packet → Option A
first_told tells [] = None
first_told tells (packet ∷ packets) = either (tells packet) (first_told tells packets)

-- the same of three
either_assoc : {A : Type 0} (x y z : Option A) → either x (either y z) ≡ either (either x y) z
either_assoc None y z = refl
either_assoc (Some a) y z = refl

-- of two lists, what the first tells, or else what the second does
pub first_of_both : {A : Type 0} (tells : Packet → Option A) (one other : List Packet)
    → first_told tells (one ++ other) ≡ either (first_told tells one) (first_told tells other)
first_of_both tells [] other = refl
first_of_both tells (packet ∷ one) other =
    ap (either (tells packet)) (first_of_both tells one other) ∙ either_assoc (tells packet) (first_told tells one) (first_told tells other)

-- what was told first stays so
pub first_stays : {A : Type 0} (tells : Packet → Option A) (one other : List Packet) (a : A) → first_told tells one ≡ Some a
    → first_told tells (one ++ other) ≡ Some a
first_stays tells one other a is = first_of_both tells one other ∙ ap (λ x. either x (first_told tells other)) is

-- where nothing was told, the packets that follow decide
pub first_of_later : {A : Type 0} (tells : Packet → Option A) (one other : List Packet) → first_told tells one ≡ None
    → first_told tells (one ++ other) ≡ first_told tells other
first_of_later tells one other none = first_of_both tells one other ∙ ap (λ x. either x (first_told tells other)) none

-- what is told first, a packet tells
pub first_found : {A : Type 0} (tells : Packet → Option A) (packets : List Packet) (a : A) → first_told tells packets ≡ Some a
    → (k : ℕ) × (packet : Packet) × (slice_get packets k ≡ Some packet) × (tells packet ≡ Some a)
first_found tells [] a is = cc
first_found {A = A} tells (packet ∷ packets) a is = by (first_found tells packets a) (tells packet) refl is
  where
    by : (first_told tells packets ≡ Some a → (k : ℕ) × (other : Packet) × (slice_get packets k ≡ Some other) × (tells other ≡ Some a)) → (o : Option A)
        → tells packet ≡ o → either o (first_told tells packets) ≡ Some a
        → (k : ℕ) × (other : Packet) × (slice_get (packet ∷ packets) k ≡ Some other) × (tells other ≡ Some a)
    by later None none rest = let found = later rest in (suc found.0, found.1, found.2, found.3)
    by later (Some x) some same = (0, packet, refl, some ∙ same)

-- where a packet tells something, something is told first
pub first_some : {A : Type 0} (tells : Packet → Option A) (packets : List Packet) (k : ℕ) (packet : Packet) (a : A) → slice_get packets k ≡ Some packet
    → tells packet ≡ Some a → (b : A) × (first_told tells packets ≡ Some b)
first_some tells [] k packet a at told = cc
first_some {A = A} tells (first ∷ packets) k packet a at told = by (λ j at. first_some tells packets j packet a at told) (tells first) refl k at
  where
    by : ((j : ℕ) → slice_get packets j ≡ Some packet → (b : A) × (first_told tells packets ≡ Some b)) → (o : Option A) → tells first ≡ o → (j : ℕ)
        → slice_get (first ∷ packets) j ≡ Some packet → (b : A) × (either o (first_told tells packets) ≡ Some b)
    by later (Some x) some j at = (x, refl)
    by later None none zero at =
        let same : first ≡ packet = cc in
        absurd (let never : None ≡ Some a = sym none ∙ ap tells same ∙ told in cc)
    by later None none (suc j) at = later j at

-- where nothing is told first, no packet tells a thing
pub first_none : {A : Type 0} (tells : Packet → Option A) (packets : List Packet) (k : ℕ) (packet : Packet) (a : A) → first_told tells packets ≡ None
    → slice_get packets k ≡ Some packet → tells packet ≡ Some a → ⊥
first_none tells packets k packet a none at told =
    let some = first_some tells packets k packet a at told in
    let never : None ≡ Some some.0 = sym none ∙ some.1 in cc

-- where each packet that tells something tells what was told, or what these tell, nothing else is told first
pub first_alike : {A : Type 0} (tells : Packet → Option A) (packets : List Packet) (a : A)
    → ((k : ℕ) (packet : Packet) (b : A) → slice_get packets k ≡ Some packet → tells packet ≡ Some b → b ≡ a)
    → (b : A) → first_told tells packets ≡ Some b → b ≡ a
first_alike tells packets a alike b is = let found = first_found tells packets b is in alike found.0 found.1 b found.2 found.3
