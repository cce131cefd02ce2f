-- What a host knows still once a thing of it was lent, and once that was given back.
use Rattle.std.proofs.Common.{◌≡◌, ℕ, List, Option, nat_eq, sym, subst}
use Rattle.std.specs.Str.{bytes_eq}
use Rattle.fab_host.specs.Held.{Held, lent, here, IsKnown}
use Rattle.fab_host.specs.Holdings.{Holdings, with_source, with_disk, with_link, with_session, with_clock}
use Rattle.fab_host.specs.Opening.{WhereTold}
use Rattle.fab_host.proofs.Known.{at_name-own, at_port-own, known_after}
use Rattle.brick.specs.Hosts.{Told, KnowsStill}
use Rattle.brick.proofs.Lending.{told_more, told_same, told_then, where_lent, where_after}

-- where nothing was lent
pub knows_same : {S D L N C : Type 0} (held : Option (Holdings S D L N C)) → Told held held KnowsStill
knows_same held = told_same KnowsStill held (λ h. record { sources = λ name k. k; disks = λ name k. k; links = λ port k. k; sessions = λ port k. k; clock = λ k. k })

-- where the same is held
pub knows_equal : {S D L N C : Type 0} (before after : Option (Holdings S D L N C)) → Told before after (λ h now. now ≡ h) → Told before after KnowsStill
knows_equal {S} {D} {L} {N} {C} before after told =
    told_more {P = λ (h now : Holdings S D L N C). now ≡ h} {Q = KnowsStill} before after told
    (λ h now is. subst (λ (z : Holdings S D L N C). KnowsStill h z) (sym is)
    (record { sources = λ name k. k; disks = λ name k. k; links = λ port k. k; sessions = λ port k. k; clock = λ k. k }))

-- under each kind of name or port
knows_source : {S D L N C : Type 0} (name : List ℕ) (h : Holdings S D L N C) (now : Held S) → IsKnown now → KnowsStill h (with_source h name now)
knows_source name h now known =
    record { sources = λ other k. known_after bytes_eq h.sources name other now known k; disks = λ n k. k; links = λ port k. k; sessions = λ port k. k; clock = λ k. k }

pub knows_disk : {S D L N C : Type 0} (name : List ℕ) (h : Holdings S D L N C) (now : Held D) → IsKnown now → KnowsStill h (with_disk h name now)
knows_disk name h now known =
    record { sources = λ n k. k; disks = λ other k. known_after bytes_eq h.disks name other now known k; links = λ port k. k; sessions = λ port k. k; clock = λ k. k }

pub knows_link : {S D L N C : Type 0} (port : ℕ) (h : Holdings S D L N C) (now : Held L) → IsKnown now → KnowsStill h (with_link h port now)
knows_link port h now known =
    record { sources = λ n k. k; disks = λ n k. k; links = λ other k. known_after nat_eq h.links port other now known k; sessions = λ other k. k; clock = λ k. k }

pub knows_clock : {S D L N C : Type 0} (h : Holdings S D L N C) (now : Held C) → IsKnown now → KnowsStill h (with_clock h now)
knows_clock h now known = record { sources = λ n k. k; disks = λ n k. k; links = λ port k. k; sessions = λ port k. k; clock = λ k. known }

knows_session : {S D L N C : Type 0} (port : ℕ) (h : Holdings S D L N C) (now : Held N) → IsKnown now → KnowsStill h (with_session h port now)
knows_session port h now known =
    record { sources = λ n k. k; disks = λ n k. k; links = λ other k. k; sessions = λ other k. known_after nat_eq h.sessions port other now known k; clock = λ k. k }

-- a thing was lent, what is known was known still, and the thing was given back
module _ {S D L N C T : Type 0} (P : Holdings S D L N C → Type 0) (with : Holdings S D L N C → Held T → Holdings S D L N C) (back : T)
    (knows : (h : Holdings S D L N C) (now : Held T) → IsKnown now → KnowsStill h (with h now)) (before began ended after : Option (Holdings S D L N C))
    (lends : Told before began (λ h now. P h × (now ≡ with h lent))) (meanwhile : Told began ended KnowsStill) where
  pub knows_then : (a b c : Holdings S D L N C) → KnowsStill a b → KnowsStill b c → KnowsStill a c
  knows_then a b c first then = record {
    sources = λ name k. then.sources name (first.sources name k);
    disks = λ name k. then.disks name (first.disks name k);
    links = λ port k. then.links port (first.links port k);
    sessions = λ port k. then.sessions port (first.sessions port k);
    clock = λ k. then.clock (first.clock k);
  }

  knows_borrowed : Told ended after (λ h now. now ≡ with h (here back)) → Told before after KnowsStill
  knows_borrowed regains =
      told_then {P = KnowsStill} {Q = KnowsStill} {R = KnowsStill} before began after
      (told_more {P = λ (h now : Holdings S D L N C). P h × (now ≡ with h lent)} {Q = KnowsStill} before began lends
      (λ h now p. subst (λ (z : Holdings S D L N C). KnowsStill h z) (sym p.1) (knows h lent tt)))
      (told_then {P = KnowsStill} {Q = KnowsStill} {R = KnowsStill} began ended after meanwhile
      (told_more {P = λ (h now : Holdings S D L N C). now ≡ with h (here back)} {Q = KnowsStill} ended after regains
      (λ h now is. subst (λ (z : Holdings S D L N C). KnowsStill h z) (sym is) (knows h (here back) tt)))
      knows_then) knows_then

  -- the thing that was lent is known
  known_lent : (at : Holdings S D L N C → Held T) → ((h : Holdings S D L N C) → IsKnown (at (with h lent)))
      → ((h now : Holdings S D L N C) → KnowsStill h now → IsKnown (at h) → IsKnown (at now)) → WhereTold ended (λ h. IsKnown (at h))
  known_lent at own keeps =
      where_after {P = KnowsStill} {Q = λ h. IsKnown (at h)} {R = λ h. IsKnown (at h)} began ended meanwhile
      (where_lent {P = λ (h now : Holdings S D L N C). P h × (now ≡ with h lent)} {R = λ h. IsKnown (at h)} before began lends
      (λ h now p. subst (λ (z : Holdings S D L N C). IsKnown (at z)) (sym p.1) (own h))) keeps

-- the same of a source, a disk, a link, a session and the clock
pub source_borrowed : {S D L N C : Type 0} (P : Holdings S D L N C → Type 0) (name : List ℕ) (back : S) (before began ended after : Option (Holdings S D L N C))
    → Told before began (λ h now. P h × (now ≡ with_source h name lent)) → Told began ended KnowsStill
    → Told ended after (λ h now. now ≡ with_source h name (here back)) → Told before after KnowsStill
source_borrowed P name back before began ended after lends meanwhile =
    knows_borrowed P (λ h. with_source h name) back (knows_source name) before began ended after lends meanwhile

pub disk_borrowed : {S D L N C : Type 0} (P : Holdings S D L N C → Type 0) (name : List ℕ) (back : D) (before began ended after : Option (Holdings S D L N C))
    → Told before began (λ h now. P h × (now ≡ with_disk h name lent)) → Told began ended KnowsStill
    → Told ended after (λ h now. now ≡ with_disk h name (here back)) → Told before after KnowsStill
disk_borrowed P name back before began ended after lends meanwhile =
    knows_borrowed P (λ h. with_disk h name) back (knows_disk name) before began ended after lends meanwhile

pub link_borrowed : {S D L N C : Type 0} (P : Holdings S D L N C → Type 0) (port : ℕ) (back : L) (before began ended after : Option (Holdings S D L N C))
    → Told before began (λ h now. P h × (now ≡ with_link h port lent)) → Told began ended KnowsStill
    → Told ended after (λ h now. now ≡ with_link h port (here back)) → Told before after KnowsStill
link_borrowed P port back before began ended after lends meanwhile =
    knows_borrowed P (λ h. with_link h port) back (knows_link port) before began ended after lends meanwhile

pub session_borrowed : {S D L N C : Type 0} (P : Holdings S D L N C → Type 0) (port : ℕ) (back : N) (before began ended after : Option (Holdings S D L N C))
    → Told before began (λ h now. P h × (now ≡ with_session h port lent)) → Told began ended KnowsStill
    → Told ended after (λ h now. now ≡ with_session h port (here back)) → Told before after KnowsStill
session_borrowed P port back before began ended after lends meanwhile =
    knows_borrowed P (λ h. with_session h port) back (knows_session port) before began ended after lends meanwhile

pub clock_borrowed : {S D L N C : Type 0} (P : Holdings S D L N C → Type 0) (back : C) (before began ended after : Option (Holdings S D L N C))
    → Told before began (λ h now. P h × (now ≡ with_clock h lent)) → Told began ended KnowsStill
    → Told ended after (λ h now. now ≡ with_clock h (here back)) → Told before after KnowsStill
clock_borrowed P back before began ended after lends meanwhile =
    knows_borrowed P with_clock back knows_clock before began ended after lends meanwhile

pub source_known : {S D L N C : Type 0} (P : Holdings S D L N C → Type 0) (name : List ℕ) (before began : Option (Holdings S D L N C))
    → Told before began (λ h now. P h × (now ≡ with_source h name lent)) → WhereTold began (λ h. IsKnown (h.sources name))
source_known {S} {D} {L} {N} {C} P name before began lends =
    where_lent {P = λ (h now : Holdings S D L N C). P h × (now ≡ with_source h name lent)} {R = λ h. IsKnown (h.sources name)} before began lends
    (λ h now p. subst (λ (z : Holdings S D L N C). IsKnown (z.sources name)) (sym p.1) (subst IsKnown (sym (at_name-own h.sources name lent)) tt))

pub session_known : {S D L N C : Type 0} (P : Holdings S D L N C → Type 0) (port : ℕ) (before began : Option (Holdings S D L N C))
    → Told before began (λ h now. P h × (now ≡ with_session h port lent)) → WhereTold began (λ h. IsKnown (h.sessions port))
session_known {S} {D} {L} {N} {C} P port before began lends =
    where_lent {P = λ (h now : Holdings S D L N C). P h × (now ≡ with_session h port lent)} {R = λ h. IsKnown (h.sessions port)} before began lends
    (λ h now p. subst (λ (z : Holdings S D L N C). IsKnown (z.sessions port)) (sym p.1) (subst IsKnown (sym (at_port-own h.sessions port lent)) tt))

pub disk_lent : {S D L N C : Type 0} (P : Holdings S D L N C → Type 0) (name : List ℕ) (back : D) (before began ended : Option (Holdings S D L N C))
    → Told before began (λ h now. P h × (now ≡ with_disk h name lent)) → Told began ended KnowsStill → WhereTold ended (λ h. IsKnown (h.disks name))
disk_lent P name back before began ended lends meanwhile =
    known_lent P (λ h. with_disk h name) back (knows_disk name) before began ended ended lends meanwhile (λ h. h.disks name)
    (λ h. subst IsKnown (sym (at_name-own h.disks name lent)) tt) (λ h now k. k.disks name)

pub link_lent : {S D L N C : Type 0} (P : Holdings S D L N C → Type 0) (port : ℕ) (back : L) (before began ended : Option (Holdings S D L N C))
    → Told before began (λ h now. P h × (now ≡ with_link h port lent)) → Told began ended KnowsStill → WhereTold ended (λ h. IsKnown (h.links port))
link_lent P port back before began ended lends meanwhile =
    known_lent P (λ h. with_link h port) back (knows_link port) before began ended ended lends meanwhile (λ h. h.links port)
    (λ h. subst IsKnown (sym (at_port-own h.links port lent)) tt) (λ h now k. k.links port)

pub clock_lent : {S D L N C : Type 0} (P : Holdings S D L N C → Type 0) (back : C) (before began ended : Option (Holdings S D L N C))
    → Told before began (λ h now. P h × (now ≡ with_clock h lent)) → Told began ended KnowsStill → WhereTold ended (λ h. IsKnown h.clock)
clock_lent P back before began ended lends meanwhile =
    known_lent P with_clock back knows_clock before began ended ended lends meanwhile (λ h. h.clock) (λ h. tt) (λ h now k. k.clock)
