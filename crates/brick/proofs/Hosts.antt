-- What a host holds after a thing was opened and given back.
use Rattle.std.proofs.Common.{◌≡◌, ℕ, false, List, Option, Some, None, Ok, refl, ap, ◌∙◌}
use Rattle.std.specs.Str.{bytes_eq}
use Rattle.fab_host.specs.Held.{Held, lent, here, at_name}
use Rattle.fab_host.specs.Holdings.{Holdings, with_source, with_disk, IsFree}
use Rattle.fab_host.specs.Opening.{Lends, Regains}
use Rattle.fab_host.proofs.Known.{at_name-own}
use Rattle.brick.specs.Hosts.{Told, ReturnsSource, ReturnsFresh}

-- under another name all stays
stays : {T : Type 0} (held : List ℕ → Held T) (name other : List ℕ) (now : Held T) → bytes_eq name other ≡ false → at_name held name now other ≡ held other
stays held name other now miss = rw miss refl

-- a source was lent, and is here again
pub source_returned : {S D L N C : Type 0} (E : Type 0) (before between after : Option (Holdings S D L N C)) (name : List ℕ) (opened back : S)
    → Lends {E = E} before between (λ h source. h.sources name ≡ here source) (λ h. with_source h name lent) (Ok opened)
    → Regains between after (λ h. with_source h name (here back)) → Told before after (ReturnsSource name opened back)
source_returned E None None None name opened back lends regains = tt
source_returned E None None (Some n) name opened back lends regains = absurd regains
source_returned E None (Some m) after name opened back lends regains = absurd lends
source_returned E (Some h) None after name opened back lends regains = absurd lends
source_returned E (Some h) (Some m) None name opened back lends regains = absurd regains
source_returned E (Some h) (Some m) (Some n) name opened back (was, is) now = record {
  was = was;
  is = ap (λ z. z.sources name) now ∙ at_name-own m.sources name (here back);
  others = λ other miss. ap (λ z. z.sources other) now ∙ stays m.sources name other (here back) miss
      ∙ (ap (λ z. z.sources other) is ∙ stays h.sources name other lent miss);
  disks = ap (λ z. z.disks) now ∙ ap (λ z. z.disks) is;
  links = ap (λ z. z.links) now ∙ ap (λ z. z.links) is;
  sessions = ap (λ z. z.sessions) now ∙ ap (λ z. z.sessions) is;
  clock = ap (λ z. z.clock) now ∙ ap (λ z. z.clock) is;
}

-- a fresh disk was made, and is here
pub fresh_returned : {S D L N C : Type 0} (E : Type 0) (before between after : Option (Holdings S D L N C)) (name : List ℕ) (opened back : D)
    → Lends {E = E} before between (λ h disk. IsFree h name) (λ h. with_disk h name lent) (Ok opened)
    → Regains between after (λ h. with_disk h name (here back)) → Told before after (ReturnsFresh name back)
fresh_returned E None None None name opened back lends regains = tt
fresh_returned E None None (Some n) name opened back lends regains = absurd regains
fresh_returned E None (Some m) after name opened back lends regains = absurd lends
fresh_returned E (Some h) None after name opened back lends regains = absurd lends
fresh_returned E (Some h) (Some m) None name opened back lends regains = absurd regains
fresh_returned E (Some h) (Some m) (Some n) name opened back (free, is) now = record {
  was_free = free;
  is = ap (λ z. z.disks name) now ∙ at_name-own m.disks name (here back);
  others = λ other miss. ap (λ z. z.disks other) now ∙ stays m.disks name other (here back) miss
      ∙ (ap (λ z. z.disks other) is ∙ stays h.disks name other lent miss);
  sources = ap (λ z. z.sources) now ∙ ap (λ z. z.sources) is;
  links = ap (λ z. z.links) now ∙ ap (λ z. z.links) is;
  sessions = ap (λ z. z.sessions) now ∙ ap (λ z. z.sessions) is;
  clock = ap (λ z. z.clock) now ∙ ap (λ z. z.clock) is;
}
