-- What a host holds, from before a call to after it, where it tells that.
use Rattle.std.proofs.Common.{◌≡◌, Option, Some, None, Ok}
use Rattle.fab_host.specs.Opening.{Lends, Regains, WhereTold}
use Rattle.brick.specs.Hosts.{Told, Has}

-- a thing was lent
pub lends_told : {H T : Type 0} (E : Type 0) (before after : Option H) (gives : H → T → Type 0) (lent_by : H → H) (thing : T)
    → Lends {E = E} before after gives lent_by (Ok thing) → Told before after (λ h now. gives h thing × (now ≡ lent_by h))
lends_told E None None gives lent_by thing l = tt
lends_told E None (Some now) gives lent_by thing l = absurd l
lends_told E (Some h) None gives lent_by thing l = absurd l
lends_told E (Some h) (Some now) gives lent_by thing l = l

-- and given back
pub regains_told : {H : Type 0} (before after : Option H) (kept_by : H → H) → Regains before after kept_by
    → Told before after (λ h now. now ≡ kept_by h)
regains_told None None kept_by r = tt
regains_told None (Some now) kept_by r = absurd r
regains_told (Some h) None kept_by r = absurd r
regains_told (Some h) (Some now) kept_by r = r

-- the same where it says more
pub told_more : {H : Type 0} {P Q : H → H → Type 0} (before after : Option H) → Told before after P → ((h now : H) → P h now → Q h now)
    → Told before after Q
told_more None None p more = tt
told_more None (Some now) p more = absurd p
told_more (Some h) None p more = absurd p
told_more (Some h) (Some now) p more = more h now p

-- where nothing changed
pub told_same : {H : Type 0} (P : H → H → Type 0) (held : Option H) → ((h : H) → P h h) → Told held held P
told_same P None same = tt
told_same P (Some h) same = same h

-- one after another
pub told_then : {H : Type 0} {P Q R : H → H → Type 0} (a b c : Option H) → Told a b P → Told b c Q
    → ((h mid now : H) → P h mid → Q mid now → R h now) → Told a c R
told_then None None None p q joins = tt
told_then None None (Some c) p q joins = absurd q
told_then None (Some b) c p q joins = absurd p
told_then (Some a) None c p q joins = absurd p
told_then (Some a) (Some b) None p q joins = absurd q
told_then (Some a) (Some b) (Some c) p q joins = joins a b c p q

-- what is so of what is held now, by what was held
pub has_after : {H : Type 0} {P : H → H → Type 0} {Q R : H → Type 0} (before after : Option H) → Told before after P → Has before Q
    → ((h now : H) → P h now → Q h → R now) → Has after R
has_after None after p has joins = absurd has
has_after (Some h) None p has joins = absurd p
has_after (Some h) (Some now) p has joins = joins h now p has

pub where_lent : {H : Type 0} {P : H → H → Type 0} {R : H → Type 0} (before after : Option H) → Told before after P
    → ((h now : H) → P h now → R now) → WhereTold after R
where_lent None None p joins = tt
where_lent None (Some now) p joins = absurd p
where_lent (Some h) None p joins = absurd p
where_lent (Some h) (Some now) p joins = joins h now p

pub where_after : {H : Type 0} {P : H → H → Type 0} {Q R : H → Type 0} (before after : Option H) → Told before after P → WhereTold before Q
    → ((h now : H) → P h now → Q h → R now) → WhereTold after R
where_after None None p has joins = tt
where_after None (Some now) p has joins = absurd p
where_after (Some h) None p has joins = absurd p
where_after (Some h) (Some now) p has joins = joins h now p has

-- what is so of what is held is so in weaker words
pub has_as : {H : Type 0} {P Q : H → Type 0} (held : Option H) → Has held P → ((h : H) → P h → Q h) → Has held Q
has_as None has weaker = has
has_as (Some h) has weaker = weaker h has

-- what is held can't be so and not so
pub has_apart : {H : Type 0} {P Q : H → Type 0} (held : Option H) → Has held P → WhereTold held Q → ((h : H) → P h → Q h → ⊥) → ⊥
has_apart None has told apart = has
has_apart (Some h) has told apart = apart h has told
