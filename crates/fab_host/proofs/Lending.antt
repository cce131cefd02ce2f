-- What lending and taking back do to what a host in memory holds.
use Rattle.std.proofs.Common.{◌≡◌, ℕ, ◌≤◌, Bool, cond, arith, inl, inr, Option, None, Result, Ok, Err, OnOk, OnErr, ap, sym, ◌∙◌, subst, refl}
use Rattle.std.proofs.lemmas.Bool.{cases_Bool}
use Rattle.fab_io.specs.Ends.{Rose}
use Rattle.fab_base.proofs.Keeping.{Rose-later}
use Rattle.fab_host.specs.Held.{Held, lent, here, at_key, AllHere}
use Rattle.fab_host.specs.Slots.{held_in}
use Rattle.fab_host.specs.Opening.{OpeningKept}

-- what is lent is not here
lent_is_not_here : {T : Type 0} (thing : T) → lent ≡ here thing → ⊥
lent_is_not_here thing e = cc

-- where a thing was lent, each that is left has P
pub AllHere-lent : {K T : Type 0} (same : K → K → Bool) (P : T → Type 0) (f g : K → Held T) (key : K) → g ≡ at_key same f key lent → AllHere P f → AllHere P g
AllHere-lent {K} {T} same P f g key e all =
    subst (AllHere P) (sym e) (λ other thing is.
    elim (cases_Bool (same key other)) [
      | inl hit ↦ absurd (lent_is_not_here thing (let l : cond (same key other) lent (f other) ≡ lent = rw hit refl in sym l ∙ is))
      | inr miss ↦ all other thing (let l : cond (same key other) lent (f other) ≡ f other = rw miss refl in sym l ∙ is)
    ])

-- what is here is one thing
here-injective : {T : Type 0} (a b : T) → here a ≡ here b → a ≡ b
here-injective a b e = cc

-- where one was taken back that has P
pub AllHere-here : {K T : Type 0} (same : K → K → Bool) (P : T → Type 0) (f g : K → Held T) (key : K) (x : T) → g ≡ at_key same f key (here x) → P x → AllHere P f
    → AllHere P g
AllHere-here {K} {T} same P f g key x e has all =
    subst (AllHere P) (sym e) (λ other thing is.
    elim (cases_Bool (same key other)) [
      | inl hit ↦ subst P (here-injective x thing (let l : cond (same key other) (here x) (f other) ≡ here x = rw hit refl in sym l ∙ is)) has
      | inr miss ↦ all other thing (let l : cond (same key other) (here x) (f other) ≡ f other = rw miss refl in sym l ∙ is)
    ])

-- an opening that did not fail
pub kept_lent : {before now : ℕ} {sound sound_after failed wrong : Type 0} → before ≤ now → (sound → sound_after) → (failed → ⊥)
    → OpeningKept before now sound sound_after failed wrong
kept_lent later stays calm =
    record { later = later; rose = λ f. absurd (calm f); stays = stays; only = λ s f. absurd (calm f) }

-- one that failed, for a cause
pub kept_refused : {before mid now : ℕ} {sound sound_after failed wrong : Type 0} → before ≤ mid → mid ≤ now → Rose mid now → (sound → sound_after) → wrong
    → OpeningKept before now sound sound_after failed wrong
kept_refused first then rose stays cause =
    record { later = omega (arith, first, then); rose = λ f. Rose-later first rose; stays = stays; only = λ s f. cause }

-- an empty place holds nothing
pub missing_lent : {T : Type 0} (place : Option T) (x : T) → place ≡ None → held_in place ≡ here x → ⊥
missing_lent {T} place x gone is = lent_is_not_here x (ap (λ (p : Option T). held_in p) (sym gone) ∙ is)

-- what follows at `Ok`
pub OnOk-with : {T E : Type 0} {A B : Type 0} (r : Result T E) → (A → B) → OnOk r A → OnOk r B
OnOk-with (Ok x) f a = f a
OnOk-with (Err e) f a = a

-- the same at `Err`
pub OnErr-with : {T E : Type 0} {A B : Type 0} (r : Result T E) → (A → B) → OnErr r A → OnErr r B
OnErr-with (Ok x) f a = a
OnErr-with (Err e) f a = f a
