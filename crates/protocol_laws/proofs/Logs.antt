-- Logs ascend: no version is below one that stands before it. So the last version below a bound is the greatest one there.
use Rattle.std.proofs.Common.{◌≡◌, ℕ, zero, suc, ◌⊎◌, inl, inr, true, false, List, [], ◌∷◌, ◌++◌, Option, Some, None, refl, sym, ◌∙◌, subst, ⊎_elim, ap, not}
use Rattle.std.specs.Prelude.{slice_get, Bool, filter}
use Rattle.std.proofs.lemmas.Bool.{cond_both, cases_Bool, false≢true, or_cases, or_left, or_right, not-true, not_from_false}
use Rattle.fab_base.specs.declared.stamps.Stamp.{Stamp}
use Rattle.fab_base.specs.Stamps.{stamp_below, stamp_same}
use Rattle.fab_base.proofs.StampOrder.{stamp_below_irrefl, stamp_not_below_trans, stamp_same_refl, stamp_same_true, stamp_neither_below}
use Rattle.messages.specs.declared.requests.Version.{Version}
use Rattle.protocol.specs.Replicas.{newest_of, is_held}

-- no version that is held is below t
abbrev pub NoneBelow : Stamp → List Version → Type 0
NoneBelow t log = (d : Stamp) → is_held d log ≡ true → stamp_below d t ≡ false

-- no version is below one before it
abbrev pub LogAscends : List Version → Type 0
LogAscends [] = Unit {0}
LogAscends (version ∷ log) = NoneBelow version.stamp log × LogAscends log

-- d is at most the version that was found
abbrev pub IsWithin : Option Version → Stamp → Type 0
IsWithin None d = ⊥
IsWithin (Some version) d = stamp_below version.stamp d ≡ false

-- what is below a stamp is below one at or above that
pub below_above : (d a b : Stamp) → stamp_below d a ≡ true → stamp_below b a ≡ false → stamp_below d b ≡ true
below_above d a b less above = ⊎_elim
    (λ (is : stamp_below d b ≡ true). is)
    (λ (isnt : stamp_below d b ≡ false). absurd (false≢true (sym (stamp_not_below_trans a b d above isnt) ∙ less)))
    (cases_Bool (stamp_below d b))

-- what is held in a longer log was held, or is what stands before it
held_cases : (d : Stamp) (x : Version) (log : List Version) → is_held d (x ∷ log) ≡ true → (x.stamp ≡ d) ⊎ (is_held d log ≡ true)
held_cases d x log held = ⊎_elim
    (λ (here : stamp_same x.stamp d ≡ true). inl (stamp_same_true x.stamp d here))
    (λ (there : is_held d log ≡ true). inr there)
    (or_cases (stamp_same x.stamp d) (is_held d log) held)

held_here : (x : Version) (log : List Version) → is_held x.stamp (x ∷ log) ≡ true
held_here x log = or_left (stamp_same x.stamp x.stamp) (is_held x.stamp log) (stamp_same_refl x.stamp)

-- a version that is held stands in the log
pub held_stands : (t : Stamp) (log : List Version) → is_held t log ≡ true
    → (k : ℕ) × (version : Version) × (slice_get log k ≡ Some version) × (version.stamp ≡ t)
held_stands t [] held = absurd (false≢true held)
held_stands t (x ∷ log) held = ⊎_elim
    (λ (here : x.stamp ≡ t). (0, x, refl, here))
    (λ (there : is_held t log ≡ true). let rest = held_stands t log there in (suc rest.0, rest.1, rest.2, rest.3))
    (held_cases t x log held)

-- the last version stands in the log
pub newest_stands : (log : List Version) (version : Version) → newest_of log ≡ Some version → (k : ℕ) × (slice_get log k ≡ Some version)
newest_stands [] version is = cc
newest_stands (x ∷ []) version is = (0, is)
newest_stands (x ∷ (y ∷ log)) version is = let rest = newest_stands (y ∷ log) version is in (suc rest.0, rest.1)

-- the last version is held
pub newest_held : (log : List Version) (version : Version) → newest_of log ≡ Some version → is_held version.stamp log ≡ true
newest_held [] version is = cc
newest_held (x ∷ []) version is = let same : x ≡ version = cc in subst (λ (z : Version). is_held z.stamp (x ∷ []) ≡ true) same (held_here x [])
newest_held (x ∷ (y ∷ log)) version is =
    or_right (stamp_same x.stamp version.stamp) (is_held version.stamp (y ∷ log)) (newest_held (y ∷ log) version is)

-- what stands in a log is held in it
pub place_held : (log : List Version) (k : ℕ) (version : Version) → slice_get log k ≡ Some version → is_held version.stamp log ≡ true
place_held [] k version at = cc
place_held (x ∷ log) zero version at =
    let same : x ≡ version = cc in subst (λ (z : Version). is_held z.stamp (x ∷ log) ≡ true) same (held_here x log)
place_held (x ∷ log) (suc k) version at = or_right (stamp_same x.stamp version.stamp) (is_held version.stamp log) (place_held log k version at)

-- the versions of a log whose stamps pass a test
abbrev pub among : (Stamp → Bool) → List Version → List Version
among p log = filter (λ version. p version.stamp) log

-- what is among these is held in the log
pub among_held : (p : Stamp → Bool) (d : Stamp) (log : List Version) → is_held d (among p log) ≡ true → is_held d log ≡ true
among_held p d [] held = held
among_held p d (x ∷ log) held =
    cond_both (p x.stamp) (x ∷ among p log) (among p log) (λ (l : List Version). is_held d l ≡ true
    → is_held d (x ∷ log) ≡ true)
    (λ is h. ⊎_elim
    (λ (here : x.stamp ≡ d). subst (λ (z : Stamp). is_held z (x ∷ log) ≡ true) here (held_here x log))
    (λ (there : is_held d (among p log) ≡ true). or_right (stamp_same x.stamp d) (is_held d log) (among_held p d log there))
    (held_cases d x (among p log) h))
    (λ isnt h. or_right (stamp_same x.stamp d) (is_held d log) (among_held p d log h))
    held

-- the place in a longer list
place_next : (x version : Version) (log more : List Version)
    → ((k : ℕ) → slice_get more k ≡ Some version → (j : ℕ) × (slice_get log j ≡ Some version))
    → (k : ℕ) → slice_get (x ∷ more) k ≡ Some version → (j : ℕ) × (slice_get (x ∷ log) j ≡ Some version)
place_next x version log more old zero at = (zero, at)
place_next x version log more old (suc k) at = let rest = old k at in (suc rest.0, rest.1)

pub among_stands : (p : Stamp → Bool) (log : List Version) (version : Version) (k : ℕ) → slice_get (among p log) k ≡ Some version
    → (j : ℕ) × (slice_get log j ≡ Some version)
among_stands p [] version k is = (k, is)
among_stands p (x ∷ log) version k is =
    cond_both (p x.stamp) (x ∷ among p log) (among p log)
    (λ (l : List Version). slice_get l k ≡ Some version → (j : ℕ) × (slice_get (x ∷ log) j ≡ Some version))
    (λ less at. place_next x version log (among p log) (among_stands p log version) k at)
    (λ not_less at. let rest = among_stands p log version k at in (suc rest.0, rest.1))
    is

-- the last of these stands in the log
pub newest_stands_among : (p : Stamp → Bool) (log : List Version) (version : Version) → newest_of (among p log) ≡ Some version
    → (k : ℕ) × (slice_get log k ≡ Some version)
newest_stands_among p log version is =
    let at = newest_stands (among p log) version is in among_stands p log version at.0 at.1

-- the last version of a log, where something stands before it that is at most it
newest_after : (x : Version) (log : List Version) (d : Stamp) → IsWithin (newest_of log) d → IsWithin (newest_of (x ∷ log)) d
newest_after x [] d within = absurd within
newest_after x (y ∷ log) d within = within

-- the first version is at most the last one
newest_first : (x : Version) (log : List Version) → NoneBelow x.stamp log → IsWithin (newest_of (x ∷ log)) x.stamp
newest_first x [] least = stamp_below_irrefl x.stamp
newest_first x (y ∷ log) least = within (newest_of (y ∷ log)) refl
  where
    within : (z : Option Version) → newest_of (y ∷ log) ≡ z → IsWithin z x.stamp
    within None is = absurd (never log y is)
      where
        never : (l : List Version) (v : Version) → newest_of (v ∷ l) ≡ None → ⊥
        never [] v none = cc
        never (u ∷ l) v none = never l u none
    within (Some version) is = least version.stamp (newest_held (y ∷ log) version is)

-- each of these is at most the last one
pub newest_among : (p : Stamp → Bool) (d : Stamp) (log : List Version) → LogAscends log → is_held d log ≡ true → p d ≡ true
    → IsWithin (newest_of (among p log)) d
newest_among p d [] ascends held less = absurd (false≢true held)
newest_among p d (x ∷ log) ascends held less =
    cond_both (p x.stamp) (x ∷ among p log) (among p log) (λ (l : List Version). IsWithin (newest_of l) d)
    (λ is. ⊎_elim
    (λ (here : x.stamp ≡ d). subst (λ (z : Stamp). IsWithin (newest_of (x ∷ among p log)) z) here
    (newest_first x (among p log) (λ e h. ascends.0 e (among_held p e log h))))
    (λ (there : is_held d log ≡ true). newest_after x (among p log) d (newest_among p d log ascends.1 there less))
    (held_cases d x log held))
    (λ isnt. ⊎_elim
    (λ (here : x.stamp ≡ d). absurd (false≢true (sym isnt ∙ subst (λ (z : Stamp). p z ≡ true) (sym here) less)))
    (λ (there : is_held d log ≡ true). newest_among p d log ascends.1 there less)
    (held_cases d x log held))

-- each version is at most the last one
pub newest_greatest : (d : Stamp) (log : List Version) → LogAscends log → is_held d log ≡ true → IsWithin (newest_of log) d
newest_greatest d [] ascends held = absurd (false≢true held)
newest_greatest d (x ∷ log) ascends held = ⊎_elim
    (λ (here : x.stamp ≡ d). subst (λ (z : Stamp). IsWithin (newest_of (x ∷ log)) z) here (newest_first x log ascends.0))
    (λ (there : is_held d log ≡ true). newest_after x log d (newest_greatest d log ascends.1 there))
    (held_cases d x log held)

-- a version is held in a log that grew by one, where it was, or is that one
pub held_more : (d : Stamp) (log : List Version) (x : Version) → is_held d (log ++ (x ∷ [])) ≡ true → (is_held d log ≡ true) ⊎ (x.stamp ≡ d)
held_more d [] x held = ⊎_elim
    (λ (here : x.stamp ≡ d). inr here)
    (λ (there : is_held d [] ≡ true). inl there)
    (held_cases d x [] held)
held_more d (y ∷ log) x held = ⊎_elim
    (λ (here : y.stamp ≡ d). inl (subst (λ (z : Stamp). is_held z (y ∷ log) ≡ true) here (held_here y log)))
    (λ (there : is_held d (log ++ (x ∷ [])) ≡ true). ⊎_elim
    (λ (old : is_held d log ≡ true). inl (or_right (stamp_same y.stamp d) (is_held d log) old))
    (λ (new : x.stamp ≡ d). inr new)
    (held_more d log x there))
    (held_cases d y (log ++ (x ∷ [])) held)

-- a log ascends with one more version, where each that it holds is at most that
pub ascends_more : (log : List Version) (x : Version) → LogAscends log → ((d : Stamp) → is_held d log ≡ true → stamp_below x.stamp d ≡ false)
    → LogAscends (log ++ (x ∷ []))
ascends_more [] x ascends most = ((λ d held. absurd (false≢true held)), tt)
ascends_more (y ∷ log) x ascends most = (
  (λ d held. ⊎_elim
      (λ (old : is_held d log ≡ true). ascends.0 d old)
      (λ (new : x.stamp ≡ d). subst (λ (z : Stamp). stamp_below z y.stamp ≡ false) new (most y.stamp (held_here y log)))
      (held_more d log x held)),
  ascends_more log x ascends.1 (λ d held. most d (or_right (stamp_same y.stamp d) (is_held d log) held)),
)

-- what is held in a log, and passes, is among those that pass
pub held_among : (p : Stamp → Bool) (d : Stamp) (log : List Version) → p d ≡ true → is_held d log ≡ true → is_held d (among p log) ≡ true
held_among p d [] passes held = held
held_among p d (x ∷ log) passes held =
    cond_both (p x.stamp) (x ∷ among p log) (among p log) (λ (l : List Version). is_held d l ≡ true)
    (λ is. ⊎_elim
    (λ (here : x.stamp ≡ d). subst (λ (z : Stamp). is_held z (x ∷ among p log) ≡ true) here (held_here x (among p log)))
    (λ (there : is_held d log ≡ true). or_right (stamp_same x.stamp d) (is_held d (among p log)) (held_among p d log passes there))
    (held_cases d x log held))
    (λ isnt. ⊎_elim
    (λ (here : x.stamp ≡ d). absurd (false≢true (sym isnt ∙ subst (λ (z : Stamp). p z ≡ true) (sym here) passes)))
    (λ (there : is_held d log ≡ true). held_among p d log passes there)
    (held_cases d x log held))

-- each of these passes
among_passes : (p : Stamp → Bool) (d : Stamp) (log : List Version) → is_held d (among p log) ≡ true → p d ≡ true
among_passes p d [] held = absurd (false≢true held)
among_passes p d (x ∷ log) held =
    cond_both (p x.stamp) (x ∷ among p log) (among p log) (λ (l : List Version). is_held d l ≡ true → p d ≡ true)
    (λ is h. ⊎_elim
    (λ (here : x.stamp ≡ d). subst (λ (z : Stamp). p z ≡ true) here is)
    (λ (there : is_held d (among p log) ≡ true). among_passes p d log there)
    (held_cases d x (among p log) h))
    (λ isnt h. among_passes p d log h)
    held

-- they ascend too
pub among_ascends : (p : Stamp → Bool) (log : List Version) → LogAscends log → LogAscends (among p log)
among_ascends p [] ascends = ascends
among_ascends p (x ∷ log) ascends =
    cond_both (p x.stamp) (x ∷ among p log) (among p log) (λ (l : List Version). LogAscends l)
    (λ is. ((λ d held. ascends.0 d (among_held p d log held)), among_ascends p log ascends.1))
    (λ isnt. among_ascends p log ascends.1)

-- where all pass, they are the log
among_all : (p : Stamp → Bool) (log : List Version) → ((d : Stamp) → is_held d log ≡ true → p d ≡ true) → among p log ≡ log
among_all p [] all = refl
among_all p (x ∷ log) all =
    let rest : among p log ≡ log = among_all p log (λ d held. all d (or_right (stamp_same x.stamp d) (is_held d log) held)) in
    cond_both (p x.stamp) (x ∷ among p log) (among p log) (λ (l : List Version). l ≡ x ∷ log)
    (λ is. ap (λ (l : List Version). x ∷ l) rest)
    (λ isnt. absurd (false≢true (sym isnt ∙ all x.stamp (held_here x log))))

-- a stamp is not below c
abbrev pub at_least : Stamp → Stamp → Bool
at_least c t = not (stamp_below t c)

-- a log with something before it has the last version that it had
newest_over : (x : Version) (log : List Version) (version : Version) → newest_of log ≡ Some version → newest_of (x ∷ log) ≡ Some version
newest_over x [] version is = cc
newest_over x (y ∷ log) version is = is

newest_there : (x : Version) (log : List Version) → (version : Version) × (newest_of (x ∷ log) ≡ Some version)
newest_there x [] = (x, refl)
newest_there x (y ∷ log) = newest_there y log

-- once what is below a version that is held was dropped, the last version is as before
pub newest_kept : (c : Stamp) (log : List Version) → LogAscends log → is_held c log ≡ true → newest_of (among (at_least c) log) ≡ newest_of log
newest_kept c [] ascends held = absurd (false≢true held)
newest_kept c (x ∷ log) ascends held = ⊎_elim
    (λ (here : x.stamp ≡ c). ap newest_of (among_all (at_least c) (x ∷ log) (λ d h. not_from_false (stamp_below d c)
    (subst (λ (z : Stamp). stamp_below d z ≡ false) here (⊎_elim
    (λ (own : x.stamp ≡ d). subst (λ (z : Stamp). stamp_below z x.stamp ≡ false) own (stamp_below_irrefl x.stamp))
    (λ (there : is_held d log ≡ true). ascends.0 d there)
    (held_cases d x log h))))))
    (λ (there : is_held c log ≡ true). over log (newest_kept c log ascends.1 there) there)
    (held_cases c x log held)
  where
    over : (rest : List Version) → newest_of (among (at_least c) rest) ≡ newest_of rest → is_held c rest ≡ true
        → newest_of (among (at_least c) (x ∷ rest)) ≡ newest_of (x ∷ rest)
    over [] same there = absurd (false≢true there)
    over (y ∷ rest) same there =
        let last = newest_there y rest in
        cond_both (at_least c x.stamp) (x ∷ among (at_least c) (y ∷ rest)) (among (at_least c) (y ∷ rest))
        (λ (l : List Version). newest_of l ≡ newest_of (y ∷ rest))
        (λ is. newest_over x (among (at_least c) (y ∷ rest)) last.0 (same ∙ last.1) ∙ sym last.1)
        (λ isnt. same)

-- d is below all that a log has
abbrev pub IsUnder : Stamp → List Version → Type 0
IsUnder d [] = ⊥
IsUnder d (x ∷ log) = stamp_below d x.stamp ≡ true

-- d is in a log, or was dropped from below all that it has
abbrev pub IsKept : Stamp → List Version → Type 0
IsKept d log = (is_held d log ≡ true) ⊎ IsUnder d log

-- an empty log keeps nothing
pub nothing_kept : (d : Stamp) → IsKept d [] → ⊥
nothing_kept d (inl held) = false≢true held
nothing_kept d (inr under) = under

-- what is below a stamp is below a log that has nothing lower
under_least : (d c : Stamp) (log : List Version) → stamp_below d c ≡ true → is_held c log ≡ true
    → ((e : Stamp) → is_held e log ≡ true → at_least c e ≡ true) → IsUnder d log
under_least d c [] less held least = absurd (false≢true held)
under_least d c (x ∷ log) less held least = below_above d c x.stamp less (not-true (stamp_below x.stamp c) (least x.stamp (held_here x log)))

-- what is below a log is below each version in it
pub under_held : (d c : Stamp) (log : List Version) → LogAscends log → IsUnder d log → is_held c log ≡ true → stamp_below d c ≡ true
under_held d c [] ascends under held = absurd under
under_held d c (x ∷ log) ascends under held = ⊎_elim
    (λ (here : x.stamp ≡ c). subst (λ (z : Stamp). stamp_below d z ≡ true) here under)
    (λ (there : is_held c log ≡ true). below_above d x.stamp c under (ascends.0 c there))
    (held_cases c x log held)

-- a log that drops what is below a version that it has keeps what it kept
pub kept_from : (c d : Stamp) (log : List Version) → LogAscends log → is_held c log ≡ true → IsKept d log → IsKept d (among (at_least c) log)
kept_from c d log ascends held kept = ⊎_elim
    (λ (less : stamp_below d c ≡ true). inr (under_least d c (among (at_least c) log) less own (λ e h. among_passes (at_least c) e log h)))
    (λ (least : stamp_below d c ≡ false). ⊎_elim
    (λ (there : is_held d log ≡ true). inl (held_among (at_least c) d log (not_from_false (stamp_below d c) least) there))
    (λ (under : IsUnder d log). absurd (false≢true (sym least ∙ under_held d c log ascends under held)))
    kept)
    (cases_Bool (stamp_below d c))
  where
    own : is_held c (among (at_least c) log) ≡ true
    own = held_among (at_least c) c log (not_from_false (stamp_below c c) (stamp_below_irrefl c)) held

-- its lowest version is that one then
pub lowest_from : (c : Stamp) (log : List Version) (x : Version) (rest : List Version) → LogAscends log → is_held c log ≡ true
    → among (at_least c) log ≡ x ∷ rest → x.stamp ≡ c
lowest_from c log x rest ascends held is =
    let there : is_held c (x ∷ rest) ≡ true = subst (λ (l : List Version). is_held c l ≡ true) is
    (held_among (at_least c) c log (not_from_false (stamp_below c c) (stamp_below_irrefl c)) held) in
    let passes : at_least c x.stamp ≡ true = among_passes (at_least c) x.stamp log
    (subst (λ (l : List Version). is_held x.stamp l ≡ true) (sym is) (held_here x rest)) in
    let rises : LogAscends (x ∷ rest) = subst (λ (l : List Version). LogAscends l) is (among_ascends (at_least c) log ascends) in
    ⊎_elim
    (λ (here : x.stamp ≡ c). here)
    (λ (later : is_held c rest ≡ true). stamp_neither_below x.stamp c (not-true (stamp_below x.stamp c) passes) (rises.0 c later))
    (held_cases c x rest there)
