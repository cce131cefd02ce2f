-- What a quorum's members find below a bound: the greatest version is at least the floor, which enough of them hold; so it is told often enough, or
-- it is above the floor, and fewer versions lie below it.
use Rattle.std.proofs.Common.{Bool, List, None, Option, Some, [], ap, arith, cond, false, inl, inr, length, map, refl, subst, suc, sym, true, ℕ, ⊎_elim, ◌+◌, ◌∷◌, ◌≡◌, ◌≤◌, ◌⊎◌}
use Rattle.std.proofs.lemmas.Bool.{cases_Bool, cond_both, false≢true, or_cases}
use Rattle.std.proofs.lemmas.Option.{same_Some}
use Rattle.std.specs.Option.{option_map}
use Rattle.std.specs.Prelude.{filter}
use Rattle.calm_laws.proofs.Asking.{each_then}
use Rattle.calm_laws.proofs.Counts.{counted_of}
use Rattle.calm_laws.proofs.Scenes.{Each, Seated}
use Rattle.fab_base.proofs.StampOrder.{stamp_below_asym, stamp_below_irrefl, stamp_below_trans, stamp_not_below_trans, stamp_same_true}
use Rattle.fab_base.specs.Stamps.{stamp_below, stamp_same}
use Rattle.fab_base.specs.declared.stamps.Stamp.{Stamp}
use Rattle.messages.specs.declared.replies.Reply.{Reply}
use Rattle.messages.specs.declared.replies.Reply.TheVariants.{OrderedRead}
use Rattle.messages.specs.declared.requests.Version.{Version}
use Rattle.protocol.specs.Coordinators.{greater_stamp, greatest_found, pieces_of}
use Rattle.protocol.specs.Replicas.{below, is_held}
use Rattle.protocol.specs.declared.phases.Counted.{Counted}

-- one of these has this
abbrev pub Has : {A : Type 0} → (A → Type 0) → List A → Type 0
Has P [] = ⊥
Has P (x ∷ xs) = P x ⊎ Has P xs

-- a stamp is at most this one
abbrev pub IsMost : Option Stamp → Stamp → Type 0
IsMost None s = ⊥
IsMost (Some v) s = stamp_below v s ≡ false

-- the greater of two is at least each
greater_left : (b : Option Stamp) (u : Stamp) → IsMost (greater_stamp (Some u) b) u
greater_left None u = stamp_below_irrefl u
greater_left (Some w) u = cond_both (stamp_below u w) (Some w) (Some u) (λ (z : Option Stamp). IsMost z u)
    (λ less. stamp_below_asym u w less) (λ not_less. stamp_below_irrefl u)

greater_right : (a b : Option Stamp) (s : Stamp) → IsMost b s → IsMost (greater_stamp a b) s
greater_right None b s most = most
greater_right (Some u) None s most = absurd most
greater_right (Some u) (Some w) s most = cond_both (stamp_below u w) (Some w) (Some u) (λ (z : Option Stamp). IsMost z s)
    (λ less. most) (λ not_less. stamp_not_below_trans s w u most not_less)

-- and is one of them
greater_one : (a b : Option Stamp) (v : Stamp) → greater_stamp a b ≡ Some v → (a ≡ Some v) ⊎ (b ≡ Some v)
greater_one None b v is = inr is
greater_one (Some u) None v is = inl is
greater_one (Some u) (Some w) v is = cond_both (stamp_below u w) (Some w) (Some u)
    (λ (z : Option Stamp). z ≡ Some v → (Some u ≡ Some v) ⊎ (Some w ≡ Some v))
    (λ less e. inr e) (λ not_less e. inl e) is

-- what each member finds, as it tells it
abbrev pub finding : (Seated → Option Version) → Seated → Reply
finding g x = OrderedRead (g x)

-- the stamp of a version that was found
abbrev pub stamp_found : Option Version → Option Stamp
stamp_found found = option_map (λ version. version.stamp) found

-- each version that is found is at most the greatest
pub greatest_most : (g : Seated → Option Version) (xs : List Seated)
    → Each (λ x. (version : Version) → g x ≡ Some version → IsMost (greatest_found (map (counted_of (finding g)) xs)) version.stamp) xs
greatest_most g [] = tt
greatest_most g (x ∷ xs) = (
  (λ version is. subst (λ (z : Option Version). IsMost (greater_stamp (stamp_found z) (greatest_found (map (counted_of (finding g)) xs))) version.stamp)
      (sym is) (greater_left (greatest_found (map (counted_of (finding g)) xs)) version.stamp)),
  each_then
      (λ (y : Seated). (version : Version) → g y ≡ Some version → IsMost (greatest_found (map (counted_of (finding g)) xs)) version.stamp)
      (λ (y : Seated). (version : Version) → g y ≡ Some version → IsMost (greatest_found (map (counted_of (finding g)) (x ∷ xs))) version.stamp) xs
      (λ y most version is. greater_right (stamp_found (g x)) (greatest_found (map (counted_of (finding g)) xs)) version.stamp (most version is))
      (greatest_most g xs),
)

-- a stamp that was found is that of a version
stamp_of_found : (found : Option Version) (v : Stamp) → stamp_found found ≡ Some v → (version : Version) × (found ≡ Some version) × (version.stamp ≡ v)
stamp_of_found None v is = cc
stamp_of_found (Some version) v is = (version, refl, same_Some version.stamp v is)

-- the greatest is found by one
pub greatest_has : (g : Seated → Option Version) (v : Stamp) (xs : List Seated) → greatest_found (map (counted_of (finding g)) xs) ≡ Some v
    → Has (λ x. (version : Version) × (g x ≡ Some version) × (version.stamp ≡ v)) xs
greatest_has g v [] is = cc
greatest_has g v (x ∷ xs) is = ⊎_elim
    (λ (here : stamp_found (g x) ≡ Some v). inl (stamp_of_found (g x) v here))
    (λ (there : greatest_found (map (counted_of (finding g)) xs) ≡ Some v). inr (greatest_has g v xs there))
    (greater_one (stamp_found (g x)) (greatest_found (map (counted_of (finding g)) xs)) v is)

-- as many replies pass a test as members that make it pass
pub filter_more : (f : Seated → Reply) (p : Seated → Bool) (q : Counted → Bool) (xs : List Seated)
    → Each (λ x. p x ≡ true → q (counted_of f x) ≡ true) xs → length (filter p xs) ≤ length (filter q (map (counted_of f) xs))
filter_more f p q [] each = omega arith
filter_more f p q (x ∷ xs) each = ⊎_elim
    (λ (is : p x ≡ true).
    let left : filter p (x ∷ xs) ≡ x ∷ filter p xs = ap (λ (b : Bool). cond b (x ∷ filter p xs) (filter p xs)) is in
    let right : filter q (map (counted_of f) (x ∷ xs)) ≡ counted_of f x ∷ filter q (map (counted_of f) xs)
    = ap (λ (b : Bool). cond b (counted_of f x ∷ filter q (map (counted_of f) xs)) (filter q (map (counted_of f) xs))) (each.0 is) in
    let rest = filter_more f p q xs each.1 in
    let left_long : length (filter p (x ∷ xs)) ≡ suc (length (filter p xs)) = ap (λ (l : List Seated). length l) left in
    let right_long : length (filter q (map (counted_of f) (x ∷ xs))) ≡ suc (length (filter q (map (counted_of f) xs)))
    = ap (λ (l : List Counted). length l) right in
    omega (arith, rest, left_long, right_long))
    (λ (isnt : p x ≡ false).
    let left : length (filter p (x ∷ xs)) ≡ length (filter p xs) = ap (λ (b : Bool). length (cond b (x ∷ filter p xs) (filter p xs))) isnt in
    let rest = filter_more f p q xs each.1 in
    let right = cond_both (q (counted_of f x)) (counted_of f x ∷ filter q (map (counted_of f) xs)) (filter q (map (counted_of f) xs))
    (λ (l : List Counted). length (filter q (map (counted_of f) xs)) ≤ length l)
    (λ is. omega arith) (λ isnt. omega arith) in
    omega (arith, rest, left, right))
    (cases_Bool (p x))

-- there is a piece for each reply
pub pieces_length : (counted : List Counted) → length (pieces_of counted) ≡ length counted
pieces_length [] = refl
pieces_length (x ∷ counted) = ap suc (pieces_length counted)

-- what some of these have
pub some_of : (p : Seated → Bool) (xs : List Seated) → 1 ≤ length (filter p xs) → Has (λ x. p x ≡ true) xs
some_of p [] some = absurd (omega arith)
some_of p (x ∷ xs) some = ⊎_elim
    (λ (is : p x ≡ true). inl is)
    (λ (isnt : p x ≡ false).
    let left : length (filter p (x ∷ xs)) ≡ length (filter p xs) = ap (λ (b : Bool). length (cond b (x ∷ filter p xs) (filter p xs))) isnt in
    inr (some_of p xs (omega (arith, left, some))))
    (cases_Bool (p x))

-- what one has, with what holds of each
pub has_each : {A : Type 0} (P Q : A → Type 0) (R : Type 0) (xs : List A) → ((x : A) → P x → Q x → R) → Has P xs → Each Q xs → R
has_each P Q R [] then has each = absurd has
has_each P Q R (x ∷ xs) then (inl here) each = then x here each.0
has_each P Q R (x ∷ xs) then (inr there) each = has_each P Q R xs then there each.1

-- how many versions of a log, and of these members' logs, are below a bound
abbrev pub total_below : (ℕ → List Version) → Stamp → List Seated → ℕ
total_below logs bound [] = 0
total_below logs bound (x ∷ xs) = length (below bound (logs x.brick.0)) + total_below logs bound xs

-- fewer are below a lower bound
below_fewer : (v bound : Stamp) (log : List Version) → stamp_below v bound ≡ true → length (below v log) ≤ length (below bound log)
below_fewer v bound [] less = omega arith
below_fewer v bound (version ∷ log) less =
    let rest = below_fewer v bound log less in
    ⊎_elim
    (λ (is : stamp_below version.stamp v ≡ true).
    let left : length (below v (version ∷ log)) ≡ suc (length (below v log))
    = ap (λ (b : Bool). length (cond b (version ∷ below v log) (below v log))) is in
    let right : length (below bound (version ∷ log)) ≡ suc (length (below bound log))
    = ap (λ (b : Bool). length (cond b (version ∷ below bound log) (below bound log))) (stamp_below_trans version.stamp v bound is less) in
    omega (arith, rest, left, right))
    (λ (isnt : stamp_below version.stamp v ≡ false).
    let left : length (below v (version ∷ log)) ≡ length (below v log)
    = ap (λ (b : Bool). length (cond b (version ∷ below v log) (below v log))) isnt in
    let right = cond_both (stamp_below version.stamp bound) (version ∷ below bound log) (below bound log)
    (λ (l : List Version). length (below bound log) ≤ length l) (λ is. omega arith) (λ isnt. omega arith) in
    omega (arith, rest, left, right))
    (cases_Bool (stamp_below version.stamp v))

-- and fewer still where the bound itself is in the log
below_falls : (v bound : Stamp) (log : List Version) → stamp_below v bound ≡ true → is_held v log ≡ true
    → length (below v log) + 1 ≤ length (below bound log)
below_falls v bound [] less held = absurd (false≢true held)
below_falls v bound (version ∷ log) less held = ⊎_elim
    (λ (here : stamp_same version.stamp v ≡ true).
    let same : version.stamp ≡ v = stamp_same_true version.stamp v here in
    let rest = below_fewer v bound log less in
    let left : length (below v (version ∷ log)) ≡ length (below v log)
    = ap (λ (b : Bool). length (cond b (version ∷ below v log) (below v log)))
    (subst (λ (z : Stamp). stamp_below z v ≡ false) (sym same) (stamp_below_irrefl v)) in
    let right : length (below bound (version ∷ log)) ≡ suc (length (below bound log))
    = ap (λ (b : Bool). length (cond b (version ∷ below bound log) (below bound log)))
    (subst (λ (z : Stamp). stamp_below z bound ≡ true) (sym same) less) in
    omega (arith, rest, left, right))
    (λ (there : is_held v log ≡ true).
    let rest = below_falls v bound log less there in
    ⊎_elim
    (λ (is : stamp_below version.stamp v ≡ true).
    let left : length (below v (version ∷ log)) ≡ suc (length (below v log))
    = ap (λ (b : Bool). length (cond b (version ∷ below v log) (below v log))) is in
    let right : length (below bound (version ∷ log)) ≡ suc (length (below bound log))
    = ap (λ (b : Bool). length (cond b (version ∷ below bound log) (below bound log))) (stamp_below_trans version.stamp v bound is less) in
    omega (arith, rest, left, right))
    (λ (isnt : stamp_below version.stamp v ≡ false).
    let left : length (below v (version ∷ log)) ≡ length (below v log)
    = ap (λ (b : Bool). length (cond b (version ∷ below v log) (below v log))) isnt in
    let right = cond_both (stamp_below version.stamp bound) (version ∷ below bound log) (below bound log)
    (λ (l : List Version). length (below bound log) ≤ length l) (λ is. omega arith) (λ isnt. omega arith) in
    omega (arith, rest, left, right))
    (cases_Bool (stamp_below version.stamp v)))
    (or_cases (stamp_same version.stamp v) (is_held v log) held)

-- so all in all
total_fewer : (logs : ℕ → List Version) (v bound : Stamp) (xs : List Seated) → stamp_below v bound ≡ true
    → total_below logs v xs ≤ total_below logs bound xs
total_fewer logs v bound [] less = omega arith
total_fewer logs v bound (x ∷ xs) less =
    let here = below_fewer v bound (logs x.brick.0) less in
    let rest = total_fewer logs v bound xs less in
    omega (arith, here, rest)

pub total_falls : (logs : ℕ → List Version) (v bound : Stamp) (xs : List Seated) → stamp_below v bound ≡ true
    → Has (λ x. is_held v (logs x.brick.0) ≡ true) xs → total_below logs v xs + 1 ≤ total_below logs bound xs
total_falls logs v bound [] less has = absurd has
total_falls logs v bound (x ∷ xs) less (inl here) =
    let one = below_falls v bound (logs x.brick.0) less here in
    let rest = total_fewer logs v bound xs less in
    omega (arith, one, rest)
total_falls logs v bound (x ∷ xs) less (inr there) =
    let one = below_fewer v bound (logs x.brick.0) less in
    let rest = total_falls logs v bound xs less there in
    omega (arith, one, rest)
