-- Replacing seat by seat.
use Rattle.std.proofs.Common.{◌≡◌, ℕ, ◌+◌, ◌<◌, ◌≤◌, Bool, true, false, cond, List, [], ◌∷◌, ◌++◌, length, get_or, set, take, drop, refl, sym, ap, ◌∙◌, append_assoc, arith}
use Rattle.std.proofs.lemmas.List.{take-append-drop, take_more_set, drop-set-lt, set-get_or, at_drop_more, at_drop_all}
use Rattle.fab_base.specs.declared.identities.BrickId.{BrickId}
use Rattle.spares.specs.Replacements.{with_spares}

-- where no spare is left, the members stay
pub with_spares-none : (suspected : BrickId → Bool) (members : List BrickId) → with_spares suspected [] members ≡ members
unfolding with_spares
with_spares-none suspected [] = refl
with_spares-none suspected (member ∷ members) = refl

-- a member that is not suspected stays
pub with_spares-keep : (suspected : BrickId → Bool) (left : List BrickId) (member : BrickId) (members : List BrickId) → suspected member ≡ false
    → with_spares suspected left (member ∷ members) ≡ member ∷ with_spares suspected left members
unfolding with_spares
with_spares-keep suspected [] member members trusted =
    ap (λ (z : List BrickId). member ∷ z) (sym (with_spares-none suspected members))
with_spares-keep suspected (spare ∷ left) member members trusted =
    ap
    (λ (t : Bool). cond t (spare ∷ with_spares suspected left members) (member ∷ with_spares suspected (spare ∷ left) members))
    trusted

-- a suspected member gives its seat to the first spare
pub with_spares-put : (suspected : BrickId → Bool) (spare : BrickId) (left : List BrickId) (member : BrickId) (members : List BrickId)
    → suspected member ≡ true → with_spares suspected (spare ∷ left) (member ∷ members) ≡ spare ∷ with_spares suspected left members
unfolding with_spares
with_spares-put suspected spare left member members is =
    ap
    (λ (t : Bool). cond t (spare ∷ with_spares suspected left members) (member ∷ with_spares suspected (spare ∷ left) members))
    is

-- one seat more, where its brick becomes the head of what is to come
step : (suspected : BrickId → Bool) (seats : List BrickId) (i : ℕ) (d brick : BrickId) (left more total : List BrickId) → i < length seats
    → with_spares suspected left (get_or seats i d ∷ drop (i + 1) seats) ≡ brick ∷ with_spares suspected more (drop (i + 1) seats)
    → take i seats ++ with_spares suspected left (drop i seats) ≡ total
    → take (i + 1) (set seats i brick) ++ with_spares suspected more (drop (i + 1) (set seats i brick)) ≡ total
step suspected seats i d brick left more total within head made =
    let later : i < i + 1 = omega arith in
    let rest : drop (i + 1) (set seats i brick) ≡ drop (i + 1) seats = drop-set-lt (i + 1) seats i brick later in
    let front : take (i + 1) (set seats i brick) ≡ take i seats ++ (brick ∷ []) = take_more_set seats i brick within in
    let here : with_spares suspected left (drop i seats) ≡ brick ∷ with_spares suspected more (drop (i + 1) seats) =
    at_drop_more (with_spares suspected left) seats i d within ∙ head in
    ap (λ (z : List BrickId). z ++ with_spares suspected more (drop (i + 1) (set seats i brick))) front
    ∙ ap (λ (z : List BrickId). (take i seats ++ (brick ∷ [])) ++ with_spares suspected more z) rest
    ∙ append_assoc (take i seats) (brick ∷ []) (with_spares suspected more (drop (i + 1) seats))
    ∙ ap (λ (z : List BrickId). take i seats ++ z) (sym here)
    ∙ made

-- the loop replaces a seat's brick
pub step-put : (suspected : BrickId → Bool) (seats : List BrickId) (i : ℕ) (d spare : BrickId) (left more total : List BrickId)
    → i < length seats → suspected (get_or seats i d) ≡ true → left ≡ spare ∷ more
    → take i seats ++ with_spares suspected left (drop i seats) ≡ total
    → take (i + 1) (set seats i spare) ++ with_spares suspected more (drop (i + 1) (set seats i spare)) ≡ total
step-put suspected seats i d spare left more total within is first made =
    step suspected seats i d spare left more total within
    (ap (λ (z : List BrickId). with_spares suspected z (get_or seats i d ∷ drop (i + 1) seats)) first
    ∙ with_spares-put suspected spare more (get_or seats i d) (drop (i + 1) seats) is)
    made

-- the loop keeps a seat's brick
pub step-keep : (suspected : BrickId → Bool) (seats : List BrickId) (i : ℕ) (d : BrickId) (left total : List BrickId)
    → i < length seats → suspected (get_or seats i d) ≡ false
    → take i seats ++ with_spares suspected left (drop i seats) ≡ total
    → take (i + 1) (set seats i (get_or seats i d)) ++ with_spares suspected left (drop (i + 1) (set seats i (get_or seats i d))) ≡ total
step-keep suspected seats i d left total within trusted made =
    step suspected seats i d (get_or seats i d) left left total within
    (with_spares-keep suspected left (get_or seats i d) (drop (i + 1) seats) trusted)
    made

-- the loop stops where no spare is left
pub step-end : (suspected : BrickId → Bool) (seats : List BrickId) (i : ℕ) (d : BrickId) (left total : List BrickId) → left ≡ []
    → take i seats ++ with_spares suspected left (drop i seats) ≡ total → set seats i (get_or seats i d) ≡ total
step-end suspected seats i d left total empty made =
    set-get_or seats i d
    ∙ sym (take-append-drop i seats)
    ∙ ap (λ (z : List BrickId). take i seats ++ z) (sym (with_spares-none suspected (drop i seats)))
    ∙ ap (λ (z : List BrickId). take i seats ++ with_spares suspected z (drop i seats)) (sym empty)
    ∙ made

-- the loop ends past the last seat
pub step-past : (suspected : BrickId → Bool) (seats : List BrickId) (i : ℕ) (left total : List BrickId) → length seats ≤ i
    → take i seats ++ with_spares suspected left (drop i seats) ≡ total → seats ≡ total
unfolding with_spares
step-past suspected seats i left total past made =
    sym (take-append-drop i seats)
    ∙ ap (λ (z : List BrickId). take i seats ++ z)
    (at_drop_all (λ (z : List BrickId). z) seats i past ∙ sym (at_drop_all (with_spares suspected left) seats i past))
    ∙ made
