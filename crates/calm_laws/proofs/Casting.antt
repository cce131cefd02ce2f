-- The members among the bricks, in the order of seats, and the first quorum of them.
use Rattle.protocol_laws.proofs.BooksEvents.{brick_of}
use Rattle.std.proofs.Common.{Bool, List, None, Option, Some, [], add-zero, ap, ap₂, arith, cond, drop, false, inl, inr, length, map, refl, subst, suc, sym, take, true, zero, ℕ, ◌+◌, ◌||◌, ◌∙◌, ◌∷◌, ◌≡◌, ◌≤◌, ◌⊎◌, ⊎_elim}
use Rattle.std.proofs.lemmas.Bool.{cases_eq, cond_both, eq-eqb, ne_eqb, eqb-true, false≢true, or_cases, or_from}
use Rattle.std.specs.List.{AllByRecursion, IsDistinct}
use Rattle.std.specs.Option.{option_map}
use Rattle.std.specs.Prelude.{filter, if◌then◌else◌, is_some, nat_eq, slice_get}
use Rattle.calm_laws.proofs.Decided.{in_this}
use Rattle.calm_laws.proofs.Scenes.{Each, Seated, Stage, asking, AreApart}
use Rattle.fab_base.specs.Layouts.{seat_in}
use Rattle.fab_base.specs.declared.identities.BrickId.{BrickId}
use Rattle.messages.specs.declared.packets.Message.{Message}
use Rattle.messages.specs.declared.packets.Packet.{Packet}
use Rattle.protocol.specs.Calms.{goes_among, is_one_of}
use Rattle.protocol.specs.Coordinators.{Coordinator, request_of}
use Rattle.protocol.specs.Nodes.{to_members}
use Rattle.protocol.specs.Settings.{Code}
use Rattle.protocol.specs.declared.phases.Phase.{Phase}
use Rattle.protocol.specs.declared.phases.Phase.TheVariants.{Looks}
use Rattle.quorum.specs.Quorums.{one_if}

-- the members among these bricks, where the first has this seat
abbrev pub chosen : List BrickId → ℕ → List BrickId → List Seated
chosen bricks seat [] = []
chosen bricks seat (member ∷ members) =
    if is_one_of bricks member then record { seat = seat; brick = member } ∷ chosen bricks (suc seat) members else chosen bricks (suc seat) members

-- what holds of each member holds of those that are chosen
pub each_chosen : (P : Seated → Type 0) (bricks : List BrickId) (seat : ℕ) (members : List BrickId)
    → ((k : ℕ) (member : BrickId) → slice_get members k ≡ Some member → is_one_of bricks member ≡ true
    → P (record { seat = seat + k; brick = member })) → Each P (chosen bricks seat members)
each_chosen P bricks seat [] all = tt
each_chosen P bricks seat (member ∷ members) all =
    let rest : Each P (chosen bricks (suc seat) members)
    = each_chosen P bricks (suc seat) members
    (λ k one at is. let same : seat + suc k ≡ suc seat + k = omega arith in
    subst (λ (j : ℕ). P (record { seat = j; brick = one })) same (all (suc k) one at is)) in
    cond_both (is_one_of bricks member) (record { seat = seat; brick = member } ∷ chosen bricks (suc seat) members)
    (chosen bricks (suc seat) members) (λ (l : List Seated). Each P l)
    (λ one. (subst (λ (k : ℕ). P (record { seat = k; brick = member })) (add-zero seat) (all 0 member refl one), rest))
    (λ other. rest)

-- they sit apart
pub apart_chosen : (bricks : List BrickId) (seat : ℕ) (members : List BrickId) → AreApart (chosen bricks seat members)
apart_chosen bricks seat [] = tt
apart_chosen bricks seat (member ∷ members) =
    cond_both (is_one_of bricks member) (record { seat = seat; brick = member } ∷ chosen bricks (suc seat) members)
    (chosen bricks (suc seat) members) AreApart
    (λ one. (
      each_chosen (λ y. nat_eq seat y.seat ≡ false) bricks (suc seat) members
          (λ k one at is. ne_eqb seat (suc seat + k) (λ e. omega (arith, e))),
      apart_chosen bricks (suc seat) members,
    ))
    (λ other. apart_chosen bricks (suc seat) members)

-- some of these first, and the others after them
pub each_take : {A : Type 0} (P : A → Type 0) (k : ℕ) (xs : List A) → Each P xs → Each P (take k xs)
each_take P zero xs each = tt
each_take P (suc k) [] each = tt
each_take P (suc k) (x ∷ xs) each = (each.0, each_take P k xs each.1)

pub each_drop : {A : Type 0} (P : A → Type 0) (k : ℕ) (xs : List A) → Each P xs → Each P (drop k xs)
each_drop P zero xs each = each
each_drop P (suc k) [] each = tt
each_drop P (suc k) (x ∷ xs) each = each_drop P k xs each.1

pub apart_take : (k : ℕ) (xs : List Seated) → AreApart xs → AreApart (take k xs)
apart_take zero xs apart = tt
apart_take (suc k) [] apart = tt
apart_take (suc k) (x ∷ xs) apart = (each_take (λ (y : Seated). nat_eq x.seat y.seat ≡ false) k xs apart.0, apart_take k xs apart.1)

-- no phase asks to collect
asks_go : (bricks : List BrickId) (code : Code) (me to : BrickId) (c : Coordinator) (seat : ℕ)
    → goes_among bricks (record { from = me; to = to; message = Message.Request c.call (request_of code c seat) }) ≡ is_one_of bricks to
unfolding request_of
asks_go bricks code me to c seat = by_phase c.phase
  where
    by_phase : (phase : Phase)
        → goes_among bricks (record { from = me; to = to; message = Message.Request c.call (request_of code (in_this c phase) seat) }) ≡ is_one_of bricks to
    by_phase Looks = refl
    by_phase phase = refl

-- the messages of a phase that go among the bricks are those to the members that are chosen
pub sends_chosen : (stage : Stage) (d : Coordinator) (seat : ℕ) (members : List BrickId)
    → filter (goes_among stage.bricks) (to_members stage.me d.call (request_of stage.setting.code d) seat members)
    ≡ map (asking stage d) (chosen stage.bricks seat members)
sends_chosen stage d seat [] = refl
sends_chosen stage d seat (member ∷ members) =
    let next : suc seat ≡ seat + 1 = omega arith in
    ap (λ (b : Bool). cond b (asking stage d (record { seat = seat; brick = member })
    ∷ filter (goes_among stage.bricks) (to_members stage.me d.call (request_of stage.setting.code d) (seat + 1) members))
    (filter (goes_among stage.bricks) (to_members stage.me d.call (request_of stage.setting.code d) (seat + 1) members)))
    (asks_go stage.bricks stage.setting.code stage.me member d seat)
    ∙ ap (λ (l : List Packet). cond (is_one_of stage.bricks member) (asking stage d (record { seat = seat; brick = member }) ∷ l) l)
    (subst (λ (k : ℕ). filter (goes_among stage.bricks) (to_members stage.me d.call (request_of stage.setting.code d) k members)
    ≡ map (asking stage d) (chosen stage.bricks (suc seat) members)) next (sends_chosen stage d (suc seat) members))
    ∙ cond_both (is_one_of stage.bricks member) (record { seat = seat; brick = member } ∷ chosen stage.bricks (suc seat) members)
    (chosen stage.bricks (suc seat) members)
    (λ (l : List Seated). cond (is_one_of stage.bricks member) (asking stage d (record { seat = seat; brick = member })
    ∷ map (asking stage d) (chosen stage.bricks (suc seat) members)) (map (asking stage d) (chosen stage.bricks (suc seat) members))
    ≡ map (asking stage d) l)
    (λ is. ap (λ (b : Bool). cond b (asking stage d (record { seat = seat; brick = member })
    ∷ map (asking stage d) (chosen stage.bricks (suc seat) members)) (map (asking stage d) (chosen stage.bricks (suc seat) members))) is)
    (λ isnt. ap (λ (b : Bool). cond b (asking stage d (record { seat = seat; brick = member })
    ∷ map (asking stage d) (chosen stage.bricks (suc seat) members)) (map (asking stage d) (chosen stage.bricks (suc seat) members))) isnt)

-- how many pass one of two tests
filter_either : (A : Type 0) (p r : A → Bool) (xs : List A) → length (filter (λ x. p x || r x) xs) ≤ length (filter p xs) + length (filter r xs)
filter_either A p r [] = omega arith
filter_either A p r (x ∷ xs) = go (filter_either A p r xs) (p x) (r x) refl refl
  where
    go : length (filter (λ x. p x || r x) xs) ≤ length (filter p xs) + length (filter r xs) → (a b : Bool) → p x ≡ a → r x ≡ b
        → length (filter (λ x. p x || r x) (x ∷ xs)) ≤ length (filter p (x ∷ xs)) + length (filter r (x ∷ xs))
    go rest true b p_is r_is =
        let left : length (filter (λ x. p x || r x) (x ∷ xs)) ≡ suc (length (filter (λ x. p x || r x) xs))
        = ap (λ (z : Bool). length (cond (z || r x) (x ∷ filter (λ x. p x || r x) xs) (filter (λ x. p x || r x) xs))) p_is in
        let right : length (filter p (x ∷ xs)) ≡ suc (length (filter p xs)) = ap (λ (z : Bool). length (cond z (x ∷ filter p xs) (filter p xs))) p_is in
        let more = cond_both (r x) (x ∷ filter r xs) (filter r xs) (λ (l : List A). length (filter r xs) ≤ length l) (λ is. omega arith) (λ isnt. omega arith) in
        omega (arith, rest, left, right, more)
    go rest false true p_is r_is =
        let left : length (filter (λ x. p x || r x) (x ∷ xs)) ≡ suc (length (filter (λ x. p x || r x) xs))
        = ap₂ (λ (y z : Bool). length (cond (y || z) (x ∷ filter (λ x. p x || r x) xs) (filter (λ x. p x || r x) xs))) p_is r_is in
        let right : length (filter p (x ∷ xs)) ≡ length (filter p xs) = ap (λ (z : Bool). length (cond z (x ∷ filter p xs) (filter p xs))) p_is in
        let more : length (filter r (x ∷ xs)) ≡ suc (length (filter r xs)) = ap (λ (z : Bool). length (cond z (x ∷ filter r xs) (filter r xs))) r_is in
        omega (arith, rest, left, right, more)
    go rest false false p_is r_is =
        let left : length (filter (λ x. p x || r x) (x ∷ xs)) ≡ length (filter (λ x. p x || r x) xs)
        = ap₂ (λ (y z : Bool). length (cond (y || z) (x ∷ filter (λ x. p x || r x) xs) (filter (λ x. p x || r x) xs))) p_is r_is in
        let right : length (filter p (x ∷ xs)) ≡ length (filter p xs) = ap (λ (z : Bool). length (cond z (x ∷ filter p xs) (filter p xs))) p_is in
        let more : length (filter r (x ∷ xs)) ≡ length (filter r xs) = ap (λ (z : Bool). length (cond z (x ∷ filter r xs) (filter r xs))) r_is in
        omega (arith, rest, left, right, more)

-- none passes where none may
filter_none : (bricks : List BrickId) (m : ℕ) → AllByRecursion (λ y. nat_eq m y ≡ false) (map (λ (b : BrickId). b.0) bricks)
    → length (filter (λ b. nat_eq m b.0) bricks) ≡ 0
filter_none [] m all = refl
filter_none (b ∷ bricks) m all =
    ap (λ (z : Bool). length (cond z (b ∷ filter (λ (b : BrickId). nat_eq m b.0) bricks) (filter (λ (b : BrickId). nat_eq m b.0) bricks))) all.0
    ∙ filter_none bricks m all.1

filter_never : (bricks : List BrickId) → length (filter (λ (b : BrickId). false) bricks) ≡ 0
filter_never [] = refl
filter_never (b ∷ bricks) = filter_never bricks

-- tests that agree leave as many
filter_same : (p r : BrickId → Bool) → ((b : BrickId) → p b ≡ r b) → (bricks : List BrickId) → length (filter p bricks) ≡ length (filter r bricks)
filter_same p r same [] = refl
filter_same p r same (b ∷ bricks) =
    ap (λ (z : Bool). length (cond z (b ∷ filter p bricks) (filter p bricks))) (same b)
    ∙ cond_both (r b) (b ∷ filter r bricks) (filter r bricks) (λ (l : List BrickId). length (cond (r b) (b ∷ filter p bricks) (filter p bricks)) ≡ length l)
    (λ is. ap (λ (z : Bool). length (cond z (b ∷ filter p bricks) (filter p bricks))) is ∙ ap suc (filter_same p r same bricks))
    (λ isnt. ap (λ (z : Bool). length (cond z (b ∷ filter p bricks) (filter p bricks))) isnt ∙ filter_same p r same bricks)

-- a member is once among distinct bricks, at most, and only if it is one of them
filter_one : (bricks : List BrickId) (member : BrickId) → IsDistinct nat_eq (map (λ (b : BrickId). b.0) bricks)
    → length (filter (λ b. nat_eq member.0 b.0) bricks) ≤ one_if (is_one_of bricks member)
unfolding IsDistinct
filter_one [] member distinct = omega arith
filter_one (b ∷ bricks) member distinct = go (filter_one bricks member distinct.1) (cases_eq member.0 b.0)
  where
    go : length (filter (λ (b : BrickId). nat_eq member.0 b.0) bricks) ≤ one_if (is_one_of bricks member) → (member.0 ≡ b.0) ⊎ (member.0 ≡ b.0 → ⊥)
        → length (filter (λ (b : BrickId). nat_eq member.0 b.0) (b ∷ bricks)) ≤ one_if (is_one_of (b ∷ bricks) member)
    go rest (inl same) =
        let none : length (filter (λ (b : BrickId). nat_eq member.0 b.0) bricks) ≡ 0
        = filter_none bricks member.0 (subst (λ (k : ℕ). AllByRecursion (λ y. nat_eq k y ≡ false) (map (λ (b : BrickId). b.0) bricks)) (sym same) distinct.0) in
        let left : length (filter (λ (b : BrickId). nat_eq member.0 b.0) (b ∷ bricks)) ≡ suc (length (filter (λ (b : BrickId). nat_eq member.0 b.0) bricks))
        = ap (λ (z : Bool). length (cond z (b ∷ filter (λ (b : BrickId). nat_eq member.0 b.0) bricks) (filter (λ (b : BrickId). nat_eq member.0 b.0) bricks)))
        (eq-eqb member.0 b.0 same) in
        let right : one_if (is_one_of (b ∷ bricks) member) ≡ 1
        = ap (λ (z : Bool). one_if (z || is_one_of bricks member)) (eq-eqb b.0 member.0 (sym same)) in
        omega (arith, none, left, right)
    go rest (inr other) =
        let left : length (filter (λ (b : BrickId). nat_eq member.0 b.0) (b ∷ bricks)) ≡ length (filter (λ (b : BrickId). nat_eq member.0 b.0) bricks)
        = ap (λ (z : Bool). length (cond z (b ∷ filter (λ (b : BrickId). nat_eq member.0 b.0) bricks) (filter (λ (b : BrickId). nat_eq member.0 b.0) bricks)))
        (ne_eqb member.0 b.0 other) in
        let right : one_if (is_one_of (b ∷ bricks) member) ≡ one_if (is_one_of bricks member)
        = ap (λ (z : Bool). one_if (z || is_one_of bricks member)) (ne_eqb b.0 member.0 (λ e. other (sym e))) in
        omega (arith, rest, left, right)

-- a brick has a seat where it is the first member, or has one among the others
pub seat_some : (member : BrickId) (members : List BrickId) (brick : ℕ)
    → is_some (seat_in (member ∷ members) brick) ≡ (nat_eq member.0 brick || is_some (seat_in members brick))
seat_some member members brick =
    cond_both (nat_eq member.0 brick) (Some 0) (option_map (λ seat. seat + 1) (seat_in members brick))
    (λ (z : Option ℕ). is_some z ≡ (nat_eq member.0 brick || is_some (seat_in members brick)))
    (λ is. sym (ap (λ (z : Bool). z || is_some (seat_in members brick)) is))
    (λ isnt. mapped (seat_in members brick) ∙ sym (ap (λ (z : Bool). z || is_some (seat_in members brick)) isnt))
  where
    mapped : (z : Option ℕ) → is_some (option_map (λ (seat : ℕ). seat + 1) z) ≡ is_some z
    mapped None = refl
    mapped (Some k) = refl

-- one more is chosen where the first member is one of the bricks
chosen_long : (bricks : List BrickId) (seat : ℕ) (member : BrickId) (members : List BrickId)
    → length (chosen bricks seat (member ∷ members)) ≡ one_if (is_one_of bricks member) + length (chosen bricks (suc seat) members)
chosen_long bricks seat member members = count_so (is_one_of bricks member)
  where
    count_so : (b : Bool) → length (cond b (record { seat = seat; brick = member } ∷ chosen bricks (suc seat) members) (chosen bricks (suc seat) members))
        ≡ one_if b + length (chosen bricks (suc seat) members)
    count_so true = omega arith
    count_so false = omega arith

-- as many members are chosen as bricks are members
pub chosen_many : (bricks : List BrickId) (seat : ℕ) (members : List BrickId) → IsDistinct nat_eq (map (λ (b : BrickId). b.0) bricks)
    → length (filter (λ b. is_some (seat_in members b.0)) bricks) ≤ length (chosen bricks seat members)
chosen_many bricks seat [] distinct = let none = filter_never bricks in omega (arith, none)
chosen_many bricks seat (member ∷ members) distinct =
    let rest = chosen_many bricks (suc seat) members distinct in
    let same = filter_same (λ (b : BrickId). is_some (seat_in (member ∷ members) b.0))
    (λ (b : BrickId). nat_eq member.0 b.0 || is_some (seat_in members b.0)) (λ b. seat_some member members b.0) bricks in
    let either = filter_either BrickId (λ (b : BrickId). nat_eq member.0 b.0) (λ (b : BrickId). is_some (seat_in members b.0)) bricks in
    let one = filter_one bricks member distinct in
    let long = chosen_long bricks seat member members in
    omega (arith, rest, same, either, one, long)

-- at least as many pass one of two tests as pass each, where none passes both
filter_apart : (p r : BrickId → Bool) → ((b : BrickId) → p b ≡ true → r b ≡ false) → (bricks : List BrickId)
    → length (filter p bricks) + length (filter r bricks) ≤ length (filter (λ b. p b || r b) bricks)
filter_apart p r apart [] = omega arith
filter_apart p r apart (x ∷ xs) = go (filter_apart p r apart xs) (p x) (r x) refl refl
  where
    go : length (filter p xs) + length (filter r xs) ≤ length (filter (λ b. p b || r b) xs) → (a b : Bool) → p x ≡ a → r x ≡ b
        → length (filter p (x ∷ xs)) + length (filter r (x ∷ xs)) ≤ length (filter (λ b. p b || r b) (x ∷ xs))
    go rest true true p_is r_is = absurd (false≢true (sym (apart x p_is) ∙ r_is))
    go rest true false p_is r_is =
        let both : length (filter (λ b. p b || r b) (x ∷ xs)) ≡ suc (length (filter (λ b. p b || r b) xs))
        = ap (λ (z : Bool). length (cond (z || r x) (x ∷ filter (λ b. p b || r b) xs) (filter (λ b. p b || r b) xs))) p_is in
        let left : length (filter p (x ∷ xs)) ≡ suc (length (filter p xs)) = ap (λ (z : Bool). length (cond z (x ∷ filter p xs) (filter p xs))) p_is in
        let right : length (filter r (x ∷ xs)) ≡ length (filter r xs) = ap (λ (z : Bool). length (cond z (x ∷ filter r xs) (filter r xs))) r_is in
        omega (arith, rest, both, left, right)
    go rest false b p_is r_is =
        let both : length (filter (λ b. p b || r b) (x ∷ xs)) ≡ length (cond b (x ∷ filter (λ b. p b || r b) xs) (filter (λ b. p b || r b) xs))
        = ap₂ (λ (y z : Bool). length (cond (y || z) (x ∷ filter (λ b. p b || r b) xs) (filter (λ b. p b || r b) xs))) p_is r_is in
        let left : length (filter p (x ∷ xs)) ≡ length (filter p xs) = ap (λ (z : Bool). length (cond z (x ∷ filter p xs) (filter p xs))) p_is in
        let right : length (filter r (x ∷ xs)) ≡ length (cond b (x ∷ filter r xs) (filter r xs))
        = ap (λ (z : Bool). length (cond z (x ∷ filter r xs) (filter r xs))) r_is in
        let more = counted b in
        omega (arith, rest, both, left, right, more)
      where
        counted : (b : Bool) → length (filter p xs) + length (cond b (x ∷ filter r xs) (filter r xs))
            ≤ length (cond b (x ∷ filter (λ b. p b || r b) xs) (filter (λ b. p b || r b) xs))
        counted true = omega (arith, rest)
        counted false = omega (arith, rest)

-- a member that is one of the bricks is there once at least
one_filter : (bricks : List BrickId) (member : BrickId) → one_if (is_one_of bricks member) ≤ length (filter (λ b. nat_eq member.0 b.0) bricks)
one_filter [] member = omega arith
one_filter (b ∷ bricks) member = go (one_filter bricks member) (cases_eq member.0 b.0)
  where
    most_one : (z : Bool) → one_if z ≤ 1
    most_one true = omega arith
    most_one false = omega arith

    go : one_if (is_one_of bricks member) ≤ length (filter (λ (b : BrickId). nat_eq member.0 b.0) bricks) → (member.0 ≡ b.0) ⊎ (member.0 ≡ b.0 → ⊥)
        → one_if (is_one_of (b ∷ bricks) member) ≤ length (filter (λ (b : BrickId). nat_eq member.0 b.0) (b ∷ bricks))
    go rest (inl same) =
        let left : length (filter (λ (b : BrickId). nat_eq member.0 b.0) (b ∷ bricks)) ≡ suc (length (filter (λ (b : BrickId). nat_eq member.0 b.0) bricks))
        = ap (λ (z : Bool). length (cond z (b ∷ filter (λ (b : BrickId). nat_eq member.0 b.0) bricks) (filter (λ (b : BrickId). nat_eq member.0 b.0) bricks)))
        (eq-eqb member.0 b.0 same) in
        let right = most_one (is_one_of (b ∷ bricks) member) in
        omega (arith, left, right)
    go rest (inr other) =
        let left : length (filter (λ (b : BrickId). nat_eq member.0 b.0) (b ∷ bricks)) ≡ length (filter (λ (b : BrickId). nat_eq member.0 b.0) bricks)
        = ap (λ (z : Bool). length (cond z (b ∷ filter (λ (b : BrickId). nat_eq member.0 b.0) bricks) (filter (λ (b : BrickId). nat_eq member.0 b.0) bricks)))
        (ne_eqb member.0 b.0 other) in
        let right : one_if (is_one_of (b ∷ bricks) member) ≡ one_if (is_one_of bricks member)
        = ap (λ (z : Bool). one_if (z || is_one_of bricks member)) (ne_eqb b.0 member.0 (λ e. other (sym e))) in
        omega (arith, rest, left, right)

-- a brick that is not among the members has no seat
seat_none : (members : List BrickId) (brick : ℕ) → AllByRecursion (λ y. nat_eq brick y ≡ false) (map (λ (b : BrickId). b.0) members)
    → is_some (seat_in members brick) ≡ false
seat_none [] brick all = refl
seat_none (member ∷ members) brick all =
    seat_some member members brick
    ∙ or_from (nat_eq member.0 brick) (is_some (seat_in members brick))
    (ne_eqb member.0 brick (λ e. false≢true (sym all.0 ∙ eq-eqb brick member.0 (sym e))))
    (seat_none members brick all.1)

-- no more members are chosen than bricks are members
pub chosen_few : (bricks : List BrickId) (seat : ℕ) (members : List BrickId) → IsDistinct nat_eq (map (λ (b : BrickId). b.0) members)
    → length (chosen bricks seat members) ≤ length (filter (λ b. is_some (seat_in members b.0)) bricks)
unfolding IsDistinct
chosen_few bricks seat [] distinct = omega arith
chosen_few bricks seat (member ∷ members) distinct =
    let rest = chosen_few bricks (suc seat) members distinct.1 in
    let same = filter_same (λ (b : BrickId). is_some (seat_in (member ∷ members) b.0))
    (λ (b : BrickId). nat_eq member.0 b.0 || is_some (seat_in members b.0)) (λ b. seat_some member members b.0) bricks in
    let apart = filter_apart (λ (b : BrickId). nat_eq member.0 b.0) (λ (b : BrickId). is_some (seat_in members b.0))
    (λ b is. ap (λ (k : ℕ). is_some (seat_in members k)) (sym (eqb-true member.0 b.0 is)) ∙ seat_none members member.0 distinct.0) bricks in
    let one = one_filter bricks member in
    let long = chosen_long bricks seat member members in
    omega (arith, rest, same, apart, one, long)

-- what holds of those that are chosen holds of each of the bricks that is a member
pub has_chosen : (P : BrickId → Type 0) (bricks : List BrickId) (seat : ℕ) (members : List BrickId)
    → Each (λ x. P x.brick) (chosen bricks seat members) → (brick : BrickId) → is_one_of bricks brick ≡ true
    → is_some (seat_in members brick.0) ≡ true → P brick
has_chosen P bricks seat [] each brick one seated = absurd (false≢true seated)
has_chosen P bricks seat (member ∷ members) each brick one seated =
    cond_both (is_one_of bricks member) (record { seat = seat; brick = member } ∷ chosen bricks (suc seat) members)
    (chosen bricks (suc seat) members) (λ (l : List Seated). Each (λ x. P x.brick) l → P brick)
    (λ is all. ⊎_elim
    (λ (here : nat_eq member.0 brick.0 ≡ true). subst P (brick_of member brick (eqb-true member.0 brick.0 here)) all.0)
    (λ (there : is_some (seat_in members brick.0) ≡ true). has_chosen P bricks (suc seat) members all.1 brick one there)
    cases)
    (λ isnt all. ⊎_elim
    (λ (here : nat_eq member.0 brick.0 ≡ true).
    absurd (false≢true (sym isnt ∙ ap (λ (b : BrickId). is_one_of bricks b) (brick_of member brick (eqb-true member.0 brick.0 here)) ∙ one)))
    (λ (there : is_some (seat_in members brick.0) ≡ true). has_chosen P bricks (suc seat) members all brick one there)
    cases)
    each
  where
    cases : (nat_eq member.0 brick.0 ≡ true) ⊎ (is_some (seat_in members brick.0) ≡ true)
    cases = or_cases (nat_eq member.0 brick.0) (is_some (seat_in members brick.0)) (sym (seat_some member members brick.0) ∙ seated)
