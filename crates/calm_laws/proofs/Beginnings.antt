-- A calm operation begins a scene that its world shows, in its first phase.
use Rattle.std.proofs.Common.{Bool, List, None, Option, Some, [], add-zero, ap, ap₂, arith, cond, false, inl, inr, map, not, refl, subst, suc, sym, true, zero, ℕ, ⊎_elim, ◌&&◌, ◌++◌, ◌+◌, ◌∙◌, ◌∷◌, ◌≡◌, ◌⊎◌}
use Rattle.std.proofs.lemmas.Bool.{and_parts, cases_eq, cond_both, eq-eqb, eqb-true, false≢true, ne_eqb, or_cases}
use Rattle.std.specs.Prelude.{filter, nat_eq, slice_get}
use Rattle.calm_laws.proofs.Asking.{each_append}
use Rattle.calm_laws.proofs.Known.{repeated}
use Rattle.calm_laws.proofs.Queues.{waiting_in}
use Rattle.calm_laws.proofs.Scenes.{Each, Seated, Stage, asking}
use Rattle.fab_base.specs.declared.identities.BrickId.{BrickId}
use Rattle.messages.specs.declared.packets.Packet.{Packet}
use Rattle.protocol.specs.Calms.{goes_among, is_left, is_one_of, open_at, open_call, operation_of}
use Rattle.protocol.specs.Coordinators.{Coordinator}
use Rattle.protocol.specs.Worlds.{Operation, World}

-- where the first packets wait: all of the operation's that go among the bricks
pub waiting_untouched : (w : World) (n : ℕ) (bricks : List BrickId) (start : ℕ) (packets : List Packet)
    → ((k : ℕ) (packet : Packet) → slice_get packets k ≡ Some packet → operation_of w packet ≡ n → w.reached (start + k) ≡ false)
    → waiting_in (is_left w n bricks) start packets
    ≡ filter (goes_among bricks) (filter (λ packet. nat_eq (operation_of w packet) n) packets)
waiting_untouched w n bricks start [] untouched = refl
waiting_untouched w n bricks start (packet ∷ packets) untouched =
    go (waiting_untouched w n bricks (suc start) packets
    (λ k one at own. let same : start + suc k ≡ suc start + k = omega arith in
    subst (λ (j : ℕ). w.reached j ≡ false) same (untouched (suc k) one at own)))
    (cases_eq (operation_of w packet) n)
  where
    own_packets : List Packet → List Packet
    own_packets ps = filter (λ (p : Packet). nat_eq (operation_of w p) n) ps

    go : waiting_in (is_left w n bricks) (suc start) packets ≡ filter (goes_among bricks) (own_packets packets)
        → (operation_of w packet ≡ n) ⊎ (operation_of w packet ≡ n → ⊥)
        → waiting_in (is_left w n bricks) start (packet ∷ packets) ≡ filter (goes_among bricks) (own_packets (packet ∷ packets))
    go rest (inl own) =
        let is : nat_eq (operation_of w packet) n ≡ true = eq-eqb (operation_of w packet) n own in
        let unreached : w.reached start ≡ false = subst (λ (j : ℕ). w.reached j ≡ false) (add-zero start) (untouched 0 packet refl own) in
        ap (λ (b : Bool). cond (b && (not (w.reached start) && goes_among bricks packet))
        (packet ∷ waiting_in (is_left w n bricks) (suc start) packets) (waiting_in (is_left w n bricks) (suc start) packets)) is
        ∙ ap (λ (b : Bool). cond (not b && goes_among bricks packet)
        (packet ∷ waiting_in (is_left w n bricks) (suc start) packets) (waiting_in (is_left w n bricks) (suc start) packets)) unreached
        ∙ ap (λ (l : List Packet). cond (goes_among bricks packet) (packet ∷ l) l) rest
        ∙ sym (ap (λ (b : Bool). filter (goes_among bricks) (cond b (packet ∷ own_packets packets) (own_packets packets))) is)
    go rest (inr other) =
        let isnt : nat_eq (operation_of w packet) n ≡ false = ne_eqb (operation_of w packet) n other in
        ap (λ (b : Bool). cond (b && (not (w.reached start) && goes_among bricks packet))
        (packet ∷ waiting_in (is_left w n bricks) (suc start) packets) (waiting_in (is_left w n bricks) (suc start) packets)) isnt
        ∙ rest
        ∙ sym (ap (λ (b : Bool). filter (goes_among bricks) (cond b (packet ∷ own_packets packets) (own_packets packets))) isnt)

-- a filter of lists one after the other
filter_append : {A : Type 0} (p : A → Bool) (xs ys : List A) → filter p (xs ++ ys) ≡ filter p xs ++ filter p ys
filter_append p [] ys = refl
filter_append p (x ∷ xs) ys =
    ap (λ (l : List _). cond (p x) (x ∷ l) l) (filter_append p xs ys)
    ∙ cond_both (p x) (x ∷ filter p xs) (filter p xs)
    (λ (l : List _). cond (p x) (x ∷ (filter p xs ++ filter p ys)) (filter p xs ++ filter p ys) ≡ l ++ filter p ys)
    (λ is. ap (λ (b : Bool). cond b (x ∷ (filter p xs ++ filter p ys)) (filter p xs ++ filter p ys)) is)
    (λ isnt. ap (λ (b : Bool). cond b (x ∷ (filter p xs ++ filter p ys)) (filter p xs ++ filter p ys)) isnt)

pub map_append : {A B : Type 0} (f : A → B) (xs ys : List A) → map f (xs ++ ys) ≡ map f xs ++ map f ys
map_append f [] ys = refl
map_append f (x ∷ xs) ys = ap (λ (l : List _). f x ∷ l) (map_append f xs ys)

-- of messages that were sent several times those to the chosen members
pub repeated_sends : (stage : Stage) (c : Coordinator) (k : ℕ) (packets : List Packet) (all : List Seated)
    → filter (goes_among stage.bricks) packets ≡ map (asking stage c) all
    → filter (goes_among stage.bricks) (repeated k packets) ≡ map (asking stage c) (repeated k all)
repeated_sends stage c zero packets all is = refl
repeated_sends stage c (suc k) packets all is =
    filter_append (goes_among stage.bricks) packets (repeated k packets)
    ∙ ap₂ (λ (a b : List Packet). a ++ b) is (repeated_sends stage c k packets all is)
    ∙ sym (map_append (asking stage c) all (repeated k all))

pub each_repeated : {A : Type 0} (P : A → Type 0) (k : ℕ) (xs : List A) → Each P xs → Each P (repeated k xs)
each_repeated P zero xs each = tt
each_repeated P (suc k) xs each = each_append P xs (repeated k xs) each (each_repeated P k xs each)

-- one of the bricks stands among them
pub one_stands : (bricks : List BrickId) (brick : BrickId) → is_one_of bricks brick ≡ true → (k : ℕ) × (slice_get bricks k ≡ Some brick)
one_stands [] brick one = absurd (false≢true one)
one_stands (b ∷ bricks) brick one = ⊎_elim
    (λ (here : nat_eq b.0 brick.0 ≡ true).
    let same : b.0 ≡ brick.0 = eqb-true b.0 brick.0 here in
    let e : b ≡ brick = (λ i. record { 0 = same i }) in
    (0, ap (λ (z : BrickId). Some z) e))
    (λ (there : is_one_of bricks brick ≡ true). let rest = one_stands bricks brick there in (suc rest.0, rest.1))
    (or_cases (nat_eq b.0 brick.0) (is_one_of bricks brick) one)

-- an operation that is open: its brick is up, and was not started since, and has the coordinator
pub record OpenFacts (w : World) (o : Operation) (c : Coordinator) : Type 0 where
  pub up : w.up o.brick.0 ≡ true
  pub boot : (w.nodes o.brick.0).boot ≡ o.boot
  pub call : (w.nodes o.brick.0).calls o.seq ≡ Some c

pub open_facts : (w : World) (n : ℕ) (o : Operation) (c : Coordinator) → w.operations n ≡ Some o → open_call w n ≡ Some c → OpenFacts w o c
open_facts w n o c is open_is =
    cond_both (w.up o.brick.0 && nat_eq (w.nodes o.brick.0).boot o.boot) ((w.nodes o.brick.0).calls o.seq) None
    (λ (z : Option Coordinator). z ≡ Some c → OpenFacts w o c)
    (λ test e.
    let parts = and_parts (w.up o.brick.0) (nat_eq (w.nodes o.brick.0).boot o.boot) test in
    record { up = parts.0; boot = eqb-true (w.nodes o.brick.0).boot o.boot parts.1; call = e })
    (λ test e. cc)
    (sym (ap (λ (z : Option Operation). open_at w z) is) ∙ open_is)
