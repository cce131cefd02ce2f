-- The messages of an operation that were not delivered yet are a queue: the first is delivered next, and what is sent then follows the rest.
use Rattle.std.proofs.Common.{Bool, List, Some, [], add-zero, ap, ap₂, arith, cond, false, length, not, refl, subst, suc, sym, true, ℕ, ⊎_elim, ◌&&◌, ◌++◌, ◌+◌, ◌<◌, ◌∙◌, ◌∷◌, ◌≡◌, ◌≤◌}
use Rattle.std.proofs.lemmas.Bool.{cases_Bool, cond_both, eq-eqb, ne_eqb}
use Rattle.std.proofs.lemmas.Option.{slice_get_within}
use Rattle.std.specs.Prelude.{filter, if◌then◌else◌, nat_eq, slice_get}
use Rattle.calm_laws.proofs.Asking.{each_then}
use Rattle.calm_laws.proofs.Scenes.{Each, sent}
use Rattle.fab_base.specs.declared.identities.BrickId.{BrickId}
use Rattle.messages.specs.declared.packets.Message.{Message}
use Rattle.messages.specs.declared.packets.Packet.{Packet}
use Rattle.protocol.specs.Calms.{first_number, goes_among, is_left, operation_of}
use Rattle.protocol.specs.Nodes.{put}
use Rattle.protocol.specs.Worlds.{World}

-- the packets that pass a test, where the first has this number
abbrev pub waiting_in : (ℕ → Packet → Bool) → ℕ → List Packet → List Packet
waiting_in test number [] = []
waiting_in test number (packet ∷ packets) =
    if test number packet then packet ∷ waiting_in test (suc number) packets else waiting_in test (suc number) packets

-- the messages of operation n among these bricks that wait
abbrev pub waiting : World → ℕ → List BrickId → List Packet
waiting w n bricks = waiting_in (is_left w n bricks) 1 w.packets

-- tests that agree from a number on leave the same
waiting_same : (test other : ℕ → Packet → Bool) (start : ℕ) (packets : List Packet)
    → ((j : ℕ) (packet : Packet) → start ≤ j → other j packet ≡ test j packet) → waiting_in other start packets ≡ waiting_in test start packets
waiting_same test other start [] same = refl
waiting_same test other start (packet ∷ packets) same =
    ap (λ (b : Bool). cond b (packet ∷ waiting_in other (suc start) packets) (waiting_in other (suc start) packets)) (same start packet (omega arith))
    ∙ ap (λ (l : List Packet). cond (test start packet) (packet ∷ l) l)
    (waiting_same test other (suc start) packets (λ j packet above. same j packet (omega arith)))

-- the first that waits: its number, where it stands, and what is left without it
pub record IsHead (test : ℕ → Packet → Bool) (start : ℕ) (packets : List Packet) (packet : Packet) (rest : List Packet) : Type 0 where
  pub place : ℕ
  pub first : first_number test start packets ≡ Some (start + place)
  pub stands : slice_get packets place ≡ Some packet
  pub left : (other : ℕ → Packet → Bool) → ((j : ℕ) (x : Packet) → (j ≡ start + place → ⊥) → other j x ≡ test j x)
      → ((x : Packet) → other (start + place) x ≡ false) → waiting_in other start packets ≡ rest

pub head_of : (test : ℕ → Packet → Bool) (start : ℕ) (packets : List Packet) (packet : Packet) (rest : List Packet)
    → waiting_in test start packets ≡ packet ∷ rest → IsHead test start packets packet rest
head_of test start [] packet rest is = cc
head_of test start (x ∷ xs) packet rest is =
    ⊎_elim
    (λ (passes : test start x ≡ true).
    let e : x ∷ waiting_in test (suc start) xs ≡ packet ∷ rest
    = sym (ap (λ (b : Bool). cond b (x ∷ waiting_in test (suc start) xs) (waiting_in test (suc start) xs)) passes) ∙ is in
    let head : x ≡ packet = cc in
    let tail : waiting_in test (suc start) xs ≡ rest = cc in
    here passes head tail)
    (λ (fails : test start x ≡ false).
    there fails (head_of test (suc start) xs packet rest
    (sym (ap (λ (b : Bool). cond b (x ∷ waiting_in test (suc start) xs) (waiting_in test (suc start) xs)) fails) ∙ is)))
    (cases_Bool (test start x))
  where
    here : test start x ≡ true → x ≡ packet → waiting_in test (suc start) xs ≡ rest → IsHead test start (x ∷ xs) packet rest
    here passes head tail = record {
      place = 0;
      first = ap (λ (b : Bool). cond b (Some start) (first_number test (suc start) xs)) passes ∙ ap (λ (k : ℕ). Some k) (sym (add-zero start));
      stands = ap (λ (p : Packet). Some p) head;
      left = λ other same none.
          ap (λ (b : Bool). cond b (x ∷ waiting_in other (suc start) xs) (waiting_in other (suc start) xs))
          (subst (λ (k : ℕ). other k x ≡ false) (add-zero start) (none x))
          ∙ waiting_same test other (suc start) xs (λ j p above. same j p (λ e. omega (arith, e)))
          ∙ tail;
    }

    there : test start x ≡ false → IsHead test (suc start) xs packet rest → IsHead test start (x ∷ xs) packet rest
    there fails head =
        let number : suc start + head.place ≡ start + suc head.place = omega arith in
        record {
          place = suc head.place;
          first = ap (λ (b : Bool). cond b (Some start) (first_number test (suc start) xs)) fails ∙ head.first ∙ ap (λ (k : ℕ). Some k) number;
          stands = head.stands;
          left = λ other same none.
              ap (λ (b : Bool). cond b (x ∷ waiting_in other (suc start) xs) (waiting_in other (suc start) xs))
              (same start x (λ e. omega (arith, e)) ∙ fails)
              ∙ head.left other (λ j p unlike. same j p (λ e. unlike (e ∙ sym number)))
              (λ p. subst (λ (k : ℕ). other k p ≡ false) (sym number) (none p));
        }

-- what waits among more packets
pub waiting_append : (test : ℕ → Packet → Bool) (start : ℕ) (xs ys : List Packet)
    → waiting_in test start (xs ++ ys) ≡ waiting_in test start xs ++ waiting_in test (start + length xs) ys
waiting_append test start [] ys = ap (λ (k : ℕ). waiting_in test k ys) (sym (add-zero start))
waiting_append test start (x ∷ xs) ys =
    ap (λ (l : List Packet). cond (test start x) (x ∷ l) l) (waiting_append test (suc start) xs ys)
    ∙ ap (λ (k : ℕ). cond (test start x) (x ∷ (waiting_in test (suc start) xs ++ waiting_in test k ys))
    (waiting_in test (suc start) xs ++ waiting_in test k ys)) (omega arith)
    ∙ cond_both (test start x) (x ∷ waiting_in test (suc start) xs) (waiting_in test (suc start) xs)
    (λ (l : List Packet). cond (test start x) (x ∷ (waiting_in test (suc start) xs ++ waiting_in test (start + suc (length xs)) ys))
    (waiting_in test (suc start) xs ++ waiting_in test (start + suc (length xs)) ys)
    ≡ l ++ waiting_in test (start + suc (length xs)) ys)
    (λ is. ap (λ (b : Bool). cond b (x ∷ (waiting_in test (suc start) xs ++ waiting_in test (start + suc (length xs)) ys))
    (waiting_in test (suc start) xs ++ waiting_in test (start + suc (length xs)) ys)) is)
    (λ isnt. ap (λ (b : Bool). cond b (x ∷ (waiting_in test (suc start) xs ++ waiting_in test (start + suc (length xs)) ys))
    (waiting_in test (suc start) xs ++ waiting_in test (start + suc (length xs)) ys)) isnt)

-- all that is sent now waits that goes among the bricks
pub waiting_new : (test : ℕ → Packet → Bool) (goes : Packet → Bool) (start : ℕ) (ys : List Packet)
    → Each (λ y. (j : ℕ) → start ≤ j → test j y ≡ goes y) ys → waiting_in test start ys ≡ filter goes ys
waiting_new test goes start [] new = refl
waiting_new test goes start (y ∷ ys) new =
    ap (λ (b : Bool). cond b (y ∷ waiting_in test (suc start) ys) (waiting_in test (suc start) ys)) (new.0 start (omega arith))
    ∙ ap (λ (l : List Packet). cond (goes y) (y ∷ l) l)
    (waiting_new test goes (suc start) ys
    (each_then (λ (x : Packet). (j : ℕ) → start ≤ j → test j x ≡ goes x) (λ (x : Packet). (j : ℕ) → suc start ≤ j → test j x ≡ goes x) ys
    (λ x h j above. h j (omega arith)) new.1))

-- a packet is a message of the same operation while numbers stay
pub operation_same : (w later : World) (packet : Packet) → later.numbers ≡ w.numbers → operation_of later packet ≡ operation_of w packet
operation_same w later packet same = go packet.from packet.to packet.message
  where
    go : (from to : BrickId) (message : Message) → operation_of later (record { from = from; to = to; message = message })
        ≡ operation_of w (record { from = from; to = to; message = message })
    go from to (Message.Request call request) = ap (λ (f : ℕ → ℕ → ℕ → ℕ). f from.0 call.boot call.seq) same
    go from to (Message.Reply call reply) = ap (λ (f : ℕ → ℕ → ℕ → ℕ). f to.0 call.boot call.seq) same
    go from to message = refl

-- The queue once its first was delivered: the rest, and what was sent then and goes among the bricks.
pub record IsDelivered (w later : World) (n number : ℕ) (sent : List Packet) : Type 0 where
  pub numbers : later.numbers ≡ w.numbers
  pub reached : later.reached ≡ put w.reached number true
  pub packets : later.packets ≡ w.packets ++ sent
  pub own : Each (λ packet. operation_of w packet ≡ n) sent

-- what was not sent was not delivered
abbrev pub IsUnsent : World → Type 0
IsUnsent w = (k : ℕ) → length w.packets < k → w.reached k ≡ false

pub delivered_queue : (w later : World) (n : ℕ) (bricks : List BrickId) (packet : Packet) (rest sent : List Packet) → IsUnsent w
    → (head : IsHead (is_left w n bricks) 1 w.packets packet rest) → IsDelivered w later n (1 + head.place) sent
    → waiting later n bricks ≡ rest ++ filter (goes_among bricks) sent
delivered_queue w later n bricks packet rest sent unsent head is =
    ap (λ (l : List Packet). waiting_in (is_left later n bricks) 1 l) is.packets
    ∙ waiting_append (is_left later n bricks) 1 w.packets sent
    ∙ ap₂ (λ (a b : List Packet). a ++ b) (head.left (is_left later n bricks) other none)
    (waiting_new (is_left later n bricks) (goes_among bricks) (1 + length w.packets) sent
    (each_then (λ (x : Packet). operation_of w x ≡ n) (λ (x : Packet). (j : ℕ) → 1 + length w.packets ≤ j → is_left later n bricks j x ≡ goes_among bricks x)
    sent (λ x own j above. new x own j above) is.own))
  where
    number : ℕ
    number = 1 + head.place

    other : (j : ℕ) (x : Packet) → (j ≡ 1 + head.place → ⊥) → is_left later n bricks j x ≡ is_left w n bricks j x
    other j x unlike =
        ap (λ (k : ℕ). nat_eq k n && (not (later.reached j) && goes_among bricks x)) (operation_same w later x is.numbers)
        ∙ ap (λ (f : ℕ → Bool). nat_eq (operation_of w x) n && (not (f j) && goes_among bricks x)) is.reached
        ∙ ap (λ (b : Bool). nat_eq (operation_of w x) n && (not (cond b true (w.reached j)) && goes_among bricks x)) (ne_eqb j number unlike)

    none : (x : Packet) → is_left later n bricks (1 + head.place) x ≡ false
    none x =
        ap (λ (f : ℕ → Bool). nat_eq (operation_of later x) n && (not (f number) && goes_among bricks x)) is.reached
        ∙ ap (λ (b : Bool). nat_eq (operation_of later x) n && (not (cond b true (w.reached number)) && goes_among bricks x)) (eq-eqb number number refl)
        ∙ and_false (nat_eq (operation_of later x) n)
      where
        and_false : (b : Bool) → (b && false) ≡ false
        and_false true = refl
        and_false false = refl

    new : (x : Packet) → operation_of w x ≡ n → (j : ℕ) → 1 + length w.packets ≤ j → is_left later n bricks j x ≡ goes_among bricks x
    new x own j above =
        let inside : head.place < length w.packets = slice_get_within w.packets head.place packet head.stands in
        ap (λ (k : ℕ). nat_eq k n && (not (later.reached j) && goes_among bricks x)) (operation_same w later x is.numbers ∙ own)
        ∙ ap (λ (b : Bool). b && (not (later.reached j) && goes_among bricks x)) (eq-eqb n n refl)
        ∙ ap (λ (f : ℕ → Bool). not (f j) && goes_among bricks x) is.reached
        ∙ ap (λ (b : Bool). not (cond b true (w.reached j)) && goes_among bricks x) (ne_eqb j number (λ e. omega (arith, e, inside, above)))
        ∙ ap (λ (b : Bool). not b && goes_among bricks x) (unsent j (omega arith))
