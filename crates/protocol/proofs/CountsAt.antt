-- Which replies count: those to the very phase, of a member that may count, and from a seat that has none yet.
use Rattle.std.proofs.Common.{◌≡◌, ℕ, ◌-◌, nat_lt, true, false, ◌&&◌, List, Option, Some, None, refl, sym, ◌∙◌, subst}
use Rattle.std.specs.Prelude.{nat_eq, ◌^◌}
use Rattle.std.proofs.lemmas.Bool.{cond_both, eqb-true, and_parts}
use Rattle.messages.specs.declared.calls.Call.{Call}
use Rattle.messages.specs.declared.replies.Reply.{Reply}
use Rattle.fab_base.specs.Layouts.{seat_in}
use Rattle.protocol.specs.Coordinators.{Coordinator, Counted, call_same, answers_phase, has_seat, new_seat, asked_group, may_count, counting_seat, answering_seat, counts_at}

-- calls that test the same are equal
call_of : ℕ → ℕ → ℕ → ℕ → ℕ → ℕ → Call
call_of boot seq phase group view stripe =
    record { boot = boot; seq = seq; phase = phase; group = record { 0 = group }; view = record { 0 = view }; stripe = record { 0 = stripe } }

call_is : (a : Call) → a ≡ call_of a.boot a.seq a.phase a.group.0 a.view.0 a.stripe.0
unfolding call_of
call_is a = refl

call_from : (a b : Call) → a.boot ≡ b.boot → a.seq ≡ b.seq → a.phase ≡ b.phase → a.group.0 ≡ b.group.0 → a.view.0 ≡ b.view.0 → a.stripe.0 ≡ b.stripe.0
    → a ≡ b
call_from a b boot seq phase group view stripe =
    call_is a
    ∙ (let e : call_of a.boot a.seq a.phase a.group.0 a.view.0 a.stripe.0 ≡ call_of b.boot b.seq b.phase b.group.0 b.view.0 b.stripe.0 = cc in e)
    ∙ sym (call_is b)

call_same_true : (a b : Call) → call_same a b ≡ true → a ≡ b
unfolding call_same
call_same_true a b is =
    let p = and_parts (nat_eq a.boot b.boot) _ is in
    let q = and_parts (nat_eq a.seq b.seq) _ p.1 in
    let r = and_parts (nat_eq a.phase b.phase) _ q.1 in
    let s = and_parts (nat_eq a.group.0 b.group.0) _ r.1 in
    let t = and_parts (nat_eq a.view.0 b.view.0) (nat_eq a.stripe.0 b.stripe.0) s.1 in
    call_from a b (eqb-true a.boot b.boot p.0) (eqb-true a.seq b.seq q.0) (eqb-true a.phase b.phase r.0) (eqb-true a.group.0 b.group.0 s.0)
    (eqb-true a.view.0 b.view.0 t.0) (eqb-true a.stripe.0 b.stripe.0 t.1)

-- a reply that counts at a seat
pub record CountsAt (block : ℕ) (c : Coordinator) (from : ℕ) (call : Call) (reply : Reply) (seat : ℕ) : Type 0 where
  pub call_is : call ≡ c.call
  pub answers : answers_phase block c.stamp seat c.phase reply ≡ true
  pub seat_is : seat_in (asked_group c).members from ≡ Some seat
  pub may : may_count c from ≡ true
  pub first : has_seat seat c.counted ≡ false

new_seat_is : (counted : List Counted) (o : Option ℕ) (seat : ℕ) → new_seat counted o ≡ Some seat → (o ≡ Some seat) × (has_seat seat counted ≡ false)
new_seat_is counted None seat is = cc
new_seat_is counted (Some s) seat is =
    cond_both (has_seat s counted) None (Some s)
    (λ (z : Option ℕ). z ≡ Some seat → (Some s ≡ Some seat) × (has_seat seat counted ≡ false))
    (λ has e. cc)
    (λ isnt e. let same : s ≡ seat = cc in (e, subst (λ (z : ℕ). has_seat z counted ≡ false) same isnt))
    is

answering_seat_is : (block : ℕ) (c : Coordinator) (reply : Reply) (o : Option ℕ) (seat : ℕ) → answering_seat block c reply o ≡ Some seat
    → (o ≡ Some seat) × (answers_phase block c.stamp seat c.phase reply ≡ true)
answering_seat_is block c reply None seat is = cc
answering_seat_is block c reply (Some s) seat is =
    cond_both (answers_phase block c.stamp s c.phase reply) (Some s) None
    (λ (z : Option ℕ). z ≡ Some seat → (Some s ≡ Some seat) × (answers_phase block c.stamp seat c.phase reply ≡ true))
    (λ answers e. let same : s ≡ seat = cc in (e, subst (λ (z : ℕ). answers_phase block c.stamp z c.phase reply ≡ true) same answers))
    (λ isnt e. cc)
    is

counting_seat_is : (c : Coordinator) (from seat : ℕ) → counting_seat c from ≡ Some seat
    → (seat_in (asked_group c).members from ≡ Some seat) × (may_count c from ≡ true)
counting_seat_is c from seat is =
    cond_both (may_count c from) (seat_in (asked_group c).members from) None
    (λ (z : Option ℕ). z ≡ Some seat → (seat_in (asked_group c).members from ≡ Some seat) × (may_count c from ≡ true))
    (λ may e. (e, may))
    (λ isnt e. cc)
    is

-- what is known of a reply that counts
pub counts_facts : (block : ℕ) (c : Coordinator) (from : ℕ) (call : Call) (reply : Reply) (seat : ℕ)
    → counts_at block c from call reply ≡ Some seat → CountsAt block c from call reply seat
unfolding counts_at
counts_facts block c from call reply seat is =
    cond_both (call_same call c.call && nat_lt c.call.phase (2 ^ 32 - 1))
    (new_seat c.counted (answering_seat block c reply (counting_seat c from))) None
    (λ (z : Option ℕ). z ≡ Some seat → CountsAt block c from call reply seat)
    (λ test e.
    let p = and_parts (call_same call c.call) (nat_lt c.call.phase (2 ^ 32 - 1)) test in
    let n = new_seat_is c.counted (answering_seat block c reply (counting_seat c from)) seat e in
    let a = answering_seat_is block c reply (counting_seat c from) seat n.0 in
    let s = counting_seat_is c from seat a.0 in
    record { call_is = call_same_true call c.call p.0; answers = a.1; seat_is = s.0; may = s.1; first = n.1 })
    (λ test e. cc)
    is
