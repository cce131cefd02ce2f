-- Operations that have marks: the one that a mark's number names has, and a delivery leaves what marks an operation has.
use Rattle.std.proofs.Common.{◌≡◌, ℕ, zero, suc, ◌+◌, ◌≤◌, true, nat_eq, Option, Some, None, refl, sym, ap, ◌∙◌, arith}
use Rattle.std.specs.Prelude.{nat_lt}
use Rattle.std.proofs.lemmas.Bool.{and_parts, cond_both, eqb-true}
use Rattle.std.proofs.lemmas.Option.{same_Some}
use Rattle.fab_base.specs.declared.answers.Answer.{Answer}
use Rattle.fab_base.specs.declared.answers.Cause.{Cause}
use Rattle.fab_base.specs.declared.stamps.Stamp.{Stamp}
use Rattle.protocol.specs.Settings.{Setting}
use Rattle.protocol.specs.Nodes.{put}
use Rattle.protocol.specs.Happenings.{is_marked}
use Rattle.protocol.specs.Worlds.{World, Operation, Delivers, number_of, read_of_call, with_made, with_seen, with_closed, with_answer, happens}
use Rattle.protocol.specs.Calms.{has_mark, number_marked, operation_marked}
use Rattle.protocol.proofs.Events.{step_on, world_counting, world_handled, handled_or_not, stepped_each}
use Rattle.world.specs.Shown.{HasMarks}

-- the operation that a mark's number names has marks, where there is none of number 0
marked_in : (operations : ℕ → Option Operation) (mark n : ℕ) → operations 0 ≡ None → (o : Operation)
    → operations (number_marked operations mark n) ≡ Some o → is_marked o ≡ true
marked_in operations mark zero none o is = absurd (let never : None ≡ Some o = sym none ∙ is in cc)
marked_in operations mark (suc n) none o found =
    cond_both (has_mark mark (operations (suc n))) (suc n) (number_marked operations mark n) (λ (k : ℕ). operations k ≡ Some o → is_marked o ≡ true)
    (λ has is. (and_parts (is_marked o) (nat_eq o.mark mark) (sym (ap (has_mark mark) is) ∙ has)).0)
    (λ hasnt is. marked_in operations mark n none o is) found

pub marked_has : (w : World) (mark : ℕ) → w.operations 0 ≡ None → HasMarks w (operation_marked w mark)
marked_has w mark none o is = marked_in w.operations mark w.begun none o is

-- a change of an operation that leaves the number of its marks
abbrev LeavesMark : (Option Operation → Option Operation) → Type 0
LeavesMark change = (found : Option Operation) (o : Operation) → change found ≡ Some o → (p : Operation) × (found ≡ Some p) × (o.mark ≡ p.mark)

made_leaves : (t : Stamp) (base : Option Stamp) → LeavesMark (with_made t base)
made_leaves t base None o is = absurd (let never : None ≡ Some o = is in cc)
made_leaves t base (Some p) o is = (p, refl, sym (ap (λ (x : Operation). x.mark) (same_Some _ o is)))

seen_leaves : (v : Stamp) → LeavesMark (with_seen v)
seen_leaves v None o is = absurd (let never : None ≡ Some o = is in cc)
seen_leaves v (Some p) o is = (p, refl, sym (ap (λ (x : Operation). x.mark) (same_Some _ o is)))

closed_leaves : (cause : Option Cause) → LeavesMark (with_closed cause)
closed_leaves cause None o is = absurd (let never : None ≡ Some o = is in cc)
closed_leaves cause (Some p) o is = (p, refl, sym (ap (λ (x : Operation). x.mark) (same_Some _ o is)))

answer_leaves : (answer : Answer) → LeavesMark (with_answer answer)
answer_leaves answer None o is = absurd (let never : None ≡ Some o = is in cc)
answer_leaves answer (Some p) o is = (p, refl, sym (ap (λ (x : Operation). x.mark) (same_Some _ o is)))

-- one of the operations so far has marks
abbrev MarkedSoFar : ℕ → World → Type 0
MarkedSoFar n w = (n ≤ w.begun) × HasMarks w n

marked_changed : (n : ℕ) (w : World) (k : ℕ) (change : Option Operation → Option Operation) → LeavesMark change → MarkedSoFar n w
    → (o : Operation) → put w.operations k (change (w.operations k)) n ≡ Some o → is_marked o ≡ true
marked_changed n w k change leaves marked o =
    cond_both (nat_eq n k) (change (w.operations k)) (w.operations n) (λ (x : Option Operation). x ≡ Some o → is_marked o ≡ true)
    (λ here is.
    let was = leaves (w.operations k) o is in
    let at : w.operations n ≡ Some was.0 = ap w.operations (eqb-true n k here) ∙ was.1 in
    ap (λ (m : ℕ). nat_lt 0 m) was.2 ∙ marked.1 was.0 at)
    (λ there is. marked.1 o is)

marked_handled : (setting : Setting) (w : World) (number : ℕ) (packet : _) (n : ℕ) → MarkedSoFar n w → MarkedSoFar n (world_handled setting w number packet)
marked_handled setting w number packet n marked =
    stepped_each (MarkedSoFar n) setting packet.to (step_on setting w packet)
    (λ x seq t base so. (so.0, marked_changed n x (number_of x packet.to.0 seq) (with_made t base) (made_leaves t base) so))
    (λ x seq v so. (so.0, marked_changed n x (number_of x packet.to.0 seq) (with_seen v) (seen_leaves v) so))
    (λ x nodes call so. (
      omega (arith, so.0),
      λ o.
          cond_both (nat_eq n (x.begun + 1)) (Some (read_of_call nodes x packet.to call)) (x.operations n) (λ (y : Option Operation). y ≡ Some o → is_marked o ≡ true)
          (λ here is. (let e : n ≡ x.begun + 1 = eqb-true n (x.begun + 1) here in absurd (omega (arith, e, so.0)))) (λ there is. so.1 o is),
    ))
    (λ x seq cause so. (so.0, marked_changed n x (number_of x packet.to.0 seq) (with_closed cause) (closed_leaves cause) so))
    (λ x one so. (so.0, marked_changed n x (number_of x packet.to.0 one.seq) (with_answer one.answer) (answer_leaves one.answer) so))
    (λ x nodes held packets choices so. so) (world_counting setting w number packet) marked

-- a delivery leaves that it has
pub marks_left : (setting : Setting) (w : World) (number n : ℕ) → n ≤ w.begun → HasMarks w n
    → (n ≤ (happens setting w (Delivers number)).begun) × HasMarks (happens setting w (Delivers number)) n
marks_left setting w number n within marked =
    handled_or_not (MarkedSoFar n) setting w (within, marked) number (λ packet at up. marked_handled setting w number packet n (within, marked))
