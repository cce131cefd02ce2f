-- A round of ordering, alone: where no member of the quorum refuses, all promise; else the next round has a stamp above all that they have come to.
use Rattle.std.proofs.Common.{Bool, List, None, Option, Some, [], ap, arith, cond, false, inl, inr, le_trans, map, refl, subst, sym, true, ℕ, ⊎_elim, ◌∙◌, ◌∷◌, ◌≡◌, ◌≤◌}
use Rattle.std.proofs.lemmas.Bool.{cases_Bool, cond_both, false≢true}
use Rattle.std.specs.Prelude.{nat_lt}
use Rattle.calm_laws.proofs.Asking.{Keeps, Replies}
use Rattle.calm_laws.proofs.Counts.{counted_of, told}
use Rattle.calm_laws.proofs.Hearing.{known_through}
use Rattle.calm_laws.proofs.Ordering.{looking}
use Rattle.calm_laws.proofs.Rooms.{Room, not_full, promised_tame}
use Rattle.calm_laws.proofs.Scenes.{Each, Part, Seated, Stage, asked_of, reaction}
use Rattle.calm_laws.proofs.Storing.{with_reaction}
use Rattle.fab_base.specs.Stamps.{first_stamp, stamp_below, stamp_same}
use Rattle.fab_base.specs.declared.stamps.Stamp.{Stamp}
use Rattle.messages.specs.declared.calls.Call.{Call}
use Rattle.messages.specs.declared.replies.Reply.{Reply}
use Rattle.messages.specs.declared.replies.Reply.TheVariants.{Later, Ordered}
use Rattle.messages.specs.declared.requests.Look.{Look}
use Rattle.messages.specs.declared.requests.Request.{Request}
use Rattle.messages.specs.declared.requests.Version.{Version}
use Rattle.messages.specs.declared.requests.Want.{Want}
use Rattle.protocol.specs.Coordinators.{Coordinator, greater_refuser, greatest_refuser, refuser_of}
use Rattle.protocol.specs.Nodes.{full_at, known_after}
use Rattle.protocol.specs.Replicas.{Reaction, handle, promised, stays, top_of, unless_full}
use Rattle.protocol.specs.declared.phases.Counted.{Counted}
use Rattle.protocol.specs.declared.phases.Refuser.{Refuser}

-- the time of a later stamp that a reply tells
abbrev pub told_time : Reply → ℕ
told_time (Later t) = t.time
told_time reply = 0

-- the known time grows by what is heard, and no further than that
after_least : (known : ℕ) (reply : Reply) → known ≤ known_after known reply
after_least known (Later t) = omega arith
after_least known reply = omega arith

after_told : (known : ℕ) (reply : Reply) → told_time reply ≤ known_after known reply
after_told known (Later t) = omega arith
after_told known reply = omega arith

after_most : (known b : ℕ) (reply : Reply) → known ≤ b → told_time reply ≤ b → known_after known reply ≤ b
after_most known b (Later t) low told = omega arith
after_most known b reply low told = low

pub through_least : (stage : Stage) (call : Call) (f : Seated → Reply) (xs : List Seated) (known : ℕ)
    → known ≤ known_through (told stage call f xs) known
through_least stage call f [] known = omega arith
through_least stage call f (x ∷ xs) known =
    le_trans (after_least known (f x)) (through_least stage call f xs (known_after known (f x)))

pub through_told : (stage : Stage) (call : Call) (f : Seated → Reply) (xs : List Seated) (known : ℕ)
    → Each (λ x. told_time (f x) ≤ known_through (told stage call f xs) known) xs
through_told stage call f [] known = tt
through_told stage call f (x ∷ xs) known = (
  le_trans (after_told known (f x)) (through_least stage call f xs (known_after known (f x))),
  through_told stage call f xs (known_after known (f x)),
)

pub through_most : (stage : Stage) (call : Call) (f : Seated → Reply) (b : ℕ) (xs : List Seated) (known : ℕ) → known ≤ b
    → Each (λ x. told_time (f x) ≤ b) xs → known_through (told stage call f xs) known ≤ b
through_most stage call f b [] known low each = low
through_most stage call f b (x ∷ xs) known low each =
    through_most stage call f b xs (known_after known (f x)) (after_most known b (f x) low each.0) each.1

-- what a member does with an order: it tells its top, where that is above the stamp, and else promises
abbrev pub OrdersWhole : Stage → Coordinator → (Seated → List Version → Reply) → Type 0
OrdersWhole stage c answer =
    (y : Seated) (part : Part) → Room stage part
    → reaction stage c part y ≡ cond (stamp_below c.stamp (top_of part.replica)) (stays part.replica (Later (top_of part.replica)))
    (promised part.replica c.stamp (answer y part.replica.log))

pub reads_whole : (stage : Stage) (c : Coordinator) (look : Look) (want : Want)
    → ((x : Seated) → asked_of stage c x ≡ Request.OrderRead c.stamp look want) → OrdersWhole stage c (looking look want)
unfolding handle
reads_whole stage c look want asks y part room =
    ap (λ (r : Request). handle stage.setting.code stage.group.m (full_at stage.setting.layout.records part.live) y.seat part.replica r) (asks y)
    ∙ ap (λ (z : Option ℕ). cond (stamp_below c.stamp (top_of part.replica)) (stays part.replica (Later (top_of part.replica)))
    (unless_full z part.replica (promised part.replica c.stamp (looking look want y part.replica.log)))) (not_full stage part room)

pub order_whole : (stage : Stage) (c : Coordinator) → ((x : Seated) → asked_of stage c x ≡ Request.Order c.stamp)
    → OrdersWhole stage c (λ x log. Ordered)
unfolding handle
order_whole stage c asks y part room =
    ap (λ (r : Request). handle stage.setting.code stage.group.m (full_at stage.setting.layout.records part.live) y.seat part.replica r) (asks y)
    ∙ ap (λ (z : Option ℕ). cond (stamp_below c.stamp (top_of part.replica)) (stays part.replica (Later (top_of part.replica)))
    (unless_full z part.replica (promised part.replica c.stamp Ordered))) (not_full stage part room)

-- A part, in a round of stamp t at a part that had come to this top: it is above t as that was, or has come to t at most, as that had.
pub record IsMixed (stage : Stage) (t top : Stamp) (log : List Version) (part : Part) : Type 0 where
  pub log_is : part.replica.log ≡ log
  pub room : Room stage part
  pub same : stamp_below t (top_of part.replica) ≡ stamp_below t top
  pub kept : stamp_below t top ≡ true → top_of part.replica ≡ top

abbrev pub MixedWith : Stage → Stamp → (ℕ → Stamp) → (ℕ → List Version) → ℕ → Part → Type 0
MixedWith stage t tops logs i part = IsMixed stage t (tops i) (logs i) part

-- a part that stays has room as before
pub stays_room : (stage : Stage) (part : Part) (reply : Reply) → Room stage part → Room stage (with_reaction part (stays part.replica reply))
stays_room stage part reply (inl two) = inl (omega arith)
stays_room stage part reply (inr one) = let low = one.0 in inr (omega (arith, low), one.1)

pub mixed_keeps : (stage : Stage) (c : Coordinator) (answer : Seated → List Version → Reply) (tops : ℕ → Stamp) (logs : ℕ → List Version)
    → stamp_same c.stamp first_stamp ≡ false → OrdersWhole stage c answer → Keeps stage c (MixedWith stage c.stamp tops logs)
mixed_keeps stage c answer tops logs later so i y part is = ⊎_elim
    (λ (above : stamp_below c.stamp (top_of part.replica) ≡ true).
    subst (λ (r : Reaction). IsMixed stage c.stamp (tops i) (logs i) (with_reaction part r))
    (sym (so y part is.room
    ∙ ap (λ (b : Bool). cond b (stays part.replica (Later (top_of part.replica))) (promised part.replica c.stamp (answer y part.replica.log))) above))
    (record {
      log_is = is.log_is;
      room = stays_room stage part (Later (top_of part.replica)) is.room;
      same = is.same;
      kept = is.kept;
    }))
    (λ (tame : stamp_below c.stamp (top_of part.replica) ≡ false).
    let kept = promised_tame stage c.stamp (logs i) (answer y part.replica.log) part later (record { log_is = is.log_is; tame = tame; room = is.room }) in
    subst (λ (r : Reaction). IsMixed stage c.stamp (tops i) (logs i) (with_reaction part r))
    (sym (so y part is.room
    ∙ ap (λ (b : Bool). cond b (stays part.replica (Later (top_of part.replica))) (promised part.replica c.stamp (answer y part.replica.log))) tame))
    (record {
      log_is = kept.log_is;
      room = kept.room;
      same = kept.tame ∙ sym (sym is.same ∙ tame);
      kept = λ above. absurd (false≢true (sym (sym is.same ∙ tame) ∙ above));
    }))
    (cases_Bool (stamp_below c.stamp (top_of part.replica)))

-- what a member replies
abbrev pub mixed_reply : Stamp → (ℕ → Stamp) → (ℕ → List Version) → (Seated → List Version → Reply) → Seated → Reply
mixed_reply t tops logs answer x =
    cond (stamp_below t (tops x.brick.0)) (Later (tops x.brick.0)) (answer x (logs x.brick.0))

pub mixed_replies : (stage : Stage) (c : Coordinator) (answer : Seated → List Version → Reply) (tops : ℕ → Stamp) (logs : ℕ → List Version)
    → OrdersWhole stage c answer → Replies stage c (MixedWith stage c.stamp tops logs) (mixed_reply c.stamp tops logs answer)
mixed_replies stage c answer tops logs so x part is =
    ap (λ (r : Reaction). r.reply) (so x part is.room) ∙ go (stamp_below c.stamp (tops x.brick.0)) refl
  where
    go : (b : Bool) → stamp_below c.stamp (tops x.brick.0) ≡ b
        → (cond (stamp_below c.stamp (top_of part.replica)) (stays part.replica (Later (top_of part.replica)))
        (promised part.replica c.stamp (answer x part.replica.log))).reply
        ≡ Some (mixed_reply c.stamp tops logs answer x)
    go true above =
        ap (λ (b : Bool). (cond b (stays part.replica (Later (top_of part.replica)))
        (promised part.replica c.stamp (answer x part.replica.log))).reply) (is.same ∙ above)
        ∙ ap (λ (z : Stamp). Some (Later z)) (is.kept above)
        ∙ sym (ap (λ (b : Bool). Some (cond b (Later (tops x.brick.0)) (answer x (logs x.brick.0)))) above)
    go false tame =
        ap (λ (b : Bool). (cond b (stays part.replica (Later (top_of part.replica)))
        (promised part.replica c.stamp (answer x part.replica.log))).reply) (is.same ∙ tame)
        ∙ ap (λ (log : List Version). Some (answer x log)) is.log_is
        ∙ sym (ap (λ (b : Bool). Some (cond b (Later (tops x.brick.0)) (answer x (logs x.brick.0)))) tame)

-- where none refuses, no member was above the stamp
refuser_none : (a b : Option Refuser) → greater_refuser a b ≡ None → (a ≡ None) × (b ≡ None)
refuser_none None b is = (refl, is)
refuser_none (Some a) None is = cc
refuser_none (Some a) (Some b) is =
    absurd (cond_both (stamp_below a.stamp b.stamp) (Some b)
    (cond (stamp_below b.stamp a.stamp) (Some a) (cond (nat_lt b.seat a.seat) (Some b) (Some a)))
    (λ (z : Option Refuser). z ≡ None → ⊥) (λ less e. cc)
    (λ not_less. cond_both (stamp_below b.stamp a.stamp) (Some a) (cond (nat_lt b.seat a.seat) (Some b) (Some a))
    (λ (z : Option Refuser). z ≡ None → ⊥) (λ more e. cc)
    (λ same. cond_both (nat_lt b.seat a.seat) (Some b) (Some a) (λ (z : Option Refuser). z ≡ None → ⊥) (λ lower e. cc) (λ higher e. cc))) is)

pub unrefused_tame : (t : Stamp) (tops : ℕ → Stamp) (logs : ℕ → List Version) (answer : Seated → List Version → Reply) (xs : List Seated)
    → greatest_refuser (map (counted_of (mixed_reply t tops logs answer)) xs) ≡ None → Each (λ x. stamp_below t (tops x.brick.0) ≡ false) xs
unrefused_tame t tops logs answer [] none = tt
unrefused_tame t tops logs answer (x ∷ xs) none =
    let parts = refuser_none (refuser_of (counted_of (mixed_reply t tops logs answer) x))
    (greatest_refuser (map (counted_of (mixed_reply t tops logs answer)) xs)) none in (
      ⊎_elim
          (λ (above : stamp_below t (tops x.brick.0) ≡ true).
          let e : refuser_of (record { seat = x.seat; brick = x.brick; reply = Later (tops x.brick.0) }) ≡ None
          = sym (ap (λ (b : Bool). refuser_of (record { seat = x.seat; brick = x.brick; reply = cond b (Later (tops x.brick.0)) (answer x (logs x.brick.0)) })) above)
          ∙ parts.0 in
          cc)
          (λ (tame : stamp_below t (tops x.brick.0) ≡ false). tame)
          (cases_Bool (stamp_below t (tops x.brick.0))),
      unrefused_tame t tops logs answer xs parts.1,
    )

-- then what counts is what they promised with
pub tame_counted : (t : Stamp) (tops : ℕ → Stamp) (logs : ℕ → List Version) (answer : Seated → List Version → Reply) (xs : List Seated)
    → Each (λ x. stamp_below t (tops x.brick.0) ≡ false) xs
    → map (counted_of (mixed_reply t tops logs answer)) xs ≡ map (counted_of (λ x. answer x (logs x.brick.0))) xs
tame_counted t tops logs answer [] tame = refl
tame_counted t tops logs answer (x ∷ xs) tame =
    ap (λ (b : Bool). record { seat = x.seat; brick = x.brick; reply = cond b (Later (tops x.brick.0)) (answer x (logs x.brick.0)) }
    ∷ map (counted_of (mixed_reply t tops logs answer)) xs) tame.0
    ∙ ap (λ (l : List Counted). counted_of (λ x. answer x (logs x.brick.0)) x ∷ l) (tame_counted t tops logs answer xs tame.1)
