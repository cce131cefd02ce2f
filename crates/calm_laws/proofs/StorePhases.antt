-- The two phases that store, alone: each ends with an answer.
use Rattle.std.proofs.Common.{Bool, List, None, Option, Some, [], ap, arith, cond, false, inl, length, map, refl, subst, sym, true, ℕ, ◌&&◌, ◌<◌, ◌∙◌, ◌∷◌, ◌≡◌, inr}
use Rattle.std.proofs.lemmas.Bool.{eq-eqb}
use Rattle.std.proofs.lemmas.Bool.Decides.{nat_tests}
use Rattle.std.specs.Prelude.{nat_eq, nat_lt, ◌-◌, ◌^◌}
use Rattle.calm_laws.proofs.Asking.{each_then, each_so}
use Rattle.calm_laws.proofs.Counts.{counted_of}
use Rattle.calm_laws.proofs.Decided.{asked_in_phase, in_this, modify_decides, none_stops, none_refuses, store_decides}
use Rattle.calm_laws.proofs.PhaseRuns.{Cast, IsOpen}
use Rattle.calm_laws.proofs.Rooms.{not_full}
use Rattle.calm_laws.proofs.Scenes.{Closes, Each, Fits, IsNewest, IsSeated, Part, Scene, Seated, Stage, reaction}
use Rattle.calm_laws.proofs.Storing.{IsStorable, StoresSo, Takes, storing_ends}
use Rattle.fab_base.proofs.StampOrder.{stamp_same_refl}
use Rattle.fab_base.specs.Layouts.{Group}
use Rattle.fab_base.specs.Stamps.{stamp_below, stamp_same}
use Rattle.fab_base.specs.declared.answers.Answer.TheVariants.{Done}
use Rattle.fab_base.specs.declared.stamps.Stamp.{Stamp}
use Rattle.messages.specs.declared.replies.Reply.TheVariants.{Behind, Later, Stored}
use Rattle.messages.specs.declared.requests.Request.{Request}
use Rattle.messages.specs.declared.requests.Version.{Version}
use Rattle.protocol.specs.Calms.{early}
use Rattle.protocol.specs.Coordinators.{Coordinator, Ends, Sends, answer_with, answers_phase, delta_at, in_phase, request_of, some_behind, asks_each}
use Rattle.protocol.specs.Nodes.{fits as request_fits, full_at}
use Rattle.protocol.specs.Replicas.{below, handle, is_changed, modified_block, modified_on, newest_of, stays, stored, top_of, unless_full}
use Rattle.protocol.specs.Worlds.{is_answer}
use Rattle.protocol.specs.declared.phases.Phase.{Phase}
use Rattle.protocol.specs.declared.phases.Phase.TheVariants.{Bases, Modifies, Stores}
use Rattle.quorum.specs.Tallies.{fits}
use Rattle.reg_model.specs.Registers.{read_of}

-- none of these says that it is behind
none_behind : (xs : List Seated) → some_behind (map (counted_of (λ x. Stored)) xs) ≡ false
none_behind [] = refl
none_behind (x ∷ xs) = none_behind xs

-- a read or a write was answered
answers_well : (bytes : Option (List ℕ)) → is_answer (answer_with bytes) ≡ true
answers_well None = refl
answers_well (Some bytes) = refl

-- what is asked fits, by the phase's name
pub fits_in_phase : (stage : Stage) (c : Coordinator) (phase : Phase) (x : Seated) → c.phase ≡ phase → Fits stage (in_this c phase) x → Fits stage c x
fits_in_phase stage c phase x is fits =
    subst (λ (r : Request). request_fits stage.setting.layout stage.group.m c.call r (Some x.seat) ≡ true)
    (sym (asked_in_phase stage.setting.code c phase x.seat is)) fits

-- what a member does, by the phase's name
pub reaction_in_phase : (stage : Stage) (c : Coordinator) (phase : Phase) (part : Part) (x : Seated) → c.phase ≡ phase
    → reaction stage c part x ≡ reaction stage (in_this c phase) part x
reaction_in_phase stage c phase part x is =
    ap (λ (r : Request). handle stage.setting.code stage.group.m (full_at stage.setting.layout.records part.live) x.seat part.replica r)
    (asked_in_phase stage.setting.code c phase x.seat is)

-- a write is stored, where it is stored already or can be
write_so : (stage : Stage) (c : Coordinator) → c.phase ≡ Stores → StoresSo stage c (λ log. Unit {0})
unfolding handle request_of
write_so stage c phase = record {
  has = λ y part held.
      reaction_in_phase stage c Stores part y phase
      ∙ ap (λ (b : Bool). cond b (stays part.replica Stored)
      (cond (stamp_below c.stamp (top_of part.replica)) (stays part.replica (Later (top_of part.replica)))
      (unless_full (full_at stage.setting.layout.records part.live) part.replica
      (stored part.replica c.stamp (stage.setting.code.encode c.group.m c.content y.seat))))) held;
  takes = λ y part unheld tame room any. (
    stage.setting.code.encode c.group.m c.content y.seat,
    reaction_in_phase stage c Stores part y phase
        ∙ ap (λ (b : Bool). cond b (stays part.replica Stored)
        (cond (stamp_below c.stamp (top_of part.replica)) (stays part.replica (Later (top_of part.replica)))
        (unless_full (full_at stage.setting.layout.records part.live) part.replica
        (stored part.replica c.stamp (stage.setting.code.encode c.group.m c.content y.seat))))) unheld
        ∙ ap (λ (b : Bool). cond b (stays part.replica (Later (top_of part.replica)))
        (unless_full (full_at stage.setting.layout.records part.live) part.replica
        (stored part.replica c.stamp (stage.setting.code.encode c.group.m c.content y.seat)))) tame
        ∙ ap (λ (z : Option ℕ). unless_full z part.replica (stored part.replica c.stamp (stage.setting.code.encode c.group.m c.content y.seat)))
        (not_full stage part room),
  );
}

-- each block that is to be stored is as long as a block
abbrev pub HasBlocks : Stage → Coordinator → Type 0
HasBlocks stage c =
    (x : Seated) → IsSeated stage x → length (stage.setting.code.encode c.group.m c.content x.seat) ≡ stage.setting.layout.block

-- so each fits
write_fits : (stage : Stage) (c : Coordinator) (x : Seated) → length (stage.setting.code.encode c.group.m c.content x.seat) ≡ stage.setting.layout.block
    → Fits stage (in_this c Stores) x
unfolding request_of
write_fits stage c x long = eq-eqb (length (stage.setting.code.encode c.group.m c.content x.seat)) stage.setting.layout.block long

-- parts that take version t
abbrev pub AreTaking : Stage → Stamp → (ℕ → Part) → List Seated → Type 0
AreTaking stage t parts xs = Each (λ x. Takes stage t (λ log. Unit {0}) (parts x.brick.0)) xs

-- a store phase ends
pub store_phase : (stage : Stage) (cast : Cast stage) (s : Scene) → IsOpen stage cast s → s.c.phase ≡ Stores → s.c.call.phase < 2 ^ 32 - 1
    → HasBlocks stage s.c → AreTaking stage s.c.stamp s.parts cast.xs → Closes stage s
store_phase stage cast s open_is phase early blocks taking =
    storing_ends stage cast s (λ log. Unit {0}) open_is (inl (ap (λ (p : Phase). asks_each p) phase)) (write_so stage s.c phase) early
    (λ x seated. fits_in_phase stage s.c Stores x phase (write_fits stage s.c x (blocks x seated)))
    (each_then (λ (x : Seated). Takes stage s.c.stamp (λ log. Unit {0}) (s.parts x.brick.0))
    (λ (x : Seated). IsStorable stage s.c.stamp (λ log. Unit {0}) (s.parts x.brick.0)) cast.xs
    (λ x h. inl h) taking)
    (each_so (λ (x : Seated). answers_phase stage.setting.layout.block s.c.stamp x.seat s.c.phase Stored ≡ true)
    (λ x. ap (λ (p : Phase). answers_phase stage.setting.layout.block s.c.stamp x.seat p Stored) phase) cast.xs)
    (λ fresh. (
      answer_with (read_of stage.setting.layout.block s.c.ask.op s.c.content),
      answers_well (read_of stage.setting.layout.block s.c.ask.op s.c.content),
      store_decides stage.setting.layout.block stage.setting.code fresh (record s.c { counted = map (counted_of (λ x. Stored)) cast.xs })
          (none_stops (λ x. Stored) (record { unmoved = λ x. refl; undropped = λ x. refl; unfull = λ x. refl }) cast.xs) phase (none_refuses (λ x. Stored) (λ x. refl) cast.xs),
    ))

-- a change is stored, where it is stored already, or its base is the newest version
modify_so : (stage : Stage) (c : Coordinator) (base : Stamp) (j : ℕ) → c.phase ≡ Modifies base j → StoresSo stage c (IsNewest base)
unfolding handle request_of
modify_so stage c base j phase = record {
  has = λ y part held.
      reaction_in_phase stage c (Modifies base j) part y phase
      ∙ ap (λ (b : Bool). cond b (stays part.replica Stored)
      (cond (stamp_below c.stamp (top_of part.replica)) (stays part.replica (Later (top_of part.replica)))
      (modified_on stage.setting.code stage.group.m (full_at stage.setting.layout.records part.live) y.seat part.replica c.stamp base j
      (delta_at c.group.m j y.seat c.content) (newest_of part.replica.log)))) held;
  takes = λ y part unheld tame room newest. (
    modified_block stage.setting.code stage.group.m j y.seat (delta_at c.group.m j y.seat c.content) newest.0.block,
    reaction_in_phase stage c (Modifies base j) part y phase
        ∙ ap (λ (b : Bool). cond b (stays part.replica Stored)
        (cond (stamp_below c.stamp (top_of part.replica)) (stays part.replica (Later (top_of part.replica)))
        (modified_on stage.setting.code stage.group.m (full_at stage.setting.layout.records part.live) y.seat part.replica c.stamp base j
        (delta_at c.group.m j y.seat c.content) (newest_of part.replica.log)))) unheld
        ∙ ap (λ (b : Bool). cond b (stays part.replica (Later (top_of part.replica)))
        (modified_on stage.setting.code stage.group.m (full_at stage.setting.layout.records part.live) y.seat part.replica c.stamp base j
        (delta_at c.group.m j y.seat c.content) (newest_of part.replica.log))) tame
        ∙ ap (λ (z : Option Version). modified_on stage.setting.code stage.group.m (full_at stage.setting.layout.records part.live) y.seat part.replica
        c.stamp base j (delta_at c.group.m j y.seat c.content) z) newest.1
        ∙ ap (λ (b : Bool). cond b (unless_full (full_at stage.setting.layout.records part.live) part.replica
        (stored part.replica c.stamp (modified_block stage.setting.code stage.group.m j y.seat (delta_at c.group.m j y.seat c.content) newest.0.block)))
        (stays part.replica (Behind (Some newest.0.stamp))))
        (subst (λ (z : Stamp). stamp_same newest.0.stamp z ≡ true) newest.2 (stamp_same_refl newest.0.stamp))
        ∙ ap (λ (z : Option ℕ). unless_full z part.replica
        (stored part.replica c.stamp (modified_block stage.setting.code stage.group.m j y.seat (delta_at c.group.m j y.seat c.content) newest.0.block)))
        (not_full stage part room),
  );
}

-- what a block changes by fits each seat
modify_fits : (stage : Stage) (c : Coordinator) (base : Stamp) (j : ℕ) (x : Seated) → c.group ≡ stage.group → j < stage.group.m
    → length c.content ≡ stage.setting.layout.block → Fits stage (in_this c (Modifies base j)) x
unfolding request_of
modify_fits stage c base j x group below long =
    subst (λ (g : Group). (nat_lt j stage.group.m && nat_eq (length (delta_at g.m j x.seat c.content))
    (cond (is_changed stage.group.m j x.seat) stage.setting.layout.block 0)) ≡ true) (sym group)
    (ap (λ (b : Bool). b && nat_eq (length (delta_at stage.group.m j x.seat c.content))
    (cond (is_changed stage.group.m j x.seat) stage.setting.layout.block 0)) less
    ∙ either (is_changed stage.group.m j x.seat))
  where
    less : nat_lt j stage.group.m ≡ true
    less = grind (arith, nat_tests)

    either : (b : Bool) → nat_eq (length (cond b c.content [])) (cond b stage.setting.layout.block 0) ≡ true
    either true = eq-eqb (length c.content) stage.setting.layout.block long
    either false = refl

-- parts that take version t, and have this base
abbrev pub AreOn : Stage → Stamp → Stamp → (ℕ → Part) → List Seated → Type 0
AreOn stage t base parts xs = Each (λ x. Takes stage t (IsNewest base) (parts x.brick.0)) xs

-- a phase that modifies the newest version of all ends
pub modify_phase : (stage : Stage) (cast : Cast stage) (s : Scene) (base : Stamp) (j : ℕ) → stage.only ≡ None → IsOpen stage cast s
    → s.c.phase ≡ Modifies base j
    → s.c.call.phase < 2 ^ 32 - 1 → j < stage.group.m → length s.c.content ≡ stage.setting.layout.block
    → AreOn stage s.c.stamp base s.parts cast.xs → Closes stage s
modify_phase stage cast s base j every open_is phase early below long on =
    storing_ends stage cast s (IsNewest base) open_is (inr every) (modify_so stage s.c base j phase) early
    (λ x seated. fits_in_phase stage s.c (Modifies base j) x phase (modify_fits stage s.c base j x open_is.in_view.of.group below long))
    (each_then (λ (x : Seated). Takes stage s.c.stamp (IsNewest base) (s.parts x.brick.0))
    (λ (x : Seated). IsStorable stage s.c.stamp (IsNewest base) (s.parts x.brick.0)) cast.xs
    (λ x h. inl h) on)
    (each_so (λ (x : Seated). answers_phase stage.setting.layout.block s.c.stamp x.seat s.c.phase Stored ≡ true)
    (λ x. ap (λ (p : Phase). answers_phase stage.setting.layout.block s.c.stamp x.seat p Stored) phase) cast.xs)
    (λ fresh. (
      Done,
      refl,
      modify_decides stage.setting.layout.block stage.setting.code fresh (record s.c { counted = map (counted_of (λ x. Stored)) cast.xs })
          (none_stops (λ x. Stored) (record { unmoved = λ x. refl; undropped = λ x. refl; unfull = λ x. refl }) cast.xs) base j phase (none_refuses (λ x. Stored) (λ x. refl) cast.xs)
          ∙ ap (λ (b : Bool). cond b (Sends (in_phase (record s.c { counted = map (counted_of (λ x. Stored)) cast.xs }) (Bases base)))
          (Ends Done None (Some s.c.stamp))) (none_behind cast.xs),
    ))
