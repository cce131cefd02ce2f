-- What a coordinator decides, by its phase, of replies that none refuses.
use Rattle.protocol.specs.declared.phases.Dropper.{Dropper}
use Rattle.std.proofs.Common.{List, None, Option, Some, [], ap, map, refl, sym, ℕ, ◌∙◌, ◌∷◌, ◌≡◌}
use Rattle.calm_laws.proofs.Counts.{counted_of}
use Rattle.calm_laws.proofs.Scenes.{Seated}
use Rattle.fab_base.specs.declared.stamps.Stamp.{Stamp}
use Rattle.messages.specs.declared.replies.Reply.{Reply}
use Rattle.protocol.specs.Coordinators.{Coordinator, Ends, Makes, answer_with, answered_fast, answered_fast_at, common_version_at, decided, fast_version, fast_version_at, full_member_of, greater_refuser, greatest_found, greatest_refuser, in_phase, lower_full, lower_mover, lowest_full, lowest_mover, modified_if, mover_of, once_modified, once_ordered, read_back, refuser_of, request_of, unless_refused, unless_told_full, unless_told_moved, Next, dropper_of, lower_dropper, lowest_dropper, unless_told_gone}
use Rattle.protocol.specs.Settings.{Code}
use Rattle.protocol.specs.declared.phases.FullMember.{FullMember}
use Rattle.protocol.specs.declared.phases.Mover.{Mover}
use Rattle.protocol.specs.declared.phases.Counted.{Counted}
use Rattle.protocol.specs.declared.phases.Phase.{Phase}
use Rattle.protocol.specs.declared.phases.Phase.TheVariants.{Descends, Looks, LooksAt, Modifies, Orders, OrdersAt, Recovers, Stores, LooksBack}
use Rattle.protocol.specs.declared.phases.Refuser.{Refuser}
use Rattle.reg_model.specs.Registers.{read_of}

-- no member is full where none of the replies says so
none_full : (f : Seated → Reply) → ((x : Seated) → full_member_of (counted_of f x) ≡ None) → (xs : List Seated)
    → lowest_full (map (counted_of f) xs) ≡ None
none_full f none [] = refl
none_full f none (x ∷ xs) =
    ap (λ (z : Option FullMember). lower_full z (lowest_full (map (counted_of f) xs))) (none x) ∙ none_full f none xs

-- none tells that it serves the view no more where no reply does
none_moved : (f : Seated → Reply) → ((x : Seated) → mover_of (counted_of f x) ≡ None) → (xs : List Seated)
    → lowest_mover (map (counted_of f) xs) ≡ None
none_moved f none [] = refl
none_moved f none (x ∷ xs) =
    ap (λ (z : Option Mover). lower_mover z (lowest_mover (map (counted_of f) xs))) (none x) ∙ none_moved f none xs

-- none tells that it has dropped the versions of the view before where no reply does
none_dropped : (f : Seated → Reply) → ((x : Seated) → dropper_of (counted_of f x) ≡ None) → (xs : List Seated)
    → lowest_dropper (map (counted_of f) xs) ≡ None
none_dropped f none [] = refl
none_dropped f none (x ∷ xs) =
    ap (λ (z : Option Dropper). lower_dropper z (lowest_dropper (map (counted_of f) xs))) (none x) ∙ none_dropped f none xs

-- no member aborts the operation by what it is: none serves the view no more, none has dropped the versions of the view before, and none is full
pub record AreRoomy (counted : List Counted) : Type 0 where
  pub unmoved : lowest_mover counted ≡ None
  pub undropped : lowest_dropper counted ≡ None
  pub unfull : lowest_full counted ≡ None

-- no reply of these members says so
pub record StopsNone (f : Seated → Reply) : Type 0 where
  pub unmoved : (x : Seated) → mover_of (counted_of f x) ≡ None
  pub undropped : (x : Seated) → dropper_of (counted_of f x) ≡ None
  pub unfull : (x : Seated) → full_member_of (counted_of f x) ≡ None

pub none_stops : (f : Seated → Reply) → StopsNone f → (xs : List Seated) → AreRoomy (map (counted_of f) xs)
none_stops f stops xs = record {
  unmoved = none_moved f stops.unmoved xs;
  undropped = none_dropped f stops.undropped xs;
  unfull = none_full f stops.unfull xs;
}

-- then the phase decides
roomy_goes : (counted : List Counted) → AreRoomy counted → (next : Next)
    → unless_told_moved (lowest_mover counted) (unless_told_gone (lowest_dropper counted) (unless_told_full (lowest_full counted) next)) ≡ next
roomy_goes counted roomy next =
    ap (λ (z : Option Mover). unless_told_moved z (unless_told_gone (lowest_dropper counted) (unless_told_full (lowest_full counted) next))) roomy.unmoved
    ∙ ap (λ (z : Option Dropper). unless_told_gone z (unless_told_full (lowest_full counted) next)) roomy.undropped
    ∙ ap (λ (z : Option FullMember). unless_told_full z next) roomy.unfull

-- none refuses where no reply does
pub none_refuses : (f : Seated → Reply) → ((x : Seated) → refuser_of (counted_of f x) ≡ None) → (xs : List Seated)
    → greatest_refuser (map (counted_of f) xs) ≡ None
none_refuses f none [] = refl
none_refuses f none (x ∷ xs) =
    ap (λ (z : Option Refuser). greater_refuser z (greatest_refuser (map (counted_of f) xs))) (none x) ∙ none_refuses f none xs

-- a coordinator that is in this phase
abbrev pub in_this : Coordinator → Phase → Coordinator
in_this c phase = record c { phase = phase }

-- what the phase decides, by its name
pub decided_in_phase : (block : ℕ) (code : Code) (fresh : Option Stamp) (c : Coordinator) (phase : Phase) → c.phase ≡ phase
    → decided block code fresh c ≡ decided block code fresh (in_this c phase)
decided_in_phase block code fresh c phase is = ap (λ (p : Phase). decided block code fresh (in_this c p)) is

pub asked_in_phase : (code : Code) (c : Coordinator) (phase : Phase) (seat : ℕ) → c.phase ≡ phase
    → request_of code c seat ≡ request_of code (in_this c phase) seat
asked_in_phase code c phase seat is = ap (λ (p : Phase). request_of code (in_this c p) seat) is

module _ (block : ℕ) (code : Code) (fresh : Option Stamp) (c : Coordinator) (roomy : AreRoomy c.counted) where
  -- a store ends
  pub store_decides : c.phase ≡ Stores → greatest_refuser c.counted ≡ None
      → decided block code fresh c ≡ Ends (answer_with (read_of block c.ask.op c.content)) None (Some c.stamp)
  unfolding decided
  store_decides phase unrefused =
      decided_in_phase block code fresh c Stores phase
      ∙ roomy_goes c.counted roomy (unless_refused (greatest_refuser c.counted) (Ends (answer_with (read_of block c.ask.op c.content)) None (Some c.stamp)))
      ∙ ap (λ (z : Option Refuser). unless_refused z (Ends (answer_with (read_of block c.ask.op c.content)) None (Some c.stamp))) unrefused

  pub modify_decides : (base : Stamp) (j : ℕ) → c.phase ≡ Modifies base j → greatest_refuser c.counted ≡ None
      → decided block code fresh c ≡ once_modified c base
  unfolding decided
  modify_decides base j phase unrefused =
      decided_in_phase block code fresh c (Modifies base j) phase
      ∙ roomy_goes c.counted roomy (unless_refused (greatest_refuser c.counted) (once_modified (in_this c (Modifies base j)) base))
      ∙ ap (λ (z : Option Refuser). unless_refused z (once_modified (in_this c (Modifies base j)) base)) unrefused
      ∙ ap (λ (p : Phase). once_modified (in_this c p) base) (sym phase)

  -- the greatest version that was found is read back
  pub descend_decides : (bound : Stamp) → c.phase ≡ Descends bound → greatest_refuser c.counted ≡ None
      → decided block code fresh c ≡ read_back block code c (greatest_found c.counted)
  unfolding decided
  descend_decides bound phase unrefused =
      decided_in_phase block code fresh c (Descends bound) phase
      ∙ roomy_goes c.counted roomy (unless_refused (greatest_refuser c.counted)
      (read_back block code (in_this c (Descends bound)) (greatest_found c.counted)))
      ∙ ap (λ (z : Option Refuser). unless_refused z (read_back block code (in_this c (Descends bound)) (greatest_found c.counted))) unrefused
      ∙ ap (λ (p : Phase). read_back block code (in_this c p) (greatest_found c.counted)) (sym phase)

  pub back_decides : (bound : Option Stamp) → c.phase ≡ LooksBack bound
      → decided block code fresh c ≡ read_back block code c (greatest_found c.counted)
  unfolding decided
  back_decides bound phase =
      decided_in_phase block code fresh c (LooksBack bound) phase
      ∙ roomy_goes c.counted roomy (read_back block code (in_this c (LooksBack bound)) (greatest_found c.counted))
      ∙ ap (λ (p : Phase). read_back block code (in_this c p) (greatest_found c.counted)) (sym phase)

  -- an order goes on, or is tried again
  pub recover_decides : c.phase ≡ Recovers
      → decided block code fresh c ≡ once_ordered fresh c (greatest_refuser c.counted) (read_back block code c (greatest_found c.counted))
  unfolding decided
  recover_decides phase =
      decided_in_phase block code fresh c Recovers phase
      ∙ roomy_goes c.counted roomy (once_ordered fresh (in_this c Recovers) (greatest_refuser c.counted)
      (read_back block code (in_this c Recovers) (greatest_found c.counted)))
      ∙ ap (λ (p : Phase). once_ordered fresh (in_this c p) (greatest_refuser c.counted)
      (read_back block code (in_this c p) (greatest_found c.counted))) (sym phase)

  pub order_decides : c.phase ≡ Orders
      → decided block code fresh c ≡ once_ordered fresh c (greatest_refuser c.counted) (Makes (in_phase c Stores))
  unfolding decided
  order_decides phase =
      decided_in_phase block code fresh c Orders phase
      ∙ roomy_goes c.counted roomy (once_ordered fresh (in_this c Orders) (greatest_refuser c.counted)
      (Makes (in_phase c Stores)))
      ∙ ap (λ (p : Phase). once_ordered fresh (in_this c p) (greatest_refuser c.counted) (Makes (in_phase c Stores))) (sym phase)

  pub order_at_decides : (j : ℕ) → c.phase ≡ OrdersAt j
      → decided block code fresh c ≡ once_ordered fresh c (greatest_refuser c.counted) (modified_if code c j (common_version_at j c.counted))
  unfolding decided
  order_at_decides j phase =
      decided_in_phase block code fresh c (OrdersAt j) phase
      ∙ roomy_goes c.counted roomy (once_ordered fresh (in_this c (OrdersAt j)) (greatest_refuser c.counted)
      (modified_if code (in_this c (OrdersAt j)) j (common_version_at j c.counted)))
      ∙ ap (λ (p : Phase). once_ordered fresh (in_this c p) (greatest_refuser c.counted)
      (modified_if code (in_this c p) j (common_version_at j c.counted))) (sym phase)

  -- a read is answered, or recovers
  pub look_decides : c.phase ≡ Looks → decided block code fresh c ≡ answered_fast code c (fast_version c.counted)
  unfolding decided
  look_decides phase =
      decided_in_phase block code fresh c Looks phase
      ∙ roomy_goes c.counted roomy (answered_fast code (in_this c Looks) (fast_version c.counted))
      ∙ ap (λ (p : Phase). answered_fast code (in_this c p) (fast_version c.counted)) (sym phase)

  pub look_at_decides : (j : ℕ) → c.phase ≡ LooksAt j → decided block code fresh c ≡ answered_fast_at c j (fast_version_at j c.counted)
  unfolding decided
  look_at_decides j phase =
      decided_in_phase block code fresh c (LooksAt j) phase
      ∙ roomy_goes c.counted roomy (answered_fast_at (in_this c (LooksAt j)) j (fast_version_at j c.counted))
      ∙ ap (λ (p : Phase). answered_fast_at (in_this c p) j (fast_version_at j c.counted)) (sym phase)
