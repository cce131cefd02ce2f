-- A round of ordering runs to its decision: it is tried again at most once.
use Rattle.std.proofs.Common.{List, None, Option, Some, [], ap, false, map, refl, subst, sym, true, ℕ, ⊎_elim, ◌<◌, ◌∙◌, ◌∷◌, ◌≡◌}
use Rattle.std.proofs.lemmas.Bool.{cases_Bool, cond_both, false≢true}
use Rattle.std.specs.Prelude.{◌-◌, ◌^◌}
use Rattle.calm_laws.proofs.Asking.{Holds, each_then}
use Rattle.calm_laws.proofs.Counts.{Carries, counted_of, fresh_at}
use Rattle.calm_laws.proofs.Decided.{AreRoomy, none_stops, none_refuses}
use Rattle.calm_laws.proofs.Descending.{after_replies, having}
use Rattle.protocol_laws.proofs.Logs.{IsWithin, LogAscends, newest_greatest}
use Rattle.calm_laws.proofs.Ordering.{TameWith}
use Rattle.calm_laws.proofs.PhaseRuns.{Cast, IsOpen, known_then, open_run}
use Rattle.calm_laws.proofs.Rooms.{IsTame, newest_within}
use Rattle.calm_laws.proofs.Rounds.{MixedWith, OrdersWhole, mixed_keeps, mixed_replies, mixed_reply, tame_counted, unrefused_tame}
use Rattle.calm_laws.proofs.Scenes.{Closes, Each, Fits, IsSeated, Part, Scene, Seated, Stage, IsForAll}
use Rattle.fab_base.proofs.StampOrder.{stamp_below_irrefl, stamp_neither_below, stamp_not_below_trans}
use Rattle.fab_base.specs.Stamps.{first_stamp, stamp_below, stamp_same}
use Rattle.fab_base.specs.declared.stamps.Stamp.{Stamp}
use Rattle.messages.specs.declared.replies.Reply.{Reply}
use Rattle.messages.specs.declared.replies.Reply.TheVariants.{Later}
use Rattle.messages.specs.declared.requests.Version.{Version}
use Rattle.protocol.specs.Coordinators.{Next, answers_phase, decided, full_member_of, greatest_refuser, mover_of, once_ordered, ordered_again, refuser_of, dropper_of}
use Rattle.protocol.specs.Replicas.{Replica, is_held, newest_of, top_of}
use Rattle.protocol.specs.declared.phases.Counted.{Counted}
use Rattle.protocol.specs.declared.phases.Refuser.{Refuser}

-- what is at most b, which is below c, is below c
pub at_most_below : (a b c : Stamp) → stamp_below b a ≡ false → stamp_below b c ≡ true → stamp_below a c ≡ true
at_most_below a b c most less = ⊎_elim
    (λ (is : stamp_below a c ≡ true). is)
    (λ (isnt : stamp_below a c ≡ false). absurd (false≢true (sym (stamp_not_below_trans c a b isnt most) ∙ less)))
    (cases_Bool (stamp_below a c))

-- what a log holds is at most its part's top
held_most : (replica : Replica) (d : Stamp) → LogAscends replica.log → is_held d replica.log ≡ true → stamp_below (top_of replica) d ≡ false
held_most replica d ascends held = go (newest_of replica.log) refl (newest_greatest d replica.log ascends held)
  where
    go : (z : Option Version) → newest_of replica.log ≡ z → IsWithin (newest_of replica.log) d → stamp_below (top_of replica) d ≡ false
    go None is within = absurd (subst (λ (z : Option Version). IsWithin z d) is within)
    go (Some version) is within =
        stamp_not_below_trans d version.stamp (top_of replica) (subst (λ (z : Option Version). IsWithin z d) is within)
        (newest_within (top_of replica) replica version (stamp_below_irrefl (top_of replica)) is)

-- what a tame part holds is below the stamp, where it does not hold that
pub held_below : (stage : Stage) (t : Stamp) (log : List Version) (part : Part) → IsTame stage t log part → LogAscends log → is_held t log ≡ false
    → (d : Stamp) → is_held d log ≡ true → stamp_below d t ≡ true
held_below stage t log part is ascends unheld d held =
    let most : stamp_below (top_of part.replica) d ≡ false
    = held_most part.replica d (subst (λ (l : List Version). LogAscends l) (sym is.log_is) ascends)
    (subst (λ (l : List Version). is_held d l ≡ true) (sym is.log_is) held) in
    let not_above : stamp_below t d ≡ false = stamp_not_below_trans d (top_of part.replica) t most is.tame in
    ⊎_elim
    (λ (less : stamp_below d t ≡ true). less)
    (λ (not_less : stamp_below d t ≡ false).
    let same : d ≡ t = stamp_neither_below d t not_less not_above in
    absurd (false≢true (sym unheld ∙ subst (λ (z : Stamp). is_held z log ≡ true) same held)))
    (cases_Bool (stamp_below d t))

-- a stamp above the top of a part is not held there
pub unheld_above : (replica : Replica) (t : Stamp) → LogAscends replica.log → stamp_below (top_of replica) t ≡ true → is_held t replica.log ≡ false
unheld_above replica t ascends above = ⊎_elim
    (λ (held : is_held t replica.log ≡ true). absurd (false≢true (sym (held_most replica t ascends held) ∙ above)))
    (λ (unheld : is_held t replica.log ≡ false). unheld)
    (cases_Bool (is_held t replica.log))

-- none of the quorum holds this stamp
abbrev pub IsUnheld : (ℕ → List Version) → Stamp → List Seated → Type 0
IsUnheld logs t xs = Each (λ x. is_held t (logs x.brick.0) ≡ false) xs

-- A phase that orders: what it does at each member; that this can be stored, and answers it; that a promise is no refusal, and tells neither a later view nor dropped versions; and how it
-- goes on.
pub record IsOrdering (stage : Stage) (cast : Cast stage) (logs : ℕ → List Version) (s : Scene) (answer : Seated → List Version → Reply)
    (goes : List Counted → Next) : Type 0 where
  pub all : IsForAll stage s.c.phase
  pub so : OrdersWhole stage s.c answer
  pub fits : (x : Seated) → IsSeated stage x → Fits stage s.c x
  pub answers : Each (λ x. answers_phase stage.setting.layout.block s.c.stamp x.seat s.c.phase (answer x (logs x.brick.0)) ≡ true) cast.xs
  pub answers_later : (x : Seated) (t : Stamp) → answers_phase stage.setting.layout.block s.c.stamp x.seat s.c.phase (Later t) ≡ true
  pub unfull : (x : Seated) (log : List Version) → full_member_of (counted_of (λ y. answer y log) x) ≡ None
  pub unmoved : (x : Seated) (log : List Version) → mover_of (counted_of (λ y. answer y log) x) ≡ None
  pub undropped : (x : Seated) (log : List Version) → dropper_of (counted_of (λ y. answer y log) x) ≡ None
  pub unrefused : (x : Seated) (log : List Version) → refuser_of (counted_of (λ y. answer y log) x) ≡ None
  pub decides_so : (fresh : Option Stamp) (counted : List Counted) → AreRoomy counted
      → decided stage.setting.layout.block stage.setting.code fresh (having s.c counted)
      ≡ once_ordered fresh (having s.c counted) (greatest_refuser counted) (goes counted)

module _ (stage : Stage) (cast : Cast stage) (logs : ℕ → List Version) (s : Scene) (answer : Seated → List Version → Reply)
    (goes : List Counted → Next) (ordering : IsOrdering stage cast logs s answer goes) (open_is : IsOpen stage cast s)
    (early : s.c.call.phase < 2 ^ 32 - 1) (later : stamp_same s.c.stamp first_stamp ≡ false) where
  -- what the members reply that have come to these tops, and what counts then
  abbrev pub replies_of : (ℕ → Stamp) → Seated → Reply
  replies_of tops = mixed_reply s.c.stamp tops logs answer

  abbrev pub counts_of : (ℕ → Stamp) → List Counted
  counts_of tops = map (counted_of (replies_of tops)) cast.xs

  abbrev pub known_of : (ℕ → Stamp) → ℕ
  known_of tops = known_then stage s (replies_of tops) cast.xs open_is.stale

  -- no reply is that of a full store
  unfull_mixed : (tops : ℕ → Stamp) (x : Seated) → full_member_of (counted_of (replies_of tops) x) ≡ None
  unfull_mixed tops x =
      cond_both (stamp_below s.c.stamp (tops x.brick.0)) (Later (tops x.brick.0)) (answer x (logs x.brick.0))
      (λ (r : Reply). full_member_of (record { seat = x.seat; brick = x.brick; reply = r }) ≡ None)
      (λ above. refl) (λ tame. ordering.unfull x (logs x.brick.0))

  -- nor of one that serves the view no more
  unmoved_mixed : (tops : ℕ → Stamp) (x : Seated) → mover_of (counted_of (replies_of tops) x) ≡ None
  unmoved_mixed tops x =
      cond_both (stamp_below s.c.stamp (tops x.brick.0)) (Later (tops x.brick.0)) (answer x (logs x.brick.0))
      (λ (r : Reply). mover_of (record { seat = x.seat; brick = x.brick; reply = r }) ≡ None)
      (λ above. refl) (λ tame. ordering.unmoved x (logs x.brick.0))

  -- nor of one that has dropped the versions of the view before
  undropped_mixed : (tops : ℕ → Stamp) (x : Seated) → dropper_of (counted_of (replies_of tops) x) ≡ None
  undropped_mixed tops x =
      cond_both (stamp_below s.c.stamp (tops x.brick.0)) (Later (tops x.brick.0)) (answer x (logs x.brick.0))
      (λ (r : Reply). dropper_of (record { seat = x.seat; brick = x.brick; reply = r }) ≡ None)
      (λ above. refl) (λ tame. ordering.undropped x (logs x.brick.0))

  -- where none of the quorum was above the stamp, all are tame
  tame_then : (tops : ℕ → Stamp) (parts : ℕ → Part) (ys : List Seated) → Each (λ x. stamp_below s.c.stamp (tops x.brick.0) ≡ false) ys
      → Holds (MixedWith stage s.c.stamp tops logs) parts ys → Holds (TameWith stage s.c.stamp logs) parts ys
  tame_then tops parts [] tame mixed = tt
  tame_then tops parts (y ∷ ys) tame mixed = (
    record { log_is = mixed.0.log_is; tame = mixed.0.same ∙ tame.0; room = mixed.0.room },
    tame_then tops parts ys tame.1 mixed.1,
  )

  -- it goes on where all promise, and is tried again where one refuses
  pub ordering_run : (tops : ℕ → Stamp) → Holds (MixedWith stage s.c.stamp tops logs) s.parts cast.xs
      → ((before parts : ℕ → Part) (known : ℕ) → Holds (TameWith stage s.c.stamp logs) parts cast.xs
      → Carries stage (after_replies stage s known parts open_is.others before) (goes (map (counted_of (λ x. answer x (logs x.brick.0))) cast.xs)))
      → ((before parts : ℕ → Part) (r : Refuser) → Holds (MixedWith stage s.c.stamp tops logs) parts cast.xs
      → greatest_refuser (counts_of tops) ≡ Some r
      → Carries stage (after_replies stage s (known_of tops) parts open_is.others before)
      (ordered_again (fresh_at stage s.c (known_of tops)) (having s.c (counts_of tops)) r))
      → Closes stage s
  ordering_run tops mixed accepted refused =
      open_run stage cast s open_is ordering.all (MixedWith stage s.c.stamp tops logs) (replies_of tops) early ordering.fits
      (mixed_keeps stage s.c answer tops logs later ordering.so) (mixed_replies stage s.c answer tops logs ordering.so) mixed
      (each_then (λ (x : Seated). answers_phase stage.setting.layout.block s.c.stamp x.seat s.c.phase (answer x (logs x.brick.0)) ≡ true)
      (λ (x : Seated). answers_phase stage.setting.layout.block s.c.stamp x.seat s.c.phase (replies_of tops x) ≡ true) cast.xs
      (λ x fits. cond_both (stamp_below s.c.stamp (tops x.brick.0)) (Later (tops x.brick.0)) (answer x (logs x.brick.0))
      (λ (r : Reply). answers_phase stage.setting.layout.block s.c.stamp x.seat s.c.phase r ≡ true)
      (λ above. ordering.answers_later x (tops x.brick.0)) (λ tame. fits)) ordering.answers)
      (λ before parts holds.
      subst (λ (z : Next). Carries stage (after_replies stage s (known_of tops) parts open_is.others before) z)
      (sym (ordering.decides_so (fresh_at stage s.c (known_of tops)) (counts_of tops) (none_stops (replies_of tops)
      (record { unmoved = unmoved_mixed tops; undropped = undropped_mixed tops; unfull = unfull_mixed tops }) cast.xs)))
      (go before parts holds (greatest_refuser (counts_of tops)) refl))
    where
      go : (before parts : ℕ → Part) → Holds (MixedWith stage s.c.stamp tops logs) parts cast.xs → (z : Option Refuser)
          → greatest_refuser (counts_of tops) ≡ z
          → Carries stage (after_replies stage s (known_of tops) parts open_is.others before)
          (once_ordered (fresh_at stage s.c (known_of tops)) (having s.c (counts_of tops)) z (goes (counts_of tops)))
      go before parts holds None is =
          let tame = unrefused_tame s.c.stamp tops logs answer cast.xs is in
          subst (λ (l : List Counted). Carries stage (after_replies stage s (known_of tops) parts open_is.others before) (goes l))
          (sym (tame_counted s.c.stamp tops logs answer cast.xs tame))
          (accepted before parts (known_of tops) (tame_then tops parts cast.xs tame holds))
      go before parts holds (Some r) is = refused before parts r holds is

  -- at tame parts all promise
  pub ordering_tame : Holds (TameWith stage s.c.stamp logs) s.parts cast.xs
      → ((before parts : ℕ → Part) (known : ℕ) → Holds (TameWith stage s.c.stamp logs) parts cast.xs
      → Carries stage (after_replies stage s known parts open_is.others before) (goes (map (counted_of (λ x. answer x (logs x.brick.0))) cast.xs)))
      → Closes stage s
  ordering_tame tame accepted =
      ordering_run tops
      (each_then (λ (x : Seated). TameWith stage s.c.stamp logs x.brick.0 (s.parts x.brick.0))
      (λ (x : Seated). MixedWith stage s.c.stamp tops logs x.brick.0 (s.parts x.brick.0)) cast.xs
      (λ x is. record { log_is = is.log_is; room = is.room; same = refl; kept = λ above. refl }) tame)
      accepted
      (λ before parts r holds is.
      let none : greatest_refuser (counts_of tops) ≡ None
      = ap (λ (l : List Counted). greatest_refuser l) (tame_counted s.c.stamp tops logs answer cast.xs all_tame)
      ∙ none_refuses_each cast.xs in
      let never : ⊥ = cc in
      absurd never)
    where
      tops : ℕ → Stamp
      tops i = top_of (s.parts i).replica

      all_tame : Each (λ x. stamp_below s.c.stamp (tops x.brick.0) ≡ false) cast.xs
      all_tame =
          each_then (λ (x : Seated). TameWith stage s.c.stamp logs x.brick.0 (s.parts x.brick.0))
          (λ (x : Seated). stamp_below s.c.stamp (tops x.brick.0) ≡ false) cast.xs (λ x is. is.tame) tame

      none_refuses_each : (ys : List Seated) → greatest_refuser (map (counted_of (λ x. answer x (logs x.brick.0))) ys) ≡ None
      none_refuses_each ys = none_refuses (λ x. answer x (logs x.brick.0)) (λ x. ordering.unrefused x (logs x.brick.0)) ys
