-- A read alone looks first: it is answered at once, or recovers.
use Rattle.std.proofs.Common.{Bool, List, None, Option, Some, [], ap, arith, cond, false, inl, inr, length, map, refl, subst, sym, true, ℕ, ◌++◌, ◌∙◌, ◌∷◌, ◌≡◌, ◌≤◌, ◌⊎◌}
use Rattle.std.proofs.lemmas.Bool.{eq-eqb}
use Rattle.std.specs.Prelude.{max, nat_eq, slice_get, ◌^◌}
use Rattle.calm_laws.proofs.Asking.{Holds, Keeps, Replies, each_then, told_all, told_replies}
use Rattle.calm_laws.proofs.Counts.{Carries, counted_of, decides, fresh_at, told}
use Rattle.calm_laws.proofs.Decided.{asked_in_phase, look_at_decides, look_decides, none_stops, AreRoomy}
use Rattle.calm_laws.proofs.Descending.{Lore, after_replies, having}
use Rattle.calm_laws.proofs.FirstRounds.{IsFirst, IsLow}
use Rattle.calm_laws.proofs.Hearing.{known_through}
use Rattle.protocol_laws.proofs.Logs.{newest_stands}
use Rattle.calm_laws.proofs.OrderRuns.{IsUnheld}
use Rattle.calm_laws.proofs.Ordering.{told_from}
use Rattle.calm_laws.proofs.PhaseRuns.{Cast, known_then, open_run, stale_then}
use Rattle.calm_laws.proofs.Rooms.{Room}
use Rattle.calm_laws.proofs.Rounds.{stays_room}
use Rattle.calm_laws.proofs.Scenes.{Closes, Each, Fits, Part, Scene, Seated, Stage, asked_of, part_after, reaction, sent, of_same, IsForAll}
use Rattle.calm_laws.proofs.Starts.{AreFew, recover_first}
use Rattle.calm_laws.proofs.StorePhases.{fits_in_phase}
use Rattle.calm_laws.proofs.Storing.{with_reaction}
use Rattle.fab_base.specs.declared.answers.Answer.TheVariants.{Data}
use Rattle.fab_base.specs.declared.stamps.Stamp.{Stamp}
use Rattle.messages.specs.declared.calls.Call.{Call}
use Rattle.messages.specs.declared.packets.Packet.{Packet}
use Rattle.messages.specs.declared.replies.Reply.{Reply}
use Rattle.messages.specs.declared.replies.Reply.TheVariants.{Found}
use Rattle.messages.specs.declared.requests.Request.{Request}
use Rattle.messages.specs.declared.requests.Version.{Version}
use Rattle.messages.specs.declared.requests.Want.{Want}
use Rattle.protocol.specs.Calms.{early}
use Rattle.protocol.specs.Coordinators.{Coordinator, Ends, Next, Sends, answered_fast, answered_fast_at, answers_phase, bytes_at, decided, fast_version, fast_version_at, in_phase, pieces_of, request_of, asks_each}
use Rattle.protocol.specs.Nodes.{full_at, put, reply_packets}
use Rattle.protocol.specs.Replicas.{Reaction, Replica, handle, is_wanted, newest_of, stays, told_version, top_of}
use Rattle.protocol.specs.declared.phases.Counted.{Counted}
use Rattle.protocol_laws.proofs.Outcomes.{IsLook}
use Rattle.protocol.specs.declared.phases.Phase.{Phase}
use Rattle.protocol.specs.declared.phases.Phase.TheVariants.{Looks, LooksAt, Recovers}

-- a member tells its order and its newest version, and nothing changes
looks_so : (stage : Stage) (c : Coordinator) (want : Want) → ((x : Seated) → asked_of stage c x ≡ Request.Read want) → (y : Seated) (part : Part)
    → reaction stage c part y
    ≡ stays part.replica (Found part.replica.order (told_version (is_wanted want y.seat) (newest_of part.replica.log)))
unfolding handle
looks_so stage c want asks y part =
    ap (λ (r : Request). handle stage.setting.code stage.group.m (full_at stage.setting.layout.records part.live) y.seat part.replica r) (asks y)

-- a part as it was, with room
abbrev pub IsStill : Stage → (ℕ → Replica) → ℕ → Part → Type 0
IsStill stage replicas i part = (part.replica ≡ replicas i) × Room stage part

-- what a member tells
abbrev pub newest_told : (ℕ → Replica) → Want → Seated → Reply
newest_told replicas want x =
    Found (replicas x.brick.0).order (told_version (is_wanted want x.seat) (newest_of (replicas x.brick.0).log))

still_keeps : (stage : Stage) (c : Coordinator) (want : Want) (replicas : ℕ → Replica) → ((x : Seated) → asked_of stage c x ≡ Request.Read want)
    → Keeps stage c (IsStill stage replicas)
still_keeps stage c want replicas asks i y part still =
    subst (λ (r : Reaction). IsStill stage replicas i (with_reaction part r)) (sym (looks_so stage c want asks y part))
    (still.0, stays_room stage part (Found part.replica.order (told_version (is_wanted want y.seat) (newest_of part.replica.log))) still.1)

still_replies : (stage : Stage) (c : Coordinator) (want : Want) (replicas : ℕ → Replica) → ((x : Seated) → asked_of stage c x ≡ Request.Read want)
    → Replies stage c (IsStill stage replicas) (newest_told replicas want)
still_replies stage c want replicas asks x part still =
    ap (λ (r : Reaction). r.reply) (looks_so stage c want asks x part)
    ∙ ap (λ (r : Replica). Some (Found r.order (told_version (is_wanted want x.seat) (newest_of r.log)))) still.0

-- none of that tells a time
looks_quiet : (stage : Stage) (c : Coordinator) (want : Want) → ((x : Seated) → asked_of stage c x ≡ Request.Read want)
    → (xs : List Seated) (parts : ℕ → Part) (known : ℕ) → known_through (told_all stage c xs parts) known ≡ known
looks_quiet stage c want asks [] parts known = refl
looks_quiet stage c want asks (x ∷ xs) parts known =
    ap (λ (r : Reaction). known_through (reply_packets x.brick stage.me c.call r.reply
    ++ told_all stage c xs (put parts x.brick.0 (part_after stage c (parts x.brick.0) x))) known) (looks_so stage c want asks x (parts x.brick.0))
    ∙ looks_quiet stage c want asks xs (put parts x.brick.0 (part_after stage c (parts x.brick.0) x)) known

told_quiet : (stage : Stage) (call : Call) (replicas : ℕ → Replica) (want : Want) (xs : List Seated) (known : ℕ)
    → known_through (told stage call (newest_told replicas want) xs) known ≡ known
told_quiet stage call replicas want [] known = refl
told_quiet stage call replicas want (x ∷ xs) known = told_quiet stage call replicas want xs known

-- A phase that looks: what it asks, that what is told answers it, and that it decides to answer, or to recover.
pub record IsLooking (stage : Stage) (s : Scene) (want : Want) : Type 0 where
  pub look : IsLook s.c.phase
  pub all : IsForAll stage s.c.phase
  pub asks : (x : Seated) → asked_of stage s.c x ≡ Request.Read want
  pub fits : (x : Seated) → Fits stage s.c x
  pub answers_none : (x : Seated) (order : Stamp) → answers_phase stage.setting.layout.block s.c.stamp x.seat s.c.phase (Found order None) ≡ true
  pub answers_some : (x : Seated) (order : Stamp) (version : Version)
      → nat_eq (length version.block) (cond (is_wanted want x.seat) stage.setting.layout.block 0) ≡ true
      → answers_phase stage.setting.layout.block s.c.stamp x.seat s.c.phase (Found order (Some version)) ≡ true
  pub decides_so : (fresh : Option Stamp) (counted : List Counted) → AreRoomy counted
      → (decided stage.setting.layout.block stage.setting.code fresh (having s.c counted) ≡ Sends (in_phase (having s.c counted) Recovers))
      ⊎ ((bytes : List ℕ) × (seen : Option Stamp)
      × (decided stage.setting.layout.block stage.setting.code fresh (having s.c counted) ≡ Ends (Data bytes) seen None))

-- the two phases that look
pub looks_looking : (stage : Stage) (s : Scene) → s.c.phase ≡ Looks → IsLooking stage s Want.All
unfolding request_of
looks_looking stage s phase = record {
  look = subst (λ (p : Phase). IsLook p) (sym phase) tt;
  all = inl (ap (λ (p : Phase). asks_each p) phase);
  asks = λ x. asked_in_phase stage.setting.code s.c Looks x.seat phase;
  fits = λ x. fits_in_phase stage s.c Looks x phase refl;
  answers_none = λ x order. ap (λ (p : Phase). answers_phase stage.setting.layout.block s.c.stamp x.seat p (Found order None)) phase;
  answers_some = λ x order version long.
      ap (λ (p : Phase). answers_phase stage.setting.layout.block s.c.stamp x.seat p (Found order (Some version))) phase ∙ long;
  decides_so = λ fresh counted roomy.
      go counted (fast_version counted) fresh (look_decides stage.setting.layout.block stage.setting.code fresh (having s.c counted) roomy phase);
}
  where
    go : (counted : List Counted) (z : Option Stamp) (fresh : Option Stamp)
        → decided stage.setting.layout.block stage.setting.code fresh (having s.c counted) ≡ answered_fast stage.setting.code (having s.c counted) z
        → (decided stage.setting.layout.block stage.setting.code fresh (having s.c counted) ≡ Sends (in_phase (having s.c counted) Recovers))
        ⊎ ((bytes : List ℕ) × (seen : Option Stamp)
        × (decided stage.setting.layout.block stage.setting.code fresh (having s.c counted) ≡ Ends (Data bytes) seen None))
    go counted None fresh is = inl is
    go counted (Some v) fresh is = inr (stage.setting.code.decode s.c.group.m (pieces_of counted), Some v, is)

pub looks_at_looking : (stage : Stage) (s : Scene) (j : ℕ) → stage.only ≡ None → s.c.phase ≡ LooksAt j → IsLooking stage s (Want.Seat j)
unfolding request_of
looks_at_looking stage s j every phase = record {
  look = subst (λ (p : Phase). IsLook p) (sym phase) tt;
  all = inr every;
  asks = λ x. asked_in_phase stage.setting.code s.c (LooksAt j) x.seat phase;
  fits = λ x. fits_in_phase stage s.c (LooksAt j) x phase refl;
  answers_none = λ x order. ap (λ (p : Phase). answers_phase stage.setting.layout.block s.c.stamp x.seat p (Found order None)) phase;
  answers_some = λ x order version long.
      ap (λ (p : Phase). answers_phase stage.setting.layout.block s.c.stamp x.seat p (Found order (Some version))) phase ∙ long;
  decides_so = λ fresh counted roomy.
      go counted (fast_version_at j counted) fresh (look_at_decides stage.setting.layout.block stage.setting.code fresh (having s.c counted) roomy j phase);
}
  where
    go : (counted : List Counted) (z : Option Stamp) (fresh : Option Stamp)
        → decided stage.setting.layout.block stage.setting.code fresh (having s.c counted) ≡ answered_fast_at (having s.c counted) j z
        → (decided stage.setting.layout.block stage.setting.code fresh (having s.c counted) ≡ Sends (in_phase (having s.c counted) Recovers))
        ⊎ ((bytes : List ℕ) × (seen : Option Stamp)
        × (decided stage.setting.layout.block stage.setting.code fresh (having s.c counted) ≡ Ends (Data bytes) seen None))
    go counted None fresh is = inl is
    go counted (Some v) fresh is = inr (bytes_at j counted, Some v, is)

module _ (stage : Stage) (cast : Cast stage) (logs : ℕ → List Version) (lore : Lore stage cast logs) (few : AreFew stage cast logs lore) (s : Scene)
    (first : IsFirst stage cast logs s) (want : Want) (looking_is : IsLooking stage s want) where
  abbrev replicas : ℕ → Replica
  replicas i = (s.parts i).replica

  abbrev f : Seated → Reply
  f = newest_told replicas want

  -- what is told answers the phase
  told_answers : Each (λ x. answers_phase stage.setting.layout.block s.c.stamp x.seat s.c.phase (f x) ≡ true) cast.xs
  told_answers = both cast.xs lore.blocks first.starts
    where
      long_so : (wanted : Bool) (block : List ℕ) → length block ≡ stage.setting.layout.block
          → length (cond wanted block []) ≡ cond wanted stage.setting.layout.block 0
      long_so true block long = long
      long_so false block long = refl

      go : (x : Seated) → ((k : ℕ) (version : Version) → slice_get (logs x.brick.0) k ≡ Some version → length version.block ≡ stage.setting.layout.block)
          → (replicas x.brick.0).log ≡ logs x.brick.0 → (z : Option Version)
          → told_version (is_wanted want x.seat) (newest_of (replicas x.brick.0).log) ≡ z
          → answers_phase stage.setting.layout.block s.c.stamp x.seat s.c.phase (Found (replicas x.brick.0).order z) ≡ true
      go x long log None is = looking_is.answers_none x (replicas x.brick.0).order
      go x long log (Some version) is =
          let from = told_from (is_wanted want x.seat) (newest_of (replicas x.brick.0).log) version is in
          let at = newest_stands (replicas x.brick.0).log from.0 from.1 in
          looking_is.answers_some x (replicas x.brick.0).order version
          (eq-eqb (length version.block) (cond (is_wanted want x.seat) stage.setting.layout.block 0)
          (ap (λ (l : List ℕ). length l) from.3
          ∙ long_so (is_wanted want x.seat) from.0.block
          (long at.0 from.0 (subst (λ (l : List Version). slice_get l at.0 ≡ Some from.0) log at.1))))

      both : (ys : List Seated)
          → Each (λ x. (k : ℕ) (version : Version) → slice_get (logs x.brick.0) k ≡ Some version → length version.block ≡ stage.setting.layout.block) ys
          → Each (λ x. ((s.parts x.brick.0).replica.log ≡ logs x.brick.0) × Room stage (s.parts x.brick.0)
          × IsLow s.c.stamp.view.0 early (top_of (s.parts x.brick.0).replica)) ys
          → Each (λ x. answers_phase stage.setting.layout.block s.c.stamp x.seat s.c.phase (f x) ≡ true) ys
      both [] long starts = tt
      both (y ∷ ys) long starts =
          (go y long.0 starts.0.0 (told_version (is_wanted want y.seat) (newest_of (replicas y.brick.0).log)) refl, both ys long.1 starts.1)

  -- the recovery that follows is in its first round
  recovery_first : (counted : List Counted) (before parts : ℕ → Part) (known : ℕ) → known ≡ s.known → Holds (IsStill stage replicas) parts cast.xs
      → IsFirst stage cast logs (sent stage (after_replies stage s known parts first.open_is.others before) (in_phase (having s.c counted) Recovers))
  recovery_first counted before parts known same still =
      let low = first.known_early in
      let own = first.stamp_known in
      record {
        open_is = record {
          in_view = record { of = of_same stage s.c (in_phase (having s.c counted) Recovers) (record { group = refl; prior = refl; only = refl; boot = refl; seq = refl; of_group = refl; view = refl; stripe = refl }) first.open_is.in_view.of; ahead = refl; own = refl };
          counted = refl;
          stale = told_all stage s.c first.open_is.others before;
          old = stale_then stage s.c (in_phase (having s.c counted) Recovers) (record { group = refl; prior = refl; only = refl; boot = refl; seq = refl; of_group = refl; view = refl; stripe = refl }) refl
              (told_all stage s.c first.open_is.others before) (told_replies stage s.c first.open_is.others before);
          others = cast.rest;
          others_seated = cast.rest_seated;
          waiting = ap (λ (q : List Packet). told_all stage s.c first.open_is.others before ++ q)
              (cast.sends (in_phase (having s.c counted) Recovers) (record { of = of_same stage s.c (in_phase (having s.c counted) Recovers) (record { group = refl; prior = refl; only = refl; boot = refl; seq = refl; of_group = refl; view = refl; stripe = refl }) first.open_is.in_view.of; ahead = refl; own = refl }));
        };
        quiet = looks_quiet stage s.c want looking_is.asks first.open_is.others before (max known s.c.stamp.time);
        round = first.round;
        from_one = first.from_one;
        stamp_known = omega arith;
        known_early = omega (arith, same, low, own);
        starts = both cast.xs still first.starts;
        ascends = first.ascends;
      }
    where
      both : (ys : List Seated) → Holds (IsStill stage replicas) parts ys
          → Each (λ x. ((s.parts x.brick.0).replica.log ≡ logs x.brick.0) × Room stage (s.parts x.brick.0)
          × IsLow s.c.stamp.view.0 early (top_of (s.parts x.brick.0).replica)) ys
          → Each (λ x. ((parts x.brick.0).replica.log ≡ logs x.brick.0) × Room stage (parts x.brick.0)
          × IsLow s.c.stamp.view.0 early (top_of (parts x.brick.0).replica)) ys
      both [] still starts = tt
      both (y ∷ ys) still starts = (
        (
          ap (λ (r : Replica). r.log) still.0.0 ∙ starts.0.0,
          still.0.1,
          subst (λ (r : Replica). IsLow s.c.stamp.view.0 early (top_of r)) (sym still.0.0) starts.0.2,
        ),
        both ys still.1 starts.1,
      )

  -- the read closes
  pub look_first : s.c.call.phase ≤ 2 → IsUnheld logs s.c.stamp cast.xs → Closes stage s
  look_first early unheld =
      open_run stage cast s first.open_is looking_is.all (IsStill stage replicas) f (omega (arith, early)) (λ x seated. looking_is.fits x)
      (still_keeps stage s.c want replicas looking_is.asks) (still_replies stage s.c want replicas looking_is.asks)
      (each_then (λ (x : Seated). ((s.parts x.brick.0).replica.log ≡ logs x.brick.0) × Room stage (s.parts x.brick.0)
      × IsLow s.c.stamp.view.0 early_time (top_of (s.parts x.brick.0).replica)) (λ (x : Seated). IsStill stage replicas x.brick.0 (s.parts x.brick.0)) cast.xs
      (λ x start. (refl, start.1)) first.starts)
      told_answers
      (λ before parts still. go before parts still
      (looking_is.decides_so (fresh_at stage s.c known) counted (none_stops f (record { unmoved = λ x. refl; undropped = λ x. refl; unfull = λ x. refl }) cast.xs)))
    where
      early_time : ℕ
      early_time = 2 ^ 63

      counted : List Counted
      counted = map (counted_of f) cast.xs

      known : ℕ
      known = known_then stage s f cast.xs first.open_is.stale

      known_is : known ≡ s.known
      known_is = told_quiet stage s.c.call replicas want cast.xs (known_through first.open_is.stale s.known) ∙ first.quiet

      go : (before parts : ℕ → Part) → Holds (IsStill stage replicas) parts cast.xs
          → (decides stage s.c known counted ≡ Sends (in_phase (having s.c counted) Recovers))
          ⊎ ((bytes : List ℕ) × (seen : Option Stamp) × (decides stage s.c known counted ≡ Ends (Data bytes) seen None))
          → Carries stage (after_replies stage s known parts first.open_is.others before) (decides stage s.c known counted)
      go before parts still (inl is) =
          subst (λ (z : Next). Carries stage (after_replies stage s known parts first.open_is.others before) z) (sym is) (
            record { group = refl; prior = refl; only = refl; boot = refl; seq = refl; of_group = refl; view = refl; stripe = refl },
            recover_first stage cast logs lore few
                (sent stage (after_replies stage s known parts first.open_is.others before) (in_phase (having s.c counted) Recovers))
                (recovery_first counted before parts known known_is still) refl (omega (arith, early)) unheld,
          )
      go before parts still (inr is) =
          subst (λ (z : Next). Carries stage (after_replies stage s known parts first.open_is.others before) z) (sym is.2) (refl, looking_is.look)
