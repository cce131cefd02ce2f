-- Turns of the bricks that a process hosts, one after another.
use Rattle.std.proofs.Common.{◌≡◌, ℕ, ◌+◌, ◌<◌, ◌≤◌, true, false, List, [], ◌∷◌, ◌++◌, length, get_or, set, Option, Some, None, Result, Ok, Err, refl, sym, ap, ◌∙◌, subst, append_assoc, append-nil, length-append, inl, inr, arith}
use Rattle.std.specs.List.{AllByRecursion}
use Rattle.std.proofs.Math.Seq.{set-append_seam, get_or-append_seam}
use Rattle.fab_disk.specs.declared.disk.Disk as on_disk
use Rattle.fab_io.specs.declared.clocks.Clock as on_clock
use Rattle.fab_io.specs.declared.links.Link as on_link
use Rattle.node.specs.Running.{Running}
use Rattle.serving.specs.declared.faults.ServeFault.{ServeFault}
use Rattle.serving.specs.declared.faults.ServeFault.TheVariants as serving
use Rattle.hosting.specs.declared.faults.HostFault.TheVariants.{NoMemory}
use Rattle.hosting.specs.Faults.{AtBricks, fault_of}
use Rattle.hosting.specs.Hosted.{Hosted, TakesLast, TurnsAs, IsTurn, TakeTurns, StopTurns, IsSound, AreSound}

-- each fault of a turn is one of the bricks
pub of_bricks : (met : ServeFault) → AtBricks (fault_of met)
of_bricks serving.Disk = tt
of_bricks serving.Halted = tt
of_bricks serving.Link = tt
of_bricks serving.Clock = tt
of_bricks serving.NoMemory = tt

-- the last brick was taken away, or there was none
pub TakesLast-some : {D L : Type 0} (before after : List (Hosted D L)) (brick : Hosted D L) (taken : Option (Running D × L)) → before ≡ after ++ (brick ∷ [])
    → taken ≡ Some (brick.node, brick.link) → TakesLast before after taken
TakesLast-some {D} {L} before after brick taken are is =
    subst (λ (o : Option (Running D × L)). TakesLast {D = D} {L = L} before after o) (sym is) (brick, are, refl)

pub TakesLast-none : {D L : Type 0} (before after : List (Hosted D L)) (taken : Option (Running D × L)) → length before ≡ 0 → length after ≡ 0
    → taken ≡ None → TakesLast before after taken
TakesLast-none {D} {L} [] [] taken none none_after is =
    subst (λ (o : Option (Running D × L)). TakesLast {D = D} {L = L} [] [] o) (sym is) (refl, refl)
TakesLast-none [] (brick ∷ after) taken none none_after is = absurd (omega (arith, none_after))
TakesLast-none (brick ∷ before) [] taken none none_after is = absurd (omega (arith, none))
TakesLast-none (brick ∷ before) (other ∷ after) taken none none_after is = absurd (omega (arith, none))

module _ {D L C : Type 0} (d : on_disk.Ghosts D) (l : on_link.Ghosts L) (c : on_clock.Ghosts C) where
  -- what a turn was is what a brick did that is not halted
  pub IsTurn-taken : (before after : Hosted D L) (clock clock_after : C) (r : Result ℕ ServeFault) → TurnsAs d l c before after clock clock_after r
      → IsTurn d l c before after clock clock_after r
  IsTurn-taken before after clock clock_after (Ok malformed) turn = turn
  IsTurn-taken before after clock clock_after (Err serving.Disk) turn = turn
  IsTurn-taken before after clock clock_after (Err serving.Link) turn = turn
  IsTurn-taken before after clock clock_after (Err serving.Clock) turn = turn
  IsTurn-taken before after clock clock_after (Err serving.NoMemory) turn = turn
  IsTurn-taken before after clock clock_after (Err serving.Halted) turn = absurd turn.turn

  -- one more brick took a turn
  TakeTurns-more : (first first_after : List (Hosted D L)) (brick brick_after : Hosted D L) (clock mid clock_after : C) (malformed : ℕ)
      → TakeTurns d l c first first_after clock mid → TurnsAs d l c brick brick_after mid clock_after (Ok malformed)
      → TakeTurns d l c (first ++ (brick ∷ [])) (first_after ++ (brick_after ∷ [])) clock clock_after
  TakeTurns-more [] [] brick brick_after clock mid clock_after malformed taken turn =
      (clock_after, malformed, subst (λ (x : C). TurnsAs d l c brick brick_after x clock_after (Ok malformed)) taken turn, refl)
  TakeTurns-more (b ∷ first) (a ∷ first_after) brick brick_after clock mid clock_after malformed taken turn =
      (taken.0, taken.1, taken.2, TakeTurns-more first first_after brick brick_after taken.0 mid clock_after malformed taken.3 turn)
  TakeTurns-more [] (a ∷ first_after) brick brick_after clock mid clock_after malformed taken turn = absurd taken
  TakeTurns-more (b ∷ first) [] brick brick_after clock mid clock_after malformed taken turn = absurd taken

  -- or was stopped in it
  StopTurns-after : (fault : ServeFault) (first first_after more : List (Hosted D L)) (brick brick_after : Hosted D L) (clock mid clock_after : C)
      → TakeTurns d l c first first_after clock mid → IsTurn d l c brick brick_after mid clock_after (Err fault)
      → StopTurns d l c fault (first ++ (brick ∷ more)) (first_after ++ (brick_after ∷ more)) clock clock_after
  StopTurns-after fault [] [] more brick brick_after clock mid clock_after taken turn =
      inl (subst (λ (x : C). IsTurn d l c brick brick_after x clock_after (Err fault)) taken turn, refl)
  StopTurns-after fault (b ∷ first) (a ∷ first_after) more brick brick_after clock mid clock_after taken turn =
      inr (taken.0, taken.1, taken.2, StopTurns-after fault first first_after more brick brick_after taken.0 mid clock_after taken.3 turn)
  StopTurns-after fault [] (a ∷ first_after) more brick brick_after clock mid clock_after taken turn = absurd taken
  StopTurns-after fault (b ∷ first) [] more brick brick_after clock mid clock_after taken turn = absurd taken

  -- so many bricks took their turns, and those behind them are as they were
  pub record HaveTaken (bricks bricks_now : List (Hosted D L)) (clock clock_now : C) (n : ℕ) : Type 0 where
    pub first : List (Hosted D L)
    pub first_now : List (Hosted D L)
    pub rest : List (Hosted D L)
    pub bricks_are : bricks ≡ first ++ rest
    pub now_are : bricks_now ≡ first_now ++ rest
    pub count : length first_now ≡ n
    pub taken : TakeTurns d l c first first_now clock clock_now

  pub HaveTaken-none : (bricks : List (Hosted D L)) (clock : C) → HaveTaken bricks bricks clock clock 0
  HaveTaken-none bricks clock =
      record { first = []; first_now = []; rest = bricks; bricks_are = refl; now_are = refl; count = refl; taken = refl }

  -- the brick that is next
  next_is : (first more : List (Hosted D L)) (bricks : List (Hosted D L)) (one other : Hosted D L) (n : ℕ) → bricks ≡ first ++ (one ∷ more) → length first ≡ n
      → other ≡ get_or bricks n other → other ≡ one
  next_is first more bricks one other n are count is =
      is ∙ ap (λ k. get_or bricks k other) (sym count) ∙ ap (λ (xs : List (Hosted D L)). get_or xs (length first) other) are
      ∙ get_or-append_seam first one more other

  next_set : (first more : List (Hosted D L)) (bricks : List (Hosted D L)) (one after : Hosted D L) (n : ℕ) → bricks ≡ first ++ (one ∷ more) → length first ≡ n
      → set bricks n after ≡ first ++ (after ∷ more)
  next_set first more bricks one after n are count =
      ap (λ k. set bricks k after) (sym count) ∙ ap (λ (xs : List (Hosted D L)). set xs (length first) after) are ∙ set-append_seam first one more after

  module _ (bricks bricks_now : List (Hosted D L)) (clock clock_now clock_then : C) (n : ℕ) (brick brick_after : Hosted D L)
      (within : n < length bricks_now) (is : brick ≡ get_or bricks_now n brick) where
    -- some are left
    none_left : (h : HaveTaken bricks bricks_now clock clock_now n) → h.rest ≡ [] → ⊥
    none_left h none =
        let long : length bricks_now ≡ length h.first_now = ap length h.now_are ∙ ap (λ (xs : List (Hosted D L)). length (h.first_now ++ xs)) none
        ∙ ap length (append-nil h.first_now) in
        let count = h.count in
        omega (arith, long, count, within)

    -- one more took its turn
    pub HaveTaken-more : (malformed : ℕ) → HaveTaken bricks bricks_now clock clock_now n → TurnsAs d l c brick brick_after clock_now clock_then (Ok malformed)
        → HaveTaken bricks (set bricks_now n brick_after) clock clock_then (n + 1)
    HaveTaken-more malformed h turn = by_rest h.rest refl
      where
        by_rest : (rest : List (Hosted D L)) → h.rest ≡ rest → HaveTaken bricks (set bricks_now n brick_after) clock clock_then (n + 1)
        by_rest [] same = absurd (none_left h same)
        by_rest (one ∷ more) same =
            let now : bricks_now ≡ h.first_now ++ (one ∷ more) = h.now_are ∙ ap (λ (xs : List (Hosted D L)). h.first_now ++ xs) same in
            let one_is : brick ≡ one = next_is h.first_now more bricks_now one brick n now h.count is in
            let longer = length-append h.first_now (brick_after ∷ []) in
            let count = h.count in
            record {
              first = h.first ++ (one ∷ []);
              first_now = h.first_now ++ (brick_after ∷ []);
              rest = more;
              bricks_are = h.bricks_are ∙ ap (λ (xs : List (Hosted D L)). h.first ++ xs) same ∙ sym (append_assoc h.first (one ∷ []) more);
              now_are = next_set h.first_now more bricks_now one brick_after n now h.count ∙ sym (append_assoc h.first_now (brick_after ∷ []) more);
              count = omega (arith, longer, count);
              taken = TakeTurns-more h.first h.first_now one brick_after clock clock_now clock_then malformed h.taken
                  (subst (λ (x : Hosted D L). TurnsAs d l c x brick_after clock_now clock_then (Ok malformed)) one_is turn);
            }

    -- it was stopped in it
    pub HaveTaken-stop : (fault : ServeFault) → HaveTaken bricks bricks_now clock clock_now n → IsTurn d l c brick brick_after clock_now clock_then (Err fault)
        → StopTurns d l c fault bricks (set bricks_now n brick_after) clock clock_then
    HaveTaken-stop fault h turn = by_rest h.rest refl
      where
        by_rest : (rest : List (Hosted D L)) → h.rest ≡ rest → StopTurns d l c fault bricks (set bricks_now n brick_after) clock clock_then
        by_rest [] same = absurd (none_left h same)
        by_rest (one ∷ more) same =
            let now : bricks_now ≡ h.first_now ++ (one ∷ more) = h.now_are ∙ ap (λ (xs : List (Hosted D L)). h.first_now ++ xs) same in
            let one_is : brick ≡ one = next_is h.first_now more bricks_now one brick n now h.count is in
            subst (λ (xs : List (Hosted D L)). StopTurns d l c fault xs (set bricks_now n brick_after) clock clock_then)
            (sym (h.bricks_are ∙ ap (λ (xs : List (Hosted D L)). h.first ++ xs) same))
            (subst (λ (xs : List (Hosted D L)). StopTurns d l c fault (h.first ++ (one ∷ more)) xs clock clock_then)
            (sym (next_set h.first_now more bricks_now one brick_after n now h.count))
            (StopTurns-after fault h.first h.first_now more one brick_after clock clock_now clock_then h.taken
            (subst (λ (x : Hosted D L). IsTurn d l c x brick_after clock_now clock_then (Err fault)) one_is turn)))

  -- all took their turns
  pub HaveTaken-all : (bricks bricks_now : List (Hosted D L)) (clock clock_now : C) (n : ℕ) → HaveTaken bricks bricks_now clock clock_now n
      → length bricks_now ≤ n → TakeTurns d l c bricks bricks_now clock clock_now
  HaveTaken-all bricks bricks_now clock clock_now n h many = by_rest h.rest refl
    where
      by_rest : (rest : List (Hosted D L)) → h.rest ≡ rest → TakeTurns d l c bricks bricks_now clock clock_now
      by_rest [] same =
          subst (λ (xs : List (Hosted D L)). TakeTurns d l c xs bricks_now clock clock_now)
          (sym (h.bricks_are ∙ ap (λ (xs : List (Hosted D L)). h.first ++ xs) same ∙ append-nil h.first))
          (subst (λ (xs : List (Hosted D L)). TakeTurns d l c h.first xs clock clock_now)
          (sym (h.now_are ∙ ap (λ (xs : List (Hosted D L)). h.first_now ++ xs) same ∙ append-nil h.first_now)) h.taken)
      by_rest (one ∷ more) same =
          let long : length bricks_now ≡ length h.first_now + length (one ∷ more) = ap length h.now_are
          ∙ ap (λ (xs : List (Hosted D L)). length (h.first_now ++ xs)) same ∙ length-append h.first_now (one ∷ more) in
          let count = h.count in
          absurd (omega (arith, long, count, many))

  -- ---- sound bricks

  -- a turn leaves a sound brick sound, unless it was stopped by a fault, and then no memory was left
  sound_turn : (before after : Hosted D L) (clock clock_after : C) (malformed : ℕ) → TurnsAs d l c before after clock clock_after (Ok malformed)
      → IsSound d l c before → c.sound clock → IsSound d l c after × c.sound clock_after
  sound_turn before after clock clock_after malformed turn sound at = (
    record { runs = turn.runs (λ e. cc); disk = turn.disk.stays sound.disk; link = turn.link.stays sound.link },
    turn.times.stays at,
  )

  sound_stop : (fault : ServeFault) (before after : Hosted D L) (clock clock_after : C) → IsTurn d l c before after clock clock_after (Err fault)
      → IsSound d l c before → c.sound clock → IsSound d l c after × c.sound clock_after × (fault_of fault ≡ NoMemory)
  sound_stop serving.NoMemory before after clock clock_after turn sound at = (
    record { runs = turn.runs (λ e. cc); disk = turn.disk.stays sound.disk; link = turn.link.stays sound.link },
    turn.times.stays at,
    refl,
  )
  sound_stop serving.Disk before after clock clock_after turn sound at = absurd (turn.disk.never sound.disk refl)
  sound_stop serving.Link before after clock clock_after turn sound at = absurd (turn.link.never sound.link refl)
  sound_stop serving.Clock before after clock clock_after turn sound at = absurd (turn.times.never at refl)
  sound_stop serving.Halted before after clock clock_after turn sound at = absurd (let never : false ≡ true = sym sound.runs ∙ turn.0 in cc)

  pub sound_taken : (bricks bricks_after : List (Hosted D L)) (clock clock_after : C) → TakeTurns d l c bricks bricks_after clock clock_after
      → AreSound d l c bricks clock → AreSound d l c bricks_after clock_after
  sound_taken [] [] clock clock_after taken sound = (tt, subst c.sound (sym taken) sound.1)
  sound_taken (b ∷ bricks) (a ∷ bricks_after) clock clock_after taken sound =
      let one = sound_turn b a clock taken.0 taken.1 taken.2 sound.0.0 sound.1 in
      let others = sound_taken bricks bricks_after taken.0 clock_after taken.3 (sound.0.1, one.1) in
      ((one.0, others.0), others.1)
  sound_taken [] (a ∷ bricks_after) clock clock_after taken sound = absurd taken
  sound_taken (b ∷ bricks) [] clock clock_after taken sound = absurd taken

  pub sound_stopped : (fault : ServeFault) (bricks bricks_after : List (Hosted D L)) (clock clock_after : C)
      → StopTurns d l c fault bricks bricks_after clock clock_after → AreSound d l c bricks clock
      → AreSound d l c bricks_after clock_after × (fault_of fault ≡ NoMemory)
  sound_stopped fault (b ∷ bricks) (a ∷ bricks_after) clock clock_after stopped sound = elim stopped [
    | inl stop ↦
        let one = sound_stop fault b a clock clock_after stop.0 sound.0.0 sound.1 in
        (((one.0, subst (λ (xs : List (Hosted D L)). AllByRecursion (IsSound d l c) xs) (sym stop.1) sound.0.1), one.1), one.2)
    | inr more ↦
        let one = sound_turn b a clock more.0 more.1 more.2 sound.0.0 sound.1 in
        let others = sound_stopped fault bricks bricks_after more.0 clock_after more.3 (sound.0.1, one.1) in
        (((one.0, others.0.0), others.0.1), others.1)
  ]
  sound_stopped fault [] [] clock clock_after stopped sound = absurd stopped
  sound_stopped fault [] (a ∷ bricks_after) clock clock_after stopped sound = absurd stopped
  sound_stopped fault (b ∷ bricks) [] clock clock_after stopped sound = absurd stopped
