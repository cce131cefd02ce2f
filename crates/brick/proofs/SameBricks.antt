-- The bricks that a process hosts stay the same bricks, in order, whatever turns they take, and none is halted unless its disk failed.
use Rattle.std.proofs.Common.{◌≡◌, ◌⊎◌, ◌≤◌, ℕ, ◌<◌, arith, true, false, List, [], ◌∷◌, ◌++◌, length, Option, Err, inl, inr, refl, sym, ap, ◌∙◌, subst}
use Rattle.std.specs.List.{AllByRecursion}
use Rattle.node.specs.Running.{IsSameBrick}
use Rattle.fab_base.specs.Faults.{Rose}
use Rattle.fab_base.specs.Layouts.{Layout}
use Rattle.fab_base.proofs.Keeping.{Rose-later}
use Rattle.serving.specs.declared.faults.ServeFault.{ServeFault}
use Rattle.serving.specs.declared.faults.ServeFault.TheVariants as serving
use Rattle.hosting.specs.declared.faults.HostFault.{HostFault}
use Rattle.hosting.specs.declared.faults.HostFault.TheVariants as faults
use Rattle.hosting.specs.Faults.{AtSource, AtSink, IsOther, fault_of}
use Rattle.nbd_front.specs.declared.steps.End.{End}
use Rattle.nbd_front.specs.declared.steps.End.TheVariants.{Disc, Abort, Eof, Dropped, NoExport, Turns}
use Rattle.nbd_hosting.specs.Serving as nbd
use Rattle.hosting.specs.declared.hosted_bricks.TimedBricks.{TimedBricks}
use Rattle.hosting.specs.Hosted.{Hosted, IsTurn, TakeTurns, StopTurns}
use Rattle.hosting.specs.Hosting.{Hosts, HostsUntil, rounds_of}
use Rattle.hosting.specs.Rounds as client
use Rattle.hosting.specs.Rounds.{Heard, Took, AreStopped}
use Rattle.fab_disk.specs.declared.disk.Disk as on_disk
use Rattle.fab_io.specs.declared.clocks.Clock as on_clock
use Rattle.fab_io.specs.declared.links.Link as on_link
use Rattle.brick.specs.declared.endings.Ending.{Ending}
use Rattle.brick.specs.Locals.{AreSame, AreRunning, KeepsHosted, RoseIn, Takes, Stops}
use Rattle.brick.specs.Views.{Views}

pub same_refl : {D L : Type 0} (bricks : List (Hosted D L)) → AreSame bricks bricks
same_refl [] = tt
same_refl (brick ∷ more) = (record { layout = refl; me = refl }, same_refl more)

-- nothing was done with them
pub keeps_none : {D L C : Type 0} (d : on_disk.Ghosts D) (l : on_link.Ghosts L) (c : on_clock.Ghosts C) (bricks : TimedBricks D L C) (link : L) (ending : Ending)
    → KeepsHosted d l c bricks bricks link link ending
keeps_none d l c bricks link ending =
    record { same = same_refl bricks.bricks.bricks; runs_still = λ run not. run; bricks = λ sound. sound; link = λ sound. sound }

same_equal : {D L : Type 0} (bricks after : List (Hosted D L)) → after ≡ bricks → AreSame bricks after
same_equal {D} {L} bricks after is = subst (λ (b : List (Hosted D L)). AreSame bricks b) (sym is) (same_refl bricks)

same_then : {D L : Type 0} (a b c : List (Hosted D L)) → AreSame a b → AreSame b c → AreSame a c
same_then [] [] [] p q = tt
same_then [] [] (z ∷ c) p q = absurd q
same_then [] (y ∷ b) c p q = absurd p
same_then (x ∷ a) [] c p q = absurd p
same_then (x ∷ a) (y ∷ b) [] p q = absurd q
same_then (x ∷ a) (y ∷ b) (z ∷ c) p q =
    (record { layout = q.0.layout ∙ p.0.layout; me = q.0.me ∙ p.0.me }, same_then a b c p.1 q.1)

-- none is the last of no bricks
same_some : {D L : Type 0} (a : List (Hosted D L)) (x : Hosted D L) → AreSame (a ++ (x ∷ [])) [] → ⊥
same_some [] x p = p
same_some (y ∷ a) x p = p

some_same : {D L : Type 0} (b : List (Hosted D L)) (y : Hosted D L) → AreSame [] (b ++ (y ∷ [])) → ⊥
some_same [] y p = p
some_same (z ∷ b) y p = p

-- those before the last one, and the last one
pub same_last : {D L : Type 0} (a b : List (Hosted D L)) (x y : Hosted D L) → AreSame (a ++ (x ∷ [])) (b ++ (y ∷ []))
    → AreSame a b × IsSameBrick x.node y.node
same_last [] [] x y p = (tt, p.0)
same_last [] (z ∷ b) x y p = absurd (some_same b y p.1)
same_last (z ∷ a) [] x y p = absurd (same_some a x p.1)
same_last (z ∷ a) (w ∷ b) x y p = let more = same_last a b x y p.1 in ((p.0, more.0), more.1)

-- there is a last one
pub some_last : {D L : Type 0} (a b : List (Hosted D L)) (x : Hosted D L) → AreSame (a ++ (x ∷ [])) b → 0 < length b
some_last a [] x p = absurd (same_some a x p)
some_last a (y ∷ b) x p = omega arith

-- ---- all of them

-- what is so of each is so with one more, and of each that was before the last one, and of that
pub all_more : {X : Type 0} (P : X → Type 0) (a : List X) (x : X) → AllByRecursion P a → P x → AllByRecursion P (a ++ (x ∷ []))
all_more P [] x all last = (last, tt)
all_more P (y ∷ a) x all last = (all.0, all_more P a x all.1 last)

pub all_last : {X : Type 0} (P : X → Type 0) (a : List X) (x : X) → AllByRecursion P (a ++ (x ∷ [])) → AllByRecursion P a × P x
all_last P [] x all = (tt, all.0)
all_last P (y ∷ a) x all = let more = all_last P a x all.1 in ((all.0, more.0), more.1)

-- ---- turns

module _ {D L C : Type 0} (v : Views D L C) where
  same_turn : (before after : Hosted D L) (clock clock_after : C) (fault : ServeFault)
      → IsTurn v.disk v.link v.clock before after clock clock_after (Err fault) → IsSameBrick before.node after.node
  same_turn before after clock clock_after serving.Disk t = t.same
  same_turn before after clock clock_after serving.Link t = t.same
  same_turn before after clock clock_after serving.Clock t = t.same
  same_turn before after clock clock_after serving.NoMemory t = t.same
  same_turn before after clock clock_after serving.Halted t =
      record { layout = ap (λ (b : Hosted D L). b.node.layout) t.1; me = ap (λ (b : Hosted D L). b.node.me) t.1 }

  same_taken : (bricks after : List (Hosted D L)) (clock clock_after : C) → TakeTurns v.disk v.link v.clock bricks after clock clock_after
      → AreSame bricks after
  same_taken [] [] clock clock_after t = tt
  same_taken [] (y ∷ after) clock clock_after t = absurd t
  same_taken (x ∷ bricks) [] clock clock_after t = absurd t
  same_taken (x ∷ bricks) (y ∷ after) clock clock_after t = (t.2.same, same_taken bricks after t.0 clock_after t.3)

  same_stopped : (fault : ServeFault) (bricks after : List (Hosted D L)) (clock clock_after : C)
      → StopTurns v.disk v.link v.clock fault bricks after clock clock_after → AreSame bricks after
  same_stopped fault [] [] clock clock_after t = absurd t
  same_stopped fault [] (y ∷ after) clock clock_after t = absurd t
  same_stopped fault (x ∷ bricks) [] clock clock_after t = absurd t
  same_stopped fault (x ∷ bricks) (y ∷ after) clock clock_after (inl t) = (same_turn x y clock clock_after fault t.0, same_equal bricks after t.1)
  same_stopped fault (x ∷ bricks) (y ∷ after) clock clock_after (inr t) = (t.2.same, same_stopped fault bricks after t.0 clock_after t.3)

  same_took : (rounds : List Heard) (before after : TimedBricks D L C) → Took (Takes v) rounds before after
      → AreSame before.bricks.bricks after.bricks.bricks
  same_took [] before after t = same_equal before.bricks.bricks after.bricks.bricks (ap (λ (b : TimedBricks D L C). b.bricks.bricks) t)
  same_took (round ∷ rounds) before after t =
      same_then before.bricks.bricks t.0.bricks.bricks after.bricks.bricks
      (same_taken before.bricks.bricks t.0.bricks.bricks before.clock t.0.clock t.1) (same_took rounds t.0 after t.2)

  same_end : (before after : TimedBricks D L C) (fault : HostFault) → AreStopped (Takes v) (Stops v) before after fault
      → AreSame before.bricks.bricks after.bricks.bricks
  same_end before after fault (inl t) = same_stopped t.0 before.bricks.bricks after.bricks.bricks before.clock after.clock t.2
  same_end before after fault (inr (other, inl is)) =
      same_equal before.bricks.bricks after.bricks.bricks (ap (λ (b : TimedBricks D L C). b.bricks.bricks) is)
  same_end before after fault (inr (other, inr t)) = same_taken before.bricks.bricks after.bricks.bricks before.clock after.clock t

  module _ (layout : Layout) (turns : ℕ) (source source_after out said : Option (List ℕ)) (link link_after : client.Told) (before after : TimedBricks D L C) where
    -- commands were run, to their end or to a fault
    pub same_hosts : Hosts (Takes v) layout turns source source_after link link_after before after out said → AreSame before.bricks.bricks after.bricks.bricks
    same_hosts h = same_took (rounds_of h.played) before after h.took

    pub same_until : (fault : HostFault) → HostsUntil (Takes v) (Stops v) layout turns source source_after link link_after before after out said fault
        → AreSame before.bricks.bricks after.bricks.bricks
    same_until fault h =
        same_then before.bricks.bricks h.bricks_then.bricks.bricks after.bricks.bricks (same_took (rounds_of h.played) before h.bricks_then h.took)
        (elim h.stopped [
          | inl reading ↦ same_equal h.bricks_then.bricks.bricks after.bricks.bricks (ap (λ (b : TimedBricks D L C). b.bricks.bricks) reading.bricks_are)
          | inr stop ↦
              same_then h.bricks_then.bricks.bricks stop.1.mid.bricks.bricks after.bricks.bricks
              (same_took stop.1.rounds h.bricks_then stop.1.mid stop.1.took) (same_end stop.1.mid after fault stop.1.stopped)
        ])

-- ---- none is halted

-- a turn that was stopped by no fault of the disk halts no brick
module _ {D L C : Type 0} (v : Views D L C) where
  run_turn : (before after : Hosted D L) (clock clock_after : C) (met : ServeFault) → (fault_of met ≡ faults.Disk → ⊥)
      → IsTurn v.disk v.link v.clock before after clock clock_after (Err met) → after.node.brick.halted ≡ false
  run_turn before after clock clock_after serving.Disk not t = absurd (not refl)
  run_turn before after clock clock_after serving.Link not t = t.runs (λ e. cc)
  run_turn before after clock clock_after serving.Clock not t = t.runs (λ e. cc)
  run_turn before after clock clock_after serving.NoMemory not t = t.runs (λ e. cc)
  run_turn before after clock clock_after serving.Halted not t = absurd (not refl)

  run_taken : (bricks after : List (Hosted D L)) (clock clock_after : C) → TakeTurns v.disk v.link v.clock bricks after clock clock_after
      → AreRunning after
  run_taken [] [] clock clock_after t = tt
  run_taken [] (y ∷ after) clock clock_after t = absurd t
  run_taken (x ∷ bricks) [] clock clock_after t = absurd t
  run_taken (x ∷ bricks) (y ∷ after) clock clock_after t = (t.2.runs (λ e. cc), run_taken bricks after t.0 clock_after t.3)

  run_stopped : (met : ServeFault) (bricks after : List (Hosted D L)) (clock clock_after : C) → (fault_of met ≡ faults.Disk → ⊥) → AreRunning bricks
      → StopTurns v.disk v.link v.clock met bricks after clock clock_after → AreRunning after
  run_stopped met [] [] clock clock_after not run t = absurd t
  run_stopped met [] (y ∷ after) clock clock_after not run t = absurd t
  run_stopped met (x ∷ bricks) [] clock clock_after not run t = absurd t
  run_stopped met (x ∷ bricks) (y ∷ after) clock clock_after not run (inl t) =
      (run_turn x y clock clock_after met not t.0, subst (λ (b : List (Hosted D L)). AreRunning b) (sym t.1) run.1)
  run_stopped met (x ∷ bricks) (y ∷ after) clock clock_after not run (inr t) =
      (t.2.runs (λ e. cc), run_stopped met bricks after t.0 clock_after not run.1 t.3)

  run_took : (rounds : List Heard) (before after : TimedBricks D L C) → AreRunning before.bricks.bricks → Took (Takes v) rounds before after
      → AreRunning after.bricks.bricks
  run_took [] before after run t = subst (λ (b : TimedBricks D L C). AreRunning b.bricks.bricks) (sym t) run
  run_took (round ∷ rounds) before after run t =
      run_took rounds t.0 after (run_taken before.bricks.bricks t.0.bricks.bricks before.clock t.0.clock t.1) t.2

  run_end : (before after : TimedBricks D L C) (fault : HostFault) → (fault ≡ faults.Disk → ⊥) → AreRunning before.bricks.bricks
      → AreStopped (Takes v) (Stops v) before after fault → AreRunning after.bricks.bricks
  run_end before after fault not run (inl t) =
      run_stopped t.0 before.bricks.bricks after.bricks.bricks before.clock after.clock (λ e. not (t.1 ∙ e)) run t.2
  run_end before after fault not run (inr (other, inl is)) = subst (λ (b : TimedBricks D L C). AreRunning b.bricks.bricks) (sym is) run
  run_end before after fault not run (inr (other, inr t)) = run_taken before.bricks.bricks after.bricks.bricks before.clock after.clock t

  module _ (layout : Layout) (turns : ℕ) (source source_after out said : Option (List ℕ)) (link link_after : client.Told) (before after : TimedBricks D L C)
      (run : AreRunning before.bricks.bricks) where
    pub run_hosts : Hosts (Takes v) layout turns source source_after link link_after before after out said → AreRunning after.bricks.bricks
    run_hosts h = run_took (rounds_of h.played) before after run h.took

    pub run_until : (fault : HostFault) → (fault ≡ faults.Disk → ⊥)
        → HostsUntil (Takes v) (Stops v) layout turns source source_after link link_after before after out said fault → AreRunning after.bricks.bricks
    run_until fault not h =
        let then = run_took (rounds_of h.played) before h.bricks_then run h.took in
        elim h.stopped [
          | inl reading ↦ subst (λ (b : TimedBricks D L C). AreRunning b.bricks.bricks) (sym reading.bricks_are) then
          | inr stop ↦ run_end stop.1.mid after fault not (run_took stop.1.rounds h.bricks_then stop.1.mid then stop.1.took) stop.1.stopped
        ]

-- ---- which disk failed

module _ {D L C : Type 0} (v : Views D L C) where
  -- no count of the disk of a brick fell
  abbrev AreLater : List (Hosted D L) → List (Hosted D L) → Type 0
  AreLater [] [] = Unit {0}
  AreLater (x ∷ bricks) (y ∷ after) = (v.disk.faults x.node.brick.disk ≤ v.disk.faults y.node.brick.disk) × AreLater bricks after
  AreLater bricks after = ⊥

  later_refl : (bricks : List (Hosted D L)) → AreLater bricks bricks
  later_refl [] = tt
  later_refl (x ∷ bricks) = (omega arith, later_refl bricks)

  later_taken : (bricks after : List (Hosted D L)) (clock clock_after : C) → TakeTurns v.disk v.link v.clock bricks after clock clock_after
      → AreLater bricks after
  later_taken [] [] clock clock_after t = tt
  later_taken [] (y ∷ after) clock clock_after t = absurd t
  later_taken (x ∷ bricks) [] clock clock_after t = absurd t
  later_taken (x ∷ bricks) (y ∷ after) clock clock_after t = (t.2.disk.later, later_taken bricks after t.0 clock_after t.3)

  later_then : (a b c : List (Hosted D L)) → AreLater a b → AreLater b c → AreLater a c
  later_then [] [] [] p q = tt
  later_then [] [] (z ∷ c) p q = absurd q
  later_then [] (y ∷ b) c p q = absurd p
  later_then (x ∷ a) [] c p q = absurd p
  later_then (x ∷ a) (y ∷ b) [] p q = absurd q
  later_then (x ∷ a) (y ∷ b) (z ∷ c) p q = (omega (arith, p.0, q.0), later_then a b c p.1 q.1)

  later_took : (rounds : List Heard) (before after : TimedBricks D L C) → Took (Takes v) rounds before after
      → AreLater before.bricks.bricks after.bricks.bricks
  later_took [] before after t = subst (λ (b : TimedBricks D L C). AreLater before.bricks.bricks b.bricks.bricks) (sym t) (later_refl before.bricks.bricks)
  later_took (round ∷ rounds) before after t =
      later_then before.bricks.bricks t.0.bricks.bricks after.bricks.bricks
      (later_taken before.bricks.bricks t.0.bricks.bricks before.clock t.0.clock t.1) (later_took rounds t.0 after t.2)

  -- a count that rose has risen since before
  rose_since : (a b c : List (Hosted D L)) → AreLater a b → RoseIn v b c → RoseIn v a c
  rose_since [] [] c p q = q
  rose_since [] (y ∷ b) c p q = absurd p
  rose_since (x ∷ a) [] c p q = absurd p
  rose_since (x ∷ a) (y ∷ b) [] p q = absurd q
  rose_since (x ∷ a) (y ∷ b) (z ∷ c) p (inl rose) = inl (Rose-later p.0 rose)
  rose_since (x ∷ a) (y ∷ b) (z ∷ c) p (inr rose) = inr (rose_since a b c p.1 rose)

  -- a turn that a disk ended, of a brick that was not halted
  rose_turn : (before after : Hosted D L) (clock clock_after : C) (met : ServeFault) → fault_of met ≡ faults.Disk → before.node.brick.halted ≡ false
      → IsTurn v.disk v.link v.clock before after clock clock_after (Err met) → Rose (v.disk.faults before.node.brick.disk) (v.disk.faults after.node.brick.disk)
  rose_turn before after clock clock_after serving.Disk is run t = t.disk.rose refl
  rose_turn before after clock clock_after serving.Link is run t = absurd cc
  rose_turn before after clock clock_after serving.Clock is run t = absurd cc
  rose_turn before after clock clock_after serving.NoMemory is run t = absurd cc
  rose_turn before after clock clock_after serving.Halted is run t = absurd (let never : false ≡ true = sym run ∙ t.0 in cc)

  rose_stopped : (met : ServeFault) (bricks after : List (Hosted D L)) (clock clock_after : C) → fault_of met ≡ faults.Disk → AreRunning bricks
      → StopTurns v.disk v.link v.clock met bricks after clock clock_after → RoseIn v bricks after
  rose_stopped met [] [] clock clock_after is run t = absurd t
  rose_stopped met [] (y ∷ after) clock clock_after is run t = absurd t
  rose_stopped met (x ∷ bricks) [] clock clock_after is run t = absurd t
  rose_stopped met (x ∷ bricks) (y ∷ after) clock clock_after is run (inl t) = inl (rose_turn x y clock clock_after met is run.0 t.0)
  rose_stopped met (x ∷ bricks) (y ∷ after) clock clock_after is run (inr t) = inr (rose_stopped met bricks after t.0 clock_after is run.1 t.3)

  rose_end : (before after : TimedBricks D L C) (fault : HostFault) → fault ≡ faults.Disk → AreRunning before.bricks.bricks
      → AreStopped (Takes v) (Stops v) before after fault → RoseIn v before.bricks.bricks after.bricks.bricks
  rose_end before after fault is run (inl t) =
      rose_stopped t.0 before.bricks.bricks after.bricks.bricks before.clock after.clock (sym t.1 ∙ is) run t.2
  rose_end before after fault is run (inr (other, rest)) = absurd (subst IsOther is other)

  -- a run that a disk ended is one in which the count of that disk rose
  pub rose_until : (layout : Layout) (turns : ℕ) (source source_after out said : Option (List ℕ)) (link link_after : client.Told) (before after : TimedBricks D L C)
      (fault : HostFault) → fault ≡ faults.Disk → AreRunning before.bricks.bricks
      → HostsUntil (Takes v) (Stops v) layout turns source source_after link link_after before after out said fault → RoseIn v before.bricks.bricks after.bricks.bricks
  rose_until layout turns source source_after out said link link_after before after fault is run h =
      elim h.stopped [
        | inl reading ↦ absurd (subst AtSource is reading.at)
        | inr stop ↦
            let then = run_took v (rounds_of h.played) before h.bricks_then run h.took in
            rose_since before.bricks.bricks h.bricks_then.bricks.bricks after.bricks.bricks (later_took (rounds_of h.played) before h.bricks_then h.took)
            (rose_since h.bricks_then.bricks.bricks stop.1.mid.bricks.bricks after.bricks.bricks (later_took stop.1.rounds h.bricks_then stop.1.mid stop.1.took)
            (rose_end stop.1.mid after fault is (run_took v stop.1.rounds h.bricks_then stop.1.mid then stop.1.took) stop.1.stopped))
      ]

-- ---- where a session was served

module _ {D L C : Type 0} (v : Views D L C) (layout : Layout) (turns : ℕ) (before after : nbd.Outside (TimedBricks D L C)) where
  -- what is outside is as it was
  bricks_kept : (now : nbd.Outside (TimedBricks D L C)) → after ≡ now → after.bricks ≡ now.bricks
  bricks_kept now is = ap (λ (o : nbd.Outside (TimedBricks D L C)). o.bricks) is

  -- the rounds of a session, and those of a command that was left open as it ended
  abbrev EndRounds : TimedBricks D L C → Type 0
  EndRounds mid = (rounds : List Heard) × Took (Takes v) rounds mid after.bricks

  end_rounds : (standing : nbd.Standing) (now : nbd.Outside (TimedBricks D L C)) (end : End) → nbd.EndsAs (Takes v) layout standing now after end
      → EndRounds now.bricks
  end_rounds standing now Disc ends = ([], bricks_kept now ends.0)
  end_rounds standing now Abort ends = ([], bricks_kept now ends.0)
  end_rounds standing now Eof ends = ([], bricks_kept now ends.0)
  end_rounds standing now Dropped ends = ([], bricks_kept now ends.0)
  end_rounds standing now NoExport ends = ([], bricks_kept now ends.0)
  end_rounds standing now Turns ends = elim ends [ inl over ↦ ([], bricks_kept now over.0) | inr command ↦ (command.rounds, command.took) ]

  pub same_session : (end : End) → nbd.ServesSession (Takes v) layout turns before after end → AreSame before.bricks.bricks.bricks after.bricks.bricks.bricks
  same_session end s =
      let last = end_rounds s.standing s.now end s.over in
      same_then before.bricks.bricks.bricks s.now.bricks.bricks.bricks after.bricks.bricks.bricks
      (same_took v s.standing.rounds before.bricks s.now.bricks s.served.took) (same_took v last.0 s.now.bricks after.bricks last.1)

  pub run_session : (end : End) → AreRunning before.bricks.bricks.bricks → nbd.ServesSession (Takes v) layout turns before after end
      → AreRunning after.bricks.bricks.bricks
  run_session end run s =
      let last = end_rounds s.standing s.now end s.over in
      run_took v last.0 s.now.bricks after.bricks (run_took v s.standing.rounds before.bricks s.now.bricks run s.served.took) last.1

  -- the bricks stayed as a session left them, or they were stopped in a command of it
  abbrev StopRounds : TimedBricks D L C → HostFault → Type 0
  StopRounds mid fault =
      ((after.bricks ≡ mid) × (fault ≡ faults.Disk → ⊥))
      ⊎ ((rounds : List Heard) × (late : TimedBricks D L C) × Took (Takes v) rounds mid late × AreStopped (Takes v) (Stops v) late after.bricks fault)

  stop_rounds : (fault : HostFault) (s : nbd.ServesUntil (Takes v) (Stops v) layout turns before after fault) → StopRounds s.now.bricks fault
  stop_rounds fault s =
      elim s.stopped [
        | inl read ↦ inl (bricks_kept s.now read.1, λ is. subst AtSource is read.0)
        | inr other ↦ elim other [
          | inl sent ↦ inl (sent.rest_is.2, λ is. subst AtSink is sent.at)
          | inr ran ↦ inr (ran.stopped.rounds, ran.stopped.mid, ran.stopped.took, ran.stopped.stopped)
        ]
      ]

  pub same_session_until : (fault : HostFault) → nbd.ServesUntil (Takes v) (Stops v) layout turns before after fault
      → AreSame before.bricks.bricks.bricks after.bricks.bricks.bricks
  same_session_until fault s =
      same_then before.bricks.bricks.bricks s.now.bricks.bricks.bricks after.bricks.bricks.bricks
      (same_took v s.standing.rounds before.bricks s.now.bricks s.served.took)
      (elim (stop_rounds fault s) [
        | inl kept ↦ same_equal s.now.bricks.bricks.bricks after.bricks.bricks.bricks (ap (λ (b : TimedBricks D L C). b.bricks.bricks) kept.0)
        | inr ran ↦
            same_then s.now.bricks.bricks.bricks ran.1.bricks.bricks after.bricks.bricks.bricks (same_took v ran.0 s.now.bricks ran.1 ran.2)
            (same_end v ran.1 after.bricks fault ran.3)
      ])

  pub run_session_until : (fault : HostFault) → AreRunning before.bricks.bricks.bricks → (fault ≡ faults.Disk → ⊥)
      → nbd.ServesUntil (Takes v) (Stops v) layout turns before after fault → AreRunning after.bricks.bricks.bricks
  run_session_until fault run not s =
      let then = run_took v s.standing.rounds before.bricks s.now.bricks run s.served.took in
      elim (stop_rounds fault s) [
        | inl kept ↦ subst (λ (b : TimedBricks D L C). AreRunning b.bricks.bricks) (sym kept.0) then
        | inr ran ↦ run_end v ran.1 after.bricks fault not (run_took v ran.0 s.now.bricks ran.1 then ran.2) ran.3
      ]

  pub rose_session : (fault : HostFault) → fault ≡ faults.Disk → AreRunning before.bricks.bricks.bricks
      → nbd.ServesUntil (Takes v) (Stops v) layout turns before after fault → RoseIn v before.bricks.bricks.bricks after.bricks.bricks.bricks
  rose_session fault is run s =
      let then = run_took v s.standing.rounds before.bricks s.now.bricks run s.served.took in
      elim (stop_rounds fault s) [
        | inl kept ↦ absurd (kept.1 is)
        | inr ran ↦
            rose_since v before.bricks.bricks.bricks s.now.bricks.bricks.bricks after.bricks.bricks.bricks
            (later_took v s.standing.rounds before.bricks s.now.bricks s.served.took)
            (rose_since v s.now.bricks.bricks.bricks ran.1.bricks.bricks after.bricks.bricks.bricks (later_took v ran.0 s.now.bricks ran.1 ran.2)
            (rose_end v ran.1 after.bricks fault is (run_took v ran.0 s.now.bricks ran.1 then ran.2) ran.3))
      ]
