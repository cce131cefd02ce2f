-- One step of a session that is served, by what it did.
use Rattle.std.proofs.Common.{◌≡◌, ◌<◌, ℕ, List, Option, Some, None, Result, Ok, Err, OnOk, sym, ap, subst, ◌∙◌, inl, inr, arith}
use Rattle.std.specs.Io.KnownBytes.{Appends}
use Rattle.fab_base.specs.Layouts.{Layout}
use Rattle.fab_io.specs.Ends.{AppendsFront}
use Rattle.nbd_front.specs.declared.steps.End.{End}
use Rattle.nbd_front.specs.declared.steps.End.TheVariants.{Disc, Abort, Eof, Dropped, NoExport, Turns}
use Rattle.nbd_front.specs.declared.steps.Step.TheVariants as step
use Rattle.nbd_front.specs.Sessions.{Session, Waits, Asks, move_of, step_of, after, fed, answered, ReadsNoFurther}
use Rattle.nbd_front.specs.Lives.{effort}
use Rattle.nbd_front.proofs.Nearing.{effort_said, effort_answered, effort_fed}
use Rattle.hosting.specs.Faults.{AtSource, AtSink}
use Rattle.hosting.specs.Rounds.{Told}
use Rattle.hosting.specs.declared.faults.HostFault.{HostFault}
use Rattle.nbd_hosting.specs.Serving.{Outside, ServesSession}
use Rattle.nbd_hosting.specs.Steps.{ReadsClient, RunsAsked, IsServing, ServesOn}
use Rattle.nbd_hosting.proofs.Standings.{need_is, ask_is, ended_is, waits_same, asks_same, says_then, IsServing-read, IsServing-sent, IsServing-run, Serves-own, Serves-eof, Serves-turns, Serves-open, Until-idle, Until-read, Until-fed, Until-sent, Until-run}

-- a session that asks a command asks it still
pub asks_then : (first session : Session) → step.Ask ≡ step_of (move_of first) → session ≡ after first (move_of first) → move_of session ≡ Asks
asks_then first session ask is = ap move_of (asks_same first session ask is) ∙ ask_is (move_of first) ask

module _ {A : Type 0} (takes : A → A → Type 0) (layout : Layout) (turns : ℕ) (before : Outside A) where
  -- asked what it does next, it waits for bytes
  waiting_at : (now : Outside A) (first session : Session) (left sent : ℕ) → IsServing takes layout turns before now first left sent
      → step.Need ≡ step_of (move_of first) → session ≡ after first (move_of first)
      → IsServing takes layout turns before now session left sent × (move_of session ≡ Waits)
  waiting_at now first session left sent h need is =
      let same = waits_same first session need is in
      (subst (λ (s : Session). IsServing takes layout turns before now s left sent) (sym same) h, ap move_of same ∙ need_is (move_of first) need)

  -- or it asks a command
  asking_at : (now : Outside A) (first session : Session) (left sent : ℕ) → IsServing takes layout turns before now first left sent
      → step.Ask ≡ step_of (move_of first) → session ≡ after first (move_of first)
      → IsServing takes layout turns before now session left sent × (move_of session ≡ Asks)
  asking_at now first session left sent h ask is =
      let same = asks_same first session ask is in
      (subst (λ (s : Session). IsServing takes layout turns before now s left sent) (sym same) h, asks_then first session ask is)

module _ {A : Type 0} (takes : A → A → Type 0) (stops : A → A → HostFault → Type 0) (layout : Layout) where
  -- nothing was done: memory was wanted for the session's next move
  pub ServesOn-idle : (now : Outside A) (first session : Session) (left sent : ℕ) (fault : HostFault) → AtSource fault
      → ServesOn takes stops layout now now first session left left sent sent (Err fault)
  ServesOn-idle now first session left sent fault at =
      λ turns before h. Until-idle takes layout turns before stops fault now first left sent h at

  -- the session says that it ended
  pub ServesOn-ended : (now : Outside A) (first session : Session) (left sent : ℕ) (end : End) → step.Ended end ≡ step_of (move_of first)
      → ServesOn takes stops layout now now first session left left sent sent (Ok (Some end))
  ServesOn-ended now first session left sent end is =
      λ turns before h. Serves-own takes layout turns before now first left sent end h (ended_is (move_of first) end is)

  -- bytes were sent
  pub ServesOn-sent : (now : Outside A) (first session : Session) (left sent : ℕ) (sink : Option (List ℕ)) (bytes : List ℕ)
      → step.Send bytes ≡ step_of (move_of first) → session ≡ after first (move_of first) → (ReadsNoFurther first → ReadsNoFurther session)
      → Appends now.sink sink bytes → ServesOn takes stops layout now (record now { sink = sink }) first session left left sent sent (Ok None)
  ServesOn-sent now first session left sent sink bytes send is within took =
      λ turns before h.
      let says = says_then first session bytes send is in
      (IsServing-sent takes layout turns before now first session left sent sink bytes h says took (within h.runs.within), effort_said first session bytes left h.runs says)

  -- and as they were sent, the sink failed
  pub ServesOn-unsent : (now : Outside A) (first session : Session) (left sent : ℕ) (sink : Option (List ℕ)) (bytes : List ℕ) (fault : HostFault)
      → step.Send bytes ≡ step_of (move_of first) → session ≡ after first (move_of first) → AppendsFront now.sink sink bytes → AtSink fault
      → ServesOn takes stops layout now (record now { sink = sink }) first session left left sent sent (Err fault)
  ServesOn-unsent now first session left sent sink bytes fault send is took at =
      λ turns before h.
      Until-sent takes layout turns before stops fault now first session left sent sink bytes h (says_then first session bytes send is) took at

  -- bytes were read, or were not
  pub ServesOn-read : (now : Outside A) (source : Option (List ℕ)) (first session session_then : Session) (left left_then sent : ℕ)
      (r : Result (Option End) HostFault) → step.Need ≡ step_of (move_of first) → session ≡ after first (move_of first)
      → ReadsClient session session_then left left_then now.source source r → OnOk r (ReadsNoFurther session → ReadsNoFurther session_then)
      → ServesOn takes stops layout now (record now { source = source }) first session_then left left_then sent sent r
  ServesOn-read now source first session session_then left left_then sent (Ok None) need is (piece, taken, session_is, left_is) within =
      λ turns before h.
      let at = waiting_at takes layout turns before now first session left sent h need is in
      let within_then = within at.0.runs.within in
      let nearer : effort (fed session piece) left_then < effort session left =
      effort_fed session piece left left_then at.1 (subst ReadsNoFurther session_is within_then) taken.some taken.paid left_is in (
        IsServing-read takes layout turns before now session session_then left left_then sent source piece at.0 at.1 taken.some taken.few taken.paid
            taken.came session_is within_then left_is,
        subst (λ (s : Session). effort s left_then < effort first left) (sym session_is)
            (subst (λ (s : Session). effort (fed session piece) left_then < effort s left) (waits_same first session need is) nearer),
      )
  ServesOn-read now source first session session_then left left_then sent (Ok (Some Turns)) need is (same, wants, none) within =
      λ turns before h.
      let at = waiting_at takes layout turns before now first session left sent h need is in
      subst (λ (s : Option (List ℕ)). ServesSession takes layout turns before (record now { source = s }) Turns) (sym same)
      (Serves-turns takes layout turns before now session left sent at.0 at.1 wants none)
  ServesOn-read now source first session session_then left left_then sent (Ok (Some Eof)) need is (keeps, end) within =
      λ turns before h.
      let at = waiting_at takes layout turns before now first session left sent h need is in
      Serves-eof takes layout turns before now session left sent source at.0 at.1 keeps end
  ServesOn-read now source first session session_then left left_then sent (Ok (Some Disc)) need is never within = absurd never
  ServesOn-read now source first session session_then left left_then sent (Ok (Some Abort)) need is never within = absurd never
  ServesOn-read now source first session session_then left left_then sent (Ok (Some Dropped)) need is never within = absurd never
  ServesOn-read now source first session session_then left left_then sent (Ok (Some NoExport)) need is never within = absurd never
  ServesOn-read now source first session session_then left left_then sent (Err fault) need is (at_source, inl keeps) within =
      λ turns before h.
      let at = waiting_at takes layout turns before now first session left sent h need is in
      Until-read takes layout turns before stops fault now session left sent source at.0 keeps at_source
  ServesOn-read now source first session session_then left left_then sent (Err fault) need is (at_source, inr (piece, taken)) within =
      λ turns before h.
      let at = waiting_at takes layout turns before now first session left sent h need is in
      Until-fed takes layout turns before stops fault now session left sent source piece at.0 at.1 taken.some taken.few taken.paid taken.came at_source

  -- its command was run
  pub ServesOn-run : (now : Outside A) (link : Told) (bricks : A) (first session session_then : Session) (left left_then sent sent_then : ℕ)
      (r : Result (Option End) HostFault) → step.Ask ≡ step_of (move_of first) → session ≡ after first (move_of first)
      → RunsAsked takes stops layout session session_then left left_then sent sent_then now.link link now.bricks bricks r
      → OnOk r (ReadsNoFurther session → ReadsNoFurther session_then)
      → ServesOn takes stops layout now (record now { link = link; bricks = bricks }) first session_then left left_then sent sent_then r
  ServesOn-run now link bricks first session session_then left left_then sent sent_then (Ok None) ask is (answer, (rounds, runs, took), session_is, few) within =
      λ turns before h.
      let at = asking_at takes layout turns before now first session left sent h ask is in
      let counted = runs.counted in
      let nearer : effort (answered session answer) left_then < effort session left =
      effort_answered session answer left left_then at.0.runs at.1 (omega (arith, counted)) in (
        IsServing-run takes layout turns before now session session_then left left_then sent sent_then link bricks rounds answer at.0 at.1 runs took session_is
            (within at.0.runs.within) few,
        subst (λ (s : Session). effort s left_then < effort first left) (sym session_is)
            (subst (λ (s : Session). effort (answered session answer) left_then < effort s left) (asks_same first session ask is) nearer),
      )
  ServesOn-run now link bricks first session session_then left left_then sent sent_then (Ok (Some Turns)) ask is (rounds, runs, took) within =
      λ turns before h.
      let at = asking_at takes layout turns before now first session left sent h ask is in
      Serves-open takes layout turns before now session left left_then sent sent_then link bricks rounds at.0 at.1 runs took
  ServesOn-run now link bricks first session session_then left left_then sent sent_then (Ok (Some Eof)) ask is never within = absurd never
  ServesOn-run now link bricks first session session_then left left_then sent sent_then (Ok (Some Disc)) ask is never within = absurd never
  ServesOn-run now link bricks first session session_then left left_then sent sent_then (Ok (Some Abort)) ask is never within = absurd never
  ServesOn-run now link bricks first session session_then left left_then sent sent_then (Ok (Some Dropped)) ask is never within = absurd never
  ServesOn-run now link bricks first session session_then left left_then sent sent_then (Ok (Some NoExport)) ask is never within = absurd never
  ServesOn-run now link bricks first session session_then left left_then sent sent_then (Err fault) ask is stop within =
      λ turns before h.
      let at = asking_at takes layout turns before now first session left sent h ask is in
      Until-run takes layout turns before stops fault now session left sent link bricks at.0 at.1 stop
