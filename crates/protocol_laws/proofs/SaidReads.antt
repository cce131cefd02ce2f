-- What is said stays said where a synchronisation or a scrub begins, goes on or ends: a synchronisation says that all stripes are kept in its view once it has
-- read each of them.
use Rattle.std.proofs.Common.{◌≡◌, ℕ, ◌+◌, ◌<◌, ◌≤◌, ◌⊎◌, inl, inr, ⊎_elim, List, [], ◌∷◌, ◌++◌, Option, Some, None, refl, sym, ap, ◌∙◌, subst, arith, nat_lt}
use Rattle.std.specs.Option.{option_map}
use Rattle.std.proofs.lemmas.Bool.{cond_both, cases_lt, ltb-false}
use Rattle.std.proofs.lemmas.Option.{same_Some}
use Rattle.fab_base.specs.declared.identities.BrickId.{BrickId}
use Rattle.fab_base.specs.declared.identities.GroupId.{GroupId}
use Rattle.fab_base.specs.declared.asks.Ask.{Ask}
use Rattle.fab_base.specs.declared.answers.Answer.{Answer}
use Rattle.fab_base.specs.declared.answers.Cause.{Cause}
use Rattle.fab_base.specs.declared.stamps.Stamp.{Stamp}
use Rattle.fab_base.specs.Layouts.{Group, group_of}
use Rattle.messages.specs.declared.packets.Packet.{Packet}
use Rattle.protocol.specs.declared.tellings.Report.{Report}
use Rattle.protocol.specs.Settings.{Setting}
use Rattle.protocol.specs.Views.{Views, view_of, group_in, kept_by}
use Rattle.protocol.specs.Coordinators.{Coordinator}
use Rattle.protocol.specs.Jobs.{Job, Attempt, JobNext, Reads, Finishes, GivesUp, begun_job, job_ask, job_after, abort_cause, most_tries, synced_answer}
use Rattle.protocol.specs.Nodes.{Node, NodeStep, put, with_job, view_at, synced_packets, synced_at, job_reading, scrub_ended}
use Rattle.protocol.specs.Worlds.{World, Operation, number_of, world_stepped, with_held, choices_after}
use Rattle.protocol.specs.Happenings.{writes}
use Rattle.protocol.proofs.Packets.{OfEach, each_none}
use Rattle.protocol.proofs.Tables.{put_each, put_same}
use Rattle.view_laws.proofs.SyncReads.{synced_at_each, each_synced}
use Rattle.protocol_laws.specs.Laws.{Follows}
use Rattle.protocol_laws.proofs.Blocking.{PartsStay, stands_stays}
use Rattle.protocol_laws.proofs.Books.{Books, CallBooks, JobBooks, IsCall, IsOperation, ForJob, ForScrub, own_seq}
use Rattle.protocol_laws.proofs.BooksKept.{KeepsNumbers, HasNoRead, keeps_all, keeps_itself, reading_is, call_unmarked, KeepsReads, reads_stay, job_was, job_seq, own_books}
use Rattle.protocol_laws.proofs.BooksQuiet.{books_quiet}
use Rattle.protocol_laws.proofs.Closing.{AfterClose, closes, closed_world, closed_no_read}
use Rattle.protocol_laws.proofs.Begins.{said_read}
use Rattle.protocol_laws.proofs.Ends.{EndsWell, read_stands, said_closed, closed_stands}
use Rattle.protocol_laws.proofs.Replies.{said_known}
use Rattle.protocol_laws.proofs.Said.{Stamping, Said, IsSaid, Stands, PacketSays, JobSays}
use Rattle.protocol_laws.proofs.SaidQuiet.{said_placed, said_reports}
use Rattle.protocol_laws.proofs.Stampings.{ages_within, stamps_same}
use Rattle.protocol_laws.proofs.Steps.{keeps_same, quiet, parts_by, said_quiet, said_beside, stamps_stay_by}
use Rattle.protocol.specs.Scrubs.{Scrub}
use Rattle.protocol.specs.declared.tellings.ScrubAnswer.{ScrubAnswer}
use Rattle.messages.specs.declared.calls.Call.{Call}

-- no cause
abbrev no_cause : Option Cause
no_cause = None

-- a stripe of the next try is that of the last, or follows it where that was answered
next_stripe : (stripes : ℕ) (attempt next : Attempt) (cause : Option Cause) → job_after stripes attempt cause ≡ Reads next
    → (next.stripe ≡ attempt.stripe) ⊎ ((cause ≡ None) × (next.stripe ≡ attempt.stripe + 1))
next_stripe stripes attempt next None =
    cond_both (nat_lt (attempt.stripe + 1) stripes) (Reads (record { stripe = attempt.stripe + 1; tries = 1 })) Finishes
    (λ (z : JobNext). z ≡ Reads next → (next.stripe ≡ attempt.stripe) ⊎ ((no_cause ≡ None) × (next.stripe ≡ attempt.stripe + 1)))
    (λ more is. let same : record { stripe = attempt.stripe + 1; tries = 1 } ≡ next = cc in inr (refl, ap (λ (a : Attempt). a.stripe) (sym same)))
    (λ last is. absurd (let never : Finishes ≡ Reads next = is in cc))
next_stripe stripes attempt next (Some cause) =
    cond_both (nat_lt attempt.tries most_tries) (Reads (record attempt { tries = attempt.tries + 1 })) (GivesUp cause)
    (λ (z : JobNext). z ≡ Reads next → (next.stripe ≡ attempt.stripe) ⊎ ((Some cause ≡ None) × (next.stripe ≡ attempt.stripe + 1)))
    (λ more is. let same : record attempt { tries = attempt.tries + 1 } ≡ next = cc in inl (ap (λ (a : Attempt). a.stripe) (sym same)))
    (λ last is. absurd (let never : GivesUp cause ≡ Reads next = is in cc))

-- it finishes once the last stripe was answered
last_stripe : (stripes : ℕ) (attempt : Attempt) (cause : Option Cause) → job_after stripes attempt cause ≡ Finishes
    → (cause ≡ None) × (stripes ≤ attempt.stripe + 1)
last_stripe stripes attempt None =
    cond_both (nat_lt (attempt.stripe + 1) stripes) (Reads (record { stripe = attempt.stripe + 1; tries = 1 })) Finishes
    (λ (z : JobNext). z ≡ Finishes → (no_cause ≡ None) × (stripes ≤ attempt.stripe + 1))
    (λ more is. absurd (let never : Reads (record { stripe = attempt.stripe + 1; tries = 1 }) ≡ Finishes = is in cc))
    (λ last is. (refl, ltb-false (attempt.stripe + 1) stripes last))
last_stripe stripes attempt (Some cause) =
    cond_both (nat_lt attempt.tries most_tries) (Reads (record attempt { tries = attempt.tries + 1 })) (GivesUp cause)
    (λ (z : JobNext). z ≡ Finishes → (Some cause ≡ None) × (stripes ≤ attempt.stripe + 1))
    (λ more is. absurd (let never : Reads (record attempt { tries = attempt.tries + 1 }) ≡ Finishes = is in cc))
    (λ last is. absurd (let never : GivesUp cause ≡ Finishes = is in cc))

-- of a stripe a version of this view stands
abbrev IsKept : Setting → Views → World → ℕ → ℕ → ℕ → Type 0
IsKept setting views w g e s = (v : Stamp) × (view_of v ≡ e) × Stands setting views w g s v

module _ (setting : Setting) (views : Views) (w : World) (stamps : Stamping) (me : BrickId) (now : ℕ) (books : Books setting w) (said : Said setting views w stamps) where
  -- a brick's synchronisation ends, with no read open, or its scrub, which is not open
  module _ (more : List Packet) (job : Option Job) (scrub : Option Scrub) (ends : KeepsReads (w.nodes me.0) (record (w.nodes me.0) { job = job; scrub = scrub })) where
    -- the brick after
    abbrev idle : Node
    idle = record (w.nodes me.0) { job = job; scrub = scrub }

    idle_parts : PartsStay w (quiet w me idle more)
    idle_parts = parts_by w (quiet w me idle more) me.0 idle refl refl said.logged (keeps_same (w.nodes me.0) idle (refl, refl, refl))

    said_idle_job : OfEach (PacketSays setting views (quiet w me idle more) stamps) more → Said setting views (quiet w me idle more) stamps
    said_idle_job packets =
        said_quiet setting views w stamps stamps me idle more books said (stamps_same stamps) (record {
          keeps = keeps_same (w.nodes me.0) idle (refl, refl, refl);
          boot = refl;
          stamps_say = stamps_stay_by setting views w (quiet w me idle more) stamps me.0 idle said refl
              (ages_within (w.nodes me.0) idle refl (omega arith) (omega arith));
          stamps_other = λ i b k other p. refl;
          tops = λ g e s. inl refl;
          logs = λ g e s k version is. inl (k, is);
          lowest = λ g e s x log within is. inl (log, is);
          calls = λ k c is. inl (is, λ p. refl);
          jobs = λ one is. inl (job_was (w.nodes me.0) idle one ends.0 is);
          packets = packets;
        })

    idle_books : Books setting (quiet w me idle more)
    idle_books =
        books_quiet setting w (put w.nodes me.0 idle) (with_held w.held me.0 idle) w.clocks (w.packets ++ more) w.replies w.reached
        (choices_after w.choices me idle []) books
        (put_each (λ j (n : Node). KeepsNumbers (w.nodes j) n) w.nodes me.0 idle (record { boot = refl; seq = omega arith; known = omega arith })
        (λ j other. keeps_all (w.nodes j)))
        (λ j l. put_each (λ i (n : Node). n.calls l ≡ (w.nodes i).calls l) w.nodes me.0 idle refl (λ i other. refl) j)
        (put_each (λ j (n : Node). KeepsReads (w.nodes j) n) w.nodes me.0 idle ends (λ j other. reads_stay (w.nodes j)))

    said_idle_step : (reports : List Report) → OfEach (PacketSays setting views (quiet w me idle more) stamps) more
        → Said setting views (world_stepped setting w me (record { node = idle; packets = more; told = []; answers = []; reports = reports })) stamps
    said_idle_step reports packets =
        said_beside setting views (quiet w me idle more) stamps w.clocks w.replies w.reached (choices_after w.choices me idle reports) idle_books
        (said_idle_job packets)

  -- its synchronisation ends
  said_jobless : (more : List Packet) → HasNoRead (w.nodes me.0) ForJob → (reports : List Report)
      → (let idle = with_job (w.nodes me.0) None in
      OfEach (PacketSays setting views (quiet w me idle more) stamps) more
      → Said setting views (world_stepped setting w me (record { node = idle; packets = more; told = []; answers = []; reports = reports })) stamps)
  said_jobless more none = said_idle_step more None (w.nodes me.0).scrub (inr (refl, none), inl refl)

  -- its scrub ends
  pub said_scrubless : HasNoRead (w.nodes me.0) ForScrub → (call : Call) (members : List BrickId) (answer : ScrubAnswer)
      → Said setting views (world_stepped setting w me (scrub_ended (w.nodes me.0) call members answer)) stamps
  said_scrubless none call members answer =
      said_idle_step [] (w.nodes me.0).job None (inl refl, inr (refl, none)) (Report.Scrub call members answer ∷ []) (each_none (PacketSays setting views _ stamps))

  -- A read of a synchronisation was closed, by this cause or with none; and of its stripe a version stands where there is none.
  module _ (job : Job) (stripes : ℕ) (cause : Option Cause) (is : (w.nodes me.0).job ≡ Some job) (none : HasNoRead (w.nodes me.0) ForJob)
      (layouts : (group : Group) → group_of setting.layout job.group.0 ≡ Some group → group.stripes ≡ stripes)
      (read : cause ≡ None → IsKept setting views w job.group.0 job.view.number.0 job.attempt.stripe) where
    says : JobSays setting views w me.0 job
    says = said.jobs me.0 job is

    -- so each stripe up to its own is kept where it was answered
    kept_through : cause ≡ None → (s : ℕ) → s < job.attempt.stripe + 1 → IsKept setting views w job.group.0 job.view.number.0 s
    kept_through answered s within = ⊎_elim
        (λ (before : s < job.attempt.stripe). says.read s before)
        (λ (last : job.attempt.stripe ≤ s).
        let same : job.attempt.stripe ≡ s = omega (arith, last, within) in
        subst (λ (r : ℕ). IsKept setting views w job.group.0 job.view.number.0 r) same (read answered))
        (cases_lt s job.attempt.stripe)

    next_says : (attempt : Attempt) → job_after stripes job.attempt cause ≡ Reads attempt → JobSays setting views w me.0 (record job { attempt = attempt })
    next_says attempt goes = record {
      known = says.known;
      members = says.members;
      prior = says.prior;
      passed = says.passed;
      read = λ s before. ⊎_elim
          (λ (same : attempt.stripe ≡ job.attempt.stripe). says.read s (omega (arith, before, same)))
          (λ (more : (cause ≡ None) × (attempt.stripe ≡ job.attempt.stripe + 1)).
          kept_through more.0 s (let next : attempt.stripe ≡ job.attempt.stripe + 1 = more.1 in omega (arith, before, next)))
          (next_stripe stripes job.attempt attempt cause goes);
    }

    -- what it says once it has read all of them
    synced_says : job_after stripes job.attempt cause ≡ Finishes
        → (let more : List Packet = synced_packets me job.group job.view.number setting.layout.bricks 0 in
        OfEach (PacketSays setting views (quiet w me (with_job (w.nodes me.0) None) more) stamps) more)
    synced_says goes =
        let more : List Packet = synced_packets me job.group job.view.number setting.layout.bricks 0 in
        let ended = last_stripe stripes job.attempt cause goes in
        each_synced (PacketSays setting views (quiet w me (with_job (w.nodes me.0) None) more) stamps) me job.group job.view.number
        (λ to s group at within.
        let same = layouts group at in
        let most = ended.1 in
        let had = kept_through ended.0 s (⊎_elim
        (λ (first : s ≡ 0). omega (arith, first))
        (λ (inside : s < group.stripes). omega (arith, inside, same, most))
        within) in (
          had.0,
          had.1,
          (λ z z_is. stands_stays w (quiet w me (with_job (w.nodes me.0) None) more) (idle_parts more None (w.nodes me.0).scrub (inr (refl, none), inl refl)) job.group.0 s z had.0
              (had.2 z z_is)),
        ))
        setting.layout.bricks 0

    -- the synchronisation goes on, or ends
    pub said_after_close : AfterClose (IsSaid setting views) setting w me now job (job_after stripes job.attempt cause)
    said_after_close = record {
      stays = (stamps, said_known setting views w stamps me (w.nodes me.0).known books said (omega arith));
      ends = λ answer. (stamps, said_jobless [] none (Report.Sync job.group answer ∷ []) (each_none (PacketSays setting views _ stamps)));
      finishes = λ goes. (
        stamps,
        said_jobless (synced_packets me job.group job.view.number setting.layout.bricks 0) none
            (Report.Sync job.group (synced_answer job.view.number) ∷ []) (synced_says goes),
      );
      reads = λ attempt group goes kept.
          said_read setting views w stamps me now (record job { attempt = attempt }) group books said (next_says attempt goes) kept;
    }

  -- a synchronisation begins
  pub said_syncs : (group : GroupId) → (w.nodes me.0).job ≡ None → 1 ≤ view_at (w.nodes me.0) group.0 → Follows setting.layout views w
      → IsSaid setting views (world_stepped setting w me (synced_at setting me now (w.nodes me.0) group))
  said_syncs group none some follows =
      synced_at_each (λ (step : NodeStep). IsSaid setting views (world_stepped setting w me step)) setting me now (w.nodes me.0) group
      (stamps, said_known setting views w stamps me (w.nodes me.0).known books said (omega arith))
      (λ answer. (
        stamps,
        said_reports setting views w stamps me books said (w.nodes me.0) [] (Report.Sync group answer ∷ []) (keeps_itself (w.nodes me.0))
            (said_placed setting views w stamps me books said (w.nodes me.0) [] (refl, refl, refl) (keeps_itself (w.nodes me.0))
            (each_none (PacketSays setting views _ stamps))),
      ))
      (λ answer. (
        stamps,
        said_jobless [] (λ k has. absurd (let never : None ≡ Some k = ap (option_map (λ (z : Job). z.seq)) (sym none) ∙ has in cc))
            (Report.Sync group answer ∷ []) (each_none (PacketSays setting views _ stamps)),
      ))
      (λ kept is.
      said_read setting views w stamps me now (begun_job group ((w.nodes me.0).learnt group.0).view) kept books said
      (record {
        known = (some, omega arith);
        members = follows.learnt me.0 group.0;
        prior = follows.prior me.0 group.0;
        passed = λ e s z least less z_is. follows.passed me.0 group.0 e s z least less z_is;
        read = λ s before. absurd (omega (arith, before));
      })
      is)

-- a call's group has as many stripes as the layout says
pub stripes_are : (setting : Setting) (views : Views) (w : World) (stamps : Stamping) → Said setting views w stamps → (i k : ℕ) (c : Coordinator)
    → IsCall w i k c → (g : ℕ) → g ≡ c.call.group.0 → (group : Group) → group_of setting.layout g ≡ Some group → group.stripes ≡ c.group.stripes
stripes_are setting views w stamps said i k c is g at group group_is =
    ap (λ (z : Group). z.stripes) (same_Some (kept_by (views g c.stamp.view.0) group) c.group
    (sym (ap (option_map (kept_by (views g c.stamp.view.0))) group_is)
    ∙ ap (λ (h : ℕ). group_in setting.layout views h c.stamp.view.0) at ∙ (said.calls i k c is).group))

-- A read of a synchronisation is closed: what was said is said of what follows.
module _ (setting : Setting) (views : Views) (w : World) (stamps : Stamping) (me : BrickId) (now : ℕ) (c : Coordinator) (known : ℕ) (books : Books setting w)
    (said : Said setting views w stamps) (is : IsCall w me.0 c.call.seq c) (more_known : (w.nodes me.0).known ≤ known) (answer : Answer)
    (seen stored : Option Stamp) (job : Job) (reading : job_reading (w.nodes me.0).job c.call.seq ≡ Some job) where
  abbrev its : CallBooks setting w me.0 c.call.seq c
  its = books.calls me.0 c.call.seq c is

  -- the read
  abbrev o : Operation
  o = (books.calls me.0 c.call.seq c is).operation

  -- the world once it is closed
  abbrev x : World
  x = closed_world setting w me known c answer seen stored

  its_job : ((w.nodes me.0).job ≡ Some job) × (job.seq ≡ c.call.seq)
  its_job = reading_is (w.nodes me.0).job c.call.seq job reading

  mine : JobBooks w me.0 job
  mine = books.jobs me.0 job its_job.0

  one : mine.own.operation ≡ o
  one =
      same_Some mine.own.operation o
      (sym (subst (λ (l : ℕ). IsOperation w (number_of w me.0 l) mine.own.operation) its_job.1 mine.own.operation_is) ∙ its.operation_is)

  its_seq : own_seq (w.nodes me.0) ForJob ≡ Some c.call.seq
  its_seq = job_seq (w.nodes me.0).job job c.call.seq its_job.0 its_job.1

  -- it reads the stripe of the present try, in the view of the synchronisation
  ask_is : o.ask ≡ job_ask job
  ask_is = ap (λ (z : Operation). z.ask) (sym one) ∙ mine.ask

  view_is : o.view ≡ job.view.number.0
  view_is = ap (λ (z : Operation). z.view) (sym one) ∙ mine.view

  pub read_unmarked : o.mark ≡ 0
  read_unmarked = call_unmarked setting w me.0 c.call.seq c its (own_books setting w books me.0 c.call.seq ForJob its_seq)

  group_is : job.group.0 ≡ c.call.group.0
  group_is = ap (λ (a : Ask). a.group.0) (sym ask_is) ∙ ap (λ (a : Ask). a.group.0) (sym its.ask) ∙ ap (λ g. g.0) (sym its.call_group)

  module _ (well : EndsWell setting views w o answer seen stored) (books_x : Books setting x) where
    -- where it was answered, a version of its stripe stands
    reads_one : abort_cause answer ≡ None → IsKept setting views x job.group.0 job.view.number.0 job.attempt.stripe
    reads_one answered =
        let had = read_stands setting views w o answer seen stored (ap (λ (a : Ask). writes a.op) ask_is) well answered in
        let stands : Stands setting views x o.ask.group.0 o.ask.stripe.0 had.0
        = closed_stands setting views w stamps me c known books said is more_known answer seen stored read_unmarked well o.ask.group.0 o.ask.stripe.0 had.0 had.2 in
        (had.0, had.1 ∙ view_is, subst (λ (a : Ask). Stands setting views x a.group.0 a.stripe.0 had.0) ask_is stands)

    pub said_after_read : AfterClose (IsSaid setting views) setting x me now job (job_after c.group.stripes job.attempt (abort_cause answer))
    said_after_read =
        said_after_close setting views x stamps me now books_x
        (said_closed setting views w stamps me c known books said is more_known answer seen stored read_unmarked well)
        job c.group.stripes (abort_cause answer)
        (ap (λ (n : Node). n.job) (put_same w.nodes me.0 (closes w me known c answer seen stored).node) ∙ its_job.0)
        (closed_no_read setting w me known c answer seen stored ForJob its_seq)
        (stripes_are setting views w stamps said me.0 c.call.seq c is job.group.0 group_is) reads_one
