-- A session as it is served, and where that ends.
use Rattle.std.proofs.Common.{◌≡◌, ◌+◌, ◌-◌, ◌≤◌, ℕ, true, false, List, [], ◌∷◌, ◌++◌, length, Option, Some, None, refl, sym, ap, subst, ◌∙◌, inl, inr, arith}
use Rattle.std.specs.Io.KnownBytes.{Consumes, Appends, Keeps, IsAtEnd}
use Rattle.std.proofs.KnownBytes.{Appends-nil, Appends-trans, Consumes-nil, Consumes-trans, Consumes-kept}
use Rattle.fab_base.specs.Layouts.{Layout}
use Rattle.fab_io.specs.Ends.{AppendsFront}
use Rattle.fab_io.proofs.Told.{Stays-refl, Grows-none, Grows-trans}
use Rattle.front.specs.declared.steps.RangeAnswer.{RangeAnswer}
use Rattle.nbd_front.specs.declared.steps.End.{End}
use Rattle.nbd_front.specs.declared.steps.End.TheVariants.{Disc, Abort, Eof, Dropped, NoExport, Turns}
use Rattle.nbd_front.specs.declared.steps.Step.TheVariants as step
use Rattle.nbd_front.specs.Sessions.{Session, begun, Move, Waits, Says, Asks, Ends, move_of, step_of, after, fed, answered, wanted_of, wants_turn, ReadsNoFurther, AskedCommand, Reading, Writing, asked_of}
use Rattle.nbd_front.specs.Talks.{HasSaid, said_by}
use Rattle.nbd_front.proofs.Telling.{begins, takes_bytes, moves_on, answers_on}
use Rattle.nbd_front.specs.Lives.{owed}
use Rattle.nbd_front.proofs.Leading.{LeadsOn, leads_on, IsLive-begun, IsLive-fed, IsLive-said, IsLive-answered, owed_fed, owed_said, owed_asks}
use Rattle.hosting.specs.Commanded.{IsRangeOf}
use Rattle.hosting.specs.Faults.{AtSource, AtSink}
use Rattle.hosting.specs.Rounds.{Heard, Told, came_in, Took, RunsRange, StopsRange}
use Rattle.hosting.specs.declared.faults.HostFault.{HostFault}
use Rattle.hosting.proofs.Running.{came_in-append, Took-trans}
use Rattle.hosting.proofs.Wanting.{IsRangeOf-begun}
use Rattle.layout.specs.Limits.{IsLayout}
use Rattle.serving.specs.Datagrams.{Looked}
use Rattle.serving.proofs.Looks.{Looked-none, Looked-trans}
use Rattle.nbd_hosting.specs.Serving.{range_of, Reads, Sends, Runs, Standing, beginning, part_turns, asks_for, after_deed, IsDone, Outside, HasServed, EndsAs, ServesSession, ServesUntil}
use Rattle.nbd_hosting.specs.Steps.{IsServing}

-- ---- the range of a command

-- it is one of its layout
pub IsRangeOf-asked : (layout : Layout) (asked : AskedCommand) → IsLayout layout → IsRangeOf layout (range_of layout asked)
IsRangeOf-asked layout (Reading volume byte count) limits = IsRangeOf-begun layout volume byte count None limits
IsRangeOf-asked layout (Writing volume byte bytes) limits = IsRangeOf-begun layout volume byte (length bytes) (Some bytes) limits

-- ---- what a step says of the move

pub need_is : (move : Move) → step.Need ≡ step_of move → move ≡ Waits
need_is Waits e = refl
need_is (Says bytes next) e = absurd cc
need_is Asks e = absurd cc
need_is (Ends end) e = absurd cc

pub ask_is : (move : Move) → step.Ask ≡ step_of move → move ≡ Asks
ask_is Waits e = absurd cc
ask_is (Says bytes next) e = absurd cc
ask_is Asks e = refl
ask_is (Ends end) e = absurd cc

pub ended_is : (move : Move) (end : End) → step.Ended end ≡ step_of move → move ≡ Ends end
ended_is Waits end e = absurd cc
ended_is (Says bytes next) end e = absurd cc
ended_is Asks end e = absurd cc
ended_is (Ends said) end e = let same : said ≡ end = cc in ap Ends same

pub send_is : (session : Session) (move : Move) (bytes : List ℕ) → step.Send bytes ≡ step_of move → move ≡ Says bytes (after session move)
send_is session Waits bytes e = absurd cc
send_is session (Says said next) bytes e = let same : said ≡ bytes = cc in ap (λ (b : List ℕ). Says b next) same
send_is session Asks bytes e = absurd cc
send_is session (Ends end) bytes e = absurd cc

-- a session that waits, or that asks a command, is as it was
pub waits_same : (first session : Session) → step.Need ≡ step_of (move_of first) → session ≡ after first (move_of first) → session ≡ first
waits_same first session need is = is ∙ ap (after first) (need_is (move_of first) need)

pub asks_same : (first session : Session) → step.Ask ≡ step_of (move_of first) → session ≡ after first (move_of first) → session ≡ first
asks_same first session ask is = is ∙ ap (after first) (ask_is (move_of first) ask)

-- it sends bytes, and is this session then
pub says_then : (session session_then : Session) (bytes : List ℕ) → step.Send bytes ≡ step_of (move_of session)
    → session_then ≡ after session (move_of session) → move_of session ≡ Says bytes session_then
says_then session session_then bytes e is = send_is session (move_of session) bytes e ∙ ap (λ (s : Session). Says bytes s) (sym is)

module _ {A : Type 0} (takes : A → A → Type 0) (layout : Layout) (turns : ℕ) (before : Outside A) where
  -- ---- one thing more is done

  pub HasServed-begun : HasServed takes layout turns before before (beginning layout turns)
  HasServed-begun =
      record {
        deeds = [];
        are = tt;
        leads = refl;
        talk = begins layout (begun layout) refl;
        consumed = Consumes-nil before.source;
        sent = Appends-nil before.sink;
        looked = Looked-none before.link.waiting before.link.waiting (Stays-refl before.link.waiting);
        asked = Grows-none before.link.sent before.link.sent (Stays-refl before.link.sent);
        took = refl;
      }

  -- bytes are read
  pub HasServed-read : (now : Outside A) (standing : Standing) (source : Option (List ℕ)) (piece : List ℕ)
      → HasServed takes layout turns before now standing → IsDone layout standing (Reads piece) → Consumes now.source source piece
      → HasServed takes layout turns before (record now { source = source }) (after_deed layout standing (Reads piece))
  HasServed-read now standing source piece h done came =
      record {
        deeds = Reads piece ∷ h.deeds;
        are = (h.are, subst (λ (s : Standing). IsDone layout s (Reads piece)) (sym h.leads) done);
        leads = ap (λ (s : Standing). after_deed layout s (Reads piece)) h.leads;
        talk = takes_bytes standing.session piece layout standing.bytes standing.said h.talk;
        consumed = Consumes-trans before.source now.source source standing.bytes piece h.consumed came;
        sent = h.sent;
        looked = h.looked;
        asked = h.asked;
        took = h.took;
      }

  -- nothing is read
  pub HasServed-quiet : (now : Outside A) (standing : Standing) (source : Option (List ℕ)) → HasServed takes layout turns before now standing
      → Keeps now.source source → HasServed takes layout turns before (record now { source = source }) standing
  HasServed-quiet now standing source h keeps =
      record {
        deeds = h.deeds;
        are = h.are;
        leads = h.leads;
        talk = h.talk;
        consumed = Consumes-kept before.source now.source source standing.bytes h.consumed keeps;
        sent = h.sent;
        looked = h.looked;
        asked = h.asked;
        took = h.took;
      }

  -- bytes are sent
  pub HasServed-sent : (now : Outside A) (standing : Standing) (sink : Option (List ℕ)) (bytes : List ℕ) (next : Session)
      → HasServed takes layout turns before now standing → move_of standing.session ≡ Says bytes next → Appends now.sink sink bytes
      → HasServed takes layout turns before (record now { sink = sink }) (after_deed layout standing (Sends bytes))
  HasServed-sent now standing sink bytes next h is sent =
      let says : HasSaid layout standing.bytes false (standing.said ++ said_by (step_of (move_of standing.session)))
      (after standing.session (move_of standing.session)) = moves_on standing.session layout standing.bytes false standing.said h.talk in
      record {
        deeds = Sends bytes ∷ h.deeds;
        are = (h.are, subst (λ (s : Standing). IsDone layout s (Sends bytes)) (sym h.leads) (next, is));
        leads = ap (λ (s : Standing). after_deed layout s (Sends bytes)) h.leads;
        talk = subst (λ (m : Move). HasSaid layout standing.bytes false (standing.said ++ said_by (step_of m))
            (after standing.session (move_of standing.session))) is says;
        consumed = h.consumed;
        sent = Appends-trans before.sink now.sink sink standing.text bytes h.sent sent;
        looked = h.looked;
        asked = h.asked;
        took = h.took;
      }

  -- a command is run
  pub HasServed-run : (now : Outside A) (standing : Standing) (link : Told) (bricks : A) (rounds : List Heard) (answer : RangeAnswer) (sent_after left : ℕ)
      → HasServed takes layout turns before now standing → move_of standing.session ≡ Asks
      → RunsRange layout.port (range_of layout (asked_of standing.session)) standing.sent sent_after standing.left left now.link link rounds (Some answer)
      → Took takes rounds now.bricks bricks
      → HasServed takes layout turns before (record now { link = link; bricks = bricks })
      (after_deed layout standing (Runs (asked_of standing.session) rounds answer))
  HasServed-run now standing link bricks rounds answer sent_after left h asks runs took =
      let asked = asked_of standing.session in
      let deed = Runs asked rounds answer in
      let counted = runs.counted in
      let done : IsDone layout standing deed = (asks, refl, runs.heard, omega (arith, counted), runs.ends) in
      record {
        deeds = deed ∷ h.deeds;
        are = (h.are, subst (λ (s : Standing). IsDone layout s deed) (sym h.leads) done);
        leads = ap (λ (s : Standing). after_deed layout s deed) h.leads;
        talk = answers_on standing.session answer asks layout standing.bytes false standing.said h.talk;
        consumed = h.consumed;
        sent = h.sent;
        looked = subst (Looked before.link.waiting link.waiting) (sym (came_in-append standing.rounds rounds))
            (Looked-trans before.link.waiting now.link.waiting link.waiting (came_in standing.rounds) (came_in rounds) h.looked runs.looked);
        asked = Grows-trans before.link.sent now.link.sent link.sent standing.asks (asks_for layout standing.sent asked rounds) h.asked runs.asked;
        took = Took-trans takes standing.rounds rounds before.bricks now.bricks bricks h.took took;
      }

  -- ---- the session that is served

  pub IsServing-begun : (session : Session) (sent : ℕ) → session ≡ begun layout → ReadsNoFurther session → sent ≡ 0 → IsServing takes layout turns before before session turns sent
  IsServing-begun session sent is within none =
      let nothing : owed session ≡ 0 = ap owed is in
      record {
        standing = beginning layout turns;
        served = HasServed-begun;
        session_is = sym is;
        left_is = refl;
        sent_is = sym none;
        runs = IsLive-begun session layout is within;
        few = omega (arith, nothing, none);
      }

  -- the turns that are left pay for this piece
  Reads-done : (standing : Standing) (session : Session) (left : ℕ) (piece : List ℕ) → standing.session ≡ session → standing.left ≡ left
      → move_of session ≡ Waits → 1 ≤ length piece → length piece ≤ wanted_of session → part_turns session ≤ left → IsDone layout standing (Reads piece)
  Reads-done standing session left piece is left_is waits some few paid = (
    subst (λ (s : Session). move_of s ≡ Waits) (sym is) waits,
    some,
    subst (λ (s : Session). length piece ≤ wanted_of s) (sym is) few,
    subst (λ (s : Session). part_turns s ≤ standing.left) (sym is) (omega (arith, paid, left_is)),
  )

  pub IsServing-read : (now : Outside A) (session session_then : Session) (left left_then sent : ℕ) (source : Option (List ℕ)) (piece : List ℕ)
      → IsServing takes layout turns before now session left sent → move_of session ≡ Waits → 1 ≤ length piece → length piece ≤ wanted_of session → part_turns session ≤ left
      → Consumes now.source source piece → session_then ≡ fed session piece → ReadsNoFurther session_then → left_then ≡ left - part_turns session
      → IsServing takes layout turns before (record now { source = source }) session_then left_then sent
  IsServing-read now session session_then left left_then sent source piece h waits some few paid came is within left_is =
      let done = Reads-done h.standing session left piece h.session_is h.left_is waits some few paid in
      let owes : owed session_then ≤ owed session + part_turns session = subst (λ (s : Session). owed s ≤ owed session + part_turns session) (sym is)
      (owed_fed session piece) in
      let same : part_turns h.standing.session ≡ part_turns session = ap part_turns h.session_is in
      let was = h.few in
      let before_is = h.left_is in
      record {
        standing = after_deed layout h.standing (Reads piece);
        served = HasServed-read now h.standing source piece h.served done came;
        session_is = ap (λ (s : Session). fed s piece) h.session_is ∙ sym is;
        left_is = omega (arith, before_is, same, left_is);
        sent_is = h.sent_is;
        runs = IsLive-fed session session_then piece h.runs is within;
        few = omega (arith, was, owes, left_is, paid);
      }

  pub IsServing-sent : (now : Outside A) (session session_then : Session) (left sent : ℕ) (sink : Option (List ℕ)) (bytes : List ℕ)
      → IsServing takes layout turns before now session left sent → move_of session ≡ Says bytes session_then → Appends now.sink sink bytes → ReadsNoFurther session_then
      → IsServing takes layout turns before (record now { sink = sink }) session_then left sent
  IsServing-sent now session session_then left sent sink bytes h is took within =
      let says : move_of h.standing.session ≡ Says bytes session_then = ap move_of h.session_is ∙ is in
      let none : owed session_then ≡ 0 = owed_said session session_then bytes h.runs is in
      let was = h.few in
      record {
        standing = after_deed layout h.standing (Sends bytes);
        served = HasServed-sent now h.standing sink bytes session_then h.served says took;
        session_is = ap (after h.standing.session) says;
        left_is = h.left_is;
        sent_is = h.sent_is;
        runs = IsLive-said session session_then bytes h.runs is within;
        few = omega (arith, was, none);
      }

  -- what is run for a session is run for where it stands
  runs_at : (now : Outside A) (session : Session) (left sent left_then sent_then : ℕ) (link : Told) (rounds : List Heard) (answer : Option RangeAnswer)
      → (h : IsServing takes layout turns before now session left sent)
      → RunsRange layout.port (range_of layout (asked_of session)) sent sent_then left left_then now.link link rounds answer
      → RunsRange layout.port (range_of layout (asked_of h.standing.session)) h.standing.sent sent_then h.standing.left left_then now.link link rounds answer
  runs_at now session left sent left_then sent_then link rounds answer h runs =
      subst (λ (s : Session). RunsRange layout.port (range_of layout (asked_of s)) h.standing.sent sent_then h.standing.left left_then now.link link rounds answer)
      (sym h.session_is)
      (subst (λ (n : ℕ). RunsRange layout.port (range_of layout (asked_of session)) n sent_then h.standing.left left_then now.link link rounds answer)
      (sym h.sent_is)
      (subst (λ (n : ℕ). RunsRange layout.port (range_of layout (asked_of session)) sent sent_then n left_then now.link link rounds answer)
      (sym h.left_is) runs))

  pub IsServing-run : (now : Outside A) (session session_then : Session) (left left_then sent sent_then : ℕ) (link : Told) (bricks : A) (rounds : List Heard)
      (answer : RangeAnswer) → IsServing takes layout turns before now session left sent → move_of session ≡ Asks
      → RunsRange layout.port (range_of layout (asked_of session)) sent sent_then left left_then now.link link rounds (Some answer)
      → Took takes rounds now.bricks bricks → session_then ≡ answered session answer → ReadsNoFurther session_then
      → sent_then + left_then ≤ sent + left + 1
      → IsServing takes layout turns before (record now { link = link; bricks = bricks }) session_then left_then sent_then
  IsServing-run now session session_then left left_then sent sent_then link bricks rounds answer h asks runs took is within more =
      let at = runs_at now session left sent left_then sent_then link rounds (Some answer) h runs in
      let counted = at.counted in
      let was = h.few in
      let owes : owed session ≡ 1 = owed_asks session asks in
      let none : owed session_then ≡ 0 = ap owed is in
      record {
        standing = after_deed layout h.standing (Runs (asked_of h.standing.session) rounds answer);
        served = HasServed-run now h.standing link bricks rounds answer sent_then left_then h.served (ap move_of h.session_is ∙ asks) at took;
        session_is = ap (λ (s : Session). answered s answer) h.session_is ∙ sym is;
        left_is = omega (arith, counted);
        sent_is = sym at.sent_is;
        runs = IsLive-answered session session_then answer h.runs is within;
        few = omega (arith, was, owes, none, more);
      }

  -- ---- the end

  -- by itself
  pub Serves-own : (now : Outside A) (session : Session) (left sent : ℕ) (end : End) → IsServing takes layout turns before now session left sent → move_of session ≡ Ends end
      → ServesSession takes layout turns before now end
  Serves-own now session left sent end h is =
      let leads : LeadsOn (Ends end) = subst LeadsOn is (leads_on session h.runs) in
      let ends : move_of h.standing.session ≡ Ends end = ap move_of h.session_is ∙ is in
      record { standing = h.standing; now = now; served = h.served; over = by_end end leads ends }
    where
      by_end : (e : End) → LeadsOn (Ends e) → move_of h.standing.session ≡ Ends e → EndsAs takes layout h.standing now now e
      by_end Eof leads ends = absurd leads
      by_end Turns leads ends = absurd leads
      by_end Disc leads ends = (refl, ends)
      by_end Abort leads ends = (refl, ends)
      by_end Dropped leads ends = (refl, ends)
      by_end NoExport leads ends = (refl, ends)

  -- at the end of the bytes
  pub Serves-eof : (now : Outside A) (session : Session) (left sent : ℕ) (source : Option (List ℕ)) → IsServing takes layout turns before now session left sent
      → move_of session ≡ Waits → Keeps now.source source → IsAtEnd source → ServesSession takes layout turns before (record now { source = source }) Eof
  Serves-eof now session left sent source h waits keeps end =
      record {
        standing = h.standing;
        now = record now { source = source };
        served = HasServed-quiet now h.standing source h.served keeps;
        over = (refl, ap move_of h.session_is ∙ waits, end);
      }

  -- no turn is left for an option or a request
  pub Serves-turns : (now : Outside A) (session : Session) (left sent : ℕ) → IsServing takes layout turns before now session left sent → move_of session ≡ Waits
      → wants_turn session ≡ true → left ≡ 0 → ServesSession takes layout turns before now Turns
  Serves-turns now session left sent h waits wants none =
      record {
        standing = h.standing;
        now = now;
        served = h.served;
        over = inl (refl, ap move_of h.session_is ∙ waits, ap wants_turn h.session_is ∙ wants, h.left_is ∙ none);
      }

  -- and none for a round of its command
  pub Serves-open : (now : Outside A) (session : Session) (left left_then sent sent_then : ℕ) (link : Told) (bricks : A) (rounds : List Heard)
      → IsServing takes layout turns before now session left sent → move_of session ≡ Asks
      → RunsRange layout.port (range_of layout (asked_of session)) sent sent_then left left_then now.link link rounds None
      → Took takes rounds now.bricks bricks → ServesSession takes layout turns before (record now { link = link; bricks = bricks }) Turns
  Serves-open now session left left_then sent sent_then link bricks rounds h asks runs took =
      let at = runs_at now session left sent left_then sent_then link rounds None h runs in
      record {
        standing = h.standing;
        now = now;
        served = h.served;
        over = inr (record {
          asks = ap move_of h.session_is ∙ asks;
          rounds = rounds;
          sent_after = sent_then;
          runs = subst (λ (n : ℕ). RunsRange layout.port (range_of layout (asked_of h.standing.session)) h.standing.sent sent_then h.standing.left n now.link link
              rounds None) at.ends.1 at;
          took = took;
          source_is = refl;
          sink_is = refl;
        });
      }

  -- ---- where it is stopped
  module _ (stops : A → A → HostFault → Type 0) (fault : HostFault) where
    -- before anything was done
    pub Until-none : AtSource fault → ServesUntil takes stops layout turns before before fault
    Until-none at = record { standing = beginning layout turns; now = before; served = HasServed-begun; stopped = inl (at, refl) }

    -- as the session was asked what it does next
    pub Until-idle : (now : Outside A) (session : Session) (left sent : ℕ) → IsServing takes layout turns before now session left sent → AtSource fault
        → ServesUntil takes stops layout turns before now fault
    Until-idle now session left sent h at = record { standing = h.standing; now = now; served = h.served; stopped = inl (at, refl) }

    -- as bytes were read
    pub Until-read : (now : Outside A) (session : Session) (left sent : ℕ) (source : Option (List ℕ)) → IsServing takes layout turns before now session left sent
        → Keeps now.source source → AtSource fault → ServesUntil takes stops layout turns before (record now { source = source }) fault
    Until-read now session left sent source h keeps at =
        record {
          standing = h.standing;
          now = record now { source = source };
          served = HasServed-quiet now h.standing source h.served keeps;
          stopped = inl (at, refl);
        }

    -- as they were to be held
    pub Until-fed : (now : Outside A) (session : Session) (left sent : ℕ) (source : Option (List ℕ)) (piece : List ℕ) → IsServing takes layout turns before now session left sent
        → move_of session ≡ Waits → 1 ≤ length piece → length piece ≤ wanted_of session → part_turns session ≤ left → Consumes now.source source piece
        → AtSource fault → ServesUntil takes stops layout turns before (record now { source = source }) fault
    Until-fed now session left sent source piece h waits some few paid came at =
        let done = Reads-done h.standing session left piece h.session_is h.left_is waits some few paid in
        record {
          standing = after_deed layout h.standing (Reads piece);
          now = record now { source = source };
          served = HasServed-read now h.standing source piece h.served done came;
          stopped = inl (at, refl);
        }

    -- as bytes were sent
    pub Until-sent : (now : Outside A) (session session_then : Session) (left sent : ℕ) (sink : Option (List ℕ)) (bytes : List ℕ)
        → IsServing takes layout turns before now session left sent → move_of session ≡ Says bytes session_then → AppendsFront now.sink sink bytes → AtSink fault
        → ServesUntil takes stops layout turns before (record now { sink = sink }) fault
    Until-sent now session session_then left sent sink bytes h is took at =
        record {
          standing = h.standing;
          now = now;
          served = h.served;
          stopped = inr (inl (record {
            at = at;
            bytes = bytes;
            next = session_then;
            says = ap move_of h.session_is ∙ is;
            sent = took;
            rest_is = (refl, refl, refl);
          }));
        }

    -- as a command was run
    pub Until-run : (now : Outside A) (session : Session) (left sent : ℕ) (link : Told) (bricks : A) → IsServing takes layout turns before now session left sent
        → move_of session ≡ Asks
        → StopsRange takes stops layout.port (range_of layout (asked_of session)) sent left now.link link now.bricks bricks fault
        → ServesUntil takes stops layout turns before (record now { link = link; bricks = bricks }) fault
    Until-run now session left sent link bricks h asks stop =
        record {
          standing = h.standing;
          now = now;
          served = h.served;
          stopped = inr (inr (record {
            asks = ap move_of h.session_is ∙ asks;
            stopped = subst (λ (s : Session). StopsRange takes stops layout.port (range_of layout (asked_of s)) h.standing.sent h.standing.left now.link link
                now.bricks bricks fault) (sym h.session_is)
                (subst (λ (n : ℕ). StopsRange takes stops layout.port (range_of layout (asked_of session)) n h.standing.left now.link link now.bricks bricks fault)
                (sym h.sent_is)
                (subst (λ (n : ℕ). StopsRange takes stops layout.port (range_of layout (asked_of session)) sent n now.link link now.bricks bricks fault)
                (sym h.left_is) stop));
            source_is = refl;
            sink_is = refl;
          }));
        }
