-- The books of a world where a brick changed its part of a stripe, or learnt of a time, where a clock was set or ticks, or where a stopped brick was
-- started again.
use Rattle.fab_base.specs.declared.stamps.Stamp.{Stamp}
use Rattle.std.proofs.Common.{◌≡◌, ◌≢◌, ℕ, ◌+◌, ◌≤◌, ⊎_elim, Bool, true, false, None, Some, refl, sym, ap, ◌∙◌, subst, arith, List}
use Rattle.std.specs.Prelude.{nat_eq, if◌then◌else◌}
use Rattle.std.proofs.lemmas.Bool.{cases_eq, both_ways, ne_eqb}
use Rattle.std.proofs.lemmas.Option.{same_Some}
use Rattle.fab_base.specs.declared.identities.BrickId.{BrickId}
use Rattle.messages.specs.declared.packets.Packet.{Packet}
use Rattle.reg_model.specs.Marks.{Life, IsOpen}
use Rattle.protocol.specs.Settings.{Setting}
use Rattle.protocol.specs.declared.phases.Counted.{Counted}
use Rattle.protocol.specs.Coordinators.{Coordinator}
use Rattle.protocol.specs.Jobs.{Job}
use Rattle.protocol.specs.Nodes.{Node, put, no_calls, restarted}
use Rattle.protocol.specs.Worlds.{World, Operation, number_of, known_in, world_started, Choices}
use Rattle.protocol_laws.proofs.Books.{Books, OperationBooks, LifeBooks, CallBooks, JobBooks, IsCall, ForScrub, own_seq, OwnBooks}
use Rattle.protocol_laws.proofs.BooksKept.{KeepsNumbers, keeps_read, job_was, lives_same, operation_stays, operation_kept, call_kept, keeps_ask, job_kept, KeepsReads, same_reads, own_kept, scrub_was, apart_kept, apart_reads}
use Rattle.protocol.proofs.Puts.{put_other}
use Rattle.protocol.proofs.Tables.{put_same}

-- the world with other bricks, clocks, packets and counted replies, of which other packets were delivered
abbrev pub quiet_world : World → (ℕ → Node) → (ℕ → ℕ → ℕ → Stamp → Bool) → (ℕ → ℕ) → List Packet → (ℕ → ℕ → List Counted) → (ℕ → Bool) → Choices → World
quiet_world w nodes held clocks packets replies reached choices =
    record {
      nodes = nodes;
      after = w.after;
      up = w.up;
      clocks = clocks;
      packets = packets;
      marks = w.marks;
      marked = w.marked;
      begun = w.begun;
      operations = w.operations;
      numbers = w.numbers;
      choices = choices;
      past = w.past;
      contents = w.contents;
      held = held;
      replies = replies;
      reached = reached;
    }

-- bricks that keep their calls and numbers keep the books; a synchronisation ends only where its read has, and a scrub where it is not open
pub books_quiet : (setting : Setting) (w : World) (nodes : ℕ → Node) (held : ℕ → ℕ → ℕ → Stamp → Bool) (clocks : ℕ → ℕ) (packets : List Packet) (replies : ℕ → ℕ → List Counted)
    (reached : ℕ → Bool) (choices : Choices) → Books setting w
    → ((i : ℕ) → KeepsNumbers (w.nodes i) (nodes i)) → ((i k : ℕ) → (nodes i).calls k ≡ (w.nodes i).calls k)
    → ((i : ℕ) → KeepsReads (w.nodes i) (nodes i))
    → Books setting (quiet_world w nodes held clocks packets replies reached choices)
books_quiet setting w nodes held clocks packets replies reached choices books keeps calls jobs =
    let later : World = quiet_world w nodes held clocks packets replies reached choices in
    record {
      well_formed = books.well_formed;
      places = books.places;
      own = books.own;
      boots = λ i up. (let e : (nodes i).boot ≡ (w.nodes i).boot = (keeps i).boot in omega (arith, books.boots i up));
      all_begun = books.all_begun;
      operations = λ n o is. (let mine : OperationBooks setting w n o = books.operations n o is in
          let seqs : (w.nodes o.brick.0).seq ≤ (nodes o.brick.0).seq = (keeps o.brick.0).seq in
          operation_kept setting w later n o mine (omega arith) refl (keeps o.brick.0).boot (omega arith) (lives_same w later o refl)
          (λ boot c call. (c, calls o.brick.0 o.seq ∙ call)));
      calls = λ i k c is.
          (let was : IsCall w i k c = sym (calls i k) ∙ is in
          let mine : CallBooks setting w i k c = books.calls i k c was in
          call_kept setting w later i k c was mine refl (keeps i).boot (ap (λ (b : ℕ). w.numbers i b k) (keeps i).boot) refl (keeps i).known
          (lives_same w later mine.operation refl) (books.operations (number_of w i k)) (keeps_read (w.nodes i) (nodes i) (jobs i)));
      fresh_calls = λ i k lt. (let seqs : (w.nodes i).seq ≤ (nodes i).seq = (keeps i).seq in
          calls i k ∙ books.fresh_calls i k (omega arith));
      jobs = λ i job is.
          (let was : (w.nodes i).job ≡ Some job = job_was (w.nodes i) (nodes i) job (jobs i).0 is in
          job_kept w later i job (books.jobs i job was) (keeps i).boot (ap (λ (b : ℕ). w.numbers i b job.seq) (keeps i).boot)
          (λ o at. (o, at, keeps_ask o)));
      scrubs = λ i l is.
          (own_kept w later i l (books.scrubs i l (scrub_was (w.nodes i) (nodes i) l (jobs i).1 is)) (keeps i).boot
          (ap (λ (b : ℕ). w.numbers i b l) (keeps i).boot) (λ o at. (o, at, keeps_ask o))).0;
      apart = λ i. apart_reads (w.nodes i) (nodes i) (jobs i) (books.apart i);
      lives = books.lives;
    }

-- a brick that is down is started again, its store having been opened so many times
module _ (setting : Setting) (w : World) (brick : BrickId) (openings : ℕ) (books : Books setting w) (down : w.up brick.0 ≡ false)
    (once : 1 ≤ openings) where
  abbrev i : ℕ
  i = brick.0

  -- the brick as it starts
  abbrev node : Node
  node = record {
    boot = (w.nodes i).boot + openings;
    seq = 0;
    known = 0;
    round = 0;
    busy = 0;
    live = (w.nodes i).live;
    live_in = (w.nodes i).live_in;
    learnt = (w.nodes i).learnt;
    ballots = (w.nodes i).ballots;
    replicas = (w.nodes i).replicas;
    calls = no_calls;
    proposal = None;
    job = None;
    scrub = None;
  }

  -- the world once it has started
  abbrev later : World
  later = world_started w brick openings

  -- another brick stays as it is
  pub unstarted : (j : ℕ) → j ≢ i → later.nodes j ≡ w.nodes j
  unfolding restarted
  unstarted j other = put_other w.nodes i node j other

  -- this one is as it starts
  own_node : later.nodes i ≡ node
  unfolding restarted
  own_node = put_same w.nodes i node

  -- its boot rises
  own_boot : (later.nodes i).boot ≡ (w.nodes i).boot + openings
  own_boot = ap (λ (x : Node). x.boot) own_node

  -- it has no call
  pub started_calls : (k : ℕ) → (later.nodes i).calls k ≡ None
  started_calls k = ap (λ (x : Node). x.calls k) own_node

  -- no time that a brick knew in a boot falls
  pub started_known : (j b : ℕ) → b ≤ (w.nodes j).boot → known_in w j b ≤ known_in later j b
  started_known j b begun = ⊎_elim
      (λ (mine : j ≡ i). own_known j mine begun)
      (λ (other : j ≢ i).
      let nodes : later.nodes j ≡ w.nodes j = unstarted j other in
      let past : later.past j b ≡ w.past j b = ap (λ (f : ℕ → ℕ). f b) (put_other w.past i _ j other) in
      let same : known_in later j b ≡ known_in w j b = ap (λ (x : Node). if nat_eq b x.boot then x.known else later.past j b) nodes
      ∙ ap (λ (y : ℕ). if nat_eq b (w.nodes j).boot then (w.nodes j).known else y) past in
      omega arith)
      (cases_eq j i)
    where
      own_known : (j : ℕ) → j ≡ i → b ≤ (w.nodes j).boot → known_in w j b ≤ known_in later j b
      own_known j mine begun =
          let boot : (later.nodes j).boot ≡ (w.nodes i).boot + openings = ap (λ (x : ℕ). (later.nodes x).boot) mine ∙ own_boot in
          let before : (w.nodes j).boot ≡ (w.nodes i).boot = ap (λ (x : ℕ). (w.nodes x).boot) mine in
          let old : b ≢ (later.nodes j).boot = λ same. omega arith in
          let past : later.past j b ≡ known_in w j b = ap (λ (x : ℕ). later.past x b) mine
          ∙ ap (λ (f : ℕ → ℕ). f b) (put_same w.past i (put (w.past i) (w.nodes i).boot (w.nodes i).known)) ∙ ap (λ (x : ℕ). known_in w x b)
          (sym mine) in
          let now : known_in later j b ≡ known_in w j b =
          ap (λ (t : Bool). if t then (later.nodes j).known else later.past j b) (ne_eqb b (later.nodes j).boot old) ∙ past in
          omega arith

  -- another brick is up, or down, as before
  other_up : (j : ℕ) → j ≢ i → later.up j ≡ w.up j
  other_up j other = put_other w.up i true j other

  -- it had no operation open
  none_open : (k : ℕ) (c : Coordinator) → IsCall w i k c → ⊥
  none_open k c is = both_ways (w.up i) down (books.calls i k c is).up

  -- an operation of this brick is of an earlier boot
  own_stays : (n : ℕ) (o : Operation) → OperationBooks setting w n o → o.brick.0 ≡ i → OperationBooks setting later n o
  own_stays n o mine at =
      let boot : (w.nodes o.brick.0).boot ≡ (w.nodes i).boot = ap (λ (j : ℕ). (w.nodes j).boot) at in
      let now : (later.nodes o.brick.0).boot ≡ (w.nodes i).boot + openings = ap (λ (j : ℕ). (later.nodes j).boot) at ∙ own_boot in
      let least : o.boot ≤ (w.nodes o.brick.0).boot = mine.booted.1 in
      operation_stays setting w later n o mine (omega arith) refl (omega arith) (λ same. absurd (omega arith)) (lives_same w later o refl)
      (λ from life is open'.
      let lived : LifeBooks w o = mine.lived from in
      let one : lived.life ≡ life = same_Some lived.life life (sym lived.life_is ∙ is) in
      let call = (lived.open_call (subst (λ (x : Life). IsOpen (Some x)) (sym one) open')).1 in
      absurd (none_open o.seq call.0 (subst (λ (j : ℕ). IsCall w j o.seq call.0) at call.1)))

  -- an operation of another brick
  other_stays : (n : ℕ) (o : Operation) → OperationBooks setting w n o → o.brick.0 ≢ i → OperationBooks setting later n o
  other_stays n o mine other =
      let same : later.nodes o.brick.0 ≡ w.nodes o.brick.0 = unstarted o.brick.0 other in
      let seqs : (later.nodes o.brick.0).seq ≡ (w.nodes o.brick.0).seq = ap (λ (x : Node). x.seq) same in
      operation_kept setting w later n o mine (omega arith) refl (ap (λ (x : Node). x.boot) same) (omega arith) (lives_same w later o refl)
      (λ boot c call. (c, ap (λ (x : Node). x.calls o.seq) same ∙ call))

  -- a call of another brick
  other_call : (j k : ℕ) (c : Coordinator) → j ≢ i → IsCall later j k c → CallBooks setting later j k c
  other_call j k c other is =
      let same : later.nodes j ≡ w.nodes j = unstarted j other in
      let boot : (later.nodes j).boot ≡ (w.nodes j).boot = ap (λ (x : Node). x.boot) same in
      let knows : (later.nodes j).known ≡ (w.nodes j).known = ap (λ (x : Node). x.known) same in
      let old : IsCall w j k c = sym (ap (λ (x : Node). x.calls k) same) ∙ is in
      let mine : CallBooks setting w j k c = books.calls j k c old in
      call_kept setting w later j k c old mine (other_up j other) boot (ap (λ (b : ℕ). w.numbers j b k) boot) refl (omega arith)
      (lives_same w later mine.operation refl) (books.operations (number_of w j k))
      (same_reads (w.nodes j) (later.nodes j) (ap (λ (x : Node). x.job) same) (ap (λ (x : Node). own_seq x ForScrub) same))

  -- the synchronisation of another brick
  other_job : (j : ℕ) (job : Job) → j ≢ i → (later.nodes j).job ≡ Some job → JobBooks later j job
  other_job j job other is =
      let same : later.nodes j ≡ w.nodes j = unstarted j other in
      let boot : (later.nodes j).boot ≡ (w.nodes j).boot = ap (λ (x : Node). x.boot) same in
      job_kept w later j job (books.jobs j job (sym (ap (λ (x : Node). x.job) same) ∙ is)) boot (ap (λ (b : ℕ). w.numbers j b job.seq) boot)
      (λ o at. (o, at, keeps_ask o))

  -- and its scrub
  other_scrub : (j l : ℕ) → j ≢ i → own_seq (later.nodes j) ForScrub ≡ Some l → OwnBooks later j l
  other_scrub j l other is =
      let same : later.nodes j ≡ w.nodes j = unstarted j other in
      let boot : (later.nodes j).boot ≡ (w.nodes j).boot = ap (λ (x : Node). x.boot) same in
      (own_kept w later j l (books.scrubs j l (sym (ap (λ (x : Node). own_seq x ForScrub) same) ∙ is)) boot (ap (λ (b : ℕ). w.numbers j b l) boot)
      (λ o at. (o, at, keeps_ask o))).0

  -- a start keeps the books
  pub books_started : Books setting later
  unfolding restarted
  books_started = record {
    well_formed = books.well_formed;
    places = books.places;
    own = books.own;
    boots = λ j up. ⊎_elim
        (λ (mine : j ≡ i). let boot : (later.nodes j).boot ≡ (w.nodes i).boot + openings = ap (λ (x : ℕ). (later.nodes x).boot) mine
        ∙ own_boot in omega arith)
        (λ (other : j ≢ i). let boot : (later.nodes j).boot ≡ (w.nodes j).boot = ap (λ (x : Node). x.boot) (unstarted j other) in
        omega (arith, books.boots j (sym (put_other w.up i true j other) ∙ up)))
        (cases_eq j i);
    all_begun = books.all_begun;
    operations = λ n o is. ⊎_elim
        (λ (mine : o.brick.0 ≡ i). own_stays n o (books.operations n o is) mine)
        (λ (other : o.brick.0 ≢ i). other_stays n o (books.operations n o is) other)
        (cases_eq o.brick.0 i);
    calls = λ j k c is. ⊎_elim
        (λ (mine : j ≡ i).
        let none : (later.nodes j).calls k ≡ None = ap (λ (x : ℕ). (later.nodes x).calls k) mine ∙ started_calls k in
        absurd (let never : None ≡ Some c = sym none ∙ is in cc))
        (λ (other : j ≢ i). other_call j k c other is)
        (cases_eq j i);
    fresh_calls = λ j k lt. ⊎_elim
        (λ (mine : j ≡ i). ap (λ (x : ℕ). (later.nodes x).calls k) mine ∙ started_calls k)
        (λ (other : j ≢ i).
        let same : later.nodes j ≡ w.nodes j = unstarted j other in
        let seqs : (later.nodes j).seq ≡ (w.nodes j).seq = ap (λ (x : Node). x.seq) same in
        ap (λ (x : Node). x.calls k) same ∙ books.fresh_calls j k (omega arith))
        (cases_eq j i);
    jobs = λ j job is. ⊎_elim
        (λ (mine : j ≡ i).
        let none : (later.nodes j).job ≡ None = ap (λ (x : ℕ). (later.nodes x).job) mine ∙ ap (λ (x : Node). x.job) own_node in
        absurd (let never : None ≡ Some job = sym none ∙ is in cc))
        (λ (other : j ≢ i). other_job j job other is)
        (cases_eq j i);
    scrubs = λ j l is. ⊎_elim
        (λ (mine : j ≡ i).
        let none : own_seq (later.nodes j) ForScrub ≡ None
        = ap (λ (x : ℕ). own_seq (later.nodes x) ForScrub) mine ∙ ap (λ (x : Node). own_seq x ForScrub) own_node in
        absurd (let never : None ≡ Some l = sym none ∙ is in cc))
        (λ (other : j ≢ i). other_scrub j l other is)
        (cases_eq j i);
    apart = λ j. ⊎_elim
        (λ (mine : j ≡ i) k reads scrubs.
        let none : own_seq (later.nodes j) ForScrub ≡ None
        = ap (λ (x : ℕ). own_seq (later.nodes x) ForScrub) mine ∙ ap (λ (x : Node). own_seq x ForScrub) own_node in
        let never : None ≡ Some k = sym none ∙ scrubs in let e : ⊥ = cc in e)
        (λ (other : j ≢ i).
        let same : later.nodes j ≡ w.nodes j = unstarted j other in
        apart_kept (w.nodes j) (later.nodes j) (ap (λ (x : Node). x.job) same) (ap (λ (x : Node). own_seq x ForScrub) same) (books.apart j))
        (cases_eq j i);
    lives = books.lives;
  }
