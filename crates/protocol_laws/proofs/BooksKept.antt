-- What a step leaves as it was stays in the books.
use Rattle.std.proofs.Common.{◌≡◌, ◌≢◌, ℕ, ◌≤◌, ◌⊎◌, inl, inr, ⊎_elim, Bool, List, Option, Some, None, refl, sym, ap, ◌∙◌, subst, arith, true, is_some}
use Rattle.std.specs.Prelude.{nat_eq, if◌then◌else◌}
use Rattle.std.proofs.lemmas.Option.{same_Some}
use Rattle.std.proofs.lemmas.Bool.{cases_eq, eq-eqb, eqb-true, cond_both}
use Rattle.reg_model.specs.declared.marks.Mark.{Mark}
use Rattle.reg_model.specs.Marks.{Life, life_of, IsOpen}
use Rattle.protocol.specs.Settings.{Setting}
use Rattle.protocol.specs.Coordinators.{Coordinator}
use Rattle.protocol.specs.Jobs.{Job}
use Rattle.protocol.specs.Nodes.{Node, with_known, with_call, job_reading, scrub_of}
use Rattle.protocol.specs.Worlds.{World, Operation, number_of}
use Rattle.protocol_laws.proofs.Books.{Books, OperationBooks, LifeBooks, CallBooks, JobBooks, IsOperation, IsCall, Own, ForJob, ForScrub, own_seq, OwnBooks, AreApart}
use Rattle.protocol_laws.proofs.MarkNumbers.{cases_marked}
use Rattle.reg_model.proofs.GrowingLives.{Stays, Stays-refl, LifeStays, EndingStays-answered, EndingStays-answered_before, EndingStays-open, EndingStays-open_before}
use Rattle.protocol.specs.Scrubs.{Scrub}
use Rattle.std.specs.Option.{option_map}
use Rattle.fab_base.specs.declared.identities.BrickId.{BrickId}

-- the life of an operation that has marks stays
abbrev pub LivesOn : World → World → Operation → Type 0
LivesOn w later o = 1 ≤ o.mark → Stays (life_of w.marks o.mark) (life_of later.marks o.mark)

pub lives_same : (w later : World) (o : Operation) → later.marks ≡ w.marks → LivesOn w later o
lives_same w later o same from =
    subst (λ (l : List Mark). Stays (life_of w.marks o.mark) (life_of l o.mark)) (sym same) (Stays-refl (life_of w.marks o.mark))

-- the life of an operation that no step makes, or ends
life_stays : (w later : World) (o : Operation) → LifeBooks w o → Stays (life_of w.marks o.mark) (life_of later.marks o.mark)
    → ((life : Life) → life_of w.marks o.mark ≡ Some life → IsOpen (Some life)
    → (o.boot ≡ (later.nodes o.brick.0).boot) × ((d : Coordinator) × IsCall later o.brick.0 o.seq d))
    → LifeBooks later o
life_stays w later o lived life call =
    let stays : (l : Life) × (life_of later.marks o.mark ≡ Some l) × LifeStays lived.life l =
    subst (λ (x : Option Life). Stays x (life_of later.marks o.mark)) lived.life_is life in
    record {
      life = stays.0;
      life_is = stays.1;
      begin = stays.2.begin ∙ lived.begin;
      brick = stays.2.brick ∙ lived.brick;
      ask = stays.2.ask ∙ lived.ask;
      answered = λ is. EndingStays-answered lived.life.ending stays.0.ending stays.2.ending (lived.answered is);
      answered_only = λ is. lived.answered_only (EndingStays-answered_before lived.life.ending stays.0.ending stays.2.ending is);
      open_call = λ is. call lived.life lived.life_is (EndingStays-open_before lived.life.ending stays.0.ending stays.2.ending is);
      unclosed = lived.unclosed;
    }

-- the books of an operation that no step makes, or ends, at a brick whose boots do not fall
pub operation_stays : (setting : Setting) (w later : World) (n : ℕ) (o : Operation) → OperationBooks setting w n o
    → w.begun ≤ later.begun → later.numbers o.brick.0 o.boot o.seq ≡ w.numbers o.brick.0 o.boot o.seq
    → (w.nodes o.brick.0).boot ≤ (later.nodes o.brick.0).boot
    → (o.boot ≡ (later.nodes o.brick.0).boot → o.seq ≤ (later.nodes o.brick.0).seq)
    → LivesOn w later o
    → (1 ≤ o.mark → (life : Life) → life_of w.marks o.mark ≡ Some life → IsOpen (Some life)
    → (o.boot ≡ (later.nodes o.brick.0).boot) × ((d : Coordinator) × IsCall later o.brick.0 o.seq d))
    → OperationBooks setting later n o
operation_stays setting w later n o books begun number boot called life call =
    record {
      from_one = books.from_one;
      begun = omega (arith, books.begun);
      number = number ∙ books.number;
      booted = (books.booted.0, omega (arith, books.booted.1));
      called = (books.called.0, called);
      group = books.group;
      group_is = books.group_is;
      stripe = books.stripe;
      readable = books.readable;
      block_fits = books.block_fits;
      length_fits = books.length_fits;
      answered_version = books.answered_version;
      lived = λ from. life_stays w later o (books.lived from) (life from) (call from);
      unmarked = books.unmarked;
    }

-- the books of an operation that a step leaves alone, at a brick of the same boot
pub operation_kept : (setting : Setting) (w later : World) (n : ℕ) (o : Operation) → OperationBooks setting w n o
    → w.begun ≤ later.begun → later.numbers o.brick.0 o.boot o.seq ≡ w.numbers o.brick.0 o.boot o.seq
    → (later.nodes o.brick.0).boot ≡ (w.nodes o.brick.0).boot → (w.nodes o.brick.0).seq ≤ (later.nodes o.brick.0).seq
    → LivesOn w later o
    → (o.boot ≡ (w.nodes o.brick.0).boot → (c : Coordinator) → IsCall w o.brick.0 o.seq c → (d : Coordinator) × IsCall later o.brick.0 o.seq d)
    → OperationBooks setting later n o
operation_kept setting w later n o books begun number boot seq life call =
    record {
      from_one = books.from_one;
      begun = omega (arith, books.begun);
      number = number ∙ books.number;
      booted = (books.booted.0, omega (arith, books.booted.1));
      called = (books.called.0, λ at. (let least : o.seq ≤ (w.nodes o.brick.0).seq = books.called.1 (at ∙ boot) in omega arith));
      group = books.group;
      group_is = books.group_is;
      stripe = books.stripe;
      readable = books.readable;
      block_fits = books.block_fits;
      length_fits = books.length_fits;
      answered_version = books.answered_version;
      lived = λ from. (let lived : LifeBooks w o = books.lived from in life_stays w later o lived (life from)
          (λ l is open'.
          let same : lived.life ≡ l = same_Some lived.life l (sym lived.life_is ∙ is) in
          let old : (o.boot ≡ (w.nodes o.brick.0).boot) × ((c : Coordinator) × IsCall w o.brick.0 o.seq c) =
          lived.open_call (subst (λ (x : Life). IsOpen (Some x)) (sym same) open') in
          (old.0 ∙ sym boot, call old.0 old.1.0 old.1.1)));
      unmarked = books.unmarked;
    }

-- such a read of a brick's own is not open
abbrev pub HasNoRead : Node → Own → Type 0
HasNoRead node own = (k : ℕ) → own_seq node own ≡ Some k → node.calls k ≡ None

-- each read of the brick's own is the same; or it was not open
abbrev pub KeepsRead : Node → Node → Type 0
KeepsRead node later = (own : Own) → (own_seq later own ≡ own_seq node own) ⊎ HasNoRead node own

-- so where the brick has the same synchronisation, and the same scrub
pub same_reads : (node later : Node) → later.job ≡ node.job → own_seq later ForScrub ≡ own_seq node ForScrub → KeepsRead node later
same_reads node later job scrub ForJob = inl (ap (option_map (λ (z : Job). z.seq)) job)
same_reads node later job scrub ForScrub = inl scrub

-- the brick's synchronisation is the same, or has ended, with no read open
abbrev pub KeepsJob : Node → Node → Type 0
KeepsJob node later = (later.job ≡ node.job) ⊎ ((later.job ≡ None) × HasNoRead node ForJob)

-- its scrub is the same, or has ended, and is not open
abbrev pub KeepsScrub : Node → Node → Type 0
KeepsScrub node later = (own_seq later ForScrub ≡ own_seq node ForScrub) ⊎ ((later.scrub ≡ None) × HasNoRead node ForScrub)

-- both
abbrev pub KeepsReads : Node → Node → Type 0
KeepsReads node later = KeepsJob node later × KeepsScrub node later

-- a brick keeps its own
pub reads_stay : (node : Node) → KeepsReads node node
reads_stay node = (inl refl, inl refl)

pub keeps_read : (node later : Node) → KeepsReads node later → KeepsRead node later
keeps_read node later keeps ForJob =
    ⊎_elim (λ (same : later.job ≡ node.job). inl (ap (option_map (λ (z : Job). z.seq)) same))
    (λ (ended : (later.job ≡ None) × HasNoRead node ForJob). inr ended.1) keeps.0
keeps_read node later keeps ForScrub =
    ⊎_elim (λ (same : own_seq later ForScrub ≡ own_seq node ForScrub). inl same)
    (λ (ended : (later.scrub ≡ None) × HasNoRead node ForScrub). inr ended.1) keeps.1

pub job_was : (node later : Node) (job : Job) → KeepsJob node later → later.job ≡ Some job → node.job ≡ Some job
job_was node later job keeps is =
    ⊎_elim (λ (same : later.job ≡ node.job). sym same ∙ is)
    (λ (ended : (later.job ≡ None) × HasNoRead node ForJob). absurd (let never : None ≡ Some job = sym ended.0 ∙ is in cc)) keeps

pub scrub_was : (node later : Node) (k : ℕ) → KeepsScrub node later → own_seq later ForScrub ≡ Some k → own_seq node ForScrub ≡ Some k
scrub_was node later k keeps is =
    ⊎_elim (λ (same : own_seq later ForScrub ≡ own_seq node ForScrub). sym same ∙ is)
    (λ (ended : (later.scrub ≡ None) × HasNoRead node ForScrub).
    absurd (let never : None ≡ Some k = sym (ap (option_map (λ (z : Scrub). z.seq)) ended.0) ∙ is in cc)) keeps

-- its own reads have two calls as before
pub apart_kept : (node later : Node) → later.job ≡ node.job → own_seq later ForScrub ≡ own_seq node ForScrub → AreApart node → AreApart later
apart_kept node later job scrub apart k reads scrubs = apart k (sym (ap (option_map (λ (z : Job). z.seq)) job) ∙ reads) (sym scrub ∙ scrubs)

pub apart_reads : (node later : Node) → KeepsReads node later → AreApart node → AreApart later
apart_reads node later keeps apart k reads scrubs =
    ⊎_elim
    (λ (same : later.job ≡ node.job). apart k (sym (ap (option_map (λ (z : Job). z.seq)) same) ∙ reads) (scrub_was node later k keeps.1 scrubs))
    (λ (ended : (later.job ≡ None) × HasNoRead node ForJob).
    let never : None ≡ Some k = sym (ap (option_map (λ (z : Job). z.seq)) ended.0) ∙ reads in cc)
    keeps.0

-- an open read of a brick's own is still that
pub read_kept : (w : World) (i k : ℕ) (c : Coordinator) (later : Node) → IsCall w i k c → KeepsRead (w.nodes i) later → (own : Own)
    → own_seq (w.nodes i) own ≡ Some k → own_seq later own ≡ Some k
read_kept w i k c later is keeps own old =
    ⊎_elim
    (λ (same : own_seq later own ≡ own_seq (w.nodes i) own). same ∙ old)
    (λ (ended : HasNoRead (w.nodes i) own). absurd (let never : None ≡ Some c = sym (ended k old) ∙ is in let e : ⊥ = cc in e))
    (keeps own)

-- the books of a call that a step leaves alone
pub call_kept : (setting : Setting) (w later : World) (i k : ℕ) (c : Coordinator) → IsCall w i k c → (books : CallBooks setting w i k c)
    → later.up i ≡ w.up i → (later.nodes i).boot ≡ (w.nodes i).boot → number_of later i k ≡ number_of w i k
    → later.operations (number_of w i k) ≡ w.operations (number_of w i k)
    → (w.nodes i).known ≤ (later.nodes i).known → LivesOn w later books.operation
    → ((o : Operation) → IsOperation w (number_of w i k) o → OperationBooks setting w (number_of w i k) o)
    → KeepsRead (w.nodes i) (later.nodes i)
    → CallBooks setting later i k c
call_kept setting w later i k c is books up boot number operation known stays begun keeps =
    record {
      operation = books.operation;
      operation_is = subst (λ (n : ℕ). IsOperation later n books.operation) (sym number) (operation ∙ books.operation_is);
      up = up ∙ books.up;
      brick = books.brick;
      boot = books.boot ∙ sym boot;
      seq = books.seq;
      ask = books.ask;
      stamp_brick = books.stamp_brick;
      stamp_view = books.stamp_view;
      stamp_boot = books.stamp_boot ∙ sym boot;
      stamp_known = (books.stamp_known.0, omega (arith, books.stamp_known.1));
      call_boot = books.call_boot ∙ sym boot;
      call_seq = books.call_seq;
      call_group = books.call_group;
      call_view = books.call_view;
      call_stripe = books.call_stripe;
      stripes = books.stripes;
      rounds = books.rounds;
      in_round = books.in_round;
      made = books.made;
      unended = λ from life at.
          (let old : LifeBooks w books.operation = (begun books.operation books.operation_is).lived from in
          let goes : (l : Life) × (life_of later.marks books.operation.mark ≡ Some l) × LifeStays old.life l =
          subst (λ (x : Option Life). Stays x (life_of later.marks books.operation.mark)) old.life_is (stays from) in
          let same : goes.0 ≡ life = same_Some goes.0 life (sym goes.1 ∙ at) in
          subst (λ (l : Life). IsOpen (Some l)) same
          (EndingStays-open old.life.ending goes.0.ending goes.2.ending (books.unended from old.life old.life_is)));
      unclosed = books.unclosed;
      unanswered = books.unanswered;
      reads = λ none. (let old = books.reads none in (old.0, read_kept w i k c (later.nodes i) is keeps old.0 old.1));
      enough = books.enough;
      alone = λ some. read_kept w i k c (later.nodes i) is keeps ForScrub (books.alone some);
    }

-- an operation that keeps what it asks, its call, its view and its marks
pub record KeepsAsk (o later : Operation) : Type 0 where
  pub brick : later.brick ≡ o.brick
  pub boot : later.boot ≡ o.boot
  pub seq : later.seq ≡ o.seq
  pub ask : later.ask ≡ o.ask
  pub mark : later.mark ≡ o.mark
  pub view : later.view ≡ o.view

pub keeps_ask : (o : Operation) → KeepsAsk o o
keeps_ask o = record { brick = refl; boot = refl; seq = refl; ask = refl; mark = refl; view = refl }

-- the books of a read of a brick's own that a step leaves alone, but for what it has made or seen, or how it ended
pub own_kept : (w later : World) (i k : ℕ) (books : OwnBooks w i k) → (later.nodes i).boot ≡ (w.nodes i).boot → number_of later i k ≡ number_of w i k
    → ((o : Operation) → IsOperation w (number_of w i k) o → (p : Operation) × IsOperation later (number_of w i k) p × KeepsAsk o p)
    → (own : OwnBooks later i k) × KeepsAsk books.operation own.operation
own_kept w later i k books boot number goes =
    let now = goes books.operation books.operation_is in (
      record {
        operation = now.0;
        operation_is = subst (λ (n : ℕ). IsOperation later n now.0) (sym number) now.1;
        mark = now.2.mark ∙ books.mark;
        brick = ap (λ b. b.0) now.2.brick ∙ books.brick;
        boot = now.2.boot ∙ books.boot ∙ sym boot;
        seq = now.2.seq ∙ books.seq;
      },
      now.2,
    )

-- so those of a synchronisation
pub job_kept : (w later : World) (i : ℕ) (job : Job) → JobBooks w i job → (later.nodes i).boot ≡ (w.nodes i).boot
    → number_of later i job.seq ≡ number_of w i job.seq
    → ((o : Operation) → IsOperation w (number_of w i job.seq) o → (p : Operation) × IsOperation later (number_of w i job.seq) p × KeepsAsk o p)
    → JobBooks later i job
job_kept w later i job books boot number goes =
    let now = own_kept w later i job.seq books.own boot number goes in
    record { own = now.0; ask = now.1.ask ∙ books.ask; view = now.1.view ∙ books.view }

-- the number of a read of a brick's own is no later than the brick's last call
pub own_called : (setting : Setting) (w : World) (i k : ℕ) → Books setting w → OwnBooks w i k → k ≤ (w.nodes i).seq
own_called setting w i k books mine =
    let own : OperationBooks setting w (number_of w i k) mine.operation =
    books.operations (number_of w i k) mine.operation mine.operation_is in
    let least : mine.operation.seq ≤ (w.nodes mine.operation.brick.0).seq =
    own.called.1 (mine.boot ∙ ap (λ (j : ℕ). (w.nodes j).boot) (sym mine.brick)) in
    let there : (w.nodes mine.operation.brick.0).seq ≡ (w.nodes i).seq = ap (λ (j : ℕ). (w.nodes j).seq) mine.brick in
    let seq : mine.operation.seq ≡ k = mine.seq in
    omega arith

-- the read of a synchronisation whose call has this number, or the scrub, is found by that
found_reading : (job : Option Job) (k : ℕ) → option_map (λ (z : Job). z.seq) job ≡ Some k → job_reading job k ≡ None → ⊥
found_reading None k is none = cc
found_reading (Some job) k is none =
    let seq : job.seq ≡ k = same_Some job.seq k is in
    let reading : job_reading (Some job) k ≡ Some job = ap (λ (b : Bool). if b then Some job else None) (eq-eqb job.seq k seq) in
    let never : None ≡ Some job = sym none ∙ reading in
    cc

found_scrub : (scrub : Option Scrub) (k : ℕ) → option_map (λ (z : Scrub). z.seq) scrub ≡ Some k → scrub_of scrub k ≡ None → ⊥
found_scrub None k is none = cc
found_scrub (Some scrub) k is none =
    let seq : scrub.seq ≡ k = same_Some scrub.seq k is in
    let found : scrub_of (Some scrub) k ≡ Some scrub = ap (λ (b : Bool). if b then Some scrub else None) (eq-eqb scrub.seq k seq) in
    let never : None ≡ Some scrub = sym none ∙ found in
    cc

-- the operation of a call has marks where it is no read of its brick's own, and none where it is
pub call_marked : (setting : Setting) (w : World) (i k : ℕ) (c : Coordinator) (books : CallBooks setting w i k c)
    → job_reading (w.nodes i).job k ≡ None → scrub_of (w.nodes i).scrub k ≡ None → 1 ≤ books.operation.mark
call_marked setting w i k c books no_read no_scrub =
    ⊎_elim (λ (from : 1 ≤ books.operation.mark). from)
    (λ (none : books.operation.mark ≡ 0). let own = books.reads none in absurd (by own.0 own.1))
    (cases_marked books.operation)
  where
    by : (own : Own) → own_seq (w.nodes i) own ≡ Some k → ⊥
    by ForJob is = found_reading (w.nodes i).job k is no_read
    by ForScrub is = found_scrub (w.nodes i).scrub k is no_scrub

pub reading_is : (found : Option Job) (k : ℕ) (job : Job) → job_reading found k ≡ Some job → (found ≡ Some job) × (job.seq ≡ k)
reading_is None k job is = absurd (let never : None ≡ Some job = is in cc)
reading_is (Some job) k other is =
    cond_both (nat_eq job.seq k) (Some job) None (λ (z : Option Job). z ≡ Some other → (Some job ≡ Some other) × (other.seq ≡ k))
    (λ same e. (e, (let one : job ≡ other = same_Some job other e in ap (λ (j : Job). j.seq) (sym one) ∙ eqb-true job.seq k same)))
    (λ differ e. absurd (let never : None ≡ Some other = e in cc))
    is

pub scrub_is : (found : Option Scrub) (k : ℕ) (scrub : Scrub) → scrub_of found k ≡ Some scrub → (found ≡ Some scrub) × (scrub.seq ≡ k)
scrub_is None k scrub is = absurd (let never : None ≡ Some scrub = is in cc)
scrub_is (Some scrub) k other is =
    cond_both (nat_eq scrub.seq k) (Some scrub) None (λ (z : Option Scrub). z ≡ Some other → (Some scrub ≡ Some other) × (other.seq ≡ k))
    (λ same e. (e, (let one : scrub ≡ other = same_Some scrub other e in ap (λ (s : Scrub). s.seq) (sym one) ∙ eqb-true scrub.seq k same)))
    (λ differ e. absurd (let never : None ≡ Some other = e in cc))
    is

-- the number of a synchronisation's read, and of a scrub
pub job_seq : (found : Option Job) (job : Job) (k : ℕ) → found ≡ Some job → job.seq ≡ k → option_map (λ (z : Job). z.seq) found ≡ Some k
job_seq found job k is seq = ap (option_map (λ (z : Job). z.seq)) is ∙ ap (λ (l : ℕ). Some l) seq

pub scrub_seq : (found : Option Scrub) (scrub : Scrub) (k : ℕ) → found ≡ Some scrub → scrub.seq ≡ k → option_map (λ (z : Scrub). z.seq) found ≡ Some k
scrub_seq found scrub k is seq = ap (option_map (λ (z : Scrub). z.seq)) is ∙ ap (λ (l : ℕ). Some l) seq

-- so the books of a read of the brick's own
pub own_books : (setting : Setting) (w : World) → Books setting w → (i k : ℕ) (own : Own) → own_seq (w.nodes i) own ≡ Some k → OwnBooks w i k
own_books setting w books i k ForJob is = by (w.nodes i).job refl is
  where
    by : (found : Option Job) → (w.nodes i).job ≡ found → option_map (λ (z : Job). z.seq) found ≡ Some k → OwnBooks w i k
    by None at seq = absurd (let never : None ≡ Some k = seq in cc)
    by (Some job) at seq = subst (λ (l : ℕ). OwnBooks w i l) (same_Some job.seq k seq) (books.jobs i job at).own
own_books setting w books i k ForScrub is = books.scrubs i k is

-- its operation is that of its call
pub own_operation : (setting : Setting) (w : World) (i k : ℕ) (c : Coordinator) (books : CallBooks setting w i k c) (mine : OwnBooks w i k)
    → mine.operation ≡ books.operation
own_operation setting w i k c books mine = same_Some mine.operation books.operation (sym mine.operation_is ∙ books.operation_is)

pub call_unmarked : (setting : Setting) (w : World) (i k : ℕ) (c : Coordinator) (books : CallBooks setting w i k c) → OwnBooks w i k → books.operation.mark ≡ 0
call_unmarked setting w i k c books mine =
    ap (λ (o : Operation). o.mark) (sym (own_operation setting w i k c books mine)) ∙ mine.mark

-- an operation that has marks counts every member
pub counts_all : (setting : Setting) (w : World) → Books setting w → (i k : ℕ) (c : Coordinator) (mine : CallBooks setting w i k c) → 1 ≤ mine.operation.mark
    → c.only ≡ None
counts_all setting w books i k c mine from = by c.only mine.alone
  where
    by : (only : Option (List BrickId)) → (is_some only ≡ true → own_seq (w.nodes i) ForScrub ≡ Some k) → only ≡ None
    by None alone = refl
    by (Some only) alone =
        (let none : mine.operation.mark ≡ 0 = call_unmarked setting w i k c mine (books.scrubs i k (alone refl)) in absurd (omega (arith, from, none)))

-- the number of an operation of its brick's present boot is that of its call
pub number_at : (setting : Setting) (w : World) (n : ℕ) (o : Operation) → OperationBooks setting w n o → o.boot ≡ (w.nodes o.brick.0).boot
    → (i k : ℕ) → o.brick.0 ≡ i → o.seq ≡ k → n ≡ number_of w i k
number_at setting w n o books present i k at seq =
    sym books.number ∙ ap (λ (b : ℕ). w.numbers o.brick.0 b o.seq) present ∙ ap (λ (j : ℕ). number_of w j o.seq) at
    ∙ ap (λ (l : ℕ). number_of w i l) seq

-- two calls of one operation are one call
pub calls_apart : (setting : Setting) (w : World) (i k j l : ℕ) (c d : Coordinator) → CallBooks setting w i k c → CallBooks setting w j l d
    → number_of w j l ≡ number_of w i k → (j ≡ i) × (l ≡ k)
calls_apart setting w i k j l c d first second same =
    let there : w.operations (number_of w i k) ≡ Some second.operation = subst
    (λ (n : ℕ). IsOperation w n second.operation) same second.operation_is in
    let one : first.operation ≡ second.operation = same_Some first.operation second.operation (sym first.operation_is ∙ there) in (
      sym second.brick ∙ ap (λ (o : Operation). o.brick.0) (sym one) ∙ first.brick,
      sym second.seq ∙ ap (λ (o : Operation). o.seq) (sym one)
          ∙ first.seq,
    )

-- this call, or another
pub cases_call : (i k j l : ℕ) → ((j ≡ i) × (l ≡ k)) ⊎ (j ≡ i → l ≡ k → ⊥)
cases_call i k j l = ⊎_elim
    (λ (same : j ≡ i). ⊎_elim (λ (seq : l ≡ k). inl (same, seq)) (λ (other : l ≢ k). inr (λ e f. other f)) (cases_eq l k))
    (λ (other : j ≢ i). inr (λ e f. other e))
    (cases_eq j i)

-- a brick whose boot stays, whose call numbers do not fall, and that knows no less
pub record KeepsNumbers (node later : Node) : Type 0 where
  pub boot : later.boot ≡ node.boot
  pub seq : node.seq ≤ later.seq
  pub known : node.known ≤ later.known

-- so does one that stays as it is, that learns a time, or one of whose calls goes on
pub keeps_all : (node : Node) → KeepsNumbers node node
keeps_all node = record { boot = refl; seq = omega arith; known = omega arith }

pub keeps_known : (node : Node) (known : ℕ) → node.known ≤ known → KeepsNumbers node (with_known node known)
keeps_known node known grows = record { boot = refl; seq = omega arith; known = grows }

pub keeps_with_call : (node : Node) (known busy seq : ℕ) (call : Option Coordinator) → node.known ≤ known
    → KeepsNumbers node (with_call node known busy seq call)
keeps_with_call node known busy seq call grows = record { boot = refl; seq = omega arith; known = grows }

-- its numbers, its calls, its synchronisation and its scrub
abbrev pub KeepsCalls : Node → Node → Type 0
KeepsCalls node later =
    KeepsNumbers node later × ((l : ℕ) → later.calls l ≡ node.calls l) × (later.job ≡ node.job) × (own_seq later ForScrub ≡ own_seq node ForScrub)

-- so it keeps its own reads
pub calls_reads : (node later : Node) → KeepsCalls node later → KeepsReads node later
calls_reads node later keeps = (inl keeps.2, inl keeps.3)

pub keeps_itself : (node : Node) → KeepsCalls node node
keeps_itself node = (keeps_all node, λ l. refl, refl, refl)
