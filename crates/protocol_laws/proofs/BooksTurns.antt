-- The books of a world where an open operation went on at its coordinator.
use Rattle.std.proofs.Common.{◌≡◌, ◌≢◌, ℕ, ◌<◌, ◌≤◌, ⊎_elim, false, Option, Some, None, refl, sym, ap, ◌∙◌, subst, arith, List, Bool, is_some}
use Rattle.std.proofs.lemmas.Option.{same_Some}
use Rattle.std.proofs.lemmas.Bool.{cases_eq, both_ways}
use Rattle.fab_base.specs.declared.stamps.Stamp.{Stamp}
use Rattle.messages.specs.declared.packets.Packet.{Packet}
use Rattle.reg_model.specs.Marks.{life_of}
use Rattle.fab_base.specs.Layouts.{Group}
use Rattle.protocol.specs.Settings.{Setting}
use Rattle.protocol.specs.declared.phases.Counted.{Counted}
use Rattle.protocol.specs.Coordinators.{Coordinator, most_rounds, asked_view, AreEnough}
use Rattle.protocol.specs.Nodes.{Node}
use Rattle.protocol.specs.Worlds.{World, Operation, number_of, Choices}
use Rattle.protocol_laws.proofs.Books.{Books, IsReadable, OperationBooks, LifeBooks, UnmarkedBooks, CallBooks, IsOperation, IsCall, MadeInPhase, InRound, ForScrub, own_seq}
use Rattle.protocol_laws.proofs.MarkNumbers.{own_by}
use Rattle.protocol_laws.proofs.BooksKept.{KeepsNumbers, KeepsAsk, keeps_ask, lives_same, operation_kept, call_kept, job_kept, number_at, calls_apart, cases_call, same_reads, read_kept, own_kept, apart_kept}
use Rattle.protocol_laws.proofs.Outcomes.{SameOperation}
use Rattle.fab_base.specs.declared.identities.BrickId.{BrickId}

-- what is known of an operation that is open, but for its version
pub record SameAsk (o later : Operation) : Type 0 where
  pub brick : later.brick ≡ o.brick
  pub boot : later.boot ≡ o.boot
  pub seq : later.seq ≡ o.seq
  pub begin : later.begin ≡ o.begin
  pub ask : later.ask ≡ o.ask
  pub mark : later.mark ≡ o.mark
  pub view : later.view ≡ o.view
  pub answered : later.answered ≡ o.answered
  pub closed : later.closed ≡ o.closed

-- a stamp of an operation, its view and its boot, whose brick knows this time
pub record IsBookedStamp (known : ℕ) (o : Operation) (t : Stamp) : Type 0 where
  pub brick : t.brick ≡ o.brick
  pub view : o.view ≡ t.view.0
  pub boot : t.boot ≡ o.boot
  pub time : (1 ≤ t.time) × (t.time ≤ known)

-- brick i's call k is at d in place of c, and its operation is o in place of what it was; all else is as before
pub record Turned (w : World) (i k : ℕ) (c d : Coordinator) (before o : Operation) (nodes : ℕ → Node)
    (operations : ℕ → Option Operation) : Type 0 where
  pub was : IsCall w i k c
  pub operation_was : IsOperation w (number_of w i k) before
  pub same : SameOperation c d
  pub stamp : IsBookedStamp (nodes i).known before d.stamp
  pub call_view : d.call.view ≡ asked_view d.stamp d.phase
  pub rounds : (1 ≤ d.round) × (d.round ≤ most_rounds)
  pub in_round : InRound d d.phase
  pub same_ask : SameAsk before o
  pub made : MadeInPhase d o d.phase
  pub keeps : (j : ℕ) → KeepsNumbers (w.nodes j) (nodes j)
  pub jobs : (j : ℕ) → (nodes j).job ≡ (w.nodes j).job
  pub scrubs : (j : ℕ) → own_seq (nodes j) ForScrub ≡ own_seq (w.nodes j) ForScrub
  pub call_is : (nodes i).calls k ≡ Some d
  pub other_calls : (j l : ℕ) → (j ≡ i → l ≡ k → ⊥) → (nodes j).calls l ≡ (w.nodes j).calls l
  pub operation_is : operations (number_of w i k) ≡ Some o
  pub other_operations : (m : ℕ) → m ≢ number_of w i k → operations m ≡ w.operations m

-- the world with these bricks, packets, operations, contents and counted replies
abbrev pub turned_world : World → (ℕ → Node) → (ℕ → ℕ → ℕ → Stamp → Bool) → List Packet → (ℕ → Option Operation) → (ℕ → ℕ → Stamp → List ℕ) → (ℕ → ℕ → List Counted) → Choices → World
turned_world w nodes held packets operations contents replies choices =
    record {
      nodes = nodes;
      after = w.after;
      up = w.up;
      clocks = w.clocks;
      packets = packets;
      marks = w.marks;
      marked = w.marked;
      begun = w.begun;
      operations = operations;
      numbers = w.numbers;
      choices = choices;
      past = w.past;
      contents = contents;
      held = held;
      replies = replies;
      reached = w.reached;
    }

module _ (setting : Setting) (w : World) (i k : ℕ) (c d : Coordinator) (before o : Operation) (nodes : ℕ → Node) (held : ℕ → ℕ → ℕ → Stamp → Bool) (packets : List Packet)
    (operations : ℕ → Option Operation) (contents : ℕ → ℕ → Stamp → List ℕ) (replies : ℕ → ℕ → List Counted) (choices : Choices) (books : Books setting w)
    (turned : Turned w i k c d before o nodes operations) where
  -- the world after the turn
  abbrev later : World
  later = turned_world w nodes held packets operations contents replies choices

  call : CallBooks setting w i k c
  call = books.calls i k c turned.was

  own : OperationBooks setting w (number_of w i k) before
  own = books.operations (number_of w i k) before turned.operation_was

  -- the call's operation is the one before
  same_before : call.operation ≡ before
  same_before = same_Some call.operation before (sym call.operation_is ∙ turned.operation_was)

  -- the call's number stays
  own_number : number_of later i k ≡ number_of w i k
  own_number = ap (λ (b : ℕ). w.numbers i b k) (turned.keeps i).boot

  -- the operation keeps its marks
  own_mark : o.mark ≡ call.operation.mark
  own_mark = turned.same_ask.mark ∙ ap (λ (x : Operation). x.mark) (sym same_before)

  -- another call is of another operation
  other_number : (j l : ℕ) (e : Coordinator) → IsCall w j l e → (j ≡ i → l ≡ k → ⊥) → number_of w j l ≢ number_of w i k
  other_number j l e is other same =
      let one : (j ≡ i) × (l ≡ k) = calls_apart setting w i k j l c e call (books.calls j l e is) same in
      other one.0 one.1

  -- the call's books at the turn
  call_books : CallBooks setting later i k d
  call_books =
      let brick : before.brick.0 ≡ i = ap (λ (x : Operation). x.brick.0) (sym same_before) ∙ call.brick in
      let boot : before.boot ≡ (nodes i).boot = ap (λ (x : Operation). x.boot) (sym same_before) ∙ call.boot ∙ sym (turned.keeps i).boot in
      let seq : before.seq ≡ k = ap (λ (x : Operation). x.seq) (sym same_before) ∙ call.seq in
      record {
        operation = o;
        operation_is = subst (λ (n : ℕ). IsOperation later n o) (sym own_number) turned.operation_is;
        up = call.up;
        brick = ap (λ b. b.0) turned.same_ask.brick ∙ brick;
        boot = turned.same_ask.boot ∙ boot;
        seq = turned.same_ask.seq ∙ seq;
        ask = turned.same.ask ∙ call.ask ∙ ap (λ (x : Operation). x.ask) same_before ∙ sym turned.same_ask.ask;
        stamp_brick = turned.stamp.brick ∙ sym turned.same_ask.brick;
        stamp_view = turned.same_ask.view ∙ turned.stamp.view;
        stamp_boot = turned.stamp.boot ∙ boot;
        stamp_known = turned.stamp.time;
        call_boot = turned.same.boot ∙ call.call_boot ∙ sym (turned.keeps i).boot;
        call_seq = turned.same.seq ∙ call.call_seq;
        call_group = turned.same.group ∙ call.call_group ∙ sym (ap (λ a. a.group) turned.same.ask);
        call_view = turned.call_view;
        call_stripe = turned.same.stripe ∙ call.call_stripe ∙ sym (ap (λ a. a.stripe) turned.same.ask);
        stripes = λ group is.
            ap (λ (g : Group). g.stripes) turned.same.members
            ∙ call.stripes group (sym (ap (λ a. Rattle.fab_base.specs.Layouts.group_of setting.layout a.group.0) turned.same.ask) ∙ is);
        rounds = turned.rounds;
        in_round = turned.in_round;
        made = turned.made;
        unended = λ from life is.
            (let mark : o.mark ≡ call.operation.mark = own_mark in
            call.unended (omega arith) life (ap (λ (m : ℕ). life_of w.marks m) (sym mark) ∙ is));
        unclosed = turned.same_ask.closed ∙ ap (λ (x : Operation). x.closed) (sym same_before) ∙ call.unclosed;
        unanswered = turned.same_ask.answered ∙ ap (λ (x : Operation). x.answered) (sym same_before) ∙ call.unanswered;
        reads = λ none. (let old = call.reads (sym own_mark ∙ none) in
            (old.0, read_kept w i k c (nodes i) turned.was (same_reads (w.nodes i) (nodes i) (turned.jobs i) (turned.scrubs i)) old.0 old.1));
        enough = subst (λ (o : Option (List BrickId)). AreEnough d.group o) (sym turned.same.only)
            (subst (λ (g : Group). AreEnough g c.only) (sym turned.same.members) call.enough);
        alone = λ some. turned.scrubs i ∙ call.alone (ap (λ (o : Option (List BrickId)). is_some o) (sym turned.same.only) ∙ some);
      }

  -- the operation's life at the turn
  own_life : 1 ≤ o.mark → LifeBooks later o
  unfolding call_books
  own_life from =
      let mark : o.mark ≡ before.mark = turned.same_ask.mark in
      let old : LifeBooks w before = own.lived (omega arith) in
      let at : o.brick.0 ≡ i = call_books.brick in
      record {
        life = old.life;
        life_is = ap (λ (m : ℕ). life_of w.marks m) mark ∙ old.life_is;
        begin = old.begin ∙ sym turned.same_ask.begin;
        brick = old.brick ∙ ap (λ b. b.0) (sym turned.same_ask.brick);
        ask = old.ask ∙ sym turned.same_ask.ask;
        answered = λ is. absurd (both_ways o.answered call_books.unanswered is);
        answered_only = λ is. turned.same_ask.answered ∙ old.answered_only is;
        open_call = λ is. (
          call_books.boot ∙ ap (λ (j : ℕ). (nodes j).boot) (sym at),
          (d, subst (λ (j : ℕ). IsCall later j o.seq d) (sym at) (subst (λ (l : ℕ). IsCall later i l d) (sym call_books.seq) turned.call_is)),
        );
        unclosed = call_books.unclosed;
      }

  -- what the operations ask stays
  goes_on : (n : ℕ) (x : Operation) → IsOperation w n x → (p : Operation) × IsOperation later n p × KeepsAsk x p
  goes_on n x is = ⊎_elim
      (λ (mine : n ≡ number_of w i k).
      let one : before ≡ x = same_Some before x (sym turned.operation_was ∙ ap w.operations (sym mine) ∙ is) in (
        o,
        ap operations mine ∙ turned.operation_is,
        subst (λ (y : Operation). KeepsAsk y o) one (record {
          brick = turned.same_ask.brick;
          boot = turned.same_ask.boot;
          seq = turned.same_ask.seq;
          ask = turned.same_ask.ask;
          mark = turned.same_ask.mark;
          view = turned.same_ask.view;
        }),
      ))
      (λ (other : n ≢ number_of w i k). (x, turned.other_operations n other ∙ is, keeps_ask x))
      (cases_eq n (number_of w i k))

  -- the operation's books at the turn
  own_books : OperationBooks setting later (number_of w i k) o
  unfolding call_books
  own_books =
      let brick : o.brick ≡ before.brick = turned.same_ask.brick in
      let boot : o.boot ≡ before.boot = turned.same_ask.boot in
      let seq : o.seq ≡ before.seq = turned.same_ask.seq in
      let ask : o.ask ≡ before.ask = turned.same_ask.ask in
      let at : o.brick.0 ≡ i = call_books.brick in
      let never : o.answered ≡ false = call_books.unanswered in
      record {
        from_one = own.from_one;
        begun = own.begun;
        number = ap (λ b. w.numbers b.0 o.boot o.seq) brick ∙ ap (λ (b : ℕ). w.numbers before.brick.0 b o.seq) boot
            ∙ ap (λ (l : ℕ). w.numbers before.brick.0 before.boot l) seq ∙ own.number;
        booted = (let old : (w.nodes before.brick.0).boot ≡ (w.nodes o.brick.0).boot = ap (λ b. (w.nodes b.0).boot) (sym brick) in
            let now : (nodes o.brick.0).boot ≡ (w.nodes o.brick.0).boot = (turned.keeps o.brick.0).boot in
            (omega (arith, own.booted.0), omega (arith, own.booted.1)));
        called = (let old : (w.nodes before.brick.0).seq ≡ (w.nodes o.brick.0).seq = ap (λ b. (w.nodes b.0).seq) (sym brick) in
            let now : (w.nodes o.brick.0).seq ≤ (nodes o.brick.0).seq = (turned.keeps o.brick.0).seq in (
              omega (arith, own.called.0),
              λ present.
                  (let least : before.seq ≤ (w.nodes before.brick.0).seq = own.called.1 (sym boot ∙ present ∙ (turned.keeps o.brick.0).boot
                  ∙ ap (λ b. (w.nodes b.0).boot) brick) in omega arith),
            ));
        group = own.group;
        group_is = ap (λ a. Rattle.fab_base.specs.Layouts.group_of setting.layout a.group.0) ask ∙ own.group_is;
        stripe = λ from. subst (λ a. a.stripe.0 < own.group.stripes) (sym ask) (own.stripe (let mark : o.mark ≡ before.mark = turned.same_ask.mark in omega arith));
        readable = subst (λ a. IsReadable own.group a.stripe.0) (sym ask) own.readable;
        block_fits = ap (λ a. Rattle.protocol.specs.Nodes.has_block own.group.m a.op) ask ∙ own.block_fits;
        length_fits = ap (λ a. Rattle.protocol.specs.Nodes.has_length own.group.m setting.layout.block a.op) ask ∙ own.length_fits;
        answered_version = λ is. absurd (both_ways o.answered never is);
        lived = own_life;
        unmarked = λ none.
            (let old : UnmarkedBooks before = own.unmarked (sym turned.same_ask.mark ∙ none) in
            record {
              op = ap (λ a. a.op) ask ∙ old.op;
              answered = λ is. absurd (both_ways o.answered never is);
              answered_only = λ is. turned.same_ask.answered ∙ old.answered_only (sym turned.same_ask.closed ∙ is);
            });
      }

  -- the turn of one open operation keeps the books
  pub books_turned : Books setting later
  books_turned = record {
    well_formed = books.well_formed;
    places = books.places;
    own = own_by w.marked w.operations books.own (number_of w i k) before o operations turned.operation_was turned.operation_is turned.same_ask.mark
        turned.other_operations;
    boots = λ j up. (let e : (nodes j).boot ≡ (w.nodes j).boot = (turned.keeps j).boot in omega (arith, books.boots j up));
    all_begun = λ n low high. ⊎_elim
        (λ (mine : n ≡ number_of w i k). (o, subst (λ (m : ℕ). IsOperation later m o) (sym mine) turned.operation_is))
        (λ (other : n ≢ number_of w i k).
        let old : (x : Operation) × IsOperation w n x = books.all_begun n low high in
        (old.0, turned.other_operations n other ∙ old.1))
        (cases_eq n (number_of w i k));
    operations = λ n x is. ⊎_elim
        (λ (mine : n ≡ number_of w i k).
        let one : o ≡ x = same_Some o x (sym turned.operation_is ∙ ap operations (sym mine) ∙ is) in
        subst (λ (m : ℕ). OperationBooks setting later m x) (sym mine)
        (subst (λ (y : Operation). OperationBooks setting later (number_of w i k) y) one own_books))
        (λ (other : n ≢ number_of w i k).
        let old : IsOperation w n x = sym (turned.other_operations n other) ∙ is in
        let mine : OperationBooks setting w n x = books.operations n x old in
        let seqs : (w.nodes x.brick.0).seq ≤ (nodes x.brick.0).seq = (turned.keeps x.brick.0).seq in
        operation_kept setting w later n x mine (omega arith) refl (turned.keeps x.brick.0).boot (omega arith) (lives_same w later x refl)
        (λ present e was. (e, turned.other_calls x.brick.0 x.seq (λ at seq. other (number_at setting w n x mine present i k at seq)) ∙ was)))
        (cases_eq n (number_of w i k));
    calls = λ j l e is. ⊎_elim
        (λ (mine : (j ≡ i) × (l ≡ k)).
        let at : (nodes i).calls k ≡ Some e = subst (λ (x : ℕ). (nodes x).calls k ≡ Some e) mine.0
        (subst (λ (y : ℕ). (nodes j).calls y ≡ Some e) mine.1 is) in
        let one : d ≡ e = same_Some d e (sym turned.call_is ∙ at) in
        subst (λ (x : ℕ). CallBooks setting later x l e) (sym mine.0) (subst (λ (y : ℕ). CallBooks setting later i y e) (sym mine.1)
        (subst (λ (y : Coordinator). CallBooks setting later i k y) one call_books)))
        (λ (other : j ≡ i → l ≡ k → ⊥).
        let old : IsCall w j l e = sym (turned.other_calls j l other) ∙ is in
        let number : number_of w j l ≢ number_of w i k = other_number j l e old other in
        let mine : CallBooks setting w j l e = books.calls j l e old in
        call_kept setting w later j l e old mine refl (turned.keeps j).boot (ap (λ (b : ℕ). w.numbers j b l) (turned.keeps j).boot)
        (turned.other_operations (number_of w j l) number) (turned.keeps j).known (lives_same w later mine.operation refl)
        (books.operations (number_of w j l)) (same_reads (w.nodes j) (nodes j) (turned.jobs j) (turned.scrubs j)))
        (cases_call i k j l);
    fresh_calls = λ j l lt.
        (let seqs : (w.nodes j).seq ≤ (nodes j).seq = (turned.keeps j).seq in
        let fresh : (w.nodes j).calls l ≡ None = books.fresh_calls j l (omega arith) in
        turned.other_calls j l (λ at seq. (let mine : (w.nodes i).calls k ≡ None =
        subst (λ (x : ℕ). (w.nodes x).calls k ≡ None) at (subst (λ (y : ℕ). (w.nodes j).calls y ≡ None) seq fresh) in
        let never : None ≡ Some c = sym mine ∙ turned.was in cc)) ∙ fresh);
    jobs = λ j job is.
        job_kept w later j job (books.jobs j job (sym (turned.jobs j) ∙ is)) (turned.keeps j).boot (ap (λ (b : ℕ). w.numbers j b job.seq) (turned.keeps j).boot)
        (goes_on (number_of w j job.seq));
    scrubs = λ j l is.
        (own_kept w later j l (books.scrubs j l (sym (turned.scrubs j) ∙ is)) (turned.keeps j).boot (ap (λ (b : ℕ). w.numbers j b l) (turned.keeps j).boot)
        (goes_on (number_of w j l))).0;
    apart = λ j. apart_kept (w.nodes j) (nodes j) (turned.jobs j) (turned.scrubs j) (books.apart j);
    lives = books.lives;
  }
