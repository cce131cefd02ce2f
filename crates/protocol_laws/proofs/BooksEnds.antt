-- The books of a world where an open operation ended, or where a brick stopped.
use Rattle.fab_base.specs.declared.stamps.Stamp.{Stamp}
use Rattle.std.proofs.Common.{◌≡◌, ◌≢◌, ℕ, ◌<◌, ◌≤◌, ⊎_elim, true, false, not, is_some, Option, Some, None, refl, sym, ap, ◌∙◌, subst, arith, List, [], ◌∷◌, ◌++◌, length, Bool}
use Rattle.std.specs.Prelude.{slice_get}
use Rattle.std.proofs.lemmas.Option.{same_Some}
use Rattle.std.proofs.lemmas.Bool.{cases_eq, false≢true}
use Rattle.fab_base.specs.declared.identities.BrickId.{BrickId}
use Rattle.fab_base.specs.declared.answers.Answer.{Answer}
use Rattle.fab_base.specs.declared.answers.Answer.TheVariants.{Data, Done, Aborted}
use Rattle.fab_base.specs.declared.asks.Ask.{Ask}
use Rattle.messages.specs.declared.packets.Packet.{Packet}
use Rattle.fab_base.specs.declared.answers.Cause.{Cause}
use Rattle.reg_model.specs.declared.marks.Mark.{Mark}
use Rattle.reg_model.specs.declared.marks.Mark.TheVariants.{End, Crash}
use Rattle.reg_model.specs.Marks.{Life, Answered, Interrupted, life_of, IsOpen, IsUnended, IsWellFormed, position_of}
use Rattle.reg_model.specs.Strict.{IsAnswered}
use Rattle.fab_base.specs.Layouts.{group_of}
use Rattle.protocol.specs.Settings.{Setting}
use Rattle.protocol.specs.declared.phases.Counted.{Counted}
use Rattle.protocol.specs.Coordinators.{Coordinator}
use Rattle.protocol.specs.Nodes.{Node, put, has_length, no_calls, stopped, has_block}
use Rattle.protocol.specs.Worlds.{World, Operation, is_answer, number_of, world_stopped, Choices}
use Rattle.protocol_laws.proofs.Books.{Books, IsReadable, OperationBooks, LifeBooks, UnmarkedBooks, CallBooks, IsOperation, IsCall, ForScrub, own_seq}
use Rattle.protocol_laws.proofs.MarkNumbers.{cases_marked, own_by, other_mark}
use Rattle.protocol_laws.proofs.BooksKept.{KeepsNumbers, KeepsAsk, keeps_ask, LivesOn, lives_same, job_kept, operation_stays, operation_kept, call_kept, number_at, calls_apart, cases_call, keeps_all, same_reads, own_kept, apart_kept}
use Rattle.reg_model.proofs.GrowingLives.{Stays-push, Stays-crash, life_onward, life_of-append, lived_before_crash, cases_open, unended_not_answered, with_ending, life_of-end, life_of-crash}
use Rattle.reg_model.proofs.AddedMarks.{Places-push, well_formed_end, well_formed_crash}
use Rattle.protocol.proofs.Puts.{put_other}
use Rattle.protocol.proofs.Tables.{put_each, put_same}

-- an End that answers and does not abort makes an operation answered
answer_is : (p : ℕ) (answer : Answer) → is_answer answer ≡ true → IsAnswered (Answered p answer)
answer_is p (Data bytes) h = tt
answer_is p Done h = tt
answer_is p (Aborted cause) h = let never : false ≡ true = h in absurd (let e : ⊥ = cc in e)

answer_was : (p : ℕ) (answer : Answer) → IsAnswered (Answered p answer) → is_answer answer ≡ true
answer_was p (Data bytes) h = refl
answer_was p Done h = refl
answer_was p (Aborted cause) h = absurd h

end_none : (old : Option Life) (p m n : ℕ) (answer : Answer) (life : Life) → life_onward old (End p m answer ∷ []) n ≡ Some life
    → (l : Life) × (old ≡ Some l)
end_none None p m n answer life is = absurd (let never : None ≡ Some life = is in cc)
end_none (Some l) p m n answer life is = (l, refl)

-- what lives after an End lived before
lived_before_end : (marks : List Mark) (p m n : ℕ) (answer : Answer) (life : Life) → life_of (marks ++ (End p m answer ∷ [])) n ≡ Some life
    → (l : Life) × (life_of marks n ≡ Some l)
lived_before_end marks p m n answer life is =
    end_none (life_of marks n) p m n answer life (sym (life_of-append marks (End p m answer ∷ []) n) ∙ is)

-- brick i's call k, at c, is gone, and its operation is o in place of what it was; all else is as before
pub record Ended (w : World) (i k : ℕ) (c : Coordinator) (before o : Operation) (nodes : ℕ → Node) (operations : ℕ → Option Operation) : Type 0 where
  pub was : IsCall w i k c
  pub operation_was : IsOperation w (number_of w i k) before
  pub same : KeepsAsk before o
  pub begin : o.begin ≡ before.begin
  pub answered_version : o.answered ≡ true → (v : _) × (o.version ≡ Some v)
  pub keeps : (j : ℕ) → KeepsNumbers (w.nodes j) (nodes j)
  pub jobs : (j : ℕ) → (nodes j).job ≡ (w.nodes j).job
  pub scrubs : (j : ℕ) → own_seq (nodes j) ForScrub ≡ own_seq (w.nodes j) ForScrub
  pub call_is : (nodes i).calls k ≡ None
  pub other_calls : (j l : ℕ) → (j ≡ i → l ≡ k → ⊥) → (nodes j).calls l ≡ (w.nodes j).calls l
  pub operation_is : operations (number_of w i k) ≡ Some o
  pub other_operations : (m : ℕ) → m ≢ number_of w i k → operations m ≡ w.operations m

-- the world with these bricks, packets, operations, counted replies and marks
abbrev pub ended_world : World → (ℕ → Node) → (ℕ → ℕ → ℕ → Stamp → Bool) → List Packet → (ℕ → Option Operation) → (ℕ → ℕ → List Counted) → Choices → List Mark → World
ended_world w nodes held packets operations replies choices marks =
    record {
      nodes = nodes;
      after = w.after;
      up = w.up;
      clocks = w.clocks;
      packets = packets;
      marks = marks;
      marked = w.marked;
      begun = w.begun;
      operations = operations;
      numbers = w.numbers;
      choices = choices;
      past = w.past;
      contents = w.contents;
      held = held;
      replies = replies;
      reached = w.reached;
    }

module _ (setting : Setting) (w : World) (i k : ℕ) (c : Coordinator) (before o : Operation) (nodes : ℕ → Node) (held : ℕ → ℕ → ℕ → Stamp → Bool) (packets : List Packet)
    (operations : ℕ → Option Operation) (replies : ℕ → ℕ → List Counted) (choices : Choices) (books : Books setting w)
    (ended : Ended w i k c before o nodes operations) where
  -- the world after the end, with these marks
  abbrev after : List Mark → World
  after marks = ended_world w nodes held packets operations replies choices marks

  call : CallBooks setting w i k c
  call = books.calls i k c ended.was

  own : OperationBooks setting w (number_of w i k) before
  own = books.operations (number_of w i k) before ended.operation_was

  -- the call's operation is the one before
  same_before : call.operation ≡ before
  same_before = same_Some call.operation before (sym call.operation_is ∙ ended.operation_was)

  at_brick : o.brick.0 ≡ before.brick.0
  at_brick = ap (λ b. b.0) ended.same.brick

  -- another call is of another operation
  other_number : (j l : ℕ) (e : Coordinator) → IsCall w j l e → (j ≡ i → l ≡ k → ⊥) → number_of w j l ≢ number_of w i k
  other_number j l e is other same =
      let one : (j ≡ i) × (l ≡ k) = calls_apart setting w i k j l c e call (books.calls j l e is) same in
      other one.0 one.1

  -- what the operations ask stays
  goes_on : (n : ℕ) (x : Operation) → IsOperation w n x → (p : Operation) × (operations n ≡ Some p) × KeepsAsk x p
  goes_on n x is = ⊎_elim
      (λ (mine : n ≡ number_of w i k).
      let one : before ≡ x = same_Some before x (sym ended.operation_was ∙ ap w.operations (sym mine) ∙ is) in
      (o, ap operations mine ∙ ended.operation_is, subst (λ (y : Operation). KeepsAsk y o) one ended.same))
      (λ (other : n ≢ number_of w i k). (x, ended.other_operations n other ∙ is, keeps_ask x))
      (cases_eq n (number_of w i k))

  module _ (marks : List Mark) (others : (m : ℕ) (x : Operation) → m ≢ number_of w i k → IsOperation w m x → LivesOn w (after marks) x)
      (lived : 1 ≤ o.mark → LifeBooks (after marks) o) (unmarked : o.mark ≡ 0 → UnmarkedBooks o) (well_formed : IsWellFormed marks)
      (places : (j : ℕ) (mark : Mark) → slice_get marks j ≡ Some mark → position_of mark ≡ j)
      (lives : (n : ℕ) (life : Life) → life_of marks n ≡ Some life → (1 ≤ n) × (n ≤ w.marked)) where
    -- the operation's books at its end
    own_books : OperationBooks setting (after marks) (number_of w i k) o
    own_books = record {
      from_one = own.from_one;
      begun = own.begun;
      number = ap (λ (j : ℕ). w.numbers j o.boot o.seq) at_brick ∙ ap (λ (b : ℕ). w.numbers before.brick.0 b o.seq) ended.same.boot
          ∙ ap (λ (l : ℕ). w.numbers before.brick.0 before.boot l) ended.same.seq ∙ own.number;
      booted = (let boots : (nodes o.brick.0).boot ≡ (w.nodes before.brick.0).boot =
          (ended.keeps o.brick.0).boot ∙ ap (λ (j : ℕ). (w.nodes j).boot) at_brick in
          let boot : o.boot ≡ before.boot = ended.same.boot in
          (omega (arith, own.booted.0), omega (arith, own.booted.1)));
      called = (let seqs : (w.nodes o.brick.0).seq ≤ (nodes o.brick.0).seq = (ended.keeps o.brick.0).seq in
          let there : (w.nodes o.brick.0).seq ≡ (w.nodes before.brick.0).seq = ap (λ (j : ℕ). (w.nodes j).seq) at_brick in
          let seq : o.seq ≡ before.seq = ended.same.seq in (
            omega (arith, own.called.0),
            λ present.
                (let least : before.seq ≤ (w.nodes before.brick.0).seq = own.called.1 (sym ended.same.boot ∙ present ∙ (ended.keeps o.brick.0).boot
                ∙ ap (λ (j : ℕ). (w.nodes j).boot) at_brick) in omega arith),
          ));
      group = own.group;
      group_is = ap (λ (a : Ask). group_of setting.layout a.group.0) ended.same.ask ∙ own.group_is;
      stripe = λ from. subst (λ (a : Ask). a.stripe.0 < own.group.stripes) (sym ended.same.ask)
          (own.stripe (let mark : o.mark ≡ before.mark = ended.same.mark in omega arith));
      readable = subst (λ (a : Ask). IsReadable own.group a.stripe.0) (sym ended.same.ask) own.readable;
      block_fits = ap (λ (a : Ask). has_block own.group.m a.op) ended.same.ask ∙ own.block_fits;
      length_fits = ap (λ (a : Ask). has_length own.group.m setting.layout.block a.op) ended.same.ask ∙ own.length_fits;
      answered_version = ended.answered_version;
      lived = lived;
      unmarked = unmarked;
    }

    -- the books once a call is gone
    pub books_gone : Books setting (after marks)
    books_gone =
        let later : World = after marks in
        record {
          well_formed = well_formed;
          places = places;
          own = own_by w.marked w.operations books.own (number_of w i k) before o operations ended.operation_was ended.operation_is ended.same.mark
              ended.other_operations;
          boots = λ j up. (let e : (nodes j).boot ≡ (w.nodes j).boot = (ended.keeps j).boot in omega (arith, books.boots j up));
          all_begun = λ n low high. ⊎_elim
              (λ (mine : n ≡ number_of w i k). (o, subst (λ (m : ℕ). IsOperation later m o) (sym mine) ended.operation_is))
              (λ (other : n ≢ number_of w i k).
              let old : (x : Operation) × IsOperation w n x = books.all_begun n low high in
              (old.0, ended.other_operations n other ∙ old.1))
              (cases_eq n (number_of w i k));
          operations = λ n x is. ⊎_elim
              (λ (mine : n ≡ number_of w i k).
              let one : o ≡ x = same_Some o x (sym ended.operation_is ∙ ap operations (sym mine) ∙ is) in
              subst (λ (m : ℕ). OperationBooks setting later m x) (sym mine)
              (subst (λ (y : Operation). OperationBooks setting later (number_of w i k) y) one own_books))
              (λ (other : n ≢ number_of w i k).
              let old : IsOperation w n x = sym (ended.other_operations n other) ∙ is in
              let mine : OperationBooks setting w n x = books.operations n x old in
              operation_kept setting w later n x mine (omega arith) refl (ended.keeps x.brick.0).boot (ended.keeps x.brick.0).seq (others n x other old)
              (λ present e was. (e, ended.other_calls x.brick.0 x.seq (λ at seq. other (number_at setting w n x mine present i k at seq)) ∙ was)))
              (cases_eq n (number_of w i k));
          calls = λ j l e is. ⊎_elim
              (λ (mine : (j ≡ i) × (l ≡ k)).
              let at : (nodes i).calls k ≡ Some e = subst (λ (x : ℕ). (nodes x).calls k ≡ Some e) mine.0
              (subst (λ (y : ℕ). (nodes j).calls y ≡ Some e) mine.1 is) in
              let never : None ≡ Some e = sym ended.call_is ∙ at in
              absurd (let e : ⊥ = cc in e))
              (λ (other : j ≡ i → l ≡ k → ⊥).
              let old : IsCall w j l e = sym (ended.other_calls j l other) ∙ is in
              let number : number_of w j l ≢ number_of w i k = other_number j l e old other in
              let mine : CallBooks setting w j l e = books.calls j l e old in
              call_kept setting w later j l e old mine refl (ended.keeps j).boot (ap (λ (b : ℕ). w.numbers j b l) (ended.keeps j).boot)
              (ended.other_operations (number_of w j l) number) (ended.keeps j).known
              (others (number_of w j l) mine.operation number mine.operation_is)
              (books.operations (number_of w j l)) (same_reads (w.nodes j) (nodes j) (ended.jobs j) (ended.scrubs j)))
              (cases_call i k j l);
          fresh_calls = λ j l lt. ⊎_elim
              (λ (mine : (j ≡ i) × (l ≡ k)).
              subst (λ (x : ℕ). (nodes x).calls l ≡ None) (sym mine.0) (subst (λ (y : ℕ). (nodes i).calls y ≡ None) (sym mine.1) ended.call_is))
              (λ (other : j ≡ i → l ≡ k → ⊥).
              let seqs : (w.nodes j).seq ≤ (nodes j).seq = (ended.keeps j).seq in
              ended.other_calls j l other ∙ books.fresh_calls j l (omega arith))
              (cases_call i k j l);
          jobs = λ j job is.
              job_kept w later j job (books.jobs j job (sym (ended.jobs j) ∙ is)) (ended.keeps j).boot (ap (λ (b : ℕ). w.numbers j b job.seq) (ended.keeps j).boot)
              (goes_on (number_of w j job.seq));
          scrubs = λ j l is.
              (own_kept w later j l (books.scrubs j l (sym (ended.scrubs j) ∙ is)) (ended.keeps j).boot (ap (λ (b : ℕ). w.numbers j b l) (ended.keeps j).boot)
              (goes_on (number_of w j l))).0;
          apart = λ j. apart_kept (w.nodes j) (nodes j) (ended.jobs j) (ended.scrubs j) (books.apart j);
          lives = lives;
        }

  -- an operation that has marks ends by one
  module _ (answer : Answer) (from : 1 ≤ before.mark) (answered : o.answered ≡ is_answer answer) (closed : o.closed ≡ before.closed) where
    abbrev marks : List Mark
    marks = w.marks ++ (End (length w.marks) before.mark answer ∷ [])

    was_lived : LifeBooks w before
    was_lived = own.lived from

    was_unended : IsOpen (Some was_lived.life)
    was_unended =
        call.unended (let mark : call.operation.mark ≡ before.mark = ap (λ (x : Operation). x.mark) same_before in omega arith) was_lived.life
        (ap (λ (x : Operation). life_of w.marks x.mark) same_before ∙ was_lived.life_is)

    -- the operation's life has its End
    life_ended : life_of marks before.mark ≡ Some (with_ending was_lived.life (Answered (length w.marks) answer))
    life_ended = life_of-end w.marks (length w.marks) before.mark answer was_lived.life was_lived.life_is was_unended

    -- another operation's life stays
    other_life : (m : ℕ) (x : Operation) → m ≢ number_of w i k → IsOperation w m x → LivesOn w (after marks) x
    other_life m x other is some =
        Stays-push w.marks (End (length w.marks) before.mark answer) x.mark
        (λ same. other_mark w.marked w.operations books.own (number_of w i k) m before x ended.operation_was is from other (sym same))

    -- the operation's life at its end
    own_life : LifeBooks (after marks) o
    own_life = record {
      life = with_ending was_lived.life (Answered (length w.marks) answer);
      life_is = ap (λ (m : ℕ). life_of marks m) ended.same.mark ∙ life_ended;
      begin = was_lived.begin ∙ sym ended.begin;
      brick = was_lived.brick ∙ sym at_brick;
      ask = was_lived.ask ∙ sym ended.same.ask;
      answered = λ is. answer_is (length w.marks) answer (sym answered ∙ is);
      answered_only = λ is. answered ∙ answer_was (length w.marks) answer is;
      open_call = λ is. absurd is;
      unclosed = closed ∙ was_lived.unclosed;
    }

    -- the end of one open operation keeps the books
    pub books_ended : Books setting (after marks)
    books_ended =
        let places = Places-push w.marks (End (length w.marks) before.mark answer) books.places refl in
        books_gone marks other_life (λ some. own_life) (λ none. absurd (let mark : o.mark ≡ before.mark = ended.same.mark in omega arith))
        (well_formed_end w.marks (length w.marks) before.mark answer books.well_formed places
        (subst (λ (l : Option Life). IsOpen l) (sym was_lived.life_is) was_unended))
        places
        (λ n life is. (let old = lived_before_end w.marks (length w.marks) before.mark n answer life is in books.lives n old.0 old.1))

  -- a read of a brick's own ends without
  module _ (cause : Option Cause) (none : before.mark ≡ 0) (closed : o.closed ≡ Some cause) (answered : o.answered ≡ not (is_some cause)) where
    closed_only : (z : Option Cause) → Some z ≡ Some None → not (is_some z) ≡ true
    closed_only None is = refl
    closed_only (Some why) is = absurd (let never : Some why ≡ None = same_Some (Some why) None is in cc)

    answered_none : (z : Option Cause) → not (is_some z) ≡ true → Some z ≡ Some None
    answered_none None is = refl
    answered_none (Some why) is = absurd (false≢true is)

    -- the end of an open read of a brick's own keeps the books
    pub books_closed : Books setting (after w.marks)
    books_closed =
        books_gone w.marks (λ m x other is. lives_same w (after w.marks) x refl)
        (λ some. absurd (let mark : o.mark ≡ before.mark = ended.same.mark in omega arith))
        (λ unmarked. record {
          op = ap (λ (a : Ask). a.op) ended.same.ask ∙ (own.unmarked none).op;
          answered = λ is. closed ∙ answered_none cause (sym answered ∙ is);
          answered_only = λ is. answered ∙ closed_only cause (sym closed ∙ is);
        })
        books.well_formed books.places books.lives

-- a brick stops
module _ (setting : Setting) (w : World) (brick : BrickId) (during : Option ℕ) (books : Books setting w) where
  abbrev i : ℕ
  i = brick.0

  -- the brick once it has stopped
  abbrev node : Node
  node = record {
    boot = (w.nodes i).boot;
    seq = (w.nodes i).seq;
    known = (w.nodes i).known;
    round = (w.nodes i).round;
    busy = 0;
    live = (w.nodes i).live;
    live_in = (w.nodes i).live_in;
    learnt = (w.nodes i).learnt;
    ballots = (w.nodes i).ballots;
    replicas = (w.nodes i).replicas;
    calls = no_calls;
    proposal = None;
    job = None;
    scrub = None;
  }

  -- the world once it has stopped
  abbrev shut : World
  shut = world_stopped setting w brick during

  -- bricks keep their numbers
  pub stopped_keeps : (j : ℕ) → KeepsNumbers (w.nodes j) (shut.nodes j)
  unfolding stopped
  stopped_keeps j = put_each (λ (x : ℕ) (y : Node). KeepsNumbers (w.nodes x) y) w.nodes i node
      (record { boot = refl; seq = omega arith; known = omega arith })
      (λ x other. keeps_all (w.nodes x)) j

  -- this brick has no call left, and others keep theirs
  pub stopped_calls : (k : ℕ) → (shut.nodes i).calls k ≡ None
  unfolding stopped
  stopped_calls k = ap (λ (x : Node). x.calls k) (put_same w.nodes i node)

  pub unstopped_calls : (j k : ℕ) → j ≢ i → (shut.nodes j).calls k ≡ (w.nodes j).calls k
  unfolding stopped
  unstopped_calls j k other = ap (λ (x : Node). x.calls k) (put_other w.nodes i node j other)

  -- nor has it a synchronisation or a scrub, and others keep theirs
  stopped_job : (shut.nodes i).job ≡ None
  unfolding stopped
  stopped_job = ap (λ (x : Node). x.job) (put_same w.nodes i node)

  unstopped_job : (j : ℕ) → j ≢ i → (shut.nodes j).job ≡ (w.nodes j).job
  unfolding stopped
  unstopped_job j other = ap (λ (x : Node). x.job) (put_other w.nodes i node j other)

  stopped_scrub : own_seq (shut.nodes i) ForScrub ≡ None
  unfolding stopped
  stopped_scrub = ap (λ (x : Node). own_seq x ForScrub) (put_same w.nodes i node)

  unstopped_scrub : (j : ℕ) → j ≢ i → own_seq (shut.nodes j) ForScrub ≡ own_seq (w.nodes j) ForScrub
  unfolding stopped
  unstopped_scrub j other = ap (λ (x : Node). own_seq x ForScrub) (put_other w.nodes i node j other)

  -- the life of an operation of another brick, or of one that is not open
  life_stays : (n : ℕ) (o : Operation) → OperationBooks setting w n o → (IsOpen (life_of w.marks o.mark) → o.brick.0 ≢ i) → LivesOn w shut o
  life_stays n o mine other from =
      let lived : LifeBooks w o = mine.lived from in
      Stays-crash w.marks (length w.marks) o.mark brick (λ life is open' at.
      let one : lived.life ≡ life = same_Some lived.life life (sym lived.life_is ∙ is) in
      other (subst (λ (l : Option Life). IsOpen l) (sym is) open') (sym lived.brick ∙ ap (λ (l : Life). l.brick) one ∙ sym at))

  -- an operation of another brick
  other_stays : (n : ℕ) (o : Operation) → OperationBooks setting w n o → o.brick.0 ≢ i → OperationBooks setting shut n o
  other_stays n o mine other =
      let seqs : (w.nodes o.brick.0).seq ≤ (shut.nodes o.brick.0).seq = (stopped_keeps o.brick.0).seq in
      operation_kept setting w shut n o mine (omega arith) refl (stopped_keeps o.brick.0).boot (omega arith) (life_stays n o mine (λ open'. other))
      (λ boot c call. (c, unstopped_calls o.brick.0 o.seq other ∙ call))

  -- an operation that is not open
  shut_stays : (n : ℕ) (o : Operation) → OperationBooks setting w n o → (1 ≤ o.mark → IsOpen (life_of w.marks o.mark) → ⊥) → OperationBooks setting shut n o
  shut_stays n o mine ended' =
      let seqs : (w.nodes o.brick.0).seq ≤ (shut.nodes o.brick.0).seq = (stopped_keeps o.brick.0).seq in
      let boots : (shut.nodes o.brick.0).boot ≡ (w.nodes o.brick.0).boot = (stopped_keeps o.brick.0).boot in
      operation_stays setting w shut n o mine (omega arith) refl (omega arith)
      (λ present. (let least : o.seq ≤ (w.nodes o.brick.0).seq = mine.called.1 (present ∙ boots) in omega arith))
      (λ from. life_stays n o mine (λ open'. absurd (ended' from open')) from)
      (λ from life is open'. absurd (ended' from (subst (λ (l : Option Life). IsOpen l) (sym is) open')))

  -- the life of an open operation of this brick is interrupted
  interrupted_life : (o : Operation) → (lived : LifeBooks w o) → o.brick.0 ≡ i → IsUnended lived.life.ending → LifeBooks shut o
  interrupted_life o lived at unended = record {
    life = with_ending lived.life (Interrupted (length w.marks));
    life_is = life_of-crash w.marks (length w.marks) o.mark brick lived.life lived.life_is unended (sym at ∙ sym lived.brick);
    begin = lived.begin;
    brick = lived.brick;
    ask = lived.ask;
    answered = λ is. absurd (unended_not_answered lived.life.ending unended (lived.answered is));
    answered_only = λ is. absurd is;
    open_call = λ is. absurd is;
    unclosed = lived.unclosed;
  }

  -- and so are its books
  interrupted_books : (n : ℕ) (o : Operation) (mine : OperationBooks setting w n o) → o.brick.0 ≡ i → (from : 1 ≤ o.mark)
      → IsUnended (mine.lived from).life.ending → OperationBooks setting shut n o
  interrupted_books n o mine at from unended =
      let seqs : (w.nodes o.brick.0).seq ≤ (shut.nodes o.brick.0).seq = (stopped_keeps o.brick.0).seq in
      let boots : (shut.nodes o.brick.0).boot ≡ (w.nodes o.brick.0).boot = (stopped_keeps o.brick.0).boot in
      record {
        from_one = mine.from_one;
        begun = mine.begun;
        number = mine.number;
        booted = (mine.booted.0, omega (arith, mine.booted.1));
        called = (mine.called.0, λ present. (let least : o.seq ≤ (w.nodes o.brick.0).seq = mine.called.1 (present ∙ boots) in omega arith));
        group = mine.group;
        group_is = mine.group_is;
        stripe = mine.stripe;
        readable = mine.readable;
        block_fits = mine.block_fits;
        length_fits = mine.length_fits;
        answered_version = mine.answered_version;
        lived = λ some. interrupted_life o (mine.lived from) at unended;
        unmarked = mine.unmarked;
      }

  -- an operation of this brick
  own_stays : (n : ℕ) (o : Operation) → OperationBooks setting w n o → o.brick.0 ≡ i → OperationBooks setting shut n o
  own_stays n o mine at = ⊎_elim
      (λ (from : 1 ≤ o.mark).
      let lived : LifeBooks w o = mine.lived from in
      ⊎_elim
      (λ (is : IsUnended lived.life.ending). interrupted_books n o mine at from is)
      (λ (isnt : IsUnended lived.life.ending → ⊥).
      shut_stays n o mine (λ some is. isnt (subst (λ (l : Option Life). IsOpen l) lived.life_is is)))
      (cases_open lived.life.ending))
      (λ (none : o.mark ≡ 0). shut_stays n o mine (λ some is. absurd (omega arith)))
      (cases_marked o)

  -- a call of another brick
  call_stays : (j k : ℕ) (c : Coordinator) → j ≢ i → IsCall shut j k c → CallBooks setting shut j k c
  call_stays j k c other is =
      let old : IsCall w j k c = sym (unstopped_calls j k other) ∙ is in
      let mine : CallBooks setting w j k c = books.calls j k c old in
      let theirs : OperationBooks setting w (number_of w j k) mine.operation = books.operations (number_of w j k) mine.operation mine.operation_is in
      call_kept setting w shut j k c old mine (put_other w.up i false j other) (stopped_keeps j).boot
      (ap (λ (b : ℕ). w.numbers j b k) (stopped_keeps j).boot)
      refl (stopped_keeps j).known
      (life_stays (number_of w j k) mine.operation theirs (λ open' at. other (sym mine.brick ∙ at)))
      (books.operations (number_of w j k)) (same_reads (w.nodes j) (shut.nodes j) (unstopped_job j other) (unstopped_scrub j other))

  -- a stop keeps the books
  pub books_stopped : Books setting shut
  books_stopped =
      let places = Places-push w.marks (Crash (length w.marks) brick) books.places refl in
      record {
        well_formed = well_formed_crash w.marks (length w.marks) brick books.well_formed places;
        places = places;
        own = books.own;
        boots = λ j up. ⊎_elim
            (λ (mine : j ≡ i). absurd (false≢true (sym (ap (λ (x : ℕ). put w.up i false x) mine ∙ put_same w.up i false) ∙ up)))
            (λ (other : j ≢ i).
            let e : (shut.nodes j).boot ≡ (w.nodes j).boot = (stopped_keeps j).boot in
            omega (arith, books.boots j (sym (put_other w.up i false j other) ∙ up)))
            (cases_eq j i);
        all_begun = books.all_begun;
        operations = λ n o is. ⊎_elim
            (λ (mine : o.brick.0 ≡ i). own_stays n o (books.operations n o is) mine)
            (λ (other : o.brick.0 ≢ i). other_stays n o (books.operations n o is) other)
            (cases_eq o.brick.0 i);
        calls = λ j k c is. ⊎_elim
            (λ (mine : j ≡ i).
            let none : (shut.nodes j).calls k ≡ None = ap (λ (x : ℕ). (shut.nodes x).calls k) mine ∙ stopped_calls k in
            absurd (let never : None ≡ Some c = sym none ∙ is in cc))
            (λ (other : j ≢ i). call_stays j k c other is)
            (cases_eq j i);
        fresh_calls = λ j k lt. ⊎_elim
            (λ (mine : j ≡ i). ap (λ (x : ℕ). (shut.nodes x).calls k) mine ∙ stopped_calls k)
            (λ (other : j ≢ i).
            let seqs : (w.nodes j).seq ≤ (shut.nodes j).seq = (stopped_keeps j).seq in
            unstopped_calls j k other ∙ books.fresh_calls j k (omega arith))
            (cases_eq j i);
        jobs = λ j job is. ⊎_elim
            (λ (mine : j ≡ i).
            let none : (shut.nodes j).job ≡ None = ap (λ (x : ℕ). (shut.nodes x).job) mine ∙ stopped_job in
            absurd (let never : None ≡ Some job = sym none ∙ is in cc))
            (λ (other : j ≢ i).
            job_kept w shut j job (books.jobs j job (sym (unstopped_job j other) ∙ is)) (stopped_keeps j).boot
            (ap (λ (b : ℕ). w.numbers j b job.seq) (stopped_keeps j).boot) (λ o at. (o, at, keeps_ask o)))
            (cases_eq j i);
        scrubs = λ j l is. ⊎_elim
            (λ (mine : j ≡ i).
            let none : own_seq (shut.nodes j) ForScrub ≡ None = ap (λ (x : ℕ). own_seq (shut.nodes x) ForScrub) mine ∙ stopped_scrub in
            absurd (let never : None ≡ Some l = sym none ∙ is in cc))
            (λ (other : j ≢ i).
            (own_kept w shut j l (books.scrubs j l (sym (unstopped_scrub j other) ∙ is)) (stopped_keeps j).boot
            (ap (λ (b : ℕ). w.numbers j b l) (stopped_keeps j).boot) (λ o at. (o, at, keeps_ask o))).0)
            (cases_eq j i);
        apart = λ j. ⊎_elim
            (λ (mine : j ≡ i) k reads scrubs.
            let none : own_seq (shut.nodes j) ForScrub ≡ None = ap (λ (x : ℕ). own_seq (shut.nodes x) ForScrub) mine ∙ stopped_scrub in
            let never : None ≡ Some k = sym none ∙ scrubs in let e : ⊥ = cc in e)
            (λ (other : j ≢ i). apart_kept (w.nodes j) (shut.nodes j) (unstopped_job j other) (unstopped_scrub j other) (books.apart j))
            (cases_eq j i);
        lives = λ n life is. (let old = lived_before_crash w.marks (length w.marks) n brick life is in books.lives n old.0 old.1);
      }
