-- The books of a world where an operation began, or a read of a synchronisation.
use Rattle.protocol_laws.proofs.StampViews.{begun_view, first_ahead}
use Rattle.protocol.specs.Views.{kept_by}
use Rattle.std.proofs.Common.{◌≡◌, ◌≢◌, ℕ, ◌+◌, ◌<◌, ◌≤◌, ⊎_elim, inl, inr, Bool, true, false, List, Option, Some, None, refl, sym, ap, ◌∙◌, subst, arith, [], ◌∷◌, ◌++◌, length, is_some, ◌⊎◌}
use Rattle.std.specs.Prelude.{slice_get}
use Rattle.std.proofs.lemmas.Option.{same_Some}
use Rattle.std.proofs.lemmas.Bool.{cases_eq, false≢true}
use Rattle.fab_base.specs.declared.identities.BrickId.{BrickId}
use Rattle.fab_base.specs.declared.member_lists.View.{View}
use Rattle.fab_base.specs.declared.stamps.Stamp.{Stamp}
use Rattle.fab_base.specs.declared.asks.Ask.{Ask}
use Rattle.fab_base.specs.declared.asks.Op.{Op}
use Rattle.fab_base.specs.declared.asks.Op.TheVariants.{ReadBlock, WriteBlock, ReadStripe, WriteStripe}
use Rattle.messages.specs.declared.packets.Packet.{Packet}
use Rattle.reg_model.specs.declared.marks.Mark.{Mark}
use Rattle.reg_model.specs.declared.marks.Mark.TheVariants.{Begin}
use Rattle.reg_model.specs.Marks.{Life, Unended, life_of, IsOpen, IsWellFormed, position_of}
use Rattle.fab_base.specs.Layouts.{Group, group_of}
use Rattle.protocol.specs.Settings.{Setting}
use Rattle.protocol.specs.Coordinators.{Coordinator, AreEnough}
use Rattle.protocol.specs.Jobs.{Job, job_ask}
use Rattle.protocol.specs.Nodes.{Node, put, has_length, first_phase, coordinator_in, new_coordinator, opened, began_in, phase_packets, reading, read_begun_by, top_at, has_block, begun_aside, scrubbing, scrub_coordinator}
use Rattle.protocol.specs.Worlds.{World, Choices, Operation, number_of, world_began, world_stepped, with_held, choices_after}
use Rattle.protocol_laws.specs.Marked.{AreOwnMarks}
use Rattle.protocol_laws.proofs.Books.{Books, IsReadable, OperationBooks, LifeBooks, CallBooks, JobBooks, IsOperation, IsCall, IsUnmade, MadeInPhase, InRound, Own, ForJob, ForScrub, own_seq, IsOwnCall, OwnBooks, AreApart}
use Rattle.protocol_laws.proofs.MarkNumbers.{own_more, own_unmarked}
use Rattle.protocol_laws.proofs.BooksKept.{KeepsRead, HasNoRead, LivesOn, lives_same, operation_kept, call_kept, cases_call, keeps_ask, job_kept, same_reads, own_kept, own_called, KeepsAsk, apart_kept, own_books}
use Rattle.reg_model.proofs.GrowingLives.{Stays, Stays-push, Stays-before, life_of-begin}
use Rattle.reg_model.proofs.AddedMarks.{Places-push, well_formed_begin, numbers_below}
use Rattle.protocol.proofs.Puts.{put_other}
use Rattle.protocol.proofs.Tables.{put_each, put_same}
use Rattle.protocol.specs.Scrubs.{scrub_ask}
use Rattle.fab_base.specs.declared.identities.GroupId.{GroupId}
use Rattle.fab_base.specs.declared.identities.StripeNo.{StripeNo}

-- a new operation has made nothing
fresh_made : (c : Coordinator) (o : Operation) (op : Op) → IsUnmade o → MadeInPhase c o (first_phase op)
fresh_made c o (ReadBlock j) none = none
fresh_made c o (WriteBlock j bytes) none = none
fresh_made c o ReadStripe none = none
fresh_made c o (WriteStripe bytes) none = none

-- and is in its first phase
fresh_round : (c : Coordinator) (op : Op) → c.call.phase ≡ 1 → c.round ≡ 1 → InRound c (first_phase op)
fresh_round c (ReadBlock j) phase round = (phase, round)
fresh_round c (WriteBlock j bytes) phase round = phase ∙ sym round
fresh_round c ReadStripe phase round = (phase, round)
fresh_round c (WriteStripe bytes) phase round = phase ∙ sym round

none_lives : (life : Option Life) → ((l : Life) → life ≡ Some l → ⊥) → life ≡ None
none_lives None never = refl
none_lives (Some l) never = absurd (never l refl)

-- the coordinator of a new operation, which counts these members alone
abbrev pub coordinator_of : Group → View → Option (List BrickId) → BrickId → ℕ → Node → Ask → Coordinator
coordinator_of group view only me now node ask = record (coordinator_in group view me now node ask) { only = only }

-- a brick has a new call of this coordinator, its last; each read of its own is the same, or was not open
pub record Opens (node later : Node) (c : Coordinator) : Type 0 where
  pub boot : later.boot ≡ node.boot
  pub seq : later.seq ≡ node.seq + 1
  pub known : later.known ≡ c.stamp.time
  pub calls : later.calls ≡ put node.calls (node.seq + 1) (Some c)
  pub reads : KeepsRead node later

-- the numbers of calls, with that of a brick's next
abbrev next_number : World → ℕ → ℕ → ℕ → ℕ → ℕ
next_number w i = put w.numbers i (put (w.numbers i) (w.nodes i).boot (put (w.numbers i (w.nodes i).boot) ((w.nodes i).seq + 1) (w.begun + 1)))

-- the world after a brick opened a call, of this operation, with these marks
abbrev pub opened_world : World → ℕ → Node → (ℕ → ℕ → ℕ → Stamp → Bool) → List Packet → List Mark → ℕ → Operation → Choices → World
opened_world w i later held packets marks marked o choices =
    record {
      nodes = put w.nodes i later;
      after = w.after;
      up = w.up;
      clocks = w.clocks;
      packets = packets;
      marks = marks;
      marked = marked;
      begun = w.begun + 1;
      operations = put w.operations (w.begun + 1) (Some o);
      numbers = next_number w i;
      choices = choices;
      past = w.past;
      contents = w.contents;
      held = held;
      replies = w.replies;
      reached = w.reached;
    }

-- an operation that begins, of these marks, in a view, with these floors
abbrev pub opened_operation : World → BrickId → Ask → View → ℕ → (ℕ → Stamp) → Operation
opened_operation w brick ask view mark floor =
    record {
      brick = brick;
      boot = (w.nodes brick.0).boot;
      seq = (w.nodes brick.0).seq + 1;
      begin = length w.marks;
      ask = ask;
      version = None;
      made = false;
      base = None;
      answered = false;
      mark = mark;
      closed = None;
      view = view.number.0;
      floor = floor;
    }

module _ (setting : Setting) (w : World) (brick : BrickId) (now : ℕ) (ask : Ask) (kept : Group) (view : View) (only : Option (List BrickId)) where
  abbrev i : ℕ
  i = brick.0

  -- the brick, its new call's number, its coordinator, and the operation's number
  abbrev node : Node
  node = w.nodes i

  abbrev k : ℕ
  k = node.seq + 1

  abbrev c : Coordinator
  c = coordinator_of kept view only brick now node ask

  abbrev n : ℕ
  n = w.begun + 1

  module _ (after : Node) (held : ℕ → ℕ → ℕ → Stamp → Bool) (packets : List Packet) (marks : List Mark) (marked mark : ℕ) (floor : ℕ → Stamp) (choices : Choices)
      (opens : Opens (w.nodes brick.0) after (coordinator_of kept view only brick now (w.nodes brick.0) ask)) where
    abbrev o : Operation
    o = opened_operation w brick ask view mark floor

    -- the world after the begin
    abbrev later : World
    later = opened_world w i after held packets marks marked o choices

    pub new_call : (later.nodes i).calls k ≡ Some c
    new_call = ap (λ (x : Node). x.calls k) (put_same w.nodes i after) ∙ ap (λ (f : ℕ → Option Coordinator). f k) opens.calls ∙ put_same node.calls k (Some c)

    pub old_calls : (j l : ℕ) → (j ≡ i → l ≡ k → ⊥) → (later.nodes j).calls l ≡ (w.nodes j).calls l
    old_calls j l other = put_each (λ (x : ℕ) (y : Node). (x ≡ i → l ≡ k → ⊥) → y.calls l ≡ (w.nodes x).calls l) w.nodes i after
        (λ apart. ap (λ (f : ℕ → Option Coordinator). f l) opens.calls ∙ put_other node.calls k (Some c) l (λ same. apart refl same)) (λ x at apart. refl) j other

    new_number : later.numbers i node.boot k ≡ n
    new_number = ap (λ (f : ℕ → ℕ → ℕ). f node.boot k) (put_same w.numbers i (put (w.numbers i) node.boot (put (w.numbers i node.boot) k n)))
        ∙ ap (λ (f : ℕ → ℕ). f k) (put_same (w.numbers i) node.boot (put (w.numbers i node.boot) k n)) ∙ put_same (w.numbers i node.boot) k n

    old_numbers : (j b l : ℕ) → (j ≡ i → b ≡ node.boot → l ≡ k → ⊥) → later.numbers j b l ≡ w.numbers j b l
    old_numbers j b l other = put_each (λ (x : ℕ) (f : ℕ → ℕ → ℕ). (x ≡ i → b ≡ node.boot → l ≡ k → ⊥) → f b l ≡ w.numbers x b l) w.numbers i
        (put (w.numbers i) node.boot (put (w.numbers i node.boot) k n))
        (λ apart. put_each (λ (y : ℕ) (f : ℕ → ℕ). (y ≡ node.boot → l ≡ k → ⊥) → f l ≡ w.numbers i y l) (w.numbers i) node.boot
        (put (w.numbers i node.boot) k n)
        (λ same. put_other (w.numbers i node.boot) k n l (λ seq. same refl seq)) (λ y at same. refl) b (apart refl))
        (λ x at apart. refl) j other

    -- no brick starts
    pub boots_stay : (j : ℕ) → (later.nodes j).boot ≡ (w.nodes j).boot
    boots_stay j = put_each (λ (x : ℕ) (y : Node). y.boot ≡ (w.nodes x).boot) w.nodes i after opens.boot (λ x at. refl) j

    -- the number of the new call, and of another
    pub new_at : number_of later i k ≡ n
    new_at = ap (λ (b : ℕ). later.numbers i b k) (boots_stay i) ∙ new_number

    pub old_at : (j l : ℕ) → (j ≡ i → l ≡ k → ⊥) → number_of later j l ≡ number_of w j l
    old_at j l other = ap (λ (b : ℕ). later.numbers j b l) (boots_stay j) ∙ old_numbers j (w.nodes j).boot l (λ at boot seq. other at seq)

    new_operation : later.operations n ≡ Some o
    new_operation = put_same w.operations n (Some o)

    pub old_operations : (m : ℕ) → m ≢ n → later.operations m ≡ w.operations m
    old_operations m other = put_other w.operations n (Some o) m other

    seqs : (j : ℕ) → (w.nodes j).seq ≤ (later.nodes j).seq
    seqs j = put_each (λ (x : ℕ) (y : Node). (w.nodes x).seq ≤ y.seq) w.nodes i after (let e : after.seq ≡ k = opens.seq in omega arith) (λ x at. omega arith) j

    pub times : (j : ℕ) → (w.nodes j).known ≤ (later.nodes j).known
    times j = put_each (λ (x : ℕ) (y : Node). (w.nodes x).known ≤ y.known) w.nodes i after
        (let e : after.known ≡ c.stamp.time = opens.known in omega arith) (λ x at. omega arith) j

    last_seq : (later.nodes i).seq ≡ k
    last_seq = ap (λ (x : Node). x.seq) (put_same w.nodes i after) ∙ opens.seq

    own_known : (later.nodes i).known ≡ c.stamp.time
    own_known = ap (λ (x : Node). x.known) (put_same w.nodes i after) ∙ opens.known

    reads_stay : (j : ℕ) → KeepsRead (w.nodes j) (later.nodes j)
    reads_stay j = put_each (λ (x : ℕ) (y : Node). KeepsRead (w.nodes x) y) w.nodes i after opens.reads (λ x at own. inl refl) j

    module _ (books : Books setting w) where
      -- an operation that was begun before is another
      old_apart : (m : ℕ) (x : Operation) → IsOperation w m x → m ≢ n
      old_apart m x is same = let high : m ≤ w.begun = (books.operations m x is).begun in absurd (omega arith)

      -- the number of a read of a brick's own stays
      old_own : (j l : ℕ) → OwnBooks w j l → number_of later j l ≡ number_of w j l
      old_own j l mine =
          let least : l ≤ (w.nodes j).seq = own_called setting w j l books mine in
          old_at j l (λ at seq. (let e : (w.nodes j).seq ≡ node.seq = ap (λ (x : ℕ). (w.nodes x).seq) at in omega arith))

      old_operation : (j l : ℕ) (x : Operation) → IsOperation w (number_of w j l) x
          → (p : Operation) × IsOperation later (number_of w j l) p × KeepsAsk x p
      old_operation j l x at = (x, old_operations (number_of w j l) (old_apart (number_of w j l) x at) ∙ at, keeps_ask x)

      -- the books of a synchronisation that a brick had, and of its scrub
      pub old_job : (j : ℕ) (job : Job) → (w.nodes j).job ≡ Some job → JobBooks later j job
      old_job j job is =
          let mine : JobBooks w j job = books.jobs j job is in
          job_kept w later j job mine (boots_stay j) (old_own j job.seq mine.own) (old_operation j job.seq)

      pub old_scrub : (j l : ℕ) → own_seq (w.nodes j) ForScrub ≡ Some l → OwnBooks later j l
      old_scrub j l is =
          let mine : OwnBooks w j l = books.scrubs j l is in
          (own_kept w later j l mine (boots_stay j) (old_own j l mine) (old_operation j l)).0

      -- those of the new one, where it has no marks
      pub new_own : mark ≡ 0 → (one : OwnBooks later i k) × (one.operation ≡ o)
      new_own none = (
        record {
          operation = o;
          operation_is = subst (λ (m : ℕ). IsOperation later m o) (sym new_at) new_operation;
          mark = none;
          brick = refl;
          boot = sym (boots_stay i);
          seq = refl;
        },
        refl,
      )

      module _ (group : Group) (block_fits : has_block group.m ask.op ≡ true) (group_is : group_of setting.layout ask.group.0 ≡ Some group)
          (stripes : kept.stripes ≡ group.stripes) (stripe : 1 ≤ mark → ask.stripe.0 < group.stripes) (readable : IsReadable group ask.stripe.0) (up : w.up brick.0 ≡ true) (fits : has_length group.m setting.layout.block ask.op ≡ true)
          (others : (m : ℕ) (x : Operation) → IsOperation w m x
          → LivesOn w (opened_world w brick.0 after held packets marks marked (opened_operation w brick ask view mark floor) choices) x)
          (lived : 1 ≤ mark → LifeBooks (opened_world w brick.0 after held packets marks marked (opened_operation w brick ask view mark floor) choices)
          (opened_operation w brick ask view mark floor))
          (unmarked : mark ≡ 0 → ask.op ≡ ReadStripe)
          (unended : 1 ≤ mark → (life : Life) → life_of marks mark ≡ Some life → IsOpen (Some life))
          (reads : mark ≡ 0 → IsOwnCall after ((w.nodes brick.0).seq + 1)) (enough : AreEnough kept only)
          (alone : is_some only ≡ true → own_seq after ForScrub ≡ Some ((w.nodes brick.0).seq + 1)) where
        -- the new operation's books
        its_books : OperationBooks setting later n o
        its_books = record {
          from_one = omega arith;
          begun = omega arith;
          number = new_number;
          booted = (books.boots i up, (let e : (later.nodes i).boot ≡ node.boot = boots_stay i in omega arith));
          called = (omega arith, λ present. (let e : (later.nodes i).seq ≡ k = last_seq in omega arith));
          group = group;
          group_is = group_is;
          stripe = stripe;
          readable = readable;
          block_fits = block_fits;
          length_fits = fits;
          answered_version = λ is. absurd (let never : false ≡ true = is in cc);
          lived = lived;
          unmarked = λ none. record {
            op = unmarked none;
            answered = λ is. absurd (let never : false ≡ true = is in cc);
            answered_only = λ is. absurd (let never : None ≡ Some None = is in cc);
          };
        }

        -- the new call's books
        call_books : CallBooks setting later i k c
        call_books = record {
          operation = o;
          operation_is = subst (λ (m : ℕ). IsOperation later m o) (sym new_at) new_operation;
          up = up;
          brick = refl;
          boot = sym (boots_stay i);
          seq = refl;
          ask = refl;
          stamp_brick = refl;
          stamp_view = refl;
          stamp_boot = sym (boots_stay i);
          stamp_known = (let e : (later.nodes i).known ≡ c.stamp.time = own_known in (omega arith, omega arith));
          call_boot = sym (boots_stay i);
          call_seq = refl;
          call_group = refl;
          call_view = begun_view c (first_ahead ask.op) refl;
          call_stripe = refl;
          stripes = λ own is. (let same : group ≡ own = same_Some group own (sym group_is ∙ is) in stripes ∙ ap (λ (g : Group). g.stripes) same);
          rounds = (omega arith, omega arith);
          in_round = fresh_round c ask.op refl refl;
          made = fresh_made c o ask.op (refl, refl, refl);
          unended = unended;
          unclosed = refl;
          unanswered = refl;
          reads = λ none. (let own = reads none in (own.0, ap (λ (x : Node). own_seq x own.0) (put_same w.nodes i after) ∙ own.1));
          enough = enough;
          alone = λ some. ap (λ (x : Node). own_seq x ForScrub) (put_same w.nodes i after) ∙ alone some;
        }

        -- the books of an operation that was begun before
        old_books : (m : ℕ) (x : Operation) → IsOperation w m x → OperationBooks setting later m x
        old_books m x is =
            let mine : OperationBooks setting w m x = books.operations m x is in
            let apart : x.brick.0 ≡ i → x.boot ≡ node.boot → x.seq ≡ k → ⊥ = λ at boot seq.
            (let e : (w.nodes x.brick.0).seq ≡ node.seq = ap (λ (j : ℕ). (w.nodes j).seq) at in
            let least : x.seq ≤ (w.nodes x.brick.0).seq = mine.called.1 (boot ∙ ap (λ (j : ℕ). (w.nodes j).boot) (sym at)) in
            omega arith) in
            operation_kept setting w later m x mine (omega arith) (old_numbers x.brick.0 x.boot x.seq apart) (boots_stay x.brick.0) (seqs x.brick.0)
            (others m x is)
            (λ present e was.
            (e, old_calls x.brick.0 x.seq (λ at seq. apart at (present ∙ ap (λ (j : ℕ). (w.nodes j).boot) at) seq) ∙ was))

        -- the books of a call that was open before
        old_call : (j l : ℕ) (e : Coordinator) → (j ≡ i → l ≡ k → ⊥) → IsCall w j l e → CallBooks setting later j l e
        old_call j l e other is =
            let mine : CallBooks setting w j l e = books.calls j l e is in
            call_kept setting w later j l e is mine refl (boots_stay j) (old_at j l other)
            (old_operations (number_of w j l) (old_apart (number_of w j l) mine.operation mine.operation_is)) (times j)
            (others (number_of w j l) mine.operation mine.operation_is) (books.operations (number_of w j l)) (reads_stay j)

        module _ (well_formed : IsWellFormed marks) (places : (j : ℕ) (one : Mark) → slice_get marks j ≡ Some one → position_of one ≡ j)
            (own : AreOwnMarks marked (put w.operations (w.begun + 1) (Some (opened_operation w brick ask view mark floor))))
            (jobs : (j : ℕ) (job : Job) → (put w.nodes brick.0 after j).job ≡ Some job
            → JobBooks (opened_world w brick.0 after held packets marks marked (opened_operation w brick ask view mark floor) choices) j job)
            (scrubs : (j l : ℕ) → own_seq (put w.nodes brick.0 after j) ForScrub ≡ Some l
            → OwnBooks (opened_world w brick.0 after held packets marks marked (opened_operation w brick ask view mark floor) choices) j l)
            (apart : (j : ℕ) → AreApart (put w.nodes brick.0 after j))
            (lives : (m : ℕ) (life : Life) → life_of marks m ≡ Some life → (1 ≤ m) × (m ≤ marked)) where
          -- a new operation keeps the books
          books_opened : Books setting later
          books_opened = record {
            well_formed = well_formed;
            places = places;
            own = own;
            boots = λ j is_up_now. (let e : (later.nodes j).boot ≡ (w.nodes j).boot = boots_stay j in omega (arith, books.boots j is_up_now));
            all_begun = λ m low high. ⊎_elim
                (λ (mine : m ≡ n). (o, subst (λ (x : ℕ). IsOperation later x o) (sym mine) new_operation))
                (λ (other : m ≢ n).
                let old : (x : Operation) × IsOperation w m x = books.all_begun m low (omega arith) in
                (old.0, old_operations m other ∙ old.1))
                (cases_eq m n);
            operations = λ m x is. ⊎_elim
                (λ (mine : m ≡ n).
                let one : o ≡ x = same_Some o x (sym new_operation ∙ ap later.operations (sym mine) ∙ is) in
                subst (λ (y : ℕ). OperationBooks setting later y x) (sym mine)
                (subst (λ (y : Operation). OperationBooks setting later n y) one its_books))
                (λ (other : m ≢ n). old_books m x (sym (old_operations m other) ∙ is))
                (cases_eq m n);
            calls = λ j l e is. ⊎_elim
                (λ (mine : (j ≡ i) × (l ≡ k)).
                let at : (later.nodes i).calls k ≡ Some e =
                subst (λ (x : ℕ). (later.nodes x).calls k ≡ Some e) mine.0 (subst (λ (y : ℕ). (later.nodes j).calls y ≡ Some e) mine.1 is) in
                let one : c ≡ e = same_Some c e (sym new_call ∙ at) in
                subst (λ (x : ℕ). CallBooks setting later x l e) (sym mine.0) (subst (λ (y : ℕ). CallBooks setting later i y e) (sym mine.1)
                (subst (λ (y : Coordinator). CallBooks setting later i k y) one call_books)))
                (λ (other : j ≡ i → l ≡ k → ⊥). old_call j l e other (sym (old_calls j l other) ∙ is))
                (cases_call i k j l);
            fresh_calls = λ j l lt.
                (let grown : (w.nodes j).seq ≤ (later.nodes j).seq = seqs j in
                let old : (w.nodes j).calls l ≡ None = books.fresh_calls j l (omega arith) in
                old_calls j l (λ at seq. (let e : (later.nodes j).seq ≡ k = ap (λ (x : ℕ). (later.nodes x).seq) at ∙ last_seq in omega arith)) ∙ old);
            jobs = jobs;
            scrubs = scrubs;
            apart = apart;
            lives = lives;
          }

-- an operation that has marks
module _ (setting : Setting) (w : World) (brick : BrickId) (now : ℕ) (ask : Ask) (group : Group) where
  abbrev members : Group
  members = kept_by ((w.nodes brick.0).learnt ask.group.0).view.members group

  abbrev its : Coordinator
  its = new_coordinator members brick now (w.nodes brick.0) ask

  -- the world after the begin
  abbrev begun : World
  begun = world_began w brick ask (began_in setting brick (w.nodes brick.0) its)

  abbrev ahead : List Packet
  ahead = w.packets ++ phase_packets setting brick its

  abbrev more : List Mark
  more = w.marks ++ (Begin (length w.marks) (w.marked + 1) brick ask ∷ [])

  abbrev floors : ℕ → Stamp
  floors = λ j. top_at (w.nodes j) ask.group.0 ask.stripe.0

  abbrev learnt_view : View
  learnt_view = ((w.nodes brick.0).learnt ask.group.0).view

  abbrev own_operation : Operation
  own_operation = opened_operation w brick ask learnt_view (w.marked + 1) floors

  begin_opens : Opens (w.nodes brick.0) (opened (w.nodes brick.0) its) its
  begin_opens = record { boot = refl; seq = refl; known = refl; calls = refl; reads = same_reads (w.nodes brick.0) (opened (w.nodes brick.0) its) refl refl }

  pub call_is : (begun.nodes brick.0).calls ((w.nodes brick.0).seq + 1) ≡ Some its
  call_is = new_call setting w brick now ask members learnt_view None (opened (w.nodes brick.0) its) w.held ahead more (w.marked + 1) (w.marked + 1) floors w.choices begin_opens

  pub other_calls : (j l : ℕ) → (j ≡ brick.0 → l ≡ (w.nodes brick.0).seq + 1 → ⊥) → (begun.nodes j).calls l ≡ (w.nodes j).calls l
  other_calls = old_calls setting w brick now ask members learnt_view None (opened (w.nodes brick.0) its) w.held ahead more (w.marked + 1) (w.marked + 1) floors w.choices begin_opens

  pub same_boots : (j : ℕ) → (begun.nodes j).boot ≡ (w.nodes j).boot
  same_boots = boots_stay setting w brick now ask members learnt_view None (opened (w.nodes brick.0) its) w.held ahead more (w.marked + 1) (w.marked + 1) floors w.choices begin_opens

  pub call_number : number_of begun brick.0 ((w.nodes brick.0).seq + 1) ≡ w.begun + 1
  call_number = new_at setting w brick now ask members learnt_view None (opened (w.nodes brick.0) its) w.held ahead more (w.marked + 1) (w.marked + 1) floors w.choices begin_opens

  pub other_number : (j l : ℕ) → (j ≡ brick.0 → l ≡ (w.nodes brick.0).seq + 1 → ⊥) → number_of begun j l ≡ number_of w j l
  other_number = old_at setting w brick now ask members learnt_view None (opened (w.nodes brick.0) its) w.held ahead more (w.marked + 1) (w.marked + 1) floors w.choices begin_opens

  pub other_operations : (m : ℕ) → m ≢ w.begun + 1 → begun.operations m ≡ w.operations m
  other_operations m other = put_other w.operations (w.begun + 1) (Some own_operation) m other

  pub knows : (j : ℕ) → (w.nodes j).known ≤ (begun.nodes j).known
  knows = times setting w brick now ask members learnt_view None (opened (w.nodes brick.0) its) w.held ahead more (w.marked + 1) (w.marked + 1) floors w.choices begin_opens

  -- a begin keeps the books
  module _ (books : Books setting w) (block_fits : has_block group.m ask.op ≡ true) (group_is : group_of setting.layout ask.group.0 ≡ Some group)
      (stripe : ask.stripe.0 < group.stripes) (up : w.up brick.0 ≡ true) (fits : has_length group.m setting.layout.block ask.op ≡ true) where
    unbegun : life_of w.marks (w.marked + 1) ≡ None
    unbegun =
        none_lives (life_of w.marks (w.marked + 1))
        (λ l is. (let bounds = books.lives (w.marked + 1) l is in let high : w.marked + 1 ≤ w.marked = bounds.1 in absurd (omega arith)))

    abbrev fresh_life : Life
    fresh_life = record { begin = length w.marks; brick = brick.0; ask = ask; ending = Unended (length w.marks + 1) }

    life_began : life_of more (w.marked + 1) ≡ Some fresh_life
    life_began = life_of-begin w.marks (length w.marks) (w.marked + 1) brick ask unbegun

    -- another life stays
    other_life : (m : ℕ) → m ≢ w.marked + 1 → Stays (life_of w.marks m) (life_of more m)
    other_life m other = Stays-push w.marks (Begin (length w.marks) (w.marked + 1) brick ask) m (λ same. other (sym same))

    old_lives : (m : ℕ) (x : Operation) → IsOperation w m x → LivesOn w begun x
    old_lives m x is some = other_life x.mark (λ same. (let high : x.mark ≤ w.marked = books.own.within m x is in omega arith))

    own_life : LifeBooks begun own_operation
    own_life = record {
      life = fresh_life;
      life_is = life_began;
      begin = refl;
      brick = refl;
      ask = refl;
      answered = λ is. absurd (let never : false ≡ true = is in cc);
      answered_only = λ is. absurd is;
      open_call = λ is. (sym (same_boots brick.0), (its, call_is));
      unclosed = refl;
    }

    places_begun : (j : ℕ) (one : Mark) → slice_get more j ≡ Some one → position_of one ≡ j
    places_begun = Places-push w.marks (Begin (length w.marks) (w.marked + 1) brick ask) books.places refl

    begun_jobs : (j : ℕ) (job : Job) → (begun.nodes j).job ≡ Some job → JobBooks begun j job
    begun_jobs j job is =
        old_job setting w brick now ask members learnt_view None (opened (w.nodes brick.0) its) w.held ahead more (w.marked + 1) (w.marked + 1) floors w.choices begin_opens books
        j job (put_each (λ (x : ℕ) (y : Node). y.job ≡ Some job → (w.nodes x).job ≡ Some job) w.nodes brick.0 (opened (w.nodes brick.0) its)
        (λ at. at) (λ x other at. at) j is)

    begun_scrubs : (j l : ℕ) → own_seq (begun.nodes j) ForScrub ≡ Some l → OwnBooks begun j l
    begun_scrubs j l is =
        old_scrub setting w brick now ask members learnt_view None (opened (w.nodes brick.0) its) w.held ahead more (w.marked + 1) (w.marked + 1) floors w.choices begin_opens books
        j l (put_each (λ (x : ℕ) (y : Node). own_seq y ForScrub ≡ Some l → own_seq (w.nodes x) ForScrub ≡ Some l) w.nodes brick.0 (opened (w.nodes brick.0) its)
        (λ at. at) (λ x other at. at) j is)

    pub books_began : Books setting begun
    books_began =
        books_opened setting w brick now ask members learnt_view None (opened (w.nodes brick.0) its) w.held ahead more (w.marked + 1) (w.marked + 1) floors w.choices begin_opens
        books group block_fits group_is refl (λ some. stripe) (inr stripe) up fits old_lives (λ some. own_life) (λ none. absurd (omega arith))
        (λ some life is.
        subst (λ (l : Life). IsOpen (Some l)) (same_Some fresh_life life (sym life_began ∙ is)) tt)
        (λ none. absurd (omega arith)) tt (λ some. absurd (false≢true some))
        (well_formed_begin w.marks (length w.marks) (w.marked + 1) brick ask books.well_formed places_begun
        (numbers_below w.marks w.marked (λ m life is. (books.lives m life is).1)))
        places_begun
        (own_more w.marked w.operations books.own w.begun (λ m x is. (books.operations m x is).begun) own_operation refl)
        begun_jobs begun_scrubs
        (put_each (λ (j : ℕ) (y : Node). AreApart y) w.nodes brick.0 (opened (w.nodes brick.0) its)
        (apart_kept (w.nodes brick.0) (opened (w.nodes brick.0) its) refl refl (books.apart brick.0)) (λ j other. books.apart j))
        (λ m life is. ⊎_elim
        (λ (mine : m ≡ w.marked + 1). (omega arith, omega arith))
        (λ (other : m ≢ w.marked + 1).
        let old : (l : Life) × (life_of w.marks m ≡ Some l) = Stays-before (life_of w.marks m) (life_of more m) life (other_life m other) is in
        let bounds = books.lives m old.0 old.1 in
        (bounds.0, omega (arith, bounds.1)))
        (cases_eq m (w.marked + 1)))

-- A read of the brick's own, which has none: it leaves the brick so, of whose own reads it is one.
module _ (setting : Setting) (w : World) (me : BrickId) (now : ℕ) (number : GroupId) (stripe : StripeNo) (kept group : Group) (view : View)
    (only : Option (List BrickId)) (later : Node) (own : Own) (books : Books setting w) (up : w.up me.0 ≡ true)
    (opens : Opens (w.nodes me.0) later (coordinator_of kept view only me now (w.nodes me.0) (scrub_ask number stripe)))
    (group_is : group_of setting.layout number.0 ≡ Some group) (stripes : kept.stripes ≡ group.stripes) (readable : IsReadable group stripe.0)
    (seq : own_seq later own ≡ Some ((w.nodes me.0).seq + 1)) (enough : AreEnough kept only)
    (alone : is_some only ≡ true → own_seq later ForScrub ≡ Some ((w.nodes me.0).seq + 1)) where
  abbrev reader : Coordinator
  reader = coordinator_of kept view only me now (w.nodes me.0) (scrub_ask number stripe)

  abbrev read_floors : ℕ → Stamp
  read_floors = λ j. top_at (put w.nodes me.0 later j) number.0 stripe.0

  abbrev read_packets : List Packet
  read_packets = w.packets ++ phase_packets setting me reader

  abbrev read_held : ℕ → ℕ → ℕ → Stamp → Bool
  read_held = with_held w.held me.0 later

  abbrev read_choices : Choices
  read_choices = choices_after w.choices me later []

  abbrev read_operation : Operation
  read_operation = opened_operation w me (scrub_ask number stripe) view 0 read_floors

  abbrev read_world : World
  read_world = world_stepped setting w me (begun_aside setting me later reader)

  -- the books of the new read
  new_one : (one : OwnBooks read_world me.0 ((w.nodes me.0).seq + 1)) × (one.operation ≡ read_operation)
  new_one =
      new_own setting w me now (scrub_ask number stripe) kept view only later read_held read_packets w.marks w.marked 0 read_floors read_choices opens books refl

  -- a read of the brick's own that begins keeps the books; the synchronisation and the scrub that the brick then has it had before, or the read is theirs
  pub books_aside : ((job : Job) → later.job ≡ Some job
      → ((w.nodes me.0).job ≡ Some job)
      ⊎ ((job.seq ≡ (w.nodes me.0).seq + 1) × (scrub_ask number stripe ≡ job_ask job) × (view.number.0 ≡ job.view.number.0)))
      → ((l : ℕ) → own_seq later ForScrub ≡ Some l → (own_seq (w.nodes me.0) ForScrub ≡ Some l) ⊎ (l ≡ (w.nodes me.0).seq + 1))
      → AreApart later → Books setting read_world
  books_aside jobs scrubs apart =
      books_opened setting w me now (scrub_ask number stripe) kept view only later read_held read_packets w.marks w.marked 0 read_floors read_choices opens
      books group refl group_is stripes (λ some. absurd (omega arith)) readable up refl (λ m x is. lives_same w read_world x refl) (λ some. absurd (omega arith)) (λ none. refl)
      (λ some. absurd (omega arith)) (λ none. (own, seq)) enough alone
      books.well_formed books.places
      (own_unmarked w.marked w.operations books.own w.begun (λ m x is. (books.operations m x is).begun) read_operation refl)
      (put_each (λ (j : ℕ) (y : Node). (job : Job) → y.job ≡ Some job → JobBooks read_world j job) w.nodes me.0 later
      (λ job is. ⊎_elim
      (λ (was : (w.nodes me.0).job ≡ Some job). old_jobs me.0 job was)
      (λ (new : (job.seq ≡ (w.nodes me.0).seq + 1) × (scrub_ask number stripe ≡ job_ask job) × (view.number.0 ≡ job.view.number.0)).
      let mine : (one : OwnBooks read_world me.0 job.seq) × (one.operation.ask ≡ scrub_ask number stripe) × (one.operation.view ≡ view.number.0)
      = subst (λ (l : ℕ). (one : OwnBooks read_world me.0 l) × (one.operation.ask ≡ scrub_ask number stripe) × (one.operation.view ≡ view.number.0)) (sym new.0)
      (new_one.0, ap (λ (o : Operation). o.ask) new_one.1, ap (λ (o : Operation). o.view) new_one.1) in
      record { own = mine.0; ask = mine.1 ∙ new.1; view = mine.2 ∙ new.2 })
      (jobs job is))
      (λ j other job is. old_jobs j job is))
      (put_each (λ (j : ℕ) (y : Node). (l : ℕ) → own_seq y ForScrub ≡ Some l → OwnBooks read_world j l) w.nodes me.0 later
      (λ l is. ⊎_elim
      (λ (was : own_seq (w.nodes me.0) ForScrub ≡ Some l). old_scrubs me.0 l was)
      (λ (new : l ≡ (w.nodes me.0).seq + 1). subst (λ (x : ℕ). OwnBooks read_world me.0 x) (sym new) new_one.0)
      (scrubs l is))
      (λ j other l is. old_scrubs j l is))
      (put_each (λ (j : ℕ) (y : Node). AreApart y) w.nodes me.0 later apart (λ j other. books.apart j))
      books.lives
    where
      old_jobs : (j : ℕ) (job : Job) → (w.nodes j).job ≡ Some job → JobBooks read_world j job
      old_jobs =
          old_job setting w me now (scrub_ask number stripe) kept view only later read_held read_packets w.marks w.marked 0 read_floors read_choices opens books

      old_scrubs : (j l : ℕ) → own_seq (w.nodes j) ForScrub ≡ Some l → OwnBooks read_world j l
      old_scrubs =
          old_scrub setting w me now (scrub_ask number stripe) kept view only later read_held read_packets w.marks w.marked 0 read_floors read_choices opens books

-- a brick that has begun to read for its synchronisation, which had no read open; it keeps its scrub
pub reading_opens : (node : Node) (job : Job) (c : Coordinator) → HasNoRead node ForJob → c.call.seq ≡ node.seq + 1 → Opens node (reading node job c) c
reading_opens node job c none seq = record {
  boot = refl;
  seq = seq;
  known = refl;
  calls = ap (λ (l : ℕ). put node.calls l (Some c)) seq;
  reads = by;
}
  where
    by : KeepsRead node (reading node job c)
    by ForJob = inr none
    by ForScrub = inl refl

-- one that has begun a scrub, and had none; it keeps its synchronisation
pub scrubbing_opens : (node : Node) (c : Coordinator) → HasNoRead node ForScrub → c.call.seq ≡ node.seq + 1 → Opens node (scrubbing node c) c
scrubbing_opens node c none seq = record {
  boot = refl;
  seq = seq;
  known = refl;
  calls = ap (λ (l : ℕ). put node.calls l (Some c)) seq;
  reads = by;
}
  where
    by : KeepsRead node (scrubbing node c)
    by ForJob = inl refl
    by ForScrub = inr none

module _ (setting : Setting) (w : World) (me : BrickId) (now : ℕ) (books : Books setting w) (up : w.up me.0 ≡ true) where
  -- a synchronisation's read that begins keeps the books
  pub books_read : (job : Job) (kept group : Group) → HasNoRead (w.nodes me.0) ForJob → group_of setting.layout job.group.0 ≡ Some group
      → kept.stripes ≡ group.stripes → IsReadable group job.attempt.stripe
      → Books setting (world_stepped setting w me (read_begun_by setting me (w.nodes me.0) job (coordinator_in kept job.view me now (w.nodes me.0) (job_ask job))))
  books_read job kept group ended group_is stripes readable =
      let c : Coordinator = coordinator_in kept job.view me now (w.nodes me.0) (job_ask job) in
      let next : Job = record job { seq = (w.nodes me.0).seq + 1 } in
      books_aside setting w me now job.group (record { 0 = job.attempt.stripe }) kept group job.view None (reading (w.nodes me.0) job c) ForJob books up
      (reading_opens (w.nodes me.0) job c ended refl) group_is stripes readable refl tt (λ some. absurd (false≢true some))
      (λ one is.
      let same : next ≡ one = same_Some next one is in
      inr (ap (λ (z : Job). z.seq) (sym same), ap (λ (z : Job). job_ask z) same, ap (λ (z : Job). z.view.number.0) same))
      (λ l is. inl is)
      (λ k reads scrubs.
      let last : (w.nodes me.0).seq + 1 ≡ k = same_Some ((w.nodes me.0).seq + 1) k reads in
      let most : k ≤ (w.nodes me.0).seq = own_called setting w me.0 k books (books.scrubs me.0 k scrubs) in
      omega (arith, last, most))

  -- so does a scrub that begins, of at least a quorum of the group
  pub books_scrub : (number : GroupId) (stripe : StripeNo) (members : List BrickId) (kept group : Group) → HasNoRead (w.nodes me.0) ForScrub
      → group_of setting.layout number.0 ≡ Some group → kept.stripes ≡ group.stripes → IsReadable group stripe.0 → AreEnough kept (Some members)
      → (let c = scrub_coordinator kept me now (w.nodes me.0) number stripe members in
      Books setting (world_stepped setting w me (begun_aside setting me (scrubbing (w.nodes me.0) c) c)))
  books_scrub number stripe members kept group ended group_is stripes readable enough =
      let c : Coordinator = scrub_coordinator kept me now (w.nodes me.0) number stripe members in
      books_aside setting w me now number stripe kept group ((w.nodes me.0).learnt number.0).view (Some members) (scrubbing (w.nodes me.0) c) ForScrub books up
      (scrubbing_opens (w.nodes me.0) c ended refl) group_is stripes readable refl enough (λ some. refl)
      (λ one is. inl is)
      (λ l is. inr (sym (same_Some ((w.nodes me.0).seq + 1) l is)))
      (λ k reads scrubs.
      let last : (w.nodes me.0).seq + 1 ≡ k = same_Some ((w.nodes me.0).seq + 1) k scrubs in
      let most : k ≤ (w.nodes me.0).seq = own_called setting w me.0 k books (own_books setting w books me.0 k ForJob reads) in
      omega (arith, last, most))
