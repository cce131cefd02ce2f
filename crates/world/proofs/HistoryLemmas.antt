-- What a history tells, step by step.
use Rattle.std.proofs.Common.{◌≡◌, ◌≢◌, ℕ, zero, suc, ◌+◌, ◌<◌, ◌≤◌, ◌-◌, ◌⊎◌, inl, inr, ⊎_elim, get_or, set, Bool, true, false, not, cond, nat_eq, List, [], ◌∷◌, ◌++◌, length, Option, Some, None, refl, sym, ap, ◌∙◌, subst, arith, add-one, length-append, append-nil, vec_len}
use Rattle.std.specs.Prelude.{slice_get, is_some, unwrap_or, if◌then◌else◌}
use Rattle.std.specs.Option.{option_map}
use Rattle.std.proofs.lemmas.Bool.{cond_both, eqb-true, eqb-false, ne_eqb, cases_eq, cases_lt}
use Rattle.std.specs.Vec.{with_items}
use Rattle.std.proofs.lemmas.List.{get_or_append_left, with_items_is}
use Rattle.std.proofs.lemmas.Option.{slice_get_past, slice_get-get_or}
use Rattle.fab_base.specs.declared.answers.Answer.{Answer}
use Rattle.fab_base.specs.declared.answers.Cause.{Cause}
use Rattle.fab_base.specs.declared.asks.Ask.{Ask}
use Rattle.fab_base.specs.declared.identities.BrickId.{BrickId}
use Rattle.fab_base.specs.declared.stamps.Stamp.{Stamp}
use Rattle.messages.specs.declared.calls.Call.{Call}
use Rattle.messages.specs.declared.packets.Packet.{Packet}
use Rattle.coord_phase.specs.Messages.{packets_from}
use Rattle.node.specs.Outcomes.{Outcome}
use Rattle.node.specs.declared.outs.Begun.{Begun}
use Rattle.reg_model.specs.declared.marks.Mark.{Mark}
use Rattle.reg_model.specs.declared.marks.Mark.TheVariants.{Begin, End, Crash}
use Rattle.protocol.specs.declared.tellings.Report.{Report}
use Rattle.protocol.specs.Nodes.{Node, NodeStep, put, view_at, top_at, stopped, restarted}
use Rattle.protocol.specs.Calms.{number_marked}
use Rattle.protocol.specs.declared.tellings.Answered.{Answered}
use Rattle.protocol.specs.declared.tellings.Told.{Told}
use Rattle.protocol.specs.declared.tellings.Told.TheVariants.{Made, Seen, Began, Closed}
use Rattle.protocol.specs.Settings.{Setting}
use Rattle.protocol.specs.Worlds.{World, Operation, Choices, Found, Before, After, number_of, with_number, with_call_number, mark_of, read_of_call, world_began, world_stepped, world_stopped, world_found, world_started, world_told, world_tells, world_answered, world_answers, reports_of, reached_during, with_made, with_seen, with_closed, with_answer, is_answer}
use Rattle.world.specs.declared.histories.History.{History}
use Rattle.world.specs.declared.histories.OperationRecord.{OperationRecord}
use Rattle.world.specs.CallNumbers.{AreCalls, calls_in, call_at}
use Rattle.world.specs.Shown.{TellsOperations, AreMarked, ChangesAt, TellsOperation, TellsAt, Tells, OpensAside, IsOfCall, AreAnswered, made_kept, seen_kept, ended_kept, mark_kept, mark_of_kept, record_at, number_at, seqs_of, reads_begun, calls_used}
use Rattle.world.specs.Noted.{IsSameHistory, NotesBegin, NotesRead, NotesCrash, ChangesCall, NotesEnd, NotesEnds, NotesProposal, calls_with, calls_aside, number_in}
use Rattle.world.specs.declared.call_numbers.CallNumbers.{CallNumbers}
use Rattle.world.proofs.KeptNumbers.{KeepsMarks, changed_record, known_changed, known_begun, mark_told, marked_changed, marked_unmarked, marked_next}
use Rattle.world.proofs.Places.{each_value, value_here, value_elsewhere, get_or_end, set_here, set_elsewhere}

-- room alone changes nothing that is told
pub tells_same : (seqs : ℕ → ℕ) (old new : History) (w : World) → IsSameHistory old new → TellsAt seqs old w → TellsAt seqs new w
tells_same seqs old new w same tells = record {
  packets = same.sent ∙ tells.packets;
  reached = λ k. same.reached k ∙ tells.reached k;
  marks = same.marks ∙ tells.marks;
  reports = same.reports ∙ tells.reports;
  begun = ap length same.operations ∙ tells.begun;
  marked = subst (λ (l : List ℕ). AreMarked l w) (sym same.marked) tells.marked;
  operations = subst (λ (kept : List OperationRecord). TellsOperations kept w.operations) (sym same.operations) tells.operations;
  calls = λ i. subst (λ (l : List ℕ). AreCalls (w.up i) l (number_of w i) (seqs i)) (sym (same.calls i)) (tells.calls i);
}

-- where nothing was sent after all
pub same_sent : (old new : History) → new ≡ record old { sent = new.sent } → new.sent.packets.items ≡ old.sent.packets.items → IsSameHistory old new
same_sent old new rest sent = record {
  sent = sent;
  reached = λ k. ap (λ (h : History). get_or h.delivered.reached.items k false) rest;
  marks = ap (λ (h : History). h.marks.items) rest;
  reports = ap (λ (h : History). h.reports.items) rest;
  operations = ap (λ (h : History). h.operations.items) rest;
  marked = ap (λ (h : History). h.marked.items) rest;
  calls = λ i. ap (λ (h : History). calls_in h.calls i) rest;
}

-- where nothing was written at all
pub same_all : (history : History) → IsSameHistory history history
same_all history = record { sent = refl; reached = λ k. refl; marks = refl; reports = refl; operations = refl; marked = refl; calls = λ i. refl }

-- and so from one to the next
pub same_then : (old mid new : History) → IsSameHistory old mid → IsSameHistory mid new → IsSameHistory old new
same_then old mid new first second = record {
  sent = second.sent ∙ first.sent;
  reached = λ k. second.reached k ∙ first.reached k;
  marks = second.marks ∙ first.marks;
  reports = second.reports ∙ first.reports;
  operations = second.operations ∙ first.operations;
  marked = second.marked ∙ first.marked;
  calls = λ i. second.calls i ∙ first.calls i;
}

-- it tells of as many calls
pub tells_counted : (seqs others : ℕ → ℕ) (history : History) (w : World) → ((i : ℕ) → others i ≡ seqs i) → TellsAt seqs history w → TellsAt others history w
tells_counted seqs others history w same tells = record {
  packets = tells.packets;
  reached = tells.reached;
  marks = tells.marks;
  reports = tells.reports;
  begun = tells.begun;
  marked = tells.marked;
  operations = tells.operations;
  calls = λ i. subst (λ (k : ℕ). AreCalls (w.up i) (calls_in history.calls i) (number_of w i) k) (sym (same i)) (tells.calls i);
}

-- the calls so far of each brick in one world, where it has made so many, are those in another, of the same operations
abbrev pub KeepsCalls : (ℕ → ℕ) → World → (ℕ → ℕ) → World → Type 0
KeepsCalls seqs w others v =
    (i : ℕ) (calls : List ℕ) → AreCalls (w.up i) calls (number_of w i) (seqs i) → AreCalls (v.up i) calls (number_of v i) (others i)

-- so where the boots, the counts of calls and the numbers stay, and the same bricks are up
pub calls_same : (seqs : ℕ → ℕ) (w : World) (others : ℕ → ℕ) (v : World) → v.up ≡ w.up → ((i : ℕ) → (v.nodes i).boot ≡ (w.nodes i).boot)
    → ((i : ℕ) → others i ≡ seqs i) → v.numbers ≡ w.numbers → KeepsCalls seqs w others v
calls_same seqs w others v up boots counts numbers i calls are =
    by_up (w.up i) (v.up i) (ap (λ (f : ℕ → Bool). f i) up) are
  where
    by_up : (x y : Bool) → y ≡ x → AreCalls x calls (number_of w i) (seqs i) → AreCalls y calls (number_of v i) (others i)
    by_up true true same are = (
      are.0 ∙ sym (counts i),
      λ k less.
          (let within : k < seqs i = (let count = counts i in omega (arith, less, count)) in
          are.1 k within ∙ sym (ap (λ (n : ℕ → ℕ → ℕ → ℕ). n i (v.nodes i).boot (k + 1)) numbers ∙ ap (λ b. w.numbers i b (k + 1)) (boots i))),
    )
    by_up false false same are = are
    by_up true false same are = absurd (let never : false ≡ true = same in cc)
    by_up false true same are = absurd (let never : true ≡ false = same in cc)

-- the operations have the same numbers by their marks
pub marked_same : (numbers : List ℕ) (w v : World) → v.marked ≡ w.marked → v.begun ≡ w.begun → v.operations ≡ w.operations → AreMarked numbers w → AreMarked numbers v
marked_same numbers w v marked begun operations are = record {
  count = are.count ∙ sym marked;
  each = λ mark. are.each mark ∙ ap (λ (n : ℕ). number_marked w.operations mark n) (sym begun)
      ∙ ap (λ (f : ℕ → Option Operation). number_marked f mark v.begun) (sym operations);
}

-- a world that differs in what no history tells
pub tells_other : (seqs : ℕ → ℕ) (history : History) (w : World) (others : ℕ → ℕ) (v : World) → v.packets ≡ w.packets → v.reached ≡ w.reached
    → v.marks ≡ w.marks → v.marked ≡ w.marked → v.choices.reports ≡ w.choices.reports → v.begun ≡ w.begun → v.operations ≡ w.operations
    → KeepsCalls seqs w others v → TellsAt seqs history w → TellsAt others history v
tells_other seqs history w others v packets reached marks marked reports begun operations calls tells = record {
  packets = tells.packets ∙ sym packets;
  reached = λ k. tells.reached k ∙ ap (λ (f : ℕ → Bool). f (k + 1)) (sym reached);
  marks = tells.marks ∙ sym marks;
  reports = tells.reports ∙ sym reports;
  begun = tells.begun ∙ sym begun;
  marked = marked_same history.marked.items w v marked begun operations tells.marked;
  operations = subst (λ (o : ℕ → Option Operation). TellsOperations history.operations.items o) (sym operations) tells.operations;
  calls = λ i. calls i (calls_in history.calls i) (tells.calls i);
}

-- a message was delivered
pub tells_delivered : (seqs : ℕ → ℕ) (old new : History) (w : World) (number : ℕ) → new ≡ record old { delivered = new.delivered }
    → ((k : ℕ) → get_or new.delivered.reached.items k false ≡ (if nat_eq (k + 1) number then true else get_or old.delivered.reached.items k false))
    → TellsAt seqs old w → TellsAt seqs new (record w { reached = put w.reached number true })
tells_delivered seqs old new w number rest reached tells =
    subst (λ (h : History). TellsAt seqs h (record w { reached = put w.reached number true })) (sym rest) (record {
      packets = tells.packets;
      reached = λ k. reached k ∙ ap (λ (b : Bool). if nat_eq (k + 1) number then true else b) (tells.reached k);
      marks = tells.marks;
      reports = tells.reports;
      begun = tells.begun;
      marked = record { count = tells.marked.count; each = tells.marked.each };
      operations = tells.operations;
      calls = tells.calls;
    })

-- something was sent
pub tells_sent : (seqs : ℕ → ℕ) (old new : History) (w : World) (more : List Packet) → new ≡ record old { sent = new.sent }
    → new.sent.packets.items ≡ old.sent.packets.items ++ more → TellsAt seqs old w → TellsAt seqs new (record w { packets = w.packets ++ more })
tells_sent seqs old new w more rest sent tells =
    subst (λ (h : History). TellsAt seqs h (record w { packets = w.packets ++ more })) (sym rest) (record {
      packets = sent ∙ ap (λ (xs : List Packet). xs ++ more) tells.packets;
      reached = tells.reached;
      marks = tells.marks;
      reports = tells.reports;
      begun = tells.begun;
      marked = record { count = tells.marked.count; each = tells.marked.each };
      operations = tells.operations;
      calls = tells.calls;
    })

-- what is sent and then reported changes only that
pub spoken : (old mid new : History) → mid ≡ record old { sent = mid.sent } → new ≡ record mid { reports = new.reports }
    → new ≡ record old { sent = new.sent; reports = new.reports }
spoken old mid new sends reports =
    reports ∙ ap (λ (h : History). record h { reports = new.reports }) sends
    ∙ ap (λ (h : History). record old { sent = h.sent; reports = new.reports }) (sym reports)

-- so after a call was counted
pub spoken_aside : (old counted mid new : History) → counted ≡ record old { calls = counted.calls } → mid ≡ record counted { sent = mid.sent }
    → new ≡ record mid { reports = new.reports } → new ≡ record old { sent = new.sent; reports = new.reports; calls = new.calls }
spoken_aside old counted mid new counts sends reports =
    let all = spoken counted mid new sends reports in
    all ∙ ap (λ (h : History). record h { sent = new.sent; reports = new.reports }) counts
    ∙ ap (λ (h : History). record old { sent = new.sent; reports = new.reports; calls = h.calls }) (sym all)

-- something was sent, and reported
pub tells_spoken : (seqs : ℕ → ℕ) (old new : History) (w : World) (packets : List Packet) (reports : List (BrickId × Report))
    → new ≡ record old { sent = new.sent; reports = new.reports } → new.sent.packets.items ≡ old.sent.packets.items ++ packets
    → new.reports.items ≡ old.reports.items ++ reports → TellsAt seqs old w
    → TellsAt seqs new (record w { packets = w.packets ++ packets; choices = record w.choices { reports = w.choices.reports ++ reports } })
tells_spoken seqs old new w packets reports rest sent told tells =
    let v : World = record w { packets = w.packets ++ packets; choices = record w.choices { reports = w.choices.reports ++ reports } } in
    subst (λ (h : History). TellsAt seqs h v) (sym rest) (record {
      packets = sent ∙ ap (λ (xs : List Packet). xs ++ packets) tells.packets;
      reached = tells.reached;
      marks = tells.marks;
      reports = told ∙ ap (λ (xs : List (BrickId × Report)). xs ++ reports) tells.reports;
      begun = tells.begun;
      marked = record { count = tells.marked.count; each = tells.marked.each };
      operations = tells.operations;
      calls = tells.calls;
    })

-- a brick's step leaves all boots
pub boots_stay : (w : World) (brick : BrickId) (node : Node) → node.boot ≡ (w.nodes brick.0).boot → (i : ℕ) → (put w.nodes brick.0 node i).boot ≡
    (w.nodes i).boot
boots_stay w brick node same = each_value (λ i x. x.boot ≡ (w.nodes i).boot) w.nodes brick.0 node same (λ i other. refl)

-- A change of what is kept of an operation is this one of the machine's, which leaves the number of its marks.
pub record IsAlike (change : OperationRecord → OperationRecord) (next : Option Operation → Option Operation) : Type 0 where
  pub none : next None ≡ None
  pub some : (known : OperationRecord) (o : Operation) → TellsOperation known o
      → (p : Operation) × (next (Some o) ≡ Some p) × TellsOperation (change known) p
  pub marks : KeepsMarks next

-- an operation that made a version
pub made_alike : (stamp : Stamp) (base : Option Stamp) → IsAlike (made_kept stamp base) (with_made stamp base)
made_alike stamp base = record {
  none = refl;
  some = λ known o is. (_, refl, record { brick = is.brick; boot = is.boot; seq = is.seq; begin = is.begin; group = is.group; stripe = is.stripe; version = refl; made = refl; base = refl; writes = is.writes; answered = is.answered; mark = is.mark });
  marks = λ mark. elim [ None ↦ refl | Some o ↦ refl ];
}

-- an operation that read a version at once
pub seen_alike : (stamp : Stamp) → IsAlike (seen_kept stamp) (with_seen stamp)
seen_alike stamp = record {
  none = refl;
  some = λ known o is. (_, refl, record { brick = is.brick; boot = is.boot; seq = is.seq; begin = is.begin; group = is.group; stripe = is.stripe; version = refl; made = is.made; base = is.base; writes = is.writes; answered = is.answered; mark = is.mark });
  marks = λ mark. elim [ None ↦ refl | Some o ↦ refl ];
}

-- an operation that ended
pub ended_alike : (answer : Answer) → IsAlike (ended_kept (is_answer answer)) (with_answer answer)
ended_alike answer = record {
  none = refl;
  some = λ known o is. (_, refl, record { brick = is.brick; boot = is.boot; seq = is.seq; begin = is.begin; group = is.group; stripe = is.stripe; version = is.version; made = is.made; base = is.base; writes = is.writes; answered = refl; mark = is.mark });
  marks = λ mark. elim [ None ↦ refl | Some o ↦ refl ];
}

-- an operation without marks that ended
pub closed_alike : (cause : Option Cause) → IsAlike (ended_kept (not (is_some cause))) (with_closed cause)
closed_alike cause = record {
  none = refl;
  some = λ known o is. (_, refl, record { brick = is.brick; boot = is.boot; seq = is.seq; begin = is.begin; group = is.group; stripe = is.stripe; version = is.version; made = is.made; base = is.base; writes = is.writes; answered = refl; mark = is.mark });
  marks = λ mark. elim [ None ↦ refl | Some o ↦ refl ];
}

-- a brick that stops stays at its boot and its calls so far; one that starts again has none
stopped_boot : (node : Node) → (stopped node).boot ≡ node.boot
unfolding stopped
stopped_boot node = refl

restarted_seq : (openings : ℕ) (node : Node) → (restarted openings node).seq ≡ 0
unfolding restarted
restarted_seq openings node = refl

-- one operation changed, and some marks came
pub tells_changed : (seqs : ℕ → ℕ) (old new : History) (w : World) (number : ℕ) (change : OperationRecord → OperationRecord)
    (next : Option Operation → Option Operation) → IsAlike change next → TellsAt seqs old w
    → ChangesAt old.operations.items new.operations.items number change → vec_len new.operations ≡ vec_len old.operations
    → new ≡ record old { operations = new.operations; marks = new.marks }
    → (marks : List Mark) → new.marks.items ≡ marks
    → TellsAt seqs new (record w { marks = marks; operations = put w.operations number (next (w.operations number)) })
tells_changed seqs old new w number change next alike tells changed count rest marks marked =
    subst (λ (h : History). TellsAt seqs h (record w { marks = marks; operations = put w.operations number (next (w.operations number)) })) (sym rest) (record {
      packets = tells.packets;
      reached = tells.reached;
      marks = marked;
      reports = tells.reports;
      begun = sym new.operations.ok.0 ∙ count ∙ old.operations.ok.0 ∙ tells.begun;
      marked = record {
        count = tells.marked.count;
        each = λ mark. tells.marked.each mark ∙ sym (marked_changed w.operations number next alike.marks mark w.begun);
      };
      operations = known_changed old.operations.items new.operations.items w.operations number change next alike.none alike.some changed tells.operations;
      calls = tells.calls;
    })

-- the calls of one brick with one more, of this operation or of none
call_more : (calls : List ℕ) (was now : ℕ → ℕ) (seq number : ℕ) → AreCalls true calls was seq → ((k : ℕ) → k < seq → now (k + 1) ≡ was (k + 1))
    → now (seq + 1) ≡ number → AreCalls true (calls ++ number ∷ []) now (seq + 1)
call_more calls was now seq number are same last = (
  length-append calls (number ∷ []) ∙ ap (λ (n : ℕ). n + 1) are.0,
  λ k less. at k less (cases_lt k seq),
)
  where
    at : (k : ℕ) → k < seq + 1 → (k < seq) ⊎ (seq ≤ k) → get_or (calls ++ number ∷ []) k 0 ≡ now (k + 1)
    at k less (inl within) = get_or_append_left calls (number ∷ []) 0 k (omega (arith, within, are.0)) ∙ are.1 k within ∙ sym (same k within)
    at k less (inr past) =
        let here : k ≡ length calls = omega (arith, less, past, are.0) in
        let own : k + 1 ≡ seq + 1 = omega (arith, less, past) in
        ap (λ j. get_or (calls ++ number ∷ []) j 0) here ∙ get_or_end calls number 0 ∙ sym last ∙ ap now (sym own)

-- the calls of each brick, where one makes its next, and that has this number, or none and it had none
pub calls_grow : (w : World) (v : World) (seqs : ℕ → ℕ) (calls : ℕ → List ℕ) (b number : ℕ) → w.up b ≡ true → v.up ≡ w.up
    → ((i : ℕ) → i ≢ b → (k : ℕ) → number_of v i k ≡ number_of w i k) → ((k : ℕ) → k < seqs b → number_of v b (k + 1) ≡ number_of w b (k + 1))
    → number_of v b (seqs b + 1) ≡ number → ((i : ℕ) → AreCalls (w.up i) (calls i) (number_of w i) (seqs i))
    → (i : ℕ) → AreCalls (v.up i) (put calls b (calls b ++ number ∷ []) i) (number_of v i) (put seqs b (seqs b + 1) i)
calls_grow w v seqs calls b number up ups others older last are i = by_brick (cases_eq i b)
  where
    mine : AreCalls true (calls b ++ number ∷ []) (number_of v b) (seqs b + 1)
    mine = call_more (calls b) (number_of w b) (number_of v b) (seqs b) number
        (subst (λ (x : Bool). AreCalls x (calls b) (number_of w b) (seqs b)) up (are b)) older last

    not_mine : (x : Bool) → i ≢ b → AreCalls x (calls i) (number_of w i) (seqs i) → AreCalls x (calls i) (number_of v i) (seqs i)
    not_mine true other its = (its.0, λ k less. its.1 k less ∙ sym (others i other (k + 1)))
    not_mine false other its = its

    by_brick : (i ≡ b) ⊎ (i ≢ b) → AreCalls (v.up i) (put calls b (calls b ++ number ∷ []) i) (number_of v i) (put seqs b (seqs b + 1) i)
    by_brick = ⊎_elim
        (λ (here : i ≡ b).
        subst (λ (x : Bool). AreCalls x (put calls b (calls b ++ number ∷ []) i) (number_of v i) (put seqs b (seqs b + 1) i))
        (sym (ap (λ (f : ℕ → Bool). f i) ups ∙ ap w.up here ∙ up))
        (subst (λ (l : List ℕ). AreCalls true l (number_of v i) (put seqs b (seqs b + 1) i)) (sym (value_here calls b i (calls b ++ number ∷ []) here))
        (subst (λ (n : ℕ). AreCalls true (calls b ++ number ∷ []) (number_of v i) n) (sym (value_here seqs b i (seqs b + 1) here))
        (subst (λ (j : ℕ). AreCalls true (calls b ++ number ∷ []) (number_of v j) (seqs b + 1)) (sym here) mine))))
        (λ (there : i ≢ b).
        subst (λ (x : Bool). AreCalls x (put calls b (calls b ++ number ∷ []) i) (number_of v i) (put seqs b (seqs b + 1) i))
        (sym (ap (λ (f : ℕ → Bool). f i) ups))
        (subst (λ (l : List ℕ). AreCalls (w.up i) l (number_of v i) (put seqs b (seqs b + 1) i)) (sym (value_elsewhere calls b i (calls b ++ number ∷ []) there))
        (subst (λ (n : ℕ). AreCalls (w.up i) (calls i) (number_of v i) n) (sym (value_elsewhere seqs b i (seqs b + 1) there))
        (not_mine (w.up i) there (are i)))))

-- numbers of calls with one more
number_new : (numbers : ℕ → ℕ → ℕ → ℕ) (i boot seq number : ℕ) → put numbers i (put (numbers i) boot (put (numbers i boot) seq number)) i boot seq ≡ number
number_new numbers i boot seq number =
    ap (λ (f : ℕ → ℕ → ℕ). f boot seq) (value_here numbers i i (put (numbers i) boot (put (numbers i boot) seq number)) refl)
    ∙ ap (λ (f : ℕ → ℕ). f seq) (value_here (numbers i) boot boot (put (numbers i boot) seq number) refl)
    ∙ value_here (numbers i boot) seq seq number refl

number_old : (numbers : ℕ → ℕ → ℕ → ℕ) (i boot seq number k : ℕ) → k ≢ seq
    → put numbers i (put (numbers i) boot (put (numbers i boot) seq number)) i boot k ≡ numbers i boot k
number_old numbers i boot seq number k other =
    ap (λ (f : ℕ → ℕ → ℕ). f boot k) (value_here numbers i i (put (numbers i) boot (put (numbers i boot) seq number)) refl)
    ∙ ap (λ (f : ℕ → ℕ). f k) (value_here (numbers i) boot boot (put (numbers i boot) seq number) refl)
    ∙ value_elsewhere (numbers i boot) seq k number other

-- an operation that began
pub tells_began : (old new : History) (w : World) (brick : BrickId) (boot : ℕ) (ask : Ask) (begun : Begun) (step : NodeStep) → Tells old w
    → w.up brick.0 ≡ true → packets_from brick begun.messages.items ≡ step.packets → boot ≡ step.node.boot → begun.seq ≡ step.node.seq
    → step.node.boot ≡ (w.nodes brick.0).boot → step.node.seq ≡ (w.nodes brick.0).seq + 1
    → NotesBegin old new brick boot ask begun → Tells new (world_began w brick ask step)
tells_began old new w brick opened ask begun step tells up packets_is boot_is seq_is boot next notes = record {
  packets = notes.sent ∙ ap (λ xs. xs ++ packets_from brick begun.messages.items) tells.packets ∙ ap (λ xs. w.packets ++ xs) packets_is;
  reached = λ k. ap (λ (h : History). get_or h.delivered.reached.items k false) notes.rest ∙ tells.reached k;
  marks = notes.marks ∙ ap (λ (xs : List Mark). xs ++ Begin (length xs) (length old.marked.items + 1) brick ask ∷ []) tells.marks
      ∙ ap (λ n. w.marks ++ Begin (length w.marks) (n + 1) brick ask ∷ []) tells.marked.count;
  reports = ap (λ (h : History). h.reports.items) notes.rest ∙ tells.reports;
  begun = ap length notes.operations ∙ length-append old.operations.items _ ∙ ap (λ n. n + 1) tells.begun;
  marked = record {
    count = ap length notes.marked ∙ length-append old.marked.items _ ∙ ap (λ n. n + 1) tells.marked.count;
    each = λ mark. ap (λ (l : List ℕ). number_at l mark) notes.marked
        ∙ marked_next old.marked.items w.operations w.begun (length old.operations.items + 1) began (ap (λ n. n + 1) (sym tells.marked.count))
        (ap (λ n. n + 1) tells.begun) tells.marked.each mark;
  };
  operations = subst (λ (kept : List OperationRecord). TellsOperations kept v.operations) (sym notes.operations)
      (known_begun old.operations.items w.operations w.begun _ began tells.begun
      (record {
        brick = refl;
        boot = boot_is;
        seq = seq_is;
        begin = ap length tells.marks;
        group = refl;
        stripe = refl;
        version = refl;
        made = refl;
        base = refl;
        writes = refl;
        answered = refl;
        mark = ap (λ n. n + 1) tells.marked.count;
      }) tells.operations);
  calls = λ i.
      subst (λ (n : ℕ). AreCalls (v.up i) (calls_in new.calls i) (number_of v i) n) (sym (seq_of i))
      (subst (λ (l : List ℕ). AreCalls (v.up i) l (number_of v i) (put (seqs_of w) brick.0 ((w.nodes brick.0).seq + 1) i))
      (sym (notes.calls i ∙ ap (λ n. calls_with old.calls brick.0 (n + 1) i) tells.begun))
      (calls_grow w v (seqs_of w) (calls_in old.calls) brick.0 (w.begun + 1) up refl others older last tells.calls i));
}
  where
    v : World
    v = world_began w brick ask step

    began : Operation
    began = record {
      brick = brick;
      boot = step.node.boot;
      seq = step.node.seq;
      begin = length w.marks;
      ask = ask;
      version = None;
      made = false;
      base = None;
      answered = false;
      mark = w.marked + 1;
      closed = None;
      view = view_at (w.nodes brick.0) ask.group.0;
      floor = λ i. top_at (w.nodes i) ask.group.0 ask.stripe.0;
    }

    seq_of : (i : ℕ) → (put w.nodes brick.0 step.node i).seq ≡ put (seqs_of w) brick.0 ((w.nodes brick.0).seq + 1) i
    seq_of i = by_brick (nat_eq i brick.0)
      where
        by_brick : (b : Bool) → (cond b step.node (w.nodes i)).seq ≡ cond b ((w.nodes brick.0).seq + 1) (w.nodes i).seq
        by_brick true = next
        by_brick false = refl

    at_brick : (k : ℕ) → number_of v brick.0 k ≡ with_number w.numbers brick.0 step.node (w.begun + 1) brick.0 step.node.boot k
    at_brick k =
        ap (λ (n : Node). with_number w.numbers brick.0 step.node (w.begun + 1) brick.0 n.boot k) (value_here w.nodes brick.0 brick.0 step.node refl)

    others : (i : ℕ) → i ≢ brick.0 → (k : ℕ) → number_of v i k ≡ number_of w i k
    others i other k =
        ap (λ (n : Node). with_number w.numbers brick.0 step.node (w.begun + 1) i n.boot k) (value_elsewhere w.nodes brick.0 i step.node other)
        ∙ ap (λ (f : ℕ → ℕ → ℕ). f (w.nodes i).boot k) (value_elsewhere w.numbers brick.0 i _ other)

    older : (k : ℕ) → k < (w.nodes brick.0).seq → number_of v brick.0 (k + 1) ≡ number_of w brick.0 (k + 1)
    older k less =
        at_brick (k + 1)
        ∙ number_old w.numbers brick.0 step.node.boot step.node.seq (w.begun + 1) (k + 1) (λ e. omega (arith, less, e, next))
        ∙ ap (λ b. w.numbers brick.0 b (k + 1)) boot

    last : number_of v brick.0 ((w.nodes brick.0).seq + 1) ≡ w.begun + 1
    last =
        at_brick ((w.nodes brick.0).seq + 1)
        ∙ ap (λ k. with_number w.numbers brick.0 step.node (w.begun + 1) brick.0 step.node.boot k) (sym next)
        ∙ number_new w.numbers brick.0 step.node.boot step.node.seq (w.begun + 1)

-- a read of a brick's own that began
pub tells_read : (setting : Setting) (nodes : ℕ → Node) (seqs : ℕ → ℕ) (old new : History) (w : World) (brick : BrickId) (call : Call) → TellsAt seqs old w → w.up brick.0 ≡ true
    → call.boot ≡ (w.nodes brick.0).boot → call.seq ≡ seqs brick.0 + 1 → NotesRead old new brick call
    → TellsAt (put seqs brick.0 (seqs brick.0 + 1)) new (world_told setting nodes w brick (Began call))
tells_read setting nodes seqs old new w brick call tells up boot next notes =
    subst (λ (h : History). TellsAt (put seqs brick.0 (seqs brick.0 + 1)) h v) (sym notes.rest) (record {
      packets = tells.packets;
      reached = tells.reached;
      marks = tells.marks;
      reports = tells.reports;
      begun = ap length notes.operations ∙ length-append old.operations.items _ ∙ ap (λ n. n + 1) tells.begun;
      marked = record {
        count = tells.marked.count;
        each = λ mark. tells.marked.each mark ∙ sym (marked_unmarked w.operations w.begun (read_of_call nodes w brick call) refl mark);
      };
      operations = subst (λ (kept : List OperationRecord). TellsOperations kept v.operations) (sym notes.operations)
          (known_begun old.operations.items w.operations w.begun _ (read_of_call nodes w brick call) tells.begun
          (record {
            brick = refl;
            boot = refl;
            seq = refl;
            begin = ap length tells.marks;
            group = refl;
            stripe = refl;
            version = refl;
            made = refl;
            base = refl;
            writes = refl;
            answered = refl;
            mark = refl;
          }) tells.operations);
      calls = λ i.
          subst (λ (l : List ℕ). AreCalls (v.up i) l (number_of v i) (put seqs brick.0 (seqs brick.0 + 1) i))
          (sym (notes.calls i ∙ ap (λ n. calls_with old.calls brick.0 (n + 1) i) tells.begun))
          (calls_grow w v seqs (calls_in old.calls) brick.0 (w.begun + 1) up refl others older last tells.calls i);
    })
  where
    v : World
    v = world_told setting nodes w brick (Began call)

    others : (i : ℕ) → i ≢ brick.0 → (k : ℕ) → number_of v i k ≡ number_of w i k
    others i other k = ap (λ (f : ℕ → ℕ → ℕ). f (w.nodes i).boot k) (value_elsewhere w.numbers brick.0 i _ other)

    older : (k : ℕ) → k < seqs brick.0 → number_of v brick.0 (k + 1) ≡ number_of w brick.0 (k + 1)
    older k less =
        ap (λ b. with_call_number w.numbers brick.0 call (w.begun + 1) brick.0 b (k + 1)) (sym boot)
        ∙ number_old w.numbers brick.0 call.boot call.seq (w.begun + 1) (k + 1) (λ e. omega (arith, less, e, next))
        ∙ ap (λ b. w.numbers brick.0 b (k + 1)) boot

    last : number_of v brick.0 (seqs brick.0 + 1) ≡ w.begun + 1
    last =
        ap (λ b. with_call_number w.numbers brick.0 call (w.begun + 1) brick.0 b (seqs brick.0 + 1)) (sym boot)
        ∙ ap (λ k. with_call_number w.numbers brick.0 call (w.begun + 1) brick.0 call.boot k) (sym next)
        ∙ number_new w.numbers brick.0 call.boot call.seq (w.begun + 1)

-- there is no operation 0
pub changes_none : (kept : List OperationRecord) (number : ℕ) (change : OperationRecord → OperationRecord) → number ≡ 0 → ChangesAt kept kept number change
changes_none kept number change none n =
    sym (ap (λ b. if b then option_map change (slice_get kept n) else slice_get kept n)
    (let apart : n + 1 ≢ number = (λ e. omega arith) in ne_eqb (n + 1) number apart))

-- there is no operation past the last
pub changes_past : (kept : List OperationRecord) (number : ℕ) (change : OperationRecord → OperationRecord) → number ≢ 0 → length kept ≤ number - 1
    → ChangesAt kept kept number change
changes_past kept number change some past n =
    cond_both (nat_eq (n + 1) number) (option_map change (slice_get kept n)) (slice_get kept n) (λ (x : Option OperationRecord). slice_get kept n ≡ x)
    (λ here.
    let at : n + 1 ≡ number = eqb-true (n + 1) number here in
    let none : slice_get kept n ≡ None = slice_get_past kept n (omega arith) in
    none ∙ sym (ap (option_map change) none))
    (λ there. refl)

-- the operation of a number changed
pub changes_at : (kept : List OperationRecord) (number : ℕ) (default : OperationRecord) (change : OperationRecord → OperationRecord) → number ≢ 0 → number - 1 < length kept
    → ChangesAt kept (set kept (number - 1) (change (get_or kept (number - 1) default))) number change
changes_at kept number default change some within n =
    cond_both (nat_eq (n + 1) number) (option_map change (slice_get kept n)) (slice_get kept n)
    (λ (y : Option OperationRecord). slice_get (set kept (number - 1) (change (get_or kept (number - 1) default))) n ≡ y)
    (λ here.
    let at : n + 1 ≡ number = eqb-true (n + 1) number here in
    let place : n ≡ number - 1 = omega arith in
    let was : slice_get kept (number - 1) ≡ Some (get_or kept (number - 1) default) = slice_get-get_or kept (number - 1) default within in
    ap (slice_get (set kept (number - 1) (change (get_or kept (number - 1) default)))) place
    ∙ set_here kept (number - 1) (change (get_or kept (number - 1) default)) within
    ∙ sym (ap (λ k. option_map change (slice_get kept k)) place ∙ ap (option_map change) was))
    (λ there.
    let apart : n + 1 ≢ number = eqb-false (n + 1) number there in
    let other : n ≢ number - 1 = (λ e. apart (omega arith)) in
    set_elsewhere kept (number - 1) (change (get_or kept (number - 1) default)) n other)

-- what is kept of the operation of a call that was found changed
pub call_changes : (old : History) (b seq number : ℕ) (change : OperationRecord → OperationRecord) (kept after : List OperationRecord)
    → Some number ≡ call_at (calls_in old.calls b) seq → kept ≡ old.operations.items → length after ≡ vec_len old.operations
    → ChangesAt kept after number change → ChangesCall old (record old { operations = with_items old.operations after }) b seq change
call_changes old b seq number change kept after here are count changed = record {
  changed = subst (λ (l : List OperationRecord). ChangesAt old.operations.items l (number_in old b seq) change)
      (sym (with_items_is old.operations after count))
      (subst (λ n. ChangesAt old.operations.items after n change) (ap (λ (n : Option ℕ). unwrap_or n 0) here)
      (subst (λ (l : List OperationRecord). ChangesAt l after number change) are changed));
  count = refl;
  room = refl;
  rest = refl;
}

-- and nothing where there is none
pub call_stays : (old : History) (b seq : ℕ) (change : OperationRecord → OperationRecord) → None ≡ call_at (calls_in old.calls b) seq
    → ChangesCall old old b seq change
call_stays old b seq change none = record {
  changed = subst (λ n. ChangesAt old.operations.items old.operations.items n change) (ap (λ (n : Option ℕ). unwrap_or n 0) none)
      (changes_none old.operations.items 0 change refl);
  count = refl;
  room = refl;
  rest = refl;
}

-- each call so far is of an operation, or of none, and has the number of that
pub has_number : (seqs : ℕ → ℕ) (history : History) (w : World) (b seq : ℕ) → TellsAt seqs history w → w.up b ≡ true → IsOfCall (seqs b) seq
    → call_at (calls_in history.calls b) seq ≡ Some (number_of w b seq)
has_number seqs history w b zero tells up of = absurd (let low = of.0 in omega (arith, low))
has_number seqs history w b (suc k) tells up of =
    let are = subst (λ (x : Bool). AreCalls x (calls_in history.calls b) (number_of w b) (seqs b)) up (tells.calls b) in
    let high = of.1 in
    slice_get-get_or (calls_in history.calls b) k 0 (omega (arith, are.0, high))
    ∙ ap (λ n. Some n) (are.1 k (omega (arith, high)) ∙ ap (number_of w b) (add-one k))

-- the end of an operation leaves the number of its marks
marks_changed : (kept after : List OperationRecord) (number : ℕ) (answered : Bool) → ChangesAt kept after number (ended_kept answered) → (n : ℕ)
    → mark_kept after n ≡ mark_kept kept n
marks_changed kept after number answered changed n =
    ap (mark_of_kept n) (changed_record kept after number (ended_kept answered) changed n) ∙ by_number (nat_eq n number) (record_at kept n)
  where
    by_number : (b : Bool) (found : Option OperationRecord) → mark_of_kept n (cond b (option_map (ended_kept answered) found) found) ≡ mark_of_kept n found
    by_number true None = refl
    by_number true (Some known) = refl
    by_number false found = refl

-- what is kept of the operation of a call changed
pub tells_call : (seqs : ℕ → ℕ) (old new : History) (w : World) (b seq : ℕ) (change : OperationRecord → OperationRecord)
    (next : Option Operation → Option Operation) → IsAlike change next → TellsAt seqs old w → w.up b ≡ true → IsOfCall (seqs b) seq
    → ChangesCall old new b seq change
    → TellsAt seqs new (record w { operations = put w.operations (number_of w b seq) (next (w.operations (number_of w b seq))) })
tells_call seqs old new w b seq change next alike tells up of changes =
    let number : number_in old b seq ≡ number_of w b seq = ap (λ (n : Option ℕ). unwrap_or n 0) (has_number seqs old w b seq tells up of) in
    tells_changed seqs old new w (number_of w b seq) change next alike tells
    (subst (λ n. ChangesAt old.operations.items new.operations.items n change) number changes.changed) changes.count
    (changes.rest ∙ ap (λ (h : History). record old { operations = new.operations; marks = h.marks }) (sym changes.rest)) w.marks
    (ap (λ (h : History). h.marks.items) changes.rest ∙ tells.marks)

-- an operation ended
pub tells_ended : (seqs : ℕ → ℕ) (old new : History) (w : World) (brick : BrickId) (one : Answered) → TellsAt seqs old w → w.up brick.0 ≡ true
    → IsOfCall (seqs brick.0) one.seq → NotesEnd old new brick.0 one → TellsAt seqs new (world_answered w brick one)
tells_ended seqs old new w brick one tells up of notes =
    let n : ℕ = number_of w brick.0 one.seq in
    let here = has_number seqs old w brick.0 one.seq tells up of in
    let changed : ChangesAt old.operations.items new.operations.items n (ended_kept (is_answer one.answer)) =
    subst (λ k. ChangesAt old.operations.items new.operations.items k (ended_kept (is_answer one.answer)))
    (ap (λ (found : Option ℕ). unwrap_or found 0) here) notes.changed in
    let mark : mark_kept new.operations.items n ≡ mark_of w n =
    marks_changed old.operations.items new.operations.items n (is_answer one.answer) changed n
    ∙ mark_told old.operations.items w.operations n tells.operations in
    tells_changed seqs old new w n (ended_kept (is_answer one.answer)) (with_answer one.answer) (ended_alike one.answer) tells changed notes.count notes.rest _
    (notes.marks n here ∙ ap (λ k. old.marks.items ++ End (length old.marks.items) k one.answer ∷ []) mark
    ∙ ap (λ (xs : List Mark). xs ++ End (length xs) (mark_of w n) one.answer ∷ []) tells.marks)

-- so did all that a step answers
pub tells_ends : (seqs : ℕ → ℕ) (brick : BrickId) (answers : List Answered) (old new : History) (w : World) → TellsAt seqs old w → w.up brick.0 ≡ true
    → AreAnswered (seqs brick.0) answers → NotesEnds brick answers old new → TellsAt seqs new (world_answers w brick answers)
tells_ends seqs brick [] old new w tells up are notes = subst (λ (h : History). TellsAt seqs h w) (sym notes) tells
tells_ends seqs brick (one ∷ more) old new w tells up are notes =
    let (mid, ended, rest) = notes in
    tells_ends seqs brick more mid new (world_answered w brick one) (tells_ended seqs old mid w brick one tells up are.0 ended) up are.1 rest

-- What is told and answered changes operations, contents and marks alone.
pub record KeepsRest (w v : World) : Type 0 where
  pub nodes : v.nodes ≡ w.nodes
  pub after : v.after ≡ w.after
  pub up : v.up ≡ w.up
  pub clocks : v.clocks ≡ w.clocks
  pub packets : v.packets ≡ w.packets
  pub reached : v.reached ≡ w.reached
  pub choices : v.choices ≡ w.choices

told_keeps : (setting : Setting) (nodes : ℕ → Node) (w : World) (brick : BrickId) (told : List Told) → KeepsRest w (world_tells setting nodes w brick told)
told_keeps setting nodes w brick [] = record { nodes = refl; after = refl; up = refl; clocks = refl; packets = refl; reached = refl; choices = refl }
told_keeps setting nodes w brick (Made seq stamp base ∷ more) =
    let k = told_keeps setting nodes (world_told setting nodes w brick (Made seq stamp base)) brick more in
    record { nodes = k.nodes; after = k.after; up = k.up; clocks = k.clocks; packets = k.packets; reached = k.reached; choices = k.choices }
told_keeps setting nodes w brick (Seen seq stamp ∷ more) =
    let k = told_keeps setting nodes (world_told setting nodes w brick (Seen seq stamp)) brick more in
    record { nodes = k.nodes; after = k.after; up = k.up; clocks = k.clocks; packets = k.packets; reached = k.reached; choices = k.choices }
told_keeps setting nodes w brick (Began call ∷ more) =
    let k = told_keeps setting nodes (world_told setting nodes w brick (Began call)) brick more in
    record { nodes = k.nodes; after = k.after; up = k.up; clocks = k.clocks; packets = k.packets; reached = k.reached; choices = k.choices }
told_keeps setting nodes w brick (Closed seq cause ∷ more) =
    let k = told_keeps setting nodes (world_told setting nodes w brick (Closed seq cause)) brick more in
    record { nodes = k.nodes; after = k.after; up = k.up; clocks = k.clocks; packets = k.packets; reached = k.reached; choices = k.choices }

answers_keep : (w : World) (brick : BrickId) (answers : List Answered) → KeepsRest w (world_answers w brick answers)
answers_keep w brick [] = record { nodes = refl; after = refl; up = refl; clocks = refl; packets = refl; reached = refl; choices = refl }
answers_keep w brick (one ∷ more) =
    let k = answers_keep (world_answered w brick one) brick more in
    record { nodes = k.nodes; after = k.after; up = k.up; clocks = k.clocks; packets = k.packets; reached = k.reached; choices = k.choices }

-- the world once a step told and answered what it did
abbrev pub world_heard : Setting → World → BrickId → NodeStep → World
world_heard setting w brick step = world_answers (world_tells setting (put w.nodes brick.0 step.node) w brick step.told) brick step.answers

pub nodes_told : (setting : Setting) (nodes : ℕ → Node) (w : World) (brick : BrickId) (told : List Told) → (world_tells setting nodes w brick told).nodes ≡ w.nodes
nodes_told setting nodes w brick told = (told_keeps setting nodes w brick told).nodes

pub up_told : (setting : Setting) (nodes : ℕ → Node) (w : World) (brick : BrickId) (told : List Told) → (world_tells setting nodes w brick told).up ≡ w.up
up_told setting nodes w brick told = (told_keeps setting nodes w brick told).up

pub heard_keeps : (setting : Setting) (w : World) (brick : BrickId) (step : NodeStep) → KeepsRest w (world_heard setting w brick step)
heard_keeps setting w brick step =
    let nodes : ℕ → Node = put w.nodes brick.0 step.node in
    let told = told_keeps setting nodes w brick step.told in
    let answered = answers_keep (world_tells setting nodes w brick step.told) brick step.answers in
    record {
      nodes = answered.nodes ∙ told.nodes;
      after = answered.after ∙ told.after;
      up = answered.up ∙ told.up;
      clocks = answered.clocks ∙ told.clocks;
      packets = answered.packets ∙ told.packets;
      reached = answered.reached ∙ told.reached;
      choices = answered.choices ∙ told.choices;
    }

-- a step that told, answered, sent and reported, with as many calls as its brick had, and those of the reads that began
pub tells_stepped : (setting : Setting) (history : History) (w : World) (brick : BrickId) (step : NodeStep) (packets : List Packet)
    (reports : List (BrickId × Report)) → packets ≡ step.packets → reports ≡ reports_of brick step.reports
    → step.node.boot ≡ (w.nodes brick.0).boot → step.node.seq ≡ (w.nodes brick.0).seq + reads_begun step.told
    → (let heard : World = world_heard setting w brick step in
    TellsAt (put (seqs_of w) brick.0 ((w.nodes brick.0).seq + reads_begun step.told)) history
    (record heard { packets = heard.packets ++ packets; choices = record heard.choices { reports = heard.choices.reports ++ reports } })
    → Tells history (world_stepped setting w brick step))
tells_stepped setting history w brick step packets reports sent told boot next tells =
    let heard : World = world_heard setting w brick step in
    let keeps = heard_keeps setting w brick step in
    let spoken : World = record heard { packets = heard.packets ++ packets; choices = record heard.choices { reports = heard.choices.reports ++ reports } } in
    tells_other (put (seqs_of w) brick.0 ((w.nodes brick.0).seq + reads_begun step.told)) history spoken
    (seqs_of (world_stepped setting w brick step)) (world_stepped setting w brick step)
    (ap (λ (xs : List Packet). xs ++ step.packets) (sym keeps.packets) ∙ ap (λ (xs : List Packet). heard.packets ++ xs) (sym sent)) refl refl refl
    (ap (λ (x : Choices). x.reports ++ reports_of brick step.reports) (sym keeps.choices)
    ∙ ap (λ (xs : List (BrickId × Report)). heard.choices.reports ++ xs) (sym told)) refl refl
    (calls_same (put (seqs_of w) brick.0 ((w.nodes brick.0).seq + reads_begun step.told)) spoken (seqs_of (world_stepped setting w brick step))
    (world_stepped setting w brick step) refl
    (λ i. boots_stay w brick step.node boot i ∙ ap (λ (f : ℕ → Node). (f i).boot) (sym keeps.nodes))
    (λ i. seq_of i (nat_eq i brick.0)) refl) tells
  where
    seq_of : (i : ℕ) (b : Bool) → (cond b step.node (w.nodes i)).seq ≡ cond b ((w.nodes brick.0).seq + reads_begun step.told) (w.nodes i).seq
    seq_of i true = next
    seq_of i false = refl

-- a step that tells and answers nothing
aside_is : (setting : Setting) (w : World) (brick : BrickId) (step : NodeStep) → step.told ≡ [] → step.answers ≡ []
    → world_stepped setting w brick step ≡ world_stepped setting w brick (record step { told = []; answers = [] })
aside_is setting w brick step told answers =
    ap (λ (l : List Told). world_stepped setting w brick (record step { told = l })) told
    ∙ ap (λ (l : List Answered). world_stepped setting w brick (record step { told = []; answers = l })) answers

-- the calls of each brick, where one used up a call of no operation, or none
calls_besides : (w : World) (calls : CallNumbers) (b : ℕ) (node : Node) (reports : List Report) → w.up b ≡ true → node.boot ≡ (w.nodes b).boot
    → node.seq ≡ (w.nodes b).seq + calls_used reports → number_of w b ((w.nodes b).seq + 1) ≡ 0
    → ((i : ℕ) → AreCalls (w.up i) (calls_in calls i) (number_of w i) (w.nodes i).seq)
    → (i : ℕ) → AreCalls (w.up i) (calls_aside calls b reports i) (w.numbers i (put w.nodes b node i).boot) (put w.nodes b node i).seq
calls_besides w calls b node [] up boot next none are i =
    subst (λ (n : ℕ). AreCalls (w.up i) (calls_with calls b 0 i) (w.numbers i (put w.nodes b node i).boot) n) (seq_of (nat_eq i b))
    (calls_grow w (record w { nodes = put w.nodes b node }) (seqs_of w) (calls_in calls) b 0 up refl
    (λ j other k. ap (λ (n : Node). w.numbers j n.boot k) (value_elsewhere w.nodes b j node other))
    (λ k less. at_brick (k + 1)) (at_brick ((w.nodes b).seq + 1) ∙ none) are i)
  where
    at_brick : (k : ℕ) → w.numbers b (put w.nodes b node b).boot k ≡ number_of w b k
    at_brick k = ap (λ (n : Node). w.numbers b n.boot k) (value_here w.nodes b b node refl) ∙ ap (λ x. w.numbers b x k) boot

    seq_of : (x : Bool) → cond x ((w.nodes b).seq + 1) (w.nodes i).seq ≡ (cond x node (w.nodes i)).seq
    seq_of true = sym next
    seq_of false = refl
calls_besides w calls b node (report ∷ reports) up boot next none are i =
    each_value (λ j x. AreCalls (w.up j) (calls_in calls j) (w.numbers j x.boot) x.seq) w.nodes b node
    (subst (λ (k : ℕ). AreCalls (w.up b) (calls_in calls b) (w.numbers b node.boot) k) (let e : (w.nodes b).seq ≡ node.seq = omega (arith, next) in e)
    (subst (λ (k : ℕ). AreCalls (w.up b) (calls_in calls b) (w.numbers b k) (w.nodes b).seq) (sym boot) (are b)))
    (λ j other. are j) i

-- a brick was asked to propose
pub tells_proposed : (setting : Setting) (old new : History) (w : World) (brick : BrickId) (outs : Outcome) (step : NodeStep) → Tells old w
    → w.up brick.0 ≡ true → OpensAside w brick step → packets_from brick outs.messages ≡ step.packets → outs.reports ≡ step.reports
    → NotesProposal old new brick outs → Tells new (world_stepped setting w brick step)
tells_proposed setting old new w brick outs step tells up opens packets_is reports_is notes =
    subst (Tells new) (sym (aside_is setting w brick step opens.told opens.answers)) (record {
      packets = notes.sent ∙ ap (λ (xs : List Packet). xs ++ packets_from brick outs.messages) tells.packets
          ∙ ap (λ (xs : List Packet). w.packets ++ xs) packets_is;
      reached = λ k. ap (λ (h : History). get_or h.delivered.reached.items k false) notes.rest ∙ tells.reached k;
      marks = ap (λ (h : History). h.marks.items) notes.rest ∙ tells.marks;
      reports = notes.reports ∙ ap (λ (xs : List (BrickId × Report)). xs ++ reports_of brick outs.reports) tells.reports
          ∙ ap (λ (xs : List Report). w.choices.reports ++ reports_of brick xs) reports_is;
      begun = ap (λ (h : History). length h.operations.items) notes.rest ∙ tells.begun;
      marked = subst (λ (h : History). AreMarked h.marked.items (world_stepped setting w brick (record step { told = []; answers = [] }))) (sym notes.rest)
          (record { count = tells.marked.count; each = tells.marked.each });
      operations = subst (λ (h : History). TellsOperations h.operations.items w.operations) (sym notes.rest) tells.operations;
      calls = λ i.
          subst (λ (l : List ℕ). AreCalls (w.up i) l (w.numbers i (put w.nodes brick.0 step.node i).boot) (put w.nodes brick.0 step.node i).seq)
          (sym (notes.calls i))
          (calls_besides w old.calls brick.0 step.node outs.reports up opens.boot
          (opens.seq ∙ ap (λ (xs : List Report). (w.nodes brick.0).seq + calls_used xs) (sym reports_is)) opens.unnumbered tells.calls i);
    })

-- a brick stopped, which has made no call then
pub tells_crashed : (setting : Setting) (old new : History) (w : World) (brick : BrickId) → Tells old w → NotesCrash old new brick
    → Tells new (world_stopped setting w brick None)
tells_crashed setting old new w brick tells notes =
    subst (λ (h : History). Tells h (world_stopped setting w brick None)) (sym notes.rest) (record {
      packets = tells.packets;
      reached = tells.reached;
      marks = notes.marks ∙ ap (λ (xs : List Mark). xs ++ Crash (length xs) brick ∷ []) tells.marks;
      reports = tells.reports;
      begun = tells.begun;
      marked = record { count = tells.marked.count; each = tells.marked.each };
      operations = tells.operations;
      calls = λ i.
          subst (λ (l : List ℕ). AreCalls (v.up i) l (number_of v i) (v.nodes i).seq) (sym (notes.calls i)) (by_brick i (nat_eq i brick.0));
    })
  where
    v : World
    v = world_stopped setting w brick None

    by_brick : (i : ℕ) (x : Bool) → AreCalls (cond x false (w.up i)) (cond x [] (calls_in old.calls i))
        (w.numbers i (cond x (stopped (w.nodes brick.0)) (w.nodes i)).boot) (cond x (stopped (w.nodes brick.0)) (w.nodes i)).seq
    by_brick i true = refl
    by_brick i false = tells.calls i

-- a brick that starts has made no call yet
module _ (w : World) (brick : BrickId) (openings : ℕ) (down : w.up brick.0 ≡ false) where
  started_calls : (nodes : ℕ → Node) → ((i : ℕ) → i ≢ brick.0 → nodes i ≡ w.nodes i) → (i : ℕ) (calls : List ℕ)
      → AreCalls (w.up i) calls (number_of w i) (w.nodes i).seq
      → (let node : Node = put nodes brick.0 (restarted openings (nodes brick.0)) i in
      AreCalls (put w.up brick.0 true i) calls (w.numbers i node.boot) node.seq)
  started_calls nodes others i calls are = by_brick (nat_eq i brick.0) refl
    where
      node : Node
      node = restarted openings (nodes brick.0)

      by_brick : (x : Bool) → nat_eq i brick.0 ≡ x
          → AreCalls (cond x true (w.up i)) calls (w.numbers i (cond x node (nodes i)).boot) (cond x node (nodes i)).seq
      by_brick true same =
          let none : calls ≡ [] =
          subst (λ (y : Bool). AreCalls y calls (number_of w i) (w.nodes i).seq) (ap w.up (eqb-true i brick.0 same) ∙ down) are in
          let count : node.seq ≡ 0 = restarted_seq openings (nodes brick.0) in
          (ap length none ∙ sym count, λ k less. absurd (omega (arith, less, count)))
      by_brick false other =
          subst (λ (n : Node). AreCalls (w.up i) calls (w.numbers i n.boot) n.seq) (sym (others i (eqb-false i brick.0 other))) are

  -- a brick started again, with what its store is found to hold
  pub tells_found_started : (history : History) (found : Found) → Tells history w
      → Tells history (world_started (world_found w brick found) brick openings)
  tells_found_started history Before tells =
      tells_other (seqs_of w) history w (seqs_of (world_started w brick openings)) (world_started w brick openings) refl refl refl refl refl refl refl
      (started_calls w.nodes (λ i other. refl)) tells
  tells_found_started history After tells =
      tells_other (seqs_of w) history w (seqs_of (world_started (world_found w brick After) brick openings))
      (world_started (world_found w brick After) brick openings) refl refl refl refl (append-nil w.choices.reports) refl refl
      (started_calls (put w.nodes brick.0 (w.after brick.0)) (λ i other. value_elsewhere w.nodes brick.0 i (w.after brick.0) other)) tells

-- what a brick that is down would have kept is told by no history, and that a message was delivered in whose midst it stopped is
pub tells_during : (setting : Setting) (history : History) (w : World) (brick : BrickId) (number : ℕ)
    → reached_during w brick (Some number) ≡ put w.reached number true
    → Tells history (world_stopped setting (record w { reached = put w.reached number true }) brick None)
    → Tells history (world_stopped setting w brick (Some number))
tells_during setting history w brick number reached tells =
    tells_other (seqs_of (world_stopped setting (record w { reached = put w.reached number true }) brick None)) history
    (world_stopped setting (record w { reached = put w.reached number true }) brick None) (seqs_of (world_stopped setting w brick (Some number)))
    (world_stopped setting w brick (Some number)) refl reached refl refl refl refl refl (λ i calls are. are) tells
