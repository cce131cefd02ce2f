-- What a coordinator does with a reply: the operation stays within the layout's sizes, and an answer has a spelling.
use Rattle.std.proofs.Common.{◌≡◌, ℕ, ◌*◌, ◌<◌, ◌≤◌, true, List, [], ◌∷◌, length, drop, Option, Some, None, refl, subst, sym, arith, length-take}
use Rattle.std.specs.Prelude.{nat_eq, nat_lt, ◌&&◌, ◌^◌, ◌-◌}
use Rattle.std.specs.List.{AllByRecursion}
use Rattle.std.specs.Option.{IfSome}
use Rattle.std.proofs.lemmas.Bool.{cond_both, eqb-true, and_parts, le-leb, false≢true}
use Rattle.fab_base.specs.declared.answers.Answer.TheVariants.{Data, Done}
use Rattle.fab_base.specs.declared.asks.Op.{Op}
use Rattle.fab_base.specs.declared.asks.Op.TheVariants.{ReadBlock, WriteBlock, ReadStripe, WriteStripe}
use Rattle.fab_base.specs.declared.identities.BrickId.{BrickId}
use Rattle.fab_base.specs.declared.identities.ViewNo.{ViewNo}
use Rattle.fab_base.specs.declared.stamps.Stamp.{Stamp}
use Rattle.fab_base.specs.Layouts.{Layout}
use Rattle.messages.specs.declared.calls.Call.{Call}
use Rattle.messages.specs.declared.replies.Reply.{Reply}
use Rattle.messages.specs.declared.replies.Reply.TheVariants as replies
use Rattle.messages.specs.declared.requests.Version.{Version}
use Rattle.reg_model.specs.Registers.{block_of, read_of}
use Rattle.protocol.specs.declared.phases.Counted.{Counted}
use Rattle.protocol.specs.declared.phases.Dropper.{Dropper}
use Rattle.protocol.specs.declared.phases.FullMember.{FullMember}
use Rattle.protocol.specs.declared.phases.Mover.{Mover}
use Rattle.protocol.specs.declared.phases.Refuser.{Refuser}
use Rattle.protocol.specs.declared.phases.Phase.{Phase}
use Rattle.protocol.specs.declared.phases.Phase.TheVariants.{Looks, LooksAt, Orders, OrdersAt, Recovers, Descends, LooksBack, Modifies, Bases, Stores}
use Rattle.protocol.specs.Coordinators.{Coordinator, Next, Waits, Sends, Makes, Ends, needed, counting_seat, call_same, told_length, answers_phase, has_seat, new_seat, answering_seat, counts_at, found_bytes, bytes_at, pieces_of, pieces_at, fast_version, fast_version_at, common_version_at, some_behind, greatest_refuser, lowest_full, greatest_found, in_phase, restoring, block_written, modifying, reordering, forgetting, most_rounds, aborted_by, lowest_mover, lowest_dropper, unless_told_moved, unless_told_gone, unless_told_full, unless_refused, once_ordered, answered_fast, answered_fast_at, lower_phase, may_look_back, read_back, modified_if, once_modified, rebuilt, answer_with, decided, with_reply, counted_at, on_reply}
use Rattle.stripe_code.specs.Codes.{block_code}
use Rattle.stripe_code.proofs.Changes.{length-block_delta}
use Rattle.serving.proofs.CodeSizes.{length-decoded, length-after}
use Rattle.serving.proofs.Everywhere.{all_append}
use Rattle.protocol.specs.Nodes.{view_in}
use Rattle.serving.proofs.Fitting.{TellsShort, ViewFits, PhaseFits, CallFits, IsAnswer, NextFits}

-- ---- replies that count

-- bytes of a told length are at most a block
told_within : (block j seat n : ℕ) → n ≡ told_length block j seat → n ≤ block
told_within block j seat n is =
    subst (λ (k : ℕ). k ≤ block) (sym is) (cond_both (nat_eq j seat) block 0 (λ k. k ≤ block) (λ own. omega arith) (λ other. omega arith))

-- a version that is found, where a phase asks for one
found_within : (block : ℕ) (t : Stamp) (seat : ℕ) (phase : Phase) (order : Stamp) (version : Version)
    → answers_phase block t seat phase (replies.Found order (Some version)) ≡ true → length version.block ≤ block
found_within block t seat Looks order version answers = let long = eqb-true (length version.block) block answers in omega (arith, long)
found_within block t seat (LooksAt j) order version answers =
    told_within block j seat (length version.block) (eqb-true (length version.block) (told_length block j seat) answers)
found_within block t seat phase order version answers = absurd (false≢true answers)

ordered_within : (block : ℕ) (t : Stamp) (seat : ℕ) (phase : Phase) (version : Version)
    → answers_phase block t seat phase (replies.OrderedRead (Some version)) ≡ true → length version.block ≤ block
ordered_within block t seat (OrdersAt j) version answers =
    told_within block j seat (length version.block) (eqb-true (length version.block) (told_length block j seat) (and_parts _ _ answers).0)
ordered_within block t seat Recovers version answers = let long = eqb-true (length version.block) block (and_parts _ _ answers).0 in omega (arith, long)
ordered_within block t seat (Descends bound) version answers =
    let long = eqb-true (length version.block) block (and_parts _ _ answers).0 in omega (arith, long)
ordered_within block t seat (Bases base) version answers = let long = eqb-true (length version.block) block (and_parts _ _ answers).0 in omega (arith, long)
ordered_within block t seat phase version answers = absurd (false≢true answers)

old_within : (block : ℕ) (t : Stamp) (seat : ℕ) (phase : Phase) (version : Version)
    → answers_phase block t seat phase (replies.Old (Some version)) ≡ true → length version.block ≤ block
old_within block t seat (LooksBack bound) version answers = let long = eqb-true (length version.block) block (and_parts _ _ answers).0 in omega (arith, long)
old_within block t seat phase version answers = absurd (false≢true answers)

-- a reply that answers a phase tells at most a block
answer_within : (block : ℕ) (t : Stamp) (seat : ℕ) (phase : Phase) (reply : Reply) → answers_phase block t seat phase reply ≡ true
    → length (found_bytes reply) ≤ block
answer_within block t seat phase (replies.Found order (Some version)) answers = found_within block t seat phase order version answers
answer_within block t seat phase (replies.OrderedRead (Some version)) answers = ordered_within block t seat phase version answers
answer_within block t seat phase (replies.Old (Some version)) answers = old_within block t seat phase version answers
answer_within block t seat phase (replies.Found order None) answers = omega arith
answer_within block t seat phase (replies.OrderedRead None) answers = omega arith
answer_within block t seat phase (replies.Old None) answers = omega arith
answer_within block t seat phase reply answers = omega arith

-- the seat at which a reply counts has answered the phase
abbrev Answers : ℕ → Coordinator → Reply → Option ℕ → Type 0
Answers block c reply seat = IfSome seat (λ k. answers_phase block c.stamp k c.phase reply ≡ true)

answering : (block : ℕ) (c : Coordinator) (reply : Reply) (seat : Option ℕ) → Answers block c reply (answering_seat block c reply seat)
answering block c reply None = tt
answering block c reply (Some seat) =
    cond_both (answers_phase block c.stamp seat c.phase reply) (Some seat) None (Answers block c reply) (λ answers. answers) (λ not. tt)

still_answering : (block : ℕ) (c : Coordinator) (reply : Reply) (counted : List Counted) (seat : Option ℕ) → Answers block c reply seat
    → Answers block c reply (new_seat counted seat)
still_answering block c reply counted None answers = tt
still_answering block c reply counted (Some seat) answers =
    cond_both (has_seat seat counted) None (Some seat) (Answers block c reply) (λ has. tt) (λ new. answers)

counting : (block : ℕ) (c : Coordinator) (from : ℕ) (call : Call) (reply : Reply) → Answers block c reply (counts_at block c from call reply)
unfolding counts_at
counting block c from call reply =
    cond_both (call_same call c.call && nat_lt c.call.phase (2 ^ 32 - 1)) (new_seat c.counted (answering_seat block c reply (counting_seat c from))) None
    (Answers block c reply)
    (λ this. still_answering block c reply c.counted (answering_seat block c reply (counting_seat c from))
    (answering block c reply (counting_seat c from)))
    (λ other. tt)

-- the bytes that the reply of a seat tells are at most a block
bytes_within : (block seat : ℕ) (counted : List Counted) → AllByRecursion (TellsShort block) counted → length (bytes_at seat counted) ≤ block
bytes_within block seat [] short = omega arith
bytes_within block seat (c ∷ counted) short =
    cond_both (nat_eq c.seat seat) (found_bytes c.reply) (bytes_at seat counted) (λ bytes. length bytes ≤ block)
    (λ own. short.0) (λ other. bytes_within block seat counted short.1)

-- ---- decisions

-- a new round's stamp, if there is one, is of the operation's view
abbrev pub OfItsView : Coordinator → Option Stamp → Type 0
OfItsView c fresh = IfSome fresh (λ t. t.view ≡ c.stamp.view)

-- bytes that have room in an answer
data_spelled : (bytes : List ℕ) → length bytes ≤ 32768 → IsAnswer (Data bytes)
data_spelled bytes few = le-leb (length bytes) 32768 few

module _ (layout : Layout) (few : layout.block ≤ 4096) where
  -- a phase begins, in which no reply counts yet
  phase_begun : (c : Coordinator) (phase : Phase) → CallFits layout c → PhaseFits c.group.m layout.block c.content phase → CallFits layout (in_phase c phase)
  phase_begun c phase fits asks =
      record { group = fits.group; view = fits.view; has = fits.has; given = fits.given; content = fits.content; phase = asks; counted = tt }

  -- the replies are forgotten
  forgotten : (c : Coordinator) → CallFits layout c → CallFits layout (forgetting c)
  forgotten c fits =
      record { group = fits.group; view = fits.view; has = fits.has; given = fits.given; content = fits.content; phase = fits.phase; counted = tt }

  -- what is read back, and stored again
  decoded_long : (c : Coordinator) (pieces : List _) → length ((block_code layout.block).decode c.group.m pieces) ≡ c.group.m * layout.block
  decoded_long c pieces = length-decoded c.group.m layout.block pieces

  restored : (c : Coordinator) (v : Stamp) (pieces : List _) → CallFits layout c
      → CallFits layout (restoring layout.block c v ((block_code layout.block).decode c.group.m pieces))
  restored c v pieces fits =
      let long = length-after c.group.m layout.block c.ask.op ((block_code layout.block).decode c.group.m pieces) fits.has fits.given (decoded_long c pieces) in
      let room = fits.group.room in
      record { group = fits.group; view = fits.view; has = fits.has; given = fits.given; content = omega (arith, long, room); phase = tt; counted = tt }

  -- a data block is modified
  modified : (c : Coordinator) (v : Stamp) (j : ℕ) → CallFits layout c → j < c.group.m → CallFits layout (modifying (block_code layout.block) c v j)
  modified c v j fits below =
      let long : length ((block_code layout.block).delta (bytes_at j c.counted) (block_written c.ask.op)) ≡ layout.block
      = length-block_delta layout.block (bytes_at j c.counted) (block_written c.ask.op) in
      record {
        group = fits.group;
        view = fits.view;
        has = fits.has;
        given = fits.given;
        content = omega (arith, long, few);
        phase = (below, omega (arith, long));
        counted = tt;
      }

  -- a member that serves the view no more, that dropped the view before, whose store is full, or that refuses, ends the operation; or there is another round
  unless_full : (full : Option FullMember) (next : Next) → NextFits layout next → NextFits layout (unless_told_full full next)
  unless_full None next fits = fits
  unless_full (Some f) next fits = refl

  unless_moved : (mover : Option Mover) (next : Next) → NextFits layout next → NextFits layout (unless_told_moved mover next)
  unless_moved None next fits = fits
  unless_moved (Some m) next fits = refl

  unless_gone : (dropper : Option Dropper) (next : Next) → NextFits layout next → NextFits layout (unless_told_gone dropper next)
  unless_gone None next fits = fits
  unless_gone (Some d) next fits = refl

  or_full : (c : Coordinator) (next : Next) → NextFits layout next
      → NextFits layout (unless_told_moved (lowest_mover c.counted)
      (unless_told_gone (lowest_dropper c.counted) (unless_told_full (lowest_full c.counted) next)))
  or_full c next fits =
      unless_moved (lowest_mover c.counted) _ (unless_gone (lowest_dropper c.counted) _ (unless_full (lowest_full c.counted) next fits))

  or_refused : (refuser : Option Refuser) (next : Next) → NextFits layout next → NextFits layout (unless_refused refuser next)
  or_refused None next fits = fits
  or_refused (Some r) next fits = refl

  -- the view of an operation that has another stamp of the same view
  again_in : (c : Coordinator) (t : Stamp) → t.view ≡ c.stamp.view → ViewFits layout (view_in c) → ViewFits layout (view_in (reordering c t))
  again_in c t same fits =
      subst (λ (number : ViewNo). ViewFits layout (record { number = number; members = c.group.members; prior = c.prior })) (sym same) fits

  or_again : (fresh : Option Stamp) (c : Coordinator) (refuser : Option Refuser) (next : Next) → OfItsView c fresh → CallFits layout c → NextFits layout next
      → NextFits layout (once_ordered fresh c refuser next)
  or_again fresh c None next own asks fits = fits
  or_again None c (Some r) next own asks fits = refl
  or_again (Some t) c (Some r) next own asks fits =
      cond_both (nat_lt c.round most_rounds) (Sends (reordering c t)) (aborted_by r) (NextFits layout)
      (λ left. record {
        group = asks.group;
        view = again_in c t own asks.view;
        has = asks.has;
        given = asks.given;
        content = asks.content;
        phase = asks.phase;
        counted = tt;
      })
      (λ last. refl)

  -- a read is answered at once, or recovers
  fast_fits : (c : Coordinator) (v : Option Stamp) → CallFits layout c → NextFits layout (answered_fast (block_code layout.block) c v)
  fast_fits c None fits = phase_begun c Recovers fits tt
  fast_fits c (Some v) fits =
      let long = decoded_long c (pieces_of c.counted) in
      let room = fits.group.room in
      data_spelled ((block_code layout.block).decode c.group.m (pieces_of c.counted)) (omega (arith, long, room))

  fast_fits_at : (c : Coordinator) (j : ℕ) (v : Option Stamp) → CallFits layout c → NextFits layout (answered_fast_at c j v)
  fast_fits_at c j None fits = phase_begun c Recovers fits tt
  fast_fits_at c j (Some v) fits =
      let short = bytes_within layout.block j c.counted fits.counted in data_spelled (bytes_at j c.counted) (omega (arith, short, few))

  -- looking for a version below one asks for no data block
  lower_fits : (m : ℕ) (content : List ℕ) (phase : Phase) (v : Stamp) → PhaseFits m layout.block content (lower_phase phase v)
  lower_fits m content (LooksBack bound) v = tt
  lower_fits m content phase v = tt

  -- a version is read back, or looked for below, or in the view before
  read_fits : (c : Coordinator) (v : Option Stamp) → CallFits layout c → NextFits layout (read_back layout.block (block_code layout.block) c v)
  read_fits c None fits =
      cond_both (may_look_back c) (Sends (in_phase c (LooksBack None))) (Waits (forgetting c)) (NextFits layout)
      (λ back. phase_begun c (LooksBack None) fits tt) (λ waits. forgotten c fits)
  read_fits c (Some v) fits =
      cond_both (nat_lt (length (pieces_at v c.counted)) c.group.m) (Sends (in_phase c (lower_phase c.phase v)))
      (Makes (restoring layout.block c v ((block_code layout.block).decode c.group.m (pieces_at v c.counted)))) (NextFits layout)
      (λ too_few. phase_begun c (lower_phase c.phase v) fits (lower_fits c.group.m c.content c.phase v))
      (λ enough. restored c v (pieces_at v c.counted) fits)

  rebuilt_fits : (c : Coordinator) (base : Stamp) → CallFits layout c → NextFits layout (rebuilt layout.block (block_code layout.block) c base)
  rebuilt_fits c base fits =
      cond_both (nat_lt (length (pieces_at base c.counted)) c.group.m) (Waits (forgetting c))
      (Sends (restoring layout.block c base ((block_code layout.block).decode c.group.m (pieces_at base c.counted)))) (NextFits layout)
      (λ too_few. forgotten c fits) (λ enough. restored c base (pieces_at base c.counted) fits)

  -- a data block is modified, or its version is looked for
  modified_fits : (c : Coordinator) (j : ℕ) (v : Option Stamp) → CallFits layout c → j < c.group.m
      → NextFits layout (modified_if (block_code layout.block) c j v)
  modified_fits c j None fits below = phase_begun c (Descends c.stamp) fits tt
  modified_fits c j (Some v) fits below = modified c v j fits below

  once_modified_fits : (c : Coordinator) (base : Stamp) → CallFits layout c → NextFits layout (once_modified c base)
  once_modified_fits c base fits =
      cond_both (some_behind c.counted) (Sends (in_phase c (Bases base))) (Ends Done None (Some c.stamp)) (NextFits layout)
      (λ behind. phase_begun c (Bases base) fits tt) (λ done. refl)

  -- what a stored operation is answered
  answered_fits : (op : Op) (content : List ℕ) → length content ≤ 32768 → IsAnswer (answer_with (read_of layout.block op content))
  answered_fits (ReadBlock j) content short =
      let part = length-take layout.block (drop (j * layout.block) content) in
      data_spelled (block_of layout.block j content) (omega (arith, part, few))
  answered_fits (WriteBlock j bytes) content short = refl
  answered_fits ReadStripe content short = data_spelled content short
  answered_fits (WriteStripe bytes) content short = refl

  -- what a quorum of replies decides
  decided_in : (fresh : Option Stamp) (c : Coordinator) (phase : Phase) → OfItsView c fresh → CallFits layout (record c { phase = phase })
      → NextFits layout (decided layout.block (block_code layout.block) fresh (record c { phase = phase }))
  unfolding decided
  decided_in fresh c Looks own fits =
      or_full c _ (fast_fits (record c { phase = Looks }) (fast_version c.counted) fits)
  decided_in fresh c (LooksAt j) own fits =
      or_full c _ (fast_fits_at (record c { phase = LooksAt j }) j (fast_version_at j c.counted) fits)
  decided_in fresh c Orders own fits =
      let it : Coordinator = record c { phase = Orders } in
      or_full c _ (or_again fresh it (greatest_refuser c.counted) _ own fits (phase_begun it Stores fits tt))
  decided_in fresh c (OrdersAt j) own fits =
      let it : Coordinator = record c { phase = OrdersAt j } in
      or_full c _
      (or_again fresh it (greatest_refuser c.counted) _ own fits (modified_fits it j (common_version_at j c.counted) fits fits.phase))
  decided_in fresh c Recovers own fits =
      let it : Coordinator = record c { phase = Recovers } in
      or_full c _ (or_again fresh it (greatest_refuser c.counted) _ own fits (read_fits it (greatest_found c.counted) fits))
  decided_in fresh c (Descends bound) own fits =
      or_full c _
      (or_refused (greatest_refuser c.counted) _ (read_fits (record c { phase = Descends bound }) (greatest_found c.counted) fits))
  decided_in fresh c (LooksBack bound) own fits =
      or_full c _ (read_fits (record c { phase = LooksBack bound }) (greatest_found c.counted) fits)
  decided_in fresh c (Modifies base j) own fits =
      or_full c _
      (or_refused (greatest_refuser c.counted) _ (once_modified_fits (record c { phase = Modifies base j }) base fits))
  decided_in fresh c (Bases base) own fits =
      or_full c _ (or_refused (greatest_refuser c.counted) _ (rebuilt_fits (record c { phase = Bases base }) base fits))
  decided_in fresh c Stores own fits =
      or_full c _ (or_refused (greatest_refuser c.counted) _ (answered_fits c.ask.op c.content fits.content))

  -- one more reply counts
  reply_counted : (c : Coordinator) (seat : ℕ) (from : BrickId) (reply : Reply) → CallFits layout c
      → answers_phase layout.block c.stamp seat c.phase reply ≡ true → CallFits layout (with_reply c seat from reply)
  reply_counted c seat from reply fits answers =
      record {
        group = fits.group;
        view = fits.view;
        has = fits.has;
        given = fits.given;
        content = fits.content;
        phase = fits.phase;
        counted = all_append (TellsShort layout.block) c.counted (record { seat = seat; brick = from; reply = reply } ∷ []) fits.counted
            (answer_within layout.block c.stamp seat c.phase reply answers, tt);
      }

  counted_fits : (fresh : Option Stamp) (c : Coordinator) (from : BrickId) (reply : Reply) (seat : Option ℕ) → OfItsView c fresh → CallFits layout c
      → Answers layout.block c reply seat → NextFits layout (counted_at layout.block (block_code layout.block) fresh c from reply seat)
  counted_fits fresh c from reply None own fits answers = tt
  counted_fits fresh c from reply (Some seat) own fits answers =
      let it : Coordinator = with_reply c seat from reply in
      let now : CallFits layout it = reply_counted c seat from reply fits answers in
      cond_both (nat_lt (length it.counted) (needed it)) (Waits it) (decided layout.block (block_code layout.block) fresh it) (NextFits layout)
      (λ waits. now) (λ full. decided_in fresh it it.phase own now)

  -- what a coordinator does with a reply
  pub replied_fits : (fresh : Option Stamp) (c : Coordinator) (from : BrickId) (call : Call) (reply : Reply) → OfItsView c fresh → CallFits layout c
      → NextFits layout (on_reply layout.block (block_code layout.block) fresh c from call reply)
  unfolding on_reply
  replied_fits fresh c from call reply own fits =
      counted_fits fresh c from reply (counts_at layout.block c from.0 call reply) own fits (counting layout.block c from.0 call reply)
