-- The printed line of a report reads back: its numbers have a spelling, and members that were decided are some, and few.
use Rattle.std.proofs.Common.{◌≡◌, ℕ, suc, ◌+◌, ◌*◌, ◌≤◌, ◌==◌, not, Bool, true, false, ◌&&◌, if◌then◌else◌, List, [], ◌∷◌, ◌++◌, length, map, Option, Some, None, is_some, refl, ap, ◌∙◌, arith, codes, append-nil, append_assoc}
use Rattle.std.specs.Prelude.{⊤}
use Rattle.std.specs.List.{list_all, slice_split}
use Rattle.std.specs.Fmt.{decimal}
use Rattle.fab_base.specs.declared.answers.Cause.{Cause}
use Rattle.fab_base.specs.declared.identities.BrickId.{BrickId}
use Rattle.fab_base.specs.declared.stamps.Ballot.{Ballot}
use Rattle.fab_base.specs.declared.stamps.Stamp.{Stamp}
use Rattle.fab_base.specs.Stamps.{ballot_text, stamp_text}
use Rattle.fab_base.specs.Texts.{newline}
use Rattle.protocol.specs.declared.tellings.ViewAnswer.{ViewAnswer}
use Rattle.protocol.specs.declared.tellings.ViewAnswer.TheVariants as ended
use Rattle.protocol.specs.declared.tellings.SyncAnswer.{SyncAnswer}
use Rattle.protocol.specs.declared.tellings.SyncAnswer.TheVariants as synced
use Rattle.protocol.specs.declared.tellings.ScrubAnswer.{ScrubAnswer}
use Rattle.protocol.specs.declared.tellings.ScrubAnswer.TheVariants as scrubbed
use Rattle.protocol.specs.declared.tellings.Report.{Report}
use Rattle.protocol.specs.declared.tellings.Report.TheVariants.{View, Sync, Scrub}
use Rattle.transcript.specs.declared.claims.ClaimedStamp.{ClaimedStamp}
use Rattle.transcript.specs.declared.claims.Entry.TheVariants.{Other}
use Rattle.transcript.specs.Forms.{form, entry_of}
use Rattle.transcript.specs.Tokens.{behind, cut, is_plain, are_plain}
use Rattle.transcript.specs.Words.{or_else, stamp_of, is_ballot, is_decided, is_view_end, is_stopped, is_sync_end, is_repaired, is_scrub_end, is_view, is_sync, is_scrub, is_word}
use Rattle.world.specs.Texts.{members_text, view_answer_text, sync_answer_text, scrub_answer_text, report_text}
use Rattle.printed.specs.Spellings.{IsSmall, CauseReads, BallotReads, BricksRead, ViewAnswerReads, SyncAnswerReads, ScrubAnswerReads, StampReads, ReportReads}
use Rattle.printed.proofs.Tokens.{or_some, or_none, IsPiece, piece_both, piece_most, digits_piece, digits_no_space, plain_back, before_back, behind_front, behind_other, split_first, split_alone, all_both, cut_at, cut_none}
use Rattle.printed.proofs.MarkLines.{literal, space, dot, stamp_piece, stamp_back, cause_line, cause_ends, cause_piece, cause_back, entry_short}

-- members that were decided are some, and no more than may keep a group
abbrev pub MembersFit : ViewAnswer → Type 0
MembersFit (ended.Decided view members) = (1 ≤ length members) × (length members ≤ 32)
MembersFit (ended.Outbid ballot) = ⊤
MembersFit (ended.NotSynced brick) = ⊤
MembersFit (ended.Moved view) = ⊤
MembersFit ended.BadMembers = ⊤

-- so are those that a report tells
abbrev pub ReportFits : Report → Type 0
ReportFits (View group call answer) = MembersFit answer
ReportFits (Sync group answer) = ⊤
ReportFits (Scrub call members answer) = ⊤

-- each member's number has a spelling
abbrev EachSmall : List BrickId → Type 0
EachSmall [] = ⊤
EachSmall (member ∷ members) = IsSmall member.0 × EachSmall members

each_small : (members : List BrickId) → BricksRead members → EachSmall members
each_small [] reads = tt
each_small (member ∷ members) reads = (reads 0 member (omega arith), each_small members (λ k d within. reads (suc k) d (omega arith)))

-- the line of a report, without its line feed

-- members, each with the space before it
abbrev members_line : List BrickId → List ℕ
members_line [] = []
members_line (member ∷ members) = codes " " ++ (decimal member.0 ++ members_line members)

-- how a proposal ended
abbrev view_line : ViewAnswer → List ℕ
view_line (ended.Decided view members) = codes "decided " ++ (decimal view.0 ++ members_line members)
view_line (ended.Outbid ballot) = codes "outbid " ++ ballot_text ballot
view_line (ended.NotSynced brick) = codes "notsynced " ++ decimal brick.0
view_line (ended.Moved view) = codes "moved " ++ decimal view.0
view_line ended.BadMembers = codes "badmembers"

-- how a synchronisation ended
abbrev sync_line : SyncAnswer → List ℕ
sync_line (synced.Synced view) = codes "synced " ++ decimal view.0
sync_line (synced.Stopped stripe cause) = codes "stopped " ++ (decimal stripe.0 ++ (codes " " ++ cause_line cause))
sync_line (synced.Spent stripe) = codes "spent " ++ decimal stripe.0

-- how a scrub ended
abbrev scrub_line : ScrubAnswer → List ℕ
scrub_line scrubbed.Clean = codes "clean"
scrub_line (scrubbed.Repaired stamp lagging) = codes "repaired " ++ (stamp_text stamp ++ members_line lagging)
scrub_line (scrubbed.Aborted cause) = codes "aborted " ++ cause_line cause

-- a report
abbrev pub report_line : Report → List ℕ
report_line (View group call answer) = codes "view " ++ (decimal group.0 ++ (codes " " ++ view_line answer))
report_line (Sync group answer) = codes "sync " ++ (decimal group.0 ++ (codes " " ++ sync_line answer))
report_line (Scrub call members answer) =
    codes "scrub " ++ (decimal call.group.0 ++ (codes " " ++ (decimal call.stripe.0 ++ (codes " " ++ scrub_line answer))))

-- members, and the line feed
members_end : (members : List BrickId) → members_text members ≡ members_line members ++ newline
members_end [] = refl
members_end (member ∷ members) = ap (λ (l : List ℕ). codes " " ++ (decimal member.0 ++ l)) (members_end members) ∙ simp append_assoc refl

-- how a proposal ended, and the line feed
view_ends : (answer : ViewAnswer) → view_answer_text answer ≡ view_line answer ++ newline
view_ends (ended.Decided view members) = ap (λ (l : List ℕ). codes "decided " ++ (decimal view.0 ++ l)) (members_end members) ∙ simp append_assoc refl
view_ends (ended.Outbid ballot) = simp append_assoc refl
view_ends (ended.NotSynced brick) = simp append_assoc refl
view_ends (ended.Moved view) = simp append_assoc refl
view_ends ended.BadMembers = refl

-- how a synchronisation ended, and the line feed
sync_ends : (answer : SyncAnswer) → sync_answer_text answer ≡ sync_line answer ++ newline
sync_ends (synced.Synced view) = simp append_assoc refl
sync_ends (synced.Stopped stripe cause) =
    ap (λ (l : List ℕ). codes "stopped " ++ (decimal stripe.0 ++ (codes " " ++ l))) (cause_ends cause) ∙ simp append_assoc refl
sync_ends (synced.Spent stripe) = simp append_assoc refl

-- how a scrub ended, and the line feed
scrub_ends : (answer : ScrubAnswer) → scrub_answer_text answer ≡ scrub_line answer ++ newline
scrub_ends scrubbed.Clean = refl
scrub_ends (scrubbed.Repaired stamp lagging) =
    ap (λ (l : List ℕ). codes "repaired " ++ (stamp_text stamp ++ l)) (members_end lagging) ∙ simp append_assoc refl
scrub_ends (scrubbed.Aborted cause) = ap (λ (l : List ℕ). codes "aborted " ++ l) (cause_ends cause) ∙ simp append_assoc refl

-- the printed text is the line and its line feed
pub report_ends : (report : Report) → report_text report ≡ report_line report ++ newline
report_ends (View group call answer) =
    ap (λ (l : List ℕ). codes "view " ++ (decimal group.0 ++ (codes " " ++ l))) (view_ends answer) ∙ simp append_assoc refl
report_ends (Sync group answer) =
    ap (λ (l : List ℕ). codes "sync " ++ (decimal group.0 ++ (codes " " ++ l))) (sync_ends answer) ∙ simp append_assoc refl
report_ends (Scrub call members answer) =
    ap (λ (l : List ℕ). codes "scrub " ++ (decimal call.group.0 ++ (codes " " ++ (decimal call.stripe.0 ++ (codes " " ++ l))))) (scrub_ends answer)
    ∙ simp append_assoc refl

-- it is one line, and short

-- members
members_piece : (members : List BrickId) → EachSmall members → IsPiece (21 * length members) (members_line members)
members_piece [] reads = literal _ [] refl (omega arith)
members_piece (member ∷ members) reads =
    piece_most (1 + (20 + 21 * length members)) (21 * suc (length members)) _ (omega arith)
    (piece_both 1 (20 + 21 * length members) _ _ space
    (piece_both 20 (21 * length members) _ _ (digits_piece member.0 reads.0) (members_piece members reads.1)))

-- a ballot
ballot_piece : (ballot : Ballot) → BallotReads ballot → IsPiece 100 (ballot_text ballot)
ballot_piece ballot reads =
    piece_most _ 100 _ (omega arith) (piece_both 20 _ _ _ (digits_piece ballot.round reads.round) (piece_both 1 _ _ _ dot
    (piece_both 20 _ _ _ (digits_piece ballot.brick.0 reads.brick) (piece_both 1 20 _ _ dot (digits_piece ballot.boot reads.boot)))))

-- how a proposal ended
view_piece : (answer : ViewAnswer) → ViewAnswerReads answer → MembersFit answer → IsPiece 900 (view_line answer)
view_piece (ended.Decided view members) reads fits =
    piece_most (8 + (20 + 21 * length members)) 900 _ (omega (arith, fits.1))
    (piece_both 8 (20 + 21 * length members) _ _ (literal 8 (codes "decided ") refl (omega arith))
    (piece_both 20 (21 * length members) _ _ (digits_piece view.0 reads.0) (members_piece members (each_small members reads.1))))
view_piece (ended.Outbid ballot) reads fits =
    piece_most _ 900 _ (omega arith) (piece_both 7 100 _ _ (literal 7 (codes "outbid ") refl (omega arith)) (ballot_piece ballot reads))
view_piece (ended.NotSynced brick) reads fits =
    piece_most _ 900 _ (omega arith) (piece_both 10 20 _ _ (literal 10 (codes "notsynced ") refl (omega arith)) (digits_piece brick.0 reads))
view_piece (ended.Moved view) reads fits =
    piece_most _ 900 _ (omega arith) (piece_both 6 20 _ _ (literal 6 (codes "moved ") refl (omega arith)) (digits_piece view.0 reads))
view_piece ended.BadMembers reads fits = literal 900 (codes "badmembers") refl (omega arith)

-- how a synchronisation ended
sync_piece : (answer : SyncAnswer) → SyncAnswerReads answer → IsPiece 900 (sync_line answer)
sync_piece (synced.Synced view) reads =
    piece_most _ 900 _ (omega arith) (piece_both 7 20 _ _ (literal 7 (codes "synced ") refl (omega arith)) (digits_piece view.0 reads))
sync_piece (synced.Stopped stripe cause) reads =
    piece_most _ 900 _ (omega arith) (piece_both 8 _ _ _ (literal 8 (codes "stopped ") refl (omega arith)) (piece_both 20 _ _ _
    (digits_piece stripe.0 reads.0)
    (piece_both 1 200 _ _ space (cause_piece cause reads.1))))
sync_piece (synced.Spent stripe) reads =
    piece_most _ 900 _ (omega arith) (piece_both 6 20 _ _ (literal 6 (codes "spent ") refl (omega arith)) (digits_piece stripe.0 reads))

-- how a scrub ended
scrub_piece : (answer : ScrubAnswer) → ScrubAnswerReads answer → IsPiece 900 (scrub_line answer)
scrub_piece scrubbed.Clean reads = literal 900 (codes "clean") refl (omega arith)
scrub_piece (scrubbed.Repaired stamp lagging) reads =
    piece_most (9 + (100 + 21 * length lagging)) 900 _ (omega (arith, reads.2))
    (piece_both 9 (100 + 21 * length lagging) _ _ (literal 9 (codes "repaired ") refl (omega arith))
    (piece_both 100 (21 * length lagging) _ _ (stamp_piece stamp reads.0) (members_piece lagging (each_small lagging reads.1))))
scrub_piece (scrubbed.Aborted cause) reads =
    piece_most _ 900 _ (omega arith) (piece_both 8 200 _ _ (literal 8 (codes "aborted ") refl (omega arith)) (cause_piece cause reads))

-- a report
pub report_piece : (report : Report) → ReportReads report → ReportFits report → IsPiece 1000 (report_line report)
report_piece (View group call answer) reads fits =
    piece_most _ 1000 _ (omega arith) (piece_both 5 _ _ _ (literal 5 (codes "view ") refl (omega arith)) (piece_both 20 _ _ _
    (digits_piece group.0 reads.0)
    (piece_both 1 900 _ _ space (view_piece answer reads.1 fits))))
report_piece (Sync group answer) reads fits =
    piece_most _ 1000 _ (omega arith) (piece_both 5 _ _ _ (literal 5 (codes "sync ") refl (omega arith)) (piece_both 20 _ _ _
    (digits_piece group.0 reads.0)
    (piece_both 1 900 _ _ space (sync_piece answer reads.1))))
report_piece (Scrub call members answer) reads fits =
    piece_most _ 1000 _ (omega arith) (piece_both 6 _ _ _ (literal 6 (codes "scrub ") refl (omega arith)) (piece_both 20 _ _ _
    (digits_piece call.group.0 reads.0) (piece_both 1 _ _ _ space (piece_both 20 _ _ _ (digits_piece call.stripe.0 reads.1)
    (piece_both 1 900 _ _ space (scrub_piece answer reads.2))))))

-- how a proposal ended reads back

-- a number is plain
number_plain : (n : ℕ) → IsSmall n → is_plain (decimal n) ≡ true
unfolding is_plain
number_plain n small = ap (λ (found : Option ℕ). is_some found) (plain_back n small)

-- the members stand between the spaces
members_split : (member : BrickId) (members : List BrickId) → IsSmall member.0 → EachSmall members
    → slice_split (λ byte. byte == 32) (decimal member.0 ++ members_line members) ≡ map (λ (one : BrickId). decimal one.0) (member ∷ members)
members_split member [] first others =
    ap (slice_split (λ byte. byte == 32)) (append-nil (decimal member.0)) ∙ split_alone (decimal member.0) (digits_no_space member.0 first)
members_split member (next ∷ members) first others =
    split_first (decimal member.0) (decimal next.0 ++ members_line members) (digits_no_space member.0 first)
    ∙ ap (λ (l : List (List ℕ)). decimal member.0 ∷ l) (members_split next members others.0 others.1)

-- each is plain
each_plain : (members : List BrickId) → EachSmall members → list_all is_plain (map (λ (one : BrickId). decimal one.0) members) ≡ true
each_plain [] reads = refl
each_plain (member ∷ members) reads =
    ap (λ (b : Bool). b && list_all is_plain (map (λ (one : BrickId). decimal one.0) members)) (number_plain member.0 reads.0)
    ∙ each_plain members reads.1

members_plain : (member : BrickId) (members : List BrickId) → IsSmall member.0 → EachSmall members
    → are_plain (decimal member.0 ++ members_line members) ≡ true
unfolding are_plain
members_plain member members first others =
    ap (list_all is_plain) (members_split member members first others) ∙ each_plain (member ∷ members) (first, others)

-- what stands behind `decided`
decided_back : (view : ℕ) (members : List BrickId) → IsSmall view → EachSmall members → 1 ≤ length members
    → is_decided (decimal view ++ members_line members) ≡ true
unfolding is_decided
decided_back view [] small reads some = absurd (omega arith)
decided_back view (member ∷ members) small reads some =
    or_some _ _ _ _ (before_back 32 view (decimal member.0 ++ members_line members) refl small) ∙ members_plain member members reads.0 reads.1

-- a ballot
ballot_back : (ballot : Ballot) → BallotReads ballot → is_ballot (ballot_text ballot) ≡ true
unfolding is_ballot
ballot_back ballot reads =
    or_some _ _ _ _ (before_back 46 ballot.round _ refl reads.round) ∙ or_some _ _ _ _ (before_back 46 ballot.brick.0 _ refl reads.brick)
    ∙ number_plain ballot.boot reads.boot

-- `badmembers`
bad_back : is_view_end (codes "badmembers") ≡ true
unfolding is_view_end behind
bad_back = refl

-- each of the five ends
view_back : (answer : ViewAnswer) → ViewAnswerReads answer → MembersFit answer → is_view_end (view_line answer) ≡ true
unfolding is_view_end
view_back (ended.Decided view members) reads fits =
    or_some _ _ _ _ (behind_front (codes "decided ") _) ∙ decided_back view.0 members reads.0 (each_small members reads.1) fits.0
view_back (ended.Outbid ballot) reads fits =
    or_none _ _ _ (behind_other 100 111 _ _ refl) ∙ or_some _ _ _ _ (behind_front (codes "outbid ") _) ∙ ballot_back ballot reads
view_back (ended.NotSynced brick) reads fits =
    or_none _ _ _ (behind_other 100 110 _ _ refl) ∙ or_none _ _ _ (behind_other 111 110 _ _ refl)
    ∙ or_some _ _ _ _ (behind_front (codes "notsynced ") _) ∙ number_plain brick.0 reads
view_back (ended.Moved view) reads fits =
    or_none _ _ _ (behind_other 100 109 _ _ refl) ∙ or_none _ _ _ (behind_other 111 109 _ _ refl)
    ∙ or_none _ _ _ (behind_other 110 109 _ _ refl) ∙ or_some _ _ _ _ (behind_front (codes "moved ") _) ∙ number_plain view.0 reads
view_back ended.BadMembers reads fits = bad_back

-- how a synchronisation ended reads back

-- three words begin with one letter
stopped_not : (rest : List ℕ) → behind (codes "synced ") (codes "stopped " ++ rest) ≡ None
unfolding behind
stopped_not rest = refl

spent_not : (rest : List ℕ) → behind (codes "synced ") (codes "spent " ++ rest) ≡ None
unfolding behind
spent_not rest = refl

spent_not_stopped : (rest : List ℕ) → behind (codes "stopped ") (codes "spent " ++ rest) ≡ None
unfolding behind
spent_not_stopped rest = refl

-- what stands behind `stopped`
stopped_back : (stripe : ℕ) (cause : Cause) → IsSmall stripe → CauseReads cause → is_stopped (decimal stripe ++ (codes " " ++ cause_line cause)) ≡ true
unfolding is_stopped
stopped_back stripe cause small reads =
    or_some _ _ _ _ (before_back 32 stripe _ refl small) ∙ ap (λ (found : Option _). is_some found) (cause_back cause reads)

-- each of the three ends
sync_back : (answer : SyncAnswer) → SyncAnswerReads answer → is_sync_end (sync_line answer) ≡ true
unfolding is_sync_end
sync_back (synced.Synced view) reads = or_some _ _ _ _ (behind_front (codes "synced ") _) ∙ number_plain view.0 reads
sync_back (synced.Stopped stripe cause) reads =
    or_none _ _ _ (stopped_not _) ∙ or_some _ _ _ _ (behind_front (codes "stopped ") _) ∙ stopped_back stripe.0 cause reads.0 reads.1
sync_back (synced.Spent stripe) reads =
    or_none _ _ _ (spent_not _) ∙ or_none _ _ _ (spent_not_stopped _) ∙ or_some _ _ _ _ (behind_front (codes "spent ") _)
    ∙ number_plain stripe.0 reads

-- how a scrub ended reads back

-- no space stands in a stamp
stamp_no_space : (stamp : Stamp) → StampReads stamp → list_all (λ byte. not (byte == 32)) (stamp_text stamp) ≡ true
stamp_no_space stamp reads =
    all_both (λ byte. not (byte == 32)) (decimal stamp.view.0) _ (digits_no_space stamp.view.0 reads.view)
    (all_both (λ byte. not (byte == 32)) (decimal stamp.time) _ (digits_no_space stamp.time reads.time)
    (all_both (λ byte. not (byte == 32)) (decimal stamp.brick.0) (codes "." ++ decimal stamp.boot) (digits_no_space stamp.brick.0 reads.brick)
    (digits_no_space stamp.boot reads.boot)))

-- it is one
stamp_is : (stamp : Stamp) → StampReads stamp → is_some (stamp_of (stamp_text stamp)) ≡ true
stamp_is stamp reads = ap (λ (found : Option ClaimedStamp). is_some found) (stamp_back stamp reads)

-- what stands behind `repaired`
repaired_back : (stamp : Stamp) (lagging : List BrickId) → StampReads stamp → EachSmall lagging → is_repaired (stamp_text stamp ++ members_line lagging) ≡ true
unfolding is_repaired
repaired_back stamp [] reads small =
    ap (λ (text : List ℕ). or_else (cut 32 text) (λ parts. if is_some (stamp_of parts.0) then are_plain parts.1 else false) (is_some (stamp_of text)))
    (append-nil (stamp_text stamp))
    ∙ or_none _ _ _ (cut_none 32 (stamp_text stamp) (stamp_no_space stamp reads)) ∙ stamp_is stamp reads
repaired_back stamp (member ∷ members) reads small =
    or_some _ _ _ _ (cut_at 32 (stamp_text stamp) (decimal member.0 ++ members_line members) (stamp_no_space stamp reads))
    ∙ ap (λ (b : Bool). if b then are_plain (decimal member.0 ++ members_line members) else false) (stamp_is stamp reads)
    ∙ members_plain member members small.0 small.1

-- `clean`
clean_back : is_scrub_end (codes "clean") ≡ true
unfolding is_scrub_end behind
clean_back = refl

-- each of the three ends
scrub_back : (answer : ScrubAnswer) → ScrubAnswerReads answer → is_scrub_end (scrub_line answer) ≡ true
unfolding is_scrub_end
scrub_back scrubbed.Clean reads = clean_back
scrub_back (scrubbed.Repaired stamp lagging) reads =
    or_some _ _ _ _ (behind_front (codes "repaired ") _) ∙ repaired_back stamp lagging reads.0 (each_small lagging reads.1)
scrub_back (scrubbed.Aborted cause) reads =
    or_none _ _ _ (behind_other 114 97 _ _ refl) ∙ or_some _ _ _ _ (behind_front (codes "aborted ") _)
    ∙ ap (λ (found : Option _). is_some found) (cause_back cause reads)

-- a report reads back

-- two words begin with one letter
scrub_not_sync : (rest : List ℕ) → behind (codes "sync ") (codes "scrub " ++ rest) ≡ None
unfolding behind
scrub_not_sync rest = refl

-- it is one of the other words
report_word : (report : Report) → ReportReads report → ReportFits report → is_word (report_line report) ≡ true
unfolding is_word is_view is_sync is_scrub
report_word (View group call answer) reads fits =
    or_none _ _ _ (behind_other 114 118 _ _ refl) ∙ or_some _ _ _ _ (behind_front (codes "view ") _)
    ∙ or_some _ _ _ _ (before_back 32 group.0 _ refl reads.0) ∙ view_back answer reads.1 fits
report_word (Sync group answer) reads fits =
    or_none _ _ _ (behind_other 114 115 _ _ refl) ∙ or_none _ _ _ (behind_other 118 115 _ _ refl)
    ∙ or_some _ _ _ _ (behind_front (codes "sync ") _) ∙ or_some _ _ _ _ (before_back 32 group.0 _ refl reads.0) ∙ sync_back answer reads.1
report_word (Scrub call members answer) reads fits =
    or_none _ _ _ (behind_other 114 115 _ _ refl) ∙ or_none _ _ _ (behind_other 118 115 _ _ refl) ∙ or_none _ _ _ (scrub_not_sync _)
    ∙ or_some _ _ _ _ (behind_front (codes "scrub ") _) ∙ or_some _ _ _ _ (before_back 32 call.group.0 _ refl reads.0)
    ∙ or_some _ _ _ _ (before_back 32 call.stripe.0 _ refl reads.1) ∙ scrub_back answer reads.2

-- so it has their form
word_form : (text : List ℕ) → is_word text ≡ true → form text ≡ Some Other
unfolding form
word_form text is = rw is refl

-- The line of a report says that it is no mark.
pub report_back : (report : Report) → ReportReads report → ReportFits report → entry_of (report_line report) ≡ Some Other
report_back report reads fits =
    entry_short (report_line report) (let short = (report_piece report reads fits).short in omega arith)
    ∙ word_form (report_line report) (report_word report reads fits)
