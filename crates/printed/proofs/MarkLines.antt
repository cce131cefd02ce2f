-- The printed line of a mark reads back as that mark.
use Rattle.std.proofs.Common.{◌≡◌, ℕ, ◌*◌, ◌≤◌, Bool, true, false, cond, nat_le, nat_eq, List, ◌∷◌, ◌++◌, length, Some, None, refl, sym, ap, ◌∙◌, arith, codes, append_assoc}
use Rattle.std.specs.Prelude.{⊤}
use Rattle.std.specs.List.{list_all}
use Rattle.std.specs.Str.{bytes_eq}
use Rattle.std.specs.Fmt.{decimal}
use Rattle.std.proofs.lemmas.Bool.Decides.{nat_tests}
use Rattle.hex.specs.Hex.{encode_lower, IsBytes}
use Rattle.fab_base.specs.declared.asks.Ask.{Ask}
use Rattle.fab_base.specs.declared.asks.Op.{Op}
use Rattle.fab_base.specs.declared.asks.Op.TheVariants.{ReadBlock, WriteBlock, ReadStripe, WriteStripe}
use Rattle.fab_base.specs.declared.answers.Answer.{Answer}
use Rattle.fab_base.specs.declared.answers.Answer.TheVariants.{Data, Done, Aborted}
use Rattle.fab_base.specs.declared.answers.Cause.{Cause}
use Rattle.fab_base.specs.declared.answers.Cause.TheVariants.{Later, Gone, Full, Moved}
use Rattle.fab_base.specs.declared.stamps.Stamp.{Stamp}
use Rattle.fab_base.specs.Stamps.{stamp_text}
use Rattle.lines.specs.declared.forms.Access.{Access}
use Rattle.lines.specs.declared.forms.Access.TheVariants as access
use Rattle.reg_model.specs.declared.marks.Mark.{Mark}
use Rattle.reg_model.specs.declared.marks.Mark.TheVariants.{Begin, End, Crash}
use Rattle.transcript.specs.declared.claims.ParsedMark.{ParsedMark}
use Rattle.transcript.specs.declared.claims.ParsedMark.TheVariants as claim
use Rattle.transcript.specs.declared.claims.ParsedAnswer.{ParsedAnswer}
use Rattle.transcript.specs.declared.claims.ParsedAnswer.TheVariants as outcome
use Rattle.transcript.specs.declared.claims.ParsedCause.{ParsedCause}
use Rattle.transcript.specs.declared.claims.ParsedCause.TheVariants as reason
use Rattle.transcript.specs.declared.claims.Entry.TheVariants as entry
use Rattle.transcript.specs.Forms.{begins, ends, read_of, write_of, read_all_of, write_all_of, ask_of, begin_of, data_of, aborted_of, answer_of, end_of, crash_of, mark_at, mark_of_line, happened_of, counts_of, form, entry_of, most_line_bytes}
use Rattle.transcript.specs.Marks.{op_of, mark_of}
use Rattle.transcript.specs.Tokens.{behind}
use Rattle.transcript.specs.Words.{or_else, stamp_of, later_of, gone_of, full_of, moved_of, cause_of, is_word}
use Rattle.fab_base.specs.Texts.{newline, cause_text}
use Rattle.world.specs.Texts.{place_text, op_text, answer_text, mark_text}
use Rattle.printed.specs.Spellings.{IsSmall, StampReads, CauseReads}
use Rattle.printed.proofs.Tokens.{is_clear, bind_some, or_some, or_none, IsPiece, piece_both, piece_most, digits_piece, BeginsDigit, begins_digit, plain_back, before_back, behind_front, behind_other, hex_piece, hex_back}

-- the mark as it is claimed

-- what is asked
abbrev pub access_of : Op → Access
access_of (ReadBlock j) = access.ReadBlock j
access_of (WriteBlock j bytes) = access.WriteBlock j bytes
access_of ReadStripe = access.ReadStripe
access_of (WriteStripe bytes) = access.WriteStripe bytes

-- why an operation was aborted
abbrev pub reason_of : Cause → ParsedCause
reason_of (Later brick stamp) =
    reason.Later brick.0 (record { view = stamp.view.0; time = stamp.time; brick = stamp.brick.0; boot = stamp.boot })
reason_of (Gone brick) = reason.Gone brick.0
reason_of (Full brick live) = reason.Full brick.0 live
reason_of (Moved brick view) = reason.Moved brick.0 view.0

-- an answer
abbrev pub outcome_of : Answer → ParsedAnswer
outcome_of (Data bytes) = outcome.Data bytes
outcome_of Done = outcome.Done
outcome_of (Aborted cause) = outcome.Aborted (reason_of cause)

-- a mark
abbrev pub claim_of : Mark → ParsedMark
claim_of (Begin p n b ask) = claim.Begin p n b.0 ask.group.0 ask.stripe.0 (access_of ask.op)
claim_of (End p n answer) = claim.End p n (outcome_of answer)
claim_of (Crash p b) = claim.Crash p b.0

-- what is asked is claimed as it is
op_same : (op : Op) → op_of (access_of op) ≡ op
op_same (ReadBlock j) = refl
op_same (WriteBlock j bytes) = refl
op_same ReadStripe = refl
op_same (WriteStripe bytes) = refl

-- which is that mark
pub claimed : (mark : Mark) → mark_of (claim_of mark) ≡ mark
claimed (Begin p n b ask) = ap (λ (op : Op). Begin p n b (record { group = ask.group; stripe = ask.stripe; op = op })) (op_same ask.op)
claimed (End p n (Data bytes)) = refl
claimed (End p n Done) = refl
claimed (End p n (Aborted (Later brick stamp))) = refl
claimed (End p n (Aborted (Gone brick))) = refl
claimed (End p n (Aborted (Full brick live))) = refl
claimed (End p n (Aborted (Moved brick view))) = refl
claimed (Crash p b) = refl

-- numbers and bytes that have a spelling

-- the most bytes that a mark tells
abbrev pub most_told : ℕ
most_told = 32768

-- bytes, at least one, and no more than a mark tells
pub record IsTold (bytes : List ℕ) : Type 0 where
  pub some : 1 ≤ length bytes
  pub few : length bytes ≤ most_told
  pub are : IsBytes bytes

-- what is asked
abbrev pub OpReads : Op → Type 0
OpReads (ReadBlock j) = IsSmall j
OpReads (WriteBlock j bytes) = IsSmall j × IsTold bytes
OpReads ReadStripe = ⊤
OpReads (WriteStripe bytes) = IsTold bytes

-- an answer
abbrev pub AnswerReads : Answer → Type 0
AnswerReads (Data bytes) = IsTold bytes
AnswerReads Done = ⊤
AnswerReads (Aborted cause) = CauseReads cause

-- what is asked, and of which stripe
pub record AskReads (ask : Ask) : Type 0 where
  pub group : IsSmall ask.group.0
  pub stripe : IsSmall ask.stripe.0
  pub op : OpReads ask.op

-- a mark that reads back
abbrev pub MarkReads : Mark → Type 0
MarkReads (Begin p n b ask) = IsSmall p × IsSmall n × IsSmall b.0 × AskReads ask
MarkReads (End p n answer) = IsSmall p × IsSmall n × AnswerReads answer
MarkReads (Crash p b) = IsSmall p × IsSmall b.0

-- the line of a mark, without its line feed

-- what is asked
abbrev op_line : Ask → Op → List ℕ
op_line ask (ReadBlock j) = codes "read " ++ place_text ask (codes " " ++ decimal j)
op_line ask (WriteBlock j bytes) = codes "write " ++ place_text ask (codes " " ++ (decimal j ++ (codes " " ++ encode_lower bytes)))
op_line ask ReadStripe = codes "readall " ++ (decimal ask.group.0 ++ (codes " " ++ decimal ask.stripe.0))
op_line ask (WriteStripe bytes) = codes "writeall " ++ place_text ask (codes " " ++ encode_lower bytes)

-- why an operation was aborted
abbrev pub cause_line : Cause → List ℕ
cause_line (Later brick stamp) = codes "later " ++ (decimal brick.0 ++ (codes " " ++ stamp_text stamp))
cause_line (Gone brick) = codes "gone " ++ decimal brick.0
cause_line (Full brick live) = codes "full " ++ (decimal brick.0 ++ (codes " " ++ decimal live))
cause_line (Moved brick view) = codes "moved " ++ (decimal brick.0 ++ (codes " " ++ decimal view.0))

-- an answer
abbrev answer_line : Answer → List ℕ
answer_line (Data bytes) = codes "data " ++ encode_lower bytes
answer_line Done = codes "done"
answer_line (Aborted cause) = codes "aborted " ++ cause_line cause

-- a mark
abbrev pub mark_line : Mark → List ℕ
mark_line (Begin p n brick ask) =
    decimal p ++ (codes " begin " ++ (decimal n ++ (codes " " ++ (decimal brick.0 ++ (codes " " ++ op_line ask ask.op)))))
mark_line (End p n answer) = decimal p ++ (codes " end " ++ (decimal n ++ (codes " " ++ answer_line answer)))
mark_line (Crash p brick) = decimal p ++ (codes " crash " ++ decimal brick.0)

-- what is asked, and its line feed
op_ends : (ask : Ask) (op : Op) → op_text ask op ≡ op_line ask op ++ newline
op_ends ask (ReadBlock j) = simp append_assoc refl
op_ends ask (WriteBlock j bytes) = simp append_assoc refl
op_ends ask ReadStripe = simp append_assoc refl
op_ends ask (WriteStripe bytes) = simp append_assoc refl

-- why an operation was aborted, and its line feed
pub cause_ends : (cause : Cause) → cause_text cause ≡ cause_line cause ++ newline
cause_ends (Later brick stamp) = simp append_assoc refl
cause_ends (Gone brick) = simp append_assoc refl
cause_ends (Full brick live) = simp append_assoc refl
cause_ends (Moved brick view) = simp append_assoc refl

-- an answer, and its line feed
answer_ends : (answer : Answer) → answer_text answer ≡ answer_line answer ++ newline
answer_ends (Data bytes) = simp append_assoc refl
answer_ends Done = refl
answer_ends (Aborted cause) = ap (λ (l : List ℕ). codes "aborted " ++ l) (cause_ends cause) ∙ simp append_assoc refl

-- the printed text is the line and its line feed
pub mark_ends : (mark : Mark) → mark_text mark ≡ mark_line mark ++ newline
mark_ends (Begin p n brick ask) =
    ap (λ (l : List ℕ). decimal p ++ (codes " begin " ++ (decimal n ++ (codes " " ++ (decimal brick.0 ++ (codes " " ++ l)))))) (op_ends ask ask.op)
    ∙ simp append_assoc refl
mark_ends (End p n answer) =
    ap (λ (l : List ℕ). decimal p ++ (codes " end " ++ (decimal n ++ (codes " " ++ l)))) (answer_ends answer) ∙ simp append_assoc refl
mark_ends (Crash p brick) = simp append_assoc refl

-- it is one line, and no longer than a line may be

-- a text that computes
pub literal : (most : ℕ) (text : List ℕ) → list_all is_clear text ≡ true → length text ≤ most → IsPiece most text
literal most text clear short = record { clear = clear; short = short }

-- a space
pub space : IsPiece 1 (codes " ")
space = literal 1 (codes " ") refl (omega arith)

-- what is asked
op_piece : (ask : Ask) (op : Op) → IsSmall ask.group.0 → IsSmall ask.stripe.0 → OpReads op → IsPiece 65700 (op_line ask op)
op_piece ask (ReadBlock j) g s reads =
    piece_most _ 65700 _ (omega arith) (piece_both 5 _ _ _ (literal 5 (codes "read ") refl (omega arith)) (piece_both 20 _ _ _
    (digits_piece ask.group.0 g)
    (piece_both 1 _ _ _ space (piece_both 20 _ _ _ (digits_piece ask.stripe.0 s) (piece_both 1 20 _ _ space (digits_piece j reads))))))
op_piece ask (WriteBlock j bytes) g s reads =
    piece_most _ 65700 _ (omega arith) (piece_both 6 _ _ _ (literal 6 (codes "write ") refl (omega arith)) (piece_both 20 _ _ _
    (digits_piece ask.group.0 g)
    (piece_both 1 _ _ _ space (piece_both 20 _ _ _ (digits_piece ask.stripe.0 s) (piece_both 1 _ _ _ space (piece_both 20 _ _ _
    (digits_piece j reads.0)
    (piece_both 1 (2 * most_told) _ _ space (hex_piece most_told bytes reads.1.are reads.1.few))))))))
op_piece ask ReadStripe g s reads =
    piece_most _ 65700 _ (omega arith) (piece_both 8 _ _ _ (literal 8 (codes "readall ") refl (omega arith)) (piece_both 20 _ _ _
    (digits_piece ask.group.0 g)
    (piece_both 1 20 _ _ space (digits_piece ask.stripe.0 s))))
op_piece ask (WriteStripe bytes) g s reads =
    piece_most _ 65700 _ (omega arith) (piece_both 9 _ _ _ (literal 9 (codes "writeall ") refl (omega arith)) (piece_both 20 _ _ _
    (digits_piece ask.group.0 g)
    (piece_both 1 _ _ _ space (piece_both 20 _ _ _ (digits_piece ask.stripe.0 s)
    (piece_both 1 (2 * most_told) _ _ space (hex_piece most_told bytes reads.are reads.few))))))

-- a dot
pub dot : IsPiece 1 (codes ".")
dot = literal 1 (codes ".") refl (omega arith)

-- a stamp
pub stamp_piece : (stamp : Stamp) → StampReads stamp → IsPiece 100 (stamp_text stamp)
stamp_piece stamp reads =
    piece_most _ 100 _ (omega arith) (piece_both 20 _ _ _ (digits_piece stamp.view.0 reads.view) (piece_both 1 _ _ _ dot
    (piece_both 20 _ _ _ (digits_piece stamp.time reads.time) (piece_both 1 _ _ _ dot (piece_both 20 _ _ _ (digits_piece stamp.brick.0 reads.brick)
    (piece_both 1 20 _ _ dot (digits_piece stamp.boot reads.boot)))))))

-- why an operation was aborted
pub cause_piece : (cause : Cause) → CauseReads cause → IsPiece 200 (cause_line cause)
cause_piece (Later brick stamp) reads =
    piece_most _ 200 _ (omega arith) (piece_both 6 _ _ _ (literal 6 (codes "later ") refl (omega arith)) (piece_both 20 _ _ _
    (digits_piece brick.0 reads.0)
    (piece_both 1 100 _ _ space (stamp_piece stamp reads.1))))
cause_piece (Gone brick) reads =
    piece_most _ 200 _ (omega arith) (piece_both 5 20 _ _ (literal 5 (codes "gone ") refl (omega arith)) (digits_piece brick.0 reads))
cause_piece (Full brick live) reads =
    piece_most _ 200 _ (omega arith) (piece_both 5 _ _ _ (literal 5 (codes "full ") refl (omega arith)) (piece_both 20 _ _ _
    (digits_piece brick.0 reads.0)
    (piece_both 1 20 _ _ space (digits_piece live reads.1))))
cause_piece (Moved brick view) reads =
    piece_most _ 200 _ (omega arith) (piece_both 6 _ _ _ (literal 6 (codes "moved ") refl (omega arith)) (piece_both 20 _ _ _
    (digits_piece brick.0 reads.0)
    (piece_both 1 20 _ _ space (digits_piece view.0 reads.1))))

-- an answer
answer_piece : (answer : Answer) → AnswerReads answer → IsPiece 65700 (answer_line answer)
answer_piece (Data bytes) reads =
    piece_most _ 65700 _ (omega arith) (piece_both 5 (2 * most_told) _ _ (literal 5 (codes "data ") refl (omega arith))
    (hex_piece most_told bytes reads.are reads.few))
answer_piece Done reads = literal 65700 (codes "done") refl (omega arith)
answer_piece (Aborted cause) reads =
    piece_most _ 65700 _ (omega arith) (piece_both 8 200 _ _ (literal 8 (codes "aborted ") refl (omega arith)) (cause_piece cause reads))

-- a mark
pub mark_piece : (mark : Mark) → MarkReads mark → IsPiece most_line_bytes (mark_line mark)
mark_piece (Begin p n brick ask) reads =
    piece_most _ most_line_bytes _ (omega arith) (piece_both 20 _ _ _ (digits_piece p reads.0)
    (piece_both 7 _ _ _ (literal 7 (codes " begin ") refl (omega arith)) (piece_both 20 _ _ _ (digits_piece n reads.1) (piece_both 1 _ _ _ space
    (piece_both 20 _ _ _ (digits_piece brick.0 reads.2) (piece_both 1 65700 _ _ space
    (op_piece ask ask.op reads.3.group reads.3.stripe reads.3.op)))))))
mark_piece (End p n answer) reads =
    piece_most _ most_line_bytes _ (omega arith) (piece_both 20 _ _ _ (digits_piece p reads.0)
    (piece_both 5 _ _ _ (literal 5 (codes " end ") refl (omega arith)) (piece_both 20 _ _ _ (digits_piece n reads.1)
    (piece_both 1 65700 _ _ space (answer_piece answer reads.2)))))
mark_piece (Crash p brick) reads =
    piece_most _ most_line_bytes _ (omega arith) (piece_both 20 _ _ _ (digits_piece p reads.0)
    (piece_both 7 20 _ _ (literal 7 (codes " crash ") refl (omega arith)) (digits_piece brick.0 reads.1)))

-- what is asked reads back

-- `readall` is not `read`
readall_not : (rest : List ℕ) → behind (codes "read ") (codes "readall " ++ rest) ≡ None
unfolding behind
readall_not rest = refl

-- nor `writeall` `write`
writeall_not : (rest : List ℕ) → behind (codes "write ") (codes "writeall " ++ rest) ≡ None
unfolding behind
writeall_not rest = refl

-- each of the four operations
ask_back : (p n b : ℕ) (ask : Ask) (op : Op) → IsSmall ask.group.0 → IsSmall ask.stripe.0 → OpReads op
    → ask_of p n b (op_line ask op) ≡ begins p n b ask.group.0 ask.stripe.0 (access_of op)
unfolding ask_of read_of write_of read_all_of write_all_of
ask_back p n b ask (ReadBlock j) g s reads =
    or_some _ _ _ _ (behind_front (codes "read ") _)
    ∙ bind_some _ _ _ (before_back 32 ask.group.0 _ refl g) ∙ bind_some _ _ _ (before_back 32 ask.stripe.0 _ refl s)
    ∙ bind_some _ _ _ (plain_back j reads)
ask_back p n b ask (WriteBlock j bytes) g s reads =
    or_none _ _ _ (behind_other 114 119 _ _ refl) ∙ or_some _ _ _ _ (behind_front (codes "write ") _)
    ∙ bind_some _ _ _ (before_back 32 ask.group.0 _ refl g) ∙ bind_some _ _ _ (before_back 32 ask.stripe.0 _ refl s)
    ∙ bind_some _ _ _ (before_back 32 j _ refl reads.0) ∙ bind_some _ _ _ (hex_back bytes reads.1.are reads.1.some)
ask_back p n b ask ReadStripe g s reads =
    or_none _ _ _ (readall_not _) ∙ or_none _ _ _ (behind_other 119 114 _ _ refl) ∙ or_some _ _ _ _ (behind_front (codes "readall ") _)
    ∙ bind_some _ _ _ (before_back 32 ask.group.0 _ refl g) ∙ bind_some _ _ _ (plain_back ask.stripe.0 s)
ask_back p n b ask (WriteStripe bytes) g s reads =
    or_none _ _ _ (behind_other 114 119 _ _ refl) ∙ or_none _ _ _ (writeall_not _) ∙ or_none _ _ _ (behind_other 114 119 _ _ refl)
    ∙ or_some _ _ _ _ (behind_front (codes "writeall ") _)
    ∙ bind_some _ _ _ (before_back 32 ask.group.0 _ refl g) ∙ bind_some _ _ _ (before_back 32 ask.stripe.0 _ refl s)
    ∙ bind_some _ _ _ (hex_back bytes reads.are reads.some)

-- why an operation was aborted reads back

-- a stamp reads back
pub stamp_back : (stamp : Stamp) → StampReads stamp
    → stamp_of (stamp_text stamp) ≡ Some (record { view = stamp.view.0; time = stamp.time; brick = stamp.brick.0; boot = stamp.boot })
unfolding stamp_of
stamp_back stamp reads =
    bind_some _ _ _ (before_back 46 stamp.view.0 _ refl reads.view) ∙ bind_some _ _ _ (before_back 46 stamp.time _ refl reads.time)
    ∙ bind_some _ _ _ (before_back 46 stamp.brick.0 _ refl reads.brick) ∙ bind_some _ _ _ (plain_back stamp.boot reads.boot)

-- each of the four causes
pub cause_back : (cause : Cause) → CauseReads cause → cause_of (cause_line cause) ≡ Some (reason_of cause)
unfolding cause_of later_of gone_of full_of moved_of
cause_back (Later brick stamp) reads =
    or_some _ _ _ _ (behind_front (codes "later ") _)
    ∙ bind_some _ _ _ (before_back 32 brick.0 _ refl reads.0) ∙ bind_some _ _ _ (stamp_back stamp reads.1)
cause_back (Gone brick) reads =
    or_none _ _ _ (behind_other 108 103 _ _ refl) ∙ or_some _ _ _ _ (behind_front (codes "gone ") _) ∙ bind_some _ _ _ (plain_back brick.0 reads)
cause_back (Full brick live) reads =
    or_none _ _ _ (behind_other 108 102 _ _ refl) ∙ or_none _ _ _ (behind_other 103 102 _ _ refl) ∙ or_some _ _ _ _ (behind_front (codes "full ") _)
    ∙ bind_some _ _ _ (before_back 32 brick.0 _ refl reads.0) ∙ bind_some _ _ _ (plain_back live reads.1)
cause_back (Moved brick view) reads =
    or_none _ _ _ (behind_other 108 109 _ _ refl) ∙ or_none _ _ _ (behind_other 103 109 _ _ refl) ∙ or_none _ _ _ (behind_other 102 109 _ _ refl)
    ∙ or_some _ _ _ _ (behind_front (codes "moved ") _)
    ∙ bind_some _ _ _ (before_back 32 brick.0 _ refl reads.0) ∙ bind_some _ _ _ (plain_back view.0 reads.1)

-- an answer reads back

-- `done`
done_back : (p n : ℕ) → answer_of p n (codes "done") ≡ ends p n outcome.Done
unfolding answer_of behind
done_back p n = refl

-- each of the three answers
answer_back : (p n : ℕ) (answer : Answer) → AnswerReads answer → answer_of p n (answer_line answer) ≡ ends p n (outcome_of answer)
unfolding answer_of data_of aborted_of
answer_back p n (Data bytes) reads =
    or_some _ _ _ _ (behind_front (codes "data ") _) ∙ bind_some _ _ _ (hex_back bytes reads.are reads.some)
answer_back p n Done reads = done_back p n
answer_back p n (Aborted cause) reads =
    or_none _ _ _ (behind_other 100 97 _ _ refl) ∙ or_some _ _ _ _ (behind_front (codes "aborted ") _) ∙ bind_some _ _ _ (cause_back cause reads)

-- the rest of a mark reads back

-- of a Begin
begin_back : (p n : ℕ) (brick : ℕ) (ask : Ask) → IsSmall n → IsSmall brick → AskReads ask
    → mark_at p (codes "begin " ++ (decimal n ++ (codes " " ++ (decimal brick ++ (codes " " ++ op_line ask ask.op)))))
    ≡ begins p n brick ask.group.0 ask.stripe.0 (access_of ask.op)
unfolding mark_at begin_of
begin_back p n brick ask small there reads =
    or_some _ _ _ _ (behind_front (codes "begin ") _)
    ∙ bind_some _ _ _ (before_back 32 n _ refl small) ∙ bind_some _ _ _ (before_back 32 brick _ refl there)
    ∙ ask_back p n brick ask ask.op reads.group reads.stripe reads.op

-- of an End
end_back : (p n : ℕ) (answer : Answer) → IsSmall n → AnswerReads answer
    → mark_at p (codes "end " ++ (decimal n ++ (codes " " ++ answer_line answer))) ≡ ends p n (outcome_of answer)
unfolding mark_at end_of
end_back p n answer small reads =
    or_none _ _ _ (behind_other 98 101 _ _ refl) ∙ or_some _ _ _ _ (behind_front (codes "end ") _)
    ∙ bind_some _ _ _ (before_back 32 n _ refl small) ∙ answer_back p n answer reads

-- of a Crash
crash_back : (p brick : ℕ) → IsSmall brick → mark_at p (codes "crash " ++ decimal brick) ≡ Some (entry.Mark (claim.Crash p brick))
unfolding mark_at crash_of
crash_back p brick small =
    or_none _ _ _ (behind_other 98 99 _ _ refl) ∙ or_none _ _ _ (behind_other 101 99 _ _ refl) ∙ or_some _ _ _ _ (behind_front (codes "crash ") _)
    ∙ bind_some _ _ _ (plain_back brick small)

-- a line that begins with a digit is a mark, if anything

-- a digit is no letter
digit_not : (d c : ℕ) → 48 ≤ d → d ≤ 57 → 58 ≤ c → nat_eq d c ≡ false
digit_not d c low high far = grind (arith, nat_tests)

-- nor the first of `idle`
not_idle : (d : ℕ) (rest : List ℕ) → nat_eq d 105 ≡ false → bytes_eq (d ∷ rest) (codes "idle") ≡ false
not_idle d rest other = rw other refl

-- so the line is none of the other words
no_word : (d : ℕ) (rest : List ℕ) → 48 ≤ d → d ≤ 57 → is_word (d ∷ rest) ≡ false
unfolding is_word
no_word d rest low high =
    or_none _ _ _ (behind_other 114 d _ rest (digit_not d 114 low high (omega arith)))
    ∙ or_none _ _ _ (behind_other 118 d _ rest (digit_not d 118 low high (omega arith)))
    ∙ or_none _ _ _ (behind_other 115 d _ rest (digit_not d 115 low high (omega arith)))
    ∙ or_none _ _ _ (behind_other 115 d _ rest (digit_not d 115 low high (omega arith)))
    ∙ not_idle d rest (digit_not d 105 low high (omega arith))

-- so it has the form of a mark
form_of_cells : (d : ℕ) (rest : List ℕ) → 48 ≤ d → d ≤ 57 → form (d ∷ rest) ≡ mark_of_line (d ∷ rest)
unfolding form
form_of_cells d rest low high =
    ap (λ (b : Bool). cond b (Some entry.Other) (or_else (behind (codes "happened ") (d ∷ rest)) happened_of
    (or_else (behind (codes "count ") (d ∷ rest)) counts_of (mark_of_line (d ∷ rest))))) (no_word d rest low high)
    ∙ or_none _ _ _ (behind_other 104 d _ rest (digit_not d 104 low high (omega arith)))
    ∙ or_none _ _ _ (behind_other 99 d _ rest (digit_not d 99 low high (omega arith)))

-- the same of a text that begins so
form_of_digit : (text : List ℕ) → BeginsDigit text → form text ≡ mark_of_line text
form_of_digit text first = ap form first.is ∙ form_of_cells first.first first.rest first.low first.high ∙ ap mark_of_line (sym first.is)

-- a line that is no longer than a line may be says what its form says
pub entry_short : (text : List ℕ) → length text ≤ most_line_bytes → entry_of text ≡ form text
unfolding entry_of
entry_short text short = let test : nat_le (length text) most_line_bytes ≡ true = grind (arith, nat_tests) in rw test refl

-- a mark's position, and what stands behind it
mark_behind : (p : ℕ) (rest : List ℕ) → IsSmall p → mark_of_line (decimal p ++ (32 ∷ rest)) ≡ mark_at p rest
unfolding mark_of_line
mark_behind p rest small = bind_some _ _ _ (before_back 32 p rest refl small)

-- the form of a line that begins with a position
mark_form : (p : ℕ) (rest : List ℕ) → IsSmall p → form (decimal p ++ (32 ∷ rest)) ≡ mark_at p rest
mark_form p rest small = form_of_digit (decimal p ++ (32 ∷ rest)) (begins_digit p (32 ∷ rest) small) ∙ mark_behind p rest small

-- The line of a mark says that mark.
pub mark_back : (mark : Mark) → MarkReads mark → entry_of (mark_line mark) ≡ Some (entry.Mark (claim_of mark))
mark_back (Begin p n brick ask) reads =
    entry_short _ (mark_piece (Begin p n brick ask) reads).short ∙ mark_form p _ reads.0 ∙ begin_back p n brick.0 ask reads.1 reads.2 reads.3
mark_back (End p n answer) reads =
    entry_short _ (mark_piece (End p n answer) reads).short ∙ mark_form p _ reads.0 ∙ end_back p n answer reads.1 reads.2
mark_back (Crash p brick) reads =
    entry_short _ (mark_piece (Crash p brick) reads).short ∙ mark_form p _ reads.0 ∙ crash_back p brick.0 reads.1
