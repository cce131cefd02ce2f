-- The other printed lines read back: refusals, `idle`, the happenings of a stripe and the counts.
use Rattle.std.proofs.Common.{◌≡◌, ℕ, suc, ◌+◌, ◌*◌, ◌<◌, ◌^◌, ◌==◌, not, Bool, true, false, cond, List, [], ◌∷◌, ◌++◌, length, map, Option, Some, None, refl, ap, ◌∙◌, arith, codes, append-nil, append_assoc}
use Rattle.std.specs.Prelude.{⊤}
use Rattle.std.specs.List.{list_all, slice_split}
use Rattle.std.specs.Fmt.{decimal}
use Rattle.fab_base.specs.declared.answers.Refusal.{Refusal}
use Rattle.fab_base.specs.declared.answers.Refusal.TheVariants.{Down, NoStripe, NoQuorum, NoBlock, Length, Busy, Spent}
use Rattle.reg_model.specs.declared.marks.Happening.{Happening}
use Rattle.transcript.specs.declared.claims.Counts.{Counts}
use Rattle.transcript.specs.declared.claims.Entry.{Entry}
use Rattle.transcript.specs.declared.claims.Entry.TheVariants.{Other, Happened, Counted}
use Rattle.transcript.specs.Forms.{happening_of, happenings_of_tokens, happenings_of, happened_of, count_behind, counts_of, mark_of_line, form, entry_of, most_line_bytes}
use Rattle.transcript.specs.Tokens.{behind}
use Rattle.transcript.specs.Words.{or_else, is_refusal, is_word}
use Rattle.fab_base.specs.Texts.{newline, refusal_text}
use Rattle.printed.specs.Outputs.{happening_text, happenings_text, happened_text}
use Rattle.printed.proofs.Tokens.{bind_some, or_some, or_none, IsPiece, piece_both, piece_most, all_both, digits_piece, digits_few, digits_no_space, plain_back, before_back, behind_front, split_first, split_alone}
use Rattle.printed.specs.Spellings.{IsSmall}
use Rattle.printed.proofs.MarkLines.{literal, entry_short}

-- why an operation was not begun, on a line without its line feed
abbrev pub refusal_line : Refusal → List ℕ
refusal_line Down = codes "refused down"
refusal_line NoStripe = codes "refused nostripe"
refusal_line NoQuorum = codes "refused noquorum"
refusal_line NoBlock = codes "refused noblock"
refusal_line Length = codes "refused length"
refusal_line Busy = codes "refused busy"
refusal_line Spent = codes "refused spent"

-- the printed text is the line and its line feed
pub refusal_ends : (refusal : Refusal) → refusal_text refusal ≡ refusal_line refusal ++ newline
refusal_ends Down = refl
refusal_ends NoStripe = refl
refusal_ends NoQuorum = refl
refusal_ends NoBlock = refl
refusal_ends Length = refl
refusal_ends Busy = refl
refusal_ends Spent = refl

-- it is one line, and short
pub refusal_piece : (refusal : Refusal) → IsPiece 100 (refusal_line refusal)
refusal_piece Down = literal 100 _ refl (omega arith)
refusal_piece NoStripe = literal 100 _ refl (omega arith)
refusal_piece NoQuorum = literal 100 _ refl (omega arith)
refusal_piece NoBlock = literal 100 _ refl (omega arith)
refusal_piece Length = literal 100 _ refl (omega arith)
refusal_piece Busy = literal 100 _ refl (omega arith)
refusal_piece Spent = literal 100 _ refl (omega arith)

-- its form
refusal_form : (refusal : Refusal) → form (refusal_line refusal) ≡ Some Other
unfolding form is_word is_refusal behind
refusal_form Down = refl
refusal_form NoStripe = refl
refusal_form NoQuorum = refl
refusal_form NoBlock = refl
refusal_form Length = refl
refusal_form Busy = refl
refusal_form Spent = refl

-- it reads back
pub refusal_back : (refusal : Refusal) → entry_of (refusal_line refusal) ≡ Some Other
refusal_back refusal =
    entry_short (refusal_line refusal) (let short = (refusal_piece refusal).short in omega arith) ∙ refusal_form refusal

-- the form of `idle`
idle_form : form (codes "idle") ≡ Some Other
unfolding form is_word behind
idle_form = refl

-- `idle` reads back
pub idle_back : entry_of (codes "idle") ≡ Some Other
idle_back = entry_short (codes "idle") (omega arith) ∙ idle_form

-- happenings

-- the numbers of a happening have few digits
pub record HappeningReads (h : Happening) : Type 0 where
  pub operation : h.operation < 10 ^ 7
  pub position : h.position < 10 ^ 7

-- each of some happenings
abbrev pub AllRead : List Happening → Type 0
AllRead [] = ⊤
AllRead (h ∷ happenings) = HappeningReads h × AllRead happenings

-- the token of one
abbrev happening_token : Happening → List ℕ
happening_token h = decimal h.operation ++ (codes "@" ++ decimal h.position)

-- the tokens behind the first, each with the space before it
abbrev more_tokens : List Happening → List ℕ
more_tokens [] = []
more_tokens (h ∷ happenings) = codes " " ++ (happening_token h ++ more_tokens happenings)

-- the line of a stripe's happenings, without its line feed
abbrev pub happened_line : ℕ → ℕ → Happening → List Happening → List ℕ
happened_line g s h happenings =
    codes "happened " ++ (decimal g ++ (codes " " ++ (decimal s ++ (codes " " ++ (happening_token h ++ more_tokens happenings)))))

-- with the line feed behind them
more_end : (happenings : List Happening) → happenings_text happenings ≡ more_tokens happenings ++ newline
more_end [] = refl
more_end (h ∷ happenings) = ap (λ (l : List ℕ). happening_text h ++ l) (more_end happenings) ∙ simp append_assoc refl

-- the printed text is the line and its line feed
pub happened_ends : (g s : ℕ) (h : Happening) (happenings : List Happening)
    → happened_text g s (h ∷ happenings) ≡ happened_line g s h happenings ++ newline
happened_ends g s h happenings =
    ap (λ (l : List ℕ). codes "happened " ++ (decimal g ++ (codes " " ++ (decimal s ++ l)))) (more_end (h ∷ happenings)) ∙ simp append_assoc refl

-- a number of few digits is below 2^64
small_number : (n : ℕ) → n < 10 ^ 7 → IsSmall n
small_number n few = omega arith

-- the token of a happening is short
token_piece : (h : Happening) → HappeningReads h → IsPiece 15 (happening_token h)
token_piece h reads =
    piece_both 7 8 _ _ (digits_few 7 h.operation (omega arith) reads.operation (small_number h.operation reads.operation))
    (piece_both 1 7 _ _ (literal 1 (codes "@") refl (omega arith))
    (digits_few 7 h.position (omega arith) reads.position (small_number h.position reads.position)))

-- so are those of several
more_piece : (happenings : List Happening) → AllRead happenings → IsPiece (16 * length happenings) (more_tokens happenings)
more_piece [] reads = literal _ [] refl (omega arith)
more_piece (h ∷ happenings) reads =
    piece_most (1 + (15 + 16 * length happenings)) (16 * suc (length happenings)) _ (omega arith)
    (piece_both 1 (15 + 16 * length happenings) _ _ (literal 1 (codes " ") refl (omega arith))
    (piece_both 15 (16 * length happenings) _ _ (token_piece h reads.0) (more_piece happenings reads.1)))

-- it is no longer than a line may be
pub happened_piece : (g s : ℕ) (h : Happening) (happenings : List Happening) → IsSmall g → IsSmall s → HappeningReads h → AllRead happenings
    → length happenings < 2000000 → IsPiece most_line_bytes (happened_line g s h happenings)
happened_piece g s h happenings group stripe first others few =
    piece_most (9 + (20 + (1 + (20 + (1 + (15 + 16 * length happenings)))))) most_line_bytes _ (omega arith)
    (piece_both 9 (20 + (1 + (20 + (1 + (15 + 16 * length happenings))))) _ _ (literal 9 (codes "happened ") refl (omega arith))
    (piece_both 20 (1 + (20 + (1 + (15 + 16 * length happenings)))) _ _ (digits_piece g group)
    (piece_both 1 (20 + (1 + (15 + 16 * length happenings))) _ _ (literal 1 (codes " ") refl (omega arith))
    (piece_both 20 (1 + (15 + 16 * length happenings)) _ _ (digits_piece s stripe)
    (piece_both 1 (15 + 16 * length happenings) _ _ (literal 1 (codes " ") refl (omega arith))
    (piece_both 15 (16 * length happenings) _ _ (token_piece h first) (more_piece happenings others)))))))

-- the tokens of happenings

-- no space stands in a token
token_no_space : (h : Happening) → HappeningReads h → list_all (λ byte. not (byte == 32)) (happening_token h) ≡ true
token_no_space h reads =
    all_both (λ byte. not (byte == 32)) (decimal h.operation) (codes "@" ++ decimal h.position)
    (digits_no_space h.operation (small_number h.operation reads.operation))
    (digits_no_space h.position (small_number h.position reads.position))

-- a token reads back
token_back : (h : Happening) → HappeningReads h → happening_of (happening_token h) ≡ Some h
unfolding happening_of
token_back h reads =
    bind_some _ _ _ (before_back 64 h.operation (decimal h.position) refl (small_number h.operation reads.operation))
    ∙ bind_some _ _ _ (plain_back h.position (small_number h.position reads.position))

-- the tokens stand between the spaces
tokens_split : (h : Happening) (happenings : List Happening) → HappeningReads h → AllRead happenings
    → slice_split (λ byte. byte == 32) (happening_token h ++ more_tokens happenings) ≡ map happening_token (h ∷ happenings)
tokens_split h [] first others =
    ap (slice_split (λ byte. byte == 32)) (append-nil (happening_token h)) ∙ split_alone (happening_token h) (token_no_space h first)
tokens_split h (next ∷ happenings) first others =
    split_first (happening_token h) (happening_token next ++ more_tokens happenings) (token_no_space h first)
    ∙ ap (λ (l : List (List ℕ)). happening_token h ∷ l) (tokens_split next happenings others.0 others.1)

-- they read back
tokens_back : (happenings : List Happening) → AllRead happenings → happenings_of_tokens (map happening_token happenings) ≡ Some happenings
unfolding happenings_of_tokens
tokens_back [] reads = refl
tokens_back (h ∷ happenings) reads =
    bind_some _ _ _ (token_back h reads.0) ∙ bind_some _ _ _ (tokens_back happenings reads.1)

-- so do the happenings of the line
happenings_back : (h : Happening) (happenings : List Happening) → HappeningReads h → AllRead happenings
    → happenings_of (happening_token h ++ more_tokens happenings) ≡ Some (h ∷ happenings)
unfolding happenings_of
happenings_back h happenings first others =
    ap happenings_of_tokens (tokens_split h happenings first others) ∙ tokens_back (h ∷ happenings) (first, others)

-- what stands behind `happened`
happened_read : (g s : ℕ) (h : Happening) (happenings : List Happening) → IsSmall g → IsSmall s → HappeningReads h → AllRead happenings
    → happened_of (decimal g ++ (codes " " ++ (decimal s ++ (codes " " ++ (happening_token h ++ more_tokens happenings)))))
    ≡ Some (Happened (record { group = g; stripe = s; happenings = h ∷ happenings }))
unfolding happened_of
happened_read g s h happenings group stripe first others =
    bind_some _ _ _ (before_back 32 g _ refl group) ∙ bind_some _ _ _ (before_back 32 s _ refl stripe)
    ∙ bind_some _ _ _ (happenings_back h happenings first others)

-- the line is none of the other words
happened_word : (rest : List ℕ) → is_word (codes "happened " ++ rest) ≡ false
unfolding is_word behind
happened_word rest = refl

-- its form
happened_form : (rest : List ℕ) → form (codes "happened " ++ rest) ≡ happened_of rest
unfolding form
happened_form rest =
    let text : List ℕ = codes "happened " ++ rest in
    let later : Option Entry = or_else (behind (codes "count ") (codes "happened " ++ rest)) counts_of (mark_of_line (codes "happened " ++ rest)) in
    ap (λ (b : Bool). cond b (Some Other) (or_else (behind (codes "happened ") text) happened_of later)) (happened_word rest)
    ∙ or_some (behind (codes "happened ") text) rest happened_of later (behind_front (codes "happened ") rest)

-- The line of a stripe's happenings says these.
pub happened_back : (g s : ℕ) (h : Happening) (happenings : List Happening) → IsSmall g → IsSmall s → HappeningReads h → AllRead happenings
    → length happenings < 2000000
    → entry_of (happened_line g s h happenings) ≡ Some (Happened (record { group = g; stripe = s; happenings = h ∷ happenings }))
happened_back g s h happenings group stripe first others few =
    entry_short (happened_line g s h happenings) (happened_piece g s h happenings group stripe first others few).short
    ∙ happened_form _ ∙ happened_read g s h happenings group stripe first others

-- the counts

-- the line of the counts, without its line feed
abbrev pub counts_line : ℕ → Counts → List ℕ
counts_line lines counts =
    codes "count lines " ++ (decimal lines ++ (codes " begun " ++ (decimal counts.begun ++ (codes " answered " ++ (decimal counts.answered
    ++ (codes " aborted " ++ (decimal counts.aborted ++ (codes " crashes " ++ decimal counts.crashes))))))))

-- counts that have a spelling
pub record CountsRead (counts : Counts) : Type 0 where
  pub begun : IsSmall counts.begun
  pub answered : IsSmall counts.answered
  pub aborted : IsSmall counts.aborted
  pub crashes : IsSmall counts.crashes

-- it is one line, and short
pub counts_piece : (lines : ℕ) (counts : Counts) → IsSmall lines → CountsRead counts → IsPiece 200 (counts_line lines counts)
counts_piece lines counts small reads =
    piece_most _ 200 _ (omega arith) (piece_both 12 _ _ _ (literal 12 (codes "count lines ") refl (omega arith)) (piece_both 20 _ _ _
    (digits_piece lines small)
    (piece_both 7 _ _ _ (literal 7 (codes " begun ") refl (omega arith)) (piece_both 20 _ _ _ (digits_piece counts.begun reads.begun)
    (piece_both 10 _ _ _ (literal 10 (codes " answered ") refl (omega arith)) (piece_both 20 _ _ _ (digits_piece counts.answered reads.answered)
    (piece_both 9 _ _ _ (literal 9 (codes " aborted ") refl (omega arith)) (piece_both 20 _ _ _ (digits_piece counts.aborted reads.aborted)
    (piece_both 9 20 _ _ (literal 9 (codes " crashes ") refl (omega arith)) (digits_piece counts.crashes reads.crashes))))))))))

-- one of the counts reads back
count_back : (word : List ℕ) (n : ℕ) (rest : List ℕ) → IsSmall n → count_behind word (word ++ (decimal n ++ (32 ∷ rest))) ≡ Some (n, rest)
unfolding count_behind
count_back word n rest small = bind_some _ _ _ (behind_front word _) ∙ before_back 32 n rest refl small

-- what stands behind `count`
counts_read : (lines : ℕ) (counts : Counts) → IsSmall lines → CountsRead counts
    → counts_of (codes "lines " ++ (decimal lines ++ (codes " begun " ++ (decimal counts.begun ++ (codes " answered " ++ (decimal counts.answered
    ++ (codes " aborted " ++ (decimal counts.aborted ++ (codes " crashes " ++ decimal counts.crashes))))))))) ≡ Some (Counted counts)
unfolding counts_of
counts_read lines counts small reads =
    bind_some _ _ _ (count_back (codes "lines ") lines _ small)
    ∙ bind_some _ _ _ (count_back (codes "begun ") counts.begun _ reads.begun)
    ∙ bind_some _ _ _ (count_back (codes "answered ") counts.answered _ reads.answered)
    ∙ bind_some _ _ _ (count_back (codes "aborted ") counts.aborted _ reads.aborted)
    ∙ bind_some _ _ _ (behind_front (codes "crashes ") _) ∙ bind_some _ _ _ (plain_back counts.crashes reads.crashes)

-- the line is none of the other words
count_word : (rest : List ℕ) → is_word (codes "count " ++ rest) ≡ false
unfolding is_word behind
count_word rest = refl

-- and no line of happenings
count_not_happened : (rest : List ℕ) → behind (codes "happened ") (codes "count " ++ rest) ≡ None
unfolding behind
count_not_happened rest = refl

-- its form
count_form : (rest : List ℕ) → form (codes "count " ++ rest) ≡ counts_of rest
unfolding form
count_form rest =
    let text : List ℕ = codes "count " ++ rest in
    let later : Option Entry = or_else (behind (codes "count ") (codes "count " ++ rest)) counts_of (mark_of_line (codes "count " ++ rest)) in
    ap (λ (b : Bool). cond b (Some Other) (or_else (behind (codes "happened ") text) happened_of later)) (count_word rest)
    ∙ or_none (behind (codes "happened ") text) happened_of later (count_not_happened rest)
    ∙ or_some (behind (codes "count ") text) rest counts_of (mark_of_line text) (behind_front (codes "count ") rest)

-- The line of the counts says these.
pub counts_back : (lines : ℕ) (counts : Counts) → IsSmall lines → CountsRead counts → entry_of (counts_line lines counts) ≡ Some (Counted counts)
counts_back lines counts small reads =
    entry_short (counts_line lines counts) (let short = (counts_piece lines counts small reads).short in omega arith)
    ∙ count_form _ ∙ counts_read lines counts small reads
