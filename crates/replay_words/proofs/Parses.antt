-- What clap makes of words none of which begins with `-`: one to three of them fill the command line's places, and a fourth has none.
use Rattle.std.proofs.Common.{◌≡◌, true, false, List, [], ◌∷◌, Option, None, inl, inr, refl, ap, ap₂, ◌∙◌, codes}
use Rattle.clap.specs.Matches.{first_value}
use Rattle.clap.specs.declared.parser.matches.Found.{Found}
use Rattle.clap.proofs.WalkLemmas.{first_value-rows}
use Rattle.clap.specs.Walk.{Rule, Text, Walk, walk, walked, nothing_held, finished, first_of}
use Rattle.clap.specs.Simple.{App, built, matches_of}
use Rattle.clap.specs.Takes.{takes, walk_passes}
use Rattle.clap.specs.Faults.{fault_of, walk_fault, is_simple_and_free}
use Rattle.clap.specs.declared.error.kind.ErrorKind.TheVariants.{UnknownArgument}
use Rattle.plain_words.specs.Readings.{is_flag, has_flag, FindsWords, ReadsWords}
use Rattle.plain_words.proofs.Flags.{neither}
use Rattle.plain_words.proofs.Walks.{IsPlain, start, after, goes, walk_is, walk_fault_is, judged, behind, some_fault}
use Rattle.replay_words.specs.declared.requests.Request.{Request}
use Rattle.replay_words.specs.CommandLines.{command_app}
use Rattle.replay_words.specs.Requests.{request_of, request_found, request_matched}
use Rattle.replay_words.proofs.Flags.{flag_none}

-- the command line as it is built
abbrev line : App
line = built command_app

abbrev rules : List Rule
rules = line.top.rules

-- it is one of which clap says all
pub is_free_line : is_simple_and_free command_app ≡ true
is_free_line = refl

-- the walk after one, two and three words

abbrev after_one : Text → Walk
after_one a = after rules start a

abbrev after_two : Text → Text → Walk
after_two a b = after rules (after_one a) b

abbrev after_three : Text → Text → Text → Walk
after_three a b c = after rules (after_two a b) c

walk_one : (a : Text) → IsPlain a → walk rules [] nothing_held (a ∷ []) ≡ after_one a
walk_one a pa = goes rules nothing_held 1 a pa

walk_two : (a b : Text) → IsPlain a → IsPlain b → walk rules [] nothing_held (a ∷ b ∷ []) ≡ after_two a b
walk_two a b pa pb =
    ap (λ (w : Walk). walked rules [] w b) (goes rules nothing_held 1 a pa) ∙ goes rules (after_one a).held 2 b pb

walk_three : (a b c : Text) → IsPlain a → IsPlain b → IsPlain c → walk rules [] nothing_held (a ∷ b ∷ c ∷ []) ≡ after_three a b c
walk_three a b c pa pb pc =
    ap (λ (w : Walk). walked rules [] (walked rules [] w b) c) (goes rules nothing_held 1 a pa)
    ∙ ap (λ (w : Walk). walked rules [] w c) (goes rules (after_one a).held 2 b pb)
    ∙ goes rules (after_two a b).held 3 c pc

-- one word and three are taken

passes_one : (a : Text) → IsPlain a → walk_passes line.top [] start (a ∷ []) ≡ true
unfolding walk_passes
passes_one a pa = walk_is line.top nothing_held 1 a [] pa

passes_three : (a b c : Text) → IsPlain a → IsPlain b → IsPlain c → walk_passes line.top [] start (a ∷ b ∷ c ∷ []) ≡ true
unfolding walk_passes
passes_three a b c pa pb pc =
    walk_is line.top nothing_held 1 a (b ∷ c ∷ []) pa
    ∙ walk_is line.top (after_one a).held 2 b (c ∷ []) pb
    ∙ walk_is line.top (after_two a b).held 3 c [] pc

takes_one : (a : Text) → IsPlain a → takes command_app (a ∷ []) ≡ true
takes_one a pa = ap₂ (judged line) (walk_one a pa) (passes_one a pa)

takes_three : (a b c : Text) → IsPlain a → IsPlain b → IsPlain c → takes command_app (a ∷ b ∷ c ∷ []) ≡ true
takes_three a b c pa pb pc = ap₂ (judged line) (walk_three a b c pa pb pc) (passes_three a b c pa pb pc)

-- a fourth is not

fails_four : (a b c d : Text) (words : List Text) → IsPlain a → IsPlain b → IsPlain c → IsPlain d
    → walk_fault line.top [] start (a ∷ b ∷ c ∷ d ∷ words) ≡ UnknownArgument ∷ []
fails_four a b c d words pa pb pc pd =
    walk_fault_is line.top nothing_held 1 a (b ∷ c ∷ d ∷ words) pa
    ∙ walk_fault_is line.top (after_one a).held 2 b (c ∷ d ∷ words) pb
    ∙ walk_fault_is line.top (after_two a b).held 3 c (d ∷ words) pc
    ∙ walk_fault_is line.top (after_three a b c).held 4 d words pd

-- what is asked for

-- by what a walk found
abbrev asked : Walk → Option Request
asked w =
    request_found (first_of (codes "word") (finished rules w.held)) (first_of (codes "seed") (finished rules w.held))
    (first_of (codes "lines") (finished rules w.held))

-- the matches ask for what the words do
matched : (words : List Text) → has_flag words ≡ false → fault_of command_app words ≡ []
    → request_found (first_of (codes "word") (matches_of command_app words)) (first_of (codes "seed") (matches_of command_app words))
    (first_of (codes "lines") (matches_of command_app words)) ≡ request_of words
matched [] plain sound = refl
matched (a ∷ []) plain sound = ap asked (walk_one a (neither (is_flag a) false plain).0)
matched (a ∷ (b ∷ [])) plain sound =
    let first = neither (is_flag a) (has_flag (b ∷ [])) plain in
    ap asked (walk_two a b first.0 (neither (is_flag b) false first.1).0)
matched (a ∷ (b ∷ (c ∷ []))) plain sound =
    let first = neither (is_flag a) (has_flag (b ∷ c ∷ [])) plain in
    let second = neither (is_flag b) (has_flag (c ∷ [])) first.1 in
    ap asked (walk_three a b c first.0 second.0 (neither (is_flag c) false second.1).0)
matched (a ∷ (b ∷ (c ∷ (d ∷ words)))) plain sound =
    let first = neither (is_flag a) (has_flag (b ∷ c ∷ d ∷ words)) plain in
    let second = neither (is_flag b) (has_flag (c ∷ d ∷ words)) first.1 in
    let third = neither (is_flag c) (has_flag (d ∷ words)) second.1 in
    let fourth = neither (is_flag d) (has_flag words) third.1 in
    absurd (some_fault (walk_fault line.top [] start (a ∷ b ∷ c ∷ d ∷ words)) (behind line (walk rules [] nothing_held (a ∷ b ∷ c ∷ d ∷ words)))
    (fails_four a b c d words first.0 second.0 third.0 fourth.0) sound)

-- words that are refused ask for nothing
refused : (words : List Text) → has_flag words ≡ false → (takes command_app words ≡ true → ⊥) → request_of words ≡ None
refused [] plain none = refl
refused (a ∷ []) plain none = absurd (none (takes_one a (neither (is_flag a) false plain).0))
refused (a ∷ (b ∷ [])) plain none = refl
refused (a ∷ (b ∷ (c ∷ []))) plain none =
    let first = neither (is_flag a) (has_flag (b ∷ c ∷ [])) plain in
    let second = neither (is_flag b) (has_flag (c ∷ [])) first.1 in
    absurd (none (takes_three a b c first.0 second.0 (neither (is_flag c) false second.1).0))
refused (a ∷ (b ∷ (c ∷ (d ∷ words)))) plain none = refl

-- ---- what was read asks for what the words do

-- clap found something
pub found_asks : (words : List Text) (found : Found) → FindsWords command_app words found → request_matched found ≡ request_of words
found_asks words found finds =
    let value_is = λ (id : Text). first_value-rows found id ∙ ap (first_of id) finds.rows in
    ap (λ (w : Option Text). request_found w (first_value found (codes "seed")) (first_value found (codes "lines"))) (value_is (codes "word"))
    ∙ ap (λ (s : Option Text). request_found (first_of (codes "word") (matches_of command_app words)) s (first_value found (codes "lines"))) (value_is (codes "seed"))
    ∙ ap (λ (n : Option Text). request_found (first_of (codes "word") (matches_of command_app words)) (first_of (codes "seed") (matches_of command_app words)) n)
    (value_is (codes "lines"))
    ∙ matched words finds.plain finds.sound

-- it found nothing
pub none_asks : (words : List Text) → ReadsWords command_app words None → request_of words ≡ None
none_asks words (inl some) = flag_none words some
none_asks words (inr not) = refused words not.0 not.1
