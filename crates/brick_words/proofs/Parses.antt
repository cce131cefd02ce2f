-- What clap makes of words none of which begins with `-`: one to five of them fill the command line's places, and a sixth has none.
use Rattle.std.proofs.Common.{◌≡◌, Bool, true, false, List, [], ◌∷◌, Option, None, inl, inr, refl, sym, ap, ap₂, ◌∙◌, codes}
use Rattle.std.specs.Prelude.{if◌then◌else◌}
use Rattle.clap.specs.Matches.{first_value}
use Rattle.clap.specs.declared.parser.matches.Found.{Found}
use Rattle.clap.proofs.WalkLemmas.{first_value-rows}
use Rattle.clap.specs.Walk.{Rule, Row, Text, Walk, walk, walked, nothing_held, finished, first_of}
use Rattle.clap.specs.Simple.{App, built, matches_of}
use Rattle.clap.specs.Takes.{takes, walk_passes}
use Rattle.clap.specs.Faults.{fault_of, walk_fault, is_simple_and_free}
use Rattle.clap.specs.declared.error.kind.ErrorKind.TheVariants.{UnknownArgument}
use Rattle.plain_words.specs.Readings.{is_flag, has_flag, FindsWords, ReadsWords}
use Rattle.plain_words.proofs.Flags.{neither}
use Rattle.plain_words.proofs.Walks.{IsPlain, start, after, goes, walk_is, walk_fault_is, judged, behind, some_fault}
use Rattle.brick_words.specs.CommandLines.{brick_app}
use Rattle.brick_words.specs.Words.{Wanted, form_of, command_of, words_found, words_matched}

-- the command line as it is built
abbrev line : App
line = built brick_app

abbrev rules : List Rule
rules = line.top.rules

-- it is one of which clap says all
pub is_free_line : is_simple_and_free brick_app ≡ true
is_free_line = refl

-- the walk after one to five words

abbrev after_one : Text → Walk
after_one a = after rules start a

abbrev after_two : Text → Text → Walk
after_two a b = after rules (after_one a) b

abbrev after_three : Text → Text → Text → Walk
after_three a b c = after rules (after_two a b) c

abbrev after_four : Text → Text → Text → Text → Walk
after_four a b c d = after rules (after_three a b c) d

abbrev after_five : Text → Text → Text → Text → Text → Walk
after_five a b c d e = after rules (after_four a b c d) e

walk_one : (a : Text) → IsPlain a → walk rules [] nothing_held (a ∷ []) ≡ after_one a
walk_one a pa = goes rules nothing_held 1 a pa

walk_two : (a b : Text) → IsPlain a → IsPlain b → walk rules [] nothing_held (a ∷ b ∷ []) ≡ after_two a b
walk_two a b pa pb = ap (λ (w : Walk). walked rules [] w b) (walk_one a pa) ∙ goes rules (after_one a).held 2 b pb

walk_three : (a b c : Text) → IsPlain a → IsPlain b → IsPlain c → walk rules [] nothing_held (a ∷ b ∷ c ∷ []) ≡ after_three a b c
walk_three a b c pa pb pc = ap (λ (w : Walk). walked rules [] w c) (walk_two a b pa pb) ∙ goes rules (after_two a b).held 3 c pc

walk_four : (a b c d : Text) → IsPlain a → IsPlain b → IsPlain c → IsPlain d
    → walk rules [] nothing_held (a ∷ b ∷ c ∷ d ∷ []) ≡ after_four a b c d
walk_four a b c d pa pb pc pd = ap (λ (w : Walk). walked rules [] w d) (walk_three a b c pa pb pc) ∙ goes rules (after_three a b c).held 4 d pd

walk_five : (a b c d e : Text) → IsPlain a → IsPlain b → IsPlain c → IsPlain d → IsPlain e
    → walk rules [] nothing_held (a ∷ b ∷ c ∷ d ∷ e ∷ []) ≡ after_five a b c d e
walk_five a b c d e pa pb pc pd pe =
    ap (λ (w : Walk). walked rules [] w e) (walk_four a b c d pa pb pc pd) ∙ goes rules (after_four a b c d).held 5 e pe

-- four words and five are taken

passes_four : (a b c d : Text) → IsPlain a → IsPlain b → IsPlain c → IsPlain d → walk_passes line.top [] start (a ∷ b ∷ c ∷ d ∷ []) ≡ true
unfolding walk_passes
passes_four a b c d pa pb pc pd =
    walk_is line.top nothing_held 1 a (b ∷ c ∷ d ∷ []) pa
    ∙ walk_is line.top (after_one a).held 2 b (c ∷ d ∷ []) pb
    ∙ walk_is line.top (after_two a b).held 3 c (d ∷ []) pc
    ∙ walk_is line.top (after_three a b c).held 4 d [] pd

passes_five : (a b c d e : Text) → IsPlain a → IsPlain b → IsPlain c → IsPlain d → IsPlain e
    → walk_passes line.top [] start (a ∷ b ∷ c ∷ d ∷ e ∷ []) ≡ true
unfolding walk_passes
passes_five a b c d e pa pb pc pd pe =
    walk_is line.top nothing_held 1 a (b ∷ c ∷ d ∷ e ∷ []) pa
    ∙ walk_is line.top (after_one a).held 2 b (c ∷ d ∷ e ∷ []) pb
    ∙ walk_is line.top (after_two a b).held 3 c (d ∷ e ∷ []) pc
    ∙ walk_is line.top (after_three a b c).held 4 d (e ∷ []) pd
    ∙ walk_is line.top (after_four a b c d).held 5 e [] pe

takes_four : (a b c d : Text) → IsPlain a → IsPlain b → IsPlain c → IsPlain d → takes brick_app (a ∷ b ∷ c ∷ d ∷ []) ≡ true
takes_four a b c d pa pb pc pd = ap₂ (judged line) (walk_four a b c d pa pb pc pd) (passes_four a b c d pa pb pc pd)

takes_five : (a b c d e : Text) → IsPlain a → IsPlain b → IsPlain c → IsPlain d → IsPlain e
    → takes brick_app (a ∷ b ∷ c ∷ d ∷ e ∷ []) ≡ true
takes_five a b c d e pa pb pc pd pe = ap₂ (judged line) (walk_five a b c d e pa pb pc pd pe) (passes_five a b c d e pa pb pc pd pe)

-- a sixth is not

fails_six : (a b c d e f : Text) (words : List Text) → IsPlain a → IsPlain b → IsPlain c → IsPlain d → IsPlain e → IsPlain f
    → walk_fault line.top [] start (a ∷ b ∷ c ∷ d ∷ e ∷ f ∷ words) ≡ UnknownArgument ∷ []
fails_six a b c d e f words pa pb pc pd pe pf =
    walk_fault_is line.top nothing_held 1 a (b ∷ c ∷ d ∷ e ∷ f ∷ words) pa
    ∙ walk_fault_is line.top (after_one a).held 2 b (c ∷ d ∷ e ∷ f ∷ words) pb
    ∙ walk_fault_is line.top (after_two a b).held 3 c (d ∷ e ∷ f ∷ words) pc
    ∙ walk_fault_is line.top (after_three a b c).held 4 d (e ∷ f ∷ words) pd
    ∙ walk_fault_is line.top (after_four a b c d).held 5 e (f ∷ words) pe
    ∙ walk_fault_is line.top (after_five a b c d e).held 6 f words pf

-- what is asked for

-- by what a walk found
abbrev asked_rows : List Row → Option Wanted
asked_rows rows =
    words_found (first_of (codes "word") rows) (first_of (codes "layout") rows) (first_of (codes "name") rows) (first_of (codes "number") rows)
    (first_of (codes "turns") rows)

abbrev asked : Walk → Option Wanted
asked w = asked_rows (finished rules w.held)

-- words that all do not begin with `-`
abbrev ArePlain : List Text → Type 0
ArePlain words = has_flag words ≡ false

first_plain : (a : Text) (words : List Text) → ArePlain (a ∷ words) → IsPlain a
first_plain a words plain = (neither (is_flag a) (has_flag words) plain).0

rest_plain : (a : Text) (words : List Text) → ArePlain (a ∷ words) → ArePlain words
rest_plain a words plain = (neither (is_flag a) (has_flag words) plain).1

-- the matches ask for what the words do
matched : (words : List Text) → ArePlain words → fault_of brick_app words ≡ [] → asked_rows (matches_of brick_app words) ≡ form_of words
matched [] plain sound = refl
matched (a ∷ []) plain sound = ap asked (walk_one a (first_plain a [] plain))
matched (a ∷ (b ∷ [])) plain sound =
    ap asked (walk_two a b (first_plain a (b ∷ []) plain) (first_plain b [] (rest_plain a (b ∷ []) plain)))
matched (a ∷ (b ∷ (c ∷ []))) plain sound =
    let after_a : ArePlain (b ∷ c ∷ []) = rest_plain a (b ∷ c ∷ []) plain in
    let after_b : ArePlain (c ∷ []) = rest_plain b (c ∷ []) after_a in
    ap asked (walk_three a b c (first_plain a (b ∷ c ∷ []) plain) (first_plain b (c ∷ []) after_a) (first_plain c [] after_b))
matched (a ∷ (b ∷ (c ∷ (d ∷ [])))) plain sound =
    let after_a : ArePlain (b ∷ c ∷ d ∷ []) = rest_plain a (b ∷ c ∷ d ∷ []) plain in
    let after_b : ArePlain (c ∷ d ∷ []) = rest_plain b (c ∷ d ∷ []) after_a in
    let after_c : ArePlain (d ∷ []) = rest_plain c (d ∷ []) after_b in
    ap asked (walk_four a b c d (first_plain a (b ∷ c ∷ d ∷ []) plain) (first_plain b (c ∷ d ∷ []) after_a) (first_plain c (d ∷ []) after_b)
    (first_plain d [] after_c))
matched (a ∷ (b ∷ (c ∷ (d ∷ (e ∷ []))))) plain sound =
    let after_a : ArePlain (b ∷ c ∷ d ∷ e ∷ []) = rest_plain a (b ∷ c ∷ d ∷ e ∷ []) plain in
    let after_b : ArePlain (c ∷ d ∷ e ∷ []) = rest_plain b (c ∷ d ∷ e ∷ []) after_a in
    let after_c : ArePlain (d ∷ e ∷ []) = rest_plain c (d ∷ e ∷ []) after_b in
    let after_d : ArePlain (e ∷ []) = rest_plain d (e ∷ []) after_c in
    ap asked (walk_five a b c d e (first_plain a (b ∷ c ∷ d ∷ e ∷ []) plain) (first_plain b (c ∷ d ∷ e ∷ []) after_a)
    (first_plain c (d ∷ e ∷ []) after_b) (first_plain d (e ∷ []) after_c) (first_plain e [] after_d))
matched (a ∷ (b ∷ (c ∷ (d ∷ (e ∷ (f ∷ words)))))) plain sound =
    let after_a : ArePlain (b ∷ c ∷ d ∷ e ∷ f ∷ words) = rest_plain a (b ∷ c ∷ d ∷ e ∷ f ∷ words) plain in
    let after_b : ArePlain (c ∷ d ∷ e ∷ f ∷ words) = rest_plain b (c ∷ d ∷ e ∷ f ∷ words) after_a in
    let after_c : ArePlain (d ∷ e ∷ f ∷ words) = rest_plain c (d ∷ e ∷ f ∷ words) after_b in
    let after_d : ArePlain (e ∷ f ∷ words) = rest_plain d (e ∷ f ∷ words) after_c in
    let after_e : ArePlain (f ∷ words) = rest_plain e (f ∷ words) after_d in
    absurd (some_fault (walk_fault line.top [] start (a ∷ b ∷ c ∷ d ∷ e ∷ f ∷ words)) (behind line (walk rules [] nothing_held (a ∷ b ∷ c ∷ d ∷ e ∷ f ∷ words)))
    (fails_six a b c d e f words (first_plain a (b ∷ c ∷ d ∷ e ∷ f ∷ words) plain) (first_plain b (c ∷ d ∷ e ∷ f ∷ words) after_a)
    (first_plain c (d ∷ e ∷ f ∷ words) after_b) (first_plain d (e ∷ f ∷ words) after_c) (first_plain e (f ∷ words) after_d)
    (first_plain f words after_e)) sound)

-- words that are refused ask for nothing
refused : (words : List Text) → ArePlain words → (takes brick_app words ≡ true → ⊥) → form_of words ≡ None
refused [] plain none = refl
refused (a ∷ []) plain none = refl
refused (a ∷ (b ∷ [])) plain none = refl
refused (a ∷ (b ∷ (c ∷ []))) plain none = refl
refused (a ∷ (b ∷ (c ∷ (d ∷ [])))) plain none =
    let after_a : ArePlain (b ∷ c ∷ d ∷ []) = rest_plain a (b ∷ c ∷ d ∷ []) plain in
    let after_b : ArePlain (c ∷ d ∷ []) = rest_plain b (c ∷ d ∷ []) after_a in
    let after_c : ArePlain (d ∷ []) = rest_plain c (d ∷ []) after_b in
    absurd (none (takes_four a b c d (first_plain a (b ∷ c ∷ d ∷ []) plain) (first_plain b (c ∷ d ∷ []) after_a) (first_plain c (d ∷ []) after_b)
    (first_plain d [] after_c)))
refused (a ∷ (b ∷ (c ∷ (d ∷ (e ∷ []))))) plain none =
    let after_a : ArePlain (b ∷ c ∷ d ∷ e ∷ []) = rest_plain a (b ∷ c ∷ d ∷ e ∷ []) plain in
    let after_b : ArePlain (c ∷ d ∷ e ∷ []) = rest_plain b (c ∷ d ∷ e ∷ []) after_a in
    let after_c : ArePlain (d ∷ e ∷ []) = rest_plain c (d ∷ e ∷ []) after_b in
    let after_d : ArePlain (e ∷ []) = rest_plain d (e ∷ []) after_c in
    absurd (none (takes_five a b c d e (first_plain a (b ∷ c ∷ d ∷ e ∷ []) plain) (first_plain b (c ∷ d ∷ e ∷ []) after_a)
    (first_plain c (d ∷ e ∷ []) after_b) (first_plain d (e ∷ []) after_c) (first_plain e [] after_d)))
refused (a ∷ (b ∷ (c ∷ (d ∷ (e ∷ (f ∷ words)))))) plain none = refl

-- ---- what was read asks for what the words do

-- none of them begins with `-`
all_plain : (words : List Text) → ArePlain words → command_of words ≡ form_of words
all_plain words plain = ap (λ (b : Bool). if b then None else form_of words) plain

-- clap found something
pub found_wants : (words : List Text) (found : Found) → FindsWords brick_app words found → words_matched found ≡ command_of words
found_wants words found finds =
    values_are (first_value found) (λ id. first_of id (matches_of brick_app words)) (λ id. first_value-rows found id ∙ ap (first_of id) finds.rows)
    ∙ matched words finds.plain finds.sound ∙ sym (all_plain words finds.plain)
  where
    -- the same values ask for the same
    values_are : (f g : Text → Option Text) → ((id : Text) → f id ≡ g id)
        → words_found (f (codes "word")) (f (codes "layout")) (f (codes "name")) (f (codes "number")) (f (codes "turns"))
        ≡ words_found (g (codes "word")) (g (codes "layout")) (g (codes "name")) (g (codes "number")) (g (codes "turns"))
    values_are f g same =
        ap (λ (w : Option Text). words_found w (f (codes "layout")) (f (codes "name")) (f (codes "number")) (f (codes "turns"))) (same (codes "word"))
        ∙ ap (λ (l : Option Text). words_found (g (codes "word")) l (f (codes "name")) (f (codes "number")) (f (codes "turns"))) (same (codes "layout"))
        ∙ ap (λ (d : Option Text). words_found (g (codes "word")) (g (codes "layout")) d (f (codes "number")) (f (codes "turns"))) (same (codes "name"))
        ∙ ap (λ (n : Option Text). words_found (g (codes "word")) (g (codes "layout")) (g (codes "name")) n (f (codes "turns"))) (same (codes "number"))
        ∙ ap (λ (t : Option Text). words_found (g (codes "word")) (g (codes "layout")) (g (codes "name")) (g (codes "number")) t) (same (codes "turns"))

-- it found nothing
pub none_wants : (words : List Text) → ReadsWords brick_app words None → command_of words ≡ None
none_wants words (inl some) = ap (λ (b : Bool). if b then None else form_of words) some
none_wants words (inr not) = all_plain words not.0 ∙ refused words not.0 not.1
