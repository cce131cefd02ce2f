-- What clap's walk makes of a word that does not begin with `-`: it goes to the positional of its place.
use Rattle.std.proofs.Common.{◌≡◌, ℕ, ◌&&◌, ◌||◌, Bool, true, false, List, [], ◌∷◌, Option, Some, None, refl, ap, ap₂, ◌∙◌}
use Rattle.std.specs.Prelude.{is_some, option_and_then, if◌then◌else◌}
use Rattle.std.specs.Option.{option_map_or}
use Rattle.std.specs.Str.{bytes_eq}
use Rattle.std.specs.List.{list_all}
use Rattle.clap.specs.Lexer.{strip_byte, long_of, long_of_rest, short_of, short_of_rest}
use Rattle.clap.specs.Walk.{Held, Rule, Step, Text, Walk, idle, value, trailing, long_or_other, short_or_plain, walked, word_met, after_step, to_positional, arg_by_index, nothing_held, settled, finished}
use Rattle.clap.specs.Simple.{App, Shape, entered}
use Rattle.clap.specs.Takes.{walk_passes, turn_passes, word_passes, step_passes, settle_passes, default_passes, is_valid, entered_passes, flag_word_passes, bundle_passes}
use Rattle.clap.specs.Kinds.{Kinds, or_else}
use Rattle.clap.specs.Faults.{flag_word_fault, bundle_fault, walk_fault, turn_fault, word_fault, step_fault, entered_fault, settle_fault, defaults_fault, check_fault}
use Rattle.clap.specs.declared.error.kind.ErrorKind.TheVariants.{UnknownArgument}
use Rattle.plain_words.specs.Readings.{is_flag}

-- a word that does not begin with `-`
abbrev pub IsPlain : Text → Type 0
IsPlain word = is_flag word ≡ false

-- where a walk stands that waits for the positional of a number
abbrev pub at : Held → ℕ → Walk
at held position = record { held = held; waiting = idle; position = position; is_trailing = false; stopped = None }

-- where it begins
abbrev pub start : Walk
start = at nothing_held 1

-- where it stands after one more plain word
abbrev pub after : List Rule → Walk → Text → Walk
after c w word = to_positional c (arg_by_index c w.position) word w w.held

-- one plain word

-- it has no hyphen to take off
strip_none : (word : Text) → IsPlain word → strip_byte 45 word ≡ None
strip_none [] plain = refl
strip_none (byte ∷ rest) plain = ap (λ (b : Bool). if b then Some rest else None) plain

-- so it is no flag, long or short, and no `--`
long_none : (word : Text) → IsPlain word → long_of word ≡ None
long_none word plain = ap (λ (o : Option Text). option_and_then long_of_rest (option_and_then (strip_byte 45) o)) (strip_none word plain)

short_none : (word : Text) → IsPlain word → short_of word ≡ None
short_none word plain = ap (option_and_then short_of_rest) (strip_none word plain)

no_dashes : (word : Text) → IsPlain word → bytes_eq word (45 ∷ 45 ∷ []) ≡ false
no_dashes [] plain = refl
no_dashes (byte ∷ rest) plain = ap (λ (b : Bool). b && bytes_eq rest (45 ∷ [])) plain

-- it goes to a positional
meets : (c : List Rule) (position : ℕ) (word : Text) (held : Held) → IsPlain word → word_met c [] false idle position word held ≡ (held, value)
meets c position word held plain =
    ap (λ (b : Bool). if b then (held, trailing position) else long_or_other c idle word (long_of word) held) (no_dashes word plain)
    ∙ ap (λ (l : Option (Text × Option Text)). long_or_other c idle word l held) (long_none word plain)
    ∙ ap (λ (s : Option Text). short_or_plain c idle word s held) (short_none word plain)

pub goes : (c : List Rule) (held : Held) (position : ℕ) (word : Text) → IsPlain word
    → walked c [] (at held position) word ≡ to_positional c (arg_by_index c position) word (at held position) held
unfolding walked
goes c held position word plain =
    ap (λ (met : Held × Step). after_step c word (at held position) met.0 met.1) (meets c position word held plain)

-- and does nothing else
passes : (s : Shape) (word : Text) (held : Held) → IsPlain word → word_passes s [] false idle word held ≡ true
passes s word held plain =
    let again : Bool = s.args_override_self in
    ap (λ (b : Bool). b || flag_word_passes s.rules again (long_of word) word held) (no_dashes word plain)
    ∙ ap (λ (l : Option (Text × Option Text)). flag_word_passes s.rules again l word held) (long_none word plain)
    ∙ ap (λ (f : Option Text). option_map_or (λ flags. bundle_passes s.rules again flags held) f true) (short_none word plain)

no_fault : (s : Shape) (word : Text) (held : Held) → IsPlain word → word_fault s [] false idle word held ≡ []
no_fault s word held plain =
    let again : Bool = s.args_override_self in
    ap (λ (b : Bool). if b then [] else flag_word_fault s.rules again (long_of word) word held) (no_dashes word plain)
    ∙ ap (λ (l : Option (Text × Option Text)). flag_word_fault s.rules again l word held) (long_none word plain)
    ∙ ap (λ (f : Option Text). option_map_or (λ flags. bundle_fault s.rules again flags held) f []) (short_none word plain)

-- so a walk passes it if its positional does
turn_is : (s : Shape) (held : Held) (position : ℕ) (word : Text) → IsPlain word
    → turn_passes s [] (at held position) word ≡ step_passes s position held value
turn_is s held position word plain =
    ap₂ (λ (b : Bool) (met : Held × Step). b && step_passes s position met.0 met.1) (passes s word held plain) (meets s.rules position word held plain)

pub walk_is : (s : Shape) (held : Held) (position : ℕ) (word : Text) (words : List Text) → IsPlain word
    → walk_passes s [] (at held position) (word ∷ words)
    ≡ (step_passes s position held value
    && walk_passes s [] (to_positional s.rules (arg_by_index s.rules position) word (at held position) held) words)
unfolding walk_passes
walk_is s held position word words plain =
    ap₂ (λ (b : Bool) (w : Walk). b && walk_passes s [] w words) (turn_is s held position word plain) (goes s.rules held position word plain)

-- and fails where it does
fault_is : (s : Shape) (held : Held) (position : ℕ) (word : Text) → IsPlain word
    → turn_fault s [] (at held position) word ≡ step_fault s position held value
fault_is s held position word plain =
    ap₂ (λ (k : Kinds) (met : Held × Step). or_else k (step_fault s position met.0 met.1)) (no_fault s word held plain) (meets s.rules position word held plain)

pub walk_fault_is : (s : Shape) (held : Held) (position : ℕ) (word : Text) (words : List Text) → IsPlain word
    → walk_fault s [] (at held position) (word ∷ words)
    ≡ or_else (step_fault s position held value)
    (walk_fault s [] (to_positional s.rules (arg_by_index s.rules position) word (at held position) held) words)
unfolding walk_fault
walk_fault_is s held position word words plain =
    ap₂ (λ (k : Kinds) (w : Walk). or_else k (walk_fault s [] w words)) (fault_is s held position word plain) (goes s.rules held position word plain)

-- ---- a command line that is built, and has no subcommand

-- whether what a walk came to is taken
abbrev pub judged : App → Walk → Bool → Bool
judged line w passed =
    entered_passes line w.stopped
    && (passed && (settle_passes line.top.rules line.top.args_override_self w.held
    && (list_all default_passes line.top.rules && is_valid line.top (finished line.top.rules w.held) (is_some (entered line w.stopped)))))

-- the faults behind those of a walk
abbrev pub behind : App → Walk → Kinds
behind line w =
    or_else (entered_fault line w.stopped) (or_else (settle_fault line.top.rules line.top.args_override_self w.held)
    (or_else (defaults_fault (settled line.top.rules w.held).rows line.top.rules)
    (check_fault line.top (finished line.top.rules w.held) (is_some (entered line w.stopped)))))

-- some fault, and more
pub some_fault : (first more : Kinds) → first ≡ UnknownArgument ∷ [] → or_else first more ≡ [] → ⊥
some_fault first more is none =
    let same : or_else first more ≡ UnknownArgument ∷ [] = ap (λ (k : Kinds). or_else k more) is in
    cc
