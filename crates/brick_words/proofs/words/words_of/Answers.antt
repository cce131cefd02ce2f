-- What clap read is what the words ask for.
use Rattle.std.proofs.Common.{ℕ, List, map, sym, ap, ◌∙◌}
use Rattle.std.specs.Prelude.{string_bytes, option_map}
use Rattle.clap.specs.Matches.{found_of}
use Rattle.clap.specs.Faults.{is_simple_and_free}
use Rattle.plain_words.proofs.Alike.{reads_alike}
use Rattle.brick_words.proofs.Parses.{is_free_line, found_wants, none_wants}
use Rattle.brick_words.proofs.words.words_of.Goals as goal

pub read_words-requires : goal.read_words-requires
read_words-requires c = ap is_simple_and_free c.in_ok-line.ensures ∙ is_free_line

pub returns-in-Some : goal.returns-in-Some
returns-in-Some c =
    let words : List (List ℕ) = map string_bytes c.args.words.now in
    c.words_matched.ensures
    ∙ found_wants words (found_of c.in-Some.matches)
    (reads_alike words c.in_ok-line.ensures (ap (option_map found_of) c.in-Some.is) c.in_ok-matches.ensures)

pub returns-in-None : goal.returns-in-None
returns-in-None c =
    let words : List (List ℕ) = map string_bytes c.args.words.now in
    sym (none_wants words (reads_alike words c.in_ok-line.ensures (ap (option_map found_of) c.in-None.is) c.in_ok-matches.ensures))
