-- What was read by a command line, said of an equal one.
use Rattle.std.proofs.Common.{◌≡◌, ℕ, List, Option, subst}
use Rattle.clap.specs.Simple.{App}
use Rattle.clap.specs.declared.parser.matches.Found.{Found}
use Rattle.plain_words.specs.Readings.{ReadsWords}

pub reads_alike : {one other : App} {read same : Option Found} (words : List (List ℕ)) → one ≡ other → read ≡ same → ReadsWords one words read
    → ReadsWords other words same
reads_alike {one} {other} {read} {same} words line is reads =
    subst (λ (r : Option Found). ReadsWords other words r) is (subst (λ (a : App). ReadsWords a words read) line reads)
