-- Clap takes the words, or does not, and says what it found in them.
use Rattle.std.proofs.Common.{inl, inr, sym, ◌∙◌}
use Rattle.std.specs.Prelude.{string_bytes}
use Rattle.std.proofs.lemmas.Bool.{and_parts}
use Rattle.plain_words.proofs.Flags.{any-map}
use Rattle.plain_words.proofs.readings.read_words.Goals as goal

pub returns-then-has_flag : goal.returns-then-has_flag
returns-then-has_flag c = inl (sym (any-map string_bytes c.args.words.now) ∙ sym c.has_flag.ensures ∙ c.if-has_flag.true)

pub returns-in-Ok : goal.returns-in-Ok
returns-in-Ok c =
    record {
      plain = sym (any-map string_bytes c.args.words.now) ∙ sym c.has_flag.ensures ∙ c.if-has_flag.false;
      sound = c.in-Ok.ensures.kinds c.requires;
      rows = (c.in-Ok.ensures.matches (and_parts _ _ c.requires).0).0;
    }

pub returns-else-is_memory : goal.returns-else-is_memory
returns-else-is_memory c =
    inr (
      sym (any-map string_bytes c.args.words.now) ∙ sym c.has_flag.ensures ∙ c.if-has_flag.false,
      λ taken. c.is_memory.ensures c.if-is_memory.false (c.in-Err.ensures.passes taken),
    )
