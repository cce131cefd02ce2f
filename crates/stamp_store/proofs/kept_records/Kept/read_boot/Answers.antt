-- The record of the fields that are all of the bytes.
use Rattle.std.proofs.Common.{ap, ◌∙◌}
use Rattle.std.specs.Option.{option_map}
use Rattle.fields.specs.Codecs.{u32_codec}
use Rattle.stamp_store.specs.Reading.{made_boot, kept_at, read_of}
use Rattle.stamp_store.proofs.Records.{whole_made}
use Rattle.stamp_store.proofs.kept_records.Kept.read_boot.Goals as goal

pub returns : goal.returns
unfolding read_of kept_at
returns c = ap (option_map made_boot) c.all_of.ensures ∙ whole_made made_boot (u32_codec.read c.args.body.now)
