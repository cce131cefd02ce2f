-- The record of the fields that are all of the bytes.
use Rattle.std.proofs.Common.{ap, ◌∙◌}
use Rattle.std.specs.Option.{option_map}
use Rattle.stamp_store.specs.Reading.{made_order, order_fields, kept_at, read_of}
use Rattle.stamp_store.proofs.Records.{whole_made}
use Rattle.stamp_store.proofs.kept_records.Kept.read_order.Goals as goal

pub returns : goal.returns
unfolding read_of kept_at
returns c = ap (option_map made_order) c.all_of.ensures ∙ whole_made made_order (order_fields.read c.args.body.now)
