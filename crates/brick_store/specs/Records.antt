-- The records that frames are.
use Rattle.std.specs.Prelude.{ℕ, Option, Some, None, option_map, List, [], ◌∷◌}
use Rattle.stamp_store.specs.declared.kept_records.Kept.{Kept}
use Rattle.stamp_store.specs.Reading.{read_of}
use Rattle.stamp_store.specs.LogSpelling.{logged_of}
use Rattle.frame_store.specs.declared.frames.Frame.{Frame}
use Rattle.brick_state.specs.declared.records.Record.{Record}
use Rattle.brick_state.specs.declared.records.Record.TheVariants as forms

-- the record that a frame is, if it is one
abbrev pub or_logged : Option Kept → ℕ → List ℕ → Option Record
or_logged (Some kept) kind body = Some (forms.Kept kept)
or_logged None kind body = option_map forms.Logged (logged_of kind body)

abbrev pub record_of : Frame → Option Record
record_of frame = or_logged (read_of frame.kind frame.body) frame.kind frame.body

-- the records from the front on, up to the first frame that is none
abbrev pub onto_record : Option Record → List Record → List Record
onto_record None more = []
onto_record (Some first) more = first ∷ more

unfoldable pub records_of : List Frame → List Record
records_of [] = []
records_of (frame ∷ frames) = onto_record (record_of frame) (records_of frames)
