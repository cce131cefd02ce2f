-- What a layout text says.
use Rattle.std.specs.Prelude.{ℕ, List, [], ◌∷◌, if◌then◌else◌, Option, None, Some, Result, Err}
use Rattle.std.specs.Str.{is_utf8}
use Rattle.fab_base.specs.Layouts.{Group, Layout}
use Rattle.toml.specs.Data.{Members}
use Rattle.toml.specs.Parse.{parse_document}
use Rattle.layout.specs.declared.faults.LayoutFault.{LayoutFault}
use Rattle.layout.specs.declared.faults.LayoutFault.TheVariants.{Toml}
use Rattle.layout.specs.Checks.{layout_with, layout_in}

-- the table that a text is as a TOML document, if it is one
abbrev pub document_of : List ℕ → Option Members
document_of text = if is_utf8 text then parse_document text else None

-- a document, and then its checks
abbrev pub layout_or : Option Members → Result Layout LayoutFault
layout_or None = Err Toml
layout_or (Some table) = layout_in table

-- the layout that a text says, or the fault of the first check that it fails
abbrev pub layout_of : List ℕ → Result Layout LayoutFault
layout_of text = layout_or (document_of text)

-- one group of four stripes of one data block, whose members are the bricks 0, 1 and 2
abbrev pub three_members : Group
three_members = record { members = record { 0 = 0 } ∷ (record { 0 = 1 } ∷ (record { 0 = 2 } ∷ [])); m = 1; stripes = 4 }

-- three bricks with blocks of one byte, each with room for 100 live records
abbrev pub three_copies : Layout
three_copies = layout_with 1 3 100 17000 2 [] (three_members ∷ []) []
