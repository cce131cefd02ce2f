-- The keys of a layout text, the names of volumes, and the words for what is wrong with a text.
use Rattle.std.specs.Prelude.{ℕ, nat_eq, nat_le, Bool, ◌&&◌, ◌||◌, List, ◌++◌, length, codes}
use Rattle.std.specs.List.{list_all}
use Rattle.layout.specs.declared.faults.Key.{Key}
use Rattle.layout.specs.declared.faults.Key.TheVariants.{Block, Bricks, Records, Port, Store, Spares, Group, GroupM, GroupMembers, GroupStripes, Volume, VolumeName, VolumeSegments}
use Rattle.layout.specs.declared.faults.FieldName.{FieldName}
use Rattle.layout.specs.declared.faults.FieldName.TheVariants.{Known, Other, OtherOfGroup, OtherOfVolume}
use Rattle.layout.specs.declared.faults.LayoutFault.{LayoutFault}
use Rattle.layout.specs.declared.faults.LayoutFault.TheVariants.{Toml, Field, Limit, NoMemory}

-- a key as it stands in its table
abbrev pub key_text : Key → List ℕ
key_text Block = codes "block"
key_text Bricks = codes "bricks"
key_text Records = codes "records"
key_text Port = codes "port"
key_text Store = codes "store"
key_text Spares = codes "spares"
key_text Group = codes "group"
key_text GroupM = codes "m"
key_text GroupMembers = codes "members"
key_text GroupStripes = codes "stripes"
key_text Volume = codes "volume"
key_text VolumeName = codes "name"
key_text VolumeSegments = codes "segments"

-- what a key is called: its text, with `group.` before a key of a group, and `volume.` before one of a volume
abbrev pub key_name : Key → List ℕ
key_name Block = codes "block"
key_name Bricks = codes "bricks"
key_name Records = codes "records"
key_name Port = codes "port"
key_name Store = codes "store"
key_name Spares = codes "spares"
key_name Group = codes "group"
key_name GroupM = codes "group.m"
key_name GroupMembers = codes "group.members"
key_name GroupStripes = codes "group.stripes"
key_name Volume = codes "volume"
key_name VolumeName = codes "volume.name"
key_name VolumeSegments = codes "volume.segments"

-- what a field is called, a key of the format or another
abbrev pub field_name : FieldName → List ℕ
field_name (Known key) = key_name key
field_name (Other text) = text
field_name (OtherOfGroup text) = codes "group." ++ text
field_name (OtherOfVolume text) = codes "volume." ++ text

-- how a fault prints
abbrev pub fault_text : LayoutFault → List ℕ
fault_text Toml = codes "toml"
fault_text (Field name) = codes "field " ++ field_name name
fault_text (Limit key) = codes "limit " ++ key_name key
fault_text NoMemory = codes "no memory"

-- a byte that may stand in the name of a volume: `a` to `z`, `0` to `9` and `-`
abbrev pub is_name_letter : ℕ → Bool
is_name_letter letter = ((nat_le 97 letter && nat_le letter 122) || (nat_le 48 letter && nat_le letter 57)) || nat_eq letter 45

-- a name: 1 to 64 such bytes
abbrev pub is_name : List ℕ → Bool
is_name text = (nat_le 1 (length text) && nat_le (length text) 64) && list_all is_name_letter text
