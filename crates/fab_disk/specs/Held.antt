-- Which pages have memory, so that the writes since the last sync can be undone, or drawn, with no more.
use Rattle.std.specs.Prelude.{ℕ, ◌+◌, ◌<◌, List, [], ◌∷◌, length}
use Rattle.std.proofs.Math.Bool.{Bool-set}
use Rattle.std.specs.Coded.{×_prop, Unit-prop}
use Rattle.fab_disk.specs.declared.pages.Page.{Page}
use Rattle.fab_disk.specs.declared.pages.Pages.{Pages}
use Rattle.fab_disk.specs.Past.{Past, wrote, synced}
use Rattle.fab_disk.specs.Stored.{HoldsRange, HoldsEnd}

-- how long the content was at the last sync
abbrev pub settled_size : List Past → ℕ → ℕ
settled_size [] size = size
settled_size (synced ∷ older) size = size
settled_size (wrote w ∷ older) size = settled_size older w.length_before

-- each page that was written since has memory, where the pages lie behind so many bytes
abbrev pub HoldsWritten : ℕ → List Page → List Past → Type 0
HoldsWritten front pages [] = Unit {0}
HoldsWritten front pages (synced ∷ older) = Unit {0}
HoldsWritten front pages (wrote w ∷ older) = HoldsRange front pages w.at (w.at + w.len) × HoldsWritten front pages older

-- and so does the page in which the content ended then, if it is longer now
abbrev pub HoldsSeam : ℕ → List Page → List Past → ℕ → Type 0
HoldsSeam front pages past size = settled_size past size < size → HoldsEnd front (settled_size past size) pages

HoldsRange-prop : (front : ℕ) (pages : List Page) (from end : ℕ) → IsProp (HoldsRange front pages from end)
HoldsRange-prop front pages from end = hlevel Bool-set

pub HoldsWritten-prop : (front : ℕ) (pages : List Page) (past : List Past) → IsProp (HoldsWritten front pages past)
HoldsWritten-prop front pages [] = Unit-prop
HoldsWritten-prop front pages (synced ∷ older) = Unit-prop
HoldsWritten-prop front pages (wrote w ∷ older) = ×_prop (HoldsRange-prop front pages w.at (w.at + w.len)) (HoldsWritten-prop front pages older)

pub HoldsSeam-prop : (front : ℕ) (pages : List Page) (past : List Past) (size : ℕ) → IsProp (HoldsSeam front pages past size)
HoldsSeam-prop front pages past size = hlevel Bool-set

-- so have the pages of a content
abbrev pub KeepsPages : Pages → List Past → Type 0
KeepsPages content past = HoldsWritten (length content.front.items) content.pages.items past

abbrev pub KeepsEdge : Pages → List Past → Type 0
KeepsEdge content past = HoldsSeam (length content.front.items) content.pages.items past content.len

pub KeepsPages-prop : (content : Pages) (past : List Past) → IsProp (KeepsPages content past)
KeepsPages-prop content past = HoldsWritten-prop (length content.front.items) content.pages.items past

pub KeepsEdge-prop : (content : Pages) (past : List Past) → IsProp (KeepsEdge content past)
KeepsEdge-prop content past = HoldsSeam-prop (length content.front.items) content.pages.items past content.len
