-- What a program reads of the layout that it is given.
use Rattle.std.specs.Prelude.{◌≡◌, ◌≢◌, ◌⊎◌, ◌<◌, ◌≤◌, ℕ, nat_lt, if◌then◌else◌, List, length, ⊤, Option, Some, None, IfSome, Result, Ok, Err}
use Rattle.fab_base.specs.declared.identities.BrickId.{BrickId}
use Rattle.fab_base.specs.Layouts.{Layout}
use Rattle.fab_io.specs.Ends.{Rose}
use Rattle.fab_host.specs.declared.hosts.Asked.TheVariants as calls
use Rattle.fab_host.specs.Held.{here}
use Rattle.fab_host.specs.Holdings.{Holdings}
use Rattle.layout.specs.Texts.{layout_of}
use Rattle.layout.specs.declared.faults.LayoutFault.{LayoutFault}
use Rattle.layout.specs.declared.faults.LayoutFault.TheVariants as faults
use Rattle.brick.specs.declared.endings.Ending.{Ending}
use Rattle.brick.specs.declared.endings.Ending.TheVariants.{BadLayout, LongLayout, Source, Memory, Host}
use Rattle.brick.specs.Hosts.{HostSeen, IsUnasked, AsksOnly, AsksInVain, ReturnsSource}

-- the most bytes of a layout's text
abbrev pub most_layout_bytes : ℕ
most_layout_bytes = 1048576

-- a text that a layout may have, and what it says
abbrev pub Says : Result Layout LayoutFault → List ℕ → Type 0
Says r text = (length text ≤ most_layout_bytes) × (layout_of text ≡ r)

-- What the source gives for a layout: its whole text, where it tells that, says it; or the text is none, or too long; or the source
-- failed, or no memory was left.
abbrev pub Gives : {S : Type 0} → (S → Option (List ℕ)) → (S → ℕ) → S → S → Result Layout Ending → Type 0
Gives told failed opened back (Ok layout) = IfSome (told opened) (Says (Ok layout))
Gives told failed opened back (Err (BadLayout fault)) = (fault ≢ faults.NoMemory) × IfSome (told opened) (Says (Err fault))
Gives told failed opened back (Err LongLayout) = IfSome (told opened) (λ text. most_layout_bytes < length text)
Gives told failed opened back (Err Source) = Rose (failed opened) (failed back)
Gives told failed opened back (Err Memory) = ⊤
Gives told failed opened back (Err other) = ⊥

-- what the source gives for a text: all that it has left, where it tells that, within the limit of a layout
abbrev pub TextGives : {S : Type 0} → (S → Option (List ℕ)) → (S → ℕ) → S → S → Result (List ℕ) Ending → Type 0
TextGives told failed opened back (Ok text) = (length text ≤ most_layout_bytes) × IfSome (told opened) (λ bytes. bytes ≡ text)
TextGives told failed opened back (Err LongLayout) = IfSome (told opened) (λ text. most_layout_bytes < length text)
TextGives told failed opened back (Err Source) = Rose (failed opened) (failed back)
TextGives told failed opened back (Err Memory) = ⊤
TextGives told failed opened back (Err other) = ⊥

-- the source of this name was opened, read and given back
pub record ReadsSource {S D L N C : Type 0} (told : S → Option (List ℕ)) (failed : S → ℕ) (before after : HostSeen S D L N C) (name : List ℕ)
    (result : Result Layout Ending) : Type 0 where
  pub opened : S
  pub back : S
  pub asks : AsksOnly before after (calls.Source name) (ReturnsSource name opened back)
  pub gives : Gives told failed opened back result

-- a layout was asked for
abbrev pub FindsLayout : {S D L N C : Type 0} → (S → Option (List ℕ)) → (S → ℕ) → HostSeen S D L N C → HostSeen S D L N C → List ℕ → Result Layout Ending → Type 0
FindsLayout told failed before after name (Ok layout) = ReadsSource told failed before after name (Ok layout)
FindsLayout told failed before after name (Err Host) = AsksInVain before after (calls.Source name)
FindsLayout told failed before after name (Err Memory) = IsUnasked before after ⊎ ReadsSource told failed before after name (Err Memory)
FindsLayout told failed before after name (Err other) = ReadsSource told failed before after name (Err other)

-- the brick of this number, if the layout has it
abbrev pub brick_of : Layout → ℕ → Option BrickId
brick_of layout id = if nat_lt id layout.bricks then Some (record { 0 = id }) else None

-- the host holds a source that tells the text of this layout
pub record HoldsLayout {S D L N C : Type 0} (told : S → Option (List ℕ)) (h : Holdings S D L N C) (source : List ℕ) (layout : Layout) : Type 0 where
  pub opened : S
  pub text : List ℕ
  pub held : h.sources source ≡ here opened
  pub tells : told opened ≡ Some text
  pub says : Says (Ok layout) text
