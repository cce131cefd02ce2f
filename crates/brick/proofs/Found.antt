-- What was found of a layout.
use Rattle.std.proofs.Common.{◌≡◌, ◌<◌, ℕ, eqb, true, arith, List, [], Option, Some, None, Result, Ok, Err, inl, inr, subst}
use Rattle.std.specs.Prelude.{nat_lt}
use Rattle.std.proofs.lemmas.Bool.{cases_Bool, ltb-true}
use Rattle.std.proofs.lemmas.Option.{same_Some}
use Rattle.fab_base.specs.declared.identities.BrickId.{BrickId}
use Rattle.fab_base.specs.Layouts.{Layout}
use Rattle.brick.specs.declared.endings.Ending.{Ending}
use Rattle.brick.specs.declared.endings.Ending.TheVariants.{Formatted, Ended, Commanded, Served, Usage, BadLayout, LongLayout, Source, Sink, Memory, Disk, Host, NotAStore, Worn}
use Rattle.brick.specs.Endings.{status_of}
use Rattle.brick.specs.Hosts.{HostSeen}
use Rattle.frame_store.specs.Images.{OpensAs}
use Rattle.frame_store.specs.Layouts.{shape_of, formed}
use Rattle.brick_state.specs.States.{empty}
use Rattle.brick_store.specs.Images.{StandsFor, LeavesState}
use Rattle.brick.specs.Formats.{IsFresh, made_form}
use Rattle.brick.specs.Layouts.{ReadsSource, FindsLayout, brick_of}

-- a source that was read is one way to find a layout, or none
pub found : {S D L N C : Type 0} (told : S → Option (List ℕ)) (failed : S → ℕ) (before after : HostSeen S D L N C) (name : List ℕ) (result : Result Layout Ending)
    → ReadsSource told failed before after name result → FindsLayout told failed before after name result
found told failed before after name (Ok layout) r = r
found told failed before after name (Err (Formatted me)) r = r
found told failed before after name (Err (Ended turns malformed)) r = r
found told failed before after name (Err Commanded) r = r
found told failed before after name (Err (Served end)) r = r
found told failed before after name (Err Usage) r = r
found told failed before after name (Err (BadLayout fault)) r = r
found told failed before after name (Err LongLayout) r = r
found told failed before after name (Err Source) r = r
found told failed before after name (Err Sink) r = r
found told failed before after name (Err Memory) r = inr r
found told failed before after name (Err Disk) r = r
found told failed before after name (Err Host) r = absurd r.gives
found told failed before after name (Err NotAStore) r = r
found told failed before after name (Err Worn) r = r

-- a store that was made of these blocks and records is that of the layout
pub fresh : {D : Type 0} (seen : D → List ℕ) (may_leave : D → List ℕ → Type 0) (layout : Layout) (me : BrickId) (disk : D) (block records store : ℕ)
    → block ≡ layout.block → records ≡ layout.records → store ≡ layout.store → StandsFor (shape_of me.0 block records) empty (seen disk)
    → LeavesState (shape_of me.0 block records) empty (may_leave disk)
    → OpensAs (formed (made_form (eqb store 1)) (shape_of me.0 block records)) [] true (seen disk) → IsFresh seen may_leave layout me disk
fresh seen may_leave layout me disk block records store blocks are stored stands leaves opens = record {
  now = subst (λ (b : ℕ). StandsFor (shape_of me.0 b layout.records) empty (seen disk)) blocks
      (subst (λ (r : ℕ). StandsFor (shape_of me.0 block r) empty (seen disk)) are stands);
  durable = subst (λ (b : ℕ). LeavesState (shape_of me.0 b layout.records) empty (may_leave disk)) blocks
      (subst (λ (r : ℕ). LeavesState (shape_of me.0 block r) empty (may_leave disk)) are leaves);
  format = subst (λ (s : ℕ). OpensAs (formed (made_form (eqb s 1)) (shape_of me.0 layout.block layout.records)) [] true (seen disk)) stored
      (subst (λ (b : ℕ). OpensAs (formed (made_form (eqb store 1)) (shape_of me.0 b layout.records)) [] true (seen disk)) blocks
      (subst (λ (r : ℕ). OpensAs (formed (made_form (eqb store 1)) (shape_of me.0 block r)) [] true (seen disk)) are opens));
}

-- a layout that was not found is no fault of the sink
pub found_not_sink : {S D L N C : Type 0} (told : S → Option (List ℕ)) (failed : S → ℕ) (before after : HostSeen S D L N C) (name : List ℕ) (ending : Ending)
    → FindsLayout told failed before after name (Err ending) → status_of ending ≡ 6 → ⊥
found_not_sink told failed before after name (Formatted me) f e = absurd f.gives
found_not_sink told failed before after name (Ended turns malformed) f e = absurd f.gives
found_not_sink told failed before after name Commanded f e = absurd f.gives
found_not_sink told failed before after name (Served end) f e = absurd f.gives
found_not_sink told failed before after name Usage f e = absurd f.gives
found_not_sink told failed before after name (BadLayout fault) f e = absurd (omega arith)
found_not_sink told failed before after name LongLayout f e = absurd (omega arith)
found_not_sink told failed before after name Source f e = absurd (omega arith)
found_not_sink told failed before after name Sink f e = absurd f.gives
found_not_sink told failed before after name Memory f e = absurd (omega arith)
found_not_sink told failed before after name Disk f e = absurd f.gives
found_not_sink told failed before after name Host f e = absurd (omega arith)
found_not_sink told failed before after name NotAStore f e = absurd f.gives
found_not_sink told failed before after name Worn f e = absurd f.gives

-- a brick of a layout that was found has the number that was looked for, and the layout has that
pub brick_has : (layout : Layout) (id : ℕ) (me : BrickId) → brick_of layout id ≡ Some me → (id < layout.bricks) × (record { 0 = id } ≡ me)
brick_has layout id me is =
    elim (cases_Bool (nat_lt id layout.bricks)) [
      | inl has ↦ (ltb-true id layout.bricks has, same_Some _ _ (rw has at is))
      | inr not ↦ absurd (none_some (rw not at is))
    ]
  where
    none_some : {A : Type 0} {a : A} → None ≡ Some a → ⊥
    none_some e = cc
