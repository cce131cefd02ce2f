-- What a step of a brick leaves of operations: each keeps its brick, boot and call number, and none is added.
use Rattle.std.proofs.Common.{◌≡◌, ℕ, Option, Some, None, refl, sym, ap, ◌∙◌}
use Rattle.protocol.specs.Nodes.{NodeStep, put}
use Rattle.fab_base.specs.declared.identities.BrickId.{BrickId}
use Rattle.protocol.specs.Settings.{Setting}
use Rattle.protocol.specs.Worlds.{World, Operation, world_stepped}
use Rattle.protocol.proofs.Tables.{put_each}
use Rattle.protocol.proofs.Events.{stepped_each}

-- an operation of the first is one of the second, of the same brick, boot and call number
abbrev pub KeepsKeys : (ℕ → Option Operation) → (ℕ → Option Operation) → Type 0
KeepsKeys old new =
    (a : ℕ) (o : Operation) → old a ≡ Some o → (p : Operation) × (new a ≡ Some p) × (p.brick ≡ o.brick) × (p.boot ≡ o.boot) × (p.seq ≡ o.seq)

keys_then : (f g h : ℕ → Option Operation) → KeepsKeys f g → KeepsKeys g h → KeepsKeys f h
keys_then f g h first second a o is =
    let p = first a o is in
    let r = second a p.0 p.1 in
    (r.0, r.1, r.2 ∙ p.2, r.3 ∙ p.3, r.4 ∙ p.4)

-- operations keep their brick, boot and call number, and there are no more of them
pub record SameKeys (old new : ℕ → Option Operation) : Type 0 where
  pub on : KeepsKeys old new
  pub back : KeepsKeys new old

pub same_keys : (f : ℕ → Option Operation) → SameKeys f f
same_keys f = record { on = λ a o is. (o, is, refl, refl, refl); back = λ a o is. (o, is, refl, refl, refl) }

pub same_keys_then : (f g h : ℕ → Option Operation) → SameKeys f g → SameKeys g h → SameKeys f h
same_keys_then f g h first second =
    record { on = keys_then f g h first.on second.on; back = keys_then h g f second.back first.back }

-- a change of an operation that keeps these, and makes none
pub record KeepsKey (change : Option Operation → Option Operation) : Type 0 where
  pub none : change None ≡ None
  pub some : (o : Operation) → (p : Operation) × (change (Some o) ≡ Some p) × (p.brick ≡ o.brick) × (p.boot ≡ o.boot) × (p.seq ≡ o.seq)

-- so is one operation changed
pub same_keys_put : (f : ℕ → Option Operation) (m : ℕ) (change : Option Operation → Option Operation) → KeepsKey change
    → SameKeys f (put f m (change (f m)))
same_keys_put f m change keeps = record {
  on = λ a o is.
      put_each (λ i z. f i ≡ Some o → (p : Operation) × (z ≡ Some p) × (p.brick ≡ o.brick) × (p.boot ≡ o.boot) × (p.seq ≡ o.seq)) f m (change (f m))
      (λ own. let p = keeps.some o in (p.0, ap change own ∙ p.1, p.2, p.3, p.4)) (λ i other here. (o, here, refl, refl, refl)) a is;
  back = λ a o is.
      put_each (λ i z. z ≡ Some o → (p : Operation) × (f i ≡ Some p) × (p.brick ≡ o.brick) × (p.boot ≡ o.boot) × (p.seq ≡ o.seq)) f m (change (f m))
      (λ own. here o (f m) refl own) (λ i other there. (o, there, refl, refl, refl)) a is;
}
  where
    here : (o : Operation) (z : Option Operation) → f m ≡ z → change z ≡ Some o
        → (p : Operation) × (f m ≡ Some p) × (p.brick ≡ o.brick) × (p.boot ≡ o.boot) × (p.seq ≡ o.seq)
    here o None is changed = absurd (let never : None ≡ Some o = sym keeps.none ∙ changed in cc)
    here o (Some q) is changed =
        let p = keeps.some q in
        let same : p.0 ≡ o = cc in
        (q, is, sym p.2 ∙ ap (λ (z : Operation). z.brick) same, sym p.3 ∙ ap (λ (z : Operation). z.boot) same, sym p.4 ∙ ap (λ (z : Operation). z.seq) same)

-- which messages were delivered, and which bricks are up, a step leaves as it is
pub reached_stepped : (setting : Setting) (w : World) (me : BrickId) (step : NodeStep) → (world_stepped setting w me step).reached ≡ w.reached
reached_stepped setting w me step =
    stepped_each (λ (x : World). x.reached ≡ w.reached) setting me step (λ x seq t base is. is) (λ x seq v is. is) (λ x nodes call is. is)
    (λ x seq cause is. is) (λ x answered is. is) (λ x nodes held packets choices is. is) w refl

pub ups_stepped : (setting : Setting) (w : World) (me : BrickId) (step : NodeStep) → (world_stepped setting w me step).up ≡ w.up
ups_stepped setting w me step =
    stepped_each (λ (x : World). x.up ≡ w.up) setting me step (λ x seq t base is. is) (λ x seq v is. is) (λ x nodes call is. is)
    (λ x seq cause is. is) (λ x answered is. is) (λ x nodes held packets choices is. is) w refl
