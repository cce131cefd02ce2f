use Rattle.std.proofs.Common.{◌≡◌, ℕ, ◌<◌, inl, inr, List, length, get_or, drop, refl, sym, ap, ◌∙◌, arith}
use Rattle.std.specs.Prelude.{bit_xor}
use Rattle.std.proofs.lemmas.Bool.{cases_lt}
use Rattle.std.proofs.lemmas.List.{take_at, get_or_past}
use Rattle.gf_field.specs.Field.{field_mul}
use Rattle.gf_field.specs.Polynomials.{weight_of}
use Rattle.stripe_code.proofs.Changes.{modified_block-from_bytes}
use Rattle.stripe_code.proofs.blocks.modify.Goals as goal

pub returns : goal.returns
returns c =
    let m = c.args.m in
    let size = c.args.size in
    let j = c.args.j in
    let seat = c.args.seat in
    let delta = c.args.delta.now in
    let block = c.args.block.now in
    let made = c.modify_into.new.block in
    let resized = c.resize.new.self.items in
    let copied : c.in_ok-changed.changed.items ≡ c.args.block.now = c.in_ok-changed.ensures.items in
    let filled : c.resize.new.self.len ≡ c.args.size = c.in_ok-resize.ensures.len in
    let long : length c.modify_into.new.block ≡ c.args.size = c.modify_into.ensures.formula.long ∙ c.deref_mut.ensures.len ∙ filled in
    let kept = λ (t : ℕ) (h : t < c.args.size).
    elim (cases_lt t (length c.args.block.now)) as (λ _. get_or c.resize.new.self.items t 0 ≡ get_or c.args.block.now t 0) [
      | inl within ↦
          c.in_ok-resize.ensures.by_index.0 t 0 h (omega (arith, ap (λ (xs : List ℕ). length xs) copied)) ∙ ap (λ (xs : List ℕ). get_or xs t 0) copied
      | inr past ↦ c.in_ok-resize.ensures.by_index.1 t 0 refl (omega (arith, ap (λ (xs : List ℕ). length xs) copied)) h ∙ sym (get_or_past block t 0 past)
    ] in
    c.from_vec.ensures
    ∙ take_at made (drop (length made) resized) c.resize.new.self.len (long ∙ sym filled)
    ∙ modified_block-from_bytes m size j seat delta block made long
    (λ t h.
    c.modify_into.ensures.formula.each t (omega arith)
    ∙ ap (λ y. bit_xor y (field_mul (weight_of m (λ i. i) j seat) (get_or delta t 0)))
    (ap (λ (xs : List ℕ). get_or xs t 0) c.deref_mut.ensures.value ∙ kept t h))
