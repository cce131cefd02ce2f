-- How a range begins.
use Rattle.std.proofs.Common.{◌≡◌, ℕ, ◌+◌, ◌-◌, ◌/◌, nat_le, Bool, true, false, cond, List, [], ◌∷◌, Option, Some, None, option_map, IsSome, refl, sym, ap, subst, ◌∙◌, arith}
use Rattle.std.specs.Prelude.{unwrap_or, is_some}
use Rattle.std.specs.List.{find}
use Rattle.std.specs.Str.{bytes_eq}
use Rattle.std.proofs.Math.Nat.{zero-div}
use Rattle.std.proofs.lemmas.Bool.Decides.{nat_tests}
use Rattle.std.proofs.lemmas.Slice.Eq.{bytes_eq-Decides}
use Rattle.fab_base.specs.Layouts.{Volume, Layout}
use Rattle.layout.specs.Places.{volume_of, length_of, run_length}
use Rattle.front.specs.declared.steps.Halt.{Halt}
use Rattle.front.specs.declared.steps.Halt.TheVariants as halt
use Rattle.front.specs.Halts.{halt_of}
use Rattle.front.specs.Pieces.{Wish, Part, parts_from, parts_of, wish_of}
use Rattle.front.specs.Ranges.{begun, begun_by}
use Rattle.front.specs.Inside.{progress_of}
use Rattle.front.proofs.PartLaws.{ended}

-- the volume that is found has the name that was looked for
pub found_name : (volumes : List Volume) (name : List ℕ) (volume : Volume)
    → find (λ (other : Volume). bytes_eq other.name name) volumes ≡ Some volume → volume.name ≡ name
found_name [] name volume is = let never : None ≡ Some volume = is in cc
found_name (head ∷ more) name volume is = by_test (bytes_eq head.name name) refl is (found_name more name volume)
  where
    by_test : (b : Bool) → bytes_eq head.name name ≡ b
        → cond b (Some head) (find (λ (other : Volume). bytes_eq other.name name) more) ≡ Some volume
        → (find (λ (other : Volume). bytes_eq other.name name) more ≡ Some volume → volume.name ≡ name) → volume.name ≡ name
    by_test true test found rest =
        let same : head ≡ volume = cc in
        sym (ap (λ (v : Volume). v.name) same) ∙ (bytes_eq-Decides head.name name).0 test
    by_test false test found rest = rest found

-- a range that nothing halts ends within the volume
within : (a b : Bool) → cond a (cond b None (Some halt.Beyond)) (Some halt.Unaligned) ≡ None → b ≡ true
within true true is = refl
within true false is = let never : Some halt.Beyond ≡ None = is in cc
within false b is = let never : Some halt.Unaligned ≡ None = is in cc

-- a range that begins, as its fields show it
pub begins_none : (layout : Layout) (volume name : List ℕ) (byte bytes block : ℕ) (content : Option (List ℕ)) → block ≡ layout.block
    → (IsSome (volume_of layout volume) → name ≡ volume) → halt_of layout volume byte bytes ≡ None
    → progress_of (record { layout = layout; volume = name; first = byte / block; content = content }) (bytes / block) 0 [] None
    ≡ begun layout volume byte bytes content
begins_none layout volume name byte bytes block content same named going =
    ap (λ (parts : List Part). begun_by None layout.block parts) (by_volume (volume_of layout volume) refl)
    ∙ sym (ap (λ (h : Option Halt). begun_by h layout.block (parts_of layout volume byte bytes content)) going)
  where
    by_volume : (found : Option Volume) → volume_of layout volume ≡ found
        → parts_from (record { layout = layout; volume = name; first = byte / block; content = content }) 0 (bytes / block - 0) 0
        ≡ parts_of layout volume byte bytes content
    by_volume None is =
        let fits : nat_le (byte + bytes) (unwrap_or (length_of layout volume) 0) ≡ true = within _ _ going in
        let at_none : nat_le (byte + bytes) 0 ≡ true =
        subst (λ (v : Option Volume). nat_le (byte + bytes) (unwrap_or (option_map (λ (w : Volume). run_length layout w.segments) v) 0) ≡ true) is fits in
        let none : bytes ≡ 0 = grind (arith, nat_tests) in
        let here : bytes / block - 0 ≡ 0 = omega (arith, ap (λ k. k / block) none ∙ zero-div block) in
        let there : bytes / layout.block ≡ 0 = ap (λ k. k / layout.block) none ∙ zero-div layout.block in
        let shown : Wish = record { layout = layout; volume = name; first = byte / block; content = content } in
        let wish : Wish = wish_of layout volume byte content in
        ap (λ k. parts_from shown 0 k 0) here ∙ ended shown 0 ∙ sym (ap (λ k. parts_from wish 0 k 0) there ∙ ended wish 0)
    by_volume (Some found) is =
        let all : bytes / layout.block - 0 ≡ bytes / layout.block = omega arith in
        ap (λ (n : List ℕ). parts_from (record { layout = layout; volume = n; first = byte / block; content = content }) 0 (bytes / block - 0) 0)
        (named (ap is_some is))
        ∙ ap (λ b. parts_from (record { layout = layout; volume = volume; first = byte / b; content = content }) 0 (bytes / b - 0) 0) same
        ∙ ap (λ k. parts_from (wish_of layout volume byte content) 0 k 0) all

-- a range that is halted at once, as its fields show it
pub begins_halted : (layout : Layout) (volume name : List ℕ) (byte bytes : ℕ) (content : Option (List ℕ)) (halt : Halt)
    → halt_of layout volume byte bytes ≡ Some halt
    → progress_of (record { layout = layout; volume = name; first = 0; content = content }) 0 0 [] (Some halt)
    ≡ begun layout volume byte bytes content
begins_halted layout volume name byte bytes content halt halted =
    let wish : Wish = record { layout = layout; volume = name; first = 0; content = content } in
    let none : 0 - 0 ≡ 0 = omega arith in
    let left : parts_from wish 0 (0 - 0) 0 ≡ [] = ap (λ k. parts_from wish 0 k 0) none ∙ ended wish 0 in
    ap (λ (parts : List Part). record (progress_of wish 0 0 [] (Some halt)) { left = parts }) left
    ∙ sym (ap (λ (h : Option Halt). begun_by h layout.block (parts_of layout volume byte bytes content)) halted)
