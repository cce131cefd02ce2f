-- How a change ended, by what the call answered.
use Rattle.std.proofs.Common.{◌≡◌, ◌≢◌, refl, sym, ◌∙◌, ap, subst, Result, Ok, Err}
use Rattle.std.specs.Result.{IsOk, IsOkUnless, OnOk}
use Rattle.fab_disk.specs.Changing.{End, Whole, Cut, NotBegun}
use Rattle.frame_store.specs.declared.faults.FrameFault.{FrameFault}
use Rattle.frame_store.specs.declared.faults.FrameFault.TheVariants.{Disk, Halted, NoMemory}
use Rattle.frame_store.specs.Ends.{end_of}

-- a call that answers Ok or Disk was begun
pub begun : (r : Result (Unit {0}) FrameFault) → IsOkUnless r Disk → end_of r ≢ NotBegun
begun (Ok value) only is = absurd cc
begun (Err fault) only is = let clash : Cut ≡ NotBegun = sym (ap (λ (f : FrameFault). end_of (refused f)) only) ∙ is in absurd cc
  where
    refused : FrameFault → Result (Unit {0}) FrameFault
    refused f = Err f

-- it was made whole where it answered Ok
pub whole_ok : (r : Result (Unit {0}) FrameFault) → end_of r ≡ Whole → IsOk r
whole_ok (Ok value) is = refl
whole_ok (Err Disk) is = absurd cc
whole_ok (Err Halted) is = absurd cc
whole_ok (Err NoMemory) is = absurd cc

pub ok_whole : (r : Result (Unit {0}) FrameFault) → IsOk r → end_of r ≡ Whole
ok_whole (Ok value) is = refl
ok_whole (Err fault) is = absurd cc

-- and cut short where it answered Disk
pub cut_disk : (r : Result (Unit {0}) FrameFault) → end_of r ≡ Cut → r ≡ Err Disk
cut_disk (Ok value) is = absurd cc
cut_disk (Err Disk) is = refl
cut_disk (Err Halted) is = absurd cc
cut_disk (Err NoMemory) is = absurd cc

-- what is so of an end, by the answer
pub of_cut : (P : End → Type 0) (r : Result (Unit {0}) FrameFault) → r ≡ Err Disk → P Cut → P (end_of r)
of_cut P r is here = subst (λ (a : Result (Unit {0}) FrameFault). P (end_of a)) (sym is) here

pub at_cut : (P : End → Type 0) (r : Result (Unit {0}) FrameFault) → r ≡ Err Disk → P (end_of r) → P Cut
at_cut P r is here = subst (λ (a : Result (Unit {0}) FrameFault). P (end_of a)) is here

pub of_refused : (P : End → Type 0) (r : Result (Unit {0}) FrameFault) → r ≡ Err NoMemory → P NotBegun → P (end_of r)
of_refused P r is here = subst (λ (a : Result (Unit {0}) FrameFault). P (end_of a)) (sym is) here

-- what follows from a fact on Ok
pub on_ok : {P Q : Type 0} (r : Result (Unit {0}) FrameFault) → (P → Q) → OnOk r P → OnOk r Q
on_ok (Ok value) means p = means p
on_ok (Err fault) means p = tt

pub on_whole : {P : Type 0} (r : Result (Unit {0}) FrameFault) → OnOk r P → end_of r ≡ Whole → P
on_whole (Ok value) p is = p
on_whole (Err Disk) p is = absurd cc
on_whole (Err Halted) p is = absurd cc
on_whole (Err NoMemory) p is = absurd cc
