-- A store that no call has changed.
use Rattle.std.proofs.Common.{ℕ, List, Option, refl, arith}
use Rattle.frame_store.specs.declared.shapes.Shape.{Shape}
use Rattle.frame_store.specs.Images.{KeepsSlots}

-- each slot holds what it holds
pub slots_same : (shape : Shape) (put : Option (ℕ × List ℕ)) (content : List ℕ) → KeepsSlots shape put content content
slots_same shape put content = record { size = omega arith; same = λ slot has other. refl }
