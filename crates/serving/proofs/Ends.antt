-- How a call ends, by the faults of the calls that it makes.
use Rattle.std.proofs.Common.{◌≡◌, Result, Ok, Err, OnErr, sym, ap, ◌∙◌, subst}
use Rattle.serving.specs.declared.faults.ServeFault.{ServeFault}
use Rattle.serving.specs.declared.faults.ServeFault.TheVariants.{Disk, Halted, Link, Clock, NoMemory}
use Rattle.serving.specs.Faults.{AtLink, AtClock}

-- what holds at a fault that was met holds at the exit that answers it
pub at_exit : {T : Type 0} (r : Result T ServeFault) (met : ServeFault) (P : Result T ServeFault → Type 0) → (y : ServeFault) → r ≡ Err y → y ≡ met → P (Err met) → P r
at_exit r met P y is same p = subst P (sym (is ∙ ap (λ (e : ServeFault). Err e) same)) p

-- the fault that is answered was met
pub was_met : {T : Type 0} (r : Result T ServeFault) (met said y : ServeFault) → r ≡ Err y → y ≡ met → r ≡ Err said → met ≡ said
was_met r met said y is same e = cc

-- what holds in any case holds at an error
pub on_err : {T E P : Type 0} (r : Result T E) → P → OnErr r P
on_err (Ok x) p = tt
on_err (Err e) p = p

-- no fault of the link is one of the disk or the clock
pub link-not_disk : (fault : ServeFault) → AtLink fault → fault ≡ Disk → ⊥
link-not_disk Link at e = cc
link-not_disk NoMemory at e = cc
link-not_disk fault at e = absurd at

pub link-not_clock : (fault : ServeFault) → AtLink fault → fault ≡ Clock → ⊥
link-not_clock Link at e = cc
link-not_clock NoMemory at e = cc
link-not_clock fault at e = absurd at

pub link-not_halted : (fault : ServeFault) → AtLink fault → fault ≡ Halted → ⊥
link-not_halted Link at e = cc
link-not_halted NoMemory at e = cc
link-not_halted fault at e = absurd at

-- and none of the clock one of the disk or the link
pub clock-not_disk : (fault : ServeFault) → AtClock fault → fault ≡ Disk → ⊥
clock-not_disk Clock at e = cc
clock-not_disk NoMemory at e = cc
clock-not_disk fault at e = absurd at

pub clock-not_link : (fault : ServeFault) → AtClock fault → fault ≡ Link → ⊥
clock-not_link Clock at e = cc
clock-not_link NoMemory at e = cc
clock-not_link fault at e = absurd at

pub clock-not_halted : (fault : ServeFault) → AtClock fault → fault ≡ Halted → ⊥
clock-not_halted Clock at e = cc
clock-not_halted NoMemory at e = cc
clock-not_halted fault at e = absurd at
