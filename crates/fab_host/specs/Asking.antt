-- Which calls were asked of a host.
use Rattle.std.specs.Prelude.{◌≡◌, List, [], ◌∷◌, ◌++◌, Result, Ok, Err}
use Rattle.fab_base.specs.declared.faults.IoFault.{IoFault}
use Rattle.fab_base.specs.declared.faults.IoFault.TheVariants.{Failed, NoMemory}
use Rattle.fab_host.specs.declared.hosts.Asked.{Asked}

-- one more call was asked, but where it found no memory
abbrev pub Asks : {T : Type 0} → List Asked → List Asked → Asked → Result T IoFault → Type 0
Asks before after call (Ok thing) = after ≡ before ++ call ∷ []
Asks before after call (Err Failed) = after ≡ before ++ call ∷ []
Asks before after call (Err NoMemory) = after ≡ before
