-- The exits at errors.
use Rattle.std.proofs.Common.{◌≡◌, ℕ, Result, Ok, Err, OnErr, IfErr, IsErr}
use Rattle.fab_io.specs.Ends.{Kept}
use Rattle.fab_base.proofs.Keeping.{Kept-refl, Kept-narrower}
use Rattle.hosting.specs.declared.faults.HostFault.{HostFault}
use Rattle.hosting.specs.declared.faults.HostFault.TheVariants.{Disk, Link, ClientLink, Clock, Source, Sink, NoMemory}
use Rattle.hosting.specs.Faults.{AtCommand, AtSource, AtSink, AtLine}

-- what holds at each error holds at an exit with one
pub at_err : {T E : Type 0} (r : Result T E) (P : Result T E → Type 0) → ((e : E) → P (Err e)) → IsErr r → P r
at_err (Ok x) P h is = absurd cc
at_err (Err e) P h is = h e

pub on_err : {T E : Type 0} {P : Type 0} (r : Result T E) → P → OnErr r P
on_err (Ok x) p = tt
on_err (Err e) p = p

-- nothing was asked of a thing whose fault is another than the one that was met
pub kept_other : {T : Type 0} (r : Result T HostFault) (y met said : HostFault) (n : ℕ) (S : Type 0) → r ≡ Err y → y ≡ met → (met ≡ said → ⊥)
    → Kept n n S S (r ≡ Err said)
kept_other r y met said n S is same never = Kept-narrower (λ e. never (let one : met ≡ said = cc in one)) (Kept-refl n S)

-- a fault of the sink is none of the client's link or of the source
pub sink-not_link : (fault : HostFault) → AtSink fault → fault ≡ ClientLink → ⊥
sink-not_link Sink at e = cc
sink-not_link NoMemory at e = cc
sink-not_link fault at e = absurd at

pub sink-not_source : (fault : HostFault) → AtSink fault → fault ≡ Source → ⊥
sink-not_source Sink at e = cc
sink-not_source NoMemory at e = cc
sink-not_source fault at e = absurd at

pub command-not_sink : (fault : HostFault) → AtCommand fault → fault ≡ Sink → ⊥
command-not_sink Disk at e = cc
command-not_sink Link at e = cc
command-not_sink ClientLink at e = cc
command-not_sink Clock at e = cc
command-not_sink NoMemory at e = cc
command-not_sink fault at e = absurd at

pub command-not_source : (fault : HostFault) → AtCommand fault → fault ≡ Source → ⊥
command-not_source Disk at e = cc
command-not_source Link at e = cc
command-not_source ClientLink at e = cc
command-not_source Clock at e = cc
command-not_source NoMemory at e = cc
command-not_source fault at e = absurd at

pub source-not_link : (fault : HostFault) → AtSource fault → fault ≡ ClientLink → ⊥
source-not_link Source at e = cc
source-not_link NoMemory at e = cc
source-not_link fault at e = absurd at

pub source-not_sink : (fault : HostFault) → AtSource fault → fault ≡ Sink → ⊥
source-not_sink Source at e = cc
source-not_sink NoMemory at e = cc
source-not_sink fault at e = absurd at

-- what a call of the sink answered is no fault of the client's link
pub sink_call : {T : Type 0} (r : Result T HostFault) → IfErr r AtSink → r ≡ Err ClientLink → ⊥
sink_call (Ok x) only e = cc
sink_call (Err fault) only e = sink-not_link fault only (let same : fault ≡ ClientLink = cc in same)

pub line-not_source : (fault : HostFault) → AtLine fault → fault ≡ Source → ⊥
line-not_source Source at e = absurd at
line-not_source Disk at e = cc
line-not_source Link at e = cc
line-not_source ClientLink at e = cc
line-not_source Clock at e = cc
line-not_source Sink at e = cc
line-not_source NoMemory at e = cc

-- the fault that is answered is the one that was met
pub was_met : {T : Type 0} (r : Result T HostFault) (y met said : HostFault) → r ≡ Err y → y ≡ met → r ≡ Err said → met ≡ said
was_met r y met said is same e = cc

pub not_said : {T : Type 0} (r : Result T HostFault) (y met said : HostFault) → r ≡ Err y → y ≡ met → (met ≡ said → ⊥) → r ≡ Err said → ⊥
not_said r y met said is same never e = never (was_met r y met said is same e)

-- nothing was met
pub ok_not : {T : Type 0} (x : T) (said : HostFault) → Ok x ≡ Err said → ⊥
ok_not x said e = cc
