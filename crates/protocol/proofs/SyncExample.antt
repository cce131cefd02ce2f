-- A synchronisation, read by read: of a view of a group of two stripes.
use Rattle.std.proofs.Common.{◌≡◌, ℕ, [], Some, None, refl}
use Rattle.fab_base.specs.declared.answers.Cause.{Cause}
use Rattle.fab_base.specs.declared.answers.Cause.TheVariants.{Gone}
use Rattle.fab_base.specs.declared.answers.Refusal.TheVariants.{NoStripe, Busy}
use Rattle.fab_base.specs.Layouts.{Group}
use Rattle.protocol.specs.Jobs.{Attempt, Job, Reads, Finishes, GivesUp, first_attempt, begun_job, job_after, sync_refusal_in}

-- the try of a stripe
abbrev try_of : ℕ → ℕ → Attempt
try_of stripe tries = record { stripe = stripe; tries = tries }

-- a read was aborted: brick 2 had dropped its versions of the view before
abbrev gone : Cause
gone = Gone (record { 0 = 2 })

-- a read that is aborted is tried again, up to eight times
again : job_after 2 first_attempt (Some gone) ≡ Reads (try_of 0 2)
again = refl

last_again : job_after 2 (try_of 0 7) (Some gone) ≡ Reads (try_of 0 8)
last_again = refl

gives_up : job_after 2 (try_of 0 8) (Some gone) ≡ GivesUp gone
gives_up = refl

-- a read that is answered, at whatever try, is followed by the first try of the next stripe; and the last stripe ends it
goes_on : job_after 2 (try_of 0 8) None ≡ Reads (try_of 1 1)
goes_on = refl

finishes : job_after 2 (try_of 1 3) None ≡ Finishes
finishes = refl

-- a group that there is not has none, and a brick has one at a time
abbrev group : Group
group = record { members = []; m = 1; stripes = 2 }

abbrev begun : Job
begun = begun_job (record { 0 = 0 }) (record { number = record { 0 = 2 }; members = []; prior = [] })

no_group : sync_refusal_in (Some begun) None ≡ Some NoStripe
no_group = refl

busy : sync_refusal_in (Some begun) (Some group) ≡ Some Busy
busy = refl

not_busy : sync_refusal_in None (Some group) ≡ None
not_busy = refl
