-- Phases that order, at parts that have come to nothing above the stamp: each member promises, and tells what is looked for.
use Rattle.std.proofs.Common.{Bool, List, None, Option, Some, [], ap, cond, false, refl, subst, sym, true, ℕ, ⊎_elim, ◌∙◌, ◌∷◌, ◌≡◌}
use Rattle.std.proofs.lemmas.Bool.{cond_both, false≢true, or_cases}
use Rattle.std.proofs.lemmas.Option.{same_Some}
use Rattle.std.specs.Prelude.{slice_get}
use Rattle.calm_laws.proofs.Asking.{Keeps, Replies}
use Rattle.calm_laws.proofs.Decided.{asked_in_phase}
use Rattle.protocol_laws.proofs.Logs.{among, newest_held, newest_stands_among, place_held}
use Rattle.calm_laws.proofs.Rooms.{IsTame, Room, not_full, order_accepts, order_read_accepts, promised_tame}
use Rattle.calm_laws.proofs.Scenes.{Fits, Part, Seated, Stage, asked_of, reaction}
use Rattle.calm_laws.proofs.Storing.{with_reaction}
use Rattle.fab_base.proofs.StampOrder.{stamp_same_true}
use Rattle.fab_base.specs.Stamps.{first_stamp, stamp_below, stamp_same}
use Rattle.fab_base.specs.declared.stamps.Stamp.{Stamp}
use Rattle.messages.specs.declared.replies.Reply.{Reply}
use Rattle.messages.specs.declared.replies.Reply.TheVariants.{Ordered, OrderedRead}
use Rattle.messages.specs.declared.requests.Look.{Look}
use Rattle.messages.specs.declared.requests.Look.TheVariants.{Below}
use Rattle.messages.specs.declared.requests.Request.{Request}
use Rattle.messages.specs.declared.requests.Version.{Version}
use Rattle.messages.specs.declared.requests.Want.{Want}
use Rattle.protocol.specs.Coordinators.{Coordinator, request_of}
use Rattle.protocol.specs.Nodes.{fits, full_at}
use Rattle.protocol.specs.Replicas.{Reaction, below, handle, is_held, is_wanted, looked_up, newest_of, promised, told_version, top_of}
use Rattle.protocol.specs.declared.phases.Phase.TheVariants.{Descends, Orders, OrdersAt, Recovers}

-- each part promises the stamp, and tells this of its log
abbrev pub OrdersSo : Stage → Coordinator → (Seated → List Version → Reply) → Type 0
OrdersSo stage c answer =
    (y : Seated) (part : Part) → stamp_below c.stamp (top_of part.replica) ≡ false → Room stage part
    → reaction stage c part y ≡ promised part.replica c.stamp (answer y part.replica.log)

-- a part with its log, tame
abbrev pub TameWith : Stage → Stamp → (ℕ → List Version) → ℕ → Part → Type 0
TameWith stage t logs i part = IsTame stage t (logs i) part

pub orders_keep : (stage : Stage) (c : Coordinator) (answer : Seated → List Version → Reply) (logs : ℕ → List Version)
    → stamp_same c.stamp first_stamp ≡ false → OrdersSo stage c answer → Keeps stage c (TameWith stage c.stamp logs)
orders_keep stage c answer logs later so i y part is =
    subst (λ (r : Reaction). IsTame stage c.stamp (logs i) (with_reaction part r)) (sym (so y part is.tame is.room))
    (promised_tame stage c.stamp (logs i) (answer y part.replica.log) part later is)

pub orders_reply : (stage : Stage) (c : Coordinator) (answer : Seated → List Version → Reply) (logs : ℕ → List Version) → OrdersSo stage c answer
    → Replies stage c (TameWith stage c.stamp logs) (λ x. answer x (logs x.brick.0))
orders_reply stage c answer logs so x part is =
    ap (λ (r : Reaction). r.reply) (so x part is.tame is.room) ∙ ap (λ (log : List Version). Some (answer x log)) is.log_is

-- what a phase that looks for a version is answered
abbrev pub looking : Look → Want → Seated → List Version → Reply
looking look want x log = OrderedRead (told_version (is_wanted want x.seat) (looked_up look log))

-- an order that looks for a version
pub reads_so : (stage : Stage) (c : Coordinator) (look : Look) (want : Want)
    → ((x : Seated) → asked_of stage c x ≡ Request.OrderRead c.stamp look want) → OrdersSo stage c (looking look want)
unfolding handle
reads_so stage c look want asks y part tame room =
    ap (λ (r : Request). handle stage.setting.code stage.group.m (full_at stage.setting.layout.records part.live) y.seat part.replica r) (asks y)
    ∙ order_read_accepts c.stamp (full_at stage.setting.layout.records part.live) part.replica look (is_wanted want y.seat) tame
    (not_full stage part room)

-- an order alone
pub order_so : (stage : Stage) (c : Coordinator) → ((x : Seated) → asked_of stage c x ≡ Request.Order c.stamp)
    → OrdersSo stage c (λ x log. Ordered)
unfolding handle
order_so stage c asks y part tame room =
    ap (λ (r : Request). handle stage.setting.code stage.group.m (full_at stage.setting.layout.records part.live) y.seat part.replica r) (asks y)
    ∙ order_accepts c.stamp (full_at stage.setting.layout.records part.live) part.replica tame (not_full stage part room)

-- what each phase asks
pub descends_ask : (stage : Stage) (c : Coordinator) (bound : Stamp) → c.phase ≡ Descends bound
    → (x : Seated) → asked_of stage c x ≡ Request.OrderRead c.stamp (Below bound) Want.All
unfolding request_of
descends_ask stage c bound phase x = asked_in_phase stage.setting.code c (Descends bound) x.seat phase

pub recovers_ask : (stage : Stage) (c : Coordinator) → c.phase ≡ Recovers
    → (x : Seated) → asked_of stage c x ≡ Request.OrderRead c.stamp (Below c.stamp) Want.All
unfolding request_of
recovers_ask stage c phase x = asked_in_phase stage.setting.code c Recovers x.seat phase

pub orders_at_ask : (stage : Stage) (c : Coordinator) (j : ℕ) → c.phase ≡ OrdersAt j
    → (x : Seated) → asked_of stage c x ≡ Request.OrderRead c.stamp (Below c.stamp) (Want.Seat j)
unfolding request_of
orders_at_ask stage c j phase x = asked_in_phase stage.setting.code c (OrdersAt j) x.seat phase

pub orders_ask : (stage : Stage) (c : Coordinator) → c.phase ≡ Orders → (x : Seated) → asked_of stage c x ≡ Request.Order c.stamp
unfolding request_of
orders_ask stage c phase x = asked_in_phase stage.setting.code c Orders x.seat phase

-- an order fits each seat
pub read_fits : (stage : Stage) (c : Coordinator) (t : Stamp) (look : Look) (want : Want) (x : Seated)
    → asked_of stage c x ≡ Request.OrderRead t look want → Fits stage c x
read_fits stage c t look want x asks =
    ap (λ (r : Request). fits stage.setting.layout stage.group.m c.call r (Some x.seat)) asks

pub order_fits : (stage : Stage) (c : Coordinator) (t : Stamp) (x : Seated) → asked_of stage c x ≡ Request.Order t → Fits stage c x
order_fits stage c t x asks = ap (λ (r : Request). fits stage.setting.layout stage.group.m c.call r (Some x.seat)) asks

-- what is held among some versions passes their test
passes_among : (p : Stamp → Bool) (d : Stamp) (log : List Version) → is_held d (among p log) ≡ true → p d ≡ true
passes_among p d [] held = absurd (false≢true held)
passes_among p d (x ∷ log) held =
    cond_both (p x.stamp) (x ∷ among p log) (among p log) (λ (l : List Version). is_held d l ≡ true → p d ≡ true)
    (λ is h. ⊎_elim
    (λ (here : stamp_same x.stamp d ≡ true). subst (λ (z : Stamp). p z ≡ true) (stamp_same_true x.stamp d here) is)
    (λ (there : is_held d (among p log) ≡ true). passes_among p d log there)
    (or_cases (stamp_same x.stamp d) (is_held d (among p log)) h))
    (λ isnt h. passes_among p d log h)
    held

-- what a member finds below a bound
pub record FoundFacts (bound : Stamp) (log : List Version) (version : Version) : Type 0 where
  pub lower : stamp_below version.stamp bound ≡ true
  pub place : ℕ
  pub stands : slice_get log place ≡ Some version
  pub held : is_held version.stamp log ≡ true

pub found_facts : (bound : Stamp) (log : List Version) (version : Version) → newest_of (below bound log) ≡ Some version
    → FoundFacts bound log version
found_facts bound log version is =
    let at = newest_stands_among (λ d. stamp_below d bound) log version is in
    record {
      lower = passes_among (λ d. stamp_below d bound) version.stamp log (newest_held (below bound log) version is);
      place = at.0;
      stands = at.1;
      held = place_held log at.0 version at.1;
    }

-- a version is told with its stamp
pub told_from : (wanted : Bool) (found : Option Version) (version : Version) → told_version wanted found ≡ Some version
    → (inner : Version) × (found ≡ Some inner) × (inner.stamp ≡ version.stamp) × (version.block ≡ cond wanted inner.block [])
told_from true None version is = cc
told_from false None version is = cc
told_from true (Some inner) version is =
    let same : inner ≡ version = same_Some inner version is in
    (inner, refl, ap (λ (v : Version). v.stamp) same, ap (λ (v : Version). v.block) (sym same))
told_from false (Some inner) version is =
    let same : record { stamp = inner.stamp; block = [] } ≡ version = same_Some (record { stamp = inner.stamp; block = [] }) version is in
    (inner, refl, ap (λ (v : Version). v.stamp) same, ap (λ (v : Version). v.block) (sym same))

pub told_then : (wanted : Bool) (inner : Version) → (version : Version) × (told_version wanted (Some inner) ≡ Some version)
    × (version.stamp ≡ inner.stamp)
told_then true inner = (inner, refl, refl)
told_then false inner = (record { stamp = inner.stamp; block = [] }, refl, refl)

-- what a member tells of its newest version below a bound
abbrev pub told_below : (ℕ → List Version) → Stamp → Want → Seated → Option Version
told_below logs bound want x = told_version (is_wanted want x.seat) (newest_of (below bound (logs x.brick.0)))

pub record ToldFacts (logs : ℕ → List Version) (bound : Stamp) (want : Want) (x : Seated) (version : Version) : Type 0 where
  pub inner : Version
  pub newest : newest_of (below bound (logs x.brick.0)) ≡ Some inner
  pub stamp_is : inner.stamp ≡ version.stamp
  pub block_is : version.block ≡ cond (is_wanted want x.seat) inner.block []
  pub facts : FoundFacts bound (logs x.brick.0) inner

pub told_facts : (logs : ℕ → List Version) (bound : Stamp) (want : Want) (x : Seated) (version : Version)
    → told_below logs bound want x ≡ Some version → ToldFacts logs bound want x version
told_facts logs bound want x version is =
    let from = told_from (is_wanted want x.seat) (newest_of (below bound (logs x.brick.0))) version is in
    record {
      inner = from.0;
      newest = from.1;
      stamp_is = from.2;
      block_is = from.3;
      facts = found_facts bound (logs x.brick.0) from.0 from.1;
    }
