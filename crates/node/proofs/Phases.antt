-- What becomes of a coordinator as it hears a reply.
use Rattle.std.proofs.Common.{◌≡◌, ℕ, true, nat_lt, List, [], ◌∷◌, ◌++◌, length, Option, Some, None, refl}
use Rattle.std.proofs.lemmas.Bool.{cond_both}
use Rattle.fab_base.specs.declared.identities.BrickId.{BrickId}
use Rattle.fab_base.specs.declared.stamps.Stamp.{Stamp}
use Rattle.fab_base.specs.declared.asks.Ask.{Ask}
use Rattle.messages.specs.declared.calls.Call.{Call}
use Rattle.messages.specs.declared.replies.Reply.{Reply}
use Rattle.protocol.specs.declared.phases.Phase.{Phase}
use Rattle.protocol.specs.declared.phases.Phase.TheVariants.{Looks, LooksAt, Orders, OrdersAt, Recovers, Descends, LooksBack, Modifies, Bases, Stores}
use Rattle.protocol.specs.declared.phases.Counted.{Counted}
use Rattle.protocol.specs.declared.phases.Refuser.{Refuser}
use Rattle.protocol.specs.declared.phases.FullMember.{FullMember}
use Rattle.protocol.specs.declared.phases.Mover.{Mover}
use Rattle.protocol.specs.declared.phases.Dropper.{Dropper}
use Rattle.fab_base.specs.Layouts.{Group}
use Rattle.reg_model.specs.Registers.{read_of}
use Rattle.protocol.specs.Settings.{Code}
use Rattle.protocol.specs.Coordinators.{Coordinator, Next, Ignores, Waits, Sends, Makes, Ends, in_phase, may_look_back, needed, fast_version, fast_version_at, common_version_at, some_behind, greatest_refuser, greatest_found, pieces_at, answered_fast, answered_fast_at, modified_if, once_modified, rebuilt, once_ordered, ordered_again, unless_refused, unless_told_full, unless_told_gone, unless_told_moved, lowest_full, lowest_dropper, lowest_mover, read_back, answer_with, decided, once_full, counted_at, counts_at, on_reply, most_rounds}
use Rattle.coord_phase.specs.Operations.{is_storing}
use Rattle.node.specs.Decisions.{Collects}

-- the coordinator begins a further phase of its call, in which no reply counts yet
pub record Begins (c d : Coordinator) : Type 0 where
  pub seq : d.call.seq ≡ c.call.seq
  pub counted : d.counted ≡ []

-- what follows from a decision of the coordinator
abbrev pub Follows : Coordinator → Next → Type 0
Follows c Ignores = Unit {0}
Follows c (Waits d) = d.call ≡ c.call
Follows c (Sends d) = Begins c d
Follows c (Makes d) = Begins c d
Follows c (Ends answer seen stored) = Collects stored (is_storing c.phase ≡ true)

module _ (group : Group) (prior : List BrickId) (only : Option (List BrickId)) (ask : Ask) (stamp : Stamp) (round : ℕ) (base : Option Stamp) (content : List ℕ) (call : Call) (counted more : List Counted) where
  -- the coordinator in a phase, before and after a reply counted
  abbrev before : Phase → Coordinator
  before phase = record { group = group; prior = prior; only = only; ask = ask; stamp = stamp; round = round; base = base; content = content; call = call; phase = phase; counted = counted }

  abbrev after : Phase → Coordinator
  after phase = record { group = group; prior = prior; only = only; ask = ask; stamp = stamp; round = round; base = base; content = content; call = call; phase = phase; counted = more }

  fast : (code : Code) (v : Option Stamp) → Follows (before Looks) (answered_fast code (after Looks) v)
  fast code None = record { seq = refl; counted = refl }
  fast code (Some v) = tt

  fast_at : (j : ℕ) (v : Option Stamp) → Follows (before (LooksAt j)) (answered_fast_at (after (LooksAt j)) j v)
  fast_at j None = record { seq = refl; counted = refl }
  fast_at j (Some v) = tt

  again : (phase : Phase) (fresh : Option Stamp) (r : Refuser) → Follows (before phase) (ordered_again fresh (after phase) r)
  again phase None r = tt
  again phase (Some t) r =
      cond_both (nat_lt round most_rounds) _ _ (λ next. Follows (before phase) next) (λ left. record { seq = refl; counted = refl }) (λ last. tt)

  orders : (fresh : Option Stamp) (r : Option Refuser)
      → Follows (before Orders) (once_ordered fresh (after Orders) r (Makes (in_phase (after Orders) Stores)))
  orders fresh None = record { seq = refl; counted = refl }
  orders fresh (Some r) = again Orders fresh r

  modified : (code : Code) (j : ℕ) (v : Option Stamp) → Follows (before (OrdersAt j)) (modified_if code (after (OrdersAt j)) j v)
  modified code j None = record { seq = refl; counted = refl }
  modified code j (Some v) = record { seq = refl; counted = refl }

  orders_at : (code : Code) (fresh : Option Stamp) (j : ℕ) (r : Option Refuser)
      → Follows (before (OrdersAt j)) (once_ordered fresh (after (OrdersAt j)) r (modified_if code (after (OrdersAt j)) j (common_version_at j more)))
  orders_at code fresh j None = modified code j (common_version_at j more)
  orders_at code fresh j (Some r) = again (OrdersAt j) fresh r

  reads_back : (block : ℕ) (code : Code) (phase : Phase) (v : Option Stamp) → Follows (before phase) (read_back block code (after phase) v)
  reads_back block code phase None =
      cond_both (may_look_back (after phase)) _ _ (λ next. Follows (before phase) next) (λ may. record { seq = refl; counted = refl }) (λ not. refl)
  reads_back block code phase (Some v) =
      cond_both (nat_lt (length (pieces_at v more)) group.m) _ _ (λ next. Follows (before phase) next)
      (λ few. record { seq = refl; counted = refl }) (λ enough. record { seq = refl; counted = refl })

  recovers : (block : ℕ) (code : Code) (fresh : Option Stamp) (r : Option Refuser)
      → Follows (before Recovers) (once_ordered fresh (after Recovers) r (read_back block code (after Recovers) (greatest_found more)))
  recovers block code fresh None = reads_back block code Recovers (greatest_found more)
  recovers block code fresh (Some r) = again Recovers fresh r

  descends : (block : ℕ) (code : Code) (bound : Stamp) (r : Option Refuser)
      → Follows (before (Descends bound)) (unless_refused r (read_back block code (after (Descends bound)) (greatest_found more)))
  descends block code bound None = reads_back block code (Descends bound) (greatest_found more)
  descends block code bound (Some r) = tt

  modifies : (base : Stamp) (j : ℕ) (r : Option Refuser)
      → Follows (before (Modifies base j)) (unless_refused r (once_modified (after (Modifies base j)) base))
  modifies base j None =
      cond_both (some_behind more) _ _ (λ next. Follows (before (Modifies base j)) next) (λ behind. record { seq = refl; counted = refl }) (λ all. refl)
  modifies base j (Some r) = tt

  bases : (block : ℕ) (code : Code) (base : Stamp) (r : Option Refuser)
      → Follows (before (Bases base)) (unless_refused r (rebuilt block code (after (Bases base)) base))
  bases block code base None =
      cond_both (nat_lt (length (pieces_at base more)) group.m) _ _ (λ next. Follows (before (Bases base)) next) (λ few. refl)
      (λ enough. record { seq = refl; counted = refl })
  bases block code base (Some r) = tt

  stores : (block : ℕ) (r : Option Refuser)
      → Follows (before Stores) (unless_refused r (Ends (answer_with (read_of block ask.op content)) None (Some stamp)))
  stores block None = refl
  stores block (Some r) = tt

  unless_full : (told : Option FullMember) (phase : Phase) (next : Next) → Follows (before phase) next
      → Follows (before phase) (unless_told_full told next)
  unless_full None phase next is = is
  unless_full (Some f) phase next is = tt

  unless_gone : (told : Option Dropper) (phase : Phase) (next : Next) → Follows (before phase) next
      → Follows (before phase) (unless_told_gone told next)
  unless_gone None phase next is = is
  unless_gone (Some d) phase next is = tt

  unless_moved : (told : Option Mover) (phase : Phase) (next : Next) → Follows (before phase) next
      → Follows (before phase) (unless_told_moved told next)
  unless_moved None phase next is = is
  unless_moved (Some m) phase next is = tt

  unless_ended : (phase : Phase) (next : Next) → Follows (before phase) next
      → Follows (before phase) (unless_told_moved (lowest_mover more) (unless_told_gone (lowest_dropper more) (unless_told_full (lowest_full more) next)))
  unless_ended phase next is =
      unless_moved (lowest_mover more) phase _ (unless_gone (lowest_dropper more) phase _ (unless_full (lowest_full more) phase next is))

  decides : (block : ℕ) (code : Code) (fresh : Option Stamp) (phase : Phase) → Follows (before phase) (decided block code fresh (after phase))
  unfolding decided
  decides block code fresh Looks = unless_ended Looks _ (fast code (fast_version more))
  decides block code fresh (LooksAt j) = unless_ended (LooksAt j) _ (fast_at j (fast_version_at j more))
  decides block code fresh Orders = unless_ended Orders _ (orders fresh (greatest_refuser more))
  decides block code fresh (OrdersAt j) = unless_ended (OrdersAt j) _ (orders_at code fresh j (greatest_refuser more))
  decides block code fresh Recovers = unless_ended Recovers _ (recovers block code fresh (greatest_refuser more))
  decides block code fresh (Descends bound) = unless_ended (Descends bound) _ (descends block code bound (greatest_refuser more))
  decides block code fresh (LooksBack bound) = unless_ended (LooksBack bound) _ (reads_back block code (LooksBack bound) (greatest_found more))
  decides block code fresh (Modifies base j) = unless_ended (Modifies base j) _ (modifies base j (greatest_refuser more))
  decides block code fresh (Bases base) = unless_ended (Bases base) _ (bases block code base (greatest_refuser more))
  decides block code fresh Stores = unless_ended Stores _ (stores block (greatest_refuser more))

  once_full_follows : (block : ℕ) (code : Code) (fresh : Option Stamp) (phase : Phase) → Follows (before phase) (once_full block code fresh (after phase))
  once_full_follows block code fresh phase =
      cond_both (nat_lt (length more) (needed (after phase))) _ _ (λ next. Follows (before phase) next) (λ few. refl)
      (λ enough. decides block code fresh phase)

counted_follows : (block : ℕ) (code : Code) (fresh : Option Stamp) (c : Coordinator) (from : BrickId) (reply : Reply) (seat : Option ℕ)
    → Follows c (counted_at block code fresh c from reply seat)
counted_follows block code fresh c from reply None = tt
counted_follows block code fresh c from reply (Some seat) =
    once_full_follows c.group c.prior c.only c.ask c.stamp c.round c.base c.content c.call c.counted
    (c.counted ++ (record { seat = seat; brick = from; reply = reply } ∷ [])) block code fresh c.phase

-- what follows from what a coordinator does with a reply
pub on_reply_follows : (block : ℕ) (code : Code) (fresh : Option Stamp) (c : Coordinator) (from : BrickId) (call : Call) (reply : Reply)
    → Follows c (on_reply block code fresh c from call reply)
unfolding on_reply
on_reply_follows block code fresh c from call reply = counted_follows block code fresh c from reply (counts_at block c from.0 call reply)
