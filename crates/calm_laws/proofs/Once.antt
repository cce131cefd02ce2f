-- No stamp stands twice in a log. So a log that drops what is below its newest version has only that.
use Rattle.view_laws.proofs.Syncing.{synced_of}
use Rattle.std.proofs.Common.{◌≡◌, ℕ, Bool, true, false, cond, List, [], ◌∷◌, ◌++◌, Option, Some, None, refl, sym, ap, subst, ◌∙◌, ⊎_elim, not}
use Rattle.std.proofs.lemmas.Bool.{cond_both, cases_Bool, false≢true, or_parts, or_from}
use Rattle.std.specs.Prelude.{nat_eq, nat_lt}
use Rattle.fab_base.proofs.StampOrder.{stamp_below_irrefl, stamp_neither_below, stamp_same_refl, stamp_same_true}
use Rattle.fab_base.specs.declared.identities.BrickId.{BrickId}
use Rattle.fab_base.specs.declared.stamps.Stamp.{Stamp}
use Rattle.fab_base.specs.Stamps.{stamp_below, stamp_same}
use Rattle.messages.specs.declared.calls.Call.{Call}
use Rattle.messages.specs.declared.replies.Reply.{Reply}
use Rattle.messages.specs.declared.replies.Reply.TheVariants.{Later, Stored, Ordered, OrderedRead}
use Rattle.messages.specs.declared.requests.Request.{Request}
use Rattle.messages.specs.declared.requests.Request.TheVariants.{Read, Order, OrderRead, Write, Modify, Collect, OldRead, Prepare, Accept}
use Rattle.messages.specs.declared.requests.Version.{Version}
use Rattle.protocol.specs.Nodes.{Node, full_at, replica_at, requested, with_learnt}
use Rattle.protocol.specs.Replicas.{Replica, Reaction, top_of, is_held, newest_of, first_replica, fresh_replica, not_below, stays, unless_full, promised, stored, ignored, handle, modified_block, modified_on, is_wanted, told_version, looked_up}
use Rattle.protocol.specs.Settings.{Code, Setting}
use Rattle.protocol.specs.Worlds.{Event, first_world, run}
use Rattle.protocol_laws.proofs.StampViews.{NodeViews}
use Rattle.protocol_laws.proofs.Teaching.{newly_learnt, dropped_each}
use Rattle.fab_base.specs.declared.member_lists.View.{View}
use Rattle.protocol.specs.Views.{first_kept, is_later}
use Rattle.protocol_laws.proofs.Logs.{LogAscends, among, among_held, at_least, newest_held}
use Rattle.protocol_laws.proofs.Reactions.{modified_each}
use Rattle.protocol.proofs.Served.{parts_each, request_each}
use Rattle.calm_laws.proofs.Kept.{always_kept}

-- no stamp stands again in a log
abbrev pub IsOnce : List Version → Type 0
IsOnce [] = Unit {0}
IsOnce (version ∷ log) = (is_held version.stamp log ≡ false) × IsOnce log

-- a stamp that is neither in a log nor the next version's is not in both
unheld_more : (t : Stamp) (log : List Version) (x : Version) → is_held t log ≡ false → stamp_same x.stamp t ≡ false
    → is_held t (log ++ (x ∷ [])) ≡ false
unheld_more t [] x unheld other = or_from (stamp_same x.stamp t) false other refl
unheld_more t (y ∷ log) x unheld other =
    let parts = or_parts (stamp_same y.stamp t) (is_held t log) unheld in
    or_from (stamp_same y.stamp t) (is_held t (log ++ (x ∷ []))) parts.0 (unheld_more t log x parts.1 other)

-- a log has each stamp once with one more version, where it has not that one's
once_more : (log : List Version) (x : Version) → IsOnce log → is_held x.stamp log ≡ false → IsOnce (log ++ (x ∷ []))
once_more [] x once unheld = (refl, tt)
once_more (y ∷ log) x once unheld =
    let parts = or_parts (stamp_same y.stamp x.stamp) (is_held x.stamp log) unheld in
    (unheld_more y.stamp log x once.0 (other parts.0), once_more log x once.1 parts.1)
  where
    other : stamp_same y.stamp x.stamp ≡ false → stamp_same x.stamp y.stamp ≡ false
    other isnt = ⊎_elim
        (λ (is : stamp_same x.stamp y.stamp ≡ true).
        absurd (false≢true (sym isnt ∙ subst (λ (z : Stamp). stamp_same z x.stamp ≡ true) (stamp_same_true x.stamp y.stamp is) (stamp_same_refl x.stamp))))
        (λ (not_is : stamp_same x.stamp y.stamp ≡ false). not_is)
        (cases_Bool (stamp_same x.stamp y.stamp))

-- what is not held is not held among some
among_unheld : (p : Stamp → Bool) (d : Stamp) (log : List Version) → is_held d log ≡ false → is_held d (among p log) ≡ false
among_unheld p d log unheld = ⊎_elim
    (λ (held : is_held d (among p log) ≡ true). absurd (false≢true (sym unheld ∙ among_held p d log held)))
    (λ (isnt : is_held d (among p log) ≡ false). isnt)
    (cases_Bool (is_held d (among p log)))

-- so have some of the versions
among_once : (p : Stamp → Bool) (log : List Version) → IsOnce log → IsOnce (among p log)
among_once p [] once = once
among_once p (x ∷ log) once =
    cond_both (p x.stamp) (x ∷ among p log) (among p log) IsOnce
    (λ is. (among_unheld p x.stamp log once.0, among_once p log once.1))
    (λ isnt. among_once p log once.1)

-- a change that is refused where the store is full
full_once : (full : Option ℕ) (r : Replica) (z : Reaction) → IsOnce r.log → IsOnce z.replica.log → IsOnce (unless_full full r z).replica.log
full_once None r z old new = new
full_once (Some live) r z old new =
    cond_both (nat_lt z.drops z.adds) (stays r (Reply.Full live)) z (λ (x : Reaction). IsOnce x.replica.log) (λ more. old) (λ less. new)

-- so has a log after each request
handle_once : (code : Code) (m : ℕ) (full : Option ℕ) (seat : ℕ) (r : Replica) (request : Request) → IsOnce r.log
    → IsOnce (handle code m full seat r request).replica.log
unfolding handle
handle_once code m full seat r (Read want) once = once
handle_once code m full seat r (Order t) once =
    cond_both (stamp_below t (top_of r)) (stays r (Later (top_of r))) _ (λ (z : Reaction). IsOnce z.replica.log) (λ less. once)
    (λ at. full_once full r (promised r t Ordered) once once)
handle_once code m full seat r (Write t block) once =
    cond_both (is_held t r.log) (stays r Stored) _ (λ (z : Reaction). IsOnce z.replica.log) (λ held. once)
    (λ unheld. cond_both (stamp_below t (top_of r)) (stays r (Later (top_of r))) _ (λ (z : Reaction). IsOnce z.replica.log) (λ less. once)
    (λ at. full_once full r (stored r t block) once (once_more r.log (record { stamp = t; block = block }) once unheld)))
handle_once code m full seat r (OrderRead t look want) once =
    cond_both (stamp_below t (top_of r)) (stays r (Later (top_of r))) _ (λ (z : Reaction). IsOnce z.replica.log) (λ less. once)
    (λ at. full_once full r (promised r t (OrderedRead (told_version (is_wanted want seat) (looked_up look r.log)))) once once)
handle_once code m full seat r (Modify t base j delta) once = ⊎_elim
    (λ (held : is_held t r.log ≡ true).
    subst (λ (z : Reaction). IsOnce z.replica.log)
    (sym (ap (λ (b : Bool). cond b (stays r Stored) (cond (stamp_below t (top_of r)) (stays r (Later (top_of r)))
    (modified_on code m full seat r t base j delta (newest_of r.log)))) held)) once)
    (λ (unheld : is_held t r.log ≡ false).
    modified_each code m seat (λ (z : Reaction). IsOnce z.replica.log) full r t base j delta once (λ less. once) (λ newest. once)
    (λ live is. once)
    (λ at old is same. once_more r.log (record { stamp = t; block = modified_block code m j seat delta old.block }) once unheld))
    (cases_Bool (is_held t r.log))
handle_once code m full seat r (Collect t) once =
    cond_both (is_held t r.log) _ (ignored r) (λ (z : Reaction). IsOnce z.replica.log) (λ held. among_once (at_least t) r.log once) (λ isnt. once)
handle_once code m full seat r (OldRead bound) once = once
handle_once code m full seat r (Prepare ballot) once = once
handle_once code m full seat r (Accept ballot members) once = once

-- all logs of a brick have each stamp once
abbrev pub LogsOnce : Node → Type 0
LogsOnce node = (g e s : ℕ) → IsOnce (node.replicas g e s).log

request_once : (setting : Setting) (me from : BrickId) (node : Node) (call : Call) (request : Request) → NodeViews setting.layout node → LogsOnce node
    → LogsOnce (requested setting me from node call request).node
request_once setting me from node call request has once =
    request_each (λ step. LogsOnce step.node) setting me from node call request once (λ reply is. once)
    (λ group seat here is.
    let full : Option ℕ = full_at setting.layout.records node.live in
    parts_each (λ g e s r. IsOnce r.log) node call (handle setting.code group.m full seat (replica_at node call) request)
    (handle_once setting.code group.m full seat (replica_at node call) request (once call.group.0 call.view.0 call.stripe.0)) once)
    (λ group ballot asks here. once)

-- a fresh part has each stamp once
fresh_once : (block e : ℕ) → IsOnce (fresh_replica block e).log
fresh_once block e = cond_both (nat_eq e 1) (first_replica block) _ (λ (r : Replica). IsOnce r.log) (λ one. (refl, tt)) (λ other. tt)

-- and so have the logs that a view leaves, which a brick learns
view_once : (setting : Setting) (group : ℕ) (node : Node) (view : View) → NodeViews setting.layout node → is_later (node.learnt group) view ≡ true
    → LogsOnce node → LogsOnce (with_learnt setting.layout.block group node (newly_learnt view))
view_once setting group node view has later once =
    dropped_each (λ g e s r. IsOnce r.log) setting.layout.block group (first_kept (newly_learnt view)) node once
    (λ e s before. fresh_once setting.layout.block e)

-- or a view that it hears to be synced
sync_once : (setting : Setting) (group : ℕ) (node : Node) → NodeViews setting.layout node → LogsOnce node
    → LogsOnce (with_learnt setting.layout.block group node (synced_of node group))
sync_once setting group node has once =
    dropped_each (λ g e s r. IsOnce r.log) setting.layout.block group (first_kept (synced_of node group)) node once
    (λ e s before. fresh_once setting.layout.block e)

-- so have all logs in every run
pub always_once : (setting : Setting) (events : List Event) (i : ℕ) → LogsOnce ((run setting events (first_world setting.layout)).nodes i)
always_once setting events =
    always_kept setting LogsOnce
    (λ old new like once g e s. subst (λ (f : ℕ → ℕ → ℕ → Replica). IsOnce (f g e s).log) (sym like.replicas) (once g e s))
    (request_once setting) (view_once setting) (sync_once setting) (λ g e s. fresh_once setting.layout.block e) events

-- what is not below the newest version is that version
pub only_newest : (log : List Version) (version : Version) → LogAscends log → IsOnce log → newest_of log ≡ Some version
    → not_below version.stamp log ≡ version ∷ []
only_newest [] version ascends once is = cc
only_newest (x ∷ []) version ascends once is =
    let same : x ≡ version = cc in
    subst (λ (z : Version). not_below z.stamp (x ∷ []) ≡ z ∷ []) same
    (ap (λ (b : Bool). cond (not b) (x ∷ []) []) (stamp_below_irrefl x.stamp))
only_newest (x ∷ (y ∷ log)) version ascends once is =
    let held = newest_held (y ∷ log) version is in
    ⊎_elim
    (λ (less : stamp_below x.stamp version.stamp ≡ true).
    ap (λ (b : Bool). cond (not b) (x ∷ not_below version.stamp (y ∷ log)) (not_below version.stamp (y ∷ log))) less
    ∙ only_newest (y ∷ log) version ascends.1 once.1 is)
    (λ (least : stamp_below x.stamp version.stamp ≡ false).
    let same : x.stamp ≡ version.stamp = stamp_neither_below x.stamp version.stamp least (ascends.0 version.stamp held) in
    absurd (false≢true (sym once.0 ∙ subst (λ (t : Stamp). is_held t (y ∷ log) ≡ true) (sym same) held)))
    (cases_Bool (stamp_below x.stamp version.stamp))
