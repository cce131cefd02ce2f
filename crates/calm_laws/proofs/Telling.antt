-- What a member replies to a request of a stripe teaches no view.
use Rattle.std.proofs.Common.{◌≡◌, ℕ, Option, Some, None, refl, subst}
use Rattle.std.specs.Prelude.{nat_lt}
use Rattle.std.proofs.lemmas.Bool.{cond_both}
use Rattle.std.proofs.lemmas.Option.{same_Some}
use Rattle.messages.specs.declared.replies.Reply.{Reply}
use Rattle.messages.specs.declared.replies.Reply.TheVariants.{Later, Stored, Ordered, OrderedRead, Found}
use Rattle.messages.specs.declared.requests.Request.{Request}
use Rattle.messages.specs.declared.requests.Request.TheVariants.{Read, Order, OrderRead, Write, Modify, Collect, OldRead, Prepare, Accept}
use Rattle.protocol.specs.Settings.{Code}
use Rattle.protocol.specs.Views.{view_told}
use Rattle.protocol.specs.Replicas.{Replica, Reaction, top_of, is_held, is_wanted, newest_of, told_version, looked_up, stays, unless_full, promised, stored, ignored, handle}
use Rattle.protocol_laws.proofs.Reactions.{modified_each}

-- a reply, if there is one, teaches no view
abbrev pub TeachesNone : Option Reply → Type 0
TeachesNone reply = (said : Reply) → reply ≡ Some said → view_told said ≡ None

-- so does none
none_teaches : TeachesNone None
none_teaches said is = absurd (let never : None ≡ Some said = is in cc)

-- and one that teaches none
one_teaches : (reply : Reply) → view_told reply ≡ None → TeachesNone (Some reply)
one_teaches reply none said is = subst (λ (r : Reply). view_told r ≡ None) (same_Some reply said is) none

-- also where the store is full
full_teaches : (full : Option ℕ) (r : Replica) (z : Reaction) → TeachesNone z.reply → TeachesNone (unless_full full r z).reply
full_teaches None r z none = none
full_teaches (Some live) r z none =
    cond_both (nat_lt z.drops z.adds) (stays r (Reply.Full live)) z (λ (x : Reaction). TeachesNone x.reply) (λ more. one_teaches (Reply.Full live) refl)
    (λ less. none)

-- so does what a member replies to any request
pub handle_teaches_none : (code : Code) (m : ℕ) (full : Option ℕ) (seat : ℕ) (r : Replica) (request : Request)
    → TeachesNone (handle code m full seat r request).reply
unfolding handle
handle_teaches_none code m full seat r (Read want) = one_teaches (Found r.order (told_version (is_wanted want seat) (newest_of r.log))) refl
handle_teaches_none code m full seat r (Order t) =
    cond_both _ (stays r (Later (top_of r))) _ (λ (z : Reaction). TeachesNone z.reply) (λ less. one_teaches (Later (top_of r)) refl)
    (λ at. full_teaches full r (promised r t Ordered) (one_teaches Ordered refl))
handle_teaches_none code m full seat r (Write t block) =
    cond_both (is_held t r.log) (stays r Stored) _ (λ (z : Reaction). TeachesNone z.reply) (λ held. one_teaches Stored refl)
    (λ isnt. cond_both _ (stays r (Later (top_of r))) _ (λ (z : Reaction). TeachesNone z.reply) (λ less. one_teaches (Later (top_of r)) refl)
    (λ at. full_teaches full r (stored r t block) (one_teaches Stored refl)))
handle_teaches_none code m full seat r (OrderRead t look want) =
    cond_both _ (stays r (Later (top_of r))) _ (λ (z : Reaction). TeachesNone z.reply) (λ less. one_teaches (Later (top_of r)) refl)
    (λ at. full_teaches full r (promised r t (OrderedRead (told_version (is_wanted want seat) (looked_up look r.log))))
    (one_teaches (OrderedRead (told_version (is_wanted want seat) (looked_up look r.log))) refl))
handle_teaches_none code m full seat r (Modify t base j delta) =
    modified_each code m seat (λ (z : Reaction). TeachesNone z.reply) full r t base j delta
    (one_teaches Stored refl) (λ less. one_teaches (Later (top_of r)) refl) (λ newest. one_teaches (Reply.Behind newest) refl)
    (λ live is. one_teaches (Reply.Full live) refl) (λ at old is same. one_teaches Stored refl)
handle_teaches_none code m full seat r (Collect t) =
    cond_both (is_held t r.log) _ (ignored r) (λ (z : Reaction). TeachesNone z.reply) (λ held. none_teaches) (λ isnt. none_teaches)
handle_teaches_none code m full seat r (OldRead bound) = none_teaches
handle_teaches_none code m full seat r (Prepare ballot) = none_teaches
handle_teaches_none code m full seat r (Accept ballot members) = none_teaches
