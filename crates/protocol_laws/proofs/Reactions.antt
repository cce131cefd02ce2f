-- What a member's part of a stripe keeps through a request: its stamp never falls, and its log loses only what is below all that is left.
use Rattle.std.proofs.Common.{nat_lt, ◌≡◌, ℕ, ◌⊎◌, inl, inr, Bool, true, false, cond, List, [], ◌∷◌, ◌++◌, Option, Some, None, refl, sym, ap, ◌∙◌, subst, ⊎_elim, not}
use Rattle.std.specs.Prelude.{slice_get, ◌&&◌}
use Rattle.std.proofs.lemmas.Bool.{cond_both, cond-false, false≢true, or_left, or_right, or_cases}
use Rattle.fab_base.specs.declared.stamps.Stamp.{Stamp}
use Rattle.fab_base.specs.Stamps.{stamp_below, stamp_same, first_stamp}
use Rattle.fab_base.proofs.StampOrder.{stamp_below_irrefl, stamp_below_asym, stamp_not_below_trans, stamp_neither_below, stamp_same_refl, stamp_same_true}
use Rattle.messages.specs.declared.requests.Version.{Version}
use Rattle.messages.specs.declared.requests.Look.{Look}
use Rattle.messages.specs.declared.requests.Want.{Want}
use Rattle.messages.specs.declared.requests.Request.{Request}
use Rattle.messages.specs.declared.requests.Request.TheVariants.{Read, Order, OrderRead, Write, Modify, Collect, OldRead, Prepare, Accept}
use Rattle.messages.specs.declared.replies.Reply.{Reply}
use Rattle.messages.specs.declared.replies.Reply.TheVariants.{Found, Ordered, OrderedRead, Stored, Behind, Later, Full}
use Rattle.protocol.specs.Settings.{Code}
use Rattle.protocol.specs.Replicas.{Replica, Reaction, newest_of, is_held, stamp_max, top_of, is_wanted, told_version, stays, unless_full, promised, stored, ordered, written, looked_up, order_read, modified_block, modified_on, modified, handle, collected, ignored}
use Rattle.protocol_laws.specs.Laws.{stamp_stored, stamp_asked}
use Rattle.protocol_laws.proofs.Logs.{among_held, LogAscends, IsWithin, newest_greatest, ascends_more, held_more, among, IsKept, lowest_from, among_ascends, among_stands, at_least, kept_from, newest_kept, IsUnder, below_above}
use Rattle.protocol.proofs.Tables.{get_grown, get_one}

-- neither of two stamps is above the greater
pub max_left : (a b : Stamp) → stamp_below (stamp_max a b) a ≡ false
max_left a b = cond_both (stamp_below a b) b a (λ (z : Stamp). stamp_below z a ≡ false) (λ is. stamp_below_asym a b is) (λ isnt. stamp_below_irrefl a)

pub max_right : (a b : Stamp) → stamp_below (stamp_max a b) b ≡ false
max_right a b = cond_both (stamp_below a b) b a (λ (z : Stamp). stamp_below z b ≡ false) (λ is. stamp_below_irrefl b) (λ isnt. isnt)

-- the greater of two stamps at most t is at most t
pub max_most : (a b t : Stamp) → stamp_below t a ≡ false → stamp_below t b ≡ false → stamp_below t (stamp_max a b) ≡ false
max_most a b t h k = cond_both (stamp_below a b) b a (λ (z : Stamp). stamp_below t z ≡ false) (λ is. k) (λ isnt. h)

-- the last of a log that grew
newest_grown : (log : List Version) (version : Version) → newest_of (log ++ (version ∷ [])) ≡ Some version
newest_grown [] version = refl
newest_grown (x ∷ []) version = refl
newest_grown (x ∷ (y ∷ log)) version = newest_grown (y ∷ log) version

-- the top, where the newest version is known
pub top_is : (replica : Replica) (version : Version) → newest_of replica.log ≡ Some version → top_of replica ≡ stamp_max replica.order version.stamp
unfolding top_of
top_is replica version is = rw is

pub top_is_order : (replica : Replica) → newest_of replica.log ≡ None → top_of replica ≡ replica.order
unfolding top_of
top_is_order replica is = rw is

-- a list's last version, or none
newest_cases : (log : List Version) → ((version : Version) × (newest_of log ≡ Some version)) ⊎ (newest_of log ≡ None)
newest_cases log = cases_of (newest_of log)
  where
    cases_of : (o : Option Version) → ((version : Version) × (o ≡ Some version)) ⊎ (o ≡ None)
    cases_of None = inr refl
    cases_of (Some version) = inl (version, refl)

-- the order stamp is at most the top, and so is the newest version
pub top_order : (replica : Replica) → stamp_below (top_of replica) replica.order ≡ false
top_order replica = ⊎_elim
    (λ (some : (version : Version) × (newest_of replica.log ≡ Some version)).
    subst (λ (z : Stamp). stamp_below z replica.order ≡ false) (sym (top_is replica some.0 some.1)) (max_left replica.order some.0.stamp))
    (λ (none : newest_of replica.log ≡ None).
    subst (λ (z : Stamp). stamp_below z replica.order ≡ false) (sym (top_is_order replica none)) (stamp_below_irrefl replica.order))
    (newest_cases replica.log)

top_newest : (replica : Replica) (version : Version) → newest_of replica.log ≡ Some version → stamp_below (top_of replica) version.stamp ≡ false
top_newest replica version is = subst (λ (z : Stamp). stamp_below z version.stamp ≡ false) (sym (top_is replica version is))
    (max_right replica.order version.stamp)

-- the greater of two stamps, the second no greater
max_of_lower : (a b : Stamp) → stamp_below a b ≡ false → stamp_max a b ≡ a
max_of_lower a b h = cond-false (stamp_below a b) b a h

-- the greater of two stamps, the first no greater
max_of_higher : (a b : Stamp) → stamp_below b a ≡ false → stamp_max a b ≡ b
max_of_higher a b h = cond_both (stamp_below a b) b a (λ (z : Stamp). z ≡ b) (λ is. refl) (λ isnt. stamp_neither_below a b isnt h)

-- the part with a promise of t
abbrev pub with_order : Replica → Stamp → Replica
with_order replica t = record replica { order = t }

-- the part with one more version
abbrev pub with_version : Replica → Stamp → List ℕ → Replica
with_version replica t block = record replica { log = replica.log ++ (record { stamp = t; block = block } ∷ []) }

-- after a promise the top is the promised stamp
pub top_promised : (replica : Replica) (t : Stamp) → stamp_below t (top_of replica) ≡ false → top_of (with_order replica t) ≡ t
top_promised replica t at = ⊎_elim
    (λ (some : (version : Version) × (newest_of replica.log ≡ Some version)).
    top_is (with_order replica t) some.0 some.1
    ∙ max_of_lower t some.0.stamp (stamp_not_below_trans some.0.stamp (top_of replica) t (top_newest replica some.0 some.1) at))
    (λ (none : newest_of replica.log ≡ None). top_is_order (with_order replica t) none)
    (newest_cases replica.log)

-- after a write the top is the written stamp
pub top_written : (replica : Replica) (t : Stamp) (block : List ℕ) → stamp_below t (top_of replica) ≡ false
    → top_of (with_version replica t block) ≡ t
top_written replica t block at =
    top_is (with_version replica t block) (record { stamp = t; block = block }) (newest_grown replica.log (record { stamp = t; block = block }))
    ∙ max_of_higher replica.order t (stamp_not_below_trans replica.order (top_of replica) t (top_order replica) at)

-- a promise of a stamp is asked for
abbrev pub IsOrder : Request → Stamp → Type 0
IsOrder request t = (request ≡ Order t) ⊎ ((look : Look) × (want : Want) × (request ≡ OrderRead t look want))

-- a request made the member promise a stamp
pub record HasPromised (replica : Replica) (request : Request) (next : Replica) : Type 0 where
  pub stamp : Stamp
  pub request_is : IsOrder request stamp
  pub above : stamp_below stamp (top_of replica) ≡ false
  pub next_is : next ≡ with_order replica stamp

-- a request has the member at a seat store this block: a write its own, and a modification the newest version's, changed
abbrev pub StoresBlock : Code → ℕ → ℕ → Replica → Request → Stamp → List ℕ → Type 0
StoresBlock code m seat replica request t block =
    (request ≡ Write t block)
    ⊎ ((old : Version) × (j : ℕ) × (delta : List ℕ) × (request ≡ Modify t old.stamp j delta) × (newest_of replica.log ≡ Some old)
    × (block ≡ modified_block code m j seat delta old.block))

-- a request made the member store a version
pub record HasWritten (code : Code) (m seat : ℕ) (replica : Replica) (request : Request) (next : Replica) : Type 0 where
  pub stamp : Stamp
  pub block : List ℕ
  pub request_is : StoresBlock code m seat replica request stamp block
  pub above : stamp_below stamp (top_of replica) ≡ false
  pub next_is : next ≡ with_version replica stamp block

-- the part without what is below a stamp
abbrev pub with_least : Replica → Stamp → Replica
with_least replica c =
    record replica { log = among (at_least c) replica.log; from_start = replica.from_start && not (stamp_below first_stamp c) }

-- a request made the member drop what is below a version that it holds
pub record HasCollected (replica : Replica) (request : Request) (next : Replica) : Type 0 where
  pub stamp : Stamp
  pub request_is : request ≡ Collect stamp
  pub held : is_held stamp replica.log ≡ true
  pub next_is : next ≡ with_least replica stamp

-- the part after a request: as before, or with a promise, or with one more version, or without some of the lowest
abbrev pub IsAfter : Code → ℕ → ℕ → Replica → Request → Replica → Type 0
IsAfter code m seat replica request next =
    (next ≡ replica) ⊎ (HasPromised replica request next ⊎ (HasWritten code m seat replica request next ⊎ HasCollected replica request next))

-- below the top nothing changes; else the change is made, or is refused where the store is full
change_cases : (P : Reaction → Type 0) (full : Option ℕ) (replica : Replica) (t : Stamp) (reaction : Reaction)
    → (stamp_below t (top_of replica) ≡ true → P (stays replica (Later (top_of replica))))
    → ((live : ℕ) → full ≡ Some live → P (stays replica (Full live)))
    → (stamp_below t (top_of replica) ≡ false → P reaction)
    → P (cond (stamp_below t (top_of replica)) (stays replica (Later (top_of replica))) (unless_full full replica reaction))
change_cases P full replica t reaction later refused made =
    cond_both (stamp_below t (top_of replica)) (stays replica (Later (top_of replica))) (unless_full full replica reaction) P later
    (λ at. with_room full refused (made at))
  where
    with_room : (f : Option ℕ) → ((live : ℕ) → f ≡ Some live → P (stays replica (Full live))) → P reaction → P (unless_full f replica reaction)
    with_room None refused made = made
    with_room (Some live) refused made =
        cond_both (nat_lt reaction.drops reaction.adds) (stays replica (Full live)) reaction P (λ more. refused live refl) (λ same. made)

module _ (code : Code) (m seat : ℕ) where
  -- the part after each kind of request
  ordered_after : (full : Option ℕ) (replica : Replica) (t : Stamp) → IsAfter code m seat replica (Order t) (ordered full replica t).replica
  ordered_after full replica t =
      change_cases (λ (z : Reaction). IsAfter code m seat replica (Order t) z.replica) full replica t (promised replica t Ordered)
      (λ below. inl refl) (λ live is. inl refl)
      (λ at. inr (inl (record { stamp = t; request_is = inl refl; above = at; next_is = refl })))

  order_read_after : (full : Option ℕ) (replica : Replica) (t : Stamp) (look : Look) (want : Want) (wanted : Bool)
      → IsAfter code m seat replica (OrderRead t look want) (order_read full replica t look wanted).replica
  order_read_after full replica t look want wanted =
      change_cases (λ (z : Reaction). IsAfter code m seat replica (OrderRead t look want) z.replica) full replica t
      (promised replica t (OrderedRead (told_version wanted (looked_up look replica.log))))
      (λ below. inl refl) (λ live is. inl refl)
      (λ at. inr (inl (record { stamp = t; request_is = inr (look, want, refl); above = at; next_is = refl })))

  written_after : (full : Option ℕ) (replica : Replica) (t : Stamp) (block : List ℕ)
      → IsAfter code m seat replica (Write t block) (written full replica t block).replica
  written_after full replica t block =
      cond_both (is_held t replica.log) (stays replica Stored) _ (λ (z : Reaction). IsAfter code m seat replica (Write t block) z.replica)
      (λ held. inl refl)
      (λ isnt. change_cases (λ (z : Reaction). IsAfter code m seat replica (Write t block) z.replica) full replica t (stored replica t block)
      (λ below. inl refl) (λ live is. inl refl)
      (λ at. inr (inr (inl (record { stamp = t; block = block; request_is = inl refl; above = at; next_is = refl })))))

  -- what a modification comes to, by the newest version
  pub modified_each : (P : Reaction → Type 0) (full : Option ℕ) (replica : Replica) (t base : Stamp) (j : ℕ) (delta : List ℕ)
      → P (stays replica Stored) → (stamp_below t (top_of replica) ≡ true → P (stays replica (Later (top_of replica))))
      → ((newest : Option Stamp) → P (stays replica (Behind newest))) → ((live : ℕ) → full ≡ Some live → P (stays replica (Full live)))
      → (stamp_below t (top_of replica) ≡ false → (old : Version) → newest_of replica.log ≡ Some old → old.stamp ≡ base
      → P (stored replica t (modified_block code m j seat delta old.block)))
      → P (modified code m full seat replica t base j delta)
  modified_each P full replica t base j delta held later behind refused made =
      cond_both (is_held t replica.log) (stays replica Stored) _ P (λ is. held)
      (λ isnt. cond_both (stamp_below t (top_of replica)) (stays replica (Later (top_of replica)))
      (modified_on code m full seat replica t base j delta (newest_of replica.log)) P later
      (λ at. on (newest_of replica.log) refl at))
    where
      with_room : (f : Option ℕ) → full ≡ f → (reaction : Reaction) → P reaction → P (unless_full f replica reaction)
      with_room None is reaction goes = goes
      with_room (Some live) is reaction goes =
          cond_both (nat_lt reaction.drops reaction.adds) (stays replica (Full live)) reaction P (λ more. refused live is) (λ same. goes)

      on : (z : Option Version) → newest_of replica.log ≡ z → stamp_below t (top_of replica) ≡ false
          → P (modified_on code m full seat replica t base j delta z)
      on None is at = behind None
      on (Some old) is at =
          cond_both (stamp_same old.stamp base) (unless_full full replica (stored replica t (modified_block code m j seat delta old.block)))
          (stays replica (Behind (Some old.stamp))) P
          (λ same. with_room full refl (stored replica t (modified_block code m j seat delta old.block)) (made at old is (stamp_same_true old.stamp base same)))
          (λ other. behind (Some old.stamp))

  modified_after : (full : Option ℕ) (replica : Replica) (t base : Stamp) (j : ℕ) (delta : List ℕ)
      → IsAfter code m seat replica (Modify t base j delta) (modified code m full seat replica t base j delta).replica
  modified_after full replica t base j delta =
      modified_each (λ (z : Reaction). IsAfter code m seat replica (Modify t base j delta) z.replica) full replica t base j delta
      (inl refl) (λ below. inl refl) (λ newest. inl refl) (λ live is. inl refl)
      (λ at old is same.
      let request : Modify t base j delta ≡ Modify t old.stamp j delta = ap (λ (u : Stamp). Modify t u j delta) (sym same) in
      inr (inr (inl (record {
        stamp = t;
        block = modified_block code m j seat delta old.block;
        request_is = inr (old, j, delta, request, is, refl);
        above = at;
        next_is = refl;
      }))))

  collected_after : (replica : Replica) (c : Stamp) → IsAfter code m seat replica (Collect c) (collected replica c).replica
  collected_after replica c =
      cond_both (is_held c replica.log) _ (ignored replica) (λ (z : Reaction). IsAfter code m seat replica (Collect c) z.replica)
      (λ held. inr (inr (inr (record { stamp = c; request_is = refl; held = held; next_is = refl }))))
      (λ isnt. inl refl)

  -- the part after a request
  pub handle_after : (full : Option ℕ) (replica : Replica) (request : Request)
      → IsAfter code m seat replica request (handle code m full seat replica request).replica
  unfolding handle
  handle_after full replica (Read want) = inl refl
  handle_after full replica (Order t) = ordered_after full replica t
  handle_after full replica (Write t block) = written_after full replica t block
  handle_after full replica (OrderRead t look want) = order_read_after full replica t look want (is_wanted want seat)
  handle_after full replica (Modify t base j delta) = modified_after full replica t base j delta
  handle_after full replica (Collect t) = collected_after replica t
  handle_after full replica (OldRead bound) = inl refl
  handle_after full replica (Prepare ballot) = inl refl
  handle_after full replica (Accept ballot members) = inl refl

-- a version is told as it is kept, or without its bytes where these are not wanted
abbrev pub IsTold : Bool → Option Version → Option Version → Type 0
IsTold wanted None kept = kept ≡ None
IsTold wanted (Some version) kept =
    (old : Version) × (kept ≡ Some old) × (version.stamp ≡ old.stamp) × ((version.block ≡ []) ⊎ (version.block ≡ old.block))
    × (wanted ≡ true → version.block ≡ old.block)

-- A member that promised t told the version that it was to look for.
abbrev pub FoundBelow : ℕ → Replica → Request → Replica → Option Version → Stamp → Type 0
FoundBelow seat replica request next found t =
    (look : Look) × (want : Want) × (request ≡ OrderRead t look want) × (stamp_below t (top_of replica) ≡ false) × (next ≡ with_order replica t)
    × IsTold (is_wanted want seat) found (looked_up look replica.log)

-- What the reply of a member of this seat tells of its part before and after the request, and of how many live records it keeps, where those are as many as it may.
abbrev pub ReactionSays : ℕ → Option ℕ → Replica → Request → Replica → Reply → Type 0
ReactionSays seat full replica request next (Found order (Some version)) =
    (want : Want) × (request ≡ Read want) × IsTold (is_wanted want seat) (Some version) (newest_of replica.log) × (order ≡ replica.order) × (next ≡ replica)
ReactionSays seat full replica request next Ordered =
    (t : Stamp) × (request ≡ Order t) × (stamp_below t (top_of replica) ≡ false) × (top_of next ≡ t)
ReactionSays seat full replica request next (OrderedRead found) = (t : Stamp) × FoundBelow seat replica request next found t
ReactionSays seat full replica request next Stored = (t : Stamp) × (stamp_stored request ≡ Some t) × (is_held t next.log ≡ true)
ReactionSays seat full replica request next (Later x) = (t : Stamp) × (stamp_asked request ≡ Some t) × (stamp_below t x ≡ true)
ReactionSays seat full replica request next (Full live) = full ≡ Some live
ReactionSays seat full replica request next (Reply.Old found) = ⊥
ReactionSays seat full replica request next reply = Unit {0}

-- of a reply, if there is one
abbrev pub SaysIf : ℕ → Option ℕ → Replica → Request → Replica → Option Reply → Type 0
SaysIf seat full replica request next None = Unit {0}
SaysIf seat full replica request next (Some reply) = ReactionSays seat full replica request next reply

-- a version that was just stored is held
held_grown : (log : List Version) (version : Version) → is_held version.stamp (log ++ (version ∷ [])) ≡ true
held_grown [] version = or_left (stamp_same version.stamp version.stamp) false (stamp_same_refl version.stamp)
held_grown (x ∷ log) version = or_right (stamp_same x.stamp version.stamp) (is_held version.stamp (log ++ (version ∷ []))) (held_grown log version)

-- what was held is held when the log has grown
pub held_kept : (t : Stamp) (log more : List Version) → is_held t log ≡ true → is_held t (log ++ more) ≡ true
held_kept t [] more held = absurd (false≢true held)
held_kept t (x ∷ log) more held = ⊎_elim
    (λ (here : stamp_same x.stamp t ≡ true). or_left (stamp_same x.stamp t) (is_held t (log ++ more)) here)
    (λ (there : is_held t log ≡ true). or_right (stamp_same x.stamp t) (is_held t (log ++ more)) (held_kept t log more there))
    (or_cases (stamp_same x.stamp t) (is_held t log) held)

-- what each kind of reply tells
ordered_says : (seat : ℕ) (full : Option ℕ) (replica : Replica) (t : Stamp)
    → SaysIf seat full replica (Order t) (ordered full replica t).replica (ordered full replica t).reply
ordered_says seat full replica t =
    change_cases (λ (z : Reaction). SaysIf seat full replica (Order t) z.replica z.reply) full replica t (promised replica t Ordered)
    (λ below. (t, refl, below)) (λ live is. is)
    (λ at. (t, refl, at, top_promised replica t at))

-- what is told of a version
told_is : (wanted : Bool) (kept : Option Version) → IsTold wanted (told_version wanted kept) kept
told_is wanted None = refl
told_is true (Some version) = (version, refl, refl, inr refl, λ _. refl)
told_is false (Some version) = (version, refl, refl, inl refl, λ wanted. absurd (false≢true wanted))

order_read_says : (full : Option ℕ) (replica : Replica) (t : Stamp) (look : Look) (want : Want) (seat : ℕ)
    → SaysIf seat full replica (OrderRead t look want) (order_read full replica t look (is_wanted want seat)).replica
    (order_read full replica t look (is_wanted want seat)).reply
order_read_says full replica t look want seat =
    change_cases (λ (z : Reaction). SaysIf seat full replica (OrderRead t look want) z.replica z.reply) full replica t
    (promised replica t (OrderedRead (told_version (is_wanted want seat) (looked_up look replica.log))))
    (λ under. (t, refl, under)) (λ live is. is)
    (λ at. (t, (look, want, refl, at, refl, told_is (is_wanted want seat) (looked_up look replica.log))))

written_says : (seat : ℕ) (full : Option ℕ) (replica : Replica) (t : Stamp) (block : List ℕ)
    → SaysIf seat full replica (Write t block) (written full replica t block).replica (written full replica t block).reply
written_says seat full replica t block =
    cond_both (is_held t replica.log) (stays replica Stored) _ (λ (z : Reaction). SaysIf seat full replica (Write t block) z.replica z.reply)
    (λ held. (t, refl, held))
    (λ isnt. change_cases (λ (z : Reaction). SaysIf seat full replica (Write t block) z.replica z.reply) full replica t (stored replica t block)
    (λ below. (t, refl, below)) (λ live is. is)
    (λ at. (t, refl, held_grown replica.log (record { stamp = t; block = block }))))

modified_says : (code : Code) (m seat : ℕ) (full : Option ℕ) (replica : Replica) (t base : Stamp) (j : ℕ) (delta : List ℕ)
    → SaysIf seat full replica (Modify t base j delta) (modified code m full seat replica t base j delta).replica
    (modified code m full seat replica t base j delta).reply
modified_says code m seat full replica t base j delta =
    cond_both (is_held t replica.log) (stays replica Stored) (cond (stamp_below t (top_of replica)) (stays replica (Later (top_of replica)))
    (modified_on code m full seat replica t base j delta (newest_of replica.log)))
    (λ (z : Reaction). SaysIf seat full replica (Modify t base j delta) z.replica z.reply)
    (λ held. (t, refl, held))
    (λ isnt. cond_both (stamp_below t (top_of replica)) (stays replica (Later (top_of replica)))
    (modified_on code m full seat replica t base j delta (newest_of replica.log))
    (λ (z : Reaction). SaysIf seat full replica (Modify t base j delta) z.replica z.reply)
    (λ below. (t, refl, below)) (λ at. on (newest_of replica.log)))
  where
    with_room : (f : Option ℕ) → (block : List ℕ)
        → SaysIf seat f replica (Modify t base j delta) (unless_full f replica (stored replica t block)).replica (unless_full f replica (stored replica t block)).reply
    with_room None block = (t, refl, held_grown replica.log (record { stamp = t; block = block }))
    with_room (Some live) block = refl

    on : (z : Option Version) → SaysIf seat full replica (Modify t base j delta) (modified_on code m full seat replica t base j delta z).replica
        (modified_on code m full seat replica t base j delta z).reply
    on None = tt
    on (Some old) =
        cond_both (stamp_same old.stamp base) (unless_full full replica (stored replica t (modified_block code m j seat delta old.block)))
        (stays replica (Behind (Some old.stamp))) (λ (z : Reaction). SaysIf seat full replica (Modify t base j delta) z.replica z.reply)
        (λ same. with_room full (modified_block code m j seat delta old.block)) (λ other. tt)

-- what is told of the newest version
told_newest : (seat : ℕ) (full : Option ℕ) (replica : Replica) (want : Want) (newest : Option Version) → newest_of replica.log ≡ newest
    → SaysIf seat full replica (Read want) replica (Some (Found replica.order (told_version (is_wanted want seat) newest)))
told_newest seat full replica want None is = tt
told_newest seat full replica want (Some version) is =
    by (told_version (is_wanted want seat) (Some version))
    (subst (λ (kept : Option Version). IsTold (is_wanted want seat) (told_version (is_wanted want seat) (Some version)) kept) (sym is)
    (told_is (is_wanted want seat) (Some version)))
  where
    by : (told : Option Version) → IsTold (is_wanted want seat) told (newest_of replica.log) → SaysIf seat full replica (Read want) replica (Some (Found replica.order told))
    by None told = tt
    by (Some found) told = (want, refl, told, refl, refl)

-- what the reply to a request tells
pub handle_says : (code : Code) (m : ℕ) (full : Option ℕ) (seat : ℕ) (replica : Replica) (request : Request)
    → SaysIf seat full replica request (handle code m full seat replica request).replica (handle code m full seat replica request).reply
unfolding handle
handle_says code m full seat replica (Read want) = told_newest seat full replica want (newest_of replica.log) refl
handle_says code m full seat replica (Order t) = ordered_says seat full replica t
handle_says code m full seat replica (Write t block) = written_says seat full replica t block
handle_says code m full seat replica (OrderRead t look want) = order_read_says full replica t look want seat
handle_says code m full seat replica (Modify t base j delta) = modified_says code m seat full replica t base j delta
handle_says code m full seat replica (Collect t) =
    cond_both (is_held t replica.log) _ (ignored replica) (λ (z : Reaction). SaysIf seat full replica (Collect t) z.replica z.reply) (λ held. tt) (λ isnt. tt)
handle_says code m full seat replica (OldRead bound) = tt
handle_says code m full seat replica (Prepare ballot) = tt
handle_says code m full seat replica (Accept ballot members) = tt

-- the top is as before once the lowest versions were dropped
top_collected : (replica : Replica) (c : Stamp) → LogAscends replica.log → is_held c replica.log ≡ true
    → top_of (with_least replica c) ≡ top_of replica
top_collected replica c ascends held =
    let same : newest_of (among (at_least c) replica.log) ≡ newest_of replica.log = newest_kept c replica.log ascends held in
    ⊎_elim
    (λ (some : (version : Version) × (newest_of replica.log ≡ Some version)).
    top_is (with_least replica c) some.0 (same ∙ some.1) ∙ sym (top_is replica some.0 some.1))
    (λ (none : newest_of replica.log ≡ None).
    top_is_order (with_least replica c) (same ∙ none) ∙ sym (top_is_order replica none))
    (newest_cases replica.log)

-- a request does not lower the top
pub after_top : (code : Code) (m seat : ℕ) (replica : Replica) (request : Request) (next : Replica) → LogAscends replica.log
    → IsAfter code m seat replica request next → stamp_below (top_of next) (top_of replica) ≡ false
after_top code m seat replica request next ascends (inl same) = subst (λ (z : Replica). stamp_below (top_of z) (top_of replica) ≡ false) (sym same)
    (stamp_below_irrefl (top_of replica))
after_top code m seat replica request next ascends (inr (inl p)) =
    let top : top_of next ≡ p.stamp = ap (λ z. top_of z) p.next_is ∙ top_promised replica p.stamp p.above in
    subst (λ (z : Stamp). stamp_below z (top_of replica) ≡ false) (sym top) p.above
after_top code m seat replica request next ascends (inr (inr (inl p))) =
    let top : top_of next ≡ p.stamp = ap (λ z. top_of z) p.next_is ∙ top_written replica p.stamp p.block p.above in
    subst (λ (z : Stamp). stamp_below z (top_of replica) ≡ false) (sym top) p.above
after_top code m seat replica request next ascends (inr (inr (inr p))) =
    subst (λ (z : Stamp). stamp_below z (top_of replica) ≡ false) (sym (ap (λ z. top_of z) p.next_is ∙ top_collected replica p.stamp ascends p.held))
    (stamp_below_irrefl (top_of replica))

-- a log that grew keeps what it kept
kept_more : (t : Stamp) (log more : List Version) → IsKept t log → IsKept t (log ++ more)
kept_more t log more (inl held) = inl (held_kept t log more held)
kept_more t [] more (inr under) = absurd under
kept_more t (x ∷ log) more (inr under) = inr under

-- a request drops only what is below all that is left
pub after_kept : (code : Code) (m seat : ℕ) (replica : Replica) (request : Request) (next : Replica) (t : Stamp) → LogAscends replica.log
    → IsAfter code m seat replica request next → IsKept t replica.log → IsKept t next.log
after_kept code m seat replica request next t ascends (inl same) kept = subst (λ (z : Replica). IsKept t z.log) (sym same) kept
after_kept code m seat replica request next t ascends (inr (inl p)) kept = subst (λ (z : Replica). IsKept t z.log) (sym p.next_is) kept
after_kept code m seat replica request next t ascends (inr (inr (inl p))) kept =
    subst (λ (z : Replica). IsKept t z.log) (sym p.next_is) (kept_more t replica.log (record { stamp = p.stamp; block = p.block } ∷ []) kept)
after_kept code m seat replica request next t ascends (inr (inr (inr p))) kept =
    subst (λ (z : Replica). IsKept t z.log) (sym p.next_is) (kept_from p.stamp t replica.log ascends p.held kept)

-- the lowest version of a log that is not empty stays, or is the one that a Collect names
pub after_lowest : (code : Code) (m seat : ℕ) (replica : Replica) (request : Request) (next : Replica) (y x : Version) (rest log : List Version)
    → LogAscends replica.log → IsAfter code m seat replica request next → replica.log ≡ y ∷ rest → next.log ≡ x ∷ log
    → ((more : List Version) × (replica.log ≡ x ∷ more)) ⊎ (request ≡ Collect x.stamp)
after_lowest code m seat replica request next y x rest log ascends (inl same) was is = inl (log, sym (ap (λ z. z.log) same) ∙ is)
after_lowest code m seat replica request next y x rest log ascends (inr (inl p)) was is = inl (log, sym (ap (λ z. z.log) p.next_is) ∙ is)
after_lowest code m seat replica request next y x rest log ascends (inr (inr (inl p))) was is =
    let grown : (y ∷ rest) ++ (record { stamp = p.stamp; block = p.block } ∷ []) ≡ x ∷ log
    = ap (λ (l : List Version). l ++ (record { stamp = p.stamp; block = p.block } ∷ [])) (sym was) ∙ sym (ap (λ z. z.log) p.next_is) ∙ is in
    let same : y ≡ x = cc in
    inl (rest, was ∙ ap (λ (z : Version). z ∷ rest) same)
after_lowest code m seat replica request next y x rest log ascends (inr (inr (inr p))) was is =
    let stamp : x.stamp ≡ p.stamp = lowest_from p.stamp replica.log x log ascends p.held (sym (ap (λ z. z.log) p.next_is) ∙ is) in
    inr (p.request_is ∙ ap Collect (sym stamp))

-- what is held is at most the top
pub held_top : (replica : Replica) (d : Stamp) → LogAscends replica.log → is_held d replica.log ≡ true → stamp_below (top_of replica) d ≡ false
held_top replica d ascends held = within (newest_of replica.log) refl
  where
    within : (z : Option Version) → newest_of replica.log ≡ z → stamp_below (top_of replica) d ≡ false
    within None is = absurd (subst (λ (z : Option Version). IsWithin z d) is (newest_greatest d replica.log ascends held))
    within (Some version) is =
        stamp_not_below_trans d version.stamp (top_of replica)
        (subst (λ (z : Option Version). IsWithin z d) is (newest_greatest d replica.log ascends held)) (top_newest replica version is)

-- what is below all of a log is below the top
pub under_top : (replica : Replica) (d : Stamp) → LogAscends replica.log → IsUnder d replica.log → stamp_below d (top_of replica) ≡ true
under_top replica d ascends under = at replica.log refl under
  where
    at : (log : List Version) → replica.log ≡ log → IsUnder d log → stamp_below d (top_of replica) ≡ true
    at [] is under = absurd under
    at (x ∷ log) is under =
        below_above d x.stamp (top_of replica) under
        (held_top replica x.stamp ascends (subst (λ (l : List Version). is_held x.stamp l ≡ true) (sym is)
        (or_left (stamp_same x.stamp x.stamp) (is_held x.stamp log) (stamp_same_refl x.stamp))))

-- after a request a log goes on ascending
pub after_ascends : (code : Code) (m seat : ℕ) (replica : Replica) (request : Request) (next : Replica) → IsAfter code m seat replica request next → LogAscends replica.log
    → LogAscends next.log
after_ascends code m seat replica request next (inl same) ascends = subst (λ (z : Replica). LogAscends z.log) (sym same) ascends
after_ascends code m seat replica request next (inr (inl p)) ascends = subst (λ (z : Replica). LogAscends z.log) (sym p.next_is) ascends
after_ascends code m seat replica request next (inr (inr (inr p))) ascends =
    subst (λ (z : Replica). LogAscends z.log) (sym p.next_is) (among_ascends (at_least p.stamp) replica.log ascends)
after_ascends code m seat replica request next (inr (inr (inl p))) ascends =
    subst (λ (z : Replica). LogAscends z.log) (sym p.next_is)
    (ascends_more replica.log (record { stamp = p.stamp; block = p.block }) ascends
    (λ d held. stamp_not_below_trans d (top_of replica) p.stamp (held_top replica d ascends held) p.above))

-- an order asks for its stamp, and what has a block stored too
pub order_asked : (request : Request) (t : Stamp) → IsOrder request t → stamp_asked request ≡ Some t
order_asked request t (inl is) = ap stamp_asked is
order_asked request t (inr (look, want, is)) = ap stamp_asked is

pub store_asked : (code : Code) (m seat : ℕ) (replica : Replica) (request : Request) (t : Stamp) (block : List ℕ)
    → StoresBlock code m seat replica request t block → stamp_asked request ≡ Some t
store_asked code m seat replica request t block (inl is) = ap stamp_asked is
store_asked code m seat replica request t block (inr (old, j, delta, is, newest, block_is)) = ap stamp_asked is

-- what is held after a request was held, or it is what was asked for, and at or above the top
pub after_newer : (code : Code) (m seat : ℕ) (replica : Replica) (request : Request) (next : Replica) (t : Stamp) → IsAfter code m seat replica request next
    → is_held t next.log ≡ true
    → (is_held t replica.log ≡ true) ⊎ ((stamp_asked request ≡ Some t) × (stamp_below t (top_of replica) ≡ false))
after_newer code m seat replica request next t (inl same) held = inl (subst (λ (z : Replica). is_held t z.log ≡ true) same held)
after_newer code m seat replica request next t (inr (inl p)) held = inl (subst (λ (z : Replica). is_held t z.log ≡ true) p.next_is held)
after_newer code m seat replica request next t (inr (inr (inr p))) held =
    inl (among_held (at_least p.stamp) t replica.log (subst (λ (z : Replica). is_held t z.log ≡ true) p.next_is held))
after_newer code m seat replica request next t (inr (inr (inl p))) held = ⊎_elim
    (λ (old : is_held t replica.log ≡ true). inl old)
    (λ (new : p.stamp ≡ t). inr (
      store_asked code m seat replica request p.stamp p.block p.request_is ∙ ap (λ (z : Stamp). Some z) new,
      subst (λ (z : Stamp). stamp_below z (top_of replica) ≡ false) new p.above,
    ))
    (held_more t replica.log (record { stamp = p.stamp; block = p.block }) (subst (λ (z : Replica). is_held t z.log ≡ true) p.next_is held))

-- the order stamp is as before, or what was asked for, and at or above the top
pub after_order : (code : Code) (m seat : ℕ) (replica : Replica) (request : Request) (next : Replica) → IsAfter code m seat replica request next
    → (next.order ≡ replica.order) ⊎ ((stamp_asked request ≡ Some next.order) × (stamp_below next.order (top_of replica) ≡ false))
after_order code m seat replica request next (inl same) = inl (ap (λ (z : Replica). z.order) same)
after_order code m seat replica request next (inr (inl p)) =
    let order : next.order ≡ p.stamp = ap (λ (z : Replica). z.order) p.next_is in
    inr (
      order_asked request p.stamp p.request_is ∙ ap (λ (z : Stamp). Some z) (sym order),
      subst (λ (z : Stamp). stamp_below z (top_of replica) ≡ false) (sym order) p.above,
    )
after_order code m seat replica request next (inr (inr (inl p))) = inl (ap (λ (z : Replica). z.order) p.next_is)
after_order code m seat replica request next (inr (inr (inr p))) = inl (ap (λ (z : Replica). z.order) p.next_is)

-- the top is as before, or the stamp that was asked for
pub after_asked : (code : Code) (m seat : ℕ) (replica : Replica) (request : Request) (next : Replica) → LogAscends replica.log
    → IsAfter code m seat replica request next → (top_of next ≡ top_of replica) ⊎ (stamp_asked request ≡ Some (top_of next))
after_asked code m seat replica request next ascends (inl same) = inl (ap (λ z. top_of z) same)
after_asked code m seat replica request next ascends (inr (inl p)) =
    let top : top_of next ≡ p.stamp = ap (λ z. top_of z) p.next_is ∙ top_promised replica p.stamp p.above in
    inr (order_asked request p.stamp p.request_is ∙ ap (λ (t : Stamp). Some t) (sym top))
after_asked code m seat replica request next ascends (inr (inr (inr p))) =
    inl (ap (λ z. top_of z) p.next_is ∙ top_collected replica p.stamp ascends p.held)
after_asked code m seat replica request next ascends (inr (inr (inl p))) =
    let top : top_of next ≡ p.stamp = ap (λ z. top_of z) p.next_is ∙ top_written replica p.stamp p.block p.above in
    inr (store_asked code m seat replica request p.stamp p.block p.request_is ∙ ap (λ (t : Stamp). Some t) (sym top))

-- a version in the log was there, or was stored
pub after_log : (code : Code) (m seat : ℕ) (replica : Replica) (request : Request) (next : Replica) (k : ℕ) (version : Version)
    → IsAfter code m seat replica request next
    → slice_get next.log k ≡ Some version
    → ((j : ℕ) × (slice_get replica.log j ≡ Some version)) ⊎ StoresBlock code m seat replica request version.stamp version.block
after_log code m seat replica request next k version (inl same) is = inl (k, subst (λ (z : Replica). slice_get z.log k ≡ Some version) same is)
after_log code m seat replica request next k version (inr (inl p)) is = inl (k, subst (λ (z : Replica). slice_get z.log k ≡ Some version) p.next_is is)
after_log code m seat replica request next k version (inr (inr (inr p))) is =
    inl (among_stands (at_least p.stamp) replica.log version k (subst (λ (z : Replica). slice_get z.log k ≡ Some version) p.next_is is))
after_log code m seat replica request next k version (inr (inr (inl p))) is =
    let grown : slice_get (replica.log ++ (record { stamp = p.stamp; block = p.block } ∷ [])) k ≡ Some version
    = subst (λ (z : Replica). slice_get z.log k ≡ Some version) p.next_is is in
    ⊎_elim
    (λ (old : slice_get replica.log k ≡ Some version). inl (k, old))
    (λ (new : (j : ℕ) × (slice_get (record { stamp = p.stamp; block = p.block } ∷ []) j ≡ Some version)).
    let same : record { stamp = p.stamp; block = p.block } ≡ version = get_one (record { stamp = p.stamp; block = p.block }) version new.0 new.1 in
    inr (subst (λ (z : Version). StoresBlock code m seat replica request z.stamp z.block) same p.request_is))
    (get_grown replica.log (record { stamp = p.stamp; block = p.block } ∷ []) k version grown)
